-- Runs in which nobody has at hand what has gone, where activations have their objects and are told of them.
use Rattle.std.specs.Prelude.{◌≡◌, ℕ, false, List, ◌++◌}
use Rattle.uc_tree.specs.Source.{Source}
use Rattle.uc_entry.specs.declared.entry.Entry.{Entry}
use Rattle.uc_entry.specs.declared.entry.Options.{Options}
use Rattle.uc_entry.specs.declared.request.Request.{Request}
use Rattle.uc_entry.specs.declared.request.Request.TheVariants as ask
use Rattle.uc_acts.specs.Journal.{Journal, is_over}
use Rattle.uc_acts.specs.Acts.{act}
use Rattle.uc_acts.specs.KernelRuns.{InRange}
use Rattle.uc_machine.specs.declared.exec.Exec.{Exec}
use Rattle.uc_machine.specs.Pieces.{Value, Active}
use Rattle.uc_meaning.specs.Runs.{World, May, Runs, world_after, gives, no_room, acts, begun, more}
use Rattle.uc_state_laws.specs.Fitting.{RunFits}
use Rattle.uc_state_laws.specs.Opens.{RunMeets}
use Rattle.uc_name_laws.specs.NameSteps as names
use Rattle.uc_typing.specs.Typing.{Ty, Table}
use Rattle.uc_life_laws.specs.RunningRuns.{RunLeaves}
use Rattle.uc_life_laws.specs.Things.{Few, Base, Things}
use Rattle.uc_life_laws.specs.Belonging.{Belongs}
use Rattle.uc_life_laws.specs.Marks.{Puts}
use Rattle.uc_life_laws.specs.Lasting.{RunForgets}
use Rattle.uc_life_laws.specs.Rooted.{IsBase, Lives}
use Rattle.uc_apart_laws.specs.Clear.{IsNoHome}
use Rattle.uc_rooted_runs.specs.Binds.{BindsOwn}
use Rattle.uc_rooted_runs.specs.Mains.{CallsNoMain, FindsAll}
use Rattle.uc_depth_laws.specs.Owing.{owed_waiting}
use Rattle.uc_making_laws.specs.OwnThis.{FindsThis}
use Rattle.uc_making_laws.specs.LettingGo.{FindsTold}

-- what holds behind each act of a run by which an object goes: of the journal before, the act, the world behind, the task that acts, and the object
module _ (P : Journal → List Entry → World → ℕ → ℕ → Type 0) where
  abbrev pub GoesBy : Journal → List Entry → World → ℕ → Request → Type 0
  GoesBy j a x u (ask.Gone o) = P j a x u o
  GoesBy j a x u q = Unit {0}

  module _ (source : Source) (input : List ℕ) (opts : Options) where
    abbrev pub MayGo : {j : Journal} {w : World} {a : List Entry} {x : World} → May source opts input j w a x → Type 0
    MayGo (gives p n s h) = Unit {0}
    MayGo (no_room p n s h) = Unit {0}
    MayGo {j} {w} (acts p n k s asked d) =
        GoesBy j (act opts source.sites input j p n k asked) (world_after source (act opts source.sites input j p n k asked) w n s) n asked.request

    abbrev pub RunGoes : {j : Journal} {w : World} → Runs source input opts j w → Type 0
    RunGoes begun = Unit {0}
    RunGoes (more r o m) = RunGoes r × MayGo m

module _ (t : Table) (few : Few) where
  -- nobody who lives behind the act has at hand that in which the object was at home
  pub record IsLeftNowhere (j : Journal) (a : List Entry) (x : World) (u o : ℕ) : Type 0 where
    pub nowhere : (n : Exec) (cs : List Active) → Lives (j ++ a) x n cs → IsNoHome t few o (Things t few n cs)

-- of the task that acts, those of its activations that wait are not to let go of the object
abbrev pub IsOwedNothing : Journal → List Entry → World → ℕ → ℕ → Type 0
IsOwedNothing j a x u o = owed_waiting o (x.tasks u).callers ≡ 0

-- then nobody has at hand what has gone, as long as all that was asked so far fits, what executions have of others are places, or objects that are not whole, no step binds what stands in
-- a frame of another one, forgets the running one or calls a main, routines are there, unwindings have reasons, nobody leaves its home for good, marks are
-- put for what is an execution's own, object 0 is at home in nobody's own, what is called, made and spawned is had, and told of or let go of by what is called
abbrev pub LawForgetsThis : Type 0
LawForgetsThis =
    (t : Table) (few : Few) (source : Source) (input : List ℕ) (opts : Options) (j : Journal) (w : World)
    (r : Runs source input opts j w) → InRange opts → RunFits source input opts j w r → is_over j ≡ false →
    ((n : Exec) (w : Value) (b : Ty) → Base few n w b → IsBase w b) →
    ((n : Exec) → Belongs few n (few.home 0) → ⊥) →
    RunMeets (BindsOwn source) source input opts j w r →
    RunMeets (CallsNoMain source) source input opts j w r →
    RunMeets (FindsAll source) source input opts j w r →
    RunLeaves source input opts j w r → RunMeets names.Spares source input opts j w r →
    RunMeets (Puts t few) source input opts j w r →
    RunMeets (FindsThis t few source) source input opts j w r →
    RunMeets (FindsTold t few source) source input opts j w r →
    RunGoes (IsLeftNowhere t few) source input opts r → RunGoes IsOwedNothing source input opts r →
    RunForgets t few source input opts j w r
