-- Runs in which at each act by which an object goes what executions have of others stands in what those have.
use Rattle.std.specs.Prelude.{◌≡◌, ℕ, Bool, false, List}
use Rattle.uc_tree.specs.Source.{Source}
use Rattle.uc_entry.specs.declared.entry.Entry.{Entry}
use Rattle.uc_entry.specs.declared.entry.Options.{Options}
use Rattle.uc_entry.specs.declared.request.Request.{Request}
use Rattle.uc_entry.specs.declared.request.Request.TheVariants as ask
use Rattle.uc_acts.specs.Journal.{Journal, is_over}
use Rattle.uc_acts.specs.Acts.{act}
use Rattle.uc_acts.specs.KernelRuns.{InRange}
use Rattle.uc_machine.specs.declared.exec.Exec.{Exec}
use Rattle.uc_machine.specs.Pieces.{Value, Active}
use Rattle.uc_meaning.specs.Runs.{World, May, Runs, world_after, gives, no_room, acts, begun, more}
use Rattle.uc_state_laws.specs.Fitting.{RunFits}
use Rattle.uc_state_laws.specs.Opens.{RunMeets}
use Rattle.uc_typing.specs.Typing.{Ty, Table}
use Rattle.uc_life_laws.specs.Things.{Few, Base}
use Rattle.uc_life_laws.specs.Lasting.{RunForgets}
use Rattle.uc_life_laws.specs.Rooted.{IsBase, Rooted}
use Rattle.uc_rooted_runs.specs.FreshStates.{KeepsFresh}

-- behind an act by which an object goes
abbrev pub RootsAt : Table → Few → (Exec → Value → Ty → Bool) → (Exec → List Active → Value → Ty → Bool) → (Exec → ℕ) →
    Journal → List Entry → World → Request → Type 0
RootsAt t few own yet rank j a x (ask.Gone o) = Rooted t few j a x own yet rank o
RootsAt t few own yet rank j a x r = Unit {0}

module _ (t : Table) (few : Few) (own : Exec → Value → Ty → Bool) (yet : Exec → List Active → Value → Ty → Bool) (rank : Exec → ℕ) (source : Source) where
  abbrev pub MayRoot : (opts : Options) (input : List ℕ) (j : Journal) (w : World) (a : List Entry) (x : World) →
      May source opts input j w a x → Type 0
  MayRoot opts input j w _ _ (gives p n s h) = Unit {0}
  MayRoot opts input j w _ _ (no_room p n s h) = Unit {0}
  MayRoot opts input j w _ _ (acts p n k s asked d) =
      RootsAt t few own yet rank j (act opts source.sites input j p n k asked) (world_after source (act opts source.sites input j p n k asked) w n s) asked.request

  -- and behind each such act of a run
  abbrev pub RunRoots : (input : List ℕ) (opts : Options) (j : Journal) (w : World) →
      Runs source input opts j w → Type 0
  RunRoots input opts _ _ begun = Unit {0}
  RunRoots input opts _ _ (more {j} {w} {a} {w' = x} r o m) = RunRoots input opts j w r ×
      MayRoot opts input j w a x m

-- then nobody has at hand what has gone, as long as all that was asked so far fits, what executions have of others are places, or objects that are not whole, no step binds what
-- stands in a frame of one that has not begun, and ends leave no marks
abbrev pub LawForgetting : Type 0
LawForgetting =
    (t : Table) (few : Few) (own : Exec → Value → Ty → Bool) (yet : Exec → List Active → Value → Ty → Bool)
    (rank : Exec → ℕ) (source : Source) (input : List ℕ) (opts : Options) (j : Journal) (w : World)
    (r : Runs source input opts j w) → InRange opts → RunFits source input opts j w r → is_over j ≡ false →
    ((n : Exec) (w : Value) (b : Ty) → Base few n w b → IsBase w b) →
    RunMeets (KeepsFresh source) source input opts j w r →
    RunRoots t few own yet rank source input opts j w r → RunForgets t few source input opts j w r
