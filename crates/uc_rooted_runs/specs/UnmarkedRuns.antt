-- Runs in which nobody has to clean up anything around what goes: who runs has a name of its own.
use Rattle.std.specs.Prelude.{◌≡◌, ℕ, ◌≤◌, false, List, [], ◌++◌}
use Rattle.uc_tree.specs.Source.{Source}
use Rattle.uc_entry.specs.declared.entry.Entry.{Entry}
use Rattle.uc_entry.specs.declared.entry.Options.{Options}
use Rattle.uc_entry.specs.declared.request.Request.{Request}
use Rattle.uc_entry.specs.declared.request.Request.TheVariants as ask
use Rattle.uc_acts.specs.Journal.{Journal, is_over}
use Rattle.uc_acts.specs.Known.{task_count}
use Rattle.uc_acts.specs.Acts.{act}
use Rattle.uc_acts.specs.KernelRuns.{InRange}
use Rattle.uc_machine.specs.Pieces.{Object}
use Rattle.uc_meaning.specs.Runs.{World, May, Runs, world_after, gives, no_room, acts, begun, more}
use Rattle.uc_state_laws.specs.Fitting.{RunFits}
use Rattle.uc_state_laws.specs.Opens.{RunMeets}
use Rattle.uc_name_laws.specs.NameSteps as names
use Rattle.uc_life_laws.specs.RunningRuns.{RunLeaves}
use Rattle.uc_typing.specs.Typing.{Table}
use Rattle.uc_life_laws.specs.Things.{Few}
use Rattle.uc_life_laws.specs.OwnNames as own
use Rattle.uc_life_laws.specs.Belonging.{Belongs}
use Rattle.uc_life_laws.specs.Marks.{Puts}
use Rattle.uc_life_laws.specs.Unmarked.{Unmarked}

module _ (t : Table) (few : Few) where
  -- behind an act of task u by which an object goes: that was at home in what is the own of who runs there, whose name is its own, and nobody has to
  -- clean up that in which it was
  pub record IsLeft (j : Journal) (x : World) (u o : ℕ) : Type 0 where
    pub belongs : Belongs few (x.tasks u).env.exec (few.home o)
    pub name : own.HasOwnName j x u
    pub unmarked : Unmarked t few o x
    -- tasks that are not spawned yet are as task 0 began
    pub none_waits : (v : ℕ) → task_count j ≤ v → (x.tasks v).callers ≡ []
    pub first_object : (v : ℕ) → task_count j ≤ v → (x.tasks v).run.this ≡ Object 0

  abbrev pub LeftBehind : Journal → World → ℕ → Request → Type 0
  LeftBehind j x u (ask.Gone o) = IsLeft j x u o
  LeftBehind j x u q = Unit {0}

  module _ (source : Source) where
    abbrev pub MayLeave : (opts : Options) (input : List ℕ) (j : Journal) (w : World) (a : List Entry) (x : World) →
        May source opts input j w a x → Type 0
    MayLeave opts input j w _ _ (gives p n s h) = Unit {0}
    MayLeave opts input j w _ _ (no_room p n s h) = Unit {0}
    MayLeave opts input j w _ _ (acts p n k s asked d) =
        LeftBehind (j ++ act opts source.sites input j p n k asked) (world_after source (act opts source.sites input j p n k asked) w n s) n asked.request

    -- and behind each such act of a run
    abbrev pub RunLeft : (input : List ℕ) (opts : Options) (j : Journal) (w : World) →
        Runs source input opts j w → Type 0
    RunLeft input opts _ _ begun = Unit {0}
    RunLeft input opts _ _ (more {j} {w} {a} {w' = x} r o m) = RunLeft input opts j w r ×
        MayLeave opts input j w a x m

-- so it is in each run in which all that was asked so far fits, of whatever source, as long as marks are put for what is an execution's own, no step
-- forgets the running execution, and nobody leaves its home for good
abbrev pub LawUnmarkedRuns : Type 0
LawUnmarkedRuns =
    (t : Table) (few : Few) (source : Source) (input : List ℕ) (opts : Options) (j : Journal) (w : World)
    (r : Runs source input opts j w) → InRange opts → RunFits source input opts j w r → is_over j ≡ false →
    RunLeaves source input opts j w r → RunMeets names.Spares source input opts j w r →
    RunMeets (Puts t few) source input opts j w r → RunLeft t few source input opts j w r
