-- Runs in which nobody has at hand what has gone: all that an execution knows is not gone.
use Rattle.std.specs.Prelude.{◌≡◌, ℕ, ℤ, Bool, false, List, [], ◌++◌, if◌then◌else◌}
use Rattle.uc_tree.specs.Programs.{Program}
use Rattle.uc_tree.specs.Source.{Source}
use Rattle.uc_entry.specs.declared.entry.Entry.{Entry}
use Rattle.uc_entry.specs.declared.entry.Options.{Options}
use Rattle.uc_entry.specs.declared.request.Request.{Request}
use Rattle.uc_entry.specs.declared.request.Request.TheVariants as ask
use Rattle.uc_acts.specs.Journal.{Journal, is_over}
use Rattle.uc_acts.specs.Known.{has_ended, is_gone}
use Rattle.uc_acts.specs.Acts.{act}
use Rattle.uc_acts.specs.KernelRuns.{InRange}
use Rattle.uc_machine.specs.declared.exec.Home.TheVariants.{Object}
use Rattle.uc_machine.specs.Quiet.{State, Asks, quiet}
use Rattle.uc_machine.specs.Answering.{answered}
use Rattle.uc_meaning.specs.Runs.{World, May, Runs, drawn, world_after, gives, no_room, acts, begun, more}
use Rattle.uc_state_laws.specs.Fitting.{RunFits}
use Rattle.uc_resolve.specs.Resolve.{source_of}
use Rattle.uc_rules.specs.Breaks.{breaks_of}
use Rattle.uc_state_laws.specs.RoomRuns.{Comes}
use Rattle.uc_state_laws.specs.Opens.{MayMeet, LeadsMeet}
use Rattle.uc_typing.specs.Typing.{Ty, Num, Cell, Obj, Raw, Row, Clu, Pro, Table}
use Rattle.uc_sound.specs.SoundFormed.{IsFormed}
use Rattle.uc_sound.specs.Tables.{table_of}
use Rattle.uc_life_laws.specs.Things.{Few}
use Rattle.uc_life_laws.specs.LifeStates.{MembersBy}
use Rattle.uc_life_laws.specs.Knowing.{KnowsState}
use Rattle.uc_life_laws.specs.KnownAnswers.{MainPasses}
use Rattle.uc_life_laws.specs.KnownRuns.{PassesBelow, Meets, AllIsKnown}
use Rattle.uc_life_laws.specs.Fewer.{ExLasts, RunLasts, TaskLasts}

-- mutex objects that are gone have no number any more; what is not whole keeps its own
abbrev pub lasting_numbers : (Ty → ℕ → Bool) → Journal → Ty → ℕ → Bool
lasting_numbers numbers j Num o = numbers Num o
lasting_numbers numbers j (Cell a) o = numbers (Cell a) o
lasting_numbers numbers j (Obj c) o = if is_gone o j then false else numbers (Obj c) o
lasting_numbers numbers j (Raw c) o = numbers (Raw c) o
lasting_numbers numbers j (Row n a) o = numbers (Row n a) o
lasting_numbers numbers j Clu o = numbers Clu o
lasting_numbers numbers j Pro o = numbers Pro o

abbrev pub lasting : Few → Journal → Few
lasting few j = record { numbers = lasting_numbers few.numbers j; home = few.home; base = few.base }

-- after an act nobody has at hand what it took out: of all tasks, and of what is at home in objects
pub record WorldLasts (t : Table) (few : Few) (j : Journal) (a : List Entry) (x : World) : Type 0 where
  pub tasks : (n : ℕ) → TaskLasts t (lasting few j) (lasting_numbers few.numbers (j ++ a)) (x.tasks n)
  pub alive : (n : ℕ) → has_ended n (j ++ a) ≡ false → (given : List Ty) (k : KnowsState t (lasting few j) given (x.tasks n)) →
      RunLasts t (lasting few j) (lasting_numbers few.numbers (j ++ a)) given (x.tasks n) k
  pub homes : (o : ℕ) →
      MembersBy (ExLasts t (lasting few j) (lasting_numbers few.numbers (j ++ a))) (Object o) (x.homes o)

-- so it is after an act by which an object goes
abbrev pub ForgetsAt : Table → Few → Journal → List Entry → World → Request → Type 0
ForgetsAt t few j a x (ask.Gone o) = WorldLasts t few j a x
ForgetsAt t few j a x r = Unit {0}

module _ (t : Table) (few : Few) (source : Source) where
  abbrev pub MayForget : (opts : Options) (input : List ℕ) (j : Journal) (w : World) (a : List Entry) (x : World) →
      May source opts input j w a x → Type 0
  MayForget opts input j w _ _ (gives p n s h) = Unit {0}
  MayForget opts input j w _ _ (no_room p n s h) = Unit {0}
  MayForget opts input j w _ _ (acts p n k s asked d) =
      ForgetsAt t few j (act opts source.sites input j p n k asked) (world_after source (act opts source.sites input j p n k asked) w n s) asked.request

  -- and after each such act of a run
  abbrev pub RunForgets : (input : List ℕ) (opts : Options) (j : Journal) (w : World) →
      Runs source input opts j w → Type 0
  RunForgets input opts _ _ begun = Unit {0}
  RunForgets input opts _ _ (more {j} {w} {a} {w' = x} r o m) = RunForgets input opts j w r ×
      MayForget opts input j w a x m

-- what holds at the states of each act of a run, by the journal before that
abbrev pub RunMeetsAt : (Journal → State → Type 0) → (source : Source) (input : List ℕ) (opts : Options) (j : Journal) (w : World) →
    Runs source input opts j w → Type 0
RunMeetsAt P source input opts _ _ begun = Unit {0}
RunMeetsAt P source input opts _ _ (more {j} {w} {a} {w' = x} r o m) = RunMeetsAt P source input opts j w r ×
    MayMeet (P j) source opts input j w a x m

-- then in each run of a program that breaks no rule, as long as all that was asked so far fits, what is known is not gone, as far as each step
-- found what it was to find
abbrev pub LawLasting : Type 0
LawLasting =
    (p : Program) → IsFormed p → breaks_of p ≡ [] → (few : Few) →
    (input : List ℕ) (opts : Options) → InRange opts →
    (j : Journal) (w : World) (r : Runs (source_of p) input opts j w) →
    RunFits (source_of p) input opts j w r → is_over j ≡ false → PassesBelow few opts j →
    MainPasses (table_of p) few ((table_of p).routine (source_of p).main).this 0 →
    RunMeetsAt (λ i s. Meets (table_of p) (lasting few i) s) (source_of p) input opts j w r →
    RunForgets (table_of p) few (source_of p) input opts j w r →
    AllIsKnown (table_of p) (lasting few j) (source_of p) j w

-- so that is not gone at which whoever runs raises an event
abbrev pub LawRaised : Type 0
LawRaised =
    (p : Program) → IsFormed p → breaks_of p ≡ [] → (few : Few) →
    (input : List ℕ) (opts : Options) → InRange opts →
    (j : Journal) (w : World) (r : Runs (source_of p) input opts j w) →
    RunFits (source_of p) input opts j w r → is_over j ≡ false → PassesBelow few opts j →
    MainPasses (table_of p) few ((table_of p).routine (source_of p).main).this 0 →
    RunMeetsAt (λ i s. Meets (table_of p) (lasting few i) s) (source_of p) input opts j w r →
    RunForgets (table_of p) few (source_of p) input opts j w r →
    (n : ℕ) (s : State) (c : Comes (source_of p) j w n s) →
    LeadsMeet (Meets (table_of p) (lasting few j)) (source_of p) (answered (source_of p) c.given (drawn j w n)) s c.leads →
    Meets (table_of p) (lasting few j) s → (o m : ℕ) (y z : ℤ) (u : State) →
    quiet (source_of p) s ≡ Asks (ask.Raise o m y z) u → is_gone o j ≡ false
