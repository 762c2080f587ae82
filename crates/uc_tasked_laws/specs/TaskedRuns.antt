-- Runs of programs in which who is at home where a task is in scope has a task, or is gone.
use Rattle.std.specs.Prelude.{◌≡◌, ℕ, ◌≤◌, ◌<◌, ◌&&◌, ◌++◌, Bool, false, not, nat_lt, List, [], ◌∷◌}
use Rattle.uc_tree.specs.Programs.{Program}
use Rattle.uc_tree.specs.Source.{Expr, Source}
use Rattle.uc_entry.specs.declared.entry.Options.{Options}
use Rattle.uc_acts.specs.Journal.{Journal, is_over}
use Rattle.uc_acts.specs.Known.{object_count, has_ended, is_gone, owner}
use Rattle.uc_acts.specs.Queues.{is_nobody}
use Rattle.uc_acts.specs.KernelRuns.{InRange}
use Rattle.uc_machine.specs.declared.exec.Exec.{Exec}
use Rattle.uc_machine.specs.declared.exec.Home.TheVariants.{Task, Object}
use Rattle.uc_machine.specs.Pieces.{Value, Active, State}
use Rattle.uc_machine.specs.Answering.{answered}
use Rattle.uc_meaning.specs.Runs.{World, Runs, drawn, begun, more}
use Rattle.uc_state_laws.specs.Fitting.{RunFits}
use Rattle.uc_resolve.specs.Resolve.{source_of}
use Rattle.uc_rules.specs.Breaks.{breaks_of}
use Rattle.uc_state_laws.specs.RoomRuns.{Comes}
use Rattle.uc_state_laws.specs.Opens.{MayMeet, LeadsMeet}
use Rattle.uc_sound.specs.SoundFormed.{IsFormed}
use Rattle.uc_place_laws.specs.OlderResting.{AllWait, NamedParked, NamedMembers, NamedEnv}
use Rattle.uc_tasked_laws.specs.Seated.{EndsTask}
use Rattle.uc_tasked_laws.specs.Seats.{seat}
use Rattle.uc_tasked_laws.specs.SeatedStates.{Told, Awaited, Kept, AllHave, Fair}

-- whether an object has been made, is of no task, and is not gone
abbrev pub is_pending : Journal → ℕ → Bool
is_pending j o = nat_lt o (object_count j) && (is_nobody (owner o j) && not (is_gone o j))

-- `homes`: where each object is at home, told once for a run
abbrev pub told_by : (ℕ → Value) → Journal → Told
told_by homes j = record { homes = homes; pending = is_pending j }

-- a place is that of no seat of a task that is in scope, or for which an activation waits
module _ (p : Program) (h : Value) where
  abbrev pub IsElsewhere : Exec → ℕ → Value → ℕ → Expr → Type 0
  IsElsewhere n f this d e = EndsTask p d → h ≡ seat n f this e → ⊥

  abbrev pub ApartRuns : Exec → List Active → Active → Type 0
  ApartRuns n older a = AllHave (IsElsewhere n a.frame a.this) a.control

  abbrev pub ApartWaits : Exec → List Active → Active → Type 0
  ApartWaits n older a = ApartRuns n older a × Awaited (IsElsewhere n a.frame a.this) a.control

  pub record ApartTask (s : State) : Type 0 where
    pub run : ApartRuns s.env.exec s.callers s.run
    pub callers : AllWait ApartRuns ApartWaits s.env.exec s.callers
    pub house : NamedParked ApartRuns ApartWaits (Task s.env.own) s.env.house.parked

  pub record ApartWorld (w : World) : Type 0 where
    pub tasks : (n : ℕ) → ApartTask (w.tasks n)
    pub homes : (o : ℕ) → NamedMembers ApartRuns ApartWaits (Object o) (w.homes o)

module _ (p : Program) (homes : ℕ → Value) (source : Source) where
  -- what each step is to find, by the journal of its time
  abbrev pub RunFair : (input : List ℕ) (opts : Options) (j : Journal) (w : World) → Runs source input opts j w → Type 0
  RunFair input opts _ _ begun = Unit {0}
  RunFair input opts _ _ (more {j} {w} {a} {w' = x} r o m) = RunFair input opts j w r ×
      MayMeet (Fair p source (told_by homes j)) source opts input j w a x m

  -- behind each act the place is apart at which what it has made is at home
  abbrev pub RunMakesApart : (input : List ℕ) (opts : Options) (j : Journal) (w : World) → Runs source input opts j w → Type 0
  RunMakesApart input opts _ _ begun = Unit {0}
  RunMakesApart input opts _ _ (more {j} {w} {a} {w' = x} r o m) = RunMakesApart input opts j w r ×
      ((k : ℕ) → object_count j ≤ k → k < object_count (j ++ a) → ApartWorld p (homes k) x)

-- where a task is in scope, or a part of an object under construction, nobody is at home who is pending: of each activation
module _ (p : Program) (told : Told) where
  abbrev pub KeepsSeats : Exec → List Active → Active → Type 0
  KeepsSeats n older a = AllHave (Kept p told n a.frame a.this) a.control

  -- of an execution, its newest activation first
  abbrev pub AllKeep : Exec → List Active → Type 0
  AllKeep n cs = AllWait KeepsSeats KeepsSeats n cs

  pub record SeatsKept (s : State) : Type 0 where
    pub stack : AllKeep s.env.exec (s.run ∷ s.callers)
    pub env : NamedEnv KeepsSeats KeepsSeats s.env

  -- of a task at rest, but for what is at home in objects
  pub record RestKept (s : State) : Type 0 where
    pub stack : AllKeep s.env.exec (s.run ∷ s.callers)
    pub house : NamedParked KeepsSeats KeepsSeats (Task s.env.own) s.env.house.parked

-- of each task at rest that has not ended, of what is at home in each object, and of whoever runs in each state to which it comes before it asks,
-- as far as each step on the way found what it was to find
pub record AreSeated (p : Program) (homes : ℕ → Value) (source : Source) (j : Journal) (w : World) : Type 0 where
  pub tasks : (n : ℕ) → has_ended n j ≡ false → RestKept p (told_by homes j) (w.tasks n)
  pub comes : (n : ℕ) (s : State) (c : Comes source j w n s) →
      LeadsMeet (Fair p source (told_by homes j)) source (answered source c.given (drawn j w n)) s c.leads →
      SeatsKept p (told_by homes j) s
  pub homes_keep : (o : ℕ) →
      NamedMembers (KeepsSeats p (told_by homes j)) (KeepsSeats p (told_by homes j)) (Object o) (w.homes o)
  -- so it is of what does not run in a task, whether that has ended or not
  pub houses : (n : ℕ) →
      NamedParked (KeepsSeats p (told_by homes j)) (KeepsSeats p (told_by homes j)) (Task (w.tasks n).env.own) (w.tasks n).env.house.parked

-- so it is in each run of a program that breaks no rule, as long as all that was asked so far fits
abbrev pub LawTasked : Type 0
LawTasked =
    (p : Program) → IsFormed p → breaks_of p ≡ [] → (homes : ℕ → Value) →
    (input : List ℕ) (opts : Options) → InRange opts →
    (j : Journal) (w : World) (r : Runs (source_of p) input opts j w) →
    RunFits (source_of p) input opts j w r → is_over j ≡ false →
    RunFair p homes (source_of p) input opts j w r →
    RunMakesApart p homes (source_of p) input opts j w r →
    AreSeated p homes (source_of p) j w
