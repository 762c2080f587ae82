-- What is entered to be destroyed is the running execution's own, and is not gone where it is at home at a variable.
use Rattle.std.specs.Prelude.{◌≡◌, ℕ, Bool, true, false, List, [], ◌∷◌}
use Rattle.uc_tree.specs.Programs.{Program}
use Rattle.uc_entry.specs.declared.entry.Options.{Options}
use Rattle.uc_entry.specs.declared.request.Request.TheVariants as ask
use Rattle.uc_acts.specs.Journal.{Journal, is_over}
use Rattle.uc_acts.specs.Known.{is_gone}
use Rattle.uc_acts.specs.KernelRuns.{InRange}
use Rattle.uc_machine.specs.Pieces.{Slot, FieldAt, At, Value, Number, Place, Running, Object, Nothing, Todo, EnterNow, State, Asks}
use Rattle.uc_machine.specs.declared.exec.Exec.{Exec}
use Rattle.uc_machine.specs.Quiet.{quiet}
use Rattle.uc_machine.specs.Answering.{answered}
use Rattle.uc_meaning.specs.Runs.{World, Runs, drawn}
use Rattle.uc_resolve.specs.Resolve.{source_of}
use Rattle.uc_rules.specs.Breaks.{breaks_of}
use Rattle.uc_sound.specs.SoundFormed.{IsFormed}
use Rattle.uc_sound.specs.Tables.{table_of}
use Rattle.uc_state_laws.specs.Fitting.{RunFits}
use Rattle.uc_state_laws.specs.RoomRuns.{Comes}
use Rattle.uc_state_laws.specs.Opens.{RunMeets, LeadsMeet}
use Rattle.uc_life_laws.specs.Things.{Few}
use Rattle.uc_life_laws.specs.Belonging.{Belongs}
use Rattle.uc_life_laws.specs.Lives.{LivesState}
use Rattle.uc_life_laws.specs.Lasting.{lasting, RunMeetsAt}
use Rattle.uc_putting_laws.specs.PuttingLaws.{setting_of, Fair}
use Rattle.uc_rooted_runs.specs.UnmarkedRuns.{RunLeft}

-- a value is the place of a variable
abbrev pub is_variable : Value → Bool
is_variable (Number z) = false
is_variable (Place o []) = false
is_variable (Place o (Slot k ∷ p)) = true
is_variable (Place o (FieldAt h i ∷ p)) = false
is_variable (Place o (At h i ∷ p)) = false
is_variable (Running n) = false
is_variable (Object o) = false
is_variable Nothing = false

-- an object is at home in what is an execution's own; and it is not gone behind this journal, if it is at home at a variable
pub record IsEntered (few : Few) (j : Journal) (n : Exec) (o : ℕ) : Type 0 where
  pub own : Belongs few n (few.home o)
  pub there : is_variable (few.home o) ≡ true → is_gone o j ≡ false

-- in each run of a program that breaks no rule, as long as all that was asked so far fits, objects are at home where they are bound and loaded, each
-- that goes was its own of who lets go of it (`RunLeft`), and what is in scope holds what is not gone: what whoever runs enters to destroy it is its own,
-- and not gone if it is at home at a variable
abbrev pub LawEnded : Type 0
LawEnded =
    (p : Program) → IsFormed p → breaks_of p ≡ [] → (few : Few) → (input : List ℕ) (opts : Options) → InRange opts →
    (j : Journal) (w : World) (r : Runs (source_of p) input opts j w) → RunFits (source_of p) input opts j w r →
    is_over j ≡ false → RunLeft (table_of p) few (source_of p) input opts j w r →
    RunMeets (Fair (setting_of p few)) (source_of p) input opts j w r →
    RunMeetsAt (λ i v. LivesState (table_of p) (lasting few i) v) (source_of p) input opts j w r →
    (t : ℕ) (s : State) (c : Comes (source_of p) j w t s) →
    LeadsMeet (Fair (setting_of p few)) (source_of p) (answered (source_of p) c.given (drawn j w t)) s c.leads →
    LeadsMeet (LivesState (table_of p) (lasting few j)) (source_of p) (answered (source_of p) c.given (drawn j w t)) s c.leads →
    (k i : ℕ) (todo : List Todo) → s.run.control ≡ EnterNow k i ∷ todo → ((table_of p).routine i).whole ≡ true →
    (o m : ℕ) (u : State) → quiet (source_of p) s ≡ Asks (ask.Call o m) u → IsEntered few j s.env.exec o
