-- What is entered to be destroyed is not gone where it is at home at an element of an array that is a variable, but where that is left while it is being filled.
use Rattle.std.specs.Prelude.{◌≡◌, ℕ, suc, ◌<◌, Bool, true, false, List, [], ◌∷◌}
use Rattle.uc_tree.specs.Programs.{Program}
use Rattle.uc_tree.specs.Source.{Variable, Element, Load, OfObject, Counted, EndOn}
use Rattle.uc_entry.specs.declared.entry.Options.{Options}
use Rattle.uc_entry.specs.declared.request.Request.TheVariants as ask
use Rattle.uc_acts.specs.Journal.{Journal, is_over}
use Rattle.uc_acts.specs.Known.{is_gone}
use Rattle.uc_acts.specs.KernelRuns.{InRange}
use Rattle.uc_machine.specs.Pieces.{Slot, At, Value, Place, Object, Todo, DropNow, Sweep, EnterNow, State, Asks, loaded, this_frame}
use Rattle.uc_machine.specs.Quiet.{quiet}
use Rattle.uc_machine.specs.Answering.{answered}
use Rattle.uc_meaning.specs.Runs.{World, Runs, drawn}
use Rattle.uc_resolve.specs.Resolve.{source_of}
use Rattle.uc_rules.specs.Breaks.{breaks_of}
use Rattle.uc_sound.specs.SoundFormed.{IsFormed}
use Rattle.uc_sound.specs.Tables.{table_of}
use Rattle.uc_state_laws.specs.Fitting.{RunFits}
use Rattle.uc_state_laws.specs.RoomRuns.{Comes}
use Rattle.uc_state_laws.specs.Opens.{RunMeets, LeadsMeet}
use Rattle.uc_life_laws.specs.Things.{Few}
use Rattle.uc_life_laws.specs.Lives.{LivesState}
use Rattle.uc_life_laws.specs.Lasting.{lasting, RunMeetsAt}
use Rattle.uc_putting_laws.specs.Filling.{is_filling}
use Rattle.uc_putting_laws.specs.PuttingLaws.{setting_of, Fair}
use Rattle.uc_rooted_runs.specs.UnmarkedRuns.{RunLeft}

-- a value is the place of an element of an array that is a variable
abbrev pub is_element : Value → Bool
is_element (Place o (At s j ∷ (Slot k ∷ []))) = true
is_element v = false

-- behind what enters an element to destroy it: the array is left while it is being filled
abbrev pub left_filling : List Todo → Bool
left_filling (p ∷ (DropNow ∷ (Sweep e ∷ todo))) = is_filling todo
left_filling todo = false

-- where an array of mutex objects that is a variable is destroyed, but while it is being filled, the last element that stands is not gone
module _ (few : Few) (j : Journal) where
  abbrev pub SweepsStillAt : List Todo → State → Type 0
  SweepsStillAt (Sweep (OfObject (EndOn r written (Load (Element m h (Variable k) (OfObject Counted))))) ∷ todo) s =
      is_filling todo ≡ false → (i o : ℕ) → s.run.elements ≡ suc i → i < m →
      loaded (Place (this_frame s) (At h i ∷ (Slot k ∷ []))) s.env ≡ Object o →
      few.home o ≡ Place (this_frame s) (At h i ∷ (Slot k ∷ [])) → is_gone o j ≡ false
  SweepsStillAt todo s = Unit {0}

  abbrev pub SweepsStill : State → Type 0
  SweepsStill s = SweepsStillAt s.run.control s

-- in each run of a program that breaks no rule, as long as all that was asked so far fits, objects are at home where they are bound and loaded, each
-- that goes was its own of who lets go of it (`RunLeft`), what is in scope holds what is not gone, and the last element that stands of an array that is
-- destroyed is not gone: nor is that which whoever runs enters to destroy it
abbrev pub LawSwept : Type 0
LawSwept =
    (p : Program) → IsFormed p → breaks_of p ≡ [] → (few : Few) → (input : List ℕ) (opts : Options) → InRange opts →
    (j : Journal) (w : World) (r : Runs (source_of p) input opts j w) → RunFits (source_of p) input opts j w r →
    is_over j ≡ false → RunLeft (table_of p) few (source_of p) input opts j w r →
    RunMeets (Fair (setting_of p few)) (source_of p) input opts j w r →
    RunMeetsAt (λ i v. LivesState (table_of p) (lasting few i) v × SweepsStill few i v) (source_of p) input opts j w r →
    (t : ℕ) (s : State) (c : Comes (source_of p) j w t s) →
    LeadsMeet (Fair (setting_of p few)) (source_of p) (answered (source_of p) c.given (drawn j w t)) s c.leads →
    LeadsMeet (λ v. LivesState (table_of p) (lasting few j) v × SweepsStill few j v) (source_of p) (answered (source_of p) c.given (drawn j w t)) s c.leads →
    (k i : ℕ) (todo : List Todo) → s.run.control ≡ EnterNow k i ∷ todo → ((table_of p).routine i).whole ≡ true →
    (o m : ℕ) (u : State) → quiet (source_of p) s ≡ Asks (ask.Call o m) u →
    is_element (few.home o) ≡ true → left_filling todo ≡ false → is_gone o j ≡ false
