-- What is read of a variable before a mutex object ends is at home there; so of homes nothing is left to find for marks that are put but of fields and of
-- elements.
use Rattle.std.specs.Prelude.{◌≡◌, ℕ, ◌⊎◌, false, List, [], ◌∷◌}
use Rattle.uc_tree.specs.Programs.{Program}
use Rattle.uc_tree.specs.Source.{Shape, Binding}
use Rattle.uc_entry.specs.declared.entry.Options.{Options}
use Rattle.uc_acts.specs.Journal.{Journal, is_over}
use Rattle.uc_acts.specs.KernelRuns.{InRange}
use Rattle.uc_machine.specs.Pieces.{At, FieldAt, Value, Todo, LoadNow, BindMadeNow, State, further, loaded, top, variable_at}
use Rattle.uc_machine.specs.Answering.{answered}
use Rattle.uc_meaning.specs.Runs.{World, Runs, drawn}
use Rattle.uc_state_laws.specs.Fitting.{RunFits}
use Rattle.uc_resolve.specs.Resolve.{source_of}
use Rattle.uc_rules.specs.Breaks.{breaks_of}
use Rattle.uc_state_laws.specs.RoomRuns.{Comes}
use Rattle.uc_sound.specs.SoundFormed.{IsFormed}
use Rattle.uc_sound.specs.Tables.{table_of}
use Rattle.uc_state_laws.specs.Opens.{RunMeets, LeadsMeet}
use Rattle.uc_life_laws.specs.Things.{Few}
use Rattle.uc_life_laws.specs.Homes.{home_of}
use Rattle.uc_life_laws.specs.HomedStates.{Owns, Opens}
use Rattle.uc_life_laws.specs.Ending.{Spot, place_at}
use Rattle.uc_putting_laws.specs.Putting.{Setting, IsHome, IsEnding}
use Rattle.uc_putting_laws.specs.PuttingLaws.{setting_of, Fair}

-- where the destruction of an object comes next that is loaded from a variable of this activation, that is at home there
abbrev pub ReadsAt : Few → List Todo → State → Type 0
ReadsAt few (LoadNow ∷ todo) s = IsEnding todo → (k : ℕ) → top s.run.operands ≡ variable_at k s →
    IsHome few (loaded (top s.run.operands) s.env) (top s.run.operands)
ReadsAt few todo s = Unit {0}

abbrev pub Reads : Few → State → Type 0
Reads few s = ReadsAt few s.run.control s

-- so it is in each run of a program that breaks no rule in which each scope opens where the mutex objects that it is of are at home, as long as all
-- that was asked fits, in each state of each ride, of whoever runs in each state to which it comes before it asks, and on the way there
pub record LawReads : Type 0 where
  pub runs : (p : Program) → IsFormed p → breaks_of p ≡ [] → (owns : Owns) (few : Few) →
      (input : List ℕ) (opts : Options) → InRange opts → (j : Journal) (w : World) →
      (r : Runs (source_of p) input opts j w) → RunFits (source_of p) input opts j w r →
      RunMeets (Opens (table_of p) owns few) (source_of p) input opts j w r →
      RunMeets (Reads few) (source_of p) input opts j w r
  pub leads : (p : Program) → IsFormed p → breaks_of p ≡ [] → (owns : Owns) (few : Few) →
      (input : List ℕ) (opts : Options) → InRange opts → (j : Journal) (w : World) →
      (r : Runs (source_of p) input opts j w) → RunFits (source_of p) input opts j w r →
      RunMeets (Opens (table_of p) owns few) (source_of p) input opts j w r →
      is_over j ≡ false → (t : ℕ) (s : State) (c : Comes (source_of p) j w t s) →
      LeadsMeet (Opens (table_of p) owns few) (source_of p) (answered (source_of p) c.given (drawn j w t)) s c.leads →
      LeadsMeet (Reads few) (source_of p) (answered (source_of p) c.given (drawn j w t)) s c.leads

-- a place is a field of the object at hand, or the element that is counted of an array that is a variable or such a field
abbrev pub IsElsewhere : State → Value → Type 0
IsElsewhere s v = ((h : Shape) × (i : ℕ) × (v ≡ further (FieldAt h i) s.run.this)) ⊎
    ((p : Spot) × (v ≡ further (At Binding s.run.elements) (place_at p s)))

-- what is left to find for marks that are put: where an object that is to be destroyed is loaded from such a place, it is at home there; and what is asked
-- elsewhere, as before
module _ (g : Setting) where
  abbrev pub RestAt : List Todo → State → Type 0
  RestAt (LoadNow ∷ todo) s = IsEnding todo → IsElsewhere s (top s.run.operands) →
      IsHome g.few (loaded (top s.run.operands) s.env) (top s.run.operands)
  RestAt (BindMadeNow c r ∷ todo) s = Unit {0}
  RestAt todo s = Unit {0}

  abbrev pub Rest : State → Type 0
  Rest s = RestAt s.run.control s

-- then all is found that is to be found, with the homes that the run tells in the end
pub record LawFair : Type 0 where
  pub runs : (p : Program) → IsFormed p → breaks_of p ≡ [] → (owns : Owns) (few : Few) →
      (input : List ℕ) (opts : Options) → InRange opts → (j : Journal) (w : World) →
      (r : Runs (source_of p) input opts j w) → RunFits (source_of p) input opts j w r →
      ((o : ℕ) → few.home o ≡ home_of (source_of p) input opts j w r o) →
      RunMeets (Opens (table_of p) owns few) (source_of p) input opts j w r →
      RunMeets (Rest (setting_of p few)) (source_of p) input opts j w r →
      RunMeets (Fair (setting_of p few)) (source_of p) input opts j w r
  pub leads : (p : Program) → IsFormed p → breaks_of p ≡ [] → (owns : Owns) (few : Few) →
      (input : List ℕ) (opts : Options) → InRange opts → (j : Journal) (w : World) →
      (r : Runs (source_of p) input opts j w) → RunFits (source_of p) input opts j w r →
      ((o : ℕ) → few.home o ≡ home_of (source_of p) input opts j w r o) →
      RunMeets (Opens (table_of p) owns few) (source_of p) input opts j w r →
      is_over j ≡ false → (t : ℕ) (s : State) (c : Comes (source_of p) j w t s) →
      LeadsMeet (Opens (table_of p) owns few) (source_of p) (answered (source_of p) c.given (drawn j w t)) s c.leads →
      LeadsMeet (Rest (setting_of p few)) (source_of p) (answered (source_of p) c.given (drawn j w t)) s c.leads →
      LeadsMeet (Fair (setting_of p few)) (source_of p) (answered (source_of p) c.given (drawn j w t)) s c.leads
