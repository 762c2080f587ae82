-- What is bound is a place of the execution's own: by a binding, to a new mutex object, and to a new execution; so is the coroutine of one that is
-- forgotten.
use Rattle.std.specs.Prelude.{◌≡◌, ℕ, false, List, [], ◌∷◌, drop}
use Rattle.uc_tree.specs.Programs.{Program}
use Rattle.uc_tree.specs.Source.{Source}
use Rattle.uc_entry.specs.declared.entry.Options.{Options}
use Rattle.uc_entry.specs.declared.request.Asked.{Asked}
use Rattle.uc_acts.specs.Journal.{Journal, is_over}
use Rattle.uc_acts.specs.Serves.{left}
use Rattle.uc_acts.specs.KernelRuns.{InRange}
use Rattle.uc_machine.specs.Pieces.{Todo, BindNow, BindMadeNow, SetUpNow, ForgetNow, State, top, below}
use Rattle.uc_machine.specs.Answering.{answered}
use Rattle.uc_meaning.specs.Runs.{World, Runs, AsksIn, drawn}
use Rattle.uc_state_laws.specs.Fitting.{RunFits}
use Rattle.uc_resolve.specs.Resolve.{source_of}
use Rattle.uc_rules.specs.Breaks.{breaks_of}
use Rattle.uc_sound.specs.SoundFormed.{IsFormed}
use Rattle.uc_state_laws.specs.Opens.{RideMeets, RunMeets}
use Rattle.uc_state_laws.specs.Counted.{params}
use Rattle.uc_life_laws.specs.Things.{Few}
use Rattle.uc_life_laws.specs.Belonging.{Belongs}
use Rattle.uc_putting_laws.specs.Putting.{Setting, PutState}
use Rattle.uc_putting_laws.specs.PuttingLaws.{setting_of, Fair}

module _ (few : Few) (source : Source) where
  abbrev pub OwnPlacesAt : List Todo → State → Type 0
  OwnPlacesAt (BindNow ∷ todo) s = Belongs few s.env.exec (top (below s.run.operands))
  OwnPlacesAt (BindMadeNow c r ∷ todo) s = Belongs few s.env.exec (top (drop (params source r) (below s.run.operands)))
  OwnPlacesAt (SetUpNow r ∷ todo) s = Belongs few s.env.exec s.run.this
  OwnPlacesAt (ForgetNow ∷ todo) s = Belongs few s.env.exec s.run.this
  OwnPlacesAt todo s = Unit {0}

  abbrev pub OwnPlaces : State → Type 0
  OwnPlaces s = OwnPlacesAt s.run.control s

-- so it is where this is known of operands, and in each run of a program that breaks no rule, as long as all that was asked before fits and each
-- step finds what is left to find, and on the way to what is asked next
pub record LawOwnPlaces : Type 0 where
  pub states : (g : Setting) (s : State) → PutState g s → OwnPlaces g.few g.source s
  pub runs : (p : Program) → IsFormed p → breaks_of p ≡ [] → (few : Few) →
      (input : List ℕ) (opts : Options) → InRange opts → (j : Journal) (w : World) →
      (r : Runs (source_of p) input opts j w) → RunFits (source_of p) input opts j w r →
      RunMeets (Fair (setting_of p few)) (source_of p) input opts j w r →
      RunMeets (OwnPlaces few (source_of p)) (source_of p) input opts j w r
  pub rides : (p : Program) → IsFormed p → breaks_of p ≡ [] → (few : Few) →
      (input : List ℕ) (opts : Options) → InRange opts → (j : Journal) (w : World) →
      (r : Runs (source_of p) input opts j w) → RunFits (source_of p) input opts j w r →
      RunMeets (Fair (setting_of p few)) (source_of p) input opts j w r →
      is_over j ≡ false → (q t n : ℕ) (s : State) (asked : Asked) (d : AsksIn (source_of p) opts j w q t n s asked) →
      RideMeets (Fair (setting_of p few)) (source_of p) (answered (source_of p) d.given (drawn j w t)) (left opts j t) s n asked d.rides →
      RideMeets (OwnPlaces few (source_of p)) (source_of p) (answered (source_of p) d.given (drawn j w t)) (left opts j t) s n asked d.rides
