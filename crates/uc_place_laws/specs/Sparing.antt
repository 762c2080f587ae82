-- What is bound leaves objects alone whose constructors are still to be called.
use Rattle.std.specs.Prelude.{◌≡◌, ℕ, true, false, List, [], ◌∷◌, Bool, drop}
use Rattle.uc_tree.specs.Programs.{Program}
use Rattle.uc_tree.specs.Source.{Source}
use Rattle.uc_entry.specs.declared.entry.Options.{Options}
use Rattle.uc_acts.specs.Journal.{Journal, is_over}
use Rattle.uc_acts.specs.KernelRuns.{InRange}
use Rattle.uc_machine.specs.declared.exec.Exec.{Exec}
use Rattle.uc_machine.specs.declared.exec.Owner.{Owner}
use Rattle.uc_machine.specs.declared.exec.Owner.TheVariants.{Frame, Fields}
use Rattle.uc_machine.specs.Executions.{exec_eq}
use Rattle.uc_machine.specs.Quiet.{State}
use Rattle.uc_machine.specs.Pieces.{Value, Place, Todo, Active, BindNow, BindMadeNow, SetUpNow, address, top, below}
use Rattle.uc_machine.specs.Answering.{answered}
use Rattle.uc_meaning.specs.Runs.{World, Runs, drawn}
use Rattle.uc_state_laws.specs.Fitting.{RunFits}
use Rattle.uc_resolve.specs.Resolve.{source_of}
use Rattle.uc_rules.specs.Breaks.{breaks_of}
use Rattle.uc_sound.specs.SoundFormed.{IsFormed}
use Rattle.uc_state_laws.specs.Layout.{Sized}
use Rattle.uc_state_laws.specs.RoomRuns.{Comes}
use Rattle.uc_state_laws.specs.Opens.{RunMeets, LeadsMeet}
use Rattle.uc_state_laws.specs.Counted.{params}
use Rattle.uc_place_laws.specs.Calling.{Calling, EndsBefore}
use Rattle.uc_place_laws.specs.Asides.{AsideState}
use Rattle.uc_place_laws.specs.Placed.{PlacedState}

module _ (Z : ℕ → ℕ → Type 0) where
  -- the objects for which activations with the frame of a depth have still to call constructors end before a cell
  abbrev pub CalledBefore : ℕ → ℕ → List Active → Type 0
  CalledBefore cell f [] = Unit {0}
  CalledBefore cell f (a ∷ older) = (a.frame ≡ f → Calling (EndsBefore Z cell) a.control) × CalledBefore cell f older

  -- what is written to a place leaves them alone: it lies behind them in a frame of the execution n, or in a mutex object, or it is none
  abbrev pub OwnerSpares : Exec → List Active → Owner → ℕ → Type 0
  OwnerSpares n cs (Frame m d) cell = (exec_eq m n ≡ true) × CalledBefore cell d cs
  OwnerSpares n cs (Fields o) cell = Unit {0}

  abbrev pub Spares : Exec → List Active → Value → Type 0
  Spares n cs (Place o p) = OwnerSpares n cs o (address p)
  Spares n cs v = Unit {0}

  -- so do what is bound, also to what is new, and the object at hand that gets an execution, of who runs, with what is to do behind that, and of
  -- those that wait
  abbrev pub SparesAt : Source → List Todo → State → Type 0
  SparesAt source (BindNow ∷ todo) s = Spares s.env.exec (record s.run { control = todo } ∷ s.callers) (top (below s.run.operands))
  SparesAt source (BindMadeNow c r ∷ todo) s =
      Spares s.env.exec (record s.run { control = todo } ∷ s.callers) (top (drop (params source r) (below s.run.operands)))
  SparesAt source (SetUpNow r ∷ todo) s = Spares s.env.exec (record s.run { control = todo } ∷ s.callers) s.run.this
  SparesAt source todo s = Unit {0}

abbrev pub Sparing : Program → State → Type 0
Sparing p s = SparesAt (Sized p) (source_of p) s.run.control s

-- so it is where what is bound lies aside and is the place of a name
abbrev pub LawSpares : Type 0
LawSpares = (p : Program) (makes : ℕ → Bool) (s : State) → AsideState (Sized p) makes (source_of p) s →
    PlacedState (Sized p) (source_of p) s → Sparing p s

-- so it is in each run of a program that breaks no rule, as long as all that was asked before fits, in each state of each ride, and on the way to
-- each state to which whoever runs comes before it asks, and there
pub record LawSparing : Type 0 where
  pub runs : (p : Program) → IsFormed p → breaks_of p ≡ [] →
      (input : List ℕ) (opts : Options) → InRange opts → (j : Journal) (w : World) →
      (r : Runs (source_of p) input opts j w) → RunFits (source_of p) input opts j w r →
      RunMeets (Sparing p) (source_of p) input opts j w r
  pub leads : (p : Program) → IsFormed p → breaks_of p ≡ [] →
      (input : List ℕ) (opts : Options) → InRange opts → (j : Journal) (w : World) →
      (r : Runs (source_of p) input opts j w) → RunFits (source_of p) input opts j w r →
      is_over j ≡ false → (t : ℕ) (s : State) (c : Comes (source_of p) j w t s) →
      LeadsMeet (Sparing p) (source_of p) (answered (source_of p) c.given (drawn j w t)) s c.leads
  pub comes : (p : Program) → IsFormed p → breaks_of p ≡ [] →
      (input : List ℕ) (opts : Options) → InRange opts → (j : Journal) (w : World) →
      (r : Runs (source_of p) input opts j w) → RunFits (source_of p) input opts j w r →
      is_over j ≡ false → (t : ℕ) (s : State) → Comes (source_of p) j w t s → Sparing p s
