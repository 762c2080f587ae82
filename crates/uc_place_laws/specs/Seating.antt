-- What is bound lies in what those build who were called one by another, down to a variable.
use Rattle.std.specs.Prelude.{◌≡◌, ℕ, ◌⊎◌, false, List, [], ◌∷◌, drop, Bool}
use Rattle.uc_tree.specs.Programs.{Program}
use Rattle.uc_tree.specs.Source.{Source}
use Rattle.uc_entry.specs.declared.entry.Options.{Options}
use Rattle.uc_acts.specs.Journal.{Journal, is_over}
use Rattle.uc_acts.specs.KernelRuns.{InRange}
use Rattle.uc_machine.specs.Quiet.{State}
use Rattle.uc_machine.specs.declared.exec.Exec.{Exec}
use Rattle.uc_machine.specs.declared.exec.Owner.TheVariants.{Frame}
use Rattle.uc_machine.specs.Pieces.{Link, Value, Place, Active, address, Todo, BindNow, BindMadeNow, SetUpNow, top, below}
use Rattle.uc_machine.specs.Answering.{answered}
use Rattle.uc_meaning.specs.Runs.{World, Runs, drawn}
use Rattle.uc_state_laws.specs.Fitting.{RunFits}
use Rattle.uc_resolve.specs.Resolve.{source_of}
use Rattle.uc_rules.specs.Breaks.{breaks_of}
use Rattle.uc_sound.specs.SoundFormed.{IsFormed}
use Rattle.uc_state_laws.specs.Layout.{Sized}
use Rattle.uc_state_laws.specs.RoomRuns.{Comes}
use Rattle.uc_state_laws.specs.Opens.{RunMeets, LeadsMeet}
use Rattle.uc_state_laws.specs.Counted.{params}
use Rattle.uc_place_laws.specs.Called.{variable}
use Rattle.uc_place_laws.specs.CalledStates.{AllSeated}
use Rattle.uc_place_laws.specs.OpeningLaws.{Awaited}
use Rattle.uc_place_laws.specs.Calling.{EndsBefore}
use Rattle.uc_place_laws.specs.Asides.{IsIn, Sits, SitsAt, AsideState}

-- the place that is bound, also to what is new, is a variable of who runs or an element of one, or lies in its object at hand; and that is then such a
-- place of who called it, and so on, down to a variable, which lies behind all objects for whose scopes older activations of its frame wait; or it is in no
-- frame. So is the object at hand that gets an execution
abbrev pub SeatsAt : (ℕ → ℕ → Type 0) → Source → List Todo → State → Type 0
SeatsAt Z source (BindNow ∷ todo) s = SitsAt Z s.env.exec s.run.frame s.run.this s.callers (top (below s.run.operands))
SeatsAt Z source (BindMadeNow c r ∷ todo) s =
    SitsAt Z s.env.exec s.run.frame s.run.this s.callers (top (drop (params source r) (below s.run.operands)))
SeatsAt Z source (SetUpNow r ∷ todo) s = Sits Z s.env.exec s.callers s.run.this
SeatsAt Z source todo s = Unit {0}

abbrev pub Seating : Program → State → Type 0
Seating p s = SeatsAt (Sized p) (source_of p) s.run.control s

-- so it is where what is bound lies aside
abbrev pub LawSeats : Type 0
LawSeats = (p : Program) (makes : ℕ → Bool) (s : State) → AsideState (Sized p) makes (source_of p) s → Seating p s

-- of each object for whose scope one of these waits: a place in its frame lies behind it, or in it
abbrev pub Reaches : (ℕ → ℕ → Type 0) → Exec → Value → List Active → Type 0
Reaches Z n v [] = Unit {0}
Reaches Z n v (c ∷ cs) =
    Awaited (λ d k. (p : List Link) → v ≡ Place (Frame n c.frame) p → EndsBefore Z (address p) d k ⊎ IsIn (variable n c.frame k) v) c.control × Reaches Z n v cs

-- so is what is bound, where who is called for such an object has it at hand
abbrev pub ReachesAt : (ℕ → ℕ → Type 0) → Source → List Todo → State → Type 0
ReachesAt Z source (BindNow ∷ todo) s = Reaches Z s.env.exec (top (below s.run.operands)) s.callers
ReachesAt Z source (BindMadeNow c r ∷ todo) s = Reaches Z s.env.exec (top (drop (params source r) (below s.run.operands))) s.callers
ReachesAt Z source todo s = Unit {0}

abbrev pub LawReaches : Type 0
LawReaches = (p : Program) (s : State) → Seating p s → AllSeated s.env.exec (s.run ∷ s.callers) →
    ReachesAt (Sized p) (source_of p) s.run.control s

-- so it is in each run of a program that breaks no rule, as long as all that was asked before fits, in each state of each ride, and on the way to
-- each state to which whoever runs comes before it asks, and there
pub record LawSeating : Type 0 where
  pub runs : (p : Program) → IsFormed p → breaks_of p ≡ [] →
      (input : List ℕ) (opts : Options) → InRange opts → (j : Journal) (w : World) →
      (r : Runs (source_of p) input opts j w) → RunFits (source_of p) input opts j w r →
      RunMeets (Seating p) (source_of p) input opts j w r
  pub leads : (p : Program) → IsFormed p → breaks_of p ≡ [] →
      (input : List ℕ) (opts : Options) → InRange opts → (j : Journal) (w : World) →
      (r : Runs (source_of p) input opts j w) → RunFits (source_of p) input opts j w r →
      is_over j ≡ false → (t : ℕ) (s : State) (c : Comes (source_of p) j w t s) →
      LeadsMeet (Seating p) (source_of p) (answered (source_of p) c.given (drawn j w t)) s c.leads
  pub comes : (p : Program) → IsFormed p → breaks_of p ≡ [] →
      (input : List ℕ) (opts : Options) → InRange opts → (j : Journal) (w : World) →
      (r : Runs (source_of p) input opts j w) → RunFits (source_of p) input opts j w r →
      is_over j ≡ false → (t : ℕ) (s : State) → Comes (source_of p) j w t s → Seating p s
