-- The own cells of frames and of mutex objects: those of mutex objects in what scopes are of, and in mutex objects, but for references. In steps and in runs each
-- holds no object, or the one that is at home there.
use Rattle.std.specs.Prelude.{◌≡◌, ℕ, ◌-◌, ◌<◌, ◌&&◌, Bool, false, not, if◌then◌else◌, nat_lt, List, [], Option, Some, None, slice_get}
use Rattle.uc_tree.specs.Cells.{leading_cells}
use Rattle.uc_tree.specs.Numbering.{is_event}
use Rattle.uc_tree.specs.Objects.{ClassField, fields_of, class_at}
use Rattle.uc_tree.specs.Programs.{Class, Program}
use Rattle.uc_tree.specs.Source.{routine_of}
use Rattle.uc_entry.specs.declared.entry.Options.{Options}
use Rattle.uc_entry.specs.declared.request.Answer.{Answer}
use Rattle.uc_entry.specs.declared.request.Request.{Request}
use Rattle.uc_entry.specs.declared.request.Request.TheVariants as ask
use Rattle.uc_acts.specs.Journal.{Journal, is_over}
use Rattle.uc_acts.specs.KernelRuns.{InRange}
use Rattle.uc_machine.specs.declared.exec.Owner.TheVariants.{Frame, Fields}
use Rattle.uc_machine.specs.Executions.{at_depth}
use Rattle.uc_machine.specs.Pieces.{Link, FieldAt, Value, Place, Object, LAST_ADDRESS, State, Env, address, further, loaded}
use Rattle.uc_machine.specs.Quiet.{quiet, first_state}
use Rattle.uc_machine.specs.Answering.{answered}
use Rattle.uc_meaning.specs.Runs.{World, Runs, drawn}
use Rattle.uc_resolve.specs.Resolve.{source_of}
use Rattle.uc_rules.specs.Breaks.{breaks_of}
use Rattle.uc_typing.specs.Typing.{Ty, Cell, Obj}
use Rattle.uc_sound.specs.SoundFormed.{IsFormed}
use Rattle.uc_sound.specs.Tables.{of_kind, table_of}
use Rattle.uc_state_laws.specs.Fitting.{RunFits}
use Rattle.uc_state_laws.specs.Limits.{IsWithinLimits}
use Rattle.uc_state_laws.specs.RoomRuns.{Comes}
use Rattle.uc_state_laws.specs.Opens.{RunMeets, LeadsMeet}
use Rattle.uc_life_laws.specs.Things.{Few, IsField, IsMutex}
use Rattle.uc_life_laws.specs.HomedStates.{Owns}
use Rattle.uc_cell_laws.specs.Places.{LiesInScope}
use Rattle.uc_answer_laws.specs.Suiting.{IsForm, form_of_request}
use Rattle.uc_cell_laws.specs.Sites.{Telling, IsNoMaker, SitedSource}
use Rattle.uc_cell_laws.specs.CellStates.{IsOwnCell, IsOwnField, IsObjectPart, IsFree, Fits, CellState, CellAsk, TellsClass, CellStep, CellFinds}
use Rattle.uc_cell_laws.specs.Classes.{class_of}

-- whether a field of a class holds what is its own: it is no reference
abbrev pub is_own : Option ClassField → Bool
is_own None = false
is_own (Some f) = not f.declarator.by_ref

abbrev pub owns_by : Option Class → ℕ → Bool
owns_by None i = false
owns_by (Some c) i = if nat_lt i (leading_cells c.kind) then false else is_own (slice_get (fields_of c.members) (i - leading_cells c.kind))

abbrev pub owns_of : Program → Owns
owns_of p c i = owns_by (class_at p c) i

-- a constructor or a destructor of a class whose objects are declared: events are built where they are raised, in hidden cells, and hold numbers alone
abbrev pub is_of_objects : Program → Option ℕ → Bool
is_of_objects p None = false
is_of_objects p (Some c) = not (of_kind is_event (class_at p c))

abbrev pub builds_or_ends : Program → ℕ → Bool
builds_or_ends p r = ((table_of p).routine r).whole && is_of_objects p ((table_of p).routine r).this

-- `class`: of which class what has a number was made; `naming`: it is told too that no first cell of an own coroutine names one whose own that is
abbrev pub telling_by : Program → Few → (ℕ → Option ℕ) → Bool → Telling
telling_by p few class naming = record { table = table_of p; source = source_of p; owns = owns_of p; special = builds_or_ends p; few = few; class = class; naming = naming }

abbrev pub telling_of : Program → Few → (ℕ → Option ℕ) → Telling
telling_of p few class = telling_by p few class false

-- in a program that breaks no rule a value may be written to a binding in what scopes of the routine of a frame are of: where it is at home there, and of the
-- class, if it is an object; where no mutex object is bound there; and where that is a field that is a reference. So it may be to a binding in a mutex object
pub record LawFits : Type 0 where
  pub home : (p : Program) → IsFormed p → breaks_of p ≡ [] → (few : Few) (class : ℕ → Option ℕ) (rs : List ℕ) (d r : ℕ) (x : List Link) (c : ℕ) (w : Value) (e : Env) →
      at_depth rs d ≡ Some r → LiesInScope (table_of p) (source_of p) r (Frame e.exec d) (Place (Frame e.exec d) x) (Cell (Obj c)) →
      IsFree (telling_of p few class) (Place (Frame e.exec d) x) c w →
      Fits (telling_of p few class) rs (Place (Frame e.exec d) x) w e
  pub other : (p : Program) → IsFormed p → breaks_of p ≡ [] → (few : Few) (class : ℕ → Option ℕ) (rs : List ℕ) (d r : ℕ) (x : List Link) (b : Ty) (w : Value) (e : Env) →
      at_depth rs d ≡ Some r → LiesInScope (table_of p) (source_of p) r (Frame e.exec d) (Place (Frame e.exec d) x) (Cell b) →
      (IsMutex (table_of p) b → ⊥) → Fits (telling_of p few class) rs (Place (Frame e.exec d) x) w e
  pub reference : (p : Program) → IsFormed p → breaks_of p ≡ [] → (few : Few) (class : ℕ → Option ℕ) (rs : List ℕ) (d r c i : ℕ) (v : Value) (x : List Link) (b : Ty) (w : Value) (e : Env) →
      at_depth rs d ≡ Some r → LiesInScope (table_of p) (source_of p) r (Frame e.exec d) v (Obj c) →
      IsField (table_of p) c i → owns_of p c i ≡ false → (table_of p).fields c i ≡ Cell b →
      further (FieldAt ((table_of p).shape c) i) v ≡ Place (Frame e.exec d) x →
      Fits (telling_of p few class) rs (Place (Frame e.exec d) x) w e
  pub home_in : (p : Program) → IsFormed p → breaks_of p ≡ [] → IsWithinLimits p → (few : Few) (class : ℕ → Option ℕ) (rs : List ℕ) (v w : Value) (c : ℕ) (e : Env) →
      IsObjectPart (telling_of p few class) v (Cell (Obj c)) → IsFree (telling_of p few class) v c w → Fits (telling_of p few class) rs v w e
  pub other_in : (p : Program) → IsFormed p → breaks_of p ≡ [] → IsWithinLimits p → (few : Few) (class : ℕ → Option ℕ) (rs : List ℕ) (v w : Value) (b : Ty) (e : Env) →
      IsObjectPart (telling_of p few class) v (Cell b) → (IsMutex (table_of p) b → ⊥) → Fits (telling_of p few class) rs v w e
  pub reference_in : (p : Program) → IsFormed p → breaks_of p ≡ [] → IsWithinLimits p → (few : Few) (class : ℕ → Option ℕ) (rs : List ℕ) (v w : Value) (c i : ℕ) (b : Ty) (e : Env) →
      IsObjectPart (telling_of p few class) v (Obj c) →
      IsField (table_of p) c i → (table_of p).fields c i ≡ Cell b → owns_of p c i ≡ false →
      Fits (telling_of p few class) rs (further (FieldAt ((table_of p).shape c) i) v) w e

-- of a program that breaks no rule and is within its limits, with code as it is to be (`SitedSource`), whatever the classes of numbers: a task begins so with what
-- is no constructor and no destructor; each step that finds what it is to find keeps it, and so does each answer of the form that was asked for, in which an object
-- is of the class that was asked for; what is loaded from an own cell of the routine of a frame, and from one of a mutex object, is at home there, if it is an
-- object. With the classes that a run tells so it is in that run, in each state of each ride, and on the way to each state to which whoever runs comes before it
-- asks, and there
pub record LawCells : Type 0 where
  pub begins : (p : Program) → IsFormed p → breaks_of p ≡ [] → IsWithinLimits p → (few : Few) (class : ℕ → Option ℕ) → SitedSource (telling_of p few class) → (r o : ℕ) →
      IsNoMaker (telling_of p few class) r → CellState (telling_of p few class) (first_state (routine_of (source_of p) r) o)
  pub steps : (p : Program) → IsFormed p → breaks_of p ≡ [] → IsWithinLimits p → (few : Few) (class : ℕ → Option ℕ) → SitedSource (telling_of p few class) → (s : State) →
      CellState (telling_of p few class) s → CellFinds (telling_of p few class) s → CellStep (telling_of p few class) (quiet (source_of p) s)
  pub told : (p : Program) (few : Few) (class : ℕ → Option ℕ) (r : Request) (given : Answer) (s : State) → IsForm (form_of_request r) given →
      TellsClass (telling_of p few class) r given s → (r ≡ ask.End → ⊥) → ((n : ℕ) → r ≡ ask.Fault n → ⊥) →
      CellAsk (telling_of p few class) r s → CellState (telling_of p few class) (answered (source_of p) given s)
  pub reads : (p : Program) (few : Few) (class : ℕ → Option ℕ) (s : State) (h : CellState (telling_of p few class) s) (d r : ℕ) (x : List Link) (c : ℕ) →
      at_depth h.routines d ≡ Some r → IsOwnCell (telling_of p few class) r (Frame s.env.exec d) x c → address x < LAST_ADDRESS →
      (o : ℕ) → loaded (Place (Frame s.env.exec d) x) s.env ≡ Object o → (few.home o ≡ Place (Frame s.env.exec d) x) × (class o ≡ Some c)
  pub fields : (p : Program) (few : Few) (class : ℕ → Option ℕ) (s : State) → CellState (telling_of p few class) s → (n : ℕ) (x : List Link) (c : ℕ) →
      IsOwnField (telling_of p few class) n x c → address x < LAST_ADDRESS →
      (o : ℕ) → loaded (Place (Fields n) x) s.env ≡ Object o → (few.home o ≡ Place (Fields n) x) × (class o ≡ Some c)
  pub runs : (p : Program) → IsFormed p → breaks_of p ≡ [] → IsWithinLimits p → (few : Few) (input : List ℕ) (opts : Options) → InRange opts →
      (j : Journal) (w : World) (r : Runs (source_of p) input opts j w) → RunFits (source_of p) input opts j w r →
      SitedSource (telling_of p few (class_of (table_of p) (source_of p) input opts j w r)) →
      RunMeets (CellFinds (telling_of p few (class_of (table_of p) (source_of p) input opts j w r))) (source_of p) input opts j w r →
      RunMeets (CellState (telling_of p few (class_of (table_of p) (source_of p) input opts j w r))) (source_of p) input opts j w r
  pub leads : (p : Program) → IsFormed p → breaks_of p ≡ [] → IsWithinLimits p → (few : Few) (input : List ℕ) (opts : Options) → InRange opts →
      (j : Journal) (w : World) (r : Runs (source_of p) input opts j w) → RunFits (source_of p) input opts j w r →
      SitedSource (telling_of p few (class_of (table_of p) (source_of p) input opts j w r)) →
      RunMeets (CellFinds (telling_of p few (class_of (table_of p) (source_of p) input opts j w r))) (source_of p) input opts j w r →
      is_over j ≡ false → (t : ℕ) (s : State) (c : Comes (source_of p) j w t s) →
      LeadsMeet (CellFinds (telling_of p few (class_of (table_of p) (source_of p) input opts j w r))) (source_of p) (answered (source_of p) c.given (drawn j w t)) s c.leads →
      CellState (telling_of p few (class_of (table_of p) (source_of p) input opts j w r)) s ×
      LeadsMeet (CellState (telling_of p few (class_of (table_of p) (source_of p) input opts j w r))) (source_of p) (answered (source_of p) c.given (drawn j w t)) s c.leads
