-- Marks are put for what is the execution's own, and nothing stands around fields, as long as homes are right where objects are bound and loaded.
use Rattle.std.specs.Prelude.{◌≡◌, ℕ, Bool, true, false, List, [], ◌∷◌, drop, Option, Some, None, slice_get}
use Rattle.uc_tree.specs.declared.kinds.Role.{Role}
use Rattle.uc_tree.specs.declared.kinds.Role.TheVariants as role
use Rattle.uc_tree.specs.Programs.{Program}
use Rattle.uc_tree.specs.Source.{routine_of}
use Rattle.uc_entry.specs.declared.request.Answer.{Answer}
use Rattle.uc_machine.specs.Pieces as piece
use Rattle.uc_machine.specs.Pieces.{Todo, State, loaded, top, below}
use Rattle.uc_machine.specs.Quiet.{quiet, first_state}
use Rattle.uc_machine.specs.Answering.{answered}
use Rattle.uc_answer_laws.specs.Suiting.{Form, IsForm}
use Rattle.uc_resolve.specs.Resolve.{source_of}
use Rattle.uc_rules.specs.Breaks.{breaks_of}
use Rattle.uc_sound.specs.SoundFormed.{IsFormed}
use Rattle.uc_sound.specs.Tables.{table_of}
use Rattle.uc_state_laws.specs.Layout.{Sized}
use Rattle.uc_state_laws.specs.RoomStacks.{StackState}
use Rattle.uc_state_laws.specs.Makers.{roles}
use Rattle.uc_state_laws.specs.Counted.{params, CountedSource}
use Rattle.uc_life_laws.specs.Things.{Few}
use Rattle.uc_life_laws.specs.LifeRuns.{IsLaidOut}
use Rattle.uc_life_laws.specs.Marks.{Puts}
use Rattle.uc_place_laws.specs.OlderResting.{AllWait, NamedEnv}
use Rattle.uc_putting_laws.specs.Calling.{CallingSource}
use Rattle.uc_putting_laws.specs.Putting.{Setting, IsHome, IsEnding, FindsFor, Runs, Waits, PutState, PutStep}

-- a constructor or a destructor, by its role
abbrev pub is_special : Option Role → Bool
is_special None = false
is_special (Some role.Plain) = false
is_special (Some role.Constructor) = true
is_special (Some role.Destructor) = true

abbrev pub special_of : Program → ℕ → Bool
special_of p r = is_special (slice_get (roles p) r)

abbrev pub setting_of : Program → Few → Setting
setting_of p few = record { table = table_of p; few = few; source = source_of p; special = special_of p }

-- in the source of every program that breaks no rule constructors and destructors are called where they may be
abbrev pub LawCalling : Type 0
LawCalling = (p : Program) → IsFormed p → breaks_of p ≡ [] →
    CallingSource (table_of p) (source_of p) (special_of p)

module _ (g : Setting) where
  -- what is left to find for a step: where an object is bound, and where one that is to be destroyed is loaded, it is at home at that place
  abbrev pub FairAt : List Todo → State → Type 0
  FairAt (piece.LoadNow ∷ todo) s = IsEnding todo → IsHome g.few (loaded (top s.run.operands) s.env) (top s.run.operands)
  FairAt (piece.BindMadeNow c r ∷ todo) s = IsHome g.few (top s.run.operands) (top (drop (params g.source r) (below s.run.operands)))
  FairAt todo s = Unit {0}

  abbrev pub Fair : State → Type 0
  Fair s = FairAt s.run.control s

-- of any such source in which arguments are counted: what is known of operands holds as a task begins with a main; each step of a task whose
-- activations stay behind one another in their frames, with a table in which fields lie within the cells of their classes, keeps it where it finds
-- that; and so does each answer of the form that was asked for
pub record LawSteps : Type 0 where
  pub begins : (g : Setting) → CountedSource g.source → CallingSource g.table g.source g.special →
      (r o : ℕ) → g.special r ≡ false → PutState g (first_state (routine_of g.source r) o)
  pub steps : (p : Program) (g : Setting) → CountedSource g.source →
      CallingSource g.table g.source g.special → IsLaidOut (Sized p) g.table →
      (s : State) → PutState g s → StackState (Sized p) s → Fair g s → PutStep g (quiet g.source s)
  pub told : (g : Setting) (form : Form) (given : Answer) (s : State) → IsForm form given →
      FindsFor g form s.env.exec s.callers s.run →
      AllWait (Runs g) (Waits g) s.env.exec s.callers → NamedEnv (Runs g) (Waits g) s.env →
      PutState g (answered g.source given s)

-- a mark that is put next is put as it is to be
abbrev pub LawPuts : Type 0
LawPuts = (g : Setting) (s : State) → PutState g s → Puts g.table g.few s
