-- Where tasks are in scope nobody is at home who is still to be of a task: of every program, of every task of such a source, and of what an execution
-- has to clean up.
use Rattle.std.specs.Prelude.{◌≡◌, ℕ, true, List, []}
use Rattle.uc_tree.specs.Programs.{Program}
use Rattle.uc_tree.specs.Source.{Source, routine_of}
use Rattle.uc_entry.specs.declared.request.Answer.{Answer}
use Rattle.uc_machine.specs.declared.exec.Exec.{Exec}
use Rattle.uc_machine.specs.Pieces.{Value, Active, State}
use Rattle.uc_machine.specs.Quiet.{quiet, first_state}
use Rattle.uc_machine.specs.Answering.{answered}
use Rattle.uc_answer_laws.specs.Suiting.{Form, IsForm}
use Rattle.uc_resolve.specs.Resolve.{source_of}
use Rattle.uc_rules.specs.Breaks.{breaks_of}
use Rattle.uc_typing.specs.Typing.{Ty, Cell, Obj, Table}
use Rattle.uc_sound.specs.SoundFormed.{IsFormed}
use Rattle.uc_sound.specs.Tables.{table_of}
use Rattle.uc_state_laws.specs.Counted.{CountedSource}
use Rattle.uc_state_laws.specs.Marked.{operands}
use Rattle.uc_place_laws.specs.OlderResting.{AllWait, NamedEnv}
use Rattle.uc_life_laws.specs.Things.{AtVariable, AtField, NoBase, InStack}
use Rattle.uc_tasked_laws.specs.Seated.{SeatedSource, SpawnsSource}
use Rattle.uc_tasked_laws.specs.SeatedStates.{Told, IsFree, Finds, Runs, Waits, SeatedState, SeatedRest, SeatedStep, Fair}
use Rattle.uc_tasked_laws.specs.TaskedRuns.{AllKeep, SeatsKept}

-- in the source of every program each scope of a mutex object that is a variable, and each part that is one, stands behind the statement that makes
-- it; and in that of one that breaks no rule what builds a task lets it begin at its end
pub record LawSeated : Type 0 where
  pub seated : (p : Program) → SeatedSource p (source_of p)
  pub spawns : (p : Program) → IsFormed p → breaks_of p ≡ [] → SpawnsSource p (source_of p)

-- of any such source in which arguments are counted, whatever is told: so it is of a task as it begins, each step keeps that, as far as it finds
-- what it is to find, and so does each answer of the form that was asked for
pub record LawSteps : Type 0 where
  pub begins : (p : Program) (source : Source) (told : Told) → CountedSource source → SeatedSource p source →
      SpawnsSource p source → (r o : ℕ) → SeatedRest p source told 0 (first_state (routine_of source r) o)
  pub steps : (p : Program) (source : Source) (told : Told) → CountedSource source → SeatedSource p source →
      SpawnsSource p source → (s : State) → SeatedState p source told s → Fair p source told s →
      SeatedStep p source told (quiet source s)
  pub told : (p : Program) (source : Source) (told : Told) (form : Form) (given : Answer) (s : State) → IsForm form given →
      Finds p source told (operands form) s.env.exec s.callers s.run →
      AllWait (Runs p source told) (Waits p source told) s.env.exec s.callers →
      NamedEnv (Runs p source told) (Waits p source told) s.env → SeatedRest p source told 0 (answered source given s)
  pub goes_on : (p : Program) (source : Source) (told : Told) (s : State) → SeatedRest p source told 0 s →
      SeatedState p source told s
  pub keeps : (p : Program) (source : Source) (told : Told) (s : State) → SeatedState p source told s → SeatsKept p told s

-- what an execution has to clean up, of variables in scope and of parts of objects under construction
abbrev pub InScope : Table → Exec → List Active → Value → Ty → Type 0
InScope t n cs w a = InStack (AtVariable t) (AtField t) NoBase n cs w a

-- so who is at home where a task is among these is not pending
abbrev pub LawThings : Type 0
LawThings =
    (p : Program) (told : Told) (n : Exec) (cs : List Active) → AllKeep p told n cs →
    (i : ℕ) → (table_of p).tasks i ≡ true → (w : Value) → InScope (table_of p) n cs w (Cell (Obj i)) → IsFree told w
