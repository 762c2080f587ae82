-- What an answer, a new object and a new task make of a state.
use Rattle.std.specs.Prelude.{ℕ, pos, List, [], ◌∷◌, ◌++◌, Option, Some, None}
use Rattle.uc_entry.specs.declared.request.Answer.{Answer}
use Rattle.uc_entry.specs.declared.request.Answer.TheVariants as answer
use Rattle.uc_tree.specs.Source.{Source, routine_of, cells_of_class}
use Rattle.uc_machine.specs.Quiet.{Number, Object, Nothing, Value, State, Todo, BindMadeNow, ChildNow, Members, truth, zeros, first_state}

abbrev pub with_hand : List (ℕ × Members) → State → State
with_hand hand s = record s { env = record s.env { hand = hand } }

-- a task with a new operand
abbrev pub with_operand : Value → State → State
with_operand v s = record s { run = record s.run { operands = v ∷ s.run.operands } }

-- what the mutex object that was asked for begins with, as the innermost piece tells; a cluster and a processor are none
abbrev pub new_members : Source → List Todo → Option Members
new_members source (BindMadeNow c r ∷ todo) = Some (zeros (cells_of_class source c))
new_members source _ = None

-- a new mutex object is the last in hand, and the task is inside it once
abbrev pub entered : Option Members → ℕ → State → State
entered None o s = s
entered (Some m) o s = record s { env = record s.env { hand = s.env.hand ++ (o, m) ∷ []; depths = (o, 1) ∷ s.env.depths } }

-- the state that goes on with an answer: what it tells is the newest operands, the first one oldest; a new mutex object comes into its
-- hand
abbrev pub answered : Source → Answer → State → State
answered source (answer.Number n) s = with_operand (Number n) s
answered source (answer.Value n failed) s = with_operand (Number n) s
answered source (answer.Object o) s = with_operand (Object o) (entered (new_members source s.run.control) o s)
answered source (answer.Clause k failed) s = with_operand (Number (truth failed)) (with_operand (Number (pos k)) s)
answered source (answer.Event n x y) s = with_operand (Number y) (with_operand (Number x) (with_operand (Number (pos n)) s))
answered source answer.Nothing s = with_operand Nothing (with_operand Nothing (with_operand Nothing s))
answered source answer.Go s = s

-- the main of the task that is spawned, as the innermost piece tells
abbrev pub child_main : Source → List Todo → ℕ
child_main source (ChildNow r ∷ todo) = r
child_main source _ = source.main

-- the task, with its object o, that is spawned by one in this state
abbrev pub child_of : Source → ℕ → State → State
child_of source o s = first_state (routine_of source (child_main source s.run.control)) o
