-- What stands where an execution has its object has been there before: what the execution has of others stands outwards of the mark for its object.
use Rattle.std.specs.Prelude.{◌≡◌, ℕ, ◌⊎◌, Bool, true, List, [], ◌∷◌}
use Rattle.uc_tree.specs.Source.{Source, routine_of}
use Rattle.uc_entry.specs.declared.request.Answer.{Answer}
use Rattle.uc_machine.specs.declared.exec.Exec.{Exec}
use Rattle.uc_machine.specs.declared.exec.Owner.TheVariants.{Frame}
use Rattle.uc_machine.specs.Pieces.{Value, Todo, Active, State}
use Rattle.uc_machine.specs.Quiet.{first_state, quiet}
use Rattle.uc_machine.specs.Answering.{answered}
use Rattle.uc_typing.specs.Typing.{Ty, Obj, Table}
use Rattle.uc_life_laws.specs.Things.{Few, AtField, IsFor, InTodo, Base, Things, Stands}
use Rattle.uc_life_laws.specs.Marked.{marks, MarkState, MarkStep, Marks}

-- of each execution the place of its object, and its class; and whether it has been set up and has not ended
pub record Seats : Type 0 where
  pub cell : Exec → Value
  pub class : Exec → ℕ
  pub is_up : Exec → Bool

-- what a mark is for, and all that is outwards of it
abbrev pub MarkIs : Table → Exec → ℕ → Value → Todo → Value → Ty → Type 0
MarkIs t n f this m w a = InTodo (IsFor t (Frame n f) this) (AtField t (Frame n f) this) (m ∷ []) w a

abbrev pub MarkKnows : Table → Few → Exec → ℕ → Value → List Active → Todo → List Todo → Value → Ty → Type 0
MarkKnows t few n f this older m ms w a = InTodo (IsFor t (Frame n f) this) (AtField t (Frame n f) this) (m ∷ ms) w a ⊎
    Things t few n older w a

-- where the object of an execution stands in what a mark is for, what the execution has of others, but that object, stands outwards of the mark
abbrev pub Claimed : Table → Few → Seats → Exec → ℕ → Value → List Active → Todo → List Todo → Type 0
Claimed t few seats n f this older m ms =
    (x : Exec) → seats.is_up x ≡ true → Stands t few (MarkIs t n f this m) (Obj (seats.class x)) (seats.cell x) →
    (w : Value) (a : Ty) → Base few x w a → (w ≡ seats.cell x → ⊥) →
    Stands t few (MarkKnows t few n f this older m ms) a w

-- the object of an execution stands in a mark of these activations
abbrev pub SeatsIn : Table → Few → Seats → Exec → Exec → ℕ → Value → List Todo → Type 0
SeatsIn t few seats x n f this [] = ⊥
SeatsIn t few seats x n f this (m ∷ ms) =
    Stands t few (MarkIs t n f this m) (Obj (seats.class x)) (seats.cell x) ⊎ SeatsIn t few seats x n f this ms

abbrev pub SeatsAmong : Table → Few → Seats → Exec → Exec → List Active → Type 0
SeatsAmong t few seats x n [] = ⊥
SeatsAmong t few seats x n (a ∷ older) = SeatsIn t few seats x n a.frame a.this (marks a.control) ⊎
    SeatsAmong t few seats x n older

-- a task begins so, each quiet step keeps it as long as it is so where a mark is put, and so does each answer; fewer executions may be up; and what
-- an execution whose object stands in a mark has of others stands in the things of these activations
pub record LawClaims : Type 0 where
  pub begins : (t : Table) (few : Few) (seats : Seats) (source : Source) (r o : ℕ) →
      MarkState (Claimed t few seats) (first_state (routine_of source r) o)
  pub steps : (t : Table) (few : Few) (seats : Seats) (source : Source) (s : State) → MarkState (Claimed t few seats) s →
      Marks (Claimed t few seats) s → MarkStep (Claimed t few seats) (quiet source s)
  pub told : (t : Table) (few : Few) (seats : Seats) (source : Source) (given : Answer) (s : State) →
      MarkState (Claimed t few seats) s → MarkState (Claimed t few seats) (answered source given s)
  pub running : (t : Table) (few : Few) (seats : Seats) (s : State) → MarkState (Claimed t few seats) s →
      (x : Exec) → seats.is_up x ≡ true → SeatsAmong t few seats x s.env.exec (s.run ∷ s.callers) →
      (w : Value) (a : Ty) → Base few x w a → (w ≡ seats.cell x → ⊥) →
      Stands t few (Things t few s.env.exec (s.run ∷ s.callers)) a w
