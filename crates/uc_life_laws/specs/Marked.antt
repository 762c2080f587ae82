-- Tasks in which something holds of each mark at which something is cleaned up: of a scope, or of a part of an object under construction. What
-- it is may depend on the name of the execution, the frame and the object of the activation, those that wait for it, the clean-up, and the marks
-- behind it, and on no value that a frame holds.
use Rattle.std.specs.Prelude.{ℕ, List, [], ◌∷◌, Option}
use Rattle.uc_tree.specs.Source.{Restores, Scoped, Built, OfEvents, Enable, Disable}
use Rattle.uc_machine.specs.declared.exec.Exec.{Exec}
use Rattle.uc_machine.specs.declared.exec.Home.{Home}
use Rattle.uc_machine.specs.Executions.{Execution}
use Rattle.uc_machine.specs.Pieces.{Value, Todo, Do, Rest, Clean, Part, Sort, sort, IsClean, IsPart, Active, State, Members, Step, Goes, Ticks, Asks}
use Rattle.uc_life_laws.specs.LifeStates.{MembersBy, EnvBy}

-- the marks of what is to do, the innermost first
abbrev pub mark_or : Sort → List Todo → List Todo
mark_or (IsClean c) ms = Clean c ∷ ms
mark_or (IsPart c) ms = Part c ∷ ms
mark_or k ms = ms

abbrev pub marks : List Todo → List Todo
marks [] = []
marks (p ∷ todo) = mark_or (sort p) (marks todo)

-- `P n f this older m ms`: what holds of a mark m before these marks, in an activation of the execution n with this frame and this object, before
-- these older ones
module _ (P : Exec → ℕ → Value → List Active → Todo → List Todo → Type 0) where
  abbrev pub OfMark : Exec → ℕ → Value → List Active → Sort → List Todo → Type 0 → Type 0
  OfMark n f this older (IsClean c) todo rest = P n f this older (Clean c) (marks todo) × rest
  OfMark n f this older (IsPart c) todo rest = P n f this older (Part c) (marks todo) × rest
  OfMark n f this older k todo rest = rest

  abbrev pub AllMarked : Exec → ℕ → Value → List Active → List Todo → Type 0
  AllMarked n f this older [] = Unit {0}
  AllMarked n f this older (p ∷ todo) = OfMark n f this older (sort p) todo (AllMarked n f this older todo)

  abbrev pub MarkStack : Exec → List Active → Type 0
  MarkStack n [] = Unit {0}
  MarkStack n (a ∷ older) = AllMarked n a.frame a.this older a.control × MarkStack n older

  -- an execution of this name that does not run
  abbrev pub MarkEx : Exec → Execution (List Todo) Value → Type 0
  MarkEx n x = MarkStack n (x.run ∷ x.callers)

  abbrev pub MarkMembers : Home → Option Members → Type 0
  MarkMembers h m = MembersBy MarkEx h m

  pub record MarkState (s : State) : Type 0 where
    pub stack : MarkStack s.env.exec (s.run ∷ s.callers)
    pub env : EnvBy MarkEx s.env

  abbrev pub MarkStep : Step → Type 0
  MarkStep (Goes s) = MarkState s
  MarkStep (Ticks s) = MarkState s
  MarkStep (Asks r s) = MarkState s

  -- what is to hold where a mark is put: where a scope opens, where a part of an object is built, and where a statement keeps the enabled events
  abbrev pub MarksAt : List Todo → State → Type 0
  MarksAt (Rest (Scoped c rest) ∷ todo) s = P s.env.exec s.run.frame s.run.this s.callers (Clean c) (marks todo)
  MarksAt (Rest (Built c rest) ∷ todo) s = P s.env.exec s.run.frame s.run.this s.callers (Part c) (marks todo)
  MarksAt (Do (OfEvents (Enable line events cell a)) ∷ todo) s = P s.env.exec s.run.frame s.run.this s.callers (Clean (Restores cell)) (marks todo)
  MarksAt (Do (OfEvents (Disable line events cell a)) ∷ todo) s = P s.env.exec s.run.frame s.run.this s.callers (Clean (Restores cell)) (marks todo)
  MarksAt todo s = Unit {0}

  abbrev pub Marks : State → Type 0
  Marks s = MarksAt s.run.control s
