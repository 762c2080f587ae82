-- Tasks in which parts of objects under construction are taken over by those who wait for the constructors: where a part is of what destroys a coroutine, so is
-- what opens behind the call.
use Rattle.std.specs.Prelude.{◌≡◌, ℕ, Bool, true, List, [], ◌∷◌, Option, Some, drop, length, slice_get}
use Rattle.uc_tree.specs.Source.{CleanUp, Ends, Stmts, Scoped, Built, Routine, Source}
use Rattle.uc_machine.specs.declared.exec.Exec.{Exec}
use Rattle.uc_machine.specs.declared.exec.Home.{Home}
use Rattle.uc_machine.specs.Pieces as piece
use Rattle.uc_machine.specs.Pieces.{Value, Nothing, Todo, Active, State, Members, Step, Goes, Ticks, Asks, top, below}
use Rattle.uc_life_laws.specs.Destroying.{Seat, CleansUp, EndsElement}
use Rattle.uc_place_laws.specs.OlderResting.{NamedMembers, NamedState}
use Rattle.uc_parts_laws.specs.Parts.{AllParts, IsOrderly}

-- a source, which of its routines are constructors and destructors, and where mutex objects are at home
pub record Setting : Type 0 where
  pub source : Source
  pub special : ℕ → Bool
  pub home : ℕ → Value

-- a coroutine, or the object of a task, at a place
pub record Spot : Type 0 where
  pub place : Value
  pub task : Bool

abbrev pub seat_at : Setting → Spot → Seat
seat_at g v = record { place = v.place; task = v.task; home = g.home }

module _ (g : Setting) where
  -- of an activation of the execution n, in which these statements are left behind a call: what cleans up there comes to the end of what is at v
  abbrev pub OpensOver : Spot → Exec → Active → Stmts → Type 0
  OpensOver v n a (Scoped c rest) = CleansUp g.source (seat_at g v) n a.frame a.this c
  OpensOver v n a (Built c rest) = CleansUp g.source (seat_at g v) n a.frame a.this c
  OpensOver v n a ss = ⊥

  -- so it is behind what it waits for, or one more element stands then
  abbrev pub OverIn : Spot → Exec → Active → List Todo → Type 0
  OverIn v n a (piece.DropNow ∷ (piece.Within line ∷ (piece.Rest ss ∷ todo))) = OpensOver v n a ss
  OverIn v n a (piece.DropNow ∷ (piece.MoreNow ∷ (piece.FillNow m b d ∷ todo))) =
      EndsElement g.source (seat_at g v) n a.frame a.this a.elements d
  OverIn v n a todo = ⊥

  abbrev pub Over : Spot → Exec → List Active → Type 0
  Over v n [] = ⊥
  Over v n (a ∷ older) = OverIn v n a a.control

  -- a part of the object at hand is taken over by who waits; and so is the task that this is
  abbrev pub IsTaken : Exec → List Active → ℕ → Value → CleanUp → Type 0
  IsTaken n older f this Ends = Over (record { place = piece.Object (piece.object_in this); task = true }) n older
  IsTaken n older f this c = (v : Spot) → CleansUp g.source (seat_at g v) n f this c → Over v n older

  -- an activation of the execution n before these older ones
  abbrev pub InParts : Exec → List Active → Active → Type 0
  InParts n older a = IsOrderly g.special (IsTaken n older a.frame a.this) a.elements a.control

  abbrev pub PartsMembers : Home → Option Members → Type 0
  PartsMembers h m = NamedMembers InParts InParts h m

  abbrev pub PartsState : State → Type 0
  PartsState s = NamedState InParts InParts s

  abbrev pub PartsStep : Step → Type 0
  PartsStep (Goes s) = PartsState s
  PartsStep (Ticks s) = PartsState s
  PartsStep (Asks r s) = PartsState s

  -- what is to hold where a constructor is called: each part that it is to build is taken over by who calls it
  abbrev pub TakenOn : ℕ → State → List Todo → Type 0
  TakenOn r s todo = g.special r ≡ true → (x : Routine) → slice_get g.source.routines r ≡ Some x →
      AllParts g.special (IsTaken s.env.exec (record s.run { control = todo; operands = below (drop x.params s.run.operands) } ∷ s.callers) (length s.env.frames) (top (drop x.params s.run.operands))) x.body

  abbrev pub CallsTakenBy : List Todo → State → Type 0
  CallsTakenBy (piece.CallNow r ∷ todo) s = g.special r ≡ true → (x : Routine) → slice_get g.source.routines r ≡ Some x →
      AllParts g.special (IsTaken s.env.exec (record s.run { control = todo; operands = drop x.params s.run.operands } ∷ s.callers) (length s.env.frames) Nothing) x.body
  CallsTakenBy (piece.CallOnNow r ∷ todo) s = TakenOn r s todo
  CallsTakenBy (piece.CallUnwrittenNow r ∷ todo) s = TakenOn r s todo
  CallsTakenBy todo s = Unit {0}

  abbrev pub CallsTaken : State → Type 0
  CallsTaken s = CallsTakenBy s.run.control s
