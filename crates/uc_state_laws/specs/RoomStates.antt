-- Tasks of which all that is to do keeps to its rooms. The room changes at marks alone: outwards of a clean-up it is wider, and what that is
-- for lies between.
use Rattle.std.specs.Prelude.{ℕ, List, [], ◌∷◌}
use Rattle.uc_machine.specs.Pieces as piece
use Rattle.uc_machine.specs.Pieces.{Todo, Sort, sort, Simple, IsLoop, IsWhole, IsClean, IsFill, IsSweep, IsPart, IsGuard, IsFinish, IsFinishCoroutine, Active, State, Members, Step, Goes, Ticks, Asks}
use Rattle.uc_site_laws.specs.Resting.{RestsState}
use Rattle.uc_state_laws.specs.Ordinary.{Ordinary, OrdinaryAll, OrdinaryMaybe, OrdinaryItems, OrdinaryTargets, Evaluated}
use Rattle.uc_state_laws.specs.Rooms.{Room, IsRoom, IsWithin, IsBehind, Clears, Lies, Holds, OwnPart, DeclaredIn, StmtIn, StmtsIn, HandlersIn, ClausesIn}

module _ (Sized : ℕ → ℕ → Type 0) where
  -- a piece that is no mark
  abbrev pub PieceIn : Room → Todo → Type 0
  PieceIn o (piece.Eval e) = Evaluated o.low e
  PieceIn o (piece.Choose e f) = Ordinary e × Ordinary f
  PieceIn o (piece.Branch a b) = StmtIn Sized o a × StmtIn Sized o b
  PieceIn o (piece.Arguments es) = OrdinaryAll es
  PieceIn o (piece.TurnNow order t e b) = Ordinary t × OrdinaryMaybe e × StmtIn Sized o b
  PieceIn o (piece.Again order t e b) = Ordinary t × OrdinaryMaybe e × StmtIn Sized o b
  PieceIn o (piece.ClearNow k n) = Clears o k n
  PieceIn o (piece.Items is) = OrdinaryItems is
  PieceIn o (piece.Values is) = OrdinaryItems is
  PieceIn o (piece.Pieces is) = OrdinaryItems is
  PieceIn o (piece.Targets xs) = OrdinaryTargets xs
  PieceIn o (piece.Variables ds) = DeclaredIn Sized o ds
  PieceIn o (piece.Do a) = StmtIn Sized o a
  PieceIn o (piece.Rest ss) = StmtsIn Sized o ss
  PieceIn o (piece.Guards cs) = ClausesIn Sized o cs
  PieceIn o (piece.ChooseNow cs) = ClausesIn Sized o cs
  PieceIn o p = Unit {0}

  -- a piece by its sort, with what is asked of a simple one, and outwards of it
  abbrev pub Reached : Room → Sort → Type 0 → (Room → Type 0) → Type 0
  Reached o Simple simple rest = simple × rest o
  Reached o (IsLoop order t e b) simple rest = (Ordinary t × OrdinaryMaybe e × StmtIn Sized o b) × rest o
  Reached o IsWhole simple rest = rest o
  Reached o (IsClean c) simple rest = (m : Room) × IsWithin m o × Holds Sized m o c × rest m
  Reached o (IsFill n b d) simple rest = (Evaluated o.low b × Evaluated o.low d) × rest o
  Reached o (IsSweep e) simple rest = Evaluated o.low e × rest o
  Reached o (IsPart c) simple rest = OwnPart Sized c × rest o
  Reached o (IsGuard hs) simple rest = (m h : Room) × IsWithin m o × IsWithin m h × IsBehind o h ×
      HandlersIn Sized h hs × rest m
  Reached o IsFinish simple rest = rest o
  Reached o IsFinishCoroutine simple rest = rest o

  abbrev pub TodoIn : Room → List Todo → Type 0
  TodoIn o [] = IsRoom o
  TodoIn o (p ∷ todo) = Reached o (sort p) (PieceIn o p) (λ m. TodoIn m todo)

  abbrev pub SomeRoom : List Todo → Type 0
  SomeRoom todo = (o : Room) × TodoIn o todo

  -- an activation
  abbrev pub RoomActive : Active → Type 0
  RoomActive a = SomeRoom a.control

  -- a task, and all executions that are at home in it or in what it has in hand
  abbrev pub RoomState : State → Type 0
  RoomState s = RestsState RoomActive RoomActive s

  abbrev pub RoomStep : Step → Type 0
  RoomStep (Goes s) = RoomState s
  RoomStep (Ticks s) = RoomState s
  RoomStep (Asks r s) = RoomState s

  -- all objects that are cleaned up by what is to do lie before a cell of the frame
  abbrev pub IsBefore : ℕ → Sort → Type 0
  IsBefore cell (IsClean c) = Lies Sized 0 cell c
  IsBefore cell k = Unit {0}

  abbrev pub AllBefore : ℕ → List Todo → Type 0
  AllBefore cell [] = Unit {0}
  AllBefore cell (p ∷ todo) = IsBefore cell (sort p) × AllBefore cell todo
