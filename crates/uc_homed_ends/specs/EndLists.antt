-- To-do lists in which mutex objects are ended by clean-ups alone: nothing in them is evaluated or loaded for that yet.
use Rattle.std.specs.Prelude.{◌≡◌, false, List, [], ◌∷◌, Option}
use Rattle.uc_machine.specs.Pieces as piece
use Rattle.uc_machine.specs.Pieces.{Todo, Active, State, Members, Step, Goes, Ticks, Asks}
use Rattle.uc_site_laws.specs.Resting.{RestsMembers, RestsState}
use Rattle.uc_typing.specs.Typing.{Table}
use Rattle.uc_homed_ends.specs.EndCode.{FreeExpr, FreeExprs, FreeMaybe, FreeItems, FreeTargets, FreeDeclared, FreeClean, FreeSweep, FreeStmt, FreeStmts, FreeHandlers, FreeClauses}

-- no object is entered next
abbrev pub NoEntering : List Todo → Type 0
NoEntering (piece.EnterNow m r ∷ todo) = ⊥
NoEntering todo = Unit {0}

abbrev pub NoEnding : List Todo → Type 0
NoEnding (piece.EnterNow m r ∷ todo) = ⊥
NoEnding (piece.TickNow ∷ todo) = NoEntering todo
NoEnding todo = Unit {0}

module _ (t : Table) where
  -- a piece, with what is to do behind it
  abbrev pub FreePiece : Todo → List Todo → Type 0
  FreePiece (piece.Eval e) todo = FreeExpr t e × NoEnding todo
  FreePiece piece.LoadNow todo = NoEnding todo
  FreePiece (piece.Choose e f) todo = FreeExpr t e × FreeExpr t f × NoEnding todo
  FreePiece (piece.Branch a b) todo = FreeStmt t a × FreeStmt t b
  FreePiece (piece.Arguments es) todo = FreeExprs t es
  FreePiece (piece.FillNow n b d) todo = FreeExpr t b × FreeSweep t d
  FreePiece (piece.TurnNow o e step b) todo = FreeExpr t e × FreeMaybe t step × FreeStmt t b
  FreePiece (piece.Again o e step b) todo = FreeExpr t e × FreeMaybe t step × FreeStmt t b
  FreePiece (piece.Items is) todo = FreeItems t is
  FreePiece (piece.Values is) todo = FreeItems t is
  FreePiece (piece.Pieces is) todo = FreeItems t is
  FreePiece (piece.Targets xs) todo = FreeTargets t xs
  FreePiece (piece.Variables ds) todo = FreeDeclared t ds
  FreePiece (piece.Do a) todo = FreeStmt t a
  FreePiece (piece.Rest ss) todo = FreeStmts t ss
  FreePiece (piece.InLoop o e step b) todo = FreeExpr t e × FreeMaybe t step × FreeStmt t b
  FreePiece (piece.Clean c) todo = FreeClean t c
  FreePiece (piece.Sweep e) todo = FreeSweep t e
  FreePiece (piece.Part c) todo = FreeClean t c
  FreePiece (piece.Guard hs) todo = FreeHandlers t hs
  FreePiece (piece.EnterNow m r) todo = (t.routine r).whole ≡ false
  FreePiece (piece.Guards cs) todo = FreeClauses t cs
  FreePiece (piece.ChooseNow cs) todo = FreeClauses t cs
  FreePiece p todo = Unit {0}

  abbrev pub FreeList : List Todo → Type 0
  FreeList [] = Unit {0}
  FreeList (p ∷ todo) = FreePiece p todo × FreeList todo

  -- an activation
  abbrev pub FreeActive : Active → Type 0
  FreeActive a = FreeList a.control

  -- what is at home in an object, and a task
  abbrev pub FreeMembers : Option Members → Type 0
  FreeMembers m = RestsMembers FreeActive FreeActive m

  abbrev pub FreeState : State → Type 0
  FreeState s = RestsState FreeActive FreeActive s

  abbrev pub FreeStep : Step → Type 0
  FreeStep (Goes s) = FreeState s
  FreeStep (Ticks s) = FreeState s
  FreeStep (Asks r s) = FreeState s
