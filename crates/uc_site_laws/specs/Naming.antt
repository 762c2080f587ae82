-- States in which all that is to do names what is known.
use Rattle.std.specs.Prelude.{◌<◌, ◌≤◌, ◌^◌, List, [], ◌∷◌, length, Option}
use Rattle.uc_tree.specs.declared.limits.TheConstants.{MEMBERS}
use Rattle.uc_tree.specs.Programs.{Site}
use Rattle.uc_entry.specs.declared.request.Request.{Request}
use Rattle.uc_entry.specs.declared.request.Request.TheVariants as ask
use Rattle.uc_acts.specs.Doors.{site_at}
use Rattle.uc_machine.specs.Pieces as piece
use Rattle.uc_machine.specs.Pieces.{Todo, Active, State, Members, Step, Goes, Ticks, Asks}
use Rattle.uc_site_laws.specs.Resting.{RestsMembers, RestsState}
use Rattle.uc_site_laws.specs.Named.{IsSite, NamedExpr, NamedExprs, NamedMaybe, NamedItems, NamedTargets, NamedDeclared, NamedClean, NamedStmt, NamedStmts, NamedHandlers, NamedClauses}

module _ (sites : List Site) where
  abbrev pub NamedPiece : Todo → Type 0
  NamedPiece (piece.Eval e) = NamedExpr e
  NamedPiece (piece.Choose e f) = NamedExpr e × NamedExpr f
  NamedPiece (piece.Branch a b) = NamedStmt sites a × NamedStmt sites b
  NamedPiece (piece.Arguments es) = NamedExprs es
  NamedPiece (piece.FillNow n b d) = NamedExpr b × NamedExpr d
  NamedPiece (piece.TurnNow o t e b) = NamedExpr t × NamedMaybe e × NamedStmt sites b
  NamedPiece (piece.Again o t e b) = NamedExpr t × NamedMaybe e × NamedStmt sites b
  NamedPiece (piece.Items is) = NamedItems is
  NamedPiece (piece.Values is) = NamedItems is
  NamedPiece (piece.Pieces is) = NamedItems is
  NamedPiece (piece.Targets xs) = NamedTargets xs
  NamedPiece (piece.Variables ds) = NamedDeclared ds
  NamedPiece (piece.Do a) = NamedStmt sites a
  NamedPiece (piece.Rest ss) = NamedStmts sites ss
  NamedPiece (piece.InLoop o t e b) = NamedExpr t × NamedMaybe e × NamedStmt sites b
  NamedPiece (piece.Clean c) = NamedClean c
  NamedPiece (piece.Sweep e) = NamedExpr e
  NamedPiece (piece.Part c) = NamedClean c
  NamedPiece (piece.Guard hs) = NamedHandlers sites hs
  NamedPiece (piece.EnterNow m r) = m ≤ MEMBERS
  NamedPiece (piece.Guards cs) = NamedClauses sites cs
  NamedPiece (piece.AcceptNow site n) = IsSite sites site n
  NamedPiece (piece.ChooseNow cs) = NamedClauses sites cs
  NamedPiece p = Unit {0}

  abbrev pub Named : List Todo → Type 0
  Named [] = Unit {0}
  Named (p ∷ todo) = NamedPiece p × Named todo

  -- an activation
  abbrev pub NamedActive : Active → Type 0
  NamedActive a = Named a.control

  -- what is at home in an object, and a task
  abbrev pub NamedMembers : Option Members → Type 0
  NamedMembers m = RestsMembers NamedActive NamedActive m

  abbrev pub NamedState : State → Type 0
  NamedState s = RestsState NamedActive NamedActive s

  -- a request names what is known: a member by a number that there may be, and an accept statement of these, with a mask of its
  -- clauses
  abbrev pub NamesKnown : Request → Type 0
  NamesKnown (ask.Call o m) = m ≤ MEMBERS
  NamesKnown (ask.Accept o site mask) = (site < length sites) × (mask < 2 ^ length (site_at sites site).clauses)
  NamesKnown r = Unit {0}

  -- a task that has asked this
  pub record NamedAsk (r : Request) (s : State) : Type 0 where
    pub state : NamedState s
    pub names : NamesKnown r

  abbrev pub NamedStep : Step → Type 0
  NamedStep (Goes s) = NamedState s
  NamedStep (Ticks s) = NamedState s
  NamedStep (Asks r s) = NamedAsk r s
