-- To-do lists before which the number of an event lies among the operands, as deep as the piece that raises it at another execution expects.
use Rattle.std.specs.Prelude.{◌≡◌, ℕ, zero, suc, ◌<◌, ◌⊎◌, pos, List, [], ◌∷◌, Option}
use Rattle.uc_tree.specs.declared.limits.TheConstants.{EVENTS}
use Rattle.uc_tree.specs.Source as src
use Rattle.uc_tree.specs.Source.{Expr, Source}
use Rattle.uc_entry.specs.declared.request.Request.{Request}
use Rattle.uc_entry.specs.declared.request.Request.TheVariants as ask
use Rattle.uc_machine.specs.Pieces as piece
use Rattle.uc_machine.specs.Pieces.{Value, Number, Todo, Sort, sort, Active, State, Members, Step, Goes, Ticks, Asks, top, below}
use Rattle.uc_answer_laws.specs.Suiting.{Form, AnObject, AClause, ANumber, AValue, AnEvent, JustGo, form_of_request}
use Rattle.uc_site_laws.specs.Resting.{AllWait, RestsEnv, RestsMembers, RestsState}
use Rattle.uc_state_laws.specs.Counted.{params, count, CountedExpr, CountedExprs, CountedMaybe, CountedItems, CountedTargets, CountedDeclared, CountedClean, CountedStmt, CountedStmts, CountedHandlers, CountedClauses}

-- what is known of an operand: nothing, or that it is the number of this event
pub data Mark : Type 0 where
  Any : Mark
  Event : ℕ → Mark

abbrev pub Meets : Mark → Value → Type 0
Meets Any v = Unit {0}
Meets (Event k) v = v ≡ Number (pos k)

-- of the newest operands, the first mark for the newest; of what lies below nothing is known
abbrev pub Holds : List Mark → List Value → Type 0
Holds [] vs = Unit {0}
Holds (m ∷ ms) vs = Meets m (top vs) × Holds ms (below vs)

abbrev pub rest : List Mark → List Mark
rest [] = []
rest (m ∷ ms) = ms

-- behind so many operands
abbrev pub rests : ℕ → List Mark → List Mark
rests zero ms = ms
rests (suc n) ms = rest (rests n ms)

-- in front of these so many of which nothing is known
abbrev pub anys : ℕ → List Mark → List Mark
anys zero ms = ms
anys (suc n) ms = anys n (Any ∷ ms)

-- the first is the number of an event
abbrev pub IsEvent : List Mark → Type 0
IsEvent [] = ⊥
IsEvent (Any ∷ ms) = ⊥
IsEvent (Event k ∷ ms) = k < EVENTS

-- how many operands an answer of a form brings
abbrev pub operands : Form → ℕ
operands AnObject = 1
operands AClause = 2
operands ANumber = 1
operands AValue = 1
operands AnEvent = 3
operands JustGo = 0

-- what a literal is known to be
abbrev pub Known : Expr → (ℕ → Type 0) → Type 0
Known (src.Literal (pos k)) next = next k
Known e next = ⊥

-- an event that is raised at a task has a number below 64
abbrev pub EventKnown : Request → Type 0
EventKnown (ask.Raise o event x y) = event < EVENTS
EventKnown r = Unit {0}

module _ (source : Source) where
  -- the marks behind a piece; behind one of statements nothing is known
  abbrev pub after : Todo → List Mark → List Mark
  after piece.LoadNow ms = Any ∷ rest ms
  after (piece.ElementNow n k) ms = Any ∷ rest (rest ms)
  after (piece.FieldNow k i) ms = Any ∷ rest ms
  after piece.NegateNow ms = Any ∷ rest ms
  after piece.NotNow ms = Any ∷ rest ms
  after piece.CharacterNow ms = Any ∷ rest ms
  after piece.TruthNow ms = Any ∷ rest ms
  after (piece.OperateNow op) ms = Any ∷ rest (rest ms)
  after piece.CopyNow ms = Any ∷ ms
  after piece.CopyBelowNow ms = Any ∷ ms
  after piece.DropNow ms = rest ms
  after piece.DropBelowNow ms = Any ∷ rest (rest ms)
  after piece.StoreNow ms = rest (rest ms)
  after piece.KeepNow ms = Any ∷ rest (rest ms)
  after (piece.SetNow k) ms = ms
  after piece.BindNow ms = Any ∷ rest (rest ms)
  after (piece.Choose e f) ms = Any ∷ rest ms
  after (piece.Arguments es) ms = anys (count es) ms
  after piece.TickNow ms = ms
  after (piece.CallNow r) ms = Any ∷ rests (params source r) ms
  after (piece.CallOnNow r) ms = Any ∷ rests (suc (params source r)) ms
  after (piece.CallUnwrittenNow r) ms = Any ∷ rests (suc (params source r)) ms
  after (piece.LiveNow r) ms = ms
  after (piece.EnterNow m r) ms = ms
  after (piece.MakeNow c r) ms = anys (suc (params source r)) (rests (suc (params source r)) ms)
  after (piece.BindMadeNow c r) ms = anys (suc (params source r)) (rests (suc (params source r)) (rest ms))
  after piece.LeaveNow ms = ms
  after piece.ClusterNow ms = Any ∷ ms
  after piece.ProcessorNow ms = Any ∷ rest ms
  after piece.ClusterEndNow ms = Any ∷ rest ms
  after piece.ProcessorEndNow ms = Any ∷ rest ms
  after (piece.ConditionNow k n) ms = Any ∷ rest ms
  after piece.WaitNow ms = Any ∷ rest (rest ms)
  after piece.SignalNow ms = Any ∷ rest ms
  after piece.SignalBlockNow ms = Any ∷ rest ms
  after piece.EmptyNow ms = Any ∷ rest ms
  after piece.FrontNow ms = Any ∷ rest ms
  after (piece.ReadNow form) ms = Any ∷ ms
  after piece.RaiseNow ms = rests 3 ms
  after piece.DeliverNow ms = rests 3 ms
  after piece.PollNow ms = ms
  after (piece.ClearNow k n) ms = ms
  after piece.Land ms = ms
  after p ms = []

  -- the code of a piece
  abbrev pub CountedPiece : Todo → Type 0
  CountedPiece (piece.Eval e) = CountedExpr source e
  CountedPiece (piece.Choose e f) = CountedExpr source e × CountedExpr source f
  CountedPiece (piece.Branch a b) = CountedStmt source a × CountedStmt source b
  CountedPiece (piece.Arguments es) = CountedExprs source es
  CountedPiece (piece.FillNow n b d) = CountedExpr source b × CountedExpr source d
  CountedPiece (piece.TurnNow o t e b) = CountedExpr source t × CountedMaybe source e × CountedStmt source b
  CountedPiece (piece.Again o t e b) = CountedExpr source t × CountedMaybe source e × CountedStmt source b
  CountedPiece (piece.Items is) = CountedItems source is
  CountedPiece (piece.Values is) = CountedItems source is
  CountedPiece (piece.Pieces is) = CountedItems source is
  CountedPiece (piece.Targets xs) = CountedTargets source xs
  CountedPiece (piece.Variables ds) = CountedDeclared source ds
  CountedPiece (piece.Do a) = CountedStmt source a
  CountedPiece (piece.Rest ss) = CountedStmts source ss
  CountedPiece (piece.InLoop o t e b) = CountedExpr source t × CountedMaybe source e × CountedStmt source b
  CountedPiece (piece.Clean c) = CountedClean source c
  CountedPiece (piece.Sweep e) = CountedExpr source e
  CountedPiece (piece.Part c) = CountedClean source c
  CountedPiece (piece.Guard hs) = CountedHandlers source hs
  CountedPiece (piece.Guards cs) = CountedClauses source cs
  CountedPiece (piece.ChooseNow cs) = CountedClauses source cs
  CountedPiece p = Unit {0}

  -- one who leaves a simple piece comes to what stands behind it; at a mark that may be done
  abbrev pub LeftBy : Sort → Type 0 → Type 0 → Type 0
  LeftBy piece.Simple left ok = left
  LeftBy (piece.IsLoop o t e b) left ok = (CountedExpr source t × CountedMaybe source e × CountedStmt source b) × ok
  LeftBy piece.IsWhole left ok = ok
  LeftBy (piece.IsClean c) left ok = CountedClean source c × ok
  LeftBy (piece.IsFill n b d) left ok = (CountedExpr source b × CountedExpr source d) × ok
  LeftBy (piece.IsSweep e) left ok = CountedExpr source e × ok
  LeftBy (piece.IsPart c) left ok = CountedClean source c × ok
  LeftBy (piece.IsGuard hs) left ok = CountedHandlers source hs × ok
  LeftBy piece.IsFinish left ok = ok
  LeftBy piece.IsFinishCoroutine left ok = ok

  abbrev mutual
    -- a to-do list is in order before operands of which this is known; what a literal gives may be known or not
    pub Ok : List Mark → List Todo → Type 0
    Ok ms [] = Unit {0}
    Ok ms (piece.Eval e ∷ todo) = CountedExpr source e × (Ok (Any ∷ ms) todo ⊎ Known e (λ k. Ok (Event k ∷ ms) todo))
    Ok ms (piece.Exit w ∷ todo) = Left todo
    Ok ms (piece.Unwind ∷ todo) = Left todo
    Ok ms (piece.RaiseAtNow ∷ todo) = IsEvent (rests 3 ms) × Ok [] todo
    Ok ms (p ∷ todo) = CountedPiece p × Ok (after p ms) todo

    -- it is for one who leaves it
    pub Left : List Todo → Type 0
    Left [] = Unit {0}
    Left (p ∷ todo) = LeftBy (sort p) (Left todo) (Ok [] todo)

  -- an activation that is to find so many operands in front of its own
  pub record Finds (n : ℕ) (a : Active) : Type 0 where
    pub marks : List Mark
    pub holds : Holds marks a.operands
    pub ok : Ok (anys n marks) a.control

  abbrev pub Runs : Active → Type 0
  Runs a = Finds 0 a

  abbrev pub Waits : Active → Type 0
  Waits a = Finds 1 a

  abbrev pub MarkedMembers : Option Members → Type 0
  MarkedMembers m = RestsMembers Runs Waits m

  abbrev pub MarkedState : State → Type 0
  MarkedState s = RestsState Runs Waits s

  -- behind a request: so many operands come with the answer; behind an end and a fault nothing is done
  abbrev pub FindsBehind : Request → Active → Type 0
  FindsBehind ask.End a = Unit {0}
  FindsBehind (ask.Fault n) a = Unit {0}
  FindsBehind r a = Finds (operands (form_of_request r)) a

  -- a task that has asked this
  pub record MarkedAsk (r : Request) (s : State) : Type 0 where
    pub run : FindsBehind r s.run
    pub callers : AllWait Runs Waits s.callers
    pub env : RestsEnv Runs Waits s.env
    pub event : EventKnown r

  abbrev pub MarkedStep : Step → Type 0
  MarkedStep (Goes s) = MarkedState s
  MarkedStep (Ticks s) = MarkedState s
  MarkedStep (Asks r s) = MarkedAsk r s
