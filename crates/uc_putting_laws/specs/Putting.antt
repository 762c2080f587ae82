-- To-do lists before which the places of the objects that are built and destroyed lie among the operands: what is called there is the execution's
-- own, and nothing that is to be cleaned up stands around mutex objects in it.
use Rattle.std.specs.Prelude.{◌≡◌, ℕ, zero, suc, pos, ◌<◌, ◌≤◌, ◌⊎◌, Bool, true, false, List, [], ◌∷◌, Option, Some, None}
use Rattle.uc_tree.specs.declared.limits.TheConstants.{DESTRUCTOR}
use Rattle.uc_tree.specs.Source.{Shape, Binding, Expr, Exprs, Variable, Element, Load, OfObject, OwnField, Counted, Item, Target, Declared, CleanUp, Ends, Frees, Stmt, Stmts, Handlers, Clauses, Routine, Source}
use Rattle.uc_entry.specs.declared.request.Request.{Request}
use Rattle.uc_entry.specs.declared.request.Request.TheVariants as ask
use Rattle.uc_machine.specs.declared.exec.Exec.{Exec}
use Rattle.uc_machine.specs.declared.exec.Home.{Home}
use Rattle.uc_machine.specs.declared.exec.Owner.TheVariants.{Frame}
use Rattle.uc_machine.specs.declared.exec.Visited.{Visited}
use Rattle.uc_machine.specs.Pieces as piece
use Rattle.uc_machine.specs.Pieces.{Slot, FieldAt, Value, Number, Place, Object, further, Todo, Sort, sort, Active, State, Members, Step, Goes, Ticks, Asks, top, below}
use Rattle.uc_answer_laws.specs.Suiting.{Form, form_of_request}
use Rattle.uc_typing.specs.Typing.{Cell, Obj, Table}
use Rattle.uc_state_laws.specs.Counted.{params, count, CountedExpr, CountedExprs, CountedMaybe, CountedItems, CountedTargets, CountedDeclared, CountedClean, CountedStmt, CountedStmts, CountedHandlers, CountedClauses}
use Rattle.uc_state_laws.specs.Marked.{operands}
use Rattle.uc_life_laws.specs.Things.{Few, Stands}
use Rattle.uc_life_laws.specs.Marks.{Outward, Lone}
use Rattle.uc_life_laws.specs.Ending.{Spot, OfVariable, OfField}
use Rattle.uc_place_laws.specs.OlderResting.{AllWait, NamedMembers, NamedEnv, NamedState}
use Rattle.uc_putting_laws.specs.CleanedSpots.{Site, One, Each, Under, site_spot, NoSite, AnySite, HasSome, spot_of, HoldsObjects, MayHold, OpensFor, LiesInClass, AllInClass, Reach, apart, IsOf, IsIn, AllBelow, IsOutermost, Ascends}
use Rattle.uc_putting_laws.specs.ObjectsAtHand.{LiesUnder, LiesIn}
use Rattle.uc_putting_laws.specs.Seats.{GuardsCode, Searched, IsSeated}
use Rattle.uc_putting_laws.specs.Calling.{is_opening, PlainExpr, PlainExprs, PlainMaybe, PlainItems, PlainTargets, PlainDeclared, PlainNew, Binds, PlaceAt, CallsAt, MakesAt, MakesEach, EndsAt, EndsEach, EndsNumber, FillsBy, SweepsBy, CleansBy, CallingStmt, CallingStmts, CallingHandlers, CallingClauses, Begins, Opening, CallingRoutine}

-- a source with the table of its types, what there is, and which routines are constructors and destructors
pub record Setting : Type 0 where
  pub table : Table
  pub few : Few
  pub source : Source
  pub special : ℕ → Bool

-- whose activation it is, with which frame, as which handler, with which object at hand, and the activations that wait for it
pub record Around : Type 0 where
  pub exec : Exec
  pub frame : ℕ
  pub handles : Option Visited
  pub this : Value
  pub older : List Active

abbrev pub around : Exec → Active → List Active → Around
around n a older = record { exec = n; frame = a.frame; handles = a.handles; this = a.this; older = older }

-- a value is an object that is at home at this place
pub record IsHome (few : Few) (v place : Value) : Type 0 where
  pub number : ℕ
  pub object : v ≡ Object number
  pub home : few.home number ≡ place

-- what is known of an operand: nothing, that it is a place at a site, or an object that is at home there, or the number of elements that stand of an array
pub data Mark : Type 0 where
  Any : Mark
  At : Site → Mark
  Homed : Site → Mark
  Counter : Mark

abbrev pub rest : List Mark → List Mark
rest [] = []
rest (m ∷ ms) = ms

-- behind so many operands
abbrev pub rests : ℕ → List Mark → List Mark
rests zero ms = ms
rests (suc n) ms = rest (rests n ms)

-- in front of these so many of which nothing is known
abbrev pub anys : ℕ → List Mark → List Mark
anys zero ms = ms
anys (suc n) ms = anys n (Any ∷ ms)

-- the first lies at a spot of which this holds, or further, one of so many
abbrev pub FirstUnder : List Mark → (ℕ → Spot → Type 0) → Type 0
FirstUnder (At (Under o n p) ∷ ms) next = next n p
FirstUnder ms next = ⊥

-- it is a place at a site of which this holds; so is it of the object that is at home there
abbrev pub FirstAt : List Mark → (Site → Type 0) → Type 0
FirstAt (At x ∷ ms) next = next x
FirstAt ms next = ⊥

abbrev pub FirstHome : List Mark → (Site → Type 0) → Type 0
FirstHome (Homed x ∷ ms) next = next x
FirstHome ms next = ⊥

-- the first is that number; so is what an expression stands for
abbrev pub FirstCounter : List Mark → Type 0
FirstCounter (Counter ∷ ms) = Unit {0}
FirstCounter ms = ⊥

abbrev pub IsCounter : Expr → Type 0
IsCounter (OfObject Counted) = Unit {0}
IsCounter e = ⊥

-- the destruction of an object comes next
abbrev pub IsEnding : List Todo → Type 0
IsEnding (piece.EnterNow m r ∷ todo) = m ≡ DESTRUCTOR
IsEnding (piece.TickNow ∷ (piece.EnterNow m r ∷ todo)) = m ≡ DESTRUCTOR
IsEnding todo = ⊥

-- this routine is called next, on an object
abbrev pub IsCallOf : ℕ → List Todo → Type 0
IsCallOf r (piece.CallOnNow k ∷ todo) = k ≡ r
IsCallOf r (piece.CallUnwrittenNow k ∷ todo) = k ≡ r
IsCallOf r todo = ⊥

-- a site of mutex objects
abbrev pub OfObjects : Site → Type 0
OfObjects (One p) = Unit {0}
OfObjects (Each n p) = Unit {0}
OfObjects (Under o n p) = ⊥

-- the scope of what is at a site opens next, or that is a part from then on
abbrev pub OpensRest : Table → List Todo → Site → Type 0
OpensRest t (piece.Rest ss ∷ todo) x = OpensFor t ss x
OpensRest t todo x = ⊥

-- a place at a site is found
abbrev pub Located : Expr → (Site → Type 0) → Type 0
Located (Variable k) next = next (One (OfVariable k))
Located (OfObject (OwnField h i)) next = next (One (OfField h i))
Located (Element n Binding (Variable k) (OfObject Counted)) next = next (Each n (OfVariable k))
Located (Element n Binding (OfObject (OwnField h i)) (OfObject Counted)) next = next (Each n (OfField h i))
Located e next = ⊥

-- that of an element, behind that of its array, or of what is no mutex object there; `C`: it is the one that is counted
abbrev pub Enters : Type 0 → ℕ → Shape → Site → (Site → Type 0) → Type 0
Enters C n s (Under o m p) next = next (Under o n p)
Enters C n Binding (One p) next = C × next (Each n p)
Enters C n s x next = ⊥

-- what is there is loaded
abbrev pub Loads : Expr → (Site → Type 0) → Type 0
Loads (Load e) next = Located e next
Loads e next = ⊥

module _ (few : Few) (A : Around) where
  abbrev pub spot_at : Spot → Value
  spot_at (OfVariable k) = Place (Frame A.exec A.frame) (Slot k ∷ [])
  spot_at (OfField h i) = further (FieldAt h i) A.this

  -- where so many elements stand
  module _ (many : ℕ) where
    -- a place at a site, of an array that of the element that is counted
    abbrev pub StandsAt : Site → Value → Type 0
    StandsAt (One p) v = v ≡ spot_at p
    StandsAt (Each n p) v = (many < n) × (v ≡ further (piece.At Binding many) (spot_at p))
    StandsAt (Under o n p) v = (0 < n) × LiesUnder (spot_at p) v

    -- an object that is at home there
    abbrev pub HomedAt : Site → Value → Type 0
    HomedAt x v = (place : Value) × StandsAt x place × IsHome few v place

    abbrev pub Meets : Mark → Value → Type 0
    Meets Any v = Unit {0}
    Meets (At x) v = StandsAt x v
    Meets (Homed x) v = HomedAt x v
    Meets Counter v = v ≡ Number (pos many)

    -- of the newest operands, the first mark for the newest; of what lies below nothing is known
    abbrev pub Holds : List Mark → List Value → Type 0
    Holds [] vs = Unit {0}
    Holds (m ∷ ms) vs = Meets m (top vs) × Holds ms (below vs)

-- nothing that is to be cleaned up by what is to do and by activations that wait stands around a mutex object that lies at a site, or in one that is at
-- home there
abbrev pub LoneAt : Table → Few → Around → List Todo → Site → Type 0
LoneAt t few A todo x = (v : Value) (e : ℕ) → LiesIn few (spot_at few A (site_spot x)) v →
    Stands t few (Outward t A.exec A.frame A.this A.older todo) (Cell (Obj e)) v → ⊥

module _ (g : Setting) where
  -- behind what is at this variable: handlers that a search finds which goes out from what is to do name variables from this one on, which lies behind all
  -- variables that the activation does not name, and behind that one, where a mutex object may lie in what is there
  abbrev pub IsPast : Around → Reach → List Todo → ℕ → Site → Type 0
  IsPast A r todo k x = (cell : ℕ) × (r.low ≤ cell) × GuardsCode g.table g.source g.special cell todo ×
      Searched g.table g.source g.special cell A.handles A.frame A.older × (MayHold g.table x → HasSome x → k < cell)

  -- a mutex object may lie in the object at hand, where one may lie in what is at a field of that
  abbrev pub BehindBy : Around → Reach → List Todo → Spot → Site → Type 0
  BehindBy A r todo (OfVariable k) x = IsPast A r todo k x
  BehindBy A r todo (OfField h i) x = MayHold g.table x → HasSome x → HoldsObjects g.table r.class

  -- where something may be built or destroyed
  abbrev pub SeatAt : Around → Reach → List Todo → Site → Type 0
  SeatAt A r todo x = LoneAt g.table g.few A todo x × BehindBy A r todo (site_spot x) x

  abbrev pub Counts : Expr → Type 0
  Counts e = CountedExpr g.source e

  abbrev pub Plain : Expr → Type 0
  Plain e = PlainExpr g.table g.source g.special e

  -- code in which arguments are counted and constructors and destructors are called where they may be
  abbrev pub CodeExpr : Expr → Type 0
  CodeExpr e = Counts e × Plain e

  abbrev pub CodeExprs : Exprs → Type 0
  CodeExprs es = CountedExprs g.source es × PlainExprs g.table g.source g.special es

  abbrev pub CodeMaybe : Option Expr → Type 0
  CodeMaybe e = CountedMaybe g.source e × PlainMaybe g.table g.source g.special e

  abbrev pub CodeItems : List Item → Type 0
  CodeItems is = CountedItems g.source is × PlainItems g.table g.source g.special is

  abbrev pub CodeTargets : List Target → Type 0
  CodeTargets xs = CountedTargets g.source xs × PlainTargets g.table g.source g.special xs

  abbrev pub CodeDeclared : List Declared → Type 0
  CodeDeclared ds = CountedDeclared g.source ds × PlainDeclared g.table g.source g.special ds

  abbrev pub CodeStmt : (Site → Type 0) → Reach → Stmt → Type 0
  CodeStmt P r a = CountedStmt g.source a × CallingStmt g.table g.source g.special P r a

  abbrev pub CodeStmts : Reach → Stmts → Type 0
  CodeStmts r ss = CountedStmts g.source ss × CallingStmts g.table g.source g.special r ss

  abbrev pub CodeHandlers : Reach → Handlers → Type 0
  CodeHandlers r hs = CountedHandlers g.source hs × CallingHandlers g.table g.source g.special r hs

  abbrev pub CodeClauses : Reach → Clauses → Type 0
  CodeClauses r cs = CountedClauses g.source cs × CallingClauses g.table g.source g.special r cs

  abbrev pub CodeLoop : Reach → Expr → Option Expr → Stmt → Type 0
  CodeLoop r t e b = CodeExpr t × CodeMaybe e × CodeStmt NoSite (apart r) b

  abbrev pub CodeSweep : Reach → (Site → Type 0) → Expr → Type 0
  CodeSweep r P e = Counts e × SweepsBy g.table g.source g.special r P e

  abbrev pub CodeFill : Reach → (Site → Type 0) → Expr → Type 0
  CodeFill r P e = Counts e × FillsBy g.table g.source g.special r P e

  -- statements of a constructor or a destructor, which put marks for fields in order, with this to do behind them
  abbrev pub CodeSpine : Reach → Stmts → List Todo → Type 0
  CodeSpine r ss todo = CodeStmts r ss × ((n : ℕ) × AllBelow n todo × Ascends n ss) × AllInClass g.table r.class ss

  -- the mutex object at hand is destroyed, or built
  abbrev pub CodeOpening : Around → Reach → Stmts → List Todo → Type 0
  CodeOpening A r ss todo = (r.builds ≡ true) × CountedStmts g.source ss × Opening g.table g.source g.special r ss ×
      AllBelow 0 todo × Lone g.table g.few A.exec A.frame A.this A.older todo × AllInClass g.table r.class ss

  -- statements within others, or all of what is no constructor and no destructor; those of one; or all of what has a mutex object at hand
  abbrev pub CodeRest : Around → Reach → Stmts → List Todo → Type 0
  CodeRest A r ss todo = CodeStmts (apart r) ss ⊎ (CodeSpine r ss todo ⊎ CodeOpening A r ss todo)

  -- the mutex object at hand is at home in what is the execution's own, where nothing is cleaned up by what is to do
  abbrev pub IsLone : Around → List Todo → Type 0
  IsLone A todo = Lone g.table g.few A.exec A.frame A.this A.older todo

  -- a scope; of that in which the mutex object at hand is built its main is told, and that nothing is cleaned up around the object outwards of it; there, and
  -- where it is destroyed, the activation builds or destroys something
  abbrev pub CodeScope : Around → Reach → CleanUp → List Todo → Type 0
  CodeScope A r Ends todo = (r.builds ≡ true)
  CodeScope A r (Frees q) todo = Begins g.table g.source g.special q × IsLone A todo × (r.builds ≡ true)
  CodeScope A r c todo = CountedClean g.source c × CleansBy g.table g.source g.special r c × IsOutermost (spot_of c) todo ×
      LiesInClass g.table r.class c

  abbrev pub CodePart : Reach → CleanUp → List Todo → Type 0
  CodePart r c todo = CountedClean g.source c × CleansBy g.table g.source g.special r c × IsOutermost (spot_of c) todo ×
      LiesInClass g.table r.class c

  -- a routine, at an object of this class
  abbrev pub CodeRoutine : Bool → Option ℕ → Option Routine → Type 0
  CodeRoutine b o None = Unit {0}
  CodeRoutine b o (Some r) = CountedStmts g.source r.body × CallingRoutine g.table g.source g.special b o (Some r) ×
      AllInClass g.table o r.body

  -- the marks behind a piece; behind one of statements nothing is known
  abbrev pub after : Todo → List Mark → List Mark
  after (piece.ElementNow n k) ms = Any ∷ rest (rest ms)
  after (piece.FieldNow k i) ms = Any ∷ rest ms
  after piece.NegateNow ms = Any ∷ rest ms
  after piece.NotNow ms = Any ∷ rest ms
  after piece.CharacterNow ms = Any ∷ rest ms
  after piece.TruthNow ms = Any ∷ rest ms
  after (piece.OperateNow op) ms = Any ∷ rest (rest ms)
  after piece.CopyNow ms = Any ∷ ms
  after piece.CopyBelowNow ms = Any ∷ ms
  after piece.DropNow ms = rest ms
  after piece.DropBelowNow ms = Any ∷ rest (rest ms)
  after piece.StoreNow ms = rest (rest ms)
  after piece.KeepNow ms = Any ∷ rest (rest ms)
  after (piece.SetNow k) ms = ms
  after piece.BindNow ms = Any ∷ rest (rest ms)
  after (piece.Choose e f) ms = Any ∷ rest ms
  after (piece.Arguments es) ms = anys (count es) ms
  after piece.TickNow ms = ms
  after (piece.CallNow r) ms = Any ∷ rests (params g.source r) ms
  after (piece.CallOnNow r) ms = Any ∷ rests (suc (params g.source r)) ms
  after (piece.CallUnwrittenNow r) ms = Any ∷ rests (suc (params g.source r)) ms
  after (piece.LiveNow r) ms = ms
  after (piece.EnterNow m r) ms = ms
  after piece.LeaveNow ms = ms
  after piece.ClusterNow ms = Any ∷ ms
  after piece.ProcessorNow ms = Any ∷ rest ms
  after piece.ClusterEndNow ms = Any ∷ rest ms
  after piece.ProcessorEndNow ms = Any ∷ rest ms
  after (piece.ConditionNow k n) ms = Any ∷ rest ms
  after piece.WaitNow ms = Any ∷ rest (rest ms)
  after piece.SignalNow ms = Any ∷ rest ms
  after piece.SignalBlockNow ms = Any ∷ rest ms
  after piece.EmptyNow ms = Any ∷ rest ms
  after piece.FrontNow ms = Any ∷ rest ms
  after (piece.ReadNow form) ms = Any ∷ ms
  after piece.RaiseNow ms = rests 3 ms
  after piece.DeliverNow ms = rests 3 ms
  after piece.PollNow ms = ms
  after (piece.ClearNow k n) ms = ms
  after piece.Land ms = ms
  after p ms = []

  -- behind what made an object, or bound it: the object that is at home at a spot, or any one, below the arguments of its constructor
  abbrev pub made_marks : ℕ → Mark → List Mark → List Mark
  made_marks r m ms = anys (params g.source r) (m ∷ rests (suc (params g.source r)) ms)

  module _ (A : Around) (made : Reach) where
    -- what is called: no constructor and no destructor; one of an object that is no mutex one, at a spot or further; or one of a mutex object that is
    -- at home at a site. Nothing stands around mutex objects there
    abbrev pub CallFits : ℕ → List Mark → List Todo → Type 0
    CallFits r ms todo = (g.special r ≡ false) ⊎
        (((is_opening g.source r ≡ false) × FirstUnder (rests (params g.source r) ms) (λ n p. IsOf made p × SeatAt A made todo (Under (g.table.routine r).this n p))) ⊎
        FirstHome (rests (params g.source r) ms) (λ x. IsIn made x × SeatAt A made todo x × OfObjects x))

    -- the code of a piece, with what is to do behind it, but for those of which more is asked
    abbrev pub CodePiece : Todo → List Mark → List Todo → Type 0
    CodePiece (piece.Choose e f) ms todo = CodeExpr e × CodeExpr f
    CodePiece (piece.Branch a b) ms todo = CodeStmt NoSite (apart made) a × CodeStmt NoSite (apart made) b
    CodePiece (piece.Arguments es) ms todo = CodeExprs es
    CodePiece (piece.CallNow r) ms todo = g.special r ≡ false
    CodePiece (piece.CallOnNow r) ms todo = CallFits r ms todo
    CodePiece (piece.CallUnwrittenNow r) ms todo = CallFits r ms todo
    CodePiece (piece.FillNow n b d) ms todo = CodeFill made (SeatAt A made todo) b × CodeSweep made (SeatAt A made todo) d
    CodePiece (piece.TurnNow o t e b) ms todo = CodeLoop made t e b
    CodePiece (piece.Again o t e b) ms todo = CodeLoop made t e b
    CodePiece (piece.Items is) ms todo = CodeItems is
    CodePiece (piece.Values is) ms todo = CodeItems is
    CodePiece (piece.Pieces is) ms todo = CodeItems is
    CodePiece (piece.Targets xs) ms todo = CodeTargets xs
    CodePiece (piece.Variables ds) ms todo = CodeDeclared ds
    CodePiece (piece.Do a) ms todo = CodeStmt (OpensRest g.table todo) made a
    CodePiece (piece.Rest ss) ms todo = CodeRest A made ss todo
    CodePiece (piece.InLoop o t e b) ms todo = CodeLoop made t e b
    CodePiece (piece.Clean c) ms todo = CodeScope A made c todo
    CodePiece (piece.Sweep e) ms todo = CodeSweep made (SeatAt A made todo) e
    CodePiece (piece.Part c) ms todo = CodePart made c todo
    CodePiece (piece.Guard hs) ms todo = CodeHandlers (apart made) hs
    CodePiece (piece.Guards cs) ms todo = CodeClauses (apart made) cs
    CodePiece (piece.ChooseNow cs) ms todo = CodeClauses (apart made) cs
    CodePiece piece.BindNow ms todo = FirstUnder (rest ms) (λ n p. IsOf made p)
    CodePiece piece.ForgetNow ms todo = made.builds ≡ true
    CodePiece (piece.SetUpNow r) ms todo = (made.builds ≡ true) × (g.special r ≡ false)
    CodePiece (piece.EnterNow m r) ms todo = IsCallOf r todo
    CodePiece piece.MadeNow ms todo = IsLone A todo
    CodePiece piece.GoneNow ms todo = made.builds ≡ true
    CodePiece piece.GiveUpNow ms todo = made.builds ≡ true
    CodePiece (piece.SpawnNow r) ms todo = (g.special r ≡ false) × IsLone A todo
    CodePiece (piece.ChildNow r) ms todo = g.special r ≡ false
    CodePiece p ms todo = Unit {0}

    -- one who leaves a simple piece comes to what stands behind it; at a mark that may be done
    abbrev pub LeftBy : Sort → List Todo → Type 0 → Type 0 → Type 0
    LeftBy piece.Simple todo left ok = left
    LeftBy (piece.IsLoop o t e b) todo left ok = CodeLoop made t e b × ok
    LeftBy piece.IsWhole todo left ok = ok
    LeftBy (piece.IsClean c) todo left ok = CodeScope A made c todo × ok
    LeftBy (piece.IsFill n b d) todo left ok = (CodeFill made (SeatAt A made todo) b × CodeSweep made (SeatAt A made todo) d) × ok
    LeftBy (piece.IsSweep e) todo left ok = CodeSweep made (SeatAt A made todo) e × ok
    LeftBy (piece.IsPart c) todo left ok = CodePart made c todo × ok
    LeftBy (piece.IsGuard hs) todo left ok = CodeHandlers (apart made) hs × ok
    LeftBy piece.IsFinish todo left ok = ok
    LeftBy piece.IsFinishCoroutine todo left ok = ok

    abbrev mutual
      -- a to-do list is in order before operands of which this is known. Where a place is found, and where what is there is loaded, something may be
      -- known of it or not
      pub Ok : List Mark → List Todo → Type 0
      Ok ms [] = Unit {0}
      Ok ms (piece.Eval e ∷ todo) = Counts e ×
          ((Plain e × Ok (Any ∷ ms) todo) ⊎
          ((Binds g.table g.source g.special made e × Ok (Any ∷ ms) todo) ⊎
          ((PlainNew g.table g.source g.special e × Ok (Any ∷ ms) todo) ⊎
          ((CallsAt g.table g.source g.special made (SeatAt A made todo) e × Ok (Any ∷ ms) todo) ⊎
          (PlaceAt g.table g.source g.special made (λ n p. Ok (At (Under None n p) ∷ ms) todo) e ⊎
          (Located e (λ x. Ok (At x ∷ ms) todo) ⊎
          ((IsEnding todo × Loads e (λ x. Ok (Homed x ∷ ms) todo)) ⊎
          (((MakesAt g.table g.source g.special made (SeatAt A made todo) e ⊎ MakesEach g.table g.source g.special made (SeatAt A made todo) e) × Ok (Any ∷ ms) todo) ⊎
          (((EndsAt g.table g.source g.special made (SeatAt A made todo) e ⊎ EndsEach g.table g.source g.special made (SeatAt A made todo) e) × Ok (Any ∷ ms) todo) ⊎
          ((EndsNumber g.table g.source g.special made AnySite e × Ok (Any ∷ ms) todo) ⊎
          (IsCounter e × Ok (Counter ∷ ms) todo)))))))))))
      Ok ms (piece.LoadNow ∷ todo) = Ok (Any ∷ rest ms) todo ⊎
          (IsEnding todo × FirstAt ms (λ x. Ok (Homed x ∷ rest ms) todo))
      Ok ms (piece.ElementNow n k ∷ todo) = Ok (Any ∷ rest (rest ms)) todo ⊎
          FirstAt (rest ms) (λ x. Enters (FirstCounter ms) n k x (λ y. Ok (At y ∷ rest (rest ms)) todo))
      Ok ms (piece.MakeNow c r ∷ todo) =
          FirstAt (rests (params g.source r) ms) (λ x. IsIn made x × Ok (made_marks r (Homed x) ms) todo)
      Ok ms (piece.BindMadeNow c r ∷ todo) =
          FirstAt (rests (params g.source r) (rest ms)) (λ x. IsIn made x × Ok (made_marks r (Homed x) (rest ms)) todo)
      Ok ms (piece.Exit w ∷ todo) = Left todo
      Ok ms (piece.Unwind ∷ todo) = Left todo
      Ok ms (p ∷ todo) = CodePiece p ms todo × Ok (after p ms) todo

      -- it is for one who leaves it
      pub Left : List Todo → Type 0
      Left [] = Unit {0}
      Left (p ∷ todo) = LeftBy (sort p) todo (Left todo) (Ok [] todo)

  -- an activation of the execution n, before these older ones, that is to find so many operands in front of its own
  pub record Finds (many : ℕ) (n : Exec) (older : List Active) (a : Active) : Type 0 where
    pub made : Reach
    pub this : IsSeated g.table g.source g.special g.few made n older a.frame a.handles a.this
    pub marks : List Mark
    pub holds : Holds g.few (around n a older) a.elements marks a.operands
    pub ok : Ok (around n a older) made (anys many marks) a.control

  abbrev pub Runs : Exec → List Active → Active → Type 0
  Runs n older a = Finds 0 n older a

  abbrev pub Waits : Exec → List Active → Active → Type 0
  Waits n older a = Finds 1 n older a

  abbrev pub PutMembers : Home → Option Members → Type 0
  PutMembers h m = NamedMembers Runs Waits h m

  abbrev pub PutState : State → Type 0
  PutState s = NamedState Runs Waits s

  -- what comes with an answer of a form
  abbrev pub FindsFor : Form → Exec → List Active → Active → Type 0
  FindsFor form n older a = Finds (operands form) n older a

  -- behind a request: so many operands come with the answer; behind an end and a fault nothing is done
  abbrev pub FindsBehind : Request → Exec → List Active → Active → Type 0
  FindsBehind ask.End n older a = Unit {0}
  FindsBehind (ask.Fault f) n older a = Unit {0}
  FindsBehind r n older a = FindsFor (form_of_request r) n older a

  pub record PutAsk (r : Request) (s : State) : Type 0 where
    pub run : FindsBehind r s.env.exec s.callers s.run
    pub callers : AllWait Runs Waits s.env.exec s.callers
    pub env : NamedEnv Runs Waits s.env

  abbrev pub PutStep : Step → Type 0
  PutStep (Goes s) = PutState s
  PutStep (Ticks s) = PutState s
  PutStep (Asks r s) = PutAsk r s
