-- Code in which constructors and destructors are called at variables and at fields of the object at hand alone, each by what builds the object or
-- by a clean-up, and in which what holds the mutex object that it builds or destroys is called by what makes or ends that.
use Rattle.std.specs.Prelude.{◌≡◌, ℕ, ◌⊎◌, Bool, true, false, List, Option, Some, None, slice_get}
use Rattle.uc_tree.specs.Source.{Binding, Expr, Exprs, ObjectExpr, Variable, Element, Load, OfObject, OwnField, Counted, CallOn, CallLive, CallUnwritten, EnterOn, EndOn, Bind, MakeOn, NewCluster, NewProcessor, EndCluster, EndProcessor, Item, Target, Declared, CleanUp, Destroys, DestroysAll, Forgets, Ends, Frees, Stmt, Stmts, Skip, Block, Whole, Evaluate, Declare, Print, PrintTogether, Read, If, Loop, Break, Continue, Return, Owes, Fill, OfEvents, OfTasks, Nil, Then, Scoped, Built, Raised, Plainly, BuiltAt, AgainFrom, EventStmt, Throw, Raise, Try, RaiseAt, Enable, Disable, TaskStmt, SetUp, Migrate, Accept, Handlers, NoHandlers, MoreHandlers, Clauses, NoClauses, Otherwise, MoreClauses, Routine, Source}
use Rattle.uc_typing.specs.Typing.{Table}
use Rattle.uc_inner_laws.specs.Walks as walk
use Rattle.uc_life_laws.specs.Ending.{Spot, OfVariable, OfField}
use Rattle.uc_putting_laws.specs.CleanedSpots.{Site, One, Each, Under, NoSite, AnyPlace, IsOver, OpensFor, IsHollow, AllInClass, Reach, reach_of, apart, IsOf, Ascends}

-- whether a clean-up is of the mutex object at hand, as that is destroyed or built; and whether such a scope opens next
abbrev pub of_object : CleanUp → Bool
of_object Ends = true
of_object (Frees r) = true
of_object c = false

abbrev pub opens_object : Stmts → Bool
opens_object (Scoped c rest) = of_object c
opens_object ss = false

abbrev pub opens_at : Option Routine → Bool
opens_at None = false
opens_at (Some r) = opens_object r.body

-- whether the routine of this number begins so
abbrev pub is_opening : Source → ℕ → Bool
is_opening source r = opens_at (slice_get source.routines r)

-- the destructor of a mutex class, which is called for one object as a whole
pub record EndsWhole (t : Table) (r : ℕ) : Type 0 where
  pub class : ℕ
  pub this : (t.routine r).this ≡ Some class
  pub whole : (t.routine r).whole ≡ true

-- `special r`: the routine of this number is a constructor or a destructor
module _ (t : Table) (source : Source) (special : ℕ → Bool) where
  -- an expression that calls none, and binds, makes and ends nothing
  abbrev pub AtCall : ℕ → Exprs → Type 0
  AtCall r args = special r ≡ false

  abbrev pub AtObject : Unit {0} → ObjectExpr → Type 0
  AtObject u (CallOn r e args) = special r ≡ false
  AtObject u (CallLive r e args) = special r ≡ false
  AtObject u (CallUnwritten r e) = special r ≡ false
  AtObject u (EnterOn m r e args) = special r ≡ false
  AtObject u (EndOn r written e) = ⊥
  AtObject u (Bind p e) = ⊥
  AtObject u (MakeOn c r written p args) = ⊥
  AtObject u NewCluster = ⊥
  AtObject u (NewProcessor e) = ⊥
  AtObject u (EndCluster e) = ⊥
  AtObject u (EndProcessor e) = ⊥
  AtObject u o = Unit {0}

  abbrev pub AtTask : Unit {0} → TaskStmt → Type 0
  AtTask u a = Unit {0}

  abbrev pub AtClean : Unit {0} → CleanUp → Type 0
  AtClean u c = Unit {0}

  abbrev pub same : CleanUp → Unit {0} → Unit {0}
  same c u = u

  abbrev pub PlainExpr : Expr → Type 0
  PlainExpr e = walk.InExpr (Unit {0}) same AtCall AtObject AtTask AtClean tt e

  abbrev pub PlainExprs : Exprs → Type 0
  PlainExprs es = walk.InExprs (Unit {0}) same AtCall AtObject AtTask AtClean tt es

  abbrev pub PlainMaybe : Option Expr → Type 0
  PlainMaybe e = walk.InMaybe (Unit {0}) same AtCall AtObject AtTask AtClean tt e

  abbrev pub PlainItems : List Item → Type 0
  PlainItems is = walk.InItems (Unit {0}) same AtCall AtObject AtTask AtClean tt is

  abbrev pub PlainTargets : List Target → Type 0
  PlainTargets xs = walk.InTargets (Unit {0}) same AtCall AtObject AtTask AtClean tt xs

  abbrev pub PlainDeclared : List Declared → Type 0
  PlainDeclared ds = walk.InDeclared (Unit {0}) same AtCall AtObject AtTask AtClean tt ds

  -- what is new: a cluster, a processor
  abbrev pub PlainNew : Expr → Type 0
  PlainNew (OfObject NewCluster) = Unit {0}
  PlainNew (OfObject (NewProcessor e)) = PlainExpr e
  PlainNew e = ⊥

  -- a place at a spot of which this holds, or further, one of so many: a variable; a field of the object at hand; an element of one of these
  abbrev pub PlaceAt : Reach → (ℕ → Spot → Type 0) → Expr → Type 0
  PlaceAt r P (Variable k) = IsOf r (OfVariable k) × P 1 (OfVariable k)
  PlaceAt r P (OfObject (OwnField h i)) = IsOf r (OfField h i) × P 1 (OfField h i)
  PlaceAt r P (Element n s e i) = PlaceAt r (λ m p. P n p) e × PlainExpr i
  PlaceAt r P e = ⊥

  -- such a place is bound, also to what is new
  abbrev pub Binds : Reach → Expr → Type 0
  Binds r (OfObject (Bind p e)) = PlaceAt r AnyPlace p × (PlainExpr e ⊎ PlainNew e)
  Binds r e = ⊥

  -- what builds or destroys an object that is no mutex one, at such a place
  abbrev pub CallsAt : Reach → (Site → Type 0) → Expr → Type 0
  CallsAt r P (OfObject (CallOn q p args)) = (is_opening source q ≡ false) × PlaceAt r (λ n x. P (Under (t.routine q).this n x)) p × PlainExprs args
  CallsAt r P (OfObject (CallUnwritten q p)) = (is_opening source q ≡ false) × PlaceAt r (λ n x. P (Under (t.routine q).this n x)) p
  CallsAt r P e = ⊥

  -- what makes a mutex object at a variable or a field of which this holds; and at an element of such an array
  abbrev pub MakesAt : Reach → (Site → Type 0) → Expr → Type 0
  MakesAt r P (OfObject (MakeOn c q written (Variable k) args)) = P (One (OfVariable k)) × IsOf r (OfVariable k) × PlainExprs args
  MakesAt r P (OfObject (MakeOn c q written (OfObject (OwnField h i)) args)) = P (One (OfField h i)) × IsOf r (OfField h i) × PlainExprs args
  MakesAt r P e = ⊥

  abbrev pub MakesEach : Reach → (Site → Type 0) → Expr → Type 0
  MakesEach r P (OfObject (MakeOn c q written (Element n Binding (Variable k) (OfObject Counted)) args)) = P (Each n (OfVariable k)) × IsOf r (OfVariable k) × PlainExprs args
  MakesEach r P (OfObject (MakeOn c q written (Element n Binding (OfObject (OwnField h i)) (OfObject Counted)) args)) = P (Each n (OfField h i)) × IsOf r (OfField h i) × PlainExprs args
  MakesEach r P e = ⊥

  -- what ends one there
  abbrev pub EndsAt : Reach → (Site → Type 0) → Expr → Type 0
  EndsAt r P (OfObject (EndOn q written (Load (Variable k)))) = P (One (OfVariable k)) × IsOf r (OfVariable k) × EndsWhole t q
  EndsAt r P (OfObject (EndOn q written (Load (OfObject (OwnField h i))))) = P (One (OfField h i)) × IsOf r (OfField h i) × EndsWhole t q
  EndsAt r P e = ⊥

  abbrev pub EndsEach : Reach → (Site → Type 0) → Expr → Type 0
  EndsEach r P (OfObject (EndOn q written (Load (Element n Binding (Variable k) (OfObject Counted))))) = P (Each n (OfVariable k)) × IsOf r (OfVariable k) × EndsWhole t q
  EndsEach r P (OfObject (EndOn q written (Load (Element n Binding (OfObject (OwnField h i)) (OfObject Counted))))) = P (Each n (OfField h i)) × IsOf r (OfField h i) × EndsWhole t q
  EndsEach r P e = ⊥

  -- what ends a cluster or a processor there
  abbrev pub EndsNumber : Reach → (Site → Type 0) → Expr → Type 0
  EndsNumber r P (OfObject (EndCluster (Load p))) = PlaceAt r (λ n x. P (Under None n x)) p
  EndsNumber r P (OfObject (EndProcessor (Load p))) = PlaceAt r (λ n x. P (Under None n x)) p
  EndsNumber r P e = ⊥

  -- what a statement evaluates by itself, where the scope of what is at a site opens behind it
  abbrev pub Evaluates : Reach → (Site → Type 0) → Expr → Type 0
  Evaluates r P e = PlainExpr e ⊎ (Binds r e ⊎ (CallsAt r P e ⊎ MakesAt r P e))

  -- what builds one element of an array after another, and what destroys them
  abbrev pub FillsBy : Reach → (Site → Type 0) → Expr → Type 0
  FillsBy r P e = Binds r e ⊎ (CallsAt r P e ⊎ MakesEach r P e)

  abbrev pub SweepsBy : Reach → (Site → Type 0) → Expr → Type 0
  SweepsBy r P e = EndsNumber r P e ⊎ (CallsAt r P e ⊎ EndsEach r P e)

  -- a clean-up of what is at its spot, but for those of the mutex object at hand; an execution is forgotten by what builds or destroys its coroutine
  abbrev pub CleansBy : Reach → CleanUp → Type 0
  CleansBy r (Destroys e) = EndsNumber r (IsOver t (Destroys e)) e ⊎ (CallsAt r (IsOver t (Destroys e)) e ⊎ EndsAt r (IsOver t (Destroys e)) e)
  CleansBy r (DestroysAll n e) = SweepsBy r (IsOver t (DestroysAll n e)) e
  CleansBy r Forgets = r.builds ≡ true
  CleansBy r Ends = ⊥
  CleansBy r (Frees q) = ⊥
  CleansBy r c = Unit {0}

  -- an event is built in the hidden cells of its statement; it holds no mutex object
  abbrev pub RaisesBy : Reach → Raised → Type 0
  RaisesBy r (Plainly n) = Unit {0}
  RaisesBy r (BuiltAt n k e) = CallsAt r (IsHollow t k) e
  RaisesBy r (AgainFrom k) = Unit {0}

  -- a statement behind which the scope of what is at such a site opens. Statements within others name no fields of the object at hand
  abbrev mutual
    pub CallingStmt : (Site → Type 0) → Reach → Stmt → Type 0
    CallingStmt P r (Skip line) = Unit {0}
    CallingStmt P r (Block line body) = CallingStmts (apart r) body
    CallingStmt P r (Whole line body) = CallingStmts (apart r) body
    CallingStmt P r (Evaluate line e) = Evaluates r P e
    CallingStmt P r (Declare line ds) = PlainDeclared ds
    CallingStmt P r (Print line items) = PlainItems items
    CallingStmt P r (PrintTogether line items) = PlainItems items
    CallingStmt P r (Read line xs) = PlainTargets xs
    CallingStmt P r (If line e a b) = PlainExpr e × CallingStmt NoSite (apart r) a × CallingStmt NoSite (apart r) b
    CallingStmt P r (Loop line o e step b) = PlainExpr e × PlainMaybe step × CallingStmt NoSite (apart r) b
    CallingStmt P r (Break line) = Unit {0}
    CallingStmt P r (Continue line) = Unit {0}
    CallingStmt P r (Return line e) = PlainMaybe e
    CallingStmt P r (Owes line) = Unit {0}
    CallingStmt P r (Fill line n b d) = FillsBy r P b × SweepsBy r P d
    CallingStmt P r (OfEvents a) = CallingEvent r a
    CallingStmt P r (OfTasks a) = CallingTask r a

    pub CallingStmts : Reach → Stmts → Type 0
    CallingStmts r Nil = Unit {0}
    CallingStmts r (Then a rest) = CallingStmt (OpensFor t rest) r a × CallingStmts r rest
    CallingStmts r (Scoped c rest) = CleansBy r c × CallingStmts r rest
    CallingStmts r (Built c rest) = CleansBy r c × CallingStmts r rest

    pub CallingEvent : Reach → EventStmt → Type 0
    CallingEvent r (Throw line x) = RaisesBy r x
    CallingEvent r (Raise line x) = RaisesBy r x
    CallingEvent r (Try line body hs) = CallingStmts (apart r) body × CallingHandlers (apart r) hs
    CallingEvent r (RaiseAt line x e) = RaisesBy r x × PlainExpr e
    CallingEvent r (Enable line events cell a) = CallingStmt NoSite (apart r) a
    CallingEvent r (Disable line events cell a) = CallingStmt NoSite (apart r) a

    -- a handler may run as an activation of its own
    pub CallingHandlers : Reach → Handlers → Type 0
    CallingHandlers r NoHandlers = Unit {0}
    CallingHandlers r (MoreHandlers resumes event cell line body rest) =
        CallingStmts r body × CallingHandlers r rest

    pub CallingTask : Reach → TaskStmt → Type 0
    CallingTask r (SetUp q) = (r.builds ≡ true) × (special q ≡ false)
    CallingTask r (Migrate line e) = PlainExpr e
    CallingTask r (Accept line site cs) = CallingClauses (apart r) cs
    CallingTask r a = Unit {0}

    pub CallingClauses : Reach → Clauses → Type 0
    CallingClauses r NoClauses = Unit {0}
    CallingClauses r (Otherwise b) = CallingStmt NoSite r b
    CallingClauses r (MoreClauses guard b cs) = PlainExpr guard × CallingStmt NoSite r b × CallingClauses r cs

  -- the main of a task that begins
  abbrev pub Begins : Option ℕ → Type 0
  Begins None = Unit {0}
  Begins (Some r) = special r ≡ false

  -- what holds the mutex object that it destroys or builds, as a whole
  abbrev pub Opening : Reach → Stmts → Type 0
  Opening r (Scoped Ends rest) = CallingStmts r rest × Ascends 0 rest
  Opening r (Scoped (Frees q) rest) = Begins q × CallingStmts r rest × Ascends 0 rest
  Opening r ss = ⊥

  -- in a constructor and a destructor fields get their marks in order; the object at hand is of this class
  abbrev pub CallingBody : Bool → Option ℕ → Stmts → Type 0
  CallingBody true o ss = (CallingStmts (reach_of true o) ss × Ascends 0 ss) ⊎ Opening (reach_of true o) ss
  CallingBody false o ss = CallingStmts (reach_of false o) ss

  abbrev pub CallingRoutine : Bool → Option ℕ → Option Routine → Type 0
  CallingRoutine b o None = Unit {0}
  CallingRoutine b o (Some r) = CallingBody b o r.body

  -- mutex objects lie in fields of its object alone in which they may
  abbrev pub FieldsInClass : Option ℕ → Option Routine → Type 0
  FieldsInClass o None = Unit {0}
  FieldsInClass o (Some r) = AllInClass t o r.body

  -- the routines of a source
  pub record CallingSource : Type 0 where
    pub routines : (n : ℕ) → CallingRoutine (special n) (t.routine n).this (slice_get source.routines n)
    pub fields : (n : ℕ) → FieldsInClass (t.routine n).this (slice_get source.routines n)
    pub main : special source.main ≡ false
