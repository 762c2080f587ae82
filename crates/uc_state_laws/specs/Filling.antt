-- How an array that is a variable is filled: its elements are clusters, processors or mutex objects, and are bound one by one, with no call
-- between but that of a constructor without arguments.
use Rattle.std.specs.Prelude.{ℕ, suc, ℤ, List, [], ◌∷◌, Bool, true, false}
use Rattle.uc_tree.specs.Source.{Binding, Expr, Literal, Variable, Element, OfObject, NoExprs, Counted, Bind, MakeOn, NewCluster, NewProcessor, DestroysAll, Stmts, Fill, Scoped}
use Rattle.uc_machine.specs.Pieces.{Link, Slot, At, Todo, Eval, ElementNow, DropNow, BindNow, Arguments, TickNow, CallOnNow, CallUnwrittenNow, CountNow, MoreNow, FillNow, MakeNow, BindMadeNow, ClusterNow, ProcessorNow, Do, Rest, Within}

-- what each element is bound to: a new cluster, a new processor of the cluster with this number, or a new mutex object of a class, which a
-- constructor builds that somebody wrote or nobody
pub data Kind : Type 0 where
  Cluster : Kind
  Processor : ℤ → Kind
  Object : ℕ → ℕ → Bool → Kind

-- an array: the first of its cells, how many elements it has, what each is bound to and what destroys one, the line of the statement, what
-- destroys one of the scope behind it, the statements of that, and what is to do behind them
pub record Array : Type 0 where
  pub cell : ℕ
  pub count : ℕ
  pub kind : Kind
  pub destroys : Expr
  pub line : ℕ
  pub ended : Expr
  pub rest : Stmts
  pub todo : List Todo

-- the place of an element in its frame
abbrev pub element_at : ℕ → ℕ → List Link
element_at k j = At Binding j ∷ (Slot k ∷ [])

-- the element that is counted, and what binds it
abbrev pub counted : Array → Expr
counted x = Element x.count Binding (Variable x.cell) (OfObject Counted)

abbrev pub binder : Kind → Expr → Expr
binder Cluster p = OfObject (Bind p (OfObject NewCluster))
binder (Processor i) p = OfObject (Bind p (OfObject (NewProcessor (Literal i))))
binder (Object c r written) p = OfObject (MakeOn c r written p NoExprs)

-- what is to do behind an element that is bound
abbrev pub scope_todo : Array → List Todo
scope_todo x = Rest (Scoped (DestroysAll x.count x.ended) x.rest) ∷ x.todo

abbrev pub again_todo : Array → List Todo
again_todo x = FillNow x.count (binder x.kind (counted x)) x.destroys ∷ (Within x.line ∷ scope_todo x)

abbrev pub turn_todo : Array → List Todo
turn_todo x = DropNow ∷ (MoreNow ∷ again_todo x)

-- the call of a constructor
abbrev pub call : Bool → ℕ → Todo
call true r = CallOnNow r
call false r = CallUnwrittenNow r

-- what is to do once the place of the element is found, on the way to the request, as it is asked, as its answer is told, and once the element
-- is bound
abbrev pub found_todo : Kind → List Todo → List Todo
found_todo Cluster todo = Eval (OfObject NewCluster) ∷ (BindNow ∷ todo)
found_todo (Processor i) todo = Eval (OfObject (NewProcessor (Literal i))) ∷ (BindNow ∷ todo)
found_todo (Object c r true) todo = Arguments NoExprs ∷ (TickNow ∷ (MakeNow c r ∷ (CallOnNow r ∷ todo)))
found_todo (Object c r false) todo = Arguments NoExprs ∷ (MakeNow c r ∷ (CallUnwrittenNow r ∷ todo))

abbrev pub asking_todo : Kind → List Todo → List Todo
asking_todo Cluster todo = ClusterNow ∷ (BindNow ∷ todo)
asking_todo (Processor i) todo = ProcessorNow ∷ (BindNow ∷ todo)
asking_todo (Object c r written) todo = MakeNow c r ∷ (call written r ∷ todo)

abbrev pub going_todo : Kind → List Todo → List Todo
going_todo (Processor i) todo = Eval (Literal i) ∷ asking_todo (Processor i) todo
going_todo (Object c r true) todo = TickNow ∷ asking_todo (Object c r true) todo
going_todo kind todo = asking_todo kind todo

abbrev pub told_todo : Kind → List Todo → List Todo
told_todo (Object c r written) todo = BindMadeNow c r ∷ (call written r ∷ todo)
told_todo kind todo = BindNow ∷ todo

abbrev pub bound_todo : Kind → List Todo → List Todo
bound_todo (Object c r written) todo = call written r ∷ todo
bound_todo kind todo = todo

-- how far the filling is: its statement is to be done, nothing is counted yet, another turn may come; the element of a turn is to be bound, its
-- place to be found by the variable and the count; the place is found, and the request is near, to be made, and told; the element is bound; it
-- is to be counted; all are, and the scope opens
pub data Stage : Type 0 where
  Does : Stage
  Counts : Stage
  Turns : Stage
  Evals : Stage
  Finds : Stage
  Names : Stage
  Indexes : Stage
  Elements : Stage
  Found : Stage
  Nears : Stage
  Asks : Stage
  Told : Stage
  Bound : Stage
  More : Stage
  Passes : Stage
  Opens : Stage

-- what is to do then
abbrev pub fill_todo : Stage → Array → List Todo
fill_todo Does x = Do (Fill x.line x.count (binder x.kind (counted x)) x.destroys) ∷ scope_todo x
fill_todo Counts x = CountNow 0 ∷ again_todo x
fill_todo Turns x = again_todo x
fill_todo Evals x = Eval (binder x.kind (counted x)) ∷ turn_todo x
fill_todo Finds x = Eval (counted x) ∷ found_todo x.kind (turn_todo x)
fill_todo Names x =
    Eval (Variable x.cell) ∷ (Eval (OfObject Counted) ∷ (ElementNow x.count Binding ∷ found_todo x.kind (turn_todo x)))
fill_todo Indexes x = Eval (OfObject Counted) ∷ (ElementNow x.count Binding ∷ found_todo x.kind (turn_todo x))
fill_todo Elements x = ElementNow x.count Binding ∷ found_todo x.kind (turn_todo x)
fill_todo Found x = found_todo x.kind (turn_todo x)
fill_todo Nears x = going_todo x.kind (turn_todo x)
fill_todo Asks x = asking_todo x.kind (turn_todo x)
fill_todo Told x = told_todo x.kind (turn_todo x)
fill_todo Bound x = bound_todo x.kind (turn_todo x)
fill_todo More x = MoreNow ∷ again_todo x
fill_todo Passes x = Within x.line ∷ scope_todo x
fill_todo Opens x = scope_todo x

-- how many elements hold objects then, of so many, where these many are counted
abbrev pub reached : Stage → (elements count : ℕ) → ℕ
reached Does elements count = 0
reached Counts elements count = 0
reached Bound elements count = suc elements
reached More elements count = suc elements
reached Passes elements count = count
reached Opens elements count = count
reached g elements count = elements
