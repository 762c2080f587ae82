-- The code of the source is paced.
use Rattle.std.proofs.Common.{◌≡◌, ℕ, zero, suc, ◌+◌, ◌-◌, ◌<◌, ◌≤◌, max, pos, List, [], ◌∷◌, Bool, true, false, Option, Some, None, length, refl, sym, subst, ◌∙◌, arith}
use Rattle.std.specs.Prelude.{slice_get}
use Rattle.std.proofs.lemmas.Option.{slice_get_within}
use Rattle.uc_tree.specs.declared.limits.TheConstants.{DESTRUCTOR}
use Rattle.uc_tree.specs.Source.{Shape, Integer, Character, Truth, Binding, Last, Field, Array, shape_cells, field_cells, Operator, Add, Sub, Mul, Div, Rem, Equal, NotEqual, Less, LessEqual, Greater, GreaterEqual, Expr, Literal, Variable, Element, Get, Load, Negated, Not, AsCharacter, AsTruth, Operate, And, Or, Set, Assign, First, Update, StepBehind, Fail, Call, OfObject, ObjectExpr, This, OwnField, GetOwn, FieldOf, Counted, CallOn, CallUnwritten, CallLive, EnterOn, EndOn, Bind, MakeOn, NewCluster, NewProcessor, EndCluster, EndProcessor, ConditionAt, Wait, Signal, SignalBlock, IsEmpty, FrontOf, Exprs, NoExprs, MoreExprs, Item, Show, ShowText, Target, Declared, Stmt, Skip, Block, Whole, Evaluate, Declare, Print, PrintTogether, Read, If, Loop, Break, Continue, Return, Owes, Fill, OfEvents, OfTasks, TaskStmt, Resume, Suspend, SetUp, Enliven, TakeDown, Yield, Migrate, Accept, EventStmt, Throw, Raise, Try, RaiseAt, Enable, Disable, Raised, Plainly, BuiltAt as BuildsAt, AgainFrom, Handlers, NoHandlers, MoreHandlers, Clauses, NoClauses, Otherwise, MoreClauses, clause_count, Restores, Stmts, Nil, Then, Scoped, Built, Way, ToBreak, ToContinue, ToReturn, ToEnd, Purpose, TaskMain, CoroutineMain, Procedure, Function, Builder, Routine, Source}
use Rattle.uc_tree.specs.Hidden.{EVENT_FIELDS}
use Rattle.uc_code.specs.declared.op.Op.{Op}
use Rattle.uc_code.specs.declared.op.Op.TheVariants as op
use Rattle.uc_code.specs.declared.rows.MainOf.{MainOf}
use Rattle.uc_code.specs.declared.rows.MainOf.TheVariants as main_of
use Rattle.uc_code.specs.declared.rows.CodeMark.{CodeMark}
use Rattle.uc_code.specs.declared.rows.CodeMark.TheVariants as mark
use Rattle.uc_code.specs.declared.rows.RoutineCode.{RoutineCode}
use Rattle.uc_code.specs.Codes.{Code}
use Rattle.uc_code.specs.Layout.{Laid, laid_of}
use Rattle.uc_code.specs.Pace.{climb_op, above, Test, test_by, In, Stays, Mute, Onward, Paced, IsPaced}
use Rattle.uc_code.specs.CodeShapes.{OpAt, One, Both, Fork, main_end, MainAt, PollAt, NoBranch, ElseAt, ClauseAt}
use Rattle.uc_code.specs.Silent.{silent, silent_all, silent_task, silent_expr, silent_object, silent_exprs}
use Rattle.uc_code.specs.Lowered.{operator_op, item_op, handler_rows, ConvertAt, ExprAt, ObjectAt, ArgumentsAt, ValueAt, ItemsAt, ValuesAt, PiecesAt, TogetherAt, TargetsAt, StartAt, VariablesAt, RaisedAt, FieldsAt, KeepAt, KeepsAt, ExitAt, StepAt, HandlerBy, GuardsAt, TaskAt, BranchesAt, StmtAt, EventAt, HandlersAt, StmtsAt, BodyAt, RoutineAt, RoutinesAt, Lowered}
use Rattle.uc_code.proofs.Heights.{Outside, Plain, PacedAt, Each, Around, paced_by, none, only, join, within, own_plain, outside_next, Starts, Further, down, height_is, outside_end, AllStay, stay_one, stay_join}
use Rattle.uc_code.proofs.Pacing as pacing
use Rattle.uc_code.proofs.Spans as spans
use Rattle.uc_code.proofs.Guards as blocks
use Rattle.uc_code.proofs.Accepting as accepting

module _ (code : Laid) (table : List RoutineCode) (any : Bool) where
  abbrev Paces : List CodeMark → (ℕ → ℕ → Type 0) → Type 0
  Paces ms B = pacing.Paces code table any ms B

  onward : (ms : List CodeMark) (o : Op) (line : ℕ) → ((n k h : ℕ) → climb_op n k o h ≡ suc h) → ((k : ℕ) (t : Option Test) → test_by o k t ≡ t) → ((at : ℕ) → Onward code table at (at + 1) → Paced code table at o) → ((from to floor at : ℕ) → In code table from to (at + 1) → Stays code table from to floor at o) → Paces ms (One code o line)
  onward ms o line c t f g = pacing.onward_paces code table any ms o line c t f g

  both : {B C : ℕ → ℕ → Type 0} → (ms : List CodeMark) → Paces ms B → Paces ms C → Paces ms (Both B C)
  both ms b c = pacing.both code table any ms b c

  fork : {B C : ℕ → ℕ → Type 0} → (ms : List CodeMark) (line : ℕ) → Paces ms B → Paces ms C → Paces ms (Fork code line B C)
  fork ms line b c = pacing.fork code table any ms line b c

  operator_paces : (ms : List CodeMark) (line : ℕ) (o : Operator) → Paces ms (One code (operator_op o) line)
  operator_paces ms line Add = onward ms op.Add line (λ n k h. refl) (λ k t. refl) (λ at l. l) (λ from to floor at i. i)
  operator_paces ms line Sub = onward ms op.Subtract line (λ n k h. refl) (λ k t. refl) (λ at l. l) (λ from to floor at i. i)
  operator_paces ms line Mul = onward ms op.Multiply line (λ n k h. refl) (λ k t. refl) (λ at l. l) (λ from to floor at i. i)
  operator_paces ms line Div = onward ms op.Divide line (λ n k h. refl) (λ k t. refl) (λ at l. l) (λ from to floor at i. i)
  operator_paces ms line Rem = onward ms op.Remainder line (λ n k h. refl) (λ k t. refl) (λ at l. l) (λ from to floor at i. i)
  operator_paces ms line Equal = onward ms op.Equal line (λ n k h. refl) (λ k t. refl) (λ at l. l) (λ from to floor at i. i)
  operator_paces ms line NotEqual = onward ms op.NotEqual line (λ n k h. refl) (λ k t. refl) (λ at l. l) (λ from to floor at i. i)
  operator_paces ms line Less = onward ms op.Less line (λ n k h. refl) (λ k t. refl) (λ at l. l) (λ from to floor at i. i)
  operator_paces ms line LessEqual = onward ms op.LessEqual line (λ n k h. refl) (λ k t. refl) (λ at l. l) (λ from to floor at i. i)
  operator_paces ms line Greater = onward ms op.Greater line (λ n k h. refl) (λ k t. refl) (λ at l. l) (λ from to floor at i. i)
  operator_paces ms line GreaterEqual = onward ms op.GreaterEqual line (λ n k h. refl) (λ k t. refl) (λ at l. l) (λ from to floor at i. i)

  item_paces : (ms : List CodeMark) (line : ℕ) (i : Item) → Paces ms (One code (item_op i) line)
  item_paces ms line (Show form e) = onward ms (op.Print form) line (λ n k h. refl) (λ k t. refl) (λ at l. l) (λ from to floor at i. i)
  item_paces ms line (ShowText k) = onward ms (op.Text k) line (λ n k h. refl) (λ k t. refl) (λ at l. l) (λ from to floor at i. i)

  convert_paces : (ms : List CodeMark) (line : ℕ) (s : Shape) → Paces ms (ConvertAt code line s)
  convert_paces ms line Integer = pacing.nothing_paces code table any ms
  convert_paces ms line Character = onward ms op.ToChar line (λ n k h. refl) (λ k t. refl) (λ at l. l) (λ from to floor at i. i)
  convert_paces ms line Truth = onward ms op.ToBool line (λ n k h. refl) (λ k t. refl) (λ at l. l) (λ from to floor at i. i)
  convert_paces ms line Binding = pacing.nothing_paces code table any ms
  convert_paces ms line Last = pacing.nothing_paces code table any ms
  convert_paces ms line (Field s t) = pacing.nothing_paces code table any ms
  convert_paces ms line (Array n s) = pacing.nothing_paces code table any ms

  -- events are raised in what is not silent

  raised_any : (b : Bool) → (b ≡ false → ⊥) → b ≡ true
  raised_any true f = refl
  raised_any false f = absurd (f refl)

  no_silence : {X : Type 0} → any ≡ true → any ≡ false → X
  no_silence t e = let f : true ≡ false = sym t ∙ e in absurd (cc)

  mutual
    expr_paces : (ms : List CodeMark) (line : ℕ) (e : Expr) → (any ≡ false → silent_expr e) → Paces ms (ExprAt code line ms e)
    expr_paces ms line (Literal n) f = onward ms (op.Push n) line (λ n k h. refl) (λ k t. refl) (λ at l. l) (λ from to floor at i. i)
    expr_paces ms line (Variable k) f = onward ms (op.Local k) line (λ n k h. refl) (λ k t. refl) (λ at l. l) (λ from to floor at i. i)
    expr_paces ms line (Element n s a i) f = both ms (expr_paces ms line a (λ q. (f q).0)) (both ms (expr_paces ms line i (λ q. (f q).1)) (onward ms (op.Index n (shape_cells s)) line (λ n k h. refl) (λ k t. refl) (λ at l. l) (λ from to floor at i. i)))
    expr_paces ms line (Get k) f = onward ms (op.Via k) line (λ n k h. refl) (λ k t. refl) (λ at l. l) (λ from to floor at i. i)
    expr_paces ms line (Load a) f = both ms (expr_paces ms line a f) (onward ms op.Load line (λ n k h. refl) (λ k t. refl) (λ at l. l) (λ from to floor at i. i))
    expr_paces ms line (Negated a) f = both ms (expr_paces ms line a f) (onward ms op.Negate line (λ n k h. refl) (λ k t. refl) (λ at l. l) (λ from to floor at i. i))
    expr_paces ms line (Not a) f = both ms (expr_paces ms line a f) (onward ms op.Not line (λ n k h. refl) (λ k t. refl) (λ at l. l) (λ from to floor at i. i))
    expr_paces ms line (AsCharacter a) f = both ms (expr_paces ms line a f) (onward ms op.ToChar line (λ n k h. refl) (λ k t. refl) (λ at l. l) (λ from to floor at i. i))
    expr_paces ms line (AsTruth a) f = both ms (expr_paces ms line a f) (onward ms op.ToBool line (λ n k h. refl) (λ k t. refl) (λ at l. l) (λ from to floor at i. i))
    expr_paces ms line (Operate o a b) f = both ms (expr_paces ms line a (λ q. (f q).0)) (both ms (expr_paces ms line b (λ q. (f q).1)) (operator_paces ms line o))
    expr_paces ms line (And a b) f =
        both ms (expr_paces ms line a (λ q. (f q).0)) (fork ms line (both ms (expr_paces ms line b (λ q. (f q).1)) (onward ms op.ToBool line (λ n k h. refl) (λ k t. refl) (λ at l. l) (λ from to floor at i. i))) (onward ms (op.Push (pos 0)) line (λ n k h. refl) (λ k t. refl) (λ at l. l) (λ from to floor at i. i)))
    expr_paces ms line (Or a b) f =
        both ms (expr_paces ms line a (λ q. (f q).0)) (fork ms line (onward ms (op.Push (pos 1)) line (λ n k h. refl) (λ k t. refl) (λ at l. l) (λ from to floor at i. i)) (both ms (expr_paces ms line b (λ q. (f q).1)) (onward ms op.ToBool line (λ n k h. refl) (λ k t. refl) (λ at l. l) (λ from to floor at i. i))))
    expr_paces ms line (Set k a) f = both ms (expr_paces ms line a f) (onward ms (op.Set k) line (λ n k h. refl) (λ k t. refl) (λ at l. l) (λ from to floor at i. i))
    expr_paces ms line (Assign p a) f = both ms (expr_paces ms line p (λ q. (f q).0)) (both ms (expr_paces ms line a (λ q. (f q).1)) (onward ms op.Keep line (λ n k h. refl) (λ k t. refl) (λ at l. l) (λ from to floor at i. i)))
    expr_paces ms line (First a b) f = both ms (expr_paces ms line a (λ q. (f q).0)) (both ms (expr_paces ms line b (λ q. (f q).1)) (onward ms op.Discard line (λ n k h. refl) (λ k t. refl) (λ at l. l) (λ from to floor at i. i)))
    expr_paces ms line (Update o s p a) f =
        both ms (expr_paces ms line p (λ q. (f q).0)) (both ms (onward ms op.Duplicate line (λ n k h. refl) (λ k t. refl) (λ at l. l) (λ from to floor at i. i)) (both ms (onward ms op.Load line (λ n k h. refl) (λ k t. refl) (λ at l. l) (λ from to floor at i. i)) (
        both ms (expr_paces ms line a (λ q. (f q).1)) (both ms (operator_paces ms line o) (both ms (convert_paces ms line s) (onward ms op.Keep line (λ n k h. refl) (λ k t. refl) (λ at l. l) (λ from to floor at i. i)))))))
    expr_paces ms line (StepBehind o s p) f =
        both ms (expr_paces ms line p f) (both ms (onward ms op.Duplicate line (λ n k h. refl) (λ k t. refl) (λ at l. l) (λ from to floor at i. i)) (both ms (onward ms op.Load line (λ n k h. refl) (λ k t. refl) (λ at l. l) (λ from to floor at i. i)) (
        both ms (onward ms op.CopyBelow line (λ n k h. refl) (λ k t. refl) (λ at l. l) (λ from to floor at i. i)) (both ms (onward ms op.CopyBelow line (λ n k h. refl) (λ k t. refl) (λ at l. l) (λ from to floor at i. i)) (both ms (onward ms (op.Push (pos 1)) line (λ n k h. refl) (λ k t. refl) (λ at l. l) (λ from to floor at i. i)) (
        both ms (operator_paces ms line o) (both ms (convert_paces ms line s) (both ms (onward ms op.Store line (λ n k h. refl) (λ k t. refl) (λ at l. l) (λ from to floor at i. i)) (onward ms op.DiscardBelow line (λ n k h. refl) (λ k t. refl) (λ at l. l) (λ from to floor at i. i))))))))))
    expr_paces ms line Fail f = onward ms op.Fail line (λ n k h. refl) (λ k t. refl) (λ at l. l) (λ from to floor at i. i)
    expr_paces ms line (Call r es) f = both ms (args_paces ms line es f) (pacing.call_paces code table any ms line r)
    expr_paces ms line (OfObject o) f = object_paces ms line o f

    object_paces : (ms : List CodeMark) (line : ℕ) (o : ObjectExpr) → (any ≡ false → silent_object o) → Paces ms (ObjectAt code line ms o)
    object_paces ms line This f = onward ms op.Own line (λ n k h. refl) (λ k t. refl) (λ at l. l) (λ from to floor at i. i)
    object_paces ms line (OwnField s i) f = onward ms (op.This (field_cells s i)) line (λ n k h. refl) (λ k t. refl) (λ at l. l) (λ from to floor at i. i)
    object_paces ms line (GetOwn s i) f = onward ms (op.ViaThis (field_cells s i)) line (λ n k h. refl) (λ k t. refl) (λ at l. l) (λ from to floor at i. i)
    object_paces ms line (FieldOf s i e) f = both ms (expr_paces ms line e f) (onward ms (op.Field (field_cells s i)) line (λ n k h. refl) (λ k t. refl) (λ at l. l) (λ from to floor at i. i))
    object_paces ms line Counted f = onward ms op.Counted line (λ n k h. refl) (λ k t. refl) (λ at l. l) (λ from to floor at i. i)
    object_paces ms line (CallOn r e es) f = both ms (expr_paces ms line e (λ q. (f q).0)) (both ms (args_paces ms line es (λ q. (f q).1)) (pacing.call_on_paces code table any ms line r))
    object_paces ms line (CallLive r e es) f = both ms (expr_paces ms line e (λ q. (f q).0)) (both ms (args_paces ms line es (λ q. (f q).1)) (pacing.call_live_paces code table any ms line r))
    object_paces ms line (CallUnwritten r e) f = both ms (expr_paces ms line e f) (pacing.calls_behind_paces code table any ms line r)
    object_paces ms line (Bind p e) f = both ms (expr_paces ms line p (λ q. (f q).0)) (both ms (expr_paces ms line e (λ q. (f q).1)) (onward ms op.Bind line (λ n k h. refl) (λ k t. refl) (λ at l. l) (λ from to floor at i. i)))
    object_paces ms line (EnterOn m r e es) f = both ms (expr_paces ms line e (λ q. (f q).0)) (both ms (args_paces ms line es (λ q. (f q).1)) (pacing.enter_paces code table any ms line m r))
    object_paces ms line (EndOn r false e) f = both ms (expr_paces ms line e f) (both ms (onward ms (op.Enter DESTRUCTOR r) line (λ n k h. refl) (λ k t. refl) (λ at l. l) (λ from to floor at i. i)) (pacing.calls_behind_paces code table any ms line r))
    object_paces ms line (EndOn r true e) f = both ms (expr_paces ms line e f) (pacing.enter_paces code table any ms line DESTRUCTOR r)
    object_paces ms line (MakeOn c r false e es) f =
        both ms (expr_paces ms line e (λ q. (f q).0)) (both ms (args_paces ms line es (λ q. (f q).1)) (both ms (onward ms (op.Make c r) line (λ n k h. refl) (λ k t. refl) (λ at l. l) (λ from to floor at i. i)) (both ms (onward ms (op.BindMade c r) line (λ n k h. refl) (λ k t. refl) (λ at l. l) (λ from to floor at i. i)) (pacing.calls_behind_paces code table any ms line r))))
    object_paces ms line (MakeOn c r true e es) f = both ms (expr_paces ms line e (λ q. (f q).0)) (both ms (args_paces ms line es (λ q. (f q).1)) (pacing.make_paces code table any ms line c r))
    object_paces ms line NewCluster f = onward ms op.Cluster line (λ n k h. refl) (λ k t. refl) (λ at l. l) (λ from to floor at i. i)
    object_paces ms line (NewProcessor e) f = both ms (expr_paces ms line e f) (onward ms op.Processor line (λ n k h. refl) (λ k t. refl) (λ at l. l) (λ from to floor at i. i))
    object_paces ms line (EndCluster e) f = both ms (expr_paces ms line e f) (onward ms op.ClusterEnd line (λ n k h. refl) (λ k t. refl) (λ at l. l) (λ from to floor at i. i))
    object_paces ms line (EndProcessor e) f = both ms (expr_paces ms line e f) (onward ms op.ProcessorEnd line (λ n k h. refl) (λ k t. refl) (λ at l. l) (λ from to floor at i. i))
    object_paces ms line (ConditionAt k n e) f = both ms (expr_paces ms line e f) (onward ms (op.Condition k n) line (λ n k h. refl) (λ k t. refl) (λ at l. l) (λ from to floor at i. i))
    object_paces ms line (Wait c n) f =
        both ms (expr_paces ms line c (λ q. absurd (f q))) (both ms (expr_paces ms line n (λ q. absurd (f q))) (both ms (onward ms op.Wait line (λ n k h. refl) (λ k t. refl) (λ at l. l) (λ from to floor at i. i)) (pacing.poll_paces code table any (raised_any any f) ms line)))
    object_paces ms line (Signal c) f = both ms (expr_paces ms line c f) (onward ms op.Signal line (λ n k h. refl) (λ k t. refl) (λ at l. l) (λ from to floor at i. i))
    object_paces ms line (SignalBlock c) f = both ms (expr_paces ms line c f) (onward ms op.SignalBlock line (λ n k h. refl) (λ k t. refl) (λ at l. l) (λ from to floor at i. i))
    object_paces ms line (IsEmpty c) f = both ms (expr_paces ms line c f) (onward ms op.Empty line (λ n k h. refl) (λ k t. refl) (λ at l. l) (λ from to floor at i. i))
    object_paces ms line (FrontOf c) f = both ms (expr_paces ms line c f) (onward ms op.Front line (λ n k h. refl) (λ k t. refl) (λ at l. l) (λ from to floor at i. i))

    args_paces : (ms : List CodeMark) (line : ℕ) (es : Exprs) → (any ≡ false → silent_exprs es) → Paces ms (ArgumentsAt code line ms es)
    args_paces ms line NoExprs f = pacing.nothing_paces code table any ms
    args_paces ms line (MoreExprs e es) f = both ms (expr_paces ms line e (λ q. (f q).0)) (args_paces ms line es (λ q. (f q).1))

  value_paces : any ≡ true → (ms : List CodeMark) (line : ℕ) (i : Item) → Paces ms (ValueAt code line ms i)
  value_paces t ms line (Show form e) = expr_paces ms line e (λ q. no_silence t q)
  value_paces t ms line (ShowText k) = pacing.nothing_paces code table any ms

  items_paces : any ≡ true → (ms : List CodeMark) (line : ℕ) (is : List Item) → Paces ms (ItemsAt code line ms is)
  items_paces t ms line [] = pacing.nothing_paces code table any ms
  items_paces t ms line (i ∷ is) = both ms (value_paces t ms line i) (both ms (item_paces ms line i) (items_paces t ms line is))

  values_paces : any ≡ true → (ms : List CodeMark) (line : ℕ) (is : List Item) → Paces ms (ValuesAt code line ms is)
  values_paces t ms line [] = pacing.nothing_paces code table any ms
  values_paces t ms line (i ∷ is) = both ms (value_paces t ms line i) (values_paces t ms line is)

  pieces_paces : (ms : List CodeMark) (line : ℕ) (is : List Item) → Paces ms (PiecesAt code line is)
  pieces_paces ms line [] = pacing.nothing_paces code table any ms
  pieces_paces ms line (i ∷ is) = both ms (pieces_paces ms line is) (item_paces ms line i)

  together_paces : any ≡ true → (ms : List CodeMark) (line : ℕ) (is : List Item) → Paces ms (TogetherAt code line ms is)
  together_paces t ms line is =
      both ms (values_paces t ms line is) (both ms (onward ms op.Hold line (λ n k h. refl) (λ k t. refl) (λ at l. l) (λ from to floor at i. i)) (both ms (pieces_paces ms line is) (onward ms op.Flush line (λ n k h. refl) (λ k t. refl) (λ at l. l) (λ from to floor at i. i))))

  targets_paces : any ≡ true → (ms : List CodeMark) (line : ℕ) (ts : List Target) → Paces ms (TargetsAt code line ms ts)
  targets_paces t ms line [] = pacing.nothing_paces code table any ms
  targets_paces t ms line (x ∷ ts) =
      both ms (expr_paces ms line x.place (λ q. no_silence t q)) (both ms (onward ms (op.Read x.form) line (λ n k h. refl) (λ k t. refl) (λ at l. l) (λ from to floor at i. i)) (both ms (onward ms op.Store line (λ n k h. refl) (λ k t. refl) (λ at l. l) (λ from to floor at i. i)) (targets_paces t ms line ts)))

  start_paces : any ≡ true → (ms : List CodeMark) (line cell : ℕ) (value : Option Expr) → Paces ms (StartAt code line ms cell value)
  start_paces t ms line cell None = pacing.nothing_paces code table any ms
  start_paces t ms line cell (Some e) = both ms (onward ms (op.Local cell) line (λ n k h. refl) (λ k t. refl) (λ at l. l) (λ from to floor at i. i)) (both ms (expr_paces ms line e (λ q. no_silence t q)) (onward ms op.Store line (λ n k h. refl) (λ k t. refl) (λ at l. l) (λ from to floor at i. i)))

  variables_paces : any ≡ true → (ms : List CodeMark) (line : ℕ) (ds : List Declared) → Paces ms (VariablesAt code line ms ds)
  variables_paces t ms line [] = pacing.nothing_paces code table any ms
  variables_paces t ms line (d ∷ ds) = both ms (onward ms (op.Clear d.cell d.cells) line (λ n k h. refl) (λ k t. refl) (λ at l. l) (λ from to floor at i. i)) (both ms (start_paces t ms line d.cell d.value) (variables_paces t ms line ds))

  -- events

  fields_paces : (ms : List CodeMark) (line n k : ℕ) → Paces ms (FieldsAt code line n k)
  fields_paces ms line n k =
      both ms (onward ms op.Discard line (λ n k h. refl) (λ k t. refl) (λ at l. l) (λ from to floor at i. i)) (both ms (onward ms (op.Push (pos n)) line (λ n k h. refl) (λ k t. refl) (λ at l. l) (λ from to floor at i. i)) (
      both ms (onward ms (op.Via k) line (λ n k h. refl) (λ k t. refl) (λ at l. l) (λ from to floor at i. i)) (onward ms (op.Via (k + 1)) line (λ n k h. refl) (λ k t. refl) (λ at l. l) (λ from to floor at i. i))))

  raised_paces : any ≡ true → (ms : List CodeMark) (line : ℕ) (r : Raised) → Paces ms (RaisedAt code line ms r)
  raised_paces t ms line (Plainly n) =
      both ms (onward ms (op.Push (pos n)) line (λ n k h. refl) (λ k t. refl) (λ at l. l) (λ from to floor at i. i)) (
      both ms (onward ms (op.Push (pos 0)) line (λ n k h. refl) (λ k t. refl) (λ at l. l) (λ from to floor at i. i)) (onward ms (op.Push (pos 0)) line (λ n k h. refl) (λ k t. refl) (λ at l. l) (λ from to floor at i. i)))
  raised_paces t ms line (BuildsAt n k e) =
      both ms (onward ms (op.Clear k EVENT_FIELDS) line (λ n k h. refl) (λ k t. refl) (λ at l. l) (λ from to floor at i. i)) (both ms (expr_paces ms line e (λ q. no_silence t q)) (fields_paces ms line n k))
  raised_paces t ms line (AgainFrom k) =
      both ms (onward ms (op.Via k) line (λ n k h. refl) (λ k t. refl) (λ at l. l) (λ from to floor at i. i)) (
      both ms (onward ms (op.Via (k + 1)) line (λ n k h. refl) (λ k t. refl) (λ at l. l) (λ from to floor at i. i)) (onward ms (op.Via (k + 2)) line (λ n k h. refl) (λ k t. refl) (λ at l. l) (λ from to floor at i. i)))

  keep_paces : (ms : List CodeMark) (line k : ℕ) → Paces ms (KeepAt code line k)
  keep_paces ms line k = both ms (onward ms (op.Set k) line (λ n k h. refl) (λ k t. refl) (λ at l. l) (λ from to floor at i. i)) (onward ms op.Discard line (λ n k h. refl) (λ k t. refl) (λ at l. l) (λ from to floor at i. i))

  keeps_paces : (ms : List CodeMark) (line k : ℕ) → Paces ms (KeepsAt code line k)
  keeps_paces ms line k = both ms (keep_paces ms line (k + 2)) (both ms (keep_paces ms line (k + 1)) (keep_paces ms line k))

  drop_paces : (ms : List CodeMark) (line : ℕ) → Paces ms (One code op.Discard line)
  drop_paces ms line = onward ms op.Discard line (λ n k h. refl) (λ k t. refl) (λ at l. l) (λ from to floor at i. i)

  end_paces : (main : MainOf) (ms : List CodeMark) (line : ℕ) → Paces ms (One code (main_end main) line)
  end_paces main_of.Task ms line = pacing.task_end_paces code table any ms line
  end_paces main_of.Coroutine ms line = pacing.main_end_paces code table any ms line

  exit_paces : any ≡ true → (w : Way) (ms : List CodeMark) → Paces ms (ExitAt code w ms)
  exit_paces t ToBreak [] = pacing.return_paces code table any [] 0
  exit_paces t ToContinue [] = pacing.return_paces code table any [] 0
  exit_paces t ToReturn [] = pacing.value_return_paces code table any [] 0
  exit_paces t ToEnd [] = pacing.none_return_paces code table any [] 0
  exit_paces t ToBreak (mark.Body routine ∷ ms) = pacing.return_paces code table any (mark.Body routine ∷ ms) 0
  exit_paces t ToContinue (mark.Body routine ∷ ms) = pacing.return_paces code table any (mark.Body routine ∷ ms) 0
  exit_paces t ToReturn (mark.Body routine ∷ ms) = pacing.value_return_paces code table any (mark.Body routine ∷ ms) 0
  exit_paces t ToEnd (mark.Body routine ∷ ms) = pacing.none_return_paces code table any (mark.Body routine ∷ ms) 0
  exit_paces t w (mark.Finish main routine line row ∷ ms) = end_paces main (mark.Finish main routine line row ∷ ms) line
  exit_paces t ToBreak (mark.Loop leave again ∷ ms) = pacing.leave_paces code table any ms leave again
  exit_paces t ToContinue (mark.Loop leave again ∷ ms) = pacing.again_paces code table any ms leave again
  exit_paces t ToReturn (mark.Loop leave again ∷ ms) = pacing.in_loop code table any ms leave again (exit_paces t ToReturn ms)
  exit_paces t ToEnd (mark.Loop leave again ∷ ms) = pacing.in_loop code table any ms leave again (exit_paces t ToEnd ms)
  exit_paces t w (mark.Whole leave row ∷ ms) = pacing.whole_exit_paces code table any ms leave row
  exit_paces t w (mark.Guard row ∷ ms) = pacing.under_mark code table any (mark.Guard row) ms (λ z r. r.1) (λ from to n. n.1) (exit_paces t w ms)
  exit_paces t w (mark.Clean what line row ∷ ms) = pacing.under_mark code table any (mark.Clean what line row) ms (λ z r. r.1) (λ from to n. n.1) (both ms (spans.clean_paces code table any ms line what (λ e. no_silence t e)) (exit_paces t w ms))
  exit_paces t w (mark.Part row ∷ ms) = pacing.under_mark code table any (mark.Part row) ms (λ z r. r.1) (λ from to n. n.1) (exit_paces t w ms)
  exit_paces t w (mark.Elements row ∷ ms) = pacing.under_mark code table any (mark.Elements row) ms (λ z r. r.1) (λ from to n. n.1) (exit_paces t w ms)
  exit_paces t ToBreak (mark.Outward below row ∷ ms) = pacing.return_paces code table any (mark.Outward below row ∷ ms) 0
  exit_paces t ToContinue (mark.Outward below row ∷ ms) = pacing.return_paces code table any (mark.Outward below row ∷ ms) 0
  exit_paces t ToReturn (mark.Outward below row ∷ ms) = pacing.value_return_paces code table any (mark.Outward below row ∷ ms) 0
  exit_paces t ToEnd (mark.Outward below row ∷ ms) = pacing.none_return_paces code table any (mark.Outward below row ∷ ms) 0

  step_paces : any ≡ true → (ms : List CodeMark) (line : ℕ) (step : Option Expr) → Paces ms (StepAt code line ms step)
  step_paces t ms line None = pacing.nothing_paces code table any ms
  step_paces t ms line (Some e) = both ms (expr_paces ms line e (λ q. no_silence t q)) (drop_paces ms line)

  catches_paces : (ms : List CodeMark) (line cell : ℕ) (B : List CodeMark → ℕ → ℕ → Type 0) → ((ns : List CodeMark) → Paces ns (B ns)) → blocks.Handles code table any ms false (λ pad. Both (KeepsAt code line cell) (Both (B ms) (One code (op.Jump pad) line)))
  catches_paces ms line cell B b =
      let k = blocks.catch_handles code table any ms line (B ms) (b ms) in
      blocks.kept_handles code table any ms (KeepsAt code line cell) (λ pad. Both (B ms) (One code (op.Jump pad) line)) (keeps_paces ms line cell) k

  handler_handles : (resumes : Bool) (ms : List CodeMark) (line cell : ℕ) (B : List CodeMark → ℕ → ℕ → Type 0) → ((ns : List CodeMark) → Paces ns (B ns)) → blocks.Handles code table any ms resumes (λ pad. Both (KeepsAt code line cell) (HandlerBy code resumes ms pad line B))
  handler_handles false ms line cell B b = catches_paces ms line cell B b
  handler_handles true ms line cell B b = blocks.apart_handles code table any ms line (KeepsAt code line cell) B (λ ns. keeps_paces ns line cell) b

  lack_paced : (line a : ℕ) → OpAt code a op.NoReturn line → Plain code table (a + 1) → PacedAt code table a
  lack_paced line a h p =
      let e = height_is code table a op.NoReturn line h in
      let w = within code table a op.NoReturn line h in
      let l = p.low in
      paced_by code table a op.NoReturn line h (down code table a (a + 1) (outside_next code table a op.NoReturn line h (λ k t. refl) p.outside) p.outside (omega arith))

  no_return_paces : (ms : List CodeMark) (line : ℕ) → Paces ms (One code op.NoReturn line)
  no_return_paces ms line = record {
    rises = λ a z h. let e = h.end in omega arith;
    plain = λ a z h p. own_plain code table a op.NoReturn line h.here (λ n k x. refl) (λ k t. refl) (subst (Outside code table) h.end p.outside);
    each = λ q a z h r p. only code table a z h.end (lack_paced line a h.here (subst (Plain code table) h.end p));
    stays = λ from to floor a z h n l m x. stay_one code table from to floor a z op.NoReturn line h.here h.end (pacing.next_in code table any from to a z h.end l m);
  }

  guards_paces : any ≡ true → (ms : List CodeMark) (line : ℕ) (cs : Clauses) → Paces ms (GuardsAt code ms line cs)
  guards_paces t ms line NoClauses = pacing.nothing_paces code table any ms
  guards_paces t ms line (Otherwise b) = pacing.nothing_paces code table any ms
  guards_paces t ms line (MoreClauses guard b cs) = both ms (expr_paces ms line guard (λ q. no_silence t q)) (guards_paces t ms line cs)

  mutual
    stmt_paces : (ms : List CodeMark) (s : Stmt) → (any ≡ false → silent s) → Paces ms (StmtAt code ms s)
    stmt_paces ms (Skip line) f = pacing.nothing_paces code table any ms
    stmt_paces ms (Block line body) f = stmts_paces ms line body f
    stmt_paces ms (Whole line body) f = blocks.whole_paces code table any ms line (λ ns. StmtsAt code ns line body) (λ ns. stmts_paces ns line body f)
    stmt_paces ms (Evaluate line e) f = both ms (expr_paces ms line e f) (drop_paces ms line)
    stmt_paces ms (Declare line ds) f = variables_paces (raised_any any f) ms line ds
    stmt_paces ms (Print line is) f = items_paces (raised_any any f) ms line is
    stmt_paces ms (PrintTogether line is) f = together_paces (raised_any any f) ms line is
    stmt_paces ms (Read line ts) f = targets_paces (raised_any any f) ms line ts
    stmt_paces ms (If line test chosen other) f = both ms (expr_paces ms line test (λ q. absurd (f q))) (fork ms line (stmt_paces ms chosen (λ q. absurd (f q))) (stmt_paces ms other (λ q. absurd (f q))))
    stmt_paces ms (Loop line order test step body) f =
        pacing.turns_paces code table any ms line (ExprAt code line ms test) (StepAt code line ms step) (λ m. StmtAt code (m ∷ ms) body) (expr_paces ms line test (λ q. absurd (f q))) (step_paces (raised_any any f) ms line step) (λ m. stmt_paces (m ∷ ms) body (λ q. absurd (f q))) order
    stmt_paces ms (Break line) f = exit_paces (raised_any any f) ToBreak ms
    stmt_paces ms (Continue line) f = exit_paces (raised_any any f) ToContinue ms
    stmt_paces ms (Return line None) f = exit_paces (raised_any any f) ToEnd ms
    stmt_paces ms (Return line (Some e)) f = both ms (expr_paces ms line e (λ q. absurd (f q))) (exit_paces (raised_any any f) ToReturn ms)
    stmt_paces ms (Owes line) f = no_return_paces ms line
    stmt_paces ms (Fill line n b d) f = spans.filled_paces code table any ms line n b d
    stmt_paces ms (OfEvents s) f = event_paces ms s (raised_any any f)
    stmt_paces ms (OfTasks s) f = task_paces ms s f

    task_paces : (ms : List CodeMark) (s : TaskStmt) → (any ≡ false → silent_task s) → Paces ms (TaskAt code ms s)
    task_paces ms (Resume line) f = both ms (pacing.resume_paces code table any (raised_any any f) ms line) (both ms (pacing.land_paces code table any ms line) (pacing.poll_paces code table any (raised_any any f) ms line))
    task_paces ms (Suspend line) f = both ms (onward ms op.Suspend line (λ n k h. refl) (λ k t. refl) (λ at l. l) (λ from to floor at i. i)) (both ms (pacing.land_paces code table any ms line) (pacing.poll_paces code table any (raised_any any f) ms line))
    task_paces ms (SetUp r) f = pacing.set_up_paces code table any ms 0 r
    task_paces ms Enliven f = onward ms op.Live 0 (λ n k h. refl) (λ k t. refl) (λ at l. l) (λ from to floor at i. i)
    task_paces ms TakeDown f = onward ms op.UnwindCoroutine 0 (λ n k h. refl) (λ k t. refl) (λ at l. l) (λ from to floor at i. i)
    task_paces ms (Yield line) f = both ms (onward ms op.Yield line (λ n k h. refl) (λ k t. refl) (λ at l. l) (λ from to floor at i. i)) (pacing.poll_paces code table any (raised_any any f) ms line)
    task_paces ms (Migrate line e) f = both ms (expr_paces ms line e (λ q. absurd (f q))) (onward ms op.Migrate line (λ n k h. refl) (λ k t. refl) (λ at l. l) (λ from to floor at i. i))
    task_paces ms (Accept line site cs) f =
        let t = raised_any any f in
        both ms (guards_paces t ms line cs) (both ms (accepting.accepts_paces code table any t ms site (clause_count cs) line) (accepting.chooses_paces code table any ms line (clause_count cs) (branches_pace t ms line cs)))

    branches_pace : any ≡ true → (ms : List CodeMark) (line : ℕ) (cs : Clauses) → accepting.Branches code table any ms (λ o ps end. BranchesAt code ms line cs o ps end)
    branches_pace t ms line NoClauses = accepting.none_branches code table any ms
    branches_pace t ms line (Otherwise b) = accepting.else_branches code table any ms (stmt_paces ms b (λ q. no_silence t q))
    branches_pace t ms line (MoreClauses guard b cs) = accepting.clause_branches code table any ms line (stmt_paces ms b (λ q. no_silence t q)) (branches_pace t ms line cs)

    event_paces : (ms : List CodeMark) (s : EventStmt) → any ≡ true → Paces ms (EventAt code ms s)
    event_paces ms (Throw line r) t = both ms (raised_paces t ms line r) (pacing.throw_paces code table any ms line)
    event_paces ms (Raise line r) t = both ms (raised_paces t ms line r) (both ms (pacing.raise_paces code table any t ms line) (drop_paces ms line))
    event_paces ms (Try line body hs) t =
        blocks.guarded_paces code table any ms line (handler_rows hs) (λ ns. StmtsAt code ns line body) (λ first pad. HandlersAt code ms first pad hs) (λ ns. stmts_paces ns line body (λ e. no_silence t e)) (handlers_paces ms hs t)
    event_paces ms (RaiseAt line r e) t = both ms (raised_paces t ms line r) (both ms (expr_paces ms line e (λ q. no_silence t q)) (onward ms op.RaiseAt line (λ n k h. refl) (λ k t. refl) (λ at l. l) (λ from to floor at i. i)))
    event_paces ms (Enable line events cell s) t =
        spans.scoped_paces code table any ms line (Restores cell) (λ ns. Both (One code (op.Enable events cell) line) (Both (PollAt code ns line) (StmtAt code ns s))) (λ e. tt) (λ u. exit_paces u ToReturn ms)
        (λ ns. both ns (onward ns (op.Enable events cell) line (λ n k h. refl) (λ k t. refl) (λ at l. l) (λ from to floor at i. i)) (both ns (pacing.poll_paces code table any t ns line) (stmt_paces ns s (λ q. no_silence t q))))
    event_paces ms (Disable line events cell s) t =
        spans.scoped_paces code table any ms line (Restores cell) (λ ns. Both (One code (op.Disable events cell) line) (StmtAt code ns s)) (λ e. tt) (λ u. exit_paces u ToReturn ms)
        (λ ns. both ns (onward ns (op.Disable events cell) line (λ n k h. refl) (λ k t. refl) (λ at l. l) (λ from to floor at i. i)) (stmt_paces ns s (λ q. no_silence t q)))

    handlers_paces : (ms : List CodeMark) (hs : Handlers) → any ≡ true → blocks.AllHandle code table any ms (handler_rows hs) (λ first pad. HandlersAt code ms first pad hs)
    handlers_paces ms NoHandlers t = blocks.no_handles code table any ms
    handlers_paces ms (MoreHandlers resumes event cell line body rest) t =
        blocks.more_handles code table any ms (handler_rows rest) event resumes (λ pad. Both (KeepsAt code line cell) (HandlerBy code resumes ms pad line (λ ns. StmtsAt code ns line body))) (λ first pad. HandlersAt code ms first pad rest)
        (handler_handles resumes ms line cell (λ ns. StmtsAt code ns line body) (λ ns. stmts_paces ns line body (λ e. no_silence t e))) (handlers_paces ms rest t)

    stmts_paces : (ms : List CodeMark) (line : ℕ) (ss : Stmts) → (any ≡ false → silent_all ss) → Paces ms (StmtsAt code ms line ss)
    stmts_paces ms line Nil f = pacing.nothing_paces code table any ms
    stmts_paces ms line (Then s ss) f = both ms (stmt_paces ms s (λ e. (f e).0)) (stmts_paces ms line ss (λ e. (f e).1))
    stmts_paces ms line (Scoped c ss) f = spans.scoped_paces code table any ms line c (λ ns. StmtsAt code ns line ss) (λ e. (f e).0) (λ t. exit_paces t ToReturn ms) (λ ns. stmts_paces ns line ss (λ e. (f e).1))
    stmts_paces ms line (Built c ss) f = spans.built_part_paces code table any ms line c (λ ns. StmtsAt code ns line ss) (λ e. (f e).0) (λ ns. stmts_paces ns line ss (λ e. (f e).1))

  -- each routine ends in a return, whatever stands behind it

  return_plain : (line a z : ℕ) → One code op.Return line a z → Outside code table z → Plain code table a
  return_plain line a z h o = pacing.return_plain code table any line a z h o

  return_each : (line a z : ℕ) → One code op.Return line a z → Each code table a z
  return_each line a z h = pacing.return_each code table any line a z h

  -- the code of a routine, with its end
  pub record Ends (number : ℕ) (B : ℕ → ℕ → Type 0) : Type 0 where
    pub rises : (a z : ℕ) → B a z → a < z
    pub plain : (a z : ℕ) → B a z → Outside code table z → Plain code table a
    pub each : Starts code table → (a z : ℕ) → B a z → ((y : ℕ) → y ≤ z → Around code table (mark.Body number ∷ []) y) → Outside code table z → Each code table a z
    pub stays : (floor a z : ℕ) → B a z → pacing.Loud code table any floor z → AllStay code table a z floor a z

  body_ends : (number line : ℕ) (B : ℕ → ℕ → Type 0) → Paces (mark.Body number ∷ []) B → Ends number (Both B (One code op.Return line))
  body_ends number line B b = record {
    rises = λ a z h. let k = b.rises a h.middle h.first in let e = h.second.end in omega arith;
    plain = λ a z h o. b.plain a h.middle h.first (return_plain line h.middle z h.second o);
    each = λ q a z h f o.
        let e = h.second.end in
        join code table a h.middle z (b.each q a h.middle h.first (f h.middle (omega arith)) (return_plain line h.middle z h.second o)) (return_each line h.middle z h.second);
    stays = λ floor a z h x.
        let e = h.second.end in
        stay_join code table a z floor a h.middle z (b.stays a z floor a h.middle h.first tt (omega arith) (omega arith) x) (stay_one code table a z floor h.middle z op.Return line h.second.here h.second.end tt);
  }

  function_ends : (number line : ℕ) (B : ℕ → ℕ → Type 0) → Paces (mark.Body number ∷ []) B → Ends number (Both B (Both (One code op.NoReturn line) (One code op.Return 0)))
  function_ends number line B b = record {
    rises = λ a z h. let k = b.rises a h.middle h.first in let e = h.second.first.end in let g = h.second.second.end in omega arith;
    plain = λ a z h o.
        let r = return_plain 0 h.second.middle z h.second.second o in
        b.plain a h.middle h.first (own_plain code table h.middle op.NoReturn line h.second.first.here (λ n k x. refl) (λ k t. refl) (subst (Outside code table) h.second.first.end r.outside));
    each = λ q a z h f o.
        let e = h.second.first.end in
        let g = h.second.second.end in
        let r = return_plain 0 h.second.middle z h.second.second o in
        let p : Plain code table (h.middle + 1) = subst (Plain code table) h.second.first.end r in
        let l = own_plain code table h.middle op.NoReturn line h.second.first.here (λ n k x. refl) (λ k t. refl) p.outside in
        join code table a h.middle z (b.each q a h.middle h.first (f h.middle (omega arith)) l) (
        join code table h.middle h.second.middle z (only code table h.middle h.second.middle h.second.first.end (lack_paced line h.middle h.second.first.here p)) (return_each 0 h.second.middle z h.second.second));
    stays = λ floor a z h x.
        let k = b.rises a h.middle h.first in
        let e = h.second.first.end in
        let g = h.second.second.end in
        stay_join code table a z floor a h.middle z (b.stays a z floor a h.middle h.first tt (omega arith) (omega arith) x) (
        stay_join code table a z floor h.middle h.second.middle z (stay_one code table a z floor h.middle h.second.middle op.NoReturn line h.second.first.here h.second.first.end (record { first = omega arith; last = omega arith }))
        (stay_one code table a z floor h.second.middle z op.Return 0 h.second.second.here h.second.second.end tt));
  }

  main_ends : (main : MainOf) (number line : ℕ) (ss : Stmts) → (any ≡ false → silent_all ss) → Ends number (MainAt code main number line (λ ms. StmtsAt code ms line ss))
  main_ends main number line ss f =
      let b = λ (ns : List CodeMark). stmts_paces ns line ss f in
      record {
        rises = λ a z h. blocks.main_rises code table any main number line (λ ms. StmtsAt code ms line ss) b a z h;
        plain = λ a z h o. blocks.main_plain code table any main number line (λ ms. StmtsAt code ms line ss) b a z h o;
        each = λ q a z h g o. blocks.main_each code table any main number line (λ ms. StmtsAt code ms line ss) b q a z h g o;
        stays = λ floor a z h x. blocks.main_stays code table any main number line (λ ms. StmtsAt code ms line ss) b z floor a z h (omega arith) x;
      }

  pub routine_ends : (p : Purpose) (number line : ℕ) (ss : Stmts) → (any ≡ false → silent_all ss) → Ends number (BodyAt code p number line ss)
  routine_ends TaskMain number line ss f = main_ends main_of.Task number line ss f
  routine_ends CoroutineMain number line ss f = main_ends main_of.Coroutine number line ss f
  routine_ends Procedure number line ss f = body_ends number 0 (StmtsAt code (mark.Body number ∷ []) line ss) (stmts_paces (mark.Body number ∷ []) line ss f)
  routine_ends Function number line ss f = function_ends number line (StmtsAt code (mark.Body number ∷ []) line ss) (stmts_paces (mark.Body number ∷ []) line ss f)
  routine_ends Builder number line ss f = body_ends number 0 (StmtsAt code (mark.Body number ∷ []) 0 ss) (stmts_paces (mark.Body number ∷ []) 0 ss f)

module _ (code : Laid) (table : List RoutineCode) where
  -- a routine, in which events may be raised, or none

  never_false : true ≡ false → ⊥
  never_false e = absurd (cc)

  any_silent : (ss : Stmts) → true ≡ false → silent_all ss
  any_silent ss e = absurd (never_false e)

  loudly : (number last : ℕ) (r : Routine) → Ends code table true (max number last) (BodyAt code r.purpose (max number last) r.line r.body)
  loudly number last r = routine_ends code table true r.purpose (max number last) r.line r.body (any_silent r.body)

  routine_rises : (last number : ℕ) (r : Routine) (c : RoutineCode) (a z : ℕ) → RoutineAt code last number r c a z → a < z
  routine_rises last number r c a z h = (loudly number last r).rises a z h.body

  routine_plain : (last number : ℕ) (r : Routine) (c : RoutineCode) (a z : ℕ) → RoutineAt code last number r c a z → Outside code table z → Plain code table a
  routine_plain last number r c a z h o = (loudly number last r).plain a z h.body o

  routine_each : Starts code table → (last number : ℕ) (r : Routine) (c : RoutineCode) (a z : ℕ) → RoutineAt code last number r c a z → Further code table (max number last) z → Outside code table z → Each code table a z
  routine_each q last number r c a z h f o = (loudly number last r).each q a z h.body (λ y l. ((λ n d x k. let i = f n d x k in let j = i.0 in (omega arith, i.1)), refl)) o

  -- where no event is raised, a routine is a text without one
  routine_mute : (last number : ℕ) (r : Routine) (c : RoutineCode) (a z : ℕ) → RoutineAt code last number r c a z → silent_all r.body → Mute code table c.entry
  routine_mute last number r c a z h s =
      let k = routine_rises last number r c a z h in
      let e = h.entry in
      let all = (routine_ends code table false r.purpose (max number last) r.line r.body (λ e. s)).stays (above code.ops) a z h.body tt in
      record {
        text = record { from = a; to = z; floor = above code.ops; each = λ at i n g. all at n.first n.last i g };
        inside = record { first = omega arith; last = omega arith };
        none = omega arith;
      }

  -- all routines

  routines_rise : (last number : ℕ) (rs : List Routine) (cs : List RoutineCode) (a z : ℕ) → RoutinesAt code last number rs cs a z → a ≤ z
  routines_rise last number [] [] a z h = let e = h.end in omega arith
  routines_rise last number [] (c ∷ cs) a z h = absurd h
  routines_rise last number (r ∷ rs) [] a z h = absurd h
  routines_rise last number (r ∷ rs) (c ∷ cs) a z h =
      let k = routine_rises last number r c a h.middle h.first in
      let l = routines_rise last (number + 1) rs cs h.middle z h.second in
      omega arith

  routines_outside : (last number : ℕ) (rs : List Routine) (cs : List RoutineCode) (a z : ℕ) → RoutinesAt code last number rs cs a z → Outside code table z → Outside code table a
  routines_outside last number [] [] a z h o = subst (Outside code table) h.end o
  routines_outside last number [] (c ∷ cs) a z h o = absurd h
  routines_outside last number (r ∷ rs) [] a z h o = absurd h
  routines_outside last number (r ∷ rs) (c ∷ cs) a z h o = (routine_plain last number r c a h.middle h.first (routines_outside last (number + 1) rs cs h.middle z h.second o)).outside

  -- each routine begins at or behind the first
  begins_behind : (last number : ℕ) (rs : List Routine) (cs : List RoutineCode) (a z : ℕ) → RoutinesAt code last number rs cs a z → (k : ℕ) (c : RoutineCode) → slice_get cs k ≡ Some c → a ≤ c.entry
  begins_behind last number [] [] a z h k c e = absurd (cc)
  begins_behind last number [] (d ∷ cs) a z h k c e = absurd h
  begins_behind last number (r ∷ rs) [] a z h k c e = absurd h
  begins_behind last number (r ∷ rs) (d ∷ cs) a z h zero c e = let f : d ≡ c = cc in subst (λ (x : RoutineCode). a ≤ x.entry) f (let g = h.first.entry in omega arith)
  begins_behind last number (r ∷ rs) (d ∷ cs) a z h (suc k) c e =
      let l = routine_rises last number r d a h.middle h.first in
      let m = begins_behind last (number + 1) rs cs h.middle z h.second k c e in
      omega arith

  -- the table from a number on
  record From (number : ℕ) (cs : List RoutineCode) : Type 0 where
    pub there : (k : ℕ) (c : RoutineCode) → slice_get table (number + k) ≡ Some c → slice_get cs k ≡ Some c

  from_next : (number : ℕ) (d : RoutineCode) (cs : List RoutineCode) → From number (d ∷ cs) → From (number + 1) cs
  from_next number d cs f = record {
    there = λ k c e.
        let g : number + 1 + k ≡ number + suc k = omega arith in
        f.there (suc k) c (subst (λ n. slice_get table n ≡ Some c) g e);
  }

  -- routines with greater numbers than the last that is written raise no event
  abbrev AllMute : ℕ → Type 0
  AllMute last = (r : ℕ) (c : RoutineCode) → last < r → slice_get table r ≡ Some c → Mute code table c.entry

  further_in : (last number : ℕ) (d : RoutineCode) (rs : List Routine) (cs : List RoutineCode) (m z : ℕ) → AllMute last → From number (d ∷ cs) → RoutinesAt code last (number + 1) rs cs m z → Further code table (max number last) m
  further_in last number d rs cs m z w f h = λ n c l e.
      let g : n ≡ number + suc (n - (number + 1)) = omega arith in
      let b = begins_behind last (number + 1) rs cs m z h (n - (number + 1)) c (f.there (suc (n - (number + 1))) c (subst (λ x. slice_get table x ≡ Some c) g e)) in
      (b, w n c (omega arith) e)

  routines_each : Starts code table → (last number : ℕ) (rs : List Routine) (cs : List RoutineCode) (a z : ℕ) → AllMute last → From number cs → RoutinesAt code last number rs cs a z → Outside code table z → Each code table a z
  routines_each q last number [] [] a z w f h o = let e = h.end in none code table a z (omega arith)
  routines_each q last number [] (c ∷ cs) a z w f h o = absurd h
  routines_each q last number (r ∷ rs) [] a z w f h o = absurd h
  routines_each q last number (r ∷ rs) (c ∷ cs) a z w f h o =
      join code table a h.middle z
      (routine_each q last number r c a h.middle h.first (further_in last number c rs cs h.middle z w f h.second) (routines_outside last (number + 1) rs cs h.middle z h.second o))
      (routines_each q last (number + 1) rs cs h.middle z w (from_next number c cs f) h.second o)

  -- no routine begins with a call behind a tick
  begin_plain : (last number : ℕ) (r : Routine) (c : RoutineCode) (a z : ℕ) → RoutineAt code last number r c a z → Outside code table z → Plain code table c.entry
  begin_plain last number r c a z h o = subst (Plain code table) (sym h.entry) (routine_plain last number r c a z h o)

  routines_start : (last number : ℕ) (rs : List Routine) (cs : List RoutineCode) (a z : ℕ) → RoutinesAt code last number rs cs a z → Outside code table z → (k : ℕ) (c : RoutineCode) → slice_get cs k ≡ Some c → Plain code table c.entry
  routines_start last number [] [] a z h o k c e = absurd (cc)
  routines_start last number [] (d ∷ cs) a z h o k c e = absurd h
  routines_start last number (r ∷ rs) [] a z h o k c e = absurd h
  routines_start last number (r ∷ rs) (d ∷ cs) a z h o zero c e =
      let f : d ≡ c = cc in
      subst (λ (x : RoutineCode). Plain code table x.entry) f (begin_plain last number r d a h.middle h.first (routines_outside last (number + 1) rs cs h.middle z h.second o))
  routines_start last number (r ∷ rs) (d ∷ cs) a z h o (suc k) c e = routines_start last (number + 1) rs cs h.middle z h.second o k c e

  -- those that are silent
  routines_mute : (last number : ℕ) (rs : List Routine) (cs : List RoutineCode) (a z : ℕ) → RoutinesAt code last number rs cs a z → ((k : ℕ) (r : Routine) → slice_get rs k ≡ Some r → last < number + k → silent_all r.body) → (k : ℕ) (c : RoutineCode) → slice_get cs k ≡ Some c → last < number + k → Mute code table c.entry
  routines_mute last number [] [] a z h s k c e l = absurd (cc)
  routines_mute last number [] (d ∷ cs) a z h s k c e l = absurd h
  routines_mute last number (r ∷ rs) [] a z h s k c e l = absurd h
  routines_mute last number (r ∷ rs) (d ∷ cs) a z h s zero c e l =
      let f : d ≡ c = cc in
      subst (λ (x : RoutineCode). Mute code table x.entry) f (routine_mute last number r d a h.middle h.first (s zero r refl l))
  routines_mute last number (r ∷ rs) (d ∷ cs) a z h s (suc k) c e l =
      routines_mute last (number + 1) rs cs h.middle z h.second (λ j q g m. s (suc j) q g (omega arith)) k c e (omega arith)

pub lowered_paced : (source : Source) (code : Code) → Lowered source code → IsPaced (laid_of code) code.routines
lowered_paced source code h =
    let o = outside_end (laid_of code) code.routines in
    let starts = routines_start (laid_of code) code.routines h.last 0 source.routines code.routines 0 (length code.ops) h.routines o in
    let all : From (laid_of code) code.routines 0 code.routines = record { there = λ k c e. let g : 0 + k ≡ k = omega arith in subst (λ n. slice_get code.routines n ≡ Some c) g e } in
    let mute = λ (r : ℕ) (c : RoutineCode) (l : h.last < r) (e : slice_get code.routines r ≡ Some c). routines_mute (laid_of code) code.routines h.last 0 source.routines code.routines 0 (length code.ops) h.routines (λ k q g m. h.silent k q g (omega arith)) r c e (omega arith) in
    record {
      each = λ at i g. routines_each (laid_of code) code.routines starts h.last 0 source.routines code.routines 0 (length code.ops) mute all h.routines o at (omega arith) (slice_get_within code.ops at i g) i g;
    }
