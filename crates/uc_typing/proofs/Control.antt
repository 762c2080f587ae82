-- To-do lists that are in order stay so as pieces are taken apart, and for exits that leave them.
use Rattle.std.proofs.Common.{◌≡◌, ℕ, List, [], ◌∷◌, inl, inr, Option, Some, None, Bool, true, false, refl, sym, ap, ◌∙◌, subst}
use Rattle.std.specs.Prelude.{◌&&◌}
use Rattle.uc_tree.specs.Source.{Shape, Character, Truth, Integer, Binding, Last, Field, Array, Expr, CleanUp, Destroys, DestroysAll, Unwinds, Forgets, Leaves, Ends, Frees, Restores, Clauses, NoClauses, Otherwise, MoreClauses, clause_count, Order, TestFirst, BodyFirst, NoTest, Way, ToBreak, ToContinue, ToReturn, ToEnd, Stmt, Raised, Plainly, BuiltAt, AgainFrom, Handlers, NoHandlers, MoreHandlers}
use Rattle.uc_machine.specs.Raising as r
use Rattle.uc_machine.specs.Quiet as q
use Rattle.uc_machine.specs.Quiet.{Value, Number, Place, Running, Object, Nothing, Link, Slot, FieldAt, At, Env, Active, State, Step, Goes, Ticks, Asks, Todo, at, in_env, top, below, number, is_zero, loaded, written, further, address, variable_at, this_frame, nought, index_in, outcome, Outcome, Gives, Faults, LAST_ADDRESS, act, eval_step, object_step, quiet, with_elements, converting}
use Rattle.uc_machine.specs.Pieces as pc
use Rattle.uc_typing.specs.Typing.{Ty, Num, Cell, Obj, Raw, Row, Clu, Pro, Name, Sig, Table, Fine, FineClean, FineRaised, FineStmts, FineHandlers, FineLoop}
use Rattle.uc_typing.specs.Pieces as on
use Rattle.uc_typing.specs.Pieces.{IsNone, AreNumbers, onto, item_tys, Exits, nums, guard_tys, Popped, Reached, Met, Ok, Left}
use Rattle.uc_typing.proofs.Operands.{either}

module _ (t : Table) (g : Sig) (base : List Name) where
  -- behind a simple piece something is in order for some operands
  stepped : (sc : List Name) (p : Todo) (own : List Ty) (K : List Ty → Type 0) (X : Type 0) → ((own : List Ty) → K own → X) → on.Step t g sc p own K → X
  stepped sc (pc.Eval e) own K X f h = f _ h.2
  stepped sc (pc.Arguments es) own K X f h = f _ h.2
  stepped sc (pc.CallNow r) own K X f h = f _ h.4
  stepped sc (pc.CallOnNow r) own K X f h = f _ h.3
  stepped sc (pc.CallUnwrittenNow r) own K X f h = f _ h.3
  stepped sc (pc.Pieces is) own K X f h = f _ h.2
  stepped sc pc.LoadNow (Cell a ∷ more) K X f h = f _ h.1
  stepped sc (pc.ElementNow n s) (Num ∷ (Row m a ∷ more)) K X f h = f _ h.2
  stepped sc (pc.FieldNow s i) (Obj c ∷ more) K X f h = f _ h.2
  stepped sc pc.NegateNow (Num ∷ more) K X f h = f _ h
  stepped sc pc.NotNow (Num ∷ more) K X f h = f _ h
  stepped sc pc.CharacterNow (Num ∷ more) K X f h = f _ h
  stepped sc pc.TruthNow (Num ∷ more) K X f h = f _ h
  stepped sc (pc.OperateNow op) (Num ∷ (Num ∷ more)) K X f h = f _ h
  stepped sc pc.CopyNow (a ∷ more) K X f h = f _ h
  stepped sc pc.CopyBelowNow (a ∷ (b ∷ more)) K X f h = f _ h
  stepped sc pc.DropNow (a ∷ more) K X f h = f _ h
  stepped sc pc.DropBelowNow (a ∷ (b ∷ more)) K X f h = f _ h
  stepped sc pc.StoreNow (Num ∷ (Cell Num ∷ more)) K X f h = f _ h
  stepped sc pc.KeepNow (Num ∷ (Cell Num ∷ more)) K X f h = f _ h
  stepped sc pc.BindNow (a ∷ (Cell b ∷ more)) K X f h = f _ h.1
  stepped sc (pc.SetNow k) (Num ∷ more) K X f h = f _ h
  stepped sc (pc.Choose x y) (Num ∷ more) K X f h = f _ h.2
  stepped sc (pc.Branch a b) (Num ∷ more) K X f h = f _ h.3
  stepped sc pc.TickNow own K X f h = f _ h
  stepped sc (pc.CountNow n) own K X f h = f _ h
  stepped sc pc.MoreNow own K X f h = f _ h
  stepped sc (pc.TurnNow o e step b) own K X f h = f _ h.2
  stepped sc (pc.Again o e step b) (Num ∷ more) K X f h = f _ h.2
  stepped sc (pc.PrintNow form) (Num ∷ more) K X f h = f _ h
  stepped sc (pc.TextNow k) own K X f h = f _ h
  stepped sc pc.GatherNow own K X f h = f _ h
  stepped sc pc.FlushNow own K X f h = f _ h
  stepped sc (pc.ReadNow form) own K X f h = f _ h
  stepped sc (pc.ClearNow k n) own K X f h = f _ h.1
  stepped sc (pc.Items is) own K X f h = f _ h.1
  stepped sc (pc.Values is) own K X f h = f _ h.1
  stepped sc (pc.Targets xs) own K X f h = f _ h.1
  stepped sc (pc.Variables ds) own K X f h = f _ h.1
  stepped sc (pc.Do a) own K X f h = f _ h.2
  stepped sc (pc.Rest a) own K X f h = f _ h.2
  stepped sc (pc.Within line) own K X f h = f _ h.1
  stepped sc pc.NoReturnNow own K X f h = f _ h
  stepped sc pc.ThrowNow (a ∷ (b ∷ (c ∷ more))) K X f h = f _ h
  stepped sc pc.RaiseNow (a ∷ (b ∷ (c ∷ more))) K X f h = f _ h
  stepped sc (pc.SetUpNow r) own K X f h = f _ h.2
  stepped sc pc.EnlivenNow own K X f h = f _ h.1
  stepped sc pc.TakeDownNow own K X f h = f _ h.1
  stepped sc pc.ForgetNow own K X f h = f _ h.1
  stepped sc (pc.LiveNow r) own K X f h = f _ h.3
  stepped sc pc.ResumeNow own K X f h = f _ h.1
  stepped sc pc.SuspendNow own K X f h = f _ h
  stepped sc pc.Land own K X f h = f _ h
  stepped sc (pc.EnterNow m r) own K X f h = f _ h.4
  stepped sc pc.LeaveNow own K X f h = f _ h.1
  stepped sc (pc.MakeNow n r) own K X f h = f _ h.3
  stepped sc (pc.BindMadeNow n r) (Raw d ∷ own) K X f h = f _ h.4
  stepped sc pc.MadeNow own K X f h = f _ h.1
  stepped sc (pc.SpawnNow r) own K X f h = f _ h.2
  stepped sc (pc.ChildNow r) own K X f h = f _ h.2
  stepped sc pc.GoneNow own K X f h = f _ h.1
  stepped sc pc.GiveUpNow own K X f h = f _ h.1
  stepped sc pc.ClusterNow own K X f h = f _ h
  stepped sc pc.ProcessorNow (Clu ∷ more) K X f h = f _ h
  stepped sc pc.ClusterEndNow (Clu ∷ more) K X f h = f _ h
  stepped sc pc.ProcessorEndNow (Pro ∷ more) K X f h = f _ h
  stepped sc (pc.ConditionNow k n) (Num ∷ more) K X f h = f _ h
  stepped sc pc.WaitNow (Num ∷ (Num ∷ more)) K X f h = f _ h.1
  stepped sc pc.SignalNow (Num ∷ more) K X f h = f _ h.1
  stepped sc pc.SignalBlockNow (Num ∷ more) K X f h = f _ h.1
  stepped sc pc.EmptyNow (Num ∷ more) K X f h = f _ h.1
  stepped sc pc.FrontNow (Num ∷ more) K X f h = f _ h.1
  stepped sc pc.YieldNow own K X f h = f _ h
  stepped sc pc.MigrateNow (Clu ∷ more) K X f h = f _ h
  stepped sc (pc.Guards cs) own K X f h = f _ h.1
  stepped sc (pc.AcceptNow site n) own K X f h = f _ h.3
  stepped sc pc.FailedNow (Num ∷ more) K X f h = f _ h
  stepped sc (pc.ChooseNow cs) (Num ∷ more) K X f h = f _ h.2
  stepped sc pc.RaiseAtNow (Obj c ∷ (a ∷ (b ∷ (d ∷ more)))) K X f h = f _ h.1
  stepped sc (pc.EnableNow events cell) own K X f h = f _ h
  stepped sc (pc.DisableNow events cell) own K X f h = f _ h
  stepped sc (pc.RestoreNow cell) own K X f h = f _ h
  stepped sc pc.PollNow own K X f h = f _ h
  stepped sc pc.DeliverNow (Num ∷ (Num ∷ (Num ∷ more))) K X f h = f _ h
  stepped sc _ own K X f h = absurd h

  -- what is in order is so for an exit
  met : (sc : List Name) (q : pc.Sort) (own : List Ty) (X : Type 0) (todo : List Todo) → (X → Left t g base sc todo) → ((sc : List Name) (own : List Ty) → Ok t g base sc todo own → Left t g base sc todo) → Reached t g sc q own X (λ sc. Ok t g base sc todo) → Met t g sc q (λ sc. Left t g base sc todo) (λ sc. Ok t g base sc todo)
  met sc pc.Simple own X todo f k h = f h
  met sc (pc.IsLoop o x e b) own X todo f k h = (h.1, h.2, k sc [] h.2)
  met sc pc.IsWhole own X todo f k h = (h.1, h.2)
  met [] (pc.IsClean c) own X todo f k h = absurd h.0
  met (x ∷ sc) (pc.IsClean c) own X todo f k h = (h.0.0, h.0.1, k sc own h.0.2)
  met sc (pc.IsFill n b d) own X todo f k h = (h.1, k sc own h.2)
  met sc (pc.IsSweep e) own X todo f k h = (h.0, k sc own h.1)
  met sc (pc.IsPart c) own X todo f k h = (h.0, k sc own h.1)
  met sc (pc.IsGuard hs) own X todo f k h = (h.1, h.2, k sc [] h.2)
  met sc pc.IsFinish own X todo f k h = h
  met sc pc.IsFinishCoroutine own X todo f k h = h

  pub left : (sc : List Name) (todo : List Todo) (own : List Ty) → Ok t g base sc todo own → Left t g base sc todo
  left sc [] own h = h
  left sc (pc.Exit w ∷ todo) own h = h.1
  left sc (pc.Unwind ∷ todo) own h = h
  left sc (p ∷ todo) own h = met sc (pc.sort p) own (on.Step t g sc p own (Ok t g base sc todo)) todo (stepped sc p own (Ok t g base sc todo) (Left t g base sc todo) (left sc todo)) (λ sc. left sc todo) h

  from_none : (sc : List Name) (todo : List Todo) (own : List Ty) → IsNone own → Ok t g base sc todo [] → Ok t g base sc todo own
  from_none sc todo [] n h = h
  from_none sc todo (a ∷ more) n h = absurd n

  none_numbers : (own : List Ty) → IsNone own → AreNumbers own
  none_numbers [] n = tt
  none_numbers (a ∷ own) n = absurd n

  exit_numbers : (w : Way) (own : List Ty) → Exits t g w own → AreNumbers own
  exit_numbers ToReturn own x = subst AreNumbers (sym x.0) tt
  exit_numbers ToBreak own x = none_numbers own x
  exit_numbers ToContinue own x = none_numbers own x
  exit_numbers ToEnd own x = none_numbers own x

  -- an exit leaves a piece
  pub exit_left : (sc : List Name) (w : Way) (s : pc.Sort) (todo : List Todo) (own : List Ty) → Exits t g w own → Met t g sc s (λ sc. Left t g base sc todo) (λ sc. Ok t g base sc todo) → Ok t g base sc (q.left_behind w s todo) own
  exit_left sc w pc.Simple todo own x h = (x, h)
  exit_left sc ToBreak (pc.IsLoop o e step b) todo own x h = from_none sc todo own x h.1
  exit_left sc ToContinue (pc.IsLoop o e step b) todo own x h = (x, h.0, h.1)
  exit_left sc ToReturn (pc.IsLoop o e step b) todo own x h = (x, h.2)
  exit_left sc ToEnd (pc.IsLoop o e step b) todo own x h = (x, h.2)
  exit_left sc ToBreak pc.IsWhole todo own x h = from_none sc todo own x h.1
  exit_left sc ToContinue pc.IsWhole todo own x h = from_none sc todo own x h.1
  exit_left sc ToReturn pc.IsWhole todo own x h = let f : true ≡ false = sym h.0 ∙ x.1 in absurd (cc)
  exit_left sc ToEnd pc.IsWhole todo own x h = from_none sc todo own x h.1
  exit_left [] w (pc.IsClean c) todo own x h = absurd h
  exit_left (y ∷ sc) w (pc.IsClean c) todo own x h = ((h.0, h.1, (x, h.2)), exit_numbers w own x)
  exit_left sc w (pc.IsFill n b d) todo own x h = (x, h.1)
  exit_left sc w (pc.IsSweep e) todo own x h = (x, h.1)
  exit_left sc w (pc.IsPart c) todo own x h = (x, h.1)
  exit_left sc w (pc.IsGuard hs) todo own x h = (x, h.2)
  exit_left sc w pc.IsFinish todo own x h = h
  exit_left sc w pc.IsFinishCoroutine todo own x h = h

  -- loops
  test_ok : (sc : List Name) (o : Order) (e : Expr) (step : Option Expr) (b : Stmt) (todo : List Todo) → FineLoop t g sc e step b → Ok t g base sc todo [] → Ok t g base sc (q.test_todo o e step b todo) []
  test_ok sc TestFirst e step b todo f h = (Num, f.0, (tt, f, h))
  test_ok sc BodyFirst e step b todo f h = (Num, f.0, (tt, f, h))
  test_ok sc NoTest e step b todo f h = (tt, f, h)

  pub loop_ok : (sc : List Name) (o : Order) (e : Expr) (step : Option Expr) (b : Stmt) (todo : List Todo) → FineLoop t g sc e step b → Ok t g base sc todo [] → Ok t g base sc (q.loop_todo o e step b todo) []
  loop_ok sc TestFirst e step b todo f h = test_ok sc TestFirst e step b todo f h
  loop_ok sc BodyFirst e step b todo f h = (tt, f, h)
  loop_ok sc NoTest e step b todo f h = (tt, f, h)

  pub turn_ok : (sc : List Name) (o : Order) (e : Expr) (step : Option Expr) (b : Stmt) (todo : List Todo) → FineLoop t g sc e step b → Ok t g base sc todo [] → Ok t g base sc (q.step_todo step (q.test_todo o e step b todo)) []
  turn_ok sc o e None b todo f h = test_ok sc o e None b todo f h
  turn_ok sc o e (Some a) b todo f h = (f.1.0, f.1.1, test_ok sc o e (Some a) b todo f h)

  -- clean-ups
  pub clean_ok : (sc : List Name) (c : CleanUp) (todo : List Todo) (own : List Ty) → FineClean t g sc c → Ok t g base sc todo own → Ok t g base sc (pc.clean_todo c todo) own
  clean_ok sc (Destroys e) todo own f h = (f.0, f.1, h)
  clean_ok sc (DestroysAll n e) todo own f h = (f, h)
  clean_ok sc Unwinds todo own f h = (f, h)
  clean_ok sc Forgets todo own f h = (f, h)
  clean_ok sc Leaves todo own f h = (f.0, h)
  clean_ok sc Ends todo own f h = (f, h)
  clean_ok sc (Frees None) todo own f h = (f.0, h)
  clean_ok sc (Frees (Some r)) todo own f h = (f.1, f.0, h)
  clean_ok sc (Restores k) todo own f h = h

  -- behind a scope that an event leaves
  pub left_clean_ok : (sc : List Name) (c : CleanUp) (todo : List Todo) (own : List Ty) → FineClean t g sc c → Ok t g base sc todo own → Ok t g base sc (r.left_todo c todo) own
  left_clean_ok sc (Frees o) todo own f h = (f.0, h)
  left_clean_ok sc (Destroys e) todo own f h = (f.0, f.1, h)
  left_clean_ok sc (DestroysAll n e) todo own f h = (f, h)
  left_clean_ok sc Unwinds todo own f h = (f, h)
  left_clean_ok sc Forgets todo own f h = (f, h)
  left_clean_ok sc Leaves todo own f h = (f.0, h)
  left_clean_ok sc Ends todo own f h = (f, h)
  left_clean_ok sc (Restores k) todo own f h = h

  pub fill_ok : (sc : List Name) (b : Bool) (n : ℕ) (e d : Expr) (todo : List Todo) (own : List Ty) → Fine t g sc e → Fine t g sc d → Ok t g base sc todo own → Ok t g base sc (q.fill_todo b n e d todo) own
  fill_ok sc false n e d todo own f k h = h
  fill_ok sc true n e d todo own f k h = (f.0, f.1, (f, k, h))

  -- a value as it is kept
  pub converted_ok : (sc : List Name) (s : Shape) (todo : List Todo) (own : List Ty) → Ok t g base sc todo (Num ∷ own) → Ok t g base sc (converting s todo) (Num ∷ own)
  converted_ok sc Integer todo own h = h
  converted_ok sc Character todo own h = h
  converted_ok sc Truth todo own h = h
  converted_ok sc Binding todo own h = h
  converted_ok sc Last todo own h = h
  converted_ok sc (Field a b) todo own h = h
  converted_ok sc (Array n a) todo own h = h

  -- events
  pub raised_ok : (sc : List Name) (x : Raised) (todo : List Todo) → FineRaised t g sc x → Ok t g base sc todo (Num ∷ (Num ∷ (Num ∷ []))) → Ok t g base sc (r.raised_todo x todo) []
  raised_ok sc (Plainly n) todo f o = (Num, refl, (Num, refl, (Num, refl, o)))
  raised_ok sc (BuiltAt n k e) todo f o = (f.0, (f.1.0, f.1.1, (Num, refl, (Num, inr (inl refl), (Num, inr (inl refl), o)))))
  raised_ok sc (AgainFrom k) todo f o = (Num, inr (inl refl), (Num, inr (inl refl), (Num, inr (inl refl), o)))

  pub handler_ok : (sc : List Name) (h : r.Handler) (todo : List Todo) → FineStmts t g sc h.body → Ok t g base sc todo [] → Ok t g base sc (r.handler_todo h todo) (Num ∷ (Num ∷ (Num ∷ [])))
  handler_ok sc h todo f o = (tt, f, (tt, o))

module _ (t : Table) (g : Sig) where
  abbrev pub FineHandler : List Name → r.Handler → Type 0
  FineHandler sc h = FineStmts t g sc h.body

  abbrev pub MaybeFine : List Name → Option r.Handler → Type 0
  MaybeFine sc None = Unit {0}
  MaybeFine sc (Some h) = FineHandler sc h

  pub handlers_fine : (sc : List Name) (kind : Bool) (e : r.Event) (hs : Handlers) → FineHandlers t g sc hs → MaybeFine sc (r.handler_for kind e hs)
  handlers_fine sc kind e NoHandlers f = tt
  handlers_fine sc kind e (MoreHandlers resumes event cell line body rest) f =
      either (MaybeFine sc) (r.same_kind kind resumes && r.takes event e) _ _ f.0 (handlers_fine sc kind e rest f.1)

-- the guards of an accept statement are as many numbers as it has clauses
pub guard_nums : (cs : Clauses) → guard_tys cs ≡ nums (clause_count cs)
guard_nums NoClauses = refl
guard_nums (Otherwise b) = refl
guard_nums (MoreClauses guard b cs) = ap (λ l. Num ∷ l) (guard_nums cs)
