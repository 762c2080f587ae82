-- In a source that is in order each call has as many arguments as its routine has parameters.
use Rattle.std.proofs.Common.{◌≡◌, ℕ, zero, suc, ◌<◌, List, [], ◌∷◌, length, Option, Some, None, refl, sym, ap, ◌∙◌, subst, arith}
use Rattle.std.specs.Prelude.{slice_get}
use Rattle.uc_tree.specs.Programs.{Site}
use Rattle.uc_tree.specs.Source as src
use Rattle.uc_tree.specs.Source.{Expr, Exprs, ObjectExpr, Stmt, Stmts, EventStmt, TaskStmt, Handlers, Clauses, CleanUp, Raised, Item, Target, Declared, Routine, Source}
use Rattle.uc_typing.specs.Typing as typed
use Rattle.uc_typing.specs.Typing.{Ty, Name, Kept, Sig, Table, IsRoutine, Yields, GiveAll, ObjectGives, FineItems, FineTargets, FineDeclared, FineClean, FineRaised, FineGuards, FineStmt, FineStmts, FineEvent, FineTask, FineHandlers, FineClauses, FineStep}
use Rattle.uc_typing.specs.States.{Sound}
use Rattle.uc_site_laws.specs.Named.{NamedAt, NamedStmt, NamedStmts, NamedEvent, NamedTask, NamedHandlers, NamedClauses, NamedRoutine, NamedSource}
use Rattle.uc_state_laws.specs.EventLaws.{LawCounted}
use Rattle.uc_state_laws.specs.Counted.{params_at, params, count, CountedExpr, CountedExprs, CountedObject, CountedMaybe, CountedItems, CountedTargets, CountedDeclared, CountedClean, CountedRaised, CountedAt, CountedStmt, CountedStmts, CountedEvent, CountedTask, CountedHandlers, CountedClauses, CountedRoutine, CountedSource}

-- what stands at a place of a list
at : {A : Type 0} (xs : List A) (n : ℕ) → n < length xs → (x : A) × (slice_get xs n ≡ Some x)
at [] n lt = let b : ⊥ = omega (arith, lt) in absurd b
at (x ∷ xs) zero lt = (x, refl)
at (x ∷ xs) (suc n) lt = at xs n (omega (arith, lt))

module _ (sites : List Site) (source : Source) (t : Table) (sound : Sound t source) where
  -- a routine has the parameters of its signature
  has_params : (r : ℕ) → IsRoutine t r → length (t.routine r).params ≡ params source r
  has_params r k =
      let x = at source.routines r (subst (λ n. r < n) (sym sound.count) k) in
      sym (ap params_at x.1 ∙ (sound.routines r x.0 x.1).params)

  module _ (g : Sig) where
    counts : (sc : List Name) (args : Exprs) (tys : List Ty) → GiveAll t g sc args tys → count args ≡ length tys
    counts sc src.NoExprs [] h = refl
    counts sc src.NoExprs (a ∷ tys) h = absurd h
    counts sc (src.MoreExprs e es) [] h = absurd h
    counts sc (src.MoreExprs e es) (a ∷ tys) h = ap suc (counts sc es tys h.1)

    takes : (sc : List Name) (args : Exprs) (r : ℕ) → GiveAll t g sc args (t.routine r).params → IsRoutine t r → count args ≡ params source r
    takes sc args r h k = counts sc args (t.routine r).params h ∙ has_params r k

    takes_none : (r : ℕ) → [] ≡ (t.routine r).params → IsRoutine t r → 0 ≡ params source r
    takes_none r h k = ap length h ∙ has_params r k

    module _ (sc : List Name) where
      mutual
        expr : (e : Expr) (a : Ty) → Yields t g sc e a → CountedExpr source e
        expr (src.Literal n) a h = tt
        expr (src.Variable k) a h = tt
        expr (src.Element n s e i) a h = (expr e (typed.Row n a) h.1, expr i typed.Num h.2)
        expr (src.Get k) a h = tt
        expr (src.Load e) a h = expr e (typed.Cell a) h.1
        expr (src.Negated e) a h = expr e typed.Num h.1
        expr (src.Not e) a h = expr e typed.Num h.1
        expr (src.AsCharacter e) a h = expr e typed.Num h.1
        expr (src.AsTruth e) a h = expr e typed.Num h.1
        expr (src.Operate op e f) a h = (expr e typed.Num h.1, expr f typed.Num h.2)
        expr (src.And e f) a h = (expr e typed.Num h.1, expr f typed.Num h.2)
        expr (src.Or e f) a h = (expr e typed.Num h.1, expr f typed.Num h.2)
        expr (src.Set k e) a h = expr e typed.Num h.1
        expr (src.Assign p e) a h = (expr p (typed.Cell typed.Num) h.1, expr e typed.Num h.2)
        expr (src.First e f) a h = (expr e a h.0, expr f h.1.0 h.1.1)
        expr (src.Update op s p e) a h = (expr p (typed.Cell typed.Num) h.1, expr e typed.Num h.2)
        expr (src.StepBehind op s p) a h = expr p (typed.Cell typed.Num) h.1
        expr src.Fail a h = tt
        expr (src.Call r args) a h = (exprs args (t.routine r).params h.1, takes sc args r h.1 h.3)
        expr (src.OfObject o) a h = object o a h

        exprs : (es : Exprs) (tys : List Ty) → GiveAll t g sc es tys → CountedExprs source es
        exprs src.NoExprs tys h = tt
        exprs (src.MoreExprs e es) [] h = absurd h
        exprs (src.MoreExprs e es) (a ∷ tys) h = (expr e a h.0, exprs es tys h.1)

        object : (o : ObjectExpr) (a : Ty) → ObjectGives t g sc o a → CountedObject source o
        object src.This a h = tt
        object (src.OwnField s i) a h = tt
        object (src.GetOwn s i) a h = tt
        object (src.FieldOf s i e) a h = expr e (typed.Obj h.0) h.1
        object src.Counted a h = tt
        object (src.CallOn r e args) a h = (expr e _ h.1.1, exprs args (t.routine r).params h.2, takes sc args r h.2 h.1.3)
        object (src.CallUnwritten r e) a h = (expr e _ h.1.1, takes_none r h.2 h.1.3)
        object (src.CallLive r e args) a h = (expr e _ h.1.1, exprs args (t.routine r).params h.2, takes sc args r h.2 h.1.3)
        object (src.EnterOn m r e args) a h = (expr e _ h.1.1, exprs args (t.routine r).params h.2, takes sc args r h.2 h.1.3)
        object (src.EndOn r written e) a h = (expr e _ h.1.1, takes_none r h.2 h.1.3)
        object (src.Bind p e) a h = (expr p (typed.Cell a) h.0, expr e a h.1)
        object (src.MakeOn n r written p args) a h = (expr p _ h.1.1, exprs args (t.routine r).params h.2, takes sc args r h.2 h.1.3)
        object src.NewCluster a h = tt
        object (src.NewProcessor e) a h = expr e typed.Clu h.1
        object (src.EndCluster e) a h = expr e typed.Clu h.1
        object (src.EndProcessor e) a h = expr e typed.Pro h.1
        object (src.ConditionAt k n e) a h = expr e typed.Num h.1
        object (src.Wait e f) a h = (expr e typed.Num h.2, expr f typed.Num h.3)
        object (src.Signal e) a h = expr e typed.Num h.2
        object (src.SignalBlock e) a h = expr e typed.Num h.2
        object (src.IsEmpty e) a h = expr e typed.Num h.2
        object (src.FrontOf e) a h = expr e typed.Num h.2

      items : (is : List Item) → FineItems t g sc is → CountedItems source is
      items [] h = tt
      items (src.Show form e ∷ is) h = (expr e typed.Num h.0, items is h.1)
      items (src.ShowText k ∷ is) h = (tt, items is h.1)

      targets : (xs : List Target) → FineTargets t g sc xs → CountedTargets source xs
      targets [] h = tt
      targets (x ∷ xs) h = (expr x.place (typed.Cell typed.Num) h.0, targets xs h.1)

      start : (k : ℕ) (v : Option Expr) → typed.FineStart t g sc k v → CountedMaybe source v
      start k None h = tt
      start k (Some e) h = expr e typed.Num h.1

      declared : (ds : List Declared) → FineDeclared t g sc ds → CountedDeclared source ds
      declared [] h = tt
      declared (d ∷ ds) h = (start d.cell d.value h.1, declared ds h.2)

      step : (e : Option Expr) → FineStep t g sc e → CountedMaybe source e
      step None h = tt
      step (Some e) h = expr e h.0 h.1

      clean : (c : CleanUp) → FineClean t g sc c → CountedClean source c
      clean (src.Destroys e) h = expr e h.0 h.1
      clean (src.DestroysAll n e) h = expr e h.0 h.1
      clean c h = tt

      raised : (r : Raised) → FineRaised t g sc r → CountedRaised source r
      raised (src.Plainly n) h = tt
      raised (src.BuiltAt n k e) h = expr e h.1.0 h.1.1
      raised (src.AgainFrom k) h = tt

      raised_at : (r : Raised) → NamedAt r → FineRaised t g sc r → CountedAt source r
      raised_at (src.Plainly n) k h = k
      raised_at (src.BuiltAt n c e) k h = (k.0, expr e h.1.0 h.1.1)
      raised_at (src.AgainFrom c) k h = absurd k

    mutual
      stmt : (sc : List Name) (a : Stmt) → NamedStmt sites a → FineStmt t g sc a → CountedStmt source a
      stmt sc (src.Skip line) n h = tt
      stmt sc (src.Block line body) n h = stmts sc body n h
      stmt sc (src.Whole line body) n h = stmts sc body n h.0
      stmt sc (src.Evaluate line e) n h = expr sc e h.0 h.1
      stmt sc (src.Declare line ds) n h = declared sc ds h
      stmt sc (src.Print line is) n h = items sc is h
      stmt sc (src.PrintTogether line is) n h = items sc is h
      stmt sc (src.Read line xs) n h = targets sc xs h
      stmt sc (src.If line e a b) n h = (expr sc e typed.Num h.0, stmt sc a n.1 h.1, stmt sc b n.2 h.2)
      stmt sc (src.Loop line o e f b) n h = (expr sc e typed.Num h.0, step sc f h.1, stmt sc b n.2 h.2)
      stmt sc (src.Break line) n h = tt
      stmt sc (src.Continue line) n h = tt
      stmt sc (src.Return line None) n h = tt
      stmt sc (src.Return line (Some e)) n h = expr sc e typed.Num h.0
      stmt sc (src.Owes line) n h = tt
      stmt sc (src.Fill line m b d) n h = (expr sc b h.0.0 h.0.1, expr sc d h.1.0 h.1.1)
      stmt sc (src.OfEvents a) n h = event sc a n h
      stmt sc (src.OfTasks a) n h = task sc a n h

      stmts : (sc : List Name) (ss : Stmts) → NamedStmts sites ss → FineStmts t g sc ss → CountedStmts source ss
      stmts sc src.Nil n h = tt
      stmts sc (src.Then a ss) n h = (stmt sc a n.0 h.0, stmts sc ss n.1 h.1)
      stmts sc (src.Scoped c ss) n h = (clean sc c h.3, stmts (h.0 ∷ sc) ss n.1 h.2)
      stmts sc (src.Built c ss) n h = (clean sc c h.1.0, stmts sc ss n.1 h.0)

      event : (sc : List Name) (a : EventStmt) → NamedEvent sites a → FineEvent t g sc a → CountedEvent source a
      event sc (src.Throw line r) n h = raised sc r h
      event sc (src.Raise line r) n h = raised sc r h
      event sc (src.Try line body hs) n h = (stmts sc body n.0 h.0, handlers sc hs n.1 h.1)
      event sc (src.RaiseAt line r e) n h = (raised_at sc r n.0 h.0, expr sc e (typed.Obj h.1.0) h.1.1)
      event sc (src.Enable line events cell a) n h = stmt (Kept ∷ sc) a n h
      event sc (src.Disable line events cell a) n h = stmt (Kept ∷ sc) a n h

      handlers : (sc : List Name) (hs : Handlers) → NamedHandlers sites hs → FineHandlers t g sc hs → CountedHandlers source hs
      handlers sc src.NoHandlers n h = tt
      handlers sc (src.MoreHandlers resumes e cell line body hs) n h = (stmts sc body n.0 h.0, handlers sc hs n.1 h.1)

      task : (sc : List Name) (a : TaskStmt) → NamedTask sites a → FineTask t g sc a → CountedTask source a
      task sc (src.Resume line) n h = tt
      task sc (src.Suspend line) n h = tt
      task sc (src.SetUp r) n h = tt
      task sc src.Enliven n h = tt
      task sc src.TakeDown n h = tt
      task sc (src.Yield line) n h = tt
      task sc (src.Migrate line e) n h = expr sc e typed.Clu h
      task sc (src.Accept line site cs) n h = clauses sc cs n.1 h.1 h.2

      clauses : (sc : List Name) (cs : Clauses) → NamedClauses sites cs → FineGuards t g sc cs → FineClauses t g sc cs → CountedClauses source cs
      clauses sc src.NoClauses n k h = tt
      clauses sc (src.Otherwise b) n k h = stmt sc b n h
      clauses sc (src.MoreClauses guard b cs) n k h = (expr sc guard typed.Num k.0, stmt sc b n.1 h.0, clauses sc cs n.2 k.1 h.1)

  pub counted_source : NamedSource sites source → CountedSource source
  counted_source known n = by (slice_get source.routines n) refl (known n)
    where
      by : (x : Option Routine) → slice_get source.routines n ≡ x → NamedRoutine sites x → CountedRoutine source x
      by None e k = tt
      by (Some r) e k = stmts (t.routine n) [] r.body k (sound.routines n r e).body

pub law_counted : LawCounted
law_counted sites source table sound named = counted_source sites source table sound named
