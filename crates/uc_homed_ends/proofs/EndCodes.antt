-- In the source of a program that breaks no rule mutex objects are ended by clean-ups alone.
use Rattle.std.proofs.Common.{◌≡◌, ℕ, inl, inr, ◌⊎◌, Bool, true, false, List, [], ◌∷◌, Option, Some, None, refl}
use Rattle.std.specs.Prelude.{slice_get}
use Rattle.uc_tree.specs.Programs.{Program}
use Rattle.uc_tree.specs.Source as src
use Rattle.uc_tree.specs.Source.{Expr, Exprs, OfObject, EndOn, Load, Variable, OwnField, Element, Binding, Counted, Item, Target, Declared, CleanUp, Stmt, Stmts, EventStmt, TaskStmt, Raised, Handlers, Clauses, Routine, Source}
use Rattle.uc_resolve.specs.Resolve.{source_of}
use Rattle.uc_rules.specs.Breaks.{breaks_of}
use Rattle.uc_typing.specs.Typing.{Name, Kept, Sig, Table, Fine, FineClean, FineStmt, FineStmts, FineEvent, FineHandlers, FineTask, FineClauses}
use Rattle.uc_typing.specs.States.{Routine_is, Sound}
use Rattle.uc_sound.specs.SoundFormed.{IsFormed}
use Rattle.uc_sound.specs.Tables.{table_of}
use Rattle.uc_sound.proofs.SoundLemmas.{law_sound}
use Rattle.uc_life_laws.specs.Ending.{Spot, OfVariable, OfField}
use Rattle.uc_putting_laws.specs.CleanedSpots.{Site, Under, NoSite, AnyPlace, IsHollow, OpensFor, IsOver, Reach, reach_of, apart}
use Rattle.uc_putting_laws.specs.Calling.{PlainExpr, PlainExprs, PlainMaybe, PlainItems, PlainTargets, PlainDeclared, PlainNew, Binds, PlaceAt, CallsAt, MakesAt, MakesEach, EndsAt, EndsEach, EndsNumber, Evaluates, FillsBy, SweepsBy, CleansBy, RaisesBy, CallingStmt, CallingStmts, CallingEvent, CallingHandlers, CallingTask, CallingClauses, Opening, CallingBody, CallingRoutine, CallingSource}
use Rattle.uc_putting_laws.specs.PuttingLaws.{special_of}
use Rattle.uc_putting_laws.proofs.Routines.{law_calling}
use Rattle.uc_homed_ends.proofs.Wholes.{plain_whole}
use Rattle.uc_homed_ends.specs.EndCode.{FreeExpr, FreeExprs, FreeMaybe, FreeItems, FreeTargets, FreeDeclared, FreeRaised, EndsSpot, EndsElement, FreeSweep, FreeClean, FreeStmt, FreeStmts, FreeEvent, FreeHandlers, FreeTask, FreeClauses, FreeRoutine, FreeSource}

-- what opens next behind a statement
data Near : Type 0 where
  Nothing_near : Near
  Near_by : Stmts → Near

abbrev site_of : Table → Near → Site → Type 0
site_of t Nothing_near x = NoSite x
site_of t (Near_by ss) x = OpensFor t ss x

module _ (t : Table) (source : Source) (special : ℕ → Bool) (plain : (r : ℕ) → special r ≡ false → (t.routine r).whole ≡ false) where
  -- expressions

  mutual
    expr : (e : Expr) → PlainExpr t source special e → FreeExpr t e
    expr (src.Literal n) h = tt
    expr (src.Variable k) h = tt
    expr (src.Element n s e i) h = (expr e h.0, expr i h.1)
    expr (src.Get k) h = tt
    expr (src.Load e) h = expr e h
    expr (src.Negated e) h = expr e h
    expr (src.Not e) h = expr e h
    expr (src.AsCharacter e) h = expr e h
    expr (src.AsTruth e) h = expr e h
    expr (src.Operate op e f) h = (expr e h.0, expr f h.1)
    expr (src.And e f) h = (expr e h.0, expr f h.1)
    expr (src.Or e f) h = (expr e h.0, expr f h.1)
    expr (src.Set k e) h = expr e h
    expr (src.Assign p e) h = (expr p h.0, expr e h.1)
    expr (src.First e f) h = (expr e h.0, expr f h.1)
    expr (src.Update op s p e) h = (expr p h.0, expr e h.1)
    expr (src.StepBehind op s p) h = expr p h
    expr src.Fail h = tt
    expr (src.Call r args) h = exprs args h.1
    expr (src.OfObject src.This) h = tt
    expr (src.OfObject (src.OwnField s i)) h = tt
    expr (src.OfObject (src.GetOwn s i)) h = tt
    expr (src.OfObject (src.FieldOf s i e)) h = expr e h.1
    expr (src.OfObject src.Counted) h = tt
    expr (src.OfObject (src.CallOn r e args)) h = (expr e h.1.0, exprs args h.1.1)
    expr (src.OfObject (src.CallLive r e args)) h = (expr e h.1.0, exprs args h.1.1)
    expr (src.OfObject (src.CallUnwritten r e)) h = expr e h.1
    expr (src.OfObject (src.EnterOn m r e args)) h = (plain r h.0, expr e h.1.0, exprs args h.1.1)
    expr (src.OfObject (src.EndOn r w e)) h = absurd h.0
    expr (src.OfObject (src.Bind p e)) h = absurd h.0
    expr (src.OfObject (src.MakeOn c r w p args)) h = absurd h.0
    expr (src.OfObject src.NewCluster) h = absurd h.0
    expr (src.OfObject (src.NewProcessor e)) h = absurd h.0
    expr (src.OfObject (src.EndCluster e)) h = absurd h.0
    expr (src.OfObject (src.EndProcessor e)) h = absurd h.0
    expr (src.OfObject (src.ConditionAt k n e)) h = expr e h.1
    expr (src.OfObject (src.Wait e f)) h = (expr e h.1.0, expr f h.1.1)
    expr (src.OfObject (src.Signal e)) h = expr e h.1
    expr (src.OfObject (src.SignalBlock e)) h = expr e h.1
    expr (src.OfObject (src.IsEmpty e)) h = expr e h.1
    expr (src.OfObject (src.FrontOf e)) h = expr e h.1

    exprs : (es : Exprs) → PlainExprs t source special es → FreeExprs t es
    exprs src.NoExprs h = tt
    exprs (src.MoreExprs e es) h = (expr e h.0, exprs es h.1)

  maybe : (e : Option Expr) → PlainMaybe t source special e → FreeMaybe t e
  maybe None h = tt
  maybe (Some e) h = expr e h

  items : (is : List Item) → PlainItems t source special is → FreeItems t is
  items [] h = tt
  items (src.Show f e ∷ is) h = (expr e h.0, items is h.1)
  items (src.ShowText k ∷ is) h = (tt, items is h.1)

  targets : (xs : List Target) → PlainTargets t source special xs → FreeTargets t xs
  targets [] h = tt
  targets (x ∷ xs) h = (expr x.place h.0, targets xs h.1)

  declared : (ds : List Declared) → PlainDeclared t source special ds → FreeDeclared t ds
  declared [] h = tt
  declared (d ∷ ds) h = (maybe d.value h.0, declared ds h.1)

  newly : (e : Expr) → PlainNew t source special e → FreeExpr t e
  newly (OfObject src.NewCluster) h = tt
  newly (OfObject (src.NewProcessor e)) h = expr e h
  newly e h = absurd h

  new_or : (e : Expr) → PlainExpr t source special e ⊎ PlainNew t source special e → FreeExpr t e
  new_or e (inl h) = expr e h
  new_or e (inr h) = newly e h

  module _ (r : Reach) where
    place : (P : ℕ → Spot → Type 0) (e : Expr) → PlaceAt t source special r P e → FreeExpr t e
    place P (Variable k) h = tt
    place P (OfObject (OwnField s i)) h = tt
    place P (Element n s e i) h = (place (λ m p. P n p) e h.0, expr i h.1)
    place P e h = absurd h

    module _ (P : Site → Type 0) where
      calls : (e : Expr) → CallsAt t source special r P e → FreeExpr t e
      calls (OfObject (src.CallOn q p args)) h = (place (λ n x. P (Under (t.routine q).this n x)) p h.1, exprs args h.2)
      calls (OfObject (src.CallUnwritten q p)) h = place (λ n x. P (Under (t.routine q).this n x)) p h.1
      calls e h = absurd h

      number : (e : Expr) → EndsNumber t source special r P e → FreeExpr t e
      number (OfObject (src.EndCluster (Load p))) h = place (λ n x. P (Under None n x)) p h
      number (OfObject (src.EndProcessor (Load p))) h = place (λ n x. P (Under None n x)) p h
      number e h = absurd h

    binds : (e : Expr) → Binds t source special r e → FreeExpr t e
    binds (OfObject (src.Bind p e)) h = (place AnyPlace p h.0, new_or e h.1)
    binds e h = absurd h

    raises : (x : Raised) → RaisesBy t source special r x → FreeRaised t x
    raises (src.Plainly n) h = tt
    raises (src.BuiltAt n k e) h = calls (IsHollow t k) e h
    raises (src.AgainFrom k) h = tt

    module _ (P : Site → Type 0) where
      makes : (e : Expr) → MakesAt t source special r P e → FreeExpr t e
      makes (OfObject (src.MakeOn c q w (Variable k) args)) h = (tt, exprs args h.2)
      makes (OfObject (src.MakeOn c q w (OfObject (OwnField s i)) args)) h = (tt, exprs args h.2)
      makes e h = absurd h

      makes_each : (e : Expr) → MakesEach t source special r P e → FreeExpr t e
      makes_each (OfObject (src.MakeOn c q w (Element n Binding (Variable k) (OfObject Counted)) args)) h = ((tt, tt), exprs args h.2)
      makes_each (OfObject (src.MakeOn c q w (Element n Binding (OfObject (OwnField s i)) (OfObject Counted)) args)) h = ((tt, tt), exprs args h.2)
      makes_each e h = absurd h

      evaluates : (e : Expr) → Evaluates t source special r P e → FreeExpr t e
      evaluates e (inl h) = expr e h
      evaluates e (inr (inl h)) = binds e h
      evaluates e (inr (inr (inl h))) = calls P e h
      evaluates e (inr (inr (inr h))) = makes e h

      fills : (e : Expr) → FillsBy t source special r P e → FreeExpr t e
      fills e (inl h) = binds e h
      fills e (inr (inl h)) = calls P e h
      fills e (inr (inr h)) = makes_each e h

      module _ (g : Sig) (sc : List Name) where
        spot : (e : Expr) → EndsAt t source special r P e → Fine t g sc e → EndsSpot t e
        spot (OfObject (EndOn q w (Load (Variable k)))) h f =
            let x = f.1.1 in
            (OfVariable k, record { routine = q; written = w; class = x.0; is = refl; this = x.2; whole = h.2.whole; mutex = x.4; params = f.1.2 })
        spot (OfObject (EndOn q w (Load (OfObject (OwnField s i))))) h f =
            let x = f.1.1 in
            (OfField s i, record { routine = q; written = w; class = x.0; is = refl; this = x.2; whole = h.2.whole; mutex = x.4; params = f.1.2 })
        spot e h f = absurd h

        element : (e : Expr) → EndsEach t source special r P e → Fine t g sc e → EndsElement t e
        element (OfObject (EndOn q w (Load (Element n Binding (Variable k) (OfObject Counted))))) h f =
            let x = f.1.1 in
            (n, OfVariable k, record { routine = q; written = w; class = x.0; is = refl; this = x.2; whole = h.2.whole; mutex = x.4; params = f.1.2 })
        element (OfObject (EndOn q w (Load (Element n Binding (OfObject (OwnField s i)) (OfObject Counted))))) h f =
            let x = f.1.1 in
            (n, OfField s i, record { routine = q; written = w; class = x.0; is = refl; this = x.2; whole = h.2.whole; mutex = x.4; params = f.1.2 })
        element e h f = absurd h

        sweeps : (e : Expr) → SweepsBy t source special r P e → Fine t g sc e → FreeSweep t e
        sweeps e (inl h) f = inl (number P e h)
        sweeps e (inr (inl h)) f = inl (calls P e h)
        sweeps e (inr (inr h)) f = inr (element e h f)

        destroys : (e : Expr) → EndsNumber t source special r P e ⊎ (CallsAt t source special r P e ⊎ EndsAt t source special r P e) → Fine t g sc e → FreeClean t (src.Destroys e)
        destroys e (inl h) f = inl (number P e h)
        destroys e (inr (inl h)) f = inl (calls P e h)
        destroys e (inr (inr h)) f = inr (spot e h f)

    cleans : (g : Sig) (sc : List Name) (c : CleanUp) → CleansBy t source special r c → FineClean t g sc c → FreeClean t c
    cleans g sc (src.Destroys e) h f = destroys (IsOver t (src.Destroys e)) g sc e h f
    cleans g sc (src.DestroysAll n e) h f = sweeps (IsOver t (src.DestroysAll n e)) g sc e h f
    cleans g sc c h f = tt

  -- statements

  mutual
    stmt : (n : Near) (r : Reach) (g : Sig) (sc : List Name) (a : Stmt) → CallingStmt t source special (site_of t n) r a → FineStmt t g sc a → FreeStmt t a
    stmt n r g sc (src.Skip line) h f = tt
    stmt n r g sc (src.Block line code) h f = stmts (apart r) g sc code h f
    stmt n r g sc (src.Whole line code) h f = stmts (apart r) g sc code h f.0
    stmt n r g sc (src.Evaluate line e) h f = evaluates r (site_of t n) e h
    stmt n r g sc (src.Declare line ds) h f = declared ds h
    stmt n r g sc (src.Print line is) h f = items is h
    stmt n r g sc (src.PrintTogether line is) h f = items is h
    stmt n r g sc (src.Read line xs) h f = targets xs h
    stmt n r g sc (src.If line e a b) h f = (expr e h.0, stmt Nothing_near (apart r) g sc a h.1 f.1, stmt Nothing_near (apart r) g sc b h.2 f.2)
    stmt n r g sc (src.Loop line o e step b) h f = (expr e h.0, maybe step h.1, stmt Nothing_near (apart r) g sc b h.2 f.2)
    stmt n r g sc (src.Break line) h f = tt
    stmt n r g sc (src.Continue line) h f = tt
    stmt n r g sc (src.Return line e) h f = maybe e h
    stmt n r g sc (src.Owes line) h f = tt
    stmt n r g sc (src.Fill line m b d) h f = (fills r (site_of t n) b h.0, sweeps r (site_of t n) g sc d h.1 f.1)
    stmt n r g sc (src.OfEvents a) h f = event r g sc a h f
    stmt n r g sc (src.OfTasks a) h f = task r g sc a h f

    stmts : (r : Reach) (g : Sig) (sc : List Name) (ss : Stmts) → CallingStmts t source special r ss → FineStmts t g sc ss → FreeStmts t ss
    stmts r g sc src.Nil h f = tt
    stmts r g sc (src.Then a rest) h f = (stmt (Near_by rest) r g sc a h.0 f.0, stmts r g sc rest h.1 f.1)
    stmts r g sc (src.Scoped c rest) h f = (cleans r g sc c h.0 f.3, stmts r g (f.0 ∷ sc) rest h.1 f.2)
    stmts r g sc (src.Built c rest) h f = (cleans r g sc c h.0 f.1.0, stmts r g sc rest h.1 f.0)

    event : (r : Reach) (g : Sig) (sc : List Name) (a : EventStmt) → CallingEvent t source special r a → FineEvent t g sc a → FreeEvent t a
    event r g sc (src.Throw line x) h f = raises r x h
    event r g sc (src.Raise line x) h f = raises r x h
    event r g sc (src.Try line code hs) h f = (stmts (apart r) g sc code h.0 f.0, handlers (apart r) g sc hs h.1 f.1)
    event r g sc (src.RaiseAt line x e) h f = (raises r x h.0, expr e h.1)
    event r g sc (src.Enable line events cell a) h f = stmt Nothing_near (apart r) g (Kept ∷ sc) a h f
    event r g sc (src.Disable line events cell a) h f = stmt Nothing_near (apart r) g (Kept ∷ sc) a h f

    handlers : (r : Reach) (g : Sig) (sc : List Name) (hs : Handlers) → CallingHandlers t source special r hs → FineHandlers t g sc hs → FreeHandlers t hs
    handlers r g sc src.NoHandlers h f = tt
    handlers r g sc (src.MoreHandlers resumes kind cell line code rest) h f = (stmts r g sc code h.0 f.0, handlers r g sc rest h.1 f.1)

    task : (r : Reach) (g : Sig) (sc : List Name) (a : TaskStmt) → CallingTask t source special r a → FineTask t g sc a → FreeTask t a
    task r g sc (src.Migrate line e) h f = expr e h
    task r g sc (src.Accept line site cs) h f = clauses (apart r) g sc cs h f.2
    task r g sc a h f = tt

    clauses : (r : Reach) (g : Sig) (sc : List Name) (cs : Clauses) → CallingClauses t source special r cs → FineClauses t g sc cs → FreeClauses t cs
    clauses r g sc src.NoClauses h f = tt
    clauses r g sc (src.Otherwise b) h f = stmt Nothing_near r g sc b h f
    clauses r g sc (src.MoreClauses guard b cs) h f = (expr guard h.0, stmt Nothing_near r g sc b h.1 f.0, clauses r g sc cs h.2 f.1)

  -- routines

  opening : (r : Reach) (g : Sig) (ss : Stmts) → Opening t source special r ss → FineStmts t g [] ss → FreeStmts t ss
  opening r g (src.Scoped src.Ends rest) h f = (tt, stmts r g (f.0 ∷ []) rest h.0 f.2)
  opening r g (src.Scoped (src.Frees q) rest) h f = (tt, stmts r g (f.0 ∷ []) rest h.1 f.2)
  opening r g ss h f = absurd h

  body : (b : Bool) (g : Sig) (ss : Stmts) → CallingBody t source special b g.this ss → FineStmts t g [] ss → FreeStmts t ss
  body true g ss (inl h) f = stmts (reach_of true g.this) g [] ss h.0 f
  body true g ss (inr h) f = opening (reach_of true g.this) g ss h f
  body false g ss h f = stmts (reach_of false g.this) g [] ss h f

  routine : (b : Bool) (g : Sig) (r : Option Routine) → CallingRoutine t source special b g.this r → ((x : Routine) → r ≡ Some x → Routine_is t g x) → FreeRoutine t r
  routine b g None h f = tt
  routine b g (Some r) h f = body b g r.body h (f r refl).body

  pub free_source : CallingSource t source special → Sound t source → FreeSource t source
  free_source calling sound n = routine (special n) (t.routine n) (slice_get source.routines n) (calling.routines n) (λ x e. sound.routines n x e)

pub free_of : (p : Program) → IsFormed p → breaks_of p ≡ [] → FreeSource (table_of p) (source_of p)
free_of p formed accepted = free_source (table_of p) (source_of p) (special_of p) (plain_whole p) (law_calling p formed accepted) (law_sound p formed accepted)
