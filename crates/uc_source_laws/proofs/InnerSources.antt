-- A source that is in order for a table calls its routines as their signatures say, and waits, signals and accepts inside the object at
-- hand.
use Rattle.std.proofs.Common.{◌≡◌, ℕ, zero, suc, ◌<◌, inl, inr, List, [], ◌∷◌, length, Option, Some, None, Bool, true, false, refl, sym, ap, ◌∙◌, subst, arith}
use Rattle.std.specs.Prelude.{slice_get, is_some, if◌then◌else◌}
use Rattle.uc_tree.specs.Source as src
use Rattle.uc_tree.specs.Source.{Expr, Exprs, ObjectExpr, Stmt, Stmts, EventStmt, TaskStmt, Handlers, Clauses, CleanUp, Raised, Item, Target, Declared, Routine, Source}
use Rattle.uc_resolve.specs.Resolve.{source_of}
use Rattle.uc_typing.specs.Typing as typed
use Rattle.uc_typing.specs.Typing.{Ty, Name, Kept, Inward, Apart, Enters, Makes, Helps, Main, Sig, Table, IsRoutine, IsInside, IsOpen, MayCall, Yields, GiveAll, ObjectGives, FineItems, FineTargets, FineDeclared, FineClean, FineRaised, FineGuards, FineStmt, FineStmts, FineEvent, FineTask, FineHandlers, FineClauses, FineStep}
use Rattle.uc_typing.specs.States.{LetsGo, Sound}
use Rattle.uc_sound.proofs.SoundLemmas.{law_sound}
use Rattle.uc_sound.proofs.MainLemmas.{main_apart}
use Rattle.uc_depth_laws.specs.Entering.{lets_go, EnteredClean, EnteredStmt, EnteredStmts, EnteredEvent, EnteredHandlers, EnteredTask, EnteredClauses, EnteredBody, EnteredRoutine, EnteredSource}
use Rattle.uc_sound.proofs.Freeing.{FreesObject, routine_frees}
use Rattle.uc_sound.proofs.Routines.{law_entered}
use Rattle.uc_inner_laws.specs.Inner as inner
use Rattle.uc_inner_laws.specs.Inner.{Part, Plain, Helper, Uncalled, Ground, ground_of, under, count, params_at, params, Exists, CalledOn, InnerExpr, InnerExprs, InnerMaybe, InnerItems, InnerTargets, InnerDeclared, InnerClean, InnerRaised, InnerStmt, InnerStmts, InnerEvent, InnerHandlers, InnerClauses, InnerRoutine, InnerSource}
use Rattle.uc_source_laws.specs.SourceLaws.{part_by, LawInner}

-- what stands at a place of a list
there : {A : Type 0} (xs : List A) (n : ℕ) → n < length xs → (x : A) × (slice_get xs n ≡ Some x)
there [] n lt = let b : ⊥ = omega (arith, lt) in absurd b
there (x ∷ xs) zero lt = (x, refl)
there (x ∷ xs) (suc n) lt = there xs n (omega (arith, lt))

-- a scope that frees its object
abbrev IsFreeing : CleanUp → Type 0
IsFreeing (src.Frees r) = Unit {0}
IsFreeing c = ⊥

no_freeing : (c : CleanUp) → lets_go c ≡ false → IsFreeing c → ⊥
no_freeing (src.Frees r) h f = let q : true ≡ false = h in absurd (cc)
no_freeing c h f = f

open_plain : (w : Inward) → IsOpen w → part_by w ≡ Plain
open_plain Apart h = refl
open_plain Enters h = refl
open_plain Makes h = absurd h
open_plain Helps h = absurd h
open_plain Main h = absurd h

module _ (source : Source) (t : Table) (sound : Sound t source) (entered : EnteredSource source) (frees : (n : ℕ) (r : Routine) → slice_get source.routines n ≡ Some r → FreesObject r.body → (t.routine n).inward ≡ Makes) where
  abbrev part : ℕ → Part
  part r = part_by (t.routine r).inward

  -- a routine has the parameters of its signature
  has_params : (r : ℕ) → IsRoutine t r → length (t.routine r).params ≡ params part source r
  has_params r k =
      let x = there source.routines r (subst (λ n. r < n) (sym sound.count) k) in
      sym (ap params_at x.1 ∙ (sound.routines r x.0 x.1).params)

  exists : (r : ℕ) → IsRoutine t r → Exists part source r
  exists r k = let x = there source.routines r (subst (λ n. r < n) (sym sound.count) k) in ap is_some x.1

  module _ (g : Sig) where
    counts : (sc : List Name) (args : Exprs) (tys : List Ty) → GiveAll t g sc args tys → count args ≡ length tys
    counts sc src.NoExprs [] h = refl
    counts sc src.NoExprs (a ∷ tys) h = absurd h
    counts sc (src.MoreExprs e es) [] h = absurd h
    counts sc (src.MoreExprs e es) (a ∷ tys) h = ap suc (counts sc es tys h.1)

    takes : (sc : List Name) (args : Exprs) (r : ℕ) → GiveAll t g sc args (t.routine r).params → IsRoutine t r → count args ≡ params part source r
    takes sc args r h k = counts sc args (t.routine r).params h ∙ has_params r k

    takes_none : (r : ℕ) → [] ≡ (t.routine r).params → IsRoutine t r → 0 ≡ params part source r
    takes_none r h k = ap length h ∙ has_params r k

    -- the ground is that of the routine, or further inside
    record On (at : Ground) : Type 0 where
      inside : IsInside g.inward → at.inside ≡ true
      made : g.inward ≡ Makes → at.made ≡ true

    deeper : (c : CleanUp) (at : Ground) → On at → On (under c at)
    deeper c at o = by (lets_go c)
      where
        by : (b : Bool) → On (if b then record { inside = true; made = at.made } else at)
        by true = record { inside = λ i. refl; made = o.made }
        by false = o

    module _ (at : Ground) (on : On at) where
      called_on : (w : Inward) (e : Expr) → MayCall w g e → CalledOn part source at (part_by w) e
      called_on Apart e h = tt
      called_on Enters e h = tt
      called_on Makes e h = absurd h
      called_on Helps e h = (on.inside h.1, h.0)
      called_on Main e h = absurd h

      sets_up : (w : Inward) → typed.SetsUp w g.inward → inner.SetsUp part source at (part_by w)
      sets_up Apart h = tt
      sets_up Enters h = absurd h
      sets_up Makes h = absurd h
      sets_up Helps h = absurd h
      sets_up Main h = on.made h

      module _ (sc : List Name) where
        mutual
          expr : (e : Expr) (a : Ty) → Yields t g sc e a → InnerExpr part source at e
          expr (src.Literal n) a h = tt
          expr (src.Variable k) a h = tt
          expr (src.Element n s e i) a h = (expr e (typed.Row n a) h.1, expr i typed.Num h.2)
          expr (src.Get k) a h = tt
          expr (src.Load e) a h = expr e (typed.Cell a) h.1
          expr (src.Negated e) a h = expr e typed.Num h.1
          expr (src.Not e) a h = expr e typed.Num h.1
          expr (src.AsCharacter e) a h = expr e typed.Num h.1
          expr (src.AsTruth e) a h = expr e typed.Num h.1
          expr (src.Operate op e f) a h = (expr e typed.Num h.1, expr f typed.Num h.2)
          expr (src.And e f) a h = (expr e typed.Num h.1, expr f typed.Num h.2)
          expr (src.Or e f) a h = (expr e typed.Num h.1, expr f typed.Num h.2)
          expr (src.Set k e) a h = expr e typed.Num h.1
          expr (src.Assign p e) a h = (expr p (typed.Cell typed.Num) h.1, expr e typed.Num h.2)
          expr (src.First e f) a h = (expr e a h.0, expr f h.1.0 h.1.1)
          expr (src.Update op s p e) a h = (expr p (typed.Cell typed.Num) h.1, expr e typed.Num h.2)
          expr (src.StepBehind op s p) a h = expr p (typed.Cell typed.Num) h.1
          expr src.Fail a h = tt
          expr (src.Call r args) a h = ((open_plain (t.routine r).inward h.4, takes sc args r h.1 h.3, exists r h.3), exprs args (t.routine r).params h.1)
          expr (src.OfObject o) a h = object o a h

          exprs : (es : Exprs) (tys : List Ty) → GiveAll t g sc es tys → InnerExprs part source at es
          exprs src.NoExprs tys h = tt
          exprs (src.MoreExprs e es) [] h = absurd h
          exprs (src.MoreExprs e es) (a ∷ tys) h = (expr e a h.0, exprs es tys h.1)

          object : (o : ObjectExpr) (a : Ty) → ObjectGives t g sc o a → InnerExpr part source at (src.OfObject o)
          object src.This a h = (tt, tt)
          object (src.OwnField s i) a h = (tt, tt)
          object (src.GetOwn s i) a h = (tt, tt)
          object (src.FieldOf s i e) a h = (tt, expr e (typed.Obj h.0) h.1)
          object src.Counted a h = (tt, tt)
          object (src.CallOn r e args) a h = ((called_on (t.routine r).inward e h.3, takes sc args r h.2 h.1.3, exists r h.1.3), (expr e _ h.1.1, exprs args (t.routine r).params h.2))
          object (src.CallUnwritten r e) a h = ((open_plain (t.routine r).inward h.3, takes_none r h.2 h.1.3, exists r h.1.3), expr e _ h.1.1)
          object (src.CallLive r e args) a h = ((open_plain (t.routine r).inward h.3, takes sc args r h.2 h.1.3, exists r h.1.3), (expr e _ h.1.1, exprs args (t.routine r).params h.2))
          object (src.EnterOn m r e args) a h = ((open_plain (t.routine r).inward h.3, takes sc args r h.2 h.1.3, exists r h.1.3), (expr e _ h.1.1, exprs args (t.routine r).params h.2))
          object (src.EndOn r written e) a h = ((open_plain (t.routine r).inward h.3, takes_none r h.2 h.1.3, exists r h.1.3), expr e _ h.1.1)
          object (src.Bind p e) a h = (tt, (expr p (typed.Cell a) h.0, expr e a h.1))
          object (src.MakeOn n r written p args) a h = ((ap part_by h.3, takes sc args r h.2 h.1.3, exists r h.1.3), (expr p _ h.1.1, exprs args (t.routine r).params h.2))
          object src.NewCluster a h = (tt, tt)
          object (src.NewProcessor e) a h = (tt, expr e typed.Clu h.1)
          object (src.EndCluster e) a h = (tt, expr e typed.Clu h.1)
          object (src.EndProcessor e) a h = (tt, expr e typed.Pro h.1)
          object (src.ConditionAt k n e) a h = (tt, expr e typed.Num h.1)
          object (src.Wait e f) a h = (on.inside h.1.3, (expr e typed.Num h.2, expr f typed.Num h.3))
          object (src.Signal e) a h = (on.inside h.1.3, expr e typed.Num h.2)
          object (src.SignalBlock e) a h = (on.inside h.1.3, expr e typed.Num h.2)
          object (src.IsEmpty e) a h = (on.inside h.1.3, expr e typed.Num h.2)
          object (src.FrontOf e) a h = (on.inside h.1.3, expr e typed.Num h.2)

        items : (is : List Item) → FineItems t g sc is → InnerItems part source at is
        items [] h = tt
        items (src.Show form e ∷ is) h = (expr e typed.Num h.0, items is h.1)
        items (src.ShowText k ∷ is) h = (tt, items is h.1)

        targets : (xs : List Target) → FineTargets t g sc xs → InnerTargets part source at xs
        targets [] h = tt
        targets (x ∷ xs) h = (expr x.place (typed.Cell typed.Num) h.0, targets xs h.1)

        start : (k : ℕ) (v : Option Expr) → typed.FineStart t g sc k v → InnerMaybe part source at v
        start k None h = tt
        start k (Some e) h = expr e typed.Num h.1

        declared : (ds : List Declared) → FineDeclared t g sc ds → InnerDeclared part source at ds
        declared [] h = tt
        declared (d ∷ ds) h = (start d.cell d.value h.1, declared ds h.2)

        step : (e : Option Expr) → FineStep t g sc e → InnerMaybe part source at e
        step None h = tt
        step (Some e) h = expr e h.0 h.1

        clean : (c : CleanUp) → (IsFreeing c → at.made ≡ true) → EnteredClean source c → FineClean t g sc c → InnerClean part source at c
        clean (src.Destroys e) f m h = expr e h.0 h.1
        clean (src.DestroysAll n e) f m h = expr e h.0 h.1
        clean (src.Frees None) f m h = (f tt, tt)
        clean (src.Frees (Some r)) f m h = (f tt, m.1)
        clean c f m h = tt

        raised : (r : Raised) → FineRaised t g sc r → InnerRaised part source at r
        raised (src.Plainly n) h = tt
        raised (src.BuiltAt n k e) h = expr e h.1.0 h.1.1
        raised (src.AgainFrom k) h = tt

    mutual
      stmt : (at : Ground) → On at → (sc : List Name) (a : Stmt) → EnteredStmt source a → FineStmt t g sc a → InnerStmt part source at a
      stmt at on sc (src.Skip line) m h = tt
      stmt at on sc (src.Block line body) m h = stmts at on sc body m h
      stmt at on sc (src.Whole line body) m h = stmts at on sc body m h.0
      stmt at on sc (src.Evaluate line e) m h = expr at on sc e h.0 h.1
      stmt at on sc (src.Declare line ds) m h = declared at on sc ds h
      stmt at on sc (src.Print line is) m h = items at on sc is h
      stmt at on sc (src.PrintTogether line is) m h = items at on sc is h
      stmt at on sc (src.Read line xs) m h = targets at on sc xs h
      stmt at on sc (src.If line e a b) m h = (expr at on sc e typed.Num h.0, stmt at on sc a m.1 h.1, stmt at on sc b m.2 h.2)
      stmt at on sc (src.Loop line o e f b) m h = (expr at on sc e typed.Num h.0, step at on sc f h.1, stmt at on sc b m.2 h.2)
      stmt at on sc (src.Break line) m h = tt
      stmt at on sc (src.Continue line) m h = tt
      stmt at on sc (src.Return line None) m h = tt
      stmt at on sc (src.Return line (Some e)) m h = expr at on sc e typed.Num h.0
      stmt at on sc (src.Owes line) m h = tt
      stmt at on sc (src.Fill line n b d) m h = (expr at on sc b h.0.0 h.0.1, expr at on sc d h.1.0 h.1.1)
      stmt at on sc (src.OfEvents a) m h = event at on sc a m h
      stmt at on sc (src.OfTasks a) m h = task at on sc a m h

      stmts : (at : Ground) → On at → (sc : List Name) (ss : Stmts) → EnteredStmts source ss → FineStmts t g sc ss → InnerStmts part source at ss
      stmts at on sc src.Nil m h = tt
      stmts at on sc (src.Then a ss) m h = (stmt at on sc a m.0 h.0, stmts at on sc ss m.1 h.1)
      stmts at on sc (src.Scoped c ss) m h = (clean at on sc c (λ f. absurd (no_freeing c m.0 f)) m.1 h.3, stmts (under c at) (deeper c at on) (h.0 ∷ sc) ss m.2 h.2)
      stmts at on sc (src.Built c ss) m h = (clean at on sc c (λ f. absurd (no_freeing c m.0 f)) m.1 h.1.0, stmts at on sc ss m.2 h.0)

      event : (at : Ground) → On at → (sc : List Name) (a : EventStmt) → EnteredEvent source a → FineEvent t g sc a → InnerEvent part source at a
      event at on sc (src.Throw line r) m h = raised at on sc r h
      event at on sc (src.Raise line r) m h = raised at on sc r h
      event at on sc (src.Try line body hs) m h = (stmts at on sc body m.0 h.0, handlers at on sc hs m.1 h.1)
      event at on sc (src.RaiseAt line r e) m h = (raised at on sc r h.0, expr at on sc e (typed.Obj h.1.0) h.1.1)
      event at on sc (src.Enable line events cell a) m h = stmt at on (Kept ∷ sc) a m h
      event at on sc (src.Disable line events cell a) m h = stmt at on (Kept ∷ sc) a m h

      handlers : (at : Ground) → On at → (sc : List Name) (hs : Handlers) → EnteredHandlers source hs → FineHandlers t g sc hs → InnerHandlers part source at hs
      handlers at on sc src.NoHandlers m h = tt
      handlers at on sc (src.MoreHandlers resumes e cell line body hs) m h = (stmts at on sc body m.0 h.0, handlers at on sc hs m.1 h.1)

      task : (at : Ground) → On at → (sc : List Name) (a : TaskStmt) → EnteredTask source a → FineTask t g sc a → InnerStmt part source at (src.OfTasks a)
      task at on sc (src.Resume line) m h = (tt, tt)
      task at on sc (src.Suspend line) m h = (tt, tt)
      task at on sc (src.SetUp r) m h = ((sets_up at on (t.routine r).inward h.2, m.1), tt)
      task at on sc src.Enliven m h = (tt, tt)
      task at on sc src.TakeDown m h = (tt, tt)
      task at on sc (src.Yield line) m h = (tt, tt)
      task at on sc (src.Migrate line e) m h = (tt, expr at on sc e typed.Clu h)
      task at on sc (src.Accept line site cs) m h = (on.inside h.0.3, clauses at on sc cs m h.1 h.2)

      clauses : (at : Ground) → On at → (sc : List Name) (cs : Clauses) → EnteredClauses source cs → FineGuards t g sc cs → FineClauses t g sc cs → InnerClauses part source at cs
      clauses at on sc src.NoClauses m k h = tt
      clauses at on sc (src.Otherwise b) m k h = stmt at on sc b m h
      clauses at on sc (src.MoreClauses guard b cs) m k h = (expr at on sc guard typed.Num k.0, stmt at on sc b m.1 h.0, clauses at on sc cs m.2 k.1 h.1)

    -- the statements of a routine
    whole : (at : Ground) → On at → (ss : Stmts) → (FreesObject ss → g.inward ≡ Makes) → EnteredBody source ss → FineStmts t g [] ss → InnerStmts part source at ss
    whole at on (src.Scoped (src.Frees r) ss) f m h = (clean at on [] (src.Frees r) (λ i. on.made (f tt)) m.0 h.3, stmts (under (src.Frees r) at) (deeper (src.Frees r) at on) (h.0 ∷ []) ss m.1 h.2)
    whole at on (src.Scoped c ss) f m h = (clean at on [] c (λ i. absurd i) m.0 h.3, stmts (under c at) (deeper c at on) (h.0 ∷ []) ss m.1 h.2)
    whole at on ss f m h = stmts at on [] ss m h

    -- a body that lets go of its object
    within : (made : Bool) (ss : Stmts) → LetsGo ss → On (record { inside = true; made = made }) → (FreesObject ss → g.inward ≡ Makes) → EnteredBody source ss → FineStmts t g [] ss → InnerStmts part source (record { inside = false; made = made }) ss
    within made (src.Scoped src.Leaves ss) l on f m h = (tt, stmts (record { inside = true; made = made }) on (h.0 ∷ []) ss m.1 h.2)
    within made (src.Scoped src.Ends ss) l on f m h = (tt, stmts (record { inside = true; made = made }) on (h.0 ∷ []) ss m.1 h.2)
    within made (src.Scoped (src.Frees None) ss) l on f m h = ((on.made (f tt), tt), stmts (record { inside = true; made = made }) on (h.0 ∷ []) ss m.1 h.2)
    within made (src.Scoped (src.Frees (Some r)) ss) l on f m h = ((on.made (f tt), m.0.1), stmts (record { inside = true; made = made }) on (h.0 ∷ []) ss m.1 h.2)
    within made _ l on f m h = absurd l

    body : (ss : Stmts) (w : Inward) → g.inward ≡ w → (w ≡ Enters → LetsGo ss) → (w ≡ Makes → LetsGo ss) → (FreesObject ss → g.inward ≡ Makes) → EnteredBody source ss → FineStmts t g [] ss → InnerStmts part source (ground_of (part_by w)) ss
    body ss Apart q l m f k h =
        whole (ground_of Plain) (record { inside = λ i. absurd (subst IsInside q i); made = λ e. absurd (apart (sym q ∙ e)) }) ss f k h
      where
        apart : Apart ≡ Makes → ⊥
        apart e = absurd (cc)
    body ss Enters q l m f k h =
        within false ss (l refl) (record { inside = λ i. refl; made = λ e. absurd (enters (sym q ∙ e)) }) f k h
      where
        enters : Enters ≡ Makes → ⊥
        enters e = absurd (cc)
    body ss Makes q l m f k h = within true ss (m refl) (record { inside = λ i. refl; made = λ e. refl }) f k h
    body ss Helps q l m f k h =
        whole (ground_of Helper) (record { inside = λ i. refl; made = λ e. absurd (helps (sym q ∙ e)) }) ss f k h
      where
        helps : Helps ≡ Makes → ⊥
        helps e = absurd (cc)
    body ss Main q l m f k h =
        whole (ground_of Uncalled) (record { inside = λ i. refl; made = λ e. absurd (main (sym q ∙ e)) }) ss f k h
      where
        main : Main ≡ Makes → ⊥
        main e = absurd (cc)

  inner_source : InnerSource part source
  inner_source n = by (slice_get source.routines n) refl
    where
      by : (x : Option Routine) → slice_get source.routines n ≡ x → InnerRoutine part source (part n) x
      by None e = tt
      by (Some r) e =
          let k = sound.routines n r e in
          body (t.routine n) r.body (t.routine n).inward refl (λ q. k.enters (inl q)) (λ q. k.enters (inr q)) (frees n r e) (subst (EnteredRoutine source) e (entered.routines n)) k.body

pub law_inner : LawInner
law_inner p formed unbroken = record {
  source = inner_source (source_of p) _ (law_sound p formed unbroken) (law_entered p formed unbroken) (routine_frees p);
  main = ap part_by (main_apart p formed unbroken);
}
