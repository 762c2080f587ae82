-- Calls and returns, exits, statements.
use Rattle.std.proofs.Common.{◌≡◌, ℕ, ◌<◌, List, [], ◌∷◌, length, drop, replicate, ◌-◌, Option, Some, None, Bool, true, false, refl, sym, ap, ◌∙◌, subst}
use Rattle.std.specs.Prelude.{nat_eq, nat_lt, if◌then◌else◌, slice_get}
use Rattle.std.proofs.lemmas.Bool.{eq-eqb}
use Rattle.uc_tree.specs.Source.{Shape, Way, ToBreak, ToContinue, ToReturn, ToEnd, Stmt, Stmts, Skip, Block, Whole, Evaluate, Declare, Print, PrintTogether, Read, If, Loop, Break, Continue, Return, Owes, Fill, OfEvents, OfTasks, EventStmt, Throw, Raise, Try, RaiseAt, Enable, Disable, TaskStmt, Resume, Suspend, SetUp, Enliven, TakeDown, Yield, Migrate, Accept, Nil, Then, Scoped, Built, Source, Routine, Purpose, TaskMain, CoroutineMain, Procedure, Function, Builder}
use Rattle.uc_entry.specs.declared.request.Piece.{Piece}
use Rattle.uc_machine.specs.Executions.{at_depth, others, take_operands, left_for}
use Rattle.uc_machine.specs.declared.exec.Visited.{Visited}
use Rattle.uc_tree.specs.declared.limits.TheConstants.{CALLS}
use Rattle.uc_machine.specs.Raising as r
use Rattle.uc_machine.specs.Quiet as q
use Rattle.uc_machine.specs.Quiet.{Value, Number, Place, Running, Object, Nothing, Link, Slot, FieldAt, At, Env, Active, State, Step, Goes, Ticks, Asks, Todo, at, in_env, top, below, number, is_zero, loaded, written, further, address, variable_at, this_frame, nought, index_in, outcome, Outcome, Gives, Faults, LAST_ADDRESS, act, eval_step, object_step, quiet, with_elements, converting}
use Rattle.uc_machine.specs.Pieces as pc
use Rattle.uc_typing.specs.Typing.{Ty, Num, Obj, Row, Clu, Name, Kept, Sig, Table, object_ty, IsPlaced, FineTask, FineStmt, FineStmts, FineEvent}
use Rattle.uc_typing.specs.Pieces.{IsNone, onto, Exits, Ok, Left}
use Rattle.uc_typing.specs.States.{whole, IsAt, IsObject, Is, Values, Bound, Framed, IsThis, IsBase, Waits, Typed, After, Idle, IsSorted, Sound}
use Rattle.uc_typing.proofs.Frames.{drop_onto, values_drop, bound_call, framed_length}
use Rattle.uc_typing.proofs.Operands.{either, newest, rest_of, further_element}
use Rattle.uc_typing.proofs.Control.{left, exit_left, loop_ok, raised_ok, guard_nums}
use Rattle.uc_typing.proofs.Evals.{put_in, goes}

module _ (t : Table) where
  pub framed_others : (gs : List Sig) (fs : List (List Value)) → Framed t gs fs → Framed t (others gs) (others fs)
  framed_others [] [] h = tt
  framed_others [] (f ∷ fs) h = absurd h
  framed_others (g ∷ gs) [] h = absurd h
  framed_others (g ∷ gs) (f ∷ fs) h = h.1

module _ (t : Table) (source : Source) where
  -- the end of an activation, which hands over a number
  pub returned_ok : (given : Value) (s : State) (sigs : List Sig) (cs : List Active) → Idle t s.env → Framed t sigs s.env.frames → Waits t (others sigs) cs → After t source (pc.return_step given cs s)
  returned_ok given s sigs [] i f w = i
  returned_ok given s sigs (c ∷ cs) i f w = record {
    sigs = others sigs;
    frames = framed_others t sigs s.env.frames f;
    run = record {
      sig = w.0.sig;
      own = Num ∷ w.0.own;
      scope = w.0.scope;
      base = w.0.base;
      frame = w.0.frame;
      values = (tt, w.0.values);
      this = w.0.this;
      ok = w.0.ok;
      ends = w.0.ends;
    };
    callers = w.1;
    idle = i;
  }

  -- the one that waits is unwound
  pub left_ok : (a : Active) (s : State) (sigs : List Sig) (c : Active) (cs : List Active) → a.operands ≡ [] → a.this ≡ c.this → a.frame ≡ c.frame → a.handles ≡ c.handles → a.control ≡ pc.Unwind ∷ c.control → (counts : Bool) → Idle t s.env → Framed t sigs s.env.frames → Waits t (others sigs) (c ∷ cs) → Typed t [] (left_for counts a cs s.env)
  left_ok a s sigs c cs o h d v e counts i f w = record {
    sigs = others sigs;
    frames = framed_others t sigs s.env.frames f;
    run = record {
      sig = w.0.sig;
      scope = w.0.scope;
      base = w.0.base;
      own = [];
      frame = ap (at_depth (others sigs)) d ∙ w.0.frame;
      values = subst (Values t []) (sym o) tt;
      this = subst (IsThis t w.0.sig.this) (sym h) w.0.this;
      ok = subst (λ l. Ok t w.0.sig w.0.base w.0.scope l []) (sym e) (left t w.0.sig w.0.base w.0.scope c.control (Num ∷ w.0.own) w.0.ok);
      ends = subst (λ (o : Option Visited). IsBase t w.0.sig o w.0.base a.frame cs) (sym v) (subst (λ (n : ℕ). IsBase t w.0.sig c.handles w.0.base n cs) (sym d) w.0.ends);
    };
    callers = w.1;
    idle = i;
  }

  past_ok : (v : Visited) (given : Value) (s : State) (sigs : List Sig) (cs : List Active) → Idle t s.env → Framed t sigs s.env.frames → Waits t (others sigs) cs → After t source (r.return_past v given cs s)
  past_ok v given s sigs [] i f w = i
  past_ok v given s sigs (c ∷ cs) i f w = left_ok _ s sigs c cs refl refl refl refl refl s.run.counts i f w

  end_ok : (h : Option Visited) (given : Value) (s : State) (sigs : List Sig) → Idle t s.env → Framed t sigs s.env.frames → Waits t (others sigs) s.callers → After t source (r.end_by h given s)
  end_ok None given s sigs i f w = returned_ok given s sigs s.callers i f w
  end_ok (Some v) given s sigs i f w = past_ok v given s sigs s.callers i f w

  routine_ok : (g : Sig) (p : Purpose) (line : ℕ) (body : Stmts) → IsSorted p g.whole → FineStmts t g [] body → Ok t g [] [] (pc.Rest body ∷ q.behind_body p line) []
  routine_ok g TaskMain line body e f = (tt, f, (tt, refl))
  routine_ok g CoroutineMain line body e f = (tt, f, (tt, refl))
  routine_ok g Procedure line body e f = (tt, f, (tt, refl))
  routine_ok g Function line body e f = (tt, f, (tt, refl))
  routine_ok g Builder line body e f = (tt, f, refl)

  module _ (sound : Sound t source) (s : State) (sigs : List Sig) (g : Sig) (base sc : List Name) (frames : Framed t sigs s.env.frames) (frame : at_depth sigs s.run.frame ≡ Some g) (this : IsThis t g.this s.run.this) (callers : Waits t (others sigs) s.callers) (idle : Idle t s.env) (ends : IsBase t g s.run.handles base s.run.frame s.callers) where
    pub go : (inner : List Name) (own : List Ty) (todo : List Todo) (vs : List Value) → Ok t g base inner todo own → Values t own vs → Typed t [] (at todo vs s)
    go = goes t source sound s sigs g base sc frames frame this callers idle ends

    pub put : (inner : List Name) (given own : List Ty) (todo : List Todo) (vs : List Value) (e : Env) (n : ℕ) → Idle t e → Framed t sigs e.frames → Ok t g base inner todo (onto given own) → Values t own vs → Typed t given (at todo vs (in_env e (with_elements n s)))
    put = put_in t source sound s sigs g base sc frames frame this callers idle ends

    as_this : (b : Bool) (c : ℕ) (v : Value) → Is t (object_ty b c) v → IsObject t c v
    as_this true c v h = h
    as_this false c v h = h

    -- the operands behind the arguments
    pub behind : (ps more : List Ty) (n : ℕ) → n ≡ length ps → Values t (onto ps more) s.run.operands → Values t more (drop n s.run.operands)
    behind ps more n e v =
        subst (λ n. Values t more (drop n s.run.operands)) (sym e) (subst (λ l. Values t l (drop (length ps) s.run.operands)) (drop_onto ps more) (values_drop t (length ps) (onto ps more) s.run.operands v))

    -- a call
    begun_ok : (n : ℕ) (r : Routine) (here : Value) (counts : Bool) (own more : List Ty) (todo : List Todo) (vs : List Value) → slice_get source.routines n ≡ Some r → Values t (onto (t.routine n).params more) s.run.operands → IsThis t (t.routine n).this here → Ok t g base sc todo (Num ∷ own) → Values t own vs → After t source (q.begun_step r here counts todo vs s)
    begun_ok n r here counts own more todo vs e h i o k =
        let x = sound.routines n r e in
        let l : nat_eq (length s.env.frames) (length sigs) ≡ true = eq-eqb (length s.env.frames) (length sigs) (framed_length t sigs s.env.frames frames) in
        record {
          sigs = t.routine n ∷ sigs;
          frames = (subst (λ c. Bound t (t.routine n).params (take_operands Nothing c s.run.operands (replicate (r.cells - r.params) nought))) (sym x.params) (bound_call t (t.routine n).params more s.run.operands _ h), frames);
          run = record {
            sig = t.routine n;
            own = [];
            scope = [];
            base = [];
            frame = ap (λ (b : Bool). if b then Some (t.routine n) else at_depth sigs (length s.env.frames)) l;
            values = tt;
            this = i;
            ok = routine_ok (t.routine n) r.purpose r.line r.body x.purpose x.body;
            ends = refl;
          };
          callers = (record { sig = g; own = own; scope = sc; base = base; frame = frame; values = k; this = this; ok = o; ends = ends }, callers);
          idle = idle;
        }

    pub call_ok : (n : ℕ) (c : Option Routine) (own more : List Ty) (todo : List Todo) → slice_get source.routines n ≡ c → own ≡ onto (t.routine n).params more → (t.routine n).this ≡ None → Ok t g base sc todo (Num ∷ more) → Values t own s.run.operands → After t source (q.call_step c todo s)
    call_ok n None own more todo e u i o h = idle
    call_ok n (Some r) own more todo e u i o h =
        let x = sound.routines n r e in
        let v : Values t (onto (t.routine n).params more) s.run.operands = subst (λ l. Values t l s.run.operands) u h in
        either (After t source) (nat_lt s.env.links.calls CALLS) _ _
        (begun_ok n r Nothing true more more todo (drop r.params s.run.operands) e v (subst (λ o. IsThis t o Nothing) (sym i) tt) o (behind (t.routine n).params more r.params x.params v))
        tt

    pub on_begun : (n : ℕ) (r : Routine) (counts : Bool) (own more : List Ty) (c : ℕ) (todo : List Todo) → slice_get source.routines n ≡ Some r → own ≡ onto (t.routine n).params (object_ty (t.routine n).whole c ∷ more) → (t.routine n).this ≡ Some c → Ok t g base sc todo (Num ∷ more) → Values t own s.run.operands → After t source (q.begun_step r (top (drop r.params s.run.operands)) counts todo (below (drop r.params s.run.operands)) s)
    on_begun n r counts own more c todo e u i o h =
        let x = sound.routines n r e in
        let v : Values t (onto (t.routine n).params (object_ty (t.routine n).whole c ∷ more)) s.run.operands = subst (λ l. Values t l s.run.operands) u h in
        let d : Values t (object_ty (t.routine n).whole c ∷ more) (drop r.params s.run.operands) = behind (t.routine n).params (object_ty (t.routine n).whole c ∷ more) r.params x.params v in
        begun_ok n r (top (drop r.params s.run.operands)) counts more (object_ty (t.routine n).whole c ∷ more) todo (below (drop r.params s.run.operands)) e v (subst (λ o. IsThis t o (top (drop r.params s.run.operands))) (sym i) (as_this (t.routine n).whole c (top (drop r.params s.run.operands)) (newest t (object_ty (t.routine n).whole c) more (drop r.params s.run.operands) d))) o (rest_of t (object_ty (t.routine n).whole c) more (drop r.params s.run.operands) d)

    pub call_on_ok : (n : ℕ) (c : Option Routine) (own more : List Ty) (k : ℕ) (todo : List Todo) → slice_get source.routines n ≡ c → own ≡ onto (t.routine n).params (object_ty (t.routine n).whole k ∷ more) → (t.routine n).this ≡ Some k → Ok t g base sc todo (Num ∷ more) → Values t own s.run.operands → After t source (q.call_on_step c todo s)
    call_on_ok n None own more k todo e u i o h = idle
    call_on_ok n (Some r) own more k todo e u i o h =
        either (After t source) (nat_lt s.env.links.calls CALLS) _ _ (on_begun n r true own more k todo e u i o h) tt

    pub call_unwritten_ok : (n : ℕ) (c : Option Routine) (own more : List Ty) (k : ℕ) (todo : List Todo) → slice_get source.routines n ≡ c → own ≡ onto (t.routine n).params (object_ty (t.routine n).whole k ∷ more) → (t.routine n).this ≡ Some k → Ok t g base sc todo (Num ∷ more) → Values t own s.run.operands → After t source (q.call_unwritten_step c todo s)
    call_unwritten_ok n None own more k todo e u i o h = idle
    call_unwritten_ok n (Some r) own more k todo e u i o h = on_begun n r false own more k todo e u i o h

    -- an exit
    ended_ok : (w : Way) → After t source (q.end_step w s)
    ended_ok ToReturn = end_ok s.run.handles (top s.run.operands) s sigs idle frames callers
    ended_ok ToEnd = end_ok s.run.handles nought s sigs idle frames callers
    ended_ok ToBreak = returned_ok nought s sigs s.callers idle frames callers
    ended_ok ToContinue = returned_ok nought s sigs s.callers idle frames callers

    pub exits : (w : Way) (todo : List Todo) (own : List Ty) → Exits t g w own → Left t g base sc todo → Values t own s.run.operands → After t source (q.exit_step w todo s)
    exits w [] own x l h = ended_ok w
    exits w (p ∷ ps) own x l h = go sc own _ _ (exit_left t g base sc w (pc.sort p) ps own x l) h

    -- coroutines and tasks
    task : (a : TaskStmt) (todo : List Todo) → FineTask t g sc a → Ok t g base sc todo [] → Values t [] s.run.operands → After t source (q.task_step a todo s)
    task (Resume line) todo f o h = go sc [] _ _ (f, (tt, o)) h
    task (Suspend line) todo f o h = go sc [] _ _ (tt, o) h
    task (SetUp r) todo f o h = go sc [] _ _ (f.0, f.1, o) h
    task Enliven todo f o h = go sc [] _ _ (f, o) h
    task TakeDown todo f o h = go sc [] _ _ (f, o) h
    task (Yield line) todo f o h = go sc [] _ _ (tt, o) h
    task (Migrate line e) todo f o h = go sc [] _ _ (Clu, f, (tt, o)) h
    task (Accept line site cs) todo f o h =
        go sc [] _ _ (f.1, ([], ap (λ l. onto l []) (guard_nums cs), f.0, (tt, f.2, (tt, o)))) h

    -- events
    event : (a : EventStmt) (todo : List Todo) → FineEvent t g sc a → Ok t g base sc todo [] → Values t [] s.run.operands → After t source (q.event_step a todo s)
    event (Throw line x) todo f o h = go sc [] _ _ (raised_ok t g base sc x (pc.ThrowNow ∷ (pc.Within line ∷ todo)) f (tt, o)) h
    event (Raise line x) todo f o h = go sc [] _ _ (raised_ok t g base sc x (pc.RaiseNow ∷ (pc.Within line ∷ todo)) f (tt, o)) h
    event (Try line body hs) todo f o h = go sc [] _ _ (tt, f.0, (tt, f.1, (tt, o))) h
    event (RaiseAt line x a) todo f o h =
        go sc [] _ _ (raised_ok t g base sc x (pc.Eval a ∷ (pc.RaiseAtNow ∷ (pc.Within line ∷ todo))) f.0 (Obj f.1.0, f.1.1, (f.1.2, (tt, o)))) h
    event (Enable line events cell a) todo f o h = go (Kept ∷ sc) [] _ _ (tt, f, ((tt, tt, (tt, o)), tt)) h
    event (Disable line events cell a) todo f o h = go (Kept ∷ sc) [] _ _ (tt, f, ((tt, tt, (tt, o)), tt)) h

    -- a statement
    pub stmt : (a : Stmt) (todo : List Todo) (own : List Ty) → IsNone own → FineStmt t g sc a → Ok t g base sc todo own → Values t own s.run.operands → After t source (q.stmt_step a todo s)
    stmt a todo (x ∷ own) n f o h = absurd n
    stmt (Skip line) todo [] n f o h = go sc [] _ _ o h
    stmt (Block line body) todo [] n f o h = go sc [] _ _ (tt, f, (tt, o)) h
    stmt (Whole line body) todo [] n f o h = go sc [] _ _ (tt, f.0, (tt, f.1, (tt, o))) h
    stmt (Evaluate line a) todo [] n f o h = go sc [] _ _ (f.0, f.1, (tt, o)) h
    stmt (Declare line ds) todo [] n f o h = go sc [] _ _ (f, (tt, o)) h
    stmt (Print line is) todo [] n f o h = go sc [] _ _ (f, (tt, o)) h
    stmt (PrintTogether line is) todo [] n f o h =
        go sc [] _ _ (f, ([], refl, (tt, o))) h
    stmt (Read line xs) todo [] n f o h = go sc [] _ _ (f, (tt, o)) h
    stmt (If line e a b) todo [] n f o h = go sc [] _ _ (Num, f.0, (tt, f.1, f.2, (tt, o))) h
    stmt (Loop line d e step b) todo [] n f o h = go sc [] _ _ (loop_ok t g base sc d e step b _ f (tt, o)) h
    stmt (Break line) todo [] n f o h = go sc [] _ _ (tt, left t g base sc todo [] o) h
    stmt (Continue line) todo [] n f o h = go sc [] _ _ (tt, left t g base sc todo [] o) h
    stmt (Return line None) todo [] n f o h = go sc [] _ _ (tt, left t g base sc todo [] o) h
    stmt (Return line (Some e)) todo [] n f o h = go sc [] _ _ (Num, f.0, ((refl, f.1), left t g base sc todo [] o)) h
    stmt (Owes line) todo [] n f o h = go sc [] _ _ (tt, o) h
    stmt (Fill line n1 b d) todo [] n f o h = go sc [] _ _ (f.0, f.1, (tt, o)) h
    stmt (OfEvents a) todo [] n f o h = event a todo f o h
    stmt (OfTasks a) todo [] n f o h = task a todo f o h

    pub rest : (a : Stmts) (todo : List Todo) (own : List Ty) → IsNone own → FineStmts t g sc a → Ok t g base sc todo own → Values t own s.run.operands → After t source (q.rest_step a todo s)
    rest a todo (x ∷ own) n f o h = absurd n
    rest Nil todo [] n f o h = go sc [] _ _ o h
    rest (Then a more) todo [] n f o h = go sc [] _ _ (tt, f.0, (tt, f.1, o)) h
    rest (Scoped c more) todo [] n f o h = go (f.0 ∷ sc) [] _ _ (tt, f.2, ((f.1, f.3, o), tt)) h
    rest (Built c more) todo [] n f o h = go sc [] _ _ (tt, f.0, (f.1, o, tt)) h

    -- outcomes
    pub outcome_ok : (x : Outcome) (todo : List Todo) (own : List Ty) (vs : List Value) → Ok t g base sc todo (Num ∷ own) → Values t own vs → After t source (pc.outcome_step x todo vs s)
    outcome_ok (Gives n) todo own vs o h = go sc (Num ∷ own) todo _ o (tt, h)
    outcome_ok (Faults f) todo own vs o h = tt

    pub print_ok : (gathered : Option (List Piece)) (p : Piece) (todo : List Todo) (own : List Ty) (vs : List Value) → Ok t g base sc todo own → Values t own vs → After t source (pc.print_step gathered p todo vs s)
    print_ok None p todo own vs o h = go sc own todo vs o h
    print_ok (Some ps) p todo own vs o h = put sc [] own todo vs (record s.env { gathered = Some (pc.with_piece p ps) }) s.run.elements idle frames o h

    pub flush_ok : (gathered : Option (List Piece)) (todo : List Todo) (own : List Ty) (vs : List Value) → Ok t g base sc todo own → Values t own vs → After t source (pc.flush_step gathered todo vs s)
    flush_ok None todo own vs o h = go sc own todo vs o h
    flush_ok (Some []) todo own vs o h = put sc [] own todo vs (record s.env { gathered = None }) s.run.elements idle frames o h
    flush_ok (Some (p ∷ ps)) todo own vs o h = put sc [] own todo vs (record s.env { gathered = None }) s.run.elements idle frames o h

    pub element_ok : (n : ℕ) (i : Option ℕ) (k : Shape) (a : Ty) (todo : List Todo) (v : Value) (own : List Ty) (vs : List Value) → ((j : ℕ) → i ≡ Some j → j < n) → IsPlaced t a → IsAt t (Row n (whole a)) v → Ok t g base sc todo (a ∷ own) → Values t own vs → After t source (pc.element_step k i todo v vs s)
    element_ok n None k a todo v own vs l d w o h = tt
    element_ok n (Some i) k a todo v own vs l d w o h = go sc (a ∷ own) todo _ o (further_element t n i a k v (l i refl) d w, h)
