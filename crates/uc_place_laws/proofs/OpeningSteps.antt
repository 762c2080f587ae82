-- A quiet step of a state in which scopes open behind the calls of constructors leads to one, and to where such a scope opens only from where an
-- activation ends.
use Rattle.std.proofs.Common.{◌≡◌, ℕ, zero, suc, ◌⊎◌, inl, inr, ◌++◌, Bool, true, false, ◌&&◌, List, [], ◌∷◌, length, drop, Option, Some, None, refl, sym, ap, ◌∙◌, subst}
use Rattle.std.specs.Prelude.{nat_eq, nat_lt, slice_set}
use Rattle.uc_tree.specs.declared.limits.TheConstants.{CALLS, PENDING_EVENTS}
use Rattle.uc_tree.specs.Programs.{Program}
use Rattle.uc_tree.specs.Source as src
use Rattle.uc_tree.specs.Source.{Shape, Declared, Expr, ObjectExpr, Stmt, Stmts, EventStmt, TaskStmt, Routine, Purpose, Order, Way, CleanUp, Handlers, Clauses, Raised, Item, Source}
use Rattle.uc_entry.specs.declared.fault.RunFault.{RunFault}
use Rattle.uc_entry.specs.declared.fault.RunFault.TheVariants.{Index, Depth, BlockedInside, TooManyPending, NotLive, Unhandled}
use Rattle.uc_entry.specs.declared.request.Piece.{Piece}
use Rattle.uc_entry.specs.declared.request.Request.TheVariants as ask
use Rattle.uc_entry.specs.Keyed.{find, signed_64}
use Rattle.uc_machine.specs.declared.exec.Exec.{Exec}
use Rattle.uc_machine.specs.declared.exec.Pending.{Pending}
use Rattle.uc_machine.specs.declared.exec.UnwindReason.{UnwindReason}
use Rattle.uc_machine.specs.declared.exec.UnwindReason.TheVariants as reason
use Rattle.uc_machine.specs.declared.exec.Visited.{Visited}
use Rattle.uc_machine.specs.Switches as sw
use Rattle.uc_machine.specs.Switches.{Moved, To, Stops}
use Rattle.uc_machine.specs.Insides as inside
use Rattle.uc_machine.specs.Raising as raising
use Rattle.uc_machine.specs.Raising.{Handler, Found, Hit}
use Rattle.uc_machine.specs.Monitors as monitors
use Rattle.uc_machine.specs.Polls as polls
use Rattle.uc_machine.specs.Quiet as quiet
use Rattle.uc_machine.specs.Pieces as piece
use Rattle.uc_machine.specs.Pieces.{Value, Number, Place, Running, Object, Nothing, Todo, Sort, Active, State, Env, Members, Step, Goes, Ticks, Asks, Outcome, Gives, Faults, at, in_env, goes, fault, asks, turns, top, below, number, written}
use Rattle.uc_state_laws.specs.Counted.{params_at, params, count, CountedExpr, CountedObject, CountedMaybe, CountedDeclared, CountedItem, CountedClean, CountedRaised, CountedAt}
use Rattle.uc_place_laws.specs.OlderResting.{AllWait, NamedEnv, NamedState}
use Rattle.uc_place_laws.proofs.AsideKeeping as kept
use Rattle.uc_place_laws.proofs.AsideKeeping.{either, tested}
use Rattle.uc_place_laws.specs.Opened.{Spot, Var, Own, BuildsNone, Spans, Declares, Builds, Before}
use Rattle.uc_place_laws.specs.Called.{Mark, Any, At, Meets, NextAt, Holds, rest, rests, anys, Placed, Every, CalledAt, CalledBy, CodeStmt, CodeStmts, CodeBlock, CodeHandlers, CodeClauses, CodeRoutine, LeftBy, Ok, AtRest, AtBuild, AtDrop, Left, Stands, OnWay}
use Rattle.uc_place_laws.specs.CalledStates.{Seated, Runs, Waits, CalledAsk, Ends, NextJoins, Follows}
use Rattle.uc_place_laws.proofs.OpeningMarks as marks
use Rattle.uc_place_laws.proofs.OpeningMarks.{holds_below, holds_drop, holds_anys, rests_anys, drop_set, builds_more, builds_or}

module _ (g : Program) (source : Source) where
  abbrev E : Env → Type 0
  E e = NamedEnv (Runs g source) (Waits g source) e

  abbrev W : Exec → List Active → Type 0
  W n cs = AllWait (Runs g source) (Waits g source) n cs

  pub calm : (n : Exec) (older : List Active) (a : Active) (w : Option UnwindReason) → Runs g source n older a → Runs g source n older (record a { raised = w })
  calm n older a w h = (record { marks = h.0.marks; holds = h.0.holds; ok = h.0.ok }, h.1)

  abbrev K : Env → Env → Type 0
  K e f = kept.Keeps (Runs g source) (Waits g source) calm e f

  abbrev M : Moved (List Todo) Value → Type 0
  M m = kept.NamedMoved (Runs g source) (Waits g source) calm m

  pub likes : {e f : Env} → E e → f.hand ≡ e.hand → f.house ≡ e.house → f.own ≡ e.own → E f
  likes h k i o = kept.like (Runs g source) (Waits g source) calm h k i o

  abbrev N : State → Type 0
  N s = NamedState (Runs g source) (Waits g source) s

  -- a scope opens next, behind the end of an activation of this state, or where its value is dropped
  pub record Comes (s u : State) : Type 0 where
    pub stands : Stands g source u.run.control
    pub seat : Seated u.env.exec u.callers u.run.this
    pub callers : W u.env.exec u.callers
    pub env : E u.env
    pub joins : NextJoins s u.run.control

  -- an object is to be built next, behind its declaration
  pub record Ways (s u : State) : Type 0 where
    pub way : OnWay g source u.run.control
    pub seat : Seated u.env.exec u.callers u.run.this
    pub callers : W u.env.exec u.callers
    pub env : E u.env
    pub follows : Follows g s u.run.control

  -- what a step of a state leads to
  abbrev pub T : State → Step → Type 0
  T s (Goes u) = N u ⊎ (Comes s u ⊎ Ways s u)
  T s (Ticks u) = N u ⊎ (Comes s u ⊎ Ways s u)
  T s (Asks r u) = CalledAsk g source r u

  -- what is to do in a routine

  behind : (p : Purpose) (line : ℕ) → Ok g source [] (quiet.behind_body p line)
  behind src.TaskMain line = (tt, (tt, tt))
  behind src.CoroutineMain line = (tt, (tt, tt))
  behind src.Procedure line = (tt, tt)
  behind src.Function line = (tt, (tt, tt))
  behind src.Builder line = tt

  pub routine : (r : Routine) → CodeBlock g source r.body → Ok g source [] (quiet.routine_todo r)
  routine r h = (h, behind r.purpose r.line)

  -- handlers

  abbrev OfHandler : Option Handler → Type 0
  OfHandler None = Unit {0}
  OfHandler (Some x) = CodeBlock g source x.body

  abbrev OfHit : Option Hit → Type 0
  OfHit None = Unit {0}
  OfHit (Some x) = CodeBlock g source x.handler.body

  abbrev OfFound : Option Found → Type 0
  OfFound None = Unit {0}
  OfFound (Some x) = CodeBlock g source x.handler.body

  handler_for : (kind : Bool) (e : raising.Event) (hs : Handlers) → CodeHandlers g source hs → OfHandler (raising.handler_for kind e hs)
  handler_for kind e src.NoHandlers h = tt
  handler_for kind e (src.MoreHandlers resumes event cell line body others) h =
      either OfHandler (raising.same_kind kind resumes && raising.takes event e) (Some (record { cell = cell; line = line; body = body })) (raising.handler_for kind e others) (h.1.0.0, (h.0.0, h.1.0.1), h.1.0.2) (handler_for kind e others (h.0.1, h.1.1))

  hit_or : (x : Option Handler) (n : ℕ) (other : Option Hit) → OfHandler x → OfHit other → OfHit (raising.hit_or x n other)
  hit_or None n other h k = k
  hit_or (Some x) n other h k = h

  -- what is known of a mark that is left
  hit_by : (k : Sort) (n : ℕ) (e : raising.Event) (other : Option Hit) (l o : Type 0) → LeftBy g source k l o → OfHit other → OfHit (raising.hit_by k n e other)
  hit_by (piece.IsGuard hs) n e other l o h k = hit_or (raising.handler_for true e hs) n other (handler_for true e hs h.0) k
  hit_by s n e other l o h k = k

  hit_in : (e : raising.Event) (todo : List Todo) → Left g source todo → OfHit (raising.hit_in e todo)
  hit_in e [] h = tt
  hit_in e (p ∷ ps) h =
      hit_by (piece.sort p) (raising.count_round ps) e (raising.hit_in e ps) (Left g source ps) (Ok g source [] ps) h (hit_in e ps (marks.left_tail g source p ps h))

  within : (n : ℕ) (todo : List Todo) → Left g source todo → Left g source (raising.within n todo)
  within n [] h = tt
  within n (p ∷ ps) h =
      either (Left g source) (nat_eq (raising.count_round (p ∷ ps)) n) (p ∷ ps) (raising.within n ps) h (within n ps (marks.left_tail g source p ps h))

  found_or : (x : Option Hit) (a : Active) (cs : List Active) (other : Option Found) → OfHit x → OfFound other → OfFound (raising.found_or x a cs other)
  found_or None a cs other h k = k
  found_or (Some x) a cs other h k = h

  seek : (v : Option Visited) (e : raising.Event) (cs : List Active) → marks.AllLeft g source cs → OfFound (raising.seek v e cs)
  seek None e [] h = tt
  seek (Some v) e [] h = tt
  seek None e (a ∷ cs) h = found_or (raising.hit_in e a.control) a cs (raising.seek a.handles e cs) (hit_in e a.control h.0) (seek a.handles e cs h.1)
  seek (Some v) e (a ∷ cs) h =
      either OfFound (nat_eq (length cs) v.level) (raising.found_or (raising.hit_in e (raising.within v.rest a.control)) a cs (raising.seek a.handles e cs)) (raising.seek (Some v) e cs) (found_or (raising.hit_in e (raising.within v.rest a.control)) a cs (raising.seek a.handles e cs) (hit_in e (raising.within v.rest a.control) (within v.rest a.control h.0)) (seek a.handles e cs h.1)) (seek (Some v) e cs h.1)

  -- to-do lists

  pub starts : (cell : ℕ) (v : Option Expr) (todo : List Todo) → CountedMaybe source v → Ok g source [] todo → Ok g source [] (quiet.starting cell v todo)
  starts cell None todo n h = h
  starts cell (Some e) todo n h = (tt, inl (n, inl (tt, h)))

  converts : (k : Shape) (ms : List Mark) (todo : List Todo) → Ok g source (Any ∷ ms) todo → Ok g source (Any ∷ ms) (quiet.converting k todo)
  converts src.Character ms todo h = (tt, h)
  converts src.Truth ms todo h = (tt, h)
  converts k ms todo h = h

  pub stepped : (e : Option Expr) (todo : List Todo) → CountedMaybe source e → Ok g source [] todo → Ok g source [] (quiet.step_todo e todo)
  stepped None todo n h = h
  stepped (Some e) todo n h = (n, inl (tt, h))

  pub turned : (o : Order) (t : Expr) (e : Option Expr) (b : Stmt) (todo : List Todo) → CountedExpr source t → CountedMaybe source e → CodeStmt g source b → Ok g source [] todo → Ok g source [] (quiet.test_todo o t e b todo)
  turned src.TestFirst t e b todo k l m h = (k, inl ((k, l, m), h))
  turned src.BodyFirst t e b todo k l m h = (k, inl ((k, l, m), h))
  turned src.NoTest t e b todo k l m h = ((k, l, m), h)

  looped : (o : Order) (t : Expr) (e : Option Expr) (b : Stmt) (todo : List Todo) → CountedExpr source t → CountedMaybe source e → CodeStmt g source b → Ok g source [] todo → Ok g source [] (quiet.loop_todo o t e b todo)
  looped src.TestFirst t e b todo k l m h = (k, inl ((k, l, m), h))
  looped src.BodyFirst t e b todo k l m h = ((k, l, m), h)
  looped src.NoTest t e b todo k l m h = ((k, l, m), h)

  loop_left : (w : Way) (o : Order) (t : Expr) (e : Option Expr) (b : Stmt) (todo : List Todo) → CountedExpr source t × CountedMaybe source e × CodeStmt g source b → Ok g source [] todo → Ok g source [] (quiet.loop_left w o t e b todo)
  loop_left src.ToBreak o t e b todo n h = h
  loop_left src.ToContinue o t e b todo n h = (n, h)
  loop_left src.ToReturn o t e b todo n h = marks.left g source [] todo h
  loop_left src.ToEnd o t e b todo n h = marks.left g source [] todo h

  left_behind : (w : Way) (k : Sort) (todo : List Todo) → LeftBy g source k (Left g source todo) (Ok g source [] todo) → Ok g source [] (quiet.left_behind w k todo)
  left_behind w piece.Simple todo h = h
  left_behind w (piece.IsLoop o t e b) todo h = loop_left w o t e b todo h.0 h.1
  left_behind w piece.IsWhole todo h = h
  left_behind w (piece.IsClean c) todo h = (h.0, marks.left g source [] todo h.1)
  left_behind w (piece.IsFill m b d) todo h = marks.left g source [] todo h.1
  left_behind w (piece.IsSweep e) todo h = marks.left g source [] todo h.1
  left_behind w (piece.IsPart c) todo h = marks.left g source [] todo h.1
  left_behind w (piece.IsGuard hs) todo h = marks.left g source [] todo h.1
  left_behind w piece.IsFinish todo h = (tt, h)
  left_behind w piece.IsFinishCoroutine todo h = (tt, h)

  pub filled : (b : Bool) (n : ℕ) (e d : Expr) (todo : List Todo) → CountedExpr source e × CountedExpr source d → Ok g source [] todo → Ok g source [] (quiet.fill_todo b n e d todo)
  filled false n e d todo k h = h
  filled true n e d todo k h = (k.0, inl (tt, (tt, (k, h))))

  -- an event is found before it is raised
  raised : (r : Raised) (todo : List Todo) → CountedRaised source r → Ok g source (Any ∷ (Any ∷ (Any ∷ []))) todo → Ok g source [] (raising.raised_todo r todo)
  raised (src.Plainly n) todo k h = (tt, inl (tt, inl (tt, inl h)))
  raised (src.BuiltAt n c e) todo k h = (tt, (k, inl (tt, (tt, inl (tt, inl (tt, inl h))))))
  raised (src.AgainFrom c) todo k h = (tt, inl (tt, inl (tt, inl h)))

  counted_at : (r : Raised) → CountedAt source r → CountedRaised source r
  counted_at (src.Plainly n) h = tt
  counted_at (src.BuiltAt n c e) h = h.1
  counted_at (src.AgainFrom c) h = tt

  handled : (x : Handler) (todo : List Todo) → CodeBlock g source x.body → Ok g source [] todo → Ok g source [] (raising.handler_todo x todo)
  handled x todo k h = (tt, (tt, (tt, (tt, (tt, (tt, (k, (tt, h))))))))

  pub cleans : (c : CleanUp) (todo : List Todo) → CountedClean source c → Ok g source [] todo → Ok g source [] (piece.clean_todo c todo)
  cleans (src.Destroys e) todo n h = (n, inl (tt, h))
  cleans (src.DestroysAll m e) todo n h = (tt, (n, h))
  cleans src.Unwinds todo n h = (tt, h)
  cleans src.Forgets todo n h = (tt, h)
  cleans src.Leaves todo n h = (tt, h)
  cleans src.Ends todo n h = (tt, h)
  cleans (src.Frees None) todo n h = (tt, h)
  cleans (src.Frees (Some r)) todo n h = (tt, h)
  cleans (src.Restores k) todo n h = (tt, h)

  left_cleans : (c : CleanUp) (todo : List Todo) → CountedClean source c → Ok g source [] todo → Ok g source [] (raising.left_todo c todo)
  left_cleans (src.Frees r) todo n h = (tt, h)
  left_cleans c todo n h = cleans c todo n h

  pub branch : (k : ℕ) (cs : Clauses) (todo : List Todo) → CodeClauses g source cs → Ok g source [] todo → Ok g source [] (monitors.branch_todo k cs todo)
  branch k src.NoClauses todo n h = h
  branch k (src.Otherwise b) todo n h = either (Ok g source []) (nat_eq k 0) (piece.Do b ∷ todo) todo (n, inl h) h
  branch zero (src.MoreClauses guard b cs) todo n h = branch zero cs todo (n.0.2, n.1.1) h
  branch (suc zero) (src.MoreClauses guard b cs) todo n h = ((n.0.1, n.1.0), inl h)
  branch (suc (suc k)) (src.MoreClauses guard b cs) todo n h = branch (suc k) cs todo (n.0.2, n.1.1) h

  pub item : (i : Item) (todo : List Todo) → CountedItem source i → Ok g source [] todo → Ok g source [] (quiet.item_todo i todo)
  item (src.Show f e) todo n h = (n, inl (tt, h))
  item (src.ShowText k) todo n h = (tt, h)

  pub item_value : (i : Item) (todo : List Todo) → CountedItem source i → ((ms : List Mark) → Ok g source ms todo) → Ok g source [] (quiet.item_value i todo)
  item_value (src.Show f e) todo n h = (n, inl (h (Any ∷ [])))
  item_value (src.ShowText k) todo n h = h []

  pub item_piece : (i : Item) (todo : List Todo) → Ok g source [] todo → Ok g source [] (quiet.item_piece i ∷ todo)
  item_piece (src.Show f e) todo h = (tt, h)
  item_piece (src.ShowText k) todo h = (tt, h)

  polled : (o : Option UnwindReason) (ms : List Mark) (todo : List Todo) → Ok g source ms todo → Ok g source ms (monitors.leave_todo o todo)
  polled None ms todo h = (tt, h)
  polled (Some why) ms todo h = h

  -- calls take as many operands as there are arguments

  called : (args : src.Exprs) (r : ℕ) (ms : List Mark) (todo : List Todo) → count args ≡ params source r → Ok g source (Any ∷ ms) todo → Ok g source (Any ∷ rests (params source r) (anys (count args) ms)) todo
  called args r ms todo e h =
      subst (λ n. Ok g source (Any ∷ rests n (anys (count args) ms)) todo) e (subst (λ ns. Ok g source (Any ∷ ns) todo) (sym (rests_anys (count args) ms)) h)

  called_on : (n r : ℕ) (m : Mark) (ms : List Mark) (todo : List Todo) → n ≡ params source r → Ok g source (Any ∷ ms) todo → Ok g source (Any ∷ rests (suc (params source r)) (anys n (m ∷ ms))) todo
  called_on n r m ms todo e h =
      subst (λ k. Ok g source (Any ∷ rest (rests k (anys n (m ∷ ms)))) todo) e (subst (λ ns. Ok g source (Any ∷ rest ns) todo) (sym (rests_anys n (m ∷ ms))) h)

  -- the place lies below the arguments
  called_at : (n r : ℕ) (m : Spot) (ms : List Mark) (todo : List Todo) → n ≡ params source r → AtDrop g source (CalledAt g r m) todo → AtDrop g source (CalledBy g r (rests (params source r) (anys n (At m ∷ ms)))) todo
  called_at n r m ms todo e h =
      subst (λ k. AtDrop g source (CalledBy g r (rests k (anys n (At m ∷ ms)))) todo) e (subst (λ ns. AtDrop g source (CalledBy g r ns) todo) (sym (rests_anys n (At m ∷ ms))) h)

  -- a made object takes the place of its place below the arguments
  made_on : (n r : ℕ) (ms : List Mark) (todo : List Todo) → n ≡ params source r → Ok g source (Any ∷ ms) todo → Ok g source (Any ∷ rests (suc (params source r)) (anys (suc (params source r)) (rests (suc (params source r)) (anys n (Any ∷ ms))))) todo
  made_on n r ms todo e h =
      let k = params source r in
      let below_it : rests (suc k) (anys n (Any ∷ ms)) ≡ ms = subst (λ m. rest (rests m (anys n (Any ∷ ms))) ≡ ms) e (ap rest (rests_anys n (Any ∷ ms))) in
      subst (λ ns. Ok g source (Any ∷ ns) todo) (sym (rests_anys (suc k) (rests (suc k) (anys n (Any ∷ ms))) ∙ below_it)) h

  module _ (s : State) (callers : W s.env.exec s.callers) (seat : Seated s.env.exec s.callers s.run.this) (env : E s.env) where
    abbrev pub H : List Mark → List Value → Type 0
    H ms vs = Holds s.env.exec s.run.frame s.run.this ms vs

    -- with other operands and something else to do
    pub here : (ns : List Mark) (todo : List Todo) (vs : List Value) → H ns vs → Ok g source ns todo → N (at todo vs s)
    here ns todo vs k h = record { run = (record { marks = ns; holds = k; ok = h }, seat); callers = callers; env = env }

    pub go : (ns : List Mark) (todo : List Todo) (vs : List Value) → H ns vs → Ok g source ns todo → T s (Goes (at todo vs s))
    go ns todo vs k h = inl (here ns todo vs k h)

    -- with something to do before which nothing need be known
    pub afresh : (todo : List Todo) (vs : List Value) → Ok g source [] todo → N (at todo vs s)
    afresh todo vs h = here [] todo vs tt h

    pub anew : (todo : List Todo) (vs : List Value) → Ok g source [] todo → T s (Goes (at todo vs s))
    anew todo vs h = inl (afresh todo vs h)

    -- and with something written
    pub go_in : (ns : List Mark) (todo : List Todo) (vs : List Value) (e : Env) → H ns vs → Ok g source ns todo → K s.env e → T s (Goes (at todo vs (in_env e s)))
    go_in ns todo vs e k h i = inl (kept.with_env (Runs g source) (Waits g source) calm (at todo vs s) (here ns todo vs k h) i)

    pub same : {f : Env} → f.exec ≡ s.env.exec → f.hand ≡ s.env.hand → f.house ≡ s.env.house → f.own ≡ s.env.own → K s.env f
    same x h k o = kept.keeps_like (Runs g source) (Waits g source) calm env x h k o

    pub stop : (f : RunFault) (todo : List Todo) (vs : List Value) → T s (fault f todo vs s)
    stop f todo vs = record { run = tt; seat = seat; callers = callers; env = env }

    ends : (todo : List Todo) (vs : List Value) → T s (Asks ask.End (at todo vs s))
    ends todo vs = record { run = tt; seat = seat; callers = callers; env = env }

    pub moved : (m : Moved (List Todo) Value) (todo : List Todo) (vs : List Value) → M m → T s (piece.moves m (at todo vs s))
    moved (To t) todo vs m = inl m
    moved (Stops f) todo vs m = stop f todo vs

    pub write : (v w : Value) → K s.env (written v w s.env)
    write v w = kept.written_keeps (Runs g source) (Waits g source) calm v w s.env env

    pub outcome : (ms : List Mark) (o : Outcome) (todo : List Todo) (vs : List Value) → H ms vs → Ok g source (Any ∷ ms) todo → T s (piece.outcome_step o todo vs s)
    outcome ms (Gives n) todo vs k h = go (Any ∷ ms) todo _ (tt, k) h
    outcome ms (Faults f) todo vs k h = stop f todo vs

    pub element : (ms : List Mark) (k : Shape) (i : Option ℕ) (todo : List Todo) (v : Value) (vs : List Value) → H ms vs → Ok g source (Any ∷ ms) todo → T s (piece.element_step k i todo v vs s)
    element ms k None todo v vs l h = stop Index todo vs
    element ms k (Some i) todo v vs l h = go (Any ∷ ms) todo _ (tt, l) h

    pub condition : (ms : List Mark) (k : ℕ) (i : Option ℕ) (todo : List Todo) → H ms (below s.run.operands) → Ok g source (Any ∷ ms) todo → T s (monitors.condition_step k i todo s)
    condition ms k None todo l h = stop Index todo _
    condition ms k (Some i) todo l h = go (Any ∷ ms) todo _ (tt, l) h

    -- the end of an activation
    stands : (todo : List Todo) → AtDrop g source Every todo → Stands g source todo
    stands (piece.DropNow ∷ (piece.Within line ∷ todo)) h = h
    stands todo h = absurd h

    joins : (todo : List Todo) → AtDrop g source Every todo → Ends s s.run.control → NextJoins s todo
    joins (piece.DropNow ∷ (piece.Within line ∷ (piece.Rest ss ∷ todo))) h e = inr e
    joins todo h e = absurd h

    pub returned : (given : Value) (cs : List Active) → W s.env.exec cs → Ends s s.run.control → T s (piece.return_step given cs s)
    returned given [] c e = record { run = tt; seat = seat; callers = callers; env = env }
    returned given (a ∷ cs) (((inl f), z), c) e = inl (record { run = (record { marks = Any ∷ f.marks; holds = (tt, f.holds); ok = f.ok }, z); callers = c; env = likes env refl refl refl })
    returned given (a ∷ cs) (((inr f), z), c) e = inr (inl (record { stands = stands a.control f; seat = z; callers = c; env = likes env refl refl refl; joins = joins a.control f e }))

    past : (v : Visited) (given : Value) (cs : List Active) → W s.env.exec cs → T s (raising.return_past v given cs s)
    past v given [] c = record { run = tt; seat = seat; callers = callers; env = env }
    past v given (a ∷ cs) c = inl (record { run = (record { marks = []; holds = tt; ok = marks.wait_left g source s.env.exec cs a c.0 }, c.0.1); callers = c.1; env = likes env refl refl refl })

    end_by : (v : Option Visited) (given : Value) → Ends s s.run.control → T s (raising.end_by v given s)
    end_by None given e = returned given s.callers callers e
    end_by (Some v) given e = past v given s.callers callers

    end_step : (w : Way) → Ends s s.run.control → T s (quiet.end_step w s)
    end_step src.ToReturn e = end_by s.run.handles _ e
    end_step src.ToEnd e = end_by s.run.handles _ e
    end_step src.ToBreak e = returned _ s.callers callers e
    end_step src.ToContinue e = returned _ s.callers callers e

    pub exits : (w : Way) (todo : List Todo) → s.run.control ≡ piece.Exit w ∷ todo → Left g source todo → T s (quiet.exit_step w todo s)
    exits w [] e h = end_step w (subst (Ends s) (sym e) tt)
    exits w (x ∷ xs) e h = anew _ _ (left_behind w (piece.sort x) xs h)

    -- statements

    pub swept : (n : ℕ) (e : Expr) (todo : List Todo) → CountedExpr source e → Ok g source [] todo → T s (quiet.sweep_step n e todo s)
    swept zero e todo n h = anew _ _ h
    swept (suc m) e todo n h = inl (record { run = (record { marks = []; holds = tt; ok = (n, inl (tt, (n, h))) }, seat); callers = callers; env = env })

    event_step : (a : EventStmt) (todo : List Todo) → CodeStmt g source (src.OfEvents a) → Ok g source [] todo → T s (quiet.event_step a todo s)
    event_step (src.Throw line r) todo n h = anew _ _ (raised r _ n.0 (tt, (tt, h)))
    event_step (src.Raise line r) todo n h = anew _ _ (raised r _ n.0 (tt, (tt, h)))
    event_step (src.Try line body hs) todo n h = anew _ _ ((n.1.0.0, (n.0.0, n.1.0.1), n.1.0.2), ((n.0.1, n.1.1), (tt, h)))
    event_step (src.RaiseAt line r a) todo n h = anew _ _ (raised r _ (counted_at r n.0.0) (n.0.1, inl (tt, (tt, h))))
    event_step (src.Enable line events cell a) todo n h = anew _ _ (tt, (tt, (n, inl (tt, (tt, h)))))
    event_step (src.Disable line events cell a) todo n h = anew _ _ (tt, (n, inl (tt, (tt, h))))

    task_step : (a : TaskStmt) (todo : List Todo) → CodeStmt g source (src.OfTasks a) → Ok g source [] todo → T s (quiet.task_step a todo s)
    task_step (src.Resume line) todo n h = anew _ _ (tt, (tt, (tt, h)))
    task_step (src.Suspend line) todo n h = anew _ _ (tt, (tt, (tt, h)))
    task_step (src.SetUp r) todo n h = anew _ _ (tt, h)
    task_step src.Enliven todo n h = anew _ _ (tt, h)
    task_step src.TakeDown todo n h = anew _ _ (tt, h)
    task_step (src.Yield line) todo n h = anew _ _ (tt, (tt, (tt, h)))
    task_step (src.Migrate line a) todo n h = anew _ _ (n.0, inl (tt, (tt, h)))
    task_step (src.Accept line site cs) todo n h = anew _ _ (n, (tt, (n, (tt, h))))

    -- the value of an expression that is evaluated by itself is dropped
    evaluates : (line : ℕ) (a : Expr) (todo : List Todo) → CountedExpr source a → Ok g source [] todo ⊎ (AtRest g source (Builds g a) todo ⊎ AtBuild g source (λ d k. ⊥) todo) → Ok g source [] (piece.Eval a ∷ (piece.DropNow ∷ (piece.Within line ∷ todo)))
    evaluates line a todo n (inl h) = (n, inl (tt, (tt, h)))
    evaluates line a todo n (inr (inl h)) = (n, inr (inl h))
    evaluates line a todo n (inr (inr h)) = (n, inl (tt, (tt, marks.build_none g source todo h)))

    -- behind a statement that builds no such object
    plainly : (todo : List Todo) → Ok g source [] todo ⊎ (AtRest g source (λ d x. ⊥) todo ⊎ AtBuild g source (λ d k. ⊥) todo) → Ok g source [] todo
    plainly todo (inl h) = h
    plainly todo (inr (inl h)) = marks.rest_none g source todo h
    plainly todo (inr (inr h)) = marks.build_none g source todo h

    -- a variable is declared at which an object is built next, or another
    declared : (line : ℕ) (x : Declared) (todo : List Todo) → CountedDeclared source (x ∷ []) → AtBuild g source (Declares g (src.Declare line (x ∷ []))) todo → T s (Goes (at (piece.Variables (x ∷ []) ∷ (piece.Within line ∷ todo)) s.run.operands s))
    declared line x (piece.Rest ss ∷ todo) n h = by (builds_or (Declares g (src.Declare line (x ∷ []))) ss h.0.2)
      where
        by : BuildsNone ss ⊎ ((d : ℕ) × (k : ℕ) × Declares g (src.Declare line (x ∷ [])) d k) → T s (Goes (at (piece.Variables (x ∷ []) ∷ (piece.Within line ∷ (piece.Rest ss ∷ todo))) s.run.operands s))
        by (inl none) = anew _ _ (n, (tt, ((h.0.0, h.0.1, none), h.1)))
        by (inr z) = inr (inr (record {
          way = (z.2.1, ((h.0.0, h.0.1, builds_more (Declares g (src.Declare line (x ∷ []))) (λ d k. (x.cell ≡ k) × Spans g d x.cells) (λ d k y. (y.0, y.2)) ss h.0.2), h.1));
          seat = seat;
          callers = callers;
          env = env;
          follows = tt;
        }))
    declared line x todo n h = absurd h

    declares : (line : ℕ) (ds : List Declared) (todo : List Todo) → CountedDeclared source ds → Ok g source [] todo ⊎ (AtRest g source (λ d x. ⊥) todo ⊎ AtBuild g source (Declares g (src.Declare line ds)) todo) → T s (quiet.stmt_step (src.Declare line ds) todo s)
    declares line ds todo n (inl h) = anew _ _ (n, (tt, h))
    declares line ds todo n (inr (inl h)) = anew _ _ (n, (tt, marks.rest_none g source todo h))
    declares line [] todo n (inr (inr h)) = anew _ _ (n, (tt, marks.build_none g source todo h))
    declares line (x ∷ []) todo n (inr (inr h)) = declared line x todo n h
    declares line (x ∷ (y ∷ ds)) todo n (inr (inr h)) = anew _ _ (n, (tt, marks.build_none g source todo h))

    pub stmt : (a : Stmt) (todo : List Todo) → CodeStmt g source a → Ok g source [] todo ⊎ (AtRest g source (Before g a) todo ⊎ AtBuild g source (Declares g a) todo) → T s (quiet.stmt_step a todo s)
    stmt (src.Skip line) todo n h = anew _ _ (plainly todo h)
    stmt (src.Block line body) todo n h = anew _ _ ((n.1.0, (n.0, n.1.1), n.1.2), (tt, plainly todo h))
    stmt (src.Whole line body) todo n h = anew _ _ ((n.1.0, (n.0, n.1.1), n.1.2), (tt, (tt, plainly todo h)))
    stmt (src.Evaluate line a) todo n h = anew _ _ (evaluates line a todo n.0 h)
    stmt (src.Declare line ds) todo n h = declares line ds todo n.0 h
    stmt (src.Print line items) todo n h = anew _ _ (n.0, (tt, plainly todo h))
    stmt (src.PrintTogether line items) todo n h = anew _ _ (n.0, (tt, (n.0, (tt, (tt, plainly todo h)))))
    stmt (src.Read line ts) todo n h = anew _ _ (n.0, (tt, plainly todo h))
    stmt (src.If line t a b) todo n h = anew _ _ (n.0.0, inl (((n.0.1, n.1.0), (n.0.2, n.1.1)), (tt, plainly todo h)))
    stmt (src.Loop line o t e b) todo n h = anew _ _ (looped o t e b _ n.0.0 n.0.1 (n.0.2, n.1) (tt, plainly todo h))
    stmt (src.Break line) todo n h = anew _ _ (marks.left g source [] todo (plainly todo h))
    stmt (src.Continue line) todo n h = anew _ _ (marks.left g source [] todo (plainly todo h))
    stmt (src.Return line None) todo n h = anew _ _ (marks.left g source [] todo (plainly todo h))
    stmt (src.Return line (Some e)) todo n h = anew _ _ (n.0, inl (marks.left g source [] todo (plainly todo h)))
    stmt (src.Owes line) todo n h = anew _ _ (tt, (tt, plainly todo h))
    stmt (src.Fill line m b d) todo n h = anew _ _ (tt, (n.0, (tt, plainly todo h)))
    stmt (src.OfEvents a) todo n h = event_step a todo n (plainly todo h)
    stmt (src.OfTasks a) todo n h = task_step a todo n (plainly todo h)

    -- where the scope of an object opens next, that is built
    behind_stmt : (a : Stmt) (ss : Stmts) (todo : List Todo) → CodeStmts g source (src.Then a ss) → Ok g source [] todo → Ok g source [] (piece.Do a ∷ (piece.Rest ss ∷ todo))
    behind_stmt a (src.Then b ss) todo n h = ((n.0.0, n.1.0), inr (inr ((tt, (n.0.1, n.1.2), n.1.3), h)))
    behind_stmt a ss todo n h = ((n.0.0, n.1.0), inr (inl ((n.1.1, (n.0.1, n.1.2), tt), h)))

    pub rest_of : (ss : Stmts) (todo : List Todo) → CodeStmts g source ss → Ok g source [] todo → T s (quiet.rest_step ss todo s)
    rest_of src.Nil todo n h = anew _ _ h
    rest_of (src.Then a ss) todo n h = anew _ _ (behind_stmt a ss todo n h)
    rest_of (src.Scoped c ss) todo n h = anew _ _ ((n.1.0, (n.0.1, n.1.1), n.1.2), (n.0.0, h))
    rest_of (src.Built c ss) todo n h = anew _ _ ((n.1.0, (n.0.1, n.1.1), n.1.2), (n.0.0, h))

    pub land : (o : Option UnwindReason) (ms : List Mark) (todo : List Todo) → H ms s.run.operands → Ok g source ms todo → T s (quiet.land_step o todo s)
    land None ms todo k h = go ms _ _ k h
    land (Some why) ms todo k h = anew _ _ (marks.left g source ms todo h)

    -- events

    throws : (e : raising.Event) (todo : List Todo) → Left g source todo → T s (raising.throw_step e todo s)
    throws e todo h = inl (record { run = (record { marks = []; holds = tt; ok = h }, seat); callers = callers; env = env })

    pub thrown : (e : raising.Event) (todo : List Todo) → Ok g source [] todo → T s (raising.throw_step e todo s)
    thrown e todo h = throws e todo (marks.left g source [] todo h)

    -- the activation that raised goes on without the event
    handles : (ms : List Mark) (f : Option Found) (e : raising.Event) (todo : List Todo) → H ms s.run.operands → OfFound f → Ok g source (rests 3 ms) todo → T s (raising.handle_step f e todo s)
    handles ms None e todo k n h = throws e todo (marks.left g source (rests 3 ms) todo h)
    handles ms (Some f) e todo k n h = inl (record {
      run = (record { marks = []; holds = tt; ok = handled f.handler [] n tt }, marks.next_behind g source (λ d x. Meets s.env.exec s.run.frame s.run.this (At x) f.this) (rests 3 ms) todo h);
      callers = ((inl (record { marks = rests 3 ms; holds = holds_below s.env.exec s.run.frame s.run.this (rests 2 ms) _ (holds_below s.env.exec s.run.frame s.run.this (rests 1 ms) _ (holds_below s.env.exec s.run.frame s.run.this ms _ k)); ok = (tt, h) }), seat), callers);
      env = likes env refl refl refl;
    })

    pub raises : (ms : List Mark) (e : raising.Event) (todo : List Todo) → H ms s.run.operands → Ok g source (rests 3 ms) todo → T s (raising.raise_step e todo s)
    raises ms e todo k h =
        let round : List Active = (record s.run { control = todo }) ∷ s.callers in
        handles ms (raising.seek None e round) e todo k (seek None e round (marks.left g source (rests 3 ms) todo h, marks.waits_left g source s.env.exec s.callers callers)) h

    -- unwinding

    catches : (o : Option Handler) (e : raising.Event) (todo : List Todo) → OfHandler o → Ok g source [] todo → T s (raising.catch_step o e todo s)
    catches None e todo n h = anew _ _ (marks.left g source [] todo h)
    catches (Some x) e todo n h = inl (record { run = (record { marks = []; holds = tt; ok = handled x todo n h }, seat); callers = callers; env = env })

    guarded : (hs : Handlers) (o : Option UnwindReason) (todo : List Todo) → CodeHandlers g source hs → Ok g source [] todo → T s (raising.guard_left hs o todo s)
    guarded hs (Some (reason.Event n x y)) todo k h =
        catches _ _ todo (handler_for false (record { number = n; x = x; y = y }) hs k) h
    guarded hs o todo k h = anew _ _ (marks.left g source [] todo h)

    whole : (b : Bool) (todo : List Todo) → Ok g source [] todo → T s (raising.whole_left b todo s)
    whole true todo h = inl (record { run = (record { marks = []; holds = tt; ok = h }, seat); callers = callers; env = env })
    whole false todo h = anew _ _ (marks.left g source [] todo h)

    scope : (c : CleanUp) (b : Bool) (todo : List Todo) → CountedClean source c → Ok g source [] todo → T s (raising.scope_left c b todo s)
    scope src.Leaves true todo n h = inl (record { run = (record { marks = []; holds = tt; ok = (tt, marks.left g source [] todo h) }, seat); callers = callers; env = env })
    scope c b todo n h = anew (raising.left_todo c (piece.Unwind ∷ todo)) [] (left_cleans c (piece.Unwind ∷ todo) n (marks.left g source [] todo h))

    main_left : (o : Option UnwindReason) (todo : List Todo) → Ok g source [] todo → T s (raising.main_left o todo s)
    main_left (Some (reason.ReturnTo n)) todo h = inl (record { run = (record { marks = []; holds = tt; ok = (tt, h) }, seat); callers = callers; env = env })
    main_left o todo h = stop Unhandled todo []

    coroutine_left : (o : Option UnwindReason) (todo : List Todo) → Ok g source [] todo → T s (raising.coroutine_left o todo s)
    coroutine_left (Some (reason.ReturnTo n)) todo h = inl (record { run = (record { marks = []; holds = tt; ok = (tt, h) }, seat); callers = callers; env = env })
    coroutine_left (Some reason.Destroyed) todo h = moved _ todo _ (kept.taken_down_rests (Runs g source) (Waits g source) calm (at todo [] s) (afresh todo [] h))
    coroutine_left o todo h = moved _ todo _ (kept.escape_rests (Runs g source) (Waits g source) calm (at todo [] s) (afresh todo [] h))

    unwind_past : (k : Sort) (todo : List Todo) → LeftBy g source k (Left g source todo) (Ok g source [] todo) → T s (raising.unwind_past k todo s)
    unwind_past piece.Simple todo h = anew _ _ h
    unwind_past (piece.IsLoop o t e b) todo h = anew _ _ (marks.left g source [] todo h.1)
    unwind_past piece.IsWhole todo h = whole _ todo h
    unwind_past (piece.IsClean c) todo h = scope c _ todo h.0 h.1
    unwind_past (piece.IsFill m b d) todo h = anew _ _ (h.0.1, marks.left g source [] todo h.1)
    unwind_past (piece.IsSweep e) todo h = anew _ _ (h.0, marks.left g source [] todo h.1)
    unwind_past (piece.IsPart c) todo h = anew _ _ (cleans c _ h.0 (marks.left g source [] todo h.1))
    unwind_past (piece.IsGuard hs) todo h = guarded hs s.run.raised todo h.0 h.1
    unwind_past piece.IsFinish todo h = main_left s.run.raised todo h
    unwind_past piece.IsFinishCoroutine todo h = coroutine_left s.run.raised todo h

    pass_on : (o : Option UnwindReason) (c : Active) (cs : List Active) → Left g source c.control × Seated s.env.exec cs c.this → W s.env.exec cs → T s (raising.pass_on o c cs s)
    pass_on None c cs a b = record { run = tt; seat = seat; callers = callers; env = env }
    pass_on (Some why) c cs a b = inl (record { run = (record { marks = []; holds = tt; ok = a.0 }, a.1); callers = b; env = likes env refl refl refl })

    leave_for : (b : Bool) (c : Active) (cs : List Active) → Left g source c.control × Seated s.env.exec cs c.this → W s.env.exec cs → T s (raising.leave_for b c cs s)
    leave_for true c cs a b = record { run = tt; seat = seat; callers = callers; env = env }
    leave_for false c cs a b = pass_on s.run.raised c cs a b

    leaves : (cs : List Active) → W s.env.exec cs → (raising.arrives s.run.raised (length cs) ≡ true → Ends s s.run.control) → T s (raising.leave_step cs s)
    leaves [] c f = record { run = tt; seat = seat; callers = callers; env = env }
    leaves (c ∷ cs) w f =
        tested (T s) (raising.arrives s.run.raised (length (c ∷ cs))) _ _ (λ e. returned s.run.result (c ∷ cs) w (f e)) (leave_for _ c cs (marks.wait_left g source s.env.exec cs c w.0, w.0.1) w.1)

    pub unwinds : (todo : List Todo) → s.run.control ≡ piece.Unwind ∷ todo → Left g source todo → T s (raising.unwind_step todo s)
    unwinds [] e h = leaves s.callers callers (λ a. subst (Ends s) (sym e) a)
    unwinds (x ∷ xs) e h = unwind_past (piece.sort x) xs h

    -- printing

    pub prints : (o : Option (List Piece)) (p : Piece) (todo : List Todo) (vs : List Value) → Ok g source [] todo → T s (piece.print_step o p todo vs s)
    prints None p todo vs h = record { run = record { marks = []; holds = tt; ok = h }; seat = seat; callers = callers; env = env }
    prints (Some ps) p todo vs h = go_in [] _ _ _ tt h (same refl refl refl refl)

    pub flushes : (o : Option (List Piece)) (todo : List Todo) (vs : List Value) → Ok g source [] todo → T s (piece.flush_step o todo vs s)
    flushes None todo vs h = anew _ _ h
    flushes (Some []) todo vs h = go_in [] _ _ _ tt h (same refl refl refl refl)
    flushes (Some (p ∷ ps)) todo vs h = record { run = record { marks = []; holds = tt; ok = h }; seat = seat; callers = callers; env = likes env refl refl refl }

    -- with what is known of the operands
    module _ (ms : List Mark) (holds : H ms s.run.operands) where
      pub one : H (rest ms) (below s.run.operands)
      one = holds_below s.env.exec s.run.frame s.run.this ms s.run.operands holds

      pub two : H (rest (rest ms)) (below (below s.run.operands))
      two = holds_below s.env.exec s.run.frame s.run.this (rest ms) (below s.run.operands) one

      -- expressions

      object : (o : ObjectExpr) (todo : List Todo) → CountedObject source o → Ok g source (Any ∷ ms) todo → T s (quiet.object_step o todo s)
      object src.This todo n h = go (Any ∷ ms) _ _ (tt, holds) h
      object (src.OwnField k i) todo n h = go (Any ∷ ms) _ _ (tt, holds) h
      object (src.GetOwn k i) todo n h = go (Any ∷ ms) _ _ (tt, holds) h
      object (src.FieldOf k i a) todo n h = go ms _ _ holds (n, inl (tt, h))
      object src.Counted todo n h = go (Any ∷ ms) _ _ (tt, holds) h
      object (src.CallOn r a args) todo n h = go ms _ _ holds (n.0, inl (n.1, (tt, inl (called_on (count args) r Any ms todo n.2 h))))
      object (src.CallLive r a args) todo n h = go ms _ _ holds (n.0, inl (n.1, (tt, (tt, inl (called_on (count args) r Any ms todo n.2 h)))))
      object (src.CallUnwritten r a) todo n h = go ms _ _ holds (n.0, inl (inl (called_on 0 r Any ms todo n.1 h)))
      object (src.EnterOn m r a args) todo n h = go ms _ _ holds (n.0, inl (n.1, (tt, (tt, inl (called_on (count args) r Any ms todo n.2 h)))))
      object (src.EndOn r false a) todo n h = go ms _ _ holds (n.0, inl (tt, inl (called_on 0 r Any ms todo n.1 h)))
      object (src.EndOn r true a) todo n h = go ms _ _ holds (n.0, inl (tt, (tt, inl (called_on 0 r Any ms todo n.1 h))))
      object (src.Bind a b) todo n h = go ms _ _ holds (n.0, inl (n.1, inl (tt, h)))
      object (src.MakeOn c r false a args) todo n h = go ms _ _ holds (n.0, inl (n.1, (tt, inl (made_on (count args) r ms todo n.2 h))))
      object (src.MakeOn c r true a args) todo n h = go ms _ _ holds (n.0, inl (n.1, (tt, (tt, inl (made_on (count args) r ms todo n.2 h)))))
      object src.NewCluster todo n h = go ms _ _ holds (tt, h)
      object (src.NewProcessor a) todo n h = go ms _ _ holds (n, inl (tt, h))
      object (src.EndCluster a) todo n h = go ms _ _ holds (n, inl (tt, h))
      object (src.EndProcessor a) todo n h = go ms _ _ holds (n, inl (tt, h))
      object (src.ConditionAt k m a) todo n h = go ms _ _ holds (n, inl (tt, h))
      object (src.Wait a b) todo n h = go ms _ _ holds (n.0, inl (n.1, inl (tt, (tt, h))))
      object (src.Signal a) todo n h = go ms _ _ holds (n, inl (tt, h))
      object (src.SignalBlock a) todo n h = go ms _ _ holds (n, inl (tt, h))
      object (src.IsEmpty a) todo n h = go ms _ _ holds (n, inl (tt, h))
      object (src.FrontOf a) todo n h = go ms _ _ holds (n, inl (tt, h))

      eval : (a : Expr) (todo : List Todo) → CountedExpr source a → Ok g source (Any ∷ ms) todo → T s (quiet.eval_step a todo s)
      eval (src.Literal k) todo n h = go (Any ∷ ms) _ _ (tt, holds) h
      eval (src.Variable k) todo n h = go (Any ∷ ms) _ _ (tt, holds) h
      eval (src.Element m k a i) todo n h = go ms _ _ holds (n.0, inl (n.1, inl (tt, h)))
      eval (src.Get k) todo n h = go (Any ∷ ms) _ _ (tt, holds) h
      eval (src.Load a) todo n h = go ms _ _ holds (n, inl (tt, h))
      eval (src.Negated a) todo n h = go ms _ _ holds (n, inl (tt, h))
      eval (src.Not a) todo n h = go ms _ _ holds (n, inl (tt, h))
      eval (src.AsCharacter a) todo n h = go ms _ _ holds (n, inl (tt, h))
      eval (src.AsTruth a) todo n h = go ms _ _ holds (n, inl (tt, h))
      eval (src.Operate op a b) todo n h = go ms _ _ holds (n.0, inl (n.1, inl (tt, h)))
      eval (src.And a b) todo n h = go ms _ _ holds (n.0, inl ((n.1, tt), h))
      eval (src.Or a b) todo n h = go ms _ _ holds (n.0, inl ((tt, n.1), h))
      eval (src.Set k a) todo n h = go ms _ _ holds (n, inl (tt, h))
      eval (src.Assign p a) todo n h = go ms _ _ holds (n.0, inl (n.1, inl (tt, h)))
      eval (src.First a b) todo n h = go ms _ _ holds (n.0, inl (n.1, inl (tt, h)))
      eval (src.Update op k p a) todo n h = go ms _ _ holds (n.0, inl (tt, (tt, (n.1, inl (tt, converts k (Any ∷ ms) _ (tt, h))))))
      eval (src.StepBehind op k p) todo n h =
          go ms _ _ holds (n, inl (tt, (tt, (tt, (tt, (tt, inl (tt, converts k (Any ∷ (Any ∷ (Any ∷ ms))) _ (tt, (tt, h)))))))))
      eval src.Fail todo n h = record { run = record { marks = ms; holds = holds; ok = h }; seat = seat; callers = callers; env = env }
      eval (src.Call r args) todo n h = go ms _ _ holds (n.0, (tt, (tt, called args r ms todo n.1 h)))
      eval (src.OfObject o) todo n h = object o todo n h

      placed : (e : Expr) (todo : List Todo) → Placed e (λ x. Ok g source (At x ∷ ms) todo) → T s (quiet.eval_step e todo s)
      placed (src.Variable k) todo h = go (At (Var k) ∷ ms) _ _ (refl, holds) h
      placed (src.OfObject (src.OwnField k i)) todo h = go (At (Own k i) ∷ ms) _ _ (refl, holds) h
      placed e todo h = absurd h

      -- a constructor is called at a variable or at a field
      builds : (e : Expr) (todo : List Todo) → CountedExpr source e → AtDrop g source (Builds g e) todo → T s (quiet.eval_step e todo s)
      builds (src.OfObject (src.CallOn r (src.Variable k) args)) todo n h =
          go ms _ _ holds (tt, inr (inr (n.1, (tt, inr (called_at (count args) r (Var k) ms todo n.2 h)))))
      builds (src.OfObject (src.CallOn r (src.OfObject (src.OwnField k i)) args)) todo n h =
          go ms _ _ holds (tt, inr (inr (n.1, (tt, inr (called_at (count args) r (Own k i) ms todo n.2 h)))))
      builds (src.OfObject (src.CallUnwritten r (src.Variable k))) todo n h =
          go ms _ _ holds (tt, inr (inr (inr (called_at 0 r (Var k) ms todo n.1 h))))
      builds (src.OfObject (src.CallUnwritten r (src.OfObject (src.OwnField k i)))) todo n h =
          go ms _ _ holds (tt, inr (inr (inr (called_at 0 r (Own k i) ms todo n.1 h))))
      builds e todo n h = eval e todo n (marks.drop_none g source (Any ∷ ms) todo h)

      pub evals : (e : Expr) (todo : List Todo) → CountedExpr source e → Ok g source (Any ∷ ms) todo ⊎ (AtDrop g source (Builds g e) todo ⊎ Placed e (λ x. Ok g source (At x ∷ ms) todo)) → T s (quiet.eval_step e todo s)
      evals e todo n (inl h) = eval e todo n h
      evals e todo n (inr (inl h)) = builds e todo n h
      evals e todo n (inr (inr h)) = placed e todo h

      -- calls

      begun : (r : Routine) (this : Value) (counts : Bool) (todo : List Todo) (vs : List Value) → CodeBlock g source r.body → NextAt (λ d x. Meets s.env.exec s.run.frame s.run.this (At x) this) todo → Waits g source s.env.exec s.callers (record s.run { control = todo; operands = vs }) → T s (quiet.begun_step r this counts todo vs s)
      begun r this counts todo vs n k w = inl (record { run = (record { marks = []; holds = tt; ok = routine r n }, k); callers = (w, callers); env = likes env refl refl refl })

      waits : (ns : List Mark) (todo : List Todo) (vs : List Value) → H ns vs → Ok g source (Any ∷ ns) todo → Waits g source s.env.exec s.callers (record s.run { control = todo; operands = vs })
      waits ns todo vs k h = (inl (record { marks = ns; holds = k; ok = h }), seat)

      dropped : (n : ℕ) → H (rests n ms) (drop n s.run.operands)
      dropped n = holds_drop s.env.exec s.run.frame s.run.this n ms s.run.operands holds

      dropped_one : (n : ℕ) → H (rests (suc n) ms) (below (drop n s.run.operands))
      dropped_one n = holds_below s.env.exec s.run.frame s.run.this (rests n ms) (drop n s.run.operands) (dropped n)

      pub call : (r : Option Routine) (todo : List Todo) → CodeRoutine g source r → Ok g source (Any ∷ rests (params_at r) ms) todo → T s (quiet.call_step r todo s)
      call None todo n h = ends _ _
      call (Some r) todo n h = either (T s) (nat_lt s.env.links.calls CALLS) _ _ (begun r _ true todo _ n (marks.next_none g source (λ d x. Meets s.env.exec s.run.frame s.run.this (At x) piece.Nothing) _ todo h) (waits (rests r.params ms) todo _ (dropped r.params) h)) (stop Depth todo _)

      -- behind the call of the routine k
      abbrev Calls : ℕ → ℕ → List Todo → Type 0
      Calls k n todo = Ok g source (Any ∷ rests (suc n) ms) todo ⊎ AtDrop g source (CalledBy g k (rests n ms)) todo

      waits_on : (k n : ℕ) (todo : List Todo) → Calls k n todo → Waits g source s.env.exec s.callers (record s.run { control = todo; operands = below (drop n s.run.operands) })
      waits_on k n todo (inl h) = waits (rests (suc n) ms) todo _ (dropped_one n) h
      waits_on k n todo (inr h) = (inr (marks.drop_more g source (CalledBy g k (rests n ms)) Every (λ d i x. tt) todo h), seat)

      -- what is called lies where what opens, or is a part, next does
      lies_on : (k n : ℕ) (todo : List Todo) → Calls k n todo → NextAt (λ d x. Meets s.env.exec s.run.frame s.run.this (At x) (top (drop n s.run.operands))) todo
      lies_on k n todo (inl h) = marks.next_none g source (λ d x. Meets s.env.exec s.run.frame s.run.this (At x) (top (drop n s.run.operands))) _ todo h
      lies_on k n todo (inr h) = marks.next_called g source s.env.exec s.run.frame s.run.this k (rests n ms) (drop n s.run.operands) (dropped n) todo h

      pub call_on : (k : ℕ) (r : Option Routine) (todo : List Todo) → CodeRoutine g source r → Calls k (params_at r) todo → T s (quiet.call_on_step r todo s)
      call_on k None todo n h = ends _ _
      call_on k (Some r) todo n h = either (T s) (nat_lt s.env.links.calls CALLS) _ _ (begun r _ true todo _ n (lies_on k r.params todo h) (waits_on k r.params todo h)) (stop Depth todo _)

      pub call_unwritten : (k : ℕ) (r : Option Routine) (todo : List Todo) → CodeRoutine g source r → Calls k (params_at r) todo → T s (quiet.call_unwritten_step r todo s)
      call_unwritten k None todo n h = ends _ _
      call_unwritten k (Some r) todo n h = begun r _ false todo _ n (lies_on k r.params todo h) (waits_on k r.params todo h)

      pub live : (r : Option Routine) (todo : List Todo) → Ok g source ms todo → T s (quiet.live_step r todo s)
      live None todo h = ends _ _
      live (Some r) todo h = either (T s) (sw.is_live (piece.exec_at (top (drop r.params s.run.operands)) s.env) s.env) _ _ (go ms _ _ holds h) (stop NotLive todo _)

      pub set_up : (r : Option Routine) (todo : List Todo) → CodeRoutine g source r → Ok g source [] todo → T s (quiet.set_up_step r todo s)
      set_up None todo n h = anew _ _ h
      set_up (Some r) todo n h =
          let at_home = quiet.home_at s.run.this s.env in
          let b : K s.env (sw.born at_home (quiet.fresh r s.run.this) s.env) = kept.born_keeps (Runs g source) (Waits g source) calm at_home (quiet.fresh r s.run.this) s.env (λ k. record { run = (record { marks = []; holds = tt; ok = routine r n }, tt); callers = tt }) env in
          go_in [] _ _ _ tt h (kept.keeps_both (Runs g source) (Waits g source) calm b (kept.written_keeps (Runs g source) (Waits g source) calm s.run.this _ _ b.env))

      -- mutex objects

      pub unless : (o : ℕ) (step : Step) (todo : List Todo) → T s step → T s (monitors.unless_held_up o step todo s)
      unless o step todo k = either (T s) (inside.is_held_up o s.env) _ step (stop BlockedInside todo _) k

      enter_at : (d : Option ℕ) (o m : ℕ) (todo : List Todo) → Ok g source ms todo → T s (monitors.enter_at d o m todo s)
      enter_at (Some d) o m todo h = go_in ms _ _ _ holds h (same refl refl refl refl)
      enter_at None o m todo h = record { run = record { marks = ms; holds = holds; ok = h }; seat = seat; callers = callers; env = likes env refl refl refl }

      pub enter : (m : ℕ) (r : Option Routine) (todo : List Todo) → Ok g source ms todo → T s (monitors.enter_step m r todo s)
      enter m None todo h = ends _ _
      enter m (Some r) todo h =
          let o = piece.object_in (top (drop r.params s.run.operands)) in
          either (T s) (monitors.may_call r.written s) _ _ (enter_at (find o s.env.depths) o m todo h) (stop Depth todo _)

      pub leave : (b : Bool) (o : ℕ) (todo : List Todo) → Ok g source ms todo → T s (monitors.leave_at b o todo s)
      leave false o todo h = go_in ms _ _ _ holds h (same refl refl refl refl)
      leave true o todo h =
          unless o _ todo (record { run = record { marks = ms; holds = holds; ok = polled s.run.raised ms todo h }; seat = seat; callers = callers; env = likes env refl refl refl })

      pub make : (c k : ℕ) (r : Option Routine) (todo : List Todo) → Ok g source (anys (suc (params source k)) (rests (suc (params source k)) ms)) todo → T s (monitors.make_step c k r todo s)
      make c k None todo h = ends _ _
      make c k (Some r) todo h =
          either (T s) (monitors.may_call r.written s) _ _ (record { run = record { marks = ms; holds = holds; ok = (tt, h) }; seat = seat; callers = callers; env = likes env refl refl refl }) (stop Depth todo _)

      pub bind : (r : Option Routine) (todo : List Todo) → Ok g source (anys (suc (params_at r)) (rests (suc (params_at r)) (rest ms))) todo → T s (monitors.bind_step r todo s)
      bind None todo h = ends _ _
      bind (Some r) todo h =
          let n = r.params in
          let vs = below s.run.operands in
          let v = top s.run.operands in
          let under : H (rests (suc n) (rest ms)) (drop (suc n) (slice_set vs n v)) = subst (H (rests (suc n) (rest ms))) (sym (drop_set n v vs)) (holds_drop s.env.exec s.run.frame s.run.this (suc n) (rest ms) vs one) in
          go_in (anys (suc n) (rests (suc n) (rest ms))) todo _ _ (holds_anys s.env.exec s.run.frame s.run.this (suc n) (rests (suc n) (rest ms)) (slice_set vs n v) under) h (write _ _)

      pub accept : (mask o site : ℕ) (todo : List Todo) (vs : List Value) → Ok g source [] todo → T s (monitors.accept_by mask o site todo vs s)
      accept zero o site todo vs h = anew _ _ h
      accept (suc mask) o site todo vs h = unless o _ todo (record { run = record { marks = []; holds = tt; ok = (tt, (tt, h)) }; seat = seat; callers = callers; env = env })

      pub failed : (b : Bool) (todo : List Todo) (vs : List Value) → Ok g source [] todo → T s (monitors.failed_step b todo vs s)
      failed true todo vs h = anew _ _ h
      failed false todo vs h = anew _ _ (tt, h)

      -- events elsewhere

      pend : (n : Exec) (e : raising.Event) (todo : List Todo) (vs : List Value) → Ok g source [] todo → T s (polls.pend_step n e todo vs s)
      pend n e todo vs h =
          either (T s) (nat_lt (length (inside.pending_at n s.env)) PENDING_EVENTS) _ _ (go_in [] _ _ _ tt h (kept.links_keeps (Runs g source) (Waits g source) calm (λ l. record l { pending = l.pending ++ (record { event = e.number; x = e.x; y = e.y }) ∷ [] }) n s.env env)) (stop TooManyPending todo vs)

      pend_at : (o : Option Exec) (e : raising.Event) (todo : List Todo) (vs : List Value) → Ok g source [] todo → T s (polls.pend_at o e todo vs s)
      pend_at None e todo vs h = stop NotLive todo vs
      pend_at (Some n) e todo vs h = either (T s) (sw.is_live (Some n) s.env) _ _ (pend n e todo vs h) (stop NotLive todo vs)

      pub raise_at : (v : Value) (e : raising.Event) (todo : List Todo) (vs : List Value) → Ok g source [] todo → T s (polls.raise_at_step v e todo vs s)
      raise_at (Object o) e todo vs h = record { run = record { marks = []; holds = tt; ok = h }; seat = seat; callers = callers; env = env }
      raise_at v e todo vs h = pend_at (piece.exec_at v s.env) e todo vs h

      enabled_in : {e f : Env} → K s.env e → f.exec ≡ e.exec → f.hand ≡ e.hand → f.house ≡ e.house → f.own ≡ e.own → K s.env f
      enabled_in k x h g o = kept.keeps_both _ _ calm k (kept.keeps_like _ _ calm k.env x h g o)

      pub enables : (events cell : ℕ) (todo : List Todo) → Ok g source [] todo → T s (polls.enable_step events cell todo s)
      enables events cell todo h = go_in [] _ _ _ tt h (enabled_in (write (piece.variable_at cell s) (Number (signed_64 s.env.links.enabled))) refl refl refl refl)

      quiet_poll : (o : Option Pending) (todo : List Todo) → Ok g source ms todo → T s (polls.quiet_poll o todo s)
      quiet_poll None todo h = go ms _ _ holds h
      quiet_poll (Some p) todo h = go_in (Any ∷ (Any ∷ (Any ∷ ms))) _ _ _ (tt, (tt, (tt, holds))) (tt, h) (same refl refl refl refl)

      poll_by : (b : Bool) (todo : List Todo) → Ok g source ms todo → T s (polls.poll_by b todo s)
      poll_by true todo h = record { run = record { marks = ms; holds = holds; ok = (tt, h) }; seat = seat; callers = callers; env = env }
      poll_by false todo h = quiet_poll (inside.oldest_enabled s.env.links) todo h

      pub poll : (todo : List Todo) → Ok g source ms todo → T s (polls.poll_step todo s)
      poll todo h = either (T s) (nat_eq s.env.links.enabled 0) _ _ (go ms _ _ holds h) (poll_by (inside.is_own s.env) todo h)

      pub deliver : (v : Value) (todo : List Todo) → Ok g source (rests 3 ms) todo → T s (polls.deliver_step v todo s)
      deliver Nothing todo h = go (rests 3 ms) _ _ (dropped 3) h
      deliver v todo h = go ms _ _ holds (tt, (tt, h))
