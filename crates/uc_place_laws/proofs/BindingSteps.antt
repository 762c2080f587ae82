-- A quiet step of a state in which the places that are bound lie where they are expected leads to one.
use Rattle.std.proofs.Common.{◌≡◌, ℕ, zero, suc, ◌+◌, ◌<◌, ◌⊎◌, inl, inr, ◌++◌, Bool, true, false, ◌&&◌, List, [], ◌∷◌, length, drop, Option, Some, None, refl, sym, ap, ◌∙◌, subst}
use Rattle.std.specs.Prelude.{ℤ, pos, negsuc, nat_eq, nat_lt, slice_set}
use Rattle.std.proofs.lemmas.Bool.{ltb-true}
use Rattle.uc_tree.specs.declared.limits.TheConstants.{CALLS, PENDING_EVENTS}
use Rattle.uc_tree.specs.Source as src
use Rattle.uc_tree.specs.Source.{Shape, Expr, ObjectExpr, Stmt, Stmts, EventStmt, TaskStmt, Routine, Purpose, Order, Way, CleanUp, Handlers, Clauses, Raised, Item, Source}
use Rattle.uc_entry.specs.declared.fault.RunFault.{RunFault}
use Rattle.uc_entry.specs.declared.fault.RunFault.TheVariants.{Index, Depth, BlockedInside, TooManyPending, NotLive, Unhandled}
use Rattle.uc_entry.specs.declared.request.Piece.{Piece}
use Rattle.uc_entry.specs.declared.request.Request.TheVariants as ask
use Rattle.uc_entry.specs.Keyed.{find, signed_64}
use Rattle.uc_machine.specs.declared.exec.Exec.{Exec}
use Rattle.uc_machine.specs.declared.exec.Pending.{Pending}
use Rattle.uc_machine.specs.declared.exec.UnwindReason.{UnwindReason}
use Rattle.uc_machine.specs.declared.exec.UnwindReason.TheVariants as reason
use Rattle.uc_machine.specs.declared.exec.Visited.{Visited}
use Rattle.uc_machine.specs.Executions.{others}
use Rattle.uc_machine.specs.Switches as sw
use Rattle.uc_machine.specs.Switches.{Moved, To, Stops}
use Rattle.uc_machine.specs.Insides as inside
use Rattle.uc_machine.specs.Raising as raising
use Rattle.uc_machine.specs.Raising.{Handler, Found, Hit}
use Rattle.uc_machine.specs.Monitors as monitors
use Rattle.uc_machine.specs.Polls as polls
use Rattle.uc_machine.specs.Quiet as quiet
use Rattle.uc_machine.specs.Pieces as piece
use Rattle.uc_machine.specs.Pieces.{Value, Number, Place, Running, Object, Nothing, Todo, Sort, Active, State, Env, Members, Step, Goes, Ticks, Asks, Outcome, Gives, Faults, at, in_env, goes, fault, asks, turns, top, below, number, this_frame, written, index_in}
use Rattle.uc_state_laws.specs.Ordinary.{OrdinaryMaybe, IsNew, Evaluated}
use Rattle.uc_state_laws.specs.Rooms.{Room}
use Rattle.uc_state_laws.specs.RoomStates.{PieceIn, TodoIn, SomeRoom, IsBefore}
use Rattle.uc_state_laws.specs.Opening.{OpenStmt, OpenEvent, OpenTask}
use Rattle.uc_state_laws.specs.Counted.{params_at, params, count, CountedExpr, CountedObject, CountedMaybe, CountedItem, CountedClean, CountedRaised, CountedAt, CountedStmt, CountedEvent, CountedTask}
use Rattle.uc_place_laws.specs.NamedResting.{AllWait, NamedEnv}
use Rattle.uc_place_laws.specs.Placed.{IsPlace, Mark, Any, Named, Thing, IsMaking, Holds, OfNamed, rest, rests, anys, OpenedBy, Next, NoneNext, Opening, ScopeFor, IsFor, CodeStmt, CodeStmts, CodeHandlers, CodeClauses, CodeRoutine, LeftBy, Ok, Left, Runs, Waits, PlacedState, PlacedStep}
use Rattle.uc_place_laws.proofs.BindingKeeping as kept
use Rattle.uc_place_laws.proofs.BindingKeeping.{either}
use Rattle.uc_place_laws.proofs.BindingMarks as marks
use Rattle.uc_place_laws.proofs.BindingMarks.{holds_below, holds_drop, holds_anys, rests_anys, drop_set, new_place, new_behind, behind_more, none_next, opening, ordinary_opening, ClosedClean, ClosedBy, closed_by, opened_by, bound_scope, made_scope}

module _ (Sized : ℕ → ℕ → Type 0) (source : Source) where
  abbrev E : Env → Type 0
  E e = NamedEnv (Runs Sized source) (Waits Sized source) e

  abbrev W : Exec → List Active → Type 0
  W n cs = AllWait (Runs Sized source) (Waits Sized source) n cs

  pub calm : (n : Exec) (a : Active) (w : Option UnwindReason) → Runs Sized source n a → Runs Sized source n (record a { raised = w })
  calm n a w h = record { marks = h.marks; holds = h.holds; ok = h.ok }

  abbrev K : Env → Env → Type 0
  K e f = kept.Keeps (Runs Sized source) (Waits Sized source) calm e f

  abbrev M : Moved (List Todo) Value → Type 0
  M m = kept.NamedMoved (Runs Sized source) (Waits Sized source) calm m

  pub likes : {e f : Env} → E e → f.hand ≡ e.hand → f.house ≡ e.house → f.own ≡ e.own → E f
  likes h g i o = kept.like (Runs Sized source) (Waits Sized source) calm h g i o

  -- what is to do in a routine

  behind : (p : Purpose) (line : ℕ) → Ok Sized source [] (quiet.behind_body p line)
  behind src.TaskMain line = (tt, (tt, tt))
  behind src.CoroutineMain line = (tt, (tt, tt))
  behind src.Procedure line = (tt, tt)
  behind src.Function line = (tt, (tt, tt))
  behind src.Builder line = tt

  pub routine : (r : Routine) → CodeStmts source r.body → Ok Sized source [] (quiet.routine_todo r)
  routine r h = (h, behind r.purpose r.line)

  -- handlers

  abbrev OfHandler : Option Handler → Type 0
  OfHandler None = Unit {0}
  OfHandler (Some x) = CodeStmts source x.body

  abbrev OfHit : Option Hit → Type 0
  OfHit None = Unit {0}
  OfHit (Some x) = CodeStmts source x.handler.body

  abbrev OfFound : Option Found → Type 0
  OfFound None = Unit {0}
  OfFound (Some x) = CodeStmts source x.handler.body

  handler_for : (kind : Bool) (e : raising.Event) (hs : Handlers) → CodeHandlers source hs → OfHandler (raising.handler_for kind e hs)
  handler_for kind e src.NoHandlers h = tt
  handler_for kind e (src.MoreHandlers resumes event cell line body others) h =
      either OfHandler (raising.same_kind kind resumes && raising.takes event e) (Some (record { cell = cell; line = line; body = body })) (raising.handler_for kind e others) (h.0.0, (None, h.1.0)) (handler_for kind e others (h.0.1, h.1.1))

  hit_or : (x : Option Handler) (n : ℕ) (other : Option Hit) → OfHandler x → OfHit other → OfHit (raising.hit_or x n other)
  hit_or None n other h k = k
  hit_or (Some x) n other h k = h

  -- what is known of a mark that is left
  hit_by : (k : Sort) (n : ℕ) (e : raising.Event) (other : Option Hit) (l o : Type 0) → LeftBy source k l o → OfHit other → OfHit (raising.hit_by k n e other)
  hit_by (piece.IsGuard hs) n e other l o h k = hit_or (raising.handler_for true e hs) n other (handler_for true e hs h.0) k
  hit_by s n e other l o h k = k

  hit_in : (e : raising.Event) (todo : List Todo) → Left Sized source todo → OfHit (raising.hit_in e todo)
  hit_in e [] h = tt
  hit_in e (p ∷ ps) h =
      hit_by (piece.sort p) (raising.count_round ps) e (raising.hit_in e ps) (Left Sized source ps) (Ok Sized source [] ps) h (hit_in e ps (marks.left_tail Sized source p ps h))

  within : (n : ℕ) (todo : List Todo) → Left Sized source todo → Left Sized source (raising.within n todo)
  within n [] h = tt
  within n (p ∷ ps) h =
      either (Left Sized source) (nat_eq (raising.count_round (p ∷ ps)) n) (p ∷ ps) (raising.within n ps) h (within n ps (marks.left_tail Sized source p ps h))

  found_or : (x : Option Hit) (a : Active) (cs : List Active) (other : Option Found) → OfHit x → OfFound other → OfFound (raising.found_or x a cs other)
  found_or None a cs other h k = k
  found_or (Some x) a cs other h k = h

  seek : (v : Option Visited) (e : raising.Event) (cs : List Active) → marks.AllLeft Sized source cs → OfFound (raising.seek v e cs)
  seek None e [] h = tt
  seek (Some v) e [] h = tt
  seek None e (a ∷ cs) h = found_or (raising.hit_in e a.control) a cs (raising.seek a.handles e cs) (hit_in e a.control h.0) (seek a.handles e cs h.1)
  seek (Some v) e (a ∷ cs) h =
      either OfFound (nat_eq (length cs) v.level) (raising.found_or (raising.hit_in e (raising.within v.rest a.control)) a cs (raising.seek a.handles e cs)) (raising.seek (Some v) e cs) (found_or (raising.hit_in e (raising.within v.rest a.control)) a cs (raising.seek a.handles e cs) (hit_in e (raising.within v.rest a.control) (within v.rest a.control h.0)) (seek a.handles e cs h.1)) (seek (Some v) e cs h.1)

  -- to-do lists

  pub starts : (cell : ℕ) (v : Option Expr) (todo : List Todo) → CountedMaybe source v → Ok Sized source [] todo → Ok Sized source [] (quiet.starting cell v todo)
  starts cell None todo n h = h
  starts cell (Some e) todo n h = (tt, tt, inl (n, tt, inl (tt, h)))

  converts : (k : Shape) (ms : List Mark) (todo : List Todo) → Ok Sized source (Any ∷ ms) todo → Ok Sized source (Any ∷ ms) (quiet.converting k todo)
  converts src.Character ms todo h = (tt, h)
  converts src.Truth ms todo h = (tt, h)
  converts k ms todo h = h

  pub stepped : (e : Option Expr) (todo : List Todo) → OrdinaryMaybe e → CountedMaybe source e → Ok Sized source [] todo → Ok Sized source [] (quiet.step_todo e todo)
  stepped None todo q n h = h
  stepped (Some e) todo q n h = (n, ordinary_opening e q (piece.DropNow ∷ todo), inl (tt, h))

  pub tested : (o : Order) (t : Expr) (e : Option Expr) (b : Stmt) (todo : List Todo) → CountedExpr source t → CountedMaybe source e → CodeStmt source b → Ok Sized source [] todo → Ok Sized source [] (quiet.test_todo o t e b todo)
  tested src.TestFirst t e b todo k l m h = (k, tt, inl ((k, l, m), h))
  tested src.BodyFirst t e b todo k l m h = (k, tt, inl ((k, l, m), h))
  tested src.NoTest t e b todo k l m h = ((k, l, m), h)

  looped : (o : Order) (t : Expr) (e : Option Expr) (b : Stmt) (todo : List Todo) → CountedExpr source t → CountedMaybe source e → CodeStmt source b → Ok Sized source [] todo → Ok Sized source [] (quiet.loop_todo o t e b todo)
  looped src.TestFirst t e b todo k l m h = (k, tt, inl ((k, l, m), h))
  looped src.BodyFirst t e b todo k l m h = ((k, l, m), h)
  looped src.NoTest t e b todo k l m h = ((k, l, m), h)

  loop_left : (w : Way) (o : Order) (t : Expr) (e : Option Expr) (b : Stmt) (todo : List Todo) → CountedExpr source t × CountedMaybe source e × CodeStmt source b → Ok Sized source [] todo → Ok Sized source [] (quiet.loop_left w o t e b todo)
  loop_left src.ToBreak o t e b todo n h = h
  loop_left src.ToContinue o t e b todo n h = (n, h)
  loop_left src.ToReturn o t e b todo n h = marks.left Sized source [] todo h
  loop_left src.ToEnd o t e b todo n h = marks.left Sized source [] todo h

  left_behind : (w : Way) (k : Sort) (todo : List Todo) → LeftBy source k (Left Sized source todo) (Ok Sized source [] todo) → Ok Sized source [] (quiet.left_behind w k todo)
  left_behind w piece.Simple todo h = h
  left_behind w (piece.IsLoop o t e b) todo h = loop_left w o t e b todo h.0 h.1
  left_behind w piece.IsWhole todo h = h
  left_behind w (piece.IsClean c) todo h = (h.0, marks.left Sized source [] todo h.1)
  left_behind w (piece.IsFill m b d) todo h = marks.left Sized source [] todo h.1
  left_behind w (piece.IsSweep e) todo h = marks.left Sized source [] todo h.1
  left_behind w (piece.IsPart c) todo h = marks.left Sized source [] todo h.1
  left_behind w (piece.IsGuard hs) todo h = marks.left Sized source [] todo h.1
  left_behind w piece.IsFinish todo h = (tt, h)
  left_behind w piece.IsFinishCoroutine todo h = (tt, h)

  pub filled : (b : Bool) (n : ℕ) (e d : Expr) (todo : List Todo) → CountedExpr source e × CountedExpr source d → Opening e (piece.DropNow ∷ (piece.MoreNow ∷ (piece.FillNow n e d ∷ todo))) → Ok Sized source [] todo → Ok Sized source [] (quiet.fill_todo b n e d todo)
  filled false n e d todo k q h = h
  filled true n e d todo k q h = (k.0, q, inl (tt, (tt, (k, q, h))))

  -- an event is found before it is raised here
  raised : (r : Raised) (todo : List Todo) → CountedRaised source r → Ok Sized source (Any ∷ (Any ∷ (Any ∷ []))) todo → Ok Sized source [] (raising.raised_todo r todo)
  raised (src.Plainly n) todo k h = (tt, tt, inl (tt, tt, inl (tt, opening (src.Literal (pos 0)) tt todo, inl h)))
  raised (src.BuiltAt n c e) todo k h = (tt, (k, tt, inl (tt, (tt, tt, inl (tt, tt, inl (tt, opening (src.Get (c + 1)) tt todo, inl h))))))
  raised (src.AgainFrom c) todo k h = (tt, tt, inl (tt, tt, inl (tt, opening (src.Get (c + 2)) tt todo, inl h)))

  -- and elsewhere
  raised_at : (r : Raised) (line : ℕ) (a : Expr) (todo : List Todo) → CountedAt source r → CountedExpr source a → Ok Sized source [] todo → Ok Sized source [] (raising.raised_todo r (piece.Eval a ∷ (piece.RaiseAtNow ∷ (piece.Within line ∷ todo))))
  raised_at (src.Plainly n) line a todo k l h = (tt, tt, inl (tt, tt, inl (tt, tt, inl (l, tt, inl (tt, (tt, h))))))
  raised_at (src.BuiltAt n c e) line a todo k l h = (tt, (k.1, tt, inl (tt, (tt, tt, inl (tt, tt, inl (tt, tt, inl (l, tt, inl (tt, (tt, h)))))))))
  raised_at (src.AgainFrom c) line a todo k l h = absurd k

  handled : (x : Handler) (todo : List Todo) → CodeStmts source x.body → Ok Sized source [] todo → Ok Sized source [] (raising.handler_todo x todo)
  handled x todo k h = (tt, (tt, (tt, (tt, (tt, (tt, (k, (tt, h))))))))

  pub cleans : (c : CleanUp) (todo : List Todo) → ClosedClean c → CountedClean source c → Ok Sized source [] todo → Ok Sized source [] (piece.clean_todo c todo)
  cleans (src.Destroys e) todo q n h = (n, opening e q (piece.DropNow ∷ todo), inl (tt, h))
  cleans (src.DestroysAll m e) todo q n h = (tt, (n, h))
  cleans src.Unwinds todo q n h = (tt, h)
  cleans src.Forgets todo q n h = (tt, h)
  cleans src.Leaves todo q n h = (tt, h)
  cleans src.Ends todo q n h = (tt, h)
  cleans (src.Frees None) todo q n h = (tt, h)
  cleans (src.Frees (Some r)) todo q n h = (tt, h)
  cleans (src.Restores k) todo q n h = (tt, h)

  left_cleans : (c : CleanUp) (todo : List Todo) → ClosedClean c → CountedClean source c → Ok Sized source [] todo → Ok Sized source [] (raising.left_todo c todo)
  left_cleans (src.Frees r) todo q n h = (tt, h)
  left_cleans c todo q n h = cleans c todo q n h

  pub branch : (k : ℕ) (cs : Clauses) (todo : List Todo) → CodeClauses source cs → NoneNext todo → Ok Sized source [] todo → Ok Sized source [] (monitors.branch_todo k cs todo)
  branch k src.NoClauses todo n z h = h
  branch k (src.Otherwise b) todo n z h = either (Ok Sized source []) (nat_eq k 0) (piece.Do b ∷ todo) todo (n, none_next (OpenedBy b) todo z, h) h
  branch zero (src.MoreClauses guard b cs) todo n z h = branch zero cs todo (n.0.2, n.1.1) z h
  branch (suc zero) (src.MoreClauses guard b cs) todo n z h = ((n.0.1, n.1.0), none_next (OpenedBy b) todo z, h)
  branch (suc (suc k)) (src.MoreClauses guard b cs) todo n z h = branch (suc k) cs todo (n.0.2, n.1.1) z h

  pub item : (i : Item) (todo : List Todo) → CountedItem source i → Ok Sized source [] todo → Ok Sized source [] (quiet.item_todo i todo)
  item (src.Show f e) todo n h = (n, tt, inl (tt, h))
  item (src.ShowText k) todo n h = (tt, h)

  pub item_value : (i : Item) (todo : List Todo) → ((e : Expr) → Opening e todo) → CountedItem source i → ((ms : List Mark) → Ok Sized source ms todo) → Ok Sized source [] (quiet.item_value i todo)
  item_value (src.Show f e) todo q n h = (n, q e, inl (h (Any ∷ [])))
  item_value (src.ShowText k) todo q n h = h []

  pub item_piece : (i : Item) (todo : List Todo) → Ok Sized source [] todo → Ok Sized source [] (quiet.item_piece i ∷ todo)
  item_piece (src.Show f e) todo h = (tt, h)
  item_piece (src.ShowText k) todo h = (tt, h)

  polled : (o : Option UnwindReason) (ms : List Mark) (todo : List Todo) → Ok Sized source ms todo → Ok Sized source ms (monitors.leave_todo o todo)
  polled None ms todo h = (tt, h)
  polled (Some why) ms todo h = h

  -- calls take as many operands as there are arguments

  called : (args : src.Exprs) (r : ℕ) (ms : List Mark) (todo : List Todo) → count args ≡ params source r → Ok Sized source (Any ∷ ms) todo → Ok Sized source (Any ∷ rests (params source r) (anys (count args) ms)) todo
  called args r ms todo e h =
      subst (λ n. Ok Sized source (Any ∷ rests n (anys (count args) ms)) todo) e (subst (λ ns. Ok Sized source (Any ∷ ns) todo) (sym (rests_anys (count args) ms)) h)

  called_on : (n r : ℕ) (ms : List Mark) (todo : List Todo) → n ≡ params source r → Ok Sized source (Any ∷ ms) todo → Ok Sized source (Any ∷ rests (suc (params source r)) (anys n (Any ∷ ms))) todo
  called_on n r ms todo e h =
      subst (λ k. Ok Sized source (Any ∷ rest (rests k (anys n (Any ∷ ms)))) todo) e (subst (λ ns. Ok Sized source (Any ∷ rest ns) todo) (sym (rests_anys n (Any ∷ ms))) h)

  -- a made object takes the place of its place below the arguments
  named_on : (n r : ℕ) (a : Expr) (ms : List Mark) (P : Expr → Type 0) → n ≡ params source r → P a → OfNamed (rests (params source r) (anys n (Named a ∷ ms))) P
  named_on n r a ms P e h =
      subst (λ k. OfNamed (rests k (anys n (Named a ∷ ms))) P) e (subst (λ ns. OfNamed ns P) (sym (rests_anys n (Named a ∷ ms))) h)

  made_on : (n r : ℕ) (m : Mark) (ms : List Mark) (todo : List Todo) → n ≡ params source r → Ok Sized source (Any ∷ ms) todo → Ok Sized source (Any ∷ rests (suc (params source r)) (anys (suc (params source r)) (rests (suc (params source r)) (anys n (m ∷ ms))))) todo
  made_on n r m ms todo e h =
      let k = params source r in
      let below_it : rests (suc k) (anys n (m ∷ ms)) ≡ ms = subst (λ j. rest (rests j (anys n (m ∷ ms))) ≡ ms) e (ap rest (rests_anys n (m ∷ ms))) in
      subst (λ ns. Ok Sized source (Any ∷ ns) todo) (sym (rests_anys (suc k) (rests (suc k) (anys n (m ∷ ms))) ∙ below_it)) h

  -- an index that an array has
  abbrev pub OfIndex : ℕ → Option ℕ → Type 0
  OfIndex n None = Unit {0}
  OfIndex n (Some i) = i < n

  pub index_below : (n : ℕ) (z : ℤ) → OfIndex n (index_in n z)
  index_below n (pos i) = kept.tested (OfIndex n) (nat_lt i n) (Some i) None (λ e. ltb-true i n e) tt
  index_below n (negsuc i) = tt

  module _ (s : State) (callers : W s.env.exec s.callers) (env : E s.env) where
    abbrev H : List Mark → List Value → Type 0
    H ms vs = Holds (this_frame s) s.run.this ms vs

    -- with other operands and something else to do
    pub go : (ns : List Mark) (todo : List Todo) (vs : List Value) → H ns vs → Ok Sized source ns todo → PlacedState Sized source (at todo vs s)
    go ns todo vs k h = record { run = record { marks = ns; holds = k; ok = h }; callers = callers; env = env }

    -- with something to do before which nothing need be known
    pub anew : (todo : List Todo) (vs : List Value) → Ok Sized source [] todo → PlacedState Sized source (at todo vs s)
    anew todo vs h = go [] todo vs tt h

    -- and with something written
    pub go_in : (ns : List Mark) (todo : List Todo) (vs : List Value) (e : Env) → H ns vs → Ok Sized source ns todo → K s.env e → PlacedState Sized source (at todo vs (in_env e s))
    go_in ns todo vs e k h i = kept.with_env (Runs Sized source) (Waits Sized source) calm (at todo vs s) (go ns todo vs k h) i

    pub same : {f : Env} → f.exec ≡ s.env.exec → f.hand ≡ s.env.hand → f.house ≡ s.env.house → f.own ≡ s.env.own → K s.env f
    same x h g o = kept.keeps_like (Runs Sized source) (Waits Sized source) calm env x h g o

    pub stop : (f : RunFault) (todo : List Todo) (vs : List Value) → PlacedStep Sized source (fault f todo vs s)
    stop f todo vs = record { run = tt; callers = callers; env = env }

    ends : (todo : List Todo) (vs : List Value) → PlacedStep Sized source (Asks ask.End (at todo vs s))
    ends todo vs = record { run = tt; callers = callers; env = env }

    pub moved : (m : Moved (List Todo) Value) (todo : List Todo) (vs : List Value) → M m → PlacedStep Sized source (piece.moves m (at todo vs s))
    moved (To t) todo vs m = m
    moved (Stops f) todo vs m = stop f todo vs

    pub write : (p v : Value) → K s.env (written p v s.env)
    write p v = kept.written_keeps (Runs Sized source) (Waits Sized source) calm p v s.env env

    pub outcome : (ms : List Mark) (o : Outcome) (todo : List Todo) (vs : List Value) → H ms vs → Ok Sized source (Any ∷ ms) todo → PlacedStep Sized source (piece.outcome_step o todo vs s)
    outcome ms (Gives n) todo vs k h = go (Any ∷ ms) todo _ (tt, k) h
    outcome ms (Faults f) todo vs k h = stop f todo vs

    -- an element is known by its name or not
    pub element : (n : ℕ) (ms : List Mark) (k : Shape) (i : Option ℕ) (todo : List Todo) (v : Value) (vs : List Value) → OfIndex n i → H ms (v ∷ vs) → Ok Sized source (Any ∷ rest ms) todo ⊎ OfNamed ms (λ e. (x : Expr) × IsPlace e × Ok Sized source (Named (src.Element n k e x) ∷ rest ms) todo) → PlacedStep Sized source (piece.element_step k i todo v vs s)
    element n ms k None todo v vs b l h = stop Index todo vs
    element n ms k (Some i) todo v vs b l (inl h) = go (Any ∷ rest ms) todo _ (tt, holds_below (this_frame s) s.run.this ms (v ∷ vs) l) h
    element n [] k (Some i) todo v vs b l (inr h) = absurd h
    element n (Any ∷ ms) k (Some i) todo v vs b l (inr h) = absurd h
    element n (Thing ∷ ms) k (Some i) todo v vs b l (inr h) = absurd h
    element n (Named e ∷ ms) k (Some i) todo v vs b l (inr h) = go (Named (src.Element n k e h.0) ∷ ms) todo _ ((v, i, b, l.0, refl), l.1) h.2

    pub condition : (ms : List Mark) (k : ℕ) (i : Option ℕ) (todo : List Todo) → H ms (below s.run.operands) → Ok Sized source (Any ∷ ms) todo → PlacedStep Sized source (monitors.condition_step k i todo s)
    condition ms k None todo l h = stop Index todo _
    condition ms k (Some i) todo l h = go (Any ∷ ms) todo _ (tt, l) h

    -- the end of an activation
    pub returned : (given : Value) (cs : List Active) → W s.env.exec cs → PlacedStep Sized source (piece.return_step given cs s)
    returned given [] c = record { run = tt; callers = callers; env = env }
    returned given (a ∷ cs) c = record { run = record { marks = Any ∷ c.0.marks; holds = (tt, c.0.holds); ok = c.0.ok }; callers = c.1; env = likes env refl refl refl }

    past : (v : Visited) (given : Value) (cs : List Active) → W s.env.exec cs → PlacedStep Sized source (raising.return_past v given cs s)
    past v given [] c = record { run = tt; callers = callers; env = env }
    past v given (a ∷ cs) c = record { run = record { marks = []; holds = tt; ok = marks.left Sized source (Any ∷ c.0.marks) a.control c.0.ok }; callers = c.1; env = likes env refl refl refl }

    end_by : (v : Option Visited) (given : Value) → PlacedStep Sized source (raising.end_by v given s)
    end_by None given = returned given s.callers callers
    end_by (Some v) given = past v given s.callers callers

    end_step : (w : Way) → PlacedStep Sized source (quiet.end_step w s)
    end_step src.ToReturn = end_by s.run.handles _
    end_step src.ToEnd = end_by s.run.handles _
    end_step src.ToBreak = returned _ s.callers callers
    end_step src.ToContinue = returned _ s.callers callers

    pub exits : (w : Way) (todo : List Todo) → Left Sized source todo → PlacedStep Sized source (quiet.exit_step w todo s)
    exits w [] h = end_step w
    exits w (p ∷ ps) h = anew _ _ (left_behind w (piece.sort p) ps h)

    -- statements

    pub swept : (n : ℕ) (e : Expr) (todo : List Todo) → CountedExpr source e → Ok Sized source [] todo → PlacedStep Sized source (quiet.sweep_step n e todo s)
    swept zero e todo n h = anew _ _ h
    swept (suc m) e todo n h = record { run = record { marks = []; holds = tt; ok = (n, tt, inl (tt, (n, h))) }; callers = callers; env = env }

    event_step : (a : EventStmt) (todo : List Todo) → CountedEvent source a → OpenEvent a → Ok Sized source [] todo → PlacedStep Sized source (quiet.event_step a todo s)
    event_step (src.Throw line r) todo n q h = anew _ _ (raised r _ n (tt, (tt, h)))
    event_step (src.Raise line r) todo n q h = anew _ _ (raised r _ n (tt, (tt, h)))
    event_step (src.Try line body hs) todo n q h = anew _ _ ((n.0, (None, q.0)), ((n.1, q.1), (tt, h)))
    event_step (src.RaiseAt line r a) todo n q h = anew _ _ (raised_at r line a todo n.0 n.1 h)
    event_step (src.Enable line events cell a) todo n q h = anew _ _ (tt, (tt, ((n, q), tt, (tt, (tt, h)))))
    event_step (src.Disable line events cell a) todo n q h = anew _ _ (tt, ((n, q), tt, (tt, (tt, h))))

    task_step : (a : TaskStmt) (todo : List Todo) → CountedTask source a → OpenTask a → Ok Sized source [] todo → PlacedStep Sized source (quiet.task_step a todo s)
    task_step (src.Resume line) todo n q h = anew _ _ (tt, (tt, (tt, h)))
    task_step (src.Suspend line) todo n q h = anew _ _ (tt, (tt, (tt, h)))
    task_step (src.SetUp r) todo n q h = anew _ _ (tt, h)
    task_step src.Enliven todo n q h = anew _ _ (tt, h)
    task_step src.TakeDown todo n q h = anew _ _ (tt, h)
    task_step (src.Yield line) todo n q h = anew _ _ (tt, (tt, (tt, h)))
    task_step (src.Migrate line a) todo n q h = anew _ _ (n, tt, inl (tt, (tt, h)))
    task_step (src.Accept line site cs) todo n q h = anew _ _ (n, (tt, ((n, q), tt, (tt, h))))

    pub stmt : (a : Stmt) (todo : List Todo) → CountedStmt source a → OpenStmt a → Next (OpenedBy a) todo → Ok Sized source [] todo → PlacedStep Sized source (quiet.stmt_step a todo s)
    stmt (src.Skip line) todo n q d h = anew _ _ h
    stmt (src.Block line body) todo n q d h = anew _ _ ((n, (None, q)), (tt, h))
    stmt (src.Whole line body) todo n q d h = anew _ _ ((n, (None, q)), (tt, (tt, h)))
    stmt (src.Evaluate line a) todo n q d h = anew _ _ (n, d, inl (tt, (tt, h)))
    stmt (src.Declare line ds) todo n q d h = anew _ _ (n, (tt, h))
    stmt (src.Print line items) todo n q d h = anew _ _ (n, (tt, h))
    stmt (src.PrintTogether line items) todo n q d h = anew _ _ (n, (tt, (n, (tt, (tt, h)))))
    stmt (src.Read line ts) todo n q d h = anew _ _ (n, (tt, h))
    stmt (src.If line t a b) todo n q d h = anew _ _ (n.0, tt, inl (((n.1, q.0), (n.2, q.1)), tt, (tt, h)))
    stmt (src.Loop line o t e b) todo n q d h = anew _ _ (looped o t e b _ n.0 n.1 (n.2, q) (tt, h))
    stmt (src.Break line) todo n q d h = anew _ _ (marks.left Sized source [] todo h)
    stmt (src.Continue line) todo n q d h = anew _ _ (marks.left Sized source [] todo h)
    stmt (src.Return line None) todo n q d h = anew _ _ (marks.left Sized source [] todo h)
    stmt (src.Return line (Some e)) todo n q d h = anew _ _ (n, tt, inl (marks.left Sized source [] todo h))
    stmt (src.Owes line) todo n q d h = anew _ _ (tt, (tt, h))
    stmt (src.Fill line m b e) todo n q d h = anew _ _ (tt, (n, d, (tt, h)))
    stmt (src.OfEvents a) todo n q d h = event_step a todo n q h
    stmt (src.OfTasks a) todo n q d h = task_step a todo n q h

    pub rest_of : (ss : Stmts) (todo : List Todo) → CodeStmts source ss → Ok Sized source [] todo → PlacedStep Sized source (quiet.rest_step ss todo s)
    rest_of src.Nil todo n h = anew _ _ h
    rest_of (src.Then a ss) todo n h = anew _ _ ((n.0.0, n.1.1.0), opened_by a ss n.1.1.1, ((n.0.1, (Some a, n.1.1.1)), h))
    rest_of (src.Scoped c ss) todo n h = anew _ _ ((n.0.1, (None, n.1.1.1)), (n.0.0, h))
    rest_of (src.Built c ss) todo n h = anew _ _ ((n.0.1, (None, n.1.1.1)), (n.0.0, h))

    pub land : (o : Option UnwindReason) (ms : List Mark) (todo : List Todo) → H ms s.run.operands → Ok Sized source ms todo → PlacedStep Sized source (quiet.land_step o todo s)
    land None ms todo k h = go ms _ _ k h
    land (Some why) ms todo k h = anew _ _ (marks.left Sized source ms todo h)

    -- events

    throws : (e : raising.Event) (todo : List Todo) → Left Sized source todo → PlacedStep Sized source (raising.throw_step e todo s)
    throws e todo h = record { run = record { marks = []; holds = tt; ok = h }; callers = callers; env = env }

    pub thrown : (e : raising.Event) (todo : List Todo) → Ok Sized source [] todo → PlacedStep Sized source (raising.throw_step e todo s)
    thrown e todo h = throws e todo (marks.left Sized source [] todo h)

    -- the activation that raised goes on without the event
    handles : (ms : List Mark) (f : Option Found) (e : raising.Event) (todo : List Todo) → H ms s.run.operands → OfFound f → Ok Sized source (rests 3 ms) todo → PlacedStep Sized source (raising.handle_step f e todo s)
    handles ms None e todo k n h = throws e todo (marks.left Sized source (rests 3 ms) todo h)
    handles ms (Some f) e todo k n h = record {
      run = record { marks = []; holds = tt; ok = handled f.handler [] n tt };
      callers = (record { marks = rests 3 ms; holds = holds_below (this_frame s) s.run.this (rests 2 ms) _ (holds_below (this_frame s) s.run.this (rests 1 ms) _ (holds_below (this_frame s) s.run.this ms _ k)); ok = (tt, h) }, callers);
      env = likes env refl refl refl;
    }

    pub raises : (ms : List Mark) (e : raising.Event) (todo : List Todo) → H ms s.run.operands → Ok Sized source (rests 3 ms) todo → PlacedStep Sized source (raising.raise_step e todo s)
    raises ms e todo k h =
        let round : List Active = (record s.run { control = todo }) ∷ s.callers in
        handles ms (raising.seek None e round) e todo k (seek None e round (marks.left Sized source (rests 3 ms) todo h, marks.waits_left Sized source s.env.exec s.callers callers)) h

    -- unwinding

    catches : (o : Option Handler) (e : raising.Event) (todo : List Todo) → OfHandler o → Ok Sized source [] todo → PlacedStep Sized source (raising.catch_step o e todo s)
    catches None e todo n h = anew _ _ (marks.left Sized source [] todo h)
    catches (Some x) e todo n h = record { run = record { marks = []; holds = tt; ok = handled x todo n h }; callers = callers; env = env }

    guarded : (hs : Handlers) (o : Option UnwindReason) (todo : List Todo) → CodeHandlers source hs → Ok Sized source [] todo → PlacedStep Sized source (raising.guard_left hs o todo s)
    guarded hs (Some (reason.Event n x y)) todo k h =
        catches _ _ todo (handler_for false (record { number = n; x = x; y = y }) hs k) h
    guarded hs o todo k h = anew _ _ (marks.left Sized source [] todo h)

    whole : (b : Bool) (todo : List Todo) → Ok Sized source [] todo → PlacedStep Sized source (raising.whole_left b todo s)
    whole true todo h = record { run = record { marks = []; holds = tt; ok = h }; callers = callers; env = env }
    whole false todo h = anew _ _ (marks.left Sized source [] todo h)

    scope : (c : CleanUp) (b : Bool) (todo : List Todo) → ClosedClean c → CountedClean source c → Ok Sized source [] todo → PlacedStep Sized source (raising.scope_left c b todo s)
    scope src.Leaves true todo q n h = record { run = record { marks = []; holds = tt; ok = (tt, marks.left Sized source [] todo h) }; callers = callers; env = env }
    scope c b todo q n h = anew (raising.left_todo c (piece.Unwind ∷ todo)) [] (left_cleans c (piece.Unwind ∷ todo) q n (marks.left Sized source [] todo h))

    main_left : (o : Option UnwindReason) (todo : List Todo) → Ok Sized source [] todo → PlacedStep Sized source (raising.main_left o todo s)
    main_left (Some (reason.ReturnTo n)) todo h = record { run = record { marks = []; holds = tt; ok = (tt, h) }; callers = callers; env = env }
    main_left o todo h = stop Unhandled todo []

    coroutine_left : (o : Option UnwindReason) (todo : List Todo) → Ok Sized source [] todo → PlacedStep Sized source (raising.coroutine_left o todo s)
    coroutine_left (Some (reason.ReturnTo n)) todo h = record { run = record { marks = []; holds = tt; ok = (tt, h) }; callers = callers; env = env }
    coroutine_left (Some reason.Destroyed) todo h = moved _ todo _ (kept.taken_down_rests (Runs Sized source) (Waits Sized source) calm (at todo [] s) (anew todo [] h))
    coroutine_left o todo h = moved _ todo _ (kept.escape_rests (Runs Sized source) (Waits Sized source) calm (at todo [] s) (anew todo [] h))

    unwind_past : (k : Sort) (todo : List Todo) → ClosedBy k → LeftBy source k (Left Sized source todo) (Ok Sized source [] todo) → PlacedStep Sized source (raising.unwind_past k todo s)
    unwind_past piece.Simple todo q h = anew _ _ h
    unwind_past (piece.IsLoop o t e b) todo q h = anew _ _ (marks.left Sized source [] todo h.1)
    unwind_past piece.IsWhole todo q h = whole _ todo h
    unwind_past (piece.IsClean c) todo q h = scope c _ todo q h.0 h.1
    unwind_past (piece.IsFill m b d) todo q h = anew _ _ (h.0.1, marks.left Sized source [] todo h.1)
    unwind_past (piece.IsSweep e) todo q h = anew _ _ (h.0, marks.left Sized source [] todo h.1)
    unwind_past (piece.IsPart c) todo q h = anew _ _ (cleans c _ q h.0 (marks.left Sized source [] todo h.1))
    unwind_past (piece.IsGuard hs) todo q h = guarded hs s.run.raised todo h.0 h.1
    unwind_past piece.IsFinish todo q h = main_left s.run.raised todo h
    unwind_past piece.IsFinishCoroutine todo q h = coroutine_left s.run.raised todo h

    pass_on : (o : Option UnwindReason) (c : Active) (cs : List Active) → Left Sized source c.control → W s.env.exec cs → PlacedStep Sized source (raising.pass_on o c cs s)
    pass_on None c cs a b = record { run = tt; callers = callers; env = env }
    pass_on (Some why) c cs a b = record { run = record { marks = []; holds = tt; ok = a }; callers = b; env = likes env refl refl refl }

    leave_for : (b : Bool) (c : Active) (cs : List Active) → Left Sized source c.control → W s.env.exec cs → PlacedStep Sized source (raising.leave_for b c cs s)
    leave_for true c cs a b = record { run = tt; callers = callers; env = env }
    leave_for false c cs a b = pass_on s.run.raised c cs a b

    leaves : (cs : List Active) → W s.env.exec cs → PlacedStep Sized source (raising.leave_step cs s)
    leaves [] c = record { run = tt; callers = callers; env = env }
    leaves (c ∷ cs) p =
        either (PlacedStep Sized source) (raising.arrives s.run.raised (length (c ∷ cs))) _ _ (returned s.run.result (c ∷ cs) p) (leave_for _ c cs (marks.left Sized source (Any ∷ p.0.marks) c.control p.0.ok) p.1)

    pub unwinds : (todo : List Todo) → SomeRoom Sized todo → Left Sized source todo → PlacedStep Sized source (raising.unwind_step todo s)
    unwinds [] room h = leaves s.callers callers
    unwinds (p ∷ ps) room h = unwind_past (piece.sort p) ps (closed_by Sized (piece.sort p) (PieceIn Sized room.0 p) room.0 ps room.1) h

    -- printing

    pub prints : (o : Option (List Piece)) (p : Piece) (todo : List Todo) (vs : List Value) → Ok Sized source [] todo → PlacedStep Sized source (piece.print_step o p todo vs s)
    prints None p todo vs h = record { run = record { marks = []; holds = tt; ok = h }; callers = callers; env = env }
    prints (Some ps) p todo vs h = go_in [] _ _ _ tt h (same refl refl refl refl)

    pub flushes : (o : Option (List Piece)) (todo : List Todo) (vs : List Value) → Ok Sized source [] todo → PlacedStep Sized source (piece.flush_step o todo vs s)
    flushes None todo vs h = anew _ _ h
    flushes (Some []) todo vs h = go_in [] _ _ _ tt h (same refl refl refl refl)
    flushes (Some (p ∷ ps)) todo vs h = record { run = record { marks = []; holds = tt; ok = h }; callers = callers; env = likes env refl refl refl }

    -- with what is known of the operands
    module _ (ms : List Mark) (holds : H ms s.run.operands) where
      pub one : H (rest ms) (below s.run.operands)
      one = holds_below (this_frame s) s.run.this ms s.run.operands holds

      pub two : H (rest (rest ms)) (below (below s.run.operands))
      two = holds_below (this_frame s) s.run.this (rest ms) (below s.run.operands) one

      -- expressions

      -- the piece that makes an object, behind which just one is left that calls its constructor
      made : (p : Todo) (n c r : ℕ) (a : Expr) (todo : List Todo) (o : Room) → IsNew o.low a → TodoIn Sized o todo → ((k : ℕ) → IsBefore Sized k (piece.sort p)) → ScopeFor (Unit {0}) a todo → n ≡ params source r → Ok Sized source (anys (suc (params source r)) (rests (suc (params source r)) (anys n (Named a ∷ ms)))) (p ∷ todo) → Ok Sized source (anys n (Named a ∷ ms)) (piece.MakeNow c r ∷ (p ∷ todo))
      made p n c r a todo o v t f g e h =
          (named_on n r a ms (IsFor Sized (Unit {0}) (p ∷ todo) todo) e (behind_more Sized p a todo f (new_behind Sized o a todo v t), g), h)

      object : (x : ObjectExpr) (todo : List Todo) (o : Room) → Evaluated o.low (src.OfObject x) → Opening (src.OfObject x) todo → TodoIn Sized o todo → CountedObject source x → Ok Sized source (Any ∷ ms) todo → PlacedStep Sized source (quiet.object_step x todo s)
      object src.This todo o v q t n h = go (Any ∷ ms) _ _ (tt, holds) h
      object (src.OwnField k i) todo o v q t n h = go (Any ∷ ms) _ _ (tt, holds) h
      object (src.GetOwn k i) todo o v q t n h = go (Any ∷ ms) _ _ (tt, holds) h
      object (src.FieldOf k i a) todo o v q t n h = go ms _ _ holds (n, tt, inl (tt, h))
      object src.Counted todo o v q t n h = go (Any ∷ ms) _ _ (tt, holds) h
      object (src.CallOn r a args) todo o v q t n h = go ms _ _ holds (n.0, tt, inl (n.1, (tt, (tt, called_on (count args) r ms todo n.2 h))))
      object (src.CallLive r a args) todo o v q t n h = go ms _ _ holds (n.0, tt, inl (n.1, (tt, (tt, (tt, called_on (count args) r ms todo n.2 h)))))
      object (src.CallUnwritten r a) todo o v q t n h = go ms _ _ holds (n.0, tt, inl (tt, called_on 0 r ms todo n.1 h))
      object (src.EnterOn m r a args) todo o v q t n h = go ms _ _ holds (n.0, tt, inl (n.1, (tt, (tt, (tt, called_on (count args) r ms todo n.2 h)))))
      object (src.EndOn r false a) todo o v q t n h = go ms _ _ holds (n.0, tt, inl (tt, (tt, called_on 0 r ms todo n.1 h)))
      object (src.EndOn r true a) todo o v q t n h = go ms _ _ holds (n.0, tt, inl (tt, (tt, (tt, called_on 0 r ms todo n.1 h))))
      object (src.Bind a (src.OfObject src.NewCluster)) todo o v q t n h = go ms _ _ holds (n.0, tt, inr (inl (new_place o.low a v.0, (n.1, tt, inr (inr (tt, ((new_behind Sized o a todo v.0 t, bound_scope a (src.OfObject src.NewCluster) todo q), h, inr tt)))))))
      object (src.Bind a (src.OfObject (src.NewProcessor e))) todo o v q t n h = go ms _ _ holds (n.0, tt, inr (inl (new_place o.low a v.0, (n.1, tt, inr (inr (tt, ((new_behind Sized o a todo v.0 t, bound_scope a (src.OfObject (src.NewProcessor e)) todo q), h, inr tt)))))))
      object (src.Bind a b) todo o v q t n h = go ms _ _ holds (n.0, tt, inr (inl (new_place o.low a v.0, (n.1, tt, inl (((new_behind Sized o a todo v.0 t, bound_scope a b todo q), h, inl v.1.0))))))
      object (src.MakeOn c r false a args) todo o v q t n h = go ms _ _ holds (n.0, tt, inr (inl (new_place o.low a v.0, (n.1, made (piece.CallUnwrittenNow r) (count args) c r a todo o v.0 t (λ k. tt) (made_scope c r false a args todo q) n.2 (tt, made_on (count args) r (Named a) ms todo n.2 h)))))
      object (src.MakeOn c r true a args) todo o v q t n h = go ms _ _ holds (n.0, tt, inr (inl (new_place o.low a v.0, (n.1, (tt, made (piece.CallOnNow r) (count args) c r a todo o v.0 t (λ k. tt) (made_scope c r true a args todo q) n.2 (tt, made_on (count args) r (Named a) ms todo n.2 h))))))
      object src.NewCluster todo o v q t n h = go ms _ _ holds (Any, tt, h)
      object (src.NewProcessor a) todo o v q t n h = go ms _ _ holds (n, tt, inl (Any, tt, h))
      object (src.EndCluster a) todo o v q t n h = go ms _ _ holds (n, tt, inl (tt, h))
      object (src.EndProcessor a) todo o v q t n h = go ms _ _ holds (n, tt, inl (tt, h))
      object (src.ConditionAt k m a) todo o v q t n h = go ms _ _ holds (n, tt, inl (tt, h))
      object (src.Wait a b) todo o v q t n h = go ms _ _ holds (n.0, tt, inl (n.1, tt, inl (tt, (tt, h))))
      object (src.Signal a) todo o v q t n h = go ms _ _ holds (n, tt, inl (tt, h))
      object (src.SignalBlock a) todo o v q t n h = go ms _ _ holds (n, tt, inl (tt, h))
      object (src.IsEmpty a) todo o v q t n h = go ms _ _ holds (n, tt, inl (tt, h))
      object (src.FrontOf a) todo o v q t n h = go ms _ _ holds (n, tt, inl (tt, h))

      eval : (a : Expr) (todo : List Todo) (o : Room) → Evaluated o.low a → Opening a todo → TodoIn Sized o todo → CountedExpr source a → Ok Sized source (Any ∷ ms) todo → PlacedStep Sized source (quiet.eval_step a todo s)
      eval (src.Literal k) todo o v q t n h = go (Any ∷ ms) _ _ (tt, holds) h
      eval (src.Variable k) todo o v q t n h = go (Any ∷ ms) _ _ (tt, holds) h
      eval (src.Element m k a i) todo o v q t n h = go ms _ _ holds (n.0, tt, inl (n.1, tt, inl (inl h)))
      eval (src.Get k) todo o v q t n h = go (Any ∷ ms) _ _ (tt, holds) h
      eval (src.Load a) todo o v q t n h = go ms _ _ holds (n, tt, inl (tt, h))
      eval (src.Negated a) todo o v q t n h = go ms _ _ holds (n, tt, inl (tt, h))
      eval (src.Not a) todo o v q t n h = go ms _ _ holds (n, tt, inl (tt, h))
      eval (src.AsCharacter a) todo o v q t n h = go ms _ _ holds (n, tt, inl (tt, h))
      eval (src.AsTruth a) todo o v q t n h = go ms _ _ holds (n, tt, inl (tt, h))
      eval (src.Operate op a b) todo o v q t n h = go ms _ _ holds (n.0, tt, inl (n.1, tt, inl (tt, h)))
      eval (src.And a b) todo o v q t n h = go ms _ _ holds (n.0, tt, inl ((n.1, tt), h))
      eval (src.Or a b) todo o v q t n h = go ms _ _ holds (n.0, tt, inl ((tt, n.1), h))
      eval (src.Set k a) todo o v q t n h = go ms _ _ holds (n, tt, inl (tt, h))
      eval (src.Assign p a) todo o v q t n h = go ms _ _ holds (n.0, tt, inl (n.1, tt, inl (tt, h)))
      eval (src.First a b) todo o v q t n h = go ms _ _ holds (n.0, tt, inl (n.1, ordinary_opening b v.1 (piece.DropNow ∷ todo), inl (tt, h)))
      eval (src.Update op k p a) todo o v q t n h = go ms _ _ holds (n.0, tt, inl (tt, (tt, (n.1, tt, inl (tt, converts k (Any ∷ ms) _ (tt, h))))))
      eval (src.StepBehind op k p) todo o v q t n h =
          go ms _ _ holds (n, tt, inl (tt, (tt, (tt, (tt, (tt, tt, inl (tt, converts k (Any ∷ (Any ∷ (Any ∷ ms))) _ (tt, (tt, h)))))))))
      eval src.Fail todo o v q t n h = record { run = record { marks = ms; holds = holds; ok = h }; callers = callers; env = env }
      eval (src.Call r args) todo o v q t n h = go ms _ _ holds (n.0, (tt, (tt, called args r ms todo n.1 h)))
      eval (src.OfObject x) todo o v q t n h = object x todo o v q t n h

      place : (e : Expr) (todo : List Todo) → IsPlace e → CountedExpr source e → Ok Sized source (Named e ∷ ms) todo → PlacedStep Sized source (quiet.eval_step e todo s)
      place (src.Variable k) todo p n h = go (Named (src.Variable k) ∷ ms) _ _ (refl, holds) h
      place (src.OfObject (src.OwnField k i)) todo p n h = go (Named (src.OfObject (src.OwnField k i)) ∷ ms) _ _ (refl, holds) h
      place (src.Element m k a i) todo p n h = go ms _ _ holds (n.0, tt, inr (inl (p, (n.1, tt, inl (inr (i, p, h))))))
      place e todo p n h = absurd p

      making : (e : Expr) (todo : List Todo) → IsMaking e → CountedExpr source e → Ok Sized source (Thing ∷ ms) todo → PlacedStep Sized source (quiet.eval_step e todo s)
      making (src.OfObject src.NewCluster) todo p n h = go ms _ _ holds (Thing, tt, h)
      making (src.OfObject (src.NewProcessor a)) todo p n h = go ms _ _ holds (n, tt, inl (Thing, tt, h))
      making e todo p n h = absurd p

      pub evals : (e : Expr) (todo : List Todo) (o : Room) → Evaluated o.low e → Opening e todo → TodoIn Sized o todo → CountedExpr source e → Ok Sized source (Any ∷ ms) todo ⊎ ((IsPlace e × Ok Sized source (Named e ∷ ms) todo) ⊎ (IsMaking e × Ok Sized source (Thing ∷ ms) todo)) → PlacedStep Sized source (quiet.eval_step e todo s)
      evals e todo o v q t n (inl h) = eval e todo o v q t n h
      evals e todo o v q t n (inr (inl h)) = place e todo h.0 n h.1
      evals e todo o v q t n (inr (inr h)) = making e todo h.0 n h.1

      -- calls

      begun : (r : Routine) (this : Value) (counts : Bool) (ns : List Mark) (todo : List Todo) (vs : List Value) → CodeStmts source r.body → H ns vs → Ok Sized source (Any ∷ ns) todo → PlacedStep Sized source (quiet.begun_step r this counts todo vs s)
      begun r this counts ns todo vs n k h = record { run = record { marks = []; holds = tt; ok = routine r n }; callers = (record { marks = ns; holds = k; ok = h }, callers); env = likes env refl refl refl }

      dropped : (n : ℕ) → H (rests n ms) (drop n s.run.operands)
      dropped n = holds_drop (this_frame s) s.run.this n ms s.run.operands holds

      dropped_one : (n : ℕ) → H (rests (suc n) ms) (below (drop n s.run.operands))
      dropped_one n = holds_below (this_frame s) s.run.this (rests n ms) (drop n s.run.operands) (dropped n)

      pub call : (r : Option Routine) (todo : List Todo) → CodeRoutine source r → Ok Sized source (Any ∷ rests (params_at r) ms) todo → PlacedStep Sized source (quiet.call_step r todo s)
      call None todo n h = ends _ _
      call (Some r) todo n h = either (PlacedStep Sized source) (nat_lt s.env.links.calls CALLS) _ _ (begun r _ true (rests r.params ms) todo _ n (dropped r.params) h) (stop Depth todo _)

      pub call_on : (r : Option Routine) (todo : List Todo) → CodeRoutine source r → Ok Sized source (Any ∷ rests (suc (params_at r)) ms) todo → PlacedStep Sized source (quiet.call_on_step r todo s)
      call_on None todo n h = ends _ _
      call_on (Some r) todo n h = either (PlacedStep Sized source) (nat_lt s.env.links.calls CALLS) _ _ (begun r _ true (rests (suc r.params) ms) todo _ n (dropped_one r.params) h) (stop Depth todo _)

      pub call_unwritten : (r : Option Routine) (todo : List Todo) → CodeRoutine source r → Ok Sized source (Any ∷ rests (suc (params_at r)) ms) todo → PlacedStep Sized source (quiet.call_unwritten_step r todo s)
      call_unwritten None todo n h = ends _ _
      call_unwritten (Some r) todo n h = begun r _ false (rests (suc r.params) ms) todo _ n (dropped_one r.params) h

      pub live : (r : Option Routine) (todo : List Todo) → Ok Sized source ms todo → PlacedStep Sized source (quiet.live_step r todo s)
      live None todo h = ends _ _
      live (Some r) todo h = either (PlacedStep Sized source) (sw.is_live (piece.exec_at (top (drop r.params s.run.operands)) s.env) s.env) _ _ (go ms _ _ holds h) (stop NotLive todo _)

      pub set_up : (r : Option Routine) (todo : List Todo) → CodeRoutine source r → Ok Sized source [] todo → PlacedStep Sized source (quiet.set_up_step r todo s)
      set_up None todo n h = anew _ _ h
      set_up (Some r) todo n h =
          let at_home = quiet.home_at s.run.this s.env in
          let b : K s.env (sw.born at_home (quiet.fresh r s.run.this) s.env) = kept.born_keeps (Runs Sized source) (Waits Sized source) calm at_home (quiet.fresh r s.run.this) s.env (λ k. record { run = record { marks = []; holds = tt; ok = routine r n }; callers = tt }) env in
          go_in [] _ _ _ tt h (kept.keeps_both (Runs Sized source) (Waits Sized source) calm b (kept.written_keeps (Runs Sized source) (Waits Sized source) calm s.run.this _ _ b.env))

      -- mutex objects

      pub unless : (o : ℕ) (step : Step) (todo : List Todo) → PlacedStep Sized source step → PlacedStep Sized source (monitors.unless_held_up o step todo s)
      unless o step todo k = either (PlacedStep Sized source) (inside.is_held_up o s.env) _ step (stop BlockedInside todo _) k

      enter_at : (d : Option ℕ) (o m : ℕ) (todo : List Todo) → Ok Sized source ms todo → PlacedStep Sized source (monitors.enter_at d o m todo s)
      enter_at (Some d) o m todo h = go_in ms _ _ _ holds h (same refl refl refl refl)
      enter_at None o m todo h = record { run = record { marks = ms; holds = holds; ok = h }; callers = callers; env = likes env refl refl refl }

      pub enter : (m : ℕ) (r : Option Routine) (todo : List Todo) → Ok Sized source ms todo → PlacedStep Sized source (monitors.enter_step m r todo s)
      enter m None todo h = ends _ _
      enter m (Some r) todo h =
          let o = piece.object_in (top (drop r.params s.run.operands)) in
          either (PlacedStep Sized source) (monitors.may_call r.written s) _ _ (enter_at (find o s.env.depths) o m todo h) (stop Depth todo _)

      pub leave : (b : Bool) (o : ℕ) (todo : List Todo) → Ok Sized source ms todo → PlacedStep Sized source (monitors.leave_at b o todo s)
      leave false o todo h = go_in ms _ _ _ holds h (same refl refl refl refl)
      leave true o todo h =
          unless o _ todo (record { run = record { marks = ms; holds = holds; ok = polled s.run.raised ms todo h }; callers = callers; env = likes env refl refl refl })

      pub make : (c k : ℕ) (r : Option Routine) (todo : List Todo) → OfNamed (rests (params source k) ms) (IsFor Sized (Unit {0}) todo (others todo)) → Ok Sized source (anys (suc (params source k)) (rests (suc (params source k)) ms)) todo → PlacedStep Sized source (monitors.make_step c k r todo s)
      make c k None todo b h = ends _ _
      make c k (Some r) todo b h =
          either (PlacedStep Sized source) (monitors.may_call r.written s) _ _ (record { run = record { first = Thing; told = tt; marks = ms; holds = holds; ok = (b, h, tt) }; callers = callers; env = likes env refl refl refl }) (stop Depth todo _)

      pub bind : (r : Option Routine) (todo : List Todo) → Ok Sized source (anys (suc (params_at r)) (rests (suc (params_at r)) (rest ms))) todo → PlacedStep Sized source (monitors.bind_step r todo s)
      bind None todo h = ends _ _
      bind (Some r) todo h =
          let n = r.params in
          let vs = below s.run.operands in
          let v = top s.run.operands in
          let under : H (rests (suc n) (rest ms)) (drop (suc n) (slice_set vs n v)) = subst (H (rests (suc n) (rest ms))) (sym (drop_set n v vs)) (holds_drop (this_frame s) s.run.this (suc n) (rest ms) vs one) in
          go_in (anys (suc n) (rests (suc n) (rest ms))) todo _ _ (holds_anys (this_frame s) s.run.this (suc n) (rests (suc n) (rest ms)) (slice_set vs n v) under) h (write _ _)

      pub accept : (mask o site : ℕ) (todo : List Todo) (vs : List Value) → Ok Sized source [] todo → PlacedStep Sized source (monitors.accept_by mask o site todo vs s)
      accept zero o site todo vs h = anew _ _ h
      accept (suc mask) o site todo vs h = unless o _ todo (record { run = record { marks = []; holds = tt; ok = (tt, (tt, h)) }; callers = callers; env = env })

      pub failed : (b : Bool) (todo : List Todo) (vs : List Value) → Ok Sized source [] todo → PlacedStep Sized source (monitors.failed_step b todo vs s)
      failed true todo vs h = anew _ _ h
      failed false todo vs h = anew _ _ (tt, h)

      -- events elsewhere

      pend : (n : Exec) (e : raising.Event) (todo : List Todo) (vs : List Value) → Ok Sized source [] todo → PlacedStep Sized source (polls.pend_step n e todo vs s)
      pend n e todo vs h =
          either (PlacedStep Sized source) (nat_lt (length (inside.pending_at n s.env)) PENDING_EVENTS) _ _ (go_in [] _ _ _ tt h (kept.links_keeps (Runs Sized source) (Waits Sized source) calm (λ l. record l { pending = l.pending ++ (record { event = e.number; x = e.x; y = e.y }) ∷ [] }) n s.env env)) (stop TooManyPending todo vs)

      pend_at : (o : Option Exec) (e : raising.Event) (todo : List Todo) (vs : List Value) → Ok Sized source [] todo → PlacedStep Sized source (polls.pend_at o e todo vs s)
      pend_at None e todo vs h = stop NotLive todo vs
      pend_at (Some n) e todo vs h = either (PlacedStep Sized source) (sw.is_live (Some n) s.env) _ _ (pend n e todo vs h) (stop NotLive todo vs)

      pub raise_at : (v : Value) (e : raising.Event) (todo : List Todo) (vs : List Value) → Ok Sized source [] todo → PlacedStep Sized source (polls.raise_at_step v e todo vs s)
      raise_at (Object o) e todo vs h = record { run = record { marks = []; holds = tt; ok = h }; callers = callers; env = env }
      raise_at v e todo vs h = pend_at (piece.exec_at v s.env) e todo vs h

      enabled_in : {e f : Env} (k : K s.env e) → f.exec ≡ e.exec → f.hand ≡ e.hand → f.house ≡ e.house → f.own ≡ e.own → K s.env f
      enabled_in k x h g o = kept.keeps_both (Runs Sized source) (Waits Sized source) calm k (kept.keeps_like (Runs Sized source) (Waits Sized source) calm k.env x h g o)

      pub enables : (events cell : ℕ) (todo : List Todo) → Ok Sized source [] todo → PlacedStep Sized source (polls.enable_step events cell todo s)
      enables events cell todo h = go_in [] _ _ _ tt h (enabled_in (write (piece.variable_at cell s) (Number (signed_64 s.env.links.enabled))) refl refl refl refl)

      quiet_poll : (o : Option Pending) (todo : List Todo) → Ok Sized source ms todo → PlacedStep Sized source (polls.quiet_poll o todo s)
      quiet_poll None todo h = go ms _ _ holds h
      quiet_poll (Some p) todo h = go_in (Any ∷ (Any ∷ (Any ∷ ms))) _ _ _ (tt, (tt, (tt, holds))) (tt, h) (same refl refl refl refl)

      poll_by : (b : Bool) (todo : List Todo) → Ok Sized source ms todo → PlacedStep Sized source (polls.poll_by b todo s)
      poll_by true todo h = record { run = record { marks = ms; holds = holds; ok = (tt, h) }; callers = callers; env = env }
      poll_by false todo h = quiet_poll (inside.oldest_enabled s.env.links) todo h

      pub poll : (todo : List Todo) → Ok Sized source ms todo → PlacedStep Sized source (polls.poll_step todo s)
      poll todo h = either (PlacedStep Sized source) (nat_eq s.env.links.enabled 0) _ _ (go ms _ _ holds h) (poll_by (inside.is_own s.env) todo h)

      pub deliver : (v : Value) (todo : List Todo) → Ok Sized source (rests 3 ms) todo → PlacedStep Sized source (polls.deliver_step v todo s)
      deliver Nothing todo h = go (rests 3 ms) _ _ (dropped 3) h
      deliver v todo h = go ms _ _ holds (tt, (tt, h))
