-- A quiet step of a typed state leads to a typed state.
use Rattle.std.proofs.Common.{◌≡◌, ℕ, zero, suc, ◌<◌, ◌≤◌, List, [], ◌∷◌, length, drop, ℤ, pos, negsuc, inl, inr, Option, Some, None, Bool, true, false, refl, sym, ap, ◌∙◌, subst, arith}
use Rattle.std.specs.Prelude.{nat_eq, nat_lt, if◌then◌else◌, slice_get, slice_set}
use Rattle.uc_tree.specs.Source.{Expr, OfObject, Get, NoExprs, MoreExprs, GetOwn, Clauses, NoClauses, Otherwise, MoreClauses, Item, Show, ShowText, Order, Stmt, Source, Routine}
use Rattle.uc_machine.specs.declared.exec.Owner.TheVariants.{Frame}
use Rattle.uc_machine.specs.Executions.{at_depth, others, values_cleared, take_operands}
use Rattle.uc_machine.specs.declared.exec.Exec.{Exec}
use Rattle.uc_machine.specs.declared.exec.Pending.{Pending}
use Rattle.uc_entry.specs.Keyed.{find, signed_64}
use Rattle.uc_entry.specs.declared.fault.RunFault.TheVariants.{BlockedInside}
use Rattle.uc_tree.specs.declared.limits.TheConstants.{PENDING_EVENTS}
use Rattle.uc_machine.specs.Insides as inside
use Rattle.uc_machine.specs.Raising.{Event, event_in}
use Rattle.uc_machine.specs.declared.exec.UnwindReason.{UnwindReason}
use Rattle.uc_machine.specs.Quiet as q
use Rattle.uc_machine.specs.Quiet.{Value, Number, Place, Running, Object, Nothing, Link, Slot, FieldAt, At, Env, Active, State, Step, Goes, Ticks, Asks, Todo, at, in_env, top, below, number, is_zero, loaded, written, further, address, variable_at, this_frame, nought, index_in, outcome, Outcome, Gives, Faults, LAST_ADDRESS, act, eval_step, object_step, quiet, with_elements, converting, return_step, object_in, as_number, this_object, mask_of}
use Rattle.uc_machine.specs.Pieces as pc
use Rattle.uc_typing.specs.Typing.{Ty, Num, Cell, Obj, Raw, Row, Clu, Pro, Name, Sig, Table, IsRead, IsMain, Yields, GiveAll, Fine, FineItem, FineItems, FineStart, FineStmt, FineLoop, FineClauses}
use Rattle.uc_typing.specs.Pieces.{IsNone, onto, item_tys, nums, Makes, Popped, Ok}
use Rattle.uc_typing.specs.States.{whole, IsAt, IsObject, Is, Values, Framed, IsThis, IsBase, Waits, Typed, IsOfTask, After, ReadsVariable, ReadsPlace, Reads, Idle, Sound}
use Rattle.uc_typing.specs.Laws.{LawTyped, LawNoBinding}
use Rattle.uc_typing.proofs.Frames.{bound_cleared, values_drop, values_set, replaced_onto, KeepsIn, framed_owned, framed_written}
use Rattle.uc_machine.specs.Switches as sw
use Rattle.uc_typing.proofs.Operands.{either, newest, rest_of, next, rest_behind, further_field}
use Rattle.uc_typing.proofs.Control.{left, turn_ok, clean_ok, fill_ok}
use Rattle.uc_typing.proofs.Idle.{written_idle, own_idle, forgotten_ok, born_ok, enlivened_ok, moved, finish_ok, take_down_ok, wake_ok, suspend_ok, fresh_ok, born_frames, enlivened_frames, forgotten_frames, raised_ok as raised_idle, raised_frames}
use Rattle.uc_typing.proofs.Evals.{eval}
use Rattle.uc_typing.proofs.Unwinds.{unwind_ok, throw_ok, raise_ok}
use Rattle.uc_typing.proofs.Steps.{returned_ok, call_ok, call_on_ok, call_unwritten_ok, exits, stmt, rest, outcome_ok, print_ok, flush_ok, element_ok, go, put, behind}

in_if : (b : Bool) (i n j : ℕ) → nat_lt i n ≡ b → (if b then Some i else None) ≡ Some j → j < n
in_if true i n j l e = let l2 : i < n = grind (arith, l) in let f : i ≡ j = cc in subst (λ k. k < n) f l2
in_if false i n j l e = absurd (cc)

in_range : (n : ℕ) (z : ℤ) (j : ℕ) → index_in n z ≡ Some j → j < n
in_range n (pos i) j e = in_if (nat_lt i n) i n j refl e
in_range n (negsuc i) j e = absurd (cc)

-- as many numbers
nums_length : (n : ℕ) → length (nums n) ≡ n
nums_length zero = refl
nums_length (suc n) = ap suc (nums_length n)

module _ (t : Table) (source : Source) (sound : Sound t source) (s : State) (sigs : List Sig) (g : Sig) (base sc : List Name) (frames : Framed t sigs s.env.frames) (frame : at_depth sigs s.run.frame ≡ Some g) (this : IsThis t g.this s.run.this) (callers : Waits t (others sigs) s.callers) (idle : Idle t s.env) (ends : IsBase t g s.run.handles base s.run.frame s.callers) where
  run : (inner : List Name) (own : List Ty) (todo : List Todo) (vs : List Value) → Ok t g base inner todo own → Values t own vs → Typed t [] (at todo vs s)
  run = go t source sound s sigs g base sc frames frame this callers idle ends

  run_in : (inner : List Name) (given own : List Ty) (todo : List Todo) (vs : List Value) (e : Env) (n : ℕ) → Idle t e → Framed t sigs e.frames → Ok t g base inner todo (onto given own) → Values t own vs → Typed t given (at todo vs (in_env e (with_elements n s)))
  run_in = put t source sound s sigs g base sc frames frame this callers idle ends

  -- behind a write
  wrote : (v w : Value) (own : List Ty) (todo : List Todo) (vs : List Value) → Ok t g base sc todo own → Values t own vs → Typed t [] (at todo vs (in_env (written v w s.env) s))
  wrote v w own todo vs o h =
      run_in sc [] own todo vs (written v w s.env) s.run.elements (written_idle t v w s.env idle) (framed_written t sigs v w s.env frames) o h

  -- a change that keeps the parameters of this frame
  cleared_keeps : (k n d : ℕ) → length g.params ≤ k → d ≡ s.run.frame → KeepsIn t sigs (Frame s.env.exec d) (values_cleared k n nought)
  cleared_keeps k n d l e i h vs b =
      let same : Some i ≡ Some g = sym h ∙ (ap (at_depth sigs) e ∙ frame) in
      let q : g ≡ i = cc in
      bound_cleared t i.params vs k n (subst (λ (i : Sig). length i.params ≤ k) q l) b

  choose : (b : Bool) (x y : Expr) (todo : List Todo) (own : List Ty) → Yields t g sc x Num → Yields t g sc y Num → Ok t g base sc todo (Num ∷ own) → Ok t g base sc (pc.Eval (if b then x else y) ∷ todo) own
  choose true x y todo own f k o = (Num, f, o)
  choose false x y todo own f k o = (Num, k, o)

  item_ok : (i : Item) (todo : List Todo) (own : List Ty) → FineItem t g sc i → Ok t g base sc todo own → Ok t g base sc (q.item_todo i todo) own
  item_ok (Show form e) todo own f o = (Num, f, o)
  item_ok (ShowText k) todo own f o = o

  item_value_ok : (i : Item) (is : List Item) (todo : List Todo) (own : List Ty) → FineItem t g sc i → FineItems t g sc is → Ok t g base sc todo (onto (item_tys (i ∷ is)) own) → Ok t g base sc (q.item_value i (pc.Values is ∷ todo)) own
  item_value_ok (Show form e) is todo own f k o = (Num, f, (k, o))
  item_value_ok (ShowText n) is todo own f k o = (k, o)

  -- the last item first
  piece_ok : (i : Item) (is : List Item) (todo : List Todo) (own more : List Ty) → own ≡ onto (item_tys (i ∷ is)) more → Ok t g base sc todo more → Ok t g base sc (pc.Pieces is ∷ (q.item_piece i ∷ todo)) own
  piece_ok (Show form e) is todo own more u o = (Num ∷ more, u, o)
  piece_ok (ShowText k) is todo own more u o = (more, u, o)

  starting_ok : (k : ℕ) (v : Option Expr) (todo : List Todo) (own : List Ty) → FineStart t g sc k v → Ok t g base sc todo own → Ok t g base sc (q.starting k v todo) own
  starting_ok k None todo own f o = o
  starting_ok k (Some e) todo own f o = (Cell Num, (f.0, tt), (Num, f.1, o))

  again_ok : (b : Bool) (o : Order) (e : Expr) (step : Option Expr) (a : Stmt) (todo : List Todo) (own : List Ty) → IsNone own → FineLoop t g sc e step a → Ok t g base sc todo own → Ok t g base sc (if b then todo else pc.TurnNow o e step a ∷ todo) own
  again_ok true o e step a todo own n f k = k
  again_ok false o e step a todo own n f k = (n, f, k)

  branch_ok : (b : Bool) (x y : Stmt) (todo : List Todo) (own : List Ty) → IsNone own → FineStmt t g sc x → FineStmt t g sc y → Ok t g base sc todo own → Ok t g base sc (pc.Do (if b then y else x) ∷ todo) own
  branch_ok true x y todo own n f k o = (n, k, o)
  branch_ok false x y todo own n f k o = (n, f, o)

  sweep_ok : (n : ℕ) (e : Expr) (todo : List Todo) (own : List Ty) → Fine t g sc e → Ok t g base sc todo own → Values t own s.run.operands → After t source (q.sweep_step n e todo s)
  sweep_ok zero e todo own f o h = run sc own todo _ o h
  sweep_ok (suc n) e todo own f o h = run_in sc [] own (pc.Eval e ∷ (pc.DropNow ∷ (pc.Sweep e ∷ todo))) _ s.env n idle frames (f.0, f.1, (f, o)) h

  turned : (own : List Ty) (todo : List Todo) → IsNone own → Ok t g base sc todo own → Ok t g base sc todo []
  turned [] todo n o = o
  turned (a ∷ own) todo n o = absurd n

  -- coroutines
  set_up : (c : Option Routine) (r : ℕ) (todo : List Todo) (own : List Ty) → slice_get source.routines r ≡ c → IsMain t g r → Ok t g base sc todo own → Values t own s.run.operands → After t source (q.set_up_step c todo s)
  set_up None r todo own e m o h = run sc own todo _ o h
  set_up (Some x) r todo own e m o h =
      let f : Idle t (sw.born (q.home_at s.run.this s.env) (q.fresh x s.run.this) s.env) = born_ok t (q.home_at s.run.this s.env) (q.fresh x s.run.this) s.env (fresh_ok t (t.routine r) x s.run.this (sound.routines r x e) m.1 (subst (λ o. IsThis t o s.run.this) (sym m.0) this)) idle in
      run_in sc [] own todo _ _ s.run.elements (written_idle t s.run.this (Running (sw.new_exec (q.home_at s.run.this s.env) s.env)) (sw.born (q.home_at s.run.this s.env) (q.fresh x s.run.this) s.env) f) (framed_written t sigs s.run.this (Running (sw.new_exec (q.home_at s.run.this s.env) s.env)) (sw.born (q.home_at s.run.this s.env) (q.fresh x s.run.this) s.env) (subst (Framed t sigs) (sym (born_frames t (q.home_at s.run.this s.env) (q.fresh x s.run.this) s.env)) frames)) o h

  live : (c : Option Routine) (todo : List Todo) (own : List Ty) → Ok t g base sc todo own → Values t own s.run.operands → After t source (q.live_step c todo s)
  live None todo own o h = idle
  live (Some x) todo own o h = either (After t source) (sw.is_live (pc.exec_at (top (drop x.params s.run.operands)) s.env) s.env) _ _ (run sc own todo _ o h) tt

  land : (why : Option UnwindReason) (todo : List Todo) (own : List Ty) → Ok t g base sc todo own → Values t own s.run.operands → After t source (q.land_step why todo s)
  land None todo own o h = run sc own todo _ o h
  land (Some why) todo own o h = run sc [] (pc.Unwind ∷ todo) [] (left t g base sc todo own o) tt

  -- mutex objects
  held_up : (o : ℕ) (todo : List Todo) (step : Step) → After t source step → After t source (q.unless_held_up o step todo s)
  held_up o todo step h = either (After t source) (inside.is_held_up o s.env) (pc.fault BlockedInside todo s.run.operands s) step tt h

  enter_by : (d : Option ℕ) (o m : ℕ) (todo : List Todo) (own : List Ty) → Ok t g base sc todo own → Values t own s.run.operands → After t source (q.enter_at d o m todo s)
  enter_by (Some d) i m todo own o h = run_in sc [] own todo _ (inside.call_begun i s.env) s.run.elements idle frames o h
  enter_by None i m todo own o h = run_in sc [] own todo _ (inside.call_begun i s.env) s.run.elements idle frames o h

  enters : (m : ℕ) (c : Option Routine) (todo : List Todo) (own : List Ty) → Ok t g base sc todo own → Values t own s.run.operands → After t source (q.enter_step m c todo s)
  enters m None todo own o h = idle
  enters m (Some x) todo own o h =
      either (After t source) (q.may_call x.written s) _ _ (enter_by (find (object_in (top (drop x.params s.run.operands))) s.env.depths) (object_in (top (drop x.params s.run.operands))) m todo own o h) tt

  uncounted : (given : List Ty) (u : State) → Typed t given u → Typed t given (inside.counted_no_more u)
  uncounted given u x = record {
    sigs = x.sigs;
    frames = x.frames;
    run = record { sig = x.run.sig; own = x.run.own; scope = x.run.scope; base = x.run.base; frame = x.run.frame; values = x.run.values; this = x.run.this; ok = x.run.ok; ends = x.run.ends };
    callers = x.callers;
    idle = x.idle;
  }

  left_todo : (why : Option UnwindReason) (todo : List Todo) (own : List Ty) → Ok t g base sc todo own → Ok t g base sc (q.leave_todo why todo) own
  left_todo None todo own o = o
  left_todo (Some why) todo own o = o

  leaves : (b : Bool) (i : ℕ) (todo : List Todo) (own : List Ty) → Ok t g base sc todo own → Values t own s.run.operands → After t source (q.leave_at b i todo s)
  leaves false i todo own o h = run_in sc [] own todo _ (inside.call_ended i s.env) s.run.elements idle frames o h
  leaves true i todo own o h =
      held_up i todo _ (uncounted [] _ (run_in sc [] own (q.leave_todo s.run.raised todo) _ (inside.call_ended i s.env) s.run.elements idle frames (left_todo s.run.raised todo own o) h))

  makes : (n r : ℕ) (x : Option Routine) (todo : List Todo) (own more : List Ty) (c : ℕ) → Makes t n r own more c → Ok t g base sc todo (onto (t.routine r).params (Raw c ∷ more)) → Values t own s.run.operands → After t source (q.make_step n r x todo s)
  makes n r None todo own more c m o h = idle
  makes n r (Some x) todo own more c m o h =
      either (After t source) (q.may_call x.written s) _ _ (c, m.2, m.3, run_in sc (Raw c ∷ []) own (pc.BindMadeNow n r ∷ todo) _ (inside.build_begun s.env) s.run.elements idle frames (more, c, m, refl, o) h) tt

  binds : (n r : ℕ) (x : Option Routine) (todo : List Todo) (d : ℕ) (own more : List Ty) (c : ℕ) → d ≡ c → slice_get source.routines r ≡ x → Makes t n r own more c → Ok t g base sc todo (onto (t.routine r).params (Raw c ∷ more)) → Values t (Raw d ∷ own) s.run.operands → After t source (q.bind_step x todo s)
  binds n r None todo d own more c u e m o h = idle
  binds n r (Some x) todo d own more c u e m o h =
      let i : slice_set own x.params (Raw c) ≡ onto (t.routine r).params (Raw c ∷ more) = ap (λ n. slice_set own n (Raw c)) (sound.routines r x e).params ∙ (ap (λ l. slice_set l (length (t.routine r).params) (Raw c)) m.0 ∙ replaced_onto (t.routine r).params more (Cell (Raw c)) (Raw c)) in
      let v : Values t (slice_set own x.params (Raw c)) (slice_set (below s.run.operands) x.params (top s.run.operands)) = values_set t x.params own (below s.run.operands) (Raw c) (top s.run.operands) (rest_of t (Raw d) own s.run.operands h) (subst (λ d. IsObject t d (top s.run.operands)) u (newest t (Raw d) own s.run.operands h)) in
      wrote (top (drop x.params (below s.run.operands))) (top s.run.operands) (onto (t.routine r).params (Raw c ∷ more)) todo _ o (subst (λ l. Values t l (slice_set (below s.run.operands) x.params (top s.run.operands))) i v)

  condition : (k : ℕ) (i : Option ℕ) (todo : List Todo) (own : List Ty) → Ok t g base sc todo (Num ∷ own) → Values t own (below s.run.operands) → After t source (q.condition_step k i todo s)
  condition k None todo own o h = tt
  condition k (Some i) todo own o h = run sc (Num ∷ own) todo _ o (tt, h)

  accepts : (mask site n : ℕ) (todo : List Todo) (own : List Ty) → Ok t g base sc todo (Num ∷ own) → Values t own (drop n s.run.operands) → After t source (q.accept_by mask (this_object s) site todo (drop n s.run.operands) s)
  accepts zero site n todo own o h = run sc (Num ∷ own) todo _ o (tt, h)
  accepts (suc mask) site n todo own o h =
      held_up (this_object s) todo _ (run_in sc (Num ∷ (Num ∷ [])) own (pc.FailedNow ∷ (pc.PollNow ∷ todo)) _ s.env s.run.elements idle frames o h)

  failed : (b : Bool) (todo : List Todo) (own : List Ty) → Ok t g base sc todo own → Values t own (below s.run.operands) → After t source (q.failed_step b todo (below s.run.operands) s)
  failed true todo own o h = run sc own todo _ o h
  failed false todo own o h = run sc (Num ∷ (Num ∷ (Num ∷ own))) (pc.RaiseNow ∷ todo) _ o (tt, (tt, (tt, h)))

  do_ok : (b : Bool) (a : Stmt) (todo : List Todo) (own : List Ty) → IsNone own → FineStmt t g sc a → Ok t g base sc todo own → Ok t g base sc (if b then pc.Do a ∷ todo else todo) own
  do_ok true a todo own n f o = (n, f, o)
  do_ok false a todo own n f o = o

  chosen_ok : (k : ℕ) (cs : Clauses) (todo : List Todo) (own : List Ty) → IsNone own → FineClauses t g sc cs → Ok t g base sc todo own → Ok t g base sc (q.branch_todo k cs todo) own
  chosen_ok k NoClauses todo own n f o = o
  chosen_ok k (Otherwise b) todo own n f o = do_ok (nat_eq k 0) b todo own n f o
  chosen_ok zero (MoreClauses guard b cs) todo own n f o = chosen_ok zero cs todo own n f.1 o
  chosen_ok (suc zero) (MoreClauses guard b cs) todo own n f o = (n, f.0, o)
  chosen_ok (suc (suc k)) (MoreClauses guard b cs) todo own n f o = chosen_ok (suc k) cs todo own n f.1 o

  -- events at others
  pends : (e : Option Exec) (x : Event) (todo : List Todo) (own : List Ty) (vs : List Value) → Ok t g base sc todo own → Values t own vs → After t source (q.pend_at e x todo vs s)
  pends None x todo own vs o h = tt
  pends (Some n) x todo own vs o h =
      either (After t source) (sw.is_live (Some n) s.env) _ _ (either (After t source) (nat_lt (length (inside.pending_at n s.env)) PENDING_EVENTS) _ _ (run_in sc [] own todo vs _ s.run.elements (raised_idle t n _ s.env idle) (subst (Framed t sigs) (sym (raised_frames t n _ s.env)) frames) o h) tt) tt

  raises : (v : Value) (x : Event) (todo : List Todo) (own : List Ty) (vs : List Value) → Ok t g base sc todo own → Values t own vs → After t source (q.raise_at_step v x todo vs s)
  raises (Object i) x todo own vs o h = run sc own todo vs o h
  raises (Number n) x todo own vs o h = pends (pc.exec_at (Number n) s.env) x todo own vs o h
  raises (Place i p) x todo own vs o h = pends (pc.exec_at (Place i p) s.env) x todo own vs o h
  raises (Running n) x todo own vs o h = pends (pc.exec_at (Running n) s.env) x todo own vs o h
  raises Nothing x todo own vs o h = pends (pc.exec_at Nothing s.env) x todo own vs o h

  enables : (events cell : ℕ) (todo : List Todo) (own : List Ty) → Ok t g base sc todo own → Values t own s.run.operands → After t source (q.enable_step events cell todo s)
  enables events cell todo own o h =
      run_in sc [] own todo _ (inside.with_enabled events (written (variable_at cell s) (Number (signed_64 s.env.links.enabled)) s.env)) s.run.elements (written_idle t (variable_at cell s) (Number (signed_64 s.env.links.enabled)) s.env idle) (framed_written t sigs (variable_at cell s) (Number (signed_64 s.env.links.enabled)) s.env frames) o h

  polled : (p : Option Pending) (todo : List Todo) (own : List Ty) → Ok t g base sc todo own → Values t own s.run.operands → After t source (q.quiet_poll p todo s)
  polled None todo own o h = run sc own todo _ o h
  polled (Some p) todo own o h = run_in sc [] (Num ∷ (Num ∷ (Num ∷ own))) (pc.DeliverNow ∷ todo) _ (inside.without_oldest s.env) s.run.elements idle frames o (tt, (tt, (tt, h)))

  poll_by : (b : Bool) (todo : List Todo) (own : List Ty) → Ok t g base sc todo own → Values t own s.run.operands → After t source (q.poll_by b todo s)
  poll_by true todo own o h = run_in sc (Num ∷ (Num ∷ (Num ∷ []))) own (pc.DeliverNow ∷ todo) _ s.env s.run.elements idle frames o h
  poll_by false todo own o h = polled (inside.oldest_enabled s.env.links) todo own o h

  polls : (todo : List Todo) (own : List Ty) → Ok t g base sc todo own → Values t own s.run.operands → After t source (q.poll_step todo s)
  polls todo own o h = either (After t source) (nat_eq s.env.links.enabled 0) _ _ (run sc own todo _ o h) (poll_by (inside.is_own s.env) todo own o h)

  delivers : (v : Value) (todo : List Todo) (own : List Ty) → Ok t g base sc todo own → Values t own (drop 3 s.run.operands) → Values t (Num ∷ (Num ∷ (Num ∷ own))) s.run.operands → After t source (q.deliver_step v todo s)
  delivers Nothing todo own o r h = run sc own todo _ o r
  delivers (Number n) todo own o r h = run sc (Num ∷ (Num ∷ (Num ∷ own))) _ _ o h
  delivers (Place i p) todo own o r h = run sc (Num ∷ (Num ∷ (Num ∷ own))) _ _ o h
  delivers (Running n) todo own o r h = run sc (Num ∷ (Num ∷ (Num ∷ own))) _ _ o h
  delivers (Object i) todo own o r h = run sc (Num ∷ (Num ∷ (Num ∷ own))) _ _ o h

  acts : (p : Todo) (todo : List Todo) (own : List Ty) → Reads t g sc s (p ∷ todo) own → Ok t g base sc (p ∷ todo) own → Values t own s.run.operands → After t source (act source p todo s)
  acts (pc.Eval e) todo own l o h = eval t source sound s sigs g base sc frames frame this callers idle ends e o.0 todo own l o.1 o.2 h
  acts pc.LoadNow todo (Cell a ∷ own) l o h = run sc (a ∷ own) todo _ o.1 (read o.0, rest_of t (Cell a) own s.run.operands h)
    where
      read : IsRead t a → Is t a (loaded (top s.run.operands) s.env)
      read (inl e) = subst (λ a. Is t a (loaded (top s.run.operands) s.env)) (sym e) tt
      read (inr r) = l.1 r
  acts pc.LoadNow todo _ l o h = absurd o
  acts (pc.ElementNow n k) todo (Num ∷ (Row m a ∷ own)) l o h =
      element_ok t source sound s sigs g base sc frames frame this callers idle ends n (index_in n (number (top s.run.operands))) k a todo (top (below s.run.operands)) own (below (below s.run.operands)) (in_range n (number (top s.run.operands))) o.1 (subst (λ m. IsAt t (Row m (whole a)) (top (below s.run.operands))) o.0 (next t Num (Row m a) own s.run.operands h)) o.2 (rest_behind t Num (Row m a) own s.run.operands h)
  acts (pc.ElementNow n k) todo _ l o h = absurd o
  acts (pc.FieldNow k i) todo (Obj c ∷ own) l o h = run sc (t.fields c i ∷ own) todo _ o.2 (further_field t c i k (top s.run.operands) o.0 o.1 (newest t (Obj c) own s.run.operands h), rest_of t (Obj c) own s.run.operands h)
  acts (pc.FieldNow k i) todo _ l o h = absurd o
  acts pc.NegateNow todo (Num ∷ own) l o h = outcome_ok t source sound s sigs g base sc frames frame this callers idle ends _ todo own (below s.run.operands) o (rest_of t Num own s.run.operands h)
  acts pc.NegateNow todo _ l o h = absurd o
  acts pc.NotNow todo (Num ∷ own) l o h = run sc (Num ∷ own) todo _ o (tt, rest_of t Num own s.run.operands h)
  acts pc.NotNow todo _ l o h = absurd o
  acts pc.CharacterNow todo (Num ∷ own) l o h = run sc (Num ∷ own) todo _ o (tt, rest_of t Num own s.run.operands h)
  acts pc.CharacterNow todo _ l o h = absurd o
  acts pc.TruthNow todo (Num ∷ own) l o h = run sc (Num ∷ own) todo _ o (tt, rest_of t Num own s.run.operands h)
  acts pc.TruthNow todo _ l o h = absurd o
  acts (pc.OperateNow op) todo (Num ∷ (Num ∷ own)) l o h = outcome_ok t source sound s sigs g base sc frames frame this callers idle ends _ todo own (below (below s.run.operands)) o (rest_behind t Num Num own s.run.operands h)
  acts (pc.OperateNow op) todo _ l o h = absurd o
  acts pc.CopyNow todo (a ∷ own) l o h = run sc (a ∷ (a ∷ own)) todo _ o (newest t a own s.run.operands h, h)
  acts pc.CopyNow todo _ l o h = absurd o
  acts pc.CopyBelowNow todo (a ∷ (b ∷ own)) l o h = run sc (b ∷ (a ∷ (b ∷ own))) todo _ o (next t a b own s.run.operands h, h)
  acts pc.CopyBelowNow todo _ l o h = absurd o
  acts pc.DropNow todo (a ∷ own) l o h = run sc own todo _ o (rest_of t a own s.run.operands h)
  acts pc.DropNow todo _ l o h = absurd o
  acts pc.DropBelowNow todo (a ∷ (b ∷ own)) l o h = run sc (a ∷ own) todo _ o (newest t a (b ∷ own) s.run.operands h, rest_behind t a b own s.run.operands h)
  acts pc.DropBelowNow todo _ l o h = absurd o
  acts pc.StoreNow todo (Num ∷ (Cell Num ∷ own)) l o h = wrote (top (below s.run.operands)) (Number (number (top s.run.operands))) own todo _ o (rest_behind t Num (Cell Num) own s.run.operands h)
  acts pc.StoreNow todo _ l o h = absurd o
  acts pc.KeepNow todo (Num ∷ (Cell Num ∷ own)) l o h = wrote (top (below s.run.operands)) (Number (number (top s.run.operands))) (Num ∷ own) todo _ o (tt, rest_behind t Num (Cell Num) own s.run.operands h)
  acts pc.KeepNow todo _ l o h = absurd o
  acts (pc.SetNow k) todo (Num ∷ own) l o h = wrote (variable_at k s) (Number (number (top s.run.operands))) (Num ∷ own) todo _ o h
  acts (pc.SetNow k) todo _ l o h = absurd o
  acts pc.BindNow todo (a ∷ (Cell b ∷ own)) l o h = wrote (top (below s.run.operands)) (top s.run.operands) (a ∷ own) todo _ o.1 (newest t a (Cell b ∷ own) s.run.operands h, rest_behind t a (Cell b) own s.run.operands h)
  acts pc.BindNow todo _ l o h = absurd o
  acts (pc.Choose a b) todo (Num ∷ own) l o h = run sc own _ _ (choose (is_zero (number (top s.run.operands))) b a todo own o.1 o.0 o.2) (rest_of t Num own s.run.operands h)
  acts (pc.Choose a b) todo _ l o h = absurd o
  acts (pc.Branch a b) todo (Num ∷ own) l o h = run sc own _ _ (branch_ok (is_zero (number (top s.run.operands))) a b todo own o.0 o.1 o.2 o.3) (rest_of t Num own s.run.operands h)
  acts (pc.Branch a b) todo _ l o h = absurd o
  acts (pc.Arguments NoExprs) todo own l o h = none o.0 o.1 o.2
    where
      none : (ps : List Ty) → GiveAll t g sc NoExprs ps → Ok t g base sc todo (onto ps own) → Typed t [] (at todo s.run.operands s)
      none [] f o = run sc own todo _ o h
      none (a ∷ more) f o = absurd f
  acts (pc.Arguments (MoreExprs e es)) todo own l o h = some o.0 o.1 o.2
    where
      some : (ps : List Ty) → GiveAll t g sc (MoreExprs e es) ps → Ok t g base sc todo (onto ps own) → Typed t [] (at (pc.Eval e ∷ (pc.Arguments es ∷ todo)) s.run.operands s)
      some [] f o = absurd f
      some (a ∷ more) f o = run sc own _ _ (a, f.0, (more, f.1, o)) h
  acts pc.TickNow todo own l o h = run sc own todo _ o h
  acts (pc.CallNow r) todo own l o h = call_ok t source sound s sigs g base sc frames frame this callers idle ends r (slice_get source.routines r) own o.0 todo refl o.1 o.2 o.4 h
  acts (pc.CallOnNow r) todo own l o h = call_on_ok t source sound s sigs g base sc frames frame this callers idle ends r (slice_get source.routines r) own o.0 o.1 todo refl o.2.0 o.2.1 o.3 h
  acts (pc.CallUnwrittenNow r) todo own l o h = call_unwritten_ok t source sound s sigs g base sc frames frame this callers idle ends r (slice_get source.routines r) own o.0 o.1 todo refl o.2.0 o.2.1 o.3 h
  acts (pc.CountNow n) todo own l o h = run_in sc [] own todo _ s.env n idle frames o h
  acts pc.MoreNow todo own l o h = run_in sc [] own todo _ s.env _ idle frames o h
  acts (pc.FillNow n b d) todo own l o h = run sc own _ _ (fill_ok t g base sc (nat_lt s.run.elements n) n b d todo own o.0 o.1 o.2) h
  acts (pc.TurnNow d e step b) todo own l o h = run sc own _ _ (o.0, o.1.2, (o.0, o.1, turned own todo o.0 o.2)) h
  acts (pc.Again d e step b) todo (Num ∷ own) l o h = run sc own _ _ (again_ok (is_zero (number (top s.run.operands))) d e step b todo own o.0 o.1 o.2) (rest_of t Num own s.run.operands h)
  acts (pc.Again d e step b) todo _ l o h = absurd o
  acts (pc.PrintNow form) todo (Num ∷ own) l o h = print_ok t source sound s sigs g base sc frames frame this callers idle ends s.env.gathered _ todo own (below s.run.operands) o (rest_of t Num own s.run.operands h)
  acts (pc.PrintNow form) todo _ l o h = absurd o
  acts (pc.TextNow k) todo own l o h = print_ok t source sound s sigs g base sc frames frame this callers idle ends s.env.gathered _ todo own s.run.operands o h
  acts pc.GatherNow todo own l o h = run_in sc [] own todo _ (record s.env { gathered = Some [] }) s.run.elements idle frames o h
  acts pc.FlushNow todo own l o h = flush_ok t source sound s sigs g base sc frames frame this callers idle ends s.env.gathered todo own s.run.operands o h
  acts (pc.ReadNow form) todo own l o h = run_in sc (Num ∷ []) own todo _ s.env s.run.elements idle frames o h
  acts (pc.ClearNow k n) todo own l o h =
      run_in sc [] own todo _ (pc.cleared k n s) s.run.elements (own_idle t s.run.frame (values_cleared k n nought) s.env idle) (framed_owned t sigs (this_frame s) (values_cleared k n nought) s.env (cleared_keeps k n s.run.frame o.0 refl) frames) o.1 h
  acts (pc.Items []) todo own l o h = run sc own todo _ o.1 h
  acts (pc.Items (i ∷ is)) todo own l o h = run sc own _ _ (item_ok i (pc.Items is ∷ todo) own o.0.0 (o.0.1, o.1)) h
  acts (pc.Values []) todo own l o h = run sc own todo _ o.1 h
  acts (pc.Values (i ∷ is)) todo own l o h = run sc own _ _ (item_value_ok i is todo own o.0.0 o.0.1 o.1) h
  acts (pc.Pieces []) todo own l o h = run sc own todo _ (subst (Ok t g base sc todo) (sym o.1) o.2) h
  acts (pc.Pieces (i ∷ is)) todo own l o h = run sc own _ _ (piece_ok i is todo own o.0 o.1 o.2) h
  acts (pc.Targets []) todo own l o h = run sc own todo _ o.1 h
  acts (pc.Targets (x ∷ xs)) todo own l o h = run sc own _ _ (Cell Num, o.0.0, (o.0.1, o.1)) h
  acts (pc.Variables []) todo own l o h = run sc own todo _ o.1 h
  acts (pc.Variables (d ∷ ds)) todo own l o h = run sc own _ _ (o.0.0, starting_ok d.cell d.value (pc.Variables ds ∷ todo) own o.0.1 (o.0.2, o.1)) h
  acts (pc.Do a) todo own l o h = stmt t source sound s sigs g base sc frames frame this callers idle ends a todo own o.0 o.1 o.2 h
  acts (pc.Rest a) todo own l o h = rest t source sound s sigs g base sc frames frame this callers idle ends a todo own o.0 o.1 o.2 h
  acts (pc.Within line) todo own l o h = run sc own todo _ o.1 h
  acts (pc.Exit w) todo own l o h = exits t source sound s sigs g base sc frames frame this callers idle ends w todo own o.0 o.1 h
  acts pc.NoReturnNow todo own l o h = tt
  acts (pc.InLoop d e step b) todo [] l o h = run sc [] _ _ (turn_ok t g base sc d e step b todo o.1 o.2) h
  acts (pc.InLoop d e step b) todo (a ∷ own) l o h = absurd o.0
  acts pc.InWhole todo [] l o h = run sc [] todo _ o.2 h
  acts pc.InWhole todo (a ∷ own) l o h = absurd o.0
  acts (pc.Clean c) todo own l o h = popped sc o.0
    where
      popped : (sc : List Name) → Popped t g c sc (λ sc. Ok t g base sc todo own) → Typed t [] (at (pc.clean_todo c todo) s.run.operands s)
      popped [] o = absurd o
      popped (y ∷ sc) o = run sc own _ _ (clean_ok t g base sc c todo own o.1 o.2) h
  acts (pc.Sweep e) todo own l o h = sweep_ok s.run.elements e todo own o.0 o.1 h
  acts (pc.Part c) todo own l o h = run sc own todo _ o.1 h
  acts (pc.Guard hs) todo [] l o h = run sc [] todo _ o.2 h
  acts (pc.Guard hs) todo (a ∷ own) l o h = absurd o.0
  acts pc.Unwind todo own l o h = unwind_ok t source s sigs g base sc frames frame this callers idle ends todo o
  acts pc.ThrowNow todo (a ∷ (b ∷ (c ∷ own))) l o h = throw_ok t source s sigs g base sc frames frame this callers idle ends _ todo (left t g base sc todo own o)
  acts pc.ThrowNow todo _ l o h = absurd o
  acts pc.RaiseNow todo (a ∷ (b ∷ (c ∷ own))) l o h = raise_ok t source s sigs g base sc frames frame this callers idle ends _ todo own o (rest_of t c own (below (below s.run.operands)) (rest_behind t a b (c ∷ own) s.run.operands h))
  acts pc.RaiseNow todo _ l o h = absurd o
  acts pc.Finish todo own l o h = held_up s.env.own todo (return_step nought s.callers s) (returned_ok t source nought s sigs s.callers idle frames callers)
  acts (pc.SetUpNow r) todo own l o h = set_up (slice_get source.routines r) r todo own refl o.0 o.2 h
  acts pc.EnlivenNow todo own l o h =
      run_in sc [] own todo _ _ s.run.elements (enlivened_ok t (pc.own_exec s) s.env idle) (subst (Framed t sigs) (sym (enlivened_frames t (pc.own_exec s) s.env)) frames) o.1 h
  acts pc.ForgetNow todo own l o h =
      run_in sc [] own todo _ _ s.run.elements (forgotten_ok t (pc.own_exec s) s.env idle) (subst (Framed t sigs) (sym (forgotten_frames t (pc.own_exec s) s.env)) frames) o.1 h
  acts pc.TakeDownNow todo own l o h = moved t source _ _ (take_down_ok t (pc.own_exec s) (at todo s.run.operands s) (run sc own todo s.run.operands o.1 h))
  acts (pc.LiveNow r) todo own l o h = live (slice_get source.routines r) todo own o.3 h
  acts pc.ResumeNow todo own l o h = moved t source _ _ (wake_ok t (q.resumed s) (at (pc.Land ∷ todo) s.run.operands s) (run sc own (pc.Land ∷ todo) s.run.operands o.1 h))
  acts pc.SuspendNow todo own l o h = moved t source _ _ (suspend_ok t (at (pc.Land ∷ todo) s.run.operands s) (run sc own (pc.Land ∷ todo) s.run.operands o h))
  acts pc.Land todo own l o h = land s.run.raised todo own o h
  acts pc.FinishCoroutine todo own l o h = moved t source _ _ (finish_ok t (at todo s.run.operands s) idle)
  acts (pc.EnterNow m r) todo own l o h = enters m (slice_get source.routines r) todo own o.4 h
  acts pc.LeaveNow todo own l o h = leaves (inside.is_last (find (this_object s) s.env.depths)) (this_object s) todo own o.1 h
  acts (pc.MakeNow n r) todo own l o h = makes n r (slice_get source.routines r) todo own o.0 o.1 o.2 o.3 h
  acts (pc.BindMadeNow n r) todo (Raw d ∷ own) l o h = binds n r (slice_get source.routines r) todo d own o.0 o.1 o.3 refl o.2 o.4 h
  acts (pc.BindMadeNow n r) todo _ l o h = absurd o
  acts pc.MadeNow todo own l o h = held_up (this_object s) todo _ (run_in sc [] own todo _ (inside.build_ended (this_object s) s.env) s.run.elements idle frames o.1 h)
  acts (pc.SpawnNow r) todo own l o h =
      held_up (this_object s) (pc.ChildNow r ∷ todo) _ ((subst (IsOfTask t) (sym (o.0.0 ∙ o.1.1)) o.1.2, o.0.1, o.0.2), run_in sc [] own (pc.ChildNow r ∷ todo) _ (inside.build_ended (this_object s) s.env) s.run.elements idle frames o h)
  acts (pc.ChildNow r) todo own l o h = run sc own todo _ o.2 h
  acts pc.GoneNow todo own l o h = run_in sc [] own todo _ (inside.call_gone (this_object s) s.env) s.run.elements idle frames o.1 h
  acts pc.GiveUpNow todo own l o h = run_in sc [] own todo _ (inside.build_ended (this_object s) s.env) s.run.elements idle frames o.1 h
  acts pc.ClusterNow todo own l o h = run_in sc (Clu ∷ []) own todo _ s.env s.run.elements idle frames o h
  acts pc.ProcessorNow todo (Clu ∷ own) l o h = run_in sc (Pro ∷ []) own todo _ s.env s.run.elements idle frames o (rest_of t Clu own s.run.operands h)
  acts pc.ProcessorNow todo _ l o h = absurd o
  acts pc.ClusterEndNow todo (Clu ∷ own) l o h = run_in sc [] (Num ∷ own) todo _ s.env s.run.elements idle frames o (tt, rest_of t Clu own s.run.operands h)
  acts pc.ClusterEndNow todo _ l o h = absurd o
  acts pc.ProcessorEndNow todo (Pro ∷ own) l o h = run_in sc [] (Num ∷ own) todo _ s.env s.run.elements idle frames o (tt, rest_of t Pro own s.run.operands h)
  acts pc.ProcessorEndNow todo _ l o h = absurd o
  acts (pc.ConditionNow k n) todo (Num ∷ own) l o h = condition k (index_in n (number (top s.run.operands))) todo own o (rest_of t Num own s.run.operands h)
  acts (pc.ConditionNow k n) todo _ l o h = absurd o
  acts pc.WaitNow todo (Num ∷ (Num ∷ own)) l o h =
      held_up (this_object s) todo _ (run_in sc [] (Num ∷ own) todo _ s.env s.run.elements idle frames o.1 (tt, rest_behind t Num Num own s.run.operands h))
  acts pc.WaitNow todo _ l o h = absurd o
  acts pc.SignalNow todo (Num ∷ own) l o h = run_in sc [] (Num ∷ own) todo _ s.env s.run.elements idle frames o.1 (tt, rest_of t Num own s.run.operands h)
  acts pc.SignalNow todo _ l o h = absurd o
  acts pc.SignalBlockNow todo (Num ∷ own) l o h =
      held_up (this_object s) todo _ (run_in sc [] (Num ∷ own) todo _ s.env s.run.elements idle frames o.1 (tt, rest_of t Num own s.run.operands h))
  acts pc.SignalBlockNow todo _ l o h = absurd o
  acts pc.EmptyNow todo (Num ∷ own) l o h = run_in sc (Num ∷ []) own todo _ s.env s.run.elements idle frames o.1 (rest_of t Num own s.run.operands h)
  acts pc.EmptyNow todo _ l o h = absurd o
  acts pc.FrontNow todo (Num ∷ own) l o h = run_in sc (Num ∷ []) own todo _ s.env s.run.elements idle frames o.1 (rest_of t Num own s.run.operands h)
  acts pc.FrontNow todo _ l o h = absurd o
  acts pc.YieldNow todo own l o h = run sc own todo _ o h
  acts pc.MigrateNow todo (Clu ∷ own) l o h = run_in sc [] own todo _ s.env s.run.elements idle frames o (rest_of t Clu own s.run.operands h)
  acts pc.MigrateNow todo _ l o h = absurd o
  acts (pc.Guards NoClauses) todo own l o h = run sc own todo _ o.1 h
  acts (pc.Guards (Otherwise b)) todo own l o h = run sc own todo _ o.1 h
  acts (pc.Guards (MoreClauses guard b cs)) todo own l o h = run sc own _ _ (Num, o.0.0, (o.0.1, o.1)) h
  acts (pc.AcceptNow site n) todo own l o h =
      accepts (mask_of (take_operands Nothing n s.run.operands [])) site n todo o.0 o.3 (behind t source sound s sigs g base sc frames frame this callers idle ends (nums n) o.0 n (sym (nums_length n)) (subst (λ l. Values t l s.run.operands) o.1 h))
  acts pc.FailedNow todo (Num ∷ own) l o h = failed (is_zero (number (top s.run.operands))) todo own o (rest_of t Num own s.run.operands h)
  acts pc.FailedNow todo _ l o h = absurd o
  acts (pc.ChooseNow cs) todo (Num ∷ own) l o h =
      run sc own _ _ (chosen_ok (as_number (number (top s.run.operands))) cs todo own o.0 o.1 o.2) (rest_of t Num own s.run.operands h)
  acts (pc.ChooseNow cs) todo _ l o h = absurd o
  acts pc.RaiseAtNow todo (Obj c ∷ (a ∷ (b ∷ (d ∷ own)))) l o h =
      raises (top s.run.operands) (event_in (below s.run.operands)) todo own (drop 4 s.run.operands) o.1 (values_drop t 4 (Obj c ∷ (a ∷ (b ∷ (d ∷ own)))) s.run.operands h)
  acts pc.RaiseAtNow todo _ l o h = absurd o
  acts (pc.EnableNow events cell) todo own l o h = enables (inside.enabled_more s.env.links.enabled events) cell todo own o h
  acts (pc.DisableNow events cell) todo own l o h = enables (inside.enabled_less s.env.links.enabled events) cell todo own o h
  acts (pc.RestoreNow cell) todo own l o h = run_in sc [] own todo _ (inside.with_enabled (inside.events_in (number (loaded (variable_at cell s) s.env))) s.env) s.run.elements idle frames o h
  acts pc.PollNow todo own l o h = polls todo own o h
  acts pc.DeliverNow todo (Num ∷ (Num ∷ (Num ∷ own))) l o h =
      delivers (top (drop 2 s.run.operands)) todo own o (values_drop t 3 (Num ∷ (Num ∷ (Num ∷ own))) s.run.operands h) h
  acts pc.DeliverNow todo _ l o h = absurd o

  todos : (todo : List Todo) (own : List Ty) → Reads t g sc s todo own → Ok t g base sc todo own → Values t own s.run.operands → After t source (q.act_todo source todo s)
  todos [] own l o h = returned_ok t source nought s sigs s.callers idle frames callers
  todos (p ∷ todo) own l o h = acts p todo own l o h

pub keeps : LawTyped
keeps t source sound s x l =
    todos t source sound s x.sigs x.run.sig x.run.base x.run.scope x.frames x.run.frame x.run.this x.callers x.idle x.run.ends s.run.control x.run.own l x.run.ok x.run.values

-- where no other bindings are read nothing is asked of what is read
module _ (t : Table) (none : t.refers ≡ false) where
  no_reference : {A : Type 0} → t.refers ≡ true → A
  no_reference e = let f : false ≡ true = sym none ∙ e in absurd (cc)

  no_variable : (sc : List Name) (s : State) (todo : List Todo) → ReadsVariable t sc s todo
  no_variable sc s [] = tt
  no_variable sc s (pc.Eval (Get k) ∷ todo) = λ e. no_reference e
  no_variable sc s (pc.Eval e ∷ todo) = tt
  no_variable sc s (_ ∷ todo) = tt

  no_own : (g : Sig) (s : State) (e : Expr) (todo : List Todo) (own : List Ty) → ReadsPlace t g s (pc.Eval e ∷ todo) own
  no_own g s (OfObject (GetOwn k i)) todo own = λ e. no_reference e
  no_own g s (OfObject _) todo own = tt
  no_own g s _ todo own = tt

  no_place : (g : Sig) (s : State) (todo : List Todo) (own : List Ty) → ReadsPlace t g s todo own
  no_place g s [] own = tt
  no_place g s (pc.LoadNow ∷ todo) (Cell a ∷ own) = λ e. no_reference e
  no_place g s (pc.LoadNow ∷ todo) _ = tt
  no_place g s (pc.Eval e ∷ todo) own = no_own g s e todo own
  no_place g s (_ ∷ todo) own = tt

pub no_binding : LawNoBinding
no_binding t none s x = (x, (no_variable t none x.run.scope s s.run.control, no_place t none x.run.sig s s.run.control x.run.own))
