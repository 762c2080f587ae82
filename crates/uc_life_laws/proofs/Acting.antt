-- A quiet step of a state in which all is known leads to one.
use Rattle.std.proofs.Common.{◌≡◌, ℕ, zero, suc, ◌<◌, ◌≤◌, List, [], ◌∷◌, length, drop, ℤ, pos, negsuc, inl, Option, Some, None, Bool, true, false, refl, sym, ap, ◌∙◌, subst, arith}
use Rattle.std.specs.Prelude.{nat_eq, nat_lt, if◌then◌else◌, slice_get, slice_set}
use Rattle.uc_tree.specs.declared.limits.TheConstants.{PENDING_EVENTS}
use Rattle.uc_tree.specs.Source.{Expr, NoExprs, MoreExprs, Clauses, NoClauses, Otherwise, MoreClauses, Item, Show, ShowText, Order, Stmt, Source, Routine}
use Rattle.uc_entry.specs.Keyed.{find, signed_64}
use Rattle.uc_entry.specs.declared.fault.RunFault.TheVariants.{BlockedInside}
use Rattle.uc_machine.specs.declared.exec.Exec.{Exec}
use Rattle.uc_machine.specs.declared.exec.Pending.{Pending}
use Rattle.uc_machine.specs.declared.exec.UnwindReason.{UnwindReason}
use Rattle.uc_machine.specs.Executions.{at_depth, others, members_at, values_cleared, take_operands, frame_changed, frames_changed, change}
use Rattle.uc_machine.specs.Insides as inside
use Rattle.uc_machine.specs.Raising.{Event, event_in}
use Rattle.uc_machine.specs.Switches as sw
use Rattle.uc_machine.specs.Quiet as q
use Rattle.uc_machine.specs.Quiet.{Value, Number, Place, Running, Object, Nothing, Env, Members, State, Step, Todo, at, in_env, top, below, number, is_zero, loaded, written, variable_at, nought, index_in, with_elements, object_in, as_number, this_object, mask_of}
use Rattle.uc_machine.specs.Pieces as pc
use Rattle.uc_typing.specs.Typing.{Ty, Num, Cell, Obj, Raw, Row, Clu, Pro, Name, Sig, Table, object_ty, IsMain, IsTarget, Yields, GiveAll, Fine, FineItem, FineItems, FineStart, FineStmt, FineLoop, FineClauses}
use Rattle.uc_typing.specs.Pieces.{AreNumbers, IsNone, onto, item_tys, nums, CallsOn, Makes, Popped, Ok}
use Rattle.uc_typing.specs.States.{IsNumbered, IsObjectBy, IsBase, IsOfTask, Sound}
use Rattle.uc_typing.proofs.Frames.{replaced_onto}
use Rattle.uc_typing.proofs.Control.{left, turn_ok, clean_ok, fill_ok}
use Rattle.uc_life_laws.specs.Things.{Few, IsFew, Known, LiesIn, Base}
use Rattle.uc_life_laws.specs.Knowing.{AtHand, KnownAll, KnownFrames, KnownThis, KnowsWaits, ClaimsEx, ClaimsEnv, StepBy, VariablesKnown, Finds, IsStill}
use Rattle.uc_life_laws.specs.Kinds.{Stays, IsKept, BeginsAt, Turned, stays, begins, goes_back, no_sig, Parks, GoesOn, FollowsOn, Claimed, KeepsClaims, IsTold, LawKinds}
use Rattle.uc_life_laws.proofs.Parked.{Ex}
use Rattle.uc_life_laws.proofs.Cells.{either}
use Rattle.uc_life_laws.proofs.Knowns.{kept_tracked, told_declared, newest, rest_of, next, rest_behind, values_drop, values_set, further_field, frames_cleared, lies_more}
use Rattle.uc_life_laws.proofs.LifeSteps.{exec_same}
use Rattle.uc_life_laws.proofs.Parking as parking
use Rattle.uc_life_laws.proofs.Parking.{Keeps, frames_run, like, keeps_like}
use Rattle.uc_life_laws.proofs.Going as going
use Rattle.uc_life_laws.proofs.Going.{With}
use Rattle.uc_life_laws.proofs.Returning.{returned_knows}
use Rattle.uc_life_laws.proofs.Unwinding as unwinding
use Rattle.uc_life_laws.proofs.Unwinding.{moved}
use Rattle.uc_life_laws.proofs.Calls as calls
use Rattle.uc_life_laws.proofs.Evaluating as evaluating

in_if : (b : Bool) (i n j : ℕ) → nat_lt i n ≡ b → (if b then Some i else None) ≡ Some j → j < n
in_if true i n j l e = let l2 : i < n = grind (arith, l) in let f : i ≡ j = cc in subst (λ k. k < n) f l2
in_if false i n j l e = absurd (cc)

in_range : (n : ℕ) (z : ℤ) (j : ℕ) → index_in n z ≡ Some j → j < n
in_range n (pos i) j e = in_if (nat_lt i n) i n j refl e
in_range n (negsuc i) j e = absurd (cc)

-- as many numbers
nums_length : (n : ℕ) → length (nums n) ≡ n
nums_length zero = refl
nums_length (suc n) = ap suc (nums_length n)

none_numbers : (own : List Ty) → IsNone own → AreNumbers own
none_numbers [] n = tt
none_numbers (a ∷ own) n = absurd n

module _ (t : Table) (few : Few) (n : Exec) (K : Value → Ty → Type 0) where
  -- what is known by its number passes the test
  number_few : (a : Ty) (v : Value) → IsNumbered v → IsFew t few n a v → few.numbers a (object_in v) ≡ true
  number_few a (Number z) i f = absurd i
  number_few a (Place o l) i f = absurd i
  number_few a (Running x) i f = absurd i
  number_few a (Object o) i f = f
  number_few a Nothing i f = absurd i

  object_few : (b : Bool) (c : ℕ) (v : Value) → t.mutex c ≡ true → Known t few n K (object_ty b c) v → few.numbers (object_ty b c) (object_in v) ≡ true
  object_few true c v m h = number_few (Raw c) v (subst (λ b. IsObjectBy t b c v) m h.is) h.passes
  object_few false c v m h = number_few (Obj c) v (subst (λ b. IsObjectBy t b c v) m h.is) h.passes

-- to-do lists stay in order as pieces are taken apart, as in the law of typing
module _ (t : Table) (g : Sig) (base sc : List Name) where
  choose : (b : Bool) (x y : Expr) (todo : List Todo) (own : List Ty) → Yields t g sc x Num → Yields t g sc y Num → Ok t g base sc todo (Num ∷ own) → Ok t g base sc (pc.Eval (if b then x else y) ∷ todo) own
  choose true x y todo own f k o = (Num, f, o)
  choose false x y todo own f k o = (Num, k, o)

  item_ok : (i : Item) (todo : List Todo) (own : List Ty) → FineItem t g sc i → Ok t g base sc todo own → Ok t g base sc (q.item_todo i todo) own
  item_ok (Show form e) todo own f o = (Num, f, o)
  item_ok (ShowText k) todo own f o = o

  item_value_ok : (i : Item) (is : List Item) (todo : List Todo) (own : List Ty) → FineItem t g sc i → FineItems t g sc is → Ok t g base sc todo (onto (item_tys (i ∷ is)) own) → Ok t g base sc (q.item_value i (pc.Values is ∷ todo)) own
  item_value_ok (Show form e) is todo own f k o = (Num, f, (k, o))
  item_value_ok (ShowText n) is todo own f k o = (k, o)

  -- the last item first
  piece_ok : (i : Item) (is : List Item) (todo : List Todo) (own more : List Ty) → own ≡ onto (item_tys (i ∷ is)) more → Ok t g base sc todo more → Ok t g base sc (pc.Pieces is ∷ (q.item_piece i ∷ todo)) own
  piece_ok (Show form e) is todo own more u o = (Num ∷ more, u, o)
  piece_ok (ShowText k) is todo own more u o = (more, u, o)

  starting_ok : (k : ℕ) (v : Option Expr) (todo : List Todo) (own : List Ty) → FineStart t g sc k v → Ok t g base sc todo own → Ok t g base sc (q.starting k v todo) own
  starting_ok k None todo own f o = o
  starting_ok k (Some e) todo own f o = (Cell Num, (f.0, tt), (Num, f.1, o))

  again_ok : (b : Bool) (o : Order) (e : Expr) (step : Option Expr) (a : Stmt) (todo : List Todo) (own : List Ty) → IsNone own → FineLoop t g sc e step a → Ok t g base sc todo own → Ok t g base sc (if b then todo else pc.TurnNow o e step a ∷ todo) own
  again_ok true o e step a todo own n f k = k
  again_ok false o e step a todo own n f k = (n, f, k)

  branch_ok : (b : Bool) (x y : Stmt) (todo : List Todo) (own : List Ty) → IsNone own → FineStmt t g sc x → FineStmt t g sc y → Ok t g base sc todo own → Ok t g base sc (pc.Do (if b then y else x) ∷ todo) own
  branch_ok true x y todo own n f k o = (n, k, o)
  branch_ok false x y todo own n f k o = (n, f, o)

  do_ok : (b : Bool) (a : Stmt) (todo : List Todo) (own : List Ty) → IsNone own → FineStmt t g sc a → Ok t g base sc todo own → Ok t g base sc (if b then pc.Do a ∷ todo else todo) own
  do_ok true a todo own n f o = (n, f, o)
  do_ok false a todo own n f o = o

  chosen_ok : (k : ℕ) (cs : Clauses) (todo : List Todo) (own : List Ty) → IsNone own → FineClauses t g sc cs → Ok t g base sc todo own → Ok t g base sc (q.branch_todo k cs todo) own
  chosen_ok k NoClauses todo own n f o = o
  chosen_ok k (Otherwise b) todo own n f o = do_ok (nat_eq k 0) b todo own n f o
  chosen_ok zero (MoreClauses guard b cs) todo own n f o = chosen_ok zero cs todo own n f.1 o
  chosen_ok (suc zero) (MoreClauses guard b cs) todo own n f o = (n, f.0, o)
  chosen_ok (suc (suc k)) (MoreClauses guard b cs) todo own n f o = chosen_ok (suc k) cs todo own n f.1 o

  left_todo : (why : Option UnwindReason) (todo : List Todo) (own : List Ty) → Ok t g base sc todo own → Ok t g base sc (q.leave_todo why todo) own
  left_todo None todo own o = o
  left_todo (Some why) todo own o = o

  turned : (own : List Ty) (todo : List Todo) → IsNone own → Ok t g base sc todo own → Ok t g base sc todo []
  turned [] todo n o = o
  turned (a ∷ own) todo n o = absurd n

module _ (t : Table) (few : Few) (Q : Exec → List Sig → Ex → Type 0) (kept : IsKept Q) (source : Source) (sound : Sound t source) (s : State) (sigs : List Sig) (st : VariablesKnown t few sigs s) (g : Sig) (base sc : List Name) (frames : KnownFrames t few s.env.exec sigs s.env.frames (s.run ∷ s.callers)) (frame : at_depth sigs s.run.frame ≡ Some g) (this : KnownThis t few s.env.exec (AtHand t few s.env.exec (others sigs) s.callers) g g.this s.run.this) (callers : KnowsWaits t few s.env.exec (others sigs) s.callers) (env : ClaimsEnv t few Q s.env) (ends : IsBase t g s.run.handles base s.run.frame s.callers) where
  abbrev After : Step → Type 0
  After x = StepBy t few (FollowsOn Q t few source s sigs) (ClaimsEnv t few Q) source x

  -- of operands, what is known to a state with this to do
  abbrev All : List Todo → List Ty → List Value → Type 0
  All todo own vs = KnownAll t few s.env.exec (With t few s sigs todo) own vs

  numbers : (own : List Ty) (vs : List Value) (l m : List Todo) → AreNumbers own → All l own vs → All m own vs
  numbers [] [] l m n h = tt
  numbers [] (v ∷ vs) l m n h = absurd h
  numbers (Num ∷ own) [] l m n h = absurd h
  numbers (Num ∷ own) (v ∷ vs) l m n h = (tt, numbers own vs l m n h.1)
  numbers (Cell a ∷ own) vs l m n h = absurd n
  numbers (Obj c ∷ own) vs l m n h = absurd n
  numbers (Raw c ∷ own) vs l m n h = absurd n
  numbers (Row k a ∷ own) vs l m n h = absurd n
  numbers (Clu ∷ own) vs l m n h = absurd n
  numbers (Pro ∷ own) vs l m n h = absurd n

  run : (inner : List Name) (own : List Ty) (todo : List Todo) (vs : List Value) → Ok t g base inner todo own → All todo own vs → FollowsOn Q t few source s sigs [] (at todo vs s)
  run = going.go t few Q kept source s sigs g base frames frame this callers env ends

  run_in : (inner : List Name) (given own : List Ty) (todo : List Todo) (vs : List Value) (e : Env) (n : ℕ) → Keeps t few Q kept s.env e → Ok t g base inner todo (onto given own) → All todo own vs → FollowsOn Q t few source s sigs given (at todo vs (in_env e (with_elements n s)))
  run_in = going.put t few Q kept source s sigs g base frames frame this callers env ends

  -- where nothing is changed that holds anything
  run_like : (given own : List Ty) (todo : List Todo) (vs : List Value) (e : Env) (n : ℕ) → e.exec ≡ s.env.exec → e.frames ≡ s.env.frames → e.hand ≡ s.env.hand → e.house ≡ s.env.house → e.own ≡ s.env.own → Ok t g base sc todo (onto given own) → All todo own vs → FollowsOn Q t few source s sigs given (at todo vs (in_env e (with_elements n s)))
  run_like given own todo vs e n x f d u w o h = run_in sc given own todo vs e n (keeps_like t few Q kept env x f d u w) o h

  asks : (given own : List Ty) (todo : List Todo) (vs : List Value) → Ok t g base sc todo (onto given own) → All todo own vs → FollowsOn Q t few source s sigs given (at todo vs s)
  asks given own todo vs o h = run_like given own todo vs s.env s.run.elements refl refl refl refl refl o h

  -- behind a write
  wrote : (v w : Value) (own : List Ty) (todo : List Todo) (vs : List Value) → Stays Q s.env.exec v w → Ok t g base sc todo own → All todo own vs → FollowsOn Q t few source s sigs [] (at todo vs (in_env (written v w s.env) s))
  wrote v w own todo vs lasts o h = run_in sc [] own todo vs (written v w s.env) s.run.elements (parking.written_keeps t few Q kept v w s.env lasts env) o h

  -- cells behind the parameters start anew
  clears : (k m : ℕ) (todo : List Todo) (own : List Ty) → length g.params ≤ k → Ok t g base sc todo own → All todo own s.run.operands → FollowsOn Q t few source s sigs [] (at todo s.run.operands (in_env (pc.cleared k m s) s))
  clears k m todo own l o h =
      subst (λ (b : Bool). FollowsOn Q t few source s sigs [] (at todo s.run.operands (in_env (if b then record s.env { frames = frame_changed s.run.frame (values_cleared k m nought) s.env.frames } else change s.env.exec.home (frames_changed s.env.exec.serial (frame_changed s.run.frame (values_cleared k m nought))) s.env) s))) (sym (exec_same s.env.exec)) (
        record {
          sigs = sigs;
          frames = frames_run t few s.env.exec sigs _ s.run _ s.callers (frames_cleared t few s.env.exec s.run.frame k m g l sigs s.env.frames (s.run ∷ s.callers) frame frames);
          run = record { sig = g; own = own; scope = sc; base = base; frame = frame; values = h; this = this; ok = o; ends = ends };
          callers = callers;
          env = like t few Q kept env refl refl refl;
        },
        stays refl refl refl refl refl,
      )

  -- operands that are known before pieces that are no marks
  item_all : (i : Item) (todo : List Todo) (own : List Ty) (vs : List Value) → All todo own vs → All (q.item_todo i todo) own vs
  item_all (Show form e) todo own vs h = h
  item_all (ShowText k) todo own vs h = h

  item_value_all : (i : Item) (todo : List Todo) (own : List Ty) (vs : List Value) → All todo own vs → All (q.item_value i todo) own vs
  item_value_all (Show form e) todo own vs h = h
  item_value_all (ShowText k) todo own vs h = h

  piece_all : (i : Item) (todo : List Todo) (own : List Ty) (vs : List Value) → All todo own vs → All (q.item_piece i ∷ todo) own vs
  piece_all (Show form e) todo own vs h = h
  piece_all (ShowText k) todo own vs h = h

  starting_all : (k : ℕ) (v : Option Expr) (todo : List Todo) (own : List Ty) (vs : List Value) → All todo own vs → All (q.starting k v todo) own vs
  starting_all k None todo own vs h = h
  starting_all k (Some e) todo own vs h = h

  fill_all : (b : Bool) (n : ℕ) (e d : Expr) (todo : List Todo) (own : List Ty) (vs : List Value) → All todo own vs → All (q.fill_todo b n e d todo) own vs
  fill_all true n e d todo own vs h = h
  fill_all false n e d todo own vs h = h

  left_all : (why : Option UnwindReason) (todo : List Todo) (own : List Ty) (vs : List Value) → All todo own vs → All (q.leave_todo why todo) own vs
  left_all None todo own vs h = h
  left_all (Some why) todo own vs h = h

  sweep : (n : ℕ) (e : Expr) (todo : List Todo) (own : List Ty) → Fine t g sc e → Ok t g base sc todo own → All todo own s.run.operands → After (q.sweep_step n e todo s)
  sweep zero e todo own f o h = run sc own todo _ o h
  sweep (suc n) e todo own f o h =
      run_like [] own (pc.Eval e ∷ (pc.DropNow ∷ (pc.Sweep e ∷ todo))) _ s.env n refl refl refl refl refl (f.0, f.1, (f, o)) h

  -- coroutines
  set_up : (c : Option Routine) (r : ℕ) (todo : List Todo) (own : List Ty) → slice_get source.routines r ≡ c → ((m : Members) → members_at (q.home_at s.run.this s.env) s.env ≡ Some m → IsStill t few sigs g sc s × ((c : ℕ) → g.this ≡ Some c → LiesIn t few (sw.new_exec (q.home_at s.run.this s.env) s.env) (Base few (sw.new_exec (q.home_at s.run.this s.env) s.env)) (Obj c) s.run.this)) → IsMain t g r → Ok t g base sc todo own → All todo own s.run.operands → ((x : Routine) → c ≡ Some x → Q (sw.new_exec (q.home_at s.run.this s.env) s.env) (t.routine r ∷ []) (q.fresh x s.run.this) × Stays Q s.env.exec s.run.this (Running (sw.new_exec (q.home_at s.run.this s.env) s.env))) → After (q.set_up_step c todo s)
  set_up None r todo own e l m o h parks = run sc own todo _ o h
  set_up (Some x) r todo own e l m o h parks =
      let n = sw.new_exec (q.home_at s.run.this s.env) s.env in
      let known : (h : Members) → members_at (q.home_at s.run.this s.env) s.env ≡ Some h → ClaimsEx t few Q n (q.fresh x s.run.this) = λ h at. parking.fresh_knows t few Q kept n (t.routine r) x s.run.this (sound.routines r x e) m.1 (parking.this_apart t few Q kept s.env.exec n (AtHand t few s.env.exec (others sigs) s.callers) (AtHand t few n [] []) g (t.routine r) s.run.this m.0 this (l h at).0 (λ c q. lies_more t few n (Base few n) (AtHand t few n [] []) (λ w a b. inl b) (Obj c) s.run.this ((l h at).1 c q))) (parks x refl).0 in
      let born : Keeps t few Q kept s.env (sw.born (q.home_at s.run.this s.env) (q.fresh x s.run.this) s.env) = parking.born_keeps t few Q kept (q.home_at s.run.this s.env) (q.fresh x s.run.this) s.env known env in
      run_in sc [] own todo _ _ s.run.elements (parking.keeps_both t few Q kept born (parking.written_keeps t few Q kept s.run.this (Running n) _ (subst (λ m. Stays Q m s.run.this (Running n)) (sym born.exec) (parks x refl).1) born.env)) o h

  live : (c : Option Routine) (todo : List Todo) (own : List Ty) → Ok t g base sc todo own → All todo own s.run.operands → After (q.live_step c todo s)
  live None todo own o h = (tt, env)
  live (Some x) todo own o h = either After (sw.is_live (pc.exec_at (top (drop x.params s.run.operands)) s.env) s.env) _ _ (run sc own todo _ o h) (tt, tt)

  land : (why : Option UnwindReason) (todo : List Todo) (own : List Ty) → Ok t g base sc todo own → All todo own s.run.operands → After (q.land_step why todo s)
  land None todo own o h = run sc own todo _ o h
  land (Some why) todo own o h = run sc [] (pc.Unwind ∷ todo) [] (left t g base sc todo own o) tt

  -- mutex objects
  held_up : (o : ℕ) (todo : List Todo) (step : Step) → After step → After (q.unless_held_up o step todo s)
  held_up o todo step h = either After (inside.is_held_up o s.env) (pc.fault BlockedInside todo s.run.operands s) step (tt, tt) h

  enter_by : (d : Option ℕ) (i m : ℕ) (todo : List Todo) (own : List Ty) → ((c : ℕ) × (b : Bool) × (few.numbers (object_ty b c) i ≡ true)) → Ok t g base sc todo own → All todo own s.run.operands → After (q.enter_at d i m todo s)
  enter_by (Some d) i m todo own f o h = run_like [] own todo _ (inside.call_begun i s.env) s.run.elements refl refl refl refl refl o h
  enter_by None i m todo own f o h = (f, run_like [] own todo _ (inside.call_begun i s.env) s.run.elements refl refl refl refl refl o h)

  enters : (m r : ℕ) (x : Option Routine) (todo : List Todo) (own more : List Ty) (c : ℕ) → slice_get source.routines r ≡ x → CallsOn t r own more c → t.mutex c ≡ true → Ok t g base sc todo own → All todo own s.run.operands → After (q.enter_step m x todo s)
  enters m r None todo own more c e u w o h = (tt, env)
  enters m r (Some x) todo own more c e u w o h =
      let v : All todo (onto (t.routine r).params (object_ty (t.routine r).whole c ∷ more)) s.run.operands = subst (λ l. All todo l s.run.operands) u.0 h in
      let d : All todo (object_ty (t.routine r).whole c ∷ more) (drop x.params s.run.operands) = calls.behind t few Q kept source sound s sigs g base sc frames frame this callers env ends todo (t.routine r).params (object_ty (t.routine r).whole c ∷ more) x.params (sound.routines r x e).params v in
      let f : few.numbers (object_ty (t.routine r).whole c) (object_in (top (drop x.params s.run.operands))) ≡ true = object_few t few s.env.exec (With t few s sigs todo) (t.routine r).whole c (top (drop x.params s.run.operands)) w (newest t few s.env.exec (With t few s sigs todo) (object_ty (t.routine r).whole c) more (drop x.params s.run.operands) d) in
      either After (q.may_call x.written s) _ _ (enter_by (find (object_in (top (drop x.params s.run.operands))) s.env.depths) (object_in (top (drop x.params s.run.operands))) m todo own (c, (t.routine r).whole, f) o h) (tt, tt)

  turned_uncounted : (u : State) (hs : List Sig) → Turned t source s sigs u hs → Turned t source s sigs (inside.counted_no_more u) hs
  turned_uncounted u hs (stays e x f h c) = stays e x f h c
  turned_uncounted u hs (begins g a b e x c f h) = begins g a b e x c f h
  turned_uncounted u hs (goes_back c q e x f h) = goes_back c q e x f h

  uncounted : (given : List Ty) (u : State) → FollowsOn Q t few source s sigs given u → FollowsOn Q t few source s sigs given (inside.counted_no_more u)
  uncounted given u x = (
    record {
      sigs = x.0.sigs;
      frames = frames_run t few u.env.exec x.0.sigs u.env.frames u.run _ u.callers x.0.frames;
      run = record { sig = x.0.run.sig; own = x.0.run.own; scope = x.0.run.scope; base = x.0.run.base; frame = x.0.run.frame; values = x.0.run.values; this = x.0.run.this; ok = x.0.run.ok; ends = x.0.run.ends };
      callers = x.0.callers;
      env = like t few Q kept x.0.env refl refl refl;
    },
    turned_uncounted u x.0.sigs x.1,
  )

  leaves : (b : Bool) (i : ℕ) (todo : List Todo) (own : List Ty) → Ok t g base sc todo own → All todo own s.run.operands → After (q.leave_at b i todo s)
  leaves false i todo own o h = run_like [] own todo _ (inside.call_ended i s.env) s.run.elements refl refl refl refl refl o h
  leaves true i todo own o h =
      held_up i todo _ (tt, uncounted [] _ (run_like [] own (q.leave_todo s.run.raised todo) s.run.operands (inside.call_ended i s.env) s.run.elements refl refl refl refl refl (left_todo t g base sc s.run.raised todo own o) (left_all s.run.raised todo own s.run.operands h)))

  makes : (n r : ℕ) (x : Option Routine) (todo : List Todo) (own more : List Ty) (c : ℕ) → Makes t n r own more c → Ok t g base sc todo (onto (t.routine r).params (Raw c ∷ more)) → All todo own s.run.operands → After (q.make_step n r x todo s)
  makes n r None todo own more c m o h = (tt, env)
  makes n r (Some x) todo own more c m o h =
      either After (q.may_call x.written s) _ _ (tt, (c, m.2, m.3, run_like (Raw c ∷ []) own (pc.BindMadeNow n r ∷ todo) _ (inside.build_begun s.env) s.run.elements refl refl refl refl refl (more, c, m, refl, o) h)) (tt, tt)

  binds : (n r : ℕ) (x : Option Routine) (todo : List Todo) (d : ℕ) (own more : List Ty) (c : ℕ) → ((y : Routine) → x ≡ Some y → Stays Q s.env.exec (top (drop y.params (below s.run.operands))) (top s.run.operands)) → d ≡ c → slice_get source.routines r ≡ x → Makes t n r own more c → Ok t g base sc todo (onto (t.routine r).params (Raw c ∷ more)) → All todo (Raw d ∷ own) s.run.operands → After (q.bind_step x todo s)
  binds n r None todo d own more c lasts u e m o h = (tt, env)
  binds n r (Some x) todo d own more c lasts u e m o h =
      let i : slice_set own x.params (Raw c) ≡ onto (t.routine r).params (Raw c ∷ more) = ap (λ n. slice_set own n (Raw c)) (sound.routines r x e).params ∙ (ap (λ l. slice_set l (length (t.routine r).params) (Raw c)) m.0 ∙ replaced_onto (t.routine r).params more (Cell (Raw c)) (Raw c)) in
      let v : All todo (slice_set own x.params (Raw c)) (slice_set (below s.run.operands) x.params (top s.run.operands)) = values_set t few s.env.exec (With t few s sigs todo) x.params own (below s.run.operands) (Raw c) (top s.run.operands) (rest_of t few s.env.exec (With t few s sigs todo) (Raw d) own s.run.operands h) (subst (λ d. Known t few s.env.exec (With t few s sigs todo) (Raw d) (top s.run.operands)) u (newest t few s.env.exec (With t few s sigs todo) (Raw d) own s.run.operands h)) in
      wrote (top (drop x.params (below s.run.operands))) (top s.run.operands) (onto (t.routine r).params (Raw c ∷ more)) todo _ (lasts x refl) o (subst (λ l. All todo l (slice_set (below s.run.operands) x.params (top s.run.operands))) i v)

  condition : (k : ℕ) (i : Option ℕ) (todo : List Todo) (own : List Ty) → Ok t g base sc todo (Num ∷ own) → All todo own (below s.run.operands) → After (q.condition_step k i todo s)
  condition k None todo own o h = (tt, tt)
  condition k (Some i) todo own o h = run sc (Num ∷ own) todo _ o (tt, h)

  accepts : (mask site n : ℕ) (todo : List Todo) (own : List Ty) → Ok t g base sc todo (Num ∷ own) → All todo own (drop n s.run.operands) → After (q.accept_by mask (this_object s) site todo (drop n s.run.operands) s)
  accepts zero site n todo own o h = run sc (Num ∷ own) todo _ o (tt, h)
  accepts (suc mask) site n todo own o h =
      held_up (this_object s) todo _ (tt, asks (Num ∷ (Num ∷ [])) own (pc.FailedNow ∷ (pc.PollNow ∷ todo)) _ o h)

  failed : (b : Bool) (todo : List Todo) (own : List Ty) → Ok t g base sc todo own → All todo own (below s.run.operands) → After (q.failed_step b todo (below s.run.operands) s)
  failed true todo own o h = run sc own todo _ o h
  failed false todo own o h = run sc (Num ∷ (Num ∷ (Num ∷ own))) (pc.RaiseNow ∷ todo) _ o (tt, (tt, (tt, h)))

  -- events at others
  pends : (e : Option Exec) (x : Event) (todo : List Todo) (own : List Ty) (vs : List Value) → Ok t g base sc todo own → All todo own vs → After (q.pend_at e x todo vs s)
  pends None x todo own vs o h = (tt, tt)
  pends (Some n) x todo own vs o h =
      either After (sw.is_live (Some n) s.env) _ _ (either After (nat_lt (length (inside.pending_at n s.env)) PENDING_EVENTS) _ _ (run_in sc [] own todo vs _ s.run.elements (parking.raised_keeps t few Q kept n _ s.env env) o h) (tt, tt)) (tt, tt)

  raises : (c : ℕ) (v : Value) (x : Event) (todo : List Todo) (own : List Ty) (vs : List Value) → IsTarget t c → Known t few s.env.exec (With t few s sigs todo) (Obj c) v → Ok t g base sc todo own → All todo own vs → After (q.raise_at_step v x todo vs s)
  raises c (Object i) x todo own vs r k o h = ((c, k.passes, r), run sc own todo vs o h)
  raises c (Number n) x todo own vs r k o h = pends (pc.exec_at (Number n) s.env) x todo own vs o h
  raises c (Place i p) x todo own vs r k o h = pends (pc.exec_at (Place i p) s.env) x todo own vs o h
  raises c (Running n) x todo own vs r k o h = pends (pc.exec_at (Running n) s.env) x todo own vs o h
  raises c Nothing x todo own vs r k o h = pends (pc.exec_at Nothing s.env) x todo own vs o h

  enables : (events cell : ℕ) (todo : List Todo) (own : List Ty) → Ok t g base sc todo own → All todo own s.run.operands → After (q.enable_step events cell todo s)
  enables events cell todo own o h =
      let k : Keeps t few Q kept s.env (written (variable_at cell s) (Number (signed_64 s.env.links.enabled)) s.env) = parking.written_keeps t few Q kept (variable_at cell s) (Number (signed_64 s.env.links.enabled)) s.env (parking.number_stays t few Q kept s.env.exec (variable_at cell s) (signed_64 s.env.links.enabled)) env in
      run_in sc [] own todo _ (inside.with_enabled events (written (variable_at cell s) (Number (signed_64 s.env.links.enabled)) s.env)) s.run.elements (parking.keeps_both t few Q kept k (keeps_like t few Q kept k.env refl refl refl refl refl)) o h

  polled : (p : Option Pending) (todo : List Todo) (own : List Ty) → Ok t g base sc todo own → All todo own s.run.operands → After (q.quiet_poll p todo s)
  polled None todo own o h = run sc own todo _ o h
  polled (Some p) todo own o h = run_like [] (Num ∷ (Num ∷ (Num ∷ own))) (pc.DeliverNow ∷ todo) _ (inside.without_oldest s.env) s.run.elements refl refl refl refl refl o (tt, (tt, (tt, h)))

  poll_by : (b : Bool) (todo : List Todo) (own : List Ty) → Ok t g base sc todo own → All todo own s.run.operands → After (q.poll_by b todo s)
  poll_by true todo own o h = (tt, asks (Num ∷ (Num ∷ (Num ∷ []))) own (pc.DeliverNow ∷ todo) _ o h)
  poll_by false todo own o h = polled (inside.oldest_enabled s.env.links) todo own o h

  polls : (todo : List Todo) (own : List Ty) → Ok t g base sc todo own → All todo own s.run.operands → After (q.poll_step todo s)
  polls todo own o h = either After (nat_eq s.env.links.enabled 0) _ _ (run sc own todo _ o h) (poll_by (inside.is_own s.env) todo own o h)

  delivers : (v : Value) (todo : List Todo) (own : List Ty) → Ok t g base sc todo own → All todo own (drop 3 s.run.operands) → All todo (Num ∷ (Num ∷ (Num ∷ own))) s.run.operands → After (q.deliver_step v todo s)
  delivers Nothing todo own o r h = run sc own todo _ o r
  delivers (Number n) todo own o r h = run sc (Num ∷ (Num ∷ (Num ∷ own))) _ _ o h
  delivers (Place i p) todo own o r h = run sc (Num ∷ (Num ∷ (Num ∷ own))) _ _ o h
  delivers (Running n) todo own o r h = run sc (Num ∷ (Num ∷ (Num ∷ own))) _ _ o h
  delivers (Object i) todo own o r h = run sc (Num ∷ (Num ∷ (Num ∷ own))) _ _ o h

  acts : (p : Todo) (todo : List Todo) (own : List Ty) → s.run.control ≡ p ∷ todo → Finds t few sigs g sc s (p ∷ todo) own → Ok t g base sc (p ∷ todo) own → All (p ∷ todo) own s.run.operands → Parks Q t source sigs s (p ∷ todo) → GoesOn (p ∷ todo) s.run.raised → After (q.act source p todo s)
  acts (pc.Eval x) todo own e l o h parks calm = evaluating.eval t few Q kept source sound s sigs st g base sc frames frame this callers env ends x o.0 todo own e (l o.0 o.1) o.1 o.2 h
  acts pc.LoadNow todo (Cell a ∷ own) e l o h parks calm =
      run sc (a ∷ own) todo _ o.1 (evaluating.read_at t few Q kept source sound s sigs st g base sc frames frame this callers env ends todo (evaluating.to t few Q kept source sound s sigs st g base sc frames frame this callers env ends (pc.LoadNow ∷ todo) e) (evaluating.from t few Q kept source sound s sigs st g base sc frames frame this callers env ends (pc.LoadNow ∷ todo) e) a (top s.run.operands) (newest t few s.env.exec (With t few s sigs todo) (Cell a) own s.run.operands h) l, rest_of t few s.env.exec (With t few s sigs todo) (Cell a) own s.run.operands h)
  acts pc.LoadNow todo _ e l o h parks calm = absurd o
  acts (pc.ElementNow n k) todo (Num ∷ (Row m a ∷ own)) e l o h parks calm =
      calls.element t few Q kept source sound s sigs g base sc frames frame this callers env ends n (index_in n (number (top s.run.operands))) k a todo (top (below s.run.operands)) own (below (below s.run.operands)) (in_range n (number (top s.run.operands))) o.1 (kept_tracked t k a o.3) (subst (λ m. Known t few s.env.exec (With t few s sigs todo) (Row m a) (top (below s.run.operands))) o.0 (next t few s.env.exec (With t few s sigs todo) Num (Row m a) own s.run.operands h)) o.2 (rest_behind t few s.env.exec (With t few s sigs todo) Num (Row m a) own s.run.operands h)
  acts (pc.ElementNow n k) todo _ e l o h parks calm = absurd o
  acts (pc.FieldNow k i) todo (Obj c ∷ own) e l o h parks calm =
      run sc (t.fields c i ∷ own) todo _ o.2 (further_field t few s.env.exec (With t few s sigs todo) c i k (top s.run.operands) o.0 o.1 (told_declared t sound.leads c i) (newest t few s.env.exec (With t few s sigs todo) (Obj c) own s.run.operands h), rest_of t few s.env.exec (With t few s sigs todo) (Obj c) own s.run.operands h)
  acts (pc.FieldNow k i) todo _ e l o h parks calm = absurd o
  acts pc.NegateNow todo (Num ∷ own) e l o h parks calm = calls.outcome t few Q kept source sound s sigs g base sc frames frame this callers env ends _ todo own (below s.run.operands) o (rest_of t few s.env.exec (With t few s sigs todo) Num own s.run.operands h)
  acts pc.NegateNow todo _ e l o h parks calm = absurd o
  acts pc.NotNow todo (Num ∷ own) e l o h parks calm = run sc (Num ∷ own) todo _ o (tt, rest_of t few s.env.exec (With t few s sigs todo) Num own s.run.operands h)
  acts pc.NotNow todo _ e l o h parks calm = absurd o
  acts pc.CharacterNow todo (Num ∷ own) e l o h parks calm = run sc (Num ∷ own) todo _ o (tt, rest_of t few s.env.exec (With t few s sigs todo) Num own s.run.operands h)
  acts pc.CharacterNow todo _ e l o h parks calm = absurd o
  acts pc.TruthNow todo (Num ∷ own) e l o h parks calm = run sc (Num ∷ own) todo _ o (tt, rest_of t few s.env.exec (With t few s sigs todo) Num own s.run.operands h)
  acts pc.TruthNow todo _ e l o h parks calm = absurd o
  acts (pc.OperateNow op) todo (Num ∷ (Num ∷ own)) e l o h parks calm = calls.outcome t few Q kept source sound s sigs g base sc frames frame this callers env ends _ todo own (below (below s.run.operands)) o (rest_behind t few s.env.exec (With t few s sigs todo) Num Num own s.run.operands h)
  acts (pc.OperateNow op) todo _ e l o h parks calm = absurd o
  acts pc.CopyNow todo (a ∷ own) e l o h parks calm = run sc (a ∷ (a ∷ own)) todo _ o (newest t few s.env.exec (With t few s sigs todo) a own s.run.operands h, h)
  acts pc.CopyNow todo _ e l o h parks calm = absurd o
  acts pc.CopyBelowNow todo (a ∷ (b ∷ own)) e l o h parks calm = run sc (b ∷ (a ∷ (b ∷ own))) todo _ o (next t few s.env.exec (With t few s sigs todo) a b own s.run.operands h, h)
  acts pc.CopyBelowNow todo _ e l o h parks calm = absurd o
  acts pc.DropNow todo (a ∷ own) e l o h parks calm = run sc own todo _ o (rest_of t few s.env.exec (With t few s sigs todo) a own s.run.operands h)
  acts pc.DropNow todo _ e l o h parks calm = absurd o
  acts pc.DropBelowNow todo (a ∷ (b ∷ own)) e l o h parks calm = run sc (a ∷ own) todo _ o (newest t few s.env.exec (With t few s sigs todo) a (b ∷ own) s.run.operands h, rest_behind t few s.env.exec (With t few s sigs todo) a b own s.run.operands h)
  acts pc.DropBelowNow todo _ e l o h parks calm = absurd o
  acts pc.StoreNow todo (Num ∷ (Cell Num ∷ own)) e l o h parks calm = wrote (top (below s.run.operands)) (Number (number (top s.run.operands))) own todo _ (parking.number_stays t few Q kept s.env.exec (top (below s.run.operands)) (number (top s.run.operands))) o (rest_behind t few s.env.exec (With t few s sigs todo) Num (Cell Num) own s.run.operands h)
  acts pc.StoreNow todo _ e l o h parks calm = absurd o
  acts pc.KeepNow todo (Num ∷ (Cell Num ∷ own)) e l o h parks calm = wrote (top (below s.run.operands)) (Number (number (top s.run.operands))) (Num ∷ own) todo _ (parking.number_stays t few Q kept s.env.exec (top (below s.run.operands)) (number (top s.run.operands))) o (tt, rest_behind t few s.env.exec (With t few s sigs todo) Num (Cell Num) own s.run.operands h)
  acts pc.KeepNow todo _ e l o h parks calm = absurd o
  acts (pc.SetNow k) todo (Num ∷ own) e l o h parks calm = wrote (variable_at k s) (Number (number (top s.run.operands))) (Num ∷ own) todo _ (parking.number_stays t few Q kept s.env.exec (variable_at k s) (number (top s.run.operands))) o h
  acts (pc.SetNow k) todo _ e l o h parks calm = absurd o
  acts pc.BindNow todo (a ∷ (Cell b ∷ own)) e l o h parks calm = wrote (top (below s.run.operands)) (top s.run.operands) (a ∷ own) todo _ parks o.1 (newest t few s.env.exec (With t few s sigs todo) a (Cell b ∷ own) s.run.operands h, rest_behind t few s.env.exec (With t few s sigs todo) a (Cell b) own s.run.operands h)
  acts pc.BindNow todo _ e l o h parks calm = absurd o
  acts (pc.Choose a b) todo (Num ∷ own) e l o h parks calm = run sc own _ _ (choose t g base sc (is_zero (number (top s.run.operands))) b a todo own o.1 o.0 o.2) (rest_of t few s.env.exec (With t few s sigs todo) Num own s.run.operands h)
  acts (pc.Choose a b) todo _ e l o h parks calm = absurd o
  acts (pc.Branch a b) todo (Num ∷ own) e l o h parks calm = run sc own _ _ (branch_ok t g base sc (is_zero (number (top s.run.operands))) a b todo own o.0 o.1 o.2 o.3) (rest_of t few s.env.exec (With t few s sigs todo) Num own s.run.operands h)
  acts (pc.Branch a b) todo _ e l o h parks calm = absurd o
  acts (pc.Arguments NoExprs) todo own e l o h parks calm = none o.0 o.1 o.2
    where
      none : (ps : List Ty) → GiveAll t g sc NoExprs ps → Ok t g base sc todo (onto ps own) → FollowsOn Q t few source s sigs [] (at todo s.run.operands s)
      none [] f o = run sc own todo _ o h
      none (a ∷ more) f o = absurd f
  acts (pc.Arguments (MoreExprs x es)) todo own e l o h parks calm = some o.0 o.1 o.2
    where
      some : (ps : List Ty) → GiveAll t g sc (MoreExprs x es) ps → Ok t g base sc todo (onto ps own) → FollowsOn Q t few source s sigs [] (at (pc.Eval x ∷ (pc.Arguments es ∷ todo)) s.run.operands s)
      some [] f o = absurd f
      some (a ∷ more) f o = run sc own _ _ (a, f.0, (more, f.1, o)) h
  acts pc.TickNow todo own e l o h parks calm = run sc own todo _ o h
  acts (pc.CallNow r) todo own e l o h parks calm = calls.call t few Q kept source sound s sigs g base sc frames frame this callers env ends r (slice_get source.routines r) own o.0 todo refl (subst (λ l. BeginsAt t source s (length s.env.frames) Nothing todo l (t.routine r)) (sym e) (refl, refl, refl, refl)) o.1 o.2 o.4 h
  acts (pc.CallOnNow r) todo own e l o h parks calm = calls.call_on t few Q kept source sound s sigs g base sc frames frame this callers env ends r (slice_get source.routines r) own o.0 o.1 todo refl (λ q is. subst (λ l. BeginsAt t source s (length s.env.frames) (top (drop q.params s.run.operands)) todo l (t.routine r)) (sym e) (refl, refl, refl, (q, is, refl))) o.2.0 o.2.1 o.3 h
  acts (pc.CallUnwrittenNow r) todo own e l o h parks calm = calls.call_unwritten t few Q kept source sound s sigs g base sc frames frame this callers env ends r (slice_get source.routines r) own o.0 o.1 todo refl (λ q is. subst (λ l. BeginsAt t source s (length s.env.frames) (top (drop q.params s.run.operands)) todo l (t.routine r)) (sym e) (refl, refl, refl, (q, is, refl))) o.2.0 o.2.1 o.3 h
  acts (pc.CountNow n) todo own e l o h parks calm = run_like [] own todo _ s.env n refl refl refl refl refl o h
  acts pc.MoreNow todo own e l o h parks calm = run_like [] own todo _ s.env _ refl refl refl refl refl o h
  acts (pc.FillNow n b d) todo own e l o h parks calm = run sc own _ _ (fill_ok t g base sc (nat_lt s.run.elements n) n b d todo own o.0 o.1 o.2) (fill_all (nat_lt s.run.elements n) n b d todo own s.run.operands h)
  acts (pc.TurnNow d x step b) todo own e l o h parks calm = run sc own _ _ (o.0, o.1.2, (o.0, o.1, turned t g base sc own todo o.0 o.2)) h
  acts (pc.Again d x step b) todo (Num ∷ own) e l o h parks calm =
      run sc own _ _ (again_ok t g base sc (is_zero (number (top s.run.operands))) d x step b todo own o.0 o.1 o.2) (numbers own (below s.run.operands) todo (if is_zero (number (top s.run.operands)) then todo else pc.TurnNow d x step b ∷ todo) (none_numbers own o.0) (rest_of t few s.env.exec (With t few s sigs todo) Num own s.run.operands h))
  acts (pc.Again d x step b) todo _ e l o h parks calm = absurd o
  acts (pc.PrintNow form) todo (Num ∷ own) e l o h parks calm = calls.print t few Q kept source sound s sigs g base sc frames frame this callers env ends s.env.gathered _ todo own (below s.run.operands) o (rest_of t few s.env.exec (With t few s sigs todo) Num own s.run.operands h)
  acts (pc.PrintNow form) todo _ e l o h parks calm = absurd o
  acts (pc.TextNow k) todo own e l o h parks calm = calls.print t few Q kept source sound s sigs g base sc frames frame this callers env ends s.env.gathered _ todo own s.run.operands o h
  acts pc.GatherNow todo own e l o h parks calm = run_like [] own todo _ (record s.env { gathered = Some [] }) s.run.elements refl refl refl refl refl o h
  acts pc.FlushNow todo own e l o h parks calm = calls.flush t few Q kept source sound s sigs g base sc frames frame this callers env ends s.env.gathered todo own s.run.operands o h
  acts (pc.ReadNow form) todo own e l o h parks calm = (tt, asks (Num ∷ []) own todo _ o h)
  acts (pc.ClearNow k n) todo own e l o h parks calm = clears k n todo own o.0 o.1 h
  acts (pc.Items []) todo own e l o h parks calm = run sc own todo _ o.1 h
  acts (pc.Items (i ∷ is)) todo own e l o h parks calm = run sc own _ _ (item_ok t g base sc i (pc.Items is ∷ todo) own o.0.0 (o.0.1, o.1)) (item_all i (pc.Items is ∷ todo) own s.run.operands h)
  acts (pc.Values []) todo own e l o h parks calm = run sc own todo _ o.1 h
  acts (pc.Values (i ∷ is)) todo own e l o h parks calm = run sc own _ _ (item_value_ok t g base sc i is todo own o.0.0 o.0.1 o.1) (item_value_all i (pc.Values is ∷ todo) own s.run.operands h)
  acts (pc.Pieces []) todo own e l o h parks calm = run sc own todo _ (subst (Ok t g base sc todo) (sym o.1) o.2) h
  acts (pc.Pieces (i ∷ is)) todo own e l o h parks calm = run sc own _ _ (piece_ok t g base sc i is todo own o.0 o.1 o.2) (piece_all i todo own s.run.operands h)
  acts (pc.Targets []) todo own e l o h parks calm = run sc own todo _ o.1 h
  acts (pc.Targets (x ∷ xs)) todo own e l o h parks calm = run sc own _ _ (Cell Num, o.0.0, (o.0.1, o.1)) h
  acts (pc.Variables []) todo own e l o h parks calm = run sc own todo _ o.1 h
  acts (pc.Variables (d ∷ ds)) todo own e l o h parks calm = run sc own _ _ (o.0.0, starting_ok t g base sc d.cell d.value (pc.Variables ds ∷ todo) own o.0.1 (o.0.2, o.1)) (starting_all d.cell d.value (pc.Variables ds ∷ todo) own s.run.operands h)
  acts (pc.Do a) todo own e l o h parks calm = calls.stmt t few Q kept source sound s sigs g base sc frames frame this callers env ends a todo own o.0 o.1 o.2 h
  acts (pc.Rest a) todo own e l o h parks calm = calls.rest t few Q kept source sound s sigs g base sc frames frame this callers env ends a todo own o.0 o.1 o.2 h
  acts (pc.Within line) todo own e l o h parks calm = run sc own todo _ o.1 h
  acts (pc.Exit w) todo own e l o h parks calm = calls.exits t few Q kept source sound s sigs g base sc frames frame this callers env ends w todo own o.0 o.1 h
  acts pc.NoReturnNow todo own e l o h parks calm = (tt, tt)
  acts (pc.InLoop d x step b) todo [] e l o h parks calm = run sc [] _ _ (turn_ok t g base sc d x step b todo o.1 o.2) (numbers [] s.run.operands todo (q.step_todo step (q.test_todo d x step b todo)) tt h)
  acts (pc.InLoop d x step b) todo (a ∷ own) e l o h parks calm = absurd o.0
  acts pc.InWhole todo [] e l o h parks calm = run sc [] todo _ o.2 h
  acts pc.InWhole todo (a ∷ own) e l o h parks calm = absurd o.0
  acts (pc.Clean c) todo own e l o h parks calm = popped sc o.0
    where
      n : AreNumbers own
      n = o.1

      popped : (sc : List Name) → Popped t g c sc (λ sc. Ok t g base sc todo own) → FollowsOn Q t few source s sigs [] (at (pc.clean_todo c todo) s.run.operands s)
      popped [] o = absurd o
      popped (y ∷ sc) o = run sc own (pc.clean_todo c todo) _ (clean_ok t g base sc c todo own o.1 o.2) (numbers own s.run.operands (pc.Clean c ∷ todo) (pc.clean_todo c todo) n h)
  acts (pc.Sweep x) todo own e l o h parks calm = sweep s.run.elements x todo own o.0 o.1 h
  acts (pc.Part c) todo own e l o h parks calm = run sc own todo _ o.1 (numbers own s.run.operands (pc.Part c ∷ todo) todo o.2 h)
  acts (pc.Guard hs) todo [] e l o h parks calm = run sc [] todo _ o.2 h
  acts (pc.Guard hs) todo (a ∷ own) e l o h parks calm = absurd o.0
  acts pc.Unwind todo own e l o h parks calm = unwinding.unwind_knows t few Q kept source s sigs g base sc frames frame this callers env ends todo o calm
  acts pc.ThrowNow todo (a ∷ (b ∷ (c ∷ own))) e l o h parks calm = unwinding.throw_knows t few Q kept source s sigs g base sc frames frame this callers env ends _ todo (left t g base sc todo own o)
  acts pc.ThrowNow todo _ e l o h parks calm = absurd o
  acts pc.RaiseNow todo (a ∷ (b ∷ (c ∷ own))) e l o h parks calm =
      unwinding.raise_knows t few Q kept source s sigs g base sc frames frame this callers env ends _ todo own (λ frame this w. subst (λ l. BeginsAt t source s frame this (pc.DropNow ∷ todo) l no_sig) (sym e) (refl, refl, w)) o (rest_of t few s.env.exec (With t few s sigs todo) c own (below (below s.run.operands)) (rest_behind t few s.env.exec (With t few s sigs todo) a b (c ∷ own) s.run.operands h))
  acts pc.RaiseNow todo _ e l o h parks calm = absurd o
  acts pc.Finish todo own e l o h parks calm = held_up s.env.own todo (pc.return_step nought s.callers s) (returned_knows t few Q kept source s sigs frames env nought s.callers refl callers)
  acts (pc.SetUpNow r) todo own e l o h parks calm = set_up (slice_get source.routines r) r todo own refl l o.0 o.2 h parks
  acts pc.EnlivenNow todo own e l o h parks calm = run_in sc [] own todo _ _ s.run.elements (parking.enlivened_keeps t few Q kept (pc.own_exec s) s.env env) o.1 h
  acts pc.ForgetNow todo own e l o h parks calm = run_in sc [] own todo _ _ s.run.elements (parking.forgotten_keeps t few Q kept (pc.own_exec s) s.env env) o.1 h
  acts pc.TakeDownNow todo own e l o h parks calm = absurd calm
  acts (pc.LiveNow r) todo own e l o h parks calm = live (slice_get source.routines r) todo own o.3 h
  acts pc.ResumeNow todo own e l o h parks calm = absurd calm
  acts pc.SuspendNow todo own e l o h parks calm = absurd calm
  acts pc.Land todo own e l o h parks calm = land s.run.raised todo own o h
  acts pc.FinishCoroutine todo own e l o h parks calm = absurd calm
  acts (pc.EnterNow m r) todo own e l o h parks calm = enters m r (slice_get source.routines r) todo own o.0 o.1 refl o.2 o.3 o.4 h
  acts pc.LeaveNow todo own e l o h parks calm = leaves (inside.is_last (find (this_object s) s.env.depths)) (this_object s) todo own o.1 h
  acts (pc.MakeNow n r) todo own e l o h parks calm = makes n r (slice_get source.routines r) todo own o.0 o.1 o.2 o.3 h
  acts (pc.BindMadeNow n r) todo (Raw d ∷ own) e l o h parks calm = binds n r (slice_get source.routines r) todo d own o.0 o.1 parks o.3 refl o.2 o.4 h
  acts (pc.BindMadeNow n r) todo _ e l o h parks calm = absurd o
  acts pc.MadeNow todo own e l o h parks calm = held_up (this_object s) todo _ (tt, run_like [] own todo _ (inside.build_ended (this_object s) s.env) s.run.elements refl refl refl refl refl o.1 h)
  acts (pc.SpawnNow r) todo own e l o h parks calm =
      held_up (this_object s) (pc.ChildNow r ∷ todo) _ (tt, ((subst (IsOfTask t) (sym (o.0.0 ∙ o.1.1)) o.1.2, o.0.1, o.0.2), l, run_like [] own (pc.ChildNow r ∷ todo) _ (inside.build_ended (this_object s) s.env) s.run.elements refl refl refl refl refl o h))
  acts (pc.ChildNow r) todo own e l o h parks calm = run sc own todo _ o.2 h
  acts pc.GoneNow todo own e l o h parks calm = (tt, run_like [] own todo _ (inside.call_gone (this_object s) s.env) s.run.elements refl refl refl refl refl o.1 h)
  acts pc.GiveUpNow todo own e l o h parks calm = (tt, run_like [] own todo _ (inside.build_ended (this_object s) s.env) s.run.elements refl refl refl refl refl o.1 h)
  acts pc.ClusterNow todo own e l o h parks calm = (tt, asks (Clu ∷ []) own todo _ o h)
  acts pc.ProcessorNow todo (Clu ∷ own) e l o h parks calm =
      let k = newest t few s.env.exec (With t few s sigs todo) Clu own s.run.operands h in
      (number_few t few s.env.exec (With t few s sigs todo) Clu (top s.run.operands) k.is k.passes, asks (Pro ∷ []) own todo _ o (rest_of t few s.env.exec (With t few s sigs todo) Clu own s.run.operands h))
  acts pc.ProcessorNow todo _ e l o h parks calm = absurd o
  acts pc.ClusterEndNow todo (Clu ∷ own) e l o h parks calm =
      let k = newest t few s.env.exec (With t few s sigs todo) Clu own s.run.operands h in
      (number_few t few s.env.exec (With t few s sigs todo) Clu (top s.run.operands) k.is k.passes, asks [] (Num ∷ own) todo _ o (tt, rest_of t few s.env.exec (With t few s sigs todo) Clu own s.run.operands h))
  acts pc.ClusterEndNow todo _ e l o h parks calm = absurd o
  acts pc.ProcessorEndNow todo (Pro ∷ own) e l o h parks calm =
      let k = newest t few s.env.exec (With t few s sigs todo) Pro own s.run.operands h in
      (number_few t few s.env.exec (With t few s sigs todo) Pro (top s.run.operands) k.is k.passes, asks [] (Num ∷ own) todo _ o (tt, rest_of t few s.env.exec (With t few s sigs todo) Pro own s.run.operands h))
  acts pc.ProcessorEndNow todo _ e l o h parks calm = absurd o
  acts (pc.ConditionNow k n) todo (Num ∷ own) e l o h parks calm = condition k (index_in n (number (top s.run.operands))) todo own o (rest_of t few s.env.exec (With t few s sigs todo) Num own s.run.operands h)
  acts (pc.ConditionNow k n) todo _ e l o h parks calm = absurd o
  acts pc.WaitNow todo (Num ∷ (Num ∷ own)) e l o h parks calm =
      held_up (this_object s) todo _ (tt, asks [] (Num ∷ own) todo _ o.1 (tt, rest_behind t few s.env.exec (With t few s sigs todo) Num Num own s.run.operands h))
  acts pc.WaitNow todo _ e l o h parks calm = absurd o
  acts pc.SignalNow todo (Num ∷ own) e l o h parks calm = (tt, asks [] (Num ∷ own) todo _ o.1 (tt, rest_of t few s.env.exec (With t few s sigs todo) Num own s.run.operands h))
  acts pc.SignalNow todo _ e l o h parks calm = absurd o
  acts pc.SignalBlockNow todo (Num ∷ own) e l o h parks calm = held_up (this_object s) todo _ (tt, asks [] (Num ∷ own) todo _ o.1 (tt, rest_of t few s.env.exec (With t few s sigs todo) Num own s.run.operands h))
  acts pc.SignalBlockNow todo _ e l o h parks calm = absurd o
  acts pc.EmptyNow todo (Num ∷ own) e l o h parks calm = (tt, asks (Num ∷ []) own todo _ o.1 (rest_of t few s.env.exec (With t few s sigs todo) Num own s.run.operands h))
  acts pc.EmptyNow todo _ e l o h parks calm = absurd o
  acts pc.FrontNow todo (Num ∷ own) e l o h parks calm = (tt, asks (Num ∷ []) own todo _ o.1 (rest_of t few s.env.exec (With t few s sigs todo) Num own s.run.operands h))
  acts pc.FrontNow todo _ e l o h parks calm = absurd o
  acts pc.YieldNow todo own e l o h parks calm = (tt, asks [] own todo _ o h)
  acts pc.MigrateNow todo (Clu ∷ own) e l o h parks calm =
      let k = newest t few s.env.exec (With t few s sigs todo) Clu own s.run.operands h in
      (number_few t few s.env.exec (With t few s sigs todo) Clu (top s.run.operands) k.is k.passes, asks [] own todo _ o (rest_of t few s.env.exec (With t few s sigs todo) Clu own s.run.operands h))
  acts pc.MigrateNow todo _ e l o h parks calm = absurd o
  acts (pc.Guards NoClauses) todo own e l o h parks calm = run sc own todo _ o.1 h
  acts (pc.Guards (Otherwise b)) todo own e l o h parks calm = run sc own todo _ o.1 h
  acts (pc.Guards (MoreClauses guard b cs)) todo own e l o h parks calm = run sc own _ _ (Num, o.0.0, (o.0.1, o.1)) h
  acts (pc.AcceptNow site n) todo own e l o h parks calm =
      accepts (mask_of (take_operands Nothing n s.run.operands [])) site n todo o.0 o.3 (calls.behind t few Q kept source sound s sigs g base sc frames frame this callers env ends todo (nums n) o.0 n (sym (nums_length n)) (subst (λ l. All todo l s.run.operands) o.1 h))
  acts pc.FailedNow todo (Num ∷ own) e l o h parks calm = failed (is_zero (number (top s.run.operands))) todo own o (rest_of t few s.env.exec (With t few s sigs todo) Num own s.run.operands h)
  acts pc.FailedNow todo _ e l o h parks calm = absurd o
  acts (pc.ChooseNow cs) todo (Num ∷ own) e l o h parks calm =
      run sc own (q.branch_todo (as_number (number (top s.run.operands))) cs todo) _ (chosen_ok t g base sc (as_number (number (top s.run.operands))) cs todo own o.0 o.1 o.2) (numbers own (below s.run.operands) todo (q.branch_todo (as_number (number (top s.run.operands))) cs todo) (none_numbers own o.0) (rest_of t few s.env.exec (With t few s sigs todo) Num own s.run.operands h))
  acts (pc.ChooseNow cs) todo _ e l o h parks calm = absurd o
  acts pc.RaiseAtNow todo (Obj c ∷ (a ∷ (b ∷ (d ∷ own)))) e l o h parks calm =
      raises c (top s.run.operands) (event_in (below s.run.operands)) todo own (drop 4 s.run.operands) o.0 (newest t few s.env.exec (With t few s sigs todo) (Obj c) (a ∷ (b ∷ (d ∷ own))) s.run.operands h) o.1 (values_drop t few s.env.exec (With t few s sigs todo) 4 (Obj c ∷ (a ∷ (b ∷ (d ∷ own)))) s.run.operands h)
  acts pc.RaiseAtNow todo _ e l o h parks calm = absurd o
  acts (pc.EnableNow events cell) todo own e l o h parks calm = enables (inside.enabled_more s.env.links.enabled events) cell todo own o h
  acts (pc.DisableNow events cell) todo own e l o h parks calm = enables (inside.enabled_less s.env.links.enabled events) cell todo own o h
  acts (pc.RestoreNow cell) todo own e l o h parks calm =
      run_like [] own todo _ (inside.with_enabled (inside.events_in (number (loaded (variable_at cell s) s.env))) s.env) s.run.elements refl refl refl refl refl o h
  acts pc.PollNow todo own e l o h parks calm = polls todo own o h
  acts pc.DeliverNow todo (Num ∷ (Num ∷ (Num ∷ own))) e l o h parks calm =
      delivers (top (drop 2 s.run.operands)) todo own o (values_drop t few s.env.exec (With t few s sigs todo) 3 (Num ∷ (Num ∷ (Num ∷ own))) s.run.operands h) h
  acts pc.DeliverNow todo _ e l o h parks calm = absurd o

  todos : (todo : List Todo) (own : List Ty) → s.run.control ≡ todo → Finds t few sigs g sc s todo own → Ok t g base sc todo own → All todo own s.run.operands → Parks Q t source sigs s todo → GoesOn todo s.run.raised → After (q.act_todo source todo s)
  todos [] own e l o h parks calm = returned_knows t few Q kept source s sigs frames env nought s.callers refl callers
  todos (p ∷ todo) own e l o h parks calm = acts p todo own e l o h parks calm

  -- another execution goes on

  -- this one stops, as it stands
  resting : (todo : List Todo) (own : List Ty) → Ok t g base sc todo own → All todo own s.run.operands → Q s.env.exec sigs (sw.stopped (at todo s.run.operands s)) → Claimed Q t few [] (at todo s.run.operands s)
  resting todo own o h c =
      let x = going.same_kinds t few Q kept source s sigs g base frames frame this callers env ends sc [] own todo s.run.operands s.env s.run.elements (keeps_like t few Q kept env refl refl refl refl refl) o h in
      (x.0, subst (λ gs. Q s.env.exec gs (sw.stopped (at todo s.run.operands s))) (sym x.1) c)

  stops : (todo : List Todo) (own : List Ty) → Ok t g base sc todo own → All todo own s.run.operands → Parks Q t source sigs s todo → (GoesOn todo s.run.raised → ⊥) → StepBy t few (Claimed Q t few) (ClaimsEnv t few Q) source (q.act_todo source todo s)
  stops (pc.TakeDownNow ∷ todo) own o h c n = moved t few Q kept source _ _ (parking.take_down_in t few Q kept (pc.own_exec s) (at todo s.run.operands s) (resting todo own o.1 h c))
  stops (pc.ResumeNow ∷ todo) own o h c n = moved t few Q kept source _ _ (parking.wake_in t few Q kept (q.resumed s) (at (pc.Land ∷ todo) s.run.operands s) (resting (pc.Land ∷ todo) own o.1 h c))
  stops (pc.SuspendNow ∷ todo) own o h c n = moved t few Q kept source _ _ (parking.suspend_in t few Q kept (at (pc.Land ∷ todo) s.run.operands s) (resting (pc.Land ∷ todo) own o h c))
  stops (pc.FinishCoroutine ∷ todo) own o h c n = moved t few Q kept source _ _ (parking.finish_in t few Q kept (at todo s.run.operands s) env)
  stops (pc.Unwind ∷ []) own o h c n = absurd (n tt)
  stops (pc.Unwind ∷ (p ∷ todo)) own o h c n = unwinding.unwind_stops t few Q kept source s sigs g base sc frames frame this callers env ends (pc.sort p) todo n
  stops todo own o h c n = absurd (n tt)

-- whatever is claimed
pub law_claims : (Q : Exec → List Sig → Ex → Type 0) → IsKept Q → KeepsClaims Q
law_claims Q kept = record {
  goes = λ t few source sound s x st l parks calm.
      todos t few Q kept source sound s x.sigs st x.run.sig x.run.base x.run.scope x.frames x.run.frame x.run.this x.callers x.env x.run.ends s.run.control x.run.own refl l x.run.ok x.run.values parks calm;
  stops = λ t few source sound s x st l parks n.
      stops t few Q kept source sound s x.sigs st x.run.sig x.run.base x.run.scope x.frames x.run.frame x.run.this x.callers x.env x.run.ends s.run.control x.run.own x.run.ok x.run.values parks n;
}

pub law_kinds : LawKinds
law_kinds told = law_claims (IsTold told) (record { written = λ n gs x d k z h. h; linked = λ n gs x l h. h; unwound = λ n gs x why other h. h })
