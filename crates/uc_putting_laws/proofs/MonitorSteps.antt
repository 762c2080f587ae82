-- A quiet step at a mutex object, or by which an event is raised elsewhere or delivered, of a state in which what is called is the execution's own leads to one.
use Rattle.std.proofs.Common.{◌≡◌, ℕ, zero, suc, ◌++◌, Bool, true, false, List, [], ◌∷◌, length, drop, Option, Some, None, refl, sym, ◌∙◌, subst}
use Rattle.std.specs.Prelude.{nat_eq, nat_lt, slice_set}
use Rattle.uc_tree.specs.declared.limits.TheConstants.{PENDING_EVENTS}
use Rattle.uc_tree.specs.Source.{Routine}
use Rattle.uc_entry.specs.declared.fault.RunFault.TheVariants.{Depth, BlockedInside, TooManyPending, NotLive}
use Rattle.uc_entry.specs.Keyed.{find, signed_64}
use Rattle.uc_machine.specs.declared.exec.Exec.{Exec}
use Rattle.uc_machine.specs.declared.exec.Pending.{Pending}
use Rattle.uc_machine.specs.Switches as sw
use Rattle.uc_machine.specs.Insides as inside
use Rattle.uc_machine.specs.Raising as raising
use Rattle.uc_machine.specs.Monitors as monitors
use Rattle.uc_machine.specs.Polls as polls
use Rattle.uc_machine.specs.Pieces as piece
use Rattle.uc_machine.specs.Pieces.{Value, Number, Object, Nothing, Todo, State, Env, Step, top, below}
use Rattle.uc_state_laws.specs.Counted.{params_at}
use Rattle.uc_place_laws.proofs.AsideKeeping as kept
use Rattle.uc_place_laws.proofs.AsideKeeping.{either}
use Rattle.uc_putting_laws.specs.CleanedSpots.{Site, Reach, IsIn}
use Rattle.uc_putting_laws.specs.Seats.{IsSeated}
use Rattle.uc_putting_laws.specs.Putting.{Setting, IsHome, Mark, Any, Homed, rest, rests, anys, FirstAt, StandsAt, HomedAt, Holds, Ok, Runs, Waits, PutStep}
use Rattle.uc_putting_laws.proofs.Marks as marks
use Rattle.uc_putting_laws.proofs.Marks.{holds_drop, holds_anys, drop_set, set_top, site_there}
use Rattle.uc_putting_laws.proofs.PuttingTodos as todos
use Rattle.uc_putting_laws.proofs.Steps as steps
use Rattle.uc_putting_laws.proofs.Steps.{here}

module _ (g : Setting) (s : State) (callers : todos.W g s.env.exec s.callers) (env : todos.E g s.env) (made : Reach) (this : IsSeated g.table g.source g.special g.few made s.env.exec s.callers s.run.frame s.run.handles s.run.this) (ms : List Mark) (holds : Holds g.few (here s) s.run.elements ms s.run.operands) where
  abbrev O : List Mark → List Todo → Type 0
  O ns todo = Ok g (here s) made ns todo

  abbrev H : List Mark → List Value → Type 0
  H ns vs = Holds g.few (here s) s.run.elements ns vs

  one : H (rest ms) (below s.run.operands)
  one = steps.one g s callers env made this ms holds

  pub unless : (o : ℕ) (step : Step) (todo : List Todo) → PutStep g step → PutStep g (monitors.unless_held_up o step todo s)
  unless o step todo k = either (PutStep g) (inside.is_held_up o s.env) _ step (steps.stop g s callers env made this BlockedInside todo _) k

  enter_at : (d : Option ℕ) (o m : ℕ) (todo : List Todo) → O ms todo → PutStep g (monitors.enter_at d o m todo s)
  enter_at (Some d) o m todo h = steps.go_in g s callers env made this ms _ _ _ holds h (steps.same g s callers env made this refl refl refl refl)
  enter_at None o m todo h = record { run = steps.finds g s callers env made this 0 ms todo _ holds h; callers = callers; env = todos.likes g env refl refl refl }

  pub enter : (m : ℕ) (r : Option Routine) (todo : List Todo) → O ms todo → PutStep g (monitors.enter_step m r todo s)
  enter m None todo h = steps.ends g s callers env made this _ _
  enter m (Some r) todo h =
      let o = piece.object_in (top (drop r.params s.run.operands)) in
      either (PutStep g) (monitors.may_call r.written s) _ _ (enter_at (find o s.env.depths) o m todo h) (steps.stop g s callers env made this Depth todo _)

  pub leave : (b : Bool) (o : ℕ) (todo : List Todo) → O ms todo → PutStep g (monitors.leave_at b o todo s)
  leave false o todo h = steps.go_in g s callers env made this ms _ _ _ holds h (steps.same g s callers env made this refl refl refl refl)
  leave true o todo h =
      unless o _ todo (record { run = record { made = made; this = this; marks = ms; holds = holds; ok = todos.polled g (here s) made s.run.raised ms todo h }; callers = callers; env = todos.likes g env refl refl refl })

  pub make : (c k : ℕ) (r : Option Routine) (todo : List Todo) → O ms (piece.MakeNow c k ∷ todo) → PutStep g (monitors.make_step c k r todo s)
  make c k None todo h = steps.ends g s callers env made this _ _
  make c k (Some r) todo h =
      either (PutStep g) (monitors.may_call r.written s) _ _ (record { run = steps.finds g s callers env made this 1 ms (piece.BindMadeNow c k ∷ todo) _ holds h; callers = callers; env = todos.likes g env refl refl refl }) (steps.stop g s callers env made this Depth todo _)

  -- the operands behind a binding
  bound_under : (n : ℕ) (v : Value) → H (rests (suc n) (rest ms)) (below (drop n (slice_set (below s.run.operands) n v)))
  bound_under n v =
      let vs = below s.run.operands in
      subst (H (rests (suc n) (rest ms))) (sym (marks.drop_one n (slice_set vs n v) ∙ drop_set n v vs)) (holds_drop g.few (here s) s.run.elements (suc n) (rest ms) vs one)

  bound_at : (n : ℕ) (x : Site) → IsIn made x → StandsAt g.few (here s) s.run.elements x (top (drop n (below s.run.operands))) → IsHome g.few (top s.run.operands) (top (drop n (below s.run.operands))) → HomedAt g.few (here s) s.run.elements x (top (drop n (slice_set (below s.run.operands) n (top s.run.operands))))
  bound_at n x i e f =
      let there = set_top n (top s.run.operands) (below s.run.operands) (site_there g.few (here s) made s.run.elements this.own x (drop n (below s.run.operands)) i e) in
      (top (drop n (below s.run.operands)), e, subst (λ v. IsHome g.few v (top (drop n (below s.run.operands)))) (sym there) f)

  pub bind : (x : Option Routine) (todo : List Todo) → IsHome g.few (top s.run.operands) (top (drop (params_at x) (below s.run.operands))) → FirstAt (rests (params_at x) (rest ms)) (λ y. IsIn made y × O (anys (params_at x) (Homed y ∷ rests (suc (params_at x)) (rest ms))) todo) → PutStep g (monitors.bind_step x todo s)
  bind None todo f h = steps.ends g s callers env made this _ _
  bind (Some x) todo f h =
      let n = x.params in
      let k = marks.at_of g.few (here s) s.run.elements (rests n (rest ms)) (drop n (below s.run.operands)) (holds_drop g.few (here s) s.run.elements n (rest ms) (below s.run.operands) one) (λ y. IsIn made y × O (anys n (Homed y ∷ rests (suc n) (rest ms))) todo) h in
      steps.go_in g s callers env made this (anys n (Homed k.0 ∷ rests (suc n) (rest ms))) todo _ _ (holds_anys g.few (here s) s.run.elements n (Homed k.0 ∷ rests (suc n) (rest ms)) (slice_set (below s.run.operands) n (top s.run.operands)) (bound_at n k.0 k.2.0 k.1 f, bound_under n (top s.run.operands))) k.2.1 (steps.write g s callers env made this _ _)

  pub accept : (mask o site : ℕ) (todo : List Todo) (vs : List Value) → O [] todo → PutStep g (monitors.accept_by mask o site todo vs s)
  accept zero o site todo vs h = steps.anew g s callers env made this _ _ h
  accept (suc mask) o site todo vs h = unless o _ todo (record { run = record { made = made; this = this; marks = []; holds = tt; ok = (tt, (tt, h)) }; callers = callers; env = env })

  pub failed : (b : Bool) (todo : List Todo) (vs : List Value) → O [] todo → PutStep g (monitors.failed_step b todo vs s)
  failed true todo vs h = steps.anew g s callers env made this _ _ h
  failed false todo vs h = steps.anew g s callers env made this _ _ (tt, h)

  -- events elsewhere

  pend : (n : Exec) (e : raising.Event) (todo : List Todo) (vs : List Value) → O [] todo → PutStep g (polls.pend_step n e todo vs s)
  pend n e todo vs h =
      either (PutStep g) (nat_lt (length (inside.pending_at n s.env)) PENDING_EVENTS) _ _ (steps.go_in g s callers env made this [] _ _ _ tt h (kept.links_keeps (Runs g) (Waits g) (todos.calm g) (λ l. record l { pending = l.pending ++ (record { event = e.number; x = e.x; y = e.y }) ∷ [] }) n s.env env)) (steps.stop g s callers env made this TooManyPending todo vs)

  pend_at : (o : Option Exec) (e : raising.Event) (todo : List Todo) (vs : List Value) → O [] todo → PutStep g (polls.pend_at o e todo vs s)
  pend_at None e todo vs h = steps.stop g s callers env made this NotLive todo vs
  pend_at (Some n) e todo vs h = either (PutStep g) (sw.is_live (Some n) s.env) _ _ (pend n e todo vs h) (steps.stop g s callers env made this NotLive todo vs)

  pub raise_at : (v : Value) (e : raising.Event) (todo : List Todo) (vs : List Value) → O [] todo → PutStep g (polls.raise_at_step v e todo vs s)
  raise_at (Object o) e todo vs h = record { run = steps.finds g s callers env made this 0 [] todo vs tt h; callers = callers; env = env }
  raise_at v e todo vs h = pend_at (piece.exec_at v s.env) e todo vs h

  enabled_in : {e f : Env} (k : todos.K g s.env e) → f.exec ≡ e.exec → f.hand ≡ e.hand → f.house ≡ e.house → f.own ≡ e.own → todos.K g s.env f
  enabled_in k x h i o = kept.keeps_both (Runs g) (Waits g) (todos.calm g) k (kept.keeps_like (Runs g) (Waits g) (todos.calm g) k.env x h i o)

  pub enables : (events cell : ℕ) (todo : List Todo) → O [] todo → PutStep g (polls.enable_step events cell todo s)
  enables events cell todo h = steps.go_in g s callers env made this [] _ _ _ tt h (enabled_in (steps.write g s callers env made this (piece.variable_at cell s) (Number (signed_64 s.env.links.enabled))) refl refl refl refl)

  quiet_poll : (o : Option Pending) (todo : List Todo) → O ms todo → PutStep g (polls.quiet_poll o todo s)
  quiet_poll None todo h = steps.go g s callers env made this ms _ _ holds h
  quiet_poll (Some p) todo h = steps.go_in g s callers env made this (Any ∷ (Any ∷ (Any ∷ ms))) _ _ _ (tt, (tt, (tt, holds))) (tt, h) (steps.same g s callers env made this refl refl refl refl)

  poll_by : (b : Bool) (todo : List Todo) → O ms todo → PutStep g (polls.poll_by b todo s)
  poll_by true todo h = record { run = steps.finds g s callers env made this 3 ms (piece.DeliverNow ∷ todo) _ holds (tt, h); callers = callers; env = env }
  poll_by false todo h = quiet_poll (inside.oldest_enabled s.env.links) todo h

  pub poll : (todo : List Todo) → O ms todo → PutStep g (polls.poll_step todo s)
  poll todo h = either (PutStep g) (nat_eq s.env.links.enabled 0) _ _ (steps.go g s callers env made this ms _ _ holds h) (poll_by (inside.is_own s.env) todo h)

  pub deliver : (v : Value) (todo : List Todo) → O (rests 3 ms) todo → PutStep g (polls.deliver_step v todo s)
  deliver Nothing todo h = steps.go g s callers env made this (rests 3 ms) _ _ (steps.dropped g s callers env made this ms holds 3) h
  deliver v todo h = steps.go g s callers env made this ms _ _ holds (tt, (tt, h))
