-- What an event leads to leaves less to do.
use Rattle.std.proofs.Common.{◌≡◌, ℕ, ◌+◌, ◌^◌, ◌<◌, List, [], ◌∷◌, length, ◌⊎◌, inl, inr, Option, Some, None, Bool, true, false, refl, sym, ap, subst, ◌∙◌, arith}
use Rattle.std.specs.Prelude.{◌&&◌, nat_eq, slice_get, if◌then◌else◌}
use Rattle.std.proofs.lemmas.Bool.{eq-eqb}
use Rattle.uc_machine.specs.declared.exec.UnwindReason.{UnwindReason}
use Rattle.uc_machine.specs.declared.exec.UnwindReason.TheVariants as reason
use Rattle.uc_machine.specs.declared.exec.Visited.{Visited}
use Rattle.uc_machine.specs.Raising.{why_by}
use Rattle.uc_code.specs.declared.op.Op.TheVariants as op
use Rattle.uc_code.specs.declared.rows.HandlerRow.{HandlerRow}
use Rattle.uc_code.specs.declared.rows.RowKind.{RowKind}
use Rattle.uc_code.specs.declared.rows.RowKind.TheVariants as kind
use Rattle.uc_code.specs.Codes.{Code}
use Rattle.uc_code.specs.Layout.{laid_of, chain}
use Rattle.uc_code.specs.Pace.{burden, In, IsPaced}
use Rattle.uc_frames.specs.declared.cell.Cell.{Cell}
use Rattle.uc_frames.specs.declared.event.Event.{Event}
use Rattle.uc_frames.specs.declared.search.HandlerQuery.TheVariants.{Catch, Stop}
use Rattle.uc_frames.specs.PaceInvariant.{Whole, Behind, Entry, AllWait, taken_at, UnwoundBelow, LeavesBelow, RaisesBelow}
use Rattle.uc_frames.specs.Calls.{left}
use Rattle.uc_frames.specs.Machine.{Activation, Machine, nought}
use Rattle.uc_frames.specs.Searches.{catches, row_takes, is_found, is_named, first_in}
use Rattle.uc_frames.specs.Unwinding.{passed}
use Rattle.uc_frames.specs.Weight.{waits}
use Rattle.uc_frames.proofs.Keeps.{Moves, goes, returns_below}
use Rattle.uc_frames.proofs.Landing.{first_among, lands, tested_over, tested_on, passes, passes_less, leaves_unwound, may_leave, unwound_as}
use Rattle.uc_except.specs.declared.found.Found.TheVariants.{Handler}
use Rattle.uc_except.specs.Handling.{thrown, handled_at, handled_by, resumed_by, handler_begun}
use Rattle.uc_coroutine.specs.declared.leaving.Left.{Left}
use Rattle.uc_coroutine.specs.declared.leaving.Left.TheVariants as leave
use Rattle.uc_coroutine.specs.declared.testing.TaskMainEnd.TheVariants as end
use Rattle.uc_coroutine.specs.MainEnds.{block_over, call_over, main_by, main_over}
use Rattle.uc_coroutine.specs.Unwinding.{point_in, cleaned_by, passed_on, step_by, step_of, Made, ending_by, passed_for, passed_as, left_as, past_of}
use Rattle.uc_step.specs.WeightFalls.{RunLowers}
use Rattle.uc_ride.specs.UnwindingFalls.{left_in, Entered}

module _ (code : Code) (w : ℕ) where
  -- the handler of a resumption that is found
  pub found_goes : (event frame row : ℕ) (e : Event) (m n : Machine) → RaisesBelow (laid_of code) code.routines w m → taken_at code.rows None event (m.run ∷ m.callers) ≡ Some (frame, row) → n ≡ handler_begun code.rows (Handler frame row) e m → RunLowers code w n
  found_goes event frame row e m n u q b =
      let t = u.takes event frame row q in
      let x = b ∙ (ap (λ o. handled_at o frame e m) t.there ∙ (ap (λ k. handled_by k t.handler frame e m) t.kind ∙ ap (λ o. resumed_by o t.handler frame e m) t.here)) in
      t.begins n (ap (λ (y : Machine). y.callers) x) (ap (λ (y : Machine). y.run.control) x) (ap (λ (y : Machine). y.run.handles) x) (ap (λ (y : Machine). y.run.elements) x)

  pub found_env : (event frame row : ℕ) (e : Event) (m n : Machine) → RaisesBelow (laid_of code) code.routines w m → taken_at code.rows None event (m.run ∷ m.callers) ≡ Some (frame, row) → n ≡ handler_begun code.rows (Handler frame row) e m → n.env ≡ record m.env { frames = [] ∷ m.env.frames }
  found_env event frame row e m n u q b =
      let t = u.takes event frame row q in
      let x = b ∙ (ap (λ o. handled_at o frame e m) t.there ∙ (ap (λ k. handled_by k t.handler frame e m) t.kind ∙ ap (λ o. resumed_by o t.handler frame e m) t.here)) in
      ap (λ (y : Machine). y.env) x

  -- a row that catches

  pub record Catcher (n : ℕ) (ns : List ℕ) : Type 0 where
    pub entry : Entry (laid_of code) n ns
    pub catches : entry.row.kind ≡ kind.Catch

  is_catch : (k : RowKind) (b : Bool) → (catches k && b) ≡ true → k ≡ kind.Catch
  is_catch kind.Catch b e = refl
  is_catch kind.CatchResume b e = absurd (cc)
  is_catch kind.CleanUp b e = absurd (cc)

  caught_row : (event n : ℕ) (o : Option HandlerRow) (ns : List ℕ) → slice_get code.rows n ≡ o → is_found (Catch event) n o ≡ true → Catcher n (n ∷ ns)
  caught_row event n None ns q e = absurd (cc)
  caught_row event n (Some r) ns q e = record { entry = record { row = r; there = q; behind = ns; last = Whole (n ∷ ns) }; catches = is_catch r.kind (row_takes event r) e }

  caught_later : (x n : ℕ) (ns : List ℕ) → Catcher n ns → Catcher n (x ∷ ns)
  caught_later x n ns c = record { entry = record { row = c.entry.row; there = c.entry.there; behind = c.entry.behind; last = Behind x (n ∷ c.entry.behind) ns c.entry.last }; catches = c.catches }

  chosen : (b : Bool) (n m : ℕ) (other : Option ℕ) → (if b then Some n else other) ≡ Some m → ((b ≡ true) × (n ≡ m)) ⊎ (other ≡ Some m)
  chosen true n m other e = inl (refl, cc)
  chosen false n m other e = inr e

  catcher_of : (event m : ℕ) (ns : List ℕ) → first_in (Catch event) code.rows ns ≡ Some m → Catcher m ns
  catcher_of event m [] e = absurd (cc)
  catcher_of event m (n ∷ ns) e = elim (chosen (is_found (Catch event) n (slice_get code.rows n)) n m (first_in (Catch event) code.rows ns) e) [
    | inl u ↦ subst (λ k. Catcher k (n ∷ ns)) u.1 (caught_row event n (slice_get code.rows n) ns refl u.0)
    | inr u ↦ caught_later n m ns (catcher_of event m ns u)
  ]

  -- the handler that catches an event begins in the running activation
  pub catch_goes : (event frame row : ℕ) (e : Event) (m n : Machine) → UnwoundBelow (laid_of code) code.routines w m → m.run.elements < 2 ^ 32 → first_in (Catch event) code.rows (chain code.rows m.run.control) ≡ Some row → n ≡ handler_begun code.rows (Handler frame row) e m → RunLowers code w n
  catch_goes event frame row e m n u few q b =
      let c = catcher_of event row (chain code.rows m.run.control) q in
      let x = b ∙ (ap (λ o. handled_at o frame e m) c.entry.there ∙ ap (λ k. handled_by k c.entry.row frame e m) c.catches) in
      lands (laid_of code) code.routines w m n u row c.entry (ap (λ (y : Machine). y.callers) x) (ap (λ (y : Machine). y.run.control) x) (ap (λ (y : Machine). y.run.elements) x) (ap (λ (y : Machine). y.run.handles) x) (ap (λ (y : Machine). y.run.counts) x) few

  pub catch_env : (event frame row : ℕ) (e : Event) (m n : Machine) → first_in (Catch event) code.rows (chain code.rows m.run.control) ≡ Some row → n ≡ handler_begun code.rows (Handler frame row) e m → n.env ≡ m.env
  catch_env event frame row e m n q b =
      let c = catcher_of event row (chain code.rows m.run.control) q in
      let x = b ∙ (ap (λ o. handled_at o frame e m) c.entry.there ∙ ap (λ k. handled_by k c.entry.row frame e m) c.catches) in
      ap (λ (y : Machine). y.env) x

  -- a clean-up begins

  made : (o : Option Machine) (m n : Machine) → Made o m true n → o ≡ Some n
  made None m n (e, f) = absurd (cc)
  made (Some x) m n (e, f) = ap (λ (y : Machine). Some y) (sym f)

  same_machine : (a b : Machine) → Some a ≡ Some b → a ≡ b
  same_machine a b e = cc

  nothing : (o : Option Machine) (n : Machine) → o ≡ None → o ≡ Some n → ⊥
  nothing o n e f = let x : None ≡ Some n = sym e ∙ f in absurd (cc)

  not_here : (b : Bool) (o : Option Machine) (n : Machine) → b ≡ true → (if b then None else o) ≡ Some n → ⊥
  not_here true o n e f = nothing None n refl f
  not_here false o n e f = absurd (cc)

  cleaned : (b : Bool) (x n : Machine) → (if b then None else Some x) ≡ Some n → x ≡ n
  cleaned true x n e = absurd (nothing None n refl e)
  cleaned false x n e = same_machine x n e

  entered_by : (frame : ℕ) (row : Option ℕ) (m n : Machine) (left : ℕ) → UnwoundBelow (laid_of code) code.routines w m → left_in code m ≡ left → frame ≡ length m.callers → m.run.elements < 2 ^ 32 → (o : Option ℕ) → first_in (Stop (point_in frame row (length m.callers))) code.rows (chain code.rows m.run.control) ≡ o → step_by code.rows frame row o m ≡ Some n → Entered code w left n
  entered_by frame row m n left u is here few None q e =
      absurd (not_here (nat_eq (length m.callers) frame) (passed_on m.run.raised m.callers m) n (eq-eqb (length m.callers) frame (sym here)) e)
  entered_by frame row m n left u is here few (Some k) q e =
      let a = first_among (laid_of code) code.routines (Stop (point_in frame row (length m.callers))) k (chain code.rows m.run.control) q in
      let x = sym (cleaned (is_named (point_in frame row (length m.callers)) k) (cleaned_by (slice_get code.rows k) m) n e) ∙ ap (λ o. cleaned_by o m) a.there in
      record {
        old = m;
        below = u;
        is = is;
        row = k;
        entry = a;
        callers = ap (λ (y : Machine). y.callers) x;
        control = ap (λ (y : Machine). y.run.control) x;
        elements = ap (λ (y : Machine). y.run.elements) x;
        handles = ap (λ (y : Machine). y.run.handles) x;
        counts = ap (λ (y : Machine). y.run.counts) x;
        few = few;
      }

  pub entered : (frame : ℕ) (row : Option ℕ) (m n : Machine) (left : ℕ) → UnwoundBelow (laid_of code) code.routines w m → left_in code m ≡ left → frame ≡ length m.callers → m.run.elements < 2 ^ 32 → Made (step_of code.rows frame row m) m true n → Entered code w left n
  entered frame row m n left u is here few g =
      entered_by frame row m n left u is here few (first_in (Stop (point_in frame row (length m.callers))) code.rows (chain code.rows m.run.control)) refl (made (step_of code.rows frame row m) m n g)

  entered_env_by : (frame : ℕ) (row : Option ℕ) (m n : Machine) → frame ≡ length m.callers → (o : Option ℕ) → first_in (Stop (point_in frame row (length m.callers))) code.rows (chain code.rows m.run.control) ≡ o → step_by code.rows frame row o m ≡ Some n → n.env ≡ m.env
  entered_env_by frame row m n here None q e =
      absurd (not_here (nat_eq (length m.callers) frame) (passed_on m.run.raised m.callers m) n (eq-eqb (length m.callers) frame (sym here)) e)
  entered_env_by frame row m n here (Some k) q e =
      let a = first_among (laid_of code) code.routines (Stop (point_in frame row (length m.callers))) k (chain code.rows m.run.control) q in
      let x = sym (cleaned (is_named (point_in frame row (length m.callers)) k) (cleaned_by (slice_get code.rows k) m) n e) ∙ ap (λ o. cleaned_by o m) a.there in
      ap (λ (y : Machine). y.env) x

  pub entered_env : (frame : ℕ) (row : Option ℕ) (m n : Machine) → frame ≡ length m.callers → Made (step_of code.rows frame row m) m true n → n.env ≡ m.env
  entered_env frame row m n here g =
      entered_env_by frame row m n here (first_in (Stop (point_in frame row (length m.callers))) code.rows (chain code.rows m.run.control)) refl (made (step_of code.rows frame row m) m n g)

  -- what has begun is executed
  pub entered_goes : (left : ℕ) (m : Machine) → Entered code w left m → RunLowers code w m
  entered_goes left m g = lands (laid_of code) code.routines w g.old m g.below g.row g.entry g.callers g.control g.elements g.handles g.counts g.few

  -- the test at the end of a block

  module _ (paced : IsPaced (laid_of code) code.routines) (left : ℕ) (m n : Machine) (g : Entered code w left m) (line : ℕ) (is : slice_get code.ops m.run.control ≡ Some (record { op = op.Handled; line = line })) where
    here : slice_get code.ops g.entry.row.entry ≡ Some (record { op = op.Handled; line = line })
    here = subst (λ k. slice_get code.ops k ≡ Some (record { op = op.Handled; line = line })) g.control is

    behind : m.run.control + 1 ≡ g.entry.row.entry + 1
    behind = ap (λ k. k + 1) g.control

    pub over_goes : n ≡ block_over true (m.run.control + 1) m → RunLowers code w n
    over_goes b =
        let p = paced.each g.entry.row.entry (record { op = op.Handled; line = line }) here in
        tested_over (laid_of code) code.routines w g.old n g.below g.row g.entry p.1 (λ t i. (t.each g.entry.row.entry (record { op = op.Handled; line = line }) i here).0)
        (ap (λ (y : Machine). y.callers) b ∙ g.callers) (ap (λ (y : Machine). y.run.control) b ∙ behind) (ap (λ (y : Machine). y.run.elements) b ∙ g.elements) (ap (λ (y : Machine). y.run.handles) b ∙ g.handles) (ap (λ (y : Machine). y.run.counts) b ∙ g.counts) g.few

    pub on_falls : n ≡ block_over false (m.run.control + 1) m → UnwoundBelow (laid_of code) code.routines w n × (left_in code n < left)
    on_falls b =
        let p = paced.each g.entry.row.entry (record { op = op.Handled; line = line }) here in
        let u =
        tested_on (laid_of code) code.routines w g.old n g.below g.row g.entry p.0 (λ t i. (t.each g.entry.row.entry (record { op = op.Handled; line = line }) i here).1)
        (ap (λ (y : Machine). y.callers) b ∙ g.callers) (ap (λ (y : Machine). y.run.control) b ∙ behind) (ap (λ (y : Machine). y.run.elements) b ∙ g.elements) (ap (λ (y : Machine). y.run.handles) b ∙ g.handles) (ap (λ (y : Machine). y.run.counts) b ∙ g.counts) g.few in
        (u.below, subst (λ k. left_in code n < k) g.is u.less)

  -- the test at the end of a mutex call, whether or not a return arrives

  less_then : (x y z : ℕ) → x < y → y < z → x < z
  less_then x y z l h = omega arith

  module _ (paced : IsPaced (laid_of code) code.routines) (left : ℕ) (m n : Machine) (g : Entered code w left m) (to line : ℕ) (is : slice_get code.ops m.run.control ≡ Some (record { op = op.Arrive to; line = line })) where
    arrived_goes : (x : ℕ) → n.run.control ≡ x → n.callers ≡ m.callers → n.run.elements ≡ m.run.elements → n.run.handles ≡ m.run.handles → n.run.counts ≡ m.run.counts → ((e : ℕ) → burden code.ops x e < burden code.ops m.run.control e) → Moves (laid_of code) code.routines m.run.control x → RunLowers code w n
    arrived_goes x p c i h k l s =
        let k0 = entered_goes left m g in
        let b : burden code.ops n.run.control n.run.elements < burden code.ops m.run.control m.run.elements = rw (p, i) (l m.run.elements) in
        let v = goes (laid_of code) code.routines m n c h k b (λ t j. subst (λ y. In (laid_of code) code.routines t.from t.to y) (sym p) (s t j)) k0.1 in
        (less_then _ _ w v.0 k0.0, v.1)

    pub call_goes : (over : Bool) → n ≡ call_over over to (m.run.control + 1) m → RunLowers code w n
    call_goes true b =
        let p = paced.each m.run.control (record { op = op.Arrive to; line = line }) is in
        arrived_goes to (ap (λ (y : Machine). y.run.control) b) (ap (λ (y : Machine). y.callers) b) (ap (λ (y : Machine). y.run.elements) b) (ap (λ (y : Machine). y.run.handles) b) (ap (λ (y : Machine). y.run.counts) b) p.0
        (λ t i. (t.each m.run.control (record { op = op.Arrive to; line = line }) i is).0)
    call_goes false b =
        let p = paced.each m.run.control (record { op = op.Arrive to; line = line }) is in
        arrived_goes (m.run.control + 1) (ap (λ (y : Machine). y.run.control) b) (ap (λ (y : Machine). y.callers) b) (ap (λ (y : Machine). y.run.elements) b) (ap (λ (y : Machine). y.run.handles) b) (ap (λ (y : Machine). y.run.counts) b) p.1
        (λ t i. (t.each m.run.control (record { op = op.Arrive to; line = line }) i is).1)

  -- the one that waits goes on

  returned_by : (given : Cell) (m n : Machine) (us : List Activation) → m.callers ≡ us → (us ≡ [] → ⊥) → n ≡ left given us m → LeavesBelow (laid_of code) code.routines w m → RunLowers code w n
  returned_by given m n [] e f b u = absurd (f refl)
  returned_by given m n (c ∷ us) e f b u =
      returns_below (laid_of code) code.routines w m n c us e (ap (λ (y : Machine). y.callers) b) (ap (λ (y : Machine). y.run.control) b) (ap (λ (y : Machine). y.run.elements) b) (ap (λ (y : Machine). y.run.handles) b) (ap (λ (y : Machine). y.run.counts) b) u

  pub returned_goes : (given : Cell) (m n : Machine) → (m.callers ≡ [] → ⊥) → n ≡ left given m.callers m → LeavesBelow (laid_of code) code.routines w m → RunLowers code w n
  returned_goes given m n f b u = returned_by given m n m.callers refl f b u

  -- where a main has begun to end
  pub entered_leaves : (l : ℕ) (m : Machine) → Entered code w l m → LeavesBelow (laid_of code) code.routines w m
  entered_leaves l m g =
      let u = may_leave (laid_of code) code.routines w g.old g.below in
      record {
        callers = subst (λ us. AllWait (laid_of code) code.routines us) (sym g.callers) u.callers;
        left = subst (λ us. waits code.ops us < w) (sym g.callers) u.left;
      }

  -- the one that waits is unwound in its turn

  passed_by : (why : UnwindReason) (m n : Machine) (us : List Activation) → m.callers ≡ us → (us ≡ [] → ⊥) → n ≡ passed why m.run.result us m → UnwoundBelow (laid_of code) code.routines w m → UnwoundBelow (laid_of code) code.routines w n × (left_in code n < left_in code m)
  passed_by why m n [] e f b u = absurd (f refl)
  passed_by why m n (c ∷ us) e f b u =
      let p = ap (λ (y : Machine). y.callers) b in
      let q = ap (λ (y : Machine). y.run.control) b in
      let i = ap (λ (y : Machine). y.run.elements) b in
      let h = ap (λ (y : Machine). y.run.handles) b in
      let k = ap (λ (y : Machine). y.run.counts) b in
      (passes (laid_of code) code.routines w m n c us e p q i h k u, passes_less (laid_of code) code.routines m n c us e p q i h k)

  passed_on_by : (why : UnwindReason) (m n : Machine) (us : List Activation) → m.callers ≡ us → (us ≡ [] → ⊥) → n ≡ passed_for why us m → UnwoundBelow (laid_of code) code.routines w m → UnwoundBelow (laid_of code) code.routines w n × (left_in code n < left_in code m)
  passed_on_by why m n [] e f b u = absurd (f refl)
  passed_on_by why m n (c ∷ us) e f b u = passed_by (why_by why c.raised) m n (c ∷ us) e f b u

  pub passed_falls : (why : UnwindReason) (m n : Machine) → (m.callers ≡ [] → ⊥) → n ≡ passed_for why m.callers m → UnwoundBelow (laid_of code) code.routines w m → UnwoundBelow (laid_of code) code.routines w n × (left_in code n < left_in code m)
  passed_falls why m n f b u = passed_on_by why m n m.callers refl f b u

  -- an event is thrown
  pub thrown_goes : (why : UnwindReason) (m n : Machine) → n ≡ thrown why m → UnwoundBelow (laid_of code) code.routines w m → UnwoundBelow (laid_of code) code.routines w n
  thrown_goes why m n b u =
      unwound_as (laid_of code) code.routines w m n (ap (λ (y : Machine). y.callers) b) (ap (λ (y : Machine). y.run.control) b) (ap (λ (y : Machine). y.run.elements) b) (ap (λ (y : Machine). y.run.handles) b) (ap (λ (y : Machine). y.run.counts) b) u

  -- a return leaves a handler

  past_by : (o : Option Visited) (given : Cell) (m n : Machine) (us : List Activation) → m.callers ≡ us → (us ≡ [] → ⊥) → Made (past_of o given us m) m true n → LeavesBelow (laid_of code) code.routines w m → UnwoundBelow (laid_of code) code.routines w n
  past_by None given m n us e f (x, b) u = absurd (cc)
  past_by (Some v) given m n [] e f g u = absurd (f refl)
  past_by (Some v) given m n (c ∷ us) e f (x, b) u =
      leaves_unwound (laid_of code) code.routines w m n c us e (ap (λ (y : Machine). y.callers) b) (ap (λ (y : Machine). y.run.control) b) (ap (λ (y : Machine). y.run.elements) b) (ap (λ (y : Machine). y.run.handles) b) (ap (λ (y : Machine). y.run.counts) b) u

  pub past_goes : (given : Cell) (m n : Machine) (made : Bool) → made ≡ true → Made (past_of m.run.handles given m.callers m) m made n → LeavesBelow (laid_of code) code.routines w m × (m.callers ≡ [] → ⊥) → UnwoundBelow (laid_of code) code.routines w n
  past_goes given m n made e g u = past_by m.run.handles given m n m.callers refl u.1 (subst (λ b. Made (past_of m.run.handles given m.callers m) m b n) e g) u.0

  -- a main ends for one that waits

  main_calls : (held : Bool) (r : Option UnwindReason) (us : List Activation) → end.Returned ≡ main_by held r us → us ≡ [] → ⊥
  main_calls held None us e f = absurd (cc)
  main_calls held (Some (reason.Event n x y)) us e f = absurd (cc)
  main_calls true (Some (reason.ReturnTo home)) us e f = absurd (cc)
  main_calls false (Some (reason.ReturnTo home)) [] e f = absurd (cc)
  main_calls false (Some (reason.ReturnTo home)) (c ∷ us) e f = absurd (cc)
  main_calls held (Some reason.Destroyed) us e f = absurd (cc)

  pub main_goes : (l : ℕ) (m n : Machine) (held : Bool) → end.Returned ≡ main_by held m.run.raised m.callers → n ≡ main_over end.Returned m → Entered code w l m → RunLowers code w n
  main_goes l m n held e b g = returned_goes nought m n (main_calls held m.run.raised m.callers e) b (entered_leaves l m g)

  -- the running activation is left

  waits_for : (r : Option UnwindReason) (us : List Activation) (o : Left) → o ≡ ending_by r us → (o ≡ leave.Ended → ⊥) → us ≡ [] → ⊥
  waits_for r [] o e f g = f e
  waits_for r (c ∷ us) o e f g = absurd (cc)

  returned_is : leave.Returned ≡ leave.Ended → ⊥
  returned_is e = absurd (cc)

  passed_is : leave.PassedOn ≡ leave.Ended → ⊥
  passed_is e = absurd (cc)

  pub leave_returns : (m n : Machine) → leave.Returned ≡ ending_by m.run.raised m.callers → n ≡ left_as leave.Returned m → UnwoundBelow (laid_of code) code.routines w m → RunLowers code w n
  leave_returns m n e b u = returned_goes m.run.result m n (waits_for m.run.raised m.callers leave.Returned e returned_is) b (may_leave (laid_of code) code.routines w m u)

  why_passed : (r : Option UnwindReason) (us : List Activation) → leave.PassedOn ≡ ending_by r us → (why : UnwindReason) × (r ≡ Some why)
  why_passed None [] e = absurd (cc)
  why_passed None (c ∷ us) e = absurd (cc)
  why_passed (Some why) us e = (why, refl)

  pub leave_passes : (m n : Machine) → leave.PassedOn ≡ ending_by m.run.raised m.callers → n ≡ left_as leave.PassedOn m → UnwoundBelow (laid_of code) code.routines w m → UnwoundBelow (laid_of code) code.routines w n × (left_in code n < left_in code m)
  leave_passes m n e b u =
      let y = why_passed m.run.raised m.callers e in
      passed_falls y.0 m n (waits_for m.run.raised m.callers leave.PassedOn e passed_is) (b ∙ ap (λ o. passed_as o m) y.1) u
