-- What an event or a switch leads to leaves less to do in all executions.
use Rattle.std.proofs.Common.{◌≡◌, ℕ, ◌+◌, ◌^◌, ◌<◌, List, [], ◌∷◌, length, Option, Some, None, Bool, true, false, refl, sym, ap, subst, arith}
use Rattle.std.specs.Prelude.{slice_get}
use Rattle.uc_machine.specs.declared.exec.UnwindReason.{UnwindReason}
use Rattle.uc_machine.specs.declared.exec.UnwindReason.TheVariants as reason
use Rattle.uc_machine.specs.declared.exec.Visited.{Visited}
use Rattle.uc_entry.specs.declared.fault.RunFault.{RunFault}
use Rattle.uc_entry.specs.declared.request.Asked.{Asked}
use Rattle.uc_entry.specs.declared.request.Request.TheVariants as ask
use Rattle.uc_machine.specs.Executions.{Links, one_call_less}
use Rattle.uc_entry.specs.Faults.{fault_number}
use Rattle.uc_machine.specs.Switches.{Moved, To, Stops, wake, suspend, finish, escape, taken_down, take_down}
use Rattle.uc_code.specs.declared.op.Op.TheVariants as op
use Rattle.uc_code.specs.Codes.{Code}
use Rattle.uc_code.specs.Layout.{laid_of, chain}
use Rattle.uc_code.specs.Pace.{IsPaced}
use Rattle.uc_frames.specs.declared.cell.Cell.{Cell}
use Rattle.uc_frames.specs.declared.event.Event.{Event}
use Rattle.uc_frames.specs.declared.search.HandlerQuery.TheVariants.{Catch}
use Rattle.uc_frames.specs.PaceInvariant.{taken_at, Idly, Within, Goes, ResumesBelow}
use Rattle.uc_frames.specs.Calls.{left}
use Rattle.uc_frames.specs.Machine.{Activation, Machine, Cells, nought, own_exec, resumed}
use Rattle.uc_frames.specs.Searches.{first_in}
use Rattle.uc_frames.specs.Unwinding.{passed}
use Rattle.uc_frames.proofs.Idling.{same_idly}
use Rattle.uc_frames.proofs.Shifts.{within_idly, wake_goes, suspend_goes, finish_goes, taken_down_goes, escape_goes, take_down_goes}
use Rattle.uc_except.specs.declared.found.Found.TheVariants.{Handler}
use Rattle.uc_except.specs.Handling.{thrown, handler_begun}
use Rattle.uc_coroutine.specs.declared.leaving.Left.TheVariants as leave
use Rattle.uc_coroutine.specs.declared.testing.TaskMainEnd.TheVariants as end
use Rattle.uc_coroutine.specs.MainEnds.{block_over, call_over, main_by, main_over}
use Rattle.uc_coroutine.specs.Switching.{fault_in, state_in, left_by}
use Rattle.uc_coroutine.specs.Unwinding.{step_of, Made, ending_by, passed_for, passed_as, left_as, past_of}
use Rattle.uc_step.specs.Effects.{Effect, Quiet, Ask, Throw, Raise, Unwind, Past, Resume, Suspend, TakeDown, EndMain}
use Rattle.uc_step.specs.WeightFalls.{AskFalls, RunFalls, FallsBelow}
use Rattle.uc_ride.specs.UnwindingFalls.{left_in, stop_by, Entered, EnteredBelow}
use Rattle.uc_ride.proofs.Falling.{found_goes, found_env, catch_goes, catch_env, entered, entered_env, entered_goes, entered_leaves, over_goes, on_falls, call_goes, main_goes, leave_returns, leave_passes, thrown_goes, past_goes}

less_stage : (b : Bool) (l : Links) → (one_call_less b l).stage ≡ l.stage
less_stage true l = refl
less_stage false l = refl

-- where a switch is no fault, it leads to this
moved_to : (x : Moved ℕ Cell) (old n : Machine) → None ≡ fault_in x → n ≡ state_in old x → x ≡ To n
moved_to (To m) old n e q = ap To (sym q)
moved_to (Stops f) old n e q = absurd (cc)

-- where it is one, all stays as it is
pub moved_same : (x : Moved ℕ Cell) (old n : Machine) (f : RunFault) → Some f ≡ fault_in x → n ≡ state_in old x → n ≡ old
moved_same (To m) old n f e q = absurd (cc)
moved_same (Stops g) old n f e q = q

module _ (code : Code) (w : ℕ) where
  abbrev Falls : Effect → Machine → Type 0
  Falls how m = FallsBelow code w how m

  idly_as : (m n : Machine) (e : Cells) → n.env ≡ e → Idly (laid_of code) code.routines m.env e → Idly (laid_of code) code.routines m.env n.env
  idly_as m n e q i = subst (λ x. Idly (laid_of code) code.routines m.env x) (sym q) i

  same_env : (m n : Machine) → n.env ≡ m.env → Idly (laid_of code) code.routines m.env n.env
  same_env m n q = idly_as m n m.env q (same_idly (laid_of code) code.routines m.env m.env refl refl refl)

  -- frames and calls alone are others
  called_env : (m n : Machine) (fs : List (List Cell)) (b : Bool) → n.env ≡ record m.env { frames = fs; links = one_call_less b m.env.links } → Idly (laid_of code) code.routines m.env n.env
  called_env m n fs b q =
      idly_as m n (record m.env { frames = fs; links = one_call_less b m.env.links }) q
      (same_idly (laid_of code) code.routines m.env (record m.env { frames = fs; links = one_call_less b m.env.links }) refl refl (less_stage b m.env.links))

  -- requests behind which the task does not go on

  pub end_falls : (P : ℕ → Machine → Type 0) (m n : Machine) (a : Asked) (line : ℕ) → a ≡ record { request = ask.End; line = line } → n ≡ m → Within (laid_of code) code.routines P w m → Falls (Ask a) n
  end_falls P m n a line q e h =
      within_idly (laid_of code) code.routines P (RunFalls code (Ask a)) w m n (same_env m n (ap (λ (x : Machine). x.env) e))
      (λ v p. subst (λ (b : Asked). AskFalls code v b.request n) (sym q) tt) h

  pub fault_falls : (P : ℕ → Machine → Type 0) (m n : Machine) (a : Asked) (k line : ℕ) → a ≡ record { request = ask.Fault k; line = line } → n ≡ m → Within (laid_of code) code.routines P w m → Falls (Ask a) n
  fault_falls P m n a k line q e h =
      within_idly (laid_of code) code.routines P (RunFalls code (Ask a)) w m n (same_env m n (ap (λ (x : Machine). x.env) e))
      (λ v p. subst (λ (b : Asked). AskFalls code v b.request n) (sym q) tt) h

  -- a switch, whether or not it is a fault
  pub switch_falls : (P : ℕ → Machine → Type 0) (m n : Machine) (line : ℕ) (o : Option RunFault) (how : Effect) → (None ≡ o → Falls Quiet n) → ((f : RunFault) → Some f ≡ o → n ≡ m) → how ≡ stop_by line o → Within (laid_of code) code.routines P w m → Falls how n
  switch_falls P m n line None how q e i h = subst (λ x. Falls x n) (sym i) (q refl)
  switch_falls P m n line (Some f) how q e i h =
      let b : Asked = record { request = ask.Fault (fault_number f); line = line } in
      subst (λ x. Falls x n) (sym i) (fault_falls P m n b (fault_number f) line refl (e f refl) h)

  -- events

  pub thrown_falls : (e : Event) (why : UnwindReason) (m n : Machine) → n ≡ thrown why m → Falls (Throw e) m → Falls Unwind n
  thrown_falls e why m n b h =
      within_idly (laid_of code) code.routines (RunFalls code (Throw e)) (RunFalls code Unwind) w m n (same_env m n (ap (λ (x : Machine). x.env) b)) (λ v u. thrown_goes code v why m n b u) h

  pub raised_falls : (e : Event) (why : UnwindReason) (m n : Machine) → n ≡ thrown why m → Falls (Raise e) m → Falls Unwind n
  raised_falls e why m n b h =
      within_idly (laid_of code) code.routines (RunFalls code (Raise e)) (RunFalls code Unwind) w m n (same_env m n (ap (λ (x : Machine). x.env) b)) (λ v u. thrown_goes code v why m n b u.thrown) h

  pub found_falls : (event frame row : ℕ) (e : Event) (m n : Machine) → taken_at code.rows None event (m.run ∷ m.callers) ≡ Some (frame, row) → n ≡ handler_begun code.rows (Handler frame row) e m → Falls (Raise e) m → Falls Quiet n
  found_falls event frame row e m n q b h =
      let i = idly_as m n (record m.env { frames = [] ∷ m.env.frames }) (found_env code h.part event frame row e m n h.is q b) (same_idly (laid_of code) code.routines m.env (record m.env { frames = [] ∷ m.env.frames }) refl refl refl) in
      within_idly (laid_of code) code.routines (RunFalls code (Raise e)) (RunFalls code Quiet) w m n i (λ v u. found_goes code v event frame row e m n u q b) h

  pub caught_falls : (event frame row : ℕ) (e : Event) (m n : Machine) → m.run.elements < 2 ^ 32 → first_in (Catch event) code.rows (chain code.rows m.run.control) ≡ Some row → n ≡ handler_begun code.rows (Handler frame row) e m → Falls Unwind m → Falls Quiet n
  caught_falls event frame row e m n few q b h =
      within_idly (laid_of code) code.routines (RunFalls code Unwind) (RunFalls code Quiet) w m n (same_env m n (catch_env code w event frame row e m n q b)) (λ v u. catch_goes code v event frame row e m n u few q b) h

  -- the entry of a row begins

  pub entered_below : (frame : ℕ) (row : Option ℕ) (m n : Machine) → frame ≡ length m.callers → m.run.elements < 2 ^ 32 → Made (step_of code.rows frame row m) m true n → Falls Unwind m → EnteredBelow code w (left_in code m) n
  entered_below frame row m n here few g h =
      within_idly (laid_of code) code.routines (RunFalls code Unwind) (λ v x. Entered code v (left_in code m) x) w m n (same_env m n (entered_env code w frame row m n here g)) (λ v u. entered code v frame row m n (left_in code m) u refl here few g) h

  pub entered_falls : (left : ℕ) (m : Machine) → EnteredBelow code w left m → Falls Quiet m
  entered_falls left m h =
      within_idly (laid_of code) code.routines (λ v x. Entered code v left x) (RunFalls code Quiet) w m m (same_env m m refl) (λ v g. entered_goes code v left m g) h

  -- the test at the end of a block

  module _ (paced : IsPaced (laid_of code) code.routines) (left : ℕ) (m n : Machine) (h : EnteredBelow code w left m) (line : ℕ) (is : slice_get code.ops m.run.control ≡ Some (record { op = op.Handled; line = line })) where
    pub over_falls : n ≡ block_over true (m.run.control + 1) m → Falls Quiet n
    over_falls b =
        within_idly (laid_of code) code.routines (λ v x. Entered code v left x) (RunFalls code Quiet) w m n (same_env m n (ap (λ (x : Machine). x.env) b)) (λ v g. over_goes code v paced left m n g line is b) h

    pub tested_falls : n ≡ block_over false (m.run.control + 1) m → Falls Unwind n × (left_in code n < left)
    tested_falls b = (
      within_idly (laid_of code) code.routines (λ v x. Entered code v left x) (RunFalls code Unwind) w m n (same_env m n (ap (λ (x : Machine). x.env) b)) (λ v g. (on_falls code v paced left m n g line is b).0) h,
      (on_falls code h.part paced left m n h.is line is b).1,
    )

  -- the test at the end of a mutex call

  call_env : (over : Bool) (to behind : ℕ) (m n : Machine) → n ≡ call_over over to behind m → n.env ≡ m.env
  call_env true to behind m n b = ap (λ (x : Machine). x.env) b
  call_env false to behind m n b = ap (λ (x : Machine). x.env) b

  pub called_falls : (paced : IsPaced (laid_of code) code.routines) (left : ℕ) (m n : Machine) (to line : ℕ) (over : Bool) → slice_get code.ops m.run.control ≡ Some (record { op = op.Arrive to; line = line }) → n ≡ call_over over to (m.run.control + 1) m → EnteredBelow code w left m → Falls Quiet n
  called_falls paced left m n to line over is b h =
      within_idly (laid_of code) code.routines (λ v x. Entered code v left x) (RunFalls code Quiet) w m n (same_env m n (call_env over to (m.run.control + 1) m n b)) (λ v g. call_goes code v paced left m n g to line is over b) h

  -- an activation is left

  left_env : (given : Cell) (m n : Machine) (us : List Activation) → n ≡ left given us m → Idly (laid_of code) code.routines m.env n.env
  left_env given m n [] b = same_env m n (ap (λ (x : Machine). x.env) b)
  left_env given m n (c ∷ us) b = called_env m n _ m.run.counts (ap (λ (x : Machine). x.env) b)

  passed_env : (why : UnwindReason) (given : Cell) (m n : Machine) (us : List Activation) → n ≡ passed why given us m → Idly (laid_of code) code.routines m.env n.env
  passed_env why given m n [] b = same_env m n (ap (λ (x : Machine). x.env) b)
  passed_env why given m n (c ∷ us) b = called_env m n _ m.run.counts (ap (λ (x : Machine). x.env) b)

  passed_for_env : (why : UnwindReason) (m n : Machine) (us : List Activation) → n ≡ passed_for why us m → Idly (laid_of code) code.routines m.env n.env
  passed_for_env why m n [] b = same_env m n (ap (λ (x : Machine). x.env) b)
  passed_for_env why m n (c ∷ us) b = called_env m n _ m.run.counts (ap (λ (x : Machine). x.env) b)

  passed_as_env : (o : Option UnwindReason) (m n : Machine) → n ≡ passed_as o m → Idly (laid_of code) code.routines m.env n.env
  passed_as_env None m n b = same_env m n (ap (λ (x : Machine). x.env) b)
  passed_as_env (Some why) m n b = passed_for_env why m n m.callers b

  past_env : (o : Option Visited) (given : Cell) (m n : Machine) (us : List Activation) → Made (past_of o given us m) m true n → Idly (laid_of code) code.routines m.env n.env
  past_env None given m n us (x, b) = absurd (cc)
  past_env (Some v) given m n [] (x, b) = absurd (cc)
  past_env (Some v) given m n (c ∷ us) (x, b) = passed_env (reason.ReturnTo v.home) given m n (c ∷ us) b

  pub main_falls : (l : ℕ) (m n : Machine) (held : Bool) → end.Returned ≡ main_by held m.run.raised m.callers → n ≡ main_over end.Returned m → EnteredBelow code w l m → Falls Quiet n
  main_falls l m n held e b h =
      within_idly (laid_of code) code.routines (λ v x. Entered code v l x) (RunFalls code Quiet) w m n (left_env nought m n m.callers b) (λ v g. main_goes code v l m n held e b g) h

  pub returned_falls : (m n : Machine) → leave.Returned ≡ ending_by m.run.raised m.callers → n ≡ left_as leave.Returned m → Falls Unwind m → Falls Quiet n
  returned_falls m n e b h =
      within_idly (laid_of code) code.routines (RunFalls code Unwind) (RunFalls code Quiet) w m n (left_env m.run.result m n m.callers b) (λ v u. leave_returns code v m n e b u) h

  pub passed_on_falls : (m n : Machine) → leave.PassedOn ≡ ending_by m.run.raised m.callers → n ≡ left_as leave.PassedOn m → Falls Unwind m → Falls Unwind n × (left_in code n < left_in code m)
  passed_on_falls m n e b h = (
    within_idly (laid_of code) code.routines (RunFalls code Unwind) (RunFalls code Unwind) w m n (passed_as_env m.run.raised m n b) (λ v u. (leave_passes code v m n e b u).0) h,
    (leave_passes code h.part m n e b h.is).1,
  )

  pub past_falls : (given : Cell) (m n : Machine) (made : Bool) → made ≡ true → Made (past_of m.run.handles given m.callers m) m made n → Falls (Past given) m → Falls Unwind n
  past_falls given m n made e g h =
      let f : Made (past_of m.run.handles given m.callers m) m true n = subst (λ b. Made (past_of m.run.handles given m.callers m) m b n) e g in
      within_idly (laid_of code) code.routines (RunFalls code (Past given)) (RunFalls code Unwind) w m n (past_env m.run.handles given m n m.callers f) (λ v u. past_goes code v given m n made e g u) h

  -- switches

  as_quiet : (n : Machine) → Within (laid_of code) code.routines (Goes (laid_of code) code.routines) w n → Falls Quiet n
  as_quiet n h = within_idly (laid_of code) code.routines (Goes (laid_of code) code.routines) (RunFalls code Quiet) w n n (same_env n n refl) (λ v g. g) h

  pub resumed_falls : (m n : Machine) → None ≡ fault_in (wake (resumed m) m) → n ≡ state_in m (wake (resumed m) m) → Falls Resume m → Falls Quiet n
  resumed_falls m n e q h =
      let u = within_idly (laid_of code) code.routines (RunFalls code Resume) (ResumesBelow (laid_of code) code.routines) w m m (same_env m m refl) (λ v g. g) h in
      as_quiet n (wake_goes (laid_of code) code.routines m n w u (moved_to (wake (resumed m) m) m n e q))

  pub suspended_falls : (m n : Machine) → None ≡ fault_in (suspend m) → n ≡ state_in m (suspend m) → Falls Suspend m → Falls Quiet n
  suspended_falls m n e q h =
      let u = within_idly (laid_of code) code.routines (RunFalls code Suspend) (Goes (laid_of code) code.routines) w m m (same_env m m refl) (λ v g. g) h in
      as_quiet n (suspend_goes (laid_of code) code.routines m n w u (moved_to (suspend m) m n e q))

  pub taken_falls : (m n : Machine) → None ≡ fault_in (take_down (own_exec m) m) → n ≡ state_in m (take_down (own_exec m) m) → Falls TakeDown m → Falls Quiet n
  taken_falls m n e q h =
      let u = within_idly (laid_of code) code.routines (RunFalls code TakeDown) (Goes (laid_of code) code.routines) w m m (same_env m m refl) (λ v g. g) h in
      as_quiet n (take_down_goes (laid_of code) code.routines (own_exec m) m n w u (moved_to (take_down (own_exec m) m) m n e q))

  pub finished_falls : (m n : Machine) → None ≡ fault_in (finish m) → n ≡ state_in m (finish m) → Falls EndMain m → Falls Quiet n
  finished_falls m n e q h =
      let l = h.is in
      let f = h.fits in
      as_quiet n (finish_goes (laid_of code) code.routines m n w (omega arith) h.others (moved_to (finish m) m n e q))

  left_by_falls : (o : Option UnwindReason) (l : ℕ) (m n : Machine) → None ≡ fault_in (left_by o m) → n ≡ state_in m (left_by o m) → EnteredBelow code w l m → Falls Quiet n
  left_by_falls None l m n e q h =
      let u = (entered_leaves code h.part l m h.is).left in
      let f = h.fits in
      as_quiet n (escape_goes (laid_of code) code.routines m n w (omega arith) h.others (moved_to (escape m) m n e q))
  left_by_falls (Some (reason.Event k x y)) l m n e q h =
      let u = (entered_leaves code h.part l m h.is).left in
      let f = h.fits in
      as_quiet n (escape_goes (laid_of code) code.routines m n w (omega arith) h.others (moved_to (escape m) m n e q))
  left_by_falls (Some (reason.ReturnTo home)) l m n e q h =
      let u = (entered_leaves code h.part l m h.is).left in
      let f = h.fits in
      as_quiet n (finish_goes (laid_of code) code.routines m n w (omega arith) h.others (moved_to (finish m) m n e q))
  left_by_falls (Some reason.Destroyed) l m n e q h =
      let u = (entered_leaves code h.part l m h.is).left in
      let f = h.fits in
      as_quiet n (taken_down_goes (laid_of code) code.routines m n w (omega arith) h.others (moved_to (taken_down m) m n e q))

  pub coroutine_falls : (l : ℕ) (m n : Machine) → None ≡ fault_in (left_by m.run.raised m) → n ≡ state_in m (left_by m.run.raised m) → EnteredBelow code w l m → Falls Quiet n
  coroutine_falls l m n e q h = left_by_falls m.run.raised l m n e q h
