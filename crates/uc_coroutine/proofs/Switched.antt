-- Switches are what the source does.
use Rattle.std.proofs.Common.{◌≡◌, ℕ, List, [], ◌∷◌, Option, Some, None, refl, sym, ap, subst, ◌∙◌}
use Rattle.uc_tree.specs.Source.{Source}
use Rattle.uc_machine.specs.declared.exec.UnwindReason.{UnwindReason}
use Rattle.uc_machine.specs.declared.exec.UnwindReason.TheVariants as reason
use Rattle.uc_entry.specs.declared.fault.RunFault.{RunFault}
use Rattle.uc_entry.specs.Faults.{fault_number}
use Rattle.uc_entry.specs.declared.request.Request.TheVariants as ask
use Rattle.uc_machine.specs.Executions.{calmed}
use Rattle.uc_machine.specs.Switches.{Moved, To, Stops, wake, suspend, finish, escape, taken_down, take_down}
use Rattle.uc_machine.specs.Quiet as quiet
use Rattle.uc_machine.specs.Quiet.{Todo, Value, FinishCoroutine, State, Goes, Asks, Quietly, stay, more, moves, at, line_of, quiet as step}
use Rattle.uc_machine.specs.Raising.{coroutine_left, unwind_past}
use Rattle.uc_code.specs.declared.rows.MainOf.TheVariants as main_of
use Rattle.uc_code.specs.Layout.{Laid}
use Rattle.uc_frames.specs.declared.cell.Cell.{Cell}
use Rattle.uc_frames.specs.Machine.{Activation, Machine, cell_of, own_exec, resumed}
use Rattle.uc_frames.specs.StandsByParts.{MovedStand, Numbered, MembersStand}
use Rattle.uc_frames.specs.Stands.{RunStands, CallerStands, EnvironmentStands, Stands}
use Rattle.uc_frames.specs.SwitchStands.{landing, Resumes, Suspends, TakesDown, EndsCoroutine}
use Rattle.uc_frames.specs.UnwindingStands.{EndsMain}
use Rattle.uc_frames.proofs.Finishes.{main_line}
use Rattle.uc_frames.proofs.Switches.{wake_both, suspend_both, finish_both, taken_down_both, take_down_both, escape_both}
use Rattle.uc_frames.proofs.Values.{own_exec_of, resumed_of, raised_stands}
use Rattle.uc_coroutine.specs.Switching.{fault_in, state_in, left_by, SwitchedAs}

module _ (source : Source) (code : Laid) (old new : Machine) (s : State) where
  -- both sides switch, or both stop by one fault, from a state behind this one
  moved_as : (b : State) → ((u : State) → Quietly source b u → Quietly source s u) → line_of b ≡ line_of s → (x : Moved ℕ Cell) (y : Moved (List Todo) Value) (t : State) → EnvironmentStands code old.env t.env → MovedStand (RunStands code) (CallerStands code) cell_of x y → step source b ≡ moves y t → (o : Option RunFault) → o ≡ fault_in x → new ≡ state_in old x → SwitchedAs source code o new s
  moved_as b on l (To m) (To u) t env h w o e q =
      subst (λ z. SwitchedAs source code z new s) (sym e) (record { after = u; by = on u (more w stay); stands = subst (λ (n : Machine). Stands code n u) (sym q) h })
  moved_as b on l (To m) (Stops g) t env h w o e q = absurd h
  moved_as b on l (Stops f) (To u) t env h w o e q = absurd h
  moved_as b on l (Stops f) (Stops g) t env h w o e q =
      let a : step source b ≡ Asks (ask.Fault (fault_number f)) t = w ∙ sym (ap (λ k. Asks (ask.Fault (fault_number k)) t) h) in
      let hand = subst (λ (n : Machine). Numbered (MembersStand (RunStands code) (CallerStands code) cell_of) n.env.hand t.env.hand) (sym q) env.hand in
      subst (λ z. SwitchedAs source code z new s) (sym e) (record { before = b; after = t; by = on b stay; line = l; asks = a; hand = hand })

  moved_now : (x : Moved ℕ Cell) (y : Moved (List Todo) Value) (t : State) → EnvironmentStands code old.env t.env → MovedStand (RunStands code) (CallerStands code) cell_of x y → step source s ≡ moves y t → (o : Option RunFault) → o ≡ fault_in x → new ≡ state_in old x → SwitchedAs source code o new s
  moved_now = moved_as s (λ u k. k) refl

  pub resumes_as : Resumes code old s → (o : Option RunFault) → o ≡ fault_in (wake (resumed old) old) → new ≡ state_in old (wake (resumed old) old) → SwitchedAs source code o new s
  resumes_as h o e q =
      let t : State = record s { run = record s.run { control = landing h.rest } } in
      moved_now (wake (resumed old) old) (wake (quiet.resumed s) t) t h.stands.env
      (wake_both (RunStands code) (CallerStands code) cell_of (resumed old) (quiet.resumed s) old t (resumed_of code old t h.stands) h.stands)
      (ap (λ todo. quiet.act_todo source todo s) h.todo) o e q

  pub suspends_as : Suspends code old s → (o : Option RunFault) → o ≡ fault_in (suspend old) → new ≡ state_in old (suspend old) → SwitchedAs source code o new s
  suspends_as h o e q =
      let t : State = record s { run = record s.run { control = landing h.rest } } in
      moved_now (suspend old) (suspend t) t h.stands.env (suspend_both (RunStands code) (CallerStands code) cell_of old t h.stands) (ap (λ todo. quiet.act_todo source todo s) h.todo) o e q

  pub takes_down_as : TakesDown code old s → (o : Option RunFault) → o ≡ fault_in (take_down (own_exec old) old) → new ≡ state_in old (take_down (own_exec old) old) → SwitchedAs source code o new s
  takes_down_as h o e q =
      let t : State = record s { run = record s.run { control = h.rest } } in
      let this : old.run.this ≡ cell_of s.run.this = ap (λ (a : Activation). a.this) h.stands.run.is in
      moved_now (take_down (own_exec old) old) (take_down (quiet.own_exec s) t) t h.stands.env
      (take_down_both (RunStands code) (CallerStands code) cell_of (raised_stands code) (own_exec old) (quiet.own_exec s) old t (own_exec_of code old t this h.stands.env) h.stands)
      (ap (λ todo. quiet.act_todo source todo s) h.todo) o e q

  pub ends_as : EndsCoroutine code old s → (o : Option RunFault) → o ≡ fault_in (finish old) → new ≡ state_in old (finish old) → SwitchedAs source code o new s
  ends_as h o e q =
      let t : State = at h.rest s.run.operands s in
      moved_now (finish old) (finish t) t h.env (finish_both (RunStands code) (CallerStands code) cell_of old t h.callers h.env) (ap (λ todo. quiet.act_todo source todo s) h.todo) o e q

  -- the main of a coroutine is left
  module _ (h : EndsMain code main_of.Coroutine old s) where
    abbrev t : State
    t = at h.run.rest [] s

    -- a return ends it
    abbrev calm : State
    calm = record s { run = calmed (FinishCoroutine ∷ h.run.rest) s.run }

    left_is : step source s ≡ coroutine_left s.run.raised h.run.rest s
    left_is = ap (λ todo. quiet.act_todo source todo s) h.run.todo ∙ ap (λ x. unwind_past x h.run.rest s) h.run.main

    escapes : step source s ≡ moves (escape t) t → (o : Option RunFault) → o ≡ fault_in (escape old) → new ≡ state_in old (escape old) → SwitchedAs source code o new s
    escapes w o e q = moved_now (escape old) (escape t) t h.env (escape_both (RunStands code) (CallerStands code) cell_of (raised_stands code) old t h.callers h.env) w o e q

    by_reason : (r : Option UnwindReason) → step source s ≡ coroutine_left r h.run.rest s → (o : Option RunFault) → o ≡ fault_in (left_by r old) → new ≡ state_in old (left_by r old) → SwitchedAs source code o new s
    by_reason None w o e q = escapes w o e q
    by_reason (Some (reason.Event n x y)) w o e q = escapes w o e q
    by_reason (Some (reason.ReturnTo home)) w o e q =
        let g : step source s ≡ Goes calm = w in
        let u : State = at h.run.rest [] calm in
        moved_as calm (λ z k. more g k) (sym (main_line code main_of.Coroutine old s h)) (finish old) (finish u) u h.env (finish_both (RunStands code) (CallerStands code) cell_of old u h.callers h.env) refl o e q
    by_reason (Some reason.Destroyed) w o e q =
        moved_now (taken_down old) (taken_down t) t h.env (taken_down_both (RunStands code) (CallerStands code) cell_of old t h.callers h.env) w o e q

    pub leaves_main_as : (o : Option RunFault) → o ≡ fault_in (left_by old.run.raised old) → new ≡ state_in old (left_by old.run.raised old) → SwitchedAs source code o new s
    leaves_main_as o e q =
        let r : old.run.raised ≡ s.run.raised = ap (λ (a : Activation). a.raised) h.run.is in
        by_reason s.run.raised left_is o (e ∙ ap (λ z. fault_in (left_by z old)) r) (q ∙ ap (λ z. state_in old (left_by z old)) r)
