-- The ends of blocks and mains that are unwound are those of the source.
use Rattle.std.proofs.Common.{◌≡◌, ℕ, ◌+◌, List, [], ◌∷◌, length, Bool, true, false, Option, Some, None, refl, sym, ap, subst, ◌∙◌}
use Rattle.uc_tree.specs.Source.{Source, ToReturn, Leaves}
use Rattle.uc_machine.specs.declared.exec.UnwindReason.{UnwindReason}
use Rattle.uc_machine.specs.declared.exec.UnwindReason.TheVariants as reason
use Rattle.uc_machine.specs.Executions.{calmed, returned}
use Rattle.uc_machine.specs.Quiet as quiet
use Rattle.uc_machine.specs.Quiet.{Finish, State, Goes, stay, more, nought, quiet as step}
use Rattle.uc_machine.specs.Pieces.{Unwind, LeaveNow, Exit}
use Rattle.uc_machine.specs.Monitors.{unless_held_up}
use Rattle.uc_machine.specs.Insides.{is_held_up}
use Rattle.uc_entry.specs.declared.fault.RunFault.TheVariants.{BlockedInside, Unhandled}
use Rattle.std.specs.Prelude.{if◌then◌else◌, slice_get}
use Rattle.uc_machine.specs.Raising.{arrives, whole_left, scope_left, main_left, unwind_past}
use Rattle.uc_code.specs.declared.op.Op.TheVariants as op
use Rattle.uc_code.specs.declared.rows.Instruction.{Instruction}
use Rattle.uc_code.specs.declared.rows.MainOf.TheVariants as main_of
use Rattle.uc_code.specs.Layout.{Laid}
use Rattle.uc_code.specs.CodeShapes.{OpAt, Arrived}
use Rattle.uc_frames.specs.Machine.{Activation, Machine}
use Rattle.uc_frames.specs.Machine as machine
use Rattle.uc_frames.specs.Objects.{arrived_at}
use Rattle.uc_frames.specs.StandsByParts.{Lined, Numbered, MembersStand}
use Rattle.uc_frames.specs.Stands.{FollowsAt, RunStands, CallerStands, Stands}
use Rattle.uc_frames.specs.Calls.{left}
use Rattle.uc_frames.proofs.Cleaned.{goes_on}
use Rattle.uc_frames.proofs.Finishes.{main_line}
use Rattle.uc_frames.proofs.Insides.{own_held_up_both}
use Rattle.uc_frames.specs.UnwindingStands.{TestsBlock, TestsCall, EndsMain, Unwinds}
use Rattle.uc_coroutine.specs.declared.testing.TaskMainEnd.{TaskMainEnd}
use Rattle.uc_coroutine.specs.declared.testing.TaskMainEnd.TheVariants as end
use Rattle.uc_coroutine.specs.UnwindingSteps.{Leads}
use Rattle.uc_coroutine.specs.MainEnds.{block_over, call_over, ended_by, returned_by, main_by, main_over, BlockLeft, MainLeft}
use Rattle.uc_coroutine.proofs.Lefts.{same_count, handed_on, env_left}

-- two ops at one place
same_arrival : (a b x y : ℕ) (o : Option Instruction) → o ≡ Some (record { op = op.Arrive a; line = x }) → o ≡ Some (record { op = op.Arrive b; line = y }) → a ≡ b
same_arrival a b x y o e f =
    let i : Instruction = record { op = op.Arrive a; line = x } in
    let j : Instruction = record { op = op.Arrive b; line = y } in
    let g : Some i ≡ Some j = sym e ∙ f in
    let h : i ≡ j = cc in
    let k : op.Arrive a ≡ op.Arrive b = ap (λ (z : Instruction). z.op) h in
    cc

module _ (source : Source) (code : Laid) (old new : Machine) (s : State) where
  module _ (h : TestsBlock code old s) where
    past_is : step source s ≡ whole_left (arrives s.run.raised (length s.callers)) h.run.rest s
    past_is = ap (λ todo. quiet.act_todo source todo s) h.run.todo ∙ ap (λ x. unwind_past x h.run.rest s) h.run.whole

    block_by : (b : Bool) → step source s ≡ whole_left b h.run.rest s → new ≡ block_over b (old.run.control + 1) old → BlockLeft source code b new s
    block_by true w q =
        let t : State = record s { run = calmed h.run.rest s.run } in
        record {
          after = t;
          by = w;
          stands = subst (λ (m : Machine). Stands code m t) (sym q) (record {
            run = record { marks = h.run.marks; follows = h.run.follows; is = ap (λ (a : Activation). calmed (old.run.control + 1) a) h.run.is };
            callers = h.callers;
            env = h.env;
          });
        }
    block_by false w q =
        let t : State = record s { run = record s.run { control = Unwind ∷ h.run.rest; operands = [] } } in
        record {
          after = t;
          by = w;
          stands = subst (λ (m : Machine). Unwinds code m t) (sym q) (record {
            run = record {
              rest = h.run.rest;
              todo = refl;
              rows = record { marks = h.run.marks; at = old.run.control + 1; follows = h.run.follows; under = h.run.tests.under };
              is = ap (λ (a : Activation). let b : Activation = record a { control = old.run.control + 1 } in b) h.run.is;
            };
            callers = h.callers;
            env = h.env;
          });
        }

    pub block_left : (b : Bool) (behind : ℕ) → behind ≡ old.run.control + 1 → b ≡ arrives old.run.raised (length old.callers) → new ≡ block_over b behind old → BlockLeft source code b new s
    block_left b behind k e q =
        let r : old.run.raised ≡ s.run.raised = ap (λ (a : Activation). a.raised) h.run.is in
        let n : length old.callers ≡ length s.callers = same_count code old.callers s.callers h.callers in
        let f : b ≡ arrives s.run.raised (length s.callers) = e ∙ (ap (λ o. arrives o (length old.callers)) r ∙ ap (arrives s.run.raised) n) in
        block_by b (past_is ∙ ap (λ c. whole_left c h.run.rest s) (sym f)) (q ∙ ap (λ j. block_over b j old) k)

  module _ (h : TestsCall code old s) where
    scope_is : step source s ≡ scope_left Leaves (arrives s.run.raised (length s.callers)) h.run.rest s
    scope_is = ap (λ todo. quiet.act_todo source todo s) h.run.todo ∙ ap (λ x. unwind_past x h.run.rest s) h.run.leaves

    -- where a return arrives, the call leaves its object and returns what that hands over
    arrived_follows : FollowsAt code (LeaveNow ∷ (Exit ToReturn ∷ h.run.rest)) h.run.marks h.run.pad.arrived
    arrived_follows =
        let p = h.run.pad.returns in
        record {
          from = h.run.pad.arrived;
          to = p.middle;
          leads = Arrived h.run.pad.arrived;
          piece = p.first;
          on = record { from = p.middle; to = h.run.at; leads = Arrived p.middle; piece = record { end = h.run.back; exit = p.second }; on = h.run.follows };
        }

    -- else it leaves its object, and unwinding goes on
    left_follows : FollowsAt code (LeaveNow ∷ (Unwind ∷ h.run.rest)) h.run.marks (old.run.control + 1)
    left_follows =
        let p = h.run.pad.unwinds in
        record {
          from = old.run.control + 1;
          to = p.middle;
          leads = Arrived (old.run.control + 1);
          piece = p.first;
          on = goes_on code h.run.rest h.run.marks p.middle p.middle h.run.pad.arrived h.run.at (Arrived p.middle) p.second h.run.follows;
        }

    call_by : (b : Bool) → step source s ≡ scope_left Leaves b h.run.rest s → new ≡ call_over b h.run.pad.arrived (old.run.control + 1) old → Leads source code (Stands code) new s
    call_by true w q =
        let t : State = record s { run = record (calmed (LeaveNow ∷ (Exit ToReturn ∷ h.run.rest)) s.run) { operands = s.run.result ∷ [] } } in
        record {
          after = t;
          by = more w stay;
          stands = subst (λ (m : Machine). Stands code m t) (sym q) (record {
            run = record { marks = h.run.marks; follows = arrived_follows; is = ap (λ (a : Activation). arrived_at h.run.pad.arrived a) h.run.is };
            callers = h.callers;
            env = h.env;
          });
        }
    call_by false w q =
        let t : State = record s { run = record s.run { control = LeaveNow ∷ (Unwind ∷ h.run.rest); operands = [] } } in
        record {
          after = t;
          by = more w stay;
          stands = subst (λ (m : Machine). Stands code m t) (sym q) (record {
            run = record { marks = h.run.marks; follows = left_follows; is = ap (λ (a : Activation). let b : Activation = record a { control = old.run.control + 1 } in b) h.run.is };
            callers = h.callers;
            env = h.env;
          });
        }

    pub call_left : (b : Bool) (arrived behind line : ℕ) → OpAt code old.run.control (op.Arrive arrived) line → behind ≡ old.run.control + 1 → b ≡ arrives old.run.raised (length old.callers) → new ≡ call_over b arrived behind old → Leads source code (Stands code) new s
    call_left b arrived behind line o k e q =
        let r : old.run.raised ≡ s.run.raised = ap (λ (a : Activation). a.raised) h.run.is in
        let n : length old.callers ≡ length s.callers = same_count code old.callers s.callers h.callers in
        let f : b ≡ arrives s.run.raised (length s.callers) = e ∙ (ap (λ x. arrives x (length old.callers)) r ∙ ap (arrives s.run.raised) n) in
        let to : arrived ≡ h.run.pad.arrived = same_arrival arrived h.run.pad.arrived _ _ (slice_get code.ops old.run.control) o.here h.run.pad.arrives.here in
        call_by b (scope_is ∙ ap (λ c. scope_left Leaves c h.run.rest s) (sym f)) (q ∙ (ap (λ j. call_over b j behind old) to ∙ ap (λ j. call_over b h.run.pad.arrived j old) k))

  module _ (h : EndsMain code main_of.Task old s) where
    main_is : step source s ≡ main_left s.run.raised h.run.rest s
    main_is = ap (λ todo. quiet.act_todo source todo s) h.run.todo ∙ ap (λ x. unwind_past x h.run.rest s) h.run.main

    -- a return ends it
    abbrev calm : State
    calm = record s { run = calmed (Finish ∷ h.run.rest) s.run }

    -- what is in hand stands still
    hand_same : new ≡ old → Numbered (MembersStand (RunStands code) (CallerStands code) machine.cell_of) new.env.hand s.env.hand
    hand_same q = subst (λ (m : Machine). Numbered (MembersStand (RunStands code) (CallerStands code) machine.cell_of) m.env.hand s.env.hand) (sym q) h.env.hand

    -- the step at its end
    finish_is : step source calm ≡ unless_held_up s.env.own (quiet.return_step nought s.callers calm) h.run.rest calm
    finish_is = refl

    held_if : (b : Bool) → is_held_up s.env.own s.env ≡ b → step source calm ≡ (if b then quiet.fault BlockedInside h.run.rest [] calm else quiet.return_step nought s.callers calm)
    held_if b e = finish_is ∙ ap (λ x. if x then quiet.fault BlockedInside h.run.rest [] calm else quiet.return_step nought s.callers calm) e

    ended : (ms : List Activation) (cs : List quiet.Active) → old.callers ≡ ms → s.callers ≡ cs → Lined (CallerStands code) ms cs → step source s ≡ Goes calm → step source calm ≡ quiet.return_step nought s.callers calm → new ≡ main_over (ended_by ms) old → MainLeft source code (ended_by ms) new s
    ended [] [] i j l w v q = record {
      before = calm;
      after = calm;
      by = more w stay;
      line = sym (main_line code main_of.Task old s h);
      asks = v ∙ ap (λ cs. quiet.return_step nought cs calm) j;
      hand = hand_same q;
    }
    ended [] (c ∷ cs) i j l w v q = absurd l
    ended (m ∷ ms) [] i j l w v q = absurd l
    ended (m ∷ ms) (c ∷ cs) i j l w v q =
        let t : State = returned (Some nought) s.run.counts c cs s.env in
        let b : old.run.counts ≡ s.run.counts = ap (λ (a : Activation). a.counts) h.run.is in
        let u = env_left code s.run.counts old.env s.env h.env in
        let p : new ≡ left machine.nought (m ∷ ms) old = q ∙ ap (λ ns. left machine.nought ns old) i in
        let y : step source calm ≡ Goes t = v ∙ ap (λ ns. quiet.return_step nought ns calm) j in
        let z : Stands code (returned (Some machine.nought) s.run.counts m ms old.env) t = record { run = handed_on code m c machine.nought nought refl l.0.stands; callers = l.1; env = u } in
        record { after = t; by = more w (more y stay); stands = subst (λ (n : Machine). Stands code n t) (sym p) (subst (λ k. Stands code (returned (Some machine.nought) k m ms old.env) t) (sym b) z) }

    -- where the task is held up in its own object, that is a fault
    returned_as : (b : Bool) → is_held_up s.env.own s.env ≡ b → step source s ≡ Goes calm → new ≡ main_over (returned_by b old.callers) old → MainLeft source code (returned_by b old.callers) new s
    returned_as true e w q = record { before = calm; after = _; by = more w stay; line = sym (main_line code main_of.Task old s h); asks = held_if true e; hand = hand_same q }
    returned_as false e w q = ended old.callers s.callers refl refl h.callers w (held_if false e) q

    abbrev held : Bool
    held = is_held_up old.env.own old.env

    unhandled : step source s ≡ quiet.fault Unhandled h.run.rest [] s → new ≡ old → MainLeft source code end.Unhandled new s
    unhandled w q = record { before = s; after = quiet.at h.run.rest [] s; by = stay; line = refl; asks = w; hand = hand_same q }

    by_reason : (o : Option UnwindReason) (e : TaskMainEnd) → old.run.raised ≡ o → s.run.raised ≡ o → e ≡ main_by held o old.callers → new ≡ main_over e old → MainLeft source code e new s
    by_reason None e i j k q = subst (λ x. MainLeft source code x new s) (sym k) (unhandled (main_is ∙ ap (λ o. main_left o h.run.rest s) j) (q ∙ ap (λ x. main_over x old) k))
    by_reason (Some (reason.Event n x y)) e i j k q = subst (λ x. MainLeft source code x new s) (sym k) (unhandled (main_is ∙ ap (λ o. main_left o h.run.rest s) j) (q ∙ ap (λ x. main_over x old) k))
    by_reason (Some (reason.ReturnTo home)) e i j k q =
        subst (λ x. MainLeft source code x new s) (sym k) (returned_as held (sym (own_held_up_both _ _ _ old.env s.env h.env)) (main_is ∙ ap (λ o. main_left o h.run.rest s) j) (q ∙ ap (λ x. main_over x old) k))
    by_reason (Some reason.Destroyed) e i j k q = subst (λ x. MainLeft source code x new s) (sym k) (unhandled (main_is ∙ ap (λ o. main_left o h.run.rest s) j) (q ∙ ap (λ x. main_over x old) k))

    pub main_left_as : (e : TaskMainEnd) → e ≡ main_by held old.run.raised old.callers → new ≡ main_over e old → MainLeft source code e new s
    main_left_as e k q =
        let r : s.run.raised ≡ old.run.raised = sym (ap (λ (a : Activation). a.raised) h.run.is) in
        by_reason old.run.raised e refl r k q
