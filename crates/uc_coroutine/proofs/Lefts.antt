-- The end of an activation that is unwound is what the source says.
use Rattle.std.proofs.Common.{◌≡◌, suc, List, [], ◌∷◌, length, map, Bool, true, false, Option, Some, None, refl, sym, ap, subst, ◌∙◌}
use Rattle.std.specs.Prelude.{if◌then◌else◌}
use Rattle.uc_tree.specs.Source.{Source}
use Rattle.uc_machine.specs.declared.exec.UnwindReason.{UnwindReason}
use Rattle.uc_machine.specs.declared.exec.UnwindReason.TheVariants as reason
use Rattle.uc_machine.specs.declared.exec.Visited.{Visited}
use Rattle.uc_machine.specs.Executions.{one_call_less, others, left_for, returned, unwound}
use Rattle.uc_machine.specs.Quiet as quiet
use Rattle.uc_machine.specs.Quiet.{Value, State, Step, Goes, quiet as step}
use Rattle.uc_machine.specs.Pieces.{Unwind}
use Rattle.uc_machine.specs.Raising.{arrives, escapes, why_by, pass_on, leave_for, leave_step, return_past, end_by}
use Rattle.uc_code.specs.Layout.{Laid}
use Rattle.uc_frames.specs.declared.cell.Cell.{Cell}
use Rattle.uc_frames.specs.Machine.{Activation, Machine, Cells, cell_of}
use Rattle.uc_frames.specs.StandsByParts.{Lined}
use Rattle.uc_frames.specs.Stands.{image, RunStands, CallerStands, EnvironmentStands, Stands}
use Rattle.uc_frames.specs.Calls.{left}
use Rattle.uc_frames.specs.Unwinding.{passed, unwound_by}
use Rattle.uc_frames.specs.UnwindingStands.{UnwindStands, Unwinds, LeavesNow, Returns}
use Rattle.uc_coroutine.specs.declared.leaving.Left.{Left}
use Rattle.uc_coroutine.specs.declared.leaving.Left.TheVariants.{Returned, Escaped}
use Rattle.uc_coroutine.specs.Unwinding.{goes_by, ending_by, passed_for, passed_as, left_as, past_of, Made}
use Rattle.uc_coroutine.specs.UnwindingSteps.{GoesTo, LeftAs, ReturnsPast}

frames_others : (fs : List (List Value)) → others (map (map cell_of) fs) ≡ map (map cell_of) (others fs)
frames_others [] = refl
frames_others (f ∷ fs) = refl

module _ (code : Laid) where
  pub same_count : (ms : List Activation) (cs : List quiet.Active) → Lined (CallerStands code) ms cs → length ms ≡ length cs
  same_count [] [] h = refl
  same_count [] (c ∷ cs) h = absurd h
  same_count (m ∷ ms) [] h = absurd h
  same_count (m ∷ ms) (c ∷ cs) h = ap suc (same_count ms cs h.1)

  -- a frame less, and an active call less
  pub env_left : (b : Bool) (e : Cells) (v : quiet.Env) → EnvironmentStands code e v → EnvironmentStands code (record e { frames = others e.frames; links = one_call_less b e.links }) (record v { frames = others v.frames; links = one_call_less b v.links })
  env_left b e v h = record {
    frames = ap others h.frames ∙ frames_others v.frames;
    links = ap (one_call_less b) h.links;
    exec = h.exec;
    own = h.own;
    house = h.house;
    depths = h.depths;
    hand = h.hand;
    gathered = h.gathered;
  }

  -- the one that waits goes on with what it is handed
  pub handed_on : (m : Activation) (c : quiet.Active) (x : Cell) (v : Value) → x ≡ cell_of v → RunStands code m c → RunStands code (record m { operands = x ∷ m.operands }) (record c { operands = v ∷ c.operands })
  handed_on m c x v e h = record {
    marks = h.marks;
    follows = h.follows;
    is =
        ap (λ (a : Activation). let b : Activation = record a { operands = x ∷ a.operands } in b) h.is
        ∙ ap (λ y. let b : Activation = record (image m.control c) { operands = y ∷ map cell_of c.operands } in b) e;
  }

  -- it is unwound in its turn
  pub unwound_on : (m : Activation) (c : quiet.Active) (why : UnwindReason) (x : Cell) (v : Value) → x ≡ cell_of v → CallerStands code m c → UnwindStands code (unwound_by why x m) (unwound (Unwind ∷ c.control) why v c)
  unwound_on m c why x v e h = record {
    rest = c.control;
    todo = refl;
    rows = record { marks = h.stands.marks; at = m.control; follows = h.stands.follows; under = h.under };
    is =
        ap (λ (a : Activation). unwound_by why x a) h.stands.is
        ∙ ap (λ y. unwound_by why y (image m.control c)) e;
  }

module _ (source : Source) (code : Laid) where
  module _ (old new : Machine) (s : State) (h : LeavesNow code old s) where
    abbrev r : Option UnwindReason
    r = s.run.raised

    raised_is : old.run.raised ≡ r
    raised_is = ap (λ (a : Activation). a.raised) h.run.is

    result_is : old.run.result ≡ cell_of s.run.result
    result_is = ap (λ (a : Activation). a.result) h.run.is

    counts_is : old.run.counts ≡ s.run.counts
    counts_is = ap (λ (a : Activation). a.counts) h.run.is

    step_is : step source s ≡ leave_step s.callers s
    step_is = ap (λ todo. quiet.act_todo source todo s) h.run.todo

    env_now : EnvironmentStands code (record old.env { frames = others old.env.frames; links = one_call_less old.run.counts old.env.links }) (record s.env { frames = others s.env.frames; links = one_call_less s.run.counts s.env.links })
    env_now = subst (λ b. EnvironmentStands code (record old.env { frames = others old.env.frames; links = one_call_less b old.env.links }) (record s.env { frames = others s.env.frames; links = one_call_less s.run.counts s.env.links })) (sym counts_is) (env_left code s.run.counts old.env s.env h.env)

    returns : (m : Activation) (ms : List Activation) (c : quiet.Active) (cs : List quiet.Active) → CallerStands code m c → Lined (CallerStands code) ms cs → step source s ≡ quiet.return_step s.run.result (c ∷ cs) s → new ≡ left old.run.result (m ∷ ms) old → GoesTo source code (Stands code) new s
    returns m ms c cs k l w q = record {
      after = returned (Some s.run.result) s.run.counts c cs s.env;
      by = w;
      stands = subst (λ (n : Machine). Stands code n (returned (Some s.run.result) s.run.counts c cs s.env)) (sym q)
          (record { run = handed_on code m c old.run.result s.run.result result_is k.stands; callers = l; env = env_now });
    }

    passes : (why : UnwindReason) (m : Activation) (ms : List Activation) (c : quiet.Active) (cs : List quiet.Active) → CallerStands code m c → Lined (CallerStands code) ms cs → step source s ≡ Goes (left_for s.run.counts (unwound (Unwind ∷ c.control) why s.run.result c) cs s.env) → new ≡ passed why old.run.result (m ∷ ms) old → GoesTo source code (Unwinds code) new s
    passes why m ms c cs k l w q = record {
      after = left_for s.run.counts (unwound (Unwind ∷ c.control) why s.run.result c) cs s.env;
      by = w;
      stands = subst (λ (n : Machine). Unwinds code n (left_for s.run.counts (unwound (Unwind ∷ c.control) why s.run.result c) cs s.env)) (sym q)
          (record { run = unwound_on code m c why old.run.result s.run.result result_is k; callers = l; env = env_now });
    }

    -- what becomes of it, by its reason
    by_reason : (o : Option UnwindReason) (m : Activation) (ms : List Activation) (c : quiet.Active) (cs : List quiet.Active) → CallerStands code m c → Lined (CallerStands code) ms cs → old.callers ≡ m ∷ ms → old.run.raised ≡ o → step source s ≡ pass_on o c cs s → new ≡ left_as (goes_by o) old → LeftAs source code (goes_by o) new s
    by_reason None m ms c cs k l i z w q = w
    by_reason (Some why) m ms c cs k l i z w q =
        let x : m.raised ≡ c.raised = ap (λ (a : Activation). a.raised) k.stands.is in
        passes (why_by why c.raised) m ms c cs k l w
        (q ∙ (ap (λ o. passed_as o old) z ∙ (ap (λ ns. passed_for why ns old) i ∙ ap (λ o. passed (why_by why o) old.run.result (m ∷ ms) old) x)))

    by_escape : (b : Bool) (m : Activation) (ms : List Activation) (c : quiet.Active) (cs : List quiet.Active) → CallerStands code m c → Lined (CallerStands code) ms cs → old.callers ≡ m ∷ ms → step source s ≡ leave_for b c cs s → new ≡ left_as (if b then Escaped else goes_by r) old → LeftAs source code (if b then Escaped else goes_by r) new s
    by_escape true m ms c cs k l i w q = w
    by_escape false m ms c cs k l i w q = by_reason r m ms c cs k l i raised_is w q

    by_arrival : (b : Bool) (m : Activation) (ms : List Activation) (c : quiet.Active) (cs : List quiet.Active) → CallerStands code m c → Lined (CallerStands code) ms cs → old.callers ≡ m ∷ ms → step source s ≡ (if b then quiet.return_step s.run.result (c ∷ cs) s else leave_for (escapes r c.raised) c cs s) → new ≡ left_as (if b then Returned else (if escapes r c.raised then Escaped else goes_by r)) old → LeftAs source code (if b then Returned else (if escapes r c.raised then Escaped else goes_by r)) new s
    by_arrival true m ms c cs k l i w q = returns m ms c cs k l w (q ∙ ap (λ ns. left old.run.result ns old) i)
    by_arrival false m ms c cs k l i w q = by_escape (escapes r c.raised) m ms c cs k l i w q

    ending_is : (m : Activation) (ms : List Activation) (c : quiet.Active) (cs : List quiet.Active) → CallerStands code m c → Lined (CallerStands code) ms cs → ending_by old.run.raised (m ∷ ms) ≡ (if arrives r (length (c ∷ cs)) then Returned else (if escapes r c.raised then Escaped else goes_by r))
    ending_is m ms c cs k l =
        let n : length (m ∷ ms) ≡ length (c ∷ cs) = ap suc (same_count code ms cs l) in
        let x : m.raised ≡ c.raised = ap (λ (a : Activation). a.raised) k.stands.is in
        ap (λ o. ending_by o (m ∷ ms)) raised_is
        ∙ (ap (λ j. if arrives r j then Returned else (if escapes r m.raised then Escaped else goes_by r)) n
        ∙ ap (λ o. if arrives r (length (c ∷ cs)) then Returned else (if escapes r o then Escaped else goes_by r)) x)

    by_callers : (ms : List Activation) (cs : List quiet.Active) (o : Left) → old.callers ≡ ms → step source s ≡ leave_step cs s → Lined (CallerStands code) ms cs → o ≡ ending_by old.run.raised ms → new ≡ left_as o old → LeftAs source code o new s
    by_callers [] [] o i w l e q = subst (λ x. LeftAs source code x new s) (sym e) w
    by_callers [] (c ∷ cs) o i w l e q = absurd l
    by_callers (m ∷ ms) [] o i w l e q = absurd l
    by_callers (m ∷ ms) (c ∷ cs) o i w l e q =
        let f : o ≡ (if arrives r (length (c ∷ cs)) then Returned else (if escapes r c.raised then Escaped else goes_by r)) = e ∙ ending_is m ms c cs l.0 l.1 in
        subst (λ x. LeftAs source code x new s) (sym f)
        (by_arrival (arrives r (length (c ∷ cs))) m ms c cs l.0 l.1 i w (q ∙ ap (λ x. left_as x old) f))

    pub leaves_as : (o : Left) → o ≡ ending_by old.run.raised old.callers → new ≡ left_as o old → LeftAs source code o new s
    leaves_as o e q = by_callers old.callers s.callers o refl step_is h.callers e q

abbrev end_at : Option Visited → Value → List quiet.Active → State → Step
end_at None given cs s = quiet.return_step given cs s
end_at (Some v) given cs s = return_past v given cs s

-- a return leaves a handler of resumptions
module _ (code : Laid) (old new : Machine) (s : State) (given : Cell) (value : Value) (g : given ≡ cell_of value) (h : Returns code old s) where
  env_past : EnvironmentStands code (record old.env { frames = others old.env.frames; links = one_call_less old.run.counts old.env.links }) (record s.env { frames = others s.env.frames; links = one_call_less s.run.counts s.env.links })
  env_past = subst (λ b. EnvironmentStands code (record old.env { frames = others old.env.frames; links = one_call_less b old.env.links }) (record s.env { frames = others s.env.frames; links = one_call_less s.run.counts s.env.links })) (sym h.counts) (env_left code s.run.counts old.env s.env h.env)

  past_by : (o : Option Visited) (ms : List Activation) (cs : List quiet.Active) → Lined (CallerStands code) ms cs → end_by s.run.handles value s ≡ end_at o value cs s → Made (past_of o given ms old) old true new → ReturnsPast code value new s
  past_by None ms cs l w m = absurd (cc)
  past_by (Some v) [] cs l w m = absurd (cc)
  past_by (Some v) (m ∷ ms) [] l w q = absurd l
  past_by (Some v) (m ∷ ms) (c ∷ cs) l w q =
      let t : State = left_for s.run.counts (unwound (Unwind ∷ c.control) (reason.ReturnTo v.home) value c) cs s.env in
      record { after = t; by = w; stands = subst (λ (n : Machine). Unwinds code n t) (sym q.1) (record { run = unwound_on code m c (reason.ReturnTo v.home) given value g l.0; callers = l.1; env = env_past }) }

  ends_at : (o : Option Visited) → end_by o value s ≡ end_at o value s.callers s
  ends_at None = refl
  ends_at (Some v) = refl

  pub returns_past : (b : Bool) → b ≡ true → Made (past_of old.run.handles given old.callers old) old b new → ReturnsPast code value new s
  returns_past b e m =
      let i : Made (past_of s.run.handles given old.callers old) old true new = subst (λ o. Made (past_of o given old.callers old) old true new) h.handles (subst (λ x. Made (past_of old.run.handles given old.callers old) old x new) e m) in
      past_by s.run.handles old.callers s.callers h.callers (ends_at s.run.handles) i
