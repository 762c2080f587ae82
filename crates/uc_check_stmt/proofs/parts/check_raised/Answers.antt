use Rattle.std.proofs.Common.{◌≡◌, [], ◌∷◌, ap, sym, ◌∙◌}
use Rattle.uc_rules.specs.Entities.{count}
use Rattle.uc_rules.specs.Visits.{AtEvent, AtRaise, args_visits, event_target}
use Rattle.uc_types.specs.FirstBreak.{with_visits, first_break_after}
use Rattle.uc_check_stmt.proofs.Joined.{noted_append}
use Rattle.uc_check_stmt.proofs.parts.check_raised.Goals as goal

pub returns : goal.returns
returns c =
    let env = c.args.names.now in
    let r = c.args.raised.now in
    let at = c.args.at in
    let f = c.args.found.now in
    let visits = args_visits env r.args (event_target env r.name) 0 in
    let event : c.ask_event.new.found ≡ first_break_after f (AtEvent env r.pos r.name) = c.ask_event.ensures ∙ ap (λ x. first_break_after f (AtEvent env x.pos x.name)) c.raised.view_is in
    let args : c.check_raised_args-count.new.found ≡ with_visits (first_break_after f (AtEvent env r.pos r.name)) visits = c.check_raised_args-count.ensures.breaks ∙ ap (λ g. with_visits g visits) event in
    let counted : first_break_after c.check_raised_args-count.new.found (AtRaise env at c.raised.inside.name c.check_raised_args-count.result) ≡ first_break_after c.check_raised_args-count.new.found (AtRaise env at r.name (count r.args)) =
    ap (λ n. first_break_after c.check_raised_args-count.new.found (AtRaise env at c.raised.inside.name n)) c.check_raised_args-count.ensures.count ∙ ap (λ x. first_break_after c.check_raised_args-count.new.found (AtRaise env at x.name (count r.args))) c.raised.view_is in
    c.ask_raise.ensures ∙ counted ∙ ap (λ g. first_break_after g (AtRaise env at r.name (count r.args))) args ∙ sym (noted_append (first_break_after f (AtEvent env r.pos r.name)) visits (AtRaise env at r.name (count r.args) ∷ []))
