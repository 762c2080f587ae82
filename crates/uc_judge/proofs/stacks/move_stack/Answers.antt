use Rattle.std.proofs.Common.{◌≡◌, ◌==◌, not, true, false, map, ap, sym, ◌∙◌, rules}
use Rattle.std.specs.List.{filter}
use Rattle.std.proofs.lemmas.Fn.{filter_same}
use Rattle.std.proofs.lemmas.Int.{ints}
use Rattle.uc_acts.specs.Journal.{holds}
use Rattle.uc_acts.specs.Doors.{OnStack, taken_off, met_top, admitted_past, stack_after}
use Rattle.uc_judge.specs.ClauseStacks.{as_on_stack}
use Rattle.uc_judge.proofs.Stacking.{map_kept}
use Rattle.uc_judge.proofs.stacks.move_stack.Goals as goal

pub returns-then-e-eq1-3 : goal.returns-then-e-eq1-3
returns-then-e-eq1-3 c =
    let e = c.args.e.now in
    let f = as_on_stack c.args.sites.now in
    let old = c.args.rows.now.items in
    let kept : c.retain.new.self.items ≡ filter (λ r. not (r.task == e.task)) old = filter_same _ (λ r. not (r.task == e.task)) _ (λ x b f' k. search rules) _ _ c.retain.ensures.filtered in
    let off : map f c.retain.new.self.items ≡ taken_off e.task (map f old) = ap (map f) kept ∙ map_kept f (λ (s : OnStack). not (s.task == e.task)) old in
    let t : holds 1 e.a ≡ true = search (rules, ints) in
    c.meet_top.ensures ∙ ap (met_top e.task c.args.called) off ∙ sym (ap (λ b. admitted_past b e.task c.args.called (taken_off e.task (map f old))) t) ∙ ap (λ k. stack_after c.args.sites.now k e c.args.called (map f old)) (sym c.in-Admit.is)

pub returns-else-e-eq1-3 : goal.returns-else-e-eq1-3
returns-else-e-eq1-3 c =
    let e = c.args.e.now in
    let f = as_on_stack c.args.sites.now in
    let old = c.args.rows.now.items in
    let kept : c.retain.new.self.items ≡ filter (λ r. not (r.task == e.task)) old = filter_same _ (λ r. not (r.task == e.task)) _ (λ x b f' k. search rules) _ _ c.retain.ensures.filtered in
    let off : map f c.retain.new.self.items ≡ taken_off e.task (map f old) = ap (map f) kept ∙ map_kept f (λ (s : OnStack). not (s.task == e.task)) old in
    let t : holds 1 e.a ≡ false = search (rules, ints) in
    off ∙ sym (ap (λ b. admitted_past b e.task c.args.called (taken_off e.task (map f old))) t) ∙ ap (λ k. stack_after c.args.sites.now k e c.args.called (map f old)) (sym c.in-Admit.is)
