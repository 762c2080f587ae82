use Rattle.std.proofs.Common.{◌≡◌, ◌==◌, ◌&&◌, not, [], ◌∷◌, ◌++◌, ap, sym, ◌∙◌, rules, append-nil}
use Rattle.std.specs.Option.{option_to_list}
use Rattle.std.specs.List.{filter}
use Rattle.std.proofs.lemmas.Fn.{filter_same}
use Rattle.uc_acts.specs.Queues.{takes_off}
use Rattle.uc_judge.specs.Scheduled.{placed}
use Rattle.uc_judge.proofs.schedule.move_running.Goals as goal

pub returns-in-Some : goal.returns-in-Some
returns-in-Some c =
    let e = c.args.e.now in
    let old = c.args.running.now.items in
    let kept : c.retain.new.self.items ≡ filter (λ r. not ((e.proc == r.1) && takes_off e.kind e r.0)) old = filter_same _ (λ r. not ((e.proc == r.1) && takes_off e.kind e r.0)) _ (λ x b f' k. search rules) _ _ c.retain.ensures.filtered in
    c.push_reserved.ensures.items ∙ ap (λ l. l ++ (c.in-Some.task, c.from-processor.result) ∷ []) kept ∙ ap (λ q. filter (λ r. not ((e.proc == r.1) && takes_off e.kind e r.0)) old ++ (c.in-Some.task, q) ∷ []) c.from-processor.ensures ∙ ap (λ o. filter (λ r. not ((e.proc == r.1) && takes_off e.kind e r.0)) old ++ option_to_list (placed (λ t. e.proc) o)) (sym c.in-Some.is)

pub returns-in-None : goal.returns-in-None
returns-in-None c =
    let e = c.args.e.now in
    let old = c.args.running.now.items in
    let kept : c.retain.new.self.items ≡ filter (λ r. not ((e.proc == r.1) && takes_off e.kind e r.0)) old = filter_same _ (λ r. not ((e.proc == r.1) && takes_off e.kind e r.0)) _ (λ x b f' k. search rules) _ _ c.retain.ensures.filtered in
    kept ∙ sym (append-nil _) ∙ ap (λ o. filter (λ r. not ((e.proc == r.1) && takes_off e.kind e r.0)) old ++ option_to_list (placed (λ t. e.proc) o)) (sym c.in-None.is)
