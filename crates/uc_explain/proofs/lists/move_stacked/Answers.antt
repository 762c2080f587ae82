use Rattle.std.proofs.Common.{◌≡◌, ◌<◌, not, ◌∷◌, ◌++◌, ap, sym, ◌∙◌, rules, arith}
use Rattle.std.specs.Prelude.{vec_len, vec_capacity}
use Rattle.std.specs.Option.{option_to_list}
use Rattle.std.specs.List.{filter}
use Rattle.std.proofs.lemmas.Fn.{filter_same}
use Rattle.uc_acts.specs.Queues.{admits}
use Rattle.uc_explain.proofs.WaitLemmas.{when_ok}
use Rattle.uc_explain.proofs.lists.move_stacked.Goals as goal

pub returns-in-Some : goal.returns-in-Some
returns-in-Some c =
    let e = c.args.e.now in
    let old = c.args.stacked.now.items in
    let kept : c.retain.new.self.items ≡ filter (λ t. not (admits e.kind e t)) old = filter_same _ (λ t. not (admits e.kind e t)) _ (λ x b f' k. search rules) _ _ c.retain.ensures.filtered in
    let room : vec_len c.retain.new.self < vec_capacity c.retain.new.self = omega arith in
    c.insert-put.ensures.items ∙ when_ok _ _ _ (c.insert-put.ensures.succeeds room) ∙ ap (λ l. c.in-Some.task ∷ l) kept ∙ ap (λ o. option_to_list o ++ filter (λ t. not (admits e.kind e t)) old) (sym c.in-Some.is ∙ c.task_stacked.ensures)

pub returns-in-None : goal.returns-in-None
returns-in-None c =
    let e = c.args.e.now in
    let old = c.args.stacked.now.items in
    let kept : c.retain.new.self.items ≡ filter (λ t. not (admits e.kind e t)) old = filter_same _ (λ t. not (admits e.kind e t)) _ (λ x b f' k. search rules) _ _ c.retain.ensures.filtered in
    kept ∙ ap (λ o. option_to_list o ++ filter (λ t. not (admits e.kind e t)) old) (sym c.in-None.is ∙ c.task_stacked.ensures)
