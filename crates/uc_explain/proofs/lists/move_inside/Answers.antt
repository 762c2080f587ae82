use Rattle.std.proofs.Common.{◌≡◌, not, ap, sym, ◌∙◌, rules}
use Rattle.std.specs.List.{filter}
use Rattle.std.proofs.lemmas.Fn.{filter_same}
use Rattle.uc_acts.specs.Journal.{moves}
use Rattle.uc_explain.specs.Shown.{placed}
use Rattle.uc_explain.specs.Steps.{placed_if}
use Rattle.uc_explain.proofs.lists.move_inside.Goals as goal

pub returns-in-Some : goal.returns-in-Some
returns-in-Some c =
    let e = c.args.e.now in
    let old = c.args.inside.now.items in
    let kept : c.retain.new.self.items ≡ filter (λ t. not (moves e.kind e t)) old = filter_same _ (λ t. not (moves e.kind e t)) _ (λ x b f' k. search rules) _ _ c.retain.ensures.filtered in
    c.place.ensures ∙ ap (placed (λ t. t) c.in-Some.task) kept ∙ ap (λ o. placed_if (λ t. t) o (filter (λ t. not (moves e.kind e t)) old)) (sym c.in-Some.is ∙ c.task_let_in.ensures)

pub returns-in-None : goal.returns-in-None
returns-in-None c =
    let e = c.args.e.now in
    let old = c.args.inside.now.items in
    let kept : c.retain.new.self.items ≡ filter (λ t. not (moves e.kind e t)) old = filter_same _ (λ t. not (moves e.kind e t)) _ (λ x b f' k. search rules) _ _ c.retain.ensures.filtered in
    kept ∙ ap (λ o. placed_if (λ t. t) o (filter (λ t. not (moves e.kind e t)) old)) (sym c.in-None.is ∙ c.task_let_in.ensures)
