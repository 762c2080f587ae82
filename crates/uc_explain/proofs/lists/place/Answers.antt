use Rattle.std.proofs.Common.{◌≡◌, ap, ◌∙◌, not}
use Rattle.std.specs.Prelude.{nat_lt}
use Rattle.std.specs.List.{insert, prefix_len}
use Rattle.uc_explain.proofs.OrderLemmas.{insert_placed}
use Rattle.uc_explain.proofs.WaitLemmas.{when_ok}
use Rattle.uc_explain.proofs.lists.place.Goals as goal

pub returns : goal.returns
returns c =
    let task = c.args.task in
    let old = c.args.tasks.now.items in
    let at : c.task_place-at.result ≡ prefix_len (λ t. not (nat_lt task t)) old = c.task_place-at.ensures.place ∙ ap (prefix_len (λ t. not (nat_lt task t))) c.deref.ensures.value in
    c.insert-put.ensures.items ∙ when_ok _ _ _ (c.insert-put.ensures.succeeds c.requires) ∙ ap (λ k. insert old k task) at ∙ insert_placed (λ t. t) task old
