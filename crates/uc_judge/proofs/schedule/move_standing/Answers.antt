use Rattle.std.proofs.Common.{◌≡◌, not, [], ◌∷◌, ◌++◌, ap, sym, ◌∙◌, rules, append-nil}
use Rattle.std.specs.Option.{option_to_list}
use Rattle.std.specs.List.{filter}
use Rattle.std.proofs.lemmas.Fn.{filter_same}
use Rattle.uc_acts.specs.Queues.{leaves_cluster}
use Rattle.uc_judge.proofs.schedule.move_standing.Goals as goal

pub returns-in-Some : goal.returns-in-Some
returns-in-Some c =
    let e = c.args.e.now in
    let old = c.args.standing.now.items in
    let kept : c.retain.new.self.items ≡ filter (λ r. not (leaves_cluster e.kind e r.0)) old = filter_same _ (λ r. not (leaves_cluster e.kind e r.0)) _ (λ x b f' k. search rules) _ _ c.retain.ensures.filtered in
    c.push_reserved.ensures.items ∙ ap (λ l. l ++ c.in-Some.task ∷ []) kept ∙ ap (λ o. filter (λ r. not (leaves_cluster e.kind e r.0)) old ++ option_to_list o) (sym c.in-Some.is)

pub returns-in-None : goal.returns-in-None
returns-in-None c =
    let e = c.args.e.now in
    let old = c.args.standing.now.items in
    let kept : c.retain.new.self.items ≡ filter (λ r. not (leaves_cluster e.kind e r.0)) old = filter_same _ (λ r. not (leaves_cluster e.kind e r.0)) _ (λ x b f' k. search rules) _ _ c.retain.ensures.filtered in
    kept ∙ sym (append-nil _) ∙ ap (λ o. filter (λ r. not (leaves_cluster e.kind e r.0)) old ++ option_to_list o) (sym c.in-None.is)
