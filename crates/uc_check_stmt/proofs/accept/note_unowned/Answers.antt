use Rattle.std.proofs.Common.{◌≡◌, None, [], ◌&&◌, map, nat_lt, ap, ◌∙◌}
use Rattle.uc_tree.specs.declared.limits.TheConstants.{CLAUSES}
use Rattle.uc_rules.specs.declared.rule.Rule.TheVariants.{S20}
use Rattle.uc_rules.specs.Asked.{unless}
use Rattle.uc_rules.specs.ExpressionBreaks.{are_fresh, listed_in}
use Rattle.uc_rules.specs.Firsts.{after}
use Rattle.uc_check_stmt.proofs.Unlisted.{unowned_more}
use Rattle.uc_check_stmt.proofs.accept.note_unowned.Goals as goal

pub loop-place-preserved : goal.loop-place-preserved
loop-place-preserved c meant =
    let at = c.clause.inside.pos in
    let members = c.clause.inside.members.items in
    let place = c.loop-place.place in
    let fresh : c.lists_none-fresh.result ≡ are_fresh [] (map (listed_in meant None) members) = c.lists_none-fresh.ensures meant ∙ ap (λ ms. are_fresh [] (map (listed_in meant None) ms)) c.deref.ensures.value in
    let holds : c.both-holds.result ≡ (nat_lt place CLAUSES && are_fresh [] (map (listed_in meant None) members)) = c.both-holds.ensures ∙ ap (λ b. b && c.lists_none-fresh.result) c.is_few.ensures ∙ ap (λ b. nat_lt place CLAUSES && b) fresh in
    unowned_more meant c.args.clauses.now place c.index-clauses-place.result at _ members _ c.loop-place.found _ _ c.loop-place-test.true c.index-clauses-place.is c.clause.view_is (c.note_unless.ensures ∙ ap (λ b. after c.loop-place.found (unless b S20 at)) holds) (c.loop-place.invariant meant)
