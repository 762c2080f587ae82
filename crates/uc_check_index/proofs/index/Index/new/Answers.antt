use Rattle.std.proofs.Common.{rules, subst, ◌≡◌}
use Rattle.std.proofs.lemmas.Result.{IfOk-at_ok}
use Rattle.uc_check_index.specs.Indexed.{AreKeyed, AreNamed}
use Rattle.uc_check_index.proofs.index.Index.new.Goals as goal

pub invariant_of-result : goal.invariant_of-result
invariant_of-result c =
    let tables = IfOk-at_ok _ c.in_ok-named.ensures.made.0 c.both.ensures.made in
    let named = IfOk-at_ok _ tables.0 c.named_in-named.ensures in
    let keyed = IfOk-at_ok _ tables.1 c.keyed_in-keyed.ensures in
    let protos = IfOk-at_ok _ c.in_ok-named.ensures.made.1 c.protos_in-protos.ensures in
    let first : c.deref.result.now ≡ c.args.program.now.items = search rules in
    let second : c.deref-2.result.now ≡ c.args.program.now.items = search rules in
    let n = c.in_ok-named.named in
    let k = c.in_ok-named.keyed in
    (subst (λ items. AreNamed items n.classes n.forwards n.routines n.protos n.constants n.builders) first named, subst (λ items. AreKeyed items k.kinds k.protos k.routines k.members k.member_sigs) second keyed, search (rules, protos))
