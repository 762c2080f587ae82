use Rattle.std.proofs.Common.{◌≡◌, ap, ◌∙◌, rules, to_z, of_z, w64}
use Rattle.std.specs.BTreeMap.{get}
use Rattle.uc_acts.specs.Journal.{number}
use Rattle.uc_judge.specs.ClauseStacks.{pair_cmp}
use Rattle.uc_judge.proofs.Stacking.{called_more}
use Rattle.uc_judge.proofs.stacks.note_call.Goals as goal

pub returns-in_ok-_before-in-Call : goal.returns-in_ok-_before-in-Call
returns-in_ok-_before-in-Call c o t =
    let e = c.args.e.now in
    let a : to_z w64 (of_z w64 e.a) ≡ e.a = search rules in
    let updates = c.in_ok-_before-in-Call.ensures.updates in
    called_more (get pair_cmp c.args.called.now) (get pair_cmp c.insert.new.self) e c.number.result c.in-Call.is (c.number.ensures ∙ ap number a) updates.1 updates.2 o t
