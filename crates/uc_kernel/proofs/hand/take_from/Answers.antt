use Rattle.std.proofs.Common.{sym, ◌∙◌}
use Rattle.uc_kernel.proofs.Hands.{taken, value_of, without_found}
use Rattle.uc_kernel.proofs.hand.take_from.Goals as goal

pub returns-in-None-clause-items : goal.returns-in-None-clause-items
returns-in-None-clause-items g c = sym (without_found c.args.object c.args.hand.now.items c.in-None.ensures)

pub returns-in-Some-clause-value : goal.returns-in-Some-clause-value
returns-in-Some-clause-value g c =
    value_of c.args.object c.args.hand.now.items c.in-Some.at c.in-Some.ensures c.take-members.result c.take-members.ensures.value

pub returns-in-Some-clause-items : goal.returns-in-Some-clause-items
returns-in-Some-clause-items g c =
    c.take-members.ensures.items ∙ taken c.args.object c.args.hand.now.items c.in-Some.at c.requires.apart c.in-Some.ensures
