use Rattle.std.proofs.Common.{ap, ◌∙◌}
use Rattle.uc_lower_expr.specs.Meanings.{member_by}
use Rattle.uc_lower_expr.proofs.Exclusive.{number_there, number_none}
use Rattle.uc_lower_expr.proofs.Noting.{beyond, got}
use Rattle.uc_lower_expr.proofs.program_names.mutex_number_of.Goals as goal

pub returns-in-Some : goal.returns-in-Some
returns-in-Some c = λ p are.
    let there = got c.args.members.now c.args.class c.in-Some.places.now c.in-Some.ensures.lookup.3.0 (c.in-Some.ensures.lookup.3.1 c.in-Some.places.now) in
    number_there p c.args.members.now are c.args.class c.args.name.now c.in-Some.places.now there c.member_number-number.result (λ names h. c.member_number-number.ensures ∙ ap member_by (c.place_in.ensures names h))

pub returns-in-None : goal.returns-in-None
returns-in-None c = λ p are. number_none p c.args.members.now are c.args.class c.args.name.now (beyond c.args.members.now c.args.class c.in-None.ensures.lookup.3)
