use Rattle.std.proofs.Common.{None, Some, sym, ◌∙◌}
use Rattle.uc_implicit.proofs.Noting.{number_placed}
use Rattle.uc_implicit.proofs.numbers.number_among.Goals as goal

pub returns-in-Some : goal.returns-in-Some
returns-in-Some c = λ names h. c.number_at.ensures ∙ sym (number_placed names c.args.name.now (Some c.in-Some.place) (c.in-Some.ensures names h))

pub returns-in-None : goal.returns-in-None
returns-in-None c = λ names h. sym (number_placed names c.args.name.now None (c.in-None.ensures names h))
