use Rattle.std.proofs.Common.{ap, ◌∙◌}
use Rattle.uc_tree.specs.Numbering.{place_from}
use Rattle.uc_numbering.proofs.Listed.{member_numbered}
use Rattle.uc_numbering.proofs.members.member_number.Goals as goal

pub returns-clause-of_class : goal.returns-clause-of_class
returns-clause-of_class c = λ k e. c.number_in-number.ensures ∙ ap (λ l. place_from 1 l c.args.name.now) e ∙ member_numbered k c.args.name.now
