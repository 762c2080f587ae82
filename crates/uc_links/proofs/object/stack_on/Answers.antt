use Rattle.uc_links.specs.Rows.{with_members}
use Rattle.uc_links.proofs.Stacks.{stacked}
use Rattle.uc_links.proofs.object.stack_on.Goals as goal

pub returns-clause-held : goal.returns-clause-held
returns-clause-held c = λ ms es st h n1 n2.
    stacked c.args.nodes.now c.set_label.new.nodes c.set_link.new.nodes c.args.number (with_members c.args.object.now ms) c.args.place c.requires.node.1 c.set_label.ensures c.set_link.ensures es st h n1 n2
