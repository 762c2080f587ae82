use Rattle.std.proofs.Common.{subst, ap, sym}
use Rattle.uc_links.specs.Chain.{IsNodeIfSome}
use Rattle.uc_links.proofs.Chains.{last_node, pushed}
use Rattle.uc_links.proofs.chain.link_last.Goals as goal

pub set_after-requires : goal.set_after-requires
set_after-requires c =
    let h = c.requires.chain.1 in
    (c.requires.node.1, subst (IsNodeIfSome c.args.nodes.now) (sym (ap (λ e. e.last) h.0)) (last_node c.args.nodes.now c.requires.node.0 c.requires.chain.0 h.2))

pub returns-clause-chain : goal.returns-clause-chain
returns-clause-chain c = λ es h n.
    (pushed c.args.order c.args.nodes.now c.set_after.new.nodes c.set_link.new.nodes c.args.ends.now c.set_after.new.ends c.args.place es c.requires.node.0 c.requires.node.2 h c.set_after.ensures c.set_link.ensures).1 n

pub returns-clause-rest : goal.returns-clause-rest
returns-clause-rest c = λ es h.
    (pushed c.args.order c.args.nodes.now c.set_after.new.nodes c.set_link.new.nodes c.args.ends.now c.set_after.new.ends c.args.place es c.requires.node.0 c.requires.node.2 h c.set_after.ensures c.set_link.ensures).0
