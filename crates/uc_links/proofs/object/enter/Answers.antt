use Rattle.std.proofs.Common.{subst, sym, ◌∙◌, arith}
use denote.RawPtr.{InBlock}
use Rattle.uc_links.specs.Chain.{index_of}
use Rattle.uc_links.specs.Held.{peers}
use Rattle.uc_links.proofs.Chains.{index_same, node_moved}
use Rattle.uc_links.proofs.Entered.{first_chain, second_chain, at_place, Keeps}
use Rattle.uc_links.specs.Rows.{joined}
use Rattle.uc_links.proofs.object.enter.Goals as goal

pub link_last-requires-clause-chain : goal.link_last-requires-clause-chain
link_last-requires-clause-chain c =
    let r = c.requires.held in let v0 = c.args.nodes.now in
    (r.0, first_chain v0 c.set_label.new.nodes (index_of v0 c.args.place) c.args.number c.args.member (joined c.args.object.now c.args.row.now) c.set_label.ensures r.0 r.1 r.2)

pub link_last-requires-2-clause-node : goal.link_last-requires-2-clause-node
link_last-requires-2-clause-node c =
    let r = c.requires.held in let v0 = c.args.nodes.now in let v1 = c.set_label.new.nodes in let v2 = c.link_last.new.nodes in let lab = c.set_label.ensures in
    let ch = c.link_last.ensures.rest r.0 (first_chain v0 v1 (index_of v0 c.args.place) c.args.number c.args.member (joined c.args.object.now c.args.row.now) lab r.0 r.1 r.2) in
    (subst InBlock (sym (ch.0 ∙ lab.0)) c.requires.node.0, omega arith, node_moved v0 v2 c.args.place (ch.0 ∙ lab.0) (ch.1 ∙ lab.1) c.requires.node.2)

pub link_last-requires-2-clause-chain : goal.link_last-requires-2-clause-chain
link_last-requires-2-clause-chain c =
    let r = c.requires.held in let v0 = c.args.nodes.now in let v1 = c.set_label.new.nodes in let v2 = c.link_last.new.nodes in let lab = c.set_label.ensures in
    let i = index_of v0 c.args.place in let ob = (joined c.args.object.now c.args.row.now) in
    let keeps = subst (Keeps 0 v1 ob.entries v2) (index_same v0 v1 c.args.place lab.0) c.link_last.ensures.rest in
    (peers v0 c.args.member r.0, second_chain v0 v1 i c.args.number c.args.member ob lab r.0 r.1 r.2 v2 c.requires.node.1 (keeps r.0 (first_chain v0 v1 i c.args.number c.args.member ob lab r.0 r.1 r.2)))

pub returns-clause-held : goal.returns-clause-held
returns-clause-held c = λ es st h n1 n2.
    (at_place c.args.nodes.now c.set_label.new.nodes c.link_last.new.nodes c.link_last-2.new.nodes c.args.number c.args.member (joined c.args.object.now c.args.row.now) c.link_last.new.ends c.link_last-2.new.ends c.args.place c.requires.node.1 c.requires.node.2
    c.set_label.ensures c.link_last.ensures.chain c.link_last.ensures.rest c.link_last-2.ensures.chain c.link_last-2.ensures.rest es st h n1 n2).0

pub returns-clause-label : goal.returns-clause-label
returns-clause-label c =
    let r = c.requires.held in
    (at_place c.args.nodes.now c.set_label.new.nodes c.link_last.new.nodes c.link_last-2.new.nodes c.args.number c.args.member (joined c.args.object.now c.args.row.now) c.link_last.new.ends c.link_last-2.new.ends c.args.place c.requires.node.1 c.requires.node.2
    c.set_label.ensures c.link_last.ensures.chain c.link_last.ensures.rest c.link_last-2.ensures.chain c.link_last-2.ensures.rest r.0 r.1 r.2 r.3 r.4).2

pub returns-clause-rest : goal.returns-clause-rest
returns-clause-rest c = λ es st h n1 n2.
    (at_place c.args.nodes.now c.set_label.new.nodes c.link_last.new.nodes c.link_last-2.new.nodes c.args.number c.args.member (joined c.args.object.now c.args.row.now) c.link_last.new.ends c.link_last-2.new.ends c.args.place c.requires.node.1 c.requires.node.2
    c.set_label.ensures c.link_last.ensures.chain c.link_last.ensures.rest c.link_last-2.ensures.chain c.link_last-2.ensures.rest es st h n1 n2).1
