use Rattle.std.proofs.Common.{◌≡◌, ℕ, List, [], ◌∷◌, ◌++◌, subst, sym, ◌∙◌}
use denote.RawPtr.{InBlock}
use Rattle.std.specs.Vec.{vec_ptr, vec_len}
use Rattle.uc_links.specs.declared.chain.Link.{Link}
use Rattle.uc_links.specs.declared.chain.NodePtr.{NodePtr}
use Rattle.uc_links.specs.declared.chain.Ends.{Ends}
use Rattle.uc_links.specs.Chain.{Nodes, IsChain, index_of, link}
use Rattle.uc_links.proofs.Chains.{neighbours, moved, after_places, unlinked, chain_read, changed_read, changed_then, changed_more}
use Rattle.uc_links.proofs.chain.unlink.Goals as goal

here : (k : ℕ) (v u : Nodes) (ends : Ends) (p : NodePtr) (l : Link) → InBlock (vec_ptr v) → l ≡ link k v (index_of v p) → (vec_ptr u ≡ vec_ptr v) × (vec_len u ≡ vec_len v) × (u.items ≡ v.items)
    → InBlock (vec_ptr u) × (l ≡ link k u (index_of v p)) × ((es : List ℕ) → IsChain k v ends es → IsChain k u ends es)
here k v u ends p l t e same =
    (subst InBlock (sym same.0) t, e ∙ sym ((changed_read k v u same).2 (index_of v p) tt), λ es h. chain_read k v u ends es same h)

pub set_after-requires : goal.set_after-requires
set_after-requires c =
    let u = c.link_of-link.new.nodes in let k = c.args.order in let i = index_of c.args.nodes.now c.args.place in let r = c.requires.chain in
    (c.requires.node.1, (neighbours k u c.args.ends.now c.link_of-link.result i r.0 r.1 (here c.args.order c.args.nodes.now c.link_of-link.new.nodes c.args.ends.now c.args.place c.link_of-link.result c.requires.node.0 c.link_of-link.ensures.value c.link_of-link.ensures.same).0 (here c.args.order c.args.nodes.now c.link_of-link.new.nodes c.args.ends.now c.args.place c.link_of-link.result c.requires.node.0 c.link_of-link.ensures.value c.link_of-link.ensures.same).1 ((here c.args.order c.args.nodes.now c.link_of-link.new.nodes c.args.ends.now c.args.place c.link_of-link.result c.requires.node.0 c.link_of-link.ensures.value c.link_of-link.ensures.same).2 _ r.2)).0)

pub set_before-requires : goal.set_before-requires
set_before-requires c =
    let u = c.link_of-link.new.nodes in let k = c.args.order in let i = index_of c.args.nodes.now c.args.place in let r = c.requires.chain in
    let e = after_places k u c.set_after.new.nodes c.args.ends.now c.set_after.new.ends c.link_of-link.result.next c.link_of-link.result.prev c.set_after.ensures in
    (c.requires.node.1, moved u c.set_after.new.nodes c.link_of-link.result.next e.0 e.1 (neighbours k u c.args.ends.now c.link_of-link.result i r.0 r.1 (here c.args.order c.args.nodes.now c.link_of-link.new.nodes c.args.ends.now c.args.place c.link_of-link.result c.requires.node.0 c.link_of-link.ensures.value c.link_of-link.ensures.same).0 (here c.args.order c.args.nodes.now c.link_of-link.new.nodes c.args.ends.now c.args.place c.link_of-link.result c.requires.node.0 c.link_of-link.ensures.value c.link_of-link.ensures.same).1 ((here c.args.order c.args.nodes.now c.link_of-link.new.nodes c.args.ends.now c.args.place c.link_of-link.result c.requires.node.0 c.link_of-link.ensures.value c.link_of-link.ensures.same).2 _ r.2)).1)

pub returns-clause-chain : goal.returns-clause-chain
returns-clause-chain c = λ xs ys h.
    let i = index_of c.args.nodes.now c.args.place in
    (unlinked c.args.order c.link_of-link.new.nodes c.set_after.new.nodes c.set_before.new.nodes c.args.ends.now c.set_after.new.ends c.set_before.new.ends c.link_of-link.result i xs ys
    (here c.args.order c.args.nodes.now c.link_of-link.new.nodes c.args.ends.now c.args.place c.link_of-link.result c.requires.node.0 c.link_of-link.ensures.value c.link_of-link.ensures.same).0 (here c.args.order c.args.nodes.now c.link_of-link.new.nodes c.args.ends.now c.args.place c.link_of-link.result c.requires.node.0 c.link_of-link.ensures.value c.link_of-link.ensures.same).1 ((here c.args.order c.args.nodes.now c.link_of-link.new.nodes c.args.ends.now c.args.place c.link_of-link.result c.requires.node.0 c.link_of-link.ensures.value c.link_of-link.ensures.same).2 (xs ++ i ∷ ys) h) c.set_after.ensures c.set_before.ensures).0

pub returns-clause-rest : goal.returns-clause-rest
returns-clause-rest c = λ xs ys h.
    let i = index_of c.args.nodes.now c.args.place in let k = c.args.order in let v = c.args.nodes.now in let u = c.link_of-link.new.nodes in let w = c.set_before.new.nodes in
    changed_then k (xs ++ ys) v u w (changed_more k [] (xs ++ ys) v u (λ j n. tt) (changed_read k v u c.link_of-link.ensures.same))
    (unlinked k u c.set_after.new.nodes w c.args.ends.now c.set_after.new.ends c.set_before.new.ends c.link_of-link.result i xs ys
    (here c.args.order c.args.nodes.now c.link_of-link.new.nodes c.args.ends.now c.args.place c.link_of-link.result c.requires.node.0 c.link_of-link.ensures.value c.link_of-link.ensures.same).0 (here c.args.order c.args.nodes.now c.link_of-link.new.nodes c.args.ends.now c.args.place c.link_of-link.result c.requires.node.0 c.link_of-link.ensures.value c.link_of-link.ensures.same).1 ((here c.args.order c.args.nodes.now c.link_of-link.new.nodes c.args.ends.now c.args.place c.link_of-link.result c.requires.node.0 c.link_of-link.ensures.value c.link_of-link.ensures.same).2 (xs ++ i ∷ ys) h) c.set_after.ensures c.set_before.ensures).1
