use Rattle.std.proofs.Common.{ℕ, List, ◌∷◌, ◌++◌, subst, sym}
use Rattle.uc_links.specs.Chain.{index_of, node}
use Rattle.uc_links.specs.Held.{peers, ends_of}
use Rattle.uc_links.proofs.Chains.{index_same}
use Rattle.uc_links.proofs.Left.{member_chain, left, changed, Unlinks, Spares}
use Rattle.uc_links.specs.Rows.{joined}
use Rattle.uc_links.proofs.object.leave.Goals as goal

pub unlink-requires-2-clause-chain : goal.unlink-requires-2-clause-chain
unlink-requires-2-clause-chain c =
    let v0 = c.args.nodes.now in let v1 = c.unlink.new.nodes in let i = index_of v0 c.args.place in let m = c.args.member in let r = c.requires.held in
    let ch = c.unlink.ensures.rest r.1 r.2 r.4.0 in
    subst (λ (j : ℕ). (xs : List ℕ) × (ys : List ℕ) × Rattle.uc_links.specs.Chain.IsChain 1 v1 (ends_of (joined c.args.object.now c.args.row.now) m) (xs ++ j ∷ ys)) (sym (index_same v0 v1 c.args.place ch.0))
    (peers v0 m r.1, peers v0 m r.2, member_chain v0 i r.0 m (joined c.args.object.now c.args.row.now) c.requires.node.2 c.requires.node.3 r.1 r.2 r.3 r.4 v1 ch)

pub returns-clause-held : goal.returns-clause-held
returns-clause-held c = λ o xs ys st h.
    let v0 = c.args.nodes.now in let v1 = c.unlink.new.nodes in let v2 = c.unlink-2.new.nodes in let i = index_of v0 c.args.place in let m = c.args.member in let ob = (joined c.args.object.now c.args.row.now) in
    let ch = c.unlink.ensures.rest xs ys h.0 in let same = index_same v0 v1 c.args.place ch.0 in
    let c2 = subst (Unlinks 1 v1 (ends_of ob m) v2 c.unlink-2.new.ends) same c.unlink-2.ensures.chain in
    let r2 = subst (Spares 1 v1 (ends_of ob m) v2) same c.unlink-2.ensures.rest in (
      left v0 i o m ob c.requires.node.2 c.requires.node.3 xs ys st h v1 v2 c.unlink.new.ends c.unlink-2.new.ends c.unlink.ensures.chain c.unlink.ensures.rest c2 r2,
      changed v0 i o m ob c.requires.node.2 c.requires.node.3 xs ys st h v1 v2 c.unlink.new.ends c.unlink-2.new.ends c.unlink.ensures.chain c.unlink.ensures.rest c2 r2,
    )
