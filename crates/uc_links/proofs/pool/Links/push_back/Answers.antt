use Rattle.std.proofs.Common.{ℕ, ◌<◌, subst, sym}
use Rattle.uc_links.proofs.Moves.{may, claimed_below, enter_asks, enters}
use Rattle.uc_links.proofs.pool.Links.push_back.Goals as goal

pub claim-number-requires : goal.claim-number-requires
claim-number-requires g c =
    let s = c.self.inside in
    may s.nodes s.objects.items s.rows c.args.self.now c.self.invariant c.self.view_is c.args.object c.args.id c.index_mut-entered.result.now c.requires.object c.requires.node c.requires.free c.index_mut-entered.ensures.value c.index_mut-entered.result.now.row

pub index_mut-row-requires : goal.index_mut-row-requires
index_mut-row-requires g c =
    let s = c.self.inside in let b = c.index_mut-entered.result.now in let rows1 = c.claim-number.new.rows in
    subst (λ (n : ℕ). c.claim-number.result < n) (sym rows1.list.ok.0)
    (claimed_below s.nodes s.objects.items s.rows c.args.self.now c.self.invariant c.self.view_is c.args.object c.args.id b c.requires.object c.requires.node c.requires.free c.index_mut-entered.ensures.value c.claim-number.new.object rows1 c.claim-number.result c.claim-number.ensures.claimed)

pub enter-requires-clause-held : goal.enter-requires-clause-held
enter-requires-clause-held g c =
    let s = c.self.inside in let b = c.index_mut-entered.result.now in
    enter_asks s.nodes s.objects.items s.rows c.args.self.now c.self.invariant c.self.view_is c.args.object c.args.id b c.requires.object c.requires.node c.requires.free c.index_mut-entered.ensures.value c.claim-number.new.object c.claim-number.new.rows c.claim-number.result c.claim-number.ensures.claimed
    c.index_mut-row.result.now c.index_mut-row.ensures.value c.node_at-place.new.nodes c.node_at-place.result c.node_at-place.ensures.value c.node_at-place.ensures.unchanged

pub invariant_of-self : goal.invariant_of-self
invariant_of-self g c =
    let s = c.self.inside in let b = c.index_mut-entered.result.now in
    (enters s.nodes s.objects.items s.rows c.args.self.now c.self.invariant c.self.view_is c.args.object c.args.id b c.requires.object c.requires.node c.requires.free c.index_mut-entered.ensures.value c.claim-number.new.object c.claim-number.new.rows c.claim-number.result c.claim-number.ensures.claimed
    c.index_mut-row.result.now c.index_mut-row.ensures.value c.node_at-place.new.nodes c.node_at-place.result c.node_at-place.ensures.value c.node_at-place.ensures.unchanged c.args.member c.enter.new.nodes c.enter.new.object c.enter.new.row
    c.enter.ensures.row c.enter.ensures.held c.enter.ensures.label c.enter.ensures.rest c.claim-number.ensures.capacity).0

pub returns-clause-lists : goal.returns-clause-lists
returns-clause-lists g c =
    let s = c.self.inside in let b = c.index_mut-entered.result.now in
    (enters s.nodes s.objects.items s.rows c.args.self.now c.self.invariant c.self.view_is c.args.object c.args.id b c.requires.object c.requires.node c.requires.free c.index_mut-entered.ensures.value c.claim-number.new.object c.claim-number.new.rows c.claim-number.result c.claim-number.ensures.claimed
    c.index_mut-row.result.now c.index_mut-row.ensures.value c.node_at-place.new.nodes c.node_at-place.result c.node_at-place.ensures.value c.node_at-place.ensures.unchanged c.args.member c.enter.new.nodes c.enter.new.object c.enter.new.row
    c.enter.ensures.row c.enter.ensures.held c.enter.ensures.label c.enter.ensures.rest c.claim-number.ensures.capacity).1
