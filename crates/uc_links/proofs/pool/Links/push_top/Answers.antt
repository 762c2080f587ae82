use Rattle.uc_links.proofs.Moves.{stacks}
use Rattle.uc_links.proofs.pool.Links.push_top.Goals as goal

pub invariant_of-self : goal.invariant_of-self
invariant_of-self g c =
    let s = c.self.inside in
    (stacks s.nodes s.objects.items s.rows c.args.self.now c.self.invariant c.self.view_is c.args.object c.node_at-place.new.nodes c.stack_on.new.nodes c.args.id c.index_mut-stacked.result.now c.stack_on.new.object c.node_at-place.result
    c.requires.object c.requires.free c.node_at-place.ensures.value c.node_at-place.ensures.unchanged c.index_mut-stacked.ensures.value c.stack_on.ensures.held c.stack_on.ensures.same).0

pub returns-clause-lists : goal.returns-clause-lists
returns-clause-lists g c =
    let s = c.self.inside in
    (stacks s.nodes s.objects.items s.rows c.args.self.now c.self.invariant c.self.view_is c.args.object c.node_at-place.new.nodes c.stack_on.new.nodes c.args.id c.index_mut-stacked.result.now c.stack_on.new.object c.node_at-place.result
    c.requires.object c.requires.free c.node_at-place.ensures.value c.node_at-place.ensures.unchanged c.index_mut-stacked.ensures.value c.stack_on.ensures.held c.stack_on.ensures.same).1
