use Rattle.std.proofs.Common.{ℕ, ◌<◌, List, ap, subst, sym, ◌∙◌}
use Rattle.uc_links.specs.declared.chain.Node.{Node}
use Rattle.uc_links.specs.Chain.{node, index_of}
use Rattle.uc_links.specs.Lists.{Pool, IsFree, lists_at, first_of}
use Rattle.uc_links.specs.Rows.{wholes}
use Rattle.uc_links.proofs.Chains.{node_moved, index_same}
use Rattle.uc_links.proofs.Looks.{nodes}
use Rattle.uc_links.proofs.Pops.{top_is}
use Rattle.uc_links.proofs.Freed.{top_is_free, top_is_node}
use Rattle.uc_links.proofs.Moves.{nothing_popped, no_stack, popped_known, popped_node, pops}
use Rattle.uc_links.proofs.Wholes.{top_there}
use Rattle.uc_links.proofs.pool.Links.pop_top.Goals as goal

pub index_mut-stacked-requires : goal.index_mut-stacked-requires
index_mut-stacked-requires g c =
    let s = c.self.inside in
    subst (λ (n : ℕ). c.args.object < n) (sym s.objects.ok.0) (popped_known s.nodes s.objects.items s.rows c.args.self.now c.self.invariant c.self.view_is c.args.object c.top_of.result c.in-Some.place c.top_of.ensures c.in-Some.is)

pub unstack-requires : goal.unstack-requires
unstack-requires g c = let s = c.self.inside in popped_node s.nodes s.objects.items s.rows c.args.self.now c.self.invariant c.self.view_is c.args.object c.top_of.result c.in-Some.place c.top_of.ensures c.in-Some.is

pub label_of-label-requires : goal.label_of-label-requires
label_of-label-requires g c =
    let s = c.self.inside in let same = c.unstack.ensures.same in
    node_moved s.nodes c.unstack.new.nodes c.in-Some.place same.0 same.1 (popped_node s.nodes s.objects.items s.rows c.args.self.now c.self.invariant c.self.view_is c.args.object c.top_of.result c.in-Some.place c.top_of.ensures c.in-Some.is)

pub invariant_of-self : goal.invariant_of-self
invariant_of-self g c =
    let s = c.self.inside in let t = c.unstack.ensures.same in let u = c.label_of-label.ensures.same in
    (pops s.nodes s.objects.items s.rows c.args.self.now c.self.invariant c.self.view_is c.args.object c.top_of.result c.in-Some.place c.top_of.ensures c.in-Some.is c.label_of-label.new.nodes c.index_mut-stacked.result.now c.unstack.new.object
    (u.0 ∙ t.0, u.1 ∙ t.1, u.2 ∙ t.2) c.index_mut-stacked.ensures.value c.unstack.ensures.top).0

pub returns-in-Some-clause-lists : goal.returns-in-Some-clause-lists
returns-in-Some-clause-lists g c =
    let s = c.self.inside in let t = c.unstack.ensures.same in let u = c.label_of-label.ensures.same in
    (pops s.nodes s.objects.items s.rows c.args.self.now c.self.invariant c.self.view_is c.args.object c.top_of.result c.in-Some.place c.top_of.ensures c.in-Some.is c.label_of-label.new.nodes c.index_mut-stacked.result.now c.unstack.new.object
    (u.0 ∙ t.0, u.1 ∙ t.1, u.2 ∙ t.2) c.index_mut-stacked.ensures.value c.unstack.ensures.top).1

pub returns-in-Some-clause-top : goal.returns-in-Some-clause-top
returns-in-Some-clause-top g c =
    let s = c.self.inside in let v = s.nodes in let u = c.unstack.new.nodes in let p = c.in-Some.place in let t = c.unstack.ensures.same in let rows = s.rows.list.items in let obs = s.objects.items in
    let id = c.label_of-label.ensures.value.0 ∙ ap (λ (j : ℕ). (node u j).id) (index_same v u p t.0) ∙ ap (λ (x : Node). x.id) (nodes v u t (index_of v p)) in
    top_is v (wholes rows obs) c.args.object c.top_of.result p c.self.invariant.0 (c.top_of.ensures ∙ top_there rows obs c.args.object) c.in-Some.is c.label_of-label.result.0 id ∙ ap (λ (q : Pool). first_of (lists_at q c.args.object).stack) c.self.view_is

pub returns-in-Some-clause-known : goal.returns-in-Some-clause-known
returns-in-Some-clause-known g c =
    let s = c.self.inside in top_is_node s.nodes (wholes s.rows.list.items s.objects.items) c.args.self.now c.args.object c.label_of-label.result.0 c.self.invariant.0 c.self.view_is (returns-in-Some-clause-top g c)

pub returns-in-Some-clause-free : goal.returns-in-Some-clause-free
returns-in-Some-clause-free g c =
    let s = c.self.inside in
    subst (IsFree c.label_of-label.result.0) (sym (returns-in-Some-clause-lists g c)) (top_is_free s.nodes (wholes s.rows.list.items s.objects.items) c.args.self.now c.args.object c.label_of-label.result.0 c.self.invariant.0 c.self.view_is (returns-in-Some-clause-top g c))

pub returns-in-None-clause-top : goal.returns-in-None-clause-top
returns-in-None-clause-top g c =
    let s = c.self.inside in ap (λ (l : List ℕ). first_of l) (sym (no_stack s.nodes s.objects.items s.rows c.args.self.now c.self.invariant c.self.view_is c.args.object c.top_of.result c.top_of.ensures c.in-None.is))

pub returns-in-None-clause-lists : goal.returns-in-None-clause-lists
returns-in-None-clause-lists g c =
    let s = c.self.inside in nothing_popped c.args.self.now c.args.object (no_stack s.nodes s.objects.items s.rows c.args.self.now c.self.invariant c.self.view_is c.args.object c.top_of.result c.top_of.ensures c.in-None.is)
