use Rattle.std.proofs.Common.{ap, sym, ◌∙◌, ◌++◌, ◌∷◌, [], length}
use Rattle.std.proofs.lemmas.List.{length-map}
use Rattle.std.specs.Vec.{vec_capacity}
use Rattle.uc_links.specs.declared.object.Object.{Object}
use Rattle.uc_links.specs.Lists.{Pool}
use Rattle.uc_links.specs.Rows.{whole, wholes}
use Rattle.uc_links.specs.View.{lists_of}
use Rattle.uc_links.proofs.Grown.{object_added}
use Rattle.uc_links.proofs.pool.Links.add_object.Goals as goal

pub invariant_of-self-2 : goal.invariant_of-self-2
invariant_of-self-2 c =
    let s = c.self.inside in
    (object_added s.nodes (vec_capacity s.rows.list) s.objects.items c.push.new.self.items s.rows.list.items s.rows.free c.args.self.now c.self.invariant c.self.view_is
    (c.in_ok-push.ensures.items ∙ ap (λ (x : Object). s.objects.items ++ x ∷ []) c.blank_object.ensures)).0

pub returns-clause-number : goal.returns-clause-number
returns-clause-number c =
    let s = c.self.inside in let all = wholes s.rows.list.items s.objects.items in
    c.len-count.ensures ∙ s.objects.ok.0 ∙ sym (length-map s.objects.items (whole s.rows.list.items)) ∙ sym (length-map all (lists_of s.nodes)) ∙ ap (λ (p : Pool). length p.lists) c.self.view_is

pub returns-clause-added : goal.returns-clause-added
returns-clause-added c =
    let s = c.self.inside in
    (object_added s.nodes (vec_capacity s.rows.list) s.objects.items c.push.new.self.items s.rows.list.items s.rows.free c.args.self.now c.self.invariant c.self.view_is
    (c.in_ok-push.ensures.items ∙ ap (λ (x : Object). s.objects.items ++ x ∷ []) c.blank_object.ensures)).1
