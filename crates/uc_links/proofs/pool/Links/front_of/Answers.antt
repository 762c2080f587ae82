use Rattle.std.proofs.Common.{ap, ◌∙◌}
use Rattle.uc_links.specs.Lists.{Pool, lists_at, first_with}
use Rattle.uc_links.proofs.Firsts.{first_with_is_entry}
use Rattle.uc_links.proofs.Looks.{holds_same, pool_same}
use Rattle.uc_links.proofs.Pops.{member_node, member_is, member_none}
use Rattle.uc_links.proofs.Freed.{entry_is_node}
use Rattle.std.specs.Vec.{vec_len, vec_capacity}
use Rattle.uc_links.specs.Rows.{wholes}
use Rattle.uc_links.proofs.Claims.{as_many}
use Rattle.uc_links.proofs.Wholes.{callers_there}
use Rattle.uc_links.proofs.pool.Links.front_of.Goals as goal

pub label_of-label-requires : goal.label_of-label-requires
label_of-label-requires g c = member_node c.self.inside.nodes (wholes c.self.inside.rows.list.items c.self.inside.objects.items) c.args.object c.args.member c.first_caller.result c.self.invariant.0 (c.first_caller.ensures ∙ callers_there c.self.inside.rows.list.items c.self.inside.objects.items c.args.object c.args.member) c.in-Some.place c.in-Some.is

pub invariant_of-self : goal.invariant_of-self
invariant_of-self g c =
    let s = c.self.inside in let are = c.self.invariant in (
      holds_same s.nodes c.label_of-label.new.nodes c.label_of-label.ensures.same (wholes s.rows.list.items s.objects.items) are.0,
      as_many (vec_len s.nodes) (vec_len c.label_of-label.new.nodes) (vec_capacity s.rows.list) s.objects.items s.rows.list.items s.rows.free c.label_of-label.ensures.same.1 are.1,
      are.2,
    )

pub returns-in-Some-clause-first : goal.returns-in-Some-clause-first
returns-in-Some-clause-first g c =
    member_is c.self.inside.nodes (wholes c.self.inside.rows.list.items c.self.inside.objects.items) c.args.object c.args.member c.first_caller.result c.self.invariant.0 (c.first_caller.ensures ∙ callers_there c.self.inside.rows.list.items c.self.inside.objects.items c.args.object c.args.member) c.in-Some.place c.label_of-label.result.0 c.in-Some.is c.label_of-label.ensures.value.0
    ∙ ap (λ (p : Pool). first_with c.args.member (lists_at p c.args.object).entries) c.self.view_is

pub returns-in-Some-clause-same : goal.returns-in-Some-clause-same
returns-in-Some-clause-same g c = pool_same c.self.inside.nodes c.label_of-label.new.nodes c.label_of-label.ensures.same (wholes c.self.inside.rows.list.items c.self.inside.objects.items) ∙ c.self.view_is

pub returns-in-None-clause-first : goal.returns-in-None-clause-first
returns-in-None-clause-first g c =
    member_none c.self.inside.nodes (wholes c.self.inside.rows.list.items c.self.inside.objects.items) c.args.object c.args.member c.first_caller.result c.self.invariant.0 (c.first_caller.ensures ∙ callers_there c.self.inside.rows.list.items c.self.inside.objects.items c.args.object c.args.member) c.in-None.is
    ∙ ap (λ (p : Pool). first_with c.args.member (lists_at p c.args.object).entries) c.self.view_is

pub returns-in-Some-clause-entry : goal.returns-in-Some-clause-entry
returns-in-Some-clause-entry g c = first_with_is_entry c.args.member (lists_at c.args.self.now c.args.object).entries c.label_of-label.result.0 (returns-in-Some-clause-first g c)

pub returns-in-Some-clause-known : goal.returns-in-Some-clause-known
returns-in-Some-clause-known g c = entry_is_node c.self.inside.nodes (wholes c.self.inside.rows.list.items c.self.inside.objects.items) c.args.self.now c.args.object c.label_of-label.result.0 c.self.invariant.0 c.self.view_is (returns-in-Some-clause-entry g c)
