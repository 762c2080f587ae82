use Rattle.std.proofs.Common.{◌≤◌, ◌+◌, ◌∙◌, arith}
use Rattle.std.specs.Vec.{vec_len, vec_capacity}
use Rattle.uc_links.proofs.Grown.{node_added}
use Rattle.uc_links.proofs.pool.Links.add_node.Goals as goal

pub invariant_of-self-2 : goal.invariant_of-self-2
invariant_of-self-2 c =
    let s = c.self.inside in let a = c.in_ok-reserve.ensures in let b = c.push_reserved.ensures in let count = c.len-count.ensures in let is_low = c.if-count.false in let ok = a.ok in let same = a.len in let rows = c.len.ensures in
    let room : vec_len s.nodes + 1 ≤ vec_capacity c.reserve.new.self = omega (arith, ok, same, rows, count) in let low : vec_len s.nodes ≤ 4294967295 = omega (arith, is_low, count) in
    (node_added s.nodes c.push_reserved.new.self c.blank_node.result (vec_capacity s.rows.list) (vec_capacity c.reserve.new.self) s.objects.items s.rows.list.items c.reserve.new.self.items s.rows.free c.args.self.now c.self.invariant c.self.view_is
    b.in_place b.len b.items (c.blank_node.ensures ∙ count) a.items room low).0

pub returns-clause-added : goal.returns-clause-added
returns-clause-added c =
    let s = c.self.inside in let a = c.in_ok-reserve.ensures in let b = c.push_reserved.ensures in let count = c.len-count.ensures in let is_low = c.if-count.false in let ok = a.ok in let same = a.len in let rows = c.len.ensures in
    let room : vec_len s.nodes + 1 ≤ vec_capacity c.reserve.new.self = omega (arith, ok, same, rows, count) in let low : vec_len s.nodes ≤ 4294967295 = omega (arith, is_low, count) in
    (node_added s.nodes c.push_reserved.new.self c.blank_node.result (vec_capacity s.rows.list) (vec_capacity c.reserve.new.self) s.objects.items s.rows.list.items c.reserve.new.self.items s.rows.free c.args.self.now c.self.invariant c.self.view_is
    b.in_place b.len b.items (c.blank_node.ensures ∙ count) a.items room low).1
