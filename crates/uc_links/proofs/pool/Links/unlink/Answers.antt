use Rattle.std.proofs.Common.{ℕ, ◌<◌, subst, sym, refl, length-set}
use Rattle.std.specs.Vec.{with_item}
use Rattle.uc_links.specs.Lists.{IsFree}
use Rattle.uc_links.specs.Rows.{wholes}
use Rattle.uc_links.proofs.Freed.{unlinked_is_free}
use Rattle.uc_links.proofs.Moves.{entry_object, entry_is_below, entry_at_node, has_row, row_below, leave_node, leave_held, leaves}
use Rattle.uc_links.proofs.pool.Links.unlink.Goals as goal

pub node_at-place-requires : goal.node_at-place-requires
node_at-place-requires g c = let s = c.self.inside in entry_is_below s.nodes s.objects.items s.rows c.args.self.now c.self.invariant c.self.view_is c.args.object c.args.id c.requires.entry

pub label_of-label-requires : goal.label_of-label-requires
label_of-label-requires g c = let s = c.self.inside in entry_at_node s.nodes s.objects.items s.rows c.args.self.now c.self.invariant c.self.view_is c.args.object c.args.id c.requires.entry c.node_at-place.new.nodes c.node_at-place.result c.node_at-place.ensures.value c.node_at-place.ensures.unchanged

pub index_mut-left-requires : goal.index_mut-left-requires
index_mut-left-requires g c = let s = c.self.inside in subst (λ (n : ℕ). c.args.object < n) (sym s.objects.ok.0) (entry_object s.nodes s.objects.items s.rows c.args.self.now c.self.invariant c.self.view_is c.args.object c.args.id c.requires.entry)

pub unwrap-number-requires : goal.unwrap-number-requires
unwrap-number-requires g c = let s = c.self.inside in has_row s.nodes s.objects.items s.rows c.args.self.now c.self.invariant c.self.view_is c.args.object c.args.id c.requires.entry c.index_mut-left.result.now c.index_mut-left.ensures.value

pub index_mut-row-requires : goal.index_mut-row-requires
index_mut-row-requires g c = let s = c.self.inside in subst (λ (n : ℕ). c.unwrap-number.result < n) (sym s.rows.list.ok.0) (row_below s.nodes s.objects.items s.rows c.args.self.now c.self.invariant c.self.view_is c.args.object c.args.id c.requires.entry c.index_mut-left.result.now c.index_mut-left.ensures.value c.unwrap-number.result c.unwrap-number.ensures)

pub leave-requires-clause-node : goal.leave-requires-clause-node
leave-requires-clause-node g c = let s = c.self.inside in leave_node s.nodes s.objects.items s.rows c.args.self.now c.self.invariant c.self.view_is c.args.object c.args.id c.requires.entry c.index_mut-left.result.now c.index_mut-left.ensures.value c.unwrap-number.result c.unwrap-number.ensures c.index_mut-row.result.now c.index_mut-row.ensures.value c.node_at-place.new.nodes c.label_of-label.new.nodes c.node_at-place.result c.node_at-place.ensures.value c.node_at-place.ensures.unchanged c.label_of-label.ensures.same c.label_of-label.result c.label_of-label.ensures.value

pub leave-requires-clause-held : goal.leave-requires-clause-held
leave-requires-clause-held g c = let s = c.self.inside in leave_held s.nodes s.objects.items s.rows c.args.self.now c.self.invariant c.self.view_is c.args.object c.args.id c.requires.entry c.index_mut-left.result.now c.index_mut-left.ensures.value c.unwrap-number.result c.unwrap-number.ensures c.index_mut-row.result.now c.index_mut-row.ensures.value c.node_at-place.new.nodes c.label_of-label.new.nodes c.node_at-place.result c.node_at-place.ensures.value c.node_at-place.ensures.unchanged c.label_of-label.ensures.same

pub invariant_of-self : goal.invariant_of-self
invariant_of-self g c = let s = c.self.inside in (leaves s.nodes s.objects.items s.rows c.args.self.now c.self.invariant c.self.view_is c.args.object c.args.id c.requires.entry c.index_mut-left.result.now c.index_mut-left.ensures.value c.unwrap-number.result c.unwrap-number.ensures c.index_mut-row.result.now c.index_mut-row.ensures.value c.node_at-place.new.nodes c.label_of-label.new.nodes c.node_at-place.result c.node_at-place.ensures.value c.node_at-place.ensures.unchanged c.label_of-label.ensures.same c.leave.new.nodes c.leave.new.object c.vacate.new.object c.leave.new.row (record { list = with_item s.rows.list c.unwrap-number.result c.leave.new.row; free = s.rows.free }) c.vacate.new.rows c.leave.ensures.row c.leave.ensures.held refl refl c.vacate.ensures.vacated c.vacate.ensures.capacity).0

pub returns-clause-lists : goal.returns-clause-lists
returns-clause-lists g c = let s = c.self.inside in (leaves s.nodes s.objects.items s.rows c.args.self.now c.self.invariant c.self.view_is c.args.object c.args.id c.requires.entry c.index_mut-left.result.now c.index_mut-left.ensures.value c.unwrap-number.result c.unwrap-number.ensures c.index_mut-row.result.now c.index_mut-row.ensures.value c.node_at-place.new.nodes c.label_of-label.new.nodes c.node_at-place.result c.node_at-place.ensures.value c.node_at-place.ensures.unchanged c.label_of-label.ensures.same c.leave.new.nodes c.leave.new.object c.vacate.new.object c.leave.new.row (record { list = with_item s.rows.list c.unwrap-number.result c.leave.new.row; free = s.rows.free }) c.vacate.new.rows c.leave.ensures.row c.leave.ensures.held refl refl c.vacate.ensures.vacated c.vacate.ensures.capacity).1

pub returns-clause-free : goal.returns-clause-free
returns-clause-free g c = let s = c.self.inside in subst (IsFree c.args.id) (sym (returns-clause-lists g c)) (unlinked_is_free s.nodes (wholes s.rows.list.items s.objects.items) c.args.self.now c.args.object c.args.id c.self.invariant.0 c.self.view_is c.requires.entry)

pub vacate-requires : goal.vacate-requires
vacate-requires g c = let s = c.self.inside in subst (λ (n : ℕ). c.unwrap-number.result < n) (sym (length-set s.rows.list.items c.unwrap-number.result c.leave.new.row)) (row_below s.nodes s.objects.items s.rows c.args.self.now c.self.invariant c.self.view_is c.args.object c.args.id c.requires.entry c.index_mut-left.result.now c.index_mut-left.ensures.value c.unwrap-number.result c.unwrap-number.ensures)
