use Rattle.uc_links.proofs.Moves.{empty_then, empty_else}
use Rattle.uc_links.proofs.pool.Links.is_empty.Goals as goal

pub returns-then-is_none : goal.returns-then-is_none
returns-then-is_none c =
    let s = c.self.inside in
    empty_then s.nodes s.objects.items s.rows c.args.self.now c.self.invariant c.self.view_is c.args.object c.first_entry.result c.top_of.result c.is_none-then-is_none.result c.first_entry.ensures c.top_of.ensures c.if-is_none.ensures c.is_none-then-is_none.ensures

pub returns-else-is_none : goal.returns-else-is_none
returns-else-is_none c =
    let s = c.self.inside in empty_else s.nodes s.objects.items s.rows c.args.self.now c.self.invariant c.self.view_is c.args.object c.first_entry.result c.is_none.result c.first_entry.ensures c.if-is_none.ensures c.if-is_none.false
