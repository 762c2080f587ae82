use Rattle.std.proofs.Common.{◌≡◌, ◌++◌, drop, map}
use Rattle.uc_tree.specs.Cells.{held_by}
use Rattle.uc_layout.proofs.held.push_fields.Given as goal

abbrev pub invariant-loop-declarator : goal.invariant-loop-declarator
invariant-loop-declarator g l = l.held.items ++ map (held_by (map (λ c. c.now) l.classes.list.now) (g.N.NameValues.value_named l.named) l.base) (drop l.declarator-index l.declarators) ≡ l.initial.held.items ++ map (held_by (map (λ c. c.now) l.classes.list.now) (g.N.NameValues.value_named l.named) l.base) l.declarators
