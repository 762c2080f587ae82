use Rattle.std.proofs.Common.{◌≡◌, ◌++◌, drop, map}
use Rattle.uc_tree.specs.Cells.{members_held}
use Rattle.uc_layout.proofs.held.members_held.Given as goal

abbrev pub invariant-loop-member : goal.invariant-loop-member
invariant-loop-member g l = l.held.items ++ members_held (map (λ c. c.now) l.classes.list.now) (g.N.NameValues.value_named l.named) (drop l.member-index l.members) ≡ members_held (map (λ c. c.now) l.classes.list.now) (g.N.NameValues.value_named l.named) l.members
