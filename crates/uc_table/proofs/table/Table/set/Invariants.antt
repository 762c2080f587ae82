use Rattle.std.proofs.Common.{◌≡◌, ◌++◌, replicate}
use Rattle.std.specs.Vec.{vec_capacity}
use Rattle.uc_table.proofs.table.Table.set.Given as goal

abbrev pub invariant-loop : goal.invariant-loop
invariant-loop g l = record {
  items : l.self-inside.items.items ≡ l.initial.self-inside.items.items ++ replicate l.counter l.initial.self-inside.blank;
  blank : l.self-inside.blank ≡ l.initial.self-inside.blank;
  size : l.self-inside.size ≡ l.initial.self-inside.size;
  capacity : vec_capacity l.self-inside.items ≡ vec_capacity l.initial.self-inside.items;
}
