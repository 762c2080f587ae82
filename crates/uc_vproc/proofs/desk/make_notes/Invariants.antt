use Rattle.std.proofs.Common.{◌≡◌, ◌≤◌, ◌-◌, ◌++◌, length, replicate, vec_capacity}
use Rattle.uc_vproc.proofs.desk.make_notes.Given as goal

abbrev pub invariant-loop : goal.invariant-loop
invariant-loop l = record {
  items : l.notes.items ≡ l.initial.notes.items ++ replicate (length l.notes.items - length l.initial.notes.items) (l.maker, l.step);
  more : length l.initial.notes.items ≤ length l.notes.items;
  reached : length l.initial.notes.items ≤ l.count → length l.notes.items ≡ l.counter;
  still : l.count ≤ length l.initial.notes.items → l.notes.items ≡ l.initial.notes.items;
  capacity : vec_capacity l.notes ≡ vec_capacity l.initial.notes;
}
