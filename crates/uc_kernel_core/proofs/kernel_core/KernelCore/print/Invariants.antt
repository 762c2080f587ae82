use Rattle.std.proofs.Common.{◌≤◌, take}
use Rattle.uc_acts.specs.Journal.{cost}
use Rattle.uc_kernel_core.specs.Mirrors.{Appended, Seen}
use Rattle.uc_kernel_core.proofs.Asks.{prints_from}
use Rattle.uc_kernel_core.proofs.kernel_core.KernelCore.print.Given as goal

abbrev pub invariant-loop-at : goal.invariant-loop-at
invariant-loop-at l = record {
  behind : 1 ≤ l.at;
  prints : (s : Seen) → Appended s l.initial.self (prints_from l.who.processor l.who.task (cost l.who.ticks l.who.line) 0 (take 1 l.items)) → Appended s l.self (prints_from l.who.processor l.who.task (cost l.who.ticks l.who.line) 0 (take l.at l.items));
}
