use Rattle.std.proofs.Common.{◌≡◌, sym, ap, ◌∙◌, arith}
use Rattle.std.proofs.lemmas.List.{set-get_or}
use Rattle.std.specs.Prelude.{slice_set}
use Rattle.uc_kernel_journal.proofs.Tellings.{spent_none}
use Rattle.uc_kernel_journal.proofs.notes.note_spent.Goals as goal

pub returns-else-ticks-gt0 : goal.returns-else-ticks-gt0
returns-else-ticks-gt0 c =
    let e = c.args.e.now in
    let none : e.ticks ≡ 0 = let a = c.if-ticks-gt0.false in let b = c.from-ticks.ensures in omega (arith, a, b) in
    sym (ap (slice_set c.args.spent.now e.task) (spent_none e.kind e _ c.in_default.not-Dispatch none) ∙ set-get_or c.args.spent.now e.task 0)
