use Rattle.std.proofs.Common.{◌<◌, ap, sym, ◌∙◌, length, rules, arith}
use Rattle.uc_layout.specs.ContainmentProgress.{flag_at}
use Rattle.uc_layout.proofs.SettledLemmas.{settled_cells}
use Rattle.uc_layout.proofs.cells.cells_of.Goals as goal

pub returns-then-are_all : goal.returns-then-are_all
returns-then-are_all c =
    let value = c.deref.ensures.value in
    settled_cells c.args.rows.now c.args.settled.flags.items c.args.settled.cells.items c.requires.settled_flags c.requires.settled_cells c.requires.settled
    (λ j h.
    let long = ap length value in
    let full = c.requires.settled_flags in
    let inside : j < length c.deref.result.now = omega (arith, h, long, full) in
    sym (ap (λ fs. flag_at fs j) value) ∙ c.are_all.ensures (search rules) j inside)
