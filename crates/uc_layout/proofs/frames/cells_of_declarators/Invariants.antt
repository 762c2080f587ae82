use Rattle.std.proofs.Common.{◌≡◌, ◌<◌, ◌+◌, ◌^◌, drop}
use Rattle.uc_tree.specs.Capped.{capped}
use Rattle.uc_tree.specs.Cells.{declared_cells, declarators_cells}
use Rattle.uc_layout.proofs.frames.cells_of_declarators.Given as goal

abbrev pub invariant-loop-declarator : goal.invariant-loop-declarator
invariant-loop-declarator l = (l.cells < 2 ^ 64) × (capped (l.cells + declarators_cells (declared_cells l.sizes l.base) (drop l.declarator-index l.declarators)) ≡ capped (declarators_cells (declared_cells l.sizes l.base) l.declarators))
