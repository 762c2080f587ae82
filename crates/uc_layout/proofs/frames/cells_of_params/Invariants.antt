use Rattle.std.proofs.Common.{◌≡◌, ◌<◌, ◌+◌, ◌^◌, drop}
use Rattle.uc_tree.specs.Capped.{capped}
use Rattle.uc_tree.specs.Cells.{params_cells}
use Rattle.uc_layout.proofs.frames.cells_of_params.Given as goal

abbrev pub invariant-loop-param : goal.invariant-loop-param
invariant-loop-param l = (l.cells < 2 ^ 64) × (capped (l.cells + params_cells l.sizes (drop l.param-index l.params)) ≡ capped (params_cells l.sizes l.params))
