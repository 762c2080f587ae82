use Rattle.std.proofs.Common.{arith}
use Rattle.uc_tree.specs.Cells.{classes_of}
use Rattle.uc_tree.specs.Numbering.{routines_of}
use Rattle.uc_tree.specs.Objects.{number_at}
use Rattle.uc_lower_expr.proofs.Noting.{past}
use Rattle.uc_lower_expr.proofs.program_names.ProgramNames.main_of.Goals as goal

pub returns-in-Some : goal.returns-in-Some
returns-in-Some c = c.main_number_in.ensures (routines_of c.args.self.now) (number_at c.args.self.now c.args.class) c.in-Some.ensures.routines

pub returns-in-None : goal.returns-in-None
returns-in-None c =
    let h = past (classes_of c.args.self.now.items) c.args.class c.in-None.ensures in
    let l = c.requires in
    absurd (omega (arith, h, l))
