-- The tree of a statement as the code holds it, whose parts are trees.
use Rattle.std.specs.Prelude.{Option, Some, None}
use Rattle.std.specs.declared.alloc.Global.{Global}
use Rattle.std.specs.declared.boxed.Box.{Box}
use Rattle.uc_tree.specs.declared.pos.Pos.{Pos}
use Rattle.uc_tree.specs.declared.declare.StartForm.{StartForm}
use Rattle.uc_tree.specs.declared.declare.StartForm.TheVariants as start
use Rattle.uc_tree.specs.declared.declare.OutForm.{OutForm}
use Rattle.uc_tree.specs.declared.declare.OutForm.TheVariants as out
use Rattle.uc_tree.specs.declared.declare.ForForm.{ForForm}
use Rattle.uc_tree.specs.declared.declare.ForForm.TheVariants as for_form
use Rattle.uc_tree.specs.Expressions.{exprs_of}
use Rattle.uc_tree.specs.Statements.{Start, NoStart, StartValue, StartArgs, OutItem, Endl, Literal, Printed, ForStart, NoFor, ForDeclare, ForEvaluate, Stmt, MaybeStmt, NoStmt, OneStmt}

abbrev pub start_at : StartForm → Start
start_at start.Nothing = NoStart
start_at (start.Value value) = StartValue value
start_at (start.Args args) = StartArgs (exprs_of args.items)

abbrev pub out_at : Pos → OutForm → OutItem
out_at p out.Endl = Endl p
out_at p (out.Literal text) = Literal p text
out_at p (out.Value value) = Printed p value

abbrev pub for_at : ForForm → ForStart
for_at for_form.Nothing = NoFor
for_at (for_form.Declare p base declarators) = ForDeclare p base declarators.items
for_at (for_form.Evaluate value) = ForEvaluate value

abbrev pub maybe_at : Option (Box Stmt Global) → MaybeStmt
maybe_at None = NoStmt
maybe_at (Some body) = OneStmt body.value
