use Rattle.std.proofs.Common.{Option, ap, ◌∙◌}
use Rattle.uc_code.specs.declared.rows.Array.{Array}
use Rattle.uc_code.specs.declared.rows.Cleaning.TheVariants as cleaning
use Rattle.uc_code.specs.declared.rows.ObjectCall.{ObjectCall}
use Rattle.uc_lower_stmt.specs.Objects.{destroyer_of}
use Rattle.uc_lower_stmt.proofs.Building.{cleans_is}
use Rattle.uc_lower_stmt.proofs.objects.clean_call.Goals as goal

pub returns-clause-cleans : goal.returns-clause-cleans
returns-clause-cleans c =
    let p = c.args.names.now in
    cleans_is p c.law_cells.ensures c.args.made c.args.elements c.args.spot (cleaning.Call c.destroyer_of.result)
    (ap (λ (w : ObjectCall). cleaning.Call w) (c.destroyer_of.ensures ∙ ap (λ (o : Option Array). destroyer_of p c.args.made c.args.spot o) c.array_of-array.ensures))
