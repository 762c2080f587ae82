use Rattle.std.proofs.Common.{◌+◌, ◌*◌, length, refl}
use Rattle.uc_tree.specs.declared.limits.TheConstants.{OPS_FOR_SIZE}
use Rattle.uc_tree.specs.Expressions.{exprs_of}
use Rattle.uc_tree.specs.ExpressionSizes.{exprs_size}
use Rattle.uc_resolve.specs.Resolve.{args_meant}
use Rattle.uc_lower_expr.specs.Contexts.{context_in}
use Rattle.uc_lower_class.specs.OpenParts.{end_room}
use Rattle.uc_lower_class.proofs.Stepping.{built_here, class_few, none_here, nth_here, part_stands, room_here}
use Rattle.uc_lower_class.proofs.fields.build_field.Goals as goal

pub lower_built-requires-clause-room : goal.lower_built-requires-clause-room
lower_built-requires-clause-room c =
    room_here c.args.names.now c.args.class c.args.place (length c.args.out.now.ops + end_room c.args.parts.now.items) (OPS_FOR_SIZE * exprs_size (exprs_of c.args.args.now)) c.in-Some.field c.in-Some.ensures c.requires.room

pub lower_built-requires-clause-class : goal.lower_built-requires-clause-class
lower_built-requires-clause-class c j e =
    let n = c.in-Some.ensures in
    class_few c.args.names.now n.class c.args.class c.args.place c.in-Some.field (nth_here c.args.names.now n.class c.args.class c.args.place c.in-Some.field n.there n) j e

pub lower_built-requires-clause-behind : goal.lower_built-requires-clause-behind
lower_built-requires-clause-behind c =
    let n = c.in-Some.ensures in
    part_stands c.args.names.now n.class c.args.class c.args.place c.in-Some.field (nth_here c.args.names.now n.class c.args.class c.args.place c.in-Some.field n.there n) n.there _ _ c.requires.behind refl

pub returns-in_ok-lower_built-in-Some : goal.returns-in_ok-lower_built-in-Some
returns-in_ok-lower_built-in-Some c = λ cl f there is.
    built_here c.args.names.now cl c.args.class c.args.place c.in-Some.field (nth_here c.args.names.now cl c.args.class c.args.place c.in-Some.field there c.in-Some.ensures) f (OPS_FOR_SIZE * exprs_size (exprs_of c.args.args.now)) (args_meant (context_in c.args.names.now c.args.out.now) (exprs_of c.args.args.now)) is c.in_ok-lower_built-in-Some.ensures

pub returns-in-None : goal.returns-in-None
returns-in-None c = λ cl f there is. absurd (none_here c.args.names.now cl c.args.class c.args.place f there c.in-None.ensures is)
