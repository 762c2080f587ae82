use Rattle.std.proofs.Common.{◌*◌, refl, arith}
use Rattle.uc_tree.specs.declared.kinds.Role.TheVariants as role
use Rattle.uc_tree.specs.declared.limits.TheConstants.{OPS_FOR_SIZE}
use Rattle.uc_tree.specs.Expressions.{exprs_of}
use Rattle.uc_tree.specs.ExpressionSizes.{exprs_size}
use Rattle.uc_resolve.specs.Resolve.{args_meant}
use Rattle.uc_lower_expr.specs.Contexts.{context_in}
use Rattle.uc_lower_class.proofs.Assembling.{build_few, part_built, stands_by}
use Rattle.uc_lower_class.proofs.parts.lower_part.Goals as goal

pub lower_build-requires-clause-room : goal.lower_build-requires-clause-room
lower_build-requires-clause-room c = let few = build_few c.args.part.length in let room = c.requires.room in omega (arith, few, room)

pub lower_build-requires-clause-builds : goal.lower_build-requires-clause-builds
lower_build-requires-clause-builds c = stands_by c.args.names.now c.args.part.made c.args.out.now.marks c.args.out.now.marks role.Constructor _ c.args.part.spot _ _ c.requires.behind refl refl

pub lower_build-requires-clause-destroys : goal.lower_build-requires-clause-destroys
lower_build-requires-clause-destroys c = stands_by c.args.names.now c.args.part.made c.args.out.now.marks c.args.out.now.marks role.Destructor _ c.args.part.spot _ _ c.requires.behind refl refl

pub returns : goal.returns
returns c = λ place b.
    let p = c.args.names.now in
    part_built p c.args.part.made (OPS_FOR_SIZE * exprs_size (exprs_of c.args.args.now)) c.args.part.spot c.args.part.length place (args_meant (context_in p c.args.out.now) (exprs_of c.args.args.now)) c.clean_call.result
    c.args.parts.now.items c.push.new.self.items c.args.out.now c.lower_build.new.out c.open.new.self (c.in_ok-lower_build.ensures place b) c.in_ok-push.ensures.items c.clean_call.ensures.call (c.clean_call.ensures.cleans place b) c.in_ok-_row.ensures.ok c.in_ok-_row.ensures.kept c.requires.behind
