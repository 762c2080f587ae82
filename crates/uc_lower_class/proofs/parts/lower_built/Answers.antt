use Rattle.std.proofs.Common.{ap, sym, ◌∙◌, arith}
use Rattle.uc_tree.specs.Expressions.{exprs_of}
use Rattle.uc_resolve.specs.Resolve.{args_meant}
use Rattle.uc_lower_expr.specs.Contexts.{context_in}
use Rattle.uc_lower_class.specs.Fields.{part_in, part_room}
use Rattle.uc_lower_class.proofs.Assembling.{behind_in, none_room}
use Rattle.uc_lower_class.proofs.Fielding.{field_begins, field_part, field_plain, part_made, part_long}
use Rattle.uc_lower_class.proofs.Parting.{constructs_as}
use Rattle.uc_lower_class.proofs.parts.lower_built.Goals as goal

pub lower_part-requires-clause-class : goal.lower_part-requires-clause-class
lower_part-requires-clause-class c = c.requires.class c.in-Some.part.made (part_made c.args.field c.in-Some.part (sym c.part_of.ensures ∙ c.in-Some.is))

pub lower_part-requires-clause-room : goal.lower_part-requires-clause-room
lower_part-requires-clause-room c =
    let long = ap (λ l. part_room l) (part_long c.args.field c.in-Some.part (sym c.part_of.ensures ∙ c.in-Some.is)) in
    let room = c.requires.room in
    omega (arith, long, room)

pub lower_part-requires-clause-behind : goal.lower_part-requires-clause-behind
lower_part-requires-clause-behind c = behind_in c.args.names.now c.args.out.now.marks (part_in c.args.field) c.in-Some.part (sym c.part_of.ensures ∙ c.in-Some.is) c.requires.behind

pub returns-in_ok-lower_part-in-Some : goal.returns-in_ok-lower_part-in-Some
returns-in_ok-lower_part-in-Some c = λ cl i number f at.
    let p = c.args.names.now in
    let is = sym c.part_of.ensures ∙ c.in-Some.is in
    let long = ap (λ l. part_room l) (part_long c.args.field c.in-Some.part is) in
    constructs_as (c.in_ok-lower_part-in-Some.ensures _ (field_begins p cl i number f c.args.field at c.in-Some.part is)) (omega (arith, long)) (λ ss. field_part p cl i number f c.args.field at c.in-Some.part is (args_meant (context_in p c.args.out.now) (exprs_of c.args.args.now)) ss)

pub lower_started-requires : goal.lower_started-requires
lower_started-requires c = let few = none_room c.args.field.told.elements in let room = c.requires.room in omega (arith, few, room)

pub returns-in_ok-lower_started-in-None : goal.returns-in_ok-lower_started-in-None
returns-in_ok-lower_started-in-None c = λ cl i number f at.
    let p = c.args.names.now in
    let few = none_room c.args.field.told.elements in
    constructs_as (c.in_ok-lower_started-in-None.ensures cl i number f c.args.parts.now.items at) (omega (arith, few)) (λ ss. field_plain p cl i number f c.args.field at (sym c.part_of.ensures ∙ c.in-None.is) (args_meant (context_in p c.args.out.now) (exprs_of c.args.args.now)) ss)
