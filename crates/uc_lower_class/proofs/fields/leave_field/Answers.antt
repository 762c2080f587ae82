use Rattle.std.proofs.Common.{refl}
use Rattle.uc_lower_class.proofs.Stepping.{class_few, left_here, none_here, nth_here, part_stands}
use Rattle.uc_lower_class.proofs.fields.leave_field.Goals as goal

pub lower_left-requires-clause-class : goal.lower_left-requires-clause-class
lower_left-requires-clause-class c j e =
    let n = c.in-Some.ensures in
    class_few c.args.names.now n.class c.args.class c.args.place c.in-Some.field (nth_here c.args.names.now n.class c.args.class c.args.place c.in-Some.field n.there n) j e

pub lower_left-requires-clause-behind : goal.lower_left-requires-clause-behind
lower_left-requires-clause-behind c =
    let n = c.in-Some.ensures in
    part_stands c.args.names.now n.class c.args.class c.args.place c.in-Some.field (nth_here c.args.names.now n.class c.args.class c.args.place c.in-Some.field n.there n) n.there _ _ c.requires refl

pub returns-in_ok-lower_left-in-Some : goal.returns-in_ok-lower_left-in-Some
returns-in_ok-lower_left-in-Some c = λ cl f there is.
    left_here c.args.names.now cl c.args.class c.args.place c.in-Some.field (nth_here c.args.names.now cl c.args.class c.args.place c.in-Some.field there c.in-Some.ensures) f is c.in_ok-lower_left-in-Some.ensures

pub returns-in-None : goal.returns-in-None
returns-in-None c = λ cl f there is. absurd (none_here c.args.names.now cl c.args.class c.args.place f there c.in-None.ensures is)
