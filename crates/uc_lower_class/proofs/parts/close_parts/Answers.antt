use Rattle.std.proofs.Common.{rules, ◌≡◌, ◌+◌, [], reverse, ap, subst, arith}
use Rattle.uc_code.specs.Emits.{clean_length}
use Rattle.uc_lower_class.specs.OpenParts.{PartsIn, end_room}
use Rattle.uc_lower_class.proofs.Assembling.{clean_some}
use Rattle.uc_lower_class.proofs.Parting.{Ending, end_reverse, ending_begin, ending_end, ending_step, in_part, part_behind, reverse_pop}
use Rattle.uc_lower_class.proofs.parts.close_parts.Goals as goal

pub loop-what-init : goal.loop-what-init
loop-what-init c = ending_begin (reverse c.args.parts.now.items) c.args.out.now c.requires.parts

pub close_part-requires-clause-part : goal.close_part-requires-clause-part
close_part-requires-clause-part c =
    let e = reverse_pop c.loop-what.parts.items c.pop.new.self.items c.in-Some.what c.in-Some.ensures.items in
    in_part c.in-Some.what (reverse c.pop.new.self.items) c.loop-what.out.marks (subst (λ ws. PartsIn ws c.loop-what.out.marks) e c.loop-what.invariant.parts)

pub close_part-requires-clause-behind : goal.close_part-requires-clause-behind
close_part-requires-clause-behind c =
    let e = reverse_pop c.loop-what.parts.items c.pop.new.self.items c.in-Some.what c.in-Some.ensures.items in
    part_behind c.in-Some.what (reverse c.pop.new.self.items) c.loop-what.out.marks (subst (λ ws. PartsIn ws c.loop-what.out.marks) e c.loop-what.invariant.parts)

pub close_part-requires-clause-room : goal.close_part-requires-clause-room
close_part-requires-clause-room c =
    let e = reverse_pop c.loop-what.parts.items c.pop.new.self.items c.in-Some.what c.in-Some.ensures.items in
    let all : end_room (reverse c.loop-what.parts.items) ≡ clean_length c.in-Some.what + 2 + end_room (reverse c.pop.new.self.items) = ap end_room e in
    let some = clean_some c.in-Some.what in
    let room = c.loop-what.invariant.room in
    let same = end_reverse c.args.parts.now.items in
    let most = c.requires.room in
    omega (arith, room, same, most, all, some)

pub loop-what-preserved : goal.loop-what-preserved
loop-what-preserved c =
    let e = reverse_pop c.loop-what.parts.items c.pop.new.self.items c.in-Some.what c.in-Some.ensures.items in
    ending_step (reverse c.args.parts.now.items) c.args.out.now c.in-Some.what (reverse c.pop.new.self.items) c.loop-what.out c.close_part.new.out (subst (λ ws. Ending (reverse c.args.parts.now.items) c.args.out.now ws c.loop-what.out) e c.loop-what.invariant) c.in_ok-close_part.ensures

pub returns : goal.returns
returns c =
    let none : c.loop-what.parts.items ≡ [] = search rules in
    ending_end (reverse c.args.parts.now.items) c.args.out.now c.loop-what.out (subst (λ ws. Ending (reverse c.args.parts.now.items) c.args.out.now ws c.loop-what.out) (ap reverse none) c.loop-what.invariant)
