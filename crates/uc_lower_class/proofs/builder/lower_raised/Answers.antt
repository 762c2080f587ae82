use Rattle.std.proofs.Common.{[], ap, ◌∙◌, arith}
use Rattle.uc_code.specs.Drafts.{Draft}
use Rattle.uc_lower_class.proofs.Assembling.{from_none, parts_on, raised_laid}
use Rattle.uc_lower_class.proofs.builder.lower_raised.Goals as goal

pub returns : goal.returns
returns c =
    raised_laid c.args.names.now c.args.class c.args.routine.now c.build_own.new.parts.items c.args.out.now c.build_own.new.out c.lower_whole.new.out c.end_construction.new.out c.close_parts.new.out (from_none c.new-parts.ensures.items c.in_ok-build_own.ensures) c.in_ok-lower_whole.ensures c.in_ok-end_construction.ensures c.in_ok-close_parts.ensures

pub close_parts-requires-clause-parts : goal.close_parts-requires-clause-parts
close_parts-requires-clause-parts c = parts_on c.build_own.new.parts.items c.args.out.now c.build_own.new.out c.end_construction.new.out (from_none c.new-parts.ensures.items c.in_ok-build_own.ensures) (ap (λ (d : Draft). d.marks) (c.in_ok-end_construction.ensures []).rest ∙ ap (λ (d : Draft). d.marks) c.in_ok-lower_whole.ensures.rest)

pub close_parts-requires-clause-room : goal.close_parts-requires-clause-room
close_parts-requires-clause-room c =
    let first = (from_none c.new-parts.ensures.items c.in_ok-build_own.ensures).room in
    let body = c.in_ok-lower_whole.ensures.room in
    let live = (c.in_ok-end_construction.ensures []).room in
    let room = c.requires.room in
    omega (arith, first, body, live, room)
