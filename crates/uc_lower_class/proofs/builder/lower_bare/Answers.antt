use Rattle.std.proofs.Common.{[], ap, arith}
use Rattle.uc_code.specs.Drafts.{Draft}
use Rattle.uc_lower_class.proofs.Assembling.{bare_laid, from_none, parts_on}
use Rattle.uc_lower_class.proofs.builder.lower_bare.Goals as goal

pub returns : goal.returns
returns c = bare_laid c.args.names.now c.args.class c.build_all.new.parts.items c.args.out.now c.build_all.new.out c.end_construction.new.out c.close_parts.new.out c.requires.nowhere (from_none c.new-parts.ensures.items c.in_ok-build_all.ensures) c.in_ok-end_construction.ensures c.in_ok-close_parts.ensures

pub close_parts-requires-clause-parts : goal.close_parts-requires-clause-parts
close_parts-requires-clause-parts c = parts_on c.build_all.new.parts.items c.args.out.now c.build_all.new.out c.end_construction.new.out (from_none c.new-parts.ensures.items c.in_ok-build_all.ensures) (ap (λ (d : Draft). d.marks) (c.in_ok-end_construction.ensures []).rest)

pub close_parts-requires-clause-room : goal.close_parts-requires-clause-room
close_parts-requires-clause-room c =
    let first = (from_none c.new-parts.ensures.items c.in_ok-build_all.ensures).room in
    let live = (c.in_ok-end_construction.ensures []).room in
    let room = c.requires.room in
    omega (arith, first, live, room)
