use Rattle.std.proofs.Common.{arith}
use Rattle.uc_frames.proofs.Named.{within_here, within_none, counted_more}
use Rattle.uc_frames.proofs.search.last_from.Goals as goal

pub returns-then-rest-round-clause-last : goal.returns-then-rest-round-clause-last
returns-then-rest-round-clause-last c =
    within_here c.args.rows.now c.args.rest c.args.number c.loop-at.at c.loop-at.count c.loop-at.round c.outer_of-outer.result c.loop-at.invariant c.outer_of-outer.ensures.further c.outer_of-outer.ensures.outer c.in-Some.row c.in-Some.ensures c.if-count-rest.true c.if-rest-round.true

pub overflow_sub-count : goal.overflow_sub-count
overflow_sub-count c =
    let e = counted_more c.args.rows.now c.args.rest c.args.number c.loop-at.at c.loop-at.count c.loop-at.round c.outer_of-outer.result c.loop-at.invariant c.outer_of-outer.ensures.further c.outer_of-outer.ensures.outer c.in-Some.row c.in-Some.ensures in
    omega arith

pub returns-clause-last : goal.returns-clause-last
returns-clause-last c =
    within_none c.args.rows.now c.args.rest c.args.number c.loop-at.at c.loop-at.count c.loop-at.round c.loop-at.invariant (omega (arith, c.loop-at-test.false))
