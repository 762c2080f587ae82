use Rattle.std.proofs.Common.{◌≡◌, refl, sym, subst, arith}
use Rattle.uc_entry.specs.declared.request.Asked.{Asked}
use Rattle.uc_step.specs.Effects.{Tick, stopping}
use Rattle.uc_step.specs.Runs.{halted}
use Rattle.uc_step.specs.Simulation.{HasArrived}
use Rattle.uc_step.specs.WeightFalls.{FallsBelow}
use Rattle.uc_step.proofs.WeightFallsLemmas.{lowers, keeps}
use Rattle.uc_ride.specs.UnwindingFalls.{KeepsAfter, how_settled}
use Rattle.uc_ride.proofs.Riding.{asked_keeps, way_first, way_ran, way_settled, way_on, way_asked, way_sliced}
use Rattle.uc_ride.proofs.ride.go_on.Goals as goal

pub ticks-init : goal.ticks-init
ticks-init c = record { way = way_first c.args.code.now c.args.quantum c.args.work.now; some = c.requires.some; few = omega arith; kept = c.requires.kept }

pub stops-init : goal.stops-init
stops-init c = record { way = c.ticks.invariant.way; some = c.ticks.invariant.some; few = c.ticks.invariant.few; kept = c.ticks.invariant.kept; same = refl }

-- the last tick

pub returns-then-last-clause-rides : goal.returns-then-last-clause-rides
returns-then-last-clause-rides c =
    let code = c.args.code.now in
    let w : HasArrived code c.args.quantum c.run.new.left c.args.work.now (halted c.in_ok-last.last (stopping c.run.new.stop c.run.new.asked)) c.run.new.work = way_ran code c.args.quantum _ _ _ _ _ _ c.stops.invariant.way c.in_ok-last.ensures.source in
    let t : HasArrived code c.args.quantum c.run.new.left c.args.work.now Tick c.run.new.work = subst (λ b. HasArrived code c.args.quantum c.run.new.left c.args.work.now (halted b (stopping c.run.new.stop c.run.new.asked)) c.run.new.work) c.if-last.true w in
    way_sliced code c.args.quantum c.run.new.left c.args.work.now c.run.new.work c.slice.new.asked (c.in_ok-last.ensures.last c.if-last.true) t c.slice.ensures

pub returns-then-last-clause-kept : goal.returns-then-last-clause-kept
returns-then-last-clause-kept c =
    let code = c.args.code.now in
    let f = c.in_ok-last.ensures.falls in
    let k = keeps code f.0 c.run.new.work (subst (λ b. FallsBelow code f.0 (halted b (stopping c.run.new.stop c.run.new.asked)) c.run.new.work) c.if-last.true f.2) in
    subst (λ (a : Asked). KeepsAfter code a.request c.run.new.work) (sym c.slice.ensures) k

-- where ops stop, what that leads to is done

pub settle-requires-clause-below : goal.settle-requires-clause-below
settle-requires-clause-below c =
    let code = c.args.code.now in
    let f = c.in_ok-last.ensures.falls in
    (f.0, subst (λ b. FallsBelow code f.0 (halted b (stopping c.run.new.stop c.run.new.asked)) c.run.new.work) c.if-last.false f.2)

pub returns-in-Asks-clause-rides : goal.returns-in-Asks-clause-rides
returns-in-Asks-clause-rides c =
    let code = c.args.code.now in
    let w : HasArrived code c.args.quantum c.run.new.left c.args.work.now (halted c.in_ok-last.last (stopping c.run.new.stop c.run.new.asked)) c.run.new.work = way_ran code c.args.quantum _ _ _ _ _ _ c.stops.invariant.way c.in_ok-last.ensures.source in
    let t : HasArrived code c.args.quantum c.run.new.left c.args.work.now (stopping c.run.new.stop c.run.new.asked) c.run.new.work = subst (λ b. HasArrived code c.args.quantum c.run.new.left c.args.work.now (halted b (stopping c.run.new.stop c.run.new.asked)) c.run.new.work) c.if-last.false w in
    let u : HasArrived code c.args.quantum c.run.new.left c.args.work.now (how_settled c.in_ok-after.after c.settle.new.asked) c.settle.new.work = way_settled code c.args.quantum _ _ _ _ _ _ t c.in_ok-after.ensures.source in
    way_asked code c.args.quantum c.run.new.left c.args.work.now c.settle.new.work c.settle.new.asked c.in_ok-last.ensures.some (subst (λ e. HasArrived code c.args.quantum c.run.new.left c.args.work.now (how_settled e c.settle.new.asked) c.settle.new.work) c.in-Asks.is u)

pub returns-in-Asks-clause-kept : goal.returns-in-Asks-clause-kept
returns-in-Asks-clause-kept c =
    let code = c.args.code.now in
    let f = c.in_ok-last.ensures.falls in
    let k = c.in_ok-after.ensures.falls f.0 (subst (λ b. FallsBelow code f.0 (halted b (stopping c.run.new.stop c.run.new.asked)) c.run.new.work) c.if-last.false f.2) in
    asked_keeps code f.0 c.settle.new.asked c.settle.new.work (subst (λ e. FallsBelow code f.0 (how_settled e c.settle.new.asked) c.settle.new.work) c.in-Asks.is k)

-- and the task goes on

pub stops-preserved : goal.stops-preserved
stops-preserved c =
    let code = c.args.code.now in
    let f = c.in_ok-last.ensures.falls in
    let w : HasArrived code c.args.quantum c.run.new.left c.args.work.now (halted c.in_ok-last.last (stopping c.run.new.stop c.run.new.asked)) c.run.new.work = way_ran code c.args.quantum _ _ _ _ _ _ c.stops.invariant.way c.in_ok-last.ensures.source in
    let t : HasArrived code c.args.quantum c.run.new.left c.args.work.now (stopping c.run.new.stop c.run.new.asked) c.run.new.work = subst (λ b. HasArrived code c.args.quantum c.run.new.left c.args.work.now (halted b (stopping c.run.new.stop c.run.new.asked)) c.run.new.work) c.if-last.false w in
    let u : HasArrived code c.args.quantum c.run.new.left c.args.work.now (how_settled c.in_ok-after.after c.settle.new.asked) c.settle.new.work = way_settled code c.args.quantum _ _ _ _ _ _ t c.in_ok-after.ensures.source in
    let k = c.in_ok-after.ensures.falls f.0 (subst (λ b. FallsBelow code f.0 (halted b (stopping c.run.new.stop c.run.new.asked)) c.run.new.work) c.if-last.false f.2) in
    let few = c.in_ok-last.ensures.few in
    let before = c.stops.invariant.few in
    record {
      way = way_on code c.args.quantum c.run.new.left c.args.work.now c.settle.new.work c.in_ok-last.ensures.some (subst (λ e. HasArrived code c.args.quantum c.run.new.left c.args.work.now (how_settled e c.settle.new.asked) c.settle.new.work) c.in-On.is u);
      some = c.in_ok-last.ensures.some;
      few = omega arith;
      kept = (lowers code f.0 c.settle.new.work (subst (λ e. FallsBelow code f.0 (how_settled e c.settle.new.asked) c.settle.new.work) c.in-On.is k)).1;
      same = omega (arith, c.stops.invariant.same, c.if-left-before.false);
    }

pub stops-smaller : goal.stops-smaller
stops-smaller c =
    let code = c.args.code.now in
    let f = c.in_ok-last.ensures.falls in
    let k = c.in_ok-after.ensures.falls f.0 (subst (λ b. FallsBelow code f.0 (halted b (stopping c.run.new.stop c.run.new.asked)) c.run.new.work) c.if-last.false f.2) in
    let l = (lowers code f.0 c.settle.new.work (subst (λ e. FallsBelow code f.0 (how_settled e c.settle.new.asked) c.settle.new.work) c.in-On.is k)).0 in
    let few = c.in_ok-last.ensures.few in
    let same : c.run.new.left ≡ c.stops.left = omega (arith, few, c.stops.invariant.same, c.if-left-before.false) in
    let most = f.1 same in
    omega (arith, l, most)

pub ticks-preserved : goal.ticks-preserved
ticks-preserved c =
    let code = c.args.code.now in
    let f = c.in_ok-last.ensures.falls in
    let w : HasArrived code c.args.quantum c.run.new.left c.args.work.now (halted c.in_ok-last.last (stopping c.run.new.stop c.run.new.asked)) c.run.new.work = way_ran code c.args.quantum _ _ _ _ _ _ c.stops.invariant.way c.in_ok-last.ensures.source in
    let t : HasArrived code c.args.quantum c.run.new.left c.args.work.now (stopping c.run.new.stop c.run.new.asked) c.run.new.work = subst (λ b. HasArrived code c.args.quantum c.run.new.left c.args.work.now (halted b (stopping c.run.new.stop c.run.new.asked)) c.run.new.work) c.if-last.false w in
    let u : HasArrived code c.args.quantum c.run.new.left c.args.work.now (how_settled c.in_ok-after.after c.settle.new.asked) c.settle.new.work = way_settled code c.args.quantum _ _ _ _ _ _ t c.in_ok-after.ensures.source in
    let k = c.in_ok-after.ensures.falls f.0 (subst (λ b. FallsBelow code f.0 (halted b (stopping c.run.new.stop c.run.new.asked)) c.run.new.work) c.if-last.false f.2) in
    let few = c.in_ok-last.ensures.few in
    let before = c.stops.invariant.few in
    record {
      way = way_on code c.args.quantum c.run.new.left c.args.work.now c.settle.new.work c.in_ok-last.ensures.some (subst (λ e. HasArrived code c.args.quantum c.run.new.left c.args.work.now (how_settled e c.settle.new.asked) c.settle.new.work) c.in-On.is u);
      some = c.in_ok-last.ensures.some;
      few = omega arith;
      kept = (lowers code f.0 c.settle.new.work (subst (λ e. FallsBelow code f.0 (how_settled e c.settle.new.asked) c.settle.new.work) c.in-On.is k)).1;
    }

pub ticks-smaller : goal.ticks-smaller
ticks-smaller c = omega (arith, c.stops.invariant.same, c.if-left-before.true)
