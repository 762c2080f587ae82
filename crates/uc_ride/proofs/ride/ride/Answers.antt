use Rattle.std.proofs.Common.{sym, subst}
use Rattle.uc_entry.specs.declared.request.Asked.{Asked}
use Rattle.uc_machine.specs.Answering as answering
use Rattle.uc_code.specs.Layout.{laid_of}
use Rattle.uc_step.specs.Simulation.{StandsAfter}
use Rattle.uc_step.specs.WeightFalls.{Keeps}
use Rattle.uc_step.proofs.WeightFallsLemmas.{answer_keeps}
use Rattle.uc_ride.specs.RideStands.{BornAs}
use Rattle.uc_ride.proofs.ride.ride.Goals as goal

pub go_on-requires-clause-kept : goal.go_on-requires-clause-kept
go_on-requires-clause-kept g c = subst (λ m. Keeps c.args.code.now m) (sym c.in_ok-answer.ensures.after) (answer_keeps c.args.code.now c.args.answer c.args.work c.requires.kept)

pub returns-clause-rides : goal.returns-clause-rides
returns-clause-rides g c =
    λ source s low h.
    let l = c.in_ok-ticks.ensures.rides source (answering.answered source c.args.answer s) low (c.in_ok-answer.ensures.source source s low h) in
    record { reached = l.reached; rides = l.rides; stands = l.stands; born = subst (λ (a : Asked). StandsAfter (laid_of c.args.code.now) a.request c.go_on.new.work l.reached → BornAs source (laid_of c.args.code.now) a.request c.in_ok-child.child l.reached) c.get.ensures (λ h. c.in_ok-child.ensures.born source l.reached low h) l.stands }
