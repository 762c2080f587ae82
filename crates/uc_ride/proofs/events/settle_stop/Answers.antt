use Rattle.std.proofs.Common.{◌≡◌, subst, to_z, of_z, w64, rules}
use Rattle.uc_code.specs.Layout.{laid_of}
use Rattle.uc_machine.specs.declared.exec.UnwindReason.TheVariants as reason
use Rattle.uc_machine.specs.Raising.{event_in}
use Rattle.uc_except.proofs.Thrown.{thrown_as}
use Rattle.uc_step.specs.Effects.{stopping}
use Rattle.uc_step.specs.WeightFalls.{FallsBelow}
use Rattle.uc_step.specs.Simulation.{Follow}
use Rattle.uc_ride.specs.UnwindingFalls.{how_settled}
use Rattle.uc_ride.proofs.Leading.{Unwinding, fields_as, leads_on, throw_leads, past_leads, past_made, switch_leads}
use Rattle.uc_ride.proofs.Lowering.{thrown_falls, past_falls, taken_falls}
use Rattle.uc_ride.proofs.events.settle_stop.Goals as goal

pub returns-in_ok-end-in-Throw-clause-source : goal.returns-in_ok-end-in-Throw-clause-source
returns-in_ok-end-in-Throw-clause-source c =
    let code = c.args.code.now in
    let e = c.in-Throw.event in
    let x : to_z w64 (of_z w64 e.x) ≡ e.x = search rules in
    let y : to_z w64 (of_z w64 e.y) ≡ e.y = search rules in
    λ source s low f.
    let g = throw_leads source (laid_of code) c.args.work.now c.throw.new.work e s (λ t h i. c.throw.ensures.thrown source (laid_of code) t h (fields_as source (laid_of code) e (event_in t.run.operands) (to_z w64 (of_z w64 e.x)) (to_z w64 (of_z w64 e.y)) x y i)) (subst (λ h. Follow (laid_of code) source (stopping h c.args.asked.now) c.args.work.now s) c.in-Throw.is f) in
    let u : Unwinding code c.throw.new.work (how_settled c.in_ok-end-in-Throw.end c.unwinds.new.asked) c.unwinds.new.work = c.in_ok-end-in-Throw.ensures.source in
    leads_on code c.throw.new.work c.unwinds.new.work (how_settled c.in_ok-end-in-Throw.end c.unwinds.new.asked) u source s low g

pub returns-in_ok-end-in-Throw-clause-falls : goal.returns-in_ok-end-in-Throw-clause-falls
returns-in_ok-end-in-Throw-clause-falls c =
    let code = c.args.code.now in
    let e = c.in-Throw.event in
    let x : to_z w64 (of_z w64 e.x) ≡ e.x = search rules in
    let y : to_z w64 (of_z w64 e.y) ≡ e.y = search rules in
    let thrown = thrown_as c.args.work.now c.throw.new.work e.number e.x e.y _ _ c.throw.ensures.now x y in
    λ w f.
    let u = thrown_falls code w e (reason.Event e.number e.x e.y) c.args.work.now c.throw.new.work thrown (subst (λ h. FallsBelow code w (stopping h c.args.asked.now) c.args.work.now) c.in-Throw.is f) in
    c.in_ok-end-in-Throw.ensures.falls w u

pub raise-requires-clause-below : goal.raise-requires-clause-below
raise-requires-clause-below c =
    let code = c.args.code.now in
    let w = c.requires.below.0 in
    (w, subst (λ h. FallsBelow code w (stopping h c.args.asked.now) c.args.work.now) c.in-Raise.is c.requires.below.1)

pub returns-in_ok-end-in-Raise-clause-source : goal.returns-in_ok-end-in-Raise-clause-source
returns-in_ok-end-in-Raise-clause-source c =
    let code = c.args.code.now in
    λ source s low f.
    c.in_ok-end-in-Raise.ensures.source source s low (subst (λ h. Follow (laid_of code) source (stopping h c.args.asked.now) c.args.work.now s) c.in-Raise.is f)

pub returns-in_ok-end-in-Raise-clause-falls : goal.returns-in_ok-end-in-Raise-clause-falls
returns-in_ok-end-in-Raise-clause-falls c =
    let code = c.args.code.now in
    λ w f.
    c.in_ok-end-in-Raise.ensures.falls w (subst (λ h. FallsBelow code w (stopping h c.args.asked.now) c.args.work.now) c.in-Raise.is f)

pub returns-in_ok-end-in-Unwind-clause-source : goal.returns-in_ok-end-in-Unwind-clause-source
returns-in_ok-end-in-Unwind-clause-source c =
    let code = c.args.code.now in
    λ source s low f.
    let u : Unwinding code c.args.work.now (how_settled c.in_ok-end-in-Unwind.end c.unwinds-in-Unwind.new.asked) c.unwinds-in-Unwind.new.work = c.in_ok-end-in-Unwind.ensures.source in
    leads_on code c.args.work.now c.unwinds-in-Unwind.new.work (how_settled c.in_ok-end-in-Unwind.end c.unwinds-in-Unwind.new.asked) u source s low (subst (λ h. Follow (laid_of code) source (stopping h c.args.asked.now) c.args.work.now s) c.in-Unwind.is f)

pub returns-in_ok-end-in-Unwind-clause-falls : goal.returns-in_ok-end-in-Unwind-clause-falls
returns-in_ok-end-in-Unwind-clause-falls c =
    let code = c.args.code.now in
    λ w f.
    c.in_ok-end-in-Unwind.ensures.falls w (subst (λ h. FallsBelow code w (stopping h c.args.asked.now) c.args.work.now) c.in-Unwind.is f)

pub unwinds-requires-then-return_past-clause-below : goal.unwinds-requires-then-return_past-clause-below
unwinds-requires-then-return_past-clause-below c =
    let code = c.args.code.now in
    let w = c.requires.below.0 in
    (w, past_falls code w c.in-Past.given c.args.work.now c.return_past.new.work c.return_past.result c.if-return_past.true c.return_past.ensures.now (subst (λ h. FallsBelow code w (stopping h c.args.asked.now) c.args.work.now) c.in-Past.is c.requires.below.1))

pub returns-in_ok-end-in-Past-clause-source : goal.returns-in_ok-end-in-Past-clause-source
returns-in_ok-end-in-Past-clause-source c =
    let code = c.args.code.now in
    λ source s low f.
    let g = past_leads source (laid_of code) c.args.work.now c.return_past.new.work c.in-Past.given s (c.return_past.ensures.source c.if-return_past.true (laid_of code)) (subst (λ h. Follow (laid_of code) source (stopping h c.args.asked.now) c.args.work.now s) c.in-Past.is f) in
    let u : Unwinding code c.return_past.new.work (how_settled c.in_ok-end-in-Past.end c.unwinds-then-return_past.new.asked) c.unwinds-then-return_past.new.work = c.in_ok-end-in-Past.ensures.source in
    leads_on code c.return_past.new.work c.unwinds-then-return_past.new.work (how_settled c.in_ok-end-in-Past.end c.unwinds-then-return_past.new.asked) u source s low g

pub returns-in_ok-end-in-Past-clause-falls : goal.returns-in_ok-end-in-Past-clause-falls
returns-in_ok-end-in-Past-clause-falls c =
    let code = c.args.code.now in
    λ w f.
    let u = past_falls code w c.in-Past.given c.args.work.now c.return_past.new.work c.return_past.result c.if-return_past.true c.return_past.ensures.now (subst (λ h. FallsBelow code w (stopping h c.args.asked.now) c.args.work.now) c.in-Past.is f) in
    c.in_ok-end-in-Past.ensures.falls w u

pub returns-else-return_past-clause-source : goal.returns-else-return_past-clause-source
returns-else-return_past-clause-source c =
    let code = c.args.code.now in
    let w = c.requires.below.0 in
    λ source s low f.
    absurd (past_made source (laid_of code) c.args.work.now c.return_past.new.work c.in-Past.given s c.return_past.result c.if-return_past.false c.return_past.ensures.now (subst (λ h. FallsBelow code w (stopping h c.args.asked.now) c.args.work.now) c.in-Past.is c.requires.below.1).is.1 (subst (λ h. Follow (laid_of code) source (stopping h c.args.asked.now) c.args.work.now s) c.in-Past.is f))

pub returns-in-Astray-clause-source : goal.returns-in-Astray-clause-source
returns-in-Astray-clause-source c =
    let code = c.args.code.now in
    λ source s low f. absurd (subst (λ h. Follow (laid_of code) source (stopping h c.args.asked.now) c.args.work.now s) c.in-Astray.is f)

pub returns-in-Resume-clause-source : goal.returns-in-Resume-clause-source
returns-in-Resume-clause-source c =
    let code = c.args.code.now in
    λ source s low f.
    c.settle_resume.ensures.source source s (subst (λ h. Follow (laid_of code) source (stopping h c.args.asked.now) c.args.work.now s) c.in-Resume.is f)

pub returns-in-Resume-clause-falls : goal.returns-in-Resume-clause-falls
returns-in-Resume-clause-falls c =
    let code = c.args.code.now in
    λ w f.
    c.settle_resume.ensures.falls w (subst (λ h. FallsBelow code w (stopping h c.args.asked.now) c.args.work.now) c.in-Resume.is f)

pub returns-in-Suspend-clause-source : goal.returns-in-Suspend-clause-source
returns-in-Suspend-clause-source c =
    let code = c.args.code.now in
    λ source s low f.
    c.settle_suspend.ensures.source source s (subst (λ h. Follow (laid_of code) source (stopping h c.args.asked.now) c.args.work.now s) c.in-Suspend.is f)

pub returns-in-Suspend-clause-falls : goal.returns-in-Suspend-clause-falls
returns-in-Suspend-clause-falls c =
    let code = c.args.code.now in
    λ w f.
    c.settle_suspend.ensures.falls w (subst (λ h. FallsBelow code w (stopping h c.args.asked.now) c.args.work.now) c.in-Suspend.is f)

pub returns-in-EndMain-clause-source : goal.returns-in-EndMain-clause-source
returns-in-EndMain-clause-source c =
    let code = c.args.code.now in
    λ source s low f.
    c.settle_end.ensures.source source s (subst (λ h. Follow (laid_of code) source (stopping h c.args.asked.now) c.args.work.now s) c.in-EndMain.is f)

pub returns-in-EndMain-clause-falls : goal.returns-in-EndMain-clause-falls
returns-in-EndMain-clause-falls c =
    let code = c.args.code.now in
    λ w f.
    c.settle_end.ensures.falls w (subst (λ h. FallsBelow code w (stopping h c.args.asked.now) c.args.work.now) c.in-EndMain.is f)

pub returns-in-TakeDown-clause-source : goal.returns-in-TakeDown-clause-source
returns-in-TakeDown-clause-source c =
    let code = c.args.code.now in
    λ source s low f.
    let g = subst (λ h. Follow (laid_of code) source (stopping h c.args.asked.now) c.args.work.now s) c.in-TakeDown.is f in
    switch_leads source code c.args.work.now c.take_down.new.work s g.0 g.1 (c.take_down.ensures.source source (laid_of code) g.0 g.2)

pub returns-in-TakeDown-clause-falls : goal.returns-in-TakeDown-clause-falls
returns-in-TakeDown-clause-falls c =
    let code = c.args.code.now in
    λ w f. taken_falls code w c.args.work.now c.take_down.new.work c.take_down.ensures.fault c.take_down.ensures.state (subst (λ h. FallsBelow code w (stopping h c.args.asked.now) c.args.work.now) c.in-TakeDown.is f)
