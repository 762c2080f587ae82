use Rattle.std.proofs.Common.{ap, ◌∙◌}
use Rattle.std.proofs.lemmas.Bool.{eq-eqb, ne_eqb}
use Rattle.uc_explain.proofs.LineLemmas.{begun_as, passed, told}
use Rattle.uc_explain.proofs.StepLemmas.{fit_at}
use Rattle.uc_explain.proofs.explaining.explain.Goals as goal
use Rattle.uc_explain.proofs.explaining.explain.Goals.{then-e-object+in_ok-add+in_ok-put_changed, else-e-object}

pub loop-number-init : goal.loop-number-init
loop-number-init c = begun_as c.args.object c.args.journal.now _ _ _ c.new-text.ensures.items c.new-before.ensures c.new-now.ensures

pub add-requires : goal.add-requires
add-requires c = fit_at c.args.journal.now c.loop-number.number _ c.requires c.loop-number-test.true

pub put_changed-requires-clause-fit : goal.put_changed-requires-clause-fit
put_changed-requires-clause-fit c = fit_at c.args.journal.now c.loop-number.number _ c.requires c.loop-number-test.true

pub loop-number-preserved : goal.loop-number-preserved
loop-number-preserved c =
    let o = c.args.object in
    let k = c.loop-number.number in
    let j = c.args.journal.now in
    elim c.if-e-object.branch [
      | then-e-object+in_ok-add+in_ok-put_changed w ↦ told o k j c.loop-number.text.items c.if-e-object.text.items c.loop-number.before c.loop-number.now w.add.new.self c.if-e-object.before c.if-e-object.now _ c.loop-number-test.true (eq-eqb _ _ w.if-e-object.true) c.loop-number.invariant w.in_ok-add.ensures.ok (ap (λ v. v.items) w.text-is ∙ w.in_ok-put_changed.ensures.text) (w.before-is ∙ w.in_ok-put_changed.ensures.before) w.now-is
      | else-e-object w ↦ passed o k j c.loop-number.text.items c.if-e-object.text.items c.loop-number.before c.loop-number.now c.if-e-object.before c.if-e-object.now _ c.loop-number-test.true (ne_eqb _ _ w.if-e-object.false) c.loop-number.invariant (ap (λ v. v.items) w.text-is) w.before-is w.now-is
    ]
