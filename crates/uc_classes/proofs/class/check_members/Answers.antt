use Rattle.std.proofs.Common.{◌+◌, ◌∷◌, refl, ap, sym, ◌∙◌}
use Rattle.std.specs.Prelude.{slice_get}
use Rattle.uc_rules.specs.ProgramVisits.{form_visits, members_visits}
use Rattle.uc_rules.specs.Scopes.{class_around, plain_env}
use Rattle.uc_rules.specs.Visits.{AtMark}
use Rattle.uc_classes.proofs.Walked.{walked_by, got}
use Rattle.uc_classes.proofs.class.check_members.Goals as goal

pub check_member-requires-clause-at : goal.check_member-requires-clause-at
check_member-requires-clause-at c =
    ap (λ ms. slice_get ms c.loop-place.place) (sym c.members_in-members.ensures) ∙ got c.members_in-members.result.now c.loop-place.place c.index-members-place.result c.loop-place-test.true c.index-members-place.is

pub loop-place-preserved : goal.loop-place-preserved
loop-place-preserved c =
    let p = c.args.walked.tables.now in
    let home = c.args.walked.home in
    let class = c.args.walked.class.now in
    walked_by (λ j m. AtMark (plain_env p (class_around home)) class m ∷ form_visits p home class j m.mark m.access m.form) (λ j m. j + 1) (λ j ms. members_visits p home class j ms) (λ j m ms. refl) c.loop-place.place (c.loop-place.place + 1) c.members_in-members.result.now c.loop-place.place c.index-members-place.result _ _ _ c.loop-place-test.true c.index-members-place.is refl c.in_ok-check_member.ensures c.loop-place.invariant
