use Rattle.std.proofs.Common.{◌+◌, [], ◌∷◌, ◌++◌, refl}
use Rattle.uc_rules.specs.Names.{place_in}
use Rattle.uc_rules.specs.ProgramVisits.{fields_visits}
use Rattle.uc_rules.specs.Visits.{AtField, maybe_visits}
use Rattle.uc_classes.proofs.Walked.{walked_by}
use Rattle.uc_classes.proofs.class.check_fields.Goals as goal

pub loop-index-preserved : goal.loop-index-preserved
loop-index-preserved c =
    let env = c.args.names.now in
    let class = c.args.walked.class.now in
    let access = c.args.listed.access in
    let base = c.args.listed.base.now in
    let member = c.args.listed.member in
    walked_by (λ i d. maybe_visits env d.len ++ AtField env class access base d (place_in member i) ∷ []) (λ i d. i + 1) (λ i ds. fields_visits env class access base member i ds) (λ i d ds. refl) c.loop-index.index (c.loop-index.index + 1) c.args.listed.declarators.now c.loop-index.index c.declarator-item.result _ _ _ c.loop-index-test.true c.declarator-item.is refl c.in_ok-check_field.ensures c.loop-index.invariant
