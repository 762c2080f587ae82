use Rattle.std.proofs.Common.{refl}
use Rattle.uc_tree.specs.Expressions.{exprs_of}
use Rattle.uc_rules.specs.Visits.{read_visits, reads_visits}
use Rattle.uc_check_stmt.proofs.Walks.{noted_more}
use Rattle.uc_check_stmt.proofs.parts.check_places.Goals as goal

pub loop-place-preserved : goal.loop-place-preserved
loop-place-preserved c = noted_more (λ e. read_visits c.args.names.now e) (λ es. reads_visits c.args.names.now (exprs_of es)) (λ e es. refl) c.args.places.now c.loop-place.place-index c.place-item.result _ _ _ c.loop-place-test.true c.place-item.is c.check_place.ensures c.loop-place.invariant
