use Rattle.uc_implicit.proofs.Deep.{set_below}
use Rattle.uc_implicit.proofs.heights.reckon.Goals as goal

pub returns-then-height-count-clause-few : goal.returns-then-height-count-clause-few
returns-then-height-count-clause-few c = set_below c.args.heights.now c.args.place c.tallest-height.result c.args.count c.requires.few c.if-height-count.true
