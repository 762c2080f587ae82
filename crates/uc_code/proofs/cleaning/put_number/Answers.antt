use Rattle.uc_code.proofs.Putting.{puts_both, place_stable}
use Rattle.uc_code.proofs.cleaning.put_number.Goals as goal

pub returns-clause-ends : goal.returns-clause-ends
returns-clause-ends c = puts_both (place_stable c.args.line c.args.spot c.args.array) c.in_ok-put_place.ensures c.in_ok-put.ensures

pub returns-clause-closes : goal.returns-clause-closes
returns-clause-closes c of = puts_both (place_stable c.args.line c.args.spot c.args.array) c.in_ok-put_place.ensures c.in_ok-put.ensures
