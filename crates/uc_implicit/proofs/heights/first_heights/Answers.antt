use Rattle.std.proofs.Common.{◌≡◌, replicate, rules}
use Rattle.uc_implicit.proofs.Deep.{zeros_below}
use Rattle.uc_implicit.proofs.heights.first_heights.Goals as goal

pub loop-place-init : goal.loop-place-init
loop-place-init c =
    let zeros : c.in_ok-heights.heights.items ≡ replicate c.args.count 0 = search rules in
    (search rules, λ h. rw zeros (zeros_below c.args.count c.args.count h))
