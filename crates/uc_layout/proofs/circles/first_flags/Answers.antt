use Rattle.std.proofs.Common.{◌≡◌, length, subst, sym, rules}
use Rattle.uc_layout.specs.ContainmentProgress.{Led}
use Rattle.uc_layout.proofs.Whole.{whole_again}
use Rattle.uc_layout.proofs.circles.first_flags.Goals as goal

pub returns-clause-led : goal.returns-clause-led
returns-clause-led c =
    let same : length c.spread.new.flags ≡ length c.in_ok-flags.flags.items = search rules in
    let len : c.in_ok-flags.flags.len ≡ length c.in_ok-flags.flags.items = search rules in
    subst (λ fs. Led c.args.rows.now c.args.to fs) (sym (whole_again c.spread.new.flags c.in_ok-flags.flags.items c.in_ok-flags.flags.len same len)) c.spread.ensures.led
