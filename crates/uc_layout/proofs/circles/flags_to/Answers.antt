use Rattle.std.proofs.Common.{◌≡◌, ◌<◌, ◌≤◌, ◌++◌, length, take, drop, ap, subst, sym, rules, arith}
use Rattle.uc_layout.specs.ContainmentProgress.{flagged, Led, Told}
use Rattle.uc_layout.proofs.Whole.{whole_again}
use Rattle.uc_layout.proofs.ContainmentProgressLemmas.{flagged_fits}
use Rattle.uc_layout.proofs.circles.flags_to.Goals as goal

pub sweeps-smaller : goal.sweeps-smaller
sweeps-smaller c =
    let old : flagged c.deref_mut.result.now ≡ flagged c.sweeps.flags.items = ap flagged c.deref_mut.ensures.value in
    let more : flagged c.deref_mut.result.now < flagged c.mark_all.new.flags = c.mark_all.ensures.more (search rules) in
    let fits : flagged c.mark_all.new.flags ≤ length c.mark_all.new.flags = flagged_fits c.mark_all.new.flags in
    let same : length c.mark_all.new.flags ≡ length c.sweeps.flags.items = search rules in
    let len : c.sweeps.flags.len ≡ length c.sweeps.flags.items = search rules in
    let whole : flagged (take c.sweeps.flags.len (c.mark_all.new.flags ++ drop (length c.mark_all.new.flags) c.sweeps.flags.items)) ≡ flagged c.mark_all.new.flags = ap flagged (whole_again c.mark_all.new.flags c.sweeps.flags.items c.sweeps.flags.len same len) in
    omega (arith, c.sweeps.invariant.0)

pub returns-clause-led : goal.returns-clause-led
returns-clause-led c =
    let same : length c.mark_all.new.flags ≡ length c.sweeps.flags.items = search rules in
    let len : c.sweeps.flags.len ≡ length c.sweeps.flags.items = search rules in
    subst (λ fs. Led c.args.rows.now c.args.class fs) (sym (whole_again c.mark_all.new.flags c.sweeps.flags.items c.sweeps.flags.len same len)) c.mark_all.ensures.led

pub returns-clause-told : goal.returns-clause-told
returns-clause-told c =
    let same : length c.mark_all.new.flags ≡ length c.sweeps.flags.items = search rules in
    let len : c.sweeps.flags.len ≡ length c.sweeps.flags.items = search rules in
    subst (λ fs. Told c.args.rows.now c.args.class fs (length c.args.rows.now)) (sym (whole_again c.mark_all.new.flags c.sweeps.flags.items c.sweeps.flags.len same len)) (c.mark_all.ensures.told (search rules))
