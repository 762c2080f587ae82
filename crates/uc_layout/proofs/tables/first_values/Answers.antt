use Rattle.std.proofs.Common.{◌≡◌, length, map, subst, sym, rules}
use Rattle.uc_layout.specs.ValueProgress.{Sound}
use Rattle.uc_layout.proofs.Whole.{whole_again}
use Rattle.uc_layout.proofs.tables.first_values.Goals as goal

pub returns-clause-sound : goal.returns-clause-sound
returns-clause-sound c =
    let same : length c.reckon_all.new.values ≡ length c.in_ok-values.values.items = search rules in
    let len : c.in_ok-values.values.len ≡ length c.in_ok-values.values.items = search rules in
    subst (λ vs. Sound (map (λ k. k.now) c.args.constants.now) vs) (sym (whole_again c.reckon_all.new.values c.in_ok-values.values.items c.in_ok-values.values.len same len)) c.reckon_all.ensures
