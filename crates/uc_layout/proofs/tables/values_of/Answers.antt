use Rattle.std.proofs.Common.{◌≡◌, ◌<◌, ◌≤◌, ◌++◌, map, length, take, drop, ap, subst, sym, rules, arith}
use Rattle.uc_tree.specs.Constants.{value_of_name}
use Rattle.uc_layout.specs.Values.{value_at}
use Rattle.uc_layout.specs.ValueProgress.{known}
use Rattle.uc_layout.proofs.Whole.{whole_again, map_length}
use Rattle.uc_layout.proofs.ValuesLemmas.{known_fits, all_values}
use Rattle.uc_layout.proofs.tables.values_of.Goals as goal

pub sweeps-smaller : goal.sweeps-smaller
sweeps-smaller c =
    let old : known c.deref_mut.result.now ≡ known c.sweeps.values.items = ap known c.deref_mut.ensures.value in
    let more : known c.deref_mut.result.now < known c.sweep.new.values = c.sweep.ensures.more (search rules) in
    let fits : known c.sweep.new.values ≤ length c.sweep.new.values = known_fits c.sweep.new.values in
    let same : length c.sweep.new.values ≡ length c.sweeps.values.items = search rules in
    let len : c.sweeps.values.len ≡ length c.sweeps.values.items = search rules in
    let whole : known (take c.sweeps.values.len (c.sweep.new.values ++ drop (length c.sweep.new.values) c.sweeps.values.items)) ≡ known c.sweep.new.values = ap known (whole_again c.sweep.new.values c.sweeps.values.items c.sweeps.values.len same len) in
    omega (arith, c.sweeps.invariant.0)

pub returns : goal.returns
returns c =
    let same : length c.sweep.new.values ≡ length c.sweeps.values.items = search rules in
    let len : c.sweeps.values.len ≡ length c.sweeps.values.items = search rules in
    subst (λ vs. value_at (map (λ c'. c'.now) c.args.constants.now) vs ≡ value_of_name (map (λ c'. c'.now) c.args.constants.now)) (sym (whole_again c.sweep.new.values c.sweeps.values.items c.sweeps.values.len same len))
    (all_values (map (λ c'. c'.now) c.args.constants.now) c.sweep.new.values (length c.args.constants.now) (map_length (λ c'. c'.now) c.args.constants.now) (omega (arith, c.sweeps.invariant.0)) c.sweep.ensures.sound (c.sweep.ensures.reckoned (search rules)))
