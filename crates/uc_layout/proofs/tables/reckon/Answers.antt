use Rattle.std.proofs.Common.{◌≡◌, ◌<◌, true, false, None, map, get_or, is_some, is_none, length, ap, sym, ◌∙◌, rules, arith}
use Rattle.uc_tree.specs.Constants.{own_value}
use Rattle.uc_layout.specs.Values.{value_at}
use Rattle.uc_layout.proofs.ValuesLemmas.{at_map, settled, sound_set}
use Rattle.uc_layout.proofs.tables.reckon.Goals as goal

pub returns-then-is_some-clause-reckoned : goal.returns-then-is_some-clause-reckoned
returns-then-is_some-clause-reckoned c = λ f d at.
    let h : is_some (get_or c.args.values.now c.args.place None) ≡ true = search rules in
    settled (map (λ c'. c'.now) c.args.constants.now) c.args.values.now c.args.place d c.requires.sound at h

pub returns-clause-sound : goal.returns-clause-sound
returns-clause-sound c =
    let inside : c.args.place < length c.args.values.now = omega (arith, c.requires.inside, c.requires.full) in
    let empty : is_some (get_or c.args.values.now c.args.place None) ≡ false = search rules in
    let full : is_none c.own_value-own.result ≡ false = search rules in
    (sound_set (map (λ c'. c'.now) c.args.constants.now) c.args.values.now c.args.place c.own_value-own.result inside empty c.requires.sound
    (λ d at. ap (λ k. own_value (value_at (map (λ c'. c'.now) c.args.constants.now) c.args.values.now) k) (at_map (λ c'. c'.now) c.args.constants.now c.args.place c.index-constants-place.result d c.requires.inside c.index-constants-place.is at) ∙ sym c.own_value-own.ensures) full).0

pub returns-clause-more : goal.returns-clause-more
returns-clause-more c = λ t.
    let inside : c.args.place < length c.args.values.now = omega (arith, c.requires.inside, c.requires.full) in
    let empty : is_some (get_or c.args.values.now c.args.place None) ≡ false = search rules in
    let full : is_none c.own_value-own.result ≡ false = search rules in
    (sound_set (map (λ c'. c'.now) c.args.constants.now) c.args.values.now c.args.place c.own_value-own.result inside empty c.requires.sound
    (λ d at. ap (λ k. own_value (value_at (map (λ c'. c'.now) c.args.constants.now) c.args.values.now) k) (at_map (λ c'. c'.now) c.args.constants.now c.args.place c.index-constants-place.result d c.requires.inside c.index-constants-place.is at) ∙ sym c.own_value-own.ensures) full).1
