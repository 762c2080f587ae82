use Rattle.std.proofs.Common.{ap, sym, ◌∙◌, None, unwrap_or}
use Rattle.std.proofs.lemmas.Option.{unwrap_or-slice_get, slice_get_past}
use Rattle.uc_layout.proofs.PlacesLemmas.{value_placed, value_nowhere}
use Rattle.uc_layout.proofs.known.ConstantValuesNameValues.value.Goals as goal

pub returns-in-Some-get : goal.returns-in-Some-get
returns-in-Some-get c =
    let k = c.args.self.now in
    let at = c.in-Some-get.ensures.lookup in
    sym (value_placed (λ b. b.now) k.constants.now 0 k.values.now c.args.name.now c.in-Some.place (sym (c.in-Some.ensures _ k.placed)) ∙ sym (at.3.1 None))

pub returns-in-None-get : goal.returns-in-None-get
returns-in-None-get c =
    let k = c.args.self.now in
    let at = c.in-None-get.ensures.lookup in
    sym (value_placed (λ b. b.now) k.constants.now 0 k.values.now c.args.name.now c.in-Some.place (sym (c.in-Some.ensures _ k.placed)) ∙ sym (unwrap_or-slice_get k.values.now c.in-Some.place None) ∙ ap (λ o. unwrap_or o None) (slice_get_past k.values.now c.in-Some.place at.3))

pub returns-in-None : goal.returns-in-None
returns-in-None c =
    let k = c.args.self.now in
    sym (value_nowhere (λ b. b.now) k.constants.now 0 k.values.now c.args.name.now (sym (c.in-None.ensures _ k.placed)))
