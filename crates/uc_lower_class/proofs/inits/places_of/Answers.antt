use Rattle.std.proofs.Common.{rules, ap, sym, subst, map, take, length, get_or, ◌∙◌, ◌≡◌, ◌<◌, ◌++◌, ◌∷◌, []}
use Rattle.std.proofs.lemmas.List.{map_more}
use Rattle.uc_tree.specs.Programs.{Init}
use Rattle.uc_layout.specs.Places.{IsPlaces}
use Rattle.uc_layout.proofs.PlacesLemmas.{length_taken}
use Rattle.uc_lower_class.proofs.inits.places_of.Goals as goal

pub note_place-requires : goal.note_place-requires
note_place-requires c = c.loop-place.invariant.one

pub loop-place-preserved : goal.loop-place-preserved
loop-place-preserved c =
    let xs = c.args.inits.now in
    let within : c.loop-place.place < length xs = search rules in
    let grown = map_more (λ (k : Init). k.name) xs c.loop-place.place c.index-inits-place.result within in
    let noted = c.in_ok-note_place.ensures (map (λ (k : Init). k.name) (take c.loop-place.place xs)) (length_taken (λ (k : Init). k.name) xs c.loop-place.place within) c.loop-place.invariant in
    let is : get_or xs c.loop-place.place c.index-inits-place.result ≡ c.index-inits-place.result = sym c.index-inits-place.is in
    subst (λ ns. IsPlaces ns c.note_place.new.places) (sym (grown ∙ ap (λ (k : Init). map (λ (k : Init). k.name) (take c.loop-place.place xs) ++ k.name ∷ []) (is ∙ sym c.init.view_is))) noted
