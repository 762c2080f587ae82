use Rattle.std.proofs.Common.{rules, ap, sym, subst, map, take, length, get_or, ◌∙◌, ◌≡◌, ◌<◌, ◌++◌, ◌∷◌, []}
use Rattle.std.proofs.lemmas.List.{map_more}
use Rattle.uc_layout.specs.Places.{IsPlaces}
use Rattle.uc_layout.proofs.PlacesLemmas.{length_taken}
use Rattle.uc_lower.proofs.numbering.places_of_names.Goals as goal

pub loop-place-preserved : goal.loop-place-preserved
loop-place-preserved c =
    let xs = c.args.names.now in
    let within : c.loop-place.place < length xs = search rules in
    let grown = map_more (λ k. k.now) xs c.loop-place.place c.index-names-place.result within in
    let noted = c.in_ok-note_place.ensures (map (λ k. k.now) (take c.loop-place.place xs)) (length_taken (λ k. k.now) xs c.loop-place.place within) c.loop-place.invariant in
    let is : get_or xs c.loop-place.place c.index-names-place.result ≡ c.index-names-place.result = sym c.index-names-place.is in
    subst (λ ns. IsPlaces ns c.note_place.new.places) (sym (grown ∙ ap (λ k. map (λ k. k.now) (take c.loop-place.place xs) ++ k.now ∷ []) is)) noted
