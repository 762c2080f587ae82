use Rattle.std.proofs.Common.{rules, ap, sym, subst, map, take, length, get_or, ◌∙◌, ◌≡◌, ◌<◌, ◌++◌, ◌∷◌, []}
use Rattle.std.proofs.lemmas.List.{map_more}
use Rattle.uc_layout.specs.Places.{IsPlaces}
use Rattle.uc_types.proofs.Placed.{length_taken}
use Rattle.uc_types.proofs.directory.places_of.Goals as goal

pub loop-place-preserved : goal.loop-place-preserved
loop-place-preserved c =
    let xs = c.args.seen.now in
    let within : c.loop-place.place < length xs = search rules in
    let grown = map_more (λ s. s.name) xs c.loop-place.place c.index-seen-place.result within in
    let noted = c.in_ok-note_place.ensures (map (λ s. s.name) (take c.loop-place.place xs)) (length_taken (λ s. s.name) xs c.loop-place.place within) c.loop-place.invariant in
    let is : get_or xs c.loop-place.place c.index-seen-place.result ≡ c.index-seen-place.result = sym c.index-seen-place.is in
    subst (λ ns. IsPlaces ns c.note_place.new.places) (sym (grown ∙ ap (λ s. map (λ s. s.name) (take c.loop-place.place xs) ++ s.name ∷ []) is)) noted
