use Rattle.std.proofs.Common.{map, take}
use Rattle.uc_layout.specs.Places.{IsPlaces}
use Rattle.uc_layout.proofs.places.places_of_classes.Given as goal

abbrev pub invariant-loop-place : goal.invariant-loop-place
invariant-loop-place l = IsPlaces (map (λ c. c.now.name) (take l.place l.classes)) l.places
