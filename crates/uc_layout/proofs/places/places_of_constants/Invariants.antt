use Rattle.std.proofs.Common.{map, take}
use Rattle.uc_layout.specs.Places.{IsPlaces}
use Rattle.uc_layout.proofs.places.places_of_constants.Given as goal

abbrev pub invariant-loop-place : goal.invariant-loop-place
invariant-loop-place l = IsPlaces (map (λ c. c.now.name) (take l.place l.constants)) l.places
