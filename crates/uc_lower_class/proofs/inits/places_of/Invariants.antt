use Rattle.std.proofs.Common.{map, take}
use Rattle.uc_layout.specs.Places.{IsPlaces}
use Rattle.uc_lower_class.proofs.inits.places_of.Given as goal

abbrev pub invariant-loop-place : goal.invariant-loop-place
invariant-loop-place l = IsPlaces (map (λ x. x.name) (take l.place l.inits)) l.places
