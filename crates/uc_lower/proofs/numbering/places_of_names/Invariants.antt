use Rattle.std.proofs.Common.{map, take}
use Rattle.uc_layout.specs.Places.{IsPlaces}
use Rattle.uc_lower.proofs.numbering.places_of_names.Given as goal

abbrev pub invariant-loop-place : goal.invariant-loop-place
invariant-loop-place l = IsPlaces (map (λ n. n.now) (take l.place l.names)) l.places
