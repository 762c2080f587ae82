use Rattle.std.proofs.Common.{map, take}
use Rattle.uc_layout.specs.Places.{IsPlaces}
use Rattle.uc_types.proofs.directory.places_of.Given as goal

abbrev pub invariant-loop-place : goal.invariant-loop-place
invariant-loop-place l = IsPlaces (map (λ s. s.name) (take l.place l.seen)) l.places
