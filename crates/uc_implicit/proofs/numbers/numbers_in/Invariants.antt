use Rattle.std.proofs.Common.{◌≡◌, ◌++◌, ℕ, List, drop, map}
use Rattle.uc_layout.specs.Places.{IsPlaces}
use Rattle.uc_implicit.specs.Numbers.{number_by}
use Rattle.uc_implicit.proofs.numbers.numbers_in.Given as goal

abbrev pub invariant-loop-class : goal.invariant-loop-class
invariant-loop-class l = (names : List (List ℕ)) → IsPlaces names l.places → l.numbers.items ++ map (λ c. number_by names c.now.name) (drop l.class-index l.classes) ≡ map (λ c. number_by names c.now.name) l.classes
