use Rattle.std.proofs.Common.{◌≡◌, ◌<◌, ◌||◌, ℕ, List, is_some, length, drop}
use Rattle.std.specs.List.{list_any}
use Rattle.uc_tree.specs.Names.{same_name}
use Rattle.uc_names.specs.Blocks.{found}
use Rattle.uc_types.proofs.sets.names_of_inits.Given as goal

abbrev pub invariant-loop-init : goal.invariant-loop-init
invariant-loop-init l =
    (0 < length l.names) × ((x : List ℕ) → (is_some (found l.names x) || list_any (λ i. same_name i.name x) (drop l.init-index l.inits)) ≡ list_any (λ i. same_name i.name x) l.inits)
