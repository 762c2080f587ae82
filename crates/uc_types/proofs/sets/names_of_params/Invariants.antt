use Rattle.std.proofs.Common.{◌≡◌, ◌<◌, ◌||◌, ℕ, List, is_some, length, drop}
use Rattle.std.specs.List.{list_any}
use Rattle.uc_tree.specs.Names.{same_name}
use Rattle.uc_names.specs.Blocks.{found}
use Rattle.uc_types.proofs.sets.names_of_params.Given as goal

abbrev pub invariant-loop-param : goal.invariant-loop-param
invariant-loop-param l =
    (0 < length l.names) × ((x : List ℕ) → (is_some (found l.names x) || list_any (λ p. same_name p.name x) (drop l.param-index l.params)) ≡ list_any (λ p. same_name p.name x) l.params)
