-- A condition behind the last number has none.
use Rattle.std.proofs.Common.{◌≡◌, ℕ, ℤ, ◌+◌, ◌<◌, List, [], ◌∷◌, true, false, Option, Some, None, if◌then◌else◌, refl, arith}
use Rattle.std.specs.Prelude.{option_and_then}
use Rattle.uc_tree.specs.Names.{same_name}
use Rattle.uc_tree.specs.Constants.{elements}
use Rattle.uc_tree.specs.Statements.{Declarator}
use Rattle.uc_tree.specs.Numbering.{at_most, condition_number_in}
use Rattle.uc_numbering.proofs.Listed.{at_most_none}

pub past_conditions : (named : List ℕ → Option ℤ) (last i : ℕ) (ds : List Declarator) (name : List ℕ) → last < i → option_and_then (at_most last) (condition_number_in named i ds name) ≡ None
past_conditions named last i [] name h = refl
past_conditions named last i (d ∷ ds) name h =
    elim (same_name d.name name) as (λ b. option_and_then (at_most last) (if b then Some i else condition_number_in named (i + elements named d) ds name) ≡ None) [
      | true ↦ at_most_none last i h
      | false ↦ past_conditions named last (i + elements named d) ds name (omega arith)
    ]
