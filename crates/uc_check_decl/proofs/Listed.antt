-- Tests over lists that are joined, and of names in lists.
use Rattle.std.proofs.Common.{◌≡◌, ℕ, List, [], ◌∷◌, ◌||◌, refl, ap}
use Rattle.std.specs.List.{list_any}
use Rattle.std.proofs.lemmas.List.{take_min}
use Rattle.std.proofs.lemmas.List.Folds.{list_any-append}
use Rattle.uc_tree.specs.Names.{same_name}
use Rattle.uc_tree.specs.Statements.{Declarator}
use Rattle.uc_rules.specs.ClassBreaks.{declared_names}

pub declared_any : (ds : List Declarator) (name : List ℕ) → list_any (λ x. same_name x name) (declared_names ds) ≡ list_any (λ d. same_name d.name name) ds
declared_any [] name = refl
declared_any (d ∷ ds) name = ap (λ b. same_name d.name name || b) (declared_any ds name)

pub ruleset listing = (take_min, list_any-append)
