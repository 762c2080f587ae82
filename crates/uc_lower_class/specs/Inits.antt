-- The initialisers of a constructor, and the names of the fields of a class.
use Rattle.std.specs.Prelude.{ℕ, List, [], ◌∷◌, map, if◌then◌else◌}
use Rattle.uc_tree.specs.Names.{same_name}
use Rattle.uc_tree.specs.Expressions.{Exprs, NoExprs}
use Rattle.uc_tree.specs.Programs.{Init}
use Rattle.uc_tree.specs.Objects.{ClassField}

-- the arguments with which the field of a name starts
abbrev pub init_exprs : List Init → List ℕ → Exprs
init_exprs [] name = NoExprs
init_exprs (x ∷ xs) name = if same_name x.name name then x.args else init_exprs xs name

abbrev pub names_of : List ClassField → List (List ℕ)
names_of fs = map (λ f. f.declarator.name) fs
