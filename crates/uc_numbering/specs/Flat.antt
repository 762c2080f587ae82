-- What the statements of a list give, one after another.
use Rattle.std.specs.Prelude.{List, [], ◌∷◌, ◌++◌}
use Rattle.uc_tree.specs.Statements.{Stmt}

abbrev pub itself : Stmt → List Stmt
itself s = s ∷ []

abbrev pub flat : {A : Type 0} → (Stmt → List A) → List Stmt → List A
flat own [] = []
flat own (s ∷ ss) = own s ++ flat own ss
