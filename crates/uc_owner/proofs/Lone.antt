-- Lists of arguments that are not a lone one.
use Rattle.std.proofs.Common.{◌≡◌, ℕ, List, [], ◌∷◌, nat_eq, length, refl}
use Rattle.std.proofs.lemmas.Bool.{ne_eqb}
use Rattle.uc_tree.specs.Expressions.{Expr, exprs_of}
use Rattle.uc_tree.specs.Programs.{Routine, Program}
use Rattle.uc_rules.specs.OwnerBreaks.{binds_own}

pub not_lone : (p : Program) (class : ℕ) (r : Routine) (es : List Expr) → (length es ≡ 1 → ⊥) → nat_eq (length es) 1 ≡ binds_own p class r (exprs_of es)
not_lone p class r [] h = refl
not_lone p class r (x ∷ []) h = absurd (h refl)
not_lone p class r (x ∷ y ∷ es) h = ne_eqb (length (x ∷ y ∷ es)) 1 h
