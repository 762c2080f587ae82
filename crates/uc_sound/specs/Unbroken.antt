-- An expression at which no rule is broken stands for something.
use Rattle.std.specs.Prelude.{◌≡◌, ℕ, List, [], true, false, Option, Some}
use Rattle.uc_tree.specs.Expressions as expr
use Rattle.uc_rules.specs.declared.rules.Entity.{Entity}
use Rattle.uc_rules.specs.declared.rules.NameMeaning.{NameMeaning}
use Rattle.uc_rules.specs.Scopes.{Env, named}
use Rattle.uc_rules.specs.Entities.{entity_of, path_member, takes, is_main, given}
use Rattle.uc_rules.specs.Visits.{Visit, visits}
use Rattle.uc_rules.specs.Breaks.{breaks_among}

-- no rule is broken at these visits
abbrev pub Unbroken : List Visit → Type 0
Unbroken vs = breaks_among vs ≡ []

abbrev pub Stands : Option Entity → Type 0
Stands o = (w : Entity) × (o ≡ Some w)

-- what is declared has a known base: rules at the declarations ask that
pub record IsKnown (env : Env) : Type 0 where
  pub names : (name : List ℕ) (m : NameMeaning) → named env name ≡ Some m → Stands m.entity
  pub members : (w : Entity) (name : List ℕ) (m : NameMeaning) → path_member env.program w name ≡ Some m → Stands m.entity
  pub results : (w : Entity) (n : ℕ) → takes env.program n w ≡ true → is_main env.program w ≡ false → Stands (given env.program w)

abbrev pub LawStands : Type 0
LawStands = (env : Env) → IsKnown env → (e : expr.Expr) → Unbroken (visits env e) → Stands (entity_of env e)
