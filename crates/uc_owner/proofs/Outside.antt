-- The constructors of a class that stand outside of it bind what the items of the program bind.
use Rattle.std.proofs.Common.{◌≡◌, ℕ, List, [], ◌∷◌, Bool, true, false, ◌&&◌, ◌||◌, if◌then◌else◌, refl, ap, sym, ◌∙◌}
use Rattle.std.specs.List.{list_any}
use Rattle.std.proofs.lemmas.List.Folds.{list_any-append}
use Rattle.uc_tree.specs.Programs.{Item, ClassItem, RoutineItem, ConstItem, ProtoItem, ForwardItem, UsingItem, Program, Routine}
use Rattle.uc_rules.specs.ClassBreaks.{is_owner}
use Rattle.uc_rules.specs.Names.{is_constructor}
use Rattle.uc_rules.specs.OwnerBreaks.{init_binds, item_binds, routine_binds}
use Rattle.uc_types.specs.OuterConstructors.{constructor_in, constructors_in}

or_false : (b : Bool) → b || false ≡ b
or_false true = refl
or_false false = refl

owned_case : (owner constructor : Bool) (p : Program) (class : ℕ) (name : List ℕ) (r : Routine) → is_constructor r.sig.role ≡ constructor → list_any (routine_binds p class name) (if owner && constructor then r ∷ [] else []) ≡ owner && routine_binds p class name r
owned_case true true p class name r e = or_false (routine_binds p class name r)
owned_case true false p class name r e = sym (ap (λ t. t && list_any (init_binds p class name r) r.inits) e)
owned_case false constructor p class name r e = refl

item_bind : (p : Program) (class : ℕ) (owner name : List ℕ) (x : Item) → list_any (routine_binds p class name) (constructor_in owner x) ≡ item_binds p class owner name x
item_bind p class owner name (RoutineItem r) = owned_case (is_owner owner r.sig.owner) (is_constructor r.sig.role) p class name r refl
item_bind p class owner name (ClassItem c) = refl
item_bind p class owner name (ConstItem c) = refl
item_bind p class owner name (ProtoItem sig) = refl
item_bind p class owner name (ForwardItem f) = refl
item_bind p class owner name (UsingItem at) = refl

pub outside_bind : (p : Program) (class : ℕ) (owner name : List ℕ) (xs : List Item) → list_any (routine_binds p class name) (constructors_in owner xs) ≡ list_any (item_binds p class owner name) xs
outside_bind p class owner name [] = refl
outside_bind p class owner name (x ∷ xs) =
    list_any-append (routine_binds p class name) (constructor_in owner x) (constructors_in owner xs)
    ∙ ap (λ b. b || list_any (routine_binds p class name) (constructors_in owner xs)) (item_bind p class owner name x)
    ∙ ap (λ b. item_binds p class owner name x || b) (outside_bind p class owner name xs)
