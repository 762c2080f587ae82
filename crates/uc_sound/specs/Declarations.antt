-- Declarations: what one adds to the names of both look-ups agrees, and what was there before goes on to agree.
use Rattle.std.specs.Prelude.{◌≡◌, ℕ, ◌≤◌, ◌++◌, List, [], ◌∷◌, Bool, true, false, Some, None}
use Rattle.uc_tree.specs.declared.kinds.LocalVariable.{LocalVariable}
use Rattle.uc_tree.specs.Programs.{Program}
use Rattle.uc_machine.specs.Pieces.{LAST_ADDRESS}
use Rattle.uc_resolve.specs.Standings.{known_meant}
use Rattle.uc_rules.specs.declared.rules.Sort.{Sort}
use Rattle.uc_rules.specs.declared.rules.Entity.TheVariants as entity
use Rattle.uc_rules.specs.declared.rules.LocalName.{LocalName}
use Rattle.uc_rules.specs.Sorts.{is_condition, sort_of}
use Rattle.uc_typing.specs.Typing.{Ty, Cell, Row, Name, Sig, Table, IsPlaced, IsParam, IsVariable, InScope}
use Rattle.uc_sound.specs.Agreement.{is_numbered, found_ty, place_ty, Agrees, AgreesIf, Alike}

-- a variable of a sort stands at a cell: what is known by its number is in scope there
abbrev pub StoodBy : Table → Sig → List Name → Bool → ℕ → Ty → Type 0
StoodBy t g sc true cell a = InScope sc cell (Cell a)
StoodBy t g sc false cell a = IsVariable t g sc cell a × IsPlaced t a

module _ (t : Table) (g : Sig) (sc : List Name) where
  pub record DeclaredAgree (p : Program) : Type 0 where
    -- a variable, an array, and a parameter that is a reference
    pub variable : (k : LocalVariable) (s : Sort) → sort_of p k.ty.base ≡ Some s → is_condition s ≡ false → k.ty.by_ref ≡ false → k.ty.len ≡ None → StoodBy t g sc (is_numbered s) k.cell (found_ty s) → Agrees t g sc p (entity.Place s) (known_meant p k)
    pub array : (k : LocalVariable) (s : Sort) (n : ℕ) → sort_of p k.ty.base ≡ Some s → is_condition s ≡ false → k.ty.by_ref ≡ false → k.ty.len ≡ Some n → IsVariable t g sc k.cell (Row n (place_ty s)) → IsPlaced t (place_ty s) → Agrees t g sc p (entity.Array s n) (known_meant p k)
    pub reference : (k : LocalVariable) (s : Sort) → sort_of p k.ty.base ≡ Some s → is_condition s ≡ false → k.ty.by_ref ≡ true → k.ty.len ≡ None → IsParam g.params k.cell (found_ty s) → k.cell ≤ LAST_ADDRESS → Agrees t g sc p (entity.Place s) (known_meant p k)
    -- one name more
    pub more : (ss : List LocalName) (ks : List LocalVariable) (s : LocalName) (k : LocalVariable) → s.name ≡ k.name → AgreesIf t g sc p s.meant.entity (known_meant p k) → Alike t g sc p ss ks → Alike t g sc p (ss ++ s ∷ []) (ks ++ k ∷ [])
    -- in the scope of one object more
    pub wider : (x : Name) (ss : List LocalName) (ks : List LocalVariable) → Alike t g sc p ss ks → Alike t g (x ∷ sc) p ss ks

  abbrev pub LawDeclared : Type 0
  LawDeclared = t.refers ≡ true → (p : Program) → DeclaredAgree p
