-- What a declaration adds to the names of both look-ups agrees, and what was there before goes on to agree.
use Rattle.std.proofs.Common.{◌≡◌, ℕ, ◌≤◌, ◌++◌, inl, inr, List, [], ◌∷◌, Option, Some, None, Bool, true, false, refl, sym, ap, ◌∙◌, subst}
use Rattle.std.specs.Prelude.{not, ◌&&◌, is_some, if◌then◌else◌}
use Rattle.uc_tree.specs.declared.kinds.LocalVariable.{LocalVariable}
use Rattle.uc_tree.specs.Programs.{Program}
use Rattle.uc_tree.specs.Objects.{making, is_numbered as is_made_numbered}
use Rattle.uc_tree.specs.Source.{Get, Variable}
use Rattle.uc_machine.specs.Pieces.{LAST_ADDRESS}
use Rattle.uc_resolve.specs.Standings as tree
use Rattle.uc_resolve.specs.Standings.{AtVariable, AtPlace, AsNumber, known_meant}
use Rattle.uc_rules.specs.declared.rules.Sort.{Sort}
use Rattle.uc_rules.specs.declared.rules.Entity.{Entity}
use Rattle.uc_rules.specs.declared.rules.Entity.TheVariants as entity
use Rattle.uc_rules.specs.declared.rules.LocalName.{LocalName}
use Rattle.uc_rules.specs.Sorts.{is_condition, sort_of}
use Rattle.uc_typing.specs.Typing.{Ty, Num, Cell, Obj, Row, Name, Var, Own, Kept, Sig, Table, IsPlaced, IsParam, IsVariable, InScope, IsHeld, Yields, Fine}
use Rattle.uc_sound.specs.Agreement.{is_numbered, found_ty, place_ty, row_ty, RowPlaced, StandsBy, ValuedBy, Agrees, AgreesIf, Alike}
use Rattle.uc_sound.specs.Declarations.{StoodBy, LawDeclared}
use Rattle.uc_sound.proofs.Ties.{false_true, scalar_cell, scalar_unnumbered, numbered_is}

-- a wider scope

module _ (t : Table) (g : Sig) (x : Name) (sc : List Name) where
  scope_wider : (k : ℕ) (a : Ty) → InScope sc k a → InScope (x ∷ sc) k a
  scope_wider k a h = by_name x h
    where
      by_name : (x : Name) → InScope sc k a → InScope (x ∷ sc) k a
      by_name (Var l b) h = inr h
      by_name (Own i) h = h
      by_name Kept h = h

  variable_wider : (k : ℕ) (a : Ty) → IsVariable t g sc k a → IsVariable t g (x ∷ sc) k a
  variable_wider k a (inl h) = inl (scope_wider k a h)
  variable_wider k a (inr h) = inr h

  held_wider : (k : ℕ) (a : Ty) → IsHeld t g sc k a → IsHeld t g (x ∷ sc) k a
  held_wider k a (inl h) = inl h
  held_wider k a (inr (inl h)) = inr (inl h)
  held_wider k a (inr (inr h)) = inr (inr (scope_wider k (Cell a) h.0, h.1))

  -- of a name: what finds it, and its value
  record Wider (m : tree.Meant) : Type 0 where
    found : (a : Ty) → Yields t g sc m.expr a → Yields t g (x ∷ sc) m.expr a
    value : ValuedBy t g sc m.standing m.expr → ValuedBy t g (x ∷ sc) m.standing m.expr

  known_wider : (b : Bool) (k : LocalVariable) → Wider (tree.known_by b k)
  known_wider true k = record { found = held_wider k.cell; value = held_wider k.cell Num }
  known_wider false k = by_reference k.ty.by_ref
    where
      by_reference : (r : Bool) → Wider (if r then record { expr = Get k.cell; ty = k.ty; standing = AtPlace } else record { expr = Variable k.cell; ty = k.ty; standing = AtVariable k.cell })
      by_reference true = record { found = held_wider k.cell; value = λ h. (h.0, held_wider k.cell (Cell Num) h.1) }
      by_reference false = record { found = λ a h. (variable_wider k.cell a h.0, h.1); value = held_wider k.cell Num }

  fine_wider : (m : tree.Meant) → Wider m → Fine t g sc m.expr → Fine t g (x ∷ sc) m.expr
  fine_wider m u h = (h.0, u.found h.0 h.1)

  agrees_wider : (p : Program) (w : Entity) (m : tree.Meant) → Wider m → Agrees t g sc p w m → Agrees t g (x ∷ sc) p w m
  agrees_wider p (entity.Value s) m u h = (h.0, u.value h.1)
  agrees_wider p (entity.Place s) m u h = ((u.found (found_ty s) h.0.0, λ d. u.value (h.0.1 d)), h.1, h.2)
  agrees_wider p (entity.Array s n) m u h = (u.found (row_ty (is_condition s) n s) h.0, h.1, h.2, h.3)
  agrees_wider p (entity.Routine i) m u h = record { number = h.number; standing = h.standing; params = h.params; table = h.table; alone = h.alone; known = h.known; reached = h.reached; at = fine_wider m u h.at }
  agrees_wider p (entity.Method i j inner path) m u h = record {
    number = h.number;
    class = h.class;
    standing = h.standing;
    params = h.params;
    table = h.table;
    at = u.found (Obj h.class) h.at;
    this = h.this;
    plain = h.plain;
    known = h.known;
    reached = h.reached;
  }
  agrees_wider p (entity.Operation o) m u h = (h.0, u.found Num h.1, h.2)
  agrees_wider p entity.Fail m u h = (h.0, fine_wider m u h.1)
  agrees_wider p entity.Input m u h = (h.0, fine_wider m u h.1)
  agrees_wider p entity.Main m u h = fine_wider m u h
  agrees_wider p entity.ClassName m u h = fine_wider m u h
  agrees_wider p entity.Missing m u h = h

  alike_wider : (p : Program) (ss : List LocalName) (ks : List LocalVariable) → Alike t g sc p ss ks → Alike t g (x ∷ sc) p ss ks
  alike_wider p [] [] h = tt
  alike_wider p [] (k ∷ ks) h = absurd h
  alike_wider p (s ∷ ss) [] h = absurd h
  alike_wider p (s ∷ ss) (k ∷ ks) h =
      ((h.0.0, λ w e. agrees_wider p w (known_meant p k) (known_wider (tree.has_number p k.ty) k) (h.0.1 w e)), alike_wider p ss ks h.1)

module _ (t : Table) (g : Sig) (sc : List Name) (refers : t.refers ≡ true) (p : Program) where
  -- one name more
  alike_more : (ss : List LocalName) (ks : List LocalVariable) (s : LocalName) (k : LocalVariable) → s.name ≡ k.name → AgreesIf t g sc p s.meant.entity (known_meant p k) → Alike t g sc p ss ks → Alike t g sc p (ss ++ s ∷ []) (ks ++ k ∷ [])
  alike_more [] [] s k e a h = ((e, a), tt)
  alike_more [] (l ∷ ks) s k e a h = absurd h
  alike_more (r ∷ ss) [] s k e a h = absurd h
  alike_more (r ∷ ss) (l ∷ ks) s k e a h = (h.0, alike_more ss ks s k e a h.1)

  -- how a variable is known: by its number, or at its place
  stands : (s : Sort) (b : Bool) (st : tree.Standing) → is_condition s ≡ false → is_numbered s ≡ b → StandsBy t g false b st → StandsBy t g (is_condition s) (is_numbered s) st
  stands s b st c e h = subst (λ c. StandsBy t g c (is_numbered s) st) (sym c) (subst (λ b. StandsBy t g false b st) (sym e) h)

  has_number : (k : LocalVariable) (s : Sort) → sort_of p k.ty.base ≡ Some s → k.ty.len ≡ None → tree.has_number p k.ty ≡ is_numbered s
  has_number k s e l = ap (λ (l : Option ℕ). not (is_some l) && is_made_numbered (making p k.ty.base)) l ∙ numbered_is p k.ty.base s e

  variable_by : (b : Bool) (k : LocalVariable) (s : Sort) → sort_of p k.ty.base ≡ Some s → is_condition s ≡ false → k.ty.by_ref ≡ false → k.ty.len ≡ None → is_numbered s ≡ b → StoodBy t g sc b k.cell (found_ty s) → Agrees t g sc p (entity.Place s) (tree.known_by b k)
  variable_by true k s e c r l b h =
      ((inr (inr (h, refers)), λ d. false_true (sym (scalar_unnumbered s d) ∙ b)), stands s true AsNumber c b tt, (l, e))
  variable_by false k s e c r l b h =
      subst (λ (r : Bool). Agrees t g sc p (entity.Place s) (if r then record { expr = Get k.cell; ty = k.ty; standing = AtPlace } else record { expr = Variable k.cell; ty = k.ty; standing = AtVariable k.cell })) (sym r) ((h, λ d. inr (inl refl)), stands s false (AtVariable k.cell) c b tt, (l, e))

  variable : (k : LocalVariable) (s : Sort) → sort_of p k.ty.base ≡ Some s → is_condition s ≡ false → k.ty.by_ref ≡ false → k.ty.len ≡ None → StoodBy t g sc (is_numbered s) k.cell (found_ty s) → Agrees t g sc p (entity.Place s) (known_meant p k)
  variable k s e c r l h =
      subst (λ b. Agrees t g sc p (entity.Place s) (tree.known_by b k)) (sym (has_number k s e l)) (variable_by (is_numbered s) k s e c r l refl h)

  array : (k : LocalVariable) (s : Sort) (n : ℕ) → sort_of p k.ty.base ≡ Some s → is_condition s ≡ false → k.ty.by_ref ≡ false → k.ty.len ≡ Some n → IsVariable t g sc k.cell (Row n (place_ty s)) → IsPlaced t (place_ty s) → Agrees t g sc p (entity.Array s n) (known_meant p k)
  array k s n e c r l h w =
      let b : tree.has_number p k.ty ≡ false = ap (λ (l : Option ℕ). not (is_some l) && is_made_numbered (making p k.ty.base)) l in
      subst (λ b. Agrees t g sc p (entity.Array s n) (tree.known_by b k)) (sym b) (subst (λ (r : Bool). Agrees t g sc p (entity.Array s n) (if r then record { expr = Get k.cell; ty = k.ty; standing = AtPlace } else record { expr = Variable k.cell; ty = k.ty; standing = AtVariable k.cell })) (sym r) (subst (λ c. Yields t g sc (Variable k.cell) (row_ty c n s)) (sym c) (h, tt), subst (λ c. StandsBy t g c false (AtVariable k.cell)) (sym c) tt, subst (λ c. RowPlaced t c s) (sym c) w, (l, e)))

  reference_by : (b : Bool) (k : LocalVariable) (s : Sort) → sort_of p k.ty.base ≡ Some s → is_condition s ≡ false → k.ty.by_ref ≡ true → k.ty.len ≡ None → is_numbered s ≡ b → IsParam g.params k.cell (found_ty s) → k.cell ≤ LAST_ADDRESS → Agrees t g sc p (entity.Place s) (tree.known_by b k)
  reference_by true k s e c r l b h a =
      ((inl (h, a), λ d. false_true (sym (scalar_unnumbered s d) ∙ b)), stands s true AsNumber c b tt, (l, e))
  reference_by false k s e c r l b h a =
      subst (λ (r : Bool). Agrees t g sc p (entity.Place s) (if r then record { expr = Get k.cell; ty = k.ty; standing = AtPlace } else record { expr = Variable k.cell; ty = k.ty; standing = AtVariable k.cell })) (sym r) ((inl (h, a), λ d. (inl refl, inl (subst (IsParam g.params k.cell) (scalar_cell s d) h, a))), stands s false AtPlace c b tt, (l, e))

  reference : (k : LocalVariable) (s : Sort) → sort_of p k.ty.base ≡ Some s → is_condition s ≡ false → k.ty.by_ref ≡ true → k.ty.len ≡ None → IsParam g.params k.cell (found_ty s) → k.cell ≤ LAST_ADDRESS → Agrees t g sc p (entity.Place s) (known_meant p k)
  reference k s e c r l h a =
      subst (λ b. Agrees t g sc p (entity.Place s) (tree.known_by b k)) (sym (has_number k s e l)) (reference_by (is_numbered s) k s e c r l refl h a)

pub law_declared : (t : Table) (g : Sig) (sc : List Name) → LawDeclared t g sc
law_declared t g sc refers p = record {
  variable = variable t g sc refers p;
  array = array t g sc refers p;
  reference = reference t g sc refers p;
  more = alike_more t g sc refers p;
  wider = λ x. alike_wider t g x sc p;
}
