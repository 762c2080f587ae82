-- A field that none of the statements that are left binds is not still to be bound.
use Rattle.std.proofs.Common.{◌≡◌, ℕ, ◌<◌, inl, inr, Bool, true, false, List, [], ◌∷◌, sym, ap, ◌∙◌, arith}
use Rattle.std.specs.Prelude.{nat_eq, nat_lt, if◌then◌else◌}
use Rattle.std.proofs.lemmas.Bool.{eq-eqb, ltb-true}
use Rattle.uc_tree.specs.Source as src
use Rattle.uc_tree.specs.Source.{field_cells, Expr, Stmt, Stmts}
use Rattle.uc_machine.specs.declared.exec.Exec.{Exec}
use Rattle.uc_machine.specs.declared.exec.Owner.TheVariants.{Frame}
use Rattle.uc_machine.specs.Pieces as piece
use Rattle.uc_machine.specs.Pieces.{Slot, FieldAt, Value, Place, Todo}
use Rattle.uc_typing.specs.Typing.{Ty, Cell, Table}
use Rattle.uc_sound.proofs.Lists.{left_is, right_is}
use Rattle.uc_building_laws.specs.Building.{is_other, is_settled, is_late, is_behind, BindsField, BindsBy, IsLed, IsHead, InHead, Settled, Behind, Onwards, Stills, Lands}
use Rattle.uc_building_laws.specs.BuildingStates.{variable}

module _ (t : Table) (heads : ℕ → ℕ → Bool) (ps : List Ty) (c : ℕ) where
  binds_it : (F : ℕ → Type 0) (i : ℕ) (e : Expr) → BindsField t ps c F i e → is_other i e ≡ true → ⊥
  binds_it F i (src.OfObject (src.Bind (src.OfObject (src.OwnField s m)) e)) h o =
      let q : nat_eq m i ≡ true = eq-eqb m i h.0 in
      let r : (if nat_eq m i then false else true) ≡ false = ap (λ (b : Bool). if b then false else true) q in
      absurd (cc)
  binds_it F i e h o = absurd h

  pub settled_head : (i : ℕ) (ss : Stmts) → is_settled i ss ≡ true → InHead t heads ps c i ss → ⊥
  settled_head i src.Nil o h = h
  settled_head i (src.Then (src.Evaluate line e) rest) o (inl h) = binds_it _ i e h (left_is (is_other i e) (is_settled i rest) o)
  settled_head i (src.Then (src.Evaluate line e) rest) o (inr h) = settled_head i rest (right_is (is_other i e) (is_settled i rest) o) h.1
  settled_head i (src.Then (src.OfTasks (src.SetUp r)) rest) o (inl h) = h
  settled_head i (src.Then (src.OfTasks (src.SetUp r)) rest) o (inr h) = settled_head i rest o h.1
  settled_head i (src.Then a rest) o (inl h) = h
  settled_head i (src.Then a rest) o (inr h) = h
  settled_head i (src.Scoped x rest) o h = h
  settled_head i (src.Built x rest) o h = settled_head i rest o h

  pub settled_none : (i : ℕ) (todo : List Todo) → Settled i todo → Behind t heads ps c i todo → ⊥
  settled_none i (piece.Rest ss ∷ todo) o h = settled_head i ss o h
  settled_none i (piece.DropNow ∷ todo) o h = settled_none i todo o h
  settled_none i (piece.Within line ∷ todo) o h = settled_none i todo o h
  settled_none i (piece.FieldNow s j ∷ todo) o h = absurd h
  settled_none i (piece.BindNow ∷ todo) o h = absurd h
  settled_none i todo o h = absurd o

  module _ (w : Value) (K : Ty → Value → Type 0) where
    pub settled_lands : (i : ℕ) (todo : List Todo) (vs : List Value) → Settled i todo → Lands t heads ps c i w K todo vs → ⊥
    settled_lands i (piece.FieldNow s j ∷ todo) vs o h = settled_lands i todo vs o h
    settled_lands i (piece.BindNow ∷ todo) vs o h = settled_none i todo o h.1
    settled_lands i todo vs o h = absurd h

  -- such a field is bound to something

  abbrev IsCell : ℕ → Type 0
  IsCell i = (b : Ty) × (t.fields c i ≡ Cell b)

  field_cell : (F : ℕ → Type 0) (i : ℕ) (e : Expr) → BindsField t ps c F i e → IsCell i
  field_cell F i (src.OfObject (src.Bind (src.OfObject (src.OwnField s m)) e)) h = (h.2.0, h.2.1)
  field_cell F i e h = absurd h

  by_cell : (F : ℕ → Type 0) (i : ℕ) (a : Stmt) → BindsBy t ps c F i a → IsCell i
  by_cell F i (src.Evaluate line e) h = field_cell F i e h
  by_cell F i a h = absurd h

  pub ahead : (i : ℕ) (a : Stmt) (A B : Type 0) → (A → B) → IsHead t c i a A → B
  ahead i (src.Evaluate line e) A B f h = f h.1
  ahead i (src.OfTasks (src.SetUp r)) A B f h = f h.1
  ahead i a A B f h = absurd h

  pub head_cell : (i : ℕ) (ss : Stmts) → InHead t heads ps c i ss → IsCell i
  head_cell i src.Nil h = absurd h
  head_cell i (src.Then a rest) (inl h) = by_cell _ i a h
  head_cell i (src.Then a rest) (inr h) = ahead i a (InHead t heads ps c i rest) (IsCell i) (head_cell i rest) h
  head_cell i (src.Scoped x rest) h = absurd h
  head_cell i (src.Built x rest) h = head_cell i rest h

  -- where a cell stands before it
  late_led : (F : ℕ → Type 0) (i : ℕ) (e : Expr) → is_late i e ≡ true → BindsField t ps c F i e → IsLed t c i
  late_led F i (src.OfObject (src.Bind (src.OfObject (src.OwnField s m)) e)) l h =
      let q : nat_eq m i ≡ true = eq-eqb m i h.0 in
      let r : nat_lt 0 (field_cells s m) ≡ true = ap (λ (b : Bool). if b then nat_lt 0 (field_cells s m) else true) (sym q) ∙ l in
      let x : 0 < field_cells s m = ltb-true 0 (field_cells s m) r in
      let y : field_cells s m ≡ field_cells (t.shape c) i = ap (λ s. field_cells s m) h.1 ∙ ap (field_cells (t.shape c)) h.0 in
      omega (arith, x, y)
  late_led F i e l h = absurd h

  pub head_led : (i : ℕ) (ss : Stmts) → is_behind i ss ≡ true → InHead t heads ps c i ss → IsLed t c i
  head_led i src.Nil l h = absurd h
  head_led i (src.Then (src.Evaluate line e) rest) l (inl h) = late_led _ i e (left_is (is_late i e) (is_behind i rest) l) h
  head_led i (src.Then (src.Evaluate line e) rest) l (inr h) = head_led i rest (right_is (is_late i e) (is_behind i rest) l) h.1
  head_led i (src.Then (src.OfTasks (src.SetUp r)) rest) l (inl h) = absurd h
  head_led i (src.Then (src.OfTasks (src.SetUp r)) rest) l (inr h) = h.0
  head_led i (src.Then a rest) l (inl h) = absurd h
  head_led i (src.Then a rest) l (inr h) = absurd h
  head_led i (src.Scoped x rest) l h = absurd h
  head_led i (src.Built x rest) l h = head_led i rest l h

  pub behind_cell : (i : ℕ) (todo : List Todo) → Behind t heads ps c i todo → IsCell i
  behind_cell i (piece.Rest ss ∷ todo) h = head_cell i ss h
  behind_cell i (piece.Do a ∷ todo) h = ahead i a (Behind t heads ps c i todo) (IsCell i) (behind_cell i todo) h
  behind_cell i (piece.DropNow ∷ todo) h = behind_cell i todo h
  behind_cell i (piece.Within line ∷ todo) h = behind_cell i todo h
  behind_cell i todo h = absurd h

  -- no number is written behind what is bound
  pub still_onwards : (n : Exec) (g k i j : ℕ) (K : Ty → Value → Type 0) (a : Ty) (todo : List Todo) (vs : List Value) → Onwards t heads ps c i (variable n g k) K a todo vs → Stills t heads ps c j todo → ⊥
  still_onwards n g k i j K a (piece.FieldNow s m ∷ todo) vs x h = still_onwards n g k i j K (t.fields x.0 m) todo vs x.5 h
  still_onwards n g k i j K a (piece.BindNow ∷ todo) vs x h = h
  still_onwards n g k i j K a todo vs x h = absurd x

  -- at one time one field is bound
  pub one_place : (n : Exec) (g k i j : ℕ) (K : Ty → Value → Type 0) (a b : Ty) (todo : List Todo) (vs : List Value) → Onwards t heads ps c i (variable n g k) K a todo vs → Onwards t heads ps c j (variable n g k) K b todo vs → j ≡ i
  one_place n g k i j K a b (piece.FieldNow s m ∷ todo) vs x y = one_place n g k i j K (t.fields x.0 m) (t.fields y.0 m) todo vs x.5 y.5
  one_place n g k i j K a b (piece.BindNow ∷ todo) vs x y =
      let e : Place (Frame n g) (FieldAt (t.shape c) j ∷ (Slot k ∷ [])) ≡ Place (Frame n g) (FieldAt (t.shape c) i ∷ (Slot k ∷ [])) = sym y.1 ∙ x.1 in
      cc
  one_place n g k i j K a b todo vs x y = absurd x
