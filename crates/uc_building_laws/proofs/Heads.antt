-- The constructors of a program bind fields in their first statements to what is of the type of the field.
use Rattle.std.proofs.Common.{◌≡◌, ℕ, zero, suc, ◌+◌, ◌-◌, ◌++◌, ◌⊎◌, inl, inr, Bool, true, false, List, [], ◌∷◌, length, map, Option, Some, None, refl, sym, ap, ◌∙◌, subst, arith}
use Rattle.std.specs.Prelude.{◌&&◌, ◌||◌, nat_eq, nat_lt, slice_get, if◌then◌else◌}
use Rattle.std.proofs.lemmas.Bool.{eq-eqb, eqb-true}
use Rattle.uc_tree.specs.declared.kinds.Param.{Param}
use Rattle.uc_tree.specs.Cells.{leading_cells}
use Rattle.uc_tree.specs.Expressions as expr
use Rattle.uc_tree.specs.Gathered.{gathered_all}
use Rattle.uc_tree.specs.Numbering.{own_sites, own_texts, Defined, routines_of}
use Rattle.uc_tree.specs.Objects.{ClassField, fields_of, class_at, Unwritten, unwritten_of}
use Rattle.uc_tree.specs.Programs.{Class, Program}
use Rattle.uc_tree.specs.Source as src
use Rattle.uc_tree.specs.Source.{Shape, Expr, ObjectExpr, Stmt, Stmts, Routine}
use Rattle.uc_machine.specs.Pieces.{Value}
use Rattle.uc_resolve.specs.Resolve.{source_of}
use Rattle.uc_rules.specs.declared.rules.Sort.{Sort}
use Rattle.uc_rules.specs.declared.rules.Sort.TheVariants as sort
use Rattle.uc_rules.specs.Breaks.{breaks_of}
use Rattle.uc_rules.specs.Sorts.{sort_of}
use Rattle.uc_typing.specs.Typing.{Ty, Num, Cell, Obj, Raw, Row, Clu, Pro, Sig, Table, IsParam, IsPlaced, Yields, Fine, FineStmts, raw}
use Rattle.uc_typing.specs.States.{whole, Sound}
use Rattle.uc_sound.specs.Agreement.{is_numbered, found_ty, place_by, place_ty, sort_ty, param_ty}
use Rattle.uc_sound.specs.Fields.{field_ty}
use Rattle.uc_sound.specs.SoundFormed.{IsFormed}
use Rattle.uc_sound.specs.Tables.{known_field, listed_field, class_field, written_sigs, unwritten_sigs, sig_or_none, table_of}
use Rattle.uc_sound.proofs.Lists.{left_is, right_is}
use Rattle.uc_sound.proofs.SoundLemmas.{law_sound}
use Rattle.uc_life_laws.specs.Things.{IsField, Within, itself, field, element, IsBinding, IsUnbound}
use Rattle.uc_building_laws.specs.Building.{is_calm, is_aside, is_other, is_settled, is_behind, is_path, is_object_path, is_bound_by, clean_behind, clean_up, told_behind, is_bound_in, all_clean, none_told, StaysBy, IsGiven, BindsField, Asides, InHead}
use Rattle.uc_building_laws.proofs.Settled.{head_led}

-- what is whole

abbrev IsWhole : Ty → Type 0
IsWhole Num = Unit {0}
IsWhole (Cell a) = IsWhole a
IsWhole (Obj c) = Unit {0}
IsWhole (Raw c) = ⊥
IsWhole (Row n a) = IsWhole a
IsWhole Clu = Unit {0}
IsWhole Pro = Unit {0}

whole_same : (a : Ty) → IsWhole a → whole a ≡ a
whole_same Num h = refl
whole_same (Cell a) h = ap Cell (whole_same a h)
whole_same (Obj c) h = refl
whole_same (Raw c) h = absurd h
whole_same (Row n a) h = ap (Row n) (whole_same a h)
whole_same Clu h = refl
whole_same Pro h = refl

whole_raw : (a : Ty) → IsWhole a → whole (raw a) ≡ a
whole_raw Num h = refl
whole_raw (Cell a) h = ap Cell (whole_raw a h)
whole_raw (Obj c) h = refl
whole_raw (Raw c) h = absurd h
whole_raw (Row n a) h = ap (Row n) (whole_raw a h)
whole_raw Clu h = refl
whole_raw Pro h = refl

-- a type is this one, or what stands there while it is built
abbrev IsOf : Ty → Ty → Type 0
IsOf a x = (a ≡ x) ⊎ (a ≡ raw x)

whole_of : (a x : Ty) → IsWhole x → IsOf a x → whole a ≡ x
whole_of a x w (inl e) = ap whole e ∙ whole_same x w
whole_of a x w (inr e) = ap whole e ∙ whole_raw x w

same_whole : (a x y : Ty) → IsWhole x → IsWhole y → IsOf a x → IsOf a y → x ≡ y
same_whole a x y v w h k = sym (whole_of a x v h) ∙ whole_of a y w k

no_object : (d : ℕ) (x : Ty) → IsOf (Obj d) x → x ≡ Obj d
no_object d x (inl e) = sym e
no_object d Num (inr e) = absurd (cc)
no_object d (Cell a) (inr e) = absurd (cc)
no_object d (Obj c) (inr e) = absurd (cc)
no_object d (Raw c) (inr e) = absurd (cc)
no_object d (Row n a) (inr e) = absurd (cc)
no_object d Clu (inr e) = absurd (cc)
no_object d Pro (inr e) = absurd (cc)

-- what a binding is to
record IsCell (a x : Ty) : Type 0 where
  bound : Ty
  is : x ≡ Cell bound
  of : IsOf a bound

cell_of : (a x : Ty) → (Cell a ≡ x) ⊎ (Cell a ≡ raw x) → IsCell a x
cell_of a x (inl e) = record { bound = a; is = sym e; of = inl refl }
cell_of a Num (inr e) = absurd (cc)
cell_of a (Cell y) (inr e) = record { bound = y; is = refl; of = inr (let q : a ≡ raw y = cc in q) }
cell_of a (Obj c) (inr e) = absurd (cc)
cell_of a (Raw c) (inr e) = absurd (cc)
cell_of a (Row n y) (inr e) = absurd (cc)
cell_of a Clu (inr e) = absurd (cc)
cell_of a Pro (inr e) = absurd (cc)

-- in the place of a scalar nothing is bound
in_scalar : (t : Table) (w v : Value) (b : Ty) → Within t w (Cell Num) v b → b ≡ Cell Num
in_scalar t w v b itself = refl
in_scalar t w v b (field {v = u} {c} h i f) = let e = in_scalar t w u (Obj c) h in absurd (cc)
in_scalar t w v b (element {v = u} {m} {b = x} h j l) = let e = in_scalar t w u (Row m x) h in absurd (cc)

scalar_unbound : (t : Table) → IsUnbound t (Cell Num)
scalar_unbound t w v b h binds = by b (in_scalar t w v (Cell b) h) binds
  where
    by : (b : Ty) → Cell b ≡ Cell Num → IsBinding b → ⊥
    by b e i = let q : b ≡ Num = cc in subst IsBinding q i

-- what binds, of a routine of a class in which all types are whole

-- a cell of a field is that of a number, or of a binding
abbrev IsKept : Ty → Type 0
IsKept (Cell a) = (a ≡ Num) ⊎ IsBinding a
IsKept a = Unit {0}

module _ (t : Table) (g : Sig) (c : ℕ) (this : g.this ≡ Some c) (leads : (d : ℕ) → t.executes d ≡ true → t.fields d 0 ≡ Num) (fields_whole : (d i : ℕ) → IsWhole (t.fields d i)) (fields_kept : (d i : ℕ) → IsKept (t.fields d i)) (params_whole : (k : ℕ) (a : Ty) → IsParam g.params k a → IsWhole a) where
  class_is : (d : ℕ) → g.this ≡ Some d → d ≡ c
  class_is d e = let q : Some d ≡ Some c = sym e ∙ this in cc

  declared : (d m : ℕ) → IsPlaced t (t.fields d m) → IsField t d m
  declared d zero h e = absurd (subst (IsPlaced t) (leads d e) h)
  declared d (suc m) h e = omega arith

  of_cell : (m : ℕ) (a : Ty) → Cell a ≡ t.fields c m → IsField t c m
  of_cell zero a q e = let z : t.fields c 0 ≡ Num = leads c e in absurd (cc)
  of_cell (suc m) a q e = omega arith

  -- `told`: fields that have been bound, as `F` says
  module _ (told : ℕ → Bool) (F : ℕ → Type 0) (stays : (m : ℕ) → told m ≡ true → F m) where
    -- what a path finds
    record IsFound (e : Expr) (a : Ty) : Type 0 where
      type : Ty
      is_whole : IsWhole type
      is_given : IsGiven t g.params c F e type
      of : IsOf a type

    in_object : (s : Shape) (m : ℕ) (e : Expr) (a : Ty) (d : ℕ) → s ≡ t.shape d → a ≡ t.fields d m → IsPlaced t (t.fields d m) → (Obj d ≡ Num) ⊎ IsFound e (Obj d) → (a ≡ Num) ⊎ IsFound (src.OfObject (src.FieldOf s m e)) a
    in_object s m e a d q y l (inl z) = absurd (cc)
    in_object s m e a d q y l (inr f) =
        inr (record { type = t.fields d m; is_whole = fields_whole d m; is_given = (d, subst (IsGiven t g.params c F e) (no_object d f.type f.of) f.is_given, refl, q, declared d m l, l); of = inl y })

    -- what a field has been bound to
    bound_to : (s : Shape) (m : ℕ) (a : Ty) → told m ≡ true → s ≡ t.shape c → Cell a ≡ t.fields c m → (a ≡ Num) ⊎ IsBinding a → (a ≡ Num) ⊎ IsFound (src.OfObject (src.GetOwn s m)) a
    bound_to s m a l q y (inl z) = inl z
    bound_to s m a l q y (inr i) =
        inr (record { type = a; is_whole = subst IsWhole (sym y) (fields_whole c m); is_given = (sym y, q, of_cell m a y, i, stays m l); of = inl refl })

    mutual
      path : (e : Expr) (a : Ty) → is_path told e ≡ true → Yields t g [] e a → (a ≡ Num) ⊎ IsFound e a
      path (src.Get k) a p (inl h) = inr (record { type = a; is_whole = params_whole k a h.0; is_given = (h.0, h.1); of = inl refl })
      path (src.Get k) a p (inr (inl h)) = inl h
      path (src.Get k) a p (inr (inr h)) = absurd h.0
      path (src.OfObject o) a p h = object_path o a p h
      path e a p h = absurd (cc)

      object_path : (o : ObjectExpr) (a : Ty) → is_object_path told o ≡ true → Yields t g [] (src.OfObject o) a → (a ≡ Num) ⊎ IsFound (src.OfObject o) a
      object_path (src.OwnField s m) a p h =
          let same : h.0 ≡ c = class_is h.0 h.1 in
          let placed : IsPlaced t (t.fields c m) = subst (λ d. IsPlaced t (t.fields d m)) same h.3 in
          inr (record { type = t.fields c m; is_whole = fields_whole c m; is_given = (refl, h.2 ∙ ap t.shape same, declared c m placed, placed); of = subst (λ d. IsOf a (t.fields d m)) same h.4 })
      object_path (src.GetOwn s m) a p h =
          let same : h.0 ≡ c = class_is h.0 h.1 in
          let y : Cell a ≡ t.fields c m = h.3 ∙ ap (λ d. t.fields d m) same in
          bound_to s m a p (h.2 ∙ ap t.shape same) y (subst IsKept (sym y) (fields_kept c m))
      object_path (src.FieldOf s m e) a p h = in_object s m e a h.0 h.2 h.3 h.4 (path e (Obj h.0) p h.1)
      object_path o a p h = absurd (cc)

    -- the field that an expression binds
    module _ (i : ℕ) where
      abbrev Bound : Expr → Type 0
      Bound e = BindsField t g.params c F i e ⊎ IsUnbound t (t.fields c i)

      unbound : t.fields c i ≡ Cell Num → IsUnbound t (t.fields c i)
      unbound e = subst (IsUnbound t) (sym e) (scalar_unbound t)

      given : (s : Shape) (m : ℕ) (e : Expr) (a x : Ty) → m ≡ i → s ≡ t.shape c → t.fields c i ≡ Cell x → IsWhole x → IsOf a x → (a ≡ Num) ⊎ IsFound e a → Bound (src.OfObject (src.Bind (src.OfObject (src.OwnField s m)) e))
      given s m e a x n q f w o (inl z) =
          let num : x ≡ Num = sym (whole_of a x w o) ∙ ap whole z in
          inr (unbound (f ∙ ap Cell num))
      given s m e a x n q f w o (inr y) = inl (n, q, (x, f, subst (IsGiven t g.params c F e) (same_whole a y.type x y.is_whole w y.of o) y.is_given))

      binds : (s : Shape) (m : ℕ) (e : Expr) → (nat_eq m i && is_path told e) ≡ true → (a : Ty) → Yields t g [] (src.OfObject (src.OwnField s m)) (Cell a) → Yields t g [] e a → Bound (src.OfObject (src.Bind (src.OfObject (src.OwnField s m)) e))
      binds s m e h a y z =
          let same : y.0 ≡ c = class_is y.0 y.1 in
          let n : m ≡ i = eqb-true m i (left_is (nat_eq m i) (is_path told e) h) in
          let x = cell_of a (t.fields c i) (subst (λ m. (Cell a ≡ t.fields c m) ⊎ (Cell a ≡ raw (t.fields c m))) n (subst (λ d. (Cell a ≡ t.fields d m) ⊎ (Cell a ≡ raw (t.fields d m))) same y.4)) in
          given s m e a x.bound n (y.2 ∙ ap t.shape same) x.is (subst IsWhole x.is (fields_whole c i)) x.of (path e a (right_is (nat_eq m i) (is_path told e) h) z)

      pub bound_by : (e : Expr) → is_bound_by told i e ≡ true → Fine t g [] e → Bound e
      bound_by (src.OfObject (src.Bind (src.OfObject (src.OwnField s m)) e)) h f = binds s m e h f.0 f.1.0 f.1.1
      bound_by e h f = absurd (cc)

  -- what binds a field is none that does not
  names_it : (told : ℕ → Bool) (i : ℕ) (e : Expr) → is_bound_by told i e ≡ true → is_other i e ≡ true → ⊥
  names_it told i (src.OfObject (src.Bind (src.OfObject (src.OwnField s m)) e)) h o =
      let q : nat_eq m i ≡ true = left_is (nat_eq m i) (is_path told e) h in
      let r : (if nat_eq m i then false else true) ≡ false = ap (λ (b : Bool). if b then false else true) q in
      absurd (cc)
  names_it told i e h o = absurd (cc)

  -- what is done before a field is bound
  asides : (i : ℕ) (e : Expr) → is_aside i e ≡ true → Fine t g [] e → Asides t c i e
  asides i (src.OfObject (src.Bind (src.OfObject (src.OwnField s m)) e)) h f =
      let y = f.1.0 in
      let same : y.0 ≡ c = class_is y.0 y.1 in
      let other : (if nat_eq m i then false else true) ≡ true = left_is (if nat_eq m i then false else true) (is_calm e) h in
      let x = cell_of f.0 (t.fields c m) (subst (λ d. (Cell f.0 ≡ t.fields d m) ⊎ (Cell f.0 ≡ raw (t.fields d m))) same y.4) in
      (y.2 ∙ ap t.shape same, right_is (if nat_eq m i then false else true) (is_calm e) h, ((λ q. differs m i (eq-eqb m i q) other), of_cell m x.bound (sym x.is), (x.bound, x.is)))
    where
      differs : (m i : ℕ) → nat_eq m i ≡ true → (if nat_eq m i then false else true) ≡ true → ⊥
      differs m i q r = let z : (if nat_eq m i then false else true) ≡ false = ap (λ (b : Bool). if b then false else true) q in absurd (cc)
  asides i (src.Assign (src.OfObject (src.OwnField s m)) e) h f = h
  asides i e h f = absurd (cc)

  -- the first statements
  module _ (heads : ℕ → ℕ → Bool) where
    -- fields that are told are bound by none of these statements; and each that these bind is one of which it is told
    abbrev AreTold : (ℕ → Bool) → Stmts → Type 0
    AreTold told ss = (m : ℕ) → told m ≡ true → (heads c m ≡ true) × (is_settled m ss ≡ true)

    abbrev AreHeads : (clean told : ℕ → Bool) → Stmts → Type 0
    AreHeads clean told ss = (m : ℕ) → is_bound_in clean told m ss ≡ true → heads c m ≡ true

    or_left : (a b : Bool) → a ≡ true → (a || b) ≡ true
    or_left true b h = refl
    or_left false b h = absurd (cc)

    or_right : (a b : Bool) → b ≡ true → (a || b) ≡ true
    or_right true b h = refl
    or_right false b h = h

    and_both : (a b : Bool) → a ≡ true → b ≡ true → (a && b) ≡ true
    and_both true b h k = k
    and_both false b h k = h

    -- what is bound so is clean
    clean_of : (clean told : ℕ → Bool) (i : ℕ) (ss : Stmts) → is_bound_in clean told i ss ≡ true → clean i ≡ true
    clean_of clean told i src.Nil h = absurd (cc)
    clean_of clean told i (src.Then (src.Evaluate line e) rest) h = by (clean i && is_bound_by told i e) refl h (λ k. clean_of (clean_behind clean e) (told_behind clean told e rest) i rest k)
      where
        by : (b : Bool) → (clean i && is_bound_by told i e) ≡ b → (b || is_bound_in (clean_behind clean e) (told_behind clean told e rest) i rest) ≡ true → (is_bound_in (clean_behind clean e) (told_behind clean told e rest) i rest ≡ true → (clean i && is_aside i e) ≡ true) → clean i ≡ true
        by true q k more = left_is (clean i) (is_bound_by told i e) q
        by false q k more = left_is (clean i) (is_aside i e) (more k)
    clean_of clean told i (src.Then (src.OfTasks (src.SetUp r)) rest) h = left_is (clean i) (is_behind i rest) (clean_of (clean_up clean rest) told i rest h)
    clean_of clean told i (src.Then a rest) h = absurd (cc)
    clean_of clean told i (src.Scoped x rest) h = absurd (cc)
    clean_of clean told i (src.Built x rest) h = clean_of clean told i rest h

    -- behind a statement that evaluates this
    module _ (clean told : ℕ → Bool) (line : ℕ) (e : Expr) (rest : Stmts) (are : AreTold told (src.Then (src.Evaluate line e) rest)) (all : AreHeads clean told (src.Then (src.Evaluate line e) rest)) where
      settled : (m : ℕ) → told m ≡ true → is_settled m rest ≡ true
      settled m l = right_is (is_other m e) (is_settled m rest) (are m l).1

      now_told : AreTold (told_behind clean told e rest) rest
      now_told m = by (told m) refl
        where
          by : (a : Bool) → told m ≡ a → (a || (clean m && (is_bound_by told m e && is_settled m rest))) ≡ true → (heads c m ≡ true) × (is_settled m rest ≡ true)
          by true x h = ((are m x).0, settled m x)
          by false x h =
              let k : (is_bound_by told m e && is_settled m rest) ≡ true = right_is (clean m) (is_bound_by told m e && is_settled m rest) h in
              let b : (clean m && is_bound_by told m e) ≡ true = and_both (clean m) (is_bound_by told m e) (left_is (clean m) (is_bound_by told m e && is_settled m rest) h) (left_is (is_bound_by told m e) (is_settled m rest) k) in
              (all m (or_left (clean m && is_bound_by told m e) (is_bound_in (clean_behind clean e) (told_behind clean told e rest) m rest) b), right_is (is_bound_by told m e) (is_settled m rest) k)

      now_heads : AreHeads (clean_behind clean e) (told_behind clean told e rest) rest
      now_heads m h = all m (or_right (clean m && is_bound_by told m e) (is_bound_in (clean_behind clean e) (told_behind clean told e rest) m rest) h)

      stays : (i : ℕ) → is_bound_by told i e ≡ true → (m : ℕ) → told m ≡ true → StaysBy heads c i m (is_settled m rest ≡ true)
      stays i b m l =
          ((are m l).0, λ q. names_it told m e (subst (λ k. is_bound_by told k e ≡ true) (sym q) b) (left_is (is_other m e) (is_settled m rest) (are m l).1), settled m l)

    module _ (i : ℕ) where
      abbrev Heads : Stmts → Type 0
      Heads ss = InHead t heads g.params c i ss ⊎ IsUnbound t (t.fields c i)

      later : (a : Stmt) (ss : Stmts) → (InHead t heads g.params c i ss → InHead t heads g.params c i (src.Then a ss)) → Heads ss → Heads (src.Then a ss)
      later a ss f (inl h) = inl (f h)
      later a ss f (inr h) = inr h

      pub head : (clean told : ℕ → Bool) (ss : Stmts) → AreTold told ss → AreHeads clean told ss → is_bound_in clean told i ss ≡ true → FineStmts t g [] ss → Heads ss
      head clean told src.Nil are all h f = absurd (cc)
      head clean told (src.Then (src.Evaluate line e) rest) are all h f =
          by (clean i && is_bound_by told i e) refl h (λ k. head (clean_behind clean e) (told_behind clean told e rest) rest (now_told clean told line e rest are all) (now_heads clean told line e rest are all) k f.1)
        where
          here : BindsField t g.params c (λ m. StaysBy heads c i m (is_settled m rest ≡ true)) i e ⊎ IsUnbound t (t.fields c i) → Heads (src.Then (src.Evaluate line e) rest)
          here (inl y) = inl (inl y)
          here (inr y) = inr y

          by : (b : Bool) → (clean i && is_bound_by told i e) ≡ b → (b || is_bound_in (clean_behind clean e) (told_behind clean told e rest) i rest) ≡ true → (is_bound_in (clean_behind clean e) (told_behind clean told e rest) i rest ≡ true → Heads rest) → Heads (src.Then (src.Evaluate line e) rest)
          by true q k more =
              let b : is_bound_by told i e ≡ true = right_is (clean i) (is_bound_by told i e) q in
              here (bound_by told (λ m. StaysBy heads c i m (is_settled m rest ≡ true)) (stays clean told line e rest are all i b) i e b f.0)
          by false q k more =
              let a : is_aside i e ≡ true = right_is (clean i) (is_aside i e) (clean_of (clean_behind clean e) (told_behind clean told e rest) i rest k) in
              later (src.Evaluate line e) rest (λ y. inr (asides i e a f.0, y)) (more k)
      head clean told (src.Then (src.OfTasks (src.SetUp r)) rest) are all h f =
          let b : is_behind i rest ≡ true = right_is (clean i) (is_behind i rest) (clean_of (clean_up clean rest) told i rest h) in
          later (src.OfTasks (src.SetUp r)) rest (λ y. inr (head_led t heads g.params c i rest b y, y)) (head (clean_up clean rest) told rest are all h f.1)
      head clean told (src.Then a rest) are all h f = absurd (cc)
      head clean told (src.Scoped x rest) are all h f = absurd (cc)
      head clean told (src.Built x rest) are all h f = head clean told rest are all h f.0

-- all types of a table are whole

found_whole : (s : Sort) → IsWhole (found_ty s)
found_whole sort.Void = tt
found_whole sort.Int = tt
found_whole sort.Char = tt
found_whole sort.Bool = tt
found_whole sort.Condition = tt
found_whole sort.Cluster = tt
found_whole sort.Processor = tt
found_whole (sort.Object c k) = tt

place_whole : (s : Sort) → IsWhole (place_ty s)
place_whole s = by (is_numbered s)
  where
    by : (b : Bool) → IsWhole (place_by b (found_ty s))
    by true = found_whole s
    by false = found_whole s

field_whole : (b : Bool) (l : Option expr.Expr) (n : ℕ) (s : Sort) → IsWhole (field_ty b l n s)
field_whole true l n s = found_whole s
field_whole false None n s = place_whole s
field_whole false (Some e) n s = place_whole s

-- and each cell is one of a number or of a binding
found_kept : (s : Sort) → IsKept (Cell (found_ty s))
found_kept sort.Void = inl refl
found_kept sort.Int = inr tt
found_kept sort.Char = inr tt
found_kept sort.Bool = inr tt
found_kept sort.Condition = inl refl
found_kept sort.Cluster = inr tt
found_kept sort.Processor = inr tt
found_kept (sort.Object c k) = inr tt

place_kept : (s : Sort) → IsKept (place_ty s)
place_kept s = by (is_numbered s)
  where
    bare : (s : Sort) → IsKept (found_ty s)
    bare sort.Void = tt
    bare sort.Int = inl refl
    bare sort.Char = inl refl
    bare sort.Bool = inl refl
    bare sort.Condition = tt
    bare sort.Cluster = tt
    bare sort.Processor = tt
    bare (sort.Object c k) = tt

    by : (b : Bool) → IsKept (place_by b (found_ty s))
    by true = found_kept s
    by false = bare s

field_kept : (b : Bool) (l : Option expr.Expr) (n : ℕ) (s : Sort) → IsKept (field_ty b l n s)
field_kept true l n s = found_kept s
field_kept false None n s = place_kept s
field_kept false (Some e) n s = tt

module _ (p : Program) where
  module _ (P : Ty → Type 0) (num : P Num) (of_field : (b : Bool) (l : Option expr.Expr) (n : ℕ) (s : Sort) → P (field_ty b l n s)) where
    known_are : (c : Class) (f : ClassField) (o : Option Sort) → P (known_field p c f o)
    known_are c f None = num
    known_are c f (Some s) = of_field f.declarator.by_ref f.declarator.len _ s

    listed_are : (c : Class) (o : Option ClassField) → P (listed_field p c o)
    listed_are c None = num
    listed_are c (Some f) = known_are c f (sort_of p f.base)

    class_are : (o : Option Class) (n : ℕ) → P (class_field p o n)
    class_are None n = num
    class_are (Some c) n = by (nat_lt n (leading_cells c.kind))
      where
        by : (b : Bool) → P (if b then Num else listed_field p c (slice_get (fields_of c.members) (n - leading_cells c.kind)))
        by true = num
        by false = listed_are c (slice_get (fields_of c.members) (n - leading_cells c.kind))

    fields_are : (c n : ℕ) → P ((table_of p).fields c n)
    fields_are c n = class_are (class_at p c) n

  pub fields_are_whole : (c n : ℕ) → IsWhole ((table_of p).fields c n)
  fields_are_whole c n = fields_are IsWhole tt field_whole c n

  pub fields_are_kept : (c n : ℕ) (a : Ty) → Cell a ≡ (table_of p).fields c n → (a ≡ Num) ⊎ IsBinding a
  fields_are_kept c n a e = subst IsKept (sym e) (fields_are IsKept tt field_kept c n)

  -- parameters hold numbers, or what expressions of their sorts find
  module _ (P : Ty → Type 0) (num : P Num) (found : (s : Sort) → P (found_ty s)) where
    of_sort : (o : Option Sort) → P (sort_ty o)
    of_sort None = num
    of_sort (Some s) = found s

    of_param : (x : Param) → P (param_ty p x)
    of_param x = by x.by_ref
      where
        by : (b : Bool) → P (if b then sort_ty (sort_of p x.base) else Num)
        by true = of_sort (sort_of p x.base)
        by false = num

    abbrev Each : List Ty → Type 0
    Each ps = (k : ℕ) (a : Ty) → IsParam ps k a → P a

    of_params : (xs : List Param) → Each (map (param_ty p) xs)
    of_params [] k a h = absurd h
    of_params (x ∷ xs) zero a h = subst P (sym h) (of_param x)
    of_params (x ∷ xs) (suc k) a h = of_params xs k a h

    abbrev All : List Sig → Type 0
    All gs = (n : ℕ) → Each (sig_or_none (slice_get gs n)).params

    both : (gs hs : List Sig) → All gs → All hs → All (gs ++ hs)
    both [] hs h k n = k n
    both (g ∷ gs) hs h k zero = h 0
    both (g ∷ gs) hs h k (suc n) = both gs hs (λ m. h (suc m)) k n

    of_written : (ds : List Defined) (number texts sites : ℕ) → All (written_sigs p ds number texts sites)
    of_written [] number texts sites n k a h = absurd h
    of_written (d ∷ ds) number texts sites zero k a h = of_params d.routine.sig.params k a h
    of_written (d ∷ ds) number texts sites (suc n) k a h = of_written ds (number + 1) (texts + length (gathered_all own_texts d.routine.body)) (sites + length (gathered_all (own_sites d.class d.number) d.routine.body)) n k a h

    of_unwritten : (us : List Unwritten) → All (unwritten_sigs p us)
    of_unwritten [] n k a h = absurd h
    of_unwritten (u ∷ us) zero k a h = absurd h
    of_unwritten (u ∷ us) (suc n) k a h = of_unwritten us n k a h

    pub of_routine : (n k : ℕ) (a : Ty) → IsParam ((table_of p).routine n).params k a → P a
    of_routine n = both (written_sigs p (routines_of p) 0 0 0) (unwritten_sigs p (unwritten_of p)) (of_written (routines_of p) 0 0 0) (of_unwritten (unwritten_of p)) n

-- what a routine of a class binds in its first statements, of which it is told
pub heads : (p : Program) → IsFormed p → breaks_of p ≡ [] → (told : ℕ → ℕ → Bool) (r c : ℕ) → ((table_of p).routine r).this ≡ Some c → (q : Routine) → slice_get (source_of p).routines r ≡ Some q → ((m : ℕ) → is_bound_in all_clean none_told m q.body ≡ true → told c m ≡ true) → (i : ℕ) → is_bound_in all_clean none_told i q.body ≡ true → InHead (table_of p) told ((table_of p).routine r).params c i q.body ⊎ IsUnbound (table_of p) ((table_of p).fields c i)
heads p formed accepted told r c this q e all i h =
    let sound : Sound (table_of p) (source_of p) = law_sound p formed accepted in
    head (table_of p) ((table_of p).routine r) c this sound.leads (fields_are_whole p) (fields_are p IsKept tt field_kept) (of_routine p IsWhole tt found_whole r) told i all_clean none_told q.body (λ m l. absurd (cc)) all h (sound.routines r q e).body
