-- In a program that breaks no rule fields lie within the cells of their classes and one behind the other, and what destroys an object is counted with its
-- cells.
use Rattle.std.proofs.Common.{◌≡◌, ℕ, zero, suc, ◌+◌, ◌-◌, ◌*◌, ◌≤◌, ◌<◌, ◌⊎◌, inl, inr, ℤ, Bool, true, false, List, [], ◌∷◌, ◌++◌, Option, Some, None, length, map, refl, sym, ap, ◌∙◌, subst, arith}
use Rattle.std.specs.Prelude.{◌&&◌, ◌||◌, not, slice_get, nat_eq, nat_lt, if◌then◌else◌}
use Rattle.std.specs.List.{list_any}
use Rattle.std.proofs.lemmas.Bool.{eqb-true}
use Rattle.std.proofs.lemmas.Nat.{mul-le}
use Rattle.uc_tree.specs.declared.kinds.Base.{Base}
use Rattle.uc_tree.specs.declared.kinds.Base.TheVariants as base
use Rattle.uc_tree.specs.declared.kinds.Kind.{Kind}
use Rattle.uc_tree.specs.declared.kinds.Kind.TheVariants as kind
use Rattle.uc_tree.specs.declared.kinds.Role.{Role}
use Rattle.uc_tree.specs.declared.kinds.Role.TheVariants as role
use Rattle.uc_tree.specs.declared.rows.FieldClass.{FieldClass}
use Rattle.uc_tree.specs.declared.rows.FieldLayout.{FieldLayout}
use Rattle.uc_tree.specs.Constants.{constants_of, elements, length_in}
use Rattle.uc_tree.specs.Expressions.{Expr}
use Rattle.uc_tree.specs.Statements.{Declarator}
use Rattle.uc_tree.specs.Programs.{MemberForm, FieldsMember, RoutineMember, ProtoMember, Member, Class, Constant, Program}
use Rattle.uc_tree.specs.Rows.{ClassLayout, row_at, leads, object_leads, reaches, has_itself, element_cells, held_cells, all_held_cells, row_cells, cells_within}
use Rattle.uc_tree.specs.Cells.{classes_of, class_cells, object_of_kind, object_named, object_of, held_by, member_held, members_held, row_of, rows_of, leading_cells, seen_in}
use Rattle.uc_tree.specs.Source.{Shape, Binding, Last, Field, shape_cells, field_cells}
use Rattle.uc_tree.specs.Objects.{ClassField, class_at, declared_fields, form_fields, fields_of, shape_of, kept_shape, arrayed, field_shape, fields_shape, behind_bindings, form_shape, shape_within, class_shape, has_execution, is_constructor, same_role, has_role, number_at, number_in, place_of, event_place, written_at, Unwritten, unwritten_of, place_among, unwritten_number}
use Rattle.uc_layout.specs.Depths.{Holds, First, Later}
use Rattle.uc_layout.proofs.ContainmentProgressLemmas.{further}
use Rattle.uc_layout.proofs.DepthsLemmas.{cells_deep, cells_next}
use Rattle.uc_rules.specs.declared.rule.Rule.TheVariants.{S2, S4, S16, S18, S22}
use Rattle.uc_rules.specs.declared.rules.Sort.{Sort}
use Rattle.uc_rules.specs.declared.rules.Sort.TheVariants as sort
use Rattle.uc_rules.specs.Asked.{unless, of_sort}
use Rattle.uc_rules.specs.Breaks.{breaks_of}
use Rattle.uc_rules.specs.ClassBreaks.{is_new_field, fields_at, home_leads_back, is_field_sort, leads_back}
use Rattle.uc_rules.specs.ExpressionBreaks.{is_no_event, length_breaks, length_value_breaks}
use Rattle.uc_rules.specs.Sorts.{is_coroutine, sort_of}
use Rattle.uc_tree.specs.Numbering.{is_event, is_public, own_texts, own_sites, Defined, routines_of}
use Rattle.uc_tree.specs.Gathered.{gathered_all}
use Rattle.uc_resolve.specs.Resolve.{place_by as resolved_place}
use Rattle.uc_sound.proofs.Lists.{left_is, right_is, get_right}
use Rattle.uc_sound.proofs.ClassNames.{number_of, event_number_is}
use Rattle.uc_sound.proofs.RoutineLemmas.{no_place}
use Rattle.uc_sound.proofs.Origins.{looked, role_looked}
use Rattle.uc_sound.proofs.Signatures.{has_sig}
use Rattle.uc_rules.specs.Scopes.{plain_env, class_around}
use Rattle.uc_rules.specs.ProgramVisits.{program_visits}
use Rattle.uc_typing.specs.Typing.{Num, Obj, Row, Sig, Table, element_shape}
use Rattle.uc_sound.specs.Agreement.{is_numbered, place_by, place_ty}
use Rattle.uc_sound.specs.Fields.{field_ty}
use Rattle.uc_sound.specs.Unbroken.{Unbroken}
use Rattle.uc_sound.proofs.Ties.{some_same, none_some, false_true}
use Rattle.uc_sound.proofs.UnbrokenLemmas.{none_right, holds}
use Rattle.uc_state_laws.specs.Layout.{destructor_by, destructor_of, Sized}
use Rattle.uc_sound.specs.SoundFormed.{IsFormed}
use Rattle.uc_sound.specs.Tables.{of_kind, sig_or_none, unwritten_sig, unwritten_sigs, written_sigs, all_sigs, known_field, listed_field, class_field, table_of}
use Rattle.uc_sound.proofs.KeptLemmas.{named_object}
use Rattle.uc_sound.proofs.Visited.{sort_holds, home, field_rules}
use Rattle.uc_life_laws.specs.LifeRuns.{span, IsFlat, IsLaidOut, LawClears}
use Rattle.uc_life_laws.proofs.Clearing.{clears}

-- what the fields of a class hold

module _ (cs : List Class) (named : List ℕ → Option ℤ) where
  abbrev held_of : ClassField → FieldLayout
  held_of f = held_by cs named f.base f.declarator

  declared_held : (b : Base) (ds : List Declarator) → map (held_by cs named b) ds ≡ map held_of (declared_fields b ds)
  declared_held b [] = refl
  declared_held b (d ∷ ds) = ap (λ hs. held_by cs named b d ∷ hs) (declared_held b ds)

  form_held : (f : MemberForm) → member_held cs named f ≡ map held_of (form_fields f)
  form_held (FieldsMember at b ds) = declared_held b ds
  form_held (RoutineMember routine) = refl
  form_held (ProtoMember sig) = refl

  map_join : (xs ys : List ClassField) → map held_of (xs ++ ys) ≡ map held_of xs ++ map held_of ys
  map_join [] ys = refl
  map_join (x ∷ xs) ys = ap (λ hs. held_of x ∷ hs) (map_join xs ys)

  fields_held : (ms : List Member) → members_held cs named ms ≡ map held_of (fields_of ms)
  fields_held [] = refl
  fields_held (m ∷ ms) = ap (λ hs. hs ++ members_held cs named ms) (form_held m.form) ∙ ap (λ hs. map held_of (form_fields m.form) ++ hs) (fields_held ms) ∙ sym (map_join (form_fields m.form) (fields_of ms))

  holds_at : (fs : List ClassField) (k : ℕ) (f : ClassField) (o : FieldClass) → slice_get fs k ≡ Some f → (held_of f).object ≡ Some o → Holds (map held_of fs) o
  holds_at [] k f o e h = none_some e
  holds_at (x ∷ fs) zero f o e h = First (held_of x) (map held_of fs) o (ap (λ (y : ClassField). (held_of y).object) (some_same e) ∙ h)
  holds_at (x ∷ fs) (suc k) f o e h = Later (held_of x) (map held_of fs) o (holds_at fs k f o e h)

  or_none : (a b : Bool) → a ≡ false → b ≡ false → (a || b) ≡ false
  or_none a b e f = ap (λ x. x || b) e ∙ f

  none_of : (P : FieldLayout → Bool) (fs : List ClassField) → ((k : ℕ) (f : ClassField) → slice_get fs k ≡ Some f → P (held_of f) ≡ false) → list_any P (map held_of fs) ≡ false
  none_of P [] h = refl
  none_of P (f ∷ fs) h = or_none (P (held_of f)) (list_any P (map held_of fs)) (h 0 f refl) (none_of P fs (λ k g e. h (suc k) g e))

  -- where objects of the classes take so many cells
  module _ (shapes : ℕ → Shape) where
    at_field : (fs : List ClassField) (k : ℕ) (f : ClassField) → slice_get fs k ≡ Some f → field_cells (fields_shape shapes cs named fs) k + shape_cells (field_shape shapes cs named f.base f.declarator) ≤ shape_cells (fields_shape shapes cs named fs)
    at_field [] k f e = none_some e
    at_field (x ∷ fs) zero f e =
        let same : shape_cells (field_shape shapes cs named x.base x.declarator) ≡ shape_cells (field_shape shapes cs named f.base f.declarator) = ap (λ (y : ClassField). shape_cells (field_shape shapes cs named y.base y.declarator)) (some_same e) in
        omega (arith, same)
    at_field (x ∷ fs) (suc k) f e = let r = at_field fs k f e in omega (arith, r)

    at_next : (fs : List ClassField) (k : ℕ) (f : ClassField) → slice_get fs k ≡ Some f → field_cells (fields_shape shapes cs named fs) k + shape_cells (field_shape shapes cs named f.base f.declarator) ≤ field_cells (fields_shape shapes cs named fs) (suc k)
    at_next [] k f e = none_some e
    at_next (x ∷ fs) zero f e =
        let same : shape_cells (field_shape shapes cs named x.base x.declarator) ≡ shape_cells (field_shape shapes cs named f.base f.declarator) = ap (λ (y : ClassField). shape_cells (field_shape shapes cs named y.base y.declarator)) (some_same e) in
        omega (arith, same)
    at_next (x ∷ fs) (suc k) f e = let r = at_next fs k f e in omega (arith, r)

    module _ (cells : ℕ → ℕ) (same : (j : ℕ) → shape_cells (shapes j) ≡ cells j) where
      base_cells : (b : Base) → shape_cells (shape_of b) ≡ 1
      base_cells base.Void = refl
      base_cells base.Int = refl
      base_cells base.Char = refl
      base_cells base.Bool = refl
      base_cells base.Condition = refl
      base_cells base.Cluster = refl
      base_cells base.Processor = refl
      base_cells (base.Named name) = refl

      plain_cells : (plain : Bool) (j : ℕ) → shape_cells (if plain then shapes j else Binding) ≡ (if plain then cells j else 1)
      plain_cells true j = same j
      plain_cells false j = refl

      kept_cells : (o : Option FieldClass) (b : Base) → shape_cells (kept_shape shapes o b) ≡ element_cells cells o
      kept_cells None b = base_cells b
      kept_cells (Some o) b = plain_cells o.plain o.class

      one_cells : (by_ref : Bool) (l : Option Expr) (b : Base) → shape_cells (if by_ref then Binding else arrayed l (if by_ref then 1 else length_in named l) (kept_shape shapes (object_of cs b) b)) ≡ held_cells cells (record { count = if by_ref then 1 else length_in named l; object = if by_ref then None else object_of cs b })
      one_cells true l b = refl
      one_cells false None b = let h = kept_cells (object_of cs b) b in omega (arith, h)
      one_cells false (Some e) b = ap (λ x. length_in named (Some e) * x) (kept_cells (object_of cs b) b)

      fields_all : (fs : List ClassField) → shape_cells (fields_shape shapes cs named fs) ≡ all_held_cells cells (map held_of fs)
      fields_all [] = refl
      fields_all (f ∷ fs) =
          let a : shape_cells (field_shape shapes cs named f.base f.declarator) ≡ held_cells cells (held_of f) = one_cells f.declarator.by_ref f.declarator.len f.base in
          let b = fields_all fs in
          omega (arith, a, b)

bindings_all : (n : ℕ) (s : Shape) → shape_cells (behind_bindings n s) ≡ n + shape_cells s
bindings_all zero s = omega arith
bindings_all (suc n) s = let h = bindings_all n s in omega (arith, h)

before_bindings : (n k : ℕ) (s : Shape) → field_cells (behind_bindings n s) (n + k) ≡ n + field_cells s k
before_bindings zero k s = let z : 0 + k ≡ k = omega arith in let y : 0 + field_cells s k ≡ field_cells s k = omega arith in ap (λ n. field_cells s n) z ∙ sym y
before_bindings (suc n) k s = let h = before_bindings n k s in let e : suc n + k ≡ suc (n + k) = omega arith in ap (λ m. field_cells (behind_bindings (suc n) s) m) e ∙ omega (arith, h)

-- the cells before a field are cells of the object
before_few : (s : Shape) (i : ℕ) → field_cells s i ≤ shape_cells s
before_few (Field s r) zero = omega arith
before_few (Field s r) (suc i) = let h = before_few r i in omega (arith, h)
before_few s i = omega arith

-- and no more of them lie before a later one
before_later : (s : Shape) (i j : ℕ) → i ≤ j → field_cells s i ≤ field_cells s j
before_later (Field s r) zero j l = omega arith
before_later (Field s r) (suc i) zero l = omega (arith, l)
before_later (Field s r) (suc i) (suc j) l = let h = before_later r i j (omega (arith, l)) in omega (arith, h)
before_later s i j l = omega arith

row_here : (cs xs : List Class) (ks : List Constant) (i : ℕ) (c : Class) → slice_get xs i ≡ Some c → row_at (map (row_of cs ks) xs) i ≡ row_of cs ks c
row_here cs [] ks i c e = none_some e
row_here cs (x ∷ xs) ks zero c e = ap (row_of cs ks) (some_same e)
row_here cs (x ∷ xs) ks (suc i) c e = row_here cs xs ks i c e

row_none : (cs xs : List Class) (ks : List Constant) (i : ℕ) → slice_get xs i ≡ None → row_at (map (row_of cs ks) xs) i ≡ record { leading = 0; held = [] }
row_none cs [] ks i e = refl
row_none cs (x ∷ xs) ks zero e = none_some (sym e)
row_none cs (x ∷ xs) ks (suc i) e = row_none cs xs ks i e

map_long : {A B : Type 0} (f : A → B) (xs : List A) → length (map f xs) ≡ length xs
map_long f [] = refl
map_long f (x ∷ xs) = ap suc (map_long f xs)

inside : {A : Type 0} (xs : List A) (i : ℕ) (x : A) → slice_get xs i ≡ Some x → i < length xs
inside [] i x e = none_some e
inside (y ∷ xs) zero x e = omega arith
inside (y ∷ xs) (suc i) x e = let h = inside xs i x e in omega (arith, h)

some_more : (n i : ℕ) → i < n → n ≡ suc (n - 1)
some_more n i h = omega (arith, h)

is_false : (b : Bool) → not b ≡ true → b ≡ false
is_false true h = sym h
is_false false h = refl

module _ (p : Program) (u : Unbroken (program_visits p)) where
  abbrev cs : List Class
  cs = classes_of p.items

  abbrev rows : List ClassLayout
  rows = rows_of p

  abbrev t : Table
  t = table_of p

  rows_long : length rows ≡ length cs
  rows_long = map_long (row_of cs (constants_of p.items)) cs

  many_rows : (i : ℕ) (c : Class) → class_at p i ≡ Some c → length rows ≡ suc (length rows - 1)
  many_rows i c e = let h = inside cs i c e in let l = rows_long in some_more (length rows) i (omega (arith, h, l))

  held_is : (i : ℕ) (c : Class) → class_at p i ≡ Some c → (row_at rows i).held ≡ map (held_of cs (seen_in (constants_of p.items) c)) (fields_of c.members)
  held_is i c e = ap (λ (r : ClassLayout). r.held) (row_here cs cs (constants_of p.items) i c e) ∙ fields_held cs (seen_in (constants_of p.items) c) c.members

  -- no class has itself in its fields

  leads_less : (m j : ℕ) (o : Option FieldClass) → object_leads (reaches (suc m) rows j) j o ≡ false → object_leads (reaches m rows j) j o ≡ false
  leads_less m j None e = refl
  leads_less m j (Some o) e = by (nat_eq o.class j) (reaches (suc m) rows j o.class) (reaches m rows j o.class) (further m rows j o.class) e
    where
      by : (a b c : Bool) → (c ≡ true → b ≡ true) → (a || b) ≡ false → (a || c) ≡ false
      by true b c f e = e
      by false b true f e = false_true (sym e ∙ f refl)
      by false b false f e = refl

  itself_by : (m i : ℕ) → length rows ≡ suc m → list_any (leads (reaches m rows i) i) (row_at rows i).held ≡ false → has_itself rows i ≡ false
  unfolding reaches
  itself_by m i long e = ap (λ n. reaches n rows i i) long ∙ e

  apart_past : (n i : ℕ) → (row_at rows i).held ≡ [] → reaches n rows i i ≡ false
  unfolding reaches
  apart_past zero i h = refl
  apart_past (suc n) i h = ap (λ hs. list_any (leads (reaches n rows i) i) hs) h

  apart : (i : ℕ) → has_itself rows i ≡ false
  apart i = by (class_at p i) refl
    where
      by : (o : Option Class) → class_at p i ≡ o → has_itself rows i ≡ false
      by None e = apart_past (length rows) i (ap (λ (r : ClassLayout). r.held) (row_none cs cs (constants_of p.items) i e))
      by (Some c) e =
          let named = seen_in (constants_of p.items) c in
          let m = length rows - 1 in
          let long : length rows ≡ suc m = many_rows i c e in
          itself_by m i long (ap (λ hs. list_any (leads (reaches m rows i) i) hs) (held_is i c e) ∙ none_of cs named (leads (reaches m rows i) i) (fields_of c.members) (λ k f q. leads_less m i (held_of cs named f).object (subst (λ n. object_leads (reaches n rows i) i (held_of cs named f).object ≡ false) long (one k f q))))
        where
          one : (k : ℕ) (f : ClassField) → slice_get (fields_of c.members) k ≡ Some f → leads_back p i f.base f.declarator ≡ false
          one k f q =
              let r = field_rules p u i c e k f q in
              let env = plain_env p (class_around (home p u i c)) in
              let d = f.declarator in
              let h1 = none_right (unless (is_new_field c r.place (fields_at c r.place.member) d.name) S2 d.pos) _ r.own in
              is_false (leads_back p i f.base d) (holds (not (home_leads_back p env.around.home f.base d)) S4 d.pos _ h1)

  -- shapes have the cells of their rows

  form_all : (shapes : ℕ → Shape) (cells : ℕ → ℕ) → ((j : ℕ) → shape_cells (shapes j) ≡ cells j) → (j : ℕ) (o : Option Class) → class_at p j ≡ o → shape_cells (form_shape shapes p o) ≡ row_cells cells (row_at rows j)
  form_all shapes cells same j None e = sym (ap (row_cells cells) (row_none cs cs (constants_of p.items) j e))
  form_all shapes cells same j (Some c) e =
      let named = seen_in (constants_of p.items) c in
      let a = bindings_all (leading_cells c.kind) (fields_shape shapes cs named (fields_of c.members)) in
      let b = fields_all cs named shapes cells same (fields_of c.members) in
      let h : all_held_cells cells (members_held cs named c.members) ≡ all_held_cells cells (map (held_of cs named) (fields_of c.members)) = ap (all_held_cells cells) (fields_held cs named c.members) in
      let r : row_cells cells (row_at rows j) ≡ leading_cells c.kind + all_held_cells cells (members_held cs named c.members) = ap (row_cells cells) (row_here cs cs (constants_of p.items) j c e) in
      omega (arith, a, b, h, r)

  unless_circle : (b : Bool) (s : Shape) → b ≡ false → (if b then Last else s) ≡ s
  unless_circle true s e = false_true (sym e)
  unless_circle false s e = refl

  within : (d j : ℕ) → shape_cells (shape_within d p j) ≡ cells_within d rows j
  unfolding shape_within cells_within
  within zero j = refl
  within (suc d) j = ap shape_cells (unless_circle (has_itself rows j) (form_shape (shape_within d p) p (class_at p j)) (apart j)) ∙ form_all (shape_within d p) (cells_within d rows) (within d) j (class_at p j) refl ∙ sym (cells_next rows apart d j)

  shape_is : (m i : ℕ) (c : Class) → length rows ≡ suc m → class_at p i ≡ Some c → class_shape p i ≡ form_shape (shape_within m p) p (Some c)
  unfolding shape_within
  shape_is m i c long e = ap (λ n. shape_within n p i) long ∙ unless_circle (has_itself rows i) (form_shape (shape_within m p) p (class_at p i)) (apart i) ∙ ap (form_shape (shape_within m p) p) e

  -- the class of a field has all its cells, one class less deep
  deep : (m i : ℕ) (o : FieldClass) → length rows ≡ suc m → i < length rows → Holds (row_at rows i).held o → shape_cells (class_shape p o.class) ≡ shape_cells (shape_within m p o.class)
  deep m i o long h g =
      within (length rows) o.class ∙ (ap (λ n. cells_within n rows o.class) long ∙ (sym (cells_deep rows apart m i o long h g) ∙ sym (within m o.class)))

  -- one element of a field

  record OneFits (K : Shape) (s : Sort) : Type 0 where
    own : span t (place_ty s) ≤ shape_cells K
    each : shape_cells (element_shape t (place_ty s)) ≤ shape_cells K

  module _ (shapes : ℕ → Shape) (held : FieldClass → Type 0) (full : (o : FieldClass) → held o → shape_cells (class_shape p o.class) ≡ shape_cells (shapes o.class)) where
    of_kind_fits : (b : Base) (j : ℕ) (k : Kind) (o : Option FieldClass) → is_no_event (sort.Object j k) ≡ true → o ≡ object_of_kind j k → ((x : FieldClass) → o ≡ Some x → held x) → OneFits (kept_shape shapes o b) (sort.Object j k)
    of_kind_fits b j kind.Class o n e h =
        let f : shape_cells (class_shape p j) ≡ shape_cells (kept_shape shapes o b) = full (record { class = j; plain = true }) (h (record { class = j; plain = true }) e) ∙ sym (ap (λ x. shape_cells (kept_shape shapes x b)) e) in
        record { own = omega (arith, f); each = omega (arith, f) }
    of_kind_fits b j kind.Coroutine o n e h =
        let f : shape_cells (class_shape p j) ≡ shape_cells (kept_shape shapes o b) = full (record { class = j; plain = true }) (h (record { class = j; plain = true }) e) ∙ sym (ap (λ x. shape_cells (kept_shape shapes x b)) e) in
        record { own = omega (arith, f); each = omega (arith, f) }
    of_kind_fits b j kind.Monitor o n e h = let f : shape_cells (kept_shape shapes o b) ≡ 1 = ap (λ x. shape_cells (kept_shape shapes x b)) e in record { own = omega (arith, f); each = omega (arith, f) }
    of_kind_fits b j kind.Cormonitor o n e h = let f : shape_cells (kept_shape shapes o b) ≡ 1 = ap (λ x. shape_cells (kept_shape shapes x b)) e in record { own = omega (arith, f); each = omega (arith, f) }
    of_kind_fits b j kind.Task o n e h = let f : shape_cells (kept_shape shapes o b) ≡ 1 = ap (λ x. shape_cells (kept_shape shapes x b)) e in record { own = omega (arith, f); each = omega (arith, f) }
    of_kind_fits b j kind.Event o n e h = false_true n

    plain_fits : (b : Base) (s : Sort) → shape_cells (shape_of b) ≡ 1 → span t (place_ty s) ≤ 1 → shape_cells (element_shape t (place_ty s)) ≤ 1 → OneFits (kept_shape shapes None b) s
    plain_fits b s one a e = record { own = omega (arith, one, a); each = omega (arith, one, e) }

    one_fits : (b : Base) (s : Sort) → sort_of p b ≡ Some s → is_no_event s ≡ true → ((x : FieldClass) → object_of cs b ≡ Some x → held x) → OneFits (kept_shape shapes (object_of cs b) b) s
    one_fits base.Void s e n h = subst (OneFits (kept_shape shapes None base.Void)) (some_same e) (plain_fits base.Void sort.Void refl (omega arith) (omega arith))
    one_fits base.Int s e n h = subst (OneFits (kept_shape shapes None base.Int)) (some_same e) (plain_fits base.Int sort.Int refl (omega arith) (omega arith))
    one_fits base.Char s e n h = subst (OneFits (kept_shape shapes None base.Char)) (some_same e) (plain_fits base.Char sort.Char refl (omega arith) (omega arith))
    one_fits base.Bool s e n h = subst (OneFits (kept_shape shapes None base.Bool)) (some_same e) (plain_fits base.Bool sort.Bool refl (omega arith) (omega arith))
    one_fits base.Condition s e n h = subst (OneFits (kept_shape shapes None base.Condition)) (some_same e) (plain_fits base.Condition sort.Condition refl (omega arith) (omega arith))
    one_fits base.Cluster s e n h = subst (OneFits (kept_shape shapes None base.Cluster)) (some_same e) (plain_fits base.Cluster sort.Cluster refl (omega arith) (omega arith))
    one_fits base.Processor s e n h = subst (OneFits (kept_shape shapes None base.Processor)) (some_same e) (plain_fits base.Processor sort.Processor refl (omega arith) (omega arith))
    one_fits (base.Named name) s e n h =
        let x = named_object cs 0 name s e in
        subst (OneFits (kept_shape shapes (object_named cs 0 name) (base.Named name))) (sym x.2) (of_kind_fits (base.Named name) x.0 x.1 (object_named cs 0 name) (subst (λ y. is_no_event y ≡ true) x.2 n) x.3 h)

  -- a field
  field_fits : (by_ref : Bool) (l : Option Expr) (n : ℕ) (s : Sort) (K : Shape) → (by_ref ≡ false → OneFits K s) → span t (field_ty by_ref l n s) ≤ shape_cells (if by_ref then Binding else arrayed l n K)
  field_fits true l n s K h = omega arith
  field_fits false None n s K h = (h refl).own
  field_fits false (Some e) n s K h = mul-le n (shape_cells (element_shape t (place_ty s))) n (shape_cells K) (omega arith) (h refl).each

  no_object : (by_ref : Bool) (o : Option FieldClass) → by_ref ≡ false → o ≡ (if by_ref then None else o)
  no_object true o e = false_true (sym e)
  no_object false o e = refl

  -- the shapes of what a class holds, one class less deep
  abbrev inner : ℕ → Shape
  inner = shape_within (length rows - 1) p

  listed_span : (i k : ℕ) (c : Class) (f : ClassField) → class_at p i ≡ Some c → slice_get (fields_of c.members) k ≡ Some f → span t (listed_field p c (Some f)) ≤ shape_cells (field_shape inner cs (seen_in (constants_of p.items) c) f.base f.declarator)
  listed_span i k c f e q =
      let r = field_rules p u i c e k f q in
      let env = plain_env p (class_around (home p u i c)) in
      let d = f.declarator in
      let h1 = none_right (unless (is_new_field c r.place (fields_at c r.place.member) d.name) S2 d.pos) _ r.own in
      let h2 = none_right (unless (not (home_leads_back p env.around.home f.base d)) S4 d.pos) _ h1 in
      let h3 = none_right (length_breaks env d.by_ref d.len d.pos) _ h2 in
      let h4 = none_right (length_value_breaks env d.len) _ h3 in
      let h5 = none_right (of_sort (sort_of p f.base) (is_field_sort p d) S16 d.pos) _ h4 in
      let h6 = none_right (unless (not (is_coroutine c.kind && is_public r.access)) S18 d.pos) _ h5 in
      let no_event : is_no_event r.sort ≡ true = sort_holds (sort_of p f.base) r.sort is_no_event S22 d.pos _ r.base h6 in
      let named = seen_in (constants_of p.items) c in
      let long : length rows ≡ suc (length rows - 1) = many_rows i c e in
      let there : i < length rows = let a = inside cs i c e in let l = rows_long in omega (arith, a, l) in
      let known : listed_field p c (Some f) ≡ field_ty d.by_ref d.len (elements named d) r.sort = ap (known_field p c f) r.base in
      let fits : span t (field_ty d.by_ref d.len (elements named d) r.sort) ≤ shape_cells (field_shape inner cs named f.base d) =
      field_fits d.by_ref d.len (elements named d) r.sort (kept_shape inner (object_of cs f.base) f.base) (λ no. one_fits inner (λ o. Holds (row_at rows i).held o) (λ o g. deep (length rows - 1) i o long there g) f.base r.sort r.base no_event (λ x y. subst (λ hs. Holds hs x) (sym (held_is i c e)) (holds_at cs named (fields_of c.members) k f x q (sym (no_object d.by_ref (object_of cs f.base) no) ∙ y)))) in
      let own : span t (listed_field p c (Some f)) ≡ span t (field_ty d.by_ref d.len (elements named d) r.sort) = ap (span t) known in
      omega (arith, fits, own)

  -- a class has its leading cells, and behind them those of its fields
  class_whole : (i : ℕ) (c : Class) → class_at p i ≡ Some c → shape_cells (class_shape p i) ≡ leading_cells c.kind + shape_cells (fields_shape inner cs (seen_in (constants_of p.items) c) (fields_of c.members))
  class_whole i c e =
      let s : class_shape p i ≡ form_shape inner p (Some c) = shape_is (length rows - 1) i c (many_rows i c e) e in
      ap shape_cells s ∙ bindings_all (leading_cells c.kind) (fields_shape inner cs (seen_in (constants_of p.items) c) (fields_of c.members))

  class_before : (i k : ℕ) (c : Class) → class_at p i ≡ Some c → field_cells (class_shape p i) (leading_cells c.kind + k) ≡ leading_cells c.kind + field_cells (fields_shape inner cs (seen_in (constants_of p.items) c) (fields_of c.members)) k
  class_before i k c e =
      let s : class_shape p i ≡ form_shape inner p (Some c) = shape_is (length rows - 1) i c (many_rows i c e) e in
      ap (λ x. field_cells x (leading_cells c.kind + k)) s ∙ before_bindings (leading_cells c.kind) k (fields_shape inner cs (seen_in (constants_of p.items) c) (fields_of c.members))

  listed_fits : (i k : ℕ) (c : Class) (o : Option ClassField) → class_at p i ≡ Some c → slice_get (fields_of c.members) k ≡ o → field_cells (class_shape p i) (leading_cells c.kind + k) + span t (listed_field p c o) ≤ shape_cells (class_shape p i)
  listed_fits i k c None e q = let h = before_few (class_shape p i) (leading_cells c.kind + k) in omega (arith, h)
  listed_fits i k c (Some f) e q =
      let fits = listed_span i k c f e q in
      let a = at_field cs (seen_in (constants_of p.items) c) inner (fields_of c.members) k f q in
      let whole = class_whole i c e in
      let before = class_before i k c e in
      omega (arith, a, whole, before, fits)

  -- the next one lies behind it
  listed_next : (i k : ℕ) (c : Class) (o : Option ClassField) → class_at p i ≡ Some c → slice_get (fields_of c.members) k ≡ o → field_cells (class_shape p i) (leading_cells c.kind + k) + span t (listed_field p c o) ≤ field_cells (class_shape p i) (leading_cells c.kind + suc k)
  listed_next i k c None e q =
      let h = before_later (class_shape p i) (leading_cells c.kind + k) (leading_cells c.kind + suc k) (omega arith) in omega (arith, h)
  listed_next i k c (Some f) e q =
      let fits = listed_span i k c f e q in
      let a = at_next cs (seen_in (constants_of p.items) c) inner (fields_of c.members) k f q in
      let before = class_before i k c e in
      let next = class_before i (suc k) c e in
      omega (arith, a, next, before, fits)

  -- by its place among the cells
  index : (k : Kind) (i : ℕ) → (has_execution k ≡ true → 1 ≤ i) → leading_cells k + (i - leading_cells k) ≡ i
  index kind.Class i h = omega arith
  index kind.Coroutine i h = let l = h refl in omega (arith, l)
  index kind.Monitor i h = omega arith
  index kind.Cormonitor i h = let l = h refl in omega (arith, l)
  index kind.Task i h = omega arith
  index kind.Event i h = omega arith

  fields_fit : (j i : ℕ) (o : Option Class) → class_at p j ≡ o → (of_kind has_execution o ≡ true → 1 ≤ i) → field_cells (class_shape p j) i + span t (class_field p o i) ≤ shape_cells (class_shape p j)
  fields_fit j i None e h = let f = before_few (class_shape p j) i in omega (arith, f)
  fields_fit j i (Some c) e h = by (nat_lt i (leading_cells c.kind))
    where
      k : ℕ
      k = i - leading_cells c.kind

      by : (b : Bool) → field_cells (class_shape p j) i + span t (if b then Num else listed_field p c (slice_get (fields_of c.members) k)) ≤ shape_cells (class_shape p j)
      by true = let f = before_few (class_shape p j) i in omega (arith, f)
      by false = subst (λ n. field_cells (class_shape p j) n + span t (listed_field p c (slice_get (fields_of c.members) k)) ≤ shape_cells (class_shape p j)) (index c.kind i h) (listed_fits j k c (slice_get (fields_of c.members) k) e refl)

  fields_apart : (j i m : ℕ) (o : Option Class) → class_at p j ≡ o → (of_kind has_execution o ≡ true → 1 ≤ i) → i < m → field_cells (class_shape p j) i + span t (class_field p o i) ≤ field_cells (class_shape p j) m
  fields_apart j i m None e h l = let f = before_later (class_shape p j) i m (omega (arith, l)) in omega (arith, f)
  fields_apart j i m (Some c) e h l = by (nat_lt i (leading_cells c.kind))
    where
      k : ℕ
      k = i - leading_cells c.kind

      by : (b : Bool) → field_cells (class_shape p j) i + span t (if b then Num else listed_field p c (slice_get (fields_of c.members) k)) ≤ field_cells (class_shape p j) m
      by true = let f = before_later (class_shape p j) i m (omega (arith, l)) in omega (arith, f)
      by false =
          let x = index c.kind i h in
          let next = subst (λ n. field_cells (class_shape p j) n + span t (listed_field p c (slice_get (fields_of c.members) k)) ≤ field_cells (class_shape p j) (leading_cells c.kind + suc k)) x (listed_next j k c (slice_get (fields_of c.members) k) e refl) in
          let later = before_later (class_shape p j) (leading_cells c.kind + suc k) m (omega (arith, l, x)) in
          omega (arith, next, later)

  -- no array of arrays

  placed_flat : (b : Bool) (j n : ℕ) → IsFlat (place_by b (Obj j)) × IsFlat (Row n (place_by b (Obj j)))
  placed_flat true j n = (tt, tt)
  placed_flat false j n = (tt, tt)

  sort_flat : (s : Sort) (n : ℕ) → IsFlat (place_ty s) × IsFlat (Row n (place_ty s))
  sort_flat sort.Void n = (tt, tt)
  sort_flat sort.Int n = (tt, tt)
  sort_flat sort.Char n = (tt, tt)
  sort_flat sort.Bool n = (tt, tt)
  sort_flat sort.Condition n = (tt, tt)
  sort_flat sort.Cluster n = (tt, tt)
  sort_flat sort.Processor n = (tt, tt)
  sort_flat (sort.Object j k) n = placed_flat (is_numbered (sort.Object j k)) j n

  field_flat : (by_ref : Bool) (l : Option Expr) (n : ℕ) (s : Sort) → IsFlat (field_ty by_ref l n s)
  field_flat true l n s = tt
  field_flat false None n s = (sort_flat s n).0
  field_flat false (Some e) n s = (sort_flat s n).1

  known_flat : (c : Class) (f : ClassField) (s : Option Sort) → IsFlat (known_field p c f s)
  known_flat c f None = tt
  known_flat c f (Some s) = field_flat f.declarator.by_ref f.declarator.len (elements (seen_in (constants_of p.items) c) f.declarator) s

  listed_flat : (c : Class) (o : Option ClassField) → IsFlat (listed_field p c o)
  listed_flat c None = tt
  listed_flat c (Some f) = known_flat c f (sort_of p f.base)

  fields_flat : (o : Option Class) (i : ℕ) → IsFlat (class_field p o i)
  fields_flat None i = tt
  fields_flat (Some c) i = by (nat_lt i (leading_cells c.kind))
    where
      by : (b : Bool) → IsFlat (if b then Num else listed_field p c (slice_get (fields_of c.members) (i - leading_cells c.kind)))
      by true = tt
      by false = listed_flat c (slice_get (fields_of c.members) (i - leading_cells c.kind))

-- what destroys the objects of a class is a routine of that, whether somebody wrote it or not

module _ (p : Program) (formed : IsFormed p) (u : Unbroken (program_visits p)) where
  -- the class of a number
  place_is : (i c : ℕ) → place_of p (number_at p i) ≡ Some c → c ≡ i
  place_is i c h = by (class_at p i) refl
    where
      none : number_at p i ≡ 0 → c ≡ i
      none e = none_some (sym (no_place p formed u (classes_of p.items)) ∙ (ap (place_of p) (sym e) ∙ h))

      of_class : (x : Class) → class_at p i ≡ Some x → (b : Bool) → is_event x.kind ≡ b → c ≡ i
      of_class x e true v = none (ap (number_in p) e ∙ event_number_is p u i x e v)
      of_class x e false v = let n = number_of p u i x formed.classes e v in some_same (sym h ∙ (ap (place_of p) n.number ∙ n.place))

      by : (o : Option Class) → class_at p i ≡ o → c ≡ i
      by None e = none (ap (number_in p) e)
      by (Some x) e = of_class x e (is_event x.kind) refl

  no_constructor : (o : Role) → same_role role.Destructor o ≡ true → is_constructor o ≡ false
  no_constructor role.Plain h = refl
  no_constructor role.Constructor h = false_true h
  no_constructor role.Destructor h = refl

  written_length : (ds : List Defined) (n a b : ℕ) → length (written_sigs p ds n a b) ≡ length ds
  written_length [] n a b = refl
  written_length (d ∷ ds) n a b =
      ap suc (written_length ds (n + 1) (a + length (gathered_all own_texts d.routine.body)) (b + length (gathered_all (own_sites d.class d.number) d.routine.body)))

  -- what is found of those that nobody wrote is of the class
  record Of (i : ℕ) (o : Option Sig) : Type 0 where
    of : Unwritten
    at : o ≡ Some (unwritten_sig p of)
    class : of.class ≡ i

  among : (us : List Unwritten) (i : ℕ) (wanted : Role) → (slice_get (unwritten_sigs p us) (place_among us i wanted) ≡ None) ⊎ Of i (slice_get (unwritten_sigs p us) (place_among us i wanted))
  among [] i wanted = inl refl
  among (x ∷ us) i wanted = by (nat_eq x.class i && same_role wanted x.role) refl (among us i wanted)
    where
      by : (b : Bool) → (nat_eq x.class i && same_role wanted x.role) ≡ b → (slice_get (unwritten_sigs p us) (place_among us i wanted) ≡ None) ⊎ Of i (slice_get (unwritten_sigs p us) (place_among us i wanted)) → (slice_get (unwritten_sigs p (x ∷ us)) (if b then 0 else suc (place_among us i wanted)) ≡ None) ⊎ Of i (slice_get (unwritten_sigs p (x ∷ us)) (if b then 0 else suc (place_among us i wanted)))
      by true w ih = inr (record { of = x; at = refl; class = eqb-true x.class i (left_is (nat_eq x.class i) (same_role wanted x.role) w) })
      by false w ih = ih

  destroys : (i c : ℕ) → ((table_of p).routine (destructor_of p i)).this ≡ Some c → c ≡ i
  destroys i c h = by (written_at p i role.Destructor) refl h
    where
      us : List Unwritten
      us = unwritten_of p

      by_number : (d : Defined) → d.number ≡ number_at p i → same_role role.Destructor d.routine.sig.role ≡ true → resolved_place p d ≡ Some c → c ≡ i
      by_number d n w h =
          place_is i c (ap (place_of p) (sym n) ∙ (sym (ap (λ (b : Bool). if b then event_place p (base.Named d.routine.sig.name) else place_of p d.number) (and_no (nat_eq d.number 0) (is_constructor d.routine.sig.role) (no_constructor d.routine.sig.role w))) ∙ h))
        where
          and_no : (a b : Bool) → b ≡ false → (a && b) ≡ false
          and_no true b e = e
          and_no false b e = refl

      unwritten_at : slice_get (all_sigs p) (unwritten_number p i role.Destructor) ≡ slice_get (unwritten_sigs p us) (place_among us i role.Destructor)
      unwritten_at =
          get_right (written_sigs p (routines_of p) 0 0 0) (unwritten_sigs p us) (place_among us i role.Destructor) (unwritten_number p i role.Destructor) (ap (λ z. z + place_among us i role.Destructor) (sym (written_length (routines_of p) 0 0 0)))

      by_place : (slice_get (unwritten_sigs p us) (place_among us i role.Destructor) ≡ None) ⊎ Of i (slice_get (unwritten_sigs p us) (place_among us i role.Destructor)) → ((table_of p).routine (unwritten_number p i role.Destructor)).this ≡ Some c → c ≡ i
      by_place (inl e) h = none_some (sym (ap (λ o. (sig_or_none o).this) (unwritten_at ∙ e)) ∙ h)
      by_place (inr x) h = sym (some_same (sym (ap (λ o. (sig_or_none o).this) (unwritten_at ∙ x.at)) ∙ h)) ∙ x.class

      by : (o : Option ℕ) → written_at p i role.Destructor ≡ o → ((table_of p).routine (destructor_by p i o)).this ≡ Some c → c ≡ i
      by None e h = by_place (among us i role.Destructor) h
      by (Some r) e h =
          let n = number_at p i in
          let k = looked (has_role n role.Destructor) (routines_of p) 0 r (sym (role_looked (routines_of p) 0 n role.Destructor) ∙ e) in
          let q : k.n ≡ r = let z = some_same k.found in omega (arith, z) in
          let s = has_sig p k.n k.defined k.at in
          let this : ((table_of p).routine r).this ≡ resolved_place p k.defined = ap (λ m. ((table_of p).routine m).this) (sym q) ∙ ap (λ (g : Sig). g.this) s.sig in
          by_number k.defined (eqb-true k.defined.number n (left_is (nat_eq k.defined.number n) (same_role role.Destructor k.defined.routine.sig.role) k.passes)) (right_is (nat_eq k.defined.number n) (same_role role.Destructor k.defined.routine.sig.role) k.passes) (sym this ∙ h)

  counted : (r n c : ℕ) → Sized p r n → ((table_of p).routine r).this ≡ Some c → shape_cells (class_shape p c) ≤ n
  counted r n c z h =
      let same : c ≡ z.0 = destroys z.0 c (subst (λ k. ((table_of p).routine k).this ≡ Some c) z.1 h) in
      let cells : shape_cells (class_shape p c) ≡ class_cells p z.0 = within p u (length (rows_of p)) c ∙ ap (class_cells p) same in
      let all : n ≡ class_cells p z.0 = z.2 in
      omega (arith, cells, all)

pub laid_out : (p : Program) → IsFormed p → breaks_of p ≡ [] → IsLaidOut (Sized p) (table_of p)
laid_out p formed accepted = record {
  fields = λ c i f. fields_fit p accepted c i (class_at p c) refl f;
  apart = λ c i j f l. fields_apart p accepted c i j (class_at p c) refl f l;
  flat = λ c i f. fields_flat p accepted (class_at p c) i;
  counted = λ r n c z h. counted p formed accepted r n c z h;
}

pub law_clears : LawClears
law_clears = record {
  clears = λ p t l s st. clears (Sized p) t l s st;
  laid_out = laid_out;
}
