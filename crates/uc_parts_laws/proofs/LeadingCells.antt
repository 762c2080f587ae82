-- A class of which the objects have executions has at least one cell.
use Rattle.std.proofs.Common.{◌≡◌, ℕ, zero, suc, ◌-◌, ◌<◌, ◌≤◌, ℤ, Bool, true, false, List, [], ◌∷◌, ◌++◌, Option, Some, None, length, map, refl, sym, ap, ◌∙◌, subst, arith}
use Rattle.std.specs.Prelude.{◌||◌, not, slice_get, nat_eq, if◌then◌else◌}
use Rattle.std.specs.List.{list_any}
use Rattle.uc_tree.specs.declared.kinds.Base.{Base}
use Rattle.uc_tree.specs.declared.kinds.Kind.{Kind}
use Rattle.uc_tree.specs.declared.kinds.Kind.TheVariants as kind
use Rattle.uc_tree.specs.declared.rows.FieldClass.{FieldClass}
use Rattle.uc_tree.specs.declared.rows.FieldLayout.{FieldLayout}
use Rattle.uc_tree.specs.Constants.{constants_of}
use Rattle.uc_tree.specs.Statements.{Declarator}
use Rattle.uc_tree.specs.Programs.{MemberForm, FieldsMember, RoutineMember, ProtoMember, Member, Class, Constant, Program}
use Rattle.uc_tree.specs.Rows.{ClassLayout, row_at, leads, object_leads, reaches, has_itself}
use Rattle.uc_tree.specs.Cells.{classes_of, held_by, member_held, members_held, row_of, rows_of, leading_cells, seen_in}
use Rattle.uc_tree.specs.Source.{Shape, Last, shape_cells}
use Rattle.uc_tree.specs.Objects.{ClassField, class_at, declared_fields, form_fields, fields_of, behind_bindings, fields_shape, form_shape, shape_within, class_shape, has_execution}
use Rattle.uc_layout.proofs.ContainmentProgressLemmas.{further}
use Rattle.uc_rules.specs.declared.rule.Rule.TheVariants.{S2, S4}
use Rattle.uc_rules.specs.Asked.{unless}
use Rattle.uc_rules.specs.Breaks.{breaks_of}
use Rattle.uc_rules.specs.ClassBreaks.{is_new_field, fields_at, home_leads_back, leads_back}
use Rattle.uc_rules.specs.Scopes.{plain_env, class_around}
use Rattle.uc_rules.specs.ProgramVisits.{program_visits}
use Rattle.uc_sound.specs.Unbroken.{Unbroken}
use Rattle.uc_sound.specs.Tables.{of_kind, table_of}
use Rattle.uc_sound.proofs.Ties.{some_same, none_some, false_true}
use Rattle.uc_sound.proofs.UnbrokenLemmas.{none_right, holds}
use Rattle.uc_sound.proofs.Visited.{home, field_rules}

module _ (cs : List Class) (named : List ℕ → Option ℤ) where
  abbrev held_of : ClassField → FieldLayout
  held_of f = held_by cs named f.base f.declarator

  declared_held : (b : Base) (ds : List Declarator) → map (held_by cs named b) ds ≡ map held_of (declared_fields b ds)
  declared_held b [] = refl
  declared_held b (d ∷ ds) = ap (λ hs. held_by cs named b d ∷ hs) (declared_held b ds)

  form_held : (f : MemberForm) → member_held cs named f ≡ map held_of (form_fields f)
  form_held (FieldsMember at b ds) = declared_held b ds
  form_held (RoutineMember routine) = refl
  form_held (ProtoMember sig) = refl

  map_join : (xs ys : List ClassField) → map held_of (xs ++ ys) ≡ map held_of xs ++ map held_of ys
  map_join [] ys = refl
  map_join (x ∷ xs) ys = ap (λ hs. held_of x ∷ hs) (map_join xs ys)

  fields_held : (ms : List Member) → members_held cs named ms ≡ map held_of (fields_of ms)
  fields_held [] = refl
  fields_held (m ∷ ms) = ap (λ hs. hs ++ members_held cs named ms) (form_held m.form) ∙ ap (λ hs. map held_of (form_fields m.form) ++ hs) (fields_held ms) ∙ sym (map_join (form_fields m.form) (fields_of ms))

  or_none : (a b : Bool) → a ≡ false → b ≡ false → (a || b) ≡ false
  or_none a b e f = ap (λ x. x || b) e ∙ f

  none_of : (P : FieldLayout → Bool) (fs : List ClassField) → ((k : ℕ) (f : ClassField) → slice_get fs k ≡ Some f → P (held_of f) ≡ false) → list_any P (map held_of fs) ≡ false
  none_of P [] h = refl
  none_of P (f ∷ fs) h = or_none (P (held_of f)) (list_any P (map held_of fs)) (h 0 f refl) (none_of P fs (λ k g e. h (suc k) g e))

row_here : (cs xs : List Class) (ks : List Constant) (i : ℕ) (c : Class) → slice_get xs i ≡ Some c → row_at (map (row_of cs ks) xs) i ≡ row_of cs ks c
row_here cs [] ks i c e = none_some e
row_here cs (x ∷ xs) ks zero c e = ap (row_of cs ks) (some_same e)
row_here cs (x ∷ xs) ks (suc i) c e = row_here cs xs ks i c e

map_long : {A B : Type 0} (f : A → B) (xs : List A) → length (map f xs) ≡ length xs
map_long f [] = refl
map_long f (x ∷ xs) = ap suc (map_long f xs)

inside : {A : Type 0} (xs : List A) (i : ℕ) (x : A) → slice_get xs i ≡ Some x → i < length xs
inside [] i x e = none_some e
inside (y ∷ xs) zero x e = omega arith
inside (y ∷ xs) (suc i) x e = let h = inside xs i x e in omega (arith, h)

is_false : (b : Bool) → not b ≡ true → b ≡ false
is_false true h = sym h
is_false false h = refl

-- what stands behind bindings has at least their cells
behind_cells : (n : ℕ) (s : Shape) → n ≤ shape_cells (behind_bindings n s)
behind_cells zero s = omega arith
behind_cells (suc n) s = let h = behind_cells n s in omega (arith, h)

leads_one : (k : Kind) → has_execution k ≡ true → 1 ≤ leading_cells k
leads_one kind.Coroutine h = omega arith
leads_one kind.Cormonitor h = omega arith
leads_one _ h = false_true h

unless_circle : (b : Bool) (s : Shape) → b ≡ false → (if b then Last else s) ≡ s
unless_circle true s e = false_true (sym e)
unless_circle false s e = refl

module _ (p : Program) (u : Unbroken (program_visits p)) where
  abbrev cs : List Class
  cs = classes_of p.items

  abbrev rows : List ClassLayout
  rows = rows_of p

  many_rows : (i : ℕ) (c : Class) → class_at p i ≡ Some c → length rows ≡ suc (length rows - 1)
  many_rows i c e = let h = inside cs i c e in let l : length rows ≡ length cs = map_long (row_of cs (constants_of p.items)) cs in omega (arith, h, l)

  held_is : (i : ℕ) (c : Class) → class_at p i ≡ Some c → (row_at rows i).held ≡ map (held_of cs (seen_in (constants_of p.items) c)) (fields_of c.members)
  held_is i c e = ap (λ (r : ClassLayout). r.held) (row_here cs cs (constants_of p.items) i c e) ∙ fields_held cs (seen_in (constants_of p.items) c) c.members

  leads_less : (m j : ℕ) (o : Option FieldClass) → object_leads (reaches (suc m) rows j) j o ≡ false → object_leads (reaches m rows j) j o ≡ false
  leads_less m j None e = refl
  leads_less m j (Some o) e = by (nat_eq o.class j) (reaches (suc m) rows j o.class) (reaches m rows j o.class) (further m rows j o.class) e
    where
      by : (a b c : Bool) → (c ≡ true → b ≡ true) → (a || b) ≡ false → (a || c) ≡ false
      by true b c f e = e
      by false b true f e = false_true (sym e ∙ f refl)
      by false b false f e = refl

  itself_by : (m i : ℕ) → length rows ≡ suc m → list_any (leads (reaches m rows i) i) (row_at rows i).held ≡ false → has_itself rows i ≡ false
  unfolding reaches
  itself_by m i long e = ap (λ n. reaches n rows i i) long ∙ e

  -- no class has itself in its fields
  one : (i : ℕ) (c : Class) → class_at p i ≡ Some c → (k : ℕ) (f : ClassField) → slice_get (fields_of c.members) k ≡ Some f → leads_back p i f.base f.declarator ≡ false
  one i c e k f q =
      let r = field_rules p u i c e k f q in
      let env = plain_env p (class_around (home p u i c)) in
      let d = f.declarator in
      let h1 = none_right (unless (is_new_field c r.place (fields_at c r.place.member) d.name) S2 d.pos) _ r.own in
      is_false (leads_back p i f.base d) (holds (not (home_leads_back p env.around.home f.base d)) S4 d.pos _ h1)

  apart : (i : ℕ) (c : Class) → class_at p i ≡ Some c → has_itself rows i ≡ false
  apart i c e =
      let named = seen_in (constants_of p.items) c in
      let m = length rows - 1 in
      let long : length rows ≡ suc m = many_rows i c e in
      itself_by m i long (ap (λ hs. list_any (leads (reaches m rows i) i) hs) (held_is i c e) ∙ none_of cs named (leads (reaches m rows i) i) (fields_of c.members) (λ k f q. leads_less m i (held_of cs named f).object (subst (λ n. object_leads (reaches n rows i) i (held_of cs named f).object ≡ false) long (one i c e k f q))))

  shape_is : (m i : ℕ) (c : Class) → length rows ≡ suc m → class_at p i ≡ Some c → class_shape p i ≡ form_shape (shape_within m p) p (Some c)
  unfolding shape_within
  shape_is m i c long e = ap (λ n. shape_within n p i) long ∙ unless_circle (has_itself rows i) (form_shape (shape_within m p) p (class_at p i)) (apart i c e) ∙ ap (form_shape (shape_within m p) p) e

  cells_at : (i : ℕ) (o : Option Class) → class_at p i ≡ o → of_kind has_execution o ≡ true → 0 < shape_cells (class_shape p i)
  cells_at i None e h = false_true h
  cells_at i (Some c) e h =
      let s : shape_cells (class_shape p i) ≡ shape_cells (form_shape (shape_within (length rows - 1) p) p (Some c)) = ap shape_cells (shape_is (length rows - 1) i c (many_rows i c e) e) in
      let b = behind_cells (leading_cells c.kind) (fields_shape (shape_within (length rows - 1) p) (classes_of p.items) (seen_in (constants_of p.items) c) (fields_of c.members)) in
      let l = leads_one c.kind h in
      omega (arith, s, b, l)

pub has_cells : (p : Program) → breaks_of p ≡ [] → (c : ℕ) → (table_of p).executes c ≡ true → 0 < shape_cells ((table_of p).shape c)
has_cells p accepted c h = cells_at p accepted c (class_at p c) refl h
