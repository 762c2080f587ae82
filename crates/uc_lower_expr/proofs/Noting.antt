-- Fields that are noted one after another, and the tables of all classes.
use Rattle.std.proofs.Common.{◌≡◌, ℕ, zero, suc, ◌+◌, ◌≤◌, ◌<◌, List, [], ◌∷◌, ◌++◌, Option, Some, None, take, length, get_or, refl, ap, sym, subst, ◌∙◌, arith}
use Rattle.std.proofs.lemmas.List.{append-nil, append_assoc, map-append, length-append, length-map}
use Rattle.std.specs.Prelude.{slice_get, MatchOption}
use Rattle.std.proofs.lemmas.Option.{slice_get-get_or}
use Rattle.uc_tree.specs.declared.kinds.Base.{Base}
use Rattle.uc_tree.specs.declared.rows.FieldLayout.{FieldLayout}
use Rattle.uc_tree.specs.Capped.{capped}
use Rattle.uc_tree.specs.Statements.{Declarator}
use Rattle.uc_tree.specs.Programs.{Member, Class, Program}
use Rattle.uc_tree.specs.Rows.{held_cells}
use Rattle.uc_tree.specs.Cells.{classes_of, class_cells}
use Rattle.uc_tree.specs.Objects.{class_at, ClassField, declared_fields, form_fields, fields_of}
use Rattle.uc_names.specs.Blocks.{Block}
use Rattle.uc_layout.specs.Places.{IsPlaces}
use Rattle.uc_lower_expr.specs.declared.fields.Field.{Field}
use Rattle.uc_lower_expr.specs.declared.fields.FieldTable.{FieldTable}
use Rattle.uc_lower_expr.specs.Members.{AreFields, AreTables, IsNthField, no_field_at, object_places}
use Rattle.uc_lower_expr.specs.FieldTables.{one_scalar, condition_by, conditions_by, IsNoted, AreNoted, NoMore, OneMore, AreCounted, NoneCounted, OneCounted, HasNames, Notes}
use Rattle.uc_lower_expr.proofs.FieldLemmas.{noted_long}
use Rattle.uc_lower_expr.proofs.Counting.{names_of}
use Rattle.uc_lower_expr.proofs.Knowing.{places_push}

-- lists of fields

pub declared_more : (b : Base) (ds : List Declarator) (d : Declarator) → declared_fields b (ds ++ d ∷ []) ≡ declared_fields b ds ++ record { base = b; declarator = d } ∷ []
declared_more b [] d = refl
declared_more b (x ∷ xs) d = ap (λ fs. record { base = b; declarator = x } ∷ fs) (declared_more b xs d)

pub members_more : (ms : List Member) (m : Member) → fields_of (ms ++ m ∷ []) ≡ fields_of ms ++ form_fields m.form
members_more [] m = append-nil (form_fields m.form)
members_more (x ∷ xs) m = ap (λ fs. form_fields x.form ++ fs) (members_more xs m) ∙ sym (append_assoc (form_fields x.form) (fields_of xs) (form_fields m.form))

-- what is noted of them

module _ (p : Program) (held : List FieldLayout) where
  pub notes_none : (t : FieldTable) → HasNames t → Notes p held [] t t
  notes_none t h = record {
    still = h;
    named = λ names l was. subst (λ ns. IsPlaces ns t.names) (sym (append-nil names)) was;
    more = [];
    fields = sym (append-nil t.fields.items);
    noted = NoMore (length t.fields.items) t.cells;
    counted = NoneCounted (length t.fields.items) t.conditions;
  }

  pub notes_one : (f : ClassField) (v : Field) (old new : FieldTable) → HasNames old → ((names : List (List ℕ)) → length names ≡ length old.fields.items → IsPlaces names old.names → IsPlaces (names ++ f.declarator.name ∷ []) new.names) → new.fields.items ≡ old.fields.items ++ v ∷ [] → IsNoted p old.cells (get_or held (length old.fields.items) one_scalar) f v → new.cells ≡ capped (old.cells + held_cells (class_cells p) (get_or held (length old.fields.items) one_scalar))
      → v.condition ≡ condition_by f.base old.conditions → new.conditions ≡ capped (old.conditions + conditions_by f.base (get_or held (length old.fields.items) one_scalar).count) → Notes p held (f ∷ []) old new
  notes_one f v old new h named fields is cells number counts =
      let names = h.names in
      let long : length (names ++ f.declarator.name ∷ []) ≡ length new.fields.items = length-append names (f.declarator.name ∷ []) ∙ ap (λ n. n + 1) h.long ∙ sym (ap length fields ∙ length-append old.fields.items (v ∷ [])) in
      record {
        still = record { names = names ++ f.declarator.name ∷ []; are = named names h.long h.are; long = long };
        named = named;
        more = v ∷ [];
        fields = fields;
        noted = subst (λ n. AreNoted p held (length old.fields.items) old.cells (f ∷ []) (v ∷ []) n) (sym cells) (OneMore (length old.fields.items) old.cells (capped (old.cells + held_cells (class_cells p) (get_or held (length old.fields.items) one_scalar))) f v [] [] is (NoMore (length old.fields.items + 1) (capped (old.cells + held_cells (class_cells p) (get_or held (length old.fields.items) one_scalar)))));
        counted = subst (λ n. AreCounted held (length old.fields.items) old.conditions (f ∷ []) (v ∷ []) n) (sym counts) (OneCounted (length old.fields.items) old.conditions (capped (old.conditions + conditions_by f.base (get_or held (length old.fields.items) one_scalar).count)) f v [] [] number (NoneCounted (length old.fields.items + 1) (capped (old.conditions + conditions_by f.base (get_or held (length old.fields.items) one_scalar).count))));
      }

  noted_both : (place cells mid last : ℕ) (fs gs : List ClassField) (vs ws : List Field) → AreNoted p held place cells fs vs mid → AreNoted p held (place + length fs) mid gs ws last → AreNoted p held place cells (fs ++ gs) (vs ++ ws) last
  noted_both place cells mid last fs gs vs ws (NoMore q n) h = let e : q + 0 ≡ q = omega arith in subst (λ k. AreNoted p held k n gs ws last) e h
  noted_both place cells mid last fs gs vs ws (OneMore q n l x y xs ys one more) h =
      let e : q + suc (length xs) ≡ q + 1 + length xs = omega arith in
      OneMore q n last x y (xs ++ gs) (ys ++ ws) one (noted_both (q + 1) _ l last xs gs ys ws more (subst (λ k. AreNoted p held k l gs ws last) e h))

  counted_both : (place count mid last : ℕ) (fs gs : List ClassField) (vs ws : List Field) → AreCounted held place count fs vs mid → AreCounted held (place + length fs) mid gs ws last → AreCounted held place count (fs ++ gs) (vs ++ ws) last
  counted_both place count mid last fs gs vs ws (NoneCounted q n) h = let e : q + 0 ≡ q = omega arith in subst (λ k. AreCounted held k n gs ws last) e h
  counted_both place count mid last fs gs vs ws (OneCounted q n l x y xs ys one more) h =
      let e : q + suc (length xs) ≡ q + 1 + length xs = omega arith in
      OneCounted q n last x y (xs ++ gs) (ys ++ ws) one (counted_both (q + 1) _ l last xs gs ys ws more (subst (λ k. AreCounted held k l gs ws last) e h))

  pub notes_both : (fs gs : List ClassField) (a b c : FieldTable) → Notes p held fs a b → Notes p held gs b c → Notes p held (fs ++ gs) a c
  notes_both fs gs a b c x y =
      let long : length b.fields.items ≡ length a.fields.items + length fs = ap length x.fields ∙ length-append a.fields.items x.more ∙ ap (λ n. length a.fields.items + n) (noted_long p held (length a.fields.items) a.cells b.cells fs x.more x.noted) in
      record {
        still = y.still;
        named = λ names l was.
            let longer : length (names ++ names_of fs) ≡ length b.fields.items = length-append names (names_of fs) ∙ ap (λ n. n + length (names_of fs)) l ∙ ap (λ n. length a.fields.items + n) (length-map fs (λ f. f.declarator.name)) ∙ sym long in
            subst (λ ns. IsPlaces ns c.names) (append_assoc names (names_of fs) (names_of gs) ∙ ap (λ ns. names ++ ns) (sym (map-append (λ (f : ClassField). f.declarator.name) fs gs))) (y.named (names ++ names_of fs) longer (x.named names l was));
        more = x.more ++ y.more;
        fields = y.fields ∙ ap (λ is. is ++ y.more) x.fields ∙ append_assoc a.fields.items x.more y.more;
        noted = noted_both (length a.fields.items) a.cells b.cells c.cells fs gs x.more y.more x.noted (subst (λ k. AreNoted p held k b.cells gs y.more c.cells) long y.noted);
        counted = counted_both (length a.fields.items) a.conditions b.conditions c.conditions fs gs x.more y.more x.counted (subst (λ k. AreCounted held k b.conditions gs y.more c.conditions) long y.counted);
      }

pub sum_capped : (a x b r : ℕ) → x ≡ capped b → r ≡ capped (a + x) → r ≡ capped (a + b)
sum_capped a x b r e f = omega (arith, e, f)

-- tables by the places of classes

-- an element of a list with one more
pub last_of : {A : Type 0} (P : Type 0) (xs : List A) (x : A) (n : ℕ) (u : A) → slice_get (xs ++ x ∷ []) n ≡ Some u → (slice_get xs n ≡ Some u → P) → (n ≡ length xs → x ≡ u → P) → P
last_of P [] x zero u e before last = last refl cc
last_of P [] x (suc n) u e before last = absurd (cc)
last_of P (y ∷ ys) x zero u e before last = before e
last_of P (y ∷ ys) x (suc n) u e before last = last_of P ys x n u e before (λ m q. last (ap suc m) q)

pub past : {A : Type 0} (xs : List A) (k : ℕ) → slice_get xs k ≡ None → length xs ≤ k
past [] k e = omega arith
past (x ∷ xs) zero e = absurd (cc)
past (x ∷ xs) (suc k) e = let h = past xs k e in omega arith

pub within : {A : Type 0} (xs : List A) (k : ℕ) (x : A) → slice_get xs k ≡ Some x → k < length xs
within [] k x e = absurd (cc)
within (y ∷ ys) zero x e = omega arith
within (y ∷ ys) (suc k) x e = let h = within ys k x e in omega arith

pub beyond : {A : Type 0} (xs : List A) (k : ℕ) → length xs ≤ k → slice_get xs k ≡ None
beyond [] k h = refl
beyond (x ∷ xs) zero h = absurd (omega (arith, h))
beyond (x ∷ xs) (suc k) h = beyond xs k (omega (arith, h))

-- what a look-up tells
pub got : {A : Type 0} (xs : List A) (k : ℕ) (x : A) → k < length xs → x ≡ get_or xs k x → slice_get xs k ≡ Some x
got xs k x h e = slice_get-get_or xs k x h ∙ ap (λ y. Some y) (sym e)

module _ (p : Program) (ts : List FieldTable) (are : AreTables p ts) (i : ℕ) where
  class_by : (t : FieldTable) → slice_get ts i ≡ Some t → (R : Option Class → Type 0) → ((c : Class) → class_at p i ≡ Some c → AreFields p i c t → R (Some c)) → (o : Option Class) → class_at p i ≡ o → R o
  class_by t e R f None h = let a = within ts i t e in let b = past (classes_of p.items) i h in let l = are.long in absurd (omega (arith, a, b, l))
  class_by t e R f (Some c) h = f c h (are.each i c t h e)

  -- what holds of the class of a table
  pub of_class : (t : FieldTable) → slice_get ts i ≡ Some t → (R : Option Class → Type 0) → ((c : Class) → class_at p i ≡ Some c → AreFields p i c t → R (Some c)) → R (class_at p i)
  of_class t e R f = class_by t e R f (class_at p i) refl

  pub no_class : slice_get ts i ≡ None → class_at p i ≡ None
  no_class e = let a = past ts i e in let l = are.long in beyond (classes_of p.items) i (omega (arith, a, l))

nth_by : (p : Program) (i place : ℕ) (c : Class) (t : FieldTable) → class_at p i ≡ Some c → AreFields p i c t → (v : Field) → slice_get t.fields.items place ≡ Some v → (o : Option ClassField) → slice_get (fields_of c.members) place ≡ o → IsNthField p i place v
nth_by p i place c t there are v e None h = let a = within t.fields.items place v e in let b = past (fields_of c.members) place h in let l = are.long in absurd (omega (arith, a, b, l))
nth_by p i place c t there are v e (Some f) h = record { class = c; there = there; field = f; is = h; at = are.each place f v h e }

-- the field with this place
pub nth_is : (p : Program) (i place : ℕ) (c : Class) (t : FieldTable) → class_at p i ≡ Some c → AreFields p i c t → (r : Option Field) → r ≡ slice_get t.fields.items place → MatchOption r (no_field_at place (Some c)) (λ v. IsNthField p i place v)
nth_is p i place c t there are None e = let a = past t.fields.items place (sym e) in let l = are.long in beyond (fields_of c.members) place (omega (arith, a, l))
nth_is p i place c t there are (Some v) e = nth_by p i place c t there are v (sym e) (slice_get (fields_of c.members) place) refl

-- one element more of a list

taken_more : {A : Type 0} (xs : List A) (k : ℕ) (x : A) → slice_get xs k ≡ Some x → take (suc k) xs ≡ take k xs ++ x ∷ []
taken_more [] k x e = absurd (cc)
taken_more (y ∷ ys) zero x e = let is : y ≡ x = cc in ap (λ z. z ∷ []) is
taken_more (y ∷ ys) (suc k) x e = ap (λ zs. y ∷ zs) (taken_more ys k x e)

taken_long : {A : Type 0} (xs : List A) (k : ℕ) (x : A) → slice_get xs k ≡ Some x → length (take k xs) ≡ k
taken_long [] k x e = absurd (cc)
taken_long (y ∷ ys) zero x e = refl
taken_long (y ∷ ys) (suc k) x e = ap suc (taken_long ys k x e)

pub objects_more : (cs : List Class) (k : ℕ) (c : Class) → slice_get cs k ≡ Some c → object_places (take (k + 1) cs) 0 ≡ object_places (take k cs) 0 ++ object_places (c ∷ []) k
objects_more cs k c e =
    let one : k + 1 ≡ suc k = omega arith in
    let long : 0 + length (take k cs) ≡ k = let l = taken_long cs k c e in omega (arith, l) in
    ap (λ n. object_places (take n cs) 0) one
    ∙ ap (λ xs. object_places xs 0) (taken_more cs k c e)
    ∙ places_push (take k cs) c 0
    ∙ ap (λ n. object_places (take k cs) 0 ++ object_places (c ∷ []) n) long

pub no_names : (names : List (List ℕ)) (places : List Block) → length names ≡ 0 → IsPlaces [] places → IsPlaces names places
no_names [] places l h = h
no_names (x ∷ xs) places l h = absurd (omega (arith, l))

-- tables of the first so many classes
pub record AreFirst (p : Program) (count : ℕ) (ts : List FieldTable) : Type 0 where
  pub long : length ts ≡ count
  pub each : (i : ℕ) (c : Class) (t : FieldTable) → class_at p i ≡ Some c → slice_get ts i ≡ Some t → AreFields p i c t

pub first_none : (p : Program) → AreFirst p 0 []
first_none p = record { long = refl; each = λ i c t a b. absurd (cc) }

pub first_more : (p : Program) (count : ℕ) (c : Class) (ts : List FieldTable) (t : FieldTable) → class_at p count ≡ Some c → AreFields p count c t → AreFirst p count ts → AreFirst p (count + 1) (ts ++ t ∷ [])
first_more p count c ts t there are h = record {
  long = length-append ts (t ∷ []) ∙ ap (λ n. n + 1) h.long;
  each = λ i d u a b. last_of (AreFields p i d u) ts t i u b (λ e. h.each i d u a e) (λ e f.
      let k : count ≡ i = sym (e ∙ h.long) in
      let g : Some c ≡ Some d = sym there ∙ ap (class_at p) k ∙ a in
      let is : c ≡ d = cc in
      subst (λ (x : FieldTable). AreFields p i d x) f (subst (λ (x : Class). AreFields p i x t) is (subst (λ (n : ℕ). AreFields p n c t) k are)));
}

pub first_all : (p : Program) (count : ℕ) (ts : List FieldTable) → count ≡ length (classes_of p.items) → AreFirst p count ts → AreTables p ts
first_all p count ts e h = record { long = h.long ∙ e; each = h.each }
