-- The conditions of a class, as they are counted and as they are numbered.
use Rattle.std.proofs.Common.{◌≡◌, ℕ, zero, suc, ◌+◌, ◌*◌, ◌≤◌, ℤ, List, [], ◌∷◌, ◌++◌, Bool, true, false, Option, Some, None, if◌then◌else◌, length, map, get_or, refl, ap, sym, ◌∙◌, arith}
use Rattle.std.specs.Prelude.{slice_get, option_and_then, unwrap_or}
use Rattle.std.specs.Cmp.Lexicographic.{bytes_decides}
use Rattle.std.proofs.lemmas.List.{append_assoc}
use Rattle.uc_tree.specs.declared.limits.TheConstants.{CLASS_CELLS, LAST_CONDITION}
use Rattle.uc_tree.specs.declared.kinds.Base.{Base}
use Rattle.uc_tree.specs.declared.kinds.Base.TheVariants as base
use Rattle.uc_tree.specs.declared.rows.FieldLayout.{FieldLayout}
use Rattle.uc_tree.specs.Capped.{capped}
use Rattle.uc_tree.specs.Constants.{constants_of, elements}
use Rattle.uc_tree.specs.Names.{same_name}
use Rattle.uc_tree.specs.Statements.{Declarator}
use Rattle.uc_tree.specs.Programs.{MemberForm, FieldsMember, RoutineMember, ProtoMember, Member, Class, Program}
use Rattle.uc_tree.specs.Rows.{element_cells, held_cells}
use Rattle.uc_tree.specs.Cells.{object_of, held_by, seen_in}
use Rattle.uc_tree.specs.Numbering.{at_most, condition_number, condition_number_in, conditions_of, form_conditions, place_from}
use Rattle.uc_tree.specs.Objects.{ClassField, class_shape, declared_fields, form_fields, fields_of}
use Rattle.uc_resolve.specs.Resolve.{NumberedField, Whose, condition_meant, field_by, field_found, field_or_condition, field_type, has_number}
use Rattle.uc_lower_expr.specs.declared.fields.Field.{Field}
use Rattle.uc_lower_expr.specs.FieldTables.{AreCounted, NoneCounted, OneCounted, condition_by, conditions_by, number_by, one_scalar}
use Rattle.uc_lower_expr.specs.Members.{conditions_before}

-- the conditions among fields

abbrev ones : Base → Declarator → List Declarator
ones base.Condition d = d ∷ []
ones base.Void d = []
ones base.Int d = []
ones base.Char d = []
ones base.Bool d = []
ones base.Cluster d = []
ones base.Processor d = []
ones (base.Named name) d = []

abbrev conditions : List ClassField → List Declarator
conditions [] = []
conditions (f ∷ fs) = ones f.base f.declarator ++ conditions fs

conditions_join : (xs ys : List ClassField) → conditions (xs ++ ys) ≡ conditions xs ++ conditions ys
conditions_join [] ys = refl
conditions_join (x ∷ xs) ys = ap (λ ds. ones x.base x.declarator ++ ds) (conditions_join xs ys) ∙ sym (append_assoc (ones x.base x.declarator) (conditions xs) (conditions ys))

all_of : (ds : List Declarator) → ds ≡ conditions (declared_fields base.Condition ds)
all_of [] = refl
all_of (d ∷ ds) = ap (λ xs. d ∷ xs) (all_of ds)

none_of : (b : Base) → ((d : Declarator) → ones b d ≡ []) → (ds : List Declarator) → [] ≡ conditions (declared_fields b ds)
none_of b h [] = refl
none_of b h (d ∷ ds) = none_of b h ds ∙ ap (λ xs. xs ++ conditions (declared_fields b ds)) (sym (h d))

form_is : (f : MemberForm) → form_conditions f ≡ conditions (form_fields f)
form_is (FieldsMember at base.Void ds) = none_of base.Void (λ d. refl) ds
form_is (FieldsMember at base.Int ds) = none_of base.Int (λ d. refl) ds
form_is (FieldsMember at base.Char ds) = none_of base.Char (λ d. refl) ds
form_is (FieldsMember at base.Bool ds) = none_of base.Bool (λ d. refl) ds
form_is (FieldsMember at base.Condition ds) = all_of ds
form_is (FieldsMember at base.Cluster ds) = none_of base.Cluster (λ d. refl) ds
form_is (FieldsMember at base.Processor ds) = none_of base.Processor (λ d. refl) ds
form_is (FieldsMember at (base.Named name) ds) = none_of (base.Named name) (λ d. refl) ds
form_is (RoutineMember routine) = refl
form_is (ProtoMember sig) = refl

conditions_are : (ms : List Member) → conditions_of ms ≡ conditions (fields_of ms)
conditions_are [] = refl
conditions_are (m ∷ ms) = ap (λ ds. ds ++ conditions_of ms) (form_is m.form) ∙ ap (λ ds. conditions (form_fields m.form) ++ ds) (conditions_are ms) ∙ sym (conditions_join (form_fields m.form) (fields_of ms))

-- a place is at least that of the first
low_case : (i k : ℕ) (b : Bool) (o : Option ℕ) → (o ≡ Some k → i + 1 ≤ k) → (if b then Some i else o) ≡ Some k → i ≤ k
low_case i k true o r h = let is : i ≡ k = cc in omega (arith, is)
low_case i k false o r h = let q = r h in omega (arith, q)

pub low : (names : List (List ℕ)) (i : ℕ) (name : List ℕ) (k : ℕ) → place_from i names name ≡ Some k → i ≤ k
low [] i name k e = cc
low (n ∷ ns) i name k e = low_case i k (same_name n name) (place_from (i + 1) ns name) (low ns (i + 1) name k) e

abbrev pub names_of : List ClassField → List (List ℕ)
names_of fs = map (λ f. f.declarator.name) fs

-- the first of a name has it
name_case : (b : Bool) (x : ClassField) (xs : List ClassField) (i j : ℕ) (name : List ℕ) (f : ClassField) → same_name x.declarator.name name ≡ b → ((k : ℕ) → place_from (i + 1) (names_of xs) name ≡ Some (i + 1 + k) → slice_get xs k ≡ Some f → f.declarator.name ≡ name) → (if b then Some i else place_from (i + 1) (names_of xs) name) ≡ Some (i + j) → slice_get (x ∷ xs) j ≡ Some f → f.declarator.name ≡ name
name_case true x xs i zero name f s more h at = let is : x ≡ f = cc in ap (λ (y : ClassField). y.declarator.name) (sym is) ∙ (bytes_decides x.declarator.name name).0 s
name_case true x xs i (suc j) name f s more h at = let is : i ≡ i + suc j = cc in absurd (omega (arith, is))
name_case false x xs i zero name f s more h at = let l = low (names_of xs) (i + 1) name (i + 0) h in absurd (omega (arith, l))
name_case false x xs i (suc j) name f s more h at = let e : i + suc j ≡ i + 1 + j = omega arith in more j (h ∙ ap (λ k. Some k) e) at

name_is : (fs : List ClassField) (i j : ℕ) (name : List ℕ) (f : ClassField) → place_from i (names_of fs) name ≡ Some (i + j) → slice_get fs j ≡ Some f → f.declarator.name ≡ name
name_is [] i j name f h at = cc
name_is (x ∷ xs) i j name f h at = name_case (same_name x.declarator.name name) x xs i j name f refl (λ k g a. name_is xs (i + 1) k name f g a) h at

module _ (named : List ℕ → Option ℤ) where
  -- one that is no condition counts for nothing, and a condition of another name is passed
  passed : (b : Base) (d : Declarator) (ds : List Declarator) (n : ℕ) (name : List ℕ) → same_name d.name name ≡ false → condition_number_in named n (ones b d ++ ds) name ≡ condition_number_in named (n + conditions_by b (elements named d)) ds name
  passed base.Condition d ds n name h = ap (λ (b : Bool). if b then Some n else condition_number_in named (n + elements named d) ds name) h
  passed base.Void d ds n name h = let z : n ≡ n + 0 = omega arith in ap (λ k. condition_number_in named k ds name) z
  passed base.Int d ds n name h = let z : n ≡ n + 0 = omega arith in ap (λ k. condition_number_in named k ds name) z
  passed base.Char d ds n name h = let z : n ≡ n + 0 = omega arith in ap (λ k. condition_number_in named k ds name) z
  passed base.Bool d ds n name h = let z : n ≡ n + 0 = omega arith in ap (λ k. condition_number_in named k ds name) z
  passed base.Cluster d ds n name h = let z : n ≡ n + 0 = omega arith in ap (λ k. condition_number_in named k ds name) z
  passed base.Processor d ds n name h = let z : n ≡ n + 0 = omega arith in ap (λ k. condition_number_in named k ds name) z
  passed (base.Named m) d ds n name h = let z : n ≡ n + 0 = omega arith in ap (λ k. condition_number_in named k ds name) z

  here : (b : Base) (d : Declarator) (ds : List Declarator) (n : ℕ) (name : List ℕ) → b ≡ base.Condition → same_name d.name name ≡ true → condition_number_in named n (ones b d ++ ds) name ≡ Some n
  here b d ds n name e h = ap (λ (c : Base). condition_number_in named n (ones c d ++ ds) name) e ∙ ap (λ (s : Bool). if s then Some n else condition_number_in named (n + elements named d) ds name) h

  first_case : (b : Bool) (x : ClassField) (xs : List ClassField) (i n j : ℕ) (name : List ℕ) (f : ClassField) → same_name x.declarator.name name ≡ b
      → ((m k : ℕ) → place_from (i + 1) (names_of xs) name ≡ Some (i + 1 + k) → slice_get xs k ≡ Some f → condition_number_in named m (conditions xs) name ≡ Some (m + conditions_before named xs k))
      → f.base ≡ base.Condition → (if b then Some i else place_from (i + 1) (names_of xs) name) ≡ Some (i + j) → slice_get (x ∷ xs) j ≡ Some f → condition_number_in named n (conditions (x ∷ xs)) name ≡ Some (n + conditions_before named (x ∷ xs) j)
  first_case true x xs i n zero name f s more c h at =
      let is : x ≡ f = cc in
      let z : n ≡ n + 0 = omega arith in
      here x.base x.declarator (conditions xs) n name (ap (λ (y : ClassField). y.base) is ∙ c) s ∙ ap (λ k. Some k) z
  first_case true x xs i n (suc j) name f s more c h at = let is : i ≡ i + suc j = cc in absurd (omega (arith, is))
  first_case false x xs i n zero name f s more c h at = let l = low (names_of xs) (i + 1) name (i + 0) h in absurd (omega (arith, l))
  first_case false x xs i n (suc j) name f s more c h at =
      let e : i + suc j ≡ i + 1 + j = omega arith in
      let one = conditions_by x.base (elements named x.declarator) in
      let z : n + one + conditions_before named xs j ≡ n + (one + conditions_before named xs j) = omega arith in
      passed x.base x.declarator (conditions xs) n name s ∙ more (n + one) j (h ∙ ap (λ k. Some k) e) at ∙ ap (λ k. Some k) z

  first_is : (fs : List ClassField) (i n j : ℕ) (name : List ℕ) (f : ClassField) → f.base ≡ base.Condition → place_from i (names_of fs) name ≡ Some (i + j) → slice_get fs j ≡ Some f → condition_number_in named n (conditions fs) name ≡ Some (n + conditions_before named fs j)
  first_is [] i n j name f c h at = cc
  first_is (x ∷ xs) i n j name f c h at = first_case (same_name x.declarator.name name) x xs i n j name f refl (λ m k g a. first_is xs (i + 1) m k name f c g a) c h at

-- the number of a condition, by its name
module _ (p : Program) (c : Class) (i : ℕ) where
  number_is : (fs : List ClassField) (k : ℕ) (name : List ℕ) (f : ClassField) → fs ≡ fields_of c.members → f.base ≡ base.Condition → place_from 0 (names_of fs) name ≡ Some k → slice_get fs k ≡ Some f → unwrap_or (condition_number p c f.declarator.name) 0 ≡ number_by (conditions_before (seen_in (constants_of p.items) c) fs k)
  number_is fs k name f e b h at =
      let named = seen_in (constants_of p.items) c in
      let z : k ≡ 0 + k = omega arith in
      let here : place_from 0 (names_of fs) name ≡ Some (0 + k) = h ∙ ap (λ n. Some n) z in
      let zero : 0 + conditions_before named fs k ≡ conditions_before named fs k = omega arith in
      let it : condition_number_in named 0 (conditions_of c.members) f.declarator.name ≡ Some (conditions_before named fs k) =
      ap (λ n. condition_number_in named 0 (conditions_of c.members) n) (name_is fs 0 k name f here at)
      ∙ ap (λ ds. condition_number_in named 0 ds name) (conditions_are c.members ∙ ap conditions (sym e))
      ∙ first_is named fs 0 0 k name f b here at
      ∙ ap (λ n. Some n) zero in
      ap (λ (o : Option ℕ). unwrap_or (option_and_then (at_most LAST_CONDITION) o) 0) it

  found_by : (b : Base) (whose : Whose) (f : NumberedField) (count k : ℕ) → f.field.base ≡ b → condition_by b count ≡ Some k → (b ≡ base.Condition → unwrap_or (condition_number p c f.field.declarator.name) 0 ≡ number_by count) → field_or_condition p c i whose f b ≡ condition_meant k (field_type p c f.field)
  found_by base.Condition whose f count k e h n = let is : number_by count ≡ k = cc in ap (λ (m : ℕ). condition_meant m (field_type p c f.field)) (n refl ∙ is)
  found_by base.Void whose f count k e h n = cc
  found_by base.Int whose f count k e h n = cc
  found_by base.Char whose f count k e h n = cc
  found_by base.Bool whose f count k e h n = cc
  found_by base.Cluster whose f count k e h n = cc
  found_by base.Processor whose f count k e h n = cc
  found_by (base.Named m) whose f count k e h n = cc

  -- a field that is a condition, the first of its name
  pub condition_found : (k n : ℕ) (name : List ℕ) (f : ClassField) (v : Field) → place_from 0 (names_of (fields_of c.members)) name ≡ Some k → slice_get (fields_of c.members) k ≡ Some f → v.condition ≡ condition_by f.base (conditions_before (seen_in (constants_of p.items) c) (fields_of c.members) k)
      → (j : ℕ) → v.condition ≡ Some j → (whose : Whose) → field_found p c i whose (record { number = n; field = f }) ≡ condition_meant j (field_type p c f)
  condition_found k n name f v h at counted j e whose =
      found_by f.base whose (record { number = n; field = f }) (conditions_before (seen_in (constants_of p.items) c) (fields_of c.members) k) j refl (sym counted ∙ e) (λ b. number_is (fields_of c.members) k name f refl b h at)

  -- another field
  pub no_condition : (whose : Whose) (f : NumberedField) (b : Base) (count : ℕ) → condition_by b count ≡ None → field_or_condition p c i whose f b ≡ field_by (has_number p (field_type p c f.field)) f.field.declarator.by_ref (class_shape p i) f.number whose (field_type p c f.field)
  no_condition whose f base.Condition count h = cc
  no_condition whose f base.Void count h = refl
  no_condition whose f base.Int count h = refl
  no_condition whose f base.Char count h = refl
  no_condition whose f base.Bool count h = refl
  no_condition whose f base.Cluster count h = refl
  no_condition whose f base.Processor count h = refl
  no_condition whose f (base.Named name) count h = refl

-- what is counted of fields

abbrev pub held_of : List Class → (List ℕ → Option ℤ) → ClassField → FieldLayout
held_of cs named f = held_by cs named f.base f.declarator

pub counted_at : (cs : List Class) (named : List ℕ → Option ℤ) (held : List FieldLayout) (place count last : ℕ) (fs : List ClassField) (vs : List Field) → AreCounted held place count fs vs last
    → ((k : ℕ) (f : ClassField) → slice_get fs k ≡ Some f → get_or held (place + k) one_scalar ≡ held_of cs named f)
    → ((j : ℕ) → j ≤ length fs → count + conditions_before named fs j ≤ CLASS_CELLS)
    → (k : ℕ) (f : ClassField) (v : Field) → slice_get fs k ≡ Some f → slice_get vs k ≡ Some v → v.condition ≡ condition_by f.base (count + conditions_before named fs k)
counted_at cs named held place count last fs vs (NoneCounted q n) is few k f v e g = cc
counted_at cs named held place count last fs vs (OneCounted q n l x y xs ys h more) is few zero f v e g =
    let a : x ≡ f = cc in
    let b : y ≡ v = cc in
    let z : n ≡ n + 0 = omega arith in
    ap (λ (w : Field). w.condition) (sym b) ∙ h ∙ ap (λ (w : ClassField). condition_by w.base n) a ∙ ap (condition_by f.base) z
counted_at cs named held place count last fs vs (OneCounted q n l x y xs ys h more) is few (suc k) f v e g =
    let one = conditions_by x.base (get_or held q one_scalar).count in
    let d : q ≡ q + 0 = omega arith in
    let here : one ≡ conditions_by x.base (elements named x.declarator) = ap (λ (w : FieldLayout). conditions_by x.base w.count) (ap (λ m. get_or held m one_scalar) d ∙ is 0 x refl) in
    let low = few 1 (omega arith) in
    let same : capped (n + one) ≡ n + conditions_by x.base (elements named x.declarator) = omega (arith, here, low) in
    let r = counted_at cs named held (q + 1) (capped (n + one)) l xs ys more (λ j w u. let s : q + 1 + j ≡ q + suc j = omega arith in ap (λ m. get_or held m one_scalar) s ∙ is (suc j) w u) (λ j m. let w = few (suc j) (omega arith) in omega (arith, same, w)) k f v e g in
    let t : capped (n + one) + conditions_before named xs k ≡ n + (conditions_by x.base (elements named x.declarator) + conditions_before named xs k) = omega (arith, same) in
    r ∙ ap (condition_by f.base) t

-- they are no more than cells
one_few : (cs : List Class) (cells : ℕ → ℕ) (b : Base) (by_ref : Bool) (n : ℕ) → conditions_by b n ≤ n * element_cells cells (if by_ref then None else object_of cs b)
one_few cs cells base.Condition true n = omega arith
one_few cs cells base.Condition false n = omega arith
one_few cs cells base.Void r n = omega arith
one_few cs cells base.Int r n = omega arith
one_few cs cells base.Char r n = omega arith
one_few cs cells base.Bool r n = omega arith
one_few cs cells base.Cluster r n = omega arith
one_few cs cells base.Processor r n = omega arith
one_few cs cells (base.Named name) r n = omega arith

pub field_few : (cs : List Class) (named : List ℕ → Option ℤ) (cells : ℕ → ℕ) (f : ClassField) → conditions_by f.base (elements named f.declarator) ≤ held_cells cells (held_of cs named f)
field_few cs named cells f = one_few cs cells f.base f.declarator.by_ref (elements named f.declarator)
