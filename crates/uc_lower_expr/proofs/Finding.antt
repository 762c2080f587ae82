-- A field that is found by its name in a table.
use Rattle.std.proofs.Common.{◌≡◌, ℕ, zero, suc, ◌+◌, ◌<◌, List, [], ◌∷◌, Bool, true, false, Option, Some, None, if◌then◌else◌, length, refl, ap, sym, ◌∙◌, arith}
use Rattle.std.specs.Prelude.{slice_get, MatchOption}
use Rattle.uc_tree.specs.Names.{same_name}
use Rattle.uc_tree.specs.Programs.{Class, Program}
use Rattle.uc_tree.specs.Cells.{leading_cells}
use Rattle.uc_tree.specs.Numbering.{place_from}
use Rattle.uc_tree.specs.Objects.{ClassField, class_at, fields_of}
use Rattle.uc_resolve.specs.Resolve.{NumberedField, field_named}
use Rattle.uc_lower_expr.specs.declared.fields.Field.{Field}
use Rattle.uc_lower_expr.specs.declared.fields.FieldTable.{FieldTable}
use Rattle.uc_lower_expr.specs.Members.{AreFields, IsField, no_field}
use Rattle.uc_lower_expr.proofs.Counting.{condition_found, low, names_of}

abbrev numbered : ℕ → ClassField → NumberedField
numbered n f = record { number = n; field = f }

names_long : (fs : List ClassField) → length (names_of fs) ≡ length fs
names_long [] = refl
names_long (x ∷ xs) = ap suc (names_long xs)

-- a place is at most that of the last

high_case : (i k m : ℕ) (b : Bool) (o : Option ℕ) → (o ≡ Some k → k < i + 1 + m) → (if b then Some i else o) ≡ Some k → k < i + suc m
high_case i k m true o r h = let is : i ≡ k = cc in omega (arith, is)
high_case i k m false o r h = let q = r h in omega (arith, q)

pub high : (names : List (List ℕ)) (i : ℕ) (name : List ℕ) (k : ℕ) → place_from i names name ≡ Some k → k < i + length names
high [] i name k e = cc
high (n ∷ ns) i name k e = high_case i k (length ns) (same_name n name) (place_from (i + 1) ns name) (high ns (i + 1) name k) e

-- the field there

number_eq : (m n : ℕ) (f g : ClassField) → m ≡ n → f ≡ g → Some (numbered m f) ≡ Some (numbered n g)
number_eq m n f g e h = ap (λ k. Some (numbered k f)) e ∙ ap (λ x. Some (numbered n x)) h

found_case : (b : Bool) (x : ClassField) (xs : List ClassField) (i n j : ℕ) (name : List ℕ) (f : ClassField) → ((k : ℕ) → place_from (i + 1) (names_of xs) name ≡ Some (i + 1 + k) → slice_get xs k ≡ Some f → field_named (suc n) xs name ≡ Some (numbered (suc n + k) f)) → (if b then Some i else place_from (i + 1) (names_of xs) name) ≡ Some (i + j) → slice_get (x ∷ xs) j ≡ Some f → (if b then Some (numbered n x) else field_named (suc n) xs name) ≡ Some (numbered (n + j) f)
found_case true x xs i n zero name f more h at = let is : x ≡ f = cc in number_eq n (n + 0) x f (omega arith) is
found_case true x xs i n (suc j) name f more h at = let is : i ≡ i + suc j = cc in absurd (omega (arith, is))
found_case false x xs i n zero name f more h at = let l = low (names_of xs) (i + 1) name (i + 0) h in absurd (omega (arith, l))
found_case false x xs i n (suc j) name f more h at =
    let e : i + suc j ≡ i + 1 + j = omega arith in
    more j (h ∙ ap (λ k. Some k) e) at ∙ number_eq (suc n + j) (n + suc j) f f (omega arith) refl

found_at : (fs : List ClassField) (i n j : ℕ) (name : List ℕ) (f : ClassField) → place_from i (names_of fs) name ≡ Some (i + j) → slice_get fs j ≡ Some f → field_named n fs name ≡ Some (numbered (n + j) f)
found_at [] i n j name f h at = cc
found_at (x ∷ xs) i n j name f h at = found_case (same_name x.declarator.name name) x xs i n j name f (λ k g a. found_at xs (i + 1) (suc n) k name f g a) h at

missing_case : (b : Bool) (i n : ℕ) (x : ClassField) (o : Option ℕ) (q : Option NumberedField) → (o ≡ None → q ≡ None) → (if b then Some i else o) ≡ None → (if b then Some (numbered n x) else q) ≡ None
missing_case true i n x o q more h = cc
missing_case false i n x o q more h = more h

missing : (fs : List ClassField) (i n : ℕ) (name : List ℕ) → place_from i (names_of fs) name ≡ None → field_named n fs name ≡ None
missing [] i n name h = refl
missing (x ∷ xs) i n name h = missing_case (same_name x.declarator.name name) i n x (place_from (i + 1) (names_of xs) name) (field_named (suc n) xs name) (missing xs (i + 1) (suc n) name) h

there_is : (fs : List ClassField) (k : ℕ) → k < length fs → (o : Option ClassField) → slice_get fs k ≡ o → o ≡ None → ⊥
there_is [] k l o e n = absurd (omega arith)
there_is (x ∷ xs) zero l o e n = absurd (cc)
there_is (x ∷ xs) (suc k) l o e n = there_is xs k (omega arith) o e n

gets : (vs : List Field) (k : ℕ) → k < length vs → slice_get vs k ≡ None → ⊥
gets [] k l e = absurd (omega arith)
gets (v ∷ vs) zero l e = absurd (cc)
gets (v ∷ vs) (suc k) l e = gets vs k (omega arith) e

module _ (p : Program) (i : ℕ) (c : Class) (t : FieldTable) (name : List ℕ) (there : class_at p i ≡ Some c) (are : AreFields p i c t) where
  field_by : (k : ℕ) (v : Field) (o : Option ClassField) → place_from 0 (names_of (fields_of c.members)) name ≡ Some k → slice_get t.fields.items k ≡ Some v → slice_get (fields_of c.members) k ≡ o → IsField p i name v
  field_by k v None e g h = let l = high (names_of (fields_of c.members)) 0 name k e in absurd (there_is (fields_of c.members) k (omega (arith, l, names_long (fields_of c.members))) None h refl)
  field_by k v (Some f) e g h =
      let z : k ≡ 0 + k = omega arith in
      record {
        class = c;
        there = there;
        numbered = numbered (leading_cells c.kind + k) f;
        is = found_at (fields_of c.members) 0 (leading_cells c.kind) k name f (e ∙ ap (λ n. Some n) z) h;
        at = are.each k f v h g;
        condition = condition_found p c i k (leading_cells c.kind + k) name f v e h (are.counted k f v h g);
      }

  pub field_found : (k : ℕ) (r : Option Field) → place_from 0 (names_of (fields_of c.members)) name ≡ Some k → r ≡ slice_get t.fields.items k → MatchOption r (no_field p i name (Some c)) (λ v. IsField p i name v)
  field_found k None e g =
      let l = high (names_of (fields_of c.members)) 0 name k e in
      let m = are.long in
      absurd (gets t.fields.items k (omega (arith, l, m, names_long (fields_of c.members))) (sym g))
  field_found k (Some v) e g = field_by k v (slice_get (fields_of c.members) k) e (sym g) refl

  pub field_missing : place_from 0 (names_of (fields_of c.members)) name ≡ None → no_field p i name (Some c)
  field_missing e = missing (fields_of c.members) 0 (leading_cells c.kind) name e
