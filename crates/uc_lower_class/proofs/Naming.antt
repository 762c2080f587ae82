-- The names of fields, and initialisers by their names.
use Rattle.std.proofs.Common.{◌≡◌, ℕ, zero, suc, ◌+◌, ◌-◌, ◌≤◌, ◌<◌, List, [], ◌∷◌, ◌++◌, Bool, true, false, Some, None, if◌then◌else◌, take, get_or, length, map, refl, ap, sym, subst, ◌∙◌, arith, append_assoc}
use Rattle.std.proofs.lemmas.List.{map-append, map_more, take_more}
use Rattle.std.specs.Prelude.{slice_get}
use Rattle.uc_tree.specs.Expressions.{NoExprs}
use Rattle.uc_tree.specs.declared.kinds.Base.{Base}
use Rattle.uc_tree.specs.Names.{same_name}
use Rattle.uc_tree.specs.Statements.{Declarator}
use Rattle.uc_tree.specs.Numbering.{place_from}
use Rattle.uc_tree.specs.Programs.{Init, Member}
use Rattle.uc_tree.specs.Objects.{ClassField, declared_fields, fields_of, form_fields}
use Rattle.uc_layout.proofs.PlacesLemmas.{place_within}
use Rattle.uc_lower_class.specs.Inits.{init_exprs, names_of}

-- one name more
pub push_names : {A B : Type 0} (f : A → List ℕ) (g : B → List ℕ) (xs ys : List A) (x : A) (ds : List B) (d : B) (k : ℕ) (base : List (List ℕ)) → ys ≡ xs ++ x ∷ [] → map f xs ≡ base ++ map g (take k ds) → f x ≡ g d → d ≡ get_or ds k d → k < length ds → map f ys ≡ base ++ map g (take (k + 1) ds)
push_names f g xs ys x ds d k base y e n is h =
    ap (map f) y ∙ map-append f xs (x ∷ []) ∙ ap (λ l. l ++ f x ∷ []) e ∙ append_assoc base (map g (take k ds)) (f x ∷ []) ∙ ap (λ l. base ++ l) (ap (λ m. map g (take k ds) ++ m ∷ []) (n ∙ ap g is) ∙ sym (map_more g ds k d h))

-- the names that a declaration of fields has
pub names_declared : (b : Base) (ds : List Declarator) → map (λ (d : Declarator). d.name) ds ≡ names_of (declared_fields b ds)
names_declared b [] = refl
names_declared b (d ∷ ds) = ap (λ ns. d.name ∷ ns) (names_declared b ds)

-- the names of one member more

fields_more : (ms : List Member) (m : Member) → fields_of (ms ++ m ∷ []) ≡ fields_of ms ++ form_fields m.form
fields_more [] m = nil_behind (form_fields m.form)
  where
    nil_behind : (fs : List ClassField) → fs ++ [] ≡ fs
    nil_behind [] = refl
    nil_behind (f ∷ fs) = ap (λ gs. f ∷ gs) (nil_behind fs)
fields_more (x ∷ xs) m = ap (λ fs. form_fields x.form ++ fs) (fields_more xs m) ∙ sym (append_assoc (form_fields x.form) (fields_of xs) (form_fields m.form))

pub push_member : (old new : List (List ℕ)) (ms : List Member) (m : Member) (k : ℕ) → old ≡ names_of (fields_of (take k ms)) → new ≡ old ++ names_of (form_fields m.form) → m ≡ get_or ms k m → k < length ms → new ≡ names_of (fields_of (take (k + 1) ms))
push_member old new ms m k e n is h =
    n ∙ ap (λ l. l ++ names_of (form_fields m.form)) e ∙ sym (map-append (λ (f : ClassField). f.declarator.name) (fields_of (take k ms)) (form_fields m.form))
    ∙ ap names_of (sym (fields_more (take k ms) m)) ∙ ap (λ l. names_of (fields_of (take k ms ++ l ∷ []))) is ∙ ap (λ l. names_of (fields_of l)) (sym (take_more ms k m h))

-- the arguments by the place of a name

placed_case : (x : Init) (xs : List Init) (i p : ℕ) (name : List ℕ) (b : Bool) (y : Init) → (place_from (i + 1) (map (λ z. z.name) xs) name ≡ Some p → slice_get xs (p - (i + 1)) ≡ Some y → init_exprs xs name ≡ y.args) → (place_from (i + 1) (map (λ z. z.name) xs) name ≡ Some p → i + 1 ≤ p)
    → (if b then Some i else place_from (i + 1) (map (λ z. z.name) xs) name) ≡ Some p → slice_get (x ∷ xs) (p - i) ≡ Some y → (if b then x.args else init_exprs xs name) ≡ y.args
placed_case x xs i p name true y r w e s =
    let same : i ≡ p = cc in
    let none : p - i ≡ 0 = omega arith in
    let here : slice_get (x ∷ xs) 0 ≡ Some y = subst (λ k. slice_get (x ∷ xs) k ≡ Some y) none s in
    let is : x ≡ y = cc in
    ap (λ (z : Init). z.args) is
placed_case x xs i p name false y r w e s =
    let l = w e in
    let next : p - i ≡ suc (p - (i + 1)) = omega (arith, l) in
    r e (subst (λ k. slice_get (x ∷ xs) k ≡ Some y) next s)

past_case : (xs : List (List ℕ)) (i p : ℕ) (name : List ℕ) → place_from i xs name ≡ Some p → i ≤ p
past_case [] i p name e = cc
past_case (x ∷ xs) i p name e = by_name x xs i p name (same_name x name) (past_case xs (i + 1) p name) e
  where
    by_name : (x : List ℕ) (xs : List (List ℕ)) (i p : ℕ) (name : List ℕ) (b : Bool) → (place_from (i + 1) xs name ≡ Some p → i + 1 ≤ p) → (if b then Some i else place_from (i + 1) xs name) ≡ Some p → i ≤ p
    by_name x xs i p name true r e = let same : i ≡ p = cc in omega (arith, same)
    by_name x xs i p name false r e = let l = r e in omega (arith, l)

pub init_placed : (xs : List Init) (i p : ℕ) (name : List ℕ) (y : Init) → place_from i (map (λ z. z.name) xs) name ≡ Some p → slice_get xs (p - i) ≡ Some y → init_exprs xs name ≡ y.args
init_placed [] i p name y e s = cc
init_placed (x ∷ xs) i p name y e s =
    placed_case x xs i p name (same_name x.name name) y (init_placed xs (i + 1) p name y) (past_case (map (λ z. z.name) xs) (i + 1) p name) e s

pub init_nowhere : (xs : List Init) (i : ℕ) (name : List ℕ) → place_from i (map (λ z. z.name) xs) name ≡ None → init_exprs xs name ≡ NoExprs
init_nowhere [] i name e = refl
init_nowhere (x ∷ xs) i name e = by_name x xs i name (same_name x.name name) (init_nowhere xs (i + 1) name) e
  where
    by_name : (x : Init) (xs : List Init) (i : ℕ) (name : List ℕ) (b : Bool) → (place_from (i + 1) (map (λ z. z.name) xs) name ≡ None → init_exprs xs name ≡ NoExprs) → (if b then Some i else place_from (i + 1) (map (λ z. z.name) xs) name) ≡ None → (if b then x.args else init_exprs xs name) ≡ NoExprs
    by_name x xs i name true r e = cc
    by_name x xs i name false r e = r e

-- by what is read at the place

got : (xs : List Init) (k : ℕ) (y : Init) → k < length xs → y ≡ get_or xs k y → slice_get xs k ≡ Some y
got [] k y h e = absurd (omega arith)
got (x ∷ xs) zero y h e = ap (λ (z : Init). Some z) (sym e)
got (x ∷ xs) (suc k) y h e = got xs k y (omega arith) e

long_names : (xs : List Init) → length (map (λ (z : Init). z.name) xs) ≡ length xs
long_names [] = refl
long_names (x ∷ xs) = ap suc (long_names xs)

pub init_few : (xs : List Init) (p : ℕ) (name : List ℕ) → place_from 0 (map (λ z. z.name) xs) name ≡ Some p → p < length xs
init_few xs p name e = let w = place_within 0 (map (λ z. z.name) xs) name p e in let l = long_names xs in let few = w.1 in omega (arith, few, l)

pub init_got : (xs : List Init) (p : ℕ) (name : List ℕ) (y : Init) → place_from 0 (map (λ z. z.name) xs) name ≡ Some p → y ≡ get_or xs p y → init_exprs xs name ≡ y.args
init_got xs p name y e g =
    let z : p - 0 ≡ p = omega arith in
    init_placed xs 0 p name y e (ap (slice_get xs) z ∙ got xs p y (init_few xs p name e) g)
