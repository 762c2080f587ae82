-- Numbers of classes, their names and their places.
use Rattle.std.proofs.Common.{◌≡◌, ℕ, zero, suc, ◌+◌, ◌-◌, ◌≤◌, List, [], ◌∷◌, ◌++◌, Bool, true, false, Option, Some, None, if◌then◌else◌, map, nat_eq, nat_le, unwrap_or, refl, ap, sym, ◌∙◌, arith, true≢false}
use Rattle.std.specs.Prelude.{option_and_then, slice_get}
use Rattle.std.specs.List.{list_any}
use Rattle.std.proofs.lemmas.Bool.{ne_eqb}
use Rattle.std.specs.Cmp.Lexicographic.{bytes_decides}
use Rattle.uc_tree.specs.declared.limits.TheConstants.{LAST_CLASS}
use Rattle.uc_tree.specs.declared.kinds.Kind.{Kind}
use Rattle.uc_tree.specs.Names.{same_name}
use Rattle.uc_tree.specs.Programs.{Class, Program}
use Rattle.uc_tree.specs.Cells.{classes_of}
use Rattle.uc_tree.specs.Numbering.{at_most, class_names, class_number, is_event, place_from}
use Rattle.uc_tree.specs.Objects.{class_at, number_at, number_in, place_of}
use Rattle.uc_tree.specs.Objects as objects
use Rattle.uc_layout.proofs.PlacesLemmas.{place_within}
use Rattle.uc_rules.specs.declared.rules.Sort.TheVariants.{Object}
use Rattle.uc_rules.specs.Sorts.{class_sort}
use Rattle.uc_lower.proofs.Distinct.{Fresh, any_last, any_new, same_self}

-- one number, one name

place_same : (ns : List (List ℕ)) (i k : ℕ) (a b : List ℕ) → place_from i ns a ≡ Some k → place_from i ns b ≡ Some k → a ≡ b
place_same [] i k a b e f = cc
place_same (n ∷ ns) i k a b e f = by_case (place_same ns (i + 1) k a b) (same_name n a) refl (same_name n b) refl e f
  where
    by_case : (place_from (i + 1) ns a ≡ Some k → place_from (i + 1) ns b ≡ Some k → a ≡ b) → (s : Bool) → same_name n a ≡ s → (t : Bool) → same_name n b ≡ t → (if s then Some i else place_from (i + 1) ns a) ≡ Some k → (if t then Some i else place_from (i + 1) ns b) ≡ Some k → a ≡ b
    by_case more true x true y e f = sym ((bytes_decides n a).0 x) ∙ (bytes_decides n b).0 y
    by_case more true x false y e f = let is : i ≡ k = cc in let w = (place_within (i + 1) ns b k f).0 in absurd (omega (arith, is, w))
    by_case more false x true y e f = let is : i ≡ k = cc in let w = (place_within (i + 1) ns a k e).0 in absurd (omega (arith, is, w))
    by_case more false x false y e f = more e f

-- a number that has a place is that of a name
number_by : (p : Program) (o : Option ℕ) (i : ℕ) → place_of p (unwrap_or (option_and_then (at_most LAST_CLASS) o) 0) ≡ Some i → o ≡ Some (unwrap_or (option_and_then (at_most LAST_CLASS) o) 0)
number_by p None i e = absurd (no_place (classes_of p.items) e)
  where
    no_place : (cs : List Class) → objects.place_from cs 0 0 ≡ Some i → ⊥
    no_place [] e = cc
    no_place (c ∷ cs) e = cc
number_by p (Some n) i e = by_case (nat_le n LAST_CLASS) e
  where
    no_place : (cs : List Class) → objects.place_from cs 0 0 ≡ Some i → ⊥
    no_place [] e = cc
    no_place (c ∷ cs) e = cc

    by_case : (t : Bool) → place_of p (unwrap_or (if t then Some n else None) 0) ≡ Some i → Some n ≡ Some (unwrap_or (if t then Some n else None) 0)
    by_case true e = refl
    by_case false e = absurd (no_place (classes_of p.items) e)

pub placed : (p : Program) (name : List ℕ) (i : ℕ) → place_of p (unwrap_or (class_number p name) 0) ≡ Some i → place_from 1 (class_names (classes_of p.items)) name ≡ Some (unwrap_or (class_number p name) 0)
placed p name i e = number_by p (place_from 1 (class_names (classes_of p.items)) name) i e

pub same_number : (p : Program) (a b : List ℕ) (i : ℕ) → place_of p (unwrap_or (class_number p a) 0) ≡ Some i → unwrap_or (class_number p b) 0 ≡ unwrap_or (class_number p a) 0 → b ≡ a
same_number p a b i e f =
    let x = placed p a i e in
    let y = placed p b i (ap (place_of p) f ∙ e) in
    place_same (class_names (classes_of p.items)) 1 (unwrap_or (class_number p a) 0) b a (y ∙ ap Some f) x

-- the place of a number has the name

pub record IsNamed (cs : List Class) (j : ℕ) (name : List ℕ) : Type 0 where
  pub class : Class
  pub there : slice_get cs j ≡ Some class
  pub named : class.name ≡ name

abbrev Rest : List Class → ℕ → ℕ → List ℕ → Type 0
Rest cs i0 i name = (b t : ℕ) → place_from b (class_names cs) name ≡ Some (b + t) → objects.place_from cs (i0 + 1) (suc t) ≡ Some i → (i0 + 1 ≤ i) × IsNamed cs (i - (i0 + 1)) name

ranked : (cs : List Class) (b t i0 i : ℕ) (name : List ℕ) → place_from b (class_names cs) name ≡ Some (b + t) → objects.place_from cs i0 (suc t) ≡ Some i → (i0 ≤ i) × IsNamed cs (i - i0) name
ranked [] b t i0 i name e f = cc
ranked (c ∷ cs) b t i0 i name e f = by_kind (λ b t e f. ranked cs b t (i0 + 1) i name e f) (is_event c.kind) e f
  where
    later : (j : ℕ) → (i0 + 1 ≤ j) × IsNamed cs (j - (i0 + 1)) name → (i0 ≤ j) × IsNamed (c ∷ cs) (j - i0) name
    later j h =
        let low = h.0 in
        let n = h.1 in
        let next : j - i0 ≡ suc (j - (i0 + 1)) = omega (arith, low) in
        (omega (arith, low), record { class = n.class; there = ap (slice_get (c ∷ cs)) next ∙ n.there; named = n.named })

    here : i0 ≡ i → c.name ≡ name → (i0 ≤ i) × IsNamed (c ∷ cs) (i - i0) name
    here is e = let first : i - i0 ≡ 0 = omega (arith, is) in (omega (arith, is), record { class = c; there = ap (slice_get (c ∷ cs)) first; named = e })

    next_case : Rest cs i0 i name → (s : ℕ) → t ≡ s → place_from (b + 1) (class_names cs) name ≡ Some (b + t) → (if nat_eq s 0 then Some i0 else objects.place_from cs (i0 + 1) s) ≡ Some i → (i0 ≤ i) × IsNamed (c ∷ cs) (i - i0) name
    next_case rest zero is e f = let w = (place_within (b + 1) (class_names cs) name (b + t) e).0 in absurd (omega (arith, w, is))
    next_case rest (suc s) is e f = let z : b + t ≡ b + 1 + s = omega (arith, is) in let g : objects.place_from cs (i0 + 1) (suc s) ≡ Some i = sym (ap (λ (t : Bool). if t then Some i0 else objects.place_from cs (i0 + 1) (suc s)) (ne_eqb (suc s) 0 (λ q. absurd (omega (arith, q))))) ∙ f in later i (rest (b + 1) s (e ∙ ap Some z) g)

    first_case : Rest cs i0 i name → (s : Bool) → same_name c.name name ≡ s → (if s then Some b else place_from (b + 1) (class_names cs) name) ≡ Some (b + t) → (if nat_eq t 0 then Some i0 else objects.place_from cs (i0 + 1) t) ≡ Some i → (i0 ≤ i) × IsNamed (c ∷ cs) (i - i0) name
    first_case rest true x e f =
        let is : b ≡ b + t = cc in
        let none : t ≡ 0 = omega (arith, is) in
        let g : Some i0 ≡ Some i = sym (ap (λ k. if nat_eq k 0 then Some i0 else objects.place_from cs (i0 + 1) k) none) ∙ f in
        let same : i0 ≡ i = cc in
        here same ((bytes_decides c.name name).0 x)
    first_case rest false x e f = next_case rest t refl e f

    by_kind : Rest cs i0 i name → (v : Bool) → place_from b (if v then class_names cs else c.name ∷ class_names cs) name ≡ Some (b + t) → (if v then objects.place_from cs (i0 + 1) (suc t) else (if nat_eq t 0 then Some i0 else objects.place_from cs (i0 + 1) t)) ≡ Some i → (i0 ≤ i) × IsNamed (c ∷ cs) (i - i0) name
    by_kind rest true e f = later i (rest b t e f)
    by_kind rest false e f = first_case rest (same_name c.name name) refl e f

number_case : (p : Program) (name : List ℕ) (i n : ℕ) → unwrap_or (class_number p name) 0 ≡ n → place_from 1 (class_names (classes_of p.items)) name ≡ Some n → place_of p n ≡ Some i → number_at p i ≡ n
number_case p name i zero is e f = absurd (let w = (place_within 1 (class_names (classes_of p.items)) name 0 e).0 in omega (arith, w))
number_case p name i (suc t) is e f =
    let z : suc t ≡ 1 + t = omega arith in
    let r = (ranked (classes_of p.items) 1 t 0 i name (e ∙ ap Some z) f).1 in
    let w : i - 0 ≡ i = omega arith in
    let there : class_at p i ≡ Some r.class = ap (class_at p) (sym w) ∙ r.there in
    ap (number_in p) there ∙ ap (λ n. unwrap_or (class_number p n) 0) r.named ∙ is

pub number_back : (p : Program) (name : List ℕ) (i : ℕ) → place_of p (unwrap_or (class_number p name) 0) ≡ Some i → number_at p i ≡ unwrap_or (class_number p name) 0
number_back p name i e = number_case p name i (unwrap_or (class_number p name) 0) refl (placed p name i e) e

-- among classes with names of their own the one of a name is the first

abbrev pub names_in : List Class → List (List ℕ)
names_in cs = map (λ (c : Class). c.name) cs

seen_nowhere : (cs : List Class) (seen : List (List ℕ)) (j : ℕ) (c : Class) → Fresh seen (names_in cs) → slice_get cs j ≡ Some c → list_any (λ x. same_name x c.name) seen ≡ true → ⊥
seen_nowhere [] seen j c f e s = cc
seen_nowhere (x ∷ xs) seen zero c f e s =
    let same : x ≡ c = cc in
    true≢false (sym s ∙ ap (λ (y : Class). list_any (λ z. same_name z y.name) seen) (sym same) ∙ f.0)
seen_nowhere (x ∷ xs) seen (suc j) c f e s = seen_nowhere xs (seen ++ x.name ∷ []) j c f.1 e (any_last (λ z. same_name z c.name) seen x.name s)

pub first_named : (cs : List Class) (seen : List (List ℕ)) (k j i : ℕ) (kind : Kind) (c : Class) (name : List ℕ) → Fresh seen (names_in cs) → slice_get cs j ≡ Some c → c.name ≡ name → class_sort cs k name ≡ Some (Object i kind) → i ≡ k + j
first_named [] seen k j i kind c name f e n s = cc
first_named (x ∷ xs) seen k j i kind c name f e n s = by_case (λ l e s. first_named xs (seen ++ x.name ∷ []) (k + 1) l i kind c name f.1 e n s) (same_name x.name name) refl s
  where
    here : (j : ℕ) → slice_get (x ∷ xs) j ≡ Some c → same_name x.name name ≡ true → k ≡ i → i ≡ k + j
    here zero e t is = omega (arith, is)
    here (suc j) e t is =
        absurd (seen_nowhere xs (seen ++ x.name ∷ []) j c f.1 e (any_new (λ z. same_name z c.name) seen x.name (ap (same_name x.name) n ∙ t)))

    there : ((l : ℕ) → slice_get xs l ≡ Some c → class_sort xs (k + 1) name ≡ Some (Object i kind) → i ≡ k + 1 + l) → (j : ℕ) → slice_get (x ∷ xs) j ≡ Some c → same_name x.name name ≡ false → class_sort xs (k + 1) name ≡ Some (Object i kind) → i ≡ k + j
    there more zero e t s =
        let same : x ≡ c = cc in
        absurd (true≢false (sym (ap (λ z. same_name z name) (ap (λ (y : Class). y.name) same ∙ n) ∙ same_self name) ∙ t))
    there more (suc j) e t s = let r = more j e s in omega (arith, r)

    by_case : ((l : ℕ) → slice_get xs l ≡ Some c → class_sort xs (k + 1) name ≡ Some (Object i kind) → i ≡ k + 1 + l) → (t : Bool) → same_name x.name name ≡ t → (if t then Some (Object k x.kind) else class_sort xs (k + 1) name) ≡ Some (Object i kind) → i ≡ k + j
    by_case more true t s = let is : k ≡ i = cc in here j e t is
    by_case more false t s = there more j e t s
