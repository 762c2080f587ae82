-- Two paths of one shape lead to different cells, and each to a cell of the shape.
use Rattle.std.proofs.Common.{◌≡◌, ℕ, zero, suc, ◌+◌, ◌*◌, ◌<◌, ◌≤◌, Bool, true, false, List, [], ◌∷◌, Option, Some, None, refl, sym, ap, ◌∙◌, subst, arith}
use Rattle.std.specs.Prelude.{nat_lt, if◌then◌else◌, ◌/◌, ◌%◌}
use Rattle.std.proofs.lemmas.Bool.{ltb-true}
use Rattle.std.proofs.lemmas.Nat.{div-mul-add, mod-mul-add}
use Rattle.std.proofs.Math.Nat.{mul-le-mul_right}
use Rattle.uc_tree.specs.Source.{Shape, Integer, Character, Truth, Binding, Last, Field, Array, shape_cells}
use Rattle.uc_tree.specs.Paths.{PathStep, ToField, ToElement, behind_cells, offset_of}
use Rattle.uc_tree.specs.Laws.{LawPaths}

some_is : (a k : ℕ) → Some a ≡ Some k → a ≡ k
some_is a k e = cc e

none_is : {B : Type 0} (k : ℕ) → (let n : Option ℕ = None in n) ≡ Some k → B
none_is k e = absurd (cc e)

further_from : (n k : ℕ) (o : Option ℕ) → behind_cells n o ≡ Some k → (m : ℕ) × (o ≡ Some m) × (n + m ≡ k)
further_from n k None e = none_is k e
further_from n k (Some m) e = (m, refl, some_is (n + m) k e)

chosen : (b : Bool) (o : Option ℕ) (k : ℕ) → (if b then o else None) ≡ Some k → (b ≡ true) × (o ≡ Some k)
chosen true o k e = (refl, e)
chosen false o k e = none_is k e

one_cell : (k : ℕ) → (let n : Option ℕ = Some 0 in n) ≡ Some k → k < 1
one_cell k e = let h : 0 ≡ k = some_is 0 k e in omega (arith, h)

below : (s : Shape) (xs : List PathStep) (k : ℕ) → offset_of s xs ≡ Some k → k < shape_cells s
below Integer [] k e = one_cell k e
below Integer (x ∷ xs) k e = none_is k e
below Character [] k e = one_cell k e
below Character (x ∷ xs) k e = none_is k e
below Truth [] k e = one_cell k e
below Truth (x ∷ xs) k e = none_is k e
below Binding [] k e = one_cell k e
below Binding (x ∷ xs) k e = none_is k e
below Last xs k e = none_is k e
below (Field s t) [] k e = none_is k e
below (Field s t) (ToElement i ∷ xs) k e = none_is k e
below (Field s t) (ToField zero ∷ xs) k e = let h = below s xs k e in omega (arith, h)
below (Field s t) (ToField (suc i) ∷ xs) k e =
    let f = further_from (shape_cells s) k (offset_of t (ToField i ∷ xs)) e in
    let h = below t (ToField i ∷ xs) f.0 f.1 in
    let q = f.2 in
    omega (arith, h, q)
below (Array n s) [] k e = none_is k e
below (Array n s) (ToField i ∷ xs) k e = none_is k e
below (Array n s) (ToElement i ∷ xs) k e =
    let c = chosen (nat_lt i n) (behind_cells (i * shape_cells s) (offset_of s xs)) k e in
    let f = further_from (i * shape_cells s) k (offset_of s xs) c.1 in
    let h = below s xs f.0 f.1 in
    let q = f.2 in
    let few : i + 1 ≤ n = let l = ltb-true i n c.0 in omega (arith, l) in
    let all : (i + 1) * shape_cells s ≤ n * shape_cells s = mul-le-mul_right (shape_cells s) few in
    let one : (i + 1) * shape_cells s ≡ i * shape_cells s + shape_cells s = omega arith in
    omega (arith, h, q, all, one)

bumped : List PathStep → List PathStep
bumped [] = []
bumped (ToField i ∷ xs) = ToField (suc i) ∷ xs
bumped (ToElement i ∷ xs) = ToElement i ∷ xs

no_less : {B : Type 0} (s t : Shape) (xs ys : List PathStep) (k : ℕ) → offset_of s xs ≡ Some k → behind_cells (shape_cells s) (offset_of t ys) ≡ Some k → B
no_less s t xs ys k e g =
    let h = below s xs k e in
    let f = further_from (shape_cells s) k (offset_of t ys) g in
    let q = f.2 in
    absurd (omega (arith, h, q))

same_element : (i j c a b k : ℕ) → a < c → b < c → i * c + a ≡ k → j * c + b ≡ k → i ≡ j
same_element i j c a b k p q e g = sym (div-mul-add i c a p) ∙ ap (λ x. x / c) (e ∙ sym g) ∙ div-mul-add j c b q

same_rest : (i j c a b k : ℕ) → a < c → b < c → i * c + a ≡ k → j * c + b ≡ k → b ≡ a
same_rest i j c a b k p q e g = sym (mod-mul-add j c b q) ∙ ap (λ x. x % c) (g ∙ sym e) ∙ mod-mul-add i c a p

apart : (s : Shape) (xs ys : List PathStep) (k : ℕ) → offset_of s xs ≡ Some k → offset_of s ys ≡ Some k → xs ≡ ys
unfolding bumped
apart Integer [] [] k e g = refl
apart Integer [] (y ∷ ys) k e g = none_is k g
apart Integer (x ∷ xs) ys k e g = none_is k e
apart Character [] [] k e g = refl
apart Character [] (y ∷ ys) k e g = none_is k g
apart Character (x ∷ xs) ys k e g = none_is k e
apart Truth [] [] k e g = refl
apart Truth [] (y ∷ ys) k e g = none_is k g
apart Truth (x ∷ xs) ys k e g = none_is k e
apart Binding [] [] k e g = refl
apart Binding [] (y ∷ ys) k e g = none_is k g
apart Binding (x ∷ xs) ys k e g = none_is k e
apart Last xs ys k e g = none_is k e
apart (Field s t) [] ys k e g = none_is k e
apart (Field s t) (ToElement i ∷ xs) ys k e g = none_is k e
apart (Field s t) (ToField zero ∷ xs) [] k e g = none_is k g
apart (Field s t) (ToField zero ∷ xs) (ToElement j ∷ ys) k e g = none_is k g
apart (Field s t) (ToField zero ∷ xs) (ToField zero ∷ ys) k e g = ap (λ zs. ToField zero ∷ zs) (apart s xs ys k e g)
apart (Field s t) (ToField zero ∷ xs) (ToField (suc j) ∷ ys) k e g = no_less s t xs (ToField j ∷ ys) k e g
apart (Field s t) (ToField (suc i) ∷ xs) [] k e g = none_is k g
apart (Field s t) (ToField (suc i) ∷ xs) (ToElement j ∷ ys) k e g = none_is k g
apart (Field s t) (ToField (suc i) ∷ xs) (ToField zero ∷ ys) k e g = no_less s t ys (ToField i ∷ xs) k g e
apart (Field s t) (ToField (suc i) ∷ xs) (ToField (suc j) ∷ ys) k e g =
    let f = further_from (shape_cells s) k (offset_of t (ToField i ∷ xs)) e in
    let h = further_from (shape_cells s) k (offset_of t (ToField j ∷ ys)) g in
    let p = f.2 in
    let q = h.2 in
    let same : h.0 ≡ f.0 = omega (arith, p, q) in
    ap bumped (apart t (ToField i ∷ xs) (ToField j ∷ ys) f.0 f.1 (h.1 ∙ ap (λ m. Some m) same))
apart (Array n s) [] ys k e g = none_is k e
apart (Array n s) (ToField i ∷ xs) ys k e g = none_is k e
apart (Array n s) (ToElement i ∷ xs) [] k e g = none_is k g
apart (Array n s) (ToElement i ∷ xs) (ToField j ∷ ys) k e g = none_is k g
apart (Array n s) (ToElement i ∷ xs) (ToElement j ∷ ys) k e g =
    let c = chosen (nat_lt i n) (behind_cells (i * shape_cells s) (offset_of s xs)) k e in
    let d = chosen (nat_lt j n) (behind_cells (j * shape_cells s) (offset_of s ys)) k g in
    let f = further_from (i * shape_cells s) k (offset_of s xs) c.1 in
    let h = further_from (j * shape_cells s) k (offset_of s ys) d.1 in
    let p = below s xs f.0 f.1 in
    let q = below s ys h.0 h.1 in
    ap (λ m. ToElement m ∷ xs) (same_element i j (shape_cells s) f.0 h.0 k p q f.2 h.2) ∙ ap (λ zs. ToElement j ∷ zs) (apart s xs ys f.0 f.1 (h.1 ∙ ap (λ m. Some m) (same_rest i j (shape_cells s) f.0 h.0 k p q f.2 h.2)))

pub law_paths : LawPaths
law_paths = record { below = below; apart = apart }
