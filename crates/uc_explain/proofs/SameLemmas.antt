-- When what is shown is the same.
use Rattle.std.proofs.Common.{◌≡◌, ℕ, ℤ, ◌&&◌, Bool, true, false, List, [], ◌∷◌, Option, Some, None, length, refl, ap, ◌∙◌, arith}
use Rattle.std.specs.Prelude.{nat_eq}
use Rattle.std.specs.Ordering.{int_eq}
use Rattle.std.specs.Bool.{Decides}
use Rattle.std.specs.Option.{option_eq}
use Rattle.std.specs.Cmp.Lexicographic.{pointwise}
use Rattle.std.proofs.lemmas.Bool.Decides.{Decides-eqb, Decides-int_eq}
use Rattle.std.proofs.lemmas.Slice.Eq.{slice_eq-Decides}
use Rattle.uc_explain.specs.Shown.{Shown, is_same, same_pair, same_wait}
use Rattle.uc_explain.specs.Steps.{waits_of}

pub both_true : (a b : Bool) → (a && b) ≡ true → (a ≡ true) × (b ≡ true)
both_true true b h = (refl, h)
both_true false b h = cc

all_true : (a b : Bool) → a ≡ true → b ≡ true → (a && b) ≡ true
all_true true b h g = g
all_true false b h g = cc

pair_same : (p q : ℕ × ℕ) → Decides (same_pair p q) (p ≡ q)
pair_same p q = (told, back)
  where
    told : same_pair p q ≡ true → p ≡ q
    told h =
        let b = both_true (nat_eq p.0 q.0) (nat_eq p.1 q.1) h in
        ap (λ (x : ℕ). (x, p.1)) ((Decides-eqb p.0 q.0).0 b.0) ∙ ap (λ (x : ℕ). (q.0, x)) ((Decides-eqb p.1 q.1).0 b.1)

    back : p ≡ q → same_pair p q ≡ true
    back e =
        all_true (nat_eq p.0 q.0) (nat_eq p.1 q.1) ((Decides-eqb p.0 q.0).1 (ap (λ (x : ℕ × ℕ). x.0) e)) ((Decides-eqb p.1 q.1).1 (ap (λ (x : ℕ × ℕ). x.1) e))

wait_same : (p q : ℕ × ℕ × ℤ) → Decides (same_wait p q) (p ≡ q)
wait_same p q = (told, back)
  where
    told : same_wait p q ≡ true → p ≡ q
    told h =
        let b = both_true (nat_eq p.0 q.0) (nat_eq p.1 q.1 && int_eq p.2 q.2) h in
        let c = both_true (nat_eq p.1 q.1) (int_eq p.2 q.2) b.1 in
        ap (λ (x : ℕ). (x, p.1, p.2)) ((Decides-eqb p.0 q.0).0 b.0) ∙ ap (λ (x : ℕ). (q.0, x, p.2)) ((Decides-eqb p.1 q.1).0 c.0) ∙ ap (λ (x : ℤ). (q.0, q.1, x)) ((Decides-int_eq p.2 q.2).0 c.1)

    back : p ≡ q → same_wait p q ≡ true
    back e =
        all_true (nat_eq p.0 q.0) (nat_eq p.1 q.1 && int_eq p.2 q.2) ((Decides-eqb p.0 q.0).1 (ap (λ (x : ℕ × ℕ × ℤ). x.0) e))
        (all_true (nat_eq p.1 q.1) (int_eq p.2 q.2) ((Decides-eqb p.1 q.1).1 (ap (λ (x : ℕ × ℕ × ℤ). x.1) e)) ((Decides-int_eq p.2 q.2).1 (ap (λ (x : ℕ × ℕ × ℤ). x.2) e)))

accept_same : (a b : Option (ℕ × ℕ)) → Decides (option_eq same_pair a b) (a ≡ b)
accept_same None None = ((λ h. refl), (λ e. refl))
accept_same None (Some q) = ((λ h. cc), (λ e. cc))
accept_same (Some p) None = ((λ h. cc), (λ e. cc))
accept_same (Some p) (Some q) = ((λ h. ap Some ((pair_same p q).0 h)), (λ e. (pair_same p q).1 (inner p q e)))
  where
    inner : (p q : ℕ × ℕ) → Some p ≡ Some q → p ≡ q
    inner p q e = cc

abbrev pub made : List ℕ → List (ℕ × ℕ) → List ℕ → List (ℕ × ℕ × ℤ) → Option (ℕ × ℕ) → Shown
made i w s b a = record { inside = i; waiting = w; stacked = s; blocked = b; accepting = a }

-- all five parts
pub made_same : (i j : List ℕ) (w v : List (ℕ × ℕ)) (s t : List ℕ) (b c : List (ℕ × ℕ × ℤ)) (a d : Option (ℕ × ℕ)) → i ≡ j → w ≡ v → s ≡ t → b ≡ c → a ≡ d → made i w s b a ≡ made j v t c d
made_same i j w v s t b c a d e f g h k =
    ap (λ x. made x w s b a) e ∙ ap (λ x. made j x s b a) f ∙ ap (λ x. made j v x b a) g ∙ ap (λ x. made j v t x a) h ∙ ap (λ x. made j v t c x) k

numbers_same : (xs ys : List ℕ) → Decides (pointwise nat_eq xs ys) (xs ≡ ys)
numbers_same xs ys = slice_eq-Decides Decides-eqb xs ys (pointwise nat_eq xs ys) refl

pairs_same : (xs ys : List (ℕ × ℕ)) → Decides (pointwise same_pair xs ys) (xs ≡ ys)
pairs_same xs ys = slice_eq-Decides pair_same xs ys (pointwise same_pair xs ys) refl

waits_same : (xs ys : List (ℕ × ℕ × ℤ)) → Decides (pointwise same_wait xs ys) (xs ≡ ys)
waits_same xs ys = slice_eq-Decides wait_same xs ys (pointwise same_wait xs ys) refl

pub same_told : (s t : Shown) → is_same s t ≡ true → s ≡ t
same_told s t h =
    let p = pointwise nat_eq s.inside t.inside in
    let q = pointwise same_pair s.waiting t.waiting in
    let r = pointwise nat_eq s.stacked t.stacked in
    let u = pointwise same_wait s.blocked t.blocked in
    let v = option_eq same_pair s.accepting t.accepting in
    let b = both_true p (q && (r && (u && v))) h in
    let c = both_true q (r && (u && v)) b.1 in
    let d = both_true r (u && v) c.1 in
    let e = both_true u v d.1 in
    made_same s.inside t.inside s.waiting t.waiting s.stacked t.stacked s.blocked t.blocked s.accepting t.accepting ((numbers_same s.inside t.inside).0 b.0) ((pairs_same s.waiting t.waiting).0 c.0) ((numbers_same s.stacked t.stacked).0 d.0) ((waits_same s.blocked t.blocked).0 e.0) ((accept_same s.accepting t.accepting).0 e.1)

pub same_self : (s : Shown) → is_same s s ≡ true
same_self s =
    let p = pointwise nat_eq s.inside s.inside in
    let q = pointwise same_pair s.waiting s.waiting in
    let r = pointwise nat_eq s.stacked s.stacked in
    let u = pointwise same_wait s.blocked s.blocked in
    let v = option_eq same_pair s.accepting s.accepting in
    all_true p (q && (r && (u && v))) ((numbers_same s.inside s.inside).1 refl)
    (all_true q (r && (u && v)) ((pairs_same s.waiting s.waiting).1 refl)
    (all_true r (u && v) ((numbers_same s.stacked s.stacked).1 refl)
    (all_true u v ((waits_same s.blocked s.blocked).1 refl) ((accept_same s.accepting s.accepting).1 refl))))

-- a task with its number
abbrev pub same_number : ℕ × ℤ → ℕ × ℤ → Bool
same_number x y = nat_eq x.0 y.0 && int_eq x.1 y.1

turned : (a b z p q : Bool) → ((a && (b && z)) && (p && q)) ≡ ((b && p) && ((a && z) && q))
turned true true true p q = refl
turned true true false true q = refl
turned true true false false q = refl
turned true false z p q = refl
turned false true z true q = refl
turned false true z false q = refl
turned false false z p q = refl

-- waits are compared by conditions, and by tasks with numbers
pub waits_apart : (cs : List ℕ) (ws : List (ℕ × ℤ)) (ds : List ℕ) (vs : List (ℕ × ℤ)) → length cs ≡ length ws → length ds ≡ length vs → pointwise same_wait (waits_of cs ws) (waits_of ds vs) ≡ (pointwise nat_eq cs ds && pointwise same_number ws vs)
waits_apart [] (w ∷ ws) ds vs h g = absurd (omega (arith, h))
waits_apart (c ∷ cs) [] ds vs h g = absurd (omega (arith, h))
waits_apart [] [] [] (v ∷ vs) h g = absurd (omega (arith, g))
waits_apart [] [] (d ∷ ds) [] h g = absurd (omega (arith, g))
waits_apart (c ∷ cs) (w ∷ ws) [] (v ∷ vs) h g = absurd (omega (arith, g))
waits_apart (c ∷ cs) (w ∷ ws) (d ∷ ds) [] h g = absurd (omega (arith, g))
waits_apart [] [] [] [] h g = refl
waits_apart [] [] (d ∷ ds) (v ∷ vs) h g = refl
waits_apart (c ∷ cs) (w ∷ ws) [] [] h g = refl
waits_apart (c ∷ cs) (w ∷ ws) (d ∷ ds) (v ∷ vs) h g =
    ap (λ b. (nat_eq w.0 v.0 && (nat_eq c d && int_eq w.1 v.1)) && b) (waits_apart cs ws ds vs (omega (arith, h)) (omega (arith, g))) ∙ turned (nat_eq w.0 v.0) (nat_eq c d) (int_eq w.1 v.1) (pointwise nat_eq cs ds) (pointwise same_number ws vs)

-- tests in a row
pub and_then : (a b v : Bool) → a ≡ true → v ≡ b → v ≡ (a && b)
and_then true b v h e = e
and_then false b v h e = cc

pub and_else : (a b v : Bool) → a ≡ false → v ≡ a → v ≡ (a && b)
and_else true b v h e = cc
and_else false b v h e = e

pub in_a_row : (a b c d e f : Bool) → (((((a && b) && c) && d) && e) && f) ≡ (a && (b && (c && ((d && e) && f))))
in_a_row true true true true e f = refl
in_a_row true true true false e f = refl
in_a_row true true false d e f = refl
in_a_row true false c d e f = refl
in_a_row false b c d e f = refl

-- what is compared, as it is seen
pub seen_same : (b : Bool) (s t u v : Shown) → s ≡ u → t ≡ v → b ≡ is_same s t → b ≡ is_same u v
seen_same b s t u v e f h = h ∙ ap (λ x. is_same x t) e ∙ ap (is_same u) f
