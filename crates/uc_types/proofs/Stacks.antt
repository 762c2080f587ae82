-- Locals that are looked up by the places of their blocks.
use Rattle.std.proofs.Common.{◌≡◌, ℕ, zero, suc, ◌+◌, ◌-◌, ◌<◌, ◌≤◌, List, [], ◌∷◌, ◌++◌, Bool, true, false, ◌||◌, Option, Some, None, if◌then◌else◌, nat_le, length, take, drop, refl, ap, sym, ◌∙◌, arith, slice_get, option_map, is_some}
use Rattle.std.proofs.lemmas.List.{length-take-le}
use Rattle.std.proofs.lemmas.Bool.{le-leb, lt-leb}
use Rattle.std.specs.List.{list_any}
use Rattle.uc_tree.specs.Names.{same_name}
use Rattle.uc_names.specs.Blocks.{Block, id_or, found}
use Rattle.uc_rules.specs.declared.rules.NameMeaning.{NameMeaning}
use Rattle.uc_rules.specs.declared.rules.LocalName.{LocalName}
use Rattle.uc_rules.specs.Scopes.{later_or, local_named}
use Rattle.uc_types.specs.LocalBlocks.{stacked}

pub stacked_push : (i : ℕ) (ss : List LocalName) (s : LocalName) (bs : List Block) → stacked i (ss ++ s ∷ []) bs ≡ ((s.name, i + length ss) ∷ []) ∷ stacked i ss bs
stacked_push i [] s bs = let e : i ≡ i + 0 = omega arith in ap (λ k. ((s.name, k) ∷ []) ∷ bs) e
stacked_push i (x ∷ ss) s bs = let e : i + 1 + length ss ≡ i + suc (length ss) = omega arith in stacked_push (i + 1) ss s (((x.name, i) ∷ []) ∷ bs) ∙ ap (λ k. ((s.name, k) ∷ []) ∷ stacked (i + 1) ss (((x.name, i) ∷ []) ∷ bs)) e

-- one name less
pub stacked_pop : (i n : ℕ) (ss : List LocalName) (bs : List Block) → n < length ss → drop 1 (stacked i (take (suc n) ss) bs) ≡ stacked i (take n ss) bs
stacked_pop i n [] bs h = absurd (omega (arith, h))
stacked_pop i zero (s ∷ ss) bs h = refl
stacked_pop i (suc n) (s ∷ ss) bs h = let k : n < length ss = omega (arith, h) in stacked_pop (i + 1) n ss (((s.name, i) ∷ []) ∷ bs) k

stacked_length : (i : ℕ) (ss : List LocalName) (bs : List Block) → length (stacked i ss bs) ≡ length ss + length bs
stacked_length i [] bs = omega arith
stacked_length i (s ∷ ss) bs = let more = stacked_length (i + 1) ss (((s.name, i) ∷ []) ∷ bs) in omega (arith, more)

-- there is a block to close
pub stacked_some : (n : ℕ) (ss : List LocalName) → 0 < n → n ≤ length ss → 0 < length (stacked 0 (take n ss) [])
stacked_some n ss h k = let all = stacked_length 0 (take n ss) [] in let long = length-take-le n ss k in omega (arith, h, all, long)

-- the place of the last name, of which the first has the place i
abbrev pub last_place : ℕ → List LocalName → List ℕ → Option ℕ
last_place i [] name = None
last_place i (s ∷ ss) name = id_or (last_place (i + 1) ss name) (if same_name s.name name then Some i else None)

or_or : (a b c : Option ℕ) → id_or a (id_or b c) ≡ id_or (id_or a b) c
or_or None b c = refl
or_or (Some x) b c = refl

or_none : (a : Option ℕ) → id_or a None ≡ a
or_none None = refl
or_none (Some x) = refl

found_in : (i : ℕ) (ss : List LocalName) (bs : List Block) (name : List ℕ) → found (stacked i ss bs) name ≡ id_or (last_place i ss name) (found bs name)
found_in i [] bs name = refl
found_in i (s ∷ ss) bs name = found_in (i + 1) ss (((s.name, i) ∷ []) ∷ bs) name ∙ or_or (last_place (i + 1) ss name) (if same_name s.name name then Some i else None) (found bs name)

pub found_is : (ss : List LocalName) (name : List ℕ) → found (stacked 0 ss []) name ≡ last_place 0 ss name
found_is ss name = found_in 0 ss [] name ∙ or_none (last_place 0 ss name)

low_case : (i p : ℕ) (o : Option ℕ) (b : Bool) → ((q : ℕ) → o ≡ Some q → i + 1 ≤ q) → id_or o (if b then Some i else None) ≡ Some p → i ≤ p
low_case i p None true more h = let e : i ≡ p = cc in omega (arith, e)
low_case i p None false more h = absurd (cc)
low_case i p (Some q) b more h = let low = more p h in omega (arith, low)

last_low : (i : ℕ) (ss : List LocalName) (name : List ℕ) (p : ℕ) → last_place i ss name ≡ Some p → i ≤ p
last_low i [] name p h = absurd (cc)
last_low i (s ∷ ss) name p h = low_case i p (last_place (i + 1) ss name) (same_name s.name name) (λ q k. last_low (i + 1) ss name q k) h

some_low : (i p q : ℕ) (ss : List LocalName) (name : List ℕ) → Some q ≡ last_place (i + 1) ss name → q ≡ p → i + 1 ≤ p
some_low i p q ss name is same = let low = last_low (i + 1) ss name q (sym is) in omega (arith, low, same)

none_case : (i : ℕ) (s : LocalName) (ss : List LocalName) (name : List ℕ) (o : Option ℕ) (b : Bool) → same_name s.name name ≡ b → (o ≡ None → local_named ss name ≡ None) → id_or o (if b then Some i else None) ≡ None → later_or (local_named ss name) s name ≡ None
none_case i s ss name (Some q) b e more h = cc
none_case i s ss name None true e more h = cc
none_case i s ss name None false e more h = ap (λ m. later_or m s name) (more refl) ∙ ap (λ t. if t then Some s.meant else None) e

pub last_none : (i : ℕ) (ss : List LocalName) (name : List ℕ) → last_place i ss name ≡ None → local_named ss name ≡ None
last_none i [] name h = refl
last_none i (s ∷ ss) name h = none_case i s ss name (last_place (i + 1) ss name) (same_name s.name name) refl (last_none (i + 1) ss name) h

within_case : (i p n : ℕ) (o : Option ℕ) (b : Bool) → (o ≡ Some p → p < i + 1 + n) → id_or o (if b then Some i else None) ≡ Some p → p < i + suc n
within_case i p n (Some q) b more h = let w = more h in omega (arith, w)
within_case i p n None true more h = let same : i ≡ p = cc in omega (arith, same)
within_case i p n None false more h = absurd (cc)

last_within : (i : ℕ) (ss : List LocalName) (name : List ℕ) (p : ℕ) → last_place i ss name ≡ Some p → p < i + length ss
last_within i [] name p h = absurd (cc)
last_within i (s ∷ ss) name p h = within_case i p (length ss) (last_place (i + 1) ss name) (same_name s.name name) (last_within (i + 1) ss name p) h

there : (ss : List LocalName) (k : ℕ) → k < length ss → is_some (option_map (λ s. s.meant) (slice_get ss k)) ≡ true
there [] k h = absurd (omega (arith, h))
there (s ∷ ss) zero h = refl
there (s ∷ ss) (suc k) h = let w : k < length ss = omega (arith, h) in there ss k w

kept : (o : Option NameMeaning) (s : LocalName) (name : List ℕ) → is_some o ≡ true → o ≡ later_or o s name
kept None s name h = cc
kept (Some m) s name h = refl

-- what the last name means stands at its place
meant_case : (i p : ℕ) (s : LocalName) (ss : List LocalName) (name : List ℕ) (o : Option ℕ) → o ≡ last_place (i + 1) ss name → (b : Bool) → same_name s.name name ≡ b → (last_place (i + 1) ss name ≡ Some p → option_map (λ s. s.meant) (slice_get ss (p - (i + 1))) ≡ local_named ss name) → id_or o (if b then Some i else None) ≡ Some p → option_map (λ s. s.meant) (slice_get (s ∷ ss) (p - i)) ≡ later_or (local_named ss name) s name
meant_case i p s ss name (Some q) is b e more h =
    let same : q ≡ p = cc in
    let low = some_low i p q ss name is same in
    let next : p - i ≡ suc (p - (i + 1)) = omega (arith, low) in
    let at : last_place (i + 1) ss name ≡ Some p = sym is ∙ h in
    let high = last_within (i + 1) ss name p at in
    let room : p - (i + 1) < length ss = omega (arith, low, high) in
    let inner = more at in
    ap (λ k. option_map (λ s. s.meant) (slice_get (s ∷ ss) k)) next ∙ inner ∙ kept (local_named ss name) s name (ap is_some (sym inner) ∙ there ss (p - (i + 1)) room)
meant_case i p s ss name None is true e more h =
    let same : i ≡ p = cc in
    let first : p - i ≡ 0 = omega (arith, same) in
    ap (λ k. option_map (λ s. s.meant) (slice_get (s ∷ ss) k)) first ∙ sym (ap (λ m. later_or m s name) (last_none (i + 1) ss name (sym is)) ∙ ap (λ t. if t then Some s.meant else None) e)
meant_case i p s ss name None is false e more h = cc

last_meant : (i : ℕ) (ss : List LocalName) (name : List ℕ) (p : ℕ) → last_place i ss name ≡ Some p → option_map (λ s. s.meant) (slice_get ss (p - i)) ≡ local_named ss name
last_meant i [] name p h = cc
last_meant i (s ∷ ss) name p h = meant_case i p s ss name (last_place (i + 1) ss name) refl (same_name s.name name) refl (last_meant (i + 1) ss name p) h

-- whether a name stands from a place on
abbrev pub from : ℕ → Option ℕ → Bool
from n None = false
from n (Some p) = nat_le n p

any_case : (i : ℕ) (ss : List LocalName) (name : List ℕ) (o : Option ℕ) → o ≡ last_place (i + 1) ss name → (b c : Bool) → from (i + 1) o ≡ c → from i (id_or o (if b then Some i else None)) ≡ b || c
any_case i ss name (Some q) is true c e = let low = last_low (i + 1) ss name q (sym is) in let h : i ≤ q = omega (arith, low) in le-leb i q h
any_case i ss name (Some q) is false c e = let low = last_low (i + 1) ss name q (sym is) in let h : i ≤ q = omega (arith, low) in le-leb i q h ∙ sym (le-leb (i + 1) q low) ∙ e
any_case i ss name None is true c e = let h : i ≤ i = omega arith in le-leb i i h
any_case i ss name None is false c e = e

any_is : (i : ℕ) (ss : List LocalName) (name : List ℕ) → from i (last_place i ss name) ≡ list_any (λ s. same_name s.name name) ss
any_is i [] name = refl
any_is i (s ∷ ss) name = any_case i ss name (last_place (i + 1) ss name) refl (same_name s.name name) (list_any (λ s. same_name s.name name) ss) (any_is (i + 1) ss name)

behind_case : (i k : ℕ) (o : Option ℕ) (b : Bool) → from (i + suc k) (id_or o (if b then Some i else None)) ≡ from (i + 1 + k) o
behind_case i k (Some q) b = let e : i + suc k ≡ i + 1 + k = omega arith in ap (λ n. nat_le n q) e
behind_case i k None true = let h : i < i + suc k = omega arith in lt-leb (i + suc k) i h
behind_case i k None false = refl

pub behind_is : (i k : ℕ) (ss : List LocalName) (name : List ℕ) → from (i + k) (last_place i ss name) ≡ list_any (λ s. same_name s.name name) (drop k ss)
behind_is i zero ss name = let e : i + 0 ≡ i = omega arith in ap (λ n. from n (last_place i ss name)) e ∙ any_is i ss name
behind_is i (suc k) [] name = refl
behind_is i (suc k) (s ∷ ss) name = behind_case i k (last_place (i + 1) ss name) (same_name s.name name) ∙ behind_is (i + 1) k ss name

-- taking fewer
pub take_fewer : {A : Type 0} (a b : ℕ) (xs : List A) → a ≤ b → take a (take b xs) ≡ take a xs
take_fewer a zero xs h = let e : a ≡ 0 = omega (arith, h) in ap (λ n. take n (take 0 xs)) e ∙ sym (ap (λ n. take n xs) e)
take_fewer zero (suc b) xs h = refl
take_fewer (suc a) (suc b) [] h = refl
take_fewer (suc a) (suc b) (x ∷ xs) h = let k : a ≤ b = omega (arith, h) in ap (λ l. x ∷ l) (take_fewer a b xs k)

pub take_short : {A : Type 0} (a : ℕ) (xs : List A) → length xs ≤ a → take a xs ≡ xs
take_short zero [] h = refl
take_short (suc a) [] h = refl
take_short zero (x ∷ xs) h = absurd (omega (arith, h))
take_short (suc a) (x ∷ xs) h = let k : length xs ≤ a = omega (arith, h) in ap (λ l. x ∷ l) (take_short a xs k)

-- what is found in the blocks
looked : (ss : List LocalName) (bs : List Block) (name bytes : List ℕ) → bytes ≡ name → bs ≡ stacked 0 ss [] → found bs bytes ≡ last_place 0 ss name
looked ss bs name bytes e is = ap (λ n. found bs n) e ∙ ap (λ l. found l name) is ∙ found_is ss name

pub local_some : (ss : List LocalName) (bs : List Block) (name bytes : List ℕ) (p : ℕ) → bytes ≡ name → bs ≡ stacked 0 ss [] → Some p ≡ found bs bytes → option_map (λ s. s.meant) (slice_get ss p) ≡ local_named ss name
local_some ss bs name bytes p e is at = let z : p - 0 ≡ p = omega arith in ap (λ k. option_map (λ s. s.meant) (slice_get ss k)) (sym z) ∙ last_meant 0 ss name p (sym (at ∙ looked ss bs name bytes e is))

pub local_none : (ss : List LocalName) (bs : List Block) (name bytes : List ℕ) → bytes ≡ name → bs ≡ stacked 0 ss [] → None ≡ found bs bytes → None ≡ local_named ss name
local_none ss bs name bytes e is at = sym (last_none 0 ss name (sym (at ∙ looked ss bs name bytes e is)))

pub behind_some : (k p : ℕ) (ss : List LocalName) (bs : List Block) (name bytes : List ℕ) → bytes ≡ name → bs ≡ stacked 0 ss [] → Some p ≡ found bs bytes → nat_le k p ≡ list_any (λ s. same_name s.name name) (drop k ss)
behind_some k p ss bs name bytes e is at = let z : 0 + k ≡ k = omega arith in ap (from k) (at ∙ looked ss bs name bytes e is) ∙ ap (λ n. from n (last_place 0 ss name)) (sym z) ∙ behind_is 0 k ss name

pub behind_none : (k : ℕ) (ss : List LocalName) (bs : List Block) (name bytes : List ℕ) → bytes ≡ name → bs ≡ stacked 0 ss [] → None ≡ found bs bytes → false ≡ list_any (λ s. same_name s.name name) (drop k ss)
behind_none k ss bs name bytes e is at = let z : 0 + k ≡ k = omega arith in ap (from k) (at ∙ looked ss bs name bytes e is) ∙ ap (λ n. from n (last_place 0 ss name)) (sym z) ∙ behind_is 0 k ss name
