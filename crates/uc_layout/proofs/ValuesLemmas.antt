-- A table that has all that can be reckoned by it holds the values of the constants.
use Rattle.std.proofs.Common.{◌≡◌, ℕ, zero, suc, ℤ, ◌+◌, ◌≤◌, ◌<◌, List, [], ◌∷◌, true, false, Option, Some, None, if◌then◌else◌, length, refl, ap, sym, ◌∙◌, arith, get_or, set, slice_get, is_some, is_none, map, replicate, ◌⊎◌, inl, inr, ◌≢◌, ◌-◌}
use Rattle.std.proofs.lemmas.Bool.{cases_eq}
use Rattle.std.proofs.lemmas.List.{get_or-set_same, get_or-set_other}
use Rattle.std.specs.Prelude.{option_and_then, option_map}
use mathlib.Core.Path.{fun_ext}
use Rattle.uc_tree.specs.declared.ops.BinaryOp.{BinaryOp}
use Rattle.uc_tree.specs.Names.{same_name}
use Rattle.uc_tree.specs.Expressions.{Expr, Number, Character, Truth, Name, Cin, Postfix, Unary, Chain, Assign, Link, Linked, Links, NoLinks, MoreLinks}
use Rattle.uc_tree.specs.Programs.{Constant}
use Rattle.uc_tree.specs.Constants.{value_in, link_value_in, chain_value_in, both, unary_value, binary_value, converted, constant_named, own_value, constant_value, value_of_name}
use Rattle.uc_layout.specs.Values.{value_from, value_at}
use Rattle.uc_layout.specs.ValueProgress.{Under, own_at, known, Sound, Reckoned}

pub record Below (f g : List ℕ → Option ℤ) : Type 0 where
  pub at : (name : List ℕ) → Under (f name) (g name)

pub under_same : (a : Option ℤ) → Under a a
under_same a = record { kept = λ z h. h }

pub under_none : (b : Option ℤ) → Under None b
under_none b = record { kept = λ z h. cc }

pub under_and : (a b c : Option ℤ) → Under a b → Under b c → Under a c
under_and a b c h k = record { kept = λ z e. k.kept z (h.kept z e) }

and_then_case : (a b : Option ℤ) (h k : ℤ → Option ℤ) → Under a b → ((x : ℤ) → Under (h x) (k x)) → (o : Option ℤ) → a ≡ o → Under (option_and_then h a) (option_and_then k b)
and_then_case a b h k u v None e = rw e (under_none (option_and_then k b))
and_then_case a b h k u v (Some x) e = let t : b ≡ Some x = u.kept x e in rw (e, t) (v x)

pub under_and_then : (a b : Option ℤ) (h k : ℤ → Option ℤ) → Under a b → ((x : ℤ) → Under (h x) (k x)) → Under (option_and_then h a) (option_and_then k b)
under_and_then a b h k u v = and_then_case a b h k u v a refl

under_both : (op : BinaryOp) (a b x y : Option ℤ) → Under a x → Under b y → Under (both op a b) (both op x y)
under_both op a b x y u v = under_and_then a x (λ i. option_and_then (λ j. binary_value op i j) b) (λ i. option_and_then (λ j. binary_value op i j) y) u (λ i. under_and_then b y (λ j. binary_value op i j) (λ j. binary_value op i j) v (λ j. under_same (binary_value op i j)))

mutual
  pub value_below : (e : Expr) (f g : List ℕ → Option ℤ) → Below f g → Under (value_in e f) (value_in e g)
  value_below (Number p n) f g h = under_same _
  value_below (Character p byte) f g h = under_same _
  value_below (Truth p b) f g h = under_same _
  value_below (Name p name) f g h = h.at name
  value_below (Cin p) f g h = under_same _
  value_below (Postfix p root parts) f g h = under_same _
  value_below (Unary p op operand) f g h = under_and_then (value_in operand f) (value_in operand g) (unary_value op) (unary_value op) (value_below operand f g h) (λ x. under_same (unary_value op x))
  value_below (Chain p first rest) f g h = chain_below rest (value_in first f) (value_in first g) f g (value_below first f g h) h
  value_below (Assign p sign op place value) f g h = under_same _

  pub link_below : (l : Link) (a b : Option ℤ) (f g : List ℕ → Option ℤ) → Under a b → Below f g → Under (link_value_in l a f) (link_value_in l b g)
  link_below (Linked sign op right) a b f g u h = under_both op a (value_in right f) b (value_in right g) u (value_below right f g h)

  pub chain_below : (ls : Links) (a b : Option ℤ) (f g : List ℕ → Option ℤ) → Under a b → Below f g → Under (chain_value_in ls a f) (chain_value_in ls b g)
  chain_below NoLinks a b f g u h = u
  chain_below (MoreLinks first rest) a b f g u h = chain_below rest (link_value_in first a f) (link_value_in first b g) f g (link_below first a b f g u h) h

map_case : (h : ℤ → ℤ) (a b : Option ℤ) → Under a b → (o : Option ℤ) → a ≡ o → Under (option_map h a) (option_map h b)
map_case h a b u None e = rw e (under_none (option_map h b))
map_case h a b u (Some x) e = let t : b ≡ Some x = u.kept x e in rw (e, t) (under_same (Some (h x)))

pub own_below : (c : Constant) (f g : List ℕ → Option ℤ) → Below f g → Under (own_value f c) (own_value g c)
own_below c f g h = map_case (converted c.base) (value_in c.value f) (value_in c.value g) (value_below c.value f g h) (value_in c.value f) refl

maybe_below : (o : Option Constant) (f g : List ℕ → Option ℤ) → Below f g → Under (option_and_then (own_value f) o) (option_and_then (own_value g) o)
maybe_below None f g h = under_same None
maybe_below (Some c) f g h = own_below c f g h

-- a constant that has a value so deep has it deeper

pub deeper : (k : ℕ) (cs : List Constant) → Below (constant_value k cs) (constant_value (suc k) cs)
unfolding constant_value
deeper zero cs = record { at = λ name. under_none _ }
deeper (suc k) cs = record { at = λ name. maybe_below (constant_named cs name) (constant_value k cs) (constant_value (suc k) cs) (deeper k cs) }

pub own_deeper : (k : ℕ) (cs : List Constant) (c : Constant) → Under (own_at k cs c) (own_at (suc k) cs c)
own_deeper zero cs c = under_none (own_at 1 cs c)
own_deeper (suc k) cs c = own_below c (constant_value k cs) (constant_value (suc k) cs) (deeper k cs)

-- what a sound table gives names is what constants have so deep

from_under : (cs all : List Constant) (i : ℕ) (vs : List (Option ℤ)) (k : ℕ) → ((j : ℕ) (c : Constant) → slice_get cs j ≡ Some c → Under (get_or vs (i + j) None) (own_at k all c)) → (name : List ℕ) → Under (value_from cs i vs name) (option_and_then (own_at k all) (constant_named cs name))
from_under [] all i vs k h name = under_none None
from_under (c ∷ cs) all i vs k h name =
    elim (same_name c.name name) as (λ b. Under (if b then get_or vs i None else value_from cs (i + 1) vs name) (option_and_then (own_at k all) (if b then Some c else constant_named cs name))) [
      | true ↦ (let e : i + 0 ≡ i = omega arith in rw e at (h 0 c refl))
      | false ↦ from_under cs all (i + 1) vs k (λ j d s. let e : i + suc j ≡ i + 1 + j = omega arith in rw e at (h (suc j) d s)) name
    ]

own_none : (all : List Constant) (o : Option Constant) → Under (option_and_then (own_at 0 all) o) None
own_none all None = under_same None
own_none all (Some c) = under_same None

depth_case : (k : ℕ) (all : List Constant) (name : List ℕ) → Under (option_and_then (own_at k all) (constant_named all name)) (constant_value k all name)
unfolding constant_value
depth_case zero all name = own_none all (constant_named all name)
depth_case (suc k) all name = under_same (option_and_then (own_value (constant_value k all)) (constant_named all name))

pub lookups_below : (cs : List Constant) (vs : List (Option ℤ)) → Sound cs vs → Below (value_at cs vs) (constant_value (known vs) cs)
lookups_below cs vs s = record { at = λ name. under_and _ _ _ (from_under cs cs 0 vs (known vs) (λ j c e. let z : 0 + j ≡ j = omega arith in rw z (s.at j c e)) name) (depth_case (known vs) cs name) }

-- what is reckoned by a sound table stands one deeper

pub reckoned_deeper : (cs : List Constant) (vs : List (Option ℤ)) (c : Constant) → Sound cs vs → Under (own_value (value_at cs vs) c) (own_at (suc (known vs)) cs c)
reckoned_deeper cs vs c s = own_below c (value_at cs vs) (constant_value (known vs) cs) (lookups_below cs vs s)

-- writing a value where none was

known_more : (vs : List (Option ℤ)) (i : ℕ) (z : ℤ) → i < length vs → get_or vs i None ≡ None → known (set vs i (Some z)) ≡ suc (known vs)
known_more [] i z h e = absurd (omega arith)
known_more (None ∷ vs) zero z h e = omega arith
known_more (Some x ∷ vs) zero z h e = cc
known_more (None ∷ vs) (suc i) z h e = known_more vs i z (omega arith) e
known_more (Some x ∷ vs) (suc i) z h e = omega (arith, known_more vs i z (omega arith) e)

pub known_fits : (vs : List (Option ℤ)) → known vs ≤ length vs
known_fits [] = omega arith
known_fits (None ∷ vs) = omega (arith, known_fits vs)
known_fits (Some z ∷ vs) = omega (arith, known_fits vs)

pub known_none : (n : ℕ) → known (replicate n None) ≡ 0
known_none zero = refl
known_none (suc n) = known_none n

sound_place : (cs : List Constant) (vs : List (Option ℤ)) (i : ℕ) (z : ℤ) → i < length vs → get_or vs i None ≡ None → Sound cs vs → ((c : Constant) → slice_get cs i ≡ Some c → own_value (value_at cs vs) c ≡ Some z) → (j : ℕ) (c : Constant) → slice_get cs j ≡ Some c → (j ≡ i) ⊎ (j ≢ i) → Under (get_or (set vs i (Some z)) j None) (own_at (suc (known vs)) cs c)
sound_place cs vs i z h e s own j c at (inl same) =
    let here : slice_get cs i ≡ Some c = ap (λ n. slice_get cs n) (sym same) ∙ at in
    let deep : own_at (suc (known vs)) cs c ≡ Some z = (reckoned_deeper cs vs c s).kept z (own c here) in
    let is : get_or (set vs i (Some z)) j None ≡ Some z = ap (λ n. get_or (set vs i (Some z)) n None) same ∙ get_or-set_same vs i (Some z) None h in
    rw (is, deep) (under_same (Some z))
sound_place cs vs i z h e s own j c at (inr other) =
    rw (get_or-set_other vs i j (Some z) None other) (under_and _ _ _ (s.at j c at) (own_deeper (known vs) cs c))

pub sound_more : (cs : List Constant) (vs : List (Option ℤ)) (i : ℕ) (z : ℤ) → i < length vs → get_or vs i None ≡ None → Sound cs vs → ((c : Constant) → slice_get cs i ≡ Some c → own_value (value_at cs vs) c ≡ Some z) → Sound cs (set vs i (Some z)) × (known vs < known (set vs i (Some z)))
sound_more cs vs i z h e s own = (record { at = λ j c at. rw (known_more vs i z h e) (sound_place cs vs i z h e s own j c at (cases_eq j i)) }, let m : known (set vs i (Some z)) ≡ suc (known vs) = known_more vs i z h e in omega arith)

-- a table in which all is reckoned

closed_from : (cs : List Constant) (i : ℕ) (vs : List (Option ℤ)) (f : List ℕ → Option ℤ) → ((j : ℕ) (c : Constant) → slice_get cs j ≡ Some c → Under (own_value f c) (get_or vs (i + j) None)) → (name : List ℕ) → Under (option_and_then (own_value f) (constant_named cs name)) (value_from cs i vs name)
closed_from [] i vs f h name = under_none None
closed_from (c ∷ cs) i vs f h name =
    elim (same_name c.name name) as (λ b. Under (option_and_then (own_value f) (if b then Some c else constant_named cs name)) (if b then get_or vs i None else value_from cs (i + 1) vs name)) [
      | true ↦ (let e : i + 0 ≡ i = omega arith in rw e at (h 0 c refl))
      | false ↦ closed_from cs (i + 1) vs f (λ j d s. let e : i + suc j ≡ i + 1 + j = omega arith in rw e at (h (suc j) d s)) name
    ]

all_below : (k : ℕ) (cs : List Constant) (t : List ℕ → Option ℤ) → ((name : List ℕ) → Under (option_and_then (own_value t) (constant_named cs name)) (t name)) → Below (constant_value k cs) t
unfolding constant_value
all_below zero cs t h = record { at = λ name. under_none _ }
all_below (suc k) cs t h = record { at = λ name. under_and _ _ _ (maybe_below (constant_named cs name) (constant_value k cs) t (all_below k cs t h)) (h name) }

more_below : (cs : List Constant) (k m : ℕ) → Below (constant_value k cs) (constant_value (m + k) cs)
more_below cs k zero = let e : 0 + k ≡ k = omega arith in rw e (record { at = λ name. under_same (constant_value k cs name) })
more_below cs k (suc m) = let e : suc m + k ≡ suc (m + k) = omega arith in rw e (record { at = λ name. under_and _ _ _ ((more_below cs k m).at name) ((deeper (m + k) cs).at name) })

both_under : (a b : Option ℤ) → Under a b → Under b a → a ≡ b
both_under None None u v = refl
both_under None (Some x) u v = v.kept x refl
both_under (Some x) b u v = sym (u.kept x refl)

slice_inside : (cs : List Constant) (j : ℕ) (c : Constant) → slice_get cs j ≡ Some c → j < length cs
slice_inside [] j c e = cc
slice_inside (d ∷ cs) zero c e = omega arith
slice_inside (d ∷ cs) (suc j) c e = omega (arith, slice_inside cs j c e)

pub all_values : (cs : List Constant) (vs : List (Option ℤ)) (n : ℕ) → length cs ≡ n → length vs ≡ n → Sound cs vs → Reckoned cs vs n → value_at cs vs ≡ value_of_name cs
all_values cs vs n l m s r =
    let fits : known vs ≤ length cs = omega (arith, known_fits vs) in
    let e : length cs - known vs + known vs ≡ length cs = omega arith in
    let up : Below (constant_value (known vs) cs) (constant_value (length cs) cs) = rw e at (more_below cs (known vs) (length cs - known vs)) in
    let down : Below (constant_value (length cs) cs) (value_at cs vs) = all_below (length cs) cs (value_at cs vs) (closed_from cs 0 vs (value_at cs vs) (λ j c at. let z : 0 + j ≡ j = omega arith in rw z (r.at j c (omega (arith, slice_inside cs j c at)) at))) in
    fun_ext (λ name. both_under (value_at cs vs name) (constant_value (length cs) cs name) (under_and _ _ _ ((lookups_below cs vs s).at name) (up.at name)) (down.at name))

-- what a step over one constant needs

pub at_map : {A B : Type 0} (f : A → B) (xs : List A) (i : ℕ) (x : A) (y : B) → i < length xs → x ≡ get_or xs i x → slice_get (map f xs) i ≡ Some y → y ≡ f x
at_map f [] i x y h e s = absurd (omega arith)
at_map f (a ∷ xs) zero x y h e s = let t : f a ≡ y = cc in sym t ∙ ap f (sym e)
at_map f (a ∷ xs) (suc i) x y h e s = at_map f xs i x y (omega arith) e s

settled_case : (cs : List Constant) (vs : List (Option ℤ)) (i : ℕ) (c : Constant) → Sound cs vs → slice_get cs i ≡ Some c → (o : Option ℤ) → get_or vs i None ≡ o → is_some o ≡ true → Under (own_value (value_at cs vs) c) (get_or vs i None)
settled_case cs vs i c s at None e h = cc
settled_case cs vs i c s at (Some y) e h = record {
  kept = λ z own.
      let deep : own_at (suc (known vs)) cs c ≡ Some z = (reckoned_deeper cs vs c s).kept z own in
      let old : own_at (suc (known vs)) cs c ≡ Some y = (own_deeper (known vs) cs c).kept y ((s.at i c at).kept y e) in
      e ∙ sym old ∙ deep;
}

pub settled : (cs : List Constant) (vs : List (Option ℤ)) (i : ℕ) (c : Constant) → Sound cs vs → slice_get cs i ≡ Some c → is_some (get_or vs i None) ≡ true → Under (own_value (value_at cs vs) c) (get_or vs i None)
settled cs vs i c s at h = settled_case cs vs i c s at (get_or vs i None) refl h

no_value : (o : Option ℤ) → is_some o ≡ false → o ≡ None
no_value None e = refl
no_value (Some z) e = cc

pub sound_set : (cs : List Constant) (vs : List (Option ℤ)) (i : ℕ) (o : Option ℤ) → i < length vs → is_some (get_or vs i None) ≡ false → Sound cs vs → ((c : Constant) → slice_get cs i ≡ Some c → own_value (value_at cs vs) c ≡ o) → is_none o ≡ false → Sound cs (set vs i o) × (known vs < known (set vs i o))
sound_set cs vs i None h e s own n = cc
sound_set cs vs i (Some z) h e s own n = sound_more cs vs i z h (no_value (get_or vs i None) e) s own

reckoned_case : (cs : List Constant) (vs : List (Option ℤ)) (i : ℕ) → Reckoned cs vs i → ((c : Constant) → slice_get cs i ≡ Some c → Under (own_value (value_at cs vs) c) (get_or vs i None)) → (j : ℕ) (c : Constant) → slice_get cs j ≡ Some c → j < i + 1 → (j ≡ i) ⊎ (j ≢ i) → Under (own_value (value_at cs vs) c) (get_or vs j None)
reckoned_case cs vs i r here j c at h (inl same) = rw same (here c (ap (λ n. slice_get cs n) (sym same) ∙ at))
reckoned_case cs vs i r here j c at h (inr other) = r.at j c (omega arith) at

pub reckoned_more : (cs : List Constant) (vs : List (Option ℤ)) (i : ℕ) → Reckoned cs vs i → ((c : Constant) → slice_get cs i ≡ Some c → Under (own_value (value_at cs vs) c) (get_or vs i None)) → Reckoned cs vs (i + 1)
reckoned_more cs vs i r here = record { at = λ j c h at. reckoned_case cs vs i r here j c at h (cases_eq j i) }
