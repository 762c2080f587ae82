-- What is picked at the indices of a list.
use Rattle.std.proofs.Common.{◌≡◌, ℕ, zero, suc, ◌+◌, ◌-◌, List, [], ◌∷◌, ◌++◌, length, Bool, true, false, Option, Some, None, refl, sym, ◌∙◌, ap, add-one, append-nil}
use Rattle.std.specs.Prelude.{slice_get, option_to_list, option_map, nat_le, if◌then◌else◌, ◌||◌}
use Rattle.std.proofs.lemmas.Bool.{or_parts, or_from, and_right, false_from_ne_true, true≢false}
use Rattle.uc_tree.specs.declared.pos.Pos.{Pos}
use Rattle.uc_tree.specs.declared.token.Token.{Token}
use Rattle.uc_grammar.specs.Spell.{kind_of, kind_at}
use Rattle.uc_inherit.specs.ClassHeads.{is_virtual, is_head, first_place, is_head_before, is_in_base}
use Rattle.uc_inherit.specs.OpenedTokens.{picked, is_taken_out, left_at, tokens_left, name_of, base_name, base_noted, bases, place_behind, virtual_noted, virtuals}

-- one index more
pub one_more : {A : Type 0} (f : ℕ → Option A) (n : ℕ) (xs : List A) → xs ≡ picked f n → xs ++ option_to_list (f n) ≡ picked f (n + 1)
unfolding picked
one_more f n xs e = rw add-one (ap (λ ys. ys ++ option_to_list (f n)) e)

-- where it gives an element, and where it gives none
pub one_picked : {A : Type 0} (f : ℕ → Option A) (n : ℕ) (xs : List A) (x : A) → xs ≡ picked f n → f n ≡ Some x → xs ++ x ∷ [] ≡ picked f (n + 1)
one_picked f n xs x e is = ap (λ o. xs ++ option_to_list o) (sym is) ∙ one_more f n xs e

pub none_picked : {A : Type 0} (f : ℕ → Option A) (n : ℕ) (xs : List A) → xs ≡ picked f n → f n ≡ None → xs ≡ picked f (n + 1)
none_picked f n xs e is = sym (append-nil xs) ∙ ap (λ o. xs ++ option_to_list o) (sym is) ∙ one_more f n xs e

pub none_yet : {A : Type 0} (f : ℕ → Option A) (xs : List A) → xs ≡ [] → xs ≡ picked f 0
unfolding picked
none_yet f xs e = e

pub all_done : {A : Type 0} (f : ℕ → Option A) (n m : ℕ) (xs : List A) → xs ≡ picked f n → n ≡ m → xs ≡ picked f m
all_done f n m xs e same = e ∙ ap (picked f) same

-- what is picked has what each pick has
abbrev pub Each : {A : Type 0} → (A → Type 0) → List A → Type 0
Each P [] = Unit {0}
Each P (x ∷ xs) = P x × Each P xs

abbrev pub Picks : {A : Type 0} → (A → Type 0) → Option A → Type 0
Picks P None = Unit {0}
Picks P (Some x) = P x

both : {A : Type 0} (P : A → Type 0) (xs ys : List A) → Each P xs → Each P ys → Each P (xs ++ ys)
both P [] ys h g = g
both P (x ∷ xs) ys h g = (h.0, both P xs ys h.1 g)

one : {A : Type 0} (P : A → Type 0) (o : Option A) → Picks P o → Each P (option_to_list o)
one P None h = tt
one P (Some x) h = (h, tt)

each_picked : {A : Type 0} (P : A → Type 0) (f : ℕ → Option A) → ((i : ℕ) → Picks P (f i)) → (n : ℕ) → Each P (picked f n)
unfolding picked
each_picked P f h zero = tt
each_picked P f h (suc n) = both P (picked f n) (option_to_list (f n)) (each_picked P f h n) (one P (f n) (h n))

-- nothing is picked
pub nothing_picked : {A : Type 0} (f : ℕ → Option A) → ((i : ℕ) → f i ≡ None) → (n : ℕ) → picked f n ≡ []
unfolding picked
nothing_picked f h zero = refl
nothing_picked f h (suc n) = ap (λ xs. xs ++ option_to_list (f n)) (nothing_picked f h n) ∙ ap option_to_list (h n)

same_picked : {A : Type 0} (f g : ℕ → Option A) → ((i : ℕ) → f i ≡ g i) → (n : ℕ) → picked f n ≡ picked g n
unfolding picked
same_picked f g h zero = refl
same_picked f g h (suc n) = ap (λ xs. xs ++ option_to_list (f n)) (same_picked f g h n) ∙ ap (λ o. picked g n ++ option_to_list o) (h n)

-- all elements of a list are picked
first_picked : {A : Type 0} (x : A) (xs : List A) (n : ℕ) → picked (slice_get (x ∷ xs)) (suc n) ≡ x ∷ picked (slice_get xs) n
unfolding picked
first_picked x xs zero = refl
first_picked x xs (suc n) = ap (λ ys. ys ++ option_to_list (slice_get xs n)) (first_picked x xs n)

all_picked : {A : Type 0} (xs : List A) → picked (slice_get xs) (length xs) ≡ xs
unfolding picked
all_picked [] = refl
all_picked (x ∷ xs) = first_picked x xs (length xs) ∙ ap (λ ys. x ∷ ys) (all_picked xs)

-- What is left.

pub chosen : {A : Type 0} (b : Bool) (x y : A) → b ≡ true → (if b then x else y) ≡ x
chosen true x y e = refl
chosen false x y e = absurd (true≢false (sym e))

pub other : {A : Type 0} (b : Bool) (x y : A) → b ≡ false → (if b then x else y) ≡ y
other true x y e = absurd (true≢false e)
other false x y e = refl

picks_left : {A : Type 0} (P : A → Type 0) (b : Bool) (o : Option A) → (b ≡ false → Picks P o) → Picks P (if b then None else o)
picks_left P true o h = tt
picks_left P false o h = h refl

abbrev IsLeft : Token → Type 0
IsLeft t = is_virtual (Some t.kind) ≡ false

picks_kind : (o : Option Token) → is_virtual (kind_of o) ≡ false → Picks IsLeft o
picks_kind None e = tt
picks_kind (Some t) e = e

left_picks : (ts : List Token) (i : ℕ) → Picks IsLeft (left_at ts i)
unfolding left_at
left_picks ts i = picks_left IsLeft (is_taken_out ts i) (slice_get ts i) (λ e. picks_kind (slice_get ts i) (or_parts (is_virtual (kind_at ts i)) (is_in_base ts i) e).0)

each_at : (xs : List Token) (i : ℕ) → Each IsLeft xs → is_virtual (kind_of (slice_get xs i)) ≡ false
each_at [] i h = refl
each_at (x ∷ xs) zero h = h.0
each_at (x ∷ xs) (suc i) h = each_at xs i h.1

pub no_virtual : (ts : List Token) (i : ℕ) → is_virtual (kind_at (tokens_left ts) i) ≡ false
unfolding tokens_left
no_virtual ts i = each_at (picked (left_at ts) (length ts)) i (each_picked IsLeft (left_at ts) (left_picks ts) (length ts))

-- What the code picks, by its tests.

pub token_stays : (ts : List Token) (i : ℕ) (t : Token) → is_taken_out ts i ≡ false → slice_get ts i ≡ Some t → left_at ts i ≡ Some t
unfolding left_at
token_stays ts i t e is = other (is_taken_out ts i) None (slice_get ts i) e ∙ is

pub token_goes : (ts : List Token) (i : ℕ) → is_taken_out ts i ≡ true → left_at ts i ≡ None
unfolding left_at
token_goes ts i e = chosen (is_taken_out ts i) None (slice_get ts i) e

base_there : (ts : List Token) (k : ℕ) (n : List ℕ) → base_name ts k ≡ Some n → base_noted ts k ≡ Some (first_place ts k, n)
base_there ts k n is = ap (option_map (λ m. (first_place ts k, m))) is

pub base_copied : (ts : List Token) (k : ℕ) (n m : List ℕ) (p : Pos) → base_name ts k ≡ Some n → p ≡ first_place ts k → m ≡ n → base_noted ts k ≡ Some (p, m)
base_copied ts k n m p is place copy =
    let moved : Some (first_place ts k, n) ≡ Some (p, m) = λ i. Some (sym place i, sym copy i) in
    base_there ts k n is ∙ moved

pub base_missing : (ts : List Token) (k : ℕ) → base_name ts k ≡ None → base_noted ts k ≡ None
base_missing ts k is = ap (option_map (λ m. (first_place ts k, m))) is

pub virtual_there : (ts : List Token) (i : ℕ) → is_virtual (kind_at ts i) ≡ true → virtual_noted ts i ≡ Some (place_behind ts i)
unfolding virtual_noted
virtual_there ts i e = chosen (is_virtual (kind_at ts i)) (Some (place_behind ts i)) None e

pub virtual_missing : (ts : List Token) (i : ℕ) → is_virtual (kind_at ts i) ≡ false → virtual_noted ts i ≡ None
unfolding virtual_noted
virtual_missing ts i e = other (is_virtual (kind_at ts i)) (Some (place_behind ts i)) None e

-- Where nothing is to be taken out.

module _ (ts : List Token) (plain : (i : ℕ) → is_virtual (kind_at ts i) ≡ true → ⊥) (headless : (k : ℕ) → is_head ts k ≡ true → ⊥) where
  no_head : (i back : ℕ) → is_head_before ts i back ≡ false
  unfolding is_head_before
  no_head i back = and_right (nat_le back i) (is_head ts (i - back)) (false_from_ne_true (is_head ts (i - back)) (headless (i - back)))

  stays : (i : ℕ) → is_taken_out ts i ≡ false
  unfolding is_in_base
  stays i = or_from (is_virtual (kind_at ts i)) (is_in_base ts i) (false_from_ne_true (is_virtual (kind_at ts i)) (plain i))
      (or_from (is_head_before ts i 2 || is_head_before ts i 3) (is_head_before ts i 4) (or_from (is_head_before ts i 2) (is_head_before ts i 3) (no_head i 2) (no_head i 3)) (no_head i 4))

  pub left_as_it_is : tokens_left ts ≡ ts
  unfolding tokens_left left_at
  left_as_it_is = same_picked (left_at ts) (slice_get ts) (λ i. other (is_taken_out ts i) None (slice_get ts i) (stays i)) (length ts) ∙ all_picked ts

  pub no_bases : bases ts ≡ []
  unfolding bases base_name
  no_bases = nothing_picked (base_noted ts) (λ k. ap (λ o. option_map (λ n. (first_place ts k, n)) o) (other (is_head ts k) (name_of (kind_at ts (k + 4))) None (false_from_ne_true (is_head ts k) (headless k)))) (length ts)

  pub no_virtuals : virtuals ts ≡ []
  unfolding virtuals virtual_noted
  no_virtuals = nothing_picked (virtual_noted ts) (λ i. other (is_virtual (kind_at ts i)) (Some (place_behind ts i)) None (false_from_ne_true (is_virtual (kind_at ts i)) (plain i))) (length ts)
