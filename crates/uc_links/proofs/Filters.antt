-- Filters, and lists whose elements differ since they are of two kinds.
use Rattle.std.proofs.Common.{◌≡◌, ℕ, List, [], ◌∷◌, ◌++◌, Bool, true, false, cond, refl, sym, ◌∙◌, subst}
use Rattle.std.specs.List.{AllByRecursion, filter}
use Rattle.uc_links.specs.Chain.{Avoids}

pub all_every : {X : Type 0} (P : X → Type 0) → ((x : X) → P x) → (xs : List X) → AllByRecursion P xs
all_every P f [] = tt
all_every P f (x ∷ xs) = (f x, all_every P f xs)

pub all_and : {X : Type 0} (P Q R : X → Type 0) → ((x : X) → P x → Q x → R x) → (xs : List X) → AllByRecursion P xs → AllByRecursion Q xs → AllByRecursion R xs
all_and P Q R f [] g h = tt
all_and P Q R f (x ∷ xs) g h = (f x g.0 h.0, all_and P Q R f xs g.1 h.1)

-- elements of two kinds differ
pub differ : (P Q : ℕ → Type 0) → ((i : ℕ) → P i → Q i → ⊥) → (xs ys : List ℕ) → AllByRecursion P xs → AllByRecursion Q ys → AllByRecursion (λ j. Avoids j xs) ys
differ P Q nope xs [] g h = tt
differ P Q nope xs (y ∷ ys) g h = (one xs g, differ P Q nope xs ys g h.1)
  where
    one : (zs : List ℕ) → AllByRecursion P zs → Avoids y zs
    one [] k = tt
    one (z ∷ zs) k = (λ e. nope z k.0 (subst Q (sym e) h.0), one zs k.1)

filter_head : (b : Bool) (x : ℕ) (xs ys : List ℕ) → cond b (x ∷ (xs ++ ys)) (xs ++ ys) ≡ cond b (x ∷ xs) xs ++ ys
filter_head true x xs ys = refl
filter_head false x xs ys = refl

pub filter_append : (f : ℕ → Bool) (xs ys : List ℕ) → filter f (xs ++ ys) ≡ filter f xs ++ filter f ys
filter_append f [] ys = refl
filter_append f (x ∷ xs) ys = (λ z. cond (f x) (x ∷ filter_append f xs ys z) (filter_append f xs ys z)) ∙ filter_head (f x) x (filter f xs) (filter f ys)

pub filter_same : (f g : ℕ → Bool) (xs : List ℕ) → AllByRecursion (λ i. f i ≡ g i) xs → filter f xs ≡ filter g xs
filter_same f g [] h = refl
filter_same f g (x ∷ xs) h = λ z. cond (h.0 z) (x ∷ filter_same f g xs h.1 z) (filter_same f g xs h.1 z)

kept_all : (b : Bool) (P : ℕ → Type 0) (x : ℕ) (xs : List ℕ) → (b ≡ true → P x) → AllByRecursion P xs → AllByRecursion P (cond b (x ∷ xs) xs)
kept_all true P x xs p h = (p refl, h)
kept_all false P x xs p h = h

pub filter_all : (f : ℕ → Bool) (P : ℕ → Type 0) (xs : List ℕ) → AllByRecursion P xs → AllByRecursion P (filter f xs)
filter_all f P [] h = tt
filter_all f P (x ∷ xs) h = kept_all (f x) P x (filter f xs) (λ e. h.0) (filter_all f P xs h.1)

pub filter_true : (f : ℕ → Bool) (xs : List ℕ) → AllByRecursion (λ i. f i ≡ true) (filter f xs)
filter_true f [] = tt
filter_true f (x ∷ xs) = kept_all (f x) (λ i. f i ≡ true) x (filter f xs) (λ e. e) (filter_true f xs)
