-- Nodes that are linked in an order: cut, joined, and linked anew at one node.
use Rattle.std.proofs.Common.{◌≡◌, ℕ, List, [], ◌∷◌, ◌++◌, Option, Some, refl, sym, ap, ◌∙◌}
use Rattle.std.specs.List.{AllByRecursion}
use Rattle.uc_links.specs.declared.chain.Link.{Link}
use Rattle.uc_links.specs.declared.chain.NodePtr.{NodePtr}
use Rattle.uc_links.specs.Chain.{first_or, last_or, IsSegment}

module _ {X : Type 0} (P : X → Type 0) where
  pub all_left : (xs ys : List X) → AllByRecursion P (xs ++ ys) → AllByRecursion P xs
  all_left [] ys h = tt
  all_left (x ∷ xs) ys h = (h.0, all_left xs ys h.1)

  pub all_right : (xs ys : List X) → AllByRecursion P (xs ++ ys) → AllByRecursion P ys
  all_right [] ys h = h
  all_right (x ∷ xs) ys h = all_right xs ys h.1

  pub all_both : (xs ys : List X) → AllByRecursion P xs → AllByRecursion P ys → AllByRecursion P (xs ++ ys)
  all_both [] ys g h = h
  all_both (x ∷ xs) ys g h = (g.0, all_both xs ys g.1 h)

pub all_more : {X : Type 0} (P Q : X → Type 0) → ((x : X) → P x → Q x) → (xs : List X) → AllByRecursion P xs → AllByRecursion Q xs
all_more P Q f [] h = tt
all_more P Q f (x ∷ xs) h = (f x h.0, all_more P Q f xs h.1)

-- the last of a list that is not empty
pub cut_last : {X : Type 0} (x : X) (xs : List X) → (us : List X) × (a : X) × (x ∷ xs ≡ us ++ a ∷ [])
cut_last x [] = ([], x, refl)
cut_last x (y ∷ xs) = let on = cut_last y xs in (x ∷ on.0, on.1, ap (λ l. x ∷ l) on.2)

module _ (ref : ℕ → NodePtr) where
  pub first_or-append : (xs ys : List ℕ) (n : Option NodePtr) → first_or ref (xs ++ ys) n ≡ first_or ref xs (first_or ref ys n)
  first_or-append [] ys n = refl
  first_or-append (x ∷ xs) ys n = refl

  pub first_or-push : (us : List ℕ) (a : ℕ) (n m : Option NodePtr) → first_or ref (us ++ a ∷ []) n ≡ first_or ref (us ++ a ∷ []) m
  first_or-push [] a n m = refl
  first_or-push (u ∷ us) a n m = refl

  pub last_or-append : (p : Option NodePtr) (xs ys : List ℕ) → last_or ref p (xs ++ ys) ≡ last_or ref (last_or ref p xs) ys
  last_or-append p [] ys = refl
  last_or-append p (x ∷ xs) ys = last_or-append (Some (ref x)) xs ys

  module _ (L : ℕ → Link) where
    pub joined : (p : Option NodePtr) (xs ys : List ℕ) (n : Option NodePtr) → IsSegment ref L p xs (first_or ref ys n) → IsSegment ref L (last_or ref p xs) ys n → IsSegment ref L p (xs ++ ys) n
    joined p [] ys n s t = t
    joined p (x ∷ xs) ys n s t = (s.0 ∙ ap (λ (f : Option NodePtr). record { prev = p; next = f }) (sym (first_or-append xs ys n)), joined (Some (ref x)) xs ys n s.1 t)

    pub left : (p : Option NodePtr) (xs ys : List ℕ) (n : Option NodePtr) → IsSegment ref L p (xs ++ ys) n → IsSegment ref L p xs (first_or ref ys n)
    left p [] ys n s = tt
    left p (x ∷ xs) ys n s = (s.0 ∙ ap (λ (f : Option NodePtr). record { prev = p; next = f }) (first_or-append xs ys n), left (Some (ref x)) xs ys n s.1)

    pub right : (p : Option NodePtr) (xs ys : List ℕ) (n : Option NodePtr) → IsSegment ref L p (xs ++ ys) n → IsSegment ref L (last_or ref p xs) ys n
    right p [] ys n s = s
    right p (x ∷ xs) ys n s = right (Some (ref x)) xs ys n s.1

  module _ (L L' : ℕ → Link) where
    abbrev pub Same : List ℕ → Type 0
    Same = AllByRecursion (λ i. L' i ≡ L i)

    pub kept : (p : Option NodePtr) (xs : List ℕ) (n : Option NodePtr) → Same xs → IsSegment ref L p xs n → IsSegment ref L' p xs n
    kept p [] n h s = tt
    kept p (x ∷ xs) n h s = (h.0 ∙ s.0, kept (Some (ref x)) xs n h.1 s.1)

    -- what comes after the last node changes
    pub next_set : (p : Option NodePtr) (us : List ℕ) (a : ℕ) (n m : Option NodePtr) → Same us → L' a ≡ record { prev = (L a).prev; next = m } → IsSegment ref L p (us ++ a ∷ []) n → IsSegment ref L' p (us ++ a ∷ []) m
    next_set p [] a n m h e s = (e ∙ ap (λ (l : Link). record { prev = l.prev; next = m }) s.0, tt)
    next_set p (u ∷ us) a n m h e s =
        (h.0 ∙ s.0 ∙ ap (λ (f : Option NodePtr). record { prev = p; next = f }) (first_or-push us a n m), next_set (Some (ref u)) us a n m h.1 e s.1)

    -- what comes before the first node changes
    pub prev_set : (p q : Option NodePtr) (b : ℕ) (ys : List ℕ) (n : Option NodePtr) → Same ys → L' b ≡ record { prev = q; next = (L b).next } → IsSegment ref L p (b ∷ ys) n → IsSegment ref L' q (b ∷ ys) n
    prev_set p q b ys n h e s = (e ∙ ap (λ (l : Link). record { prev = q; next = l.next }) s.0, kept (Some (ref b)) ys n h s.1)
