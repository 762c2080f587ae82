-- How a filter changes when an entry is appended.
use Rattle.std.proofs.Common.{◌≡◌, Bool, true, false, ◌||◌, List, [], ◌∷◌, ◌++◌, Option, Some, None, refl, ap, ◌∙◌, append_assoc, append-nil}
use Rattle.std.specs.Prelude.{not}
use Rattle.std.specs.Option.{option_to_list}
use Rattle.std.specs.List.{filter, list_any}
use Rattle.std.proofs.lemmas.List.Folds.{list_any-append}
use Rattle.std.proofs.lemmas.List.Elements.{filter-append}
use Rattle.uc_acts.specs.Open.{still_open}

pub or_false : (b : Bool) → (b || false) ≡ b
or_false true = refl
or_false false = refl

pub any_push : {E : Type 0} (p : E → Bool) (xs : List E) (x : E) → list_any p (xs ++ x ∷ []) ≡ (list_any p xs || p x)
any_push p xs x = list_any-append p xs (x ∷ []) ∙ ap (λ b. list_any p xs || b) (or_false (p x))

both : {A : Type 0} (a : A) (u v : Bool) (p q : A → Bool) → p a ≡ u → q a ≡ v → filter (λ x. not (p x || q x)) (a ∷ []) ≡ filter (λ x. not (q x)) (filter (λ x. not (p x)) (a ∷ []))
both a true v p q e f = simp (e, f)
both a false true p q e f = simp (e, f)
both a false false p q e f = simp (e, f)

both_of : {A : Type 0} (o : Option A) (p q : A → Bool) → filter (λ x. not (p x || q x)) (option_to_list o) ≡ filter (λ x. not (q x)) (filter (λ x. not (p x)) (option_to_list o))
both_of None p q = refl
both_of (Some a) p q = both a (p a) (q a) p q refl refl

keep_all : {A : Type 0} (o : Option A) (p : A → Bool) → ((a : A) → p a ≡ true) → filter p (option_to_list o) ++ [] ≡ option_to_list o
keep_all None p h = refl
keep_all (Some a) p h = let e = h a in simp e

same_of : {A : Type 0} (o : Option A) (p q : A → Bool) → ((a : A) → p a ≡ q a) → filter p (option_to_list o) ≡ filter q (option_to_list o)
same_of None p q h = refl
same_of (Some a) p q h = let e = h a in simp e

-- the filter of a journal with one more entry
pub still_open_push : {E A : Type 0} (begins : E → Option A) (ends : E → A → Bool) (j : List E) (e : E) → still_open begins ends (j ++ e ∷ []) ≡ filter (λ a. not (ends e a)) (still_open begins ends j) ++ option_to_list (begins e)
still_open_push {A} begins ends [] e = keep_all {A = A} (begins e) (λ a. true) (λ a. refl)
still_open_push {A} begins ends (x ∷ j) e =
    let h = still_open_push begins ends j e in
    let head = same_of {A = A} (begins x) _ _ (λ a. ap not (any_push (λ y. ends y a) j e)) ∙ both_of (begins x) (λ a. list_any (λ y. ends y a) j) (λ a. ends e a) in
    simp (head, h, filter-append, append_assoc)

pub filter_true : {A : Type 0} (p : A → Bool) (xs : List A) → ((a : A) → p a ≡ true) → filter p xs ≡ xs
filter_true p [] h = refl
filter_true p (x ∷ xs) h = let e = h x in simp (e, filter_true p xs h)

module _ {E A : Type 0} (begins : E → Option A) (ends : E → A → Bool) (j : List E) (e : E) where
  -- an entry that neither begins nor ends anything
  pub still_open_silent : begins e ≡ None → ((a : A) → ends e a ≡ false) → still_open begins ends (j ++ e ∷ []) ≡ still_open begins ends j
  still_open_silent b n =
      still_open_push begins ends j e ∙ ap (λ o. filter (λ a. not (ends e a)) (still_open begins ends j) ++ option_to_list o) b ∙ append-nil _ ∙ filter_true _ _ (λ a. ap not (n a))

  -- an entry that begins a and ends nothing
  pub still_open_begins : (a : A) → begins e ≡ Some a → ((x : A) → ends e x ≡ false) → still_open begins ends (j ++ e ∷ []) ≡ still_open begins ends j ++ a ∷ []
  still_open_begins a b n =
      still_open_push begins ends j e ∙ ap (λ o. filter (λ a. not (ends e a)) (still_open begins ends j) ++ option_to_list o) b ∙ ap (λ l. l ++ a ∷ []) (filter_true _ _ (λ x. ap not (n x)))

  -- an entry that begins nothing
  pub still_open_ends : begins e ≡ None → still_open begins ends (j ++ e ∷ []) ≡ filter (λ a. not (ends e a)) (still_open begins ends j)
  still_open_ends b =
      still_open_push begins ends j e ∙ ap (λ o. filter (λ a. not (ends e a)) (still_open begins ends j) ++ option_to_list o) b ∙ append-nil _
