-- All seats are joined to the last one.
use Rattle.std.proofs.Common.{◌≡◌, ℕ, suc, List, [], ◌∷◌, ◌++◌, map, refl, ap, ◌∙◌, subst}
use Rattle.std.specs.List.{All}
use Rattle.std.proofs.lemmas.List.Elements.{All-nil, All-cons, All-append}
use mathlib.Core.Option.{some}
use lib.ListN.{get_elem?}
use Rattle.uc_lock.specs.declared.view.View.{View}
use Rattle.uc_lock.specs.declared.view.Joined.{Joined}
use Rattle.uc_lock.specs.Journals.{Begins, made_by}
use Rattle.uc_lock.specs.Rule.{kept_of, Ends}
use Rattle.uc_lock.proofs.Views.{all_head, all_tail}

module _ {A : Type 0} (P : A → Type 0) where
  -- what holds of all holds of the one at the seam, and of those before it
  pub all_seam : (xs : List A) (y : A) (ys : List A) → All P (xs ++ y ∷ ys) → P y
  all_seam [] y ys h = all_head P y ys h
  all_seam (x ∷ xs) y ys h = all_seam xs y ys (all_tail P x (xs ++ y ∷ ys) h)

  pub all_left : (xs ys : List A) → All P (xs ++ ys) → All P xs
  all_left [] ys h = All-nil P
  all_left (x ∷ xs) ys h = All-cons P x xs (all_head P x (xs ++ ys) h) (all_left xs ys (all_tail P x (xs ++ ys) h))

  pub all_mapped : {B : Type 0} (f : B → A) (xs : List B) → ((j : ℕ) (e : A) → get_elem? (map f xs) j ≡ some e → P e) → All (λ x. P (f x)) xs
  all_mapped f [] h = All-nil (λ x. P (f x))
  all_mapped f (x ∷ xs) h = All-cons (λ x. P (f x)) x xs (h 0 (f x) refl) (all_mapped f xs (λ j. h (suc j)))

-- what was kept of a seat fits the list
abbrev pub Fits : {I : Type 0} → List (I × ℕ) → Joined I → Type 0
Fits journal e = Begins e.seen journal × (made_by e.number journal ≡ e.own)

pub each_fits : {V K I S : Type 0} (key_of : V → K) (journal_of : V → List (I × ℕ)) (joined_of : S → Joined I) (x : V) (gone : List S) (last : S) (v : View K I)
    → v.joined ≡ map joined_of gone → kept_of v ≡ joined_of last → Ends key_of journal_of v x → All (λ s. Fits (journal_of x) (joined_of s)) (gone ++ last ∷ [])
each_fits {V} {K} {I} {S} key_of journal_of joined_of x gone last v is same e = let Knows : S → Type 0 = λ s. Fits (journal_of x) (joined_of s) in
    All-append Knows gone (last ∷ [])
    (all_mapped (Fits (journal_of x)) joined_of gone (λ j k h. e.1 j k (ap (λ l. get_elem? l j) is ∙ h)))
    (All-cons Knows last [] (subst (Fits (journal_of x)) same (e.0.begins, e.0.mine)) (All-nil Knows))
