-- Objects that are pending: acts make them so when they make them, and make them so no more when they let their tasks begin.
use Rattle.std.proofs.Common.{◌≡◌, ℕ, ◌≤◌, ◌<◌, ◌++◌, ◌==◌, ◌⊎◌, inl, inr, ◌&&◌, ◌||◌, Bool, true, false, not, List, [], ◌∷◌, Option, Some, None, refl, ap, ◌∙◌}
use Rattle.std.specs.Prelude.{nat_lt, if◌then◌else◌}
use Rattle.std.specs.Option.{option_to_list}
use Rattle.std.specs.List.{filter, list_any}
use Rattle.std.proofs.lemmas.Bool.{eq-eqb, ltb-true, ltb-false}
use Rattle.std.proofs.lemmas.List.Elements.{filter-append}
use Rattle.std.proofs.lemmas.List.Folds.{list_any-append}
use Rattle.uc_entry.specs.declared.entry.Entry.{Entry}
use Rattle.uc_acts.specs.Open.{still_open}
use Rattle.uc_acts.specs.Journal.{Journal, entries_at}
use Rattle.uc_acts.specs.Known.{object_count, is_gone, is_gone_by, owned, owner}
use Rattle.uc_acts.proofs.OpenLemmas.{filter_true, still_open_begins}
use Rattle.uc_acts.specs.Queues.{is_nobody}
use Rattle.uc_tasked_laws.specs.TaskedRuns.{is_pending}

never : {E : Type 0} (xs : List E) → list_any (λ x. false) xs ≡ false
never [] = refl
never (x ∷ xs) = never xs

nobody_first : (xs ys : List ℕ) → is_nobody xs ≡ false → is_nobody (xs ++ ys) ≡ false
nobody_first [] ys h = absurd (cc)
nobody_first (x ∷ xs) ys h = refl

nobody_last : (xs : List ℕ) (t : ℕ) → is_nobody (xs ++ t ∷ []) ≡ false
nobody_last [] t = refl
nobody_last (x ∷ xs) t = refl

-- who is somebody's stays so
abbrev all_owned : List Entry → List ℕ
all_owned es = still_open (λ e. owned e.kind e) (λ e t. false) es

told_more : (o : Option ℕ) (xs ys : List ℕ) (es fs : List Entry) → (is_nobody xs ≡ false → is_nobody ys ≡ false) → is_nobody (filter (λ t. not (list_any (λ x. false) es)) (option_to_list o) ++ xs) ≡ false → is_nobody (filter (λ t. not (list_any (λ x. false) fs)) (option_to_list o) ++ ys) ≡ false
told_more None xs ys es fs f h = f h
told_more (Some t) xs ys es fs f h =
    let e : filter (λ t. not (list_any (λ x. false) fs)) (t ∷ []) ≡ t ∷ [] = filter_true (λ t. not (list_any (λ x. false) fs)) (t ∷ []) (λ a. ap not (never fs)) in
    ap (λ l. is_nobody (l ++ ys)) e

owned_more : (es fs : List Entry) → is_nobody (all_owned es) ≡ false → is_nobody (all_owned (es ++ fs)) ≡ false
owned_more [] fs h = absurd (cc)
owned_more (e ∷ es) fs h = told_more (owned e.kind e) (all_owned es) (all_owned (es ++ fs)) es (es ++ fs) (λ k. owned_more es fs k) h

pub owner_more : (o : ℕ) (j : Journal) (a : List Entry) → is_nobody (owner o j) ≡ false → is_nobody (owner o (j ++ a)) ≡ false
unfolding owner entries_at
owner_more o j a h =
    ap (λ l. is_nobody (all_owned l)) (filter-append (λ e. e.object == o) j a) ∙ owned_more (entries_at o j) (entries_at o a) h

or_true : (b c : Bool) → b ≡ true → (b || c) ≡ true
or_true true c h = refl
or_true false c h = absurd (cc)

gone_more : (o : ℕ) (j : Journal) (a : List Entry) → is_gone o j ≡ true → is_gone o (j ++ a) ≡ true
unfolding is_gone entries_at
gone_more o j a h =
    ap (list_any (λ e. is_gone_by e.kind)) (filter-append (λ e. e.object == o) j a) ∙ (list_any-append (λ e. is_gone_by e.kind) (entries_at o j) (entries_at o a) ∙ or_true (list_any (λ e. is_gone_by e.kind) (entries_at o j)) (list_any (λ e. is_gone_by e.kind) (entries_at o a)) h)

-- one that is not pending is not so behind an act either, but for what that makes

and_false : (b : Bool) → (b && false) ≡ false
and_false true = refl
and_false false = refl

lost : (b c : Bool) (n : Bool) → n ≡ false → (b && (n && c)) ≡ false
lost b c n h = ap (λ x. b && (x && c)) h ∙ and_false b

went : (b n g : Bool) → g ≡ true → (b && (n && not g)) ≡ false
went b n g h = ap (λ x. b && (n && not x)) h ∙ (ap (λ x. b && x) (and_false n) ∙ and_false b)

pub later : (j : Journal) (a : List Entry) (o : ℕ) → is_pending j o ≡ false → (is_pending (j ++ a) o ≡ false) ⊎ ((object_count j ≤ o) × (o < object_count (j ++ a)))
later j a o h = by (nat_lt o (object_count j)) refl (is_nobody (owner o j)) refl (is_gone o j) refl
  where
    new : object_count j ≤ o → (b : Bool) → nat_lt o (object_count (j ++ a)) ≡ b → (is_pending (j ++ a) o ≡ false) ⊎ ((object_count j ≤ o) × (o < object_count (j ++ a)))
    new le true e = inr (le, ltb-true o (object_count (j ++ a)) e)
    new le false e = inl (ap (λ b. b && (is_nobody (owner o (j ++ a)) && not (is_gone o (j ++ a)))) e)

    by : (b : Bool) → nat_lt o (object_count j) ≡ b → (n : Bool) → is_nobody (owner o j) ≡ n → (g : Bool) → is_gone o j ≡ g → (is_pending (j ++ a) o ≡ false) ⊎ ((object_count j ≤ o) × (o < object_count (j ++ a)))
    by false e n f g k = new (ltb-false o (object_count j) e) (nat_lt o (object_count (j ++ a))) refl
    by true e false f g k = inl (lost (nat_lt o (object_count (j ++ a))) (not (is_gone o (j ++ a))) (is_nobody (owner o (j ++ a))) (owner_more o j a f))
    by true e true f true k = inl (went (nat_lt o (object_count (j ++ a))) (is_nobody (owner o (j ++ a))) (is_gone o (j ++ a)) (gone_more o j a k))
    by true e true f false k =
        let x : is_pending j o ≡ true = ap (λ b. b && (is_nobody (owner o j) && not (is_gone o j))) e ∙ (ap (λ n. n && not (is_gone o j)) f ∙ ap not k) in
        absurd (cc)

-- who is of a task is not pending
pub not_pending : (j : Journal) (o : ℕ) → is_nobody (owner o j) ≡ false → is_pending j o ≡ false
not_pending j o h = lost (nat_lt o (object_count j)) (not (is_gone o j)) (is_nobody (owner o j)) h

-- so is whom an entry lets begin
pub spawned_by : (o : ℕ) (j : Journal) (e : Entry) (t : ℕ) → e.object ≡ o → owned e.kind e ≡ Some t → is_nobody (owner o (j ++ e ∷ [])) ≡ false
unfolding owner entries_at
spawned_by o j e t h k =
    let at : filter (λ e. e.object == o) (j ++ e ∷ []) ≡ entries_at o j ++ e ∷ [] = filter-append (λ e. e.object == o) j (e ∷ []) ∙ ap (λ l. entries_at o j ++ l) (kept (e.object == o) (self e.object o h)) in
    ap (λ l. is_nobody (all_owned l)) at ∙ (ap is_nobody (still_open_begins (λ e. owned e.kind e) (λ e t. false) (entries_at o j) e t k (λ x. refl)) ∙ nobody_last (all_owned (entries_at o j)) t)
  where
    self : (a b : ℕ) → a ≡ b → (a == b) ≡ true
    self a b h = eq-eqb a b h

    kept : (b : Bool) → b ≡ true → (if b then e ∷ [] else []) ≡ e ∷ []
    kept true h = refl
    kept false h = absurd (cc)
