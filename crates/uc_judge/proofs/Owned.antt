-- Own objects, owners and ticks with one entry more.
use Rattle.std.proofs.Common.{◌≡◌, ℕ, ◌+◌, ◌-◌, ◌==◌, Bool, true, false, cond, not, List, [], ◌∷◌, ◌++◌, Option, Some, None, refl, sym, ap, ◌∙◌, arith, append-nil, ◌⊎◌, inl, inr}
use Rattle.std.specs.Prelude.{unwrap_or, ◌≢◌}
use Rattle.std.specs.Option.{option_to_list}
use Rattle.std.specs.List.{filter, sum_by}
use Rattle.std.proofs.lemmas.Bool.{eq-eqb, ne_eqb, cases_eq}
use Rattle.std.proofs.lemmas.Int.{ints}
use Rattle.std.proofs.lemmas.List.Sums.{sum_by-append}
use Rattle.uc_entry.specs.declared.entry.Entry.{Entry}
use Rattle.uc_entry.specs.declared.entry.EntryKind.{EntryKind}
use Rattle.uc_entry.specs.declared.entry.EntryKind.TheVariants as kind
use Rattle.uc_entry.specs.declared.entry.Options.{Options}
use Rattle.uc_acts.specs.Fit.{AreOf, types_of, numbers_of}
use Rattle.uc_acts.specs.Answers.{first_of}
use Rattle.uc_acts.specs.Open.{still_open}
use Rattle.uc_acts.specs.Journal.{Journal, number, where_true, owns, first_or_0, entries_at}
use Rattle.uc_acts.specs.Queues.{used, spent, dispatches}
use Rattle.uc_acts.specs.Known.{owner, owned}
use Rattle.uc_acts.specs.Serves.{left}
use Rattle.uc_acts.proofs.OpenLemmas.{still_open_push, filter_true}
use Rattle.uc_acts.proofs.Seats.{at_push}
use Rattle.uc_judge.specs.Tasked.{home_of, told_for, first_told, left_behind, own_objects}

pub first_is : (xs : List ℕ) → unwrap_or (first_of xs) 0 ≡ first_or_0 xs
first_is [] = refl
first_is (x ∷ xs) = refl

first_more : (xs : List ℕ) (o : Option ℕ) → first_of (xs ++ option_to_list o) ≡ first_told (first_of xs) o
first_more [] None = refl
first_more [] (Some x) = refl
first_more (x ∷ xs) o = refl

told_none : (o : Option ℕ) → first_told o None ≡ o
told_none None = refl
told_none (Some n) = refl

pub flip : (a b : ℕ) → (a == b) ≡ (b == a)
flip a b = by (cases_eq a b)
  where
    by : ((a ≡ b) ⊎ (a ≢ b)) → (a == b) ≡ (b == a)
    by (inl e) = eq-eqb a b e ∙ sym (eq-eqb b a (sym e))
    by (inr n) = ne_eqb a b n ∙ sym (ne_eqb b a (λ e. n (sym e)))

abbrev pub swapped : Option (ℕ × ℕ) → Option (ℕ × ℕ)
swapped None = None
swapped (Some p) = Some (p.1, p.0)

own_push : (t : ℕ) (j : Journal) (e : Entry) → first_of (own_objects t (j ++ e ∷ [])) ≡ first_told (first_of (own_objects t j)) (owns t e.kind e)
own_push t j e =
    ap first_of (still_open_push (λ e. owns t e.kind e) (λ e o. false) j e ∙ ap (λ l. l ++ option_to_list (owns t e.kind e)) (filter_true (λ o. true) (own_objects t j) (λ o. refl))) ∙ first_more (own_objects t j) (owns t e.kind e)

own_told : (t : ℕ) (k : EntryKind) (e : Entry) → told_for t (home_of k e) ≡ owns t k e
own_told t kind.Begin e = ap (λ b. where_true b 0) (flip 0 t)
own_told t kind.Spawn e = ap (λ b. where_true b e.object) (flip (number e.a) t)
own_told t k e = refl

-- the first object of a task
pub own_more : (t : ℕ) (j : Journal) (e : Entry) (new old : Option ℕ) → new ≡ first_told old (told_for t (home_of e.kind e)) → old ≡ first_of (own_objects t j) → new ≡ first_of (own_objects t (j ++ e ∷ []))
own_more t j e new old h f = h ∙ ap (λ x. first_told x (told_for t (home_of e.kind e))) f ∙ ap (first_told (first_of (own_objects t j))) (own_told t e.kind e) ∙ sym (own_push t j e)

owner_push : (o : ℕ) (j : Journal) (e : Entry) (b : Bool) → (e.object == o) ≡ b → first_of (owner o (j ++ e ∷ [])) ≡ first_told (first_of (owner o j)) (cond b (owned e.kind e) None)
unfolding owner
owner_push o j e true h =
    ap (λ l. first_of (still_open (λ e. owned e.kind e) (λ e t. false) l)) (at_push o j e true h)
    ∙ ap first_of (still_open_push (λ e. owned e.kind e) (λ e t. false) (entries_at o j) e ∙ ap (λ l. l ++ option_to_list (owned e.kind e)) (filter_true (λ t. true) (owner o j) (λ t. refl))) ∙ first_more (owner o j) (owned e.kind e)
owner_push o j e false h =
    ap (λ l. first_of (still_open (λ e. owned e.kind e) (λ e t. false) l)) (at_push o j e false h ∙ append-nil (entries_at o j)) ∙ sym (told_none (first_of (owner o j)))

owner_told : (o : ℕ) (k : EntryKind) (e : Entry) → AreOf (types_of k) (numbers_of e) → told_for o (swapped (home_of k e)) ≡ cond (e.object == o) (owned k e) None
owner_told o kind.Begin e h =
    let low = h.1.1.1.0 in
    let zero_ : e.object ≡ 0 = omega (arith, ints, low.1) in
    by (0 == o) ∙ ap (λ x. cond (x == o) (Some 0) None) (sym zero_)
  where
    by : (b : Bool) → where_true {A = ℕ} b 0 ≡ cond b (Some 0) None
    by true = refl
    by false = refl
owner_told o kind.Spawn e h = by (e.object == o)
  where
    by : (b : Bool) → where_true b (number e.a) ≡ cond b (Some (number e.a)) None
    by true = refl
    by false = refl
owner_told o k e h = sym (by (e.object == o))
  where
    by : (b : Bool) → cond {A = Option ℕ} b None None ≡ None
    by true = refl
    by false = refl

-- the first task of an object
pub owner_more : (o : ℕ) (j : Journal) (e : Entry) (new old : Option ℕ) → AreOf (types_of e.kind) (numbers_of e) → new ≡ first_told old (told_for o (swapped (home_of e.kind e))) → old ≡ first_of (owner o j) → new ≡ first_of (owner o (j ++ e ∷ []))
owner_more o j e new old fit h f = h ∙ ap (λ x. first_told x (told_for o (swapped (home_of e.kind e)))) f ∙ ap (first_told (first_of (owner o j))) (owner_told o e.kind e fit) ∙ sym (owner_push o j e (e.object == o) refl)

-- where an entry tells of a home, and where it does not
pub in_some : (old new : ℕ → Option ℕ) (p : ℕ × ℕ) (home : Option (ℕ × ℕ)) (k : ℕ) → new k ≡ first_told (old k) (told_for k (Some p)) → home ≡ Some p → new k ≡ first_told (old k) (told_for k home)
in_some old new p home k h e = h ∙ ap (λ x. first_told (old k) (told_for k x)) (sym e)

pub in_some_swapped : (old new : ℕ → Option ℕ) (p : ℕ × ℕ) (home : Option (ℕ × ℕ)) (k : ℕ) → new k ≡ first_told (old k) (told_for k (Some (p.1, p.0))) → home ≡ Some p → new k ≡ first_told (old k) (told_for k (swapped home))
in_some_swapped old new p home k h e =
    h ∙ ap (λ x. first_told (old k) (told_for k (swapped x))) (sym e)

pub in_none : (old : ℕ → Option ℕ) (home : Option (ℕ × ℕ)) (k : ℕ) → home ≡ None → old k ≡ first_told (old k) (told_for k home)
in_none old home k e = sym (told_none (old k)) ∙ ap (λ x. first_told (old k) (told_for k x)) (sym e)

pub in_none_swapped : (old : ℕ → Option ℕ) (home : Option (ℕ × ℕ)) (k : ℕ) → home ≡ None → old k ≡ first_told (old k) (told_for k (swapped home))
in_none_swapped old home k e =
    sym (told_none (old k)) ∙ ap (λ x. first_told (old k) (told_for k (swapped x))) (sym e)

-- ticks

none_kept : (xs : List ℕ) → filter (λ x. false) xs ≡ []
none_kept [] = refl
none_kept (x ∷ xs) = none_kept xs

used_push : (t : ℕ) (j : Journal) (e : Entry) (d m : Bool) → dispatches e.kind e t ≡ d → (e.task == t) ≡ m → used t (j ++ e ∷ []) ≡ cond d 0 (used t j) + cond m e.ticks 0
unfolding used
used_push t j e d m h g =
    ap (sum_by (λ k. k)) (still_open_push (spent t) (λ e x. dispatches e.kind e t) j e ∙ ap (λ b. filter (λ x. not b) (still_open (spent t) (λ e x. dispatches e.kind e t) j) ++ option_to_list (spent t e)) h ∙ ap (λ b. filter (λ x. not d) (still_open (spent t) (λ e x. dispatches e.kind e t) j) ++ option_to_list (where_true b e.ticks)) g)
    ∙ sum_by-append (λ k. k) (filter (λ x. not d) (still_open (spent t) (λ e x. dispatches e.kind e t) j)) (option_to_list (where_true m e.ticks))
    ∙ ap (λ n. n + sum_by (λ k. k) (option_to_list (where_true m e.ticks))) (kept d (still_open (spent t) (λ e x. dispatches e.kind e t) j))
    ∙ ap (λ n. cond d 0 (sum_by (λ k. k) (still_open (spent t) (λ e x. dispatches e.kind e t) j)) + n) (mine m)
  where
    kept : (d : Bool) (xs : List ℕ) → sum_by (λ k. k) (filter (λ x. not d) xs) ≡ cond d 0 (sum_by (λ k. k) xs)
    kept true xs = ap (sum_by (λ k. k)) (none_kept xs)
    kept false xs = ap (sum_by (λ k. k)) (filter_true (λ x. true) xs (λ x. refl))

    mine : (m : Bool) → sum_by (λ k. k) (option_to_list (where_true m e.ticks)) ≡ cond m e.ticks 0
    mine true = omega arith
    mine false = refl

no_dispatch : (t : ℕ) (k : EntryKind) (e : Entry) → (e.task == t) ≡ false → dispatches k e t ≡ false
no_dispatch t kind.Dispatch e h = flip t e.task ∙ h
no_dispatch t k e h = refl

pub left_more : (opts : Options) (t : ℕ) (j : Journal) (e : Entry) (slice new old : ℕ) → slice ≡ opts.slice → new ≡ left_behind slice e t old → old ≡ left opts j t → new ≡ left opts (j ++ e ∷ []) t
left_more opts t j e slice new old s h f = by (e.task == t) refl (dispatches e.kind e t) refl
  where
    by : (m : Bool) → (e.task == t) ≡ m → (d : Bool) → dispatches e.kind e t ≡ d → new ≡ left opts (j ++ e ∷ []) t
    by true g d k =
        let u = used_push t j e d true k g in
        let is : new ≡ cond d slice old - e.ticks = h ∙ ap (λ b. cond b (cond (dispatches e.kind e t) slice old - e.ticks) old) g ∙ ap (λ b. cond b slice old - e.ticks) k in
        split d u is
      where
        split : (d : Bool) → used t (j ++ e ∷ []) ≡ cond d 0 (used t j) + e.ticks → new ≡ cond d slice old - e.ticks → new ≡ opts.slice - used t (j ++ e ∷ [])
        split true u is = omega (arith, u, is, s)
        split false u is = omega (arith, u, is, f)
    by false g d k =
        let u = used_push t j e false false (no_dispatch t e.kind e g) g in
        let is : new ≡ old = h ∙ ap (λ b. cond b (cond (dispatches e.kind e t) slice old - e.ticks) old) g in
        omega (arith, u, is, f)
