-- The clause for each member, found clause by clause.
use Rattle.std.proofs.Common.{◌≡◌, ◌≢◌, ℕ, zero, suc, ◌<◌, ◌≤◌, ◌+◌, ◌==◌, T, eqb→eq, Bool, true, false, cond, List, [], ◌∷◌, ◌++◌, map, length, get_or, drop, refl, sym, ap, ◌∙◌, subst, append_assoc, slice_index_or, slice_set, get_or-set_same, get_or-set_other, inl, inr}
use Rattle.std.proofs.lemmas.Bool.{cases_eq}
use Rattle.std.proofs.lemmas.List.{at_drop_more, at_drop_all}
use Rattle.std.proofs.lemmas.List.FromFn.{fill_by_all}
use Rattle.uc_links.specs.Lists.{member_limit}
use Rattle.uc_tree.specs.SiteOffers.{has_bit, clause_for, or_0, offers_from}
use Rattle.uc_mutex.specs.Offers.{found_or, clauses_of}

pub other_test : (b : Bool) → (b ≡ true → ⊥) → b ≡ false
other_test true h = absurd (h refl)
other_test false h = refl

pub test_same : (m n : ℕ) → (m == n) ≡ true → m ≡ n
test_same m n t = eqb→eq m n (subst T (sym t) tt)

pub same_test : (m n : ℕ) → m ≡ n → (m == n) ≡ true
same_test m n e = ap (λ (k : ℕ). m == k) (sym e) ∙ itself m
  where
    itself : (k : ℕ) → (k == k) ≡ true
    itself k = search Rattle.std.proofs.Common.rules

abbrev pub listed : ℕ → List ℕ → List (ℕ × ℕ) → List (ℕ × ℕ)
listed clause ms rest = map (λ m. (clause, m)) ms ++ rest

-- a clause that was found is kept
pub kept : (f m : ℕ) (rest more : List (ℕ × ℕ)) → f ≢ 0 → found_or f rest m ≡ found_or f more m
kept f m rest more n =
    let no : (f == 0) ≡ false = other_test (f == 0) (λ t. n (test_same f 0 t)) in
    ap (λ (b : Bool). cond b (or_0 (clause_for rest m)) f) no ∙ sym (ap (λ (b : Bool). cond b (or_0 (clause_for more m)) f) no)

-- none is found yet
pub open_still : (m : ℕ) (rest : List (ℕ × ℕ)) → found_or 0 rest m ≡ or_0 (clause_for rest m)
open_still m rest = refl

-- the member x is listed next: the clause is noted there, unless one was found
pub noted : (f clause x : ℕ) (rest : List (ℕ × ℕ)) → 0 < clause → f ≡ 0 → found_or f ((clause, x) ∷ rest) x ≡ found_or clause rest x
noted f clause x rest lt e =
    let yes_x : (x == x) ≡ true = same_test x x refl in
    let no : (clause == 0) ≡ false = other_test (clause == 0) (λ t. let z = test_same clause 0 t in absurd (omega Rattle.std.proofs.Common.arith)) in
    ap (λ (k : ℕ). found_or k ((clause, x) ∷ rest) x) e ∙ ap (λ b. or_0 (cond b (Rattle.std.proofs.Common.Some clause) (clause_for rest x))) yes_x ∙ sym (ap (λ (b : Bool). cond b (or_0 (clause_for rest x)) clause) no)

-- another member
pub unlisted : (f clause x m : ℕ) (rest : List (ℕ × ℕ)) → x ≢ m → found_or f ((clause, x) ∷ rest) m ≡ found_or f rest m
unlisted f clause x m rest n =
    let no : (x == m) ≡ false = other_test (x == m) (λ t. n (test_same x m t)) in
    ap (λ b. cond (f == 0) (or_0 (cond b (Rattle.std.proofs.Common.Some clause) (clause_for rest m))) f) no

-- the next member that a clause lists
module _ (clause : ℕ) (ms : List ℕ) (at x : ℕ) (lt : at < length ms) (is : get_or ms at x ≡ x) (rest : List (ℕ × ℕ)) where
  next_listed : listed clause (drop at ms) rest ≡ (clause, x) ∷ listed clause (drop (at + 1) ms) rest
  next_listed = at_drop_more (λ (l : List ℕ). listed clause l rest) ms at x lt ∙ ap (λ (y : ℕ). (clause, y) ∷ listed clause (drop (at + 1) ms) rest) is

  -- where nothing was found for it, the clause is noted
  pub note_one : (found : List ℕ) (m : ℕ) → x < length found → 0 < clause → slice_index_or found x 0 ≡ 0 → found_or (slice_index_or found m 0) (listed clause (drop at ms) rest) m ≡ found_or (slice_index_or (slice_set found x clause) m 0) (listed clause (drop (at + 1) ms) rest) m
  note_one found m lx lc none =
      ap (λ (l : List (ℕ × ℕ)). found_or (slice_index_or found m 0) l m) next_listed ∙ elim (cases_eq m x) [
        | inl e ↦
            subst (λ (k : ℕ). found_or (slice_index_or found k 0) ((clause, x) ∷ listed clause (drop (at + 1) ms) rest) k ≡ found_or (slice_index_or (slice_set found x clause) k 0) (listed clause (drop (at + 1) ms) rest) k) (sym e)
            (noted (slice_index_or found x 0) clause x (listed clause (drop (at + 1) ms) rest) lc none ∙ ap (λ (f : ℕ). found_or f (listed clause (drop (at + 1) ms) rest) x) (sym (get_or-set_same found x clause 0 lx)))
        | inr n ↦
            unlisted (slice_index_or found m 0) clause x m (listed clause (drop (at + 1) ms) rest) (λ e. n (sym e))
            ∙ ap (λ (f : ℕ). found_or f (listed clause (drop (at + 1) ms) rest) m) (sym (get_or-set_other found x m clause 0 n))
      ]

  -- where a clause was found, it stays
  pub keep_one : (found : List ℕ) (m : ℕ) → slice_index_or found x 0 ≢ 0 → found_or (slice_index_or found m 0) (listed clause (drop at ms) rest) m ≡ found_or (slice_index_or found m 0) (listed clause (drop (at + 1) ms) rest) m
  keep_one found m some =
      ap (λ (l : List (ℕ × ℕ)). found_or (slice_index_or found m 0) l m) next_listed ∙ elim (cases_eq m x) [
        | inl e ↦ kept (slice_index_or found m 0) m ((clause, x) ∷ listed clause (drop (at + 1) ms) rest) (listed clause (drop (at + 1) ms) rest) (subst (λ (k : ℕ). slice_index_or found k 0 ≢ 0) (sym e) some)
        | inr n ↦ unlisted (slice_index_or found m 0) clause x m (listed clause (drop (at + 1) ms) rest) (λ e. n (sym e))
      ]

-- all are noted
pub all_listed : (clause : ℕ) (ms : List ℕ) (at : ℕ) → length ms ≤ at → (rest : List (ℕ × ℕ)) → listed clause (drop at ms) rest ≡ rest
all_listed clause ms at le rest = at_drop_all (λ (l : List ℕ). listed clause l rest) ms at le

-- ---- clause by clause
pub next_true : (at mask : ℕ) (cs : List (List ℕ)) (c : List ℕ) → at < length cs → c ≡ get_or cs at c → has_bit at mask ≡ true → offers_from at mask (drop at cs) ≡ listed (at + 1) c (offers_from (at + 1) mask (drop (at + 1) cs))
next_true at mask cs c lt is t =
    let later = offers_from (at + 1) mask (drop (at + 1) cs) in
    at_drop_more (offers_from at mask) cs at c lt
    ∙ ap (λ (b : Bool). cond b (map (λ m. (at + 1, m)) (get_or cs at c)) [] ++ later) t
    ∙ ap (λ (x : List ℕ). listed (at + 1) x later) (sym is)

pub next_false : (at mask : ℕ) (cs : List (List ℕ)) → at < length cs → has_bit at mask ≡ false → offers_from at mask (drop at cs) ≡ offers_from (at + 1) mask (drop (at + 1) cs)
next_false at mask cs lt t =
    at_drop_more (offers_from at mask) cs at [] lt
    ∙ ap (λ (b : Bool). cond b (map (λ m. (at + 1, m)) (get_or cs at [])) [] ++ offers_from (at + 1) mask (drop (at + 1) cs)) t

pub clauses_are : (found : List ℕ) (offers : List (ℕ × ℕ)) → length found ≡ member_limit → ((m : ℕ) → m < member_limit → or_0 (clause_for offers m) ≡ slice_index_or found m 0) → found ≡ clauses_of offers
unfolding clauses_of
clauses_are found offers all each = fill_by_all (λ m. or_0 (clause_for offers m)) found member_limit 0 all (λ m lt. sym (each m lt))

pub none_left : (f m : ℕ) → found_or f [] m ≡ f
none_left f m = elim (cases_eq f 0) [
  | inl e ↦ ap (λ (k : ℕ). found_or k [] m) e ∙ sym e
  | inr n ↦ ap (λ (b : Bool). cond b 0 f) (other_test (f == 0) (λ t. n (test_same f 0 t)))
]
