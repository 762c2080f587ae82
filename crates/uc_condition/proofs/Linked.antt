-- One task more in a bucket, and one less.
use Rattle.std.proofs.Common.{◌≡◌, ◌≢◌, ℕ, zero, suc, ◌<◌, ◌≤◌, List, [], ◌∷◌, ◌++◌, map, length, refl, sym, ap, ◌∙◌, subst, inl, inr, arith, slice_set, length-set, get_or-set_same, get_or-set_other}
use Rattle.std.specs.List.{AllByRecursion, remove}
use Rattle.std.proofs.lemmas.Bool.{cases_eq}
use Rattle.uc_condition.specs.declared.buckets.WaitRow.{WaitRow}
use Rattle.uc_condition.specs.declared.buckets.Bucket.{Bucket}
use Rattle.uc_condition.specs.Waiting.{Wait, IsApart, place}
use Rattle.uc_condition.specs.Buckets.{no_row, row_at, tasks_from, task_behind, tasks_in, wait_of, waits_in, IsPlaced, last_or, IsBucket, with_next}

-- ---- lists whose elements all have a property
pub all_more : (P Q : ℕ → Type 0) → ((x : ℕ) → P x → Q x) → (xs : List ℕ) → AllByRecursion P xs → AllByRecursion Q xs
all_more P Q f [] h = tt
all_more P Q f (x ∷ xs) h = (f x h.0, all_more P Q f xs h.1)

pub all_both : (P Q : ℕ → Type 0) → (xs : List ℕ) → AllByRecursion P xs → AllByRecursion Q xs → AllByRecursion (λ x. P x × Q x) xs
all_both P Q [] h k = tt
all_both P Q (x ∷ xs) h k = ((h.0, k.0), all_both P Q xs h.1 k.1)

pub all_push : (P : ℕ → Type 0) (xs : List ℕ) (x : ℕ) → AllByRecursion P xs → P x → AllByRecursion P (xs ++ x ∷ [])
all_push P [] x h p = (p, tt)
all_push P (y ∷ ys) x h p = (h.0, all_push P ys x h.1 p)

pub all_last : (P : ℕ → Type 0) (x : ℕ) (xs : List ℕ) → P x → AllByRecursion P xs → P (last_or x xs)
all_last P x [] p h = p
all_last P x (y ∷ ys) p h = all_last P y ys h.0 h.1

pub all_removed : (P : ℕ → Type 0) (xs : List ℕ) (k : ℕ) → AllByRecursion P xs → AllByRecursion P (remove xs k)
all_removed P [] zero h = tt
all_removed P [] (suc k) h = tt
all_removed P (x ∷ xs) zero h = h.1
all_removed P (x ∷ xs) (suc k) h = (h.0, all_removed P xs k h.1)

pub apart_push : (q : List ℕ) (t : ℕ) → IsApart q → AllByRecursion (λ u. u ≢ t) q → IsApart (q ++ t ∷ [])
apart_push [] t a n = (tt, tt)
apart_push (x ∷ q) t a n = (all_push (λ u. u ≢ x) q t a.0 (λ e. n.0 (sym e)), apart_push q t a.1 n.1)

pub apart_removed : (xs : List ℕ) (k : ℕ) → IsApart xs → IsApart (remove xs k)
apart_removed [] zero h = tt
apart_removed [] (suc k) h = tt
apart_removed (x ∷ xs) zero h = h.1
apart_removed (x ∷ xs) (suc k) h = (all_removed (λ u. u ≢ x) xs k h.0, apart_removed xs k h.1)

pub last_push : (d : ℕ) (xs : List ℕ) (t : ℕ) → last_or d (xs ++ t ∷ []) ≡ t
last_push d [] t = refl
last_push d (x ∷ xs) t = last_push x xs t

-- ---- rows that are the same for the tasks of a bucket
abbrev pub Same : List WaitRow → List WaitRow → ℕ → Type 0
Same rows new t = row_at new t ≡ row_at rows t

pub same_from : (rows new : List WaitRow) (n t : ℕ) → AllByRecursion (Same rows new) (tasks_from rows n t) → tasks_from new n t ≡ tasks_from rows n t
same_from rows new zero t h = refl
same_from rows new (suc n) t h =
    ap (λ (r : WaitRow). t ∷ tasks_from new n r.next) h.0 ∙ ap (λ (l : List ℕ). t ∷ l) (same_from rows new n (row_at rows t).next h.1)

pub same_waits : (rows new : List WaitRow) (ts : List ℕ) → AllByRecursion (Same rows new) ts → map (wait_of new) ts ≡ map (wait_of rows) ts
same_waits rows new [] h = refl
same_waits rows new (t ∷ ts) h =
    ap (λ (r : WaitRow). (record { object = r.object; cond = r.cond; task = t; n = r.n }) ∷ map (wait_of new) ts) h.0 ∙ ap (λ (l : List Wait). wait_of rows t ∷ l) (same_waits rows new ts h.1)

pub same_placed : (rows new : List WaitRow) (i : ℕ) (ts : List ℕ) → length rows ≤ length new → AllByRecursion (Same rows new) ts → AllByRecursion (IsPlaced rows i) ts → AllByRecursion (IsPlaced new i) ts
same_placed rows new i [] le h p = tt
same_placed rows new i (t ∷ ts) le h p =
    let below = p.0.0 in
    ((omega (arith, below, le), ap (λ (r : WaitRow). place r.object r.cond) h.0 ∙ p.0.1), same_placed rows new i ts le h.1 p.1)

pub same_bucket : (rows new : List WaitRow) (i : ℕ) (b : Bucket) → length rows ≤ length new → AllByRecursion (Same rows new) (tasks_in rows b) → IsBucket rows i b → IsBucket new i b
same_bucket rows new i b le h is =
    let e = same_from rows new b.count b.first h in
    record {
      apart = subst IsApart (sym e) is.apart;
      placed = subst (AllByRecursion (IsPlaced new i)) (sym e) (same_placed rows new i (tasks_in rows b) le h is.placed);
      ends = subst (λ (l : List ℕ). last_or b.last l ≡ b.last) (sym e) is.ends;
    }

pub same_bucket_waits : (rows new : List WaitRow) (b : Bucket) → AllByRecursion (Same rows new) (tasks_in rows b) → waits_in new b ≡ waits_in rows b
same_bucket_waits rows new b h = ap (map (wait_of new)) (same_from rows new b.count b.first h) ∙ same_waits rows new (tasks_in rows b) h

-- ---- one row is written
pub set_here : (rows : List WaitRow) (t : ℕ) (r : WaitRow) → t < length rows → row_at (slice_set rows t r) t ≡ r
set_here rows t r lt = get_or-set_same rows t r no_row lt

pub set_off : (rows : List WaitRow) (t : ℕ) (r : WaitRow) (ts : List ℕ) → AllByRecursion (λ u. u ≢ t) ts → AllByRecursion (Same rows (slice_set rows t r)) ts
set_off rows t r ts h = all_more (λ u. u ≢ t) (Same rows (slice_set rows t r)) (λ u n. get_or-set_other rows t u r no_row n) ts h

pub next_fields : (rows : List WaitRow) (b u t : ℕ) → b < length rows → wait_of (with_next rows b u) t ≡ wait_of rows t
next_fields rows b u t lt = elim (cases_eq t b) [
  | inl at ↦ subst (λ (x : ℕ). wait_of (with_next rows b u) x ≡ wait_of rows x) (sym at)
      (ap (λ (r : WaitRow). (record { object = r.object; cond = r.cond; task = b; n = r.n })) (set_here rows b (record (row_at rows b) { next = u }) lt))
  | inr n ↦ ap (λ (r : WaitRow). (record { object = r.object; cond = r.cond; task = t; n = r.n })) (get_or-set_other rows b t (record (row_at rows b) { next = u }) no_row n)
]

pub next_waits : (rows : List WaitRow) (b u : ℕ) (ts : List ℕ) → b < length rows → map (wait_of (with_next rows b u)) ts ≡ map (wait_of rows) ts
next_waits rows b u [] lt = refl
next_waits rows b u (t ∷ ts) lt =
    ap (λ (w : Wait). w ∷ map (wait_of (with_next rows b u)) ts) (next_fields rows b u t lt) ∙ ap (λ (l : List Wait). wait_of rows t ∷ l) (next_waits rows b u ts lt)

next_placed_one : (rows : List WaitRow) (b u i t : ℕ) → b < length rows → IsPlaced rows i t → IsPlaced (with_next rows b u) i t
next_placed_one rows b u i t lt p = (
  subst (λ (n : ℕ). t < n) (sym (length-set rows b (record (row_at rows b) { next = u }))) p.0,
  ap (λ (w : Wait). place w.object w.cond) (next_fields rows b u t lt) ∙ p.1,
)

pub next_placed : (rows : List WaitRow) (b u i : ℕ) (ts : List ℕ) → b < length rows → AllByRecursion (IsPlaced rows i) ts → AllByRecursion (IsPlaced (with_next rows b u) i) ts
next_placed rows b u i ts lt h = all_more (IsPlaced rows i) (IsPlaced (with_next rows b u) i) (λ t p. next_placed_one rows b u i t lt p) ts h

-- ---- one more
-- the last of m + 1 tasks is followed by one more
pub more_from : (rows : List WaitRow) (m s l t : ℕ) → l < length rows → IsApart (tasks_from rows (suc m) s) → last_or s (tasks_from rows m (row_at rows s).next) ≡ l → tasks_from (with_next rows l t) (suc (suc m)) s ≡ tasks_from rows (suc m) s ++ t ∷ []
more_from rows zero s l t lt apart ends =
    let here = ap (λ (x : ℕ). (row_at (with_next rows l t) x).next) ends ∙ ap (λ (r : WaitRow). r.next) (set_here rows l (record (row_at rows l) { next = t }) lt) in
    ap (λ (x : ℕ). s ∷ x ∷ []) here
more_from rows (suc m) s l t lt apart ends =
    let u = (row_at rows s).next in
    let off : l ≢ s = subst (λ (x : ℕ). x ≢ s) ends (all_last (λ x. x ≢ s) u (tasks_from rows m (row_at rows u).next) apart.0.0 apart.0.1) in
    let same = ap (λ (r : WaitRow). r.next) (get_or-set_other rows l s (record (row_at rows l) { next = t }) no_row (λ e. off (sym e))) in
    ap (λ (x : ℕ). s ∷ tasks_from (with_next rows l t) (suc (suc m)) x) same ∙ ap (λ (q : List ℕ). s ∷ q) (more_from rows m u l t lt apart.1 ends)

-- ---- one less
next_off : (rows : List WaitRow) (b u n s : ℕ) → AllByRecursion (λ x. x ≢ b) (tasks_from rows n s) → tasks_from (with_next rows b u) n s ≡ tasks_from rows n s
next_off rows b u n s off = same_from rows (with_next rows b u) n s (set_off rows b (record (row_at rows b) { next = u }) (tasks_from rows n s) off)

pub at_behind : (P : ℕ → Type 0) (rows : List WaitRow) (n s k : ℕ) → k < n → AllByRecursion P (tasks_from rows n s) → P (task_behind rows k s)
at_behind P rows zero s k lt h = absurd (omega arith)
at_behind P rows (suc n) s zero lt h = h.0
at_behind P rows (suc n) s (suc k) lt h = at_behind P rows n (row_at rows s).next k (omega arith) h.1

pub behind_next : (rows : List WaitRow) (k s : ℕ) → (row_at rows (task_behind rows k s)).next ≡ task_behind rows (suc k) s
behind_next rows zero s = refl
behind_next rows (suc k) s = behind_next rows k (row_at rows s).next

-- the task at place j is followed by the one behind the next
pub less_from : (rows : List WaitRow) (n s j : ℕ) → suc j < suc n → task_behind rows j s < length rows → IsApart (tasks_from rows (suc n) s)
    → tasks_from (with_next rows (task_behind rows j s) (row_at rows (task_behind rows (suc j) s)).next) n s ≡ remove (tasks_from rows (suc n) s) (suc j)
less_from rows zero s j lt known apart = absurd (omega arith)
less_from rows (suc n) s zero lt known apart =
    let t = (row_at rows s).next in let u = (row_at rows t).next in
    let here = ap (λ (r : WaitRow). r.next) (set_here rows s (record (row_at rows s) { next = u }) known) in
    ap (λ (x : ℕ). s ∷ tasks_from (with_next rows s u) n x) here ∙ ap (λ (q : List ℕ). s ∷ q) (next_off rows s u n u apart.0.1)
less_from rows (suc n) s (suc j) lt known apart =
    let s' = (row_at rows s).next in
    let b = task_behind rows j s' in let u = (row_at rows (task_behind rows (suc j) s')).next in
    let off : b ≢ s = at_behind (λ x. x ≢ s) rows (suc n) s' j (omega arith) apart.0 in
    let same = ap (λ (r : WaitRow). r.next) (get_or-set_other rows b s (record (row_at rows b) { next = u }) no_row (λ e. off (sym e))) in
    ap (λ (x : ℕ). s ∷ tasks_from (with_next rows b u) n x) same ∙ ap (λ (q : List ℕ). s ∷ q) (less_from rows n s' j (omega arith) known apart.1)

-- the last of what is left
pub last_kept : (d : ℕ) (xs : List ℕ) (k : ℕ) → suc k < length xs → last_or d (remove xs k) ≡ last_or d xs
last_kept d [] k lt = absurd (omega arith)
last_kept d (x ∷ []) k lt = absurd (omega arith)
last_kept d (x ∷ y ∷ xs) zero lt = refl
last_kept d (x ∷ y ∷ xs) (suc k) lt = last_kept x (y ∷ xs) k (omega arith)

length_from : (rows : List WaitRow) (n s : ℕ) → length (tasks_from rows n s) ≡ n
length_from rows zero s = refl
length_from rows (suc n) s = ap suc (length_from rows n (row_at rows s).next)

pub tasks_length : (rows : List WaitRow) (b : Bucket) → length (tasks_in rows b) ≡ b.count
tasks_length rows b = length_from rows b.count b.first

-- the last of n tasks is taken out: the one before it is the last
pub last_before : (rows : List WaitRow) (d n s j : ℕ) → suc j ≡ n → last_or d (remove (tasks_from rows (suc n) s) (suc j)) ≡ task_behind rows j s
last_before rows d zero s j e = absurd (omega arith)
last_before rows d (suc zero) s zero e = refl
last_before rows d (suc (suc n)) s zero e = absurd (omega arith)
last_before rows d (suc n) s (suc j) e = last_before rows s n (row_at rows s).next j (omega arith)
