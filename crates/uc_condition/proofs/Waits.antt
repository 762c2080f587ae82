-- What one wait more, and one less, does to the queues.
use Rattle.std.proofs.Common.{◌≡◌, ◌≢◌, ℕ, ℤ, zero, suc, ◌<◌, ◌≤◌, ◌+◌, ◌*◌, ◌==◌, ◌&&◌, ◌||◌, T, eqb→eq, Bool, true, false, cond, List, [], ◌∷◌, ◌++◌, map, length, take, drop, replicate, Some, refl, sym, ap, ◌∙◌, subst, ◌⊎◌, inl, inr, arith, add-one, rules, slice_index_or}
use Rattle.std.specs.List.{AllByRecursion, IsDistinct, list_any, filter, remove}
use Rattle.std.proofs.lemmas.Bool.{cases_eq}
use Rattle.std.proofs.lemmas.List.{drop_more, take-append-drop, map-append, length-map, get_or-map}
use Rattle.std.proofs.lemmas.List.Elements.{filter-append}
use Rattle.std.proofs.lemmas.Map.Steps.{length-le_from_distinct_below}
use Rattle.std.proofs.Math.ListN.{get_or-eq_default}
use lib.Dec.{eqb}
use Rattle.uc_condition.specs.declared.buckets.WaitRow.{WaitRow}
use Rattle.uc_condition.specs.declared.buckets.Bucket.{Bucket}
use Rattle.uc_condition.specs.declared.buckets.Found.{Found}
use Rattle.uc_condition.specs.Waiting.{Wait, place, put, first_number, rest_of, is_nobody, no_wait, is_at, with_number, queue_of, waits_at, all_at, IsApart, IsFirstAt}
use Rattle.uc_condition.specs.Buckets.{no_bucket, row_at, bucket_at, tasks_from, task_behind, tasks_in, wait_of, waits_in, all_waits, IsPlaced, IsFound}
use Rattle.uc_condition.proofs.Linked.{all_more, tasks_length}

-- ---- tests
test_same : (m n : ℕ) → (m == n) ≡ true → m ≡ n
test_same m n t = eqb→eq m n (subst T (sym t) tt)

same_test : (m : ℕ) → (m == m) ≡ true
same_test m = search rules

both : (a b : Bool) → (a && b) ≡ true → (a ≡ true) × (b ≡ true)
both true b h = (refl, h)
both false b h = absurd cc

joint : (a b : Bool) → a ≡ true → b ≡ true → (a && b) ≡ true
joint true b h k = k
joint false b h k = absurd cc

object_is : (o c : ℕ) (w : Wait) → is_at o c w ≡ true → w.object ≡ o
object_is o c w h = test_same w.object o (both (w.object == o) (w.cond == c) h).0

cond_is : (o c : ℕ) (w : Wait) → is_at o c w ≡ true → w.cond ≡ c
cond_is o c w h = test_same w.cond c (both (w.object == o) (w.cond == c) h).1

self_at : (w : Wait) → is_at w.object w.cond w ≡ true
self_at w = joint (w.object == w.object) (w.cond == w.cond) (same_test w.object) (same_test w.cond)

-- ---- one more
queue_more : (ws : List Wait) (x : Wait) (p d : ℕ) → queue_of (ws ++ x ∷ []) p d ≡ queue_of ws p d ++ map with_number (cond (is_at p d x) (x ∷ []) [])
queue_more ws x p d = ap (map with_number) (filter-append (is_at p d) ws (x ∷ [])) ∙ map-append with_number (filter (is_at p d) ws) (cond (is_at p d x) (x ∷ []) [])

more_case : (b : Bool) (q r : List (ℕ × ℤ)) (x : Wait) → (b ≡ true → q ≡ r) → q ++ map with_number (cond b (x ∷ []) []) ≡ cond b (r ++ with_number x ∷ []) q
more_case true q r x h = ap (λ (l : List (ℕ × ℤ)). l ++ with_number x ∷ []) (h refl)
more_case false q r x h = Rattle.std.proofs.lemmas.List.append-nil q

pub waits_more : (ws : List Wait) (o c t : ℕ) (n : ℤ) (p d : ℕ) → (let x : Wait = record { object = o; cond = c; task = t; n = n } in queue_of (ws ++ x ∷ []) p d ≡ put o c (queue_of ws o c ++ (t, n) ∷ []) (queue_of ws) p d)
waits_more ws o c t n p d =
    let x : Wait = record { object = o; cond = c; task = t; n = n } in
    queue_more ws x p d
    ∙ more_case ((o == p) && (c == d)) (queue_of ws p d) (queue_of ws o c) x
    (λ h. let e = both (o == p) (c == d) h in ap (λ (k : ℕ). queue_of ws k d) (sym (test_same o p e.0)) ∙ ap (queue_of ws o) (sym (test_same c d e.1)))

-- ---- one less
split : (ws : List Wait) (n : ℕ) → n < length ws → ws ≡ take n ws ++ slice_index_or ws n no_wait ∷ drop (n + 1) ws
split ws n lt = sym (take-append-drop n ws) ∙ ap (λ (l : List Wait). take n ws ++ l) (drop_more ws n no_wait lt)

removed : (ws : List Wait) (n : ℕ) → remove ws n ≡ take n ws ++ drop (n + 1) ws
removed ws n = ap (λ (k : ℕ). take n ws ++ drop k ws) (sym (add-one n))

kept_filter : (f : Wait → Bool) (us bs : List Wait) (x : Wait) → f x ≡ false → filter f (us ++ bs) ≡ filter f (us ++ x ∷ bs)
kept_filter f us bs x off =
    filter-append f us bs ∙ sym (filter-append f us (x ∷ bs) ∙ ap (λ (b : Bool). filter f us ++ cond b (x ∷ filter f bs) (filter f bs)) off)

module _ (ws : List Wait) (o c n : ℕ) (h : IsFirstAt o c ws n) where
  abbrev x : Wait
  x = slice_index_or ws n no_wait

  first_filter : filter (is_at o c) ws ≡ x ∷ filter (is_at o c) (drop (n + 1) ws)
  first_filter =
      ap (filter (is_at o c)) (split ws n h.within)
      ∙ filter-append (is_at o c) (take n ws) (x ∷ drop (n + 1) ws)
      ∙ ap (λ (l : List Wait). l ++ cond (is_at o c x) (x ∷ filter (is_at o c) (drop (n + 1) ws)) (filter (is_at o c) (drop (n + 1) ws))) h.before
      ∙ ap (λ (b : Bool). cond b (x ∷ filter (is_at o c) (drop (n + 1) ws)) (filter (is_at o c) (drop (n + 1) ws))) h.here

  rest_filter : filter (is_at o c) (remove ws n) ≡ filter (is_at o c) (drop (n + 1) ws)
  rest_filter =
      ap (filter (is_at o c)) (removed ws n)
      ∙ filter-append (is_at o c) (take n ws) (drop (n + 1) ws)
      ∙ ap (λ (l : List Wait). l ++ filter (is_at o c) (drop (n + 1) ws)) h.before

  pub first_queue : queue_of ws o c ≡ with_number x ∷ queue_of (drop (n + 1) ws) o c
  first_queue = ap (map with_number) first_filter

  rest_queue : queue_of (remove ws n) o c ≡ rest_of (queue_of ws o c)
  rest_queue = ap (map with_number) rest_filter ∙ ap rest_of (sym first_queue)

  less_case : (b : Bool) (p d : ℕ) → ((o == p) && (c == d)) ≡ b → queue_of (remove ws n) p d ≡ cond b (rest_of (queue_of ws o c)) (queue_of ws p d)
  less_case true p d e =
      let s = both (o == p) (c == d) e in
      ap (λ (k : ℕ). queue_of (remove ws n) k d) (sym (test_same o p s.0)) ∙ ap (queue_of (remove ws n) o) (sym (test_same c d s.1)) ∙ rest_queue
  less_case false p d e =
      let no : is_at p d x ≡ false = ap (λ (k : ℕ). (k == p) && (x.cond == d)) (object_is o c x h.here) ∙ ap (λ (k : ℕ). (o == p) && (k == d)) (cond_is o c x h.here) ∙ e in
      ap (map with_number) (ap (filter (is_at p d)) (removed ws n) ∙ kept_filter (is_at p d) (take n ws) (drop (n + 1) ws) x no ∙ ap (filter (is_at p d)) (sym (split ws n h.within)))

  pub waits_less : (p d : ℕ) → queue_of (remove ws n) p d ≡ put o c (rest_of (queue_of ws o c)) (queue_of ws) p d
  waits_less p d = less_case ((o == p) && (c == d)) p d refl

pub number_first : (ws : List Wait) (o c at : ℕ) (h : IsFirstAt o c ws at) (n : ℤ) → n ≡ (slice_index_or ws at no_wait).n → Some n ≡ first_number (queue_of ws o c)
number_first ws o c at h n is = ap (λ (z : ℤ). Some z) is ∙ ap first_number (sym (first_queue ws o c at h))

-- ---- nobody
same_case : (b : Bool) (q r : List (ℕ × ℤ)) → (b ≡ true → q ≡ r) → q ≡ cond b r q
same_case true q r h = h refl
same_case false q r h = refl

pub waits_same : (queue : ℕ → ℕ → List (ℕ × ℤ)) (o c : ℕ) → queue o c ≡ [] → (p d : ℕ) → queue p d ≡ put o c (rest_of (queue o c)) queue p d
waits_same queue o c none p d = same_case ((o == p) && (c == d)) (queue p d) (rest_of (queue o c)) (λ h.
    let e = both (o == p) (c == d) h in
    ap (λ (k : ℕ). queue k d) (sym (test_same o p e.0)) ∙ ap (queue o) (sym (test_same c d e.1)) ∙ none ∙ ap rest_of (sym none))

-- ---- the buckets
pub at_bucket : (rows : List WaitRow) (bs : List Bucket) (k : ℕ) → slice_index_or (all_waits rows bs) k [] ≡ waits_in rows (bucket_at bs k)
at_bucket rows bs k = Rattle.std.proofs.Math.ListN.get_or-map (waits_in rows) bs k no_bucket

pub at_tasks : (rows : List WaitRow) (n s k d : ℕ) → k < n → slice_index_or (tasks_from rows n s) k d ≡ task_behind rows k s
at_tasks rows zero s k d lt = absurd (omega arith)
at_tasks rows (suc n) s zero d lt = refl
at_tasks rows (suc n) s (suc k) d lt = at_tasks rows n (row_at rows s).next k d (omega arith)

pub wait_at : (rows : List WaitRow) (b : Bucket) (k : ℕ) → k < b.count → slice_index_or (waits_in rows b) k no_wait ≡ wait_of rows (task_behind rows k b.first)
wait_at rows b k lt =
    let n = tasks_length rows b in
    get_or-map (wait_of rows) (tasks_in rows b) k 0 no_wait (omega (arith, lt, n)) ∙ ap (wait_of rows) (at_tasks rows b.count b.first k 0 lt)

pub found_first : (rows : List WaitRow) (b : Bucket) (o c : ℕ) (f : Found) → IsFound rows b o c f → slice_index_or (waits_in rows b) f.at no_wait ≡ wait_of rows f.task
found_first rows b o c f h = wait_at rows b f.at h.within ∙ ap (wait_of rows) (sym h.task)

pub waits_length : (rows : List WaitRow) (b : Bucket) → length (waits_in rows b) ≡ b.count
waits_length rows b = length-map (tasks_in rows b) (wait_of rows) ∙ tasks_length rows b

pub is_first : (rows : List WaitRow) (b : Bucket) (o c : ℕ) (f : Found) → IsFound rows b o c f → IsFirstAt o c (waits_in rows b) f.at
is_first rows b o c f h =
    let lt = h.within in let n = waits_length rows b in
    record { within = omega (arith, lt, n); here = ap (is_at o c) (found_first rows b o c f h) ∙ h.here; before = h.older }

other_test : (b : Bool) → (b ≡ true → ⊥) → b ≡ false
other_test true h = absurd (h refl)
other_test false h = refl

abbrev pub queue_in : List (List Wait) → ℕ → ℕ → List (ℕ × ℤ)
queue_in bs o c = queue_of (slice_index_or bs (place o c) []) o c

put_case : (b : Bool) (q r s : List (ℕ × ℤ)) → r ≡ s → cond b q r ≡ cond b q s
put_case true q r s e = refl
put_case false q r s e = e

-- one bucket is changed, in the queue of one condition
pub put_in : (old new : List (List Wait)) (o c : ℕ) (q : List (ℕ × ℤ)) (ws : List Wait) → ((k : ℕ) → k ≢ place o c → slice_index_or new k [] ≡ slice_index_or old k []) → slice_index_or new (place o c) [] ≡ ws
    → ((p d : ℕ) → queue_of ws p d ≡ put o c q (queue_of (slice_index_or old (place o c) [])) p d) → (p d : ℕ) → queue_in new p d ≡ put o c q (queue_in old) p d
put_in old new o c q ws same here law p d = elim (cases_eq (place p d) (place o c)) [
  | inl e ↦
      ap (λ (k : ℕ). queue_of (slice_index_or new k []) p d) e
      ∙ ap (λ (l : List Wait). queue_of l p d) here
      ∙ law p d
      ∙ put_case ((o == p) && (c == d)) q (queue_of (slice_index_or old (place o c) []) p d) (queue_in old p d) (ap (λ (k : ℕ). queue_of (slice_index_or old k []) p d) (sym e))
  | inr n ↦
      ap (λ (l : List Wait). queue_of l p d) (same (place p d) n)
      ∙ sym (ap (λ (b : Bool). cond b q (queue_in old p d)) (other_test ((o == p) && (c == d)) (λ h. let e = both (o == p) (c == d) h in n (sym (ap (λ (k : ℕ). place k c) (test_same o p e.0) ∙ ap (place p) (test_same c d e.1))))))
]

-- ---- how many wait at an object
pub waits_at_more : (o : ℕ) (ws : List Wait) (w : Wait) → waits_at o (ws ++ w ∷ []) ≡ waits_at o ws + cond (w.object == o) 1 0
waits_at_more o [] w = omega arith
waits_at_more o (x ∷ ws) w = let ih = waits_at_more o ws w in omega (arith, ih)

pub waits_at_less : (o : ℕ) (ws : List Wait) (k : ℕ) → k < length ws → waits_at o (remove ws k) + cond ((slice_index_or ws k no_wait).object == o) 1 0 ≡ waits_at o ws
waits_at_less o [] k lt = absurd (omega arith)
waits_at_less o (x ∷ ws) zero lt = omega arith
waits_at_less o (x ∷ ws) (suc k) lt = let ih = waits_at_less o ws k (omega arith) in omega (arith, ih)

all_same : (o : ℕ) (xs ys : List (List Wait)) → length ys ≡ length xs → ((k : ℕ) → slice_index_or ys k [] ≡ slice_index_or xs k []) → all_at o ys ≡ all_at o xs
all_same o [] [] e h = refl
all_same o [] (y ∷ ys) e h = absurd (omega (arith, e))
all_same o (x ∷ xs) [] e h = absurd (omega (arith, e))
all_same o (x ∷ xs) (y ∷ ys) e h =
    let first = ap (waits_at o) (h 0) in let ih = all_same o xs ys (omega (arith, e)) (λ k. h (suc k)) in
    omega (arith, first, ih)

pub all_changed : (o : ℕ) (xs ys : List (List Wait)) (i : ℕ) → length ys ≡ length xs → i < length xs → ((k : ℕ) → k ≢ i → slice_index_or ys k [] ≡ slice_index_or xs k []) → all_at o ys + waits_at o (slice_index_or xs i []) ≡ all_at o xs + waits_at o (slice_index_or ys i [])
all_changed o [] ys i e lt h = absurd (omega arith)
all_changed o (x ∷ xs) [] i e lt h = absurd (omega (arith, e))
all_changed o (x ∷ xs) (y ∷ ys) zero e lt h = let ih = all_same o xs ys (omega (arith, e)) (λ k. h (suc k) (λ z. omega (arith, z))) in omega (arith, ih)
all_changed o (x ∷ xs) (y ∷ ys) (suc i) e lt h =
    let first = ap (waits_at o) (h 0 (λ z. omega (arith, z))) in let ih = all_changed o xs ys i (omega (arith, e)) (omega arith) (λ k n. h (suc k) (λ z. n (omega (arith, z)))) in
    omega (arith, first, ih)

pub all_more_empty : (o : ℕ) (rows : List WaitRow) (bs : List Bucket) (n : ℕ) → all_at o (all_waits rows (bs ++ replicate n no_bucket)) ≡ all_at o (all_waits rows bs)
all_more_empty o rows [] zero = refl
all_more_empty o rows [] (suc n) = let ih = all_more_empty o rows [] n in omega (arith, ih)
all_more_empty o rows (b ∷ bs) n = ap (λ (m : ℕ). waits_at o (waits_in rows b) + m) (all_more_empty o rows bs n)

pub waits_few : (o : ℕ) (ws : List Wait) → waits_at o ws ≤ length ws
waits_few o [] = omega arith
waits_few o (w ∷ ws) = few_case (w.object == o) (waits_few o ws)
  where
    few_case : (b : Bool) → waits_at o ws ≤ length ws → cond b 1 0 + waits_at o ws ≤ suc (length ws)
    few_case true h = omega (arith, h)
    few_case false h = omega (arith, h)

pub all_few : (o m : ℕ) (xs : List (List Wait)) → ((k : ℕ) → k < length xs → length (slice_index_or xs k []) ≤ m) → all_at o xs ≤ length xs * m
all_few o m [] h = omega arith
all_few o m (x ∷ xs) h =
    let few = waits_few o x in let one = h 0 (omega arith) in
    let ih = all_few o m xs (λ k lt. h (suc k) (omega arith)) in
    grind (arith, few, one, ih)

-- ---- whether anybody waits at an object
pub all_none : (o : ℕ) (xs : List (List Wait)) → all_at o xs ≡ 0 → (k : ℕ) → waits_at o (slice_index_or xs k []) ≡ 0
all_none o [] h k = refl
all_none o (x ∷ xs) h zero = omega (arith, h)
all_none o (x ∷ xs) h (suc k) = all_none o xs (omega (arith, h)) k

pub idle : (o c : ℕ) (ws : List Wait) → waits_at o ws ≡ 0 → queue_of ws o c ≡ []
idle o c [] h = refl
idle o c (w ∷ ws) h = ap (λ (b : Bool). map with_number (cond (b && (w.cond == c)) (w ∷ filter (is_at o c) ws) (filter (is_at o c) ws))) (head_off (w.object == o) h) ∙ idle o c ws (tail_none (w.object == o) h)
  where
    head_off : (b : Bool) → cond b 1 0 + waits_at o ws ≡ 0 → b ≡ false
    head_off true e = absurd (omega (arith, e))
    head_off false e = refl

    tail_none : (b : Bool) → cond b 1 0 + waits_at o ws ≡ 0 → waits_at o ws ≡ 0
    tail_none b e = omega (arith, e)

some_case : (o : ℕ) (q : List Wait) (xs : List (List Wait)) (n : ℕ) → waits_at o q ≡ n → 0 < all_at o (q ∷ xs) → (0 < all_at o xs → (k : ℕ) × (k < length xs) × (0 < waits_at o (slice_index_or xs k [])))
    → (k : ℕ) × (k < length (q ∷ xs)) × (0 < waits_at o (slice_index_or (q ∷ xs) k []))
some_case o q xs zero e h later = let more = later (omega (arith, h, e)) in (suc more.0, let lt = more.1 in omega (arith, lt), more.2)
some_case o q xs (suc n) e h later = (0, omega arith, omega (arith, e))

pub all_some : (o : ℕ) (xs : List (List Wait)) → 0 < all_at o xs → (k : ℕ) × (k < length xs) × (0 < waits_at o (slice_index_or xs k []))
all_some o [] h = absurd (omega arith)
all_some o (q ∷ xs) h = some_case o q xs (waits_at o q) refl h (all_some o xs)

abbrev Busy : ℕ → List WaitRow → ℕ → List ℕ → Type 0
Busy o rows i ts = (c : ℕ) × (place o c ≡ i) × (is_nobody (queue_of (map (wait_of rows) ts) o c) ≡ false)

busy_case : (o : ℕ) (rows : List WaitRow) (i t : ℕ) (ts : List ℕ) (b : Bool) → ((row_at rows t).object == o) ≡ b → IsPlaced rows i t → 0 < cond b 1 0 + waits_at o (map (wait_of rows) ts) → (0 < waits_at o (map (wait_of rows) ts) → Busy o rows i ts) → Busy o rows i (t ∷ ts)
busy_case o rows i t ts true e p g later =
    let w = wait_of rows t in let rest = filter (is_at o w.cond) (map (wait_of rows) ts) in
    let here : is_at o w.cond w ≡ true = joint (w.object == o) (w.cond == w.cond) e (same_test w.cond) in
    (w.cond, ap (λ (k : ℕ). place k w.cond) (sym (test_same w.object o e)) ∙ p.1, ap (λ (b : Bool). is_nobody (map with_number (cond b (w ∷ rest) rest))) here)
busy_case o rows i t ts false e p g later =
    let w = wait_of rows t in
    let more = later (omega (arith, g)) in
    let rest = filter (is_at o more.0) (map (wait_of rows) ts) in
    let off : is_at o more.0 w ≡ false = ap (λ (b : Bool). b && (w.cond == more.0)) e in
    (more.0, more.1, ap (λ (b : Bool). is_nobody (map with_number (cond b (w ∷ rest) rest))) off ∙ more.2)

pub busy_bucket : (o : ℕ) (rows : List WaitRow) (i : ℕ) (ts : List ℕ) → AllByRecursion (IsPlaced rows i) ts → 0 < waits_at o (map (wait_of rows) ts) → (c : ℕ) × (place o c ≡ i) × (is_nobody (queue_of (map (wait_of rows) ts) o c) ≡ false)
busy_bucket o rows i [] p h = absurd (omega arith)
busy_bucket o rows i (t ∷ ts) p h = busy_case o rows i t ts ((row_at rows t).object == o) refl p.0 h (busy_bucket o rows i ts p.1)

-- ---- the tasks that wait
tail_case : (b : Bool) (t : ℕ) (w : Wait) (l : List Wait) → AllByRecursion (λ v. v.0 ≢ t) (map with_number (cond b (w ∷ l) l)) → AllByRecursion (λ v. v.0 ≢ t) (map with_number l)
tail_case true t w l h = h.1
tail_case false t w l h = h

head_case : (b : Bool) (t : ℕ) (w : Wait) (l : List Wait) → b ≡ true → AllByRecursion (λ v. v.0 ≢ t) (map with_number (cond b (w ∷ l) l)) → w.task ≢ t
head_case true t w l e h = h.0
head_case false t w l e h = absurd cc

pub away : (t : ℕ) (rows : List WaitRow) (i : ℕ) (ts : List ℕ) → AllByRecursion (IsPlaced rows i) ts → ((o c : ℕ) → place o c ≡ i → AllByRecursion (λ v. v.0 ≢ t) (queue_of (map (wait_of rows) ts) o c)) → AllByRecursion (λ u. u ≢ t) ts
away t rows i [] p free = tt
away t rows i (u ∷ ts) p free =
    let w = wait_of rows u in (
      head_case (is_at w.object w.cond w) t w (filter (is_at w.object w.cond) (map (wait_of rows) ts)) (self_at w) (free w.object w.cond p.0.1),
      away t rows i ts p.1 (λ o c e. tail_case (is_at o c w) t w (filter (is_at o c) (map (wait_of rows) ts)) (free o c e)),
    )

off_case : (b : Bool) (t : ℕ) (w : Wait) (l : List Wait) → w.task ≢ t → AllByRecursion (λ v. v.0 ≢ t) (map with_number l) → AllByRecursion (λ v. v.0 ≢ t) (map with_number (cond b (w ∷ l) l))
off_case true t w l n h = (n, h)
off_case false t w l n h = h

pub off_queue : (t : ℕ) (rows : List WaitRow) (ts : List ℕ) → AllByRecursion (λ u. u ≢ t) ts → (o c : ℕ) → AllByRecursion (λ v. v.0 ≢ t) (queue_of (map (wait_of rows) ts) o c)
off_queue t rows [] h o c = tt
off_queue t rows (u ∷ ts) h o c = off_case (is_at o c (wait_of rows u)) t (wait_of rows u) (filter (is_at o c) (map (wait_of rows) ts)) h.0 (off_queue t rows ts h.1 o c)

pub removed_off : (xs : List ℕ) (k d : ℕ) → IsApart xs → k < length xs → AllByRecursion (λ u. u ≢ slice_index_or xs k d) (remove xs k)
removed_off [] k d a lt = absurd (omega arith)
removed_off (x ∷ xs) zero d a lt = a.0
removed_off (x ∷ xs) (suc k) d a lt = ((λ e. at_off xs k a.0 (omega arith) (sym e)), removed_off xs k d a.1 (omega arith))
  where
    at_off : (ys : List ℕ) (j : ℕ) → AllByRecursion (λ u. u ≢ x) ys → j < length ys → slice_index_or ys j d ≢ x
    at_off [] j h lt' = absurd (omega arith)
    at_off (y ∷ ys) zero h lt' = h.0
    at_off (y ∷ ys) (suc j) h lt' = at_off ys j h.1 (omega arith)

distinct : (xs : List ℕ) → IsApart xs → IsDistinct eqb xs
unfolding IsDistinct
distinct [] h = tt
distinct (x ∷ xs) h = (all_more (λ j. j ≢ x) (λ y. eqb x y ≡ false) (λ j n. other_test (eqb x j) (λ t. n (sym (eqb→eq x j (subst T (sym t) tt))))) xs h.0, distinct xs h.1)

one_of : (b c : Bool) → (b || c) ≡ true → (b ≡ true) ⊎ (c ≡ true)
one_of true c e = inl refl
one_of false c e = inr e

any_below : (n : ℕ) (xs : List ℕ) → AllByRecursion (λ i. i < n) xs → (q : ℕ) → list_any (eqb q) xs ≡ true → q < n
any_below n [] h q e = cc
any_below n (x ∷ xs) h q e = elim (one_of (eqb q x) (list_any (eqb q) xs) e) [
  | inl t ↦ subst (λ (y : ℕ). y < n) (sym (eqb→eq q x (subst T (sym t) tt))) h.0
  | inr r ↦ any_below n xs h.1 q r
]

pub has_place : (n t : ℕ) (q : List ℕ) → IsApart q → AllByRecursion (λ u. u < n) q → t < n → AllByRecursion (λ u. u ≢ t) q → length q + 1 ≤ n
has_place n t q apart below lt off = rw add-one (length-le_from_distinct_below (t ∷ q) n (distinct (t ∷ q) (off, apart)) (any_below n (t ∷ q) (lt, below)))

pub has_room : (n : ℕ) (q : List ℕ) → IsApart q → AllByRecursion (λ u. u < n) q → length q ≤ n
has_room n q apart below = length-le_from_distinct_below q n (distinct q apart) (any_below n q below)

-- ---- the search
pub first_passes : (o c n : ℕ) (ws : List Wait) → n < length ws → filter (is_at o c) (take n ws) ≡ [] → is_at o c (slice_index_or ws n no_wait) ≡ false → filter (is_at o c) (take (n + 1) ws) ≡ []
first_passes o c n ws lt none off =
    ap (filter (is_at o c)) (Rattle.std.proofs.lemmas.List.take_more ws n no_wait lt)
    ∙ filter-append (is_at o c) (take n ws) (slice_index_or ws n no_wait ∷ [])
    ∙ ap (λ (l : List Wait). l ++ cond (is_at o c (slice_index_or ws n no_wait)) (slice_index_or ws n no_wait ∷ []) []) none
    ∙ ap (λ (b : Bool). cond b (slice_index_or ws n no_wait ∷ []) []) off
