-- A bucket once a task was linked, and once one was unlinked.
use Rattle.std.proofs.Common.{◌≡◌, ◌≢◌, ℕ, zero, suc, ◌<◌, ◌+◌, ◌-◌, ◌==◌, T, eqb→eq, Bool, true, false, cond, List, [], ◌∷◌, ◌++◌, map, length, refl, sym, ap, ◌∙◌, subst, inl, inr, arith, add-one, rules, slice_set, length-set}
use Rattle.std.specs.List.{AllByRecursion, remove}
use Rattle.std.proofs.lemmas.Bool.{cases_eq}
use Rattle.std.proofs.lemmas.List.{map-append}
use Rattle.uc_condition.specs.declared.buckets.WaitRow.{WaitRow}
use Rattle.uc_condition.specs.declared.buckets.Bucket.{Bucket}
use Rattle.uc_condition.specs.declared.buckets.Found.{Found}
use Rattle.uc_condition.specs.Waiting.{Wait, IsApart, place}
use Rattle.uc_condition.specs.Buckets.{row_at, tasks_from, task_behind, tasks_in, wait_of, waits_in, IsPlaced, last_or, IsBucket, IsFound, with_next, linked, linked_bucket, last_after, unlinked, unlinked_bucket}
use Rattle.uc_condition.proofs.Linked.{all_more, all_push, all_removed, all_last, apart_push, apart_removed, last_push, Same, same_from, same_waits, same_placed, same_bucket, set_here, set_off, next_waits, next_placed, more_from, less_from, at_behind, last_kept, last_before, tasks_length}

test_same : (m n : ℕ) → (m == n) ≡ true → m ≡ n
test_same m n t = eqb→eq m n (subst T (sym t) tt)

same_test : (m : ℕ) → (m == m) ≡ true
same_test m = search rules

is_not_0 : (n : ℕ) → (suc n == 0) ≡ false
is_not_0 n = no_test (suc n == 0) (λ s. absurd (let e = test_same (suc n) 0 s in omega (arith, e)))
  where
    no_test : (y : Bool) → (y ≡ true → ⊥) → y ≡ false
    no_test true g = absurd (g refl)
    no_test false g = refl

-- ---- one more
abbrev bucket : ℕ → ℕ → ℕ → Bucket
bucket n f l = record { count = n; first = f; last = l }

last_known : (rows : List WaitRow) (i n f l : ℕ) → 0 < n → IsBucket rows i (bucket n f l) → IsPlaced rows i l
last_known rows i zero f l lt is = absurd (omega arith)
last_known rows i (suc n) f l lt is = subst (IsPlaced rows i) is.ends (all_last (IsPlaced rows i) f (tasks_from rows n (row_at rows f).next) is.placed.0 is.placed.1)

pub last_placed : (rows : List WaitRow) (i : ℕ) (b : Bucket) → 0 < b.count → IsBucket rows i b → IsPlaced rows i b.last
last_placed rows i b lt is = last_known rows i b.count b.first b.last lt is

module _ (rows : List WaitRow) (i t : ℕ) (row : WaitRow) (lt : t < length rows) where
  longer_rows : (n f l : ℕ) → linked rows (bucket (suc n) f l) t row ≡ with_next (slice_set rows t row) l t
  longer_rows n f l = ap (λ (b : Bool). cond b (slice_set rows t row) (with_next (slice_set rows t row) l t)) (is_not_0 n)

  longer : (n f l : ℕ) → linked_bucket (bucket (suc n) f l) t ≡ bucket (suc n + 1) f t
  longer n f l = ap (λ (b : Bool). cond b (bucket 1 t t) (bucket (suc n + 1) f t)) (is_not_0 n)

  link_tasks : (n f l : ℕ) → IsBucket rows i (bucket n f l) → AllByRecursion (λ u. u ≢ t) (tasks_from rows n f) → tasks_in (linked rows (bucket n f l) t row) (linked_bucket (bucket n f l) t) ≡ tasks_from rows n f ++ t ∷ []
  link_tasks zero f l is off = refl
  link_tasks (suc n) f l is off =
      let new = slice_set rows t row in
      let same = set_off rows t row (tasks_from rows (suc n) f) off in
      let long = subst (λ (m : ℕ). m ≡ length new) (length-set rows t row) refl in
      let now = same_bucket rows new i (bucket (suc n) f l) (omega (arith, long)) same is in
      let known = (last_known rows i (suc n) f l (omega arith) is).0 in
      ap (λ (r : List WaitRow). tasks_in r (linked_bucket (bucket (suc n) f l) t)) (longer_rows n f l)
      ∙ ap (tasks_in (with_next new l t)) (longer n f l)
      ∙ ap (λ (m : ℕ). tasks_from (with_next new l t) m f) (add-one (suc n))
      ∙ more_from new n f l t (subst (λ (m : ℕ). l < m) (sym (length-set rows t row)) known) now.apart now.ends
      ∙ ap (λ (q : List ℕ). q ++ t ∷ []) (same_from rows new (suc n) f same)

  link_fields : (n f l : ℕ) (ts : List ℕ) → IsBucket rows i (bucket n f l) → map (wait_of (linked rows (bucket n f l) t row)) ts ≡ map (wait_of (slice_set rows t row)) ts
  link_fields zero f l ts is = refl
  link_fields (suc n) f l ts is = ap (λ (r : List WaitRow). map (wait_of r) ts) (longer_rows n f l) ∙ next_waits (slice_set rows t row) l t ts (subst (λ (m : ℕ). l < m) (sym (length-set rows t row)) (last_known rows i (suc n) f l (omega arith) is).0)

  link_placed : (n f l : ℕ) (ts : List ℕ) → IsBucket rows i (bucket n f l) → AllByRecursion (IsPlaced (slice_set rows t row) i) ts → AllByRecursion (IsPlaced (linked rows (bucket n f l) t row) i) ts
  link_placed zero f l ts is h = h
  link_placed (suc n) f l ts is h = subst (λ (r : List WaitRow). AllByRecursion (IsPlaced r i) ts) (sym (longer_rows n f l)) (next_placed (slice_set rows t row) l t i ts (subst (λ (m : ℕ). l < m) (sym (length-set rows t row)) (last_known rows i (suc n) f l (omega arith) is).0) h)

  link_last : (n f l : ℕ) → (linked_bucket (bucket n f l) t).last ≡ t
  link_last zero f l = refl
  link_last (suc n) f l = ap (λ (b : Bucket). b.last) (longer n f l)

  pub link_waits : (b : Bucket) → IsBucket rows i b → AllByRecursion (λ u. u ≢ t) (tasks_in rows b) → waits_in (linked rows b t row) (linked_bucket b t) ≡ waits_in rows b ++ (record { object = row.object; cond = row.cond; task = t; n = row.n }) ∷ []
  link_waits b is off =
      let new = slice_set rows t row in let ts = tasks_in rows b in
      ap (map (wait_of (linked rows b t row))) (link_tasks b.count b.first b.last is off)
      ∙ link_fields b.count b.first b.last (ts ++ t ∷ []) is
      ∙ map-append (wait_of new) ts (t ∷ [])
      ∙ ap (λ (l : List Wait). l ++ wait_of new t ∷ []) (same_waits rows new ts (set_off rows t row ts off))
      ∙ ap (λ (r : WaitRow). waits_in rows b ++ (record { object = r.object; cond = r.cond; task = t; n = r.n }) ∷ []) (set_here rows t row lt)

  pub link_bucket : (b : Bucket) → IsBucket rows i b → AllByRecursion (λ u. u ≢ t) (tasks_in rows b) → place row.object row.cond ≡ i → IsBucket (linked rows b t row) i (linked_bucket b t)
  link_bucket b is off at =
      let new = slice_set rows t row in let ts = tasks_in rows b in
      let e = link_tasks b.count b.first b.last is off in
      let long = subst (λ (m : ℕ). m ≡ length new) (length-set rows t row) refl in
      let here : IsPlaced new i t = (omega (arith, lt, long), ap (λ (r : WaitRow). place r.object r.cond) (set_here rows t row lt) ∙ at) in
      let placed = all_push (IsPlaced new i) ts t (same_placed rows new i ts (omega (arith, long)) (set_off rows t row ts off) is.placed) here in
      let last = link_last b.count b.first b.last in
      record {
        apart = subst IsApart (sym e) (apart_push ts t is.apart off);
        placed = subst (AllByRecursion (IsPlaced (linked rows b t row) i)) (sym e) (link_placed b.count b.first b.last (ts ++ t ∷ []) is placed);
        ends = subst (λ (q : List ℕ). last_or (linked_bucket b t).last q ≡ (linked_bucket b t).last) (sym e) (last_push (linked_bucket b t).last ts t ∙ sym last);
      }

  linked_same : (n f l : ℕ) (ts : List ℕ) → AllByRecursion (λ u. u ≢ t) ts → (0 < n → AllByRecursion (λ u. u ≢ l) ts) → AllByRecursion (Same rows (linked rows (bucket n f l) t row)) ts
  linked_same zero f l ts off out = set_off rows t row ts off
  linked_same (suc n) f l [] off out = tt
  linked_same (suc n) f l (u ∷ ts) off out =
      let new = slice_set rows t row in
      let away = out (omega arith) in
      let one = (set_off new l (record (row_at new l) { next = t }) (u ∷ []) (away.0, tt)).0 in
      (ap (λ (r : List WaitRow). row_at r u) (longer_rows n f l) ∙ one ∙ (set_off rows t row (u ∷ []) (off.0, tt)).0, linked_same (suc n) f l ts off.1 (λ _. away.1))

  -- tasks of another bucket keep their rows
  pub link_same : (b : Bucket) (ts : List ℕ) → AllByRecursion (λ u. u ≢ t) ts → (0 < b.count → AllByRecursion (λ u. u ≢ b.last) ts) → AllByRecursion (Same rows (linked rows b t row)) ts
  link_same b ts off out = linked_same b.count b.first b.last ts off out

  pub link_length : (b : Bucket) → length (linked rows b t row) ≡ length rows
  link_length b = by b.count b.last
    where
      by : (n l : ℕ) → length (linked rows (bucket n 0 l) t row) ≡ length rows
      by zero l = length-set rows t row
      by (suc n) l = ap (λ (r : List WaitRow). length r) (longer_rows n 0 l) ∙ length-set (slice_set rows t row) l (record (row_at (slice_set rows t row) l) { next = t }) ∙ length-set rows t row

-- ---- one less
abbrev found : ℕ → ℕ → ℕ → Found
found k b t = record { at = k; before = b; task = t }

map_removed : {X : Type 0} (f : ℕ → X) (xs : List ℕ) (k : ℕ) → map f (remove xs k) ≡ remove (map f xs) k
map_removed f [] zero = refl
map_removed f [] (suc k) = refl
map_removed f (x ∷ xs) zero = refl
map_removed f (x ∷ xs) (suc k) = ap (λ (l : List _). f x ∷ l) (map_removed f xs k)

last_tail : (d x : ℕ) (xs : List ℕ) → last_or x xs ≡ d → last_or d xs ≡ d
last_tail d x [] h = refl
last_tail d x (y ∷ ys) h = h

one_less : (n : ℕ) → suc n - 1 ≡ n
one_less n = omega arith

module _ (rows : List WaitRow) (i o c : ℕ) where
  shorter_rows : (j b t : ℕ) → unlinked rows (found (suc j) b t) ≡ with_next rows b (row_at rows t).next
  shorter_rows j b t = ap (λ (y : Bool). cond y rows (with_next rows b (row_at rows t).next)) (is_not_0 j)

  shorter : (n f l j b t : ℕ) → unlinked_bucket rows (bucket n f l) (found (suc j) b t) ≡ bucket (n - 1) f (last_after (bucket n f l) (found (suc j) b t))
  shorter n f l j b t = ap (λ (y : Bool). cond y (bucket (n - 1) (row_at rows t).next l) (bucket (n - 1) f (last_after (bucket n f l) (found (suc j) b t)))) (is_not_0 j)

  unlink_tasks : (n f l k b t : ℕ) → IsBucket rows i (bucket n f l) → IsFound rows (bucket n f l) o c (found k b t) → tasks_in (unlinked rows (found k b t)) (unlinked_bucket rows (bucket n f l) (found k b t)) ≡ remove (tasks_from rows n f) k
  unlink_tasks zero f l k b t is h = absurd (let lt = h.within in omega (arith, lt))
  unlink_tasks (suc n) f l zero b t is h = ap (λ (m : ℕ). tasks_from rows m (row_at rows t).next) (one_less n) ∙ ap (λ (x : ℕ). tasks_from rows n (row_at rows x).next) h.task
  unlink_tasks (suc n) f l (suc j) b t is h =
      let lt = h.within in
      let known = (at_behind (IsPlaced rows i) rows (suc n) f j (omega (arith, lt)) is.placed).0 in
      ap (λ (r : List WaitRow). tasks_in r (unlinked_bucket rows (bucket (suc n) f l) (found (suc j) b t))) (shorter_rows j b t)
      ∙ ap (tasks_in (with_next rows b (row_at rows t).next)) (shorter (suc n) f l j b t)
      ∙ ap (λ (m : ℕ). tasks_from (with_next rows b (row_at rows t).next) m f) (one_less n)
      ∙ ap (λ (x : ℕ). tasks_from (with_next rows x (row_at rows t).next) n f) (h.before j refl)
      ∙ ap (λ (x : ℕ). tasks_from (with_next rows (task_behind rows j f) (row_at rows x).next) n f) h.task
      ∙ less_from rows n f j lt known is.apart

  before_known : (n f l j b t : ℕ) → IsBucket rows i (bucket n f l) → IsFound rows (bucket n f l) o c (found (suc j) b t) → IsPlaced rows i b
  before_known n f l j b t is h = let lt = h.within in subst (IsPlaced rows i) (sym (h.before j refl)) (at_behind (IsPlaced rows i) rows n f j (omega (arith, lt)) is.placed)

  unlink_fields : (n f l k b t : ℕ) (ts : List ℕ) → IsBucket rows i (bucket n f l) → IsFound rows (bucket n f l) o c (found k b t) → map (wait_of (unlinked rows (found k b t))) ts ≡ map (wait_of rows) ts
  unlink_fields n f l zero b t ts is h = refl
  unlink_fields n f l (suc j) b t ts is h = ap (λ (r : List WaitRow). map (wait_of r) ts) (shorter_rows j b t) ∙ next_waits rows b (row_at rows t).next ts (before_known n f l j b t is h).0

  unlink_placed : (n f l k b t : ℕ) (ts : List ℕ) → IsBucket rows i (bucket n f l) → IsFound rows (bucket n f l) o c (found k b t) → AllByRecursion (IsPlaced rows i) ts → AllByRecursion (IsPlaced (unlinked rows (found k b t)) i) ts
  unlink_placed n f l zero b t ts is h p = p
  unlink_placed n f l (suc j) b t ts is h p = subst (λ (r : List WaitRow). AllByRecursion (IsPlaced r i) ts) (sym (shorter_rows j b t)) (next_placed rows b (row_at rows t).next i ts (before_known n f l j b t is h).0 p)

  unlink_last : (n f l k b t : ℕ) → IsBucket rows i (bucket n f l) → IsFound rows (bucket n f l) o c (found k b t) → last_or (unlinked_bucket rows (bucket n f l) (found k b t)).last (remove (tasks_from rows n f) k) ≡ (unlinked_bucket rows (bucket n f l) (found k b t)).last
  unlink_last zero f l k b t is h = absurd (let lt = h.within in omega (arith, lt))
  unlink_last (suc n) f l zero b t is h = last_tail l f (tasks_from rows n (row_at rows f).next) is.ends
  unlink_last (suc n) f l (suc j) b t is h = elim (cases_eq (suc j + 1) (suc n)) [
    | inl e ↦ subst (λ (x : ℕ). last_or x (remove (tasks_from rows (suc n) f) (suc j)) ≡ x) (sym (ap (λ (d : Bucket). d.last) (shorter (suc n) f l j b t) ∙ chosen e)) (last_before rows b n f j (omega (arith, e)) ∙ sym (h.before j refl))
    | inr d ↦ subst (λ (x : ℕ). last_or x (remove (tasks_from rows (suc n) f) (suc j)) ≡ x) (sym (ap (λ (d : Bucket). d.last) (shorter (suc n) f l j b t) ∙ kept d)) (last_kept l (tasks_from rows (suc n) f) (suc j) (longer d) ∙ is.ends)
  ]
    where
      chosen : suc j + 1 ≡ suc n → last_after (bucket (suc n) f l) (found (suc j) b t) ≡ b
      chosen e = ap (λ (x : ℕ). cond (x == suc n) b l) e ∙ ap (λ (y : Bool). cond y b l) (same_test (suc n))

      kept : suc j + 1 ≢ suc n → last_after (bucket (suc n) f l) (found (suc j) b t) ≡ l
      kept d = ap (λ (y : Bool). cond y b l) (no_test (suc j + 1 == suc n) (λ s. d (test_same (suc j + 1) (suc n) s)))
        where
          no_test : (y : Bool) → (y ≡ true → ⊥) → y ≡ false
          no_test true g = absurd (g refl)
          no_test false g = refl

      longer : suc j + 1 ≢ suc n → suc (suc j) < length (tasks_from rows (suc n) f)
      longer d =
          let lt = h.within in let e = tasks_length rows (bucket (suc n) f l) in
          omega (arith, lt, e, d)

  pub unlink_waits : (b : Bucket) (g : Found) → IsBucket rows i b → IsFound rows b o c g → waits_in (unlinked rows g) (unlinked_bucket rows b g) ≡ remove (waits_in rows b) g.at
  unlink_waits b g is h =
      ap (map (wait_of (unlinked rows g))) (unlink_tasks b.count b.first b.last g.at g.before g.task is h)
      ∙ unlink_fields b.count b.first b.last g.at g.before g.task (remove (tasks_in rows b) g.at) is h
      ∙ map_removed (wait_of rows) (tasks_in rows b) g.at

  pub unlink_bucket : (b : Bucket) (g : Found) → IsBucket rows i b → IsFound rows b o c g → IsBucket (unlinked rows g) i (unlinked_bucket rows b g)
  unlink_bucket b g is h =
      let e = unlink_tasks b.count b.first b.last g.at g.before g.task is h in
      record {
        apart = subst IsApart (sym e) (apart_removed (tasks_in rows b) g.at is.apart);
        placed = subst (AllByRecursion (IsPlaced (unlinked rows g) i)) (sym e) (unlink_placed b.count b.first b.last g.at g.before g.task (remove (tasks_in rows b) g.at) is h (all_removed (IsPlaced rows i) (tasks_in rows b) g.at is.placed));
        ends = subst (λ (q : List ℕ). last_or (unlinked_bucket rows b g).last q ≡ (unlinked_bucket rows b g).last) (sym e) (unlink_last b.count b.first b.last g.at g.before g.task is h);
      }

  pub unlink_left : (b : Bucket) (g : Found) → IsBucket rows i b → IsFound rows b o c g → tasks_in (unlinked rows g) (unlinked_bucket rows b g) ≡ remove (tasks_in rows b) g.at
  unlink_left b g is h = unlink_tasks b.count b.first b.last g.at g.before g.task is h

  unlinked_same : (n f l k b t : ℕ) (ts : List ℕ) → IsBucket rows i (bucket n f l) → IsFound rows (bucket n f l) o c (found k b t) → AllByRecursion (λ u. place (row_at rows u).object (row_at rows u).cond ≢ i) ts → AllByRecursion (Same rows (unlinked rows (found k b t))) ts
  unlinked_same n f l zero b t ts is h off = all_more (λ u. place (row_at rows u).object (row_at rows u).cond ≢ i) (Same rows rows) (λ u n. refl) ts off
  unlinked_same n f l (suc j) b t ts is h off =
      let at = (before_known n f l j b t is h).1 in
      subst (λ (r : List WaitRow). AllByRecursion (Same rows r) ts) (sym (shorter_rows j b t)) (set_off rows b (record (row_at rows b) { next = (row_at rows t).next }) ts (all_more (λ u. place (row_at rows u).object (row_at rows u).cond ≢ i) (λ u. u ≢ b) (λ u n e. n (ap (λ (x : ℕ). place (row_at rows x).object (row_at rows x).cond) e ∙ at)) ts off))

  -- tasks of another bucket keep their rows
  pub unlink_same : (b : Bucket) (g : Found) (ts : List ℕ) → IsBucket rows i b → IsFound rows b o c g → AllByRecursion (λ u. place (row_at rows u).object (row_at rows u).cond ≢ i) ts → AllByRecursion (Same rows (unlinked rows g)) ts
  unlink_same b g ts is h off = unlinked_same b.count b.first b.last g.at g.before g.task ts is h off

  unlinked_length : (n f l k b t : ℕ) → length (unlinked rows (found k b t)) ≡ length rows
  unlinked_length n f l zero b t = refl
  unlinked_length n f l (suc j) b t = ap (λ (r : List WaitRow). length r) (shorter_rows j b t) ∙ length-set rows b (record (row_at rows b) { next = (row_at rows t).next })

  pub unlink_length : (g : Found) → length (unlinked rows g) ≡ length rows
  unlink_length g = unlinked_length 0 0 0 g.at g.before g.task
