-- What one entry more does to the queues of conditions.
use Rattle.std.proofs.Common.{◌≡◌, ◌≢◌, ℕ, ℤ, pos, ◌==◌, ◌&&◌, T, eqb→eq, Bool, true, false, not, cond, List, [], ◌∷◌, ◌++◌, map, Some, refl, sym, ap, ◌∙◌, subst, inl, inr}
use Rattle.std.specs.List.{AllByRecursion, filter}
use Rattle.std.proofs.lemmas.Bool.{cases_eq}
use Rattle.std.proofs.lemmas.List.{append-nil, map-append}
use Rattle.std.proofs.lemmas.List.Elements.{filter-append}
use Rattle.uc_entry.specs.declared.entry.Entry.{Entry}
use Rattle.uc_entry.specs.declared.entry.EntryKind.{EntryKind}
use Rattle.uc_entry.specs.declared.entry.EntryKind.TheVariants as kind
use Rattle.uc_acts.specs.Journal.{Journal, asking, entries_at}
use Rattle.uc_acts.specs.Doors.{blocked, blocked_at}
use Rattle.uc_acts.proofs.Seats.{blocked_other, blocked_same, blocked_after}
use Rattle.uc_acts.proofs.SoundLemmas.{self_test, all_kept, all_kept_nil}
use Rattle.uc_condition.specs.Waiting.{put, queue_at, first_task, rest_of}
use Rattle.uc_condition.specs.Laws.{takes_out, is_silent, LawOpening, LawWait, LawTake, LawElsewhere, LawOthers}

abbrev Triple : Type 0
Triple = ℕ × ℕ × ℤ

abbrev seen : ℕ → List Triple → List (ℕ × ℤ)
seen c xs = map (λ b. (b.0, b.2)) (filter (λ b. b.1 == c) xs)

other_test : (b : Bool) → (b ≡ true → ⊥) → b ≡ false
other_test true h = absurd (h refl)
other_test false h = refl

test_same : (m n : ℕ) → (m == n) ≡ true → m ≡ n
test_same m n t = eqb→eq m n (subst T (sym t) tt)

apart_test : (m n : ℕ) → n ≢ m → (m == n) ≡ false
apart_test m n d = other_test (m == n) (λ t. d (sym (test_same m n t)))

put_elsewhere : (o c p d : ℕ) (q : List (ℕ × ℤ)) (queue : ℕ → ℕ → List (ℕ × ℤ)) → p ≢ o → put o c q queue p d ≡ queue p d
put_elsewhere o c p d q queue n = ap (λ (b : Bool). cond (b && (c == d)) q (queue p d)) (apart_test o p n)

put_here : (o c d : ℕ) (q : List (ℕ × ℤ)) (queue : ℕ → ℕ → List (ℕ × ℤ)) → put o c q queue o d ≡ cond (c == d) q (queue o d)
put_here o c d q queue = ap (λ (b : Bool). cond (b && (c == d)) q (queue o d)) (self_test o)

elsewhere_blocked : (o c : ℕ) (j : Journal) (e : Entry) → o ≢ e.object → blocked o c (j ++ e ∷ []) ≡ blocked o c j
elsewhere_blocked o c j e n = ap (seen c) (blocked_other o j e (apart_test e.object o n))

here_blocked : (c : ℕ) (j : Journal) (e : Entry) → blocked e.object c (j ++ e ∷ []) ≡ seen c (blocked_after e.kind e (blocked_at e.object j))
here_blocked c j e = ap (seen c) (blocked_same e.object j e (self_test e.object))

-- ---- a wait
wait_case : (b : Bool) (q : List (ℕ × ℤ)) (r : List (ℕ × ℤ)) (x : Triple) → (b ≡ true → q ≡ r) → cond b (q ++ (x.0, x.2) ∷ []) r ≡ r ++ map (λ y. (y.0, y.2)) (cond b (x ∷ []) [])
wait_case true q r x h = ap (λ (l : List (ℕ × ℤ)). l ++ (x.0, x.2) ∷ []) (h refl)
wait_case false q r x h = sym (append-nil r)

seen_more : (d : ℕ) (xs : List Triple) (x : Triple) → seen d (xs ++ x ∷ []) ≡ seen d xs ++ map (λ y. (y.0, y.2)) (cond (x.1 == d) (x ∷ []) [])
seen_more d xs x = ap (map (λ (y : Triple). (y.0, y.2))) (filter-append (λ b. b.1 == d) xs (x ∷ [])) ∙ map-append (λ (y : Triple). (y.0, y.2)) (filter (λ b. b.1 == d) xs) (cond (x.1 == d) (x ∷ []) [])

pub wait : LawWait
wait v w j p t k o c n are became q d = elim (cases_eq q o) [
  | inl at ↦ subst (λ (x : ℕ). queue_at w x d ≡ blocked x d (j ++ asking kind.Wait p t k o (pos c) n ∷ [])) (sym at) (
      became.queue o d ∙ put_here o c d (queue_at v o c ++ (t, n) ∷ []) (queue_at v)
      ∙ wait_case (c == d) (queue_at v o c) (queue_at v o d) (t, c, n) (λ s. ap (queue_at v o) (test_same c d s))
      ∙ ap (λ (l : List (ℕ × ℤ)). l ++ map (λ (y : Triple). (y.0, y.2)) (cond (c == d) ((t, c, n) ∷ []) [])) (are o d)
      ∙ sym (here_blocked d j (asking kind.Wait p t k o (pos c) n) ∙ ap (λ (l : List Triple). seen d (l ++ (t, c, n) ∷ [])) (all_kept (blocked_at o j)) ∙ seen_more d (blocked_at o j) (t, c, n))
      )
  | inr off ↦ became.queue q d ∙ put_elsewhere o c q d (queue_at v o c ++ (t, n) ∷ []) (queue_at v) off ∙ are q d ∙ sym (elsewhere_blocked q d j (asking kind.Wait p t k o (pos c) n) off)
]

-- ---- a task is taken out
abbrev off : ℕ → List (ℕ × ℤ) → List (ℕ × ℤ)
off u q = filter (λ w. not (w.0 == u)) q

off_by : (u d : ℕ) (x : Triple) (xs : List Triple) → seen d (filter (λ b. not (b.0 == u)) xs) ≡ off u (seen d xs) → (a b : Bool) → (x.0 == u) ≡ a → (x.1 == d) ≡ b → seen d (filter (λ y. not (y.0 == u)) (x ∷ xs)) ≡ off u (seen d (x ∷ xs))
off_by u d x xs ih true true h g = simp (h, g, ih)
off_by u d x xs ih true false h g = simp (h, g, ih)
off_by u d x xs ih false true h g = simp (h, g, ih)
off_by u d x xs ih false false h g = simp (h, g, ih)

seen_off : (u d : ℕ) (xs : List Triple) → seen d (filter (λ b. not (b.0 == u)) xs) ≡ off u (seen d xs)
seen_off u d [] = refl
seen_off u d (x ∷ xs) = off_by u d x xs (seen_off u d xs) (x.0 == u) (x.1 == d) refl refl

taken_after : (k : EntryKind) (e : Entry) (xs : List Triple) → takes_out k ≡ true → blocked_after k e xs ≡ filter (λ b. not (b.0 == e.task)) xs
taken_after kind.Push e xs h = append-nil _
taken_after kind.Admit e xs h = append-nil _
taken_after _ e xs h = absurd cc

taken_blocked : (d : ℕ) (j : Journal) (e : Entry) → takes_out e.kind ≡ true → blocked e.object d (j ++ e ∷ []) ≡ off e.task (blocked e.object d j)
taken_blocked d j e h = here_blocked d j e ∙ ap (seen d) (taken_after e.kind e (blocked_at e.object j) h) ∙ seen_off e.task d (blocked_at e.object j)

nobody_off : (u : ℕ) (q : List (ℕ × ℤ)) → AllByRecursion (λ w. w.0 ≢ u) q → off u q ≡ q
nobody_off u [] h = refl
nobody_off u (w ∷ q) h = ap (λ (b : Bool). cond (not b) (w ∷ off u q) (off u q)) (other_test (w.0 == u) (λ t. h.0 (test_same w.0 u t))) ∙ ap (λ (l : List (ℕ × ℤ)). w ∷ l) (nobody_off u q h.1)

front_off : (u : ℕ) (q : List (ℕ × ℤ)) → Some u ≡ first_task q → AllByRecursion (λ w. w.0 ≢ u) (rest_of q) → rest_of q ≡ off u q
front_off u [] first away = refl
front_off u (w ∷ q) first away =
    let same : u ≡ w.0 = cc in
    sym (ap (λ (b : Bool). cond (not b) (w ∷ off u q) (off u q)) (ap (λ (x : ℕ). w.0 == x) same ∙ self_test w.0) ∙ nobody_off u q away)

take_case : (b : Bool) (u : ℕ) (q r : List (ℕ × ℤ)) → (b ≡ true → q ≡ r) → Some u ≡ first_task q → AllByRecursion (λ w. w.0 ≢ u) (cond b (rest_of q) r) → cond b (rest_of q) r ≡ off u r
take_case true u q r h first away = front_off u q first away ∙ ap (off u) (h refl)
take_case false u q r h first away = sym (nobody_off u r away)

pub take_one : LawTake
take_one v w j e c out are first became free q d = elim (cases_eq q e.object) [
  | inl at ↦ subst (λ (x : ℕ). queue_at w x d ≡ blocked x d (j ++ e ∷ [])) (sym at) (
      let o = e.object in
      let now = became.queue o d ∙ put_here o c d (rest_of (queue_at v o c)) (queue_at v) in
      let away = subst (AllByRecursion (λ x. x.0 ≢ e.task)) now (free o d) in
      now
      ∙ take_case (c == d) e.task (queue_at v o c) (queue_at v o d) (λ s. ap (queue_at v o) (test_same c d s)) first away
      ∙ ap (off e.task) (are o d)
      ∙ sym (taken_blocked d j e out)
      )
  | inr n ↦ became.queue q d ∙ put_elsewhere e.object c q d (rest_of (queue_at v e.object c)) (queue_at v) n ∙ are q d ∙ sym (elsewhere_blocked q d j e n)
]

pub elsewhere : LawElsewhere
elsewhere v j e out are free q d = elim (cases_eq q e.object) [
  | inl at ↦ subst (λ (x : ℕ). queue_at v x d ≡ blocked x d (j ++ e ∷ [])) (sym at) (sym (nobody_off e.task (queue_at v e.object d) (free e.object d)) ∙ ap (off e.task) (are e.object d) ∙ sym (taken_blocked d j e out))
  | inr n ↦ are q d ∙ sym (elsewhere_blocked q d j e n)
]

-- ---- any other entry
silent_after : (k : EntryKind) (e : Entry) (xs : List Triple) → is_silent k ≡ true → blocked_after k e xs ≡ xs
silent_after kind.Wait e xs h = absurd cc
silent_after kind.Push e xs h = absurd cc
silent_after kind.Admit e xs h = absurd cc
silent_after _ e xs h = all_kept_nil xs

pub others : LawOthers
others v j e h are q d = elim (cases_eq q e.object) [
  | inl at ↦ subst (λ (x : ℕ). queue_at v x d ≡ blocked x d (j ++ e ∷ [])) (sym at) (are e.object d ∙ sym (here_blocked d j e ∙ ap (seen d) (silent_after e.kind e (blocked_at e.object j) h)))
  | inr n ↦ are q d ∙ sym (elsewhere_blocked q d j e n)
]

-- ---- the opening
none_blocked : (o c : ℕ) → blocked o c [] ≡ []
unfolding blocked_at entries_at
none_blocked o c = refl

pub opening : LawOpening
opening v none o c = none o c ∙ sym (none_blocked o c)
