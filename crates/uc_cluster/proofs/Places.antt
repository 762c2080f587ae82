-- What one entry more does to the places of the tasks.
use Rattle.std.proofs.Common.{◌≡◌, ◌≢◌, ℕ, pos, ◌<◌, ◌==◌, ◌||◌, ◌&&◌, T, eqb→eq, Bool, true, false, not, cond, List, [], ◌∷◌, ◌++◌, length, Option, Some, None, refl, sym, ap, ◌∙◌, subst, inl, inr, append-nil, get_or-set_same, get_or-set_other}
use Rattle.std.specs.Option.{option_to_list}
use Rattle.std.specs.List.{filter, list_any}
use Rattle.std.proofs.lemmas.Bool.{cases_eq}
use Rattle.std.proofs.lemmas.List.Folds.{list_any-append}
use Rattle.uc_entry.specs.declared.entry.Entry.{Entry}
use Rattle.uc_entry.specs.declared.entry.EntryKind.{EntryKind}
use Rattle.uc_entry.specs.declared.entry.EntryKind.TheVariants as kind
use Rattle.uc_acts.specs.Journal.{Journal, Cost, asking, where_true}
use Rattle.uc_acts.specs.Open.{still_open}
use Rattle.uc_acts.specs.Queues.{Noted, tasks_on, comes_to_stand, leaves_cluster, on_cluster, cluster_of, clusters, noted, last_clusters}
use Rattle.uc_acts.proofs.OpenLemmas.{still_open_push, or_false, filter_true}
use Rattle.uc_acts.proofs.Noted.{noted_at, noted_push, last_clusters_push}
use Rattle.uc_acts.proofs.SoundLemmas.{self_test}
use Rattle.uc_cluster.specs.Standing.{Standing, place_of, with_place, is_on}
use Rattle.uc_cluster.specs.Laws.{tells_place, LawSpawned, LawMigrates, LawEnded, LawStands}

test_same : (m n : ℕ) → (m == n) ≡ true → m ≡ n
test_same m n t = eqb→eq m n (subst T (sym t) tt)

other_test : (b : Bool) → (b ≡ true → ⊥) → b ≡ false
other_test true h = absurd (h refl)
other_test false h = refl

apart_test : (m n : ℕ) → m ≢ n → (m == n) ≡ false
apart_test m n d = other_test (m == n) (λ t. d (test_same m n t))

pub on_push : (k : ℕ) (j : Journal) (e : Entry) → tasks_on k (j ++ e ∷ []) ≡ filter (λ t. not (leaves_cluster e.kind e t)) (tasks_on k j) ++ option_to_list (on_cluster k (noted_at j e).cluster (comes_to_stand e.kind e))
unfolding tasks_on
on_push k j e =
    let begins : Noted → Option ℕ = λ x. on_cluster k x.cluster (comes_to_stand x.entry.kind x.entry) in
    let ends : Noted → ℕ → Bool = λ x. leaves_cluster x.entry.kind x.entry in
    ap (still_open begins ends) (noted_push j e) ∙ still_open_push begins ends (noted j) (noted_at j e)

cluster_push : (t : ℕ) (j : Journal) (e : Entry) → cluster_of t (j ++ e ∷ []) ≡ clusters (last_clusters (λ u. 0) j) e.kind e t
cluster_push t j e = ap (λ (f : ℕ → ℕ). f t) (last_clusters_push (λ u. 0) j e)

-- the task t is in the list
abbrev has : ℕ → List ℕ → Bool
has t xs = list_any (λ u. u == t) xs

abbrev off : ℕ → List ℕ → List ℕ
off t xs = filter (λ u. not (u == t)) xs

put_at : (b : Bool) (u t : ℕ) → has t (option_to_list (where_true b u)) ≡ (b && (u == t))
put_at true u t = or_false (u == t)
put_at false u t = refl

off_same : (t : ℕ) (xs : List ℕ) → has t (off t xs) ≡ false
off_same t [] = refl
off_same t (x ∷ xs) = by (x == t) refl (off_same t xs)
  where
    by : (b : Bool) → (x == t) ≡ b → has t (off t xs) ≡ false → has t (off t (x ∷ xs)) ≡ false
    by true h ih = simp (h, ih)
    by false h ih = simp (h, ih)

off_other : (t u : ℕ) (xs : List ℕ) → t ≢ u → has t (off u xs) ≡ has t xs
off_other t u [] d = refl
off_other t u (x ∷ xs) d = by (x == u) refl (off_other t u xs d)
  where
    by : (b : Bool) → (x == u) ≡ b → has t (off u xs) ≡ has t xs → has t (off u (x ∷ xs)) ≡ has t (x ∷ xs)
    by true h ih = let n = apart_test x t (λ e. d (sym e ∙ test_same x u h)) in simp (h, ih, n)
    by false h ih = simp (h, ih)

has_push : (t : ℕ) (xs ys : List ℕ) → has t (xs ++ ys) ≡ (has t xs || has t ys)
has_push t xs ys = list_any-append (λ u. u == t) xs ys

place_here : (v : Standing) (t : ℕ) (place : Option ℕ) → t < length v.places → place_of (with_place v t place) t ≡ place
place_here v t place lt = get_or-set_same v.places t place None lt

place_there : (v : Standing) (t u : ℕ) (place : Option ℕ) → u ≢ t → place_of (with_place v t place) u ≡ place_of v u
place_there v t u place d = get_or-set_other v.places t u place None d

and_true : (b : Bool) → (b && true) ≡ b
and_true true = refl
and_true false = refl

and_false : (b : Bool) → (b && false) ≡ false
and_false true = refl
and_false false = refl

-- ---- a new task
spawned_on : (k : ℕ) (j : Journal) (p t : ℕ) (i : Cost) (o u : ℕ) → tasks_on k (j ++ asking kind.Spawn p t i o (pos u) (pos 0) ∷ []) ≡ tasks_on k j ++ option_to_list (where_true (cluster_of t j == k) u)
spawned_on k j p t i o u =
    let e = asking kind.Spawn p t i o (pos u) (pos 0) in
    on_push k j e ∙ ap (λ (l : List ℕ). l ++ option_to_list (where_true ((noted_at j e).cluster u == k) u)) (filter_true (λ x. true) (tasks_on k j) (λ x. refl))
    ∙ ap (λ (b : Bool). tasks_on k j ++ option_to_list (where_true (cond b (cluster_of t j) (last_clusters (λ x. 0) j u) == k) u)) (self_test u)

pub spawned : LawSpawned
spawned v j p t i o u c lt none creator are =
    let e = asking kind.Spawn p t i o (pos u) (pos 0) in
    let w = with_place v u (place_of v t) in
    let mine = are.cluster c t creator in
    let now : place_of w u ≡ Some c = place_here v u (place_of v t) lt ∙ creator in
    record {
      on = λ k x. elim (cases_eq x u) [
        | inl at ↦ subst (λ (y : ℕ). has y (tasks_on k (j ++ e ∷ [])) ≡ is_on k (place_of w y)) (sym at) (
            ap (has u) (spawned_on k j p t i o u) ∙ has_push u (tasks_on k j) (option_to_list (where_true (cluster_of t j == k) u))
            ∙ ap (λ (b : Bool). b || has u (option_to_list (where_true (cluster_of t j == k) u))) (are.on k u ∙ ap (is_on k) none)
            ∙ put_at (cluster_of t j == k) u u ∙ ap (λ (b : Bool). (cluster_of t j == k) && b) (self_test u) ∙ and_true (cluster_of t j == k)
            ∙ ap (λ (m : ℕ). m == k) mine ∙ ap (is_on k) (sym now)
            )
        | inr d ↦
            ap (has x) (spawned_on k j p t i o u) ∙ has_push x (tasks_on k j) (option_to_list (where_true (cluster_of t j == k) u))
            ∙ ap (λ (b : Bool). has x (tasks_on k j) || b) (put_at (cluster_of t j == k) u x ∙ ap (λ (b : Bool). (cluster_of t j == k) && b) (apart_test u x (λ s. d (sym s))) ∙ and_false (cluster_of t j == k))
            ∙ or_false (has x (tasks_on k j)) ∙ are.on k x ∙ ap (is_on k) (sym (place_there v u x (place_of v t) d))
      ];
      cluster = λ k x h. elim (cases_eq x u) [
        | inl at ↦ subst (λ (y : ℕ). cluster_of y (j ++ e ∷ []) ≡ k) (sym at) (
            cluster_push u j e ∙ ap (λ (b : Bool). cond b (cluster_of t j) (last_clusters (λ y. 0) j u)) (self_test u) ∙ mine ∙ some_same c k (sym now ∙ subst (λ (y : ℕ). place_of w y ≡ Some k) at h)
            )
        | inr d ↦
            cluster_push x j e ∙ ap (λ (b : Bool). cond b (cluster_of t j) (last_clusters (λ y. 0) j x)) (apart_test x u d) ∙ are.cluster k x (sym (place_there v u x (place_of v t) d) ∙ h)
      ];
    }
  where
    some_same : (m n : ℕ) → Some m ≡ Some n → m ≡ n
    some_same m n s = cc

-- ---- a task migrates
migrated_on : (k : ℕ) (j : Journal) (p t : ℕ) (i : Cost) (c : ℕ) → tasks_on k (j ++ asking kind.Migrate p t i 0 (pos c) (pos 0) ∷ []) ≡ off t (tasks_on k j) ++ option_to_list (where_true (c == k) t)
migrated_on k j p t i c =
    let e = asking kind.Migrate p t i 0 (pos c) (pos 0) in
    on_push k j e ∙ ap (λ (b : Bool). off t (tasks_on k j) ++ option_to_list (where_true (cond b c (last_clusters (λ x. 0) j t) == k) t)) (self_test t)

pub migrates : LawMigrates
migrates v j p t i c lt are =
    let e = asking kind.Migrate p t i 0 (pos c) (pos 0) in
    let w = with_place v t (Some c) in
    let now = place_here v t (Some c) lt in
    record {
      on = λ k x. elim (cases_eq x t) [
        | inl at ↦ subst (λ (y : ℕ). has y (tasks_on k (j ++ e ∷ [])) ≡ is_on k (place_of w y)) (sym at) (
            ap (has t) (migrated_on k j p t i c) ∙ has_push t (off t (tasks_on k j)) (option_to_list (where_true (c == k) t))
            ∙ ap (λ (b : Bool). b || has t (option_to_list (where_true (c == k) t))) (off_same t (tasks_on k j))
            ∙ put_at (c == k) t t ∙ ap (λ (b : Bool). (c == k) && b) (self_test t) ∙ and_true (c == k) ∙ ap (is_on k) (sym now)
            )
        | inr d ↦
            ap (has x) (migrated_on k j p t i c) ∙ has_push x (off t (tasks_on k j)) (option_to_list (where_true (c == k) t))
            ∙ ap (λ (b : Bool). has x (off t (tasks_on k j)) || b) (put_at (c == k) t x ∙ ap (λ (b : Bool). (c == k) && b) (apart_test t x (λ s. d (sym s))) ∙ and_false (c == k))
            ∙ or_false (has x (off t (tasks_on k j))) ∙ off_other x t (tasks_on k j) d ∙ are.on k x ∙ ap (is_on k) (sym (place_there v t x (Some c) d))
      ];
      cluster = λ k x h. elim (cases_eq x t) [
        | inl at ↦ subst (λ (y : ℕ). cluster_of y (j ++ e ∷ []) ≡ k) (sym at) (
            cluster_push t j e ∙ ap (λ (b : Bool). cond b c (last_clusters (λ y. 0) j t)) (self_test t) ∙ some_same c k (sym now ∙ subst (λ (y : ℕ). place_of w y ≡ Some k) at h)
            )
        | inr d ↦
            cluster_push x j e ∙ ap (λ (b : Bool). cond b c (last_clusters (λ y. 0) j x)) (apart_test x t d) ∙ are.cluster k x (sym (place_there v t x (Some c) d) ∙ h)
      ];
    }
  where
    some_same : (m n : ℕ) → Some m ≡ Some n → m ≡ n
    some_same m n s = cc

-- ---- a task ends
ended_on : (k : ℕ) (j : Journal) (e : Entry) (z : EntryKind) → z ≡ kind.End → filter (λ t. not (leaves_cluster z e t)) (tasks_on k j) ++ option_to_list (on_cluster k (noted_at j e).cluster (comes_to_stand z e)) ≡ off e.task (tasks_on k j)
ended_on k j e z is = subst (λ (y : EntryKind). filter (λ t. not (leaves_cluster y e t)) (tasks_on k j) ++ option_to_list (on_cluster k (noted_at j e).cluster (comes_to_stand y e)) ≡ off e.task (tasks_on k j)) (sym is) (append-nil (off e.task (tasks_on k j)))

ended_clusters : (z : EntryKind) (f : ℕ → ℕ) (e : Entry) (t : ℕ) → z ≡ kind.End → clusters f z e t ≡ f t
ended_clusters z f e t is = subst (λ (y : EntryKind). clusters f y e t ≡ f t) (sym is) refl

pub ended : LawEnded
ended v j e is lt are =
    let w = with_place v e.task None in
    let now = place_here v e.task None lt in
    record {
      on = λ k x. elim (cases_eq x e.task) [
        | inl at ↦ subst (λ (y : ℕ). has y (tasks_on k (j ++ e ∷ [])) ≡ is_on k (place_of w y)) (sym at) (ap (has e.task) (on_push k j e ∙ ended_on k j e e.kind is) ∙ off_same e.task (tasks_on k j) ∙ ap (is_on k) (sym now))
        | inr d ↦ ap (has x) (on_push k j e ∙ ended_on k j e e.kind is) ∙ off_other x e.task (tasks_on k j) d ∙ are.on k x ∙ ap (is_on k) (sym (place_there v e.task x None d))
      ];
      cluster = λ k x h. elim (cases_eq x e.task) [
        | inl at ↦ absurd (none_some k (sym now ∙ subst (λ (y : ℕ). place_of w y ≡ Some k) at h))
        | inr d ↦ cluster_push x j e ∙ ended_clusters e.kind (last_clusters (λ y. 0) j) e x is ∙ are.cluster k x (sym (place_there v e.task x None d) ∙ h)
      ];
    }
  where
    none_some : (n : ℕ) → (let z : Option ℕ = None in z ≡ Some n) → ⊥
    none_some n s = cc

-- ---- any other entry
stands_on : (k : ℕ) (f : ℕ → ℕ) (e : Entry) (xs : List ℕ) (z : EntryKind) → tells_place z ≡ false → filter (λ t. not (leaves_cluster z e t)) xs ++ option_to_list (on_cluster k f (comes_to_stand z e)) ≡ xs
stands_on k f e xs kind.Begin h = absurd cc
stands_on k f e xs kind.Spawn h = absurd cc
stands_on k f e xs kind.Migrate h = absurd cc
stands_on k f e xs kind.End h = absurd cc
stands_on k f e xs _ h = append-nil _ ∙ filter_true (λ x. true) xs (λ x. refl)

stands_clusters : (z : EntryKind) (f : ℕ → ℕ) (e : Entry) (t : ℕ) → tells_place z ≡ false → clusters f z e t ≡ f t
stands_clusters kind.Spawn f e t h = absurd cc
stands_clusters kind.Migrate f e t h = absurd cc
stands_clusters _ f e t h = refl

pub stands : LawStands
stands v j e h are = record {
  on = λ k x. ap (has x) (on_push k j e ∙ stands_on k (noted_at j e).cluster e (tasks_on k j) e.kind h) ∙ are.on k x;
  cluster = λ k x g. cluster_push x j e ∙ stands_clusters e.kind (last_clusters (λ y. 0) j) e x h ∙ are.cluster k x g;
}
