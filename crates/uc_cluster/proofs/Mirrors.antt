-- What one entry more does to the ready queues, and to what runs.
use Rattle.std.proofs.Common.{◌≡◌, ◌≢◌, ℕ, zero, suc, ◌<◌, ◌==◌, T, eqb→eq, Bool, true, false, not, cond, List, [], ◌∷◌, ◌++◌, length, Option, Some, None, refl, sym, ap, ◌∙◌, subst, inl, inr, arith, length-set, get_or-set_same, get_or-set_other}
use Rattle.std.specs.Option.{option_to_list}
use Rattle.std.specs.List.{AllByRecursion, filter}
use Rattle.std.proofs.lemmas.Bool.{cases_eq}
use Rattle.std.proofs.lemmas.List.{append-nil}
use Rattle.uc_entry.specs.declared.entry.Entry.{Entry}
use Rattle.uc_entry.specs.declared.entry.EntryKind.{EntryKind}
use Rattle.uc_entry.specs.declared.entry.EntryKind.TheVariants as kind
use Rattle.uc_acts.specs.Journal.{Journal, where_true}
use Rattle.uc_acts.specs.Queues.{ready, running, readies, puts_on, takes_off, dispatches, on_cluster, cluster_of}
use Rattle.uc_acts.specs.Acts.{dispatch}
use Rattle.uc_acts.proofs.Noted.{noted_at, last_clusters_push}
use Rattle.uc_acts.proofs.Seats.{ready_push, running_same, running_other, running_given}
use Rattle.uc_acts.proofs.SoundLemmas.{self_test, all_kept}
use Rattle.uc_cluster.specs.declared.clusters.Processor.{Processor}
use Rattle.uc_cluster.specs.Standing.{no_processor, queue_at, processor_at, place_of, or_0, made_ready, with_processor, started, front_at, front_or_0, rest_of}
use Rattle.uc_cluster.specs.Standing.{running as runs}
use Rattle.uc_cluster.specs.Laws.{is_dispatch, actor_at, LawReady, LawUnready, LawTakes, LawStarts, LawFrees, LawStays, LawKeeps}

other_test : (b : Bool) → (b ≡ true → ⊥) → b ≡ false
other_test true h = absurd (h refl)
other_test false h = refl

test_same : (m n : ℕ) → (m == n) ≡ true → m ≡ n
test_same m n t = eqb→eq m n (subst T (sym t) tt)

apart_test : (m n : ℕ) → n ≢ m → (m == n) ≡ false
apart_test m n d = other_test (m == n) (λ t. d (sym (test_same m n t)))

-- an entry that is no dispatch takes nobody from a queue
kept_ready : (k : EntryKind) (e : Entry) (xs : List ℕ) → is_dispatch k ≡ false → filter (λ t. not (dispatches k e t)) xs ≡ xs
kept_ready kind.Dispatch e xs h = absurd cc
kept_ready _ e xs h = all_kept xs

-- the cluster of a task once the entry stands
cluster_now : (t : ℕ) (j : Journal) (e : Entry) → (noted_at j e).cluster t ≡ cluster_of t (j ++ e ∷ [])
cluster_now t j e = ap (λ (f : ℕ → ℕ). f t) (sym (last_clusters_push (λ u. 0) j e))

put_at : (b : Bool) (t : ℕ) → option_to_list (where_true b t) ≡ cond b (t ∷ []) []
put_at true t = refl
put_at false t = refl

ready_now : (c t : ℕ) (j : Journal) (e : Entry) → is_dispatch e.kind ≡ false → readies e.kind e (actor_at j e) ≡ Some t → ready c (j ++ e ∷ []) ≡ ready c j ++ cond (cluster_of t (j ++ e ∷ []) == c) (t ∷ []) []
ready_now c t j e off is =
    ready_push c j e
    ∙ ap (λ (l : List ℕ). l ++ option_to_list (on_cluster c (noted_at j e).cluster (readies e.kind e (actor_at j e)))) (kept_ready e.kind e (ready c j) off)
    ∙ ap (λ (q : Option ℕ). ready c j ++ option_to_list (on_cluster c (noted_at j e).cluster q)) is
    ∙ ap (λ (l : List ℕ). ready c j ++ l) (put_at ((noted_at j e).cluster t == c) t)
    ∙ ap (λ (k : ℕ). ready c j ++ cond (k == c) (t ∷ []) []) (cluster_now t j e)

pub ready_one : LawReady
ready_one v j e t off is on lt are c =
    let k = or_0 (place_of v t) in
    let now = ready_now c t j e off is ∙ ap (λ (n : ℕ). ready c j ++ cond (n == c) (t ∷ []) []) on in
    elim (cases_eq c k) [
      | inl at ↦ subst (λ (x : ℕ). queue_at (made_ready t v).queues x ≡ ready x (j ++ e ∷ [])) (sym at) (
          get_or-set_same v.queues k (queue_at v.queues k ++ t ∷ []) [] lt
          ∙ ap (λ (q : List ℕ). q ++ t ∷ []) (are k)
          ∙ sym (ready_now k t j e off is ∙ ap (λ (n : ℕ). ready k j ++ cond (n == k) (t ∷ []) []) on ∙ ap (λ (b : Bool). ready k j ++ cond b (t ∷ []) []) (self_test k))
          )
      | inr n ↦
          get_or-set_other v.queues k c (queue_at v.queues k ++ t ∷ []) [] n
          ∙ are c
          ∙ sym (now ∙ ap (λ (b : Bool). ready c j ++ cond b (t ∷ []) []) (apart_test k c n) ∙ append-nil (ready c j))
    ]

pub unready : LawUnready
unready v j e off none are c =
    are c
    ∙ sym (ready_push c j e
    ∙ ap (λ (l : List ℕ). l ++ option_to_list (on_cluster c (noted_at j e).cluster (readies e.kind e (actor_at j e)))) (kept_ready e.kind e (ready c j) off)
    ∙ ap (λ (q : Option ℕ). ready c j ++ option_to_list (on_cluster c (noted_at j e).cluster q)) none
    ∙ append-nil (ready c j))

-- ---- a dispatch
abbrev off : ℕ → List ℕ → List ℕ
off t q = filter (λ u. not (u == t)) q

nobody_off : (t : ℕ) (q : List ℕ) → AllByRecursion (λ u. u ≢ t) q → off t q ≡ q
nobody_off t [] h = refl
nobody_off t (u ∷ q) h = ap (λ (b : Bool). cond (not b) (u ∷ off t q) (off t q)) (other_test (u == t) (λ s. h.0 (test_same u t s))) ∙ ap (λ (l : List ℕ). u ∷ l) (nobody_off t q h.1)

front_off : (t : ℕ) (q : List ℕ) → AllByRecursion (λ u. u ≢ t) q → off t (t ∷ q) ≡ q
front_off t q h = ap (λ (b : Bool). cond (not b) (t ∷ off t q) (off t q)) (self_test t) ∙ nobody_off t q h

-- nobody is in a queue of a cluster that is not known
unready_all : (qs : List (List ℕ)) (t : ℕ) → ((k : ℕ) → k < length qs → AllByRecursion (λ u. u ≢ t) (queue_at qs k)) → (k : ℕ) → AllByRecursion (λ u. u ≢ t) (queue_at qs k)
unready_all [] t h k = tt
unready_all (q ∷ qs) t h zero = h 0 (omega arith)
unready_all (q ∷ qs) t h (suc k) = unready_all qs t (λ i lt. h (suc i) (omega arith)) k

dispatched_now : (c p t : ℕ) (j : Journal) → ready c (j ++ dispatch p t ∷ []) ≡ off t (ready c j)
dispatched_now c p t j = ready_push c j (dispatch p t) ∙ append-nil (off t (ready c j))

pub takes : LawTakes
takes v j p t rest front lt away are c =
    let k = (processor_at v p).cluster in let q = rest_of (queue_at v.queues k) in
    let same : q ≡ rest = ap rest_of front in
    elim (cases_eq c k) [
      | inl at ↦ subst (λ (x : ℕ). queue_at (started v p).queues x ≡ ready x (j ++ dispatch p t ∷ [])) (sym at) (
          let here = get_or-set_same v.queues k q [] lt in
          let none = subst (AllByRecursion (λ u. u ≢ t)) (here ∙ same) (away k (subst (λ (m : ℕ). k < m) (sym (length-set v.queues k q)) lt)) in
          here ∙ same ∙ sym (front_off t rest none) ∙ ap (off t) (sym front ∙ are k) ∙ sym (dispatched_now k p t j)
          )
      | inr n ↦
          let here = get_or-set_other v.queues k c q [] n in
          let none = subst (AllByRecursion (λ u. u ≢ t)) here (unready_all (started v p).queues t away c) in
          here ∙ sym (nobody_off t (queue_at v.queues c) none) ∙ ap (off t) (are c) ∙ sym (dispatched_now c p t j)
    ]

pub starts : LawStarts
starts v j p t rest front lt are q =
    let x = runs (Some (front_at v p)) (processor_at v p) in
    elim (cases_eq q p) [
      | inl at ↦ subst (λ (y : ℕ). option_to_list (processor_at (started v p) y).task ≡ running y (j ++ dispatch p t ∷ [])) (sym at) (
          ap (λ (y : Processor). option_to_list y.task) (get_or-set_same v.processors p x no_processor lt)
          ∙ ap (λ (l : List ℕ). front_or_0 l ∷ []) front
          ∙ sym (running_given p t j)
          )
      | inr n ↦
          ap (λ (y : Processor). option_to_list y.task) (get_or-set_other v.processors p q x no_processor n)
          ∙ are q
          ∙ sym (running_other q j (dispatch p t) (apart_test p q n))
    ]

-- ---- off a processor
one_off : (t : ℕ) (f : ℕ → Bool) → f t ≡ true → filter (λ u. not (f u)) (t ∷ []) ≡ []
one_off t f h = ap (λ (b : Bool). cond (not b) (t ∷ []) []) h

pub frees : LawFrees
frees v j e t lt one out none are q =
    let x = runs None (processor_at v e.proc) in
    elim (cases_eq q e.proc) [
      | inl at ↦ subst (λ (y : ℕ). option_to_list (processor_at (with_processor v e.proc x) y).task ≡ running y (j ++ e ∷ [])) (sym at) (
          ap (λ (y : Processor). option_to_list y.task) (get_or-set_same v.processors e.proc x no_processor lt)
          ∙ sym (running_same e.proc j e (self_test e.proc)
          ∙ ap (λ (l : List ℕ). filter (λ u. not (takes_off e.kind e u)) l ++ option_to_list (puts_on e.kind e (actor_at j e))) one
          ∙ ap (λ (l : List ℕ). l ++ option_to_list (puts_on e.kind e (actor_at j e))) (one_off t (takes_off e.kind e) out)
          ∙ ap option_to_list none)
          )
      | inr n ↦
          ap (λ (y : Processor). option_to_list y.task) (get_or-set_other v.processors e.proc q x no_processor n)
          ∙ are q
          ∙ sym (running_other q j e (apart_test e.proc q n))
    ]

kept_one : (f : ℕ → Bool) (o : Option ℕ) → ((t : ℕ) → o ≡ Some t → f t ≡ false) → filter (λ u. not (f u)) (option_to_list o) ≡ option_to_list o
kept_one f None h = refl
kept_one f (Some t) h = ap (λ (b : Bool). cond (not b) (t ∷ []) []) (h t refl)

pub stays : LawStays
stays v j e out none are q =
    let task = (processor_at v e.proc).task in
    elim (cases_eq q e.proc) [
      | inl at ↦ subst (λ (y : ℕ). option_to_list (processor_at v y).task ≡ running y (j ++ e ∷ [])) (sym at) (
          sym (running_same e.proc j e (self_test e.proc)
          ∙ ap (λ (l : List ℕ). filter (λ u. not (takes_off e.kind e u)) l ++ option_to_list (puts_on e.kind e (actor_at j e))) (sym (are e.proc))
          ∙ ap (λ (l : List ℕ). l ++ option_to_list (puts_on e.kind e (actor_at j e))) (kept_one (takes_off e.kind e) task out)
          ∙ ap (λ (o : Option ℕ). option_to_list task ++ option_to_list o) none
          ∙ append-nil (option_to_list task))
          )
      | inr n ↦ are q ∙ sym (running_other q j e (apart_test e.proc q n))
    ]

-- off and on again
off_now : (j : Journal) (e : Entry) (t : ℕ) → running e.proc j ≡ t ∷ [] → takes_off e.kind e t ≡ true → puts_on e.kind e (actor_at j e) ≡ None → running e.proc (j ++ e ∷ []) ≡ []
off_now j e t one out none =
    running_same e.proc j e (self_test e.proc)
    ∙ ap (λ (l : List ℕ). filter (λ u. not (takes_off e.kind e u)) l ++ option_to_list (puts_on e.kind e (actor_at j e))) one
    ∙ ap (λ (l : List ℕ). l ++ option_to_list (puts_on e.kind e (actor_at j e))) (one_off t (takes_off e.kind e) out)
    ∙ ap option_to_list none

pub keeps : LawKeeps
keeps v j e f t same task out none on are q =
    let i = j ++ e ∷ [] in
    let one : running e.proc j ≡ t ∷ [] = ap (λ (p : ℕ). running p j) same ∙ sym (are f.proc) ∙ ap option_to_list task in
    let gone : running f.proc i ≡ [] = ap (λ (p : ℕ). running p i) (sym same) ∙ off_now j e t one out none in
    elim (cases_eq q f.proc) [
      | inl at ↦ subst (λ (y : ℕ). option_to_list (processor_at v y).task ≡ running y (i ++ f ∷ [])) (sym at) (
          ap option_to_list task
          ∙ sym (running_same f.proc i f (self_test f.proc)
          ∙ ap (λ (l : List ℕ). filter (λ u. not (takes_off f.kind f u)) l ++ option_to_list (puts_on f.kind f (actor_at i f))) gone
          ∙ ap option_to_list on)
          )
      | inr n ↦ are q ∙ sym (running_other q i f (apart_test f.proc q n) ∙ running_other q j e (apart_test e.proc q (λ z. n (z ∙ same))))
    ]
