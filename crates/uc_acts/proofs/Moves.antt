-- What makes an entry legal.
use Rattle.std.proofs.Common.{◌≡◌, ◌≢◌, ℕ, suc, ◌==◌, ◌<◌, ◌≤◌, ◌&&◌, ◌||◌, Bool, true, false, cond, List, [], ◌∷◌, ◌++◌, Option, Some, None, map, refl, sym, ap, ◌∙◌, arith, length, ⊎_elim}
use Rattle.std.specs.List.{list_any}
use Rattle.std.proofs.lemmas.Bool.{eqb-true, eq-eqb, ne_eqb, cases_lt}
use Rattle.uc_entry.specs.declared.entry.Entry.{Entry}
use Rattle.uc_acts.specs.Journal.{Journal, inside}
use Rattle.uc_acts.specs.Queues.{waiting, stacked}
use Rattle.uc_acts.specs.Doors.{open_at}
use Rattle.uc_tree.specs.SiteOffers.{oldest, met, met_or, Met}
use Rattle.uc_acts.specs.Known.{object_count, task_count}
use Rattle.uc_acts.specs.Stations.{Station, Ready, Running, Waits, Stacked, Blocked, times, tasks_at, one_if}
use Rattle.uc_acts.specs.KernelRuns.{IsInside}
use Rattle.uc_acts.specs.Sound.{At, Ended, Sound, Spot, Unborn, here, moved_if, mover, spot, target}
use Rattle.uc_acts.specs.Legal.{DoorFit, IsFree, IsNext, Legal, removes}
use Rattle.uc_acts.proofs.Noted.{noted_at}
use Rattle.uc_acts.proofs.Spots.{spot_push}
use Rattle.uc_acts.proofs.Seats.{inside_after, open_after, stacked_after, waiting_after, inside_same, open_same, stacked_same, waiting_same}
use Rattle.uc_acts.proofs.SoundLemmas.{self_test, objects_push, tasks_push, some_object}

-- where a task is

same_if : (n : ℕ) (b : Bool) → one_if b ≡ suc n → b ≡ true
same_if n true h = refl
same_if n false h = cc

both_true : (a b : Bool) → (a && b) ≡ true → (a ≡ true) × (b ≡ true)
both_true true b h = (refl, h)
both_true false b h = cc

pub at_place : (r : Station) (P : Spot) (n : ℕ) → here r P ≡ suc n → P ≡ At r
at_place r Unborn n h = cc
at_place r Ended n h = cc
at_place (Ready k) (At (Ready l)) n h = ap (λ v. At (Ready v)) (eqb-true l k (same_if n (l == k) h))
at_place (Running k) (At (Running l)) n h = ap (λ v. At (Running v)) (eqb-true l k (same_if n (l == k) h))
at_place (Waits k) (At (Waits l)) n h = ap (λ v. At (Waits v)) (eqb-true l k (same_if n (l == k) h))
at_place (Stacked k) (At (Stacked l)) n h = ap (λ v. At (Stacked v)) (eqb-true l k (same_if n (l == k) h))
at_place (Blocked o c) (At (Blocked u d)) n h =
    let b = both_true (u == o) (d == c) (same_if n ((u == o) && (d == c)) h) in
    let e : u ≡ o = eqb-true u o b.0 in
    let f : d ≡ c = eqb-true d c b.1 in
    cc
at_place r (At q) n h = cc

module _ (j : Journal) (s : Sound j) where
  pub counted_at : (r : Station) (t n : ℕ) → times t (tasks_at r j) ≡ suc n → spot t j ≡ At r
  counted_at r t n h = at_place r (spot t j) n (sym (s.seats t r) ∙ h)

  pub first_at : (r : Station) (t : ℕ) (ts : List ℕ) → tasks_at r j ≡ t ∷ ts → spot t j ≡ At r
  first_at r t ts h =
      let self = self_test t in counted_at r t (times t ts) (ap (times t) h ∙ simp self)

  pub known_at : (t : ℕ) (r : Station) → spot t j ≡ At r → t < task_count j
  known_at t r h = ⊎_elim (λ lt. lt) (λ le. absurd (unborn (sym h ∙ s.few t le))) (cases_lt t (task_count j))
    where
      unborn : At r ≡ Unborn → ⊥
      unborn e = cc

-- tasks at two spots are two
pub apart : (j : Journal) (t u : ℕ) (P Q : Spot) → spot t j ≡ P → spot u j ≡ Q → P ≢ Q → (t == u) ≡ false
apart j t u P Q h g n = ne_eqb t u (λ e. n (sym h ∙ ap (λ v. spot v j) e ∙ g))

oldest_counts : (m u : ℕ) (ws : List (ℕ × ℕ)) → oldest m ws ≡ Some u → (n : ℕ) × (times u (map (λ w. w.0) ws) ≡ suc n)
oldest_counts m u [] h = cc
oldest_counts m u (w ∷ ws) h = by (λ g. oldest_counts m u ws g) (w.1 == m) refl
  where
    some_eq : {A : Type 0} (a b : A) → Some a ≡ Some b → a ≡ b
    some_eq a b e = cc

    later : (b : Bool) → (n : ℕ) × (times u (map (λ w. w.0) ws) ≡ suc n) → (n : ℕ) × (cond b (suc (times u (map (λ w. w.0) ws))) (times u (map (λ w. w.0) ws)) ≡ suc n)
    later true h = (times u (map (λ w. w.0) ws), refl)
    later false h = h

    by : (oldest m ws ≡ Some u → (n : ℕ) × (times u (map (λ w. w.0) ws) ≡ suc n)) → (b : Bool) → (w.1 == m) ≡ b → (n : ℕ) × (times u (map (λ w. w.0) (w ∷ ws)) ≡ suc n)
    by ih true g =
        let e : w.0 ≡ u = some_eq w.0 u (sym (ap (λ b. cond b (Some w.0) (oldest m ws)) g) ∙ h) in
        let same : (u == w.0) ≡ true = eq-eqb u w.0 (sym e) in
        (times u (map (λ w. w.0) ws), simp same)
    by ih false g =
        later (u == w.0) (ih (sym (ap (λ b. cond b (Some w.0) (oldest m ws)) g) ∙ h))

-- whoever an accept takes waits there
pub met_counts : (xs ws : List (ℕ × ℕ)) (x : Met) → met xs ws ≡ Some x → (n : ℕ) × (times x.task (map (λ w. w.0) ws) ≡ suc n)
met_counts [] ws x h = cc
met_counts (y ∷ xs) ws x h = by (λ g. met_counts xs ws x g) (oldest y.1 ws) refl
  where
    by : (met xs ws ≡ Some x → (n : ℕ) × (times x.task (map (λ w. w.0) ws) ≡ suc n)) → (o : Option ℕ) → oldest y.1 ws ≡ o → (n : ℕ) × (times x.task (map (λ w. w.0) ws) ≡ suc n)
    by ih None g = ih (sym (ap (λ o. met_or y o (met xs ws)) g) ∙ h)
    by ih (Some u) g =
        let e : Some (record { clause = y.0; member = y.1; task = u }) ≡ Some x = sym (ap (λ o. met_or y o (met xs ws)) g) ∙ h in
        let f : u ≡ x.task = task_of (record { clause = y.0; member = y.1; task = u }) x e in
        oldest_counts y.1 x.task ws (g ∙ ap Some f)
      where
        task_of : (a b : Met) → Some a ≡ Some b → a.task ≡ b.task
        task_of a b e = let f : a ≡ b = cc in ap (λ m. m.task) f

-- from where entries take their tasks

pub from_run : (e : Entry) (P : Spot) (p : ℕ) → ((q : ℕ) → removes (Running q) e.kind e ≡ (p == q)) → P ≡ At (Running p) → (r : Station) → removes r e.kind e ≡ false → here r P ≡ 0
from_run e P p h g (Running q) n = ap (here (Running q)) g ∙ ap one_if (sym (h q) ∙ n)
from_run e P p h g (Ready k) n = ap (here (Ready k)) g
from_run e P p h g (Waits o) n = ap (here (Waits o)) g
from_run e P p h g (Stacked o) n = ap (here (Stacked o)) g
from_run e P p h g (Blocked o c) n = ap (here (Blocked o c)) g

pub from_waits : (e : Entry) (P : Spot) (o : ℕ) → ((u : ℕ) → removes (Waits u) e.kind e ≡ (o == u)) → P ≡ At (Waits o) → (r : Station) → removes r e.kind e ≡ false → here r P ≡ 0
from_waits e P o h g (Waits u) n = ap (here (Waits u)) g ∙ ap one_if (sym (h u) ∙ n)
from_waits e P o h g (Ready k) n = ap (here (Ready k)) g
from_waits e P o h g (Running u) n = ap (here (Running u)) g
from_waits e P o h g (Stacked u) n = ap (here (Stacked u)) g
from_waits e P o h g (Blocked u c) n = ap (here (Blocked u c)) g

pub from_stacked : (e : Entry) (P : Spot) (o : ℕ) → ((u : ℕ) → removes (Stacked u) e.kind e ≡ (o == u)) → P ≡ At (Stacked o) → (r : Station) → removes r e.kind e ≡ false → here r P ≡ 0
from_stacked e P o h g (Stacked u) n = ap (here (Stacked u)) g ∙ ap one_if (sym (h u) ∙ n)
from_stacked e P o h g (Ready k) n = ap (here (Ready k)) g
from_stacked e P o h g (Running u) n = ap (here (Running u)) g
from_stacked e P o h g (Waits u) n = ap (here (Waits u)) g
from_stacked e P o h g (Blocked u c) n = ap (here (Blocked u c)) g

pub from_blocked : (e : Entry) (P : Spot) (o c : ℕ) → ((u d : ℕ) → removes (Blocked u d) e.kind e ≡ (o == u)) → P ≡ At (Blocked o c) → (r : Station) → removes r e.kind e ≡ false → here r P ≡ 0
from_blocked e P o c h g (Blocked u d) n =
    ap (here (Blocked u d)) g ∙ ap (λ b. one_if (b && (c == d))) (sym (h u d) ∙ n)
from_blocked e P o c h g (Ready k) n = ap (here (Ready k)) g
from_blocked e P o c h g (Running u) n = ap (here (Running u)) g
from_blocked e P o c h g (Waits u) n = ap (here (Waits u)) g
from_blocked e P o c h g (Stacked u) n = ap (here (Stacked u)) g

pub from_ready : (e : Entry) (P : Spot) (k : ℕ) → ((l : ℕ) → removes (Ready l) e.kind e ≡ true) → P ≡ At (Ready k) → (r : Station) → removes r e.kind e ≡ false → here r P ≡ 0
from_ready e P k h g (Ready l) n = absurd (no_both (removes (Ready l) e.kind e) (h l) n)
  where
    no_both : (b : Bool) → b ≡ true → b ≡ false → ⊥
    no_both b t f = cc
from_ready e P k h g (Blocked u d) n = ap (here (Blocked u d)) g
from_ready e P k h g (Running u) n = ap (here (Running u)) g
from_ready e P k h g (Waits u) n = ap (here (Waits u)) g
from_ready e P k h g (Stacked u) n = ap (here (Stacked u)) g

-- an entry that moves nobody
pub legal_still : (e : Entry) (j : Journal) → ((t : ℕ) → mover e.kind e t ≡ false) → IsFree e.kind e j → IsNext e.kind e j → e.object < object_count (j ++ e ∷ []) → DoorFit e.kind e (inside e.object j) (open_at e.object j) → Legal e j
legal_still e j still free next made door = record {
  from = λ t h. absurd (no_both (mover e.kind e t) h (still t));
  free = free;
  born = λ t h. absurd (no_both (mover e.kind e t) h (still t));
  next = next;
  made = made;
  door = door;
}
  where
    no_both : (b : Bool) → b ≡ true → b ≡ false → ⊥
    no_both b t f = cc

-- one that moves task u alone
pub legal_one : (e : Entry) (j : Journal) (u : ℕ) → ((t : ℕ) → mover e.kind e t ≡ true → t ≡ u) → ((r : Station) → removes r e.kind e ≡ false → here r (spot u j) ≡ 0) → u < task_count (j ++ e ∷ []) → IsFree e.kind e j → IsNext e.kind e j → e.object < object_count (j ++ e ∷ []) → DoorFit e.kind e (inside e.object j) (open_at e.object j) → Legal e j
legal_one e j u only from born free next made door = record {
  from = λ t h r n. ap (λ v. here r (spot v j)) (only t h) ∙ from r n;
  free = free;
  born = λ t h. rw (only t h) born;
  next = next;
  made = made;
  door = door;
}

pub more_objects : (j : Journal) (e : Entry) (o : ℕ) → o < object_count j → o < object_count (j ++ e ∷ [])
more_objects j e o lt = let h = objects_push j e in omega (arith, h)

pub more_tasks : (j : Journal) (e : Entry) (t : ℕ) → t < task_count j → t < task_count (j ++ e ∷ [])
more_tasks j e t lt = let h = tasks_push j e in omega (arith, h)

pub object_0 : (j : Journal) (e : Entry) → 0 < object_count (j ++ e ∷ [])
object_0 j e = let h = some_object (j ++ e ∷ []) in omega (arith, h)

-- in a list of at most one, the one that is in it
pub only_one : (xs : List ℕ) (t : ℕ) → length xs ≤ 1 → list_any (λ x. x == t) xs ≡ true → xs ≡ t ∷ []
only_one [] t l h = cc
only_one (x ∷ []) t l h = ap (λ y. y ∷ []) (eqb-true x t (first (x == t) h))
  where
    first : (b : Bool) → (b || false) ≡ true → b ≡ true
    first true e = refl
    first false e = e
only_one (x ∷ y ∷ ys) t l h = absurd (omega arith)

pub one_inside : (j : Journal) (o t : ℕ) → Sound j → IsInside t o j → inside o j ≡ t ∷ []
one_inside j o t s h = only_one (inside o j) t (s.doors o).one h

-- the filters of the entry's own object
pub inside_now : (j : Journal) (e : Entry) → inside e.object (j ++ e ∷ []) ≡ inside_after e.kind e (inside e.object j)
inside_now j e = inside_same e.object j e (self_test e.object)

pub open_now : (j : Journal) (e : Entry) → open_at e.object (j ++ e ∷ []) ≡ open_after e.kind e (open_at e.object j)
open_now j e = open_same e.object j e (self_test e.object)

pub waiting_now : (j : Journal) (e : Entry) → waiting e.object (j ++ e ∷ []) ≡ waiting_after e.kind e (waiting e.object j)
waiting_now j e = waiting_same e.object j e (self_test e.object)

pub stacked_now : (j : Journal) (e : Entry) → stacked e.object (j ++ e ∷ []) ≡ stacked_after e.kind e (stacked e.object j)
stacked_now j e = stacked_same e.object j e (self_test e.object)

pub spot_stays : (j : Journal) (e : Entry) (t : ℕ) → mover e.kind e t ≡ false → spot t (j ++ e ∷ []) ≡ spot t j
spot_stays j e t h =
    spot_push t j e ∙ ap (λ m. moved_if m (target e.kind (noted_at j e) t) (spot t j)) h

pub spot_moves : (j : Journal) (e : Entry) (t : ℕ) → mover e.kind e t ≡ true → spot t (j ++ e ∷ []) ≡ target e.kind (noted_at j e) t
spot_moves j e t h =
    spot_push t j e ∙ ap (λ m. moved_if m (target e.kind (noted_at j e) t) (spot t j)) h
