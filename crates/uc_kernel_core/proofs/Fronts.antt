-- The task that waits at the front of a condition, and a task that runs, in the words of the parts.
use Rattle.std.proofs.Common.{◌≡◌, ℕ, ℤ, pos, ◌==◌, ◌<◌, ◌&&◌, Bool, true, false, not, cond, List, [], ◌∷◌, ◌++◌, Option, Some, None, map, refl, sym, ap, ◌∙◌, subst, length, length-set, set, get_or, arith}
use Rattle.std.specs.Option.{option_to_list}
use Rattle.std.specs.List.{filter}
use Rattle.std.proofs.lemmas.List.{set-set}
use Rattle.std.proofs.lemmas.Bool.{eqb-true}
use Rattle.uc_tree.specs.Programs.{Site}
use Rattle.uc_entry.specs.declared.entry.Entry.{Entry}
use Rattle.uc_entry.specs.declared.entry.Options.{Options}
use Rattle.uc_acts.specs.Journal.{Journal, inside, holds}
use Rattle.uc_acts.specs.Queues.{running, last_actor}
use Rattle.uc_acts.specs.Doors.{blocked, calls_destructor, open_at}
use Rattle.uc_acts.specs.Known.{object_count, task_count}
use Rattle.uc_acts.specs.Acts.{admit, push, settled}
use Rattle.uc_acts.specs.Stations.{Waits, Stacked, Blocked}
use Rattle.uc_acts.specs.Sound.{At, spot, here}
use Rattle.uc_acts.specs.Legal.{Legal}
use Rattle.uc_acts.proofs.SoundLemmas.{self_test, all_kept_nil}
use Rattle.uc_acts.proofs.Moves.{first_at, known_at, inside_now, from_blocked, apart}
use Rattle.uc_acts.proofs.Rows.{legal_admit, legal_push}
use Rattle.uc_links.specs.Lists.{without}
use Rattle.uc_mutex.specs.Doors.{Door, Doors, IsFree, door_at, with_door, on_top, let_in, has_tasks, unmarked}
use Rattle.uc_kernel_core.specs.DoorLaws.{IsDoor}
use Rattle.uc_kernel_core.proofs.DoorLemmas.{push_one, admit_one}
use Rattle.uc_condition.specs.Waiting.{Waiting, Became, IsBusy, queue_at, first_task, rest_of, put}
use Rattle.uc_condition.specs.Waiting.{IsFree as IsIdle}
use Rattle.uc_condition.proofs.Mirrors.{take_one}
use Rattle.uc_events.specs.Pending.{Event}
use Rattle.uc_cluster.specs.Standing.{Standing, IsPlaced, IsUnready, made_ready}
use Rattle.uc_kernel_core.specs.Mirrors.{Mirrors, WaitsAre, queued_at}
use Rattle.uc_kernel_core.specs.Waiters.{front_pushed, front_admitted}
use Rattle.uc_kernel_core.proofs.Doors.{same_objects, same_tasks, free_by, idle_by}
use Rattle.uc_kernel_core.proofs.Nexts.{door_parts, nobody_out, idle_is, busy_is, destroys_not, destroys_it, settled_cut}
use Rattle.uc_kernel_core.proofs.Admits.{m_admit, admit_placed, admit_unready}
use Rattle.uc_kernel_core.proofs.Steps.{run_at}
use Rattle.std.proofs.Common.{⊎_elim, inl, inr}
use Rattle.std.specs.Prelude.{◌⊎◌}

pub none_of : {A : Type 0} (x : Option A) → option_to_list x ≡ [] → x ≡ None
none_of None h = refl
none_of (Some a) h = cc

-- one door set twice
pub set_twice : (v : Doors) (o : ℕ) (a b : Door) → with_door (with_door v o a) o b ≡ with_door v o b
set_twice v o a b =
    ap (λ (l : List Door). let w : Doors = record { tasks = v.tasks; doors = l; pulled = None } in w) (set-set v.doors o a b)

-- the front of a queue
pub record Front (u : ℕ) (ws : List (ℕ × ℤ)) : Type 0 where
  pub number : ℤ
  pub rest : List (ℕ × ℤ)
  pub is : ws ≡ (u, number) ∷ rest

front_by : (u : ℕ) (ws : List (ℕ × ℤ)) → Some u ≡ first_task ws → Front u ws
front_by u [] h = cc
front_by u (w ∷ ws) h =
    let same : u ≡ w.0 = some u w.0 h in
    record { number = w.1; rest = ws; is = ap (λ t. (t, w.1) ∷ ws) (sym same) }
  where
    some : (a b : ℕ) → Some a ≡ Some b → a ≡ b
    some a b e = cc

no_front : (ws : List (ℕ × ℤ)) → None ≡ first_task ws → ws ≡ []
no_front [] h = refl
no_front (w ∷ ws) h = cc

module _ (opts : Options) (sites : List Site) (j : Journal) (doors : Doors) (waits : Waiting) (events : List (List Event)) (standing : Standing) (marks ins : List Bool) (owners : List (Option ℕ)) (own : List ℕ) (h : Mirrors opts sites j doors waits events standing marks ins owners own) where
  -- a task that runs
  pub run_idle : (p t : ℕ) → running p j ≡ t ∷ [] → IsIdle t waits
  run_idle p t runs =
      let at = run_at opts sites j doors waits events standing marks ins owners own h p t runs in
      idle_by j waits h.waits_are h.sound t (λ o c. ap (here (Blocked o c)) at)

  pub run_free : (p t : ℕ) → running p j ≡ t ∷ [] → IsFree t doors
  run_free p t runs =
      let at = run_at opts sites j doors waits events standing marks ins owners own h p t runs in
      free_by sites j doors h.doors_are h.sound h.stood t (λ o. ap (here (Waits o)) at) (λ o. ap (here (Stacked o)) at)

  -- with other parts that tell the same
  pub with_waits : (waits' : Waiting) → WaitsAre j waits' → Mirrors opts sites j doors waits' events standing marks ins owners own
  with_waits waits' ws = record {
    doors_are = h.doors_are;
    waits_are = ws;
    events_are = h.events_are;
    clusters_are = h.clusters_are;
    marks_are = h.marks_are;
    owners_are = h.owners_are;
    few = h.few;
    sound = h.sound;
    stood = h.stood;
    known_sites = h.known_sites;
    owned = h.owned;
    fresh = h.fresh;
  }

  -- nobody waits
  module _ (o c : ℕ) (w : Waiting) (became : Became waits w o c (rest_of (queue_at waits o c))) where
    pub nobody_left : None ≡ first_task (queue_at waits o c) → Mirrors opts sites j doors w events standing marks ins owners own
    nobody_left n =
        let empty = no_front (queue_at waits o c) n in
        with_waits w (record {
          blocked = λ v d. became.queue v d ∙ by v d ((o == v) && (c == d)) refl empty ∙ h.waits_are.blocked v d;
          pool = rw became.tasks h.waits_are.pool;
          known = rw became.objects h.waits_are.known;
        })
      where
        both : (a b : Bool) → (a && b) ≡ true → (a ≡ true) × (b ≡ true)
        both true b e = (refl, e)
        both false b e = cc

        by : (v d : ℕ) (b : Bool) → ((o == v) && (c == d)) ≡ b → queue_at waits o c ≡ [] → put o c (rest_of (queue_at waits o c)) (queue_at waits) v d ≡ queue_at waits v d
        by v d false e n = ap (λ b. cond b (rest_of (queue_at waits o c)) (queue_at waits v d)) e
        by v d true e n =
            let s = both (o == v) (c == d) e in
            ap (λ b. cond b (rest_of (queue_at waits o c)) (queue_at waits v d)) e ∙ ap rest_of n ∙ sym n ∙ ap (λ x. queue_at waits x c) (eqb-true o v s.0) ∙ ap (queue_at waits v) (eqb-true c d s.1)

    pub nobody_blocked : None ≡ first_task (queue_at waits o c) → blocked o c j ≡ []
    nobody_blocked n = sym (h.waits_are.blocked o c) ∙ no_front (queue_at waits o c) n

    -- somebody does
    module _ (u : ℕ) (first : Some u ≡ first_task (queue_at waits o c)) where
      front : Front u (blocked o c j)
      front = front_by u (blocked o c j) (first ∙ ap first_task (h.waits_are.blocked o c))

      pub front_at : spot u j ≡ At (Blocked o c)
      front_at = first_at j h.sound (Blocked o c) u (map (λ b. b.0) front.rest) (ap (map (λ b. b.0)) front.is)

      pub front_known : u < task_count j
      front_known = known_at j h.sound u (Blocked o c) front_at

      pub front_queued : queued_at o (spot u j) ≡ true
      front_queued = ap (queued_at o) front_at ∙ self_test o

      pub front_free : IsFree u doors
      front_free =
          free_by sites j doors h.doors_are h.sound h.stood u (λ v. ap (here (Waits v)) front_at) (λ v. ap (here (Stacked v)) front_at)

      pub pushed_row : (p : ℕ) → front_pushed p o (blocked o c j) ≡ push p u o ∷ []
      pushed_row p = ap (front_pushed p o) front.is

      pub admitted_row : (p : ℕ) → front_admitted p o (blocked o c j) ≡ admit p u o 4 0 ∷ []
      admitted_row p = ap (front_admitted p o) front.is

      pub push_legal : (p : ℕ) → open_at o j ≡ [] → o < object_count j → Legal (push p u o) j
      push_legal p shut known =
          legal_push j p u o shut known front_known (from_blocked (push p u o) (spot u j) o c (λ v d. refl) front_at)

      pub admit_legal : (p : ℕ) → inside o j ≡ [] → o < object_count j → Legal (admit p u o 4 0) j
      admit_legal p empty known =
          legal_admit j p u o 4 0 false empty known front_known (from_blocked (admit p u o 4 0) (spot u j) o c (λ v d. refl) front_at)

      pub pushed_waits : (p : ℕ) → IsIdle u w → WaitsAre (j ++ push p u o ∷ []) w
      pushed_waits p idle = record {
        blocked = take_one waits w j (push p u o) c refl h.waits_are.blocked first became idle;
        pool = rw (same_tasks j (push p u o) refl, became.tasks) h.waits_are.pool;
        known = rw (same_objects j (push p u o) refl, became.objects) h.waits_are.known;
      }

      pub admitted_waits : (p : ℕ) → IsIdle u w → WaitsAre (j ++ admit p u o 4 0 ∷ []) w
      admitted_waits p idle = record {
        blocked = take_one waits w j (admit p u o 4 0) c refl h.waits_are.blocked first became idle;
        pool = rw (same_tasks j (admit p u o 4 0) refl, became.tasks) h.waits_are.pool;
        known = rw (same_objects j (admit p u o 4 0) refl, became.objects) h.waits_are.known;
      }

  -- a task in no list of a door
  module _ (o : ℕ) (lt : o < length doors.doors) (u : ℕ) (free : IsFree u doors) where
    pub pushed_door : (p : ℕ) → IsDoor sites o (j ++ push p u o ∷ []) (on_top (u, unmarked) (door_at doors o))
    pushed_door p =
        let d = door_at doors o in
        subst (IsDoor sites o (j ++ push p u o ∷ [])) (door_parts d.inside d.inside (without u d.waiting) d.waiting ((u, unmarked) ∷ d.stacked) ((u, unmarked) ∷ d.stacked) d.opened d.opened refl (nobody_out u d.waiting (free o lt).0) refl refl) (push_one sites o j d p u (h.doors_are.each o lt))

    pub admitted_door : (p way : ℕ) (clause : ℕ) → holds 1 (pos way) ≡ false → inside o j ≡ [] → IsDoor sites o (j ++ admit p u o way clause ∷ []) (let_in u (door_at doors o))
    admitted_door p way clause n empty =
        let d = door_at doors o in
        subst (IsDoor sites o (j ++ admit p u o way clause ∷ [])) (door_parts (Some u) (Some u) (without u d.waiting) d.waiting (filter (λ s. not (s.0 == u)) d.stacked) d.stacked None None refl (nobody_out u d.waiting (free o lt).0) (nobody_out u d.stacked (free o lt).1) refl) (admit_one sites o j d p u way clause false n empty (h.doors_are.each o lt))

  pub same_inside : (p u o : ℕ) → inside o (j ++ push p u o ∷ []) ≡ inside o j
  same_inside p u o = inside_now j (push p u o) ∙ all_kept_nil (inside o j)

-- ---- whether an admission destroys what is in use, by the parts once it stands
module _ (opts : Options) (sites : List Site) (j : Journal) (p u o way clause : ℕ) (doors : Doors) (waits : Waiting) (events : List (List Event)) (standing : Standing) (marks ins : List Bool) (owners : List (Option ℕ)) (own : List ℕ) (h : Mirrors opts sites (j ++ admit p u o way clause ∷ []) doors waits events standing marks ins owners own) (lt : o < length doors.doors) (b : Bool) (mark : b ≡ calls_destructor o u j) (f : Entry) (rest : List Entry) where
  pub kept_by : (b ≡ false) ⊎ ((has_tasks (door_at doors o) ≡ false) × ((c : ℕ) → queue_at waits o c ≡ [])) → settled f j (admit p u o way clause ∷ rest) ≡ admit p u o way clause ∷ settled f (j ++ admit p u o way clause ∷ []) rest
  kept_by x =
      let n = destroys_not j p u o way clause false b mark (⊎_elim (λ y. inl y) (λ y. inr (idle_is sites o (j ++ admit p u o way clause ∷ []) (door_at doors o) (h.doors_are.each o lt) h.sound h.stood waits h.waits_are.blocked y.0 y.1)) x) in
      ap (λ c. cond c (record f { ticks = 0; line = 0 } ∷ []) (admit p u o way clause ∷ settled f (j ++ admit p u o way clause ∷ []) rest)) n

  pub cut_by : (b ≡ true) × ((has_tasks (door_at doors o) ≡ true) ⊎ IsBusy o waits) → settled f j (admit p u o way clause ∷ rest) ≡ record f { ticks = 0; line = 0 } ∷ []
  cut_by x =
      settled_cut f j (admit p u o way clause) rest (destroys_it j p u o way clause false b mark x.0 (busy_is sites o (j ++ admit p u o way clause ∷ []) (door_at doors o) (h.doors_are.each o lt) h.sound h.stood waits h.waits_are.blocked x.1))

-- ---- the front waiter comes in
module _ (opts : Options) (sites : List Site) (j : Journal) (doors : Doors) (waits : Waiting) (events : List (List Event)) (standing : Standing) (marks ins : List Bool) (owners : List (Option ℕ)) (own : List ℕ) (h : Mirrors opts sites j doors waits events standing marks ins owners own) (o c : ℕ) (w : Waiting) (became : Became waits w o c (rest_of (queue_at waits o c))) (u : ℕ) (first : Some u ≡ first_task (queue_at waits o c)) (known : o < object_count j) where
  lt : o < length doors.doors
  lt = rw h.doors_are.made known

  pub front_mark : (b x : Bool) → b ≡ get_or marks u x → b ≡ calls_destructor o u j
  front_mark b x was =
      let few = h.few in
      let n = h.marks_are.tasks in
      let k = front_known opts sites j doors waits events standing marks ins owners own h o c w became u first in
      was ∙ h.marks_are.marked u o x (omega arith) (front_queued opts sites j doors waits events standing marks ins owners own h o c w became u first)

  module _ (p : ℕ) (idle : IsIdle u w) (empty : inside o j ≡ []) (b x : Bool) (was : b ≡ get_or marks u x) where
    front_legal : Legal (admit p u o 4 0) j
    front_legal = admit_legal opts sites j doors waits events standing marks ins owners own h o c w became u first p empty known

    front_door : IsDoor sites o (j ++ admit p u o 4 0 ∷ []) (let_in u (door_at doors o))
    front_door =
        admitted_door opts sites j doors waits events standing marks ins owners own h o lt u (front_free opts sites j doors waits events standing marks ins owners own h o c w became u first) p 4 0 refl empty

    front_waits : WaitsAre (j ++ admit p u o 4 0 ∷ []) w
    front_waits = admitted_waits opts sites j doors waits events standing marks ins owners own h o c w became u first p idle

    pub m_front : (t : ℕ) → last_actor 0 j ≡ t → spot t j ≡ At (Stacked o) → (v : Doors) → v ≡ with_door doors o (let_in u (door_at doors o)) → Mirrors opts sites (j ++ admit p u o 4 0 ∷ []) v w events (made_ready u standing) marks (set ins o b) owners own
    m_front t acts stacked v is =
        let other = apart j u t (At (Blocked o c)) (At (Stacked o)) (front_at opts sites j doors waits events standing marks ins owners own h o c w became u first) stacked (λ e. cc) in
        subst (λ y. Mirrors opts sites (j ++ admit p u o 4 0 ∷ []) y w events (made_ready u standing) marks (set ins o b) owners own) (sym is) (m_admit opts sites j doors waits events standing marks ins owners own h p u o 4 0 false front_legal (front_queued opts sites j doors waits events standing marks ins owners own h o c w became u first) empty b (front_mark b x was) (let_in u (door_at doors o)) front_door w front_waits (ap (λ y. u == y) acts ∙ other))

    pub front_placed : IsPlaced u standing
    front_placed =
        admit_placed opts sites j doors waits events standing marks ins owners own h p u o 4 0 false front_legal (front_queued opts sites j doors waits events standing marks ins owners own h o c w became u first) empty b (front_mark b x was) (let_in u (door_at doors o)) front_door w front_waits

    pub front_unready : IsUnready u standing
    front_unready =
        admit_unready opts sites j doors waits events standing marks ins owners own h p u o 4 0 false front_legal (front_queued opts sites j doors waits events standing marks ins owners own h o c w became u first) empty b (front_mark b x was) (let_in u (door_at doors o)) front_door w front_waits

    module _ (t : ℕ) (acts : last_actor 0 j ≡ t) (stacked : spot t j ≡ At (Stacked o)) (v : Doors) (is : v ≡ with_door doors o (let_in u (door_at doors o))) (f : Entry) where
      lt_now : o < length v.doors
      lt_now = rw (ap (λ (y : Doors). length y.doors) is ∙ length-set doors.doors o (let_in u (door_at doors o))) lt

      pub front_kept : (b ≡ false) ⊎ ((has_tasks (door_at v o) ≡ false) × ((k : ℕ) → queue_at w o k ≡ [])) → settled f j (front_admitted p o (blocked o c j)) ≡ admit p u o 4 0 ∷ []
      front_kept y =
          ap (settled f j) (admitted_row opts sites j doors waits events standing marks ins owners own h o c w became u first p) ∙ kept_by opts sites j p u o 4 0 v w events (made_ready u standing) marks (set ins o b) owners own (m_front t acts stacked v is) lt_now b (front_mark b x was) f [] y

      pub front_cut : (b ≡ true) × ((has_tasks (door_at v o) ≡ true) ⊎ IsBusy o w) → settled f j (front_admitted p o (blocked o c j)) ≡ record f { ticks = 0; line = 0 } ∷ []
      front_cut y =
          ap (settled f j) (admitted_row opts sites j doors waits events standing marks ins owners own h o c w became u first p) ∙ cut_by opts sites j p u o 4 0 v w events (made_ready u standing) marks (set ins o b) owners own (m_front t acts stacked v is) lt_now b (front_mark b x was) f [] y
