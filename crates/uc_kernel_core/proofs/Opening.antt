-- The parts of a kernel that opens are those of its journal.
use Rattle.std.proofs.Common.{◌≡◌, ℕ, zero, suc, ◌==◌, ◌<◌, ◌≤◌, Bool, true, false, List, [], ◌∷◌, ◌++◌, Option, Some, None, refl, sym, ap, ◌∙◌, subst, arith, length, length-set, get_or, get_or-set_same}
use Rattle.std.specs.Prelude.{replicate}
use Rattle.std.specs.Option.{option_to_list}
use Rattle.std.proofs.lemmas.Bool.{eqb-true}
use Rattle.std.proofs.lemmas.List.{get_or-replicate, length-replicate}
use Rattle.uc_tree.specs.Programs.{Site}
use Rattle.uc_tree.specs.declared.limits.TheConstants.{TASKS}
use Rattle.uc_entry.specs.declared.entry.Entry.{Entry}
use Rattle.uc_entry.specs.declared.entry.Options.{Options}
use Rattle.uc_acts.specs.Journal.{begin, inside, own_object, entries_at}
use Rattle.uc_acts.specs.Queues.{waiting, stacked, cluster_of}
use Rattle.uc_acts.specs.Doors.{stack_at, open_at, blocked_at, blocked, last_call, calls_destructor}
use Rattle.uc_acts.specs.Known.{object_count, task_count, owner}
use Rattle.uc_acts.specs.Pending.{pending}
use Rattle.uc_acts.specs.Sound.{Unborn, spot, Stood}
use Rattle.uc_acts.proofs.Law.{sound_none, legal_begin, good_begin}
use Rattle.uc_acts.proofs.Moves.{spot_stays, spot_moves}
use Rattle.uc_acts.proofs.Stood.{stood_step}
use Rattle.uc_mutex.specs.Doors.{no_doors, with_new, door_at}
use Rattle.uc_kernel_core.specs.DoorLaws.{IsDoor}
use Rattle.uc_condition.specs.Waiting.{Waiting, queue_at}
use Rattle.uc_events.specs.Pending.{pending_at}
use Rattle.uc_cluster.specs.Standing.{opening, made_ready, place_of, or_0}
use Rattle.uc_cluster.specs.Standing.{queue_at as cluster_queue}
use Rattle.uc_cluster.proofs.Asked.{opens_so}
use Rattle.uc_kernel_core.specs.Mirrors.{Mirrors, AreKnownSites, queued_at, is_at}
use Rattle.uc_kernel_core.proofs.Owners.{owner_made, no_owner}
use Rattle.uc_kernel_core.proofs.Fresh.{fresh_step, fresh_none}

stood_none : (sites : List Site) → Stood sites []
unfolding waiting stacked stack_at open_at entries_at
stood_none sites = record { tasks = λ o. refl; opened = λ o a rest h. absurd (clash a rest h); calls = λ o. tt }
  where
    clash : (a : Entry) (rest : List Entry) → [] ≡ a ∷ rest → ⊥
    clash a rest h = cc

door_begin : (sites : List Site) (opts : Options) → IsDoor sites 0 (begin opts ∷ []) (record { inside = Some 0; waiting = []; stacked = []; opened = None })
unfolding waiting stack_at open_at entries_at inside
door_begin sites opts = record {
  within = refl;
  waiting = refl;
  stacked = refl;
  opened = refl;
}

counts_begin : (opts : Options) → (object_count (begin opts ∷ []) ≡ 1) × (task_count (begin opts ∷ []) ≡ 1)
unfolding object_count task_count
counts_begin opts = (refl, refl)

no_waits : (opts : Options) (o c : ℕ) (b : Bool) → (0 == o) ≡ b → blocked o c (begin opts ∷ []) ≡ []
unfolding blocked_at entries_at
no_waits opts o c true h = simp h
no_waits opts o c false h = simp h

nothing_pending : (opts : Options) (t : ℕ) → pending t (begin opts ∷ []) ≡ []
unfolding pending
nothing_pending opts t = refl

own_begin : (opts : Options) (t : ℕ) (b : Bool) → (t == 0) ≡ b → own_object t (begin opts ∷ []) ≡ 0
unfolding own_object
own_begin opts t true h = simp h
own_begin opts t false h = simp h

owner_begin : (opts : Options) → owner 0 (begin opts ∷ []) ≡ 0 ∷ []
unfolding owner entries_at
owner_begin opts = refl

no_call : (opts : Options) (t : ℕ) → calls_destructor 0 t (begin opts ∷ []) ≡ false
unfolding last_call entries_at
no_call opts t = refl

spot_none : (t : ℕ) → spot t [] ≡ Unborn
unfolding spot
spot_none t = refl

not_queued : (opts : Options) (t o : ℕ) (b : Bool) → (t == 0) ≡ b → queued_at o (spot t (begin opts ∷ [])) ≡ false
not_queued opts t o true h = ap (queued_at o) (spot_moves [] (begin opts) t h)
not_queued opts t o false h = ap (queued_at o) (spot_stays [] (begin opts) t h ∙ spot_none t)

not_there : (opts : Options) (t : ℕ) → (t == 0) ≡ false → is_at (spot t (begin opts ∷ [])) ≡ false
not_there opts t h = ap is_at (spot_stays [] (begin opts) t h ∙ spot_none t)

clash : {A : Type 0} → true ≡ false → A
clash e = cc

pub mirrors_begin : (sites : List Site) → AreKnownSites sites → (opts : Options) (n m : ℕ) → n ≡ TASKS → 1 ≤ m → (waits : Waiting) → waits.tasks ≡ 1 → waits.objects ≡ 1 → ((o c : ℕ) → queue_at waits o c ≡ []) → Mirrors opts sites (begin opts ∷ []) (with_new (no_doors m) 0) waits ([] ∷ []) (made_ready 0 (opening opts.processors n)) (replicate n false) (false ∷ []) (Some 0 ∷ []) (replicate n 0)
mirrors_begin sites known opts n m size room waits pool objects none = record {
  doors_are = record {
    made = sym (counts_begin opts).0;
    pool = rw (counts_begin opts).1 room;
    each = λ o lt. first_door o lt;
  };
  waits_are = record {
    blocked = λ o c. none o c ∙ sym (no_waits opts o c (0 == o) refl);
    pool = rw ((counts_begin opts).1, pool) (omega arith);
    known = rw ((counts_begin opts).0, objects) (omega arith);
  };
  events_are = record {
    pending = λ t lt. first_pending t lt;
    known = sym (counts_begin opts).1;
    fresh = λ t le. nothing_pending opts t;
  };
  clusters_are = record {
    ready_are = (opens_so opts n some).0;
    runs = (opens_so opts n some).1;
    counted = one_queue ∙ (opens_so opts n some).2;
    desks = (opens_so opts n some).3;
    stands = record { on = (opens_so opts n some).4.on; cluster = (opens_so opts n some).4.cluster };
    pool = length-set (replicate n None) 0 (Some 0) ∙ length-replicate {A = Option ℕ} n None ∙ size;
    placed = λ t a. place_by t (t == 0) refl a;
    known = λ t. subst (λ m. 0 < m) (sym one_queue) (omega arith);
  };
  marks_are = record {
    marked = λ t o d lt q. clash (sym q ∙ not_queued opts t o (t == 0) refl);
    entered = λ o t d lt i. first_mark o t d lt i;
    tasks = length-replicate {A = Bool} n false ∙ size;
    objects = sym (counts_begin opts).0;
  };
  owners_are = record {
    owner_is = λ o d lt. first_owner o d lt;
    own_is = λ t d lt. get_or-replicate n t 0 d (subst (λ m. t < m) (length-replicate {A = ℕ} n 0) lt) ∙ sym (own_begin opts t (t == 0) refl);
    objects = sym (counts_begin opts).0;
    tasks = length-replicate {A = ℕ} n 0 ∙ size;
  };
  few = rw (counts_begin opts).1 (omega arith);
  sound = (good_begin opts).sound;
  stood = stood_step sites (begin opts) [] sound_none (legal_begin opts) (stood_none sites);
  known_sites = known;
  owned = owner_made [] (begin opts) refl (λ o t h. absurd (no_owner o t h));
  fresh = fresh_step (begin opts) [] (legal_begin opts) fresh_none;
}
  where
    some : 0 < n
    some = rw size (omega arith)

    one_queue : length (made_ready 0 (opening opts.processors n)).queues ≡ 1
    one_queue = length-set ([] ∷ []) (or_0 (place_of (opening opts.processors n) 0)) (cluster_queue ([] ∷ []) (or_0 (place_of (opening opts.processors n) 0)) ++ 0 ∷ [])

    first_door : (o : ℕ) → o < 1 → IsDoor sites o (begin opts ∷ []) (door_at (with_new (no_doors m) 0) o)
    first_door zero lt = door_begin sites opts
    first_door (suc o) lt = absurd (omega arith)

    first_pending : (t : ℕ) → t < 1 → pending_at ([] ∷ []) t ≡ pending t (begin opts ∷ [])
    first_pending zero lt = sym (nothing_pending opts 0)
    first_pending (suc t) lt = absurd (omega arith)

    first_mark : (o t : ℕ) (d : Bool) → o < 1 → inside o (begin opts ∷ []) ≡ t ∷ [] → get_or (false ∷ []) o d ≡ calls_destructor o t (begin opts ∷ [])
    first_mark zero t d lt i = sym (no_call opts t)
    first_mark (suc o) t d lt i = absurd (omega arith)

    first_owner : (o : ℕ) (d : Option ℕ) → o < 1 → option_to_list (get_or (Some 0 ∷ []) o d) ≡ owner o (begin opts ∷ [])
    first_owner zero d lt = sym (owner_begin opts)
    first_owner (suc o) d lt = absurd (omega arith)

    place_by : (t : ℕ) (b : Bool) → (t == 0) ≡ b → is_at (spot t (begin opts ∷ [])) ≡ true → place_of (made_ready 0 (opening opts.processors n)) t ≡ Some (cluster_of t (begin opts ∷ []))
    place_by t true h a =
        let same = eqb-true t 0 h in
        ap (λ u. place_of (made_ready 0 (opening opts.processors n)) u) same ∙ get_or-set_same (replicate n None) 0 (Some 0) None (rw (length-replicate {A = Option ℕ} n None, size) (omega arith)) ∙ ap (λ u. Some (cluster_of u (begin opts ∷ []))) (sym same)
    place_by t false h a = clash (sym a ∙ not_there opts t h)
