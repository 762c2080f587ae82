-- What lies where after an act.
use Rattle.std.proofs.Common.{◌≡◌, ℕ, zero, suc, ◌==◌, ◌+◌, ◌<◌, ◌≤◌, ◌||◌, Bool, true, false, List, [], ◌∷◌, ◌++◌, Option, Some, None, refl, sym, ap, ◌∙◌, subst, get_or, set, length, arith, get_or-set_same, get_or-set_other, length-set, append-nil, append_assoc, inr}
use Rattle.std.specs.Prelude.{slice_index_or, slice_get, if◌then◌else◌}
use Rattle.std.proofs.lemmas.Bool.{eqb-true, eq-eqb}
use Rattle.uc_entry.specs.declared.entry.Entry.{Entry}
use Rattle.uc_entry.specs.declared.entry.EntryKind.{EntryKind}
use Rattle.uc_entry.specs.declared.entry.EntryKind.TheVariants as kind
use Rattle.uc_entry.specs.Listed.{Listed}
use Rattle.uc_acts.specs.Journal.{Journal, held, inside}
use Rattle.uc_acts.specs.Known.{has, is_gone, is_gone_by, is_make, is_spawn, takes_object, takes_out, spawns, spawns_task, object_count}
use Rattle.uc_acts.specs.Queues.{running, last_actor}
use Rattle.uc_acts.specs.Stations.{Running}
use Rattle.uc_acts.specs.Sound.{At, Sound, spot, mover}
use Rattle.uc_acts.specs.Legal.{Legal, DoorFit}
use Rattle.uc_acts.specs.Doors.{open_at}
use Rattle.uc_acts.proofs.Held.{law_held}
use Rattle.uc_acts.specs.KernelRuns.{KernelRuns, acts, more}
use Rattle.uc_acts.specs.Acts.{act}
use Rattle.uc_acts.proofs.SoundLemmas.{sound_step, self_test}
use Rattle.uc_acts.proofs.Moves.{first_at, known_at}
use Rattle.uc_acts.proofs.Rows.{Lawful}
use Rattle.uc_acts.proofs.Law.{good_whole, lawful_act}
use Rattle.uc_acts.proofs.Living.{alive, lived_run, gone_still}
use Rattle.uc_acts.proofs.Acting.{is_own, AllBy, IsBy, by_act, object_of, destroys}
use Rattle.uc_acts.proofs.Hush.{is_silent}
use Rattle.uc_acts.proofs.Others.{flip, running_apart}
use Rattle.uc_kernel_core.specs.Mirrors.{Seen}
use Rattle.uc_kernel_core.specs.CoreActs.{makes_new}
use Rattle.uc_kernel.specs.declared.rests.TaskAtRest.{TaskAtRest}
use Rattle.uc_kernel.specs.KernelState.{Brought, task_in}
use Rattle.uc_kernel.specs.AtRest.{Lies, IsAct, CanLetIn, LetIn, LetInBy, none_there, own, another, hand_after, loose_after, admission_in, is_admit, is_ready, AreApart}
use Rattle.uc_kernel.proofs.Hands.{no_both, some-same}
use Rattle.uc_kernel.proofs.Lying.{not_true, apart_of}
use Rattle.uc_kernel.proofs.Shapes.{trails, is_plain, AllTrail, Shaped, shaped_act}
use Rattle.uc_kernel.proofs.Moving.{running_trail, running_plain, running_own, running_another, AtMost, actor_after, ready_then, ready_stays, admits_none_ready, admits_none_running, gives_none}
use Rattle.uc_kernel.proofs.Stages.{Mid, all_members, first_step, first_members, admission_step, admission_members, trail_step, trail_counts, plain_counts, differ, same_tasks, same_objects}

-- ---- the entries behind a journal

pub get_behind : (j a : List Entry) (n k : ℕ) → k ≡ length j + n → slice_get (j ++ a) k ≡ slice_get a n
get_behind [] a n k e = ap (slice_get a) (omega (arith, e))
get_behind (x ∷ j) a n zero e = absurd (omega (arith, e))
get_behind (x ∷ j) a n (suc k) e = get_behind j a n k (omega (arith, e))

-- the first entry of an act, and whether an admission comes second
pub data Split (a : List Entry) (first : Entry) (admission : Option Entry) : Type 0 where
  alone : (rest : List Entry) → a ≡ first ∷ rest → is_plain first.kind ≡ true → AllTrail rest → admission ≡ None → Split a first admission
  met : (e : Entry) (later : List Entry) → a ≡ first ∷ e ∷ later → is_plain first.kind ≡ true → e.kind ≡ kind.Admit → AllTrail later → admission ≡ Some e → Split a first admission

admit_kind : (k : EntryKind) → is_admit k ≡ true → k ≡ kind.Admit
admit_kind kind.Admit h = refl
admit_kind k h = cc

none-some : {A B : Type 0} {x : A} → None ≡ Some x → B
none-some e = absurd (cc)

pub split_of : (j a : List Entry) (first : Entry) (admission : Option Entry) → Shaped is_plain a → slice_get (j ++ a) (length j) ≡ Some first → admission ≡ admission_in (slice_get (j ++ a) (length j + 1)) → Split a first admission
split_of j [] first admission h f g = absurd h
split_of j (e ∷ []) first admission h f g =
    let is : e ≡ first = some-same (sym (get_behind j (e ∷ []) 0 (length j) (omega arith)) ∙ f) in
    alone [] (ap (λ x. x ∷ []) is) (ap (λ x. is_plain x.kind) (sym is) ∙ h.0) tt (g ∙ ap admission_in (get_behind j (e ∷ []) 1 (length j + 1) refl))
split_of j (e ∷ d ∷ a) first admission h f g = by (is_admit d.kind) refl
  where
    is : e ≡ first
    is = some-same (sym (get_behind j (e ∷ d ∷ a) 0 (length j) (omega arith)) ∙ f)

    told : admission ≡ (if is_admit d.kind then Some d else None)
    told = g ∙ ap admission_in (get_behind j (e ∷ d ∷ a) 1 (length j + 1) refl)

    or_first : (x y : Bool) → (x || y) ≡ true → y ≡ false → x ≡ true
    or_first true y h g = refl
    or_first false y h g = cc

    by : (b : Bool) → is_admit d.kind ≡ b → Split (e ∷ d ∷ a) first admission
    by true m =
        met d a (ap (λ x. x ∷ d ∷ a) is) (ap (λ x. is_plain x.kind) (sym is) ∙ h.0) (admit_kind d.kind m) h.1.1 (told ∙ rw m refl)
    by false m =
        alone (d ∷ a) (ap (λ x. x ∷ d ∷ a) is) (ap (λ x. is_plain x.kind) (sym is) ∙ h.0) (or_first (trails d.kind) (is_admit d.kind) h.1.0 m, h.1.1) (told ∙ rw m refl)

-- ---- entries that let nobody in or out

pub trails_takes : (a : List Entry) (k : ℕ) → AllTrail a → takes_out a k ≡ false
trails_takes [] k h = refl
trails_takes (e ∷ a) k h = ap (λ b. b || takes_out a k) (none e.kind (trail_counts e.kind h.0).2) ∙ trails_takes a k h.1
  where
    none : (x : EntryKind) → is_gone_by x ≡ false → takes_object x e k ≡ false
    none kind.Gone n = cc
    none x n = refl

pub trails_spawn : (a : List Entry) (u : ℕ) → AllTrail a → spawns a u ≡ false
trails_spawn [] u h = refl
trails_spawn (e ∷ a) u h = ap (λ b. b || spawns a u) (none e.kind h.0) ∙ trails_spawn a u h.1
  where
    none : (x : EntryKind) → trails x ≡ true → spawns_task u x e ≡ false
    none kind.Spawn n = cc
    none x n = refl

trails_mid : {T M : Type 0} (t : ℕ) (j a : List Entry) → AllTrail a → (hand : List (ℕ × M)) (tasks : List (Option (TaskAtRest T M))) (loose : List (Option M)) → Mid t j hand tasks loose → Mid t (j ++ a) hand tasks loose
trails_mid t j [] h hand tasks loose m = subst (λ i. Mid t i hand tasks loose) (sym (append-nil j)) m
trails_mid t j (e ∷ a) h hand tasks loose m =
    subst (λ i. Mid t i hand tasks loose) (append_assoc j (e ∷ []) a) (trails_mid t (j ++ e ∷ []) a h.1 hand tasks loose (trail_step t j e h.0 hand tasks loose m))

trails_run : (q : ℕ) (j a : List Entry) → AllTrail a → running q (j ++ a) ≡ running q j
trails_run q j [] h = ap (running q) (append-nil j)
trails_run q j (e ∷ a) h =
    ap (running q) (sym (append_assoc j (e ∷ []) a)) ∙ trails_run q (j ++ e ∷ []) a h.1 ∙ running_trail q j e h.0

trails_give : (k : EntryKind) → trails k ≡ true → gives_none k ≡ true
trails_give kind.Dispatch h = cc
trails_give k h = refl

trails_ready : (u : ℕ) (j a : List Entry) → Lawful j a → AllTrail a → is_ready (spot u j) ≡ true → is_ready (spot u (j ++ a)) ≡ true
trails_ready u j [] l h r = ap (λ i. is_ready (spot u i)) (append-nil j) ∙ r
trails_ready u j (e ∷ a) l h r =
    ap (λ i. is_ready (spot u i)) (sym (append_assoc j (e ∷ []) a)) ∙ trails_ready u (j ++ e ∷ []) a l.1 h.1 (ready_stays u j e l.0 (trails_give e.kind h.0) r)

-- ---- an act

plain_own : (k : EntryKind) → is_plain k ≡ true → is_own k ≡ true
plain_own kind.Admit h = cc
plain_own kind.Push h = cc
plain_own k h = refl

plain_give : (k : EntryKind) → is_plain k ≡ true → gives_none k ≡ true
plain_give kind.Dispatch h = cc
plain_give k h = refl

plain_spawn : (k : EntryKind) (e : Entry) (u : ℕ) → is_plain k ≡ true → spawns_task u k e ≡ false
plain_spawn kind.Spawn e u h = cc
plain_spawn k e u h = refl

admit_takes : (e : Entry) (k : ℕ) → e.kind ≡ kind.Admit → takes_object e.kind e k ≡ false
admit_takes e k h = ap (λ x. takes_object x e k) h

admit_spawns : (e : Entry) (u : ℕ) → e.kind ≡ kind.Admit → spawns_task u e.kind e ≡ false
admit_spawns e u h = ap (λ x. spawns_task u x e) h

pub or_both : (x y : Bool) → x ≡ false → y ≡ false → (x || y) ≡ false
or_both x y h g = rw (h, g) refl

pub or_front : (x y : Bool) → y ≡ false → (x || y) ≡ x
or_front true y h = refl
or_front false y h = h

pub same_one : (x y : ℕ) → x ∷ [] ≡ y ∷ [] → x ≡ y
same_one x y e = cc

gone_kind : (x : EntryKind) (e : Entry) (k : ℕ) → takes_object x e k ≡ true → (is_gone_by x ≡ true) × (k ≡ e.object)
gone_kind kind.Gone e k h = (refl, eqb-true k e.object h)
gone_kind x e k h = cc

gone_door : (x : EntryKind) (e : Entry) (j : Journal) → is_gone_by x ≡ true → DoorFit x e (inside e.object j) (open_at e.object j) → inside e.object j ≡ e.task ∷ []
gone_door kind.Gone e j h d = d
gone_door x e j h d = cc

in_one : (t : ℕ) → has (t ∷ []) t ≡ true
in_one t = let self = self_test t in rw self refl

-- the entries of an act, one after the other
pub record Entries (p t o : ℕ) (A : Type 0) (g : Bool) (j : Journal) (a : List Entry) (first : Entry) : Type 0 where
  pub rest : List Entry
  pub is : a ≡ first ∷ rest
  pub plain : is_plain first.kind ≡ true
  pub legal : Legal first j
  pub lawful : Lawful (j ++ first ∷ []) rest
  pub by : IsBy p t o A g first
  pub all : AllBy p t o A g rest

entries_of_split : (p t o : ℕ) (A : Type 0) (g : Bool) (j : Journal) (a : List Entry) (first : Entry) (admission : Option Entry) → Lawful j a → AllBy p t o A g a → Split a first admission → Entries p t o A g j a first
entries_of_split p t o A g j a first admission l b (alone rest is plain tr n) =
    let l' : Lawful j (first ∷ rest) = subst (Lawful j) is l in
    let b' : AllBy p t o A g (first ∷ rest) = subst (AllBy p t o A g) is b in
    record { rest = rest; is = is; plain = plain; legal = l'.0; lawful = l'.1; by = b'.0; all = b'.1 }
entries_of_split p t o A g j a first admission l b (met e later is plain k tr n) =
    let l' : Lawful j (first ∷ e ∷ later) = subst (Lawful j) is l in
    let b' : AllBy p t o A g (first ∷ e ∷ later) = subst (AllBy p t o A g) is b in
    record { rest = e ∷ later; is = is; plain = plain; legal = l'.0; lawful = l'.1; by = b'.0; all = b'.1 }

-- the admission, where there is one
pub record Second (p t o : ℕ) (A : Type 0) (g : Bool) (j : Journal) (a : List Entry) (first e : Entry) : Type 0 where
  pub later : List Entry
  pub is : a ≡ first ∷ e ∷ later
  pub admits : e.kind ≡ kind.Admit
  pub trailing : AllTrail later
  pub legal : Legal e (j ++ first ∷ [])
  pub lawful : Lawful ((j ++ first ∷ []) ++ e ∷ []) later
  pub by : IsBy p t o A g e

second_of : (p t o : ℕ) (A : Type 0) (g : Bool) (j : Journal) (a : List Entry) (first : Entry) (admission : Option Entry) → Lawful j a → AllBy p t o A g a → Split a first admission → (e : Entry) → admission ≡ Some e → Second p t o A g j a first e
second_of p t o A g j a first admission l b (alone rest is plain tr n) e h = none-some (sym n ∙ h)
second_of p t o A g j a first admission l b (met d later is plain k tr n) e h =
    let same : d ≡ e = some-same (sym n ∙ h) in
    let l' : Lawful j (first ∷ d ∷ later) = subst (Lawful j) is l in
    let b' : AllBy p t o A g (first ∷ d ∷ later) = subst (AllBy p t o A g) is b in
    subst (Second p t o A g j a first) same (record { later = later; is = is; admits = k; trailing = tr; legal = l'.1.0; lawful = l'.1.1; by = b'.1.0 })

-- where an object is destroyed, what comes second lets nobody in
gone_alone : (first e : Entry) (a later : List Entry) → a ≡ first ∷ e ∷ later → Shaped is_plain a → is_gone_by first.kind ≡ true → trails e.kind ≡ true
gone_alone first e a later is h d = let h' : Shaped is_plain (first ∷ e ∷ later) = subst (Shaped is_plain) is h in (h'.2 d).0

admit_trails : (e : Entry) → e.kind ≡ kind.Admit → trails e.kind ≡ true → ⊥
admit_trails e h t = no_both (trails e.kind) t (ap trails h)

-- what an admission does to one task at rest
data Slot {T M : Type 0} (e : Entry) (t : ℕ) (tasks tasks' : List (Option (TaskAtRest T M))) (u : ℕ) : Type 0 where
  stays : slice_index_or tasks' u None ≡ slice_index_or tasks u None → Slot e t tasks tasks' u
  gave : (r r' : TaskAtRest T M) → u ≡ e.task → (e.task == t) ≡ false → slice_index_or tasks u None ≡ Some r → slice_index_or tasks' u None ≡ Some r' → r'.task ≡ r.task → Slot e t tasks tasks' u

module _ {T M : Type 0} (e : Entry) (t : ℕ) (h h' : Listed (ℕ × M)) (tasks tasks' : List (Option (TaskAtRest T M))) (loose : List (Option M)) where
  slot_of : e.task < length tasks → LetIn e t h h' tasks tasks' loose → (u : ℕ) → Slot e t tasks tasks' u
  slot_of known (none_there n k q) u = stays (ap (λ l. slice_index_or l u None) q)
  slot_of known (own y n same k q) u = stays (ap (λ l. slice_index_or l u None) q)
  slot_of known (another y r r' n other k there gives q) u = by (u == e.task) refl
    where
      by : (c : Bool) → (u == e.task) ≡ c → Slot e t tasks tasks' u
      by true g =
          let same = eqb-true u e.task g in
          gave r r' same other (ap (λ v. slice_index_or tasks v None) same ∙ there) (ap (λ l. slice_index_or l u None) q ∙ ap (λ v. get_or (set tasks e.task (Some r')) v None) same ∙ get_or-set_same tasks e.task (Some r') None known) gives.task
      by false g =
          stays (ap (λ l. slice_index_or l u None) q ∙ get_or-set_other tasks e.task u (Some r') None (differ u e.task g))

  same_length : LetIn e t h h' tasks tasks' loose → length tasks' ≡ length tasks
  same_length (none_there n k q) = ap length q
  same_length (own y n same k q) = ap length q
  same_length (another y r r' n other k there gives q) = ap length q ∙ length-set tasks e.task (Some r')

  hand_stays : LetIn e t h h' tasks tasks' loose → ((e.task == t) ≡ true → ⊥) → h' ≡ h
  hand_stays (none_there n k q) f = k
  hand_stays (own y n same k q) f = absurd (f same)
  hand_stays (another y r r' n other k there gives q) f = k

module _ {T M : Type 0} {e : Entry} {t : ℕ} {tasks tasks' : List (Option (TaskAtRest T M))} (u : ℕ) where
  value_stays : Slot e t tasks tasks' u → task_in (slice_index_or tasks' u None) ≡ task_in (slice_index_or tasks u None)
  value_stays (stays same) = ap task_in same
  value_stays (gave r r' same other before after task) = ap task_in after ∙ ap (λ z. Some z) task ∙ sym (ap task_in before)

  was_none_of : Slot e t tasks tasks' u → slice_index_or tasks' u None ≡ None → slice_index_or tasks u None ≡ None
  was_none_of (stays same) f = sym same ∙ f
  was_none_of (gave r r' same other before after task) f = none-some (sym f ∙ after)

  still_none_of : Slot e t tasks tasks' u → slice_index_or tasks u None ≡ None → slice_index_or tasks' u None ≡ None
  still_none_of (stays same) f = same ∙ f
  still_none_of (gave r r' same other before after task) f = none-some (sym f ∙ before)

-- what came of an act, before its task goes on or is put to rest
pub record Done {T M : Type 0} (t p : ℕ) (j i : Journal) (a : List Entry) (items : List (ℕ × M)) (child : Option T) (tasks : List (Option (TaskAtRest T M))) (loose : List (Option M)) (hand2 : Listed (ℕ × M)) (tasks2 : List (Option (TaskAtRest T M))) (loose2 : List (Option M)) : Type 0 where
  pub mid : Mid t i hand2.items tasks2 loose2
  pub view : (k : ℕ) → all_members hand2.items tasks2 loose2 k ≡ (if takes_out a k then None else all_members items tasks loose k)
  pub most : AtMost t (running p i)
  pub values : (u : ℕ) → (u == t) ≡ false → task_in (slice_index_or tasks2 u None) ≡ (if spawns a u then child else task_in (slice_index_or tasks u None))
  pub room : (u : ℕ) (r : TaskAtRest T M) → slice_index_or tasks2 u None ≡ Some r → is_ready (spot u i) ≡ false → 1 ≤ r.members.spare
  pub own_room : running p i ≡ [] → 1 ≤ hand2.spare
  pub was_none : (u : ℕ) → slice_index_or tasks2 u None ≡ None → slice_index_or tasks u None ≡ None
  pub still_none : (u : ℕ) → u < length tasks → slice_index_or tasks u None ≡ None → slice_index_or tasks2 u None ≡ None
  -- who is not at rest was there before
  pub less : (u : ℕ) → u < length tasks2 → slice_index_or tasks2 u None ≡ None → u < length tasks
  pub longer : length tasks ≤ length tasks2

module _ {T M : Type 0} (s : Seen) (t : ℕ) (first : Entry) (admission : Option Entry) (b : Brought T M) (tasks : List (Option (TaskAtRest T M))) (loose : List (Option M)) (x : IsAct s t first admission b tasks loose) (plain : makes_new b.asked.request ≡ false) where
  abbrev p : ℕ
  p = b.processor

  abbrev j : Journal
  j = x.before

  abbrev a : List Entry
  a = act s.opts s.sites s.input x.before b.processor t b.ticks b.asked

  abbrev o : ℕ
  o = object_of t x.before b.asked.request

  abbrev A : Type 0
  A = is_gone (object_of t x.before b.asked.request) x.before ≡ false

  abbrev g : Bool
  g = destroys b.asked.request

  sound0 : Sound x.before
  sound0 = (good_whole s.opts s.sites s.input x.runs).sound

  law : Lawful x.before a
  law = lawful_act s.opts s.sites s.input x.before b.processor t b.ticks b.asked sound0 x.asks

  all_by : AllBy b.processor t o A g a
  all_by =
      by_act s.opts s.sites s.input x.before b.processor t b.ticks A b.asked (alive s.opts s.sites x.before t b.asked.request (lived_run s.opts s.sites s.input x.runs x.going) x.asks.fits)

  pub runs_on : KernelRuns s.opts s.sites s.input s.journal
  runs_on =
      subst (KernelRuns s.opts s.sites s.input) (sym x.after) (more x.runs x.going (acts b.processor t b.ticks b.asked x.asks))

  shape : Shaped is_plain a
  shape = shaped_act s.opts s.sites s.input x.before b.processor t b.ticks b.asked plain x.asks.fits

  split : Split a first admission
  split =
      split_of x.before a first admission shape (ap (λ i. slice_get i (length x.before)) (sym x.after) ∙ x.first_is) (x.admission_is ∙ ap (λ i. admission_in (slice_get i (length x.before + 1))) x.after)

  entries : Entries b.processor t o A g x.before a first
  entries = entries_of_split b.processor t o A g x.before a first admission law all_by split

  second : (e : Entry) → admission ≡ Some e → Second b.processor t o A g x.before a first e
  second e h = second_of b.processor t o A g x.before a first admission law all_by split e h

  pub takes_is : (k : ℕ) → takes_out a k ≡ takes_object first.kind first k
  takes_is k = by split
    where
      by : Split a first admission → takes_out a k ≡ takes_object first.kind first k
      by (alone rest is pl tr none) =
          ap (λ l. takes_out l k) is ∙ or_front (takes_object first.kind first k) (takes_out rest k) (trails_takes rest k tr)
      by (met e later is pl ad tr told) =
          ap (λ l. takes_out l k) is ∙ or_front (takes_object first.kind first k) (takes_out (e ∷ later) k) (or_both (takes_object e.kind e k) (takes_out later k) (admit_takes e k ad) (trails_takes later k tr))

  pub born_none : (u : ℕ) → spawns a u ≡ false
  born_none u = by split
    where
      by : Split a first admission → spawns a u ≡ false
      by (alone rest is pl tr none) =
          ap (λ l. spawns l u) is ∙ or_both (spawns_task u first.kind first) (spawns rest u) (plain_spawn first.kind first u pl) (trails_spawn rest u tr)
      by (met e later is pl ad tr told) =
          ap (λ l. spawns l u) is ∙ or_both (spawns_task u first.kind first) (spawns (e ∷ later) u) (plain_spawn first.kind first u pl) (or_both (spawns_task u e.kind e) (spawns later u) (admit_spawns e u ad) (trails_spawn later u tr))

  pub apart : AreApart b.members.items
  apart = apart_of t x.before b.members.items x.hand

  running_at : spot t x.before ≡ At (Running b.processor)
  running_at = first_at x.before sound0 (Running b.processor) t [] x.asks.runs

  pub known : t < length tasks
  known =
      let k = known_at x.before sound0 t (Running b.processor) running_at in
      let e = x.lies.tasks_are in omega (arith, k, e)

  mid0 : Mid t x.before b.members.items tasks loose
  mid0 = record {
    hand_is = x.hand;
    hands = x.lies.hands;
    loose_are = x.lies.loose_are;
    present = x.lies.present;
    mine = x.lies.out b.processor t x.asks.runs;
    tasks_are = x.lies.tasks_are;
    objects_are = x.lies.objects_are;
  }

  mine : first.task ≡ t
  mine = entries.by.task (plain_own first.kind entries.plain)

  abbrev j1 : Journal
  j1 = x.before ++ first ∷ []

  sound1 : Sound j1
  sound1 = sound_step first x.before sound0 entries.legal

  mid1 : Mid t j1 (hand_after first b.members.items) tasks (loose_after first b.members.items loose)
  mid1 = first_step t x.before sound0 first entries.legal entries.plain mine b.members.items tasks loose mid0

  pub first_known : first.object < length loose
  first_known =
      let l = entries.legal.made in
      let c = same_objects x.before first (plain_counts first.kind entries.plain).1 in
      let e = x.lies.objects_are in omega (arith, l, c, e)

  actor1 : last_actor 0 j1 ≡ t
  actor1 = actor_after x.before first entries.plain ∙ mine

  most1 : AtMost t (running b.processor j1)
  most1 = running_plain b.processor t x.before first entries.plain entries.by.proc x.asks.runs

  stays_ready : (u : ℕ) → is_ready (spot u x.before) ≡ true → is_ready (spot u j1) ≡ true
  stays_ready u h = ready_stays u x.before first entries.legal (plain_give first.kind entries.plain) h

  -- a task that runs elsewhere
  elsewhere : (u : ℕ) → (u == t) ≡ false → (q : ℕ) → running q x.before ≡ u ∷ [] → (q == b.processor) ≡ false
  elsewhere u n q h = not_true (q == b.processor) (λ e. no_both (u == t) (eq-eqb u t (same_one u t (sym h ∙ ap (λ v. running v x.before) (eqb-true q b.processor e) ∙ x.asks.runs))) n)

  -- an object that is destroyed, its task is inside of
  pub gone_held : (k : ℕ) → takes_object first.kind first k ≡ true → has (held t x.before) k ≡ true
  gone_held k h =
      let g = gone_kind first.kind first k h in
      let door : inside first.object x.before ≡ first.task ∷ [] = gone_door first.kind first x.before g.0 entries.legal.door in
      ap (has (held t x.before)) g.1 ∙ (law_held x.before).inside t first.object ∙ ap (λ xs. has xs t) (door ∙ ap (λ v. v ∷ []) mine) ∙ in_one t

  pub sound_before : Sound x.before
  sound_before = sound0

  pub lies_before : Lies x.before tasks loose
  lies_before = x.lies

  pub runs_apart : (q : ℕ) → (q == b.processor) ≡ false → running q s.journal ≡ running q x.before
  runs_apart q n = ap (running q) x.after ∙ running_apart b.processor t o A g q x.before a n all_by

  module _ (e : Entry) (is : admission ≡ Some e) where
    abbrev sec : Second b.processor t o A g x.before a first e
    sec = second e is

    object_known : e.object < object_count j1
    object_known =
        let l = sec.legal.made in
        let c = same_objects j1 e (ap is_make sec.admits) in omega (arith, l, c)

    task_known : e.task < length tasks
    task_known =
        let l = sec.legal.born e.task (ap (λ k. mover k e e.task) sec.admits ∙ self_test e.task) in
        let c = same_tasks j1 e (ap is_spawn sec.admits) in
        let d = mid1.tasks_are in omega (arith, l, c, d)

    ready_not : is_ready (spot e.task x.before) ≡ false
    ready_not = not_true (is_ready (spot e.task x.before)) (λ h. no_both (is_ready (spot e.task j1)) (stays_ready e.task h) (admits_none_ready j1 e sec.legal sec.admits))

    not_out : (e.task == t) ≡ false → slice_index_or tasks e.task None ≡ None → ⊥
    not_out n h =
        let out = x.lies.there e.task task_known h in
        let q = out.processor in
        let apart_q : (q == b.processor) ≡ false = elsewhere e.task n q out.runs in
        let runs1 : running q j1 ≡ e.task ∷ [] = running_apart b.processor t o A g q x.before (first ∷ []) apart_q (entries.by, tt) ∙ out.runs in
        admits_none_running j1 e sec.legal sec.admits q (ap (λ v. v == q) sec.by.proc ∙ flip q b.processor apart_q) (first_at j1 sound1 (Running q) e.task [] runs1)

    alive_object : is_gone e.object j1 ≡ false
    alive_object =
        let door = sec.by.door (ap is_silent sec.admits) in
        ap (λ v. is_gone v j1) door.0 ∙ gone_still o x.before first (not_gone (is_gone_by first.kind) refl) ∙ door.1
      where
        -- what is destroyed lets nobody in
        not_gone : (c : Bool) → is_gone_by first.kind ≡ c → is_gone_by first.kind ≡ false
        not_gone false h = h
        not_gone true h = absurd (admit_trails e sec.admits (gone_alone first e a sec.later sec.is shape h))

  pub can_let_in : (hand1 : Listed (ℕ × M)) (loose1 : List (Option M)) → b.members.spare ≤ hand1.spare → loose1 ≡ loose_after first b.members.items loose → CanLetIn admission t hand1 tasks loose1
  can_let_in hand1 loose1 spare is = record {
    object = λ e h. let l = object_known e h in let d = mid1.objects_are in let q : length loose1 ≡ length (loose_after first b.members.items loose) = ap length is in omega (arith, l, d, q);
    known = λ e h. task_known e h;
    own = λ e h same. let r = x.room in omega (arith, r, spare);
    room = λ e h n r f. x.lies.room e.task r f (ready_not e h);
    there = λ e h n f. not_out e h n f;
  }

  -- ---- what came of the act, in the hand and at rest
  module _ (hand1 hand2 : Listed (ℕ × M)) (tasks2 : List (Option (TaskAtRest T M))) (loose1 loose2 : List (Option M)) (hand1_is : hand1.items ≡ hand_after first b.members.items) (spare1 : b.members.spare ≤ hand1.spare) (loose1_is : loose1 ≡ loose_after first b.members.items loose) (let_in : LetInBy admission t hand1 hand2 tasks tasks2 loose1 loose2) where
    mid1' : Mid t j1 hand1.items tasks loose1
    mid1' = subst (λ l. Mid t j1 hand1.items tasks l) (sym loose1_is) (subst (λ h. Mid t j1 h tasks (loose_after first b.members.items loose)) (sym hand1_is) mid1)

    members1 : (k : ℕ) → all_members hand1.items tasks loose1 k ≡ (if takes_object first.kind first k then None else all_members b.members.items tasks loose k)
    members1 k =
        ap (λ h. all_members h tasks loose1 k) hand1_is ∙ ap (λ l. all_members (hand_after first b.members.items) tasks l k) loose1_is ∙ first_members t x.before sound0 first entries.legal entries.plain mine b.members.items tasks loose mid0 k

    pub done : Done t b.processor x.before s.journal a b.members.items b.child tasks loose hand2 tasks2 loose2
    done = by split
      where
        ends : (i : Journal) → i ≡ x.before ++ a → s.journal ≡ i
        ends i e = x.after ∙ sym e

        not_ready : (u : ℕ) → is_ready (spot u s.journal) ≡ false → (is_ready (spot u x.before) ≡ true → is_ready (spot u s.journal) ≡ true) → is_ready (spot u x.before) ≡ false
        not_ready u h f = not_true (is_ready (spot u x.before)) (λ r. no_both (is_ready (spot u s.journal)) (f r) h)

        by : Split a first admission → Done t b.processor x.before s.journal a b.members.items b.child tasks loose hand2 tasks2 loose2
        by (alone rest is pl tr none) =
            let w = let_in.none none in
            let end : s.journal ≡ j1 ++ rest = x.after ∙ ap (λ l. x.before ++ l) is ∙ sym (append_assoc x.before (first ∷ []) rest) in
            let lw : Lawful j1 rest = (subst (Lawful x.before) is law).1 in
            record {
              mid = subst (λ i. Mid t i hand2.items tasks2 loose2) (sym end) (trails_mid t j1 rest tr hand2.items tasks2 loose2 (subst (λ l. Mid t j1 hand2.items tasks2 l) (sym w.2) (subst (λ l. Mid t j1 hand2.items l loose1) (sym w.1) (subst (λ h. Mid t j1 h.items tasks loose1) (sym w.0) mid1'))));
              view = λ k. ap (λ h. all_members h.items tasks2 loose2 k) w.0 ∙ ap (λ l. all_members hand1.items l loose2 k) w.1 ∙ ap (λ l. all_members hand1.items tasks l k) w.2 ∙ members1 k ∙ ap (λ c. if c then None else all_members b.members.items tasks loose k) (sym (takes_is k));
              most = subst (λ i. AtMost t (running b.processor i)) (sym end) (subst (AtMost t) (sym (trails_run b.processor j1 rest tr)) most1);
              values = λ u n. ap (λ l. task_in (slice_index_or l u None)) w.1 ∙ ap (λ c. if c then b.child else task_in (slice_index_or tasks u None)) (sym (born_none u));
              room = λ u r f n. x.lies.room u r (ap (λ l. slice_index_or l u None) (sym w.1) ∙ f) (not_ready u n (λ h. ap (λ i. is_ready (spot u i)) end ∙ trails_ready u j1 rest lw tr (stays_ready u h)));
              own_room = λ f. let e : hand2.spare ≡ hand1.spare = ap (λ h. h.spare) w.0 in let r = x.room in omega (arith, e, r, spare1);
              was_none = λ u f. ap (λ l. slice_index_or l u None) (sym w.1) ∙ f;
              still_none = λ u lt f. ap (λ l. slice_index_or l u None) w.1 ∙ f;
              less = λ u lt f. subst (λ l. u < length l) w.1 lt;
              longer = let q : length tasks2 ≡ length tasks = ap length w.1 in omega (arith, q);
            }
        by (met e later is pl ad tr told) =
            let w = let_in.some e told in
            let li = w.0 in
            let sc = second e told in
            let i1 = j1 ++ e ∷ [] in
            let end : s.journal ≡ i1 ++ later = x.after ∙ ap (λ l. x.before ++ l) is ∙ sym (append_assoc x.before (first ∷ []) (e ∷ later)) ∙ sym (append_assoc j1 (e ∷ []) later) in
            let lw = (subst (Lawful x.before) is law).1 in
            let known_e : e.task < length tasks = task_known e told in
            let mid2 = admission_step t j1 sound1 e lw.0 ad hand1 hand2 tasks tasks2 loose1 mid1' known_e (alive_object e told) li in
            record {
              mid = subst (λ i. Mid t i hand2.items tasks2 loose2) (sym end) (trails_mid t i1 later tr hand2.items tasks2 loose2 (subst (λ l. Mid t i1 hand2.items tasks2 l) (sym w.1) mid2));
              view = λ k. ap (λ l. all_members hand2.items tasks2 l k) w.1 ∙ admission_members t j1 sound1 e lw.0 ad hand1 hand2 tasks tasks2 loose1 mid1' known_e (alive_object e told) li k ∙ members1 k ∙ ap (λ c. if c then None else all_members b.members.items tasks loose k) (sym (takes_is k));
              most = subst (λ i. AtMost t (running b.processor i)) (sym end) (subst (AtMost t) (sym (trails_run b.processor i1 later tr)) (most2 e ad (sc.by.proc) (e.task == t) refl));
              values = λ u n. value_stays u (slot_of e t hand1 hand2 tasks tasks2 loose1 known_e li u) ∙ ap (λ c. if c then b.child else task_in (slice_index_or tasks u None)) (sym (born_none u));
              room = λ u r f n. room2 e u r (slot_of e t hand1 hand2 tasks tasks2 loose1 known_e li u) f n (λ own. ap (λ i. is_ready (spot e.task i)) end ∙ trails_ready e.task i1 later lw.1 tr (ready_then b.processor t j1 e ad sc.by.proc actor1 own)) (λ h. ap (λ i. is_ready (spot u i)) end ∙ trails_ready u i1 later lw.1 tr (ready_stays u j1 e lw.0 (ap gives_none ad) (stays_ready u h)));
              own_room = λ f. spare2 (hand_stays e t hand1 hand2 tasks tasks2 loose1 li (λ own. nobody_runs (sym f ∙ ap (running b.processor) end ∙ trails_run b.processor i1 later tr ∙ running_own b.processor t j1 e ad sc.by.proc actor1 own most1)));
              was_none = λ u f. was_none_of u (slot_of e t hand1 hand2 tasks tasks2 loose1 known_e li u) f;
              still_none = λ u lt f. still_none_of u (slot_of e t hand1 hand2 tasks tasks2 loose1 known_e li u) f;
              less = λ u lt f. subst (λ n. u < n) (same_length e t hand1 hand2 tasks tasks2 loose1 li) lt;
              longer = let q = same_length e t hand1 hand2 tasks tasks2 loose1 li in omega (arith, q);
            }
          where
            nobody_runs : [] ≡ t ∷ [] → ⊥
            nobody_runs e = cc

            most2 : (e : Entry) → e.kind ≡ kind.Admit → e.proc ≡ b.processor → (c : Bool) → (e.task == t) ≡ c → AtMost t (running b.processor (j1 ++ e ∷ []))
            most2 e ad at true h = inr (running_own b.processor t j1 e ad at actor1 h most1)
            most2 e ad at false h = running_another b.processor t j1 e ad at actor1 h most1

            spare2 : hand2 ≡ hand1 → 1 ≤ hand2.spare
            spare2 h = let e : hand2.spare ≡ hand1.spare = ap (λ x. x.spare) h in let r = x.room in omega (arith, e, r, spare1)

            room2 : (e : Entry) (u : ℕ) (r : TaskAtRest T M) → Slot e t tasks tasks2 u → slice_index_or tasks2 u None ≡ Some r → is_ready (spot u s.journal) ≡ false → ((e.task == t) ≡ false → is_ready (spot e.task s.journal) ≡ true) → (is_ready (spot u x.before) ≡ true → is_ready (spot u s.journal) ≡ true) → 1 ≤ r.members.spare
            room2 e u r (stays same) f n let_it k = x.lies.room u r (sym same ∙ f) (not_ready u n k)
            room2 e u r (gave q q' same other before after task) f n let_it k =
                absurd (no_both (is_ready (spot u s.journal)) (ap (λ v. is_ready (spot v s.journal)) same ∙ let_it other) n)
