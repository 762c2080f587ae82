-- The act of a task that makes an object, in what lies where.
use Rattle.std.proofs.Common.{◌≡◌, ◌≢◌, ℕ, zero, suc, ◌==◌, ◌+◌, ◌<◌, ◌≤◌, ◌&&◌, ◌||◌, Bool, true, false, not, List, [], ◌∷◌, ◌++◌, Option, Some, None, refl, sym, ap, ◌∙◌, subst, get_or, length, arith, length-append, append-nil}
use Rattle.std.specs.Prelude.{pos, nat_lt, slice_index_or, slice_set, if◌then◌else◌}
use Rattle.std.specs.List.{filter}
use Rattle.std.proofs.lemmas.Bool.{eqb-true, eq-eqb}
use Rattle.uc_tree.specs.declared.limits.TheConstants.{OBJECTS, TASKS}
use Rattle.uc_entry.specs.declared.entry.Entry.{Entry}
use Rattle.uc_entry.specs.declared.entry.EntryKind.{EntryKind}
use Rattle.uc_entry.specs.declared.entry.EntryKind.TheVariants as kind
use Rattle.uc_entry.specs.Listed.{Listed}
use Rattle.uc_acts.specs.Journal.{Journal, held, entry, is_over, asking, Cost, cost}
use Rattle.uc_acts.specs.Known.{has, is_gone, takes_object, takes_out, spawns_task, spawns, object_count}
use Rattle.uc_acts.specs.Queues.{running}
use Rattle.uc_acts.specs.Sound.{Sound}
use Rattle.uc_entry.specs.declared.request.Answer.TheVariants as answer
use Rattle.uc_acts.specs.Answers.{answer_to}
use Rattle.uc_acts.specs.Serves.{left}
use Rattle.uc_acts.specs.KernelRuns.{KernelRuns, acts, more}
use Rattle.uc_acts.specs.Acts.{act, row, or_fault, fault}
use Rattle.uc_acts.specs.Stations.{Running}
use Rattle.uc_entry.specs.declared.entry.Options.{Options}
use Rattle.uc_entry.specs.declared.request.Asked.{Asked}
use Rattle.uc_entry.specs.declared.request.Request.{Request}
use Rattle.uc_entry.specs.declared.request.Request.TheVariants as ask
use Rattle.uc_tree.specs.Programs.{Site}
use Rattle.uc_acts.proofs.Bounds.{over_push}
use Rattle.uc_acts.proofs.Living.{going_row}
use Rattle.uc_acts.proofs.Held.{law_held}
use Rattle.uc_acts.proofs.Living.{gone_still}
use Rattle.uc_acts.proofs.SoundLemmas.{tasks_push, objects_push, self_test}
use Rattle.uc_acts.proofs.Moves.{spot_stays, first_at, known_at}
use Rattle.uc_acts.proofs.Others.{flip}
use Rattle.uc_acts.proofs.Law.{good_whole}
use Rattle.uc_acts.proofs.Answered.{law_answered, answer_push}
use Rattle.uc_kernel_core.specs.Mirrors.{Seen}
use Rattle.uc_kernel.specs.declared.given.Given.{Given}
use Rattle.uc_kernel.specs.declared.given.Next.{Next}
use Rattle.uc_kernel.specs.declared.given.Next.TheVariants.{Go, Blocked, Ended}
use Rattle.uc_kernel.specs.declared.rests.TaskAtRest.{TaskAtRest}
use Rattle.uc_kernel.specs.Numbered.{keys, or_else, added, gathered}
use Rattle.uc_kernel.specs.KernelState.{Brought, Kept, kept, stored, put_back, task_in, member_among}
use Rattle.uc_kernel.specs.Calls.{LacksNew, Goes, Ends, Follows, is_object}
use Rattle.uc_kernel.specs.AtRest.{Lies, FromAct, is_admit, IsMake, is_ready, GoesWith, HandedOn, earlier, AreApart}
use Rattle.uc_kernel.proofs.Hands.{no_both, none_found, gathered_hand}
use Rattle.uc_kernel.proofs.Places.{get_past}
use Rattle.uc_kernel.proofs.Lying.{not_true, apart_of, loose_none, nowhere_else, nobody_has}
use Rattle.uc_kernel.proofs.Moving.{held_push, filter_absent, running_silent}
use Rattle.uc_kernel.proofs.Stages.{has_append_other, has_last}
use Rattle.uc_kernel.proofs.Following.{or_both, trails_takes, trails_spawn}
use Rattle.uc_kernel.proofs.Shapes.{trails, is_making, Shaped, SecondFits, shaped_make}
use Rattle.uc_kernel.proofs.Counting.{few_tasks}
use Rattle.uc_kernel.proofs.Endings.{ended}

gathered_more : {M : Type 0} (ns : List ℕ) (n : ℕ) (f : ℕ → Option M) → f n ≡ None → gathered (ns ++ n ∷ []) f ≡ gathered ns f
gathered_more [] n f h = ap (λ x. added n x []) h
gathered_more (k ∷ ns) n f h = ap (added k (f k)) (gathered_more ns n f h)

not_false : (b : Bool) → (b ≡ false → ⊥) → b ≡ true
not_false true f = refl
not_false false f = absurd (f refl)

-- one more at the end, with nothing there
slot_more : {A : Type 0} (xs : List (Option A)) (i : ℕ) → get_or (xs ++ None ∷ []) i None ≡ get_or xs i None
slot_more [] zero = refl
slot_more [] (suc i) = refl
slot_more (x ∷ xs) zero = refl
slot_more (x ∷ xs) (suc i) = slot_more xs i

module _ {T M : Type 0} (s : Seen) (t p : ℕ) (k : Cost) (class : ℕ) (j : Journal) (after : s.journal ≡ j ++ asking kind.Make p t k (object_count j) (pos class) (pos 0) ∷ []) (runs_on : KernelRuns s.opts s.sites s.input s.journal) (going : is_over s.journal ≡ false) (runs : running p j ≡ t ∷ []) (sound : Sound j) (items : List (ℕ × M)) (hand_is : keys items ≡ held t j) (tasks : List (Option (TaskAtRest T M))) (loose : List (Option M)) (lies : Lies j tasks loose) where
  abbrev e : Entry
  e = asking kind.Make p t k (object_count j) (pos class) (pos 0)

  abbrev o : ℕ
  o = object_count j

  abbrev i : Journal
  i = j ++ asking kind.Make p t k (object_count j) (pos class) (pos 0) ∷ []

  fresh : (u : ℕ) → has (held u j) (object_count j) ≡ false
  fresh u =
      (law_held j).inside u (object_count j) ∙ ap (λ xs. has xs u) (sound.fresh_inside (object_count j) (omega arith))

  filter_fresh : (n : ℕ) (xs : List ℕ) (b : Bool) → has xs n ≡ false → filter (λ x. not ((n == x) && b)) xs ≡ xs
  filter_fresh n xs b h = filter_absent n xs b h

  held_other : (u : ℕ) → (u == t) ≡ false → held u i ≡ held u j
  held_other u n =
      let f = flip u t n in
      held_push u j e ∙ rw (f, n) (append-nil _ ∙ filter_fresh (object_count j) (held u j) false (fresh u))

  held_own : held t i ≡ held t j ++ object_count j ∷ []
  held_own =
      let self = self_test t in
      held_push t j e ∙ rw self (ap (λ xs. xs ++ object_count j ∷ []) (filter_fresh (object_count j) (held t j) true (fresh t)))

  running_same : (q : ℕ) → running q i ≡ running q j
  running_same q = running_silent q j e (λ u. refl) (λ u. refl)

  now : running p i ≡ t ∷ []
  now = running_same p ∙ runs

  mine : slice_index_or tasks t None ≡ None
  mine = lies.out p t runs

  -- what somebody holds, or nobody
  held_less : (u m : ℕ) → has (held u i) m ≡ false → has (held u j) m ≡ false
  held_less u m h = by (u == t) refl
    where
      front : (xs : List ℕ) → has (xs ++ object_count j ∷ []) m ≡ false → has xs m ≡ false
      front [] f = refl
      front (x ∷ xs) f = or_both (x == m) (has (xs ++ object_count j ∷ []) m) (has xs m) f (front xs)
        where
          or_both : (a b c : Bool) → (a || b) ≡ false → (b ≡ false → c ≡ false) → (a || c) ≡ false
          or_both true b c f g = cc
          or_both false b c f g = g f

      by : (b : Bool) → (u == t) ≡ b → has (held u j) m ≡ false
      by true g =
          let same = eqb-true u t g in
          ap (λ v. has (held v j) m) same ∙ front (held t j) (sym (ap (λ xs. has xs m) held_own) ∙ ap (λ v. has (held v i) m) (sym same) ∙ h)
      by false g = ap (λ xs. has xs m) (sym (held_other u g)) ∙ h

  held_more : (u m : ℕ) → (object_count j == m) ≡ false → has (held u j) m ≡ false → has (held u i) m ≡ false
  held_more u m n h = by (u == t) refl
    where
      by : (b : Bool) → (u == t) ≡ b → has (held u i) m ≡ false
      by true g =
          let same = eqb-true u t g in
          ap (λ v. has (held v i) m) same ∙ ap (λ xs. has xs m) held_own ∙ has_append_other (held t j) (object_count j) m (ap (λ v. has (held v j) m) (sym same) ∙ h) n
      by false g = ap (λ xs. has xs m) (held_other u g) ∙ h

  lies_then : Lies i tasks (loose ++ None ∷ [])
  lies_then = record {
    hands = λ u r h. lies.hands u r h ∙ sym (held_other u (not_mine u r h));
    room = λ u r h n. lies.room u r h (ap is_ready (sym (spot_stays j e u refl)) ∙ n);
    loose_are = λ m y h u. let h' = sym (slot_more loose m) ∙ h in held_more u m (not_new m y h') (lies.loose_are m y h' u);
    present = λ m lt gone free h. present m (object_count j == m) refl lt gone free (sym (slot_more loose m) ∙ h);
    tasks_are = lies.tasks_are ∙ (let a = tasks_push j e in omega (arith, a));
    objects_are = (let a = objects_push j e in let b = length-append loose (None ∷ []) in let c = lies.objects_are in omega (arith, a, b, c));
    out = λ q u h. lies.out q u (sym (running_same q) ∙ h);
    there = λ u lt h. let w = lies.there u lt h in record { processor = w.processor; runs = running_same w.processor ∙ w.runs };
  }
    where
      none_some : {A : Type 0} {x : A} → None ≡ Some x → ⊥
      none_some f = cc

      not_mine : (u : ℕ) (r : TaskAtRest T M) → slice_index_or tasks u None ≡ Some r → (u == t) ≡ false
      not_mine u r h = not_true (u == t) (λ g. none_some (sym mine ∙ ap (λ v. slice_index_or tasks v None) (sym (eqb-true u t g)) ∙ h))

      not_new : (m : ℕ) (y : M) → slice_index_or loose m None ≡ Some y → (object_count j == m) ≡ false
      not_new m y h = not_true (object_count j == m) (λ g. none_some (sym (get_past loose m None (let a = eqb-true (object_count j) m g in let b = lies.objects_are in omega (arith, a, b))) ∙ h))

      present : (m : ℕ) (b : Bool) → (object_count j == m) ≡ b → m < object_count i → is_gone m i ≡ false → ((u : ℕ) → has (held u i) m ≡ false) → slice_index_or loose m None ≡ None → ⊥
      present m true g lt gone free h =
          no_both (has (held t i) m) (ap (λ xs. has xs m) held_own ∙ ap (has (held t j ++ object_count j ∷ [])) (sym (eqb-true (object_count j) m g)) ∙ has_last (held t j) (object_count j)) (free t)
      present m false g lt gone free h =
          let d : m ≢ object_count j = λ q. no_both (object_count j == m) (eq-eqb (object_count j) m (sym q)) g in
          let a = objects_push j e in
          lies.present m (below m d (omega (arith, a, lt))) (sym (gone_still m j e refl) ∙ gone) (λ u. held_less u m (free u)) h
        where
          below : (m : ℕ) → m ≢ object_count j → m < object_count j + 1 → m < object_count j
          below m d lt = omega (arith, d, lt)

  pub lies_made : Lies s.journal tasks (loose ++ None ∷ [])
  lies_made = subst (λ l. Lies l tasks (loose ++ None ∷ [])) (sym after) lies_then

  module _ (value : T) (wanted : Bool) (child : Option T) where
    abbrev back : Kept T M
    back = put_back (asking kind.Make p t k (object_count j) (pos class) (pos 0) ∷ []) t value items child (kept (stored (earlier j s) wanted tasks loose))

    hand_apart : AreApart items
    hand_apart = apart_of t j items hand_is

    new_none : back.members (object_count j) ≡ None
    new_none =
        ap (λ x. or_else x (or_else (slice_index_or loose (object_count j) None) (member_among (object_count j) tasks))) (none_found (object_count j) items (ap (λ ks. has ks (object_count j)) hand_is ∙ fresh t)) ∙ ap (λ x. or_else x (member_among (object_count j) tasks)) (get_past loose (object_count j) None (let b = lies.objects_are in omega (arith, b))) ∙ nobody_has j tasks loose lies.hands (object_count j) fresh

    members : (m : ℕ) (b : Bool) → has (held t i) m ≡ b → or_else (slice_index_or (loose ++ None ∷ []) m None) (member_among m tasks) ≡ (if has (held t i) m then None else back.members m)
    members m true h =
        rw h (ap (λ x. or_else x (member_among m tasks)) (slot_more loose m) ∙ by (has (held t j) m) refl)
      where
        by : (b : Bool) → has (held t j) m ≡ b → or_else (slice_index_or loose m None) (member_among m tasks) ≡ None
        by true g =
            ap (λ x. or_else x (member_among m tasks)) (loose_none j tasks loose lies.loose_are t m g) ∙ nowhere_else j tasks loose sound lies.hands t m g mine
        by false g =
            let same : m ≡ object_count j = new_one g in
            ap (λ v. or_else (slice_index_or loose v None) (member_among v tasks)) same ∙ ap (λ x. or_else x (member_among (object_count j) tasks)) (get_past loose (object_count j) None (let b = lies.objects_are in omega (arith, b))) ∙ nobody_has j tasks loose lies.hands (object_count j) fresh
          where
            new_one : has (held t j) m ≡ false → m ≡ object_count j
            new_one g = sym (eqb-true (object_count j) m (not_false (object_count j == m) (λ n. no_both (has (held t i) m) h (held_more t m n g))))
    members m false h =
        rw h (ap (λ x. or_else x (member_among m tasks)) (slot_more loose m) ∙ ap (λ x. or_else x (or_else (slice_index_or loose m None) (member_among m tasks))) (sym (none_found m items (ap (λ ks. has ks m) hand_is ∙ held_less t m h))))

    values : (u : ℕ) (b : Bool) → (u == t) ≡ b → task_in (slice_index_or tasks u None) ≡ (if u == t then None else back.values u)
    values u true g =
        rw g (ap (λ v. task_in (slice_index_or tasks v None)) (eqb-true u t g) ∙ ap task_in mine)
    values u false g = rw g refl

    made_answer : answer_to s.sites t i ≡ Some (answer.Object (object_count j))
    made_answer = let self = self_test t in answer_push s.sites t j e ∙ rw self refl

    pub goes_made : (hand2 : Listed (ℕ × M)) → hand2.items ≡ items → (g : Given T M) → GoesWith s p t value hand2 tasks tasks g → Goes back (kept (stored s wanted tasks (loose ++ None ∷ []))) p t g
    goes_made hand2 same g w =
        let runs_now : running p s.journal ≡ t ∷ [] = ap (running p) after ∙ now in
        let told = (law_answered s.opts s.sites s.input s.journal runs_on going).running p t runs_now in
        let self = self_test t in
        record {
          going = ap is_over (sym after) ∙ going;
          hands = record {
            processor = w.processor;
            runs = now;
            value = rw self (ap (λ x. Some x) (sym w.task));
            hand = ap (λ l. l.items) w.members_are ∙ same ∙ sym (ap (λ ns. gathered ns back.members) held_own ∙ gathered_more (held t j) (object_count j) back.members new_none ∙ ap (λ ns. gathered ns back.members) (sym hand_is) ∙ gathered_hand items back.members hand_apart (λ m y f. ap (λ x. or_else x (or_else (slice_index_or loose m None) (member_among m tasks))) f));
            answer = ap (answer_to s.sites t) (sym after) ∙ told.told ∙ ap (λ x. Some x) (sym (w.answer told.answer told.told));
            left = w.left ∙ ap (λ l. left s.opts l t) after;
            keys_are = λ f. absurd (no_both (is_object g.answer) (ap is_object (w.answer (answer.Object (object_count j)) (ap (answer_to s.sites t) after ∙ made_answer))) f);
          };
          rest = record {
            journal = after;
            sites = refl;
            opts = refl;
            input = refl;
            abandoned = refl;
            values = λ u. values u (u == t) refl;
            members = λ m. members m (has (held t i) m) refl;
          };
        }

-- ---- the act of a request that makes an object

abbrev class_in : Request → ℕ
class_in (ask.Make class) = class
class_in r = 0

request_is : (r : Request) → IsMake r → r ≡ ask.Make (class_in r)
request_is (ask.Make class) h = refl
request_is r h = absurd h

or_true : (b : Bool) → (b || true) ≡ true
or_true true = refl
or_true false = refl

pub over_fault : (j : Journal) (p t : ℕ) (k : Cost) (n line : ℕ) → is_over (j ++ fault p t k n line ∷ []) ≡ true
unfolding is_over
over_fault j p t k n line = over_push j (fault p t k n line ∷ []) ∙ or_true (is_over j)

module _ (opts : Options) (sites : List Site) (input : List ℕ) (j : Journal) (p t k : ℕ) where
  row_made : (class line : ℕ) → is_over (j ++ row opts sites input j p t (cost k line) line (ask.Make class)) ≡ false → row opts sites input j p t (cost k line) line (ask.Make class) ≡ asking kind.Make p t (cost k line) (object_count j) (pos class) (pos 0) ∷ []
  row_made class line h = by (nat_lt (object_count j) OBJECTS) h
    where
      by : (b : Bool) → is_over (j ++ or_fault b (asking kind.Make p t (cost k line) (object_count j) (pos class) (pos 0)) (fault p t (cost k line) 16 line)) ≡ false → or_fault b (asking kind.Make p t (cost k line) (object_count j) (pos class) (pos 0)) (fault p t (cost k line) 16 line) ≡ asking kind.Make p t (cost k line) (object_count j) (pos class) (pos 0) ∷ []
      by true h = refl
      by false h = absurd (no_both (is_over (j ++ fault p t (cost k line) 16 line ∷ [])) (over_fault j p t (cost k line) 16 line) h)

  act_made : (asked : Asked) → IsMake asked.request → is_over (j ++ act opts sites input j p t k asked) ≡ false → act opts sites input j p t k asked ≡ asking kind.Make p t (cost k asked.line) (object_count j) (pos (class_in asked.request)) (pos 0) ∷ []
  act_made asked m h =
      let g = (going_row opts sites input j p t k asked h).0 ∙ ap (row opts sites input j p t (cost k asked.line) asked.line) (request_is asked.request m) in
      g ∙ row_made (class_in asked.request) asked.line (ap (λ a. is_over (j ++ a)) (sym g) ∙ h)

  shaped_of : (asked : Asked) → IsMake asked.request → Shaped is_making (act opts sites input j p t k asked)
  shaped_of asked m =
      subst (λ r. Shaped is_making (act opts sites input j p t k (record { request = r; line = asked.line }))) (sym (request_is asked.request m)) (shaped_make opts sites input j p t k (class_in asked.request) asked.line)

-- such an act takes no object out and spawns nobody
pub second_takes : (a : List Entry) (k : ℕ) → SecondFits a → takes_out a k ≡ false
second_takes [] k h = refl
second_takes (e ∷ a) k h = or_both (takes_object e.kind e k) (takes_out a k) (none e.kind h.0) (trails_takes a k h.1)
  where
    none : (x : EntryKind) → (trails x || is_admit x) ≡ true → takes_object x e k ≡ false
    none kind.Gone n = cc
    none x n = refl

pub second_spawn : (a : List Entry) (u : ℕ) → SecondFits a → spawns a u ≡ false
second_spawn [] u h = refl
second_spawn (e ∷ a) u h = or_both (spawns_task u e.kind e) (spawns a u) (none e.kind h.0) (trails_spawn a u h.1)
  where
    none : (x : EntryKind) → (trails x || is_admit x) ≡ true → spawns_task u x e ≡ false
    none kind.Spawn n = cc
    none x n = refl

made_takes : (a : List Entry) (k : ℕ) → Shaped is_making a → takes_out a k ≡ false
made_takes [] k h = absurd h
made_takes (e ∷ a) k h = or_both (takes_object e.kind e k) (takes_out a k) (none e.kind h.0) (second_takes a k h.1)
  where
    none : (x : EntryKind) → is_making x ≡ true → takes_object x e k ≡ false
    none kind.Gone n = cc
    none x n = refl

made_spawns : (a : List Entry) (u : ℕ) → Shaped is_making a → spawns a u ≡ false
made_spawns [] u h = absurd h
made_spawns (e ∷ a) u h = or_both (spawns_task u e.kind e) (spawns a u) (none e.kind h.0) (second_spawn a u h.1)
  where
    none : (x : EntryKind) → is_making x ≡ true → spawns_task u x e ≡ false
    none kind.Spawn n = cc
    none x n = refl

abbrev pub nothing_gone : Entry
nothing_gone = entry kind.Limit 0 0 0 0 (pos 0) (pos 0)

module _ {T M : Type 0} (s : Seen) (t : ℕ) (b : Brought T M) (tasks : List (Option (TaskAtRest T M))) (loose : List (Option M)) (x : FromAct s t b tasks loose) (makes : IsMake b.asked.request) where
  sound0 : Sound x.before
  sound0 = (good_whole s.opts s.sites s.input x.runs).sound

  abbrev a : List Entry
  a = act s.opts s.sites s.input x.before b.processor t b.ticks b.asked

  pub runs_on : KernelRuns s.opts s.sites s.input s.journal
  runs_on =
      subst (KernelRuns s.opts s.sites s.input) (sym x.after) (more x.runs x.going (acts b.processor t b.ticks b.asked x.asks))

  pub known : t < length tasks
  known =
      let m = known_at x.before sound0 t (Running b.processor) (first_at x.before sound0 (Running b.processor) t [] x.asks.runs) in
      let e = x.lies.tasks_are in omega (arith, m, e)

  pub small_made : t < TASKS
  small_made =
      let lt = known in
      let c = x.lies.tasks_are in
      let b = few_tasks s.opts s.sites s.input x.runs in
      omega (arith, lt, c, b)

  pub ended_made : is_over s.journal ≡ true → (wanted : Bool) → Ends (put_back a t b.task b.members.items b.child (kept (stored (earlier x.before s) wanted tasks loose))) (kept (stored s wanted (slice_set tasks t (Some (record { task = b.task; members = b.members }))) loose))
  ended_made over wanted =
      let shape = shaped_of s.opts s.sites s.input x.before b.processor t b.ticks b.asked makes in
      ended s t x.before a x.after over sound0 b.members.items x.hand tasks loose x.lies (x.lies.out b.processor t x.asks.runs) known (λ u. made_spawns a u shape) nothing_gone (λ k. made_takes a k shape) (λ k h. cc) b.task b.members refl wanted b.child

  module _ (going : is_over s.journal ≡ false) where
    is_made : a ≡ asking kind.Make b.processor t (cost b.ticks b.asked.line) (object_count x.before) (pos (class_in b.asked.request)) (pos 0) ∷ []
    is_made = act_made s.opts s.sites s.input x.before b.processor t b.ticks b.asked makes (ap is_over (sym x.after) ∙ going)

    after : s.journal ≡ x.before ++ asking kind.Make b.processor t (cost b.ticks b.asked.line) (object_count x.before) (pos (class_in b.asked.request)) (pos 0) ∷ []
    after = x.after ∙ ap (λ l. x.before ++ l) is_made

    still_runs : running b.processor s.journal ≡ t ∷ []
    still_runs =
        ap (running b.processor) after ∙ running_silent b.processor x.before (asking kind.Make b.processor t (cost b.ticks b.asked.line) (object_count x.before) (pos (class_in b.asked.request)) (pos 0)) (λ u. refl) (λ u. refl) ∙ x.asks.runs

    pub few_made : length (running b.processor s.journal) ≤ 1
    few_made = subst (λ l. length l ≤ 1) (sym still_runs) (omega arith)

    module _ (next : Next T M) (tasks' : List (Option (TaskAtRest T M))) (handed_on : HandedOn s b.processor t b.task b.members tasks next tasks') where
      pub lies_on_made : Lies s.journal tasks' (loose ++ None ∷ [])
      lies_on_made = by next handed_on
        where
          all : Lies s.journal tasks (loose ++ None ∷ [])
          all = lies_made s t b.processor (cost b.ticks b.asked.line) (class_in b.asked.request) x.before after runs_on going x.asks.runs sound0 b.members.items x.hand tasks loose x.lies

          by : (next : Next T M) → HandedOn s b.processor t b.task b.members tasks next tasks' → Lies s.journal tasks' (loose ++ None ∷ [])
          by (Go g) w = subst (λ l. Lies s.journal l (loose ++ None ∷ [])) (sym w.rest) all
          by Blocked w = absurd (no_one (sym w.free ∙ still_runs))
            where
              no_one : [] ≡ t ∷ [] → ⊥
              no_one e = cc
          by Ended w = absurd w

      pub follows_made : (wanted : Bool) → Follows (put_back a t b.task b.members.items b.child (kept (stored (earlier x.before s) wanted tasks loose))) (kept (stored s wanted tasks' (loose ++ None ∷ []))) b.processor t next
      follows_made wanted =
          subst (λ l. Follows (put_back l t b.task b.members.items b.child (kept (stored (earlier x.before s) wanted tasks loose))) (kept (stored s wanted tasks' (loose ++ None ∷ []))) b.processor t next) (sym is_made) (by next handed_on)
        where
          e : Entry
          e = asking kind.Make b.processor t (cost b.ticks b.asked.line) (object_count x.before) (pos (class_in b.asked.request)) (pos 0)

          by : (next : Next T M) → HandedOn s b.processor t b.task b.members tasks next tasks' → Follows (put_back (asking kind.Make b.processor t (cost b.ticks b.asked.line) (object_count x.before) (pos (class_in b.asked.request)) (pos 0) ∷ []) t b.task b.members.items b.child (kept (stored (earlier x.before s) wanted tasks loose))) (kept (stored s wanted tasks' (loose ++ None ∷ []))) b.processor t next
          by (Go g) w =
              subst (λ l. Goes (put_back (asking kind.Make b.processor t (cost b.ticks b.asked.line) (object_count x.before) (pos (class_in b.asked.request)) (pos 0) ∷ []) t b.task b.members.items b.child (kept (stored (earlier x.before s) wanted tasks loose))) (kept (stored s wanted l (loose ++ None ∷ []))) b.processor t g) (sym w.rest) (goes_made s t b.processor (cost b.ticks b.asked.line) (class_in b.asked.request) x.before after runs_on going x.asks.runs sound0 b.members.items x.hand tasks loose x.lies b.task wanted b.child b.members refl g (record { runner = w.runner; runs = w.runs; processor = w.processor; task = w.task; members_are = w.members_are; answer = w.answer; left = w.left; rest = refl }))
          by Blocked w = absurd (no_one (sym w.free ∙ still_runs))
            where
              no_one : [] ≡ t ∷ [] → ⊥
              no_one e = cc
          by Ended w = absurd w

      -- the object that was made is missing in the hand
      pub lacks_made : LacksNew s.journal t next
      lacks_made = by next handed_on
        where
          by : (next : Next T M) → HandedOn s b.processor t b.task b.members tasks next tasks' → LacksNew s.journal t next
          by (Go g) w = λ o e.
              let told : answer_to s.sites t s.journal ≡ Some (answer.Object (object_count x.before)) = ap (answer_to s.sites t) after ∙ made_answer s t b.processor (cost b.ticks b.asked.line) (class_in b.asked.request) x.before after runs_on going x.asks.runs sound0 b.members.items x.hand tasks loose x.lies b.task false b.child in
              let same : object_count x.before ≡ o = cc (sym (w.answer (answer.Object (object_count x.before)) told) ∙ e) in
              let hand : keys b.members.items ≡ keys g.members.items = sym (ap (λ (l : Listed (ℕ × M)). keys l.items) w.members_are) in
              ap (held t) after ∙ held_own s t b.processor (cost b.ticks b.asked.line) (class_in b.asked.request) x.before after runs_on going x.asks.runs sound0 b.members.items x.hand tasks loose x.lies ∙ ap (λ ks. ks ++ object_count x.before ∷ []) (sym x.hand ∙ hand) ∙ ap (λ n. keys g.members.items ++ n ∷ []) same
          by Blocked w = tt
          by Ended w = absurd w
