-- What follows an act: its task goes on, is put to rest, or the run is over.
use Rattle.std.proofs.Common.{◌≡◌, ℕ, ◌==◌, ◌<◌, ◌≤◌, Bool, true, false, List, [], ◌∷◌, ◌++◌, Option, Some, None, refl, sym, ap, ◌∙◌, subst, length, arith, get_or-set_same, get_or-set_other, length-set, inl, inr}
use Rattle.std.specs.Prelude.{slice_index_or, slice_set, if◌then◌else◌}
use Rattle.std.proofs.lemmas.Bool.{eqb-true, eq-eqb}
use Rattle.uc_tree.specs.declared.limits.TheConstants.{TASKS}
use Rattle.uc_entry.specs.declared.entry.Entry.{Entry}
use Rattle.uc_entry.specs.Listed.{Listed}
use Rattle.uc_entry.specs.Keyed.{find}
use Rattle.uc_acts.specs.Journal.{Journal, held, is_over}
use Rattle.uc_acts.specs.Known.{has}
use Rattle.uc_acts.specs.Queues.{running}
use Rattle.uc_acts.specs.Answers.{answer_to}
use Rattle.uc_acts.specs.Serves.{left}
use Rattle.uc_acts.specs.Stations.{Running}
use Rattle.uc_acts.specs.Sound.{At, Sound, spot}
use Rattle.uc_acts.specs.KernelRuns.{KernelRuns, InRange}
use Rattle.uc_acts.proofs.SoundLemmas.{self_test}
use Rattle.uc_acts.proofs.Moves.{first_at, known_at}
use Rattle.uc_acts.proofs.Law.{good_whole}
use Rattle.uc_acts.proofs.Answered.{law_answered}
use Rattle.uc_kernel_core.specs.Mirrors.{Seen}
use Rattle.uc_kernel.specs.declared.given.Given.{Given}
use Rattle.uc_kernel.specs.declared.given.Next.{Next}
use Rattle.uc_kernel.specs.declared.given.Next.TheVariants.{Go, Blocked, Ended}
use Rattle.uc_kernel.specs.declared.rests.TaskAtRest.{TaskAtRest}
use Rattle.uc_kernel.specs.Numbered.{keys, or_else, gathered}
use Rattle.uc_kernel.specs.KernelState.{Kept, kept, stored, put_back, task_in, member_in, member_among}
use Rattle.uc_kernel.specs.Calls.{Goes, Blocks, Follows}
use Rattle.uc_kernel.specs.AtRest.{Lies, IsOut, is_ready, AreApart, GoesWith, HandedOn, earlier}
use Rattle.uc_kernel.proofs.Hands.{no_both, some-same, none_found, find_some, gathered_hand}
use Rattle.uc_kernel.proofs.Places.{among_only, among_same}
use Rattle.uc_kernel.proofs.Lying.{not_true, apart_of, loose_none, others_none, nowhere_else}
use Rattle.uc_kernel.proofs.Moving.{AtMost}
use Rattle.uc_kernel.proofs.Counting.{few_tasks}
use Rattle.uc_kernel.proofs.Stages.{differ}
use Rattle.uc_kernel.proofs.Following.{Done, same_one}

one_of : (t r : ℕ) (xs : List ℕ) → AtMost t xs → xs ≡ r ∷ [] → xs ≡ t ∷ []
one_of t r xs (inl none) h = clash (sym h ∙ none)
  where
    clash : {A : Type 0} → r ∷ [] ≡ [] → A
    clash e = absurd (cc)
one_of t r xs (inr one) h = one

-- the journal i goes on from j by the act a of task t on p, and this came of it
module _ {T M : Type 0} (s : Seen) (t p : ℕ) (j : Journal) (a : List Entry) (after : s.journal ≡ j ++ a) (runs_on : KernelRuns s.opts s.sites s.input s.journal) (range : InRange s.opts) (runs0 : KernelRuns s.opts s.sites s.input j) (runs : running p j ≡ t ∷ []) (sound0 : Sound j) (apart_runs : (q : ℕ) → (q == p) ≡ false → running q s.journal ≡ running q j) (items : List (ℕ × M)) (child : Option T) (tasks : List (Option (TaskAtRest T M))) (loose : List (Option M)) (lies : Lies j tasks loose) (hand2 : Listed (ℕ × M)) (tasks2 : List (Option (TaskAtRest T M))) (loose2 : List (Option M)) (d : Done t p j s.journal a items child tasks loose hand2 tasks2 loose2) where
  sound : Sound s.journal
  sound = (good_whole s.opts s.sites s.input runs_on).sound

  same_held : (u : ℕ) → held u s.journal ≡ held u (j ++ a)
  same_held u = ap (held u) after

  -- nobody else runs on two processors, and t runs on p alone
  elsewhere : (u q : ℕ) → (u == t) ≡ false → running q j ≡ u ∷ [] → (q == p) ≡ false
  elsewhere u q n h = not_true (q == p) (λ e. no_both (u == t) (eq-eqb u t (same_one u t (sym h ∙ ap (λ v. running v j) (eqb-true q p e) ∙ runs))) n)

  alone : (q : ℕ) → (q == p) ≡ false → running q j ≡ t ∷ [] → ⊥
  alone q n h = no_both (q == p) (eq-eqb q p (place q (sym (first_at j sound0 (Running q) t [] h) ∙ first_at j sound0 (Running p) t [] runs))) n
    where
      place : (q : ℕ) → At (Running q) ≡ At (Running p) → q ≡ p
      place q e = cc

  -- whoever else runs is not at rest, and everybody else that is not at rest runs
  out_else : (q u : ℕ) → (q == p) ≡ false → running q s.journal ≡ u ∷ [] → ((u == t) ≡ false) × (slice_index_or tasks2 u None ≡ None)
  out_else q u n h =
      let before = sym (apart_runs q n) ∙ h in
      (not_true (u == t) (λ e. alone q n (before ∙ ap (λ v. v ∷ []) (eqb-true u t e))), d.still_none u (let b = known_at j sound0 u (Running q) (first_at j sound0 (Running q) u [] before) in let c = lies.tasks_are in omega (arith, b, c)) (lies.out q u before))

  there_else : (u : ℕ) → (u == t) ≡ false → u < length tasks → slice_index_or tasks2 u None ≡ None → IsOut u s.journal
  there_else u n lt h =
      let out = lies.there u lt (d.was_none u h) in
      record { processor = out.processor; runs = apart_runs out.processor (elsewhere u out.processor n out.runs) ∙ out.runs }

  pub small : t < length tasks → t < TASKS
  small lt =
      let a = lies.tasks_are in
      let b = few_tasks s.opts s.sites s.input runs0 in
      omega (arith, lt, a, b)

  pub few : length (running p s.journal) ≤ 1
  few = by d.most
    where
      by : AtMost t (running p s.journal) → length (running p s.journal) ≤ 1
      by (inl none) = subst (λ l. length l ≤ 1) (sym none) (omega arith)
      by (inr one) = subst (λ l. length l ≤ 1) (sym one) (omega arith)

  pub known_then : t < length tasks → t < length tasks2
  known_then lt = let l = d.longer in omega (arith, lt, l)

  pub lies_going : (r : ℕ) → running p s.journal ≡ r ∷ [] → Lies s.journal tasks2 loose2
  lies_going r h =
      let now : running p s.journal ≡ t ∷ [] = one_of t r (running p s.journal) d.most h in
      record {
        hands = d.mid.hands;
        room = d.room;
        loose_are = d.mid.loose_are;
        present = d.mid.present;
        tasks_are = d.mid.tasks_are;
        objects_are = d.mid.objects_are;
        out = λ q u f. out now q u (q == p) refl f;
        there = λ u lt f. there now u (u == t) refl (d.less u lt f) f;
      }
    where
      out : running p s.journal ≡ t ∷ [] → (q u : ℕ) (c : Bool) → (q == p) ≡ c → running q s.journal ≡ u ∷ [] → slice_index_or tasks2 u None ≡ None
      out now q u true e f =
          let same : t ≡ u = same_one t u (sym now ∙ ap (λ v. running v s.journal) (sym (eqb-true q p e)) ∙ f) in
          ap (λ v. slice_index_or tasks2 v None) (sym same) ∙ d.mid.mine
      out now q u false e f = (out_else q u e f).1

      there : running p s.journal ≡ t ∷ [] → (u : ℕ) (c : Bool) → (u == t) ≡ c → u < length tasks → slice_index_or tasks2 u None ≡ None → IsOut u s.journal
      there now u true e lt f = record { processor = p; runs = now ∙ ap (λ v. v ∷ []) (sym (eqb-true u t e)) }
      there now u false e lt f = there_else u e lt f

  module _ (known : t < length tasks) (value : T) where
    abbrev rest : TaskAtRest T M
    rest = record { task = value; members = hand2 }

    known2 : t < length tasks2
    known2 = known_then known

    abbrev tasks3 : List (Option (TaskAtRest T M))
    tasks3 = slice_set tasks2 t (Some (record { task = value; members = hand2 }))

    at_t : slice_index_or tasks3 t None ≡ Some rest
    at_t = get_or-set_same tasks2 t (Some rest) None known2

    at_other : (u : ℕ) → (u == t) ≡ false → slice_index_or tasks3 u None ≡ slice_index_or tasks2 u None
    at_other u n = get_or-set_other tasks2 t u (Some rest) None (differ u t n)

    pub lies_blocked : running p s.journal ≡ [] → Lies s.journal tasks3 loose2
    lies_blocked free = record {
      hands = λ u r f. hands u r (u == t) refl f;
      room = λ u r f n. room u r (u == t) refl f n;
      loose_are = d.mid.loose_are;
      present = d.mid.present;
      tasks_are = length-set tasks2 t (Some rest) ∙ d.mid.tasks_are;
      objects_are = d.mid.objects_are;
      out = λ q u f. out q u (q == p) refl f;
      there = λ u lt f. there u (u == t) refl (subst (λ n. u < n) (length-set tasks2 t (Some rest)) lt) f;
    }
      where
        is_rest : (u : ℕ) (r : TaskAtRest T M) → (u == t) ≡ true → slice_index_or tasks3 u None ≡ Some r → rest ≡ r
        is_rest u r e f = some-same (sym at_t ∙ ap (λ v. slice_index_or tasks3 v None) (sym (eqb-true u t e)) ∙ f)

        hands : (u : ℕ) (r : TaskAtRest T M) (c : Bool) → (u == t) ≡ c → slice_index_or tasks3 u None ≡ Some r → keys r.members.items ≡ held u s.journal
        hands u r true e f =
            ap (λ x. keys x.members.items) (sym (is_rest u r e f)) ∙ d.mid.hand_is ∙ ap (λ v. held v s.journal) (sym (eqb-true u t e))
        hands u r false e f = d.mid.hands u r (sym (at_other u e) ∙ f)

        room : (u : ℕ) (r : TaskAtRest T M) (c : Bool) → (u == t) ≡ c → slice_index_or tasks3 u None ≡ Some r → is_ready (spot u s.journal) ≡ false → 1 ≤ r.members.spare
        room u r true e f n = subst (λ x. 1 ≤ x.members.spare) (is_rest u r e f) (d.own_room free)
        room u r false e f n = d.room u r (sym (at_other u e) ∙ f) n

        clash : (u : ℕ) → [] ≡ u ∷ [] → ⊥
        clash u e = cc

        no_rest : (u : ℕ) → (u == t) ≡ true → slice_index_or tasks3 u None ≡ None → ⊥
        no_rest u e f = none (sym at_t ∙ ap (λ v. slice_index_or tasks3 v None) (sym (eqb-true u t e)) ∙ f)
          where
            none : Some rest ≡ None → ⊥
            none e = cc

        out : (q u : ℕ) (c : Bool) → (q == p) ≡ c → running q s.journal ≡ u ∷ [] → slice_index_or tasks3 u None ≡ None
        out q u true e f = absurd (clash u (sym free ∙ ap (λ v. running v s.journal) (sym (eqb-true q p e)) ∙ f))
        out q u false e f = let w = out_else q u e f in at_other u w.0 ∙ w.1

        there : (u : ℕ) (c : Bool) → (u == t) ≡ c → u < length tasks2 → slice_index_or tasks3 u None ≡ None → IsOut u s.journal
        there u true e lt f = absurd (no_rest u e f)
        there u false e lt f =
            let g = sym (at_other u e) ∙ f in there_else u e (d.less u lt g) g

    -- ---- what contracts see
    module _ (wanted : Bool) where
      abbrev back : Kept T M
      back = put_back a t value items child (kept (stored (earlier j s) wanted tasks loose))

      self_value : back.values t ≡ Some value
      self_value = let e = self_test t in rw e refl

      other_value : (u : ℕ) → (u == t) ≡ false → back.values u ≡ task_in (slice_index_or tasks2 u None)
      other_value u n = rw n (sym (d.values u n))

      apart2 : AreApart hand2.items
      apart2 = apart_of t s.journal hand2.items d.mid.hand_is

      rest_members : (o : ℕ) → has (held t s.journal) o ≡ true → or_else (slice_index_or loose2 o None) (member_among o tasks2) ≡ None
      rest_members o h =
          ap (λ y. or_else y (member_among o tasks2)) (loose_none s.journal tasks2 loose2 d.mid.loose_are t o h) ∙ nowhere_else s.journal tasks2 loose2 sound d.mid.hands t o h d.mid.mine

      not_in_hand : (o : ℕ) → has (held t s.journal) o ≡ false → find o hand2.items ≡ None
      not_in_hand o h = none_found o hand2.items (ap (λ ks. has ks o) d.mid.hand_is ∙ h)

      pub goes : (g : Given T M) → is_over s.journal ≡ false → GoesWith s p t value hand2 tasks2 tasks2 g → Goes back (kept (stored s wanted tasks2 loose2)) p t g
      goes g going w =
          let now : running p s.journal ≡ t ∷ [] = one_of t w.runner (running p s.journal) d.most w.runs in
          let told = (law_answered s.opts s.sites s.input s.journal runs_on going).running p t now in
          record {
            going = ap is_over (sym after) ∙ going;
            hands = record {
              processor = w.processor;
              runs = ap (running p) (sym after) ∙ now;
              value = self_value ∙ ap (λ x. Some x) (sym w.task);
              hand = ap (λ l. l.items) w.members_are ∙ sym (ap (λ ks. gathered ks back.members) (ap (held t) (sym after) ∙ sym d.mid.hand_is) ∙ gathered_hand hand2.items back.members apart2 (λ o m f. sym (d.view o) ∙ ap (λ y. or_else y (or_else (slice_index_or loose2 o None) (member_among o tasks2))) f));
              answer = ap (answer_to s.sites t) (sym after) ∙ told.told ∙ ap (λ x. Some x) (sym (w.answer told.answer told.told));
              left = w.left ∙ ap (λ i. left s.opts i t) after;
              keys_are = λ _. ap (λ l. keys l.items) w.members_are ∙ d.mid.hand_is ∙ ap (held t) after;
            };
            rest = record {
              journal = after;
              sites = refl;
              opts = refl;
              input = refl;
              abandoned = refl;
              values = λ u. values u (u == t) refl;
              members = λ o. members o (has (held t s.journal) o) refl;
            };
          }
        where
          values : (u : ℕ) (c : Bool) → (u == t) ≡ c → task_in (slice_index_or tasks2 u None) ≡ (if u == t then None else back.values u)
          values u true e = rw e (ap (λ v. task_in (slice_index_or tasks2 v None)) (eqb-true u t e) ∙ ap task_in d.mid.mine)
          values u false e = sym (other_value u e) ∙ ap (λ c. if c then None else back.values u) (sym e)

          members : (o : ℕ) (c : Bool) → has (held t s.journal) o ≡ c → or_else (slice_index_or loose2 o None) (member_among o tasks2) ≡ (if has (held t (j ++ a)) o then None else back.members o)
          members o true e =
              rest_members o e ∙ ap (λ c. if c then None else back.members o) (sym e ∙ ap (λ i. has (held t i) o) after)
          members o false e =
              ap (λ y. or_else y (or_else (slice_index_or loose2 o None) (member_among o tasks2))) (sym (not_in_hand o e)) ∙ d.view o ∙ ap (λ c. if c then None else back.members o) (sym e ∙ ap (λ i. has (held t i) o) after)

      pub blocks : is_over s.journal ≡ false → running p s.journal ≡ [] → Blocks back (kept (stored s wanted tasks3 loose2)) p
      blocks going free = record {
        going = ap is_over (sym after) ∙ going;
        free = ap (running p) (sym after) ∙ free;
        rest = record {
          journal = after;
          sites = refl;
          opts = refl;
          input = refl;
          abandoned = refl;
          values = λ u. values u (u == t) refl;
          members = λ o. members o (find o hand2.items) refl;
        };
      }
        where
          values : (u : ℕ) (c : Bool) → (u == t) ≡ c → task_in (slice_index_or tasks3 u None) ≡ back.values u
          values u true e =
              let same = eqb-true u t e in
              ap (λ v. task_in (slice_index_or tasks3 v None)) same ∙ ap task_in at_t ∙ sym self_value ∙ ap back.values (sym same)
          values u false e = ap task_in (at_other u e) ∙ sym (other_value u e)

          members : (o : ℕ) (y : Option M) → find o hand2.items ≡ y → or_else (slice_index_or loose2 o None) (member_among o tasks3) ≡ back.members o
          members o (Some y) f =
              let h : has (held t s.journal) o ≡ true = ap (λ ks. has ks o) (sym d.mid.hand_is) ∙ find_some o y hand2.items f in
              let long3 : t < length tasks3 = subst (λ n. t < n) (sym (length-set tasks2 t (Some rest))) known2 in
              ap (λ z. or_else z (member_among o tasks3)) (loose_none s.journal tasks2 loose2 d.mid.loose_are t o h) ∙ among_only o t y tasks3 long3 (ap (member_in o) at_t ∙ f) (λ u n. ap (member_in o) (get_or-set_other tasks2 t u (Some rest) None n) ∙ others_none s.journal tasks2 loose2 sound d.mid.hands t o h u n) ∙ ap (λ z. or_else z (or_else (slice_index_or loose2 o None) (member_among o tasks2))) (sym f) ∙ d.view o
          members o None f =
              ap (or_else (slice_index_or loose2 o None)) (among_same o t (Some rest) tasks2 (f ∙ ap (member_in o) (sym d.mid.mine))) ∙ ap (λ z. or_else z (or_else (slice_index_or loose2 o None) (member_among o tasks2))) (sym f) ∙ d.view o

      pub follows : (next : Next T M) (tasks' : List (Option (TaskAtRest T M))) → is_over s.journal ≡ false → HandedOn s p t value hand2 tasks2 next tasks' → Follows back (kept (stored s wanted tasks' loose2)) p t next
      follows (Go g) tasks' going w =
          subst (λ l. Goes back (kept (stored s wanted l loose2)) p t g) (sym w.rest) (goes g going (record { runner = w.runner; runs = w.runs; processor = w.processor; task = w.task; members_are = w.members_are; answer = w.answer; left = w.left; rest = refl }))
      follows Blocked tasks' going w =
          subst (λ l. Blocks back (kept (stored s wanted l loose2)) p) (sym w.rest) (blocks going w.free)
      follows Ended tasks' going w = absurd w

    pub lies_on : (next : Next T M) (tasks' : List (Option (TaskAtRest T M))) → HandedOn s p t value hand2 tasks2 next tasks' → Lies s.journal tasks' loose2
    lies_on (Go g) tasks' w = subst (λ l. Lies s.journal l loose2) (sym w.rest) (lies_going w.runner w.runs)
    lies_on Blocked tasks' w = subst (λ l. Lies s.journal l loose2) (sym w.rest) (lies_blocked w.free)
    lies_on Ended tasks' w = absurd w
