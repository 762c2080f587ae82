-- A dispatch, in what lies where.
use Rattle.std.proofs.Common.{◌≡◌, ◌≢◌, ℕ, ◌==◌, ◌+◌, ◌<◌, ◌≤◌, ◌||◌, Bool, true, false, List, [], ◌∷◌, ◌++◌, Option, Some, None, refl, sym, ap, ◌∙◌, subst, get_or, set, length, arith, get_or-set_same, get_or-set_other, length-set}
use Rattle.std.specs.Prelude.{slice_index_or, slice_set, if◌then◌else◌, MatchOption}
use Rattle.uc_tree.specs.Programs.{Site}
use Rattle.uc_tree.specs.declared.limits.TheConstants.{TASKS}
use Rattle.uc_entry.specs.declared.entry.Entry.{Entry}
use Rattle.uc_entry.specs.declared.entry.Options.{Options}
use Rattle.std.proofs.lemmas.Bool.{eqb-true, eq-eqb}
use Rattle.uc_acts.specs.Journal.{Journal, held, is_over}
use Rattle.uc_acts.specs.Known.{has}
use Rattle.uc_acts.specs.Queues.{running}
use Rattle.uc_acts.specs.Stations.{Ready, Running}
use Rattle.uc_acts.specs.Sound.{At, Sound, spot}
use Rattle.uc_acts.specs.Serves.{Serves}
use Rattle.uc_acts.specs.Acts.{dispatch, lone_limit}
use Rattle.uc_acts.specs.KernelRuns.{KernelRuns, gives, no_room, more}
use Rattle.uc_acts.proofs.Bounds.{law_room, over_push, over_limit}
use Rattle.uc_acts.proofs.Seats.{running_other, running_given}
use Rattle.uc_acts.proofs.SoundLemmas.{tasks_push, objects_push}
use Rattle.uc_acts.proofs.Moves.{first_at, known_at, spot_stays}
use Rattle.uc_acts.proofs.Law.{good_whole}
use Rattle.uc_acts.proofs.Given.{held_given}
use Rattle.uc_acts.proofs.Answered.{law_answered}
use Rattle.uc_acts.proofs.Living.{gone_still}
use Rattle.uc_kernel_core.specs.Mirrors.{Seen, Appended}
use Rattle.uc_kernel_core.specs.CoreActs.{IsReady, IsFirst, Gave, GaveNone}
use Rattle.uc_kernel_core.specs.CoreActs as book
use Rattle.uc_kernel.specs.declared.given.Given.{Given}
use Rattle.uc_kernel.specs.declared.rests.TaskAtRest.{TaskAtRest}
use Rattle.uc_kernel.specs.Numbered.{or_else, gathered}
use Rattle.uc_kernel.specs.KernelState.{Same, stored, kept, handed, with_entry, member_among, task_in}
use Rattle.uc_kernel.specs.Calls.{HandsOut, Gives, GivesNone, Dispatched}
use Rattle.uc_kernel.specs.Calls as calls
use Rattle.uc_kernel.specs.AtRest.{Lies, IsKept, IsOut, TakenOut, is_ready}
use Rattle.uc_kernel.proofs.Counting.{few_tasks}
use Rattle.uc_kernel.proofs.Hands.{no_both}
use Rattle.uc_kernel.proofs.Places.{among_same}
use Rattle.uc_kernel.proofs.Lying.{not_true, loose_none, nowhere_else, gathered_of, no_member}

or_none : (b : Bool) → b ≡ false → (b || false) ≡ false
or_none b h = rw h refl

pub over_given : (p t : ℕ) (j : Journal) → is_over j ≡ false → is_over (j ++ dispatch p t ∷ []) ≡ false
unfolding is_over
over_given p t j h = over_push j (dispatch p t ∷ []) ∙ or_none (is_over j) h

-- another place of a list stays, and the place that is set may be past its end
pub set_other : {A : Type 0} (xs : List A) (i k : ℕ) (x d : A) → k ≢ i → get_or (set xs i x) k d ≡ get_or xs k d
set_other xs i k x d n = get_or-set_other xs i k x d n

abbrev pub seen_of : List Entry → List Site → Options → List ℕ → Seen
seen_of j sites opts input = record { journal = j; sites = sites; opts = opts; input = input }

pub seen_is : (s s' : Seen) (a : List Entry) → Appended s s' a → s' ≡ seen_of (s.journal ++ a) s.sites s.opts s.input
seen_is s s' a h =
    ap (λ x. seen_of x s'.sites s'.opts s'.input) h.journal ∙ ap (λ x. seen_of (s.journal ++ a) x s'.opts s'.input) h.sites ∙ ap (λ x. seen_of (s.journal ++ a) s.sites x s'.input) h.opts ∙ ap (seen_of (s.journal ++ a) s.sites s.opts) h.input

pub differ : (u t : ℕ) → (u == t) ≡ false → u ≢ t
differ u t h e = no_both (u == t) (eq-eqb u t e) h

module _ {T M : Type 0} (s : Seen) (tasks : List (Option (TaskAtRest T M))) (loose : List (Option M)) (k : IsKept s tasks loose) (going : is_over s.journal ≡ false) where
  abbrev j : Journal
  j = s.journal

  sound : Sound s.journal
  sound = (good_whole s.opts s.sites s.input k.runs).sound

  lies : Lies s.journal tasks loose
  lies = k.lies going

  pub is_ready_of : IsReady s
  is_ready_of = record { going = going; room = (law_room s.opts s.sites s.input s.journal k.range k.runs).going going }

  module _ (p t : ℕ) (v : Serves s.opts s.journal p t) (room : length s.journal + 2 ≤ s.opts.entries) where
    at : spot t s.journal ≡ At (Ready v.cluster)
    at = first_at s.journal sound (Ready v.cluster) t v.later v.queued

    pub known : t < length tasks
    known =
        let a = known_at s.journal sound t (Ready v.cluster) at in
        let b = lies.tasks_are in omega (arith, a, b)

    abbrev i : Journal
    i = s.journal ++ dispatch p t ∷ []

    pub still_going : (s' : Seen) → Appended s s' (dispatch p t ∷ []) → is_over s'.journal ≡ false
    still_going s' a = ap is_over a.journal ∙ over_given p t s.journal going

    pub small : t < TASKS
    small =
        let lt = known in
        let a = lies.tasks_are in
        let b = few_tasks s.opts s.sites s.input k.runs in
        omega (arith, lt, a, b)

    -- whoever is ready is at rest
    pub at_rest : slice_index_or tasks t None ≡ None → ⊥
    at_rest h =
        let out = lies.there t known h in
        clash out.processor (sym at ∙ first_at s.journal sound (Running out.processor) t [] out.runs)
      where
        clash : (q : ℕ) → At (Ready v.cluster) ≡ At (Running q) → ⊥
        clash q e = cc

    pub runs_on : KernelRuns s.opts s.sites s.input (s.journal ++ dispatch p t ∷ [])
    runs_on = more k.runs going (gives p t v room)

    running_else : (q : ℕ) → (q == p) ≡ false → running q (s.journal ++ dispatch p t ∷ []) ≡ running q s.journal
    running_else q n = running_other q s.journal (dispatch p t) (flip (p == q) refl)
      where
        flip : (b : Bool) → (p == q) ≡ b → (p == q) ≡ false
        flip false h = h
        flip true h = absurd (no_both (q == p) (eq-eqb q p (sym (eqb-true p q h))) n)

    slot_after : (u : ℕ) → slice_index_or tasks u None ≡ None → slice_index_or (slice_set tasks t None) u None ≡ None
    slot_after u h = by (u == t) refl
      where
        by : (b : Bool) → (u == t) ≡ b → get_or (set tasks t None) u None ≡ None
        by true g = ap (λ w. get_or (set tasks t None) w None) (eqb-true u t g) ∙ get_or-set_same tasks t None None known
        by false g = get_or-set_other tasks t u None None (differ u t g) ∙ h

    other : (u : ℕ) (r : TaskAtRest T M) → slice_index_or (slice_set tasks t None) u None ≡ Some r → (u == t) ≡ false
    other u r h = not_true (u == t) (λ g. clash (sym (ap (λ w. get_or (set tasks t None) w None) (eqb-true u t g) ∙ get_or-set_same tasks t None None known) ∙ h))
      where
        clash : None ≡ Some r → ⊥
        clash e = cc

    stays : (u : ℕ) (r : TaskAtRest T M) → slice_index_or (slice_set tasks t None) u None ≡ Some r → slice_index_or tasks u None ≡ Some r
    stays u r h = sym (get_or-set_other tasks t u None None (differ u t (other u r h))) ∙ h

    pub lies_given : Lies (s.journal ++ dispatch p t ∷ []) (slice_set tasks t None) loose
    lies_given = record {
      hands = λ u r h. lies.hands u r (stays u r h) ∙ sym (held_given p t s.journal u);
      room = λ u r h n. lies.room u r (stays u r h) (ap is_ready (sym (spot_stays s.journal (dispatch p t) u (other u r h))) ∙ n);
      loose_are = λ o m h u. ap (λ l. has l o) (held_given p t s.journal u) ∙ lies.loose_are o m h u;
      present = λ o lt gone h. lies.present o (let e = objects_push s.journal (dispatch p t) in omega (arith, e, lt)) (sym (gone_still o s.journal (dispatch p t) refl) ∙ gone) (λ u. ap (λ l. has l o) (sym (held_given p t s.journal u)) ∙ h u);
      tasks_are = length-set tasks t None ∙ lies.tasks_are ∙ (let e = tasks_push s.journal (dispatch p t) in omega (arith, e));
      objects_are = lies.objects_are ∙ (let e = objects_push s.journal (dispatch p t) in omega (arith, e));
      out = λ q u h. out q u (q == p) refl h;
      there = λ u lt h. there u (u == t) refl (subst (λ n. u < n) (length-set tasks t None) lt) h;
    }
      where
        same_first : (x y : ℕ) → x ∷ [] ≡ y ∷ [] → x ≡ y
        same_first x y e = cc

        out : (q u : ℕ) (b : Bool) → (q == p) ≡ b → running q (s.journal ++ dispatch p t ∷ []) ≡ u ∷ [] → slice_index_or (slice_set tasks t None) u None ≡ None
        out q u true g h =
            let same : t ≡ u = same_first t u (sym (running_given p t s.journal) ∙ ap (λ w. running w (s.journal ++ dispatch p t ∷ [])) (sym (eqb-true q p g)) ∙ h) in
            ap (λ w. get_or (set tasks t None) w None) (sym same) ∙ get_or-set_same tasks t None None known
        out q u false g h = slot_after u (lies.out q u (sym (running_else q g) ∙ h))

        there : (u : ℕ) (b : Bool) → (u == t) ≡ b → u < length tasks → slice_index_or (slice_set tasks t None) u None ≡ None → IsOut u (s.journal ++ dispatch p t ∷ [])
        there u true g lt h =
            record { processor = p; runs = running_given p t s.journal ∙ ap (λ w. w ∷ []) (sym (eqb-true u t g)) }
        there u false g lt h =
            let before = lies.there u lt (sym (get_or-set_other tasks t u None None (differ u t g)) ∙ h) in
            let n : (before.processor == p) ≡ false = not_true (before.processor == p) (λ e. clash (sym v.free ∙ ap (λ w. running w s.journal) (sym (eqb-true before.processor p e)) ∙ before.runs)) in
            record { processor = before.processor; runs = running_else before.processor n ∙ before.runs }
          where
            clash : [] ≡ u ∷ [] → ⊥
            clash e = cc

    abbrev pub given : Seen
    given = seen_of (s.journal ++ dispatch p t ∷ []) s.sites s.opts s.input

    pub kept_given : IsKept (seen_of (s.journal ++ dispatch p t ∷ []) s.sites s.opts s.input) (slice_set tasks t None) loose
    kept_given = record { runs = runs_on; range = k.range; small = k.small; lies = λ g. lies_given }

    module _ (g : Given T M) (h : TakenOut (seen_of (s.journal ++ dispatch p t ∷ []) s.sites s.opts s.input) p t (slice_index_or tasks t None) g) where
      hands : HandsOut (with_entry (dispatch p t) (kept (stored s false tasks loose))) p t g
      hands = record {
        processor = h.processor;
        runs = running_given p t s.journal;
        value = ap task_in h.rest;
        hand = gathered_of s.journal tasks loose sound lies.hands lies.loose_are t known (record { task = g.task; members = g.members }) h.rest ∙ ap (λ os. gathered os (λ o. or_else (slice_index_or loose o None) (member_among o tasks))) (sym (held_given p t s.journal t));
        answer =
            let told = (law_answered s.opts s.sites s.input (s.journal ++ dispatch p t ∷ []) runs_on (over_given p t s.journal going)).running p t (running_given p t s.journal) in
            told.told ∙ ap (λ x. Some x) (sym (h.answer told.answer told.told));
        left = h.left;
        keys_are = λ _. lies.hands t (record { task = g.task; members = g.members }) h.rest ∙ sym (held_given p t s.journal t);
      }

      values : (u : ℕ) → task_in (slice_index_or (slice_set tasks t None) u None) ≡ (if u == t then None else task_in (slice_index_or tasks u None))
      values u = by (u == t) refl
        where
          by : (b : Bool) → (u == t) ≡ b → task_in (get_or (set tasks t None) u None) ≡ (if b then None else task_in (get_or tasks u None))
          by true e = ap task_in (ap (λ w. get_or (set tasks t None) w None) (eqb-true u t e) ∙ get_or-set_same tasks t None None known)
          by false e = ap task_in (get_or-set_other tasks t u None None (differ u t e))

      members : (o : ℕ) → or_else (slice_index_or loose o None) (member_among o (slice_set tasks t None)) ≡ (if has (held t (s.journal ++ dispatch p t ∷ [])) o then None else or_else (slice_index_or loose o None) (member_among o tasks))
      members o = by (has (held t s.journal) o) refl ∙ ap (λ b. if b then None else or_else (slice_index_or loose o None) (member_among o tasks)) (ap (λ l. has l o) (sym (held_given p t s.journal t)))
        where
          by : (b : Bool) → has (held t s.journal) o ≡ b → or_else (slice_index_or loose o None) (member_among o (set tasks t None)) ≡ (if has (held t s.journal) o then None else or_else (slice_index_or loose o None) (member_among o tasks))
          by true e =
              rw e (ap (λ x. or_else x (member_among o (set tasks t None))) (loose_none s.journal tasks loose lies.loose_are t o e) ∙ nowhere_else s.journal (set tasks t None) loose sound (λ u r f. lies.hands u r (stays u r f)) t o e (get_or-set_same tasks t None None known))
          by false e =
              rw e (ap (or_else (slice_index_or loose o None)) (among_same o t None tasks (sym (no_member s.journal tasks loose lies.hands t o e))))

      rest : Same (handed t (with_entry (dispatch p t) (kept (stored s false tasks loose)))) (kept (stored (seen_of (s.journal ++ dispatch p t ∷ []) s.sites s.opts s.input) false (slice_set tasks t None) loose))
      rest = record { journal = refl; sites = refl; opts = refl; input = refl; abandoned = refl; values = values; members = members }

      pub gives_it : IsFirst s.opts s.journal p t → Gives (kept (stored s false tasks loose)) (kept (stored (seen_of (s.journal ++ dispatch p t ∷ []) s.sites s.opts s.input) false (slice_set tasks t None) loose)) g
      gives_it first = record {
        task = t;
        going = going;
        wanted = refl;
        first = subst (λ q. IsFirst s.opts s.journal q t) (sym h.processor) first;
        room = room;
        hands = subst (λ q. HandsOut (with_entry (dispatch q t) (kept (stored s false tasks loose))) q t g) (sym h.processor) hands;
        rest = subst (λ q. Same (handed t (with_entry (dispatch q t) (kept (stored s false tasks loose)))) (kept (stored (seen_of (s.journal ++ dispatch p t ∷ []) s.sites s.opts s.input) false (slice_set tasks t None) loose))) (sym h.processor) rest;
      }

  -- a dispatch that gave a task
  module _ (p t : ℕ) (s' : Seen) (gave : Gave s s' p t) (tasks' : List (Option (TaskAtRest T M))) (tasks_is : tasks' ≡ slice_set tasks t None) where
    pub kept_some : IsKept s' tasks' loose
    kept_some =
        subst (λ x. IsKept x tasks' loose) (sym (seen_is s s' (dispatch p t ∷ []) gave.appended)) (subst (λ l. IsKept (seen_of (s.journal ++ dispatch p t ∷ []) s.sites s.opts s.input) l loose) (sym tasks_is) (kept_given p t gave.first.serves gave.room))

    pub dispatched : (result : Option (Given T M)) → MatchOption result (slice_index_or tasks t None ≡ None) (λ g. TakenOut s' p t (slice_index_or tasks t None) g) → Dispatched (kept (stored s false tasks loose)) result (kept (stored s' false tasks' loose))
    dispatched None h = absurd (at_rest p t gave.first.serves gave.room h)
    dispatched (Some g) h =
        let same = seen_is s s' (dispatch p t ∷ []) gave.appended in
        let h' = subst (λ x. TakenOut x p t (slice_index_or tasks t None) g) same h in
        subst (λ x. Gives (kept (stored s false tasks loose)) (kept (stored x false tasks' loose)) g) (sym same) (subst (λ l. Gives (kept (stored s false tasks loose)) (kept (stored (seen_of (s.journal ++ dispatch p t ∷ []) s.sites s.opts s.input) false l loose)) g) (sym tasks_is) (gives_it p t gave.first.serves gave.room g h' gave.first))

  -- a dispatch that gave none
  module _ (s' : Seen) (g : GaveNone s s') where
    same : {b : Bool} (s' : Seen) → s' ≡ s → Same (kept (stored s b tasks loose)) (kept (stored s' b tasks loose))
    same s' e = record {
      journal = ap (λ x. x.journal) e;
      sites = ap (λ x. x.sites) e;
      opts = ap (λ x. x.opts) e;
      input = ap (λ x. x.input) e;
      abandoned = refl;
      values = λ u. refl;
      members = λ o. refl;
    }

    pub gives_none : GivesNone (kept (stored s false tasks loose)) (kept (stored s' false tasks loose))
    gives_none = by g
      where
        by : GaveNone s s' → GivesNone (kept (stored s false tasks loose)) (kept (stored s' false tasks loose))
        by (book.nobody none e) = calls.nobody none (same s' e)
        by (book.no_room served full a) = calls.no_room going refl served full (record { journal = a.journal; sites = a.sites; opts = a.opts; input = a.input; abandoned = refl; values = λ u. refl; members = λ o. refl })

    pub kept_none : IsKept s' tasks loose
    kept_none = by g
      where
        by : GaveNone s s' → IsKept s' tasks loose
        by (book.nobody none e) = subst (λ x. IsKept x tasks loose) (sym e) k
        by (book.no_room served full a) =
            subst (λ x. IsKept x tasks loose) (sym (seen_is s s' (lone_limit ∷ []) a)) (record {
              runs = more k.runs going (no_room served.processor served.task served.serves full);
              range = k.range;
              small = k.small;
              lies = λ f. absurd (no_both (is_over (s.journal ++ lone_limit ∷ [])) (over_limit s.journal 0 0) f);
            })
