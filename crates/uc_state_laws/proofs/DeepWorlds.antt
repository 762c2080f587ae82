-- In every run in which all that was asked fits, tasks are deep in just the objects at which they are.
use Rattle.std.proofs.Common.{◌≡◌, ℕ, ◌==◌, ◌<◌, ◌≤◌, ◌&&◌, ◌||◌, ◌⊎◌, inl, inr, Bool, true, false, cond, not, List, [], ◌∷◌, ◌++◌, Some, refl, sym, ap, ◌∙◌, subst, arith, append-nil, append_assoc, ⊎_elim, map}
use Rattle.std.specs.Prelude.{pos, nat_lt, if◌then◌else◌}
use Rattle.std.specs.Option.{option_to_list}
use Rattle.std.specs.List.{filter}
use Rattle.std.proofs.lemmas.Bool.{eqb-true, eq-eqb, ne_eqb, cases_lt}
use Rattle.uc_tree.specs.Source.{Source}
use Rattle.uc_tree.specs.declared.limits.TheConstants.{TASKS}
use Rattle.uc_entry.specs.declared.entry.Entry.{Entry}
use Rattle.uc_entry.specs.declared.entry.EntryKind.{EntryKind}
use Rattle.uc_entry.specs.declared.entry.EntryKind.TheVariants as kind
use Rattle.uc_entry.specs.declared.entry.Options.{Options}
use Rattle.uc_entry.specs.declared.request.Answer.TheVariants as answer
use Rattle.uc_entry.specs.declared.request.Asked.{Asked}
use Rattle.uc_entry.specs.declared.request.Request.{Request}
use Rattle.uc_entry.specs.declared.request.Request.TheVariants as ask
use Rattle.uc_entry.specs.declared.fault.RunFault.TheVariants as run_fault
use Rattle.uc_entry.specs.Faults.{fault_number}
use Rattle.uc_acts.specs.Journal.{Journal, Cost, begin, cost, asking, inside, is_over, own_object, first_or_0, where_true}
use Rattle.uc_acts.specs.Queues.{stacked}
use Rattle.uc_acts.specs.Doors.{blocked_at}
use Rattle.uc_acts.specs.Known.{has, has_ended, ends, object_count, task_count, spawns, spawns_task}
use Rattle.uc_acts.specs.Answers.{just_made}
use Rattle.uc_acts.specs.Stations.{Running}
use Rattle.uc_acts.specs.Sound.{Sound}
use Rattle.uc_acts.specs.Legal.{IsNext}
use Rattle.uc_acts.specs.Laws.{IsNew, Makes}
use Rattle.uc_acts.specs.Acts.{act, dispatch, lone_limit, row, or_fault, fault}
use Rattle.uc_acts.specs.KernelRuns.{InRange, Fits, MayAsk}
use Rattle.uc_acts.proofs.Bounds.{over_limit}
use Rattle.uc_acts.proofs.Law.{good_whole, lawful_act}
use Rattle.uc_acts.proofs.Living.{going_row}
use Rattle.uc_acts.proofs.Making.{law_new}
use Rattle.uc_acts.proofs.Held.{law_held}
use Rattle.uc_acts.proofs.Moves.{first_at, known_at, more_tasks}
use Rattle.uc_acts.proofs.Rows.{Lawful}
use Rattle.uc_acts.proofs.SoundLemmas.{self_test, ended_push}
use Rattle.uc_machine.specs.Quiet.{State}
use Rattle.uc_machine.specs.Answering.{answered, child_of}
use Rattle.uc_meaning.specs.Runs.{World, Runs, May, AsksIn, begun, more, gives, no_room, acts, first_world, drawn, bare, world_after}
use Rattle.uc_step_laws.specs.Hands.{keys}
use Rattle.uc_step_laws.specs.Holding.{plain}
use Rattle.uc_step_laws.proofs.Kept.{binds_not}
use Rattle.uc_state_laws.specs.Fitting.{MayFit, RunFits}
use Rattle.uc_state_laws.proofs.Ticks.{no_both}
use Rattle.uc_state_laws.proofs.Makes.{is_making, makes, none_new, one_new, just_made_given, just_made_begin}
use Rattle.uc_state_laws.proofs.Others.{RunRests, run_rests, may_ask, asking as asks_with}
use Rattle.uc_state_laws.proofs.Alive.{law_alive}
use Rattle.uc_state_laws.proofs.Makes.{law_ends}
use Rattle.uc_state_laws.specs.Deep.{deep_in, DeepBehind}
use Rattle.uc_state_laws.specs.Places.{is_at, SamePlaces, Spawns, PlacesBehind, LatePlaces}
use Rattle.uc_state_laws.specs.HandLaws.{IsDeepAsTold, AsksDeep, LawDeep, LawAsksDeep, LawCalls}
use Rattle.uc_state_laws.proofs.Places.{flipped, at_begin, still}
use Rattle.uc_state_laws.proofs.Rows.{there_inside, over_by, waits_not, stacked_not, blocked_not, row_places}
use Rattle.uc_state_laws.proofs.Lists.{Once, once_more}
use Rattle.uc_state_laws.proofs.DeepActs.{IsDeepWhere, others_stay, is_spawning, tasks_stay, tasks_grow, spawn_more, goes_on, makes_one, as_told}
use Rattle.uc_state_laws.proofs.HandWalk.{rides_deep, told_plain, told_bound}

or_false : (b : Bool) → (b || false) ≡ b
or_false true = refl
or_false false = refl

-- who has not ended had not ended before
pub ended_before : (j : Journal) (a : List Entry) (t : ℕ) → has_ended t (j ++ a) ≡ false → has_ended t j ≡ false
ended_before j [] t h = ap (has_ended t) (sym (append-nil j)) ∙ h
ended_before j (e ∷ a) t h =
    first (has_ended t j) (ends t e.kind e) (sym (ended_push t j e) ∙ ended_before (j ++ e ∷ []) a t (ap (has_ended t) (append_assoc j (e ∷ []) a) ∙ h))
  where
    first : (b c : Bool) → (b || c) ≡ false → b ≡ false
    first true c g = cc
    first false c g = refl

-- whom an act spawns was not born before

born_late : (k : EntryKind) (e : Entry) (j : Journal) (u : ℕ) → IsNext k e j → u < task_count j → spawns_task u k e ≡ false
born_late kind.Spawn e j u n lt = ne_eqb u _ (λ same. absurd (omega (arith, n, lt, same)))
born_late k e j u n lt = refl

pub spawns_none : (j : Journal) (a : List Entry) (u : ℕ) → Lawful j a → u < task_count j → spawns a u ≡ false
spawns_none j [] u l lt = refl
spawns_none j (e ∷ a) u l lt =
    ap (λ b. b || spawns a u) (born_late e.kind e j u l.0.next lt) ∙ spawns_none (j ++ e ∷ []) a u l.1 (more_tasks j e u lt)

-- what a spawn tells of its task
own_spawn : (p t : ℕ) (k : Cost) (o n u : ℕ) → (u == n) ≡ true → own_object u (asking kind.Spawn p t k o (pos n) (pos 0) ∷ []) ≡ o
unfolding own_object
own_spawn p t k o n u h = ap (λ b. first_or_0 (filter (λ (x : ℕ). true) (option_to_list (where_true b o)) ++ [])) h

-- tasks that have not ended are deep where they are, and nobody else is anywhere
pub record DeepWorld (j : Journal) (w : World) : Type 0 where
  pub tasks : (u : ℕ) → u < task_count j → has_ended u j ≡ false → IsDeepAsTold j u (deep_in (w.tasks u))
  pub late : LatePlaces j

module _ (source : Source) (input : List ℕ) (opts : Options) (range : InRange opts) where
  module _ {j : Journal} {w : World} (r : RunRests source input opts j w) (going : is_over j ≡ false) (x : DeepWorld j w) (p t n : ℕ) (s : State) (asked : Asked) (d : AsksIn source opts j w p t n s asked) where
    sound : Sound j
    sound = (good_whole opts source.sites input r.kernel).sound

    pub known : t < task_count j
    known = known_at j sound t (Running p) (first_at j sound (Running p) t [] d.runs)

    here : IsDeepAsTold j t (deep_in (w.tasks t))
    here = x.tasks t known (law_alive opts source.sites input j r.kernel going p t d.runs)

    -- who runs is nowhere but inside
    inside_only : (o : ℕ) → is_at t o j ≡ has (inside o j) t
    inside_only o =
        ap (λ b. has (inside o j) t || (b || (has (stacked o j) t || has (map (λ b. b.0) (blocked_at o j)) t))) (waits_not opts source.sites input j p t (cost 0 0) 0 sound d.runs o) ∙ ap (λ b. has (inside o j) t || (b || has (map (λ b. b.0) (blocked_at o j)) t)) (stacked_not opts source.sites input j p t (cost 0 0) 0 sound d.runs o) ∙ ap (λ b. has (inside o j) t || b) (blocked_not opts source.sites input j p t (cost 0 0) 0 sound d.runs o) ∙ or_false (has (inside o j) t)

    start_plain : plain (w.tasks t).run.control ≡ true → IsDeepWhere j t (deep_in (answered source d.given (drawn j w t)))
    start_plain h =
        let e : deep_in (answered source d.given (drawn j w t)) ≡ deep_in (w.tasks t) = told_plain source d.given (drawn j w t) h in
        record {
          at = λ o. ap (λ l. has l o) e ∙ here.at o (λ f. binds_not (w.tasks t).run.control h ((r.rests.tasks t).binds o f));
          once = subst Once (sym e) here.once;
        }

    start_bound : (o : ℕ) → just_made t j ≡ o ∷ [] → IsDeepWhere j t (deep_in (answered source d.given (drawn j w t)))
    start_bound o f =
        let new = law_new opts source.sites input j r.kernel going t o f in
        let told : Some d.given ≡ Some (answer.Object o) = sym d.told ∙ new.answer in
        let given : d.given ≡ answer.Object o = cc told in
        let e : deep_in (answered source d.given (drawn j w t)) ≡ o ∷ deep_in (w.tasks t) = ap (λ a. deep_in (answered source a (drawn j w t))) given ∙ told_bound source o (drawn j w t) ((r.rests.tasks t).binds o f) in
        record { at = λ q. ap (λ l. has l q) e ∙ by q (o == q) refl new; once = subst Once (sym e) (once_more o (deep_in (w.tasks t)) (here.new o f) here.once) }
      where
        last_has : (xs : List ℕ) → has (xs ++ o ∷ []) o ≡ true
        last_has [] = ap (λ b. b || false) (self_test o)
        last_has (y ∷ ys) = ap (λ b. (y == o) || b) (last_has ys) ∙ or_true (y == o)
          where
            or_true : (b : Bool) → (b || true) ≡ true
            or_true true = refl
            or_true false = refl

        by : (q : ℕ) (b : Bool) → (o == q) ≡ b → IsNew source.sites j t o → ((o == q) || has (deep_in (w.tasks t)) q) ≡ is_at t q j
        by q true g new =
            ap (λ b. b || has (deep_in (w.tasks t)) q) g ∙ sym (ap (λ v. is_at t v j) (sym (eqb-true o q g)) ∙ there_inside t o j (sym ((law_held j).inside t o) ∙ ap (λ l. has l o) new.last ∙ last_has new.before))
        by q false g new =
            ap (λ b. b || has (deep_in (w.tasks t)) q) g ∙ here.at q (λ h. no_both (o == q) (eq-eqb o q (same (sym f ∙ h))) g)
          where
            same : o ∷ [] ≡ q ∷ [] → o ≡ q
            same h = cc h

    -- as its ride begins
    starts : IsDeepWhere j t (deep_in (answered source d.given (drawn j w t)))
    starts = by (r.rests.tasks t).control
      where
        by : (plain (w.tasks t).run.control ≡ true) ⊎ ((o : ℕ) × (just_made t j ≡ o ∷ [])) → IsDeepWhere j t (deep_in (answered source d.given (drawn j w t)))
        by (inl h) = start_plain h
        by (inr h) = start_bound h.0 h.1

    behind : DeepBehind asked.request (deep_in (answered source d.given (drawn j w t))) (deep_in s)
    behind = rides_deep source (deep_in (answered source d.given (drawn j w t))) d.rides refl

    -- so it is deep in just what it has in hand
    pub deep_in_hand : (o : ℕ) → has (deep_in (answered source d.given (drawn j w t))) o ≡ has (keys s.env.hand) o
    deep_in_hand o =
        starts.at o ∙ inside_only o ∙ sym ((law_held j).inside t o) ∙ ap (λ l. has l o) (sym (asks_with source input opts range r going p t n s asked d).hand)

    asks_deep : AsksDeep asked.request s
    asks_deep = record {
      before = deep_in (answered source d.given (drawn j w t));
      in_hand = deep_in_hand;
      behind = behind;
    }

    module _ (f : Fits opts source.sites j t asked.request) (on : is_over (j ++ act opts source.sites input j p t n asked) ≡ false) where
      abbrev a : List Entry
      a = act opts source.sites input j p t n asked

      m : MayAsk opts source.sites j p t n asked.request
      m = may_ask source input opts range d f

      is : act opts source.sites input j p t n asked ≡ row opts source.sites input j p t (cost n asked.line) asked.line asked.request
      is = (going_row opts source.sites input j p t n asked on).0

      places : PlacesBehind t j asked.request (j ++ act opts source.sites input j p t n asked)
      places =
          subst (λ l. PlacesBehind t j asked.request (j ++ l)) (sym is) (row_places opts source.sites input j p t (cost n asked.line) asked.line sound d.runs asked.request f (ap (λ l. is_over (j ++ l)) (sym is) ∙ on))

      made : Makes j (act opts source.sites input j p t n asked) t
      made = makes opts source.sites input j p t n asked r.kernel m on

      late_object : is_at t (object_count j) j ≡ false
      late_object =
          inside_only (object_count j) ∙ ap (λ l. has l t) (sound.fresh_inside (object_count j) (omega arith))

      own_after : has_ended t (j ++ act opts source.sites input j p t n asked) ≡ false → IsDeepAsTold (j ++ act opts source.sites input j p t n asked) t (deep_in s)
      own_after h = by asked.request (is_making asked.request) refl behind places (λ g. none_new opts source.sites input j p t n asked r.kernel m on g) (λ class g. one_new opts source.sites input j p t n asked r.kernel m on class g) (law_ends opts source.sites input j p t n asked on h).no_end
        where
          by : (q : Request) (b : Bool) → is_making q ≡ b → DeepBehind q (deep_in (answered source d.given (drawn j w t))) (deep_in s) → PlacesBehind t j q (j ++ act opts source.sites input j p t n asked) → (is_making q ≡ false → (o : ℕ) → just_made t (j ++ act opts source.sites input j p t n asked) ≡ o ∷ [] → ⊥) → ((class : ℕ) → q ≡ ask.Make class → just_made t (j ++ act opts source.sites input j p t n asked) ≡ object_count j ∷ []) → (q ≡ ask.End → ⊥) → IsDeepAsTold (j ++ act opts source.sites input j p t n asked) t (deep_in s)
          by (ask.Make class) b g c e old new unending = makes_one j (j ++ a) t _ (deep_in s) starts known class (new class refl) late_object c e
          by q false g c e old new unending = as_told (j ++ a) t (deep_in s) (old g) (goes_on j (j ++ a) t _ (deep_in s) starts known q g unending c e)
          by q true g c e old new unending = cc

      -- other tasks
      stays : (u : ℕ) → (u == t) ≡ false → u < task_count j → IsDeepAsTold j u (deep_in (w.tasks u)) → IsDeepAsTold (j ++ act opts source.sites input j p t n asked) u (deep_in (w.tasks u))
      stays u h lt y =
          let new : just_made u (j ++ act opts source.sites input j p t n asked) ≡ just_made u j = made.others u h in
          record {
            at = λ o g. y.at o (λ e. g (new ∙ e)) ∙ sym (others_stay j (j ++ a) t u o h asked.request places (λ h. ne_eqb u (task_count j) (λ same. omega (arith, lt, same))));
            new = λ o e. y.new o (sym new ∙ e);
            once = y.once;
          }

      grows : task_count j ≤ task_count (j ++ act opts source.sites input j p t n asked)
      grows = tasks_grow j (j ++ a) t asked.request places

      late_after : LatePlaces (j ++ act opts source.sites input j p t n asked)
      late_after u q le =
          let lt = known in
          let g = grows in
          others_stay j (j ++ a) t u q (ne_eqb u t (λ same. omega (arith, le, same, lt, g))) asked.request places (λ h. let k = spawn_more j (j ++ a) t asked.request h places in ne_eqb u (task_count j) (λ same. omega (arith, le, same, k))) ∙ x.late u q (omega (arith, le, g))

      -- one that is spawned
      no_news : (u q : ℕ) → task_count j ≤ u → just_made u j ≡ q ∷ [] → ⊥
      no_news u q le h =
          let k = law_new opts source.sites input j r.kernel going u q h in
          let lt = known_at j sound u (Running k.processor) (first_at j sound (Running k.processor) u [] k.runs) in
          omega (arith, le, lt)

      -- a task that is new behind an act was spawned by it
      pub record SpawnedBy (u : ℕ) : Type 0 where
        pub object : ℕ
        pub request : asked.request ≡ ask.Spawn object
        pub entries : act opts source.sites input j p t n asked ≡ asking kind.Spawn p t (cost n asked.line) object (pos (task_count j)) (pos 0) ∷ []
        pub test : (u == task_count j) ≡ true

      pub spawned_by : (u : ℕ) → task_count j ≤ u → u < task_count (j ++ act opts source.sites input j p t n asked) → SpawnedBy u
      spawned_by u le lt = by asked.request (is_spawning asked.request) refl refl
        where
          by : (q : Request) (b : Bool) → is_spawning q ≡ b → asked.request ≡ q → SpawnedBy u
          by (ask.Spawn o) b h e = going_spawn (nat_lt (task_count j) TASKS) (is ∙ ap (row opts source.sites input j p t (cost n asked.line) asked.line) e)
            where
              going_spawn : (c : Bool) → act opts source.sites input j p t n asked ≡ or_fault c (asking kind.Spawn p t (cost n asked.line) o (pos (task_count j)) (pos 0)) (fault p t (cost n asked.line) (fault_number run_fault.TooManyTasks) asked.line) → SpawnedBy u
              going_spawn true g =
                  let count = (subst (λ q. PlacesBehind t j q (j ++ act opts source.sites input j p t n asked)) e places).tasks in
                  record { object = o; request = e; entries = g; test = eq-eqb u (task_count j) (omega (arith, le, lt, count)) }
              going_spawn false g = no_both (is_over (j ++ a)) (ap (λ l. is_over (j ++ l)) g ∙ over_by j _ refl) on
          by q false h e =
              let same = tasks_stay j (j ++ a) t q h (subst (λ v. PlacesBehind t j v (j ++ act opts source.sites input j p t n asked)) e places) in
              absurd (omega (arith, le, lt, same))
          by q true h e = cc

      pub spawned_true : (u : ℕ) → task_count j ≤ u → u < task_count (j ++ act opts source.sites input j p t n asked) → spawns (act opts source.sites input j p t n asked) u ≡ true
      spawned_true u le lt = let b = spawned_by u le lt in ap (λ l. spawns l u) b.entries ∙ ap (λ c. c || false) b.test

      born_after : (u : ℕ) → task_count j ≤ u → u < task_count (j ++ act opts source.sites input j p t n asked) → IsDeepAsTold (j ++ act opts source.sites input j p t n asked) u (deep_in ((world_after source (act opts source.sites input j p t n asked) w t s).tasks u))
      born_after u le lt =
          let b = spawned_by u le lt in
          let k = known in
          let apart : (u == t) ≡ false = ne_eqb u t (λ same. omega (arith, le, same, k)) in
          let pl : Spawns t (task_count j) b.object j (j ++ act opts source.sites input j p t n asked) = subst (λ q. PlacesBehind t j q (j ++ act opts source.sites input j p t n asked)) b.request places in
          let own : own_object u a ≡ b.object = ap (own_object u) b.entries ∙ own_spawn p t (cost n asked.line) b.object (task_count j) u b.test in
          let state : (world_after source (act opts source.sites input j p t n asked) w t s).tasks u ≡ child_of source (own_object u a) s = ap (λ c. if c then bare s else if spawns a u then child_of source (own_object u a) s else w.tasks u) apart ∙ ap (λ c. if c then child_of source (own_object u a) s else w.tasks u) (spawned_true u le lt) in
          let deep : deep_in ((world_after source (act opts source.sites input j p t n asked) w t s).tasks u) ≡ b.object ∷ [] = ap deep_in state ∙ ap (λ v. v ∷ []) own in
          subst (IsDeepAsTold (j ++ act opts source.sites input j p t n asked) u) (sym deep) (record {
            at = λ q f. or_false (b.object == q) ∙ flipped b.object q ∙ sym (pl.at u q ∙ ap (λ c. (c && not ((u == t) && (q == b.object))) || ((u == task_count j) && (q == b.object))) (x.late u q le) ∙ ap (λ c. c && (q == b.object)) b.test);
            new = λ q f. absurd (no_news u q le (sym (made.others u apart) ∙ f));
            once = λ q. one (q == b.object);
          })
        where
          one : (c : Bool) → cond c 1 0 ≤ 1
          one true = omega arith
          one false = omega arith

      tasks_after : (u : ℕ) → u < task_count (j ++ act opts source.sites input j p t n asked) → has_ended u (j ++ act opts source.sites input j p t n asked) ≡ false → IsDeepAsTold (j ++ act opts source.sites input j p t n asked) u (deep_in ((world_after source (act opts source.sites input j p t n asked) w t s).tasks u))
      tasks_after u lt alive = by (u == t) refl
        where
          old : (u == t) ≡ false → u < task_count j → IsDeepAsTold (j ++ act opts source.sites input j p t n asked) u (deep_in ((world_after source (act opts source.sites input j p t n asked) w t s).tasks u))
          old h le =
              let none : spawns a u ≡ false = spawns_none j a u (lawful_act opts source.sites input j p t n asked sound m) le in
              let state : (world_after source (act opts source.sites input j p t n asked) w t s).tasks u ≡ w.tasks u = ap (λ b. if b then bare s else if spawns a u then child_of source (own_object u a) s else w.tasks u) h ∙ ap (λ b. if b then child_of source (own_object u a) s else w.tasks u) none in
              subst (λ v. IsDeepAsTold (j ++ act opts source.sites input j p t n asked) u (deep_in v)) (sym state) (stays u h le (x.tasks u le (ended_before j a u alive)))

          by : (b : Bool) → (u == t) ≡ b → IsDeepAsTold (j ++ act opts source.sites input j p t n asked) u (deep_in ((world_after source (act opts source.sites input j p t n asked) w t s).tasks u))
          by true h =
              let this : u ≡ t = eqb-true u t h in
              let state : (world_after source (act opts source.sites input j p t n asked) w t s).tasks u ≡ bare s = ap (λ b. if b then bare s else if spawns a u then child_of source (own_object u a) s else w.tasks u) h in
              subst (λ v. IsDeepAsTold (j ++ act opts source.sites input j p t n asked) u (deep_in v)) (sym state) (subst (λ v. IsDeepAsTold (j ++ act opts source.sites input j p t n asked) v (deep_in s)) (sym this) (own_after (ap (λ v. has_ended v (j ++ a)) (sym this) ∙ alive)))
          by false h = ⊎_elim (λ lt. old h lt) (λ le. born_after u le lt) (cases_lt u (task_count j))

      pub deep_act : DeepWorld (j ++ act opts source.sites input j p t n asked) (world_after source (act opts source.sites input j p t n asked) w t s)
      deep_act = record { tasks = tasks_after; late = late_after }

  -- a dispatch moves nobody
  deep_given : (j : Journal) (w : World) (p t : ℕ) → DeepWorld j w → DeepWorld (j ++ dispatch p t ∷ []) w
  deep_given j w p t x =
      let s : SamePlaces j (j ++ dispatch p t ∷ []) = still j (dispatch p t) refl in
      let count = s.tasks in
      record {
        tasks = λ u lt alive.
            let y = x.tasks u (omega (arith, lt, count)) (ended_before j (dispatch p t ∷ []) u alive) in
            record {
              at = λ o g. y.at o (λ e. g (just_made_given u p t j ∙ e)) ∙ sym (s.at u o);
              new = λ o e. y.new o (sym (just_made_given u p t j) ∙ e);
              once = y.once;
            };
        late = λ u q le. s.at u q ∙ x.late u q (omega (arith, le, count));
      }

  deep_may : {j : Journal} {w : World} {a : List Entry} {v : World} → RunRests source input opts j w → is_over j ≡ false → DeepWorld j w → (m : May source opts input j w a v) → MayFit source opts input j w a v m → is_over (j ++ a) ≡ false → DeepWorld (j ++ a) v
  deep_may {j} {w} r o x (gives p t s le) f on = deep_given j w p t x
  deep_may {j} r o x (no_room p t s le) f on = no_both (is_over (j ++ lone_limit ∷ [])) (over_limit j 0 0) on
  deep_may r o x (acts p t n s asked d) f on = deep_act r o x p t n s asked d f on

  -- a run begins with task 0 in object 0

  one_task : task_count (begin opts ∷ []) ≡ 1
  unfolding task_count
  one_task = omega arith

  first_deep : (u : ℕ) → u ≡ 0 → IsDeepAsTold (begin opts ∷ []) u (0 ∷ [])
  first_deep u h = record {
    at = λ o f. or_false (0 == o) ∙ sym (at_begin opts u o ∙ ap (λ b. b && (0 == o)) (eq-eqb 0 u (sym h)));
    new = λ o e. absurd (not_both o (sym e ∙ just_made_begin opts u));
    once = λ o. one (o == 0);
  }
    where
      not_both : (o : ℕ) → o ∷ [] ≡ [] → ⊥
      not_both o e = cc

      one : (b : Bool) → cond b 1 0 ≤ 1
      one true = omega arith
      one false = omega arith

  deep_begin : DeepWorld (begin opts ∷ []) (first_world source)
  deep_begin = record {
    tasks = λ u lt alive. let n = one_task in first_deep u (omega (arith, lt, n));
    late = λ u q le. let n = one_task in at_begin opts u q ∙ ap (λ b. b && (0 == q)) (ne_eqb 0 u (λ same. omega (arith, le, n, same)));
  }

  pub deep_run : {j : Journal} {w : World} → (r : Runs source input opts j w) → RunFits source input opts j w r → is_over j ≡ false → DeepWorld j w
  deep_run begun f on = deep_begin
  deep_run (more r o m) f on = deep_may (run_rests source input opts range r f.0 o) o (deep_run r f.0 o) m f.1 on

pub law_deep : LawDeep
law_deep source input opts j w r range f on u lt alive = (deep_run source input opts range r f on).tasks u lt alive

pub law_asks_deep : LawAsksDeep
law_asks_deep source input opts j w r range f on p t n s asked d =
    asks_deep source input opts range (run_rests source input opts range r f on) on (deep_run source input opts range r f on) p t n s asked d

pub law_calls : LawCalls
law_calls source input opts j w r range f on p t n s asked d o m e =
    let x = law_asks_deep source input opts j w r range f on p t n s asked d in
    let b : DeepBehind (ask.Call o m) x.before (deep_in s) = subst (λ q. DeepBehind q x.before (deep_in s)) e x.behind in
    sym (x.in_hand o) ∙ b.0
