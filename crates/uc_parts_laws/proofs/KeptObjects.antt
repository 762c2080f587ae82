-- What was outwards of a mutex object as it was let in stays with its maker, along rides and runs.
use Rattle.std.proofs.Common.{◌≡◌, ℕ, ◌<◌, ◌≤◌, ◌==◌, ◌⊎◌, inl, inr, ◌∙◌, ◌++◌, ◌||◌, Bool, true, false, List, [], ◌∷◌, Option, Some, None, refl, sym, ap, subst, arith, ⊎_elim}
use Rattle.std.specs.Prelude.{if◌then◌else◌}
use Rattle.std.proofs.lemmas.Bool.{eqb-true, eq-eqb, cases_lt}
use Rattle.uc_tree.specs.Source.{Source}
use Rattle.uc_entry.specs.declared.entry.Entry.{Entry}
use Rattle.uc_entry.specs.declared.entry.Options.{Options}
use Rattle.uc_entry.specs.declared.request.Answer.{Answer}
use Rattle.uc_entry.specs.declared.request.Asked.{Asked}
use Rattle.uc_entry.specs.declared.request.Request.{Request}
use Rattle.uc_entry.specs.declared.request.Request.TheVariants as ask
use Rattle.uc_entry.specs.Keyed.{find}
use Rattle.uc_acts.specs.Journal.{Journal, held, is_over, own_object, cost}
use Rattle.uc_acts.specs.Known.{has_ended, task_count, spawns, takes_out}
use Rattle.uc_acts.specs.Acts.{act, dispatch, lone_limit}
use Rattle.uc_acts.specs.Answers.{answer_to}
use Rattle.uc_acts.specs.Queues.{running}
use Rattle.uc_acts.specs.Serves.{left}
use Rattle.uc_acts.specs.KernelRuns.{Fits, InRange, MayAsk}
use Rattle.uc_acts.proofs.Bounds.{over_limit}
use Rattle.uc_acts.proofs.Living.{going_row}
use Rattle.uc_acts.proofs.SoundLemmas.{tasks_push, self_test}
use Rattle.uc_answer_laws.specs.Suiting.{Form, JustGo, asked_form, form_of_request}
use Rattle.uc_answer_laws.proofs.Told.{form_push}
use Rattle.uc_answer_laws.proofs.Runs.{law_suiting}
use Rattle.uc_answer_laws.proofs.Asking.{law_asking}
use Rattle.uc_machine.specs.declared.exec.Exec.{Exec}
use Rattle.uc_machine.specs.declared.exec.Home.{Home}
use Rattle.uc_machine.specs.declared.exec.Home.TheVariants as home
use Rattle.uc_machine.specs.Executions.{Execution, members_at}
use Rattle.uc_machine.specs.Switches.{new_exec}
use Rattle.uc_machine.specs.Quiet.{quiet, home_at}
use Rattle.uc_machine.specs.Rides.{Rides, slices, goes_on, ticks, asks}
use Rattle.uc_machine.specs.Pieces as piece
use Rattle.uc_machine.specs.Pieces.{Value, Todo, Active, State, Env, Members, Step, Goes, Ticks, Asks}
use Rattle.uc_machine.specs.Answering.{answered, child_of}
use Rattle.uc_meaning.specs.Runs.{World, Runs, AsksIn, gives, no_room, acts, begun, more, bare, drawn, or_else, world_after}
use Rattle.uc_state_laws.specs.Fitting.{RunFits}
use Rattle.uc_state_laws.specs.RoomRuns as rooms
use Rattle.uc_state_laws.specs.RoomRuns.{Comes, Leads}
use Rattle.uc_state_laws.specs.Opens.{RunMeets, LeadsMeet, RideMeets}
use Rattle.uc_state_laws.proofs.Alive.{law_alive}
use Rattle.uc_state_laws.proofs.Makes.{law_ends}
use Rattle.uc_state_laws.proofs.DeepWorlds.{DeepWorld, deep_run, ended_before, spawned_by}
use Rattle.uc_state_laws.proofs.Others.{RunRests, run_rests, may_ask}
use Rattle.uc_name_laws.specs.Below.{IsBelow}
use Rattle.uc_name_laws.specs.NameSteps.{Named, StepNamed, Grows, Spares}
use Rattle.uc_name_laws.proofs.Births.{law_new}
use Rattle.uc_name_laws.proofs.Walk.{walk}
use Rattle.uc_name_laws.proofs.Homes.{no_both}
use Rattle.uc_life_laws.specs.RunningRuns.{RunLeaves}
use Rattle.uc_life_laws.specs.NamedRuns.{is_here}
use Rattle.uc_life_laws.specs.LifeStates.{EnvBy, MembersBy}
use Rattle.uc_life_laws.specs.OwnNames.{HasOwnName}
use Rattle.uc_life_laws.specs.Knowing.{main_of}
use Rattle.uc_life_laws.specs.Held.{Seating, Soon, SoonAsked, HeldEx, HeldState, HeldAsked, HeldAsk, HeldStep, TakesAt}
use Rattle.uc_life_laws.proofs.Cells.{either}
use Rattle.uc_life_laws.proofs.HeldLaws.{law_held}
use Rattle.uc_life_laws.proofs.KindsLemmas.{members_less, env_less}
use Rattle.uc_life_laws.proofs.Owned.{tasks_grow}
use Rattle.uc_life_laws.proofs.Parked.{found_hand}
use Rattle.uc_life_laws.proofs.NewNumbers.{spawned_object}
use Rattle.uc_life_laws.proofs.Spawning.{Spawned, spawner}
use Rattle.uc_life_laws.proofs.NamedWorlds.{WorldNamed, run_named, ride, start, after_by, named_act, now_more, known, vacuous}
use Rattle.uc_life_laws.proofs.OwnNamesLemmas.{law_own_names}
use Rattle.uc_rooted_runs.specs.Makers.{Makers}
use Rattle.uc_rooted_runs.specs.Outlasting.{OutlastEx}
use Rattle.uc_rooted_runs.proofs.Births.{none_there, named_given}
use Rattle.uc_rooted_runs.proofs.EndedTasks.{ended_by}
use Rattle.uc_rooted_runs.proofs.OutlastRuns.{Riding, riding, no_fault, HeldWorld, drawn_told, state_ends, env_ends}
use Rattle.uc_parts_laws.specs.KeptObjects.{Lodger, seat_of, seats_for, any_name, KeepsAt, Keeps, LetsIn, WasLetIn, RunKeeps, EndsSo, LawKeptObjects}

abbrev Ex : Type 0
Ex = Execution (List Todo) Value

-- who made whom, where all that was made is this object
abbrev pub makers_for : Lodger → Makers
makers_for b = record { parent = λ x. b.maker; seat = λ x. seat_of b; before = λ x. b.outer; rank = λ x. 0 }

module _ (source : Source) (b : Lodger) where
  abbrev Seats : Seating
  Seats = seats_for b

  abbrev Slot : Exec → Ex → Type 0
  Slot n x = HeldEx source (seats_for b) any_name n x

  abbrev Kept : Journal → World → Type 0
  Kept j w = HeldWorld (makers_for b) b.home any_name source any_name j w

  other : (n : Exec) (x : Ex) → (n ≡ b.maker → ⊥) → Slot n x
  other n x f = (λ y u p. absurd (f (sym p)), λ y u p t. absurd (f (sym p)))

  -- what is new has another name
  abbrev IsNew : State → Type 0
  IsNew s = (x : Members) → members_at (home_at s.run.this s.env) s.env ≡ Some x → new_exec (home_at s.run.this s.env) s.env ≡ b.maker → ⊥

  takes : (s : State) → IsNew s → (l : List Todo) → KeepsAt source b l s → TakesAt source (seats_for b) any_name l s
  takes s f (piece.SetUpNow r ∷ todo) h = λ m i x u p. f m i (sym p)
  takes s f l h = h

  step : (s : State) → HeldState source (seats_for b) any_name s → IsNew s → Keeps source b s → HeldStep source (seats_for b) any_name (quiet source s)
  step s st f k = law_held.steps source (seats_for b) any_name s st (takes s f s.run.control (k st))

  -- a ride

  new_of : (here : Home → Bool) (serials : Home → ℕ) (s : State) → Named here false serials s → IsBelow serials b.maker → IsNew s
  new_of here serials s n l x e q = law_new.unnamed here false serials s n (home_at s.run.this s.env) x e (subst (IsBelow serials) (sym q) l)

  more_below : (here : Home → Bool) (x y : Home → ℕ) → Grows here x y → IsBelow x b.maker → IsBelow y b.maker
  more_below here x y g h = let l = g.more b.maker.home in omega (arith, h, l)

  ridden : (here : Home → Bool) (serials : Home → ℕ) {s u : State} {q k : ℕ} {a : Asked} (r : Rides source s q u k a) → Named here false serials s → IsBelow serials b.maker → RideMeets (Keeps source b) source s q u k a r → Riding source (seats_for b) any_name q s → HeldAsk source (seats_for b) any_name a.request u
  ridden here serials slices n l m h = h
  ridden here serials (goes_on {s} e r) n l m h =
      let y = walk source here false serials s n (λ u. vacuous u) in
      ridden here y.serials r (subst (StepNamed here false y.serials) e y.named) (more_below here serials y.serials y.grows l) m.1 (subst (HeldStep source (seats_for b) any_name) e (step s h (new_of here serials s n l) m.0))
  ridden here serials (ticks {s} {t} {u} {q} e r) n l m h =
      let y = walk source here false serials s n (λ u. vacuous u) in
      ridden here y.serials r (subst (StepNamed here false y.serials) e y.named) (more_below here serials y.serials y.grows l) m.1 (riding source (seats_for b) any_name q t (subst (HeldStep source (seats_for b) any_name) e (step s h (new_of here serials s n l) m.0)))
  ridden here serials (asks {s} e) n l m h = subst (HeldStep source (seats_for b) any_name) e (step s h (new_of here serials s n l) m)

  led : (here : Home → Bool) (serials : Home → ℕ) {s u : State} (l : Leads source s u) → Named here false serials s → IsBelow serials b.maker → LeadsMeet (Keeps source b) source s u l → HeldState source (seats_for b) any_name s → HeldState source (seats_for b) any_name u
  led here serials rooms.stays n l m h = h
  led here serials (rooms.goes {s} e i) n l m h =
      let y = walk source here false serials s n (λ u. vacuous u) in
      led here y.serials i (subst (StepNamed here false y.serials) e y.named) (more_below here serials y.serials y.grows l) m.1 (subst (HeldStep source (seats_for b) any_name) e (step s h (new_of here serials s n l) m.0))
  led here serials (rooms.ticks {s} {u} e i) n l m h =
      let y = walk source here false serials s n (λ u. vacuous u) in
      led here y.serials i (subst (StepNamed here false y.serials) e y.named) (more_below here serials y.serials y.grows l) m.1 (law_held.goes_on source (seats_for b) any_name u (subst (HeldStep source (seats_for b) any_name) e (step s h (new_of here serials s n l) m.0)))

  -- at rest

  -- of this object, which is no coroutine, nothing is named
  abbrev Rests : Form → State → Type 0
  Rests form s = (y : Exec) → any_name y ≡ true → b.maker ≡ s.env.exec → SoonAsked source (seat_of b) b.outer s.env.exec form s.run s.callers

  no_names : {A : Type 0} → true ≡ false → A
  no_names e = absurd (cc)

  or_rests : (o : ℕ) (x y : Option Members) → MembersBy Slot (home.Object o) x → MembersBy Slot (home.Object o) y → MembersBy Slot (home.Object o) (or_else x y)
  or_rests o None y h k = k
  or_rests o (Some m) y h k = h

  module _ (input : List ℕ) (opts : Options) (range : InRange opts) where
    module _ {j : Journal} {w : World} (rests : RunRests source input opts j w) (on : is_over j ≡ false) (deep : DeepWorld j w) (serials : Home → ℕ) (x : WorldNamed serials j w) where
      -- who runs goes on so
      begins : Kept j w → (p t : ℕ) (given : Answer) → running p j ≡ t ∷ [] → answer_to source.sites t j ≡ Some given → HeldAsked source (seats_for b) any_name JustGo (answered source given (drawn j w t))
      begins h p t given runs told =
          law_held.told source (seats_for b) any_name (asked_form t j) given (drawn j w t) (law_suiting opts source.sites input j rests.kernel on t given told) (drawn_told (makers_for b) b.home any_name source any_name j w t (known source input opts range rests on serials x p t runs) (law_alive opts source.sites input j rests.kernel on p t runs) h)

      module _ (p n k : ℕ) (s : State) (asked : Asked) (d : AsksIn source opts j w p n k s asked) (f : Fits opts source.sites j n asked.request) (still : is_over (j ++ act opts source.sites input j p n k asked) ≡ false) where
        abbrev a : List Entry
        a = act opts source.sites input j p n k asked

        abbrev after : World
        after = world_after source a w n s

        abbrev later : Home → ℕ
        later = after_by asked.request (ride source input opts range rests on deep serials x p n k s asked d f still).now

        m : MayAsk opts source.sites j p n k asked.request
        m = may_ask source input opts range d f

        below_after : IsBelow serials b.maker → IsBelow later b.maker
        below_after l = let g = now_more source input opts range rests on deep serials x p n k s asked d f still b.maker.home in omega (arith, l, g)

        own_is : (after.tasks n) ≡ bare s
        own_is = ap (λ (b : Bool). if b then bare s else if spawns a n then child_of source (own_object n a) s else w.tasks n) (self_test n)

        -- nobody has asked for a fault
        faultless : (c : ℕ) → asked.request ≡ ask.Fault c → ⊥
        faultless c e = by (has_ended n (j ++ a)) refl
          where
            by : (z : Bool) → has_ended n (j ++ a) ≡ z → ⊥
            by true i = ⊎_elim (λ g. no_both (has_ended n j) g (law_alive opts source.sites input j rests.kernel on p n d.runs)) (λ g. let same : ask.Fault c ≡ ask.End = sym e ∙ g.asks in absurd (cc)) (ended_by n opts source.sites input j p n k asked still i)
            by false i = (law_ends opts source.sites input j p n k asked still i).no_fault c e

        own_form : asked_form n (j ++ a) ≡ form_of_request asked.request
        own_form = (law_asking opts source.sites input j p n k asked rests.kernel m still).own

        -- who was there before
        module _ (under : IsBelow serials b.maker) (h : Kept j w) (st : HeldAsked source (seats_for b) any_name (form_of_request asked.request) s) where
          -- a task that is spawned runs another execution
          child : (u : ℕ) (r : Request) → asked.request ≡ r → Spawned j u r → main_of (own_object u a) ≡ b.maker → ⊥
          child u (ask.Spawn o) e i q =
              let own : own_object u a ≡ o = spawned_object opts source.sites input j p n k asked still u o e i in
              let none = none_there source input opts range rests on deep serials x p n k s asked d f still o e in
              let more = (ride source input opts range rests on deep serials x p n k s asked d f still).grows.more (home.Task o) in
              let l : IsBelow serials (main_of o) = subst (IsBelow serials) (sym (ap main_of (sym own) ∙ q)) under in
              omega (arith, none, more, l)
          child u r e i q = absurd i

          spawned : (u : ℕ) → spawns a u ≡ true → main_of (own_object u a) ≡ b.maker → ⊥
          spawned u e =
              child u asked.request refl (spawner u opts source.sites input j p n (cost k asked.line) asked.line asked.request (ap (λ l. spawns l u) (sym (going_row opts source.sites input j p n k asked still).0) ∙ e))

          rests_after : (u : ℕ) → u < task_count (j ++ a) → has_ended u (j ++ a) ≡ false → Rests (asked_form u (j ++ a)) (after.tasks u)
          rests_after u lt i = by (u == n) refl
            where
              older : (u == n) ≡ false → spawns a u ≡ false → (u < task_count j) ⊎ (task_count j ≤ u) → Rests (asked_form u (j ++ a)) (w.tasks u)
              older e g (inl l) =
                  subst (λ form. Rests form (w.tasks u)) (sym ((law_asking opts source.sites input j p n k asked rests.kernel m still).others u e)) (h.stacks u l (ended_before j a u i)).0
              older e g (inr l) =
                  let y = spawned_by source input opts range rests on deep p n k s asked d f still u l lt in
                  no_both (spawns a u) (ap (λ l. spawns l u) y.entries ∙ ap (λ c. c || false) y.test) g

              born : (z : Bool) → (u == n) ≡ false → spawns a u ≡ z → Rests (asked_form u (j ++ a)) (if z then child_of source (own_object u a) s else w.tasks u)
              born true e g = λ y v q. absurd (spawned u g (sym q))
              born false e g = older e g (cases_lt u (task_count j))

              by : (z : Bool) → (u == n) ≡ z → Rests (asked_form u (j ++ a)) (if z then bare s else if spawns a u then child_of source (own_object u a) s else w.tasks u)
              by true e = subst (λ form. Rests form (bare s)) (sym (ap (λ v. asked_form v (j ++ a)) (eqb-true u n e) ∙ own_form)) (λ y v q. st.soon y v q)
              by false e = born (spawns a u) e refl

          env_after : (u : ℕ) → EnvBy Slot (after.tasks u).env
          env_after u = by (u == n)
            where
              born : (z : Bool) → EnvBy Slot (if z then child_of source (own_object u a) s else w.tasks u).env
              born true = record { house = (tt, tt); hand = tt }
              born false = h.tasks u

              by : (z : Bool) → EnvBy Slot (if z then bare s else if spawns a u then child_of source (own_object u a) s else w.tasks u).env
              by true = record { house = st.env.house; hand = tt }
              by false = born (spawns a u)

          acted : Kept (j ++ a) after
          acted = record {
            stacks = λ u lt i. (rests_after u lt i, λ y v q t. no_names t);
            tasks = env_after;
            homes = λ o. either (MembersBy Slot (home.Object o)) (takes_out a o) None (or_else (find o s.env.hand) (w.homes o)) tt (or_rests o (find o s.env.hand) (w.homes o) (found_hand Slot o s.env.hand st.env.hand) (h.homes o));
          }

        -- as the object is let in
        module _ (y : HasOwnName (j ++ a) after n) (named : WorldNamed later (j ++ a) after) (lt : n < task_count (j ++ a)) (l : LetsIn source b asked.request s) where
          same : (after.tasks n).env.exec ≡ b.maker
          same = ap (λ (v : State). v.env.exec) own_is ∙ l.name

          just_go : (r : Request) → (r ≡ ask.Made b.object) ⊎ (r ≡ ask.Spawn b.object) → form_of_request r ≡ JustGo
          just_go r (inl e) = ap form_of_request e
          just_go r (inr e) = ap form_of_request e

          rests_own : Rests (asked_form n (j ++ a)) (bare s)
          rests_own = λ z v q. inr (own_form ∙ just_go asked.request l.asks, subst (λ m. Soon source (seat_of b) b.outer m s.run s.callers) q l.soon)

          stranger : (u : ℕ) → u < task_count (j ++ a) → (u == n) ≡ false → (after.tasks u).env.exec ≡ b.maker → ⊥
          stranger u k q z = no_both (u == n) (eq-eqb u n (y.running u k (z ∙ sym same))) q

          let_in : Kept (j ++ a) after
          let_in = record {
            stacks = λ u k i. (by u k (u == n) refl, λ z v q t. no_names t);
            tasks = λ u. env_less (λ n' z. n' ≡ (after.tasks n).env.exec → ⊥) Slot (λ n' z g. other n' z (λ q. g (q ∙ sym same))) (after.tasks u).env (y.tasks u);
            homes = λ o. members_less (λ n' z. n' ≡ (after.tasks n).env.exec → ⊥) Slot (λ n' z g. other n' z (λ q. g (q ∙ sym same))) (home.Object o) (after.homes o) (y.homes o);
          }
            where
              by : (u : ℕ) → u < task_count (j ++ a) → (z : Bool) → (u == n) ≡ z → Rests (asked_form u (j ++ a)) (after.tasks u)
              by u k true q = subst (λ v. Rests (asked_form v (j ++ a)) (after.tasks v)) (sym (eqb-true u n q)) (subst (Rests (asked_form n (j ++ a))) (sym own_is) rests_own)
              by u k false q = λ z v e. absurd (stranger u k q (sym e))

    given : (j : Journal) (w : World) (p n : ℕ) → Kept j w → Kept (j ++ dispatch p n ∷ []) w
    given j w p n h =
        let same = tasks_push j (dispatch p n) in
        record {
          stacks = λ u l i. (subst (λ form. Rests form (w.tasks u)) (sym (form_push u j (dispatch p n))) (h.stacks u (omega (arith, l, same)) (ended_before j (dispatch p n ∷ []) u i)).0, λ z v q t. no_names t);
          tasks = h.tasks;
          homes = h.homes;
        }

    record RunKept {j : Journal} {w : World} (r : Runs source input opts j w) : Type 0 where
      serials : Home → ℕ
      world : WorldNamed serials j w
      below : IsBelow serials b.maker
      kept : Kept j w

    run_kept : {j : Journal} {w : World} (r : Runs source input opts j w) → RunFits source input opts j w r → is_over j ≡ false → RunLeaves source input opts j w r → RunMeets Spares source input opts j w r → WasLetIn source b input opts r → RunKeeps source b input opts r → RunKept r
    run_kept begun f on l h u k = absurd u
    run_kept (more {j} {w} r o (gives p t v le)) f on l h (inl u) k =
        let z = run_kept r f.0 o l.0 h.0 u (k u).0 in
        record { serials = z.serials; world = named_given source input opts range z.serials j w p t z.world; below = z.below; kept = given j w p t z.kept }
    run_kept (more r o (gives p t v le)) f on l h (inr u) k = absurd u
    run_kept (more {j} {w} r o (no_room p t v le)) f on l h u k = no_both (is_over (j ++ lone_limit ∷ [])) (over_limit j 0 0) on
    run_kept (more {j} {w} r o (acts p t c s asked d)) f on l h (inl u) k =
        let rests = run_rests source input opts range r f.0 o in
        let deep = deep_run source input opts range r f.0 o in
        let z = run_kept r f.0 o l.0 h.0 u (k u).0 in
        let st = ridden (is_here (w.tasks t).env.own (held t j)) z.serials d.rides (start source input opts range rests o z.serials z.world p t d.runs d.given d.told) z.below (k u).1 (riding source (seats_for b) any_name (left opts j t) (answered source d.given (drawn j w t)) (begins rests o deep z.serials z.world z.kept p t d.given d.runs d.told)) in
        record {
          serials = after_by asked.request (ride source input opts range rests o deep z.serials z.world p t c s asked d f.1 on).now;
          world = named_act source input opts range rests o deep z.serials z.world p t c s asked d f.1 on;
          below = below_after rests o deep z.serials z.world p t c s asked d f.1 on z.below;
          kept = acted rests o deep z.serials z.world p t c s asked d f.1 on z.below z.kept (no_fault source (seats_for b) any_name asked.request s (faultless rests o deep z.serials z.world p t c s asked d f.1 on) st);
        }
    run_kept (more {j} {w} r o (acts p t c s asked d)) f on l h (inr u) k =
        let y = run_named source input opts range r f.0 o in
        let rests = run_rests source input opts range r f.0 o in
        let deep = deep_run source input opts range r f.0 o in
        let names = law_own_names source input opts (j ++ act opts source.sites input j p t c asked) (world_after source (act opts source.sites input j p t c asked) w t s) (more r o (acts p t c s asked d)) range f on l h in
        let named = named_act source input opts range rests o deep y.serials y.world p t c s asked d f.1 on in
        let grown = tasks_grow j (act opts source.sites input j p t c asked) in
        let was = known source input opts range rests o y.serials y.world p t d.runs in
        let lt : t < task_count (j ++ act opts source.sites input j p t c asked) = omega (arith, was, grown) in
        let later : Home → ℕ = after_by asked.request (ride source input opts range rests o deep y.serials y.world p t c s asked d f.1 on).now in
        record {
          serials = later;
          world = named;
          below = subst (IsBelow later) (same rests o deep y.serials y.world p t c s asked d f.1 on (names.rests t lt) named lt u) (named.tasks t lt).env_named.exec_below;
          kept = let_in rests o deep y.serials y.world p t c s asked d f.1 on (names.rests t lt) named lt u;
        }

pub law_kept_objects : LawKeptObjects
law_kept_objects = record {
  comes = λ source b input opts j w r range fits on leaves spares u k t s c m.
      let rests = run_rests source input opts range r fits on in
      let deep = deep_run source input opts range r fits on in
      let z = run_kept source b input opts range r fits on leaves spares u k in
      led source b (is_here (w.tasks t).env.own (held t j)) z.serials c.leads (start source input opts range rests on z.serials z.world c.processor t c.runs c.given c.told) z.below m (law_held.goes_on source (seats_for b) any_name (answered source c.given (drawn j w t)) (begins source b input opts range rests on deep z.serials z.world z.kept c.processor t c.given c.runs c.told));
  ends = λ source b s h.
      let e = env_ends (makers_for b) any_name source s.env h.env in
      record {
        stack = λ q. state_ends (makers_for b) any_name source s h s.env.exec refl (sym q);
        env = env_less (OutlastEx (makers_for b) any_name) (EndsSo source b) (λ n x g q. g n refl (sym q)) s.env e;
      };
}
