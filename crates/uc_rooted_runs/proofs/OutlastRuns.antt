-- In each run those that were made are held, so what was there before their coroutines were built stays.
use Rattle.std.proofs.Common.{◌≡◌, ℕ, zero, suc, ◌==◌, ◌<◌, ◌≤◌, Bool, true, false, List, [], ◌∷◌, ◌++◌, Option, Some, None, refl, sym, ap, ◌∙◌, subst, arith, inl, inr, ⊎_elim, ◌||◌}
use Rattle.std.specs.Prelude.{if◌then◌else◌, slice_get}
use Rattle.std.proofs.lemmas.Bool.{eqb-true, cases_lt}
use Rattle.uc_tree.specs.Source.{Source, Routine, routine_of}
use Rattle.uc_entry.specs.declared.entry.Entry.{Entry}
use Rattle.uc_entry.specs.declared.entry.Options.{Options}
use Rattle.uc_entry.specs.declared.request.Asked.{Asked}
use Rattle.uc_entry.specs.declared.request.Request.{Request}
use Rattle.uc_entry.specs.declared.request.Request.TheVariants as ask
use Rattle.uc_entry.specs.Keyed.{find}
use Rattle.uc_acts.specs.Journal.{Journal, begin, held, is_over, own_object, cost}
use Rattle.uc_acts.specs.Known.{has_ended, task_count, spawns, takes_out}
use Rattle.uc_acts.specs.Serves.{left}
use Rattle.uc_acts.specs.Acts.{act, dispatch, lone_limit}
use Rattle.uc_acts.specs.KernelRuns.{InRange, Fits}
use Rattle.uc_acts.proofs.Bounds.{over_limit}
use Rattle.uc_acts.proofs.Law.{good_whole, lawful_act}
use Rattle.uc_acts.proofs.SoundLemmas.{tasks_push}
use Rattle.uc_machine.specs.declared.exec.Exec.{Exec}
use Rattle.uc_machine.specs.declared.exec.Home.TheVariants as home
use Rattle.uc_machine.specs.Executions.{exec_eq, members_at}
use Rattle.uc_machine.specs.Switches as sw
use Rattle.uc_machine.specs.Switches.{new_exec}
use Rattle.uc_machine.specs.Pieces.{Value, Todo, SetUpNow, Active, State, Env, Members, Goes, Ticks, Asks, at, in_env, written, Running}
use Rattle.uc_machine.specs.Quiet as quiet
use Rattle.uc_machine.specs.Quiet.{home_at, first_state}
use Rattle.uc_machine.specs.Answering.{answered, child_main, child_of}
use Rattle.uc_machine.specs.Rides.{Rides, slices, goes_on, ticks, asks}
use Rattle.uc_meaning.specs.Runs.{World, Runs, AsksIn, gives, no_room, acts, begun, more, first_world, with_home, hand_of, drawn, bare, or_else, world_after}
use Rattle.uc_state_laws.specs.Fitting.{RunFits}
use Rattle.uc_state_laws.proofs.Alive.{law_alive}
use Rattle.uc_state_laws.proofs.Makes.{law_ends}
use Rattle.uc_state_laws.proofs.Others.{RunRests, run_rests, may_ask}
use Rattle.uc_state_laws.proofs.DeepWorlds.{DeepWorld, deep_run, ended_before, spawns_none, spawned_by}
use Rattle.uc_state_laws.specs.Opens.{RideMeets, RunMeets}
use Rattle.uc_name_laws.specs.NameSteps.{IsBorn}
use Rattle.uc_name_laws.proofs.Homes.{no_both, same_exec}
use Rattle.uc_life_laws.proofs.NamedWorlds.{known, own_spawn}
use Rattle.uc_life_laws.proofs.NamedWorlds as named
use Rattle.uc_life_laws.specs.Knowing.{main_of}
use Rattle.uc_life_laws.specs.LifeStates.{HandBy, MembersBy, EnvBy}
use Rattle.uc_life_laws.proofs.Cells.{either, tested}
use Rattle.uc_life_laws.proofs.Parked as parked
use Rattle.uc_life_laws.proofs.Fewer.{both_members, both_env}
use Rattle.uc_answer_laws.specs.Suiting.{Form, JustGo, asked_form, form_of_request}
use Rattle.uc_answer_laws.proofs.Told.{form_push}
use Rattle.uc_answer_laws.proofs.Runs.{law_suiting}
use Rattle.uc_answer_laws.proofs.Asking.{law_asking}
use Rattle.uc_life_laws.specs.Placed.{stacked, Ends}
use Rattle.uc_life_laws.specs.Held.{Seating, NamedAt, Held, Soon, SoonHere, SoonAsked, AllHeld, AllNamed, HeldEx, HeldState, HeldAsked, HeldAsk, HeldStep, TakesAt, TakesNow}
use Rattle.uc_life_laws.proofs.HeldLaws.{law_held, held_ends, soon_ends, next_ends}
use Rattle.uc_life_laws.proofs.HeldKeeping as kept
use Rattle.uc_rooted_runs.specs.Makers.{Makers, seating}
use Rattle.uc_rooted_runs.proofs.EndedTasks.{ended_by}
use Rattle.uc_rooted_runs.specs.Outlasting.{IsAlone, Outlasts, OutlastEx}
use Rattle.uc_rooted_runs.specs.Births.{MakesLater, SpawnsLater, RunSpawnsLater}
use Rattle.uc_rooted_runs.specs.Upwards.{OutlastWorld}
use Rattle.uc_rooted_runs.specs.OutlastRuns.{with_homes, with_made, made_by, made_behind, ride_made, made_asked, run_made, now, OutlastsAt, RideOutlasts, SpawnsAlone, MayOutlast, RunOutlasts, LawOutlastRuns}

-- of fewer, and of more

module _ (source : Source) (seats : Seating) (up other : Exec → Bool) where
  all_more : (n : Exec) (cs : List Active) → ((x : Exec) → other x ≡ true → up x ≡ false → seats.parent x ≡ n → ⊥) → AllHeld source seats up n cs → AllHeld source seats other n cs
  all_more n cs f h x u p = by (up x) refl
    where
      by : (b : Bool) → up x ≡ b → Held source (seats.seat x) (seats.before x) n cs
      by true e = h x e p
      by false e = absurd (f x u e p)

  names_more : (n : Exec) (cs : List Active) (fs : List (List Value)) → ((x : Exec) → other x ≡ true → up x ≡ false → seats.parent x ≡ n → ⊥) → AllNamed source seats up n cs fs → AllNamed source seats other n cs fs
  names_more n cs fs f h x u p t = by (up x) refl
    where
      by : (b : Bool) → up x ≡ b → NamedAt n cs fs x (seats.seat x).place
      by true e = h x e p t
      by false e = absurd (f x u e p)

  env_fewer : (e : Env) → ((x : Exec) → other x ≡ true → up x ≡ true) → EnvBy (HeldEx source seats up) e → EnvBy (HeldEx source seats other) e
  env_fewer e f h = both_env (HeldEx source seats up) (HeldEx source seats up) (HeldEx source seats other) (λ n y k l. (λ x u p. k.0 x (f x u) p, λ x u p t. k.1 x (f x u) p t)) e h h

  env_more : (e : Env) → IsAlone e → ((x : Exec) → other x ≡ true → up x ≡ false → seats.parent x ≡ e.exec) → EnvBy (HeldEx source seats up) e → EnvBy (HeldEx source seats other) e
  env_more e alone f h = both_env (λ n y. n ≡ e.exec → ⊥) (HeldEx source seats up) (HeldEx source seats other) (λ n y k l. (all_more n (y.run ∷ y.callers) (λ x u d p. k (sym p ∙ f x u d)) l.0, names_more n y.callers y.frames (λ x u d p. k (sym p ∙ f x u d)) l.1)) e alone h

  state_fewer : (s : State) → HeldState source seats up s → ((x : Exec) → other x ≡ true → up x ≡ true) → HeldState source seats other s
  state_fewer s h f = record { soon = λ x u p. h.soon x (f x u) p; named = λ x u p t. h.named x (f x u) p t; env = env_fewer s.env f h.env }

  pub asked_fewer : (form : Form) (s : State) → HeldAsked source seats up form s → ((x : Exec) → other x ≡ true → up x ≡ true) → HeldAsked source seats other form s
  asked_fewer form s h f = record { soon = λ x u p. h.soon x (f x u) p; named = λ x u p t. h.named x (f x u) p t; env = env_fewer s.env f h.env }

  pub ask_fewer : (r : Request) (s : State) → HeldAsk source seats up r s → ((x : Exec) → other x ≡ true → up x ≡ true) → HeldAsk source seats other r s
  ask_fewer (ask.Fault m) s h f = tt
  ask_fewer r s h f = asked_fewer (form_of_request r) s h f

  -- and of those that have been made
  names_made : (n : Exec) (cs : List Active) (fs : List (List Value)) → AllNamed source seats up n cs fs → ((x : Exec) → other x ≡ true → up x ≡ false → (seats.seat x).task ≡ false → NamedAt n cs fs x (seats.seat x).place) → AllNamed source seats other n cs fs
  names_made n cs fs h f x u p t = by (up x) refl
    where
      by : (b : Bool) → up x ≡ b → NamedAt n cs fs x (seats.seat x).place
      by true e = h x e p t
      by false e = f x u e t

  state_more : (s : State) → HeldState source seats up s → IsAlone s.env → ((x : Exec) → other x ≡ true → up x ≡ false → (seats.parent x ≡ s.env.exec) × Soon source (seats.seat x) (seats.before x) s.env.exec s.run s.callers × ((seats.seat x).task ≡ false → NamedAt s.env.exec s.callers s.env.frames x (seats.seat x).place)) → HeldState source seats other s
  state_more s h alone f = record { soon = λ x u p. by x u p (up x) refl; named = names_made s.env.exec s.callers s.env.frames h.named (λ x u d. (f x u d).2); env = env_more s.env alone (λ x u d. (f x u d).0) h.env }
    where
      by : (x : Exec) → other x ≡ true → seats.parent x ≡ s.env.exec → (b : Bool) → up x ≡ b → SoonHere source (seats.seat x) (seats.before x) s.env.exec s
      by x u p true e = h.soon x e p
      by x u p false e = inl (zero, (f x u e).1)

  asked_more : (s : State) → HeldAsked source seats up JustGo s → IsAlone s.env → ((x : Exec) → other x ≡ true → up x ≡ false → (seats.parent x ≡ s.env.exec) × Soon source (seats.seat x) (seats.before x) s.env.exec s.run s.callers × ((seats.seat x).task ≡ false → NamedAt s.env.exec s.callers s.env.frames x (seats.seat x).place)) → HeldAsked source seats other JustGo s
  asked_more s h alone f = record { soon = λ x u p. by x u p (up x) refl; named = names_made s.env.exec s.callers s.env.frames h.named (λ x u d. (f x u d).2); env = env_more s.env alone (λ x u d. (f x u d).0) h.env }
    where
      by : (x : Exec) → other x ≡ true → seats.parent x ≡ s.env.exec → (b : Bool) → up x ≡ b → SoonAsked source (seats.seat x) (seats.before x) s.env.exec JustGo s.run s.callers
      by x u p true e = h.soon x e p
      by x u p false e = inr (refl, (f x u e).1)

-- a ride of so many ticks begins, or goes on: without one that is left, it rests
abbrev pub Riding : Source → Seating → (Exec → Bool) → ℕ → State → Type 0
Riding source seats up zero s = HeldAsked source seats up JustGo s
Riding source seats up (suc q) s = HeldState source seats up s

pub riding : (source : Source) (seats : Seating) (up : Exec → Bool) (q : ℕ) (s : State) → HeldAsked source seats up JustGo s → Riding source seats up q s
riding source seats up zero s h = h
riding source seats up (suc q) s h = law_held.goes_on source seats up s h

-- where no run is over, no fault was asked
pub no_fault : (source : Source) (seats : Seating) (up : Exec → Bool) (r : Request) (s : State) → ((m : ℕ) → r ≡ ask.Fault m → ⊥) → HeldAsk source seats up r s → HeldAsked source seats up (form_of_request r) s
no_fault source seats up (ask.Fault m) s f h = absurd (f m refl)
no_fault source seats up r s f h = h

module _ (whole : Makers) (homed : ℕ → Value) (asked : Exec → Bool) where
  -- with these outer parts
  abbrev makers : Makers
  makers = with_homes homed whole

  -- who is made now was not before
  abbrev Now : (Exec → Bool) → Exec → Bool
  Now made = now makers asked made

  pub now_asked : (made : Exec → Bool) (x : Exec) → now makers asked made x ≡ true → asked x ≡ true
  now_asked made x h = by (asked x) refl h
    where
      by : (b : Bool) → asked x ≡ b → (if b then made x else false) ≡ true → asked x ≡ true
      by true e h = e
      by false e h = absurd (cc)

  pub now_made : (made : Exec → Bool) (x : Exec) → now makers asked made x ≡ true → made x ≡ true
  now_made made x h = by (asked x) h
    where
      by : (b : Bool) → (if b then made x else false) ≡ true → made x ≡ true
      by true h = h
      by false h = absurd (cc)

  pub not_now : (made : Exec → Bool) (x : Exec) → asked x ≡ true → now makers asked made x ≡ false → made x ≡ false
  not_now made x e h = ap (λ b. if b then made x else false) (sym e) ∙ h

  -- what a state makes
  born_now : (source : Source) (s : State) (made : Exec → Bool) (x : Exec) → made_behind source s made x ≡ true → made x ≡ false → IsBorn source s x
  born_now source s made x h f = at s.run.control refl h
    where
      one : (r : ℕ) (todo : List Todo) → s.run.control ≡ SetUpNow r ∷ todo → (a : Option Routine) → slice_get source.routines r ≡ a → (m : Option Members) → members_at (home_at s.run.this s.env) s.env ≡ m → with_made a m (new_exec (home_at s.run.this s.env) s.env) made x ≡ true → IsBorn source s x
      one r todo c None e m g h = absurd (no_both (made x) h f)
      one r todo c (Some a) e None g h = absurd (no_both (made x) h f)
      one r todo c (Some a) e (Some m) g h = by (exec_eq x (new_exec (home_at s.run.this s.env) s.env)) refl h
        where
          by : (b : Bool) → exec_eq x (new_exec (home_at s.run.this s.env) s.env) ≡ b → (if b then true else made x) ≡ true → IsBorn source s x
          by true q h =
              let same : x ≡ new_exec (home_at s.run.this s.env) s.env = same_exec x (new_exec (home_at s.run.this s.env) s.env) q in
              record {
                main = r;
                todo = todo;
                next = c;
                routine = a;
                known = e;
                members = m;
                in_hand = ap (λ k. members_at k s.env) (ap (λ (n : Exec). n.home) same) ∙ g;
                named = same;
              }
          by false q h = absurd (no_both (made x) h f)

      at : (l : List Todo) → s.run.control ≡ l → made_by source l s made x ≡ true → IsBorn source s x
      at [] c h = absurd (no_both (made x) h f)
      at (SetUpNow r ∷ todo) c h = one r todo c (slice_get source.routines r) refl (members_at (home_at s.run.this s.env) s.env) refl h
      at (p ∷ todo) c h = absurd (no_both (made x) h f)

  -- a step that makes one goes on with the same running execution
  birth_same : (source : Source) (up : Exec → Bool) (s u : State) (x : Exec) → IsBorn source s x → HeldState source (seating makers) up s → TakesNow source (seating makers) up s → quiet.quiet source s ≡ Goes u → u.env.exec ≡ s.env.exec
  birth_same source up s u x b st o e =
      let new : TakesAt source (seating makers) up (SetUpNow b.main ∷ b.todo) s = subst (λ l. TakesAt source (seating makers) up l s) b.next o in
      let q = home_at s.run.this s.env in
      let y = quiet.fresh b.routine s.run.this in
      let k : kept.Keeps source (seating makers) up s.env (sw.born q y s.env) = kept.born_keeps source (seating makers) up q y s.env (λ m e. (λ z u p. absurd (new m e z u p), λ z u p t. absurd (new m e z u p))) st.env in
      let l : kept.Keeps source (seating makers) up s.env (written s.run.this (Running (new_exec q s.env)) (sw.born q y s.env)) = kept.keeps_both source (seating makers) up k (kept.written_keeps source (seating makers) up s.run.this (Running (new_exec q s.env)) (sw.born q y s.env) k.env) in
      let first : quiet.act_todo source (SetUpNow b.main ∷ b.todo) s ≡ Goes u = subst (λ l. quiet.act_todo source l s ≡ Goes u) b.next e in
      let goes : Goes (at b.todo s.run.operands (in_env (written s.run.this (Running (new_exec q s.env)) (sw.born q y s.env)) s)) ≡ Goes u = subst (λ o. quiet.set_up_step o b.todo s ≡ Goes u) b.known first in
      let same : at b.todo s.run.operands (in_env (written s.run.this (Running (new_exec q s.env)) (sw.born q y s.env)) s) ≡ u = cc goes in
      subst (λ (v : State). v.env.exec ≡ s.env.exec) same l.exec

  goes_only : (source : Source) (s u : State) (x : Exec) → IsBorn source s x → quiet.quiet source s ≡ Ticks u → ⊥
  goes_only source s u x b e =
      let first : quiet.act_todo source (SetUpNow b.main ∷ b.todo) s ≡ Ticks u = subst (λ l. quiet.act_todo source l s ≡ Ticks u) b.next e in
      let goes : quiet.set_up_step (Some b.routine) b.todo s ≡ Ticks u = subst (λ o. quiet.set_up_step o b.todo s ≡ Ticks u) b.known first in
      cc

  asks_not : (source : Source) (s u : State) (r : Request) (x : Exec) → IsBorn source s x → quiet.quiet source s ≡ Asks r u → ⊥
  asks_not source s u r x b e =
      let first : quiet.act_todo source (SetUpNow b.main ∷ b.todo) s ≡ Asks r u = subst (λ l. quiet.act_todo source l s ≡ Asks r u) b.next e in
      let goes : quiet.set_up_step (Some b.routine) b.todo s ≡ Asks r u = subst (λ o. quiet.set_up_step o b.todo s ≡ Asks r u) b.known first in
      cc

  -- behind a step, of those too that it has made
  module _ (source : Source) (made : Exec → Bool) (s : State) (st : HeldState source (seating makers) (now makers asked made) s) (a : OutlastsAt makers asked source made s) (l : MakesLater source whole s) where
    stepped : HeldStep source (seating makers) (now makers asked made) (quiet.quiet source s)
    stepped = law_held.steps source (seating makers) (now makers asked made) s st (a.takes st)

    born : (x : Exec) → now makers asked (made_behind source s made) x ≡ true → now makers asked made x ≡ false → IsBorn source s x
    born x h f = born_now source s made x (now_made (made_behind source s made) x h) (not_now made x (now_asked (made_behind source s made) x h) f)

    -- where nothing is made it is asked of the same ones
    same_asked : ((x : Exec) → IsBorn source s x → ⊥) → (x : Exec) → now makers asked (made_behind source s made) x ≡ true → now makers asked made x ≡ true
    same_asked f x h = by (now makers asked made x) refl
      where
        by : (b : Bool) → now makers asked made x ≡ b → now makers asked made x ≡ true
        by true e = e
        by false e = absurd (f x (born x h e))

    pub step_goes : (u : State) → quiet.quiet source s ≡ Goes u → HeldState source (seating makers) (now makers asked (made_behind source s made)) u
    step_goes u e = by (now makers asked (made_behind source s made) (new_exec (home_at s.run.this s.env) s.env)) refl (now makers asked made (new_exec (home_at s.run.this s.env) s.env)) refl
      where
        y : HeldState source (seating makers) (now makers asked made) u
        y = subst (HeldStep source (seating makers) (now makers asked made)) e stepped

        told : (x : Exec) → now makers asked (made_behind source s made) x ≡ true → now makers asked made x ≡ false → (makers.parent x ≡ u.env.exec) × Soon source (makers.seat x) (makers.before x) u.env.exec u.run u.callers × ((makers.seat x).task ≡ false → NamedAt u.env.exec u.callers u.env.frames x (makers.seat x).place)
        told x k f =
            let b = born x k f in
            let m = l x b in
            (m.parent ∙ sym (birth_same source (now makers asked made) s u x b st (a.takes st) e), a.held x b (now_asked (made_behind source s made) x k) u e, λ t. a.named x b (now_asked (made_behind source s made) x k) u e)

        by : (c : Bool) → now makers asked (made_behind source s made) (new_exec (home_at s.run.this s.env) s.env) ≡ c → (d : Bool) → now makers asked made (new_exec (home_at s.run.this s.env) s.env) ≡ d → HeldState source (seating makers) (now makers asked (made_behind source s made)) u
        by true g false i =
            state_more source (seating makers) (now makers asked made) (now makers asked (made_behind source s made)) u y (a.alone (new_exec (home_at s.run.this s.env) s.env) (born (new_exec (home_at s.run.this s.env) s.env) g i) u e) told
        by true g true i =
            state_fewer source (seating makers) (now makers asked made) (now makers asked (made_behind source s made)) u y (λ x h. still x h (now makers asked made x) refl)
          where
            still : (x : Exec) → now makers asked (made_behind source s made) x ≡ true → (b : Bool) → now makers asked made x ≡ b → now makers asked made x ≡ true
            still x h true f = f
            still x h false f = ap (now makers asked made) (born x h f).named ∙ i
        by false g d i =
            state_fewer source (seating makers) (now makers asked made) (now makers asked (made_behind source s made)) u y (λ x h. still x h (now makers asked made x) refl)
          where
            still : (x : Exec) → now makers asked (made_behind source s made) x ≡ true → (b : Bool) → now makers asked made x ≡ b → now makers asked made x ≡ true
            still x h true f = f
            still x h false f = no_both (now makers asked (made_behind source s made) (new_exec (home_at s.run.this s.env) s.env)) (ap (now makers asked (made_behind source s made)) (sym (born x h f).named) ∙ h) g

    pub step_ticks : (u : State) → quiet.quiet source s ≡ Ticks u → HeldAsked source (seating makers) (now makers asked (made_behind source s made)) JustGo u
    step_ticks u e =
        asked_fewer source (seating makers) (now makers asked made) (now makers asked (made_behind source s made)) JustGo u (subst (HeldStep source (seating makers) (now makers asked made)) e stepped) (same_asked (λ x b. goes_only source s u x b e))

    step_asks : (r : Request) (u : State) → quiet.quiet source s ≡ Asks r u → HeldAsk source (seating makers) (now makers asked (made_behind source s made)) r u
    step_asks r u e =
        ask_fewer source (seating makers) (now makers asked made) (now makers asked (made_behind source s made)) r u (subst (HeldStep source (seating makers) (now makers asked made)) e stepped) (same_asked (λ x b. asks_not source s u r x b e))

  ride_outlasts : (source : Source) (made : Exec → Bool) {s u : State} {q k : ℕ} {a : Asked} (r : Rides source s q u k a) → RideOutlasts makers asked source made r → RideMeets (MakesLater source whole) source s q u k a r → Riding source (seating makers) (now makers asked made) q s → HeldAsk source (seating makers) (now makers asked (ride_made source made r)) a.request u
  ride_outlasts source made slices o l st = st
  ride_outlasts source made (goes_on {s} {t} e r) o l st = ride_outlasts source (made_behind source s made) r o.1 l.1 (step_goes source made s st o.0 l.0 t e)
  ride_outlasts source made (ticks {s} {t} {u} {q} e r) o l st = ride_outlasts source (made_behind source s made) r o.1 l.1 (riding source (seating makers) (now makers asked (made_behind source s made)) q t (step_ticks source made s st o.0 l.0 t e))
  ride_outlasts source made (asks {s} {t} {q} {r} e) o l st = step_asks source made s st o l r t e

  -- what is spawned

  module _ (made : Exec → Bool) (s : State) where
    asked_spawned : (source : Source) (q : Request) → SpawnsAlone makers asked source made q s → SpawnsLater whole q s → HeldAsked source (seating makers) (now makers asked made) (form_of_request q) s → HeldAsked source (seating makers) (now makers asked (made_asked q made)) (form_of_request q) s
    asked_spawned source (ask.Spawn o) f l st = asked_more source (seating makers) (now makers asked made) (now makers asked (made_asked (ask.Spawn o) made)) s st f.0 told
      where
        told : (x : Exec) → now makers asked (made_asked (ask.Spawn o) made) x ≡ true → now makers asked made x ≡ false → (makers.parent x ≡ s.env.exec) × Soon source (makers.seat x) (makers.before x) s.env.exec s.run s.callers × ((makers.seat x).task ≡ false → NamedAt s.env.exec s.callers s.env.frames x (makers.seat x).place)
        told x h g = by (exec_eq x (main_of o)) refl
          where
            old : made x ≡ false
            old = not_now made x (now_asked (made_asked (ask.Spawn o) made) x h) g

            by : (b : Bool) → exec_eq x (main_of o) ≡ b → (makers.parent x ≡ s.env.exec) × Soon source (makers.seat x) (makers.before x) s.env.exec s.run s.callers × ((makers.seat x).task ≡ false → NamedAt s.env.exec s.callers s.env.frames x (makers.seat x).place)
            by true e =
                let same = same_exec x (main_of o) e in
                let it : asked (main_of o) ≡ true = ap asked (sym same) ∙ now_asked (made_asked (ask.Spawn o) made) x h in
                (ap whole.parent same ∙ l.parent, subst (λ n. Soon source (makers.seat n) (makers.before n) s.env.exec s.run s.callers) (sym same) (f.2 it), λ t. no_both (whole.seat x).task (ap (λ n. (whole.seat n).task) same ∙ l.task) t)
            by false e =
                let now_it : (if exec_eq x (main_of o) then true else made x) ≡ true = now_made (made_asked (ask.Spawn o) made) x h in
                no_both (made x) (ap (λ b. if b then true else made x) (sym e) ∙ now_it) old
    asked_spawned source q f l st = asked_fewer source (seating makers) (now makers asked made) (now makers asked (made_asked q made)) (form_of_request q) s st (λ x h. h)

  -- worlds

  module _ (source : Source) where
    -- whoever rests, having asked for an answer of this form
    abbrev pub Rests : (Exec → Bool) → Form → State → Type 0
    Rests up form s = (y : Exec) → up y ≡ true → makers.parent y ≡ s.env.exec → SoonAsked source (makers.seat y) (makers.before y) s.env.exec form s.run s.callers

    abbrev pub Names : (Exec → Bool) → State → Type 0
    Names up s = AllNamed source (seating makers) up s.env.exec s.callers s.env.frames

    abbrev pub Slot : (Exec → Bool) → Exec → parked.Ex → Type 0
    Slot up n y = HeldEx source (seating makers) up n y

    pub record HeldWorld (up : Exec → Bool) (j : Journal) (x : World) : Type 0 where
      pub stacks : (u : ℕ) → u < task_count j → has_ended u j ≡ false → Rests up (asked_form u j) (x.tasks u) × Names up (x.tasks u)
      pub tasks : (u : ℕ) → EnvBy (Slot up) (x.tasks u).env
      pub homes : (o : ℕ) → MembersBy (Slot up) (home.Object o) (x.homes o)

    with_hand_told : (up : Exec → Bool) (o : ℕ) (m : Option Members) (hand : List (ℕ × Members)) → MembersBy (Slot up) (home.Object o) m → HandBy (Slot up) hand → HandBy (Slot up) (with_home o m hand)
    with_hand_told up o None hand h k = k
    with_hand_told up o (Some m) hand h k = (h, k)

    hand_told : (up : Exec → Bool) (os : List ℕ) (homes : ℕ → Option Members) → ((o : ℕ) → MembersBy (Slot up) (home.Object o) (homes o)) → HandBy (Slot up) (hand_of os homes)
    hand_told up [] homes h = tt
    hand_told up (o ∷ os) homes h = with_hand_told up o (homes o) (hand_of os homes) (h o) (hand_told up os homes h)

    pub drawn_told : (up : Exec → Bool) (j : Journal) (w : World) (t : ℕ) → t < task_count j → has_ended t j ≡ false → HeldWorld up j w → HeldAsked source (seating makers) up (asked_form t j) (drawn j w t)
    drawn_told up j w t l e h = record {
      soon = (h.stacks t l e).0;
      named = (h.stacks t l e).1;
      env = record { house = (h.tasks t).house; hand = hand_told up (held t j) w.homes h.homes };
    }

    first_env : (r : Routine) (o : ℕ) (up : Exec → Bool) → EnvBy (Slot up) (first_state r o).env
    first_env r o up = record { house = (tt, tt); hand = tt }

  module _ (source : Source) (input : List ℕ) (opts : Options) (range : InRange opts) where
    module _ {j : Journal} {w : World} (rests : RunRests source input opts j w) (going : is_over j ≡ false) (deep : DeepWorld j w) (made : Exec → Bool) (h : HeldWorld source (now makers asked made) j w) (p t n : ℕ) (s : State) (q : Asked) (d : AsksIn source opts j w p t n s q) (f : Fits opts source.sites j t q.request) (on : is_over (j ++ act opts source.sites input j p t n q) ≡ false) (k : MayOutlast makers asked source input opts made (acts p t n s q d)) (lt : t < task_count j) (ml : RideMeets (MakesLater source whole) source (answered source d.given (drawn j w t)) (left opts j t) s n q d.rides) (sl : SpawnsLater whole q.request s) where
      abbrev a : List Entry
      a = act opts source.sites input j p t n q

      abbrev After : Exec → Bool
      After = now makers asked (made_asked q.request (ride_made source made d.rides))

      alive : has_ended t j ≡ false
      alive = law_alive opts source.sites input j rests.kernel going p t d.runs

      -- nobody has asked for a fault
      faultless : (m : ℕ) → q.request ≡ ask.Fault m → ⊥
      faultless m e = by (has_ended t (j ++ act opts source.sites input j p t n q)) refl
        where
          by : (b : Bool) → has_ended t (j ++ act opts source.sites input j p t n q) ≡ b → ⊥
          by true i = ⊎_elim (λ g. no_both (has_ended t j) g alive) (λ g. let same : ask.Fault m ≡ ask.End = sym e ∙ g.asks in absurd (cc)) (ended_by t opts source.sites input j p t n q on i)
          by false i = (law_ends opts source.sites input j p t n q on i).no_fault m e

      -- the state that has asked
      behind : HeldAsked source (seating makers) (now makers asked (made_asked q.request (ride_made source made d.rides))) (form_of_request q.request) s
      behind =
          asked_spawned (ride_made source made d.rides) s source q.request k.1 sl (no_fault source (seating makers) (now makers asked (ride_made source made d.rides)) q.request s faultless (ride_outlasts source made d.rides k.0 ml (riding source (seating makers) (now makers asked made) (left opts j t) (answered source d.given (drawn j w t)) (law_held.told source (seating makers) (now makers asked made) (asked_form t j) d.given (drawn j w t) (law_suiting opts source.sites input j rests.kernel going t d.given d.told) (drawn_told source (now makers asked made) j w t lt alive h)))))

      forms : (u : ℕ) → (u == t) ≡ false → asked_form u (j ++ act opts source.sites input j p t n q) ≡ asked_form u j
      forms u e = (law_asking opts source.sites input j p t n q rests.kernel (may_ask source input opts range d f) on).others u e

      -- elsewhere
      old_rests : (v : ℕ) → v < task_count j → (v == t) ≡ false → has_ended v (j ++ act opts source.sites input j p t n q) ≡ false → Rests source (now makers asked (made_asked q.request (ride_made source made d.rides))) (asked_form v (j ++ act opts source.sites input j p t n q)) (w.tasks v)
      old_rests v l e i x u r = by (now makers asked made x) refl
        where
          by : (b : Bool) → now makers asked made x ≡ b → SoonAsked source (makers.seat x) (makers.before x) (w.tasks v).env.exec (asked_form v (j ++ act opts source.sites input j p t n q)) (w.tasks v).run (w.tasks v).callers
          by true g =
              subst (λ form. SoonAsked source (makers.seat x) (makers.before x) (w.tasks v).env.exec form (w.tasks v).run (w.tasks v).callers) (sym (forms v e)) ((h.stacks v l (ended_before j (act opts source.sites input j p t n q) v i)).0 x g r)
          by false g = absurd (k.2.tasks v l e x u g r)

      old_names : (v : ℕ) → v < task_count j → (v == t) ≡ false → has_ended v (j ++ act opts source.sites input j p t n q) ≡ false → Names source (now makers asked (made_asked q.request (ride_made source made d.rides))) (w.tasks v)
      old_names v l e i =
          names_more source (seating makers) (now makers asked made) (now makers asked (made_asked q.request (ride_made source made d.rides))) (w.tasks v).env.exec (w.tasks v).callers (w.tasks v).env.frames (k.2.tasks v l e) (h.stacks v l (ended_before j (act opts source.sites input j p t n q) v i)).1

      -- of one that has made none meanwhile
      grown : (m : Exec) (y : _) → ((x : Exec) → now makers asked (made_asked q.request (ride_made source made d.rides)) x ≡ true → now makers asked made x ≡ false → makers.parent x ≡ m → ⊥) → Slot source (now makers asked made) m y → Slot source (now makers asked (made_asked q.request (ride_made source made d.rides))) m y
      grown m y g e = (all_more source (seating makers) (now makers asked made) (now makers asked (made_asked q.request (ride_made source made d.rides))) m (y.run ∷ y.callers) g e.0, names_more source (seating makers) (now makers asked made) (now makers asked (made_asked q.request (ride_made source made d.rides))) m y.callers y.frames g e.1)

      old_env : (v : ℕ) → (v == t) ≡ false → EnvBy (Slot source (now makers asked (made_asked q.request (ride_made source made d.rides)))) (w.tasks v).env
      old_env v e =
          both_env (λ m y. (x : Exec) → now makers asked (made_asked q.request (ride_made source made d.rides)) x ≡ true → now makers asked made x ≡ false → makers.parent x ≡ m → ⊥) (Slot source (now makers asked made)) (Slot source (now makers asked (made_asked q.request (ride_made source made d.rides)))) (λ m y g i. grown m y g i) (w.tasks v).env (k.2.slots v e) (h.tasks v)

      old_home : (o : ℕ) → find o s.env.hand ≡ None → MembersBy (Slot source (now makers asked (made_asked q.request (ride_made source made d.rides)))) (home.Object o) (w.homes o)
      old_home o e =
          both_members (λ m y. (x : Exec) → now makers asked (made_asked q.request (ride_made source made d.rides)) x ≡ true → now makers asked made x ≡ false → makers.parent x ≡ m → ⊥) (Slot source (now makers asked made)) (Slot source (now makers asked (made_asked q.request (ride_made source made d.rides)))) (λ m y g i. grown m y g i) (home.Object o) (w.homes o) (k.2.homes o e) (h.homes o)

      or_home : (o : ℕ) (z : Option Members) → find o s.env.hand ≡ z → MembersBy (Slot source (now makers asked (made_asked q.request (ride_made source made d.rides)))) (home.Object o) z → MembersBy (Slot source (now makers asked (made_asked q.request (ride_made source made d.rides)))) (home.Object o) (or_else z (w.homes o))
      or_home o None e m = old_home o e
      or_home o (Some z) e m = m

      -- the main that is spawned has made none
      main_none : (o : ℕ) → q.request ≡ ask.Spawn o → (x : Exec) → now makers asked (made_asked q.request (ride_made source made d.rides)) x ≡ true → makers.parent x ≡ main_of o → ⊥
      main_none o e x u r = by q.request e k.1 u
        where
          by : (g : Request) → g ≡ ask.Spawn o → SpawnsAlone makers asked source (ride_made source made d.rides) g s → now makers asked (made_asked g (ride_made source made d.rides)) x ≡ true → ⊥
          by (ask.Spawn c) e g u = let same : c ≡ o = cc in g.1 x u (r ∙ ap main_of (sym same))
          by g e y u = absurd (cc)

      abbrev Told : ℕ → State → Type 0
      Told u v = Rests source (now makers asked (made_asked q.request (ride_made source made d.rides))) (asked_form u (j ++ act opts source.sites input j p t n q)) v × Names source (now makers asked (made_asked q.request (ride_made source made d.rides))) v

      stacks_after : (u : ℕ) → u < task_count (j ++ act opts source.sites input j p t n q) → has_ended u (j ++ act opts source.sites input j p t n q) ≡ false → Told u ((world_after source (act opts source.sites input j p t n q) w t s).tasks u)
      stacks_after u l i = by (u == t) refl
        where
          old : (u == t) ≡ false → u < task_count j → Told u ((world_after source (act opts source.sites input j p t n q) w t s).tasks u)
          old e b =
              let none : spawns a u ≡ false = spawns_none j a u (lawful_act opts source.sites input j p t n q (good_whole opts source.sites input rests.kernel).sound (may_ask source input opts range d f)) b in
              let state : (world_after source a w t s).tasks u ≡ w.tasks u = ap (λ b. if b then bare s else if spawns a u then child_of source (own_object u a) s else w.tasks u) e ∙ ap (λ b. if b then child_of source (own_object u a) s else w.tasks u) none in
              subst (Told u) (sym state) (old_rests u b e i, old_names u b e i)

          new : (u == t) ≡ false → task_count j ≤ u → Told u ((world_after source (act opts source.sites input j p t n q) w t s).tasks u)
          new e le =
              let b = spawned_by source input opts range rests going deep p t n s q d f on u le l in
              let spawns_it : spawns a u ≡ true = ap (λ l. spawns l u) b.entries ∙ ap (λ c. c || false) b.test in
              let own : own_object u a ≡ b.object = ap (own_object u) b.entries ∙ own_spawn p t (cost n q.line) b.object (task_count j) u b.test in
              let state : (world_after source a w t s).tasks u ≡ child_of source b.object s = ap (λ b. if b then bare s else if spawns a u then child_of source (own_object u a) s else w.tasks u) e ∙ (ap (λ b. if b then child_of source (own_object u a) s else w.tasks u) spawns_it ∙ ap (λ o. child_of source o s) own) in
              subst (Told u) (sym state) (λ x v r. absurd (main_none b.object b.request x v r), λ x v r y. absurd (main_none b.object b.request x v r))

          own_form : (u == t) ≡ true → asked_form u (j ++ act opts source.sites input j p t n q) ≡ form_of_request q.request
          own_form e = ap (λ v. asked_form v (j ++ act opts source.sites input j p t n q)) (eqb-true u t e) ∙ (law_asking opts source.sites input j p t n q rests.kernel (may_ask source input opts range d f) on).own

          by : (b : Bool) → (u == t) ≡ b → Told u ((world_after source (act opts source.sites input j p t n q) w t s).tasks u)
          by true e =
              let state : (world_after source a w t s).tasks u ≡ bare s = ap (λ b. if b then bare s else if spawns a u then child_of source (own_object u a) s else w.tasks u) e in
              subst (Told u) (sym state) (λ x v r. subst (λ form. SoonAsked source (makers.seat x) (makers.before x) s.env.exec form s.run s.callers) (sym (own_form e)) (behind.soon x v r), behind.named)
          by false e = ⊎_elim (λ b. old e b) (λ le. new e le) (cases_lt u (task_count j))

      tasks_after : (u : ℕ) → EnvBy (Slot source (now makers asked (made_asked q.request (ride_made source made d.rides)))) ((world_after source (act opts source.sites input j p t n q) w t s).tasks u).env
      tasks_after u =
          tested (λ (v : State). EnvBy (Slot source (now makers asked (made_asked q.request (ride_made source made d.rides)))) v.env) (u == t) (bare s) _ (λ e. record { house = behind.env.house; hand = tt }) (λ e. either (λ (v : State). EnvBy (Slot source (now makers asked (made_asked q.request (ride_made source made d.rides)))) v.env) (spawns a u) (child_of source (own_object u a) s) (w.tasks u) (first_env source (routine_of source (child_main source s.run.control)) (own_object u a) (now makers asked (made_asked q.request (ride_made source made d.rides)))) (old_env u e))

      outlast_act : HeldWorld source (now makers asked (made_asked q.request (ride_made source made d.rides))) (j ++ act opts source.sites input j p t n q) (world_after source (act opts source.sites input j p t n q) w t s)
      outlast_act = record {
        stacks = stacks_after;
        tasks = tasks_after;
        homes = λ o. either (MembersBy (Slot source (now makers asked (made_asked q.request (ride_made source made d.rides)))) (home.Object o)) (takes_out a o) None _ tt (or_home o (find o s.env.hand) refl (parked.found_hand (Slot source (now makers asked (made_asked q.request (ride_made source made d.rides)))) o s.env.hand behind.env.hand));
      }

    outlast_given : (up : Exec → Bool) (j : Journal) (w : World) (p t : ℕ) → HeldWorld source up j w → HeldWorld source up (j ++ dispatch p t ∷ []) w
    outlast_given up j w p t h =
        let same = tasks_push j (dispatch p t) in
        record {
          stacks = λ u l i.
              let k = h.stacks u (omega (arith, l, same)) (ended_before j (dispatch p t ∷ []) u i) in
              (λ x v r. subst (λ form. SoonAsked source (makers.seat x) (makers.before x) (w.tasks u).env.exec form (w.tasks u).run (w.tasks u).callers) (sym (form_push u j (dispatch p t))) (k.0 x v r), k.1);
          tasks = h.tasks;
          homes = h.homes;
        }

    outlast_begin : HeldWorld source (now makers asked (λ x. false)) (begin opts ∷ []) (first_world source)
    outlast_begin = record {
      stacks = λ u l i. (λ x h r. absurd (no_one x h), λ x h r t. absurd (no_one x h));
      tasks = λ u. first_env source (routine_of source source.main) 0 (now makers asked (λ x. false));
      homes = λ o. either (MembersBy (Slot source (now makers asked (λ x. false))) (home.Object o)) (o == 0) (Some _) None tt tt;
    }
      where
        no_one : (x : Exec) → now makers asked (λ x. false) x ≡ true → ⊥
        no_one x h = let e = now_made (λ x. false) x h in absurd (cc)

    pub run_outlasts : {j : Journal} {w : World} (r : Runs source input opts j w) → RunFits source input opts j w r → is_over j ≡ false → RunOutlasts makers asked source input opts r → RunMeets (MakesLater source whole) source input opts j w r → RunSpawnsLater whole source input opts j w r → HeldWorld source (now makers asked (run_made source input opts r)) j w
    run_outlasts begun f on o ml sl = outlast_begin
    run_outlasts (more {j} {w} r going (gives p t v le)) f on o ml sl = outlast_given (now makers asked (run_made source input opts r)) j w p t (run_outlasts r f.0 going o.0 ml.0 sl.0)
    run_outlasts (more {j} r going (no_room p t v le)) f on o ml sl = no_both (is_over (j ++ lone_limit ∷ [])) (over_limit j 0 0) on
    run_outlasts (more {j} {w} r going (acts p t n s q d)) f on o ml sl =
        let h = run_outlasts r f.0 going o.0 ml.0 sl.0 in
        let rests = run_rests source input opts range r f.0 going in
        let deep = deep_run source input opts range r f.0 going in
        let x = named.run_named source input opts range r f.0 going in
        outlast_act rests going deep (run_made source input opts r) h p t n s q d f.1 on o.1 (known source input opts range rests going x.serials x.world p t d.runs) ml.1 sl.1

    -- who is held has the marks outwards that were there before
    slot_ends : (up : Exec → Bool) (n : Exec) (y : parked.Ex) → Slot source up n y → OutlastEx makers up n y
    slot_ends up n y h x u p = held_ends source (makers.seat x) (makers.before x) n (y.run ∷ y.callers) (h.0 x u p)

    asked_ends : (x n : Exec) (form : Form) (b : Active) (cs : List Active) → SoonAsked source (makers.seat x) (makers.before x) n form b cs → Ends (makers.before x) (stacked (b ∷ cs))
    asked_ends x n form b cs (inl h) = held_ends source (makers.seat x) (makers.before x) n (b ∷ cs) h
    asked_ends x n form b cs (inr h) = soon_ends source (makers.seat x) (makers.before x) n b cs h.1

    world_ends : (up : Exec → Bool) (j : Journal) (w : World) → HeldWorld source up j w → OutlastWorld makers up j w
    world_ends up j w h = record {
      stacks = λ u l i x v r. asked_ends x (w.tasks u).env.exec (asked_form u j) (w.tasks u).run (w.tasks u).callers ((h.stacks u l i).0 x v r);
      tasks = λ u. both_env (Slot source up) (Slot source up) (OutlastEx makers up) (λ n y k l. slot_ends up n y k) (w.tasks u).env (h.tasks u) (h.tasks u);
      homes = λ o. both_members (Slot source up) (Slot source up) (OutlastEx makers up) (λ n y k l. slot_ends up n y k) (home.Object o) (w.homes o) (h.homes o) (h.homes o);
    }

-- so it is of a state, and of those that have made none meanwhile
module _ (makers : Makers) (up : Exec → Bool) where
  pub state_ends : (source : Source) (s : State) → HeldState source (seating makers) up s → Outlasts makers up s.env.exec (s.run ∷ s.callers)
  state_ends source s h x u p = by (h.soon x u p)
    where
      by : SoonHere source (makers.seat x) (makers.before x) s.env.exec s → Ends (makers.before x) (stacked (s.run ∷ s.callers))
      by (inl (zero, k)) = soon_ends source (makers.seat x) (makers.before x) s.env.exec s.run s.callers k
      by (inl (suc k, g)) = g.1
      by (inr g) = next_ends source (makers.seat x) (makers.before x) s.env.exec s.run.control s.run s.callers g

  pub env_ends : (source : Source) (e : Env) → EnvBy (HeldEx source (seating makers) up) e → EnvBy (OutlastEx makers up) e
  env_ends source e h = both_env (HeldEx source (seating makers) up) (HeldEx source (seating makers) up) (OutlastEx makers up) (λ n y k l x u p. held_ends source (makers.seat x) (makers.before x) n (y.run ∷ y.callers) (k.0 x u p)) e h h

  pub ends_more : (other : Exec → Bool) (n : Exec) (cs : List Active) → ((x : Exec) → other x ≡ true → up x ≡ false → makers.parent x ≡ n → ⊥) → Outlasts makers up n cs → Outlasts makers other n cs
  ends_more other n cs f h x u p = by (up x) refl
    where
      by : (b : Bool) → up x ≡ b → Ends (makers.before x) (stacked cs)
      by true e = h x e p
      by false e = absurd (f x u e p)

pub law_outlast_runs : LawOutlastRuns
law_outlast_runs asked homes source input opts j w r range fits on b o =
    world_ends b.makers homes asked source input opts range (now (with_homes homes b.makers) asked (run_made source input opts r)) j w (run_outlasts b.makers homes asked source input opts range r fits on o b.made b.spawned)
