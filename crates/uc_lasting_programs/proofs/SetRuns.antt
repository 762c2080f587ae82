-- In every run what activations that wait have bound to variables that are mutex objects has not gone, as nobody has at hand what goes, and who lets go of an
-- object is not awaited, or passes its unwinding on.
use Rattle.std.proofs.Common.{◌≡◌, ℕ, ◌==◌, ◌⊎◌, inl, inr, Bool, true, false, List, [], ◌∷◌, ◌++◌, Option, Some, None, refl, sym, ap, ◌∙◌, subst}
use Rattle.std.specs.Prelude.{if◌then◌else◌}
use Rattle.std.proofs.lemmas.Bool.{eqb-true, eq-eqb}
use Rattle.uc_tree.specs.Source.{Source}
use Rattle.uc_entry.specs.Keyed.{find}
use Rattle.uc_entry.specs.declared.entry.Entry.{Entry}
use Rattle.uc_entry.specs.declared.entry.Options.{Options}
use Rattle.uc_entry.specs.declared.request.Answer.{Answer}
use Rattle.uc_entry.specs.declared.request.Asked.{Asked}
use Rattle.uc_entry.specs.declared.request.Request.{Request}
use Rattle.uc_entry.specs.declared.request.Request.TheVariants as ask
use Rattle.uc_acts.specs.Journal.{Journal, begin, held, is_over, own_object}
use Rattle.uc_acts.specs.Acts.{act, dispatch}
use Rattle.uc_acts.specs.Known.{has_ended, is_gone, spawns, takes_out}
use Rattle.uc_acts.proofs.Acting.{destroys}
use Rattle.uc_acts.proofs.Living.{gone_still}
use Rattle.uc_machine.specs.declared.exec.Exec.{Exec}
use Rattle.uc_machine.specs.declared.exec.Home.TheVariants as home
use Rattle.uc_machine.specs.declared.exec.Stage.{Stage}
use Rattle.uc_machine.specs.declared.exec.Stage.TheVariants.{Fresh, Started, Ended}
use Rattle.uc_machine.specs.Executions.{Execution}
use Rattle.uc_machine.specs.Pieces.{Value, Object, Todo, Active, Members, Step}
use Rattle.uc_machine.specs.Quiet.{State, Goes, Ticks, Asks, quiet, no_members}
use Rattle.uc_machine.specs.Answering.{answered, child_main, child_of}
use Rattle.uc_machine.specs.Rides.{Rides, slices, goes_on, ticks, asks}
use Rattle.uc_meaning.specs.Runs.{World, AsksIn, bare, drawn, or_else, first_world, world_after}
use Rattle.uc_state_laws.specs.NewClusters.{IsLast}
use Rattle.uc_state_laws.specs.ThereStates.{SourceBegins}
use Rattle.uc_state_laws.specs.RoomRuns as way
use Rattle.uc_state_laws.specs.RoomRuns.{Leads}
use Rattle.uc_state_laws.specs.Opens.{RideMeets, LeadsMeet}
use Rattle.uc_state_laws.proofs.Makes.{law_ends}
use Rattle.uc_life_laws.specs.Things.{Few}
use Rattle.uc_life_laws.specs.LifeStates.{HandBy}
use Rattle.uc_life_laws.proofs.Cells.{either}
use Rattle.uc_life_laws.proofs.Fewer.{both_env, both_members}
use Rattle.uc_life_laws.proofs.KindsLemmas.{env_less, members_less}
use Rattle.uc_life_laws.proofs.Parked.{found_hand}
use Rattle.uc_life_laws.proofs.Spawning.{ended_before}
use Rattle.uc_making_laws.specs.ForgetsThis.{GoesBy}
use Rattle.uc_making_laws.specs.NoOthers.{NoThis}
use Rattle.uc_making_laws.specs.Nobodys.{NoneBy, NoneEx, IsNobodys}
use Rattle.uc_homed_ends.specs.BoundHomes.{is_last, BoundEx, BoundMembers, BoundEnv, BoundState, GoodStep}
use Rattle.uc_homed_ends.specs.BoundLaws.{Finds}
use Rattle.uc_homed_ends.specs.Freeing.{IsUnawaited, GivesUp}
use Rattle.uc_homed_ends.proofs.BoundWalk.{law_bound_steps}
use Rattle.uc_homed_ends.proofs.BoundWorlds.{hand_bound, or_bound}
use Rattle.uc_lasting_programs.proofs.PresentRuns.{gone_stays as stays}
use Rattle.uc_lasting_programs.proofs.SetStates.{not_gone, SetAtRest, SetOnWay, set_steps, set_told, IsIn, AllIn, Inner, still_ex, still_rest, gone_rest}

-- behind a journal
abbrev pub by_then : (ℕ → Value) → Journal → Few
by_then homes j = not_gone homes (λ o. is_gone o j)

-- all tasks that go on, and what is at home in objects
pub record SetWorld (homes : ℕ → Value) (source : Source) (j : Journal) (w : World) : Type 0 where
  pub tasks : (u : ℕ) → has_ended u j ≡ false → SetAtRest source (by_then homes j) (w.tasks u)
  pub members : (q : ℕ) → BoundMembers (by_then homes j) (home.Object q) (w.homes q)

module _ (homes : ℕ → Value) (source : Source) where
  -- with nothing in hand
  bare_set : (few : Few) (s : State) → SetAtRest source few s → SetAtRest source few (bare s)
  bare_set few s (inl h) = inl (record { frames = h.frames; frame = h.frame; run = h.run; callers = h.callers; env = record { house = h.env.house; hand = tt } })
  bare_set few s (inr h) = inr (record { control = h.control; passes = h.passes; frames = h.frames; frame = h.frame; callers = h.callers; env = record { house = h.env.house; hand = tt } })

  set_env : (few : Few) (s : State) → SetAtRest source few s → BoundEnv few s.env
  set_env few s (inl h) = h.env
  set_env few s (inr h) = h.env

  -- with what is at home in objects that it is inside
  drawn_set : (few : Few) (j : Journal) (w : World) (t : ℕ) → SetAtRest source few (w.tasks t) → HandBy (BoundEx few) (drawn j w t).env.hand → SetAtRest source few (drawn j w t)
  drawn_set few j w t (inl h) k = inl (record { frames = h.frames; frame = h.frame; run = h.run; callers = h.callers; env = record { house = h.env.house; hand = k } })
  drawn_set few j w t (inr h) k = inr (record { control = h.control; passes = h.passes; frames = h.frames; frame = h.frame; callers = h.callers; env = record { house = h.env.house; hand = k } })

  -- none has gone since

  module _ (g h : ℕ → Bool) (stay : (q : ℕ) → g q ≡ false → h q ≡ false) where
    keeps : (q : ℕ) → (⊥ → ⊥) → g q ≡ false → h q ≡ false
    keeps q i k = stay q k

    all : (cs : List Active) → AllIn homes g h (λ q. ⊥) keeps cs
    all [] = tt
    all (a ∷ older) = ((λ q e i. i), all older)

    inner : (s : Stage) (y : Execution (List Todo) Value) → Inner homes g h (λ q. ⊥) keeps s y
    inner Fresh y = all (y.run ∷ y.callers)
    inner Started y = all (y.run ∷ y.callers)
    inner Ended y = tt

    one : (n : Exec) (y : Execution (List Todo) Value) → BoundEx (not_gone homes g) n y → BoundEx (not_gone homes h) n y
    one n y k = still_ex homes g h (λ q. ⊥) keeps n y k (inner y.links.stage y)

    turned_members : (q : ℕ) (m : Option Members) → BoundMembers (not_gone homes g) (home.Object q) m → BoundMembers (not_gone homes h) (home.Object q) m
    turned_members q m k = members_less (BoundEx (not_gone homes g)) (BoundEx (not_gone homes h)) (λ n y k. one n y k) (home.Object q) m k

    turned_rest : (s : State) → SetAtRest source (not_gone homes g) s → SetAtRest source (not_gone homes h) s
    turned_rest s k =
        still_rest homes g h (λ q. ⊥) keeps source s (λ q e i. i) (all s.callers) (env_less (BoundEx (not_gone homes g)) (BoundEx (not_gone homes h)) (λ n y k. one n y k) s.env (set_env (not_gone homes g) s k)) k

  -- one has, of which no activation that waits is

  module _ (g h : ℕ → Bool) (o : ℕ) (stay : (q : ℕ) → (q ≡ o → ⊥) → g q ≡ false → h q ≡ false) where
    is_in : (v : Value) → (v ≡ Object o → ⊥) → IsIn homes g h (λ q. q ≡ o) stay v
    is_in v away = λ q e i. away (e ∙ ap Object i)

    all_in : (cs : List Active) → NoThis o cs → AllIn homes g h (λ q. q ≡ o) stay cs
    all_in [] n = tt
    all_in (a ∷ older) n = (is_in a.this n.0, all_in older n.1)

    inner_in : (s : Stage) (y : Execution (List Todo) Value) → NoneBy o s y → Inner homes g h (λ q. q ≡ o) stay s y
    inner_in Fresh y n = all_in (y.run ∷ y.callers) n
    inner_in Started y n = all_in (y.run ∷ y.callers) n
    inner_in Ended y n = tt

    one_in : (n : Exec) (y : Execution (List Todo) Value) → BoundEx (not_gone homes g) n y → NoneEx o n y → BoundEx (not_gone homes h) n y
    one_in n y k m = still_ex homes g h (λ q. q ≡ o) stay n y k (inner_in y.links.stage y m)

    forgotten : (j : Journal) (a : List Entry) (u : ℕ) (x : World) → IsNobodys j a x u o → (On : ℕ → Type 0) → ((v : ℕ) → On v → has_ended v (j ++ a) ≡ false) → ((v : ℕ) → On v → SetAtRest source (not_gone homes g) (x.tasks v)) → ((q : ℕ) → BoundMembers (not_gone homes g) (home.Object q) (x.homes q)) → BoundState (not_gone homes g) source false (x.tasks u) → IsUnawaited (x.tasks u).callers ⊎ GivesUp source (x.tasks u) → ((v : ℕ) → On v → SetAtRest source (not_gone homes h) (x.tasks v)) × ((q : ℕ) → BoundMembers (not_gone homes h) (home.Object q) (x.homes q))
    forgotten j a u x b On lives tasks members own free = (
      rest,
      λ q. both_members (BoundEx (not_gone homes g)) (NoneEx o) (BoundEx (not_gone homes h)) (λ n y k m. one_in n y k m) (home.Object q) (x.homes q) (members q) (b.homes q),
    )
      where
        env : (v : ℕ) → BoundEnv (not_gone homes g) (x.tasks v).env → BoundEnv (not_gone homes h) (x.tasks v).env
        env v k = both_env (BoundEx (not_gone homes g)) (NoneEx o) (BoundEx (not_gone homes h)) (λ n y k m. one_in n y k m) (x.tasks v).env k (b.tasks v)

        rest : (v : ℕ) → On v → SetAtRest source (not_gone homes h) (x.tasks v)
        rest v on = by (v == u) refl
          where
            by : (c : Bool) → (v == u) ≡ c → SetAtRest source (not_gone homes h) (x.tasks v)
            by true e =
                let q : v ≡ u = eqb-true v u e in
                subst (λ i. SetAtRest source (not_gone homes h) (x.tasks i)) (sym q) (gone_rest homes g h (λ q. q ≡ o) stay source (x.tasks u) (all_in (x.tasks u).callers (b.waiting u (subst (λ i. has_ended i (j ++ a) ≡ false) q (lives v on)))) (env u own.env) free own)
            by false e =
                still_rest homes g h (λ q. q ≡ o) stay source (x.tasks v) (is_in (x.tasks v).run.this (b.elsewhere v (lives v on) e)) (all_in (x.tasks v).callers (b.waiting v (lives v on))) (env v (set_env (not_gone homes g) (x.tasks v) (tasks v on))) (tasks v on)

  -- act by act

  module _ (begins : SourceBegins source) (input : List ℕ) (opts : Options) where
    pub set_begun : SetWorld homes source (begin opts ∷ []) (first_world source)
    set_begun = record {
      tasks = λ u on. inl (law_bound_steps.begins (by_then homes (begin opts ∷ [])) source begins source.main 0);
      members = λ o. either (BoundMembers (by_then homes (begin opts ∷ [])) (home.Object o)) (o == 0) (Some no_members) None tt tt;
    }

    pub set_given : (j : Journal) (w : World) (p n : ℕ) → SetWorld homes source j w → SetWorld homes source (j ++ dispatch p n ∷ []) w
    set_given j w p n x =
        let still : (v : ℕ) → is_gone v j ≡ false → is_gone v (j ++ dispatch p n ∷ []) ≡ false = λ v h. gone_still v j (dispatch p n) refl ∙ h in
        record {
          tasks = λ u on. turned_rest (λ o. is_gone o j) (λ o. is_gone o (j ++ dispatch p n ∷ [])) still (w.tasks u) (x.tasks u (ended_before u j (dispatch p n ∷ []) on));
          members = λ q. turned_members (λ o. is_gone o j) (λ o. is_gone o (j ++ dispatch p n ∷ [])) still q (w.homes q) (x.members q);
        }

    -- behind a request

    abbrev pub AskedSet : Few → Request → State → Type 0
    AskedSet few r s = (SetAtRest source few s × (r ≡ ask.Slice)) ⊎ (BoundState few source (is_last r) s ⊎ (IsLast r × BoundEnv few s.env))

    asked_bound : (few : Few) (r : Request) (s : State) → (r ≡ ask.End → ⊥) → ((n : ℕ) → r ≡ ask.Fault n → ⊥) → BoundState few source (is_last r) s ⊎ (IsLast r × BoundEnv few s.env) → BoundState few source false s
    asked_bound few ask.End s e f h = absurd (e refl)
    asked_bound few (ask.Fault n) s e f h = absurd (f n refl)
    asked_bound few r s e f (inl h) = h
    asked_bound few r s e f (inr h) = absurd h.0

    asked_rest : (few : Few) (r : Request) (s : State) → (r ≡ ask.End → ⊥) → ((n : ℕ) → r ≡ ask.Fault n → ⊥) → AskedSet few r s → SetAtRest source few s
    asked_rest few r s e f (inl h) = h.0
    asked_rest few r s e f (inr h) = inl (asked_bound few r s e f h)

    asked_env : (few : Few) (r : Request) (s : State) → AskedSet few r s → BoundEnv few s.env
    asked_env few r s (inl h) = set_env few s h.0
    asked_env few r s (inr (inl h)) = h.env
    asked_env few r s (inr (inr h)) = h.1

    -- along a ride, where each step finds what it is to find

    module _ (few : Few) where
      abbrev On : State → Type 0
      On s = SetOnWay source few s

      step : {s : State} (x : Step) → quiet source s ≡ x → Finds few source s → On s → GoodStep few source x
      step {s} x e f h = subst (GoodStep few source) e (set_steps few source begins s f h)

      pub ridden : {s u : State} {q k : ℕ} {a : Asked} (d : Rides source s q u k a) → RideMeets (Finds few source) source s q u k a d → (q ≡ 0 → SetAtRest source few s) → On s → AskedSet few a.request u
      ridden slices f rest h = inl (rest refl, refl)
      ridden (goes_on {s} {t} e r) f rest h = ridden r f.1 (λ q. absurd (cc)) (inl (step (Goes t) e f.0 h))
      ridden (ticks {s} {t} e r) f rest h =
          let x : BoundState few source false t = step (Ticks t) e f.0 h in
          ridden r f.1 (λ q. inl x) (inl (law_bound_steps.goes_on few source t x))
      ridden (asks {s} {t} {q} {r} e) f rest h = inr (step (Asks r t) e f h)

      pub led : {s u : State} (l : Leads source s u) → LeadsMeet (Finds few source) source s u l → On s → On u
      led way.stays f h = h
      led (way.goes {s} {u} e l) f h = led l f.1 (inl (step (Goes u) e f.0 h))
      led (way.ticks {s} {u} e l) f h = led l f.1 (inl (law_bound_steps.goes_on few source u (step (Ticks u) e f.0 h)))

    module _ (j : Journal) (w : World) (x : SetWorld homes source j w) where
      abbrev Then : Few
      Then = by_then homes j

      -- whoever runs is told its answer
      pub start : (t : ℕ) (given : Answer) → has_ended t j ≡ false → SetAtRest source Then (answered source given (drawn j w t))
      start t given alive = set_told Then source given (drawn j w t) (drawn_set Then j w t (x.tasks t alive) (hand_bound Then source (held t j) w.homes x.members))

      -- behind an act whose ride ended in this state

      module _ (p n k : ℕ) (s : State) (asked : Asked) (d : AsksIn source opts j w p n k s asked) (on : is_over (j ++ act opts source.sites input j p n k asked) ≡ false) (ended : AskedSet Then asked.request s) where
        abbrev a : List Entry
        a = act opts source.sites input j p n k asked

        abbrev behind : World
        behind = world_after source (act opts source.sites input j p n k asked) w n s

        own_rest : has_ended n (j ++ act opts source.sites input j p n k asked) ≡ false → SetAtRest source Then (bare s)
        own_rest lives = let y = law_ends opts source.sites input j p n k asked on lives in bare_set Then s (asked_rest Then asked.request s y.no_end y.no_fault ended)

        tasks_then : (u : ℕ) → has_ended u (j ++ a) ≡ false → SetAtRest source Then (behind.tasks u)
        tasks_then u lives = by (u == n) refl
          where
            by : (b : Bool) → (u == n) ≡ b → SetAtRest source Then (if b then bare s else if spawns a u then child_of source (own_object u a) s else w.tasks u)
            by true e = own_rest (subst (λ v. has_ended v (j ++ a) ≡ false) (eqb-true u n e) lives)
            by false e = either (SetAtRest source Then) (spawns a u) (child_of source (own_object u a) s) (w.tasks u) (inl (law_bound_steps.begins Then source begins (child_main source s.run.control) (own_object u a))) (x.tasks u (ended_before u j a lives))

        members_then : (q : ℕ) → BoundMembers Then (home.Object q) (behind.homes q)
        members_then q = either (BoundMembers Then (home.Object q)) (takes_out a q) None (or_else (find q s.env.hand) (w.homes q)) tt (or_bound Then source q (find q s.env.hand) (w.homes q) (found_hand (BoundEx Then) q s.env.hand (asked_env Then asked.request s ended).hand) (x.members q))

        acted_by : (q : Request) → asked.request ≡ q → GoesBy IsNobodys j a behind n q → GoesBy (λ j a x u o. IsUnawaited (x.tasks u).callers ⊎ GivesUp source (x.tasks u)) j a behind n q → SetWorld homes source (j ++ a) behind
        acted_by (ask.Gone o) e b free =
            let stay : (v : ℕ) → (v ≡ o → ⊥) → is_gone v j ≡ false → is_gone v (j ++ a) ≡ false = λ v away h. stays source input opts j p n k asked on v (λ i. let z : ask.Gone v ≡ ask.Gone o = sym i ∙ e in away (cc)) h in
            let same : behind.tasks n ≡ bare s = ap (λ (c : Bool). if c then bare s else if spawns a n then child_of source (own_object n a) s else w.tasks n) (eq-eqb n n refl) in
            let y = forgotten (λ v. is_gone v j) (λ v. is_gone v (j ++ a)) o stay j a n behind b (λ v. has_ended v (j ++ a) ≡ false) (λ v l. l) tasks_then members_then (subst (BoundState Then source false) (sym same) (own_bound o e ended)) free in
            record { tasks = y.0; members = y.1 }
          where
            bare_bound : BoundState Then source false s → BoundState Then source false (bare s)
            bare_bound h = record { frames = h.frames; frame = h.frame; run = h.run; callers = h.callers; env = record { house = h.env.house; hand = tt } }

            at_gone : (r : Request) (o : ℕ) → r ≡ ask.Gone o → BoundState Then source (is_last r) s ⊎ (IsLast r × BoundEnv Then s.env) → BoundState Then source false s
            at_gone (ask.Gone i) o e (inl h) = h
            at_gone (ask.Gone i) o e (inr h) = absurd h.0
            at_gone r o e h = absurd (cc)

            own_bound : (o : ℕ) → asked.request ≡ ask.Gone o → AskedSet Then asked.request s → BoundState Then source false (bare s)
            own_bound o e (inl h) = let z : ask.Slice ≡ ask.Gone o = sym h.1 ∙ e in absurd (cc)
            own_bound o e (inr h) = bare_bound (at_gone asked.request o e h)
        acted_by q e b free = plain q refl e
          where
            plain : (r : Request) → destroys r ≡ false → asked.request ≡ r → SetWorld homes source (j ++ a) behind
            plain r none g =
                let stay : (v : ℕ) → is_gone v j ≡ false → is_gone v (j ++ a) ≡ false = λ v h. stays source input opts j p n k asked on v (λ i. let z : true ≡ false = sym (ap destroys i) ∙ (ap destroys g ∙ none) in cc) h in
                record {
                  tasks = λ u on. turned_rest (λ o. is_gone o j) (λ o. is_gone o (j ++ a)) stay (behind.tasks u) (tasks_then u on);
                  members = λ q. turned_members (λ o. is_gone o j) (λ o. is_gone o (j ++ a)) stay q (behind.homes q) (members_then q);
                }

        pub set_acted : GoesBy IsNobodys j a behind n asked.request → GoesBy (λ j a x u o. IsUnawaited (x.tasks u).callers ⊎ GivesUp source (x.tasks u)) j a behind n asked.request → SetWorld homes source (j ++ a) behind
        set_acted b free = acted_by asked.request refl b free
