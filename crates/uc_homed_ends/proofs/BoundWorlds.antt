-- In every run in which each step finds it, variables that are mutex objects hold numbers until they are bound, and then what is at home there.
use Rattle.std.proofs.Common.{◌≡◌, ℕ, ◌==◌, ◌⊎◌, inl, inr, Bool, true, false, List, [], ◌∷◌, ◌++◌, Option, Some, None, refl, subst}
use Rattle.std.specs.Prelude.{if◌then◌else◌}
use Rattle.std.proofs.lemmas.Bool.{eqb-true}
use Rattle.uc_tree.specs.Source.{Source}
use Rattle.uc_entry.specs.declared.entry.Entry.{Entry}
use Rattle.uc_entry.specs.declared.entry.Options.{Options}
use Rattle.uc_entry.specs.declared.request.Answer.{Answer}
use Rattle.uc_entry.specs.declared.request.Asked.{Asked}
use Rattle.uc_entry.specs.declared.request.Request.{Request}
use Rattle.uc_entry.specs.declared.request.Request.TheVariants as ask
use Rattle.uc_entry.specs.Keyed.{find}
use Rattle.uc_acts.specs.Journal.{Journal, held, is_over, own_object}
use Rattle.uc_acts.specs.Known.{spawns, has_ended, takes_out}
use Rattle.uc_acts.specs.Queues.{running}
use Rattle.uc_acts.specs.Acts.{act, dispatch, lone_limit}
use Rattle.uc_acts.specs.KernelRuns.{InRange, KernelRuns}
use Rattle.uc_acts.proofs.Bounds.{over_limit}
use Rattle.uc_machine.specs.declared.exec.Home.TheVariants as home
use Rattle.uc_machine.specs.Pieces.{Members, State, Step, Goes, Ticks, Asks}
use Rattle.uc_machine.specs.Quiet.{quiet, no_members}
use Rattle.uc_machine.specs.Answering.{answered, child_main, child_of}
use Rattle.uc_machine.specs.Rides as rides
use Rattle.uc_machine.specs.Rides.{Rides}
use Rattle.uc_meaning.specs.Runs.{World, May, Runs, first_world, world_after, bare, with_home, hand_of, drawn, or_else, gives, no_room, acts, begun, more}
use Rattle.uc_state_laws.specs.Fitting.{RunFits}
use Rattle.uc_state_laws.proofs.Alive.{law_alive}
use Rattle.uc_state_laws.proofs.Makes.{law_ends}
use Rattle.uc_state_laws.proofs.Others.{run_rests}
use Rattle.uc_state_laws.specs.NewClusters.{IsLast}
use Rattle.uc_answer_laws.proofs.Told.{no_both}
use Rattle.uc_state_laws.specs.RoomRuns as runs
use Rattle.uc_state_laws.specs.RoomRuns.{Leads, Comes}
use Rattle.uc_state_laws.specs.ThereStates.{SourceBegins}
use Rattle.uc_state_laws.specs.Opens.{RideMeets, MayMeet, RunMeets, LeadsMeet}
use Rattle.uc_life_laws.specs.Things.{Few}
use Rattle.uc_life_laws.specs.LifeStates.{HandBy}
use Rattle.uc_life_laws.proofs.HomedCells.{either}
use Rattle.uc_life_laws.proofs.Parked.{found_hand}
use Rattle.uc_life_laws.proofs.Spawning.{ended_before}
use Rattle.uc_homed_ends.specs.BoundHomes.{is_last, BoundEx, BoundMembers, BoundEnv, BoundState, GoodStep}
use Rattle.uc_homed_ends.specs.BoundLaws.{Finds}
use Rattle.uc_homed_ends.proofs.BoundWalk.{law_bound_steps}

module _ (few : Few) (source : Source) where
  home_bound : (o : ℕ) (x : Option Members) (hand : List (ℕ × Members)) → BoundMembers few (home.Object o) x → HandBy (BoundEx few) hand → HandBy (BoundEx few) (with_home o x hand)
  home_bound o None hand h k = k
  home_bound o (Some m) hand h k = (h, k)

  pub hand_bound : (os : List ℕ) (members : ℕ → Option Members) → ((o : ℕ) → BoundMembers few (home.Object o) (members o)) → HandBy (BoundEx few) (hand_of os members)
  hand_bound [] members h = tt
  hand_bound (o ∷ os) members h = home_bound o (members o) (hand_of os members) (h o) (hand_bound os members h)

  pub or_bound : (o : ℕ) (x y : Option Members) → BoundMembers few (home.Object o) x → BoundMembers few (home.Object o) y → BoundMembers few (home.Object o) (or_else x y)
  or_bound o None y h k = k
  or_bound o (Some m) y h k = h

  bare_bound : (s : State) → BoundState few source false s → BoundState few source false (bare s)
  bare_bound s h = record { frames = h.frames; frame = h.frame; run = h.run; callers = h.callers; env = record { house = h.env.house; hand = tt } }

  -- tasks at rest that have not ended, and what is at home in objects
  pub record WorldBound (j : Journal) (w : World) : Type 0 where
    pub rests : (t : ℕ) → has_ended t j ≡ false → BoundState few source false (w.tasks t)
    pub members : (o : ℕ) → BoundMembers few (home.Object o) (w.homes o)

  -- behind a request
  abbrev AskedBound : Request → State → Type 0
  AskedBound r s = BoundState few source (is_last r) s ⊎ (IsLast r × BoundEnv few s.env)

  asked_state : (r : Request) (s : State) → (r ≡ ask.End → ⊥) → ((n : ℕ) → r ≡ ask.Fault n → ⊥) → AskedBound r s → BoundState few source false s
  asked_state ask.End s e f h = absurd (e refl)
  asked_state (ask.Fault n) s e f h = absurd (f n refl)
  asked_state r s e f (inl h) = h
  asked_state r s e f (inr h) = absurd h.0

  asked_env : (r : Request) (s : State) → AskedBound r s → BoundEnv few s.env
  asked_env r s (inl h) = h.env
  asked_env r s (inr h) = h.1

  module _ (known : SourceBegins source) where
    -- rides

    step : {s : State} (x : Step) → quiet source s ≡ x → Finds few source s → BoundState few source true s → GoodStep few source x
    step {s} x e f h = subst (GoodStep few source) e (law_bound_steps.steps few source known s h f)

    -- a ride that ends in a request, or as its slice is over
    ridden : {s u : State} {q k : ℕ} {a : Asked} (d : Rides source s q u k a) → RideMeets (Finds few source) source s q u k a d → (q ≡ 0 → BoundState few source false s) → BoundState few source true s → AskedBound a.request u × RideMeets (BoundState few source true) source s q u k a d
    ridden rides.slices f rest h = (inl (rest refl), tt)
    ridden (rides.goes_on {s} {t} e r) f rest h = let k = ridden r f.1 (λ q. absurd (cc)) (step (Goes t) e f.0 h) in (k.0, (h, k.1))
    ridden (rides.ticks {s} {t} e r) f rest h =
        let x : BoundState few source false t = step (Ticks t) e f.0 h in
        let k = ridden r f.1 (λ q. x) (law_bound_steps.goes_on few source t x) in
        (k.0, (h, k.1))
    ridden (rides.asks {s} {t} {q} {r} e) f rest h = (step (Asks r t) e f h, h)

    led : {s u : State} (l : Leads source s u) → LeadsMeet (Finds few source) source s u l → BoundState few source true s → BoundState few source true u × LeadsMeet (BoundState few source true) source s u l
    led runs.stays f h = (h, tt)
    led (runs.goes {s} {u} e l) f h = let k = led l f.1 (step (Goes u) e f.0 h) in (k.0, (h, k.1))
    led (runs.ticks {s} {u} e l) f h = let k = led l f.1 (law_bound_steps.goes_on few source u (step (Ticks u) e f.0 h)) in (k.0, (h, k.1))

    begun_bound : (j : Journal) → WorldBound j (first_world source)
    begun_bound j = record {
      rests = λ u e. law_bound_steps.begins few source known source.main 0;
      members = λ o. either (BoundMembers few (home.Object o)) (o == 0) (Some no_members) None tt tt;
    }

    module _ (input : List ℕ) (opts : Options) (range : InRange opts) where
      start : {j : Journal} {w : World} → KernelRuns opts source.sites input j → is_over j ≡ false → WorldBound j w → (p t : ℕ) (given : Answer) → running p j ≡ t ∷ [] → BoundState few source false (answered source given (drawn j w t))
      start {j} {w} kernel on h p t given runs =
          let x = h.rests t (law_alive opts source.sites input j kernel on p t runs) in
          law_bound_steps.told few source given (drawn j w t) (record { frames = x.frames; frame = x.frame; run = x.run; callers = x.callers; env = record { house = x.env.house; hand = hand_bound (held t j) w.homes h.members } })

      abbrev entries : Journal → ℕ → ℕ → ℕ → Asked → List Entry
      entries j p t k asked = act opts source.sites input j p t k asked

      -- after an act whose ride ended in this state
      acted : {j : Journal} {w : World} → WorldBound j w → (p t k : ℕ) (s : State) (asked : Asked) → is_over (j ++ entries j p t k asked) ≡ false → AskedBound asked.request s → WorldBound (j ++ entries j p t k asked) (world_after source (entries j p t k asked) w t s)
      acted {j} {w} h p t k s asked still ended = record {
        rests = after;
        members = λ o. either (BoundMembers few (home.Object o)) (takes_out (entries j p t k asked) o) None (or_else (find o s.env.hand) (w.homes o)) tt (or_bound o (find o s.env.hand) (w.homes o) (found_hand (BoundEx few) o s.env.hand (asked_env asked.request s ended).hand) (h.members o));
      }
        where
          after : (u : ℕ) → has_ended u (j ++ (entries j p t k asked)) ≡ false → BoundState few source false ((world_after source (entries j p t k asked) w t s).tasks u)
          after u lives = by (u == t) refl
            where
              own : u ≡ t → BoundState few source false (bare s)
              own q =
                  let x = law_ends opts source.sites input j p t k asked still (subst (λ v. has_ended v (j ++ (entries j p t k asked)) ≡ false) q lives) in
                  bare_bound s (asked_state asked.request s x.no_end x.no_fault ended)

              by : (b : Bool) → (u == t) ≡ b → BoundState few source false (if b then bare s else if spawns (entries j p t k asked) u then child_of source (own_object u (entries j p t k asked)) s else w.tasks u)
              by true e = own (eqb-true u t e)
              by false e = either (BoundState few source false) (spawns (entries j p t k asked) u) (child_of source (own_object u (entries j p t k asked)) s) (w.tasks u) (law_bound_steps.begins few source known (child_main source s.run.control) (own_object u (entries j p t k asked))) (h.rests u (ended_before u j (entries j p t k asked) lives))

      may_rest : {j : Journal} {w : World} {a : List Entry} {x : World} → KernelRuns opts source.sites input j → is_over j ≡ false → WorldBound j w → (m : May source opts input j w a x) → MayMeet (Finds few source) source opts input j w a x m → is_over (j ++ a) ≡ false → WorldBound (j ++ a) x
      may_rest {j} kernel on h (gives p t s le) f still = record { rests = λ u e. h.rests u (ended_before u j (dispatch p t ∷ []) e); members = h.members }
      may_rest {j} kernel on h (no_room p t s le) f still = no_both (is_over (j ++ lone_limit ∷ [])) (over_limit j 0 0) still
      may_rest {j} {w} kernel on h (acts p t k s asked d) f still =
          let x = start kernel on h p t d.given d.runs in
          acted h p t k s asked still (ridden d.rides f (λ q. x) (law_bound_steps.goes_on few source _ x)).0

      may_meet : {j : Journal} {w : World} {a : List Entry} {x : World} → KernelRuns opts source.sites input j → is_over j ≡ false → WorldBound j w → (m : May source opts input j w a x) → MayMeet (Finds few source) source opts input j w a x m → MayMeet (BoundState few source true) source opts input j w a x m
      may_meet kernel on h (gives p t s le) f = tt
      may_meet kernel on h (no_room p t s le) f = tt
      may_meet {j} {w} kernel on h (acts p t k s asked d) f =
          let x = start kernel on h p t d.given d.runs in
          (ridden d.rides f (λ q. x) (law_bound_steps.goes_on few source _ x)).1

      pub run_bound : {j : Journal} {w : World} (r : Runs source input opts j w) → RunFits source input opts j w r → RunMeets (Finds few source) source input opts j w r → (is_over j ≡ false → WorldBound j w) × RunMeets (BoundState few source true) source input opts j w r
      run_bound {j} begun f m = ((λ on. begun_bound j), tt)
      run_bound (more {j} {w} r on x) f m =
          let k = run_bound r f.0 m.0 in
          let kernel = (run_rests source input opts range r f.0 on).kernel in (
            (λ still. may_rest kernel on (k.0 on) x m.1 still),
            (k.1, may_meet kernel on (k.0 on) x m.1),
          )

      pub leads_bound : {j : Journal} {w : World} (r : Runs source input opts j w) → RunFits source input opts j w r → RunMeets (Finds few source) source input opts j w r → is_over j ≡ false → (t : ℕ) (s : State) (c : Comes source j w t s) → LeadsMeet (Finds few source) source (answered source c.given (drawn j w t)) s c.leads → BoundState few source true s × LeadsMeet (BoundState few source true) source (answered source c.given (drawn j w t)) s c.leads
      leads_bound {j} {w} r f m on t s c l =
          led c.leads l (law_bound_steps.goes_on few source _ (start (run_rests source input opts range r f on).kernel on ((run_bound r f m).0 on) c.processor t c.given c.runs))
