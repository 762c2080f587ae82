-- In each run all that are there were not forgotten, and are no main of a task that has ended.
use Rattle.std.proofs.Common.{◌≡◌, ℕ, ◌==◌, ◌<◌, ◌≤◌, Bool, true, false, List, [], ◌∷◌, ◌++◌, Option, Some, None, refl, sym, ap, ◌∙◌, subst, arith, inl, inr, ⊎_elim, ◌||◌}
use Rattle.std.specs.Prelude.{if◌then◌else◌, nat_eq, pos}
use Rattle.std.proofs.lemmas.Bool.{eqb-true, eq-eqb, cases_lt}
use Rattle.uc_tree.specs.Source.{Source, Routine, routine_of}
use Rattle.uc_entry.specs.declared.entry.Entry.{Entry}
use Rattle.uc_entry.specs.declared.entry.Options.{Options}
use Rattle.uc_entry.specs.declared.request.Asked.{Asked}
use Rattle.uc_entry.specs.declared.request.Request.{Request}
use Rattle.uc_entry.specs.declared.request.Request.TheVariants as ask
use Rattle.uc_entry.specs.Keyed.{find}
use Rattle.uc_acts.specs.Journal.{Journal, held, is_over, own_object, asking, cost}
use Rattle.uc_entry.specs.declared.entry.EntryKind.TheVariants as kind
use Rattle.uc_acts.specs.Known.{has, has_ended, task_count, spawns, takes_out}
use Rattle.uc_acts.specs.Serves.{left}
use Rattle.uc_acts.specs.Acts.{act, row, dispatch, lone_limit}
use Rattle.uc_acts.specs.KernelRuns.{InRange, IsAt, Fits}
use Rattle.uc_acts.proofs.Held.{law_held as law_of_hands}
use Rattle.uc_acts.proofs.Living.{going_row}
use Rattle.uc_acts.proofs.Bounds.{over_limit}
use Rattle.uc_acts.proofs.Law.{good_whole, lawful_act}
use Rattle.uc_acts.proofs.SoundLemmas.{tasks_push}
use Rattle.uc_machine.specs.declared.exec.Exec.{Exec}
use Rattle.uc_machine.specs.declared.exec.Home.{Home}
use Rattle.uc_machine.specs.declared.exec.Home.TheVariants as home
use Rattle.uc_machine.specs.Executions.{Execution, home_eq, exec_eq, members_at, slot_in}
use Rattle.uc_machine.specs.Pieces.{Value, Todo, State, Env, Members, Asks}
use Rattle.uc_machine.specs.Quiet.{quiet, first_state}
use Rattle.uc_machine.specs.Answering.{answered, child_main, child_of}
use Rattle.uc_machine.specs.Rides.{Rides, slices, goes_on, ticks, asks}
use Rattle.uc_meaning.specs.Runs.{World, Runs, AsksIn, gives, no_room, acts, begun, more, with_home, hand_of, drawn, bare, or_else, world_after}
use Rattle.uc_step_laws.specs.Holding.{StepHolding}
use Rattle.uc_step_laws.proofs.Walk as holding
use Rattle.uc_answer_laws.specs.Suiting.{asked_form, form_of_request}
use Rattle.uc_answer_laws.proofs.Runs.{law_suiting}
use Rattle.uc_state_laws.specs.Fitting.{RunFits}
use Rattle.uc_state_laws.specs.Opens.{RideMeets, RunMeets}
use Rattle.uc_state_laws.proofs.Alive.{law_alive}
use Rattle.uc_state_laws.proofs.Makes.{law_ends}
use Rattle.uc_state_laws.proofs.Lists.{Once}
use Rattle.uc_state_laws.proofs.Others.{RunRests, run_rests, may_ask, asking as asks_with}
use Rattle.uc_state_laws.proofs.DeepWorlds.{DeepWorld, deep_run, ended_before, spawns_none, spawned_by}
use Rattle.uc_name_laws.specs.Below.{Ex, IsBelow, ParkedNamed, EnvNamed, slot_at}
use Rattle.uc_name_laws.specs.NameSteps as names
use Rattle.uc_name_laws.specs.NameSteps.{Named, StepNamed, Grows}
use Rattle.uc_name_laws.proofs.Homes.{no_both, same_home, same_exec}
use Rattle.uc_name_laws.proofs.Values.{below_more}
use Rattle.uc_name_laws.proofs.Walk.{walk}
use Rattle.uc_life_laws.specs.Held.{HeldAsked, HeldAsk}
use Rattle.uc_life_laws.specs.Knowing.{main_of}
use Rattle.uc_life_laws.specs.LifeStates.{SlotBy, ParkedBy, HandBy, MembersBy, EnvBy}
use Rattle.uc_life_laws.specs.OwnNames.{at_hand, HasOwnName, IsElsewhere}
use Rattle.uc_life_laws.specs.RunningRuns.{LeavesHome, RunLeaves}
use Rattle.uc_life_laws.proofs.Cells.{either, tested}
use Rattle.uc_life_laws.proofs.Fewer.{both_members, both_env}
use Rattle.uc_life_laws.proofs.HeldLaws.{law_held}
use Rattle.uc_life_laws.proofs.NamedWorlds.{WorldNamed, vacuous, run_named, ride, start, known, found_none, after_by, after_more, named_act, own_spawn}
use Rattle.uc_life_laws.proofs.OwnNamesLemmas.{law_own_names}
use Rattle.uc_life_laws.proofs.Owned.{tasks_grow}
use Rattle.uc_life_laws.proofs.OwnRides.{Settled, start as own_start}
use Rattle.uc_life_laws.proofs.Parked.{found_hand}
use Rattle.uc_life_laws.proofs.Riding.{grows_not}
use Rattle.uc_rooted_runs.specs.MainRuns.{EndsMains}
use Rattle.uc_rooted_runs.specs.Still.{unless_there, still_behind, ride_still, still_asked, run_still, AreStill, LawStill}
use Rattle.uc_rooted_runs.proofs.Births.{no_more, none_there, named_given}
use Rattle.uc_rooted_runs.proofs.EndedTasks.{ended_by}
use Rattle.uc_rooted_runs.proofs.MainRuns.{law_mains}
use Rattle.uc_rooted_runs.proofs.OutlastNames.{grows_on}
use Rattle.uc_rooted_runs.proofs.OutlastRuns.{Riding, riding, no_fault}
use Rattle.uc_rooted_runs.proofs.StillSteps.{absent, Gone, asked_still, runs_still, env_still, step_goes, step_ticks, step_asks, below_behind, taken_here, taken_on}

-- the keys of a hand stay

pub settled_next : (source : Source) (ks : List ℕ) (s : State) → Settled ks s → StepHolding ks (quiet source s)
settled_next source ks s (inl h) = holding.law_steps.settled source ks s h
settled_next source ks s (inr h) = holding.law_steps.bound source ks s h

-- a ride

module _ (source : Source) (here : Home → Bool) (ks : List ℕ) (once : Once ks) where
  -- what goes along, as far as this is what is there
  pub record RideStill (serials : Home → ℕ) (still : Exec → Bool) (s : State) (q : ℕ) (u : State) (k : ℕ) (a : Asked) (r : Rides source s q u k a) : Type 0 where
    pub behind : Home → ℕ
    pub grows : Grows here serials behind
    pub named : Named here false behind u
    pub held : HeldAsk source absent (Gone (ride_still source still r)) a.request u
    pub below : (x : Exec) → ride_still source still r x ≡ false → IsBelow behind x
    pub mine : (x : Exec) → ride_still source still r x ≡ false → still x ≡ true → here x.home ≡ true

  ride_all : (serials : Home → ℕ) (still : Exec → Bool) {s u : State} {q k : ℕ} {a : Asked} (r : Rides source s q u k a) → Named here false serials s → Settled ks s → ((x : Exec) → still x ≡ false → IsBelow serials x) → RideMeets names.Spares source s q u k a r → RideMeets (EndsMains source) source s q u k a r → Riding source absent (Gone still) q s → RideStill serials still s q u k a r
  ride_all serials still slices n h b f g st = record {
    behind = serials;
    grows = grows_not here serials;
    named = n;
    held = st;
    below = b;
    mine = λ x e i. no_both (still x) i e;
  }
  ride_all serials still (goes_on {s} {t} e r) n h b f g st =
      let z = walk source here false serials s n (λ u. vacuous u) in
      let k = settled_next source ks s h in
      let kt = subst (StepHolding ks) e k in
      let nt : Named here false z.serials t = subst (StepNamed here false z.serials) e z.named in
      let y = ride_all z.serials (still_behind s still) r nt (inl kt) (below_behind source here ks once serials still s b n h f.0 g.0 z.serials z.grows.more) f.1 g.1 (step_goes source here ks once serials still s b n h f.0 g.0 st t e z.serials nt kt.env.keys_are) in
      record {
        behind = y.behind;
        grows = grows_on here serials z.serials y.behind z.grows y.grows;
        named = y.named;
        held = y.held;
        below = y.below;
        mine = λ x i j. taken_on source here ks once serials still s b n h f.0 g.0 x j (y.mine x i);
      }
  ride_all serials still (ticks {s} {t} {u} {q} e r) n h b f g st =
      let z = walk source here false serials s n (λ u. vacuous u) in
      let k = settled_next source ks s h in
      let nt : Named here false z.serials t = subst (StepNamed here false z.serials) e z.named in
      let y = ride_all z.serials (still_behind s still) r nt (inl (subst (StepHolding ks) e k)) (below_behind source here ks once serials still s b n h f.0 g.0 z.serials z.grows.more) f.1 g.1 (riding source absent (Gone (still_behind s still)) q t (step_ticks source here ks once serials still s b n h f.0 g.0 st t e)) in
      record {
        behind = y.behind;
        grows = grows_on here serials z.serials y.behind z.grows y.grows;
        named = y.named;
        held = y.held;
        below = y.below;
        mine = λ x i j. taken_on source here ks once serials still s b n h f.0 g.0 x j (y.mine x i);
      }
  ride_all serials still (asks {s} {t} {q} {r} e) n h b f g st =
      let z = walk source here false serials s n (λ u. vacuous u) in
      let nt : StepNamed here false z.serials (Asks r t) = subst (StepNamed here false z.serials) e z.named in
      record {
        behind = z.serials;
        grows = z.grows;
        named = nt.0;
        held = step_asks source here ks once serials still s b n h f g st r t e;
        below = below_behind source here ks once serials still s b n h f g z.serials z.grows.more;
        mine = λ x i j. taken_here source here ks once serials still s b n h f g x i j;
      }

-- a hand

module _ (P : Exec → Execution (List Todo) Value → Type 0) where
  with_told : (o : ℕ) (m : Option Members) (hand : List (ℕ × Members)) → MembersBy P (home.Object o) m → HandBy P hand → HandBy P (with_home o m hand)
  with_told o None hand h k = k
  with_told o (Some m) hand h k = (h, k)

  hand_told : (os : List ℕ) (homes : ℕ → Option Members) → ((o : ℕ) → MembersBy P (home.Object o) (homes o)) → HandBy P (hand_of os homes)
  hand_told [] homes h = tt
  hand_told (o ∷ os) homes h = with_told o (homes o) (hand_of os homes) (h o) (hand_told os homes h)

  first_told : (r : Routine) (o : ℕ) → EnvBy P (first_state r o).env
  first_told r o = record { house = (tt, tt); hand = tt }

  or_told : (o : ℕ) (z : Option Members) (w : Option Members) → MembersBy P (home.Object o) z → (z ≡ None → MembersBy P (home.Object o) w) → MembersBy P (home.Object o) (or_else z w)
  or_told o None w h f = f refl
  or_told o (Some m) w h f = h

-- as a ride begins
pub drawn_still : (source : Source) (still : Exec → Bool) (j : Journal) (w : World) (t : ℕ) → t < task_count j → has_ended t j ≡ false → AreStill still j w → HeldAsked source absent (Gone still) (asked_form t j) (drawn j w t)
drawn_still source still j w t lt alive h =
    asked_still source still (asked_form t j) (drawn j w t) (h.running t lt alive) (record { house = (h.tasks t).house; hand = hand_told (λ n y. still n ≡ true) (held t j) w.homes h.homes })

-- what is at a home is at home there
parked_home : (F : Home → Type 0) (h : Home) → F h → (ps : List (ℕ × Option Ex)) → ParkedBy (λ n x. F n.home) h ps
parked_home F h f [] = tt
parked_home F h f (p ∷ ps) = (slot p.1, parked_home F h f ps)
  where
    slot : (o : Option Ex) → SlotBy (λ n x. F n.home) (record { home = h; serial = p.0 }) o
    slot None = tt
    slot (Some x) = f

-- an execution that is there was made

parked_below : (serials : Home → ℕ) (n k : ℕ) (ps : List (ℕ × Option Ex)) (z : Option Ex) → ParkedNamed serials n ps → find k ps ≡ Some z → k < n
parked_below serials n k [] z h e = absurd (cc)
parked_below serials n k (p ∷ ps) z h e = by (nat_eq p.0 k) refl e (parked_below serials n k ps z h.2)
  where
    by : (b : Bool) → nat_eq p.0 k ≡ b → (if b then Some p.1 else find k ps) ≡ Some z → (find k ps ≡ Some z → k < n) → k < n
    by true g e ih = subst (λ i. i < n) (eqb-true p.0 k g) h.0
    by false g e ih = ih e

slot_below : (serials : Home → ℕ) (here : Home → Bool) (n : Exec) (z : Option Ex) (e : Env) → EnvNamed serials here e → slot_at n e ≡ Some z → IsBelow serials n
slot_below serials here n z e h i = by (members_at n.home e) refl i
  where
    by : (o : Option Members) → members_at n.home e ≡ o → slot_in n.serial o ≡ Some z → IsBelow serials n
    by None g i = absurd (cc)
    by (Some m) g i =
        let y = h.members_named n.home m g in
        subst (λ k. n.serial < k) y.serial_is (parked_below serials m.serial n.serial m.parked z y.parked_named i)

-- an act

module _ (source : Source) (input : List ℕ) (opts : Options) (range : InRange opts) where
  module _ {j : Journal} {w : World} (rests : RunRests source input opts j w) (going : is_over j ≡ false) (deep : DeepWorld j w) (serials : Home → ℕ) (x : WorldNamed serials j w) (still : Exec → Bool) (below : (y : Exec) → still y ≡ false → IsBelow serials y) (h : AreStill still j w) (p t n : ℕ) (s : State) (q : Asked) (d : AsksIn source opts j w p t n s q) (f : Fits opts source.sites j t q.request) (on : is_over (j ++ act opts source.sites input j p t n q) ≡ false) (spares : RideMeets names.Spares source (answered source d.given (drawn j w t)) (left opts j t) s n q d.rides) (ends : RideMeets (EndsMains source) source (answered source d.given (drawn j w t)) (left opts j t) s n q d.rides) (leaves : LeavesHome (own_object t j) q.request s.env) (apart : IsElsewhere j w t) (name : HasOwnName (j ++ act opts source.sites input j p t n q) (world_after source (act opts source.sites input j p t n q) w t s) t) where
    abbrev a : List Entry
    a = act opts source.sites input j p t n q

    abbrev After : Exec → Bool
    After = ride_still source still d.rides

    lt : t < task_count j
    lt = known source input opts range rests going serials x p t d.runs

    alive : has_ended t j ≡ false
    alive = law_alive opts source.sites input j rests.kernel going p t d.runs

    told : RideStill source (at_hand j w t) (own_start source input opts range rests going t d.given d.told).hand (own_start source input opts range rests going t d.given d.told).once serials still (answered source d.given (drawn j w t)) (left opts j t) s n q d.rides
    told =
        let e = own_start source input opts range rests going t d.given d.told in
        ride_all source (at_hand j w t) e.hand e.once serials still d.rides (start source input opts range rests going serials x p t d.runs d.given d.told) e.settled below spares ends (riding source absent (Gone still) (left opts j t) (answered source d.given (drawn j w t)) (law_held.told source absent (Gone still) (asked_form t j) d.given (drawn j w t) (law_suiting opts source.sites input j rests.kernel going t d.given d.told) (drawn_still source still j w t lt alive h)))

    -- nobody has asked for a fault
    faultless : (m : ℕ) → q.request ≡ ask.Fault m → ⊥
    faultless m e = by (has_ended t (j ++ act opts source.sites input j p t n q)) refl
      where
        by : (b : Bool) → has_ended t (j ++ act opts source.sites input j p t n q) ≡ b → ⊥
        by true i = ⊎_elim (λ g. no_both (has_ended t j) g alive) (λ g. let same : ask.Fault m ≡ ask.End = sym e ∙ g.asks in absurd (cc)) (ended_by t opts source.sites input j p t n q on i)
        by false i = (law_ends opts source.sites input j p t n q on i).no_fault m e

    behind : HeldAsked source absent (Gone (ride_still source still d.rides)) (form_of_request q.request) s
    behind = no_fault source absent (Gone (ride_still source still d.rides)) q.request s faultless told.held

    running_still : ride_still source still d.rides s.env.exec ≡ true
    running_still = runs_still source (ride_still source still d.rides) (form_of_request q.request) s behind

    here_still : EnvBy (λ m y. ride_still source still d.rides m ≡ true) s.env
    here_still = env_still source (ride_still source still d.rides) s.env behind.env

    -- as many as the names of the world tell
    still_below : (y : Exec) → ride_still source still d.rides y ≡ false → IsBelow (ride source input opts range rests going deep serials x p t n s q d f on).now y
    still_below y e = below_more told.behind _ (no_more source input opts range rests going deep serials x p t n s q d f on told.behind told.grows told.named) y (told.below y e)

    -- what is not at hand is there as before
    keeps : (m : Exec) → at_hand j w t m.home ≡ false → still m ≡ true → ride_still source still d.rides m ≡ true
    keeps m away g = by (ride_still source still d.rides m) refl
      where
        by : (b : Bool) → ride_still source still d.rides m ≡ b → ride_still source still d.rides m ≡ true
        by true e = e
        by false e = no_both (at_hand j w t m.home) (told.mine m e g) away

    abbrev Away : Exec → Execution (List Todo) Value → Type 0
    Away m y = at_hand j w t m.home ≡ false

    abbrev Before : Exec → Execution (List Todo) Value → Type 0
    Before m y = still m ≡ true

    abbrev Now : Exec → Execution (List Todo) Value → Type 0
    Now m y = ride_still source still d.rides m ≡ true

    old_env : (v : ℕ) → (v == t) ≡ false → EnvBy Now (w.tasks v).env
    old_env v e = both_env Away Before Now (λ m y b c. keeps m b c) (w.tasks v).env (apart.tasks v e) (h.tasks v)

    absent_hand : (o : ℕ) → find o s.env.hand ≡ None → has (held t j) o ≡ false
    absent_hand o e = sym (ap (λ l. has l o) (asks_with source input opts range rests going p t n s q d).hand) ∙ found_none o s.env.hand e

    old_home : (o : ℕ) → find o s.env.hand ≡ None → MembersBy Now (home.Object o) (w.homes o)
    old_home o e = both_members Away Before Now (λ m y b c. keeps m b c) (home.Object o) (w.homes o) (apart.homes o (absent_hand o e)) (h.homes o)

    -- the main that is spawned was not made before
    main_still : (o : ℕ) → q.request ≡ ask.Spawn o → ride_still source still d.rides (main_of o) ≡ true
    main_still o e = by (ride_still source still d.rides (main_of o)) refl
      where
        by : (b : Bool) → ride_still source still d.rides (main_of o) ≡ b → ride_still source still d.rides (main_of o) ≡ true
        by true g = g
        by false g =
            let b : IsBelow (ride source input opts range rests going deep serials x p t n s q d f on).now (main_of o) = still_below (main_of o) g in
            let none = none_there source input opts range rests going deep serials x p t n s q d f on o e in
            absurd (omega (arith, b, none))

    abbrev Told : State → Type 0
    Told v = ride_still source still d.rides v.env.exec ≡ true

    -- behind the act, but for its end
    running_after : (u : ℕ) → u < task_count (j ++ act opts source.sites input j p t n q) → has_ended u (j ++ act opts source.sites input j p t n q) ≡ false → ride_still source still d.rides ((world_after source (act opts source.sites input j p t n q) w t s).tasks u).env.exec ≡ true
    running_after u l i = by (u == t) refl
      where
        old : (u == t) ≡ false → u < task_count j → Told ((world_after source (act opts source.sites input j p t n q) w t s).tasks u)
        old e b =
            let none : spawns a u ≡ false = spawns_none j a u (lawful_act opts source.sites input j p t n q (good_whole opts source.sites input rests.kernel).sound (may_ask source input opts range d f)) b in
            let state : (world_after source a w t s).tasks u ≡ w.tasks u = ap (λ b. if b then bare s else if spawns a u then child_of source (own_object u a) s else w.tasks u) e ∙ ap (λ b. if b then child_of source (own_object u a) s else w.tasks u) none in
            subst Told (sym state) (keeps (w.tasks u).env.exec (apart.running u b e) (h.running u b (ended_before j (act opts source.sites input j p t n q) u i)))

        new : (u == t) ≡ false → task_count j ≤ u → Told ((world_after source (act opts source.sites input j p t n q) w t s).tasks u)
        new e le =
            let b = spawned_by source input opts range rests going deep p t n s q d f on u le l in
            let spawns_it : spawns a u ≡ true = ap (λ l. spawns l u) b.entries ∙ ap (λ c. c || false) b.test in
            let own : own_object u a ≡ b.object = ap (own_object u) b.entries ∙ own_spawn p t (cost n q.line) b.object (task_count j) u b.test in
            let state : (world_after source a w t s).tasks u ≡ child_of source b.object s = ap (λ b. if b then bare s else if spawns a u then child_of source (own_object u a) s else w.tasks u) e ∙ (ap (λ b. if b then child_of source (own_object u a) s else w.tasks u) spawns_it ∙ ap (λ o. child_of source o s) own) in
            subst Told (sym state) (main_still b.object b.request)

        by : (b : Bool) → (u == t) ≡ b → Told ((world_after source (act opts source.sites input j p t n q) w t s).tasks u)
        by true e =
            let state : (world_after source a w t s).tasks u ≡ bare s = ap (λ b. if b then bare s else if spawns a u then child_of source (own_object u a) s else w.tasks u) e in
            subst Told (sym state) running_still
        by false e = ⊎_elim (λ b. old e b) (λ le. new e le) (cases_lt u (task_count j))

    ridden : AreStill (ride_still source still d.rides) (j ++ act opts source.sites input j p t n q) (world_after source (act opts source.sites input j p t n q) w t s)
    ridden = record {
      running = running_after;
      tasks = λ u. tested (λ (v : State). EnvBy Now v.env) (u == t) (bare s) _ (λ e. record { house = here_still.house; hand = tt }) (λ e. either (λ (v : State). EnvBy Now v.env) (spawns a u) (child_of source (own_object u a) s) (w.tasks u) (first_told Now (routine_of source (child_main source s.run.control)) (own_object u a)) (old_env u e));
      homes = λ o. either (MembersBy Now (home.Object o)) (takes_out a o) None _ tt (or_told Now o (find o s.env.hand) (w.homes o) (found_hand Now o s.env.hand here_still.hand) (old_home o));
    }

    -- the main that has ended is there no more
    own_state : (world_after source (act opts source.sites input j p t n q) w t s).tasks t ≡ bare s
    own_state = ap (λ b. if b then bare s else if spawns a t then child_of source (own_object t a) s else w.tasks t) (eq-eqb t t refl)

    own_exec : ((world_after source (act opts source.sites input j p t n q) w t s).tasks t).env.exec ≡ s.env.exec
    own_exec = ap (λ (v : State). v.env.exec) own_state

    ended : q.request ≡ ask.End → has_ended t (j ++ act opts source.sites input j p t n q) ≡ false → ⊥
    ended e i = (law_ends opts source.sites input j p t n q on i).no_end e

    other_still : (m : Exec) → (m ≡ s.env.exec → ⊥) → ride_still source still d.rides m ≡ true → (if exec_eq m s.env.exec then false else ride_still source still d.rides m) ≡ true
    other_still m f e = by (exec_eq m s.env.exec) refl
      where
        by : (b : Bool) → exec_eq m s.env.exec ≡ b → (if b then false else ride_still source still d.rides m) ≡ true
        by true g = absurd (f (same_exec m s.env.exec g))
        by false g = e

    abbrev Own : Exec → Execution (List Todo) Value → Type 0
    Own m y = m ≡ ((world_after source (act opts source.sites input j p t n q) w t s).tasks t).env.exec → ⊥

    abbrev Last : Exec → Execution (List Todo) Value → Type 0
    Last m y = (if exec_eq m s.env.exec then false else ride_still source still d.rides m) ≡ true

    -- what is at home in an object that goes is there no more

    abbrev Off : ℕ → Exec → Execution (List Todo) Value → Type 0
    Off o m y = home_eq m.home (home.Object o) ≡ false

    abbrev Left : ℕ → Exec → Execution (List Todo) Value → Type 0
    Left o m y = (if home_eq m.home (home.Object o) then unless_there (slot_at m s.env) (ride_still source still d.rides m) else ride_still source still d.rides m) ≡ true

    home_still : (o : ℕ) (m : Exec) → home_eq m.home (home.Object o) ≡ false → ride_still source still d.rides m ≡ true → (if home_eq m.home (home.Object o) then unless_there (slot_at m s.env) (ride_still source still d.rides m) else ride_still source still d.rides m) ≡ true
    home_still o m f e = ap (λ (b : Bool). if b then unless_there (slot_at m s.env) (ride_still source still d.rides m) else ride_still source still d.rides m) f ∙ e

    gone_at_hand : (o : ℕ) → q.request ≡ ask.Gone o → at_hand j w t (home.Object o) ≡ true
    gone_at_hand o e = let at : IsAt t o j = subst (Fits opts source.sites j t) e f in (law_of_hands j).inside t o ∙ at.inside

    -- who is not at hand is not at home there
    away_off : (o : ℕ) → q.request ≡ ask.Gone o → (m : Exec) → at_hand j w t m.home ≡ false → home_eq m.home (home.Object o) ≡ false
    away_off o e m away = by (home_eq m.home (home.Object o)) refl
      where
        by : (b : Bool) → home_eq m.home (home.Object o) ≡ b → home_eq m.home (home.Object o) ≡ false
        by true g = no_both (at_hand j w t m.home) (ap (at_hand j w t) (same_home m.home (home.Object o) g) ∙ gone_at_hand o e) away
        by false g = g

    own_off : (o : ℕ) → q.request ≡ ask.Gone o → home_eq s.env.exec.home (home.Object o) ≡ false
    own_off o e = subst (λ r. LeavesHome (own_object t j) r s.env) e leaves

    running_off : (o : ℕ) → q.request ≡ ask.Gone o → (u : ℕ) → u < task_count (j ++ act opts source.sites input j p t n q) → home_eq ((world_after source (act opts source.sites input j p t n q) w t s).tasks u).env.exec.home (home.Object o) ≡ false
    running_off o e u l =
        tested (λ (v : State). home_eq v.env.exec.home (home.Object o) ≡ false) (u == t) (bare s) _ (λ g. own_off o e) (λ g. tested (λ (v : State). home_eq v.env.exec.home (home.Object o) ≡ false) (spawns a u) (child_of source (own_object u a) s) (w.tasks u) (λ h. refl) (λ h. old g h))
      where
        old : (u == t) ≡ false → spawns a u ≡ false → home_eq (w.tasks u).env.exec.home (home.Object o) ≡ false
        old g h = ⊎_elim (λ b. away_off o e (w.tasks u).env.exec (apart.running u b g)) (λ le. let b = spawned_by source input opts range rests going deep p t n s q d f on u le l in no_both (spawns a u) (ap (λ l. spawns l u) b.entries ∙ ap (λ c. c || false) b.test) h) (cases_lt u (task_count j))

    tasks_off : (o : ℕ) → q.request ≡ ask.Gone o → (u : ℕ) → EnvBy (Off o) ((world_after source (act opts source.sites input j p t n q) w t s).tasks u).env
    tasks_off o e u =
        tested (λ (v : State). EnvBy (Off o) v.env) (u == t) (bare s) _ (λ g. record { house = parked_home (λ h. home_eq h (home.Object o) ≡ false) (home.Task s.env.own) refl s.env.house.parked; hand = tt }) (λ g. either (λ (v : State). EnvBy (Off o) v.env) (spawns a u) (child_of source (own_object u a) s) (w.tasks u) (first_told (Off o) (routine_of source (child_main source s.run.control)) (own_object u a)) (both_env Away Away (Off o) (λ m y b c. away_off o e m b) (w.tasks u).env (apart.tasks u g) (apart.tasks u g)))

    homes_still : (o : ℕ) → q.request ≡ ask.Gone o → (k : ℕ) → MembersBy (Left o) (home.Object k) ((world_after source (act opts source.sites input j p t n q) w t s).homes k)
    homes_still o e k = by (nat_eq k o) refl
      where
        is : act opts source.sites input j p t n q ≡ asking kind.Gone p t (cost n q.line) o (pos 0) (pos 0) ∷ []
        is = (going_row opts source.sites input j p t n q on).0 ∙ ap (row opts source.sites input j p t (cost n q.line) q.line) e

        out : nat_eq k o ≡ true → takes_out (act opts source.sites input j p t n q) k ≡ true
        out g = ap (λ l. takes_out l k) is ∙ ap (λ c. c || false) g

        none : (b : Bool) → b ≡ true → (z : Option Members) → MembersBy (Left o) (home.Object k) (if b then None else z)
        none true g z = tt
        none false g z = absurd (cc)

        off : nat_eq k o ≡ false → (m : Option Members) → MembersBy (Off o) (home.Object k) m
        off g None = tt
        off g (Some m) = parked_home (λ h. home_eq h (home.Object o) ≡ false) (home.Object k) g m.parked

        by : (b : Bool) → nat_eq k o ≡ b → MembersBy (Left o) (home.Object k) ((world_after source (act opts source.sites input j p t n q) w t s).homes k)
        by true g = none (takes_out a k) (out g) _
        by false g = both_members (Off o) Now (Left o) (λ m y b c. home_still o m b c) (home.Object k) ((world_after source (act opts source.sites input j p t n q) w t s).homes k) (off g _) (ridden.homes k)

    pub act_still : (r : Request) → q.request ≡ r → AreStill (still_asked r s (ride_still source still d.rides)) (j ++ act opts source.sites input j p t n q) (world_after source (act opts source.sites input j p t n q) w t s)
    act_still ask.End e = record {
      running = λ u l i. other_still _ (λ g. let same : u ≡ t = name.running u l (g ∙ sym own_exec) in ended e (subst (λ v. has_ended v (j ++ act opts source.sites input j p t n q) ≡ false) same i)) (ridden.running u l i);
      tasks = λ u. both_env Own Now Last (λ m y b c. other_still m (λ g. b (g ∙ sym own_exec)) c) ((world_after source (act opts source.sites input j p t n q) w t s).tasks u).env (name.tasks u) (ridden.tasks u);
      homes = λ o. both_members Own Now Last (λ m y b c. other_still m (λ g. b (g ∙ sym own_exec)) c) (home.Object o) ((world_after source (act opts source.sites input j p t n q) w t s).homes o) (name.homes o) (ridden.homes o);
    }
    act_still (ask.Gone o) e = record {
      running = λ u l i. home_still o _ (running_off o e u l) (ridden.running u l i);
      tasks = λ u. both_env (Off o) Now (Left o) (λ m y b c. home_still o m b c) ((world_after source (act opts source.sites input j p t n q) w t s).tasks u).env (tasks_off o e u) (ridden.tasks u);
      homes = homes_still o e;
    }
    act_still r e = ridden

    asked_below : (r : Request) (y : Exec) → still_asked r s (ride_still source still d.rides) y ≡ false → IsBelow (ride source input opts range rests going deep serials x p t n s q d f on).now y
    asked_below ask.End y e = by (exec_eq y s.env.exec) refl e
      where
        by : (b : Bool) → exec_eq y s.env.exec ≡ b → (if b then false else ride_still source still d.rides y) ≡ false → IsBelow (ride source input opts range rests going deep serials x p t n s q d f on).now y
        by true g e = subst (IsBelow (ride source input opts range rests going deep serials x p t n s q d f on).now) (sym (same_exec y s.env.exec g)) (ride source input opts range rests going deep serials x p t n s q d f on).named.names.env_named.exec_below
        by false g e = still_below y e
    asked_below (ask.Gone o) y e = by (home_eq y.home (home.Object o)) refl (slot_at y s.env) refl e
      where
        by : (b : Bool) → home_eq y.home (home.Object o) ≡ b → (z : Option (Option Ex)) → slot_at y s.env ≡ z → (if b then unless_there z (ride_still source still d.rides y) else ride_still source still d.rides y) ≡ false → IsBelow (ride source input opts range rests going deep serials x p t n s q d f on).now y
        by true g None i e = still_below y e
        by true g (Some z) i e = slot_below _ (at_hand j w t) y z s.env (ride source input opts range rests going deep serials x p t n s q d f on).named.names.env_named i
        by false g z i e = still_below y e
    asked_below r y e = still_below y e

    pub act_below : (y : Exec) → still_asked q.request s (ride_still source still d.rides) y ≡ false → IsBelow (after_by q.request (ride source input opts range rests going deep serials x p t n s q d f on).now) y
    act_below y e = below_more _ (after_by q.request (ride source input opts range rests going deep serials x p t n s q d f on).now) (after_more q.request (ride source input opts range rests going deep serials x p t n s q d f on).now) y (asked_below q.request y e)

  -- a run

  pub record RunStill {j : Journal} {w : World} (r : Runs source input opts j w) : Type 0 where
    pub serials : Home → ℕ
    pub world : WorldNamed serials j w
    pub below : (y : Exec) → run_still source input opts r y ≡ false → IsBelow serials y
    pub there : AreStill (run_still source input opts r) j w

  pub run_told : {j : Journal} {w : World} (r : Runs source input opts j w) → RunFits source input opts j w r → is_over j ≡ false → RunLeaves source input opts j w r → RunMeets names.Spares source input opts j w r → RunMeets (EndsMains source) source input opts j w r → RunStill r
  run_told begun f on l g m =
      let x = run_named source input opts range begun f on in
      record {
        serials = x.serials;
        world = x.world;
        below = λ y e. absurd (cc);
        there = record {
          running = λ u lt i. refl;
          tasks = λ u. first_told (λ n y. true ≡ true) (routine_of source source.main) 0;
          homes = λ o. either (MembersBy (λ n y. true ≡ true) (home.Object o)) (o == 0) (Some _) None tt tt;
        };
      }
  run_told (more {j} {w} r o (gives p t v le)) f on l g m =
      let y = run_told r f.0 o l.0 g.0 m.0 in
      let same = tasks_push j (dispatch p t) in
      record {
        serials = y.serials;
        world = named_given source input opts range y.serials j w p t y.world;
        below = y.below;
        there = record { running = λ u lt i. y.there.running u (omega (arith, lt, same)) (ended_before j (dispatch p t ∷ []) u i); tasks = y.there.tasks; homes = y.there.homes };
      }
  run_told (more {j} r o (no_room p t v le)) f on l g m = no_both (is_over (j ++ lone_limit ∷ [])) (over_limit j 0 0) on
  run_told (more {j} {w} r o (acts p t n s q d)) f on l g m =
      let y = run_told r f.0 o l.0 g.0 m.0 in
      let rests = run_rests source input opts range r f.0 o in
      let deep = deep_run source input opts range r f.0 o in
      let lt : t < task_count j = known source input opts range rests o y.serials y.world p t d.runs in
      let before = law_own_names source input opts j w r range f.0 o l.0 g.0 in
      let after = law_own_names source input opts (j ++ act opts source.sites input j p t n q) (world_after source (act opts source.sites input j p t n q) w t s) (more r o (acts p t n s q d)) range f on l g in
      let grown : t < task_count (j ++ act opts source.sites input j p t n q) = let le = tasks_grow j (act opts source.sites input j p t n q) in omega (arith, lt, le) in
      record {
        serials = after_by q.request (ride source input opts range rests o deep y.serials y.world p t n s q d f.1 on).now;
        world = named_act source input opts range rests o deep y.serials y.world p t n s q d f.1 on;
        below = act_below rests o deep y.serials y.world (run_still source input opts r) y.below y.there p t n s q d f.1 on g.1 m.1 l.1 (before.elsewhere t lt) (after.rests t grown);
        there = act_still rests o deep y.serials y.world (run_still source input opts r) y.below y.there p t n s q d f.1 on g.1 m.1 l.1 (before.elsewhere t lt) (after.rests t grown) q.request refl;
      }

pub law_still : LawStill
law_still source input opts j w r range fits on leaves spares mains =
    (run_told source input opts range r fits on leaves spares (law_mains.runs source input opts j w r mains)).there
