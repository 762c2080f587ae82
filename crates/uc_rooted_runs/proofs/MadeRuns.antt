-- Homes have made no more executions than were made in the run, and the main of task 0.
use Rattle.std.proofs.Common.{◌≡◌, ℕ, zero, suc, ◌==◌, ◌<◌, ◌≤◌, inl, inr, Bool, true, false, List, [], ◌∷◌, ◌++◌, Option, Some, None, refl, sym, ap, ◌∙◌, subst, arith, ⊎_elim}
use Rattle.std.specs.Prelude.{if◌then◌else◌, slice_get, nat_eq}
use Rattle.std.proofs.lemmas.Bool.{eqb-true, eq-eqb, cases_lt}
use Rattle.uc_tree.specs.Source.{Source, Routine, routine_of}
use Rattle.uc_entry.specs.declared.entry.Options.{Options}
use Rattle.uc_entry.specs.declared.request.Asked.{Asked}
use Rattle.uc_entry.specs.declared.request.Request.{Request}
use Rattle.uc_entry.specs.declared.request.Request.TheVariants as ask
use Rattle.uc_acts.specs.Journal.{Journal, begin, held, entries_at, is_over}
use Rattle.uc_acts.specs.Known.{has, task_count, object_count, owner}
use Rattle.uc_acts.specs.Serves.{left}
use Rattle.uc_acts.specs.Acts.{act, lone_limit}
use Rattle.uc_acts.specs.KernelRuns.{InRange, Fits}
use Rattle.uc_acts.proofs.Bounds.{over_limit}
use Rattle.uc_machine.specs.declared.exec.Exec.{Exec}
use Rattle.uc_machine.specs.declared.exec.Home.{Home}
use Rattle.uc_machine.specs.declared.exec.Home.TheVariants as home
use Rattle.uc_machine.specs.Executions.{Execution, home_eq, exec_eq, members_at}
use Rattle.uc_machine.specs.Switches.{new_exec}
use Rattle.uc_machine.specs.Pieces as piece
use Rattle.uc_machine.specs.Pieces.{Value, Todo, SetUpNow, State, Members, Asks}
use Rattle.uc_machine.specs.Quiet.{home_at, no_members, first_state}
use Rattle.uc_machine.specs.Answering.{answered}
use Rattle.uc_machine.specs.Rides.{Rides, slices, goes_on, ticks, asks}
use Rattle.uc_meaning.specs.Runs.{World, Runs, AsksIn, gives, no_room, acts, begun, more, drawn, first_world}
use Rattle.uc_step_laws.specs.Hands.{keys}
use Rattle.uc_state_laws.specs.Fitting.{RunFits}
use Rattle.uc_state_laws.proofs.Others.{RunRests, run_rests, asking as asks_with}
use Rattle.uc_state_laws.proofs.DeepWorlds.{DeepWorld, deep_run}
use Rattle.uc_state_laws.specs.Opens.{RideMeets, RunMeets}
use Rattle.uc_name_laws.specs.Below.{IsBelow, ParkedNamed, one_more_at}
use Rattle.uc_name_laws.specs.NameSteps.{Named, StepNamed, Grows, IsBorn, NamedBehind}
use Rattle.uc_name_laws.proofs.Homes.{no_both, none_some, same_home, same_exec, exec_self}
use Rattle.uc_name_laws.proofs.Values.{below_more}
use Rattle.uc_name_laws.proofs.Walk.{walk}
use Rattle.uc_life_laws.specs.NamedRuns.{is_here}
use Rattle.uc_life_laws.proofs.Owned.{owner_other}
use Rattle.uc_life_laws.proofs.Riding.{RideNamed, grows_not}
use Rattle.uc_life_laws.proofs.NamedWorlds.{WorldNamed, vacuous, run_named, ride, start, own_stays, found_none, after_by, named_act, one_task}
use Rattle.uc_life_laws.proofs.OwnWorlds.{no_hand, first_env}
use Rattle.uc_life_laws.proofs.OwnNamesLemmas.{run_first}
use Rattle.uc_life_laws.specs.Knowing.{main_of}
use Rattle.uc_life_laws.specs.LifeStates.{SlotBy, ParkedBy, HandBy, EnvBy, MembersBy}
use Rattle.uc_life_laws.specs.Placed.{Placed}
use Rattle.uc_life_laws.specs.Outermost.{outermost}
use Rattle.uc_rooted_runs.specs.Makers.{Makers, MadeBy}
use Rattle.uc_rooted_runs.specs.Births.{MakesLater, SpawnsLater, RunSpawnsLater}
use Rattle.uc_rooted_runs.specs.OutlastRuns.{with_made, made_by, made_behind, ride_made, made_asked, run_made}
use Rattle.uc_rooted_runs.specs.MadeRuns.{IsMade, AllMade, LawMadeRuns}
use Rattle.uc_rooted_runs.proofs.Births.{none_there, named_given}
use Rattle.uc_rooted_runs.proofs.OutlastNames.{born_there, grows_on}

-- what was made stays so, and what is born is made

with_grows : (a : Option Routine) (m : Option Members) (k : Exec) (made : Exec → Bool) (n : Exec) → made n ≡ true → with_made a m k made n ≡ true
with_grows None m k made n h = h
with_grows (Some r) None k made n h = h
with_grows (Some r) (Some m) k made n h = by (exec_eq n k)
  where
    by : (b : Bool) → (if b then true else made n) ≡ true
    by true = refl
    by false = h

pub made_grows : (source : Source) (s : State) (made : Exec → Bool) (n : Exec) → made n ≡ true → made_behind source s made n ≡ true
made_grows source s made n h = by s.run.control
  where
    by : (l : List Todo) → made_by source l s made n ≡ true
    by (SetUpNow r ∷ todo) = with_grows (slice_get source.routines r) (members_at (home_at s.run.this s.env) s.env) (new_exec (home_at s.run.this s.env) s.env) made n h
    by l = h

born_made : (source : Source) (s : State) (made : Exec → Bool) (n : Exec) → IsBorn source s n → made_behind source s made n ≡ true
born_made source s made n b =
    let place : n.home ≡ home_at s.run.this s.env = ap (λ (q : Exec). q.home) b.named in
    let there : members_at (home_at s.run.this s.env) s.env ≡ Some b.members = ap (λ k. members_at k s.env) (sym place) ∙ b.in_hand in
    let test : exec_eq n (new_exec (home_at s.run.this s.env) s.env) ≡ true = ap (exec_eq n) (sym b.named) ∙ exec_self n in
    ap (λ l. made_by source l s made n) b.next ∙ (ap (λ a. with_made a (members_at (home_at s.run.this s.env) s.env) (new_exec (home_at s.run.this s.env) s.env) made n) b.known ∙ (ap (λ m. with_made (Some b.routine) m (new_exec (home_at s.run.this s.env) s.env) made n) there ∙ ap (λ (c : Bool). if c then true else made n) test))

asked_grows : (q : Request) (made : Exec → Bool) (n : Exec) → made n ≡ true → made_asked q made n ≡ true
asked_grows (ask.Spawn o) made n h = by (exec_eq n (main_of o))
  where
    by : (b : Bool) → (if b then true else made n) ≡ true
    by true = refl
    by false = h
asked_grows q made n h = h

grown : (a b : Exec → Bool) (n : Exec) → (a n ≡ true → b n ≡ true) → IsMade a n → IsMade b n
grown a b n f (inl e) = inl e
grown a b n f (inr e) = inr (f e)

-- each that a home has made, as told by the names, was made
abbrev pub BelowMade : (Home → ℕ) → (Exec → Bool) → Type 0
BelowMade serials made = (n : Exec) → IsBelow serials n → IsMade made n

-- a ride

module _ (source : Source) (here : Home → Bool) where
  pub step_made : (serials : Home → ℕ) (made : Exec → Bool) (s : State) (b : NamedBehind source here false serials s) → BelowMade serials made → BelowMade b.serials (made_behind source s made)
  step_made serials made s b h n x =
      ⊎_elim (λ lt. grown made (made_behind source s made) n (made_grows source s made n) (h n lt)) (λ y. inr (born_made source s made n y)) (b.only n x)

  record RideMade (serials : Home → ℕ) (made : Exec → Bool) (s : State) (q : ℕ) (u : State) (k : ℕ) (a : Asked) (r : Rides source s q u k a) : Type 0 where
    behind : Home → ℕ
    grows : Grows here serials behind
    named : Named here false behind u
    all : BelowMade behind (ride_made source made r)

  ride_all : (serials : Home → ℕ) (made : Exec → Bool) {s u : State} {q k : ℕ} {a : Asked} (r : Rides source s q u k a) → Named here false serials s → BelowMade serials made → RideMade serials made s q u k a r
  ride_all serials made slices n h = record { behind = serials; grows = grows_not here serials; named = n; all = h }
  ride_all serials made (goes_on {s} e r) n h =
      let b = walk source here false serials s n (λ u. vacuous u) in
      let y = ride_all b.serials (made_behind source s made) r (subst (StepNamed here false b.serials) e b.named) (step_made serials made s b h) in
      record { behind = y.behind; grows = grows_on here serials b.serials y.behind b.grows y.grows; named = y.named; all = y.all }
  ride_all serials made (ticks {s} e r) n h =
      let b = walk source here false serials s n (λ u. vacuous u) in
      let y = ride_all b.serials (made_behind source s made) r (subst (StepNamed here false b.serials) e b.named) (step_made serials made s b h) in
      record { behind = y.behind; grows = grows_on here serials b.serials y.behind b.grows y.grows; named = y.named; all = y.all }
  ride_all serials made (asks {s} {t} {q} {r} e) n h =
      let b = walk source here false serials s n (λ u. vacuous u) in
      let y : StepNamed here false b.serials (Asks r t) = subst (StepNamed here false b.serials) e b.named in
      record { behind = b.serials; grows = b.grows; named = y.0; all = step_made serials made s b h }

-- a world

pub parked_made : (serials : Home → ℕ) (made : Exec → Bool) → BelowMade serials made → (h : Home) (n : ℕ) → n ≡ serials h → (ps : List (ℕ × Option (Execution (List Todo) Value))) → ParkedNamed serials n ps → ParkedBy (λ n y. IsMade made n) h ps
parked_made serials made all h n e [] p = tt
parked_made serials made all h n e (q ∷ ps) p = (slot q.1, parked_made serials made all h n e ps p.2)
  where
    slot : (o : Option (Execution (List Todo) Value)) → SlotBy (λ n y. IsMade made n) (record { home = h; serial = q.0 }) o
    slot None = tt
    slot (Some y) = all (record { home = h; serial = q.0 }) (subst (λ k. q.0 < k) e p.0)

module _ (source : Source) (serials : Home → ℕ) (made : Exec → Bool) (all : BelowMade serials made) {j : Journal} {w : World} (x : WorldNamed serials j w) (later : (v : ℕ) → task_count j ≤ v → w.tasks v ≡ first_state (routine_of source source.main) 0) where
  task_made : (u : ℕ) → u < task_count j → EnvBy (λ n y. IsMade made n) (w.tasks u).env
  task_made u lt =
      let z = x.tasks u lt in
      let own : members_at (home.Task (w.tasks u).env.own) (w.tasks u).env ≡ Some (w.tasks u).env.house = ap (λ b. if b then Some (w.tasks u).env.house else None) (eq-eqb (w.tasks u).env.own (w.tasks u).env.own refl) in
      let m = z.env_named.members_named (home.Task (w.tasks u).env.own) (w.tasks u).env.house own in
      record {
        house = parked_made serials made all (home.Task (w.tasks u).env.own) (w.tasks u).env.house.serial m.serial_is (w.tasks u).env.house.parked m.parked_named;
        hand = subst (HandBy (λ n y. IsMade made n)) (sym (no_hand (w.tasks u).env.hand (λ o. z.env_named.away (home.Object o) refl))) tt;
      }

  home_made : (o : ℕ) (m : Option Members) → w.homes o ≡ m → MembersBy (λ n y. IsMade made n) (home.Object o) m
  home_made o None e = tt
  home_made o (Some m) e = let y = x.homes o m e in parked_made serials made all (home.Object o) m.serial y.serial_is m.parked y.parked_named

  world_made : AllMade made j w
  world_made = record {
    running = λ u lt e. let z = x.tasks u lt in all (w.tasks u).env.exec z.env_named.exec_below;
    tasks = λ u. ⊎_elim (λ lt. task_made u lt) (λ le. first_env (λ n y. IsMade made n) source (w.tasks u) (later u le)) (cases_lt u (task_count j));
    homes = λ o. home_made o (w.homes o) refl;
  }

-- as a run begins

one_object : (opts : Options) → object_count (begin opts ∷ []) ≡ 1
unfolding object_count
one_object opts = omega arith

nobody : (a : ℕ) → owner a [] ≡ []
unfolding owner entries_at
nobody a = refl

module _ (source : Source) (opts : Options) (serials : Home → ℕ) (x : WorldNamed serials (begin opts ∷ []) (first_world source)) where
  -- object 0 has made none, and there is no other
  none_at_object : (o : ℕ) → serials (home.Object o) ≡ 0
  none_at_object o = by o refl
    where
      by : (k : ℕ) → o ≡ k → serials (home.Object o) ≡ 0
      by zero e = let y = x.homes 0 no_members refl in ap (λ k. serials (home.Object k)) e ∙ sym y.serial_is
      by (suc k) e = let one = one_object opts in x.unmade o (omega (arith, one, e))

  other_task : (a : ℕ) → (a == 0) ≡ false → serials (home.Task a) ≡ 0
  other_task a e = x.unowned a (owner_other a [] (begin opts) (turned a e) ∙ nobody a)
    where
      turned : (a : ℕ) → (a == 0) ≡ false → (0 == a) ≡ false
      turned a e = by (0 == a) refl
        where
          by : (b : Bool) → (0 == a) ≡ b → (0 == a) ≡ false
          by true g = no_both (a == 0) (eq-eqb a 0 (sym (eqb-true 0 a g))) e
          by false g = g

  one_at_task : serials (home.Task 0) ≡ 1
  one_at_task =
      let one = one_task opts in
      let z = x.tasks 0 (omega (arith, one)) in
      let m = z.env_named.members_named (home.Task 0) (first_state (routine_of source source.main) 0).env.house refl in
      sym m.serial_is

  begun_made : BelowMade serials (λ n. false)
  begun_made n lt = by n.home refl
    where
      task : (a : ℕ) (b : Bool) → (a == 0) ≡ b → n.home ≡ home.Task a → IsMade (λ n. false) n
      task a true e h =
          let place : n.home ≡ home.Task 0 = h ∙ ap home.Task (eqb-true a 0 e) in
          let one : serials n.home ≡ 1 = ap serials place ∙ one_at_task in
          let zero : n.serial ≡ 0 = omega (arith, lt, one) in
          inl (ap (λ k. record { home = k; serial = n.serial }) place ∙ ap (λ k. record { home = home.Task 0; serial = k }) zero)
      task a false e h =
          let none : serials n.home ≡ 0 = ap serials h ∙ other_task a e in
          absurd (omega (arith, lt, none))

      by : (h : Home) → n.home ≡ h → IsMade (λ n. false) n
      by (home.Task a) h = task a (a == 0) refl h
      by (home.Object o) h =
          let none : serials n.home ≡ 0 = ap serials h ∙ none_at_object o in
          absurd (omega (arith, lt, none))

-- an act, and a run

module _ (source : Source) (input : List ℕ) (opts : Options) (range : InRange opts) where
  module _ {j : Journal} {w : World} (rests : RunRests source input opts j w) (on : is_over j ≡ false) (deep : DeepWorld j w) (serials : Home → ℕ) (x : WorldNamed serials j w) (made : Exec → Bool) (h : BelowMade serials made) (p t n : ℕ) (s : State) (q : Asked) (d : AsksIn source opts j w p t n s q) (f : Fits opts source.sites j t q.request) (going : is_over (j ++ act opts source.sites input j p t n q) ≡ false) where
    told : RideMade source (is_here (w.tasks t).env.own (held t j)) serials made (answered source d.given (drawn j w t)) (left opts j t) s n q d.rides
    told = ride_all source (is_here (w.tasks t).env.own (held t j)) serials made d.rides (start source input opts range rests on serials x p t d.runs d.given d.told) h

    -- two countings of what a ride has made agree
    no_less : (h : Home) → (ride source input opts range rests on deep serials x p t n s q d f going).now h ≤ told.behind h
    no_less h = by (members_at h s.env) refl
      where
        y : RideNamed source (is_here (w.tasks t).env.own (held t j)) false serials (answered source d.given (drawn j w t)) (left opts j t) s n q d.rides
        y = ride source input opts range rests on deep serials x p t n s q d f going

        there : (h : Home) → is_here (w.tasks t).env.own (held t j) h ≡ true → members_at h s.env ≡ None → ⊥
        there (home.Task a) e g =
            let own = own_stays source input opts range rests on serials x p t d.runs told.behind s told.named.names.env_named in
            let it : nat_eq a s.env.own ≡ true = ap (nat_eq a) own ∙ e in
            let some : members_at (home.Task a) s.env ≡ Some s.env.house = ap (λ b. if b then Some s.env.house else None) it in
            none_some s.env.house (members_at (home.Task a) s.env) g some
        there (home.Object o) e g =
            let hand : has (keys s.env.hand) o ≡ has (held t j) o = ap (λ l. has l o) (asks_with source input opts range rests on p t n s q d).hand in
            no_both (has (held t j) o) e (sym hand ∙ found_none o s.env.hand g)

        away : (b : Bool) → is_here (w.tasks t).env.own (held t j) h ≡ b → members_at h s.env ≡ None → (ride source input opts range rests on deep serials x p t n s q d f going).now h ≤ told.behind h
        away true e g = absurd (there h e g)
        away false e g = let a = told.grows.same h e in let b = y.grows.same h e in omega (arith, a, b)

        by : (o : Option Members) → members_at h s.env ≡ o → (ride source input opts range rests on deep serials x p t n s q d f going).now h ≤ told.behind h
        by None g = away (is_here (w.tasks t).env.own (held t j) h) refl g
        by (Some m) g =
            let a = (told.named.names.env_named.members_named h m g).serial_is in
            let b = (y.named.names.env_named.members_named h m g).serial_is in
            omega (arith, a, b)

    ridden : BelowMade (ride source input opts range rests on deep serials x p t n s q d f going).now (ride_made source made d.rides)
    ridden m lt = told.all m (below_more _ told.behind no_less m lt)

    -- the main of a task that is spawned
    spawned : (r : Request) → q.request ≡ r → BelowMade (after_by r (ride source input opts range rests on deep serials x p t n s q d f going).now) (made_asked r (ride_made source made d.rides))
    spawned (ask.Spawn o) e m lt = by (home_eq m.home (home.Task o)) refl
      where
        by : (b : Bool) → home_eq m.home (home.Task o) ≡ b → IsMade (made_asked (ask.Spawn o) (ride_made source made d.rides)) m
        by true g =
            let place : m.home ≡ home.Task o = same_home m.home (home.Task o) g in
            let more : one_more_at (home.Task o) (ride source input opts range rests on deep serials x p t n s q d f going).now m.home ≡ suc ((ride source input opts range rests on deep serials x p t n s q d f going).now m.home) = ap (λ b. if b then suc ((ride source input opts range rests on deep serials x p t n s q d f going).now m.home) else (ride source input opts range rests on deep serials x p t n s q d f going).now m.home) g in
            let none : (ride source input opts range rests on deep serials x p t n s q d f going).now m.home ≡ 0 = ap (ride source input opts range rests on deep serials x p t n s q d f going).now place ∙ none_there source input opts range rests on deep serials x p t n s q d f going o e in
            let zero : m.serial ≡ 0 = omega (arith, lt, more, none) in
            let is : m ≡ main_of o = ap (λ k. record { home = k; serial = m.serial }) place ∙ ap (λ k. record { home = home.Task o; serial = k }) zero in
            inr (ap (λ (b : Bool). if b then true else ride_made source made d.rides m) (ap (exec_eq m) (sym is) ∙ exec_self m))
        by false g =
            let same : one_more_at (home.Task o) (ride source input opts range rests on deep serials x p t n s q d f going).now m.home ≡ (ride source input opts range rests on deep serials x p t n s q d f going).now m.home = ap (λ b. if b then suc ((ride source input opts range rests on deep serials x p t n s q d f going).now m.home) else (ride source input opts range rests on deep serials x p t n s q d f going).now m.home) g in
            grown (ride_made source made d.rides) (made_asked (ask.Spawn o) (ride_made source made d.rides)) m (asked_grows (ask.Spawn o) (ride_made source made d.rides) m) (ridden m (subst (λ k. m.serial < k) same lt))
    spawned r e m lt = ridden m lt

    pub act_made : BelowMade (after_by q.request (ride source input opts range rests on deep serials x p t n s q d f going).now) (made_asked q.request (ride_made source made d.rides))
    act_made = spawned q.request refl

  pub record RunTold {j : Journal} {w : World} (r : Runs source input opts j w) : Type 0 where
    pub serials : Home → ℕ
    pub world : WorldNamed serials j w
    pub all : BelowMade serials (run_made source input opts r)

  pub run_told : {j : Journal} {w : World} (r : Runs source input opts j w) → RunFits source input opts j w r → is_over j ≡ false → RunTold r
  run_told begun f on =
      let x = run_named source input opts range begun f on in
      record { serials = x.serials; world = x.world; all = begun_made source opts x.serials x.world }
  run_told (more {j} {w} r o (gives p t v le)) f on =
      let y = run_told r f.0 o in
      record { serials = y.serials; world = named_given source input opts range y.serials j w p t y.world; all = y.all }
  run_told (more {j} r o (no_room p t v le)) f on = no_both (is_over (j ++ lone_limit ∷ [])) (over_limit j 0 0) on
  run_told (more {j} {w} r o (acts p t n s q d)) f on =
      let y = run_told r f.0 o in
      let rests = run_rests source input opts range r f.0 o in
      let deep = deep_run source input opts range r f.0 o in
      record {
        serials = after_by q.request (ride source input opts range rests o deep y.serials y.world p t n s q d f.1 on).now;
        world = named_act source input opts range rests o deep y.serials y.world p t n s q d f.1 on;
        all = act_made rests o deep y.serials y.world (run_made source input opts r) y.all p t n s q d f.1 on;
      }

  run_all_made : {j : Journal} {w : World} (r : Runs source input opts j w) → RunFits source input opts j w r → is_over j ≡ false → AllMade (run_made source input opts r) j w
  run_all_made r f on =
      let y = run_told r f on in
      world_made source y.serials (run_made source input opts r) y.all y.world (run_first source input opts range r f on)

-- by whom

module _ (makers : Makers) where
  abbrev IsLater : Exec → Type 0
  IsLater n = makers.rank (makers.parent n) < makers.rank n

  abbrev AllLater : (Exec → Bool) → Type 0
  AllLater made = (n : Exec) → made n ≡ true → IsLater n

  later_by : (n by : Exec) (v : Value) (main : Bool) (ps : List Placed) → MadeBy makers n by v main ps → IsLater n
  later_by n by v main ps m = subst (λ k. makers.rank k < makers.rank n) (sym m.parent) m.later

  module _ (source : Source) where
    step_later : (made : Exec → Bool) (s : State) → MakesLater source makers s → AllLater made → AllLater (made_behind source s made)
    step_later made s m h n e = by (made n) refl
      where
        by : (b : Bool) → made n ≡ b → IsLater n
        by true f = h n f
        by false f = later_by n s.env.exec s.run.this false (outermost s.callers) (m n (born_there source s made n e f))

    ride_later : (made : Exec → Bool) {s u : State} {q k : ℕ} {a : Asked} (r : Rides source s q u k a) → RideMeets (MakesLater source makers) source s q u k a r → AllLater made → AllLater (ride_made source made r)
    ride_later made slices m h = h
    ride_later made (goes_on {s} e r) m h = ride_later (made_behind source s made) r m.1 (step_later made s m.0 h)
    ride_later made (ticks {s} e r) m h = ride_later (made_behind source s made) r m.1 (step_later made s m.0 h)
    ride_later made (asks {s} e) m h = step_later made s m h

    asked_later : (made : Exec → Bool) (q : Request) (s : State) → SpawnsLater makers q s → AllLater made → AllLater (made_asked q made)
    asked_later made (ask.Spawn o) s l h n e = by (exec_eq n (main_of o)) refl e
      where
        by : (b : Bool) → exec_eq n (main_of o) ≡ b → (if b then true else made n) ≡ true → IsLater n
        by true g e = subst (λ k. IsLater k) (sym (same_exec n (main_of o) g)) (later_by (main_of o) s.env.exec (piece.Object o) true (outermost s.callers) l)
        by false g e = h n e
    asked_later made q s l h n e = h n e

    run_later : (input : List ℕ) (opts : Options) {j : Journal} {w : World} (r : Runs source input opts j w) → RunMeets (MakesLater source makers) source input opts j w r → RunSpawnsLater makers source input opts j w r → AllLater (run_made source input opts r)
    run_later input opts begun m l n e = absurd (cc)
    run_later input opts (more r o (gives p t v le)) m l k e = run_later input opts r m.0 l.0 k e
    run_later input opts (more r o (no_room p t v le)) m l k e = run_later input opts r m.0 l.0 k e
    run_later input opts (more r o (acts p t n s q d)) m l k e =
        asked_later (ride_made source (run_made source input opts r) d.rides) q.request s l.1 (ride_later (run_made source input opts r) d.rides m.1 (run_later input opts r m.0 l.0)) k e

pub law_made_runs : LawMadeRuns
law_made_runs = record {
  there = λ source input opts j w r range fits on. run_all_made source input opts range r fits on;
  later = λ source input opts j w r b n e. run_later b.makers source input opts r b.made b.spawned n e;
}
