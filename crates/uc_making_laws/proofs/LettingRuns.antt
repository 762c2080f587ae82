-- In every run in which steps find what they are to find each activation is told of its object.
use Rattle.std.proofs.Common.{◌≡◌, ℕ, ◌==◌, inl, Bool, true, false, List, [], ◌∷◌, ◌++◌, Option, Some, None, refl, sym, ap, ◌∙◌, subst}
use Rattle.std.specs.Prelude.{if◌then◌else◌}
use Rattle.uc_tree.specs.Source.{Source}
use Rattle.uc_entry.specs.declared.entry.Entry.{Entry}
use Rattle.uc_entry.specs.declared.entry.Options.{Options}
use Rattle.uc_entry.specs.declared.request.Answer.{Answer}
use Rattle.uc_entry.specs.declared.request.Asked.{Asked}
use Rattle.uc_entry.specs.declared.request.Request.{Request}
use Rattle.uc_entry.specs.declared.request.Request.TheVariants as ask
use Rattle.uc_entry.specs.Keyed.{find}
use Rattle.uc_acts.specs.Acts.{act, lone_limit}
use Rattle.uc_acts.specs.Journal.{Journal, held, is_over, own_object, cost}
use Rattle.uc_acts.specs.Known.{spawns, takes_out}
use Rattle.uc_acts.proofs.Bounds.{over_limit}
use Rattle.uc_acts.proofs.Living.{going_row}
use Rattle.uc_machine.specs.declared.exec.Home.TheVariants as home
use Rattle.uc_machine.specs.Quiet.{State, Members, no_members, quiet}
use Rattle.uc_machine.specs.Answering.{answered, child_main, child_of}
use Rattle.uc_machine.specs.Rides as rides
use Rattle.uc_machine.specs.Rides.{Rides}
use Rattle.uc_meaning.specs.Runs.{World, May, Runs, AsksIn, gives, no_room, acts, begun, more, bare, with_home, hand_of, drawn, or_else, first_world, world_after}
use Rattle.uc_state_laws.specs.RoomRuns as runs
use Rattle.uc_state_laws.specs.RoomRuns.{Leads}
use Rattle.uc_state_laws.specs.Opens.{RideMeets, MayMeet, RunMeets, LeadsMeet}
use Rattle.uc_name_laws.proofs.Homes.{no_both}
use Rattle.uc_typing.specs.Typing.{Table}
use Rattle.uc_life_laws.specs.Things.{Few}
use Rattle.uc_life_laws.specs.LifeStates.{HandBy}
use Rattle.uc_life_laws.specs.Knowing.{main_of}
use Rattle.uc_life_laws.proofs.Cells.{either, tested}
use Rattle.uc_life_laws.proofs.NewNumbers.{spawned_object}
use Rattle.uc_life_laws.proofs.Parked.{found_hand}
use Rattle.uc_life_laws.proofs.Spawning.{Spawned, spawner}
use Rattle.std.proofs.lemmas.Bool.{eq-eqb}
use Rattle.uc_life_laws.specs.Silent.{AllSilent}
use Rattle.uc_making_laws.specs.ForgetsThis.{GoesBy, MayGo, RunGoes}
use Rattle.uc_making_laws.specs.LettingGo.{IsTold, LetsEx, LetsMembers, LetsState, LetsAsked, LetsStep, FindsTold}
use Rattle.uc_making_laws.specs.LettingRuns.{LetsWorld, LawLettingRuns}
use Rattle.uc_making_laws.proofs.LettingWalk.{law_letting}

module _ (t : Table) (few : Few) where
  home_rests : (o : ℕ) (x : Option Members) (hand : List (ℕ × Members)) → LetsMembers t few (home.Object o) x → HandBy (LetsEx t few) hand → HandBy (LetsEx t few) (with_home o x hand)
  home_rests o None hand h k = k
  home_rests o (Some m) hand h k = (h, k)

  pub hand_rests : (os : List ℕ) (homes : ℕ → Option Members) → ((o : ℕ) → LetsMembers t few (home.Object o) (homes o)) → HandBy (LetsEx t few) (hand_of os homes)
  hand_rests [] homes h = tt
  hand_rests (o ∷ os) homes h = home_rests o (homes o) (hand_of os homes) (h o) (hand_rests os homes h)

  pub or_rests : (o : ℕ) (x y : Option Members) → LetsMembers t few (home.Object o) x → LetsMembers t few (home.Object o) y → LetsMembers t few (home.Object o) (or_else x y)
  or_rests o None y h k = k
  or_rests o (Some m) y h k = h

  drawn_rests : (j : Journal) (w : World) (n : ℕ) → LetsWorld t few w → LetsState t few (drawn j w n)
  drawn_rests j w n x =
      let s = x.tasks n in
      record { stack = s.stack; env = record { house = s.env.house; hand = hand_rests (held n j) w.homes x.homes } }

  pub bare_rests : (s : State) → LetsState t few s → LetsState t few (bare s)
  bare_rests s h = record { stack = h.stack; env = record { house = h.env.house; hand = tt } }

  module _ (source : Source) where
    steps_to : (s : State) → FindsTold t few source s → LetsState t few s → LetsStep t few (quiet source s)
    steps_to s o h = law_letting.steps t few source s h (o h)

    led : {s u : State} (l : Leads source s u) → LeadsMeet (FindsTold t few source) source s u l → LetsState t few s → LetsState t few u
    led runs.stays o h = h
    led (runs.goes {s} e l) o h = led l o.1 (subst (LetsStep t few) e (steps_to s o.0 h))
    led (runs.ticks {s} e l) o h = led l o.1 (subst (LetsStep t few) e (steps_to s o.0 h))

    -- who asks has its object, and so has what is spawned
    ridden : {s u : State} {q k : ℕ} {a : Asked} (r : Rides source s q u k a) → RideMeets (FindsTold t few source) source s q u k a r → LetsState t few s → LetsState t few u × LetsAsked t few a.request u
    ridden (rides.slices {s}) o h = (h, tt)
    ridden (rides.goes_on {s} {t} e r) o h = ridden r o.1 (subst (LetsStep _ few) e (steps_to s o.0 h))
    ridden (rides.ticks {s} {t} e r) o h = ridden r o.1 (subst (LetsStep _ few) e (steps_to s o.0 h))
    ridden (rides.asks {s} {t} e) o h = subst (LetsStep _ few) e (steps_to s o h)

    -- all states of a ride
    along : {s u : State} {q k : ℕ} {a : Asked} (r : Rides source s q u k a) → RideMeets (FindsTold t few source) source s q u k a r → LetsState t few s → RideMeets (LetsState t few) source s q u k a r
    along (rides.slices {s}) o h = tt
    along (rides.goes_on {s} {t} e r) o h = (h, along r o.1 (subst (LetsStep _ few) e (steps_to s o.0 h)))
    along (rides.ticks {s} {t} e r) o h = (h, along r o.1 (subst (LetsStep _ few) e (steps_to s o.0 h)))
    along (rides.asks {s} {t} e) o h = h

    lets_told : (given : Answer) (j : Journal) (w : World) (n : ℕ) → LetsWorld t few w → LetsState t few (answered source given (drawn j w n))
    lets_told given j w n x = law_letting.told t few source given (drawn j w n) (drawn_rests j w n x)

    lets_begun : LetsWorld t few (first_world source)
    lets_begun = record {
      tasks = λ n. law_letting.begins t few source source.main 0 (inl (refl, refl));
      homes = λ o. either (LetsMembers t few (home.Object o)) (o == 0) (Some no_members) None tt tt;
    }

    module _ (input : List ℕ) (opts : Options) where
      -- after an act
      module _ (j : Journal) (w : World) (p n k : ℕ) (s : State) (asked : Asked) (d : AsksIn source opts j w p n k s asked) (on : is_over (j ++ act opts source.sites input j p n k asked) ≡ false) (h : LetsWorld t few w) (st : LetsState t few s) (f : LetsAsked t few asked.request s) where
        abbrev a : List Entry
        a = act opts source.sites input j p n k asked

        -- what is spawned has its object
        child : (u : ℕ) (q : Request) → asked.request ≡ q → LetsAsked t few q s → Spawned j u q → IsTold t few (main_of (own_object u a)) [] (own_object u a)
        child u (ask.Spawn o) e g i = subst (λ c. IsTold t few (main_of c) [] c) (sym (spawned_object opts source.sites input j p n k asked on u o e i)) g
        child u q e g i = absurd i

        spawned : (u : ℕ) → spawns a u ≡ true → LetsState t few (child_of source (own_object u a) s)
        spawned u e =
            law_letting.begins t few source (child_main source s.run.control) (own_object u a) (child u asked.request refl f (spawner u opts source.sites input j p n (cost k asked.line) asked.line asked.request (ap (λ l. spawns l u) (sym (going_row opts source.sites input j p n k asked on).0) ∙ e)))

        acted : LetsWorld t few (world_after source a w n s)
        acted = record {
          tasks = λ u. either (LetsState t few) (u == n) (bare s) (if spawns a u then child_of source (own_object u a) s else w.tasks u) (bare_rests s st) (tested (LetsState t few) (spawns a u) (child_of source (own_object u a) s) (w.tasks u) (spawned u) (λ e. h.tasks u));
          homes = λ o. either (LetsMembers t few (home.Object o)) (takes_out a o) None (or_else (find o s.env.hand) (w.homes o)) tt (or_rests o (find o s.env.hand) (w.homes o) (found_hand (LetsEx t few) o s.env.hand st.env.hand) (h.homes o));
        }

      may_rests : {j : Journal} {w : World} {a : List Entry} {x : World} → LetsWorld t few w → (m : May source opts input j w a x) → MayMeet (FindsTold t few source) source opts input j w a x m → is_over (j ++ a) ≡ false → LetsWorld t few x
      may_rests h (gives p n s le) o on = h
      may_rests {j} h (no_room p n s le) o on = no_both (is_over (j ++ lone_limit ∷ [])) (over_limit j 0 0) on
      may_rests {j} {w} h (acts p n k s asked d) o on =
          let l = ridden d.rides o (lets_told d.given j w n h) in
          acted j w p n k s asked d on h l.0 l.1

      world_rests : {j : Journal} {w : World} (r : Runs source input opts j w) → RunMeets (FindsTold t few source) source input opts j w r → is_over j ≡ false → LetsWorld t few w
      world_rests begun o on = lets_begun
      world_rests (more r g m) o on = may_rests (world_rests r o.0 g) m o.1 on

      may_along : {j : Journal} {w : World} {a : List Entry} {x : World} → LetsWorld t few w → (m : May source opts input j w a x) → MayMeet (FindsTold t few source) source opts input j w a x m → MayMeet (LetsState t few) source opts input j w a x m
      may_along h (gives p n s le) o = tt
      may_along h (no_room p n s le) o = tt
      may_along {j} {w} h (acts p n k s asked d) o = along d.rides o (lets_told d.given j w n h)

      run_along : {j : Journal} {w : World} (r : Runs source input opts j w) → RunMeets (FindsTold t few source) source input opts j w r → RunMeets (LetsState t few) source input opts j w r
      run_along begun o = tt
      run_along (more r g m) o = (run_along r o.0, may_along (world_rests r o.0 g) m o.1)

      -- behind an act by which an object goes
      goes_by : (j : Journal) (a : List Entry) (w : World) (u : ℕ) (s : State) (q : Request) → LetsAsked t few q s → GoesBy (λ j a x u o. AllSilent (x.tasks u).run.control) j a (world_after source a w u s) u q
      goes_by j a w u s (ask.Gone o) h =
          let same : (if u == u then bare s else if spawns a u then child_of source (own_object u a) s else w.tasks u) ≡ bare s = ap (λ (b : Bool). if b then bare s else if spawns a u then child_of source (own_object u a) s else w.tasks u) (eq-eqb u u refl) in
          subst (λ (y : State). AllSilent y.run.control) (sym same) h
      goes_by j a w u s q h = tt

      may_gone : {j : Journal} {w : World} {a : List Entry} {x : World} → LetsWorld t few w → (m : May source opts input j w a x) → MayMeet (FindsTold t few source) source opts input j w a x m → MayGo (λ j a x u o. AllSilent (x.tasks u).run.control) source input opts m
      may_gone h (gives p n s le) o = tt
      may_gone h (no_room p n s le) o = tt
      may_gone {j} {w} h (acts p n k s asked d) o =
          goes_by j (act opts source.sites input j p n k asked) w n s asked.request (ridden d.rides o (lets_told d.given j w n h)).1

      run_gone : {j : Journal} {w : World} (r : Runs source input opts j w) → RunMeets (FindsTold t few source) source input opts j w r → RunGoes (λ j a x u o. AllSilent (x.tasks u).run.control) source input opts r
      run_gone begun o = tt
      run_gone (more r g m) o = (run_gone r o.0, may_gone (world_rests r o.0 g) m o.1)

pub law_letting_runs : LawLettingRuns
law_letting_runs t few source input opts j w r calls = record {
  world = λ on. world_rests t few source input opts r calls on;
  rides = run_along t few source input opts r calls;
  comes = λ on n s c o. led t few source c.leads o (lets_told t few source c.given j w n (world_rests t few source input opts r calls on));
  gone = run_gone t few source input opts r calls;
}
