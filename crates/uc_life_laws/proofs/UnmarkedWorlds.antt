-- In every run in which marks are put for what is an execution's own, all are; and nobody has one around what goes.
use Rattle.std.proofs.Common.{ℕ, ◌==◌, Bool, List, [], ◌∷◌, Option, Some, None, subst, sym}
use Rattle.std.specs.Prelude.{if◌then◌else◌}
use Rattle.uc_tree.specs.Source.{Source}
use Rattle.uc_entry.specs.declared.entry.Entry.{Entry}
use Rattle.uc_entry.specs.declared.entry.Options.{Options}
use Rattle.uc_entry.specs.declared.request.Answer.{Answer}
use Rattle.uc_entry.specs.declared.request.Asked.{Asked}
use Rattle.uc_entry.specs.declared.request.Request.{Request}
use Rattle.uc_entry.specs.declared.request.Request.TheVariants as ask
use Rattle.uc_entry.specs.Keyed.{find}
use Rattle.uc_acts.specs.Acts.{act}
use Rattle.uc_acts.proofs.SoundLemmas.{self_test}
use Rattle.uc_acts.specs.Journal.{Journal, held, own_object}
use Rattle.uc_acts.specs.Known.{spawns, takes_out}
use Rattle.uc_machine.specs.declared.exec.Home.TheVariants as home
use Rattle.uc_machine.specs.Quiet.{State, Members, no_members, quiet}
use Rattle.uc_machine.specs.Answering.{answered, child_main, child_of}
use Rattle.uc_machine.specs.Rides as rides
use Rattle.uc_machine.specs.Rides.{Rides}
use Rattle.uc_meaning.specs.Runs.{World, May, Runs, gives, no_room, acts, begun, more, bare, with_home, hand_of, drawn, or_else, first_world, world_after}
use Rattle.uc_state_laws.specs.RoomRuns as runs
use Rattle.uc_state_laws.specs.RoomRuns.{Leads, Comes}
use Rattle.uc_state_laws.specs.Opens.{RideMeets, MayMeet, RunMeets, LeadsMeet}
use Rattle.uc_typing.specs.Typing.{Table}
use Rattle.uc_life_laws.specs.Things.{Few}
use Rattle.uc_life_laws.specs.LifeStates.{HandBy}
use Rattle.uc_life_laws.proofs.Cells.{either}
use Rattle.uc_life_laws.proofs.Parked.{found_hand}
use Rattle.uc_life_laws.specs.Marks.{LoneEx, LoneMembers, LoneState, LoneStep, Freed, Puts}
use Rattle.uc_life_laws.specs.Unmarked.{LoneWorld, UnmarkedAt, MayUnmark, RunUnmarked, LawRuns}
use Rattle.uc_life_laws.proofs.UnmarkedWalk.{law_steps}
use Rattle.uc_life_laws.proofs.Own.{law_unmarked}

module _ (t : Table) (few : Few) where
  home_rests : (o : ℕ) (x : Option Members) (hand : List (ℕ × Members)) → LoneMembers t few (home.Object o) x → HandBy (LoneEx t few) hand → HandBy (LoneEx t few) (with_home o x hand)
  home_rests o None hand h k = k
  home_rests o (Some m) hand h k = (h, k)

  hand_rests : (os : List ℕ) (homes : ℕ → Option Members) → ((o : ℕ) → LoneMembers t few (home.Object o) (homes o)) → HandBy (LoneEx t few) (hand_of os homes)
  hand_rests [] homes h = tt
  hand_rests (o ∷ os) homes h = home_rests o (homes o) (hand_of os homes) (h o) (hand_rests os homes h)

  or_rests : (o : ℕ) (x y : Option Members) → LoneMembers t few (home.Object o) x → LoneMembers t few (home.Object o) y → LoneMembers t few (home.Object o) (or_else x y)
  or_rests o None y h k = k
  or_rests o (Some m) y h k = h

  drawn_rests : (j : Journal) (w : World) (n : ℕ) → LoneWorld t few w → LoneState t few (drawn j w n)
  drawn_rests j w n x =
      let s = x.tasks n in
      record { stack = s.stack; env = record { house = s.env.house; hand = hand_rests (held n j) w.homes x.homes } }

  bare_rests : (s : State) → LoneState t few s → LoneState t few (bare s)
  bare_rests s h = record { stack = h.stack; env = record { house = h.env.house; hand = tt } }

  module _ (source : Source) where
    steps_to : (s : State) → Puts t few s → LoneState t few s → LoneStep t few (quiet source s)
    steps_to s o h = law_steps.steps t few source s h o

    led : {s u : State} (l : Leads source s u) → LeadsMeet (Puts t few) source s u l → LoneState t few s → LoneState t few u
    led runs.stays o h = h
    led (runs.goes {s} e l) o h = led l o.1 (subst (LoneStep t few) e (steps_to s o.0 h))
    led (runs.ticks {s} e l) o h = led l o.1 (subst (LoneStep t few) e (steps_to s o.0 h))

    -- who asks is so, and what goes is free
    ridden : {s u : State} {q k : ℕ} {a : Asked} (r : Rides source s q u k a) → RideMeets (Puts t few) source s q u k a r → LoneState t few s → LoneState t few u × Freed t few a.request u
    ridden (rides.slices {s}) o h = (h, tt)
    ridden (rides.goes_on {s} {t} e r) o h = ridden r o.1 (subst (LoneStep _ few) e (steps_to s o.0 h))
    ridden (rides.ticks {s} {t} e r) o h = ridden r o.1 (subst (LoneStep _ few) e (steps_to s o.0 h))
    ridden (rides.asks {s} {t} e) o h = subst (LoneStep _ few) e (steps_to s o h)

    lone_told : (given : Answer) (j : Journal) (w : World) (n : ℕ) → LoneWorld t few w → LoneState t few (answered source given (drawn j w n))
    lone_told given j w n x = law_steps.told t few source given (drawn j w n) (drawn_rests j w n x)

    -- after an act whose ride ended in this state
    acted : (w : World) (a : List Entry) (n : ℕ) (s : State) → LoneWorld t few w → LoneState t few s → LoneWorld t few (world_after source a w n s)
    acted w a n s h asks = record {
      tasks = λ u. either (LoneState t few) (u == n) _ _ (bare_rests s asks) (either (LoneState t few) (spawns a u) _ _ (law_steps.begins t few source (child_main source s.run.control) (own_object u a)) (h.tasks u));
      homes = λ o. either (LoneMembers t few (home.Object o)) (takes_out a o) None (or_else (find o s.env.hand) (w.homes o)) tt (or_rests o (find o s.env.hand) (w.homes o) (found_hand (LoneEx t few) o s.env.hand asks.env.hand) (h.homes o));
    }

    lone_begun : LoneWorld t few (first_world source)
    lone_begun = record {
      tasks = λ n. law_steps.begins t few source source.main 0;
      homes = λ o. either (LoneMembers t few (home.Object o)) (o == 0) (Some no_members) None tt tt;
    }

    module _ (input : List ℕ) (opts : Options) where
      asks_so : (j : Journal) (w : World) → LoneWorld t few w → (n : ℕ) (s : State) (q k : ℕ) (asked : Asked) (given : Answer) → (r : Rides source (answered source given (drawn j w n)) q s k asked) → RideMeets (Puts t few) source (answered source given (drawn j w n)) q s k asked r → LoneState t few s × Freed t few asked.request s
      asks_so j w h n s q k asked given r o = ridden r o (lone_told given j w n h)

      may_rests : {j : Journal} {w : World} {a : List Entry} {x : World} → LoneWorld t few w → (m : May source opts input j w a x) → MayMeet (Puts t few) source opts input j w a x m → LoneWorld t few x
      may_rests h (gives p n s le) o = h
      may_rests h (no_room p n s le) o = h
      may_rests {j} {w} {a} h (acts p n k s asked d) o = acted w a n s h (asks_so j w h n s _ k asked d.given d.rides o).0

      world_rests : {j : Journal} {w : World} (r : Runs source input opts j w) → RunMeets (Puts t few) source input opts j w r → LoneWorld t few w
      world_rests begun o = lone_begun
      world_rests (more r g m) o = may_rests (world_rests r o.0) m o.1

      -- the acting task rests as its ride left it
      left_so : (w : World) (a : List Entry) (n : ℕ) (s : State) (q : Request) → Freed t few q s → Freed t few q ((world_after source a w n s).tasks n)
      left_so w a n s q h =
          subst (λ (b : Bool). Freed t few q (if b then bare s else (if spawns a n then child_of source (own_object n a) s else w.tasks n))) (sym (self_test n)) (same q h)
        where
          same : (q : Request) → Freed t few q s → Freed t few q (bare s)
          same (ask.Gone o) h = h
          same q h = tt

      unmarks : (q : Request) (n : ℕ) (x : World) → LoneWorld t few x → Freed t few q (x.tasks n) → UnmarkedAt t few n x q
      unmarks (ask.Gone o) n x h f = λ name. law_unmarked t few x n o h name f
      unmarks q n x h f = tt

      may_unmark : {j : Journal} {w : World} {a : List Entry} {x : World} → LoneWorld t few w → (m : May source opts input j w a x) → MayMeet (Puts t few) source opts input j w a x m → MayUnmark t few source opts input j w a x m
      may_unmark h (gives p n s le) o = tt
      may_unmark h (no_room p n s le) o = tt
      may_unmark {j} {w} h (acts p n k s asked d) o =
          let a = act opts source.sites input j p n k asked in
          let l = asks_so j w h n s _ k asked d.given d.rides o in
          unmarks asked.request n (world_after source a w n s) (acted w a n s h l.0) (left_so w a n s asked.request l.1)

      run_unmarked : {j : Journal} {w : World} (r : Runs source input opts j w) → RunMeets (Puts t few) source input opts j w r → RunUnmarked t few source input opts j w r
      run_unmarked begun o = tt
      run_unmarked (more r g m) o = (run_unmarked r o.0, may_unmark (world_rests r o.0) m o.1)

pub law_runs : LawRuns
law_runs t few source input opts j w r meets =
    let there = world_rests t few source input opts r meets in
    record {
      world = there;
      comes = λ n s c o. led t few source c.leads o (lone_told t few source c.given j w n there);
      gone = run_unmarked t few source input opts r meets;
    }
