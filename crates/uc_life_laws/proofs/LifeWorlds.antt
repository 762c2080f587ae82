-- In every run in which scopes open where what they are of holds what is known, all that is in scope does.
use Rattle.std.proofs.Common.{ℕ, ◌==◌, List, [], ◌∷◌, Option, Some, None, subst}
use Rattle.uc_tree.specs.Source.{Source}
use Rattle.uc_entry.specs.declared.entry.Entry.{Entry}
use Rattle.uc_entry.specs.declared.entry.Options.{Options}
use Rattle.uc_entry.specs.declared.request.Answer.{Answer}
use Rattle.uc_entry.specs.declared.request.Asked.{Asked}
use Rattle.uc_entry.specs.Keyed.{find}
use Rattle.uc_acts.specs.Journal.{Journal, held, own_object}
use Rattle.uc_acts.specs.Known.{spawns, takes_out}
use Rattle.uc_machine.specs.declared.exec.Home.TheVariants as home
use Rattle.uc_machine.specs.Quiet.{State, Members, no_members, quiet}
use Rattle.uc_machine.specs.Answering.{answered, child_main}
use Rattle.uc_machine.specs.Rides as rides
use Rattle.uc_machine.specs.Rides.{Rides}
use Rattle.uc_meaning.specs.Runs.{World, May, Runs, gives, no_room, acts, begun, more, bare, with_home, hand_of, drawn, or_else, first_world, world_after}
use Rattle.uc_resolve.specs.Resolve.{source_of}
use Rattle.uc_state_laws.specs.Rooms.{SourceIn}
use Rattle.uc_state_laws.specs.RoomStacks.{StackState, StackStep}
use Rattle.uc_state_laws.specs.Layout.{Sized}
use Rattle.uc_state_laws.specs.RoomRuns as runs
use Rattle.uc_state_laws.specs.RoomRuns.{Leads, Comes}
use Rattle.uc_state_laws.proofs.StackWalk as stacking
use Rattle.uc_state_laws.proofs.StackWorlds as stacked
use Rattle.uc_state_laws.proofs.StackWorlds.{StackWorld}
use Rattle.uc_state_laws.proofs.Unreferring.{law_accepted}
use Rattle.uc_state_laws.specs.Opens.{RideMeets, MayMeet, RunMeets, LeadsMeet}
use Rattle.uc_typing.specs.Typing.{Table}
use Rattle.uc_sound.specs.Tables.{table_of}
use Rattle.uc_life_laws.specs.LifeStates.{HandBy, LifeEx, LifeMembers, LifeState, LifeStep, Opens}
use Rattle.uc_life_laws.specs.LifeRuns.{IsLaidOut, LawRuns}
use Rattle.uc_life_laws.proofs.Cells.{either}
use Rattle.uc_life_laws.proofs.Parked.{found_hand}
use Rattle.uc_life_laws.proofs.LifeWalk.{law_steps}
use Rattle.uc_life_laws.proofs.Clearing.{clears}
use Rattle.uc_life_laws.proofs.Laying.{laid_out}
use Rattle.uc_life_laws.specs.Things.{Few}

module _ (t : Table) (few : Few) where
  -- tasks at rest, and what is at home in objects
  pub record LifeWorld (w : World) : Type 0 where
    pub tasks : (n : ℕ) → LifeState t few (w.tasks n)
    pub homes : (o : ℕ) → LifeMembers t few (home.Object o) (w.homes o)

  home_rests : (o : ℕ) (x : Option Members) (hand : List (ℕ × Members)) → LifeMembers t few (home.Object o) x → HandBy (LifeEx t few) hand → HandBy (LifeEx t few) (with_home o x hand)
  home_rests o None hand h k = k
  home_rests o (Some m) hand h k = (h, k)

  hand_rests : (os : List ℕ) (homes : ℕ → Option Members) → ((o : ℕ) → LifeMembers t few (home.Object o) (homes o)) → HandBy (LifeEx t few) (hand_of os homes)
  hand_rests [] homes h = tt
  hand_rests (o ∷ os) homes h = home_rests o (homes o) (hand_of os homes) (h o) (hand_rests os homes h)

  or_rests : (o : ℕ) (x y : Option Members) → LifeMembers t few (home.Object o) x → LifeMembers t few (home.Object o) y → LifeMembers t few (home.Object o) (or_else x y)
  or_rests o None y h k = k
  or_rests o (Some m) y h k = h

  drawn_rests : (j : Journal) (w : World) (n : ℕ) → LifeWorld w → LifeState t few (drawn j w n)
  drawn_rests j w n x =
      let s = x.tasks n in
      record { frames = s.frames; stack = s.stack; env = record { house = s.env.house; hand = hand_rests (held n j) w.homes x.homes } }

  bare_rests : (s : State) → LifeState t few s → LifeState t few (bare s)
  bare_rests s h = record { frames = h.frames; stack = h.stack; env = record { house = h.env.house; hand = tt } }

  module _ (Z : ℕ → ℕ → Type 0) (laid : IsLaidOut Z t) (source : Source) (known : SourceIn Z source) where
    pub steps_to : (s : State) → StackState Z s → Opens t few s → LifeState t few s → LifeStep t few (quiet source s)
    steps_to s st o h = law_steps.steps t few source s h o (clears Z t laid s st)

    led : {s u : State} (l : Leads source s u) → LeadsMeet (Opens t few) source s u l → StackState Z s → LifeState t few s → LifeState t few u
    led runs.stays o st h = h
    led (runs.goes {s} e l) o st h = led l o.1 (subst (StackStep Z) e (stacking.walk Z source known s st)) (subst (LifeStep t few) e (steps_to s st o.0 h))
    led (runs.ticks {s} e l) o st h = led l o.1 (subst (StackStep Z) e (stacking.walk Z source known s st)) (subst (LifeStep t few) e (steps_to s st o.0 h))

    -- the same of frames
    pub stack_led : {s u : State} → Leads source s u → StackState Z s → StackState Z u
    stack_led runs.stays st = st
    stack_led (runs.goes {s} e l) st = stack_led l (subst (StackStep Z) e (stacking.walk Z source known s st))
    stack_led (runs.ticks {s} e l) st = stack_led l (subst (StackStep Z) e (stacking.walk Z source known s st))

    ridden : {s u : State} {q k : ℕ} {a : Asked} (r : Rides source s q u k a) → RideMeets (Opens t few) source s q u k a r → StackState Z s → LifeState t few s → LifeState t few u
    ridden (rides.slices {s}) o st h = h
    ridden (rides.goes_on {s} {t} e r) o st h = ridden r o.1 (subst (StackStep Z) e (stacking.walk Z source known s st)) (subst (LifeStep _ few) e (steps_to s st o.0 h))
    ridden (rides.ticks {s} {t} e r) o st h = ridden r o.1 (subst (StackStep Z) e (stacking.walk Z source known s st)) (subst (LifeStep _ few) e (steps_to s st o.0 h))
    ridden (rides.asks {s} {t} e) o st h = subst (LifeStep _ few) e (steps_to s st o h)

    pub stack_told : (given : Answer) (j : Journal) (w : World) (n : ℕ) → StackWorld Z w → StackState Z (answered source given (drawn j w n))
    stack_told given j w n x = stacking.answered_rests Z source given (drawn j w n) (stacked.drawn_rests Z j w n x)

    pub life_told : (given : Answer) (j : Journal) (w : World) (n : ℕ) → LifeWorld w → LifeState t few (answered source given (drawn j w n))
    life_told given j w n x = law_steps.told t few source given (drawn j w n) (drawn_rests j w n x)

    -- after an act whose ride ended in this state
    pub acted : (w : World) (a : List Entry) (n : ℕ) (s : State) → LifeWorld w → LifeState t few s → LifeWorld (world_after source a w n s)
    acted w a n s h asks = record {
      tasks = λ u. either (LifeState t few) (u == n) _ _ (bare_rests s asks) (either (LifeState t few) (spawns a u) _ _ (law_steps.begins t few source (child_main source s.run.control) (own_object u a)) (h.tasks u));
      homes = λ o. either (LifeMembers t few (home.Object o)) (takes_out a o) None (or_else (find o s.env.hand) (w.homes o)) tt (or_rests o (find o s.env.hand) (w.homes o) (found_hand (LifeEx t few) o s.env.hand asks.env.hand) (h.homes o));
    }

    pub life_begun : LifeWorld (first_world source)
    life_begun = record {
      tasks = λ n. law_steps.begins t few source source.main 0;
      homes = λ o. either (LifeMembers t few (home.Object o)) (o == 0) (Some no_members) None tt tt;
    }

    module _ (input : List ℕ) (opts : Options) where
      may_rests : {j : Journal} {w : World} {a : List Entry} {x : World} → StackWorld Z w → LifeWorld w → (m : May source opts input j w a x) → MayMeet (Opens t few) source opts input j w a x m → LifeWorld x
      may_rests st h (gives p n s le) o = h
      may_rests st h (no_room p n s le) o = h
      may_rests {j} {w} {a} st h (acts p n k s asked d) o =
          acted w a n s h (ridden d.rides o (stack_told d.given j w n st) (life_told d.given j w n h))

      world_rests : {j : Journal} {w : World} (r : Runs source input opts j w) → RunMeets (Opens t few) source input opts j w r → LifeWorld w
      world_rests begun o = life_begun
      world_rests (more r g m) o = may_rests (stacked.world_rests Z source known input opts r) (world_rests r o.0) m o.1

pub law_runs : LawRuns
law_runs p formed accepted few input opts j w r meets = record {
  tasks = λ n. there.tasks n;
  homes = λ o. there.homes o;
  comes = λ n s c o.
      led (table_of p) few (Sized p) laid (source_of p) known c.leads o (stack_told (table_of p) few (Sized p) laid (source_of p) known c.given j w n (stacked.world_rests (Sized p) (source_of p) known input opts r)) (life_told (table_of p) few (Sized p) laid (source_of p) known c.given j w n there);
}
  where
    known : SourceIn (Sized p) (source_of p)
    known = law_accepted p accepted

    laid : IsLaidOut (Sized p) (table_of p)
    laid = laid_out p formed accepted

    there : LifeWorld (table_of p) few w
    there = world_rests (table_of p) few (Sized p) laid (source_of p) known input opts r meets
