-- In each run in which the main of no task is called or set up mains of tasks alone end tasks.
use Rattle.std.proofs.Common.{◌≡◌, ℕ, ◌==◌, List, [], ◌∷◌, Option, Some, None, refl, subst}
use Rattle.uc_tree.specs.Source.{Source}
use Rattle.uc_entry.specs.declared.entry.Entry.{Entry}
use Rattle.uc_entry.specs.declared.entry.Options.{Options}
use Rattle.uc_entry.specs.declared.request.Asked.{Asked}
use Rattle.uc_entry.specs.Keyed.{find}
use Rattle.uc_acts.specs.Journal.{Journal, held, own_object}
use Rattle.uc_acts.specs.Known.{spawns, takes_out}
use Rattle.uc_acts.specs.Acts.{act}
use Rattle.uc_machine.specs.declared.exec.Home.TheVariants as home
use Rattle.uc_machine.specs.Pieces as piece
use Rattle.uc_machine.specs.Pieces.{Value, Todo, Sort, sort, Active, State, Members}
use Rattle.uc_machine.specs.Answering.{child_main, child_of}
use Rattle.uc_machine.specs.Rides.{Rides, slices, goes_on, ticks, asks}
use Rattle.uc_meaning.specs.Runs.{World, Runs, gives, no_room, acts, begun, more, with_home, hand_of, drawn, bare, or_else, world_after}
use Rattle.uc_state_laws.specs.Opens.{RideMeets, RunMeets}
use Rattle.uc_life_laws.specs.LifeStates.{HandBy}
use Rattle.uc_life_laws.proofs.Cells.{either}
use Rattle.uc_life_laws.proofs.Parked as parked
use Rattle.uc_rooted_runs.specs.TaskMains.{EndsEx, EndsMembers, EndsState, EndsStep, BeginsNone, LawTaskMains}
use Rattle.uc_rooted_runs.proofs.TaskMainWalk.{walk, begins, answered_there}

-- worlds

record EndsWorld (w : World) : Type 0 where
  pub tasks : (n : ℕ) → EndsState (w.tasks n)
  pub homes : (o : ℕ) → EndsMembers (home.Object o) (w.homes o)

with_mains : (o : ℕ) (m : Option Members) (hand : List (ℕ × Members)) → EndsMembers (home.Object o) m → HandBy EndsEx hand → HandBy EndsEx (with_home o m hand)
with_mains o None hand h k = k
with_mains o (Some m) hand h k = (h, k)

hand_mains : (os : List ℕ) (homes : ℕ → Option Members) → ((o : ℕ) → EndsMembers (home.Object o) (homes o)) → HandBy EndsEx (hand_of os homes)
hand_mains [] homes h = tt
hand_mains (o ∷ os) homes h = with_mains o (homes o) (hand_of os homes) (h o) (hand_mains os homes h)

drawn_mains : (j : Journal) (w : World) (t : ℕ) → EndsWorld w → EndsState (drawn j w t)
drawn_mains j w t h = record {
  stack = (h.tasks t).stack;
  env = record { house = (h.tasks t).env.house; hand = hand_mains (held t j) w.homes h.homes };
}

bare_mains : (s : State) → EndsState s → EndsState (bare s)
bare_mains s h = record { stack = h.stack; env = record { house = h.env.house; hand = tt } }

or_mains : (o : ℕ) (a b : Option Members) → EndsMembers (home.Object o) a → EndsMembers (home.Object o) b → EndsMembers (home.Object o) (or_else a b)
or_mains o None b h k = k
or_mains o (Some m) b h k = h

module _ (source : Source) where
  ride_mains : {s u : State} {q k : ℕ} {a : Asked} (r : Rides source s q u k a) → RideMeets (BeginsNone source) source s q u k a r → EndsState s → EndsState u
  ride_mains slices h m = m
  ride_mains (goes_on {s} e r) h m = ride_mains r h.1 (subst EndsStep e (walk source s m h.0))
  ride_mains (ticks {s} e r) h m = ride_mains r h.1 (subst EndsStep e (walk source s m h.0))
  ride_mains (asks {s} e) h m = subst EndsStep e (walk source s m h)

  ride_ends : {s u : State} {q k : ℕ} {a : Asked} (r : Rides source s q u k a) → RideMeets (BeginsNone source) source s q u k a r → EndsState s → RideMeets (EndsState) source s q u k a r
  ride_ends slices h m = tt
  ride_ends (goes_on {s} e r) h m = (m, ride_ends r h.1 (subst EndsStep e (walk source s m h.0)))
  ride_ends (ticks {s} e r) h m = (m, ride_ends r h.1 (subst EndsStep e (walk source s m h.0)))
  ride_ends (asks {s} e) h m = m

  world_mains : (a : List Entry) (w : World) (t : ℕ) (s : State) → EndsState s → EndsWorld w → EndsWorld (world_after source a w t s)
  world_mains a w t s m h = record {
    tasks = λ u. either EndsState (u == t) (bare s) _ (bare_mains s m) (either EndsState (spawns a u) (child_of source (own_object u a) s) (w.tasks u) (begins source (child_main source s.run.control) (own_object u a)) (h.tasks u));
    homes = λ o. either (EndsMembers (home.Object o)) (takes_out a o) None _ tt (or_mains o (find o s.env.hand) (w.homes o) (parked.found_hand EndsEx o s.env.hand m.env.hand) (h.homes o));
  }

  -- a run, and what holds of its states
  record Told (input : List ℕ) (opts : Options) (j : Journal) (w : World) (r : Runs source input opts j w) : Type 0 where
    pub world : EndsWorld w
    pub ends : RunMeets (EndsState) source input opts j w r

  run_mains : (input : List ℕ) (opts : Options) (j : Journal) (w : World) (r : Runs source input opts j w) → RunMeets (BeginsNone source) source input opts j w r → Told input opts j w r
  run_mains input opts _ _ begun h = record {
    world = record {
      tasks = λ t. begins source source.main 0;
      homes = λ o. either (EndsMembers (home.Object o)) (o == 0) (Some _) None tt tt;
    };
    ends = tt;
  }
  run_mains input opts _ _ (more {j} {w} r o (gives p t v le)) h = let x = run_mains input opts j w r h.0 in record { world = x.world; ends = (x.ends, tt) }
  run_mains input opts _ _ (more {j} {w} r o (no_room p t v le)) h = let x = run_mains input opts j w r h.0 in record { world = x.world; ends = (x.ends, tt) }
  run_mains input opts _ _ (more {j} {w} r o (acts p t n s asked d)) h =
      let x = run_mains input opts j w r h.0 in
      let m = answered_there source d.given (drawn j w t) (drawn_mains j w t x.world) in
      record {
        world = world_mains (act opts source.sites input j p t n asked) w t s (ride_mains d.rides h.1 m) x.world;
        ends = (x.ends, ride_ends d.rides h.1 m);
      }

pub law_task_mains : LawTaskMains
law_task_mains = record {
  begins = λ source r o. begins source r o;
  steps = λ source s m h. walk source s m h;
  told = λ source given s m. answered_there source given s m;
  runs = λ source input opts j w r h. (run_mains source input opts j w r h).ends;
}
