-- In each run of a program returns of handlers are over where they are to be, so nothing that is built is left by such a return.
use Rattle.std.proofs.Common.{ℕ, ◌==◌, List, [], ◌∷◌, Option, Some, None, refl, subst}
use Rattle.uc_entry.specs.declared.entry.Entry.{Entry}
use Rattle.uc_entry.specs.declared.entry.Options.{Options}
use Rattle.uc_entry.specs.declared.request.Asked.{Asked}
use Rattle.uc_entry.specs.Keyed.{find}
use Rattle.uc_acts.specs.Journal.{Journal, held, own_object}
use Rattle.uc_acts.specs.Known.{spawns, takes_out}
use Rattle.uc_acts.specs.Acts.{act}
use Rattle.uc_machine.specs.declared.exec.Home.TheVariants as home
use Rattle.uc_machine.specs.Pieces.{Value, State, Members}
use Rattle.uc_machine.specs.Answering.{child_main, child_of}
use Rattle.uc_machine.specs.Rides.{Rides, slices, goes_on, ticks, asks}
use Rattle.uc_meaning.specs.Runs.{World, Runs, gives, no_room, acts, begun, more, with_home, hand_of, drawn, bare, or_else, world_after}
use Rattle.uc_resolve.specs.Resolve.{source_of}
use Rattle.uc_state_laws.specs.Opens.{RideMeets, RunMeets}
use Rattle.uc_life_laws.specs.Homes.{home_of}
use Rattle.uc_life_laws.specs.LifeStates.{HandBy}
use Rattle.uc_life_laws.proofs.Cells.{either}
use Rattle.uc_life_laws.proofs.Parked.{found_hand}
use Rattle.uc_parts_laws.specs.PartStates.{Setting, PartsState}
use Rattle.uc_parts_laws.specs.PartsRuns.{parts_of}
use Rattle.uc_parts_laws.specs.Returning.{ReturnsEx, ReturnsMembers, ReturnsState, ReturnsStep, Passes, LawReturnsRuns}
use Rattle.uc_parts_laws.proofs.PartsRuns.{law_parts_runs}
use Rattle.uc_parts_laws.proofs.ReturnWalk.{law_returns, passes}

-- tasks at rest, and what is at home in objects
record ReturnsWorld (w : World) : Type 0 where
  pub tasks : (n : ℕ) → ReturnsState (w.tasks n)
  pub homes : (o : ℕ) → ReturnsMembers (home.Object o) (w.homes o)

home_rests : (o : ℕ) (x : Option Members) (hand : List (ℕ × Members)) → ReturnsMembers (home.Object o) x → HandBy ReturnsEx hand → HandBy ReturnsEx (with_home o x hand)
home_rests o None hand h k = k
home_rests o (Some m) hand h k = (h, k)

hand_rests : (os : List ℕ) (homes : ℕ → Option Members) → ((o : ℕ) → ReturnsMembers (home.Object o) (homes o)) → HandBy ReturnsEx (hand_of os homes)
hand_rests [] homes h = tt
hand_rests (o ∷ os) homes h = home_rests o (homes o) (hand_of os homes) (h o) (hand_rests os homes h)

or_rests : (o : ℕ) (x y : Option Members) → ReturnsMembers (home.Object o) x → ReturnsMembers (home.Object o) y → ReturnsMembers (home.Object o) (or_else x y)
or_rests o None y h k = k
or_rests o (Some m) y h k = h

drawn_rests : (j : Journal) (w : World) (n : ℕ) → ReturnsWorld w → ReturnsState (drawn j w n)
drawn_rests j w n x =
    let s = x.tasks n in
    record { begun = s.begun; run = s.run; callers = s.callers; env = record { house = s.env.house; hand = hand_rests (held n j) w.homes x.homes } }

bare_rests : (s : State) → ReturnsState s → ReturnsState (bare s)
bare_rests s h = record { begun = h.begun; run = h.run; callers = h.callers; env = record { house = h.env.house; hand = tt } }

module _ (g : Setting) where
  -- along a ride
  ridden : {s u : State} {q k : ℕ} {a : Asked} (r : Rides g.source s q u k a) → RideMeets (PartsState g) g.source s q u k a r → ReturnsState s → ReturnsState u × RideMeets Passes g.source s q u k a r
  ridden slices p h = (h, tt)
  ridden (goes_on {s} e r) p h = let x = ridden r p.1 (subst ReturnsStep e (law_returns.steps g s h p.0)) in (x.0, (passes s h, x.1))
  ridden (ticks {s} e r) p h = let x = ridden r p.1 (subst ReturnsStep e (law_returns.steps g s h p.0)) in (x.0, (passes s h, x.1))
  ridden (asks {s} e) p h = (subst ReturnsStep e (law_returns.steps g s h p), passes s h)

  -- after an act whose ride ended in this state
  acted : (w : World) (a : List Entry) (n : ℕ) (s : State) → ReturnsWorld w → ReturnsState s → ReturnsWorld (world_after g.source a w n s)
  acted w a n s h k = record {
    tasks = λ u. either ReturnsState (u == n) (bare s) _ (bare_rests s k) (either ReturnsState (spawns a u) (child_of g.source (own_object u a) s) (w.tasks u) (law_returns.begins g.source (child_main g.source s.run.control) (own_object u a)) (h.tasks u));
    homes = λ o. either (ReturnsMembers (home.Object o)) (takes_out a o) None _ tt (or_rests o (find o s.env.hand) (w.homes o) (found_hand ReturnsEx o s.env.hand k.env.hand) (h.homes o));
  }

  record Told (input : List ℕ) (opts : Options) (j : Journal) (w : World) (r : Runs g.source input opts j w) : Type 0 where
    pub world : ReturnsWorld w
    pub states : RunMeets Passes g.source input opts j w r

  run_returns : (input : List ℕ) (opts : Options) {j : Journal} {w : World} (r : Runs g.source input opts j w) → RunMeets (PartsState g) g.source input opts j w r → Told input opts j w r
  run_returns input opts begun h = record {
    world = record {
      tasks = λ t. law_returns.begins g.source g.source.main 0;
      homes = λ o. either (ReturnsMembers (home.Object o)) (o == 0) (Some _) None tt tt;
    };
    states = tt;
  }
  run_returns input opts (more r o (gives p t v le)) h = let x = run_returns input opts r h.0 in record { world = x.world; states = (x.states, tt) }
  run_returns input opts (more r o (no_room p t v le)) h = let x = run_returns input opts r h.0 in record { world = x.world; states = (x.states, tt) }
  run_returns input opts (more {j} {w} r o (acts p t n s asked d)) h =
      let x = run_returns input opts r h.0 in
      let m = ridden d.rides h.1 (law_returns.told g.source d.given (drawn j w t) (drawn_rests j w t x.world)) in
      record { world = acted w (act opts g.source.sites input j p t n asked) t s x.world m.0; states = (x.states, m.1) }

pub law_returns_runs : LawReturnsRuns
law_returns_runs = record {
  runs = λ p formed accepted input opts range j w r fits.
      let homes : ℕ → Value = home_of (source_of p) input opts j w r in
      (run_returns (parts_of p homes) input opts r (law_parts_runs.runs p formed accepted homes input opts range j w r fits (λ o. refl))).states;
  rides = λ p formed accepted input opts range j w r fits on q t n s asked d.
      let homes : ℕ → Value = home_of (source_of p) input opts j w r in
      let x = run_returns (parts_of p homes) input opts r (law_parts_runs.runs p formed accepted homes input opts range j w r fits (λ o. refl)) in
      (ridden (parts_of p homes) d.rides (law_parts_runs.rides p formed accepted homes input opts range j w r fits (λ o. refl) on q t n s asked d) (law_returns.told (source_of p) d.given (drawn j w t) (drawn_rests j w t x.world))).1;
}
