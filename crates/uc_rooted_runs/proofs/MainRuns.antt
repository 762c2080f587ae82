-- In each run in which no main is called nobody waits for one, so that where one ends nothing is left to clean up.
use Rattle.std.proofs.Common.{◌≡◌, ℕ, ◌==◌, List, [], ◌∷◌, Option, Some, None, refl, sym, subst}
use Rattle.uc_tree.specs.Source.{Source}
use Rattle.uc_entry.specs.declared.entry.Entry.{Entry}
use Rattle.uc_entry.specs.declared.entry.Options.{Options}
use Rattle.uc_entry.specs.declared.request.Asked.{Asked}
use Rattle.uc_entry.specs.Keyed.{find}
use Rattle.uc_acts.specs.Journal.{Journal, held, own_object}
use Rattle.uc_acts.specs.Known.{spawns, takes_out}
use Rattle.uc_acts.specs.Acts.{act}
use Rattle.uc_machine.specs.declared.exec.Home.TheVariants as home
use Rattle.uc_machine.specs.Pieces as piece
use Rattle.uc_machine.specs.Pieces.{Value, Todo, Sort, sort, Active, State, Members}
use Rattle.uc_machine.specs.Answering.{child_main, child_of}
use Rattle.uc_machine.specs.Rides.{Rides, slices, goes_on, ticks, asks}
use Rattle.uc_meaning.specs.Runs.{World, Runs, gives, no_room, acts, begun, more, with_home, hand_of, drawn, bare, or_else, world_after}
use Rattle.uc_state_laws.specs.Opens.{RideMeets, RunMeets}
use Rattle.uc_life_laws.specs.LifeStates.{HandBy}
use Rattle.uc_life_laws.proofs.Cells.{either}
use Rattle.uc_life_laws.proofs.Parked as parked
use Rattle.uc_life_laws.specs.Placed.{placed, stacked}
use Rattle.uc_rooted_runs.specs.FreshStates.{LeavesNone, MainsBareBy}
use Rattle.uc_life_laws.specs.Held.{AreLines}
use Rattle.uc_rooted_runs.specs.Mains.{AtEnd, MainIn, MainEx, MainMembers, MainState, MainStep, CallsNoMain}
use Rattle.uc_rooted_runs.specs.MainRuns.{EndsMains, LawMains}
use Rattle.uc_rooted_runs.proofs.EndSteps as last
use Rattle.uc_rooted_runs.proofs.EndSteps.{bare_none, EndStep, IsOver}
use Rattle.uc_rooted_runs.proofs.MainWalk.{walk, begins, answered_there}

-- lines alone cover nothing

module _ (s : State) (m : MainState s) where
  at_end : (todo : List Todo) → (s.callers ≡ []) × AreLines todo → placed s.run.frame s.run.this todo (stacked s.callers) ≡ []
  at_end todo h = subst (λ cs. placed s.run.frame s.run.this todo (stacked cs) ≡ []) (sym_of s.callers h.0) (bare_none s.run.frame s.run.this todo h.1)
    where
      sym_of : (cs : List Active) → cs ≡ [] → [] ≡ cs
      sym_of [] e = refl
      sym_of (c ∷ cs) e = cc

  left : (k : Sort) (todo : List Todo) → AtEnd k s.callers todo (MainIn s.callers todo) → LeavesNone k todo s
  left piece.Simple todo h = tt
  left (piece.IsLoop order c e b) todo h = tt
  left piece.IsWhole todo h = tt
  left (piece.IsClean x) todo h = tt
  left (piece.IsFill n b d) todo h = tt
  left (piece.IsSweep e) todo h = tt
  left (piece.IsPart x) todo h = tt
  left (piece.IsGuard hs) todo h = tt
  left piece.IsFinish todo h = tt
  left piece.IsFinishCoroutine todo h = at_end todo h

  unwound : (todo : List Todo) → MainIn s.callers todo → MainsBareBy (piece.Unwind ∷ todo) s
  unwound [] h = tt
  unwound (p ∷ todo) h = left (sort p) todo h

  mains : (l : List Todo) → MainIn s.callers l → MainsBareBy l s
  mains [] h = tt
  mains (piece.FinishCoroutine ∷ todo) h = at_end todo h
  mains (piece.Unwind ∷ todo) h = unwound todo h
  mains (p ∷ todo) h = tt

  -- where an activation is over and nobody waits, nothing is left
  abbrev Bare : State → Type 0
  Bare u = stacked (u.run ∷ u.callers) ≡ []

  only : (l : List Todo) → s.run.control ≡ l → placed s.run.frame s.run.this l [] ≡ [] → s.callers ≡ [] → stacked (s.run ∷ s.callers) ≡ []
  only l e n f =
      subst (λ (cs : List Active). placed s.run.frame s.run.this s.run.control (stacked cs) ≡ []) (sym f) (subst (λ l. placed s.run.frame s.run.this l [] ≡ []) (sym e) n)

  over : (l : List Todo) → s.run.control ≡ l → MainIn s.callers l → IsOver l → s.callers ≡ [] → stacked (s.run ∷ s.callers) ≡ []
  over [] e h i = only [] e refl
  over (piece.Exit w ∷ []) e h i = only (piece.Exit w ∷ []) e refl
  over (piece.Unwind ∷ []) e h i = only (piece.Unwind ∷ []) e refl
  over (piece.Finish ∷ todo) e h i = only (piece.Finish ∷ todo) e (bare_none s.run.frame s.run.this todo h.1)
  over l e h i = absurd i

  ends : (source : Source) → EndsMains source s
  ends source = record {
    bare = mains s.run.control m.stack.0;
    finish = λ todo e. (subst (MainIn s.callers) e m.stack.0).1;
    asks = λ f u e. subst (EndStep Bare) e (last.walk Bare source s (over s.run.control refl m.stack.0) f);
  }

-- worlds

record MainWorld (w : World) : Type 0 where
  pub tasks : (n : ℕ) → MainState (w.tasks n)
  pub homes : (o : ℕ) → MainMembers (home.Object o) (w.homes o)

with_mains : (o : ℕ) (m : Option Members) (hand : List (ℕ × Members)) → MainMembers (home.Object o) m → HandBy MainEx hand → HandBy MainEx (with_home o m hand)
with_mains o None hand h k = k
with_mains o (Some m) hand h k = (h, k)

hand_mains : (os : List ℕ) (homes : ℕ → Option Members) → ((o : ℕ) → MainMembers (home.Object o) (homes o)) → HandBy MainEx (hand_of os homes)
hand_mains [] homes h = tt
hand_mains (o ∷ os) homes h = with_mains o (homes o) (hand_of os homes) (h o) (hand_mains os homes h)

drawn_mains : (j : Journal) (w : World) (t : ℕ) → MainWorld w → MainState (drawn j w t)
drawn_mains j w t h = record {
  stack = (h.tasks t).stack;
  env = record { house = (h.tasks t).env.house; hand = hand_mains (held t j) w.homes h.homes };
}

bare_mains : (s : State) → MainState s → MainState (bare s)
bare_mains s h = record { stack = h.stack; env = record { house = h.env.house; hand = tt } }

or_mains : (o : ℕ) (a b : Option Members) → MainMembers (home.Object o) a → MainMembers (home.Object o) b → MainMembers (home.Object o) (or_else a b)
or_mains o None b h k = k
or_mains o (Some m) b h k = h

module _ (source : Source) where
  ride_mains : {s u : State} {q k : ℕ} {a : Asked} (r : Rides source s q u k a) → RideMeets (CallsNoMain source) source s q u k a r → MainState s → MainState u
  ride_mains slices h m = m
  ride_mains (goes_on {s} e r) h m = ride_mains r h.1 (subst MainStep e (walk source s m h.0))
  ride_mains (ticks {s} e r) h m = ride_mains r h.1 (subst MainStep e (walk source s m h.0))
  ride_mains (asks {s} e) h m = subst MainStep e (walk source s m h)

  ride_ends : {s u : State} {q k : ℕ} {a : Asked} (r : Rides source s q u k a) → RideMeets (CallsNoMain source) source s q u k a r → MainState s → RideMeets (EndsMains source) source s q u k a r
  ride_ends slices h m = tt
  ride_ends (goes_on {s} e r) h m = (ends s m source, ride_ends r h.1 (subst MainStep e (walk source s m h.0)))
  ride_ends (ticks {s} e r) h m = (ends s m source, ride_ends r h.1 (subst MainStep e (walk source s m h.0)))
  ride_ends (asks {s} e) h m = ends s m source

  world_mains : (a : List Entry) (w : World) (t : ℕ) (s : State) → MainState s → MainWorld w → MainWorld (world_after source a w t s)
  world_mains a w t s m h = record {
    tasks = λ u. either MainState (u == t) (bare s) _ (bare_mains s m) (either MainState (spawns a u) (child_of source (own_object u a) s) (w.tasks u) (begins source (child_main source s.run.control) (own_object u a)) (h.tasks u));
    homes = λ o. either (MainMembers (home.Object o)) (takes_out a o) None _ tt (or_mains o (find o s.env.hand) (w.homes o) (parked.found_hand MainEx o s.env.hand m.env.hand) (h.homes o));
  }

  -- a run, and what holds of its states
  record Told (input : List ℕ) (opts : Options) (j : Journal) (w : World) (r : Runs source input opts j w) : Type 0 where
    pub world : MainWorld w
    pub ends : RunMeets (EndsMains source) source input opts j w r

  run_mains : (input : List ℕ) (opts : Options) (j : Journal) (w : World) (r : Runs source input opts j w) → RunMeets (CallsNoMain source) source input opts j w r → Told input opts j w r
  run_mains input opts _ _ begun h = record {
    world = record {
      tasks = λ t. begins source source.main 0;
      homes = λ o. either (MainMembers (home.Object o)) (o == 0) (Some _) None tt tt;
    };
    ends = tt;
  }
  run_mains input opts _ _ (more {j} {w} r o (gives p t v le)) h = let x = run_mains input opts j w r h.0 in record { world = x.world; ends = (x.ends, tt) }
  run_mains input opts _ _ (more {j} {w} r o (no_room p t v le)) h = let x = run_mains input opts j w r h.0 in record { world = x.world; ends = (x.ends, tt) }
  run_mains input opts _ _ (more {j} {w} r o (acts p t n s asked d)) h =
      let x = run_mains input opts j w r h.0 in
      let m = answered_there source d.given (drawn j w t) (drawn_mains j w t x.world) in
      record {
        world = world_mains (act opts source.sites input j p t n asked) w t s (ride_mains d.rides h.1 m) x.world;
        ends = (x.ends, ride_ends d.rides h.1 m);
      }

pub law_mains : LawMains
law_mains = record {
  begins = λ source r o. begins source r o;
  steps = λ source s m h. walk source s m h;
  told = λ source given s m. answered_there source given s m;
  ends = λ source s m. ends s m source;
  runs = λ source input opts j w r h. (run_mains source input opts j w r h).ends;
}
