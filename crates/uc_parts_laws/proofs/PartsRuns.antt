-- In each run of a program parts are taken over, as long as those are that a routine which is called is to build.
use Rattle.std.proofs.Common.{◌≡◌, ℕ, ◌==◌, Bool, true, false, List, [], ◌∷◌, Option, Some, None, subst, sym, ap, ◌∙◌}
use Rattle.uc_tree.specs.Source.{Source}
use Rattle.uc_entry.specs.declared.entry.Entry.{Entry}
use Rattle.uc_entry.specs.declared.entry.Options.{Options}
use Rattle.uc_entry.specs.declared.request.Asked.{Asked}
use Rattle.uc_entry.specs.declared.request.Request.{Request}
use Rattle.uc_entry.specs.declared.request.Request.TheVariants as ask
use Rattle.uc_entry.specs.Keyed.{find}
use Rattle.uc_acts.specs.Journal.{Journal, held, own_object}
use Rattle.uc_acts.specs.Known.{spawns, takes_out}
use Rattle.uc_acts.specs.Acts.{act}
use Rattle.uc_machine.specs.declared.exec.Exec.{Exec}
use Rattle.uc_machine.specs.declared.exec.Home.TheVariants as home
use Rattle.uc_machine.specs.Pieces as piece
use Rattle.uc_machine.specs.Pieces.{Value, Todo, Active, State, Members}
use Rattle.uc_machine.specs.Answering.{answered, child_main, child_of}
use Rattle.uc_machine.specs.Rides.{Rides, slices, goes_on, ticks, asks}
use Rattle.uc_meaning.specs.Runs.{World, May, Runs, AsksIn, gives, no_room, acts, begun, more, with_home, hand_of, drawn, bare, or_else, world_after}
use Rattle.uc_resolve.specs.Resolve.{source_of}
use Rattle.uc_state_laws.specs.Opens.{RideMeets, MayMeet, RunMeets}
use Rattle.uc_putting_laws.specs.PuttingLaws.{special_of}
use Rattle.uc_place_laws.specs.OlderResting.{NamedHand}
use Rattle.uc_place_laws.proofs.AsideKeeping as kept
use Rattle.uc_place_laws.proofs.AsideKeeping.{either}
use Rattle.uc_life_laws.specs.Knowing.{main_of}
use Rattle.uc_life_laws.specs.Placed.{Ends, all}
use Rattle.uc_life_laws.specs.Outermost.{outermost}
use Rattle.uc_life_laws.specs.Held.{Soon}
use Rattle.uc_life_laws.proofs.Completing.{law_completing}
use Rattle.uc_rooted_runs.specs.Makers.{Makers}
use Rattle.uc_rooted_runs.specs.Births.{MakesLater, SpawnsLater, MaySpawnLater, RunSpawnsLater}
use Rattle.uc_rooted_runs.specs.OutlastRuns.{with_homes, made_behind, run_made}
use Rattle.uc_rooted_runs.specs.KeptRuns.{SpawnsKept, RideKeeps, MayKeep, RunKeeps}
use Rattle.uc_parts_laws.specs.Parts.{PartsSource, IsOrderly}
use Rattle.uc_parts_laws.specs.PartStates.{CallsTaken, InParts, IsTaken, Over, PartsMembers, PartsState, PartsStep, Setting, seat_at}
use Rattle.uc_parts_laws.specs.PartsRuns.{parts_of, LawPartsRuns, RideKeepsBeside, MayKeepBeside, RunKeepsBeside, LawKeptParts}
use Rattle.uc_parts_laws.proofs.PartSteps as steps
use Rattle.uc_parts_laws.proofs.PartWalk.{walk, begins, answered_there}
use Rattle.uc_parts_laws.proofs.PartSources.{law_parts_sources}
use Rattle.uc_parts_laws.proofs.TakenRuns.{run_taken, ride_taken}
use Rattle.uc_parts_laws.proofs.Leaving.{spot_of, taken_over, law_leaving}
use Rattle.uc_parts_laws.proofs.SpawnSteps.{SpawnAsk, SpawnStep, walk as spawning}

module _ (g : Setting) (known : PartsSource g.special g.source) where
  record PartsWorld (w : World) : Type 0 where
    pub tasks : (n : ℕ) → PartsState g (w.tasks n)
    pub homes : (o : ℕ) → PartsMembers g (home.Object o) (w.homes o)

  with_parts : (o : ℕ) (m : Option Members) (hand : List (ℕ × Members)) → PartsMembers g (home.Object o) m → NamedHand (InParts g) (InParts g) hand → NamedHand (InParts g) (InParts g) (with_home o m hand)
  with_parts o None hand h k = k
  with_parts o (Some m) hand h k = (h, k)

  hand_parts : (os : List ℕ) (homes : ℕ → Option Members) → ((o : ℕ) → PartsMembers g (home.Object o) (homes o)) → NamedHand (InParts g) (InParts g) (hand_of os homes)
  hand_parts [] homes h = tt
  hand_parts (o ∷ os) homes h = with_parts o (homes o) (hand_of os homes) (h o) (hand_parts os homes h)

  drawn_parts : (j : Journal) (w : World) (t : ℕ) → PartsWorld w → PartsState g (drawn j w t)
  drawn_parts j w t h = record {
    run = (h.tasks t).run;
    callers = (h.tasks t).callers;
    env = record { house = (h.tasks t).env.house; hand = hand_parts (held t j) w.homes h.homes };
  }

  bare_parts : (s : State) → PartsState g s → PartsState g (bare s)
  bare_parts s h = record { run = h.run; callers = h.callers; env = record { house = h.env.house; hand = tt } }

  or_parts : (o : ℕ) (a b : Option Members) → PartsMembers g (home.Object o) a → PartsMembers g (home.Object o) b → PartsMembers g (home.Object o) (or_else a b)
  or_parts o None b h k = k
  or_parts o (Some m) b h k = h

  -- a task that begins does so with a main
  child_plain : (n : Exec) (older : List Active) (f : ℕ) (this : Value) (count : ℕ) (todo : List Todo) → IsOrderly g.special (IsTaken g n older f this) count todo → g.special (child_main g.source todo) ≡ false
  child_plain n older f this count [] k = known.main
  child_plain n older f this count (piece.ChildNow r ∷ todo) k = k.0
  child_plain n older f this count (p ∷ todo) k = known.main

  ride_parts : {s u : State} {q k : ℕ} {a : Asked} (r : Rides g.source s q u k a) → RideMeets (CallsTaken g) g.source s q u k a r → PartsState g s → PartsState g u
  ride_parts slices h m = m
  ride_parts (goes_on {s} e r) h m = ride_parts r h.1 (subst (PartsStep g) e (walk g known s m h.0))
  ride_parts (ticks {s} e r) h m = ride_parts r h.1 (subst (PartsStep g) e (walk g known s m h.0))
  ride_parts (asks {s} e) h m = subst (PartsStep g) e (walk g known s m h)

  ride_states : {s u : State} {q k : ℕ} {a : Asked} (r : Rides g.source s q u k a) → RideMeets (CallsTaken g) g.source s q u k a r → PartsState g s → RideMeets (PartsState g) g.source s q u k a r
  ride_states slices h m = tt
  ride_states (goes_on {s} e r) h m = (m, ride_states r h.1 (subst (PartsStep g) e (walk g known s m h.0)))
  ride_states (ticks {s} e r) h m = (m, ride_states r h.1 (subst (PartsStep g) e (walk g known s m h.0)))
  ride_states (asks {s} e) h m = m

  world_parts : (a : List Entry) (w : World) (t : ℕ) (s : State) → PartsState g s → PartsWorld w → PartsWorld (world_after g.source a w t s)
  world_parts a w t s m h = record {
    tasks = λ u. either (PartsState g) (u == t) (bare s) _ (bare_parts s m) (either (PartsState g) (spawns a u) (child_of g.source (own_object u a) s) (w.tasks u) (begins g known (child_main g.source s.run.control) (own_object u a) (child_plain s.env.exec s.callers s.run.frame s.run.this s.run.elements s.run.control m.run)) (h.tasks u));
    homes = λ o. either (PartsMembers g (home.Object o)) (takes_out a o) None _ tt (or_parts o (find o s.env.hand) (w.homes o) (kept.found_hand (InParts g) (InParts g) (steps.calm g) o s.env.hand m.env.hand) (h.homes o));
  }

  -- a run, and what holds of its states
  record Told (input : List ℕ) (opts : Options) (j : Journal) (w : World) (r : Runs g.source input opts j w) : Type 0 where
    pub world : PartsWorld w
    pub states : RunMeets (PartsState g) g.source input opts j w r

  answered_parts : (j : Journal) (w : World) (q t n : ℕ) (s : State) (asked : Asked) (opts : Options) (d : AsksIn g.source opts j w q t n s asked) → PartsWorld w → PartsState g (answered g.source d.given (drawn j w t))
  answered_parts j w q t n s asked opts d h = answered_there g d.given (drawn j w t) (drawn_parts j w t h)

  run_parts : (input : List ℕ) (opts : Options) (j : Journal) (w : World) (r : Runs g.source input opts j w) → RunMeets (CallsTaken g) g.source input opts j w r → Told input opts j w r
  run_parts input opts _ _ begun h = record {
    world = record {
      tasks = λ t. begins g known g.source.main 0 known.main;
      homes = λ o. either (PartsMembers g (home.Object o)) (o == 0) (Some _) None tt tt;
    };
    states = tt;
  }
  run_parts input opts _ _ (more {j} {w} r o (gives p t v le)) h = let x = run_parts input opts j w r h.0 in record { world = x.world; states = (x.states, tt) }
  run_parts input opts _ _ (more {j} {w} r o (no_room p t v le)) h = let x = run_parts input opts j w r h.0 in record { world = x.world; states = (x.states, tt) }
  run_parts input opts _ _ (more {j} {w} r o (acts p t n s asked d)) h =
      let x = run_parts input opts j w r h.0 in
      let m = answered_parts j w p t n s asked opts d x.world in
      record {
        world = world_parts (act opts g.source.sites input j p t n asked) w t s (ride_parts d.rides h.1 m) x.world;
        states = (x.states, ride_states d.rides h.1 m);
      }

pub law_parts_runs : LawPartsRuns
law_parts_runs = record {
  runs = λ p formed accepted home input opts range j w r fits same.
      (run_parts (parts_of p home) (law_parts_sources p formed accepted) input opts j w r (run_taken p formed accepted home input opts range j w r fits same)).states;
  rides = λ p formed accepted home input opts range j w r fits same on q t n s asked d.
      let known : PartsSource (special_of p) (source_of p) = law_parts_sources p formed accepted in
      let world = (run_parts (parts_of p home) known input opts j w r (run_taken p formed accepted home input opts range j w r fits same)).world in
      ride_states (parts_of p home) known d.rides (ride_taken p formed accepted home input opts range j w r fits same on q t n s asked d) (answered_parts (parts_of p home) known j w q t n s asked opts d world);
}

-- so executions are held soon

module _ (source : Source) (special : ℕ → Bool) (makers : Makers) (homes : ℕ → Value) (asked : Exec → Bool) where
  abbrev G : Setting
  G = record { source = source; special = special; home = homes }

  ride_keeps : (made : Exec → Bool) {s u : State} {q k : ℕ} {a : Asked} (r : Rides source s q u k a) → RideMeets (PartsState G) source s q u k a r → RideMeets (MakesLater source makers) source s q u k a r → RideKeepsBeside (with_homes homes makers) asked source made r → RideKeeps (with_homes homes makers) asked source made r
  ride_keeps made slices p m h = tt
  ride_keeps made (goes_on {s} e r) p m h = (law_leaving source special makers homes asked made s p.0 m.0 h.0, ride_keeps (made_behind source s made) r p.1 m.1 h.1)
  ride_keeps made (ticks {s} e r) p m h = (law_leaving source special makers homes asked made s p.0 m.0 h.0, ride_keeps (made_behind source s made) r p.1 m.1 h.1)
  ride_keeps made (asks {s} e) p m h = law_leaving source special makers homes asked made s p m h

  -- so is the main of a task that is spawned
  spawned : (q : Request) (v u : State) → PartsState G v → SpawnAsk v q u → SpawnsLater makers q u → SpawnsKept (with_homes homes makers) asked source q u
  spawned (ask.Spawn o) v u st i b = λ a.
      let k : IsOrderly special (IsTaken G v.env.exec v.callers v.run.frame v.run.this) v.run.elements (piece.SpawnNow i.main ∷ i.todo) = subst (λ l. IsOrderly special (IsTaken G v.env.exec v.callers v.run.frame v.run.this) v.run.elements l) i.control st.run in
      let place : (makers.seat (main_of o)).place ≡ piece.Object (piece.object_in v.run.this) = b.seat ∙ ap piece.Object i.object in
      let over : Over G (spot_of makers (main_of o)) v.env.exec v.callers = subst (λ z. Over G (record { place = (makers.seat (main_of o)).place; task = z }) v.env.exec v.callers) (sym b.task) (subst (λ z. Over G (record { place = z; task = true }) v.env.exec v.callers) (sym place) k.0.1) in
      let ends : Ends (makers.before (main_of o)) (outermost v.callers) = subst (λ ps. Ends ps (outermost v.callers)) (sym (b.before ∙ ap outermost i.callers)) all in
      let base : Soon source (seat_at G (spot_of makers (main_of o))) (makers.before (main_of o)) v.env.exec (record v.run { control = piece.ChildNow i.main ∷ [] }) v.callers = law_completing.parts source (seat_at G (spot_of makers (main_of o))) (makers.before (main_of o)) v.env.exec (record v.run { control = piece.ChildNow i.main ∷ [] }) v.callers tt (taken_over source special homes (spot_of makers (main_of o)) v.env.exec (makers.before (main_of o)) v.callers st.callers over ends) in
      let now : Soon source (seat_at G (spot_of makers (main_of o))) (makers.before (main_of o)) v.env.exec (record v.run { control = piece.ChildNow i.main ∷ i.todo }) v.callers = subst (λ l. Soon source (seat_at G (spot_of makers (main_of o))) (makers.before (main_of o)) v.env.exec (record v.run { control = piece.ChildNow i.main ∷ l }) v.callers) (sym k.0.2) base in
      subst (λ e. Soon source (seat_at G (spot_of makers (main_of o))) (makers.before (main_of o)) e u.run u.callers) (sym i.exec) (subst (λ cs. Soon source (seat_at G (spot_of makers (main_of o))) (makers.before (main_of o)) v.env.exec u.run cs) (sym i.callers) (subst (λ b. Soon source (seat_at G (spot_of makers (main_of o))) (makers.before (main_of o)) v.env.exec b v.callers) (sym i.run) now))
  spawned q v u st i b = tt

  ride_spawned : {s u : State} {q k : ℕ} {a : Asked} (r : Rides source s q u k a) → RideMeets (PartsState G) source s q u k a r → SpawnsLater makers a.request u → SpawnsKept (with_homes homes makers) asked source a.request u
  ride_spawned slices p b = tt
  ride_spawned (goes_on {s} e r) p b = ride_spawned r p.1 b
  ride_spawned (ticks {s} e r) p b = ride_spawned r p.1 b
  ride_spawned (asks {s} {t} {q} {r} e) p b = spawned r s t p (subst (SpawnStep s) e (spawning source s)) b

  module _ (input : List ℕ) (opts : Options) where
    may_keep : (made : Exec → Bool) {j : Journal} {w : World} {a : List Entry} {x : World} (m : May source opts input j w a x) → MayMeet (PartsState G) source opts input j w a x m → MayMeet (MakesLater source makers) source opts input j w a x m → MaySpawnLater makers source opts input j w a x m → MayKeepBeside (with_homes homes makers) asked source input opts made m → MayKeep (with_homes homes makers) asked source input opts made m
    may_keep made (gives p t s h) k l m b = tt
    may_keep made (no_room p t s h) k l m b = tt
    may_keep made (acts p t i s q d) k l m b = (ride_keeps made d.rides k l b, ride_spawned d.rides k m)

    run_keeps : {j : Journal} {w : World} (r : Runs source input opts j w) → RunMeets (PartsState G) source input opts j w r → RunMeets (MakesLater source makers) source input opts j w r → RunSpawnsLater makers source input opts j w r → RunKeepsBeside (with_homes homes makers) asked source input opts r → RunKeeps (with_homes homes makers) asked source input opts r
    run_keeps begun k l n b = tt
    run_keeps (more r o m) k l n b = (run_keeps r k.0 l.0 n.0 b.0, may_keep (run_made source input opts r) m k.1 l.1 n.1 b.1)

pub law_kept_parts : LawKeptParts
law_kept_parts = record {
  ride = λ source special makers homes asked made {s} {u} {q} {k} {a} r p m h. ride_keeps source special makers homes asked made r p m h;
  runs = λ source special makers homes asked input opts j w r p m n h. run_keeps source special makers homes asked input opts r p m n h;
}
