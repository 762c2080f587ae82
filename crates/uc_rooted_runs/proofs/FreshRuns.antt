-- In each run executions that have not begun are as they were made, and those that have ended have no marks.
use Rattle.std.proofs.Common.{◌≡◌, ℕ, ◌==◌, Bool, true, false, List, [], ◌∷◌, ◌++◌, Option, Some, None, refl, sym, ap, ◌∙◌, subst, ⊎_elim, ◌||◌}
use Rattle.std.proofs.lemmas.Bool.{eqb-true}
use Rattle.uc_tree.specs.Source.{Source, Routine, routine_of, Purpose, TaskMain, CoroutineMain, Procedure, Function, Builder}
use Rattle.uc_entry.specs.declared.entry.Entry.{Entry}
use Rattle.uc_entry.specs.declared.entry.Options.{Options}
use Rattle.uc_entry.specs.declared.request.Asked.{Asked}
use Rattle.uc_entry.specs.declared.request.Request.{Request}
use Rattle.uc_entry.specs.declared.request.Request.TheVariants as ask
use Rattle.uc_entry.specs.Keyed.{find}
use Rattle.uc_acts.specs.Journal.{Journal, begin, held, is_over, own_object}
use Rattle.uc_acts.specs.Known.{has_ended, spawns, takes_out}
use Rattle.uc_acts.specs.Acts.{act, dispatch, lone_limit}
use Rattle.uc_acts.specs.KernelRuns.{InRange}
use Rattle.uc_acts.proofs.Bounds.{over_limit}
use Rattle.uc_acts.proofs.SoundLemmas.{ended_push}
use Rattle.uc_machine.specs.declared.exec.Home.TheVariants as home
use Rattle.uc_machine.specs.Pieces.{Object, State, Members, Asks}
use Rattle.uc_machine.specs.Quiet.{quiet, behind_body, first_state}
use Rattle.uc_machine.specs.Answering.{child_main, child_of}
use Rattle.uc_machine.specs.Rides.{Rides, slices, goes_on, ticks, asks}
use Rattle.uc_meaning.specs.Runs.{World, Runs, gives, no_room, acts, begun, more, first_world, with_home, hand_of, drawn, bare, or_else, world_after}
use Rattle.uc_state_laws.specs.Fitting.{RunFits}
use Rattle.uc_state_laws.proofs.Alive.{law_alive}
use Rattle.uc_state_laws.proofs.Others.{run_rests}
use Rattle.uc_state_laws.specs.Opens.{RideMeets, RunMeets}
use Rattle.uc_name_laws.proofs.Homes.{no_both}
use Rattle.uc_life_laws.specs.LifeStates.{HandBy, MembersBy}
use Rattle.uc_life_laws.proofs.Cells.{either, tested}
use Rattle.uc_life_laws.proofs.Parked as parked
use Rattle.uc_life_laws.specs.Placed.{placed, stacked}
use Rattle.uc_rooted_runs.specs.FreshStates.{FreshEx, FreshEnv, FreshStep, KeepsFresh}
use Rattle.uc_rooted_runs.specs.FreshRuns.{FreshWorld, LawFresh}
use Rattle.uc_rooted_runs.proofs.EndedTasks.{ended_by}
use Rattle.uc_rooted_runs.proofs.FreshSteps.{walk, told}

first_fresh : (r : Routine) (o : ℕ) → FreshEnv (first_state r o).env
first_fresh r o = record { running = tt; slots = record { house = (tt, tt); hand = tt } }

-- a hand

with_fresh : (o : ℕ) (m : Option Members) (hand : List (ℕ × Members)) → MembersBy FreshEx (home.Object o) m → HandBy FreshEx hand → HandBy FreshEx (with_home o m hand)
with_fresh o None hand h k = k
with_fresh o (Some m) hand h k = (h, k)

hand_fresh : (os : List ℕ) (homes : ℕ → Option Members) → ((o : ℕ) → MembersBy FreshEx (home.Object o) (homes o)) → HandBy FreshEx (hand_of os homes)
hand_fresh [] homes h = tt
hand_fresh (o ∷ os) homes h = with_fresh o (homes o) (hand_of os homes) (h o) (hand_fresh os homes h)

pub drawn_fresh : (j : Journal) (w : World) (t : ℕ) → FreshWorld j w → FreshEnv (drawn j w t).env
drawn_fresh j w t h = record {
  running = (h.tasks t).running;
  slots = record { house = (h.tasks t).slots.house; hand = hand_fresh (held t j) w.homes h.homes };
}

-- a task that begins has no marks
begins_bare : (r : Routine) (o : ℕ) → stacked ((first_state r o).run ∷ (first_state r o).callers) ≡ []
begins_bare r o = by r.purpose
  where
    by : (p : Purpose) → placed 0 (Object o) (behind_body p r.line) [] ≡ []
    by TaskMain = refl
    by CoroutineMain = refl
    by Procedure = refl
    by Function = refl
    by Builder = refl

bare_fresh : (s : State) → FreshEnv s.env → FreshEnv (bare s).env
bare_fresh s h = record { running = h.running; slots = record { house = h.slots.house; hand = tt } }

or_fresh : (o : ℕ) (a b : Option Members) → MembersBy FreshEx (home.Object o) a → MembersBy FreshEx (home.Object o) b → MembersBy FreshEx (home.Object o) (or_else a b)
or_fresh o None b h k = k
or_fresh o (Some m) b h k = h

module _ (source : Source) where
  -- where a task asks its end, it has no marks
  ride_ends : {s u : State} {q k : ℕ} {a : Asked} (r : Rides source s q u k a) → RideMeets (KeepsFresh source) source s q u k a r → a.request ≡ ask.End → stacked (u.run ∷ u.callers) ≡ []
  ride_ends slices h e = absurd (cc)
  ride_ends (goes_on {s} g r) h e = ride_ends r h.1 e
  ride_ends (ticks {s} g r) h e = ride_ends r h.1 e
  ride_ends (asks {s} {t} {q} {r} g) h e = h.ends.asks t (subst (λ (r : Request). quiet source s ≡ Asks r t) e g)

  ride_fresh : {s u : State} {q k : ℕ} {a : Asked} (r : Rides source s q u k a) → RideMeets (KeepsFresh source) source s q u k a r → FreshEnv s.env → FreshEnv u.env
  ride_fresh slices h f = f
  ride_fresh (goes_on {s} e r) h f = ride_fresh r h.1 (subst FreshStep e (walk s f source h.0))
  ride_fresh (ticks {s} e r) h f = ride_fresh r h.1 (subst FreshStep e (walk s f source h.0))
  ride_fresh (asks {s} e) h f = subst FreshStep e (walk s f source h)

  -- behind an act of the task t: of those that have ended by then, that one has no marks, and the others had ended before
  world_fresh : (j : Journal) (a : List Entry) (w : World) (t : ℕ) (s : State) → ((u : ℕ) → has_ended u (j ++ a) ≡ true → (u == t) ≡ true → stacked (s.run ∷ s.callers) ≡ []) → ((u : ℕ) → has_ended u (j ++ a) ≡ true → (u == t) ≡ false → has_ended u j ≡ true) → FreshEnv s.env → FreshWorld j w → FreshWorld (j ++ a) (world_after source a w t s)
  world_fresh j a w t s now old f h = record {
    tasks = λ u. either (λ (v : State). FreshEnv v.env) (u == t) (bare s) _ (bare_fresh s f) (either (λ (v : State). FreshEnv v.env) (spawns a u) (child_of source (own_object u a) s) (w.tasks u) (first_fresh (routine_of source (child_main source s.run.control)) (own_object u a)) (h.tasks u));
    ended = λ u e. tested (λ (v : State). stacked (v.run ∷ v.callers) ≡ []) (u == t) (bare s) _ (λ q. now u e q) (λ q. either (λ (v : State). stacked (v.run ∷ v.callers) ≡ []) (spawns a u) (child_of source (own_object u a) s) (w.tasks u) (begins_bare (routine_of source (child_main source s.run.control)) (own_object u a)) (h.ended u (old u e q)));
    bare = λ u. either (λ (v : State). v.env.hand ≡ []) (u == t) (bare s) _ refl (either (λ (v : State). v.env.hand ≡ []) (spawns a u) (child_of source (own_object u a) s) (w.tasks u) refl (h.bare u));
    homes = λ o. either (MembersBy FreshEx (home.Object o)) (takes_out a o) None _ tt (or_fresh o (find o s.env.hand) (w.homes o) (parked.found_hand FreshEx o s.env.hand f.slots.hand) (h.homes o));
  }

  begin_fresh : (opts : Options) → FreshWorld (begin opts ∷ []) (first_world source)
  begin_fresh opts = record {
    tasks = λ t. first_fresh (routine_of source source.main) 0;
    ended = λ t e. begins_bare (routine_of source source.main) 0;
    bare = λ t. refl;
    homes = λ o. either (MembersBy FreshEx (home.Object o)) (o == 0) (Some _) None tt tt;
  }

  -- a dispatch ends nobody
  given_fresh : (j : Journal) (w : World) (p t : ℕ) → FreshWorld j w → FreshWorld (j ++ dispatch p t ∷ []) w
  given_fresh j w p t h = record {
    tasks = h.tasks;
    ended = λ u e. h.ended u (or_first (has_ended u j) (sym (ended_push u j (dispatch p t)) ∙ e));
    bare = h.bare;
    homes = h.homes;
  }
    where
      or_first : (b : Bool) → (b || false) ≡ true → b ≡ true
      or_first true e = refl
      or_first false e = e

  module _ (input : List ℕ) (opts : Options) (range : InRange opts) where
    pub run_fresh : {j : Journal} {w : World} (r : Runs source input opts j w) → RunFits source input opts j w r → is_over j ≡ false → RunMeets (KeepsFresh source) source input opts j w r → FreshWorld j w
    run_fresh begun f on h = begin_fresh opts
    run_fresh (more {j} {w} r going (gives p t v le)) f on h = given_fresh j w p t (run_fresh r f.0 going h.0)
    run_fresh (more {j} r going (no_room p t v le)) f on h = no_both (is_over (j ++ lone_limit ∷ [])) (over_limit j 0 0) on
    run_fresh (more {j} {w} r going (acts p t n s asked d)) f on h =
        let x = run_fresh r f.0 going h.0 in
        let rests = run_rests source input opts range r f.0 going in
        let alive : has_ended t j ≡ false = law_alive opts source.sites input j rests.kernel going p t d.runs in
        world_fresh j (act opts source.sites input j p t n asked) w t s
        (λ u e q. ⊎_elim (λ g. no_both (has_ended t j) (ap (λ u. has_ended u j) (sym (eqb-true u t q)) ∙ g) alive) (λ g. ride_ends d.rides h.1 g.asks) (ended_by u opts source.sites input j p t n asked on e))
        (λ u e q. ⊎_elim (λ g. g) (λ g. no_both (u == t) g.same q) (ended_by u opts source.sites input j p t n asked on e))
        (ride_fresh d.rides h.1 (told source d.given (drawn j w t) (drawn_fresh j w t x))) x

pub law_fresh : LawFresh
law_fresh = record {
  steps = λ source s f h. walk s f source h;
  told = λ source given s f. told source given s f;
  runs = λ source input opts j w r range f on h. run_fresh source input opts range r f on h;
}
