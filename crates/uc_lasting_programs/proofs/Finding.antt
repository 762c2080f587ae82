-- Step by step: routines that are named are there, no main is called, and what is bound is the execution's own.
use Rattle.std.proofs.Common.{◌≡◌, ℕ, true, false, List, [], ◌∷◌, Option, Some, None, ap, subst}
use Rattle.std.specs.Prelude.{drop, is_some, slice_get}
use Rattle.uc_tree.specs.Programs.{Program}
use Rattle.uc_tree.specs.Source as src
use Rattle.uc_tree.specs.Source.{Purpose, Routine, Source}
use Rattle.uc_entry.specs.declared.entry.Options.{Options}
use Rattle.uc_entry.specs.declared.request.Asked.{Asked}
use Rattle.uc_acts.specs.Journal.{Journal, own_object, is_over}
use Rattle.uc_acts.specs.Serves.{left}
use Rattle.uc_acts.specs.KernelRuns.{InRange}
use Rattle.uc_machine.specs.declared.exec.Exec.{Exec}
use Rattle.uc_machine.specs.declared.exec.Owner.TheVariants.{Frame, Fields}
use Rattle.uc_machine.specs.Pieces as piece
use Rattle.uc_machine.specs.Pieces.{Value, Number, Place, Running, Object, Nothing, Todo, State, top, below}
use Rattle.uc_machine.specs.Answering.{answered}
use Rattle.uc_machine.specs.Rides.{Rides, slices, goes_on, ticks, asks}
use Rattle.uc_meaning.specs.Runs.{World, Runs, AsksIn, drawn, gives, no_room, acts, begun, more}
use Rattle.uc_resolve.specs.Resolve.{source_of}
use Rattle.uc_rules.specs.Breaks.{breaks_of}
use Rattle.uc_sound.specs.SoundFormed.{IsFormed}
use Rattle.uc_state_laws.specs.Fitting.{RunFits}
use Rattle.uc_state_laws.proofs.Others.{run_rests}
use Rattle.uc_state_laws.proofs.DeepWorlds.{deep_run}
use Rattle.uc_state_laws.specs.Opens.{RideMeets, RunMeets}
use Rattle.uc_state_laws.specs.Counted.{params_at, params}
use Rattle.uc_life_laws.specs.Things.{Few}
use Rattle.uc_life_laws.specs.Belonging.{Belongs, frame}
use Rattle.uc_depth_laws.specs.Entering.{EndsMain, IsMainRoutine, IsMain, EnteredSource}
use Rattle.uc_depth_laws.proofs.Answers.{law_steps}
use Rattle.uc_depth_laws.proofs.Standing.{law_free, law_drawn}
use Rattle.uc_inner_laws.specs.Inner.{Part, Plain, Helper, Maker, Uncalled, Begun, Ground, InnerSource, params as inner_params}
use Rattle.uc_inner_laws.specs.Standing.{Mark, Base, Ok, Ready, ground, rests, StandsState, StandsStep}
use Rattle.uc_inner_laws.proofs.Walk.{law_steps as inner_steps}
use Rattle.uc_sound.proofs.Routines.{law_entered}
use Rattle.uc_letting_laws.specs.AloneRuns.{RunAlone}
use Rattle.uc_letting_laws.proofs.StandingWorlds.{standing_start}
use Rattle.uc_letting_laws.proofs.LettingWorlds.{both_run}
use Rattle.uc_calls_laws.specs.Calls.{main_part_of, IsUncalled}
use Rattle.uc_calls_laws.proofs.CallParts.{law_no_mains}
use Rattle.uc_putting_laws.specs.OwnPlaces.{OwnPlacesAt, OwnPlaces}
use Rattle.uc_putting_laws.proofs.OwnPlaces.{law_own_places}
use Rattle.uc_rooted_runs.specs.Binds.{IsOwnPlace, BindsOwnBy, BindsOwn}
use Rattle.uc_rooted_runs.specs.Mains.{IsNoMain, AreNoMains, CallsNoMainBy, CallsNoMain, FindsBy, FindsAll}
use Rattle.uc_lasting_programs.specs.Finding.{LawFinding}
use Rattle.uc_lasting_programs.proofs.Owing.{run_owed}

-- routines that are named are there

there : {A : Type 0} (o : Option A) → is_some o ≡ true → o ≡ None → ⊥
there None h e = let z : false ≡ true = h in absurd (cc)
there (Some x) h e = absurd (cc)

module _ (part : ℕ → Part) (source : Source) (s : State) where
  finds : (b : Base) (ms : List Mark) (l : List Todo) → (b.unwound ≡ true → is_some s.run.raised ≡ true) → Ok part source b ms l → FindsBy source l s
  finds b ms [] r h = tt
  finds b ms (piece.CallNow k ∷ todo) r h = there (slice_get source.routines k) h.0.1
  finds b ms (piece.CallOnNow k ∷ todo) r h = there (slice_get source.routines k) h.0.1
  finds b ms (piece.CallUnwrittenNow k ∷ todo) r h = there (slice_get source.routines k) h.0.1
  finds b ms (piece.LiveNow k ∷ todo) r h = there (slice_get source.routines k) h.0
  finds b ms (piece.EnterNow m k ∷ todo) r h = there (slice_get source.routines k) h.0
  finds b ms (piece.MakeNow c k ∷ todo) r h = there (slice_get source.routines k) h.0.1
  finds b ms (piece.BindMadeNow c k ∷ todo) r h = there (slice_get source.routines k) h.0.2
  finds b ms (piece.Unwind ∷ []) r h = there s.run.raised (r h.0)
  finds b ms (piece.Unwind ∷ (p ∷ todo)) r h = tt
  finds b ms (p ∷ todo) r h = tt

state_finds : (part : ℕ → Part) (source : Source) (mine : ℕ) (s : State) → StandsState part source mine s → FindsAll source s
state_finds part source mine s h = finds part source s h.run.base h.run.marks s.run.control h.run.reason h.run.ok

-- no main is called, where mains are parts that nobody calls

purpose_no : (q : Purpose) → (EndsMain q → ⊥) → IsNoMain q
purpose_no src.TaskMain n = absurd (n tt)
purpose_no src.CoroutineMain n = absurd (n tt)
purpose_no src.Procedure n = tt
purpose_no src.Function n = tt
purpose_no src.Builder n = tt

none_main : (o : Option Routine) → (IsMainRoutine o → ⊥) → AreNoMains o
none_main None n = λ x e. absurd (cc)
none_main (Some r) n = λ x e. subst (λ (z : Routine). IsNoMain z.purpose) (some_of e) (purpose_no r.purpose n)
  where
    some_of : {a b : Routine} → Some a ≡ Some b → a ≡ b
    some_of e = cc

ready_part : (g : Ground) (p : Part) (ms : List Mark) → Ready g p ms → IsUncalled p → ⊥
ready_part g Plain ms r u = u
ready_part g Helper ms r u = u
ready_part g Maker ms r u = u
ready_part g Uncalled ms r u = r
ready_part g Begun ms r u = r

module _ (part : ℕ → Part) (source : Source) (mains : (r : ℕ) → IsMain source r → IsUncalled (part r)) (s : State) where
  called : (b : Base) (ms : List Mark) (l : List Todo) → Ok part source b ms l → CallsNoMainBy source l
  called b ms [] h = tt
  called b ms (piece.CallNow r ∷ todo) h = none_main (slice_get source.routines r) (λ m. subst IsUncalled h.0.0 (mains r m))
  called b ms (piece.CallOnNow r ∷ todo) h = none_main (slice_get source.routines r) (λ m. ready_part (ground b.ground todo) (part r) (rests (inner_params part source r) ms) h.0.0 (mains r m))
  called b ms (piece.CallUnwrittenNow r ∷ todo) h = none_main (slice_get source.routines r) (λ m. ready_part (ground b.ground todo) (part r) (rests (inner_params part source r) ms) h.0.0 (mains r m))
  called b ms (p ∷ todo) h = tt

state_calls : (part : ℕ → Part) (source : Source) → ((r : ℕ) → IsMain source r → IsUncalled (part r)) → (mine : ℕ) (s : State) → StandsState part source mine s → CallsNoMain source s
state_calls part source mains mine s h = called part source mains s h.run.base h.run.marks s.run.control h.run.ok

-- what is bound

own_place : (few : Few) (n : Exec) (v : Value) → Belongs few n v → IsOwnPlace n v
own_place few n (Place (Frame m d) p) (frame e) = e
own_place few n (Place (Fields o) p) h = tt
own_place few n (Number z) h = tt
own_place few n (Running x) h = tt
own_place few n (Object o) h = tt
own_place few n Nothing h = tt

module _ (few : Few) (source : Source) (s : State) where
  params_of : (r : ℕ) (x : Routine) → slice_get source.routines r ≡ Some x → params source r ≡ x.params
  params_of r x e = ap params_at e

  bound : (l : List Todo) → OwnPlacesAt few source l s → BindsOwnBy source l s
  bound [] h = tt
  bound (piece.BindNow ∷ todo) h = own_place few s.env.exec (top (below s.run.operands)) h
  bound (piece.BindMadeNow c r ∷ todo) h = λ x e. own_place few s.env.exec (top (drop x.params (below s.run.operands))) (subst (λ n. Belongs few s.env.exec (top (drop n (below s.run.operands)))) (params_of r x e) h)
  bound (piece.SetUpNow r ∷ todo) h = own_place few s.env.exec s.run.this h
  bound (p ∷ todo) h = tt

state_binds : (few : Few) (source : Source) (s : State) → OwnPlaces few source s → BindsOwn source s
state_binds few source s h = bound few source s s.run.control h

-- rides and runs

module _ (P Q : State → Type 0) (f : (s : State) → P s → Q s) where
  pub ride_map : {source : Source} {s u : State} {q k : ℕ} {a : Asked} (r : Rides source s q u k a) → RideMeets P source s q u k a r → RideMeets Q source s q u k a r
  ride_map slices h = tt
  ride_map (goes_on {s} e r) h = (f s h.0, ride_map r h.1)
  ride_map (ticks {s} e r) h = (f s h.0, ride_map r h.1)
  ride_map (asks {s} e) h = f s h

  pub run_map : {source : Source} {input : List ℕ} {opts : Options} {j : Journal} {w : World} (r : Runs source input opts j w) → RunMeets P source input opts j w r → RunMeets Q source input opts j w r
  run_map begun h = tt
  run_map (more r o (gives q t s le)) h = (run_map r h.0, tt)
  run_map (more r o (no_room q t s le)) h = (run_map r h.0, tt)
  run_map (more r o (acts q t n s asked d)) h = (run_map r h.0, ride_map d.rides h.1)

module _ (p : Program) (formed : IsFormed p) (ok : breaks_of p ≡ []) where
  entered : EnteredSource (source_of p)
  entered = law_entered p formed ok

  inner : InnerSource (main_part_of p) (source_of p)
  inner = (law_no_mains p formed ok).inner

  abbrev Standing : ℕ → State → Type 0
  Standing own s = StandsState (main_part_of p) (source_of p) own s

  -- of the task with this own object
  ride_stands : (own : ℕ) {s u : State} {q k : ℕ} {a : Asked} (r : Rides (source_of p) s q u k a) → Standing own s → RideMeets (Standing own) (source_of p) s q u k a r
  ride_stands own slices v = tt
  ride_stands own (goes_on {s} e r) v = (v, ride_stands own r (subst (StandsStep (main_part_of p) (source_of p) own s) e (inner_steps.steps (main_part_of p) (source_of p) inner own s v)))
  ride_stands own (ticks {s} e r) v = (v, ride_stands own r (subst (StandsStep (main_part_of p) (source_of p) own s) e (inner_steps.steps (main_part_of p) (source_of p) inner own s v)))
  ride_stands own (asks {s} e) v = v

  abbrev Found : State → Type 0
  Found s = FindsAll (source_of p) s × CallsNoMain (source_of p) s

  found : (own : ℕ) (s : State) → Standing own s → Found s
  found own s v = (state_finds (main_part_of p) (source_of p) own s v, state_calls (main_part_of p) (source_of p) (law_no_mains p formed ok).mains own s v)

  module _ (input : List ℕ) (opts : Options) (range : InRange opts) where
    -- on the way to what is asked next
    pub ride_found : {j : Journal} {w : World} (r : Runs (source_of p) input opts j w) → RunFits (source_of p) input opts j w r → RunAlone (source_of p) input opts j w r → is_over j ≡ false → (q t n : ℕ) (s : State) (asked : Asked) (d : AsksIn (source_of p) opts j w q t n s asked) → RideMeets (λ v. FindsAll (source_of p) v × CallsNoMain (source_of p) v) (source_of p) (answered (source_of p) d.given (drawn j w t)) (left opts j t) s n asked d.rides
    ride_found {j} {w} r f g on q t n s asked d =
        let rests = run_rests (source_of p) input opts range r f on in
        let deeps = deep_run (source_of p) input opts range r f on in
        let x = both_run (main_part_of p) (source_of p) entered inner law_steps law_free law_drawn input opts range r f g on in
        ride_map (Standing (own_object t j)) Found (found (own_object t j)) d.rides (ride_stands (own_object t j) d.rides (standing_start (main_part_of p) (source_of p) inner entered.ends input opts range rests on deeps x.standing q t n s asked d))

    run_found : {j : Journal} {w : World} (r : Runs (source_of p) input opts j w) → RunFits (source_of p) input opts j w r → RunAlone (source_of p) input opts j w r → RunMeets Found (source_of p) input opts j w r
    run_found begun f g = tt
    run_found (more r o (gives q t s le)) f g = (run_found r f.0 g.0, tt)
    run_found (more r o (no_room q t s le)) f g = (run_found r f.0 g.0, tt)
    run_found (more r o (acts q t n s asked d)) f g = (run_found r f.0 g.0, ride_found r f.0 g.0 o q t n s asked d)

pub law_finding : LawFinding
law_finding = record {
  finds = state_finds;
  calls = state_calls;
  binds = state_binds;
  runs = λ p formed ok input opts range j w r fits alone.
      let f = run_found p formed ok input opts range r fits alone in
      record {
        finds = run_map (λ s. FindsAll (source_of p) s × CallsNoMain (source_of p) s) (FindsAll (source_of p)) (λ s h. h.0) r f;
        calls = run_map (λ s. FindsAll (source_of p) s × CallsNoMain (source_of p) s) (CallsNoMain (source_of p)) (λ s h. h.1) r f;
      };
  runs_bind = λ p formed ok few input opts range j w r fits fair.
      run_map (OwnPlaces few (source_of p)) (BindsOwn (source_of p)) (state_binds few (source_of p)) r (law_own_places.runs p formed ok few input opts range j w r fits fair);
  owed = λ p formed ok input opts range j w r fits alone. run_owed p formed ok input opts range r fits alone;
}
