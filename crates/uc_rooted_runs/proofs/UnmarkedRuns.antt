-- Who runs as an object goes has a name of its own, so nobody has a mark around that.
use Rattle.std.proofs.Common.{◌≡◌, ℕ, ◌<◌, ◌≤◌, inl, inr, Bool, false, List, [], ◌∷◌, ◌++◌, sym, ap, subst, arith, ⊎_elim}
use Rattle.std.specs.Prelude.{if◌then◌else◌}
use Rattle.std.proofs.lemmas.Bool.{cases_lt}
use Rattle.uc_tree.specs.Source as src
use Rattle.uc_tree.specs.Source.{Source, Purpose, Routine, routine_of}
use Rattle.uc_entry.specs.declared.entry.Entry.{Entry}
use Rattle.uc_entry.specs.declared.entry.Options.{Options}
use Rattle.uc_entry.specs.declared.request.Asked.{Asked}
use Rattle.uc_entry.specs.declared.request.Request.{Request}
use Rattle.uc_entry.specs.declared.request.Request.TheVariants as ask
use Rattle.uc_acts.specs.Journal.{Journal, is_over, own_object}
use Rattle.uc_acts.specs.Known.{task_count, spawns}
use Rattle.uc_acts.specs.Acts.{act, lone_limit}
use Rattle.uc_acts.specs.KernelRuns.{InRange}
use Rattle.uc_acts.proofs.Bounds.{over_limit}
use Rattle.uc_acts.proofs.SoundLemmas.{self_test}
use Rattle.uc_machine.specs.declared.exec.Exec.{Exec}
use Rattle.uc_machine.specs.declared.exec.Owner.TheVariants.{Frame}
use Rattle.uc_machine.specs.Pieces.{Value, State}
use Rattle.uc_machine.specs.Quiet as quiet
use Rattle.uc_machine.specs.Quiet.{first_state}
use Rattle.uc_machine.specs.Answering.{answered, child_of}
use Rattle.uc_machine.specs.Rides.{Rides, slices, goes_on, ticks, asks}
use Rattle.uc_meaning.specs.Runs.{World, Runs, gives, no_room, acts, begun, more, bare, drawn, world_after}
use Rattle.uc_state_laws.specs.Fitting.{RunFits}
use Rattle.uc_state_laws.proofs.Others.{run_rests}
use Rattle.uc_state_laws.specs.RoomRuns.{stays}
use Rattle.uc_state_laws.specs.Opens.{RideMeets, RunMeets}
use Rattle.uc_name_laws.specs.NameSteps as names
use Rattle.uc_name_laws.proofs.Homes.{no_both}
use Rattle.uc_life_laws.specs.RunningRuns.{RunLeaves}
use Rattle.uc_life_laws.proofs.Owned.{tasks_grow}
use Rattle.uc_life_laws.proofs.NamedWorlds.{run_named, known}
use Rattle.uc_typing.specs.Typing.{Ty, Table}
use Rattle.uc_life_laws.specs.Things.{Few, AtField, IsFor, InTodo}
use Rattle.uc_life_laws.specs.OwnNames as own
use Rattle.uc_life_laws.proofs.OwnNamesLemmas.{law_own_names}
use Rattle.uc_life_laws.specs.Marks.{Marked, LoneState, LoneStep, Freed, Puts}
use Rattle.uc_life_laws.specs.Unmarked.{HasOwnName, UnmarkedAt, RunUnmarked}
use Rattle.uc_life_laws.proofs.UnmarkedWalk.{law_steps}
use Rattle.uc_life_laws.proofs.UnmarkedWorlds.{law_runs}
use Rattle.uc_rooted_runs.specs.UnmarkedRuns.{LeftBehind, RunLeft, LawUnmarkedRuns}

-- a task that is not spawned yet has no marks
module _ (t : Table) (n : Exec) (f : ℕ) (this : Value) where
  none_behind : (p : Purpose) (line : ℕ) (w : Value) (a : Ty) → InTodo (IsFor t (Frame n f) this) (AtField t (Frame n f) this) (quiet.behind_body p line) w a → ⊥
  none_behind src.TaskMain line w a m = m
  none_behind src.CoroutineMain line w a m = m
  none_behind src.Procedure line w a m = m
  none_behind src.Function line w a m = m
  none_behind src.Builder line w a m = m

abbrev NoMarks : Table → State → Type 0
NoMarks t s = (w : Value) (a : Ty) → Marked t s.env.exec (s.run ∷ s.callers) w a → ⊥

pub first_unmarked : (t : Table) (source : Source) (s : State) → s ≡ first_state (routine_of source source.main) 0 → NoMarks t s
first_unmarked t source s e = subst (NoMarks t) (sym e) (by (routine_of source source.main))
  where
    by : (r : Routine) → NoMarks t (first_state r 0)
    by r w a (inl m) = none_behind t (first_state r 0).env.exec 0 (first_state r 0).run.this r.purpose r.line w a m
    by r w a (inr m) = m

-- a name that no other has
pub own_name : (t : Table) (source : Source) (j : Journal) (x : World) (u : ℕ) → ((v : ℕ) → task_count j ≤ v → x.tasks v ≡ first_state (routine_of source source.main) 0) → own.HasOwnName j x u → HasOwnName t u x
own_name t source j x u later h = record {
  running = λ v e. ⊎_elim (λ le. inl (h.running v le e)) (λ le. inr (first_unmarked t source (x.tasks v) (later v le))) (cases_lt v (task_count j));
  tasks = h.tasks;
  homes = h.homes;
}

-- what goes is free as it is asked, and stays so
module _ (t : Table) (few : Few) (source : Source) where
  step_on : (s : State) → Puts t few s → LoneState t few s → LoneStep t few (quiet.quiet source s)
  step_on s p h = law_steps.steps t few source s h p

  ridden : {s u : State} {q k : ℕ} {a : Asked} (r : Rides source s q u k a) → RideMeets (Puts t few) source s q u k a r → LoneState t few s → Freed t few a.request u
  ridden slices p h = tt
  ridden (goes_on {s} e r) p h = ridden r p.1 (subst (LoneStep t few) e (step_on s p.0 h))
  ridden (ticks {s} e r) p h = ridden r p.1 (subst (LoneStep t few) e (step_on s p.0 h))
  ridden (asks {s} {t = v} {q} {r} e) p h = let x : LoneState t few v × Freed t few r v = subst (LoneStep t few) e (step_on s p h) in x.1

  left_so : (w : World) (a : List Entry) (n : ℕ) (s : State) (q : Request) → Freed t few q s → Freed t few q ((world_after source a w n s).tasks n)
  left_so w a n s q h =
      subst (λ (b : Bool). Freed t few q (if b then bare s else (if spawns a n then child_of source (own_object n a) s else w.tasks n))) (sym (self_test n)) (same q h)
    where
      same : (q : Request) → Freed t few q s → Freed t few q (bare s)
      same (ask.Gone o) h = h
      same q h = tt

module _ (t : Table) (few : Few) (source : Source) (input : List ℕ) (opts : Options) (range : InRange opts) where
  -- behind an act
  left_by : (j : Journal) (x : World) (u : ℕ) (q : Request) → ((v : ℕ) → task_count j ≤ v → x.tasks v ≡ first_state (routine_of source source.main) 0) → own.HasOwnName j x u → Freed t few q (x.tasks u) → UnmarkedAt t few u x q → LeftBehind t few j x u q
  left_by j x u (ask.Gone o) later h f m = record {
    belongs = f.0;
    name = h;
    unmarked = m (own_name t source j x u later h);
    none_waits = λ v le. ap (λ (s : State). s.callers) (later v le);
    first_object = λ v le. ap (λ (s : State). s.run.this) (later v le);
  }
  left_by j x u q later h f m = tt

  run_left : {j : Journal} {w : World} (r : Runs source input opts j w) → RunFits source input opts j w r → is_over j ≡ false → RunLeaves source input opts j w r → RunMeets names.Spares source input opts j w r → RunMeets (Puts t few) source input opts j w r → RunUnmarked t few source input opts j w r → RunLeft t few source input opts j w r
  run_left begun f on l h p m = tt
  run_left (more r o (gives q v s le)) f on l h p m = (run_left r f.0 o l.0 h.0 p.0 m.0, tt)
  run_left (more {j} r o (no_room q v s le)) f on l h p m = no_both (is_over (j ++ lone_limit ∷ [])) (over_limit j 0 0) on
  run_left (more {j} {w} r o (acts q u k s asked d)) f on l h p m =
      let all = law_own_names source input opts (j ++ act opts source.sites input j q u k asked) (world_after source (act opts source.sites input j q u k asked) w u s) (more r o (acts q u k s asked d)) range f on l h in
      let y = run_named source input opts range r f.0 o in
      let lt : u < task_count j = known source input opts range (run_rests source input opts range r f.0 o) o y.serials y.world q u d.runs in
      let grown = tasks_grow j (act opts source.sites input j q u k asked) in
      let lone = law_runs t few source input opts j w r p.0 in
      let begun_so : LoneState t few (answered source d.given (drawn j w u)) = lone.comes u (answered source d.given (drawn j w u)) (record { given = d.given; processor = q; runs = d.runs; told = d.told; leads = stays }) tt in
      let freed : Freed t few asked.request s = ridden t few source d.rides p.1 begun_so in
      (run_left r f.0 o l.0 h.0 p.0 m.0, left_by (j ++ act opts source.sites input j q u k asked) (world_after source (act opts source.sites input j q u k asked) w u s) u asked.request all.later (all.rests u (omega (arith, lt, grown))) (left_so t few source w (act opts source.sites input j q u k asked) u s asked.request freed) m.1)

pub law_unmarked_runs : LawUnmarkedRuns
law_unmarked_runs t few source input opts j w r range fits on leaves spares puts =
    let k = law_runs t few source input opts j w r puts in
    run_left t few source input opts range r fits on leaves spares puts k.gone
