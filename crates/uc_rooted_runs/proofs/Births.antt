-- In each run executions are made by others that were made before: a new name is none of those that were there.
use Rattle.std.proofs.Common.{◌≡◌, ℕ, suc, ◌<◌, ◌≤◌, Bool, true, false, List, [], ◌∷◌, ◌++◌, Option, Some, None, refl, sym, ap, ◌∙◌, subst, arith}
use Rattle.std.specs.Prelude.{nat_eq, if◌then◌else◌, slice_get}
use Rattle.std.proofs.lemmas.Bool.{eqb-true, eq-eqb}
use Rattle.uc_tree.specs.Source.{Source, Routine}
use Rattle.uc_entry.specs.declared.entry.Entry.{Entry}
use Rattle.uc_entry.specs.declared.entry.Options.{Options}
use Rattle.uc_entry.specs.declared.request.Asked.{Asked}
use Rattle.uc_entry.specs.declared.request.Request.{Request}
use Rattle.uc_entry.specs.declared.request.Request.TheVariants as ask
use Rattle.uc_acts.specs.Journal.{Journal, held, is_over}
use Rattle.uc_acts.specs.KernelRuns.{InRange, Fits}
use Rattle.uc_acts.specs.Known.{has, task_count, owner}
use Rattle.uc_acts.specs.Acts.{act, dispatch, lone_limit}
use Rattle.uc_acts.proofs.Bounds.{over_limit}
use Rattle.uc_machine.specs.declared.exec.Exec.{Exec}
use Rattle.uc_machine.specs.declared.exec.Home.{Home}
use Rattle.uc_machine.specs.declared.exec.Home.TheVariants as home
use Rattle.uc_machine.specs.Executions.{exec_eq, members_at}
use Rattle.uc_machine.specs.Switches.{new_exec}
use Rattle.uc_machine.specs.Pieces as piece
use Rattle.uc_machine.specs.Pieces.{Value, Todo, State, Members, Asks}
use Rattle.uc_machine.specs.Quiet.{home_at}
use Rattle.uc_machine.specs.Answering.{answered}
use Rattle.uc_machine.specs.Rides.{Rides, slices, goes_on, ticks, asks}
use Rattle.uc_meaning.specs.Runs.{World, May, Runs, AsksIn, begun, more, gives, no_room, acts, drawn}
use Rattle.uc_state_laws.specs.Fitting.{RunFits}
use Rattle.uc_acts.proofs.SoundLemmas.{tasks_push, objects_push}
use Rattle.uc_step_laws.specs.Hands.{keys}
use Rattle.uc_state_laws.proofs.Makes.{just_made_given}
use Rattle.uc_state_laws.proofs.Others.{RunRests, run_rests, asking as asks_with}
use Rattle.uc_state_laws.proofs.DeepWorlds.{DeepWorld, deep_run}
use Rattle.uc_state_laws.specs.Opens.{RideMeets, RunMeets}
use Rattle.uc_life_laws.specs.Knowing.{main_of}
use Rattle.uc_name_laws.specs.Below.{IsBelow}
use Rattle.uc_name_laws.specs.NameSteps.{Named, StepNamed, NamedBehind, Grows, IsBorn}
use Rattle.uc_name_laws.proofs.Homes.{no_both, none_some, same_exec, exec_self}
use Rattle.uc_name_laws.proofs.Values.{below_more}
use Rattle.uc_name_laws.proofs.Walk.{walk}
use Rattle.uc_name_laws.proofs.Births.{law_new}
use Rattle.uc_life_laws.specs.NamedRuns.{is_here}
use Rattle.uc_life_laws.proofs.Owned.{owner_still}
use Rattle.uc_life_laws.proofs.Riding.{RideNamed, run_more, ride_more, grows_not}
use Rattle.uc_life_laws.proofs.NamedWorlds.{WorldNamed, run_named, named_act, found_none, vacuous, known, start, ride, after_by, after_more, now_more, own_stays}
use Rattle.uc_life_laws.specs.Placed.{Placed}
use Rattle.uc_life_laws.specs.Outermost.{outermost}
use Rattle.uc_rooted_runs.specs.Makers.{Makers, MadeBy}
use Rattle.uc_rooted_runs.specs.Births.{made_now, with_birth, makers_by, makers_behind, ride_makers, makers_asked, run_makers, MakesLater, SpawnsLater, MaySpawnLater, RunSpawnsLater, LawBirths}

-- of those that were made by now the same is told
pub record Keeps (serials : Home → ℕ) (b c : Makers) : Type 0 where
  pub parents : (m : Exec) → IsBelow serials m → c.parent m ≡ b.parent m
  pub seats : (m : Exec) → IsBelow serials m → (c.seat m).place ≡ (b.seat m).place
  pub tasks : (m : Exec) → IsBelow serials m → (c.seat m).task ≡ (b.seat m).task
  pub befores : (m : Exec) → IsBelow serials m → c.before m ≡ b.before m
  pub ranks : (m : Exec) → IsBelow serials m → c.rank m ≡ b.rank m

keeps_same : (serials : Home → ℕ) (b : Makers) → Keeps serials b b
keeps_same serials b = record { parents = λ m h. refl; seats = λ m h. refl; tasks = λ m h. refl; befores = λ m h. refl; ranks = λ m h. refl }

keeps_on : (before behind : Home → ℕ) → ((h : Home) → before h ≤ behind h) → (a b c : Makers) → Keeps before a b → Keeps behind b c → Keeps before a c
keeps_on before behind le a b c h k = record {
  parents = λ m x. k.parents m (below_more before behind le m x) ∙ h.parents m x;
  seats = λ m x. k.seats m (below_more before behind le m x) ∙ h.seats m x;
  tasks = λ m x. k.tasks m (below_more before behind le m x) ∙ h.tasks m x;
  befores = λ m x. k.befores m (below_more before behind le m x) ∙ h.befores m x;
  ranks = λ m x. k.ranks m (below_more before behind le m x) ∙ h.ranks m x;
}

keeps_less : (before behind : Home → ℕ) → ((h : Home) → before h ≤ behind h) → (b c : Makers) → Keeps behind b c → Keeps before b c
keeps_less before behind le b c k = record {
  parents = λ m x. k.parents m (below_more before behind le m x);
  seats = λ m x. k.seats m (below_more before behind le m x);
  tasks = λ m x. k.tasks m (below_more before behind le m x);
  befores = λ m x. k.befores m (below_more before behind le m x);
  ranks = λ m x. k.ranks m (below_more before behind le m x);
}

module _ (serials : Home → ℕ) (b : Makers) (n by : Exec) (v : Value) (main : Bool) (ps : List Placed) (new : IsBelow serials n → ⊥) where
  apart : (m : Exec) → IsBelow serials m → exec_eq m n ≡ false
  apart m h = at (exec_eq m n) refl
    where
      at : (c : Bool) → exec_eq m n ≡ c → exec_eq m n ≡ false
      at true e = absurd (new (subst (IsBelow serials) (same_exec m n e) h))
      at false e = e

  made_keeps : Keeps serials b (made_now b n by v main ps)
  made_keeps = record {
    parents = λ m h. ap (λ c. if c then by else b.parent m) (apart m h);
    seats = λ m h. ap (λ c. if c then v else (b.seat m).place) (apart m h);
    tasks = λ m h. ap (λ c. if c then main else (b.seat m).task) (apart m h);
    befores = λ m h. ap (λ c. if c then ps else b.before m) (apart m h);
    ranks = λ m h. ap (λ c. if c then suc (b.rank by) else b.rank m) (apart m h);
  }

  made_by : IsBelow serials by → MadeBy (made_now b n by v main ps) n by v main ps
  made_by h =
      let new_rank : (made_now b n by v main ps).rank n ≡ suc (b.rank by) = ap (λ c. if c then suc (b.rank by) else b.rank n) (exec_self n) in
      let old_rank : (made_now b n by v main ps).rank by ≡ b.rank by = ap (λ c. if c then suc (b.rank by) else b.rank by) (apart by h) in
      record {
        parent = ap (λ c. if c then by else b.parent n) (exec_self n);
        seat = ap (λ c. if c then v else (b.seat n).place) (exec_self n);
        task = ap (λ c. if c then main else (b.seat n).task) (exec_self n);
        before = ap (λ c. if c then ps else b.before n) (exec_self n);
        later = omega (arith, new_rank, old_rank);
      }

-- what is told of one that was made goes on to be
later_kept : (serials : Home → ℕ) (b c : Makers) → Keeps serials b c → (n by : Exec) (v : Value) (main : Bool) (ps : List Placed) → IsBelow serials n → IsBelow serials by → MadeBy b n by v main ps → MadeBy c n by v main ps
later_kept serials b c k n by v main ps h i y =
    let p = k.ranks n h in
    let q = k.ranks by i in
    let l = y.later in
    record { parent = k.parents n h ∙ y.parent; seat = k.seats n h ∙ y.seat; task = k.tasks n h ∙ y.task; before = k.befores n h ∙ y.before; later = omega (arith, p, q, l) }

-- all that a state makes, by one that was made
pub record MakesBelow (source : Source) (serials : Home → ℕ) (b : Makers) (s : State) : Type 0 where
  pub running : IsBelow serials s.env.exec
  pub born : (n : Exec) → IsBorn source s n → IsBelow serials n
  pub later : MakesLater source b s

pub makes_more : (source : Source) (before behind : Home → ℕ) → ((h : Home) → before h ≤ behind h) → (b c : Makers) → Keeps before b c → (s : State) → MakesBelow source before b s → MakesBelow source behind c s
makes_more source before behind le b c k s h = record {
  running = below_more before behind le s.env.exec h.running;
  born = λ n x. below_more before behind le n (h.born n x);
  later = λ n x. later_kept before b c k n s.env.exec s.run.this false (outermost s.callers) (h.born n x) h.running (h.later n x);
}

grows_on : (here : Home → Bool) (a b c : Home → ℕ) → Grows here a b → Grows here b c → Grows here a c
grows_on here a b c g h = record {
  more = λ k. let x = g.more k in let y = h.more k in omega (arith, x, y);
  same = λ k e. h.same k e ∙ g.same k e;
}

-- a step

record Next (source : Source) (before behind : Home → ℕ) (b : Makers) (s : State) : Type 0 where
  keeps : Keeps before b (makers_behind source s b)
  makes : MakesBelow source behind (makers_behind source s b) s

-- an execution is set up next
abbrev SetsUp : List Todo → Type 0
SetsUp (piece.SetUpNow r ∷ todo) = Unit {0}
SetsUp todo = ⊥

module _ (source : Source) (here : Home → Bool) where
  module _ (serials : Home → ℕ) (s : State) (k : Named here false serials s) (h : NamedBehind source here false serials s) (b : Makers) where
    abbrev Tells : Makers → Type 0
    Tells c = Keeps serials b c × MakesBelow source h.serials c s

    running : IsBelow h.serials s.env.exec
    running = below_more serials h.serials h.grows.more s.env.exec k.names.env_named.exec_below

    in_hand : (n : Exec) (x : IsBorn source s n) → members_at (home_at s.run.this s.env) s.env ≡ Some x.members
    in_hand n x = ap (λ q. members_at q s.env) (sym (ap (λ (m : Exec). m.home) x.named)) ∙ x.in_hand

    -- a state that makes none
    makes_none : ((n : Exec) → IsBorn source s n → ⊥) → Tells b
    makes_none f = (keeps_same serials b, record { running = running; born = h.born; later = λ n x. absurd (f n x) })

    makes_one : (m : Members) → members_at (home_at s.run.this s.env) s.env ≡ Some m → Tells (made_now b (new_exec (home_at s.run.this s.env) s.env) s.env.exec s.run.this false (outermost s.callers))
    makes_one m e =
        let new : IsBelow serials (new_exec (home_at s.run.this s.env) s.env) → ⊥ = law_new.unnamed here false serials s k (home_at s.run.this s.env) m e in (
          made_keeps serials b (new_exec (home_at s.run.this s.env) s.env) s.env.exec s.run.this false (outermost s.callers) new,
          record {
            running = running;
            born = h.born;
            later = λ n x. subst (λ q. MadeBy (made_now b (new_exec (home_at s.run.this s.env) s.env) s.env.exec s.run.this false (outermost s.callers)) q s.env.exec s.run.this false (outermost s.callers)) (sym x.named) (made_by serials b (new_exec (home_at s.run.this s.env) s.env) s.env.exec s.run.this false (outermost s.callers) new k.names.env_named.exec_below);
          },
        )

    same_routine : (r : ℕ) (todo : List Todo) → s.run.control ≡ piece.SetUpNow r ∷ todo → (n : Exec) (x : IsBorn source s n) → slice_get source.routines r ≡ Some x.routine
    same_routine r todo c n x =
        let e : piece.SetUpNow r ∷ todo ≡ piece.SetUpNow x.main ∷ x.todo = sym c ∙ x.next in
        let m : r ≡ x.main = cc in
        ap (slice_get source.routines) m ∙ x.known

    set_up : (r : ℕ) (todo : List Todo) → s.run.control ≡ piece.SetUpNow r ∷ todo → (x : Option Routine) → slice_get source.routines r ≡ x → (o : Option Members) → members_at (home_at s.run.this s.env) s.env ≡ o → Tells (with_birth x o s b)
    set_up r todo c None q o e = makes_none (λ n x. none_some x.routine (slice_get source.routines r) q (same_routine r todo c n x))
    set_up r todo c (Some y) q None e = makes_none (λ n x. none_some x.members (members_at (home_at s.run.this s.env) s.env) e (in_hand n x))
    set_up r todo c (Some y) q (Some m) e = makes_one m e

    told : (l : List Todo) → s.run.control ≡ l → Tells (makers_by source l s b)
    told (piece.SetUpNow r ∷ todo) c = set_up r todo c (slice_get source.routines r) refl (members_at (home_at s.run.this s.env) s.env) refl
    told l c = makes_none (λ n x. subst SetsUp (sym (sym c ∙ x.next)) tt)

    next : Next source serials h.serials b s
    next = let z : Tells (makers_behind source s b) = told s.run.control refl in record { keeps = z.0; makes = z.1 }

  -- a ride

  pub record Ridden (before : Home → ℕ) (b : Makers) (s : State) (q : ℕ) (u : State) (k : ℕ) (a : Asked) (r : Rides source s q u k a) : Type 0 where
    pub now : Home → ℕ
    pub grows : Grows here before now
    pub named : Named here false now u
    pub keeps : Keeps before b (ride_makers source b r)
    pub makes : RideMeets (MakesBelow source now (ride_makers source b r)) source s q u k a r

  pub ridden : (serials : Home → ℕ) {s u : State} {q k : ℕ} {a : Asked} (r : Rides source s q u k a) → Named here false serials s → (b : Makers) → Ridden serials b s q u k a r
  ridden serials slices h b =
      record { now = serials; grows = grows_not here serials; named = h; keeps = keeps_same serials b; makes = tt }
  ridden serials (goes_on {s} e r) h b =
      let x = walk source here false serials s h (λ u. vacuous u) in
      let y = next serials s h x b in
      let c : Makers = makers_behind source s b in
      let z = ridden x.serials r (subst (StepNamed here false x.serials) e x.named) c in
      record {
        now = z.now;
        grows = grows_on here serials x.serials z.now x.grows z.grows;
        named = z.named;
        keeps = keeps_on serials x.serials x.grows.more b c (ride_makers source c r) y.keeps z.keeps;
        makes = (makes_more source x.serials z.now z.grows.more c (ride_makers source c r) z.keeps s y.makes, z.makes);
      }
  ridden serials (ticks {s} e r) h b =
      let x = walk source here false serials s h (λ u. vacuous u) in
      let y = next serials s h x b in
      let c : Makers = makers_behind source s b in
      let z = ridden x.serials r (subst (StepNamed here false x.serials) e x.named) c in
      record {
        now = z.now;
        grows = grows_on here serials x.serials z.now x.grows z.grows;
        named = z.named;
        keeps = keeps_on serials x.serials x.grows.more b c (ride_makers source c r) y.keeps z.keeps;
        makes = (makes_more source x.serials z.now z.grows.more c (ride_makers source c r) z.keeps s y.makes, z.makes);
      }
  ridden serials (asks {s} {t} {q} {r} e) h b =
      let x = walk source here false serials s h (λ u. vacuous u) in
      let y = next serials s h x b in
      let z : StepNamed here false x.serials (Asks r t) = subst (StepNamed here false x.serials) e x.named in
      record { now = x.serials; grows = x.grows; named = z.0; keeps = y.keeps; makes = y.makes }

-- a run

-- what a task that is spawned adds
one_main : (q : Request) (now : Home → ℕ) (a : ℕ) → q ≡ ask.Spawn a → after_by q now (home.Task a) ≡ suc (now (home.Task a))
one_main q now a e =
    ap (λ x. after_by x now (home.Task a)) e ∙ ap (λ b. if b then suc (now (home.Task a)) else now (home.Task a)) (eq-eqb a a refl)

module _ (source : Source) (input : List ℕ) (opts : Options) (range : InRange opts) where
  -- a task that is spawned is made by who asks

  one_not_none : (t : ℕ) (ts : List ℕ) → ts ≡ t ∷ [] → ts ≡ [] → ⊥
  one_not_none t ts e f = cc

  record Spawned (before behind : Home → ℕ) (b : Makers) (q : Request) (s : State) : Type 0 where
    keeps : Keeps before b (makers_asked q s b)
    running : IsBelow behind s.env.exec
    main : (o : ℕ) → q ≡ ask.Spawn o → IsBelow behind (main_of o)
    later : SpawnsLater (makers_asked q s b) q s

  spawned : (now : Home → ℕ) (q : Request) (s : State) → IsBelow now s.env.exec → ((o : ℕ) → q ≡ ask.Spawn o → now (home.Task o) ≡ 0) → (b : Makers) → Spawned now (after_by q now) b q s
  spawned now (ask.Spawn o) s h f b =
      let none = f o refl in
      let new : IsBelow now (main_of o) → ⊥ = λ l. omega (arith, l, none) in
      record {
        keeps = made_keeps now b (main_of o) s.env.exec (piece.Object o) true (outermost s.callers) new;
        running = below_more now (after_by (ask.Spawn o) now) (after_more (ask.Spawn o) now) s.env.exec h;
        main = λ k e. let one = one_main (ask.Spawn o) now k e in omega (arith, one);
        later = made_by now b (main_of o) s.env.exec (piece.Object o) true (outermost s.callers) new h;
      }
  spawned now q s h f b = record {
    keeps = keeps_same now b;
    running = below_more now (after_by q now) (after_more q now) s.env.exec h;
    main = λ o e. let one = one_main q now o e in omega (arith, one);
    later = tt;
  }

  -- who asks, and the main of the task that is spawned, were made
  pub record SpawnsBelow (serials : Home → ℕ) (b : Makers) (q : Request) (s : State) : Type 0 where
    pub running : IsBelow serials s.env.exec
    pub main : (o : ℕ) → q ≡ ask.Spawn o → IsBelow serials (main_of o)
    pub later : SpawnsLater b q s

  spawns_more : (before behind : Home → ℕ) → ((h : Home) → before h ≤ behind h) → (b c : Makers) → Keeps before b c → (q : Request) (s : State) → SpawnsBelow before b q s → SpawnsBelow behind c q s
  spawns_more before behind le b c k q s h = record {
    running = below_more before behind le s.env.exec h.running;
    main = λ o e. below_more before behind le (main_of o) (h.main o e);
    later = by q (λ o e. h.main o e) h.later;
  }
    where
      by : (q : Request) → ((o : ℕ) → q ≡ ask.Spawn o → IsBelow before (main_of o)) → SpawnsLater b q s → SpawnsLater c q s
      by (ask.Spawn o) m l = later_kept before b c k (main_of o) s.env.exec (piece.Object o) true (outermost s.callers) (m o refl) h.running l
      by q m l = tt

  abbrev pub MaySpawnBelow : (serials : Home → ℕ) (b : Makers) {j : Journal} {w : World} {a : List Entry} {v : World} → May source opts input j w a v → Type 0
  MaySpawnBelow serials b (gives p t s h) = Unit {0}
  MaySpawnBelow serials b (no_room p t s h) = Unit {0}
  MaySpawnBelow serials b (acts p t n s asked d) = SpawnsBelow serials b asked.request s

  abbrev pub RunSpawnsBelow : (serials : Home → ℕ) (b : Makers) {j : Journal} {w : World} → Runs source input opts j w → Type 0
  RunSpawnsBelow serials b begun = Unit {0}
  RunSpawnsBelow serials b (more r o m) = RunSpawnsBelow serials b r × MaySpawnBelow serials b m

  module _ (before behind : Home → ℕ) (le : (h : Home) → before h ≤ behind h) (b c : Makers) (k : Keeps before b c) where
    may_spawn_more : {j : Journal} {w : World} {a : List Entry} {v : World} (m : May source opts input j w a v) → MaySpawnBelow before b m → MaySpawnBelow behind c m
    may_spawn_more (gives p t s h) x = tt
    may_spawn_more (no_room p t s h) x = tt
    may_spawn_more (acts p t n s asked d) x = spawns_more before behind le b c k asked.request s x

    pub run_spawns_more : {j : Journal} {w : World} (r : Runs source input opts j w) → RunSpawnsBelow before b r → RunSpawnsBelow behind c r
    run_spawns_more begun x = tt
    run_spawns_more (more r o m) x = (run_spawns_more r x.0, may_spawn_more m x.1)

  may_spawn_told : (serials : Home → ℕ) (b : Makers) {j : Journal} {w : World} {a : List Entry} {v : World} (m : May source opts input j w a v) → MaySpawnBelow serials b m → MaySpawnLater b source opts input j w a v m
  may_spawn_told serials b (gives p t s h) x = tt
  may_spawn_told serials b (no_room p t s h) x = tt
  may_spawn_told serials b (acts p t n s asked d) x = x.later

  pub run_spawns_told : (serials : Home → ℕ) (b : Makers) {j : Journal} {w : World} (r : Runs source input opts j w) → RunSpawnsBelow serials b r → RunSpawnsLater b source input opts j w r
  run_spawns_told serials b begun x = tt
  run_spawns_told serials b (more r o m) x = (run_spawns_told serials b r x.0, may_spawn_told serials b m x.1)

  -- as many executions were made at each home
  pub record RunMade {j : Journal} {w : World} (r : Runs source input opts j w) : Type 0 where
    pub serials : Home → ℕ
    pub world : WorldNamed serials j w
    pub makes : RunMeets (MakesBelow source serials (run_makers source input opts r)) source input opts j w r
    pub spawns : RunSpawnsBelow serials (run_makers source input opts r) r

  module _ {j : Journal} {w : World} (rests : RunRests source input opts j w) (on : is_over j ≡ false) (deep : DeepWorld j w) (serials : Home → ℕ) (x : WorldNamed serials j w) (p t n : ℕ) (s : State) (asked : Asked) (d : AsksIn source opts j w p t n s asked) (f : Fits opts source.sites j t asked.request) (going : is_over (j ++ act opts source.sites input j p t n asked) ≡ false) where
    -- what is spawned is no task's own, and nothing was made there
    pub none_there : (o : ℕ) → asked.request ≡ ask.Spawn o → (ride source input opts range rests on deep serials x p t n s asked d f going).now (home.Task o) ≡ 0
    none_there o e =
        let free : owner o j ≡ [] = (subst (Fits opts source.sites j t) e f).1 in
        let lt = known source input opts range rests on serials x p t d.runs in
        let other : nat_eq o (w.tasks t).env.own ≡ false = at (nat_eq o (w.tasks t).env.own) refl free lt in
        (ride source input opts range rests on deep serials x p t n s asked d f going).grows.same (home.Task o) other ∙ x.unowned o free
      where
        at : (c : Bool) → nat_eq o (w.tasks t).env.own ≡ c → owner o j ≡ [] → t < task_count j → nat_eq o (w.tasks t).env.own ≡ false
        at true g free lt = absurd (one_not_none t (owner o j) (ap (λ q. owner q j) (eqb-true o (w.tasks t).env.own g) ∙ x.owned t lt) free)
        at false g free lt = g

    -- two countings of what a ride has made agree
    module _ (now : Home → ℕ) (grows : Grows (is_here (w.tasks t).env.own (held t j)) serials now) (named : Named (is_here (w.tasks t).env.own (held t j)) false now s) where
      pub no_more : (h : Home) → now h ≤ (ride source input opts range rests on deep serials x p t n s asked d f going).now h
      no_more h = by (members_at h s.env) refl
        where
          k : RideNamed source (is_here (w.tasks t).env.own (held t j)) false serials (answered source d.given (drawn j w t)) _ s n asked d.rides
          k = ride source input opts range rests on deep serials x p t n s asked d f going

          there : (h : Home) → is_here (w.tasks t).env.own (held t j) h ≡ true → members_at h s.env ≡ None → ⊥
          there (home.Task a) e g =
              let own = own_stays source input opts range rests on serials x p t d.runs now s named.names.env_named in
              let it : nat_eq a s.env.own ≡ true = ap (nat_eq a) own ∙ e in
              let some : members_at (home.Task a) s.env ≡ Some s.env.house = ap (λ b. if b then Some s.env.house else None) it in
              none_some s.env.house (members_at (home.Task a) s.env) g some
          there (home.Object o) e g =
              let hand : has (keys s.env.hand) o ≡ has (held t j) o = ap (λ l. has l o) (asks_with source input opts range rests on p t n s asked d).hand in
              no_both (has (held t j) o) e (sym hand ∙ found_none o s.env.hand g)

          away : (b : Bool) → is_here (w.tasks t).env.own (held t j) h ≡ b → members_at h s.env ≡ None → now h ≤ (ride source input opts range rests on deep serials x p t n s asked d f going).now h
          away true e g = absurd (there h e g)
          away false e g = let a = grows.same h e in let b = k.grows.same h e in omega (arith, a, b)

          by : (o : Option Members) → members_at h s.env ≡ o → now h ≤ (ride source input opts range rests on deep serials x p t n s asked d f going).now h
          by None g = away (is_here (w.tasks t).env.own (held t j) h) refl g
          by (Some m) g =
              let a = (named.names.env_named.members_named h m g).serial_is in
              let b = (k.named.names.env_named.members_named h m g).serial_is in
              omega (arith, a, b)

  -- a dispatch makes nothing

  pub named_given : (serials : Home → ℕ) (j : Journal) (w : World) (p t : ℕ) → WorldNamed serials j w → WorldNamed serials (j ++ dispatch p t ∷ []) w
  named_given serials j w p t x =
      let tasks_same = tasks_push j (dispatch p t) in
      let objects_same = objects_push j (dispatch p t) in
      record {
        tasks = λ u le. x.tasks u (omega (arith, le, tasks_same));
        homes = x.homes;
        unmade = λ o le. x.unmade o (omega (arith, le, objects_same));
        new = λ u o h. x.new u o (sym (just_made_given u p t j) ∙ h);
        owned = λ u le. owner_still (w.tasks u).env.own j (dispatch p t) refl ∙ x.owned u (omega (arith, le, tasks_same));
        unowned = λ k h. x.unowned k (sym (owner_still k j (dispatch p t) refl) ∙ h);
      }

  pub run_made : {j : Journal} {w : World} (r : Runs source input opts j w) → RunFits source input opts j w r → is_over j ≡ false → RunMade r
  run_made begun f on =
      let x = run_named source input opts range begun f on in
      record { serials = x.serials; world = x.world; makes = tt; spawns = tt }
  run_made (more {j} {w} r o (gives p t v le)) f on =
      let y = run_made r f.0 o in
      record { serials = y.serials; world = named_given y.serials j w p t y.world; makes = (y.makes, tt); spawns = (y.spawns, tt) }
  run_made (more {j} r o (no_room p t v le)) f on = no_both (is_over (j ++ lone_limit ∷ [])) (over_limit j 0 0) on
  run_made (more {j} {w} r o (acts p t n s asked d)) f on =
      let y = run_made r f.0 o in
      let first : Makers = run_makers source input opts r in
      let along : Makers = ride_makers source first d.rides in
      let last : Makers = makers_asked asked.request s along in
      let rests = run_rests source input opts range r f.0 o in
      let deep = deep_run source input opts range r f.0 o in
      let here = is_here (w.tasks t).env.own (held t j) in
      let k = ride source input opts range rests o deep y.serials y.world p t n s asked d f.1 on in
      let z = ridden source here y.serials d.rides (start source input opts range rests o y.serials y.world p t d.runs d.given d.told) first in
      let same = no_more rests o deep y.serials y.world p t n s asked d f.1 on z.now z.grows z.named in
      let m = spawned k.now asked.request s k.named.names.env_named.exec_below (none_there rests o deep y.serials y.world p t n s asked d f.1 on) along in
      let le = now_more source input opts range rests o deep y.serials y.world p t n s asked d f.1 on in
      let up : (h : Home) → z.now h ≤ after_by asked.request k.now h = λ h. let a = same h in let b = after_more asked.request k.now h in omega (arith, a, b) in
      let later = keeps_less z.now k.now same along last m.keeps in
      let all = keeps_on y.serials z.now z.grows.more first along last z.keeps later in
      record {
        serials = after_by asked.request k.now;
        world = named_act source input opts range rests o deep y.serials y.world p t n s asked d f.1 on;
        makes = (
          run_more source (MakesBelow source y.serials first) (MakesBelow source (after_by asked.request k.now) last) (λ s h. makes_more source y.serials (after_by asked.request k.now) le first last all s h) opts input r y.makes,
          ride_more source (MakesBelow source z.now along) (MakesBelow source (after_by asked.request k.now) last) (λ s h. makes_more source z.now (after_by asked.request k.now) up along last later s h) d.rides z.makes,
        );
        spawns = (
          run_spawns_more y.serials (after_by asked.request k.now) le first last all r y.spawns,
          record { running = m.running; main = m.main; later = m.later },
        );
      }

pub law_births : LawBirths
law_births source input opts j w r range fits on =
    let y = run_made source input opts range r fits on in
    let makers : Makers = run_makers source input opts r in (
      record {
        makers = makers;
        made = run_more source (MakesBelow source y.serials makers) (MakesLater source makers) (λ s h. h.later) opts input r y.makes;
        spawned = run_spawns_told source input opts range y.serials makers r y.spawns;
      },
      refl,
    )
