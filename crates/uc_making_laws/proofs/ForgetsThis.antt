-- Who builds or destroys what goes acts alone, where activations have their objects: so nobody has at hand what has gone.
use Rattle.std.proofs.Common.{◌≡◌, ℕ, ◌==◌, ◌<◌, ◌≤◌, inl, inr, Bool, true, false, List, [], ◌∷◌, ◌++◌, Option, Some, None, refl, sym, subst, ⊎_elim}
use Rattle.std.proofs.lemmas.Bool.{eqb-true, eq-eqb, cases_lt}
use Rattle.uc_tree.specs.Source.{Source}
use Rattle.uc_entry.specs.declared.entry.Entry.{Entry}
use Rattle.uc_entry.specs.declared.entry.Options.{Options}
use Rattle.uc_entry.specs.declared.request.Request.{Request}
use Rattle.uc_entry.specs.declared.request.Request.TheVariants as ask
use Rattle.uc_acts.specs.Journal.{Journal, is_over}
use Rattle.uc_acts.specs.Acts.{act}
use Rattle.uc_acts.specs.Known.{has_ended, task_count}
use Rattle.uc_machine.specs.declared.exec.Exec.{Exec}
use Rattle.uc_machine.specs.declared.exec.Home.{Home}
use Rattle.uc_machine.specs.declared.exec.Home.TheVariants as home
use Rattle.uc_machine.specs.declared.exec.Stage.{Stage}
use Rattle.uc_machine.specs.declared.exec.Stage.TheVariants.{Fresh, Started, Ended}
use Rattle.uc_machine.specs.Executions.{Execution, others}
use Rattle.uc_machine.specs.Pieces as piece
use Rattle.uc_machine.specs.Pieces.{Value, Todo, Active, Members}
use Rattle.uc_meaning.specs.Runs.{World, May, Runs, world_after, gives, no_room, acts, begun, more}
use Rattle.uc_state_laws.specs.Opens.{RunMeets}
use Rattle.uc_name_laws.proofs.Homes.{no_both}
use Rattle.uc_typing.specs.Typing.{Ty, Cell, Obj, Raw, Table}
use Rattle.uc_life_laws.specs.Things.{Few, Base, Things}
use Rattle.uc_life_laws.specs.Silent.{AllSilent}
use Rattle.uc_life_laws.specs.Knowing.{KnowsState}
use Rattle.uc_life_laws.specs.LifeStates.{SlotBy, ParkedBy, MembersBy}
use Rattle.uc_life_laws.specs.Lasting.{lasting, lasting_numbers}
use Rattle.uc_life_laws.specs.Rooted.{InSlot, InParked, InMembers, Lives, OwnThings, OwnObject, Yet, StageApart, ExApart, RunApart, Rooted}
use Rattle.uc_life_laws.proofs.Rooted.{env_in, stands_more}
use Rattle.uc_apart_laws.proofs.Clear.{home_more}
use Rattle.uc_life_laws.specs.Belonging.{Belongs}
use Rattle.uc_life_laws.proofs.Own.{law_own}
use Rattle.uc_life_laws.proofs.OwnNamesLemmas.{law_own_names}
use Rattle.uc_rooted_runs.specs.MainRuns.{EndsMains}
use Rattle.uc_rooted_runs.specs.Forgetting.{RootsAt, MayRoot, RunRoots}
use Rattle.uc_rooted_runs.specs.UnmarkedRuns.{IsLeft, LeftBehind, MayLeave, RunLeft}
use Rattle.uc_rooted_runs.proofs.Forgetting.{law_forgetting}
use Rattle.uc_rooted_runs.proofs.KeptRuns.{run_keeps}
use Rattle.uc_rooted_runs.proofs.MainRuns.{law_mains}
use Rattle.uc_rooted_runs.proofs.UnmarkedRuns.{law_unmarked_runs}
use Rattle.uc_making_laws.specs.OwnThis.{ThisStack, FindsThis}
use Rattle.uc_making_laws.specs.ThisRuns.{ThisWorld}
use Rattle.uc_making_laws.specs.NoOthers.{NoThis}
use Rattle.uc_making_laws.specs.ForgetsThis.{GoesBy, MayGo, RunGoes, IsLeftNowhere, IsOwedNothing, LawForgetsThis}
use Rattle.uc_making_laws.specs.LettingGo.{FindsTold}
use Rattle.uc_making_laws.specs.LettingRuns.{LetsWorld}
use Rattle.uc_making_laws.proofs.LettingWalk.{law_letting}
use Rattle.uc_making_laws.proofs.LettingRuns.{law_letting_runs}
use Rattle.uc_making_laws.proofs.ThisRuns.{law_this_runs}
use Rattle.uc_making_laws.proofs.NoOthers.{in_world, law_no_others}

-- all that executions have of others is taken for their own objects, and nothing is told beside their marks
abbrev all_own : Exec → Value → Ty → Bool
all_own n w b = true

abbrev none_yet : Exec → List Active → Value → Ty → Bool
none_yet n cs w b = false

abbrev no_rank : Exec → ℕ
no_rank n = 0

-- what is at home in objects, each with where it is, if it has begun and not ended
module _ (P Q : Exec → Execution (List Todo) Value → Type 0) where
  slot_in : (m : Exec) (o : Option (Execution (List Todo) Value)) → ((n : Exec) (x : Execution (List Todo) Value) → (x.links.stage ≡ Started → InSlot n (x.run ∷ x.callers) m o) → P n x → Q n x) → SlotBy P m o → SlotBy Q m o
  slot_in m None f h = tt
  slot_in m (Some x) f h = f m x (λ e. (refl, refl, e)) h

  parked_in : (h : Home) (ps : List (ℕ × Option (Execution (List Todo) Value))) → ((n : Exec) (x : Execution (List Todo) Value) → (x.links.stage ≡ Started → InParked n (x.run ∷ x.callers) h ps) → P n x → Q n x) → ParkedBy P h ps → ParkedBy Q h ps
  parked_in h [] f k = tt
  parked_in h (p ∷ ps) f k =
      (slot_in (record { home = h; serial = p.0 }) p.1 (λ n x i. f n x (λ e. inl (i e))) k.0, parked_in h ps (λ n x i. f n x (λ e. inr (i e))) k.1)

  members_in : (h : Home) (m : Option Members) → ((n : Exec) (x : Execution (List Todo) Value) → (x.links.stage ≡ Started → InMembers n (x.run ∷ x.callers) h m) → P n x → Q n x) → MembersBy P h m → MembersBy Q h m
  members_in h None f k = tt
  members_in h (Some m) f k = parked_in h m.parked f k

module _ (t : Table) (few : Few) where
  base_things : (n : Exec) (cs : List Active) (w : Value) (b : Ty) → Base few n w b → Things t few n cs w b
  base_things n [] w b h = h
  base_things n (c ∷ cs) w b h = inr (base_things n cs w b h)

  own_things : (n : Exec) (cs : List Active) (w : Value) (b : Ty) → OwnThings t n cs w b → Things t few n cs w b
  own_things n [] w b h = absurd h
  own_things n (c ∷ cs) w b (inl h) = inl h
  own_things n (c ∷ cs) w b (inr h) = inr (own_things n cs w b h)

  yet_things : (n : Exec) (cs : List Active) (w : Value) (b : Ty) → Yet t none_yet n cs w b → Things t few n cs w b
  yet_things n cs w b (inl h) = own_things n cs w b h
  yet_things n cs w b (inr e) = let z : false ≡ true = e in absurd (cc)

  module _ (zero : (n : Exec) → Belongs few n (few.home 0) → ⊥) (j : Journal) (a : List Entry) (x : World) (u o : ℕ) (h : IsLeft t few (j ++ a) x u o) (this : ThisWorld t few x) (lets : LetsWorld t few x) (left : IsLeftNowhere t few j a x u o) (owed : IsOwedNothing j a x u o) (silent : AllSilent (x.tasks u).run.control) where
    pub not_zero : o ≡ 0 → ⊥
    not_zero e = zero (x.tasks u).env.exec (subst (λ (q : ℕ). Belongs few (x.tasks u).env.exec (few.home q)) e h.belongs)

    stack : (n : Exec) (cs : List Active) → Lives (j ++ a) x n cs → ThisStack t few n cs
    stack n cs i =
        in_world (ThisStack t few) (j ++ a) x (λ v. (this.tasks v).stack) (λ v. (this.tasks v).env) this.homes n cs i

    -- no activation of another is of the object
    pub alone : (n : Exec) (cs : List Active) → Lives (j ++ a) x n cs → (n ≡ (x.tasks u).env.exec → ⊥) → NoThis o cs
    alone n cs i away =
        law_no_others.none t few o n cs (stack n cs i) not_zero (λ b. away (law_own few n (x.tasks u).env.exec (few.home o) b h.belongs)) (left.nowhere n cs i)

    abbrev Other : Exec → Execution (List Todo) Value → Type 0
    Other n y = n ≡ (x.tasks u).env.exec → ⊥

    abbrev numbers : Ty → ℕ → Bool
    numbers = lasting_numbers few.numbers (j ++ a)

    stage_apart : (g : Stage) (n : Exec) (y : Execution (List Todo) Value) → y.links.stage ≡ g → (y.links.stage ≡ Started → Lives (j ++ a) x n (y.run ∷ y.callers)) → (n ≡ (x.tasks u).env.exec → ⊥) → StageApart t (lasting few j) (lasting_numbers few.numbers (j ++ a)) o g n y
    stage_apart Fresh n y e i p = tt
    stage_apart Started n y e i p = λ k. law_no_others.making t few o k.sigs (y.run ∷ y.callers) (alone n (y.run ∷ y.callers) (i e) p)
    stage_apart Ended n y e i p = tt

    -- the other tasks
    none_making : (v : ℕ) (given : List Ty) (k : KnowsState t (lasting few j) given (x.tasks v)) → NoThis o ((x.tasks v).run ∷ (x.tasks v).callers) → RunApart t (lasting few j) (lasting_numbers few.numbers (j ++ a)) o given (x.tasks v) k
    none_making v given k f =
        let none = law_no_others.making t few o k.sigs ((x.tasks v).run ∷ (x.tasks v).callers) f in
        record { waiting = λ c m. none c (inr m); operands = inl none }

    pub first_this : (v : ℕ) → task_count (j ++ a) ≤ v → NoThis o ((x.tasks v).run ∷ (x.tasks v).callers)
    first_this v le =
        (λ e. not_zero (same (sym e) (h.first_object v le)), subst (NoThis o) (sym (h.none_waits v le)) tt)
      where
        same : piece.Object o ≡ (x.tasks v).run.this → (x.tasks v).run.this ≡ piece.Object 0 → o ≡ 0
        same e f = cc

    -- of the task that acts no activation that waits is of the object
    pub none_waits : has_ended u (j ++ a) ≡ false → NoThis o (x.tasks u).callers
    none_waits on =
        let n = (x.tasks u).env.exec in
        let cs = (x.tasks u).callers in
        law_letting.none t few o n cs (lets.tasks u).stack.1 not_zero (λ c k. left.nowhere n ((x.tasks u).run ∷ cs) (inl (u, on, refl, refl)) c (home_more t few o (Things t few n cs) (Things t few n ((x.tasks u).run ∷ cs)) (λ w b y. inr y) c k)) owed

    gone : has_ended u (j ++ a) ≡ false → (given : List Ty) (k : KnowsState t (lasting few j) given (x.tasks u)) → RunApart t (lasting few j) (lasting_numbers few.numbers (j ++ a)) o given (x.tasks u) k
    gone on given k = record {
      waiting = law_no_others.making t few o (others k.sigs) (x.tasks u).callers (none_waits on);
      operands = inr silent;
    }

    alive : (v : ℕ) → has_ended v (j ++ a) ≡ false → (given : List Ty) (k : KnowsState t (lasting few j) given (x.tasks v)) → RunApart t (lasting few j) (lasting_numbers few.numbers (j ++ a)) o given (x.tasks v) k
    alive v on given k = by (v == u) refl
      where
        lives : (v == u) ≡ false → v < task_count (j ++ a) → NoThis o ((x.tasks v).run ∷ (x.tasks v).callers)
        lives e lt = alone (x.tasks v).env.exec ((x.tasks v).run ∷ (x.tasks v).callers) (inl (v, on, refl, refl)) (λ q. no_both (v == u) (eq-eqb v u (h.name.running v lt q)) e)

        by : (c : Bool) → (v == u) ≡ c → RunApart t (lasting few j) (lasting_numbers few.numbers (j ++ a)) o given (x.tasks v) k
        by true e =
            subst (λ q. has_ended q (j ++ a) ≡ false → (given : List Ty) (k : KnowsState t (lasting few j) given (x.tasks q)) → RunApart t (lasting few j) (lasting_numbers few.numbers (j ++ a)) o given (x.tasks q) k) (sym (eqb-true v u e)) gone on given k
        by false e = none_making v given k (⊎_elim (λ lt. lives e lt) (λ le. first_this v le) (cases_lt v (task_count (j ++ a))))

    rooted : Rooted t few j a x all_own none_yet no_rank o
    rooted = record {
      up = λ n cs i w b k e. let z : true ≡ false = e in absurd (cc);
      beside = record {
        outside = λ n cs i c s. left.nowhere n cs i c (inl (stands_more t few (OwnObject few all_own n) (Things t few n cs) (λ w b k. base_things n cs w b k.0) (Cell (Obj c)) (few.home o) s));
        unheld = λ n cs i c k. left.nowhere n cs i c (inr (base_things n cs (piece.Object o) (Raw c) k));
        unmarked = λ n cs i c s. left.nowhere n cs i c (inl (stands_more t few (Yet t none_yet n cs) (Things t few n cs) (yet_things n cs) (Cell (Obj c)) (few.home o) s));
        tasks = λ v. env_in Other (ExApart t (lasting few j) numbers o) (x.tasks v).env (λ n y i p. stage_apart y.links.stage n y refl (λ g. inr (inl (v, i g))) p) (h.name.tasks v);
        alive = alive;
        homes = λ q. members_in Other (ExApart t (lasting few j) numbers o) (home.Object q) (x.homes q) (λ n y i p. stage_apart y.links.stage n y refl (λ g. inr (inr (q, i g))) p) (h.name.homes q);
      };
    }

  -- what is so of tasks behind an act
  pub record InWorlds (x : World) : Type 0 where
    pub this : ThisWorld t few x
    pub lets : LetsWorld t few x

  module _ (zero : (n : Exec) → Belongs few n (few.home 0) → ⊥) (source : Source) (input : List ℕ) (opts : Options) where
    roots_by : (j : Journal) (a : List Entry) (x : World) (u : ℕ) (q : Request) → LeftBehind t few (j ++ a) x u q → InWorlds x → GoesBy (IsLeftNowhere t few) j a x u q → GoesBy IsOwedNothing j a x u q → GoesBy (λ j a x u o. AllSilent (x.tasks u).run.control) j a x u q → RootsAt t few all_own none_yet no_rank j a x q
    roots_by j a x u (ask.Gone o) h i left owed silent = rooted zero j a x u o h i.this i.lets left owed silent
    roots_by j a x u q h i left owed silent = tt

    may_root : {j : Journal} {w : World} {a : List Entry} {x : World} (m : May source opts input j w a x) → InWorlds x → MayLeave t few source opts input j w a x m → MayGo (IsLeftNowhere t few) source input opts m → MayGo IsOwedNothing source input opts m → MayGo (λ j a x u o. AllSilent (x.tasks u).run.control) source input opts m → MayRoot t few all_own none_yet no_rank source opts input j w a x m
    may_root (gives p n v le) i h left owed silent = tt
    may_root (no_room p n v le) i h left owed silent = tt
    may_root {j} {w} (acts p n k v asked d) i h left owed silent =
        roots_by j (act opts source.sites input j p n k asked) (world_after source (act opts source.sites input j p n k asked) w n v) n asked.request h i left owed silent

    run_roots : {j : Journal} {w : World} (r : Runs source input opts j w) → is_over j ≡ false → RunMeets (FindsThis t few source) source input opts j w r → RunMeets (FindsTold t few source) source input opts j w r → RunLeft t few source input opts j w r → RunGoes (IsLeftNowhere t few) source input opts r → RunGoes IsOwedNothing source input opts r → RunGoes (λ j a x u o. AllSilent (x.tasks u).run.control) source input opts r → RunRoots t few all_own none_yet no_rank source input opts j w r
    run_roots begun on this lets h left owed silent = tt
    run_roots {j} {w} (more r o m) on this lets h left owed silent =
        (run_roots r o this.0 lets.0 h.0 left.0 owed.0 silent.0, may_root m (record { this = (law_this_runs t few source input opts j w (more r o m) this).world on; lets = (law_letting_runs t few source input opts j w (more r o m) lets).world on }) h.1 left.1 owed.1 silent.1)

pub law_forgets_this : LawForgetsThis
law_forgets_this t few source input opts j w r range fits on places zero binds mains finds leaves spares puts calls told left owed =
    let ends : RunMeets (EndsMains source) source input opts j w r = law_mains.runs source input opts j w r mains in
    let owns = (law_own_names source input opts j w r range fits on leaves spares).rides in
    law_forgetting t few all_own none_yet no_rank source input opts j w r range fits on places (run_keeps source input opts j w r binds ends finds owns) (run_roots t few zero source input opts r on calls told (law_unmarked_runs t few source input opts j w r range fits on leaves spares puts) left owed (law_letting_runs t few source input opts j w r told).gone)
