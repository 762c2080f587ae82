-- While a task has come to where an object goes, or is given up, it is nowhere in the world as it stands then; and of what has been built those are clear
-- that have nothing of others in which it is at home.
use Rattle.std.proofs.Common.{◌≡◌, ℕ, ◌==◌, ◌<◌, ◌≤◌, Bool, true, false, List, [], ◌∷◌, Option, Some, None, refl, sym, ap, ◌∙◌, subst, arith, ⊎_elim}
use Rattle.std.specs.Prelude.{if◌then◌else◌, nat_eq}
use Rattle.std.proofs.lemmas.Bool.{eqb-true, eq-eqb, ne_eqb}
use Rattle.uc_tree.specs.Source.{Source, routine_of}
use Rattle.uc_entry.specs.declared.request.Request.TheVariants as ask
use Rattle.uc_entry.specs.Keyed.{find}
use Rattle.uc_acts.specs.Journal.{Journal, held}
use Rattle.uc_acts.specs.Known.{has, task_count}
use Rattle.uc_machine.specs.declared.exec.Exec.{Exec}
use Rattle.uc_machine.specs.declared.exec.Home.TheVariants as home
use Rattle.uc_machine.specs.declared.exec.Stage.{Stage}
use Rattle.uc_machine.specs.declared.exec.Stage.TheVariants.{Fresh, Started, Ended}
use Rattle.uc_machine.specs.Executions.{Execution}
use Rattle.uc_machine.specs.Switches.{without}
use Rattle.uc_machine.specs.Pieces.{Value, Todo, Active, State, Members}
use Rattle.uc_machine.specs.Quiet.{first_state}
use Rattle.uc_meaning.specs.Runs.{World, or_else}
use Rattle.uc_name_laws.proofs.Homes.{no_both}
use Rattle.uc_life_laws.proofs.NamedWorlds.{found_none}
use Rattle.uc_typing.specs.Typing.{Table}
use Rattle.uc_life_laws.specs.Things.{Few, Things}
use Rattle.uc_life_laws.specs.LifeStates.{EnvBy, HandBy, MembersBy}
use Rattle.uc_life_laws.proofs.Cells.{either, tested}
use Rattle.uc_life_laws.proofs.Parked.{found_hand}
use Rattle.uc_life_laws.specs.Rooted.{Lives}
use Rattle.uc_life_laws.proofs.Fewer.{both_members, both_env}
use Rattle.uc_apart_laws.proofs.Clear.{home_split}
use Rattle.uc_step_laws.specs.Hands.{keys}
use Rattle.uc_life_laws.specs.OwnNames as own_names
use Rattle.uc_life_laws.specs.OwnNames.{at_hand, IsElsewhere}
use Rattle.uc_life_laws.specs.Belonging.{Belongs}
use Rattle.uc_life_laws.specs.Marks.{Marked, Free, LoneEx, LoneState, Freed}
use Rattle.uc_life_laws.specs.Unmarked.{LoneWorld, Unmarked}
use Rattle.uc_life_laws.proofs.Own.{law_own, law_unmarked}
use Rattle.uc_apart_laws.specs.Before.{world_at, IsUnmarked}
use Rattle.uc_apart_laws.specs.Clear.{IsNoHome, ClearBy, ClearEx}
use Rattle.uc_rooted_runs.specs.FreshStates.{FreshEx, FreshEnv}
use Rattle.uc_rooted_runs.proofs.UnmarkedRuns.{own_name}
use Rattle.uc_making_laws.specs.OwnThis.{ThisEx, ThisState}
use Rattle.uc_making_laws.specs.ThisRuns.{ThisWorld}
use Rattle.uc_making_laws.specs.BeforeRides.{HasNoHomeBy, HasNoHome}
use Rattle.uc_making_laws.proofs.NoOthers.{in_world, fresh_unopened, law_no_others}

module _ (t : Table) (few : Few) (source : Source) (j : Journal) (w : World) (u : ℕ) (known : u < task_count j) (first : (v : ℕ) → task_count j ≤ v → w.tasks v ≡ first_state (routine_of source source.main) 0) (apart : IsElsewhere j w u) (lone_world : LoneWorld t few w) (this_world : ThisWorld t few w) (s : State) (lone : LoneState t few s) (this : ThisState t few s) (fresh : FreshEnv s.env) where
  abbrev x : World
  x = world_at w u s

  -- the task that has come there
  same : (if u == u then s else w.tasks u) ≡ s
  same = ap (λ (b : Bool). if b then s else w.tasks u) (eq-eqb u u refl)

  or_home : (P : Exec → Execution (List Todo) Value → Type 0) (q : ℕ) (z : Option Members) → find q s.env.hand ≡ z → MembersBy P (home.Object q) z → (find q s.env.hand ≡ None → MembersBy P (home.Object q) (w.homes q)) → MembersBy P (home.Object q) (or_else z (w.homes q))
  or_home P q None e m f = f e
  or_home P q (Some z) e m f = m

  lone_there : LoneWorld t few (world_at w u s)
  lone_there = record {
    tasks = λ v. tested (LoneState t few) (v == u) s (w.tasks v) (λ e. lone) (λ e. lone_world.tasks v);
    homes = λ q. or_home (LoneEx t few) q (find q s.env.hand) refl (found_hand (LoneEx t few) q s.env.hand lone.env.hand) (λ e. lone_world.homes q);
  }

  this_there : ThisWorld t few (world_at w u s)
  this_there = record {
    tasks = λ v. tested (ThisState t few) (v == u) s (w.tasks v) (λ e. this) (λ e. this_world.tasks v);
    homes = λ q. or_home (ThisEx t few) q (find q s.env.hand) refl (found_hand (ThisEx t few) q s.env.hand this.env.hand) (λ e. this_world.homes q);
  }

  -- tasks that are not spawned yet
  first_there : (v : ℕ) → task_count j ≤ v → (if v == u then s else w.tasks v) ≡ first_state (routine_of source source.main) 0
  first_there v le =
      ap (λ (b : Bool). if b then s else w.tasks v) (ne_eqb v u (λ e. let k = known in omega (arith, e, k, le))) ∙ first v le

  module _ (own : own_names.IsOwn j w u s) (hand : keys s.env.hand ≡ held u j) where
    -- who runs has its name alone
    away : (n : Exec) → at_hand j w u n.home ≡ false → n ≡ s.env.exec → ⊥
    away n f e = no_both (at_hand j w u n.home) (ap (λ (k : Exec). at_hand j w u k.home) e ∙ own.at_home) f

    not_held : (q : ℕ) → find q s.env.hand ≡ None → has (held u j) q ≡ false
    not_held q e = sym (ap (λ l. has l q) hand) ∙ found_none q s.env.hand e

    abbrev Away : Exec → Execution (List Todo) Value → Type 0
    Away n y = at_hand j w u n.home ≡ false

    abbrev Other : Exec → Execution (List Todo) Value → Type 0
    Other n y = n ≡ s.env.exec → ⊥

    run_same : (if u == u then s else w.tasks u).env.exec ≡ s.env.exec
    run_same = ap (λ (m : State). m.env.exec) same

    running : (v : ℕ) → v < task_count j → (b : Bool) → (v == u) ≡ b → (if v == u then s else w.tasks v).env.exec ≡ s.env.exec → v ≡ u
    running v lt true g e = eqb-true v u g
    running v lt false g e =
        let old : (if v == u then s else w.tasks v).env.exec ≡ (w.tasks v).env.exec = ap (λ (b : Bool). (if b then s else w.tasks v).env.exec) g in
        absurd (away (w.tasks v).env.exec (apart.running v lt g) (sym old ∙ e))

    name : own_names.HasOwnName j (world_at w u s) u
    name = record {
      running = λ v lt e. running v lt (v == u) refl (e ∙ run_same);
      tasks = λ v. subst (λ (m : Exec). EnvBy (λ n y. n ≡ m → ⊥) (if v == u then s else w.tasks v).env) (sym run_same) (tested (λ (m : State). EnvBy (λ n y. n ≡ s.env.exec → ⊥) m.env) (v == u) s (w.tasks v) (λ e. own.alone) (λ e. both_env Away Away Other (λ n y a b. away n a) (w.tasks v).env (apart.tasks v e) (apart.tasks v e)));
      homes = λ q. subst (λ (m : Exec). MembersBy (λ n y. n ≡ m → ⊥) (home.Object q) (or_else (find q s.env.hand) (w.homes q))) (sym run_same) (or_home (λ n y. n ≡ s.env.exec → ⊥) q (find q s.env.hand) refl (found_hand (λ n y. n ≡ s.env.exec → ⊥) q s.env.hand own.alone.hand) (λ e. both_members Away Away Other (λ n y a b. away n a) (home.Object q) (w.homes q) (apart.homes q (not_held q e)) (apart.homes q (not_held q e))));
    }

    -- where who runs has no mark around an object that is at home in what is its own
    module _ (o : ℕ) (belongs : Belongs few s.env.exec (few.home o)) (free : Free t few o (Marked t s.env.exec (s.run ∷ s.callers))) where
      freed : Freed t few (ask.Gone o) (if u == u then s else w.tasks u)
      freed = subst (Freed t few (ask.Gone o)) (sym same) (belongs, free)

      unmarked : Unmarked t few o (world_at w u s)
      unmarked = law_unmarked t few (world_at w u s) u o lone_there (own_name t source j (world_at w u s) u first_there name) freed

      -- who lives has no mark around it
      free_there : (n : Exec) (cs : List Active) → Lives j (world_at w u s) n cs → Free t few o (Marked t n cs)
      free_there n cs i = in_world (λ n cs. Free t few o (Marked t n cs)) j (world_at w u s) unmarked.running unmarked.tasks unmarked.homes n cs i

      free_slots : EnvBy (λ n y. Free t few o (Marked t n (y.run ∷ y.callers))) s.env
      free_slots = subst (λ (m : State). EnvBy (λ n y. Free t few o (Marked t n (y.run ∷ y.callers))) m.env) same (unmarked.tasks u)

      pub before : IsUnmarked t few j w u s o
      before = record { belongs = belongs; free = free_there }

      module _ (zero : (n : Exec) → Belongs few n (few.home 0) → ⊥) where
        not_first : o ≡ 0 → ⊥
        not_first e = zero s.env.exec (subst (λ (q : ℕ). Belongs few s.env.exec (few.home q)) e belongs)

        -- whoever has nothing of others in which it is at home is clear of it
        record IsOther (n : Exec) (y : Execution (List Todo) Value) : Type 0 where
          other : n ≡ s.env.exec → ⊥
          fresh_one : FreshEx n y
          own_this : ThisEx t few n y
          free_one : Free t few o (Marked t n (y.run ∷ y.callers))

        clear_by : (g : Stage) (n : Exec) (y : Execution (List Todo) Value) → y.links.stage ≡ g → IsOther n y → HasNoHomeBy t few o g n → ClearBy t few o g n y
        clear_by Fresh n y e a b = fresh_unopened y.links.stage n y e a.fresh_one
        clear_by Started n y e a b =
            let none : IsNoHome t few o (Things t few n (y.run ∷ y.callers)) = λ c h. ⊎_elim (λ m. a.free_one c m) (λ k. b c k) (home_split t few o n (y.run ∷ y.callers) c h) in
            λ k. (law_no_others.making t few o k.sigs (y.run ∷ y.callers) (law_no_others.none t few o n (y.run ∷ y.callers) a.own_this not_first (λ q. a.other (law_own few n s.env.exec (few.home o) q belongs)) none), none)
        clear_by Ended n y e a b = tt

        without_hand : (ps : List (ℕ × Members)) → HandBy IsOther ps → HandBy IsOther (without o ps)
        without_hand [] h = tt
        without_hand (p ∷ ps) h = either (HandBy IsOther) (nat_eq p.0 o) ps (p ∷ without o ps) h.1 (h.0, without_hand ps h.1)

        others : EnvBy IsOther s.env
        others =
            both_env (λ n y. (n ≡ s.env.exec → ⊥) × FreshEx n y) (λ n y. ThisEx t few n y × Free t few o (Marked t n (y.run ∷ y.callers))) IsOther (λ n y a b. record { other = a.0; fresh_one = a.1; own_this = b.0; free_one = b.1 }) s.env
            (both_env (λ n y. n ≡ s.env.exec → ⊥) FreshEx (λ n y. (n ≡ s.env.exec → ⊥) × FreshEx n y) (λ n y a b. (a, b)) s.env own.alone fresh.slots)
            (both_env (ThisEx t few) (λ n y. Free t few o (Marked t n (y.run ∷ y.callers))) (λ n y. ThisEx t few n y × Free t few o (Marked t n (y.run ∷ y.callers))) (λ n y a b. (a, b)) s.env this.env free_slots)

        -- so are all that are at home elsewhere
        pub clear : EnvBy (HasNoHome t few o) (record s.env { hand = without o s.env.hand }) → EnvBy (ClearEx t few o) (record s.env { hand = without o s.env.hand })
        clear b =
            both_env IsOther (HasNoHome t few o) (ClearEx t few o) (λ n y a b. clear_by y.links.stage n y refl a b) (record s.env { hand = without o s.env.hand }) (record { house = others.house; hand = without_hand s.env.hand others.hand }) b
