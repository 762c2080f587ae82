-- While a task is on its way, what executions were to clean up as they made others stays with them.
use Rattle.std.proofs.Common.{◌≡◌, ℕ, inl, inr, ◌==◌, ◌<◌, Bool, true, false, List, [], ◌∷◌, ◌++◌, Option, Some, None, refl, sym, ap, ◌∙◌, subst, ◌||◌}
use Rattle.std.specs.Prelude.{if◌then◌else◌, nat_eq}
use Rattle.std.proofs.lemmas.Bool.{eqb-true, eq-eqb}
use Rattle.uc_tree.specs.Source.{Source}
use Rattle.uc_entry.specs.declared.entry.Options.{Options}
use Rattle.uc_entry.specs.declared.request.Asked.{Asked}
use Rattle.uc_entry.specs.declared.request.Request.{Request}
use Rattle.uc_entry.specs.Keyed.{find}
use Rattle.uc_acts.specs.Acts.{act}
use Rattle.uc_acts.specs.Journal.{Journal, held, is_over}
use Rattle.uc_acts.specs.Known.{has, task_count}
use Rattle.uc_acts.specs.KernelRuns.{InRange}
use Rattle.uc_acts.specs.Serves.{left}
use Rattle.uc_machine.specs.declared.exec.Exec.{Exec}
use Rattle.uc_machine.specs.declared.exec.Home.{Home}
use Rattle.uc_machine.specs.declared.exec.Home.TheVariants as home
use Rattle.uc_machine.specs.Executions.{Execution, members_at}
use Rattle.uc_machine.specs.Pieces.{Value, Todo, State, Members, Goes, Ticks, Asks}
use Rattle.uc_machine.specs.Quiet.{quiet}
use Rattle.uc_machine.specs.Answering.{answered}
use Rattle.uc_machine.specs.Rides.{Rides, slices, goes_on, ticks, asks}
use Rattle.uc_meaning.specs.Runs.{World, Runs, AsksIn, acts, more, drawn, or_else, world_after}
use Rattle.uc_state_laws.specs.Fitting.{RunFits}
use Rattle.uc_state_laws.proofs.Others.{RunRests, run_rests, asking as asks_with}
use Rattle.uc_step_laws.specs.Hands.{keys}
use Rattle.uc_step_laws.specs.Holding.{StepHolding}
use Rattle.uc_step_laws.proofs.Walk.{law_steps}
use Rattle.uc_state_laws.proofs.Lists.{Once, once_rest, first_once}
use Rattle.uc_state_laws.specs.RoomRuns as way
use Rattle.uc_state_laws.specs.RoomRuns.{Leads}
use Rattle.uc_state_laws.specs.Opens.{RideMeets, RunMeets, LeadsMeet}
use Rattle.uc_name_laws.specs.Below.{EnvNamed, IsBelow}
use Rattle.uc_name_laws.specs.NameSteps as names
use Rattle.uc_name_laws.specs.NameSteps.{Named, StepNamed}
use Rattle.uc_name_laws.proofs.Homes.{no_both}
use Rattle.uc_name_laws.proofs.Walk.{walk}
use Rattle.uc_life_laws.specs.RunningRuns.{RunLeaves}
use Rattle.uc_life_laws.proofs.Riding.{run_more, ride_more}
use Rattle.uc_life_laws.proofs.NamedWorlds.{start, known, found_none, vacuous}
use Rattle.uc_life_laws.specs.LifeStates.{HandBy, MembersBy, EnvBy}
use Rattle.uc_life_laws.proofs.Cells.{tested}
use Rattle.uc_life_laws.proofs.Parked.{found_hand}
use Rattle.uc_life_laws.proofs.Fewer.{both_members, both_env}
use Rattle.uc_life_laws.specs.OwnNames.{at_hand, IsOwn, StepOwn, StaysOwn, IsElsewhere}
use Rattle.uc_life_laws.proofs.OwnNamesLemmas.{law_own_names}
use Rattle.uc_life_laws.proofs.OwnRides.{Settled, start as own_start}
use Rattle.uc_apart_laws.specs.Before.{world_at}
use Rattle.uc_rooted_runs.specs.Makers.{Makers, seating}
use Rattle.uc_rooted_runs.specs.Births.{run_makers, MakesLater}
use Rattle.uc_rooted_runs.specs.Mains.{CallsNoMain}
use Rattle.uc_rooted_runs.specs.MainRuns.{EndsMains}
use Rattle.uc_rooted_runs.specs.Outlasting.{Outlasts, OutlastEx}
use Rattle.uc_life_laws.specs.Held.{HeldState}
use Rattle.uc_life_laws.proofs.HeldLaws.{law_held}
use Rattle.uc_answer_laws.specs.Suiting.{asked_form}
use Rattle.uc_answer_laws.proofs.Runs.{law_suiting}
use Rattle.uc_state_laws.proofs.Alive.{law_alive}
use Rattle.uc_acts.specs.Known.{has_ended}
use Rattle.uc_rooted_runs.specs.OutlastRuns.{with_homes, made_behind, run_made, now, OutlastsAt}
use Rattle.uc_rooted_runs.specs.Upwards.{OutlastWorld}
use Rattle.uc_rooted_runs.specs.MadeRuns.{IsMade, AllMade}
use Rattle.uc_rooted_runs.specs.KeptRuns.{RideKeeps, RunKeeps, RunEnds}
use Rattle.uc_rooted_runs.proofs.Births as births
use Rattle.uc_rooted_runs.proofs.Births.{MakesBelow}
use Rattle.uc_rooted_runs.proofs.KeptRuns.{goes_not, ticks_not, at_state, run_both, law_kept_runs}
use Rattle.uc_rooted_runs.proofs.MadeRuns as made_runs
use Rattle.uc_rooted_runs.proofs.MadeRuns.{BelowMade, made_grows, step_made, parked_made, law_made_runs}
use Rattle.uc_rooted_runs.proofs.MainRuns.{law_mains}
use Rattle.uc_rooted_runs.proofs.OutlastNames as outlast_names
use Rattle.uc_rooted_runs.proofs.OutlastNames.{MadeBelow, born_there, names_at, below_behind}
use Rattle.uc_rooted_runs.proofs.OutlastRuns as outlast
use Rattle.uc_rooted_runs.specs.Still.{still_behind, ride_still, run_still, way_still, AreStill}
use Rattle.uc_rooted_runs.proofs.StillSteps.{absent, Gone, env_still, here_still, taken_here, asks_same, below_behind as gone_behind, step_goes as still_goes, step_ticks as still_ticks}
use Rattle.uc_rooted_runs.proofs.StillRuns as still_runs
use Rattle.uc_rooted_runs.proofs.StillRuns.{drawn_still}
use Rattle.uc_making_laws.specs.RideWhile.{RideWhile}
use Rattle.uc_making_laws.specs.Upheld.{MadeLaterTo, way_makers, UpheldAt, LawUpheld}

-- a hand in which each object stands once

turned : (a b : ℕ) → nat_eq a b ≡ false → nat_eq b a ≡ false
turned a b f = by (nat_eq b a) refl
  where
    by : (c : Bool) → nat_eq b a ≡ c → nat_eq b a ≡ false
    by true g = no_both (nat_eq a b) (eq-eqb a b (sym (eqb-true b a g))) f
    by false g = g

or_first : (b c : Bool) → (b || c) ≡ false → b ≡ false
or_first true c h = absurd (cc)
or_first false c h = refl

not_there : (o : ℕ) (m : Members) (qs : List (ℕ × Members)) → find o qs ≡ Some m → has (keys qs) o ≡ false → ⊥
not_there o m [] e h = absurd (cc)
not_there o m (q ∷ qs) e h = by (nat_eq q.0 o) e h (λ e h. not_there o m qs e h)
  where
    by : (b : Bool) → (if b then Some q.1 else find o qs) ≡ Some m → (b || has (keys qs) o) ≡ false → (find o qs ≡ Some m → has (keys qs) o ≡ false → ⊥) → ⊥
    by true e h ih = absurd (cc)
    by false e h ih = ih e h

-- what holds of all that are found in a hand in which each stands once holds of it
module _ (P : Exec → Execution (List Todo) Value → Type 0) where
  hand_by : (ps : List (ℕ × Members)) → Once (keys ps) → ((o : ℕ) (m : Members) → find o ps ≡ Some m → MembersBy P (home.Object o) (Some m)) → HandBy P ps
  hand_by [] once f = tt
  hand_by (p ∷ ps) once f = (f p.0 p.1 here, hand_by ps (once_rest p.0 (keys ps) once) (λ o m e. f o m (further o m e)))
    where
      here : find p.0 (p ∷ ps) ≡ Some p.1
      here = ap (λ (b : Bool). if b then Some p.1 else find p.0 ps) (eq-eqb p.0 p.0 refl)

      further : (o : ℕ) (m : Members) → find o ps ≡ Some m → find o (p ∷ ps) ≡ Some m
      further o m e = by (nat_eq p.0 o) refl
        where
          by : (b : Bool) → nat_eq p.0 o ≡ b → (if nat_eq p.0 o then Some p.1 else find o ps) ≡ Some m
          by true g =
              let same : p.0 ≡ o = eqb-true p.0 o g in
              let none : has (keys ps) p.0 ≡ false = first_once p.0 (keys ps) once in
              absurd (not_there o m ps e (subst (λ k. has (keys ps) k ≡ false) same none))
          by false g = ap (λ (b : Bool). if b then Some p.1 else find o ps) g ∙ e

settled_keys : (ks : List ℕ) (s : State) → Settled ks s → keys s.env.hand ≡ ks
settled_keys ks s (inl h) = h.env.keys_are
settled_keys ks s (inr h) = h.env.keys_are

-- the world on the way

module _ (whole : Makers) (homes : ℕ → Value) (asked : Exec → Bool) where
  abbrev makers : Makers
  makers = with_homes homes whole

  module _ (source : Source) (j : Journal) (w : World) (u : ℕ) (ks : List ℕ) (once : Once ks) (same : ks ≡ held u j) (first : Exec → Bool) (h : OutlastWorld (with_homes homes whole) (now (with_homes homes whole) asked first) j w) (apart : IsElsewhere j w u) (there : AllMade first j w) (begins : Exec → Bool) (all : AreStill begins j w) where
    -- what goes along
    record On (made still : Exec → Bool) (v : State) : Type 0 where
      state : HeldState source (seating (with_homes homes whole)) (now (with_homes homes whole) asked made) v
      serials : Home → ℕ
      named : Named (at_hand j w u) false serials v
      settled : Settled ks v
      below : BelowMade serials made
      mine : (x : Exec) → made x ≡ true → first x ≡ false → at_hand j w u (whole.parent x).home ≡ true
      grown : (x : Exec) → first x ≡ true → made x ≡ true
      later : (n : Exec) → made n ≡ true → whole.rank (whole.parent n) < whole.rank n
      counts : Home → ℕ
      counted : Named (at_hand j w u) false counts v
      held : HeldState source absent (Gone still) v
      gone_below : (x : Exec) → still x ≡ false → IsBelow counts x
      gone_mine : (x : Exec) → still x ≡ false → begins x ≡ true → at_hand j w u x.home ≡ true

    module _ (made still : Exec → Bool) (v : State) (o : On made still v) where
      abbrev Up : Exec → Bool
      Up = now (with_homes homes whole) asked made

      -- elsewhere nobody has made any meanwhile
      none_made : (m : Exec) → at_hand j w u m.home ≡ false → (x : Exec) → now (with_homes homes whole) asked made x ≡ true → now (with_homes homes whole) asked first x ≡ false → whole.parent x ≡ m → ⊥
      none_made m away x g f e =
          let new : first x ≡ false = outlast.not_now whole homes asked first x (outlast.now_asked whole homes asked made x g) f in
          let at = o.mine x (outlast.now_made whole homes asked made x g) new in
          no_both (at_hand j w u m.home) (ap (λ (k : Exec). at_hand j w u k.home) (sym e) ∙ at) away

      old_stack : (x : ℕ) → x < task_count j → has_ended x j ≡ false → (x == u) ≡ false → Outlasts (with_homes homes whole) (now (with_homes homes whole) asked made) (w.tasks x).env.exec ((w.tasks x).run ∷ (w.tasks x).callers)
      old_stack x lt i e =
          outlast.ends_more (with_homes homes whole) (now (with_homes homes whole) asked first) (now (with_homes homes whole) asked made) (w.tasks x).env.exec ((w.tasks x).run ∷ (w.tasks x).callers) (λ y g f r. absurd (none_made (w.tasks x).env.exec (apart.running x lt e) y g f r)) (h.stacks x lt i)

      abbrev Away : Exec → Execution (List Todo) Value → Type 0
      Away m y = at_hand j w u m.home ≡ false

      old_ex : (m : Exec) (y : Execution (List Todo) Value) → at_hand j w u m.home ≡ false → OutlastEx (with_homes homes whole) (now (with_homes homes whole) asked first) m y → OutlastEx (with_homes homes whole) (now (with_homes homes whole) asked made) m y
      old_ex m y away k =
          outlast.ends_more (with_homes homes whole) (now (with_homes homes whole) asked first) (now (with_homes homes whole) asked made) m (y.run ∷ y.callers) (λ x g f r. absurd (none_made m away x g f r)) k

      old_env : (x : ℕ) → (x == u) ≡ false → EnvBy (OutlastEx (with_homes homes whole) (now (with_homes homes whole) asked made)) (w.tasks x).env
      old_env x e =
          both_env Away (OutlastEx (with_homes homes whole) (now (with_homes homes whole) asked first)) (OutlastEx (with_homes homes whole) (now (with_homes homes whole) asked made)) old_ex (w.tasks x).env (apart.tasks x e) (h.tasks x)

      -- what is in hand is held
      hand_is : keys v.env.hand ≡ held u j
      hand_is = settled_keys ks v o.settled ∙ same

      away : (q : ℕ) → find q v.env.hand ≡ None → has (held u j) q ≡ false
      away q e = sym (ap (λ l. has l q) hand_is) ∙ found_none q v.env.hand e

      old_home : (q : ℕ) → find q v.env.hand ≡ None → MembersBy (OutlastEx (with_homes homes whole) (now (with_homes homes whole) asked made)) (home.Object q) (w.homes q)
      old_home q e =
          both_members Away (OutlastEx (with_homes homes whole) (now (with_homes homes whole) asked first)) (OutlastEx (with_homes homes whole) (now (with_homes homes whole) asked made)) old_ex (home.Object q) (w.homes q) (apart.homes q (away q e)) (h.homes q)

      or_home : (P : Exec → Execution (List Todo) Value → Type 0) (q : ℕ) (z : Option Members) → find q v.env.hand ≡ z → MembersBy P (home.Object q) z → (find q v.env.hand ≡ None → MembersBy P (home.Object q) (w.homes q)) → MembersBy P (home.Object q) (or_else z (w.homes q))
      or_home P q None e m f = f e
      or_home P q (Some z) e m f = m

      outlasts : OutlastWorld (with_homes homes whole) (now (with_homes homes whole) asked made) j (world_at w u v)
      outlasts = record {
        stacks = λ x lt i. tested (λ (y : State). Outlasts (with_homes homes whole) (now (with_homes homes whole) asked made) y.env.exec (y.run ∷ y.callers)) (x == u) v (w.tasks x) (λ e. outlast.state_ends (with_homes homes whole) (now (with_homes homes whole) asked made) source v o.state) (λ e. old_stack x lt i e);
        tasks = λ x. tested (λ (y : State). EnvBy (OutlastEx (with_homes homes whole) (now (with_homes homes whole) asked made)) y.env) (x == u) v (w.tasks x) (λ e. outlast.env_ends (with_homes homes whole) (now (with_homes homes whole) asked made) source v.env o.state.env) (λ e. old_env x e);
        homes = λ q. or_home (OutlastEx (with_homes homes whole) (now (with_homes homes whole) asked made)) q (find q v.env.hand) refl (found_hand (OutlastEx (with_homes homes whole) (now (with_homes homes whole) asked made)) q v.env.hand (outlast.env_ends (with_homes homes whole) (now (with_homes homes whole) asked made) source v.env o.state.env).hand) (old_home q);
      }

      -- all that are there were made by now

      abbrev Made : Exec → Execution (List Todo) Value → Type 0
      Made n y = IsMade made n

      abbrev First : Exec → Execution (List Todo) Value → Type 0
      First n y = IsMade first n

      stays_made : (n : Exec) → IsMade first n → IsMade made n
      stays_made n (inl e) = inl e
      stays_made n (inr e) = inr (o.grown n e)

      named_env : EnvNamed o.serials (at_hand j w u) v.env
      named_env = o.named.names.env_named

      members_made : (k : Home) (m : Members) → members_at k v.env ≡ Some m → MembersBy (λ n y. IsMade made n) k (Some m)
      members_made k m e =
          let z = named_env.members_named k m e in
          parked_made o.serials made o.below k m.serial z.serial_is m.parked z.parked_named

      env_made : EnvBy (λ n y. IsMade made n) v.env
      env_made = record {
        house = members_made (home.Task v.env.own) v.env.house (ap (λ (b : Bool). if b then Some v.env.house else None) (eq-eqb v.env.own v.env.own refl));
        hand = hand_by (λ n y. IsMade made n) v.env.hand (subst Once (sym (settled_keys ks v o.settled)) once) (λ q m e. members_made (home.Object q) m e);
      }

      all_there : AllMade made j (world_at w u v)
      all_there = record {
        running = λ x lt i. tested (λ (y : State). IsMade made y.env.exec) (x == u) v (w.tasks x) (λ e. o.below v.env.exec named_env.exec_below) (λ e. stays_made (w.tasks x).env.exec (there.running x lt i));
        tasks = λ x. tested (λ (y : State). EnvBy (λ n y. IsMade made n) y.env) (x == u) v (w.tasks x) (λ e. env_made) (λ e. both_env First First Made (λ n y a b. stays_made n a) (w.tasks x).env (there.tasks x) (there.tasks x));
        homes = λ q. or_home Made q (find q v.env.hand) refl (found_hand Made q v.env.hand env_made.hand) (λ e. both_members First First Made (λ n y a b. stays_made n a) (home.Object q) (w.homes q) (there.homes q) (there.homes q));
      }

      -- and none was forgotten

      abbrev Begins : Exec → Execution (List Todo) Value → Type 0
      Begins n y = begins n ≡ true

      abbrev Still : Exec → Execution (List Todo) Value → Type 0
      Still n y = still n ≡ true

      keeps : (n : Exec) → at_hand j w u n.home ≡ false → begins n ≡ true → still n ≡ true
      keeps n away g = by (still n) refl
        where
          by : (b : Bool) → still n ≡ b → still n ≡ true
          by true e = e
          by false e = no_both (at_hand j w u n.home) (o.gone_mine n e g) away

      here : EnvBy (λ n y. still n ≡ true) v.env
      here = env_still source still v.env o.held.env

      are_still : AreStill still j (world_at w u v)
      are_still = record {
        running = λ x lt i. tested (λ (y : State). still y.env.exec ≡ true) (x == u) v (w.tasks x) (λ e. here_still source still v o.held) (λ e. keeps (w.tasks x).env.exec (apart.running x lt e) (all.running x lt i));
        tasks = λ x. tested (λ (y : State). EnvBy (λ n y. still n ≡ true) y.env) (x == u) v (w.tasks x) (λ e. here) (λ e. both_env Away Begins Still (λ n y a b. keeps n a b) (w.tasks x).env (apart.tasks x e) (all.tasks x));
        homes = λ q. or_home Still q (find q v.env.hand) refl (found_hand Still q v.env.hand here.hand) (λ e. both_members Away Begins Still (λ n y a b. keeps n a b) (home.Object q) (w.homes q) (apart.homes q (away q e)) (all.homes q));
      }

      upheld_at : IsOwn j w u v → ((r : Request) (x : State) → quiet source v ≡ Asks r x → (n : Exec) → still n ≡ true → asked n ≡ true) → UpheldAt (with_homes homes whole) asked source j w u v
      upheld_at own last = record {
        own = own;
        hand = hand_is;
        made = made;
        outlasts = outlasts;
        there = all_there;
        later = o.later;
        still = still;
        are_still = are_still;
        last = last;
      }

      -- the next step

      module _ (a : OutlastsAt (with_homes homes whole) asked source made v) (l : MakesLater source whole v) (own : IsOwn j w u v) (spared : names.Spares v) (ends : EndsMains source v) where
        abbrev behind : Exec → Bool
        behind = made_behind source v made

        mine_on : (x : Exec) → made_behind source v made x ≡ true → first x ≡ false → at_hand j w u (whole.parent x).home ≡ true
        mine_on x e f = by (made x) refl
          where
            by : (b : Bool) → made x ≡ b → at_hand j w u (whole.parent x).home ≡ true
            by true g = o.mine x g f
            by false g = let m = l x (born_there source v made x e g) in ap (λ (k : Exec). at_hand j w u k.home) m.parent ∙ own.at_home

        later_on : (n : Exec) → made_behind source v made n ≡ true → whole.rank (whole.parent n) < whole.rank n
        later_on n e = by (made n) refl
          where
            by : (b : Bool) → made n ≡ b → whole.rank (whole.parent n) < whole.rank n
            by true g = o.later n g
            by false g = let m = l n (born_there source v made n e g) in subst (λ (k : Exec). whole.rank k < whole.rank n) (sym m.parent) m.later

        settled_on : StepHolding ks (quiet source v)
        settled_on = by o.settled
          where
            by : Settled ks v → StepHolding ks (quiet source v)
            by (inl k) = law_steps.settled source ks v k
            by (inr k) = law_steps.bound source ks v k

        mine_gone : (x : Exec) → still_behind v still x ≡ false → begins x ≡ true → at_hand j w u x.home ≡ true
        mine_gone x e g = by (still x) refl
          where
            by : (b : Bool) → still x ≡ b → at_hand j w u x.home ≡ true
            by true f = taken_here source (at_hand j w u) ks once o.counts still v o.gone_below o.counted o.settled spared ends x e f
            by false f = o.gone_mine x f g

        on_with : (x : State) → HeldState source (seating (with_homes homes whole)) (now (with_homes homes whole) asked (made_behind source v made)) x → ((k : Home → ℕ) → StepNamed (at_hand j w u) false k (quiet source v) → Named (at_hand j w u) false k x) → (StepHolding ks (quiet source v) → Settled ks x) → ((k : Home → ℕ) → Named (at_hand j w u) false k x → HeldState source absent (Gone (still_behind v still)) x) → On (made_behind source v made) (still_behind v still) x
        on_with x st f s h =
            let b = walk source (at_hand j w u) false o.serials v o.named (λ u. vacuous u) in
            let c = walk source (at_hand j w u) false o.counts v o.counted (λ u. vacuous u) in
            record {
              state = st;
              serials = b.serials;
              named = f b.serials b.named;
              settled = s settled_on;
              below = step_made source (at_hand j w u) o.serials made v b o.below;
              mine = mine_on;
              grown = λ x e. made_grows source v made x (o.grown x e);
              later = later_on;
              counts = c.serials;
              counted = f c.serials c.named;
              held = h c.serials (f c.serials c.named);
              gone_below = gone_behind source (at_hand j w u) ks once o.counts still v o.gone_below o.counted o.settled spared ends c.serials c.grows.more;
              gone_mine = mine_gone;
            }

        on_goes : (x : State) → quiet source v ≡ Goes x → On (made_behind source v made) (still_behind v still) x
        on_goes x e =
            on_with x (outlast.step_goes whole homes asked source made v o.state a l x e) (λ k z. subst (StepNamed (at_hand j w u) false k) e z) (λ z. inl (subst (StepHolding ks) e z)) (λ k n. still_goes source (at_hand j w u) ks once o.counts still v o.gone_below o.counted o.settled spared ends o.held x e k n (subst (StepHolding ks) e settled_on).env.keys_are)

        on_ticks : (x : State) → quiet source v ≡ Ticks x → On (made_behind source v made) (still_behind v still) x
        on_ticks x e =
            on_with x (law_held.goes_on source (seating (with_homes homes whole)) (now (with_homes homes whole) asked (made_behind source v made)) x (outlast.step_ticks whole homes asked source made v o.state a l x e)) (λ k z. subst (StepNamed (at_hand j w u) false k) e z) (λ z. inl (subst (StepHolding ks) e z)) (λ k n. law_held.goes_on source absent (Gone (still_behind v still)) x (still_ticks source (at_hand j w u) ks once o.counts still v o.gone_below o.counted o.settled spared ends o.held x e))

    -- each state of a ride: who runs has its name alone there, as long as no step before forgot the running execution; and no new name is that of one
    -- that made one of those that were made by then
    ride_upheld : (made still : Exec → Bool) (counts : Home → ℕ) {s v : State} {q k : ℕ} {a : Asked} (r : Rides source s q v k a) → RideMeets (EndsMains source) source s q v k a r → RideKeeps (with_homes homes whole) asked source made r → RideMeets (MakesLater source whole) source s q v k a r → ((x : State) (l : Leads source s x) → LeadsMeet names.Spares source s x l → IsOwn j w u x) → Named (at_hand j w u) false counts s → MadeBelow whole homes asked counts made → ((x : Exec) → ride_still source still r x ≡ true → asked x ≡ true) → On made still s → RideWhile names.Spares (UpheldAt (with_homes homes whole) asked source j w u) source s q v k a r
    ride_upheld made still counts slices f c l own n h g o = tt
    ride_upheld made still counts (goes_on {s} {t} e r) f c l own n h g o =
        let now : IsOwn j w u s = own s way.stays tt in (
          upheld_at made still s o now (λ r x i y k. let no : Goes t ≡ Asks r x = sym e ∙ i in absurd (cc)),
          λ spared.
              let both : StaysOwn source j w u s = record { now = now; next = subst (StepOwn j w u) (sym e) (own t (way.goes e way.stays) (spared, tt)) } in
              let names = names_at whole homes asked source j w u counts made s n h both l.0 in
              let out = at_state (with_homes homes whole) asked source made s f.0 c.0 (λ todo y. absurd (goes_not source s t e todo y)) names in
              let b = walk source (at_hand j w u) false counts s n (λ u. vacuous u) in
              ride_upheld (made_behind source s made) (still_behind s still) b.serials r f.1 c.1 l.1 (λ x m y. own x (way.goes e m) (spared, y)) (subst (StepNamed (at_hand j w u) false b.serials) e b.named) (below_behind whole homes asked source j w u counts made s n h both l.0 b.serials b.grows.more) g (on_goes made still s o out l.0 now spared f.0 t e),
        )
    ride_upheld made still counts (ticks {s} {t} e r) f c l own n h g o =
        let now : IsOwn j w u s = own s way.stays tt in (
          upheld_at made still s o now (λ r x i y k. let no : Ticks t ≡ Asks r x = sym e ∙ i in absurd (cc)),
          λ spared.
              let both : StaysOwn source j w u s = record { now = now; next = subst (StepOwn j w u) (sym e) (own t (way.ticks e way.stays) (spared, tt)) } in
              let names = names_at whole homes asked source j w u counts made s n h both l.0 in
              let out = at_state (with_homes homes whole) asked source made s f.0 c.0 (λ todo y. absurd (ticks_not source s t e todo y)) names in
              let b = walk source (at_hand j w u) false counts s n (λ u. vacuous u) in
              ride_upheld (made_behind source s made) (still_behind s still) b.serials r f.1 c.1 l.1 (λ x m y. own x (way.ticks e m) (spared, y)) (subst (StepNamed (at_hand j w u) false b.serials) e b.named) (below_behind whole homes asked source j w u counts made s n h both l.0 b.serials b.grows.more) g (on_ticks made still s o out l.0 now spared f.0 t e),
        )
    ride_upheld made still counts (asks {s} e) f c l own n h g o = upheld_at made still s o (own s way.stays tt) (λ r x i y k. g y (asks_same source still s r x i y k))

-- the keys of a hand stay along a ride

pub settled_next : (source : Source) (ks : List ℕ) (s : State) → Settled ks s → StepHolding ks (quiet source s)
settled_next source ks s (inl h) = law_steps.settled source ks s h
settled_next source ks s (inr h) = law_steps.bound source ks s h

pub ride_keys : (source : Source) (ks : List ℕ) {s u : State} {q k : ℕ} {a : Asked} (r : Rides source s q u k a) → Settled ks s → keys u.env.hand ≡ ks
ride_keys source ks (slices {s}) h = settled_keys ks s h
ride_keys source ks (goes_on {s} e r) h = ride_keys source ks r (inl (subst (StepHolding ks) e (settled_next source ks s h)))
ride_keys source ks (ticks {s} e r) h = ride_keys source ks r (inl (subst (StepHolding ks) e (settled_next source ks s h)))
ride_keys source ks (asks {s} {t} {q} {r} e) h =
    let z : StepHolding ks (Asks r t) = subst (StepHolding ks) e (settled_next source ks s h) in z.env.keys_are

module _ (source : Source) (input : List ℕ) (opts : Options) (range : InRange opts) {j : Journal} {w : World} (r : Runs source input opts j w) (fits : RunFits source input opts j w r) (on : is_over j ≡ false) (p u n : ℕ) (s : State) (q : Asked) (d : AsksIn source opts j w p u n s q) where
  rests : RunRests source input opts j w
  rests = run_rests source input opts range r fits on

  births_to : (b : MadeLaterTo source input opts j w r p u n s q d) × (b.makers ≡ way_makers source input opts r d)
  births_to =
      let y = births.run_made source input opts range r fits on in
      let first : Makers = run_makers source input opts r in
      let z = births.ridden source (at_hand j w u) y.serials d.rides (start source input opts range rests on y.serials y.world p u d.runs d.given d.told) first in
      let last : Makers = way_makers source input opts r d in (
        record {
          makers = last;
          made = run_more source (MakesBelow source y.serials first) (MakesLater source last) (λ s h. (births.makes_more source y.serials z.now z.grows.more first last z.keeps s h).later) opts input r y.makes;
          spawned = births.run_spawns_told source input opts range z.now last r (births.run_spawns_more source input opts range y.serials z.now z.grows.more first last z.keeps r y.spawns);
          rides = ride_more source (MakesBelow source z.now last) (MakesLater source last) (λ s h. h.later) d.rides z.makes;
        },
        refl,
      )

  module _ (leaves : RunLeaves source input opts j w r) (spares : RunMeets names.Spares source input opts j w r) (mains : RunMeets (CallsNoMain source) source input opts j w r) (mained : RideMeets (CallsNoMain source) source (answered source d.given (drawn j w u)) (left opts j u) s n q d.rides) where
    -- who runs has its name alone, as long as no step before forgot the running execution
    pub own_at : (x : State) (l : Leads source (answered source d.given (drawn j w u)) x) → LeadsMeet names.Spares source (answered source d.given (drawn j w u)) x l → IsOwn j w u x
    own_at x l h = (law_own_names source input opts j w r range fits on leaves spares).comes u x (record { given = d.given; processor = p; runs = d.runs; told = d.told; leads = l }) h

    pub ends : RideMeets (EndsMains source) source (answered source d.given (drawn j w u)) (left opts j u) s n q d.rides
    ends = (law_mains.runs source input opts (j ++ act opts source.sites input j p u n q) (world_after source (act opts source.sites input j p u n q) w u s) (more r on (acts p u n s q d)) (mains, mained)).1

    module _ (b : MadeLaterTo source input opts j w r p u n s q d) (homes : ℕ → Value) (kept : RunKeeps (with_homes homes b.makers) (way_still source input opts r d) source input opts r) (gone : RunEnds (with_homes homes b.makers) (way_still source input opts r d) source input opts r) (keeps : RideKeeps (with_homes homes b.makers) (way_still source input opts r d) source (run_made source input opts r) d.rides) where
      abbrev asked : Exec → Bool
      asked = way_still source input opts r d

      upheld_along : RideWhile names.Spares (UpheldAt (with_homes homes b.makers) (way_still source input opts r d) source j w u) source (answered source d.given (drawn j w u)) (left opts j u) s n q d.rides
      upheld_along =
          let e = own_start source input opts range rests on u d.given d.told in
          let y = made_runs.run_told source input opts range r fits on in
          let z = outlast_names.run_told b.makers homes asked source input opts range r fits on leaves spares b.made b.spawned in
          let v = still_runs.run_told source input opts range r fits on leaves spares (law_mains.runs source input opts j w r mains) in
          let lt : u < task_count j = known source input opts range rests on y.serials y.world p u d.runs in
          let h : OutlastWorld (with_homes homes b.makers) (now (with_homes homes b.makers) asked (run_made source input opts r)) j w = law_kept_runs asked homes source input opts j w r range fits on leaves spares mains (record { makers = b.makers; made = b.made; spawned = b.spawned }) kept gone in
          let held_world = outlast.run_outlasts b.makers homes asked source input opts range r fits on (run_both (with_homes homes b.makers) asked source input opts r (law_mains.runs source input opts j w r mains) kept gone z.names) b.made b.spawned in
          let apart = (law_own_names source input opts j w r range fits on leaves spares).elsewhere u lt in
          let there = law_made_runs.there source input opts j w r range fits on in
          let same : e.hand ≡ held u j = sym (ride_keys source e.hand d.rides e.settled) ∙ (asks_with source input opts range rests on p u n s q d).hand in
          ride_upheld b.makers homes asked source j w u e.hand e.once same (run_made source input opts r) h apart there (run_still source input opts r) v.there (run_made source input opts r) (run_still source input opts r) z.serials d.rides ends keeps b.rides own_at (start source input opts range rests on z.serials z.world p u d.runs d.given d.told) z.below (λ x g. g) (record {
            state = law_held.goes_on source (seating (with_homes homes b.makers)) (now (with_homes homes b.makers) asked (run_made source input opts r)) (answered source d.given (drawn j w u)) (law_held.told source (seating (with_homes homes b.makers)) (now (with_homes homes b.makers) asked (run_made source input opts r)) (asked_form u j) d.given (drawn j w u) (law_suiting opts source.sites input j rests.kernel on u d.given d.told) (outlast.drawn_told b.makers homes asked source (now (with_homes homes b.makers) asked (run_made source input opts r)) j w u lt (law_alive opts source.sites input j rests.kernel on p u d.runs) held_world));
            serials = y.serials;
            named = start source input opts range rests on y.serials y.world p u d.runs d.given d.told;
            settled = e.settled;
            below = y.all;
            mine = λ x g f. no_both (run_made source input opts r x) g f;
            grown = λ x g. g;
            later = law_made_runs.later source input opts j w r (record { makers = b.makers; made = b.made; spawned = b.spawned });
            counts = v.serials;
            counted = start source input opts range rests on v.serials v.world p u d.runs d.given d.told;
            held = law_held.goes_on source absent (Gone (run_still source input opts r)) (answered source d.given (drawn j w u)) (law_held.told source absent (Gone (run_still source input opts r)) (asked_form u j) d.given (drawn j w u) (law_suiting opts source.sites input j rests.kernel on u d.given d.told) (drawn_still source (run_still source input opts r) j w u lt (law_alive opts source.sites input j rests.kernel on p u d.runs) v.there));
            gone_below = v.below;
            gone_mine = λ x f g. no_both (run_still source input opts r x) g f;
          })

pub law_upheld : LawUpheld
law_upheld = record {
  births = λ source input opts j w r range fits on p u n s q d. births_to source input opts range r fits on p u n s q d;
  upheld = λ homes source input opts j w r range fits on leaves spares mains p u n s q d mained b kept gone keeps.
      upheld_along source input opts range r fits on p u n s q d leaves spares mains mained b homes kept gone keeps;
}
