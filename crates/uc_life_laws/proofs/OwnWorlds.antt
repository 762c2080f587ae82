-- In a world each task has at hand what no other has, so what runs in it has a name of its own.
use Rattle.std.proofs.Common.{◌≡◌, ℕ, ◌==◌, ◌<◌, ◌≤◌, Bool, true, false, List, [], ◌∷◌, Option, Some, None, refl, sym, ap, ◌∙◌, subst, ⊎_elim}
use Rattle.std.specs.Prelude.{nat_eq, if◌then◌else◌}
use Rattle.std.proofs.lemmas.Bool.{eqb-true, eq-eqb, cases_lt}
use Rattle.uc_tree.specs.Source.{Source, routine_of}
use Rattle.uc_entry.specs.Keyed.{find}
use Rattle.uc_acts.specs.Journal.{Journal, held}
use Rattle.uc_acts.specs.Known.{has, task_count, owner}
use Rattle.uc_acts.specs.Sound.{Sound}
use Rattle.uc_machine.specs.declared.exec.Exec.{Exec}
use Rattle.uc_machine.specs.declared.exec.Home.{Home}
use Rattle.uc_machine.specs.declared.exec.Home.TheVariants as home
use Rattle.uc_machine.specs.Executions.{members_at, slot_in}
use Rattle.uc_machine.specs.Pieces.{State, Members}
use Rattle.uc_machine.specs.Quiet.{first_state}
use Rattle.uc_meaning.specs.Runs.{World, hand_of, drawn}
use Rattle.uc_state_laws.proofs.Ticks.{not_true}
use Rattle.uc_state_laws.proofs.Makes.{same_holder}
use Rattle.uc_life_laws.specs.LifeStates.{SlotBy, ParkedBy, HandBy, EnvBy, MembersBy}
use Rattle.uc_name_laws.specs.Below.{Ex, AreApart}
use Rattle.uc_name_laws.proofs.Homes.{no_both, none_some, the_same}
use Rattle.uc_life_laws.proofs.NamedWorlds.{WorldNamed, found_home, absent_home}
use Rattle.uc_life_laws.proofs.RunningWorlds.{WorldRuns}
use Rattle.uc_life_laws.specs.OwnNames.{at_hand, HasOwnName, IsElsewhere}
use Rattle.uc_life_laws.proofs.Alone.{NoRest, empty_rests, parked_other}

one_and_one : (u v : ℕ) → u ∷ [] ≡ v ∷ [] → u ≡ v
one_and_one u v h = cc

-- nothing is in a hand in which nothing is found
pub no_hand : (ps : List (ℕ × Members)) → ((o : ℕ) → find o ps ≡ None) → ps ≡ []
no_hand [] f = refl
no_hand (p ∷ ps) f =
    let this : find p.0 (p ∷ ps) ≡ Some p.1 = ap (λ b. if b then Some p.1 else find p.0 ps) (eq-eqb p.0 p.0 refl) in
    none_some p.1 (find p.0 (p ∷ ps)) (f p.0) this

-- what is at a home is there
parked_home : (F : Home → Type 0) (h : Home) → F h → (ps : List (ℕ × Option Ex)) → ParkedBy (λ n x. F n.home) h ps
parked_home F h f [] = tt
parked_home F h f (p ∷ ps) = (slot p.1, parked_home F h f ps)
  where
    slot : (o : Option Ex) → SlotBy (λ n x. F n.home) (record { home = h; serial = p.0 }) o
    slot None = tt
    slot (Some x) = f

-- a task that is not spawned has no execution that does not run
pub first_env : (P : Exec → Ex → Type 0) (source : Source) (s : State) → s ≡ first_state (routine_of source source.main) 0 → EnvBy P s.env
first_env P source s e = subst (λ (v : State). EnvBy P v.env) (sym e) (record { house = (tt, tt); hand = tt })

module _ (source : Source) {j : Journal} {w : World} (sound : Sound j) (serials : Home → ℕ) (y : WorldNamed serials j w) (x : WorldRuns j w) (later : (v : ℕ) → task_count j ≤ v → w.tasks v ≡ first_state (routine_of source source.main) 0) where
  -- where one is that has nothing to do, a task has something at hand
  there_home : (t : ℕ) (h : Home) (k : ℕ) → slot_in k (members_at h (drawn j w t).env) ≡ Some None → at_hand j w t h ≡ true
  there_home t (home.Task a) k e = by (nat_eq a (w.tasks t).env.own) e
    where
      by : (b : Bool) → slot_in k (if b then Some (w.tasks t).env.house else None) ≡ Some None → b ≡ true
      by true e = refl
      by false e = none_some None (slot_in k None) refl e
  there_home t (home.Object o) k e = by (has (held t j) o) refl
    where
      by : (b : Bool) → has (held t j) o ≡ b → has (held t j) o ≡ true
      by true f = f
      by false f = none_some None (slot_in k (find o (hand_of (held t j) w.homes))) (ap (slot_in k) (absent_home (held t j) w.homes o f)) e

  home_there : (t : ℕ) → t < task_count j → at_hand j w t (w.tasks t).env.exec.home ≡ true
  home_there t lt = there_home t (w.tasks t).env.exec.home (w.tasks t).env.exec.serial (x.there t lt)

  -- no two have something at hand there
  hands_apart : (t v : ℕ) → t < task_count j → v < task_count j → (h : Home) → at_hand j w t h ≡ true → at_hand j w v h ≡ true → v ≡ t
  hands_apart t v lt le (home.Task a) e f =
      let same : (w.tasks v).env.own ≡ (w.tasks t).env.own = sym (eqb-true a (w.tasks v).env.own f) ∙ eqb-true a (w.tasks t).env.own e in
      one_and_one v t (sym (y.owned v le) ∙ (ap (λ q. owner q j) same ∙ y.owned t lt))
  hands_apart t v lt le (home.Object o) e f = same_holder j t v o sound e f

  -- at rest nothing is in hand
  bare_hand : (v : ℕ) → v < task_count j → (w.tasks v).env.hand ≡ []
  bare_hand v le = let z = y.tasks v le in no_hand (w.tasks v).env.hand (λ o. z.env_named.away (home.Object o) refl)

  house_apart : (v : ℕ) → v < task_count j → AreApart (w.tasks v).env.house.parked
  house_apart v le =
      let z = y.tasks v le in
      let m = z.env_named.members_named (home.Task (w.tasks v).env.own) (w.tasks v).env.house (ap (λ b. if b then Some (w.tasks v).env.house else None) (eq-eqb (w.tasks v).env.own (w.tasks v).env.own refl)) in
      m.apart

  -- what runs in a task

  module _ (t : ℕ) (lt : t < task_count j) where
    abbrev n : Exec
    n = (w.tasks t).env.exec

    house_empty : (w.tasks t).env.exec.home ≡ home.Task (w.tasks t).env.own → find (w.tasks t).env.exec.serial (w.tasks t).env.house.parked ≡ Some None
    house_empty h =
        let own : members_at (w.tasks t).env.exec.home (drawn j w t).env ≡ Some (w.tasks t).env.house = ap (λ k. members_at k (drawn j w t).env) h ∙ ap (λ b. if b then Some (w.tasks t).env.house else None) (eq-eqb (w.tasks t).env.own (w.tasks t).env.own refl) in
        ap (slot_in (w.tasks t).env.exec.serial) (sym own) ∙ x.there t lt

    house_rests : (v : ℕ) → v < task_count j → (w.tasks t).env.exec.home ≡ home.Task (w.tasks v).env.own → NoRest (find (w.tasks t).env.exec.serial (w.tasks v).env.house.parked)
    house_rests v le h =
        let here : at_hand j w v (w.tasks t).env.exec.home ≡ true = ap (at_hand j w v) h ∙ eq-eqb (w.tasks v).env.own (w.tasks v).env.own refl in
        let same : v ≡ t = hands_apart t v lt le (w.tasks t).env.exec.home (home_there t lt) here in
        subst (λ u. (w.tasks t).env.exec.home ≡ home.Task (w.tasks u).env.own → NoRest (find (w.tasks t).env.exec.serial (w.tasks u).env.house.parked)) (sym same) (λ g. empty_rests (find (w.tasks t).env.exec.serial (w.tasks t).env.house.parked) (house_empty g)) h

    home_empty : (o : ℕ) (m : Members) → w.homes o ≡ Some m → (w.tasks t).env.exec.home ≡ home.Object o → find (w.tasks t).env.exec.serial m.parked ≡ Some None
    home_empty o m e h =
        by (find o (hand_of (held t j) w.homes)) refl (ap (λ k. slot_in (w.tasks t).env.exec.serial (members_at k (drawn j w t).env)) (sym h) ∙ x.there t lt)
      where
        by : (z : Option Members) → find o (hand_of (held t j) w.homes) ≡ z → slot_in (w.tasks t).env.exec.serial z ≡ Some None → find (w.tasks t).env.exec.serial m.parked ≡ Some None
        by None g i = none_some None (slot_in (w.tasks t).env.exec.serial None) refl i
        by (Some q) g i =
            let same : m ≡ q = the_same m q (sym e ∙ found_home (held t j) w.homes o q g) in
            ap (λ (u : Members). find (w.tasks t).env.exec.serial u.parked) same ∙ i

    tasks_other : (v : ℕ) → EnvBy (λ m z. m ≡ (w.tasks t).env.exec → ⊥) (w.tasks v).env
    tasks_other v = ⊎_elim (λ le. known v le) (λ le. first_env (λ m z. m ≡ (w.tasks t).env.exec → ⊥) source (w.tasks v) (later v le)) (cases_lt v (task_count j))
      where
        known : (v : ℕ) → v < task_count j → EnvBy (λ m z. m ≡ (w.tasks t).env.exec → ⊥) (w.tasks v).env
        known v le = record {
          house = parked_other (w.tasks t).env.exec (home.Task (w.tasks v).env.own) (w.tasks v).env.house.parked (house_apart v le) (house_rests v le);
          hand = subst (HandBy (λ m z. m ≡ (w.tasks t).env.exec → ⊥)) (sym (bare_hand v le)) tt;
        }

    home_other : (o : ℕ) (q : Option Members) → w.homes o ≡ q → MembersBy (λ m z. m ≡ (w.tasks t).env.exec → ⊥) (home.Object o) q
    home_other o None e = tt
    home_other o (Some m) e =
        let z = y.homes o m e in
        parked_other (w.tasks t).env.exec (home.Object o) m.parked z.apart (λ h. empty_rests (find (w.tasks t).env.exec.serial m.parked) (home_empty o m e h))

    pub own_name : HasOwnName j w t
    own_name = record {
      running = λ v le e.
          hands_apart t v lt le (w.tasks t).env.exec.home (home_there t lt) (ap (λ (m : Exec). at_hand j w v m.home) (sym e) ∙ home_there v le);
      tasks = tasks_other;
      homes = λ o. home_other o (w.homes o) refl;
    }

    -- elsewhere

    not_here : (v : ℕ) → v < task_count j → (v == t) ≡ false → (h : Home) → at_hand j w v h ≡ true → at_hand j w t h ≡ false
    not_here v le e h f =
        not_true (at_hand j w t h) (λ g. no_both (v == t) (eq-eqb v t (hands_apart t v lt le h g f)) e)

    tasks_elsewhere : (v : ℕ) → (v == t) ≡ false → EnvBy (λ m z. at_hand j w t m.home ≡ false) (w.tasks v).env
    tasks_elsewhere v e = ⊎_elim (λ le. known v le e) (λ le. first_env (λ m z. at_hand j w t m.home ≡ false) source (w.tasks v) (later v le)) (cases_lt v (task_count j))
      where
        known : (v : ℕ) → v < task_count j → (v == t) ≡ false → EnvBy (λ m z. at_hand j w t m.home ≡ false) (w.tasks v).env
        known v le e = record {
          house = parked_home (λ h. at_hand j w t h ≡ false) (home.Task (w.tasks v).env.own) (not_here v le e (home.Task (w.tasks v).env.own) (eq-eqb (w.tasks v).env.own (w.tasks v).env.own refl)) (w.tasks v).env.house.parked;
          hand = subst (HandBy (λ m z. at_hand j w t m.home ≡ false)) (sym (bare_hand v le)) tt;
        }

    home_elsewhere : (o : ℕ) → has (held t j) o ≡ false → (q : Option Members) → MembersBy (λ m z. at_hand j w t m.home ≡ false) (home.Object o) q
    home_elsewhere o f None = tt
    home_elsewhere o f (Some m) = parked_home (λ h. at_hand j w t h ≡ false) (home.Object o) f m.parked

    pub elsewhere : IsElsewhere j w t
    elsewhere = record {
      running = λ v le e. not_here v le e (w.tasks v).env.exec.home (home_there v le);
      tasks = tasks_elsewhere;
      homes = λ o f. home_elsewhere o f (w.homes o);
    }
