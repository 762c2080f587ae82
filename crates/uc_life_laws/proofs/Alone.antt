-- No execution that does not run has the name of one that is there without what it has to do.
use Rattle.std.proofs.Common.{◌≡◌, ℕ, ◌||◌, Bool, true, false, List, [], ◌∷◌, Option, Some, None, refl, sym, ap, ◌∙◌}
use Rattle.std.specs.Prelude.{nat_eq, if◌then◌else◌}
use Rattle.std.proofs.lemmas.Bool.{eqb-true, eq-eqb}
use Rattle.uc_entry.specs.Keyed.{find}
use Rattle.uc_acts.specs.Known.{has}
use Rattle.uc_machine.specs.declared.exec.Exec.{Exec}
use Rattle.uc_machine.specs.declared.exec.Home.{Home}
use Rattle.uc_machine.specs.declared.exec.Home.TheVariants as home
use Rattle.uc_machine.specs.Executions.{members_at, slot_in}
use Rattle.uc_machine.specs.Pieces.{Env, Members}
use Rattle.uc_step_laws.specs.Hands.{keys}
use Rattle.uc_state_laws.proofs.Lists.{Once, once_rest, first_once}
use Rattle.uc_life_laws.specs.LifeStates.{SlotBy, ParkedBy, HandBy, EnvBy}
use Rattle.uc_name_laws.specs.Below.{Ex, AreApart, EnvNamed, slot_at}
use Rattle.uc_name_laws.proofs.Homes.{no_both}

-- not one that does not run
abbrev pub NoRest : Option (Option Ex) → Type 0
NoRest None = Unit {0}
NoRest (Some None) = Unit {0}
NoRest (Some (Some x)) = ⊥

pub empty_rests : (o : Option (Option Ex)) → o ≡ Some None → NoRest o
empty_rests None e = tt
empty_rests (Some None) e = tt
empty_rests (Some (Some x)) e = absurd (cc)

module _ (n : Exec) where
  abbrev pub Other : Exec → Ex → Type 0
  Other m x = m ≡ n → ⊥

  slot_other : (h : Home) (k : ℕ) (o : Option Ex) → (n.home ≡ h → nat_eq k n.serial ≡ true → NoRest (Some o)) → SlotBy Other (record { home = h; serial = k }) o
  slot_other h k None f = tt
  slot_other h k (Some x) f = λ e. f (ap (λ (m : Exec). m.home) (sym e)) (eq-eqb k n.serial (ap (λ (m : Exec). m.serial) e))

  -- what is at a home has numbers apart
  pub parked_other : (h : Home) (ps : List (ℕ × Option Ex)) → AreApart ps → (n.home ≡ h → NoRest (find n.serial ps)) → ParkedBy Other h ps
  parked_other h [] a f = tt
  parked_other h (p ∷ ps) a f =
      (slot_other h p.0 p.1 (λ e g. this (nat_eq p.0 n.serial) g (f e)), parked_other h ps a.1 (λ e. rest (nat_eq p.0 n.serial) refl (f e)))
    where
      this : (b : Bool) → b ≡ true → NoRest (if b then Some p.1 else find n.serial ps) → NoRest (Some p.1)
      this true g i = i
      this false g i = absurd (cc)

      none : (o : Option (Option Ex)) → o ≡ None → NoRest o
      none None e = tt
      none (Some x) e = absurd (cc)

      rest : (b : Bool) → nat_eq p.0 n.serial ≡ b → NoRest (if b then Some p.1 else find n.serial ps) → NoRest (find n.serial ps)
      rest true g i = none (find n.serial ps) (ap (λ k. find k ps) (sym (eqb-true p.0 n.serial g)) ∙ a.0)
      rest false g i = i

  -- a hand, in which each object is once
  pub hand_other : (ps : List (ℕ × Members)) → Once (keys ps) → ((o : ℕ) (m : Members) → find o ps ≡ Some m → AreApart m.parked) → ((o : ℕ) (m : Members) → n.home ≡ home.Object o → find o ps ≡ Some m → NoRest (find n.serial m.parked)) → HandBy Other ps
  hand_other [] once a f = tt
  hand_other (p ∷ ps) once a f = (
    parked_other (home.Object p.0) p.1.parked (a p.0 p.1 this) (λ e. f p.0 p.1 e this),
    hand_other ps (once_rest p.0 (keys ps) once) (λ o m e. a o m (later o m e)) (λ o m h e. f o m h (later o m e)),
  )
    where
      this : find p.0 (p ∷ ps) ≡ Some p.1
      this = ap (λ b. if b then Some p.1 else find p.0 ps) (eq-eqb p.0 p.0 refl)

      absent : (o : ℕ) (l : List (ℕ × Members)) (m : Members) → find o l ≡ Some m → has (keys l) o ≡ true
      absent o [] m e = cc
      absent o (q ∷ l) m e = by (nat_eq q.0 o) e (absent o l m)
        where
          by : (b : Bool) → (if b then Some q.1 else find o l) ≡ Some m → (find o l ≡ Some m → has (keys l) o ≡ true) → (b || has (keys l) o) ≡ true
          by true e ih = refl
          by false e ih = ih e

      later : (o : ℕ) (m : Members) → find o ps ≡ Some m → find o (p ∷ ps) ≡ Some m
      later o m e = by (nat_eq p.0 o) refl
        where
          by : (b : Bool) → nat_eq p.0 o ≡ b → (if b then Some p.1 else find o ps) ≡ Some m
          by true g = no_both (has (keys ps) o) (absent o ps m e) (ap (has (keys ps)) (sym (eqb-true p.0 o g)) ∙ first_once p.0 (keys ps) once)
          by false g = e

  -- a task with its hand
  pub env_other : (e : Env) → Once (keys e.hand) → ((h : Home) (m : Members) → members_at h e ≡ Some m → AreApart m.parked) → (n.home ≡ home.Task e.own → NoRest (find n.serial e.house.parked)) → ((o : ℕ) (m : Members) → n.home ≡ home.Object o → find o e.hand ≡ Some m → NoRest (find n.serial m.parked)) → EnvBy Other e
  env_other e once a house hand = record {
    house = parked_other (home.Task e.own) e.house.parked (a (home.Task e.own) e.house own) house;
    hand = hand_other e.hand once (λ o m g. a (home.Object o) m g) hand;
  }
    where
      own : members_at (home.Task e.own) e ≡ Some e.house
      own = ap (λ b. if b then Some e.house else None) (eq-eqb e.own e.own refl)

-- what is there without what it has to do
pub alone_env : (serials : Home → ℕ) (here : Home → Bool) (e : Env) → EnvNamed serials here e → slot_at e.exec e ≡ Some None → Once (keys e.hand) → EnvBy (λ n x. n ≡ e.exec → ⊥) e
alone_env serials here e names there once =
    env_other e.exec e once (λ h m g. let y = names.members_named h m g in y.apart) (λ h. empty_rests (find e.exec.serial e.house.parked) (house h)) (λ o m h g. empty_rests (find e.exec.serial m.parked) (hand o m h g))
  where
    house : e.exec.home ≡ home.Task e.own → find e.exec.serial e.house.parked ≡ Some None
    house h =
        let own : members_at e.exec.home e ≡ Some e.house = ap (λ k. members_at k e) h ∙ ap (λ b. if b then Some e.house else None) (eq-eqb e.own e.own refl) in
        ap (slot_in e.exec.serial) (sym own) ∙ there

    hand : (o : ℕ) (m : Members) → e.exec.home ≡ home.Object o → find o e.hand ≡ Some m → find e.exec.serial m.parked ≡ Some None
    hand o m h g =
        let at : members_at e.exec.home e ≡ Some m = ap (λ k. members_at k e) h ∙ g in
        ap (slot_in e.exec.serial) (sym at) ∙ there
