-- In the states of a ride what runs is at home where its task has something at hand, and nothing else in hand has its name.
use Rattle.std.proofs.Common.{◌≡◌, ℕ, ◌==◌, ◌⊎◌, inl, inr, Bool, true, false, List, [], ◌∷◌, ◌++◌, Option, Some, None, refl, sym, ap, ◌∙◌, subst, ◌||◌}
use Rattle.std.proofs.lemmas.Bool.{eqb-true, eq-eqb}
use Rattle.uc_tree.specs.Source.{Source}
use Rattle.uc_entry.specs.declared.entry.Options.{Options}
use Rattle.uc_entry.specs.declared.request.Answer.{Answer}
use Rattle.uc_entry.specs.declared.request.Answer.TheVariants as answer
use Rattle.uc_entry.specs.declared.request.Asked.{Asked}
use Rattle.uc_entry.specs.Keyed.{find}
use Rattle.uc_acts.specs.Journal.{Journal, held, is_over}
use Rattle.uc_acts.specs.Known.{has}
use Rattle.uc_acts.specs.Answers.{answer_to, just_made}
use Rattle.uc_acts.specs.KernelRuns.{InRange}
use Rattle.uc_acts.proofs.Held.{law_held}
use Rattle.uc_acts.proofs.Making.{law_new}
use Rattle.uc_machine.specs.declared.exec.Home.{Home}
use Rattle.uc_machine.specs.Executions.{members_at, slot_in}
use Rattle.uc_machine.specs.Pieces.{State, Members, Step, Goes, Ticks, Asks}
use Rattle.uc_machine.specs.Quiet.{quiet}
use Rattle.uc_machine.specs.Answering.{answered}
use Rattle.uc_machine.specs.Rides.{Rides, slices, goes_on, ticks, asks}
use Rattle.uc_meaning.specs.Runs.{World, with_home, hand_of, drawn}
use Rattle.uc_step_laws.specs.Hands.{keys}
use Rattle.uc_step_laws.specs.Holding.{plain, PlainMembers, PlainHand, Holding, BindsNext, StepHolding}
use Rattle.uc_step_laws.proofs.Walk.{law_steps}
use Rattle.uc_step_laws.proofs.Told.{law_told}
use Rattle.uc_state_laws.proofs.Others.{RunRests}
use Rattle.uc_state_laws.proofs.Lists.{Once, once_more, once_rest, first_once}
use Rattle.uc_state_laws.specs.RoomRuns.{Leads, stays, goes, ticks as leads_by_tick}
use Rattle.uc_state_laws.specs.Opens.{RideMeets, LeadsMeet}
use Rattle.uc_name_laws.specs.NameSteps.{Named, StepNamed, Spares}
use Rattle.uc_name_laws.proofs.Homes.{no_both, none_some}
use Rattle.uc_name_laws.proofs.Walk.{walk}
use Rattle.uc_life_laws.proofs.NamedWorlds.{found_home, absent_home, found_none}
use Rattle.uc_life_laws.specs.OwnNames.{at_hand, IsOwn, StepOwn, StaysOwn}
use Rattle.uc_life_laws.proofs.Alone.{alone_env}

-- lists in which each number stands once

or_second : (b c : Bool) → (b || c) ≡ false → c ≡ false
or_second true c h = cc
or_second false c h = h

or_first : (b c : Bool) → (b || c) ≡ false → b ≡ false
or_first true c h = cc
or_first false c h = refl

has_last : (xs : List ℕ) (o k : ℕ) → has xs k ≡ false → (o == k) ≡ false → has (xs ++ o ∷ []) k ≡ false
has_last [] o k h e = ap (λ b. b || false) e
has_last (x ∷ xs) o k h e = by (x == k) h (has_last xs o k)
  where
    by : (b : Bool) → (b || has xs k) ≡ false → (has xs k ≡ false → (o == k) ≡ false → has (xs ++ o ∷ []) k ≡ false) → (b || has (xs ++ o ∷ []) k) ≡ false
    by true h ih = cc
    by false h ih = ih h e

turned : (a b : ℕ) → (a == b) ≡ false → (b == a) ≡ false
turned a b f = by (b == a) refl
  where
    by : (c : Bool) → (b == a) ≡ c → (b == a) ≡ false
    by true g = no_both (a == b) (eq-eqb a b (sym (eqb-true b a g))) f
    by false g = g

once_last : (ks : List ℕ) (o : ℕ) → Once ks → has ks o ≡ false → Once (ks ++ o ∷ [])
once_last [] o n h = once_more o [] refl n
once_last (k ∷ ks) o n h =
    once_more k (ks ++ o ∷ []) (has_last ks o k (first_once k ks n) (turned k o (or_first (k == o) (has ks o) h))) (once_last ks o (once_rest k ks n) (or_second (k == o) (has ks o) h))

-- hands

once_hand : (os : List ℕ) (homes : ℕ → Option Members) → Once os → Once (keys (hand_of os homes))
once_hand [] homes n = n
once_hand (o ∷ os) homes n = by (homes o) (once_hand os homes (once_rest o os n))
  where
    by : (x : Option Members) → Once (keys (hand_of os homes)) → Once (keys (with_home o x (hand_of os homes)))
    by None h = h
    by (Some m) h = once_more o (keys (hand_of os homes)) (found_none o (hand_of os homes) (absent_home os homes o (first_once o os n))) h

home_plain : (o : ℕ) (x : Option Members) (hand : List (ℕ × Members)) → PlainMembers x → PlainHand hand → PlainHand (with_home o x hand)
home_plain o None hand h k = k
home_plain o (Some m) hand h k = (h, k)

hand_plain : (os : List ℕ) (homes : ℕ → Option Members) → ((o : ℕ) → PlainMembers (homes o)) → PlainHand (hand_of os homes)
hand_plain [] homes h = tt
hand_plain (o ∷ os) homes h = home_plain o (homes o) (hand_of os homes) (h o) (hand_plain os homes h)

-- the objects in hand stay, behind the answer that begins a ride
abbrev pub Settled : List ℕ → State → Type 0
Settled ks s = Holding ks s ⊎ BindsNext ks s

settled_keys : (ks : List ℕ) (s : State) → Settled ks s → keys s.env.hand ≡ ks
settled_keys ks s (inl h) = h.env.keys_are
settled_keys ks s (inr h) = h.env.keys_are

settled_step : (source : Source) (ks : List ℕ) (s : State) → Settled ks s → StepHolding ks (quiet source s)
settled_step source ks s (inl h) = law_steps.settled source ks s h
settled_step source ks s (inr h) = law_steps.bound source ks s h

module _ (source : Source) (j : Journal) (w : World) (t : ℕ) (ks : List ℕ) (once : Once ks) where
  own_state : (serials : Home → ℕ) (s : State) → Named (at_hand j w t) true serials s → keys s.env.hand ≡ ks → IsOwn j w t s
  own_state serials s n k = record {
    at_home = home (at_hand j w t s.env.exec.home) refl;
    alone = alone_env serials (at_hand j w t) s.env n.names.env_named (n.runs.there refl) (subst Once (sym k) once);
  }
    where
      home : (b : Bool) → at_hand j w t s.env.exec.home ≡ b → at_hand j w t s.env.exec.home ≡ true
      home true e = e
      home false e =
          none_some None (slot_in s.env.exec.serial (members_at s.env.exec.home s.env)) (ap (slot_in s.env.exec.serial) (n.names.env_named.away s.env.exec.home e)) (n.runs.there refl)

  own_step : (serials : Home → ℕ) (x : Step) → StepNamed (at_hand j w t) true serials x → StepHolding ks x → StepOwn j w t x
  own_step serials (Goes u) n h = own_state serials u n h.env.keys_are
  own_step serials (Ticks u) n h = own_state serials u n h.env.keys_are
  own_step serials (Asks r u) n h = own_state serials u n.0 h.env.keys_are

  -- a state and the step that follows
  record Stepped (s : State) : Type 0 where
    own : StaysOwn source j w t s
    serials : Home → ℕ
    named : StepNamed (at_hand j w t) true serials (quiet source s)
    holding : StepHolding ks (quiet source s)

  stepped : (serials : Home → ℕ) (s : State) → Named (at_hand j w t) true serials s → Settled ks s → Spares s → Stepped s
  stepped serials s n h f =
      let b = walk source (at_hand j w t) true serials s n (λ u. f) in
      let k = settled_step source ks s h in
      record {
        own = record { now = own_state serials s n (settled_keys ks s h); next = own_step b.serials (quiet source s) b.named k };
        serials = b.serials;
        named = b.named;
        holding = k;
      }

  pub ride_owns : (serials : Home → ℕ) {s u : State} {q k : ℕ} {a : Asked} (r : Rides source s q u k a) → Named (at_hand j w t) true serials s → Settled ks s → RideMeets Spares source s q u k a r → RideMeets (StaysOwn source j w t) source s q u k a r × IsOwn j w t u
  ride_owns serials (slices {s}) n h f = (tt, own_state serials s n (settled_keys ks s h))
  ride_owns serials (goes_on {s} e r) n h f =
      let b = stepped serials s n h f.0 in
      let y = ride_owns b.serials r (subst (StepNamed (at_hand j w t) true b.serials) e b.named) (inl (subst (StepHolding ks) e b.holding)) f.1 in
      ((b.own, y.0), y.1)
  ride_owns serials (ticks {s} e r) n h f =
      let b = stepped serials s n h f.0 in
      let y = ride_owns b.serials r (subst (StepNamed (at_hand j w t) true b.serials) e b.named) (inl (subst (StepHolding ks) e b.holding)) f.1 in
      ((b.own, y.0), y.1)
  ride_owns serials (asks {s} e) n h f =
      let b = stepped serials s n h f in
      (b.own, subst (StepOwn j w t) e b.own.next)

  pub leads_owns : (serials : Home → ℕ) {s u : State} (l : Leads source s u) → Named (at_hand j w t) true serials s → Settled ks s → LeadsMeet Spares source s u l → IsOwn j w t u
  leads_owns serials (stays {s}) n h f = own_state serials s n (settled_keys ks s h)
  leads_owns serials (goes {s} e l) n h f =
      let b = stepped serials s n h f.0 in
      leads_owns b.serials l (subst (StepNamed (at_hand j w t) true b.serials) e b.named) (inl (subst (StepHolding ks) e b.holding)) f.1
  leads_owns serials (leads_by_tick {s} e l) n h f =
      let b = stepped serials s n h f.0 in
      leads_owns b.serials l (subst (StepNamed (at_hand j w t) true b.serials) e b.named) (inl (subst (StepHolding ks) e b.holding)) f.1

-- as a ride begins

pub record Start (source : Source) (j : Journal) (w : World) (t : ℕ) (given : Answer) : Type 0 where
  pub hand : List ℕ
  pub once : Once hand
  pub settled : Settled hand (answered source given (drawn j w t))

module _ (source : Source) (input : List ℕ) (opts : Options) (range : InRange opts) {j : Journal} {w : World} (r : RunRests source input opts j w) (going : is_over j ≡ false) (t : ℕ) (given : Answer) (told : answer_to source.sites t j ≡ Some given) where
  abbrev in_hand : List ℕ
  in_hand = keys (hand_of (held t j) w.homes)

  hand_once : Once (keys (hand_of (held t j) w.homes))
  hand_once = once_hand (held t j) w.homes ((law_held j).once t)

  holding : plain (w.tasks t).run.control ≡ true → Holding (keys (hand_of (held t j) w.homes)) (drawn j w t)
  holding h = record {
    control = h;
    callers = (r.rests.tasks t).callers;
    env = record {
      keys_are = refl;
      house = (r.rests.tasks t).house;
      hand = hand_plain (held t j) w.homes r.rests.members;
      few = (r.rests.tasks t).few;
    };
  }

  binding : (o : ℕ) → just_made t j ≡ o ∷ [] → BindsNext (keys (hand_of (held t j) w.homes)) (drawn j w t)
  binding o e = record {
    control = (r.rests.tasks t).binds o e;
    callers = (r.rests.tasks t).callers;
    env = record {
      keys_are = refl;
      house = (r.rests.tasks t).house;
      hand = hand_plain (held t j) w.homes r.rests.members;
      few = (r.rests.tasks t).few;
    };
  }

  -- what has just been made is not in hand yet
  not_yet : (o : ℕ) → just_made t j ≡ o ∷ [] → has (keys (hand_of (held t j) w.homes)) o ≡ false
  not_yet o e = found_none o (hand_of (held t j) w.homes) (by (find o (hand_of (held t j) w.homes)) refl)
    where
      by : (z : Option Members) → find o (hand_of (held t j) w.homes) ≡ z → find o (hand_of (held t j) w.homes) ≡ None
      by None g = g
      by (Some m) g = none_some m (w.homes o) (r.rests.new t o e) (found_home (held t j) w.homes o m g)

  pub start : Start source j w t given
  start = by (r.rests.tasks t).control
    where
      by : (plain (w.tasks t).run.control ≡ true) ⊎ ((o : ℕ) × (just_made t j ≡ o ∷ [])) → Start source j w t given
      by (inl h) = record {
        hand = keys (hand_of (held t j) w.homes);
        once = hand_once;
        settled = inl (law_told.settled source (keys (hand_of (held t j) w.homes)) given (drawn j w t) (holding h));
      }
      by (inr (o, e)) =
          let n = law_new opts source.sites input j r.kernel going t o e in
          let both : Some given ≡ Some (answer.Object o) = sym told ∙ n.answer in
          let same : answer.Object o ≡ given = cc both in
          record {
            hand = keys (hand_of (held t j) w.homes) ++ o ∷ [];
            once = once_last (keys (hand_of (held t j) w.homes)) o hand_once (not_yet o e);
            settled = inr (subst (λ (a : Answer). BindsNext (keys (hand_of (held t j) w.homes) ++ o ∷ []) (answered source a (drawn j w t))) same (law_told.bound source (keys (hand_of (held t j) w.homes)) o (drawn j w t) (binding o e)));
          }
