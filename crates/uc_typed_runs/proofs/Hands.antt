-- Hands that are laid back and drawn again, rides, and answers that suit.
use Rattle.std.proofs.Common.{◌≡◌, ℕ, suc, Bool, true, false, List, [], ◌∷◌, Option, Some, None, refl, subst}
use Rattle.std.specs.Prelude.{nat_eq, if◌then◌else◌}
use Rattle.uc_tree.specs.Source.{Source}
use Rattle.uc_entry.specs.Keyed.{find}
use Rattle.uc_entry.specs.declared.request.Answer.{Answer}
use Rattle.uc_entry.specs.declared.request.Answer.TheVariants as answer
use Rattle.uc_entry.specs.declared.request.Asked.{Asked}
use Rattle.uc_entry.specs.declared.request.Request.{Request}
use Rattle.uc_entry.specs.declared.request.Request.TheVariants as ask
use Rattle.uc_answer_laws.specs.Suiting.{IsForm, form_of_request}
use Rattle.uc_machine.specs.Quiet.{State, Members, Step, Goes, Ticks, Asks, quiet}
use Rattle.uc_machine.specs.Answering.{with_hand}
use Rattle.uc_machine.specs.Rides.{Rides, slices, goes_on, ticks, asks}
use Rattle.uc_state_laws.specs.RoomRuns.{Leads, stays, goes, ticks as by_tick}
use Rattle.uc_meaning.specs.Runs.{with_home, hand_of, or_else}
use Rattle.uc_typing.specs.Typing.{Num, Raw, Clu, Pro, Table}
use Rattle.uc_typing.specs.States.{Sound, Typed, Asked as AskedIn, After, Inhand, Suits}
use Rattle.uc_typing.specs.Laws.{ReadsIn}
use Rattle.uc_typing.proofs.Answers.{handed}
use Rattle.uc_typing.proofs.Keeps.{keeps}
use Rattle.uc_state_laws.specs.Endings.{still_reading, RideHolds, LeadsHold}
use Rattle.uc_typed_runs.specs.TypedRuns.{Reading, AtHome}

-- an answer of the form that a request asks for suits it
pub suits : (q : Request) (a : Answer) → IsForm (form_of_request q) a → (q ≡ ask.End → ⊥) → ((n : ℕ) → q ≡ ask.Fault n → ⊥) → Suits q a
suits (ask.Make n) (answer.Object o) h e f = tt
suits ask.Cluster (answer.Object o) h e f = tt
suits (ask.Processor c) (answer.Object o) h e f = tt
suits (ask.Accept o site mask) (answer.Clause k failed) h e f = tt
suits (ask.Empty o n) (answer.Number z) h e f = tt
suits (ask.Front o n) (answer.Number z) h e f = tt
suits ask.Fail (answer.Number z) h e f = tt
suits (ask.Read form) (answer.Value z failed) h e f = tt
suits (ask.Poll mask) (answer.Event n x y) h e f = tt
suits (ask.Poll mask) answer.Nothing h e f = tt
suits ask.End a h e f = absurd (e refl)
suits (ask.Fault n) a h e f = absurd (f n refl)
suits (ask.Made o) answer.Go h e f = tt
suits (ask.Spawn o) answer.Go h e f = tt
suits (ask.Call o m) answer.Go h e f = tt
suits (ask.Leave o failed) answer.Go h e f = tt
suits (ask.Wait o n z) answer.Go h e f = tt
suits (ask.Signal o n) answer.Go h e f = tt
suits (ask.SignalBlock o n) answer.Go h e f = tt
suits (ask.Raise o n x y) answer.Go h e f = tt
suits ask.Yield answer.Go h e f = tt
suits ask.Slice answer.Go h e f = tt
suits (ask.Print n items) answer.Go h e f = tt
suits (ask.ClusterEnd c) answer.Go h e f = tt
suits (ask.ProcessorEnd c) answer.Go h e f = tt
suits (ask.Migrate c) answer.Go h e f = tt
suits (ask.Gone o) answer.Go h e f = tt
suits _ _ h e f = absurd h

module _ (t : Table) (source : Source) where
  -- with another hand
  pub asked_handed : (q : Request) (hand : List (ℕ × Members)) (s : State) → AskedIn t source q s → Inhand t hand → AskedIn t source q (with_hand hand s)
  asked_handed (ask.Make n) hand s x i = (x.0, x.1, x.2, handed t (Raw x.0 ∷ []) hand s x.3 i)
  asked_handed (ask.Spawn o) hand s x i = (x.0, handed t [] hand s x.1 i)
  asked_handed (ask.Accept o site mask) hand s x i = handed t (Num ∷ (Num ∷ [])) hand s x i
  asked_handed (ask.Empty o n) hand s x i = handed t (Num ∷ []) hand s x i
  asked_handed (ask.Front o n) hand s x i = handed t (Num ∷ []) hand s x i
  asked_handed (ask.Poll mask) hand s x i = handed t (Num ∷ (Num ∷ (Num ∷ []))) hand s x i
  asked_handed (ask.Read form) hand s x i = handed t (Num ∷ []) hand s x i
  asked_handed ask.Fail hand s x i = handed t (Num ∷ []) hand s x i
  asked_handed ask.Cluster hand s x i = handed t (Clu ∷ []) hand s x i
  asked_handed (ask.Processor c) hand s x i = handed t (Pro ∷ []) hand s x i
  asked_handed ask.End hand s x i = (x.0, i)
  asked_handed (ask.Fault n) hand s x i = tt
  asked_handed (ask.Made o) hand s x i = handed t [] hand s x i
  asked_handed (ask.Call o m) hand s x i = handed t [] hand s x i
  asked_handed (ask.Leave o failed) hand s x i = handed t [] hand s x i
  asked_handed (ask.Wait o n z) hand s x i = handed t [] hand s x i
  asked_handed (ask.Signal o n) hand s x i = handed t [] hand s x i
  asked_handed (ask.SignalBlock o n) hand s x i = handed t [] hand s x i
  asked_handed (ask.Raise o n y z) hand s x i = handed t [] hand s x i
  asked_handed ask.Yield hand s x i = handed t [] hand s x i
  asked_handed ask.Slice hand s x i = handed t [] hand s x i
  asked_handed (ask.Print n items) hand s x i = handed t [] hand s x i
  asked_handed (ask.ClusterEnd c) hand s x i = handed t [] hand s x i
  asked_handed (ask.ProcessorEnd c) hand s x i = handed t [] hand s x i
  asked_handed (ask.Migrate c) hand s x i = handed t [] hand s x i
  asked_handed (ask.Gone o) hand s x i = handed t [] hand s x i

  -- what is in hand where something is asked that is no fault
  pub asked_hand : (q : Request) (s : State) → ((n : ℕ) → q ≡ ask.Fault n → ⊥) → AskedIn t source q s → Inhand t s.env.hand
  asked_hand (ask.Make n) s f x = x.3.idle.1
  asked_hand (ask.Spawn o) s f x = x.1.idle.1
  asked_hand ask.End s f x = x.1
  asked_hand (ask.Fault n) s f x = absurd (f n refl)
  asked_hand (ask.Accept o site mask) s f x = x.idle.1
  asked_hand (ask.Empty o n) s f x = x.idle.1
  asked_hand (ask.Front o n) s f x = x.idle.1
  asked_hand (ask.Poll mask) s f x = x.idle.1
  asked_hand (ask.Read form) s f x = x.idle.1
  asked_hand ask.Fail s f x = x.idle.1
  asked_hand ask.Cluster s f x = x.idle.1
  asked_hand (ask.Processor c) s f x = x.idle.1
  asked_hand (ask.Made o) s f x = x.idle.1
  asked_hand (ask.Call o m) s f x = x.idle.1
  asked_hand (ask.Leave o failed) s f x = x.idle.1
  asked_hand (ask.Wait o n z) s f x = x.idle.1
  asked_hand (ask.Signal o n) s f x = x.idle.1
  asked_hand (ask.SignalBlock o n) s f x = x.idle.1
  asked_hand (ask.Raise o n y z) s f x = x.idle.1
  asked_hand ask.Yield s f x = x.idle.1
  asked_hand ask.Slice s f x = x.idle.1
  asked_hand (ask.Print n items) s f x = x.idle.1
  asked_hand (ask.ClusterEnd c) s f x = x.idle.1
  asked_hand (ask.ProcessorEnd c) s f x = x.idle.1
  asked_hand (ask.Migrate c) s f x = x.idle.1
  asked_hand (ask.Gone o) s f x = x.idle.1

  -- a ride
  module _ (sound : Sound t source) where
    pub behind : (s : State) (step : Step) → quiet source s ≡ step → Typed t [] s → ReadsIn t s → After t source step
    behind s step e x r = subst (After t source) e (keeps t source sound s (r x).0 (r x).1)

    pub rides_typed : (n : ℕ) (s : State) (q : ℕ) (u : State) (k : ℕ) (a : Asked) (d : Rides source s q u k a) → RideHolds (Reading t) source n s q u k a d → Typed t [] s → AskedIn t source a.request u
    rides_typed n _ _ _ _ _ slices r x = x
    rides_typed n _ _ _ _ _ (goes_on {s} {t = v} {u} {q} {k} {a} e rest) r x =
        rides_typed (still_reading n s.run.control) v (suc q) u k a rest r.1 (behind s (Goes v) e x r.0)
    rides_typed n _ _ _ _ _ (ticks {s} {t = v} {u} {q} {k} {a} e rest) r x =
        rides_typed (still_reading n s.run.control) v q u k a rest r.1 (behind s (Ticks v) e x r.0)
    rides_typed n _ _ _ _ _ (asks {s} {t = v} {r = m} e) r x = behind s (Asks m v) e x r

    pub leads_typed : (n : ℕ) {s u : State} (l : Leads source s u) → LeadsHold (Reading t) source n s u l → Typed t [] s → Typed t [] u
    leads_typed n stays h x = x
    leads_typed n (goes {s} {u} e l) h x = leads_typed (still_reading n s.run.control) l h.1 (behind s (Goes u) e x h.0)
    leads_typed n (by_tick {s} {u} e l) h x = leads_typed (still_reading n s.run.control) l h.1 (behind s (Ticks u) e x h.0)

pub found_home : (t : Table) (o : ℕ) (hand : List (ℕ × Members)) → Inhand t hand → AtHome t (find o hand)
found_home t o [] h = tt
found_home t o (p ∷ ps) h = by (nat_eq p.0 o) (found_home t o ps h.1)
  where
    by : (b : Bool) → AtHome t (find o ps) → AtHome t (if b then Some p.1 else find o ps)
    by true r = h.0
    by false r = r

pub drawn_hand : (t : Table) (os : List ℕ) (homes : ℕ → Option Members) → ((o : ℕ) → AtHome t (homes o)) → Inhand t (hand_of os homes)
drawn_hand t [] homes h = tt
drawn_hand t (o ∷ os) homes h = by (homes o) (h o) (drawn_hand t os homes h)
  where
    by : (x : Option Members) → AtHome t x → Inhand t (hand_of os homes) → Inhand t (with_home o x (hand_of os homes))
    by None a r = r
    by (Some m) a r = (a, r)

pub either_home : (t : Table) (x y : Option Members) → AtHome t x → AtHome t y → AtHome t (or_else x y)
either_home t None y h g = g
either_home t (Some m) y h g = h
