-- Quiet steps one after another: homes make more executions, and each that is made on the way is among them.
use Rattle.std.proofs.Common.{◌≡◌, ℕ, ◌≤◌, Bool, true, List, refl, ◌∙◌, subst, arith}
use Rattle.uc_tree.specs.Source.{Source}
use Rattle.uc_entry.specs.declared.entry.Entry.{Entry}
use Rattle.uc_entry.specs.declared.entry.Options.{Options}
use Rattle.uc_entry.specs.declared.request.Asked.{Asked}
use Rattle.uc_acts.specs.Journal.{Journal}
use Rattle.uc_machine.specs.declared.exec.Home.{Home}
use Rattle.uc_machine.specs.Pieces.{State, Asks}
use Rattle.uc_machine.specs.Rides.{Rides, slices, goes_on, ticks, asks}
use Rattle.uc_meaning.specs.Runs.{World, May, Runs, begun, more, gives, no_room, acts}
use Rattle.uc_state_laws.specs.RoomRuns.{Leads, stays, goes, ticks as leads_by_tick}
use Rattle.uc_state_laws.specs.Opens.{RideMeets, MayMeet, RunMeets, LeadsMeet}
use Rattle.uc_name_laws.specs.NameSteps.{Named, Outside, StepNamed, Grows, BornBelow, NamedBehind, Spares}
use Rattle.uc_name_laws.proofs.Values.{below_more}
use Rattle.uc_name_laws.proofs.Walk.{walk}

-- what holds of each state, where it follows from what held of it

module _ (source : Source) (P Q : State → Type 0) (f : (s : State) → P s → Q s) where
  pub ride_more : {s u : State} {q k : ℕ} {a : Asked} (r : Rides source s q u k a) → RideMeets P source s q u k a r → RideMeets Q source s q u k a r
  ride_more slices h = tt
  ride_more (goes_on {s} e r) h = (f s h.0, ride_more r h.1)
  ride_more (ticks {s} e r) h = (f s h.0, ride_more r h.1)
  ride_more (asks {s} e) h = f s h

  pub leads_more : {s u : State} (l : Leads source s u) → LeadsMeet P source s u l → LeadsMeet Q source s u l
  leads_more stays h = tt
  leads_more (goes {s} e l) h = (f s h.0, leads_more l h.1)
  leads_more (leads_by_tick {s} e l) h = (f s h.0, leads_more l h.1)

  module _ (opts : Options) (input : List ℕ) where
    pub may_more : {j : Journal} {w : World} {a : List Entry} {v : World} (m : May source opts input j w a v) → MayMeet P source opts input j w a v m → MayMeet Q source opts input j w a v m
    may_more (gives p t s le) h = tt
    may_more (no_room p t s le) h = tt
    may_more (acts p t n s asked d) h = ride_more d.rides h

    pub run_more : {j : Journal} {w : World} (r : Runs source input opts j w) → RunMeets P source input opts j w r → RunMeets Q source input opts j w r
    run_more begun h = tt
    run_more (more r o m) h = (run_more r h.0, may_more m h.1)

born_more : (source : Source) (before behind : Home → ℕ) → ((h : Home) → before h ≤ behind h) → (s : State) → BornBelow source before s → BornBelow source behind s
born_more source before behind le s b n x = below_more before behind le n (b n x)

pub ride_born : (source : Source) (before behind : Home → ℕ) → ((h : Home) → before h ≤ behind h) → {s u : State} {q k : ℕ} {a : Asked} (r : Rides source s q u k a) → RideMeets (BornBelow source before) source s q u k a r → RideMeets (BornBelow source behind) source s q u k a r
ride_born source before behind le r h = ride_more source (BornBelow source before) (BornBelow source behind) (born_more source before behind le) r h

pub run_born : (source : Source) (before behind : Home → ℕ) → ((h : Home) → before h ≤ behind h) → (opts : Options) (input : List ℕ) → {j : Journal} {w : World} (r : Runs source input opts j w) → RunMeets (BornBelow source before) source input opts j w r → RunMeets (BornBelow source behind) source input opts j w r
run_born source before behind le opts input r h =
    run_more source (BornBelow source before) (BornBelow source behind) (born_more source before behind le) opts input r h

-- ways

pub grows_not : (here : Home → Bool) (serials : Home → ℕ) → Grows here serials serials
grows_not here serials = record { more = λ h. omega arith; same = λ h e. refl }

grows_on : (here : Home → Bool) (a b c : Home → ℕ) → Grows here a b → Grows here b c → Grows here a c
grows_on here a b c g h = record {
  more = λ k. let x = g.more k in let y = h.more k in omega (arith, x, y);
  same = λ k e. h.same k e ∙ g.same k e;
}

module _ (source : Source) (here : Home → Bool) (sure : Bool) where
  -- the state that a way leads to, and what was made on it
  pub record LeadsNamed (before : Home → ℕ) (s u : State) (l : Leads source s u) : Type 0 where
    pub now : Home → ℕ
    pub grows : Grows here before now
    pub named : Named here sure now u
    pub born : LeadsMeet (BornBelow source now) source s u l

  pub record RideNamed (before : Home → ℕ) (s : State) (q : ℕ) (u : State) (k : ℕ) (a : Asked) (r : Rides source s q u k a) : Type 0 where
    pub now : Home → ℕ
    pub grows : Grows here before now
    pub named : Named here sure now u
    pub born : RideMeets (BornBelow source now) source s q u k a r
    pub out : Outside a.request u.env

  step_to : (serials : Home → ℕ) (s : State) → Named here sure serials s → (sure ≡ true → Spares s) → NamedBehind source here sure serials s
  step_to serials s h f = walk source here sure serials s h f

  pub leads_named : (serials : Home → ℕ) {s u : State} (l : Leads source s u) → Named here sure serials s → (sure ≡ true → LeadsMeet Spares source s u l) → LeadsNamed serials s u l
  leads_named serials stays h f = record { now = serials; grows = grows_not here serials; named = h; born = tt }
  leads_named serials (goes {s} e l) h f =
      let b = step_to serials s h (λ x. (f x).0) in
      let y = leads_named b.serials l (subst (StepNamed here sure b.serials) e b.named) (λ x. (f x).1) in
      record {
        now = y.now;
        grows = grows_on here serials b.serials y.now b.grows y.grows;
        named = y.named;
        born = (born_more source b.serials y.now y.grows.more s b.born, y.born);
      }
  leads_named serials (leads_by_tick {s} e l) h f =
      let b = step_to serials s h (λ x. (f x).0) in
      let y = leads_named b.serials l (subst (StepNamed here sure b.serials) e b.named) (λ x. (f x).1) in
      record {
        now = y.now;
        grows = grows_on here serials b.serials y.now b.grows y.grows;
        named = y.named;
        born = (born_more source b.serials y.now y.grows.more s b.born, y.born);
      }

  pub ride_named : (serials : Home → ℕ) {s u : State} {q k : ℕ} {a : Asked} (r : Rides source s q u k a) → Named here sure serials s → (sure ≡ true → RideMeets Spares source s q u k a r) → RideNamed serials s q u k a r
  ride_named serials slices h f = record { now = serials; grows = grows_not here serials; named = h; born = tt; out = tt }
  ride_named serials (goes_on {s} e r) h f =
      let b = step_to serials s h (λ x. (f x).0) in
      let y = ride_named b.serials r (subst (StepNamed here sure b.serials) e b.named) (λ x. (f x).1) in
      record {
        now = y.now;
        grows = grows_on here serials b.serials y.now b.grows y.grows;
        named = y.named;
        born = (born_more source b.serials y.now y.grows.more s b.born, y.born);
        out = y.out;
      }
  ride_named serials (ticks {s} e r) h f =
      let b = step_to serials s h (λ x. (f x).0) in
      let y = ride_named b.serials r (subst (StepNamed here sure b.serials) e b.named) (λ x. (f x).1) in
      record {
        now = y.now;
        grows = grows_on here serials b.serials y.now b.grows y.grows;
        named = y.named;
        born = (born_more source b.serials y.now y.grows.more s b.born, y.born);
        out = y.out;
      }
  ride_named serials (asks {s} {t} {q} {r} e) h f =
      let b = step_to serials s h f in
      let y : StepNamed here sure b.serials (Asks r t) = subst (StepNamed here sure b.serials) e b.named in
      record { now = b.serials; grows = b.grows; named = y.0; born = b.born; out = y.1 }
