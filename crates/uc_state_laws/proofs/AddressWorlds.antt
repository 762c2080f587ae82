-- In every run of a source of which no routine takes more cells than a number no frame has more; so all cells of frames have addresses.
use Rattle.std.proofs.Common.{◌≤◌, ℕ, ◌==◌, List, [], ◌∷◌, Option, Some, None, arith, subst}
use Rattle.uc_tree.specs.Source as src
use Rattle.uc_tree.specs.Source.{Source}
use Rattle.uc_entry.specs.declared.entry.Entry.{Entry}
use Rattle.uc_entry.specs.declared.entry.Options.{Options}
use Rattle.uc_entry.specs.declared.request.Asked.{Asked}
use Rattle.uc_entry.specs.Keyed.{find}
use Rattle.uc_acts.specs.Journal.{Journal, held, own_object}
use Rattle.uc_acts.specs.Known.{spawns, takes_out}
use Rattle.uc_machine.specs.Pieces as piece
use Rattle.uc_machine.specs.Pieces.{State, Todo, Members, Goes, Ticks, LAST_ADDRESS}
use Rattle.uc_machine.specs.Quiet.{no_members}
use Rattle.uc_machine.specs.Answering.{child_main}
use Rattle.uc_machine.specs.Rides as rides
use Rattle.uc_machine.specs.Rides.{Rides}
use Rattle.uc_meaning.specs.Runs.{World, May, Runs, gives, no_room, acts, begun, more, bare, with_home, hand_of, drawn, or_else}
use Rattle.uc_resolve.specs.Resolve.{source_of}
use Rattle.uc_site_laws.proofs.Kept.{either}
use Rattle.uc_state_laws.specs.RoomRuns as runs
use Rattle.uc_state_laws.specs.RoomRuns.{Leads, Comes}
use Rattle.uc_state_laws.specs.Opens.{RideMeets, MayMeet, LeadsMeet}
use Rattle.uc_state_laws.specs.FrameSizes.{SourceFits, HandFits, MembersFit, StateFits, StepFits}
use Rattle.uc_state_laws.specs.FrameSteps.{LawSteps}
use Rattle.uc_state_laws.specs.AddressFrameRuns.{LawRuns}
use Rattle.uc_state_laws.specs.Limits.{MOST_CELLS}
use Rattle.uc_state_laws.specs.Addressed.{AddressedAt, Addressed, RunAddressed, LawAddressed}
use Rattle.uc_state_laws.proofs.AddressKeeping.{found_hand, frame_fits}
use Rattle.uc_state_laws.proofs.AddressSteps.{walk, first, answered_fits}
use Rattle.uc_state_laws.proofs.Limits.{law_limits}

-- tasks at rest, and what is at home in objects
record WorldFits (most : ℕ) (w : World) : Type 0 where
  tasks : (t : ℕ) → StateFits most (w.tasks t)
  homes : (o : ℕ) → MembersFit most (w.homes o)

module _ (most : ℕ) where
  home_fits : (o : ℕ) (x : Option Members) (hand : List (ℕ × Members)) → MembersFit most x → HandFits most hand → HandFits most (with_home o x hand)
  home_fits o None hand h k = k
  home_fits o (Some m) hand h k = (h, k)

  hand_fits : (os : List ℕ) (homes : ℕ → Option Members) → ((o : ℕ) → MembersFit most (homes o)) → HandFits most (hand_of os homes)
  hand_fits [] homes h = tt
  hand_fits (o ∷ os) homes h = home_fits o (homes o) (hand_of os homes) (h o) (hand_fits os homes h)

  or_fits : (x y : Option Members) → MembersFit most x → MembersFit most y → MembersFit most (or_else x y)
  or_fits None y h k = k
  or_fits (Some m) y h k = h

  drawn_fits : (j : Journal) (w : World) (t : ℕ) → WorldFits most w → StateFits most (drawn j w t)
  drawn_fits j w t n = let x = n.tasks t in (x.0, x.1, hand_fits (held t j) w.homes n.homes)

  bare_fits : (s : State) → StateFits most s → StateFits most (bare s)
  bare_fits s h = (h.0, h.1, tt)

module _ (most : ℕ) (source : Source) (known : SourceFits most source) where
  led : {s u : State} → Leads source s u → StateFits most s → StateFits most u
  led runs.stays h = h
  led (runs.goes {s} e l) h = led l (subst (StepFits most) e (walk most source known s h))
  led (runs.ticks {s} e l) h = led l (subst (StepFits most) e (walk most source known s h))

  ridden : {s u : State} {q k : ℕ} {a : Asked} → Rides source s q u k a → StateFits most s → StateFits most u
  ridden rides.slices h = h
  ridden (rides.goes_on {s} {t} e r) h = ridden r (subst (StepFits most) e (walk most source known s h))
  ridden (rides.ticks {s} {t} e r) h = ridden r (subst (StepFits most) e (walk most source known s h))
  ridden (rides.asks {s} {t} e) h = subst (StepFits most) e (walk most source known s h)

  comes_fits : (j : Journal) (w : World) → WorldFits most w → (t : ℕ) (s : State) → Comes source j w t s → StateFits most s
  comes_fits j w n t s c = led c.leads (answered_fits most source c.given (drawn j w t) (drawn_fits most j w t n))

  module _ (input : List ℕ) (opts : Options) where
    may_fit : {j : Journal} {w : World} {a : List Entry} {x : World} → WorldFits most w → May source opts input j w a x → WorldFits most x
    may_fit n (gives p t s le) = n
    may_fit n (no_room p t s le) = n
    may_fit {j} {w} {a} n (acts p t k s asked d) =
        let asks : StateFits most s = ridden d.rides (answered_fits most source d.given (drawn j w t) (drawn_fits most j w t n)) in
        record {
          tasks = λ u. either (StateFits most) (u == t) _ _ (bare_fits most s asks) (either (StateFits most) (spawns a u) _ _ (first most source known (child_main source s.run.control) (own_object u a)) (n.tasks u));
          homes = λ o. either (MembersFit most) (takes_out a o) None (or_else (find o s.env.hand) (w.homes o)) tt (or_fits most (find o s.env.hand) (w.homes o) (found_hand most o s.env.hand asks.2) (n.homes o));
        }

    world_fits : {j : Journal} {w : World} → Runs source input opts j w → WorldFits most w
    world_fits begun = record {
      tasks = λ t. first most source known source.main 0;
      homes = λ o. either (MembersFit most) (o == 0) (Some no_members) None tt tt;
    }
    world_fits (more r on m) = may_fit (world_fits r) m

pub law_steps : LawSteps
law_steps = record {
  begins = λ most source known r o. first most source known r o;
  steps = λ most source known s h. walk most source known s h;
  told = λ most source given s h. answered_fits most source given s h;
}

pub law_runs : LawRuns
law_runs most source known input opts j w r = record {
  tasks = λ t. there.tasks t;
  homes = λ o. there.homes o;
  comes = λ t s c. comes_fits most source known j w there t s c;
}
  where
    there : WorldFits most w
    there = world_fits most source known input opts r

-- all cells of frames have addresses

addressed_at : (l : List Todo) (s : State) → StateFits MOST_CELLS s → AddressedAt l s
addressed_at (piece.Rest (src.Scoped c rest) ∷ todo) s h =
    let k = frame_fits MOST_CELLS s.env.frames s.run.frame h.0 in
    let few : MOST_CELLS ≤ LAST_ADDRESS = omega arith in
    omega (arith, k, few)
addressed_at l s h = tt

addressed : (s : State) → StateFits MOST_CELLS s → Addressed s
addressed s h = addressed_at s.run.control s h

module _ (source : Source) (known : SourceFits MOST_CELLS source) where
  lead_addressed : {s u : State} (l : Leads source s u) → StateFits MOST_CELLS s → LeadsMeet Addressed source s u l
  lead_addressed runs.stays h = tt
  lead_addressed (runs.goes {s} e l) h = (addressed s h, lead_addressed l (subst (StepFits MOST_CELLS) e (walk MOST_CELLS source known s h)))
  lead_addressed (runs.ticks {s} e l) h = (addressed s h, lead_addressed l (subst (StepFits MOST_CELLS) e (walk MOST_CELLS source known s h)))

  ride_addressed : {s u : State} {q k : ℕ} {a : Asked} (d : Rides source s q u k a) → StateFits MOST_CELLS s → RideMeets Addressed source s q u k a d
  ride_addressed rides.slices h = tt
  ride_addressed (rides.goes_on {s} {t} e r) h = (addressed s h, ride_addressed r (subst (StepFits MOST_CELLS) e (walk MOST_CELLS source known s h)))
  ride_addressed (rides.ticks {s} {t} e r) h = (addressed s h, ride_addressed r (subst (StepFits MOST_CELLS) e (walk MOST_CELLS source known s h)))
  ride_addressed (rides.asks {s} {t} e) h = addressed s h

  module _ (input : List ℕ) (opts : Options) where
    may_addressed : {j : Journal} {w : World} {a : List Entry} {x : World} → WorldFits MOST_CELLS w → (m : May source opts input j w a x) → MayMeet Addressed source opts input j w a x m
    may_addressed n (gives p t s le) = tt
    may_addressed n (no_room p t s le) = tt
    may_addressed {j} {w} n (acts p t k s asked d) =
        ride_addressed d.rides (answered_fits MOST_CELLS source d.given (drawn j w t) (drawn_fits MOST_CELLS j w t n))

    run_addressed : {j : Journal} {w : World} (r : Runs source input opts j w) → RunAddressed source input opts j w r
    run_addressed begun = tt
    run_addressed (more r on m) = (run_addressed r, may_addressed (world_fits MOST_CELLS source known input opts r) m)

pub law_addressed : LawAddressed
law_addressed = record {
  runs = λ p h input opts j w r. run_addressed (source_of p) (law_limits p h) input opts r;
  leads = λ p h input opts j w r t s c. lead_addressed (source_of p) (law_limits p h) c.leads (answered_fits MOST_CELLS (source_of p) c.given (drawn j w t) (drawn_fits MOST_CELLS j w t (world_fits MOST_CELLS (source_of p) (law_limits p h) input opts r)));
  comes = λ p h input opts j w r t s c. addressed s (comes_fits MOST_CELLS (source_of p) (law_limits p h) j w (world_fits MOST_CELLS (source_of p) (law_limits p h) input opts r) t s c);
}
