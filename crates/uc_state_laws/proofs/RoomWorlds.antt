-- In every run of a source that keeps to its rooms, all tasks do.
use Rattle.std.proofs.Common.{ℕ, ◌==◌, List, [], ◌∷◌, Option, Some, None, subst}
use Rattle.uc_tree.specs.Source.{Source}
use Rattle.uc_entry.specs.declared.entry.Entry.{Entry}
use Rattle.uc_entry.specs.declared.entry.Options.{Options}
use Rattle.uc_entry.specs.declared.request.Asked.{Asked}
use Rattle.uc_entry.specs.Keyed.{find}
use Rattle.uc_acts.specs.Journal.{Journal, held, own_object}
use Rattle.uc_acts.specs.Known.{spawns, takes_out}
use Rattle.uc_machine.specs.Quiet.{State, Members, no_members}
use Rattle.uc_machine.specs.Answering.{child_main}
use Rattle.uc_machine.specs.Rides as rides
use Rattle.uc_machine.specs.Rides.{Rides}
use Rattle.uc_meaning.specs.Runs.{World, AsksIn, May, Runs, gives, no_room, acts, begun, more, bare, with_home, hand_of, drawn, or_else}
use Rattle.uc_resolve.specs.Resolve.{source_of}
use Rattle.uc_site_laws.specs.Resting.{RestsHand, RestsMembers}
use Rattle.uc_site_laws.proofs.Kept.{either, found_hand}
use Rattle.uc_state_laws.specs.Rooms.{SourceIn}
use Rattle.uc_state_laws.specs.RoomStates.{RoomActive, RoomState, RoomStep}
use Rattle.uc_state_laws.specs.Layout.{Sized}
use Rattle.uc_state_laws.specs.RoomRuns as runs
use Rattle.uc_state_laws.specs.RoomRuns.{Leads, Comes, InRooms, LawRuns}
use Rattle.uc_state_laws.proofs.ScopeSteps as steps
use Rattle.uc_state_laws.proofs.ScopeWalk.{walk, first, answered_rests, law_clears}
use Rattle.uc_state_laws.proofs.Unreferring.{law_accepted}

-- tasks at rest, and what is at home in objects
record RoomWorld (Z : ℕ → ℕ → Type 0) (w : World) : Type 0 where
  tasks : (t : ℕ) → RoomState Z (w.tasks t)
  homes : (o : ℕ) → RestsMembers (RoomActive Z) (RoomActive Z) (w.homes o)

module _ (Z : ℕ → ℕ → Type 0) where
  home_rests : (o : ℕ) (x : Option Members) (hand : List (ℕ × Members)) → RestsMembers (RoomActive Z) (RoomActive Z) x → RestsHand (RoomActive Z) (RoomActive Z) hand → RestsHand (RoomActive Z) (RoomActive Z) (with_home o x hand)
  home_rests o None hand h k = k
  home_rests o (Some m) hand h k = (h, k)

  hand_rests : (os : List ℕ) (homes : ℕ → Option Members) → ((o : ℕ) → RestsMembers (RoomActive Z) (RoomActive Z) (homes o)) → RestsHand (RoomActive Z) (RoomActive Z) (hand_of os homes)
  hand_rests [] homes h = tt
  hand_rests (o ∷ os) homes h = home_rests o (homes o) (hand_of os homes) (h o) (hand_rests os homes h)

  or_rests : (x y : Option Members) → RestsMembers (RoomActive Z) (RoomActive Z) x → RestsMembers (RoomActive Z) (RoomActive Z) y → RestsMembers (RoomActive Z) (RoomActive Z) (or_else x y)
  or_rests None y h k = k
  or_rests (Some m) y h k = h

  drawn_rests : (j : Journal) (w : World) (t : ℕ) → RoomWorld Z w → RoomState Z (drawn j w t)
  drawn_rests j w t n =
      let x = n.tasks t in
      record { run = x.run; callers = x.callers; env = record { house = x.env.house; hand = hand_rests (held t j) w.homes n.homes } }

  bare_rests : (s : State) → RoomState Z s → RoomState Z (bare s)
  bare_rests s h = record { run = h.run; callers = h.callers; env = record { house = h.env.house; hand = tt } }

module _ (Z : ℕ → ℕ → Type 0) (source : Source) (known : SourceIn Z source) where
  led : {s u : State} → Leads source s u → RoomState Z s → RoomState Z u
  led runs.stays h = h
  led (runs.goes {s} e l) h = led l (subst (RoomStep Z) e (walk Z source known s h))
  led (runs.ticks {s} e l) h = led l (subst (RoomStep Z) e (walk Z source known s h))

  ridden : {s u : State} {q k : ℕ} {a : Asked} → Rides source s q u k a → RoomState Z s → RoomState Z u
  ridden rides.slices h = h
  ridden (rides.goes_on {s} {t} e r) h = ridden r (subst (RoomStep Z) e (walk Z source known s h))
  ridden (rides.ticks {s} {t} e r) h = ridden r (subst (RoomStep Z) e (walk Z source known s h))
  ridden (rides.asks {s} {t} e) h = subst (RoomStep Z) e (walk Z source known s h)

  module _ (input : List ℕ) (opts : Options) where
    asks_rests : {j : Journal} {w : World} → RoomWorld Z w → (p t n : ℕ) (s : State) (asked : Asked) → AsksIn source opts j w p t n s asked → RoomState Z s
    asks_rests {j} {w} x p t n s asked d =
        ridden d.rides (answered_rests Z source d.given (drawn j w t) (drawn_rests Z j w t x))

    may_rests : {j : Journal} {w : World} {a : List Entry} {x : World} → RoomWorld Z w → May source opts input j w a x → RoomWorld Z x
    may_rests n (gives p t s le) = n
    may_rests n (no_room p t s le) = n
    may_rests {j} {w} {a} n (acts p t k s asked d) =
        let asks = asks_rests n p t k s asked d in
        record {
          tasks = λ u. either (RoomState Z) (u == t) _ _ (bare_rests Z s asks) (either (RoomState Z) (spawns a u) _ _ (first Z source known (child_main source s.run.control) (own_object u a)) (n.tasks u));
          homes = λ o. either (RestsMembers (RoomActive Z) (RoomActive Z)) (takes_out a o) None (or_else (find o s.env.hand) (w.homes o)) tt (or_rests Z (find o s.env.hand) (w.homes o) (found_hand (RoomActive Z) (RoomActive Z) (steps.calm Z) o s.env.hand asks.env.hand) (n.homes o));
        }

    world_rests : {j : Journal} {w : World} → Runs source input opts j w → RoomWorld Z w
    world_rests begun = record {
      tasks = λ t. first Z source known source.main 0;
      homes = λ o. either (RestsMembers (RoomActive Z) (RoomActive Z)) (o == 0) (Some no_members) None tt tt;
    }
    world_rests (more r o m) = may_rests (world_rests r) m

pub law_runs : LawRuns
law_runs p h input opts j w r = record {
  rests = λ t. there.tasks t;
  comes = λ t s c. state t s c;
  clears = λ t s c k n todo e. law_clears p s (state t s c) k n todo e;
}
  where
    there : RoomWorld (Sized p) w
    there = world_rests (Sized p) (source_of p) (law_accepted p h) input opts r

    state : (t : ℕ) (s : State) → Comes (source_of p) j w t s → RoomState (Sized p) s
    state t s c =
        led (Sized p) (source_of p) (law_accepted p h) c.leads (answered_rests (Sized p) (source_of p) c.given (drawn j w t) (drawn_rests (Sized p) j w t there))
