-- In every run of a source that keeps to its rooms, what is declared lies behind all objects of its frame.
use Rattle.std.proofs.Common.{ℕ, ◌==◌, List, [], ◌∷◌, Option, Some, None, subst}
use Rattle.uc_tree.specs.Source.{Source}
use Rattle.uc_entry.specs.declared.entry.Entry.{Entry}
use Rattle.uc_entry.specs.declared.entry.Options.{Options}
use Rattle.uc_entry.specs.declared.request.Asked.{Asked}
use Rattle.uc_entry.specs.Keyed.{find}
use Rattle.uc_acts.specs.Journal.{Journal, held, own_object}
use Rattle.uc_acts.specs.Known.{spawns, takes_out}
use Rattle.uc_machine.specs.Quiet.{State, Members, no_members}
use Rattle.uc_machine.specs.Answering.{child_main}
use Rattle.uc_machine.specs.Rides as rides
use Rattle.uc_machine.specs.Rides.{Rides}
use Rattle.uc_meaning.specs.Runs.{World, AsksIn, May, Runs, gives, no_room, acts, begun, more, bare, with_home, hand_of, drawn, or_else}
use Rattle.uc_resolve.specs.Resolve.{source_of}
use Rattle.uc_site_laws.proofs.Kept.{either}
use Rattle.uc_state_laws.proofs.ScopeKeeping.{found_hand}
use Rattle.uc_state_laws.specs.Rooms.{SourceIn}
use Rattle.uc_state_laws.specs.RoomStacks.{StackHand, StackMembers, StackState, StackStep}
use Rattle.uc_state_laws.specs.Layout.{Sized}
use Rattle.uc_state_laws.specs.RoomRuns as runs
use Rattle.uc_state_laws.specs.RoomRuns.{Leads, Comes}
use Rattle.uc_state_laws.specs.ScopeFrameRuns.{LawFrames, LawFrameRuns}
use Rattle.uc_state_laws.proofs.StackWalk.{walk, first, answered_rests, rooms, cleared, beneath}
use Rattle.uc_state_laws.proofs.Unreferring.{law_accepted}

-- tasks at rest, and what is at home in objects
pub record StackWorld (Z : ℕ → ℕ → Type 0) (w : World) : Type 0 where
  pub tasks : (t : ℕ) → StackState Z (w.tasks t)
  pub homes : (o : ℕ) → StackMembers Z (w.homes o)

module _ (Z : ℕ → ℕ → Type 0) where
  home_rests : (o : ℕ) (x : Option Members) (hand : List (ℕ × Members)) → StackMembers Z x → StackHand Z hand → StackHand Z (with_home o x hand)
  home_rests o None hand h k = k
  home_rests o (Some m) hand h k = (h, k)

  hand_rests : (os : List ℕ) (homes : ℕ → Option Members) → ((o : ℕ) → StackMembers Z (homes o)) → StackHand Z (hand_of os homes)
  hand_rests [] homes h = tt
  hand_rests (o ∷ os) homes h = home_rests o (homes o) (hand_of os homes) (h o) (hand_rests os homes h)

  or_rests : (x y : Option Members) → StackMembers Z x → StackMembers Z y → StackMembers Z (or_else x y)
  or_rests None y h k = k
  or_rests (Some m) y h k = h

  pub drawn_rests : (j : Journal) (w : World) (t : ℕ) → StackWorld Z w → StackState Z (drawn j w t)
  drawn_rests j w t n =
      let x = n.tasks t in
      record { frames = x.frames; stack = x.stack; env = record { house = x.env.house; hand = hand_rests (held t j) w.homes n.homes } }

  bare_rests : (s : State) → StackState Z s → StackState Z (bare s)
  bare_rests s h = record { frames = h.frames; stack = h.stack; env = record { house = h.env.house; hand = tt } }

module _ (Z : ℕ → ℕ → Type 0) (source : Source) (known : SourceIn Z source) where
  led : {s u : State} → Leads source s u → StackState Z s → StackState Z u
  led runs.stays h = h
  led (runs.goes {s} e l) h = led l (subst (StackStep Z) e (walk Z source known s h))
  led (runs.ticks {s} e l) h = led l (subst (StackStep Z) e (walk Z source known s h))

  pub ridden : {s u : State} {q k : ℕ} {a : Asked} → Rides source s q u k a → StackState Z s → StackState Z u
  ridden rides.slices h = h
  ridden (rides.goes_on {s} {t} e r) h = ridden r (subst (StackStep Z) e (walk Z source known s h))
  ridden (rides.ticks {s} {t} e r) h = ridden r (subst (StackStep Z) e (walk Z source known s h))
  ridden (rides.asks {s} {t} e) h = subst (StackStep Z) e (walk Z source known s h)

  module _ (input : List ℕ) (opts : Options) where
    asks_rests : {j : Journal} {w : World} → StackWorld Z w → (p t n : ℕ) (s : State) (asked : Asked) → AsksIn source opts j w p t n s asked → StackState Z s
    asks_rests {j} {w} x p t n s asked d =
        ridden d.rides (answered_rests Z source d.given (drawn j w t) (drawn_rests Z j w t x))

    may_rests : {j : Journal} {w : World} {a : List Entry} {x : World} → StackWorld Z w → May source opts input j w a x → StackWorld Z x
    may_rests n (gives p t s le) = n
    may_rests n (no_room p t s le) = n
    may_rests {j} {w} {a} n (acts p t k s asked d) =
        let asks = asks_rests n p t k s asked d in
        record {
          tasks = λ u. either (StackState Z) (u == t) _ _ (bare_rests Z s asks) (either (StackState Z) (spawns a u) _ _ (first Z source known (child_main source s.run.control) (own_object u a)) (n.tasks u));
          homes = λ o. either (StackMembers Z) (takes_out a o) None (or_else (find o s.env.hand) (w.homes o)) tt (or_rests Z (find o s.env.hand) (w.homes o) (found_hand Z o s.env.hand asks.env.hand) (n.homes o));
        }

    pub world_rests : {j : Journal} {w : World} → Runs source input opts j w → StackWorld Z w
    world_rests begun = record {
      tasks = λ t. first Z source known source.main 0;
      homes = λ o. either (StackMembers Z) (o == 0) (Some no_members) None tt tt;
    }
    world_rests (more r o m) = may_rests (world_rests r) m

pub law_frames : LawFrames
law_frames = record {
  begins = λ source p known r o. first (Sized p) source known r o;
  steps = λ source p known s h. walk (Sized p) source known s h;
  told = λ source p given s h. answered_rests (Sized p) source given s h;
  rooms = λ p s h n a e. rooms (Sized p) s h n a e;
  clears = λ p s h k n todo e. cleared (Sized p) s h k n todo e;
  beneath = λ p s h k n todo e. beneath (Sized p) s h k n todo e;
}

pub law_frame_runs : LawFrameRuns
law_frame_runs p h input opts j w r = record {
  tasks = λ t. there.tasks t;
  homes = λ o. there.homes o;
  comes = λ t s c. state t s c;
  rooms = λ t s c n a e. rooms (Sized p) s (state t s c) n a e;
  clears = λ t s c k n todo e. cleared (Sized p) s (state t s c) k n todo e;
  beneath = λ t s c k n todo e. beneath (Sized p) s (state t s c) k n todo e;
}
  where
    there : StackWorld (Sized p) w
    there = world_rests (Sized p) (source_of p) (law_accepted p h) input opts r

    state : (t : ℕ) (s : State) → Comes (source_of p) j w t s → StackState (Sized p) s
    state t s c =
        led (Sized p) (source_of p) (law_accepted p h) c.leads (answered_rests (Sized p) (source_of p) c.given (drawn j w t) (drawn_rests (Sized p) j w t there))
