-- In every run of a source of which all names are known, all that its tasks have to do names what is known.
use Rattle.std.proofs.Common.{ℕ, ◌==◌, List, [], ◌∷◌, Option, Some, None}
use Rattle.uc_tree.specs.Programs.{Site}
use Rattle.uc_tree.specs.Source.{Source}
use Rattle.uc_entry.specs.declared.entry.Entry.{Entry}
use Rattle.uc_entry.specs.declared.entry.Options.{Options}
use Rattle.uc_entry.specs.declared.request.Asked.{Asked}
use Rattle.uc_entry.specs.Keyed.{find}
use Rattle.uc_acts.specs.Journal.{Journal, held, own_object}
use Rattle.uc_acts.specs.Known.{spawns, takes_out}
use Rattle.uc_machine.specs.Quiet.{State, Members, no_members}
use Rattle.uc_machine.specs.Answering.{child_main}
use Rattle.uc_meaning.specs.Runs.{World, AsksIn, May, Runs, gives, no_room, acts, begun, more, bare, with_home, hand_of, drawn, or_else}
use Rattle.uc_step_laws.proofs.Kept.{either}
use Rattle.uc_site_laws.specs.Named.{NamedSource}
use Rattle.uc_site_laws.specs.Naming.{NamedActive, NamedMembers, NamedState, NamedAsk}
use Rattle.uc_site_laws.specs.Resting.{RestsHand}
use Rattle.uc_site_laws.proofs.Steps.{calm}
use Rattle.uc_state_laws.specs.Laws.{LawNames}
use Rattle.uc_site_laws.proofs.Kept.{found_hand}
use Rattle.uc_site_laws.proofs.Walk.{first_named, answered_named, rides_named}

-- tasks at rest, and what is at home in objects
record NamedWorld (sites : List Site) (w : World) : Type 0 where
  tasks : (t : ℕ) → NamedState sites (w.tasks t)
  homes : (o : ℕ) → NamedMembers sites (w.homes o)

module _ (sites : List Site) where
  home_named : (o : ℕ) (x : Option Members) (hand : List (ℕ × Members)) → NamedMembers sites x → RestsHand (NamedActive sites) (NamedActive sites) hand → RestsHand (NamedActive sites) (NamedActive sites) (with_home o x hand)
  home_named o None hand h k = k
  home_named o (Some m) hand h k = (h, k)

  hand_named : (os : List ℕ) (homes : ℕ → Option Members) → ((o : ℕ) → NamedMembers sites (homes o)) → RestsHand (NamedActive sites) (NamedActive sites) (hand_of os homes)
  hand_named [] homes h = tt
  hand_named (o ∷ os) homes h = home_named o (homes o) (hand_of os homes) (h o) (hand_named os homes h)

  or_named : (x y : Option Members) → NamedMembers sites x → NamedMembers sites y → NamedMembers sites (or_else x y)
  or_named None y h k = k
  or_named (Some m) y h k = h

  drawn_named : (j : Journal) (w : World) (t : ℕ) → NamedWorld sites w → NamedState sites (drawn j w t)
  drawn_named j w t n =
      let x = n.tasks t in
      record { run = x.run; callers = x.callers; env = record { house = x.env.house; hand = hand_named (held t j) w.homes n.homes } }

  bare_named : (s : State) → NamedState sites s → NamedState sites (bare s)
  bare_named s h = record { run = h.run; callers = h.callers; env = record { house = h.env.house; hand = tt } }

module _ (sites : List Site) (source : Source) (known : NamedSource sites source) (input : List ℕ) (opts : Options) where
  asks_named : {j : Journal} {w : World} → NamedWorld sites w → (p t n : ℕ) (s : State) (asked : Asked) → AsksIn source opts j w p t n s asked → NamedAsk sites asked.request s
  asks_named {j} {w} x p t n s asked d =
      rides_named sites source known d.rides (answered_named sites source d.given (drawn j w t) (drawn_named sites j w t x))

  may_named : {j : Journal} {w : World} {a : List Entry} {x : World} → NamedWorld sites w → May source opts input j w a x → NamedWorld sites x
  may_named n (gives p t s le) = n
  may_named n (no_room p t s le) = n
  may_named {j} {w} {a} n (acts p t k s asked d) =
      let asks = asks_named n p t k s asked d in
      record {
        tasks = λ u. either (NamedState sites) (u == t) _ _ (bare_named sites s asks.state) (either (NamedState sites) (spawns a u) _ _ (first_named sites source known (child_main source s.run.control) (own_object u a)) (n.tasks u));
        homes = λ o. either (NamedMembers sites) (takes_out a o) None (or_else (find o s.env.hand) (w.homes o)) tt (or_named sites (find o s.env.hand) (w.homes o) (found_hand (NamedActive sites) (NamedActive sites) (calm sites) o s.env.hand asks.state.env.hand) (n.homes o));
      }

  world_named : {j : Journal} {w : World} → Runs source input opts j w → NamedWorld sites w
  world_named begun = record {
    tasks = λ t. first_named sites source known source.main 0;
    homes = λ o. either (NamedMembers sites) (o == 0) (Some no_members) None tt tt;
  }
  world_named (more r o m) = may_named (world_named r) m

pub law_names : LawNames
law_names sites source known input opts j w r q t n s asked d =
    (asks_named sites source known input opts (world_named sites source known input opts r) q t n s asked d).names
