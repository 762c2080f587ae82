-- All parts once a task waits on a condition, or signals and stands aside.
use Rattle.std.proofs.Common.{◌≡◌, ℕ, ℤ, pos, ◌==◌, ◌<◌, ◌&&◌, Bool, true, false, List, [], ◌∷◌, ◌++◌, Option, None, map, refl, ap, ◌∙◌, length, set, get_or}
use Rattle.uc_tree.specs.Programs.{Site}
use Rattle.uc_entry.specs.declared.entry.EntryKind.TheVariants as kind
use Rattle.uc_entry.specs.declared.entry.Options.{Options}
use Rattle.uc_acts.specs.Journal.{Journal, inside, asking, Cost}
use Rattle.uc_acts.specs.Queues.{running}
use Rattle.uc_acts.specs.Doors.{open_at, offered}
use Rattle.uc_acts.specs.Known.{object_count}
use Rattle.uc_acts.specs.Acts.{accept_entry}
use Rattle.uc_acts.specs.Sound.{Sound}
use Rattle.uc_acts.specs.Legal.{Legal}
use Rattle.uc_acts.proofs.SoundLemmas.{self_test, nothing_open}
use Rattle.uc_mutex.specs.Doors.{Door, Doors, door_at, with_door, inside_is, on_top, unmarked}
use Rattle.uc_mutex.specs.Offers.{clauses_of}
use Rattle.uc_kernel_core.specs.DoorLaws.{IsDoor, goes_on_top}
use Rattle.uc_kernel_core.proofs.DoorLemmas.{out, signal_block}
use Rattle.uc_condition.specs.Waiting.{Waiting, Became, queue_at}
use Rattle.uc_condition.proofs.Mirrors.{wait}
use Rattle.uc_events.specs.Pending.{Event}
use Rattle.uc_cluster.specs.Standing.{Standing}
use Rattle.uc_kernel_core.specs.Mirrors.{Mirrors}
use Rattle.uc_kernel_core.proofs.Doors.{same_objects, same_tasks, waits_silent}
use Rattle.uc_kernel_core.proofs.Letting.{door_set}
use Rattle.uc_kernel_core.proofs.Nexts.{door_parts}
use Rattle.uc_kernel_core.proofs.Steps.{Calm, freed}
use Rattle.uc_kernel_core.proofs.Goings.{Goes, m_goes, m_unmoved}
use Rattle.uc_kernel_core.proofs.Fronts.{none_of, set_twice}

and_true : (b : Bool) → (b && true) ≡ b
and_true true = refl
and_true false = refl

pub and_false : (b : Bool) → (b && false) ≡ false
and_false true = refl
and_false false = refl

goes_wait : (p t : ℕ) (k : Cost) (o c : ℕ) (n : ℤ) → Goes kind.Wait (asking kind.Wait p t k o (pos c) n)
goes_wait p t k o c n = record {
  make = refl;
  spawn = refl;
  event = refl;
  readies = λ u. refl;
  dispatches = λ u. refl;
  takes_off = self_test t;
  puts_on = λ u. refl;
  clusters = λ on u. refl;
  cluster = refl;
  mover = λ u. refl;
  queued = λ x e v. ap (λ y. y.object == v) e;
  desk = refl;
  stand = refl;
  owned = refl;
  owns = λ u. refl;
  last = λ on u. refl;
}

goes_signaller : (p t : ℕ) (k : Cost) (o c : ℕ) → Goes kind.SignalBlock (asking kind.SignalBlock p t k o (pos c) (pos 1))
goes_signaller p t k o c = record {
  make = refl;
  spawn = refl;
  event = refl;
  readies = λ u. refl;
  dispatches = λ u. refl;
  takes_off = and_true (t == t) ∙ self_test t;
  puts_on = λ u. refl;
  clusters = λ on u. refl;
  cluster = refl;
  mover = λ u. and_true (u == t);
  queued = λ x e v. ap (λ y. y.object == v) e;
  desk = refl;
  stand = refl;
  owned = refl;
  owns = λ u. refl;
  last = λ on u. refl;
}

-- an accept that stays open
pub goes_acceptor : (p t : ℕ) (k : Cost) (o site mask : ℕ) (b : Bool) → Goes kind.Accept (accept_entry p t k o site mask b 0)
goes_acceptor p t k o site mask b = record {
  make = refl;
  spawn = refl;
  event = refl;
  readies = λ u. refl;
  dispatches = λ u. refl;
  takes_off = and_true (t == t) ∙ self_test t;
  puts_on = λ u. refl;
  clusters = λ on u. refl;
  cluster = refl;
  mover = λ u. and_true (u == t);
  queued = λ x e v. ap (λ y. y.object == v) e;
  desk = refl;
  stand = refl;
  owned = refl;
  owns = λ u. refl;
  last = λ on u. refl;
}

-- one that takes a caller
pub goes_taker : (p t : ℕ) (k : Cost) (o site mask : ℕ) (b : Bool) → Goes kind.Accept (accept_entry p t k o site mask b 1)
goes_taker p t k o site mask b = record {
  make = refl;
  spawn = refl;
  event = refl;
  readies = λ u. refl;
  dispatches = λ u. refl;
  takes_off = and_true (t == t) ∙ self_test t;
  puts_on = λ u. refl;
  clusters = λ on u. refl;
  cluster = refl;
  mover = λ u. and_true (u == t);
  queued = λ x e v. ap (λ y. y.object == v) e;
  desk = refl;
  stand = refl;
  owned = refl;
  owns = λ u. refl;
  last = λ on u. refl;
}

-- a signalBlock that finds nobody
calm_signal : (p t : ℕ) (k : Cost) (o c : ℕ) → Calm kind.SignalBlock (asking kind.SignalBlock p t k o (pos c) (pos 0))
calm_signal p t k o c = record {
  make = refl;
  spawn = refl;
  wait = refl;
  readies = λ u. refl;
  dispatches = λ u. refl;
  takes_off = λ u. and_false (u == t);
  puts_on = λ u. refl;
  clusters = λ on u. refl;
  cluster = refl;
  mover = λ u. and_false (u == t);
  desk = refl;
  stand = refl;
  owned = refl;
  owns = λ u. refl;
  last = λ on u. refl;
}

pub shut_of : (j : Journal) (o t : ℕ) → Sound j → inside o j ≡ t ∷ [] → open_at o j ≡ []
shut_of j o t s i = nothing_open (inside o j) (open_at o j) _ t (s.doors o) i

pub none_open : (sites : List Site) (o : ℕ) (j : Journal) (d : Door) → IsDoor sites o j d → open_at o j ≡ [] → d.opened ≡ None
none_open sites o j d at shut =
    none_of d.opened (at.opened ∙ ap (map (λ a. clauses_of (offered sites a))) shut)

module _ (opts : Options) (sites : List Site) (j : Journal) (doors : Doors) (waits : Waiting) (events : List (List Event)) (standing : Standing) (marks ins : List Bool) (owners : List (Option ℕ)) (own : List ℕ) (h : Mirrors opts sites j doors waits events standing marks ins owners own) where
  -- a task waits
  pub m_wait : (p t : ℕ) (k : Cost) (o c : ℕ) (n : ℤ) → Legal (asking kind.Wait p t k o (pos c) n) j → running p j ≡ t ∷ [] → inside o j ≡ t ∷ [] → o < object_count j → (w : Waiting) → Became waits w o c (queue_at waits o c ++ (t, n) ∷ []) → (b x : Bool) → b ≡ get_or ins o x → Mirrors opts sites (j ++ asking kind.Wait p t k o (pos c) n ∷ []) (with_door doors o (inside_is None (door_at doors o))) w events (freed standing p) (set marks t b) ins owners own
  m_wait p t k o c n l runs within known w became b x was =
      let e = asking kind.Wait p t k o (pos c) n in
      let lt : o < length doors.doors = rw h.doors_are.made known in
      m_goes opts sites j doors waits events standing marks ins owners own h e l (goes_wait p t k o c n) runs within known (inside_is None (door_at doors o)) refl (out sites j (door_at doors o) e refl within (h.doors_are.each o lt)) w (record {
        blocked = wait waits w j p t k o c n h.waits_are.blocked became;
        pool = rw (same_tasks j e refl, became.tasks) h.waits_are.pool;
        known = rw (same_objects j e refl, became.objects) h.waits_are.known;
      }) b x was

  -- a signaller goes on the stack
  pub m_signaller : (p t : ℕ) (k : Cost) (o c : ℕ) → Legal (asking kind.SignalBlock p t k o (pos c) (pos 1)) j → running p j ≡ t ∷ [] → inside o j ≡ t ∷ [] → o < object_count j → (b x : Bool) → b ≡ get_or ins o x → Mirrors opts sites (j ++ asking kind.SignalBlock p t k o (pos c) (pos 1) ∷ []) (with_door doors o (goes_on_top t None (door_at doors o))) waits events (freed standing p) (set marks t b) ins owners own
  m_signaller p t k o c l runs within known b x was =
      let e = asking kind.SignalBlock p t k o (pos c) (pos 1) in
      let lt : o < length doors.doors = rw h.doors_are.made known in
      let at = h.doors_are.each o lt in
      let none = none_open sites o j (door_at doors o) at (shut_of j o t h.sound within) in
      m_goes opts sites j doors waits events standing marks ins owners own h e l (goes_signaller p t k o c) runs within known (goes_on_top t None (door_at doors o)) refl (signal_block sites o j (door_at doors o) p t k c within none at) waits (waits_silent j waits e h.waits_are refl refl refl) b x was

  pub m_unheard : (p t : ℕ) (k : Cost) (o c : ℕ) → Legal (asking kind.SignalBlock p t k o (pos c) (pos 0)) j → o < object_count j → Mirrors opts sites (j ++ asking kind.SignalBlock p t k o (pos c) (pos 0) ∷ []) doors waits events standing marks ins owners own
  m_unheard p t k o c l known =
      let e = asking kind.SignalBlock p t k o (pos c) (pos 0) in
      m_unmoved opts sites j doors waits events standing marks ins owners own h e l (calm_signal p t k o c) refl refl known

  -- by two steps of the part
  pub stacked_twice : (o t : ℕ) → o < object_count j → inside o j ≡ t ∷ [] → (v w : Doors) → v ≡ with_door doors o (on_top (t, unmarked) (door_at doors o)) → w ≡ with_door v o (inside_is None (door_at v o)) → w ≡ with_door doors o (goes_on_top t None (door_at doors o))
  stacked_twice o t known within v w a b =
      let d = door_at doors o in
      let lt : o < length doors.doors = rw h.doors_are.made known in
      let none = none_open sites o j d (h.doors_are.each o lt) (shut_of j o t h.sound within) in
      let there : door_at v o ≡ on_top (t, unmarked) d = ap (λ (x : Doors). door_at x o) a ∙ door_set doors o (on_top (t, unmarked) d) lt in
      b ∙ ap (λ y. with_door v o (inside_is None y)) there ∙ ap (λ (x : Doors). with_door x o (inside_is None (on_top (t, unmarked) d))) a ∙ set_twice doors o (on_top (t, unmarked) d) (inside_is None (on_top (t, unmarked) d)) ∙ ap (with_door doors o) (door_parts None None d.waiting d.waiting ((t, unmarked) ∷ d.stacked) ((t, unmarked) ∷ d.stacked) d.opened None refl refl refl none)
