-- A task inside mutex objects, for the source and for code alike: how deep it is in each, what holds it up there, and the events that
-- are enabled and pending at its executions.
use Rattle.std.specs.Prelude.{ℕ, suc, ◌+◌, ◌-◌, ℤ, pos, negsuc, List, [], ◌∷◌, ◌++◌, Option, Some, None, Bool, true, false, ◌||◌, nat_lt, bit_and, bit_or, if◌then◌else◌}
use Rattle.std.specs.List.{find as first_where, list_any}
use Rattle.uc_tree.specs.Source.{ALL_EVENTS}
use Rattle.uc_machine.specs.declared.exec.Exec.{Exec}
use Rattle.uc_machine.specs.declared.exec.Home.TheVariants.{Task, Object}
use Rattle.uc_machine.specs.declared.exec.Pending.{Pending}
use Rattle.uc_entry.specs.Keyed.{drop_first}
use Rattle.uc_tree.specs.SiteOffers.{has_bit}
use Rattle.uc_machine.specs.Executions.{Links, Execution, Members, Env, State, update, home_eq, exec_eq, parked_at, one_call_less}
use Rattle.uc_entry.specs.Keyed.{find}
use Rattle.uc_machine.specs.Switches.{without, with_links}

-- depths

-- one deeper in an object
abbrev pub deeper : Option ℕ → ℕ → List (ℕ × ℕ) → List (ℕ × ℕ)
deeper None o ds = (o, 1) ∷ ds
deeper (Some d) o ds = update o (d + 1) ds

-- one less deep in it: at the last call it is left
abbrev pub shallower : Option ℕ → ℕ → List (ℕ × ℕ) → List (ℕ × ℕ)
shallower (Some (suc (suc d))) o ds = update o (suc d) ds
shallower _ o ds = without o ds

-- whether the call that ends is the last one
abbrev pub is_last : Option ℕ → Bool
is_last (Some (suc (suc d))) = false
is_last _ = true

-- of the pending events of an execution the oldest one that is enabled
abbrev pub oldest_enabled : Links → Option Pending
oldest_enabled l = first_where (λ p. has_bit p.event l.enabled) l.pending

module _ {C V : Type 0} where
  -- a mutex call of an object begins, and ends; an object is entered by it and left by it, unless the task is inside otherwise
  abbrev pub call_begun : ℕ → Env C V → Env C V
  call_begun o e = record e { depths = deeper (find o e.depths) o e.depths; links = record e.links { mutex_calls = e.links.mutex_calls + 1 } }

  abbrev pub call_ended : ℕ → Env C V → Env C V
  call_ended o e = record e { depths = shallower (find o e.depths) o e.depths; links = record e.links { mutex_calls = e.links.mutex_calls - 1 } }

  -- the mutex call in which an object is destroyed ends, however deep the task is
  abbrev pub call_gone : ℕ → Env C V → Env C V
  call_gone o e = record e { depths = without o e.depths; links = record e.links { mutex_calls = e.links.mutex_calls - 1 } }

  -- the building of a mutex object begins, and ends
  abbrev pub build_begun : Env C V → Env C V
  build_begun e = record e { links = record e.links { builds = e.links.builds + 1 } }

  abbrev pub build_ended : ℕ → Env C V → Env C V
  build_ended o e = record e { depths = without o e.depths; links = record e.links { builds = e.links.builds - 1 } }

  -- an activation that has left its object is no active call any more
  abbrev pub counted_no_more : State C V → State C V
  counted_no_more s = record s { run = record s.run { counts = false }; env = record s.env { links = one_call_less s.run.counts s.env.links } }

  -- what holds a task up in an object: the running execution is at home there, or one that is has a mutex call that has not ended, or
  -- builds a mutex object

  abbrev pub is_engaged : Option (Execution C V) → Bool
  is_engaged None = false
  is_engaged (Some x) = nat_lt 0 (x.links.mutex_calls + x.links.builds)

  abbrev pub has_engaged : Option (Members C V) → Bool
  has_engaged None = false
  has_engaged (Some m) = list_any (λ p. is_engaged p.1) m.parked

  abbrev pub is_held_up : ℕ → Env C V → Bool
  is_held_up o e = home_eq e.exec.home (Object o) || has_engaged (find o e.hand)

  -- events

  -- whether the running execution is the task's own, and not that of a coroutine
  abbrev pub is_own : Env C V → Bool
  is_own e = exec_eq e.exec (record { home = Task e.own; serial = 0 })

  abbrev pub pending_in : Option (Execution C V) → List Pending
  pending_in None = []
  pending_in (Some x) = x.links.pending

  -- the events that are pending at the execution of a coroutine
  abbrev pub pending_at : Exec → Env C V → List Pending
  pending_at n e = if exec_eq n e.exec then e.links.pending else pending_in (parked_at n e)

  -- one more is
  abbrev pub raised_at : Exec → Pending → Env C V → Env C V
  raised_at n p e = with_links (λ l. record l { pending = l.pending ++ p ∷ [] }) n e

  -- without the oldest event that is enabled at the running execution
  abbrev pub without_oldest : Env C V → Env C V
  without_oldest e = record e { links = record e.links { pending = drop_first (λ p. has_bit p.event e.links.enabled) e.links.pending } }

  -- only these events are enabled
  abbrev pub with_enabled : ℕ → Env C V → Env C V
  with_enabled events e = record e { links = record e.links { enabled = events } }

-- events with some more, and without some
abbrev pub enabled_more : ℕ → ℕ → ℕ
enabled_more old events = bit_or old events

abbrev pub enabled_less : ℕ → ℕ → ℕ
enabled_less old events = bit_and old (ALL_EVENTS - events)

-- the events that a cell keeps as a number with a sign
abbrev pub events_in : ℤ → ℕ
events_in (pos n) = n
events_in (negsuc n) = ALL_EVENTS - n
