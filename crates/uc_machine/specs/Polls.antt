-- Events that are raised at other executions: where they are pending, which are enabled, and how they are delivered.
use Rattle.std.specs.Prelude.{ℕ, pos, List, ◌∷◌, length, drop, Option, Some, None, Bool, true, false, nat_eq, nat_lt, if◌then◌else◌}
use Rattle.uc_tree.specs.declared.limits.TheConstants.{PENDING_EVENTS}
use Rattle.uc_machine.specs.declared.exec.Exec.{Exec}
use Rattle.uc_machine.specs.declared.exec.Pending.{Pending}
use Rattle.uc_entry.specs.declared.request.Request.TheVariants as ask
use Rattle.uc_entry.specs.declared.fault.RunFault.TheVariants.{TooManyPending, NotLive}
use Rattle.uc_entry.specs.Keyed.{signed_64}
use Rattle.uc_machine.specs.Switches.{is_live}
use Rattle.uc_machine.specs.Insides.{is_own, pending_at, raised_at, oldest_enabled, without_oldest, with_enabled}
use Rattle.uc_machine.specs.Raising.{Event}
use Rattle.uc_machine.specs.Pieces.{Value, Todo, State, Step, written, variable_at, at, in_env, goes, turns, fault, asks, exec_at, Number, Object, Nothing, RaiseNow, PollNow, DeliverNow, Ticks}

-- an event is pending at a coroutine
abbrev pub pend_step : Exec → Event → List Todo → List Value → State → Step
pend_step n e todo vs s =
    if nat_lt (length (pending_at n s.env)) PENDING_EVENTS
    then goes todo vs (in_env (raised_at n (record { event = e.number; x = e.x; y = e.y }) s.env) s)
    else fault TooManyPending todo vs s

abbrev pub pend_at : Option Exec → Event → List Todo → List Value → State → Step
pend_at None e todo vs s = fault NotLive todo vs s
pend_at (Some n) e todo vs s = if is_live (Some n) s.env then pend_step n e todo vs s else fault NotLive todo vs s

-- it is raised at a task, by its own object, or at the coroutine at a place
abbrev pub raise_at_step : Value → Event → List Todo → List Value → State → Step
raise_at_step (Object o) e todo vs s = asks (ask.Raise o e.number e.x e.y) todo vs s
raise_at_step v e todo vs s = pend_at (exec_at v s.env) e todo vs s

-- other events are enabled; a cell keeps which were
abbrev pub enable_step : ℕ → ℕ → List Todo → State → Step
enable_step events cell todo s =
    turns todo (in_env (with_enabled events (written (variable_at cell s) (Number (signed_64 s.env.links.enabled)) s.env)) s)

-- a coroutine polls by itself: an event that it is delivered makes a tick
abbrev pub quiet_poll : Option Pending → List Todo → State → Step
quiet_poll None todo s = turns todo s
quiet_poll (Some p) todo s =
    Ticks (at (DeliverNow ∷ todo) (Number p.y ∷ (Number p.x ∷ (Number (pos p.event) ∷ s.run.operands))) (in_env (without_oldest s.env) s))

abbrev pub poll_by : Bool → List Todo → State → Step
poll_by true todo s = asks (ask.Poll s.env.links.enabled) (DeliverNow ∷ todo) s.run.operands s
poll_by false todo s = quiet_poll (oldest_enabled s.env.links) todo s

abbrev pub poll_step : List Todo → State → Step
poll_step todo s = if nat_eq s.env.links.enabled 0 then turns todo s else poll_by (is_own s.env) todo s

-- the number of what was delivered, if it was an event
abbrev pub deliver_step : Value → List Todo → State → Step
deliver_step Nothing todo s = goes todo (drop 3 s.run.operands) s
deliver_step v todo s = turns (RaiseNow ∷ (PollNow ∷ todo)) s
