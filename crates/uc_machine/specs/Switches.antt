-- Switches between executions, for the source and for code alike: who runs next, or which fault it is that none does. None looks at what
-- an execution has to do: one that stops stands before a piece, or an op, at which it lands again.
use Rattle.std.specs.Prelude.{ℕ, ◌+◌, ◌-◌, ◌^◌, min, pos, List, [], ◌∷◌, ◌++◌, Option, Some, None, Bool, true, false, is_some, nat_eq, if◌then◌else◌}
use Rattle.uc_tree.specs.declared.limits.TheConstants.{UNHANDLED}
use Rattle.uc_machine.specs.declared.exec.Exec.{Exec}
use Rattle.uc_machine.specs.declared.exec.Home.{Home}
use Rattle.uc_machine.specs.declared.exec.Home.TheVariants.{Object}
use Rattle.uc_machine.specs.declared.exec.Owner.{Owner}
use Rattle.uc_machine.specs.declared.exec.Owner.TheVariants.{Frame, Fields}
use Rattle.uc_machine.specs.declared.exec.Stage.{Stage}
use Rattle.uc_machine.specs.declared.exec.Stage.TheVariants.{Fresh, Started, Ended}
use Rattle.uc_machine.specs.declared.exec.UnwindReason.{UnwindReason}
use Rattle.uc_machine.specs.declared.exec.UnwindReason.TheVariants as reason
use Rattle.uc_entry.specs.declared.fault.RunFault.{RunFault}
use Rattle.uc_entry.specs.declared.fault.RunFault.TheVariants.{ResumeEnded, ResumeInUse, SuspendWithoutResumer, SwitchInUnwind}
use Rattle.uc_machine.specs.Executions.{Links, Execution, Members, Env, State, no_links, update, joined, exec_eq, members_at, parked_at, change}
use Rattle.uc_entry.specs.Keyed.{find}

-- another state, or a fault
pub data Moved (C V : Type 0) : Type 0 where
  To : State C V → Moved C V
  Stops : RunFault → Moved C V

abbrev pub or_else : {X : Type 0} → Option X → Option X → Option X
or_else None y = y
or_else (Some x) y = Some x

-- births

-- an execution is at home where that is whose frame holds its coroutine, or in the object whose field that is
abbrev pub home_in : Owner → Home
home_in (Frame n d) = n.home
home_in (Fields o) = Object o

-- the links of one whose main has not begun
abbrev pub fresh_links : Links
fresh_links = record no_links { stage = Fresh }

-- it is resumed by another
abbrev pub woken : Exec → Links → Links
woken by l = record l { starter = or_else l.starter (Some by); resumer = Some by; stage = Started }

-- what stands first under a number is taken out
abbrev pub without : {X : Type 0} → ℕ → List (ℕ × X) → List (ℕ × X)
without k [] = []
without k (p ∷ ps) = if nat_eq p.0 k then ps else p ∷ without k ps

module _ {C V : Type 0} where
  abbrev pub serial_in : Option (Members C V) → ℕ
  serial_in None = 0
  serial_in (Some m) = m.serial

  -- the name of the next execution at a home
  abbrev pub new_exec : Home → Env C V → Exec
  new_exec h e = record { home = h; serial = serial_in (members_at h e) }

  abbrev pub one_more : Execution C V → Members C V → Members C V
  one_more x m = record m { serial = m.serial + 1; parked = m.parked ++ (m.serial, Some x) ∷ [] }

  -- it is made there
  abbrev pub born : Home → Execution C V → Env C V → Env C V
  born h x e = change h (one_more x) e

  abbrev pub slot_gone : ℕ → Members C V → Members C V
  slot_gone k m = record m { parked = without k m.parked }

  -- it is no more
  abbrev pub gone : Exec → Env C V → Env C V
  gone n e = change n.home (slot_gone n.serial) e

  abbrev pub forgotten : Option Exec → Env C V → Env C V
  forgotten None e = e
  forgotten (Some n) e = gone n e

-- whether a coroutine is live

module _ {C V : Type 0} where
  abbrev pub slot_set : ℕ → Option (Execution C V) → Members C V → Members C V
  slot_set k o m = record m { parked = update k o m.parked }

  abbrev pub live_in : Option (Execution C V) → Bool
  live_in None = false
  live_in (Some x) = x.links.live

  abbrev pub live_at : Exec → Env C V → Bool
  live_at n e = if exec_eq n e.exec then e.links.live else live_in (parked_at n e)

  abbrev pub is_live : Option Exec → Env C V → Bool
  is_live None e = false
  is_live (Some n) e = live_at n e

  abbrev pub links_by : (Links → Links) → ℕ → Option (Execution C V) → Members C V → Members C V
  links_by g k None m = m
  links_by g k (Some x) m = slot_set k (Some (record x { links = g x.links })) m

  abbrev pub links_changed : (Links → Links) → ℕ → Members C V → Members C V
  links_changed g k m = links_by g k (joined (find k m.parked)) m

  -- a change to the links of an execution in hand
  abbrev pub with_links : (Links → Links) → Exec → Env C V → Env C V
  with_links g n e = if exec_eq n e.exec then record e { links = g e.links } else change n.home (links_changed g n.serial) e

  abbrev pub enlivened : Option Exec → Env C V → Env C V
  enlivened None e = e
  enlivened (Some n) e = with_links (λ l. record l { live = true }) n e

-- switches

module _ {C V : Type 0} where
  abbrev pub set_slot : Exec → Option (Execution C V) → Env C V → Env C V
  set_slot n o e = change n.home (slot_set n.serial o) e

  -- the running execution as one that does not run
  abbrev pub stopped : State C V → Execution C V
  stopped s = record { run = s.run; callers = s.callers; frames = s.env.frames; links = s.env.links }

  -- an execution runs
  abbrev pub spread : Exec → Execution C V → Env C V → State C V
  spread n x e = record { run = x.run; callers = x.callers; env = record e { exec = n; frames = x.frames; links = x.links } }

  -- the running execution stops, and another goes on
  abbrev pub switched : Exec → Execution C V → State C V → State C V
  switched n x s = spread n x (set_slot s.env.exec (Some (stopped s)) (set_slot n None s.env))

  -- who may be activated: one that has begun and not ended, and is there and in hand
  abbrev pub able_at : Stage → Exec → Execution C V → Option (Exec × Execution C V)
  able_at Fresh n x = None
  able_at Started n x = Some (n, x)
  able_at Ended n x = None

  abbrev pub able_by : Exec → Option (Execution C V) → Option (Exec × Execution C V)
  able_by n None = None
  able_by n (Some x) = able_at x.links.stage n x

  abbrev pub able : Option Exec → Env C V → Option (Exec × Execution C V)
  able None e = None
  able (Some n) e = able_by n (parked_at n e)

  abbrev pub go_on : Option (Exec × Execution C V) → State C V → Moved C V
  go_on None s = Stops SuspendWithoutResumer
  go_on (Some p) s = To (switched p.0 p.1 s)

  -- while a coroutine is unwound since it is destroyed, that runs, and no other execution is activated but for the same reason
  abbrev pub in_destruction : Env C V → Bool
  in_destruction e = is_some e.links.destroyer

  -- a coroutine is resumed: its execution has not ended, and is not the one that runs
  abbrev pub wake_at : Stage → Exec → Execution C V → State C V → Moved C V
  wake_at Fresh n x s = To (switched n (record x { links = woken s.env.exec x.links }) s)
  wake_at Started n x s = To (switched n (record x { links = woken s.env.exec x.links }) s)
  wake_at Ended n x s = Stops ResumeEnded

  -- one that is not there has ended; the one that runs has not
  abbrev pub wake_by : Exec → Option (Execution C V) → State C V → Moved C V
  wake_by n None s = Stops ResumeEnded
  wake_by n (Some x) s = wake_at x.links.stage n x s

  abbrev pub wake_one : Option Exec → State C V → Moved C V
  wake_one None s = Stops ResumeEnded
  wake_one (Some n) s = if exec_eq n s.env.exec then Stops ResumeInUse else wake_by n (parked_at n s.env) s

  abbrev pub wake : Option Exec → State C V → Moved C V
  wake o s = if in_destruction s.env then Stops SwitchInUnwind else wake_one o s

  -- the running execution is suspended: its last resumer goes on
  abbrev pub suspend : State C V → Moved C V
  suspend s = if in_destruction s.env then Stops SwitchInUnwind else go_on (able s.env.links.resumer s.env) s

  -- the running execution has ended
  abbrev pub ended : State C V → State C V
  ended s = record s { env = record s.env { links = record s.env.links { stage = Ended; destroyer = None } } }

  -- the end of a coroutine's main: its starter goes on, if that may be activated, or else its last resumer
  abbrev pub finish : State C V → Moved C V
  finish s = go_on (or_else (able s.env.links.starter s.env) (able s.env.links.resumer s.env)) (ended s)

  -- an execution that does not run is to be unwound from where it stands
  abbrev pub unwound_there : UnwindReason → Execution C V → Execution C V
  unwound_there why x = record x { run = record x.run { raised = Some why } }

  abbrev pub throw_at : Option (Exec × Execution C V) → State C V → Moved C V
  throw_at None s = Stops SuspendWithoutResumer
  throw_at (Some p) s = To (switched p.0 (unwound_there (reason.Event UNHANDLED (pos 0) (pos 0)) p.1) s)

  -- an event has left a coroutine's main: it is thrown as another one where the last resumer stands
  abbrev pub escape : State C V → Moved C V
  escape s = throw_at (able s.env.links.resumer s.env) (ended s)

  -- a coroutine that is destroyed has been unwound: who destroys it goes on
  abbrev pub taken_down : State C V → Moved C V
  taken_down s = go_on (able s.env.links.destroyer s.env) (ended s)

  -- its main does not begin, or go on, any more
  abbrev pub over : Exec → State C V → State C V
  over n s = record s { env = with_links (λ l. record l { live = false; stage = Ended }) n s.env }

  -- the destruction of a coroutine begins: it is live no more, and unwound if its main has begun and not ended
  abbrev pub take_down_at : Stage → Exec → Execution C V → State C V → Moved C V
  take_down_at Fresh n x s = To (over n s)
  take_down_at Started n x s =
      To (switched n (unwound_there reason.Destroyed (record x { links = record x.links { live = false; destroyer = Some s.env.exec } })) s)
  take_down_at Ended n x s = To (over n s)

  abbrev pub take_down_by : Exec → Option (Execution C V) → State C V → Moved C V
  take_down_by n None s = To s
  take_down_by n (Some x) s = take_down_at x.links.stage n x s

  abbrev pub take_down : Option Exec → State C V → Moved C V
  take_down None s = To s
  take_down (Some n) s = take_down_by n (parked_at n s.env) s
