-- Events: how one is raised, how a handler is found, and how activations are unwound.
use Rattle.std.specs.Prelude.{ℕ, suc, ◌+◌, ◌&&◌, ℤ, pos, negsuc, List, [], ◌∷◌, length, Option, Some, None, Bool, true, false, nat_eq, nat_lt, ◌^◌, if◌then◌else◌, not}
use Rattle.uc_tree.specs.Hidden.{EVENT_FIELDS}
use Rattle.uc_tree.specs.Source.{Literal, Get, ToReturn, CleanUp, Leaves, Frees, Stmts, Handlers, NoHandlers, MoreHandlers, Raised, Plainly, BuiltAt, AgainFrom}
use Rattle.uc_entry.specs.declared.fault.RunFault.TheVariants.{Unhandled, EscapeInUnwind}
use Rattle.uc_entry.specs.Faults.{fault_number}
use Rattle.uc_entry.specs.declared.request.Request.TheVariants as ask
use Rattle.uc_machine.specs.Switches.{escape, taken_down}
use Rattle.uc_machine.specs.Executions.{left_for, handler_entered, unwound, calmed}
use Rattle.uc_machine.specs.declared.exec.UnwindReason.{UnwindReason}
use Rattle.uc_machine.specs.declared.exec.UnwindReason.TheVariants as reason
use Rattle.uc_machine.specs.declared.exec.Visited.{Visited}
use Rattle.uc_machine.specs.Pieces.{Value, Todo, Sort, sort, Active, State, Step, top, below, number, at, goes, fault, moves, return_step, clean_todo, Number, Nothing, Eval, SetNow, DropNow, ClearNow, Rest, Within, Exit, Sweep, Unwind, LeaveNow, GiveUpNow, Finish, FinishCoroutine, Simple, IsLoop, IsWhole, IsClean, IsFill, IsSweep, IsPart, IsGuard, IsFinish, IsFinishCoroutine, Goes, Asks}

-- an event with its fields, which are 0 where it has none
pub record Event : Type 0 where
  pub number : ℕ
  pub x : ℤ
  pub y : ℤ

-- the number of an event is a byte
abbrev pub as_event : ℤ → ℕ
as_event (pos n) = if nat_lt n (2 ^ 8) then n else 0
as_event (negsuc n) = 0

-- the event that the newest operands are
abbrev pub event_in : List Value → Event
event_in vs = record { number = as_event (number (top (below (below vs)))); x = number (top (below vs)); y = number (top vs) }

-- to find the event that is raised: its number, then its fields
abbrev pub raised_todo : Raised → List Todo → List Todo
raised_todo (Plainly n) todo = Eval (Literal (pos n)) ∷ (Eval (Literal (pos 0)) ∷ (Eval (Literal (pos 0)) ∷ todo))
raised_todo (BuiltAt n k e) todo =
    ClearNow k EVENT_FIELDS ∷ (Eval e ∷ (DropNow ∷ (Eval (Literal (pos n)) ∷ (Eval (Get k) ∷ (Eval (Get (k + 1)) ∷ todo)))))
raised_todo (AgainFrom k) todo = Eval (Get k) ∷ (Eval (Get (k + 1)) ∷ (Eval (Get (k + 2)) ∷ todo))

-- handlers

-- a handler: the first of the cells that keep its event, the line of its block, and its body
pub record Handler : Type 0 where
  pub cell : ℕ
  pub line : ℕ
  pub body : Stmts

-- whether it takes this event, where it takes one or every one
abbrev pub takes : Option ℕ → Event → Bool
takes None e = true
takes (Some n) e = nat_eq n e.number

abbrev pub same_kind : Bool → Bool → Bool
same_kind true resumes = resumes
same_kind false resumes = not resumes

-- the first of these handlers that takes an event, of those that take resumptions or of the others
abbrev pub handler_for : Bool → Event → Handlers → Option Handler
handler_for kind e NoHandlers = None
handler_for kind e (MoreHandlers resumes event cell line body rest) =
    if same_kind kind resumes && takes event e then Some (record { cell = cell; line = line; body = body }) else handler_for kind e rest

-- a handler keeps its event, which it finds as its newest operands, and then does its statements
abbrev pub handler_todo : Handler → List Todo → List Todo
handler_todo h todo =
    SetNow (h.cell + 2) ∷ (DropNow ∷ (SetNow (h.cell + 1) ∷ (DropNow ∷ (SetNow h.cell ∷ (DropNow ∷ (Rest h.body ∷ (Within h.line ∷ todo)))))))

abbrev pub operands_of : Event → List Value
operands_of e = Number e.y ∷ (Number e.x ∷ (Number (pos e.number) ∷ []))

-- unwinding: the pieces of an activation are left one by one, then the activation, for the one that waits for it

-- an event is thrown
abbrev pub throw_step : Event → List Todo → State → Step
throw_step e todo s = Goes (record s { run = unwound (Unwind ∷ todo) (reason.Event e.number e.x e.y) s.run.result s.run })

-- it is left to unwind this
abbrev pub unwinds : List Todo → State → Step
unwinds todo s = goes (Unwind ∷ todo) [] s

-- the handler that catches an event runs behind its guarded block
abbrev pub catch_step : Option Handler → Event → List Todo → State → Step
catch_step None e todo s = unwinds todo s
catch_step (Some h) e todo s = Goes (record s { run = record (calmed (handler_todo h todo) s.run) { operands = operands_of e } })

-- a guarded block is left; none stops a return or the destruction of a coroutine
abbrev pub guard_left : Handlers → Option UnwindReason → List Todo → State → Step
guard_left hs (Some (reason.Event n x y)) todo s =
    catch_step (handler_for false (record { number = n; x = x; y = y }) hs) (record { number = n; x = x; y = y }) todo s
guard_left hs _ todo s = unwinds todo s

-- whether a return is one to the activation that has so many below it
abbrev pub arrives : Option UnwindReason → ℕ → Bool
arrives (Some (reason.ReturnTo home)) n = nat_eq home n
arrives _ n = false

-- a block is left as a whole: a return of its activation is over behind it
abbrev pub whole_left : Bool → List Todo → State → Step
whole_left true todo s = Goes (record s { run = calmed todo s.run })
whole_left false todo s = unwinds todo s

-- what cleans up behind a scope that is left by an event: a mutex object that is not built to the end is given up
abbrev pub left_todo : CleanUp → List Todo → List Todo
left_todo (Frees r) todo = GiveUpNow ∷ todo
left_todo c todo = clean_todo c todo

-- a scope is left, and cleaned up behind it; a return of a mutex member is over as it leaves its object
abbrev pub scope_left : CleanUp → Bool → List Todo → State → Step
scope_left Leaves true todo s = Goes (record s { run = record (calmed (LeaveNow ∷ (Exit ToReturn ∷ todo)) s.run) { operands = s.run.result ∷ [] } })
scope_left c arrived todo s = goes (left_todo c (Unwind ∷ todo)) [] s

-- the main of a task is left: by a return, or by an event that nothing handles
abbrev pub main_left : Option UnwindReason → List Todo → State → Step
main_left (Some (reason.ReturnTo home)) todo s = Goes (record s { run = calmed (Finish ∷ todo) s.run })
main_left _ todo s = fault Unhandled todo [] s

-- the main of a coroutine is left: by a return, by the destruction of the coroutine, or by an event
abbrev pub coroutine_left : Option UnwindReason → List Todo → State → Step
coroutine_left (Some (reason.ReturnTo home)) todo s = Goes (record s { run = calmed (FinishCoroutine ∷ todo) s.run })
coroutine_left (Some reason.Destroyed) todo s = moves (taken_down (at todo [] s)) (at todo [] s)
coroutine_left _ todo s = moves (escape (at todo [] s)) (at todo [] s)

-- a piece is left: what stands is cleaned up, of elements those that stand
abbrev pub unwind_past : Sort → List Todo → State → Step
unwind_past Simple todo s = unwinds todo s
unwind_past (IsLoop o t e b) todo s = unwinds todo s
unwind_past IsWhole todo s = whole_left (arrives s.run.raised (length s.callers)) todo s
unwind_past (IsClean c) todo s = scope_left c (arrives s.run.raised (length s.callers)) todo s
unwind_past (IsFill n b d) todo s = goes (Sweep d ∷ (Unwind ∷ todo)) [] s
unwind_past (IsSweep e) todo s = goes (Sweep e ∷ (Unwind ∷ todo)) [] s
unwind_past (IsPart c) todo s = goes (clean_todo c (Unwind ∷ todo)) [] s
unwind_past (IsGuard hs) todo s = guard_left hs s.run.raised todo s
unwind_past IsFinish todo s = main_left s.run.raised todo s
unwind_past IsFinishCoroutine todo s = coroutine_left s.run.raised todo s

-- whether what is unwound for the first reason has escaped from a clean-up, where the second says why the one that waits is unwound:
-- only an event does
abbrev pub escapes : Option UnwindReason → Option UnwindReason → Bool
escapes (Some (reason.Event n x y)) (Some why) = true
escapes _ _ = false

-- the destruction of a coroutine is not ended by a return of a handler, which unwinds what a destructor has called meanwhile
abbrev pub why_by : UnwindReason → Option UnwindReason → UnwindReason
why_by why (Some reason.Destroyed) = reason.Destroyed
why_by why _ = why

-- the one that waits is unwound in its turn
abbrev pub pass_on : Option UnwindReason → Active → List Active → State → Step
pass_on None c cs s = Asks ask.End s
pass_on (Some why) c cs s = Goes (left_for s.run.counts (unwound (Unwind ∷ c.control) (why_by why c.raised) s.run.result c) cs s.env)

abbrev pub leave_for : Bool → Active → List Active → State → Step
leave_for true c cs s = Asks (ask.Fault (fault_number EscapeInUnwind)) s
leave_for false c cs s = pass_on s.run.raised c cs s

-- an activation is left: a return to it ends it, with what it hands over
abbrev pub leave_step : List Active → State → Step
leave_step [] s = Asks ask.End s
leave_step (c ∷ cs) s =
    if arrives s.run.raised (length (c ∷ cs))
    then return_step s.run.result (c ∷ cs) s
    else leave_for (escapes s.run.raised c.raised) c cs s

abbrev pub unwind_step : List Todo → State → Step
unwind_step [] s = leave_step s.callers s
unwind_step (p ∷ ps) s = unwind_past (sort p) ps s

-- the search for a handler of a resumption

abbrev pub handler_count : Handlers → ℕ
handler_count NoHandlers = 0
handler_count (MoreHandlers resumes event cell line body rest) = suc (handler_count rest)

-- how many handlers and clean-ups a piece stands for: what ends a return, or all unwinding, is one
abbrev pub count_by : Sort → ℕ
count_by Simple = 0
count_by (IsLoop o t e b) = 0
count_by IsWhole = 1
count_by (IsClean c) = 1
count_by (IsFill n b d) = 1
count_by (IsSweep e) = 1
count_by (IsPart c) = 1
count_by (IsGuard hs) = handler_count hs
count_by IsFinish = 1
count_by IsFinishCoroutine = 1

-- how many stand round what is done first
abbrev pub count_round : List Todo → ℕ
count_round [] = 0
count_round (p ∷ ps) = count_by (sort p) + count_round ps

-- what stands within so many of them alone
abbrev pub within : ℕ → List Todo → List Todo
within n [] = []
within n (p ∷ ps) = if nat_eq (count_round (p ∷ ps)) n then p ∷ ps else within n ps

-- a handler that is found, and how many handlers and clean-ups stand outwards of its guarded block
pub record Hit : Type 0 where
  pub handler : Handler
  pub rest : ℕ

abbrev pub hit_or : Option Handler → ℕ → Option Hit → Option Hit
hit_or None n other = other
hit_or (Some h) n other = Some (record { handler = h; rest = n })

abbrev pub hit_by : Sort → ℕ → Event → Option Hit → Option Hit
hit_by (IsGuard hs) n e other = hit_or (handler_for true e hs) n other
hit_by _ n e other = other

-- the first one from the innermost piece outwards
abbrev pub hit_in : Event → List Todo → Option Hit
hit_in e [] = None
hit_in e (p ∷ ps) = hit_by (sort p) (count_round ps) e (hit_in e ps)

-- the handler of a resumption, how far the search for it came, and the object and the frame that it uses
pub record Found : Type 0 where
  pub handler : Handler
  pub visited : Visited
  pub this : Value
  pub frame : ℕ

-- how many stand below the activation of the routine to which an activation belongs
abbrev pub home_of : Option Visited → ℕ → ℕ
home_of None n = n
home_of (Some v) n = v.home

abbrev pub found_or : Option Hit → Active → List Active → Option Found → Option Found
found_or None a below_it other = other
found_or (Some h) a below_it other = Some (record {
  handler = h.handler;
  visited = record { level = length below_it; rest = h.rest; home = home_of a.handles (length below_it) };
  this = a.this;
  frame = a.frame;
})

-- over the activations, the newest first: behind one that handles a resumption all is passed over that the search for it visited, its
-- own guarded block included
abbrev pub seek : Option Visited → Event → List Active → Option Found
seek visited e [] = None
seek None e (a ∷ others) = found_or (hit_in e a.control) a others (seek a.handles e others)
seek (Some v) e (a ∷ others) =
    if nat_eq (length others) v.level
    then found_or (hit_in e (within v.rest a.control)) a others (seek a.handles e others)
    else seek (Some v) e others

-- the handler runs before the activation that raised the event, which drops what it hands over; without a handler the event is thrown
abbrev pub handle_step : Option Found → Event → List Todo → State → Step
handle_step None e todo s = throw_step e todo s
handle_step (Some f) e todo s =
    Goes (handler_entered (handler_todo f.handler []) (operands_of e) f.this f.frame Nothing f.visited (record s.run { control = DropNow ∷ todo; operands = below (below (below s.run.operands)) }) s.callers s.env)

-- an event is resumed
abbrev pub raise_step : Event → List Todo → State → Step
raise_step e todo s = handle_step (seek None e (record s.run { control = todo } ∷ s.callers)) e todo s

-- the end of a handler or of a routine

-- a resumption handler returns: all is unwound from the raise on, up to the call of the routine in which it stands
abbrev pub return_past : Visited → Value → List Active → State → Step
return_past v given [] s = Asks ask.End s
return_past v given (c ∷ cs) s = Goes (left_for s.run.counts (unwound (Unwind ∷ c.control) (reason.ReturnTo v.home) given c) cs s.env)

abbrev pub end_by : Option Visited → Value → State → Step
end_by None given s = return_step given s.callers s
end_by (Some v) given s = return_past v given s.callers s
