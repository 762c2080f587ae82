-- What a task does at mutex objects: it enters and leaves them, makes them and destroys them, waits and signals, and accepts.
use Rattle.std.specs.Prelude.{ℕ, zero, suc, ◌+◌, ◌*◌, pos, List, [], ◌∷◌, drop, Option, Some, None, Bool, true, false, nat_eq, nat_lt, if◌then◌else◌, slice_set}
use Rattle.uc_tree.specs.declared.limits.TheConstants.{CALLS, FAILURE}
use Rattle.uc_tree.specs.Source.{Clauses, NoClauses, Otherwise, MoreClauses, Routine}
use Rattle.uc_machine.specs.declared.exec.UnwindReason.{UnwindReason}
use Rattle.uc_machine.specs.declared.exec.UnwindReason.TheVariants as reason
use Rattle.uc_entry.specs.declared.request.Request.{Request}
use Rattle.uc_entry.specs.declared.request.Request.TheVariants as ask
use Rattle.uc_entry.specs.declared.fault.RunFault.TheVariants.{Index, Depth, BlockedInside}
use Rattle.uc_machine.specs.Executions.{take_operands}
use Rattle.uc_entry.specs.Keyed.{find}
use Rattle.uc_machine.specs.Insides.{is_last, call_begun, call_ended, call_gone, build_begun, build_ended, counted_no_more, is_held_up}
use Rattle.uc_machine.specs.Pieces.{Value, Todo, State, Env, Step, top, below, number, as_number, is_zero, object_in, nought, written, in_env, goes, turns, fault, asks, Number, Nothing, Do, BindMadeNow, PollNow, FailedNow, RaiseNow}

-- an execution that may not leave object o, or wait there, is stopped
abbrev pub unless_held_up : ℕ → Step → List Todo → State → Step
unless_held_up o step todo s = if is_held_up o s.env then fault BlockedInside todo s.run.operands s else step

-- whether one more call may be active, where a routine is written
abbrev pub may_call : Bool → State → Bool
may_call true s = nat_lt s.env.links.calls CALLS
may_call false s = true

-- object o is entered: a task that is inside goes on, another asks
abbrev pub enter_at : Option ℕ → ℕ → ℕ → List Todo → State → Step
enter_at (Some d) o m todo s = turns todo (in_env (call_begun o s.env) s)
enter_at None o m todo s = asks (ask.Call o m) todo s.run.operands (in_env (call_begun o s.env) s)

abbrev pub enter_on : ℕ → ℕ → List Todo → State → Step
enter_on o m todo s = enter_at (find o s.env.depths) o m todo s

abbrev pub enter_step : ℕ → Option Routine → List Todo → State → Step
enter_step m None todo s = asks ask.End todo s.run.operands s
enter_step m (Some r) todo s =
    if may_call r.written s then enter_on (object_in (top (drop r.params s.run.operands))) m todo s else fault Depth todo s.run.operands s

-- behind a call that has left its object by no event and no unwinding stands a poll
abbrev pub leave_todo : Option UnwindReason → List Todo → List Todo
leave_todo None todo = PollNow ∷ todo
leave_todo (Some why) todo = todo

-- whether an event unwinds
abbrev pub by_event : Option UnwindReason → Bool
by_event (Some (reason.Event n x y)) = true
by_event _ = false

abbrev pub leave_at : Bool → ℕ → List Todo → State → Step
leave_at false o todo s = turns todo (in_env (call_ended o s.env) s)
leave_at true o todo s =
    unless_held_up o (asks (ask.Leave o (by_event s.run.raised)) (leave_todo s.run.raised todo) s.run.operands (counted_no_more (in_env (call_ended o s.env) s))) todo s

abbrev pub leave_on : ℕ → List Todo → State → Step
leave_on o todo s = leave_at (is_last (find o s.env.depths)) o todo s

-- a mutex object is made; the answer is a new operand
abbrev pub make_step : ℕ → ℕ → Option Routine → List Todo → State → Step
make_step c k None todo s = asks ask.End todo s.run.operands s
make_step c k (Some r) todo s =
    if may_call r.written s then asks (ask.Make c) (BindMadeNow c k ∷ todo) s.run.operands (in_env (build_begun s.env) s) else fault Depth todo s.run.operands s

-- its number is written to the place below these operands, which it then replaces
abbrev pub bind_at : ℕ → Value → List Value → List Todo → State → Step
bind_at n v vs todo s = goes todo (slice_set vs n v) (in_env (written (top (drop n vs)) v s.env) s)

abbrev pub bind_step : Option Routine → List Todo → State → Step
bind_step None todo s = asks ask.End todo s.run.operands s
bind_step (Some r) todo s = bind_at r.params (top s.run.operands) (below s.run.operands) todo s

-- the object at hand has been built
abbrev pub built_step : ℕ → Request → List Todo → State → Step
built_step o r todo s = unless_held_up o (asks r todo s.run.operands (in_env (build_ended o s.env) s)) todo s

-- it is gone
abbrev pub gone_step : ℕ → List Todo → Env → State → Step
gone_step o todo e s = asks (ask.Gone o) todo s.run.operands (in_env e s)

-- the object of the running call
abbrev pub this_object : State → ℕ
this_object s = object_in s.run.this

-- conditions, by their numbers

abbrev pub condition_in : Value → ℕ
condition_in v = as_number (number v)

abbrev pub condition_step : ℕ → Option ℕ → List Todo → State → Step
condition_step k None todo s = fault Index todo (below s.run.operands) s
condition_step k (Some i) todo s = goes todo (Number (pos (k + i)) ∷ below s.run.operands) s

-- a wait, and a signal, leave one operand
abbrev pub wait_step : ℕ → List Todo → State → Step
wait_step o todo s =
    unless_held_up o (asks (ask.Wait o (condition_in (top (below s.run.operands))) (number (top s.run.operands))) todo (nought ∷ below (below s.run.operands)) s) todo s

abbrev pub signal_block_step : ℕ → List Todo → State → Step
signal_block_step o todo s =
    unless_held_up o (asks (ask.SignalBlock o (condition_in (top s.run.operands))) todo (nought ∷ below s.run.operands) s) todo s

-- accept statements

-- the clauses with a true guard, as bits, the first one lowest
abbrev pub mask_of : List Value → ℕ
mask_of [] = 0
mask_of (v ∷ vs) = (if is_zero (number v) then 0 else 1) + 2 * mask_of vs

-- without a true guard nothing is asked, and the branch of `_Else` is taken
abbrev pub accept_by : ℕ → ℕ → ℕ → List Todo → List Value → State → Step
accept_by zero o site todo vs s = goes todo (nought ∷ vs) s
accept_by (suc mask) o site todo vs s =
    unless_held_up o (asks (ask.Accept o site (suc mask)) (FailedNow ∷ (PollNow ∷ todo)) vs s) todo s

-- so many guards are the newest operands
abbrev pub accept_step : ℕ → ℕ → ℕ → List Todo → State → Step
accept_step o site n todo s = accept_by (mask_of (take_operands Nothing n s.run.operands [])) o site todo (drop n s.run.operands) s

-- where the call that was taken has failed, as the newest operand tells, that is resumed
abbrev pub failed_step : Bool → List Todo → List Value → State → Step
failed_step true todo vs s = goes todo vs s
failed_step false todo vs s = goes (RaiseNow ∷ todo) (nought ∷ (nought ∷ (Number (pos FAILURE) ∷ vs))) s

-- the branch of a clause, from 1, or that of `_Else`
abbrev pub branch_todo : ℕ → Clauses → List Todo → List Todo
branch_todo k NoClauses todo = todo
branch_todo k (Otherwise b) todo = if nat_eq k 0 then Do b ∷ todo else todo
branch_todo zero (MoreClauses guard b cs) todo = branch_todo zero cs todo
branch_todo (suc zero) (MoreClauses guard b cs) todo = Do b ∷ todo
branch_todo (suc (suc k)) (MoreClauses guard b cs) todo = branch_todo (suc k) cs todo
