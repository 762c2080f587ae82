-- What an unwinding of one activation comes to in the source, by the row that stops it.
use Rattle.std.specs.Prelude.{◌≡◌, ℕ, ◌+◌, List, [], ◌∷◌, Option, Some, None, false}
use Rattle.uc_tree.specs.Source.{Source, Leaves as LeavesIt}
use Rattle.uc_machine.specs.declared.exec.UnwindReason.{UnwindReason}
use Rattle.uc_machine.specs.declared.exec.UnwindReason.TheVariants as reason
use Rattle.uc_machine.specs.Quiet.{Todo, Value, Active, Env, State, Quietly, IsWhole, IsClean, sort, own_line}
use Rattle.uc_machine.specs.Pieces.{Unwind}
use Rattle.uc_machine.specs.Raising.{Event, Handler, handler_todo, operands_of}
use Rattle.uc_code.specs.declared.rows.MainOf.{MainOf}
use Rattle.uc_code.specs.declared.rows.CodeMark.{CodeMark}
use Rattle.uc_code.specs.Layout.{Laid}
use Rattle.uc_code.specs.declared.op.Op.TheVariants as op
use Rattle.uc_code.specs.CodeShapes.{OpAt, Risk, HandlerAt, clean_up, main_left}
use Rattle.uc_code.specs.Lowered.{ArrivesAt, handler_of}
use Rattle.uc_frames.specs.Stands.{finish_sort, FollowsAt}

-- the number of the event by which it is unwound, if it is one
abbrev pub event_by : Option UnwindReason → Option ℕ
event_by (Some (reason.Event n x y)) = Some n
event_by _ = None

module _ (source : Source) (code : Laid) (a : Active) (cs : List Active) (env : Env) (r : Option UnwindReason) where
  -- the activation is unwound for this reason, with this to do, and all else is as it is
  abbrev pub st : List Value → List Todo → State
  st vs todo = record { run = record a { control = todo; operands = vs; raised = r }; callers = cs; env = env }

  -- an event is caught, with this left behind the handler
  abbrev pub caught : Event → Handler → List Todo → State
  caught e h todo = record { run = record a { control = handler_todo h todo; operands = operands_of e; raised = None }; callers = cs; env = env }

  -- the clean-up of this row begins
  pub record CleansUp (row : ℕ) (s : State) : Type 0 where
    pub entry : ℕ
    pub handler : HandlerAt code row (clean_up entry)
    pub todo : List Todo
    pub marks : List CodeMark
    pub follows : FollowsAt code todo marks entry
    pub by : Quietly source s (st [] todo)

  -- the op that tests whether the unwinding of a block that is left as a whole is over comes
  pub record TestsBlock (row : ℕ) (s : State) : Type 0 where
    pub entry : ℕ
    pub handler : HandlerAt code row (clean_up entry)
    pub block : Todo
    pub whole : sort block ≡ IsWhole
    pub rest : List Todo
    pub marks : List CodeMark
    pub tests : Risk code marks op.Handled (own_line rest) entry (entry + 1)
    pub follows : FollowsAt code rest marks (entry + 1)
    pub operands : List Value
    pub by : Quietly source s (st operands (Unwind ∷ (block ∷ rest)))

  -- the op that tests whether a return arrives at a mutex call comes
  pub record TestsCall (row : ℕ) (s : State) : Type 0 where
    pub entry : ℕ
    pub handler : HandlerAt code row (clean_up entry)
    pub call : Todo
    pub leaves : sort call ≡ IsClean LeavesIt
    pub rest : List Todo
    pub marks : List CodeMark
    pub back : ℕ
    pub pad : ArrivesAt code (own_line rest) marks entry back
    pub at : ℕ
    pub follows : FollowsAt code rest marks at
    pub operands : List Value
    pub by : Quietly source s (st operands (Unwind ∷ (call ∷ rest)))

  -- the end of a main that is unwound comes
  pub record EndsMain (whose : MainOf) (row : ℕ) (s : State) : Type 0 where
    pub entry : ℕ
    pub handler : HandlerAt code row (clean_up entry)
    pub finish : Todo
    pub main : sort finish ≡ finish_sort whose
    pub rest : List Todo
    pub ends : OpAt code entry (main_left whose) (own_line rest)
    pub operands : List Value
    pub by : Quietly source s (st operands (Unwind ∷ (finish ∷ rest)))

  -- the handler of this row catches the event
  pub record Catches (row : ℕ) (s : State) : Type 0 where
    pub event : Event
    pub is : r ≡ Some (reason.Event event.number event.x event.y)
    pub named : Option ℕ
    pub rest : ℕ
    pub entry : ℕ
    pub handler_at : HandlerAt code row (handler_of false named rest entry)
    pub handler : Handler
    pub todo : List Todo
    pub marks : List CodeMark
    pub follows : FollowsAt code (handler_todo handler todo) marks entry
    pub by : Quietly source s (caught event handler todo)

  -- nothing of the activation is left
  pub record Leaves (s : State) : Type 0 where
    pub operands : List Value
    pub by : Quietly source s (st operands (Unwind ∷ []))

  pub data Comes : Option ℕ → State → Type 0 where
    ToEnd : (s : State) → Leaves s → Comes None s
    ToCleanUp : (row : ℕ) (s : State) → CleansUp row s → Comes (Some row) s
    ToBlock : (row : ℕ) (s : State) → TestsBlock row s → Comes (Some row) s
    ToCall : (row : ℕ) (s : State) → TestsCall row s → Comes (Some row) s
    ToMain : (whose : MainOf) (row : ℕ) (s : State) → EndsMain whose row s → Comes (Some row) s
    ToHandler : (row : ℕ) (s : State) → Catches row s → Comes (Some row) s
