-- When a machine that searches a handler or unwinds stands for a state of the source.
use Rattle.std.specs.Prelude.{◌≡◌, ℕ, ◌+◌, List, [], ◌∷◌}
use Rattle.uc_machine.specs.Raising as raising
use Rattle.uc_machine.specs.Quiet as quiet
use Rattle.uc_tree.specs.Source.{Leaves}
use Rattle.uc_machine.specs.Quiet.{Todo, DropNow, RaiseNow, ThrowNow, Unwind, IsWhole, IsClean, sort, State, below, own_line}
use Rattle.uc_code.specs.declared.rows.CodeMark.{CodeMark}
use Rattle.uc_code.specs.declared.op.Op.TheVariants as op
use Rattle.uc_code.specs.Layout.{Laid, handlers, chain}
use Rattle.uc_code.specs.declared.rows.MainOf.{MainOf}
use Rattle.uc_code.specs.CodeShapes.{OpAt, Risk, main_left}
use Rattle.uc_code.specs.Lowered.{ArrivesAt}
use Rattle.uc_frames.specs.declared.event.Event.{Event}
use Rattle.uc_frames.specs.Machine.{Activation, Machine, cell_of}
use Rattle.uc_frames.specs.StandsByParts.{Lined}
use Rattle.uc_frames.specs.Stands.{finish_sort, image, FollowsAt, CallerStands, EnvironmentStands}

-- an event as the source has it
abbrev pub raised_as : Event → raising.Event
raised_as e = record { number = e.number; x = e.x; y = e.y }

module _ (code : Laid) where
  -- the rows before this op are those of what stands round this
  pub record RowsStand (todo : List Todo) (pc : ℕ) : Type 0 where
    pub marks : List CodeMark
    pub at : ℕ
    pub follows : FollowsAt code todo marks at
    pub under : chain code.rows pc ≡ handlers marks

  -- an activation among whose handlers a search goes
  pub record SearchStands (m : Activation) (s : quiet.Active) : Type 0 where
    pub rows : RowsStand s.control m.control
    pub this : m.this ≡ cell_of s.this
    pub frame : m.frame ≡ s.frame
    pub handles : m.handles ≡ s.handles

  -- an activation that is unwound, with this left. Its operands are gone, those of the source go with the next step
  pub record UnwindStands (m : Activation) (s : quiet.Active) : Type 0 where
    pub rest : List Todo
    pub todo : s.control ≡ Unwind ∷ rest
    pub rows : RowsStand rest m.control
    pub is : m ≡ image m.control (record s { operands = [] })

  -- the next op tests whether the unwinding is over, at the end of a block that is left as a whole
  pub record BlockStands (m : Activation) (s : quiet.Active) : Type 0 where
    pub block : Todo
    pub whole : sort block ≡ IsWhole
    pub rest : List Todo
    pub todo : s.control ≡ Unwind ∷ (block ∷ rest)
    pub marks : List CodeMark
    pub tests : Risk code marks op.Handled (own_line rest) m.control (m.control + 1)
    pub follows : FollowsAt code rest marks (m.control + 1)
    pub is : m ≡ image m.control (record s { operands = [] })

  -- the next op tests whether a return of a handler arrives at a mutex call that is unwound
  pub record CallStands (m : Activation) (s : quiet.Active) : Type 0 where
    pub call : Todo
    pub leaves : sort call ≡ IsClean Leaves
    pub rest : List Todo
    pub todo : s.control ≡ Unwind ∷ (call ∷ rest)
    pub marks : List CodeMark
    pub back : ℕ
    pub pad : ArrivesAt code (own_line rest) marks m.control back
    pub at : ℕ
    pub follows : FollowsAt code rest marks at
    pub is : m ≡ image m.control (record s { operands = [] })

  -- the next op ends a main that is unwound
  pub record MainStands (whose : MainOf) (m : Activation) (s : quiet.Active) : Type 0 where
    pub finish : Todo
    pub main : sort finish ≡ finish_sort whose
    pub rest : List Todo
    pub todo : s.control ≡ Unwind ∷ (finish ∷ rest)
    pub ends : OpAt code m.control (main_left whose) (own_line rest)
    pub is : m ≡ image m.control (record s { operands = [] })

  -- nothing is left to unwind in an activation
  pub record EndStands (m : Activation) (s : quiet.Active) : Type 0 where
    pub todo : s.control ≡ Unwind ∷ []
    pub is : m ≡ image m.control (record s { operands = [] })

  -- a machine whose running activation stands so, and all else as ever
  pub record StandsBy (R : Activation → quiet.Active → Type 0) (m : Machine) (s : State) : Type 0 where
    pub run : R m.run s.run
    pub callers : Lined (CallerStands code) m.callers s.callers
    pub env : EnvironmentStands code m.env s.env

  -- the machine unwinds, as the state does
  abbrev pub Unwinds : Machine → State → Type 0
  Unwinds = StandsBy UnwindStands

  abbrev pub TestsBlock : Machine → State → Type 0
  TestsBlock = StandsBy BlockStands

  abbrev pub TestsCall : Machine → State → Type 0
  TestsCall = StandsBy CallStands

  abbrev pub EndsMain : MainOf → Machine → State → Type 0
  EndsMain whose = StandsBy (MainStands whose)

  abbrev pub LeavesNow : Machine → State → Type 0
  LeavesNow = StandsBy EndStands

  -- the machine has popped the event that the state raises, as a resumption or by a throw
  pub record Raises (m : Machine) (s : State) : Type 0 where
    pub rest : List Todo
    pub todo : s.run.control ≡ RaiseNow ∷ rest
    pub run : CallerStands code m.run (record s.run { control = DropNow ∷ rest; operands = below (below (below s.run.operands)) })
    pub callers : Lined (CallerStands code) m.callers s.callers
    pub env : EnvironmentStands code m.env s.env

  pub record Throws (m : Machine) (s : State) : Type 0 where
    pub rest : List Todo
    pub todo : s.run.control ≡ ThrowNow ∷ rest
    pub rows : RowsStand rest m.run.control
    pub is : m.run ≡ image m.run.control (record s.run { operands = below (below (below s.run.operands)) })
    pub callers : Lined (CallerStands code) m.callers s.callers
    pub env : EnvironmentStands code m.env s.env

  -- the running activation is one and the same, but for what is to do in it, and the others wait
  pub record Returns (m : Machine) (s : State) : Type 0 where
    pub handles : m.run.handles ≡ s.run.handles
    pub counts : m.run.counts ≡ s.run.counts
    pub callers : Lined (CallerStands code) m.callers s.callers
    pub env : EnvironmentStands code m.env s.env
