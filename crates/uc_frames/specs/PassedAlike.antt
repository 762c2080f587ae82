-- Activations that are left while they are unwound, for one that is then unwound as they were.
use Rattle.std.specs.Prelude.{List, [], ◌∷◌, Option}
use Rattle.uc_machine.specs.declared.exec.UnwindReason.{UnwindReason}
use Rattle.uc_machine.specs.Executions.{left_for, one_call_less, others}
use Rattle.uc_frames.specs.declared.cell.Cell.{Cell}
use Rattle.uc_frames.specs.Block.{Stack}
use Rattle.uc_frames.specs.Machine.{Activation, Machine}

-- an activation is unwound so, at the place at which it is: for this reason, if there is one, and with what a return that arrives hands over
abbrev pub unwound_as : Option UnwindReason → Cell → Activation → Activation
unwound_as why given a = record a { operands = []; raised = why; result = given }

-- an execution whose newest activation is left, where one of these waits for it
abbrev pub unwound_alike : List Activation → Stack → Stack
unwound_alike [] x = x
unwound_alike (c ∷ cs) x = record { run = unwound_as x.run.raised x.run.result c; callers = cs; frames = others x.frames; links = one_call_less x.run.counts x.links }

-- a machine whose running activation is left, where one of these waits for it
abbrev pub passed_alike : List Activation → Machine → Machine
passed_alike [] m = m
passed_alike (c ∷ cs) m = left_for m.run.counts (unwound_as m.run.raised m.run.result c) cs m.env
