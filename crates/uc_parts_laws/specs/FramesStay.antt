-- Where an activation ends, its frame holds no coroutine of which the execution is held by others, or that is to be cleaned up by who waits.
use Rattle.std.specs.Prelude.{Bool, List, [], ◌∷◌}
use Rattle.uc_tree.specs.Programs.{Program}
use Rattle.uc_machine.specs.declared.exec.Exec.{Exec}
use Rattle.uc_machine.specs.Pieces as piece
use Rattle.uc_machine.specs.Pieces.{Todo, State}
use Rattle.uc_state_laws.specs.Layout.{Sized}
use Rattle.uc_state_laws.specs.RoomStacks.{StackState}
use Rattle.uc_life_laws.specs.Held.{Seating, AreLines, LetsGo}
use Rattle.uc_putting_laws.specs.Putting.{Setting, PutState}

-- an activation ends next: nothing is left to do, or it is left by an exit or an unwinding; or a task's main does, behind which lines are left alone
abbrev pub IsEnd : List Todo → Type 0
IsEnd [] = Unit {0}
IsEnd (piece.Exit way ∷ []) = Unit {0}
IsEnd (piece.Unwind ∷ []) = Unit {0}
IsEnd (piece.Finish ∷ todo) = AreLines todo
IsEnd todo = ⊥

-- so it is where this is known of operands, and activations which use one frame stay behind one another
abbrev pub LawFramesStay : Type 0
LawFramesStay = (p : Program) (g : Setting) (seats : Seating) (up : Exec → Bool) (s : State) → PutState g s →
    StackState (Sized p) s → IsEnd s.run.control → LetsGo g.source seats up s
