-- Objects that have been built, and objects that are entered to be destroyed: each is at home in what is the execution's own, and nothing that is still to be
-- cleaned up stands around it; and what is entered to be destroyed no activation of the execution builds or destroys.
use Rattle.std.specs.Prelude.{◌≡◌, true, List, ◌∷◌}
use Rattle.uc_tree.specs.Source.{Source}
use Rattle.uc_machine.specs.Monitors.{this_object}
use Rattle.uc_machine.specs.Pieces.{Todo, EnterNow, MadeNow, SpawnNow, State}
use Rattle.uc_typing.specs.Typing.{Table}
use Rattle.uc_depth_laws.specs.Entering.{is_ending}
use Rattle.uc_depth_laws.specs.Owing.{entering}
use Rattle.uc_life_laws.specs.Things.{Few}
use Rattle.uc_life_laws.specs.Ending.{LoneBefore}
use Rattle.uc_putting_laws.specs.Calling.{CallingSource}
use Rattle.uc_putting_laws.specs.ObjectsAtHand.{IsBuilt}
use Rattle.uc_putting_laws.specs.Putting.{Setting, PutState}

module _ (t : Table) (few : Few) (source : Source) where
  abbrev pub LoneObjectAt : List Todo → State → Type 0
  LoneObjectAt (EnterNow m r ∷ todo) s = is_ending source r ≡ true →
      LoneBefore t few (entering source r s) todo s × (IsBuilt (s.run ∷ s.callers) (entering source r s) → ⊥)
  LoneObjectAt (MadeNow ∷ todo) s = LoneBefore t few (this_object s) todo s
  LoneObjectAt (SpawnNow r ∷ todo) s = LoneBefore t few (this_object s) todo s
  LoneObjectAt todo s = Unit {0}

  abbrev pub LoneObject : State → Type 0
  LoneObject s = LoneObjectAt s.run.control s

-- so it is in each state in which this is known of operands, of a source in which constructors and destructors are called where they may be
abbrev pub LawLoneObjects : Type 0
LawLoneObjects = (g : Setting) → CallingSource g.table g.source g.special → (s : State) → PutState g s →
    LoneObject g.table g.few g.source s
