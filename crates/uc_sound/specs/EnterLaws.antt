-- In programs that break no rule objects are entered by their calls, and a new object finds its place.
use Rattle.std.specs.Prelude.{◌≡◌, []}
use Rattle.uc_tree.specs.Programs.{Program}
use Rattle.uc_tree.specs.Source.{Source}
use Rattle.uc_machine.specs.Pieces.{State}
use Rattle.uc_resolve.specs.Resolve.{source_of}
use Rattle.uc_rules.specs.Breaks.{breaks_of}
use Rattle.uc_typing.specs.Typing.{Table}
use Rattle.uc_typing.specs.States.{Sound, Typed}
use Rattle.uc_sound.specs.SoundFormed.{IsFormed}
use Rattle.uc_depth_laws.specs.Entering.{EnteredSource}
use Rattle.uc_depth_laws.specs.Owing.{Sole, Fair}

-- what holds an object is called where that is entered, in the source of every program that breaks no rule
abbrev pub LawEntered : Type 0
LawEntered = (p : Program) → IsFormed p → breaks_of p ≡ [] → EnteredSource (source_of p)

-- where types are in order, that is all that a step is to find for the laws of depths
abbrev pub LawFair : Type 0
LawFair =
    (t : Table) (source : Source) → Sound t source → (s : State) → Typed t [] s →
    Sole source s → Fair source s
