-- References to scalars, and to what is another's and no mutex object.
use Rattle.std.specs.Prelude.{◌≡◌, true, false}
use Rattle.uc_machine.specs.declared.exec.Exec.{Exec}
use Rattle.uc_machine.specs.Pieces.{Value}
use Rattle.uc_typing.specs.Typing.{Ty, Num, Cell, Obj, Table}
use Rattle.uc_typing.specs.States.{Is}
use Rattle.uc_life_laws.specs.Rooted.{IsPlace}
use Rattle.uc_lasting_programs.specs.Bases.{of_others}

-- it is the place of a scalar, or that of a plain object, which is another's
abbrev pub IsHad : Table → Exec → Ty → Value → Type 0
IsHad t n (Cell Num) v = IsPlace v
IsHad t n (Obj c) v = (t.mutex c ≡ false) × (of_others n v ≡ true)
IsHad t n a v = ⊥

-- and it is of its type
abbrev pub IsOfOthers : Table → Exec → Ty → Value → Type 0
IsOfOthers t n a v = Is t a v × IsHad t n a v
