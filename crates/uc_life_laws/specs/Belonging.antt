-- Whose a place is: of the execution in whose frame it lies. What lies in a mutex object, and the object itself, is whose the place is at which
-- the object is at home.
use Rattle.std.specs.Prelude.{◌≡◌, ℕ, List}
use Rattle.uc_machine.specs.declared.exec.Exec.{Exec}
use Rattle.uc_machine.specs.declared.exec.Owner.TheVariants.{Frame, Fields}
use Rattle.uc_machine.specs.Pieces.{Link, Value, Place, Object}
use Rattle.uc_life_laws.specs.Things.{Few}

pub data Belongs (few : Few) (n : Exec) : Value → Type 0 where
  frame : {x : Exec} {d : ℕ} {p : List Link} → x ≡ n → Belongs few n (Place (Frame x d) p)
  fields : {o : ℕ} {p : List Link} → Belongs few n (few.home o) → Belongs few n (Place (Fields o) p)
  object : {o : ℕ} → Belongs few n (few.home o) → Belongs few n (Object o)
