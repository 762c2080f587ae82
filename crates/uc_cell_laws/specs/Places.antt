-- Where bindings lie: within one thing, and within the variables of one frame, places that have one address are one place, and of one type.
use Rattle.std.specs.Prelude.{◌≡◌, ℕ, ◌<◌, true, List, [], ◌∷◌}
use Rattle.uc_tree.specs.Programs.{Program}
use Rattle.uc_tree.specs.Source.{Variable, CleanUp, Source}
use Rattle.uc_machine.specs.declared.exec.Owner.{Owner}
use Rattle.uc_machine.specs.declared.exec.Owner.TheVariants.{Fields}
use Rattle.uc_machine.specs.Pieces.{Link, Slot, Value, Place, Object, LAST_ADDRESS, address}
use Rattle.uc_resolve.specs.Resolve.{source_of}
use Rattle.uc_rules.specs.Breaks.{breaks_of}
use Rattle.uc_typing.specs.Typing.{Ty, Cell, Obj, Table, CleansAt}
use Rattle.uc_sound.specs.SoundFormed.{IsFormed}
use Rattle.uc_sound.specs.Tables.{table_of}
use Rattle.uc_state_laws.specs.Layout.{Sized}
use Rattle.uc_state_laws.specs.Limits.{IsWithinLimits}
use Rattle.uc_life_laws.specs.Things.{Within}
use Rattle.uc_life_laws.specs.LifeRuns.{IsFlat, IsLaidOut}
use Rattle.uc_cell_laws.specs.Scopes.{IsScopeOf}

-- of a thing that lies at a place, or is a mutex object: places of bindings in it that have one address below the last are one place, of one type; and any
-- place in it has one type
pub record LawPlaces : Type 0 where
  pub places : (p : Program) (t : Table) → IsLaidOut (Sized p) t → (w : Value) (a : Ty) → IsFlat a →
      (o : Owner) (x y : List Link) (b c : Ty) → Within t w a (Place o x) (Cell b) → Within t w a (Place o y) (Cell c) →
      address x < LAST_ADDRESS → address x ≡ address y → (x ≡ y) × (b ≡ c)
  pub types : (t : Table) (w : Value) (a : Ty) (o : Owner) (x : List Link) (b c : Ty) →
      Within t w a (Place o x) b → Within t w a (Place o x) c → b ≡ c

-- something of a type lies in what a scope of the routine of this number is of, which stands at a variable of a frame
pub record LiesInScope (t : Table) (source : Source) (r : ℕ) (o : Owner) (v : Value) (b : Ty) : Type 0 where
  pub clean : CleanUp
  pub scope : IsScopeOf source r clean
  pub cell : ℕ
  pub type : Ty
  pub cleans : CleansAt t type (Variable cell) clean
  pub within : Within t (Place o (Slot cell ∷ [])) type v b

-- so it is of all variables of a frame that are objects, or arrays of such, whether they are in scope at one time or never
abbrev pub LawVariables : Type 0
LawVariables = (p : Program) → IsFormed p → breaks_of p ≡ [] → (r : ℕ) (o : Owner) (x y : List Link) (b c : Ty) →
    LiesInScope (table_of p) (source_of p) r o (Place o x) (Cell b) →
    LiesInScope (table_of p) (source_of p) r o (Place o y) (Cell c) →
    address x < LAST_ADDRESS → address x ≡ address y → (x ≡ y) × (b ≡ c)

-- and where the program is within its limits all of these have addresses; so have, in each such program, bindings in mutex objects
pub record LawAddresses : Type 0 where
  pub variables : (p : Program) → IsFormed p → breaks_of p ≡ [] → IsWithinLimits p → (r : ℕ) (o : Owner) (x : List Link) (b : Ty) →
      LiesInScope (table_of p) (source_of p) r o (Place o x) (Cell b) → address x < LAST_ADDRESS
  pub objects : (p : Program) → IsFormed p → breaks_of p ≡ [] → (o c : ℕ) (x : List Link) (b : Ty) → (table_of p).mutex c ≡ true →
      Within (table_of p) (Object o) (Obj c) (Place (Fields o) x) (Cell b) → address x < LAST_ADDRESS
