-- The cells of objects in the frames of a program's routines.
use Rattle.std.specs.Prelude.{◌≡◌, ℕ, List, [], ◌∷◌, Option, Some, None, if◌then◌else◌}
use Rattle.uc_tree.specs.declared.pos.Pos.{Pos}
use Rattle.uc_tree.specs.declared.kinds.Role.TheVariants as role
use Rattle.uc_tree.specs.Cells.{class_cells}
use Rattle.uc_tree.specs.Gathered.{gathered_all}
use Rattle.uc_tree.specs.Numbering.{Defined, routines_of}
use Rattle.uc_tree.specs.Objects.{written_at, unwritten_number}
use Rattle.uc_tree.specs.Programs.{Program}
use Rattle.uc_tree.specs.Statements.{Declarator, ForStart, NoFor, ForDeclare, ForEvaluate, Stmt, Declare, For}

-- the number of what destroys the objects of a class, written or not
abbrev pub destructor_by : Program → ℕ → Option ℕ → ℕ
destructor_by p i None = unwritten_number p i role.Destructor
destructor_by p i (Some r) = r

abbrev pub destructor_of : Program → ℕ → ℕ
destructor_of p i = destructor_by p i (written_at p i role.Destructor)

-- a routine destroys the objects of a class of so many cells
abbrev pub Sized : Program → ℕ → ℕ → Type 0
Sized p r n = (i : ℕ) × (r ≡ destructor_of p i) × (n ≡ class_cells p i)

-- the locals that are declared as references, which a rule forbids
abbrev pub references : List Declarator → List Pos
references [] = []
references (d ∷ ds) = if d.by_ref then d.pos ∷ references ds else references ds

abbrev pub started_references : ForStart → List Pos
started_references NoFor = []
started_references (ForDeclare at b ds) = references ds
started_references (ForEvaluate e) = []

abbrev pub own_references : Stmt → List Pos
own_references (Declare at b ds) = references ds
own_references (For at start test step body) = started_references start
own_references t = []

-- no routine of a program declares one
abbrev pub NoReferences : List Defined → Type 0
NoReferences [] = Unit {0}
NoReferences (d ∷ ds) = (gathered_all own_references d.routine.body ≡ []) × NoReferences ds

abbrev pub AreNoReferences : Program → Type 0
AreNoReferences p = NoReferences (routines_of p)
