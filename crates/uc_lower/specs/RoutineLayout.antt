-- Routines that are laid out, one after another, and the ops that they take at most.
use Rattle.std.specs.Prelude.{◌≡◌, ℕ, ◌+◌, ◌*◌, ◌≤◌, ◌<◌, List, [], ◌∷◌, ◌++◌, length, take}
use Rattle.uc_tree.specs.declared.limits.TheConstants.{OPS_FOR_SIZE}
use Rattle.uc_tree.specs.declared.kinds.Role.{Role}
use Rattle.uc_tree.specs.declared.kinds.Role.TheVariants as role
use Rattle.uc_tree.specs.Gathered.{gathered_all}
use Rattle.uc_tree.specs.Numbering.{Defined, own_sites, own_texts}
use Rattle.uc_tree.specs.Objects.{Unwritten, class_at}
use Rattle.uc_tree.specs.Programs.{Program}
use Rattle.uc_resolve.specs.Resolve.{all_unwritten, place_by, routines_meant}
use Rattle.uc_code.specs.Drafts.{Draft}
use Rattle.uc_code.specs.declared.rows.HandlerRow.{HandlerRow}
use Rattle.uc_code.specs.Layout.{laid_in}
use Rattle.uc_code.specs.Lowered.{RoutinesAt}
use Rattle.uc_lower_stmt.specs.LowersStatement.{sizes_at}
use Rattle.uc_lower_class.specs.Bodies.{builder_room, unwritten_room}
use Rattle.uc_lower_stmt.specs.SourceRows.{routines_rows}

-- how many ops a routine takes at most

abbrev pub role_room_of : Program → Role → Defined → ℕ
role_room_of p role.Plain d = OPS_FOR_SIZE * (1 + sizes_at d.routine.body 0)
role_room_of p role.Constructor d = builder_room p d.routine (place_by p d)
role_room_of p role.Destructor d = builder_room p d.routine (place_by p d)

abbrev pub routine_room : Program → Defined → ℕ
routine_room p d = role_room_of p d.routine.sig.role d

abbrev pub written_room : Program → List Defined → ℕ
written_room p [] = 0
written_room p (d ∷ ds) = routine_room p d + written_room p ds

abbrev pub own_room : Program → Unwritten → ℕ
own_room p u = unwritten_room u.role (class_at p u.class) + 1

abbrev pub unwritten_rooms : Program → List Unwritten → ℕ
unwritten_rooms p [] = 0
unwritten_rooms p (u ∷ us) = own_room p u + unwritten_rooms p us

-- the text literals in routines
abbrev pub defined_texts : List Defined → ℕ
defined_texts [] = 0
defined_texts (d ∷ ds) = length (gathered_all own_texts d.routine.body) + defined_texts ds

-- the accept statements in routines
abbrev pub defined_sites : List Defined → ℕ
defined_sites [] = 0
defined_sites (d ∷ ds) = length (gathered_all (own_sites d.class d.number) d.routine.body) + defined_sites ds

-- the number of the last written routine
abbrev pub last_of : List Defined → ℕ
last_of [] = 0
last_of (d ∷ ds) = length ds

-- the handlers of these rows begin at one of so many ops
abbrev pub BeginBefore : ℕ → List HandlerRow → Type 0
BeginBefore ops [] = Unit {0}
BeginBefore ops (r ∷ rs) = (r.entry < ops) × BeginBefore ops rs

-- a draft in which the first so many of the written routines stand, of so many routines in all
pub record Lays (p : Program) (ds : List Defined) (all count : ℕ) (d : Draft) : Type 0 where
  pub code : RoutinesAt (laid_in d) (last_of ds) 0 (routines_meant p (take count ds) 0 0 0) (take count d.routines) 0 (length d.ops)
  pub rows : length d.rows ≡ routines_rows (routines_meant p (take count ds) 0 0 0)
  pub few : length d.rows ≤ length d.ops
  pub begin : BeginBefore (length d.ops) d.rows
  pub room : length d.ops ≤ written_room p (take count ds)
  pub outside : d.marks ≡ []
  pub table : length d.routines ≡ all

-- one in which all written ones stand, and the first so many of those that nobody wrote
pub record LaysAll (p : Program) (ds : List Defined) (us : List Unwritten) (all count : ℕ) (d : Draft) : Type 0 where
  pub code : RoutinesAt (laid_in d) (last_of ds) 0 (routines_meant p ds 0 0 0 ++ all_unwritten p (take count us)) (take (length ds + count) d.routines) 0 (length d.ops)
  pub rows : length d.rows ≡ routines_rows (routines_meant p ds 0 0 0 ++ all_unwritten p (take count us))
  pub few : length d.rows ≤ length d.ops
  pub begin : BeginBefore (length d.ops) d.rows
  pub room : length d.ops ≤ written_room p ds + unwritten_rooms p (take count us)
  pub outside : d.marks ≡ []
  pub table : length d.routines ≡ all
