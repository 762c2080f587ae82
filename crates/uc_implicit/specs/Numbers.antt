-- The numbers of classes, by the names of those that are no events.
use Rattle.std.specs.Prelude.{ℕ, List, [], ◌∷◌, unwrap_or, option_and_then, if◌then◌else◌}
use Rattle.uc_tree.specs.declared.limits.TheConstants.{LAST_CLASS}
use Rattle.uc_tree.specs.Programs.{Class}
use Rattle.uc_tree.specs.Numbering.{at_most, is_event, place_from}

-- the classes that are no events
abbrev pub objects_of : List Class → List Class
objects_of [] = []
objects_of (c ∷ cs) = if is_event c.kind then objects_of cs else c ∷ objects_of cs

-- the number of a name among these
abbrev pub number_by : List (List ℕ) → List ℕ → ℕ
number_by names name = unwrap_or (option_and_then (at_most LAST_CLASS) (place_from 1 names name)) 0
