-- The number of an event, by the classes of its program.
use Rattle.std.specs.Prelude.{ℕ, List, Option, Some, option_and_then, if◌then◌else◌}
use Rattle.uc_tree.specs.declared.limits.TheConstants.{UNHANDLED, FAILURE, FIRST_EVENT, LAST_EVENT}
use Rattle.uc_tree.specs.Names.{same_name}
use Rattle.uc_tree.specs.Programs.{Class}
use Rattle.uc_tree.specs.Numbering.{unhandled_name, failure_name, at_most, place_from, event_names}

abbrev pub event_named : List Class → List ℕ → Option ℕ
event_named cs name =
    if same_name unhandled_name name then Some UNHANDLED
    else if same_name failure_name name then Some FAILURE
    else option_and_then (at_most LAST_EVENT) (place_from FIRST_EVENT (event_names cs) name)
