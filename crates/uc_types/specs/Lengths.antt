-- The values of constants where members of a class hide them.
use Rattle.std.specs.Prelude.{ℕ, ℤ, List, Option, None, is_some, if◌then◌else◌}
use Rattle.uc_tree.specs.Constants.{constants_of, value_of_name}
use Rattle.uc_names.specs.Blocks.{found}
use Rattle.uc_types.specs.declared.listing.Lengths.{Lengths}

abbrev pub lengths_by : Lengths → List ℕ → Option ℤ
lengths_by l name = if is_some (found l.members.now name) then None else value_of_name (constants_of l.sizes.now.items) name
