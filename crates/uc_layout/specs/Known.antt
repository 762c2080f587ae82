-- The values of constants by name, outside of classes and in them.
use Rattle.std.specs.Prelude.{ℕ, ℤ, List, Option, None, is_some, if◌then◌else◌, map}
use Rattle.uc_names.specs.Blocks.{found}
use Rattle.uc_layout.specs.Values.{value_at, seen_at}
use Rattle.uc_layout.specs.declared.places.ConstantValues.{ConstantValues}
use Rattle.uc_layout.specs.declared.known.HiddenByList.{HiddenByList}
use Rattle.uc_layout.specs.declared.known.HiddenByTable.{HiddenByTable}

abbrev pub known_by : ConstantValues → List ℕ → Option ℤ
known_by k = value_at (map (λ c. c.now) k.constants.now) k.values.now

abbrev pub shown_by : HiddenByList → List ℕ → Option ℤ
shown_by s = seen_at (map (λ c. c.now) s.known.constants.now) s.known.values.now s.members.now

abbrev pub inside_by : HiddenByTable → List ℕ → Option ℤ
inside_by i name = if is_some (found i.members.now name) then None else known_by i.known name
