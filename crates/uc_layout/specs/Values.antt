-- Tables of values: a value, or none, for each constant of a program by its place among them.
use Rattle.std.specs.Prelude.{ℕ, ℤ, ◌+◌, List, [], ◌∷◌, Option, None, if◌then◌else◌, get_or, map}
use Rattle.std.specs.List.{list_any}
use Rattle.uc_tree.specs.Names.{same_name}
use Rattle.uc_tree.specs.Programs.{Constant, Member}
use Rattle.uc_tree.specs.Cells.{member_form_named}
use Rattle.uc_layout.specs.declared.named.VisibleValues.{VisibleValues}

-- what a table gives for a name: the value of the first constant of that name; the first of the list has the place i
abbrev pub value_from : List Constant → ℕ → List (Option ℤ) → List ℕ → Option ℤ
value_from [] i vs name = None
value_from (c ∷ cs) i vs name = if same_name c.name name then get_or vs i None else value_from cs (i + 1) vs name

abbrev pub value_at : List Constant → List (Option ℤ) → List ℕ → Option ℤ
value_at cs vs = value_from cs 0 vs

-- the same among these members, which hide constants of their names
abbrev pub seen_at : List Constant → List (Option ℤ) → List Member → List ℕ → Option ℤ
seen_at cs vs ms name = if list_any (λ m. member_form_named name m.form) ms then None else value_at cs vs name

abbrev pub seen_by : VisibleValues → List ℕ → Option ℤ
seen_by n = seen_at (map (λ c. c.now) n.constants.now) n.values.now n.hidden.now
