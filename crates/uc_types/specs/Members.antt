-- What is looked up of the members of a class.
use Rattle.std.specs.Prelude.{ℕ, List, take}
use Rattle.uc_tree.specs.declared.limits.TheConstants.{MEMBERS}
use Rattle.uc_tree.specs.declared.kinds.Param.{Param}
use Rattle.uc_tree.specs.Numbering.{mutex_members}
use Rattle.uc_tree.specs.Programs.{Class}
use Rattle.uc_rules.specs.Names.{constructor_among, params_in}

-- what an object of a class is built with
abbrev pub built_with : Class → List Param
built_with c = params_in (constructor_among c.members)

-- the names of its mutex members, as far as they have numbers
abbrev pub numbered_in : Class → List (List ℕ)
numbered_in c = take MEMBERS (mutex_members c)
