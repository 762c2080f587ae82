-- How rules ask: a break where a test fails, and none where an expression breaks a rule itself.
use Rattle.std.specs.Prelude.{List, [], ◌∷◌, Bool, true, false, Option, Some, None}
use Rattle.uc_tree.specs.declared.pos.Pos.{Pos}
use Rattle.uc_rules.specs.declared.rule.Rule.{Rule}
use Rattle.uc_rules.specs.declared.rule.Break.{Break}
use Rattle.uc_rules.specs.declared.rules.Sort.{Sort}
use Rattle.uc_rules.specs.declared.rules.Entity.{Entity}

abbrev pub unless : Bool → Rule → Pos → List Break
unless true rule place = []
unless false rule place = (record { rule = rule; pos = place }) ∷ []

abbrev pub asked : Option Entity → (Entity → Bool) → Rule → Pos → List Break
asked None test rule place = []
asked (Some w) test rule place = unless (test w) rule place

abbrev pub asked_both : Option Entity → Option Entity → (Entity → Entity → Bool) → Rule → Pos → List Break
asked_both None v test rule place = []
asked_both (Some w) v test rule place = asked v (test w) rule place

-- the same of a sort, where it is known
abbrev pub of_sort : Option Sort → (Sort → Bool) → Rule → Pos → List Break
of_sort None test rule place = []
of_sort (Some s) test rule place = unless (test s) rule place
