-- The type of an expression, and its first break as a statement.
use Rattle.std.specs.Prelude.{◌≡◌, ℕ, List, true, false, Option, Some, None, Contains, if◌then◌else◌}
use Rattle.uc_tree.specs.declared.kinds.Base.{Base}
use Rattle.uc_tree.specs.declared.kinds.Base.TheVariants as base
use Rattle.uc_tree.specs.declared.kinds.Ty.{Ty}
use Rattle.uc_tree.specs.Expressions.{Expr}
use Rattle.uc_tree.specs.Programs.{Class, Program}
use Rattle.uc_rules.specs.declared.checked.RuleFault.{RuleFault}
use Rattle.uc_rules.specs.declared.checked.RuleFault.TheVariants.{Rule, NoMemory}
use Rattle.uc_rules.specs.declared.rule.Break.{Break}
use Rattle.uc_rules.specs.declared.rules.Sort.{Sort}
use Rattle.uc_rules.specs.declared.rules.Sort.TheVariants as sort
use Rattle.uc_rules.specs.declared.rules.Entity.{Entity}
use Rattle.uc_rules.specs.declared.rules.Entity.TheVariants as entity
use Rattle.uc_rules.specs.Breaks.{breaks_among}
use Rattle.uc_rules.specs.Entities.{entity_of}
use Rattle.uc_rules.specs.Firsts.{IsFirst, is_owner_number}
use Rattle.uc_rules.specs.RuleNames.{rule_number}
use Rattle.uc_rules.specs.Scopes.{Env}
use Rattle.uc_rules.specs.Sorts.{class_at}
use Rattle.uc_rules.specs.Visits.{statement_visits}

abbrev pub class_base : Option Class → Base
class_base None = base.Void
class_base (Some c) = base.Named c.name

abbrev pub sort_base : Program → Sort → Base
sort_base p sort.Void = base.Void
sort_base p sort.Int = base.Int
sort_base p sort.Char = base.Char
sort_base p sort.Bool = base.Bool
sort_base p sort.Condition = base.Condition
sort_base p sort.Cluster = base.Cluster
sort_base p sort.Processor = base.Processor
sort_base p (sort.Object class k) = class_base (class_at p class)

abbrev pub type_with : Base → Option ℕ → Ty
type_with b len = record { base = b; by_ref = false; len = len }

-- what stands for no value is `void`: the name of a class, a routine that is not called, an operation
abbrev pub entity_type : Program → Entity → Ty
entity_type p (entity.Value s) = type_with (sort_base p s) None
entity_type p (entity.Place s) = type_with (sort_base p s) None
entity_type p (entity.Array s n) = type_with (sort_base p s) (Some n)
entity_type p entity.Input = type_with base.Void None
entity_type p entity.Fail = type_with base.Void None
entity_type p (entity.Operation o) = type_with base.Void None
entity_type p entity.Main = type_with base.Void None
entity_type p (entity.Routine i) = type_with base.Void None
entity_type p (entity.Method i j inner by_path) = type_with base.Void None
entity_type p entity.ClassName = type_with base.Void None
entity_type p entity.Missing = type_with base.Void None

-- so is what has no type: a name whose declaration names no class
abbrev pub given_type : Program → Option Entity → Ty
given_type p None = type_with base.Void None
given_type p (Some e) = entity_type p e

abbrev pub expr_type : Env → Expr → Ty
expr_type env e = given_type env.program (entity_of env e)

-- the breaks of an expression that is a statement
abbrev pub statement_breaks : Env → Expr → List Break
statement_breaks env e = breaks_among (statement_visits env e)

-- none of them is of a rule on names, types and places
pub record AreOfOwners (bs : List Break) : Type 0 where
  pub each : (b : Break) → Contains bs b → is_owner_number (rule_number b.rule) ≡ true

-- the first of them, which is of such a rule
pub record IsTextBreak (bs : List Break) (b : Break) : Type 0 where
  pub first : IsFirst bs b
  pub text : is_owner_number (rule_number b.rule) ≡ false

abbrev pub IsTextFaultOf : List Break → RuleFault → Type 0
IsTextFaultOf bs (Rule rule place) = IsTextBreak bs (record { rule = rule; pos = place })
IsTextFaultOf bs NoMemory = Unit {0}

-- a break of such a rule
abbrev pub text_break : Option Break → Option Break
text_break None = None
text_break (Some b) = if is_owner_number (rule_number b.rule) then None else Some b
