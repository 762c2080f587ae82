-- How deep the parts of an expression stand: how many parentheses, operators of one operand, index brackets, argument
-- lists and assignments on the right of others are around a token of any text of it, at the least. Parentheses leave no
-- node; counted are those without which the tree would be another one.
use Rattle.std.specs.Prelude.{ℕ, ◌+◌, max, Bool, true, false, nat_le, if◌then◌else◌}
use Rattle.uc_tree.specs.declared.ops.BinaryOp.{BinaryOp}
use Rattle.uc_tree.specs.declared.ops.BinaryOp.TheVariants as binary
use Rattle.uc_tree.specs.Expressions.{Expr, Number, Character, Truth, Name, Cin, Postfix, Unary, Chain, Assign, Exprs, NoExprs, MoreExprs, Part, Field, Index, Call, Step, Parts, NoParts, MoreParts, Link, Linked, Links, NoLinks, MoreLinks}

-- The looseness of expressions: what is looser than a place allows stands there in parentheses.

abbrev pub primary : ℕ
primary = 0

abbrev pub postfix : ℕ
postfix = 1

abbrev pub unary : ℕ
unary = 2

abbrev pub product : ℕ
product = 3

abbrev pub sum : ℕ
sum = 4

abbrev pub comparison : ℕ
comparison = 5

abbrev pub equality : ℕ
equality = 6

abbrev pub conjunction : ℕ
conjunction = 7

abbrev pub disjunction : ℕ
disjunction = 8

abbrev pub assignment : ℕ
assignment = 9

-- what an operator takes on its sides
abbrev pub operand_looseness : BinaryOp → ℕ
operand_looseness binary.Mul = unary
operand_looseness binary.Div = unary
operand_looseness binary.Rem = unary
operand_looseness binary.Add = product
operand_looseness binary.Sub = product
operand_looseness binary.Less = sum
operand_looseness binary.LessEqual = sum
operand_looseness binary.Greater = sum
operand_looseness binary.GreaterEqual = sum
operand_looseness binary.Equal = comparison
operand_looseness binary.NotEqual = comparison
operand_looseness binary.And = equality
operand_looseness binary.Or = conjunction

-- what the loosest operator of a chain takes on its sides: in a chain that is parsed all are of one level
abbrev pub sides_looseness : Links → ℕ
sides_looseness NoLinks = primary
sides_looseness (MoreLinks (Linked sign op right) rest) = max (operand_looseness op) (sides_looseness rest)

abbrev pub looseness : Expr → ℕ
looseness (Number pos value) = primary
looseness (Character pos byte) = primary
looseness (Truth pos value) = primary
looseness (Name pos name) = primary
looseness (Cin pos) = primary
looseness (Postfix pos root parts) = postfix
looseness (Unary pos op operand) = unary
looseness (Chain pos first rest) = sides_looseness rest + 1
looseness (Assign pos sign op place value) = assignment

-- n levels, and one more where a place that allows no more than `allowed` has something looser
abbrev pub enclosed : (allowed own n : ℕ) → ℕ
enclosed allowed own n = if nat_le own allowed then n else n + 1

-- one level more for an assignment on the right of another one
abbrev pub further_right : Bool → ℕ → ℕ
further_right false n = n
further_right true n = n + 1

abbrev mutual
  -- with nothing in parentheses round it, on the right of an assignment or elsewhere
  pub levels_in : Expr → Bool → ℕ
  levels_in (Number pos value) right = 0
  levels_in (Character pos byte) right = 0
  levels_in (Truth pos value) right = 0
  levels_in (Name pos name) right = 0
  levels_in (Cin pos) right = 0
  levels_in (Postfix pos root parts) right = max (enclosed primary (looseness root) (levels_in root false)) (parts_nesting parts)
  levels_in (Unary pos op operand) right = enclosed unary (looseness operand) (levels_in operand false) + 1
  levels_in (Chain pos first rest) right = max (enclosed (sides_looseness rest) (looseness first) (levels_in first false)) (links_nesting rest)
  levels_in (Assign pos sign op place value) right = max (enclosed unary (looseness place) (levels_in place false)) (further_right right (levels_in value true))

  -- arguments, each one level deeper
  pub args_nesting : Exprs → ℕ
  args_nesting NoExprs = 0
  args_nesting (MoreExprs first rest) = max (levels_in first false + 1) (args_nesting rest)

  pub part_nesting : Part → ℕ
  part_nesting (Field sign name) = 0
  part_nesting (Index sign index) = levels_in index false + 1
  part_nesting (Call sign args) = args_nesting args
  part_nesting (Step sign op) = 0

  pub parts_nesting : Parts → ℕ
  parts_nesting NoParts = 0
  parts_nesting (MoreParts first rest) = max (part_nesting first) (parts_nesting rest)

  pub link_nesting : Link → ℕ
  link_nesting (Linked sign op right) = enclosed (operand_looseness op) (looseness right) (levels_in right false)

  pub links_nesting : Links → ℕ
  links_nesting NoLinks = 0
  links_nesting (MoreLinks first rest) = max (link_nesting first) (links_nesting rest)

-- an expression at a place that allows only what is not looser
abbrev pub nesting_at : ℕ → Expr → ℕ
nesting_at allowed e = enclosed allowed (looseness e) (levels_in e false)

-- an expression where any may stand
abbrev pub expr_nesting : Expr → ℕ
expr_nesting e = levels_in e false

-- an expression on the right of an assignment
abbrev pub right_nesting : Expr → ℕ
right_nesting e = levels_in e true
