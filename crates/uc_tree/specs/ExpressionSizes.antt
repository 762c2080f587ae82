-- How many expressions, operators of chains and parts an expression has.
use Rattle.std.specs.Prelude.{ℕ, ◌+◌}
use Rattle.uc_tree.specs.Expressions.{Expr, Number, Character, Truth, Name, Cin, Postfix, Unary, Chain, Assign, Exprs, NoExprs, MoreExprs, Part, Field, Index, Call, Step, Parts, NoParts, MoreParts, Link, Linked, Links, NoLinks, MoreLinks}

abbrev mutual
  pub expr_size : Expr → ℕ
  expr_size (Number pos value) = 1
  expr_size (Character pos byte) = 1
  expr_size (Truth pos value) = 1
  expr_size (Name pos name) = 1
  expr_size (Cin pos) = 1
  expr_size (Postfix pos root parts) = 1 + expr_size root + parts_size parts
  expr_size (Unary pos op operand) = 1 + expr_size operand
  expr_size (Chain pos first rest) = 1 + expr_size first + links_size rest
  expr_size (Assign pos sign op place value) = 1 + expr_size place + expr_size value

  pub exprs_size : Exprs → ℕ
  exprs_size NoExprs = 0
  exprs_size (MoreExprs first rest) = expr_size first + exprs_size rest

  pub part_size : Part → ℕ
  part_size (Field sign name) = 1
  part_size (Index sign index) = 1 + expr_size index
  part_size (Call sign args) = 1 + exprs_size args
  part_size (Step sign op) = 1

  pub parts_size : Parts → ℕ
  parts_size NoParts = 0
  parts_size (MoreParts first rest) = part_size first + parts_size rest

  pub link_size : Link → ℕ
  link_size (Linked sign op right) = 1 + expr_size right

  pub links_size : Links → ℕ
  links_size NoLinks = 0
  links_size (MoreLinks first rest) = link_size first + links_size rest
