-- The pieces that may stand one level deeper than what they stand in, and parts of pieces that no tree has.
use Rattle.std.specs.Prelude.{List}
use Rattle.uc_tree.specs.declared.pos.Pos.{Pos}
use Rattle.uc_tree.specs.declared.kinds.Base.{Base}
use Rattle.uc_tree.specs.declared.kinds.Access.{Access}
use Rattle.uc_tree.specs.declared.kinds.MutexMark.{MutexMark}
use Rattle.uc_tree.specs.Expressions.{Expr}
use Rattle.uc_tree.specs.Statements.{Stmt, Declarator}
use Rattle.uc_tree.specs.Programs.{MemberForm}

-- a declaration or an expression, without its `;`
pub data Simple : Type 0 where
  Declares : (pos : Pos) (base : Base) (declarators : List Declarator) → Simple
  Evaluates : (pos : Pos) (value : Expr) → Simple

-- what stands between the braces of a class
pub data ClassPart : Type 0 where
  AccessPart : (access : Access) → ClassPart
  MemberPart : (pos : Pos) (mark : MutexMark) (form : MemberForm) → ClassPart

pub data Name : Type 0 → Type 1 where
  -- what a parenthesis, an index bracket or an argument list encloses
  expr_name : Name Expr
  -- what stands behind an operator of one operand
  unary_name : Name Expr
  -- what stands behind the sign of an assignment that is on the right of another
  right_name : Name Expr
  stmt_name : Name Stmt
  -- a statement of a block: the block is one level, the statement another
  block_stmt_name : Name Stmt
  -- a part of a class
  part_name : Name ClassPart
