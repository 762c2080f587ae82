-- What is known of the pieces that stand one level deeper.
use Rattle.std.proofs.Common.{ℕ, ◌+◌, ◌≤◌}
use Rattle.uc_grammar.specs.Form.{inside}
use Rattle.uc_grammar.specs.Names.{ClassPart, AccessPart, MemberPart, expr_name, unary_name, right_name, stmt_name, block_stmt_name, part_name}
use Rattle.uc_nesting.specs.ExpressionNesting.{unary, expr_nesting, nesting_at, right_nesting}
use Rattle.uc_nesting.specs.StatementNesting.{stmt_nesting}
use Rattle.uc_nesting.specs.Nesting.{form_nesting}
use Rattle.uc_nesting.proofs.Sure.{Sure}

abbrev pub class_part_nesting : ClassPart → ℕ
class_part_nesting (AccessPart access) = 0
class_part_nesting (MemberPart pos mark form) = form_nesting form

pub record Levels (n : ℕ) : Type 0 where
  pub in_expr : Sure n (inside expr_name) (λ e. expr_nesting e + 1 ≤ n)
  pub in_unary : Sure n (inside unary_name) (λ e. nesting_at unary e + 1 ≤ n)
  pub in_right : Sure n (inside right_name) (λ e. right_nesting e + 1 ≤ n)
  pub in_stmt : Sure n (inside stmt_name) (λ s. stmt_nesting s + 1 ≤ n)
  pub in_block : Sure n (inside block_stmt_name) (λ s. stmt_nesting s + 2 ≤ n)
  pub in_class : Sure n (inside part_name) (λ p. class_part_nesting p + 1 ≤ n)
