use Rattle.std.proofs.Common.{refl}
use Rattle.uc_tree.specs.Tokens.{tokens_from, found_at, text_ending, comment_length}
use Rattle.uc_grammar.specs.Grammar.{expr_form, program_form}
use Rattle.uc_grammar.specs.Samples.{placed, plain}
use Rattle.uc_grammar.proofs.Read.{read, reader, read_run}
use Rattle.uc_grammar.proofs.Computed.{other_expr, other_program}
use Rattle.uc_nesting.specs.ExpressionNesting.{expr_nesting}
use Rattle.uc_nesting.specs.Nesting.{nesting}
use Rattle.uc_nesting.proofs.Computed.{measures}
use Rattle.uc_nesting.proofs.samples.samples_of_parentheses.Goals as goal

pub returns-clause-parenthesis : goal.returns-clause-parenthesis
unfolding read reader read_run plain placed tokens_from found_at text_ending comment_length nesting
returns-clause-parenthesis c = measures other_expr expr_form expr_nesting _ 0 refl refl

pub returns-clause-parentheses : goal.returns-clause-parentheses
unfolding read reader read_run plain placed tokens_from found_at text_ending comment_length nesting
returns-clause-parentheses c = measures other_expr expr_form expr_nesting _ 0 refl refl

pub returns-clause-product_in_sum : goal.returns-clause-product_in_sum
unfolding read reader read_run plain placed tokens_from found_at text_ending comment_length nesting
returns-clause-product_in_sum c = measures other_expr expr_form expr_nesting _ 0 refl refl

pub returns-clause-operand : goal.returns-clause-operand
unfolding read reader read_run plain placed tokens_from found_at text_ending comment_length nesting
returns-clause-operand c = measures other_expr expr_form expr_nesting _ 1 refl refl

pub returns-clause-access : goal.returns-clause-access
unfolding read reader read_run plain placed tokens_from found_at text_ending comment_length nesting
returns-clause-access c = measures other_program program_form nesting _ 0 refl refl

pub returns-clause-printed : goal.returns-clause-printed
unfolding read reader read_run plain placed tokens_from found_at text_ending comment_length nesting
returns-clause-printed c = measures other_program program_form nesting _ 2 refl refl
