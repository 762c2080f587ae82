use Rattle.std.proofs.Common.{refl}
use Rattle.uc_tree.specs.Tokens.{tokens_from, found_at, text_ending, comment_length}
use Rattle.uc_grammar.specs.Grammar.{expr_form}
use Rattle.uc_grammar.specs.Samples.{placed, plain}
use Rattle.uc_grammar.proofs.Read.{read, reader, read_run}
use Rattle.uc_grammar.proofs.Computed.{other_expr}
use Rattle.uc_nesting.specs.ExpressionNesting.{expr_nesting}
use Rattle.uc_nesting.specs.Nesting.{nesting}
use Rattle.uc_nesting.proofs.Computed.{nests}
use Rattle.uc_nesting.proofs.samples.samples_of_expressions.Goals as goal

pub returns-clause-chain : goal.returns-clause-chain
unfolding read reader read_run plain placed tokens_from found_at text_ending comment_length nesting
returns-clause-chain c = nests other_expr expr_form expr_nesting _ 0 refl refl

pub returns-clause-sum_in_product : goal.returns-clause-sum_in_product
unfolding read reader read_run plain placed tokens_from found_at text_ending comment_length nesting
returns-clause-sum_in_product c = nests other_expr expr_form expr_nesting _ 1 refl refl

pub returns-clause-right_difference : goal.returns-clause-right_difference
unfolding read reader read_run plain placed tokens_from found_at text_ending comment_length nesting
returns-clause-right_difference c = nests other_expr expr_form expr_nesting _ 1 refl refl

pub returns-clause-comparison_in_sum : goal.returns-clause-comparison_in_sum
unfolding read reader read_run plain placed tokens_from found_at text_ending comment_length nesting
returns-clause-comparison_in_sum c = nests other_expr expr_form expr_nesting _ 1 refl refl

pub returns-clause-equality_in_comparison : goal.returns-clause-equality_in_comparison
unfolding read reader read_run plain placed tokens_from found_at text_ending comment_length nesting
returns-clause-equality_in_comparison c = nests other_expr expr_form expr_nesting _ 1 refl refl

pub returns-clause-conjunction_in_equality : goal.returns-clause-conjunction_in_equality
unfolding read reader read_run plain placed tokens_from found_at text_ending comment_length nesting
returns-clause-conjunction_in_equality c = nests other_expr expr_form expr_nesting _ 1 refl refl

pub returns-clause-disjunction_in_conjunction : goal.returns-clause-disjunction_in_conjunction
unfolding read reader read_run plain placed tokens_from found_at text_ending comment_length nesting
returns-clause-disjunction_in_conjunction c = nests other_expr expr_form expr_nesting _ 1 refl refl

pub returns-clause-each_level : goal.returns-clause-each_level
unfolding read reader read_run plain placed tokens_from found_at text_ending comment_length nesting
returns-clause-each_level c = nests other_expr expr_form expr_nesting _ 1 refl refl

pub returns-clause-assigned_operand : goal.returns-clause-assigned_operand
unfolding read reader read_run plain placed tokens_from found_at text_ending comment_length nesting
returns-clause-assigned_operand c = nests other_expr expr_form expr_nesting _ 1 refl refl

pub returns-clause-unary : goal.returns-clause-unary
unfolding read reader read_run plain placed tokens_from found_at text_ending comment_length nesting
returns-clause-unary c = nests other_expr expr_form expr_nesting _ 1 refl refl

pub returns-clause-two_unary : goal.returns-clause-two_unary
unfolding read reader read_run plain placed tokens_from found_at text_ending comment_length nesting
returns-clause-two_unary c = nests other_expr expr_form expr_nesting _ 2 refl refl

pub returns-clause-unary_sum : goal.returns-clause-unary_sum
unfolding read reader read_run plain placed tokens_from found_at text_ending comment_length nesting
returns-clause-unary_sum c = nests other_expr expr_form expr_nesting _ 2 refl refl

pub returns-clause-unary_factor : goal.returns-clause-unary_factor
unfolding read reader read_run plain placed tokens_from found_at text_ending comment_length nesting
returns-clause-unary_factor c = nests other_expr expr_form expr_nesting _ 1 refl refl

pub returns-clause-negation : goal.returns-clause-negation
unfolding read reader read_run plain placed tokens_from found_at text_ending comment_length nesting
returns-clause-negation c = nests other_expr expr_form expr_nesting _ 2 refl refl

pub returns-clause-called_unary : goal.returns-clause-called_unary
unfolding read reader read_run plain placed tokens_from found_at text_ending comment_length nesting
returns-clause-called_unary c = nests other_expr expr_form expr_nesting _ 2 refl refl

pub returns-clause-part_of_sum : goal.returns-clause-part_of_sum
unfolding read reader read_run plain placed tokens_from found_at text_ending comment_length nesting
returns-clause-part_of_sum c = nests other_expr expr_form expr_nesting _ 1 refl refl

pub returns-clause-part_of_part : goal.returns-clause-part_of_part
unfolding read reader read_run plain placed tokens_from found_at text_ending comment_length nesting
returns-clause-part_of_part c = nests other_expr expr_form expr_nesting _ 1 refl refl

pub returns-clause-index : goal.returns-clause-index
unfolding read reader read_run plain placed tokens_from found_at text_ending comment_length nesting
returns-clause-index c = nests other_expr expr_form expr_nesting _ 1 refl refl

pub returns-clause-index_in_index : goal.returns-clause-index_in_index
unfolding read reader read_run plain placed tokens_from found_at text_ending comment_length nesting
returns-clause-index_in_index c = nests other_expr expr_form expr_nesting _ 2 refl refl

pub returns-clause-no_argument : goal.returns-clause-no_argument
unfolding read reader read_run plain placed tokens_from found_at text_ending comment_length nesting
returns-clause-no_argument c = nests other_expr expr_form expr_nesting _ 0 refl refl

pub returns-clause-arguments : goal.returns-clause-arguments
unfolding read reader read_run plain placed tokens_from found_at text_ending comment_length nesting
returns-clause-arguments c = nests other_expr expr_form expr_nesting _ 2 refl refl

pub returns-clause-parts : goal.returns-clause-parts
unfolding read reader read_run plain placed tokens_from found_at text_ending comment_length nesting
returns-clause-parts c = nests other_expr expr_form expr_nesting _ 1 refl refl

pub returns-clause-assignment : goal.returns-clause-assignment
unfolding read reader read_run plain placed tokens_from found_at text_ending comment_length nesting
returns-clause-assignment c = nests other_expr expr_form expr_nesting _ 0 refl refl

pub returns-clause-second_assignment : goal.returns-clause-second_assignment
unfolding read reader read_run plain placed tokens_from found_at text_ending comment_length nesting
returns-clause-second_assignment c = nests other_expr expr_form expr_nesting _ 1 refl refl

pub returns-clause-third_assignment : goal.returns-clause-third_assignment
unfolding read reader read_run plain placed tokens_from found_at text_ending comment_length nesting
returns-clause-third_assignment c = nests other_expr expr_form expr_nesting _ 2 refl refl

pub returns-clause-unary_on_the_right : goal.returns-clause-unary_on_the_right
unfolding read reader read_run plain placed tokens_from found_at text_ending comment_length nesting
returns-clause-unary_on_the_right c = nests other_expr expr_form expr_nesting _ 2 refl refl

pub returns-clause-assignment_in_chain : goal.returns-clause-assignment_in_chain
unfolding read reader read_run plain placed tokens_from found_at text_ending comment_length nesting
returns-clause-assignment_in_chain c = nests other_expr expr_form expr_nesting _ 1 refl refl

pub returns-clause-assigned_place : goal.returns-clause-assigned_place
unfolding read reader read_run plain placed tokens_from found_at text_ending comment_length nesting
returns-clause-assigned_place c = nests other_expr expr_form expr_nesting _ 1 refl refl
