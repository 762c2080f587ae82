use Rattle.std.proofs.Common.{refl}
use Rattle.uc_tree.specs.Tokens.{tokens_from, found_at, text_ending, comment_length}
use Rattle.uc_grammar.specs.Grammar.{expr_form, program_form}
use Rattle.uc_grammar.specs.Samples.{placed, plain, a_stmt}
use Rattle.uc_grammar.proofs.Read.{read, reader, read_run}
use Rattle.uc_grammar.proofs.Computed.{other_expr, other_stmt, other_program, flat, nests, deep_at}
use Rattle.uc_grammar.proofs.samples.samples_of_nesting.Goals as goal

pub returns-clause-operators : goal.returns-clause-operators
unfolding read reader read_run plain placed tokens_from found_at text_ending comment_length
returns-clause-operators c = flat other_expr expr_form _ refl

pub returns-clause-assignment : goal.returns-clause-assignment
unfolding read reader read_run plain placed tokens_from found_at text_ending comment_length
returns-clause-assignment c = flat other_expr expr_form _ refl

pub returns-clause-no_argument : goal.returns-clause-no_argument
unfolding read reader read_run plain placed tokens_from found_at text_ending comment_length
returns-clause-no_argument c = flat other_expr expr_form _ refl

pub returns-clause-parenthesis : goal.returns-clause-parenthesis
unfolding read reader read_run plain placed tokens_from found_at text_ending comment_length
returns-clause-parenthesis c = nests other_expr expr_form _ 0 1 refl refl

pub returns-clause-parentheses : goal.returns-clause-parentheses
unfolding read reader read_run plain placed tokens_from found_at text_ending comment_length
returns-clause-parentheses c = nests other_expr expr_form _ 1 2 refl refl

pub returns-clause-unary : goal.returns-clause-unary
unfolding read reader read_run plain placed tokens_from found_at text_ending comment_length
returns-clause-unary c = nests other_expr expr_form _ 0 1 refl refl

pub returns-clause-index : goal.returns-clause-index
unfolding read reader read_run plain placed tokens_from found_at text_ending comment_length
returns-clause-index c = nests other_expr expr_form _ 0 2 refl refl

pub returns-clause-argument : goal.returns-clause-argument
unfolding read reader read_run plain placed tokens_from found_at text_ending comment_length
returns-clause-argument c = nests other_expr expr_form _ 0 2 refl refl

pub returns-clause-second_assignment : goal.returns-clause-second_assignment
unfolding read reader read_run plain placed tokens_from found_at text_ending comment_length
returns-clause-second_assignment c = nests other_expr expr_form _ 0 4 refl refl

pub returns-clause-third_assignment : goal.returns-clause-third_assignment
unfolding read reader read_run plain placed tokens_from found_at text_ending comment_length
returns-clause-third_assignment c = nests other_expr expr_form _ 1 6 refl refl

pub returns-clause-statement : goal.returns-clause-statement
unfolding read reader read_run plain placed tokens_from found_at text_ending comment_length
returns-clause-statement c = nests other_stmt a_stmt _ 0 0 refl refl

pub returns-clause-empty_block : goal.returns-clause-empty_block
unfolding read reader read_run plain placed tokens_from found_at text_ending comment_length
returns-clause-empty_block c = nests other_stmt a_stmt _ 0 0 refl refl

pub returns-clause-block : goal.returns-clause-block
unfolding read reader read_run plain placed tokens_from found_at text_ending comment_length
returns-clause-block c = nests other_stmt a_stmt _ 2 1 refl refl

pub returns-clause-choice : goal.returns-clause-choice
unfolding read reader read_run plain placed tokens_from found_at text_ending comment_length
returns-clause-choice c = nests other_stmt a_stmt _ 1 4 refl refl

pub returns-clause-condition : goal.returns-clause-condition
unfolding read reader read_run plain placed tokens_from found_at text_ending comment_length
returns-clause-condition c = nests other_stmt a_stmt _ 1 3 refl refl

pub returns-clause-chosen_last : goal.returns-clause-chosen_last
unfolding read reader read_run plain placed tokens_from found_at text_ending comment_length
returns-clause-chosen_last c = nests other_stmt a_stmt _ 2 10 refl refl

pub returns-clause-counted : goal.returns-clause-counted
unfolding read reader read_run plain placed tokens_from found_at text_ending comment_length
returns-clause-counted c = nests other_stmt a_stmt _ 1 6 refl refl

pub returns-clause-guarded : goal.returns-clause-guarded
unfolding read reader read_run plain placed tokens_from found_at text_ending comment_length
returns-clause-guarded c = nests other_stmt a_stmt _ 2 2 refl refl

pub returns-clause-handler : goal.returns-clause-handler
unfolding read reader read_run plain placed tokens_from found_at text_ending comment_length
returns-clause-handler c = nests other_stmt a_stmt _ 2 8 refl refl

pub returns-clause-enabled : goal.returns-clause-enabled
unfolding read reader read_run plain placed tokens_from found_at text_ending comment_length
returns-clause-enabled c = nests other_stmt a_stmt _ 1 1 refl refl

pub returns-clause-clause : goal.returns-clause-clause
unfolding read reader read_run plain placed tokens_from found_at text_ending comment_length
returns-clause-clause c = nests other_stmt a_stmt _ 1 4 refl refl

pub returns-clause-guard : goal.returns-clause-guard
unfolding read reader read_run plain placed tokens_from found_at text_ending comment_length
returns-clause-guard c = nests other_stmt a_stmt _ 1 3 refl refl

pub returns-clause-length : goal.returns-clause-length
unfolding read reader read_run plain placed tokens_from found_at text_ending comment_length
returns-clause-length c = nests other_stmt a_stmt _ 1 3 refl refl

pub returns-clause-started : goal.returns-clause-started
unfolding read reader read_run plain placed tokens_from found_at text_ending comment_length
returns-clause-started c = nests other_stmt a_stmt _ 1 3 refl refl

pub returns-clause-started_in_braces : goal.returns-clause-started_in_braces
unfolding read reader read_run plain placed tokens_from found_at text_ending comment_length
returns-clause-started_in_braces c = nests other_stmt a_stmt _ 1 3 refl refl

pub returns-clause-raised : goal.returns-clause-raised
unfolding read reader read_run plain placed tokens_from found_at text_ending comment_length
returns-clause-raised c = nests other_stmt a_stmt _ 1 3 refl refl

pub returns-clause-printed : goal.returns-clause-printed
unfolding read reader read_run plain placed tokens_from found_at text_ending comment_length
returns-clause-printed c = nests other_stmt a_stmt _ 1 3 refl refl

pub returns-clause-routine : goal.returns-clause-routine
unfolding read reader read_run plain placed tokens_from found_at text_ending comment_length
returns-clause-routine c = flat other_program program_form _ refl

pub returns-clause-body : goal.returns-clause-body
unfolding read reader read_run plain placed tokens_from found_at text_ending comment_length
returns-clause-body c = nests other_program program_form _ 1 5 refl refl

pub returns-clause-part : goal.returns-clause-part
unfolding read reader read_run plain placed tokens_from found_at text_ending comment_length
returns-clause-part c = nests other_program program_form _ 0 3 refl refl

pub returns-clause-field_length : goal.returns-clause-field_length
unfolding read reader read_run plain placed tokens_from found_at text_ending comment_length
returns-clause-field_length c = nests other_program program_form _ 1 6 refl refl

pub returns-clause-initialiser : goal.returns-clause-initialiser
unfolding read reader read_run plain placed tokens_from found_at text_ending comment_length
returns-clause-initialiser c = nests other_program program_form _ 1 9 refl refl

pub returns-clause-member_body : goal.returns-clause-member_body
unfolding read reader read_run plain placed tokens_from found_at text_ending comment_length
returns-clause-member_body c = nests other_program program_form _ 2 8 refl refl

pub returns-clause-deepest : goal.returns-clause-deepest
unfolding read reader read_run plain placed tokens_from found_at text_ending comment_length
returns-clause-deepest c = nests other_program program_form _ 255 263 refl refl

pub returns-clause-too_deep : goal.returns-clause-too_deep
unfolding read reader read_run plain placed tokens_from found_at text_ending comment_length
returns-clause-too_deep c = deep_at program_form _ 264 refl
