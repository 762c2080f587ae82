use Rattle.std.proofs.Common.{refl}
use Rattle.uc_tree.specs.Tokens.{tokens_from, found_at, text_ending, comment_length}
use Rattle.uc_grammar.specs.Samples.{placed, plain, a_stmt}
use Rattle.uc_grammar.proofs.Read.{read, reader, read_run}
use Rattle.uc_grammar.proofs.Computed.{other_stmt}
use Rattle.uc_nesting.specs.Nesting.{nesting}
use Rattle.uc_nesting.specs.Laws.{stmt_levels}
use Rattle.uc_nesting.proofs.Computed.{nests}
use Rattle.uc_nesting.proofs.samples.samples_of_statements.Goals as goal

pub returns-clause-empty : goal.returns-clause-empty
unfolding read reader read_run plain placed tokens_from found_at text_ending comment_length nesting
returns-clause-empty c = nests other_stmt a_stmt stmt_levels _ 1 refl refl

pub returns-clause-empty_block : goal.returns-clause-empty_block
unfolding read reader read_run plain placed tokens_from found_at text_ending comment_length nesting
returns-clause-empty_block c = nests other_stmt a_stmt stmt_levels _ 1 refl refl

pub returns-clause-block : goal.returns-clause-block
unfolding read reader read_run plain placed tokens_from found_at text_ending comment_length nesting
returns-clause-block c = nests other_stmt a_stmt stmt_levels _ 3 refl refl

pub returns-clause-block_in_block : goal.returns-clause-block_in_block
unfolding read reader read_run plain placed tokens_from found_at text_ending comment_length nesting
returns-clause-block_in_block c = nests other_stmt a_stmt stmt_levels _ 5 refl refl

pub returns-clause-choice : goal.returns-clause-choice
unfolding read reader read_run plain placed tokens_from found_at text_ending comment_length nesting
returns-clause-choice c = nests other_stmt a_stmt stmt_levels _ 2 refl refl

pub returns-clause-condition : goal.returns-clause-condition
unfolding read reader read_run plain placed tokens_from found_at text_ending comment_length nesting
returns-clause-condition c = nests other_stmt a_stmt stmt_levels _ 3 refl refl

pub returns-clause-chosen_last : goal.returns-clause-chosen_last
unfolding read reader read_run plain placed tokens_from found_at text_ending comment_length nesting
returns-clause-chosen_last c = nests other_stmt a_stmt stmt_levels _ 3 refl refl

pub returns-clause-turn : goal.returns-clause-turn
unfolding read reader read_run plain placed tokens_from found_at text_ending comment_length nesting
returns-clause-turn c = nests other_stmt a_stmt stmt_levels _ 2 refl refl

pub returns-clause-loop_body : goal.returns-clause-loop_body
unfolding read reader read_run plain placed tokens_from found_at text_ending comment_length nesting
returns-clause-loop_body c = nests other_stmt a_stmt stmt_levels _ 4 refl refl

pub returns-clause-counted : goal.returns-clause-counted
unfolding read reader read_run plain placed tokens_from found_at text_ending comment_length nesting
returns-clause-counted c = nests other_stmt a_stmt stmt_levels _ 2 refl refl

pub returns-clause-counted_step : goal.returns-clause-counted_step
unfolding read reader read_run plain placed tokens_from found_at text_ending comment_length nesting
returns-clause-counted_step c = nests other_stmt a_stmt stmt_levels _ 3 refl refl

pub returns-clause-counted_test : goal.returns-clause-counted_test
unfolding read reader read_run plain placed tokens_from found_at text_ending comment_length nesting
returns-clause-counted_test c = nests other_stmt a_stmt stmt_levels _ 3 refl refl

pub returns-clause-value : goal.returns-clause-value
unfolding read reader read_run plain placed tokens_from found_at text_ending comment_length nesting
returns-clause-value c = nests other_stmt a_stmt stmt_levels _ 2 refl refl

pub returns-clause-guarded : goal.returns-clause-guarded
unfolding read reader read_run plain placed tokens_from found_at text_ending comment_length nesting
returns-clause-guarded c = nests other_stmt a_stmt stmt_levels _ 3 refl refl

pub returns-clause-handler : goal.returns-clause-handler
unfolding read reader read_run plain placed tokens_from found_at text_ending comment_length nesting
returns-clause-handler c = nests other_stmt a_stmt stmt_levels _ 4 refl refl

pub returns-clause-raised : goal.returns-clause-raised
unfolding read reader read_run plain placed tokens_from found_at text_ending comment_length nesting
returns-clause-raised c = nests other_stmt a_stmt stmt_levels _ 3 refl refl

pub returns-clause-raised_again : goal.returns-clause-raised_again
unfolding read reader read_run plain placed tokens_from found_at text_ending comment_length nesting
returns-clause-raised_again c = nests other_stmt a_stmt stmt_levels _ 1 refl refl

pub returns-clause-raised_at : goal.returns-clause-raised_at
unfolding read reader read_run plain placed tokens_from found_at text_ending comment_length nesting
returns-clause-raised_at c = nests other_stmt a_stmt stmt_levels _ 3 refl refl

pub returns-clause-enabled : goal.returns-clause-enabled
unfolding read reader read_run plain placed tokens_from found_at text_ending comment_length nesting
returns-clause-enabled c = nests other_stmt a_stmt stmt_levels _ 2 refl refl

pub returns-clause-disabled : goal.returns-clause-disabled
unfolding read reader read_run plain placed tokens_from found_at text_ending comment_length nesting
returns-clause-disabled c = nests other_stmt a_stmt stmt_levels _ 4 refl refl

pub returns-clause-clause : goal.returns-clause-clause
unfolding read reader read_run plain placed tokens_from found_at text_ending comment_length nesting
returns-clause-clause c = nests other_stmt a_stmt stmt_levels _ 3 refl refl

pub returns-clause-clauses : goal.returns-clause-clauses
unfolding read reader read_run plain placed tokens_from found_at text_ending comment_length nesting
returns-clause-clauses c = nests other_stmt a_stmt stmt_levels _ 3 refl refl

pub returns-clause-guard : goal.returns-clause-guard
unfolding read reader read_run plain placed tokens_from found_at text_ending comment_length nesting
returns-clause-guard c = nests other_stmt a_stmt stmt_levels _ 3 refl refl

pub returns-clause-otherwise : goal.returns-clause-otherwise
unfolding read reader read_run plain placed tokens_from found_at text_ending comment_length nesting
returns-clause-otherwise c = nests other_stmt a_stmt stmt_levels _ 4 refl refl

pub returns-clause-printed : goal.returns-clause-printed
unfolding read reader read_run plain placed tokens_from found_at text_ending comment_length nesting
returns-clause-printed c = nests other_stmt a_stmt stmt_levels _ 2 refl refl

pub returns-clause-read : goal.returns-clause-read
unfolding read reader read_run plain placed tokens_from found_at text_ending comment_length nesting
returns-clause-read c = nests other_stmt a_stmt stmt_levels _ 2 refl refl

pub returns-clause-read_part_of_sum : goal.returns-clause-read_part_of_sum
unfolding read reader read_run plain placed tokens_from found_at text_ending comment_length nesting
returns-clause-read_part_of_sum c = nests other_stmt a_stmt stmt_levels _ 2 refl refl

pub returns-clause-migrated : goal.returns-clause-migrated
unfolding read reader read_run plain placed tokens_from found_at text_ending comment_length nesting
returns-clause-migrated c = nests other_stmt a_stmt stmt_levels _ 2 refl refl

pub returns-clause-variables : goal.returns-clause-variables
unfolding read reader read_run plain placed tokens_from found_at text_ending comment_length nesting
returns-clause-variables c = nests other_stmt a_stmt stmt_levels _ 3 refl refl

pub returns-clause-started : goal.returns-clause-started
unfolding read reader read_run plain placed tokens_from found_at text_ending comment_length nesting
returns-clause-started c = nests other_stmt a_stmt stmt_levels _ 2 refl refl

pub returns-clause-started_in_parentheses : goal.returns-clause-started_in_parentheses
unfolding read reader read_run plain placed tokens_from found_at text_ending comment_length nesting
returns-clause-started_in_parentheses c = nests other_stmt a_stmt stmt_levels _ 3 refl refl

pub returns-clause-started_in_braces : goal.returns-clause-started_in_braces
unfolding read reader read_run plain placed tokens_from found_at text_ending comment_length nesting
returns-clause-started_in_braces c = nests other_stmt a_stmt stmt_levels _ 2 refl refl

pub returns-clause-resumed : goal.returns-clause-resumed
unfolding read reader read_run plain placed tokens_from found_at text_ending comment_length nesting
returns-clause-resumed c = nests other_stmt a_stmt stmt_levels _ 1 refl refl
