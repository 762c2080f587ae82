use Rattle.std.proofs.Common.{refl}
use Rattle.uc_tree.specs.Tokens.{tokens_from, found_at, text_ending, comment_length}
use Rattle.uc_grammar.specs.Samples.{placed, plain, a_stmt}
use Rattle.uc_grammar.proofs.Read.{read, reader, read_run}
use Rattle.uc_grammar.proofs.Computed.{other_stmt, accepts, stops_at}
use Rattle.uc_grammar.proofs.samples.samples_of_statements.Goals as goal

pub returns-clause-block : goal.returns-clause-block
unfolding read reader read_run plain placed tokens_from found_at text_ending comment_length
returns-clause-block c = accepts other_stmt a_stmt _ refl

pub returns-clause-empty : goal.returns-clause-empty
unfolding read reader read_run plain placed tokens_from found_at text_ending comment_length
returns-clause-empty c = accepts other_stmt a_stmt _ refl

pub returns-clause-value : goal.returns-clause-value
unfolding read reader read_run plain placed tokens_from found_at text_ending comment_length
returns-clause-value c = accepts other_stmt a_stmt _ refl

pub returns-clause-variables : goal.returns-clause-variables
unfolding read reader read_run plain placed tokens_from found_at text_ending comment_length
returns-clause-variables c = accepts other_stmt a_stmt _ refl

pub returns-clause-objects : goal.returns-clause-objects
unfolding read reader read_run plain placed tokens_from found_at text_ending comment_length
returns-clause-objects c = accepts other_stmt a_stmt _ refl

pub returns-clause-bases : goal.returns-clause-bases
unfolding read reader read_run plain placed tokens_from found_at text_ending comment_length
returns-clause-bases c = accepts other_stmt a_stmt _ refl

pub returns-clause-choice : goal.returns-clause-choice
unfolding read reader read_run plain placed tokens_from found_at text_ending comment_length
returns-clause-choice c = accepts other_stmt a_stmt _ refl

pub returns-clause-repeated : goal.returns-clause-repeated
unfolding read reader read_run plain placed tokens_from found_at text_ending comment_length
returns-clause-repeated c = accepts other_stmt a_stmt _ refl

pub returns-clause-tested_last : goal.returns-clause-tested_last
unfolding read reader read_run plain placed tokens_from found_at text_ending comment_length
returns-clause-tested_last c = accepts other_stmt a_stmt _ refl

pub returns-clause-counted : goal.returns-clause-counted
unfolding read reader read_run plain placed tokens_from found_at text_ending comment_length
returns-clause-counted c = accepts other_stmt a_stmt _ refl

pub returns-clause-object_counted : goal.returns-clause-object_counted
unfolding read reader read_run plain placed tokens_from found_at text_ending comment_length
returns-clause-object_counted c = accepts other_stmt a_stmt _ refl

pub returns-clause-value_counted : goal.returns-clause-value_counted
unfolding read reader read_run plain placed tokens_from found_at text_ending comment_length
returns-clause-value_counted c = accepts other_stmt a_stmt _ refl

pub returns-clause-forever : goal.returns-clause-forever
unfolding read reader read_run plain placed tokens_from found_at text_ending comment_length
returns-clause-forever c = accepts other_stmt a_stmt _ refl

pub returns-clause-leave : goal.returns-clause-leave
unfolding read reader read_run plain placed tokens_from found_at text_ending comment_length
returns-clause-leave c = accepts other_stmt a_stmt _ refl

pub returns-clause-guarded : goal.returns-clause-guarded
unfolding read reader read_run plain placed tokens_from found_at text_ending comment_length
returns-clause-guarded c = accepts other_stmt a_stmt _ refl

pub returns-clause-thrown : goal.returns-clause-thrown
unfolding read reader read_run plain placed tokens_from found_at text_ending comment_length
returns-clause-thrown c = accepts other_stmt a_stmt _ refl

pub returns-clause-resumed : goal.returns-clause-resumed
unfolding read reader read_run plain placed tokens_from found_at text_ending comment_length
returns-clause-resumed c = accepts other_stmt a_stmt _ refl

pub returns-clause-enabled : goal.returns-clause-enabled
unfolding read reader read_run plain placed tokens_from found_at text_ending comment_length
returns-clause-enabled c = accepts other_stmt a_stmt _ refl

pub returns-clause-all_enabled : goal.returns-clause-all_enabled
unfolding read reader read_run plain placed tokens_from found_at text_ending comment_length
returns-clause-all_enabled c = accepts other_stmt a_stmt _ refl

pub returns-clause-disabled : goal.returns-clause-disabled
unfolding read reader read_run plain placed tokens_from found_at text_ending comment_length
returns-clause-disabled c = accepts other_stmt a_stmt _ refl

pub returns-clause-accepted : goal.returns-clause-accepted
unfolding read reader read_run plain placed tokens_from found_at text_ending comment_length
returns-clause-accepted c = accepts other_stmt a_stmt _ refl

pub returns-clause-clauses : goal.returns-clause-clauses
unfolding read reader read_run plain placed tokens_from found_at text_ending comment_length
returns-clause-clauses c = accepts other_stmt a_stmt _ refl

pub returns-clause-printed : goal.returns-clause-printed
unfolding read reader read_run plain placed tokens_from found_at text_ending comment_length
returns-clause-printed c = accepts other_stmt a_stmt _ refl

pub returns-clause-together : goal.returns-clause-together
unfolding read reader read_run plain placed tokens_from found_at text_ending comment_length
returns-clause-together c = accepts other_stmt a_stmt _ refl

pub returns-clause-read : goal.returns-clause-read
unfolding read reader read_run plain placed tokens_from found_at text_ending comment_length
returns-clause-read c = accepts other_stmt a_stmt _ refl

pub returns-clause-input : goal.returns-clause-input
unfolding read reader read_run plain placed tokens_from found_at text_ending comment_length
returns-clause-input c = accepts other_stmt a_stmt _ refl

pub returns-clause-switched : goal.returns-clause-switched
unfolding read reader read_run plain placed tokens_from found_at text_ending comment_length
returns-clause-switched c = accepts other_stmt a_stmt _ refl

pub returns-clause-handler : goal.returns-clause-handler
unfolding read reader read_run plain placed tokens_from found_at text_ending comment_length
returns-clause-handler c = stops_at a_stmt _ 3 refl

pub returns-clause-printed_value : goal.returns-clause-printed_value
unfolding read reader read_run plain placed tokens_from found_at text_ending comment_length
returns-clause-printed_value c = stops_at a_stmt _ 2 refl

pub returns-clause-comparison_printed : goal.returns-clause-comparison_printed
unfolding read reader read_run plain placed tokens_from found_at text_ending comment_length
returns-clause-comparison_printed c = stops_at a_stmt _ 3 refl

pub returns-clause-clause : goal.returns-clause-clause
unfolding read reader read_run plain placed tokens_from found_at text_ending comment_length
returns-clause-clause c = stops_at a_stmt _ 4 refl

pub returns-clause-unclosed : goal.returns-clause-unclosed
unfolding read reader read_run plain placed tokens_from found_at text_ending comment_length
returns-clause-unclosed c = stops_at a_stmt _ 3 refl

pub returns-clause-base : goal.returns-clause-base
unfolding read reader read_run plain placed tokens_from found_at text_ending comment_length
returns-clause-base c = stops_at a_stmt _ 1 refl

pub returns-clause-read_value : goal.returns-clause-read_value
unfolding read reader read_run plain placed tokens_from found_at text_ending comment_length
returns-clause-read_value c = stops_at a_stmt _ 2 refl

pub returns-clause-assigned_chain : goal.returns-clause-assigned_chain
unfolding read reader read_run plain placed tokens_from found_at text_ending comment_length
returns-clause-assigned_chain c = stops_at a_stmt _ 3 refl

pub returns-clause-event : goal.returns-clause-event
unfolding read reader read_run plain placed tokens_from found_at text_ending comment_length
returns-clause-event c = stops_at a_stmt _ 2 refl
