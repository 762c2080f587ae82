use Rattle.std.proofs.Common.{refl}
use Rattle.uc_tree.specs.Tokens.{tokens_from, found_at, text_ending, comment_length}
use Rattle.uc_grammar.specs.Samples.{placed, plain, a_stmt, tree_of_accept_else, tree_of_asked, tree_of_call, tree_of_declaration, tree_of_else, tree_of_far_else, tree_of_handlers, tree_of_or, tree_of_product, tree_of_read}
use Rattle.uc_grammar.proofs.Read.{read, reader, read_run}
use Rattle.uc_grammar.proofs.Computed.{other_stmt, accepts, reads}
use Rattle.uc_grammar.proofs.samples.samples_of_nearest.Goals as goal

pub returns-clause-other : goal.returns-clause-other
unfolding read reader read_run plain placed tokens_from found_at text_ending comment_length
returns-clause-other c = reads a_stmt _ tree_of_else refl

pub returns-clause-others : goal.returns-clause-others
unfolding read reader read_run plain placed tokens_from found_at text_ending comment_length
returns-clause-others c = accepts other_stmt a_stmt _ refl

pub returns-clause-loop_between : goal.returns-clause-loop_between
unfolding read reader read_run plain placed tokens_from found_at text_ending comment_length
returns-clause-loop_between c = reads a_stmt _ tree_of_far_else refl

pub returns-clause-clause : goal.returns-clause-clause
unfolding read reader read_run plain placed tokens_from found_at text_ending comment_length
returns-clause-clause c = reads a_stmt _ tree_of_or refl

pub returns-clause-no_clause : goal.returns-clause-no_clause
unfolding read reader read_run plain placed tokens_from found_at text_ending comment_length
returns-clause-no_clause c = reads a_stmt _ tree_of_accept_else refl

pub returns-clause-handlers : goal.returns-clause-handlers
unfolding read reader read_run plain placed tokens_from found_at text_ending comment_length
returns-clause-handlers c = reads a_stmt _ tree_of_handlers refl

pub returns-clause-declared : goal.returns-clause-declared
unfolding read reader read_run plain placed tokens_from found_at text_ending comment_length
returns-clause-declared c = reads a_stmt _ tree_of_declaration refl

pub returns-clause-evaluated : goal.returns-clause-evaluated
unfolding read reader read_run plain placed tokens_from found_at text_ending comment_length
returns-clause-evaluated c = reads a_stmt _ tree_of_product refl

pub returns-clause-called : goal.returns-clause-called
unfolding read reader read_run plain placed tokens_from found_at text_ending comment_length
returns-clause-called c = reads a_stmt _ tree_of_call refl

pub returns-clause-read : goal.returns-clause-read
unfolding read reader read_run plain placed tokens_from found_at text_ending comment_length
returns-clause-read c = reads a_stmt _ tree_of_read refl

pub returns-clause-asked : goal.returns-clause-asked
unfolding read reader read_run plain placed tokens_from found_at text_ending comment_length
returns-clause-asked c = reads a_stmt _ tree_of_asked refl
