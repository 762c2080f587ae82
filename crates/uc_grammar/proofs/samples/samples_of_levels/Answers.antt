use Rattle.std.proofs.Common.{refl}
use Rattle.uc_tree.specs.Tokens.{tokens_from, found_at, text_ending, comment_length}
use Rattle.uc_grammar.specs.Grammar.{expr_form}
use Rattle.uc_grammar.specs.Samples.{placed, plain, tree_of_assignment, tree_of_chain, tree_of_places}
use Rattle.uc_grammar.proofs.Read.{read, reader, read_run}
use Rattle.uc_grammar.proofs.Computed.{other_expr, spelled, reads, alike, ends_at}
use Rattle.uc_grammar.proofs.samples.samples_of_levels.Goals as goal

pub returns-clause-unary : goal.returns-clause-unary
unfolding read reader read_run plain placed tokens_from found_at text_ending comment_length
returns-clause-unary c = alike other_expr expr_form _ _ refl refl

pub returns-clause-product : goal.returns-clause-product
unfolding read reader read_run plain placed tokens_from found_at text_ending comment_length
returns-clause-product c = alike other_expr expr_form _ _ refl refl

pub returns-clause-remainder : goal.returns-clause-remainder
unfolding read reader read_run plain placed tokens_from found_at text_ending comment_length
returns-clause-remainder c = alike other_expr expr_form _ _ refl refl

pub returns-clause-sum : goal.returns-clause-sum
unfolding read reader read_run plain placed tokens_from found_at text_ending comment_length
returns-clause-sum c = alike other_expr expr_form _ _ refl refl

pub returns-clause-difference : goal.returns-clause-difference
unfolding read reader read_run plain placed tokens_from found_at text_ending comment_length
returns-clause-difference c = alike other_expr expr_form _ _ refl refl

pub returns-clause-comparison : goal.returns-clause-comparison
unfolding read reader read_run plain placed tokens_from found_at text_ending comment_length
returns-clause-comparison c = alike other_expr expr_form _ _ refl refl

pub returns-clause-others : goal.returns-clause-others
unfolding read reader read_run plain placed tokens_from found_at text_ending comment_length
returns-clause-others c = alike other_expr expr_form _ _ refl refl

pub returns-clause-equality : goal.returns-clause-equality
unfolding read reader read_run plain placed tokens_from found_at text_ending comment_length
returns-clause-equality c = alike other_expr expr_form _ _ refl refl

pub returns-clause-and : goal.returns-clause-and
unfolding read reader read_run plain placed tokens_from found_at text_ending comment_length
returns-clause-and c = alike other_expr expr_form _ _ refl refl

pub returns-clause-or : goal.returns-clause-or
unfolding read reader read_run plain placed tokens_from found_at text_ending comment_length
returns-clause-or c = alike other_expr expr_form _ _ refl refl

pub returns-clause-assigned : goal.returns-clause-assigned
unfolding read reader read_run plain placed tokens_from found_at text_ending comment_length
returns-clause-assigned c = alike other_expr expr_form _ _ refl refl

pub returns-clause-assignments : goal.returns-clause-assignments
unfolding read reader read_run plain placed tokens_from found_at text_ending comment_length
returns-clause-assignments c = alike other_expr expr_form _ _ refl refl

pub returns-clause-more_assignments : goal.returns-clause-more_assignments
unfolding read reader read_run plain placed tokens_from found_at text_ending comment_length
returns-clause-more_assignments c = alike other_expr expr_form _ _ refl refl

pub returns-clause-place : goal.returns-clause-place
unfolding read reader read_run plain placed tokens_from found_at text_ending comment_length
returns-clause-place c = alike other_expr expr_form _ _ refl refl

pub returns-clause-part : goal.returns-clause-part
unfolding read reader read_run plain placed tokens_from found_at text_ending comment_length
returns-clause-part c = alike other_expr expr_form _ _ refl refl

pub returns-clause-step : goal.returns-clause-step
unfolding read reader read_run plain placed tokens_from found_at text_ending comment_length
returns-clause-step c = alike other_expr expr_form _ _ refl refl

pub returns-clause-chain : goal.returns-clause-chain
unfolding read reader read_run plain placed tokens_from found_at text_ending comment_length
returns-clause-chain c = spelled expr_form _ tree_of_chain refl

pub returns-clause-places : goal.returns-clause-places
unfolding read reader read_run plain placed tokens_from found_at text_ending comment_length
returns-clause-places c = spelled expr_form _ tree_of_places refl

pub returns-clause-assignment : goal.returns-clause-assignment
unfolding read reader read_run plain placed tokens_from found_at text_ending comment_length
returns-clause-assignment c = reads expr_form _ tree_of_assignment refl

pub returns-clause-against_chain : goal.returns-clause-against_chain
unfolding read reader read_run plain placed tokens_from found_at text_ending comment_length
returns-clause-against_chain c = ends_at other_expr expr_form _ 3 refl

pub returns-clause-after_unary : goal.returns-clause-after_unary
unfolding read reader read_run plain placed tokens_from found_at text_ending comment_length
returns-clause-after_unary c = ends_at other_expr expr_form _ 1 refl
