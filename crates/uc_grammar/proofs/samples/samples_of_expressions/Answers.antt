use Rattle.std.proofs.Common.{refl}
use Rattle.uc_tree.specs.Tokens.{tokens_from, found_at, text_ending, comment_length}
use Rattle.uc_grammar.specs.Grammar.{expr_form}
use Rattle.uc_grammar.specs.Samples.{placed, plain}
use Rattle.uc_grammar.proofs.Read.{read, reader, read_run}
use Rattle.uc_grammar.proofs.Computed.{other_expr, accepts, stops_at}
use Rattle.uc_grammar.proofs.samples.samples_of_expressions.Goals as goal

pub returns-clause-number : goal.returns-clause-number
unfolding read reader read_run plain placed tokens_from found_at text_ending comment_length
returns-clause-number c = accepts other_expr expr_form _ refl

pub returns-clause-character : goal.returns-clause-character
unfolding read reader read_run plain placed tokens_from found_at text_ending comment_length
returns-clause-character c = accepts other_expr expr_form _ refl

pub returns-clause-truths : goal.returns-clause-truths
unfolding read reader read_run plain placed tokens_from found_at text_ending comment_length
returns-clause-truths c = accepts other_expr expr_form _ refl

pub returns-clause-name : goal.returns-clause-name
unfolding read reader read_run plain placed tokens_from found_at text_ending comment_length
returns-clause-name c = accepts other_expr expr_form _ refl

pub returns-clause-input : goal.returns-clause-input
unfolding read reader read_run plain placed tokens_from found_at text_ending comment_length
returns-clause-input c = accepts other_expr expr_form _ refl

pub returns-clause-parenthesis : goal.returns-clause-parenthesis
unfolding read reader read_run plain placed tokens_from found_at text_ending comment_length
returns-clause-parenthesis c = accepts other_expr expr_form _ refl

pub returns-clause-parts : goal.returns-clause-parts
unfolding read reader read_run plain placed tokens_from found_at text_ending comment_length
returns-clause-parts c = accepts other_expr expr_form _ refl

pub returns-clause-no_arguments : goal.returns-clause-no_arguments
unfolding read reader read_run plain placed tokens_from found_at text_ending comment_length
returns-clause-no_arguments c = accepts other_expr expr_form _ refl

pub returns-clause-arguments : goal.returns-clause-arguments
unfolding read reader read_run plain placed tokens_from found_at text_ending comment_length
returns-clause-arguments c = accepts other_expr expr_form _ refl

pub returns-clause-signs : goal.returns-clause-signs
unfolding read reader read_run plain placed tokens_from found_at text_ending comment_length
returns-clause-signs c = accepts other_expr expr_form _ refl

pub returns-clause-nothing : goal.returns-clause-nothing
unfolding read reader read_run plain placed tokens_from found_at text_ending comment_length
returns-clause-nothing c = stops_at expr_form _ 0 refl

pub returns-clause-operand : goal.returns-clause-operand
unfolding read reader read_run plain placed tokens_from found_at text_ending comment_length
returns-clause-operand c = stops_at expr_form _ 2 refl

pub returns-clause-close : goal.returns-clause-close
unfolding read reader read_run plain placed tokens_from found_at text_ending comment_length
returns-clause-close c = stops_at expr_form _ 2 refl

pub returns-clause-field : goal.returns-clause-field
unfolding read reader read_run plain placed tokens_from found_at text_ending comment_length
returns-clause-field c = stops_at expr_form _ 2 refl

pub returns-clause-argument : goal.returns-clause-argument
unfolding read reader read_run plain placed tokens_from found_at text_ending comment_length
returns-clause-argument c = stops_at expr_form _ 4 refl

pub returns-clause-value : goal.returns-clause-value
unfolding read reader read_run plain placed tokens_from found_at text_ending comment_length
returns-clause-value c = stops_at expr_form _ 2 refl

pub returns-clause-word : goal.returns-clause-word
unfolding read reader read_run plain placed tokens_from found_at text_ending comment_length
returns-clause-word c = stops_at expr_form _ 0 refl

pub returns-clause-index : goal.returns-clause-index
unfolding read reader read_run plain placed tokens_from found_at text_ending comment_length
returns-clause-index c = stops_at expr_form _ 2 refl
