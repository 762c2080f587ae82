use Rattle.std.proofs.Common.{refl}
use Rattle.uc_tree.specs.Tokens.{tokens_from, found_at, text_ending, comment_length}
use Rattle.uc_grammar.specs.Grammar.{program_form}
use Rattle.uc_grammar.specs.Samples.{placed, plain, tree_of_class}
use Rattle.uc_grammar.proofs.Read.{read, reader, read_run}
use Rattle.uc_grammar.proofs.Computed.{other_program, accepts, reads, alike, stops_at}
use Rattle.uc_grammar.proofs.samples.samples_of_programs.Goals as goal

pub returns-clause-used : goal.returns-clause-used
unfolding read reader read_run plain placed tokens_from found_at text_ending comment_length
returns-clause-used c = accepts other_program program_form _ refl

pub returns-clause-constants : goal.returns-clause-constants
unfolding read reader read_run plain placed tokens_from found_at text_ending comment_length
returns-clause-constants c = accepts other_program program_form _ refl

pub returns-clause-forward : goal.returns-clause-forward
unfolding read reader read_run plain placed tokens_from found_at text_ending comment_length
returns-clause-forward c = accepts other_program program_form _ refl

pub returns-clause-prototypes : goal.returns-clause-prototypes
unfolding read reader read_run plain placed tokens_from found_at text_ending comment_length
returns-clause-prototypes c = accepts other_program program_form _ refl

pub returns-clause-routines : goal.returns-clause-routines
unfolding read reader read_run plain placed tokens_from found_at text_ending comment_length
returns-clause-routines c = accepts other_program program_form _ refl

pub returns-clause-mains : goal.returns-clause-mains
unfolding read reader read_run plain placed tokens_from found_at text_ending comment_length
returns-clause-mains c = accepts other_program program_form _ refl

pub returns-clause-members_outside : goal.returns-clause-members_outside
unfolding read reader read_run plain placed tokens_from found_at text_ending comment_length
returns-clause-members_outside c = accepts other_program program_form _ refl

pub returns-clause-makers_outside : goal.returns-clause-makers_outside
unfolding read reader read_run plain placed tokens_from found_at text_ending comment_length
returns-clause-makers_outside c = accepts other_program program_form _ refl

pub returns-clause-classes : goal.returns-clause-classes
unfolding read reader read_run plain placed tokens_from found_at text_ending comment_length
returns-clause-classes c = accepts other_program program_form _ refl

pub returns-clause-fields : goal.returns-clause-fields
unfolding read reader read_run plain placed tokens_from found_at text_ending comment_length
returns-clause-fields c = accepts other_program program_form _ refl

pub returns-clause-members : goal.returns-clause-members
unfolding read reader read_run plain placed tokens_from found_at text_ending comment_length
returns-clause-members c = accepts other_program program_form _ refl

pub returns-clause-makers : goal.returns-clause-makers
unfolding read reader read_run plain placed tokens_from found_at text_ending comment_length
returns-clause-makers c = accepts other_program program_form _ refl

pub returns-clause-monitor : goal.returns-clause-monitor
unfolding read reader read_run plain placed tokens_from found_at text_ending comment_length
returns-clause-monitor c = alike other_program program_form _ _ refl refl

pub returns-clause-cormonitor : goal.returns-clause-cormonitor
unfolding read reader read_run plain placed tokens_from found_at text_ending comment_length
returns-clause-cormonitor c = alike other_program program_form _ _ refl refl

pub returns-clause-private : goal.returns-clause-private
unfolding read reader read_run plain placed tokens_from found_at text_ending comment_length
returns-clause-private c = alike other_program program_form _ _ refl refl

pub returns-clause-access : goal.returns-clause-access
unfolding read reader read_run plain placed tokens_from found_at text_ending comment_length
returns-clause-access c = alike other_program program_form _ _ refl refl

pub returns-clause-exception : goal.returns-clause-exception
unfolding read reader read_run plain placed tokens_from found_at text_ending comment_length
returns-clause-exception c = alike other_program program_form _ _ refl refl

pub returns-clause-class : goal.returns-clause-class
unfolding read reader read_run plain placed tokens_from found_at text_ending comment_length
returns-clause-class c = reads program_form _ tree_of_class refl

pub returns-clause-nothing : goal.returns-clause-nothing
unfolding read reader read_run plain placed tokens_from found_at text_ending comment_length
returns-clause-nothing c = stops_at program_form _ 0 refl

pub returns-clause-printed : goal.returns-clause-printed
unfolding read reader read_run plain placed tokens_from found_at text_ending comment_length
returns-clause-printed c = stops_at program_form _ 9 refl

pub returns-clause-cut : goal.returns-clause-cut
unfolding read reader read_run plain placed tokens_from found_at text_ending comment_length
returns-clause-cut c = stops_at program_form _ 11 refl

pub returns-clause-field : goal.returns-clause-field
unfolding read reader read_run plain placed tokens_from found_at text_ending comment_length
returns-clause-field c = stops_at program_form _ 5 refl

pub returns-clause-class_end : goal.returns-clause-class_end
unfolding read reader read_run plain placed tokens_from found_at text_ending comment_length
returns-clause-class_end c = stops_at program_form _ 4 refl

pub returns-clause-item : goal.returns-clause-item
unfolding read reader read_run plain placed tokens_from found_at text_ending comment_length
returns-clause-item c = stops_at program_form _ 5 refl

pub returns-clause-main_name : goal.returns-clause-main_name
unfolding read reader read_run plain placed tokens_from found_at text_ending comment_length
returns-clause-main_name c = stops_at program_form _ 2 refl

pub returns-clause-constant : goal.returns-clause-constant
unfolding read reader read_run plain placed tokens_from found_at text_ending comment_length
returns-clause-constant c = stops_at program_form _ 1 refl

pub returns-clause-outside : goal.returns-clause-outside
unfolding read reader read_run plain placed tokens_from found_at text_ending comment_length
returns-clause-outside c = stops_at program_form _ 3 refl

pub returns-clause-mutex : goal.returns-clause-mutex
unfolding read reader read_run plain placed tokens_from found_at text_ending comment_length
returns-clause-mutex c = stops_at program_form _ 1 refl

pub returns-clause-prototype_outside : goal.returns-clause-prototype_outside
unfolding read reader read_run plain placed tokens_from found_at text_ending comment_length
returns-clause-prototype_outside c = stops_at program_form _ 6 refl

pub returns-clause-inits : goal.returns-clause-inits
unfolding read reader read_run plain placed tokens_from found_at text_ending comment_length
returns-clause-inits c = stops_at program_form _ 7 refl
