use Rattle.std.proofs.Common.{refl}
use Rattle.uc_tree.specs.Tokens.{tokens_from, found_at, text_ending, comment_length}
use Rattle.uc_grammar.specs.Grammar.{program_form}
use Rattle.uc_grammar.specs.Samples.{placed, plain}
use Rattle.uc_grammar.proofs.Read.{read, reader, read_run}
use Rattle.uc_grammar.proofs.Computed.{other_program}
use Rattle.uc_nesting.specs.Nesting.{nesting}
use Rattle.uc_nesting.proofs.Computed.{nests}
use Rattle.uc_nesting.proofs.samples.samples_of_programs.Goals as goal

pub returns-clause-routine : goal.returns-clause-routine
unfolding read reader read_run plain placed tokens_from found_at text_ending comment_length nesting
returns-clause-routine c = nests other_program program_form nesting _ 0 refl refl

pub returns-clause-body : goal.returns-clause-body
unfolding read reader read_run plain placed tokens_from found_at text_ending comment_length nesting
returns-clause-body c = nests other_program program_form nesting _ 2 refl refl

pub returns-clause-main : goal.returns-clause-main
unfolding read reader read_run plain placed tokens_from found_at text_ending comment_length nesting
returns-clause-main c = nests other_program program_form nesting _ 3 refl refl

pub returns-clause-part : goal.returns-clause-part
unfolding read reader read_run plain placed tokens_from found_at text_ending comment_length nesting
returns-clause-part c = nests other_program program_form nesting _ 1 refl refl

pub returns-clause-field_length : goal.returns-clause-field_length
unfolding read reader read_run plain placed tokens_from found_at text_ending comment_length nesting
returns-clause-field_length c = nests other_program program_form nesting _ 2 refl refl

pub returns-clause-initialiser : goal.returns-clause-initialiser
unfolding read reader read_run plain placed tokens_from found_at text_ending comment_length nesting
returns-clause-initialiser c = nests other_program program_form nesting _ 3 refl refl

pub returns-clause-outer_initialiser : goal.returns-clause-outer_initialiser
unfolding read reader read_run plain placed tokens_from found_at text_ending comment_length nesting
returns-clause-outer_initialiser c = nests other_program program_form nesting _ 1 refl refl

pub returns-clause-member_body : goal.returns-clause-member_body
unfolding read reader read_run plain placed tokens_from found_at text_ending comment_length nesting
returns-clause-member_body c = nests other_program program_form nesting _ 3 refl refl

pub returns-clause-constant : goal.returns-clause-constant
unfolding read reader read_run plain placed tokens_from found_at text_ending comment_length nesting
returns-clause-constant c = nests other_program program_form nesting _ 1 refl refl

pub returns-clause-forward : goal.returns-clause-forward
unfolding read reader read_run plain placed tokens_from found_at text_ending comment_length nesting
returns-clause-forward c = nests other_program program_form nesting _ 0 refl refl

pub returns-clause-items : goal.returns-clause-items
unfolding read reader read_run plain placed tokens_from found_at text_ending comment_length nesting
returns-clause-items c = nests other_program program_form nesting _ 2 refl refl

pub returns-clause-limit : goal.returns-clause-limit
unfolding read reader read_run plain placed tokens_from found_at text_ending comment_length nesting
returns-clause-limit c = nests other_program program_form nesting _ 256 refl refl
