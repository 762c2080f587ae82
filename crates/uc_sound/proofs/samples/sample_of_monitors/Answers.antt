use Rattle.std.proofs.Common.{refl, arith}
use Rattle.uc_tree.specs.Rows.{cells_within, reaches}
use Rattle.uc_tree.specs.Tokens.{tokens_from, found_at, text_ending, comment_length}
use Rattle.uc_grammar.specs.Samples.{placed}
use Rattle.uc_grammar.proofs.Read.{read, reader, read_run}
use Rattle.uc_sound.proofs.Computed.{well_typed}
use Rattle.uc_sound.proofs.samples.sample_of_monitors.Goals as goal

pub returns : goal.returns
unfolding read reader read_run placed tokens_from found_at text_ending comment_length cells_within reaches
returns c = well_typed _ (omega arith) refl refl refl
