use Rattle.uc_sound.proofs.StatementLemmas.{law_statements}
use Rattle.uc_sound.proofs.sound.law_statements.Goals as goal

pub returns : goal.returns
returns c = law_statements
