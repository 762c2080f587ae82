use Rattle.uc_sound.proofs.Texts.{law_tokens}
use Rattle.uc_sound.proofs.formed.law_tokens.Goals as goal

pub returns : goal.returns
returns c = law_tokens
