use Rattle.uc_made.proofs.GeneratedTokens.{all_tokens, generated_lexed}
use Rattle.uc_made.proofs.Sized.{frames_fit, small, short_text}
use Rattle.uc_made.proofs.Spelled.{generated_spelled}
use Rattle.uc_made.proofs.Trees.{made}
use Rattle.uc_made.proofs.Unbroken.{unbroken}
use Rattle.uc_made.proofs.laws.law_made_is_accepted.Goals as goal

pub returns : goal.returns
returns c n least most = record {
  short = short_text n least most;
  list = all_tokens n;
  lexed = generated_lexed n least most;
  program = made n;
  spelled = generated_spelled n;
  no_break = unbroken n most;
  frames = frames_fit n most;
  size = small n most;
}
