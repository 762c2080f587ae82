use Rattle.uc_typing.proofs.Finding.{law_finds}
use Rattle.uc_typing.proofs.laws.law_finds.Goals as goal

pub returns : goal.returns
returns c = law_finds
