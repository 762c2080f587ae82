use Rattle.uc_sound.proofs.ItemsLemmas.{law_items}
use Rattle.uc_sound.proofs.agreement.law_items.Goals as goal

pub returns : goal.returns
returns c = law_items
