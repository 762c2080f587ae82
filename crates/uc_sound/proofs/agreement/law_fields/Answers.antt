use Rattle.uc_sound.proofs.FieldsLemmas.{law_fields}
use Rattle.uc_sound.proofs.agreement.law_fields.Goals as goal

pub returns : goal.returns
returns c = law_fields
