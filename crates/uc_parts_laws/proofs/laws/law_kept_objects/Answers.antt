use Rattle.uc_parts_laws.proofs.KeptObjects.{law_kept_objects}
use Rattle.uc_parts_laws.proofs.laws.law_kept_objects.Goals as goal

pub returns : goal.returns
returns c = law_kept_objects
