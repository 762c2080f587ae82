use Rattle.uc_putting_laws.proofs.LoneObjects.{law_lone_objects}
use Rattle.uc_putting_laws.proofs.laws.law_lone_objects.Goals as goal

pub returns : goal.returns
returns c = law_lone_objects
