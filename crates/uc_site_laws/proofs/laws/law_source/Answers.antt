use Rattle.uc_site_laws.proofs.Routines.{source_named}
use Rattle.uc_site_laws.proofs.laws.law_source.Goals as goal

pub returns : goal.returns
returns c = source_named
