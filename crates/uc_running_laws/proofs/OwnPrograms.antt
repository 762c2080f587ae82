-- Nobody leaves its home for good, so names are apart.
use Rattle.uc_resolve.specs.Resolve.{source_of}
use Rattle.uc_life_laws.proofs.OwnNamesLemmas.{law_own_names}
use Rattle.uc_running_laws.specs.OwnPrograms.{LawOwnPrograms}
use Rattle.uc_running_laws.proofs.RunningLemmas.{run_leaves}

pub law_own_programs : LawOwnPrograms
law_own_programs p formed ok input opts range j w r fits on alone spares =
    law_own_names (source_of p) input opts j w r range fits on (run_leaves p formed ok input opts range r fits alone) spares
