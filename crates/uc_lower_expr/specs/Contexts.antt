-- Where lowering stands, as what an expression stands for sees it.
use Rattle.uc_tree.specs.Programs.{Program}
use Rattle.uc_resolve.specs.Resolve.{Context}
use Rattle.uc_code.specs.Drafts.{Draft}

abbrev pub context_in : Program → Draft → Context
context_in p d = record { program = p; class = d.place.class; routine = d.place.routine; names = d.names }
