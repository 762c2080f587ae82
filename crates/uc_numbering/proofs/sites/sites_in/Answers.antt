use Rattle.std.proofs.Common.{map, refl}
use Rattle.uc_tree.specs.Gathered.{gathered_all}
use Rattle.uc_tree.specs.Numbering.{own_sites, sites_in}
use Rattle.uc_numbering.specs.Routines.{defined_at}
use Rattle.uc_numbering.proofs.Put.{turned, ended}
use Rattle.uc_numbering.proofs.sites.sites_in.Goals as goal

pub loop-defined-preserved : goal.loop-defined-preserved
loop-defined-preserved c = turned (λ l. sites_in (map defined_at l)) c.args.routines.now c.loop-defined.defined-index c.defined-item.result (gathered_all (own_sites (defined_at c.defined-item.result).class (defined_at c.defined-item.result).number) (defined_at c.defined-item.result).routine.body) c.loop-defined.found.items c.push_routine.new.found.items _ c.loop-defined-test.true c.defined-item.is refl c.in_ok-push_routine.ensures c.loop-defined.invariant

pub returns : goal.returns
returns c = ended (λ l. sites_in (map defined_at l)) c.args.routines.now c.loop-defined.defined-index c.loop-defined.found.items _ refl c.loop-defined-test.false c.loop-defined.invariant
