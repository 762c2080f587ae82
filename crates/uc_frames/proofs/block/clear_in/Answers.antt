use Rattle.std.proofs.Common.{rules}
use Rattle.uc_frames.proofs.Extents.{cleared_within}
use Rattle.uc_frames.proofs.block.clear_in.Goals as goal

pub returns-clause-items : goal.returns-clause-items
returns-clause-items c =
    let cells = c.args.cells.now in
    cleared_within c.args.extent cells.items c.requires.0 c.requires.1 0 c.deref_mut.result.now c.clear.new.cells cells.len c.args.from c.args.count c.deref_mut.ensures.value c.clear.ensures (search rules)
