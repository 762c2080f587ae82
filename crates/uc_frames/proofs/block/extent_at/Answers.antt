use Rattle.std.proofs.Common.{◌<◌, length, sym, refl, ◌∙◌, arith}
use Rattle.std.proofs.lemmas.Option.{slice_get_read}
use Rattle.uc_frames.proofs.Depths.{waiting_at, running_at, none_at}
use Rattle.uc_frames.proofs.block.extent_at.Goals as goal

pub returns-then-depth-waiting : goal.returns-then-depth-waiting
returns-then-depth-waiting c = sym (running_at c.args.newest c.args.older.now.items c.args.depth (omega (arith, c.if-depth-waiting.true, c.len-waiting.ensures)))

pub returns-then-depth-waiting-2 : goal.returns-then-depth-waiting-2
returns-then-depth-waiting-2 c =
    let xs = c.args.older.now.items in
    let l : c.args.depth < length xs = omega (arith, c.if-depth-waiting-2.true, c.len-waiting.ensures) in
    sym (waiting_at c.args.newest xs c.args.depth l ∙ slice_get_read xs (length xs) c.args.depth c.index.result.now refl l c.index.ensures)

pub returns : goal.returns
returns c = sym (none_at c.args.newest c.args.older.now.items c.args.depth (omega (arith, c.if-depth-waiting.false, c.if-depth-waiting-2.false, c.len-waiting.ensures)))
