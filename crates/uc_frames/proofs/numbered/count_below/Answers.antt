use Rattle.std.proofs.Common.{arith, length, refl, ◌+◌, ◌-◌, ◌/◌}
use Rattle.std.proofs.lemmas.Option.{slice_get_read}
use Rattle.uc_frames.proofs.Ascending.{all_before, none_behind}
use Rattle.uc_frames.proofs.numbered.count_below.Goals as goal

pub loop-from-preserved-then-get-key : goal.loop-from-preserved-then-get-key
loop-from-preserved-then-get-key g c =
    let ps = c.args.list.now.items in
    let at = c.loop-from.from + (c.loop-from.to - c.loop-from.from) / 2 in
    let is = slice_get_read ps (length ps) at c.get.result.now refl (omega arith) c.get.ensures in
    (omega arith, c.loop-from.invariant.1, all_before c.args.key 0 ps c.requires.0 at c.get.result.now c.requires.1 is c.if-get-key.true, c.loop-from.invariant.3)

pub loop-from-preserved : goal.loop-from-preserved
loop-from-preserved g c =
    let ps = c.args.list.now.items in
    let at = c.loop-from.from + (c.loop-from.to - c.loop-from.from) / 2 in
    let is = slice_get_read ps (length ps) at c.get.result.now refl (omega arith) c.get.ensures in
    (omega arith, omega arith, c.loop-from.invariant.2, none_behind c.args.key 0 ps c.requires.0 at c.get.result.now c.requires.1 is c.if-get-key.false)
