use Rattle.std.proofs.Common.{arith, length, refl, ◌-◌}
use Rattle.std.proofs.lemmas.Option.{slice_get_read}
use Rattle.uc_frames.proofs.Ascending.{all_before}
use Rattle.uc_frames.proofs.Positions.{found_at, read_key}
use Rattle.uc_frames.proofs.numbered.position_in_order.Goals as goal

pub returns-then-at-eq0 : goal.returns-then-at-eq0
returns-then-at-eq0 g c =
    let ps = c.args.list.now.items in
    let k = c.args.key in
    found_at k ps k c.get.result.now.1 (read_key ps k k c.get.result.now (omega arith) c.get.ensures c.if-get-key.true) (λ j l q s h. omega (arith, l, c.if-at-eq0.true))

pub returns-then-get-key-2 : goal.returns-then-get-key-2
returns-then-get-key-2 g c =
    let ps = c.args.list.now.items in
    let k = c.args.key in
    let r = c.get-then-get-key.result.now in
    let is = slice_get_read ps (length ps) (k - 1) r refl (omega arith) c.get-then-get-key.ensures in
    found_at k ps k c.get.result.now.1 (read_key ps k k c.get.result.now (omega arith) c.get.ensures c.if-get-key.true)
    (λ j l q s h. let m = all_before k 0 ps c.requires.0 (k - 1) r c.requires.1 is c.if-get-key-2.true j q (omega (arith, l)) s in omega (arith, h))
