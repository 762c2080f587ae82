use Rattle.std.proofs.Common.{arith, sym, ap, ◌∙◌}
use Rattle.uc_acts.specs.Known.{has}
use Rattle.uc_kernel.proofs.Hands.{read_key}
use Rattle.uc_vproc.proofs.Numbering.{key_there, none_next, keys_whole}
use Rattle.uc_vproc.proofs.fits.holds.Goals as goal

pub returns-then-get-object : goal.returns-then-get-object
returns-then-get-object c =
    sym (key_there c.args.hand.now.items c.loop-at.at c.args.object c.get.result.now.1 (read_key c.args.hand.now.items c.loop-at.at c.args.object c.get.result.now (omega arith) c.get.ensures c.if-get-object.true))

pub loop-at-preserved : goal.loop-at-preserved
loop-at-preserved c =
    none_next c.args.hand.now.items c.loop-at.at c.args.object c.get.result.now (omega arith) c.get.ensures c.if-get-object.false c.loop-at.invariant

pub returns : goal.returns
returns c = sym (sym (ap (λ ks. has ks c.args.object) (keys_whole c.args.hand.now.items c.loop-at.at (omega arith))) ∙ c.loop-at.invariant)
