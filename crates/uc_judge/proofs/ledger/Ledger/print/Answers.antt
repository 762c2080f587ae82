use Rattle.std.proofs.Common.{◌≡◌, ◌<◌, rules, arith, sym, refl, subst, length, take, get_or, append-nil}
use Rattle.std.specs.Prelude.{pos}
use Rattle.uc_acts.specs.Acts.{prints}
use Rattle.uc_entry.specs.declared.request.Piece.{Piece}
use Rattle.uc_judge.specs.Actors.{cost_of, cost_at}
use Rattle.uc_judge.specs.Ledgers.{Adds}
use Rattle.uc_judge.proofs.Printing.{item_is, prints_more, settles_prints}
use Rattle.uc_judge.proofs.ledger.Ledger.print.Goals as goal

pub add-requires-clause-ledger : goal.add-requires-clause-ledger
add-requires-clause-ledger c = c.loop-i.invariant.ledger

pub loop-i-init : goal.loop-i-init
loop-i-init c = record { entries = sym (append-nil _); opts = refl; ledger = c.requires.ledger }

pub loop-i-preserved : goal.loop-i-preserved
loop-i-preserved c =
    let a = c.args.actor in
    let items = c.args.items.now in
    let i = c.loop-i.i in
    let d : Piece = record { form = 0; value = pos 0 } in
    let t = c.loop-i-test.true in
    let n = c.from-i-end.ensures in
    let w = c.requires.within in
    let lt : i < length items = omega (arith, t, n, w) in
    prints_more a.processor a.task (cost_of a) items i d c.print.result lt (item_is a.processor a.task (cost_at (cost_of a) i) (get_or items i d) c.print.result _ _ _ _ _ c.print.ensures.is c.of_item.ensures.processor c.of_item.ensures.task c.of_item.ensures.cost (search rules) (search rules)) c.loop-i.invariant c.in_ok-add.ensures

pub returns : goal.returns
returns c =
    let a = c.args.actor in
    let items = c.args.items.now in
    let t = c.loop-i-test.false in
    let n = c.from-i-end.ensures in
    let e = c.loop-i.auto.i-end in
    let same : c.loop-i.i ≡ c.args.n = omega (arith, t, n, e) in
    settles_prints a a.processor a.task (cost_of a) (take c.args.n items) (subst (λ m. Adds c.args.self.now c.loop-i.self c.args.sites.now (prints a.processor a.task (cost_of a) (take m items))) same c.loop-i.invariant)
