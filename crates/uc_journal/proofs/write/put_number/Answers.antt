use Rattle.std.proofs.Common.{◌<◌, ◌++◌, ◌≤ℤ◌, ◌<ℤ◌, pos, take, length, ap, arith, ◌∙◌}
use Rattle.std.proofs.lemmas.List.{take_more_set}
use Rattle.uc_journal.proofs.Entries.{one_digit, at_least, below}
use Rattle.uc_journal.proofs.write.put_number.Goals as goal

pub returns-then-number-lt10-clause-text : goal.returns-then-number-lt10-clause-text
returns-then-number-lt10-clause-text c =
    let inside : c.args.from < length c.args.buffer.now = omega (arith, c.told-buffer, c.requires.room) in
    let low : pos 0 ≤ℤ c.args.number = at_least c.args.number c.ranges.number c.if-number-ge0.true in
    let high : c.args.number <ℤ pos 10 = below c.args.number c.ranges.number c.if-number-lt10.true in
    take_more_set c.args.buffer.now c.args.from _ inside ∙ ap (λ t. take c.args.from c.args.buffer.now ++ t) (one_digit c.args.number low high)
