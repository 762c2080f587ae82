use Rattle.std.proofs.Common.{◌≡◌, ◌<◌, ap, length, pos, get_or, to_z, of_z, w64, arith, rules}
use Rattle.std.specs.Fmt.{signed_decimal}
use Rattle.std.proofs.lemmas.Int.{ints, to_z-of_z}
use Rattle.std.proofs.lemmas.List.{take_more_set}
use Rattle.uc_journal.proofs.Entries.{put_more}
use Rattle.uc_journal.proofs.write.put_numbers.Goals as goal

pub loop-number-preserved : goal.loop-number-preserved
loop-number-preserved c =
    let inside : c.loop-number.number-index < length c.args.numbers.now = omega (arith, c.told-numbers, c.loop-number-test.true) in
    let room : c.loop-number.at < length c.loop-number.buffer = omega (arith, c.told-buffer, c.loop-number.invariant.room, c.requires.room, c.loop-number-test.true) in
    let number : to_z w64 (of_z w64 (get_or c.args.numbers.now c.loop-number.number-index (pos 0))) ≡ get_or c.args.numbers.now c.loop-number.number-index (pos 0) = search (rules, ints, to_z-of_z) in
    record {
      text = put_more _ _ _ _ _ c.args.numbers.now c.loop-number.number-index inside c.loop-number.invariant.text (take_more_set c.loop-number.buffer c.loop-number.at 32 room) c.put_number-at.ensures.text (ap signed_decimal number);
      room = omega (arith, c.loop-number.invariant.room, c.put_number-at.ensures.within);
    }
