use Rattle.std.proofs.Common.{◌≡◌, ◌/◌, ◌%◌, ◌^◌, arith}
use Rattle.std.proofs.lemmas.Nat.Bits.{bit_at_above}
use Rattle.std.proofs.lemmas.Bool.Decides.{nat_tests}
use Rattle.uc_judge.proofs.offers.has_bit.Goals as goal

pub returns-else-bit-lt64-clause-value : goal.returns-else-bit-lt64-clause-value
returns-else-bit-lt64-clause-value c =
    let none : (c.args.mask / 2 ^ c.args.bit) % 2 ≡ 0 = bit_at_above c.args.mask 64 c.args.bit (omega arith) (omega arith) in
    grind (arith, nat_tests)
