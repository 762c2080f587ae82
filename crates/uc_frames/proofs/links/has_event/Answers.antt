use Rattle.std.proofs.Common.{◌≡◌, ◌/◌, ◌%◌, ◌^◌, arith}
use Rattle.std.proofs.lemmas.Nat.Bits.{bit_at_above}
use Rattle.std.proofs.lemmas.Bool.Decides.{nat_tests}
use Rattle.uc_frames.proofs.links.has_event.Goals as goal

pub returns-else-event-lt-EVENTS : goal.returns-else-event-lt-EVENTS
returns-else-event-lt-EVENTS c =
    let none : (c.args.mask / 2 ^ c.args.event) % 2 ≡ 0 = bit_at_above c.args.mask 64 c.args.event (omega arith) (omega arith) in
    grind (arith, nat_tests)
