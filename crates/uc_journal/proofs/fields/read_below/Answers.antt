use Rattle.std.proofs.Common.{◌≡◌, ◌-◌, ◌≤◌, suc, arith}
use Rattle.std.proofs.lemmas.Int.{ints}
use Rattle.uc_journal.proofs.Digits.{same_natural}
use Rattle.uc_journal.proofs.Numbers.{below_of, number_of_below}
use Rattle.uc_journal.proofs.fields.read_below.Goals as goal

pub returns-in_default-clause-none : goal.returns-in_default-clause-none
returns-in_default-clause-none c n rest a =
    let b = below_of c.args.digits.now n rest a in
    c.in_default.ensures.none (suc b.0) b.2 rest b.3

pub returns-then-natural-eq0-clause-none : goal.returns-then-natural-eq0-clause-none
returns-then-natural-eq0-clause-none c n rest a =
    let b = below_of c.args.digits.now n rest a in
    let small : c.in-Some.natural.value ≤ 9223372036854775808 = c.in-Some.ensures.small in
    let most : suc b.0 ≤ 9223372036854775808 = b.2 in
    absurd (omega (arith, c.if-natural-eq0.true, (same_natural c.args.digits.now c.in-Some.natural.value (suc b.0) c.in-Some.natural.rest.now rest (omega arith) (omega arith) c.in-Some.ensures.number b.3).0))

pub returns-clause-number : goal.returns-clause-number
returns-clause-number c =
    let some : c.in-Some.natural.value ≡ suc (c.in-Some.natural.value - 1) = omega (arith, c.if-natural-eq0.false) in
    let small : c.in-Some.natural.value ≤ 9223372036854775808 = c.in-Some.ensures.small in
    number_of_below c.args.digits.now _ (c.in-Some.natural.value - 1) c.in-Some.natural.rest.now (omega (arith, ints, some)) (omega arith) (rw (← some) c.in-Some.ensures.number)
