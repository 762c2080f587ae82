use Rattle.std.proofs.Common.{◌≡◌, to_z, of_z, w64, rules}
use Rattle.std.proofs.lemmas.Int.{to_z-of_z, ints}
use Rattle.uc_journal.proofs.Numbers.{reads_more, reads_all, reads_not}
use Rattle.uc_journal.proofs.fields.read_fields.Goals as goal

pub returns-in_default-clause-none : goal.returns-in_default-clause-none
returns-in_default-clause-none c =
    rw c.count-count.ensures.count at
    (reads_not c.args.text.now c.loop-i.rest.now c.loop-i.values c.count-count.result c.loop-i.i c.loop-i-test.true c.loop-i.invariant c.in_default.ensures.none)

pub loop-i-preserved : goal.loop-i-preserved
loop-i-preserved c =
    let value : to_z w64 (of_z w64 c.in-Some.field.value) ≡ c.in-Some.field.value = search (rules, ints, to_z-of_z) in
    rw value
    (reads_more c.args.text.now c.loop-i.rest.now c.in-Some.field.rest.now c.loop-i.values c.in-Some.field.value c.count-count.result c.loop-i.i c.count-count.ensures.few c.loop-i-test.true c.loop-i.invariant c.in-Some.ensures.field)

pub returns-clause-fields : goal.returns-clause-fields
returns-clause-fields c =
    reads_all c.args.form c.args.text.now c.loop-i.rest.now c.loop-i.values c.count-count.result c.loop-i.i c.count-count.ensures.count c.loop-i-test.false c.loop-i.invariant
