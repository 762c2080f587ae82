use Rattle.std.proofs.Common.{◌≡◌, [], ◌+◌, length, rules}
use Rattle.uc_journal.specs.Lines.{lines_before, NamesLineBehind}
use Rattle.uc_journal.proofs.Journals.{only, no_journal, first_bad, fault_is, none_is, some_left, none_left, read_more, read_none, read_all, shorter}
use Rattle.uc_journal.proofs.read.read_journal.Goals as goal

pub returns-in_default-clause-fault : goal.returns-in_default-clause-fault
returns-in_default-clause-fault c =
    let form = c.body_of-body.result.form in
    let entries = c.loop-body.entries.items in
    let count : c.len.result ≡ length entries = search rules in
    let names : NamesLineBehind (lines_before form + length entries) c.bad_line.result = rw (c.lines_before.ensures, count) at c.bad_line.ensures in
    fault_is c.args.text.now (lines_before form + length entries) c.bad_line.result names
    (first_bad form c.args.text.now c.loop-body.rest.now entries c.loop-body.invariant (some_left c.loop-body.rest.now c.is_empty.result c.is_empty.ensures c.loop-body-test.true) c.in_default.ensures.none)

pub returns-in_default-clause-none : goal.returns-in_default-clause-none
returns-in_default-clause-none c =
    none_is c.args.text.now c.bad_line.result
    (λ other t. no_journal c.body_of-body.result.form c.args.text.now c.loop-body.rest.now c.loop-body.entries.items other c.loop-body.invariant (some_left c.loop-body.rest.now c.is_empty.result c.is_empty.ensures c.loop-body-test.true) c.in_default.ensures.none t)

pub loop-body-preserved : goal.loop-body-preserved
loop-body-preserved c =
    rw c.in-Ok.ensures.items
    (read_more c.body_of-body.result.form c.args.text.now c.loop-body.rest.now c.in-Some.line.rest.now c.loop-body.entries.items c.in-Some.line.entry c.loop-body.invariant c.in-Some.ensures.line)

pub returns-clause-only : goal.returns-clause-only
returns-clause-only c other t =
    let none : c.loop-body.rest.now ≡ [] = none_left c.loop-body.rest.now c.is_empty.result c.is_empty.ensures c.loop-body-test.false in
    only c.body_of-body.result.form c.args.text.now c.loop-body.entries.items other (rw none at c.loop-body.invariant) t

pub loop-body-init : goal.loop-body-init
loop-body-init c = rw c.new-entries.ensures.items (read_none c.body_of-body.result.form c.args.text.now c.body_of-body.result.rest.now c.body_of-body.ensures)

pub loop-body-smaller : goal.loop-body-smaller
loop-body-smaller c = shorter c.body_of-body.result.form c.loop-body.rest.now c.in-Some.line.rest.now c.in-Some.line.entry c.in-Some.ensures.line

pub returns-clause-journal : goal.returns-clause-journal
returns-clause-journal c =
    let none : c.loop-body.rest.now ≡ [] = none_left c.loop-body.rest.now c.is_empty.result c.is_empty.ensures c.loop-body-test.false in
    read_all c.body_of-body.result.form c.args.text.now c.loop-body.entries.items (rw none at c.loop-body.invariant)
