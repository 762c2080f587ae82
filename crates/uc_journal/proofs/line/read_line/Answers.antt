use Rattle.std.proofs.Common.{◌≡◌, sym, ◌∙◌}
use Rattle.std.specs.List.{prefix_len}
use Rattle.std.proofs.lemmas.List.{take_rest}
use Rattle.uc_journal.proofs.Words.{same_kind, no_space}
use Rattle.uc_journal.proofs.Entries.{has_line, line_from, no_numbers, read_of}
use Rattle.uc_journal.proofs.line.read_line.Goals as goal

pub returns-in_default-read_fields-clause-none : goal.returns-in_default-read_fields-clause-none
returns-in_default-read_fields-clause-none c e rest l =
    let n : c.word_length-length.result ≡ prefix_len no_space c.args.text.now = c.word_length-length.ensures.before in
    no_numbers c.args.form c.args.text.now e rest (rw (take_rest, n) at c.in_default-read_fields.ensures.none) l

pub returns-in_default-entry_of-clause-none : goal.returns-in_default-entry_of-clause-none
returns-in_default-entry_of-clause-none c e rest l =
    let h = has_line c.args.form c.args.text.now e rest l in
    let n : c.word_length-length.result ≡ prefix_len no_space c.args.text.now = c.word_length-length.ensures.before in
    let kind : e.kind ≡ c.in-Some.kind = same_kind e.kind c.in-Some.kind (sym h.word ∙ rw n at c.in-Some.ensures.kind) in
    let read = read_of c.args.form c.args.text.now e rest _ _ l (rw (take_rest, n) at c.in-Some-read_fields.ensures.fields) in
    c.in_default-entry_of.ensures.none (rw (kind, read.numbers) at l.fit.fields)

pub returns-in-Some-behind_newline-clause-line : goal.returns-in-Some-behind_newline-clause-line
returns-in-Some-behind_newline-clause-line c =
    line_from c.args.form c.args.text.now c.in-Some-entry_of.entry c.in-Some-read_fields.fields.rest.now c.in-Some-behind_newline.rest.now c.in-Some.kind c.in-Some-read_fields.fields.values c.word_length-length.result c.in-Some.ensures.kind (rw take_rest at c.in-Some-read_fields.ensures.fields) c.in-Some-entry_of.ensures.kind c.in-Some-entry_of.ensures.fields c.in-Some-entry_of.ensures.fit c.in-Some-behind_newline.ensures.newline

pub returns-in-None-clause-none : goal.returns-in-None-clause-none
returns-in-None-clause-none c e rest l =
    let n : c.word_length-length.result ≡ prefix_len no_space c.args.text.now = c.word_length-length.ensures.before in
    let read = read_of c.args.form c.args.text.now e rest _ _ l (rw (take_rest, n) at c.in-Some-read_fields.ensures.fields) in
    c.in-None.ensures.none rest read.newline

pub returns-in_default-clause-none : goal.returns-in_default-clause-none
returns-in_default-clause-none c e rest l =
    let h = has_line c.args.form c.args.text.now e rest l in
    let n : c.word_length-length.result ≡ prefix_len no_space c.args.text.now = c.word_length-length.ensures.before in
    (rw n at c.in_default.ensures.none) e.kind h.word
