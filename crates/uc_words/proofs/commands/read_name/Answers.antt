use Rattle.std.proofs.Common.{◌≡◌, ◌∷◌, false, true, sym, ap, ◌∙◌, map, string_bytes}
use Rattle.uc_words.specs.Words.{is_name}
use Rattle.uc_words.proofs.Bridge.{no_items, some_items, false_true}
use Rattle.uc_words.proofs.Whole.{file_missing, file_bad, file_more_in}
use Rattle.uc_words.proofs.commands.read_name.Goals as goal

pub returns-in_default-clause-fault : goal.returns-in_default-clause-fault
returns-in_default-clause-fault c command is = rw (no_items c.args.words.now c.in_default.ensures.cases) (file_missing command is)

pub returns-then-not-is_name-clause-fault : goal.returns-then-not-is_name-clause-fault
returns-then-not-is_name-clause-fault c command is =
    let whole : c.args.words.now ≡ c.in-Some.word.now ∷ c.in-Some.more.now = c.in-Some.ensures.cases.0 in
    let name : is_name (string_bytes c.in-Some.word.now) ≡ false = ap is_name (sym c.as_str-file.ensures.value) ∙ sym c.is_name.ensures ∙ c.if-not-is_name.true in
    rw whole (file_bad command is (string_bytes c.in-Some.word.now) (map string_bytes c.in-Some.more.now) (false_true _ name))

pub returns-then-not-is_empty-clause-fault : goal.returns-then-not-is_empty-clause-fault
returns-then-not-is_empty-clause-fault c command is =
    let whole : c.args.words.now ≡ c.in-Some.word.now ∷ c.in-Some.more.now = c.in-Some.ensures.cases.0 in
    let name : is_name (string_bytes c.in-Some.word.now) ≡ true = ap is_name (sym c.as_str-file.ensures.value) ∙ sym c.is_name.ensures ∙ c.if-not-is_name.false in
    rw whole (file_more_in command is (string_bytes c.in-Some.word.now) string_bytes c.in-Some.more.now (some_items c.in-Some.more.now c.is_empty.result c.is_empty.ensures c.if-not-is_empty.true) name)
