use Rattle.std.proofs.Common.{◌≡◌, ◌∷◌, [], ◌-◌, false, true, sym, ap, ◌∙◌, map, string_bytes}
use Rattle.uc_tree.specs.declared.limits.TheConstants.{OBJECTS}
use Rattle.uc_words.specs.Words.{is_name}
use Rattle.uc_words.proofs.Bridge.{no_items, some_items, false_true}
use Rattle.uc_words.proofs.Whole.{journal_missing, journal_bad, object_missing, object_bad, object_more}
use Rattle.uc_words.proofs.commands.read_explain.Goals as goal

pub returns-in_default-clause-fault : goal.returns-in_default-clause-fault
returns-in_default-clause-fault c = rw (no_items c.args.words.now c.in_default.ensures.cases) journal_missing

pub returns-then-not-is_name-clause-fault : goal.returns-then-not-is_name-clause-fault
returns-then-not-is_name-clause-fault c =
    let whole : c.args.words.now ≡ c.in-Some.first.now ∷ c.in-Some.behind.now = c.in-Some.ensures.cases.0 in
    let name : is_name (string_bytes c.in-Some.first.now) ≡ false = ap is_name (sym c.as_str-journal.ensures.value) ∙ sym c.is_name.ensures ∙ c.if-not-is_name.true in
    rw whole (journal_bad (string_bytes c.in-Some.first.now) (map string_bytes c.in-Some.behind.now) (false_true _ name))

pub returns-in_default-split_first-clause-fault :
    goal.returns-in_default-split_first-clause-fault
returns-in_default-split_first-clause-fault c =
    let whole : c.args.words.now ≡ c.in-Some.first.now ∷ c.in-Some.behind.now = c.in-Some.ensures.cases.0 in
    let none : c.in-Some.behind.now ≡ [] = no_items c.in-Some.behind.now c.in_default-split_first.ensures.cases in
    let name : is_name (string_bytes c.in-Some.first.now) ≡ true = ap is_name (sym c.as_str-journal.ensures.value) ∙ sym c.is_name.ensures ∙ c.if-not-is_name.false in
    rw (whole, none) (object_missing (string_bytes c.in-Some.first.now) name)

pub returns-in_default-read_number-clause-fault :
    goal.returns-in_default-read_number-clause-fault
returns-in_default-read_number-clause-fault c =
    let whole : c.args.words.now ≡ c.in-Some.first.now ∷ c.in-Some.behind.now = c.in-Some.ensures.cases.0 in
    let more : c.in-Some.behind.now ≡ c.in-Some-split_first.second.now ∷ c.in-Some-split_first.more.now = c.in-Some-split_first.ensures.cases.0 in
    let name : is_name (string_bytes c.in-Some.first.now) ≡ true = ap is_name (sym c.as_str-journal.ensures.value) ∙ sym c.is_name.ensures ∙ c.if-not-is_name.false in
    let text : c.as_str.result.now ≡ string_bytes c.in-Some-split_first.second.now = c.as_str.ensures.value in
    let most : c.from.result ≡ OBJECTS - 1 = c.from.ensures in
    rw (whole, more) (object_bad (string_bytes c.in-Some.first.now) (string_bytes c.in-Some-split_first.second.now) (map string_bytes c.in-Some-split_first.more.now) name (rw (text, most) at c.in_default-read_number.ensures.none))

pub returns-then-not-is_empty-clause-fault : goal.returns-then-not-is_empty-clause-fault
returns-then-not-is_empty-clause-fault c =
    let whole : c.args.words.now ≡ c.in-Some.first.now ∷ c.in-Some.behind.now = c.in-Some.ensures.cases.0 in
    let more : c.in-Some.behind.now ≡ c.in-Some-split_first.second.now ∷ c.in-Some-split_first.more.now = c.in-Some-split_first.ensures.cases.0 in
    let name : is_name (string_bytes c.in-Some.first.now) ≡ true = ap is_name (sym c.as_str-journal.ensures.value) ∙ sym c.is_name.ensures ∙ c.if-not-is_name.false in
    let text : c.as_str.result.now ≡ string_bytes c.in-Some-split_first.second.now = c.as_str.ensures.value in
    let most : c.from.result ≡ OBJECTS - 1 = c.from.ensures in
    rw (whole, more) (object_more (string_bytes c.in-Some.first.now) (string_bytes c.in-Some-split_first.second.now) string_bytes c.in-Some-split_first.more.now c.in-Some-read_number.object name (rw (text, most) at c.in-Some-read_number.ensures.number) (some_items c.in-Some-split_first.more.now c.is_empty.result c.is_empty.ensures c.if-not-is_empty.true))
