use Rattle.std.proofs.Common.{◌≡◌, ◌∷◌, map, string_bytes}
use Rattle.uc_tree.specs.declared.limits.TheConstants.{MAKE_MAX}
use Rattle.uc_words.proofs.Bridge.{no_items, some_items}
use Rattle.uc_words.proofs.Whole.{make_missing, make_bad, make_more_in}
use Rattle.uc_words.proofs.commands.read_make.Goals as goal

pub returns-in_default-clause-fault : goal.returns-in_default-clause-fault
returns-in_default-clause-fault c = rw (no_items c.args.words.now c.in_default.ensures.cases) make_missing

pub returns-in_default-read_number-clause-fault : goal.returns-in_default-read_number-clause-fault
returns-in_default-read_number-clause-fault c =
    let whole : c.args.words.now ≡ c.in-Some.word.now ∷ c.in-Some.more.now = c.in-Some.ensures.cases.0 in
    let text : c.as_str.result.now ≡ string_bytes c.in-Some.word.now = c.as_str.ensures.value in
    let most : c.from.result ≡ MAKE_MAX = c.from.ensures in
    rw whole (make_bad (string_bytes c.in-Some.word.now) (map string_bytes c.in-Some.more.now) (rw (text, most) at c.in_default-read_number.ensures.none))

pub returns-then-not-is_empty-clause-fault : goal.returns-then-not-is_empty-clause-fault
returns-then-not-is_empty-clause-fault c =
    let whole : c.args.words.now ≡ c.in-Some.word.now ∷ c.in-Some.more.now = c.in-Some.ensures.cases.0 in
    let text : c.as_str.result.now ≡ string_bytes c.in-Some.word.now = c.as_str.ensures.value in
    let most : c.from.result ≡ MAKE_MAX = c.from.ensures in
    rw whole (make_more_in (string_bytes c.in-Some.word.now) string_bytes c.in-Some.more.now c.in-Some-read_number.n (some_items c.in-Some.more.now c.is_empty.result c.is_empty.ensures c.if-not-is_empty.true) (rw (text, most) at c.in-Some-read_number.ensures.number))
