use Rattle.std.proofs.Common.{◌≡◌, ◌∷◌, sym, ◌∙◌, map, string_bytes}
use Rattle.uc_words.specs.Words.{least_of, most_of}
use Rattle.uc_words.specs.Rest.{parts_of}
use Rattle.uc_words.proofs.Bridge.{was_given, not_given, no_items}
use Rattle.uc_words.proofs.Faults.{leads_number, number_twice, number_missing, number_bad}
use Rattle.uc_words.proofs.pieces.read_option.Goals as goal

pub returns-then-has_number-clause-fault : goal.returns-then-has_number-clause-fault
returns-then-has_number-clause-fault c =
    number_twice (parts_of c.args.told) c.args.option (map string_bytes c.args.behind.now) _ (was_given _ (sym c.has_number.ensures ∙ c.if-has_number.true)) c.fault_at.ensures

pub returns-in_default-clause-fault : goal.returns-in_default-clause-fault
returns-in_default-clause-fault c =
    rw (no_items c.args.behind.now c.in_default.ensures.cases)
    (number_missing (parts_of c.args.told) c.args.option _ (not_given _ (sym c.has_number.ensures ∙ c.if-has_number.false)) c.fault_at-in_default.ensures)

pub returns-in_default-read_number-clause-fault : goal.returns-in_default-read_number-clause-fault
returns-in_default-read_number-clause-fault c =
    let whole : c.args.behind.now ≡ c.in-Some.digits.now ∷ c.in-Some.rest.now = c.in-Some.ensures.cases.0 in
    let text : c.as_str.result.now ≡ string_bytes c.in-Some.digits.now = c.as_str.ensures.value in
    let low : c.least.result ≡ least_of c.args.option = c.least.ensures in
    let high : c.most.result ≡ most_of c.args.option = c.most.ensures.value in
    rw whole
    (number_bad (parts_of c.args.told) c.args.option (string_bytes c.in-Some.digits.now) (map string_bytes c.in-Some.rest.now) _ (not_given _ (sym c.has_number.ensures ∙ c.if-has_number.false)) (rw (text, low, high) at c.in_default-read_number.ensures.none) c.fault_at-in_default-read_number.ensures)

pub returns-clause-leads : goal.returns-clause-leads
returns-clause-leads c =
    let whole : c.args.behind.now ≡ c.in-Some.digits.now ∷ c.in-Some.rest.now = c.in-Some.ensures.cases.0 in
    let text : c.as_str.result.now ≡ string_bytes c.in-Some.digits.now = c.as_str.ensures.value in
    let low : c.least.result ≡ least_of c.args.option = c.least.ensures in
    let high : c.most.result ≡ most_of c.args.option = c.most.ensures.value in
    rw (whole, c.with_number-more.ensures)
    (leads_number (parts_of c.args.told) c.args.option (string_bytes c.in-Some.digits.now) c.in-Some-read_number.number (map string_bytes c.in-Some.rest.now) (not_given _ (sym c.has_number.ensures ∙ c.if-has_number.false)) (rw (text, low, high) at c.in-Some-read_number.ensures.number))
