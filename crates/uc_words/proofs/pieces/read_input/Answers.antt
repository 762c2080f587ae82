use Rattle.std.proofs.Common.{◌≡◌, ◌∷◌, false, true, sym, ap, ◌∙◌, map, string_bytes}
use Rattle.uc_words.specs.Words.{is_name}
use Rattle.uc_words.specs.Rest.{parts_of}
use Rattle.uc_words.proofs.Bridge.{was_told, not_told, no_items}
use Rattle.uc_words.proofs.Faults.{leads_input, input_twice, input_missing, input_bad}
use Rattle.uc_words.proofs.pieces.read_input.Goals as goal

pub returns-then-is_some-clause-fault : goal.returns-then-is_some-clause-fault
returns-then-is_some-clause-fault c =
    input_twice (parts_of c.args.told) (map string_bytes c.args.behind.now) _ (was_told c.args.told.input (sym c.is_some.ensures ∙ c.if-is_some.true)) c.fault_at.ensures

pub returns-in_default-clause-fault : goal.returns-in_default-clause-fault
returns-in_default-clause-fault c =
    rw (no_items c.args.behind.now c.in_default.ensures.cases)
    (input_missing (parts_of c.args.told) _ (not_told c.args.told.input (sym c.is_some.ensures ∙ c.if-is_some.false)) c.fault_at-in_default.ensures)

pub returns-then-not-is_name-clause-fault : goal.returns-then-not-is_name-clause-fault
returns-then-not-is_name-clause-fault c =
    let whole : c.args.behind.now ≡ c.in-Some.value.now ∷ c.in-Some.rest.now = c.in-Some.ensures.cases.0 in
    let name : is_name (string_bytes c.in-Some.value.now) ≡ false = ap is_name (sym c.as_str-name.ensures.value) ∙ sym c.is_name.ensures ∙ c.if-not-is_name.true in
    rw whole (input_bad (parts_of c.args.told) (string_bytes c.in-Some.value.now) (map string_bytes c.in-Some.rest.now) _ (not_told c.args.told.input (sym c.is_some.ensures ∙ c.if-is_some.false)) name c.fault_at-then-not-is_name.ensures)

pub returns-clause-leads : goal.returns-clause-leads
returns-clause-leads c =
    let whole : c.args.behind.now ≡ c.in-Some.value.now ∷ c.in-Some.rest.now = c.in-Some.ensures.cases.0 in
    let text : c.as_str-name.result.now ≡ string_bytes c.in-Some.value.now = c.as_str-name.ensures.value in
    let name : is_name (string_bytes c.in-Some.value.now) ≡ true = ap is_name (sym text) ∙ sym c.is_name.ensures ∙ c.if-not-is_name.false in
    rw (whole, text) (leads_input (parts_of c.args.told) (string_bytes c.in-Some.value.now) (map string_bytes c.in-Some.rest.now) (not_told c.args.told.input (sym c.is_some.ensures ∙ c.if-is_some.false)) name)
