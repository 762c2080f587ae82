use Rattle.std.proofs.Common.{◌≡◌, ◌∙◌, ap, sym, pos, to_z, of_z, w64, rules}
use Rattle.std.proofs.lemmas.Int.{to_z-of_z, ints}
use Rattle.std.proofs.lemmas.List.{take_rest}
use Rattle.uc_journal.proofs.Numbers.{digit_field}
use Rattle.uc_journal.proofs.fields.read_digit.Goals as goal

pub returns : goal.returns
returns c =
    let value : to_z w64 (of_z w64 c.from.result) ≡ c.from.result = search (rules, ints, to_z-of_z) in
    rw take_rest
    (digit_field c.args.text.now _ c.in-len3-up.len_at_least c.if-space-ne32.false (sym c.is_digit.ensures ∙ c.if-not-is_digit.false) (sym c.is_digit-2.ensures ∙ c.if-is_digit.false) (value ∙ c.from.ensures ∙ ap pos c.saturating_sub.ensures))
