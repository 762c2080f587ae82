use Rattle.std.proofs.Common.{sym, ◌∙◌, ap}
use Rattle.uc_tree.specs.Tokens.{text_ending, text_found}
use Rattle.uc_lex.proofs.Endings.{behind_all-open}
use Rattle.uc_lex.proofs.literals.text_at.Goals as goal

pub returns : goal.returns
returns c =
    sym (ap text_found (ap text_ending (sym c.text_from-body.ensures) ∙ behind_all-open c.pieces.value.items c.text_from-body.result.now c.pieces.at c.pieces-test.false c.pieces.invariant.goes_on))
