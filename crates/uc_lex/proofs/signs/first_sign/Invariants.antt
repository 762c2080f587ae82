use Rattle.std.proofs.Common.{◌≡◌, drop}
use Rattle.std.specs.Prelude.{find}
use Rattle.uc_tree.specs.Spelling.{sign_spelling}
use Rattle.uc_tree.specs.Tokens.{begins}
use Rattle.uc_lex.proofs.signs.first_sign.Given as goal

-- the text begins with no sign that was passed
abbrev pub invariant-loop-sign : goal.invariant-loop-sign
invariant-loop-sign l = find (λ s. begins l.rest (sign_spelling s)) l.signs ≡ find (λ s. begins l.rest (sign_spelling s)) (drop l.sign-index l.signs)
