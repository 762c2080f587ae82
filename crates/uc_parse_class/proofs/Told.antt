-- What the answer of the public call says in plain words.
use Rattle.std.proofs.Common.{◌≡◌, ℕ, ◌+◌, ◌*◌, ◌≤◌, List, length, refl, subst, arith}
use Rattle.uc_tree.specs.declared.token.Token.{Token}
use Rattle.uc_tree.specs.Programs.{Program}
use Rattle.uc_grammar.specs.declared.fault.ParseFault.{ParseFault}
use Rattle.uc_grammar.specs.declared.fault.ParseFault.TheVariants.{Syntax, TooDeep, NoMemory}
use Rattle.uc_grammar.specs.Form.{Spells, Fails}
use Rattle.uc_grammar.specs.Grammar.{program_form, inner, faults}
use Rattle.uc_grammar.specs.Text.{IsProgram, ProgramFails}
use Rattle.uc_grammar.proofs.AllForms.{one_piece}
use Rattle.uc_grammar.proofs.Told.{syntax_refuses, too_deep_refuses}
use Rattle.uc_grammar.proofs.Far.{program_far}
use Rattle.uc_grammar.proofs.First.{first_too_deep}
use Rattle.uc_parse_class.specs.Found.{OnlyProgram, NoProgram, NeverProgram, FirstTooDeep}

pub is_program : (room : ℕ) (ts : List Token) (to : ℕ) (p : Program) → Spells (inner room) program_form ts 0 to p → IsProgram room ts 0 to p
unfolding IsProgram
is_program room ts to p r = r

pub program_fails : (room : ℕ) (ts : List Token) (f : ParseFault) → Fails (inner room) (faults room) program_form ts 0 f → ProgramFails room ts 0 f
unfolding ProgramFails
program_fails room ts f h = h

pub only_program : (room : ℕ) (ts : List Token) (p : Program) → Spells (inner room) program_form ts 0 (length ts) p → OnlyProgram ts p
unfolding IsProgram
only_program room ts p r = λ levels to q s. one_piece program_form levels room ts 0 to (length ts) q p s r

pub no_program : (room : ℕ) (ts : List Token) (f : ParseFault) → Fails (inner room) (faults room) program_form ts 0 f → (f ≡ NoMemory → ⊥) → NoProgram room ts
unfolding IsProgram
no_program room ts (Syntax p) h other = λ to q r. syntax_refuses program_form room ts 0 p h room ts to q (λ i lt. refl) r
no_program room ts (TooDeep p) h other = λ to q r. too_deep_refuses program_form room ts 0 p h to q r
no_program room ts NoMemory h other = absurd (other refl)

pub never_program : (room : ℕ) (ts : List Token) (f : ParseFault) → Fails (inner room) (faults room) program_form ts 0 f → (p : ℕ) → f ≡ Syntax p → NeverProgram ts p
unfolding IsProgram
never_program room ts f h p e = λ us levels same to v r. syntax_refuses program_form room ts 0 p (subst (λ g. Fails (inner room) (faults room) program_form ts 0 g) e h) levels us to v same r

pub far_program : (room : ℕ) (ts : List Token) (f : ParseFault) → Fails (inner room) (faults room) program_form ts 0 f → (k : ℕ) → f ≡ TooDeep k → room ≤ 2 * k + 1
far_program room ts f h k e = omega (arith, program_far room ts 0 k (subst (λ g. Fails (inner room) (faults room) program_form ts 0 g) e h))

pub first_program : (room : ℕ) (ts : List Token) (f : ParseFault) → Fails (inner room) (faults room) program_form ts 0 f → (k : ℕ) → f ≡ TooDeep k → FirstTooDeep room ts k
unfolding IsProgram
first_program room ts f h k e = λ more to v r. first_too_deep program_form room more ts 0 to k v (subst (λ g. Fails (inner room) (faults room) program_form ts 0 g) e h) r
