use Rattle.std.proofs.Common.{◌-◌, ◌<◌, ◌≤◌, length}
use Rattle.uc_grammar.specs.Spell.{ListRun}
use Rattle.uc_grammar.specs.Form.{Spells, skip}
use Rattle.uc_grammar.specs.Tables.{sign_of, is_comma}
use Rattle.uc_grammar.specs.Grammar.{declarator_form, inner}
use Rattle.uc_parse_simple.proofs.declare.read_declarators.Given as goal

abbrev pub invariant-items : goal.invariant-items
invariant-items l = record { run : ListRun (Spells (inner l.room) declarator_form) (λ o. is_comma (sign_of o)) (Spells (inner l.room) (skip declarator_form)) l.tokens l.from l.at l.all.items; after : l.from < l.at; within : l.at ≤ length l.tokens }

abbrev pub decreases-items : goal.decreases-items
decreases-items l = length l.tokens - l.at
