use Rattle.std.proofs.Common.{◌-◌, ◌<◌, ◌≤◌, length}
use Rattle.uc_grammar.specs.Spell.{ListRun}
use Rattle.uc_grammar.specs.Form.{Spells}
use Rattle.uc_grammar.specs.Tables.{sign_of, is_out}
use Rattle.uc_grammar.specs.Grammar.{out_form, inner}
use Rattle.uc_parse_simple.proofs.print.read_items.Given as goal

abbrev pub invariant-items : goal.invariant-items
invariant-items l = record { run : ListRun (Spells (inner l.room) out_form) (λ o. is_out (sign_of o)) (Spells (inner l.room) out_form) l.tokens l.from l.at l.all.items; after : l.from < l.at; within : l.at ≤ length l.tokens }

abbrev pub decreases-items : goal.decreases-items
decreases-items l = length l.tokens - l.at
