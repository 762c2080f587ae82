use Rattle.std.proofs.Common.{◌-◌, ◌≤◌, length}
use Rattle.uc_grammar.specs.Spell.{Run}
use Rattle.uc_grammar.specs.Form.{Spells}
use Rattle.uc_grammar.specs.Tables.{sign_of, is_less}
use Rattle.uc_grammar.specs.Grammar.{event_form, inner}
use Rattle.uc_parse_simple.proofs.event.read_events.Given as goal

abbrev pub invariant-items : goal.invariant-items
invariant-items l = record { run : Run (λ o. is_less (sign_of o)) (Spells (inner l.room) event_form) l.tokens l.from l.at l.all.items; after : l.from ≤ l.at; within : l.at ≤ length l.tokens }

abbrev pub decreases-items : goal.decreases-items
decreases-items l = length l.tokens - l.at
