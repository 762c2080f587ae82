use Rattle.std.proofs.Common.{◌-◌, ◌≤◌, length}
use Rattle.uc_grammar.specs.Spell.{ListRun}
use Rattle.uc_grammar.specs.Form.{Spells}
use Rattle.uc_grammar.specs.Tables.{any_token}
use Rattle.uc_grammar.specs.Grammar.{item_form, inner}
use Rattle.uc_parse_class.proofs.parse.read_items.Given as goal

abbrev pub invariant-items : goal.invariant-items
invariant-items l = record { run : ListRun (Spells (inner l.room) item_form) any_token (Spells (inner l.room) item_form) l.tokens 0 l.at l.all.items; within : l.at ≤ length l.tokens }

abbrev pub decreases-items : goal.decreases-items
decreases-items l = length l.tokens - l.at
