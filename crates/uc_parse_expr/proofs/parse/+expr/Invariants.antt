use Rattle.std.proofs.Common.{◌+◌, ◌*◌, ◌-◌, ◌≤◌, ◌<◌, length}
use Rattle.uc_grammar.specs.Spell.{Run, ListRun}
use Rattle.uc_grammar.specs.Form.{Spells, skip, inside}
use Rattle.uc_grammar.specs.Names.{expr_name}
use Rattle.uc_grammar.specs.Tables.{sign_of, is_part, is_comma, is_binary}
use Rattle.uc_grammar.specs.Grammar.{part_form, link_form, operand_form, inner}
use Rattle.uc_parse_expr.specs.Levels.{rank}
use Rattle.uc_parse_expr.proofs.parse.+expr.Given as goal

abbrev pub invariant-read_parts-items : goal.invariant-read_parts-items
invariant-read_parts-items l = record { run : Run (λ o. is_part (sign_of o)) (Spells (inner l.room) part_form) l.tokens l.from l.at l.all.items; after : l.from ≤ l.at; within : l.at ≤ length l.tokens }

abbrev pub decreases-read_parts-items : goal.decreases-read_parts-items
decreases-read_parts-items l = length l.tokens - l.at

abbrev pub invariant-read_links-items : goal.invariant-read_links-items
invariant-read_links-items l = record { run : Run (λ o. is_binary l.level (sign_of o)) (Spells (inner l.room) (link_form l.level (operand_form l.level))) l.tokens l.from l.at l.all.items; after : l.from ≤ l.at; within : l.at ≤ length l.tokens }

abbrev pub decreases-read_links-items : goal.decreases-read_links-items
decreases-read_links-items l = length l.tokens - l.at

abbrev pub invariant-read_arguments-items : goal.invariant-read_arguments-items
invariant-read_arguments-items l = record { run : ListRun (Spells (inner l.room) (inside expr_name)) (λ o. is_comma (sign_of o)) (Spells (inner l.room) (skip (inside expr_name))) l.tokens l.from l.at l.all.items; after : l.from < l.at; within : l.at ≤ length l.tokens }

abbrev pub decreases-read_arguments-items : goal.decreases-read_arguments-items
decreases-read_arguments-items l = length l.tokens - l.at

abbrev pub decreases-read_inner_expr : goal.decreases-read_inner_expr
decreases-read_inner_expr l = l.room * 45 + 0

abbrev pub decreases-read_inner_unary : goal.decreases-read_inner_unary
decreases-read_inner_unary l = l.room * 45 + 1

abbrev pub decreases-read_inner_right : goal.decreases-read_inner_right
decreases-read_inner_right l = l.room * 45 + 2

abbrev pub decreases-read_primary : goal.decreases-read_primary
decreases-read_primary l = l.room * 45 + 3

abbrev pub decreases-read_arguments : goal.decreases-read_arguments
decreases-read_arguments l = l.room * 45 + 4

abbrev pub decreases-read_closed_arguments : goal.decreases-read_closed_arguments
decreases-read_closed_arguments l = l.room * 45 + 5

abbrev pub decreases-read_part : goal.decreases-read_part
decreases-read_part l = l.room * 45 + 6

abbrev pub decreases-read_parts : goal.decreases-read_parts
decreases-read_parts l = l.room * 45 + 7

abbrev pub decreases-read_postfix_after : goal.decreases-read_postfix_after
decreases-read_postfix_after l = l.room * 45 + 8

abbrev pub decreases-read_postfix : goal.decreases-read_postfix
decreases-read_postfix l = l.room * 45 + 9

abbrev pub decreases-read_unary : goal.decreases-read_unary
decreases-read_unary l = l.room * 45 + 10

abbrev pub decreases-read_right_after : goal.decreases-read_right_after
decreases-read_right_after l = l.room * 45 + 41

abbrev pub decreases-read_right : goal.decreases-read_right
decreases-read_right l = l.room * 45 + 42

abbrev pub decreases-read_expr_after : goal.decreases-read_expr_after
decreases-read_expr_after l = l.room * 45 + 43

abbrev pub decreases-read_expr : goal.decreases-read_expr
decreases-read_expr l = l.room * 45 + 44

abbrev pub decreases-read_operand : goal.decreases-read_operand
decreases-read_operand l = l.room * 45 + (rank l.level * 5 + 11)

abbrev pub decreases-read_link : goal.decreases-read_link
decreases-read_link l = l.room * 45 + (rank l.level * 5 + 12)

abbrev pub decreases-read_links : goal.decreases-read_links
decreases-read_links l = l.room * 45 + (rank l.level * 5 + 13)

abbrev pub decreases-read_chain_after : goal.decreases-read_chain_after
decreases-read_chain_after l = l.room * 45 + (rank l.level * 5 + 14)

abbrev pub decreases-read_level_after : goal.decreases-read_level_after
decreases-read_level_after l = l.room * 45 + (rank l.level * 5 + 15)
