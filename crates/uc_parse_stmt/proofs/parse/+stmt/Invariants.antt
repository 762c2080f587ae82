use Rattle.std.proofs.Common.{◌+◌, ◌*◌, ◌-◌, ◌≤◌, ◌<◌, length}
use Rattle.uc_grammar.specs.Spell.{Run, ListRun}
use Rattle.uc_grammar.specs.Form.{Spells, skip, inside}
use Rattle.uc_grammar.specs.Names.{block_stmt_name}
use Rattle.uc_grammar.specs.Tables.{word_of, is_or, is_handler, in_braces}
use Rattle.uc_grammar.specs.Grammar.{handler_form, clause_form, inner}
use Rattle.uc_parse_stmt.specs.Heads.{handler_rest, clause_rest}
use Rattle.uc_parse_stmt.proofs.parse.+stmt.Given as goal

abbrev pub invariant-read_stmts-items : goal.invariant-read_stmts-items
invariant-read_stmts-items l = record { run : Run in_braces (Spells (inner l.room) (inside block_stmt_name)) l.tokens l.from l.at l.all.items; after : l.from ≤ l.at; within : l.at ≤ length l.tokens }

abbrev pub decreases-read_stmts-items : goal.decreases-read_stmts-items
decreases-read_stmts-items l = length l.tokens - l.at

abbrev pub invariant-read_handlers-items : goal.invariant-read_handlers-items
invariant-read_handlers-items l = record { run : ListRun (Spells (inner l.room) (handler_rest l.fn.first)) (λ o. is_handler (word_of o)) (Spells (inner l.room) handler_form) l.tokens l.from l.at l.all.items; after : l.from < l.at; within : l.at ≤ length l.tokens }

abbrev pub decreases-read_handlers-items : goal.decreases-read_handlers-items
decreases-read_handlers-items l = length l.tokens - l.at

abbrev pub invariant-read_clauses-items : goal.invariant-read_clauses-items
invariant-read_clauses-items l = record { run : ListRun (Spells (inner l.room) (clause_rest l.fn.first)) (λ o. is_or (word_of o)) (Spells (inner l.room) (skip clause_form)) l.tokens l.from l.at l.all.items; after : l.from < l.at; within : l.at ≤ length l.tokens }

abbrev pub decreases-read_clauses-items : goal.decreases-read_clauses-items
decreases-read_clauses-items l = length l.tokens - l.at

abbrev pub decreases-read_inner_stmt : goal.decreases-read_inner_stmt
decreases-read_inner_stmt l = l.room * 12 + 0

abbrev pub decreases-read_maybe_stmt : goal.decreases-read_maybe_stmt
decreases-read_maybe_stmt l = l.room * 12 + 1

abbrev pub decreases-read_bodies : goal.decreases-read_bodies
decreases-read_bodies l = l.room * 12 + 2

abbrev pub decreases-read_headed : goal.decreases-read_headed
decreases-read_headed l = l.room * 12 + 3

abbrev pub decreases-read_stmts : goal.decreases-read_stmts
decreases-read_stmts l = l.room * 12 + 4

abbrev pub decreases-read_block_rest : goal.decreases-read_block_rest
decreases-read_block_rest l = l.room * 12 + 5

abbrev pub decreases-read_handlers : goal.decreases-read_handlers
decreases-read_handlers l = l.room * 12 + 6

abbrev pub decreases-read_try : goal.decreases-read_try
decreases-read_try l = l.room * 12 + 7

abbrev pub decreases-read_clauses : goal.decreases-read_clauses
decreases-read_clauses l = l.room * 12 + 8

abbrev pub decreases-read_accept : goal.decreases-read_accept
decreases-read_accept l = l.room * 12 + 9

abbrev pub decreases-read_begun : goal.decreases-read_begun
decreases-read_begun l = l.room * 12 + 10

abbrev pub decreases-read_stmt : goal.decreases-read_stmt
decreases-read_stmt l = l.room * 12 + 11
