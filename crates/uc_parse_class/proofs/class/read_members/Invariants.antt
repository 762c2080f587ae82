use Rattle.std.proofs.Common.{◌≡◌, ◌-◌, ◌≤◌, List, length}
use Rattle.uc_tree.specs.declared.kinds.Access.TheVariants as access
use Rattle.uc_grammar.specs.Names.{ClassPart, part_name}
use Rattle.uc_grammar.specs.Spell.{Run}
use Rattle.uc_grammar.specs.Form.{Spells, inside}
use Rattle.uc_grammar.specs.Tables.{in_braces}
use Rattle.uc_grammar.specs.Grammar.{members_of, inner}
use Rattle.uc_parse_class.specs.Parts.{access_after}
use Rattle.uc_parse_class.proofs.class.read_members.Given as goal

abbrev pub invariant-parts : goal.invariant-parts
invariant-parts l = record { parts : List ClassPart; run : Run in_braces (Spells (inner l.room) (inside part_name)) l.tokens l.from l.at parts; listed : l.members.items ≡ members_of access.Private parts; last : l.access ≡ access_after access.Private parts; after : l.from ≤ l.at; within : l.at ≤ length l.tokens }

abbrev pub decreases-parts : goal.decreases-parts
decreases-parts l = length l.tokens - l.at
