-- The lists of the grammar of expressions.
use Rattle.std.specs.Prelude.{List}
use Rattle.uc_tree.specs.Expressions.{Part, Link}
use Rattle.uc_grammar.specs.declared.level.Level.{Level}
use Rattle.uc_grammar.specs.Form.{Form, many}
use Rattle.uc_grammar.specs.Tables.{sign_of, is_part, is_binary}
use Rattle.uc_grammar.specs.Grammar.{part_form, link_form, operand_form}

-- part*
abbrev pub parts_form : Form (List Part)
parts_form = many (λ o. is_part (sign_of o)) part_form

-- the operators of one level, each with its right operand
abbrev pub links_form : Level → Form (List Link)
links_form l = many (λ o. is_binary l (sign_of o)) (link_form l (operand_form l))
