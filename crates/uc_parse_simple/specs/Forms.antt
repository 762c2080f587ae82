-- Pieces of the grammar of plain statements.
use Rattle.std.specs.Prelude.{ℕ, List, Option, Some, Bool, true, false}
use Rattle.uc_tree.specs.declared.kinds.Base.TheVariants as base
use Rattle.uc_tree.specs.declared.kinds.MemberName.{MemberName}
use Rattle.uc_tree.specs.declared.pos.Pos.{Pos}
use Rattle.uc_tree.specs.declared.token.TokenKind.{TokenKind}
use Rattle.uc_tree.specs.declared.token.TokenKind.TheVariants as token
use Rattle.uc_tree.specs.declared.token.Sign.TheVariants as sign
use Rattle.uc_tree.specs.Expressions.{Expr}
use Rattle.uc_tree.specs.Expressions as expr
use Rattle.uc_tree.specs.Statements.{OutItem}
use Rattle.uc_grammar.specs.Names.{Simple, Declares, Evaluates}
use Rattle.uc_grammar.specs.Form.{Form, bind, apply, listed, skip}
use Rattle.uc_grammar.specs.Tables.{sign_of, is_in, is_out}
use Rattle.uc_grammar.specs.Grammar.{Caught, declarators_form, expr_from, comma_list, maybe_sign, name_form, maybe_name_closed, one_event, member_name_form, out_form, postfix_form}

-- name '&'? name? ')', of a handler
abbrev pub one_event_form : Form Caught
one_event_form = bind name_form (λ n. bind (maybe_sign sign.And) (λ r. apply (one_event n) maybe_name_closed))

-- ('~'? name),+
abbrev pub member_names_form : Form (List MemberName)
member_names_form = comma_list member_name_form

-- out out*
abbrev pub out_items_form : Form (List OutItem)
out_items_form = listed out_form (λ o. is_out (sign_of o)) out_form

-- postfix ('>>' postfix)*
abbrev pub places_form : Form (List Expr)
places_form = listed postfix_form (λ o. is_in (sign_of o)) (skip postfix_form)

-- the tokens that are names
abbrev pub is_name : Option TokenKind → Bool
is_name (Some (token.Name n)) = true
is_name _ = false

-- what follows a first name that is the base of a declaration, and what follows one that begins an expression
abbrev pub named_decl : Pos → List ℕ → Form Simple
named_decl pos n = apply (Declares pos (base.Named n)) declarators_form

abbrev pub named_expr : Pos → List ℕ → Form Simple
named_expr pos n = apply (Evaluates pos) (expr_from pos (expr.Name pos n))
