-- Pieces of the grammar of programs.
use Rattle.std.specs.Prelude.{ℕ, List, Bool, false}
use Rattle.uc_tree.specs.declared.kinds.Access.TheVariants as access
use Rattle.uc_tree.specs.declared.kinds.Base.{Base}
use Rattle.uc_tree.specs.declared.kinds.Base.TheVariants as base
use Rattle.uc_tree.specs.declared.kinds.Kind.{Kind}
use Rattle.uc_tree.specs.declared.kinds.Owner.{Owner}
use Rattle.uc_tree.specs.declared.kinds.Owner.TheVariants as owner
use Rattle.uc_tree.specs.declared.kinds.Param.{Param}
use Rattle.uc_tree.specs.declared.kinds.Role.TheVariants as role
use Rattle.uc_tree.specs.declared.pos.Pos.{Pos}
use Rattle.uc_tree.specs.declared.token.Sign.TheVariants as sign
use Rattle.uc_tree.specs.Expressions.{Expr}
use Rattle.uc_tree.specs.Statements.{Declarator}
use Rattle.uc_tree.specs.Programs.{Init, Member, MemberForm, Item}
use Rattle.uc_tree.specs.Programs as prog
use Rattle.uc_grammar.specs.Names.{ClassPart, MemberPart, part_name}
use Rattle.uc_grammar.specs.Form.{Form, bind, apply, many, listed, skip, look, inside, empty}
use Rattle.uc_grammar.specs.Tables.{word_of, sign_of, is_comma, in_braces, any_token}
use Rattle.uc_grammar.specs.Grammar.{mutex_kind_at, comma_list, param_form, init_form, field_form, field_rest, expect_sign, sign_or, name_form, before, expr_form, params_form, plain_form, maker_form, sig_of, role_of, based_member, member_maker, based_item, outer_maker, outer_routine, free_routine, members_of, forward_of, class_rest, item_form, mark_form, member_form, member_routine, fields_rest}

-- what follows the '_Mutex' of a kind
abbrev pub mutex_kind_form : Form Kind
mutex_kind_form = look (λ o. mutex_kind_at (word_of o))

-- param,+
abbrev pub param_list_form : Form (List Param)
param_list_form = comma_list param_form

-- (name '(' expr,* ')'),+
abbrev pub init_list_form : Form (List Init)
init_list_form = comma_list init_form

-- what follows the first name of fields
abbrev pub field_list_form : Pos → Bool → List ℕ → Form (List Declarator)
field_list_form pos r n = listed (field_rest pos r n) (λ o. is_comma (sign_of o)) (skip field_form)

-- what follows the base and the first name of a member
abbrev pub based_rest : Pos → Base → Pos → List ℕ → Form MemberForm
based_rest at b pos n = sign_or sign.OpenParen (member_routine at b n) (fields_rest at b pos false n)

-- what follows the '~' of a member
abbrev pub destructor_form : Pos → Form MemberForm
destructor_form pos = bind name_form (λ n. expect_sign sign.OpenParen (member_maker pos role.Destructor n))

-- what follows the name that a member begins with
abbrev pub named_member : Pos → List ℕ → Form MemberForm
named_member pos n = sign_or sign.OpenParen (member_maker pos role.Constructor n) (based_member pos (base.Named n))

-- mark? member
abbrev pub marked_form : Pos → Form ClassPart
marked_form pos = bind mark_form (λ m. apply (MemberPart pos m) member_form)

-- part*, as the members that the parts are
abbrev pub class_members_form : Form (List Member)
class_members_form = apply (members_of access.Private) (many in_braces (inside part_name))

-- what follows the name of a class
abbrev pub class_after : Pos → Kind → List ℕ → Form Item
class_after pos k n = sign_or sign.Semicolon (empty (forward_of pos k n)) (expect_sign sign.OpenBrace (class_rest pos k n))

-- '=' expr ';'
abbrev pub value_form : Form Expr
value_form = expect_sign sign.Assign (before expr_form sign.Semicolon)

-- what follows the name of a routine that is defined outside its class
abbrev pub outer_after : Pos → Base → Owner → List ℕ → Form Item
outer_after pos b o m = bind params_form (λ ps. apply prog.RoutineItem (plain_form (sig_of pos o role.Plain b m ps)))

-- what follows the name of a constructor or a destructor that is defined outside its class
abbrev pub maker_after : Pos → List ℕ → Bool → List ℕ → Form Item
maker_after pos c d m = bind params_form (λ ps. apply prog.RoutineItem (maker_form (sig_of pos (owner.Class c) (role_of d) base.Void m ps)))

-- what follows the base and the first name of an item
abbrev pub based_after : Pos → Base → List ℕ → Form Item
based_after pos b n = sign_or sign.Scope (outer_routine pos b (owner.Class n)) (free_routine pos b n)

-- what follows the name that an item begins with
abbrev pub named_item : Pos → List ℕ → Form Item
named_item pos n = sign_or sign.Scope (outer_maker pos n) (based_item pos (base.Named n))

-- item item*
abbrev pub items_form : Form (List Item)
items_form = listed item_form any_token item_form
