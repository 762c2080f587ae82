-- The forms of classes and programs within n levels, and what stands one level deeper, for every n.
use Rattle.std.proofs.Common.{ℕ, zero, suc, ◌+◌, ◌≤◌, List, [], ◌∷◌, Bool, true, false, Option, Some, None, arith}
use Rattle.std.proofs.Math.Nat.{max-le}
use Rattle.uc_tree.specs.declared.pos.Pos.{Pos}
use Rattle.uc_tree.specs.declared.kinds.Base.{Base}
use Rattle.uc_tree.specs.declared.kinds.Base.TheVariants as base
use Rattle.uc_tree.specs.declared.kinds.Kind.{Kind}
use Rattle.uc_tree.specs.declared.kinds.Access.{Access}
use Rattle.uc_tree.specs.declared.kinds.Access.TheVariants as access
use Rattle.uc_tree.specs.declared.kinds.Role.{Role}
use Rattle.uc_tree.specs.declared.kinds.Role.TheVariants as role
use Rattle.uc_tree.specs.declared.kinds.Owner.{Owner}
use Rattle.uc_tree.specs.declared.kinds.Owner.TheVariants as owner
use Rattle.uc_tree.specs.declared.token.TokenKind.{TokenKind}
use Rattle.uc_tree.specs.declared.token.TokenKind.TheVariants as token
use Rattle.uc_tree.specs.declared.token.Word.TheVariants as word
use Rattle.uc_tree.specs.declared.token.Sign.TheVariants as sign
use Rattle.uc_tree.specs.Programs.{Sig, Init, Item}
use Rattle.uc_grammar.specs.Names.{ClassPart, AccessPart, MemberPart}
use Rattle.uc_grammar.specs.Tables.{word_of, base_of, access_of}
use Rattle.uc_grammar.specs.Grammar.{inner, name_form, scalar_form, kind_form, mark_form, maybe_sign, params_rest, params_form, sig_of, init_form, inits_form, plain_form, maker_form, field_rest, field_form, fields_rest, member_end, maker_end, member_routine, member_maker, based_at, based_member, word_member, member_at, part_by, class_part_form, members_of, class_rest, class_form, using_rest, constant_rest, item_end, free_routine, outer_routine, based_item_at, based_item, role_of, outer_maker, word_item, item_at, item_form, program_form}
use Rattle.uc_nesting.specs.ExpressionNesting.{args_nesting}
use Rattle.uc_nesting.specs.StatementNesting.{declarator_nesting}
use Rattle.uc_nesting.specs.Nesting.{inits_nesting, routine_nesting, form_nesting, members_nesting, item_nesting, items_nesting, nesting}
use Rattle.uc_nesting.proofs.Sure.{Sure, Each, sure_nothing, sure_empty, sure_skip, sure_expect, sure_or, sure_look, sure_here, sure_bind, sure_apply, sure_many, sure_listed, sure_so, any_piece}
use Rattle.uc_nesting.proofs.Enclosed.{none}
use Rattle.uc_nesting.proofs.Levels.{Levels, class_part_nesting}
use Rattle.uc_nesting.proofs.Expressions.{sure_before, sure_list, args_le, closed_sure, unary_sure, right_sure, expr_sure}
use Rattle.uc_nesting.proofs.Statements.{declarators_le, length_sure, block_sure, stmt_sure}

-- Lists.

inits_le : (n : ℕ) (is : List Init) → Each (λ i. args_nesting i.args ≤ n) is → inits_nesting is ≤ n
inits_le n [] h = none n
inits_le n (i ∷ is) h = max-le h.0 (inits_le n is h.1)

members_le : (n : ℕ) (a : Access) (ps : List ClassPart) → Each (λ p. class_part_nesting p + 1 ≤ n) ps → members_nesting (members_of a ps) ≤ n
members_le n a [] h = none n
members_le n a (AccessPart b ∷ ps) h = members_le n b ps h.1
members_le n a (MemberPart pos m w ∷ ps) h = max-le h.0 (members_le n a ps h.1)

items_le : (n : ℕ) (is : List Item) → Each (λ i. item_nesting i ≤ n) is → items_nesting is ≤ n
items_le n [] h = none n
items_le n (i ∷ is) h = max-le h.0 (items_le n is h.1)

module _ (n : ℕ) (h : Levels n) where
  init_sure : Sure n init_form (λ i. args_nesting i.args ≤ n)
  init_sure = sure_here (λ pos. sure_bind (any_piece n name_form) (λ m t. sure_expect (sure_apply (closed_sure n h sign.CloseParen) (λ es w. args_le n es w))))

  inits_sure : Sure n inits_form (λ is. inits_nesting is ≤ n)
  inits_sure = sure_or (sure_so (sure_list init_sure) (λ is w. inits_le n is w)) (sure_empty (none n))

  plain_sure : (s : Sig) → Sure n (plain_form s) (λ r. routine_nesting r ≤ n)
  plain_sure s = sure_apply (block_sure n h) (λ b w. max-le (none n) w)

  maker_sure : (s : Sig) → Sure n (maker_form s) (λ r. routine_nesting r ≤ n)
  maker_sure s = sure_bind inits_sure (λ is v. sure_apply (block_sure n h) (λ b w. max-le v w))

  field_rest_sure : (pos : Pos) (r : Bool) (m : List ℕ) → Sure n (field_rest pos r m) (λ d. declarator_nesting d ≤ n)
  field_rest_sure pos r m = sure_apply (length_sure n h) (λ l w. max-le w (none n))

  field_sure : Sure n field_form (λ d. declarator_nesting d ≤ n)
  field_sure = sure_here (λ pos. sure_bind (any_piece n (maybe_sign sign.And)) (λ r t. sure_bind (any_piece n name_form) (λ m u. field_rest_sure pos r m)))

  fields_sure : (at : Pos) (b : Base) (pos : Pos) (r : Bool) (m : List ℕ) → Sure n (fields_rest at b pos r m) (λ f. form_nesting f ≤ n)
  fields_sure at b pos r m = sure_apply (sure_before (sure_listed (field_rest_sure pos r m) (sure_skip field_sure))) (λ ds w. declarators_le n ds w)

  member_end_sure : (s : Sig) → Sure n (member_end s) (λ f. form_nesting f ≤ n)
  member_end_sure s = sure_or (sure_empty (none n)) (sure_apply (plain_sure s) (λ r w. w))

  maker_end_sure : (s : Sig) → Sure n (maker_end s) (λ f. form_nesting f ≤ n)
  maker_end_sure s = sure_or (sure_empty (none n)) (sure_apply (maker_sure s) (λ r w. w))

  member_routine_sure : (pos : Pos) (b : Base) (m : List ℕ) → Sure n (member_routine pos b m) (λ f. form_nesting f ≤ n)
  member_routine_sure pos b m = sure_bind (any_piece n params_rest) (λ ps t. member_end_sure (sig_of pos owner.Here role.Plain b m ps))

  member_maker_sure : (pos : Pos) (r : Role) (m : List ℕ) → Sure n (member_maker pos r m) (λ f. form_nesting f ≤ n)
  member_maker_sure pos r m = sure_bind (any_piece n params_rest) (λ ps t. maker_end_sure (sig_of pos owner.Here r base.Void m ps))

  based_at_sure : (at : Pos) (b : Base) (pos : Pos) (o : Option TokenKind) → Sure n (based_at at b pos o) (λ f. form_nesting f ≤ n)
  based_at_sure at b pos (Some (token.Sign sign.And)) = sure_skip (sure_bind (any_piece n name_form) (λ m t. fields_sure at b pos true m))
  based_at_sure at b pos (Some (token.Name m)) = sure_skip (sure_or (member_routine_sure at b m) (fields_sure at b pos false m))
  based_at_sure at b pos _ = sure_nothing

  based_member_sure : (at : Pos) (b : Base) → Sure n (based_member at b) (λ f. form_nesting f ≤ n)
  based_member_sure at b = sure_here (λ pos. sure_look (λ o. based_at_sure at b pos o))

  word_member_sure : (pos : Pos) (b : Option Base) → Sure n (word_member pos b) (λ f. form_nesting f ≤ n)
  word_member_sure pos None = sure_nothing
  word_member_sure pos (Some b) = sure_skip (based_member_sure pos b)

  member_at_sure : (pos : Pos) (o : Option TokenKind) → Sure n (member_at pos o) (λ f. form_nesting f ≤ n)
  member_at_sure pos (Some (token.Sign sign.Tilde)) = sure_skip (sure_bind (any_piece n name_form) (λ m t. sure_expect (member_maker_sure pos role.Destructor m)))
  member_at_sure pos (Some (token.Name m)) = sure_skip (sure_or (member_maker_sure pos role.Constructor m) (based_member_sure pos (base.Named m)))
  member_at_sure pos o = word_member_sure pos (base_of (word_of o))

  part_by_sure : (pos : Pos) (a : Option Access) → Sure n (part_by pos a) (λ p. class_part_nesting p ≤ n)
  part_by_sure pos (Some a) = sure_skip (sure_expect (sure_empty (none n)))
  part_by_sure pos None = sure_bind (any_piece n mark_form) (λ m t. sure_apply (sure_here (λ at. sure_look (λ o. member_at_sure at o))) (λ f w. w))

  part_sure : Sure n class_part_form (λ p. class_part_nesting p ≤ n)
  part_sure = sure_here (λ pos. sure_look (λ o. part_by_sure pos (access_of (word_of o))))

  class_rest_sure : (pos : Pos) (k : Kind) (m : List ℕ) → Sure n (class_rest pos k m) (λ i. item_nesting i ≤ n)
  class_rest_sure pos k m = sure_apply (sure_before (sure_before (sure_many h.in_class))) (λ ps w. members_le n access.Private ps w)

  class_sure : (pos : Pos) → Sure n (class_form pos) (λ i. item_nesting i ≤ n)
  class_sure pos = sure_bind (any_piece n kind_form) (λ k t. sure_bind (any_piece n name_form) (λ m u. sure_or (sure_empty (none n)) (sure_expect (class_rest_sure pos k m))))

  using_sure : (pos : Pos) → Sure n (using_rest pos) (λ i. item_nesting i ≤ n)
  using_sure pos = sure_expect (sure_expect (sure_expect (sure_empty (none n))))

  constant_sure : (pos : Pos) → Sure n (constant_rest pos) (λ i. item_nesting i ≤ n)
  constant_sure pos = sure_bind (any_piece n scalar_form) (λ b t. sure_bind (any_piece n name_form) (λ m u. sure_expect (sure_apply (sure_before (expr_sure n h)) (λ e w. w))))

  item_end_sure : (s : Sig) → Sure n (item_end s) (λ i. item_nesting i ≤ n)
  item_end_sure s = sure_or (sure_empty (none n)) (sure_apply (plain_sure s) (λ r w. w))

  free_sure : (pos : Pos) (b : Base) (m : List ℕ) → Sure n (free_routine pos b m) (λ i. item_nesting i ≤ n)
  free_sure pos b m = sure_bind (any_piece n params_form) (λ ps t. item_end_sure (sig_of pos owner.Here role.Plain b m ps))

  outer_sure : (pos : Pos) (b : Base) (o : Owner) → Sure n (outer_routine pos b o) (λ i. item_nesting i ≤ n)
  outer_sure pos b o = sure_bind (any_piece n name_form) (λ m t. sure_bind (any_piece n params_form) (λ ps u. sure_apply (plain_sure (sig_of pos o role.Plain b m ps)) (λ r w. w)))

  based_item_at_sure : (pos : Pos) (b : Base) (o : Option TokenKind) → Sure n (based_item_at pos b o) (λ i. item_nesting i ≤ n)
  based_item_at_sure pos b (Some (token.Word word.UMain)) = sure_skip (sure_expect (outer_sure pos b owner.Main))
  based_item_at_sure pos b (Some (token.Name m)) = sure_skip (sure_or (outer_sure pos b (owner.Class m)) (free_sure pos b m))
  based_item_at_sure pos b _ = sure_nothing

  based_item_sure : (pos : Pos) (b : Base) → Sure n (based_item pos b) (λ i. item_nesting i ≤ n)
  based_item_sure pos b = sure_look (λ o. based_item_at_sure pos b o)

  outer_maker_sure : (pos : Pos) (c : List ℕ) → Sure n (outer_maker pos c) (λ i. item_nesting i ≤ n)
  outer_maker_sure pos c = sure_bind (any_piece n (maybe_sign sign.Tilde)) (λ d t. sure_bind (any_piece n name_form) (λ m u. sure_bind (any_piece n params_form) (λ ps v. sure_apply (maker_sure (sig_of pos (owner.Class c) (role_of d) base.Void m ps)) (λ r w. w))))

  word_item_sure : (pos : Pos) (b : Option Base) → Sure n (word_item pos b) (λ i. item_nesting i ≤ n)
  word_item_sure pos None = class_sure pos
  word_item_sure pos (Some b) = sure_skip (based_item_sure pos b)

  item_at_sure : (pos : Pos) (o : Option TokenKind) → Sure n (item_at pos o) (λ i. item_nesting i ≤ n)
  item_at_sure pos (Some (token.Word word.Using)) = sure_skip (using_sure pos)
  item_at_sure pos (Some (token.Word word.Const)) = sure_skip (constant_sure pos)
  item_at_sure pos (Some (token.Name m)) = sure_skip (sure_or (outer_maker_sure pos m) (based_item_sure pos (base.Named m)))
  item_at_sure pos o = word_item_sure pos (base_of (word_of o))

  item_sure : Sure n item_form (λ i. item_nesting i ≤ n)
  item_sure = sure_here (λ pos. sure_look (λ o. item_at_sure pos o))

  program_sure : Sure n program_form (λ p. nesting p ≤ n)
  unfolding nesting
  program_sure = sure_apply (sure_listed item_sure item_sure) (λ is w. items_le n is w)

  -- one level more
  deeper : Levels (suc n)
  unfolding inner
  deeper = record {
    in_expr = record { holds = λ ts from to v r. omega (arith, (expr_sure n h).holds ts from to v r) };
    in_unary = record { holds = λ ts from to v r. omega (arith, (unary_sure n h).holds ts from to v r) };
    in_right = record { holds = λ ts from to v r. omega (arith, (right_sure n h).holds ts from to v r) };
    in_stmt = record { holds = λ ts from to v r. omega (arith, (stmt_sure n h).holds ts from to v r) };
    in_block = record { holds = λ ts from to v r. omega (arith, h.in_stmt.holds ts from to v r) };
    in_class = record { holds = λ ts from to v r. omega (arith, part_sure.holds ts from to v r) };
  }

pub levels : (n : ℕ) → Levels n
unfolding inner
levels zero = record {
  in_expr = record { holds = λ ts from to v r. absurd r };
  in_unary = record { holds = λ ts from to v r. absurd r };
  in_right = record { holds = λ ts from to v r. absurd r };
  in_stmt = record { holds = λ ts from to v r. absurd r };
  in_block = record { holds = λ ts from to v r. absurd r };
  in_class = record { holds = λ ts from to v r. absurd r };
}
levels (suc n) = deeper n (levels n)

pub programs_within : (n : ℕ) → Sure n program_form (λ p. nesting p ≤ n)
programs_within n = program_sure n (levels n)
