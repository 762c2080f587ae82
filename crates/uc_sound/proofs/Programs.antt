-- What the forms of classes and programs within n levels give, and what stands one level deeper, for every n.
use Rattle.std.proofs.Common.{◌≡◌, ℕ, zero, suc, ◌≤◌, List, [], ◌∷◌, length, Bool, true, false, Option, Some, None, refl, sym, subst, arith}
use Rattle.uc_tree.specs.declared.pos.Pos.{Pos}
use Rattle.uc_tree.specs.declared.kinds.Base.{Base}
use Rattle.uc_tree.specs.declared.kinds.Base.TheVariants as base
use Rattle.uc_tree.specs.declared.kinds.Kind.{Kind}
use Rattle.uc_tree.specs.declared.kinds.Access.{Access}
use Rattle.uc_tree.specs.declared.kinds.Access.TheVariants as access
use Rattle.uc_tree.specs.declared.kinds.Role.{Role}
use Rattle.uc_tree.specs.declared.kinds.Role.TheVariants as role
use Rattle.uc_tree.specs.declared.kinds.Owner.{Owner}
use Rattle.uc_tree.specs.declared.kinds.Owner.TheVariants as owner
use Rattle.uc_tree.specs.declared.token.TokenKind.{TokenKind}
use Rattle.uc_tree.specs.declared.token.TokenKind.TheVariants as token
use Rattle.uc_tree.specs.declared.token.Word.{Word}
use Rattle.uc_tree.specs.declared.token.Word.TheVariants as word
use Rattle.uc_tree.specs.declared.token.Sign.TheVariants as sign
use Rattle.uc_tree.specs.Numbering.{is_plain}
use Rattle.uc_tree.specs.Programs.{Sig, Routine, MemberForm, FieldsMember, RoutineMember, ProtoMember, Member, Item, ClassItem, RoutineItem, ConstItem, ProtoItem, ForwardItem, UsingItem, Program}
use Rattle.uc_grammar.specs.Form.{inside}
use Rattle.uc_grammar.specs.Names.{ClassPart, AccessPart, MemberPart, stmt_name, block_stmt_name, part_name}
use Rattle.uc_grammar.specs.Tables.{word_of, base_of, access_of, scalar_of}
use Rattle.uc_grammar.specs.Grammar.{inner, expr_form, name_form, scalar_by, kind_form, mark_form, maybe_sign, params_rest, params_form, sig_of, inits_form, plain_form, maker_form, fields_rest, member_routine, member_maker, based_at, based_member, word_member, member_at, part_by, class_part_form, members_of, class_rest, class_form, using_rest, constant_rest, free_routine, outer_routine, based_item_at, based_item, role_of, outer_maker, word_item, item_at, item_form, program_form}
use Rattle.uc_rules.specs.declared.rules.Sort.{Sort}
use Rattle.uc_rules.specs.declared.rules.Sort.TheVariants as sort
use Rattle.uc_rules.specs.Names.{is_here}
use Rattle.uc_rules.specs.Sorts.{sort_of}
use Rattle.uc_sound.proofs.Sure.{Sure, Each, sure_nothing, sure_empty, sure_skip, sure_expect, sure_or, sure_look, sure_here, sure_bind, sure_apply, sure_many, sure_listed, sure_both, any_piece, sure_before}
use Rattle.uc_sound.proofs.Counted.{moves_next, param_moves, item_moves, sure_count}
use Rattle.uc_sound.proofs.FormedStatements.{Nameless, NamelessBody, block_sure, stmt_sure}

-- a constructor and a destructor return nothing
abbrev pub MakesNothing : Sig → Type 0
MakesNothing s = is_plain s.role ≡ false → s.ret ≡ base.Void

-- outside of classes what is called by its name alone is neither
abbrev pub IsPlainHere : Sig → Type 0
IsPlainHere s = is_here s.owner ≡ true → is_plain s.role ≡ true

-- a base that is the same in every program
abbrev pub IsKnownBase : Base → Type 0
IsKnownBase b = (p : Program) → (s : Sort) × (sort_of p b ≡ Some s)

-- a routine that ends at a token or before it
pub record FormedRoutine (last : ℕ) (r : Routine) : Type 0 where
  pub makes : MakesNothing r.sig
  pub params : length r.sig.params ≤ last
  pub body : NamelessBody r.body

abbrev pub FormedMember : ℕ → MemberForm → Type 0
FormedMember last (FieldsMember at b ds) = Unit {0}
FormedMember last (RoutineMember r) = FormedRoutine last r
FormedMember last (ProtoMember s) = MakesNothing s

abbrev pub FormedItem : ℕ → Item → Type 0
FormedItem last (ClassItem c) = Each (λ (m : Member). FormedMember last m.form) c.members
FormedItem last (RoutineItem r) = FormedRoutine last r × IsPlainHere r.sig
FormedItem last (ConstItem c) = IsKnownBase c.base
FormedItem last (ProtoItem s) = MakesNothing s × IsPlainHere s
FormedItem last (ForwardItem f) = Unit {0}
FormedItem last (UsingItem pos) = Unit {0}

abbrev FormedPart : ℕ → ClassPart → Type 0
FormedPart last (AccessPart access) = Unit {0}
FormedPart last (MemberPart pos mark form) = FormedMember last form

members_formed : (last : ℕ) (a : Access) (ps : List ClassPart) → Each (FormedPart last) ps → Each (λ (m : Member). FormedMember last m.form) (members_of a ps)
members_formed last a [] h = tt
members_formed last a (AccessPart b ∷ ps) h = members_formed last b ps h.1
members_formed last a (MemberPart pos m w ∷ ps) h = (h.0, members_formed last a ps h.1)

-- what is known of the pieces that stand one level deeper
record Levels (n last : ℕ) : Type 0 where
  in_stmt : Sure n last (inside stmt_name) Nameless
  in_block : Sure n last (inside block_stmt_name) Nameless
  in_class : Sure n last (inside part_name) (FormedPart last)

module _ (n last : ℕ) (h : Levels n last) where
  -- a routine with this signature
  abbrev RoutineOf : Sig → Routine → Type 0
  RoutineOf s r = FormedRoutine last r × (r.sig ≡ s)

  params_rest_sure : Sure n last params_rest (λ ps. length ps ≤ last)
  params_rest_sure = sure_or (sure_empty (omega arith)) (sure_before (sure_count (param_moves n) (moves_next _)))

  params_sure : Sure n last params_form (λ ps. length ps ≤ last)
  params_sure = sure_expect params_rest_sure

  plain_sure : (s : Sig) → MakesNothing s → length s.params ≤ last → Sure n last (plain_form s) (RoutineOf s)
  plain_sure s m le = sure_apply (block_sure n last h.in_stmt h.in_block) (λ b w. (record { makes = m; params = le; body = w }, refl))

  maker_sure : (s : Sig) → MakesNothing s → length s.params ≤ last → Sure n last (maker_form s) (RoutineOf s)
  maker_sure s m le = sure_bind (any_piece n last inits_form) (λ is t. sure_apply (block_sure n last h.in_stmt h.in_block) (λ b w. (record { makes = m; params = le; body = w }, refl)))

  fields_sure : (at : Pos) (b : Base) (pos : Pos) (r : Bool) (m : List ℕ) → Sure n last (fields_rest at b pos r m) (FormedMember last)
  fields_sure at b pos r m = sure_apply (any_piece n last _) (λ ds w. tt)

  member_routine_sure : (pos : Pos) (b : Base) (m : List ℕ) → Sure n last (member_routine pos b m) (FormedMember last)
  member_routine_sure pos b m = sure_bind params_rest_sure (λ ps le. sure_or (sure_empty (λ f. absurd (cc f))) (sure_apply (plain_sure (sig_of pos owner.Here role.Plain b m ps) (λ f. absurd (cc f)) le) (λ r w. w.0)))

  member_maker_sure : (pos : Pos) (r : Role) (m : List ℕ) → Sure n last (member_maker pos r m) (FormedMember last)
  member_maker_sure pos r m = sure_bind params_rest_sure (λ ps le. sure_or (sure_empty (λ f. refl)) (sure_apply (maker_sure (sig_of pos owner.Here r base.Void m ps) (λ f. refl) le) (λ r w. w.0)))

  based_at_sure : (at : Pos) (b : Base) (pos : Pos) (o : Option TokenKind) → Sure n last (based_at at b pos o) (FormedMember last)
  based_at_sure at b pos (Some (token.Sign sign.And)) = sure_skip (sure_bind (any_piece n last name_form) (λ m t. fields_sure at b pos true m))
  based_at_sure at b pos (Some (token.Name m)) = sure_skip (sure_or (member_routine_sure at b m) (fields_sure at b pos false m))
  based_at_sure at b pos _ = sure_nothing

  based_member_sure : (at : Pos) (b : Base) → Sure n last (based_member at b) (FormedMember last)
  based_member_sure at b = sure_here (λ pos. sure_look (λ o. based_at_sure at b pos o))

  word_member_sure : (pos : Pos) (b : Option Base) → Sure n last (word_member pos b) (FormedMember last)
  word_member_sure pos None = sure_nothing
  word_member_sure pos (Some b) = sure_skip (based_member_sure pos b)

  member_at_sure : (pos : Pos) (o : Option TokenKind) → Sure n last (member_at pos o) (FormedMember last)
  member_at_sure pos (Some (token.Sign sign.Tilde)) = sure_skip (sure_bind (any_piece n last name_form) (λ m t. sure_expect (member_maker_sure pos role.Destructor m)))
  member_at_sure pos (Some (token.Name m)) = sure_skip (sure_or (member_maker_sure pos role.Constructor m) (based_member_sure pos (base.Named m)))
  member_at_sure pos o = word_member_sure pos (base_of (word_of o))

  part_by_sure : (pos : Pos) (a : Option Access) → Sure n last (part_by pos a) (FormedPart last)
  part_by_sure pos (Some a) = sure_skip (sure_expect (sure_empty tt))
  part_by_sure pos None = sure_bind (any_piece n last mark_form) (λ m t. sure_apply (sure_here (λ at. sure_look (λ o. member_at_sure at o))) (λ f w. w))

  part_sure : Sure n last class_part_form (FormedPart last)
  part_sure = sure_here (λ pos. sure_look (λ o. part_by_sure pos (access_of (word_of o))))

  class_rest_sure : (pos : Pos) (k : Kind) (m : List ℕ) → Sure n last (class_rest pos k m) (FormedItem last)
  class_rest_sure pos k m = sure_apply (sure_before (sure_before (sure_many h.in_class))) (λ ps w. members_formed last access.Private ps w)

  class_sure : (pos : Pos) → Sure n last (class_form pos) (FormedItem last)
  class_sure pos = sure_bind (any_piece n last kind_form) (λ k t. sure_bind (any_piece n last name_form) (λ m u. sure_or (sure_empty tt) (sure_expect (class_rest_sure pos k m))))

  scalar_by_sure : (w : Option Word) → Sure n last (scalar_by (scalar_of w)) IsKnownBase
  scalar_by_sure (Some word.Int) = sure_skip (sure_empty (λ p. (sort.Int, refl)))
  scalar_by_sure (Some word.Char) = sure_skip (sure_empty (λ p. (sort.Char, refl)))
  scalar_by_sure (Some word.Bool) = sure_skip (sure_empty (λ p. (sort.Bool, refl)))
  scalar_by_sure _ = sure_nothing

  constant_sure : (pos : Pos) → Sure n last (constant_rest pos) (FormedItem last)
  constant_sure pos = sure_bind (sure_look (λ o. scalar_by_sure (word_of o))) (λ b k. sure_bind (any_piece n last name_form) (λ m t. sure_expect (sure_apply (sure_before (any_piece n last expr_form)) (λ e u. k))))

  using_sure : (pos : Pos) → Sure n last (using_rest pos) (FormedItem last)
  using_sure pos = sure_expect (sure_expect (sure_expect (sure_empty tt)))

  free_sure : (pos : Pos) (b : Base) (m : List ℕ) → Sure n last (free_routine pos b m) (FormedItem last)
  free_sure pos b m = sure_bind params_sure (λ ps le. sure_or (sure_empty (λ f. absurd (cc f), λ e. refl)) (sure_apply (plain_sure (sig_of pos owner.Here role.Plain b m ps) (λ f. absurd (cc f)) le) (λ r w. (w.0, subst IsPlainHere (sym w.1) (λ e. refl)))))

  outer_sure : (pos : Pos) (b : Base) (o : Owner) → Sure n last (outer_routine pos b o) (FormedItem last)
  outer_sure pos b o = sure_bind (any_piece n last name_form) (λ m t. sure_bind params_sure (λ ps le. sure_apply (plain_sure (sig_of pos o role.Plain b m ps) (λ f. absurd (cc f)) le) (λ r w. (w.0, subst IsPlainHere (sym w.1) (λ e. refl)))))

  based_item_at_sure : (pos : Pos) (b : Base) (o : Option TokenKind) → Sure n last (based_item_at pos b o) (FormedItem last)
  based_item_at_sure pos b (Some (token.Word word.UMain)) = sure_skip (sure_expect (outer_sure pos b owner.Main))
  based_item_at_sure pos b (Some (token.Name m)) = sure_skip (sure_or (outer_sure pos b (owner.Class m)) (free_sure pos b m))
  based_item_at_sure pos b _ = sure_nothing

  based_item_sure : (pos : Pos) (b : Base) → Sure n last (based_item pos b) (FormedItem last)
  based_item_sure pos b = sure_look (λ o. based_item_at_sure pos b o)

  outer_maker_sure : (pos : Pos) (c : List ℕ) → Sure n last (outer_maker pos c) (FormedItem last)
  outer_maker_sure pos c = sure_bind (any_piece n last (maybe_sign sign.Tilde)) (λ d t. sure_bind (any_piece n last name_form) (λ m u. sure_bind params_sure (λ ps le. sure_apply (maker_sure (sig_of pos (owner.Class c) (role_of d) base.Void m ps) (λ f. refl) le) (λ r w. (w.0, subst IsPlainHere (sym w.1) (λ e. absurd (cc e)))))))

  word_item_sure : (pos : Pos) (b : Option Base) → Sure n last (word_item pos b) (FormedItem last)
  word_item_sure pos None = class_sure pos
  word_item_sure pos (Some b) = sure_skip (based_item_sure pos b)

  item_at_sure : (pos : Pos) (o : Option TokenKind) → Sure n last (item_at pos o) (FormedItem last)
  item_at_sure pos (Some (token.Word word.Using)) = sure_skip (using_sure pos)
  item_at_sure pos (Some (token.Word word.Const)) = sure_skip (constant_sure pos)
  item_at_sure pos (Some (token.Name m)) = sure_skip (sure_or (outer_maker_sure pos m) (based_item_sure pos (base.Named m)))
  item_at_sure pos o = word_item_sure pos (base_of (word_of o))

  item_sure : Sure n last item_form (FormedItem last)
  item_sure = sure_here (λ pos. sure_look (λ o. item_at_sure pos o))

  program_sure : Sure n last program_form (λ p. Each (FormedItem last) p.items × (length p.items ≤ last))
  program_sure = sure_apply (sure_both (sure_listed item_sure item_sure) (sure_count (item_moves n) (item_moves n))) (λ is w. w)

  -- one level more
  deeper : Levels (suc n) last
  unfolding inner
  deeper = record {
    in_stmt = record { holds = λ ts from to v le r. (stmt_sure n last h.in_stmt h.in_block).holds ts from to v le r };
    in_block = record { holds = λ ts from to v le r. h.in_stmt.holds ts from to v le r };
    in_class = record { holds = λ ts from to v le r. part_sure.holds ts from to v le r };
  }

levels : (n last : ℕ) → Levels n last
unfolding inner
levels zero last = record {
  in_stmt = record { holds = λ ts from to v le r. absurd r };
  in_block = record { holds = λ ts from to v le r. absurd r };
  in_class = record { holds = λ ts from to v le r. absurd r };
}
levels (suc n) last = deeper n last (levels n last)

pub programs_formed : (n last : ℕ) → Sure n last program_form (λ p. Each (FormedItem last) p.items × (length p.items ≤ last))
programs_formed n last = program_sure n last (levels n last)
