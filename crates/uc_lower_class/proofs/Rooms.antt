-- The fields of a class take no more ops than their size allows, in its constructor and its destructor together.
use Rattle.std.proofs.Common.{◌≡◌, ℕ, ◌+◌, ◌*◌, ◌≤◌, List, [], ◌∷◌, ◌++◌, Option, Some, None, length, refl, ap, ◌∙◌, arith}
use Rattle.uc_tree.specs.declared.limits.TheConstants.{OPS_FOR_SIZE}
use Rattle.uc_tree.specs.declared.kinds.Base.{Base}
use Rattle.uc_tree.specs.Expressions.{Expr}
use Rattle.uc_tree.specs.Statements.{Declarator}
use Rattle.uc_tree.specs.StatementSizes.{declarator_size, declarators_size, maybe_expr_size}
use Rattle.uc_tree.specs.Programs.{MemberForm, FieldsMember, RoutineMember, ProtoMember, Member}
use Rattle.uc_tree.specs.Objects.{ClassField, declared_fields, fields_of, form_fields}
use Rattle.uc_lower_expr.proofs.Walks.{some_size}
use Rattle.uc_lower_class.specs.Fields.{field_close, fields_room, room_by}

-- the size of the declarators of fields
abbrev pub fields_size : List ClassField → ℕ
fields_size [] = 0
fields_size (f ∷ fs) = declarator_size f.declarator + fields_size fs

room_fits : (o : Option Expr) → room_by o + field_close ≤ OPS_FOR_SIZE * (1 + maybe_expr_size o)
room_fits None = omega arith
room_fits (Some e) = let s = some_size e in omega arith

pub fields_fit : (fs : List ClassField) → fields_room [] fs + field_close * length fs ≤ OPS_FOR_SIZE * fields_size fs
fields_fit [] = omega arith
fields_fit (f ∷ fs) = let r = fields_fit fs in let o = room_fits f.declarator.len in omega arith

-- the size of fields is that of the members that declare them

declared_size : (b : Base) (ds : List Declarator) → fields_size (declared_fields b ds) ≡ declarators_size ds
declared_size b [] = refl
declared_size b (d ∷ ds) = ap (λ n. declarator_size d + n) (declared_size b ds)

size_join : (fs gs : List ClassField) → fields_size (fs ++ gs) ≡ fields_size fs + fields_size gs
size_join [] gs = omega arith
size_join (f ∷ fs) gs = let r = size_join fs gs in omega (arith, r)

abbrev form_size : MemberForm → ℕ
form_size (FieldsMember at b ds) = declarators_size ds
form_size (RoutineMember routine) = 0
form_size (ProtoMember sig) = 0

form_is : (f : MemberForm) → fields_size (form_fields f) ≡ form_size f
form_is (FieldsMember at b ds) = declared_size b ds
form_is (RoutineMember routine) = refl
form_is (ProtoMember sig) = refl

abbrev pub members_fields_size : List Member → ℕ
members_fields_size [] = 0
members_fields_size (m ∷ ms) = form_size m.form + members_fields_size ms

pub fields_are : (ms : List Member) → fields_size (fields_of ms) ≡ members_fields_size ms
fields_are [] = refl
fields_are (m ∷ ms) = size_join (form_fields m.form) (fields_of ms) ∙ (let a = form_is m.form in let b = fields_are ms in omega (arith, a, b))
