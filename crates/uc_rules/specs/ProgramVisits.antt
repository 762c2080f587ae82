-- The walk of the rules through whole programs.
use Rattle.std.specs.Prelude.{ℕ, ◌+◌, List, [], ◌∷◌, ◌++◌, Bool, true, false, ◌&&◌, Option, Some, None, option_and_then, if◌then◌else◌}
use Rattle.uc_tree.specs.declared.kinds.Base.{Base}
use Rattle.uc_tree.specs.declared.kinds.Access.{Access}
use Rattle.uc_tree.specs.declared.kinds.MutexMark.{MutexMark}
use Rattle.uc_tree.specs.declared.kinds.MutexMark.TheVariants as mark
use Rattle.uc_tree.specs.declared.kinds.Role.{Role}
use Rattle.uc_tree.specs.declared.kinds.Role.TheVariants as role
use Rattle.uc_tree.specs.declared.kinds.Owner.{Owner}
use Rattle.uc_tree.specs.declared.kinds.Owner.TheVariants as owner
use Rattle.uc_tree.specs.declared.kinds.Param.{Param}
use Rattle.uc_tree.specs.Names.{same_name}
use Rattle.uc_tree.specs.Numbering.{is_plain}
use Rattle.uc_tree.specs.Expressions.{Expr, Name, Exprs, NoExprs, MoreExprs, expr_pos}
use Rattle.uc_tree.specs.Statements.{Declarator}
use Rattle.uc_tree.specs.Programs.{Sig, Init, Routine, MemberForm, FieldsMember, RoutineMember, ProtoMember, Member, Class, Item, ClassItem, RoutineItem, ConstItem, ProtoItem, Program}
use Rattle.uc_rules.specs.declared.rules.Sort.{Sort}
use Rattle.uc_rules.specs.declared.rules.Sort.TheVariants.{Object}
use Rattle.uc_rules.specs.declared.rules.Entity.{Entity}
use Rattle.uc_rules.specs.declared.rules.Entity.TheVariants as entity
use Rattle.uc_rules.specs.declared.rules.Origin.{Origin}
use Rattle.uc_rules.specs.declared.rules.Origin.TheVariants as origin
use Rattle.uc_rules.specs.declared.rules.FieldPlace.{FieldPlace}
use Rattle.uc_rules.specs.declared.rules.NameMeaning.{NameMeaning}
use Rattle.uc_rules.specs.declared.rules.OwnClass.{OwnClass}
use Rattle.uc_rules.specs.declared.rules.Bound.{Bound}
use Rattle.uc_rules.specs.declared.rules.Expected.{Expected}
use Rattle.uc_rules.specs.declared.rules.Expected.TheVariants.{Reference}
use Rattle.uc_rules.specs.declared.rules.Target.{Target}
use Rattle.uc_rules.specs.declared.rules.Target.TheVariants as target
use Rattle.uc_rules.specs.Sorts.{class_named, class_at}
use Rattle.uc_rules.specs.Names.{member_named, is_constructor, is_destructor, place_in, is_field_before}
use Rattle.uc_rules.specs.Scopes.{Env, with_around, in_argument, no_around, class_around, plain_env, sig_around, with_param, with_params}
use Rattle.uc_rules.specs.Entities.{entity_of, expected}
use Rattle.uc_rules.specs.Visits.{Visit, AtBase, AtArgument, AtBound, AtInit, AtInits, AtSig, AtParam, AtField, AtRoutine, AtMark, AtClass, AtConstant, AtItem, AtProgram, visits, maybe_visits, stmts_visits, single_target}

-- signatures

abbrev pub params_visits : Env → List Param → List Visit
params_visits env [] = []
params_visits env (x ∷ xs) = AtBase env x.pos x.base ∷ (AtParam env x ∷ params_visits (with_param env x) xs)

-- a constructor and a destructor have no base
abbrev pub base_visits : Env → Sig → List Visit
base_visits env sig = if is_plain sig.role then AtBase env sig.pos sig.ret ∷ [] else []

abbrev pub sig_visits : Env → Sig → List Visit
sig_visits env sig = base_visits env sig ++ (AtSig env sig ∷ params_visits env sig.params)

-- initialisers

-- the place of a field among those of its class; none for what is no field
abbrev pub field_place : Origin → Option FieldPlace
field_place (origin.Field class k access by_ref i) = Some i
field_place _ = None

abbrev pub home_member : Program → Option OwnClass → List ℕ → Option NameMeaning
home_member p None name = None
home_member p (Some h) name = member_named p h.class name

abbrev pub field_of : Env → List ℕ → Option FieldPlace
field_of env name = option_and_then (λ m. field_place m.origin) (home_member env.program env.around.home name)

-- to what the arguments of an initialiser go: a reference is bound to one
abbrev pub bound_target : Bool → Entity → Target
bound_target true (entity.Place s) = target.Reference s
bound_target false (entity.Place s) = single_target s
bound_target by_ref (entity.Value s) = target.Unknown
bound_target by_ref (entity.Array s n) = target.Unknown
bound_target by_ref entity.Input = target.Unknown
bound_target by_ref entity.Fail = target.Unknown
bound_target by_ref (entity.Operation o) = target.Unknown
bound_target by_ref entity.Main = target.Unknown
bound_target by_ref (entity.Routine i) = target.Unknown
bound_target by_ref (entity.Method i j inner by_path) = target.Unknown
bound_target by_ref entity.ClassName = target.Unknown
bound_target by_ref entity.Missing = target.Unknown

abbrev pub maybe_bound_target : Bool → Option Entity → Target
maybe_bound_target by_ref None = target.Unknown
maybe_bound_target by_ref (Some e) = bound_target by_ref e

abbrev pub origin_target : Option Entity → Origin → Target
origin_target e (origin.Field class k access by_ref i) = maybe_bound_target by_ref e
origin_target e _ = target.Unknown

abbrev pub meant_target : Option NameMeaning → Target
meant_target None = target.Unknown
meant_target (Some m) = origin_target m.entity m.origin

abbrev pub init_target : Env → List ℕ → Target
init_target env name = meant_target (home_member env.program env.around.home name)

abbrev pub is_name : Expr → Bool
is_name (Name p name) = true
is_name _ = false

abbrev pub is_reference : Expected → Bool
is_reference (Reference s) = true
is_reference _ = false

abbrev pub bound_of : Expr → Expected → FieldPlace → Bound
bound_of e x field = record { pos = expr_pos e; field = field; whole = is_name e && is_reference x }

-- the environment of an argument of an initialiser of a field
abbrev pub argument_env : Env → Option FieldPlace → Expr → Expected → Env
argument_env env None e x = env
argument_env env (Some field) e x = with_around env (in_argument (bound_of e x field) env.around)

abbrev pub init_arg_visits : Env → Option FieldPlace → Expr → Expected → List Visit
init_arg_visits env field e x = visits (argument_env env field e x) e ++ (AtArgument (expr_pos e) x (entity_of (argument_env env field e x) e) ∷ (AtBound env e x ∷ []))

abbrev pub init_args_visits : Env → Option FieldPlace → Exprs → Target → ℕ → List Visit
init_args_visits env field NoExprs t i = []
init_args_visits env field (MoreExprs e es) t i = init_arg_visits env field e (expected env.program t i) ++ init_args_visits env field es t (i + 1)

-- the last of the fields that are named
abbrev pub later_field : FieldPlace → FieldPlace → FieldPlace
later_field x y = if is_field_before x y then y else x

abbrev pub last_field : Option FieldPlace → Option FieldPlace → Option FieldPlace
last_field None field = field
last_field (Some last) None = Some last
last_field (Some last) (Some field) = Some (later_field last field)

abbrev pub inits_visits : Env → Option FieldPlace → List Init → List Visit
inits_visits env last [] = []
inits_visits env last (x ∷ xs) = (init_args_visits env (field_of env x.name) x.args (init_target env x.name) 0 ++ AtInit env x last ∷ []) ++ inits_visits env (last_field last (field_of env x.name)) xs

-- routines: the parameters and the outermost block are one scope

abbrev pub body_visits : Env → Routine → List Visit
body_visits env r = AtInits env r.sig r.inits ∷ (inits_visits env None r.inits ++ stmts_visits r.body env)

abbrev pub routine_visits : Env → Routine → List Visit
routine_visits env r = sig_visits env r.sig ++ body_visits (with_params env r.sig.params) r

-- classes

-- the fields of the member with the place j, of which the first has the place i
abbrev pub fields_visits : Env → Class → Access → Base → ℕ → ℕ → List Declarator → List Visit
fields_visits env c a b j i [] = []
fields_visits env c a b j i (d ∷ ds) = (maybe_visits env d.len ++ AtField env c a b d (place_in j i) ∷ []) ++ fields_visits env c a b j (i + 1) ds

abbrev pub sig_env : Program → OwnClass → MutexMark → Sig → Env
sig_env p h m sig = plain_env p (sig_around p (Some h) false m sig)

abbrev pub form_visits : Program → OwnClass → Class → ℕ → MutexMark → Access → MemberForm → List Visit
form_visits p h c j m a (FieldsMember at b ds) = AtBase (plain_env p (class_around h)) at b ∷ fields_visits (plain_env p (class_around h)) c a b j 0 ds
form_visits p h c j m a (RoutineMember r) = AtRoutine (plain_env p (class_around h)) c false r.sig j ∷ routine_visits (sig_env p h m r.sig) r
form_visits p h c j m a (ProtoMember sig) = AtRoutine (plain_env p (class_around h)) c true sig j ∷ sig_visits (sig_env p h m sig) sig

-- members, of which the first has the place j
abbrev pub members_visits : Program → OwnClass → Class → ℕ → List Member → List Visit
members_visits p h c j [] = []
members_visits p h c j (m ∷ ms) = (AtMark (plain_env p (class_around h)) c m ∷ form_visits p h c j m.mark m.access m.form) ++ members_visits p h c (j + 1) ms

abbrev pub class_visits : Program → ℕ → Class → List Visit
class_visits p k c = AtClass (plain_env p (class_around (record { class = k; kind = c.kind }))) c k ∷ members_visits p (record { class = k; kind = c.kind }) c 0 c.members

-- routines that stand outside of their class

abbrev pub same_role : Role → Role → Bool
same_role role.Plain s = is_plain s
same_role role.Constructor s = is_constructor s
same_role role.Destructor s = is_destructor s

-- the mark of the prototype of a routine
abbrev pub form_declares : Sig → MemberForm → Bool
form_declares sig (ProtoMember s) = same_role sig.role s.role && same_name sig.name s.name
form_declares sig _ = false

abbrev pub mark_among : Sig → List Member → MutexMark
mark_among sig [] = mark.Unmarked
mark_among sig (m ∷ ms) = if form_declares sig m.form then m.mark else mark_among sig ms

abbrev pub mark_in : Sig → Option Class → MutexMark
mark_in sig None = mark.Unmarked
mark_in sig (Some c) = mark_among sig c.members

abbrev pub home_of : Sort → Option OwnClass
home_of (Object class k) = Some (record { class = class; kind = k })
home_of _ = None

abbrev pub owner_home : Program → Owner → Option OwnClass
owner_home p (owner.Class name) = option_and_then home_of (class_named p name)
owner_home p _ = None

abbrev pub is_of_main : Owner → Bool
is_of_main owner.Main = true
is_of_main _ = false

abbrev pub outer_mark : Program → Option OwnClass → Sig → MutexMark
outer_mark p None sig = mark.Unmarked
outer_mark p (Some h) sig = mark_in sig (class_at p h.class)

abbrev pub outer_env : Program → Sig → Env
outer_env p sig = plain_env p (sig_around p (owner_home p sig.owner) (is_of_main sig.owner) (outer_mark p (owner_home p sig.owner) sig) sig)

-- items; k classes stand before the first of these, whose place among the items is i

abbrev pub item_visits : Program → ℕ → Item → List Visit
item_visits p k (ClassItem c) = class_visits p k c
item_visits p k (RoutineItem r) = routine_visits (outer_env p r.sig) r
item_visits p k (ConstItem c) = visits (plain_env p no_around) c.value ++ AtConstant (plain_env p no_around) c ∷ []
item_visits p k (ProtoItem sig) = sig_visits (plain_env p no_around) sig
item_visits p k _ = []

abbrev pub classes_in : Item → ℕ
classes_in (ClassItem c) = 1
classes_in _ = 0

abbrev pub items_visits : Program → ℕ → ℕ → List Item → List Visit
items_visits p k i [] = []
items_visits p k i (x ∷ xs) = (AtItem p x i ∷ item_visits p k x) ++ items_visits p (k + classes_in x) (i + 1) xs

abbrev pub program_visits : Program → List Visit
program_visits p = AtProgram p ∷ items_visits p 0 0 p.items
