-- The rules on who owns what, each on one visit of the walk.
use Rattle.std.specs.Prelude.{ℕ, ◌+◌, List, [], ◌∷◌, Bool, true, false, not, ◌&&◌, ◌||◌, Option, Some, None, is_some, if◌then◌else◌}
use Rattle.std.specs.List.{list_any, list_all}
use Rattle.uc_tree.specs.declared.pos.Pos.{Pos}
use Rattle.uc_tree.specs.declared.kinds.Base.{Base}
use Rattle.uc_tree.specs.declared.kinds.Kind.{Kind}
use Rattle.uc_tree.specs.declared.kinds.Param.{Param}
use Rattle.uc_tree.specs.Names.{same_name}
use Rattle.uc_tree.specs.Numbering.{is_mutex}
use Rattle.uc_tree.specs.Expressions.{Expr, Name, Postfix, Exprs, NoExprs, MoreExprs, expr_pos}
use Rattle.uc_tree.specs.Statements.{Declarator}
use Rattle.uc_tree.specs.Programs.{Init, Routine, MemberForm, FieldsMember, RoutineMember, Member, Class, Item, RoutineItem, Program}
use Rattle.uc_rules.specs.declared.rule.Rule.TheVariants.{O1, O2, O3, O4, O5, O6, O7, O8, O9}
use Rattle.uc_rules.specs.declared.rule.Break.{Break}
use Rattle.uc_rules.specs.declared.rules.Sort.{Sort}
use Rattle.uc_rules.specs.declared.rules.Entity.{Entity}
use Rattle.uc_rules.specs.declared.rules.Entity.TheVariants as entity
use Rattle.uc_rules.specs.declared.rules.Expected.{Expected}
use Rattle.uc_rules.specs.declared.rules.Origin.{Origin}
use Rattle.uc_rules.specs.declared.rules.Origin.TheVariants as origin
use Rattle.uc_rules.specs.declared.rules.FieldPlace.{FieldPlace}
use Rattle.uc_rules.specs.declared.rules.NameMeaning.{NameMeaning}
use Rattle.uc_rules.specs.declared.rules.OwnClass.{OwnClass}
use Rattle.uc_rules.specs.declared.rules.Bound.{Bound}
use Rattle.uc_rules.specs.declared.rules.Surroundings.{Surroundings}
use Rattle.uc_rules.specs.Sorts.{is_scalar_sort, is_condition, is_cluster, is_coroutine, is_cormonitor, is_plain_class, is_mutex_class, is_coroutine_class, is_task_class, of_class, sort_of, class_at}
use Rattle.uc_rules.specs.Names.{is_constructor, member_named, place_in, is_field_before}
use Rattle.uc_rules.specs.Scopes.{Env, named}
use Rattle.uc_rules.specs.Entities.{value_test, none_of, is_object, is_of_conditions, is_operation, path_member}
use Rattle.uc_rules.specs.ClassBreaks.{is_owner}
use Rattle.uc_rules.specs.ProgramVisits.{is_reference}
use Rattle.uc_rules.specs.Visits.{Visit, AtUse, AtMember, AtArgument, AtAssign, AtCall, AtStatement, AtReturn, AtVariable, AtRaiseTarget, AtMigrate, AtAccept, AtSwitch, AtBound, AtParam, AtField}
use Rattle.uc_rules.specs.Asked.{unless, asked, asked_both, of_sort}

-- O1: a reference parameter of a mutex type's constructor names a mutex type or `uCluster`
abbrev pub is_shared : Sort → Bool
is_shared s = is_cluster s || of_class is_mutex_class s

abbrev pub is_home_of : (Kind → Bool) → Option OwnClass → Bool
is_home_of test None = false
is_home_of test (Some h) = test h.kind

abbrev pub shared_breaks : Env → Param → List Break
shared_breaks env x = if x.by_ref && (is_constructor env.around.role && is_home_of is_mutex env.around.home) then of_sort (sort_of env.program x.base) is_shared O1 x.pos else []

abbrev pub unshared_reference : Visit → List Break
unshared_reference (AtParam env x) = shared_breaks env x
unshared_reference _ = []

-- O2: a field of a mutex type is named only without a path, in an inner routine of its class
abbrev pub is_mutex_field : Origin → Bool
is_mutex_field (origin.Field class k access by_ref i) = is_mutex k
is_mutex_field _ = false

abbrev pub is_mutex_field_of : Option NameMeaning → Bool
is_mutex_field_of None = false
is_mutex_field_of (Some m) = is_mutex_field m.origin

abbrev pub field_outside : Visit → List Break
field_outside (AtUse env p name) = unless (env.around.inner || not (is_mutex_field_of (named env name))) O2 p
field_outside (AtMember env sign called name w) = asked w (λ e. not (is_mutex_field_of (path_member env.program e name))) O2 sign
field_outside _ = []

-- O3: a member of a mutex type that is not a mutex member is called without a path, in an inner routine of its class
abbrev pub may_be_called : Bool → Entity → Bool
may_be_called inner (entity.Method i j inner_only by_path) = not inner_only || (inner && not by_path)
may_be_called inner _ = true

abbrev pub called_outside : Visit → List Break
called_outside (AtCall env sign n w) = asked w (may_be_called env.around.inner) O3 sign
called_outside _ = []

-- O4: `uCondition` stands only as a field of a mutex type, and a condition is named only in an inner routine of its class, as
-- the object of one of its calls
abbrev pub is_no_condition_sort : Sort → Bool
is_no_condition_sort s = not (is_condition s)

abbrev pub is_no_condition : Entity → Bool
is_no_condition w = not (is_of_conditions w)

abbrev pub is_no_part_of_condition : Entity → Bool
is_no_part_of_condition w = not (is_of_conditions w || is_operation w)

abbrev pub is_condition_of : Option Entity → Bool
is_condition_of None = false
is_condition_of (Some w) = is_of_conditions w

abbrev pub names_condition : Option NameMeaning → Bool
names_condition None = false
names_condition (Some m) = is_condition_of m.entity

-- a condition that is named without a path is a field of the class round it, where it is that of a mutex type
abbrev pub may_name_condition : Bool → Option NameMeaning → Bool
may_name_condition inner m = not (names_condition m) || (inner && is_mutex_field_of m)

abbrev pub condition_field_breaks : Env → Base → Declarator → List Break
condition_field_breaks env b d = if is_home_of is_mutex env.around.home then [] else of_sort (sort_of env.program b) is_no_condition_sort O4 d.pos

abbrev pub lone_condition : Visit → List Break
lone_condition (AtUse env p name) = unless (may_name_condition env.around.inner (named env name)) O4 p
lone_condition (AtMember env sign called name w) = asked w (λ e. not (names_condition (path_member env.program e name))) O4 sign
lone_condition (AtArgument p x w) = asked w is_no_condition O4 p
lone_condition (AtStatement p w) = asked w is_no_part_of_condition O4 p
lone_condition (AtRaiseTarget p w) = asked w is_no_condition O4 p
lone_condition (AtMigrate p w) = asked w is_no_condition O4 p
lone_condition (AtVariable env b d) = of_sort (sort_of env.program b) is_no_condition_sort O4 d.pos
lone_condition (AtParam env x) = of_sort (sort_of env.program x.base) is_no_condition_sort O4 x.pos
lone_condition (AtField env c a b d place) = condition_field_breaks env b d
lone_condition _ = []

-- O5: a reference is bound only as a parameter or by an initialiser, and no scalar or plain object is a reference field of a mutex
-- type unless it is bound to a field of the same object

-- the name that a path begins with
abbrev pub root_name : Expr → Option (List ℕ)
root_name (Name p name) = Some name
root_name (Postfix p root parts) = root_name root
root_name _ = None

abbrev pub is_field_origin : Origin → Bool
is_field_origin (origin.Field class k access by_ref i) = true
is_field_origin _ = false

abbrev pub is_field_meant : Option NameMeaning → Bool
is_field_meant None = false
is_field_meant (Some m) = is_field_origin m.origin

-- whether this name stands for a field of the class in a routine of it: a parameter hides one
abbrev pub names_own_field : Program → ℕ → Routine → Option (List ℕ) → Bool
names_own_field p class r None = false
names_own_field p class r (Some name) = not (list_any (λ x. same_name x.name name) r.sig.params) && is_field_meant (member_named p class name)

abbrev pub binds_own : Program → ℕ → Routine → Exprs → Bool
binds_own p class r (MoreExprs e NoExprs) = names_own_field p class r (root_name e)
binds_own p class r _ = false

-- whether a routine binds a field to one of the same object
abbrev pub init_binds : Program → ℕ → List ℕ → Routine → Init → Bool
init_binds p class name r x = same_name x.name name && binds_own p class r x.args

abbrev pub routine_binds : Program → ℕ → List ℕ → Routine → Bool
routine_binds p class name r = is_constructor r.sig.role && list_any (init_binds p class name r) r.inits

abbrev pub form_binds : Program → ℕ → List ℕ → MemberForm → Bool
form_binds p class name (RoutineMember r) = routine_binds p class name r
form_binds p class name _ = false

abbrev pub item_binds : Program → ℕ → List ℕ → List ℕ → Item → Bool
item_binds p class class_name name (RoutineItem r) = is_owner class_name r.sig.owner && routine_binds p class name r
item_binds p class class_name name _ = false

abbrev pub is_bound_inside : Program → Class → ℕ → List ℕ → Bool
is_bound_inside p c class name = list_any (λ m. form_binds p class name m.form) c.members || list_any (item_binds p class c.name name) p.items

-- what a mutex type may not borrow
abbrev pub is_unshared : Sort → Bool
is_unshared s = is_scalar_sort s || of_class is_plain_class s

abbrev pub may_refer : Program → Class → ℕ → List ℕ → Sort → Bool
may_refer p c class name s = not (is_unshared s) || is_bound_inside p c class name

abbrev pub reference_breaks : Env → Class → Option OwnClass → Base → Declarator → List Break
reference_breaks env c None b d = []
reference_breaks env c (Some h) b d = if d.by_ref && is_mutex h.kind then of_sort (sort_of env.program b) (may_refer env.program c h.class d.name) O5 d.pos else []

abbrev pub unbound_reference : Visit → List Break
unbound_reference (AtVariable env b d) = unless (not d.by_ref) O5 d.pos
unbound_reference (AtField env c a b d place) = reference_breaks env c env.around.home b d
unbound_reference _ = []

-- O6: an argument of an initialiser for a reference begins with a reference parameter or a field, and its names without a path
-- are of no member of the class but fields declared earlier, or of a later field that a reference is bound to where both are of
-- bare coroutine types, and each field between them of one, a scalar, an array of scalars or a reference

-- a coroutine whose own fields are scalars, arrays of scalars and references
abbrev pub is_simple_sort : Option Sort → Bool
is_simple_sort None = false
is_simple_sort (Some s) = is_scalar_sort s

abbrev pub is_simple_field : Program → Base → Declarator → Bool
is_simple_field p b d = d.by_ref || is_simple_sort (sort_of p b)

abbrev pub form_is_simple : Program → MemberForm → Bool
form_is_simple p (FieldsMember at b ds) = list_all (is_simple_field p b) ds
form_is_simple p _ = true

abbrev pub is_simple_class : Program → Option Class → Bool
is_simple_class p None = false
is_simple_class p (Some c) = list_all (λ m. form_is_simple p m.form) c.members

abbrev pub is_bare_class : Program → ℕ → Kind → Bool
is_bare_class p class k = is_coroutine k && is_simple_class p (class_at p class)

abbrev pub is_bare_sort : Program → Option Sort → Bool
is_bare_sort p None = false
is_bare_sort p (Some s) = of_class (is_bare_class p) s

-- a field of a bare coroutine type
abbrev pub is_bare_field : Program → Base → Declarator → Bool
is_bare_field p b d = not d.by_ref && (not (is_some d.len) && is_bare_sort p (sort_of p b))

abbrev pub may_stand_between : Program → Base → Declarator → Bool
may_stand_between p b d = is_bare_field p b d || is_simple_field p b d

-- the two fields at the ends are bare, and what is between them may stand there
abbrev pub is_outside : FieldPlace → FieldPlace → FieldPlace → Bool
is_outside from to place = is_field_before place from || is_field_before to place

abbrev pub is_inside : FieldPlace → FieldPlace → FieldPlace → Bool
is_inside from to place = is_field_before from place && is_field_before place to

abbrev pub span_allows : Program → FieldPlace → FieldPlace → FieldPlace → Base → Declarator → Bool
span_allows p from to place b d = is_outside from to place || (is_bare_field p b d || (is_inside from to place && may_stand_between p b d))

-- the fields of the member with the place j, of which the first has the place i
abbrev pub fields_allow : Program → FieldPlace → FieldPlace → ℕ → ℕ → Base → List Declarator → Bool
fields_allow p from to j i b [] = true
fields_allow p from to j i b (d ∷ ds) = span_allows p from to (place_in j i) b d && fields_allow p from to j (i + 1) b ds

abbrev pub form_allows : Program → FieldPlace → FieldPlace → ℕ → MemberForm → Bool
form_allows p from to j (FieldsMember at b ds) = fields_allow p from to j 0 b ds
form_allows p from to j _ = true

abbrev pub members_allow : Program → FieldPlace → FieldPlace → ℕ → List Member → Bool
members_allow p from to j [] = true
members_allow p from to j (m ∷ ms) = form_allows p from to j m.form && members_allow p from to (j + 1) ms

abbrev pub class_allows : Program → FieldPlace → FieldPlace → Option Class → Bool
class_allows p from to None = false
class_allows p from to (Some c) = members_allow p from to 0 c.members

-- a field with this place in an argument
abbrev pub may_use_field : Program → Bound → ℕ → FieldPlace → Bool
may_use_field p b class place = is_field_before place b.field || (b.whole && (is_field_before b.field place && class_allows p b.field place (class_at p class)))

abbrev pub may_use_origin : Program → Bound → Origin → Bool
may_use_origin p b (origin.Field class k access by_ref i) = may_use_field p b class i
may_use_origin p b (origin.Method class access) = false
may_use_origin p b _ = true

abbrev pub may_use : Program → Bound → Option NameMeaning → Bool
may_use p b None = true
may_use p b (Some m) = may_use_origin p b m.origin

abbrev pub use_breaks : Env → Option Bound → List ℕ → List Break
use_breaks env None name = []
use_breaks env (Some b) name = unless (may_use env.program b (named env name)) O6 b.pos

abbrev pub is_root_origin : Origin → Bool
is_root_origin (origin.Parameter by_ref) = by_ref
is_root_origin (origin.Field class k access by_ref i) = true
is_root_origin _ = false

abbrev pub is_root : Option NameMeaning → Bool
is_root None = false
is_root (Some m) = is_root_origin m.origin

abbrev pub begins_well : Env → Option (List ℕ) → Bool
begins_well env None = false
begins_well env (Some name) = is_root (named env name)

abbrev pub unowned_argument : Visit → List Break
unowned_argument (AtUse env p name) = use_breaks env env.around.bound name
unowned_argument (AtBound env e x) = unless (not (is_reference x) || begins_well env (root_name e)) O6 (expr_pos e)
unowned_argument _ = []

-- O7: no object is assigned, passed or returned by value
abbrev pub is_no_object : Entity → Bool
is_no_object w = not (is_object w)

abbrev pub are_no_objects : Entity → Entity → Bool
are_no_objects w v = is_no_object w && is_no_object v

abbrev pub passes : Expected → Entity → Bool
passes x w = is_reference x || is_no_object w

abbrev pub returned_breaks : Option (Option Entity) → Pos → List Break
returned_breaks None p = []
returned_breaks (Some w) p = asked w is_no_object O7 p

abbrev pub copied_object : Visit → List Break
copied_object (AtAssign sign w v) = asked_both w v are_no_objects O7 sign
copied_object (AtArgument p x w) = asked w (passes x) O7 p
copied_object (AtReturn env p value) = returned_breaks value p
copied_object _ = []

-- O8: the object after `_At` is a task or a plain coroutine, that of `migrate` a cluster
abbrev pub is_raise_target_sort : Sort → Bool
is_raise_target_sort s = of_class is_task_class s || of_class is_coroutine_class s

abbrev pub is_raise_target : Entity → Bool
is_raise_target = value_test none_of is_raise_target_sort none_of

abbrev pub is_cluster_place : Entity → Bool
is_cluster_place = value_test none_of is_cluster none_of

abbrev pub no_target : Visit → List Break
no_target (AtRaiseTarget p w) = asked w is_raise_target O8 p
no_target (AtMigrate p w) = asked w is_cluster_place O8 p
no_target _ = []

-- O9: `resume` and `suspend` stand in members of a coroutine or in inner routines of a cormonitor, `_Accept` in an inner routine of
-- a mutex type other than its constructor
abbrev pub may_switch_in : Bool → OwnClass → Bool
may_switch_in inner h = is_coroutine h.kind || (is_cormonitor h.kind && inner)

abbrev pub may_switch : Surroundings → Option OwnClass → Bool
may_switch a None = false
may_switch a (Some h) = may_switch_in a.inner h

abbrev pub may_accept : Surroundings → Bool
may_accept a = a.inner && not (is_constructor a.role)

abbrev pub misplaced : Visit → List Break
misplaced (AtSwitch env p) = unless (may_switch env.around env.around.home) O9 p
misplaced (AtAccept env p cs) = unless (may_accept env.around) O9 p
misplaced _ = []
