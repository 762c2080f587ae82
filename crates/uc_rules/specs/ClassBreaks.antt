-- What the rules ask of classes, signatures and initialisers.
use Rattle.std.specs.Prelude.{ℕ, ◌+◌, List, [], ◌∷◌, ◌++◌, Bool, true, false, not, ◌&&◌, ◌||◌, Option, Some, None, is_some, nat_eq, nat_lt, nat_le, length, take, map, option_and_then, slice_get, if◌then◌else◌}
use Rattle.std.specs.List.{list_any, list_all}
use Rattle.uc_tree.specs.declared.limits.TheConstants.{CLASS_CELLS, CLASS_CONDITIONS, EVENT_FIELDS, PROGRAM_EVENTS}
use Rattle.uc_tree.specs.declared.rows.FieldClass.{FieldClass}
use Rattle.uc_tree.specs.declared.kinds.Base.{Base}
use Rattle.uc_tree.specs.declared.kinds.Base.TheVariants as base
use Rattle.uc_tree.specs.declared.kinds.MutexMark.{MutexMark}
use Rattle.uc_tree.specs.declared.kinds.MutexMark.TheVariants as mark
use Rattle.uc_tree.specs.declared.kinds.Role.{Role}
use Rattle.uc_tree.specs.declared.kinds.Role.TheVariants as role
use Rattle.uc_tree.specs.declared.kinds.Owner.{Owner}
use Rattle.uc_tree.specs.declared.kinds.Owner.TheVariants as owner
use Rattle.uc_tree.specs.declared.kinds.Param.{Param}
use Rattle.uc_tree.specs.Names.{same_name}
use Rattle.uc_tree.specs.Rows.{reaches, object_leads}
use Rattle.uc_tree.specs.Cells.{classes_of, rows_of, class_cells, object_of}
use Rattle.uc_tree.specs.Numbering.{main_name, is_given, is_event, is_mutex, is_plain, event_names, exclusive_name, member_number, condition_count}
use Rattle.uc_tree.specs.Expressions.{expr_pos}
use Rattle.uc_tree.specs.Statements.{Declarator, Stmts, NoStmts, MoreStmts}
use Rattle.uc_tree.specs.Programs.{Sig, Init, Routine, MemberForm, FieldsMember, RoutineMember, ProtoMember, Member, Class, Constant, Item, RoutineItem, Program}
use Rattle.uc_rules.specs.declared.rule.Rule.TheVariants.{S11, S12, S15, S16, S17}
use Rattle.uc_rules.specs.declared.rule.Break.{Break}
use Rattle.uc_rules.specs.declared.rules.Sort.{Sort}
use Rattle.uc_rules.specs.declared.rules.Sort.TheVariants as sort
use Rattle.uc_rules.specs.declared.rules.Entity.{Entity}
use Rattle.uc_rules.specs.declared.rules.Entity.TheVariants as entity
use Rattle.uc_rules.specs.declared.rules.Origin.{Origin}
use Rattle.uc_rules.specs.declared.rules.Origin.TheVariants as origin
use Rattle.uc_rules.specs.declared.rules.FieldPlace.{FieldPlace}
use Rattle.uc_rules.specs.declared.rules.NameMeaning.{NameMeaning}
use Rattle.uc_rules.specs.declared.rules.OwnClass.{OwnClass}
use Rattle.uc_rules.specs.Sorts.{is_scalar_sort, is_void, has_main, sort_of, class_at}
use Rattle.uc_rules.specs.Names.{is_constructor, constructor_among, constructor_params, is_field_before}
use Rattle.uc_rules.specs.Scopes.{Env}
use Rattle.uc_rules.specs.Entities.{entity_of, is_array, is_of_conditions, count}
use Rattle.uc_rules.specs.Asked.{unless, asked, of_sort}
use Rattle.uc_rules.specs.ExpressionBreaks.{are_single, is_element, length_value}

-- S2: the names that a class declares, in textual order, but for that of its constructor; a destructor has none
abbrev pub declared_names : List Declarator → List (List ℕ)
declared_names ds = map (λ d. d.name) ds

abbrev pub sig_declares : Sig → List (List ℕ)
sig_declares sig = if is_plain sig.role then sig.name ∷ [] else []

abbrev pub form_declares_names : MemberForm → List (List ℕ)
form_declares_names (FieldsMember at b ds) = declared_names ds
form_declares_names (RoutineMember r) = sig_declares r.sig
form_declares_names (ProtoMember sig) = sig_declares sig

abbrev pub members_declare : List Member → List (List ℕ)
members_declare [] = []
members_declare (m ∷ ms) = form_declares_names m.form ++ members_declare ms

-- a constructor, which has the name of its class
abbrev pub builds : MemberForm → Bool
builds (FieldsMember at b ds) = false
builds (RoutineMember r) = is_constructor r.sig.role
builds (ProtoMember sig) = is_constructor sig.role

-- names that a member with the place j may not have: those of events that every program has, and behind a constructor that of its
-- class
abbrev pub is_kept : Class → ℕ → List ℕ → Bool
is_kept c j name = is_given name || (same_name name c.name && list_any (λ m. builds m.form) (take j c.members))

-- whether none of the members before the place j declares this name
abbrev pub is_new_member : Class → ℕ → List ℕ → Bool
is_new_member c j name = not (list_any (λ x. same_name x name) (members_declare (take j c.members)) || is_kept c j name)

-- nor one of the fields before it in its own list
abbrev pub is_new_field : Class → FieldPlace → List Declarator → List ℕ → Bool
is_new_field c place ds name = is_new_member c place.member name && not (list_any (λ d. same_name d.name name) (take place.index ds))

-- the fields of the member with this place
abbrev pub form_fields : MemberForm → List Declarator
form_fields (FieldsMember at b ds) = ds
form_fields _ = []

abbrev pub member_fields : Option Member → List Declarator
member_fields None = []
member_fields (Some m) = form_fields m.form

abbrev pub fields_at : Class → ℕ → List Declarator
fields_at c j = member_fields (slice_get c.members j)

abbrev pub fields_in : List Member → ℕ
fields_in [] = 0
fields_in (m ∷ ms) = length (form_fields m.form) + fields_in ms

-- a destructor has no name of its own, and of two constructors another rule asks
abbrev pub is_new_routine_by : Role → Class → ℕ → List ℕ → Bool
is_new_routine_by role.Plain c j name = is_new_member c j name
is_new_routine_by role.Constructor c j name = not (list_any (λ x. same_name x name) (members_declare (take j c.members)))
is_new_routine_by role.Destructor c j name = true

abbrev pub is_new_routine : Class → ℕ → Sig → Bool
is_new_routine c j sig = is_new_routine_by sig.role c j sig.name

-- S4: a field leads back to its class
abbrev pub field_object : Program → Base → Declarator → Option FieldClass
field_object p b d = if d.by_ref then None else object_of (classes_of p.items) b

abbrev pub leads_back : Program → ℕ → Base → Declarator → Bool
leads_back p class b d = object_leads (reaches (length (rows_of p)) (rows_of p) class) class (field_object p b d)

abbrev pub home_leads_back : Program → Option OwnClass → Base → Declarator → Bool
home_leads_back p None b d = false
home_leads_back p (Some h) b d = leads_back p h.class b d

-- S6: a coroutine, cormonitor and task has `void main()`, and no other class a member of that name
abbrev pub is_void_base : Base → Bool
is_void_base base.Void = true
is_void_base _ = false

abbrev pub is_main_of_class : Sig → Bool
is_main_of_class sig = is_plain sig.role && (same_name sig.name main_name && (is_void_base sig.ret && nat_eq (length sig.params) 0))

abbrev pub form_is_main : MemberForm → Bool
form_is_main (FieldsMember at b ds) = false
form_is_main (RoutineMember r) = is_main_of_class r.sig
form_is_main (ProtoMember sig) = is_main_of_class sig

abbrev pub is_well_mained : Class → Bool
is_well_mained c = if has_main c.kind then list_any (λ m. form_is_main m.form) c.members else not (list_any (λ n. same_name n main_name) (members_declare c.members))

-- S12: only scalars are returned
abbrev pub may_return : Sort → Bool
may_return s = is_void s || is_scalar_sort s

abbrev pub sig_breaks : Env → Sig → List Break
sig_breaks env sig = if is_plain sig.role then of_sort (sort_of env.program sig.ret) may_return S12 sig.pos else []

-- S11: a value parameter is a scalar, and no parameter `void`
abbrev pub is_param_sort : Bool → Sort → Bool
is_param_sort by_ref s = if by_ref then not (is_void s) else is_scalar_sort s

abbrev pub param_breaks : Env → Param → List Break
param_breaks env x = of_sort (sort_of env.program x.base) (is_param_sort x.by_ref) S11 x.pos

-- S14: the cells and the conditions of a class
abbrev pub has_room : Program → Class → ℕ → Bool
has_room p c place = nat_le (class_cells p place) CLASS_CELLS && nat_le (condition_count p place c) CLASS_CONDITIONS

-- S15: a constant has a value; of one that breaks a rule itself nothing is asked
abbrev pub constant_breaks : Env → Constant → List Break
constant_breaks env c = asked (entity_of env c.value) (λ w. is_some (length_value env c.value)) S15 (expr_pos c.value)

-- S16: a field is no `void`, and an array of objects has a constructor without parameters
abbrev pub is_field_sort : Program → Declarator → Sort → Bool
is_field_sort p d s = not (is_void s) && (d.by_ref || (not (is_some d.len) || is_element p s))

-- the values that an initialiser gives, by what the field is: so many, and whether one alone is a scalar
abbrev pub sort_takes : Program → ℕ → Bool → Sort → Bool
sort_takes p n single sort.Int = single
sort_takes p n single sort.Char = single
sort_takes p n single sort.Bool = single
sort_takes p n single sort.Processor = nat_eq n 1
sort_takes p n single (sort.Object class k) = nat_eq n (length (constructor_params p class))
sort_takes p n single _ = true

abbrev pub entity_takes : Program → Bool → ℕ → Bool → Entity → Bool
entity_takes p by_ref n single (entity.Place s) = if by_ref then nat_eq n 1 else sort_takes p n single s
entity_takes p by_ref n single _ = true

abbrev pub is_by_ref : Origin → Bool
is_by_ref (origin.Parameter by_ref) = by_ref
is_by_ref (origin.Field class k access by_ref i) = by_ref
is_by_ref _ = false

abbrev pub init_count_breaks : Env → Init → Option NameMeaning → List Break
init_count_breaks env x None = []
init_count_breaks env x (Some m) = asked m.entity (entity_takes env.program (is_by_ref m.origin) (count x.args) (are_single env x.args)) S16 x.pos

-- S17: which fields an initialiser may name: no array and no condition, and none before those that are named already
abbrev pub may_start : Entity → Bool
may_start w = not (is_array w || is_of_conditions w)

abbrev pub maybe_start : Option Entity → Bool
maybe_start None = true
maybe_start (Some w) = may_start w

abbrev pub is_behind : Option FieldPlace → FieldPlace → Bool
is_behind None field = true
is_behind (Some last) field = is_field_before last field

abbrev pub is_from : Option FieldPlace → Origin → Bool
is_from last (origin.Field class k access by_ref i) = is_behind last i
is_from last _ = false

abbrev pub may_init : Option FieldPlace → Option NameMeaning → Bool
may_init last None = false
may_init last (Some m) = is_from last m.origin && maybe_start m.entity

-- the fields that need an initialiser: references, processors, and objects whose constructor has parameters
abbrev pub sort_needs : Program → Sort → Bool
sort_needs p sort.Processor = true
sort_needs p (sort.Object class k) = not (nat_eq (length (constructor_params p class)) 0)
sort_needs p _ = false

abbrev pub maybe_needs : Program → Option Sort → Bool
maybe_needs p None = false
maybe_needs p (Some s) = sort_needs p s

abbrev pub needs_init : Program → Base → Declarator → Bool
needs_init p b d = d.by_ref || (not (is_some d.len) && maybe_needs p (sort_of p b))

abbrev pub is_unset : Program → List Init → Base → Declarator → Bool
is_unset p inits b d = needs_init p b d && not (list_any (λ x. same_name x.name d.name) inits)

abbrev pub form_unset : Program → List Init → MemberForm → Bool
form_unset p inits (FieldsMember at b ds) = list_any (is_unset p inits b) ds
form_unset p inits _ = false

abbrev pub has_unset : Program → List Init → Option Class → Bool
has_unset p inits None = false
has_unset p inits (Some c) = list_any (λ m. form_unset p inits m.form) c.members

abbrev pub first_init_breaks : List Init → List Break
first_init_breaks [] = []
first_init_breaks (x ∷ xs) = unless false S17 x.pos

abbrev pub home_class : Env → Option Class
home_class env = option_and_then (λ h. class_at env.program h.class) env.around.home

abbrev pub inits_breaks : Env → Sig → List Init → List Break
inits_breaks env sig inits = if is_constructor sig.role then unless (not (has_unset env.program inits (home_class env))) S17 sig.pos else first_init_breaks inits

-- a class without a constructor
abbrev pub is_well_built : Program → Class → Bool
is_well_built p c = is_some (constructor_among c.members) || not (has_unset p [] (Some c))

-- S19: marks stand only in mutex types, not before fields, constructors, destructors and `main`, and a class has at most 31
-- mutex members besides its destructor
abbrev pub is_unmarked : MutexMark → Bool
is_unmarked mark.Unmarked = true
is_unmarked _ = false

abbrev pub sig_may_be_marked : Sig → Bool
sig_may_be_marked sig = is_plain sig.role && not (same_name sig.name main_name)

abbrev pub form_may_be_marked : MemberForm → Bool
form_may_be_marked (FieldsMember at b ds) = false
form_may_be_marked (RoutineMember r) = sig_may_be_marked r.sig
form_may_be_marked (ProtoMember sig) = sig_may_be_marked sig

abbrev pub has_number : Class → Option (List ℕ) → Bool
has_number c None = true
has_number c (Some name) = not (is_mutex c.kind) || is_some (member_number c name)

abbrev pub is_well_marked : Class → Member → Bool
is_well_marked c m = (is_unmarked m.mark || (is_mutex c.kind && form_may_be_marked m.form)) && has_number c (exclusive_name m)

-- S22: an event has at most two scalar fields, no other members but a constructor with an empty body; a program has at most 62.
-- Of a base that names nothing another rule asks.
abbrev pub may_be_scalar : Option Sort → Bool
may_be_scalar None = true
may_be_scalar (Some s) = is_scalar_sort s

abbrev pub is_event_field : Program → Base → Declarator → Bool
is_event_field p b d = may_be_scalar (sort_of p b) && (not d.by_ref && not (is_some d.len))

abbrev pub has_event_fields : Program → MemberForm → Bool
has_event_fields p (FieldsMember at b ds) = list_all (is_event_field p b) ds
has_event_fields p _ = true

abbrev pub is_empty_body : Stmts → Bool
is_empty_body NoStmts = true
is_empty_body (MoreStmts first rest) = false

abbrev pub is_empty_constructor : Routine → Bool
is_empty_constructor r = is_constructor r.sig.role && is_empty_body r.body

abbrev pub is_owner : List ℕ → Owner → Bool
is_owner name (owner.Class c) = same_name c name
is_owner name _ = false

-- a constructor of this class that stands outside of it and has a statement
abbrev pub builds_more : List ℕ → Item → Bool
builds_more name (RoutineItem r) = is_owner name r.sig.owner && (is_constructor r.sig.role && not (is_empty_body r.body))
builds_more name _ = false

abbrev pub is_event_member : Program → Class → MemberForm → Bool
is_event_member p c (FieldsMember at b ds) = true
is_event_member p c (RoutineMember r) = is_empty_constructor r
is_event_member p c (ProtoMember sig) = is_constructor sig.role && not (list_any (builds_more c.name) p.items)

abbrev pub events_before : Program → ℕ → ℕ
events_before p place = length (event_names (take place (classes_of p.items)))

abbrev pub is_sound_event : Program → Class → ℕ → Bool
is_sound_event p c place =
    not (is_event c.kind)
    || (list_all (λ m. is_event_member p c m.form) c.members
    && (list_all (λ m. has_event_fields p m.form) c.members && (nat_le (fields_in c.members) EVENT_FIELDS && nat_lt (events_before p place) PROGRAM_EVENTS)))
