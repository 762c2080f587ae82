-- The environment of a place in a program: the names in scope, and what stands round it.
use Rattle.std.specs.Prelude.{ℕ, ℤ, List, [], ◌∷◌, ◌++◌, length, drop, Bool, true, false, not, ◌&&◌, ◌||◌, Option, Some, None, option_map, if◌then◌else◌, is_some}
use Rattle.std.specs.List.{list_any}
use Rattle.uc_tree.specs.declared.kinds.Base.{Base}
use Rattle.uc_tree.specs.declared.kinds.Role.TheVariants as role
use Rattle.uc_tree.specs.declared.kinds.MutexMark.{MutexMark}
use Rattle.uc_tree.specs.declared.kinds.Param.{Param}
use Rattle.uc_tree.specs.Names.{same_name}
use Rattle.uc_tree.specs.Constants.{constants_of, value_of_name, length_in}
use Rattle.uc_tree.specs.Numbering.{main_name, is_given, is_mutex, is_plain}
use Rattle.uc_tree.specs.Statements.{Declarator, ForStart, NoFor, ForDeclare, ForEvaluate, Stmt, Declare, Stmts, NoStmts, MoreStmts}
use Rattle.uc_tree.specs.Programs.{Sig, Program}
use Rattle.uc_rules.specs.declared.rules.Sort.{Sort}
use Rattle.uc_rules.specs.declared.rules.Entity.{Entity}
use Rattle.uc_rules.specs.declared.rules.Entity.TheVariants.{Place, Main, ClassName}
use Rattle.uc_rules.specs.declared.rules.Origin.TheVariants as origin
use Rattle.uc_rules.specs.declared.rules.NameMeaning.{NameMeaning}
use Rattle.uc_rules.specs.declared.rules.LocalName.{LocalName}
use Rattle.uc_rules.specs.declared.rules.OwnClass.{OwnClass}
use Rattle.uc_rules.specs.declared.rules.Bound.{Bound}
use Rattle.uc_rules.specs.declared.rules.Surroundings.{Surroundings}
use Rattle.uc_rules.specs.Sorts.{is_scalar_sort, is_event_class, of_class, sort_of, class_named}
use Rattle.uc_rules.specs.Names.{declared_entity, outer, member_named, outer_named, is_nomutex}

-- the program, what stands round a place, the locals and parameters that are seen there from the outermost scope on, and how
-- many of them the innermost scope does not own
pub record Env : Type 0 where
  pub program : Program
  pub around : Surroundings
  pub names : List LocalName
  pub outside : ℕ

-- names

abbrev pub later_or : Option NameMeaning → LocalName → List ℕ → Option NameMeaning
later_or (Some m) seen name = Some m
later_or None seen name = if same_name seen.name name then Some seen.meant else None

-- of several locals with one name the last one is meant
abbrev pub local_named : List LocalName → List ℕ → Option NameMeaning
local_named [] name = None
local_named (s ∷ ss) name = later_or (local_named ss name) s name

abbrev pub main_meant : NameMeaning
main_meant = outer Main

-- members of uMain see its main
abbrev pub own_named : Program → Bool → Option OwnClass → List ℕ → Option NameMeaning
own_named p main (Some h) name = member_named p h.class name
own_named p true None name = if same_name main_name name then Some main_meant else None
own_named p false None name = None

abbrev pub named_behind : Option NameMeaning → Option NameMeaning → Option NameMeaning
named_behind (Some m) other = Some m
named_behind None other = other

-- a name: a local or a parameter, else a member of the class, else what all of the program sees
abbrev pub named : Env → List ℕ → Option NameMeaning
named env name = named_behind (local_named env.names name) (named_behind (own_named env.program env.around.main env.around.home name) (outer_named env.program name))

-- whether a local, a parameter or a member hides what all of the program sees
abbrev pub is_hidden : Env → List ℕ → Bool
is_hidden env name = is_some (local_named env.names name) || is_some (own_named env.program env.around.main env.around.home name)

-- whether the innermost scope has a name
abbrev pub is_own : Env → List ℕ → Bool
is_own env name = list_any (λ s. same_name s.name name) (drop env.outside env.names)

-- constants

abbrev pub value_named : Env → List ℕ → Option ℤ
value_named env name = if is_hidden env name then None else value_of_name (constants_of env.program.items) name

-- how the environment changes

abbrev pub with_seen : Env → LocalName → Env
with_seen env s = record { program = env.program; around = env.around; names = env.names ++ s ∷ []; outside = env.outside }

abbrev pub with_around : Env → Surroundings → Env
with_around env a = record { program = env.program; around = a; names = env.names; outside = env.outside }

abbrev pub with_joins : Bool → Surroundings → Surroundings
with_joins b a = record { home = a.home; main = a.main; role = a.role; inner = a.inner; returns = a.returns; in_loop = a.in_loop; in_handler = a.in_handler; joins = b; bound = a.bound }

-- a new scope
abbrev pub opened : Env → Env
opened env = record { program = env.program; around = with_joins false env.around; names = env.names; outside = length env.names }

-- the scope of a block: that of the `for` where it is its statement
abbrev pub block_env : Env → Env
block_env env = if env.around.joins then with_around env (with_joins false env.around) else opened env

abbrev pub in_loop : Surroundings → Surroundings
in_loop a = record { home = a.home; main = a.main; role = a.role; inner = a.inner; returns = a.returns; in_loop = true; in_handler = a.in_handler; joins = a.joins; bound = a.bound }

-- a loop round a handler is none for what stands in it
abbrev pub in_handler : Surroundings → Surroundings
in_handler a = record { home = a.home; main = a.main; role = a.role; inner = a.inner; returns = a.returns; in_loop = false; in_handler = true; joins = a.joins; bound = a.bound }

abbrev pub in_argument : Bound → Surroundings → Surroundings
in_argument b a = record { home = a.home; main = a.main; role = a.role; inner = a.inner; returns = a.returns; in_loop = a.in_loop; in_handler = a.in_handler; joins = a.joins; bound = Some b }

-- declarations

abbrev pub place_of : Sort → Entity
place_of s = Place s

abbrev pub seen_as : Env → Base → Declarator → LocalName
seen_as env b d = record { name = d.name; meant = record { entity = declared_entity env.program b d (length_in (value_named env) d.len); origin = origin.Local } }

abbrev pub declared : Env → Base → Declarator → Env
declared env b d = with_seen env (seen_as env b d)

abbrev pub all_declared : Env → Base → List Declarator → Env
all_declared env b [] = env
all_declared env b (d ∷ ds) = all_declared (declared env b d) b ds

abbrev pub param_seen : Program → Param → LocalName
param_seen p x = record { name = x.name; meant = record { entity = option_map place_of (sort_of p x.base); origin = origin.Parameter x.by_ref } }

abbrev pub with_param : Env → Param → Env
with_param env x = with_seen env (param_seen env.program x)

abbrev pub with_params : Env → List Param → Env
with_params env [] = env
with_params env (x ∷ xs) = with_params (with_param env x) xs

-- an event of the program by its name; none where the name is no such event
abbrev pub event_among : Option Sort → Option Sort
event_among None = None
event_among (Some s) = if of_class is_event_class s then Some s else None

abbrev pub event_sort : Program → List ℕ → Option Sort
event_sort p name = event_among (class_named p name)

-- what stands for an event that is handled; none where the name is no event. Events are looked up among the classes alone, also
-- where a local or a member hides the name
abbrev pub event_named : Program → List ℕ → Option Entity
event_named p name = if is_given name then Some ClassName else option_map place_of (event_sort p name)

-- the parameter of a handler
abbrev pub caught_entity : Program → Option (List ℕ) → Option Entity
caught_entity p None = None
caught_entity p (Some event) = event_named p event

abbrev pub with_caught : Env → Option (List ℕ) → Option (List ℕ) → Env
with_caught env event None = env
with_caught env event (Some name) = with_seen env (record { name = name; meant = record { entity = caught_entity env.program event; origin = origin.Local } })

-- the names that are seen behind a statement: those of a block are gone
abbrev pub env_after : Env → Stmt → Env
env_after env (Declare p b ds) = all_declared env b ds
env_after env _ = env

abbrev pub env_behind : Env → Stmts → Env
env_behind env NoStmts = env
env_behind env (MoreStmts first rest) = env_behind (env_after env first) rest

abbrev pub for_declared : Env → ForStart → Env
for_declared env NoFor = env
for_declared env (ForDeclare at b ds) = all_declared env b ds
for_declared env (ForEvaluate e) = env

-- the environment outside of routines, and that of a routine with its parameters

abbrev pub no_around : Surroundings
no_around = record { home = None; main = false; role = role.Plain; inner = false; returns = false; in_loop = false; in_handler = false; joins = false; bound = None }

-- what stands in a class, outside of its routines
abbrev pub class_around : OwnClass → Surroundings
class_around h = record { home = Some h; main = false; role = role.Plain; inner = false; returns = false; in_loop = false; in_handler = false; joins = false; bound = None }

abbrev pub plain_env : Program → Surroundings → Env
plain_env p a = record { program = p; around = a; names = []; outside = 0 }

abbrev pub has_scalar_sort : Option Sort → Bool
has_scalar_sort None = false
has_scalar_sort (Some s) = is_scalar_sort s

abbrev pub returns_scalar : Program → Base → Bool
returns_scalar p b = has_scalar_sort (sort_of p b)

-- the inner routines of a mutex type are its mutex members, constructors, destructors and main, and what is neither public
-- nor marked `_Nomutex`
abbrev pub is_inner : OwnClass → MutexMark → Sig → Bool
is_inner h m sig = is_mutex h.kind && (not (is_plain sig.role) || (same_name sig.name main_name || not (is_nomutex m)))

abbrev pub sig_around : Program → Option OwnClass → Bool → MutexMark → Sig → Surroundings
sig_around p None main m sig = record { home = None; main = main; role = sig.role; inner = false; returns = returns_scalar p sig.ret; in_loop = false; in_handler = false; joins = false; bound = None }
sig_around p (Some h) main m sig = record { home = Some h; main = main; role = sig.role; inner = is_inner h m sig; returns = returns_scalar p sig.ret; in_loop = false; in_handler = false; joins = false; bound = None }
