-- The rules on expressions and statements, each on one visit of the walk.
use Rattle.std.specs.Prelude.{ℕ, ◌+◌, ℤ, pos, List, [], ◌∷◌, ◌++◌, Bool, true, false, not, ◌&&◌, ◌||◌, Option, Some, None, is_some, int_le, nat_eq, nat_lt, length, map, option_and_then, slice_get, if◌then◌else◌}
use Rattle.std.specs.List.{list_any}
use Rattle.uc_tree.specs.declared.limits.TheConstants.{ARRAY_LENGTH, CLAUSES, DESTRUCTOR}
use Rattle.uc_entry.specs.declared.request.TheConstants.{PRINT_ITEMS}
use Rattle.uc_tree.specs.declared.pos.Pos.{Pos}
use Rattle.uc_tree.specs.declared.kinds.Base.{Base}
use Rattle.uc_tree.specs.declared.kinds.HandlerKind.{HandlerKind}
use Rattle.uc_tree.specs.declared.kinds.HandlerKind.TheVariants as kinds
use Rattle.uc_tree.specs.declared.kinds.MemberName.{MemberName}
use Rattle.uc_tree.specs.Names.{same_name}
use Rattle.uc_tree.specs.Constants.{value_in}
use Rattle.uc_tree.specs.Numbering.{is_given, is_event, is_exclusive, is_mutex, member_number}
use Rattle.uc_tree.specs.Expressions.{Expr, Exprs, NoExprs, MoreExprs, expr_pos}
use Rattle.uc_tree.specs.Statements.{Start, StartValue, Declarator, OutItem, Endl, Literal, Printed, Handles, Handlers, NoHandlers, MoreHandlers, Accepts, Clauses, NoClauses, MoreClauses}
use Rattle.uc_tree.specs.Programs.{Member, Class, Program}
use Rattle.uc_rules.specs.declared.rule.Rule.TheVariants.{S1, S7, S8, S9, S10, S12, S13, S14, S15, S16, S20, S21, S22, S23, S24}
use Rattle.uc_rules.specs.declared.rule.Break.{Break}
use Rattle.uc_rules.specs.declared.rules.Sort.{Sort}
use Rattle.uc_rules.specs.declared.rules.Sort.TheVariants as sort
use Rattle.uc_rules.specs.declared.rules.Entity.{Entity}
use Rattle.uc_rules.specs.declared.rules.Entity.TheVariants.{Method}
use Rattle.uc_rules.specs.declared.rules.OwnClass.{OwnClass}
use Rattle.uc_rules.specs.declared.rules.NameMeaning.{NameMeaning}
use Rattle.uc_rules.specs.Sorts.{is_event_class, of_class, sort_of, class_at}
use Rattle.uc_rules.specs.Names.{constructor_params}
use Rattle.uc_rules.specs.Scopes.{Env, named, is_own, value_named, event_sort, event_named}
use Rattle.uc_rules.specs.Entities.{is_scalar, is_place, is_array, is_readable, is_object, both_scalars, path_member, built_in, is_open, takes, is_main, entity_of, count}
use Rattle.uc_rules.specs.Visits.{Visit, AtUse, AtCin, AtOperand, AtOperands, AtChange, AtAssign, AtMember, AtIndex, AtCall, AtBase, AtCondition, AtPrinted, AtTogether, AtRead, AtLoopExit, AtEvent, AtAgain, AtHandlers, AtAccept, start_values}
use Rattle.uc_rules.specs.ProgramVisits.{home_member}
use Rattle.uc_rules.specs.Asked.{unless, asked, asked_both, of_sort}

-- S1: a name that is used is declared, and so is a member behind a `.`; of what is no object a member that is called is asked
-- by the rule on calls. A base names a class.
abbrev pub is_member : Env → Bool → List ℕ → Entity → Bool
is_member env called name w = is_some (path_member env.program w name) || (is_some (built_in w name) || (called && not (is_object w)))

abbrev pub is_declared_event : Env → List ℕ → Bool
is_declared_event env name = is_some (event_named env.program name) || is_some (named env name)

abbrev pub undeclared : Visit → List Break
undeclared (AtUse env p name) = unless (is_some (named env name)) S1 p
undeclared (AtMember env sign called name w) = asked w (is_member env called name) S1 sign
undeclared (AtBase env p b) = unless (is_some (sort_of env.program b)) S1 p
undeclared (AtEvent env p name) = unless (is_declared_event env name) S1 p
undeclared _ = []

-- S2: no local is declared twice in one scope, and no event that every program has anywhere
abbrev pub is_new : Env → List ℕ → Bool
is_new env name = not (is_own env name || is_given name)

abbrev pub is_maybe_new : Env → Option (List ℕ) → Bool
is_maybe_new env None = true
is_maybe_new env (Some name) = is_new env name

-- S7: `main` is not called
abbrev pub is_no_main : Program → Entity → Bool
is_no_main p w = not (is_main p w)

abbrev pub main_called : Visit → List Break
main_called (AtCall env sign n w) = asked w (is_no_main env.program) S7 sign
main_called _ = []

-- S8: the operands of an operator and conditions are scalars, and only an array is indexed, by a scalar
abbrev pub array_and_scalar : Entity → Entity → Bool
array_and_scalar w v = is_array w && is_scalar v

abbrev pub no_scalar : Visit → List Break
no_scalar (AtOperand p w) = asked w is_scalar S8 p
no_scalar (AtOperands sign w v) = asked_both w v both_scalars S8 sign
no_scalar (AtChange sign w) = asked w is_scalar S8 sign
no_scalar (AtAssign sign w v) = asked_both w v both_scalars S8 sign
no_scalar (AtIndex sign w v) = asked_both w v array_and_scalar S8 sign
no_scalar (AtCondition p w) = asked w is_scalar S8 p
no_scalar _ = []

-- S9: an assignment, `++` and `--` has a scalar place; of what is no scalar the rule before asks
abbrev pub is_changeable : Entity → Bool
is_changeable w = is_place w || not (is_scalar w)

abbrev pub assigns : Entity → Entity → Bool
assigns w v = is_changeable w

abbrev pub no_place : Visit → List Break
no_place (AtChange sign w) = asked w is_changeable S9 sign
no_place (AtAssign sign w v) = asked_both w v assigns S9 sign
no_place _ = []

-- S10: a call names a routine, a member, or an operation of a condition or of `cin`, with the right number of arguments
abbrev pub no_routine : Visit → List Break
no_routine (AtCall env sign n w) = asked w (takes env.program n) S10 sign
no_routine _ = []

-- S13: `break` and `continue` stand in a loop of the same routine and handler
abbrev pub no_loop : Visit → List Break
no_loop (AtLoopExit env p) = unless env.around.in_loop S13 p
no_loop _ = []

-- S14: the length of an array is constant, 1 to 65,536, and a reference has none
abbrev pub length_value : Env → Expr → Option ℤ
length_value env e = value_in e (value_named env)

abbrev pub is_length : Option ℤ → Bool
is_length None = false
is_length (Some n) = int_le (pos 1) n && int_le n (pos ARRAY_LENGTH)

abbrev pub length_breaks : Env → Bool → Option Expr → Pos → List Break
length_breaks env by_ref None place = []
length_breaks env by_ref (Some e) place = unless (not by_ref && is_length (length_value env e)) S14 place

-- S15: a length is built of literals, constants and operators on them, and has a value
abbrev pub length_value_breaks : Env → Option Expr → List Break
length_value_breaks env None = []
length_value_breaks env (Some e) = unless (is_some (length_value env e)) S15 (expr_pos e)

-- S16: what a variable starts with: a scalar with at most one value, a scalar; an object with as many as its constructor has
-- parameters, in parentheses; a processor with one; an array with none, its constructor without parameters. No variable is
-- `void`. Of events another rule asks.
abbrev pub is_value_start : Start → Bool
is_value_start (StartValue e) = true
is_value_start _ = false

abbrev pub is_scalar_of : Option Entity → Bool
is_scalar_of None = true
is_scalar_of (Some w) = is_scalar w

abbrev pub are_single : Env → Exprs → Bool
are_single env NoExprs = true
are_single env (MoreExprs e NoExprs) = is_scalar_of (entity_of env e)
are_single env (MoreExprs e (MoreExprs f es)) = false

-- whether arrays of this sort may be declared
abbrev pub is_element : Program → Sort → Bool
is_element p sort.Void = false
is_element p sort.Processor = false
is_element p (sort.Object class k) = is_event k || nat_eq (length (constructor_params p class)) 0
is_element p _ = true

-- whether what a variable of this sort starts with is in order: by `=` or not, so many values, and whether one alone is a scalar
abbrev pub starts_well : Program → Bool → ℕ → Bool → Sort → Bool
starts_well p by_value n single sort.Void = false
starts_well p by_value n single sort.Int = single
starts_well p by_value n single sort.Char = single
starts_well p by_value n single sort.Bool = single
starts_well p by_value n single sort.Condition = not by_value
starts_well p by_value n single sort.Cluster = not by_value
starts_well p by_value n single sort.Processor = not by_value && nat_eq n 1
starts_well p by_value n single (sort.Object class k) = is_event k || (not by_value && nat_eq n (length (constructor_params p class)))

abbrev pub array_starts_well : Program → ℕ → Sort → Bool
array_starts_well p n s = is_element p s && nat_eq n 0

abbrev pub started_breaks : Program → Option Expr → Bool → ℕ → Bool → Pos → Option Sort → List Break
started_breaks p len by_value n single place None = []
started_breaks p None by_value n single place (Some s) = unless (starts_well p by_value n single s) S16 place
started_breaks p (Some len) by_value n single place (Some s) = unless (array_starts_well p n s) S16 place

abbrev pub start_breaks : Env → Base → Declarator → List Break
start_breaks env b d = started_breaks env.program d.len (is_value_start d.start) (count (start_values d.start)) (are_single env (start_values d.start)) d.pos (sort_of env.program b)

-- S12: a return has a value, a scalar, exactly in routines whose type is a scalar
abbrev pub return_breaks : Bool → Option (Option Entity) → Pos → List Break
return_breaks true None p = unless false S12 p
return_breaks true (Some w) p = asked w is_scalar S12 p
return_breaks false None p = []
return_breaks false (Some w) p = unless false S12 p

-- S18: what is not public is named only in its class, and no field of a coroutine behind a `.`
abbrev pub is_open_member : Option OwnClass → Option NameMeaning → Bool
is_open_member home None = true
is_open_member home (Some m) = is_open home m.origin

abbrev pub may_name : Env → List ℕ → Entity → Bool
may_name env name w = is_open_member env.around.home (path_member env.program w name)

-- S20: `_Accept` lists mutex members of its own class, or `~` with its name, none twice in a statement; at most 32 clauses. Of
-- members with one name the first is meant, which may be a field.
abbrev pub is_exclusive_member : Option Member → Bool
is_exclusive_member None = false
is_exclusive_member (Some m) = is_exclusive m.mark m.access

abbrev pub is_exclusive_entity : Class → Option Entity → Bool
is_exclusive_entity c (Some (Method i j inner by_path)) = is_exclusive_member (slice_get c.members j)
is_exclusive_entity c _ = false

abbrev pub means_exclusive : Class → Option NameMeaning → Bool
means_exclusive c None = false
means_exclusive c (Some m) = is_exclusive_entity c m.entity

-- the number of a listed member of a class, where `meant` is what the names of its members mean
abbrev pub listed_in : (List ℕ → Option NameMeaning) → Option Class → MemberName → Option ℕ
listed_in meant None m = None
listed_in meant (Some c) m =
    if m.destructor then (if is_mutex c.kind && same_name c.name m.name then Some DESTRUCTOR else None)
    else (if means_exclusive c (meant m.name) then member_number c m.name else None)

abbrev pub class_of : Env → Option Class
class_of env = option_and_then (λ h. class_at env.program h.class) env.around.home

abbrev pub is_among : ℕ → List ℕ → Bool
is_among n seen = list_any (λ m. nat_eq m n) seen

abbrev pub is_fresh : List ℕ → Option ℕ → Bool
is_fresh seen None = false
is_fresh seen (Some n) = not (is_among n seen)

abbrev pub with_listed : List ℕ → Option ℕ → List ℕ
with_listed seen None = seen
with_listed seen (Some n) = if is_among n seen then seen else seen ++ n ∷ []

abbrev pub are_fresh : List ℕ → List (Option ℕ) → Bool
are_fresh seen [] = true
are_fresh seen (n ∷ ns) = is_fresh seen n && are_fresh (with_listed seen n) ns

abbrev pub all_listed : List ℕ → List (Option ℕ) → List ℕ
all_listed seen [] = seen
all_listed seen (n ∷ ns) = all_listed (with_listed seen n) ns

-- clauses, of which the first has the place i, behind others that list the members `seen`
abbrev pub clauses_breaks : (List ℕ → Option NameMeaning) → Option Class → ℕ → List ℕ → Clauses → List Break
clauses_breaks meant c i seen NoClauses = []
clauses_breaks meant c i seen (MoreClauses (Accepts p guard members body) rest) =
    unless (nat_lt i CLAUSES && are_fresh seen (map (listed_in meant c) members)) S20 p
    ++ clauses_breaks meant c (i + 1) (all_listed seen (map (listed_in meant c) members)) rest

abbrev pub bad_clause : Visit → List Break
bad_clause (AtAccept env p cs) = clauses_breaks (home_member env.program env.around.home) (class_of env) 0 [] cs
bad_clause _ = []

-- S21: a handler's name, a raised name and a name in a list is an event, and no handler follows one of its kind for all events
abbrev pub is_catch : HandlerKind → Bool
is_catch kinds.Catch = true
is_catch kinds.CatchResume = false

abbrev pub is_event_or_all : Program → Option (List ℕ) → Bool
is_event_or_all p None = true
is_event_or_all p (Some name) = is_some (event_named p name)

-- whether a handler of this kind for all events stood before, one of each kind
abbrev pub behind_all : Bool → Bool → HandlerKind → Bool
behind_all catches resumes kinds.Catch = catches
behind_all catches resumes kinds.CatchResume = resumes

abbrev pub handlers_breaks : Program → Bool → Bool → Handlers → List Break
handlers_breaks p catches resumes NoHandlers = []
handlers_breaks p catches resumes (MoreHandlers (Handles at kind event param brace body) rest) =
    unless (is_event_or_all p event && not (behind_all catches resumes kind)) S21 at
    ++ handlers_breaks p (catches || (is_catch kind && not (is_some event))) (resumes || (not (is_catch kind) && not (is_some event))) rest

-- of a name that is not declared another rule asks
abbrev pub names_event : Env → List ℕ → Bool
names_event env name = is_some (event_named env.program name) || not (is_some (named env name))

abbrev pub no_event : Visit → List Break
no_event (AtEvent env p name) = unless (names_event env name) S21 p
no_event (AtHandlers env hs) = handlers_breaks env.program false false hs
no_event _ = []

-- S22: events are no variables, and a raised event has the arguments of its constructor
abbrev pub is_no_event : Sort → Bool
is_no_event s = not (of_class is_event_class s)

abbrev pub event_takes : Program → ℕ → Sort → Bool
event_takes p n (sort.Object class k) = nat_eq n (length (constructor_params p class))
event_takes p n _ = true

abbrev pub raise_breaks : Env → Pos → List ℕ → ℕ → List Break
raise_breaks env p name n = if is_given name then unless (nat_eq n 0) S22 p else of_sort (event_sort env.program name) (event_takes env.program n) S22 p

-- S23: an event is raised again only in a handler
abbrev pub no_handler : Visit → List Break
no_handler (AtAgain env p) = unless env.around.in_handler S23 p
no_handler _ = []

-- S24: a printed item is a scalar; an `osacquire` has at most 32 items, else the first too many breaks the rule; a read place is
-- one of `int` or `char`; `cin` alone is no value
abbrev pub out_sign : OutItem → Pos
out_sign (Endl sign) = sign
out_sign (Literal sign text) = sign
out_sign (Printed sign e) = sign

abbrev pub too_many : Option OutItem → List Break
too_many None = []
too_many (Some o) = unless false S24 (out_sign o)

abbrev pub no_stream : Visit → List Break
no_stream (AtCin p) = unless false S24 p
no_stream (AtPrinted sign w) = asked w is_scalar S24 sign
no_stream (AtTogether items) = too_many (slice_get items PRINT_ITEMS)
no_stream (AtRead p w) = asked w is_readable S24 p
no_stream _ = []
