-- The environment at a place of a program: the way there from an item, or a member of a class, through the statements.
use Rattle.std.specs.Prelude.{ℕ, zero, suc, List, [], ◌∷◌, Bool, true, false, Option, Some, None, option_and_then, length, take, slice_get, nat_eq, if◌then◌else◌}
use Rattle.uc_tree.specs.declared.kinds.Base.{Base}
use Rattle.uc_tree.specs.declared.kinds.MutexMark.{MutexMark}
use Rattle.uc_tree.specs.Cells.{classes_of}
use Rattle.uc_tree.specs.Statements.{Declarator, ForStart, NoFor, ForDeclare, ForEvaluate, Stmt, Block, Declare, If, While, Do, For, Try, Enable, Disable, Accept, Stmts, NoStmts, MoreStmts, MaybeStmt, NoStmt, OneStmt, Handler, Handles, Handlers, NoHandlers, MoreHandlers, Clause, Accepts, Clauses, NoClauses, MoreClauses}
use Rattle.uc_tree.specs.Programs.{MemberForm, FieldsMember, RoutineMember, ProtoMember, Class, Item, ClassItem, RoutineItem, ConstItem, ProtoItem, ForwardItem, UsingItem, Program}
use Rattle.uc_rules.specs.declared.rules.OwnClass.{OwnClass}
use Rattle.uc_rules.specs.Scopes.{Env, opened, block_env, declared, with_caught, env_after, for_declared, no_around, class_around, plain_env, with_params}
use Rattle.uc_rules.specs.Visits.{handling, joined, looped}
use Rattle.uc_rules.specs.ProgramVisits.{outer_env, sig_env}
use Rattle.uc_front.specs.declared.place.Step.{Step}
use Rattle.uc_front.specs.declared.place.Step.TheVariants as to

-- where a way has come: before a body or a statement, or before what holds no statement, with the environment there
pub data Node : Type 0 where
  AtBody : (env : Env) (body : Stmts) → Node
  AtStmt : (env : Env) (s : Stmt) → Node
  AtLeaf : (env : Env) → Node

abbrev pub node_env : Node → Env
node_env (AtBody env body) = env
node_env (AtStmt env s) = env
node_env (AtLeaf env) = env

-- a statement of a body by its number; behind the last one there is the end of the body
abbrev pub nth_node : Env → Stmts → ℕ → Option Node
nth_node env NoStmts zero = Some (AtLeaf env)
nth_node env NoStmts (suc i) = None
nth_node env (MoreStmts s ss) zero = Some (AtStmt env s)
nth_node env (MoreStmts s ss) (suc i) = nth_node (env_after env s) ss i

-- behind so many variables of a declaration
abbrev pub behind_node : Env → Base → List Declarator → ℕ → Option Node
behind_node env b ds zero = Some (AtLeaf env)
behind_node env b [] (suc i) = None
behind_node env b (d ∷ ds) (suc i) = behind_node (declared env b d) b ds i

-- the same in a `for`, which may have none
abbrev pub lone_node : Env → ℕ → Option Node
lone_node env i = if nat_eq i 0 then Some (AtLeaf env) else None

abbrev pub head_node : Env → ForStart → ℕ → Option Node
head_node env NoFor i = lone_node env i
head_node env (ForDeclare p b ds) i = behind_node env b ds i
head_node env (ForEvaluate e) i = lone_node env i

abbrev pub maybe_node : Env → MaybeStmt → Option Node
maybe_node env NoStmt = None
maybe_node env (OneStmt s) = Some (AtStmt (opened env) s)

abbrev pub handling_node : Env → Handler → Node
handling_node env (Handles p kind event param brace body) = AtBody (with_caught (handling env) event param) body

abbrev pub handler_node : Env → Handlers → ℕ → Option Node
handler_node env NoHandlers i = None
handler_node env (MoreHandlers first rest) zero = Some (handling_node env first)
handler_node env (MoreHandlers first rest) (suc i) = handler_node env rest i

abbrev pub accepted_node : Env → Clause → Node
accepted_node env (Accepts p guard members body) = AtStmt (opened env) body

abbrev pub clause_node : Env → Clauses → ℕ → Option Node
clause_node env NoClauses i = None
clause_node env (MoreClauses first rest) zero = Some (accepted_node env first)
clause_node env (MoreClauses first rest) (suc i) = clause_node env rest i

-- what stands in each form of a statement

abbrev pub block_node : Env → Stmts → Step → Option Node
block_node env body to.Body = Some (AtBody env body)
block_node env body _ = None

abbrev pub declaration_node : Env → Base → List Declarator → Step → Option Node
declaration_node env b ds (to.At i) = behind_node env b ds i
declaration_node env b ds _ = None

abbrev pub if_node : Env → Stmt → MaybeStmt → Step → Option Node
if_node env chosen other to.Body = Some (AtStmt (opened env) chosen)
if_node env chosen other to.Other = maybe_node env other
if_node env chosen other _ = None

-- a statement that holds one other
abbrev pub held_node : Env → Stmt → Step → Option Node
held_node env body to.Body = Some (AtStmt (opened env) body)
held_node env body _ = None

abbrev pub for_node : Env → ForStart → Stmt → Step → Option Node
for_node env start body (to.Head i) = head_node env start i
for_node env start body to.Body = Some (AtStmt (joined (looped (for_declared env start))) body)
for_node env start body _ = None

abbrev pub try_node : Env → Stmts → Handlers → Step → Option Node
try_node env body hs to.Body = Some (AtBody (opened env) body)
try_node env body hs (to.Handler i) = handler_node env hs i
try_node env body hs _ = None

abbrev pub accept_node : Env → Clauses → MaybeStmt → Step → Option Node
accept_node env cs other (to.Clause i) = clause_node env cs i
accept_node env cs other to.Other = maybe_node env other
accept_node env cs other _ = None

abbrev pub inner_node : Env → Stmt → Step → Option Node
inner_node env (Block p body) step = block_node (block_env env) body step
inner_node env (Declare p b ds) step = declaration_node env b ds step
inner_node env (If p test chosen other) step = if_node env chosen other step
inner_node env (While p test body) step = held_node (looped env) body step
inner_node env (Do p body test) step = held_node (looped env) body step
inner_node env (For p start test step body) s = for_node (opened env) start body s
inner_node env (Try p brace body hs) step = try_node env body hs step
inner_node env (Enable p events body) step = held_node env body step
inner_node env (Disable p events body) step = held_node env body step
inner_node env (Accept p cs other) step = accept_node env cs other step
inner_node env _ step = None

abbrev pub body_node : Env → Stmts → Step → Option Node
body_node env body (to.At i) = nth_node env body i
body_node env body _ = None

abbrev pub next_node : Node → Step → Option Node
next_node (AtBody env body) step = body_node env body step
next_node (AtStmt env s) step = inner_node env s step
next_node (AtLeaf env) step = None

-- the environment at the end of a way; none where it leads nowhere
abbrev pub env_along : Node → List Step → Option Env
env_along node [] = Some (node_env node)
env_along node (step ∷ steps) = option_and_then (λ n. env_along n steps) (next_node node step)

-- the same of a way that may lead nowhere from the start
abbrev pub env_from : Option Node → List Step → Option Env
env_from node steps = option_and_then (λ n. env_along n steps) node

-- where the ways of a member and of an item begin

abbrev pub form_node : Program → OwnClass → MutexMark → MemberForm → Node
form_node p h m (FieldsMember at b ds) = AtLeaf (plain_env p (class_around h))
form_node p h m (RoutineMember r) = AtBody (with_params (sig_env p h m r.sig) r.sig.params) r.body
form_node p h m (ProtoMember sig) = AtLeaf (with_params (sig_env p h m sig) sig.params)

abbrev pub class_home : ℕ → Class → OwnClass
class_home k c = record { class = k; kind = c.kind }

abbrev pub class_node : Program → ℕ → Class → ℕ → Option Node
class_node p k c j = option_and_then (λ m. Some (form_node p (class_home k c) m.mark m.form)) (slice_get c.members j)

-- only a class has members
abbrev pub member_node : Program → ℕ → Item → ℕ → Option Node
member_node p k (ClassItem c) j = class_node p k c j
member_node p k (RoutineItem r) j = None
member_node p k (ConstItem c) j = None
member_node p k (ProtoItem sig) j = None
member_node p k (ForwardItem f) j = None
member_node p k (UsingItem at) j = None

abbrev pub outer_node : Program → ℕ → Item → Node
outer_node p k (ClassItem c) = AtLeaf (plain_env p (class_around (class_home k c)))
outer_node p k (RoutineItem r) = AtBody (with_params (outer_env p r.sig) r.sig.params) r.body
outer_node p k (ConstItem c) = AtLeaf (plain_env p no_around)
outer_node p k (ProtoItem sig) = AtLeaf (with_params (plain_env p no_around) sig.params)
outer_node p k (ForwardItem f) = AtLeaf (plain_env p no_around)
outer_node p k (UsingItem at) = AtLeaf (plain_env p no_around)

-- an item, before which k classes stand, or a member of it
abbrev pub item_node : Program → ℕ → Item → Option ℕ → Option Node
item_node p k x None = Some (outer_node p k x)
item_node p k x (Some j) = member_node p k x j

-- how many classes stand before an item
abbrev pub classes_before : Program → ℕ → ℕ
classes_before p i = length (classes_of (take i p.items))

-- the environment at a place; none where there is no such place
abbrev pub place_env : Program → ℕ → Option ℕ → List Step → Option Env
place_env p i member steps = option_and_then (λ x. env_from (item_node p (classes_before p i) x member) steps) (slice_get p.items i)

-- a way that leads to this environment, or nowhere
abbrev pub reached : Bool → Env → Option Env
reached true env = Some env
reached false env = None
