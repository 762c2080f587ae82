-- What statements stand for calls no main, where no rule is broken.
use Rattle.std.proofs.Common.{◌≡◌, ℕ, ◌+◌, ◌++◌, List, [], ◌∷◌, Option, Some, None, Bool, true, false, refl, sym, ◌∙◌, subst}
use Rattle.std.specs.Prelude.{◌&&◌, ◌||◌, not, is_some, if◌then◌else◌, option_map}
use Rattle.uc_tree.specs.declared.pos.Pos.{Pos}
use Rattle.uc_tree.specs.declared.kinds.Base.{Base}
use Rattle.uc_tree.specs.declared.kinds.Base.TheVariants as base
use Rattle.uc_tree.specs.declared.kinds.Kind.TheVariants as kind
use Rattle.uc_tree.specs.declared.kinds.HandlerKind.{HandlerKind}
use Rattle.uc_tree.specs.declared.kinds.Role.{Role}
use Rattle.uc_tree.specs.declared.kinds.Role.TheVariants as role
use Rattle.uc_tree.specs.Cells.{classes_of}
use Rattle.uc_tree.specs.Expressions as expr
use Rattle.uc_tree.specs.Statements as stmt
use Rattle.uc_tree.specs.Statements.{Declarator}
use Rattle.uc_tree.specs.Gathered.{gathered, gathered_all, gathered_maybe, gathered_handlers, gathered_clauses}
use Rattle.uc_tree.specs.Names.{same_name}
use Rattle.uc_tree.specs.Numbering.{is_given, is_plain}
use Rattle.uc_tree.specs.Objects.{Making, APlain, AMutex, ACluster, AProcessor, making, written_at, unwritten_number, shape_of, event_place}
use Rattle.uc_tree.specs.Programs.{Program}
use Rattle.uc_tree.specs.Source as src
use Rattle.uc_tree.specs.Source.{Shape, Expr, Stmt, Stmts, Clauses, Source}
use Rattle.uc_resolve.specs.Standings as tree
use Rattle.uc_resolve.specs.Standings.{Meant}
use Rattle.uc_resolve.specs.Resolve as meaning
use Rattle.uc_resolve.specs.Resolve.{Scope, source_of}
use Rattle.uc_rules.specs.declared.rule.Rule.TheVariants.{S21}
use Rattle.uc_rules.specs.declared.rules.Sort.{Sort}
use Rattle.uc_rules.specs.declared.rules.Entity.{Entity}
use Rattle.uc_rules.specs.declared.rules.Entity.TheVariants as entity
use Rattle.uc_rules.specs.declared.rules.NameMeaning.{NameMeaning}
use Rattle.uc_rules.specs.declared.rules.LocalName.{LocalName}
use Rattle.uc_rules.specs.declared.rules.Origin.TheVariants as origin
use Rattle.uc_rules.specs.declared.rules.Target.{Target}
use Rattle.uc_rules.specs.Sorts.{sort_of}
use Rattle.uc_rules.specs.Names.{variable}
use Rattle.uc_rules.specs.Scopes as scopes
use Rattle.uc_rules.specs.Scopes.{Env, opened, with_around, with_joins, with_seen, with_caught, caught_entity, event_named, event_sort, place_of, declared, all_declared, seen_as, env_after, local_named, named, value_named}
use Rattle.uc_tree.specs.Constants.{length_in}
use Rattle.uc_rules.specs.Entities.{entity_of, path_member, takes, is_main, given, count}
use Rattle.uc_rules.specs.ExpressionBreaks.{handlers_breaks, is_event_or_all, behind_all, is_catch}
use Rattle.uc_rules.specs.ProgramVisits.{program_visits}
use Rattle.uc_rules.specs.Visits.{Visit, AtBase, AtHandlers, AtEvent, AtRaise, AtRaiseTarget, AtAccept, AtCaught, AtVariable, visits, args_visits, arg_visits, maybe_visits, condition_visits, maybe_condition_visits, statement_visits, maybe_statement_visits, return_visits, outs_visits, out_visits, reads_visits, read_visits, start_values, variable_target, variable_visits, variables_visits, declaration_visits, event_target, raised_visits, raise_visits, events_visits, looped, joined, handling, stmt_visits, stmts_visits, maybe_stmt_visits, handlers_visits, clauses_visits}
use Rattle.uc_sound.specs.Unbroken.{Unbroken, Stands, IsKnown}
use Rattle.uc_sound.proofs.Ties.{some_same, none_some, false_true}
use Rattle.uc_rules.specs.Asked.{unless}
use Rattle.uc_sound.proofs.UnbrokenLemmas.{none_left, none_right, first, second, one, holds}
use Rattle.uc_sound.specs.SoundFormed.{IsFormed, nameless, own_nameless}
use Rattle.uc_sound.specs.Rooted.{root_named}
use Rattle.uc_sound.proofs.Lists.{left_is}
use Rattle.uc_sound.proofs.Visited.{base_known}
use Rattle.uc_sound.proofs.ClassNames.{sorted_event}
use Rattle.uc_sound.proofs.ClassLemmas.{law_told}
use Rattle.uc_sound.proofs.MemberLemmas.{tells_maker}
use Rattle.uc_sound.proofs.Lookups.{IsPlainClass, IsObjectClass, MakesPlain, making_plain}
use Rattle.uc_calls_laws.specs.Calls.{IsNoMain, CallsExpr, CallsMaybe, CallsItems, CallsTargets, CallsDeclared, CallsClean, CallsRaised, CallsStmt, CallsStmts, CallsHandlers, CallsClauses}
use Rattle.uc_calls_laws.proofs.Mains.{whole_no_main}
use Rattle.uc_calls_laws.proofs.MainNames.{IsLocal, AreLocals}
use Rattle.uc_calls_laws.proofs.CallExprs as exprs
use Rattle.uc_calls_laws.proofs.CallExprs.{AllMeant}

nil_left : {A : Type 0} (xs ys : List A) → xs ++ ys ≡ [] → xs ≡ []
nil_left [] ys h = refl
nil_left (x ∷ xs) ys h = absurd (cc)

nil_right : {A : Type 0} (xs ys : List A) → xs ++ ys ≡ [] → ys ≡ []
nil_right [] ys h = h
nil_right (x ∷ xs) ys h = absurd (cc)

-- a place in the program p: all that is declared there has a known base
pub record Stood (p : Program) (env : Env) : Type 0 where
  pub same : env.program ≡ p
  pub root : (name : List ℕ) (m : NameMeaning) → root_named env.program env.around name ≡ Some m → Stands m.entity
  pub members : (w : Entity) (name : List ℕ) (m : NameMeaning) → path_member env.program w name ≡ Some m → Stands m.entity
  pub results : (w : Entity) (n : ℕ) → takes env.program n w ≡ true → is_main env.program w ≡ false → Stands (given env.program w)
  pub locals : AreLocals env.names

local_stands : (o : Option Entity) → IsLocal o → Stands o
local_stands None h = absurd h
local_stands (Some w) h = (w, refl)

locals_stand : (ss : List LocalName) (name : List ℕ) (m : NameMeaning) → AreLocals ss → local_named ss name ≡ Some m → Stands m.entity
locals_stand [] name m h e = none_some e
locals_stand (s ∷ ss) name m h e = by (local_named ss name) refl (λ q. locals_stand ss name m h.1 q) e
  where
    here : (b : Bool) → (if b then Some s.meant else None) ≡ Some m → Stands m.entity
    here true e = subst (λ (m : NameMeaning). Stands m.entity) (some_same e) (local_stands s.meant.entity h.0)
    here false e = none_some e

    by : (o : Option NameMeaning) → local_named ss name ≡ o → (local_named ss name ≡ Some m → Stands m.entity) → scopes.later_or o s name ≡ Some m → Stands m.entity
    by None q f e = here (same_name s.name name) e
    by (Some x) q f e = f (q ∙ e)

pub known_of : (p : Program) (env : Env) → Stood p env → IsKnown env
known_of p env h = record { names = names; members = h.members; results = h.results }
  where
    names : (name : List ℕ) (m : NameMeaning) → named env name ≡ Some m → Stands m.entity
    names name m e = by (local_named env.names name) refl e
      where
        by : (o : Option NameMeaning) → local_named env.names name ≡ o → scopes.named_behind o (root_named env.program env.around name) ≡ Some m → Stands m.entity
        by (Some x) q e = locals_stand env.names name m h.locals (q ∙ e)
        by None q e = h.root name m e

-- names that are declared

locals_more : (ss : List LocalName) (x : LocalName) → AreLocals ss → IsLocal x.meant.entity → AreLocals (ss ++ x ∷ [])
locals_more [] x h k = (k, tt)
locals_more (s ∷ ss) x h k = (h.0, locals_more ss x h.1 k)

variable_local : {A : Type 0} (r : Bool) (len : Option A) (n : ℕ) (s : Sort) → IsLocal (Some (variable r len n s))
variable_local true len n s = tt
variable_local false None n s = tt
variable_local false (Some e) n s = tt

pub seen_stood : (p : Program) (env : Env) (x : LocalName) → Stood p env → IsLocal x.meant.entity → Stood p (with_seen env x)
seen_stood p env x h k = record { same = h.same; root = h.root; members = h.members; results = h.results; locals = locals_more env.names x h.locals k }

declared_stood : (p : Program) (env : Env) (b : Base) (d : Declarator) → Stood p env → (s : Sort) → sort_of env.program b ≡ Some s → Stood p (declared env b d)
declared_stood p env b d h s e =
    seen_stood p env (seen_as env b d) h (subst (λ o. IsLocal (option_map (variable d.by_ref d.len (length_in (value_named env) d.len)) o)) (sym e) (variable_local d.by_ref d.len (length_in (value_named env) d.len) s))

all_stood : (p : Program) (b : Base) (ds : List Declarator) (env : Env) → Stood p env → (s : Sort) → sort_of env.program b ≡ Some s → Stood p (all_declared env b ds)
all_stood p b [] env h s e = h
all_stood p b (d ∷ ds) env h s e = all_stood p b ds (declared env b d) (declared_stood p env b d h s e) s e

-- what stands round a statement within another one

in_opened : (p : Program) (env : Env) → Stood p env → Stood p (opened env)
in_opened p env h = record { same = h.same; root = h.root; members = h.members; results = h.results; locals = h.locals }

in_joins : (p : Program) (z : Bool) (env : Env) → Stood p env → Stood p (with_around env (with_joins z env.around))
in_joins p z env h = record { same = h.same; root = h.root; members = h.members; results = h.results; locals = h.locals }

in_looped : (p : Program) (env : Env) → Stood p env → Stood p (looped env)
in_looped p env h = record { same = h.same; root = h.root; members = h.members; results = h.results; locals = h.locals }

in_handling : (p : Program) (env : Env) → Stood p env → Stood p (handling env)
in_handling p env h = record { same = h.same; root = h.root; members = h.members; results = h.results; locals = h.locals }

caught_local : (p : Program) (event : List ℕ) → is_some (event_named p event) ≡ true → IsLocal (event_named p event)
caught_local p event h = by (is_given event) h
  where
    place : (o : Option Sort) → is_some (option_map place_of o) ≡ true → IsLocal (option_map place_of o)
    place None h = false_true h
    place (Some s) h = tt

    by : (z : Bool) → is_some (if z then Some entity.ClassName else option_map place_of (event_sort p event)) ≡ true → IsLocal (if z then Some entity.ClassName else option_map place_of (event_sort p event))
    by true h = tt
    by false h = place (event_sort p event) h

in_caught : (p : Program) (env : Env) (q : Pos) (k : HandlerKind) (event param : Option (List ℕ)) (brace : Pos) (body : stmt.Stmts) → Stood p env → is_event_or_all env.program event ≡ true → nameless (stmt.MoreHandlers (stmt.Handles q k event param brace body) stmt.NoHandlers) ≡ [] → Stood p (with_caught env event param)
in_caught p env q k event None brace body h v n = h
in_caught p env q k None (Some name) brace body h v n = absurd (cc)
in_caught p env q k (Some event) (Some name) brace body h v n =
    seen_stood p env (record { name = name; meant = record { entity = caught_entity env.program (Some event); origin = origin.Local } }) h (caught_local env.program event v)

nameless_one : (q : Pos) (k : HandlerKind) (event param : Option (List ℕ)) (brace : Pos) (body : stmt.Stmts) (rest : stmt.Handlers) → nameless (stmt.MoreHandlers (stmt.Handles q k event param brace body) rest) ≡ [] → (nameless (stmt.MoreHandlers (stmt.Handles q k event param brace body) stmt.NoHandlers) ≡ []) × (nameless rest ≡ [])
nameless_one q k None None brace body rest n = (refl, n)
nameless_one q k None (Some name) brace body rest n = absurd (cc)
nameless_one q k (Some event) param brace body rest n = (refl, n)

-- a statement that declares nothing for those behind it
abbrev Other : stmt.Stmt → Type 0
Other (stmt.Declare q b ds) = ⊥
Other t = Unit {0}

module _ (p : Program) (formed : IsFormed p) (ok : Unbroken (program_visits p)) where
  abbrev source : Source
  source = source_of p

  -- expressions in a scope

  pub meant : (env : Env) → Stood p env → (s : Scope) (e : expr.Expr) → Unbroken (visits env e) → CallsExpr source (tree.meant (meaning.context_at p s) e).expr
  meant env h s e v =
      (subst (λ z. IsFormed z → Unbroken (program_visits z) → CallsExpr (source_of z) (tree.meant (meaning.context_at z s) e).expr) h.same (λ f o. (exprs.meant env f o (known_of p env h) h.locals s.class s.routine s.names e v).expr)) formed ok

  value : (env : Env) → Stood p env → (s : Scope) (e : expr.Expr) → Unbroken (visits env e) → CallsExpr source (tree.value_in_scope (meaning.context_at p s) e)
  value env h s e v =
      (subst (λ z. IsFormed z → Unbroken (program_visits z) → CallsExpr (source_of z) (tree.value_in_scope (meaning.context_at z s) e)) h.same (λ f o. exprs.value env f o (known_of p env h) h.locals s.class s.routine s.names e v)) formed ok

  pub args : (env : Env) → Stood p env → (s : Scope) (es : expr.Exprs) (to : Target) (i : ℕ) → Unbroken (args_visits env es to i) → AllMeant p (tree.args_meant (meaning.context_at p s) es)
  args env h s es to i v =
      (subst (λ z. IsFormed z → Unbroken (program_visits z) → AllMeant z (tree.args_meant (meaning.context_at z s) es)) h.same (λ f o. exprs.args_meant env f o (known_of p env h) h.locals s.class s.routine s.names es to i v)) formed ok

  -- what builds and destroys objects is no main

  written_no : (i r : ℕ) (wanted : Role) → IsObjectClass p i → is_plain wanted ≡ false → written_at p i wanted ≡ Some r → IsNoMain source r
  written_no i r wanted c w e = whole_no_main p formed ok r ((tells_maker p formed ok i c.class wanted c.at c.object w).written_whole r e)

  unwritten_no : (i : ℕ) (wanted : Role) → IsObjectClass p i → is_plain wanted ≡ false → written_at p i wanted ≡ None → IsNoMain source (unwritten_number p i wanted)
  unwritten_no i wanted c w e = whole_no_main p formed ok (unwritten_number p i wanted) ((tells_maker p formed ok i c.class wanted c.at c.object w).unwritten_whole e)

  plain_class : (i : ℕ) → IsPlainClass p i → IsObjectClass p i
  plain_class i c = record { class = c.class; at = c.at; object = c.object }

  called_by : (i : ℕ) (wanted : Role) (place : Expr) (ms : List Meant) (r : Option ℕ) → IsObjectClass p i → is_plain wanted ≡ false → written_at p i wanted ≡ r → CallsExpr source place → AllMeant p ms → CallsExpr source (meaning.called_by p i wanted place ms r)
  called_by i wanted place ms None c w e h k = (unwritten_no i wanted c w e, h)
  called_by i wanted place ms (Some r) c w e h k = (written_no i r wanted c w e, (h, exprs.args_by p (tree.params_of p r) ms k))

  made_by : (i : ℕ) (place : Expr) (ms : List Meant) (r : Option ℕ) → IsObjectClass p i → written_at p i role.Constructor ≡ r → CallsExpr source place → AllMeant p ms → CallsExpr source (meaning.made_by p i place ms r)
  made_by i place ms None c e h k = (unwritten_no i role.Constructor c refl e, (h, tt))
  made_by i place ms (Some r) c e h k = (written_no i r role.Constructor c refl e, (h, exprs.args_by p (tree.params_of p r) ms k))

  ended_by : (i : ℕ) (place : Expr) (r : Option ℕ) → IsObjectClass p i → written_at p i role.Destructor ≡ r → CallsExpr source place → CallsExpr source (meaning.ended_by p i place r)
  ended_by i place None c e h = (unwritten_no i role.Destructor c refl e, h)
  ended_by i place (Some r) c e h = (written_no i r role.Destructor c refl e, h)

  cluster_in : (ms : List Meant) → AllMeant p ms → CallsExpr source (meaning.cluster_in ms)
  cluster_in [] h = tt
  cluster_in (m ∷ ms) h = h.0

  constructed : (m : Making) (place : Expr) (ms : List Meant) → MakesPlain p (Some m) → CallsExpr source place → AllMeant p ms → CallsExpr source (meaning.constructed p m place ms)
  constructed (APlain i) place ms c h k = called_by i role.Constructor place ms (written_at p i role.Constructor) (plain_class i c) refl refl h k
  constructed (AMutex i) place ms c h k = made_by i place ms (written_at p i role.Constructor) c refl h k
  constructed ACluster place ms c h k = (tt, (h, (tt, tt)))
  constructed AProcessor place ms c h k = (tt, (h, (tt, cluster_in ms k)))

  destroyed : (m : Making) (place : Expr) → MakesPlain p (Some m) → CallsExpr source place → CallsExpr source (meaning.destroyed p m place)
  destroyed (APlain i) place c h = called_by i role.Destructor place [] (written_at p i role.Destructor) (plain_class i c) refl refl h tt
  destroyed (AMutex i) place c h = ended_by i (src.Load place) (written_at p i role.Destructor) c refl h
  destroyed ACluster place c h = (tt, h)
  destroyed AProcessor place c h = (tt, h)

  counted : (m : Making) (n : ℕ) (place : Expr) → CallsExpr source place → CallsExpr source (meaning.counted_element p m n place)
  counted m n place h = (h, (tt, tt))

  pub build : (line : ℕ) (m : Making) (len : Option ℕ) (place : Expr) (ms : List Meant) → MakesPlain p (Some m) → CallsExpr source place → AllMeant p ms → CallsStmt source (meaning.build p line m len place ms)
  build line m None place ms c h k = constructed m place ms c h k
  build line m (Some n) place ms c h k =
      (constructed m (meaning.counted_element p m n place) [] c (counted m n place h) tt, destroyed m (meaning.counted_element p m n place) c (counted m n place h))

  pub clean_up : (m : Making) (len : Option ℕ) (place : Expr) → MakesPlain p (Some m) → CallsExpr source place → CallsClean source (meaning.clean_up p m len place)
  clean_up m None place c h = destroyed m place c h
  clean_up m (Some n) place c h = destroyed m (meaning.counted_element p m n place) c (counted m n place h)

  -- parts of statements

  items : (env : Env) → Stood p env → (s : Scope) (texts : ℕ) (os : List stmt.OutItem) → Unbroken (outs_visits env os) → CallsItems source (meaning.items_meant (meaning.context_at p s) texts os)
  items env h s texts [] v = tt
  items env h s texts (stmt.Endl sign ∷ os) v = (tt, items env h s texts os v)
  items env h s texts (stmt.Literal sign text ∷ os) v = (tt, items env h s (texts + 1) os v)
  items env h s texts (stmt.Printed sign e ∷ os) v =
      (value env h s e (first (visits env e) _ (first (out_visits env (stmt.Printed sign e)) (outs_visits env os) v)), items env h s texts os (second (out_visits env (stmt.Printed sign e)) (outs_visits env os) v))

  targets : (env : Env) → Stood p env → (s : Scope) (es : expr.Exprs) → Unbroken (reads_visits env es) → CallsTargets source (meaning.targets_meant (meaning.context_at p s) es)
  targets env h s expr.NoExprs v = tt
  targets env h s (expr.MoreExprs e es) v =
      (meant env h s e (first (visits env e) _ (first (read_visits env e) (reads_visits env es) v)), targets env h s es (second (read_visits env e) (reads_visits env es) v))

  start : (env : Env) → Stood p env → (s : Scope) (k : Shape) (x : stmt.Start) (to : Target) → Unbroken (args_visits env (start_values x) to 0) → CallsMaybe source (meaning.start_meant (meaning.context_at p s) k x)
  start env h s k stmt.NoStart to v = tt
  start env h s k (stmt.StartValue e) to v = exprs.converted p k _ (value env h s e (first (visits env e) _ (first (arg_visits env e _) (args_visits env expr.NoExprs to 1) v)))
  start env h s k (stmt.StartArgs expr.NoExprs) to v = tt
  start env h s k (stmt.StartArgs (expr.MoreExprs e es)) to v = exprs.converted p k _ (value env h s e (first (visits env e) _ (first (arg_visits env e _) (args_visits env es to 1) v)))

  start_args : (env : Env) → Stood p env → (s : Scope) (x : stmt.Start) (to : Target) → Unbroken (args_visits env (start_values x) to 0) → AllMeant p (meaning.start_args p s x)
  start_args env h s stmt.NoStart to v = tt
  start_args env h s (stmt.StartValue e) to v = tt
  start_args env h s (stmt.StartArgs es) to v = args env h s es to 0 v

  -- declarations

  abbrev target : Env → Base → Declarator → Target
  target env b d = variable_target d.len (sort_of env.program b)

  starts : (env : Env) (b : Base) (d : Declarator) → Unbroken (variable_visits env b d) → Unbroken (args_visits env (start_values d.start) (target env b d) 0)
  starts env b d v =
      first (args_visits env (start_values d.start) (target env b d) 0) (AtVariable env b d ∷ []) (second (maybe_visits env d.len) (args_visits env (start_values d.start) (target env b d) 0 ++ AtVariable env b d ∷ []) v)

  scalars : (b : Base) (so : Sort) (ds : List Declarator) (env : Env) (s : Scope) → Stood p env → sort_of env.program b ≡ Some so → Unbroken (variables_visits env b ds) → CallsDeclared source (meaning.all_declared p s b ds)
  scalars b so [] env s h e v = tt
  scalars b so (d ∷ ds) env s h e v =
      (start env h s (shape_of b) d.start (target env b d) (starts env b d (first (variable_visits env b d) (variables_visits (declared env b d) b ds) v)), scalars b so ds (declared env b d) (meaning.with_declared p s b d) (declared_stood p env b d h so e) e (second (variable_visits env b d) (variables_visits (declared env b d) b ds) v))

  objects : (m : Making) (line : ℕ) (b : Base) (so : Sort) (ds : List Declarator) (env : Env) (s : Scope) (rest : Stmts) → MakesPlain p (Some m) → Stood p env → sort_of env.program b ≡ Some so → Unbroken (variables_visits env b ds) → CallsStmts source rest → CallsStmts source (meaning.objects_scoped p m line b ds s rest)
  objects m line b so [] env s rest c h e v k = k
  objects m line b so (d ∷ ds) env s rest c h e v k =
      let len : Option ℕ = meaning.length_of p d d.len in
      let a = start_args env h s d.start (target env b d) (starts env b d (first (variable_visits env b d) (variables_visits (declared env b d) b ds) v)) in
      let more = objects m line b so ds (declared env b d) (meaning.with_declared p s b d) rest c (declared_stood p env b d h so e) e (second (variable_visits env b d) (variables_visits (declared env b d) b ds) v) k in
      ((tt, tt), (build line m len (src.Variable s.cells) (meaning.start_args p s d.start) c tt a, (clean_up m len (src.Variable s.cells) c tt, more)))

  declared_then : (m : Option Making) (line : ℕ) (b : Base) (so : Sort) (ds : List Declarator) (env : Env) (s : Scope) (rest : Stmts) → MakesPlain p m → Stood p env → sort_of env.program b ≡ Some so → Unbroken (variables_visits env b ds) → CallsStmts source rest → CallsStmts source (meaning.declared_then p m line b ds s rest)
  declared_then None line b so ds env s rest c h e v k = (scalars b so ds env s h e v, k)
  declared_then (Some m) line b so ds env s rest c h e v k = objects m line b so ds env s rest c h e v k

  declared_alone : (m : Option Making) (line : ℕ) (b : Base) (so : Sort) (ds : List Declarator) (env : Env) (s : Scope) → MakesPlain p m → Stood p env → sort_of env.program b ≡ Some so → Unbroken (variables_visits env b ds) → CallsStmt source (meaning.declared_alone p m line b ds s)
  declared_alone None line b so ds env s c h e v = scalars b so ds env s h e v
  declared_alone (Some m) line b so ds env s c h e v = objects m line b so ds env s src.Nil c h e v tt

  -- the base of a declaration is known
  based : (env : Env) (q : Pos) (b : Base) (ds : List Declarator) → Unbroken (declaration_visits env q b ds) → (so : Sort) × (sort_of env.program b ≡ Some so) × Unbroken (variables_visits env b ds)
  based env q b ds v =
      let k = base_known env q b (one (AtBase env q b) (first (AtBase env q b ∷ []) (variables_visits env b ds) v)) in
      (k.0, k.1, second (AtBase env q b ∷ []) (variables_visits env b ds) v)

  -- events

  event_no : (c : ℕ) (name : List ℕ) → meaning.event_constructor p name ≡ Some c → IsNoMain source c
  event_no c name f =
      let told = law_told p formed ok in
      let e = told.raised c name f in
      let place : event_place p (base.Named name) ≡ Some e.0 = sorted_event (classes_of p.items) 0 name e.0 kind.Event e.1 refl in
      whole_no_main p formed ok c (told.events_whole e.0 c name place f)

  built_event : (s : Scope) (n : ℕ) (name : List ℕ) (r : Option ℕ) (ms : List Meant) → meaning.event_constructor p name ≡ r → AllMeant p ms → CallsRaised source (meaning.built_event p s n r ms)
  built_event s n name None ms e k = tt
  built_event s n name (Some r) ms e k = (event_no r name e, (tt, exprs.args_by p (tree.params_of p r) ms k))

  raised : (env : Env) → Stood p env → (s : Scope) (q : Pos) (r : stmt.Raised) → Unbroken (raised_visits env q r) → CallsRaised source (meaning.raised_meant p s (Some r))
  raised env h s q r v =
      let a : Unbroken (args_visits env r.args (event_target env r.name) 0 ++ AtRaise env q r.name (count r.args) ∷ []) = second (AtEvent env r.pos r.name ∷ []) (args_visits env r.args (event_target env r.name) 0 ++ AtRaise env q r.name (count r.args) ∷ []) v in
      built_event s (meaning.number_of_event p r.name) r.name (meaning.event_constructor p r.name) (tree.args_meant (meaning.context_at p s) r.args) refl (args env h s r.args (event_target env r.name) 0 (first (args_visits env r.args (event_target env r.name) 0) (AtRaise env q r.name (count r.args) ∷ []) a))

  maybe_raised : (env : Env) → Stood p env → (s : Scope) (q : Pos) (r : Option stmt.Raised) → Unbroken (raise_visits env q r) → CallsRaised source (meaning.raised_meant p s r)
  maybe_raised env h s q None v = tt
  maybe_raised env h s q (Some r) v = raised env h s q r v

  tested : (env : Env) → Stood p env → (s : Scope) (e : Option expr.Expr) → Unbroken (maybe_condition_visits env e) → CallsExpr source (meaning.test_of p s e)
  tested env h s None v = tt
  tested env h s (Some e) v = value env h s e (first (visits env e) _ v)

  stepped : (env : Env) → Stood p env → (s : Scope) (e : Option expr.Expr) → Unbroken (maybe_statement_visits env e) → CallsMaybe source (meaning.step_of p s e)
  stepped env h s None v = tt
  stepped env h s (Some e) v = meant env h s e (first (visits env e) _ v)

  returned : (env : Env) → Stood p env → (s : Scope) (q : Pos) (e : Option expr.Expr) → Unbroken (return_visits env q e) → CallsMaybe source (meaning.return_meant p s e)
  returned env h s q None v = tt
  returned env h s q (Some e) v = exprs.converted p (shape_of (tree.result_of p s.routine)) _ (value env h s e (first (visits env e) _ v))

  -- the loop of a `for`
  loop : (env : Env) → Stood p env → (s : Scope) (test step : Option expr.Expr) (vs : List Visit) (b : Stmt) → (Unbroken vs → CallsStmt source b) → Unbroken (maybe_condition_visits env test ++ (maybe_statement_visits env step ++ vs)) → CallsExpr source (meaning.test_of p s test) × CallsMaybe source (meaning.step_of p s step) × CallsStmt source b
  loop env h s test step vs b f v =
      let w = second (maybe_condition_visits env test) (maybe_statement_visits env step ++ vs) v in
      (tested env h s test (first (maybe_condition_visits env test) (maybe_statement_visits env step ++ vs) v), stepped env h s step (first (maybe_statement_visits env step) vs w), f (second (maybe_statement_visits env step) vs w))

  -- a block is a scope of its own, but for that of a `for`
  by_joins : (C : Type 0) (z : Bool) (body : stmt.Stmts) (env : Env) → ((e : Env) → Stood p e → Unbroken (stmts_visits body e) → C) → Stood p env → Unbroken (stmts_visits body (if z then with_around env (with_joins false env.around) else opened env)) → C
  by_joins C true body env f h v = f (with_around env (with_joins false env.around)) (in_joins p false env h) v
  by_joins C false body env f h v = f (opened env) (in_opened p env h) v

  other_then : (t : stmt.Stmt) (env : Env) (s : Scope) (a : Stmt) (rest : Stmts) → Other t → CallsStmt source a → (env_after env t ≡ env → CallsStmts source rest) → CallsStmts source (meaning.stmt_then p t s a rest)
  other_then (stmt.Declare q b ds) env s a rest o h f = absurd o
  other_then t env s a rest o h f = (h, f refl)

  mutual
    pub one_stmt : (t : stmt.Stmt) (env : Env) (s : Scope) → Stood p env → gathered own_nameless t ≡ [] → Unbroken (stmt_visits t env) → CallsStmt source (meaning.stmt_meant p t s)
    one_stmt (stmt.Block q body) env s h n v = by_joins (CallsStmts source (meaning.stmts_meant p body s)) env.around.joins body env (λ e k w. all body e s k n w) h v
    one_stmt (stmt.Empty q) env s h n v = tt
    one_stmt (stmt.Evaluate q e) env s h n v = meant env h s e (first (visits env e) _ v)
    one_stmt (stmt.Declare q b ds) env s h n v = let k = based env q b ds v in declared_alone (making p b) q.line b k.0 ds env s (making_plain p b) h k.1 k.2
    one_stmt (stmt.Print q os) env s h n v = items env h s s.texts os v
    one_stmt (stmt.PrintTogether q os) env s h n v = items env h s s.texts os (first (outs_visits env os) _ v)
    one_stmt (stmt.Read q es) env s h n v = targets env h s es v
    one_stmt (stmt.If q e chosen other) env s h n v =
        let w = second (condition_visits env e) (stmt_visits chosen (opened env) ++ maybe_stmt_visits other env) v in
        (value env h s e (first (visits env e) _ (first (condition_visits env e) (stmt_visits chosen (opened env) ++ maybe_stmt_visits other env) v)), one_stmt chosen (opened env) s (in_opened p env h) (nil_left (gathered own_nameless chosen) (gathered_maybe own_nameless other) n) (first (stmt_visits chosen (opened env)) (maybe_stmt_visits other env) w), maybe other env (meaning.scope_past p chosen s) h (nil_right (gathered own_nameless chosen) (gathered_maybe own_nameless other) n) (second (stmt_visits chosen (opened env)) (maybe_stmt_visits other env) w))
    one_stmt (stmt.While q e body) env s h n v =
        (value env h s e (first (visits env e) _ (first (condition_visits env e) _ v)), tt, one_stmt body (opened (looped env)) s (in_opened p (looped env) (in_looped p env h)) n (second (condition_visits env e) _ v))
    one_stmt (stmt.Do q body e) env s h n v =
        (value env h s e (first (visits env e) _ (second (stmt_visits body (opened (looped env))) _ v)), tt, one_stmt body (opened (looped env)) s (in_opened p (looped env) (in_looped p env h)) n (first (stmt_visits body (opened (looped env))) _ v))
    one_stmt (stmt.For q stmt.NoFor test step body) env s h n v =
        let o = in_opened p env h in
        (tt, (loop (opened env) o s test step (stmt_visits body (joined (looped (opened env)))) (meaning.stmt_meant p body s) (λ w. one_stmt body (joined (looped (opened env))) s (in_joins p true (looped (opened env)) (in_looped p (opened env) o)) n w) v, tt))
    one_stmt (stmt.For q (stmt.ForEvaluate e) test step body) env s h n v =
        let o = in_opened p env h in
        (meant (opened env) o s e (first (visits (opened env) e) _ (first (statement_visits (opened env) e) _ v)), (loop (opened env) o s test step (stmt_visits body (joined (looped (opened env)))) (meaning.stmt_meant p body s) (λ w. one_stmt body (joined (looped (opened env))) s (in_joins p true (looped (opened env)) (in_looped p (opened env) o)) n w) (second (statement_visits (opened env) e) _ v), tt))
    one_stmt (stmt.For q (stmt.ForDeclare r b ds) test step body) env s h n v =
        let o = in_opened p env h in
        let e = all_declared (opened env) b ds in
        let k = meaning.with_all p s b ds in
        let w = second (declaration_visits (opened env) r b ds) (maybe_condition_visits e test ++ (maybe_statement_visits e step ++ stmt_visits body (joined (looped e)))) v in
        let d = based (opened env) r b ds (first (declaration_visits (opened env) r b ds) (maybe_condition_visits e test ++ (maybe_statement_visits e step ++ stmt_visits body (joined (looped e)))) v) in
        let i = all_stood p b ds (opened env) o d.0 d.1 in
        declared_then (making p b) q.line b d.0 ds (opened env) s (src.Then (src.Loop q.line (meaning.order_of p test) (meaning.test_of p k test) (meaning.step_of p k step) (meaning.stmt_meant p body k)) src.Nil) (making_plain p b) o d.1 d.2 (loop e i k test step (stmt_visits body (joined (looped e))) (meaning.stmt_meant p body k) (λ w. one_stmt body (joined (looped e)) k (in_joins p true (looped e) (in_looped p e i)) n w) w, tt)
    one_stmt (stmt.Break q) env s h n v = tt
    one_stmt (stmt.Continue q) env s h n v = tt
    one_stmt (stmt.Return q e) env s h n v = returned env h s q e v
    one_stmt (stmt.Throw q r) env s h n v = maybe_raised env h s q r v
    one_stmt (stmt.Raise q r) env s h n v = maybe_raised env h s q r v
    one_stmt (stmt.Try q brace body hs) env s h n v =
        let k = meaning.scope_past_all p body s in
        let w : Unbroken (AtHandlers env hs ∷ handlers_visits hs env) = second (stmts_visits body (opened env)) (AtHandlers env hs ∷ handlers_visits hs env) v in
        let r = none_left (handlers_breaks env.program false false hs) _ (one (AtHandlers env hs) (first (AtHandlers env hs ∷ []) (handlers_visits hs env) w)) in
        let m = nil_left (nameless hs ++ gathered_all own_nameless body) (gathered_handlers own_nameless hs) n in
        ((all body (opened env) s (in_opened p env h) (nil_right (nameless hs) (gathered_all own_nameless body) m) (first (stmts_visits body (opened env)) (AtHandlers env hs ∷ handlers_visits hs env) v), tt), handlers hs false false env k h (nil_left (nameless hs) (gathered_all own_nameless body) m) (nil_right (nameless hs ++ gathered_all own_nameless body) (gathered_handlers own_nameless hs) n) r (second (AtHandlers env hs ∷ []) (handlers_visits hs env) w))
    one_stmt (stmt.Resume q) env s h n v = (tt, tt)
    one_stmt (stmt.Suspend q) env s h n v = (tt, tt)
    one_stmt (stmt.RaiseAt q r target) env s h n v =
        let w = second (raised_visits env q r) (visits env target ++ AtRaiseTarget (expr.expr_pos target) (entity_of env target) ∷ []) v in
        (raised env h s q r (first (raised_visits env q r) (visits env target ++ AtRaiseTarget (expr.expr_pos target) (entity_of env target) ∷ []) v), meant env h s target (first (visits env target) _ w))
    one_stmt (stmt.Enable q events body) env s h n v = one_stmt body (opened env) (meaning.within_events p s) (in_opened p env h) n (second (events_visits env events) _ v)
    one_stmt (stmt.Disable q events body) env s h n v = one_stmt body (opened env) (meaning.within_events p s) (in_opened p env h) n (second (events_visits env events) _ v)
    one_stmt (stmt.Yield q) env s h n v = (tt, tt)
    one_stmt (stmt.Migrate q e) env s h n v = (tt, meant env h s e (first (visits env e) _ v))
    one_stmt (stmt.Accept q cs other) env s h n v =
        let inner : Scope = meaning.within_accept p s in
        let behind : Scope = meaning.scope_past_clauses p cs inner in
        let w : Unbroken (clauses_visits cs env ++ maybe_stmt_visits other env) = second (AtAccept env q cs ∷ []) (clauses_visits cs env ++ maybe_stmt_visits other env) v in
        (tt, clauses cs env inner (meaning.else_meant p other behind) h (nil_left (gathered_clauses own_nameless cs) (gathered_maybe own_nameless other) n) (first (clauses_visits cs env) (maybe_stmt_visits other env) w) (otherwise other env behind h (nil_right (gathered_clauses own_nameless cs) (gathered_maybe own_nameless other) n) (second (clauses_visits cs env) (maybe_stmt_visits other env) w)))

    clauses : (cs : stmt.Clauses) (env : Env) (s : Scope) (other : Clauses) → Stood p env → gathered_clauses own_nameless cs ≡ [] → Unbroken (clauses_visits cs env) → CallsClauses source other → CallsClauses source (meaning.clauses_meant p cs s other)
    clauses stmt.NoClauses env s other h n v k = k
    clauses (stmt.MoreClauses (stmt.Accepts q guard members body) rest) env s other h n v k =
        let here : Unbroken (maybe_condition_visits env guard ++ stmt_visits body (opened env)) = first (maybe_condition_visits env guard ++ stmt_visits body (opened env)) (clauses_visits rest env) v in
        (tested env h s guard (first (maybe_condition_visits env guard) (stmt_visits body (opened env)) here), one_stmt body (opened env) s (in_opened p env h) (nil_left (gathered own_nameless body) (gathered_clauses own_nameless rest) n) (second (maybe_condition_visits env guard) (stmt_visits body (opened env)) here), clauses rest env (meaning.scope_past p body s) other h (nil_right (gathered own_nameless body) (gathered_clauses own_nameless rest) n) (second (maybe_condition_visits env guard ++ stmt_visits body (opened env)) (clauses_visits rest env) v) k)

    otherwise : (t : stmt.MaybeStmt) (env : Env) (s : Scope) → Stood p env → gathered_maybe own_nameless t ≡ [] → Unbroken (maybe_stmt_visits t env) → CallsClauses source (meaning.else_meant p t s)
    otherwise stmt.NoStmt env s h n v = tt
    otherwise (stmt.OneStmt body) env s h n v = one_stmt body (opened env) s (in_opened p env h) n v

    handlers : (hs : stmt.Handlers) (x y : Bool) (env : Env) (s : Scope) → Stood p env → nameless hs ≡ [] → gathered_handlers own_nameless hs ≡ [] → handlers_breaks env.program x y hs ≡ [] → Unbroken (handlers_visits hs env) → CallsHandlers source (meaning.handlers_meant p hs s)
    handlers stmt.NoHandlers x y env s h n m r v = tt
    handlers (stmt.MoreHandlers (stmt.Handles q kind event param brace body) rest) x y env s h n m r v =
        let c : stmt.Handler = stmt.Handles q kind event param brace body in
        let here : Unbroken (AtCaught (handling env) q param ∷ stmts_visits body (with_caught (handling env) event param)) = first (AtCaught (handling env) q param ∷ stmts_visits body (with_caught (handling env) event param)) (handlers_visits rest env) v in
        let is : is_event_or_all env.program event ≡ true = left_is (is_event_or_all env.program event) (not (behind_all x y kind)) (holds (is_event_or_all env.program event && not (behind_all x y kind)) S21 q _ r) in
        let names = nameless_one q kind event param brace body rest n in
        let inner = in_caught p (handling env) q kind event param brace body (in_handling p env h) is names.0 in
        (all body (with_caught (handling env) event param) (meaning.in_handler p c s) inner (nil_left (gathered_all own_nameless body) (gathered_handlers own_nameless rest) m) (second (AtCaught (handling env) q param ∷ []) (stmts_visits body (with_caught (handling env) event param)) here), handlers rest (x || (is_catch kind && not (is_some event))) (y || (not (is_catch kind) && not (is_some event))) env (meaning.scope_past_handler p c s) h names.1 (nil_right (gathered_all own_nameless body) (gathered_handlers own_nameless rest) m) (none_right (unless (is_event_or_all env.program event && not (behind_all x y kind)) S21 q) _ r) (second (AtCaught (handling env) q param ∷ stmts_visits body (with_caught (handling env) event param)) (handlers_visits rest env) v))

    maybe : (t : stmt.MaybeStmt) (env : Env) (s : Scope) → Stood p env → gathered_maybe own_nameless t ≡ [] → Unbroken (maybe_stmt_visits t env) → CallsStmt source (meaning.maybe_meant p t s)
    maybe stmt.NoStmt env s h n v = tt
    maybe (stmt.OneStmt body) env s h n v = one_stmt body (opened env) s (in_opened p env h) n v

    pub all : (ts : stmt.Stmts) (env : Env) (s : Scope) → Stood p env → gathered_all own_nameless ts ≡ [] → Unbroken (stmts_visits ts env) → CallsStmts source (meaning.stmts_meant p ts s)
    all stmt.NoStmts env s h n v = tt
    all (stmt.MoreStmts (stmt.Declare q b ds) rest) env s h n v =
        let e = all_declared env b ds in
        let d = based env q b ds (first (declaration_visits env q b ds) (stmts_visits rest e) v) in
        declared_then (making p b) q.line b d.0 ds env s (meaning.stmts_meant p rest (meaning.scope_after p (stmt.Declare q b ds) s)) (making_plain p b) h d.1 d.2 (all rest e (meaning.scope_after p (stmt.Declare q b ds) s) (all_stood p b ds env h d.0 d.1) n (second (declaration_visits env q b ds) (stmts_visits rest e) v))
    all (stmt.MoreStmts t rest) env s h n v =
        other_then t env s (meaning.stmt_meant p t s) (meaning.stmts_meant p rest (meaning.scope_after p t s)) tt (one_stmt t env s h (nil_left (gathered own_nameless t) (gathered_all own_nameless rest) n) (first (stmt_visits t env) (stmts_visits rest (env_after env t)) v)) (λ q. all rest env (meaning.scope_after p t s) h (nil_right (gathered own_nameless t) (gathered_all own_nameless rest) n) (subst (λ e. Unbroken (stmts_visits rest e)) q (second (stmt_visits t env) (stmts_visits rest (env_after env t)) v)))
