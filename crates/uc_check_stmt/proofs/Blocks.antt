-- Behind a scope the names are those before it.
use Rattle.std.proofs.Common.{◌≡◌, ◌≤◌, ℕ, List, [], ◌∷◌, Option, Some, None, Bool, true, false, if◌then◌else◌, length, take, refl, ◌∙◌, arith, length-append}
use Rattle.std.proofs.Math.Seq.{take-length}
use Rattle.std.proofs.lemmas.List.{take-append-le}
use Rattle.uc_tree.specs.declared.kinds.Base.{Base}
use Rattle.uc_tree.specs.Statements.{Declarator, ForStart, NoFor, ForDeclare, ForEvaluate, Stmt, Declare, Stmts, NoStmts, MoreStmts}
use Rattle.uc_rules.specs.declared.rules.Surroundings.{Surroundings}
use Rattle.uc_rules.specs.declared.rules.LocalName.{LocalName}
use Rattle.uc_rules.specs.Scopes.{Env, opened, block_env, with_seen, seen_as, with_around, with_joins, declared, all_declared, with_caught, env_after, env_behind, for_declared}

-- the program and the first names stay
record Grows (env now : Env) : Type 0 where
  program : now.program ≡ env.program
  names : take (length env.names) now.names ≡ env.names
  count : length env.names ≤ length now.names

grows_seen : (env now : Env) (s : LocalName) → Grows env now → Grows env (with_seen now s)
grows_seen env now s h = record {
  program = h.program;
  names = take-append-le (length env.names) now.names (s ∷ []) h.count ∙ h.names;
  count = omega (arith, length-append now.names (s ∷ []), h.count);
}

grows_all : (env now : Env) (b : Base) (ds : List Declarator) → Grows env now → Grows env (all_declared now b ds)
grows_all env now b [] h = h
grows_all env now b (d ∷ ds) h = grows_all env (declared now b d) b ds (grows_seen env now (seen_as now b d) h)

grows_after : (env now : Env) (s : Stmt) → Grows env now → Grows env (env_after now s)
grows_after env now (Declare p b ds) h = grows_all env now b ds h
grows_after env now _ h = h

grows_behind : (env now : Env) (ss : Stmts) → Grows env now → Grows env (env_behind now ss)
grows_behind env now NoStmts h = h
grows_behind env now (MoreStmts s ss) h = grows_behind env (env_after now s) ss (grows_after env now s h)

grows_for : (env now : Env) (s : ForStart) → Grows env now → Grows env (for_declared now s)
grows_for env now NoFor h = h
grows_for env now (ForDeclare p b ds) h = grows_all env now b ds h
grows_for env now (ForEvaluate e) h = h

grows_caught : (env now : Env) (event param : Option (List ℕ)) → Grows env now → Grows env (with_caught now event param)
grows_caught env now event None h = h
grows_caught env now event (Some name) h = grows_seen env now _ h

grows_around : (env now : Env) (a : Surroundings) → Grows env now → Grows env (with_around now a)
grows_around env now a h = record { program = h.program; names = h.names; count = h.count }

grows_opened : (env now : Env) → Grows env now → Grows env (opened now)
grows_opened env now h = record { program = h.program; names = h.names; count = h.count }

grows_self : (env : Env) → Grows env env
grows_self env = record { program = refl; names = take-length env.names; count = omega arith }

block_test : (env : Env) (joins : Bool) → Grows env (if joins then with_around env (with_joins false env.around) else opened env)
block_test env true = grows_around env env _ (grows_self env)
block_test env false = grows_opened env env (grows_self env)

-- the names and the program behind the scopes of statements

block_grows : (env : Env) (ss : Stmts) → Grows env (env_behind (block_env env) ss)
block_grows env ss = grows_behind env (block_env env) ss (block_test env env.around.joins)

pub block_names : (env : Env) (ss : Stmts) → take (length env.names) (env_behind (block_env env) ss).names ≡ env.names
block_names env ss = (block_grows env ss).names

pub block_program : (env : Env) (ss : Stmts) → (env_behind (block_env env) ss).program ≡ env.program
block_program env ss = (block_grows env ss).program

guarded_grows : (env : Env) (ss : Stmts) → Grows env (env_behind (opened env) ss)
guarded_grows env ss = grows_behind env (opened env) ss (grows_opened env env (grows_self env))

pub guarded_names : (env : Env) (ss : Stmts) → take (length env.names) (env_behind (opened env) ss).names ≡ env.names
guarded_names env ss = (guarded_grows env ss).names

pub guarded_program : (env : Env) (ss : Stmts) → (env_behind (opened env) ss).program ≡ env.program
guarded_program env ss = (guarded_grows env ss).program

inner_grows : (env : Env) (a : Surroundings) (s : Stmt) → Grows env (env_after (opened (with_around env a)) s)
inner_grows env a s = grows_after env (opened (with_around env a)) s (grows_opened env (with_around env a) (grows_around env env a (grows_self env)))

pub inner_names : (env : Env) (a : Surroundings) (s : Stmt) → take (length env.names) (env_after (opened (with_around env a)) s).names ≡ env.names
inner_names env a s = (inner_grows env a s).names

pub inner_program : (env : Env) (a : Surroundings) (s : Stmt) → (env_after (opened (with_around env a)) s).program ≡ env.program
inner_program env a s = (inner_grows env a s).program

for_grows : (env : Env) (start : ForStart) (a : Surroundings) (s : Stmt) → Grows env (env_after (with_around (for_declared (opened env) start) a) s)
for_grows env start a s = grows_after env (with_around (for_declared (opened env) start) a) s (grows_around env (for_declared (opened env) start) a (grows_for env (opened env) start (grows_opened env env (grows_self env))))

pub for_names : (env : Env) (start : ForStart) (a : Surroundings) (s : Stmt) → take (length env.names) (env_after (with_around (for_declared (opened env) start) a) s).names ≡ env.names
for_names env start a s = (for_grows env start a s).names

pub for_program : (env : Env) (start : ForStart) (a : Surroundings) (s : Stmt) → (env_after (with_around (for_declared (opened env) start) a) s).program ≡ env.program
for_program env start a s = (for_grows env start a s).program

handler_grows : (env : Env) (a : Surroundings) (event param : Option (List ℕ)) (ss : Stmts) → Grows env (env_behind (with_caught (opened (with_around env a)) event param) ss)
handler_grows env a event param ss = grows_behind env (with_caught (opened (with_around env a)) event param) ss (grows_caught env (opened (with_around env a)) event param (grows_opened env (with_around env a) (grows_around env env a (grows_self env))))

pub handler_names : (env : Env) (a : Surroundings) (event param : Option (List ℕ)) (ss : Stmts) → take (length env.names) (env_behind (with_caught (opened (with_around env a)) event param) ss).names ≡ env.names
handler_names env a event param ss = (handler_grows env a event param ss).names

pub handler_program : (env : Env) (a : Surroundings) (event param : Option (List ℕ)) (ss : Stmts) → (env_behind (with_caught (opened (with_around env a)) event param) ss).program ≡ env.program
handler_program env a event param ss = (handler_grows env a event param ss).program

pub ruleset blocks = (block_names, block_program, guarded_names, guarded_program, inner_names, inner_program, for_names, for_program, handler_names, handler_program)
