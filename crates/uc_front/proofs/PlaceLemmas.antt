-- Where the steps of a way lead.
use Rattle.std.proofs.Common.{◌≡◌, ℕ, zero, suc, ◌+◌, ◌<◌, ◌≤◌, List, [], ◌∷◌, Bool, true, false, Option, Some, None, length, take, refl, ap, sym, ◌∙◌, arith}
use Rattle.std.specs.Prelude.{slice_get, is_some}
use Rattle.uc_tree.specs.declared.kinds.Base.{Base}
use Rattle.uc_tree.specs.Cells.{classes_of}
use Rattle.uc_tree.specs.Statements.{Declarator, Stmt, stmts_of, Handler, handlers_of, Clause, clauses_of}
use Rattle.uc_tree.specs.Programs.{Item, ClassItem, RoutineItem, ConstItem, ProtoItem, ForwardItem, UsingItem}
use Rattle.uc_rules.specs.ProgramVisits.{classes_in}
use Rattle.uc_rules.specs.declared.rules.Surroundings.{Surroundings}
use Rattle.uc_rules.specs.Scopes.{Env, declared, all_declared, env_after, env_behind, no_around, plain_env, with_around}
use Rattle.uc_front.specs.declared.place.Step.{Step}
use Rattle.uc_front.specs.Places.{Node, AtStmt, AtLeaf, node_env, next_node, nth_node, behind_node, handler_node, handling_node, clause_node, accepted_node, env_along, env_from, reached}

-- a way that ends where nothing stands
abbrev pub Ends : List Step → Bool → Type 0
Ends steps there = (env : Env) → env_along (AtLeaf env) steps ≡ reached there env

behind_is : (env : Env) (b : Base) (ds : List Declarator) (n : ℕ) → n ≤ length ds → behind_node env b ds n ≡ Some (AtLeaf (all_declared env b (take n ds)))
behind_is env b ds zero h = refl
behind_is env b [] (suc n) h = absurd (omega (arith, h))
behind_is env b (d ∷ ds) (suc n) h = behind_is (declared env b d) b ds n (omega (arith, h))

behind_far : (env : Env) (b : Base) (ds : List Declarator) (n : ℕ) → length ds < n → behind_node env b ds n ≡ None
behind_far env b ds zero h = absurd (omega (arith, h))
behind_far env b [] (suc n) h = refl
behind_far env b (d ∷ ds) (suc n) h = behind_far (declared env b d) b ds n (omega (arith, h))

pub behind_ends : (env now : Env) (b : Base) (ds : List Declarator) (n : ℕ) (steps : List Step) (there : Bool) → n ≤ length ds → now ≡ all_declared env b (take n ds) → Ends steps there → env_from (behind_node env b ds n) steps ≡ reached there now
behind_ends env now b ds n steps there h e f =
    ap (λ o. env_from o steps) (behind_is env b ds n h) ∙ f (all_declared env b (take n ds)) ∙ ap (λ x. reached there x) (sym e)

pub behind_none : (env now : Env) (b : Base) (ds : List Declarator) (n : ℕ) (steps : List Step) → length ds < n → env_from (behind_node env b ds n) steps ≡ reached false now
behind_none env now b ds n steps h = ap (λ o. env_from o steps) (behind_far env b ds n h)

nth_is : (env : Env) (ss : List Stmt) (n : ℕ) (s : Stmt) → slice_get ss n ≡ Some s → nth_node env (stmts_of ss) n ≡ Some (AtStmt (env_behind env (stmts_of (take n ss))) s)
nth_is env [] n s h = absurd (cc)
nth_is env (x ∷ ss) zero s h = let e : x ≡ s = cc in ap (λ y. Some (AtStmt env y)) e
nth_is env (x ∷ ss) (suc n) s h = nth_is (env_after env x) ss n s h

nth_last : (env : Env) (ss : List Stmt) (n : ℕ) → n ≤ length ss → slice_get ss n ≡ None → nth_node env (stmts_of ss) n ≡ Some (AtLeaf (env_behind env (stmts_of (take n ss))))
nth_last env [] zero h k = refl
nth_last env [] (suc n) h k = absurd (omega (arith, h))
nth_last env (x ∷ ss) zero h k = absurd (cc)
nth_last env (x ∷ ss) (suc n) h k = nth_last (env_after env x) ss n (omega (arith, h)) k

nth_far : (env : Env) (ss : List Stmt) (n : ℕ) → length ss < n → nth_node env (stmts_of ss) n ≡ None
nth_far env ss zero h = absurd (omega (arith, h))
nth_far env [] (suc n) h = refl
nth_far env (x ∷ ss) (suc n) h = nth_far (env_after env x) ss n (omega (arith, h))

pub nth_goes : (env now : Env) (ss : List Stmt) (n : ℕ) (s : Stmt) (steps : List Step) (r : Option Env) → slice_get ss n ≡ Some s → now ≡ env_behind env (stmts_of (take n ss)) → env_along (AtStmt now s) steps ≡ r → env_from (nth_node env (stmts_of ss) n) steps ≡ r
nth_goes env now ss n s steps r h e k = ap (λ o. env_from o steps) (nth_is env ss n s h) ∙ ap (λ x. env_along (AtStmt x s) steps) (sym e) ∙ k

pub nth_ends : (env now : Env) (ss : List Stmt) (n : ℕ) (steps : List Step) (there : Bool) → n ≤ length ss → slice_get ss n ≡ None → now ≡ env_behind env (stmts_of (take n ss)) → Ends steps there → env_from (nth_node env (stmts_of ss) n) steps ≡ reached there now
nth_ends env now ss n steps there h k e f =
    ap (λ o. env_from o steps) (nth_last env ss n h k) ∙ f (env_behind env (stmts_of (take n ss))) ∙ ap (λ x. reached there x) (sym e)

pub nth_none : (env now : Env) (ss : List Stmt) (n : ℕ) (steps : List Step) → length ss < n → env_from (nth_node env (stmts_of ss) n) steps ≡ reached false now
nth_none env now ss n steps h = ap (λ o. env_from o steps) (nth_far env ss n h)

pub handler_is : (env : Env) (hs : List Handler) (n : ℕ) (h : Handler) → slice_get hs n ≡ Some h → handler_node env (handlers_of hs) n ≡ Some (handling_node env h)
handler_is env [] n h k = absurd (cc)
handler_is env (x ∷ hs) zero h k = let e : x ≡ h = cc in ap (λ y. Some (handling_node env y)) e
handler_is env (x ∷ hs) (suc n) h k = handler_is env hs n h k

pub handler_none : (env : Env) (hs : List Handler) (n : ℕ) → slice_get hs n ≡ None → handler_node env (handlers_of hs) n ≡ None
handler_none env [] n k = refl
handler_none env (x ∷ hs) zero k = absurd (cc)
handler_none env (x ∷ hs) (suc n) k = handler_none env hs n k

pub clause_is : (env : Env) (cs : List Clause) (n : ℕ) (c : Clause) → slice_get cs n ≡ Some c → clause_node env (clauses_of cs) n ≡ Some (accepted_node env c)
clause_is env [] n c k = absurd (cc)
clause_is env (x ∷ cs) zero c k = let e : x ≡ c = cc in ap (λ y. Some (accepted_node env y)) e
clause_is env (x ∷ cs) (suc n) c k = clause_is env cs n c k

pub clause_none : (env : Env) (cs : List Clause) (n : ℕ) → slice_get cs n ≡ None → clause_node env (clauses_of cs) n ≡ None
clause_none env [] n k = refl
clause_none env (x ∷ cs) zero k = absurd (cc)
clause_none env (x ∷ cs) (suc n) k = clause_none env cs n k

pub classes_more : (x : Item) (xs : List Item) → length (classes_of (x ∷ xs)) ≡ classes_in x + length (classes_of xs)
classes_more (ClassItem c) xs = omega arith
classes_more (RoutineItem r) xs = omega arith
classes_more (ConstItem c) xs = omega arith
classes_more (ProtoItem sig) xs = omega arith
classes_more (ForwardItem f) xs = omega arith
classes_more (UsingItem at) xs = omega arith

pub reached_is : (there : Bool) (env : Env) → is_some (reached there env) ≡ there
reached_is true env = refl
reached_is false env = refl

pub reached_there : (there : Bool) (env now : Env) → reached there now ≡ Some env → now ≡ env
reached_there true env now e = cc
reached_there false env now e = absurd (cc)

-- where no name is in scope, what stands round is all that a place adds
pub set_fresh : (env now : Env) (a : Surroundings) → env ≡ plain_env env.program no_around → now ≡ with_around env a → now ≡ plain_env env.program a
set_fresh env now a h e = e ∙ ap (λ n. with_around n a) h

pub leaf_ends : (env now : Env) (steps : List Step) (there : Bool) → now ≡ env → Ends steps there → env_along (AtLeaf env) steps ≡ reached there now
leaf_ends env now steps there e f = f env ∙ ap (λ n. reached there n) (sym e)

pub along_none : (node : Node) (steps : List Step) → length steps ≡ 0 → env_along node steps ≡ Some (node_env node)
along_none node [] h = refl
along_none node (s ∷ steps) h = absurd (omega (arith, h))

pub along_more : (node : Node) (steps rest : List Step) (s : Step) (r : Option Env) → steps ≡ s ∷ rest → env_from (next_node node s) rest ≡ r → env_along node steps ≡ r
along_more node steps rest s r e h = ap (λ l. env_along node l) e ∙ h
