-- What stands before a place is counted for all statements alike.
use Rattle.std.proofs.Common.{◌≡◌, ℕ, ◌+◌, List, [], ◌∷◌, None, length, ap, ◌∙◌, arith, length-append}
use Rattle.uc_tree.specs.declared.pos.Pos.{Pos}
use Rattle.uc_tree.specs.declared.kinds.Base.{Base}
use Rattle.uc_tree.specs.declared.kinds.LocalVariable.{LocalVariable}
use Rattle.uc_tree.specs.Statements.{Declarator, Declare, Stmts, NoStmts, MoreStmts}
use Rattle.uc_tree.specs.Cells.{declared_cells, declarators_cells, stmt_cells, stmts_cells}
use Rattle.uc_tree.specs.Gathered.{gathered, gathered_all}
use Rattle.uc_tree.specs.Hidden.{hidden_in, hidden_in_all}
use Rattle.uc_tree.specs.Numbering.{own_texts, own_sites}
use Rattle.uc_tree.specs.Programs.{Program}
use Rattle.uc_resolve.specs.Resolve.{Scope, with_declared, with_all, scope_after, scope_behind}

-- a scope of the same routine with these names, behind so many cells, hidden cells, text literals and accept statements
abbrev pub counted : Scope → List LocalVariable → ℕ → ℕ → ℕ → ℕ → Scope
counted s names cells hidden texts sites = record s { names = names; cells = cells; hidden = hidden; texts = texts; sites = sites }

pub counted_as : (s : Scope) (names : List LocalVariable) (c d h i t u x y : ℕ) → c ≡ d → h ≡ i → t ≡ u → x ≡ y → counted s names c h t x ≡ counted s names d i u y
counted_as s names c d h i t u x y e k f g =
    ap (λ (n : ℕ). counted s names n h t x) e ∙ ap (λ (n : ℕ). counted s names d n t x) k ∙ ap (λ (n : ℕ). counted s names d i n x) f ∙ ap (λ (n : ℕ). counted s names d i u n) g

-- a statement that has nothing to count
pub nothing_counted : (s : Scope) → s ≡ counted s s.names (s.cells + 0) (s.hidden + 0) (s.texts + 0) (s.sites + 0)
nothing_counted s =
    let c : s.cells ≡ s.cells + 0 = omega arith in
    let h : s.hidden ≡ s.hidden + 0 = omega arith in
    let t : s.texts ≡ s.texts + 0 = omega arith in
    let x : s.sites ≡ s.sites + 0 = omega arith in
    counted_as s s.names s.cells (s.cells + 0) s.hidden (s.hidden + 0) s.texts (s.texts + 0) s.sites (s.sites + 0) c h t x

-- one that has text literals alone
pub texts_counted : (s : Scope) (n : ℕ) → counted s s.names s.cells s.hidden (s.texts + n) s.sites ≡ counted s s.names (s.cells + 0) (s.hidden + 0) (s.texts + n) (s.sites + 0)
texts_counted s n =
    let c : s.cells ≡ s.cells + 0 = omega arith in
    let h : s.hidden ≡ s.hidden + 0 = omega arith in
    let t : s.texts + n ≡ s.texts + n = omega arith in
    let x : s.sites ≡ s.sites + 0 = omega arith in
    counted_as s s.names s.cells (s.cells + 0) s.hidden (s.hidden + 0) (s.texts + n) (s.texts + n) s.sites (s.sites + 0) c h t x

pub with_is : (p : Program) (b : Base) (ds : List Declarator) (s : Scope) → with_all p s b ds ≡ counted s (with_all p s b ds).names (s.cells + declarators_cells (declared_cells p b) ds) s.hidden s.texts s.sites
with_is p b [] s =
    let c : s.cells ≡ s.cells + 0 = omega arith in
    ap (λ (n : ℕ). counted s s.names n s.hidden s.texts s.sites) c
with_is p b (d ∷ ds) s =
    let c : s.cells + declared_cells p b d + declarators_cells (declared_cells p b) ds ≡ s.cells + (declared_cells p b d + declarators_cells (declared_cells p b) ds) = omega arith in
    with_is p b ds (with_declared p s b d) ∙ ap (λ (n : ℕ). counted s (with_all p s b (d ∷ ds)).names n s.hidden s.texts s.sites) c

pub declared_counted : (p : Program) (place : Pos) (b : Base) (ds : List Declarator) (s : Scope) → with_all p s b ds ≡ scope_after p (Declare place b ds) s
declared_counted p place b ds s =
    let h : s.hidden ≡ s.hidden + 0 = omega arith in
    let t : s.texts ≡ s.texts + 0 = omega arith in
    let x : s.sites ≡ s.sites + 0 = omega arith in
    let c : s.cells + declarators_cells (declared_cells p b) ds ≡ s.cells + declarators_cells (declared_cells p b) ds = omega arith in
    with_is p b ds s ∙ counted_as s (with_all p s b ds).names (s.cells + declarators_cells (declared_cells p b) ds) (s.cells + declarators_cells (declared_cells p b) ds) s.hidden (s.hidden + 0) s.texts (s.texts + 0) s.sites (s.sites + 0) c h t x

pub behind_counted : (p : Program) (ts : Stmts) (s : Scope) → scope_behind p ts s ≡ counted s (scope_behind p ts s).names (s.cells + stmts_cells ts (declared_cells p)) (s.hidden + hidden_in_all ts) (s.texts + length (gathered_all own_texts ts)) (s.sites + length (gathered_all (own_sites None 0) ts))
behind_counted p NoStmts s = nothing_counted s
behind_counted p (MoreStmts t ts) s =
    let a = length-append (gathered own_texts t) (gathered_all own_texts ts) in
    let b = length-append (gathered (own_sites None 0) t) (gathered_all (own_sites None 0) ts) in
    let c : s.cells + stmt_cells t (declared_cells p) + stmts_cells ts (declared_cells p) ≡ s.cells + stmts_cells (MoreStmts t ts) (declared_cells p) = omega arith in
    let h : s.hidden + hidden_in t + hidden_in_all ts ≡ s.hidden + (hidden_in t + hidden_in_all ts) = omega arith in
    let e : s.texts + length (gathered own_texts t) + length (gathered_all own_texts ts) ≡ s.texts + length (gathered_all own_texts (MoreStmts t ts)) = omega (arith, a) in
    let f : s.sites + length (gathered (own_sites None 0) t) + length (gathered_all (own_sites None 0) ts) ≡ s.sites + length (gathered_all (own_sites None 0) (MoreStmts t ts)) = omega (arith, b) in
    behind_counted p ts (scope_after p t s) ∙ counted_as s (scope_behind p (MoreStmts t ts) s).names _ _ _ _ _ _ _ _ c h e f
