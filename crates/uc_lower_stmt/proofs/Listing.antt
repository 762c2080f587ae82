-- Statements of a block, one after another, in a draft.
use Rattle.std.proofs.Common.{◌≡◌, ℕ, zero, suc, ◌+◌, ◌*◌, ◌≤◌, ◌<◌, List, [], ◌∷◌, ◌++◌, Option, Some, None, length, take, get_or, refl, ap, sym, subst, ◌∙◌, arith}
use Rattle.std.proofs.Common.{reverse, take_all}
use Rattle.std.proofs.lemmas.List.{take_more, length-reverse}
use Rattle.uc_tree.specs.declared.limits.TheConstants.{OPS_FOR_SIZE}
use Rattle.uc_tree.specs.declared.pos.Pos.{Pos}
use Rattle.uc_tree.specs.declared.kinds.Base.{Base}
use Rattle.uc_tree.specs.declared.stmt.StmtForm.{StmtForm}
use Rattle.uc_tree.specs.declared.stmt.StmtForm.TheVariants as form
use Rattle.uc_tree.specs.StatementForms.{stmt_at}
use Rattle.uc_tree.specs.Statements.{Declarator, Stmt, Block, Empty, Evaluate, Declare, If, While, Do, For, Break, Continue, Return, Try, Throw, Raise, RaiseAt, Enable, Disable, Accept, Print, PrintTogether, Read, Resume, Suspend, Yield, Migrate, stmts_of}
use Rattle.uc_tree.specs.StatementSizes.{declarators_size, stmt_size, stmts_size}
use Rattle.uc_tree.specs.Exits.{declares, exits, exits_all}
use Rattle.uc_tree.specs.Sizes.{size_at}
use Rattle.uc_tree.specs.Scopes.{stmt_scopes, stmts_scopes}
use Rattle.uc_tree.specs.Cells.{declared_cells, declarators_cells, stmt_cells, stmts_cells}
use Rattle.uc_tree.specs.Objects.{Making, making}
use Rattle.uc_tree.specs.Programs.{Program}
use Rattle.uc_tree.specs.Source as source
use Rattle.uc_resolve.specs.Resolve.{Scope, all_declared, declared_alone, declared_then, objects_scoped, stmt_meant, stmts_meant, stmt_then, scope_after, scope_behind, with_all}
use Rattle.uc_code.specs.declared.rows.CodeMark.{CodeMark}
use Rattle.uc_code.specs.Drafts.{Draft}
use Rattle.uc_code.specs.Lowered.{StmtAt, StmtsAt}
use Rattle.uc_lower_stmt.specs.declared.stmt.Objects.{Objects}
use Rattle.uc_lower_expr.specs.Meanings.{making_of}
use Rattle.uc_lower_stmt.specs.Blocks.{EndsScopes}
use Rattle.uc_lower_stmt.specs.Control.{DeclaresObjects, LaysDeclaration, LaysStmt, LowersDeclaration}
use Rattle.uc_lower_stmt.specs.Listed.{declares_all, stmts_then, LaysStmts}
use Rattle.uc_lower_stmt.specs.Marked.{objects_in, taken}
use Rattle.uc_lower_stmt.specs.OpenScopes.{Lays}
use Rattle.uc_lower_stmt.specs.Pieces.{VariablesCode}
use Rattle.uc_lower_stmt.specs.LowersStatement.{Lowers, LowersStmt, LowersStmts, scope_of, sizes_at}
use Rattle.uc_lower_stmt.proofs.Counted.{declared_counted}
use Rattle.uc_lower_stmt.proofs.Growth.{exits_grow}
use Rattle.uc_lower_stmt.proofs.Joined.{lowers_as, lowers_count}
use Rattle.uc_lower_stmt.specs.SourceRows.{stmt_rows_under, stmts_rows_under}
use Rattle.uc_lower_stmt.proofs.Laying.{lays_as, lays_ended, lays_join, lays_nothing, lays_one}

-- one statement

alone_then : (p : Program) (line : ℕ) (b : Base) (ds : List Declarator) (s : Scope) (rest : source.Stmts) (o : Option Making) → o ≡ None → source.Then (declared_alone p o line b ds s) rest ≡ declared_then p o line b ds s rest
alone_then p line b ds s rest None e = refl
alone_then p line b ds s rest (Some m) e = absurd (cc e)

then_one : (p : Program) (t : Stmt) (s : Scope) (rest : source.Stmts) → DeclaresObjects p t None → source.Then (stmt_meant p t s) rest ≡ stmt_then p t s (stmt_meant p t s) rest
then_one p (Declare place b ds) s rest h = alone_then p place.line b ds s rest (making p b) h
then_one p (Block place body) s rest h = refl
then_one p (Empty place) s rest h = refl
then_one p (Evaluate place v) s rest h = refl
then_one p (If place test chosen other) s rest h = refl
then_one p (While place test body) s rest h = refl
then_one p (Do place body test) s rest h = refl
then_one p (For place start test step body) s rest h = refl
then_one p (Break place) s rest h = refl
then_one p (Continue place) s rest h = refl
then_one p (Return place value) s rest h = refl
then_one p (Try place brace body hs) s rest h = refl
then_one p (Throw place raised) s rest h = refl
then_one p (Raise place raised) s rest h = refl
then_one p (RaiseAt place raised target) s rest h = refl
then_one p (Enable place events body) s rest h = refl
then_one p (Disable place events body) s rest h = refl
then_one p (Accept place cs other) s rest h = refl
then_one p (Print place items) s rest h = refl
then_one p (PrintTogether place items) s rest h = refl
then_one p (Read place places) s rest h = refl
then_one p (Resume place) s rest h = refl
then_one p (Suspend place) s rest h = refl
then_one p (Yield place) s rest h = refl
then_one p (Migrate place cluster) s rest h = refl

pub arm_next : (p : Program) (block : ℕ) (t : Stmt) (old new : Draft) → DeclaresObjects p t None → LowersStmt p t old new → LaysStmt p block t old new
arm_next p block t old new d h = lays_as (lays_one block h) refl (λ ss. then_one p t (scope_of old) ss d) (omega arith) (omega arith) (omega arith) (omega arith) (omega arith)

-- a declaration of objects

pub declared_objects : (p : Program) (block line : ℕ) (b : Base) (ds : List Declarator) (m : Making) (old new : Draft) → making p b ≡ Some m
    → Lays (OPS_FOR_SIZE * declarators_size ds) 0 (declarators_cells (declared_cells p b) ds) (length ds) 0 block (objects_scoped p m line b ds (scope_of old)) (with_all p (scope_of old) b ds) old new → LaysDeclaration p line block b ds old new
declared_objects p block line b ds m old new e h =
    lays_as h refl (λ ss. ap (λ (o : Option Making). declared_then p o line b ds (scope_of old) ss) (sym e)) (omega arith) (omega arith) (omega arith) (omega arith) (omega arith)

pub declared_variables : (p : Program) (block line : ℕ) (b : Base) (ds : List Declarator) (old new : Draft) → making p b ≡ None
    → Lowers 0 (OPS_FOR_SIZE * declarators_size ds) 0 (declarators_cells (declared_cells p b) ds) 0 (VariablesCode line old.marks (all_declared p (scope_of old) b ds)) (with_all p (scope_of old) b ds) old new → LaysDeclaration p line block b ds old new
declared_variables p block line b ds old new e h =
    let one : Lowers (stmt_rows_under old.marks (source.Declare line (all_declared p (scope_of old) b ds))) (OPS_FOR_SIZE * declarators_size ds) 0 (declarators_cells (declared_cells p b) ds) 0 (λ code. StmtAt code old.marks (source.Declare line (all_declared p (scope_of old) b ds))) (with_all p (scope_of old) b ds) old new = h in
    lays_as (lays_one block one) refl (λ ss. ap (λ (o : Option Making). declared_then p o line b ds (scope_of old) ss) (sym e)) (omega arith) (omega arith) (omega arith) (omega arith) (omega arith)

next_objects : (p : Program) (block : ℕ) (t : Stmt) (place : Pos) (b : Base) (ds : List Declarator) (m : Making) (old new : Draft) → Declare place b ds ≡ t → making p b ≡ Some m
    → Lays (OPS_FOR_SIZE * declarators_size ds) 0 (declarators_cells (declared_cells p b) ds) (length ds) 0 block (objects_scoped p m place.line b ds (scope_of old)) (with_all p (scope_of old) b ds) old new → LaysStmt p block t old new
next_objects p block t place b ds m old new e c h =
    subst (λ (u : Stmt). LaysStmt p block u old new) e (
    lays_as (declared_objects p block place.line b ds m old new c h) (declared_counted p place b ds (scope_of old)) (λ ss. refl) (omega arith) (omega arith) (omega arith) (omega arith) (omega arith))

next_declared : (p : Program) (block : ℕ) (pos : Pos) (f : StmtForm) (o : Objects) (old new : Draft) → DeclaresObjects p (stmt_at pos f) (Some o)
    → Lays (OPS_FOR_SIZE * declarators_size o.declarators.now) 0 (declarators_cells (declared_cells p o.base.now) o.declarators.now) (length o.declarators.now) 0 block (objects_scoped p (making_of p o.made) pos.line o.base.now o.declarators.now (scope_of old)) (with_all p (scope_of old) o.base.now o.declarators.now) old new
    → LaysStmt p block (stmt_at pos f) old new
next_declared p block pos (form.Declare base ds) o old new d h =
    next_objects p block (Declare pos base ds.items) pos base ds.items (making_of p o.made) old new refl d.0 (
    subst (λ (xs : List Declarator). Lays (OPS_FOR_SIZE * declarators_size xs) 0 (declarators_cells (declared_cells p base) xs) (length xs) 0 block (objects_scoped p (making_of p o.made) pos.line base xs (scope_of old)) (with_all p (scope_of old) base xs) old new) (sym d.1.1) (
    subst (λ (b : Base). Lays (OPS_FOR_SIZE * declarators_size o.declarators.now) 0 (declarators_cells (declared_cells p b) o.declarators.now) (length o.declarators.now) 0 block (objects_scoped p (making_of p o.made) pos.line b o.declarators.now (scope_of old)) (with_all p (scope_of old) b o.declarators.now) old new) (sym d.1.0) h))
next_declared p block pos (form.Block body) o old new d h = absurd d
next_declared p block pos form.Empty o old new d h = absurd d
next_declared p block pos (form.Evaluate value) o old new d h = absurd d
next_declared p block pos (form.If test chosen other) o old new d h = absurd d
next_declared p block pos (form.While test body) o old new d h = absurd d
next_declared p block pos (form.Do body test) o old new d h = absurd d
next_declared p block pos (form.For start test step body) o old new d h = absurd d
next_declared p block pos form.Break o old new d h = absurd d
next_declared p block pos form.Continue o old new d h = absurd d
next_declared p block pos (form.Return value) o old new d h = absurd d
next_declared p block pos (form.Try brace body hs) o old new d h = absurd d
next_declared p block pos (form.Throw raised) o old new d h = absurd d
next_declared p block pos (form.Raise raised) o old new d h = absurd d
next_declared p block pos (form.RaiseAt raised target) o old new d h = absurd d
next_declared p block pos (form.Enable events body) o old new d h = absurd d
next_declared p block pos (form.Disable events body) o old new d h = absurd d
next_declared p block pos (form.Accept cs other) o old new d h = absurd d
next_declared p block pos (form.Print items) o old new d h = absurd d
next_declared p block pos (form.PrintTogether items) o old new d h = absurd d
next_declared p block pos (form.Read places) o old new d h = absurd d
next_declared p block pos form.Resume o old new d h = absurd d
next_declared p block pos form.Suspend o old new d h = absurd d
next_declared p block pos form.Yield o old new d h = absurd d
next_declared p block pos (form.Migrate cluster) o old new d h = absurd d

pub arm_next_objects : (p : Program) (block : ℕ) (pos : Pos) (f : StmtForm) (t : Stmt) (o : Objects) (old new : Draft) → stmt_at pos f ≡ t → DeclaresObjects p (stmt_at pos f) (Some o)
    → Lays (OPS_FOR_SIZE * declarators_size o.declarators.now) 0 (declarators_cells (declared_cells p o.base.now) o.declarators.now) (length o.declarators.now) 0 block (objects_scoped p (making_of p o.made) pos.line o.base.now o.declarators.now (scope_of old)) (with_all p (scope_of old) o.base.now o.declarators.now) old new
    → LaysStmt p block t old new
arm_next_objects p block pos f t o old new e d h = subst (λ (u : Stmt). LaysStmt p block u old new) e (next_declared p block pos f o old new d h)

-- what such a declaration takes
pub record DeclaredFits (p : Program) (t : Stmt) (o : Objects) : Type 0 where
  pub made : making p o.base.now ≡ Some (making_of p o.made)
  pub size : declarators_size o.declarators.now ≤ stmt_size t
  pub cells : declarators_cells (declared_cells p o.base.now) o.declarators.now ≤ stmt_cells t (declared_cells p)

declared_fits : (p : Program) (pos : Pos) (f : StmtForm) (o : Objects) → DeclaresObjects p (stmt_at pos f) (Some o) → DeclaredFits p (stmt_at pos f) o
declared_fits p pos (form.Declare base ds) o d =
    subst (λ (xs : List Declarator). DeclaredFits p (Declare pos base xs) o) (sym d.1.1) (
    subst (λ (b : Base). DeclaredFits p (Declare pos b o.declarators.now) o) (sym d.1.0) (record { made = ap (making p) (sym d.1.0) ∙ d.0; size = omega arith; cells = omega arith }))
declared_fits p pos (form.Block body) o d = absurd d
declared_fits p pos form.Empty o d = absurd d
declared_fits p pos (form.Evaluate value) o d = absurd d
declared_fits p pos (form.If test chosen other) o d = absurd d
declared_fits p pos (form.While test body) o d = absurd d
declared_fits p pos (form.Do body test) o d = absurd d
declared_fits p pos (form.For start test step body) o d = absurd d
declared_fits p pos form.Break o d = absurd d
declared_fits p pos form.Continue o d = absurd d
declared_fits p pos (form.Return value) o d = absurd d
declared_fits p pos (form.Try brace body hs) o d = absurd d
declared_fits p pos (form.Throw raised) o d = absurd d
declared_fits p pos (form.Raise raised) o d = absurd d
declared_fits p pos (form.RaiseAt raised target) o d = absurd d
declared_fits p pos (form.Enable events body) o d = absurd d
declared_fits p pos (form.Disable events body) o d = absurd d
declared_fits p pos (form.Accept cs other) o d = absurd d
declared_fits p pos (form.Print items) o d = absurd d
declared_fits p pos (form.PrintTogether items) o d = absurd d
declared_fits p pos (form.Read places) o d = absurd d
declared_fits p pos form.Resume o d = absurd d
declared_fits p pos form.Suspend o d = absurd d
declared_fits p pos form.Yield o d = absurd d
declared_fits p pos (form.Migrate cluster) o d = absurd d

pub next_fits : (p : Program) (pos : Pos) (f : StmtForm) (t : Stmt) (o : Objects) → stmt_at pos f ≡ t → DeclaresObjects p (stmt_at pos f) (Some o) → DeclaredFits p t o
next_fits p pos f t o e d = subst (λ (u : Stmt). DeclaredFits p u o) e (declared_fits p pos f o d)

-- one that is a statement of its own
pub alone_objects : (p : Program) (line : ℕ) (b : Base) (ds : List Declarator) (m : Making) (count : ℕ) (old mid new : Draft) → making p b ≡ Some m → count ≡ length old.marks
    → Lays (OPS_FOR_SIZE * declarators_size ds) 0 (declarators_cells (declared_cells p b) ds) (length ds) 0 line (objects_scoped p m line b ds (scope_of old)) (with_all p (scope_of old) b ds) old mid → EndsScopes count mid new → LowersDeclaration p line b ds old new
alone_objects p line b ds m count old mid new e ce h w =
    lowers_count (ap (λ (o : Option Making). stmt_rows_under old.marks (declared_alone p o line b ds (scope_of old))) (sym e)) (
    lowers_as (lays_ended count ce h w) refl (λ code a z x. subst (λ (o : Option Making). StmtAt code old.marks (declared_alone p o line b ds (scope_of old)) a z) (sym e) x) (omega arith) (omega arith) (omega arith) (omega arith))

pub alone_variables : (p : Program) (line : ℕ) (b : Base) (ds : List Declarator) (old new : Draft) → making p b ≡ None
    → Lowers 0 (OPS_FOR_SIZE * declarators_size ds) 0 (declarators_cells (declared_cells p b) ds) 0 (VariablesCode line old.marks (all_declared p (scope_of old) b ds)) (with_all p (scope_of old) b ds) old new → LowersDeclaration p line b ds old new
alone_variables p line b ds old new e h =
    lowers_count (ap (λ (o : Option Making). stmt_rows_under old.marks (declared_alone p o line b ds (scope_of old))) (sym e)) (
    lowers_as h refl (λ code a z x. subst (λ (o : Option Making). StmtAt code old.marks (declared_alone p o line b ds (scope_of old)) a z) (sym e) x) (omega arith) (omega arith) (omega arith) (omega arith))

-- lists

then_push : (p : Program) (xs : List Stmt) (x : Stmt) (s : Scope) (rest : source.Stmts) → stmts_then p xs s (stmt_then p x (scope_behind p (stmts_of xs) s) (stmt_meant p x (scope_behind p (stmts_of xs) s)) rest) ≡ stmts_then p (xs ++ x ∷ []) s rest
then_push p [] x s rest = refl
then_push p (y ∷ ys) x s rest = ap (λ (r : source.Stmts). stmt_then p y s (stmt_meant p y s) r) (then_push p ys x (scope_after p y s) rest)

then_meant : (p : Program) (xs : List Stmt) (s : Scope) → stmts_then p xs s source.Nil ≡ stmts_meant p (stmts_of xs) s
then_meant p [] s = refl
then_meant p (y ∷ ys) s = ap (λ (r : source.Stmts). stmt_then p y s (stmt_meant p y s) r) (then_meant p ys (scope_after p y s))

scope_push : (p : Program) (xs : List Stmt) (x : Stmt) (s : Scope) → scope_after p x (scope_behind p (stmts_of xs) s) ≡ scope_behind p (stmts_of (xs ++ x ∷ [])) s
scope_push p [] x s = refl
scope_push p (y ∷ ys) x s = scope_push p ys x (scope_after p y s)

size_push : (xs : List Stmt) (x : Stmt) → stmts_size (stmts_of (xs ++ x ∷ [])) ≡ stmts_size (stmts_of xs) + stmt_size x
size_push [] x = omega arith
size_push (y ∷ ys) x = omega (arith, size_push ys x)

exits_push : (xs : List Stmt) (x : Stmt) (k : ℕ) → exits_all (stmts_of (xs ++ x ∷ [])) k ≡ exits_all (stmts_of xs) k + exits x (k + declares_all xs)
exits_push [] x k = let e : exits x (k + 0) ≡ exits x k = ap (exits x) (omega arith) in omega (arith, e)
exits_push (y ∷ ys) x k =
    let e : exits x (k + declares y + declares_all ys) ≡ exits x (k + (declares y + declares_all ys)) = ap (exits x) (omega arith) in
    omega (arith, exits_push ys x (k + declares y), e)

declares_push : (xs : List Stmt) (x : Stmt) → declares_all (xs ++ x ∷ []) ≡ declares_all xs + declares x
declares_push [] x = omega arith
declares_push (y ∷ ys) x = omega (arith, declares_push ys x)

scopes_push : (xs : List Stmt) (x : Stmt) → stmts_scopes (stmts_of (xs ++ x ∷ [])) ≡ stmts_scopes (stmts_of xs) + stmt_scopes x
scopes_push [] x = omega arith
scopes_push (y ∷ ys) x = omega (arith, scopes_push ys x)

cells_push : (f : Base → Declarator → ℕ) (xs : List Stmt) (x : Stmt) → stmts_cells (stmts_of (xs ++ x ∷ [])) f ≡ stmts_cells (stmts_of xs) f + stmt_cells x f
cells_push f [] x = omega arith
cells_push f (y ∷ ys) x = omega (arith, cells_push f ys x)

-- the first statements and the next one are no larger than all

take_size : (xs : List Stmt) (n : ℕ) → stmts_size (stmts_of (take n xs)) ≤ stmts_size (stmts_of xs)
take_size [] zero = omega arith
take_size [] (suc n) = omega arith
take_size (y ∷ ys) zero = omega arith
take_size (y ∷ ys) (suc n) = let h = take_size ys n in omega arith

take_exits : (xs : List Stmt) (n k : ℕ) → exits_all (stmts_of (take n xs)) k ≤ exits_all (stmts_of xs) k
take_exits [] zero k = omega arith
take_exits [] (suc n) k = omega arith
take_exits (y ∷ ys) zero k = omega arith
take_exits (y ∷ ys) (suc n) k = let h = take_exits ys n (k + declares y) in omega arith

take_scopes : (xs : List Stmt) (n : ℕ) → stmts_scopes (stmts_of (take n xs)) ≤ stmts_scopes (stmts_of xs)
take_scopes [] zero = omega arith
take_scopes [] (suc n) = omega arith
take_scopes (y ∷ ys) zero = omega arith
take_scopes (y ∷ ys) (suc n) = let h = take_scopes ys n in omega arith

take_cells : (f : Base → Declarator → ℕ) (xs : List Stmt) (n : ℕ) → stmts_cells (stmts_of (take n xs)) f ≤ stmts_cells (stmts_of xs) f
take_cells f [] zero = omega arith
take_cells f [] (suc n) = omega arith
take_cells f (y ∷ ys) zero = omega arith
take_cells f (y ∷ ys) (suc n) = let h = take_cells f ys n in omega arith

module _ (p : Program) (line : ℕ) (xs : List Stmt) (i : ℕ) (x : Stmt) (old mid : Draft) (l : i < length xs) (e : x ≡ get_or xs i x) (g : LaysStmts p line (take i xs) old mid) where
  abbrev ys : List Stmt
  ys = take i xs

  split : ys ++ x ∷ [] ≡ take (i + 1) xs
  split = ap (λ (y : Stmt). ys ++ y ∷ []) e ∙ sym (take_more xs i x l)

  pub next_room : (most : ℕ) → taken old + OPS_FOR_SIZE * sizes_at (stmts_of xs) (objects_in old.marks) ≤ most → taken mid + OPS_FOR_SIZE * size_at x (objects_in mid.marks) ≤ most
  next_room most r =
      let k : ℕ = objects_in old.marks in
      let o = g.objects in
      let q = g.room in
      let grow = exits_grow x (objects_in mid.marks) (k + declares_all ys) o in
      let s1 = size_push ys x in
      let s2 = exits_push ys x k in
      let s3 : stmts_size (stmts_of (ys ++ x ∷ [])) ≡ stmts_size (stmts_of (take (i + 1) xs)) = ap (λ (zs : List Stmt). stmts_size (stmts_of zs)) split in
      let s4 : exits_all (stmts_of (ys ++ x ∷ [])) k ≡ exits_all (stmts_of (take (i + 1) xs)) k = ap (λ (zs : List Stmt). exits_all (stmts_of zs) k) split in
      let s5 = take_size xs (i + 1) in
      let s6 = take_exits xs (i + 1) k in
      omega arith

  pub next_cells : (most : ℕ) → old.cells + stmts_cells (stmts_of xs) (declared_cells p) ≤ most → mid.cells + stmt_cells x (declared_cells p) ≤ most
  next_cells most r =
      let f = declared_cells p in
      let q = g.cells in
      let s1 = cells_push (declared_cells p) ys x in
      let s2 : stmts_cells (stmts_of (ys ++ x ∷ [])) (declared_cells p) ≡ stmts_cells (stmts_of (take (i + 1) xs)) (declared_cells p) = ap (λ (zs : List Stmt). stmts_cells (stmts_of zs) (declared_cells p)) split in
      let s3 = take_cells (declared_cells p) xs (i + 1) in
      omega arith

  pub next_scopes : (most : ℕ) → old.scopes + stmts_scopes (stmts_of xs) ≤ most → mid.scopes + stmt_scopes x ≤ most
  next_scopes most r =
      let q = g.opened in
      let s1 = scopes_push ys x in
      let s2 : stmts_scopes (stmts_of (ys ++ x ∷ [])) ≡ stmts_scopes (stmts_of (take (i + 1) xs)) = ap (λ (zs : List Stmt). stmts_scopes (stmts_of zs)) split in
      let s3 = take_scopes xs (i + 1) in
      omega arith

  pub next_texts : (most : ℕ) → old.texts + stmts_size (stmts_of xs) ≤ most → mid.texts + stmt_size x ≤ most
  next_texts most r =
      let q = g.texts in
      let s1 = size_push ys x in
      let s2 : stmts_size (stmts_of (ys ++ x ∷ [])) ≡ stmts_size (stmts_of (take (i + 1) xs)) = ap (λ (zs : List Stmt). stmts_size (stmts_of zs)) split in
      let s3 = take_size xs (i + 1) in
      omega arith

  pub list_step : (new : Draft) → LaysStmt p line x mid new → LaysStmts p line (take (i + 1) xs) old new
  list_step new h =
      let s : Scope = scope_of old in
      let k : ℕ = objects_in old.marks in
      let t : Scope = scope_behind p (stmts_of ys) s in
      let o = g.objects in
      let grow = exits_grow x (objects_in mid.marks) (k + declares_all ys) o in
      let s1 = size_push ys x in
      let s2 = exits_push ys x k in
      let h1 : Lays (OPS_FOR_SIZE * size_at x (objects_in mid.marks)) (stmt_size x) (stmt_cells x (declared_cells p)) (declares x) (stmt_scopes x) line (stmt_then p x t (stmt_meant p x t)) (scope_after p x t) mid new =
      subst (λ (u : Scope). Lays (OPS_FOR_SIZE * size_at x (objects_in mid.marks)) (stmt_size x) (stmt_cells x (declared_cells p)) (declares x) (stmt_scopes x) line (stmt_then p x u (stmt_meant p x u)) (scope_after p x u) mid new) g.scope h in
      subst (λ (zs : List Stmt). LaysStmts p line zs old new) split (
      lays_as (lays_join g h1) (scope_push p ys x s) (λ ss. then_push p ys x s ss) (omega arith) (omega (arith, s1)) (omega (arith, cells_push (declared_cells p) ys x)) (omega (arith, declares_push ys x)) (omega (arith, scopes_push ys x)))

-- the block begins and ends

pub list_start : (p : Program) (line : ℕ) (xs : List Stmt) (old : Draft) → LaysStmts p line (take 0 xs) old old
list_start p line [] old = lays_as (lays_nothing line old) refl (λ ss. refl) (omega arith) (omega arith) (omega arith) (omega arith) (omega arith)
list_start p line (x ∷ xs) old = lays_as (lays_nothing line old) refl (λ ss. refl) (omega arith) (omega arith) (omega arith) (omega arith) (omega arith)

pub marks_count : (xs ms : List CodeMark) (n : ℕ) → n ≡ length xs → reverse xs ≡ ms → n ≡ length ms
marks_count xs ms n e r = e ∙ (sym (length-reverse xs) ∙ ap length r)

pub list_ended : (p : Program) (line count n : ℕ) (xs : List Stmt) (old mid new : Draft) → count ≡ length old.marks → length xs ≤ n → LaysStmts p line (take n xs) old mid → EndsScopes count mid new → LowersStmts p line (stmts_of xs) old new
list_ended p line count n xs old mid new ce l g w =
    let h : LaysStmts p line xs old mid = subst (λ (zs : List Stmt). LaysStmts p line zs old mid) (take_all n xs l) g in
    lowers_count (ap (λ (ss : source.Stmts). stmts_rows_under old.marks ss) (then_meant p xs (scope_of old))) (
    lowers_as (lays_ended count ce h w) refl (λ code a z x. subst (λ (ss : source.Stmts). StmtsAt code old.marks line ss a z) (then_meant p xs (scope_of old)) x) (omega arith) (omega arith) (omega arith) (omega arith))
