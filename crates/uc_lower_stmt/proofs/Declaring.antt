-- The code of declarations.
use Rattle.std.proofs.Common.{◌≡◌, ℕ, zero, suc, ◌+◌, ◌*◌, ◌≤◌, ◌<◌, List, [], ◌∷◌, ◌++◌, Some, None, length, take, get_or, refl, ap, sym, subst, ◌∙◌, arith}
use Rattle.std.specs.Prelude.{slice_get}
use Rattle.std.proofs.lemmas.List.{take_more}
use Rattle.uc_tree.specs.declared.limits.TheConstants.{OPS_FOR_SIZE, FRAME_CELLS}
use Rattle.uc_tree.specs.declared.kinds.Base.{Base}
use Rattle.uc_tree.specs.declared.kinds.LocalVariable.{LocalVariable}
use Rattle.uc_tree.specs.declared.kinds.Ty.{Ty}
use Rattle.uc_tree.specs.declared.declare.StartForm.{StartForm}
use Rattle.uc_tree.specs.Expressions as tree
use Rattle.uc_tree.specs.Expressions.{exprs_of}
use Rattle.uc_tree.specs.ExpressionSizes.{expr_size, exprs_size}
use Rattle.uc_tree.specs.Statements.{Start, NoStart, StartValue, StartArgs, Declarator}
use Rattle.uc_tree.specs.StatementViews.{start_at}
use Rattle.uc_tree.specs.StatementSizes.{start_size, declarator_size, declarators_size}
use Rattle.uc_tree.specs.Capped.{capped}
use Rattle.uc_tree.specs.Cells.{declared_cells, declarators_cells}
use Rattle.uc_tree.specs.Programs.{Program}
use Rattle.uc_tree.specs.Source.{Shape, Expr}
use Rattle.uc_tree.specs.Objects.{shape_of}
use Rattle.uc_resolve.specs.Resolve.{Scope, meant, value_of, converted, start_meant, first_value, declared_type, declared_known, declared_meant, all_declared, with_declared, with_all}
use Rattle.uc_code.specs.declared.op.Op.TheVariants as op
use Rattle.uc_code.specs.declared.rows.CodeMark.{CodeMark}
use Rattle.uc_code.specs.Drafts.{Draft}
use Rattle.uc_code.specs.Layout.{Laid}
use Rattle.uc_code.specs.CodeShapes.{One, Both}
use Rattle.uc_code.specs.Lowered.{StartAt, VariablesAt}
use Rattle.uc_code.proofs.Stable.{one_stable}
use Rattle.uc_lower_expr.specs.DraftGrowth.{Adds, ExprCode, ConvertCode, OpCode}
use Rattle.uc_lower_expr.specs.Contexts.{context_in}
use Rattle.uc_lower_expr.proofs.Adding.{adds_more, adds_as, adds_both, adds_nothing}
use Rattle.uc_lower_expr.proofs.Settled.{expr_stable}
use Rattle.uc_lower_expr.proofs.Arms.{converted_at}
use Rattle.uc_lower_stmt.specs.LowersStatement.{Lowers, scope_of}
use Rattle.uc_lower_stmt.specs.Pieces.{StartCode, VariablesCode}
use Rattle.uc_lower_stmt.proofs.Kept.{variables_stable}
use Rattle.uc_lower_stmt.proofs.Joined.{lowers_as, lowers_join}
use Rattle.uc_lower_stmt.proofs.RowFitting.{fit_ops}

pub arm_first : (n line : ℕ) (ms : List CodeMark) (cell : ℕ) (s : Shape) (e : Expr) (d0 d1 d2 d3 d4 : Draft) → Adds 1 (OpCode line (op.Local cell)) d0 d1 → Adds n (ExprCode line ms e) d1 d2 → Adds 1 (ConvertCode line s) d2 d3 → Adds 1 (OpCode line op.Store) d3 d4 → Adds (n + 3) (StartCode line ms cell (Some (converted s e))) d0 d4
arm_first n line ms cell s e d0 d1 d2 d3 d4 h1 h2 h3 h4 =
    let value : Adds (n + 1) (ExprCode line ms (converted s e)) d1 d3 = adds_as (adds_both (expr_stable line ms e) h2 h3) (λ code x z h. converted_at ms line s e code x z h) in
    adds_more (omega arith) (adds_both (one_stable (op.Local cell) line) h1 (adds_both (expr_stable line ms (converted s e)) value h4))

pub start_is : (f g : StartForm) (s : Start) → f ≡ g → start_at f ≡ s → start_at g ≡ s
start_is f g s h k = ap start_at (sym h) ∙ k

-- how a variable starts, in a program
module _ (program : Program) where
  pub start_none : (s : Start) (line cell : ℕ) (x : Shape) (old : Draft) → NoStart ≡ s → Adds (OPS_FOR_SIZE * start_size s + 3) (StartCode line old.marks cell (start_meant (context_in program old) x s)) old old
  start_none s line cell x old e = subst (λ (y : Start). Adds (OPS_FOR_SIZE * start_size y + 3) (StartCode line old.marks cell (start_meant (context_in program old) x y)) old old) e (adds_more (omega arith) (adds_nothing old))

  pub start_value : (s : Start) (v : tree.Expr) (line cell : ℕ) (x : Shape) (old new : Draft) → StartValue v ≡ s → Adds (OPS_FOR_SIZE * expr_size v + 3) (StartCode line old.marks cell (Some (converted x (value_of (meant (context_in program old) v))))) old new → Adds (OPS_FOR_SIZE * start_size s + 3) (StartCode line old.marks cell (start_meant (context_in program old) x s)) old new
  start_value s v line cell x old new e h = subst (λ (y : Start). Adds (OPS_FOR_SIZE * start_size y + 3) (StartCode line old.marks cell (start_meant (context_in program old) x y)) old new) e h

  pub start_args : (s : Start) (vs ws : List tree.Expr) (line cell : ℕ) (x : Shape) (old new : Draft) → StartArgs (exprs_of ws) ≡ s → vs ≡ ws → Adds (OPS_FOR_SIZE * exprs_size (exprs_of vs) + 3) (StartCode line old.marks cell (first_value (context_in program old) x (exprs_of vs))) old new → Adds (OPS_FOR_SIZE * start_size s + 3) (StartCode line old.marks cell (start_meant (context_in program old) x s)) old new
  start_args s vs ws line cell x old new e i h = subst (λ (y : Start). Adds (OPS_FOR_SIZE * start_size y + 3) (StartCode line old.marks cell (start_meant (context_in program old) x y)) old new) (ap (λ (l : List tree.Expr). StartArgs (exprs_of l)) i ∙ e) h

  pub args_none : (vs : List tree.Expr) (line cell : ℕ) (x : Shape) (old : Draft) → vs ≡ [] → Adds (OPS_FOR_SIZE * exprs_size (exprs_of vs) + 3) (StartCode line old.marks cell (first_value (context_in program old) x (exprs_of vs))) old old
  args_none vs line cell x old e = subst (λ (l : List tree.Expr). Adds (OPS_FOR_SIZE * exprs_size (exprs_of l) + 3) (StartCode line old.marks cell (first_value (context_in program old) x (exprs_of l))) old old) (sym e) (adds_more (omega arith) (adds_nothing old))

  pub args_first : (v : tree.Expr) (vs ws : List tree.Expr) (line cell : ℕ) (x : Shape) (old new : Draft) → vs ≡ v ∷ ws → Adds (OPS_FOR_SIZE * expr_size v + 3) (StartCode line old.marks cell (Some (converted x (value_of (meant (context_in program old) v))))) old new → Adds (OPS_FOR_SIZE * exprs_size (exprs_of vs) + 3) (StartCode line old.marks cell (first_value (context_in program old) x (exprs_of vs))) old new
  args_first v vs ws line cell x old new e h = subst (λ (l : List tree.Expr). Adds (OPS_FOR_SIZE * exprs_size (exprs_of l) + 3) (StartCode line old.marks cell (first_value (context_in program old) x (exprs_of l))) old new) (sym e) (adds_more (omega arith) h)

  pub args_at : (v : tree.Expr) (vs : List tree.Expr) (line cell : ℕ) (x : Shape) (old new : Draft) → Some v ≡ slice_get vs 0 → Adds (OPS_FOR_SIZE * expr_size v + 3) (StartCode line old.marks cell (Some (converted x (value_of (meant (context_in program old) v))))) old new → Adds (OPS_FOR_SIZE * exprs_size (exprs_of vs) + 3) (StartCode line old.marks cell (first_value (context_in program old) x (exprs_of vs))) old new
  args_at v [] line cell x old new e h = cc
  args_at v (w ∷ ws) line cell x old new e h = let i : w ≡ v = cc in args_first v (w ∷ ws) ws line cell x old new (ap (λ (y : tree.Expr). y ∷ ws) i) h

  pub args_end : (vs : List tree.Expr) (line cell : ℕ) (x : Shape) (old : Draft) → None ≡ slice_get vs 0 → Adds (OPS_FOR_SIZE * exprs_size (exprs_of vs) + 3) (StartCode line old.marks cell (first_value (context_in program old) x (exprs_of vs))) old old
  args_end [] line cell x old e = args_none [] line cell x old refl
  args_end (w ∷ ws) line cell x old e = cc

-- a cap that is not reached
pub uncapped : (n x : ℕ) → x ≡ capped n → n ≤ FRAME_CELLS → x ≡ n
uncapped n x e h = e ∙ below
  where
    below : capped n ≡ n
    below = omega arith

-- a variable that is cleared and started, and then declared
pub arm_declared : (p : Program) (b : Base) (d : Declarator) (line cell cells : ℕ) (name : List ℕ) (ty : Ty) (x : Shape) (st : Start) (d0 d1 d2 new : Draft)
    → cell ≡ d0.cells → cells ≡ declared_cells p b d → x ≡ shape_of b → st ≡ d.start → name ≡ d.name → ty ≡ declared_type p b d
    → Adds 1 (OpCode line (op.Clear cell cells)) d0 d1 → Adds (OPS_FOR_SIZE * start_size st + 3) (StartCode line d1.marks cell (start_meant (context_in p d1) x st)) d1 d2
    → new ≡ record d2 { names = d2.names ++ record { name = name; ty = ty; cell = d2.cells } ∷ []; cells = d2.cells + cells }
    → Lowers 0 (OPS_FOR_SIZE * declarator_size d) 0 (declared_cells p b d) 0 (VariablesCode line d0.marks (declared_meant p (scope_of d0) b d ∷ [])) (with_declared p (scope_of d0) b d) d0 new
arm_declared p b d line cell cells name ty x st d0 d1 d2 new le ce xe se ne te h g e =
    subst (λ (y : Draft). Lowers 0 (OPS_FOR_SIZE * declarator_size d) 0 (declared_cells p b d) 0 (VariablesCode line d0.marks (declared_meant p (scope_of d0) b d ∷ [])) (with_declared p (scope_of d0) b d) d0 y) (sym (e ∙ f)) (record {
      rest = refl;
      scope = refl;
      opened = omega arith;
      kept = all.kept;
      rows = fit_ops refl refl all.kept.longer;
      room = let r = all.room in omega arith;
      texts = omega arith;
      cells = omega arith;
      code = record {
        middle = all.code.middle;
        first = all.code.first;
        second = record { middle = length d2.ops; first = all.code.second; second = record { end = refl } };
      };
    })
  where
    known : LocalVariable
    known = declared_known p (scope_of d0) b d

    h1 : Adds 1 (OpCode line (op.Clear d0.cells (declared_cells p b d))) d0 d1
    h1 = subst (λ (y : ℕ). Adds 1 (OpCode line (op.Clear d0.cells y)) d0 d1) ce (subst (λ (y : ℕ). Adds 1 (OpCode line (op.Clear y cells)) d0 d1) le h)

    g1 : Adds (OPS_FOR_SIZE * start_size d.start + 3) (StartCode line d0.marks d0.cells (start_meant (context_in p d0) (shape_of b) d.start)) d1 d2
    g1 = subst (λ (y : Shape). Adds (OPS_FOR_SIZE * start_size d.start + 3) (StartCode line d0.marks d0.cells (start_meant (context_in p d0) y d.start)) d1 d2) xe (
        subst (λ (y : Draft). Adds (OPS_FOR_SIZE * start_size d.start + 3) (StartCode line y.marks d0.cells (start_meant (context_in p y) x d.start)) d1 d2) h.rest (
        subst (λ (y : Start). Adds (OPS_FOR_SIZE * start_size y + 3) (StartCode line d1.marks d0.cells (start_meant (context_in p d1) x y)) d1 d2) se (
        subst (λ (y : ℕ). Adds (OPS_FOR_SIZE * start_size st + 3) (StartCode line d1.marks y (start_meant (context_in p d1) x st)) d1 d2) le g)))

    joined : Adds (1 + (OPS_FOR_SIZE * start_size d.start + 3)) (λ code. Both (One code (op.Clear d0.cells (declared_cells p b d)) line) (StartAt code line d0.marks d0.cells (start_meant (context_in p d0) (shape_of b) d.start))) d0 d2
    joined = adds_both (one_stable (op.Clear d0.cells (declared_cells p b d)) line) h1 g1

    all : Adds (1 + (OPS_FOR_SIZE * start_size d.start + 3)) (λ code. Both (One code (op.Clear d0.cells (declared_cells p b d)) line) (StartAt code line d0.marks d0.cells (start_meant (context_in p d0) (shape_of b) d.start))) d0 (record d0 { ops = d2.ops })
    all = subst (λ (y : Draft). Adds (1 + (OPS_FOR_SIZE * start_size d.start + 3)) (λ code. Both (One code (op.Clear d0.cells (declared_cells p b d)) line) (StartAt code line d0.marks d0.cells (start_meant (context_in p d0) (shape_of b) d.start))) d0 y) joined.rest joined

    f : record d2 { names = d2.names ++ record { name = name; ty = ty; cell = d2.cells } ∷ []; cells = d2.cells + cells } ≡ record d0 { ops = d2.ops; names = d0.names ++ declared_known p (scope_of d0) b d ∷ []; cells = d0.cells + declared_cells p b d }
    f = ap (λ (y : Draft). let z : Draft = record y { ops = d2.ops; names = y.names ++ record { name = name; ty = ty; cell = y.cells } ∷ []; cells = y.cells + cells } in z) joined.rest
        ∙ ap (λ (y : List ℕ). let z : Draft = record d0 { ops = d2.ops; names = d0.names ++ record { name = y; ty = ty; cell = d0.cells } ∷ []; cells = d0.cells + cells } in z) ne
        ∙ ap (λ (y : Ty). let z : Draft = record d0 { ops = d2.ops; names = d0.names ++ record { name = d.name; ty = y; cell = d0.cells } ∷ []; cells = d0.cells + cells } in z) te
        ∙ ap (λ (y : ℕ). let z : Draft = record d0 { ops = d2.ops; names = d0.names ++ declared_known p (scope_of d0) b d ∷ []; cells = d0.cells + y } in z) ce

-- lists of declarators

variables_push : (p : Program) (b : Base) (line : ℕ) (ms : List CodeMark) (code : Laid) (xs : List Declarator) (x : Declarator) (s : Scope) (a y z : ℕ) → VariablesAt code line ms (all_declared p s b xs) a y → VariablesAt code line ms (declared_meant p (with_all p s b xs) b x ∷ []) y z → VariablesAt code line ms (all_declared p s b (xs ++ x ∷ [])) a z
variables_push p b line ms code [] x s a y z h g = subst (λ w. VariablesAt code line ms (declared_meant p s b x ∷ []) w z) h.end g
variables_push p b line ms code (d ∷ ds) x s a y z h g = record {
  middle = h.middle;
  first = h.first;
  second = record {
    middle = h.second.middle;
    first = h.second.first;
    second = variables_push p b line ms code ds x (with_declared p s b d) h.second.middle y z h.second.second g;
  };
}

with_push : (p : Program) (b : Base) (xs : List Declarator) (x : Declarator) (s : Scope) → with_declared p (with_all p s b xs) b x ≡ with_all p s b (xs ++ x ∷ [])
with_push p b [] x s = refl
with_push p b (d ∷ ds) x s = with_push p b ds x (with_declared p s b d)

sizes_push : (xs : List Declarator) (x : Declarator) → declarators_size (xs ++ x ∷ []) ≡ declarators_size xs + declarator_size x
sizes_push [] x = omega arith
sizes_push (d ∷ ds) x = omega (arith, sizes_push ds x)

cells_push : (f : Declarator → ℕ) (xs : List Declarator) (x : Declarator) → declarators_cells f (xs ++ x ∷ []) ≡ declarators_cells f xs + f x
cells_push f [] x = omega arith
cells_push f (d ∷ ds) x = omega (arith, cells_push f ds x)

pub declarators_fit : (f : Declarator → ℕ) (xs : List Declarator) (i : ℕ) (x : Declarator) → i < length xs → x ≡ get_or xs i x → (declarators_size (take i xs) + declarator_size x ≤ declarators_size xs) × (declarators_cells f (take i xs) + f x ≤ declarators_cells f xs)
declarators_fit f [] i x h e = absurd (omega arith)
declarators_fit f (y ∷ ys) zero x h e = let a : declarator_size x ≡ declarator_size y = ap declarator_size e in let b : f x ≡ f y = ap f e in (omega arith, omega arith)
declarators_fit f (y ∷ ys) (suc i) x h e = let r = declarators_fit f ys i x (omega arith) e in let q = r.0 in let w = r.1 in (omega arith, omega arith)

pub declarators_step : (p : Program) (b : Base) (xs : List Declarator) (i : ℕ) (x : Declarator) (line : ℕ) (old mid new : Draft) → i < length xs → x ≡ get_or xs i x
    → Lowers 0 (OPS_FOR_SIZE * declarators_size (take i xs)) 0 (declarators_cells (declared_cells p b) (take i xs)) 0 (VariablesCode line old.marks (all_declared p (scope_of old) b (take i xs))) (with_all p (scope_of old) b (take i xs)) old mid
    → Lowers 0 (OPS_FOR_SIZE * declarator_size x) 0 (declared_cells p b x) 0 (VariablesCode line mid.marks (declared_meant p (scope_of mid) b x ∷ [])) (with_declared p (scope_of mid) b x) mid new
    → Lowers 0 (OPS_FOR_SIZE * declarators_size (take (i + 1) xs)) 0 (declarators_cells (declared_cells p b) (take (i + 1) xs)) 0 (VariablesCode line old.marks (all_declared p (scope_of old) b (take (i + 1) xs))) (with_all p (scope_of old) b (take (i + 1) xs)) old new
declarators_step p b xs i x line old mid new h e g k =
    let ys : List Declarator = take i xs in
    let s : Scope = scope_of old in
    let split : ys ++ x ∷ [] ≡ take (i + 1) xs = ap (λ (y : Declarator). ys ++ y ∷ []) e ∙ sym (take_more xs i x h) in
    let k0 : Lowers 0 (OPS_FOR_SIZE * declarator_size x) 0 (declared_cells p b x) 0 (VariablesCode line old.marks (declared_meant p (scope_of mid) b x ∷ [])) (with_declared p (scope_of mid) b x) mid new =
    subst (λ (l : List CodeMark). Lowers 0 (OPS_FOR_SIZE * declarator_size x) 0 (declared_cells p b x) 0 (VariablesCode line l (declared_meant p (scope_of mid) b x ∷ [])) (with_declared p (scope_of mid) b x) mid new) (ap (λ (d : Draft). d.marks) g.rest) k in
    let k1 : Lowers 0 (OPS_FOR_SIZE * declarator_size x) 0 (declared_cells p b x) 0 (VariablesCode line old.marks (declared_meant p (with_all p s b ys) b x ∷ [])) (with_declared p (with_all p s b ys) b x) mid new =
    subst (λ (t : Scope). Lowers 0 (OPS_FOR_SIZE * declarator_size x) 0 (declared_cells p b x) 0 (VariablesCode line old.marks (declared_meant p t b x ∷ [])) (with_declared p t b x) mid new) g.scope k0 in
    subst (λ (zs : List Declarator). Lowers 0 (OPS_FOR_SIZE * declarators_size zs) 0 (declarators_cells (declared_cells p b) zs) 0 (VariablesCode line old.marks (all_declared p s b zs)) (with_all p s b zs) old new) split (
    lowers_as (lowers_join (variables_stable line old.marks (all_declared p s b ys)) g k1) (with_push p b ys x s) (λ code a z w. variables_push p b line old.marks code ys x s a w.middle z w.first w.second)
    (omega (arith, sizes_push ys x)) (omega arith) (omega (arith, cells_push (declared_cells p b) ys x)) (omega arith))
