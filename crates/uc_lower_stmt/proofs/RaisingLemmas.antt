-- The code of statements that raise events, as it is added to a draft.
use Rattle.std.proofs.Common.{◌≡◌, ℕ, ◌+◌, ◌-◌, ◌*◌, List, Option, Some, None, length, refl, ap, sym, subst, ◌∙◌, arith}
use Rattle.uc_tree.specs.declared.limits.TheConstants.{OPS_FOR_SIZE}
use Rattle.uc_tree.specs.ExpressionSizes.{expr_size, exprs_size}
use Rattle.uc_tree.specs.Expressions as tree
use Rattle.uc_tree.specs.Hidden.{EVENT_FIELDS, raised_cells}
use Rattle.uc_tree.specs.Programs.{Program}
use Rattle.uc_tree.specs.declared.kinds.Param.{Param}
use Rattle.uc_resolve.specs.Resolve.{Context, Meant, Scope, args_by, args_meant, built_event, context_at, event_constructor, meant, number_of_event, params_of, raised_meant}
use Rattle.uc_tree.specs.Source as source
use Rattle.uc_tree.specs.Source.{BuiltAt, CallOn, Exprs, OfObject, Plainly, AgainFrom, Variable}
use Rattle.uc_tree.specs.declared.pos.Pos.{Pos}
use Rattle.uc_tree.specs.Statements.{Raise, RaiseAt, Raised, Stmt, Throw}
use Rattle.uc_code.specs.declared.op.Op.TheVariants as op
use Rattle.uc_code.specs.declared.rows.CodeMark.{CodeMark}
use Rattle.uc_code.specs.Drafts.{Draft}
use Rattle.uc_code.specs.Layout.{Laid, laid_in}
use Rattle.uc_code.specs.Lowered.{FieldsAt, RaisedAt}
use Rattle.uc_code.specs.Emits.{Puts}
use Rattle.uc_code.specs.CodeShapes.{Both, Kept, One, Risk}
use Rattle.uc_code.proofs.Putting.{puts_both, puts_more}
use Rattle.uc_code.proofs.Stable.{one_stable}
use Rattle.uc_lower_expr.specs.DraftGrowth.{Adds, ArgumentsCode, ExprCode, OpCode, RiskCode}
use Rattle.uc_lower_expr.specs.Contexts.{context_in}
use Rattle.uc_lower_expr.proofs.Adding.{adds_both}
use Rattle.uc_lower_expr.proofs.Settled.{args_stable, expr_stable}
use Rattle.uc_lower_stmt.specs.Raising.{LowersRaise, LowersRaiseAt, LowersRaised, hidden_past}
use Rattle.uc_lower_stmt.specs.LowersStatement.{Lowers, LowersStmt, scope_of}
use Rattle.uc_lower_stmt.proofs.Counted.{counted, counted_as}
use Rattle.uc_lower_stmt.proofs.Stating.{as_stmt}
use Rattle.uc_lower_stmt.proofs.Joined.{lowers_adds, lowers_as, lowers_join, lowers_puts, puts_adds}
use Rattle.uc_lower_stmt.proofs.Kept.{raised_stable}
use Rattle.uc_lower_stmt.specs.RowFit.{open_rows}
use Rattle.uc_lower_stmt.proofs.RowFitting.{fit_like, fit_none}

-- an event whose constructor is written

abbrev built_at : Program → List Param → tree.Exprs → ℕ → ℕ → ℕ → Draft → source.Raised
built_at p ps es event r cell d = BuiltAt event cell (OfObject (CallOn r (Variable cell) (args_by ps (args_meant (context_in p d) es))))

adds_marks : {n : ℕ} {S : Laid → ℕ → ℕ → Type 0} {old new : Draft} → Adds n S old new → new.marks ≡ old.marks
adds_marks h = ap (λ (d : Draft). d.marks) h.rest

pub built_raised : (p : Program) (line event r cell n : ℕ) (ps : List Param) (es : tree.Exprs) (d0 d1 d2 d3 d4 d5 d6 : Draft) → ps ≡ params_of p r
    → Adds 1 (OpCode line (op.Clear cell EVENT_FIELDS)) d0 d1 → Adds 1 (OpCode line (op.Local cell)) d1 d2 → Adds n (ArgumentsCode line d2.marks (args_by ps (args_meant (context_in p d2) es))) d2 d3
    → Adds 1 (OpCode line op.Tick) d3 d4 → Adds 1 (RiskCode line d4.marks (op.CallOn r)) d4 d5 → Puts 0 4 (λ code. FieldsAt code line event cell) d5 d6
    → Puts 0 (n + 8) (λ code. RaisedAt code line d0.marks (built_at p (params_of p r) es event r cell d0)) d0 d6
built_raised p line event r cell n ps es d0 d1 d2 d3 d4 d5 d6 pe a1 a2 a3 a4 a5 b =
    let e2 : d2 ≡ record d0 { ops = d2.ops } = a2.rest ∙ ap (λ (x : Draft). let y : Draft = record x { ops = d2.ops } in y) a1.rest in
    let args : Exprs = args_by ps (args_meant (context_in p d0) es) in
    let c3 : Adds n (ArgumentsCode line d0.marks args) d2 d3 = subst (λ (d : Draft). Adds n (ArgumentsCode line d.marks (args_by ps (args_meant (context_in p d) es))) d2 d3) e2 a3 in
    let m4 : d4.marks ≡ d0.marks = adds_marks a4 ∙ adds_marks a3 ∙ adds_marks a2 ∙ adds_marks a1 in
    let c5 : Adds 1 (RiskCode line d0.marks (op.CallOn r)) d4 d5 = subst (λ (ms : List CodeMark). Adds 1 (RiskCode line ms (op.CallOn r)) d4 d5) m4 a5 in
    let call = adds_both (one_stable (op.Local cell) line) a2 (adds_both (args_stable line d0.marks args) c3 (adds_both (one_stable op.Tick line) a4 c5)) in
    subst (λ (xs : List Param). Puts 0 (n + 8) (λ code. RaisedAt code line d0.marks (built_at p xs es event r cell d0)) d0 d6) pe
    (puts_more (omega arith) (puts_both (one_stable (op.Clear cell EVENT_FIELDS) line) (puts_adds a1) (puts_both (expr_stable line d0.marks (OfObject (CallOn r (Variable cell) args))) (puts_adds call) b)))

-- behind so many hidden cells more
raised_puts : {n : ℕ} {S : Laid → ℕ → ℕ → Type 0} {d0 d1 d2 : Draft} → (h : ℕ) → d1 ≡ record d0 { hidden = d0.hidden + h } → Puts 0 n S d1 d2 → Lowers 0 n 0 0 0 S (hidden_past (scope_of d0) h) d0 d2
raised_puts {n} {S} {d0} {d1} {d2} h e w =
    let is : d2 ≡ record d0 { ops = d2.ops; rows = d2.rows; settled = d2.settled; hidden = d0.hidden + h } = w.rest ∙ ap (λ (x : Draft). let y : Draft = record x { ops = d2.ops; rows = d2.rows; settled = d2.settled } in y) e in
    let long : length d1.ops ≡ length d0.ops = ap (λ (d : Draft). length d.ops) e in
    record {
      rest = subst (λ (d : Draft). d ≡ record d0 { ops = d.ops; rows = d.rows; settled = d.settled; scopes = d.scopes; names = d.names; cells = d.cells; hidden = d.hidden; texts = d.texts; sites = d.sites }) (sym is) refl;
      scope = ap scope_of is;
      opened = let x : d2.scopes ≡ d0.scopes = ap (λ (d : Draft). d.scopes) is in omega arith;
      kept = subst (λ (d : Draft). Kept (laid_in d) (laid_in d2)) e w.kept;
      rows = fit_like d0 d2 (sym (ap (λ (d : Draft). d.rows) e)) (sym long) (sym (ap (λ (d : Draft). open_rows d.marks) e)) refl refl refl (fit_none w);
      room = let x = w.room in omega arith;
      texts = let x : d2.texts ≡ d0.texts = ap (λ (d : Draft). d.texts) is in omega arith;
      cells = let x : d2.cells ≡ d0.cells = ap (λ (d : Draft). d.cells) is in omega arith;
      code = subst (λ (a : ℕ). S (laid_in d2) a (length d2.ops)) long w.code;
    }

module _ (p : Program) (line event cell : ℕ) (r : Raised) (d0 d1 d2 : Draft) (ev : event ≡ number_of_event p r.name) (ce : cell ≡ d0.hidden) (e : d1 ≡ record d0 { hidden = d0.hidden + EVENT_FIELDS }) where
  abbrev s : Scope
  s = scope_of d0

  abbrev args : List Meant
  args = args_meant (context_at p s) r.args

  abbrev What : ℕ → source.Raised → Type 0
  What n what = Puts 0 n (λ code. RaisedAt code line d0.marks what) d1 d2

  means : (n : ℕ) (o : Option ℕ) → event_constructor p r.name ≡ o → What n (built_event p s event o args) → What n (raised_meant p s (Some r))
  means n o is h =
      subst (λ (x : Option ℕ). What n (built_event p s (number_of_event p r.name) x args)) (sym is) (subst (λ (m : ℕ). What n (built_event p s m o args)) ev h)

  pub arm_plain : event_constructor p r.name ≡ None → Puts 0 3 (λ code. RaisedAt code line d1.marks (Plainly event)) d1 d2 → LowersRaised p line (Some r) d0 d2
  arm_plain none w =
      let here : What 3 (Plainly event) = subst (λ (ms : List CodeMark). Puts 0 3 (λ code. RaisedAt code line ms (Plainly event)) d1 d2) (ap (λ (d : Draft). d.marks) e) w in
      lowers_as (raised_puts EVENT_FIELDS e (means 3 None none here)) refl (λ code a z x. x) (omega arith) (omega arith) (omega arith) refl

  pub arm_built : (routine : ℕ) (es : tree.Exprs) → es ≡ r.args → event_constructor p r.name ≡ Some routine → Puts 0 (OPS_FOR_SIZE * exprs_size es + 8) (λ code. RaisedAt code line d1.marks (built_at p (params_of p routine) es event routine cell d1)) d1 d2 → LowersRaised p line (Some r) d0 d2
  arm_built routine es ae is w =
      let n : ℕ = OPS_FOR_SIZE * exprs_size r.args + 8 in
      let over : Puts 0 n (λ code. RaisedAt code line d1.marks (built_at p (params_of p routine) r.args event routine cell d1)) d1 d2 =
      subst (λ (xs : tree.Exprs). Puts 0 (OPS_FOR_SIZE * exprs_size xs + 8) (λ code. RaisedAt code line d1.marks (built_at p (params_of p routine) xs event routine cell d1)) d1 d2) ae w in
      let here : What n (built_at p (params_of p routine) r.args event routine cell d0) = subst (λ (d : Draft). Puts 0 n (λ code. RaisedAt code line d.marks (built_at p (params_of p routine) r.args event routine cell d)) d1 d2) e over in
      let there : What n (built_at p (params_of p routine) r.args event routine d0.hidden d0) = subst (λ (c : ℕ). What n (built_at p (params_of p routine) r.args event routine c d0)) ce here in
      lowers_as (raised_puts EVENT_FIELDS e (means n (Some routine) is there)) refl (λ code a z x. x) (omega arith) (omega arith) (omega arith) refl

-- again the event that is handled
pub arm_again : (p : Program) (line : ℕ) (r : Option Raised) (cell : ℕ) (d0 d1 : Draft) → r ≡ None → cell ≡ d0.handled → Puts 0 3 (λ code. RaisedAt code line d0.marks (AgainFrom cell)) d0 d1 → LowersRaised p line r d0 d1
arm_again p line r cell d0 d1 is e w =
    let here : Puts 0 3 (λ code. RaisedAt code line d0.marks (AgainFrom d0.handled)) d0 d1 = subst (λ (c : ℕ). Puts 0 3 (λ code. RaisedAt code line d0.marks (AgainFrom c)) d0 d1) e w in
    let none : d0.hidden ≡ d0.hidden + 0 = omega arith in
    subst (λ (o : Option Raised). LowersRaised p line o d0 d1) (sym is) (lowers_as (lowers_puts 0 0 here) (ap (λ (n : ℕ). let t : Scope = record (scope_of d0) { hidden = n } in t) none) (λ code a z x. x) (omega arith) (omega arith) (omega arith) refl)

-- the statements

pub arm_throw : (p : Program) (line : ℕ) (r : Option Raised) (d0 d1 d2 : Draft) → LowersRaised p line r d0 d1 → Puts 0 1 (λ code. Risk code d1.marks op.Throw line) d1 d2 → LowersRaise p (source.Throw line (raised_meant p (scope_of d0) r)) r d0 d2
arm_throw p line r d0 d1 d2 h w =
    let here : Puts 0 1 (λ code. Risk code d0.marks op.Throw line) d1 d2 = subst (λ (ms : List CodeMark). Puts 0 1 (λ code. Risk code ms op.Throw line) d1 d2) (ap (λ (d : Draft). d.marks) h.rest) w in
    lowers_as (lowers_join (raised_stable line d0.marks (raised_meant p (scope_of d0) r)) h (lowers_puts 0 0 here)) h.scope (λ code a z x. x) (omega arith) (omega arith) (omega arith) refl

pub arm_raise : (p : Program) (line : ℕ) (r : Option Raised) (d0 d1 d2 : Draft) → LowersRaised p line r d0 d1 → Puts 0 2 (λ code. Both (Risk code d1.marks op.Raise line) (One code op.Discard line)) d1 d2 → LowersRaise p (source.Raise line (raised_meant p (scope_of d0) r)) r d0 d2
arm_raise p line r d0 d1 d2 h w =
    let here : Puts 0 2 (λ code. Both (Risk code d0.marks op.Raise line) (One code op.Discard line)) d1 d2 = subst (λ (ms : List CodeMark). Puts 0 2 (λ code. Both (Risk code ms op.Raise line) (One code op.Discard line)) d1 d2) (ap (λ (d : Draft). d.marks) h.rest) w in
    lowers_as (lowers_join (raised_stable line d0.marks (raised_meant p (scope_of d0) r)) h (lowers_puts 0 0 here)) h.scope (λ code a z x. x) (omega arith) (omega arith) (omega arith) refl

-- behind the event stands its target
pub arm_raise_at : (p : Program) (line : ℕ) (r : Raised) (e : tree.Expr) (d0 d1 d2 d3 : Draft) → LowersRaised p line (Some r) d0 d1 → Adds (OPS_FOR_SIZE * expr_size e - 2) (ExprCode line d1.marks (meant (context_in p d1) e).expr) d1 d2 → Adds 1 (OpCode line op.RaiseAt) d2 d3 → LowersRaiseAt p line r e d0 d3
arm_raise_at p line r e d0 d1 d2 d3 h a b =
    let s : Scope = scope_of d0 in
    let marks : d1.marks ≡ d0.marks = ap (λ (d : Draft). d.marks) h.rest in
    let same : context_in p d1 ≡ context_at p s = ap (λ (t : Scope). context_at p t) h.scope in
    let target : source.Expr = (meant (context_at p s) e).expr in
    let a1 : Adds (OPS_FOR_SIZE * expr_size e - 2) (ExprCode line d0.marks target) d1 d2 =
    subst (λ (c : Context). Adds (OPS_FOR_SIZE * expr_size e - 2) (ExprCode line d0.marks (meant c e).expr) d1 d2) same (
    subst (λ (ms : List CodeMark). Adds (OPS_FOR_SIZE * expr_size e - 2) (ExprCode line ms (meant (context_in p d1) e).expr) d1 d2) marks a) in
    let all = lowers_join (raised_stable line d0.marks (raised_meant p s (Some r))) h (lowers_adds 0 0 (adds_both (expr_stable line d0.marks target) a1 b)) in
    let scope : scope_of d3 ≡ hidden_past s EVENT_FIELDS = ap scope_of b.rest ∙ ap scope_of a.rest ∙ h.scope in
    lowers_as all (sym all.scope ∙ scope) (λ code x z w. w) (omega arith) (omega arith) (omega arith) refl

raise_counted : (s : Scope) (n : ℕ) → hidden_past s n ≡ counted s s.names (s.cells + 0) (s.hidden + n) (s.texts + 0) (s.sites + 0)
raise_counted s n =
    let c : s.cells ≡ s.cells + 0 = omega arith in
    let t : s.texts ≡ s.texts + 0 = omega arith in
    let x : s.sites ≡ s.sites + 0 = omega arith in
    counted_as s s.names s.cells (s.cells + 0) (s.hidden + n) (s.hidden + n) s.texts (s.texts + 0) s.sites (s.sites + 0) c refl t x

pub arm_thrown : (p : Program) (s : Stmt) (place : Pos) (r : Option Raised) (old new : Draft) → Throw place r ≡ s → LowersRaise p (source.Throw place.line (raised_meant p (scope_of old) r)) r old new → LowersStmt p s old new
arm_thrown p s place r old new e h = as_stmt p s (Throw place r) old new e (lowers_as h (raise_counted (scope_of old) (raised_cells r)) (λ code a z x. x) (omega arith) (omega arith) (omega arith) (omega arith))

pub arm_resumed : (p : Program) (s : Stmt) (place : Pos) (r : Option Raised) (old new : Draft) → Raise place r ≡ s → LowersRaise p (source.Raise place.line (raised_meant p (scope_of old) r)) r old new → LowersStmt p s old new
arm_resumed p s place r old new e h = as_stmt p s (Raise place r) old new e (lowers_as h (raise_counted (scope_of old) (raised_cells r)) (λ code a z x. x) (omega arith) (omega arith) (omega arith) (omega arith))

pub arm_raised_at : (p : Program) (s : Stmt) (place : Pos) (r : Raised) (e : tree.Expr) (old new : Draft) → RaiseAt place r e ≡ s → LowersRaiseAt p place.line r e old new → LowersStmt p s old new
arm_raised_at p s place r e old new h a = as_stmt p s (RaiseAt place r e) old new h (lowers_as a (raise_counted (scope_of old) EVENT_FIELDS) (λ code x z w. w) (omega arith) (omega arith) (omega arith) (omega arith))
