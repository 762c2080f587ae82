-- Declarations of objects in a block: each object is built, and its scope is open from then on.
use Rattle.std.proofs.Common.{◌≡◌, ℕ, ◌+◌, ◌*◌, ◌≤◌, ◌<◌, List, [], ◌∷◌, ◌++◌, Option, Some, None, false, length, length-append, take, get_or, refl, ap, sym, subst, ◌∙◌, arith}
use Rattle.std.proofs.Common.{take_all}
use Rattle.std.proofs.lemmas.List.{take_more}
use Rattle.uc_tree.specs.declared.limits.TheConstants.{OPS_FOR_SIZE}
use Rattle.uc_tree.specs.declared.kinds.Base.{Base}
use Rattle.uc_tree.specs.declared.kinds.Role.{Role}
use Rattle.uc_tree.specs.declared.kinds.Role.TheVariants as role
use Rattle.uc_tree.specs.Expressions as tree
use Rattle.uc_tree.specs.Expressions.{exprs_of}
use Rattle.uc_tree.specs.ExpressionSizes.{exprs_size}
use Rattle.uc_tree.specs.Statements.{Start, NoStart, StartValue, StartArgs, Declarator}
use Rattle.uc_tree.specs.StatementSizes.{maybe_expr_size, start_size, declarator_size, declarators_size}
use Rattle.uc_tree.specs.Cells.{declared_cells, declarators_cells}
use Rattle.uc_tree.specs.Numbering.{routines_of}
use Rattle.uc_tree.specs.Programs.{Program}
use Rattle.uc_tree.specs.Objects.{Making, written_at}
use Rattle.uc_tree.specs.Source.{Expr, Variable, CleanUp, Stmt, Stmts, Declare}
use Rattle.uc_resolve.specs.Resolve.{Scope, Context, Meant, args_meant, context_at, length_of, start_args, declared_known, with_declared, with_all, object_scoped, objects_scoped, build, clean_up}
use Rattle.uc_code.specs.declared.op.Op.TheVariants as op
use Rattle.uc_code.specs.declared.rows.Array.{Array}
use Rattle.uc_code.specs.declared.rows.Manner.{Manner}
use Rattle.uc_code.specs.declared.rows.CodeMark.{CodeMark}
use Rattle.uc_code.specs.declared.rows.CodeMark.TheVariants as mark
use Rattle.uc_code.specs.declared.rows.Cleaning.{Cleaning}
use Rattle.uc_code.specs.declared.rows.Cleaning.TheVariants as cleaning
use Rattle.uc_code.specs.declared.rows.Opening.TheVariants as opening
use Rattle.uc_code.specs.declared.rows.ObjectSpot.{ObjectSpot}
use Rattle.uc_code.specs.declared.rows.ObjectSpot.TheVariants.{Local}
use Rattle.uc_code.specs.Drafts.{Draft}
use Rattle.uc_code.specs.Layout.{Laid, laid_in, routine_in}
use Rattle.uc_code.specs.ObjectCalls.{BeginsAt, InFrame, Cleans, One as CleansOne, All, TakesDown, IsForgotten, Left, Ended, Freed, Restored}
use Rattle.uc_code.specs.OpenRows.{StandsBehind, CleansBehind, opened}
use Rattle.uc_code.specs.Emits.{Puts}
use Rattle.uc_code.specs.CodeShapes.{One, Kept}
use Rattle.uc_code.specs.Lowered.{StmtAt}
use Rattle.uc_code.proofs.Stable.{kept_then, kept_piece, one_stable}
use Rattle.uc_lower_expr.specs.DraftGrowth.{Adds, OpCode}
use Rattle.uc_lower_expr.specs.Contexts.{context_in}
use Rattle.uc_lower_expr.specs.declared.making.Made.{Made}
use Rattle.uc_lower_expr.specs.declared.making.Made.TheVariants as made
use Rattle.uc_lower_expr.specs.Members.{made_routine, routine_by}
use Rattle.uc_lower_stmt.specs.Blocks.{AllStandBehind, started_args}
use Rattle.uc_lower_expr.proofs.Walks.{some_size}
use Rattle.uc_lower_stmt.specs.Marked.{calls_in, close_room, counted_by}
use Rattle.uc_lower_stmt.specs.Objects.{build_room, build_rows, call_by, destroyer_of, ended_by}
use Rattle.uc_lower_stmt.specs.OpenScopes.{Does, Opens, NoCall, Begins, Done, Opened, Lays}
use Rattle.uc_lower_stmt.specs.LowersStatement.{scope_of}
use Rattle.uc_lower_stmt.proofs.Kept.{stmt_stable}
use Rattle.uc_lower_stmt.proofs.Laying.{lays_as, lays_join, lays_nothing}
use Rattle.uc_code.proofs.Putting.{done_stable}
use Rattle.uc_lower_stmt.specs.RowFit.{open_rows}
use Rattle.uc_lower_stmt.proofs.Filling.{built_stable}
use Rattle.uc_lower_stmt.proofs.RowFitting.{fit_adds, fit_like, fit_opened, fit_puts, fit_then, fit_count}
use Rattle.uc_lower_stmt.specs.SourceRows.{stmt_rows}
use Rattle.uc_code.specs.RowCounts.{loop_rows, return_rows}

-- routines that nobody wrote stand behind all others

behind_by : (p : Program) (i n : ℕ) (wanted : Role) (w : Option ℕ) → n < length (routines_of p) → (routine_by p i wanted w).written ≡ false → n < (routine_by p i wanted w).number
behind_by p i n wanted None l e = omega arith
behind_by p i n wanted (Some r) l e = absurd (cc)

made_behind : (p : Program) (n : ℕ) (wanted : Role) (m : Made) → n < length (routines_of p) → (made_routine p wanted m).written ≡ false → n < (made_routine p wanted m).number
made_behind p n wanted (made.Object i) l e = behind_by p i n wanted (written_at p i wanted) l e
made_behind p n wanted made.Cluster l e = absurd (cc)
made_behind p n wanted made.Processor l e = absurd (cc)

pub all_behind : (p : Program) (m : Made) (ms : List CodeMark) → routine_in ms < length (routines_of p) → AllStandBehind p m ms
all_behind p m ms l = record { each = λ wanted e. made_behind p (routine_in ms) wanted m l e }

pub behind_of : (p : Program) (m : Made) (wanted : Role) (how : Manner) (spot : ObjectSpot) (array : Option Array) (ms ns : List CodeMark) → AllStandBehind p m ms → ns ≡ ms → StandsBehind ns (call_by (made_routine p wanted m) how spot array)
behind_of p m wanted how spot array ms ns b e = record { behind = λ f. subst (λ (l : List CodeMark). routine_in l < (made_routine p wanted m).number) (sym e) (b.each wanted f) }

pub behind_call : (p : Program) (m : Made) (spot : ObjectSpot) (array : Option Array) (what : Cleaning) (ms ns : List CodeMark) → what ≡ cleaning.Call (destroyer_of p m spot array) → AllStandBehind p m ms → ns ≡ ms → CleansBehind ns what
behind_call p m spot array what ms ns w b e = subst (λ (x : Cleaning). CleansBehind ns x) (sym w) (behind_of p m role.Destructor (ended_by p m) spot array ms ns b e)

pub behind_next : (p : Program) (m : Made) (ms ns : List CodeMark) → AllStandBehind p m ms → routine_in ns ≡ routine_in ms → AllStandBehind p m ns
behind_next p m ms ns b e = record { each = λ wanted f. let l = b.each wanted f in omega (arith, e) }

-- arguments

args_same : (p : Program) (s : Scope) (st : Start) → started_args (context_at p s) st ≡ start_args p s st
args_same p s NoStart = refl
args_same p s (StartValue e) = refl
args_same p s (StartArgs es) = refl

-- an object, or an array, whose length counts, fits what is reckoned for it

length_counts : (p : Program) (d : Declarator) (e : Option tree.Expr) → build_room (length_of p d e) + 49 ≤ OPS_FOR_SIZE * (1 + maybe_expr_size e)
length_counts p d None = omega arith
length_counts p d (Some e) = let h = some_size e in omega arith

pub no_call : (p : Program) (m : Making) (length : Option ℕ) (place : Expr) → NoCall (clean_up p m length place)
no_call p m None place = tt
no_call p m (Some n) place = tt

-- what cleans it up counts as an object in scope
pub counts_one : (c : CleanUp) (what : Cleaning) (calls : ℕ) → Cleans c what → NoCall c → counted_by what calls ≡ 1
counts_one c what calls (CleansOne e w k n) x = refl
counts_one c what calls (All n size e w k m) x = refl
counts_one c what calls TakesDown x = refl
counts_one c what calls IsForgotten x = refl
counts_one c what calls Left x = absurd x
counts_one c what calls Ended x = refl
counts_one c what calls (Freed main) x = refl
counts_one c what calls (Restored cell) x = refl

pub closes_few : (c : CleanUp) (what : Cleaning) → Cleans c what → close_room what ≤ 48
closes_few c what (CleansOne e w k n) = omega arith
closes_few c what (All n size e w k m) = omega arith
closes_few c what TakesDown = omega arith
closes_few c what IsForgotten = omega arith
closes_few c what Left = omega arith
closes_few c what Ended = omega arith
closes_few c what (Freed main) = omega arith
closes_few c what (Restored cell) = omega arith

-- what builds it has a row where it is an array
pub build_counts : (p : Program) (line : ℕ) (m : Making) (elements : Option ℕ) (place : Expr) (args : List Meant) (loop out : ℕ) → stmt_rows loop out (build p line m elements place args) ≡ build_rows elements
build_counts p line m None place args loop out = refl
build_counts p line m (Some n) place args loop out = refl

-- what builds it has more ops than rows
pub build_long : (p : Program) (line : ℕ) (m : Making) (elements : Option ℕ) (place : Expr) (args : List Meant) (code : Laid) (ms : List CodeMark) (a z : ℕ) → StmtAt code ms (build p line m elements place args) a z → build_rows elements + a ≤ z
build_long p line m None place args code ms a z h = let l = (stmt_stable ms (build p line m None place args)).rises code a z h in omega arith
build_long p line m (Some n) place args code ms a z h =
    let f = h.filled in
    let b = f.rounds.end in
    let l = f.undoes.end in
    let u = f.unwind.end in
    let r = (built_stable line h.builder (mark.Elements f.row ∷ ms)).rises code (a + 1) f.test f.rounds.turn in
    let s = (done_stable line h.destroyer (mark.Elements f.row ∷ ms)).rises code (f.test + 2) f.entry f.undoes.turn in
    omega arith

module _ (p : Program) (m : Making) (b : Base) (d : Declarator) (line block cell cells : ℕ) (elements : Option ℕ) (args : List tree.Expr) (what : Cleaning) (d0 d1 d2 d3 new : Draft)
    (le : cell ≡ d0.cells) (ce : cells ≡ declared_cells p b d) (ne : elements ≡ length_of p d d.len) (ae : (c : Context) → args_meant c (exprs_of args) ≡ started_args c d.start) (few : exprs_size (exprs_of args) ≤ start_size d.start)
    (c1 : Adds 1 (OpCode line (op.Clear cell cells)) d0 d1)
    (h2 : (place : Expr) → BeginsAt place (Local cell) → Puts (build_rows elements) (OPS_FOR_SIZE * exprs_size (exprs_of args) + build_room elements) (λ code. StmtAt code d1.marks (build p line m elements place (args_meant (context_in p d1) (exprs_of args)))) d1 d2)
    (cleans : (place : Expr) → BeginsAt place (Local cell) → Cleans (clean_up p m elements place) what)
    (o3 : d3 ≡ opened (opening.Object what block) d2) (k3 : Kept (laid_in d2) (laid_in d3))
    (e4 : new ≡ record d3 { names = d3.names ++ declared_known p (scope_of d3) b d ∷ []; cells = d3.cells + cells }) where
  abbrev s : Scope
  s = scope_of d0

  abbrev there : Expr
  there = Variable d0.cells

  abbrev place : BeginsAt (Variable cell) (Local cell)
  place = InFrame cell

  built : Puts (build_rows elements) (OPS_FOR_SIZE * exprs_size (exprs_of args) + build_room elements) (λ code. StmtAt code d1.marks (build p line m elements (Variable cell) (args_meant (context_in p d1) (exprs_of args)))) d1 d2
  built = h2 (Variable cell) place

  abbrev inner : CodeMark
  inner = mark.Clean what block (length d2.rows)

  abbrev last : Draft
  last = record d0 { ops = d2.ops; rows = d3.rows; settled = d3.settled; marks = inner ∷ d0.marks; names = d0.names ++ declared_known p s b d ∷ []; cells = d0.cells + declared_cells p b d }

  opened_is : d3 ≡ record d2 { rows = d3.rows; settled = d3.settled; marks = inner ∷ d2.marks }
  opened_is = subst (λ (x : Draft). x ≡ record d2 { rows = x.rows; settled = x.settled; marks = inner ∷ d2.marks }) (sym o3) refl

  built_is : d2 ≡ record d0 { ops = d2.ops; rows = d2.rows; settled = d2.settled }
  built_is = built.rest ∙ ap (λ (x : Draft). let y : Draft = record x { ops = d2.ops; rows = d2.rows; settled = d2.settled } in y) c1.rest

  new_is : new ≡ last
  new_is =
      e4 ∙ ap (λ (x : Draft). let y : Draft = record x { names = x.names ++ declared_known p (scope_of x) b d ∷ []; cells = x.cells + cells } in y) opened_is
      ∙ ap (λ (x : Draft). let y : Draft = record x { rows = d3.rows; settled = d3.settled; marks = inner ∷ x.marks; names = x.names ++ declared_known p (scope_of x) b d ∷ []; cells = x.cells + cells } in y) built_is
      ∙ ap (λ (x : ℕ). let y : Draft = record last { cells = d0.cells + x } in y) ce

  marks1 : d1.marks ≡ d0.marks
  marks1 = ap (λ (x : Draft). x.marks) c1.rest

  ops3 : d3.ops ≡ d2.ops
  ops3 = ap (λ (x : Draft). x.ops) opened_is

  keep2 : Kept (laid_in d2) (laid_in last)
  keep2 = subst (λ l. Kept (laid_in d2) (record { ops = l; rows = d3.rows })) ops3 k3

  keep1 : Kept (laid_in d1) (laid_in last)
  keep1 = kept_then (laid_in d1) (laid_in d2) (laid_in last) built.kept keep2

  clear_at : One (laid_in last) (op.Clear d0.cells (declared_cells p b d)) line (length d0.ops) (length d1.ops)
  clear_at =
      subst (λ (x : ℕ). One (laid_in last) (op.Clear d0.cells x) line (length d0.ops) (length d1.ops)) ce (
      subst (λ (x : ℕ). One (laid_in last) (op.Clear x cells) line (length d0.ops) (length d1.ops)) le (
      kept_piece (λ k. One k (op.Clear cell cells) line) (one_stable (op.Clear cell cells) line) (laid_in d1) (laid_in last) (length d0.ops) (length d1.ops) (omega arith) keep1 c1.code))

  declare_at : StmtAt (laid_in last) d0.marks (Declare line (record { cell = s.cells; cells = declared_cells p b d; value = None } ∷ [])) (length d0.ops) (length d1.ops)
  declare_at = record { middle = length d1.ops; first = clear_at; second = record { middle = length d1.ops; first = record { end = refl }; second = record { end = refl } } }

  args_are : args_meant (context_in p d1) (exprs_of args) ≡ start_args p s d.start
  args_are = ap (λ (x : Draft). args_meant (context_in p x) (exprs_of args)) c1.rest ∙ (ae (context_at p s) ∙ args_same p s d.start)

  abbrev builds : Stmt
  builds = build p line m (length_of p d d.len) there (start_args p s d.start)

  build_at : StmtAt (laid_in last) d0.marks builds (length d1.ops) (length d2.ops)
  build_at =
      subst (λ (x : Option ℕ). StmtAt (laid_in last) d0.marks (build p line m x there (start_args p s d.start)) (length d1.ops) (length d2.ops)) ne (
      subst (λ (x : ℕ). StmtAt (laid_in last) d0.marks (build p line m elements (Variable x) (start_args p s d.start)) (length d1.ops) (length d2.ops)) le (
      subst (λ (x : List Meant). StmtAt (laid_in last) d0.marks (build p line m elements (Variable cell) x) (length d1.ops) (length d2.ops)) args_are (
      subst (λ (ms : List CodeMark). StmtAt (laid_in last) ms (build p line m elements (Variable cell) (args_meant (context_in p d1) (exprs_of args))) (length d1.ops) (length d2.ops)) marks1 (
      kept_piece (λ k. StmtAt k d1.marks (build p line m elements (Variable cell) (args_meant (context_in p d1) (exprs_of args)))) (stmt_stable d1.marks (build p line m elements (Variable cell) (args_meant (context_in p d1) (exprs_of args))))
      (laid_in d2) (laid_in last) (length d1.ops) (length d2.ops) (omega arith) keep2 built.code))))

  cleaned : Cleans (clean_up p m (length_of p d d.len) there) what
  cleaned =
      subst (λ (x : Option ℕ). Cleans (clean_up p m x there) what) ne (
      subst (λ (x : ℕ). Cleans (clean_up p m elements (Variable x)) what) le (cleans (Variable cell) place))

  marks_last : inner ∷ d0.marks ≡ d3.marks
  marks_last = sym (ap (λ (x : Draft). x.marks) opened_is ∙ ap (λ (ms : List CodeMark). inner ∷ ms) (ap (λ (x : Draft). x.marks) built_is))

  pub arm_object : Lays (OPS_FOR_SIZE * declarator_size d) 0 (declared_cells p b d) 1 0 block (object_scoped p m line b d (scope_of d0)) (with_declared p (scope_of d0) b d) d0 new
  arm_object =
      let declares : Stmt = Declare line (record { cell = s.cells; cells = declared_cells p b d; value = None } ∷ []) in
      let c : CleanUp = clean_up p m (length_of p d d.len) there in
      subst (λ (x : Draft). Lays (OPS_FOR_SIZE * declarator_size d) 0 (declared_cells p b d) 1 0 block (object_scoped p m line b d (scope_of d0)) (with_declared p (scope_of d0) b d) d0 x) (sym new_is) (record {
        rest = refl;
        scope = refl;
        opened = omega arith;
        kept = kept_then (laid_in d0) (laid_in d1) (laid_in last) c1.kept keep1;
        rows =
            let one = fit_then built.kept.longer (fit_adds c1) (fit_puts (build_long p line m elements (Variable cell) (args_meant (context_in p d1) (exprs_of args)) (laid_in d2) d1.marks (length d1.ops) (length d2.ops) built.code) built) in
            let all = fit_then k3.longer one (fit_opened (opening.Object what block) d2 d3 o3) in
            let same : build_rows elements ≡ build_rows (length_of p d d.len) = ap build_rows ne in
            let built_rows = build_counts p line m (length_of p d d.len) there (start_args p s d.start) (loop_rows d0.marks) (return_rows d0.marks) in
            fit_count (omega (arith, same, built_rows)) (fit_like d0 last refl refl refl refl (ap length (sym ops3)) (ap open_rows marks_last) all);
        room = (let x = c1.room in let y = built.room in let z = length_counts p d d.len in let e : build_room elements ≡ build_room (length_of p d d.len) = ap build_room ne in let k = closes_few c what cleaned in omega (arith, few, e));
        texts = omega arith;
        cells = omega arith;
        objects = (let k = counts_one c what (calls_in d0.marks) cleaned (no_call p m (length_of p d d.len) there) in omega (arith, k));
        steps = Opens c ∷ Does builds ∷ Does declares ∷ [];
        none = (no_call p m (length_of p d d.len) there, tt);
        block = λ ss. refl;
        code = Opened (Does builds ∷ Does declares ∷ []) d0.marks (length d2.ops) (length d2.rows) c what
            (Done (Does declares ∷ []) d0.marks (length d1.ops) (length d2.ops) builds (Done [] d0.marks (length d0.ops) (length d1.ops) declares Begins declare_at) build_at) cleaned;
      })

-- one object after another

objects_push : (p : Program) (m : Making) (line : ℕ) (b : Base) (xs : List Declarator) (x : Declarator) (s : Scope) (ss : Stmts) → objects_scoped p m line b xs s (object_scoped p m line b x (with_all p s b xs) ss) ≡ objects_scoped p m line b (xs ++ x ∷ []) s ss
objects_push p m line b [] x s ss = refl
objects_push p m line b (d ∷ ds) x s ss = ap (λ (r : Stmts). object_scoped p m line b d s r) (objects_push p m line b ds x (with_declared p s b d) ss)

with_push : (p : Program) (b : Base) (xs : List Declarator) (x : Declarator) (s : Scope) → with_declared p (with_all p s b xs) b x ≡ with_all p s b (xs ++ x ∷ [])
with_push p b [] x s = refl
with_push p b (d ∷ ds) x s = with_push p b ds x (with_declared p s b d)

sizes_push : (xs : List Declarator) (x : Declarator) → declarators_size (xs ++ x ∷ []) ≡ declarators_size xs + declarator_size x
sizes_push [] x = omega arith
sizes_push (d ∷ ds) x = omega (arith, sizes_push ds x)

cells_push : (f : Declarator → ℕ) (xs : List Declarator) (x : Declarator) → declarators_cells f (xs ++ x ∷ []) ≡ declarators_cells f xs + f x
cells_push f [] x = omega arith
cells_push f (d ∷ ds) x = omega (arith, cells_push f ds x)

pub objects_step : (p : Program) (m : Making) (b : Base) (xs : List Declarator) (k : ℕ) (x : Declarator) (line block : ℕ) (old mid new : Draft) → k < length xs → x ≡ get_or xs k x
    → Lays (OPS_FOR_SIZE * declarators_size (take k xs)) 0 (declarators_cells (declared_cells p b) (take k xs)) (length (take k xs)) 0 block (objects_scoped p m line b (take k xs) (scope_of old)) (with_all p (scope_of old) b (take k xs)) old mid
    → Lays (OPS_FOR_SIZE * declarator_size x) 0 (declared_cells p b x) 1 0 block (object_scoped p m line b x (scope_of mid)) (with_declared p (scope_of mid) b x) mid new
    → Lays (OPS_FOR_SIZE * declarators_size (take (k + 1) xs)) 0 (declarators_cells (declared_cells p b) (take (k + 1) xs)) (length (take (k + 1) xs)) 0 block (objects_scoped p m line b (take (k + 1) xs) (scope_of old)) (with_all p (scope_of old) b (take (k + 1) xs)) old new
objects_step p m b xs k x line block old mid new l e g h =
    let ys : List Declarator = take k xs in
    let s : Scope = scope_of old in
    let split : ys ++ x ∷ [] ≡ take (k + 1) xs = ap (λ (y : Declarator). ys ++ y ∷ []) e ∙ sym (take_more xs k x l) in
    let h1 : Lays (OPS_FOR_SIZE * declarator_size x) 0 (declared_cells p b x) 1 0 block (object_scoped p m line b x (with_all p s b ys)) (with_declared p (with_all p s b ys) b x) mid new =
    subst (λ (t : Scope). Lays (OPS_FOR_SIZE * declarator_size x) 0 (declared_cells p b x) 1 0 block (object_scoped p m line b x t) (with_declared p t b x) mid new) g.scope h in
    let long = length-append ys (x ∷ []) in
    subst (λ (zs : List Declarator). Lays (OPS_FOR_SIZE * declarators_size zs) 0 (declarators_cells (declared_cells p b) zs) (length zs) 0 block (objects_scoped p m line b zs s) (with_all p s b zs) old new) split (
    lays_as (lays_join g h1) (with_push p b ys x s) (λ ss. objects_push p m line b ys x s ss) (omega (arith, sizes_push ys x)) (omega arith) (omega (arith, cells_push (declared_cells p b) ys x)) (omega (arith, long)) (omega arith))

pub objects_start : (p : Program) (m : Making) (b : Base) (xs : List Declarator) (line block : ℕ) (old : Draft)
    → Lays (OPS_FOR_SIZE * declarators_size (take 0 xs)) 0 (declarators_cells (declared_cells p b) (take 0 xs)) (length (take 0 xs)) 0 block (objects_scoped p m line b (take 0 xs) (scope_of old)) (with_all p (scope_of old) b (take 0 xs)) old old
objects_start p m b [] line block old = lays_as (lays_nothing block old) refl (λ ss. refl) (omega arith) (omega arith) (omega arith) (omega arith) (omega arith)
objects_start p m b (x ∷ xs) line block old = lays_as (lays_nothing block old) refl (λ ss. refl) (omega arith) (omega arith) (omega arith) (omega arith) (omega arith)

pub objects_end : (p : Program) (m : Making) (b : Base) (xs : List Declarator) (n line block : ℕ) (old new : Draft) → length xs ≤ n
    → Lays (OPS_FOR_SIZE * declarators_size (take n xs)) 0 (declarators_cells (declared_cells p b) (take n xs)) (length (take n xs)) 0 block (objects_scoped p m line b (take n xs) (scope_of old)) (with_all p (scope_of old) b (take n xs)) old new
    → Lays (OPS_FOR_SIZE * declarators_size xs) 0 (declarators_cells (declared_cells p b) xs) (length xs) 0 block (objects_scoped p m line b xs (scope_of old)) (with_all p (scope_of old) b xs) old new
objects_end p m b xs n line block old new l h =
    subst (λ (zs : List Declarator). Lays (OPS_FOR_SIZE * declarators_size zs) 0 (declarators_cells (declared_cells p b) zs) (length zs) 0 block (objects_scoped p m line b zs (scope_of old)) (with_all p (scope_of old) b zs) old new) (take_all n xs l) h
