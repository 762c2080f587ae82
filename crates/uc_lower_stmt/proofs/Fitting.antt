-- There is room in a draft for what a guarded block is laid out of.
use Rattle.std.proofs.Common.{◌≡◌, ℕ, ◌+◌, ◌*◌, ◌≤◌, ◌<◌, Bool, List, ◌∷◌, Option, take, length, ap, sym, subst, ◌∙◌, arith}
use Rattle.uc_tree.specs.declared.kinds.HandlerKind.{HandlerKind}
use Rattle.uc_tree.specs.declared.limits.TheConstants.{FRAME_CELLS, OPS_FOR_SIZE, PROGRAM_OPS, PROGRAM_SIZE}
use Rattle.uc_tree.specs.declared.pos.Pos.{Pos}
use Rattle.uc_tree.specs.Cells.{declared_cells, handler_cells, handlers_cells, stmt_cells, stmts_cells}
use Rattle.uc_tree.specs.Exits.{exits_handler, exits_handlers}
use Rattle.uc_tree.specs.Numbering.{routines_of}
use Rattle.uc_tree.specs.Programs.{Program}
use Rattle.uc_resolve.specs.Resolve.{Scope}
use Rattle.uc_tree.specs.Scopes.{handler_scopes, handlers_scopes, stmt_scopes, stmts_scopes}
use Rattle.uc_tree.specs.Sizes.{size_at}
use Rattle.uc_tree.specs.Statements as tree
use Rattle.uc_tree.specs.StatementSizes.{handler_size, handlers_size, stmt_size, stmts_size}
use Rattle.uc_code.specs.declared.op.Op.{Op}
use Rattle.uc_code.specs.declared.draft_parts.OuterScope.{OuterScope}
use Rattle.uc_code.specs.declared.rows.CodeMark.{CodeMark}
use Rattle.uc_code.specs.declared.rows.Opening.TheVariants as opening
use Rattle.uc_code.specs.Drafts.{Draft}
use Rattle.uc_code.specs.Guarding.{ClosesGuards, OpensGuards}
use Rattle.uc_code.specs.Layout.{Laid, guards, laid_in, routine_in}
use Rattle.uc_code.specs.OpenRows.{opened}
use Rattle.uc_code.specs.CodeShapes.{IsBare}
use Rattle.uc_lower_expr.specs.DraftGrowth.{Adds, OpCode}
use Rattle.uc_lower_stmt.specs.Guarding.{LowersFrom}
use Rattle.uc_lower_stmt.specs.Handling.{EntersHandler, LowersHandler}
use Rattle.uc_lower_stmt.specs.Marked.{closing, objects_in, taken}
use Rattle.uc_lower_stmt.specs.LowersStatement.{Lowers, LowersStmts, sizes_at}
use Rattle.uc_lower_stmt.proofs.GuardingLemmas.{from_lowers, guards_closing, guards_objects, guards_routine}
use Rattle.uc_lower_stmt.proofs.Scoping as scoping

-- a draft of a routine of the program has room for so many ops, cells, scopes and text literals more
pub record Fits (p : Program) (n c o k : ℕ) (d : Draft) : Type 0 where
  pub inside : routine_in d.marks < length (routines_of p)
  pub entry : 0 < length d.ops
  pub room : taken d + n ≤ PROGRAM_OPS
  pub cells : d.cells + c ≤ FRAME_CELLS
  pub scopes : d.scopes + o ≤ PROGRAM_SIZE
  pub texts : d.texts + k ≤ PROGRAM_SIZE

pub fits_as : {p : Program} {n m c b o q k j : ℕ} {d : Draft} → Fits p n c o k d → m ≤ n → b ≤ c → q ≤ o → j ≤ k → Fits p m b q j d
fits_as f l1 l2 l3 l4 = record {
  inside = f.inside;
  entry = f.entry;
  room = let x = f.room in omega (arith, l1, x);
  cells = let x = f.cells in omega (arith, l2, x);
  scopes = let x = f.scopes in omega (arith, l3, x);
  texts = let x = f.texts in omega (arith, l4, x);
}

-- of drafts that agree in all that counts
fits_like : {p : Program} {n c o k : ℕ} (d e : Draft) → routine_in e.marks ≡ routine_in d.marks → closing e.marks ≡ closing d.marks → length e.ops ≡ length d.ops → e.cells ≡ d.cells → e.scopes ≡ d.scopes → e.texts ≡ d.texts → Fits p n c o k d → Fits p n c o k e
fits_like {p} {n} {c} {o} {k} d e h1 h2 h3 h4 h5 h6 f = record {
  inside = let x = f.inside in omega (arith, h1, x);
  entry = let x = f.entry in omega (arith, h3, x);
  room = let x = f.room in omega (arith, h2, h3, x);
  cells = let x = f.cells in omega (arith, h4, x);
  scopes = let x = f.scopes in omega (arith, h5, x);
  texts = let x = f.texts in omega (arith, h6, x);
}

-- behind a piece

pub fits_from : {p : Program} {less r f n m k j c b o q : ℕ} {S : Laid → ℕ → ℕ → Type 0} {t : Scope} {old new : Draft} → Fits p (n + m) (c + b) (o + q) (k + j) old → LowersFrom less r f n k c o S t old new → Fits p m b q j new
fits_from {p} {less} {r} {f} {n} {m} {k} {j} {c} {b} {o} {q} {S} {t} {old} {new} h w =
    let routine : routine_in new.marks ≡ routine_in old.marks = ap (λ (d : Draft). routine_in d.marks) w.rest in
    let objects : closing new.marks ≡ closing old.marks = ap (λ (d : Draft). closing d.marks) w.rest in
    record {
      inside = let x = h.inside in omega (arith, routine, x);
      entry = let x = h.entry in let y = w.kept.longer in omega (arith, x, y);
      room = let x = h.room in let y = w.room in omega (arith, objects, x, y);
      cells = let x = h.cells in let y = w.cells in omega (arith, x, y);
      scopes = let x = h.scopes in let y = w.opened in omega (arith, x, y);
      texts = let x = h.texts in let y = w.texts in omega (arith, x, y);
    }

pub fits_behind : {p : Program} {r n m k j c b o q : ℕ} {S : Laid → ℕ → ℕ → Type 0} {t : Scope} {old new : Draft} → Fits p (n + m) (c + b) (o + q) (k + j) old → Lowers r n k c o S t old new → Fits p m b q j new
fits_behind h w = fits_from h (from_lowers 0 w)

pub fits_adds : {p : Program} {n m c o k : ℕ} {S : Laid → ℕ → ℕ → Type 0} {old new : Draft} → Fits p (n + m) c o k old → Adds n S old new → Fits p m c o k new
fits_adds {p} {n} {m} {c} {o} {k} {S} {old} {new} h a =
    let routine : routine_in new.marks ≡ routine_in old.marks = ap (λ (d : Draft). routine_in d.marks) a.rest in
    let objects : closing new.marks ≡ closing old.marks = ap (λ (d : Draft). closing d.marks) a.rest in
    let cells : new.cells ≡ old.cells = ap (λ (d : Draft). d.cells) a.rest in
    let scopes : new.scopes ≡ old.scopes = ap (λ (d : Draft). d.scopes) a.rest in
    let texts : new.texts ≡ old.texts = ap (λ (d : Draft). d.texts) a.rest in
    record {
      inside = let x = h.inside in omega (arith, routine, x);
      entry = let x = h.entry in let y = a.kept.longer in omega (arith, x, y);
      room = let x = h.room in let y = a.room in omega (arith, objects, x, y);
      cells = let x = h.cells in omega (arith, x, cells);
      scopes = let x = h.scopes in omega (arith, x, scopes);
      texts = let x = h.texts in omega (arith, x, texts);
    }

-- one handler

abbrev pub HandlerFits : Program → tree.Handler → Draft → Type 0
HandlerFits p h d = Fits p (OPS_FOR_SIZE * (handler_size h + exits_handler h (objects_in d.marks))) (handler_cells h (declared_cells p)) (handler_scopes h) (handler_size h) d

abbrev pub StmtsFit : Program → tree.Stmts → ℕ → Draft → Type 0
StmtsFit p body n d = Fits p (n + OPS_FOR_SIZE * sizes_at body (objects_in d.marks)) (stmts_cells body (declared_cells p)) (stmts_scopes body) (stmts_size body) d

-- its statements, where it has begun
pub body_fits : (p : Program) (row line : ℕ) (resumes : Bool) (event param : Option (List ℕ)) (pos : Pos) (kind : HandlerKind) (on name : Option (List ℕ)) (brace : Pos) (body : tree.Stmts) (h : tree.Handler) (d0 d1 : Draft)
    → tree.Handles pos kind on name brace body ≡ h → HandlerFits p h d0 → EntersHandler p row resumes event param line d0 d1 → StmtsFit p body 2 d1
body_fits p row line resumes event param pos kind on name brace body h d0 d1 is f en =
    let g : HandlerFits p (tree.Handles pos kind on name brace body) d0 = subst (λ (x : tree.Handler). HandlerFits p x d0) (sym is) f in
    let routine : routine_in d1.marks ≡ routine_in d0.marks = ap (λ (d : Draft). routine_in d.marks) en.rest in
    let objects : objects_in d1.marks ≡ objects_in d0.marks = ap (λ (d : Draft). objects_in d.marks) en.rest in
    let ends : closing d1.marks ≡ closing d0.marks = ap (λ (d : Draft). closing d.marks) en.rest in
    let size : sizes_at body (objects_in d1.marks) ≡ sizes_at body (objects_in d0.marks) = ap (sizes_at body) objects in
    let cells : d1.cells ≡ d0.cells = ap (λ (d : Draft). d.cells) en.rest in
    let texts : d1.texts ≡ d0.texts = ap (λ (d : Draft). d.texts) en.rest in
    record {
      inside = let x = g.inside in omega (arith, routine, x);
      entry = let x = g.entry in let y = en.kept.longer in omega (arith, x, y);
      room = let x = g.room in let y = en.room in omega (arith, ends, size, x, y);
      cells = let x = g.cells in omega (arith, x, cells);
      scopes = let x = g.scopes in let y = en.opened in omega (arith, x, y);
      texts = let x = g.texts in omega (arith, x, texts);
    }

-- and where they stand apart
pub apart_fits : (p : Program) (body : tree.Stmts) (n : ℕ) (d0 d1 : Draft) → StmtsFit p body n d0 → d1 ≡ opened (opening.Outward 0) d0 → StmtsFit p body n d1
apart_fits p body n d0 d1 f e = subst (λ (d : Draft). StmtsFit p body n d) (sym e) (record { inside = f.inside; entry = f.entry; room = f.room; cells = f.cells; scopes = f.scopes; texts = f.texts })

-- all handlers of a block

abbrev pub HandlersFit : Program → tree.Handlers → Draft → Type 0
HandlersFit p hs d = Fits p (OPS_FOR_SIZE * (handlers_size hs + exits_handlers hs (objects_in d.marks))) (handlers_cells hs (declared_cells p)) (handlers_scopes hs) (handlers_size hs) d

pub first_fits : (p : Program) (h : tree.Handler) (hs : tree.Handlers) (d : Draft) → HandlersFit p (tree.MoreHandlers h hs) d → HandlerFits p h d
first_fits p h hs d f = fits_as f (omega arith) (omega arith) (omega arith) (omega arith)

pub rest_fits : (p : Program) (row pad : ℕ) (h : tree.Handler) (hs : tree.Handlers) (d0 d1 : Draft) → HandlersFit p (tree.MoreHandlers h hs) d0 → LowersHandler p row pad h d0 d1 → HandlersFit p hs d1
rest_fits p row pad h hs d0 d1 f w =
    let objects : objects_in d1.marks ≡ objects_in d0.marks = ap (λ (d : Draft). objects_in d.marks) w.rest in
    let exits = ap (exits_handlers hs) objects in
    let g : Fits p (OPS_FOR_SIZE * (handler_size h + exits_handler h (objects_in d0.marks)) + OPS_FOR_SIZE * (handlers_size hs + exits_handlers hs (objects_in d0.marks))) (handler_cells h (declared_cells p) + handlers_cells hs (declared_cells p)) (handler_scopes h + handlers_scopes hs) (handler_size h + handlers_size hs) d0 = fits_as f (omega arith) (omega arith) (omega arith) (omega arith) in
    fits_as (fits_from g w) (omega (arith, exits)) (omega arith) (omega arith) (omega arith)

-- those that follow keep their rows
pub rest_bare : (p : Program) (row first pad n : ℕ) (h : tree.Handler) (d0 d1 : Draft) → row ≡ first + n → ((k : ℕ) → k < 1 + n → IsBare (laid_in d0) (first + k)) → LowersHandler p row pad h d0 d1 → (k : ℕ) → k < n → IsBare (laid_in d1) (first + k)
rest_bare p row first pad n h d0 d1 e b w k l = w.kept.bare (first + k) (omega (arith, e, l)) (b k (omega (arith, l)))

-- of those in a slice

some_handler : (h : tree.Handler) → 0 < handler_size h
some_handler (tree.Handles pos kind event param brace body) = omega arith

pub rest_less : (h : tree.Handler) (hs xs : List tree.Handler) → xs ≡ h ∷ hs → handlers_size (tree.handlers_of hs) < handlers_size (tree.handlers_of xs)
rest_less h hs xs e = subst (λ (ys : List tree.Handler). handlers_size (tree.handlers_of hs) < handlers_size (tree.handlers_of ys)) (sym e) (let l = some_handler h in omega (arith, l))

pub first_less : (h : tree.Handler) (hs xs : List tree.Handler) → xs ≡ h ∷ hs → handler_size h ≤ handlers_size (tree.handlers_of xs)
first_less h hs xs e = subst (λ (ys : List tree.Handler). handler_size h ≤ handlers_size (tree.handlers_of ys)) (sym e) (omega arith)

pub first_fits_in : (p : Program) (h : tree.Handler) (hs xs : List tree.Handler) (d : Draft) → xs ≡ h ∷ hs → HandlersFit p (tree.handlers_of xs) d → HandlerFits p h d
first_fits_in p h hs xs d e f = first_fits p h (tree.handlers_of hs) d (subst (λ (ys : List tree.Handler). HandlersFit p (tree.handlers_of ys) d) e f)

pub rest_fits_in : (p : Program) (row pad : ℕ) (h : tree.Handler) (hs xs : List tree.Handler) (d0 d1 : Draft) → xs ≡ h ∷ hs → HandlersFit p (tree.handlers_of xs) d0 → LowersHandler p row pad h d0 d1 → HandlersFit p (tree.handlers_of hs) d1
rest_fits_in p row pad h hs xs d0 d1 e f w = rest_fits p row pad h (tree.handlers_of hs) d0 d1 (subst (λ (ys : List tree.Handler). HandlersFit p (tree.handlers_of ys) d0) e f) w

-- a guarded block

-- what it asks of a draft, as a statement
pub record TryAsks (p : Program) (s : tree.Stmt) (body : tree.Stmts) (hs : tree.Handlers) (d : Draft) : Type 0 where
  pub less : stmts_size body + handlers_size hs < stmt_size s
  pub room : taken d + OPS_FOR_SIZE * (1 + sizes_at body (objects_in d.marks) + (handlers_size hs + exits_handlers hs (objects_in d.marks))) ≤ PROGRAM_OPS
  pub cells : d.cells + (stmts_cells body (declared_cells p) + handlers_cells hs (declared_cells p)) ≤ FRAME_CELLS
  pub scopes : d.scopes + (1 + stmts_scopes body + handlers_scopes hs) ≤ PROGRAM_SIZE
  pub texts : d.texts + (stmts_size body + handlers_size hs) ≤ PROGRAM_SIZE

pub try_asks : (p : Program) (s : tree.Stmt) (pos brace : Pos) (xs ys : List tree.Stmt) (hs gs : List tree.Handler) (d : Draft) → tree.Try pos brace (tree.stmts_of ys) (tree.handlers_of gs) ≡ s → xs ≡ ys → hs ≡ gs
    → taken d + OPS_FOR_SIZE * size_at s (objects_in d.marks) ≤ PROGRAM_OPS → d.cells + stmt_cells s (declared_cells p) ≤ FRAME_CELLS → d.scopes + stmt_scopes s ≤ PROGRAM_SIZE → d.texts + stmt_size s ≤ PROGRAM_SIZE → TryAsks p s (tree.stmts_of xs) (tree.handlers_of hs) d
try_asks p s pos brace xs ys hs gs d e i j r c o k =
    let all : tree.Try pos brace (tree.stmts_of xs) (tree.handlers_of hs) ≡ s = ap (λ (l : List tree.Stmt). tree.Try pos brace (tree.stmts_of l) (tree.handlers_of hs)) i ∙ ap (λ (l : List tree.Handler). tree.Try pos brace (tree.stmts_of ys) (tree.handlers_of l)) j ∙ e in
    let size = ap stmt_size all in
    let way = ap (λ (x : tree.Stmt). size_at x (objects_in d.marks)) all in
    let cells = ap (λ (x : tree.Stmt). stmt_cells x (declared_cells p)) all in
    let scopes = ap stmt_scopes all in
    record {
      less = omega (arith, size);
      room = omega (arith, way, r);
      cells = omega (arith, cells, c);
      scopes = omega (arith, scopes, o);
      texts = omega (arith, size, k);
    }

-- its statements
pub guarded_fits : (p : Program) (n count c o k : ℕ) (d0 d1 : Draft) → Fits p n c o k d0 → OpensGuards count d0 d1 → Fits p n c o k d1
guarded_fits p n count c o k d0 d1 f og =
    let marks : d1.marks ≡ guards (length d0.rows) count d0.marks = ap (λ (d : Draft). d.marks) og.rest in
    fits_like d0 d1 (ap routine_in marks ∙ guards_routine (length d0.rows) count d0.marks) (ap closing marks ∙ guards_closing (length d0.rows) count d0.marks)
    (ap (λ (d : Draft). length d.ops) og.rest) (ap (λ (d : Draft). d.cells) og.rest) (ap (λ (d : Draft). d.scopes) og.rest) (ap (λ (d : Draft). d.texts) og.rest) f

pub scoped_fits : (p : Program) (n c o k : ℕ) (d0 d1 : Draft) → Fits p n c (1 + o) k d0 → d1 ≡ scoping.opened d0 → Fits p n c o k d1
scoped_fits p n c o k d0 d1 f e = subst (λ (d : Draft). Fits p n c o k d) (sym e) (record {
  inside = f.inside;
  entry = f.entry;
  room = f.room;
  cells = f.cells;
  scopes = let x = f.scopes in omega (arith, x);
  texts = f.texts;
})

-- its handlers
pub left_fits : (p : Program) (n c o k scope names : ℕ) (d0 d1 : Draft) → Fits p n c o k d0 → d1 ≡ record d0 { place = record d0.place { scope = scope }; names = take names d0.names } → Fits p n c o k d1
left_fits p n c o k scope names d0 d1 f e = subst (λ (d : Draft). Fits p n c o k d) (sym e) (record { inside = f.inside; entry = f.entry; room = f.room; cells = f.cells; scopes = f.scopes; texts = f.texts })

pub closed_fits : (p : Program) (n c o k first count : ℕ) (ms : List CodeMark) (d0 d1 : Draft) → Fits p n c o k d0 → d0.marks ≡ guards first count ms → ClosesGuards first count ms d0 d1 → Fits p n c o k d1
closed_fits p n c o k first count ms d0 d1 f e cg =
    let marks : d1.marks ≡ ms = ap (λ (d : Draft). d.marks) cg.rest in
    fits_like d0 d1 (ap routine_in marks ∙ sym (ap routine_in e ∙ guards_routine first count ms)) (ap closing marks ∙ sym (ap closing e ∙ guards_closing first count ms))
    (ap (λ (d : Draft). length d.ops) cg.rest) (ap (λ (d : Draft). d.cells) cg.rest) (ap (λ (d : Draft). d.scopes) cg.rest) (ap (λ (d : Draft). d.texts) cg.rest) f

pub begun_fits : (p : Program) (line n c o k : ℕ) (x y : Op) (d0 d1 d2 : Draft) → routine_in d0.marks < length (routines_of p) → taken d0 + (2 + n) ≤ PROGRAM_OPS → d0.cells + c ≤ FRAME_CELLS → d0.scopes + o ≤ PROGRAM_SIZE → d0.texts + k ≤ PROGRAM_SIZE
    → Adds 1 (OpCode line x) d0 d1 → Adds 1 (OpCode line y) d1 d2 → Fits p n c o k d2
begun_fits p line n c o k x y d0 d1 d2 i r h s t g1 g2 =
    let routine : routine_in d1.marks ≡ routine_in d0.marks = ap (λ (d : Draft). routine_in d.marks) g1.rest in
    let ends : closing d1.marks ≡ closing d0.marks = ap (λ (d : Draft). closing d.marks) g1.rest in
    let cells : d1.cells ≡ d0.cells = ap (λ (d : Draft). d.cells) g1.rest in
    let scopes : d1.scopes ≡ d0.scopes = ap (λ (d : Draft). d.scopes) g1.rest in
    let texts : d1.texts ≡ d0.texts = ap (λ (d : Draft). d.texts) g1.rest in
    let long = g1.code.end in
    let f : Fits p (1 + n) c o k d1 = record {
      inside = omega (arith, i, routine);
      entry = omega (arith, long);
      room = omega (arith, r, ends, long);
      cells = omega (arith, h, cells);
      scopes = omega (arith, s, scopes);
      texts = omega (arith, t, texts);
    } in
    fits_adds f g2

-- the marks of the block of a guarded block, and behind it

guarded_marks : {n : ℕ} (d0 d1 d2 : Draft) → OpensGuards n d0 d1 → d2.marks ≡ d1.marks → d2.marks ≡ guards (length d0.rows) n d0.marks
guarded_marks d0 d1 d2 og e = e ∙ ap (λ (d : Draft). d.marks) og.rest

pub block_fits : (p : Program) (count m c o k : ℕ) (body : tree.Stmts) (d2 d3 d4 : Draft) → Fits p (OPS_FOR_SIZE * sizes_at body (objects_in d2.marks) + m) (stmts_cells body (declared_cells p) + c) (1 + (stmts_scopes body + o)) (stmts_size body + k) d2
    → OpensGuards count d2 d3 → d4 ≡ scoping.opened d3 → Fits p (OPS_FOR_SIZE * sizes_at body (objects_in d4.marks) + m) (stmts_cells body (declared_cells p) + c) (stmts_scopes body + o) (stmts_size body + k) d4
block_fits p count m c o k body d2 d3 d4 f og e =
    let f3 = guarded_fits p _ count _ _ _ d2 d3 f og in
    let f4 = scoped_fits p _ _ (stmts_scopes body + o) _ d3 d4 f3 e in
    let marks : d4.marks ≡ guards (length d2.rows) count d2.marks = guarded_marks d2 d3 d4 og (ap (λ (d : Draft). d.marks) e) in
    let objects : objects_in d4.marks ≡ objects_in d2.marks = ap objects_in marks ∙ guards_objects (length d2.rows) count d2.marks in
    let size = ap (sizes_at body) objects in
    fits_as f4 (omega (arith, size)) (omega arith) (omega arith) (omega arith)

pub try_fits : (p : Program) (line count : ℕ) (body : tree.Stmts) (hs : tree.Handlers) (x y : Op) (d0 d1 d2 d3 d4 : Draft) → routine_in d0.marks < length (routines_of p)
    → taken d0 + OPS_FOR_SIZE * (1 + sizes_at body (objects_in d0.marks) + (handlers_size hs + exits_handlers hs (objects_in d0.marks))) ≤ PROGRAM_OPS → d0.cells + (stmts_cells body (declared_cells p) + handlers_cells hs (declared_cells p)) ≤ FRAME_CELLS
    → d0.scopes + (1 + stmts_scopes body + handlers_scopes hs) ≤ PROGRAM_SIZE → d0.texts + (stmts_size body + handlers_size hs) ≤ PROGRAM_SIZE → Adds 1 (OpCode line x) d0 d1 → Adds 1 (OpCode line y) d1 d2 → OpensGuards count d2 d3 → d4 ≡ scoping.opened d3
    → Fits p (OPS_FOR_SIZE * sizes_at body (objects_in d4.marks) + (1 + OPS_FOR_SIZE * (handlers_size hs + exits_handlers hs (objects_in d2.marks)))) (stmts_cells body (declared_cells p) + handlers_cells hs (declared_cells p)) (stmts_scopes body + handlers_scopes hs) (stmts_size body + handlers_size hs) d4
try_fits p line count body hs x y d0 d1 d2 d3 d4 i r h s t g1 g2 og e =
    let objects : objects_in d2.marks ≡ objects_in d0.marks = ap (λ (d : Draft). objects_in d.marks) g2.rest ∙ ap (λ (d : Draft). objects_in d.marks) g1.rest in
    let size = ap (sizes_at body) objects in
    let exits = ap (exits_handlers hs) objects in
    let n : ℕ = OPS_FOR_SIZE * sizes_at body (objects_in d2.marks) + (1 + OPS_FOR_SIZE * (handlers_size hs + exits_handlers hs (objects_in d2.marks))) in
    let f : Fits p n (stmts_cells body (declared_cells p) + handlers_cells hs (declared_cells p)) (1 + (stmts_scopes body + handlers_scopes hs)) (stmts_size body + handlers_size hs) d2 =
    begun_fits p line n (stmts_cells body (declared_cells p) + handlers_cells hs (declared_cells p)) (1 + (stmts_scopes body + handlers_scopes hs)) (stmts_size body + handlers_size hs) x y d0 d1 d2 i (omega (arith, size, exits, r)) h (omega (arith, s)) t g1 g2 in
    block_fits p count (1 + OPS_FOR_SIZE * (handlers_size hs + exits_handlers hs (objects_in d2.marks))) (handlers_cells hs (declared_cells p)) (handlers_scopes hs) (handlers_size hs) body d2 d3 d4 f og e

-- behind its statements
module _ (p : Program) (line brace count : ℕ) (body : tree.Stmts) (hs : tree.Handlers) (out : OuterScope) (x : Op) (d2 d3 b1 b2 d4 d5 d6 : Draft)
    (f : Fits p (OPS_FOR_SIZE * sizes_at body (objects_in b1.marks) + (1 + OPS_FOR_SIZE * (handlers_size hs + exits_handlers hs (objects_in d2.marks)))) (stmts_cells body (declared_cells p) + handlers_cells hs (declared_cells p)) (stmts_scopes body + handlers_scopes hs) (stmts_size body + handlers_size hs) b1)
    (og : OpensGuards count d2 d3) (e1 : b1 ≡ scoping.opened d3) (w : LowersStmts p brace body b1 b2) (e4 : d4 ≡ record b2 { place = record b2.place { scope = out.scope }; names = take out.names b2.names })
    (cg : (first : ℕ) (ms : List CodeMark) → d4.marks ≡ guards first count ms → ClosesGuards first count ms d4 d5) where
  pub tried_fits : Fits p (1 + OPS_FOR_SIZE * (handlers_size hs + exits_handlers hs (objects_in d2.marks))) (handlers_cells hs (declared_cells p)) (handlers_scopes hs) (handlers_size hs) d4
  tried_fits = left_fits p _ _ _ _ out.scope out.names b2 d4 (fits_behind f w) e4

  tried_marks : d4.marks ≡ guards (length d2.rows) count d2.marks
  tried_marks = guarded_marks d2 d3 d4 og (ap (λ (d : Draft). d.marks) e4 ∙ ap (λ (d : Draft). d.marks) w.rest ∙ ap (λ (d : Draft). d.marks) e1)

  pub closes : ClosesGuards (length d2.rows) count d2.marks d4 d5
  closes = cg (length d2.rows) d2.marks tried_marks

  pub behind_fits : Fits p (1 + OPS_FOR_SIZE * (handlers_size hs + exits_handlers hs (objects_in d2.marks))) (handlers_cells hs (declared_cells p)) (handlers_scopes hs) (handlers_size hs) d5
  behind_fits = closed_fits p _ _ _ _ (length d2.rows) count d2.marks d4 d5 tried_fits tried_marks closes

  pub handlers_fit : Adds 1 (OpCode line x) d5 d6 → HandlersFit p hs d6
  handlers_fit g =
      let objects : objects_in d6.marks ≡ objects_in d2.marks = ap (λ (d : Draft). objects_in d.marks) g.rest ∙ ap (λ (d : Draft). objects_in d.marks) closes.rest in
      let exits = ap (exits_handlers hs) objects in
      fits_as (fits_adds behind_fits g) (omega (arith, exits)) (omega arith) (omega arith) (omega arith)

  pub handlers_bare : (first : ℕ) → first ≡ length d2.rows → Adds 1 (OpCode line x) d5 d6 → (k : ℕ) → k < count → IsBare (laid_in d6) (first + k)
  handlers_bare first e g k l = subst (λ (n : ℕ). IsBare (laid_in d6) (n + k)) (sym e) (g.kept.bare (length d2.rows + k) (closes.bare k l))
