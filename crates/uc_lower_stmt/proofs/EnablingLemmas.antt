-- Statements that enable or disable events, as they are added to a draft.
use Rattle.std.proofs.Common.{◌≡◌, ℕ, ◌+◌, ◌*◌, ◌^◌, ◌%◌, ◌<◌, ◌≤◌, List, ◌∷◌, length, drop, get_or, refl, ap, sym, subst, ◌∙◌, arith, bit_or, None}
use Rattle.std.proofs.lemmas.List.{drop_more}
use Rattle.std.proofs.lemmas.Nat.{one_shl, or_comm}
use Rattle.uc_tree.specs.declared.kinds.EventName.{EventName}
use Rattle.uc_tree.specs.declared.limits.TheConstants.{FRAME_CELLS, OPS_FOR_SIZE, PROGRAM_OPS, PROGRAM_SIZE}
use Rattle.uc_tree.specs.declared.pos.Pos.{Pos}
use Rattle.uc_tree.specs.Cells.{declared_cells, stmt_cells}
use Rattle.uc_tree.specs.Gathered.{gathered}
use Rattle.uc_tree.specs.Hidden.{hidden_in}
use Rattle.uc_tree.specs.Numbering.{own_sites, own_texts}
use Rattle.uc_tree.specs.Programs.{Program}
use Rattle.uc_tree.specs.Scopes.{alone_scopes, stmt_scopes}
use Rattle.uc_tree.specs.Sizes.{size_at}
use Rattle.uc_tree.specs.Source as source
use Rattle.uc_tree.specs.Source.{Restores}
use Rattle.uc_tree.specs.Statements.{Disable, Enable, Stmt}
use Rattle.uc_tree.specs.StatementSizes.{stmt_size}
use Rattle.uc_resolve.specs.Resolve.{Scope, events_meant, events_named, number_of_event, scope_after, scope_past, stmt_meant, within_events}
use Rattle.uc_code.specs.declared.op.Op.TheVariants as op
use Rattle.uc_code.specs.declared.rows.Cleaning.TheVariants as cleaning
use Rattle.uc_code.specs.declared.rows.CodeMark.{CodeMark}
use Rattle.uc_code.specs.declared.rows.CodeMark.TheVariants as mark
use Rattle.uc_code.specs.declared.rows.Opening.TheVariants as opening
use Rattle.uc_code.specs.CodeShapes.{Both, Kept, PollAt, Stable}
use Rattle.uc_code.specs.Drafts.{Draft}
use Rattle.uc_code.specs.Emits.{Puts}
use Rattle.uc_code.specs.Layout.{Laid, laid_in}
use Rattle.uc_code.specs.Lowered.{EventAt, ScopedAt, StmtAt}
use Rattle.uc_code.specs.ObjectCalls.{Restored}
use Rattle.uc_code.specs.OpenRows.{opened}
use Rattle.uc_code.proofs.Putting.{puts_both, puts_more}
use Rattle.uc_code.proofs.Stable.{kept_piece, kept_then, one_stable, poll_stable}
use Rattle.uc_lower_expr.specs.DraftGrowth.{Adds, OpCode}
use Rattle.uc_lower_expr.proofs.Settled.{both}
use Rattle.uc_lower_stmt.specs.declared.enabling.Enabling.{Enabling}
use Rattle.uc_lower_stmt.specs.declared.enabling.Enabling.TheVariants as enabling
use Rattle.uc_lower_stmt.specs.Control.{LowersAlone}
use Rattle.uc_lower_stmt.specs.Enabling.{LowersEnabling, SwitchCode, enabling_as, enabling_meant}
use Rattle.uc_lower_stmt.specs.LowersStatement.{LowersStmt, scope_of}
use Rattle.uc_lower_stmt.specs.Marked.{closing, objects_in, taken}
use Rattle.uc_lower_stmt.specs.Objects.{ClosesScope, InScope, ScopeEnds}
use Rattle.uc_lower_stmt.proofs.Counted.{counted}
use Rattle.uc_lower_stmt.proofs.Ending.{scope_ended}
use Rattle.uc_lower_stmt.proofs.HandlingLemmas.{event_few}
use Rattle.uc_lower_stmt.proofs.Joined.{lowers_as, lowers_join, lowers_puts, puts_adds}
use Rattle.uc_lower_stmt.proofs.Kept.{stmt_stable}
use Rattle.uc_lower_stmt.proofs.Stating.{as_stmt}
use Rattle.uc_lower_stmt.specs.RowFit.{RowsFit, open_rows}
use Rattle.uc_lower_stmt.proofs.RowFitting.{fit_like, fit_none, fit_opened, fit_then, fit_count}
use Rattle.uc_lower_stmt.specs.SourceRows.{event_rows_under, stmt_rows_under}

-- the events of a list

event_less : (p : Program) (name : List ℕ) → number_of_event p name < 64
event_less p name = let few = event_few p name in omega (arith, few)

pub named_by_bits : (p : Program) (es : List EventName) (i n mask : ℕ) (e : EventName) → i < length es → e ≡ get_or es i e → n ≡ number_of_event p e.name → mask ≡ events_named p (drop (i + 1) es) → bit_or mask (1 * 2 ^ n % 2 ^ 64) ≡ events_named p (drop i es)
named_by_bits p es i n mask e l is number so =
    let less : n < 64 = subst (λ (k : ℕ). k < 64) (sym number) (event_less p e.name) in
    let here : drop i es ≡ e ∷ drop (i + 1) es = drop_more es i e l ∙ ap (λ (x : EventName). x ∷ drop (i + 1) es) (sym is) in
    ap (λ (x : ℕ). bit_or mask x) (one_shl n 64 less)
    ∙ or_comm mask (2 ^ n)
    ∙ ap (λ (x : ℕ). bit_or (2 ^ n) x) so
    ∙ ap (λ (k : ℕ). bit_or (2 ^ k) (events_named p (drop (i + 1) es))) number
    ∙ sym (ap (λ (xs : List EventName). events_named p xs) here)

-- the op, and what is delivered

pub switch_stable : (how : Enabling) (events cell line : ℕ) (ms : List CodeMark) → Stable (SwitchCode how events cell line ms)
switch_stable enabling.Enable events cell line ms = both (one_stable (op.Enable events cell) line) (poll_stable ms line)
switch_stable enabling.Disable events cell line ms = one_stable (op.Disable events cell) line

pub switched_on : (how : Enabling) (events cell line : ℕ) (d0 d1 d2 : Draft) → how ≡ enabling.Enable → Adds 1 (OpCode line (op.Enable events cell)) d0 d1 → Puts 0 4 (λ code. PollAt code d1.marks line) d1 d2 → Puts 0 5 (SwitchCode how events cell line d0.marks) d0 d2
switched_on how events cell line d0 d1 d2 is h q =
    let marks : d1.marks ≡ d0.marks = ap (λ (d : Draft). d.marks) h.rest in
    let poll : Puts 0 4 (λ code. PollAt code d0.marks line) d1 d2 = subst (λ (ms : List CodeMark). Puts 0 4 (λ code. PollAt code ms line) d1 d2) marks q in
    subst (λ (k : Enabling). Puts 0 5 (SwitchCode k events cell line d0.marks) d0 d2) (sym is) (puts_both (one_stable (op.Enable events cell) line) (puts_adds h) poll)

pub switched_off : (how : Enabling) (events cell line : ℕ) (d0 d1 : Draft) → how ≡ enabling.Disable → Adds 1 (OpCode line (op.Disable events cell)) d0 d1 → Puts 0 5 (SwitchCode how events cell line d0.marks) d0 d1
switched_off how events cell line d0 d1 is h =
    subst (λ (k : Enabling). Puts 0 5 (SwitchCode k events cell line d0.marks) d0 d1) (sym is) (puts_more (omega arith) (puts_adds h))

-- the statement in its scope

abbrev Inside : Enabling → ℕ → ℕ → ℕ → source.Stmt → Laid → List CodeMark → ℕ → ℕ → Type 0
Inside how events cell line s code ns = Both (SwitchCode how events cell line ns code) (StmtAt code ns s)

inside_stable : (how : Enabling) (events cell line : ℕ) (s : source.Stmt) (ns : List CodeMark) → Stable (λ code. Inside how events cell line s code ns)
inside_stable how events cell line s ns = both (switch_stable how events cell line ns) (stmt_stable ns s)

event_at : (how : Enabling) (events cell line : ℕ) (s : source.Stmt) (code : Laid) (ms : List CodeMark) (a z : ℕ) → ScopedAt code line ms (Restores cell) (Inside how events cell line s code) a z → EventAt code ms (enabling_as how line events cell s) a z
event_at enabling.Enable events cell line s code ms a z h =
    let b = h.scope.body in
    record {
      what = h.what;
      cleans = h.cleans;
      scope = record {
        row = h.scope.row;
        body_end = h.scope.body_end;
        clean_end = h.scope.clean_end;
        body = record { middle = b.first.middle; first = b.first.first; second = record { middle = b.middle; first = b.first.second; second = b.second } };
        clean = h.scope.clean;
        leave = h.scope.leave;
        unwinds = h.scope.unwinds;
        handler = h.scope.handler;
      };
    }
event_at enabling.Disable events cell line s code ms a z h = h

-- its rows: those of what is done in its scope, and that of the scope
enabling_rows : (how : Enabling) (line events hidden cell row : ℕ) (s : source.Stmt) (ms : List CodeMark) → event_rows_under ms (enabling_as how line events hidden s) ≡ stmt_rows_under (mark.Clean (cleaning.Restore cell) line row ∷ ms) s + 1
enabling_rows enabling.Enable line events hidden cell row s ms = omega arith
enabling_rows enabling.Disable line events hidden cell row s ms = omega arith

-- a scope is opened behind one hidden cell more, and events are enabled or disabled in it

module _ (how : Enabling) (line mask cell : ℕ) (d0 d1 d2 d3 : Draft) (h1 : d1 ≡ record d0 { hidden = d0.hidden + 1 }) (h2 : d2 ≡ opened (opening.Object (cleaning.Restore cell) line) d1) (h3 : Puts 0 5 (SwitchCode how mask cell line d2.marks) d2 d3) where
  abbrev pub inner : CodeMark
  inner = mark.Clean (cleaning.Restore cell) line (length d1.rows)

  pub scope_begun : d2 ≡ record d0 { rows = d2.rows; settled = d2.settled; marks = inner ∷ d0.marks; hidden = d0.hidden + 1 }
  scope_begun =
      let is : d2 ≡ record d1 { rows = d2.rows; settled = d2.settled; marks = inner ∷ d1.marks } = subst (λ (x : Draft). x ≡ record d1 { rows = x.rows; settled = x.settled; marks = inner ∷ d1.marks }) (sym h2) refl in
      is ∙ ap (λ (x : Draft). let y : Draft = record x { rows = d2.rows; settled = d2.settled; marks = inner ∷ x.marks } in y) h1

  pub marks_switched : d3.marks ≡ inner ∷ d0.marks
  marks_switched = ap (λ (d : Draft). d.marks) h3.rest ∙ ap (λ (d : Draft). d.marks) scope_begun

  pub scope_switched : (p : Program) → scope_of d3 ≡ within_events p (scope_of d0)
  scope_switched p = ap scope_of h3.rest ∙ ap scope_of scope_begun

  pub is_switched : d3 ≡ record d0 { ops = d3.ops; rows = d3.rows; settled = d3.settled; marks = inner ∷ d0.marks; hidden = d0.hidden + 1 }
  is_switched = h3.rest ∙ ap (λ (x : Draft). let y : Draft = record x { ops = d3.ops; rows = d3.rows; settled = d3.settled } in y) scope_begun

  pub objects_switched : objects_in d3.marks ≡ objects_in d0.marks + 1
  objects_switched = let e = ap objects_in marks_switched in omega (arith, e)

  pub taken_switched : taken d3 ≤ taken d0 + 9
  taken_switched =
      let e : closing d3.marks ≡ 4 + closing d0.marks = ap closing marks_switched in
      let o : length d2.ops ≡ length d0.ops = ap (λ (d : Draft). length d.ops) scope_begun in
      let r = h3.room in
      omega (arith, e, o, r)

module _ (p : Program) (how : Enabling) (line mask cell : ℕ) (es : List EventName) (body : Stmt) (d0 d1 d2 d3 d4 new : Draft)
    (me : mask ≡ events_meant p es) (ce : cell ≡ d0.hidden) (h1 : d1 ≡ record d0 { hidden = d0.hidden + 1 })
    (h2 : d2 ≡ opened (opening.Object (cleaning.Restore cell) line) d1) (k2 : Kept (laid_in d1) (laid_in d2))
    (h3 : Puts 0 5 (SwitchCode how mask cell line d2.marks) d2 d3) (h4 : LowersAlone p body d3 d4) where
  abbrev s : Scope
  s = scope_of d0

  abbrev done : source.Stmt
  done = stmt_meant p body (within_events p (scope_of d0))

  abbrev m : CodeMark
  m = mark.Clean (cleaning.Restore cell) line (length d1.rows)

  marks3 : d3.marks ≡ m ∷ d0.marks
  marks3 = marks_switched how line mask cell d0 d1 d2 d3 h1 h2 h3

  marks2 : d2.marks ≡ m ∷ d0.marks
  marks2 = ap (λ (d : Draft). d.marks) (scope_begun how line mask cell d0 d1 d2 d3 h1 h2 h3)

  ops2 : length d2.ops ≡ length d0.ops
  ops2 = ap (λ (d : Draft). length d.ops) (scope_begun how line mask cell d0 d1 d2 d3 h1 h2 h3)

  scope3 : scope_of d3 ≡ within_events p (scope_of d0)
  scope3 = scope_switched how line mask cell d0 d1 d2 d3 h1 h2 h3 p

  pub marks_done : d4.marks ≡ m ∷ d0.marks
  marks_done = ap (λ (d : Draft). d.marks) h4.rest ∙ marks3

  -- the innermost scope is that of the statement
  pub in_enabling : InScope (cleaning.Restore cell) line d4.marks
  in_enabling = record { row = length d1.rows; outer = d0.marks; is = marks_done; behind = tt }

  pub room_done : length d4.ops ≤ length d0.ops + 5 + OPS_FOR_SIZE * size_at body (objects_in d0.marks + 1)
  room_done =
      let size = ap (size_at body) (objects_switched how line mask cell d0 d1 d2 d3 h1 h2 h3) in
      let a = h3.room in
      let b = h4.room in
      omega (arith, ops2, size, a, b)

  inside : Inside how mask cell line done (laid_in d4) (m ∷ d0.marks) (length d0.ops) (length d4.ops)
  inside =
      let all = lowers_join (switch_stable how mask cell line d2.marks) (lowers_puts 0 0 h3) h4 in
      record {
        middle = all.code.middle;
        first = subst (λ (a : ℕ). SwitchCode how mask cell line (m ∷ d0.marks) (laid_in d4) a all.code.middle) ops2 (subst (λ (ms : List CodeMark). SwitchCode how mask cell line ms (laid_in d4) (length d2.ops) all.code.middle) marks2 all.code.first);
        second = subst (λ (t : Scope). StmtAt (laid_in d4) (m ∷ d0.marks) (stmt_meant p body t) all.code.middle (length d4.ops)) scope3 (subst (λ (ms : List CodeMark). StmtAt (laid_in d4) ms (stmt_meant p body (scope_of d3)) all.code.middle (length d4.ops)) marks3 all.code.second);
      }

  module _ (h5 : ClosesScope 4 (cleaning.Restore cell) line d4 new) where
    ends : ScopeEnds (laid_in new) line d0.marks (cleaning.Restore cell) (length d1.rows) (length d4.ops) (length new.ops)
    ends = h5.scope (length d1.rows) d0.marks marks_done

    marks_new : new.marks ≡ d0.marks
    marks_new = h5.marks (length d1.rows) d0.marks marks_done

    rise4 : length d0.ops ≤ length d4.ops
    rise4 = (inside_stable how mask cell line done (m ∷ d0.marks)).rises (laid_in d4) (length d0.ops) (length d4.ops) inside

    scoped : ScopedAt (laid_in new) line d0.marks (Restores cell) (Inside how mask cell line done (laid_in new)) (length d0.ops) (length new.ops)
    scoped =
        let moved : Inside how mask cell line done (laid_in new) (m ∷ d0.marks) (length d0.ops) (length d4.ops) =
        kept_piece (λ code. Inside how mask cell line done code (m ∷ d0.marks)) (inside_stable how mask cell line done (m ∷ d0.marks)) (laid_in d4) (laid_in new) (length d0.ops) (length d4.ops) (omega arith) h5.kept inside in
        record {
          what = cleaning.Restore cell;
          cleans = Restored cell;
          scope = scope_ended (laid_in new) line d0.marks (cleaning.Restore cell) (length d1.rows) (Inside how mask cell line done (laid_in new)) (length d0.ops) (length d4.ops) (length new.ops) moved ends;
        }

    code_new : EventAt (laid_in new) d0.marks (enabling_meant p how line es body s) (length d0.ops) (length new.ops)
    code_new =
        subst (λ (x : ℕ). EventAt (laid_in new) d0.marks (enabling_as how line x d0.hidden done) (length d0.ops) (length new.ops)) me (
        subst (λ (c : ℕ). EventAt (laid_in new) d0.marks (enabling_as how line mask c done) (length d0.ops) (length new.ops)) ce (
        event_at how mask cell line done (laid_in new) d0.marks (length d0.ops) (length new.ops) scoped))

    new_is : new ≡ record d0 { ops = new.ops; rows = new.rows; settled = new.settled; scopes = d4.scopes; names = d4.names; cells = d4.cells; hidden = d4.hidden; texts = d4.texts; sites = d4.sites }
    new_is =
        h5.rest
        ∙ ap (λ (x : Draft). let y : Draft = record x { ops = new.ops; rows = new.rows; settled = new.settled; marks = new.marks } in y) h4.rest
        ∙ ap (λ (x : Draft). let y : Draft = record x { ops = new.ops; rows = new.rows; settled = new.settled; marks = new.marks; scopes = d4.scopes; names = d4.names; cells = d4.cells; hidden = d4.hidden; texts = d4.texts; sites = d4.sites } in y) (is_switched how line mask cell d0 d1 d2 d3 h1 h2 h3)
        ∙ ap (λ (ms : List CodeMark). let y : Draft = record d0 { ops = new.ops; rows = new.rows; settled = new.settled; marks = ms; scopes = d4.scopes; names = d4.names; cells = d4.cells; hidden = d4.hidden; texts = d4.texts; sites = d4.sites } in y) marks_new

    kept_new : Kept (laid_in d0) (laid_in new)
    kept_new =
        let begun : Kept (laid_in d0) (laid_in d2) = subst (λ (d : Draft). Kept (laid_in d) (laid_in d2)) h1 k2 in
        kept_then (laid_in d0) (laid_in d2) (laid_in new) begun (kept_then (laid_in d2) (laid_in d3) (laid_in new) h3.kept (kept_then (laid_in d3) (laid_in d4) (laid_in new) h4.kept h5.kept))

    pub arm_enabling : LowersEnabling p how line es body d0 new
    arm_enabling =
        let is = is_switched how line mask cell d0 d1 d2 d3 h1 h2 h3 in
        let scopes : d3.scopes ≡ d0.scopes = ap (λ (d : Draft). d.scopes) is in
        let texts : d3.texts ≡ d0.texts = ap (λ (d : Draft). d.texts) is in
        let cells : d3.cells ≡ d0.cells = ap (λ (d : Draft). d.cells) is in
        let scopes_new : new.scopes ≡ d4.scopes = ap (λ (d : Draft). d.scopes) new_is in
        let texts_new : new.texts ≡ d4.texts = ap (λ (d : Draft). d.texts) new_is in
        let cells_new : new.cells ≡ d4.cells = ap (λ (d : Draft). d.cells) new_is in
        record {
          rest = subst (λ (d : Draft). d ≡ record d0 { ops = d.ops; rows = d.rows; settled = d.settled; scopes = d.scopes; names = d.names; cells = d.cells; hidden = d.hidden; texts = d.texts; sites = d.sites }) (sym new_is) refl;
          scope = ap scope_of h5.rest ∙ h4.scope ∙ ap (λ (t : Scope). scope_past p body t) scope3;
          opened = let x = h4.opened in omega (arith, x, scopes, scopes_new);
          kept = kept_new;
          rows =
              let one : RowsFit 0 1 d1 d2 = fit_opened (opening.Object (cleaning.Restore cell) line) d1 d2 h2 in
              let begun : RowsFit 0 1 d0 d2 = fit_like d0 d2 (sym (ap (λ (d : Draft). d.rows) h1)) (sym (ap (λ (d : Draft). length d.ops) h1)) (sym (ap (λ (d : Draft). open_rows d.marks) h1)) refl refl refl one in
              let under : stmt_rows_under d3.marks (stmt_meant p body (scope_of d3)) ≡ stmt_rows_under (m ∷ d0.marks) done =
              ap (λ (ns : List CodeMark). stmt_rows_under ns (stmt_meant p body (scope_of d3))) marks3 ∙ ap (λ (t : Scope). stmt_rows_under (m ∷ d0.marks) (stmt_meant p body t)) scope3 in
              let whole = enabling_rows how line (events_meant p es) d0.hidden cell (length d1.rows) done d0.marks in
              fit_count (omega (arith, under, whole)) (fit_then h5.kept.longer (fit_then h4.kept.longer (fit_then h3.kept.longer begun (fit_none h3)) h4.rows) h5.rows);
          room = let x = h5.room in let y = room_done in omega (arith, x, y);
          texts = let x = h4.texts in omega (arith, x, texts, texts_new);
          cells = let x = h4.cells in omega (arith, x, cells, cells_new);
          code = code_new;
        }

-- what one asks of a draft, as a statement

pub record EnablingAsks (p : Program) (s body : Stmt) (d : Draft) : Type 0 where
  pub less : stmt_size body < stmt_size s
  pub room : taken d + OPS_FOR_SIZE * (1 + size_at body (objects_in d.marks + 1)) ≤ PROGRAM_OPS
  pub cells : d.cells + stmt_cells body (declared_cells p) ≤ FRAME_CELLS
  pub scopes : d.scopes + (alone_scopes body + stmt_scopes body) ≤ PROGRAM_SIZE
  pub texts : d.texts + stmt_size body ≤ PROGRAM_SIZE

pub enable_asks : (p : Program) (s : Stmt) (place : Pos) (es : List EventName) (body body0 : Stmt) (d : Draft) → Enable place es body0 ≡ s → body ≡ body0
    → taken d + OPS_FOR_SIZE * size_at s (objects_in d.marks) ≤ PROGRAM_OPS → d.cells + stmt_cells s (declared_cells p) ≤ FRAME_CELLS → d.scopes + stmt_scopes s ≤ PROGRAM_SIZE → d.texts + stmt_size s ≤ PROGRAM_SIZE → EnablingAsks p s body d
enable_asks p s place es body body0 d h j r c o t =
    let all : Enable place es body ≡ s = ap (λ (x : Stmt). Enable place es x) j ∙ h in
    let size = ap stmt_size all in
    let way = ap (λ (x : Stmt). size_at x (objects_in d.marks)) all in
    let cells = ap (λ (x : Stmt). stmt_cells x (declared_cells p)) all in
    let scopes = ap stmt_scopes all in
    record { less = omega (arith, size); room = omega (arith, way, r); cells = omega (arith, cells, c); scopes = omega (arith, scopes, o); texts = omega (arith, size, t) }

pub disable_asks : (p : Program) (s : Stmt) (place : Pos) (es : List EventName) (body body0 : Stmt) (d : Draft) → Disable place es body0 ≡ s → body ≡ body0
    → taken d + OPS_FOR_SIZE * size_at s (objects_in d.marks) ≤ PROGRAM_OPS → d.cells + stmt_cells s (declared_cells p) ≤ FRAME_CELLS → d.scopes + stmt_scopes s ≤ PROGRAM_SIZE → d.texts + stmt_size s ≤ PROGRAM_SIZE → EnablingAsks p s body d
disable_asks p s place es body body0 d h j r c o t =
    let all : Disable place es body ≡ s = ap (λ (x : Stmt). Disable place es x) j ∙ h in
    let size = ap stmt_size all in
    let way = ap (λ (x : Stmt). size_at x (objects_in d.marks)) all in
    let cells = ap (λ (x : Stmt). stmt_cells x (declared_cells p)) all in
    let scopes = ap stmt_scopes all in
    record { less = omega (arith, size); room = omega (arith, way, r); cells = omega (arith, cells, c); scopes = omega (arith, scopes, o); texts = omega (arith, size, t) }

-- behind one

enabled_counted : (p : Program) (place : Pos) (es : List EventName) (body : Stmt) (s : Scope) → scope_past p body (within_events p s) ≡ scope_after p (Enable place es body) s
enabled_counted p place es body s =
    let h : s.hidden + 1 + hidden_in body ≡ s.hidden + (1 + hidden_in body) = omega arith in
    ap (λ (n : ℕ). counted s s.names (s.cells + stmt_cells body (declared_cells p)) n (s.texts + length (gathered own_texts body)) (s.sites + length (gathered (own_sites None 0) body))) h

disabled_counted : (p : Program) (place : Pos) (es : List EventName) (body : Stmt) (s : Scope) → scope_past p body (within_events p s) ≡ scope_after p (Disable place es body) s
disabled_counted p place es body s =
    let h : s.hidden + 1 + hidden_in body ≡ s.hidden + (1 + hidden_in body) = omega arith in
    ap (λ (n : ℕ). counted s s.names (s.cells + stmt_cells body (declared_cells p)) n (s.texts + length (gathered own_texts body)) (s.sites + length (gathered (own_sites None 0) body))) h

pub arm_enable : (p : Program) (s : Stmt) (place : Pos) (how : Enabling) (xs ys : List EventName) (body body0 : Stmt) (old new : Draft) → Enable place ys body0 ≡ s → xs ≡ ys → body ≡ body0 → how ≡ enabling.Enable → LowersEnabling p how place.line xs body old new → LowersStmt p s old new
arm_enable p s place how xs ys body body0 old new h i j k a =
    let b : LowersEnabling p enabling.Enable place.line xs body old new = subst (λ (x : Enabling). LowersEnabling p x place.line xs body old new) k a in
    as_stmt p s (Enable place xs body) old new (ap (λ (l : List EventName). Enable place l body) i ∙ ap (λ (x : Stmt). Enable place ys x) j ∙ h)
    (lowers_as b (enabled_counted p place xs body (scope_of old)) (λ code x z w. w) (omega arith) (omega arith) (omega arith) (omega arith))

pub arm_disable : (p : Program) (s : Stmt) (place : Pos) (how : Enabling) (xs ys : List EventName) (body body0 : Stmt) (old new : Draft) → Disable place ys body0 ≡ s → xs ≡ ys → body ≡ body0 → how ≡ enabling.Disable → LowersEnabling p how place.line xs body old new → LowersStmt p s old new
arm_disable p s place how xs ys body body0 old new h i j k a =
    let b : LowersEnabling p enabling.Disable place.line xs body old new = subst (λ (x : Enabling). LowersEnabling p x place.line xs body old new) k a in
    as_stmt p s (Disable place xs body) old new (ap (λ (l : List EventName). Disable place l body) i ∙ ap (λ (x : Stmt). Disable place ys x) j ∙ h)
    (lowers_as b (disabled_counted p place xs body (scope_of old)) (λ code x z w. w) (omega arith) (omega arith) (omega arith) (omega arith))
