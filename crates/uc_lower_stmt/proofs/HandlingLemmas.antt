-- The handlers of guarded blocks, as they are added to a draft.
use Rattle.std.proofs.Common.{◌≡◌, ℕ, suc, ◌+◌, ◌≤◌, Bool, true, false, List, [], ◌∷◌, ◌++◌, Option, Some, None, drop, take, length, refl, ap, sym, subst, ◌∙◌, arith}
use Rattle.std.specs.Prelude.{if◌then◌else◌, nat_le, option_and_then, unwrap_or}
use Rattle.std.proofs.lemmas.Bool.{leb-true}
use Rattle.uc_tree.specs.declared.limits.TheConstants.{FIRST_EVENT, LAST_EVENT, UNHANDLED, FAILURE}
use Rattle.uc_tree.specs.Names.{same_name}
use Rattle.uc_tree.specs.declared.kinds.HandlerKind.{HandlerKind}
use Rattle.uc_tree.specs.declared.kinds.LocalVariable.{LocalVariable}
use Rattle.uc_tree.specs.declared.kinds.Place.{Place}
use Rattle.uc_tree.specs.declared.pos.Pos.{Pos}
use Rattle.uc_tree.specs.Cells.{classes_of, declared_cells, stmts_cells}
use Rattle.uc_tree.specs.Exits.{exits_handlers}
use Rattle.uc_tree.specs.Gathered.{gathered_all}
use Rattle.uc_tree.specs.Hidden.{KEPT_CELLS, hidden_in_all}
use Rattle.uc_tree.specs.Numbering.{at_most, event_names, own_sites, own_texts, place_from, unhandled_name, failure_name}
use Rattle.uc_tree.specs.Programs.{Program}
use Rattle.uc_resolve.specs.Resolve.{Scope, event_of_handler, number_of_event, handlers_meant, in_handler, scope_behind, scope_past_handler, stmts_meant, takes_resumptions, with_event}
use Rattle.uc_tree.specs.Statements as tree
use Rattle.uc_code.specs.declared.draft_parts.OuterScope.{OuterScope}
use Rattle.uc_code.specs.declared.op.Op.TheVariants as op
use Rattle.uc_code.specs.declared.rows.HandlerRow.{HandlerRow}
use Rattle.uc_code.specs.declared.rows.CodeMark.{CodeMark}
use Rattle.uc_code.specs.declared.rows.CodeMark.TheVariants as mark
use Rattle.uc_code.specs.declared.rows.RowKind.{RowKind}
use Rattle.uc_code.specs.declared.rows.Opening.TheVariants as opening
use Rattle.uc_code.specs.Drafts.{Draft}
use Rattle.uc_code.specs.Layout.{Laid, handlers, laid_in, takes_events}
use Rattle.uc_code.specs.Lowered.{HandlerBy, HandlersAt, IsNamed, KeepsAt, StmtsAt, event_of, handler_of, handler_rows, kind_of}
use Rattle.uc_code.specs.OpenRows.{closed, opened, row_in}
use Rattle.uc_code.specs.Emits.{Puts}
use Rattle.uc_code.specs.CodeShapes.{ApartAt, Both, HandledAt, HandlerAt, Kept, KeptBut, OpAt, Stable}
use Rattle.uc_code.proofs.Stable.{handled_stable, kept_piece, kept_then}
use Rattle.uc_code.proofs.Sweeping.{closed_marks, closed_ops, like_closed}
use Rattle.uc_lower_expr.proofs.Settled.{both}
use Rattle.uc_lower_expr.specs.DraftGrowth.{Adds, OpCode}
use Rattle.uc_lower_stmt.specs.Guarding.{LowersFrom}
use Rattle.uc_lower_stmt.specs.Handling.{EntersHandler, HandlerCode, LowersBody, LowersHandler, LowersHandlers, past_handlers, handler_body_rows}
use Rattle.uc_lower_stmt.specs.Marked.{objects_in}
use Rattle.uc_lower_stmt.specs.LowersStatement.{LowersStmts, scope_of, sizes_at}
use Rattle.uc_lower_stmt.proofs.Counted.{behind_counted, counted}
use Rattle.uc_lower_stmt.proofs.GuardingLemmas.{from_join, from_lowers, under_but, under_kept, under_then}
use Rattle.uc_lower_stmt.proofs.Joined.{lowers_as, lowers_nothing, lowers_put, lowers_count}
use Rattle.uc_lower_stmt.proofs.Kept.{handler_stable, keeps_stable, named_stable, stmts_stable}
use Rattle.uc_lower_stmt.proofs.Scoping.{back_out}
use Rattle.uc_lower_stmt.specs.RowFit.{open_rows}
use Rattle.uc_code.specs.RowGrowth.{AddsRows, BeginBy}
use Rattle.uc_code.proofs.Growth.{rows_closed}
use Rattle.uc_lower_stmt.proofs.RowFitting.{fit_closed, fit_less, fit_like, fit_opened, fit_then, fit_count}
use Rattle.uc_lower_stmt.specs.SourceRows.{handled_body_rows, handled_rows_under, handlers_rows, handlers_rows_under, stmts_rows, stmts_rows_under}
use Rattle.uc_code.specs.RowCounts.{loop_rows, return_rows}
use Rattle.uc_tree.specs.Source.{Handlers, MoreHandlers, Stmts}

-- a block has a row for each handler
pub rows_are : (p : Program) (hs : tree.Handlers) (s : Scope) → handler_rows (handlers_meant p hs s) ≡ length (tree.handler_list hs)
rows_are p tree.NoHandlers s = refl
rows_are p (tree.MoreHandlers (tree.Handles pos kind event param brace body) hs) s = ap suc (rows_are p hs (scope_past_handler p (tree.Handles pos kind event param brace body) s))

pub listed : (hs : List tree.Handler) → length (tree.handler_list (tree.handlers_of hs)) ≡ length hs
listed [] = refl
listed (h ∷ hs) = ap suc (listed hs)

-- a handler that catches goes on by the pad

pub arm_catches : (p : Program) (pad line : ℕ) (resumes : Bool) (body : tree.Stmts) (d0 d1 d2 : Draft) → resumes ≡ false → LowersStmts p line body d0 d1 → Adds 1 (OpCode line (op.Jump pad)) d1 d2 → LowersBody p pad resumes line body d0 d2
arm_catches p pad line resumes body d0 d1 d2 r w a =
    let ss = stmts_meant p body (scope_of d0) in
    lowers_count (ap (λ (b : Bool). handled_rows_under d0.marks b ss) (sym r)) (
    lowers_as (lowers_put (stmts_stable d0.marks line ss) w a) refl
    (λ code x z y. subst (λ (b : Bool). HandlerBy code b d0.marks pad line (λ ns. StmtsAt code ns line ss) x z) (sym r) y) (omega arith) (omega arith) (omega arith) refl)

-- one of resumptions stands apart, and ends with its activation

module _ (p : Program) (pad line : ℕ) (resumes : Bool) (body : tree.Stmts) (d0 d1 d2 d3 new : Draft) (r : resumes ≡ true) (oe : d1 ≡ opened (opening.Outward 0) d0) (k1 : Kept (laid_in d0) (laid_in d1)) (w : LowersStmts p line body d1 d2)
    (ce : d3 ≡ closed 0 d2) (k3 : Kept (laid_in d2) (laid_in d3)) (g : Adds 1 (OpCode 0 op.Return) d3 new) where
  abbrev row : ℕ
  row = length d0.rows

  abbrev code : Laid
  code = laid_in new

  abbrev inner : List CodeMark
  inner = mark.Outward 0 row ∷ d0.marks

  marks1 : d1.marks ≡ inner
  marks1 = ap (λ (d : Draft). d.marks) oe

  marks2 : d2.marks ≡ inner
  marks2 = ap (λ (d : Draft). d.marks) w.rest ∙ marks1

  marks3 : d3.marks ≡ d0.marks
  marks3 = closed_marks 0 row d2 d3 ce (ap row_in marks2) ∙ ap (λ (ms : List CodeMark). drop 1 ms) marks2

  ops1 : length d1.ops ≡ length d0.ops
  ops1 = ap (λ (d : Draft). length d.ops) oe

  ops3 : length d3.ops ≡ length d2.ops
  ops3 = ap length (closed_ops 0 d2 d3 ce)

  scope1 : scope_of d1 ≡ scope_of d0
  scope1 = ap scope_of oe

  keep2 : Kept (laid_in d2) code
  keep2 = kept_then (laid_in d2) (laid_in d3) code k3 g.kept

  body_at : StmtsAt code inner line (stmts_meant p body (scope_of d0)) (length d0.ops) (length d2.ops)
  body_at =
      subst (λ (s : Scope). StmtsAt code inner line (stmts_meant p body s) (length d0.ops) (length d2.ops)) scope1 (
      subst (λ (a : ℕ). StmtsAt code inner line (stmts_meant p body (scope_of d1)) a (length d2.ops)) ops1 (
      subst (λ (ms : List CodeMark). StmtsAt code ms line (stmts_meant p body (scope_of d1)) (length d1.ops) (length d2.ops)) marks1 (
      kept_piece (λ c. StmtsAt c d1.marks line (stmts_meant p body (scope_of d1))) (stmts_stable d1.marks line (stmts_meant p body (scope_of d1))) (laid_in d2) code (length d1.ops) (length d2.ops) (omega arith) keep2 w.code)))

  apart : ApartAt code d0.marks (λ ns. StmtsAt code ns line (stmts_meant p body (scope_of d0))) (length d0.ops) (length new.ops)
  apart = record {
    row = row;
    body_end = length d2.ops;
    body = body_at;
    returns = subst (λ (a : ℕ). OpAt code a op.Return 0) ops3 g.code.here;
    end = (let b = g.code.end in omega (arith, ops3));
  }

  rest3 : d3 ≡ record d0 { ops = d3.ops; rows = d3.rows; settled = d3.settled; scopes = d2.scopes; names = d2.names; cells = d2.cells; hidden = d2.hidden; texts = d2.texts; sites = d2.sites }
  rest3 =
      like_closed 0 d2 d2 d3 refl ce
      ∙ ap (λ (d : Draft). let x : Draft = record d { ops = d3.ops; rows = d3.rows; settled = d3.settled; marks = d3.marks } in x) w.rest
      ∙ ap (λ (d : Draft). let x : Draft = record d { ops = d3.ops; rows = d3.rows; settled = d3.settled; marks = d3.marks; scopes = d2.scopes; names = d2.names; cells = d2.cells; hidden = d2.hidden; texts = d2.texts; sites = d2.sites } in x) oe
      ∙ ap (λ (ms : List CodeMark). let x : Draft = record d0 { ops = d3.ops; rows = d3.rows; settled = d3.settled; marks = ms; scopes = d2.scopes; names = d2.names; cells = d2.cells; hidden = d2.hidden; texts = d2.texts; sites = d2.sites } in x) marks3

  rest : new ≡ record d0 { ops = new.ops; rows = d3.rows; settled = d3.settled; scopes = d2.scopes; names = d2.names; cells = d2.cells; hidden = d2.hidden; texts = d2.texts; sites = d2.sites }
  rest = g.rest ∙ ap (λ (d : Draft). let x : Draft = record d { ops = new.ops } in x) rest3

  marks_new : new.marks ≡ d0.marks
  marks_new = ap (λ (d : Draft). d.marks) rest

  pub arm_resumes : LowersBody p pad resumes line body d0 new
  arm_resumes =
      let same : objects_in d1.marks ≡ objects_in d0.marks = ap objects_in marks1 in
      let size : sizes_at body (objects_in d1.marks) ≡ sizes_at body (objects_in d0.marks) = ap (sizes_at body) same in
      let scopes1 : d1.scopes ≡ d0.scopes = ap (λ (d : Draft). d.scopes) oe in
      let texts1 : d1.texts ≡ d0.texts = ap (λ (d : Draft). d.texts) oe in
      let cells1 : d1.cells ≡ d0.cells = ap (λ (d : Draft). d.cells) oe in
      let scopes2 : new.scopes ≡ d2.scopes = ap (λ (d : Draft). d.scopes) rest in
      let texts2 : new.texts ≡ d2.texts = ap (λ (d : Draft). d.texts) rest in
      let cells2 : new.cells ≡ d2.cells = ap (λ (d : Draft). d.cells) rest in
      record {
        rest = subst (λ (d : Draft). d ≡ record d0 { ops = d.ops; rows = d.rows; settled = d.settled; scopes = d.scopes; names = d.names; cells = d.cells; hidden = d.hidden; texts = d.texts; sites = d.sites }) (sym rest) refl;
        scope = ap scope_of g.rest ∙ ap scope_of (like_closed 0 d2 d2 d3 refl ce) ∙ w.scope ∙ ap (scope_behind p body) scope1;
        opened = (let x = w.opened in omega arith);
        kept = kept_then (laid_in d0) (laid_in d1) code k1 (kept_then (laid_in d1) (laid_in d2) code w.kept keep2);
        rows =
            let one = fit_then w.kept.longer (fit_opened (opening.Outward 0) d0 d1 oe) w.rows in
            let end = g.code.end in
            let r3 = rows_closed 0 d2 d3 ce in
            let r4 : new.rows ≡ d3.rows = ap (λ (d : Draft). d.rows) g.rest in
            let body_rows : stmts_rows_under d1.marks (stmts_meant p body (scope_of d1)) ≡ stmts_rows 0 0 (stmts_meant p body (scope_of d0)) = ap (λ (d : Draft). stmts_rows_under d.marks (stmts_meant p body (scope_of d))) oe in
            let all_rows : handled_rows_under d0.marks resumes (stmts_meant p body (scope_of d0)) ≡ suc (stmts_rows 0 0 (stmts_meant p body (scope_of d0))) = ap (λ (b : Bool). handled_rows_under d0.marks b (stmts_meant p body (scope_of d0))) r in
            fit_count (omega (arith, body_rows, all_rows)) (fit_closed one r3 r4 (ap open_rows marks2) (ap open_rows marks_new) (omega (arith, ops3, end)) (omega (arith, ops3, end)));
        room = (let x = w.room in let y = g.room in omega (arith, size, ops1, ops3));
        texts = (let x = w.texts in omega arith);
        cells = (let x = w.cells in omega arith);
        code = subst (λ (b : Bool). HandlerBy code b d0.marks pad line (λ ns. StmtsAt code ns line (stmts_meant p body (scope_of d0))) (length d0.ops) (length new.ops)) (sym r) apart;
      }

-- a handler as a whole

event_named : (p : Program) (param event : Option (List ℕ)) (s : Scope) → with_event p param event s ≡ record s { names = (with_event p param event s).names }
event_named p None event s = refl
event_named p (Some name) None s = refl
event_named p (Some name) (Some event) s = refl

names_begin : (p : Program) (param event : Option (List ℕ)) (s : Scope) (ns : List LocalVariable) → take (length (with_event p param event s).names) ns ≡ (with_event p param event s).names → take (length s.names) ns ≡ s.names
names_begin p None event s ns e = e
names_begin p (Some name) None s ns e = e
names_begin p (Some name) (Some event) s ns e = shorter s.names _ ns e
  where
    shorter : (xs : List LocalVariable) (y : LocalVariable) (zs : List LocalVariable) → take (length (xs ++ y ∷ [])) zs ≡ xs ++ y ∷ [] → take (length xs) zs ≡ xs
    shorter [] y [] e = refl
    shorter [] y (z ∷ zs) e = refl
    shorter (x ∷ xs) y [] e = absurd (cc)
    shorter (x ∷ xs) y (z ∷ zs) e =
        let f : z ≡ x = cc in
        let g : take (length (xs ++ y ∷ [])) zs ≡ xs ++ y ∷ [] = cc in
        ap (λ (k : LocalVariable). k ∷ take (length xs) zs) f ∙ ap (λ (l : List LocalVariable). x ∷ l) (shorter xs y zs g)

module _ (p : Program) (row pad : ℕ) (pos : Pos) (kind : HandlerKind) (event param : Option (List ℕ)) (brace : Pos) (body : tree.Stmts) (d0 d1 d2 d3 new : Draft)
    (en : EntersHandler p row (takes_resumptions kind) event param brace.line d0 d1) (w : LowersBody p pad (takes_resumptions kind) brace.line body d1 d2)
    (le : d3 ≡ record d2 { place = record d2.place { scope = d0.place.scope }; names = take (length d0.names) d2.names }) (he : new ≡ record d3 { handled = d0.handled }) where
  abbrev h : tree.Handler
  h = tree.Handles pos kind event param brace body

  abbrev s : Scope
  s = scope_of d0

  abbrev t : Scope
  t = in_handler p h s

  -- the parameter goes
  names_back : take (length d0.names) d2.names ≡ d0.names
  names_back =
      let named : d2.names ≡ (scope_behind p body t).names = ap (λ (x : Scope). x.names) (w.scope ∙ ap (scope_behind p body) en.scope) in
      ap (λ (l : List LocalVariable). take (length d0.names) l) named ∙ names_begin p param event s (scope_behind p body t).names (back_out p body t)

  last : new ≡ record d2 { place = record d2.place { scope = d0.place.scope }; names = d0.names; handled = d0.handled }
  last = he ∙ ap (λ (x : Draft). let d : Draft = record x { handled = d0.handled } in d) le
      ∙ ap (λ (l : List LocalVariable). let d : Draft = record d2 { place = record d2.place { scope = d0.place.scope }; names = l; handled = d0.handled } in d) names_back

  rest_laid : new ≡ record d0 { ops = d2.ops; rows = d2.rows; settled = d2.settled; scopes = d2.scopes; names = d0.names; cells = d2.cells; hidden = d2.hidden; texts = d2.texts; sites = d2.sites }
  rest_laid =
      last
      ∙ ap (λ (x : Draft). let d : Draft = record x { place = record x.place { scope = d0.place.scope }; ops = d2.ops; rows = d2.rows; settled = d2.settled; scopes = d2.scopes; names = d0.names; handled = d0.handled; cells = d2.cells; hidden = d2.hidden; texts = d2.texts; sites = d2.sites } in d) w.rest
      ∙ ap (λ (x : Draft). let d : Draft = record x { place = record d1.place { scope = d0.place.scope }; ops = d2.ops; rows = d2.rows; settled = d2.settled; scopes = d2.scopes; names = d0.names; handled = d0.handled; cells = d2.cells; hidden = d2.hidden; texts = d2.texts; sites = d2.sites } in d) en.rest
      ∙ ap (λ (q : Place). let d : Draft = record d0 { place = record q { scope = d0.place.scope }; ops = d2.ops; rows = d2.rows; settled = d2.settled; scopes = d2.scopes; names = d0.names; cells = d2.cells; hidden = d2.hidden; texts = d2.texts; sites = d2.sites } in d) en.place

  -- what it counts
  behind : scope_of new ≡ scope_past_handler p h s
  behind =
      let counts : scope_of d2 ≡ counted t (scope_behind p body t).names (t.cells + stmts_cells body (declared_cells p)) (s.hidden + KEPT_CELLS + hidden_in_all body) (t.texts + length (gathered_all own_texts body)) (t.sites + length (gathered_all (own_sites None 0) body)) =
      w.scope ∙ ap (scope_behind p body) en.scope ∙ behind_counted p body t in
      let back : scope_of new ≡ record (scope_of d2) { names = s.names; handled = s.handled } = ap scope_of last in
      back ∙ ap (λ (x : Scope). let y : Scope = record x { names = s.names; handled = s.handled } in y) counts
      ∙ ap (λ (u : Scope). let y : Scope = record u { names = s.names; handled = s.handled; cells = u.cells + stmts_cells body (declared_cells p); hidden = s.hidden + KEPT_CELLS + hidden_in_all body; texts = u.texts + length (gathered_all own_texts body); sites = u.sites + length (gathered_all (own_sites None 0) body) } in y) (event_named p param event s)

  abbrev laid : Laid
  laid = laid_in new

  code2 : HandlerCode p row pad d0.marks h s (laid_in d2) (length d0.ops) (length d2.ops)
  code2 =
      let marks1 : d1.marks ≡ d0.marks = ap (λ (d : Draft). d.marks) en.rest in
      record {
        named = en.named;
        handler = record {
          handler_at = w.kept.handlers row _ en.handler;
          body = record {
            middle = length d1.ops;
            first = kept_piece (λ c. KeepsAt c brace.line d0.hidden) (keeps_stable brace.line d0.hidden) (laid_in d1) (laid_in d2) (length d0.ops) (length d1.ops) (omega arith) w.kept en.keeps;
            second = subst (λ (x : Scope). HandlerBy (laid_in d2) (takes_resumptions kind) d0.marks pad brace.line (λ ns. StmtsAt (laid_in d2) ns brace.line (stmts_meant p body x)) (length d1.ops) (length d2.ops)) en.scope
                (subst (λ (ms : List CodeMark). HandlerBy (laid_in d2) (takes_resumptions kind) ms pad brace.line (λ ns. StmtsAt (laid_in d2) ns brace.line (stmts_meant p body (scope_of d1))) (length d1.ops) (length d2.ops)) marks1 w.code);
          };
        };
      }

  keeps_laid : Kept (laid_in d1) laid
  keeps_laid = subst (λ (d : Draft). Kept (laid_in d1) (laid_in d)) (sym last) w.kept

  pub handler_laid : LowersHandler p row pad h d0 new
  handler_laid =
      let marks1 : d1.marks ≡ d0.marks = ap (λ (d : Draft). d.marks) en.rest in
      let objects1 : objects_in d1.marks ≡ objects_in d0.marks = ap objects_in marks1 in
      let size : sizes_at body (objects_in d1.marks) ≡ sizes_at body (objects_in d0.marks) = ap (sizes_at body) objects1 in
      let texts1 : d1.texts ≡ d0.texts = ap (λ (d : Draft). d.texts) en.rest in
      let cells1 : d1.cells ≡ d0.cells = ap (λ (d : Draft). d.cells) en.rest in
      let scopes2 : new.scopes ≡ d2.scopes = ap (λ (d : Draft). d.scopes) rest_laid in
      let texts2 : new.texts ≡ d2.texts = ap (λ (d : Draft). d.texts) rest_laid in
      let cells2 : new.cells ≡ d2.cells = ap (λ (d : Draft). d.cells) rest_laid in
      let ops2 : length new.ops ≡ length d2.ops = ap (λ (d : Draft). length d.ops) rest_laid in
      record {
        rest = subst (λ (d : Draft). d ≡ record d0 { ops = d.ops; rows = d.rows; settled = d.settled; scopes = d.scopes; names = d.names; cells = d.cells; hidden = d.hidden; texts = d.texts; sites = d.sites }) (sym rest_laid) refl;
        scope = behind;
        opened = (let x = w.opened in let y = en.opened in omega arith);
        kept = under_then row row (laid_in d0) (laid_in d1) laid (omega arith) en.kept (under_kept row (laid_in d1) laid keeps_laid);
        rows =
            let body_rows : handled_rows_under d1.marks (takes_resumptions kind) (stmts_meant p body (scope_of d1)) ≡ handler_body_rows p d0.marks h s =
            ap (λ (ns : List CodeMark). handled_rows_under ns (takes_resumptions kind) (stmts_meant p body (scope_of d1))) marks1 ∙ ap (λ (u : Scope). handled_rows_under d0.marks (takes_resumptions kind) (stmts_meant p body u)) en.scope in
            fit_count (omega (arith, body_rows)) (fit_like d0 new refl refl refl (ap (λ (d : Draft). d.rows) rest_laid) ops2 (ap (λ (d : Draft). open_rows d.marks) rest_laid ∙ sym (ap open_rows (ap (λ (d : Draft). d.marks) w.rest ∙ marks1))) (fit_then w.kept.longer en.rows w.rows));
        room = (let x = w.room in let y = en.room in omega (arith, size));
        texts = (let x = w.texts in omega arith);
        cells = (let x = w.cells in omega arith);
        code = subst (λ (d : Draft). HandlerCode p row pad d0.marks h s (laid_in d) (length d0.ops) (length d.ops)) (sym last) code2;
      }

-- where its body is a slice
pub handler_done : (p : Program) (row pad line : ℕ) (pos : Pos) (kind : HandlerKind) (event param : Option (List ℕ)) (brace : Pos) (xs ys : List tree.Stmt) (h : tree.Handler) (out : OuterScope) (around : ℕ) (d0 d1 d2 d3 new : Draft) → tree.Handles pos kind event param brace (tree.stmts_of ys) ≡ h → xs ≡ ys → line ≡ brace.line
    → out ≡ record { names = length d0.names; scope = d0.place.scope } → around ≡ d0.handled → EntersHandler p row (takes_resumptions kind) event param line d0 d1 → LowersBody p pad (takes_resumptions kind) line (tree.stmts_of xs) d1 d2
    → d3 ≡ record d2 { place = record d2.place { scope = out.scope }; names = take out.names d2.names } → new ≡ record d3 { handled = around } → LowersHandler p row pad h d0 new
handler_done p row pad line pos kind event param brace xs ys h out around d0 d1 d2 d3 new is e l oe ae en w le he =
    let en1 : EntersHandler p row (takes_resumptions kind) event param brace.line d0 d1 = subst (λ (n : ℕ). EntersHandler p row (takes_resumptions kind) event param n d0 d1) l en in
    let w1 : LowersBody p pad (takes_resumptions kind) brace.line (tree.stmts_of xs) d1 d2 = subst (λ (n : ℕ). LowersBody p pad (takes_resumptions kind) n (tree.stmts_of xs) d1 d2) l w in
    let w2 : LowersBody p pad (takes_resumptions kind) brace.line (tree.stmts_of ys) d1 d2 = subst (λ (zs : List tree.Stmt). LowersBody p pad (takes_resumptions kind) brace.line (tree.stmts_of zs) d1 d2) e w1 in
    let left : d3 ≡ record d2 { place = record d2.place { scope = d0.place.scope }; names = take (length d0.names) d2.names } = le ∙ ap (λ (x : OuterScope). let d : Draft = record d2 { place = record d2.place { scope = x.scope }; names = take x.names d2.names } in d) oe in
    let back : new ≡ record d3 { handled = d0.handled } = he ∙ ap (λ (n : ℕ). let d : Draft = record d3 { handled = n } in d) ae in
    subst (λ (x : tree.Handler). LowersHandler p row pad x d0 new) is (handler_laid p row pad pos kind event param brace (tree.stmts_of ys) d0 d1 d2 d3 new en1 w2 left back)

handler_code_stable : (p : Program) (row pad : ℕ) (ms : List CodeMark) (h : tree.Handler) (s : Scope) → Stable (HandlerCode p row pad ms h s)
handler_code_stable p row pad ms (tree.Handles pos kind event param brace body) s =
    let ss = stmts_meant p body (in_handler p (tree.Handles pos kind event param brace body) s) in
    let B : Laid → List CodeMark → ℕ → ℕ → Type 0 = λ code ns. StmtsAt code ns brace.line ss in
    named_stable (event_of_handler p event) (λ code. HandledAt code row (handler_of (takes_resumptions kind) (event_of_handler p event) (length (handlers ms))) (Both (KeepsAt code brace.line s.hidden) (HandlerBy code (takes_resumptions kind) ms pad brace.line (B code))))
    (handled_stable row (handler_of (takes_resumptions kind) (event_of_handler p event) (length (handlers ms))) (λ code. Both (KeepsAt code brace.line s.hidden) (HandlerBy code (takes_resumptions kind) ms pad brace.line (B code)))
    (both (keeps_stable brace.line s.hidden) (handler_stable (takes_resumptions kind) ms pad brace.line B (λ ns. stmts_stable ns brace.line ss))))

-- all handlers of a block

pub from_as : {x y r f n k c o m j b q : ℕ} {S T : Laid → ℕ → ℕ → Type 0} {s t : Scope} {old new : Draft} → LowersFrom x r f n k c o S s old new → y ≤ x → s ≡ t → ((code : Laid) (a z : ℕ) → S code a z → T code a z) → n ≤ m → k ≤ j → c ≤ b → o ≡ q → LowersFrom y r f m j b q T t old new
from_as {x} {y} {r} {f} {n} {k} {c} {o} {m} {j} {b} {q} {S} {T} {s} {t} {old} {new} h l0 e g l1 l2 l3 l4 = record {
  rest = h.rest;
  scope = h.scope ∙ e;
  opened = let x = h.opened in omega arith;
  kept = h.kept;
  rows = fit_less l0 h.rows;
  room = let x = h.room in omega arith;
  texts = let x = h.texts in omega arith;
  cells = let x = h.cells in omega arith;
  code = g (laid_in new) (length old.ops) (length new.ops) h.code;
}

-- the rows that come, by another count
pub from_count : {x q r f n k c o : ℕ} {S : Laid → ℕ → ℕ → Type 0} {s : Scope} {old new : Draft} → q ≡ r → LowersFrom x q f n k c o S s old new → LowersFrom x r f n k c o S s old new
from_count e h = record { rest = h.rest; scope = h.scope; opened = h.opened; kept = h.kept; rows = fit_count e h.rows; room = h.room; texts = h.texts; cells = h.cells; code = h.code }

first_rows : (loop out : ℕ) (resumes : Bool) (event : Option ℕ) (cell line : ℕ) (body : Stmts) (others : Handlers) → handlers_rows loop out (MoreHandlers resumes event cell line body others) ≡ handled_body_rows loop out resumes body + handlers_rows loop out others
first_rows loop out false event cell line body others = refl
first_rows loop out true event cell line body others = refl

pub handlers_none : (p : Program) (first pad : ℕ) (old : Draft) → LowersHandlers p first pad tree.NoHandlers old old
handlers_none p first pad old = from_as (from_lowers first (lowers_nothing old)) (omega arith) refl (λ code a z x. x) (omega arith) (omega arith) (omega arith) refl

pub handlers_more : (p : Program) (first pad : ℕ) (h : tree.Handler) (hs : tree.Handlers) (d0 d1 d2 : Draft) → LowersHandler p (first + length (tree.handler_list hs)) pad h d0 d1 → LowersHandlers p first pad hs d1 d2 → LowersHandlers p first pad (tree.MoreHandlers h hs) d0 d2
handlers_more p first pad (tree.Handles pos kind event param brace body) hs d0 d1 d2 w v =
    let h : tree.Handler = tree.Handles pos kind event param brace body in
    let ms : List CodeMark = d0.marks in
    let s : Scope = scope_of d0 in
    let more : Scope = scope_past_handler p h s in
    let row : ℕ = first + length (tree.handler_list hs) in
    let rows : length (tree.handler_list hs) ≡ handler_rows (handlers_meant p hs more) = sym (rows_are p hs more) in
    let marks1 : d1.marks ≡ ms = ap (λ (d : Draft). d.marks) w.rest in
    let objects1 : objects_in d1.marks ≡ objects_in ms = ap objects_in marks1 in
    let exits1 = ap (exits_handlers hs) objects1 in
    let last : past_handlers p hs (scope_of d1) ≡ past_handlers p hs more = ap (past_handlers p hs) w.scope in
    let rest_rows : handlers_rows_under d1.marks (handlers_meant p hs (scope_of d1)) ≡ handlers_rows_under ms (handlers_meant p hs more) =
    ap (λ (ns : List CodeMark). handlers_rows_under ns (handlers_meant p hs (scope_of d1))) marks1 ∙ ap (λ (t : Scope). handlers_rows_under ms (handlers_meant p hs t)) w.scope in
    let all_rows = first_rows (loop_rows ms) (return_rows ms) (takes_resumptions kind) (event_of_handler p event) s.hidden brace.line (stmts_meant p body (in_handler p h s)) (handlers_meant p hs more) in
    from_count (omega (arith, rest_rows, all_rows)) (
    from_as (from_join (omega arith) (handler_code_stable p row pad ms h s) w v) (omega arith) last
    (λ code a z x. record {
      middle = x.middle;
      first = subst (λ (n : ℕ). HandlerCode p (first + n) pad ms h s code a x.middle) rows x.first;
      second = subst (λ (t : Scope). HandlersAt code ms first pad (handlers_meant p hs t) x.middle z) w.scope (subst (λ (ns : List CodeMark). HandlersAt code ns first pad (handlers_meant p hs (scope_of d1)) x.middle z) marks1 x.second);
    })
    (omega (arith, exits1)) (omega arith) (omega arith) refl)

-- of those in a slice

pub none_laid : (p : Program) (first pad : ℕ) (xs : List tree.Handler) (old : Draft) → length xs ≡ 0 → LowersHandlers p first pad (tree.handlers_of xs) old old
none_laid p first pad [] old e = handlers_none p first pad old
none_laid p first pad (x ∷ xs) old e = absurd (omega (arith, e))

pub more_laid : (p : Program) (first pad row : ℕ) (h : tree.Handler) (hs xs : List tree.Handler) (d0 d1 d2 : Draft) → xs ≡ h ∷ hs → row ≡ first + length hs → LowersHandler p row pad h d0 d1 → LowersHandlers p first pad (tree.handlers_of hs) d1 d2 → LowersHandlers p first pad (tree.handlers_of xs) d0 d2
more_laid p first pad row h hs xs d0 d1 d2 e r w v =
    let at : row ≡ first + length (tree.handler_list (tree.handlers_of hs)) = r ∙ ap (λ (n : ℕ). first + n) (sym (listed hs)) in
    subst (λ (ys : List tree.Handler). LowersHandlers p first pad (tree.handlers_of ys) d0 d2) (sym e)
    (handlers_more p first pad h (tree.handlers_of hs) d0 d1 d2 (subst (λ (n : ℕ). LowersHandler p n pad h d0 d1) at w) v)

pub rows_alone : (old new : Draft) (rows : List HandlerRow) → new ≡ record old { rows = rows } → new ≡ record old { rows = new.rows }
rows_alone old new rows e = subst (λ (d : Draft). d ≡ record old { rows = d.rows }) (sym e) refl

-- an event has a number less than that which stands for every one

number_few : (o : Option ℕ) → unwrap_or (option_and_then (at_most LAST_EVENT) o) 0 ≤ LAST_EVENT
number_few None = omega arith
number_few (Some n) = by_case (nat_le n LAST_EVENT) refl
  where
    by_case : (b : Bool) → nat_le n LAST_EVENT ≡ b → unwrap_or (if b then Some n else None) 0 ≤ LAST_EVENT
    by_case true e = leb-true n LAST_EVENT e
    by_case false e = omega arith

pub event_few : (p : Program) (name : List ℕ) → number_of_event p name ≤ LAST_EVENT
event_few p name = by_case (same_name unhandled_name name) (same_name failure_name name)
  where
    by_case : (b f : Bool) → unwrap_or (if b then Some UNHANDLED else if f then Some FAILURE else option_and_then (at_most LAST_EVENT) (place_from FIRST_EVENT (event_names (classes_of p.items)) name)) 0 ≤ LAST_EVENT
    by_case true f = omega arith
    by_case false true = omega arith
    by_case false false = number_few (place_from FIRST_EVENT (event_names (classes_of p.items)) name)

pub named_few : (p : Program) (event : Option (List ℕ)) → IsNamed (event_of_handler p event)
named_few p None = record { few = λ n e. absurd (cc) }
named_few p (Some name) = record { few = λ n e. let is : number_of_event p name ≡ n = cc in let l = event_few p name in omega (arith, is, l) }

-- where a handler begins

keeps_long : (line cell : ℕ) (code : Laid) (a z : ℕ) → KeepsAt code line cell a z → a + 1 ≤ z
keeps_long line cell code a z h =
    let a1 = h.first.first.end in let a2 = h.first.second.end in
    let b1 = h.second.first.first.end in let b2 = h.second.first.second.end in
    let c1 = h.second.second.first.end in let c2 = h.second.second.second.end in
    omega arith

pub kinds_take : (taker : RowKind) (resumes : Bool) → taker ≡ kind_of resumes → takes_events taker ≡ true
kinds_take taker true e = ap takes_events e
kinds_take taker false e = ap takes_events e

module _ (p : Program) (row number cell scope : ℕ) (taker : RowKind) (resumes : Bool) (event param : Option (List ℕ)) (line : ℕ) (d0 d1 d2 d3 d4 d5 new : Draft)
    (ke : taker ≡ kind_of resumes) (ne : number ≡ event_of (event_of_handler p event)) (few : IsNamed (event_of_handler p event))
    (b1 : d1 ≡ record d0 { rows = d1.rows }) (h1 : HandlerAt (laid_in d1) row (record { kind = taker; event = number; rest = length (handlers d0.marks); entry = length d0.ops })) (k1 : KeptBut row (laid_in d0) (laid_in d1))
    (e2 : d2 ≡ record d1 { hidden = d1.hidden + KEPT_CELLS }) (ce : cell ≡ d1.hidden) (p3 : Puts 0 6 (λ code. KeepsAt code line cell) d2 d3) (e4 : d4 ≡ record d3 { handled = cell })
    (grown : AddsRows 0 (length d0.ops) d0 d1) (e5 : d5 ≡ record d4 { place = record d4.place { scope = scope }; scopes = d4.scopes + 1 }) (e6 : (q : Program) (u : Scope) → u.names ≡ d5.names → cell + 1 ≡ u.hidden + 1 → new ≡ record d5 { names = (with_event q param event u).names }) where
  cell_is : cell ≡ d0.hidden
  cell_is = ce ∙ ap (λ (d : Draft). d.hidden) b1

  names_five : d5.names ≡ d0.names
  names_five = ap (λ (d : Draft). d.names) e5 ∙ ap (λ (d : Draft). d.names) e4 ∙ ap (λ (d : Draft). d.names) p3.rest ∙ ap (λ (d : Draft). d.names) e2 ∙ ap (λ (d : Draft). d.names) b1

  declared : new ≡ record d5 { names = (with_event p param event (scope_of d0)).names }
  declared = e6 p (scope_of d0) (sym names_five) (ap (λ (n : ℕ). n + 1) cell_is)

  third : d3 ≡ record d0 { ops = d3.ops; rows = d3.rows; settled = d3.settled; hidden = d0.hidden + KEPT_CELLS }
  third = p3.rest ∙ ap (λ (x : Draft). let d : Draft = record x { ops = d3.ops; rows = d3.rows; settled = d3.settled } in d) e2
      ∙ ap (λ (x : Draft). let d : Draft = record x { ops = d3.ops; rows = d3.rows; settled = d3.settled; hidden = x.hidden + KEPT_CELLS } in d) b1

  is : new ≡ record d0 { place = record d0.place { scope = scope }; ops = d3.ops; rows = d3.rows; settled = d3.settled; scopes = d0.scopes + 1; names = (with_event p param event (scope_of d0)).names; handled = d0.hidden; hidden = d0.hidden + KEPT_CELLS }
  is =
      declared ∙ ap (λ (x : Draft). let d : Draft = record x { names = (with_event p param event (scope_of d0)).names } in d) e5
      ∙ ap (λ (x : Draft). let d : Draft = record x { place = record x.place { scope = scope }; scopes = x.scopes + 1; names = (with_event p param event (scope_of d0)).names } in d) e4
      ∙ ap (λ (x : Draft). let d : Draft = record x { place = record x.place { scope = scope }; scopes = x.scopes + 1; names = (with_event p param event (scope_of d0)).names; handled = cell } in d) third
      ∙ ap (λ (n : ℕ). let d : Draft = record d0 { place = record d0.place { scope = scope }; ops = d3.ops; rows = d3.rows; settled = d3.settled; scopes = d0.scopes + 1; names = (with_event p param event (scope_of d0)).names; handled = n; hidden = d0.hidden + KEPT_CELLS } in d) cell_is

  ops_begun : length d2.ops ≡ length d0.ops
  ops_begun = ap (λ (d : Draft). length d.ops) e2 ∙ ap (λ (d : Draft). length d.ops) b1

  in_it : record (scope_of d0) { names = (with_event p param event (scope_of d0)).names; handled = d0.hidden; hidden = d0.hidden + KEPT_CELLS } ≡ record (with_event p param event (scope_of d0)) { handled = d0.hidden; hidden = d0.hidden + KEPT_CELLS }
  in_it = sym (ap (λ (u : Scope). let x : Scope = record u { handled = d0.hidden; hidden = d0.hidden + KEPT_CELLS } in x) (event_named p param event (scope_of d0)))

  keep_put : Kept (laid_in d2) (laid_in d3)
  keep_put = p3.kept

  keep_begun : Kept (laid_in d1) (laid_in d3)
  keep_begun = subst (λ (d : Draft). Kept (laid_in d) (laid_in d3)) e2 keep_put

  pub entered : EntersHandler p row resumes event param line d0 new
  entered = subst (λ (d : Draft). EntersHandler p row resumes event param line d0 d) (sym is) (record {
    rest = refl;
    place = refl;
    scope = in_it;
    opened = refl;
    kept = under_then row row (laid_in d0) (laid_in d1) (laid_in d3) (omega arith) (under_but row (laid_in d0) (laid_in d1) k1) (under_kept row (laid_in d1) (laid_in d3) keep_begun);
    rows = record {
      more =
          let a = p3.rows.more in
          let b : length d2.rows ≡ length d1.rows = ap (λ (d : Draft). length d.rows) e2 in
          let g = grown.more in
          omega arith;
      few =
          let a = p3.rows.more in
          let b : length d2.rows ≡ length d1.rows = ap (λ (d : Draft). length d.rows) e2 in
          let g = grown.more in
          let c = keeps_long line cell (laid_in d3) (length d2.ops) (length d3.ops) p3.code in
          omega (arith, ops_begun);
      begin = λ k l w. p3.rows.begin k l (subst (BeginBy k) (sym (ap (λ (d : Draft). d.rows) e2)) (grown.begin k (let c = keeps_long line cell (laid_in d3) (length d2.ops) (length d3.ops) p3.code in omega (arith, ops_begun)) w));
    };
    room = (let x = p3.room in omega (arith, ops_begun));
    named = few;
    handler = subst (λ (k : RowKind). HandlerAt (laid_in d3) row (record { kind = k; event = event_of (event_of_handler p event); rest = length (handlers d0.marks); entry = length d0.ops })) ke
        (subst (λ (n : ℕ). HandlerAt (laid_in d3) row (record { kind = taker; event = n; rest = length (handlers d0.marks); entry = length d0.ops })) ne (keep_begun.handlers row _ h1));
    keeps = subst (λ (n : ℕ). KeepsAt (laid_in d3) line n (length d0.ops) (length d3.ops)) cell_is (subst (λ (a : ℕ). KeepsAt (laid_in d3) line cell a (length d3.ops)) ops_begun p3.code);
  })
