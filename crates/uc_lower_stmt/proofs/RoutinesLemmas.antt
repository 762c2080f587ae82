-- The code of a routine.
use Rattle.std.proofs.Common.{◌≡◌, ℕ, zero, suc, ◌+◌, ◌*◌, ◌≤◌, ◌<◌, Bool, true, false, List, [], ◌∷◌, ◌++◌, length, drop, take, get_or, refl, ap, sym, subst, ◌∙◌, arith, append_assoc, append-nil}
use Rattle.std.specs.Prelude.{Option, Some, None, ◌&&◌, ◌||◌, nat_eq, slice_set, if◌then◌else◌}
use Rattle.std.proofs.Common.{max, take_all}
use Rattle.std.proofs.Math.Nat.{max-eq_left, max_comm}
use Rattle.std.proofs.lemmas.List.{take_more}
use Rattle.uc_tree.specs.declared.limits.TheConstants.{OPS_FOR_SIZE}
use Rattle.uc_tree.specs.declared.kinds.Base.{Base}
use Rattle.uc_tree.specs.declared.kinds.LocalVariable.{LocalVariable}
use Rattle.uc_tree.specs.declared.kinds.Param.{Param}
use Rattle.uc_tree.specs.declared.kinds.Role.{Role}
use Rattle.uc_tree.specs.declared.kinds.Role.TheVariants as role
use Rattle.uc_tree.specs.Gathered.{gathered_all}
use Rattle.uc_tree.specs.Numbering.{is_plain, own_texts, own_sites}
use Rattle.uc_tree.specs.Statements.{Stmts}
use Rattle.uc_tree.specs.StatementSizes.{stmts_size}
use Rattle.uc_tree.specs.Cells.{declared_cells, param_cells, params_cells, routine_cells, stmts_cells}
use Rattle.uc_tree.specs.Scopes.{stmts_scopes}
use Rattle.uc_tree.specs.ProgramMain.{is_void, main_number}
use Rattle.uc_tree.specs.Programs.{Class, Program, Routine}
use Rattle.uc_tree.specs.Source as source
use Rattle.uc_resolve.specs.Resolve.{Scope, param_known, params_known, stmts_meant, scope_behind, routine_scope, body_by, class_by, has_coroutines, has_number_in, has_tasks, is_main, owing, plain_body, routine_meant, purpose_of, role_purpose, value_purpose}
use Rattle.uc_code.specs.declared.op.Op.TheVariants as op
use Rattle.uc_code.specs.declared.rows.Cleaning.TheVariants as cleaning
use Rattle.uc_code.specs.declared.rows.MainOf.{MainOf}
use Rattle.uc_code.specs.declared.rows.MainOf.TheVariants as main_of
use Rattle.uc_code.specs.declared.rows.CodeMark.{CodeMark}
use Rattle.uc_code.specs.declared.rows.CodeMark.TheVariants as mark
use Rattle.uc_code.specs.declared.rows.Opening.TheVariants as opening
use Rattle.uc_code.specs.declared.rows.RoutineCode.{RoutineCode}
use Rattle.uc_code.specs.Drafts.{Draft}
use Rattle.uc_code.specs.Layout.{Laid, laid_in}
use Rattle.uc_code.specs.OpenRows.{closed, handler_in, left_marks, opened, row_in}
use Rattle.uc_code.specs.CodeShapes.{Both, HandlerAt, Kept, MainAt, One, OpAt, Stable, clean_up, main_end, main_left}
use Rattle.uc_code.specs.ObjectCalls.{Left}
use Rattle.uc_code.specs.Lowered.{StmtsAt, BodyAt, RoutineAt}
use Rattle.uc_code.proofs.Stable.{kept_piece, kept_then, nothing_stable, one_stable}
use Rattle.uc_code.proofs.Sweeping.{closed_marks, closed_ops, like_closed}
use Rattle.uc_lower_expr.specs.DraftGrowth.{Adds, OpCode}
use Rattle.uc_lower_expr.proofs.Adding.{adds_more, adds_both, adds_nothing}
use Rattle.uc_lower_stmt.specs.Marked.{objects_in}
use Rattle.uc_lower_stmt.specs.LowersStatement.{Lowers, LowersStmts, scope_of, sizes_at}
use Rattle.uc_lower_stmt.specs.Routines.{EndCode, OwedCode, LowersMutex, LowersPlain, LowersRoutine, frame_cells, main_in, purpose_by}
use Rattle.uc_lower_stmt.specs.Objects.{ClosesScope, call_room}
use Rattle.uc_lower_stmt.proofs.Ending.{scope_ended}
use Rattle.uc_lower_stmt.proofs.Kept.{stmts_stable}
use Rattle.uc_lower_stmt.proofs.Unnumbered.{main_unnumbered}
use Rattle.uc_lower_stmt.proofs.Counted.{behind_counted}
use Rattle.uc_lower_stmt.proofs.Joined.{lowers_as, lowers_put, lowers_count}
use Rattle.uc_lower_stmt.proofs.Shaping.{lowers_marked}
use Rattle.uc_lower_stmt.specs.RowFit.{RoutineRows, RowsFit, open_rows}
use Rattle.uc_code.specs.RowGrowth.{BeginBy}
use Rattle.uc_code.proofs.Growth.{rows_closed}
use Rattle.uc_lower_stmt.proofs.RowFitting.{fit_adds, fit_closed, fit_opened, fit_then, fit_count}
use Rattle.uc_lower_stmt.specs.SourceRows.{body_rows, routine_rows, stmts_rows, stmts_rows_under}

-- parameters one by one

params_push : (p : Program) (cell : ℕ) (xs : List Param) (x : Param) → params_known p cell (xs ++ x ∷ []) ≡ params_known p cell xs ++ param_known p (cell + params_cells p xs) x ∷ []
params_push p cell [] x = let e : cell ≡ cell + 0 = omega arith in ap (λ (n : ℕ). param_known p n x ∷ []) e
params_push p cell (y ∷ ys) x =
    let e : cell + param_cells p y + params_cells p ys ≡ cell + (param_cells p y + params_cells p ys) = omega arith in
    ap (λ (l : List LocalVariable). param_known p cell y ∷ l) (params_push p (cell + param_cells p y) ys x ∙ ap (λ (n : ℕ). params_known p (cell + param_cells p y) ys ++ param_known p n x ∷ []) e)

cells_push : (p : Program) (xs : List Param) (x : Param) → params_cells p (xs ++ x ∷ []) ≡ params_cells p xs + param_cells p x
cells_push p [] x = omega arith
cells_push p (y ∷ ys) x = omega (arith, cells_push p ys x)

pub params_fit : (p : Program) (xs : List Param) (i : ℕ) (x : Param) → i < length xs → x ≡ get_or xs i x → params_cells p (take i xs) + param_cells p x ≤ params_cells p xs
params_fit p [] i x h e = absurd (omega arith)
params_fit p (y ∷ ys) zero x h e = let a : param_cells p x ≡ param_cells p y = ap (param_cells p) e in omega arith
params_fit p (y ∷ ys) (suc i) x h e = let r = params_fit p ys i x (omega arith) e in omega arith

-- a draft with these parameters
abbrev pub with_params : Program → List Param → Draft → Draft
with_params p xs d = record d { names = d.names ++ params_known p d.cells xs; cells = d.cells + params_cells p xs }

params_begin : (p : Program) (d : Draft) → d ≡ with_params p [] d
params_begin p d =
    let c : d.cells ≡ d.cells + 0 = omega arith in
    ap (λ (l : List LocalVariable). let x : Draft = record d { names = l } in x) (sym (append-nil d.names)) ∙ ap (λ (n : ℕ). let x : Draft = record d { names = d.names ++ []; cells = n } in x) c

pub params_start : (p : Program) (xs : List Param) (d : Draft) → d ≡ with_params p (take 0 xs) d
params_start p [] d = params_begin p d
params_start p (x ∷ xs) d = params_begin p d

pub params_step : (p : Program) (xs : List Param) (i : ℕ) (x : Param) (name : List ℕ) (b : Base) (r : Bool) (cells : ℕ) (old mid new : Draft) → i < length xs → x ≡ get_or xs i x → mid ≡ with_params p (take i xs) old → name ≡ x.name → b ≡ x.base → r ≡ x.by_ref → cells ≡ param_cells p x
    → new ≡ record mid { names = mid.names ++ record { name = name; ty = record { base = b; by_ref = r; len = None }; cell = mid.cells } ∷ []; cells = mid.cells + cells } → new ≡ with_params p (take (i + 1) xs) old
params_step p xs i x name b r cells old mid new h e was ne be re ce is =
    let ys : List Param = take i xs in
    let split : ys ++ x ∷ [] ≡ take (i + 1) xs = ap (λ (z : Param). ys ++ z ∷ []) e ∙ sym (take_more xs i x h) in
    let one : new ≡ record mid { names = mid.names ++ param_known p mid.cells x ∷ []; cells = mid.cells + param_cells p x } =
    is ∙ ap (λ (f : Bool). let d : Draft = record mid { names = mid.names ++ record { name = name; ty = record { base = b; by_ref = f; len = None }; cell = mid.cells } ∷ []; cells = mid.cells + cells } in d) re
    ∙ ap (λ (n : List ℕ). let d : Draft = record mid { names = mid.names ++ record { name = n; ty = record { base = b; by_ref = x.by_ref; len = None }; cell = mid.cells } ∷ []; cells = mid.cells + cells } in d) ne
    ∙ ap (λ (w : Base). let d : Draft = record mid { names = mid.names ++ record { name = x.name; ty = record { base = w; by_ref = x.by_ref; len = None }; cell = mid.cells } ∷ []; cells = mid.cells + cells } in d) be
    ∙ ap (λ (n : ℕ). let d : Draft = record mid { names = mid.names ++ param_known p mid.cells x ∷ []; cells = mid.cells + n } in d) ce in
    let two : new ≡ record old { names = (old.names ++ params_known p old.cells ys) ++ param_known p (old.cells + params_cells p ys) x ∷ []; cells = old.cells + params_cells p ys + param_cells p x } =
    one ∙ ap (λ (m : Draft). let d : Draft = record m { names = m.names ++ param_known p m.cells x ∷ []; cells = m.cells + param_cells p x } in d) was in
    let names : (old.names ++ params_known p old.cells ys) ++ param_known p (old.cells + params_cells p ys) x ∷ [] ≡ old.names ++ params_known p old.cells (ys ++ x ∷ []) =
    append_assoc old.names (params_known p old.cells ys) (param_known p (old.cells + params_cells p ys) x ∷ []) ∙ ap (λ (l : List LocalVariable). old.names ++ l) (sym (params_push p old.cells ys x)) in
    let count : old.cells + params_cells p ys + param_cells p x ≡ old.cells + params_cells p (ys ++ x ∷ []) = omega (arith, cells_push p ys x) in
    two ∙ ap (λ (l : List LocalVariable). let d : Draft = record old { names = l; cells = old.cells + params_cells p ys + param_cells p x } in d) names
    ∙ ap (λ (n : ℕ). let d : Draft = record old { names = old.names ++ params_known p old.cells (ys ++ x ∷ []); cells = n } in d) count
    ∙ ap (λ (zs : List Param). with_params p zs old) split

pub params_end : (p : Program) (xs : List Param) (i : ℕ) (old new : Draft) → length xs ≤ i → new ≡ with_params p (take i xs) old → new ≡ with_params p xs old
params_end p xs i old new h e = e ∙ ap (λ (zs : List Param). with_params p zs old) (take_all i xs h)

pub plain_role : (x : Role) → is_plain x ≡ true → x ≡ role.Plain
plain_role role.Plain e = refl
plain_role role.Constructor e = cc
plain_role role.Destructor e = cc

-- behind the statements of a main

main_code : (code : Laid) (main : MainOf) (number line : ℕ) (ss : source.Stmts) (a z : ℕ) → MainAt code main number line (λ ms. StmtsAt code ms line ss) a z → BodyAt code (purpose_by main) number line ss a z
main_code code main_of.Task number line ss a z h = h
main_code code main_of.Coroutine number line ss a z h = h

main_rows_are : (main : MainOf) (ss : source.Stmts) → body_rows (purpose_by main) ss ≡ suc (stmts_rows 0 0 ss)
main_rows_are main_of.Task ss = refl
main_rows_are main_of.Coroutine ss = refl

module _ (p : Program) (r : Routine) (main : MainOf) (number line : ℕ) (body : Stmts) (d0 d1 d2 d3 d4 new : Draft) (none : d0.marks ≡ []) (le : line ≡ r.brace.line) (be : body ≡ r.body)
    (oe : d1 ≡ opened (opening.Main main number line) d0) (k1 : Kept (laid_in d0) (laid_in d1)) (h : LowersStmts p line body d1 d2)
    (ce : d3 ≡ closed 1 d2) (k3 : Kept (laid_in d2) (laid_in d3)) (h3 : (row : ℕ) → handler_in d2.marks ≡ Some row → HandlerAt (laid_in d3) row (clean_up (length d2.ops + 1)))
    (g4 : Adds 1 (OpCode line (main_end main)) d3 d4) (g5 : Adds 1 (OpCode line (main_left main)) d4 new) where
  abbrev row : ℕ
  row = length d0.rows

  abbrev code : Laid
  code = laid_in new

  marks1 : d1.marks ≡ mark.Finish main number line row ∷ []
  marks1 = ap (λ (d : Draft). d.marks) oe ∙ ap (λ (ms : List CodeMark). mark.Finish main number line row ∷ ms) none

  marks2 : d2.marks ≡ mark.Finish main number line row ∷ []
  marks2 = ap (λ (d : Draft). d.marks) h.rest ∙ marks1

  marks3 : d3.marks ≡ d0.marks
  marks3 = closed_marks 1 row d2 d3 ce (ap row_in marks2) ∙ ap (λ (ms : List CodeMark). drop 1 ms) marks2 ∙ sym none

  ops1 : length d1.ops ≡ length d0.ops
  ops1 = ap (λ (d : Draft). length d.ops) oe

  ops3 : length d3.ops ≡ length d2.ops
  ops3 = ap length (closed_ops 1 d2 d3 ce)

  scope1 : scope_of d1 ≡ scope_of d0
  scope1 = ap scope_of oe

  keep4 : Kept (laid_in d4) code
  keep4 = g5.kept

  keep3 : Kept (laid_in d3) code
  keep3 = kept_then (laid_in d3) (laid_in d4) code g4.kept keep4

  keep2 : Kept (laid_in d2) code
  keep2 = kept_then (laid_in d2) (laid_in d3) code k3 keep3

  body_at : StmtsAt code (mark.Finish main number line row ∷ []) line (stmts_meant p body (scope_of d0)) (length d0.ops) (length d2.ops)
  body_at =
      subst (λ (s : Scope). StmtsAt code (mark.Finish main number line row ∷ []) line (stmts_meant p body s) (length d0.ops) (length d2.ops)) scope1 (
      subst (λ (a : ℕ). StmtsAt code (mark.Finish main number line row ∷ []) line (stmts_meant p body (scope_of d1)) a (length d2.ops)) ops1 (
      subst (λ (ms : List CodeMark). StmtsAt code ms line (stmts_meant p body (scope_of d1)) (length d1.ops) (length d2.ops)) marks1 (
      kept_piece (λ c. StmtsAt c d1.marks line (stmts_meant p body (scope_of d1))) (stmts_stable d1.marks line (stmts_meant p body (scope_of d1))) (laid_in d2) code (length d1.ops) (length d2.ops) (omega arith) keep2 h.code)))

  main_at : MainAt code main number line (λ ms. StmtsAt code ms line (stmts_meant p body (scope_of d0))) (length d0.ops) (length new.ops)
  main_at =
      let e4 : length d4.ops ≡ length d2.ops + 1 = (let a = ops3 in let b = g4.code.end in omega arith) in
      record {
        row = row;
        body_end = length d2.ops;
        body = body_at;
        returns = subst (λ (a : ℕ). OpAt code a (main_end main) line) ops3 (keep4.same (length d3.ops) (main_end main) line g4.code.here);
        unwound = subst (λ (a : ℕ). OpAt code a (main_left main) line) e4 g5.code.here;
        end = (let b = g5.code.end in omega arith);
        handler = keep3.handlers row (clean_up (length d2.ops + 1)) (h3 row (ap handler_in marks2));
      }

  rest3 : d3 ≡ record d0 { ops = d3.ops; rows = d3.rows; settled = d3.settled; scopes = d2.scopes; names = d2.names; cells = d2.cells; hidden = d2.hidden; texts = d2.texts; sites = d2.sites }
  rest3 =
      like_closed 1 d2 d2 d3 refl ce
      ∙ ap (λ (d : Draft). let x : Draft = record d { ops = d3.ops; rows = d3.rows; settled = d3.settled; marks = d3.marks } in x) h.rest
      ∙ ap (λ (d : Draft). let x : Draft = record d { ops = d3.ops; rows = d3.rows; settled = d3.settled; marks = d3.marks; scopes = d2.scopes; names = d2.names; cells = d2.cells; hidden = d2.hidden; texts = d2.texts; sites = d2.sites } in x) oe
      ∙ ap (λ (ms : List CodeMark). let x : Draft = record d0 { ops = d3.ops; rows = d3.rows; settled = d3.settled; marks = ms; scopes = d2.scopes; names = d2.names; cells = d2.cells; hidden = d2.hidden; texts = d2.texts; sites = d2.sites } in x) marks3

  rest : new ≡ record d0 { ops = new.ops; rows = d3.rows; settled = d3.settled; scopes = d2.scopes; names = d2.names; cells = d2.cells; hidden = d2.hidden; texts = d2.texts; sites = d2.sites }
  rest = g5.rest ∙ ap (λ (d : Draft). let x : Draft = record d { ops = new.ops } in x) g4.rest ∙ ap (λ (d : Draft). let x : Draft = record d { ops = new.ops } in x) rest3

  whole : LowersRoutine p (purpose_by main) number (record r { body = body; brace = record r.brace { line = line } }) d0 new
  whole =
      let none_in : objects_in d1.marks ≡ 0 = ap objects_in marks1 in
      let size : sizes_at body (objects_in d1.marks) ≡ sizes_at body 0 = ap (sizes_at body) none_in in
      let scopes1 : d1.scopes ≡ d0.scopes = ap (λ (d : Draft). d.scopes) oe in
      let texts1 : d1.texts ≡ d0.texts = ap (λ (d : Draft). d.texts) oe in
      let cells1 : d1.cells ≡ d0.cells = ap (λ (d : Draft). d.cells) oe in
      let scopes2 : new.scopes ≡ d2.scopes = ap (λ (d : Draft). d.scopes) rest in
      let texts2 : new.texts ≡ d2.texts = ap (λ (d : Draft). d.texts) rest in
      let cells2 : new.cells ≡ d2.cells = ap (λ (d : Draft). d.cells) rest in
      record {
        rest = subst (λ (d : Draft). d ≡ record d0 { ops = d.ops; rows = d.rows; settled = d.settled; scopes = d.scopes; names = d.names; cells = d.cells; hidden = d.hidden; texts = d.texts; sites = d.sites }) (sym rest) refl;
        scope = ap scope_of g5.rest ∙ ap scope_of g4.rest ∙ ap scope_of (like_closed 1 d2 d2 d3 refl ce) ∙ h.scope ∙ ap (scope_behind p body) scope1;
        opened = (let x = h.opened in omega arith);
        kept = kept_then (laid_in d0) (laid_in d1) code k1 (kept_then (laid_in d1) (laid_in d2) code h.kept keep2);
        rows =
            let one = fit_then h.kept.longer (fit_opened (opening.Main main number line) d0 d1 oe) h.rows in
            let under_rows : stmts_rows_under d1.marks (stmts_meant p body (scope_of d1)) ≡ stmts_rows 0 0 (stmts_meant p body (scope_of d0)) = ap (λ (d : Draft). stmts_rows_under d.marks (stmts_meant p body (scope_of d))) oe in
            let all_rows = main_rows_are main (stmts_meant p body (scope_of d0)) in
            let e4 = g4.code.end in
            let e5 = g5.code.end in
            let same : new.rows ≡ d3.rows = ap (λ (d : Draft). d.rows) g5.rest ∙ ap (λ (d : Draft). d.rows) g4.rest in
            fit_count (omega (arith, under_rows, all_rows)) (fit_closed one (rows_closed 1 d2 d3 ce) same (ap open_rows marks2 ∙ sym (ap (λ (ms : List CodeMark). suc (open_rows ms)) none)) (ap (λ (d : Draft). open_rows d.marks) rest) (omega (arith, ops3, e4, e5)) (omega (arith, ops3, e4, e5)));
        room = (let x = h.room in let y = g4.room in let z = g5.room in omega (arith, size, ops1, ops3));
        texts = (let x = h.texts in omega arith);
        cells = (let x = h.cells in omega arith);
        code = main_code code main number line (stmts_meant p body (scope_of d0)) (length d0.ops) (length new.ops) main_at;
      }

  pub main_rows : RoutineRows d0 new
  main_rows =
      let e4 = g4.code.end in
      let e5 = g5.code.end in
      let same : new.rows ≡ d3.rows = ap (λ (d : Draft). d.rows) g5.rest ∙ ap (λ (d : Draft). d.rows) g4.rest in
      record {
        few =
            let x = whole.rows.few in
            let y : open_rows new.marks ≡ open_rows d0.marks = ap (λ (d : Draft). open_rows d.marks) rest in
            omega arith;
        begin = λ k l w.
            let up = h.kept.longer in
            let two = h.rows.begin k (omega (arith, ops3)) ((fit_opened (opening.Main main number line) d0 d1 oe).begin k (omega (arith, ops3, up)) w) in
            subst (BeginBy k) (sym same) ((rows_closed 1 d2 d3 ce).begin k (omega (arith, ops3)) two);
      }

  pub main_lowered : LowersRoutine p (purpose_by main) number r d0 new
  main_lowered =
      subst (λ (b : Stmts). LowersRoutine p (purpose_by main) number (record r { body = b }) d0 new) be (
      subst (λ (l : ℕ). LowersRoutine p (purpose_by main) number (record r { body = body; brace = record r.brace { line = l } }) d0 new) le whole)

-- behind those of a routine that is called

called_at : (all : Laid) (v : Bool) (number line : ℕ) (ss : source.Stmts) (a z : ℕ) → Both (StmtsAt all (mark.Body number ∷ []) line ss) (EndCode v line all) a z → BodyAt all (if v then source.Procedure else source.Function) number line ss a z
called_at all true number line ss a z h = h
called_at all false number line ss a z h = h

called_rows_are : (v : Bool) (ss : source.Stmts) → body_rows (if v then source.Procedure else source.Function) ss ≡ stmts_rows 0 0 ss
called_rows_are true ss = refl
called_rows_are false ss = refl

pub called_lowered : (p : Program) (r : Routine) (b : Base) (number line : ℕ) (body : Stmts) (d0 d1 d2 d3 new : Draft) → d0.marks ≡ [] → line ≡ r.brace.line → body ≡ r.body → b ≡ r.sig.ret
    → d1 ≡ record d0 { marks = mark.Body number ∷ d0.marks } → LowersStmts p line body d1 d2 → d3 ≡ record d2 { marks = left_marks d2.marks } → Adds 2 (EndCode (is_void b) line) d3 new → LowersRoutine p (value_purpose p r.sig.ret) number r d0 new
called_lowered p r b number line body d0 d1 d2 d3 new none le be re e1 h e3 g =
    let first : Draft = record d0 { marks = mark.Body number ∷ [] } in
    let is : d1 ≡ first = e1 ∙ ap (λ (ms : List CodeMark). let x : Draft = record d0 { marks = mark.Body number ∷ ms } in x) none in
    let none_in : objects_in d1.marks ≡ 0 = ap (λ (d : Draft). objects_in d.marks) is in
    let size : sizes_at body (objects_in d1.marks) ≡ sizes_at body 0 = ap (sizes_at body) none_in in
    let all = lowers_put (stmts_stable d1.marks line (stmts_meant p body (scope_of d1))) (lowers_marked (mark.Body number) d0 d3 refl e1 e3 h) g in
    let under_rows : stmts_rows_under d1.marks (stmts_meant p body (scope_of d1)) ≡ stmts_rows 0 0 (stmts_meant p body (scope_of d0)) = ap (λ (d : Draft). stmts_rows_under d.marks (stmts_meant p body (scope_of d))) is in
    let whole : LowersRoutine p (value_purpose p b) number (record r { body = body; brace = record r.brace { line = line } }) d0 new =
    lowers_count (under_rows ∙ sym (called_rows_are (is_void b) (stmts_meant p body (scope_of d0)))) (
    lowers_as all (ap (λ (d : Draft). scope_behind p body (scope_of d)) is)
    (λ code a z w. called_at code (is_void b) number line (stmts_meant p body (scope_of d0)) a z (subst (λ (d : Draft). Both (StmtsAt code d.marks line (stmts_meant p body (scope_of d))) (EndCode (is_void b) line code) a z) is w))
    (omega (arith, size)) (omega arith) (omega arith) refl) in
    subst (λ (x : Base). LowersRoutine p (value_purpose p x) number r d0 new) re (
    subst (λ (ss : Stmts). LowersRoutine p (value_purpose p b) number (record r { body = ss }) d0 new) be (
    subst (λ (l : ℕ). LowersRoutine p (value_purpose p b) number (record r { body = body; brace = record r.brace { line = l } }) d0 new) le whole))

-- a routine whose statements fit, and behind them an op at least
routine_fits : {r : ℕ} (d0 d2 new : Draft) → RowsFit 0 r d0 d2 → d2.marks ≡ d0.marks → new.rows ≡ d2.rows → length d2.ops + 1 ≤ length new.ops → RoutineRows d0 new
routine_fits d0 d2 new h m e l = record {
  few = let x = h.few in let y : open_rows d2.marks ≡ open_rows d0.marks = ap open_rows m in let z : length new.rows ≡ length d2.rows = ap length e in omega arith;
  begin = λ k i w. subst (BeginBy k) (sym e) (h.begin k (omega arith) w);
}

end_some : (v : Bool) (line : ℕ) (code : Laid) (a z : ℕ) → EndCode v line code a z → a + 1 ≤ z
end_some true line code a z h = let e = h.end in omega arith
end_some false line code a z h = let e = h.first.end in let f = h.second.end in omega arith

pub called_rows : (p : Program) (b : Base) (number line : ℕ) (body : Stmts) (d0 d1 d2 d3 new : Draft) → d1 ≡ record d0 { marks = mark.Body number ∷ d0.marks } → LowersStmts p line body d1 d2 → d3 ≡ record d2 { marks = left_marks d2.marks } → Adds 2 (EndCode (is_void b) line) d3 new → RoutineRows d0 new
called_rows p b number line body d0 d1 d2 d3 new e1 h e3 g =
    let within = lowers_marked (mark.Body number) d0 d3 refl e1 e3 h in
    let l = end_some (is_void b) line (laid_in new) (length d3.ops) (length new.ops) g.code in
    routine_fits d0 d3 new within.rows (ap (λ (d : Draft). d.marks) within.rest) (ap (λ (d : Draft). d.rows) g.rest) l

-- the same draft, but for what is known of routines and of the place
pub rows_routine : (d0 d1 d2 new : Draft) → d1.rows ≡ d0.rows → d1.ops ≡ d0.ops → new.rows ≡ d2.rows → new.ops ≡ d2.ops → RoutineRows d1 d2 → RoutineRows d0 new
rows_routine d0 d1 d2 new r1 o1 r2 o2 h = record {
  few =
      let x = h.few in
      let a : length d1.rows ≡ length d0.rows = ap length r1 in
      let b : length d1.ops ≡ length d0.ops = ap length o1 in
      let c : length new.rows ≡ length d2.rows = ap length r2 in
      let e : length new.ops ≡ length d2.ops = ap length o2 in
      omega arith;
  begin = λ k l w. let e : length new.ops ≡ length d2.ops = ap length o2 in subst (BeginBy k) (sym r2) (h.begin k (omega arith) (subst (BeginBy k) (sym r1) w));
}

-- behind those of a mutex member, and in the scope that leaves its object

owed_at : (p : Program) (all : Laid) (v : Bool) (ms : List CodeMark) (line a z : ℕ) → OwedCode v line all a z → StmtsAt all ms 0 (owing p line (if v then source.Procedure else source.Function)) a z
owed_at p all true ms line a z h = h
owed_at p all false ms line a z h = record { middle = z; first = h; second = record { end = refl } }

owed_rows : (p : Program) (v : Bool) (loop out line : ℕ) → stmts_rows loop out (owing p line (if v then source.Procedure else source.Function)) ≡ 0
owed_rows p true loop out line = refl
owed_rows p false loop out line = refl

owed_stable : (v : Bool) (line : ℕ) → Stable (OwedCode v line)
owed_stable true line = nothing_stable
owed_stable false line = one_stable op.NoReturn line

module _ (p : Program) (v : Bool) (routine line : ℕ) (body : Stmts) (d1 d2 d3 d4 d5 : Draft) (in_body : d1.marks ≡ mark.Body routine ∷ [])
    (e2 : d2 ≡ opened (opening.Object cleaning.Leave 0) d1) (k2 : Kept (laid_in d1) (laid_in d2)) (h : LowersStmts p line body d2 d3) (g4 : Adds 1 (OwedCode v line) d3 d4) (c5 : ClosesScope call_room cleaning.Leave 0 d4 d5) where
  abbrev scope_row : ℕ
  scope_row = length d1.rows

  abbrev within : List CodeMark
  within = mark.Clean cleaning.Leave 0 scope_row ∷ d1.marks

  abbrev last : Laid
  last = laid_in d5

  within2 : d2.marks ≡ within
  within2 = ap (λ (d : Draft). d.marks) e2

  within4 : d4.marks ≡ within
  within4 = ap (λ (d : Draft). d.marks) g4.rest ∙ (ap (λ (d : Draft). d.marks) h.rest ∙ within2)

  outside5 : d5.marks ≡ d1.marks
  outside5 = c5.marks scope_row d1.marks within4

  scope2 : scope_of d2 ≡ scope_of d1
  scope2 = ap scope_of e2

  ops2 : length d2.ops ≡ length d1.ops
  ops2 = ap (λ (d : Draft). length d.ops) e2

  abbrev meant_at : source.Stmts
  meant_at = stmts_meant p body (scope_of d1)

  stays4 : Kept (laid_in d3) last
  stays4 = kept_then (laid_in d3) (laid_in d4) last g4.kept c5.kept

  block_at : StmtsAt last within line meant_at (length d1.ops) (length d3.ops)
  block_at =
      subst (λ (s : Scope). StmtsAt last within line (stmts_meant p body s) (length d1.ops) (length d3.ops)) scope2 (
      subst (λ (a : ℕ). StmtsAt last within line (stmts_meant p body (scope_of d2)) a (length d3.ops)) ops2 (
      subst (λ (ms : List CodeMark). StmtsAt last ms line (stmts_meant p body (scope_of d2)) (length d2.ops) (length d3.ops)) within2 (
      kept_piece (λ c. StmtsAt c d2.marks line (stmts_meant p body (scope_of d2))) (stmts_stable d2.marks line (stmts_meant p body (scope_of d2))) (laid_in d3) last (length d2.ops) (length d3.ops) (omega arith) stays4 h.code)))

  owes_at : StmtsAt last within 0 (owing p line (if v then source.Procedure else source.Function)) (length d3.ops) (length d4.ops)
  owes_at = owed_at p last v within line (length d3.ops) (length d4.ops) (kept_piece (OwedCode v line) (owed_stable v line) (laid_in d4) last (length d3.ops) (length d4.ops) (omega arith) c5.kept g4.code)

  abbrev mutex_meant : source.Stmts
  mutex_meant = source.Then (source.Block line meant_at) (owing p line (if v then source.Procedure else source.Function))

  scope_at : StmtsAt last d1.marks 0 (source.Scoped source.Leaves mutex_meant) (length d1.ops) (length d5.ops)
  scope_at = record {
    what = cleaning.Leave;
    cleans = Left;
    scope = scope_ended last 0 d1.marks cleaning.Leave scope_row (λ ms. StmtsAt last ms 0 mutex_meant) (length d1.ops) (length d4.ops) (length d5.ops)
        (record { middle = length d3.ops; first = block_at; second = owes_at }) (c5.scope scope_row d1.marks within4);
  }

  scope_rest : d5 ≡ record d1 { ops = d5.ops; rows = d5.rows; settled = d5.settled; scopes = d3.scopes; names = d3.names; cells = d3.cells; hidden = d3.hidden; texts = d3.texts; sites = d3.sites }
  scope_rest =
      c5.rest ∙ ap (λ (d : Draft). let x : Draft = record d { ops = d5.ops; rows = d5.rows; settled = d5.settled; marks = d5.marks } in x) g4.rest
      ∙ ap (λ (d : Draft). let x : Draft = record d { ops = d5.ops; rows = d5.rows; settled = d5.settled; marks = d5.marks } in x) h.rest
      ∙ ap (λ (d : Draft). let x : Draft = record d { ops = d5.ops; rows = d5.rows; settled = d5.settled; marks = d5.marks; scopes = d3.scopes; names = d3.names; cells = d3.cells; hidden = d3.hidden; texts = d3.texts; sites = d3.sites } in x) e2
      ∙ ap (λ (ms : List CodeMark). let x : Draft = record d1 { ops = d5.ops; rows = d5.rows; settled = d5.settled; marks = ms; scopes = d3.scopes; names = d3.names; cells = d3.cells; hidden = d3.hidden; texts = d3.texts; sites = d3.sites } in x) outside5

  pub mutex_scoped : Lowers (stmts_rows 0 0 (source.Scoped source.Leaves mutex_meant)) (OPS_FOR_SIZE * sizes_at body 0 + 20) (stmts_size body) (stmts_cells body (declared_cells p)) (stmts_scopes body) (λ code. StmtsAt code d1.marks 0 (source.Scoped source.Leaves mutex_meant)) (scope_behind p body (scope_of d1)) d1 d5
  mutex_scoped =
      let none_in : objects_in d2.marks ≡ 0 = ap objects_in (within2 ∙ ap (λ (ms : List CodeMark). mark.Clean cleaning.Leave 0 scope_row ∷ ms) in_body) in
      let size : sizes_at body (objects_in d2.marks) ≡ sizes_at body 0 = ap (sizes_at body) none_in in
      let scopes2 : d2.scopes ≡ d1.scopes = ap (λ (d : Draft). d.scopes) e2 in
      let texts2 : d2.texts ≡ d1.texts = ap (λ (d : Draft). d.texts) e2 in
      let cells2 : d2.cells ≡ d1.cells = ap (λ (d : Draft). d.cells) e2 in
      let scopes5 : d5.scopes ≡ d3.scopes = ap (λ (d : Draft). d.scopes) scope_rest in
      let texts5 : d5.texts ≡ d3.texts = ap (λ (d : Draft). d.texts) scope_rest in
      let cells5 : d5.cells ≡ d3.cells = ap (λ (d : Draft). d.cells) scope_rest in
      record {
        rest = subst (λ (d : Draft). d ≡ record d1 { ops = d.ops; rows = d.rows; settled = d.settled; scopes = d.scopes; names = d.names; cells = d.cells; hidden = d.hidden; texts = d.texts; sites = d.sites }) (sym scope_rest) refl;
        scope = ap scope_of c5.rest ∙ (ap scope_of g4.rest ∙ (h.scope ∙ ap (scope_behind p body) scope2));
        opened = (let x = h.opened in omega arith);
        kept = kept_then (laid_in d1) (laid_in d2) last k2 (kept_then (laid_in d2) (laid_in d3) last h.kept stays4);
        rows =
            let one = fit_then h.kept.longer (fit_opened (opening.Object cleaning.Leave 0) d1 d2 e2) h.rows in
            let under_rows : stmts_rows_under d2.marks (stmts_meant p body (scope_of d2)) ≡ stmts_rows 1 1 meant_at =
            ap (λ (s : Scope). stmts_rows_under d2.marks (stmts_meant p body s)) scope2 ∙ ap (λ (ms : List CodeMark). stmts_rows_under ms meant_at) (within2 ∙ ap (λ (ms : List CodeMark). mark.Clean cleaning.Leave 0 scope_row ∷ ms) in_body) in
            let none_owed = owed_rows p v 1 1 line in
            fit_count (omega (arith, under_rows, none_owed)) (fit_then c5.kept.longer (fit_then g4.kept.longer one (fit_adds g4)) c5.rows);
        room = (let x = h.room in let y = g4.room in let z = c5.room in omega (arith, size, ops2));
        texts = (let x = h.texts in omega arith);
        cells = (let x = h.cells in omega arith);
        code = scope_at;
      }

-- the statements of a mutex member with a result of this base
abbrev MutexOf : Program → Base → ℕ → ℕ → Stmts → Draft → Draft → Type 0
MutexOf p b last line body old new =
    Lowers (stmts_rows 0 0 (source.Scoped source.Leaves (source.Then (source.Block line (stmts_meant p body (scope_of old))) (owing p line (value_purpose p b))))) (OPS_FOR_SIZE * (1 + sizes_at body 0)) (stmts_size body) (stmts_cells body (declared_cells p)) (stmts_scopes body)
    (λ code. Both (StmtsAt code (mark.Body last ∷ []) 0 (source.Scoped source.Leaves (source.Then (source.Block line (stmts_meant p body (scope_of old))) (owing p line (value_purpose p b))))) (One code op.Return 0)) (scope_behind p body (scope_of old)) old new

pub mutex_rows : (p : Program) (b : Base) (number line : ℕ) (body : Stmts) (d0 d1 d2 d3 d4 d5 d6 new : Draft) → d0.marks ≡ []
    → d1 ≡ record d0 { marks = mark.Body number ∷ d0.marks } → d2 ≡ opened (opening.Object cleaning.Leave 0) d1 → Kept (laid_in d1) (laid_in d2) → LowersStmts p line body d2 d3 → Adds 1 (OwedCode (is_void b) line) d3 d4
    → ClosesScope call_room cleaning.Leave 0 d4 d5 → d6 ≡ record d5 { marks = left_marks d5.marks } → Adds 1 (OpCode 0 op.Return) d6 new → RoutineRows d0 new
mutex_rows p b number line body d0 d1 d2 d3 d4 d5 d6 new none e1 e2 k2 h g4 c5 e6 g =
    let is : d1.marks ≡ mark.Body number ∷ [] = ap (λ (d : Draft). d.marks) e1 ∙ ap (λ (ms : List CodeMark). mark.Body number ∷ ms) none in
    let within = lowers_marked (mark.Body number) d0 d6 refl e1 e6 (mutex_scoped p (is_void b) number line body d1 d2 d3 d4 d5 is e2 k2 h g4 c5) in
    let l = g.code.end in
    routine_fits d0 d6 new within.rows (ap (λ (d : Draft). d.marks) within.rest) (ap (λ (d : Draft). d.rows) g.rest) (omega arith)

pub mutex_lowered : (p : Program) (r : Routine) (b : Base) (number line : ℕ) (body : Stmts) (d0 d1 d2 d3 d4 d5 d6 new : Draft) → d0.marks ≡ [] → line ≡ r.brace.line → body ≡ r.body → b ≡ r.sig.ret
    → d1 ≡ record d0 { marks = mark.Body number ∷ d0.marks } → d2 ≡ opened (opening.Object cleaning.Leave 0) d1 → Kept (laid_in d1) (laid_in d2) → LowersStmts p line body d2 d3 → Adds 1 (OwedCode (is_void b) line) d3 d4
    → ClosesScope call_room cleaning.Leave 0 d4 d5 → d6 ≡ record d5 { marks = left_marks d5.marks } → Adds 1 (OpCode 0 op.Return) d6 new → LowersMutex p number r d0 new
mutex_lowered p r b number line body d0 d1 d2 d3 d4 d5 d6 new none le be re e1 e2 k2 h g4 c5 e6 g =
    let first : Draft = record d0 { marks = mark.Body number ∷ [] } in
    let is : d1 ≡ first = e1 ∙ ap (λ (ms : List CodeMark). let x : Draft = record d0 { marks = mark.Body number ∷ ms } in x) none in
    let scoped = mutex_scoped p (is_void b) number line body d1 d2 d3 d4 d5 (ap (λ (d : Draft). d.marks) is) e2 k2 h g4 c5 in
    let all = lowers_put (stmts_stable d1.marks 0 (source.Scoped source.Leaves (source.Then (source.Block line (stmts_meant p body (scope_of d1))) (owing p line (value_purpose p b))))) (lowers_marked (mark.Body number) d0 d6 refl e1 e6 scoped) g in
    let whole : MutexOf p b number line body d0 new =
    lowers_count (ap (λ (d : Draft). stmts_rows 0 0 (source.Scoped source.Leaves (source.Then (source.Block line (stmts_meant p body (scope_of d))) (owing p line (value_purpose p b))))) is) (
    lowers_as all (ap (λ (d : Draft). scope_behind p body (scope_of d)) is)
    (λ code a z w. subst (λ (d : Draft). Both (StmtsAt code d.marks 0 (source.Scoped source.Leaves (source.Then (source.Block line (stmts_meant p body (scope_of d))) (owing p line (value_purpose p b))))) (One code op.Return 0) a z) is w)
    (omega arith) (omega arith) (omega arith) refl) in
    subst (λ (x : Base). MutexOf p x number r.brace.line r.body d0 new) re (
    subst (λ (ss : Stmts). MutexOf p b number r.brace.line ss d0 new) be (
    subst (λ (l : ℕ). MutexOf p b number l body d0 new) le whole))

-- the greater of two numbers

pub max_first : (a b : ℕ) → b ≤ a → max a b ≡ a
max_first a b h = max-eq_left h

pub max_last : (a b : ℕ) → a ≤ b → max a b ≡ b
max_last a b h = max_comm a b ∙ max_first b a h

-- what a plain routine is, by the tests of a main

plain_purpose : (p : Program) (x : Role) (b : Base) → is_plain x ≡ true → value_purpose p b ≡ role_purpose p x b
plain_purpose p role.Plain b e = refl
plain_purpose p role.Constructor b e = cc
plain_purpose p role.Destructor b e = cc

abbrev main_by : Bool → Bool → Option MainOf
main_by b d = if b then Some main_of.Task else if d then Some main_of.Coroutine else None

abbrev purpose_in : Bool → Bool → source.Purpose → source.Purpose
purpose_in b d q = if b then source.TaskMain else if d then source.CoroutineMain else q

same_main : (m k : MainOf) → Some m ≡ Some k → m ≡ k
same_main m k e = cc

main_is : (b d : Bool) (q : source.Purpose) (m : MainOf) → Some m ≡ main_by b d → purpose_by m ≡ purpose_in b d q
main_is true d q m e = ap purpose_by (same_main m main_of.Task e)
main_is false true q m e = ap purpose_by (same_main m main_of.Coroutine e)
main_is false false q m e = absurd (cc)

no_main : (b d : Bool) (q : source.Purpose) → (let n : Option MainOf = None in n ≡ main_by b d) → q ≡ purpose_in b d q
no_main true d q e = absurd (cc)
no_main false true q e = absurd (cc)
no_main false false q e = refl

-- a main has its name
main_named : (a t d m : Bool) (k : MainOf) → (a ≡ true → m ≡ true) → Some k ≡ main_by (a || (t && m)) (d && m) → m ≡ true
main_named a t d true k h e = refl
main_named true t d false k h e = h refl
main_named false true true false k h e = absurd (cc)
main_named false true false false k h e = absurd (cc)
main_named false false true false k h e = absurd (cc)
main_named false false false false k h e = absurd (cc)

module _ (p : Program) (r : Routine) (number : ℕ) (c : Option Class) where
  abbrev tasks_main : Bool
  tasks_main = nat_eq number (main_number p) || (has_tasks p c && is_main p r.sig)

  abbrev coroutines_main : Bool
  coroutines_main = has_coroutines p c && is_main p r.sig

  abbrev other_purpose : Bool → source.Purpose
  other_purpose n = if n then source.Builder else role_purpose p r.sig.role r.sig.ret

  pub main_purpose : (m : MainOf) → Some m ≡ main_in p number c r.sig → purpose_by m ≡ purpose_of p number c r
  main_purpose m e = main_is tasks_main coroutines_main (other_purpose (has_number_in p c r.sig)) m e

  pub main_number_none : (m : MainOf) → (nat_eq number (main_number p) ≡ true → is_main p r.sig ≡ true) → Some m ≡ main_in p number c r.sig → has_number_in p c r.sig ≡ false
  main_number_none m h e = main_unnumbered p c r.sig (main_named (nat_eq number (main_number p)) (has_tasks p c) (has_coroutines p c) (is_main p r.sig) m h e)

  pub called_purpose : is_plain r.sig.role ≡ true → has_number_in p c r.sig ≡ false → (let n : Option MainOf = None in n ≡ main_in p number c r.sig) → value_purpose p r.sig.ret ≡ purpose_of p number c r
  called_purpose e n m =
      plain_purpose p r.sig.role r.sig.ret e ∙ (ap other_purpose (sym n) ∙ no_main tasks_main coroutines_main (other_purpose (has_number_in p c r.sig)) m)

  pub mutex_purpose : has_number_in p c r.sig ≡ true → (let n : Option MainOf = None in n ≡ main_in p number c r.sig) → source.Builder ≡ purpose_of p number c r
  mutex_purpose n m = ap other_purpose (sym n) ∙ no_main tasks_main coroutines_main (other_purpose (has_number_in p c r.sig)) m

-- the statements of a plain routine by what it is

abbrev PlainOf : Program → source.Purpose → Bool → ℕ → Routine → Draft → Draft → Type 0
PlainOf p q n last r old new =
    Lowers (body_rows q (plain_body p n r (stmts_meant p r.body (scope_of old)))) (OPS_FOR_SIZE * (1 + sizes_at r.body 0)) (stmts_size r.body) (stmts_cells r.body (declared_cells p)) (stmts_scopes r.body) (λ code. BodyAt code q last r.brace.line (plain_body p n r (stmts_meant p r.body (scope_of old)))) (scope_behind p r.body (scope_of old)) old new

pub plain_lowered : (p : Program) (q o : source.Purpose) (n : Bool) (last : ℕ) (r : Routine) (old new : Draft) → q ≡ o → n ≡ false → LowersRoutine p q last r old new → PlainOf p o n last r old new
plain_lowered p q o n last r old new e f h = subst (λ (x : Bool). PlainOf p o x last r old new) (sym f) (subst (λ (x : source.Purpose). PlainOf p x false last r old new) e h)

pub numbered_lowered : (p : Program) (o : source.Purpose) (n : Bool) (last : ℕ) (r : Routine) (old new : Draft) → source.Builder ≡ o → n ≡ true → LowersMutex p last r old new → PlainOf p o n last r old new
numbered_lowered p o n last r old new e f h = subst (λ (x : Bool). PlainOf p o x last r old new) (sym f) (subst (λ (x : source.Purpose). PlainOf p x true last r old new) e h)

-- what lowering a routine, which begins in this scope, does to a draft
pub record Written (p : Program) (r : Routine) (s : Scope) (last number : ℕ) (old new : Draft) : Type 0 where
  pub count : length new.rows ≡ length old.rows + routine_rows (routine_meant p r s)
  pub kept : Kept (laid_in old) (laid_in new)
  pub room : length new.ops ≤ length old.ops + OPS_FOR_SIZE * (1 + sizes_at r.body 0)
  pub code : RoutineAt (laid_in new) last number (routine_meant p r s) (record { entry = length old.ops; cells = frame_cells p r; params = length r.sig.params; written = true }) (length old.ops) (length new.ops)
  pub written : new.routines ≡ slice_set old.routines number (record { entry = length old.ops; cells = frame_cells p r; params = length r.sig.params; written = true })
  pub outside : new.marks ≡ []
  pub texts : new.texts ≡ s.texts + length (gathered_all own_texts r.body)
  pub few_texts : new.texts ≤ s.texts + stmts_size r.body
  pub sites : new.sites ≡ s.sites + length (gathered_all (own_sites None 0) r.body)

-- a draft at the beginning of a routine's statements
abbrev begun_by : Program → List Param → Option ℕ → ℕ → ℕ → ℕ → ℕ → Draft → Draft
begun_by p xs class number hidden texts sites d = record d { place = record { class = class; routine = number; scope = 0 }; marks = []; scopes = 0; names = [] ++ params_known p 0 xs; handled = 0; cells = 0 + params_cells p xs; hidden = hidden; texts = texts; sites = sites }

abbrev begun : Program → Routine → Option ℕ → ℕ → ℕ → ℕ → Draft → Draft
begun p r class number texts sites d = begun_by p r.sig.params class number (routine_cells p r) texts sites d

pub begun_is : (p : Program) (r : Routine) (class : Option ℕ) (number hidden texts sites : ℕ) (xs : List Param) (d0 db d1 : Draft) → xs ≡ r.sig.params → hidden ≡ routine_cells p r
    → db ≡ record d0 { place = record { class = class; routine = number; scope = 0 }; marks = []; scopes = 0; names = []; handled = 0; cells = 0; hidden = hidden; texts = texts; sites = sites }
    → d1 ≡ record db { names = db.names ++ params_known p db.cells xs; cells = db.cells + params_cells p xs } → d1 ≡ begun p r class number texts sites d0
begun_is p r class number hidden texts sites xs d0 db d1 xe he e1 e2 =
    e2 ∙ ap (λ (x : Draft). let d : Draft = record x { names = x.names ++ params_known p x.cells xs; cells = x.cells + params_cells p xs } in d) e1
    ∙ ap (λ (ys : List Param). begun_by p ys class number hidden texts sites d0) xe ∙ ap (λ (n : ℕ). begun_by p r.sig.params class number n texts sites d0) he

module _ (p : Program) (r : Routine) (plain : r.sig.role ≡ role.Plain) (class : Option ℕ) (last number texts sites entry cells params : ℕ) (d0 d1 d2 new : Draft) (few : number ≤ last)
    (ee : entry ≡ length d0.ops) (ce : cells ≡ d2.hidden) (pe : params ≡ length r.sig.params) (e1 : d1 ≡ begun p r class number texts sites d0)
    (h : LowersPlain p number last r d1 d2) (e : new ≡ record d2 { routines = slice_set d2.routines number (record { entry = entry; cells = cells; params = params; written = true }) }) where
  abbrev s : Scope
  s = routine_scope p r class number texts sites

  abbrev first : Draft
  first = begun p r class number texts sites d0

  abbrev begins : RoutineCode
  begins = record { entry = length d0.ops; cells = frame_cells p r; params = length r.sig.params; written = true }

  k : LowersPlain p number last r first d2
  k = subst (λ (d : Draft). LowersPlain p number last r d d2) e1 h

  scope_first : scope_of first ≡ s
  scope_first = let z : 0 + params_cells p r.sig.params ≡ params_cells p r.sig.params = omega arith in ap (λ (n : ℕ). let t : Scope = record s { cells = n } in t) z

  scope_is : scope_of d2 ≡ scope_behind p r.body (scope_of first)
  scope_is = k.scope

  -- the frame ends behind the last hidden cell
  frame : cells ≡ frame_cells p r
  frame = ce ∙ ap (λ (t : Scope). t.hidden) (scope_is ∙ behind_counted p r.body (scope_of first))

  is : new ≡ record d2 { routines = slice_set d2.routines number begins }
  is = e ∙ ap (λ (n : ℕ). let d : Draft = record d2 { routines = slice_set d2.routines number (record { entry = n; cells = cells; params = params; written = true }) } in d) ee
      ∙ ap (λ (n : ℕ). let d : Draft = record d2 { routines = slice_set d2.routines number (record { entry = length d0.ops; cells = n; params = params; written = true }) } in d) frame
      ∙ ap (λ (n : ℕ). let d : Draft = record d2 { routines = slice_set d2.routines number (record { entry = length d0.ops; cells = frame_cells p r; params = n; written = true }) } in d) pe

  ends : BodyAt (laid_in d2) (purpose_of p number (class_by p class) r) (max number last) r.brace.line (body_by p r.sig.role r s) (length d0.ops) (length d2.ops)
  ends =
      subst (λ (n : ℕ). BodyAt (laid_in d2) (purpose_of p number (class_by p class) r) n r.brace.line (body_by p r.sig.role r s) (length d0.ops) (length d2.ops)) (sym (max_last number last few)) (
      subst (λ (x : Role). BodyAt (laid_in d2) (purpose_of p number (class_by p class) r) last r.brace.line (body_by p x r s) (length d0.ops) (length d2.ops)) (sym plain) (
      subst (λ (t : Scope). BodyAt (laid_in d2) (purpose_of p number (class_by p class) r) last r.brace.line (plain_body p (has_number_in p (class_by p class) r.sig) r (stmts_meant p r.body t)) (length d0.ops) (length d2.ops)) scope_first k.code))

  -- the body behind where the routine begins, its end, and its row
  pub arm_routine : Written p r s last number d0 new
  arm_routine =
      let routines : d2.routines ≡ d0.routines = ap (λ (d : Draft). d.routines) k.rest in
      let q : source.Purpose = purpose_of p number (class_by p class) r in
      let same_rows : body_rows q (plain_body p (has_number_in p (class_by p class) r.sig) r (stmts_meant p r.body (scope_of first))) ≡ routine_rows (routine_meant p r s) =
      ap (λ (t : Scope). body_rows q (plain_body p (has_number_in p (class_by p class) r.sig) r (stmts_meant p r.body t))) scope_first ∙ ap (λ (x : Role). body_rows q (body_by p x r s)) (sym plain) in
      subst (λ (d : Draft). Written p r s last number d0 d) (sym is) (record {
        count = (let more = k.rows.more in omega (arith, more, same_rows));
        kept = k.kept;
        room = k.room;
        code = record { entry = refl; cells = refl; params = refl; written = refl; body = ends };
        written = ap (λ (l : List RoutineCode). slice_set l number begins) routines;
        outside = ap (λ (d : Draft). d.marks) k.rest;
        texts = ap (λ (t : Scope). t.texts) (scope_is ∙ behind_counted p r.body (scope_of first));
        few_texts = k.texts;
        sites = ap (λ (t : Scope). t.sites) (scope_is ∙ behind_counted p r.body (scope_of first));
      })

-- what is done behind the statements

pub end_without : (b : Bool) (line : ℕ) (old new : Draft) → b ≡ true → Adds 1 (OpCode 0 op.Return) old new → Adds 2 (EndCode b line) old new
end_without b line old new e a = subst (λ (x : Bool). Adds 2 (EndCode x line) old new) (sym e) (adds_more (omega arith) a)

pub end_with : (b : Bool) (line : ℕ) (old mid new : Draft) → b ≡ false → Adds 1 (OpCode line op.NoReturn) old mid → Adds 1 (OpCode 0 op.Return) mid new → Adds 2 (EndCode b line) old new
end_with b line old mid new e a c = subst (λ (x : Bool). Adds 2 (EndCode x line) old new) (sym e) (adds_both (one_stable op.NoReturn line) a c)

pub owed_nothing : (b : Bool) (line : ℕ) (old : Draft) → b ≡ true → Adds 1 (OwedCode b line) old old
owed_nothing b line old e = subst (λ (x : Bool). Adds 1 (OwedCode x line) old old) (sym e) (adds_more (omega arith) (adds_nothing old))

pub owed_one : (b : Bool) (line : ℕ) (old new : Draft) → b ≡ false → Adds 1 (OpCode line op.NoReturn) old new → Adds 1 (OwedCode b line) old new
owed_one b line old new e a = subst (λ (x : Bool). Adds 1 (OwedCode x line) old new) (sym e) a
