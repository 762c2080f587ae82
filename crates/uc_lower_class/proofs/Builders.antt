-- The code of constructors and destructors.
use Rattle.std.proofs.Common.{◌≡◌, ℕ, ◌+◌, ◌≤◌, Bool, true, false, List, [], ◌∷◌, ◌++◌, length, nat_eq, refl, ap, sym, subst, ◌∙◌, arith}
use Rattle.std.specs.Prelude.{◌&&◌, ◌||◌, if◌then◌else◌, Option, Some, None, is_some, max, slice_set}
use Rattle.std.proofs.Math.Nat.{max-eq_left, max-eq_right}
use Rattle.uc_tree.specs.declared.kinds.Base.{Base}
use Rattle.uc_tree.specs.declared.kinds.Param.{Param}
use Rattle.uc_tree.specs.declared.kinds.Role.{Role}
use Rattle.uc_tree.specs.declared.kinds.Role.TheVariants as role
use Rattle.uc_tree.specs.Gathered.{gathered_all}
use Rattle.uc_tree.specs.Names.{same_name}
use Rattle.uc_tree.specs.Numbering.{is_plain, main_name, member_number, own_texts, own_sites}
use Rattle.uc_tree.specs.Objects.{Unwritten, class_at}
use Rattle.uc_tree.specs.ProgramMain.{main_number}
use Rattle.uc_tree.specs.StatementSizes.{stmts_size}
use Rattle.uc_tree.specs.Cells.{declared_cells, params_cells, routine_cells, stmts_cells}
use Rattle.uc_tree.specs.Scopes.{stmts_scopes}
use Rattle.uc_tree.specs.Programs.{Class, Program, Routine, Sig}
use Rattle.uc_tree.specs.Source as source
use Rattle.uc_resolve.specs.Resolve.{Scope, body_by, class_by, has_coroutines, has_number_in, has_tasks, is_main, params_known, purpose_of, role_purpose, routine_meant, routine_scope, scope_behind, unwritten_body, unwritten_meant}
use Rattle.uc_code.specs.declared.op.Op.TheVariants as op
use Rattle.uc_code.specs.declared.rows.CodeMark.{CodeMark}
use Rattle.uc_code.specs.declared.rows.CodeMark.TheVariants as mark
use Rattle.uc_code.specs.declared.rows.HandlerRow.{HandlerRow}
use Rattle.uc_code.specs.declared.rows.Instruction.{Instruction}
use Rattle.uc_code.specs.declared.rows.RoutineCode.{RoutineCode}
use Rattle.uc_code.specs.Drafts.{Draft}
use Rattle.uc_code.specs.Layout.{Laid, laid_in}
use Rattle.uc_code.specs.OpenRows.{left_marks}
use Rattle.uc_code.specs.CodeShapes.{Both, Kept, One}
use Rattle.uc_code.specs.Lowered.{StmtsAt, BodyAt, RoutineAt}
use Rattle.uc_code.proofs.Stable.{kept_then, kept_same}
use Rattle.uc_lower_expr.specs.DraftGrowth.{Adds, OpCode}
use Rattle.uc_lower_stmt.specs.Routines.{frame_cells}
use Rattle.uc_lower_stmt.specs.LowersStatement.{Lowers, scope_of}
use Rattle.uc_lower_stmt.proofs.Counted.{behind_counted}
use Rattle.uc_lower_stmt.proofs.Kept.{stmts_stable}
use Rattle.uc_lower_class.specs.Bodies.{LowersBody, LowersUnwritten, builder_room, role_room, unwritten_room}
use Rattle.uc_code.specs.RowGrowth.{BeginBy}
use Rattle.uc_lower_stmt.specs.RowFit.{RoutineRows, open_rows}
use Rattle.uc_lower_stmt.specs.SourceRows.{body_rows, routine_rows, stmts_rows, stmts_rows_under}

-- a routine with this body is laid out, and written down under its number
pub record Placed (home number n : ℕ) (body : source.Stmts) (begins : RoutineCode) (old new : Draft) : Type 0 where
  pub count : length new.rows ≡ length old.rows + stmts_rows 0 0 body
  pub kept : Kept (laid_in old) (laid_in new)
  pub rows : RoutineRows old new
  pub room : length new.ops ≤ length old.ops + (n + 1)
  pub code : Both (StmtsAt (laid_in new) (mark.Body home ∷ []) 0 body) (One (laid_in new) op.Return 0) (length old.ops) (length new.ops)
  pub written : new.routines ≡ slice_set old.routines number begins
  pub outside : new.marks ≡ []

module _ (home number n k c o : ℕ) (body : source.Stmts) (after : Scope) (begins : RoutineCode) (d0 first d2 d3 d4 new : Draft)
    (fm : first.marks ≡ mark.Body home ∷ []) (fo : first.ops ≡ d0.ops) (fw : first.rows ≡ d0.rows) (fr : first.routines ≡ d0.routines)
    (h : Lowers (stmts_rows_under first.marks body) n k c o (λ code. StmtsAt code first.marks 0 body) after first d2) (lv : d3 ≡ record d2 { marks = left_marks d2.marks }) (g : Adds 1 (OpCode 0 op.Return) d3 d4)
    (e : new ≡ record d4 { routines = slice_set d4.routines number begins }) where
  marks_three : d3.marks ≡ []
  marks_three = ap (λ (d : Draft). d.marks) lv ∙ ap left_marks (ap (λ (d : Draft). d.marks) h.rest ∙ fm)

  laid_first : laid_in first ≡ laid_in d0
  laid_first = ap (λ (is : List Instruction). let code : Laid = record { ops = is; rows = first.rows } in code) fo ∙ ap (λ (rs : List HandlerRow). let code : Laid = record { ops = d0.ops; rows = rs } in code) fw

  laid_three : laid_in d3 ≡ laid_in d2
  laid_three = ap laid_in lv

  laid_new : laid_in new ≡ laid_in d4
  laid_new = ap laid_in e

  ops_three : length d3.ops ≡ length d2.ops
  ops_three = ap (λ (d : Draft). length d.ops) lv

  ops_new : length new.ops ≡ length d4.ops
  ops_new = ap (λ (d : Draft). length d.ops) e

  ops_first : length first.ops ≡ length d0.ops
  ops_first = ap length fo

  rows_new : new.rows ≡ d2.rows
  rows_new = ap (λ (d : Draft). d.rows) e ∙ ap (λ (d : Draft). d.rows) g.rest ∙ ap (λ (d : Draft). d.rows) lv

  kept_two : Kept (laid_in d2) (laid_in new)
  kept_two = subst (λ (code : Laid). Kept (laid_in d2) code) (sym laid_new) (subst (λ (code : Laid). Kept code (laid_in d4)) laid_three g.kept)

  body_at : StmtsAt (laid_in new) (mark.Body home ∷ []) 0 body (length d0.ops) (length d2.ops)
  body_at =
      (stmts_stable (mark.Body home ∷ []) 0 body).moves (laid_in d2) (laid_in new) (length d0.ops) (length d2.ops) (kept_same (laid_in d2) (laid_in new) (length d0.ops) (length d2.ops) (omega arith) kept_two)
      (subst (λ (a : ℕ). StmtsAt (laid_in d2) (mark.Body home ∷ []) 0 body a (length d2.ops)) ops_first (subst (λ (ms : List CodeMark). StmtsAt (laid_in d2) ms 0 body (length first.ops) (length d2.ops)) fm h.code))

  end_at : One (laid_in new) op.Return 0 (length d2.ops) (length new.ops)
  end_at =
      subst (λ (z : ℕ). One (laid_in new) op.Return 0 (length d2.ops) z) (sym ops_new) (
      subst (λ (code : Laid). One code op.Return 0 (length d2.ops) (length d4.ops)) (sym laid_new) (subst (λ (a : ℕ). One (laid_in d4) op.Return 0 a (length d4.ops)) ops_three g.code))

  pub arm_placed : Placed home number n body begins d0 new
  arm_placed = record {
    count =
        let more = h.rows.more in
        let inner : stmts_rows_under first.marks body ≡ stmts_rows 0 0 body = ap (λ (ms : List CodeMark). stmts_rows_under ms body) fm in
        let r1 : length first.rows ≡ length d0.rows = ap length fw in
        let r2 : length new.rows ≡ length d2.rows = ap length rows_new in
        omega (arith, more, inner, r1, r2);
    kept = kept_then (laid_in d0) (laid_in d2) (laid_in new) (subst (λ (code : Laid). Kept code (laid_in d2)) laid_first h.kept) kept_two;
    rows = record {
      few =
          let x = h.rows.few in
          let m1 : open_rows first.marks ≡ 0 = ap open_rows fm in
          let m2 : open_rows d2.marks ≡ open_rows first.marks = ap (λ (d : Draft). open_rows d.marks) h.rest in
          let r1 : length first.rows ≡ length d0.rows = ap length fw in
          let r2 : length new.rows ≡ length d2.rows = ap length rows_new in
          let g1 = g.code.end in
          omega (arith, ops_three, ops_new, ops_first);
      begin = λ i l w.
          let g1 = g.code.end in
          subst (BeginBy i) (sym rows_new) (h.rows.begin i (omega (arith, ops_three, ops_new)) (subst (BeginBy i) (sym fw) w));
    };
    room = let x = h.room in let y = g.room in let a = ops_three in let b = ops_new in let f = ops_first in omega arith;
    code = record { middle = length d2.ops; first = body_at; second = end_at };
    written = ap (λ (d : Draft). d.routines) e ∙ ap (λ (l : List RoutineCode). slice_set l number begins) (ap (λ (d : Draft). d.routines) g.rest ∙ ap (λ (d : Draft). d.routines) lv ∙ ap (λ (d : Draft). d.routines) h.rest ∙ fr);
    outside = ap (λ (d : Draft). d.marks) e ∙ ap (λ (d : Draft). d.marks) g.rest ∙ marks_three;
  }

  pub scope_new : scope_of new ≡ after
  scope_new = ap scope_of e ∙ ap scope_of g.rest ∙ ap scope_of lv ∙ h.scope

  pub texts_new : new.texts ≤ first.texts + k
  texts_new = let x : new.texts ≡ d2.texts = ap (λ (d : Draft). d.texts) e ∙ ap (λ (d : Draft). d.texts) g.rest ∙ ap (λ (d : Draft). d.texts) lv in let y = h.texts in omega arith

-- a written one

abbrev begun_by : Program → List Param → ℕ → Option ℕ → ℕ → ℕ → ℕ → ℕ → Draft → Draft
begun_by p xs last class number hidden texts sites d = record d { place = record { class = class; routine = number; scope = 0 }; marks = mark.Body last ∷ []; scopes = 0; names = [] ++ params_known p 0 xs; handled = 0; cells = 0 + params_cells p xs; hidden = hidden; texts = texts; sites = sites }

pub begun_is : (p : Program) (r : Routine) (last : ℕ) (class : Option ℕ) (number hidden texts sites : ℕ) (xs : List Param) (d0 db dp d1 : Draft) → xs ≡ r.sig.params → hidden ≡ routine_cells p r
    → db ≡ record d0 { place = record { class = class; routine = number; scope = 0 }; marks = []; scopes = 0; names = []; handled = 0; cells = 0; hidden = hidden; texts = texts; sites = sites }
    → dp ≡ record db { names = db.names ++ params_known p db.cells xs; cells = db.cells + params_cells p xs } → d1 ≡ record dp { marks = mark.Body last ∷ dp.marks } → d1 ≡ begun_by p r.sig.params last class number (routine_cells p r) texts sites d0
begun_is p r last class number hidden texts sites xs d0 db dp d1 xe he e1 e2 e3 =
    e3 ∙ ap (λ (x : Draft). let d : Draft = record x { marks = mark.Body last ∷ x.marks } in d) (e2 ∙ ap (λ (x : Draft). let d : Draft = record x { names = x.names ++ params_known p x.cells xs; cells = x.cells + params_cells p xs } in d) e1)
    ∙ ap (λ (ys : List Param). begun_by p ys last class number hidden texts sites d0) xe ∙ ap (λ (n : ℕ). begun_by p r.sig.params last class number n texts sites d0) he

builds_role : (p : Program) (x : Role) (b : Base) → is_plain x ≡ false → role_purpose p x b ≡ source.Builder
builds_role p role.Plain b e = cc
builds_role p role.Constructor b e = refl
builds_role p role.Destructor b e = refl

-- no constructor and no destructor is the main of a coroutine or a task, and none has a number in its class

no_number : (p : Program) (c : Option Class) (s : Sig) → is_plain s.role ≡ false → has_number_in p c s ≡ false
no_number p None s e = refl
no_number p (Some k) s e = ap (λ (x : Bool). x && is_some (member_number k s.name)) e

abbrev purpose_with : Bool → Bool → Bool → Bool → Bool → source.Purpose → source.Purpose
purpose_with b t d m n q = if b || (t && m) then source.TaskMain else if d && m then source.CoroutineMain else if n then source.Builder else q

not_main : (t d : Bool) (q : source.Purpose) → purpose_with false t d false false q ≡ q
not_main true true q = refl
not_main true false q = refl
not_main false true q = refl
not_main false false q = refl

pub builder_purpose : (p : Program) (r : Routine) (number : ℕ) (c : Option Class) → is_plain r.sig.role ≡ false → nat_eq number (main_number p) ≡ false → purpose_of p number c r ≡ source.Builder
builder_purpose p r number c e m =
    let q = role_purpose p r.sig.role r.sig.ret in
    let t = has_tasks p c in
    let d = has_coroutines p c in
    let no_main : is_main p r.sig ≡ false = ap (λ (x : Bool). x && same_name r.sig.name main_name) e in
    ap (λ (b : Bool). purpose_with b t d (is_main p r.sig) (has_number_in p c r.sig) q) m
    ∙ ap (λ (b : Bool). purpose_with false t d b (has_number_in p c r.sig) q) no_main
    ∙ ap (λ (b : Bool). purpose_with false t d false b q) (no_number p c r.sig e)
    ∙ not_main t d q ∙ builds_role p r.sig.role r.sig.ret e

-- what lowering one does to a draft
pub record Written (p : Program) (r : Routine) (s : Scope) (class : Option ℕ) (last number : ℕ) (old new : Draft) : Type 0 where
  pub count : length new.rows ≡ length old.rows + routine_rows (routine_meant p r s)
  pub kept : Kept (laid_in old) (laid_in new)
  pub rows : RoutineRows old new
  pub room : length new.ops ≤ length old.ops + builder_room p r class
  pub code : RoutineAt (laid_in new) last number (routine_meant p r s) (record { entry = length old.ops; cells = frame_cells p r; params = length r.sig.params; written = true }) (length old.ops) (length new.ops)
  pub written : new.routines ≡ slice_set old.routines number (record { entry = length old.ops; cells = frame_cells p r; params = length r.sig.params; written = true })
  pub outside : new.marks ≡ []
  pub texts : new.texts ≡ s.texts + length (gathered_all own_texts r.body)
  pub few_texts : new.texts ≤ s.texts + stmts_size r.body
  pub sites : new.sites ≡ s.sites + length (gathered_all (own_sites None 0) r.body)

module _ (p : Program) (r : Routine) (wanted : Role) (class : Option ℕ) (last number texts sites entry cells params : ℕ) (d0 d1 d2 d3 d4 new : Draft) (few : number ≤ last) (we : wanted ≡ r.sig.role) (builds : is_plain r.sig.role ≡ false) (main : nat_eq number (main_number p) ≡ false)
    (ee : entry ≡ length d0.ops) (ce : cells ≡ d4.hidden) (pe : params ≡ length r.sig.params) (e1 : d1 ≡ begun_by p r.sig.params last class number (routine_cells p r) texts sites d0)
    (h : LowersBody p wanted r d1 d2) (lv : d3 ≡ record d2 { marks = left_marks d2.marks }) (g : Adds 1 (OpCode 0 op.Return) d3 d4)
    (e : new ≡ record d4 { routines = slice_set d4.routines number (record { entry = entry; cells = cells; params = params; written = true }) }) where
  abbrev s : Scope
  s = routine_scope p r class number texts sites

  abbrev first : Draft
  first = begun_by p r.sig.params last class number (routine_cells p r) texts sites d0

  abbrev begins : RoutineCode
  begins = record { entry = length d0.ops; cells = frame_cells p r; params = length r.sig.params; written = true }

  scope_first : scope_of first ≡ s
  scope_first = let z : 0 + params_cells p r.sig.params ≡ params_cells p r.sig.params = omega arith in ap (λ (n : ℕ). let t : Scope = record s { cells = n } in t) z

  k : LowersBody p r.sig.role r first d2
  k = subst (λ (x : Role). LowersBody p x r first d2) we (subst (λ (d : Draft). LowersBody p wanted r d d2) e1 h)

  low : Lowers (stmts_rows_under first.marks (body_by p r.sig.role r s)) (role_room p r.sig.role class r) (stmts_size r.body) (stmts_cells r.body (declared_cells p)) (stmts_scopes r.body) (λ code. StmtsAt code first.marks 0 (body_by p r.sig.role r s)) (scope_behind p r.body (scope_of first)) first d2
  low =
      subst (λ (t : Scope). Lowers (stmts_rows_under first.marks (body_by p r.sig.role r t)) (role_room p r.sig.role class r) (stmts_size r.body) (stmts_cells r.body (declared_cells p)) (stmts_scopes r.body) (λ code. StmtsAt code first.marks 0 (body_by p r.sig.role r t)) (scope_behind p r.body (scope_of first)) first d2) scope_first k

  -- the frame ends behind the last hidden cell
  frame : cells ≡ frame_cells p r
  frame = ce ∙ ap (λ (t : Scope). t.hidden) (ap scope_of g.rest ∙ ap scope_of lv ∙ low.scope ∙ behind_counted p r.body (scope_of first))

  is : new ≡ record d4 { routines = slice_set d4.routines number begins }
  is = e ∙ ap (λ (n : ℕ). let d : Draft = record d4 { routines = slice_set d4.routines number (record { entry = n; cells = cells; params = params; written = true }) } in d) ee
      ∙ ap (λ (n : ℕ). let d : Draft = record d4 { routines = slice_set d4.routines number (record { entry = length d0.ops; cells = n; params = params; written = true }) } in d) frame
      ∙ ap (λ (n : ℕ). let d : Draft = record d4 { routines = slice_set d4.routines number (record { entry = length d0.ops; cells = frame_cells p r; params = n; written = true }) } in d) pe

  abbrev room_is : ℕ
  room_is = role_room p r.sig.role class r

  placed : Placed last number room_is (body_by p r.sig.role r s) begins d0 new
  placed =
      arm_placed last number room_is (stmts_size r.body) (stmts_cells r.body (declared_cells p)) (stmts_scopes r.body) (body_by p r.sig.role r s) (scope_behind p r.body (scope_of first)) begins d0 first d2 d3 d4 new refl refl refl refl low lv g is

  scope_is : scope_of new ≡ scope_behind p r.body (scope_of first)
  scope_is =
      scope_new last number room_is (stmts_size r.body) (stmts_cells r.body (declared_cells p)) (stmts_scopes r.body) (body_by p r.sig.role r s) (scope_behind p r.body (scope_of first)) begins d0 first d2 d3 d4 new refl refl refl refl low lv g is

  pub arm_builder : Written p r s class last number d0 new
  arm_builder =
      let purpose = builder_purpose p r number (class_by p class) builds main in
      let same_rows : body_rows (purpose_of p number (class_by p class) r) (body_by p r.sig.role r s) ≡ stmts_rows 0 0 (body_by p r.sig.role r s) = ap (λ (q : source.Purpose). body_rows q (body_by p r.sig.role r s)) purpose in
      record {
        count = (let x = placed.count in omega (arith, x, same_rows));
        kept = placed.kept;
        rows = placed.rows;
        room = placed.room;
        code = record {
          entry = refl;
          cells = refl;
          params = refl;
          written = refl;
          body = subst (λ (q : source.Purpose). BodyAt (laid_in new) q (max number last) r.brace.line (body_by p r.sig.role r s) (length d0.ops) (length new.ops)) (sym purpose)
              (subst (λ (n : ℕ). BodyAt (laid_in new) source.Builder n r.brace.line (body_by p r.sig.role r s) (length d0.ops) (length new.ops)) (sym (max-eq_right few)) placed.code);
        };
        written = placed.written;
        outside = placed.outside;
        texts = ap (λ (t : Scope). t.texts) (scope_is ∙ behind_counted p r.body (scope_of first));
        few_texts = texts_new last number room_is (stmts_size r.body) (stmts_cells r.body (declared_cells p)) (stmts_scopes r.body) (body_by p r.sig.role r s) (scope_behind p r.body (scope_of first)) begins d0 first d2 d3 d4 new refl refl refl refl low lv g is;
        sites = ap (λ (t : Scope). t.sites) (scope_is ∙ behind_counted p r.body (scope_of first));
      }

-- one that nobody wrote

pub bare_is : (number : ℕ) (d0 db d1 : Draft) → db ≡ record d0 { place = record { class = None; routine = 0; scope = 0 }; marks = []; scopes = 0; names = []; handled = 0; cells = 0; hidden = 0; texts = 0; sites = 0 } → d1 ≡ record db { marks = mark.Body number ∷ db.marks }
    → d1 ≡ record d0 { place = record { class = None; routine = 0; scope = 0 }; marks = mark.Body number ∷ []; scopes = 0; names = []; handled = 0; cells = 0; hidden = 0; texts = 0; sites = 0 }
bare_is number d0 db d1 e1 e2 = e2 ∙ ap (λ (x : Draft). let d : Draft = record x { marks = mark.Body number ∷ x.marks } in d) e1

module _ (p : Program) (u : Unwritten) (number entry : ℕ) (d0 d1 d2 d3 d4 new : Draft) (ee : entry ≡ length d0.ops)
    (e1 : d1 ≡ record d0 { place = record { class = None; routine = 0; scope = 0 }; marks = mark.Body number ∷ []; scopes = 0; names = []; handled = 0; cells = 0; hidden = 0; texts = 0; sites = 0 })
    (h : LowersUnwritten p u.role u.class d1 d2) (lv : d3 ≡ record d2 { marks = left_marks d2.marks }) (g : Adds 1 (OpCode 0 op.Return) d3 d4)
    (e : new ≡ record d4 { routines = slice_set d4.routines number (record { entry = entry; cells = 0; params = 0; written = false }) }) where
  abbrev bare : Draft
  bare = record d0 { place = record { class = None; routine = 0; scope = 0 }; marks = mark.Body number ∷ []; scopes = 0; names = []; handled = 0; cells = 0; hidden = 0; texts = 0; sites = 0 }

  pub arm_unwritten : Placed number number (unwritten_room u.role (class_at p u.class)) (unwritten_body p u.role u.class) (record { entry = length d0.ops; cells = 0; params = 0; written = false }) d0 new
  arm_unwritten =
      arm_placed number number (unwritten_room u.role (class_at p u.class)) 0 0 0 (unwritten_body p u.role u.class) (scope_of bare) (record { entry = length d0.ops; cells = 0; params = 0; written = false }) d0 bare d2 d3 d4 new refl refl refl refl
      (subst (λ (d : Draft). LowersUnwritten p u.role u.class d d2) e1 h) lv g
      (e ∙ ap (λ (n : ℕ). let d : Draft = record d4 { routines = slice_set d4.routines number (record { entry = n; cells = 0; params = 0; written = false }) } in d) ee)

  pub unwritten_count : length new.rows ≡ length d0.rows + routine_rows (unwritten_meant p u)
  unwritten_count = arm_unwritten.count

  pub unwritten_rows : RoutineRows d0 new
  unwritten_rows = arm_unwritten.rows

  pub unwritten_at : (last : ℕ) → last ≤ number → RoutineAt (laid_in new) last number (unwritten_meant p u) (record { entry = length d0.ops; cells = 0; params = 0; written = false }) (length d0.ops) (length new.ops)
  unwritten_at last l = record {
    entry = refl;
    cells = refl;
    params = refl;
    written = refl;
    body = subst (λ (n : ℕ). BodyAt (laid_in new) source.Builder n 0 (unwritten_body p u.role u.class) (length d0.ops) (length new.ops)) (sym (max-eq_left l)) arm_unwritten.code;
  }
