-- What constructors and destructors are made of, put together.
use Rattle.std.proofs.Common.{◌≡◌, ℕ, ◌+◌, ◌*◌, ◌≤◌, List, [], ◌∷◌, ◌++◌, Bool, Option, Some, None, length, reverse, refl, ap, sym, subst, ◌∙◌, arith, true, false}
use Rattle.uc_tree.specs.declared.kinds.Role.{Role}
use Rattle.uc_tree.specs.declared.kinds.Role.TheVariants as role
use Rattle.uc_tree.specs.Cells.{declared_cells, stmts_cells}
use Rattle.uc_tree.specs.Scopes.{stmts_scopes}
use Rattle.uc_tree.specs.StatementSizes.{stmts_size}
use Rattle.uc_tree.specs.Programs.{Class, Init, Program, Routine}
use Rattle.uc_tree.specs.Objects.{class_at, has_execution}
use Rattle.uc_tree.specs.Source.{Expr, Stmt, Stmts, Nil, Then, Built, Whole}
use Rattle.uc_resolve.specs.Resolve.{Meant, Scope, body_by, build, class_by, clean_up, construction, construction_ends, destruction, nowhere, place_or_zero, scope_behind, stmts_meant, unwritten_body, enlivened}
use Rattle.uc_code.specs.declared.rows.Array.{Array}
use Rattle.uc_code.specs.declared.rows.Manner.{Manner}
use Rattle.uc_code.specs.declared.rows.CodeMark.{CodeMark}
use Rattle.uc_code.specs.declared.rows.ObjectCall.{ObjectCall}
use Rattle.uc_code.specs.declared.rows.Cleaning.{Cleaning}
use Rattle.uc_code.specs.declared.rows.Cleaning.TheVariants as cleaning
use Rattle.uc_code.specs.declared.rows.Opening.TheVariants as opening
use Rattle.uc_code.specs.declared.rows.ObjectSpot.{ObjectSpot}
use Rattle.uc_code.specs.Drafts.{Draft}
use Rattle.uc_code.specs.Layout.{laid_in}
use Rattle.uc_code.specs.OpenRows.{StandsBehind, CleansBehind, opened}
use Rattle.uc_code.specs.CodeShapes.{Kept}
use Rattle.uc_code.specs.Lowered.{StmtAt, StmtsAt}
use Rattle.uc_code.specs.ObjectCalls.{Cleans}
use Rattle.uc_code.specs.Emits.{Puts, clean_by, clean_length}
use Rattle.uc_lower_expr.specs.DraftGrowth.{Adds}
use Rattle.uc_lower_expr.specs.declared.making.Made.{Made}
use Rattle.uc_lower_expr.specs.Meanings.{making_of}
use Rattle.uc_lower_expr.specs.Members.{made_routine}
use Rattle.uc_lower_stmt.specs.Blocks.{AllStandBehind, EndsScopes}
use Rattle.uc_lower_stmt.specs.Objects.{array_by, build_room, build_rows, call_by, destroyer_of, ended_by}
use Rattle.uc_lower_stmt.specs.LowersStatement.{Lowers, scope_of}
use Rattle.uc_lower_stmt.proofs.Joined.{lowers_adds, lowers_as, lowers_nothing, lowers_put, lowers_count}
use Rattle.uc_lower_stmt.proofs.Laying.{lays_ended, lays_join, lays_nothing, lays_one, block_rows}
use Rattle.uc_lower_stmt.proofs.Kept.{stmt_stable}
use Rattle.uc_lower_stmt.proofs.BlocksLemmas.{pending_kept, pending_ways}
use Rattle.uc_lower_stmt.specs.Marked.{closing}
use Rattle.uc_lower_stmt.specs.OpenScopes.{Pending, block_of, way_rows}
use Rattle.uc_code.proofs.Stable.{kept_then}
use Rattle.uc_lower_class.specs.Bodies.{LowersBare, LowersBody, LowersRaised, LowersUnwritten, LowersWhole, built_at, built_room, freed_at, freed_in, left_at, mutex_by, raise_room, raised_body, role_room, unwritten_room, whole_room}
use Rattle.uc_lower_class.specs.Fields.{PartBehind, all_built, all_left, all_room, left_count, left_room, live_room, mutex_count, own_close, part_room}
use Rattle.uc_lower_class.specs.declared.parts.ObjectPart.{ObjectPart}
use Rattle.uc_lower_class.specs.OpenParts.{Constructs, EndsParts, LeavesAll, NoParts, PartsIn}
use Rattle.uc_lower_class.proofs.Fielding.{part_fits}
use Rattle.uc_lower_class.proofs.Living.{mutex_few}
use Rattle.uc_lower_class.proofs.Parting.{constructs_as, constructs_does, constructs_part, constructs_then}
use Rattle.uc_lower_class.proofs.Wholes.{arm_built}
use Rattle.uc_lower_stmt.proofs.Openings.{build_long, build_counts}
use Rattle.uc_lower_stmt.proofs.RowFitting.{fit_then, fit_count}
use Rattle.uc_lower_stmt.specs.SourceRows.{stmt_rows_under, stmts_rows, stmts_rows_under}
use Rattle.uc_code.specs.RowCounts.{loop_rows, return_rows}

-- an object that is built, and its part

pub stands_by : (p : Program) (m : Made) (ms ns : List CodeMark) (wanted : Role) (how : Manner) (s : ObjectSpot) (o : Option Array) (what : Cleaning) → AllStandBehind p m ms → ns ≡ ms → what ≡ cleaning.Call (call_by (made_routine p wanted m) how s o) → CleansBehind ns what
stands_by p m ms ns wanted how s o what b e w =
    subst (λ (x : Cleaning). CleansBehind ns x) (sym w) (subst (λ (os : List CodeMark). StandsBehind os (call_by (made_routine p wanted m) how s o)) (sym e) (record { behind = λ h. b.each wanted h }))

pub part_built : (p : Program) (m : Made) (n : ℕ) (s : ObjectSpot) (l : Option ℕ) (place : Expr) (ms : List Meant) (what : Cleaning) (ws us : List Cleaning) (old mid new : Draft) → Puts (build_rows l) (n + build_room l) (λ code. StmtAt code old.marks (build p 0 (making_of p m) l place ms)) old mid
    → us ≡ ws ++ what ∷ [] → what ≡ cleaning.Call (destroyer_of p m s (array_by p m l)) → Cleans (clean_up p (making_of p m) l place) what → new ≡ opened opening.Part mid → Kept (laid_in mid) (laid_in new) → AllStandBehind p m old.marks
    → Constructs (n + part_room l) (λ rest. Then (build p 0 (making_of p m) l place ms) (Built (clean_up p (making_of p m) l place) rest)) ws old us new
part_built p m n s l place ms what ws us old mid new h f w g e k b =
    let marks : mid.marks ≡ old.marks = ap (λ (d : Draft). d.marks) h.rest in
    let fits : build_room l + (clean_length what + 2) ≤ part_room l = subst (λ (x : Cleaning). build_room l + (clean_length x + 2) ≤ part_room l) (sym w) (part_fits p m s l) in
    constructs_as (constructs_then (constructs_does (build p 0 (making_of p m) l place ms) ws (sym (build_counts p 0 (making_of p m) l place ms (loop_rows old.marks) (return_rows old.marks))) (build_long p 0 (making_of p m) l place ms (laid_in mid) old.marks (length old.ops) (length mid.ops) h.code) h) (constructs_part (clean_up p (making_of p m) l place) what ws us mid new e f k g (stands_by p m old.marks mid.marks role.Destructor (ended_by p m) s (array_by p m l) what b marks w))) (omega (arith, fits)) (λ ss. refl)

-- the fields of a class that may be missing

all_construction : (p : Program) (i : ℕ) (inits : List Init) (s : Scope) (o : Option Class) (ss : Stmts) → freed_in p i o (all_built p i inits s o ss) ≡ construction p o i inits s ss
all_construction p i inits s None ss = refl
all_construction p i inits s (Some c) ss = refl

all_destruction : (p : Program) (i : ℕ) (o : Option Class) (ss : Stmts) → all_left p i o ss ≡ destruction p o i ss
all_destruction p i None ss = refl
all_destruction p i (Some c) ss = refl

built_construction : (p : Program) (place : Option ℕ) (r : Routine) (s : Scope) (ss : Stmts) → freed_at p place (built_at p place r s ss) ≡ construction p (class_by p place) (place_or_zero p place) r.inits s ss
built_construction p None r s ss = refl
built_construction p (Some i) r s ss = all_construction p i r.inits s (class_at p i) ss

left_destruction : (p : Program) (place : Option ℕ) (ss : Stmts) → left_at p place ss ≡ destruction p (class_by p place) (place_or_zero p place) ss
left_destruction p None ss = refl
left_destruction p (Some i) ss = all_destruction p i (class_at p i) ss

abbrev block_of_body : Program → Routine → Scope → Stmt
block_of_body p r s = Whole r.brace.line (stmts_meant p r.body s)

-- the body of a constructor, and what follows it
abbrev body_within : Program → Option ℕ → Routine → Scope → Stmts
body_within p place r s = Then (block_of_body p r s) (construction_ends p (class_by p place) (place_or_zero p place))

constructor_body : (p : Program) (place : Option ℕ) (r : Routine) (s : Scope) → place ≡ s.class → freed_at p place (raised_body p place r s) ≡ body_by p role.Constructor r s
constructor_body p place r s e =
    built_construction p place r s (body_within p place r s) ∙ ap (λ (o : Option ℕ). construction p (class_by p o) (place_or_zero p o) r.inits s (body_within p o r s)) e

destructor_body : (p : Program) (place : Option ℕ) (r : Routine) (s : Scope) → place ≡ s.class → left_at p place (Then (block_of_body p r s) Nil) ≡ body_by p role.Destructor r s
destructor_body p place r s e =
    left_destruction p place (Then (block_of_body p r s) Nil) ∙ ap (λ (o : Option ℕ). destruction p (class_by p o) (place_or_zero p o) (Then (block_of_body p r s) Nil)) e

-- what makes an execution live has no row

live_none : (p : Program) (b : Bool) (loop out : ℕ) → stmts_rows loop out (enlivened p b) ≡ 0
live_none p true loop out = refl
live_none p false loop out = refl

ends_none : (p : Program) (o : Option Class) (i loop out : ℕ) → stmts_rows loop out (construction_ends p o i) ≡ 0
ends_none p None i loop out = refl
ends_none p (Some c) i loop out = live_none p (has_execution c.kind) loop out

-- written ones

abbrev low_body : Program → Routine → ℕ → Stmts → Draft → Draft → Type 0
low_body p r n ss old new = Lowers (stmts_rows_under old.marks ss) n (stmts_size r.body) (stmts_cells r.body (declared_cells p)) (stmts_scopes r.body) (λ code. StmtsAt code old.marks 0 ss) (scope_behind p r.body (scope_of old)) old new

-- a block behind drafts of the same scope
whole_on : (p : Program) (r : Routine) (s : Scope) (old new : Draft) → scope_of old ≡ s → LowersWhole p r old new → Lowers (stmt_rows_under old.marks (block_of_body p r s)) (whole_room r) (stmts_size r.body) (stmts_cells r.body (declared_cells p)) (stmts_scopes r.body) (λ code. StmtAt code old.marks (block_of_body p r s)) (scope_behind p r.body s) old new
whole_on p r s old new e h =
    subst (λ (t : Scope). Lowers (stmt_rows_under old.marks (block_of_body p r t)) (whole_room r) (stmts_size r.body) (stmts_cells r.body (declared_cells p)) (stmts_scopes r.body) (λ code. StmtAt code old.marks (block_of_body p r t)) (scope_behind p r.body t) old new) e h

pub raised_laid : (p : Program) (place : Option ℕ) (r : Routine) (us : List Cleaning) (d0 d1 d2 d3 new : Draft) → Constructs (built_room p place r) (built_at p place r (scope_of d0)) [] d0 us d1 → LowersWhole p r d1 d2
    → ((ms : List CodeMark) → Adds (live_room (class_by p place)) (λ code. StmtsAt code ms 0 (construction_ends p (class_by p place) (place_or_zero p place))) d2 d3) → EndsParts (reverse us) d3 new → LowersRaised p place r d0 new
raised_laid p place r us d0 d1 d2 d3 new h w l g =
    let scope : scope_of d1 ≡ scope_of d0 = ap scope_of h.rest in
    let none = ends_none p (class_by p place) (place_or_zero p place) (loop_rows d1.marks) (return_rows d1.marks) in
    let within : Lowers (stmts_rows_under d1.marks (body_within p place r (scope_of d0))) (whole_room r + live_room (class_by p place)) (stmts_size r.body) (stmts_cells r.body (declared_cells p)) (stmts_scopes r.body) (λ code. StmtsAt code d1.marks 0 (body_within p place r (scope_of d0))) (scope_behind p r.body (scope_of d0)) d1 d3 =
    lowers_count (omega (arith, none)) (lowers_put (stmt_stable d1.marks (block_of_body p r (scope_of d0))) (whole_on p r (scope_of d0) d1 d2 scope w) (l d1.marks)) in
    let all = arm_built (built_room p place r) (whole_room r + live_room (class_by p place)) (stmts_size r.body) (stmts_cells r.body (declared_cells p)) (stmts_scopes r.body) (built_at p place r (scope_of d0)) us (body_within p place r (scope_of d0)) (scope_behind p r.body (scope_of d0)) d0 d1 d3 new h within g in
    lowers_as all refl (λ code x z q. q) (omega arith) (omega arith) (omega arith) refl

-- statements in a scope, which has ended
scope_around : {n m k c d o : ℕ} {F : Stmts → Stmts} {t : Scope} {d0 d1 d2 new : Draft} → (ss : Stmts) (depth : ℕ) → depth ≡ length d0.marks → LeavesAll n d F d0 d1 → Lowers (stmts_rows_under d1.marks ss) m k c o (λ code. StmtsAt code d1.marks 0 ss) t d1 d2 → EndsScopes depth d2 new → Lowers (stmts_rows_under d0.marks (F ss)) (n + m) k c o (λ code. StmtsAt code d0.marks 0 (F ss)) t d0 new
scope_around {n} {m} {k} {c} {d} {o} {F} {t} {d0} {d1} {d2} {new} ss depth q h w e =
    let marks2 : d2.marks ≡ d1.marks = ap (λ (x : Draft). x.marks) w.rest in
    let before : Pending (laid_in d2) 0 d0.marks (length d0.ops) h.steps d2.marks (length d1.ops) =
    subst (λ (ms : List CodeMark). Pending (laid_in d2) 0 d0.marks (length d0.ops) h.steps ms (length d1.ops)) (sym marks2) (pending_kept (laid_in d1) 0 d0.marks (length d0.ops) (laid_in d2) h.steps d1.marks (length d1.ops) (omega arith) w.kept h.code) in
    let within : StmtsAt (laid_in d2) d2.marks 0 ss (length d1.ops) (length d2.ops) = subst (λ (ms : List CodeMark). StmtsAt (laid_in d2) ms 0 ss (length d1.ops) (length d2.ops)) (sym marks2) w.code in
    let b = e.block 0 (length d0.ops) (length d1.ops) h.steps d0.marks ss (sym q) h.none before within in
    let ends : closing new.marks ≡ closing d0.marks = ap closing b.marks in
    let same : closing d2.marks ≡ closing d1.marks = ap closing marks2 in
    let scopes2 : new.scopes ≡ d2.scopes = ap (λ (x : Draft). x.scopes) e.rest in
    let texts2 : new.texts ≡ d2.texts = ap (λ (x : Draft). x.texts) e.rest in
    let cells2 : new.cells ≡ d2.cells = ap (λ (x : Draft). x.cells) e.rest in
    record {
      rest = scope_rests h.rest w.rest e.rest b.marks;
      scope = ap scope_of e.rest ∙ w.scope;
      opened = (let x = h.opened in let y = w.opened in omega arith);
      kept = kept_then (laid_in d0) (laid_in d1) (laid_in new) h.kept (kept_then (laid_in d1) (laid_in d2) (laid_in new) w.kept e.kept);
      rows =
          let loop : ℕ = loop_rows d0.marks in
          let out : ℕ = return_rows d0.marks in
          let all = block_rows loop out h.steps ss in
          let is : stmts_rows loop out (block_of h.steps ss) ≡ stmts_rows loop out (F ss) = ap (stmts_rows loop out) (h.block ss) in
          let ways = pending_ways (laid_in d1) 0 d0.marks (length d0.ops) h.steps d1.marks (length d1.ops) h.code in
          let inner : stmts_rows_under d1.marks ss ≡ stmts_rows (way_rows h.steps loop) (way_rows h.steps out) ss =
          ap (λ (n : ℕ). stmts_rows n (return_rows d1.marks) ss) ways.0 ∙ ap (λ (n : ℕ). stmts_rows (way_rows h.steps loop) n ss) ways.1 in
          let total = b.rows in
          let grown = e.rows.more in
          fit_count (omega (arith, all, is, inner, total, grown)) (fit_then e.kept.longer (fit_then w.kept.longer h.rows w.rows) e.rows);
      room = (let x = h.room in let y = w.room in let z = e.room in omega (arith, ends, same));
      texts = (let x = h.texts in let y = w.texts in omega arith);
      cells = (let x = h.cells in let y = w.cells in omega arith);
      code = subst (λ (x : Stmts). StmtsAt (laid_in new) d0.marks 0 x (length d0.ops) (length new.ops)) (h.block ss) b.code;
    }
  where
    scope_rests : d1 ≡ record d0 { ops = d1.ops; rows = d1.rows; settled = d1.settled; marks = d1.marks; scopes = d1.scopes; names = d1.names; cells = d1.cells; hidden = d1.hidden; texts = d1.texts; sites = d1.sites }
        → d2 ≡ record d1 { ops = d2.ops; rows = d2.rows; settled = d2.settled; scopes = d2.scopes; names = d2.names; cells = d2.cells; hidden = d2.hidden; texts = d2.texts; sites = d2.sites }
        → new ≡ record d2 { ops = new.ops; rows = new.rows; settled = new.settled; marks = new.marks } → new.marks ≡ d0.marks
        → new ≡ record d0 { ops = new.ops; rows = new.rows; settled = new.settled; scopes = new.scopes; names = new.names; cells = new.cells; hidden = new.hidden; texts = new.texts; sites = new.sites }
    scope_rests r1 r2 r3 m3 =
        let all : new ≡ record d0 { ops = new.ops; rows = new.rows; settled = new.settled; scopes = d2.scopes; names = d2.names; cells = d2.cells; hidden = d2.hidden; texts = d2.texts; sites = d2.sites } =
        r3 ∙ ap (λ (x : Draft). let y : Draft = record x { ops = new.ops; rows = new.rows; settled = new.settled; marks = new.marks } in y) r2
        ∙ ap (λ (x : Draft). let y : Draft = record x { ops = new.ops; rows = new.rows; settled = new.settled; marks = new.marks; scopes = d2.scopes; names = d2.names; cells = d2.cells; hidden = d2.hidden; texts = d2.texts; sites = d2.sites } in y) r1
        ∙ ap (λ (ms : List CodeMark). let y : Draft = record d0 { ops = new.ops; rows = new.rows; settled = new.settled; marks = ms; scopes = d2.scopes; names = d2.names; cells = d2.cells; hidden = d2.hidden; texts = d2.texts; sites = d2.sites } in y) m3 in
        subst (λ (x : Draft). new ≡ record d0 { ops = new.ops; rows = new.rows; settled = new.settled; scopes = x.scopes; names = x.names; cells = x.cells; hidden = x.hidden; texts = x.texts; sites = x.sites }) (sym r3) all

-- what is reckoned for the scope of a mutex object
abbrev FreedAt : Program → Option ℕ → Draft → Draft → Type 0
FreedAt p o old new = LeavesAll (own_close * mutex_count (mutex_by p o)) (mutex_count (mutex_by p o)) (freed_at p o) old new

pub constructor_laid : (p : Program) (place : Option ℕ) (r : Routine) (depth : ℕ) (d0 d1 d2 new : Draft) → place ≡ d0.place.class → depth ≡ length d0.marks → FreedAt p place d0 d1 → LowersRaised p place r d1 d2 → EndsScopes depth d2 new → LowersBody p role.Constructor r d0 new
constructor_laid p place r depth d0 d1 d2 new e q h w g =
    let few = mutex_few (mutex_by p place) in
    let raised : low_body p r (raise_room p place r) (raised_body p place r (scope_of d0)) d1 d2 =
    subst (λ (s : Scope). Lowers (stmts_rows_under d1.marks (raised_body p place r s)) (raise_room p place r) (stmts_size r.body) (stmts_cells r.body (declared_cells p)) (stmts_scopes r.body) (λ code. StmtsAt code d1.marks 0 (raised_body p place r s)) (scope_behind p r.body (scope_of d1)) d1 d2) h.scope w in
    let all = scope_around (raised_body p place r (scope_of d0)) depth q h raised g in
    let placed : low_body p r (role_room p role.Constructor place r) (body_by p role.Constructor r (scope_of d0)) d0 new =
    subst (λ (ss : Stmts). low_body p r (role_room p role.Constructor place r) ss d0 new) (constructor_body p place r (scope_of d0) e) (lowers_as all (ap (scope_behind p r.body) h.scope) (λ code x z y. y) (omega (arith, few)) (omega arith) (omega arith) refl) in
    subst (λ (o : Option ℕ). low_body p r (role_room p role.Constructor o r) (body_by p role.Constructor r (scope_of d0)) d0 new) e placed

pub destructor_laid : (p : Program) (place : Option ℕ) (r : Routine) (depth : ℕ) (d0 d1 d2 new : Draft) → place ≡ d0.place.class → depth ≡ length d0.marks → LeavesAll (left_room (class_by p place)) (left_count (class_by p place)) (left_at p place) d0 d1 → LowersWhole p r d1 d2 → EndsScopes depth d2 new → LowersBody p role.Destructor r d0 new
destructor_laid p place r depth d0 d1 d2 new e q h w g =
    let whole = whole_on p r (scope_of d0) d1 d2 h.scope w in
    let all = lays_ended depth q (lays_join h (lays_one {s = block_of_body p r (scope_of d0)} 0 whole)) g in
    let placed : low_body p r (role_room p role.Destructor place r) (body_by p role.Destructor r (scope_of d0)) d0 new =
    subst (λ (ss : Stmts). low_body p r (role_room p role.Destructor place r) ss d0 new) (destructor_body p place r (scope_of d0) e) (lowers_as all refl (λ code x z y. y) (omega arith) (omega arith) (omega arith) (omega arith)) in
    subst (λ (o : Option ℕ). low_body p r (role_room p role.Destructor o r) (body_by p role.Destructor r (scope_of d0)) d0 new) e placed

-- those that nobody wrote

abbrev low_bare : ℕ → Stmts → Draft → Draft → Type 0
low_bare n ss old new = Lowers (stmts_rows_under old.marks ss) n 0 0 0 (λ code. StmtsAt code old.marks 0 ss) (scope_of old) old new

pub bare_laid : (p : Program) (i : ℕ) (us : List Cleaning) (d0 d1 d2 new : Draft) → scope_of d0 ≡ nowhere p → Constructs (all_room [] (class_at p i)) (all_built p i [] (scope_of d0) (class_at p i)) [] d0 us d1
    → ((ms : List CodeMark) → Adds (live_room (class_at p i)) (λ code. StmtsAt code ms 0 (construction_ends p (class_at p i) i)) d1 d2) → EndsParts (reverse us) d2 new → LowersBare p i d0 new
bare_laid p i us d0 d1 d2 new e h l g =
    let ends : Stmts = construction_ends p (class_at p i) i in
    let none = ends_none p (class_at p i) i (loop_rows d1.marks) (return_rows d1.marks) in
    let within : Lowers (stmts_rows_under d1.marks (construction_ends p (class_at p i) i)) (live_room (class_at p i)) 0 0 0 (λ code. StmtsAt code d1.marks 0 (construction_ends p (class_at p i) i)) (scope_of d1) d1 d2 = lowers_count (sym none) (lowers_adds 0 0 (l d1.marks)) in
    let scope : scope_of d1 ≡ scope_of d0 = ap scope_of h.rest in
    let all = arm_built (all_room [] (class_at p i)) (live_room (class_at p i)) 0 0 0 (all_built p i [] (scope_of d0) (class_at p i)) us ends (scope_of d1) d0 d1 d2 new h within g in
    lowers_count (ap (λ (s : Scope). stmts_rows_under d0.marks (all_built p i [] s (class_at p i) ends)) e) (
    lowers_as all scope (λ code x z y. subst (λ (s : Scope). StmtsAt code d0.marks 0 (all_built p i [] s (class_at p i) ends) x z) e y) (omega arith) (omega arith) (omega arith) (omega arith))

pub unwritten_built : (p : Program) (i depth : ℕ) (d0 d1 d2 new : Draft) → depth ≡ length d0.marks → FreedAt p (Some i) d0 d1 → LowersBare p i d1 d2 → EndsScopes depth d2 new → LowersUnwritten p role.Constructor i d0 new
unwritten_built p i depth d0 d1 d2 new q h w g =
    let few = mutex_few (mutex_by p (Some i)) in
    let all = scope_around (all_built p i [] (nowhere p) (class_at p i) (construction_ends p (class_at p i) i)) depth q h w g in
    let body : freed_in p i (class_at p i) (all_built p i [] (nowhere p) (class_at p i) (construction_ends p (class_at p i) i)) ≡ unwritten_body p role.Constructor i = all_construction p i [] (nowhere p) (class_at p i) (construction_ends p (class_at p i) i) in
    subst (λ (ss : Stmts). low_bare (unwritten_room role.Constructor (class_at p i)) ss d0 new) body (lowers_as all h.scope (λ code x z y. y) (omega (arith, few)) (omega arith) (omega arith) (omega arith))

pub unwritten_left : (p : Program) (i depth : ℕ) (d0 d1 new : Draft) → depth ≡ length d0.marks → LeavesAll (left_room (class_at p i)) (left_count (class_at p i)) (all_left p i (class_at p i)) d0 d1 → EndsScopes depth d1 new → LowersUnwritten p role.Destructor i d0 new
unwritten_left p i depth d0 d1 new q h g =
    let all = lays_ended depth q h g in
    subst (λ (ss : Stmts). low_bare (left_room (class_at p i)) ss d0 new) (all_destruction p i (class_at p i) Nil) (lowers_as all refl (λ code x z y. y) (omega arith) (omega arith) (omega arith) (omega arith))

-- a part that ends takes some ops
pub clean_some : (what : Cleaning) → 1 ≤ clean_length what
clean_some (cleaning.Call what) = some_by what.array what
  where
    some_by : (o : Option Array) (what : ObjectCall) → 1 ≤ clean_by o what
    some_by None what = omega arith
    some_by (Some a) what = omega arith
clean_some cleaning.TakeDown = omega arith
clean_some cleaning.Forget = omega arith
clean_some cleaning.Leave = omega arith
clean_some cleaning.End = omega arith
clean_some (cleaning.Free main) = omega arith
clean_some (cleaning.Restore cell) = omega arith

-- the parts of fields that are built are those of the marks, behind a block too
pub parts_on : {n : ℕ} {F : Stmts → Stmts} (us : List Cleaning) (d0 d1 d2 : Draft) → Constructs n F [] d0 us d1 → d2.marks ≡ d1.marks → PartsIn (reverse us) d2.marks
parts_on us d0 d1 d2 h e = subst (λ (ms : List CodeMark). PartsIn (reverse us) ms) (sym e) (h.parts (NoParts d0.marks))

-- how many ops a part takes

pub build_few : (l : Option ℕ) → build_room l ≤ part_room l
build_few None = omega arith
build_few (Some n) = omega arith

pub none_room : (l : Option ℕ) → 4 ≤ part_room l
none_room None = omega arith
none_room (Some n) = omega arith

-- what stands further on than a part's routine
pub behind_in : (p : Program) (ms : List CodeMark) (o : Option ObjectPart) (part : ObjectPart) → o ≡ Some part → PartBehind p ms o → AllStandBehind p part.made ms
behind_in p ms o part e b = subst (λ (x : Option ObjectPart). PartBehind p ms x) e b

-- no part stands at first
pub from_none : {n : ℕ} {F : Stmts → Stmts} {ws us : List Cleaning} {old new : Draft} → ws ≡ [] → Constructs n F ws old us new → Constructs n F [] old us new
from_none {n} {F} {ws} {us} {old} {new} e h = subst (λ (vs : List Cleaning). Constructs n F vs old us new) e h

-- where there is no class, and where there is no role

pub left_none : (p : Program) (i : ℕ) (o : Option Class) (d : Draft) → o ≡ None → LeavesAll (left_room o) (left_count o) (all_left p i o) d d
left_none p i o d e = subst (λ (x : Option Class). LeavesAll (left_room x) (left_count x) (all_left p i x) d d) (sym e) (lays_nothing 0 d)

pub left_at_none : (p : Program) (o : Option ℕ) (d : Draft) → o ≡ None → LeavesAll (left_room (class_by p o)) (left_count (class_by p o)) (left_at p o) d d
left_at_none p o d e = subst (λ (x : Option ℕ). LeavesAll (left_room (class_by p x)) (left_count (class_by p x)) (left_at p x) d d) (sym e) (lays_nothing 0 d)

pub plain_none : (p : Program) (wanted : Role) (i : ℕ) (d : Draft) → wanted ≡ role.Plain → LowersUnwritten p wanted i d d
plain_none p wanted i d e = subst (λ (x : Role). LowersUnwritten p x i d d) (sym e) (lowers_nothing d)
