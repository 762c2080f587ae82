-- The table of a program: the signatures of its routines, by their numbers, and what stands at the fields of its classes.
use Rattle.std.specs.Prelude.{ℕ, ◌+◌, ◌-◌, List, [], ◌∷◌, ◌++◌, length, map, slice_get, nat_lt, Bool, true, false, not, if◌then◌else◌, is_some, Option, Some, None}
use Rattle.uc_tree.specs.declared.kinds.Base.{Base}
use Rattle.uc_tree.specs.declared.kinds.Base.TheVariants as base
use Rattle.uc_tree.specs.declared.kinds.Kind.{Kind}
use Rattle.uc_tree.specs.declared.kinds.Role.{Role}
use Rattle.uc_tree.specs.declared.kinds.Role.TheVariants as role
use Rattle.uc_tree.specs.Names.{same_name}
use Rattle.uc_tree.specs.Statements as stmt
use Rattle.uc_tree.specs.Statements.{Declarator, Stmt, Stmts, MaybeStmt, Handler, Handlers, Clause, Clauses, ForStart}
use Rattle.uc_tree.specs.Constants.{constants_of, elements}
use Rattle.uc_tree.specs.Cells.{leading_cells, seen_in}
use Rattle.uc_tree.specs.Gathered.{gathered_all}
use Rattle.uc_tree.specs.Numbering.{is_plain, is_mutex, main_name, member_number, own_texts, own_sites, Defined, routines_of}
use Rattle.uc_tree.specs.Objects.{ClassField, fields_of, class_at, number_at, class_shape, has_execution, is_task, event_place, Unwritten, unwritten_of}
use Rattle.uc_tree.specs.Programs.{Class, Program}
use Rattle.uc_resolve.specs.Resolve.{Scope, length_of, with_declared, for_scope, scope_after, scope_past, scope_past_all, within_accept, scope_past_clause, scope_past_clauses, within_events, in_handler, scope_past_handler, routine_scope, place_by}
use Rattle.uc_rules.specs.declared.rules.Sort.{Sort}
use Rattle.uc_rules.specs.declared.rules.Entity.{Entity}
use Rattle.uc_rules.specs.declared.rules.Entity.TheVariants.{Method}
use Rattle.uc_rules.specs.declared.rules.NameMeaning.{NameMeaning}
use Rattle.uc_rules.specs.Names.{member_named}
use Rattle.uc_rules.specs.Sorts.{sort_of}
use Rattle.uc_typing.specs.Typing.{Ty, Num, Cell, Obj, Raw, Row, Inward, Apart, Enters, Makes, Helps, Main, Sig, Table, raw}
use Rattle.uc_sound.specs.Agreement.{place_ty, param_ty}
use Rattle.uc_sound.specs.Fields.{field_ty}

-- what stands at a place of a base
abbrev pub based_ty : Option Sort → Ty
based_ty None = Num
based_ty (Some s) = place_ty s

-- at one that is declared, with or without a length
abbrev pub declared_ty : Option ℕ → Ty → Ty
declared_ty None a = a
declared_ty (Some n) a = Row n a

abbrev pub event_locals : ℕ → Option ℕ → List (ℕ × Ty)
event_locals k None = []
event_locals k (Some i) = (k, Raw i) ∷ []

-- an event that every program has has no fields
abbrev pub caught_ty : Option ℕ → Ty
caught_ty None = Cell Num
caught_ty (Some i) = Obj i

-- whether the rules say that what a name of a class means is called inside its objects alone
abbrev pub entity_helps : Option Entity → Bool
entity_helps (Some (Method i j inner path)) = inner
entity_helps _ = false

abbrev pub helps_in : Option NameMeaning → Bool
helps_in None = false
helps_in (Some m) = entity_helps m.entity

-- how a routine of a mutex class comes to run inside its object: whether it has the name of a main, is a mutex member, helps inside
abbrev pub inward_by : Role → Bool → Bool → Bool → Inward
inward_by role.Constructor main numbered helps = Makes
inward_by role.Destructor main numbered helps = Enters
inward_by role.Plain true numbered helps = Main
inward_by role.Plain false true helps = Enters
inward_by role.Plain false false true = Helps
inward_by role.Plain false false false = Apart

-- so does what builds or destroys an object
abbrev pub role_inward : Role → Bool → Inward
role_inward role.Constructor true = Makes
role_inward role.Destructor true = Enters
role_inward _ _ = Apart

abbrev pub sig_or_none : Option Sig → Sig
sig_or_none None = record { this = None; params = []; locals = []; whole = false; inward = Apart }
sig_or_none (Some g) = g

abbrev pub of_kind : (Kind → Bool) → Option Class → Bool
of_kind test None = false
of_kind test (Some c) = test c.kind

-- the variables that a routine declares, each with its first cell and what stands there while it is built; the events that it builds
-- where it raises them, and those that handlers keep
module _ (p : Program) where
  abbrev pub local_ty : Base → Declarator → Ty
  local_ty b d = declared_ty (length_of p d d.len) (raw (based_ty (sort_of p b)))

  abbrev pub declared_locals : Base → List Declarator → Scope → List (ℕ × Ty)
  declared_locals b [] s = []
  declared_locals b (d ∷ ds) s = (s.cells, local_ty b d) ∷ declared_locals b ds (with_declared p s b d)

  abbrev pub for_locals : ForStart → Scope → List (ℕ × Ty)
  for_locals stmt.NoFor s = []
  for_locals (stmt.ForDeclare at b ds) s = declared_locals b ds s
  for_locals (stmt.ForEvaluate e) s = []

  abbrev pub raised_locals : Option stmt.Raised → Scope → List (ℕ × Ty)
  raised_locals None s = []
  raised_locals (Some r) s = event_locals s.hidden (event_place p (base.Named r.name))

  abbrev pub caught_locals : Option (List ℕ) → Option (List ℕ) → Scope → List (ℕ × Ty)
  caught_locals None event s = []
  caught_locals (Some name) None s = []
  caught_locals (Some name) (Some event) s = (s.hidden + 1, caught_ty (event_place p (base.Named event))) ∷ []

  abbrev mutual
    pub stmt_locals : Stmt → Scope → List (ℕ × Ty)
    stmt_locals (stmt.Block at body) s = stmts_locals body s
    stmt_locals (stmt.Declare at b ds) s = declared_locals b ds s
    stmt_locals (stmt.If at test chosen other) s = stmt_locals chosen s ++ maybe_locals other (scope_past p chosen s)
    stmt_locals (stmt.While at test body) s = stmt_locals body s
    stmt_locals (stmt.Do at body test) s = stmt_locals body s
    stmt_locals (stmt.For at start test step body) s = for_locals start s ++ stmt_locals body (for_scope p start s)
    stmt_locals (stmt.Try at brace body hs) s = stmts_locals body s ++ handlers_locals hs (scope_past_all p body s)
    stmt_locals (stmt.Throw at raised) s = raised_locals raised s
    stmt_locals (stmt.Raise at raised) s = raised_locals raised s
    stmt_locals (stmt.RaiseAt at raised target) s = raised_locals (Some raised) s
    stmt_locals (stmt.Enable at events body) s = stmt_locals body (within_events p s)
    stmt_locals (stmt.Disable at events body) s = stmt_locals body (within_events p s)
    stmt_locals (stmt.Accept at cs other) s = clauses_locals cs (within_accept p s) ++ maybe_locals other (scope_past_clauses p cs (within_accept p s))
    stmt_locals _ s = []

    pub stmts_locals : Stmts → Scope → List (ℕ × Ty)
    stmts_locals stmt.NoStmts s = []
    stmts_locals (stmt.MoreStmts first rest) s = stmt_locals first s ++ stmts_locals rest (scope_after p first s)

    pub maybe_locals : MaybeStmt → Scope → List (ℕ × Ty)
    maybe_locals stmt.NoStmt s = []
    maybe_locals (stmt.OneStmt body) s = stmt_locals body s

    pub handler_locals : Handler → Scope → List (ℕ × Ty)
    handler_locals (stmt.Handles at kind event param brace body) s =
        caught_locals param event s ++ stmts_locals body (in_handler p (stmt.Handles at kind event param brace body) s)

    pub handlers_locals : Handlers → Scope → List (ℕ × Ty)
    handlers_locals stmt.NoHandlers s = []
    handlers_locals (stmt.MoreHandlers first rest) s = handler_locals first s ++ handlers_locals rest (scope_past_handler p first s)

    pub clause_locals : Clause → Scope → List (ℕ × Ty)
    clause_locals (stmt.Accepts at guard members body) s = stmt_locals body s

    pub clauses_locals : Clauses → Scope → List (ℕ × Ty)
    clauses_locals stmt.NoClauses s = []
    clauses_locals (stmt.MoreClauses first rest) s = clause_locals first s ++ clauses_locals rest (scope_past_clause p first s)

  -- signatures

  abbrev pub inward_in : ℕ → Option Class → Role → List ℕ → Inward
  inward_in i None r name = Apart
  inward_in i (Some c) r name =
      if is_mutex c.kind then inward_by r (same_name name main_name) (is_some (member_number c name)) (helps_in (member_named p i name)) else Apart

  abbrev pub inward_at : Option ℕ → Role → List ℕ → Inward
  inward_at None r name = Apart
  inward_at (Some i) r name = inward_in i (class_at p i) r name

  abbrev pub unwritten_sig : Unwritten → Sig
  unwritten_sig u = record { this = Some u.class; params = []; locals = []; whole = true; inward = role_inward u.role (of_kind is_mutex (class_at p u.class)) }

  abbrev pub unwritten_sigs : List Unwritten → List Sig
  unwritten_sigs [] = []
  unwritten_sigs (u ∷ us) = unwritten_sig u ∷ unwritten_sigs us

  abbrev pub routine_sig_in : Defined → Scope → Sig
  routine_sig_in d s = record {
    this = place_by p d;
    params = map (param_ty p) d.routine.sig.params;
    locals = stmts_locals d.routine.body s;
    whole = not (is_plain d.routine.sig.role);
    inward = inward_at (place_by p d) d.routine.sig.role d.routine.sig.name;
  }

  -- of routines from this number on
  abbrev pub written_sigs : List Defined → ℕ → ℕ → ℕ → List Sig
  written_sigs [] number texts sites = []
  written_sigs (d ∷ ds) number texts sites =
      routine_sig_in d (routine_scope p d.routine (place_by p d) number texts sites) ∷ written_sigs ds (number + 1) (texts + length (gathered_all own_texts d.routine.body)) (sites + length (gathered_all (own_sites d.class d.number) d.routine.body))

  abbrev pub all_sigs : List Sig
  all_sigs = written_sigs (routines_of p) 0 0 0 ++ unwritten_sigs (unwritten_of p)

  -- fields

  abbrev pub known_field : Class → ClassField → Option Sort → Ty
  known_field c f None = Num
  known_field c f (Some s) = field_ty f.declarator.by_ref f.declarator.len (elements (seen_in (constants_of p.items) c) f.declarator) s

  abbrev pub listed_field : Class → Option ClassField → Ty
  listed_field c None = Num
  listed_field c (Some f) = known_field c f (sort_of p f.base)

  -- a cell before them is no field
  abbrev pub class_field : Option Class → ℕ → Ty
  class_field None n = Num
  class_field (Some c) n =
      if nat_lt n (leading_cells c.kind) then Num else listed_field c (slice_get (fields_of c.members) (n - leading_cells c.kind))

  abbrev pub table_of : Table
  table_of = record {
    routine = λ n. sig_or_none (slice_get all_sigs n);
    count = length all_sigs;
    fields = λ i n. class_field (class_at p i) n;
    shape = class_shape p;
    mutex = λ i. of_kind is_mutex (class_at p i);
    executes = λ i. of_kind has_execution (class_at p i);
    tasks = λ i. of_kind is_task (class_at p i);
    number = number_at p;
    refers = true;
  }
