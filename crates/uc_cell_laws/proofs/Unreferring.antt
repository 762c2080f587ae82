-- A program that breaks no rule declares no local as a reference, as uc_state_laws has it for rooms.
use Rattle.std.proofs.Common.{◌≡◌, ℕ, ◌+◌, length, List, [], ◌∷◌, ◌++◌, None, Bool, true, false, refl, ap, ◌∙◌}
use Rattle.std.specs.Prelude.{not, if◌then◌else◌}
use Rattle.uc_tree.specs.declared.pos.Pos.{Pos}
use Rattle.uc_tree.specs.declared.kinds.Base.{Base}
use Rattle.uc_tree.specs.declared.kinds.Owner.{Owner}
use Rattle.uc_tree.specs.declared.kinds.Owner.TheVariants as owner
use Rattle.uc_tree.specs.Gathered.{gathered, gathered_all, gathered_maybe, gathered_handlers, gathered_clauses}
use Rattle.uc_tree.specs.Cells.{params_cells}
use Rattle.uc_tree.specs.Numbering.{routines_of, Defined, defined_by, form_defined, members_defined, item_defined, items_defined}
use Rattle.uc_tree.specs.Programs.{Routine, Class, Member, MemberForm, FieldsMember, RoutineMember, ProtoMember, Item, ClassItem, RoutineItem, ConstItem, ProtoItem, ForwardItem, UsingItem, Program}
use Rattle.uc_tree.specs.Statements as stmt
use Rattle.uc_tree.specs.Statements.{Declarator}
use Rattle.uc_rules.specs.declared.rule.Rule.{Rule}
use Rattle.uc_rules.specs.declared.rule.Rule.TheVariants.{S2, S22, O4, O5}
use Rattle.uc_rules.specs.declared.rule.Break.{Break}
use Rattle.uc_rules.specs.declared.rules.OwnClass.{OwnClass}
use Rattle.uc_rules.specs.Asked.{unless, of_sort}
use Rattle.uc_rules.specs.Sorts.{sort_of}
use Rattle.uc_rules.specs.ExpressionBreaks.{is_new, length_breaks, length_value_breaks, start_breaks, is_no_event}
use Rattle.uc_rules.specs.OwnerBreaks.{is_no_condition_sort}
use Rattle.uc_rules.specs.Scopes.{Env, opened, block_env, declared, env_after, for_declared, with_params, with_caught}
use Rattle.uc_rules.specs.Visits.{Visit, AtSig, AtVariable, AtBase, AtHandlers, AtCaught, AtAccept, AtInits, args_visits, maybe_visits, condition_visits, maybe_condition_visits, maybe_statement_visits, variable_visits, variables_visits, start_values, variable_target, for_visits, events_visits, looped, joined, handling, stmt_visits, stmts_visits, maybe_stmt_visits, handlers_visits, clauses_visits}
use Rattle.uc_rules.specs.ProgramVisits.{base_visits, params_visits, sig_visits, inits_visits, body_visits, routine_visits, sig_env, outer_env, form_visits, members_visits, item_visits, items_visits, classes_in}
use Rattle.uc_rules.specs.Breaks.{breaks_at, breaks_among, breaks_of}
use Rattle.uc_state_laws.specs.Layout.{references, started_references, own_references}
use Rattle.uc_sound.proofs.BodyLemmas.{params_one}
use Rattle.uc_state_laws.proofs.Statements.{none_left, none_right}

-- breaks

abbrev Unbroken : List Visit → Type 0
Unbroken vs = breaks_among vs ≡ []

holds : (b : Bool) (r : Rule) (p : Pos) (more : List Break) → unless b r p ++ more ≡ [] → b ≡ true
holds true r p more h = refl
holds false r p more h = absurd (cc)

is_not : (b : Bool) → not b ≡ true → b ≡ false
is_not true h = absurd (cc)
is_not false h = refl

both_none : {A : Type 0} (xs ys : List A) → xs ≡ [] → ys ≡ [] → xs ++ ys ≡ []
both_none xs ys h k = ap (λ l. l ++ ys) h ∙ k

first : (xs ys : List Visit) → breaks_among (xs ++ ys) ≡ [] → breaks_among xs ≡ []
first [] ys h = refl
first (v ∷ xs) ys h =
    both_none (breaks_at v) (breaks_among xs) (none_left (breaks_at v) (breaks_among (xs ++ ys)) h) (first xs ys (none_right (breaks_at v) (breaks_among (xs ++ ys)) h))

second : (xs ys : List Visit) → breaks_among (xs ++ ys) ≡ [] → breaks_among ys ≡ []
second [] ys h = h
second (v ∷ xs) ys h = second xs ys (none_right (breaks_at v) (breaks_among (xs ++ ys)) h)

-- what stands behind one visit
behind : (v : Visit) (vs : List Visit) → breaks_among (v ∷ vs) ≡ [] → breaks_among vs ≡ []
behind v vs h = none_right (breaks_at v) (breaks_among vs) h

-- declarations

no_reference : (env : Env) (b : Base) (d : Declarator) → breaks_at (AtVariable env b d) ≡ [] → d.by_ref ≡ false
no_reference env b d h =
    let h1 = none_right (unless (is_new env d.name) S2 d.pos) _ h in
    let h2 = none_right (length_breaks env d.by_ref d.len d.pos) _ h1 in
    let h3 = none_right (length_value_breaks env d.len) _ h2 in
    let h4 = none_right (start_breaks env b d) _ h3 in
    let h5 = none_right (of_sort (sort_of env.program b) is_no_event S22 d.pos) _ h4 in
    let h6 = none_right (of_sort (sort_of env.program b) is_no_condition_sort O4 d.pos) _ h5 in
    is_not d.by_ref (holds (not d.by_ref) O5 d.pos _ h6)

variable : (env : Env) (b : Base) (d : Declarator) → Unbroken (variable_visits env b d) → d.by_ref ≡ false
variable env b d h =
    let a = second (maybe_visits env d.len) (args_visits env (start_values d.start) (variable_target d.len (sort_of env.program b)) 0 ++ AtVariable env b d ∷ []) h in
    let c = second (args_visits env (start_values d.start) (variable_target d.len (sort_of env.program b)) 0) (AtVariable env b d ∷ []) a in
    no_reference env b d (none_left (breaks_at (AtVariable env b d)) [] c)

variables : (env : Env) (b : Base) (ds : List Declarator) → Unbroken (variables_visits env b ds) → references ds ≡ []
variables env b [] h = refl
variables env b (d ∷ ds) h =
    ap (λ (r : Bool). if r then d.pos ∷ references ds else references ds) (variable env b d (first (variable_visits env b d) (variables_visits (declared env b d) b ds) h))
    ∙ variables (declared env b d) b ds (second (variable_visits env b d) (variables_visits (declared env b d) b ds) h)

started : (env : Env) (x : stmt.ForStart) → Unbroken (for_visits env x) → started_references x ≡ []
started env stmt.NoFor h = refl
started env (stmt.ForDeclare p b ds) h = variables env b ds (behind (AtBase env p b) (variables_visits env b ds) h)
started env (stmt.ForEvaluate e) h = refl

-- statements

mutual
  one : (t : stmt.Stmt) (env : Env) → Unbroken (stmt_visits t env) → gathered own_references t ≡ []
  one (stmt.Block p body) env h = all body (block_env env) h
  one (stmt.Declare p b ds) env h = variables env b ds (behind (AtBase env p b) (variables_visits env b ds) h)
  one (stmt.If p test chosen other) env h =
      let a = second (condition_visits env test) (stmt_visits chosen (opened env) ++ maybe_stmt_visits other env) h in
      both_none (gathered own_references chosen) (gathered_maybe own_references other) (one chosen (opened env) (first (stmt_visits chosen (opened env)) (maybe_stmt_visits other env) a)) (maybe other env (second (stmt_visits chosen (opened env)) (maybe_stmt_visits other env) a))
  one (stmt.While p test body) env h = one body (opened (looped env)) (second (condition_visits env test) (stmt_visits body (opened (looped env))) h)
  one (stmt.Do p body test) env h = one body (opened (looped env)) (first (stmt_visits body (opened (looped env))) (condition_visits env test) h)
  one (stmt.For p x test step body) env h =
      let inner = for_declared (opened env) x in
      let vs = stmt_visits body (joined (looped inner)) in
      let a = first (for_visits (opened env) x) (maybe_condition_visits inner test ++ (maybe_statement_visits inner step ++ vs)) h in
      let b = second (for_visits (opened env) x) (maybe_condition_visits inner test ++ (maybe_statement_visits inner step ++ vs)) h in
      let c = second (maybe_condition_visits inner test) (maybe_statement_visits inner step ++ vs) b in
      both_none (started_references x) (gathered own_references body) (started (opened env) x a) (one body (joined (looped inner)) (second (maybe_statement_visits inner step) vs c))
  one (stmt.Try p brace body hs) env h =
      let a = second (stmts_visits body (opened env)) (AtHandlers env hs ∷ handlers_visits hs env) h in
      both_none (gathered_all own_references body) (gathered_handlers own_references hs) (all body (opened env) (first (stmts_visits body (opened env)) (AtHandlers env hs ∷ handlers_visits hs env) h)) (handlers hs env (behind (AtHandlers env hs) (handlers_visits hs env) a))
  one (stmt.Enable p events body) env h = one body (opened env) (second (events_visits env events) (stmt_visits body (opened env)) h)
  one (stmt.Disable p events body) env h = one body (opened env) (second (events_visits env events) (stmt_visits body (opened env)) h)
  one (stmt.Accept p cs other) env h =
      let a = behind (AtAccept env p cs) (clauses_visits cs env ++ maybe_stmt_visits other env) h in
      both_none (gathered_clauses own_references cs) (gathered_maybe own_references other) (clauses cs env (first (clauses_visits cs env) (maybe_stmt_visits other env) a)) (maybe other env (second (clauses_visits cs env) (maybe_stmt_visits other env) a))
  one t env h = refl

  all : (ts : stmt.Stmts) (env : Env) → Unbroken (stmts_visits ts env) → gathered_all own_references ts ≡ []
  all stmt.NoStmts env h = refl
  all (stmt.MoreStmts t ts) env h =
      both_none (gathered own_references t) (gathered_all own_references ts) (one t env (first (stmt_visits t env) (stmts_visits ts (env_after env t)) h)) (all ts (env_after env t) (second (stmt_visits t env) (stmts_visits ts (env_after env t)) h))

  maybe : (t : stmt.MaybeStmt) (env : Env) → Unbroken (maybe_stmt_visits t env) → gathered_maybe own_references t ≡ []
  maybe stmt.NoStmt env h = refl
  maybe (stmt.OneStmt body) env h = one body (opened env) h

  handlers : (hs : stmt.Handlers) (env : Env) → Unbroken (handlers_visits hs env) → gathered_handlers own_references hs ≡ []
  handlers stmt.NoHandlers env h = refl
  handlers (stmt.MoreHandlers (stmt.Handles p kind event param brace body) rest) env h =
      let mine = AtCaught (handling env) p param ∷ stmts_visits body (with_caught (handling env) event param) in
      let a = behind (AtCaught (handling env) p param) (stmts_visits body (with_caught (handling env) event param)) (first mine (handlers_visits rest env) h) in
      both_none (gathered_all own_references body) (gathered_handlers own_references rest) (all body (with_caught (handling env) event param) a) (handlers rest env (second mine (handlers_visits rest env) h))

  clauses : (cs : stmt.Clauses) (env : Env) → Unbroken (clauses_visits cs env) → gathered_clauses own_references cs ≡ []
  clauses stmt.NoClauses env h = refl
  clauses (stmt.MoreClauses (stmt.Accepts p guard members body) rest) env h =
      let mine = maybe_condition_visits env guard ++ stmt_visits body (opened env) in
      let a = second (maybe_condition_visits env guard) (stmt_visits body (opened env)) (first mine (clauses_visits rest env) h) in
      both_none (gathered own_references body) (gathered_clauses own_references rest) (one body (opened env) a) (clauses rest env (second mine (clauses_visits rest env) h))

-- routines

all_plain : (env : Env) (r : Routine) → Unbroken (routine_visits env r) → gathered_all own_references r.body ≡ []
all_plain env r h =
    let inner = with_params env r.sig.params in
    let a = second (sig_visits env r.sig) (body_visits inner r) h in
    let b = behind (AtInits inner r.sig r.inits) (inits_visits inner None r.inits ++ stmts_visits r.body inner) a in
    all r.body inner (second (inits_visits inner None r.inits) (stmts_visits r.body inner) b)

-- it declares no reference, and has as many cells for parameters as there are
abbrev pub IsPlain : Program → Routine → Type 0
IsPlain p r = (gathered_all own_references r.body ≡ []) × (params_cells p r.sig.params ≡ length r.sig.params)

abbrev pub ArePlain : Program → List Defined → Type 0
ArePlain p [] = Unit {0}
ArePlain p (d ∷ ds) = IsPlain p d.routine × ArePlain p ds

routine : (env : Env) (r : Routine) → Unbroken (routine_visits env r) → IsPlain env.program r
routine env r h = (all_plain env r h, params_one r.sig.params env (second (AtSig env r.sig ∷ []) (params_visits env r.sig.params) (second (base_visits env r.sig) (AtSig env r.sig ∷ params_visits env r.sig.params) (first (sig_visits env r.sig) (body_visits (with_params env r.sig.params) r) h))))

both_lists : (p : Program) (ds es : List Defined) → ArePlain p ds → ArePlain p es → ArePlain p (ds ++ es)
both_lists p [] es h k = k
both_lists p (d ∷ ds) es h k = (h.0, both_lists p ds es h.1 k)

module _ (p : Program) where
  form : (o : OwnClass) (c : Class) (j : ℕ) (m : Member) (f : MemberForm) (name : List ℕ) → Unbroken (form_visits p o c j m.mark m.access f) → ArePlain p (form_defined p name f)
  form o c j m (FieldsMember at b ds) name h = tt
  form o c j m (RoutineMember r) name h =
      (routine (sig_env p o m.mark r.sig) r (none_right _ (breaks_among (routine_visits (sig_env p o m.mark r.sig) r)) h), tt)
  form o c j m (ProtoMember sig) name h = tt

  members : (o : OwnClass) (c : Class) (j : ℕ) (ms : List Member) (name : List ℕ) → Unbroken (members_visits p o c j ms) → ArePlain p (members_defined p name ms)
  members o c j [] name h = tt
  members o c j (m ∷ ms) name h =
      let mine : List Visit = form_visits p o c j m.mark m.access m.form in
      let rest : List Visit = members_visits p o c (j + 1) ms in
      let a : Unbroken (mine ++ rest) = none_right _ (breaks_among (mine ++ rest)) h in
      both_lists p (form_defined p name m.form) (members_defined p name ms) (form o c j m m.form name (first mine rest a)) (members o c (j + 1) ms name (second mine rest a))

  outer : (o : Owner) (r : Routine) → IsPlain p r → ArePlain p (defined_by p o r ∷ [])
  outer owner.Here r h = (h, tt)
  outer owner.Main r h = (h, tt)
  outer (owner.Class name) r h = (h, tt)

  item : (k : ℕ) (x : Item) → Unbroken (item_visits p k x) → ArePlain p (item_defined p x)
  item k (ClassItem c) h = members (record { class = k; kind = c.kind }) c 0 c.members c.name (none_right _ (breaks_among (members_visits p (record { class = k; kind = c.kind }) c 0 c.members)) h)
  item k (RoutineItem r) h = outer r.sig.owner r (routine (outer_env p r.sig) r h)
  item k (ConstItem c) h = tt
  item k (ProtoItem sig) h = tt
  item k (ForwardItem forward) h = tt
  item k (UsingItem place) h = tt

  items : (k i : ℕ) (xs : List Item) → Unbroken (items_visits p k i xs) → ArePlain p (items_defined p xs)
  items k i [] h = tt
  items k i (x ∷ xs) h =
      let mine : List Visit = item_visits p k x in
      let rest : List Visit = items_visits p (k + classes_in x) (i + 1) xs in
      let a : Unbroken (mine ++ rest) = none_right _ (breaks_among (mine ++ rest)) h in
      both_lists p (item_defined p x) (items_defined p xs) (item k x (first mine rest a)) (items (k + classes_in x) (i + 1) xs (second mine rest a))

pub are_plain : (p : Program) → breaks_of p ≡ [] → ArePlain p (routines_of p)
are_plain p h = items p 0 0 p.items (none_right _ (breaks_among (items_visits p 0 0 p.items)) h)
