-- How statements are stored.
use Rattle.std.specs.Prelude.{◌≡◌, zero, suc, List, [], Option, None, refl}
use base.Stored.{Coded, Gv, gnil, gnum, gcons}
use Rattle.uc_tree.specs.declared.kinds.Base.{Base}
use Rattle.uc_tree.specs.declared.kinds.Base.TheVariants.{Void, Int, Char, Bool, Condition, Cluster, Processor, Named}
use Rattle.uc_tree.specs.declared.kinds.HandlerKind.TheVariants.{Catch}
use Rattle.uc_tree.specs.declared.kinds.EventName.{EventName}
use Rattle.uc_tree.specs.declared.kinds.MemberName.{MemberName}
use Rattle.uc_tree.specs.Codes.{Codec, coded_by, via, flag_codec, name_codec, maybe_name_codec, pos_codec, no_pos, list_codec, option_codec, pair_codec, handler_kind_codec}
use Rattle.uc_tree.specs.Expressions.{Expr}
use Rattle.uc_tree.specs.ExpressionCodes.{expr_codec, exprs_codec}
use Rattle.uc_tree.specs.Statements.{Start, NoStart, StartValue, StartArgs, Declarator, Raised, OutItem, Endl, Literal, Printed, ForStart, NoFor, ForDeclare, ForEvaluate, Stmt, Block, Empty, Evaluate, Declare, If, While, Do, For, Break, Continue, Return, Try, Throw, Raise, RaiseAt, Enable, Disable, Accept, Print, PrintTogether, Read, Resume, Suspend, Yield, Migrate, Stmts, NoStmts, MoreStmts, MaybeStmt, NoStmt, OneStmt, Handler, Handles, Handlers, NoHandlers, MoreHandlers, Clause, Accepts, Clauses, NoClauses, MoreClauses}

abbrev pub maybe_expr_codec : Codec (Option Expr)
maybe_expr_codec = option_codec expr_codec

abbrev base_code : Base → Gv
base_code Void = gnum 0
base_code Int = gnum 1
base_code Char = gnum 2
base_code Bool = gnum 3
base_code Condition = gnum 4
base_code Cluster = gnum 5
base_code Processor = gnum 6
base_code (Named name) = gcons gnil (name_codec.code name)

abbrev base_back : Gv → Base
base_back (gnum zero) = Void
base_back (gnum (suc zero)) = Int
base_back (gnum (suc (suc zero))) = Char
base_back (gnum (suc (suc (suc zero)))) = Bool
base_back (gnum (suc (suc (suc (suc zero))))) = Condition
base_back (gnum (suc (suc (suc (suc (suc zero)))))) = Cluster
base_back (gnum _) = Processor
base_back (gcons _ name) = Named (name_codec.back name)
base_back gnil = Void

abbrev base_again : (b : Base) → base_back (base_code b) ≡ b
base_again Void = refl
base_again Int = refl
base_again Char = refl
base_again Bool = refl
base_again Condition = refl
base_again Cluster = refl
base_again Processor = refl
base_again (Named name) = λ i. Named (name_codec.again name i)

abbrev pub base_codec : Codec Base
base_codec = record { code = base_code; back = base_back; again = base_again }

abbrev start_code : Start → Gv
start_code NoStart = gnil
start_code (StartValue e) = gcons (gnum 0) (expr_codec.code e)
start_code (StartArgs es) = gcons (gnum 1) (exprs_codec.code es)

abbrev start_back : Gv → Start
start_back (gcons (gnum zero) e) = StartValue (expr_codec.back e)
start_back (gcons (gnum (suc _)) es) = StartArgs (exprs_codec.back es)
start_back _ = NoStart

abbrev start_again : (s : Start) → start_back (start_code s) ≡ s
start_again NoStart = refl
start_again (StartValue e) = λ i. StartValue (expr_codec.again e i)
start_again (StartArgs es) = λ i. StartArgs (exprs_codec.again es i)

abbrev pub start_codec : Codec Start
start_codec = record { code = start_code; back = start_back; again = start_again }

abbrev pub declarator_codec : Codec Declarator
declarator_codec = via (pair_codec pos_codec (pair_codec flag_codec (pair_codec name_codec (pair_codec maybe_expr_codec start_codec)))) (λ d. (d.pos, (d.by_ref, (d.name, (d.len, d.start))))) (λ p. record { pos = p.0; by_ref = p.1.0; name = p.1.1.0; len = p.1.1.1.0; start = p.1.1.1.1 }) (λ d. refl)

abbrev pub declarators_codec : Codec (List Declarator)
declarators_codec = list_codec declarator_codec

abbrev pub raised_codec : Codec Raised
raised_codec = via (pair_codec pos_codec (pair_codec name_codec exprs_codec)) (λ r. (r.pos, (r.name, r.args))) (λ p. record { pos = p.0; name = p.1.0; args = p.1.1 }) (λ r. refl)

abbrev pub maybe_raised_codec : Codec (Option Raised)
maybe_raised_codec = option_codec raised_codec

abbrev out_item_code : OutItem → Gv
out_item_code (Endl sign) = gcons (gnum 0) (pos_codec.code sign)
out_item_code (Literal sign text) = gcons (gnum 1) (gcons (pos_codec.code sign) (name_codec.code text))
out_item_code (Printed sign value) = gcons (gnum 2) (gcons (pos_codec.code sign) (expr_codec.code value))

abbrev out_item_back : Gv → OutItem
out_item_back (gcons (gnum zero) sign) = Endl (pos_codec.back sign)
out_item_back (gcons (gnum (suc zero)) (gcons sign text)) = Literal (pos_codec.back sign) (name_codec.back text)
out_item_back (gcons (gnum (suc (suc _))) (gcons sign value)) = Printed (pos_codec.back sign) (expr_codec.back value)
out_item_back _ = Endl no_pos

abbrev out_item_again : (o : OutItem) → out_item_back (out_item_code o) ≡ o
out_item_again (Endl sign) = refl
out_item_again (Literal sign text) = λ i. Literal sign (name_codec.again text i)
out_item_again (Printed sign value) = λ i. Printed sign (expr_codec.again value i)

abbrev pub out_item_codec : Codec OutItem
out_item_codec = record { code = out_item_code; back = out_item_back; again = out_item_again }

abbrev pub out_items_codec : Codec (List OutItem)
out_items_codec = list_codec out_item_codec

abbrev for_start_code : ForStart → Gv
for_start_code NoFor = gnil
for_start_code (ForDeclare p base ds) = gcons (gnum 0) (gcons (pos_codec.code p) (gcons (base_codec.code base) (declarators_codec.code ds)))
for_start_code (ForEvaluate value) = gcons (gnum 1) (expr_codec.code value)

abbrev for_start_back : Gv → ForStart
for_start_back (gcons (gnum zero) (gcons p (gcons base ds))) = ForDeclare (pos_codec.back p) (base_codec.back base) (declarators_codec.back ds)
for_start_back (gcons (gnum (suc _)) value) = ForEvaluate (expr_codec.back value)
for_start_back _ = NoFor

abbrev for_start_again : (s : ForStart) → for_start_back (for_start_code s) ≡ s
for_start_again NoFor = refl
for_start_again (ForDeclare p base ds) = λ i. ForDeclare p (base_codec.again base i) (declarators_codec.again ds i)
for_start_again (ForEvaluate value) = λ i. ForEvaluate (expr_codec.again value i)

abbrev pub for_start_codec : Codec ForStart
for_start_codec = record { code = for_start_code; back = for_start_back; again = for_start_again }

abbrev pub event_names_codec : Codec (List EventName)
event_names_codec = list_codec (via (pair_codec pos_codec name_codec) (λ e. (e.pos, e.name)) (λ p. record { pos = p.0; name = p.1 }) (λ e. refl))

abbrev pub member_names_codec : Codec (List MemberName)
member_names_codec = list_codec (via (pair_codec flag_codec name_codec) (λ m. (m.destructor, m.name)) (λ p. record { destructor = p.0; name = p.1 }) (λ m. refl))

abbrev mutual
  pub code_stmt : Stmt → Gv
  code_stmt (Block a b) = gcons (gnum 0) (gcons (gnum 0) (gcons (pos_codec.code a) (code_stmts b)))
  code_stmt (Empty a) = gcons (gnum 0) (gcons (gnum 1) (pos_codec.code a))
  code_stmt (Evaluate a b) = gcons (gnum 0) (gcons (gnum 2) (gcons (pos_codec.code a) (expr_codec.code b)))
  code_stmt (Declare a b c) = gcons (gnum 0) (gcons (gnum 3) (gcons (pos_codec.code a) (gcons (base_codec.code b) (declarators_codec.code c))))
  code_stmt (If a b c d) = gcons (gnum 0) (gcons (gnum 4) (gcons (pos_codec.code a) (gcons (expr_codec.code b) (gcons (code_stmt c) (code_maybe_stmt d)))))
  code_stmt (While a b c) = gcons (gnum 1) (gcons (gnum 0) (gcons (pos_codec.code a) (gcons (expr_codec.code b) (code_stmt c))))
  code_stmt (Do a b c) = gcons (gnum 1) (gcons (gnum 1) (gcons (pos_codec.code a) (gcons (code_stmt b) (expr_codec.code c))))
  code_stmt (For a b c d e) = gcons (gnum 1) (gcons (gnum 2) (gcons (pos_codec.code a) (gcons (for_start_codec.code b) (gcons (maybe_expr_codec.code c) (gcons (maybe_expr_codec.code d) (code_stmt e))))))
  code_stmt (Break a) = gcons (gnum 1) (gcons (gnum 3) (pos_codec.code a))
  code_stmt (Continue a) = gcons (gnum 1) (gcons (gnum 4) (pos_codec.code a))
  code_stmt (Return a b) = gcons (gnum 2) (gcons (gnum 0) (gcons (pos_codec.code a) (maybe_expr_codec.code b)))
  code_stmt (Try a b c d) = gcons (gnum 2) (gcons (gnum 1) (gcons (pos_codec.code a) (gcons (pos_codec.code b) (gcons (code_stmts c) (code_handlers d)))))
  code_stmt (Throw a b) = gcons (gnum 2) (gcons (gnum 2) (gcons (pos_codec.code a) (maybe_raised_codec.code b)))
  code_stmt (Raise a b) = gcons (gnum 2) (gcons (gnum 3) (gcons (pos_codec.code a) (maybe_raised_codec.code b)))
  code_stmt (RaiseAt a b c) = gcons (gnum 2) (gcons (gnum 4) (gcons (pos_codec.code a) (gcons (raised_codec.code b) (expr_codec.code c))))
  code_stmt (Enable a b c) = gcons (gnum 3) (gcons (gnum 0) (gcons (pos_codec.code a) (gcons (event_names_codec.code b) (code_stmt c))))
  code_stmt (Disable a b c) = gcons (gnum 3) (gcons (gnum 1) (gcons (pos_codec.code a) (gcons (event_names_codec.code b) (code_stmt c))))
  code_stmt (Accept a b c) = gcons (gnum 3) (gcons (gnum 2) (gcons (pos_codec.code a) (gcons (code_clauses b) (code_maybe_stmt c))))
  code_stmt (Print a b) = gcons (gnum 3) (gcons (gnum 3) (gcons (pos_codec.code a) (out_items_codec.code b)))
  code_stmt (PrintTogether a b) = gcons (gnum 3) (gcons (gnum 4) (gcons (pos_codec.code a) (out_items_codec.code b)))
  code_stmt (Read a b) = gcons (gnum 4) (gcons (gnum 0) (gcons (pos_codec.code a) (exprs_codec.code b)))
  code_stmt (Resume a) = gcons (gnum 4) (gcons (gnum 1) (pos_codec.code a))
  code_stmt (Suspend a) = gcons (gnum 4) (gcons (gnum 2) (pos_codec.code a))
  code_stmt (Yield a) = gcons (gnum 4) (gcons (gnum 3) (pos_codec.code a))
  code_stmt (Migrate a b) = gcons (gnum 4) (gcons (gnum 4) (gcons (pos_codec.code a) (expr_codec.code b)))

  pub code_stmts : Stmts → Gv
  code_stmts NoStmts = gnil
  code_stmts (MoreStmts a b) = gcons (code_stmt a) (code_stmts b)

  pub code_maybe_stmt : MaybeStmt → Gv
  code_maybe_stmt NoStmt = gnil
  code_maybe_stmt (OneStmt a) = gcons gnil (code_stmt a)

  pub code_handler : Handler → Gv
  code_handler (Handles a b c d e f) = gcons (pos_codec.code a) (gcons (handler_kind_codec.code b) (gcons (maybe_name_codec.code c) (gcons (maybe_name_codec.code d) (gcons (pos_codec.code e) (code_stmts f)))))

  pub code_handlers : Handlers → Gv
  code_handlers NoHandlers = gnil
  code_handlers (MoreHandlers a b) = gcons (code_handler a) (code_handlers b)

  pub code_clause : Clause → Gv
  code_clause (Accepts a b c d) = gcons (pos_codec.code a) (gcons (maybe_expr_codec.code b) (gcons (member_names_codec.code c) (code_stmt d)))

  pub code_clauses : Clauses → Gv
  code_clauses NoClauses = gnil
  code_clauses (MoreClauses a b) = gcons (code_clause a) (code_clauses b)

abbrev mutual
  pub back_stmt : Gv → Stmt
  back_stmt (gcons (gnum zero) (gcons (gnum zero) (gcons a b))) = Block (pos_codec.back a) (back_stmts b)
  back_stmt (gcons (gnum zero) (gcons (gnum (suc zero)) a)) = Empty (pos_codec.back a)
  back_stmt (gcons (gnum zero) (gcons (gnum (suc (suc zero))) (gcons a b))) = Evaluate (pos_codec.back a) (expr_codec.back b)
  back_stmt (gcons (gnum zero) (gcons (gnum (suc (suc (suc zero)))) (gcons a (gcons b c)))) = Declare (pos_codec.back a) (base_codec.back b) (declarators_codec.back c)
  back_stmt (gcons (gnum zero) (gcons (gnum (suc (suc (suc (suc zero))))) (gcons a (gcons b (gcons c d))))) = If (pos_codec.back a) (expr_codec.back b) (back_stmt c) (back_maybe_stmt d)
  back_stmt (gcons (gnum (suc zero)) (gcons (gnum zero) (gcons a (gcons b c)))) = While (pos_codec.back a) (expr_codec.back b) (back_stmt c)
  back_stmt (gcons (gnum (suc zero)) (gcons (gnum (suc zero)) (gcons a (gcons b c)))) = Do (pos_codec.back a) (back_stmt b) (expr_codec.back c)
  back_stmt (gcons (gnum (suc zero)) (gcons (gnum (suc (suc zero))) (gcons a (gcons b (gcons c (gcons d e)))))) = For (pos_codec.back a) (for_start_codec.back b) (maybe_expr_codec.back c) (maybe_expr_codec.back d) (back_stmt e)
  back_stmt (gcons (gnum (suc zero)) (gcons (gnum (suc (suc (suc zero)))) a)) = Break (pos_codec.back a)
  back_stmt (gcons (gnum (suc zero)) (gcons (gnum (suc (suc (suc (suc zero))))) a)) = Continue (pos_codec.back a)
  back_stmt (gcons (gnum (suc (suc zero))) (gcons (gnum zero) (gcons a b))) = Return (pos_codec.back a) (maybe_expr_codec.back b)
  back_stmt (gcons (gnum (suc (suc zero))) (gcons (gnum (suc zero)) (gcons a (gcons b (gcons c d))))) = Try (pos_codec.back a) (pos_codec.back b) (back_stmts c) (back_handlers d)
  back_stmt (gcons (gnum (suc (suc zero))) (gcons (gnum (suc (suc zero))) (gcons a b))) = Throw (pos_codec.back a) (maybe_raised_codec.back b)
  back_stmt (gcons (gnum (suc (suc zero))) (gcons (gnum (suc (suc (suc zero)))) (gcons a b))) = Raise (pos_codec.back a) (maybe_raised_codec.back b)
  back_stmt (gcons (gnum (suc (suc zero))) (gcons (gnum (suc (suc (suc (suc zero))))) (gcons a (gcons b c)))) = RaiseAt (pos_codec.back a) (raised_codec.back b) (expr_codec.back c)
  back_stmt (gcons (gnum (suc (suc (suc zero)))) (gcons (gnum zero) (gcons a (gcons b c)))) = Enable (pos_codec.back a) (event_names_codec.back b) (back_stmt c)
  back_stmt (gcons (gnum (suc (suc (suc zero)))) (gcons (gnum (suc zero)) (gcons a (gcons b c)))) = Disable (pos_codec.back a) (event_names_codec.back b) (back_stmt c)
  back_stmt (gcons (gnum (suc (suc (suc zero)))) (gcons (gnum (suc (suc zero))) (gcons a (gcons b c)))) = Accept (pos_codec.back a) (back_clauses b) (back_maybe_stmt c)
  back_stmt (gcons (gnum (suc (suc (suc zero)))) (gcons (gnum (suc (suc (suc zero)))) (gcons a b))) = Print (pos_codec.back a) (out_items_codec.back b)
  back_stmt (gcons (gnum (suc (suc (suc zero)))) (gcons (gnum (suc (suc (suc (suc zero))))) (gcons a b))) = PrintTogether (pos_codec.back a) (out_items_codec.back b)
  back_stmt (gcons (gnum (suc (suc (suc (suc zero))))) (gcons (gnum zero) (gcons a b))) = Read (pos_codec.back a) (exprs_codec.back b)
  back_stmt (gcons (gnum (suc (suc (suc (suc zero))))) (gcons (gnum (suc zero)) a)) = Resume (pos_codec.back a)
  back_stmt (gcons (gnum (suc (suc (suc (suc zero))))) (gcons (gnum (suc (suc zero))) a)) = Suspend (pos_codec.back a)
  back_stmt (gcons (gnum (suc (suc (suc (suc zero))))) (gcons (gnum (suc (suc (suc zero)))) a)) = Yield (pos_codec.back a)
  back_stmt (gcons (gnum (suc (suc (suc (suc zero))))) (gcons (gnum (suc (suc (suc (suc zero))))) (gcons a b))) = Migrate (pos_codec.back a) (expr_codec.back b)
  back_stmt _ = Empty no_pos

  pub back_stmts : Gv → Stmts
  back_stmts (gcons a b) = MoreStmts (back_stmt a) (back_stmts b)
  back_stmts _ = NoStmts

  pub back_maybe_stmt : Gv → MaybeStmt
  back_maybe_stmt (gcons _ a) = OneStmt (back_stmt a)
  back_maybe_stmt _ = NoStmt

  pub back_handler : Gv → Handler
  back_handler (gcons a (gcons b (gcons c (gcons d (gcons e f))))) = Handles (pos_codec.back a) (handler_kind_codec.back b) (maybe_name_codec.back c) (maybe_name_codec.back d) (pos_codec.back e) (back_stmts f)
  back_handler _ = Handles no_pos Catch None None no_pos NoStmts

  pub back_handlers : Gv → Handlers
  back_handlers (gcons a b) = MoreHandlers (back_handler a) (back_handlers b)
  back_handlers _ = NoHandlers

  pub back_clause : Gv → Clause
  back_clause (gcons a (gcons b (gcons c d))) = Accepts (pos_codec.back a) (maybe_expr_codec.back b) (member_names_codec.back c) (back_stmt d)
  back_clause _ = Accepts no_pos None [] (Empty no_pos)

  pub back_clauses : Gv → Clauses
  back_clauses (gcons a b) = MoreClauses (back_clause a) (back_clauses b)
  back_clauses _ = NoClauses

mutual
  pub again_stmt : (x : Stmt) → back_stmt (code_stmt x) ≡ x
  again_stmt (Block a b) = λ i. Block a (again_stmts b i)
  again_stmt (Empty a) = refl
  again_stmt (Evaluate a b) = λ i. Evaluate a (expr_codec.again b i)
  again_stmt (Declare a b c) = λ i. Declare a (base_codec.again b i) (declarators_codec.again c i)
  again_stmt (If a b c d) = λ i. If a (expr_codec.again b i) (again_stmt c i) (again_maybe_stmt d i)
  again_stmt (While a b c) = λ i. While a (expr_codec.again b i) (again_stmt c i)
  again_stmt (Do a b c) = λ i. Do a (again_stmt b i) (expr_codec.again c i)
  again_stmt (For a b c d e) = λ i. For a (for_start_codec.again b i) (maybe_expr_codec.again c i) (maybe_expr_codec.again d i) (again_stmt e i)
  again_stmt (Break a) = refl
  again_stmt (Continue a) = refl
  again_stmt (Return a b) = λ i. Return a (maybe_expr_codec.again b i)
  again_stmt (Try a b c d) = λ i. Try a b (again_stmts c i) (again_handlers d i)
  again_stmt (Throw a b) = λ i. Throw a (maybe_raised_codec.again b i)
  again_stmt (Raise a b) = λ i. Raise a (maybe_raised_codec.again b i)
  again_stmt (RaiseAt a b c) = λ i. RaiseAt a (raised_codec.again b i) (expr_codec.again c i)
  again_stmt (Enable a b c) = λ i. Enable a (event_names_codec.again b i) (again_stmt c i)
  again_stmt (Disable a b c) = λ i. Disable a (event_names_codec.again b i) (again_stmt c i)
  again_stmt (Accept a b c) = λ i. Accept a (again_clauses b i) (again_maybe_stmt c i)
  again_stmt (Print a b) = λ i. Print a (out_items_codec.again b i)
  again_stmt (PrintTogether a b) = λ i. PrintTogether a (out_items_codec.again b i)
  again_stmt (Read a b) = λ i. Read a (exprs_codec.again b i)
  again_stmt (Resume a) = refl
  again_stmt (Suspend a) = refl
  again_stmt (Yield a) = refl
  again_stmt (Migrate a b) = λ i. Migrate a (expr_codec.again b i)

  pub again_stmts : (x : Stmts) → back_stmts (code_stmts x) ≡ x
  again_stmts NoStmts = refl
  again_stmts (MoreStmts a b) = λ i. MoreStmts (again_stmt a i) (again_stmts b i)

  pub again_maybe_stmt : (x : MaybeStmt) → back_maybe_stmt (code_maybe_stmt x) ≡ x
  again_maybe_stmt NoStmt = refl
  again_maybe_stmt (OneStmt a) = λ i. OneStmt (again_stmt a i)

  pub again_handler : (x : Handler) → back_handler (code_handler x) ≡ x
  again_handler (Handles a b c d e f) = λ i. Handles a (handler_kind_codec.again b i) (maybe_name_codec.again c i) (maybe_name_codec.again d i) e (again_stmts f i)

  pub again_handlers : (x : Handlers) → back_handlers (code_handlers x) ≡ x
  again_handlers NoHandlers = refl
  again_handlers (MoreHandlers a b) = λ i. MoreHandlers (again_handler a i) (again_handlers b i)

  pub again_clause : (x : Clause) → back_clause (code_clause x) ≡ x
  again_clause (Accepts a b c d) = λ i. Accepts a (maybe_expr_codec.again b i) (member_names_codec.again c i) (again_stmt d i)

  pub again_clauses : (x : Clauses) → back_clauses (code_clauses x) ≡ x
  again_clauses NoClauses = refl
  again_clauses (MoreClauses a b) = λ i. MoreClauses (again_clause a i) (again_clauses b i)

abbrev pub stmt_codec : Codec Stmt
stmt_codec = record { code = code_stmt; back = back_stmt; again = again_stmt }

abbrev pub stmts_codec : Codec Stmts
stmts_codec = record { code = code_stmts; back = back_stmts; again = again_stmts }

abbrev pub stmt_coded : Coded Stmt
stmt_coded = coded_by stmt_codec

abbrev pub handler_coded : Coded Handler
handler_coded = coded_by (record { code = code_handler; back = back_handler; again = again_handler })

abbrev pub clause_coded : Coded Clause
clause_coded = coded_by (record { code = code_clause; back = back_clause; again = again_clause })

abbrev pub start_coded : Coded Start
start_coded = coded_by start_codec

abbrev pub declarator_coded : Coded Declarator
declarator_coded = coded_by declarator_codec

abbrev pub raised_coded : Coded Raised
raised_coded = coded_by raised_codec

abbrev pub out_item_coded : Coded OutItem
out_item_coded = coded_by out_item_codec

abbrev pub for_start_coded : Coded ForStart
for_start_coded = coded_by for_start_codec
