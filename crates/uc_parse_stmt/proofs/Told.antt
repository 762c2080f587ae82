-- What the answer of the public call says in plain words.
use Rattle.std.proofs.Common.{◌≡◌, ℕ, ◌+◌, ◌*◌, ◌-◌, ◌≤◌, List, refl, subst, arith}
use Rattle.uc_tree.specs.declared.token.Token.{Token}
use Rattle.uc_tree.specs.Statements.{Stmt}
use Rattle.uc_grammar.specs.declared.fault.ParseFault.{ParseFault}
use Rattle.uc_grammar.specs.declared.fault.ParseFault.TheVariants.{Syntax, TooDeep, NoMemory}
use Rattle.uc_grammar.specs.Names.{stmt_name}
use Rattle.uc_grammar.specs.Form.{Spells, Fails, inside}
use Rattle.uc_grammar.specs.Grammar.{inner, faults}
use Rattle.uc_grammar.specs.Text.{IsStmt, StmtFails}
use Rattle.uc_grammar.proofs.AllForms.{one_piece}
use Rattle.uc_grammar.proofs.Told.{syntax_refuses, too_deep_refuses}
use Rattle.uc_grammar.proofs.Far.{stmt_far}
use Rattle.uc_grammar.proofs.First.{first_too_deep}
use Rattle.uc_parse_stmt.specs.Found.{OnlyStmt, NoneHere, NeverStmt, FirstTooDeep}

pub is_stmt : (room : ℕ) (ts : List Token) (from to : ℕ) (s : Stmt) → Spells (inner room) (inside stmt_name) ts from to s → IsStmt room ts from to s
unfolding IsStmt
is_stmt room ts from to s r = r

pub stmt_fails : (room : ℕ) (ts : List Token) (from : ℕ) (f : ParseFault) → Fails (inner room) (faults room) (inside stmt_name) ts from f → StmtFails room ts from f
unfolding StmtFails
stmt_fails room ts from f h = h

pub only_stmt : (room : ℕ) (ts : List Token) (from to : ℕ) (s : Stmt) → Spells (inner room) (inside stmt_name) ts from to s → OnlyStmt ts from to s
unfolding IsStmt
only_stmt room ts from to s r = λ levels at d q. one_piece (inside stmt_name) levels room ts from at to d s q r

pub no_stmt : (room : ℕ) (ts : List Token) (from : ℕ) (f : ParseFault) → Fails (inner room) (faults room) (inside stmt_name) ts from f → (f ≡ NoMemory → ⊥) → NoneHere room ts from
unfolding IsStmt
no_stmt room ts from (Syntax p) h other = λ to s r. syntax_refuses (inside stmt_name) room ts from p h room ts to s (λ i lt. refl) r
no_stmt room ts from (TooDeep p) h other = λ to s r. too_deep_refuses (inside stmt_name) room ts from p h to s r
no_stmt room ts from NoMemory h other = absurd (other refl)

pub never_stmt : (room : ℕ) (ts : List Token) (from : ℕ) (f : ParseFault) → Fails (inner room) (faults room) (inside stmt_name) ts from f → (p : ℕ) → f ≡ Syntax p → NeverStmt ts p from
unfolding IsStmt
never_stmt room ts from f h p e = λ us levels same to v r. syntax_refuses (inside stmt_name) room ts from p (subst (λ g. Fails (inner room) (faults room) (inside stmt_name) ts from g) e h) levels us to v same r

pub far_stmt : (room depth : ℕ) (ts : List Token) (from : ℕ) (f : ParseFault) → Fails (inner room) (faults room) (inside stmt_name) ts from f → (k : ℕ) → f ≡ TooDeep k → room + depth ≤ depth + 2 * (k - from) + 1
far_stmt room depth ts from f h k e = omega (arith, stmt_far room ts from k (subst (λ g. Fails (inner room) (faults room) (inside stmt_name) ts from g) e h))

pub first_stmt : (room : ℕ) (ts : List Token) (from : ℕ) (f : ParseFault) → Fails (inner room) (faults room) (inside stmt_name) ts from f → (k : ℕ) → f ≡ TooDeep k → FirstTooDeep room ts from k
unfolding IsStmt
first_stmt room ts from f h k e = λ more to v r. first_too_deep (inside stmt_name) room more ts from to k v (subst (λ g. Fails (inner room) (faults room) (inside stmt_name) ts from g) e h) r
