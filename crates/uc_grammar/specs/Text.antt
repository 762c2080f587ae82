-- What a caller is told: pieces of a nesting, how their reading fails, and the laws of both.
use Rattle.std.specs.Prelude.{◌≡◌, ◌↔◌, ℕ, ◌+◌, ◌-◌, ◌*◌, ◌≤◌, List, Some}
use Rattle.uc_tree.specs.declared.token.Token.{Token}
use Rattle.uc_tree.specs.declared.token.TokenKind.TheVariants as token
use Rattle.uc_tree.specs.Expressions.{Expr}
use Rattle.uc_tree.specs.Expressions as expr
use Rattle.uc_tree.specs.Statements.{Stmt}
use Rattle.uc_tree.specs.Programs.{Program}
use Rattle.uc_grammar.specs.declared.fault.ParseFault.TheVariants.{Syntax, TooDeep}
use Rattle.uc_grammar.specs.declared.level.Level.{Level}
use Rattle.uc_grammar.specs.Names.{stmt_name}
use Rattle.uc_grammar.specs.Spell.{Rel, Same, kind_at, pos_at}
use Rattle.uc_grammar.specs.Form.{here, bind, inside, Spells, Fault, Fails}
use Rattle.uc_grammar.specs.Deep.{FirstDeep, first_deep}
use Rattle.uc_grammar.specs.Grammar.{expr_form, program_form, unary_form, expr_from, level_after, operand_form, chain_after, inner, faults}

-- The tokens from here to there are this expression, statement or program, with every tail that could begin, and nothing
-- in it stands more than n levels deep. A statement is itself a level.
unfoldable pub IsExpr : ℕ → Rel Expr
IsExpr n = Spells (inner n) expr_form

unfoldable pub IsStmt : ℕ → Rel Stmt
IsStmt n = Spells (inner n) (inside stmt_name)

unfoldable pub IsProgram : ℕ → Rel Program
IsProgram n = Spells (inner n) program_form

-- Read from left to right within n levels, what stands here fails with this fault.
unfoldable pub ExprFails : ℕ → Fault
ExprFails n = Fails (inner n) (faults n) expr_form

unfoldable pub StmtFails : ℕ → Fault
StmtFails n = Fails (inner n) (faults n) (inside stmt_name)

unfoldable pub ProgramFails : ℕ → Fault
ProgramFails n = Fails (inner n) (faults n) program_form

-- Two pieces at one place are the same and end at the same place, whatever their nesting.
abbrev pub OnePiece : {A : Type 0} → (ℕ → Rel A) → Type 0
OnePiece {A} F = (m n : ℕ) (ts : List Token) (from to1 to2 : ℕ) (v1 v2 : A) → F m ts from to1 v1 → F n ts from to2 v2 → (to1 ≡ to2) × (v1 ≡ v2)

-- A piece of some nesting is one of more nesting.
abbrev pub MoreRoom : {A : Type 0} → (ℕ → Rel A) → Type 0
MoreRoom {A} F = (m n : ℕ) (ts : List Token) (from to : ℕ) (v : A) → m ≤ n → F m ts from to v → F n ts from to v

-- Syntax at p: no tokens with the same first p + 1 are a piece, of any nesting.
abbrev pub SyntaxRefuses : {A : Type 0} → (ℕ → Rel A) → (ℕ → Fault) → Type 0
SyntaxRefuses {A} F E = (room : ℕ) (ts : List Token) (from p : ℕ) → E room ts from (Syntax p) → (n : ℕ) (us : List Token) (to : ℕ) (v : A) → Same (p + 1) ts us → F n us from to v → ⊥

-- TooDeep: nothing of the allowed nesting is a piece.
abbrev pub TooDeepRefuses : {A : Type 0} → (ℕ → Rel A) → (ℕ → Fault) → Type 0
TooDeepRefuses {A} F E = (room : ℕ) (ts : List Token) (from k : ℕ) → E room ts from (TooDeep k) → (to : ℕ) (v : A) → F room ts from to v → ⊥

-- TooDeep comes only where so many tokens were read: no token enters more than two levels.
abbrev pub TooDeepIsFar : (ℕ → Fault) → Type 0
TooDeepIsFar E = (room : ℕ) (ts : List Token) (from k : ℕ) → E room ts from (TooDeep k) → room ≤ 2 * (k - from) + 1

-- TooDeep at k, and a piece of greater nesting stands there: k is the first token of that piece at which something begins
-- that stands deeper than the allowed nesting.
abbrev pub ExprFirst : Type 0
ExprFirst = (room n : ℕ) (ts : List Token) (from to k : ℕ) (v : Expr) → ExprFails room ts from (TooDeep k) → IsExpr n ts from to v → FirstDeep (inner room) (inner n) (first_deep room n) expr_form ts from to v k

abbrev pub StmtFirst : Type 0
StmtFirst = (room n : ℕ) (ts : List Token) (from to k : ℕ) (v : Stmt) → StmtFails room ts from (TooDeep k) → IsStmt n ts from to v → FirstDeep (inner room) (inner n) (first_deep room n) (inside stmt_name) ts from to v k

abbrev pub ProgramFirst : Type 0
ProgramFirst = (room n : ℕ) (ts : List Token) (from to k : ℕ) (v : Program) → ProgramFails room ts from (TooDeep k) → IsProgram n ts from to v → FirstDeep (inner room) (inner n) (first_deep room n) program_form ts from to v k

-- Each level is what its operators part, operators and operands from left to right: that the forms read the first unary
-- once for all levels changes nothing.
abbrev pub LevelsStand : Type 0
LevelsStand = (l : Level) (n : ℕ) (ts : List Token) (from to : ℕ) (e : Expr) →
    Spells (inner n) (here (λ pos. bind unary_form (level_after l pos))) ts from to e ↔ Spells (inner n) (here (λ pos. bind (operand_form l) (chain_after l (operand_form l) pos))) ts from to e

-- An expression that begins with a name is one that begins with this primary: that a statement reads its first name
-- before it knows whether a declaration stands there changes nothing.
abbrev pub NameBegins : Type 0
NameBegins = (n : ℕ) (ts : List Token) (from to : ℕ) (name : List ℕ) (e : Expr) → kind_at ts from ≡ Some (token.Name name) →
    IsExpr n ts from to e ↔ Spells (inner n) (expr_from (pos_at ts from) (expr.Name (pos_at ts from) name)) ts (from + 1) to e
