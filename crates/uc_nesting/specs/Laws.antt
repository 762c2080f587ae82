-- The laws of the measure, and samples of it.
use Rattle.std.specs.Prelude.{◌≡◌, ℕ, ◌+◌, ◌*◌, ◌≤◌, List, ◌++◌, length, codes}
use Rattle.uc_tree.specs.declared.limits.TheConstants.{NESTING}
use Rattle.uc_tree.specs.declared.token.Token.{Token}
use Rattle.uc_tree.specs.Expressions.{Expr}
use Rattle.uc_tree.specs.Statements.{Stmt}
use Rattle.uc_tree.specs.Programs.{Program}
use Rattle.uc_grammar.specs.Form.{Form, Spells}
use Rattle.uc_grammar.specs.Grammar.{inner}
use Rattle.uc_grammar.specs.Samples.{plain, times}
use Rattle.uc_grammar.specs.Text.{IsExpr, IsStmt, IsProgram}
use Rattle.uc_nesting.specs.ExpressionNesting.{expr_nesting}
use Rattle.uc_nesting.specs.StatementNesting.{stmt_nesting}
use Rattle.uc_nesting.specs.Nesting.{nesting}
use Rattle.uc_nesting.specs.Depth.{depth}

-- What is spelled within n levels has a tree of at most n. A statement is itself a level.

abbrev pub ExprWithin : Type 0
ExprWithin = (n : ℕ) (ts : List Token) (from to : ℕ) (e : Expr) → IsExpr n ts from to e → expr_nesting e ≤ n

abbrev pub StmtWithin : Type 0
StmtWithin = (n : ℕ) (ts : List Token) (from to : ℕ) (s : Stmt) → IsStmt n ts from to s → stmt_nesting s + 1 ≤ n

abbrev pub ProgramWithin : Type 0
ProgramWithin = (n : ℕ) (ts : List Token) (from to : ℕ) (p : Program) → IsProgram n ts from to p → nesting p ≤ n

-- So has what `parse` gives, by its clause `found`.
abbrev pub ParsedWithin : Type 0
ParsedWithin = (ts : List Token) (p : Program) → IsProgram NESTING ts 0 (length ts) p → nesting p ≤ NESTING

-- No tree is deeper than eleven statements and expressions for each level, and as many once more: so many stand at most
-- between two levels. Of every tree, also of one that no tokens spell.
abbrev pub Shallow : Type 0
Shallow = (p : Program) → depth p ≤ 11 * nesting p + 11

-- Samples.

-- a statement with the level that it is itself
abbrev pub stmt_levels : Stmt → ℕ
stmt_levels s = stmt_nesting s + 1

-- a routine whose body is so many blocks, each in the one before, with a statement in the last
abbrev pub blocks : ℕ → List ℕ
blocks n = codes "void f() " ++ times n 123 ++ codes ";" ++ times n 125

-- The whole text is a piece of the form within n levels, and so many has its tree: since no tree has more than its text,
-- text and tree nest just n deep.
pub record Nests {A : Type 0} (g : Form A) (measure : A → ℕ) (text : List ℕ) (n : ℕ) : Type 0 where
  pub piece : A
  pub spelled : Spells (inner n) g (plain text) 0 (length (plain text)) piece
  pub levels : measure piece ≡ n

-- The whole text is a piece of the form, whose tree has n levels.
pub record Measures {A : Type 0} (g : Form A) (measure : A → ℕ) (text : List ℕ) (n : ℕ) : Type 0 where
  pub piece : A
  pub spelled : Spells (inner NESTING) g (plain text) 0 (length (plain text)) piece
  pub levels : measure piece ≡ n
