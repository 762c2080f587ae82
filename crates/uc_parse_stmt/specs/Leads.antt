-- What has been read of a piece, as what is still to be read of it.
use Rattle.std.specs.Prelude.{ℕ, List, Bool, IsTrue}
use Rattle.uc_tree.specs.declared.token.Token.{Token}
use Rattle.uc_grammar.specs.declared.fault.ParseFault.{ParseFault}
use Rattle.uc_grammar.specs.Form.{Form, Spells, Fails}
use Rattle.uc_grammar.specs.Grammar.{inner, faults}

-- What the second form spells from `at` on, the first one spells from `from` on, and what fails there fails here.
pub record Leads {A : Type 0} (room : ℕ) (ts : List Token) (whole : Form A) (from : ℕ) (rest : Form A) (at : ℕ) : Type 0 where
  pub spells : (to : ℕ) (v : A) → Spells (inner room) rest ts at to v → Spells (inner room) whole ts from to v
  pub fails : (f : ParseFault) → Fails (inner room) (faults room) rest ts at f → Fails (inner room) (faults room) whole ts from f

-- The same, where what fails there counts only while something is to be read.
pub record LeadsOpen {A : Type 0} (open_yet : Bool) (room : ℕ) (ts : List Token) (whole : Form A) (from : ℕ) (rest : Form A) (at : ℕ) : Type 0 where
  pub spells : (to : ℕ) (v : A) → Spells (inner room) rest ts at to v → Spells (inner room) whole ts from to v
  pub fails : IsTrue open_yet → (f : ParseFault) → Fails (inner room) (faults room) rest ts at f → Fails (inner room) (faults room) whole ts from f
