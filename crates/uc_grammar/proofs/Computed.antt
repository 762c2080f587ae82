-- Examples, computed by the reader.
use Rattle.std.proofs.Common.{◌≡◌, ℕ, ◌+◌, List, [], length, subst}
use Rattle.uc_tree.specs.declared.token.Token.{Token}
use Rattle.uc_tree.specs.Expressions.{Expr, Cin}
use Rattle.uc_tree.specs.Statements.{Stmt, Empty}
use Rattle.uc_tree.specs.Programs.{Program}
use Rattle.uc_grammar.specs.declared.fault.ParseFault.{ParseFault}
use Rattle.uc_grammar.specs.declared.fault.ParseFault.TheVariants.{Syntax, TooDeep}
use Rattle.uc_grammar.specs.Form.{Form, Spells, Fails}
use Rattle.uc_grammar.specs.Grammar.{inner, faults}
use Rattle.uc_grammar.specs.Samples.{placed, plain, Accepts, Spelled, Reads, Alike, EndsAt, StopsAt, Flat, Nests, DeepAt}
use Rattle.uc_grammar.proofs.AllForms.{more_room}
use Rattle.uc_grammar.proofs.Read.{Reading, Found, Failed, read, reader, Sound, read_sound}

-- how many levels the reader is given: enough for the examples
abbrev pub some_levels : ℕ
some_levels = 16

abbrev pub reading : {A : Type 0} → Form A → List Token → Reading A
reading g ts = read (reader some_levels) g ts 0

-- the piece that was read, or another one
abbrev pub piece_or : {A : Type 0} → A → Reading A → A
piece_or other (Found to v) = v
piece_or other (Failed f) = other

is_found : {A : Type 0} (g : Form A) (ts : List Token) (to : ℕ) (v : A) → reading g ts ≡ Found to v → Spells (inner (some_levels + 240)) g ts 0 to v
is_found g ts to v e = more_room 240 some_levels g ts 0 to v (subst (Sound (Spells (inner some_levels) g ts 0) (Fails (inner some_levels) (faults some_levels) g ts 0)) e (read_sound some_levels g ts 0))

found_in : {A : Type 0} (n : ℕ) (g : Form A) (ts : List Token) (to : ℕ) (v : A) → read (reader n) g ts 0 ≡ Found to v → Spells (inner n) g ts 0 to v
found_in n g ts to v e = subst (Sound (Spells (inner n) g ts 0) (Fails (inner n) (faults n) g ts 0)) e (read_sound n g ts 0)

failed_in : {A : Type 0} (n : ℕ) (g : Form A) (ts : List Token) (f : ParseFault) → read (reader n) g ts 0 ≡ Failed f → Fails (inner n) (faults n) g ts 0 f
failed_in n g ts f e = subst (Sound (Spells (inner n) g ts 0) (Fails (inner n) (faults n) g ts 0)) e (read_sound n g ts 0)

-- pieces that no example is
pub other_expr : Expr
other_expr = Cin (record { line = 0; col = 0 })

pub other_stmt : Stmt
other_stmt = Empty (record { line = 0; col = 0 })

pub other_program : Program
other_program = record { items = [] }

pub accepts : {A : Type 0} (other : A) (g : Form A) (text : List ℕ) → reading g (plain text) ≡ Found (length (plain text)) (piece_or other (reading g (plain text))) → Accepts g text
accepts other g text e = record { piece = piece_or other (reading g (plain text)); spelled = is_found g (plain text) (length (plain text)) (piece_or other (reading g (plain text))) e }

pub spelled : {A : Type 0} (g : Form A) (text : List ℕ) (v : A) → reading g (placed text) ≡ Found (length (placed text)) v → Spelled g text v
spelled g text v e = record { spelled = is_found g (placed text) (length (placed text)) v e }

pub reads : {A : Type 0} (g : Form A) (text : List ℕ) (v : A) → reading g (plain text) ≡ Found (length (plain text)) v → Reads g text v
reads g text v e = record { spelled = is_found g (plain text) (length (plain text)) v e }

pub flat : {A : Type 0} (other : A) (g : Form A) (text : List ℕ) → read (reader 0) g (plain text) 0 ≡ Found (length (plain text)) (piece_or other (read (reader 0) g (plain text) 0)) → Flat g text
flat other g text e = record { piece = piece_or other (read (reader 0) g (plain text) 0); spelled = found_in 0 g (plain text) (length (plain text)) (piece_or other (read (reader 0) g (plain text) 0)) e }

pub deep_at : {A : Type 0} (g : Form A) (text : List ℕ) (k : ℕ) → read (reader 256) g (plain text) 0 ≡ Failed (TooDeep k) → DeepAt g text k
deep_at g text k e = record { fails = failed_in 256 g (plain text) (TooDeep k) e }

pub alike : {A : Type 0} (other : A) (g : Form A) (s t : List ℕ) → reading g (plain s) ≡ Found (length (plain s)) (piece_or other (reading g (plain s))) → reading g (plain t) ≡ Found (length (plain t)) (piece_or other (reading g (plain s))) → Alike g s t
alike other g s t e d = record {
  piece = piece_or other (reading g (plain s));
  first = is_found g (plain s) (length (plain s)) (piece_or other (reading g (plain s))) e;
  second = is_found g (plain t) (length (plain t)) (piece_or other (reading g (plain s))) d;
}

pub ends_at : {A : Type 0} (other : A) (g : Form A) (text : List ℕ) (n : ℕ) → reading g (plain text) ≡ Found n (piece_or other (reading g (plain text))) → EndsAt g text n
ends_at other g text n e = record { piece = piece_or other (reading g (plain text)); spelled = is_found g (plain text) n (piece_or other (reading g (plain text))) e }

pub stops_at : {A : Type 0} (g : Form A) (text : List ℕ) (p : ℕ) → read (reader 256) g (plain text) 0 ≡ Failed (Syntax p) → StopsAt g text p
stops_at g text p e = record { fails = failed_in 256 g (plain text) (Syntax p) e }

pub nests : {A : Type 0} (other : A) (g : Form A) (text : List ℕ) (n k : ℕ) → read (reader (n + 1)) g (plain text) 0 ≡ Found (length (plain text)) (piece_or other (read (reader (n + 1)) g (plain text) 0)) → read (reader n) g (plain text) 0 ≡ Failed (TooDeep k) → Nests g text n k
nests other g text n k e d = record {
  piece = piece_or other (read (reader (n + 1)) g (plain text) 0);
  spelled = found_in (n + 1) g (plain text) (length (plain text)) (piece_or other (read (reader (n + 1)) g (plain text) 0)) e;
  fails = failed_in n g (plain text) (TooDeep k) d;
}
