-- Samples, computed by the reader of the grammar.
use Rattle.std.proofs.Common.{◌≡◌, ℕ, List, length, subst}
use Rattle.uc_tree.specs.declared.token.Token.{Token}
use Rattle.uc_grammar.specs.Form.{Form, Spells, Fails}
use Rattle.uc_grammar.specs.Grammar.{inner, faults}
use Rattle.uc_grammar.specs.Samples.{plain}
use Rattle.uc_grammar.proofs.AllForms.{more_room}
use Rattle.uc_grammar.proofs.Read.{Found, read, reader, Sound, read_sound}
use Rattle.uc_grammar.proofs.Computed.{some_levels, reading, piece_or}
use Rattle.uc_nesting.specs.Laws.{Nests, Measures}

found : {A : Type 0} (n : ℕ) (g : Form A) (ts : List Token) (to : ℕ) (v : A) → read (reader n) g ts 0 ≡ Found to v → Spells (inner n) g ts 0 to v
found n g ts to v e = subst (Sound (Spells (inner n) g ts 0) (Fails (inner n) (faults n) g ts 0)) e (read_sound n g ts 0)

pub nests : {A : Type 0} (other : A) (g : Form A) (measure : A → ℕ) (text : List ℕ) (n : ℕ) → read (reader n) g (plain text) 0 ≡ Found (length (plain text)) (piece_or other (read (reader n) g (plain text) 0)) → measure (piece_or other (read (reader n) g (plain text) 0)) ≡ n → Nests g measure text n
nests other g measure text n e m = record { piece = piece_or other (read (reader n) g (plain text) 0); spelled = found n g (plain text) (length (plain text)) (piece_or other (read (reader n) g (plain text) 0)) e; levels = m }

pub measures : {A : Type 0} (other : A) (g : Form A) (measure : A → ℕ) (text : List ℕ) (n : ℕ) → reading g (plain text) ≡ Found (length (plain text)) (piece_or other (reading g (plain text))) → measure (piece_or other (reading g (plain text))) ≡ n → Measures g measure text n
measures other g measure text n e m = record { piece = piece_or other (reading g (plain text)); spelled = more_room 240 some_levels g (plain text) 0 (length (plain text)) (piece_or other (reading g (plain text))) (found some_levels g (plain text) (length (plain text)) (piece_or other (reading g (plain text))) e); levels = m }
