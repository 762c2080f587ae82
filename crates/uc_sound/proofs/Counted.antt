-- Lists whose pieces each take a token have no more pieces than tokens.
use Rattle.std.proofs.Common.{ℕ, ◌+◌, ◌≤◌, ◌<◌, List, [], ◌∷◌, length, Bool, Option, Some, None, arith}
use Rattle.uc_tree.specs.declared.pos.Pos.{Pos}
use Rattle.uc_tree.specs.declared.token.Token.{Token}
use Rattle.uc_tree.specs.declared.token.TokenKind.{TokenKind}
use Rattle.uc_tree.specs.declared.token.TokenKind.TheVariants as token
use Rattle.uc_tree.specs.declared.token.Word.{Word}
use Rattle.uc_tree.specs.declared.token.Word.TheVariants as word
use Rattle.uc_tree.specs.declared.kinds.Base.{Base}
use Rattle.uc_grammar.specs.Spell.{kind_at, pos_at, Run, ListRun}
use Rattle.uc_grammar.specs.Form.{Form, nothing, skip, look, here, bind, apply, listed, Spells}
use Rattle.uc_grammar.specs.Tables.{base_of, word_of}
use Rattle.uc_grammar.specs.Grammar.{inner, name_at, base_by, param_form, kind_by, word_item, item_at, item_form}
use Rattle.uc_grammar.proofs.AllForms.{grows}
use Rattle.uc_sound.proofs.Sure.{Sure}

-- each piece of the form has a token
pub record Moves {A : Type 0} (n : ℕ) (g : Form A) : Type 0 where
  pub holds : (ts : List Token) (from to : ℕ) (v : A) → Spells (inner n) g ts from to v → from < to

moves_nothing : {A : Type 0} {n : ℕ} → Moves {A = A} n nothing
moves_nothing = record { holds = λ ts from to v r. absurd r }

moves_skip : {A : Type 0} {n : ℕ} {g : Form A} → Moves n (skip g)
moves_skip {A} {n} {g} = record { holds = λ ts from to v r. omega (arith, grows g n ts (from + 1) to v r) }

moves_look : {A : Type 0} {n : ℕ} {k : Option TokenKind → Form A} → ((o : Option TokenKind) → Moves n (k o)) → Moves n (look k)
moves_look m = record { holds = λ ts from to v r. (m (kind_at ts from)).holds ts from to v r }

moves_here : {A : Type 0} {n : ℕ} {k : Pos → Form A} → ((p : Pos) → Moves n (k p)) → Moves n (here k)
moves_here m = record { holds = λ ts from to v r. (m (pos_at ts from)).holds ts from to v r }

moves_apply : {A B : Type 0} {n : ℕ} {f : A → B} {g : Form A} → Moves n g → Moves n (apply f g)
moves_apply m = record { holds = λ ts from to v r. m.holds ts from to r.inside r.spelled }

moves_bind : {A B : Type 0} {n : ℕ} {g : Form A} {h : A → Form B} → Moves n g → Moves n (bind g h)
moves_bind {n = n} {h = h} m = record { holds = λ ts from to v r. omega (arith, m.holds ts from r.middle r.left r.first, grows (h r.left) n ts r.middle to v r.second) }

run_count : {A : Type 0} (n : ℕ) (p : Option TokenKind → Bool) (g : Form A) → Moves n g → (ts : List Token) (from to : ℕ) (xs : List A) → Run p (Spells (inner n) g) ts from to xs → from + length xs ≤ to
unfolding Run
run_count n p g m ts from to [] r = omega (arith, r)
run_count n p g m ts from to (x ∷ xs) r = omega (arith, m.holds ts from r.1 x r.2, run_count n p g m ts r.1 to xs r.3)

list_count : {A : Type 0} (n : ℕ) (p : Option TokenKind → Bool) (g h : Form A) → Moves n g → Moves n h → (ts : List Token) (from to : ℕ) (xs : List A) → ListRun (Spells (inner n) g) p (Spells (inner n) h) ts from to xs → from + length xs ≤ to
unfolding ListRun
list_count n p g h m k ts from to [] r = absurd r
list_count n p g h m k ts from to (x ∷ xs) r = omega (arith, m.holds ts from r.0 x r.1, run_count n p h k ts r.0 to xs r.2)

pub sure_count : {A : Type 0} {n last : ℕ} {p : Option TokenKind → Bool} {g h : Form A} → Moves n g → Moves n h → Sure n last (listed g p h) (λ xs. length xs ≤ last)
sure_count {A} {n} {last} {p} {g} {h} m k = record { holds = λ ts from to v le r. omega (arith, le, list_count n p g h m k ts from to v r.run) }

pub moves_next : {A : Type 0} {n : ℕ} (g : Form A) → Moves n (skip g)
moves_next g = moves_skip

-- parameters and items

module _ (n : ℕ) where
  name_moves : (o : Option TokenKind) → Moves n (name_at o)
  name_moves (Some (token.Name m)) = moves_skip
  name_moves _ = moves_nothing

  base_moves : (b : Option Base) → Moves n (base_by b)
  base_moves None = moves_apply (moves_look name_moves)
  base_moves (Some b) = moves_skip

  pub param_moves : Moves n param_form
  param_moves = moves_here (λ pos. moves_bind (moves_look (λ o. base_moves (base_of (word_of o)))))

  kind_moves : (w : Option Word) → Moves n (kind_by w)
  kind_moves (Some word.Class) = moves_skip
  kind_moves (Some word.Coroutine) = moves_skip
  kind_moves (Some word.Monitor) = moves_skip
  kind_moves (Some word.Cormonitor) = moves_skip
  kind_moves (Some word.Task) = moves_skip
  kind_moves (Some word.Event) = moves_skip
  kind_moves (Some word.Mutex) = moves_skip
  kind_moves _ = moves_nothing

  word_moves : (pos : Pos) (b : Option Base) → Moves n (word_item pos b)
  word_moves pos None = moves_bind (moves_look (λ o. kind_moves (word_of o)))
  word_moves pos (Some b) = moves_skip

  item_at_moves : (pos : Pos) (o : Option TokenKind) → Moves n (item_at pos o)
  item_at_moves pos (Some (token.Word word.Using)) = moves_skip
  item_at_moves pos (Some (token.Word word.Const)) = moves_skip
  item_at_moves pos (Some (token.Name m)) = moves_skip
  item_at_moves pos o = word_moves pos (base_of (word_of o))

  pub item_moves : Moves n item_form
  item_moves = moves_here (λ pos. moves_look (λ o. item_at_moves pos o))
