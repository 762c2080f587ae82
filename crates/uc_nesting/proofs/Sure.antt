-- What holds of every piece that a form spells, former by former.
use Rattle.std.proofs.Common.{ℕ, ◌+◌, List, [], ◌∷◌, Bool, Option, subst, sym, inl, inr}
use Rattle.uc_tree.specs.declared.pos.Pos.{Pos}
use Rattle.uc_tree.specs.declared.token.Token.{Token}
use Rattle.uc_tree.specs.declared.token.TokenKind.{TokenKind}
use Rattle.uc_grammar.specs.Spell.{kind_at, pos_at, TokenOr, Run, ListRun}
use Rattle.uc_grammar.specs.Form.{Form, nothing, empty, skip, expect, token_or, look, here, bind, apply, many, listed, Spells}
use Rattle.uc_grammar.specs.Grammar.{inner}

-- what the form spells within n levels has the property
pub record Sure {A : Type 0} (n : ℕ) (g : Form A) (Q : A → Type 0) : Type 0 where
  pub holds : (ts : List Token) (from to : ℕ) (v : A) → Spells (inner n) g ts from to v → Q v

abbrev pub Each : {A : Type 0} → (A → Type 0) → List A → Type 0
Each R [] = Unit {0}
Each R (x ∷ xs) = R x × Each R xs

pub sure_nothing : {A : Type 0} {n : ℕ} {Q : A → Type 0} → Sure n nothing Q
sure_nothing = record { holds = λ ts from to v r. absurd r }

pub sure_empty : {A : Type 0} {n : ℕ} {x : A} {Q : A → Type 0} → Q x → Sure n (empty x) Q
sure_empty {A} {n} {x} {Q} h = record { holds = λ ts from to v r. subst Q (sym r.1) h }

pub sure_skip : {A : Type 0} {n : ℕ} {g : Form A} {Q : A → Type 0} → Sure n g Q → Sure n (skip g) Q
sure_skip s = record { holds = λ ts from to v r. s.holds ts (from + 1) to v r }

pub sure_expect : {A : Type 0} {n : ℕ} {t : TokenKind} {g : Form A} {Q : A → Type 0} → Sure n g Q → Sure n (expect t g) Q
sure_expect s = record { holds = λ ts from to v r. s.holds ts (from + 1) to v r.1 }

either : {A : Type 0} (n : ℕ) (t : TokenKind) (g h : Form A) (Q : A → Type 0) → Sure n g Q → Sure n h Q → (ts : List Token) (from to : ℕ) (v : A) → TokenOr t (Spells (inner n) g) (Spells (inner n) h) ts from to v → Q v
either n t g h Q s u ts from to v (inl r) = s.holds ts (from + 1) to v r.1
either n t g h Q s u ts from to v (inr r) = u.holds ts from to v r.1

pub sure_or : {A : Type 0} {n : ℕ} {t : TokenKind} {g h : Form A} {Q : A → Type 0} → Sure n g Q → Sure n h Q → Sure n (token_or t g h) Q
sure_or {A} {n} {t} {g} {h} {Q} s u = record { holds = λ ts from to v r. either n t g h Q s u ts from to v r }

pub sure_look : {A : Type 0} {n : ℕ} {k : Option TokenKind → Form A} {Q : A → Type 0} → ((o : Option TokenKind) → Sure n (k o) Q) → Sure n (look k) Q
sure_look s = record { holds = λ ts from to v r. (s (kind_at ts from)).holds ts from to v r }

pub sure_here : {A : Type 0} {n : ℕ} {k : Pos → Form A} {Q : A → Type 0} → ((p : Pos) → Sure n (k p) Q) → Sure n (here k) Q
sure_here s = record { holds = λ ts from to v r. (s (pos_at ts from)).holds ts from to v r }

pub sure_bind : {A B : Type 0} {n : ℕ} {g : Form A} {h : A → Form B} {R : A → Type 0} {Q : B → Type 0} → Sure n g R → ((a : A) → R a → Sure n (h a) Q) → Sure n (bind g h) Q
sure_bind s k = record { holds = λ ts from to v r. (k r.left (s.holds ts from r.middle r.left r.first)).holds ts r.middle to v r.second }

pub sure_apply : {A B : Type 0} {n : ℕ} {f : A → B} {g : Form A} {R : A → Type 0} {Q : B → Type 0} → Sure n g R → ((a : A) → R a → Q (f a)) → Sure n (apply f g) Q
sure_apply {Q = Q} s k = record { holds = λ ts from to v r. subst Q (sym r.value) (k r.inside (s.holds ts from to r.inside r.spelled)) }

each_run : {A : Type 0} (n : ℕ) (p : Option TokenKind → Bool) (g : Form A) (R : A → Type 0) → Sure n g R → (ts : List Token) (from to : ℕ) (xs : List A) → Run p (Spells (inner n) g) ts from to xs → Each R xs
unfolding Run
each_run n p g R s ts from to [] r = tt
each_run n p g R s ts from to (x ∷ xs) r = (s.holds ts from r.1 x r.2, each_run n p g R s ts r.1 to xs r.3)

pub sure_many : {A : Type 0} {n : ℕ} {p : Option TokenKind → Bool} {g : Form A} {R : A → Type 0} → Sure n g R → Sure n (many p g) (Each R)
sure_many {A} {n} {p} {g} {R} s = record { holds = λ ts from to v r. each_run n p g R s ts from to v r.run }

each_listed : {A : Type 0} (n : ℕ) (p : Option TokenKind → Bool) (g h : Form A) (R : A → Type 0) → Sure n g R → Sure n h R → (ts : List Token) (from to : ℕ) (xs : List A) → ListRun (Spells (inner n) g) p (Spells (inner n) h) ts from to xs → Each R xs
unfolding ListRun
each_listed n p g h R s u ts from to [] r = tt
each_listed n p g h R s u ts from to (x ∷ xs) r = (s.holds ts from r.0 x r.1, each_run n p h R u ts r.0 to xs r.2)

pub sure_listed : {A : Type 0} {n : ℕ} {p : Option TokenKind → Bool} {g h : Form A} {R : A → Type 0} → Sure n g R → Sure n h R → Sure n (listed g p h) (Each R)
sure_listed {A} {n} {p} {g} {h} {R} s u = record { holds = λ ts from to v r. each_listed n p g h R s u ts from to v r.run }

-- the same pieces with a property that follows
pub sure_so : {A : Type 0} {n : ℕ} {g : Form A} {R Q : A → Type 0} → Sure n g R → ((a : A) → R a → Q a) → Sure n g Q
sure_so s k = record { holds = λ ts from to v r. k v (s.holds ts from to v r) }

-- nothing is asked of the pieces
pub any_piece : {A : Type 0} (n : ℕ) (g : Form A) → Sure n g (λ a. Unit {0})
any_piece n g = record { holds = λ ts from to v r. tt }
