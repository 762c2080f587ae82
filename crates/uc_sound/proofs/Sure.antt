-- What holds of every piece that a form spells up to some token, former by former.
use Rattle.std.proofs.Common.{ℕ, ◌+◌, ◌≤◌, List, [], ◌∷◌, Bool, Option, subst, sym, inl, inr, arith}
use Rattle.uc_tree.specs.declared.pos.Pos.{Pos}
use Rattle.uc_tree.specs.declared.token.Token.{Token}
use Rattle.uc_tree.specs.declared.token.Sign.{Sign}
use Rattle.uc_tree.specs.declared.token.TokenKind.{TokenKind}
use Rattle.uc_grammar.specs.Spell.{kind_at, pos_at, TokenOr, Run, ListRun}
use Rattle.uc_grammar.specs.Form.{Form, nothing, empty, skip, expect, token_or, look, here, bind, apply, many, listed, Spells}
use Rattle.uc_grammar.specs.Grammar.{before, inner}
use Rattle.uc_grammar.proofs.Fit.{run_grows}
use Rattle.uc_grammar.proofs.AllForms.{fits, grows}

-- what the form spells within n levels, and ends at this token or before it, has the property
pub record Sure {A : Type 0} (n last : ℕ) (g : Form A) (Q : A → Type 0) : Type 0 where
  pub holds : (ts : List Token) (from to : ℕ) (v : A) → to ≤ last → Spells (inner n) g ts from to v → Q v

abbrev pub Each : {A : Type 0} → (A → Type 0) → List A → Type 0
Each R [] = Unit {0}
Each R (x ∷ xs) = R x × Each R xs

pub sure_nothing : {A : Type 0} {n last : ℕ} {Q : A → Type 0} → Sure n last nothing Q
sure_nothing = record { holds = λ ts from to v le r. absurd r }

pub sure_empty : {A : Type 0} {n last : ℕ} {x : A} {Q : A → Type 0} → Q x → Sure n last (empty x) Q
sure_empty {A} {n} {last} {x} {Q} h = record { holds = λ ts from to v le r. subst Q (sym r.1) h }

pub sure_skip : {A : Type 0} {n last : ℕ} {g : Form A} {Q : A → Type 0} → Sure n last g Q → Sure n last (skip g) Q
sure_skip s = record { holds = λ ts from to v le r. s.holds ts (from + 1) to v le r }

pub sure_expect : {A : Type 0} {n last : ℕ} {t : TokenKind} {g : Form A} {Q : A → Type 0} → Sure n last g Q → Sure n last (expect t g) Q
sure_expect s = record { holds = λ ts from to v le r. s.holds ts (from + 1) to v le r.1 }

either : {A : Type 0} (n last : ℕ) (t : TokenKind) (g h : Form A) (Q : A → Type 0) → Sure n last g Q → Sure n last h Q → (ts : List Token) (from to : ℕ) (v : A) → to ≤ last → TokenOr t (Spells (inner n) g) (Spells (inner n) h) ts from to v → Q v
either n last t g h Q s u ts from to v le (inl r) = s.holds ts (from + 1) to v le r.1
either n last t g h Q s u ts from to v le (inr r) = u.holds ts from to v le r.1

pub sure_or : {A : Type 0} {n last : ℕ} {t : TokenKind} {g h : Form A} {Q : A → Type 0} → Sure n last g Q → Sure n last h Q → Sure n last (token_or t g h) Q
sure_or {A} {n} {last} {t} {g} {h} {Q} s u = record { holds = λ ts from to v le r. either n last t g h Q s u ts from to v le r }

pub sure_look : {A : Type 0} {n last : ℕ} {k : Option TokenKind → Form A} {Q : A → Type 0} → ((o : Option TokenKind) → Sure n last (k o) Q) → Sure n last (look k) Q
sure_look s = record { holds = λ ts from to v le r. (s (kind_at ts from)).holds ts from to v le r }

pub sure_here : {A : Type 0} {n last : ℕ} {k : Pos → Form A} {Q : A → Type 0} → ((p : Pos) → Sure n last (k p) Q) → Sure n last (here k) Q
sure_here s = record { holds = λ ts from to v le r. (s (pos_at ts from)).holds ts from to v le r }

pub sure_bind : {A B : Type 0} {n last : ℕ} {g : Form A} {h : A → Form B} {R : A → Type 0} {Q : B → Type 0} → Sure n last g R → ((a : A) → R a → Sure n last (h a) Q) → Sure n last (bind g h) Q
sure_bind {n = n} {h = h} s k = record {
  holds = λ ts from to v le r. (k r.left (s.holds ts from r.middle r.left (omega (arith, le, grows (h r.left) n ts r.middle to v r.second)) r.first)).holds ts r.middle to v le r.second;
}

pub sure_apply : {A B : Type 0} {n last : ℕ} {f : A → B} {g : Form A} {R : A → Type 0} {Q : B → Type 0} → Sure n last g R → ((a : A) → R a → Q (f a)) → Sure n last (apply f g) Q
sure_apply {Q = Q} s k = record { holds = λ ts from to v le r. subst Q (sym r.value) (k r.inside (s.holds ts from to r.inside le r.spelled)) }

each_run : {A : Type 0} (n last : ℕ) (p : Option TokenKind → Bool) (g : Form A) (R : A → Type 0) → Sure n last g R → (ts : List Token) (from to : ℕ) (xs : List A) → to ≤ last → Run p (Spells (inner n) g) ts from to xs → Each R xs
unfolding Run
each_run n last p g R s ts from to [] le r = tt
each_run n last p g R s ts from to (x ∷ xs) le r =
    (s.holds ts from r.1 x (omega (arith, le, run_grows p (Spells (inner n) g) (Spells (inner n) g) (fits g n n) ts r.1 to xs r.3)) r.2, each_run n last p g R s ts r.1 to xs le r.3)

pub sure_many : {A : Type 0} {n last : ℕ} {p : Option TokenKind → Bool} {g : Form A} {R : A → Type 0} → Sure n last g R → Sure n last (many p g) (Each R)
sure_many {A} {n} {last} {p} {g} {R} s = record { holds = λ ts from to v le r. each_run n last p g R s ts from to v le r.run }

each_listed : {A : Type 0} (n last : ℕ) (p : Option TokenKind → Bool) (g h : Form A) (R : A → Type 0) → Sure n last g R → Sure n last h R → (ts : List Token) (from to : ℕ) (xs : List A) → to ≤ last → ListRun (Spells (inner n) g) p (Spells (inner n) h) ts from to xs → Each R xs
unfolding ListRun
each_listed n last p g h R s u ts from to [] le r = tt
each_listed n last p g h R s u ts from to (x ∷ xs) le r =
    (s.holds ts from r.0 x (omega (arith, le, run_grows p (Spells (inner n) h) (Spells (inner n) h) (fits h n n) ts r.0 to xs r.2)) r.1, each_run n last p h R u ts r.0 to xs le r.2)

pub sure_listed : {A : Type 0} {n last : ℕ} {p : Option TokenKind → Bool} {g h : Form A} {R : A → Type 0} → Sure n last g R → Sure n last h R → Sure n last (listed g p h) (Each R)
sure_listed {A} {n} {last} {p} {g} {h} {R} s u = record { holds = λ ts from to v le r. each_listed n last p g h R s u ts from to v le r.run }

-- the same pieces with a property that follows
pub sure_so : {A : Type 0} {n last : ℕ} {g : Form A} {R Q : A → Type 0} → Sure n last g R → ((a : A) → R a → Q a) → Sure n last g Q
sure_so s k = record { holds = λ ts from to v le r. k v (s.holds ts from to v le r) }

-- the same pieces with two properties
pub sure_both : {A : Type 0} {n last : ℕ} {g : Form A} {R Q : A → Type 0} → Sure n last g R → Sure n last g Q → Sure n last g (λ a. R a × Q a)
sure_both s u = record { holds = λ ts from to v le r. (s.holds ts from to v le r, u.holds ts from to v le r) }

-- nothing is asked of the pieces
pub any_piece : {A : Type 0} (n last : ℕ) (g : Form A) → Sure n last g (λ a. Unit {0})
any_piece n last g = record { holds = λ ts from to v le r. tt }

pub sure_before : {A : Type 0} {n last : ℕ} {g : Form A} {s : Sign} {Q : A → Type 0} → Sure n last g Q → Sure n last (before g s) Q
sure_before h = sure_bind h (λ x q. sure_expect (sure_empty q))
