-- Tokens that are no program have one fault.
use Rattle.std.proofs.Common.{◌≡◌, ℕ, zero, suc, ◌+◌, List, [], ◌∷◌, Bool, Option, refl, sym, ◌∙◌, subst, inl, inr}
use Rattle.uc_tree.specs.declared.token.Token.{Token}
use Rattle.uc_tree.specs.declared.token.TokenKind.{TokenKind}
use Rattle.uc_grammar.specs.declared.fault.ParseFault.{ParseFault}
use Rattle.uc_grammar.specs.declared.fault.ParseFault.TheVariants.{Syntax, TooDeep, NoMemory}
use Rattle.uc_grammar.specs.Names.{Name}
use Rattle.uc_grammar.specs.Spell.{kind_at, pos_at, Rel, Run, ListRun}
use Rattle.uc_grammar.specs.Form.{Form, nothing, empty, skip, expect, token_or, look, here, bind, apply, many, listed, inside, Spells, Fails}
use Rattle.uc_grammar.specs.Grammar.{form_of, inner, faults, program_form}
use Rattle.uc_grammar.specs.Text.{ProgramFails}
use Rattle.uc_grammar.proofs.AllForms.{one_piece}
use Rattle.uc_grammar.proofs.Told.{syntax_refuses, too_deep_refuses}

-- of Syntax and TooDeep
abbrev IsReal : ParseFault → Type 0
IsReal f = f ≡ NoMemory → ⊥

-- where a form fails, it spells nothing
unspelled : {A : Type 0} (g : Form A) (n : ℕ) (ts : List Token) (from to : ℕ) (v : A) (f : ParseFault) → Fails (inner n) (faults n) g ts from f → IsReal f → Spells (inner n) g ts from to v → ⊥
unspelled g n ts from to v (Syntax p) r real s = syntax_refuses g n ts from p r n ts to v (λ i h. refl) s
unspelled g n ts from to v (TooDeep k) r real s = too_deep_refuses g n ts from k r to v s
unspelled g n ts from to v NoMemory r real s = real refl

-- two runs that end where another piece begins and is none end at one place
module _ {A : Type 0} (p : Option TokenKind → Bool) (R : Rel A) (ts : List Token) (one : (from to1 to2 : ℕ) (v1 v2 : A) → R ts from to1 v1 → R ts from to2 v2 → (to1 ≡ to2) × (v1 ≡ v2)) where
  one_end : (from at l : ℕ) (xs ys : List A) → Run p R ts from at xs → Run p R ts from l ys → ((to : ℕ) (v : A) → R ts at to v → ⊥) → ((to : ℕ) (v : A) → R ts l to v → ⊥) → at ≡ l
  unfolding Run
  one_end from at l [] [] r s bare never = r ∙ sym s
  one_end from at l [] (y ∷ ys) r s bare never = absurd (bare s.1 y (subst (λ k. R ts k s.1 y) (sym r) s.2))
  one_end from at l (x ∷ xs) [] r s bare never = absurd (never r.1 x (subst (λ k. R ts k r.1 x) (sym s) r.2))
  one_end from at l (x ∷ xs) (y ∷ ys) r s bare never =
      let e = one from r.1 s.1 x y r.2 s.2 in one_end r.1 at l xs ys r.3 (subst (λ k. Run p R ts k l ys) (sym e.0) s.3) bare never

  one_list_end : (S : Rel A) → ((from to1 to2 : ℕ) (v1 v2 : A) → S ts from to1 v1 → S ts from to2 v2 → (to1 ≡ to2) × (v1 ≡ v2)) → (from at l : ℕ) (xs ys : List A) → ListRun S p R ts from at xs → ListRun S p R ts from l ys → ((to : ℕ) (v : A) → R ts at to v → ⊥) → ((to : ℕ) (v : A) → R ts l to v → ⊥) → at ≡ l
  unfolding ListRun
  one_list_end S first from at l [] ys r s bare never = absurd r
  one_list_end S first from at l (x ∷ xs) [] r s bare never = absurd s
  one_list_end S first from at l (x ∷ xs) (y ∷ ys) r s bare never =
      let e = first from r.0 s.0 x y r.1 s.1 in one_end r.0 at l xs ys r.2 (subst (λ k. Run p R ts k l ys) (sym e.0) s.2) bare never

-- a list begins with its first piece
first_of_list : {A : Type 0} (S R : Rel A) (p : Option TokenKind → Bool) (ts : List Token) (from at : ℕ) (xs : List A) → ListRun S p R ts from at xs → (to : ℕ) × (v : A) × S ts from to v
unfolding ListRun
first_of_list S R p ts from at [] r = absurd r
first_of_list S R p ts from at (x ∷ xs) r = (r.0, x, r.1)

module _ (n : ℕ) (below : (A : Type 0) (x : Name A) (ts : List Token) (from : ℕ) (a b : ParseFault) → faults n A x ts from a → faults n A x ts from b → IsReal a → IsReal b → a ≡ b) where
  abbrev E : {A : Type 0} → Form A → List Token → ℕ → ParseFault → Type 0
  E g ts from f = Fails (inner n) (faults n) g ts from f

  -- no piece stands where the form fails
  none_at : {A : Type 0} (g : Form A) (ts : List Token) (at : ℕ) (f : ParseFault) → E g ts at f → IsReal f → (to : ℕ) (v : A) → Spells (inner n) g ts at to v → ⊥
  none_at g ts at f r real to v s = unspelled g n ts at to v f r real s

  moved : {A : Type 0} (g : Form A) (ts : List Token) (at l : ℕ) (f : ParseFault) → at ≡ l → E g ts l f → E g ts at f
  moved g ts at l f e r = subst (λ k. E g ts k f) (sym e) r

  behind : {A B : Type 0} (h : A → Form B) (ts : List Token) (at l : ℕ) (a b : A) (f : ParseFault) → at ≡ l → a ≡ b → E (h b) ts l f → E (h a) ts at f
  behind h ts at l a b f e d r = subst (λ k. E (h a) ts k f) (sym e) (subst (λ c. E (h c) ts l f) (sym d) r)

  pub one : {A : Type 0} (g : Form A) (ts : List Token) (from : ℕ) (a b : ParseFault) → E g ts from a → E g ts from b → IsReal a → IsReal b → a ≡ b
  one nothing ts from a b (inl r) (inl s) x y = r ∙ sym s
  one nothing ts from a b (inl r) (inr s) x y = absurd (y s)
  one nothing ts from a b (inr r) s x y = absurd (x r)
  one (empty v) ts from a b r s x y = absurd (x r)
  one (skip g) ts from a b r s x y = one g ts (from + 1) a b r s x y
  one (expect t g) ts from a b (inl r) (inl s) x y = r.0 ∙ sym s.0
  one (expect t g) ts from a b (inl r) (inr (inl s)) x y = absurd (r.1 s.0)
  one (expect t g) ts from a b (inl r) (inr (inr s)) x y = absurd (y s)
  one (expect t g) ts from a b (inr (inl r)) (inl s) x y = absurd (s.1 r.0)
  one (expect t g) ts from a b (inr (inl r)) (inr (inl s)) x y = one g ts (from + 1) a b r.1 s.1 x y
  one (expect t g) ts from a b (inr (inl r)) (inr (inr s)) x y = absurd (y s)
  one (expect t g) ts from a b (inr (inr r)) s x y = absurd (x r)
  one (token_or t g h) ts from a b (inl r) (inl s) x y = one g ts (from + 1) a b r.1 s.1 x y
  one (token_or t g h) ts from a b (inl r) (inr s) x y = absurd (s.0 r.0)
  one (token_or t g h) ts from a b (inr r) (inl s) x y = absurd (r.0 s.0)
  one (token_or t g h) ts from a b (inr r) (inr s) x y = one h ts from a b r.1 s.1 x y
  one (look h) ts from a b r s x y = one (h (kind_at ts from)) ts from a b r s x y
  one (here h) ts from a b r s x y = one (h (pos_at ts from)) ts from a b r s x y
  one (bind g h) ts from a b (inl r) (inl s) x y = one g ts from a b r s x y
  one (bind g h) ts from a b (inl r) (inr (inl s)) x y = absurd (none_at g ts from a r x s.0 s.1 s.2)
  one (bind g h) ts from a b (inl r) (inr (inr s)) x y = absurd (y s)
  one (bind g h) ts from a b (inr (inl r)) (inl s) x y = absurd (none_at g ts from b s y r.0 r.1 r.2)
  one (bind g h) ts from a b (inr (inl r)) (inr (inl s)) x y =
      let e = one_piece g n n ts from r.0 s.0 r.1 s.1 r.2 s.2 in one (h r.1) ts r.0 a b r.3 (behind h ts r.0 s.0 r.1 s.1 b e.0 e.1 s.3) x y
  one (bind g h) ts from a b (inr (inl r)) (inr (inr s)) x y = absurd (y s)
  one (bind g h) ts from a b (inr (inr r)) s x y = absurd (x r)
  one (apply f g) ts from a b (inl r) (inl s) x y = one g ts from a b r s x y
  one (apply f g) ts from a b (inl r) (inr s) x y = absurd (y s)
  one (apply f g) ts from a b (inr r) s x y = absurd (x r)
  one (many p g) ts from a b (inl r) (inl s) x y =
      let e = one_end p (Spells (inner n) g) ts (one_piece g n n ts) from r.0 s.0 r.1 s.1 r.2 s.2 (none_at g ts r.0 a r.4 x) (none_at g ts s.0 b s.4 y) in one g ts r.0 a b r.4 (moved g ts r.0 s.0 b e s.4) x y
  one (many p g) ts from a b (inl r) (inr s) x y = absurd (y s)
  one (many p g) ts from a b (inr r) s x y = absurd (x r)
  one (listed g p h) ts from a b (inl r) (inl s) x y = one g ts from a b r s x y
  one (listed g p h) ts from a b (inl r) (inr (inl s)) x y =
      let q = first_of_list (Spells (inner n) g) (Spells (inner n) h) p ts from s.0 s.1 s.2 in absurd (none_at g ts from a r x q.0 q.1 q.2)
  one (listed g p h) ts from a b (inl r) (inr (inr s)) x y = absurd (y s)
  one (listed g p h) ts from a b (inr (inl r)) (inl s) x y =
      let q = first_of_list (Spells (inner n) g) (Spells (inner n) h) p ts from r.0 r.1 r.2 in absurd (none_at g ts from b s y q.0 q.1 q.2)
  one (listed g p h) ts from a b (inr (inl r)) (inr (inl s)) x y =
      let e = one_list_end p (Spells (inner n) h) ts (one_piece h n n ts) (Spells (inner n) g) (one_piece g n n ts) from r.0 s.0 r.1 s.1 r.2 s.2 (none_at h ts r.0 a r.4 x) (none_at h ts s.0 b s.4 y) in one h ts r.0 a b r.4 (moved h ts r.0 s.0 b e s.4) x y
  one (listed g p h) ts from a b (inr (inl r)) (inr (inr s)) x y = absurd (y s)
  one (listed g p h) ts from a b (inr (inr r)) s x y = absurd (x r)
  one {A} (inside v) ts from a b r s x y = below A v ts from a b r s x y

one_inside : (n : ℕ) (A : Type 0) (x : Name A) (ts : List Token) (from : ℕ) (a b : ParseFault) → faults n A x ts from a → faults n A x ts from b → IsReal a → IsReal b → a ≡ b
unfolding faults
one_inside zero A x ts from a b r s v w = r ∙ sym s
one_inside (suc n) A x ts from a b r s v w = one n (one_inside n) (form_of x) ts from a b r s v w

pub one_fault : (n : ℕ) (ts : List Token) (from : ℕ) (a b : ParseFault) → ProgramFails n ts from a → ProgramFails n ts from b → (a ≡ NoMemory → ⊥) → (b ≡ NoMemory → ⊥) → a ≡ b
unfolding ProgramFails
one_fault n ts from a b r s x y = one n (one_inside n) program_form ts from a b r s x y
