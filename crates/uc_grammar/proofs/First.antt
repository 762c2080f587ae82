-- The token of TooDeep is the first of the deeper tree at which a piece stands too deep.
use Rattle.std.proofs.Common.{◌≡◌, ℕ, zero, suc, ◌+◌, List, [], ◌∷◌, ◌++◌, Bool, Option, refl, sym, ◌∙◌, ap, subst, inl, inr}
use Rattle.uc_tree.specs.declared.token.Token.{Token}
use Rattle.uc_tree.specs.declared.token.TokenKind.{TokenKind}
use Rattle.uc_grammar.specs.declared.fault.ParseFault.{ParseFault}
use Rattle.uc_grammar.specs.declared.fault.ParseFault.TheVariants.{TooDeep}
use Rattle.uc_grammar.specs.Names.{Name}
use Rattle.uc_grammar.specs.Spell.{kind_at, pos_at, Rel, Begins, Run, ListRun}
use Rattle.uc_grammar.specs.Form.{Form, nothing, empty, skip, expect, token_or, look, here, bind, apply, many, listed, inside, Spells, Fails}
use Rattle.uc_grammar.specs.Grammar.{form_of, inner, faults}
use Rattle.uc_grammar.specs.Deep.{FirstDeep, first_deep}
use Rattle.uc_grammar.proofs.Fit.{Fit}
use Rattle.uc_grammar.proofs.AllForms.{fits}

-- A run that goes on behind a shorter one has that one's pieces, and then another.
module _ {A : Type 0} (p : Option TokenKind → Bool) (R S : Rel A) (f : Fit R S) where
  pub goes_on : (ts : List Token) (from at to : ℕ) (xs vs : List A) → Run p R ts from at xs → Begins p ts at → Run p S ts from to vs → (Begins p ts to → ⊥) → (l : ℕ) × (x : A) × (ys : List A) × (vs ≡ xs ++ x ∷ ys) × S ts at l x × Run p S ts l to ys
  unfolding Run
  goes_on ts from at to [] [] r b s over = absurd (over (subst (Begins p ts) (r ∙ sym s) b))
  goes_on ts from at to [] (v ∷ vs) r b s over = (s.1, v, vs, refl, subst (λ m. S ts m s.1 v) (sym r) s.2, s.3)
  goes_on ts from at to (x ∷ xs) [] r b s over = absurd (over (subst (Begins p ts) (sym s) r.0))
  goes_on ts from at to (x ∷ xs) (v ∷ vs) r b s over =
      let e = f.agrees ts from r.1 s.1 x v r.2 s.2 in
      let q = goes_on ts r.1 at to xs vs r.3 b (subst (λ m. Run p S ts m to vs) (sym e.0) s.3) over in
      (q.0, q.1, q.2, ap (λ w. v ∷ w) q.3 ∙ ap (λ w. w ∷ (xs ++ q.1 ∷ q.2)) (sym e.1), q.4, q.5)

module _ {A : Type 0} (p : Option TokenKind → Bool) (R R' S S' : Rel A) (f : Fit R R') (g : Fit S S') where
  pub list_goes_on : (ts : List Token) (from at to : ℕ) (xs vs : List A) → ListRun R p S ts from at xs → Begins p ts at → ListRun R' p S' ts from to vs → (Begins p ts to → ⊥) → (l : ℕ) × (x : A) × (ys : List A) × (vs ≡ xs ++ x ∷ ys) × S' ts at l x × Run p S' ts l to ys
  unfolding ListRun
  list_goes_on ts from at to [] vs r b s over = absurd r
  list_goes_on ts from at to (x ∷ xs) [] r b s over = absurd s
  list_goes_on ts from at to (x ∷ xs) (v ∷ vs) r b s over =
      let e = f.agrees ts from r.0 s.0 x v r.1 s.1 in
      let q = goes_on p S S' g ts r.0 at to xs vs r.2 b (subst (λ m. Run p S' ts m to vs) (sym e.0) s.2) over in
      (q.0, q.1, q.2, ap (λ w. v ∷ w) q.3 ∙ ap (λ w. w ∷ (xs ++ q.1 ∷ q.2)) (sym e.1), q.4, q.5)

module _ (m n : ℕ) (below : (A : Type 0) (x : Name A) (ts : List Token) (from to k : ℕ) (v : A) → faults m A x ts from (TooDeep k) → inner n A x ts from to v → first_deep m n A x ts from to v k) where
  abbrev First : {A : Type 0} → Form A → List Token → ℕ → ℕ → A → ℕ → Type 0
  First g ts from to v k = FirstDeep (inner m) (inner n) (first_deep m n) g ts from to v k

  abbrev E : {A : Type 0} → Form A → List Token → ℕ → ℕ → Type 0
  E g ts from k = Fails (inner m) (faults m) g ts from (TooDeep k)

  second : {A B : Type 0} (g : Form A) (h : A → Form B) (ts : List Token) (at l k : ℕ) (a b : A) → at ≡ l → a ≡ b → E (h a) ts at k → E (h b) ts l k
  second g h ts at l k a b e d r = subst (λ q. E (h b) ts q k) e (subst (λ c. E (h c) ts at k) d r)

  here_too : {A : Type 0} (g : Form A) (ts : List Token) (from at l : ℕ) (a b : A) → at ≡ l → a ≡ b → Spells (inner m) g ts from at a → Spells (inner m) g ts from l b
  here_too g ts from at l a b e d r = subst (λ q. Spells (inner m) g ts from q b) e (subst (λ c. Spells (inner m) g ts from at c) d r)

  first_of_list : {A : Type 0} (g h : Form A) (p : Option TokenKind → Bool) (ts : List Token) (from to k : ℕ) (v : List A) → ListRun (Spells (inner n) g) p (Spells (inner n) h) ts from to v → ((l : ℕ) (x : A) → Spells (inner n) g ts from l x → First g ts from l x k) → First (listed g p h) ts from to v k
  unfolding ListRun
  first_of_list g h p ts from to k [] s f = absurd s
  first_of_list g h p ts from to k (x ∷ xs) s f = inl (s.0, x, xs, refl, s.1, s.2, f s.0 x s.1)

  pub first : {A : Type 0} (g : Form A) (ts : List Token) (from to k : ℕ) (v : A) → E g ts from k → Spells (inner n) g ts from to v → First g ts from to v k
  first nothing ts from to k v r s = absurd s
  first (empty x) ts from to k v r s = cc
  first (skip g) ts from to k v r s = first g ts (from + 1) to k v r s
  first (expect t g) ts from to k v (inl r) s = absurd (r.1 s.0)
  first (expect t g) ts from to k v (inr (inl r)) s = (s.0, first g ts (from + 1) to k v r.1 s.1)
  first (expect t g) ts from to k v (inr (inr r)) s = cc
  first (token_or t g h) ts from to k v (inl r) (inl s) = inl (s.0, first g ts (from + 1) to k v r.1 s.1)
  first (token_or t g h) ts from to k v (inl r) (inr s) = absurd (s.0 r.0)
  first (token_or t g h) ts from to k v (inr r) (inl s) = absurd (r.0 s.0)
  first (token_or t g h) ts from to k v (inr r) (inr s) = inr (s.0, first h ts from to k v r.1 s.1)
  first (look h) ts from to k v r s = first (h (kind_at ts from)) ts from to k v r s
  first (here h) ts from to k v r s = first (h (pos_at ts from)) ts from to k v r s
  first (bind g h) ts from to k v (inl r) s = (s.middle, s.left, s.first, s.second, inl (first g ts from s.middle k s.left r s.first))
  first (bind g h) ts from to k v (inr (inl r)) s =
      let e = (fits g m n).agrees ts from r.0 s.middle r.1 s.left r.2 s.first in
      (s.middle, s.left, s.first, s.second, inr (here_too g ts from r.0 s.middle r.1 s.left e.0 e.1 r.2, first (h s.left) ts s.middle to k v (second g h ts r.0 s.middle k r.1 s.left e.0 e.1 r.3) s.second))
  first (bind g h) ts from to k v (inr (inr r)) s = cc
  first (apply f g) ts from to k v (inl r) s = (s.inside, s.value, first g ts from to k s.inside r s.spelled)
  first (apply f g) ts from to k v (inr r) s = cc
  first (many p g) ts from to k v (inl r) s =
      let q = goes_on p (Spells (inner m) g) (Spells (inner n) g) (fits g m n) ts from r.0 to r.1 v r.2 r.3 s.run s.over in
      (r.0, q.0, r.1, q.1, q.2, q.3, r.2, r.3, q.4, q.5, first g ts r.0 q.0 k q.1 r.4 q.4)
  first (many p g) ts from to k v (inr r) s = cc
  first (listed g p h) ts from to k v (inl r) s = first_of_list g h p ts from to k v s.run (λ l x d. first g ts from l k x r d)
  first (listed g p h) ts from to k v (inr (inl r)) s =
      let q = list_goes_on p (Spells (inner m) g) (Spells (inner n) g) (Spells (inner m) h) (Spells (inner n) h) (fits g m n) (fits h m n) ts from r.0 to r.1 v r.2 r.3 s.run s.over in
      inr (r.0, q.0, r.1, q.1, q.2, q.3, r.2, r.3, q.4, q.5, first h ts r.0 q.0 k q.1 r.4 q.4)
  first (listed g p h) ts from to k v (inr (inr r)) s = cc
  first {A} (inside x) ts from to k v r s = below A x ts from to k v r s

too_deep_here : (k from : ℕ) → ◌≡◌ {A = ParseFault} (TooDeep k) (TooDeep from) → k ≡ from
too_deep_here k from e = cc

first_inside : (m n : ℕ) (A : Type 0) (x : Name A) (ts : List Token) (from to k : ℕ) (v : A) → faults m A x ts from (TooDeep k) → inner n A x ts from to v → first_deep m n A x ts from to v k
unfolding inner faults first_deep
first_inside m zero A x ts from to k v r s = absurd s
first_inside zero (suc n) A x ts from to k v r s = too_deep_here k from r
first_inside (suc m) (suc n) A x ts from to k v r s = first m n (first_inside m n) (form_of x) ts from to k v r s

pub first_too_deep : {A : Type 0} (g : Form A) (m n : ℕ) (ts : List Token) (from to k : ℕ) (v : A) → Fails (inner m) (faults m) g ts from (TooDeep k) → Spells (inner n) g ts from to v → FirstDeep (inner m) (inner n) (first_deep m n) g ts from to v k
first_too_deep g m n ts from to k v r s = first m n (first_inside m n) g ts from to k v r s
