-- Laws of every form at once: one piece at one place, more room, and what a fault means.
use Rattle.std.proofs.Common.{◌≡◌, ℕ, zero, suc, ◌+◌, ◌≤◌, List, [], ◌∷◌, Bool, Option, Some, sym, subst, inl, inr, arith}
use Rattle.uc_tree.specs.declared.token.Token.{Token}
use Rattle.uc_tree.specs.declared.token.TokenKind.{TokenKind}
use Rattle.uc_grammar.specs.declared.fault.ParseFault.{ParseFault}
use Rattle.uc_grammar.specs.declared.fault.ParseFault.TheVariants.{Syntax, TooDeep, NoMemory}
use Rattle.uc_grammar.specs.Names.{Name}
use Rattle.uc_grammar.specs.Spell.{kind_at, pos_at, Rel, Nothing, Empty, Expect, Run, ListRun, Same, Why, Refused}
use Rattle.uc_grammar.specs.Form.{Form, nothing, empty, skip, expect, token_or, look, here, bind, apply, many, listed, inside, Inner, Spells, Fails}
use Rattle.uc_grammar.specs.Grammar.{form_of, inner, faults}
use Rattle.uc_grammar.proofs.Fit.{Fit, fit_nothing, fit_empty, fit_skip, fit_expect, fit_token_or, fit_look, fit_here, fit_bind, fit_map, fit_many, fit_listed}
use Rattle.uc_grammar.proofs.Refuse.{refused_skip, refused_expect, refused_map, refused_look, refused_here, refused_first, refused_second, refused_there, refused_else, refused_nothing, refused_token, refused_many, refused_list_first, refused_listed}

abbrev pub FitInner : Inner → Inner → Type 1
FitInner i j = (A : Type 0) (x : Name A) → Fit (i A x) (j A x)

pub fit : {A : Type 0} (i j : Inner) → FitInner i j → (g : Form A) → Fit (Spells i g) (Spells j g)
fit i j h nothing = fit_nothing
fit i j h (empty x) = fit_empty x
fit i j h (skip g) = fit_skip (fit i j h g)
fit i j h (expect t g) = fit_expect t (fit i j h g)
fit i j h (token_or t g k) = fit_token_or t (Spells i g) (Spells j g) (Spells i k) (Spells j k) (fit i j h g) (fit i j h k)
fit i j h (look k) = fit_look (λ o. Spells i (k o)) (λ o. Spells j (k o)) (λ o. fit i j h (k o))
fit i j h (here k) = fit_here (λ p. Spells i (k p)) (λ p. Spells j (k p)) (λ p. fit i j h (k p))
fit i j h (bind g k) = fit_bind (λ a. Spells i (k a)) (λ a. Spells j (k a)) (fit i j h g) (λ a. fit i j h (k a))
fit i j h (apply f g) = fit_map f (fit i j h g)
fit i j h (many p g) = fit_many p (Spells i g) (Spells j g) (fit i j h g)
fit i j h (listed g p k) = fit_listed p (Spells i g) (Spells j g) (Spells i k) (Spells j k) (fit i j h g) (fit i j h k)
fit {A} i j h (inside x) = h A x

fit_nothing_left : {A : Type 0} (R : Rel A) → Fit {A = A} Nothing R
fit_nothing_left R = record {
  agrees = λ ts from to1 to2 v1 v2 r s. absurd r;
  local = λ ts us from to v same r. absurd r;
  grows = λ ts from to v r. absurd r;
}

fit_nothing_right : {A : Type 0} {R R' : Rel A} → Fit R R' → Fit {A = A} R Nothing
fit_nothing_right f = record {
  agrees = λ ts from to1 to2 v1 v2 r s. absurd s;
  local = f.local;
  grows = f.grows;
}

pub fit_inner : (m n : ℕ) → FitInner (inner m) (inner n)
unfolding inner
fit_inner zero n A x = fit_nothing_left (inner n A x)
fit_inner (suc m) zero A x = fit_nothing_right (fit (inner m) (inner m) (fit_inner m m) (form_of x))
fit_inner (suc m) (suc n) A x = fit (inner m) (inner n) (fit_inner m n) (form_of x)

pub fits : {A : Type 0} (g : Form A) (m n : ℕ) → Fit (Spells (inner m) g) (Spells (inner n) g)
fits g m n = fit (inner m) (inner n) (fit_inner m n) g

-- Whatever the form and the depths, two pieces at one place are the same.
pub one_piece : {A : Type 0} (g : Form A) (m n : ℕ) (ts : List Token) (from to1 to2 : ℕ) (v1 v2 : A) → Spells (inner m) g ts from to1 v1 → Spells (inner n) g ts from to2 v2 → (to1 ≡ to2) × (v1 ≡ v2)
one_piece g m n = (fits g m n).agrees

-- A piece ends where it begins or later.
pub grows : {A : Type 0} (g : Form A) (m : ℕ) (ts : List Token) (from to : ℕ) (v : A) → Spells (inner m) g ts from to v → from ≤ to
grows g m = (fits g m m).grows

module _ (room : ℕ) (ts : List Token) (from : ℕ) (f : ParseFault) where
  no_memory : {A : Type 0} (F : ℕ → Rel A) → f ≡ NoMemory → Refused F room ts from f
  no_memory F e = subst (λ g. Refused F room ts from g) (sym e) (record { why = tt })

  no_piece : {A : Type 0} → f ≡ Syntax from → Refused {A = A} (λ n. Nothing) room ts from f
  no_piece {A} e = subst (λ g. Refused {A = A} (λ n. Nothing) room ts from g) (sym e) (refused_nothing room ts from)

  no_token : {A : Type 0} (t : TokenKind) (F : ℕ → Rel A) → f ≡ Syntax from → (kind_at ts from ≡ Some t → ⊥) → Refused (λ n. Expect t (F n)) room ts from f
  no_token t F e other = subst (λ g. Refused (λ n. Expect t (F n)) room ts from g) (sym e) (refused_token t F room ts from other)

abbrev pub Inside : ℕ → Type 1
Inside room = (A : Type 0) (x : Name A) (ts : List Token) (from : ℕ) (f : ParseFault) → faults room A x ts from f → Refused (λ n. inner n A x) room ts from f

-- What a fault means, for every form.
pub means_with : {A : Type 0} (room : ℕ) → Inside room → (g : Form A) (ts : List Token) (from : ℕ) (f : ParseFault) → Fails (inner room) (faults room) g ts from f → Refused (λ n. Spells (inner n) g) room ts from f
means_with {A} room h nothing ts from f (inl e) = no_piece room ts from f {A = A} e
means_with {A} room h nothing ts from f (inr e) = no_memory room ts from f (λ n. Nothing) e
means_with room h (empty x) ts from f e = no_memory room ts from f (λ n. Empty x) e
means_with room h (skip g) ts from f e = refused_skip room ts from f (λ n. Spells (inner n) g) (means_with room h g ts (from + 1) f e)
means_with room h (expect t g) ts from f (inl e) = no_token room ts from f t (λ n. Spells (inner n) g) e.0 e.1
means_with room h (expect t g) ts from f (inr (inl e)) = refused_expect room ts from f t (λ n. Spells (inner n) g) (means_with room h g ts (from + 1) f e.1)
means_with room h (expect t g) ts from f (inr (inr e)) = no_memory room ts from f (λ n. Spells (inner n) (expect t g)) e
means_with room h (token_or t g k) ts from f (inl e) = refused_there t (λ n. Spells (inner n) g) (λ n. Spells (inner n) k) room ts from f e.0 (means_with room h g ts (from + 1) f e.1)
means_with room h (token_or t g k) ts from f (inr e) = refused_else t (λ n. Spells (inner n) g) (λ n. Spells (inner n) k) room ts from f e.0 (means_with room h k ts from f e.1)
means_with room h (look k) ts from f e = refused_look room ts from f (λ n o. Spells (inner n) (k o)) (means_with room h (k (kind_at ts from)) ts from f e)
means_with room h (here k) ts from f e = refused_here room ts from f (λ n p. Spells (inner n) (k p)) (means_with room h (k (pos_at ts from)) ts from f e)
means_with room h (bind g k) ts from f (inl e) = refused_first room ts from f (λ n. Spells (inner n) g) (λ n a. Spells (inner n) (k a)) (means_with room h g ts from f e)
means_with room h (bind g k) ts from f (inr (inl e)) = refused_second room ts from f (λ n. Spells (inner n) g) (λ n a. Spells (inner n) (k a)) e.0 e.1 (fits g room) e.2 (means_with room h (k e.1) ts e.0 f e.3)
means_with room h (bind g k) ts from f (inr (inr e)) = no_memory room ts from f (λ n. Spells (inner n) (bind g k)) e
means_with room h (apply u g) ts from f (inl e) = refused_map room ts from f u (λ n. Spells (inner n) g) (means_with room h g ts from f e)
means_with room h (apply u g) ts from f (inr e) = no_memory room ts from f (λ n. Spells (inner n) (apply u g)) e
means_with room h (many p g) ts from f (inl e) = refused_many p (λ n. Spells (inner n) g) room ts from e.0 e.1 f (fits g room) e.2 e.3 (means_with room h g ts e.0 f e.4)
means_with room h (many p g) ts from f (inr e) = no_memory room ts from f (λ n. Spells (inner n) (many p g)) e
means_with room h (listed g p k) ts from f (inl e) = refused_list_first (λ n. Spells (inner n) g) p (λ n. Spells (inner n) k) room ts from f (means_with room h g ts from f e)
means_with room h (listed g p k) ts from f (inr (inl e)) = refused_listed (λ n. Spells (inner n) g) p (λ n. Spells (inner n) k) room ts from e.0 e.1 f (fits g room) (fits k room) e.2 e.3 (means_with room h k ts e.0 f e.4)
means_with room h (listed g p k) ts from f (inr (inr e)) = no_memory room ts from f (λ n. Spells (inner n) (listed g p k)) e
means_with {A} room h (inside x) ts from f e = h A x ts from f e

-- A refusal at one depth is one of what stands one level deeper.
deeper_why : (A : Type 0) (x : Name A) (room : ℕ) (ts : List Token) (from : ℕ) (f : ParseFault) → Why (λ n. Spells (inner n) (form_of x)) room ts from f → Why (λ n. inner n A x) (suc room) ts from f
unfolding inner
deeper_why A x room ts from (Syntax p) r = (r.0, never)
  where
    never : (n : ℕ) (us : List Token) (to : ℕ) (v : A) → Same (p + 1) ts us → inner n A x us from to v → ⊥
    never zero us to v s e = e
    never (suc n) us to v s e = r.1 n us to v s e
deeper_why A x room ts from (TooDeep k) r = r
deeper_why A x room ts from NoMemory r = tt

pub inside_means : (room : ℕ) → Inside room
unfolding inner faults
inside_means zero A x ts from f e = subst (λ g. Refused (λ n. inner n A x) 0 ts from g) (sym e) (record { why = (omega arith, λ to v r. r) })
inside_means (suc n) A x ts from f e = record { why = deeper_why A x n ts from f (means_with n (inside_means n) (form_of x) ts from f e).why }

pub means : {A : Type 0} (room : ℕ) (g : Form A) (ts : List Token) (from : ℕ) (f : ParseFault) → Fails (inner room) (faults room) g ts from f → Refused (λ n. Spells (inner n) g) room ts from f
means room = means_with room (inside_means room)

-- What is spelled within some levels is spelled within more.
abbrev pub Wider : Inner → Inner → Type 1
Wider i j = (A : Type 0) (x : Name A) (ts : List Token) (from to : ℕ) (v : A) → i A x ts from to v → j A x ts from to v

wider_run : {A : Type 0} (p : Option TokenKind → Bool) (R S : Rel A) → ((ts : List Token) (from to : ℕ) (v : A) → R ts from to v → S ts from to v) → (ts : List Token) (from to : ℕ) (xs : List A) → Run p R ts from to xs → Run p S ts from to xs
unfolding Run
wider_run p R S h ts from to [] r = r
wider_run p R S h ts from to (x ∷ xs) r = (r.0, r.1, h ts from r.1 x r.2, wider_run p R S h ts r.1 to xs r.3)

wider_list : {A : Type 0} (p : Option TokenKind → Bool) (R R' S S' : Rel A) → ((ts : List Token) (from to : ℕ) (v : A) → R ts from to v → R' ts from to v) → ((ts : List Token) (from to : ℕ) (v : A) → S ts from to v → S' ts from to v) → (ts : List Token) (from to : ℕ) (xs : List A) → ListRun R p S ts from to xs → ListRun R' p S' ts from to xs
unfolding ListRun
wider_list p R R' S S' h k ts from to [] r = r
wider_list p R R' S S' h k ts from to (x ∷ xs) r = (r.0, h ts from r.0 x r.1, wider_run p S S' k ts r.0 to xs r.2)

module _ (i j : Inner) (w : Wider i j) where
  pub wider : {A : Type 0} (g : Form A) (ts : List Token) (from to : ℕ) (v : A) → Spells i g ts from to v → Spells j g ts from to v
  wider nothing ts from to v r = r
  wider (empty x) ts from to v r = r
  wider (skip g) ts from to v r = wider g ts (from + 1) to v r
  wider (expect t g) ts from to v r = (r.0, wider g ts (from + 1) to v r.1)
  wider (token_or t g k) ts from to v (inl r) = inl (r.0, wider g ts (from + 1) to v r.1)
  wider (token_or t g k) ts from to v (inr r) = inr (r.0, wider k ts from to v r.1)
  wider (look k) ts from to v r = wider (k (kind_at ts from)) ts from to v r
  wider (here k) ts from to v r = wider (k (pos_at ts from)) ts from to v r
  wider (bind g k) ts from to v r = record { middle = r.middle; left = r.left; first = wider g ts from r.middle r.left r.first; second = wider (k r.left) ts r.middle to v r.second }
  wider (apply f g) ts from to v r = record { inside = r.inside; spelled = wider g ts from to r.inside r.spelled; value = r.value }
  wider (many p g) ts from to v r = record { run = wider_run p (Spells i g) (Spells j g) (wider g) ts from to v r.run; over = r.over }
  wider (listed g p k) ts from to v r = record { run = wider_list p (Spells i g) (Spells j g) (Spells i k) (Spells j k) (wider g) (wider k) ts from to v r.run; over = r.over }
  wider {A} (inside x) ts from to v r = w A x ts from to v r

pub wider_inner : (n : ℕ) → Wider (inner n) (inner (suc n))
unfolding inner
wider_inner zero A x ts from to v r = absurd r
wider_inner (suc n) A x ts from to v r = wider (inner n) (inner (suc n)) (wider_inner n) (form_of x) ts from to v r

-- so many levels more
pub more_room : {A : Type 0} (k n : ℕ) (g : Form A) (ts : List Token) (from to : ℕ) (v : A) → Spells (inner n) g ts from to v → Spells (inner (n + k)) g ts from to v
more_room zero n g ts from to v r = let e : n + 0 ≡ n = omega arith in subst (λ m. Spells (inner m) g ts from to v) (sym e) r
more_room (suc k) n g ts from to v r = let e : n + suc k ≡ suc (n + k) = omega arith in
    subst (λ m. Spells (inner m) g ts from to v) (sym e) (wider (inner (n + k)) (inner (suc (n + k))) (wider_inner (n + k)) g ts from to v (more_room k n g ts from to v r))
