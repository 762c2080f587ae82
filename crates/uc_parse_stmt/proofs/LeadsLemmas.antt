-- What has been read of a form, step by step.
use Rattle.std.proofs.Common.{◌≡◌, ℕ, ◌+◌, List, Bool, Option, Some, [], ◌∷◌, inl, inr, refl, sym, subst}
use Rattle.uc_tree.specs.declared.token.Token.{Token}
use Rattle.uc_tree.specs.declared.token.TokenKind.{TokenKind}
use Rattle.uc_grammar.specs.declared.fault.ParseFault.{ParseFault}
use Rattle.uc_grammar.specs.declared.fault.ParseFault.TheVariants.{NoMemory}
use Rattle.uc_grammar.specs.Spell.{kind_at, ListRun}
use Rattle.uc_grammar.specs.Form.{Form, empty, skip, expect, bind, apply, listed, Spells, Fails}
use Rattle.uc_grammar.specs.Grammar.{inner, faults}
use Rattle.uc_parse_stmt.specs.Leads.{Leads, LeadsOpen}

module _ {A : Type 0} (room : ℕ) (ts : List Token) where
  -- nothing read yet
  pub none_read : (g : Form A) (from : ℕ) → Leads room ts g from g from
  none_read g from = record { spells = λ to v r. r; fails = λ f h. h }

  -- one step and then more
  pub then_read : (g h k : Form A) (from mid at : ℕ) → Leads room ts g from h mid → Leads room ts h mid k at → Leads room ts g from k at
  then_read g h k from mid at l m = record {
    spells = λ to v r. l.spells to v (m.spells to v r);
    fails = λ f e. l.fails f (m.fails f e);
  }

  pub skip_read : (g k : Form A) (from at : ℕ) → Leads room ts g (from + 1) k at → Leads room ts (skip g) from k at
  skip_read g k from at l = record { spells = λ to v r. l.spells to v r; fails = λ f e. l.fails f e }

  pub expect_read : (t : TokenKind) (g : Form A) (from at : ℕ) → (kind_at ts from ≡ Some t) × (at ≡ from + 1) → Leads room ts (expect t g) from g at
  expect_read t g from at p = record {
    spells = λ to v r. (p.0, subst (λ n. Spells (inner room) g ts n to v) p.1 r);
    fails = λ f e. inr (inl (p.0, subst (λ n. Fails (inner room) (faults room) g ts n f) p.1 e));
  }

module _ {A B : Type 0} (room : ℕ) (ts : List Token) where
  -- the first part read
  pub first_read : (g : Form A) (h : A → Form B) (from at : ℕ) (x : A) → Spells (inner room) g ts from at x → Leads room ts (bind g h) from (h x) at
  first_read g h from at x r = record {
    spells = λ to v s. record { middle = at; left = x; first = r; second = s };
    fails = λ f e. inr (inl (at, x, r, e));
  }

  -- a part of the first part read
  first_failed : (g k : Form A) (h : A → Form B) (from at : ℕ) → Leads room ts g from k at → (f : ParseFault) → Fails (inner room) (faults room) (bind k h) ts at f → Fails (inner room) (faults room) (bind g h) ts from f
  first_failed g k h from at l f (inl e) = inl (l.fails f e)
  first_failed g k h from at l f (inr (inl e)) = inr (inl (e.0, e.1, l.spells _ _ e.2, e.3))
  first_failed g k h from at l f (inr (inr e)) = inr (inr e)

  pub in_first : (g k : Form A) (h : A → Form B) (from at : ℕ) → Leads room ts g from k at → Leads room ts (bind g h) from (bind k h) at
  in_first g k h from at l = record {
    spells = λ to v s. record { middle = s.middle; left = s.left; first = l.spells _ _ s.first; second = s.second };
    fails = λ f e. first_failed g k h from at l f e;
  }

  second_failed : (g : Form A) (h k : A → Form B) (from : ℕ) → ((x : A) (at : ℕ) → Leads room ts (h x) at (k x) at) → (f : ParseFault) → Fails (inner room) (faults room) (bind g k) ts from f → Fails (inner room) (faults room) (bind g h) ts from f
  second_failed g h k from l f (inl e) = inl e
  second_failed g h k from l f (inr (inl e)) = inr (inl (e.0, e.1, e.2, (l e.1 e.0).fails f e.3))
  second_failed g h k from l f (inr (inr e)) = inr (inr e)

  -- the same first part, and nothing read of the second
  pub in_second : (g : Form A) (h k : A → Form B) (from : ℕ) → ((x : A) (at : ℕ) → Leads room ts (h x) at (k x) at) → Leads room ts (bind g h) from (bind g k) from
  in_second g h k from l = record {
    spells = λ to v s. record { middle = s.middle; left = s.left; first = s.first; second = (l s.left s.middle).spells _ _ s.second };
    fails = λ f e. second_failed g h k from l f e;
  }

  thin_failed : (x : A) (h : Form B) (from : ℕ) → Fails (inner room) (faults room) h ts from NoMemory → (f : ParseFault) → Fails (inner room) (faults room) (bind (empty x) (λ y. h)) ts from f → Fails (inner room) (faults room) h ts from f
  thin_failed x h from n f (inl e) = subst (λ g. Fails (inner room) (faults room) h ts from g) (sym e) n
  thin_failed x h from n f (inr (inl e)) = subst (λ m. Fails (inner room) (faults room) h ts m f) e.2.0 e.3
  thin_failed x h from n f (inr (inr e)) = subst (λ g. Fails (inner room) (faults room) h ts from g) (sym e) n

  -- a first part of no token
  pub thin : (x : A) (h : Form B) (from : ℕ) → Fails (inner room) (faults room) h ts from NoMemory → Leads room ts h from (bind (empty x) (λ y. h)) from
  thin x h from n = record {
    spells = λ to v s. subst (λ m. Spells (inner room) h ts m to v) s.first.0 s.second;
    fails = λ f e. thin_failed x h from n f e;
  }

  applied_failed : (g k : Form A) (h : A → B) (from at : ℕ) → Leads room ts g from k at → (f : ParseFault) → Fails (inner room) (faults room) (apply h k) ts at f → Fails (inner room) (faults room) (apply h g) ts from f
  applied_failed g k h from at l f (inl e) = inl (l.fails f e)
  applied_failed g k h from at l f (inr e) = inr e

  pub in_applied : (g k : Form A) (h : A → B) (from at : ℕ) → Leads room ts g from k at → Leads room ts (apply h g) from (apply h k) at
  in_applied g k h from at l = record {
    spells = λ to v s. record { inside = s.inside; spelled = l.spells _ _ s.spelled; value = s.value };
    fails = λ f e. applied_failed g k h from at l f e;
  }

-- a part of the first of a list read
module _ {A : Type 0} (room : ℕ) (ts : List Token) (g k : Form A) (p : Option TokenKind → Bool) (h : Form A) (from at : ℕ) (l : Leads room ts g from k at) where
  run_read : (to : ℕ) (xs : List A) → ListRun (Spells (inner room) k) p (Spells (inner room) h) ts at to xs → ListRun (Spells (inner room) g) p (Spells (inner room) h) ts from to xs
  unfolding ListRun
  run_read to [] r = r
  run_read to (x ∷ xs) r = (r.0, l.spells _ _ r.1, r.2)

  list_failed : (f : ParseFault) → Fails (inner room) (faults room) (listed k p h) ts at f → Fails (inner room) (faults room) (listed g p h) ts from f
  list_failed f (inl e) = inl (l.fails f e)
  list_failed f (inr (inl e)) = inr (inl (e.0, e.1, run_read _ _ e.2, e.3, e.4))
  list_failed f (inr (inr e)) = inr (inr e)

  pub in_listed : Leads room ts (listed g p h) from (listed k p h) at
  in_listed = record {
    spells = λ to v s. record { run = run_read to v s.run; over = s.over };
    fails = λ f e. list_failed f e;
  }

-- A function of a piece, as a second step.
module _ {A B : Type 0} (room : ℕ) (ts : List Token) (g : Form A) (h : A → B) (from : ℕ) where
  made_failed : (f : ParseFault) → Fails (inner room) (faults room) (bind g (λ x. empty (h x))) ts from f → Fails (inner room) (faults room) (apply h g) ts from f
  made_failed f (inl e) = inl e
  made_failed f (inr (inl e)) = inr e.3
  made_failed f (inr (inr e)) = inr e

  pub made : Leads room ts (apply h g) from (bind g (λ x. empty (h x))) from
  made = record {
    spells = λ to v s. record { inside = s.left; spelled = subst (λ n. Spells (inner room) g ts from n s.left) (sym s.second.0) s.first; value = s.second.1 };
    fails = λ f e. made_failed f e;
  }

-- Two functions of a piece.
module _ {A B C : Type 0} (room : ℕ) (ts : List Token) (g : Form A) (k : A → B) (from : ℕ) where
  fused_failed : (h : B → C) (f : ParseFault) → Fails (inner room) (faults room) (apply (λ x. h (k x)) g) ts from f → Fails (inner room) (faults room) (apply h (apply k g)) ts from f
  fused_failed h f (inl e) = inl (inl e)
  fused_failed h f (inr e) = inr e

  pub fused : (h : B → C) → Leads room ts (apply h (apply k g)) from (apply (λ x. h (k x)) g) from
  fused h = record {
    spells = λ to v s. record { inside = k s.inside; spelled = record { inside = s.inside; spelled = s.spelled; value = refl }; value = s.value };
    fails = λ f e. fused_failed h f e;
  }

  handed_failed : (h : B → Form C) (f : ParseFault) → Fails (inner room) (faults room) (bind g (λ x. h (k x))) ts from f → Fails (inner room) (faults room) (bind (apply k g) h) ts from f
  handed_failed h f (inl e) = inl (inl e)
  handed_failed h f (inr (inl e)) = inr (inl (e.0, k e.1, record { inside = e.1; spelled = e.2; value = refl }, e.3))
  handed_failed h f (inr (inr e)) = inr (inr e)

  pub handed : (h : B → Form C) → Leads room ts (bind (apply k g) h) from (bind g (λ x. h (k x))) from
  handed h = record {
    spells = λ to v s. record { middle = s.middle; left = k s.left; first = record { inside = s.left; spelled = s.first; value = refl }; second = s.second };
    fails = λ f e. handed_failed h f e;
  }

-- A form that depends on what a token is.
pub by_leads : {A X : Type 0} (room : ℕ) (ts : List Token) (k : X → Form A) (x y : X) (from at : ℕ) (g : Form A) → x ≡ y → Leads room ts (k x) from g at → Leads room ts (k y) from g at
by_leads room ts k x y from at g e l = subst (λ z. Leads room ts (k z) from g at) e l

pub open_read : {A : Type 0} (yet : Bool) (room : ℕ) (ts : List Token) (g : Form A) (from : ℕ) (k : Form A) (at : ℕ) → Leads room ts g from k at → LeadsOpen yet room ts g from k at
open_read yet room ts g from k at l = record { spells = λ to v r. l.spells to v r; fails = λ o f e. l.fails f e }
