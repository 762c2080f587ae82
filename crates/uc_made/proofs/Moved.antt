-- A piece is spelled wherever its tokens stand.
use Rattle.std.proofs.Common.{◌≡◌, ℕ, zero, suc, ◌+◌, List, [], ◌∷◌, ◌++◌, length, Bool, Option, IsTrue, refl, sym, ◌∙◌, ap, subst, inl, inr, arith}
use Rattle.std.specs.Prelude.{slice_get}
use Rattle.uc_tree.specs.declared.pos.Pos.{Pos}
use Rattle.uc_tree.specs.declared.token.Token.{Token}
use Rattle.uc_tree.specs.declared.token.TokenKind.{TokenKind}
use Rattle.uc_grammar.specs.Names.{Name}
use Rattle.uc_grammar.specs.Spell.{kind_of, pos_of, kind_at, pos_at, Rel, Begins, Run, Many, ListRun, Listed}
use Rattle.uc_grammar.specs.Form.{Form, nothing, empty, skip, expect, token_or, look, here, bind, apply, many, listed, inside, Inner, Spells}
use Rattle.uc_grammar.specs.Grammar.{form_of, inner}

-- what stands behind other tokens

behind : {A : Type 0} (xs us : List A) (j : ℕ) → slice_get (xs ++ us) (length xs + j) ≡ slice_get us j
behind [] us j = ap (slice_get us) (omega arith)
behind (x ∷ xs) us j = let e : length (x ∷ xs) + j ≡ suc (length xs + j) = omega arith in ap (slice_get (x ∷ xs ++ us)) e ∙ behind xs us j

pub token_behind : (xs us : List Token) (j j' : ℕ) → j' ≡ length xs + j → slice_get (xs ++ us) j' ≡ slice_get us j
token_behind xs us j j' e = ap (slice_get (xs ++ us)) e ∙ behind xs us j

pub kind_behind : (xs us : List Token) (j j' : ℕ) → j' ≡ length xs + j → kind_at (xs ++ us) j' ≡ kind_at us j
kind_behind xs us j j' e = ap kind_of (token_behind xs us j j' e)

pub pos_behind : (xs us : List Token) (j j' : ℕ) → j' ≡ length xs + j → pos_at (xs ++ us) j' ≡ pos_at us j
pos_behind xs us j j' e = ap pos_of (token_behind xs us j j' e)

begins_behind : (p : Option TokenKind → Bool) (xs us : List Token) (j j' : ℕ) → j' ≡ length xs + j → Begins p us j → Begins p (xs ++ us) j'
begins_behind p xs us j j' e b = subst (λ o. IsTrue (p o)) (sym (kind_behind xs us j j' e)) b

begins_before : (p : Option TokenKind → Bool) (xs us : List Token) (j j' : ℕ) → j' ≡ length xs + j → Begins p (xs ++ us) j' → Begins p us j
begins_before p xs us j j' e b = subst (λ o. IsTrue (p o)) (kind_behind xs us j j' e) b

-- a relation that goes on so
abbrev pub Moves : {A : Type 0} → Rel A → Type 0
Moves {A} R = (xs us : List Token) (from to : ℕ) (v : A) (from' to' : ℕ) → from' ≡ length xs + from → to' ≡ length xs + to → R us from to v → R (xs ++ us) from' to' v

module _ {A : Type 0} (p : Option TokenKind → Bool) (R : Rel A) (moves : Moves R) where
  run_moved : (vs : List A) (xs us : List Token) (from to from' to' : ℕ) → from' ≡ length xs + from → to' ≡ length xs + to → Run p R us from to vs → Run p R (xs ++ us) from' to' vs
  unfolding Run
  run_moved [] xs us from to from' to' e f r = omega (arith, e, f, r)
  run_moved (v ∷ vs) xs us from to from' to' e f r =
      (begins_behind p xs us from from' e r.0, length xs + r.1, moves xs us from r.1 v from' (length xs + r.1) e refl r.2, run_moved vs xs us r.1 to (length xs + r.1) to' refl f r.3)

  many_moved : (vs : List A) (xs us : List Token) (from to from' to' : ℕ) → from' ≡ length xs + from → to' ≡ length xs + to → Many p R us from to vs → Many p R (xs ++ us) from' to' vs
  many_moved vs xs us from to from' to' e f r = record {
    run = run_moved vs xs us from to from' to' e f r.run;
    over = λ b. r.over (begins_before p xs us to to' f b);
  }

  list_run_moved : (S : Rel A) → Moves S → (vs : List A) (xs us : List Token) (from to from' to' : ℕ) → from' ≡ length xs + from → to' ≡ length xs + to → ListRun S p R us from to vs → ListRun S p R (xs ++ us) from' to' vs
  unfolding ListRun
  list_run_moved S first [] xs us from to from' to' e f r = r
  list_run_moved S first (v ∷ vs) xs us from to from' to' e f r =
      (length xs + r.0, first xs us from r.0 v from' (length xs + r.0) e refl r.1, run_moved vs xs us r.0 to (length xs + r.0) to' refl f r.2)

  listed_moved : (S : Rel A) → Moves S → (vs : List A) (xs us : List Token) (from to from' to' : ℕ) → from' ≡ length xs + from → to' ≡ length xs + to → Listed S p R us from to vs → Listed S p R (xs ++ us) from' to' vs
  listed_moved S first vs xs us from to from' to' e f r = record {
    run = list_run_moved S first vs xs us from to from' to' e f r.run;
    over = λ b. r.over (begins_before p xs us to to' f b);
  }

module _ (i : Inner) (below : (A : Type 0) (x : Name A) → Moves (i A x)) where
  pub moved : {A : Type 0} (g : Form A) (xs us : List Token) (from to : ℕ) (v : A) (from' to' : ℕ) → from' ≡ length xs + from → to' ≡ length xs + to → Spells i g us from to v → Spells i g (xs ++ us) from' to' v
  moved nothing xs us from to v from' to' e f r = r
  moved (empty x) xs us from to v from' to' e f r = (omega (arith, e, f, r.0), r.1)
  moved (skip g) xs us from to v from' to' e f r = moved g xs us (from + 1) to v (from' + 1) to' (omega (arith, e)) f r
  moved (expect t g) xs us from to v from' to' e f r = (kind_behind xs us from from' e ∙ r.0, moved g xs us (from + 1) to v (from' + 1) to' (omega (arith, e)) f r.1)
  moved (token_or t g h) xs us from to v from' to' e f (inl r) = inl (kind_behind xs us from from' e ∙ r.0, moved g xs us (from + 1) to v (from' + 1) to' (omega (arith, e)) f r.1)
  moved (token_or t g h) xs us from to v from' to' e f (inr r) = inr (λ q. r.0 (sym (kind_behind xs us from from' e) ∙ q), moved h xs us from to v from' to' e f r.1)
  moved {A} (look k) xs us from to v from' to' e f r =
      subst (λ (o : Option TokenKind). Spells i (k o) (xs ++ us) from' to' v) (sym (kind_behind xs us from from' e)) (moved (k (kind_at us from)) xs us from to v from' to' e f r)
  moved {A} (here k) xs us from to v from' to' e f r =
      subst (λ (o : Pos). Spells i (k o) (xs ++ us) from' to' v) (sym (pos_behind xs us from from' e)) (moved (k (pos_at us from)) xs us from to v from' to' e f r)
  moved (bind g h) xs us from to v from' to' e f r = record {
    middle = length xs + r.middle;
    left = r.left;
    first = moved g xs us from r.middle r.left from' (length xs + r.middle) e refl r.first;
    second = moved (h r.left) xs us r.middle to v (length xs + r.middle) to' refl f r.second;
  }
  moved (apply h g) xs us from to v from' to' e f r = record {
    inside = r.inside;
    spelled = moved g xs us from to r.inside from' to' e f r.spelled;
    value = r.value;
  }
  moved (many p g) xs us from to v from' to' e f r = many_moved p (Spells i g) (moved g) v xs us from to from' to' e f r
  moved (listed g p h) xs us from to v from' to' e f r = listed_moved p (Spells i h) (moved h) (Spells i g) (moved g) v xs us from to from' to' e f r
  moved {A} (inside x) xs us from to v from' to' e f r = below A x xs us from to v from' to' e f r

inner_moved : (n : ℕ) (A : Type 0) (x : Name A) → Moves (inner n A x)
unfolding inner
inner_moved zero A x xs us from to v from' to' e f r = r
inner_moved (suc n) A x xs us from to v from' to' e f r = moved (inner n) (inner_moved n) (form_of x) xs us from to v from' to' e f r

pub spelled_behind : {A : Type 0} (n : ℕ) (g : Form A) → Moves (Spells (inner n) g)
spelled_behind n g = moved (inner n) (inner_moved n) g
