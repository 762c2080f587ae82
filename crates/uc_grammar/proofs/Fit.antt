-- One piece at one place, of the relations that the readings of a form are built of.
use Rattle.std.proofs.Common.{◌≡◌, ℕ, ◌+◌, ◌≤◌, ◌<◌, List, [], ◌∷◌, ◌++◌, Bool, Option, IsTrue, refl, sym, ◌∙◌, ap, subst, inl, inr, arith}
use Rattle.uc_tree.specs.declared.pos.Pos.{Pos}
use Rattle.uc_tree.specs.declared.token.Token.{Token}
use Rattle.uc_tree.specs.declared.token.TokenKind.{TokenKind}
use Rattle.uc_grammar.specs.Spell.{kind_of, pos_of, kind_at, pos_at, Rel, Nothing, Empty, Skip, Expect, TokenOr, Look, Here, Bind, Map, Begins, Run, Many, ListRun, Listed, Same}

-- Two relations, as one form at two depths: from one place they spell at most one piece, and what stands after the token
-- behind the piece does not matter.
pub record Fit {A : Type 0} (R R' : Rel A) : Type 0 where
  pub agrees : (ts : List Token) (from to1 to2 : ℕ) (v1 v2 : A) → R ts from to1 v1 → R' ts from to2 v2 → (to1 ≡ to2) × (v1 ≡ v2)
  pub local : (ts us : List Token) (from to : ℕ) (v : A) → Same (to + 1) ts us → R ts from to v → R us from to v
  pub grows : (ts : List Token) (from to : ℕ) (v : A) → R ts from to v → from ≤ to

pub fewer_same : (j k : ℕ) (ts us : List Token) → j ≤ k → Same (k + 1) ts us → Same (j + 1) ts us
fewer_same j k ts us le same = λ i h. same i (omega arith)

pub same_back : (k : ℕ) (ts us : List Token) → Same k ts us → Same k us ts
same_back k ts us same = λ i h. sym (same i h)

pub same_kind : (k at : ℕ) (ts us : List Token) → at < k → Same k ts us → kind_at ts at ≡ kind_at us at
same_kind k at ts us lt same = ap kind_of (same at lt)

pub same_pos : (k at : ℕ) (ts us : List Token) → at < k → Same k ts us → pos_at ts at ≡ pos_at us at
same_pos k at ts us lt same = ap pos_of (same at lt)

pub same_begins : (p : Option TokenKind → Bool) (k at : ℕ) (ts us : List Token) → at < k → Same k ts us → Begins p ts at → Begins p us at
same_begins p k at ts us lt same b = subst (λ o. IsTrue (p o)) (same_kind k at ts us lt same) b

pub fit_nothing : {A : Type 0} → Fit {A = A} Nothing Nothing
fit_nothing = record {
  agrees = λ ts from to1 to2 v1 v2 r s. absurd r;
  local = λ ts us from to v same r. absurd r;
  grows = λ ts from to v r. absurd r;
}

pub fit_empty : {A : Type 0} (x : A) → Fit (Empty x) (Empty x)
fit_empty x = record {
  agrees = λ ts from to1 to2 v1 v2 r s. (r.0 ∙ sym s.0, r.1 ∙ sym s.1);
  local = λ ts us from to v same r. r;
  grows = λ ts from to v r. omega (arith, r.0);
}

pub fit_skip : {A : Type 0} {R R' : Rel A} → Fit R R' → Fit (Skip R) (Skip R')
fit_skip f = record {
  agrees = λ ts from to1 to2 v1 v2 r s. f.agrees ts (from + 1) to1 to2 v1 v2 r s;
  local = λ ts us from to v same r. f.local ts us (from + 1) to v same r;
  grows = λ ts from to v r. omega (arith, f.grows ts (from + 1) to v r);
}

pub fit_expect : {A : Type 0} (t : TokenKind) {R R' : Rel A} → Fit R R' → Fit (Expect t R) (Expect t R')
fit_expect t f = record {
  agrees = λ ts from to1 to2 v1 v2 r s. f.agrees ts (from + 1) to1 to2 v1 v2 r.1 s.1;
  local = λ ts us from to v same r.
      let le = f.grows ts (from + 1) to v r.1 in
      (sym (same_kind (to + 1) from ts us (omega arith) same) ∙ r.0, f.local ts us (from + 1) to v same r.1);
  grows = λ ts from to v r. omega (arith, f.grows ts (from + 1) to v r.1);
}

module _ {A : Type 0} (t : TokenKind) (R R' S S' : Rel A) (f : Fit R R') (g : Fit S S') where
  or_agrees : (ts : List Token) (from to1 to2 : ℕ) (v1 v2 : A) → TokenOr t R S ts from to1 v1 → TokenOr t R' S' ts from to2 v2 → (to1 ≡ to2) × (v1 ≡ v2)
  or_agrees ts from to1 to2 v1 v2 (inl r) (inl s) = f.agrees ts (from + 1) to1 to2 v1 v2 r.1 s.1
  or_agrees ts from to1 to2 v1 v2 (inl r) (inr s) = absurd (s.0 r.0)
  or_agrees ts from to1 to2 v1 v2 (inr r) (inl s) = absurd (r.0 s.0)
  or_agrees ts from to1 to2 v1 v2 (inr r) (inr s) = g.agrees ts from to1 to2 v1 v2 r.1 s.1

  or_grows : (ts : List Token) (from to : ℕ) (v : A) → TokenOr t R S ts from to v → from ≤ to
  or_grows ts from to v (inl r) = omega (arith, f.grows ts (from + 1) to v r.1)
  or_grows ts from to v (inr r) = g.grows ts from to v r.1

  or_local : (ts us : List Token) (from to : ℕ) (v : A) → from ≤ to → Same (to + 1) ts us → TokenOr t R S ts from to v → TokenOr t R S us from to v
  or_local ts us from to v le same (inl r) = inl (sym (same_kind (to + 1) from ts us (omega arith) same) ∙ r.0, f.local ts us (from + 1) to v same r.1)
  or_local ts us from to v le same (inr r) = inr (λ e. r.0 (same_kind (to + 1) from ts us (omega arith) same ∙ e), g.local ts us from to v same r.1)

  pub fit_token_or : Fit (TokenOr t R S) (TokenOr t R' S')
  fit_token_or = record {
    agrees = or_agrees;
    local = λ ts us from to v same r. or_local ts us from to v (or_grows ts from to v r) same r;
    grows = or_grows;
  }

pub fit_look : {A : Type 0} (k k' : Option TokenKind → Rel A) → ((o : Option TokenKind) → Fit (k o) (k' o)) → Fit (Look k) (Look k')
fit_look k k' f = record {
  agrees = λ ts from to1 to2 v1 v2 r s. (f (kind_at ts from)).agrees ts from to1 to2 v1 v2 r s;
  local = λ ts us from to v same r.
      let le = (f (kind_at ts from)).grows ts from to v r in
      subst (λ o. k o us from to v) (same_kind (to + 1) from ts us (omega arith) same) ((f (kind_at ts from)).local ts us from to v same r);
  grows = λ ts from to v r. (f (kind_at ts from)).grows ts from to v r;
}

pub fit_here : {A : Type 0} (k k' : Pos → Rel A) → ((p : Pos) → Fit (k p) (k' p)) → Fit (Here k) (Here k')
fit_here k k' f = record {
  agrees = λ ts from to1 to2 v1 v2 r s. (f (pos_at ts from)).agrees ts from to1 to2 v1 v2 r s;
  local = λ ts us from to v same r.
      let le = (f (pos_at ts from)).grows ts from to v r in
      subst (λ p. k p us from to v) (same_pos (to + 1) from ts us (omega arith) same) ((f (pos_at ts from)).local ts us from to v same r);
  grows = λ ts from to v r. (f (pos_at ts from)).grows ts from to v r;
}

pub moved : {A B : Type 0} (S : A → Rel B) (ts : List Token) (m1 m2 to : ℕ) (a1 a2 : A) (v : B) → m1 ≡ m2 → a1 ≡ a2 → S a2 ts m2 to v → S a1 ts m1 to v
moved S ts m1 m2 to a1 a2 v e d s = subst (λ m. S a1 ts m to v) (sym e) (subst (λ a. S a ts m2 to v) (sym d) s)

pub fit_bind : {A B : Type 0} {R R' : Rel A} (S S' : A → Rel B) → Fit R R' → ((a : A) → Fit (S a) (S' a)) → Fit (Bind R S) (Bind R' S')
fit_bind S S' f g = record {
  agrees = λ ts from to1 to2 v1 v2 r s.
      let e = f.agrees ts from r.middle s.middle r.left s.left r.first s.first in
      (g r.left).agrees ts r.middle to1 to2 v1 v2 r.second (moved S' ts r.middle s.middle to2 r.left s.left v2 e.0 e.1 s.second);
  local = λ ts us from to v same r.
      let le = (g r.left).grows ts r.middle to v r.second in
      record {
        middle = r.middle;
        left = r.left;
        first = f.local ts us from r.middle r.left (fewer_same r.middle to ts us le same) r.first;
        second = (g r.left).local ts us r.middle to v same r.second;
      };
  grows = λ ts from to v r. omega (arith, f.grows ts from r.middle r.left r.first, (g r.left).grows ts r.middle to v r.second);
}

pub fit_map : {A B : Type 0} (h : A → B) {R R' : Rel A} → Fit R R' → Fit (Map h R) (Map h R')
fit_map h f = record {
  agrees = λ ts from to1 to2 v1 v2 r s.
      let e = f.agrees ts from to1 to2 r.inside s.inside r.spelled s.spelled in
      (e.0, r.value ∙ ap h e.1 ∙ sym s.value);
  local = λ ts us from to v same r. record { inside = r.inside; spelled = f.local ts us from to r.inside same r.spelled; value = r.value };
  grows = λ ts from to v r. f.grows ts from to r.inside r.spelled;
}

module _ {A : Type 0} (p : Option TokenKind → Bool) (R R' : Rel A) (f : Fit R R') where
  pub run_agrees : (ts : List Token) (from to1 to2 : ℕ) (xs ys : List A) → Run p R ts from to1 xs → (Begins p ts to1 → ⊥) → Run p R' ts from to2 ys → (Begins p ts to2 → ⊥) → (to1 ≡ to2) × (xs ≡ ys)
  unfolding Run
  run_agrees ts from to1 to2 [] [] r over s done = (r ∙ sym s, refl)
  run_agrees ts from to1 to2 [] (y ∷ ys) r over s done = absurd (over (subst (Begins p ts) (sym r) s.0))
  run_agrees ts from to1 to2 (x ∷ xs) [] r over s done = absurd (done (subst (Begins p ts) (sym s) r.0))
  run_agrees ts from to1 to2 (x ∷ xs) (y ∷ ys) r over s done =
      let e = f.agrees ts from r.1 s.1 x y r.2 s.2 in
      let rest = run_agrees ts r.1 to1 to2 xs ys r.3 over (subst (λ m. Run p R' ts m to2 ys) (sym e.0) s.3) done in
      (rest.0, ap (λ z. z ∷ xs) e.1 ∙ ap (λ zs. y ∷ zs) rest.1)

  pub run_grows : (ts : List Token) (from to : ℕ) (xs : List A) → Run p R ts from to xs → from ≤ to
  unfolding Run
  run_grows ts from to [] r = omega (arith, r)
  run_grows ts from to (x ∷ xs) r = omega (arith, f.grows ts from r.1 x r.2, run_grows ts r.1 to xs r.3)

  pub run_local : (ts us : List Token) (from to : ℕ) (xs : List A) → Same (to + 1) ts us → Run p R ts from to xs → Run p R us from to xs
  unfolding Run
  run_local ts us from to [] same r = r
  run_local ts us from to (x ∷ xs) same r =
      let le = f.grows ts from r.1 x r.2 in
      let le' = run_grows ts r.1 to xs r.3 in
      (same_begins p (to + 1) from ts us (omega arith) same r.0, r.1, f.local ts us from r.1 x (fewer_same r.1 to ts us le' same) r.2, run_local ts us r.1 to xs same r.3)

  pub fit_many : Fit (Many p R) (Many p R')
  fit_many = record {
    agrees = λ ts from to1 to2 v1 v2 r s. run_agrees ts from to1 to2 v1 v2 r.run r.over s.run s.over;
    local = λ ts us from to v same r. record {
      run = run_local ts us from to v same r.run;
      over = λ b. r.over (same_begins p (to + 1) to us ts (omega arith) (same_back (to + 1) ts us same) b);
    };
    grows = λ ts from to v r. run_grows ts from to v r.run;
  }

module _ {A : Type 0} (p : Option TokenKind → Bool) (R R' S S' : Rel A) (f : Fit R R') (g : Fit S S') where
  list_agrees : (ts : List Token) (from to1 to2 : ℕ) (xs ys : List A) → ListRun R p S ts from to1 xs → (Begins p ts to1 → ⊥) → ListRun R' p S' ts from to2 ys → (Begins p ts to2 → ⊥) → (to1 ≡ to2) × (xs ≡ ys)
  unfolding ListRun
  list_agrees ts from to1 to2 [] ys r over s done = absurd r
  list_agrees ts from to1 to2 (x ∷ xs) [] r over s done = absurd s
  list_agrees ts from to1 to2 (x ∷ xs) (y ∷ ys) r over s done =
      let e = f.agrees ts from r.0 s.0 x y r.1 s.1 in
      let rest = run_agrees p S S' g ts r.0 to1 to2 xs ys r.2 over (subst (λ m. Run p S' ts m to2 ys) (sym e.0) s.2) done in
      (rest.0, ap (λ z. z ∷ xs) e.1 ∙ ap (λ zs. y ∷ zs) rest.1)

  pub list_grows : (ts : List Token) (from to : ℕ) (xs : List A) → ListRun R p S ts from to xs → from ≤ to
  unfolding ListRun
  list_grows ts from to [] r = absurd r
  list_grows ts from to (x ∷ xs) r = omega (arith, f.grows ts from r.0 x r.1, run_grows p S S' g ts r.0 to xs r.2)

  list_local : (ts us : List Token) (from to : ℕ) (xs : List A) → Same (to + 1) ts us → ListRun R p S ts from to xs → ListRun R p S us from to xs
  unfolding ListRun
  list_local ts us from to [] same r = r
  list_local ts us from to (x ∷ xs) same r =
      let le = run_grows p S S' g ts r.0 to xs r.2 in
      (r.0, f.local ts us from r.0 x (fewer_same r.0 to ts us le same) r.1, run_local p S S' g ts us r.0 to xs same r.2)

  pub fit_listed : Fit (Listed R p S) (Listed R' p S')
  fit_listed = record {
    agrees = λ ts from to1 to2 v1 v2 r s. list_agrees ts from to1 to2 v1 v2 r.run r.over s.run s.over;
    local = λ ts us from to v same r. record {
      run = list_local ts us from to v same r.run;
      over = λ b. r.over (same_begins p (to + 1) to us ts (omega arith) (same_back (to + 1) ts us same) b);
    };
    grows = λ ts from to v r. list_grows ts from to v r.run;
  }

-- one more
pub run_more : {A : Type 0} (p : Option TokenKind → Bool) (R : Rel A) (ts : List Token) (from at to : ℕ) (xs : List A) (x : A) → Run p R ts from at xs → Begins p ts at → R ts at to x → Run p R ts from to (xs ++ x ∷ [])
unfolding Run
run_more p R ts from at to [] x r b s =
    (subst (Begins p ts) r b, to, subst (λ m. R ts m to x) r s, refl)
run_more p R ts from at to (y ∷ ys) x r b s = (r.0, r.1, r.2, run_more p R ts r.1 at to ys x r.3 b s)

pub list_more : {A : Type 0} (R : Rel A) (p : Option TokenKind → Bool) (S : Rel A) (ts : List Token) (from at to : ℕ) (xs : List A) (x : A) → ListRun R p S ts from at xs → Begins p ts at → S ts at to x → ListRun R p S ts from to (xs ++ x ∷ [])
unfolding ListRun
list_more R p S ts from at to [] x r b s = absurd r
list_more R p S ts from at to (y ∷ ys) x r b s = (r.0, r.1, run_more p S ts r.0 at to ys x r.2 b s)
