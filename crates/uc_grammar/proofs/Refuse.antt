-- What is refused later on is refused as a whole, of the relations that the readings of a form are built of.
use Rattle.std.proofs.Common.{◌≡◌, ℕ, ◌+◌, ◌≤◌, List, [], ◌∷◌, Bool, Option, Some, refl, sym, ◌∙◌, subst, inl, inr, arith}
use Rattle.uc_tree.specs.declared.pos.Pos.{Pos}
use Rattle.uc_tree.specs.declared.token.Token.{Token}
use Rattle.uc_tree.specs.declared.token.TokenKind.{TokenKind}
use Rattle.uc_grammar.specs.declared.fault.ParseFault.{ParseFault}
use Rattle.uc_grammar.specs.declared.fault.ParseFault.TheVariants.{Syntax, TooDeep, NoMemory}
use Rattle.uc_grammar.specs.Spell.{kind_at, pos_at, Rel, Nothing, Skip, Expect, TokenOr, Look, Here, Bind, Map, Begins, Run, Many, ListRun, Listed, Same, Why, Refused}
use Rattle.uc_grammar.proofs.Fit.{Fit, fewer_same, same_kind, same_pos, same_begins, moved}

-- What is refused later on is refused as a whole, where every whole has such a part.
why : {A B : Type 0} (F : ℕ → Rel A) (G : ℕ → Rel B) (room : ℕ) (ts : List Token) (from at : ℕ) (f : ParseFault) → from ≤ at → ((n : ℕ) (us : List Token) (to : ℕ) (v : B) → Same (at + 1) ts us → G n us from to v → (to' : ℕ) × (v' : A) × F n us at to' v') → Why F room ts at f → Why G room ts from f
why F G room ts from at (Syntax p) le h r =
    let le' = r.0 in
    (omega arith, λ n us to v same g. let w = h n us to v (fewer_same at p ts us le' same) g in r.1 n us w.0 w.1 same w.2)
why F G room ts from at (TooDeep k) le h r =
    (omega (arith, r.0), λ to v g. let w = h room ts to v (λ i lt. refl) g in r.1 w.0 w.1 w.2)
why F G room ts from at NoMemory le h r = tt

pub refuse : {A B : Type 0} (F : ℕ → Rel A) (G : ℕ → Rel B) (room : ℕ) (ts : List Token) (from at : ℕ) (f : ParseFault) → from ≤ at → ((n : ℕ) (us : List Token) (to : ℕ) (v : B) → Same (at + 1) ts us → G n us from to v → (to' : ℕ) × (v' : A) × F n us at to' v') → Refused F room ts at f → Refused G room ts from f
refuse F G room ts from at f le h r = record { why = why F G room ts from at f le h r.why }

module _ (room : ℕ) (ts : List Token) (from : ℕ) (f : ParseFault) where
  pub refused_skip : {A : Type 0} (F : ℕ → Rel A) → Refused F room ts (from + 1) f → Refused (λ n. Skip (F n)) room ts from f
  refused_skip F = refuse F (λ n. Skip (F n)) room ts from (from + 1) f (omega arith) (λ n us to v same g. (to, v, g))

  pub refused_expect : {A : Type 0} (t : TokenKind) (F : ℕ → Rel A) → Refused F room ts (from + 1) f → Refused (λ n. Expect t (F n)) room ts from f
  refused_expect t F = refuse F (λ n. Expect t (F n)) room ts from (from + 1) f (omega arith) (λ n us to v same g. (to, v, g.1))

  pub refused_map : {A B : Type 0} (h : A → B) (F : ℕ → Rel A) → Refused F room ts from f → Refused (λ n. Map h (F n)) room ts from f
  refused_map h F = refuse F (λ n. Map h (F n)) room ts from from f (omega arith) (λ n us to v same g. (to, g.inside, g.spelled))

  pub refused_look : {A : Type 0} (k : ℕ → Option TokenKind → Rel A) → Refused (λ n. k n (kind_at ts from)) room ts from f → Refused (λ n. Look (k n)) room ts from f
  refused_look k = refuse (λ n. k n (kind_at ts from)) (λ n. Look (k n)) room ts from from f (omega arith) (λ n us to v same g. (to, v, subst (λ q. k n q us from to v) (sym (same_kind (from + 1) from ts us (omega arith) same)) g))

  pub refused_here : {A : Type 0} (k : ℕ → Pos → Rel A) → Refused (λ n. k n (pos_at ts from)) room ts from f → Refused (λ n. Here (k n)) room ts from f
  refused_here k = refuse (λ n. k n (pos_at ts from)) (λ n. Here (k n)) room ts from from f (omega arith) (λ n us to v same g. (to, v, subst (λ q. k n q us from to v) (sym (same_pos (from + 1) from ts us (omega arith) same)) g))

  pub refused_first : {A B : Type 0} (F : ℕ → Rel A) (S : ℕ → A → Rel B) → Refused F room ts from f → Refused (λ n. Bind (F n) (S n)) room ts from f
  refused_first F S = refuse F (λ n. Bind (F n) (S n)) room ts from from f (omega arith) (λ n us to v same g. (g.middle, g.left, g.first))

  pub refused_second : {A B : Type 0} (F : ℕ → Rel A) (S : ℕ → A → Rel B) (at : ℕ) (a : A) → ((n : ℕ) → Fit (F room) (F n)) → F room ts from at a → Refused (λ n. S n a) room ts at f → Refused (λ n. Bind (F n) (S n)) room ts from f
  refused_second F S at a fit found =
      refuse (λ n. S n a) (λ n. Bind (F n) (S n)) room ts from at f ((fit room).grows ts from at a found) (λ n us to v same g.
      let e = (fit n).agrees us from at g.middle a g.left ((fit n).local ts us from at a same found) g.first in
      (to, v, moved (S n) us at g.middle to a g.left v e.0 e.1 g.second))

module _ {A : Type 0} (t : TokenKind) (F G : ℕ → Rel A) (room : ℕ) (ts : List Token) (from : ℕ) (f : ParseFault) where
  pub refused_there : kind_at ts from ≡ Some t → Refused F room ts (from + 1) f → Refused (λ n. TokenOr t (F n) (G n)) room ts from f
  refused_there is = refuse F (λ n. TokenOr t (F n) (G n)) room ts from (from + 1) f (omega arith) (λ n us to v same g. one n us to v (sym (same_kind (from + 1 + 1) from ts us (omega arith) same) ∙ is) g)
    where
      one : (n : ℕ) (us : List Token) (to : ℕ) (v : A) → kind_at us from ≡ Some t → TokenOr t (F n) (G n) us from to v → (to' : ℕ) × (v' : A) × F n us (from + 1) to' v'
      one n us to v there (inl r) = (to, v, r.1)
      one n us to v there (inr r) = absurd (r.0 there)

  pub refused_else : (kind_at ts from ≡ Some t → ⊥) → Refused G room ts from f → Refused (λ n. TokenOr t (F n) (G n)) room ts from f
  refused_else other = refuse G (λ n. TokenOr t (F n) (G n)) room ts from from f (omega arith) (λ n us to v same g. one n us to v (λ e. other (same_kind (from + 1) from ts us (omega arith) same ∙ e)) g)
    where
      one : (n : ℕ) (us : List Token) (to : ℕ) (v : A) → (kind_at us from ≡ Some t → ⊥) → TokenOr t (F n) (G n) us from to v → (to' : ℕ) × (v' : A) × G n us from to' v'
      one n us to v there (inl r) = absurd (there r.0)
      one n us to v there (inr r) = (to, v, r.1)

pub refused_nothing : {A : Type 0} (room : ℕ) (ts : List Token) (from : ℕ) → Refused {A = A} (λ n. Nothing) room ts from (Syntax from)
refused_nothing room ts from = record { why = (omega arith, λ n us to v same g. g) }

pub refused_token : {A : Type 0} (t : TokenKind) (F : ℕ → Rel A) (room : ℕ) (ts : List Token) (from : ℕ) → (kind_at ts from ≡ Some t → ⊥) → Refused (λ n. Expect t (F n)) room ts from (Syntax from)
refused_token t F room ts from other = record { why = (omega arith, λ n us to v same g. other (same_kind (from + 1) from ts us (omega arith) same ∙ g.0)) }

-- Another one begins, and is refused.
pub refused_many : {A : Type 0} (p : Option TokenKind → Bool) (F : ℕ → Rel A) (room : ℕ) (ts : List Token) (from at : ℕ) (xs : List A) (f : ParseFault) → ((n : ℕ) → Fit (F room) (F n)) → Run p (F room) ts from at xs → Begins p ts at → Refused F room ts at f → Refused (λ n. Many p (F n)) room ts from f
unfolding Run
refused_many {A} p F room ts from at [] f fit run b r =
    refuse F (λ n. Many p (F n)) room ts from at f (omega (arith, run)) (λ n us to v same g. one n us to v same g.run g.over) r
  where
    one : (n : ℕ) (us : List Token) (to : ℕ) (v : List A) → Same (at + 1) ts us → Run p (F n) us from to v → (Begins p us to → ⊥) → (to' : ℕ) × (v' : A) × F n us at to' v'
    one n us to [] same g over = absurd (over (subst (Begins p us) (run ∙ sym g) (same_begins p (at + 1) at ts us (omega arith) same b)))
    one n us to (y ∷ ys) same g over = (g.1, y, subst (λ m. F n us m g.1 y) (sym run) g.2)
refused_many {A} p F room ts from at (x ∷ xs) f fit run b r =
    refuse (λ n. Many p (F n)) (λ n. Many p (F n)) room ts from run.1 f ((fit room).grows ts from run.1 x run.2) (λ n us to v same g. one n us to v same g.run g.over) (refused_many p F room ts run.1 at xs f fit run.3 b r)
  where
    one : (n : ℕ) (us : List Token) (to : ℕ) (v : List A) → Same (run.1 + 1) ts us → Run p (F n) us from to v → (Begins p us to → ⊥) → (to' : ℕ) × (v' : List A) × Many p (F n) us run.1 to' v'
    one n us to [] same g over =
        let le = (fit room).grows ts from run.1 x run.2 in
        absurd (over (subst (Begins p us) (sym g) (same_begins p (run.1 + 1) from ts us (omega arith) same run.0)))
    one n us to (y ∷ ys) same g over =
        let e = (fit n).agrees us from run.1 g.1 x y ((fit n).local ts us from run.1 x same run.2) g.2 in
        (to, ys, record { run = subst (λ m. Run p (F n) us m to ys) (sym e.0) g.3; over = over })

-- The first of a list is refused.
pub refused_list_first : {A : Type 0} (F : ℕ → Rel A) (p : Option TokenKind → Bool) (G : ℕ → Rel A) (room : ℕ) (ts : List Token) (from : ℕ) (f : ParseFault) → Refused F room ts from f → Refused (λ n. Listed (F n) p (G n)) room ts from f
unfolding ListRun
refused_list_first {A} F p G room ts from f =
    refuse F (λ n. Listed (F n) p (G n)) room ts from from f (omega arith) (λ n us to v same g. one n us to v g.run)
  where
    one : (n : ℕ) (us : List Token) (to : ℕ) (v : List A) → ListRun (F n) p (G n) us from to v → (to' : ℕ) × (v' : A) × F n us from to' v'
    one n us to [] g = absurd g
    one n us to (y ∷ ys) g = (g.0, y, g.1)

-- Another one begins, and is refused.
pub refused_listed : {A : Type 0} (F : ℕ → Rel A) (p : Option TokenKind → Bool) (G : ℕ → Rel A) (room : ℕ) (ts : List Token) (from at : ℕ) (xs : List A) (f : ParseFault) → ((n : ℕ) → Fit (F room) (F n)) → ((n : ℕ) → Fit (G room) (G n)) → ListRun (F room) p (G room) ts from at xs → Begins p ts at → Refused G room ts at f → Refused (λ n. Listed (F n) p (G n)) room ts from f
unfolding ListRun
refused_listed {A} F p G room ts from at [] f fit fit' run b r = absurd run
refused_listed {A} F p G room ts from at (x ∷ xs) f fit fit' run b r =
    refuse (λ n. Many p (G n)) (λ n. Listed (F n) p (G n)) room ts from run.0 f ((fit room).grows ts from run.0 x run.1) (λ n us to v same g. one n us to v same g.run g.over) (refused_many p G room ts run.0 at xs f fit' run.2 b r)
  where
    one : (n : ℕ) (us : List Token) (to : ℕ) (v : List A) → Same (run.0 + 1) ts us → ListRun (F n) p (G n) us from to v → (Begins p us to → ⊥) → (to' : ℕ) × (v' : List A) × Many p (G n) us run.0 to' v'
    one n us to [] same g over = absurd g
    one n us to (y ∷ ys) same g over =
        let e = (fit n).agrees us from run.0 g.0 x y ((fit n).local ts us from run.0 x same run.1) g.1 in
        (to, ys, record { run = subst (λ m. Run p (G n) us m to ys) (sym e.0) g.2; over = over })
