-- A plain reader: it reads a form from left to right, and answers the piece or the fault. It serves the examples, whose
-- pieces and faults are computed by it.
use Rattle.std.proofs.Common.{◌≡◌, ℕ, zero, suc, ◌+◌, List, [], ◌∷◌, ◌++◌, length, Bool, true, false, Option, Some, refl, sym, ◌∙◌, subst, inl, inr, append_assoc}
use Rattle.std.proofs.lemmas.List.{append-nil}
use Rattle.std.specs.Bool.{Decides}
use Rattle.uc_tree.specs.declared.token.Token.{Token}
use Rattle.uc_tree.specs.declared.token.TokenKind.{TokenKind}
use Rattle.uc_grammar.specs.declared.fault.ParseFault.{ParseFault}
use Rattle.uc_grammar.specs.declared.fault.ParseFault.TheVariants.{Syntax, TooDeep, NoMemory}
use Rattle.uc_grammar.specs.Names.{Name}
use Rattle.uc_grammar.specs.Spell.{kind_at, pos_at, Rel, Begins, Run, ListRun}
use Rattle.uc_grammar.specs.Form.{Form, nothing, empty, skip, expect, token_or, look, here, bind, apply, many, listed, inside, Spells, Fails}
use Rattle.uc_grammar.specs.Grammar.{form_of, inner, faults}
use Rattle.uc_tree.specs.declared.pos.Pos.{Pos}
use Rattle.uc_grammar.proofs.Fit.{run_more, list_more}
use Rattle.uc_grammar.proofs.SameTokens.{is_next, next_decided}

-- a piece and the place behind it, or a fault
pub data Reading (A : Type 0) : Type 0 where
  Found : ℕ → A → Reading A
  Failed : ParseFault → Reading A

abbrev pub Reader : Type 1
Reader = (A : Type 0) → Name A → List Token → ℕ → Reading A

abbrev pub map_reading : {A B : Type 0} → (A → B) → Reading A → Reading B
map_reading f (Found to v) = Found to (f v)
map_reading f (Failed e) = Failed e

-- what is read next, where the first was read
abbrev pub next_reading : {A B : Type 0} → Reading A → (ℕ → A → Reading B) → Reading B
next_reading (Found to v) k = k to v
next_reading (Failed e) k = Failed e

abbrev pub if_reading : {A : Type 0} → Bool → Reading A → Reading A → Reading A
if_reading true r s = r
if_reading false r s = s

-- one after the other, so many times at most
unfoldable pub read_run : {A : Type 0} → ℕ → (Option TokenKind → Bool) → (List Token → ℕ → Reading A) → List Token → ℕ → Reading (List A)
read_run zero p r ts from = Failed NoMemory
read_run (suc n) p r ts from = elim (p (kind_at ts from)) [
  | true ↦ next_reading (r ts from) (λ at x. map_reading (λ xs. x ∷ xs) (read_run n p r ts at))
  | false ↦ Found from []
]

unfoldable pub read : {A : Type 0} → Reader → Form A → List Token → ℕ → Reading A
read i nothing ts from = Failed (Syntax from)
read i (empty x) ts from = Found from x
read i (skip g) ts from = read i g ts (from + 1)
read i (expect t g) ts from = elim (is_next (kind_at ts from) t) [ true ↦ read i g ts (from + 1) | false ↦ Failed (Syntax from) ]
read i (token_or t g h) ts from = elim (is_next (kind_at ts from) t) [ true ↦ read i g ts (from + 1) | false ↦ read i h ts from ]
read i (look k) ts from = read i (k (kind_at ts from)) ts from
read i (here k) ts from = read i (k (pos_at ts from)) ts from
read i (bind g h) ts from = next_reading (read i g ts from) (λ at a. read i (h a) ts at)
read i (apply f g) ts from = map_reading f (read i g ts from)
read i (many p g) ts from = read_run (length ts + 1) p (read i g) ts from
read i (listed g p h) ts from = next_reading (read i g ts from) (λ at x. map_reading (λ xs. x ∷ xs) (read_run (length ts + 1) p (read i h) ts at))
read {A} i (inside x) ts from = i A x ts from

unfoldable pub reader : ℕ → Reader
reader zero A x ts from = Failed (TooDeep from)
reader (suc n) A x ts from = read (reader n) (form_of x) ts from

-- What is read is so: the piece is spelled there, or the form fails there with that fault.
abbrev pub Sound : {A : Type 0} → (ℕ → A → Type 0) → (ParseFault → Type 0) → Reading A → Type 0
Sound R E (Found to v) = R to v
Sound R E (Failed f) = E f

-- the loop, from what was read before: `Before at xs` says that
abbrev pub RunSound : {A : Type 0} → (Option TokenKind → Bool) → List Token → (ℕ → List A → Type 0) → (ParseFault → Type 0) → List A → Reading (List A) → Type 0
RunSound p ts Before Bad xs q = Sound (λ to ys. Before to (xs ++ ys) × (Begins p ts to → ⊥)) Bad q

module _ {A : Type 0} (p : Option TokenKind → Bool) (r : List Token → ℕ → Reading A) (ts : List Token) (R : ℕ → ℕ → A → Type 0) (E : ℕ → ParseFault → Type 0) (sound : (at : ℕ) → Sound (R at) (E at) (r ts at)) (Before : ℕ → List A → Type 0) (Bad : ParseFault → Type 0) (step : (at to : ℕ) (xs : List A) (x : A) → Before at xs → Begins p ts at → R at to x → Before to (xs ++ x ∷ [])) (bad : (at : ℕ) (xs : List A) (f : ParseFault) → Before at xs → Begins p ts at → E at f → Bad f) (refused : Bad NoMemory) where
  one_more : (xs : List A) (x : A) (q : Reading (List A)) → RunSound p ts Before Bad (xs ++ x ∷ []) q → RunSound p ts Before Bad xs (map_reading (λ ys. x ∷ ys) q)
  one_more xs x (Found to ys) s = (subst (Before to) (append_assoc xs (x ∷ []) ys) s.0, s.1)
  one_more xs x (Failed f) s = s

  first : (at : ℕ) (xs : List A) → Before at xs → Begins p ts at → (q : Reading A) → Sound (R at) (E at) q → (k : ℕ → A → Reading (List A)) → ((to : ℕ) (x : A) → Before to (xs ++ x ∷ []) → RunSound p ts Before Bad xs (k to x)) → RunSound p ts Before Bad xs (next_reading q k)
  first at xs before b (Found to x) s k h = h to x (step at to xs x before b s)
  first at xs before b (Failed f) s k h = bad at xs f before b s

  one_turn : (b : Bool) (at : ℕ) (xs : List A) (k : ℕ → Reading (List A)) → p (kind_at ts at) ≡ b → Before at xs → ((to : ℕ) (x : A) → Before to (xs ++ x ∷ []) → RunSound p ts Before Bad (xs ++ x ∷ []) (k to)) → RunSound p ts Before Bad xs (elim b [ true ↦ next_reading (r ts at) (λ to x. map_reading (λ ys. x ∷ ys) (k to)) | false ↦ Found at [] ])
  one_turn true at xs k e before h = first at xs before e (r ts at) (sound at) (λ to x. map_reading (λ ys. x ∷ ys) (k to)) (λ to x now. one_more xs x (k to) (h to x now))
  one_turn false at xs k e before h = (subst (Before at) (sym (append-nil xs)) before, λ b. let c : false ≡ true = sym e ∙ b in cc)

  pub run_sound : (n at : ℕ) (xs : List A) → Before at xs → RunSound p ts Before Bad xs (read_run n p r ts at)
  unfolding read_run
  run_sound zero at xs before = refused
  run_sound (suc n) at xs before = one_turn (p (kind_at ts at)) at xs (λ to. read_run n p r ts to) refl before (λ to x now. run_sound n to (xs ++ x ∷ []) now)

module _ (n : ℕ) (below : (A : Type 0) (x : Name A) (ts : List Token) (from : ℕ) → Sound (inner n A x ts from) (faults n A x ts from) (reader n A x ts from)) where
  abbrev S : {A : Type 0} → Form A → Rel A
  S g = Spells (inner n) g

  abbrev E : {A : Type 0} → Form A → List Token → ℕ → ParseFault → Type 0
  E g ts from f = Fails (inner n) (faults n) g ts from f

  expected : {A : Type 0} (t : TokenKind) (g : Form A) (ts : List Token) (from : ℕ) (b : Bool) → Decides b (kind_at ts from ≡ Some t) → (q : Reading A) → Sound (S g ts (from + 1)) (E g ts (from + 1)) q → Sound (S (expect t g) ts from) (E (expect t g) ts from) (elim b [ true ↦ q | false ↦ Failed (Syntax from) ])
  expected t g ts from true d (Found to v) s = (d.0 refl, s)
  expected t g ts from true d (Failed f) s = inr (inl (d.0 refl, s))
  expected t g ts from false d q s = inl (refl, λ e. let c = d.1 e in cc)

  chosen : {A : Type 0} (t : TokenKind) (g h : Form A) (ts : List Token) (from : ℕ) (b : Bool) → Decides b (kind_at ts from ≡ Some t) → (q r : Reading A) → Sound (S g ts (from + 1)) (E g ts (from + 1)) q → Sound (S h ts from) (E h ts from) r → Sound (S (token_or t g h) ts from) (E (token_or t g h) ts from) (elim b [ true ↦ q | false ↦ r ])
  chosen t g h ts from true d (Found to v) r s s' = inl (d.0 refl, s)
  chosen t g h ts from true d (Failed f) r s s' = inl (d.0 refl, s)
  chosen t g h ts from false d q (Found to v) s s' = inr (λ e. let c = d.1 e in cc, s')
  chosen t g h ts from false d q (Failed f) s s' = inr (λ e. let c = d.1 e in cc, s')

  second : {A B : Type 0} (g : Form A) (h : A → Form B) (ts : List Token) (from at : ℕ) (a : A) → S g ts from at a → (q : Reading B) → Sound (S (h a) ts at) (E (h a) ts at) q → Sound (S (bind g h) ts from) (E (bind g h) ts from) q
  second g h ts from at a r (Found to v) s = record { middle = at; left = a; first = r; second = s }
  second g h ts from at a r (Failed f) s = inr (inl (at, a, r, s))

  both : {A B : Type 0} (g : Form A) (h : A → Form B) (ts : List Token) (from : ℕ) (q : Reading A) → Sound (S g ts from) (E g ts from) q → (k : ℕ → A → Reading B) → ((at : ℕ) (a : A) → Sound (S (h a) ts at) (E (h a) ts at) (k at a)) → Sound (S (bind g h) ts from) (E (bind g h) ts from) (next_reading q k)
  both g h ts from (Found at a) s k t = second g h ts from at a s (k at a) (t at a)
  both g h ts from (Failed f) s k t = inl s

  applied : {A B : Type 0} (f : A → B) (g : Form A) (ts : List Token) (from : ℕ) (q : Reading A) → Sound (S g ts from) (E g ts from) q → Sound (S (apply f g) ts from) (E (apply f g) ts from) (map_reading f q)
  applied f g ts from (Found to v) s = record { inside = v; spelled = s; value = refl }
  applied f g ts from (Failed e) s = inl s

  skipped : {A : Type 0} (g : Form A) (ts : List Token) (from : ℕ) (q : Reading A) → Sound (S g ts (from + 1)) (E g ts (from + 1)) q → Sound (S (skip g) ts from) (E (skip g) ts from) q
  skipped g ts from (Found to v) s = s
  skipped g ts from (Failed f) s = s

  looked : {A : Type 0} (k : Option TokenKind → Form A) (ts : List Token) (from : ℕ) (q : Reading A) → Sound (S (k (kind_at ts from)) ts from) (E (k (kind_at ts from)) ts from) q → Sound (S (look k) ts from) (E (look k) ts from) q
  looked k ts from (Found to v) s = s
  looked k ts from (Failed f) s = s

  placed : {A : Type 0} (k : Pos → Form A) (ts : List Token) (from : ℕ) (q : Reading A) → Sound (S (k (pos_at ts from)) ts from) (E (k (pos_at ts from)) ts from) q → Sound (S (here k) ts from) (E (here k) ts from) q
  placed k ts from (Found to v) s = s
  placed k ts from (Failed f) s = s

  repeated : {A : Type 0} (p : Option TokenKind → Bool) (g : Form A) (ts : List Token) (from : ℕ) (q : Reading (List A)) → RunSound p ts (λ at xs. Run p (S g) ts from at xs) (E (many p g) ts from) [] q → Sound (S (many p g) ts from) (E (many p g) ts from) q
  repeated p g ts from (Found to v) s = record { run = s.0; over = s.1 }
  repeated p g ts from (Failed f) s = s

  more : {A : Type 0} (g : Form A) (p : Option TokenKind → Bool) (h : Form A) (ts : List Token) (from at : ℕ) (x : A) → S g ts from at x → (q : Reading (List A)) → RunSound p ts (λ to xs. ListRun (S g) p (S h) ts from to xs) (E (listed g p h) ts from) (x ∷ []) q → Sound (S (listed g p h) ts from) (E (listed g p h) ts from) (map_reading (λ xs. x ∷ xs) q)
  more g p h ts from at x r (Found to v) s = record { run = s.0; over = s.1 }
  more g p h ts from at x r (Failed f) s = s

  list_of : {A : Type 0} (g : Form A) (p : Option TokenKind → Bool) (h : Form A) (ts : List Token) (from : ℕ) (q : Reading A) → Sound (S g ts from) (E g ts from) q → (k : ℕ → Reading (List A)) → ((at : ℕ) (x : A) → S g ts from at x → RunSound p ts (λ to xs. ListRun (S g) p (S h) ts from to xs) (E (listed g p h) ts from) (x ∷ []) (k at)) → Sound (S (listed g p h) ts from) (E (listed g p h) ts from) (next_reading q (λ at x. map_reading (λ xs. x ∷ xs) (k at)))
  list_of g p h ts from (Found at x) s k t = more g p h ts from at x s (k at) (t at x s)
  list_of g p h ts from (Failed f) s k t = inl s

  alone : {A : Type 0} (g h : Form A) (p : Option TokenKind → Bool) (ts : List Token) (from at : ℕ) (x : A) → S g ts from at x → ListRun (S g) p (S h) ts from at (x ∷ [])
  unfolding ListRun Run
  alone g h p ts from at x r = (at, r, refl)

  none : {A : Type 0} (g : Form A) (p : Option TokenKind → Bool) (ts : List Token) (from : ℕ) → Run p (S g) ts from from []
  unfolding Run
  none g p ts from = refl

  pub sound : {A : Type 0} (g : Form A) (ts : List Token) (from : ℕ) → Sound (S g ts from) (E g ts from) (read (reader n) g ts from)
  unfolding read
  sound nothing ts from = inl refl
  sound (empty x) ts from = (refl, refl)
  sound (skip g) ts from = skipped g ts from (read (reader n) g ts (from + 1)) (sound g ts (from + 1))
  sound (expect t g) ts from = expected t g ts from (is_next (kind_at ts from) t) (next_decided (kind_at ts from) t) (read (reader n) g ts (from + 1)) (sound g ts (from + 1))
  sound (token_or t g h) ts from = chosen t g h ts from (is_next (kind_at ts from) t) (next_decided (kind_at ts from) t) (read (reader n) g ts (from + 1)) (read (reader n) h ts from) (sound g ts (from + 1)) (sound h ts from)
  sound (look k) ts from = looked k ts from (read (reader n) (k (kind_at ts from)) ts from) (sound (k (kind_at ts from)) ts from)
  sound (here k) ts from = placed k ts from (read (reader n) (k (pos_at ts from)) ts from) (sound (k (pos_at ts from)) ts from)
  sound (bind g h) ts from = both g h ts from (read (reader n) g ts from) (sound g ts from) (λ at a. read (reader n) (h a) ts at) (λ at a. sound (h a) ts at)
  sound (apply f g) ts from = applied f g ts from (read (reader n) g ts from) (sound g ts from)
  sound (many p g) ts from = repeated p g ts from (read_run (length ts + 1) p (read (reader n) g) ts from)
      (run_sound p (read (reader n) g) ts (λ at to x. S g ts at to x) (λ at f. E g ts at f) (λ at. sound g ts at)
      (λ at xs. Run p (S g) ts from at xs) (E (many p g) ts from)
      (λ at to xs x r b s. run_more p (S g) ts from at to xs x r b s) (λ at xs f r b e. inl (at, xs, r, b, e)) (inr refl)
      (length ts + 1) from [] (none g p ts from))
  sound (listed g p h) ts from = list_of g p h ts from (read (reader n) g ts from) (sound g ts from) (λ at. read_run (length ts + 1) p (read (reader n) h) ts at)
      (λ at x r. run_sound p (read (reader n) h) ts (λ a to y. S h ts a to y) (λ a f. E h ts a f) (λ a. sound h ts a)
      (λ to xs. ListRun (S g) p (S h) ts from to xs) (E (listed g p h) ts from)
      (λ a to xs y l b s. list_more (S g) p (S h) ts from a to xs y l b s) (λ a xs f l b e. inr (inl (a, xs, l, b, e))) (inr (inr refl))
      (length ts + 1) at (x ∷ []) (alone g h p ts from at x r))
  sound {A} (inside x) ts from = below A x ts from

deeper : {A : Type 0} (n : ℕ) (x : Name A) (ts : List Token) (from : ℕ) (q : Reading A) → Sound (Spells (inner n) (form_of x) ts from) (Fails (inner n) (faults n) (form_of x) ts from) q → Sound (inner (suc n) A x ts from) (faults (suc n) A x ts from) q
unfolding inner faults
deeper n x ts from (Found to v) s = s
deeper n x ts from (Failed f) s = s

pub reader_sound : (n : ℕ) (A : Type 0) (x : Name A) (ts : List Token) (from : ℕ) → Sound (inner n A x ts from) (faults n A x ts from) (reader n A x ts from)
unfolding inner faults reader
reader_sound zero A x ts from = refl
reader_sound (suc n) A x ts from = deeper n x ts from (read (reader n) (form_of x) ts from) (sound n (reader_sound n) (form_of x) ts from)

-- What the reader answers is so.
pub read_sound : {A : Type 0} (n : ℕ) (g : Form A) (ts : List Token) (from : ℕ) → Sound (Spells (inner n) g ts from) (Fails (inner n) (faults n) g ts from) (read (reader n) g ts from)
read_sound n g ts from = sound n (reader_sound n) g ts from
