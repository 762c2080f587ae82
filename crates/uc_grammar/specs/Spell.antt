-- What tokens spell: a relation of a list of tokens, the place where the piece begins, the place after it, and the
-- piece. The readings of a form are built of the relations below.
use Rattle.std.specs.Prelude.{◌≡◌, ℕ, ◌+◌, ◌≤◌, ◌<◌, List, [], ◌∷◌, Bool, Option, Some, None, IsTrue, slice_get, ◌⊎◌}
use Rattle.uc_tree.specs.declared.pos.Pos.{Pos}
use Rattle.uc_tree.specs.declared.token.Token.{Token}
use Rattle.uc_tree.specs.declared.token.TokenKind.{TokenKind}
use Rattle.uc_grammar.specs.declared.fault.ParseFault.{ParseFault}
use Rattle.uc_grammar.specs.declared.fault.ParseFault.TheVariants.{Syntax, TooDeep, NoMemory}

abbrev pub kind_of : Option Token → Option TokenKind
kind_of None = None
kind_of (Some t) = Some t.kind

abbrev pub pos_of : Option Token → Pos
pos_of None = record { line = 0; col = 0 }
pos_of (Some t) = t.pos

-- what the token there is, and its place in the text
abbrev pub kind_at : List Token → ℕ → Option TokenKind
kind_at ts at = kind_of (slice_get ts at)

abbrev pub pos_at : List Token → ℕ → Pos
pos_at ts at = pos_of (slice_get ts at)

abbrev pub Rel : Type 0 → Type 1
Rel A = List Token → ℕ → ℕ → A → Type 0

abbrev pub Nothing : {A : Type 0} → Rel A
Nothing ts from to v = ⊥

-- no token
abbrev pub Empty : {A : Type 0} → A → Rel A
Empty x ts from to v = (to ≡ from) × (v ≡ x)

-- one token, and then R
abbrev pub Skip : {A : Type 0} → Rel A → Rel A
Skip R ts from to v = R ts (from + 1) to v

-- just this token, and then R
abbrev pub Expect : {A : Type 0} → TokenKind → Rel A → Rel A
Expect t R ts from to v = (kind_at ts from ≡ Some t) × R ts (from + 1) to v

-- if this token is next, it and then R, and else S
abbrev pub TokenOr : {A : Type 0} → TokenKind → Rel A → Rel A → Rel A
TokenOr t R S ts from to v = ((kind_at ts from ≡ Some t) × R ts (from + 1) to v) ⊎ ((kind_at ts from ≡ Some t → ⊥) × S ts from to v)

-- by the next token
abbrev pub Look : {A : Type 0} → (Option TokenKind → Rel A) → Rel A
Look k ts from to v = k (kind_at ts from) ts from to v

-- with the place of the next token
abbrev pub Here : {A : Type 0} → (Pos → Rel A) → Rel A
Here k ts from to v = k (pos_at ts from) ts from to v

-- R, and then what R's piece asks for
pub record Bind {A B : Type 0} (R : Rel A) (S : A → Rel B) (ts : List Token) (from to : ℕ) (v : B) : Type 0 where
  pub middle : ℕ
  pub left : A
  pub first : R ts from middle left
  pub second : S left ts middle to v

pub record Map {A B : Type 0} (f : A → B) (R : Rel A) (ts : List Token) (from to : ℕ) (v : B) : Type 0 where
  pub inside : A
  pub spelled : R ts from to inside
  pub value : v ≡ f inside

-- the next token is one of these
abbrev pub Begins : (Option TokenKind → Bool) → List Token → ℕ → Type 0
Begins p ts at = IsTrue (p (kind_at ts at))

-- R again and again, each time from one of these tokens on
unfoldable pub Run : {A : Type 0} → (Option TokenKind → Bool) → Rel A → Rel (List A)
Run p R ts from to [] = to ≡ from
Run p R ts from to (x ∷ xs) = Begins p ts from × (middle : ℕ) × R ts from middle x × Run p R ts middle to xs

-- and as often as it could begin
pub record Many {A : Type 0} (p : Option TokenKind → Bool) (R : Rel A) (ts : List Token) (from to : ℕ) (xs : List A) : Type 0 where
  pub run : Run p R ts from to xs
  pub over : Begins p ts to → ⊥

-- R, and then S again and again, each time from one of these tokens on
unfoldable pub ListRun : {A : Type 0} → Rel A → (Option TokenKind → Bool) → Rel A → Rel (List A)
ListRun R p S ts from to [] = ⊥
ListRun R p S ts from to (x ∷ xs) = (middle : ℕ) × R ts from middle x × Run p S ts middle to xs

-- and as often as it could begin
pub record Listed {A : Type 0} (R : Rel A) (p : Option TokenKind → Bool) (S : Rel A) (ts : List Token) (from to : ℕ) (xs : List A) : Type 0 where
  pub run : ListRun R p S ts from to xs
  pub over : Begins p ts to → ⊥

-- The first k tokens are the same.
abbrev pub Same : ℕ → List Token → List Token → Type 0
Same k ts us = (i : ℕ) → i < k → slice_get ts i ≡ slice_get us i

-- Tokens that begin with those of ts up to and with the one at p spell nothing at `from`.
abbrev pub Never : {A : Type 0} → Rel A → List Token → ℕ → ℕ → Type 0
Never {A} R ts p from = (us : List Token) (to : ℕ) (v : A) → Same (p + 1) ts us → R us from to v → ⊥

-- What a fault says of the pieces F n that may stand at `from`, n being how deep they may be: of Syntax that the tokens
-- up to its own are the beginning of no piece of any depth, of TooDeep that there is no piece of the allowed depth.
abbrev pub Why : {A : Type 0} → (ℕ → Rel A) → ℕ → List Token → ℕ → ParseFault → Type 0
Why F room ts from (Syntax p) = (from ≤ p) × ((n : ℕ) → Never (F n) ts p from)
Why {A} F room ts from (TooDeep k) = (from ≤ k) × ((to : ℕ) (v : A) → F room ts from to v → ⊥)
Why F room ts from NoMemory = Unit {0}

pub record Refused {A : Type 0} (F : ℕ → Rel A) (room : ℕ) (ts : List Token) (from : ℕ) (f : ParseFault) : Type 0 where
  pub why : Why F room ts from f
