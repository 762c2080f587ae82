-- A grammar as data: forms of pieces, what tokens spell them, and how a reading of them fails.
use Rattle.std.specs.Prelude.{◌≡◌, ℕ, ◌+◌, List, Bool, Option, Some, ◌⊎◌}
use Rattle.uc_tree.specs.declared.pos.Pos.{Pos}
use Rattle.uc_tree.specs.declared.token.Token.{Token}
use Rattle.uc_tree.specs.declared.token.TokenKind.{TokenKind}
use Rattle.uc_grammar.specs.declared.fault.ParseFault.{ParseFault}
use Rattle.uc_grammar.specs.declared.fault.ParseFault.TheVariants.{Syntax, NoMemory}
use Rattle.uc_grammar.specs.Names.{Name}
use Rattle.uc_grammar.specs.Spell.{kind_at, pos_at, Rel, Nothing, Empty, Skip, Expect, TokenOr, Look, Here, Bind, Map, Begins, Run, Many, ListRun, Listed}

pub data Form : Type 0 → Type 1 where
  -- no piece
  nothing : {A : Type 0} → Form A
  -- no token
  empty : {A : Type 0} → A → Form A
  -- one token, whatever it is, and then the form
  skip : {A : Type 0} → Form A → Form A
  -- just this token, and then the form
  expect : {A : Type 0} → TokenKind → Form A → Form A
  -- if this token is next, it and the first form, and else the second
  token_or : {A : Type 0} → TokenKind → Form A → Form A → Form A
  -- by the next token
  look : {A : Type 0} → (Option TokenKind → Form A) → Form A
  -- with the place of the next token
  here : {A : Type 0} → (Pos → Form A) → Form A
  -- the form, and then what its piece asks for
  bind : {A B : Type 0} → Form A → (A → Form B) → Form B
  -- the form, and a function of its piece
  apply : {A B : Type 0} → (A → B) → Form A → Form B
  -- as often as it could begin, with one of these tokens
  many : {A : Type 0} → (Option TokenKind → Bool) → Form A → Form (List A)
  -- the first form, and then the second as often as it could begin
  listed : {A : Type 0} → Form A → (Option TokenKind → Bool) → Form A → Form (List A)
  -- what stands one level deeper
  inside : {A : Type 0} → Name A → Form A

-- what may stand one level deeper
abbrev pub Inner : Type 1
Inner = (A : Type 0) → Name A → Rel A

-- These tokens, from here to there, are this piece.
abbrev pub Spells : {A : Type 0} → Inner → Form A → Rel A
Spells i nothing = Nothing
Spells i (empty x) = Empty x
Spells i (skip g) = Skip (Spells i g)
Spells i (expect t g) = Expect t (Spells i g)
Spells i (token_or t g h) = TokenOr t (Spells i g) (Spells i h)
Spells i (look k) = Look (λ o. Spells i (k o))
Spells i (here k) = Here (λ p. Spells i (k p))
Spells i (bind g h) = Bind (Spells i g) (λ a. Spells i (h a))
Spells i (apply f g) = Map f (Spells i g)
Spells i (many p g) = Many p (Spells i g)
Spells i (listed g p h) = Listed (Spells i g) p (Spells i h)
Spells {A} i (inside x) = i A x

-- how a reading one level deeper fails
abbrev pub Fault : Type 1
Fault = List Token → ℕ → ParseFault → Type 0

abbrev pub Faults : Type 1
Faults = (A : Type 0) → Name A → Fault

-- Read from left to right, with no other choice at any token, the form fails with this fault.
abbrev pub Fails : {A : Type 0} → Inner → Faults → Form A → Fault
Fails i d nothing ts from f = (f ≡ Syntax from) ⊎ (f ≡ NoMemory)
Fails i d (empty x) ts from f = f ≡ NoMemory
Fails i d (skip g) ts from f = Fails i d g ts (from + 1) f
Fails i d (expect t g) ts from f = ((f ≡ Syntax from) × (kind_at ts from ≡ Some t → ⊥)) ⊎ ((kind_at ts from ≡ Some t) × Fails i d g ts (from + 1) f) ⊎ (f ≡ NoMemory)
Fails i d (token_or t g h) ts from f = ((kind_at ts from ≡ Some t) × Fails i d g ts (from + 1) f) ⊎ ((kind_at ts from ≡ Some t → ⊥) × Fails i d h ts from f)
Fails i d (look k) ts from f = Fails i d (k (kind_at ts from)) ts from f
Fails i d (here k) ts from f = Fails i d (k (pos_at ts from)) ts from f
Fails i d (bind {A = B} g h) ts from f = Fails i d g ts from f ⊎ ((at : ℕ) × (b : B) × Spells i g ts from at b × Fails i d (h b) ts at f) ⊎ (f ≡ NoMemory)
Fails i d (apply h g) ts from f = Fails i d g ts from f ⊎ (f ≡ NoMemory)
Fails i d (many {A = B} p g) ts from f = ((at : ℕ) × (xs : List B) × Run p (Spells i g) ts from at xs × Begins p ts at × Fails i d g ts at f) ⊎ (f ≡ NoMemory)
Fails i d (listed {A = B} g p h) ts from f = Fails i d g ts from f ⊎ ((at : ℕ) × (xs : List B) × ListRun (Spells i g) p (Spells i h) ts from at xs × Begins p ts at × Fails i d h ts at f) ⊎ (f ≡ NoMemory)
Fails {A} i d (inside x) ts from f = d A x ts from f
