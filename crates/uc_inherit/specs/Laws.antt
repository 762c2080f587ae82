-- The laws of opening, and what its samples say.
use Rattle.std.specs.Prelude.{◌≡◌, ◌↔◌, ℕ, ◌+◌, ◌<◌, ◌≤◌, List, [], ◌∷◌, ◌++◌, map, IsTrue, Some}
use Rattle.uc_tree.specs.declared.pos.Pos.{Pos}
use Rattle.uc_tree.specs.declared.kinds.Kind.{Kind}
use Rattle.uc_tree.specs.declared.token.Token.{Token}
use Rattle.uc_tree.specs.declared.token.TokenKind.TheVariants as token
use Rattle.uc_tree.specs.declared.token.Word.TheVariants as word
use Rattle.uc_tree.specs.declared.token.Sign.TheVariants as sign
use Rattle.uc_grammar.specs.Spell.{kind_at, pos_at}
use Rattle.uc_grammar.specs.Form.{Spells}
use Rattle.uc_grammar.specs.Grammar.{inner, kind_form, name_form}
use Rattle.uc_grammar.specs.Samples.{without_place, placed, plain}
use Rattle.uc_inherit.specs.ClassHeads.{is_virtual, is_name, is_head, first_place, is_in_base}
use Rattle.uc_inherit.specs.OpenedTokens.{tokens_left, base_name, bases, virtuals}

-- Where no head has a base and no `virtual` stands, nothing is taken out and nothing noted.
abbrev pub LeavesOthers : Type 0
LeavesOthers = (ts : List Token) → ((i : ℕ) → IsTrue (is_virtual (kind_at ts i)) → ⊥) → ((k : ℕ) → IsTrue (is_head ts k) → ⊥) → (tokens_left ts ≡ ts) × (bases ts ≡ []) × (virtuals ts ≡ [])

-- No `virtual` is left.
abbrev pub NoVirtual : Type 0
NoVirtual = (ts : List Token) (i : ℕ) → IsTrue (is_virtual (kind_at (tokens_left ts) i)) → ⊥

-- Of a head are taken out just its third, fourth and fifth token, counted from the last word of its kind as the first.
abbrev pub TakesBases : Type 0
TakesBases = (ts : List Token) (i : ℕ) → IsTrue (is_in_base ts i) ↔ ((k : ℕ) × IsTrue (is_head ts k) × (k + 2 ≤ i) × (i < k + 5))

-- The tokens from `first` on are a kind of the grammar, whose last word stands at k, and a name, and then `: public`, a
-- name and `{`; and neither name is `virtual`.
pub record Derives (ts : List Token) (first k : ℕ) (kind : Kind) (name base : List ℕ) : Type 0 where
  pub kind_spelled : Spells (inner 0) kind_form ts first (k + 1) kind
  pub name_spelled : Spells (inner 0) name_form ts (k + 1) (k + 2) name
  pub colon : kind_at ts (k + 2) ≡ Some (token.Sign sign.Colon)
  pub access : kind_at ts (k + 3) ≡ Some (token.Word word.Public)
  pub base_spelled : Spells (inner 0) name_form ts (k + 4) (k + 5) base
  pub brace : kind_at ts (k + 5) ≡ Some (token.Sign sign.OpenBrace)
  pub name_is : IsTrue (is_name (kind_at ts (k + 1)))
  pub base_is : IsTrue (is_name (kind_at ts (k + 4)))

-- Of a head is noted the place at which its kind begins, and the name of its base.
pub record Noted (ts : List Token) (k : ℕ) : Type 0 where
  pub first : ℕ
  pub kind : Kind
  pub name : List ℕ
  pub base : List ℕ
  pub derives : Derives ts first k kind name base
  pub place : first_place ts k ≡ pos_at ts first
  pub noted : base_name ts k ≡ Some base

abbrev pub HeadsNoted : Type 0
HeadsNoted = (ts : List Token) (k : ℕ) → IsTrue (is_head ts k) → Noted ts k

-- Every class with a base is a head, and its kind begins where the head says, or at the word behind its `_Mutex`.
abbrev pub HeadsFound : Type 0
HeadsFound = (ts : List Token) (first k : ℕ) (kind : Kind) (name base : List ℕ) → Derives ts first k kind name base → IsTrue (is_head ts k)

-- Of a text that is opened, these are left, without their places, and these are noted.
pub record Opens (text left : List ℕ) (heads : List (Pos × List ℕ)) (places : List Pos) : Type 0 where
  pub tokens : map without_place (tokens_left (placed text)) ≡ plain left
  pub bases : bases (placed text) ≡ heads
  pub virtuals : virtuals (placed text) ≡ places

abbrev pub at_place : ℕ → ℕ → Pos
at_place line col = record { line = line; col = col }

-- a class with a base, whose first token stands there
abbrev pub derived : ℕ → ℕ → List ℕ → Pos × List ℕ
derived line col base = (at_place line col, base)

abbrev pub lines : List ℕ → List ℕ → List ℕ
lines one other = one ++ 10 ∷ other
