-- What opening takes out of the tokens of a text, and what it notes: in each class head with a base the three tokens
-- `: public name`, and each `virtual`. All is told index by index.
use Rattle.std.specs.Prelude.{ℕ, zero, suc, ◌+◌, List, [], ◌++◌, length, slice_get, Bool, ◌||◌, Option, Some, None, option_map, option_to_list, if◌then◌else◌}
use Rattle.uc_tree.specs.declared.pos.Pos.{Pos}
use Rattle.uc_tree.specs.declared.token.Token.{Token}
use Rattle.uc_tree.specs.declared.token.TokenKind.{TokenKind}
use Rattle.uc_tree.specs.declared.token.TokenKind.TheVariants as token
use Rattle.uc_grammar.specs.Spell.{kind_at, pos_at}
use Rattle.uc_inherit.specs.ClassHeads.{is_virtual, is_head, first_place, is_in_base}

-- what there is at the indices below n, in their order
unfoldable pub picked : {A : Type 0} → (ℕ → Option A) → ℕ → List A
picked f zero = []
picked f (suc n) = picked f n ++ option_to_list (f n)

-- What is left.

abbrev pub is_taken_out : List Token → ℕ → Bool
is_taken_out ts at = is_virtual (kind_at ts at) || is_in_base ts at

unfoldable pub left_at : List Token → ℕ → Option Token
left_at ts at = if is_taken_out ts at then None else slice_get ts at

unfoldable pub tokens_left : List Token → List Token
tokens_left ts = picked (left_at ts) (length ts)

-- What is noted of heads: the place of the class's first token, and the name of its base.

abbrev pub name_of : Option TokenKind → Option (List ℕ)
name_of (Some (token.Name n)) = Some n
name_of _ = None

unfoldable pub base_name : List Token → ℕ → Option (List ℕ)
base_name ts k = if is_head ts k then name_of (kind_at ts (k + 4)) else None

abbrev pub base_noted : List Token → ℕ → Option (Pos × List ℕ)
base_noted ts k = option_map (λ n. (first_place ts k, n)) (base_name ts k)

unfoldable pub bases : List Token → List (Pos × List ℕ)
bases ts = picked (base_noted ts) (length ts)

-- What is noted of each `virtual`: the place of the token after it, or its own where none follows.

abbrev pub place_or : Pos → Option Token → Pos
place_or pos None = pos
place_or pos (Some t) = t.pos

abbrev pub place_behind : List Token → ℕ → Pos
place_behind ts at = place_or (pos_at ts at) (slice_get ts (at + 1))

unfoldable pub virtual_noted : List Token → ℕ → Option Pos
virtual_noted ts at = if is_virtual (kind_at ts at) then Some (place_behind ts at) else None

unfoldable pub virtuals : List Token → List Pos
virtuals ts = picked (virtual_noted ts) (length ts)
