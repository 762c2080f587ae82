-- The heads of classes that name a base, `kind name ':' 'public' name '{'`, and the word `virtual`, at an index of the
-- tokens of a text. The lexer gives `virtual` as a name, so it is told from names here.
use Rattle.std.specs.Prelude.{ℕ, ◌+◌, ◌-◌, List, Bool, true, false, not, ◌&&◌, ◌||◌, Option, Some, nat_le, codes, if◌then◌else◌}
use Rattle.uc_tree.specs.declared.pos.Pos.{Pos}
use Rattle.uc_tree.specs.declared.token.Token.{Token}
use Rattle.uc_tree.specs.declared.token.TokenKind.{TokenKind}
use Rattle.uc_tree.specs.declared.token.TokenKind.TheVariants as token
use Rattle.uc_tree.specs.declared.token.Word.{Word}
use Rattle.uc_tree.specs.declared.token.Word.TheVariants as word
use Rattle.uc_tree.specs.declared.token.Sign.{Sign}
use Rattle.uc_tree.specs.declared.token.Sign.TheVariants as sign
use Rattle.uc_tree.specs.Names.{same_name}
use Rattle.uc_grammar.specs.Spell.{kind_at, pos_at}
use Rattle.uc_grammar.specs.Tables.{word_of, sign_of}

-- What single tokens are.

-- the word `virtual`
abbrev pub is_virtual : Option TokenKind → Bool
is_virtual (Some (token.Name n)) = same_name n (codes "virtual")
is_virtual _ = false

-- a name
abbrev pub is_name : Option TokenKind → Bool
is_name (Some (token.Name n)) = not (same_name n (codes "virtual"))
is_name _ = false

-- the last word of a kind: 'class' | '_Coroutine' | '_Monitor' | '_Cormonitor' | '_Task' | '_Event'
abbrev pub ends_kind : Option Word → Bool
ends_kind (Some word.Class) = true
ends_kind (Some word.Coroutine) = true
ends_kind (Some word.Monitor) = true
ends_kind (Some word.Cormonitor) = true
ends_kind (Some word.Task) = true
ends_kind (Some word.Event) = true
ends_kind _ = false

-- what `_Mutex` makes a kind of mutex objects: 'class' | '_Coroutine'
abbrev pub may_be_mutex : Option Word → Bool
may_be_mutex (Some word.Class) = true
may_be_mutex (Some word.Coroutine) = true
may_be_mutex _ = false

-- '_Mutex'
abbrev pub is_mutex : Option Word → Bool
is_mutex (Some word.Mutex) = true
is_mutex _ = false

-- 'public'
abbrev pub is_public : Option Word → Bool
is_public (Some word.Public) = true
is_public _ = false

-- ':'
abbrev pub is_colon : Option Sign → Bool
is_colon (Some sign.Colon) = true
is_colon _ = false

-- '{'
abbrev pub is_brace : Option Sign → Bool
is_brace (Some sign.OpenBrace) = true
is_brace _ = false

-- Heads.

-- a head with a base, the last word of whose kind stands at k
unfoldable pub is_head : List Token → ℕ → Bool
is_head ts k =
    ends_kind (word_of (kind_at ts k)) && is_name (kind_at ts (k + 1))
    && is_colon (sign_of (kind_at ts (k + 2))) && is_public (word_of (kind_at ts (k + 3)))
    && is_name (kind_at ts (k + 4)) && is_brace (sign_of (kind_at ts (k + 5)))

-- whether a `_Mutex` belongs to the kind whose last word stands at k
unfoldable pub has_mutex : List Token → ℕ → Bool
has_mutex ts k = may_be_mutex (word_of (kind_at ts k)) && nat_le 1 k && is_mutex (word_of (kind_at ts (k - 1)))

-- the place of the first token of the class
unfoldable pub first_place : List Token → ℕ → Pos
first_place ts k = if has_mutex ts k then pos_at ts (k - 1) else pos_at ts k

-- a head with a base whose kind ends so many tokens before
unfoldable pub is_head_before : List Token → ℕ → ℕ → Bool
is_head_before ts at back = nat_le back at && is_head ts (at - back)

-- one of the three tokens `: public name` of a head
unfoldable pub is_in_base : List Token → ℕ → Bool
is_in_base ts at = is_head_before ts at 2 || is_head_before ts at 3 || is_head_before ts at 4
