-- What the word or the sign of a token says of the token.
use Rattle.std.proofs.Common.{◌≡◌, Option, Some, None, refl, ap}
use Rattle.std.specs.Prelude.{is_some}
use Rattle.uc_tree.specs.declared.token.TokenKind.{TokenKind}
use Rattle.uc_tree.specs.declared.token.TokenKind.TheVariants as token
use Rattle.uc_tree.specs.declared.token.Word.{Word}
use Rattle.uc_tree.specs.declared.token.Sign.{Sign}
use Rattle.uc_tree.specs.declared.token.Sign.TheVariants as sign
use Rattle.uc_grammar.specs.Tables.{sign_of, word_of, is_part}
use Rattle.uc_parse_expr.specs.Starts.{part_start_of}

pub sign_there : (o : Option TokenKind) (s : Sign) → Some s ≡ sign_of o → o ≡ Some (token.Sign s)
sign_there None s e = cc
sign_there (Some (token.Sign t)) s e = cc
sign_there (Some (token.Word w)) s e = cc
sign_there (Some (token.Name n)) s e = cc
sign_there (Some (token.Number n)) s e = cc
sign_there (Some (token.Character n)) s e = cc
sign_there (Some (token.Text n)) s e = cc

pub there_sign : (o : Option TokenKind) (s : Sign) → o ≡ Some (token.Sign s) → sign_of o ≡ Some s
there_sign o s e = ap sign_of e

pub word_there : (o : Option TokenKind) (w : Word) → Some w ≡ word_of o → o ≡ Some (token.Word w)
word_there None s e = cc
word_there (Some (token.Word w)) s e = cc
word_there (Some (token.Sign w)) s e = cc
word_there (Some (token.Name n)) s e = cc
word_there (Some (token.Number n)) s e = cc
word_there (Some (token.Character n)) s e = cc
word_there (Some (token.Text n)) s e = cc

pub there_word : (o : Option TokenKind) (w : Word) → o ≡ Some (token.Word w) → word_of o ≡ Some w
there_word o w e = ap word_of e

-- A part begins with just the signs that say what it is.
pub is_part_start : (o : Option Sign) → is_some (part_start_of o) ≡ is_part o
is_part_start None = refl
is_part_start (Some sign.OpenBrace) = refl
is_part_start (Some sign.CloseBrace) = refl
is_part_start (Some sign.OpenParen) = refl
is_part_start (Some sign.CloseParen) = refl
is_part_start (Some sign.OpenBracket) = refl
is_part_start (Some sign.CloseBracket) = refl
is_part_start (Some sign.Semicolon) = refl
is_part_start (Some sign.Comma) = refl
is_part_start (Some sign.Dot) = refl
is_part_start (Some sign.Colon) = refl
is_part_start (Some sign.Scope) = refl
is_part_start (Some sign.Tilde) = refl
is_part_start (Some sign.And) = refl
is_part_start (Some sign.Assign) = refl
is_part_start (Some sign.AddAssign) = refl
is_part_start (Some sign.SubAssign) = refl
is_part_start (Some sign.MulAssign) = refl
is_part_start (Some sign.DivAssign) = refl
is_part_start (Some sign.RemAssign) = refl
is_part_start (Some sign.Increment) = refl
is_part_start (Some sign.Decrement) = refl
is_part_start (Some sign.OrOr) = refl
is_part_start (Some sign.AndAnd) = refl
is_part_start (Some sign.Equal) = refl
is_part_start (Some sign.NotEqual) = refl
is_part_start (Some sign.Less) = refl
is_part_start (Some sign.LessEqual) = refl
is_part_start (Some sign.Greater) = refl
is_part_start (Some sign.GreaterEqual) = refl
is_part_start (Some sign.ShiftLeft) = refl
is_part_start (Some sign.ShiftRight) = refl
is_part_start (Some sign.Plus) = refl
is_part_start (Some sign.Minus) = refl
is_part_start (Some sign.Star) = refl
is_part_start (Some sign.Slash) = refl
is_part_start (Some sign.Percent) = refl
is_part_start (Some sign.Not) = refl
is_part_start (Some sign.Ellipsis) = refl
