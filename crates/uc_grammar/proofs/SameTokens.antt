-- Whether two tokens are the same: the words and the signs are numbered by their lists.
use Rattle.std.proofs.Common.{◌≡◌, ℕ, Bool, false, Option, Some, None, refl, sym, ◌∙◌, ap, ◌==◌}
use Rattle.std.specs.Prelude.{slice_get}
use Rattle.std.specs.Str.{bytes_eq}
use Rattle.std.specs.Ordering.{int_eq}
use Rattle.std.specs.Bool.{Decides}
use Rattle.std.proofs.lemmas.Bool.Decides.{Decides-eqb, Decides-int_eq}
use Rattle.std.proofs.lemmas.Slice.Eq.{bytes_eq-Decides}
use Rattle.uc_tree.specs.declared.token.Word.{Word}
use Rattle.uc_tree.specs.declared.token.Word.TheVariants as word
use Rattle.uc_tree.specs.declared.token.Sign.{Sign}
use Rattle.uc_tree.specs.declared.token.Sign.TheVariants as sign
use Rattle.uc_tree.specs.declared.token.TokenKind.{TokenKind}
use Rattle.uc_tree.specs.declared.token.TokenKind.TheVariants as token
use Rattle.uc_tree.specs.Spelling.{words, signs}

abbrev pub sign_number : Sign → ℕ
sign_number sign.Ellipsis = 0
sign_number sign.Scope = 1
sign_number sign.AddAssign = 2
sign_number sign.SubAssign = 3
sign_number sign.MulAssign = 4
sign_number sign.DivAssign = 5
sign_number sign.RemAssign = 6
sign_number sign.Increment = 7
sign_number sign.Decrement = 8
sign_number sign.OrOr = 9
sign_number sign.AndAnd = 10
sign_number sign.Equal = 11
sign_number sign.NotEqual = 12
sign_number sign.LessEqual = 13
sign_number sign.GreaterEqual = 14
sign_number sign.ShiftLeft = 15
sign_number sign.ShiftRight = 16
sign_number sign.OpenBrace = 17
sign_number sign.CloseBrace = 18
sign_number sign.OpenParen = 19
sign_number sign.CloseParen = 20
sign_number sign.OpenBracket = 21
sign_number sign.CloseBracket = 22
sign_number sign.Semicolon = 23
sign_number sign.Comma = 24
sign_number sign.Dot = 25
sign_number sign.Colon = 26
sign_number sign.Tilde = 27
sign_number sign.And = 28
sign_number sign.Assign = 29
sign_number sign.Less = 30
sign_number sign.Greater = 31
sign_number sign.Plus = 32
sign_number sign.Minus = 33
sign_number sign.Star = 34
sign_number sign.Slash = 35
sign_number sign.Percent = 36
sign_number sign.Not = 37

sign_numbered : (s : Sign) → slice_get signs (sign_number s) ≡ Some s
sign_numbered sign.Ellipsis = refl
sign_numbered sign.Scope = refl
sign_numbered sign.AddAssign = refl
sign_numbered sign.SubAssign = refl
sign_numbered sign.MulAssign = refl
sign_numbered sign.DivAssign = refl
sign_numbered sign.RemAssign = refl
sign_numbered sign.Increment = refl
sign_numbered sign.Decrement = refl
sign_numbered sign.OrOr = refl
sign_numbered sign.AndAnd = refl
sign_numbered sign.Equal = refl
sign_numbered sign.NotEqual = refl
sign_numbered sign.LessEqual = refl
sign_numbered sign.GreaterEqual = refl
sign_numbered sign.ShiftLeft = refl
sign_numbered sign.ShiftRight = refl
sign_numbered sign.OpenBrace = refl
sign_numbered sign.CloseBrace = refl
sign_numbered sign.OpenParen = refl
sign_numbered sign.CloseParen = refl
sign_numbered sign.OpenBracket = refl
sign_numbered sign.CloseBracket = refl
sign_numbered sign.Semicolon = refl
sign_numbered sign.Comma = refl
sign_numbered sign.Dot = refl
sign_numbered sign.Colon = refl
sign_numbered sign.Tilde = refl
sign_numbered sign.And = refl
sign_numbered sign.Assign = refl
sign_numbered sign.Less = refl
sign_numbered sign.Greater = refl
sign_numbered sign.Plus = refl
sign_numbered sign.Minus = refl
sign_numbered sign.Star = refl
sign_numbered sign.Slash = refl
sign_numbered sign.Percent = refl
sign_numbered sign.Not = refl

abbrev pub word_number : Word → ℕ
word_number word.Class = 0
word_number word.Coroutine = 1
word_number word.Monitor = 2
word_number word.Cormonitor = 3
word_number word.Task = 4
word_number word.Event = 5
word_number word.Mutex = 6
word_number word.Nomutex = 7
word_number word.Public = 8
word_number word.Private = 9
word_number word.Protected = 10
word_number word.Void = 11
word_number word.Int = 12
word_number word.Char = 13
word_number word.Bool = 14
word_number word.Const = 15
word_number word.Condition = 16
word_number word.Cluster = 17
word_number word.Processor = 18
word_number word.If = 19
word_number word.Else = 20
word_number word.While = 21
word_number word.Do = 22
word_number word.For = 23
word_number word.Break = 24
word_number word.Continue = 25
word_number word.Return = 26
word_number word.Try = 27
word_number word.Catch = 28
word_number word.CatchResume = 29
word_number word.ThrowEvent = 30
word_number word.ResumeEvent = 31
word_number word.At = 32
word_number word.Enable = 33
word_number word.Disable = 34
word_number word.Accept = 35
word_number word.When = 36
word_number word.AcceptElse = 37
word_number word.Or = 38
word_number word.Cout = 39
word_number word.Cin = 40
word_number word.Endl = 41
word_number word.Osacquire = 42
word_number word.True = 43
word_number word.False = 44
word_number word.Using = 45
word_number word.Namespace = 46
word_number word.Std = 47
word_number word.Resume = 48
word_number word.Suspend = 49
word_number word.Yield = 50
word_number word.Migrate = 51
word_number word.UMain = 52

word_numbered : (w : Word) → slice_get words (word_number w) ≡ Some w
word_numbered word.Class = refl
word_numbered word.Coroutine = refl
word_numbered word.Monitor = refl
word_numbered word.Cormonitor = refl
word_numbered word.Task = refl
word_numbered word.Event = refl
word_numbered word.Mutex = refl
word_numbered word.Nomutex = refl
word_numbered word.Public = refl
word_numbered word.Private = refl
word_numbered word.Protected = refl
word_numbered word.Void = refl
word_numbered word.Int = refl
word_numbered word.Char = refl
word_numbered word.Bool = refl
word_numbered word.Const = refl
word_numbered word.Condition = refl
word_numbered word.Cluster = refl
word_numbered word.Processor = refl
word_numbered word.If = refl
word_numbered word.Else = refl
word_numbered word.While = refl
word_numbered word.Do = refl
word_numbered word.For = refl
word_numbered word.Break = refl
word_numbered word.Continue = refl
word_numbered word.Return = refl
word_numbered word.Try = refl
word_numbered word.Catch = refl
word_numbered word.CatchResume = refl
word_numbered word.ThrowEvent = refl
word_numbered word.ResumeEvent = refl
word_numbered word.At = refl
word_numbered word.Enable = refl
word_numbered word.Disable = refl
word_numbered word.Accept = refl
word_numbered word.When = refl
word_numbered word.AcceptElse = refl
word_numbered word.Or = refl
word_numbered word.Cout = refl
word_numbered word.Cin = refl
word_numbered word.Endl = refl
word_numbered word.Osacquire = refl
word_numbered word.True = refl
word_numbered word.False = refl
word_numbered word.Using = refl
word_numbered word.Namespace = refl
word_numbered word.Std = refl
word_numbered word.Resume = refl
word_numbered word.Suspend = refl
word_numbered word.Yield = refl
word_numbered word.Migrate = refl
word_numbered word.UMain = refl

signs_decided : (s t : Sign) → Decides (sign_number s == sign_number t) (s ≡ t)
signs_decided s t = (
  λ b. let e : slice_get signs (sign_number s) ≡ slice_get signs (sign_number t) = ap (slice_get signs) ((Decides-eqb (sign_number s) (sign_number t)).0 b) in
      let d : ◌≡◌ {A = Option Sign} (Some s) (Some t) = sym (sign_numbered s) ∙ e ∙ sign_numbered t in cc,
  λ e. (Decides-eqb (sign_number s) (sign_number t)).1 (ap sign_number e),
)

words_decided : (s t : Word) → Decides (word_number s == word_number t) (s ≡ t)
words_decided s t = (
  λ b. let e : slice_get words (word_number s) ≡ slice_get words (word_number t) = ap (slice_get words) ((Decides-eqb (word_number s) (word_number t)).0 b) in
      let d : ◌≡◌ {A = Option Word} (Some s) (Some t) = sym (word_numbered s) ∙ e ∙ word_numbered t in cc,
  λ e. (Decides-eqb (word_number s) (word_number t)).1 (ap word_number e),
)

abbrev pub same_kind : TokenKind → TokenKind → Bool
same_kind (token.Name m) (token.Name n) = bytes_eq m n
same_kind (token.Number m) (token.Number n) = int_eq m n
same_kind (token.Character m) (token.Character n) = m == n
same_kind (token.Text m) (token.Text n) = bytes_eq m n
same_kind (token.Word v) (token.Word w) = word_number v == word_number w
same_kind (token.Sign r) (token.Sign s) = sign_number r == sign_number s
same_kind _ _ = false

-- a decision of two values, seen through a constructor
along : {A B : Type 0} (f : A → B) (b : Bool) (x y : A) → (f x ≡ f y → x ≡ y) → Decides b (x ≡ y) → Decides b (f x ≡ f y)
along f b x y back d = (λ e. ap f (d.0 e), λ e. d.1 (back e))

never : (P : Type 0) → (P → ⊥) → Decides false P
never P other = (λ e. cc, λ p. absurd (other p))

kinds_decided : (s t : TokenKind) → Decides (same_kind s t) (s ≡ t)
kinds_decided (token.Name m) (token.Name n) = along (λ x. token.Name x) (bytes_eq m n) m n (λ e. cc) (bytes_eq-Decides m n)
kinds_decided (token.Number m) (token.Number n) = along (λ x. token.Number x) (int_eq m n) m n (λ e. cc) (Decides-int_eq m n)
kinds_decided (token.Character m) (token.Character n) = along (λ x. token.Character x) (m == n) m n (λ e. cc) (Decides-eqb m n)
kinds_decided (token.Text m) (token.Text n) = along (λ x. token.Text x) (bytes_eq m n) m n (λ e. cc) (bytes_eq-Decides m n)
kinds_decided (token.Word m) (token.Word n) = along (λ x. token.Word x) (word_number m == word_number n) m n (λ e. cc) (words_decided m n)
kinds_decided (token.Sign m) (token.Sign n) = along (λ x. token.Sign x) (sign_number m == sign_number n) m n (λ e. cc) (signs_decided m n)
kinds_decided (token.Name m) (token.Number n) = never (token.Name m ≡ token.Number n) (λ e. cc)
kinds_decided (token.Name m) (token.Character n) = never (token.Name m ≡ token.Character n) (λ e. cc)
kinds_decided (token.Name m) (token.Text n) = never (token.Name m ≡ token.Text n) (λ e. cc)
kinds_decided (token.Name m) (token.Word n) = never (token.Name m ≡ token.Word n) (λ e. cc)
kinds_decided (token.Name m) (token.Sign n) = never (token.Name m ≡ token.Sign n) (λ e. cc)
kinds_decided (token.Number m) (token.Name n) = never (token.Number m ≡ token.Name n) (λ e. cc)
kinds_decided (token.Number m) (token.Character n) = never (token.Number m ≡ token.Character n) (λ e. cc)
kinds_decided (token.Number m) (token.Text n) = never (token.Number m ≡ token.Text n) (λ e. cc)
kinds_decided (token.Number m) (token.Word n) = never (token.Number m ≡ token.Word n) (λ e. cc)
kinds_decided (token.Number m) (token.Sign n) = never (token.Number m ≡ token.Sign n) (λ e. cc)
kinds_decided (token.Character m) (token.Name n) = never (token.Character m ≡ token.Name n) (λ e. cc)
kinds_decided (token.Character m) (token.Number n) = never (token.Character m ≡ token.Number n) (λ e. cc)
kinds_decided (token.Character m) (token.Text n) = never (token.Character m ≡ token.Text n) (λ e. cc)
kinds_decided (token.Character m) (token.Word n) = never (token.Character m ≡ token.Word n) (λ e. cc)
kinds_decided (token.Character m) (token.Sign n) = never (token.Character m ≡ token.Sign n) (λ e. cc)
kinds_decided (token.Text m) (token.Name n) = never (token.Text m ≡ token.Name n) (λ e. cc)
kinds_decided (token.Text m) (token.Number n) = never (token.Text m ≡ token.Number n) (λ e. cc)
kinds_decided (token.Text m) (token.Character n) = never (token.Text m ≡ token.Character n) (λ e. cc)
kinds_decided (token.Text m) (token.Word n) = never (token.Text m ≡ token.Word n) (λ e. cc)
kinds_decided (token.Text m) (token.Sign n) = never (token.Text m ≡ token.Sign n) (λ e. cc)
kinds_decided (token.Word m) (token.Name n) = never (token.Word m ≡ token.Name n) (λ e. cc)
kinds_decided (token.Word m) (token.Number n) = never (token.Word m ≡ token.Number n) (λ e. cc)
kinds_decided (token.Word m) (token.Character n) = never (token.Word m ≡ token.Character n) (λ e. cc)
kinds_decided (token.Word m) (token.Text n) = never (token.Word m ≡ token.Text n) (λ e. cc)
kinds_decided (token.Word m) (token.Sign n) = never (token.Word m ≡ token.Sign n) (λ e. cc)
kinds_decided (token.Sign m) (token.Name n) = never (token.Sign m ≡ token.Name n) (λ e. cc)
kinds_decided (token.Sign m) (token.Number n) = never (token.Sign m ≡ token.Number n) (λ e. cc)
kinds_decided (token.Sign m) (token.Character n) = never (token.Sign m ≡ token.Character n) (λ e. cc)
kinds_decided (token.Sign m) (token.Text n) = never (token.Sign m ≡ token.Text n) (λ e. cc)
kinds_decided (token.Sign m) (token.Word n) = never (token.Sign m ≡ token.Word n) (λ e. cc)

-- whether the token that is next is this one
abbrev pub is_next : Option TokenKind → TokenKind → Bool
is_next None t = false
is_next (Some s) t = same_kind s t

pub next_decided : (o : Option TokenKind) (t : TokenKind) → Decides (is_next o t) (o ≡ Some t)
next_decided None t = never (◌≡◌ {A = Option TokenKind} None (Some t)) (λ e. cc)
next_decided (Some s) t = along (λ x. Some x) (same_kind s t) s t (λ e. cc) (kinds_decided s t)
