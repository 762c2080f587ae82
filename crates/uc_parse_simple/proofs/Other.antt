-- A token that is none of those that a form asks for by name.
use Rattle.std.proofs.Common.{◌≡◌, ℕ, List, Option, Some, None, IsTrue, refl}
use Rattle.uc_tree.specs.declared.pos.Pos.{Pos}
use Rattle.uc_tree.specs.declared.token.TokenKind.{TokenKind}
use Rattle.uc_tree.specs.declared.token.TokenKind.TheVariants as token
use Rattle.uc_tree.specs.declared.token.Word.TheVariants as word
use Rattle.uc_tree.specs.Statements.{OutItem, Printed}
use Rattle.uc_grammar.specs.Names.{Simple}
use Rattle.uc_grammar.specs.Form.{Form, apply}
use Rattle.uc_grammar.specs.Grammar.{out_at, sum_form, named_at}
use Rattle.uc_parse_simple.specs.Forms.{is_name, named_decl, named_expr}

-- What begins with a name is a declaration where a name follows, and else an expression.
pub named_twice : (P : Form Simple → Type 0) (pos : Pos) (n : List ℕ) (o : Option TokenKind) → IsTrue (is_name o) → P (named_decl pos n) → P (named_at pos n o)
named_twice P pos n None b r = cc
named_twice P pos n (Some (token.Name k)) b r = r
named_twice P pos n (Some (token.Number k)) b r = cc
named_twice P pos n (Some (token.Character k)) b r = cc
named_twice P pos n (Some (token.Text k)) b r = cc
named_twice P pos n (Some (token.Word k)) b r = cc
named_twice P pos n (Some (token.Sign k)) b r = cc

pub named_once : (P : Form Simple → Type 0) (pos : Pos) (n : List ℕ) (o : Option TokenKind) → (IsTrue (is_name o) → ⊥) → P (named_expr pos n) → P (named_at pos n o)
named_once P pos n None b r = r
named_once P pos n (Some (token.Name k)) b r = absurd (b refl)
named_once P pos n (Some (token.Number k)) b r = r
named_once P pos n (Some (token.Character k)) b r = r
named_once P pos n (Some (token.Text k)) b r = r
named_once P pos n (Some (token.Word k)) b r = r
named_once P pos n (Some (token.Sign k)) b r = r

-- What is printed is a sum, where it is neither `endl` nor a text.
pub other_item : (P : Form OutItem → Type 0) (own : Pos) (o : Option TokenKind) → (o ≡ Some (token.Word word.Endl) → ⊥) → ((t : List ℕ) → o ≡ Some (token.Text t) → ⊥) → P (apply (Printed own) sum_form) → P (out_at own o)
other_item P own None n m r = r
other_item P own (Some (token.Name k)) n m r = r
other_item P own (Some (token.Number k)) n m r = r
other_item P own (Some (token.Character k)) n m r = r
other_item P own (Some (token.Sign s)) n m r = r
other_item P own (Some (token.Text t)) n m r = absurd (m t refl)
other_item P own (Some (token.Word word.Class)) n m r = r
other_item P own (Some (token.Word word.Coroutine)) n m r = r
other_item P own (Some (token.Word word.Monitor)) n m r = r
other_item P own (Some (token.Word word.Cormonitor)) n m r = r
other_item P own (Some (token.Word word.Task)) n m r = r
other_item P own (Some (token.Word word.Event)) n m r = r
other_item P own (Some (token.Word word.Mutex)) n m r = r
other_item P own (Some (token.Word word.Nomutex)) n m r = r
other_item P own (Some (token.Word word.Public)) n m r = r
other_item P own (Some (token.Word word.Private)) n m r = r
other_item P own (Some (token.Word word.Protected)) n m r = r
other_item P own (Some (token.Word word.Void)) n m r = r
other_item P own (Some (token.Word word.Int)) n m r = r
other_item P own (Some (token.Word word.Char)) n m r = r
other_item P own (Some (token.Word word.Bool)) n m r = r
other_item P own (Some (token.Word word.Const)) n m r = r
other_item P own (Some (token.Word word.Condition)) n m r = r
other_item P own (Some (token.Word word.Cluster)) n m r = r
other_item P own (Some (token.Word word.Processor)) n m r = r
other_item P own (Some (token.Word word.If)) n m r = r
other_item P own (Some (token.Word word.Else)) n m r = r
other_item P own (Some (token.Word word.While)) n m r = r
other_item P own (Some (token.Word word.Do)) n m r = r
other_item P own (Some (token.Word word.For)) n m r = r
other_item P own (Some (token.Word word.Break)) n m r = r
other_item P own (Some (token.Word word.Continue)) n m r = r
other_item P own (Some (token.Word word.Return)) n m r = r
other_item P own (Some (token.Word word.Try)) n m r = r
other_item P own (Some (token.Word word.Catch)) n m r = r
other_item P own (Some (token.Word word.CatchResume)) n m r = r
other_item P own (Some (token.Word word.ThrowEvent)) n m r = r
other_item P own (Some (token.Word word.ResumeEvent)) n m r = r
other_item P own (Some (token.Word word.At)) n m r = r
other_item P own (Some (token.Word word.Enable)) n m r = r
other_item P own (Some (token.Word word.Disable)) n m r = r
other_item P own (Some (token.Word word.Accept)) n m r = r
other_item P own (Some (token.Word word.When)) n m r = r
other_item P own (Some (token.Word word.AcceptElse)) n m r = r
other_item P own (Some (token.Word word.Or)) n m r = r
other_item P own (Some (token.Word word.Cout)) n m r = r
other_item P own (Some (token.Word word.Cin)) n m r = r
other_item P own (Some (token.Word word.Endl)) n m r = absurd (n refl)
other_item P own (Some (token.Word word.Osacquire)) n m r = r
other_item P own (Some (token.Word word.True)) n m r = r
other_item P own (Some (token.Word word.False)) n m r = r
other_item P own (Some (token.Word word.Using)) n m r = r
other_item P own (Some (token.Word word.Namespace)) n m r = r
other_item P own (Some (token.Word word.Std)) n m r = r
other_item P own (Some (token.Word word.Resume)) n m r = r
other_item P own (Some (token.Word word.Suspend)) n m r = r
other_item P own (Some (token.Word word.Yield)) n m r = r
other_item P own (Some (token.Word word.Migrate)) n m r = r
other_item P own (Some (token.Word word.UMain)) n m r = r
