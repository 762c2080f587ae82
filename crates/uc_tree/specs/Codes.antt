-- Codes: how a value of a tree is stored as a tree of numbers, and read back.
use Rattle.std.specs.Prelude.{◌≡◌, ℕ, zero, suc, ℤ, pos, negsuc, List, [], ◌∷◌, Bool, true, false, Option, Some, None, refl}
use Rattle.std.proofs.Common.{sym, ◌∙◌, ap}
use base.Stored.{Coded, Gv, gnil, gnum, gcons, num}
use Rattle.uc_tree.specs.declared.pos.Pos.{Pos}
use Rattle.uc_tree.specs.declared.ops.UnaryOp.{UnaryOp}
use Rattle.uc_tree.specs.declared.ops.UnaryOp.TheVariants as unary_op
use Rattle.uc_tree.specs.declared.ops.BinaryOp.{BinaryOp}
use Rattle.uc_tree.specs.declared.ops.BinaryOp.TheVariants as binary_op
use Rattle.uc_tree.specs.declared.ops.AssignOp.{AssignOp}
use Rattle.uc_tree.specs.declared.ops.AssignOp.TheVariants as assign_op
use Rattle.uc_tree.specs.declared.ops.StepOp.{StepOp}
use Rattle.uc_tree.specs.declared.ops.StepOp.TheVariants as step_op
use Rattle.uc_tree.specs.declared.kinds.HandlerKind.{HandlerKind}
use Rattle.uc_tree.specs.declared.kinds.HandlerKind.TheVariants as handler_kind
use Rattle.uc_tree.specs.declared.kinds.Kind.{Kind}
use Rattle.uc_tree.specs.declared.kinds.Kind.TheVariants as kind
use Rattle.uc_tree.specs.declared.kinds.Access.{Access}
use Rattle.uc_tree.specs.declared.kinds.Access.TheVariants as access
use Rattle.uc_tree.specs.declared.kinds.MutexMark.{MutexMark}
use Rattle.uc_tree.specs.declared.kinds.MutexMark.TheVariants as mark
use Rattle.uc_tree.specs.declared.kinds.Role.{Role}
use Rattle.uc_tree.specs.declared.kinds.Role.TheVariants as role

pub record Codec (A : Type 0) : Type 0 where
  pub code : A → Gv
  pub back : Gv → A
  pub again : (x : A) → back (code x) ≡ x

-- what a code is to the checker: one to one
abbrev pub coded_by : {A : Type 0} → Codec A → Coded A
coded_by c = record { code = c.code; inj = λ x y p. sym (c.again x) ∙ ap c.back p ∙ c.again y }

-- a type is stored as another, to which and from which it goes
abbrev pub via : {A B : Type 0} → Codec B → (to : A → B) → (from : B → A) → ((x : A) → from (to x) ≡ x) → Codec A
via c to from h = record { code = λ x. c.code (to x); back = λ g. from (c.back g); again = λ x. ap from (c.again (to x)) ∙ h x }

abbrev pub by_number : {A : Type 0} → (number : A → ℕ) → (of : ℕ → A) → ((x : A) → of (number x) ≡ x) → Codec A
by_number number of h = record { code = λ x. gnum (number x); back = λ g. of (num g); again = h }

abbrev pub nat_codec : Codec ℕ
nat_codec = record { code = gnum; back = num; again = λ x. refl }

abbrev flag_number : Bool → ℕ
flag_number true = 1
flag_number false = 0

abbrev flag_of : ℕ → Bool
flag_of zero = false
flag_of (suc _) = true

abbrev flag_again : (b : Bool) → flag_of (flag_number b) ≡ b
flag_again true = refl
flag_again false = refl

abbrev pub flag_codec : Codec Bool
flag_codec = by_number flag_number flag_of flag_again

abbrev int_code : ℤ → Gv
int_code (pos n) = gcons (gnum 0) (gnum n)
int_code (negsuc n) = gcons (gnum 1) (gnum n)

abbrev int_back : Gv → ℤ
int_back (gcons (gnum zero) n) = pos (num n)
int_back (gcons (gnum (suc _)) n) = negsuc (num n)
int_back _ = pos 0

abbrev int_again : (x : ℤ) → int_back (int_code x) ≡ x
int_again (pos n) = refl
int_again (negsuc n) = refl

abbrev pub int_codec : Codec ℤ
int_codec = record { code = int_code; back = int_back; again = int_again }

module _ {A : Type 0} (c : Codec A) where
  abbrev list_code : List A → Gv
  list_code [] = gnil
  list_code (x ∷ xs) = gcons (c.code x) (list_code xs)

  abbrev list_back : Gv → List A
  list_back (gcons x xs) = c.back x ∷ list_back xs
  list_back _ = []

  abbrev list_again : (xs : List A) → list_back (list_code xs) ≡ xs
  list_again [] = refl
  list_again (x ∷ xs) = λ i. c.again x i ∷ list_again xs i

  abbrev pub list_codec : Codec (List A)
  list_codec = record { code = list_code; back = list_back; again = list_again }

  abbrev option_code : Option A → Gv
  option_code None = gnil
  option_code (Some x) = gcons gnil (c.code x)

  abbrev option_back : Gv → Option A
  option_back (gcons _ x) = Some (c.back x)
  option_back _ = None

  abbrev option_again : (o : Option A) → option_back (option_code o) ≡ o
  option_again None = refl
  option_again (Some x) = λ i. Some (c.again x i)

  abbrev pub option_codec : Codec (Option A)
  option_codec = record { code = option_code; back = option_back; again = option_again }

module _ {A B : Type 0} (a : Codec A) (b : Codec B) where
  abbrev pair_back : Gv → A × B
  pair_back (gcons x y) = (a.back x, b.back y)
  pair_back _ = (a.back gnil, b.back gnil)

  abbrev pub pair_codec : Codec (A × B)
  pair_codec = record { code = λ p. gcons (a.code p.0) (b.code p.1); back = pair_back; again = λ p i. (a.again p.0 i, b.again p.1 i) }

-- a name or a text
abbrev pub name_codec : Codec (List ℕ)
name_codec = list_codec nat_codec

abbrev pub maybe_name_codec : Codec (Option (List ℕ))
maybe_name_codec = option_codec name_codec

abbrev pos_back : Gv → Pos
pos_back (gcons a b) = record { line = num a; col = num b }
pos_back _ = record { line = 0; col = 0 }

abbrev pub pos_codec : Codec Pos
pos_codec = record { code = λ p. gcons (gnum p.line) (gnum p.col); back = pos_back; again = λ p. refl }

-- a place that no token has
abbrev pub no_pos : Pos
no_pos = record { line = 0; col = 0 }

abbrev unary_op_number : UnaryOp → ℕ
unary_op_number unary_op.Minus = 0
unary_op_number unary_op.Plus = 1
unary_op_number unary_op.Not = 2
unary_op_number unary_op.Increment = 3
unary_op_number unary_op.Decrement = 4

abbrev unary_op_of : ℕ → UnaryOp
unary_op_of zero = unary_op.Minus
unary_op_of (suc zero) = unary_op.Plus
unary_op_of (suc (suc zero)) = unary_op.Not
unary_op_of (suc (suc (suc zero))) = unary_op.Increment
unary_op_of _ = unary_op.Decrement

abbrev unary_op_again : (x : UnaryOp) → unary_op_of (unary_op_number x) ≡ x
unary_op_again unary_op.Minus = refl
unary_op_again unary_op.Plus = refl
unary_op_again unary_op.Not = refl
unary_op_again unary_op.Increment = refl
unary_op_again unary_op.Decrement = refl

abbrev pub unary_op_codec : Codec UnaryOp
unary_op_codec = by_number unary_op_number unary_op_of unary_op_again

abbrev binary_op_number : BinaryOp → ℕ
binary_op_number binary_op.Or = 0
binary_op_number binary_op.And = 1
binary_op_number binary_op.Equal = 2
binary_op_number binary_op.NotEqual = 3
binary_op_number binary_op.Less = 4
binary_op_number binary_op.LessEqual = 5
binary_op_number binary_op.Greater = 6
binary_op_number binary_op.GreaterEqual = 7
binary_op_number binary_op.Add = 8
binary_op_number binary_op.Sub = 9
binary_op_number binary_op.Mul = 10
binary_op_number binary_op.Div = 11
binary_op_number binary_op.Rem = 12

abbrev binary_op_of : ℕ → BinaryOp
binary_op_of zero = binary_op.Or
binary_op_of (suc zero) = binary_op.And
binary_op_of (suc (suc zero)) = binary_op.Equal
binary_op_of (suc (suc (suc zero))) = binary_op.NotEqual
binary_op_of (suc (suc (suc (suc zero)))) = binary_op.Less
binary_op_of (suc (suc (suc (suc (suc zero))))) = binary_op.LessEqual
binary_op_of (suc (suc (suc (suc (suc (suc zero)))))) = binary_op.Greater
binary_op_of (suc (suc (suc (suc (suc (suc (suc zero))))))) = binary_op.GreaterEqual
binary_op_of (suc (suc (suc (suc (suc (suc (suc (suc zero)))))))) = binary_op.Add
binary_op_of (suc (suc (suc (suc (suc (suc (suc (suc (suc zero))))))))) = binary_op.Sub
binary_op_of (suc (suc (suc (suc (suc (suc (suc (suc (suc (suc zero)))))))))) = binary_op.Mul
binary_op_of (suc (suc (suc (suc (suc (suc (suc (suc (suc (suc (suc zero))))))))))) = binary_op.Div
binary_op_of _ = binary_op.Rem

abbrev binary_op_again : (x : BinaryOp) → binary_op_of (binary_op_number x) ≡ x
binary_op_again binary_op.Or = refl
binary_op_again binary_op.And = refl
binary_op_again binary_op.Equal = refl
binary_op_again binary_op.NotEqual = refl
binary_op_again binary_op.Less = refl
binary_op_again binary_op.LessEqual = refl
binary_op_again binary_op.Greater = refl
binary_op_again binary_op.GreaterEqual = refl
binary_op_again binary_op.Add = refl
binary_op_again binary_op.Sub = refl
binary_op_again binary_op.Mul = refl
binary_op_again binary_op.Div = refl
binary_op_again binary_op.Rem = refl

abbrev pub binary_op_codec : Codec BinaryOp
binary_op_codec = by_number binary_op_number binary_op_of binary_op_again

abbrev assign_op_number : AssignOp → ℕ
assign_op_number assign_op.Set = 0
assign_op_number assign_op.Add = 1
assign_op_number assign_op.Sub = 2
assign_op_number assign_op.Mul = 3
assign_op_number assign_op.Div = 4
assign_op_number assign_op.Rem = 5

abbrev assign_op_of : ℕ → AssignOp
assign_op_of zero = assign_op.Set
assign_op_of (suc zero) = assign_op.Add
assign_op_of (suc (suc zero)) = assign_op.Sub
assign_op_of (suc (suc (suc zero))) = assign_op.Mul
assign_op_of (suc (suc (suc (suc zero)))) = assign_op.Div
assign_op_of _ = assign_op.Rem

abbrev assign_op_again : (x : AssignOp) → assign_op_of (assign_op_number x) ≡ x
assign_op_again assign_op.Set = refl
assign_op_again assign_op.Add = refl
assign_op_again assign_op.Sub = refl
assign_op_again assign_op.Mul = refl
assign_op_again assign_op.Div = refl
assign_op_again assign_op.Rem = refl

abbrev pub assign_op_codec : Codec AssignOp
assign_op_codec = by_number assign_op_number assign_op_of assign_op_again

abbrev step_op_number : StepOp → ℕ
step_op_number step_op.Increment = 0
step_op_number step_op.Decrement = 1

abbrev step_op_of : ℕ → StepOp
step_op_of zero = step_op.Increment
step_op_of _ = step_op.Decrement

abbrev step_op_again : (x : StepOp) → step_op_of (step_op_number x) ≡ x
step_op_again step_op.Increment = refl
step_op_again step_op.Decrement = refl

abbrev pub step_op_codec : Codec StepOp
step_op_codec = by_number step_op_number step_op_of step_op_again

abbrev handler_kind_number : HandlerKind → ℕ
handler_kind_number handler_kind.Catch = 0
handler_kind_number handler_kind.CatchResume = 1

abbrev handler_kind_of : ℕ → HandlerKind
handler_kind_of zero = handler_kind.Catch
handler_kind_of _ = handler_kind.CatchResume

abbrev handler_kind_again : (x : HandlerKind) → handler_kind_of (handler_kind_number x) ≡ x
handler_kind_again handler_kind.Catch = refl
handler_kind_again handler_kind.CatchResume = refl

abbrev pub handler_kind_codec : Codec HandlerKind
handler_kind_codec = by_number handler_kind_number handler_kind_of handler_kind_again

abbrev kind_number : Kind → ℕ
kind_number kind.Class = 0
kind_number kind.Coroutine = 1
kind_number kind.Monitor = 2
kind_number kind.Cormonitor = 3
kind_number kind.Task = 4
kind_number kind.Event = 5

abbrev kind_of : ℕ → Kind
kind_of zero = kind.Class
kind_of (suc zero) = kind.Coroutine
kind_of (suc (suc zero)) = kind.Monitor
kind_of (suc (suc (suc zero))) = kind.Cormonitor
kind_of (suc (suc (suc (suc zero)))) = kind.Task
kind_of _ = kind.Event

abbrev kind_again : (x : Kind) → kind_of (kind_number x) ≡ x
kind_again kind.Class = refl
kind_again kind.Coroutine = refl
kind_again kind.Monitor = refl
kind_again kind.Cormonitor = refl
kind_again kind.Task = refl
kind_again kind.Event = refl

abbrev pub kind_codec : Codec Kind
kind_codec = by_number kind_number kind_of kind_again

abbrev access_number : Access → ℕ
access_number access.Public = 0
access_number access.Private = 1
access_number access.Protected = 2

abbrev access_of : ℕ → Access
access_of zero = access.Public
access_of (suc zero) = access.Private
access_of _ = access.Protected

abbrev access_again : (x : Access) → access_of (access_number x) ≡ x
access_again access.Public = refl
access_again access.Private = refl
access_again access.Protected = refl

abbrev pub access_codec : Codec Access
access_codec = by_number access_number access_of access_again

abbrev mark_number : MutexMark → ℕ
mark_number mark.Unmarked = 0
mark_number mark.Mutex = 1
mark_number mark.Nomutex = 2

abbrev mark_of : ℕ → MutexMark
mark_of zero = mark.Unmarked
mark_of (suc zero) = mark.Mutex
mark_of _ = mark.Nomutex

abbrev mark_again : (x : MutexMark) → mark_of (mark_number x) ≡ x
mark_again mark.Unmarked = refl
mark_again mark.Mutex = refl
mark_again mark.Nomutex = refl

abbrev pub mark_codec : Codec MutexMark
mark_codec = by_number mark_number mark_of mark_again

abbrev role_number : Role → ℕ
role_number role.Plain = 0
role_number role.Constructor = 1
role_number role.Destructor = 2

abbrev role_of : ℕ → Role
role_of zero = role.Plain
role_of (suc zero) = role.Constructor
role_of _ = role.Destructor

abbrev role_again : (x : Role) → role_of (role_number x) ≡ x
role_again role.Plain = refl
role_again role.Constructor = refl
role_again role.Destructor = refl

abbrev pub role_codec : Codec Role
role_codec = by_number role_number role_of role_again
