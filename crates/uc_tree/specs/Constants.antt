-- The values of constants, and the lengths that are built of them.
use Rattle.std.specs.Prelude.{ℕ, zero, suc, ℤ, pos, ◌+ℤ◌, ◌-ℤ◌, ◌*ℤ◌, List, [], ◌∷◌, Bool, true, false, ◌&&◌, Option, Some, None, option_map, option_and_then, if◌then◌else◌, nat_le, int_div, int_rem, int_le, neg_ℤ, length, negsuc}
use Rattle.std.specs.Int.{int_rem_euclid}
use Rattle.std.specs.Ordering.{int_eq}
use Rattle.uc_tree.specs.declared.limits.TheConstants.{INT_MIN, INT_MAX, CHAR_VALUES, ARRAY_LENGTH}
use Rattle.uc_tree.specs.declared.kinds.Base.{Base}
use Rattle.uc_tree.specs.declared.kinds.Base.TheVariants as base
use Rattle.uc_tree.specs.declared.ops.UnaryOp.{UnaryOp}
use Rattle.uc_tree.specs.declared.ops.UnaryOp.TheVariants as unary
use Rattle.uc_tree.specs.declared.ops.BinaryOp.{BinaryOp}
use Rattle.uc_tree.specs.declared.ops.BinaryOp.TheVariants as binary
use Rattle.uc_tree.specs.Names.{same_name}
use Rattle.uc_tree.specs.Expressions.{Expr, Number, Character, Truth, Name, Cin, Postfix, Unary, Chain, Assign, Link, Linked, Links, NoLinks, MoreLinks}
use Rattle.uc_tree.specs.Statements.{Declarator}
use Rattle.uc_tree.specs.Programs.{Constant, Item, ClassItem, RoutineItem, ConstItem, ProtoItem, ForwardItem, UsingItem}

-- a number where it is an `int`
abbrev pub int_value : ℤ → Option ℤ
int_value z = if int_le INT_MIN z && int_le z INT_MAX then Some z else None

abbrev pub truth_value : Bool → ℤ
truth_value false = pos 0
truth_value true = pos 1

abbrev pub unary_value : UnaryOp → ℤ → Option ℤ
unary_value unary.Minus x = int_value (neg_ℤ x)
unary_value unary.Plus x = Some x
unary_value unary.Not x = None
unary_value unary.Increment x = None
unary_value unary.Decrement x = None

-- the operators that a constant may have; a fault gives no value
abbrev pub binary_value : BinaryOp → ℤ → ℤ → Option ℤ
binary_value binary.Or x y = None
binary_value binary.And x y = None
binary_value binary.Equal x y = None
binary_value binary.NotEqual x y = None
binary_value binary.Less x y = None
binary_value binary.LessEqual x y = None
binary_value binary.Greater x y = None
binary_value binary.GreaterEqual x y = None
binary_value binary.Add x y = int_value (x +ℤ y)
binary_value binary.Sub x y = int_value (x -ℤ y)
binary_value binary.Mul x y = int_value (x *ℤ y)
binary_value binary.Div x y = if int_eq y (pos 0) then None else int_value (int_div x y)
binary_value binary.Rem x y = if int_eq y (pos 0) then None else int_value (int_rem x y)

abbrev pub both : BinaryOp → Option ℤ → Option ℤ → Option ℤ
both op a b = option_and_then (λ x. option_and_then (λ y. binary_value op x y) b) a

-- the value of a constant expression, in which `named` gives the values of names; nothing else has one
abbrev mutual
  pub value_in : Expr → (List ℕ → Option ℤ) → Option ℤ
  value_in (Number p n) named = int_value n
  value_in (Character p byte) named = Some (pos byte)
  value_in (Truth p b) named = Some (truth_value b)
  value_in (Name p name) named = named name
  value_in (Cin p) named = None
  value_in (Postfix p root parts) named = None
  value_in (Unary p op operand) named = option_and_then (unary_value op) (value_in operand named)
  value_in (Chain p first rest) named = chain_value_in rest (value_in first named) named
  value_in (Assign p sign op place value) named = None

  pub link_value_in : Link → Option ℤ → (List ℕ → Option ℤ) → Option ℤ
  link_value_in (Linked sign op right) left named = both op left (value_in right named)

  pub chain_value_in : Links → Option ℤ → (List ℕ → Option ℤ) → Option ℤ
  chain_value_in NoLinks left named = left
  chain_value_in (MoreLinks first rest) left named = chain_value_in rest (link_value_in first left named) named

-- a constant holds its value as its type does
abbrev pub converted : Base → ℤ → ℤ
converted base.Void x = x
converted base.Int x = x
converted base.Char x = int_rem_euclid x CHAR_VALUES
converted base.Bool x = if int_eq x (pos 0) then pos 0 else pos 1
converted base.Condition x = x
converted base.Cluster x = x
converted base.Processor x = x
converted (base.Named name) x = x

-- the constants of a program, in textual order
abbrev pub constants_of : List Item → List Constant
constants_of [] = []
constants_of (ClassItem class ∷ is) = constants_of is
constants_of (RoutineItem routine ∷ is) = constants_of is
constants_of (ConstItem constant ∷ is) = constant ∷ constants_of is
constants_of (ProtoItem sig ∷ is) = constants_of is
constants_of (ForwardItem forward ∷ is) = constants_of is
constants_of (UsingItem place ∷ is) = constants_of is

abbrev pub constant_named : List Constant → List ℕ → Option Constant
constant_named [] name = None
constant_named (c ∷ cs) name = if same_name c.name name then Some c else constant_named cs name

abbrev pub own_value : (List ℕ → Option ℤ) → Constant → Option ℤ
own_value named c = option_map (converted c.base) (value_in c.value named)

-- the value of a constant that names others at most so many deep; constants may name later ones, and a circle has no value
unfoldable pub constant_value : ℕ → List Constant → List ℕ → Option ℤ
constant_value zero cs name = None
constant_value (suc depth) cs name = option_and_then (own_value (constant_value depth cs)) (constant_named cs name)

abbrev pub value_of_name : List Constant → List ℕ → Option ℤ
value_of_name cs = constant_value (length cs) cs

-- a length of 1 to 65,536; a broken one counts as 1
abbrev pub sound_length : Option ℤ → ℕ
sound_length None = 1
sound_length (Some (pos n)) = if nat_le 1 n && nat_le n ARRAY_LENGTH then n else 1
sound_length (Some (negsuc n)) = 1

abbrev pub length_in : (List ℕ → Option ℤ) → Option Expr → ℕ
length_in named None = 1
length_in named (Some e) = sound_length (value_in e named)

-- how many elements a declarator declares: a reference is one
abbrev pub elements : (List ℕ → Option ℤ) → Declarator → ℕ
elements named d = if d.by_ref then 1 else length_in named d.len
