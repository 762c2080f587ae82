-- How far a text is read before it is too deep: no token enters more than two levels.
use Rattle.std.proofs.Common.{◌≡◌, ℕ, zero, suc, ◌+◌, ◌*◌, ◌-◌, ◌≤◌, ◌<◌, List, Option, Some, None, inl, inr, arith, ◌⊎◌}
use Rattle.uc_tree.specs.declared.pos.Pos.{Pos}
use Rattle.uc_tree.specs.declared.ops.UnaryOp.{UnaryOp}
use Rattle.uc_tree.specs.declared.ops.BinaryOp.{BinaryOp}
use Rattle.uc_tree.specs.declared.ops.AssignOp.{AssignOp}
use Rattle.uc_tree.specs.declared.kinds.Access.{Access}
use Rattle.uc_tree.specs.declared.kinds.Base.{Base}
use Rattle.uc_tree.specs.declared.token.Token.{Token}
use Rattle.uc_tree.specs.declared.token.TokenKind.{TokenKind}
use Rattle.uc_tree.specs.declared.token.TokenKind.TheVariants as token
use Rattle.uc_tree.specs.declared.token.Word.{Word}
use Rattle.uc_tree.specs.declared.token.Word.TheVariants as word
use Rattle.uc_tree.specs.declared.token.Sign.TheVariants as sign
use Rattle.uc_tree.specs.Expressions.{Expr}
use Rattle.uc_tree.specs.Statements.{Stmt}
use Rattle.uc_grammar.specs.declared.fault.ParseFault.{ParseFault}
use Rattle.uc_grammar.specs.declared.fault.ParseFault.TheVariants.{TooDeep}
use Rattle.uc_grammar.specs.declared.level.Level.TheVariants as level
use Rattle.uc_grammar.specs.declared.start.StmtStart.{StmtStart}
use Rattle.uc_grammar.specs.declared.start.StmtStart.TheVariants as start
use Rattle.uc_grammar.specs.Names.{Name, expr_name, unary_name, right_name, stmt_name, block_stmt_name, part_name}
use Rattle.uc_grammar.specs.Spell.{kind_at, pos_at}
use Rattle.uc_grammar.specs.Form.{Form, nothing, empty, skip, expect, token_or, look, here, bind, apply, many, listed, inside, Spells, Fails}
use Rattle.uc_grammar.specs.Tables.{unary_of, binary_of, assign_of, base_of, access_of, sign_of, word_of, stmt_start}
use Rattle.uc_grammar.specs.Grammar.{inner, faults, primary_at, part_at, unary_by, link_by, assigned_by, or_after, unary_form, product_form, sum_form, comparison_form, equality_form, and_form, expr_form, expr_from, stmt_form, class_part_form, program_form, name_at, right_form, simple_at, based_or_expr, stmt_by, mark_at, word_member, member_at, part_by, item_at, word_item, kind_by}
use Rattle.uc_grammar.proofs.Fit.{run_grows, list_grows}
use Rattle.uc_grammar.proofs.AllForms.{fits, grows}

-- a token is read by every piece of the form
Moves : {A : Type 0} → Form A → Type 0
Moves (skip g) = Unit {0}
Moves (expect t g) = Unit {0}
Moves (here k) = (p : Pos) → Moves (k p)
Moves (apply f g) = Moves g
Moves _ = ⊥

moves : {A : Type 0} (g : Form A) (n : ℕ) (ts : List Token) (from to : ℕ) (v : A) → Moves g → Spells (inner n) g ts from to v → from < to
unfolding Moves
moves (skip g) n ts from to v m r = omega (arith, grows g n ts (from + 1) to v r)
moves (expect t g) n ts from to v m r = omega (arith, grows g n ts (from + 1) to v r.1)
moves (here k) n ts from to v m r = moves (k (pos_at ts from)) n ts from to v (m (pos_at ts from)) r
moves (apply f g) n ts from to v m r = moves g n ts from to r.inside m r.spelled
moves _ n ts from to v m r = absurd m

-- what stands one level deeper stands behind a token
Behind : {A : Type 0} → Form A → Type 0
unfolding Moves
Behind nothing = Unit {0}
Behind (empty x) = Unit {0}
Behind (skip g) = Unit {0}
Behind (expect t g) = Unit {0}
Behind (token_or t g h) = Behind h
Behind (look k) = (o : Option TokenKind) → Behind (k o)
Behind (here k) = (p : Pos) → Behind (k p)
Behind (bind {A = A} g h) = Behind g × (Moves g ⊎ ((a : A) → Behind (h a)))
Behind (apply f g) = Behind g
Behind (many p g) = Behind g
Behind (listed g p h) = Behind g × Behind h
Behind (inside x) = ⊥

-- Each level deeper takes half a token at least; one that begins without a token of its own takes none.
module _ (n : ℕ) (below : (A : Type 0) (x : Name A) (ts : List Token) (from k : ℕ) → faults n A x ts from (TooDeep k) → n + 2 * from ≤ 2 * k + 1) where
  at_once : {A : Type 0} (g : Form A) (ts : List Token) (from k : ℕ) → Fails (inner n) (faults n) g ts from (TooDeep k) → n + 2 * from ≤ 2 * k + 1
  at_once nothing ts from k (inl r) = cc
  at_once nothing ts from k (inr r) = cc
  at_once (empty x) ts from k r = cc
  at_once (skip g) ts from k r = omega (arith, at_once g ts (from + 1) k r)
  at_once (expect t g) ts from k (inl r) = let e = r.0 in cc
  at_once (expect t g) ts from k (inr (inl r)) = omega (arith, at_once g ts (from + 1) k r.1)
  at_once (expect t g) ts from k (inr (inr r)) = cc
  at_once (token_or t g h) ts from k (inl r) = omega (arith, at_once g ts (from + 1) k r.1)
  at_once (token_or t g h) ts from k (inr r) = at_once h ts from k r.1
  at_once (look h) ts from k r = at_once (h (kind_at ts from)) ts from k r
  at_once (here h) ts from k r = at_once (h (pos_at ts from)) ts from k r
  at_once (bind g h) ts from k (inl r) = at_once g ts from k r
  at_once (bind g h) ts from k (inr (inl r)) = omega (arith, grows g n ts from r.0 r.1 r.2, at_once (h r.1) ts r.0 k r.3)
  at_once (bind g h) ts from k (inr (inr r)) = cc
  at_once (apply f g) ts from k (inl r) = at_once g ts from k r
  at_once (apply f g) ts from k (inr r) = cc
  at_once (many p g) ts from k (inl r) = omega (arith, run_grows p (Spells (inner n) g) (Spells (inner n) g) (fits g n n) ts from r.0 r.1 r.2, at_once g ts r.0 k r.4)
  at_once (many p g) ts from k (inr r) = cc
  at_once (listed g p h) ts from k (inl r) = at_once g ts from k r
  at_once (listed g p h) ts from k (inr (inl r)) = omega (arith, list_grows p (Spells (inner n) g) (Spells (inner n) g) (Spells (inner n) h) (Spells (inner n) h) (fits g n n) (fits h n n) ts from r.0 r.1 r.2, at_once h ts r.0 k r.4)
  at_once (listed g p h) ts from k (inr (inr r)) = cc
  at_once {A} (inside x) ts from k r = below A x ts from k r

  next : {A B : Type 0} (g : Form A) (h : A → Form B) (ts : List Token) (from k : ℕ) → Moves g ⊎ ((a : A) → Behind (h a)) → (r : (at : ℕ) × (a : A) × Spells (inner n) g ts from at a × Fails (inner n) (faults n) (h a) ts at (TooDeep k)) → (Behind (h r.1) → n + 1 + 2 * r.0 ≤ 2 * k) → n + 1 + 2 * from ≤ 2 * k
  next g h ts from k (inl m) r c = omega (arith, moves g n ts from r.0 r.1 m r.2, at_once (h r.1) ts r.0 k r.3)
  next g h ts from k (inr b) r c = omega (arith, grows g n ts from r.0 r.1 r.2, c (b r.1))

  later : {A : Type 0} (g : Form A) (ts : List Token) (from k : ℕ) → Behind g → Fails (inner n) (faults n) g ts from (TooDeep k) → n + 1 + 2 * from ≤ 2 * k
  unfolding Behind
  later nothing ts from k b (inl r) = cc
  later nothing ts from k b (inr r) = cc
  later (empty x) ts from k b r = cc
  later (skip g) ts from k b r = omega (arith, at_once g ts (from + 1) k r)
  later (expect t g) ts from k b (inl r) = let e = r.0 in cc
  later (expect t g) ts from k b (inr (inl r)) = omega (arith, at_once g ts (from + 1) k r.1)
  later (expect t g) ts from k b (inr (inr r)) = cc
  later (token_or t g h) ts from k b (inl r) = omega (arith, at_once g ts (from + 1) k r.1)
  later (token_or t g h) ts from k b (inr r) = later h ts from k b r.1
  later (look h) ts from k b r = later (h (kind_at ts from)) ts from k (b (kind_at ts from)) r
  later (here h) ts from k b r = later (h (pos_at ts from)) ts from k (b (pos_at ts from)) r
  later (bind g h) ts from k b (inl r) = later g ts from k b.0 r
  later (bind g h) ts from k b (inr (inl r)) = next g h ts from k b.1 r (λ c. later (h r.1) ts r.0 k c r.3)
  later (bind g h) ts from k b (inr (inr r)) = cc
  later (apply f g) ts from k b (inl r) = later g ts from k b r
  later (apply f g) ts from k b (inr r) = cc
  later (many p g) ts from k b (inl r) = omega (arith, run_grows p (Spells (inner n) g) (Spells (inner n) g) (fits g n n) ts from r.0 r.1 r.2, later g ts r.0 k b r.4)
  later (many p g) ts from k b (inr r) = cc
  later (listed g p h) ts from k b (inl r) = later g ts from k b.0 r
  later (listed g p h) ts from k b (inr (inl r)) = omega (arith, list_grows p (Spells (inner n) g) (Spells (inner n) g) (Spells (inner n) h) (Spells (inner n) h) (fits g n n) (fits h n n) ts from r.0 r.1 r.2, later h ts r.0 k b.1 r.4)
  later (listed g p h) ts from k b (inr (inr r)) = cc
  later (inside x) ts from k b r = absurd b

-- The forms of the pieces that stand one level deeper, a statement of a block apart.

primary_behind : (pos : Pos) (o : Option TokenKind) → Behind (primary_at pos o)
unfolding Behind
primary_behind pos (Some (token.Number n)) = tt
primary_behind pos (Some (token.Character c)) = tt
primary_behind pos (Some (token.Word word.True)) = tt
primary_behind pos (Some (token.Word word.False)) = tt
primary_behind pos (Some (token.Name n)) = tt
primary_behind pos (Some (token.Word word.Cin)) = tt
primary_behind pos (Some (token.Sign sign.OpenParen)) = tt
primary_behind pos _ = tt

part_behind : (pos : Pos) (o : Option TokenKind) → Behind (part_at pos o)
unfolding Behind
part_behind pos (Some (token.Sign sign.Dot)) = tt
part_behind pos (Some (token.Sign sign.OpenBracket)) = tt
part_behind pos (Some (token.Sign sign.OpenParen)) = tt
part_behind pos (Some (token.Sign sign.Increment)) = tt
part_behind pos (Some (token.Sign sign.Decrement)) = tt
part_behind pos _ = tt

unary_behind : (u : Option UnaryOp) → Behind (unary_by u)
unfolding Behind
unary_behind None = λ pos. ((λ p o. primary_behind p o), inr (λ e p o. part_behind p o))
unary_behind (Some op) = λ pos. tt

link_behind : (g : Form Expr) (b : Option BinaryOp) → Behind (link_by g b)
unfolding Behind
link_behind g None = tt
link_behind g (Some op) = λ pos. tt

chain_behind : (pos : Pos) (u : Expr) → Behind (or_after pos u)
unfolding Behind
chain_behind pos u = (
  (
    (
      (
        (
          λ o. link_behind unary_form (binary_of level.Product (sign_of o)),
          inr (λ e o. link_behind product_form (binary_of level.Sum (sign_of o))),
        ),
        inr (λ e o. link_behind sum_form (binary_of level.Comparison (sign_of o))),
      ),
      inr (λ e o. link_behind comparison_form (binary_of level.Equality (sign_of o))),
    ),
    inr (λ e o. link_behind equality_form (binary_of level.And (sign_of o))),
  ),
  inr (λ e o. link_behind and_form (binary_of level.Or (sign_of o))),
)

assigned_behind : (g : Form Expr) (pos : Pos) (u : Expr) (a : Option AssignOp) → Behind (assigned_by g pos u a)
unfolding Behind
assigned_behind g pos u None = chain_behind pos u
assigned_behind g pos u (Some op) = λ p. tt

expr_behind : Behind expr_form
unfolding Behind
expr_behind pos = ((λ o. unary_behind (unary_of (sign_of o))), inr (λ u o. assigned_behind right_form pos u (assign_of (sign_of o))))

right_behind : Behind right_form
unfolding Behind
right_behind pos = ((λ o. unary_behind (unary_of (sign_of o))), inr (λ u o. assigned_behind (inside right_name) pos u (assign_of (sign_of o))))

from_behind : (pos : Pos) (e : Expr) → Behind (expr_from pos e)
unfolding Behind
from_behind pos e = ((λ p o. part_behind p o), inr (λ u o. assigned_behind right_form pos u (assign_of (sign_of o))))

based_behind : (pos : Pos) (b : Option Base) → Behind (based_or_expr pos b)
unfolding Behind
based_behind pos None = expr_behind
based_behind pos (Some b) = tt

simple_behind : (pos : Pos) (o : Option TokenKind) → Behind (simple_at pos o)
unfolding Behind
simple_behind pos (Some (token.Name n)) = tt
simple_behind pos o = based_behind pos (base_of (word_of o))

stmt_behind : (pos : Pos) (s : StmtStart) → Behind (stmt_by pos s)
unfolding Behind Moves
stmt_behind pos start.Accept = (((λ p. (tt, inr (λ g. (tt, inl tt)))), tt), inr (λ cs. tt))
stmt_behind pos start.Simple = ((λ p o. simple_behind p o), inr (λ s. tt))
stmt_behind pos _ = tt

mark_behind : (w : Option Word) → Behind (mark_at w)
unfolding Behind
mark_behind (Some word.Mutex) = tt
mark_behind (Some word.Nomutex) = tt
mark_behind _ = tt

word_member_behind : (pos : Pos) (b : Option Base) → Behind (word_member pos b)
unfolding Behind
word_member_behind pos None = tt
word_member_behind pos (Some b) = tt

member_behind : (pos : Pos) (o : Option TokenKind) → Behind (member_at pos o)
unfolding Behind
member_behind pos (Some (token.Sign sign.Tilde)) = tt
member_behind pos (Some (token.Name n)) = tt
member_behind pos o = word_member_behind pos (base_of (word_of o))

part_of_class_behind : (pos : Pos) (a : Option Access) → Behind (part_by pos a)
unfolding Behind
part_of_class_behind pos (Some a) = tt
part_of_class_behind pos None = ((λ o. mark_behind (word_of o)), inr (λ m p o. member_behind p o))

kind_behind : (w : Option Word) → Behind (kind_by w)
unfolding Behind
kind_behind (Some word.Class) = tt
kind_behind (Some word.Coroutine) = tt
kind_behind (Some word.Monitor) = tt
kind_behind (Some word.Cormonitor) = tt
kind_behind (Some word.Task) = tt
kind_behind (Some word.Event) = tt
kind_behind (Some word.Mutex) = tt
kind_behind _ = tt

name_behind : (o : Option TokenKind) → Behind (name_at o)
unfolding Behind
name_behind (Some (token.Name n)) = tt
name_behind _ = tt

word_item_behind : (pos : Pos) (b : Option Base) → Behind (word_item pos b)
unfolding Behind
word_item_behind pos None = ((λ o. kind_behind (word_of o)), inr (λ k. ((λ o. name_behind o), inr (λ n. tt))))
word_item_behind pos (Some b) = tt

item_behind : (pos : Pos) (o : Option TokenKind) → Behind (item_at pos o)
unfolding Behind
item_behind pos (Some (token.Word word.Using)) = tt
item_behind pos (Some (token.Word word.Const)) = tt
item_behind pos (Some (token.Name n)) = tt
item_behind pos o = word_item_behind pos (base_of (word_of o))

program_behind : Behind program_form
unfolding Behind
program_behind = ((λ p o. item_behind p o), (λ p o. item_behind p o))

-- What begins without a token of its own is a statement of a block.
weight : {A : Type 0} → Name A → ℕ
weight block_stmt_name = 1
weight _ = 0

near : (A : Type 0) (x : Name A) (n from k : ℕ) → n + 2 * from ≤ 2 * k + weight x → n + 2 * from ≤ 2 * k + 1
unfolding weight
near A expr_name n from k le = omega (arith, le)
near A unary_name n from k le = omega (arith, le)
near A right_name n from k le = omega (arith, le)
near A stmt_name n from k le = omega (arith, le)
near A block_stmt_name n from k le = le
near A part_name n from k le = omega (arith, le)

first_level : (A : Type 0) (x : Name A) (from k : ℕ) → ◌≡◌ {A = ParseFault} (TooDeep k) (TooDeep from) → 0 + 2 * from ≤ 2 * k + weight x
first_level A x from k e = let d : k ≡ from = cc in omega (arith, d)

far : (n : ℕ) (A : Type 0) (x : Name A) (ts : List Token) (from k : ℕ) → faults n A x ts from (TooDeep k) → n + 2 * from ≤ 2 * k + weight x
unfolding faults Behind weight
far zero A x ts from k r = first_level A x from k r
far (suc n) A expr_name ts from k r = omega (arith, later n (λ B y us a b s. near B y n a b (far n B y us a b s)) expr_form ts from k expr_behind r)
far (suc n) A unary_name ts from k r = omega (arith, later n (λ B y us a b s. near B y n a b (far n B y us a b s)) unary_form ts from k (λ o. unary_behind (unary_of (sign_of o))) r)
far (suc n) A right_name ts from k r = omega (arith, later n (λ B y us a b s. near B y n a b (far n B y us a b s)) right_form ts from k right_behind r)
far (suc n) A stmt_name ts from k r = omega (arith, later n (λ B y us a b s. near B y n a b (far n B y us a b s)) stmt_form ts from k (λ p o. stmt_behind p (stmt_start o)) r)
far (suc n) A block_stmt_name ts from k r = omega (arith, far n A stmt_name ts from k r)
far (suc n) A part_name ts from k r = omega (arith, later n (λ B y us a b s. near B y n a b (far n B y us a b s)) class_part_form ts from k (λ p o. part_of_class_behind p (access_of (word_of o))) r)

pub expr_far : (n : ℕ) (ts : List Token) (from k : ℕ) → Fails (inner n) (faults n) expr_form ts from (TooDeep k) → n ≤ 2 * (k - from) + 1
expr_far n ts from k r = omega (arith, later n (λ B y us a b s. near B y n a b (far n B y us a b s)) expr_form ts from k expr_behind r)

pub stmt_far : (n : ℕ) (ts : List Token) (from k : ℕ) → Fails (inner n) (faults n) (inside stmt_name) ts from (TooDeep k) → n ≤ 2 * (k - from) + 1
unfolding weight
stmt_far n ts from k r = omega (arith, far n Stmt stmt_name ts from k r)

pub program_far : (n : ℕ) (ts : List Token) (from k : ℕ) → Fails (inner n) (faults n) program_form ts from (TooDeep k) → n ≤ 2 * (k - from) + 1
program_far n ts from k r = omega (arith, later n (λ B y us a b s. near B y n a b (far n B y us a b s)) program_form ts from k program_behind r)
