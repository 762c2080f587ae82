-- One lemma for each piece of code that lowering adds.
use Rattle.std.proofs.Common.{◌≡◌, ℕ, ℤ, ◌+◌, ◌≤◌, pos, Bool, true, false, List, Option, Some, None, length, refl, ap, sym, subst, ◌∙◌, arith}
use Rattle.std.specs.Prelude.{◌||◌, if◌then◌else◌}
use Rattle.uc_tree.specs.declared.kinds.LocalVariable.{LocalVariable}
use Rattle.uc_tree.specs.declared.ops.StepOp.{StepOp}
use Rattle.uc_tree.specs.declared.ops.StepOp.TheVariants as step
use Rattle.uc_tree.specs.Programs.{Constant, Program}
use Rattle.uc_tree.specs.Constants.{constants_of, constant_named}
use Rattle.uc_tree.specs.Numbering.{routines_of}
use Rattle.uc_tree.specs.Source.{Shape, Integer, Character, Truth, Binding, Last, Field, Array, Operator, Add, Sub, Expr, Literal, Variable as Var, Get, Operate, Set}
use Rattle.uc_tree.specs.Objects.{shape_of}
use Rattle.uc_resolve.specs.Resolve.{scalar as scalar_type, value_meant, Meant, converted, value_by, value_of, Standing, AtVariable, AtPlace, AsNumber, AsValue, has_number, known_by, known_named, known_meant, name_meant, item_meant, constant_meant_by, routine_meant_by, routine_from, variable_in, updated, updated_by, stepped, stepped_by, step_meant}
use Rattle.uc_code.specs.declared.op.Op.{Op}
use Rattle.uc_code.specs.declared.op.Op.TheVariants as op
use Rattle.uc_code.specs.declared.rows.CodeMark.{CodeMark}
use Rattle.uc_code.specs.Drafts.{Draft}
use Rattle.uc_code.specs.Layout.{Laid, laid_in}
use Rattle.uc_code.specs.CodeShapes.{One, Both, Stable}
use Rattle.uc_code.specs.Lowered.{operator_op, ExprAt, ConvertAt}
use Rattle.uc_code.proofs.Stable.{one_stable}
use Rattle.uc_lower_expr.specs.declared.meaning.Scalar.{Scalar}
use Rattle.uc_lower_expr.specs.declared.meaning.Scalar.TheVariants as scalar
use Rattle.uc_lower_expr.specs.declared.meaning.Standing.{Standing as Told}
use Rattle.uc_lower_expr.specs.declared.meaning.Standing.TheVariants as standing
use Rattle.uc_lower_expr.specs.declared.meaning.ExprMeaning.{ExprMeaning}
use Rattle.uc_lower_expr.specs.declared.names.Variable.{Variable}
use Rattle.uc_lower_expr.specs.declared.numbering.ConstantMeaning.{ConstantMeaning}
use Rattle.uc_lower_expr.specs.Numbered.{IsFixed}
use Rattle.uc_lower_expr.specs.Meanings.{FieldAt, Begins, StandsAs, cell_in, shape_as, Tells}
use Rattle.uc_lower_expr.specs.DraftGrowth.{Adds, Cuts, Grows, ExprCode, ConvertCode, OpCode, fetched}
use Rattle.uc_lower_expr.specs.Parts.{BeginCode, EndCode, UpdateCode, SetByCode, BehindCode, StepCode, Restarts, step_op_of, place_op_of, standing_by, bumped, IsVariable}
use Rattle.uc_lower_expr.proofs.Adding.{adds_nothing, adds_more, adds_as, adds_both, regroup, and_nothing}
use Rattle.uc_lower_expr.proofs.Growing.{grows_adds, grows_restart, grows_cut}
use Rattle.uc_lower_expr.proofs.Settled.{both, expr_stable, convert_stable, begin_stable}

-- conversions

pub convert_as : (line : ℕ) (s t : Scalar) (old new : Draft) → s ≡ t → Adds 1 (ConvertCode line (shape_as t)) old new → Adds 1 (ConvertCode line (shape_as s)) old new
convert_as line s t old new e h = subst (λ (x : Scalar). Adds 1 (ConvertCode line (shape_as x)) old new) (sym e) h

pub convert_none : (line : ℕ) (s : Scalar) (old : Draft) → s ≡ scalar.Number → Adds 1 (ConvertCode line (shape_as s)) old old
convert_none line s old e = convert_as line s scalar.Number old old e (adds_more (omega arith) (adds_nothing old))

pub convert_binding : (line : ℕ) (s : Scalar) (old : Draft) → s ≡ scalar.Binding → Adds 1 (ConvertCode line (shape_as s)) old old
convert_binding line s old e = convert_as line s scalar.Binding old old e (adds_more (omega arith) (adds_nothing old))

-- the parts of an update

pub arm_end : (line : ℕ) (o : Op) (s : Shape) (d0 d1 d2 d3 : Draft) → Adds 1 (OpCode line o) d0 d1 → Adds 1 (ConvertCode line s) d1 d2 → Adds 1 (OpCode line op.Keep) d2 d3 → Adds 3 (EndCode line o s) d0 d3
arm_end line o s d0 d1 d2 d3 h1 h2 h3 = adds_more (omega arith) (adds_both (one_stable o line) h1 (adds_both (convert_stable line s) h2 h3))

pub arm_step : (line : ℕ) (o : Op) (s : Shape) (d0 d1 d2 d3 d4 d5 d6 d7 d8 d9 : Draft)
    → Adds 1 (OpCode line op.Duplicate) d0 d1 → Adds 1 (OpCode line op.Load) d1 d2 → Adds 1 (OpCode line op.CopyBelow) d2 d3 → Adds 1 (OpCode line op.CopyBelow) d3 d4
    → Adds 1 (OpCode line (op.Push (pos 1))) d4 d5 → Adds 1 (OpCode line o) d5 d6 → Adds 1 (ConvertCode line s) d6 d7 → Adds 1 (OpCode line op.Store) d7 d8 → Adds 1 (OpCode line op.DiscardBelow) d8 d9
    → Adds 9 (StepCode line o s) d0 d9
arm_step line o s d0 d1 d2 d3 d4 d5 d6 d7 d8 d9 h1 h2 h3 h4 h5 h6 h7 h8 h9 =
    adds_more (omega arith) (adds_both (one_stable op.Duplicate line) h1 (adds_both (one_stable op.Load line) h2 (adds_both (one_stable op.CopyBelow line) h3 (adds_both (one_stable op.CopyBelow line) h4 (adds_both (one_stable (op.Push (pos 1)) line) h5 (adds_both (one_stable o line) h6 (adds_both (convert_stable line s) h7 (adds_both (one_stable op.Store line) h8 h9))))))))

-- a step of a variable
pub arm_set_by_one : (ms : List CodeMark) (line k : ℕ) (o : Op) (s : Shape) (d0 d1 d2 d3 d4 d5 : Draft)
    → Adds 1 (OpCode line (op.Via k)) d0 d1 → Adds 1 (OpCode line (op.Push (pos 1))) d1 d2 → Adds 1 (OpCode line o) d2 d3 → Adds 1 (ConvertCode line s) d3 d4 → Adds 1 (OpCode line (op.Set k)) d4 d5
    → Adds 5 (SetByCode line ms k o s (Literal (pos 1))) d0 d5
arm_set_by_one ms line k o s d0 d1 d2 d3 d4 d5 h1 h2 h3 h4 h5 =
    adds_more (omega arith) (adds_both (both (both (one_stable (op.Via k) line) (both (one_stable (op.Push (pos 1)) line) (one_stable o line))) (convert_stable line s))
    (adds_both (both (one_stable (op.Via k) line) (both (one_stable (op.Push (pos 1)) line) (one_stable o line)))
    (adds_both (one_stable (op.Via k) line) h1 (adds_both (one_stable (op.Push (pos 1)) line) h2 h3)) h4) h5)

set_by_stable : (ms : List CodeMark) (line k : ℕ) (o : Op) (s : Shape) (e : Expr) → Stable (SetByCode line ms k o s e)
set_by_stable ms line k o s e = both (both (both (one_stable (op.Via k) line) (both (expr_stable line ms e) (one_stable o line))) (convert_stable line s)) (one_stable (op.Set k) line)

pub arm_behind : (ms : List CodeMark) (line k : ℕ) (o : Op) (s : Shape) (d0 d1 d2 d3 : Draft)
    → Adds 1 (OpCode line (op.Via k)) d0 d1 → Adds 5 (SetByCode line ms k o s (Literal (pos 1))) d1 d2 → Adds 1 (OpCode line op.Discard) d2 d3
    → Adds 7 (BehindCode line ms k o s) d0 d3
arm_behind ms line k o s d0 d1 d2 d3 h1 h2 h3 = adds_more (omega arith) (adds_both (one_stable (op.Via k) line) h1 (adds_both (set_by_stable ms line k o s (Literal (pos 1))) h2 h3))

-- a value of the same type
pub as_value : {p : Program} → (told t : ExprMeaning) (m : Meant) (e : Expr) → t ≡ record told { standing = standing.Value } → Tells p told m → Tells p t (record { expr = e; ty = m.ty; standing = AsValue })
as_value {p} told t m e i u = subst (λ (x : ExprMeaning). Tells p x (record { expr = e; ty = m.ty; standing = AsValue })) (sym i) (record { shape = u.shape; class = u.class; numbered = u.numbered; event = u.event; len = u.len; standing = refl })

-- names and the cells of an element

-- what a name in scope stands for, by whether it is a reference
abbrev meant_by : Bool → LocalVariable → Meant
meant_by b k = if b then record { expr = Get k.cell; ty = k.ty; standing = AtPlace } else record { expr = Var k.cell; ty = k.ty; standing = AtVariable k.cell }

told_by : {p : Program} → (k : LocalVariable) (v : ExprMeaning) (x : Told) (b : Bool) → ((e : Expr) → Tells p v (value_meant e (scalar_type k.ty.base))) → x ≡ standing_by false b k.cell → Tells p (record v { elements = k.ty.len; standing = x }) (meant_by b k)
told_by k v x true h e = let u = h (Literal (pos 0)) in record { shape = u.shape; class = u.class; numbered = u.numbered; event = u.event; len = refl; standing = subst (λ (y : Told). StandsAs y AtPlace) (sym e) refl }
told_by k v x false h e = let u = h (Literal (pos 0)) in record { shape = u.shape; class = u.class; numbered = u.numbered; event = u.event; len = refl; standing = subst (λ (y : Told). StandsAs y (AtVariable k.cell)) (sym e) refl }

told_held : {p : Program} → (k : LocalVariable) (v : ExprMeaning) (x : Told) (n : Bool) → ((e : Expr) → Tells p v (value_meant e (scalar_type k.ty.base))) → x ≡ standing_by n k.ty.by_ref k.cell → Tells p (record v { elements = k.ty.len; standing = x }) (known_by n k)
told_held k v x true h e = let u = h (Literal (pos 0)) in record { shape = u.shape; class = u.class; numbered = u.numbered; event = u.event; len = refl; standing = subst (λ (y : Told). StandsAs y AsNumber) (sym e) refl }
told_held k v x false h e = told_by k v x k.ty.by_ref h e

pub told_known : {p : Program} → (k : LocalVariable) (v : ExprMeaning) (x : Told) → ((e : Expr) → Tells p v (value_meant e (scalar_type k.ty.base))) → x ≡ standing_by (has_number p k.ty) k.ty.by_ref k.cell → Tells p (record v { elements = k.ty.len; standing = x }) (known_meant p k)
told_known {p} k v x h e = told_held k v x (has_number p k.ty) h e

-- the variable that is told of

variable_told : (x : Told) (s : Standing) → StandsAs x s → variable_in s ≡ cell_in x
variable_told (standing.Variable k) s h = ap variable_in h
variable_told (standing.Field k) s (Begins t i e) = refl
variable_told standing.Place s h = ap variable_in h
variable_told standing.Number s h = ap variable_in h
variable_told standing.Value s h = ap variable_in h
variable_told standing.Input s h = ap variable_in h
variable_told standing.Fail s h = ap variable_in h
variable_told (standing.Routine r) s h = ap variable_in h
variable_told (standing.Member r) s h = ap variable_in h
variable_told (standing.LiveMember r) s h = ap variable_in h
variable_told (standing.MutexMember m r) s h = ap variable_in h
variable_told (standing.Condition k) s h = ap variable_in h
variable_told (standing.CallOf c) s h = ap variable_in h
variable_told standing.Nothing s h = ap variable_in h

pub told_variable : {p : Program} → (s : ExprMeaning) (m : Meant) (k : ℕ) → Tells p s m → Some k ≡ cell_in s.standing → variable_in m.standing ≡ Some k
told_variable s m k u e = variable_told s.standing m.standing u.standing ∙ sym e

pub told_no_variable : {p : Program} → (s : ExprMeaning) (m : Meant) → Tells p s m → None ≡ cell_in s.standing → variable_in m.standing ≡ None
told_no_variable s m u e = variable_told s.standing m.standing u.standing ∙ sym e

-- the standing that is told, where it is this
pub stands : {p : Program} → (s : ExprMeaning) (m : Meant) (x : Told) → Tells p s m → s.standing ≡ x → StandsAs x m.standing
stands s m x u e = subst (λ (y : Told). StandsAs y m.standing) e u.standing

bumped_tells : {p : Program} → (o : StepOp) (told t : ExprMeaning) (m : Meant) → t ≡ record told { standing = standing.Value } → Tells p told m → Tells p t (bumped o m)
bumped_tells step.Increment told t m i u = as_value told t m _ i u
bumped_tells step.Decrement told t m i u = as_value told t m _ i u

step_tells : {p : Program} → (o : StepOp) (told t : ExprMeaning) (m : Meant) → t ≡ record told { standing = standing.Value } → Tells p told m → Tells p t (step_meant o m)
step_tells step.Increment told t m i u = as_value told t m _ i u
step_tells step.Decrement told t m i u = as_value told t m _ i u

pub name_told : (p : Program) (class : Option ℕ) (names : List LocalVariable) (name : List ℕ) (v : Variable) → IsVariable p names name v → Tells p v.told (name_meant p class name (known_named names name))
name_told p class names name v n = subst (λ (o : Option LocalVariable). Tells p v.told (name_meant p class name o)) (sym n.is) n.tells

-- under marks
module _ (ms : List CodeMark) where
  pub converted_at : (line : ℕ) (s : Shape) (e : Expr) (code : Laid) (a z : ℕ) → Both (ExprAt code line ms e) (ConvertAt code line s) a z → ExprAt code line ms (converted s e) a z
  converted_at line Integer e code a z h = and_nothing (ExprAt code line ms e) a z h
  converted_at line Character e code a z h = h
  converted_at line Truth e code a z h = h
  converted_at line Binding e code a z h = and_nothing (ExprAt code line ms e) a z h
  converted_at line Last e code a z h = and_nothing (ExprAt code line ms e) a z h
  converted_at line (Field s t) e code a z h = and_nothing (ExprAt code line ms e) a z h
  converted_at line (Array n s) e code a z h = and_nothing (ExprAt code line ms e) a z h

  pub arm_update : (n k line : ℕ) (o : Op) (s : Shape) (e : Expr) (d0 d1 d2 d3 : Draft) → 2 + (n + 3) ≤ k → Adds 2 (BeginCode line) d0 d1 → Adds n (ExprCode line ms e) d1 d2 → Adds 3 (EndCode line o s) d2 d3 → Adds k (UpdateCode line ms o s e) d0 d3
  arm_update n k line o s e d0 d1 d2 d3 l h1 h2 h3 =
      adds_as (adds_more l (adds_both (begin_stable line) h1 (adds_both (expr_stable line ms e) h2 h3)))
      (λ code a z h. regroup (One code op.Duplicate line) (One code op.Load line) (Both (ExprAt code line ms e) (EndCode line o s code)) a z h)

  placed_code : (line : ℕ) (k : LocalVariable) (b : Bool) (old new : Draft) → Adds 1 (OpCode line (place_op_of b k.cell)) old new → Adds 1 (ExprCode line ms (meant_by b k).expr) old new
  placed_code line k true old new h = h
  placed_code line k false old new h = h

  held_code : (line : ℕ) (k : LocalVariable) (n : Bool) (old new : Draft) → Adds 1 (OpCode line (place_op_of (n || k.ty.by_ref) k.cell)) old new → Adds 1 (ExprCode line ms (known_by n k).expr) old new
  held_code line k true old new h = h
  held_code line k false old new h = placed_code line k k.ty.by_ref old new h

  pub name_known : (p : Program) (class : Option ℕ) (line : ℕ) (names : List LocalVariable) (name : List ℕ) (v : Variable) (o : Op) (old new : Draft) → IsVariable p names name v → o ≡ place_op_of v.held v.cell → Adds 1 (OpCode line o) old new → Adds 1 (ExprCode line ms (name_meant p class name (known_named names name)).expr) old new
  name_known p class line names name v o old new n i h =
      subst (λ (x : Option LocalVariable). Adds 1 (ExprCode line ms (name_meant p class name x).expr) old new) (sym n.is) (
      held_code line n.known (has_number p n.known.ty) old new (
      subst (λ (b : Bool). Adds 1 (OpCode line (place_op_of b n.known.cell)) old new) (sym n.held) (
      subst (λ (k : ℕ). Adds 1 (OpCode line (place_op_of v.held k)) old new) (sym n.cell) (
      subst (λ (x : Op). Adds 1 (OpCode line x) old new) i h))))

  pub item_fixed : (p : Program) (line : ℕ) (name : List ℕ) (v : ConstantMeaning) (x : ℤ) (old new : Draft) → IsFixed p name v → x ≡ v.value → Adds 1 (OpCode line (op.Push x)) old new → Adds 1 (ExprCode line ms (item_meant p name).expr) old new
  item_fixed p line name v x old new f e h =
      subst (λ (o : Option Constant). Adds 1 (ExprCode line ms (constant_meant_by p name o).expr) old new) (sym f.is) (subst (λ (z : ℤ). Adds 1 (OpCode line (op.Push z)) old new) (e ∙ f.value) h)

  routine_code : (p : Program) (line : ℕ) (o : Option ℕ) (old new : Draft) → Adds 1 (OpCode line (op.Push (pos 0))) old new → Adds 1 (ExprCode line ms (routine_meant_by p o).expr) old new
  routine_code p line None old new h = h
  routine_code p line (Some r) old new h = h

  pub item_routine : (p : Program) (line : ℕ) (name : List ℕ) (old new : Draft) → constant_named (constants_of p.items) name ≡ None → Adds 1 (OpCode line (op.Push (pos 0))) old new → Adds 1 (ExprCode line ms (item_meant p name).expr) old new
  item_routine p line name old new e h =
      subst (λ (o : Option Constant). Adds 1 (ExprCode line ms (constant_meant_by p name o).expr) old new) (sym e) (routine_code p line (routine_from (routines_of p) 0 name) old new h)

  -- the value of a variable, of an own field, of another place, and of what is a value
  pub load_variable : {p : Program} → (line a k : ℕ) (s t : ExprMeaning) (old new : Draft) → a ≤ length old.ops → s.standing ≡ standing.Variable k → t ≡ record s { standing = standing.Value } → Restarts (op.Via k) line a old new → Grows p 1 line ms a fetched s t old new
  load_variable line a k s t old new l e i h =
      grows_restart 1 line ms a fetched s t (op.Via k) old new (omega arith) l h
      (λ m u. as_value s t m (value_of m) i u)
      (λ m u code z w. subst (λ (o : Standing). ExprAt code line ms (value_by o m.expr) a z) (sym (stands s m (standing.Variable k) u e)) w)

  field_value : (line k : ℕ) (s : Standing) (e : Expr) (code : Laid) (a z : ℕ) → FieldAt k s → One code (op.ViaThis k) line a z → ExprAt code line ms (value_by s e) a z
  field_value line k s e code a z (Begins t i is) h = subst (λ (n : ℕ). One code (op.ViaThis n) line a z) (sym is) h

  pub load_field : {p : Program} → (line a k : ℕ) (s t : ExprMeaning) (old new : Draft) → a ≤ length old.ops → s.standing ≡ standing.Field k → t ≡ record s { standing = standing.Value } → Restarts (op.ViaThis k) line a old new → Grows p 1 line ms a fetched s t old new
  load_field line a k s t old new l e i h =
      grows_restart 1 line ms a fetched s t (op.ViaThis k) old new (omega arith) l h
      (λ m u. as_value s t m (value_of m) i u)
      (λ m u code z w. field_value line k m.standing m.expr code a z (stands s m (standing.Field k) u e) w)

  pub load_place : {p : Program} → (line a : ℕ) (s t : ExprMeaning) (old new : Draft) → a ≤ length old.ops → s.standing ≡ standing.Place → t ≡ record s { standing = standing.Value } → Adds 1 (OpCode line op.Load) old new → Grows p 1 line ms a fetched s t old new
  load_place line a s t old new l e i h =
      grows_adds 1 line ms a fetched s t (OpCode line op.Load) old new l h
      (λ m u. as_value s t m (value_of m) i u)
      (λ m u code b z w v. subst (λ (o : Standing). ExprAt code line ms (value_by o m.expr) a z) (sym (stands s m standing.Place u e)) (record { middle = b; first = w; second = v }))

  pub load_none : {p : Program} → (line a : ℕ) (x : Told) (s t : ExprMeaning) (old : Draft) → a ≤ length old.ops → s.standing ≡ x → ((o : Standing) (e : Expr) → StandsAs x o → value_by o e ≡ e) → t ≡ record s { standing = standing.Value } → Grows p 1 line ms a fetched s t old old
  load_none line a x s t old l e same i = record {
    rest = refl;
    front = record { same = λ j o n p q h. h; chains = λ next p h. refl; handlers = λ k e h. h };
    past = l;
    room = omega arith;
    code = λ m st. record {
      tells = as_value s t m (value_of m) i st.tells;
      code = subst (λ (y : Expr). ExprAt (laid_in old) line ms y a (length old.ops)) (sym (same m.standing m.expr (stands s m x st.tells e))) st.code;
    };
  }

  -- what is written to a variable
  pub set_by_at : (line k : ℕ) (o : Operator) (s : Shape) (e : Expr) (code : Laid) (a z : ℕ) → SetByCode line ms k (operator_op o) s e code a z → ExprAt code line ms (Set k (converted s (Operate o (Get k) e))) a z
  set_by_at line k o s e code a z h = record { middle = h.middle; first = converted_at line s (Operate o (Get k) e) code a h.middle h.first; second = h.second }

  pub updated_variable : (line k : ℕ) (o : Operator) (m : Meant) (e : Expr) (code : Laid) (a z : ℕ) → variable_in m.standing ≡ Some k → SetByCode line ms k (operator_op o) (shape_of m.ty.base) e code a z → ExprAt code line ms (updated o m e).expr a z
  updated_variable line k o m e code a z is h =
      subst (λ (w : Option ℕ). ExprAt code line ms (updated_by w o (shape_of m.ty.base) m.expr e) a z) (sym is) (set_by_at line k o (shape_of m.ty.base) e code a z h)

  pub updated_place : (line : ℕ) (o : Operator) (m : Meant) (e : Expr) (code : Laid) (a b z : ℕ) → variable_in m.standing ≡ None → ExprAt code line ms m.expr a b → UpdateCode line ms (operator_op o) (shape_of m.ty.base) e code b z → ExprAt code line ms (updated o m e).expr a z
  updated_place line o m e code a b z is h g =
      subst (λ (w : Option ℕ). ExprAt code line ms (updated_by w o (shape_of m.ty.base) m.expr e) a z) (sym is) (record { middle = b; first = h; second = g })

  stepped_variable : (line k : ℕ) (o : Operator) (m : Meant) (code : Laid) (a z : ℕ) → variable_in m.standing ≡ Some k → BehindCode line ms k (operator_op o) (shape_of m.ty.base) code a z → ExprAt code line ms (stepped o m).expr a z
  stepped_variable line k o m code a z is h =
      subst (λ (w : Option ℕ). ExprAt code line ms (stepped_by w o (shape_of m.ty.base) m.expr) a z) (sym is)
      (record { middle = h.middle; first = h.first; second = record { middle = h.second.middle; first = set_by_at line k o (shape_of m.ty.base) (Literal (pos 1)) code h.middle h.second.middle h.second.first; second = h.second.second } })

  stepped_place : (line : ℕ) (o : Operator) (m : Meant) (code : Laid) (a b z : ℕ) → variable_in m.standing ≡ None → ExprAt code line ms m.expr a b → StepCode line (operator_op o) (shape_of m.ty.base) code b z → ExprAt code line ms (stepped o m).expr a z
  stepped_place line o m code a b z is h g =
      subst (λ (w : Option ℕ). ExprAt code line ms (stepped_by w o (shape_of m.ty.base) m.expr) a z) (sym is) (record { middle = b; first = h; second = g })

  -- steps, before and behind

  bump_variable_at : (line k : ℕ) (o : StepOp) (m : Meant) (code : Laid) (a z : ℕ) → variable_in m.standing ≡ Some k → SetByCode line ms k (step_op_of o) (shape_of m.ty.base) (Literal (pos 1)) code a z → ExprAt code line ms (bumped o m).expr a z
  bump_variable_at line k step.Increment m code a z is h = updated_variable line k Add m (Literal (pos 1)) code a z is h
  bump_variable_at line k step.Decrement m code a z is h = updated_variable line k Sub m (Literal (pos 1)) code a z is h

  bump_place_at : (line : ℕ) (o : StepOp) (m : Meant) (code : Laid) (a b z : ℕ) → variable_in m.standing ≡ None → ExprAt code line ms m.expr a b → UpdateCode line ms (step_op_of o) (shape_of m.ty.base) (Literal (pos 1)) code b z → ExprAt code line ms (bumped o m).expr a z
  bump_place_at line step.Increment m code a b z is h g = updated_place line Add m (Literal (pos 1)) code a b z is h g
  bump_place_at line step.Decrement m code a b z is h g = updated_place line Sub m (Literal (pos 1)) code a b z is h g

  step_variable_at : (line k : ℕ) (o : StepOp) (m : Meant) (code : Laid) (a z : ℕ) → variable_in m.standing ≡ Some k → BehindCode line ms k (step_op_of o) (shape_of m.ty.base) code a z → ExprAt code line ms (step_meant o m).expr a z
  step_variable_at line k step.Increment m code a z is h = stepped_variable line k Add m code a z is h
  step_variable_at line k step.Decrement m code a z is h = stepped_variable line k Sub m code a z is h

  step_place_at : (line : ℕ) (o : StepOp) (m : Meant) (code : Laid) (a b z : ℕ) → variable_in m.standing ≡ None → ExprAt code line ms m.expr a b → StepCode line (step_op_of o) (shape_of m.ty.base) code b z → ExprAt code line ms (step_meant o m).expr a z
  step_place_at line step.Increment m code a b z is h g = stepped_place line Add m code a b z is h g
  step_place_at line step.Decrement m code a b z is h g = stepped_place line Sub m code a b z is h g

  pub arm_bump_variable : {p : Program} → (line k a : ℕ) (o : StepOp) (x : Op) (s t : ExprMeaning) (old mid new : Draft) → a ≤ length old.ops → Some k ≡ cell_in s.standing → x ≡ step_op_of o → t ≡ record s { standing = standing.Value } → ms ≡ old.marks → Cuts a old mid → Adds 5 (SetByCode line mid.marks k x (shape_as s.scalar) (Literal (pos 1))) mid new → Grows p 6 line ms a (bumped o) s t old new
  arm_bump_variable line k a o x s t old mid new l e i j w c h =
      let h1 : Adds 5 (SetByCode line ms k x (shape_as s.scalar) (Literal (pos 1))) mid new = subst (λ (ns : List CodeMark). Adds 5 (SetByCode line ns k x (shape_as s.scalar) (Literal (pos 1))) mid new) (ap (λ (d : Draft). d.marks) c.rest ∙ sym w) h in
      let h2 : Adds 5 (SetByCode line ms k (step_op_of o) (shape_as s.scalar) (Literal (pos 1))) mid new = subst (λ (y : Op). Adds 5 (SetByCode line ms k y (shape_as s.scalar) (Literal (pos 1))) mid new) i h1 in
      grows_cut 6 line ms a (bumped o) s t (SetByCode line ms k (step_op_of o) (shape_as s.scalar) (Literal (pos 1))) old mid new l c (adds_more (omega arith) h2)
      (λ m u. bumped_tells o s t m j u)
      (λ m u code z v. bump_variable_at line k o m code a z (told_variable s m k u e) (subst (λ (y : Shape). SetByCode line ms k (step_op_of o) y (Literal (pos 1)) code a z) (sym u.shape) v))

  pub arm_bump_place : {p : Program} → (line a : ℕ) (o : StepOp) (x : Op) (s t : ExprMeaning) (old new : Draft) → a ≤ length old.ops → None ≡ cell_in s.standing → x ≡ step_op_of o → t ≡ record s { standing = standing.Value } → Adds 6 (UpdateCode line ms x (shape_as s.scalar) (Literal (pos 1))) old new → Grows p 6 line ms a (bumped o) s t old new
  arm_bump_place line a o x s t old new l e i j h =
      let h2 : Adds 6 (UpdateCode line ms (step_op_of o) (shape_as s.scalar) (Literal (pos 1))) old new = subst (λ (y : Op). Adds 6 (UpdateCode line ms y (shape_as s.scalar) (Literal (pos 1))) old new) i h in
      grows_adds 6 line ms a (bumped o) s t (UpdateCode line ms (step_op_of o) (shape_as s.scalar) (Literal (pos 1))) old new l h2
      (λ m u. bumped_tells o s t m j u)
      (λ m u code b z w v. bump_place_at line o m code a b z (told_no_variable s m u e) w (subst (λ (y : Shape). UpdateCode line ms (step_op_of o) y (Literal (pos 1)) code b z) (sym u.shape) v))

  pub arm_step_variable : {p : Program} → (line k a : ℕ) (o : StepOp) (x : Op) (s t : ExprMeaning) (old mid new : Draft) → a ≤ length old.ops → Some k ≡ cell_in s.standing → x ≡ step_op_of o → t ≡ record s { standing = standing.Value } → ms ≡ old.marks → Cuts a old mid → Adds 7 (BehindCode line mid.marks k x (shape_as s.scalar)) mid new → Grows p 9 line ms a (step_meant o) s t old new
  arm_step_variable line k a o x s t old mid new l e i j w c h =
      let h1 : Adds 7 (BehindCode line ms k x (shape_as s.scalar)) mid new = subst (λ (ns : List CodeMark). Adds 7 (BehindCode line ns k x (shape_as s.scalar)) mid new) (ap (λ (d : Draft). d.marks) c.rest ∙ sym w) h in
      let h2 : Adds 7 (BehindCode line ms k (step_op_of o) (shape_as s.scalar)) mid new = subst (λ (y : Op). Adds 7 (BehindCode line ms k y (shape_as s.scalar)) mid new) i h1 in
      grows_cut 9 line ms a (step_meant o) s t (BehindCode line ms k (step_op_of o) (shape_as s.scalar)) old mid new l c (adds_more (omega arith) h2)
      (λ m u. step_tells o s t m j u)
      (λ m u code z v. step_variable_at line k o m code a z (told_variable s m k u e) (subst (λ (y : Shape). BehindCode line ms k (step_op_of o) y code a z) (sym u.shape) v))

  pub arm_step_place : {p : Program} → (line a : ℕ) (o : StepOp) (x : Op) (s t : ExprMeaning) (old new : Draft) → a ≤ length old.ops → None ≡ cell_in s.standing → x ≡ step_op_of o → t ≡ record s { standing = standing.Value } → Adds 9 (StepCode line x (shape_as s.scalar)) old new → Grows p 9 line ms a (step_meant o) s t old new
  arm_step_place line a o x s t old new l e i j h =
      let h2 : Adds 9 (StepCode line (step_op_of o) (shape_as s.scalar)) old new = subst (λ (y : Op). Adds 9 (StepCode line y (shape_as s.scalar)) old new) i h in
      grows_adds 9 line ms a (step_meant o) s t (StepCode line (step_op_of o) (shape_as s.scalar)) old new l h2
      (λ m u. step_tells o s t m j u)
      (λ m u code b z w v. step_place_at line o m code a b z (told_no_variable s m u e) w (subst (λ (y : Shape). StepCode line (step_op_of o) y code b z) (sym u.shape) v))
