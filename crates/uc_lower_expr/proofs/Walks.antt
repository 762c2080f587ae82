-- One lemma for each function that walks over the tree of an expression.
use Rattle.std.proofs.Common.{◌≡◌, ℕ, zero, suc, ◌+◌, ◌*◌, ◌-◌, ◌≤◌, ◌<◌, ℤ, pos, Bool, true, false, List, [], ◌∷◌, ◌++◌, Option, Some, None, Ok, Err, length, length-take, take, get_or, refl, ap, sym, subst, ◌∙◌, arith}
use Rattle.std.specs.Prelude.{Result, OnOk, IfOk, slice_get, if◌then◌else◌}
use Rattle.std.proofs.lemmas.List.{take_more}
use Rattle.std.proofs.Common.{take_all}
use Rattle.uc_tree.specs.declared.limits.TheConstants.{OPS_FOR_SIZE}
use Rattle.uc_tree.specs.declared.pos.Pos.{Pos}
use Rattle.uc_tree.specs.declared.expr.ExprForm.{ExprForm}
use Rattle.uc_tree.specs.declared.expr.PartForm.{PartForm}
use Rattle.uc_tree.specs.declared.kinds.Base.{Base}
use Rattle.uc_tree.specs.declared.kinds.Param.{Param}
use Rattle.uc_tree.specs.declared.kinds.Ty.{Ty}
use Rattle.uc_tree.specs.Programs.{Program}
use Rattle.uc_tree.specs.declared.ops.UnaryOp.{UnaryOp}
use Rattle.uc_tree.specs.declared.ops.UnaryOp.TheVariants as unary
use Rattle.uc_tree.specs.declared.ops.BinaryOp.{BinaryOp}
use Rattle.uc_tree.specs.declared.ops.BinaryOp.TheVariants as binary
use Rattle.uc_tree.specs.declared.ops.AssignOp.{AssignOp}
use Rattle.uc_tree.specs.declared.ops.AssignOp.TheVariants as assign
use Rattle.uc_tree.specs.declared.ops.StepOp.{StepOp}
use Rattle.uc_tree.specs.Constants.{truth_value}
use Rattle.uc_tree.specs.Expressions as tree
use Rattle.uc_tree.specs.Expressions.{exprs_of, parts_of, links_of}
use Rattle.uc_tree.specs.ExpressionViews.{expr_at, part_at}
use Rattle.uc_tree.specs.ExpressionSizes.{expr_size, exprs_size, part_size, parts_size, link_size, links_size}
use Rattle.uc_tree.specs.Source.{Shape, shape_cells, Add, Sub, Mul, Div, Rem, Expr, Element, Call, OfObject, CallOn, CallLive, EnterOn, ConditionAt, Exprs, NoExprs, MoreExprs}
use Rattle.uc_tree.specs.Objects.{class_made, is_numbered, making, base_shape, shape_of}
use Rattle.uc_resolve.specs.Resolve.{Meant, Context, meant, value_by, value_of, converted, Standing, AsCondition, AsValue, ConditionCall, Waits, Signals, SignalsBlocking, AsksEmpty, AsksFront, condition_called, stored_by, unary_meant, binary_meant, assign_meant, written_by, variable_in, link_meant, chain_meant, part_meant, args_meant, arg_meant, args_by, params_of, parts_meant, has_number, one_of, place_or_number, element_in, element_by, element_meant, call_by, call_meant, step_meant, no_meaning}
use Rattle.uc_code.specs.declared.op.Op.{Op}
use Rattle.uc_code.specs.declared.op.Op.TheVariants as op
use Rattle.uc_code.specs.declared.rows.CodeMark.{CodeMark}
use Rattle.uc_code.specs.Drafts.{Draft}
use Rattle.uc_code.specs.Layout.{Laid}
use Rattle.uc_code.specs.CodeShapes.{One, Risk, Both}
use Rattle.uc_code.specs.Lowered.{ExprAt, ArgumentsAt}
use Rattle.uc_code.proofs.Stable.{one_stable}
use Rattle.uc_lower_expr.specs.declared.meaning.Scalar.{Scalar}
use Rattle.uc_lower_expr.specs.declared.meaning.Scalar.TheVariants as scalar
use Rattle.uc_lower_expr.specs.declared.meaning.ConditionCall.{ConditionCall as TheCall}
use Rattle.uc_lower_expr.specs.declared.meaning.ConditionCall.TheVariants as calls
use Rattle.uc_lower_expr.specs.declared.meaning.Standing.{Standing as Told}
use Rattle.uc_lower_expr.specs.declared.meaning.Standing.TheVariants as standing
use Rattle.uc_lower_expr.specs.declared.meaning.ExprMeaning.{ExprMeaning}
use Rattle.uc_lower_expr.specs.declared.ops.BinaryCode.{BinaryCode}
use Rattle.uc_lower_expr.specs.Contexts.{context_in}
use Rattle.uc_lower_expr.specs.Meanings.{FieldAt, Begins, StandsAs, call_of, cell_in, first_in, element_told, held_as, shape_as, Tells}
use Rattle.uc_lower_expr.specs.DraftGrowth.{Adds, Cuts, ExprCode, ArgumentsCode, ConvertCode, OpCode, RiskCode, Grows, fetched, LiveCallCode, MutexCallCode}
use Rattle.uc_lower_expr.specs.Parts.{CalledCode, WaitCode, joining_of, combining_of, scalar_of, RightCode, BeginCode, EndCode, SetCode, VariableCode, PlaceCode, ArgumentCode, FoundCode, Restarts, bumped}
use Rattle.uc_lower_expr.proofs.Adding.{adds_nothing, adds_more, adds_as, adds_both, and_nothing}
use Rattle.uc_lower_expr.proofs.Settled.{both, expr_stable, args_stable, convert_stable}
use Rattle.uc_lower_expr.proofs.Growing.{grows_as, grows_then, grows_adds, grows_restart, grows_cut, adds_grows, tells_grows}
use Rattle.uc_lower_expr.proofs.Arms.{as_value, told_variable, told_no_variable, updated_variable, updated_place, arm_update, converted_at, stands}

-- the tree of a form

pub tree_is : (p : Pos) (f g : ExprForm) (e : tree.Expr) → f ≡ g → expr_at p f ≡ e → expr_at p g ≡ e
tree_is p f g e h k = ap (λ x. expr_at p x) (sym h) ∙ k

pub assign_tells : {p : Program} → (o : AssignOp) (told t : ExprMeaning) (m v : Meant) → t ≡ record told { standing = standing.Value } → Tells p told m → Tells p t (assign_meant o m v)
assign_tells assign.Set told t m v i u = as_value told t m _ i u
assign_tells assign.Add told t m v i u = as_value told t m _ i u
assign_tells assign.Sub told t m v i u = as_value told t m _ i u
assign_tells assign.Mul told t m v i u = as_value told t m _ i u
assign_tells assign.Div told t m v i u = as_value told t m _ i u
assign_tells assign.Rem told t m v i u = as_value told t m _ i u

-- operators between two sides

right_tells : {p : Program} → (o : BinaryOp) (l r : Meant) → Tells p (record { scalar = scalar_of (joining_of o); class = None; numbered = false; event = None; elements = None; standing = standing.Value }) (binary_meant o l r)
right_tells binary.Or l r = record { shape = refl; class = refl; numbered = refl; event = refl; len = refl; standing = refl }
right_tells binary.And l r = record { shape = refl; class = refl; numbered = refl; event = refl; len = refl; standing = refl }
right_tells binary.Equal l r = record { shape = refl; class = refl; numbered = refl; event = refl; len = refl; standing = refl }
right_tells binary.NotEqual l r = record { shape = refl; class = refl; numbered = refl; event = refl; len = refl; standing = refl }
right_tells binary.Less l r = record { shape = refl; class = refl; numbered = refl; event = refl; len = refl; standing = refl }
right_tells binary.LessEqual l r = record { shape = refl; class = refl; numbered = refl; event = refl; len = refl; standing = refl }
right_tells binary.Greater l r = record { shape = refl; class = refl; numbered = refl; event = refl; len = refl; standing = refl }
right_tells binary.GreaterEqual l r = record { shape = refl; class = refl; numbered = refl; event = refl; len = refl; standing = refl }
right_tells binary.Add l r = record { shape = refl; class = refl; numbered = refl; event = refl; len = refl; standing = refl }
right_tells binary.Sub l r = record { shape = refl; class = refl; numbered = refl; event = refl; len = refl; standing = refl }
right_tells binary.Mul l r = record { shape = refl; class = refl; numbered = refl; event = refl; len = refl; standing = refl }
right_tells binary.Div l r = record { shape = refl; class = refl; numbered = refl; event = refl; len = refl; standing = refl }
right_tells binary.Rem l r = record { shape = refl; class = refl; numbered = refl; event = refl; len = refl; standing = refl }

-- an element, by whether it is known by its number

abbrev element_at : Program → ℕ → Meant → Expr → Meant
element_at p n m i = place_or_number (has_number p (one_of m.ty)) (Element n (base_shape p m.ty.base) m.expr i) (one_of m.ty)

element_found : (p : Program) (x : Told) (o : Standing) (n : ℕ) (m : Meant) (i : Expr) → first_in x ≡ None → StandsAs x o → element_in p o n m i ≡ element_at p n m i
element_found p (standing.Variable k) o n m i f h = ap (λ (s : Standing). element_in p s n m i) h
element_found p (standing.Field k) o n m i f (Begins s j e) = refl
element_found p standing.Place o n m i f h = ap (λ (s : Standing). element_in p s n m i) h
element_found p standing.Number o n m i f h = ap (λ (s : Standing). element_in p s n m i) h
element_found p standing.Value o n m i f h = ap (λ (s : Standing). element_in p s n m i) h
element_found p standing.Input o n m i f h = ap (λ (s : Standing). element_in p s n m i) h
element_found p standing.Fail o n m i f h = ap (λ (s : Standing). element_in p s n m i) h
element_found p (standing.Routine r) o n m i f h = ap (λ (s : Standing). element_in p s n m i) h
element_found p (standing.Member r) o n m i f h = ap (λ (s : Standing). element_in p s n m i) h
element_found p (standing.LiveMember r) o n m i f h = ap (λ (s : Standing). element_in p s n m i) h
element_found p (standing.MutexMember k r) o n m i f h = ap (λ (s : Standing). element_in p s n m i) h
element_found p (standing.Condition k) o n m i f h = cc
element_found p (standing.CallOf c) o n m i f h = ap (λ (s : Standing). element_in p s n m i) h
element_found p standing.Nothing o n m i f h = ap (λ (s : Standing). element_in p s n m i) h

element_is : (p : Program) (s : ExprMeaning) (n : ℕ) (i : Meant) → s.elements ≡ Some n → first_in s.standing ≡ None → (m : Meant) → Tells p s m → element_meant p m i ≡ place_or_number s.numbered (Element n (base_shape p m.ty.base) m.expr (value_of i)) (one_of m.ty)
element_is p s n i e f m u =
    ap (λ (o : Option ℕ). element_by p o m (value_of i)) (u.len ∙ e)
    ∙ element_found p s.standing m.standing n m (value_of i) f u.standing
    ∙ ap (λ (b : Bool). place_or_number b (Element n (base_shape p m.ty.base) m.expr (value_of i)) (one_of m.ty)) u.numbered

element_tells : {p : Program} → (s : ExprMeaning) (m : Meant) (number : Bool) (e : Expr) → Tells p s m → Tells p (record s { elements = None; standing = held_as number }) (place_or_number number e (one_of m.ty))
element_tells s m true e u = record { shape = u.shape; class = u.class; numbered = u.numbered; event = u.event; len = refl; standing = refl }
element_tells s m false e u = record { shape = u.shape; class = u.class; numbered = u.numbered; event = u.event; len = refl; standing = refl }

-- an element of conditions

is_condition : (x : Told) (k : ℕ) → Some k ≡ first_in x → x ≡ standing.Condition k
is_condition (standing.Variable j) k e = cc
is_condition (standing.Field j) k e = cc
is_condition standing.Place k e = cc
is_condition standing.Number k e = cc
is_condition standing.Value k e = cc
is_condition standing.Input k e = cc
is_condition standing.Fail k e = cc
is_condition (standing.Routine r) k e = cc
is_condition (standing.Member r) k e = cc
is_condition (standing.LiveMember r) k e = cc
is_condition (standing.MutexMember j r) k e = cc
is_condition (standing.Condition j) k e = let is : k ≡ j = cc in ap standing.Condition (sym is)
is_condition (standing.CallOf c) k e = cc
is_condition standing.Nothing k e = cc

condition_at : {p : Program} → (s : ExprMeaning) (k : ℕ) → Some k ≡ first_in s.standing → (m : Meant) → Tells p s m → m.standing ≡ AsCondition k
condition_at s k e m u = stands s m (standing.Condition k) u (is_condition s.standing k e)

abbrev number_at : ℕ → ℕ → Meant → Expr → Meant
number_at k n m i = record { expr = OfObject (ConditionAt k n i); ty = one_of m.ty; standing = AsCondition k }

number_is : (p : Program) (s : ExprMeaning) (k n : ℕ) (i : Meant) → s.elements ≡ Some n → Some k ≡ first_in s.standing → (m : Meant) → Tells p s m → element_meant p m i ≡ number_at k n m (value_of i)
number_is p s k n i e f m u =
    ap (λ (o : Option ℕ). element_by p o m (value_of i)) (u.len ∙ e)
    ∙ ap (λ (o : Standing). element_in p o n m (value_of i)) (condition_at s k f m u)

number_tells : {p : Program} → (s : ExprMeaning) (k n : ℕ) (m : Meant) (i : Expr) → Some k ≡ first_in s.standing → Tells p s m → Tells p (record s { elements = None }) (number_at k n m i)
number_tells s k n m i f u = record { shape = u.shape; class = u.class; numbered = u.numbered; event = u.event; len = refl; standing = subst (λ (o : Standing). StandsAs s.standing o) (condition_at s k f m u) u.standing }

pub found_load : (line : ℕ) (b : Bool) (old new : Draft) → b ≡ true → Adds 1 (OpCode line op.Load) old new → Adds 1 (FoundCode line b) old new
found_load line b old new e h = subst (λ (x : Bool). Adds 1 (FoundCode line x) old new) (sym e) h

pub found_none : (line : ℕ) (b : Bool) (old : Draft) → b ≡ false → Adds 1 (FoundCode line b) old old
found_none line b old e = subst (λ (x : Bool). Adds 1 (FoundCode line x) old old) (sym e) (adds_more (omega arith) (adds_nothing old))

-- a field is no routine
pub field_not_called : (p : Program) (k : ℕ) (args : List Meant) (o : Standing) (m : Meant) → FieldAt k o → call_by p o m args ≡ no_meaning
field_not_called p k args o m (Begins t i e) = refl

-- of one program
pub grown_in : {E : Type 0} (r : Result ExprMeaning E) (p : Program) (n line : ℕ) (ms : List CodeMark) (a : ℕ) (f : Meant → Meant) (s : ExprMeaning) (old new : Draft) → IfOk r (λ t. (q : Program) → Grows q n line ms a f s t old new) → IfOk r (λ t. Grows p n line ms a f s t old new)
grown_in (Ok t) p n line ms a f s old new h = h p
grown_in (Err x) p n line ms a f s old new h = tt

-- what is told of a call of a condition
pub told_call : (p : Program) (c this : TheCall) (t : ExprMeaning) (v : Scalar) → c ≡ this → t ≡ record { scalar = v; class = None; numbered = false; event = None; elements = None; standing = standing.Value } → ((e : Expr) (vs : List Meant) → Tells p (record { scalar = v; class = None; numbered = false; event = None; elements = None; standing = standing.Value }) (condition_called (call_of this) e vs)) → (e : Expr) (vs : List Meant) → Tells p t (condition_called (call_of c) e vs)
told_call p c this t v i q h e vs = subst (λ (x : TheCall). Tells p t (condition_called (call_of x) e vs)) (sym i) (subst (λ (y : ExprMeaning). Tells p y (condition_called (call_of this) e vs)) (sym q) (h e vs))

-- the tree of a part
pub part_is : (p : Pos) (f g : PartForm) (x : tree.Part) → f ≡ g → part_at p f ≡ x → part_at p g ≡ x
part_is p f g x h k = ap (λ y. part_at p y) (sym h) ∙ k

-- lists of links

chain_push : (c : Context) (xs : List tree.Link) (x : tree.Link) (m : Meant) → chain_meant c (links_of (xs ++ x ∷ [])) m ≡ link_meant c x (chain_meant c (links_of xs) m)
chain_push c [] x m = refl
chain_push c (y ∷ ys) x m = chain_push c ys x (link_meant c y m)

links_push : (xs : List tree.Link) (x : tree.Link) → links_size (links_of (xs ++ x ∷ [])) ≡ links_size (links_of xs) + link_size x
links_push [] x = omega arith
links_push (y ∷ ys) x = omega (arith, links_push ys x)

pub links_fit : (xs : List tree.Link) (i : ℕ) (x : tree.Link) → i < length xs → x ≡ get_or xs i x → links_size (links_of (take i xs)) + link_size x ≤ links_size (links_of xs)
links_fit [] i x h e = absurd (omega arith)
links_fit (y ∷ ys) zero x h e = let a : link_size x ≡ link_size y = ap link_size e in omega arith
links_fit (y ∷ ys) (suc i) x h e = let r = links_fit ys i x (omega arith) e in omega arith

-- parts behind a root

parts_push_meant : (c : Context) (xs : List tree.Part) (x : tree.Part) (m : Meant) → parts_meant c (parts_of (xs ++ x ∷ [])) m ≡ part_meant c x (parts_meant c (parts_of xs) m)
parts_push_meant c [] x m = refl
parts_push_meant c (y ∷ ys) x m = parts_push_meant c ys x (part_meant c y m)

parts_push : (xs : List tree.Part) (x : tree.Part) → parts_size (parts_of (xs ++ x ∷ [])) ≡ parts_size (parts_of xs) + part_size x
parts_push [] x = omega arith
parts_push (y ∷ ys) x = omega (arith, parts_push ys x)

pub parts_fit : (xs : List tree.Part) (i : ℕ) (x : tree.Part) → i < length xs → x ≡ get_or xs i x → parts_size (parts_of (take i xs)) + part_size x ≤ parts_size (parts_of xs)
parts_fit [] i x h e = absurd (omega arith)
parts_fit (y ∷ ys) zero x h e = let a : part_size x ≡ part_size y = ap part_size e in omega arith
parts_fit (y ∷ ys) (suc i) x h e = let r = parts_fit ys i x (omega arith) e in omega arith

-- lists of arguments

abbrev pub exprs_push : Exprs → Expr → Exprs
exprs_push NoExprs e = MoreExprs e NoExprs
exprs_push (MoreExprs d ds) e = MoreExprs d (exprs_push ds e)

args_by_push : (xs : List Param) (ms : List Meant) (m : Meant) (x : Param) → slice_get xs (length ms) ≡ Some x → args_by xs (ms ++ m ∷ []) ≡ exprs_push (args_by xs ms) (arg_meant x m)
args_by_push [] ms m x e = cc
args_by_push (y ∷ ys) [] m x e = let is : y ≡ x = cc in ap (λ (z : Param). MoreExprs (arg_meant z m) (args_by ys [])) is ∙ ap (λ es. MoreExprs (arg_meant x m) es) (none_left ys)
  where
    none_left : (zs : List Param) → args_by zs [] ≡ NoExprs
    none_left [] = refl
    none_left (z ∷ zs) = refl
args_by_push (y ∷ ys) (n ∷ ns) m x e = ap (λ es. MoreExprs (arg_meant y n) es) (args_by_push ys ns m x e)

args_by_past : (xs : List Param) (ms : List Meant) (m : Meant) → length xs ≤ length ms → args_by xs (ms ++ m ∷ []) ≡ args_by xs ms
args_by_past [] ms m l = refl
args_by_past (y ∷ ys) [] m l = absurd (omega arith)
args_by_past (y ∷ ys) (n ∷ ns) m l = ap (λ es. MoreExprs (arg_meant y n) es) (args_by_past ys ns m (omega arith))

args_meant_push : (c : Context) (xs : List tree.Expr) (x : tree.Expr) → args_meant c (exprs_of (xs ++ x ∷ [])) ≡ args_meant c (exprs_of xs) ++ meant c x ∷ []
args_meant_push c [] x = refl
args_meant_push c (y ∷ ys) x = ap (λ ms. meant c y ∷ ms) (args_meant_push c ys x)

length-args : (c : Context) (xs : List tree.Expr) → length (args_meant c (exprs_of xs)) ≡ length xs
length-args c [] = refl
length-args c (x ∷ xs) = ap suc (length-args c xs)

exprs_size_push : (xs : List tree.Expr) (x : tree.Expr) → exprs_size (exprs_of (xs ++ x ∷ [])) ≡ exprs_size (exprs_of xs) + expr_size x
exprs_size_push [] x = omega arith
exprs_size_push (y ∷ ys) x = omega (arith, exprs_size_push ys x)

pub args_fit : (xs : List tree.Expr) (i : ℕ) (x : tree.Expr) → i < length xs → x ≡ get_or xs i x → exprs_size (exprs_of (take i xs)) + expr_size x ≤ exprs_size (exprs_of xs)
args_fit [] i x h e = absurd (omega arith)
args_fit (y ∷ ys) zero x h e = let a : expr_size x ≡ expr_size y = ap expr_size e in omega arith
args_fit (y ∷ ys) (suc i) x h e = let r = args_fit ys i x (omega arith) e in omega arith

pub stored_fit : (v : tree.Expr) (xs : List tree.Expr) → Some v ≡ slice_get xs 0 → expr_size v ≤ exprs_size (exprs_of xs)
stored_fit v [] e = cc
stored_fit v (x ∷ xs) e = let is : v ≡ x = cc in let s = ap expr_size is in omega (arith, s)

-- every expression counts
pub some_size : (e : tree.Expr) → 1 ≤ expr_size e
some_size (tree.Number p n) = omega arith
some_size (tree.Character p b) = omega arith
some_size (tree.Truth p b) = omega arith
some_size (tree.Name p n) = omega arith
some_size (tree.Cin p) = omega arith
some_size (tree.Postfix p root ps) = omega arith
some_size (tree.Unary p o e) = omega arith
some_size (tree.Chain p e ls) = omega arith
some_size (tree.Assign p s o e f) = omega arith

-- what is left for the parts and the links

pub postfix_size : (e root0 root : tree.Expr) (p : Pos) (ys xs : List tree.Part) → tree.Postfix p root0 (parts_of ys) ≡ e → root ≡ root0 → xs ≡ ys → expr_size e ≡ 1 + expr_size root + parts_size (parts_of xs)
postfix_size e root0 root p ys xs h i j = sym (ap expr_size (ap (λ (x : tree.Expr). tree.Postfix p x (parts_of xs)) i ∙ ap (λ (zs : List tree.Part). tree.Postfix p root0 (parts_of zs)) j ∙ h))

pub chain_size : (e first0 first : tree.Expr) (p : Pos) (ys xs : List tree.Link) → tree.Chain p first0 (links_of ys) ≡ e → first ≡ first0 → xs ≡ ys → expr_size e ≡ 1 + expr_size first + links_size (links_of xs)
chain_size e first0 first p ys xs h i j = sym (ap expr_size (ap (λ (x : tree.Expr). tree.Chain p x (links_of xs)) i ∙ ap (λ (zs : List tree.Link). tree.Chain p first0 (links_of zs)) j ∙ h))

-- under marks
module _ (ms : List CodeMark) where
  -- operators before an operand
  pub unary_as : (o u : UnaryOp) (k line : ℕ) (m : Meant) (old new : Draft) → o ≡ u → Adds k (ExprCode line ms (unary_meant u m).expr) old new → Adds k (ExprCode line ms (unary_meant o m).expr) old new
  unary_as o u k line m old new h a = subst (λ (x : UnaryOp). Adds k (ExprCode line ms (unary_meant x m).expr) old new) (sym h) a

  pub arm_minus : (o : UnaryOp) (n k line : ℕ) (m : Meant) (old mid new : Draft) → o ≡ unary.Minus → n + 1 ≤ k → Adds n (ExprCode line ms (value_of m)) old mid → Adds 1 (OpCode line op.Negate) mid new → Adds k (ExprCode line ms (unary_meant o m).expr) old new
  arm_minus o n k line m old mid new h l a b = unary_as o unary.Minus k line m old new h (adds_more l (adds_both (expr_stable line ms (value_of m)) a b))

  pub arm_not : (o : UnaryOp) (n k line : ℕ) (m : Meant) (old mid new : Draft) → o ≡ unary.Not → n + 1 ≤ k → Adds n (ExprCode line ms (value_of m)) old mid → Adds 1 (OpCode line op.Not) mid new → Adds k (ExprCode line ms (unary_meant o m).expr) old new
  arm_not o n k line m old mid new h l a b = unary_as o unary.Not k line m old new h (adds_more l (adds_both (expr_stable line ms (value_of m)) a b))

  -- what is written to a variable, or to a place

  set_at : (line k : ℕ) (m : Meant) (e : Expr) (code : Laid) (a z : ℕ) → variable_in m.standing ≡ Some k → SetCode line ms k (shape_of m.ty.base) e code a z → ExprAt code line ms (written_by (variable_in m.standing) m.expr (converted (shape_of m.ty.base) e)) a z
  set_at line k m e code a z is h =
      subst (λ (w : Option ℕ). ExprAt code line ms (written_by w m.expr (converted (shape_of m.ty.base) e)) a z) (sym is) (record { middle = h.middle; first = converted_at ms line (shape_of m.ty.base) e code a h.middle h.first; second = h.second })

  kept_at : (line : ℕ) (m : Meant) (e : Expr) (code : Laid) (a b z : ℕ) → variable_in m.standing ≡ None → ExprAt code line ms m.expr a b → PlaceCode line ms None (shape_of m.ty.base) e code b z → ExprAt code line ms (written_by (variable_in m.standing) m.expr (converted (shape_of m.ty.base) e)) a z
  kept_at line m e code a b z is h g =
      subst (λ (w : Option ℕ). ExprAt code line ms (written_by w m.expr (converted (shape_of m.ty.base) e)) a z) (sym is) (record {
        middle = b;
        first = h;
        second = record {
          middle = g.second.middle;
          first = converted_at ms line (shape_of m.ty.base) e code b g.second.middle (record { middle = g.middle; first = g.first; second = g.second.first });
          second = g.second.second;
        };
      })

  variable_at : (line k : ℕ) (o : AssignOp) (m v : Meant) (code : Laid) (a z : ℕ) → variable_in m.standing ≡ Some k → VariableCode line ms (combining_of o) k (shape_of m.ty.base) (value_of v) code a z → ExprAt code line ms (assign_meant o m v).expr a z
  variable_at line k assign.Set m v code a z is h = set_at line k m (value_of v) code a z is h
  variable_at line k assign.Add m v code a z is h = updated_variable ms line k Add m (value_of v) code a z is h
  variable_at line k assign.Sub m v code a z is h = updated_variable ms line k Sub m (value_of v) code a z is h
  variable_at line k assign.Mul m v code a z is h = updated_variable ms line k Mul m (value_of v) code a z is h
  variable_at line k assign.Div m v code a z is h = updated_variable ms line k Div m (value_of v) code a z is h
  variable_at line k assign.Rem m v code a z is h = updated_variable ms line k Rem m (value_of v) code a z is h

  place_at : (line : ℕ) (o : AssignOp) (m v : Meant) (code : Laid) (a b z : ℕ) → variable_in m.standing ≡ None → ExprAt code line ms m.expr a b → PlaceCode line ms (combining_of o) (shape_of m.ty.base) (value_of v) code b z → ExprAt code line ms (assign_meant o m v).expr a z
  place_at line assign.Set m v code a b z is h g = kept_at line m (value_of v) code a b z is h g
  place_at line assign.Add m v code a b z is h g = updated_place ms line Add m (value_of v) code a b z is h g
  place_at line assign.Sub m v code a b z is h g = updated_place ms line Sub m (value_of v) code a b z is h g
  place_at line assign.Mul m v code a b z is h g = updated_place ms line Mul m (value_of v) code a b z is h g
  place_at line assign.Div m v code a b z is h g = updated_place ms line Div m (value_of v) code a b z is h g
  place_at line assign.Rem m v code a b z is h g = updated_place ms line Rem m (value_of v) code a b z is h g

  pub arm_to_variable : {p : Program} → (n line k a : ℕ) (o : AssignOp) (x : Option Op) (v : Meant) (s t : ExprMeaning) (old mid new : Draft) → a ≤ length old.ops → Some k ≡ cell_in s.standing → x ≡ combining_of o → t ≡ record s { standing = standing.Value } → Cuts a old mid → Adds n (VariableCode line ms x k (shape_as s.scalar) (value_of v)) mid new → Grows p n line ms a (λ m. assign_meant o m v) s t old new
  arm_to_variable n line k a o x v s t old mid new l e i j c h =
      let h2 : Adds n (VariableCode line ms (combining_of o) k (shape_as s.scalar) (value_of v)) mid new = subst (λ (y : Option Op). Adds n (VariableCode line ms y k (shape_as s.scalar) (value_of v)) mid new) i h in
      grows_cut n line ms a (λ m. assign_meant o m v) s t (VariableCode line ms (combining_of o) k (shape_as s.scalar) (value_of v)) old mid new l c h2
      (λ m u. assign_tells o s t m v j u)
      (λ m u code z w. variable_at line k o m v code a z (told_variable s m k u e) (subst (λ (y : Shape). VariableCode line ms (combining_of o) k y (value_of v) code a z) (sym u.shape) w))

  pub arm_to_place : {p : Program} → (n line a : ℕ) (o : AssignOp) (x : Option Op) (v : Meant) (s t : ExprMeaning) (old new : Draft) → a ≤ length old.ops → None ≡ cell_in s.standing → x ≡ combining_of o → t ≡ record s { standing = standing.Value } → Adds n (PlaceCode line ms x (shape_as s.scalar) (value_of v)) old new → Grows p n line ms a (λ m. assign_meant o m v) s t old new
  arm_to_place n line a o x v s t old new l e i j h =
      let h2 : Adds n (PlaceCode line ms (combining_of o) (shape_as s.scalar) (value_of v)) old new = subst (λ (y : Option Op). Adds n (PlaceCode line ms y (shape_as s.scalar) (value_of v)) old new) i h in
      grows_adds n line ms a (λ m. assign_meant o m v) s t (PlaceCode line ms (combining_of o) (shape_as s.scalar) (value_of v)) old new l h2
      (λ m u. assign_tells o s t m v j u)
      (λ m u code b z w g. place_at line o m v code a b z (told_no_variable s m u e) w (subst (λ (y : Shape). PlaceCode line ms (combining_of o) y (value_of v) code b z) (sym u.shape) g))

  pub arm_set : (n k line : ℕ) (x : Option Op) (s : Shape) (e : Expr) (d0 d1 d2 d3 : Draft) → x ≡ None → Adds n (ExprCode line ms e) d0 d1 → Adds 1 (ConvertCode line s) d1 d2 → Adds 1 (OpCode line (op.Set k)) d2 d3 → Adds (n + 5) (VariableCode line ms x k s e) d0 d3
  arm_set n k line x s e d0 d1 d2 d3 i h1 h2 h3 =
      subst (λ (y : Option Op). Adds (n + 5) (VariableCode line ms y k s e) d0 d3) (sym i) (adds_more (omega arith) (adds_both (both (expr_stable line ms e) (convert_stable line s)) (adds_both (expr_stable line ms e) h1 h2) h3))

  pub arm_set_by : (n k line : ℕ) (o : Op) (x : Option Op) (s : Shape) (e : Expr) (d0 d1 d2 d3 d4 d5 : Draft) → x ≡ Some o → Adds 1 (OpCode line (op.Via k)) d0 d1 → Adds n (ExprCode line ms e) d1 d2 → Adds 1 (OpCode line o) d2 d3 → Adds 1 (ConvertCode line s) d3 d4 → Adds 1 (OpCode line (op.Set k)) d4 d5 → Adds (n + 5) (VariableCode line ms x k s e) d0 d5
  arm_set_by n k line o x s e d0 d1 d2 d3 d4 d5 i h1 h2 h3 h4 h5 =
      subst (λ (y : Option Op). Adds (n + 5) (VariableCode line ms y k s e) d0 d5) (sym i) (
      adds_more (omega arith) (adds_both (both (both (one_stable (op.Via k) line) (both (expr_stable line ms e) (one_stable o line))) (convert_stable line s))
      (adds_both (both (one_stable (op.Via k) line) (both (expr_stable line ms e) (one_stable o line)))
      (adds_both (one_stable (op.Via k) line) h1 (adds_both (expr_stable line ms e) h2 h3)) h4) h5))

  pub arm_keep : (n line : ℕ) (x : Option Op) (s : Shape) (e : Expr) (d0 d1 d2 d3 : Draft) → x ≡ None → Adds n (ExprCode line ms e) d0 d1 → Adds 1 (ConvertCode line s) d1 d2 → Adds 1 (OpCode line op.Keep) d2 d3 → Adds (n + 5) (PlaceCode line ms x s e) d0 d3
  arm_keep n line x s e d0 d1 d2 d3 i h1 h2 h3 =
      subst (λ (y : Option Op). Adds (n + 5) (PlaceCode line ms y s e) d0 d3) (sym i) (adds_more (omega arith) (adds_both (expr_stable line ms e) h1 (adds_both (convert_stable line s) h2 h3)))

  pub arm_keep_by : (n line : ℕ) (o : Op) (x : Option Op) (s : Shape) (e : Expr) (d0 d1 d2 d3 : Draft) → x ≡ Some o → Adds 2 (BeginCode line) d0 d1 → Adds n (ExprCode line ms e) d1 d2 → Adds 3 (EndCode line o s) d2 d3 → Adds (n + 5) (PlaceCode line ms x s e) d0 d3
  arm_keep_by n line o x s e d0 d1 d2 d3 i h1 h2 h3 =
      subst (λ (y : Option Op). Adds (n + 5) (PlaceCode line ms y s e) d0 d3) (sym i) (arm_update ms n (n + 5) line o s e d0 d1 d2 d3 (omega arith) h1 h2 h3)

  right_at : (line : ℕ) (o : BinaryOp) (l r : Meant) (code : Laid) (a z : ℕ) → Both (ExprAt code line ms (value_of l)) (RightCode line ms (joining_of o) (value_of r) code) a z → ExprAt code line ms (binary_meant o l r).expr a z
  right_at line binary.Or l r code a z h = h
  right_at line binary.And l r code a z h = h
  right_at line binary.Equal l r code a z h = h
  right_at line binary.NotEqual l r code a z h = h
  right_at line binary.Less l r code a z h = h
  right_at line binary.LessEqual l r code a z h = h
  right_at line binary.Greater l r code a z h = h
  right_at line binary.GreaterEqual l r code a z h = h
  right_at line binary.Add l r code a z h = h
  right_at line binary.Sub l r code a z h = h
  right_at line binary.Mul l r code a z h = h
  right_at line binary.Div l r code a z h = h
  right_at line binary.Rem l r code a z h = h

  -- behind a left side
  fetched_side : (o : BinaryOp) (l r : Meant) → binary_meant o (fetched l) r ≡ binary_meant o l r
  fetched_side binary.Or l r = refl
  fetched_side binary.And l r = refl
  fetched_side binary.Equal l r = refl
  fetched_side binary.NotEqual l r = refl
  fetched_side binary.Less l r = refl
  fetched_side binary.LessEqual l r = refl
  fetched_side binary.Greater l r = refl
  fetched_side binary.GreaterEqual l r = refl
  fetched_side binary.Add l r = refl
  fetched_side binary.Sub l r = refl
  fetched_side binary.Mul l r = refl
  fetched_side binary.Div l r = refl
  fetched_side binary.Rem l r = refl

  link_grows : {p : Program} → (o : BinaryOp) (r : Meant) (k line a : ℕ) (left t : ExprMeaning) (old mid new : Draft) → t ≡ record left { standing = standing.Value } → Grows p 1 line ms a fetched left t old mid → Adds k (RightCode line ms (joining_of o) (value_of r)) mid new → Grows p (1 + k) line ms a (λ l. binary_meant o l r) left (record { scalar = scalar_of (joining_of o); class = None; numbered = false; event = None; elements = None; standing = standing.Value }) old new
  link_grows o r k line a left t old mid new i h g =
      grows_as (omega arith) (λ m. fetched_side o m r) (grows_then h (
      grows_adds k line ms a (λ l. binary_meant o l r) t (record { scalar = scalar_of (joining_of o); class = None; numbered = false; event = None; elements = None; standing = standing.Value }) (RightCode line ms (joining_of o) (value_of r)) mid new h.past g
      (λ m u. right_tells o m r)
      (λ m u code b z e s.
      let is : m.standing ≡ AsValue = stands t m standing.Value u (ap (λ (x : ExprMeaning). x.standing) i) in
      right_at line o m r code a z (record { middle = b; first = subst (λ (x : Standing). ExprAt code line ms (value_by x m.expr) a b) (sym is) e; second = s }))))

  pub right_as : (i j : BinaryCode) (n line : ℕ) (e : Expr) (old new : Draft) → i ≡ j → Adds n (RightCode line ms j e) old new → Adds n (RightCode line ms i e) old new
  right_as i j n line e old new h a = subst (λ (x : BinaryCode). Adds n (RightCode line ms x e) old new) (sym h) a

  -- an element
  pub arm_no_element : (p : Program) (n line a : ℕ) (i : Meant) (s t : ExprMeaning) (old new : Draft) → 1 ≤ n → a ≤ length old.ops → s.elements ≡ None → t ≡ record { scalar = scalar.Number; class = None; numbered = false; event = None; elements = None; standing = standing.Nothing } → Restarts (op.Push (pos 0)) line a old new → Grows p n line ms a (λ m. element_meant p m i) s t old new
  arm_no_element p n line a i s t old new k l e q h =
      grows_restart n line ms a (λ m. element_meant p m i) s t (op.Push (pos 0)) old new k l h
      (λ m u. subst (λ (x : ExprMeaning). Tells p x (element_meant p m i)) (sym q) (subst (λ (o : Option ℕ). Tells p (record { scalar = scalar.Number; class = None; numbered = false; event = None; elements = None; standing = standing.Nothing }) (element_by p o m (value_of i))) (sym (u.len ∙ e)) (record { shape = refl; class = refl; numbered = refl; event = refl; len = refl; standing = refl })))
      (λ m u code z w. subst (λ (o : Option ℕ). ExprAt code line ms (element_by p o m (value_of i)).expr a z) (sym (u.len ∙ e)) w)

  element_code : (number : Bool) (line n size : ℕ) (s : Shape) (place index : Expr) (ty : Ty) (code : Laid) (a b z : ℕ) → size ≡ shape_cells s → ExprAt code line ms place a b → Both (ExprAt code line ms index) (Both (One code (op.Index n size) line) (FoundCode line number code)) b z → ExprAt code line ms (place_or_number number (Element n s place index) ty).expr a z
  element_code true line n size s place index ty code a b z e w v = record {
    middle = v.second.middle;
    first = record { middle = b; first = w; second = record { middle = v.middle; first = v.first; second = subst (λ (y : ℕ). One code (op.Index n y) line v.middle v.second.middle) e v.second.first } };
    second = v.second.second;
  }
  element_code false line n size s place index ty code a b z e w v = record {
    middle = b;
    first = w;
    second = record { middle = v.middle; first = v.first; second = subst (λ (y : ℕ). One code (op.Index n y) line v.middle z) e (and_nothing (One code (op.Index n size) line) v.middle z v.second) };
  }

  pub arm_element : (p : Program) (n k line a length_of size : ℕ) (i : Meant) (s t : ExprMeaning) (old mid next new : Draft) → ((b : Base) → class_made (making p b) ≡ s.class → is_numbered (making p b) ≡ s.numbered → size ≡ shape_cells (base_shape p b)) → n + 2 ≤ k → a ≤ length old.ops → s.elements ≡ Some length_of → None ≡ first_in s.standing → t ≡ element_told s → Adds n (ExprCode line ms (value_of i)) old mid → Adds 1 (OpCode line (op.Index length_of size)) mid next → Adds 1 (FoundCode line s.numbered) next new → Grows p k line ms a (λ m. element_meant p m i) s t old new
  arm_element p n k line a c size i s t old mid next new sized r l e f j h g q =
      grows_adds k line ms a (λ m. element_meant p m i) s t (λ code. Both (ExprAt code line ms (value_of i)) (Both (One code (op.Index c size) line) (FoundCode line s.numbered code))) old new l
      (adds_more r (adds_both (expr_stable line ms (value_of i)) h (adds_both (one_stable (op.Index c size) line) g q)))
      (λ m u. subst (λ (x : ExprMeaning). Tells p x (element_meant p m i)) (sym j) (subst (λ (y : Meant). Tells p (element_told s) y) (sym (element_is p s c i e (sym f) m u)) (element_tells s m s.numbered (Element c (base_shape p m.ty.base) m.expr (value_of i)) u)))
      (λ m u code b z w v. subst (λ (y : Meant). ExprAt code line ms y.expr a z) (sym (element_is p s c i e (sym f) m u)) (element_code s.numbered line c size (base_shape p m.ty.base) m.expr (value_of i) (one_of m.ty) code a b z (sized m.ty.base u.class u.numbered) w v))

  pub arm_condition_element : (p : Program) (n j line a c k : ℕ) (i : Meant) (s t : ExprMeaning) (old mid next new : Draft) → n + 1 ≤ j → a ≤ length old.ops → s.elements ≡ Some c → Some k ≡ first_in s.standing → t ≡ record s { elements = None } → Cuts a old mid → Adds n (ExprCode line ms (value_of i)) mid next → Adds 1 (OpCode line (op.Condition k c)) next new → Grows p j line ms a (λ m. element_meant p m i) s t old new
  arm_condition_element p n j line a c k i s t old mid next new r l e f q cuts h g =
      grows_cut j line ms a (λ m. element_meant p m i) s t (λ code. Both (ExprAt code line ms (value_of i)) (One code (op.Condition k c) line)) old mid new l cuts
      (adds_more r (adds_both (expr_stable line ms (value_of i)) h g))
      (λ m u. subst (λ (x : ExprMeaning). Tells p x (element_meant p m i)) (sym q) (subst (λ (y : Meant). Tells p (record s { elements = None }) y) (sym (number_is p s k c i e f m u)) (number_tells s k c m (value_of i) f u)))
      (λ m u code z w. subst (λ (y : Meant). ExprAt code line ms y.expr a z) (sym (number_is p s k c i e f m u)) w)

  -- calls

  pub arm_called : (p : Program) (n line a : ℕ) (args : List Meant) (s t : ExprMeaning) (old new : Draft) → 1 ≤ n → a ≤ length old.ops → s.standing ≡ standing.Fail → t ≡ record { scalar = scalar.Truth; class = None; numbered = false; event = None; elements = None; standing = standing.Value } → Restarts op.Fail line a old new → Grows p n line ms a (λ m. call_meant p m args) s t old new
  arm_called p n line a args s t old new k l e q h =
      grows_restart n line ms a (λ m. call_meant p m args) s t op.Fail old new k l h
      (λ m u. subst (λ (x : ExprMeaning). Tells p x (call_meant p m args)) (sym q) (subst (λ (o : Standing). Tells p (record { scalar = scalar.Truth; class = None; numbered = false; event = None; elements = None; standing = standing.Value }) (call_by p o m args)) (sym (stands s m standing.Fail u e)) (record { shape = refl; class = refl; numbered = refl; event = refl; len = refl; standing = refl })))
      (λ m u code z w. subst (λ (o : Standing). ExprAt code line ms (call_by p o m args).expr a z) (sym (stands s m standing.Fail u e)) w)

  pub arm_routine : (p : Program) (n k line a r : ℕ) (xs : List Param) (args : List Meant) (s t : ExprMeaning) (old mid d1 d2 new : Draft) → n + 2 ≤ k → a ≤ length old.ops → s.standing ≡ standing.Routine r → xs ≡ params_of p r → t ≡ record s { standing = standing.Value } → Cuts a old mid
      → Adds n (ArgumentsCode line ms (args_by xs args)) mid d1 → Adds 1 (OpCode line op.Tick) d1 d2 → Adds 1 (RiskCode line ms (op.Call r)) d2 new → Grows p k line ms a (λ m. call_meant p m args) s t old new
  arm_routine p n k line a r xs args s t old mid d1 d2 new le l e x i c h1 h2 h3 =
      let es : Exprs = args_by (params_of p r) args in
      let h : Adds n (ArgumentsCode line ms es) mid d1 = subst (λ (ys : List Param). Adds n (ArgumentsCode line ms (args_by ys args)) mid d1) x h1 in
      grows_cut k line ms a (λ m. call_meant p m args) s t (λ code. Both (ArgumentsCode line ms es code) (Both (One code op.Tick line) (Risk code ms (op.Call r) line))) old mid new l c
      (adds_more (omega arith) (adds_both (args_stable line ms es) h (adds_both (one_stable op.Tick line) h2 h3)))
      (λ m u. subst (λ (o : Standing). Tells p t (call_by p o m args)) (sym (stands s m (standing.Routine r) u e)) (as_value s t m (Call r es) i u))
      (λ m u code z w. subst (λ (o : Standing). ExprAt code line ms (call_by p o m args).expr a z) (sym (stands s m (standing.Routine r) u e)) w)

  -- behind the object
  pub arm_member_called : (p : Program) (n k line a r : ℕ) (xs : List Param) (args : List Meant) (s t : ExprMeaning) (old d1 d2 new : Draft) → n + 2 ≤ k → a ≤ length old.ops → s.standing ≡ standing.Member r → xs ≡ params_of p r → t ≡ record s { standing = standing.Value }
      → Adds n (ArgumentsCode line ms (args_by xs args)) old d1 → Adds 1 (OpCode line op.Tick) d1 d2 → Adds 1 (RiskCode line ms (op.CallOn r)) d2 new → Grows p k line ms a (λ m. call_meant p m args) s t old new
  arm_member_called p n k line a r xs args s t old d1 d2 new le l e x i h1 h2 h3 =
      let es : Exprs = args_by (params_of p r) args in
      let h : Adds n (ArgumentsCode line ms es) old d1 = subst (λ (ys : List Param). Adds n (ArgumentsCode line ms (args_by ys args)) old d1) x h1 in
      grows_adds k line ms a (λ m. call_meant p m args) s t (λ code. Both (ArgumentsCode line ms es code) (Both (One code op.Tick line) (Risk code ms (op.CallOn r) line))) old new l
      (adds_more (omega arith) (adds_both (args_stable line ms es) h (adds_both (one_stable op.Tick line) h2 h3)))
      (λ m u. subst (λ (o : Standing). Tells p t (call_by p o m args)) (sym (stands s m (standing.Member r) u e)) (as_value s t m (OfObject (CallOn r m.expr es)) i u))
      (λ m u code b z w v. subst (λ (o : Standing). ExprAt code line ms (call_by p o m args).expr a z) (sym (stands s m (standing.Member r) u e)) (record { middle = b; first = w; second = v }))

  pub arm_live_called : (p : Program) (n k line a r : ℕ) (xs : List Param) (args : List Meant) (s t : ExprMeaning) (old d1 new : Draft) → n + 3 ≤ k → a ≤ length old.ops → s.standing ≡ standing.LiveMember r → xs ≡ params_of p r → t ≡ record s { standing = standing.Value }
      → Adds n (ArgumentsCode line ms (args_by xs args)) old d1 → Adds 3 (LiveCallCode line ms r) d1 new → Grows p k line ms a (λ m. call_meant p m args) s t old new
  arm_live_called p n k line a r xs args s t old d1 new le l e x i h1 h2 =
      let es : Exprs = args_by (params_of p r) args in
      let h : Adds n (ArgumentsCode line ms es) old d1 = subst (λ (ys : List Param). Adds n (ArgumentsCode line ms (args_by ys args)) old d1) x h1 in
      grows_adds k line ms a (λ m. call_meant p m args) s t (λ code. Both (ArgumentsCode line ms es code) (LiveCallCode line ms r code)) old new l
      (adds_more (omega arith) (adds_both (args_stable line ms es) h h2))
      (λ m u. subst (λ (o : Standing). Tells p t (call_by p o m args)) (sym (stands s m (standing.LiveMember r) u e)) (as_value s t m (OfObject (CallLive r m.expr es)) i u))
      (λ m u code b z w v. subst (λ (o : Standing). ExprAt code line ms (call_by p o m args).expr a z) (sym (stands s m (standing.LiveMember r) u e)) (record { middle = b; first = w; second = v }))

  pub arm_mutex_called : (p : Program) (n k line a x r : ℕ) (xs : List Param) (args : List Meant) (s t : ExprMeaning) (old d1 new : Draft) → n + 3 ≤ k → a ≤ length old.ops → s.standing ≡ standing.MutexMember x r → xs ≡ params_of p r → t ≡ record s { standing = standing.Value }
      → Adds n (ArgumentsCode line ms (args_by xs args)) old d1 → Adds 3 (MutexCallCode line ms x r) d1 new → Grows p k line ms a (λ m. call_meant p m args) s t old new
  arm_mutex_called p n k line a x r xs args s t old d1 new le l e y i h1 h2 =
      let es : Exprs = args_by (params_of p r) args in
      let h : Adds n (ArgumentsCode line ms es) old d1 = subst (λ (ys : List Param). Adds n (ArgumentsCode line ms (args_by ys args)) old d1) y h1 in
      grows_adds k line ms a (λ m. call_meant p m args) s t (λ code. Both (ArgumentsCode line ms es code) (MutexCallCode line ms x r code)) old new l
      (adds_more (omega arith) (adds_both (args_stable line ms es) h h2))
      (λ m u. subst (λ (o : Standing). Tells p t (call_by p o m args)) (sym (stands s m (standing.MutexMember x r) u e)) (as_value s t m (OfObject (EnterOn x r m.expr es)) i u))
      (λ m u code b z w v. subst (λ (o : Standing). ExprAt code line ms (call_by p o m args).expr a z) (sym (stands s m (standing.MutexMember x r) u e)) (record { middle = b; first = w; second = v }))

  -- calls of conditions

  pub called_wait : (n k line : ℕ) (c : TheCall) (e : Expr) (old mid new : Draft) → c ≡ calls.Wait → n + 5 ≤ k → Adds n (ExprCode line ms e) old mid → Adds 5 (WaitCode line ms) mid new → Adds k (CalledCode line ms (call_of c) e) old new
  called_wait n k line c e old mid new i l h g = subst (λ (x : TheCall). Adds k (CalledCode line ms (call_of x) e) old new) (sym i) (adds_more l (adds_both (expr_stable line ms e) h g))

  pub called_one : (k line : ℕ) (c this : TheCall) (e : Expr) (old new : Draft) → c ≡ this → 1 ≤ k → Adds 1 (CalledCode line ms (call_of this) e) old new → Adds k (CalledCode line ms (call_of c) e) old new
  called_one k line c this e old new i l h = subst (λ (x : TheCall). Adds k (CalledCode line ms (call_of x) e) old new) (sym i) (adds_more l h)

  called_at : (line : ℕ) (c : ConditionCall) (e : Expr) (values : List Meant) (code : Laid) (a b z : ℕ) → ExprAt code line ms e a b → CalledCode line ms c (stored_by values) code b z → ExprAt code line ms (condition_called c e values).expr a z
  called_at line Waits e values code a b z h g = record { middle = b; first = h; second = g }
  called_at line Signals e values code a b z h g = record { middle = b; first = h; second = g }
  called_at line SignalsBlocking e values code a b z h g = record { middle = b; first = h; second = g }
  called_at line AsksEmpty e values code a b z h g = record { middle = b; first = h; second = g }
  called_at line AsksFront e values code a b z h g = record { middle = b; first = h; second = g }

  arm_call : (p : Program) (n line a : ℕ) (c : TheCall) (values : List Meant) (s t : ExprMeaning) (old new : Draft) → a ≤ length old.ops → s.standing ≡ standing.CallOf c → Adds n (CalledCode line ms (call_of c) (stored_by values)) old new → ((e : Expr) (vs : List Meant) → Tells p t (condition_called (call_of c) e vs)) → Grows p n line ms a (λ m. call_meant p m values) s t old new
  arm_call p n line a c values s t old new l e h q =
      grows_adds n line ms a (λ m. call_meant p m values) s t (CalledCode line ms (call_of c) (stored_by values)) old new l h
      (λ m u. subst (λ (o : Standing). Tells p t (call_by p o m values)) (sym (stands s m (standing.CallOf c) u e)) (q m.expr values))
      (λ m u code b z w v. subst (λ (o : Standing). ExprAt code line ms (call_by p o m values).expr a z) (sym (stands s m (standing.CallOf c) u e)) (called_at line (call_of c) m.expr values code a b z w v))

  pub arm_condition_called : {E : Type 0} (r : Result ExprMeaning E) (p : Program) (n line a : ℕ) (c : TheCall) (values : List Meant) (s : ExprMeaning) (old new : Draft) → a ≤ length old.ops → s.standing ≡ standing.CallOf c → OnOk r (Adds n (CalledCode line ms (call_of c) (stored_by values)) old new) → IfOk r (λ t. (e : Expr) (vs : List Meant) → Tells p t (condition_called (call_of c) e vs)) → IfOk r (λ t. Grows p n line ms a (λ m. call_meant p m values) s t old new)
  arm_condition_called (Ok t) p n line a c values s old new l e h q = arm_call p n line a c values s t old new l e h q
  arm_condition_called (Err y) p n line a c values s old new l e h q = tt

  -- in the place of what stands, 0, which stands for nothing
  pub arm_nothing : (p : Program) (n line a : ℕ) (f : Meant → Meant) (s t : ExprMeaning) (old new : Draft) → 1 ≤ n → a ≤ length old.ops → ((m : Meant) → Tells p s m → f m ≡ no_meaning) → t ≡ record { scalar = scalar.Number; class = None; numbered = false; event = None; elements = None; standing = standing.Nothing } → Restarts (op.Push (pos 0)) line a old new → Grows p n line ms a f s t old new
  arm_nothing p n line a f s t old new k l none q h =
      grows_restart n line ms a f s t (op.Push (pos 0)) old new k l h
      (λ m u. subst (λ (y : ExprMeaning). Tells p y (f m)) (sym q) (subst (λ (y : Meant). Tells p (record { scalar = scalar.Number; class = None; numbered = false; event = None; elements = None; standing = standing.Nothing }) y) (sym (none m u)) (record { shape = refl; class = refl; numbered = refl; event = refl; len = refl; standing = refl })))
      (λ m u code z w. subst (λ (y : Meant). ExprAt code line ms y.expr a z) (sym (none m u)) w)

  pub put_for_nothing : {E : Type 0} (r : Result ExprMeaning E) (p : Program) (n line a : ℕ) (f : Meant → Meant) (s : ExprMeaning) (old new : Draft) → 1 ≤ n → a ≤ length old.ops → ((m : Meant) → Tells p s m → f m ≡ no_meaning) → OnOk r (Restarts (op.Push (pos 0)) line a old new) → IfOk r (λ t. t ≡ record { scalar = scalar.Number; class = None; numbered = false; event = None; elements = None; standing = standing.Nothing }) → IfOk r (λ t. Grows p n line ms a f s t old new)
  put_for_nothing (Ok t) p n line a f s old new k l none h q = arm_nothing p n line a f s t old new k l none q h
  put_for_nothing (Err y) p n line a f s old new k l none h q = tt

  -- what is called where nothing can be
  nothing_called : (p : Program) (x : Told) (args : List Meant) → ((o : Standing) (m : Meant) → StandsAs x o → call_by p o m args ≡ no_meaning) → (s : ExprMeaning) → s.standing ≡ x → (m : Meant) → Tells p s m → call_meant p m args ≡ no_meaning
  nothing_called p x args none s e m u = none m.standing m (stands s m x u e)

  pub not_called : {E : Type 0} (r : Result ExprMeaning E) (p : Program) (n line a : ℕ) (x : Told) (args : List Meant) (s : ExprMeaning) (old new : Draft) → 1 ≤ n → a ≤ length old.ops → s.standing ≡ x → ((o : Standing) (m : Meant) → StandsAs x o → call_by p o m args ≡ no_meaning) → OnOk r (Restarts (op.Push (pos 0)) line a old new) → IfOk r (λ t. t ≡ record { scalar = scalar.Number; class = None; numbered = false; event = None; elements = None; standing = standing.Nothing }) → IfOk r (λ t. Grows p n line ms a (λ m. call_meant p m args) s t old new)
  not_called r p n line a x args s old new k l e none h q = put_for_nothing r p n line a (λ m. call_meant p m args) s old new k l (nothing_called p x args none s e) h q

  pub called_part : {E : Type 0} (r : Result ExprMeaning E) (c : Context) (x : tree.Part) (sign : Pos) (xs ys : List tree.Expr) (line a : ℕ) (s : ExprMeaning) (old new : Draft) → tree.Call sign (exprs_of ys) ≡ x → xs ≡ ys → IfOk r (λ t. Grows c.program (OPS_FOR_SIZE * (1 + exprs_size (exprs_of xs))) line ms a (λ m. call_meant c.program m (args_meant c (exprs_of xs))) s t old new) → IfOk r (λ t. Grows c.program (OPS_FOR_SIZE * part_size x) line ms a (part_meant c x) s t old new)
  called_part r c x sign xs ys line a s old new e i h =
      subst (λ (y : tree.Part). IfOk r (λ t. Grows c.program (OPS_FOR_SIZE * part_size y) line ms a (part_meant c y) s t old new)) (ap (λ (zs : List tree.Expr). tree.Call sign (exprs_of zs)) i ∙ e) (as_part r h)
    where
      as_part : {E : Type 0} (r : Result ExprMeaning E) → IfOk r (λ t. Grows c.program (OPS_FOR_SIZE * (1 + exprs_size (exprs_of xs))) line ms a (λ m. call_meant c.program m (args_meant c (exprs_of xs))) s t old new) → IfOk r (λ t. Grows c.program (OPS_FOR_SIZE * part_size (tree.Call sign (exprs_of xs))) line ms a (part_meant c (tree.Call sign (exprs_of xs))) s t old new)
      as_part (Ok t) g = grows_as (omega arith) (λ m. refl) g
      as_part (Err y) g = tt

  pub stepped_part : {E : Type 0} (r : Result ExprMeaning E) (c : Context) (x : tree.Part) (sign : Pos) (o : StepOp) (line a : ℕ) (s : ExprMeaning) (old new : Draft) → tree.Step sign o ≡ x → IfOk r (λ t. Grows c.program 9 line ms a (step_meant o) s t old new) → IfOk r (λ t. Grows c.program (OPS_FOR_SIZE * part_size x) line ms a (part_meant c x) s t old new)
  stepped_part (Ok t) c x sign o line a s old new e g = subst (λ (y : tree.Part). Grows c.program (OPS_FOR_SIZE * part_size y) line ms a (part_meant c y) s t old new) e (grows_as (omega arith) (λ m. refl) g)
  stepped_part (Err y) c x sign o line a s old new e g = tt

  -- arguments

  arguments_push : (line : ℕ) (es : Exprs) (e : Expr) (code : Laid) (a b z : ℕ) → ArgumentsAt code line ms es a b → ExprAt code line ms e b z → ArgumentsAt code line ms (exprs_push es e) a z
  arguments_push line NoExprs e code a b z h g = record { middle = z; first = subst (λ x. ExprAt code line ms e x z) h.end g; second = record { end = refl } }
  arguments_push line (MoreExprs d ds) e code a b z h g = record { middle = h.middle; first = h.first; second = arguments_push line ds e code h.middle b z h.second g }

  pub arguments_more : (n k line : ℕ) (es : Exprs) (e : Expr) (old mid new : Draft) → Adds n (ArgumentsCode line ms es) old mid → Adds k (ExprCode line ms e) mid new → Adds (n + k) (ArgumentsCode line ms (exprs_push es e)) old new
  arguments_more n k line es e old mid new h g = adds_as (adds_both (args_stable line ms es) h g) (λ code a z b. arguments_push line es e code a b.middle z b.first b.second)

  -- a root and its parts, a first operand and its links
  grown_code : {p : Program} → {E : Type 0} (r : Result ExprMeaning E) (n k l line : ℕ) (m : Meant) (f : Meant → Meant) (s : ExprMeaning) (old mid new : Draft) → n + k ≤ l → Adds n (ExprCode line ms m.expr) old mid → Tells p s m → IfOk r (λ t. Grows p k line ms (length old.ops) f s t mid new) → OnOk r (Adds l (ExprCode line ms (f m).expr) old new)
  grown_code (Ok t) n k l line m f s old mid new le h u w = adds_grows {f = f} le h u w
  grown_code (Err x) n k l line m f s old mid new le h u w = tt

  grown_tells : {p : Program} → {E : Type 0} (r : Result ExprMeaning E) (n k line : ℕ) (m : Meant) (f : Meant → Meant) (s : ExprMeaning) (old mid new : Draft) → Adds n (ExprCode line ms m.expr) old mid → Tells p s m → IfOk r (λ t. Grows p k line ms (length old.ops) f s t mid new) → IfOk r (λ t. Tells p t (f m))
  grown_tells (Ok t) n k line m f s old mid new h u w = tells_grows {f = f} h u w
  grown_tells (Err x) n k line m f s old mid new h u w = tt

-- in a program
module _ (program : Program) where
  -- with more ops the same is meant
  pub value_in : (n line : ℕ) (e : tree.Expr) (was now old new : Draft) → now ≡ record was { ops = now.ops } → Adds n (ExprCode line now.marks (value_of (meant (context_in program now) e))) old new → Adds n (ExprCode line was.marks (value_of (meant (context_in program was) e))) old new
  value_in n line e was now old new h a = subst (λ (d : Draft). Adds n (ExprCode line d.marks (value_of (meant (context_in program d) e))) old new) h a

  pub as_code : (e t : tree.Expr) (line : ℕ) (old new : Draft) → t ≡ e → Adds (OPS_FOR_SIZE * expr_size t - 2) (ExprCode line old.marks (meant (context_in program old) t).expr) old new → Adds (OPS_FOR_SIZE * expr_size e - 2) (ExprCode line old.marks (meant (context_in program old) e).expr) old new
  as_code e t line old new h a = subst (λ (x : tree.Expr). Adds (OPS_FOR_SIZE * expr_size x - 2) (ExprCode line old.marks (meant (context_in program old) x).expr) old new) h a

  -- literals
  pub arm_number : (e : tree.Expr) (p : Pos) (n x : ℤ) (line : ℕ) (old new : Draft) → tree.Number p n ≡ e → x ≡ n → Adds 1 (OpCode line (op.Push x)) old new → Adds (OPS_FOR_SIZE * expr_size e - 2) (ExprCode line old.marks (meant (context_in program old) e).expr) old new
  arm_number e p n x line old new h i k = as_code e (tree.Number p n) line old new h (adds_more (omega arith) (subst (λ (y : ℤ). Adds 1 (OpCode line (op.Push y)) old new) i k))

  pub arm_character : (e : tree.Expr) (p : Pos) (b : ℕ) (x : ℤ) (line : ℕ) (old new : Draft) → tree.Character p b ≡ e → x ≡ pos b → Adds 1 (OpCode line (op.Push x)) old new → Adds (OPS_FOR_SIZE * expr_size e - 2) (ExprCode line old.marks (meant (context_in program old) e).expr) old new
  arm_character e p b x line old new h i k = as_code e (tree.Character p b) line old new h (adds_more (omega arith) (subst (λ (y : ℤ). Adds 1 (OpCode line (op.Push y)) old new) i k))

  pub arm_truth : (e : tree.Expr) (p : Pos) (b : Bool) (x : ℤ) (line : ℕ) (old new : Draft) → tree.Truth p b ≡ e → x ≡ truth_value b → Adds 1 (OpCode line (op.Push x)) old new → Adds (OPS_FOR_SIZE * expr_size e - 2) (ExprCode line old.marks (meant (context_in program old) e).expr) old new
  arm_truth e p b x line old new h i k = as_code e (tree.Truth p b) line old new h (adds_more (omega arith) (subst (λ (y : ℤ). Adds 1 (OpCode line (op.Push y)) old new) i k))

  pub arm_cin : (e : tree.Expr) (p : Pos) (line : ℕ) (old new : Draft) → tree.Cin p ≡ e → Adds 1 (OpCode line (op.Push (pos 0))) old new → Adds (OPS_FOR_SIZE * expr_size e - 2) (ExprCode line old.marks (meant (context_in program old) e).expr) old new
  arm_cin e p line old new h k = as_code e (tree.Cin p) line old new h (adds_more (omega arith) k)

  pub arm_link : (l : tree.Link) (p : Pos) (o : BinaryOp) (right : tree.Expr) (line a : ℕ) (left s t : ExprMeaning) (j : BinaryCode) (old mid new : Draft) → tree.Linked p o right ≡ l → j ≡ joining_of o → t ≡ record { scalar = scalar_of j; class = None; numbered = false; event = None; elements = None; standing = standing.Value } → s ≡ record left { standing = standing.Value }
      → Grows program 1 line old.marks a fetched left s old mid → Adds (OPS_FOR_SIZE * expr_size right + 4) (RightCode line mid.marks j (value_of (meant (context_in program mid) right))) mid new
      → Grows program (OPS_FOR_SIZE * link_size l) line old.marks a (link_meant (context_in program old) l) left t old new
  arm_link l p o right line a left s t j old mid new i jo e v h g =
      let g1 : Adds (OPS_FOR_SIZE * expr_size right + 4) (RightCode line mid.marks (joining_of o) (value_of (meant (context_in program mid) right))) mid new = subst (λ (x : BinaryCode). Adds (OPS_FOR_SIZE * expr_size right + 4) (RightCode line mid.marks x (value_of (meant (context_in program mid) right))) mid new) jo g in
      let g2 : Adds (OPS_FOR_SIZE * expr_size right + 4) (RightCode line old.marks (joining_of o) (value_of (meant (context_in program old) right))) mid new = subst (λ (d : Draft). Adds (OPS_FOR_SIZE * expr_size right + 4) (RightCode line d.marks (joining_of o) (value_of (meant (context_in program d) right))) mid new) h.rest g1 in
      let all : Grows program (OPS_FOR_SIZE * (1 + expr_size right)) line old.marks a (link_meant (context_in program old) (tree.Linked p o right)) left (record { scalar = scalar_of (joining_of o); class = None; numbered = false; event = None; elements = None; standing = standing.Value }) old new =
      grows_as (omega arith) (λ m. refl) (link_grows old.marks o (meant (context_in program old) right) (OPS_FOR_SIZE * expr_size right + 4) line a left s old mid new v h g2) in
      let told : record { scalar = scalar_of (joining_of o); class = None; numbered = false; event = None; elements = None; standing = standing.Value } ≡ t = ap (λ (x : BinaryCode). let m : ExprMeaning = record { scalar = scalar_of x; class = None; numbered = false; event = None; elements = None; standing = standing.Value } in m) (sym jo) ∙ sym e in
      subst (λ (x : tree.Link). Grows program (OPS_FOR_SIZE * link_size x) line old.marks a (link_meant (context_in program old) x) left t old new) i (
      subst (λ (x : ExprMeaning). Grows program (OPS_FOR_SIZE * (1 + expr_size right)) line old.marks a (link_meant (context_in program old) (tree.Linked p o right)) left x old new) told all)

  -- lists of links and of parts
  pub links_step : (xs : List tree.Link) (i : ℕ) (x : tree.Link) (line a : ℕ) (s t u : ExprMeaning) (old mid new : Draft) → i < length xs → x ≡ get_or xs i x
      → Grows program (OPS_FOR_SIZE * links_size (links_of (take i xs))) line old.marks a (chain_meant (context_in program old) (links_of (take i xs))) s t old mid
      → Grows program (OPS_FOR_SIZE * link_size x) line mid.marks a (link_meant (context_in program mid) x) t u mid new
      → Grows program (OPS_FOR_SIZE * links_size (links_of (take (i + 1) xs))) line old.marks a (chain_meant (context_in program old) (links_of (take (i + 1) xs))) s u old new
  links_step xs i x line a s t u old mid new h e f k =
      let n : Grows program (OPS_FOR_SIZE * link_size x) line old.marks a (link_meant (context_in program old) x) t u mid new = subst (λ (d : Draft). Grows program (OPS_FOR_SIZE * link_size x) line d.marks a (link_meant (context_in program d) x) t u mid new) f.rest k in
      let ys : List tree.Link = take i xs in
      let split : ys ++ x ∷ [] ≡ take (i + 1) xs = ap (λ (y : tree.Link). ys ++ y ∷ []) e ∙ sym (take_more xs i x h) in
      subst (λ (zs : List tree.Link). Grows program (OPS_FOR_SIZE * links_size (links_of zs)) line old.marks a (chain_meant (context_in program old) (links_of zs)) s u old new) split (
      grows_as (omega (arith, links_push ys x)) (λ m. sym (chain_push (context_in program old) ys x m)) (grows_then f n))

  pub args_begin : (params : List Param) (line : ℕ) (old : Draft) → Adds 0 (ArgumentsCode line old.marks (args_by params [])) old old
  args_begin [] line old = adds_nothing old
  args_begin (x ∷ xs) line old = adds_nothing old

  pub args_step : (params : List Param) (xs : List tree.Expr) (i : ℕ) (x : tree.Expr) (y : Param) (line : ℕ) (old mid new : Draft) → i < length xs → x ≡ get_or xs i x → slice_get params i ≡ Some y
      → Adds (OPS_FOR_SIZE * exprs_size (exprs_of (take i xs))) (ArgumentsCode line old.marks (args_by params (args_meant (context_in program old) (exprs_of (take i xs))))) old mid
      → Adds (OPS_FOR_SIZE * expr_size x) (ArgumentCode line mid.marks y (meant (context_in program mid) x)) mid new
      → Adds (OPS_FOR_SIZE * exprs_size (exprs_of (take (i + 1) xs))) (ArgumentsCode line old.marks (args_by params (args_meant (context_in program old) (exprs_of (take (i + 1) xs))))) old new
  args_step params xs i x y line old mid new h e at f k =
      let ys : List tree.Expr = take i xs in
      let c : Context = context_in program old in
      let n : Adds (OPS_FOR_SIZE * expr_size x) (ExprCode line old.marks (arg_meant y (meant c x))) mid new = subst (λ (d : Draft). Adds (OPS_FOR_SIZE * expr_size x) (ExprCode line d.marks (arg_meant y (meant (context_in program d) x))) mid new) f.rest k in
      let split : ys ++ x ∷ [] ≡ take (i + 1) xs = ap (λ (z : tree.Expr). ys ++ z ∷ []) e ∙ sym (take_more xs i x h) in
      let count : length (args_meant c (exprs_of ys)) ≡ i = length-args c ys ∙ omega (arith, length-take i xs, h) in
      let pushed : args_by params (args_meant c (exprs_of (ys ++ x ∷ []))) ≡ exprs_push (args_by params (args_meant c (exprs_of ys))) (arg_meant y (meant c x)) =
      ap (args_by params) (args_meant_push c ys x) ∙ args_by_push params (args_meant c (exprs_of ys)) (meant c x) y (ap (slice_get params) count ∙ at) in
      subst (λ (zs : List tree.Expr). Adds (OPS_FOR_SIZE * exprs_size (exprs_of zs)) (ArgumentsCode line old.marks (args_by params (args_meant c (exprs_of zs)))) old new) split (
      adds_more (omega (arith, exprs_size_push ys x)) (subst (λ (es : Exprs). Adds (OPS_FOR_SIZE * exprs_size (exprs_of ys) + OPS_FOR_SIZE * expr_size x) (ArgumentsCode line old.marks es) old new) (sym pushed) (
      arguments_more old.marks (OPS_FOR_SIZE * exprs_size (exprs_of ys)) (OPS_FOR_SIZE * expr_size x) line (args_by params (args_meant c (exprs_of ys))) (arg_meant y (meant c x)) old mid new f n)))

  pub args_skip : (params : List Param) (xs : List tree.Expr) (i : ℕ) (x : tree.Expr) (line : ℕ) (old new : Draft) → i < length xs → x ≡ get_or xs i x → length params ≤ i
      → Adds (OPS_FOR_SIZE * exprs_size (exprs_of (take i xs))) (ArgumentsCode line old.marks (args_by params (args_meant (context_in program old) (exprs_of (take i xs))))) old new
      → Adds (OPS_FOR_SIZE * exprs_size (exprs_of (take (i + 1) xs))) (ArgumentsCode line old.marks (args_by params (args_meant (context_in program old) (exprs_of (take (i + 1) xs))))) old new
  args_skip params xs i x line old new h e past f =
      let ys : List tree.Expr = take i xs in
      let c : Context = context_in program old in
      let split : ys ++ x ∷ [] ≡ take (i + 1) xs = ap (λ (z : tree.Expr). ys ++ z ∷ []) e ∙ sym (take_more xs i x h) in
      let count : length (args_meant c (exprs_of ys)) ≡ i = length-args c ys ∙ omega (arith, length-take i xs, h) in
      let same : args_by params (args_meant c (exprs_of (ys ++ x ∷ []))) ≡ args_by params (args_meant c (exprs_of ys)) =
      ap (args_by params) (args_meant_push c ys x) ∙ args_by_past params (args_meant c (exprs_of ys)) (meant c x) (omega (arith, count, past)) in
      subst (λ (zs : List tree.Expr). Adds (OPS_FOR_SIZE * exprs_size (exprs_of zs)) (ArgumentsCode line old.marks (args_by params (args_meant c (exprs_of zs)))) old new) split (
      adds_more (omega (arith, exprs_size_push ys x)) (subst (λ (es : Exprs). Adds (OPS_FOR_SIZE * exprs_size (exprs_of ys)) (ArgumentsCode line old.marks es) old new) (sym same) f))

  -- what a wait stores
  pub stored_first : (v : tree.Expr) (xs : List tree.Expr) (line : ℕ) (old new : Draft) → Some v ≡ slice_get xs 0 → Adds (OPS_FOR_SIZE * expr_size v) (ExprCode line old.marks (value_of (meant (context_in program old) v))) old new → Adds (OPS_FOR_SIZE * exprs_size (exprs_of xs) + 1) (ExprCode line old.marks (stored_by (args_meant (context_in program old) (exprs_of xs)))) old new
  stored_first v [] line old new e h = cc
  stored_first v (x ∷ xs) line old new e h =
      let is : v ≡ x = cc in
      let s = ap expr_size is in
      adds_more (omega (arith, s)) (subst (λ (y : tree.Expr). Adds (OPS_FOR_SIZE * expr_size v) (ExprCode line old.marks (value_of (meant (context_in program old) y))) old new) is h)

  pub stored_none : (xs : List tree.Expr) (line : ℕ) (old new : Draft) → None ≡ slice_get xs 0 → Adds 1 (OpCode line (op.Push (pos 0))) old new → Adds (OPS_FOR_SIZE * exprs_size (exprs_of xs) + 1) (ExprCode line old.marks (stored_by (args_meant (context_in program old) (exprs_of xs)))) old new
  stored_none [] line old new e h = adds_more (omega arith) h
  stored_none (x ∷ xs) line old new e h = cc

  pub args_end : (params : List Param) (xs : List tree.Expr) (i line : ℕ) (old new : Draft) → length xs ≤ i
      → Adds (OPS_FOR_SIZE * exprs_size (exprs_of (take i xs))) (ArgumentsCode line old.marks (args_by params (args_meant (context_in program old) (exprs_of (take i xs))))) old new
      → Adds (OPS_FOR_SIZE * exprs_size (exprs_of xs)) (ArgumentsCode line old.marks (args_by params (args_meant (context_in program old) (exprs_of xs)))) old new
  args_end params xs i line old new h f = subst (λ (zs : List tree.Expr). Adds (OPS_FOR_SIZE * exprs_size (exprs_of zs)) (ArgumentsCode line old.marks (args_by params (args_meant (context_in program old) (exprs_of zs)))) old new) (take_all i xs h) f

  -- a value, and the value of an argument
  pub arm_value : (n line a : ℕ) (e : tree.Expr) (s t : ExprMeaning) (old mid new : Draft) → a ≡ length old.ops → Adds n (ExprCode line old.marks (meant (context_in program old) e).expr) old mid → Tells program s (meant (context_in program old) e) → Grows program 1 line mid.marks a fetched s t mid new → Adds (n + 1) (ExprCode line old.marks (value_of (meant (context_in program old) e))) old new
  arm_value n line a e s t old mid new al k u g =
      let g1 : Grows program 1 line old.marks a fetched s t mid new = subst (λ (d : Draft). Grows program 1 line d.marks a fetched s t mid new) k.rest g in
      let g2 : Grows program 1 line old.marks (length old.ops) fetched s t mid new = subst (λ (b : ℕ). Grows program 1 line old.marks b fetched s t mid new) al g1 in
      adds_grows {f = fetched} (omega arith) k u g2

  pub arm_argument : (n line a : ℕ) (x : Param) (e : tree.Expr) (v : Scalar) (s t : ExprMeaning) (old mid next new : Draft) → x.by_ref ≡ false → shape_of x.base ≡ shape_as v → a ≡ length old.ops → Adds n (ExprCode line old.marks (meant (context_in program old) e).expr) old mid → Tells program s (meant (context_in program old) e) → Grows program 1 line mid.marks a fetched s t mid next → Adds 1 (ConvertCode line (shape_as v)) next new → Adds (n + 2) (ArgumentCode line old.marks x (meant (context_in program old) e)) old new
  arm_argument n line a x e v s t old mid next new none shape al k u g h =
      let m : Meant = meant (context_in program old) e in
      let value = arm_value n line a e s t old mid next al k u g in
      let h2 : Adds 1 (ConvertCode line (shape_of x.base)) next new = subst (λ (y : Shape). Adds 1 (ConvertCode line y) next new) (sym shape) h in
      adds_more (omega arith) (adds_as (adds_both (expr_stable line old.marks (value_of m)) value h2) (λ code b z w.
      subst (λ (r : Bool). ExprAt code line old.marks (if r then m.expr else converted (shape_of x.base) (value_of m)) b z) (sym none) (converted_at old.marks line (shape_of x.base) (value_of m) code b z w)))

  pub arm_reference : (n line : ℕ) (x : Param) (e : tree.Expr) (old new : Draft) → x.by_ref ≡ true → Adds n (ExprCode line old.marks (meant (context_in program old) e).expr) old new → Adds (n + 2) (ArgumentCode line old.marks x (meant (context_in program old) e)) old new
  arm_reference n line x e old new by k =
      let m : Meant = meant (context_in program old) e in
      adds_more (omega arith) (adds_as k (λ code b z w. subst (λ (r : Bool). ExprAt code line old.marks (if r then m.expr else converted (shape_of x.base) (value_of m)) b z) (sym by) w))

  -- an operator before its operand that writes to it, and an assignment
  pub arm_bumped : {E : Type 0} (r : Result ExprMeaning E) (o : UnaryOp) (step : StepOp) (n k line a : ℕ) (e : tree.Expr) (s : ExprMeaning) (old mid new : Draft) → ((m : Meant) → bumped step m ≡ unary_meant o m) → n + 6 ≤ k → a ≡ length old.ops → Adds n (ExprCode line old.marks (meant (context_in program old) e).expr) old mid → Tells program s (meant (context_in program old) e) → IfOk r (λ t. Grows program 6 line mid.marks a (bumped step) s t mid new) → OnOk r (Adds k (ExprCode line old.marks (unary_meant o (meant (context_in program old) e)).expr) old new)
  arm_bumped r o step n k line a e s old mid new same l al h u w =
      let m : Meant = meant (context_in program old) e in
      let w1 : IfOk r (λ t. Grows program 6 line mid.marks (length old.ops) (bumped step) s t mid new) = subst (λ (b : ℕ). IfOk r (λ t. Grows program 6 line mid.marks b (bumped step) s t mid new)) al w in
      let w2 : IfOk r (λ t. Grows program 6 line old.marks (length old.ops) (bumped step) s t mid new) = subst (λ (d : Draft). IfOk r (λ t. Grows program 6 line d.marks (length old.ops) (bumped step) s t mid new)) h.rest w1 in
      subst (λ (x : Meant). OnOk r (Adds k (ExprCode line old.marks x.expr) old new)) (same m) (grown_code old.marks r n 6 k line m (bumped step) s old mid new l h u w2)

  pub told_bumped : {E : Type 0} (r : Result ExprMeaning E) (o : UnaryOp) (step : StepOp) (n line a : ℕ) (e : tree.Expr) (s : ExprMeaning) (old mid new : Draft) → ((m : Meant) → bumped step m ≡ unary_meant o m) → a ≡ length old.ops → Adds n (ExprCode line old.marks (meant (context_in program old) e).expr) old mid → Tells program s (meant (context_in program old) e) → IfOk r (λ t. Grows program 6 line mid.marks a (bumped step) s t mid new) → IfOk r (λ t. Tells program t (unary_meant o (meant (context_in program old) e)))
  told_bumped r o step n line a e s old mid new same al h u w =
      let m : Meant = meant (context_in program old) e in
      let w1 : IfOk r (λ t. Grows program 6 line mid.marks (length old.ops) (bumped step) s t mid new) = subst (λ (b : ℕ). IfOk r (λ t. Grows program 6 line mid.marks b (bumped step) s t mid new)) al w in
      let w2 : IfOk r (λ t. Grows program 6 line old.marks (length old.ops) (bumped step) s t mid new) = subst (λ (d : Draft). IfOk r (λ t. Grows program 6 line d.marks (length old.ops) (bumped step) s t mid new)) h.rest w1 in
      subst (λ (x : Meant). IfOk r (λ t. Tells program t x)) (same m) (grown_tells old.marks r n 6 line m (bumped step) s old mid new h u w2)

  pub arm_assigned : {E : Type 0} (r : Result ExprMeaning E) (o : AssignOp) (n j k line a : ℕ) (e v : tree.Expr) (s : ExprMeaning) (old mid new : Draft) → n + j ≤ k → a ≡ length old.ops → Adds n (ExprCode line old.marks (meant (context_in program old) e).expr) old mid → Tells program s (meant (context_in program old) e) → IfOk r (λ t. Grows program j line mid.marks a (λ m. assign_meant o m (meant (context_in program mid) v)) s t mid new) → OnOk r (Adds k (ExprCode line old.marks (assign_meant o (meant (context_in program old) e) (meant (context_in program old) v)).expr) old new)
  arm_assigned r o n j k line a e v s old mid new l al h u w =
      let w1 : IfOk r (λ t. Grows program j line mid.marks (length old.ops) (λ m. assign_meant o m (meant (context_in program mid) v)) s t mid new) = subst (λ (b : ℕ). IfOk r (λ t. Grows program j line mid.marks b (λ m. assign_meant o m (meant (context_in program mid) v)) s t mid new)) al w in
      let w2 : IfOk r (λ t. Grows program j line old.marks (length old.ops) (λ m. assign_meant o m (meant (context_in program old) v)) s t mid new) = subst (λ (d : Draft). IfOk r (λ t. Grows program j line d.marks (length old.ops) (λ m. assign_meant o m (meant (context_in program d) v)) s t mid new)) h.rest w1 in
      grown_code old.marks r n j k line (meant (context_in program old) e) (λ m. assign_meant o m (meant (context_in program old) v)) s old mid new l h u w2

  pub told_assigned : {E : Type 0} (r : Result ExprMeaning E) (o : AssignOp) (n j line a : ℕ) (e v : tree.Expr) (s : ExprMeaning) (old mid new : Draft) → a ≡ length old.ops → Adds n (ExprCode line old.marks (meant (context_in program old) e).expr) old mid → Tells program s (meant (context_in program old) e) → IfOk r (λ t. Grows program j line mid.marks a (λ m. assign_meant o m (meant (context_in program mid) v)) s t mid new) → IfOk r (λ t. Tells program t (assign_meant o (meant (context_in program old) e) (meant (context_in program old) v)))
  told_assigned r o n j line a e v s old mid new al h u w =
      let w1 : IfOk r (λ t. Grows program j line mid.marks (length old.ops) (λ m. assign_meant o m (meant (context_in program mid) v)) s t mid new) = subst (λ (b : ℕ). IfOk r (λ t. Grows program j line mid.marks b (λ m. assign_meant o m (meant (context_in program mid) v)) s t mid new)) al w in
      let w2 : IfOk r (λ t. Grows program j line old.marks (length old.ops) (λ m. assign_meant o m (meant (context_in program old) v)) s t mid new) = subst (λ (d : Draft). IfOk r (λ t. Grows program j line d.marks (length old.ops) (λ m. assign_meant o m (meant (context_in program d) v)) s t mid new)) h.rest w1 in
      grown_tells old.marks r n j line (meant (context_in program old) e) (λ m. assign_meant o m (meant (context_in program old) v)) s old mid new h u w2

  -- a value that is written where ops were dropped
  pub variable_in_cut : (n line k a : ℕ) (x : Option Op) (v : tree.Expr) (s : Shape) (old mid new : Draft) → Cuts a old mid → Adds n (VariableCode line mid.marks x k s (value_of (meant (context_in program mid) v))) mid new → Adds n (VariableCode line old.marks x k s (value_of (meant (context_in program old) v))) mid new
  variable_in_cut n line k a x v s old mid new c h = subst (λ (d : Draft). Adds n (VariableCode line d.marks x k s (value_of (meant (context_in program d) v))) mid new) c.rest h

  pub args_in_cut : (n line a : ℕ) (xs : List Param) (es : tree.Exprs) (old mid new : Draft) → Cuts a old mid → Adds n (ArgumentsCode line mid.marks (args_by xs (args_meant (context_in program mid) es))) mid new → Adds n (ArgumentsCode line old.marks (args_by xs (args_meant (context_in program old) es))) mid new
  args_in_cut n line a xs es old mid new c h = subst (λ (d : Draft). Adds n (ArgumentsCode line d.marks (args_by xs (args_meant (context_in program d) es))) mid new) c.rest h

  pub parts_step : (xs : List tree.Part) (i : ℕ) (x : tree.Part) (line a : ℕ) (s t u : ExprMeaning) (old mid new : Draft) → i < length xs → x ≡ get_or xs i x
      → Grows program (OPS_FOR_SIZE * parts_size (parts_of (take i xs))) line old.marks a (parts_meant (context_in program old) (parts_of (take i xs))) s t old mid
      → Grows program (OPS_FOR_SIZE * part_size x) line mid.marks a (part_meant (context_in program mid) x) t u mid new
      → Grows program (OPS_FOR_SIZE * parts_size (parts_of (take (i + 1) xs))) line old.marks a (parts_meant (context_in program old) (parts_of (take (i + 1) xs))) s u old new
  parts_step xs i x line a s t u old mid new h e f k =
      let n : Grows program (OPS_FOR_SIZE * part_size x) line old.marks a (part_meant (context_in program old) x) t u mid new = subst (λ (d : Draft). Grows program (OPS_FOR_SIZE * part_size x) line d.marks a (part_meant (context_in program d) x) t u mid new) f.rest k in
      let ys : List tree.Part = take i xs in
      let split : ys ++ x ∷ [] ≡ take (i + 1) xs = ap (λ (y : tree.Part). ys ++ y ∷ []) e ∙ sym (take_more xs i x h) in
      subst (λ (zs : List tree.Part). Grows program (OPS_FOR_SIZE * parts_size (parts_of zs)) line old.marks a (parts_meant (context_in program old) (parts_of zs)) s u old new) split (
      grows_as (omega (arith, parts_push ys x)) (λ m. sym (parts_push_meant (context_in program old) ys x m)) (grows_then f n))

  -- a root and its parts, a first operand and its links
  pub arm_postfix : {E : Type 0} (r : Result ExprMeaning E) (e root0 root : tree.Expr) (p : Pos) (ys xs : List tree.Part) (line a : ℕ) (s : ExprMeaning) (old mid new : Draft) → tree.Postfix p root0 (parts_of ys) ≡ e → root ≡ root0 → xs ≡ ys → a ≡ length old.ops
      → Adds (OPS_FOR_SIZE * expr_size root - 2) (ExprCode line old.marks (meant (context_in program old) root).expr) old mid → Tells program s (meant (context_in program old) root)
      → IfOk r (λ t. Grows program (OPS_FOR_SIZE * parts_size (parts_of xs)) line mid.marks a (parts_meant (context_in program mid) (parts_of xs)) s t mid new)
      → OnOk r (Adds (OPS_FOR_SIZE * expr_size e - 2) (ExprCode line old.marks (meant (context_in program old) e).expr) old new)
  arm_postfix r e root0 root p ys xs line a s old mid new h i j al k u w =
      let is : tree.Postfix p root (parts_of xs) ≡ e = ap (λ (x : tree.Expr). tree.Postfix p x (parts_of xs)) i ∙ ap (λ (zs : List tree.Part). tree.Postfix p root0 (parts_of zs)) j ∙ h in
      let w1 : IfOk r (λ t. Grows program (OPS_FOR_SIZE * parts_size (parts_of xs)) line mid.marks (length old.ops) (parts_meant (context_in program mid) (parts_of xs)) s t mid new) = subst (λ (b : ℕ). IfOk r (λ t. Grows program (OPS_FOR_SIZE * parts_size (parts_of xs)) line mid.marks b (parts_meant (context_in program mid) (parts_of xs)) s t mid new)) al w in
      let w2 : IfOk r (λ t. Grows program (OPS_FOR_SIZE * parts_size (parts_of xs)) line old.marks (length old.ops) (parts_meant (context_in program old) (parts_of xs)) s t mid new) = subst (λ (d : Draft). IfOk r (λ t. Grows program (OPS_FOR_SIZE * parts_size (parts_of xs)) line d.marks (length old.ops) (parts_meant (context_in program d) (parts_of xs)) s t mid new)) k.rest w1 in
      subst (λ (x : tree.Expr). OnOk r (Adds (OPS_FOR_SIZE * expr_size x - 2) (ExprCode line old.marks (meant (context_in program old) x).expr) old new)) is (
      grown_code old.marks r (OPS_FOR_SIZE * expr_size root - 2) (OPS_FOR_SIZE * parts_size (parts_of xs)) (OPS_FOR_SIZE * expr_size (tree.Postfix p root (parts_of xs)) - 2) line (meant (context_in program old) root) (parts_meant (context_in program old) (parts_of xs)) s old mid new (let q = some_size root in omega arith) k u w2)

  pub told_postfix : {E : Type 0} (r : Result ExprMeaning E) (e root0 root : tree.Expr) (p : Pos) (ys xs : List tree.Part) (line a : ℕ) (s : ExprMeaning) (old mid new : Draft) → tree.Postfix p root0 (parts_of ys) ≡ e → root ≡ root0 → xs ≡ ys → a ≡ length old.ops
      → Adds (OPS_FOR_SIZE * expr_size root - 2) (ExprCode line old.marks (meant (context_in program old) root).expr) old mid → Tells program s (meant (context_in program old) root)
      → IfOk r (λ t. Grows program (OPS_FOR_SIZE * parts_size (parts_of xs)) line mid.marks a (parts_meant (context_in program mid) (parts_of xs)) s t mid new)
      → IfOk r (λ t. Tells program t (meant (context_in program old) e))
  told_postfix r e root0 root p ys xs line a s old mid new h i j al k u w =
      let is : tree.Postfix p root (parts_of xs) ≡ e = ap (λ (x : tree.Expr). tree.Postfix p x (parts_of xs)) i ∙ ap (λ (zs : List tree.Part). tree.Postfix p root0 (parts_of zs)) j ∙ h in
      let w1 : IfOk r (λ t. Grows program (OPS_FOR_SIZE * parts_size (parts_of xs)) line mid.marks (length old.ops) (parts_meant (context_in program mid) (parts_of xs)) s t mid new) = subst (λ (b : ℕ). IfOk r (λ t. Grows program (OPS_FOR_SIZE * parts_size (parts_of xs)) line mid.marks b (parts_meant (context_in program mid) (parts_of xs)) s t mid new)) al w in
      let w2 : IfOk r (λ t. Grows program (OPS_FOR_SIZE * parts_size (parts_of xs)) line old.marks (length old.ops) (parts_meant (context_in program old) (parts_of xs)) s t mid new) = subst (λ (d : Draft). IfOk r (λ t. Grows program (OPS_FOR_SIZE * parts_size (parts_of xs)) line d.marks (length old.ops) (parts_meant (context_in program d) (parts_of xs)) s t mid new)) k.rest w1 in
      subst (λ (x : tree.Expr). IfOk r (λ t. Tells program t (meant (context_in program old) x))) is (
      grown_tells old.marks r (OPS_FOR_SIZE * expr_size root - 2) (OPS_FOR_SIZE * parts_size (parts_of xs)) line (meant (context_in program old) root) (parts_meant (context_in program old) (parts_of xs)) s old mid new k u w2)

  pub arm_chain : {E : Type 0} (r : Result ExprMeaning E) (e first0 first : tree.Expr) (p : Pos) (ys xs : List tree.Link) (line a : ℕ) (s : ExprMeaning) (old mid new : Draft) → tree.Chain p first0 (links_of ys) ≡ e → first ≡ first0 → xs ≡ ys → a ≡ length old.ops
      → Adds (OPS_FOR_SIZE * expr_size first - 2) (ExprCode line old.marks (meant (context_in program old) first).expr) old mid → Tells program s (meant (context_in program old) first)
      → IfOk r (λ t. Grows program (OPS_FOR_SIZE * links_size (links_of xs)) line mid.marks a (chain_meant (context_in program mid) (links_of xs)) s t mid new)
      → OnOk r (Adds (OPS_FOR_SIZE * expr_size e - 2) (ExprCode line old.marks (meant (context_in program old) e).expr) old new)
  arm_chain r e first0 first p ys xs line a s old mid new h i j al k u w =
      let is : tree.Chain p first (links_of xs) ≡ e = ap (λ (x : tree.Expr). tree.Chain p x (links_of xs)) i ∙ ap (λ (zs : List tree.Link). tree.Chain p first0 (links_of zs)) j ∙ h in
      let w1 : IfOk r (λ t. Grows program (OPS_FOR_SIZE * links_size (links_of xs)) line mid.marks (length old.ops) (chain_meant (context_in program mid) (links_of xs)) s t mid new) = subst (λ (b : ℕ). IfOk r (λ t. Grows program (OPS_FOR_SIZE * links_size (links_of xs)) line mid.marks b (chain_meant (context_in program mid) (links_of xs)) s t mid new)) al w in
      let w2 : IfOk r (λ t. Grows program (OPS_FOR_SIZE * links_size (links_of xs)) line old.marks (length old.ops) (chain_meant (context_in program old) (links_of xs)) s t mid new) = subst (λ (d : Draft). IfOk r (λ t. Grows program (OPS_FOR_SIZE * links_size (links_of xs)) line d.marks (length old.ops) (chain_meant (context_in program d) (links_of xs)) s t mid new)) k.rest w1 in
      subst (λ (x : tree.Expr). OnOk r (Adds (OPS_FOR_SIZE * expr_size x - 2) (ExprCode line old.marks (meant (context_in program old) x).expr) old new)) is (
      grown_code old.marks r (OPS_FOR_SIZE * expr_size first - 2) (OPS_FOR_SIZE * links_size (links_of xs)) (OPS_FOR_SIZE * expr_size (tree.Chain p first (links_of xs)) - 2) line (meant (context_in program old) first) (chain_meant (context_in program old) (links_of xs)) s old mid new (let q = some_size first in omega arith) k u w2)

  pub told_chain : {E : Type 0} (r : Result ExprMeaning E) (e first0 first : tree.Expr) (p : Pos) (ys xs : List tree.Link) (line a : ℕ) (s : ExprMeaning) (old mid new : Draft) → tree.Chain p first0 (links_of ys) ≡ e → first ≡ first0 → xs ≡ ys → a ≡ length old.ops
      → Adds (OPS_FOR_SIZE * expr_size first - 2) (ExprCode line old.marks (meant (context_in program old) first).expr) old mid → Tells program s (meant (context_in program old) first)
      → IfOk r (λ t. Grows program (OPS_FOR_SIZE * links_size (links_of xs)) line mid.marks a (chain_meant (context_in program mid) (links_of xs)) s t mid new)
      → IfOk r (λ t. Tells program t (meant (context_in program old) e))
  told_chain r e first0 first p ys xs line a s old mid new h i j al k u w =
      let is : tree.Chain p first (links_of xs) ≡ e = ap (λ (x : tree.Expr). tree.Chain p x (links_of xs)) i ∙ ap (λ (zs : List tree.Link). tree.Chain p first0 (links_of zs)) j ∙ h in
      let w1 : IfOk r (λ t. Grows program (OPS_FOR_SIZE * links_size (links_of xs)) line mid.marks (length old.ops) (chain_meant (context_in program mid) (links_of xs)) s t mid new) = subst (λ (b : ℕ). IfOk r (λ t. Grows program (OPS_FOR_SIZE * links_size (links_of xs)) line mid.marks b (chain_meant (context_in program mid) (links_of xs)) s t mid new)) al w in
      let w2 : IfOk r (λ t. Grows program (OPS_FOR_SIZE * links_size (links_of xs)) line old.marks (length old.ops) (chain_meant (context_in program old) (links_of xs)) s t mid new) = subst (λ (d : Draft). IfOk r (λ t. Grows program (OPS_FOR_SIZE * links_size (links_of xs)) line d.marks (length old.ops) (chain_meant (context_in program d) (links_of xs)) s t mid new)) k.rest w1 in
      subst (λ (x : tree.Expr). IfOk r (λ t. Tells program t (meant (context_in program old) x))) is (
      grown_tells old.marks r (OPS_FOR_SIZE * expr_size first - 2) (OPS_FOR_SIZE * links_size (links_of xs)) line (meant (context_in program old) first) (chain_meant (context_in program old) (links_of xs)) s old mid new k u w2)

  pub links_end : (xs : List tree.Link) (i line a : ℕ) (s t : ExprMeaning) (old new : Draft) → length xs ≤ i → Grows program (OPS_FOR_SIZE * links_size (links_of (take i xs))) line old.marks a (chain_meant (context_in program old) (links_of (take i xs))) s t old new → Grows program (OPS_FOR_SIZE * links_size (links_of xs)) line old.marks a (chain_meant (context_in program old) (links_of xs)) s t old new
  links_end xs i line a s t old new h g = subst (λ (ys : List tree.Link). Grows program (OPS_FOR_SIZE * links_size (links_of ys)) line old.marks a (chain_meant (context_in program old) (links_of ys)) s t old new) (take_all i xs h) g
