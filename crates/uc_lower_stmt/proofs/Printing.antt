-- The code of printing and reading.
use Rattle.std.proofs.Common.{◌≡◌, ℕ, zero, suc, ◌+◌, ◌*◌, ◌-◌, ◌≤◌, ◌<◌, pos, map, List, [], ◌∷◌, ◌++◌, length, take, drop, get_or, refl, ap, sym, subst, ◌∙◌, arith}
use Rattle.std.proofs.lemmas.List.{take_more}
use Rattle.std.proofs.Math.Seq.{drop-cons}
use Rattle.uc_tree.specs.declared.limits.TheConstants.{OPS_FOR_SIZE}
use Rattle.uc_tree.specs.declared.pos.Pos.{Pos}
use Rattle.uc_tree.specs.declared.kinds.Base.{Base}
use Rattle.uc_tree.specs.declared.kinds.Base.TheVariants as base
use Rattle.uc_tree.specs.declared.kinds.ValueForm.{ValueForm}
use Rattle.uc_tree.specs.declared.kinds.ValueForm.TheVariants as value_form
use Rattle.uc_tree.specs.declared.declare.OutForm.{OutForm}
use Rattle.uc_tree.specs.Expressions as tree
use Rattle.uc_tree.specs.Expressions.{exprs_of}
use Rattle.uc_tree.specs.ExpressionSizes.{expr_size, exprs_size}
use Rattle.uc_tree.specs.Statements.{OutItem, Endl, Literal, Printed}
use Rattle.uc_tree.specs.StatementViews.{out_at}
use Rattle.uc_tree.specs.StatementSizes.{out_item_size, out_items_size}
use Rattle.uc_tree.specs.Source.{Shape, Integer, Character, Truth, Binding, Last, Field, Array, Item, Show, ShowText, Target}
use Rattle.uc_tree.specs.Numbering.{item_texts}
use Rattle.uc_tree.specs.Programs.{Program}
use Rattle.uc_tree.specs.Objects.{shape_of}
use Rattle.uc_resolve.specs.Resolve.{Scope, Context, Meant, meant, value_of, form_of, newline, context_at, items_meant, target_meant, targets_meant}
use Rattle.uc_code.specs.declared.op.Op.{Op}
use Rattle.uc_code.specs.declared.op.Op.TheVariants as op
use Rattle.uc_code.specs.declared.rows.CodeMark.{CodeMark}
use Rattle.uc_code.specs.Drafts.{Draft}
use Rattle.uc_code.specs.Layout.{Laid, laid_in}
use Rattle.uc_code.specs.CodeShapes.{Nothing, One, Both}
use Rattle.uc_code.specs.Lowered.{item_op, ExprAt, ItemsAt, ValuesAt, PiecesAt, TargetsAt}
use Rattle.uc_code.proofs.Stable.{one_stable, kept_refl}
use Rattle.uc_lower_expr.specs.declared.meaning.Scalar.{Scalar}
use Rattle.uc_lower_expr.specs.declared.meaning.Scalar.TheVariants as scalar
use Rattle.uc_lower_expr.specs.declared.meaning.ExprMeaning.{ExprMeaning}
use Rattle.uc_lower_expr.specs.Meanings.{shape_as, Tells}
use Rattle.uc_lower_expr.specs.Contexts.{context_in}
use Rattle.uc_lower_expr.specs.DraftGrowth.{Adds, ExprCode, OpCode}
use Rattle.uc_lower_expr.proofs.Adding.{adds_more, adds_as, adds_both, adds_nothing}
use Rattle.uc_lower_expr.proofs.Settled.{expr_stable}
use Rattle.uc_lower_stmt.specs.LowersStatement.{Lowers, scope_of}
use Rattle.uc_lower_stmt.specs.Pieces.{ItemsCode, ValuesCode, PiecesCode, TogetherCode, TargetsCode, form_as}
use Rattle.uc_lower_stmt.proofs.Kept.{items_stable, values_stable, pieces_stable, ops_stable, targets_stable}
use Rattle.uc_lower_stmt.proofs.Joined.{lowers_adds, lowers_as, lowers_join, lowers_put}
use Rattle.uc_lower_stmt.proofs.RowFitting.{fit_ops}

-- forms

form_in : Shape → ValueForm
form_in Integer = value_form.Number
form_in Character = value_form.Character
form_in Truth = value_form.Number
form_in Binding = value_form.Number
form_in Last = value_form.Number
form_in (Field s t) = value_form.Number
form_in (Array n s) = value_form.Number

form_of_shape : (b : Base) → form_of b ≡ form_in (shape_of b)
unfolding form_in
form_of_shape base.Void = refl
form_of_shape base.Int = refl
form_of_shape base.Char = refl
form_of_shape base.Bool = refl
form_of_shape base.Condition = refl
form_of_shape base.Cluster = refl
form_of_shape base.Processor = refl
form_of_shape (base.Named name) = refl

form_as_shape : (s : Scalar) → form_as s ≡ form_in (shape_as s)
unfolding form_in
form_as_shape scalar.Number = refl
form_as_shape scalar.Character = refl
form_as_shape scalar.Truth = refl
form_as_shape scalar.Binding = refl

pub form_told : (p : Program) (m : Meant) (t : ExprMeaning) → Tells p t m → form_as t.scalar ≡ form_of m.ty.base
form_told p m t u = form_as_shape t.scalar ∙ sym (ap form_in u.shape) ∙ sym (form_of_shape m.ty.base)

-- single items

pub out_is : (p : Pos) (f g : OutForm) (i : OutItem) → f ≡ g → out_at p f ≡ i → out_at p g ≡ i
out_is p f g i h k = ap (λ x. out_at p x) (sym h) ∙ k

-- behind an item
abbrev pub with_texts : Scope → ℕ → Scope
with_texts s k = record s { texts = s.texts + k }

-- how many text literals are among items
abbrev pub texts_among : List OutItem → ℕ
texts_among items = length (item_texts items)

no_text : (s : Scope) → s ≡ with_texts s 0
no_text s = let e : s.texts ≡ s.texts + 0 = omega arith in ap (λ (n : ℕ). let t : Scope = record s { texts = n } in t) e

and_none : (B : ℕ → ℕ → Type 0) (a z : ℕ) → B a z → Both B Nothing a z
and_none B a z h = record { middle = z; first = h; second = record { end = refl } }

pub item_counts : (x : OutItem) → 1 ≤ out_item_size x
item_counts (Endl p) = omega arith
item_counts (Literal p t) = omega arith
item_counts (Printed p v) = omega arith

texts_push : (xs : List OutItem) (x : OutItem) → texts_among (xs ++ x ∷ []) ≡ texts_among xs + texts_among (x ∷ [])
texts_push [] x = omega arith
texts_push (Endl p ∷ xs) x = texts_push xs x
texts_push (Literal p t ∷ xs) x = omega (arith, texts_push xs x)
texts_push (Printed p v ∷ xs) x = texts_push xs x

sizes_push : (xs : List OutItem) (x : OutItem) → out_items_size (xs ++ x ∷ []) ≡ out_items_size xs + out_item_size x
sizes_push [] x = omega arith
sizes_push (y ∷ ys) x = omega (arith, sizes_push ys x)

pub items_fit : (xs : List OutItem) (i : ℕ) (x : OutItem) → i < length xs → x ≡ get_or xs i x → out_items_size (take i xs) + out_item_size x ≤ out_items_size xs
items_fit [] i x h e = absurd (omega arith)
items_fit (y ∷ ys) zero x h e = let a : out_item_size x ≡ out_item_size y = ap out_item_size e in omega arith
items_fit (y ∷ ys) (suc i) x h e = let r = items_fit ys i x (omega arith) e in omega arith

pub items_count : (xs : List OutItem) (i : ℕ) → i ≤ length xs → i ≤ out_items_size (take i xs)
items_count xs zero h = omega arith
items_count [] (suc i) h = absurd (omega arith)
items_count (x ∷ xs) (suc i) h = let r = items_count xs i (omega arith) in let c = item_counts x in omega arith

scope_push : (s : Scope) (xs : List OutItem) (x : OutItem) → with_texts (with_texts s (texts_among xs)) (texts_among (x ∷ [])) ≡ with_texts s (texts_among (xs ++ x ∷ []))
scope_push s xs x =
    let e : s.texts + texts_among xs + texts_among (x ∷ []) ≡ s.texts + texts_among (xs ++ x ∷ []) = omega (arith, texts_push xs x) in
    ap (λ (n : ℕ). let t : Scope = record s { texts = n } in t) e

map_append : (xs ys : List Item) → map item_op (xs ++ ys) ≡ map item_op xs ++ map item_op ys
map_append [] ys = refl
map_append (x ∷ xs) ys = ap (λ l. item_op x ∷ l) (map_append xs ys)

-- ops, the last one first

pub reversed_step : (os : List Op) (k n line : ℕ) (d : Op) (old mid new : Draft) → k < length os → Adds n (PiecesCode line (drop (k + 1) os)) old mid → Adds 1 (OpCode line (get_or os k d)) mid new → Adds (n + 1) (PiecesCode line (drop k os)) old new
reversed_step os k n line d old mid new h g f =
    let next : suc k ≡ k + 1 = omega arith in
    let is : get_or os k d ∷ drop (k + 1) os ≡ drop k os = ap (λ (m : ℕ). get_or os k d ∷ drop m os) (sym next) ∙ sym (drop-cons os k d h) in
    subst (λ (l : List Op). Adds (n + 1) (PiecesCode line l) old new) is (adds_both (ops_stable line (drop (k + 1) os)) g f)

pub reversed_none : (os : List Op) (line : ℕ) (old : Draft) → Adds 0 (PiecesCode line (drop (length os) os)) old old
reversed_none os line old = subst (λ (l : List Op). Adds 0 (PiecesCode line l) old old) (sym (dropped os)) (adds_nothing old)
  where
    dropped : (l : List Op) → drop (length l) l ≡ []
    dropped [] = refl
    dropped (x ∷ l) = dropped l

pieces_at : (line : ℕ) (code : Laid) (is : List Item) (a z : ℕ) → PiecesCode line (map item_op is) code a z → PiecesAt code line is a z
pieces_at line code [] a z h = h
pieces_at line code (i ∷ is) a z h = record { middle = h.middle; first = pieces_at line code is a h.middle h.first; second = h.second }

pub all_count : (xs : List OutItem) → length xs ≤ out_items_size xs
all_count [] = omega arith
all_count (x ∷ xs) = let c = item_counts x in omega (arith, all_count xs)

exprs_push : (xs : List tree.Expr) (x : tree.Expr) → exprs_size (exprs_of (xs ++ x ∷ [])) ≡ exprs_size (exprs_of xs) + expr_size x
exprs_push [] x = omega arith
exprs_push (y ∷ ys) x = omega (arith, exprs_push ys x)

pub exprs_fit : (xs : List tree.Expr) (i : ℕ) (x : tree.Expr) → i < length xs → x ≡ get_or xs i x → exprs_size (exprs_of (take i xs)) + expr_size x ≤ exprs_size (exprs_of xs)
exprs_fit [] i x h e = absurd (omega arith)
exprs_fit (y ∷ ys) zero x h e = let a : expr_size x ≡ expr_size y = ap expr_size e in omega arith
exprs_fit (y ∷ ys) (suc i) x h e = let r = exprs_fit ys i x (omega arith) e in omega arith

pub reversed_start : (os : List Op) (line : ℕ) (old : Draft) → Adds (length os - length os) (PiecesCode line (drop (length os) os)) old old
reversed_start os line old = adds_more (omega arith) (reversed_none os line old)

pub reversed_more : (os : List Op) (k line : ℕ) (d : Op) (old mid new : Draft) → 0 < k → k ≤ length os → Adds (length os - k) (PiecesCode line (drop k os)) old mid → Adds 1 (OpCode line (get_or os (k - 1) d)) mid new → Adds (length os - (k - 1)) (PiecesCode line (drop (k - 1) os)) old new
reversed_more os k line d old mid new p l g f =
    let back : k ≡ k - 1 + 1 = omega arith in
    adds_more (omega arith) (reversed_step os (k - 1) (length os - k) line d old mid new (omega arith) (subst (λ (n : ℕ). Adds (length os - k) (PiecesCode line (drop n os)) old mid) back g) f)

pub reversed_end : (os : List Op) (k line : ℕ) (old new : Draft) → k ≤ 0 → Adds (length os - k) (PiecesCode line (drop k os)) old new → Adds (length os) (PiecesCode line os) old new
reversed_end os k line old new z h =
    let e : k ≡ 0 = omega arith in
    adds_more (omega arith) (subst (λ (n : ℕ). Adds (length os - k) (PiecesCode line (drop n os)) old new) e h)

-- in a program
module _ (program : Program) where
  -- the items of a program, in a scope
  abbrev pub items_at : Scope → List OutItem → List Item
  items_at s items = items_meant (context_at program s) s.texts items

  pub as_piece : (i j : OutItem) (line : ℕ) (old new : Draft) → j ≡ i → Lowers 0 (OPS_FOR_SIZE * out_item_size j - 1) (out_item_size j) 0 0 (ValuesCode line old.marks (items_at (scope_of old) (j ∷ []))) (with_texts (scope_of old) (texts_among (j ∷ []))) old new → Lowers 0 (OPS_FOR_SIZE * out_item_size i - 1) (out_item_size i) 0 0 (ValuesCode line old.marks (items_at (scope_of old) (i ∷ []))) (with_texts (scope_of old) (texts_among (i ∷ []))) old new
  as_piece i j line old new e h = subst (λ (x : OutItem). Lowers 0 (OPS_FOR_SIZE * out_item_size x - 1) (out_item_size x) 0 0 (ValuesCode line old.marks (items_at (scope_of old) (x ∷ []))) (with_texts (scope_of old) (texts_among (x ∷ []))) old new) e h

  pub piece_endl : (i : OutItem) (p : Pos) (line : ℕ) (old new : Draft) → Endl p ≡ i → Adds 1 (OpCode line (op.Push (pos 10))) old new → Lowers 0 (OPS_FOR_SIZE * out_item_size i - 1) (out_item_size i) 0 0 (ValuesCode line old.marks (items_at (scope_of old) (i ∷ []))) (with_texts (scope_of old) (texts_among (i ∷ []))) old new
  piece_endl i p line old new e h = as_piece i (Endl p) line old new e (lowers_as (lowers_adds 0 0 h) (no_text (scope_of old)) (λ code a z w. and_none (One code (op.Push (pos 10)) line) a z w) (omega arith) (omega arith) (omega arith) (omega arith))

  pub piece_value : (i : OutItem) (p : Pos) (v : tree.Expr) (line : ℕ) (old new : Draft) → Printed p v ≡ i → Adds (OPS_FOR_SIZE * expr_size v) (ExprCode line old.marks (value_of (meant (context_in program old) v))) old new → Lowers 0 (OPS_FOR_SIZE * out_item_size i - 1) (out_item_size i) 0 0 (ValuesCode line old.marks (items_at (scope_of old) (i ∷ []))) (with_texts (scope_of old) (texts_among (i ∷ []))) old new
  piece_value i p v line old new e h = as_piece i (Printed p v) line old new e (lowers_as (lowers_adds 0 0 h) (no_text (scope_of old)) (λ code a z w. and_none (ExprAt code line old.marks (value_of (meant (context_in program old) v))) a z w) (omega arith) (omega arith) (omega arith) (omega arith))

  pub piece_text : (i : OutItem) (p : Pos) (t : List ℕ) (line : ℕ) (old new : Draft) → Literal p t ≡ i → new ≡ record old { texts = old.texts + 1 } → Lowers 0 (OPS_FOR_SIZE * out_item_size i - 1) (out_item_size i) 0 0 (ValuesCode line old.marks (items_at (scope_of old) (i ∷ []))) (with_texts (scope_of old) (texts_among (i ∷ []))) old new
  piece_text i p t line old new e h = as_piece i (Literal p t) line old new e (
      subst (λ (d : Draft). Lowers 0 (OPS_FOR_SIZE * 1 - 1) 1 0 0 (ValuesCode line old.marks (ShowText old.texts ∷ [])) (with_texts (scope_of old) 1) old d) (sym h) (record {
        rest = refl;
        scope = refl;
        opened = omega arith;
        kept = kept_refl (laid_in old);
        rows = fit_ops refl refl (omega arith);
        room = omega arith;
        texts = omega arith;
        cells = omega arith;
        code = record { middle = length old.ops; first = record { end = refl }; second = record { end = refl } };
      }))

  pub op_endl : (i : OutItem) (p : Pos) (s : Scope) → Endl p ≡ i → op.Print value_form.Character ∷ [] ≡ map item_op (items_at s (i ∷ []))
  op_endl i p s e = subst (λ (x : OutItem). op.Print value_form.Character ∷ [] ≡ map item_op (items_at s (x ∷ []))) e refl

  pub op_text : (i : OutItem) (p : Pos) (t : List ℕ) (s : Scope) (n : ℕ) → Literal p t ≡ i → n ≡ s.texts → op.Text n ∷ [] ≡ map item_op (items_at s (i ∷ []))
  op_text i p t s n e h = subst (λ (x : OutItem). op.Text n ∷ [] ≡ map item_op (items_at s (x ∷ []))) e (ap (λ (y : ℕ). let l : List Op = op.Text y ∷ [] in l) h)

  pub op_value : (i : OutItem) (p : Pos) (v : tree.Expr) (s : Scope) (t : ExprMeaning) (n : ValueForm) → Printed p v ≡ i → n ≡ form_as t.scalar → Tells program t (meant (context_at program s) v) → op.Print n ∷ [] ≡ map item_op (items_at s (i ∷ []))
  op_value i p v s t n e h u = subst (λ (x : OutItem). op.Print n ∷ [] ≡ map item_op (items_at s (x ∷ []))) e (ap (λ (y : ValueForm). let l : List Op = op.Print y ∷ [] in l) (h ∙ form_told program (meant (context_at program s) v) t u))

  -- an item with its op: where there is one value, its op stands behind it
  one_item : (is : List Item) (o : Op) (line : ℕ) (ms : List CodeMark) (code : Laid) (a b z : ℕ) → o ∷ [] ≡ map item_op is → ValuesAt code line ms is a b → One code o line b z → ItemsAt code line ms is a z
  one_item [] o line ms code a b z e h g = cc
  one_item (i ∷ []) o line ms code a b z e h g =
      let is : o ≡ item_op i = cc in
      record {
        middle = h.middle;
        first = h.first;
        second = record { middle = z; first = subst (λ (x : Op). One code x line h.middle z) is (subst (λ y. One code o line y z) h.second.end g); second = record { end = refl } };
      }
  one_item (i ∷ j ∷ is) o line ms code a b z e h g = cc

  pub arm_item : (i : OutItem) (o : Op) (line : ℕ) (old mid new : Draft) → o ∷ [] ≡ map item_op (items_at (scope_of old) (i ∷ [])) → Lowers 0 (OPS_FOR_SIZE * out_item_size i - 1) (out_item_size i) 0 0 (ValuesCode line old.marks (items_at (scope_of old) (i ∷ []))) (with_texts (scope_of old) (texts_among (i ∷ []))) old mid → Adds 1 (OpCode line o) mid new → Lowers 0 (OPS_FOR_SIZE * out_item_size i) (out_item_size i) 0 0 (ItemsCode line old.marks (items_at (scope_of old) (i ∷ []))) (with_texts (scope_of old) (texts_among (i ∷ []))) old new
  arm_item i o line old mid new e h g =
      lowers_as (lowers_put (values_stable line old.marks (items_at (scope_of old) (i ∷ []))) h g) refl (λ code a z w. one_item (items_at (scope_of old) (i ∷ [])) o line old.marks code a w.middle z e w.first w.second) (let s = item_counts i in omega arith) (omega arith) (omega arith) (omega arith)

  items_push : (s : Scope) (xs : List OutItem) (x : OutItem) → items_at s xs ++ items_at (with_texts s (texts_among xs)) (x ∷ []) ≡ items_at s (xs ++ x ∷ [])
  items_push s [] x = sym (ap (λ (t : Scope). items_at t (x ∷ [])) (no_text s))
  items_push s (Endl p ∷ xs) x = ap (λ l. Show value_form.Character newline ∷ l) (items_push s xs x)
  items_push s (Literal p t ∷ xs) x =
      let e : s.texts + suc (texts_among xs) ≡ s.texts + 1 + texts_among xs = omega arith in
      ap (λ (n : ℕ). let l : List Item = ShowText s.texts ∷ (items_at (record s { texts = s.texts + 1 }) xs ++ items_at (record s { texts = n }) (x ∷ [])) in l) e
      ∙ ap (λ l. ShowText s.texts ∷ l) (items_push (record s { texts = s.texts + 1 }) xs x)
  items_push s (Printed p v ∷ xs) x = ap (λ l. Show (form_of (meant (context_at program s) v).ty.base) (value_of (meant (context_at program s) v)) ∷ l) (items_push s xs x)

  items_at_append : (line : ℕ) (ms : List CodeMark) (code : Laid) (xs ys : List Item) (a b z : ℕ) → ItemsAt code line ms xs a b → ItemsAt code line ms ys b z → ItemsAt code line ms (xs ++ ys) a z
  items_at_append line ms code [] ys a b z h g = subst (λ y. ItemsAt code line ms ys y z) h.end g
  items_at_append line ms code (x ∷ xs) ys a b z h g = record { middle = h.middle; first = h.first; second = record { middle = h.second.middle; first = h.second.first; second = items_at_append line ms code xs ys h.second.middle b z h.second.second g } }

  values_at_append : (line : ℕ) (ms : List CodeMark) (code : Laid) (xs ys : List Item) (a b z : ℕ) → ValuesAt code line ms xs a b → ValuesAt code line ms ys b z → ValuesAt code line ms (xs ++ ys) a z
  values_at_append line ms code [] ys a b z h g = subst (λ y. ValuesAt code line ms ys y z) h.end g
  values_at_append line ms code (x ∷ xs) ys a b z h g = record { middle = h.middle; first = h.first; second = values_at_append line ms code xs ys h.middle b z h.second g }

  pub items_step : (xs : List OutItem) (i : ℕ) (x : OutItem) (line : ℕ) (old mid new : Draft) → i < length xs → x ≡ get_or xs i x
      → Lowers 0 (OPS_FOR_SIZE * out_items_size (take i xs)) (out_items_size (take i xs)) 0 0 (ItemsCode line old.marks (items_at (scope_of old) (take i xs))) (with_texts (scope_of old) (texts_among (take i xs))) old mid
      → Lowers 0 (OPS_FOR_SIZE * out_item_size x) (out_item_size x) 0 0 (ItemsCode line mid.marks (items_at (scope_of mid) (x ∷ []))) (with_texts (scope_of mid) (texts_among (x ∷ []))) mid new
      → Lowers 0 (OPS_FOR_SIZE * out_items_size (take (i + 1) xs)) (out_items_size (take (i + 1) xs)) 0 0 (ItemsCode line old.marks (items_at (scope_of old) (take (i + 1) xs))) (with_texts (scope_of old) (texts_among (take (i + 1) xs))) old new
  items_step xs i x line old mid new h e g k =
      let ys : List OutItem = take i xs in
      let s : Scope = scope_of old in
      let split : ys ++ x ∷ [] ≡ take (i + 1) xs = ap (λ (y : OutItem). ys ++ y ∷ []) e ∙ sym (take_more xs i x h) in
      let k0 : Lowers 0 (OPS_FOR_SIZE * out_item_size x) (out_item_size x) 0 0 (ItemsCode line old.marks (items_at (scope_of mid) (x ∷ []))) (with_texts (scope_of mid) (texts_among (x ∷ []))) mid new =
      subst (λ (l : List CodeMark). Lowers 0 (OPS_FOR_SIZE * out_item_size x) (out_item_size x) 0 0 (ItemsCode line l (items_at (scope_of mid) (x ∷ []))) (with_texts (scope_of mid) (texts_among (x ∷ []))) mid new) (ap (λ (d : Draft). d.marks) g.rest) k in
      let k1 : Lowers 0 (OPS_FOR_SIZE * out_item_size x) (out_item_size x) 0 0 (ItemsCode line old.marks (items_at (with_texts s (texts_among ys)) (x ∷ []))) (with_texts (with_texts s (texts_among ys)) (texts_among (x ∷ []))) mid new =
      subst (λ (t : Scope). Lowers 0 (OPS_FOR_SIZE * out_item_size x) (out_item_size x) 0 0 (ItemsCode line old.marks (items_at t (x ∷ []))) (with_texts t (texts_among (x ∷ []))) mid new) g.scope k0 in
      subst (λ (zs : List OutItem). Lowers 0 (OPS_FOR_SIZE * out_items_size zs) (out_items_size zs) 0 0 (ItemsCode line old.marks (items_at s zs)) (with_texts s (texts_among zs)) old new) split (
      lowers_as (lowers_join (items_stable line old.marks (items_at s ys)) g k1) (scope_push s ys x)
      (λ code a z w. subst (λ (l : List Item). ItemsAt code line old.marks l a z) (items_push s ys x) (items_at_append line old.marks code (items_at s ys) (items_at (with_texts s (texts_among ys)) (x ∷ [])) a w.middle z w.first w.second))
      (omega (arith, sizes_push ys x)) (omega (arith, sizes_push ys x)) (omega arith) (omega arith))

  pub pieces_step : (xs : List OutItem) (i : ℕ) (x : OutItem) (line : ℕ) (old mid new : Draft) → i < length xs → x ≡ get_or xs i x
      → Lowers 0 (OPS_FOR_SIZE * out_items_size (take i xs) - i) (out_items_size (take i xs)) 0 0 (ValuesCode line old.marks (items_at (scope_of old) (take i xs))) (with_texts (scope_of old) (texts_among (take i xs))) old mid
      → Lowers 0 (OPS_FOR_SIZE * out_item_size x - 1) (out_item_size x) 0 0 (ValuesCode line mid.marks (items_at (scope_of mid) (x ∷ []))) (with_texts (scope_of mid) (texts_among (x ∷ []))) mid new
      → Lowers 0 (OPS_FOR_SIZE * out_items_size (take (i + 1) xs) - (i + 1)) (out_items_size (take (i + 1) xs)) 0 0 (ValuesCode line old.marks (items_at (scope_of old) (take (i + 1) xs))) (with_texts (scope_of old) (texts_among (take (i + 1) xs))) old new
  pieces_step xs i x line old mid new h e g k =
      let ys : List OutItem = take i xs in
      let s : Scope = scope_of old in
      let split : ys ++ x ∷ [] ≡ take (i + 1) xs = ap (λ (y : OutItem). ys ++ y ∷ []) e ∙ sym (take_more xs i x h) in
      let k0 : Lowers 0 (OPS_FOR_SIZE * out_item_size x - 1) (out_item_size x) 0 0 (ValuesCode line old.marks (items_at (scope_of mid) (x ∷ []))) (with_texts (scope_of mid) (texts_among (x ∷ []))) mid new =
      subst (λ (l : List CodeMark). Lowers 0 (OPS_FOR_SIZE * out_item_size x - 1) (out_item_size x) 0 0 (ValuesCode line l (items_at (scope_of mid) (x ∷ []))) (with_texts (scope_of mid) (texts_among (x ∷ []))) mid new) (ap (λ (d : Draft). d.marks) g.rest) k in
      let k1 : Lowers 0 (OPS_FOR_SIZE * out_item_size x - 1) (out_item_size x) 0 0 (ValuesCode line old.marks (items_at (with_texts s (texts_among ys)) (x ∷ []))) (with_texts (with_texts s (texts_among ys)) (texts_among (x ∷ []))) mid new =
      subst (λ (t : Scope). Lowers 0 (OPS_FOR_SIZE * out_item_size x - 1) (out_item_size x) 0 0 (ValuesCode line old.marks (items_at t (x ∷ []))) (with_texts t (texts_among (x ∷ []))) mid new) g.scope k0 in
      let c = items_count xs i (omega arith) in
      let d = item_counts x in
      subst (λ (zs : List OutItem). Lowers 0 (OPS_FOR_SIZE * out_items_size zs - (i + 1)) (out_items_size zs) 0 0 (ValuesCode line old.marks (items_at s zs)) (with_texts s (texts_among zs)) old new) split (
      lowers_as (lowers_join (values_stable line old.marks (items_at s ys)) g k1) (scope_push s ys x)
      (λ code a z w. subst (λ (l : List Item). ValuesAt code line old.marks l a z) (items_push s ys x) (values_at_append line old.marks code (items_at s ys) (items_at (with_texts s (texts_among ys)) (x ∷ [])) a w.middle z w.first w.second))
      (omega (arith, sizes_push ys x, c, d)) (omega (arith, sizes_push ys x)) (omega arith) (omega arith))

  pub ops_step : (xs : List OutItem) (i : ℕ) (x : OutItem) (s t : Scope) (before after : List Op) (o : Op) → i < length xs → x ≡ get_or xs i x → t ≡ with_texts s (texts_among (take i xs)) → before ≡ map item_op (items_at s (take i xs)) → o ∷ [] ≡ map item_op (items_at t (x ∷ [])) → after ≡ before ++ o ∷ [] → after ≡ map item_op (items_at s (take (i + 1) xs))
  ops_step xs i x s t before after o h e te b c a =
      let ys : List OutItem = take i xs in
      let split : ys ++ x ∷ [] ≡ take (i + 1) xs = ap (λ (y : OutItem). ys ++ y ∷ []) e ∙ sym (take_more xs i x h) in
      a ∙ ap (λ l. l ++ o ∷ []) b ∙ ap (λ l. map item_op (items_at s ys) ++ l) (c ∙ ap (λ (u : Scope). map item_op (items_at u (x ∷ []))) te)
      ∙ sym (map_append (items_at s ys) (items_at (with_texts s (texts_among ys)) (x ∷ []))) ∙ ap (λ l. map item_op l) (items_push s ys x) ∙ ap (λ (zs : List OutItem). map item_op (items_at s zs)) split

  -- at once

  length_items : (s : Scope) (xs : List OutItem) → length (map item_op (items_at s xs)) ≡ length xs
  length_items s [] = refl
  length_items s (Endl p ∷ xs) = ap suc (length_items s xs)
  length_items s (Literal p t ∷ xs) = ap suc (length_items (record s { texts = s.texts + 1 }) xs)
  length_items s (Printed p v ∷ xs) = ap suc (length_items s xs)

  pub pieces_count : (s : Scope) (xs : List OutItem) (os : List Op) → os ≡ map item_op (items_at s xs) → length os ≡ length xs
  pieces_count s xs os e = ap length e ∙ length_items s xs

  pub arm_together : (xs : List OutItem) (os ps : List Op) (line : ℕ) (d0 d1 d2 d3 d4 : Draft) → os ≡ map item_op (items_at (scope_of d0) xs) → ps ≡ os
      → Lowers 0 (OPS_FOR_SIZE * out_items_size xs - length xs) (out_items_size xs) 0 0 (ValuesCode line d0.marks (items_at (scope_of d0) xs)) (with_texts (scope_of d0) (texts_among xs)) d0 d1
      → Adds 1 (OpCode line op.Hold) d1 d2 → Adds (length ps) (PiecesCode line ps) d2 d3 → Adds 1 (OpCode line op.Flush) d3 d4
      → Lowers 0 (OPS_FOR_SIZE * (1 + out_items_size xs)) (out_items_size xs) 0 0 (TogetherCode line d0.marks (items_at (scope_of d0) xs)) (with_texts (scope_of d0) (texts_among xs)) d0 d4
  arm_together xs os ps line d0 d1 d2 d3 d4 e i h1 h2 h3 h4 =
      let is : List Item = items_at (scope_of d0) xs in
      let n = pieces_count (scope_of d0) xs ps (i ∙ e) in
      let c = all_count xs in
      let h3' : Adds (length ps) (λ code. PiecesAt code line is) d2 d3 = adds_as (subst (λ (l : List Op). Adds (length ps) (PiecesCode line l) d2 d3) (i ∙ e) h3) (λ code a z w. pieces_at line code is a z w) in
      lowers_as (lowers_put (values_stable line d0.marks is) h1 (adds_both (one_stable op.Hold line) h2 (adds_both (pieces_stable line is) h3' h4))) refl (λ code a z w. w) (omega (arith, n, c)) (omega arith) (omega arith) (omega arith)

  -- places that are read
  pub arm_target : (n line : ℕ) (ms : List CodeMark) (form : ValueForm) (m : Meant) (t : ExprMeaning) (k : ℕ) (d0 d1 d2 d3 : Draft) → n + 2 ≤ k → form ≡ form_as t.scalar → Tells program t m → Adds n (ExprCode line ms m.expr) d0 d1 → Adds 1 (OpCode line (op.Read form)) d1 d2 → Adds 1 (OpCode line op.Store) d2 d3 → Adds k (TargetsCode line ms (record { form = form_of m.ty.base; place = m.expr } ∷ [])) d0 d3
  arm_target n line ms form m t k d0 d1 d2 d3 l e u h1 h2 h3 =
      let h2' : Adds 1 (OpCode line (op.Read (form_of m.ty.base))) d1 d2 = subst (λ (x : ValueForm). Adds 1 (OpCode line (op.Read x)) d1 d2) (e ∙ form_told program m t u) h2 in
      let h3' : Adds 1 (λ code. Both (One code op.Store line) Nothing) d2 d3 = adds_as h3 (λ code a z w. and_none (One code op.Store line) a z w) in
      adds_more (omega arith) (adds_both (expr_stable line ms m.expr) h1 (adds_both (one_stable (op.Read (form_of m.ty.base)) line) h2' h3'))

  targets_push : (c : Context) (xs : List tree.Expr) (x : tree.Expr) → targets_meant c (exprs_of xs) ++ target_meant c x ∷ [] ≡ targets_meant c (exprs_of (xs ++ x ∷ []))
  targets_push c [] x = refl
  targets_push c (y ∷ ys) x = ap (λ l. target_meant c y ∷ l) (targets_push c ys x)

  targets_at_append : (line : ℕ) (ms : List CodeMark) (code : Laid) (xs ys : List Target) (a b z : ℕ) → TargetsAt code line ms xs a b → TargetsAt code line ms ys b z → TargetsAt code line ms (xs ++ ys) a z
  targets_at_append line ms code [] ys a b z h g = subst (λ y. TargetsAt code line ms ys y z) h.end g
  targets_at_append line ms code (x ∷ xs) ys a b z h g = record { middle = h.middle; first = h.first; second = record { middle = h.second.middle; first = h.second.first; second = record { middle = h.second.second.middle; first = h.second.second.first; second = targets_at_append line ms code xs ys h.second.second.middle b z h.second.second.second g } } }

  pub targets_step : (xs : List tree.Expr) (i : ℕ) (x : tree.Expr) (line : ℕ) (old mid new : Draft) → i < length xs → x ≡ get_or xs i x
      → Adds (OPS_FOR_SIZE * exprs_size (exprs_of (take i xs))) (TargetsCode line old.marks (targets_meant (context_in program old) (exprs_of (take i xs)))) old mid
      → Adds (OPS_FOR_SIZE * expr_size x) (TargetsCode line mid.marks (target_meant (context_in program mid) x ∷ [])) mid new
      → Adds (OPS_FOR_SIZE * exprs_size (exprs_of (take (i + 1) xs))) (TargetsCode line old.marks (targets_meant (context_in program old) (exprs_of (take (i + 1) xs)))) old new
  targets_step xs i x line old mid new h e g k =
      let ys : List tree.Expr = take i xs in
      let split : ys ++ x ∷ [] ≡ take (i + 1) xs = ap (λ (y : tree.Expr). ys ++ y ∷ []) e ∙ sym (take_more xs i x h) in
      let k1 : Adds (OPS_FOR_SIZE * expr_size x) (TargetsCode line old.marks (target_meant (context_in program old) x ∷ [])) mid new = subst (λ (d : Draft). Adds (OPS_FOR_SIZE * expr_size x) (TargetsCode line d.marks (target_meant (context_in program d) x ∷ [])) mid new) g.rest k in
      subst (λ (zs : List tree.Expr). Adds (OPS_FOR_SIZE * exprs_size (exprs_of zs)) (TargetsCode line old.marks (targets_meant (context_in program old) (exprs_of zs))) old new) split (
      adds_more (omega (arith, exprs_push ys x)) (adds_as (adds_both (targets_stable line old.marks (targets_meant (context_in program old) (exprs_of ys))) g k1)
      (λ code a z w. subst (λ (l : List Target). TargetsAt code line old.marks l a z) (targets_push (context_in program old) ys x) (targets_at_append line old.marks code (targets_meant (context_in program old) (exprs_of ys)) (target_meant (context_in program old) x ∷ []) a w.middle z w.first w.second))))
