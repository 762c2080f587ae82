-- A field of a class: what is told of it, how it is built, and how its scope is opened.
use Rattle.std.proofs.Common.{◌≡◌, ℕ, ◌+◌, ◌*◌, ◌≤◌, pos, List, [], ◌∷◌, Bool, true, false, Option, Some, None, if◌then◌else◌, refl, ap, sym, subst, ◌∙◌, arith}
use Rattle.std.specs.Prelude.{option_map, slice_get}
use Rattle.uc_tree.specs.declared.kinds.Role.TheVariants as role
use Rattle.uc_tree.specs.Expressions as tree
use Rattle.uc_tree.specs.Expressions.{exprs_of}
use Rattle.uc_tree.specs.ExpressionSizes.{expr_size, exprs_size}
use Rattle.uc_lower_expr.specs.Contexts.{context_in}
use Rattle.uc_tree.specs.declared.limits.TheConstants.{OPS_FOR_SIZE}
use Rattle.uc_tree.specs.Programs.{Class, Program}
use Rattle.uc_tree.specs.Objects.{Making, ClassField, class_shape, shape_of}
use Rattle.uc_tree.specs.Source.{field_cells, Expr, Literal, OfObject, OwnField, Shape, Stmts, Evaluate, Then, Built, Scoped}
use Rattle.uc_resolve.specs.Resolve.{Meant, args_meant, meant, build, clean_up, value_of, field_built, field_making, field_left, field_start, field_type, length_in_class}
use Rattle.uc_code.specs.declared.op.Op.{Op}
use Rattle.uc_code.specs.declared.op.Op.TheVariants as op
use Rattle.uc_code.specs.declared.rows.CodeMark.{CodeMark}
use Rattle.uc_code.specs.declared.rows.Cleaning.{Cleaning}
use Rattle.uc_code.specs.declared.rows.Cleaning.TheVariants as cleaning
use Rattle.uc_code.specs.declared.rows.ObjectSpot.{ObjectSpot}
use Rattle.uc_code.specs.declared.rows.ObjectSpot.TheVariants as spot
use Rattle.uc_code.specs.Drafts.{Draft}
use Rattle.uc_code.specs.Layout.{Laid}
use Rattle.uc_code.specs.Lowered.{StmtAt}
use Rattle.uc_code.specs.ObjectCalls.{BeginsAt, InObject}
use Rattle.uc_code.specs.Emits.{clean_length}
use Rattle.uc_code.proofs.Stable.{one_stable}
use Rattle.uc_lower_expr.specs.DraftGrowth.{Adds, ConvertCode, ExprCode, OpCode}
use Rattle.uc_lower_expr.specs.Meanings.{Tells, is_mutex_at, making_of, shape_as}
use Rattle.uc_lower_expr.specs.Members.{IsFieldAt, held_standing, routine_for}
use Rattle.uc_lower_expr.specs.declared.fields.Field.{Field}
use Rattle.uc_lower_expr.specs.declared.making.Made.{Made}
use Rattle.uc_lower_expr.specs.declared.making.Made.TheVariants as made
use Rattle.uc_lower_expr.proofs.Adding.{adds_as, adds_both, adds_more}
use Rattle.uc_lower_expr.proofs.Arms.{converted_at}
use Rattle.uc_lower_expr.proofs.Settled.{both, expr_stable}
use Rattle.uc_lower_stmt.specs.Objects.{array_by, build_room, call_by, destroyer_of, object_ended}
use Rattle.uc_lower_class.specs.declared.parts.ObjectPart.{ObjectPart}
use Rattle.uc_lower_class.specs.Fields.{StartedCode, field_then, held_by, keep_op, left_then, part_in, part_room, started_then}
use Rattle.uc_lower_class.specs.OpenParts.{Constructs}
use Rattle.uc_lower_class.proofs.Parting.{constructs_as, constructs_does, constructs_nothing, puts_adds}

-- what is told of a field

module _ (p : Program) (c : Class) (i number : ℕ) (f : ClassField) (v : Field) (h : IsFieldAt p c i number f v) where
  abbrev own : Meant
  own = record { expr = Literal (pos 0); ty = field_type p c f; standing = held_standing v.number }

  told : Tells p v.told own
  told = h.tells own refl refl

  pub told_length : length_in_class p c i f ≡ v.told.elements
  told_length = told.len

  pub told_shape : shape_of f.base ≡ shape_as v.told.scalar
  told_shape = told.shape

  making_told : field_making p f ≡ option_map (making_of p) (if v.by_ref then None else v.made)
  making_told = ap (λ (o : Option Making). if f.declarator.by_ref then None else o) h.made ∙ (held_made f.declarator.by_ref v.made ∙ ap (λ (b : Bool). option_map (making_of p) (if b then None else v.made)) h.by_ref)
    where
      held_made : (b : Bool) (o : Option Made) → (let m : Option Making = if b then None else option_map (making_of p) o in m) ≡ option_map (making_of p) (if b then None else o)
      held_made true o = refl
      held_made false o = refl

-- the part that a field is

abbrev part_by : Bool → Option Made → ℕ → Option ℕ → Option ObjectPart
part_by r o cell len = if r then None else option_map (λ m. record { made = m; spot = spot.This cell; length = len }) o

record Parts (r : Bool) (o : Option Made) (cell : ℕ) (len : Option ℕ) (part : ObjectPart) : Type 0 where
  object : (if r then None else o) ≡ Some part.made
  here : o ≡ Some part.made
  begins : part.spot ≡ spot.This cell
  long : part.length ≡ len

parts_by : (r : Bool) (o : Option Made) (cell : ℕ) (len : Option ℕ) (part : ObjectPart) → part_by r o cell len ≡ Some part → Parts r o cell len part
parts_by true o cell len part e = cc
parts_by false None cell len part e = cc
parts_by false (Some m) cell len part e =
    let is : part ≡ record { made = m; spot = spot.This cell; length = len } = cc in
    record {
      object = ap (λ (q : ObjectPart). Some q.made) (sym is);
      here = ap (λ (q : ObjectPart). Some q.made) (sym is);
      begins = ap (λ (q : ObjectPart). q.spot) is;
      long = ap (λ (q : ObjectPart). q.length) is;
    }

no_part : (r : Bool) (o : Option Made) (cell : ℕ) (len : Option ℕ) → part_by r o cell len ≡ None → (if r then None else o) ≡ None
no_part true o cell len e = refl
no_part false None cell len e = refl
no_part false (Some m) cell len e = cc

pub part_made : (v : Field) (part : ObjectPart) → part_in v ≡ Some part → v.made ≡ Some part.made
part_made v part e = (parts_by v.by_ref v.made v.cell v.told.elements part e).here

pub part_long : (v : Field) (part : ObjectPart) → part_in v ≡ Some part → part.length ≡ v.told.elements
part_long v part e = (parts_by v.by_ref v.made v.cell v.told.elements part e).long

-- a reference is bound, a scalar is written
start_code : (p : Program) (b : Bool) (s t : Shape) (n : ℕ) (m : Meant) (ms : List CodeMark) (code : Laid) (a z : ℕ) → StartedCode ms (field_cells t n) b (held_by b s m) code a z → StmtAt code ms (Evaluate 0 (field_start p b s (OfObject (OwnField t n)) m)) a z
start_code p true s t n m ms code a z h = h
start_code p false s t n m ms code a z h = h

module _ (p : Program) (c : Class) (i number : ℕ) (f : ClassField) (v : Field) (h : IsFieldAt p c i number f v) where
  abbrev place : Expr
  place = OfObject (OwnField (class_shape p i) number)

  -- what that makes
  abbrev made_of : ObjectPart → Making
  made_of part = making_of p part.made

  pub field_made : (part : ObjectPart) → part_in v ≡ Some part → field_making p f ≡ Some (made_of part)
  field_made part e = making_told p c i number f v h ∙ ap (λ (o : Option Made). option_map (making_of p) o) (parts_by v.by_ref v.made v.cell v.told.elements part e).object

  pub field_begins : (part : ObjectPart) → part_in v ≡ Some part → BeginsAt place part.spot
  field_begins part e =
      let same : spot.This (field_cells (class_shape p i) number) ≡ part.spot = ap spot.This h.cell ∙ sym (parts_by v.by_ref v.made v.cell v.told.elements part e).begins in
      subst (λ (s : ObjectSpot). BeginsAt place s) same (InObject (class_shape p i) number)

  length_is : (part : ObjectPart) → part_in v ≡ Some part → length_in_class p c i f ≡ part.length
  length_is part e = told_length p c i number f v h ∙ sym (part_long v part e)

  pub field_part : (part : ObjectPart) → part_in v ≡ Some part → (args : List Meant) (rest : Stmts) → Then (build p 0 (made_of part) part.length place args) (Built (clean_up p (made_of part) part.length place) rest) ≡ field_then p c i number f args rest
  field_part part e args rest =
      sym (ap (λ (o : Option Making). field_built p o f (length_in_class p c i f) place args rest) (field_made part e) ∙ ap (λ (l : Option ℕ). field_built p (Some (made_of part)) f l place args rest) (length_is part e))

  pub left_part : (part : ObjectPart) → part_in v ≡ Some part → (rest : Stmts) → Scoped (clean_up p (made_of part) part.length place) rest ≡ left_then p c i number f rest
  left_part part e rest =
      sym (ap (λ (o : Option Making). field_left p o (length_in_class p c i f) place rest) (field_made part e) ∙ ap (λ (l : Option ℕ). field_left p (Some (made_of part)) l place rest) (length_is part e))

  no_class : part_in v ≡ None → field_making p f ≡ None
  no_class e = making_told p c i number f v h ∙ ap (λ (o : Option Made). option_map (making_of p) o) (no_part v.by_ref v.made v.cell v.told.elements e)

  pub field_plain : part_in v ≡ None → (args : List Meant) (rest : Stmts) → started_then p i number f args rest ≡ field_then p c i number f args rest
  field_plain e args rest = sym (ap (λ (o : Option Making). field_built p o f (length_in_class p c i f) place args rest) (no_class e))

  pub left_plain : part_in v ≡ None → (rest : Stmts) → rest ≡ left_then p c i number f rest
  left_plain e rest = sym (ap (λ (o : Option Making). field_left p o (length_in_class p c i f) place rest) (no_class e))

  -- a field that is no object

  pub started_on : {n : ℕ} {old new : Draft} → (m : Meant) (ms : List Meant) (ws : List Cleaning) → Adds n (StartedCode old.marks v.cell v.by_ref (held_by v.by_ref (shape_as v.told.scalar) m)) old new → Constructs n (started_then p i number f (m ∷ ms)) ws old ws new
  started_on {n} {old} {new} m ms ws g =
      let by_cell = subst (λ (k : ℕ). Adds n (StartedCode old.marks k v.by_ref (held_by v.by_ref (shape_as v.told.scalar) m)) old new) (sym h.cell) g in
      let by_form = subst (λ (b : Bool). Adds n (StartedCode old.marks (field_cells (class_shape p i) number) b (held_by b (shape_as v.told.scalar) m)) old new) (sym h.by_ref) by_cell in
      let by_shape = subst (λ (s : Shape). Adds n (StartedCode old.marks (field_cells (class_shape p i) number) f.declarator.by_ref (held_by f.declarator.by_ref s m)) old new) (sym (told_shape p c i number f v h)) by_form in
      let put = puts_adds (adds_as by_shape (λ code a z w. start_code p f.declarator.by_ref (shape_of f.base) (class_shape p i) number m old.marks code a z w)) in
      constructs_does (Evaluate 0 (field_start p f.declarator.by_ref (shape_of f.base) place m)) ws refl (let l = put.kept.longer in omega arith) put

pub started_none : (p : Program) (i number n : ℕ) (f : ClassField) (ws : List Cleaning) (old : Draft) → Constructs n (started_then p i number f []) ws old ws old
started_none p i number n f ws old = constructs_as (constructs_nothing ws old) (omega arith) (λ ss. refl)

-- the code of a value that is kept

pub held_place : {n k : ℕ} {old new : Draft} → (r : Bool) (s : Shape) (m : Meant) → r ≡ true → n ≤ k → Adds n (ExprCode 0 old.marks m.expr) old new → Adds k (ExprCode 0 old.marks (held_by r s m)) old new
held_place {n} {k} {old} {new} r s m e l h = subst (λ (b : Bool). Adds k (ExprCode 0 old.marks (held_by b s m)) old new) (sym e) (adds_more l h)

pub held_value : {n : ℕ} {old mid new : Draft} → (r : Bool) (s : Shape) (m : Meant) → r ≡ false → Adds n (ExprCode 0 old.marks (value_of m)) old mid → Adds 1 (ConvertCode 0 s) mid new → Adds (n + 1) (ExprCode 0 old.marks (held_by r s m)) old new
held_value {n} {old} {mid} {new} r s m e h g =
    subst (λ (b : Bool). Adds (n + 1) (ExprCode 0 old.marks (held_by b s m)) old new) (sym e) (adds_as (adds_both (expr_stable 0 old.marks (value_of m)) h g) (λ code a z w. converted_at old.marks 0 s (value_of m) code a z w))

pub started_code : (n cell : ℕ) (r : Bool) (e : Expr) (d0 d1 d2 d3 d4 : Draft) → Adds 1 (OpCode 0 (op.This cell)) d0 d1 → Adds n (ExprCode 0 d1.marks e) d1 d2 → Adds 1 (OpCode 0 (keep_op r)) d2 d3 → Adds 1 (OpCode 0 op.Discard) d3 d4 → Adds (n + 3) (StartedCode d0.marks cell r e) d0 d4
started_code n cell r e d0 d1 d2 d3 d4 h1 h2 h3 h4 =
    let k2 = subst (λ (ms : List CodeMark). Adds n (ExprCode 0 ms e) d1 d2) (ap (λ (d : Draft). d.marks) h1.rest) h2 in
    let inner = both (one_stable (op.This cell) 0) (both (expr_stable 0 d0.marks e) (one_stable (keep_op r) 0)) in
    adds_more (omega arith) (adds_both inner (adds_both (one_stable (op.This cell) 0) h1 (adds_both (expr_stable 0 d0.marks e) k2 h3)) h4)

-- how many ops a part takes

pub part_fits : (p : Program) (m : Made) (s : ObjectSpot) (l : Option ℕ) → build_room l + (clean_length (cleaning.Call (destroyer_of p m s (array_by p m l))) + 2) ≤ part_room l
part_fits p (made.Object i) s l = by_routine p i (is_mutex_at p i) (routine_for p i role.Destructor).number (routine_for p i role.Destructor).written s l
  where
    by_routine : (p : Program) (i : ℕ) (mutex : Bool) (k : ℕ) (w : Bool) (s : ObjectSpot) (l : Option ℕ) → build_room l + (clean_length (cleaning.Call (call_by (record { number = k; written = w }) (object_ended mutex) s (array_by p (made.Object i) l))) + 2) ≤ part_room l
    by_routine p i true k true s None = omega arith
    by_routine p i true k false s None = omega arith
    by_routine p i true k true s (Some n) = omega arith
    by_routine p i true k false s (Some n) = omega arith
    by_routine p i false k true s None = omega arith
    by_routine p i false k false s None = omega arith
    by_routine p i false k true s (Some n) = omega arith
    by_routine p i false k false s (Some n) = omega arith
part_fits p made.Cluster s None = omega arith
part_fits p made.Cluster s (Some n) = omega arith
part_fits p made.Processor s None = omega arith
part_fits p made.Processor s (Some n) = omega arith

-- arguments, of which the first counts

pub started_some : (p : Program) (v : Field) (args : List tree.Expr) (e : tree.Expr) (old new : Draft) → Some e ≡ slice_get args 0 → Adds (OPS_FOR_SIZE * expr_size e + 4) (StartedCode old.marks v.cell v.by_ref (held_by v.by_ref (shape_as v.told.scalar) (meant (context_in p old) e))) old new
    → (c : Class) (i number : ℕ) (f : ClassField) (parts : List Cleaning) → IsFieldAt p c i number f v → Constructs (OPS_FOR_SIZE * exprs_size (exprs_of args) + 4) (started_then p i number f (args_meant (context_in p old) (exprs_of args))) parts old parts new
started_some p v [] e old new is h c i number f parts at = cc
started_some p v (x ∷ xs) e old new is h c i number f parts at =
    let same : e ≡ x = cc in
    let one : Adds (OPS_FOR_SIZE * expr_size x + 4) (StartedCode old.marks v.cell v.by_ref (held_by v.by_ref (shape_as v.told.scalar) (meant (context_in p old) x))) old new =
    subst (λ (y : tree.Expr). Adds (OPS_FOR_SIZE * expr_size y + 4) (StartedCode old.marks v.cell v.by_ref (held_by v.by_ref (shape_as v.told.scalar) (meant (context_in p old) y))) old new) same h in
    constructs_as (started_on p c i number f v at (meant (context_in p old) x) (args_meant (context_in p old) (exprs_of xs)) parts one) (omega arith) (λ ss. refl)

pub started_nothing : (p : Program) (v : Field) (args : List tree.Expr) (old : Draft) → None ≡ slice_get args 0
    → (c : Class) (i number : ℕ) (f : ClassField) (parts : List Cleaning) → IsFieldAt p c i number f v → Constructs (OPS_FOR_SIZE * exprs_size (exprs_of args) + 4) (started_then p i number f (args_meant (context_in p old) (exprs_of args))) parts old parts old
started_nothing p v [] old is c i number f parts at = started_none p i number (OPS_FOR_SIZE * 0 + 4) f parts old
started_nothing p v (x ∷ xs) old is c i number f parts at = cc

pub kept_by : (r : Bool) (o : Op) (old new : Draft) → o ≡ keep_op r → Adds 1 (OpCode 0 o) old new → Adds 1 (OpCode 0 (keep_op r)) old new
kept_by r o old new e h = subst (λ (x : Op). Adds 1 (OpCode 0 x) old new) e h

-- in a draft with the same names and marks
pub started_in : (n cell : ℕ) (p : Program) (r : Bool) (s : Shape) (value : tree.Expr) (d0 d1 d2 d3 d4 : Draft) → Adds 1 (OpCode 0 (op.This cell)) d0 d1 → Adds n (ExprCode 0 d1.marks (held_by r s (meant (context_in p d1) value))) d1 d2 → Adds 1 (OpCode 0 (keep_op r)) d2 d3 → Adds 1 (OpCode 0 op.Discard) d3 d4
    → Adds (n + 3) (StartedCode d0.marks cell r (held_by r s (meant (context_in p d0) value))) d0 d4
started_in n cell p r s value d0 d1 d2 d3 d4 h1 h2 h3 h4 =
    let same : held_by r s (meant (context_in p d1) value) ≡ held_by r s (meant (context_in p d0) value) = ap (λ (d : Draft). held_by r s (meant (context_in p d) value)) h1.rest in
    started_code n cell r (held_by r s (meant (context_in p d0) value)) d0 d1 d2 d3 d4 h1 (subst (λ (e : Expr). Adds n (ExprCode 0 d1.marks e) d1 d2) same h2) h3 h4
