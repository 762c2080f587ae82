-- The fields of a class, one after another.
use Rattle.std.proofs.Common.{◌≡◌, ℕ, zero, suc, ◌+◌, ◌*◌, ◌≤◌, ◌<◌, List, [], ◌∷◌, Bool, true, false, Option, Some, None, if◌then◌else◌, drop, get_or, length, map, refl, ap, sym, subst, ◌∙◌, arith}
use Rattle.std.specs.Prelude.{slice_get}
use Rattle.uc_tree.specs.declared.limits.TheConstants.{OPS_FOR_SIZE}
use Rattle.uc_tree.specs.Expressions as tree
use Rattle.uc_tree.specs.ExpressionSizes.{exprs_size}
use Rattle.uc_tree.specs.Names.{same_name}
use Rattle.uc_tree.specs.Programs.{Class, Init, Program}
use Rattle.uc_tree.specs.Cells.{leading_cells, seen_in}
use Rattle.uc_tree.specs.Constants.{constants_of}
use Rattle.uc_tree.specs.Objects.{ClassField, class_shape, fields_of}
use Rattle.uc_resolve.specs.Resolve.{Meant, Own, Scope, args_meant, context_at, field_built, field_making, field_length, field_place, fields_built, fields_left, init_args, init_named, length_in_class}
use Rattle.uc_code.specs.declared.rows.Cleaning.{Cleaning}
use Rattle.uc_code.specs.Drafts.{Draft}
use Rattle.uc_code.specs.Layout.{routine_in}
use Rattle.uc_lower_stmt.proofs.Laying.{lays_routine}
use Rattle.uc_lower_class.specs.Inits.{init_exprs, names_of}
use Rattle.uc_lower_class.specs.Fields.{field_then, fields_room, left_then, part_room, room_by}
use Rattle.uc_lower_class.specs.OpenParts.{Constructs, Opens, end_room}
use Rattle.uc_lower_class.proofs.Parting.{constructs_as, constructs_nothing, constructs_then}
use Rattle.uc_lower_class.proofs.Leaving.{opens_as, opens_nothing, opens_then}

-- lists

pub drop_none : {A : Type 0} (xs : List A) → drop 0 xs ≡ xs
drop_none [] = refl
drop_none (x ∷ xs) = refl

drop_suc : {A : Type 0} (xs : List A) (k : ℕ) (x : A) → slice_get xs k ≡ Some x → drop k xs ≡ x ∷ drop (suc k) xs
drop_suc [] k x e = cc
drop_suc (y ∷ ys) zero x e =
    let is : y ≡ x = cc in
    ap (λ z. z ∷ ys) is ∙ ap (λ zs. x ∷ zs) (sym (drop_none ys))
drop_suc (y ∷ ys) (suc k) x e = drop_suc ys k x e

pub drop_at : {A : Type 0} (xs : List A) (k : ℕ) (x : A) → slice_get xs k ≡ Some x → drop k xs ≡ x ∷ drop (k + 1) xs
drop_at xs k x e = let n : suc k ≡ k + 1 = omega arith in drop_suc xs k x e ∙ ap (λ m. x ∷ drop m xs) n

pub drop_past : {A : Type 0} (xs : List A) (k : ℕ) → length xs ≤ k → drop k xs ≡ []
drop_past [] zero h = refl
drop_past [] (suc k) h = refl
drop_past (y ∷ ys) zero h = absurd (omega arith)
drop_past (y ∷ ys) (suc k) h = drop_past ys k (omega arith)

-- names by their places
pub name_at : {A : Type 0} (g : A → List ℕ) (xs : List A) (fs : List ClassField) (k : ℕ) (x : A) (f : ClassField) → map g xs ≡ names_of fs → k < length xs → x ≡ get_or xs k x → slice_get fs k ≡ Some f → g x ≡ f.declarator.name
name_at g [] fs k x f e h q w = absurd (omega arith)
name_at g (y ∷ ys) [] k x f e h q w = cc
name_at g (y ∷ ys) (v ∷ vs) zero x f e h q w =
    let is : v ≡ f = cc in
    let head : g y ≡ v.declarator.name = cc in
    ap g q ∙ head ∙ ap (λ (z : ClassField). z.declarator.name) is
name_at g (y ∷ ys) (v ∷ vs) (suc k) x f e h q w = let tail : map g ys ≡ names_of vs = cc in name_at g ys vs k x f tail (omega arith) q w

pub names_long : {A : Type 0} (g : A → List ℕ) (xs : List A) (fs : List ClassField) → map g xs ≡ names_of fs → length xs ≡ length fs
names_long g [] [] e = refl
names_long g [] (v ∷ vs) e = cc
names_long g (y ∷ ys) [] e = cc
names_long g (y ∷ ys) (v ∷ vs) e = let tail : map g ys ≡ names_of vs = cc in ap suc (names_long g ys vs tail)

pub field_past : (fs : List ClassField) (k : ℕ) → slice_get fs k ≡ None → length fs ≤ k
field_past [] k e = omega arith
field_past (f ∷ fs) zero e = cc
field_past (f ∷ fs) (suc k) e = let r = field_past fs k e in omega arith

-- initialisers

init_case : (p : Program) (s : Scope) (x : Init) (xs : List Init) (name : List ℕ) (b : Bool) → init_args p s (init_named p xs name) ≡ args_meant (context_at p s) (init_exprs xs name) → init_args p s (if b then Some x else init_named p xs name) ≡ args_meant (context_at p s) (if b then x.args else init_exprs xs name)
init_case p s x xs name true e = refl
init_case p s x xs name false e = e

pub init_same : (p : Program) (s : Scope) (xs : List Init) (name : List ℕ) → init_args p s (init_named p xs name) ≡ args_meant (context_at p s) (init_exprs xs name)
init_same p s [] name = refl
init_same p s (x ∷ xs) name = init_case p s x xs name (same_name x.name name) (init_same p s xs name)

pub room_same : (p : Program) (c : Class) (i : ℕ) (f : ClassField) (l : Option ℕ) → length_in_class p c i f ≡ l → part_room l ≡ room_by f.declarator.len
room_same p c i f l e = ap part_room (sym e) ∙ by_length f.declarator.len
  where
    by_length : (o : Option tree.Expr) → part_room (field_length (seen_in (constants_of p.items) c) f.declarator o) ≡ room_by o
    by_length None = refl
    by_length (Some e) = refl

module _ (p : Program) (c : Class) (i : ℕ) where
  abbrev fs : List ClassField
  fs = fields_of c.members

  abbrev lead : ℕ
  lead = leading_cells c.kind

  -- fields that are built up to a place: whatever builds the others from here builds all
  pub record Building (inits : List Init) (s : Scope) (ws : List Cleaning) (old : Draft) (place : ℕ) (us : List Cleaning) (now : Draft) : Type 0 where
    pub same : now ≡ record old { ops = now.ops; rows = now.rows; settled = now.settled; marks = now.marks }
    pub inside : routine_in now.marks ≡ routine_in old.marks
    pub room : length now.ops + end_room us + fields_room inits (drop place fs) ≤ length old.ops + end_room ws + fields_room inits fs
    pub on : (vs : List Cleaning) (new : Draft) → Constructs (fields_room inits (drop place fs)) (fields_built p c i inits s (drop place fs) (lead + place)) us now vs new → Constructs (fields_room inits fs) (fields_built p c i inits s fs lead) ws old vs new

  pub building_begin : (inits : List Init) (s : Scope) (ws : List Cleaning) (old : Draft) → Building inits s ws old 0 ws old
  building_begin inits s ws old =
      let z : lead + 0 ≡ lead = omega arith in
      record {
        same = refl;
        inside = refl;
        room = let e = ap (fields_room inits) (drop_none fs) in omega arith;
        on = λ vs new h. subst (λ (n : ℕ). Constructs (fields_room inits fs) (fields_built p c i inits s fs n) ws old vs new) z (subst (λ (xs : List ClassField). Constructs (fields_room inits xs) (fields_built p c i inits s xs (lead + 0)) ws old vs new) (drop_none fs) h);
      }

  abbrev field_room : List Init → ClassField → ℕ
  field_room inits f = room_by f.declarator.len + OPS_FOR_SIZE * exprs_size (init_exprs inits f.declarator.name)

  one_more : (inits : List Init) (s : Scope) (f : ClassField) (xs : List ClassField) (n m : ℕ) (us vs ts : List Cleaning) (now mid new : Draft) → m ≡ suc n → Constructs (field_room inits f) (field_then p c i n f (args_meant (context_at p s) (init_exprs inits f.declarator.name))) us now vs mid
      → Constructs (fields_room inits xs) (fields_built p c i inits s xs m) vs mid ts new → Constructs (fields_room inits (f ∷ xs)) (fields_built p c i inits s (f ∷ xs) n) us now ts new
  one_more inits s f xs n m us vs ts now mid new e h g =
      constructs_as (constructs_then h g) (omega arith) (λ ss.
      ap (λ (args : List Meant). field_built p (field_making p f) f (length_in_class p c i f) (field_place (class_shape p i) n Own) args (fields_built p c i inits s xs m ss)) (sym (init_same p s inits f.declarator.name))
      ∙ ap (λ (k : ℕ). field_built p (field_making p f) f (length_in_class p c i f) (field_place (class_shape p i) n Own) (init_args p s (init_named p inits f.declarator.name)) (fields_built p c i inits s xs k ss)) e)

  pub building_step : (inits : List Init) (s : Scope) (ws : List Cleaning) (old : Draft) (place : ℕ) (us : List Cleaning) (now : Draft) (f : ClassField) (vs : List Cleaning) (mid : Draft) → Building inits s ws old place us now → slice_get fs place ≡ Some f
      → Constructs (field_room inits f) (field_then p c i (lead + place) f (args_meant (context_at p s) (init_exprs inits f.declarator.name))) us now vs mid → Building inits s ws old (place + 1) vs mid
  building_step inits s ws old place us now f vs mid b e h =
      let split = drop_at fs place f e in
      let next : lead + (place + 1) ≡ suc (lead + place) = omega arith in
      record {
        same = h.rest ∙ ap (λ (d : Draft). let x : Draft = record d { ops = mid.ops; rows = mid.rows; settled = mid.settled; marks = mid.marks } in x) b.same;
        inside = h.inside ∙ b.inside;
        room = let x = h.room in let y = b.room in let z : fields_room inits (drop place fs) ≡ field_room inits f + fields_room inits (drop (place + 1) fs) = ap (fields_room inits) split in omega arith;
        on = λ ts new g. b.on ts new (subst (λ (xs : List ClassField). Constructs (fields_room inits xs) (fields_built p c i inits s xs (lead + place)) us now ts new) (sym split) (one_more inits s f (drop (place + 1) fs) (lead + place) (lead + (place + 1)) us vs ts now mid new next h g));
      }

  pub building_end : (inits : List Init) (s : Scope) (ws : List Cleaning) (old : Draft) (place : ℕ) (us : List Cleaning) (now : Draft) → Building inits s ws old place us now → length fs ≤ place → Constructs (fields_room inits fs) (fields_built p c i inits s fs lead) ws old us now
  building_end inits s ws old place us now b h =
      b.on us now (subst (λ (xs : List ClassField). Constructs (fields_room inits xs) (fields_built p c i inits s xs (lead + place)) us now us now) (sym (drop_past fs place h)) (constructs_nothing us now))

  -- scopes that are opened up to a place
  pub record Leaving (old : Draft) (place : ℕ) (now : Draft) : Type 0 where
    pub inside : routine_in now.marks ≡ routine_in old.marks
    pub on : (new : Draft) → Opens (length (drop place fs)) (fields_left p c i (drop place fs) (lead + place)) now new → Opens (length fs) (fields_left p c i fs lead) old new

  pub leaving_begin : (old : Draft) → Leaving old 0 old
  leaving_begin old =
      let z : lead + 0 ≡ lead = omega arith in
      record {
        inside = refl;
        on = λ new h. subst (λ (n : ℕ). Opens (length fs) (fields_left p c i fs n) old new) z (subst (λ (xs : List ClassField). Opens (length xs) (fields_left p c i xs (lead + 0)) old new) (drop_none fs) h);
      }

  pub leaving_step : (old : Draft) (place : ℕ) (now : Draft) (f : ClassField) (mid : Draft) → Leaving old place now → slice_get fs place ≡ Some f → Opens 1 (left_then p c i (lead + place) f) now mid → Leaving old (place + 1) mid
  leaving_step old place now f mid b e h =
      let split = drop_at fs place f e in
      let next : lead + (place + 1) ≡ suc (lead + place) = omega arith in
      record {
        inside = lays_routine h ∙ b.inside;
        on = λ new g. b.on new (subst (λ (xs : List ClassField). Opens (length xs) (fields_left p c i xs (lead + place)) now new) (sym split) (
            opens_as (opens_then h g) (omega arith) (λ ss. ap (λ (k : ℕ). left_then p c i (lead + place) f (fields_left p c i (drop (place + 1) fs) k ss)) next)));
      }

  pub leaving_end : (old : Draft) (place : ℕ) (now : Draft) → Leaving old place now → length fs ≤ place → Opens (length fs) (fields_left p c i fs lead) old now
  leaving_end old place now b h =
      b.on now (subst (λ (xs : List ClassField). Opens (length xs) (fields_left p c i xs (lead + place)) now now) (sym (drop_past fs place h)) (opens_nothing 0 now))
