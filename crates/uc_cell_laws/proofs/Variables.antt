-- Within the variables of one frame places that have one address are one place.
use Rattle.std.proofs.Common.{◌≡◌, ℕ, ◌+◌, ◌*◌, ◌≤◌, ◌<◌, ◌⊎◌, inl, inr, true, false, List, [], ◌∷◌, Option, Some, None, refl, sym, ap, ◌∙◌, subst, arith}
use Rattle.std.specs.Prelude.{nat_le, slice_get}
use Rattle.std.proofs.lemmas.Bool.{leb-true}
use Rattle.std.proofs.lemmas.Nat.{mul-le}
use Rattle.uc_tree.specs.declared.kinds.Kind.{Kind}
use Rattle.uc_tree.specs.declared.kinds.Kind.TheVariants as kind
use Rattle.uc_tree.specs.declared.kinds.Role.TheVariants as role
use Rattle.uc_tree.specs.declared.limits.TheConstants.{CLASS_CELLS}
use Rattle.uc_tree.specs.Cells.{class_cells}
use Rattle.uc_tree.specs.Numbering.{is_event, is_mutex}
use Rattle.uc_tree.specs.Objects.{class_at, class_shape, written_at}
use Rattle.uc_tree.specs.Programs.{Class, Program}
use Rattle.uc_tree.specs.Source as src
use Rattle.uc_tree.specs.Source.{Expr, CleanUp, Routine, shape_cells}
use Rattle.uc_machine.specs.declared.exec.Owner.{Owner}
use Rattle.uc_machine.specs.declared.exec.Owner.TheVariants.{Fields}
use Rattle.uc_machine.specs.Pieces.{Link, Slot, Value, Place, Object, LAST_ADDRESS, address}
use Rattle.uc_resolve.specs.Resolve.{source_of}
use Rattle.uc_rules.specs.Breaks.{breaks_of}
use Rattle.uc_rules.specs.declared.rule.Rule.TheVariants.{S6, S14}
use Rattle.uc_rules.specs.Asked.{unless}
use Rattle.uc_rules.specs.ClassBreaks.{is_well_mained, has_room}
use Rattle.uc_typing.specs.Typing.{Ty, Num, Cell, Obj, Raw, Row, Clu, Pro, Table, element_shape, DestroysAt, CleansAt}
use Rattle.uc_sound.specs.SoundFormed.{IsFormed}
use Rattle.uc_sound.specs.Tables.{of_kind, table_of}
use Rattle.uc_sound.specs.Told.{TellsMaker}
use Rattle.uc_sound.proofs.Lists.{left_is}
use Rattle.uc_sound.proofs.MemberLemmas.{tells_maker}
use Rattle.uc_sound.proofs.Ties.{false_true}
use Rattle.uc_sound.proofs.UnbrokenLemmas.{none_right, holds}
use Rattle.uc_sound.proofs.Visited.{class_own}
use Rattle.uc_state_laws.specs.FrameSizes.{MaybeRoutineFits}
use Rattle.uc_state_laws.specs.Layout.{destructor_by, destructor_of, Sized}
use Rattle.uc_state_laws.specs.Limits.{IsWithinLimits, MOST_CELLS}
use Rattle.uc_state_laws.specs.Rooms.{LiesAt, LiesIn, Destroyed, Lies}
use Rattle.uc_state_laws.proofs.Limits.{law_limits}
use Rattle.uc_life_laws.specs.Things.{Within}
use Rattle.uc_life_laws.specs.LifeRuns.{span, IsFlat, IsLaidOut}
use Rattle.uc_life_laws.proofs.Laying.{laid_out}
use Rattle.uc_cell_laws.specs.Scopes.{LieApart, InRoutine}
use Rattle.uc_cell_laws.specs.Places.{LiesInScope, LawVariables, LawAddresses}
use Rattle.uc_cell_laws.proofs.Scopes.{LiesBehind, scope_behind, law_scopes}
use Rattle.uc_cell_laws.specs.CellStates.{first_cell}
use Rattle.uc_cell_laws.proofs.Leading.{leading}
use Rattle.uc_cell_laws.proofs.Offsets.{offset, offset_of, addressed, has_address, first_has, first_apart, bounds, places}

some_same : {A : Type 0} {x y : A} → Some x ≡ Some y → x ≡ y
some_same e = cc

-- what an expression destroys: at which place, and of which type that is

abbrev place_in : Expr → Option Expr
place_in (src.OfObject (src.CallOn r e args)) = Some e
place_in (src.OfObject (src.CallUnwritten r e)) = Some e
place_in (src.OfObject (src.EndOn r written (src.Load e))) = Some e
place_in (src.OfObject (src.EndCluster (src.Load e))) = Some e
place_in (src.OfObject (src.EndProcessor (src.Load e))) = Some e
place_in e = None

abbrev mapped : (ℕ → Ty) → Option ℕ → Option Ty
mapped f None = None
mapped f (Some c) = Some (f c)

abbrev type_in : Table → Expr → Option Ty
type_in t (src.OfObject (src.CallOn r e args)) = mapped Obj (t.routine r).this
type_in t (src.OfObject (src.CallUnwritten r e)) = mapped Obj (t.routine r).this
type_in t (src.OfObject (src.EndOn r written (src.Load e))) = mapped (λ c. Cell (Obj c)) (t.routine r).this
type_in t (src.OfObject (src.EndCluster (src.Load e))) = Some (Cell Clu)
type_in t (src.OfObject (src.EndProcessor (src.Load e))) = Some (Cell Pro)
type_in t e = None

told : (t : Table) (a : Ty) (place e : Expr) → DestroysAt t a place e → (place_in e ≡ Some place) × (type_in t e ≡ Some a)
told t (Obj c) place (src.OfObject (src.CallOn r e args)) h = (ap Some (sym h.0), ap (mapped Obj) h.1)
told t (Obj c) place (src.OfObject (src.CallUnwritten r e)) h = (ap Some (sym h.0), ap (mapped Obj) h.1)
told t (Cell (Obj c)) place (src.OfObject (src.EndOn r written (src.Load e))) h = (ap Some (sym h.0), ap (mapped (λ c. Cell (Obj c))) h.1)
told t (Cell Clu) place (src.OfObject (src.EndCluster (src.Load e))) h = (ap Some (sym h), refl)
told t (Cell Pro) place (src.OfObject (src.EndProcessor (src.Load e))) h = (ap Some (sym h), refl)
told t a place e h = absurd h

-- no array of arrays is cleaned up
flat_destroyed : (t : Table) (a : Ty) (place e : Expr) → DestroysAt t a place e → (m : ℕ) → IsFlat (Row m a) × IsFlat a
flat_destroyed t (Obj c) place e h m = (tt, tt)
flat_destroyed t (Cell a) place e h m = (tt, tt)
flat_destroyed t a place e h m = absurd h

flat_of : (t : Table) (a : Ty) (k : ℕ) (c : CleanUp) → CleansAt t a (src.Variable k) c → IsFlat a
flat_of t a k (src.Destroys e) h = (flat_destroyed t a (src.Variable k) e h 0).1
flat_of t (Row n a) k (src.DestroysAll m e) h = (flat_destroyed t a (src.Element n (element_shape t a) (src.Variable k) (src.OfObject src.Counted)) e h.1 n).0
flat_of t a k c h = absurd h

variable_same : (k l : ℕ) → src.Variable k ≡ src.Variable l → k ≡ l
variable_same k l e = cc

-- a clean-up is of one variable, and of one type
one_variable : (t : Table) (a b : Ty) (k l : ℕ) (c : CleanUp) → CleansAt t a (src.Variable k) c → CleansAt t b (src.Variable l) c → (k ≡ l) × (a ≡ b)
one_variable t a b k l (src.Destroys e) h g =
    let x = told t a (src.Variable k) e h in
    let y = told t b (src.Variable l) e g in
    (variable_same k l (some_same (sym x.0 ∙ y.0)), some_same (sym x.1 ∙ y.1))
one_variable t (Row n a) (Row m b) k l (src.DestroysAll i e) h g =
    let x = told t a (src.Element n (element_shape t a) (src.Variable k) (src.OfObject src.Counted)) e h.1 in
    let y = told t b (src.Element m (element_shape t b) (src.Variable l) (src.OfObject src.Counted)) e g.1 in
    let p : src.Element n (element_shape t a) (src.Variable k) (src.OfObject src.Counted) ≡ src.Element m (element_shape t b) (src.Variable l) (src.OfObject src.Counted) = some_same (sym x.0 ∙ y.0) in
    let q : a ≡ b = some_same (sym x.1 ∙ y.1) in
    let r : src.Variable k ≡ src.Variable l = cc in
    let s : n ≡ m = cc in
    (variable_same k l r, ap (λ i. Row i a) s ∙ ap (Row m) q)
one_variable t (Row n a) Num k l (src.DestroysAll i e) h g = absurd g
one_variable t (Row n a) (Cell b) k l (src.DestroysAll i e) h g = absurd g
one_variable t (Row n a) (Obj c) k l (src.DestroysAll i e) h g = absurd g
one_variable t (Row n a) (Raw c) k l (src.DestroysAll i e) h g = absurd g
one_variable t (Row n a) Clu k l (src.DestroysAll i e) h g = absurd g
one_variable t (Row n a) Pro k l (src.DestroysAll i e) h g = absurd g
one_variable t a b k l c h g = absurd h

-- where that lies between two cells, so does all of it
record Between (t : Table) (low high k : ℕ) (a : Ty) : Type 0 where
  first : low ≤ k
  last : k + span t a ≤ high
  flat : IsFlat a

module _ (Z : ℕ → ℕ → Type 0) (t : Table) (l : IsLaidOut Z t) where
  record Counted (lies : ℕ → Expr → Type 0) (place : Expr) (a : Ty) : Type 0 where
    pub cells : ℕ
    pub lies_there : lies cells place
    pub own : span t a ≤ cells
    pub each : shape_cells (element_shape t a) ≤ cells
    pub flat : (m : ℕ) → IsFlat (Row m a)

  destroyed : (lies : ℕ → Expr → Type 0) (place : Expr) (a : Ty) (e : Expr) → DestroysAt t a place e → Destroyed Z lies e → Counted lies place a
  destroyed lies place (Obj c) (src.OfObject (src.CallOn r x args)) d h =
      let n = l.counted r h.0 c h.1 d.1 in
      record { cells = h.0; lies_there = subst (lies h.0) (sym d.0) h.2; own = n; each = n; flat = λ m. tt }
  destroyed lies place (Obj c) (src.OfObject (src.CallUnwritten r x)) d h =
      let n = l.counted r h.0 c h.1 d.1 in
      record { cells = h.0; lies_there = subst (lies h.0) (sym d.0) h.2; own = n; each = n; flat = λ m. tt }
  destroyed lies place (Cell (Obj c)) (src.OfObject (src.EndOn r written (src.Load x))) d h =
      record { cells = 1; lies_there = subst (lies 1) (sym d.0) h; own = omega arith; each = omega arith; flat = λ m. tt }
  destroyed lies place (Cell Clu) (src.OfObject (src.EndCluster (src.Load x))) d h =
      record { cells = 1; lies_there = subst (lies 1) (sym d) h; own = omega arith; each = omega arith; flat = λ m. tt }
  destroyed lies place (Cell Pro) (src.OfObject (src.EndProcessor (src.Load x))) d h =
      record { cells = 1; lies_there = subst (lies 1) (sym d) h; own = omega arith; each = omega arith; flat = λ m. tt }
  destroyed lies place a e d h = absurd d

  between : (low high k : ℕ) (a : Ty) (c : CleanUp) → Lies Z low high c → CleansAt t a (src.Variable k) c → Between t low high k a
  between low high k a (src.Destroys e) h d =
      let n = destroyed (LiesAt Z low high 1) (src.Variable k) a e d h in
      let own = n.own in
      let fits : k + 1 * n.cells ≤ high = n.lies_there.1 in
      record { first = n.lies_there.0; last = omega (arith, own, fits); flat = flat_of t a k (src.Destroys e) d }
  between low high k (Row m a) (src.DestroysAll j e) h d =
      let n = destroyed (LiesIn Z low high j) (src.Element m (element_shape t a) (src.Variable k) (src.OfObject src.Counted)) a e d.1 h in
      let each = n.each in
      let fits : k + j * n.cells ≤ high = n.lies_there.1.1 in
      let same : m ≡ j = d.0 in
      let all : m * shape_cells (element_shape t a) ≤ j * n.cells = mul-le m (shape_cells (element_shape t a)) j n.cells (omega (arith, same)) each in
      record { first = n.lies_there.1.0; last = omega (arith, fits, all); flat = n.flat m }
  between low high k a c h d = absurd d

  -- two things in variables that lie on different sides of a cell have different addresses, where the first one has a cell
  not_one : (o : Owner) (low cell high k m : ℕ) (a b : Ty) (x y : List Link) (d e : Ty) → 1 ≤ span t d → Between t low cell k a → Between t cell high m b → Within t (Place o (Slot k ∷ [])) a (Place o x) d → Within t (Place o (Slot m ∷ [])) b (Place o y) e → address x < LAST_ADDRESS → address x ≡ address y → ⊥
  not_one o low cell high k m a b x y d e one i j h g lt q =
      let u = bounds t Z l i.flat tt h in
      let v = bounds t Z l j.flat tt g in
      let last = i.last in
      let first = j.first in
      let high : offset x + span t d ≤ (0 + k) + span t a = u.high in
      let low : 0 + m ≤ offset y = v.low in
      let f = addressed x lt in
      let z = addressed y (omega (arith, lt, q)) in
      omega (arith, last, first, high, low, f, z, q, one)

-- things in what scopes are of that have cells, and one address, lie in what one clean-up is for
one_scope : (p : Program) → IsFormed p → breaks_of p ≡ [] → (r : ℕ) (o : Owner) (x y : List Link) (b c : Ty) → 1 ≤ span (table_of p) b → 1 ≤ span (table_of p) c → (h : LiesInScope (table_of p) (source_of p) r o (Place o x) b) (g : LiesInScope (table_of p) (source_of p) r o (Place o y) c) → address x < LAST_ADDRESS → address x ≡ address y → h.clean ≡ g.clean
one_scope p formed accepted r o x y b c one other h g lt q = by (law_scopes p accepted r h.clean g.clean h.scope g.scope)
  where
    t : Table
    t = table_of p

    l : IsLaidOut (Sized p) t
    l = laid_out p formed accepted

    by : (h.clean ≡ g.clean) ⊎ LieApart (Sized p) h.clean g.clean → h.clean ≡ g.clean
    by (inl e) = e
    by (inr (inl s)) = absurd (not_one (Sized p) t l o s.low s.cell s.high h.cell g.cell h.type g.type x y b c one (between (Sized p) t l s.low s.cell h.cell h.type h.clean s.before h.cleans) (between (Sized p) t l s.cell s.high g.cell g.type g.clean s.behind g.cleans) h.within g.within lt q)
    by (inr (inr s)) = absurd (not_one (Sized p) t l o s.low s.cell s.high g.cell h.cell g.type h.type y x c b other (between (Sized p) t l s.low s.cell g.cell g.type g.clean s.before g.cleans) (between (Sized p) t l s.cell s.high h.cell h.type h.clean s.behind h.cleans) g.within h.within (omega (arith, lt, q)) (sym q))

-- so do bindings
pub same_scope : (p : Program) → IsFormed p → breaks_of p ≡ [] → (r : ℕ) (o : Owner) (x y : List Link) (b c : Ty) (h : LiesInScope (table_of p) (source_of p) r o (Place o x) (Cell b)) (g : LiesInScope (table_of p) (source_of p) r o (Place o y) (Cell c)) → address x < LAST_ADDRESS → address x ≡ address y → h.clean ≡ g.clean
same_scope p formed accepted r o x y b c h g lt q = one_scope p formed accepted r o x y (Cell b) (Cell c) (omega arith) (omega arith) h g lt q

-- and so in one variable, of one type
pub same_variable : (t : Table) (a b : Ty) (k l : ℕ) (c d : CleanUp) → c ≡ d → CleansAt t a (src.Variable k) c → CleansAt t b (src.Variable l) d → (k ≡ l) × (a ≡ b)
same_variable t a b k l c d e h g = one_variable t a b k l c h (subst (λ z. CleansAt t b (src.Variable l) z) (sym e) g)

pub law_variables : LawVariables
law_variables p formed accepted r o x y b c h g lt q =
    let t : Table = table_of p in
    let z = same_variable t h.type g.type h.cell g.cell h.clean g.clean (same_scope p formed accepted r o x y b c h g lt q) h.cleans g.cleans in
    let u : Within t (Place o (Slot h.cell ∷ [])) h.type (Place o y) (Cell c) = subst (λ k. Within t (Place o (Slot k ∷ [])) h.type (Place o y) (Cell c)) (sym z.0) (subst (λ a. Within t (Place o (Slot g.cell ∷ [])) a (Place o y) (Cell c)) (sym z.1) g.within) in
    places (Sized p) t (laid_out p formed accepted) (Place o (Slot h.cell ∷ [])) h.type (flat_of t h.type h.cell h.clean h.cleans) o x y b c h.within u lt q

-- and no binding has the address of a coroutine, at the first cell of which its execution is found
pub first_variable : (p : Program) → IsFormed p → breaks_of p ≡ [] → (r : ℕ) (o : Owner) (y x : List Link) (c : ℕ) (b : Ty) → (table_of p).executes c ≡ true → LiesInScope (table_of p) (source_of p) r o (Place o y) (Obj c) → LiesInScope (table_of p) (source_of p) r o (Place o x) (Cell b) → address y < LAST_ADDRESS → address y ≡ address x → ⊥
first_variable p formed accepted r o y x c b ex g h lt q =
    let t : Table = table_of p in
    let led = leading p accepted c ex in
    let z = same_variable t g.type h.type g.cell h.cell g.clean h.clean (one_scope p formed accepted r o y x (Obj c) (Cell b) led.cells (omega arith) g h lt q) g.cleans h.cleans in
    let u : Within t (Place o (Slot g.cell ∷ [])) g.type (Place o x) (Cell b) = subst (λ k. Within t (Place o (Slot k ∷ [])) g.type (Place o x) (Cell b)) (sym z.0) (subst (λ a. Within t (Place o (Slot h.cell ∷ [])) a (Place o x) (Cell b)) (sym z.1) h.within) in
    first_apart (Sized p) t (laid_out p formed accepted) (Place o (Slot g.cell ∷ [])) g.type (flat_of t g.type g.cell g.clean g.cleans) (Place o y) c o x b ex led g.within u lt q

-- what lies in what scopes of a routine are of lies behind its parameters
pub behind_params : (p : Program) → IsFormed p → breaks_of p ≡ [] → (r : ℕ) (q : Routine) → slice_get (source_of p).routines r ≡ Some q → (o : Owner) (x : List Link) (b : Ty) → LiesInScope (table_of p) (source_of p) r o (Place o x) b → address x < LAST_ADDRESS → q.params ≤ address x
behind_params p formed accepted r q e o x b h lt =
    let l : IsLaidOut (Sized p) (table_of p) = laid_out p formed accepted in
    let z : LiesBehind p q h.clean = scope_behind p accepted r q e h.clean h.scope in
    let i : Between (table_of p) z.low z.high h.cell h.type = between (Sized p) (table_of p) l z.low z.high h.cell h.type h.clean z.lies h.cleans in
    let u = bounds (table_of p) (Sized p) l i.flat tt h.within in
    let low : 0 + h.cell ≤ offset x = u.low in
    let first = i.first in
    let params = z.params in
    let f = addressed x lt in
    omega (arith, low, first, params, f)

-- in a program within its limits what has cells has an address
things_low : (p : Program) → IsFormed p → breaks_of p ≡ [] → IsWithinLimits p → (r : ℕ) (o : Owner) (x : List Link) (b : Ty) → 1 ≤ span (table_of p) b → LiesInScope (table_of p) (source_of p) r o (Place o x) b → address x < LAST_ADDRESS
things_low p formed accepted within r o x b one h = by (slice_get (source_of p).routines r) refl (law_limits p within r)
  where
    by : (q : Option Routine) → slice_get (source_of p).routines r ≡ q → MaybeRoutineFits MOST_CELLS q → address x < LAST_ADDRESS
    by None e fits = absurd (subst (InRoutine h.clean) e h.scope)
    by (Some q) e fits =
        let l : IsLaidOut (Sized p) (table_of p) = laid_out p formed accepted in
        let z : LiesBehind p q h.clean = scope_behind p accepted r q e h.clean h.scope in
        let i : Between (table_of p) z.low z.high h.cell h.type = between (Sized p) (table_of p) l z.low z.high h.cell h.type h.clean z.lies h.cleans in
        let u = bounds (table_of p) (Sized p) l i.flat tt h.within in
        let high : offset x + span (table_of p) b ≤ (0 + h.cell) + span (table_of p) h.type = u.high in
        let last = i.last in
        let cells : z.high ≤ q.cells = z.cells in
        let few : q.cells ≤ MOST_CELLS = fits.cells in
        let most : MOST_CELLS < LAST_ADDRESS = omega arith in
        has_address x (omega (arith, high, one, last, cells, few, most))

pub first_low : (p : Program) → IsFormed p → breaks_of p ≡ [] → IsWithinLimits p → (r : ℕ) (o : Owner) (x : List Link) (c : ℕ) → (table_of p).executes c ≡ true → LiesInScope (table_of p) (source_of p) r o (Place o x) (Obj c) → address x < LAST_ADDRESS
first_low p formed accepted within r o x c ex h = things_low p formed accepted within r o x (Obj c) (leading p accepted c ex).cells h

-- and so have bindings in mutex objects: the cells of a class are limited by a rule

no_event : (k : Kind) → is_mutex k ≡ true → is_event k ≡ false
no_event kind.Monitor h = refl
no_event kind.Cormonitor h = refl
no_event kind.Task h = refl
no_event kind.Class h = refl
no_event kind.Coroutine h = refl
no_event kind.Event h = false_true h

class_low : (p : Program) → IsFormed p → breaks_of p ≡ [] → (c : ℕ) → (table_of p).mutex c ≡ true → shape_cells (class_shape p c) ≤ CLASS_CELLS
class_low p formed u c m = by (class_at p c) refl m
  where
    by : (o : Option Class) → class_at p c ≡ o → of_kind is_mutex o ≡ true → shape_cells (class_shape p c) ≤ CLASS_CELLS
    by None e h = false_true h
    by (Some x) e h =
        let own = none_right (unless (is_well_mained x) S6 x.pos) _ (class_own p u c x e) in
        let room : has_room p x c ≡ true = holds (has_room p x c) S14 x.pos _ own in
        let low : class_cells p c ≤ CLASS_CELLS = leb-true (class_cells p c) CLASS_CELLS (left_is (nat_le (class_cells p c) CLASS_CELLS) _ room) in
        let all : shape_cells (class_shape p c) ≤ class_cells p c = (laid_out p formed u).counted (destructor_of p c) (class_cells p c) c (c, refl, refl) (this (written_at p c role.Destructor) refl) in
        omega (arith, low, all)
      where
        maker : TellsMaker (table_of p) p c role.Destructor
        maker = tells_maker p formed u c x role.Destructor e (no_event x.kind h) refl

        this : (o : Option ℕ) → written_at p c role.Destructor ≡ o → ((table_of p).routine (destructor_by p c o)).this ≡ Some c
        this None q = maker.unwritten_this q
        this (Some r) q = (maker.written r q).this

objects_low : (p : Program) → IsFormed p → breaks_of p ≡ [] → (o c : ℕ) (x : List Link) (b : Ty) → (table_of p).mutex c ≡ true → Within (table_of p) (Object o) (Obj c) (Place (Fields o) x) (Cell b) → address x < LAST_ADDRESS
objects_low p formed accepted o c x b m h =
    let u = bounds (table_of p) (Sized p) (laid_out p formed accepted) tt tt h in
    let high : offset x + 1 ≤ 0 + shape_cells (class_shape p c) = u.high in
    let few = class_low p formed accepted c m in
    let most : CLASS_CELLS < LAST_ADDRESS = omega arith in
    has_address x (omega (arith, high, few, most))

pub first_low_in : (p : Program) → IsFormed p → breaks_of p ≡ [] → (o c : ℕ) (v : Value) (d : ℕ) → (table_of p).mutex c ≡ true → (table_of p).executes d ≡ true → Within (table_of p) (Object o) (Obj c) v (Obj d) → first_cell v < LAST_ADDRESS
first_low_in p formed accepted o c v d m ex h =
    let u = bounds (table_of p) (Sized p) (laid_out p formed accepted) tt tt h in
    let high : offset_of v + shape_cells (class_shape p d) ≤ 0 + shape_cells (class_shape p c) = u.high in
    let one = (leading p accepted d ex).cells in
    let few = class_low p formed accepted c m in
    let most : CLASS_CELLS < LAST_ADDRESS = omega arith in
    first_has v (omega (arith, high, one, few, most))

pub law_addresses : LawAddresses
law_addresses = record {
  variables = λ p formed accepted within r o x b h. things_low p formed accepted within r o x (Cell b) (omega arith) h;
  objects = λ p formed accepted o c x b m h. objects_low p formed accepted o c x b m h;
}
