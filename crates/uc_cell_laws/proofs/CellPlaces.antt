-- Where places lie that code of a routine finds: in a frame of a routine, as own parts of what its scopes are of, or in a mutex object, as own parts of that; so
-- what may be written there.
use Rattle.std.proofs.Common.{◌≡◌, ℕ, ◌≤◌, ◌<◌, ◌⊎◌, inl, inr, Bool, true, false, List, [], ◌∷◌, Some, refl, sym, ap, ◌∙◌, subst, arith}
use Rattle.uc_tree.specs.Source as src
use Rattle.uc_tree.specs.Source.{Shape, Routine}
use Rattle.std.specs.Prelude.{slice_get}
use Rattle.uc_machine.specs.declared.exec.Exec.{Exec}
use Rattle.uc_machine.specs.declared.exec.Owner.{Owner}
use Rattle.uc_machine.specs.declared.exec.Owner.TheVariants.{Frame, Fields}
use Rattle.uc_machine.specs.Executions.{at_depth}
use Rattle.uc_machine.specs.Pieces.{Link, Slot, FieldAt, At, Value, Place, Object, LAST_ADDRESS, address, Env, further}
use Rattle.uc_typing.specs.Typing.{Ty, Cell, Obj, Row, Table, element_shape}
use Rattle.uc_life_laws.specs.Things.{IsField, IsMutex, Within, itself, field, element}
use Rattle.uc_life_laws.specs.HomedStates.{Owns, Inside, all_of_it, own_field, own_element}
use Rattle.uc_cell_laws.specs.Places.{LiesInScope}
use Rattle.uc_cell_laws.specs.Sites.{Telling, HasPlace, IsLent}
use Rattle.uc_cell_laws.specs.CellTodos.{IsOwnPart, Around, Mark, Sited, Lent, FirstBound, Meets, Holds}
use Rattle.uc_cell_laws.proofs.Offsets.{IsSpot, spots, last_links, before_last, not_root, one_type}
use Rattle.uc_cell_laws.specs.CellStates.{IsOwnCell, IsOwnField, IsOwnCoroutine, IsCoroutineIn, first_cell, IsObjectPart, IsFree, IsRooted, Fits}

-- own parts

-- an own part lies within
pub inside_within : (t : Table) (owns : Owns) {w : Value} {a : Ty} {v : Value} {b : Ty} → Inside t owns w a v b → Within t w a v b
inside_within t owns all_of_it = itself
inside_within t owns (own_field h i f o) = field (inside_within t owns h) i f
inside_within t owns (own_element h j l) = element (inside_within t owns h) j l

unfoldable pub part_lies : (g : Telling) (r : ℕ) (o : Owner) (v : Value) (b : Ty) → IsOwnPart g.table g.owns g.source r o v b → LiesInScope g.table g.source r o v b
part_lies g r o v b h = record { clean = h.clean; scope = h.scope; cell = h.cell; type = h.type; cleans = h.cleans; within = inside_within g.table g.owns h.inside }

-- one within another
inside_both : (t : Table) (owns : Owns) {w : Value} {a : Ty} {v : Value} {b : Ty} {u : Value} {c : Ty} → Inside t owns w a v b → Inside t owns v b u c → Inside t owns w a u c
inside_both t owns h all_of_it = h
inside_both t owns h (own_field k i f o) = own_field (inside_both t owns h k) i f o
inside_both t owns h (own_element k j l) = own_element (inside_both t owns h k) j l

-- what lies in one place lies in the same memory
pub inside_place : (t : Table) (owns : Owns) (o : Owner) (p : List Link) {a : Ty} {v : Value} {b : Ty} → Inside t owns (Place o p) a v b → (x : List Link) × (v ≡ Place o x)
inside_place t owns o p all_of_it = (p, refl)
inside_place t owns o p (own_field {c = c} h i f q) = let k = inside_place t owns o p h in (FieldAt (t.shape c) i ∷ k.0, ap (further (FieldAt (t.shape c) i)) k.1)
inside_place t owns o p (own_element {b = b} h j l) = let k = inside_place t owns o p h in (At (element_shape t b) j ∷ k.0, ap (further (At (element_shape t b) j)) k.1)

-- what lies in a mutex object, and is not that itself, lies in its memory

further_object : (o : ℕ) (l : Link) (v : Value) (B : Type 0) → ((v ≡ Object o) × B) ⊎ ((x : List Link) × (v ≡ Place (Fields o) x)) → (x : List Link) × (further l v ≡ Place (Fields o) x)
further_object o l v B (inl e) = (l ∷ [], ap (further l) e.0)
further_object o l v B (inr e) = (l ∷ e.0, ap (further l) e.1)

pub inside_object : (t : Table) (owns : Owns) (o : ℕ) {a : Ty} {v : Value} {b : Ty} → Inside t owns (Object o) a v b → ((v ≡ Object o) × (b ≡ a)) ⊎ ((x : List Link) × (v ≡ Place (Fields o) x))
inside_object t owns o all_of_it = inl (refl, refl)
inside_object t owns o {a} (own_field {v = v} {c = c} h i f q) = inr (further_object o (FieldAt (t.shape c) i) v (Obj c ≡ a) (inside_object t owns o h))
inside_object t owns o {a} (own_element {v = v} {m = m} {b = b} h j l) = inr (further_object o (At (element_shape t b) j) v (Row m b ≡ a) (inside_object t owns o h))

no_object : (b : Ty) (c : ℕ) → Cell b ≡ Obj c → ⊥
no_object b c e = cc

-- an own part that is a field is an own field
pub own_last : (t : Table) (owns : Owns) {z : Value} {a : Ty} {v : Value} {q : Ty} (u : Value) (c i : ℕ) → Inside t owns z a v q → Within t z a u (Obj c) → IsSpot z → v ≡ further (FieldAt (t.shape c) i) u → owns c i ≡ true
own_last t owns u c i all_of_it g s e = absurd (not_root t g s (FieldAt (t.shape c) i) (sym e))
own_last t owns u c i (own_field {v = v} {c = d} h j f o) g s e =
    let y = inside_within t owns h in
    let l : FieldAt (t.shape d) j ≡ FieldAt (t.shape c) i = last_links t (FieldAt (t.shape d) j) (FieldAt (t.shape c) i) v u (spots t y s) (spots t g s) e in
    let m : j ≡ i = cc in
    let n : Obj d ≡ Obj c = one_type t y g s (before_last t y g s (FieldAt (t.shape d) j) (FieldAt (t.shape c) i) e) in
    let k : d ≡ c = cc in
    subst (λ n. owns n i ≡ true) k (subst (λ n. owns d n ≡ true) m o)
own_last t owns u c i (own_element {v = v} {m = n} {b = b} h j l) g s e =
    let y = inside_within t owns h in
    let m : At (element_shape t b) j ≡ FieldAt (t.shape c) i = last_links t (At (element_shape t b) j) (FieldAt (t.shape c) i) v u (spots t y s) (spots t g s) e in
    absurd (cc)

-- the place of a binding in a mutex object
pub object_place : (g : Telling) (v : Value) (b : Ty) (h : IsObjectPart g v (Cell b)) → (x : List Link) × (v ≡ Place (Fields h.number) x)
object_place g v b h = by (inside_object g.table g.owns h.number h.inside)
  where
    by : ((v ≡ Object h.number) × (Cell b ≡ Obj h.class)) ⊎ ((x : List Link) × (v ≡ Place (Fields h.number) x)) → (x : List Link) × (v ≡ Place (Fields h.number) x)
    by (inl e) = absurd (no_object b h.class e.1)
    by (inr e) = e

-- what code finds

module _ (g : Telling) (r : ℕ) (A : Around) where
  pub variable_meets : (k : ℕ) (a : Ty) → HasPlace g r (src.Variable k) a → Meets g r A (Sited a) (Place (Frame A.exec A.frame) (Slot k ∷ []))
  variable_meets k a h = inl (record { clean = h.0; scope = h.1; cell = k; type = a; cleans = h.2; inside = all_of_it })

  pub field_meets : (s : Shape) (i : ℕ) (a : Ty) → HasPlace g r (src.OfObject (src.OwnField s i)) a → Meets g r A (Sited a) (further (FieldAt s i) A.this)
  field_meets s i a h =
      let f = h.0 in
      inr (record { special = f.special; class = f.class; this = f.this; inside = subst (λ b. Inside g.table g.owns A.this (Obj f.class) (further (FieldAt s i) A.this) b) (sym f.type) (subst (λ z. Inside g.table g.owns A.this (Obj f.class) (further (FieldAt z i) A.this) (g.table.fields f.class i)) (sym f.shape) (own_field all_of_it i f.field h.1)) })

  pub lent_meets : (s : Shape) (i : ℕ) → IsLent g r (src.OfObject (src.OwnField s i)) → Meets g r A Lent (further (FieldAt s i) A.this)
  lent_meets s i h =
      let f = h.1 in
      record { special = f.special; class = f.class; this = f.this; number = i; field = f.field; lent = h.2; type = h.0; binding = sym f.type; place = ap (λ z. further (FieldAt z i) A.this) f.shape }

  pub element_meets : (m n j : ℕ) (s : Shape) (a : Ty) (v : Value) → m ≡ n → j < n → s ≡ element_shape g.table a → Meets g r A (Sited (Row m a)) v → Meets g r A (Sited a) (further (At s j) v)
  element_meets m n j s a v e l q (inl h) =
      inl (record { clean = h.clean; scope = h.scope; cell = h.cell; type = h.type; cleans = h.cleans; inside = subst (λ z. Inside g.table g.owns (Place (Frame A.exec A.frame) (Slot h.cell ∷ [])) h.type (further (At z j) v) a) (sym q) (own_element h.inside j (omega (arith, e, l))) })
  element_meets m n j s a v e l q (inr h) =
      inr (record { special = h.special; class = h.class; this = h.this; inside = subst (λ z. Inside g.table g.owns A.this (Obj h.class) (further (At z j) v) a) (sym q) (own_element h.inside j (omega (arith, e, l))) })

-- where what is known of lies

some_same : (c d : ℕ) → Some c ≡ Some d → c ≡ d
some_same c d e = cc

module _ (g : Telling) (n : Exec) (rs : List ℕ) (level : ℕ) where
  -- in a mutex object, or in a frame below this level
  abbrev pub Lies : Value → Ty → Type 0
  Lies v a = IsObjectPart g v a ⊎ ((d : ℕ) × (r : ℕ) × (d < level) × (at_depth rs d ≡ Some r) × IsOwnPart g.table g.owns g.source r (Frame n d) v a)

  -- what is an own part of the object at hand lies where that does
  pub this_lies : (r q wide : ℕ) (this : Value) (class : ℕ) → wide ≤ level → (g.table.routine q).this ≡ Some class → IsRooted g n rs wide q this → (v : Value) (a : Ty) → Inside g.table g.owns this (Obj class) v a → Lies v a
  this_lies r q wide this class l e (inl h) v a k =
      let part = h.2 in
      let same : h.0 ≡ class = some_same h.0 class (sym h.1 ∙ e) in
      inl (record { number = part.number; class = part.class; told = part.told; mutex = part.mutex; inside = inside_both g.table g.owns (subst (λ z. Inside g.table g.owns (Object part.number) (Obj part.class) this (Obj z)) same part.inside) k })
  this_lies r q wide this class l e (inr h) v a k =
      let o = h.4 in
      let part = o.2 in
      let same : o.0 ≡ class = some_same o.0 class (sym o.1 ∙ e) in
      let low = h.2 in
      inr (h.0, h.1, omega (arith, low, l), h.3, record { clean = part.clean; scope = part.scope; cell = part.cell; type = part.type; cleans = part.cleans; inside = inside_both g.table g.owns (subst (λ z. Inside g.table g.owns (Place (Frame n h.0) (Slot part.cell ∷ [])) part.type this (Obj z)) same part.inside) k })

  -- what is known of an operand, in an activation of the routine r, with this frame and this object
  pub sited_lies : (r frame wide : ℕ) (this : Value) → frame < level → wide ≤ level → at_depth rs frame ≡ Some r → (g.special r ≡ true → IsRooted g n rs wide r this) → (v : Value) (a : Ty) → Meets g r (record { exec = n; frame = frame; this = this }) (Sited a) v → Lies v a
  sited_lies r frame wide this l m e k v a (inl h) = inr (frame, r, l, e, h)
  sited_lies r frame wide this l m e k v a (inr h) = this_lies r r wide this h.class m h.this (k h.special) v a h.inside

-- what may be written

-- where what is at home at a place in a frame may be written, what is no mutex object, and what a reference is bound to; and where own cells and bindings in mutex
-- objects have addresses, those of one address are one place
pub record MayWrite (g : Telling) : Type 0 where
  pub home : (rs : List ℕ) (d r : ℕ) (x : List Link) (c : ℕ) (w : Value) (e : Env) → at_depth rs d ≡ Some r → LiesInScope g.table g.source r (Frame e.exec d) (Place (Frame e.exec d) x) (Cell (Obj c)) → IsFree g (Place (Frame e.exec d) x) c w → Fits g rs (Place (Frame e.exec d) x) w e
  pub other : (rs : List ℕ) (d r : ℕ) (x : List Link) (b : Ty) (w : Value) (e : Env) → at_depth rs d ≡ Some r → LiesInScope g.table g.source r (Frame e.exec d) (Place (Frame e.exec d) x) (Cell b) → (IsMutex g.table b → ⊥) → Fits g rs (Place (Frame e.exec d) x) w e
  pub lent : (rs : List ℕ) (d r c i : ℕ) (v : Value) (x : List Link) (b : Ty) (w : Value) (e : Env) → at_depth rs d ≡ Some r → LiesInScope g.table g.source r (Frame e.exec d) v (Obj c) → IsField g.table c i → g.owns c i ≡ false → g.table.fields c i ≡ Cell b → further (FieldAt (g.table.shape c) i) v ≡ Place (Frame e.exec d) x → Fits g rs (Place (Frame e.exec d) x) w e
  -- own cells of each routine lie behind its parameters, and so do its own coroutines; these have addresses, which no binding has
  pub behind : (r : ℕ) (q : Routine) → slice_get g.source.routines r ≡ Some q → (n : Exec) (d : ℕ) (x : List Link) (c : ℕ) → IsOwnCell g r (Frame n d) x c → address x < LAST_ADDRESS → q.params ≤ address x
  pub first_behind : (r : ℕ) (q : Routine) → slice_get g.source.routines r ≡ Some q → (n : Exec) (d : ℕ) (v : Value) (c : ℕ) → IsOwnCoroutine g r (Frame n d) v c → first_cell v < LAST_ADDRESS → q.params ≤ first_cell v
  pub first_low : (r : ℕ) (o : Owner) (v : Value) (c : ℕ) → IsOwnCoroutine g r o v c → first_cell v < LAST_ADDRESS
  pub first_low_in : (o : ℕ) (v : Value) (d : ℕ) → IsCoroutineIn g o v d → first_cell v < LAST_ADDRESS
  pub first_in : (o c : ℕ) (x : List Link) (b : Ty) (v : Value) (d : ℕ) → Within g.table (Object o) (Obj c) (Place (Fields o) x) (Cell b) → Within g.table (Object o) (Obj c) v (Obj d) → g.table.executes d ≡ true → first_cell v < LAST_ADDRESS → first_cell v ≡ address x → ⊥
  pub low : (r : ℕ) (o : Owner) (x : List Link) (c : ℕ) → IsOwnCell g r o x c → address x < LAST_ADDRESS
  pub low_field : (o c : ℕ) (x : List Link) (b : Ty) → Within g.table (Object o) (Obj c) (Place (Fields o) x) (Cell b) → g.table.mutex c ≡ true → address x < LAST_ADDRESS
  pub places : (o c : ℕ) (x y : List Link) (b d : Ty) → Within g.table (Object o) (Obj c) (Place (Fields o) x) (Cell b) → Within g.table (Object o) (Obj c) (Place (Fields o) y) (Cell d) → address x < LAST_ADDRESS → address x ≡ address y → (x ≡ y) × (b ≡ d)

object_same : (c d : ℕ) → Obj c ≡ Obj d → c ≡ d
object_same c d e = cc

false_is_not_true : (b : Bool) → b ≡ true → b ≡ false → ⊥
false_is_not_true b h k = cc

module _ (g : Telling) (may : MayWrite g) (e : Env) (rs : List ℕ) (level : ℕ) where
  -- an own cell of a mutex object that has the address of a binding in it is that
  one_field : (o c : ℕ) (x : List Link) (b : Ty) → g.class o ≡ Some c → Within g.table (Object o) (Obj c) (Place (Fields o) x) (Cell b) → (y : List Link) (d : ℕ) (own : IsOwnField g o y d) → address y < LAST_ADDRESS → address y ≡ address x → (y ≡ x) × (Obj d ≡ b)
  one_field o c x b told h y d own lt a =
      may.places o c y x (Obj d) b (inside_within g.table g.owns (subst (λ z. Inside g.table g.owns (Object o) (Obj z) (Place (Fields o) y) (Cell (Obj d))) (some_same own.0 c (sym own.2 ∙ told)) own.4)) h lt a

  -- and the first cell of an own coroutine in it has none of these
  not_there : (o c : ℕ) (x : List Link) (b : Ty) → g.class o ≡ Some c → Within g.table (Object o) (Obj c) (Place (Fields o) x) (Cell b) → (v : Value) (d : ℕ) → IsCoroutineIn g o v d → first_cell v < LAST_ADDRESS → first_cell v ≡ address x → ⊥
  not_there o c x b told h v d own lt a =
      may.first_in o c x b v d h (inside_within g.table g.owns (subst (λ z. Inside g.table g.owns (Object o) (Obj z) v (Obj d)) (some_same own.0 c (sym own.2 ∙ told)) own.4)) own.1 lt a

  -- so what lies in a mutex object lies there
  abbrev IsThere : (v : Value) (b : Ty) (h : IsObjectPart g v (Cell b)) → Type 0
  IsThere v b h = Within g.table (Object h.number) (Obj h.class) (Place (Fields h.number) (object_place g v b h).0) (Cell b)

  is_there : (v : Value) (b : Ty) (h : IsObjectPart g v (Cell b)) → IsThere v b h
  is_there v b h = subst (λ u. Within g.table (Object h.number) (Obj h.class) u (Cell b)) (object_place g v b h).1 (inside_within g.table g.owns h.inside)

  -- what is at home there
  pub fits_home : (v w : Value) (c : ℕ) → Lies g e.exec rs level v (Cell (Obj c)) → IsFree g v c w → Fits g rs v w e
  fits_home v w c (inl h) k =
      let x = object_place g v (Obj c) h in
      subst (λ u. Fits g rs u w e) (sym x.1) (
        (λ y d own lt a o q.
            let same = one_field h.number h.class x.0 (Obj c) h.told (is_there v (Obj c) h) y d own lt a in
            let f = k o q in
            (f.0 ∙ (x.1 ∙ ap (Place (Fields h.number)) (sym same.0)), f.1 ∙ ap Some (sym (object_same d c same.1)))),
        (λ y d own lt a. absurd (not_there h.number h.class x.0 (Obj c) h.told (is_there v (Obj c) h) y d own lt a)),
      )
  fits_home v w c (inr h) k =
      let part = h.4 in
      let x = inside_place g.table g.owns (Frame e.exec h.0) (Slot part.cell ∷ []) part.inside in
      subst (λ u. Fits g rs u w e) (sym x.1) (may.home rs h.0 h.1 x.0 c w e h.3 (part_lies g h.1 (Frame e.exec h.0) (Place (Frame e.exec h.0) x.0) (Cell (Obj c)) (subst (λ u. IsOwnPart g.table g.owns g.source h.1 (Frame e.exec h.0) u (Cell (Obj c))) x.1 part)) (λ o q. let f = k o q in (f.0 ∙ x.1, f.1)))

  -- what is no mutex object
  pub fits_other : (v w : Value) (b : Ty) → Lies g e.exec rs level v (Cell b) → (IsMutex g.table b → ⊥) → Fits g rs v w e
  fits_other v w b (inl h) k =
      let x = object_place g v b h in
      subst (λ u. Fits g rs u w e) (sym x.1) (
        (λ y d own lt a o q. absurd (k (subst (IsMutex g.table) (one_field h.number h.class x.0 b h.told (is_there v b h) y d own lt a).1 own.1))),
        (λ y d own lt a. absurd (not_there h.number h.class x.0 b h.told (is_there v b h) y d own lt a)),
      )
  fits_other v w b (inr h) k =
      let part = h.4 in
      let x = inside_place g.table g.owns (Frame e.exec h.0) (Slot part.cell ∷ []) part.inside in
      subst (λ u. Fits g rs u w e) (sym x.1) (may.other rs h.0 h.1 x.0 b w e h.3 (part_lies g h.1 (Frame e.exec h.0) (Place (Frame e.exec h.0) x.0) (Cell b) (subst (λ u. IsOwnPart g.table g.owns g.source h.1 (Frame e.exec h.0) u (Cell b)) x.1 part)) k)

  -- what a reference in the object at hand is bound to
  lent_place : (class i : ℕ) (this : Value) (h : IsObjectPart g this (Obj class)) → (x : List Link) × (further (FieldAt (g.table.shape class) i) this ≡ Place (Fields h.number) x)
  lent_place class i this h = further_object h.number (FieldAt (g.table.shape class) i) this (Obj class ≡ Obj h.class) (inside_object g.table g.owns h.number h.inside)

  pub fits_lent : (class i : ℕ) (this w : Value) (b : Ty) → Lies g e.exec rs level this (Obj class) → IsField g.table class i → g.owns class i ≡ false → g.table.fields class i ≡ Cell b → Fits g rs (further (FieldAt (g.table.shape class) i) this) w e
  fits_lent class i this w b (inl h) f o q =
      let l : Link = FieldAt (g.table.shape class) i in
      let x = lent_place class i this h in
      let outer : Within g.table (Object h.number) (Obj h.class) this (Obj class) = inside_within g.table g.owns h.inside in
      let lies : Within g.table (Object h.number) (Obj h.class) (Place (Fields h.number) x.0) (Cell b) = subst (λ u. Within g.table (Object h.number) (Obj h.class) u (Cell b)) x.1 (subst (λ z. Within g.table (Object h.number) (Obj h.class) (further l this) z) q (field outer i f)) in
      subst (λ u. Fits g rs u w e) (sym x.1) (
        (λ y d own lt a m r.
            let same = one_field h.number h.class x.0 b h.told lies y d own lt a in
            let place : Place (Fields h.number) y ≡ further l this = ap (Place (Fields h.number)) same.0 ∙ sym x.1 in
            let inner : Inside g.table g.owns (Object h.number) (Obj h.class) (Place (Fields h.number) y) (Cell (Obj d)) = subst (λ z. Inside g.table g.owns (Object h.number) (Obj z) (Place (Fields h.number) y) (Cell (Obj d))) (some_same own.0 h.class (sym own.2 ∙ h.told)) own.4 in
            absurd (false_is_not_true (g.owns class i) (own_last g.table g.owns this class i inner outer tt place) o)),
        (λ y d own lt a. absurd (not_there h.number h.class x.0 b h.told lies y d own lt a)),
      )
  fits_lent class i this w b (inr h) f o q =
      let part = h.4 in
      let l : Link = FieldAt (g.table.shape class) i in
      let x = inside_place g.table g.owns (Frame e.exec h.0) (Slot part.cell ∷ []) part.inside in
      let there : further l this ≡ Place (Frame e.exec h.0) (l ∷ x.0) = ap (further l) x.1 in
      subst (λ u. Fits g rs u w e) (sym there) (may.lent rs h.0 h.1 class i this (l ∷ x.0) b w e h.3 (part_lies g h.1 (Frame e.exec h.0) this (Obj class) part) f o q there)

  -- so what is bound may be written
  pub fits_bound : (r frame wide : ℕ) (this : Value) → frame < level → wide ≤ level → at_depth rs frame ≡ Some r → (g.special r ≡ true → IsRooted g e.exec rs wide r this) → (ms : List Mark) (v w : Value) (vs : List Value) → FirstBound g.table ms → Holds g r (record { exec = e.exec; frame = frame; this = this }) ms (v ∷ vs) → Fits g rs v w e
  fits_bound r frame wide this l m at k (Sited (Cell b) ∷ ms) v w vs f h = fits_other v w b (sited_lies g e.exec rs level r frame wide this l m at k v (Cell b) h.0) f
  fits_bound r frame wide this l m at k (Lent ∷ ms) v w vs f h =
      let z = h.0 in
      subst (λ u. Fits g rs u w e) (sym z.place) (fits_lent z.class z.number this w z.type (this_lies g e.exec rs level r r wide this z.class m z.this (k z.special) this (Obj z.class) all_of_it) z.field z.lent z.binding)
  fits_bound r frame wide this l m at k ms v w vs f h = absurd f
