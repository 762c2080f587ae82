-- Nothing outwards stands around a field: places in different fields of one object differ, and homes lead to an execution in the end.
use Rattle.std.proofs.Common.{◌≡◌, ℕ, inl, inr, List, [], ◌∷◌, ◌∙◌, refl, sym, ap, subst}
use Rattle.uc_tree.specs.Source.{Shape, CleanUp}
use Rattle.uc_machine.specs.declared.exec.Exec.{Exec}
use Rattle.uc_machine.specs.declared.exec.Owner.{Owner}
use Rattle.uc_machine.specs.declared.exec.Owner.TheVariants.{Frame, Fields}
use Rattle.uc_machine.specs.Pieces as piece
use Rattle.uc_machine.specs.Pieces.{Link, FieldAt, Value, Number, Place, Running, Object, Nothing, further, Todo, Sort, Active}
use Rattle.uc_typing.specs.Typing.{Ty, Cell, Obj, Table}
use Rattle.uc_life_laws.specs.Things.{Few, Within, AtField, IsFor, Marks, InTodo, Stands, lies, inside}
use Rattle.uc_life_laws.specs.Belonging.{Belongs, frame, fields, object}
use Rattle.uc_life_laws.specs.Marks.{Marked, Outward, Sole}
use Rattle.uc_putting_laws.specs.ObjectsAtHand.{OwnedBy, LiesUnder, same_place, further_on, LiesIn, there, at_home, NoneWithin}
use Rattle.uc_putting_laws.specs.Fields.{NoneIn, OfNumber, OfOthers, SortOthers, AllOthers, LawSole}
use Rattle.uc_putting_laws.proofs.ObjectsWithin.{owned_further, owner_one, owned_under, owner_of, one_object, no_frame, home_own, within_under, no_circle}

-- paths

abbrev pub path_of : Value → List Link
path_of (Number z) = []
path_of (Place o p) = p
path_of (Running x) = []
path_of (Object o) = []
path_of Nothing = []

-- what a path ends with
pub data Tail (p : List Link) : List Link → Type 0 where
  whole : Tail p p
  behind : {q : List Link} (l : Link) → Tail p q → Tail p (l ∷ q)

path_further : (q : Owner) (l : Link) (v : Value) → OwnedBy q v → path_of (further l v) ≡ l ∷ path_of v
path_further q l (Number z) h = absurd h
path_further q l (Place o p) h = refl
path_further q l (Running x) h = absurd h
path_further q l (Object o) h = refl
path_further q l Nothing h = absurd h

-- what lies further ends with the path
module _ (q : Owner) (w : Value) (own : OwnedBy q w) where
  pub tail_under : (v : Value) → LiesUnder w v → Tail (path_of w) (path_of v)
  tail_under v same_place = whole
  tail_under v (further_on {v = x} l h) = subst (Tail (path_of w)) (sym (path_further q l x (owned_under q w own x h))) (behind l (tail_under x h))

-- two ends of a path that are as long are one
no_tail : (l : Link) (p : List Link) → Tail (l ∷ p) p → ⊥
no_tail l [] h = elim h [ ]
no_tail l (x ∷ p) (behind y h) = no_tail x p (shorter l x p p h)
  where
    shorter : (l x : Link) (p q : List Link) → Tail (l ∷ (x ∷ p)) q → Tail (x ∷ p) q
    shorter l x p q whole = behind l whole
    shorter l x p q (behind y h) = behind y (shorter l x p _ h)

pub one_tail : (l m : Link) (p r q : List Link) → p ≡ r → Tail (l ∷ p) q → Tail (m ∷ r) q → l ≡ m
one_tail l m p r q e whole whole = refl
one_tail l m p r q e whole (behind y h) = absurd (no_tail m p (subst (λ x. Tail (m ∷ x) p) (sym e) h))
one_tail l m p r q e (behind y h) whole = absurd (no_tail l r (subst (λ x. Tail (l ∷ x) r) e h))
one_tail l m p r q e (behind y h) (behind z k) = one_tail l m p r _ e h k

-- places in two fields of one object differ
two_fields : (q : Owner) (this v : Value) (l m : Link) → OwnedBy q this → LiesUnder (further l this) v → LiesUnder (further m this) v → l ≡ m
two_fields q this v l m o h k =
    one_tail l m (path_of this) (path_of this) (path_of v) refl (subst (λ p. Tail p (path_of v)) (path_further q l this o) (tail_under q (further l this) (owned_further q l this o) v h)) (subst (λ p. Tail p (path_of v)) (path_further q m this o) (tail_under q (further m this) (owned_further q m this o) v k))

one_number : (s : Shape) (i : ℕ) (r : Shape) (j : ℕ) → FieldAt s i ≡ FieldAt r j → i ≡ j
one_number s i r j h = cc

module _ (t : Table) (few : Few) (n : Exec) (f : ℕ) (this : Value) (older : List Active) (todo : List Todo) (i : ℕ) (others : AllOthers t i todo) where
  abbrev Own : Value → Ty → Type 0
  Own w a = InTodo (IsFor t (Frame n f) this) (AtField t (Frame n f) this) todo w a

  abbrev K : Value → Ty → Type 0
  K w a = Outward t n f this older todo w a

  -- what the activation cleans up is a field of another number
  record Other (w : Value) : Type 0 where
    shape : Shape
    number : ℕ
    other : number ≡ i → ⊥
    at : w ≡ further (FieldAt shape number) this

  for_other : (c : CleanUp) (w : Value) (a : Ty) → OfOthers t i c → IsFor t (Frame n f) this c w a → Other w
  for_other c w a o (inl v) = absurd (o.variables v.0 a v.1)
  for_other c w a o (inr v) = record { shape = v.0; number = v.1; other = o.fields v.0 v.1 a v.2; at = v.3 }

  field_other : (c : CleanUp) (w : Value) (a : Ty) → OfOthers t i c → AtField t (Frame n f) this c w a → Other w
  field_other c w a o v = record { shape = v.0; number = v.1; other = o.fields v.0 v.1 a v.2; at = v.3 }

  sort_other : (s : Sort) (R : Type 0) (w : Value) (a : Ty) → SortOthers t i s → (R → Other w) → Marks (IsFor t (Frame n f) this) (AtField t (Frame n f) this) s w a R → Other w
  sort_other (piece.IsClean c) R w a o next (inl v) = for_other c w a o v
  sort_other (piece.IsClean c) R w a o next (inr v) = next v
  sort_other (piece.IsPart c) R w a o next (inl v) = field_other c w a o v
  sort_other (piece.IsPart c) R w a o next (inr v) = next v
  sort_other piece.Simple R w a o next v = next v
  sort_other (piece.IsLoop x y z u) R w a o next v = next v
  sort_other piece.IsWhole R w a o next v = next v
  sort_other (piece.IsFill x y z) R w a o next v = next v
  sort_other (piece.IsSweep x) R w a o next v = next v
  sort_other (piece.IsGuard x) R w a o next v = next v
  sort_other piece.IsFinish R w a o next v = next v
  sort_other piece.IsFinishCoroutine R w a o next v = next v

  todo_other : (todo : List Todo) (w : Value) (a : Ty) → AllOthers t i todo → InTodo (IsFor t (Frame n f) this) (AtField t (Frame n f) this) todo w a → Other w
  todo_other [] w a o v = absurd v
  todo_other (p ∷ todo) w a o v = sort_other (piece.sort p) _ w a o.0 (todo_other todo w a o.1) v

  -- what lies in a field of the object at hand that is cleaned up has its owner
  owned_here : (q : Owner) → OwnedBy q this → (u w : Value) (a b : Ty) → Own w a → Within t w a u b → OwnedBy q u
  owned_here q mine u w a b k s =
      let z = todo_other todo w a others k in
      owned_under q w (subst (OwnedBy q) (sym z.at) (owned_further q (FieldAt z.shape z.number) this mine)) u (within_under t w a u b s)

  -- a home leads outwards, and so out of the object at hand in the end
  module _ (o : ℕ) (mine : OwnedBy (Fields o) this) where
    abbrev Out : ℕ → Value → Type 0
    Out b u = Stands t few (Marked t n older) (Cell (Obj b)) u → ⊥

    leads_out : (u : Value) (b : ℕ) → Belongs few n u → Stands t few K (Cell (Obj b)) u → Out b u → (d : ℕ) → Stands t few K (Cell (Obj d)) (few.home o) → Out d (few.home o) → ⊥
    leads_out u b h (lies {w = w} {a} (inr k) s) out d back stop = out (lies k s)
    leads_out (Place (Frame x e) p) b (frame h) (lies {w = w} {a} (inl k) s) out d back stop =
        no_frame x e o (owned_here (Fields o) mine (Place (Frame x e) p) w a (Cell (Obj b)) k s)
    leads_out (Place (Fields x) p) b (fields h) (lies {w = w} {a} (inl k) s) out d back stop =
        let e : o ≡ x = sym (one_object x o (owned_here (Fields o) mine (Place (Fields x) p) w a (Cell (Obj b)) k s)) in
        leads_out (few.home x) d h (subst (λ y. Stands t few K (Cell (Obj d)) (few.home y)) e back) (subst (λ y. Out d (few.home y)) e stop) d back stop
    leads_out (Object x) b (object h) (lies {w = w} {a} (inl k) s) out d back stop =
        let e : o ≡ x = sym (one_object x o (owned_here (Fields o) mine (Object x) w a (Cell (Obj b)) k s)) in
        leads_out (few.home x) d h (subst (λ y. Stands t few K (Cell (Obj d)) (few.home y)) e back) (subst (λ y. Out d (few.home y)) e stop) d back stop
    leads_out (Place (Frame x e) p) b (frame h) (inside {o = y} {c} m k s) out d back stop =
        no_frame x e y (owned_under (Fields y) (Object y) refl (Place (Frame x e) p) (within_under t (Object y) (Obj c) (Place (Frame x e) p) (Cell (Obj b)) s))
    leads_out (Place (Fields x) p) b (fields h) (inside {o = y} {c} m k s) out d back stop =
        let e : y ≡ x = sym (one_object x y (owned_under (Fields y) (Object y) refl (Place (Fields x) p) (within_under t (Object y) (Obj c) (Place (Fields x) p) (Cell (Obj b)) s))) in
        leads_out (few.home x) c h (subst (λ z. Stands t few K (Cell (Obj c)) (few.home z)) e k) (λ st. out (inside m (subst (λ z. Stands t few (Marked t n older) (Cell (Obj c)) (few.home z)) (sym e) st) s)) d back stop
    leads_out (Object x) b (object h) (inside {o = y} {c} m k s) out d back stop =
        let e : y ≡ x = sym (one_object x y (owned_under (Fields y) (Object y) refl (Object x) (within_under t (Object y) (Obj c) (Object x) (Cell (Obj b)) s))) in
        leads_out (few.home x) c h (subst (λ z. Stands t few K (Cell (Obj c)) (few.home z)) e k) (λ st. out (inside m (subst (λ z. Stands t few (Marked t n older) (Cell (Obj c)) (few.home z)) (sym e) st) s)) d back stop
    leads_out (Number z) b h (lies (inl k) s) out d back stop = elim h [ ]
    leads_out (Running x) b h (lies (inl k) s) out d back stop = elim h [ ]
    leads_out Nothing b h (lies (inl k) s) out d back stop = elim h [ ]
    leads_out (Number z) b h (inside m k s) out d back stop = elim h [ ]
    leads_out (Running x) b h (inside m k s) out d back stop = elim h [ ]
    leads_out Nothing b h (inside m k s) out d back stop = elim h [ ]

  module _ (own : Belongs few n this) (none : NoneIn t few (Marked t n older) this) where
    -- of a place in the field
    stands_out : (s : Shape) (q : Owner) → OwnedBy q this → (v : Value) (b : ℕ) → LiesUnder (further (FieldAt s i) this) v → Stands t few K (Cell (Obj b)) v → ⊥
    stands_out s q mine v b u (lies {w = w} {a} (inr k) h) = none (FieldAt s i) v b u (lies k h)
    stands_out s q mine v b u (lies {w = w} {a} (inl k) h) =
        let z = todo_other todo w a others k in
        let under : LiesUnder (further (FieldAt z.shape z.number) this) v = subst (λ x. LiesUnder x v) z.at (within_under t w a v (Cell (Obj b)) h) in
        z.other (sym (one_number s i z.shape z.number (two_fields q this v (FieldAt s i) (FieldAt z.shape z.number) mine u under)))
    stands_out s q mine v b u (inside {o = o} {c} m k h) =
        let in_o : OwnedBy (Fields o) v = owned_under (Fields o) (Object o) refl v (within_under t (Object o) (Obj c) v (Cell (Obj b)) h) in
        let in_q : OwnedBy q v = owned_under q (further (FieldAt s i) this) (owned_further q (FieldAt s i) this mine) v u in
        let its : OwnedBy (Fields o) this = subst (λ x. OwnedBy x this) (owner_one q (Fields o) v in_q in_o) mine in
        let stop : Stands t few (Marked t n older) (Cell (Obj c)) (few.home o) → ⊥ = λ st. none (FieldAt s i) v b u (inside m st h) in
        leads_out o its (few.home o) c (home_own few n o this its own) k stop c k stop

  module _ (c : CleanUp) (number : OfNumber t i c) (own : Belongs few n this) (none : NoneIn t few (Marked t n older) this) where
    sole : Sole t few n f this older c todo
    sole w a at v d e h st =
        let q = owner_of few n this own in
        let j : at.1 ≡ i = number at.0 at.1 a at.2 in
        let place : w ≡ further (FieldAt at.0 i) this = at.3 ∙ ap (λ y. further (FieldAt at.0 y) this) j in
        stands_out own none at.0 q.0 q.1 v e (subst (λ x. LiesUnder x v) place (within_under t w a v (Cell (Obj d)) h)) st

  -- so it is of what is at home in the field
  module _ (own : Belongs few n this) (none : NoneWithin t few (Marked t n older) this) where
    in_field : (s : Shape) (q : Owner) → OwnedBy q this → (v : Value) (b : ℕ) → LiesIn few (further (FieldAt s i) this) v → Stands t few K (Cell (Obj b)) v → ⊥
    in_field s q mine v b (there u) st = stands_out own (λ l x e k. none l x e (there k)) s q mine v b u st
    in_field s q mine v b (at_home u p) (lies {w = w} {a} (inr k) h) = none (FieldAt s i) v b (at_home u p) (lies k h)
    in_field s q mine v b (at_home {o = o} u p) (lies {w = w} {a} (inl k) h) =
        let its : OwnedBy (Fields o) this = subst (λ x. OwnedBy x this) (owner_one q (Fields o) v (owned_here q mine v w a (Cell (Obj b)) k h) p) mine in
        no_circle few n (further (FieldAt s i) this) o (owned_further (Fields o) (FieldAt s i) this its) u (few.home o) (home_own few n o this its own) u
    in_field s q mine v b (at_home {o = o} u p) (inside {o = y} {c} m k h) =
        let in_y : OwnedBy (Fields y) v = owned_under (Fields y) (Object y) refl v (within_under t (Object y) (Obj c) v (Cell (Obj b)) h) in
        let e : y ≡ o = one_object y o (owner_one (Fields y) (Fields o) v in_y p) in
        in_field s q mine (few.home o) c u (subst (λ z. Stands t few K (Cell (Obj c)) (few.home z)) e k)

    pub field_lone : (s : Shape) (v : Value) (b : ℕ) → LiesIn few (further (FieldAt s i) this) v → Stands t few K (Cell (Obj b)) v → ⊥
    field_lone s v b h st = let q = owner_of few n this own in in_field s q.0 q.1 v b h st

pub law_sole : LawSole
law_sole t few n f this older todo i c number others own none = sole t few n f this older todo i others c number own none
