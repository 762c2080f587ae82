-- What is an execution's own does not stand in what it has of others.
use Rattle.std.proofs.Common.{ℕ, inl, inr, List, ⊎_elim}
use Rattle.uc_machine.specs.declared.exec.Exec.{Exec}
use Rattle.uc_machine.specs.declared.exec.Owner.TheVariants.{Frame, Fields}
use Rattle.uc_machine.specs.Pieces.{Link, Value, Number, Place, Running, Object, Nothing, further, Active}
use Rattle.uc_typing.specs.Typing.{Ty, Cell, Obj, Raw, Row, Table}
use Rattle.uc_life_laws.specs.Things.{Few, Within, itself, field, element, Base, Things, Stands, lies, inside}
use Rattle.uc_life_laws.specs.Belonging.{Belongs, frame, fields, object}
use Rattle.uc_life_laws.specs.Marks.{Marked, Free}
use Rattle.uc_apart_laws.specs.Clear.{HomeAt, IsNoHome}
use Rattle.uc_apart_laws.specs.Own.{IsOfOthers, LawOwn}
use Rattle.uc_apart_laws.proofs.Clear.{home_split}

module _ (t : Table) (few : Few) (n : Exec) where
  -- what is further in is no other's
  nearer_own : (l : Link) (v : Value) → Belongs few n (further l v) → Belongs few n v
  nearer_own l (Place (Frame x d) p) (frame e) = frame e
  nearer_own l (Place (Fields o) p) (fields h) = fields h
  nearer_own l (Object o) (fields h) = object h
  nearer_own l (Number z) h = elim h [ ]
  nearer_own l (Running x) h = elim h [ ]
  nearer_own l Nothing h = elim h [ ]

  around_own : (w : Value) (a : Ty) (v : Value) (b : Ty) → Belongs few n v → Within t w a v b → Belongs few n w
  around_own w a v b h itself = h
  around_own w a v b h (field {v = x} {c} k i f) = around_own w a x (Obj c) (nearer_own _ x h) k
  around_own w a v b h (element {v = x} {m} {b = e} k j l) = around_own w a x (Row m e) (nearer_own _ x h) k

  object_own : (o : ℕ) → Belongs few n (Object o) → Belongs few n (few.home o)
  object_own o (object h) = h

  module _ (others : IsOfOthers few n) where
    none_stands : (b : Ty) (v : Value) → Belongs few n v → Stands t few (Base few n) b v → ⊥
    none_stands b v h (lies {w = w} {a} k i) = others w a k (around_own w a v b h i)
    none_stands b v h (inside {o = o} {c} m k i) =
        none_stands (Cell (Obj c)) (few.home o) (object_own o (around_own (Object o) (Obj c) v b h i)) k

    no_base : (o : ℕ) → Belongs few n (few.home o) → (c : ℕ) → HomeAt t few o (Base few n) c → ⊥
    no_base o h c (inl s) = none_stands (Cell (Obj c)) (few.home o) h s
    no_base o h c (inr k) = others (Object o) (Raw c) k (object h)

    no_home : (o : ℕ) (cs : List Active) → Belongs few n (few.home o) → Free t few o (Marked t n cs) → IsNoHome t few o (Things t few n cs)
    no_home o cs h f c k = ⊎_elim (λ y. f c y) (λ y. no_base o h c y) (home_split t few o n cs c k)

pub law_own : LawOwn
law_own t few o n cs others h f = no_home t few n others o cs h f
