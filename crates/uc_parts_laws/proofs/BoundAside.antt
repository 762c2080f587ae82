-- What is bound lies aside of elements of arrays that are being destroyed: those are own cells of mutex objects.
use Rattle.std.proofs.Common.{◌≡◌, ℕ, ◌<◌, Bool, true, false, List, [], ◌∷◌, length, Some, refl, sym, subst, arith}
use Rattle.uc_tree.specs.Source as src
use Rattle.uc_tree.specs.Source.{Shape, Binding, Expr, ObjectExpr}
use Rattle.uc_machine.specs.declared.exec.Exec.{Exec}
use Rattle.uc_machine.specs.declared.exec.Owner.TheVariants.{Frame, Fields}
use Rattle.uc_machine.specs.Executions.{at_depth}
use Rattle.uc_machine.specs.Pieces as piece
use Rattle.uc_machine.specs.Pieces.{LAST_ADDRESS, Link, Slot, At, Value, Number, Place, Running, Object, Nothing, Todo, Active, State, address, at, top, below}
use Rattle.uc_typing.specs.Typing.{Cell, Obj, Row}
use Rattle.uc_name_laws.proofs.Homes.{same_exec}
use Rattle.uc_life_laws.specs.Belonging.{Belongs, frame}
use Rattle.uc_life_laws.specs.HomedStates.{Inside, all_of_it, own_element}
use Rattle.uc_cell_laws.specs.Sites.{Telling, HasPlace}
use Rattle.uc_cell_laws.specs.CellTodos.{Mark, Any, rest, Holds, FirstBound, CodeExpr, Ok, Left}
use Rattle.uc_cell_laws.specs.CellStates.{IsOwnCell, IsFree, IsOf, AllWait, CellState, Fits}
use Rattle.uc_cell_laws.specs.OwnCells.{telling_of}
use Rattle.uc_cell_laws.proofs.CellPlaces.{MayWrite, fits_bound}
use Rattle.uc_cell_laws.proofs.CellMarks.{left, left_tail}
use Rattle.uc_cell_laws.proofs.OwnCells.{may_write}
use Rattle.uc_parts_laws.specs.Standing.{array_of, NotIn, Aside, AllAside, IsAside}
use Rattle.uc_parts_laws.specs.BoundAside.{BindsAsideAt, LawBoundAside}

module _ (g : Telling) (r : ℕ) where
  -- in a list that is code of the routine each array that is being destroyed is so
  module _ (x : ℕ) (one : (e : Expr) → CodeExpr g r e → NotIn x (array_of e)) where
    aside : (todo : List Todo) → Left g r todo → Aside x todo
    aside [] h = tt
    aside (piece.Sweep e ∷ todo) h = (one e h.0, aside todo (left_tail g r (piece.Sweep e) todo h))
    aside (p ∷ todo) h = aside todo (left_tail g r p todo h)

  -- its elements are own cells of mutex objects
  module _ (n : Exec) (d x : ℕ) (free : (l : List Link) (c : ℕ) → IsOwnCell g r (Frame n d) l c → address l ≡ x → ⊥) where
    element : (m k c : ℕ) (s : Shape) → g.table.mutex c ≡ true → HasPlace g r (src.Element m s (src.Variable k) (src.OfObject src.Counted)) (Cell (Obj c)) → (j : ℕ) → j < m → address (At s j ∷ (Slot k ∷ [])) ≡ x → ⊥
    element m k c s mutex h j l e =
        free (At s j ∷ (Slot k ∷ [])) c (
          mutex,
          record {
            clean = h.1.0;
            scope = h.1.1;
            cell = k;
            type = Row m (Cell (Obj c));
            cleans = h.1.2;
            inside = subst (λ z. Inside g.table g.owns (Place (Frame n d) (Slot k ∷ [])) (Row m (Cell (Obj c))) (Place (Frame n d) (At z j ∷ (Slot k ∷ []))) (Cell (Obj c))) (sym h.0) (own_element all_of_it j l);
          },
        ) e

    of_count : (q m k : ℕ) (written : Bool) (s : Shape) (o : ObjectExpr) → CodeExpr g r (src.OfObject (src.EndOn q written (src.Load (src.Element m s (src.Variable k) (src.OfObject o))))) → NotIn x (array_of (src.OfObject (src.EndOn q written (src.Load (src.Element m s (src.Variable k) (src.OfObject o))))))
    of_count q m k written s src.Counted h = let y = h.1.0 in element m k y.0 s y.2 y.3
    of_count q m k written s o h = tt

    of_index : (q m k : ℕ) (written : Bool) (s : Shape) (i : Expr) → CodeExpr g r (src.OfObject (src.EndOn q written (src.Load (src.Element m s (src.Variable k) i)))) → NotIn x (array_of (src.OfObject (src.EndOn q written (src.Load (src.Element m s (src.Variable k) i)))))
    of_index q m k written s (src.OfObject o) h = of_count q m k written s o h
    of_index q m k written s i h = tt

    of_base : (q m : ℕ) (written : Bool) (s : Shape) (b i : Expr) → CodeExpr g r (src.OfObject (src.EndOn q written (src.Load (src.Element m s b i)))) → NotIn x (array_of (src.OfObject (src.EndOn q written (src.Load (src.Element m s b i)))))
    of_base q m written s (src.Variable k) i h = of_index q m k written s i h
    of_base q m written s b i h = tt

    of_place : (q : ℕ) (written : Bool) (e : Expr) → CodeExpr g r (src.OfObject (src.EndOn q written (src.Load e))) → NotIn x (array_of (src.OfObject (src.EndOn q written (src.Load e))))
    of_place q written (src.Element m s b i) h = of_base q m written s b i h
    of_place q written e h = tt

    of_load : (q : ℕ) (written : Bool) (e : Expr) → CodeExpr g r (src.OfObject (src.EndOn q written e)) → NotIn x (array_of (src.OfObject (src.EndOn q written e)))
    of_load q written (src.Load e) h = of_place q written e h
    of_load q written e h = tt

    of_object : (o : ObjectExpr) → CodeExpr g r (src.OfObject o) → NotIn x (array_of (src.OfObject o))
    of_object (src.EndOn q written e) h = of_load q written e h
    of_object o h = tt

    of_code : (e : Expr) → CodeExpr g r e → NotIn x (array_of e)
    of_code (src.OfObject o) h = of_object o h
    of_code e h = tt

    list_aside : (todo : List Todo) → Left g r todo → Aside x todo
    list_aside todo h = aside x of_code todo h

module _ (g : Telling) (may : MayWrite g) (nobodys : (n : Exec) → Belongs g.few n (g.few.home 0) → ⊥) (s : State) (h : CellState g s) where
  abbrev rs : List ℕ
  rs = h.routines

  -- where what no mutex object is may be written, no own cell of one is
  module _ (d x : ℕ) (fits : (r : ℕ) → at_depth rs d ≡ Some r → (l : List Link) (c : ℕ) → IsOwnCell g r (Frame s.env.exec d) l c → address l < LAST_ADDRESS → address l ≡ x → IsFree g (Place (Frame s.env.exec d) l) c (Object 0)) where
    none : (r : ℕ) → at_depth rs d ≡ Some r → (l : List Link) (c : ℕ) → IsOwnCell g r (Frame s.env.exec d) l c → address l ≡ x → ⊥
    none r i l c own e =
        let f = fits r i l c own (may.low r (Frame s.env.exec d) l c own) e in
        nobodys s.env.exec (subst (Belongs g.few s.env.exec) (sym (f 0 refl).0) (frame refl))

    active : (given : List Mark) (level : ℕ) (a : Active) (todo : List Todo) → (k : IsOf g s.env.exec given rs level a) → Left g k.routine todo → a.frame ≡ d → Aside x todo
    active given level a todo k l e =
        list_aside g k.routine s.env.exec d x (none k.routine (subst (λ f. at_depth rs f ≡ Some k.routine) e k.frame)) todo l

    waiting : (cs : List Active) → AllWait g s.env.exec rs cs → AllAside d x cs
    waiting [] w = tt
    waiting (a ∷ older) w = ((λ e. active (Any ∷ []) (length older) a a.control w.0 (left g w.0.routine (Any ∷ w.0.marks) a.control w.0.ok) e), waiting older w.1)

  abbrev H : List Mark → List Value → Type 0
  H ns vs = Holds g h.run.routine (record { exec = s.env.exec; frame = s.run.frame; this = s.run.this }) ns vs

  fits : (ms : List Mark) → Holds g h.run.routine (record { exec = s.env.exec; frame = s.run.frame; this = s.run.this }) ms s.run.operands → FirstBound g.table (rest ms) → Fits g rs (top (below s.run.operands)) (Object 0) s.env
  fits ms holds f =
      fits_bound g may s.env rs (length s.env.frames) h.run.routine s.run.frame (length s.callers) s.run.this (let low = h.run.low in let l = h.frames in omega (arith, low, l)) (let l = h.frames in omega (arith, l)) h.run.frame h.run.this (rest ms) (top (below s.run.operands)) (Object 0) (below (below s.run.operands)) f (spread (rest ms) (below s.run.operands) (under ms holds))
    where
      under : (ns : List Mark) → H ns s.run.operands → H (rest ns) (below s.run.operands)
      under [] k = tt
      under (m ∷ ns) k = k.1

      spread : (ns : List Mark) (vs : List Value) → H ns vs → H ns (top vs ∷ below vs)
      spread [] vs k = tt
      spread (m ∷ ns) vs k = k

  binds : (todo : List Todo) → s.run.control ≡ piece.BindNow ∷ todo → IsAside (at todo s.run.operands s) (top (below s.run.operands))
  binds todo e =
      let k : Ok g h.run.routine h.run.marks (piece.BindNow ∷ todo) = subst (Ok g h.run.routine h.run.marks) e h.run.ok in
      by (top (below s.run.operands)) (fits h.run.marks h.run.holds k.0) (left g h.run.routine (Any ∷ rest (rest h.run.marks)) todo k.1)
    where
      by : (v : Value) → Fits g rs v (Object 0) s.env → Left g h.run.routine todo → IsAside (at todo s.run.operands s) v
      by (Place (Frame m d) p) f l =
          (same_exec m s.env.exec f.0, (λ i. active d (address p) f.1 [] (length s.callers) s.run todo h.run l i, waiting d (address p) f.1 s.callers h.callers))
      by (Place (Fields o) p) f l = tt
      by (Number z) f l = tt
      by (Running x) f l = tt
      by (Object o) f l = tt
      by Nothing f l = tt

  on : (l : List Todo) → s.run.control ≡ l → BindsAsideAt l s
  on (piece.BindNow ∷ todo) e = binds todo e
  on l e = tt

pub law_bound_aside : LawBoundAside
law_bound_aside p formed accepted within few nobodys class s h =
    on (telling_of p few class) (may_write p formed accepted few class false within) nobodys s h s.run.control refl
