-- Who destroys the elements of an array names its variable, and older activations build and destroy nothing in what it names.
use Rattle.std.proofs.Common.{ℕ, ◌≤◌, inl, inr, Bool, List, [], ◌∷◌, Option, Some, None, arith}
use Rattle.uc_tree.specs.Source as src
use Rattle.uc_tree.specs.Source.{Shape, Expr, ObjectExpr}
use Rattle.uc_machine.specs.declared.exec.Exec.{Exec}
use Rattle.uc_machine.specs.Pieces as piece
use Rattle.uc_machine.specs.Pieces.{Todo, Active}
use Rattle.uc_place_laws.specs.OlderResting.{AllWait}
use Rattle.uc_putting_laws.specs.Calling.{SweepsBy}
use Rattle.uc_putting_laws.specs.CleanedSpots.{Site, Reach}
use Rattle.uc_putting_laws.specs.Putting.{Setting, around, Mark, anys, Ok, SeatAt, Finds, Runs, Waits}
use Rattle.uc_parts_laws.specs.Standing.{array_of}
use Rattle.uc_parts_laws.specs.LoneSweeps.{OfArray, SweepsNext, BuildsNoneAt, SweepsAlone, LawLoneSweeps}

module _ (g : Setting) (r : Reach) (P : Site → Type 0) where
  abbrev Sweeps : Expr → Type 0
  Sweeps e = SweepsBy g.table g.source g.special r P e

  -- what is named is so from the first variable on
  abbrev Low : Expr → Type 0
  Low e = OfArray (λ k. r.low ≤ k) (array_of e)

  by_shape : (q m k : ℕ) (written : Bool) (s : Shape) → Sweeps (src.OfObject (src.EndOn q written (src.Load (src.Element m s (src.Variable k) (src.OfObject src.Counted))))) → r.low ≤ k
  by_shape q m k written src.Binding (inl h) = absurd h
  by_shape q m k written src.Binding (inr (inl h)) = absurd h
  by_shape q m k written src.Binding (inr (inr h)) = h.1
  by_shape q m k written s (inl h) = absurd h
  by_shape q m k written s (inr (inl h)) = absurd h
  by_shape q m k written s (inr (inr h)) = absurd h

  by_count : (q m k : ℕ) (written : Bool) (s : Shape) (o : ObjectExpr) → Sweeps (src.OfObject (src.EndOn q written (src.Load (src.Element m s (src.Variable k) (src.OfObject o))))) → Low (src.OfObject (src.EndOn q written (src.Load (src.Element m s (src.Variable k) (src.OfObject o)))))
  by_count q m k written s src.Counted h = by_shape q m k written s h
  by_count q m k written s o h = tt

  by_index : (q m k : ℕ) (written : Bool) (s : Shape) (i : Expr) → Sweeps (src.OfObject (src.EndOn q written (src.Load (src.Element m s (src.Variable k) i)))) → Low (src.OfObject (src.EndOn q written (src.Load (src.Element m s (src.Variable k) i))))
  by_index q m k written s (src.OfObject o) h = by_count q m k written s o h
  by_index q m k written s i h = tt

  by_base : (q m : ℕ) (written : Bool) (s : Shape) (b i : Expr) → Sweeps (src.OfObject (src.EndOn q written (src.Load (src.Element m s b i)))) → Low (src.OfObject (src.EndOn q written (src.Load (src.Element m s b i))))
  by_base q m written s (src.Variable k) i h = by_index q m k written s i h
  by_base q m written s b i h = tt

  by_place : (q : ℕ) (written : Bool) (e : Expr) → Sweeps (src.OfObject (src.EndOn q written (src.Load e))) → Low (src.OfObject (src.EndOn q written (src.Load e)))
  by_place q written (src.Element m s b i) h = by_base q m written s b i h
  by_place q written e h = tt

  by_load : (q : ℕ) (written : Bool) (e : Expr) → Sweeps (src.OfObject (src.EndOn q written e)) → Low (src.OfObject (src.EndOn q written e))
  by_load q written (src.Load e) h = by_place q written e h
  by_load q written e h = tt

  by_object : (o : ObjectExpr) → Sweeps (src.OfObject o) → Low (src.OfObject o)
  by_object (src.EndOn q written e) h = by_load q written e h
  by_object o h = tt

  low_of : (e : Expr) → Sweeps e → Low e
  low_of (src.OfObject o) h = by_object o h
  low_of e h = tt

module _ (g : Setting) (n : Exec) (older : List Active) (a : Active) (many : ℕ) (x : Finds g many n older a) where
  none_at : (a1 : Option (Shape × ℕ × ℕ)) → OfArray (λ k. x.made.low ≤ k) a1 → OfArray (λ k. BuildsNoneAt g.few n older a.frame k) a1
  none_at None h = tt
  none_at (Some y) h = λ o b l. let below = x.this.built o b y.1 l in let n1 : ⊥ = omega (arith, below, h) in absurd n1

  by_list : (ms : List Mark) (l : List Todo) → Ok g (around n a older) x.made ms l → SweepsNext (λ k. BuildsNoneAt g.few n older a.frame k) l
  by_list ms (piece.Sweep e ∷ todo) h = none_at (array_of e) (low_of g x.made (SeatAt g (around n a older) x.made todo) e h.0.1)
  by_list ms (piece.DropNow ∷ (piece.Sweep e ∷ todo)) h = none_at (array_of e) (low_of g x.made (SeatAt g (around n a older) x.made todo) e h.1.0.1)
  by_list ms l h = tt

  alone : SweepsNext (λ k. BuildsNoneAt g.few n older a.frame k) a.control
  alone = by_list (anys many x.marks) a.control x.ok

module _ (g : Setting) (n : Exec) where
  all_alone : (cs : List Active) → AllWait (Runs g) (Waits g) n cs → SweepsAlone g.few n cs
  all_alone [] h = tt
  all_alone (a ∷ older) h = (alone g n older a 1 h.0, all_alone older h.1)

pub law_lone_sweeps : LawLoneSweeps
law_lone_sweeps g s h = (alone g s.env.exec s.callers s.run 0 h.run, all_alone g s.env.exec s.callers h.callers)
