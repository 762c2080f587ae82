-- Marks outwards of all that is under construction are outermost ones of all marks.
use Rattle.std.proofs.Common.{ℕ, List, [], ◌∷◌}
use Rattle.uc_tree.specs.Source as src
use Rattle.uc_tree.specs.Source.{Stmts}
use Rattle.uc_machine.specs.Pieces as piece
use Rattle.uc_machine.specs.Pieces.{Value, Todo, Sort, Active}
use Rattle.uc_life_laws.specs.Placed.{Placed, put, placed, stacked, Ends, all, behind}
use Rattle.uc_life_laws.specs.Outermost.{outer_elements, outer_by, outermost}

module _ (ps : List Placed) where
  pub more_put : (k : Sort) (f : ℕ) (this : Value) (qs : List Placed) → Ends ps qs → Ends ps (put k f this qs)
  more_put (piece.IsClean c) f this qs h = behind h
  more_put (piece.IsPart c) f this qs h = behind h
  more_put piece.Simple f this qs h = h
  more_put (piece.IsLoop x y z q) f this qs h = h
  more_put piece.IsWhole f this qs h = h
  more_put (piece.IsFill x y z) f this qs h = h
  more_put (piece.IsSweep x) f this qs h = h
  more_put (piece.IsGuard x) f this qs h = h
  more_put piece.IsFinish f this qs h = h
  more_put piece.IsFinishCoroutine f this qs h = h

  pub more_placed : (f : ℕ) (this : Value) (todo : List Todo) (qs : List Placed) → Ends ps qs → Ends ps (placed f this todo qs)
  more_placed f this [] qs h = h
  more_placed f this (p ∷ todo) qs h = more_put (piece.sort p) f this (placed f this todo qs) (more_placed f this todo qs h)

  module _ (f : ℕ) (this : Value) (qs os : List Placed) (out : Ends ps os → Ends ps qs) where
    elements_rest : (ss : Stmts) (line : ℕ) (todo : List Todo) → Ends ps (outer_elements f this (piece.Within line ∷ (piece.Rest ss ∷ todo)) qs os) → Ends ps (placed f this todo qs)
    elements_rest (src.Built c rest) line todo h = more_placed f this todo qs (out h)
    elements_rest (src.Scoped c rest) line todo h = h
    elements_rest (src.Then a rest) line todo h = h
    elements_rest src.Nil line todo h = h

    pub elements_ends : (todo : List Todo) → Ends ps (outer_elements f this todo qs os) → Ends ps (placed f this todo qs)
    elements_ends (piece.Within line ∷ (piece.Rest ss ∷ todo)) h = elements_rest ss line todo h
    elements_ends todo h = h

    by_rest : (ss : Stmts) (line : ℕ) (todo : List Todo) → Ends ps (outer_by f this (piece.DropNow ∷ (piece.Within line ∷ (piece.Rest ss ∷ todo))) qs os) → Ends ps (placed f this todo qs)
    by_rest (src.Built c rest) line todo h = more_placed f this todo qs (out h)
    by_rest (src.Scoped c rest) line todo h = h
    by_rest (src.Then a rest) line todo h = h
    by_rest src.Nil line todo h = h

    by_ends : (todo : List Todo) → Ends ps (outer_by f this todo qs os) → Ends ps (placed f this todo qs)
    by_ends (piece.DropNow ∷ (piece.Within line ∷ (piece.Rest ss ∷ todo))) h = by_rest ss line todo h
    by_ends (piece.DropNow ∷ (piece.MoreNow ∷ (piece.FillNow m b d ∷ todo))) h = elements_ends todo h
    by_ends todo h = h

  pub outermost_ends : (cs : List Active) → Ends ps (outermost cs) → Ends ps (stacked cs)
  outermost_ends [] h = h
  outermost_ends (a ∷ older) h = by_ends a.frame a.this (stacked older) (outermost older) (outermost_ends older) a.control h
