-- While an execution is held soon, the marks that were there before its coroutine was built are the outermost ones.
use Rattle.std.proofs.Common.{ℕ, zero, suc, inl, inr, List, [], ◌∷◌}
use Rattle.uc_tree.specs.Source.{Source}
use Rattle.uc_machine.specs.declared.exec.Exec.{Exec}
use Rattle.uc_machine.specs.Pieces as piece
use Rattle.uc_machine.specs.Pieces.{Value, Todo, Sort, Active}
use Rattle.uc_life_laws.specs.Destroying.{Seat}
use Rattle.uc_life_laws.specs.Placed.{Placed, placed, stacked, Ends}
use Rattle.uc_life_laws.specs.Outermost.{outermost}
use Rattle.uc_life_laws.specs.Held.{IsOuter, HeldBy, HeldIn, Held, Soon, GoesNext}
use Rattle.uc_life_laws.specs.HeldLaws.{LawHeld}
use Rattle.uc_life_laws.proofs.Outermost.{more_put, more_placed, elements_ends, outermost_ends}
use Rattle.uc_life_laws.proofs.HeldWalk as walking

module _ (source : Source) (w : Seat) (ps : List Placed) (n : Exec) where
  module _ (f : ℕ) (this : Value) (older : List Active) where
    -- whatever the mark is
    pub outer_ends : (k : Sort) (todo : List Todo) → IsOuter source w ps n f this k todo older → Ends ps (placed f this todo (stacked older))
    outer_ends (piece.IsPart c) todo h = more_placed ps f this todo (stacked older) (outermost_ends ps older h)
    outer_ends (piece.IsFill m b d) todo h = elements_ends ps f this (stacked older) (outermost older) (outermost_ends ps older) todo h
    outer_ends k todo h = h

    by_mark : (e : ℕ) (k : Sort) (todo : List Todo) (R : Type 0) → (R → Ends ps (placed f this todo (stacked older))) → HeldBy source w ps n f this e k todo older R → Ends ps (placed f this todo (stacked older))
    by_mark e (piece.IsClean c) todo R g (inl h) = h.1
    by_mark e (piece.IsClean c) todo R g (inr r) = g r
    by_mark e (piece.IsPart c) todo R g (inl h) = outer_ends (piece.IsPart c) todo h.1
    by_mark e (piece.IsPart c) todo R g (inr r) = g r
    by_mark e piece.Simple todo R g r = g r
    by_mark e (piece.IsLoop x y z q) todo R g r = g r
    by_mark e piece.IsWhole todo R g r = g r
    by_mark e (piece.IsFill x y z) todo R g (inl h) = outer_ends (piece.IsFill x y z) todo h.1
    by_mark e (piece.IsFill x y z) todo R g (inr r) = g r
    by_mark e (piece.IsSweep x) todo R g (inl h) = h.1
    by_mark e (piece.IsSweep x) todo R g (inr r) = g r
    by_mark e (piece.IsGuard x) todo R g r = g r
    by_mark e piece.IsFinish todo R g r = g r
    by_mark e piece.IsFinishCoroutine todo R g r = g r

    in_list : (e : ℕ) (R : Type 0) (todo : List Todo) → (R → Ends ps (stacked older)) → HeldIn source w ps n f this e older R todo → Ends ps (placed f this todo (stacked older))
    in_list e R [] g h = g h
    in_list e R (piece.CountNow m ∷ (piece.FillNow k b d ∷ todo)) g h = in_list e R todo g h
    in_list e R (p ∷ todo) g h =
        more_put ps (piece.sort p) f this (placed f this todo (stacked older)) (by_mark e (piece.sort p) todo (HeldIn source w ps n f this e older R todo) (in_list e R todo g) h)

  pub held_ends : (cs : List Active) → Held source w ps n cs → Ends ps (stacked cs)
  held_ends [] h = absurd h
  held_ends (c ∷ older) h = in_list c.frame c.this older c.elements (Held source w ps n older) c.control (held_ends older) h

  pub soon_ends : (a : Active) (cs : List Active) → Soon source w ps n a cs → Ends ps (stacked (a ∷ cs))
  soon_ends a cs (zero, h) = held_ends (a ∷ cs) h
  soon_ends a cs (suc k, h) = h.1

  pub next_ends : (l : List Todo) (a : Active) (cs : List Active) → GoesNext source w ps n l a cs → Ends ps (stacked (a ∷ cs))
  next_ends [] a cs h = absurd h
  next_ends (piece.GoneNow ∷ todo) a cs h = h.2
  next_ends (p ∷ todo) a cs h = absurd h

pub law_held : LawHeld
law_held = record {
  steps = λ source seats up s h o. walking.walk source seats up s h o;
  told = λ source seats up form given s i h. walking.answered_there source seats up form s h given i;
  goes_on = λ source seats up s h. walking.rested source seats up s h;
  stays = λ source w ps n a cs h. soon_ends source w ps n a cs h;
}
