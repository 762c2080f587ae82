-- Who waits for a constructor takes over what that held as it ends.
use Rattle.std.proofs.Common.{ℕ, suc, ◌<◌, ◌+◌, inl, List, [], ◌∷◌, Some, None, refl, arith}
use Rattle.std.specs.Prelude.{min}
use Rattle.uc_tree.specs.Source as src
use Rattle.uc_tree.specs.Source.{Source, Stmts}
use Rattle.uc_machine.specs.declared.exec.Exec.{Exec}
use Rattle.uc_machine.specs.Pieces as piece
use Rattle.uc_machine.specs.Pieces.{Value, Todo, Active, Env}
use Rattle.uc_machine.specs.Quiet.{MOST_ELEMENTS}
use Rattle.uc_life_laws.specs.Placed.{Placed, placed, stacked, Ends, behind}
use Rattle.uc_life_laws.specs.Outermost.{outermost, outer_elements}
use Rattle.uc_machine.specs.Insides as inside
use Rattle.uc_life_laws.proofs.Cells.{either}
use Rattle.uc_life_laws.proofs.Outermost.{more_placed, elements_ends, outermost_ends}
use Rattle.uc_life_laws.specs.Destroying.{Seat}
use Rattle.uc_life_laws.specs.Held.{Opens, WaitsBy, Onwards, SoonIn, Soon}
use Rattle.uc_life_laws.specs.Completing.{AreParts, Next, TakesOver, AreTaken, IsSetUp, LawCompleting}

module _ (source : Source) (w : Seat) (ps : List Placed) (n : Exec) where
  one_more : (e : ℕ) → e < MOST_ELEMENTS → e < min (e + 1) MOST_ELEMENTS
  one_more e l = omega (arith, l)

  -- marks that are there behind what is waited for
  next_ends : (b : Active) (older : List Active) (todo : List Todo) (ss : Stmts) → Next source w ps n b older todo ss → Ends ps (placed b.frame b.this todo (stacked older))
  next_ends b older todo (src.Scoped c rest) h = h.1
  next_ends b older todo (src.Built c rest) h = more_placed ps b.frame b.this todo (stacked older) (outermost_ends ps older h.1)
  next_ends b older todo ss h = absurd h

  elements : (b : Active) (older : List Active) (todo : List Todo) → Ends ps (outer_elements b.frame b.this todo (stacked older) (outermost older)) → Ends ps (placed b.frame b.this todo (stacked older))
  elements b older todo h = elements_ends ps b.frame b.this (stacked older) (outermost older) (outermost_ends ps older) todo h

  -- the statements that are left
  next : (b : Active) (older : List Active) (todo : List Todo) (ss : Stmts) (vs : List Value) → Next source w ps n b older todo ss → SoonIn source w ps n 1 (record b { control = piece.Rest ss ∷ todo; operands = vs }) older
  next b older todo (src.Scoped c rest) vs h = (tt, next_ends b older todo (src.Scoped c rest) h, λ e q. (q, inl h))
  next b older todo (src.Built c rest) vs h = (tt, next_ends b older todo (src.Built c rest) h, λ e q. (q, inl h))
  next b older todo ss vs h = absurd h

  -- with any operands, one of which is dropped
  record Taken (b : Active) (older : List Active) (l : List Todo) : Type 0 where
    many : ℕ
    waits : WaitsBy source w ps n b.frame b.this b.elements l
    ends : Ends ps (placed b.frame b.this l (stacked older))
    soon : (vs : List Value) → SoonIn source w ps n many (record b { control = l; operands = vs }) older

  -- the scope opens next, or it becomes a part
  opens_next : (b : Active) (older : List Active) (todo : List Todo) (ss : Stmts) → Next source w ps n b older todo ss → Opens source w ps n b.frame b.this ss
  opens_next b older todo (src.Scoped c rest) h = h.0
  opens_next b older todo (src.Built c rest) h = h.0
  opens_next b older todo ss h = absurd h

  taken : (b : Active) (older : List Active) (l : List Todo) → TakesOver source w ps n b older l → Taken b older l
  taken b older (piece.DropNow ∷ (piece.Within line ∷ (piece.Rest ss ∷ todo))) h =
      let o = next_ends b older todo ss h in
      record { many = 3; waits = opens_next b older todo ss h; ends = o; soon = λ vs. (tt, o, λ e q. (q, (tt, o, λ e q. (q, next b older todo ss (piece.below vs) h)))) }
  taken b older (piece.DropNow ∷ (piece.MoreNow ∷ (piece.FillNow m e d ∷ todo))) h = record {
    many = 2;
    waits = h.1;
    ends = elements b older todo h.2;
    soon = λ vs. (tt, elements b older todo h.2, λ v q. (q, (tt, elements b older todo h.2, λ v q. (q, inl ((b.elements, one_more b.elements h.0, h.1), h.2)))));
  }
  taken b older l h = absurd h

  -- behind the end of an activation
  module _ (a b : Active) (older : List Active) (h : Taken b older b.control) where
    parts_ends : (l : List Todo) → AreParts l → Ends ps (placed a.frame a.this l (stacked (b ∷ older)))
    parts_ends [] p = h.ends
    parts_ends (piece.Part c ∷ todo) p = behind (parts_ends todo p)
    parts_ends (piece.Clean (src.Frees r) ∷ []) p = behind h.ends
    parts_ends (piece.ChildNow r ∷ []) p = h.ends
    parts_ends l p = absurd p

    -- the activation ends
    ending : SoonIn source w ps n (suc h.many) (record a { control = [] }) (b ∷ older)
    ending = (h.waits, h.ends, λ e q. (q, h.soon (piece.nought ∷ b.operands)))

    -- a mutex object has been built, and its task begins
    built : SoonIn source w ps n (suc (suc h.many)) (record a { control = piece.MadeNow ∷ [] }) (b ∷ older)
    built = (tt, h.ends, λ e q. either (Onwards source w ps n (λ u. SoonIn source w ps n (suc h.many) u.run u.callers) (SoonIn source w ps n (suc h.many))) (inside.is_held_up (piece.object_in a.this) e) _ _ tt (refl, q, ending))

    child : (r : ℕ) → SoonIn source w ps n (suc (suc h.many)) (record a { control = piece.ChildNow r ∷ [] }) (b ∷ older)
    child r = (tt, h.ends, λ e q. (q, ending))

    spawned : (r : ℕ) → SoonIn source w ps n (suc (suc (suc h.many))) (record a { control = piece.SpawnNow r ∷ [] }) (b ∷ older)
    spawned r = (tt, h.ends, λ e q. either (Onwards source w ps n (λ u. SoonIn source w ps n (suc (suc h.many)) u.run u.callers) (SoonIn source w ps n (suc (suc h.many)))) (inside.is_held_up (piece.object_in a.this) e) _ _ tt (refl, q, child r))

    left : (l : List Todo) → AreParts l → Soon source w ps n (record a { control = l }) (b ∷ older)
    left [] p = (suc h.many, ending)
    left (piece.Part c ∷ todo) p =
        let x = left todo p in
        (suc x.0, (tt, behind (parts_ends todo p), λ e q. (q, x.1)))
    left (piece.Clean (src.Frees None) ∷ []) p = (suc (suc (suc h.many)), (tt, behind h.ends, λ e q. (q, built)))
    left (piece.Clean (src.Frees (Some r)) ∷ []) p = (suc (suc (suc (suc h.many))), (tt, behind h.ends, λ e q. (q, spawned r)))
    left (piece.ChildNow r ∷ []) p = (suc (suc h.many), child r)
    left l p = absurd p

  pub parts : (a : Active) (cs : List Active) → AreParts a.control → AreTaken source w ps n cs → Soon source w ps n a cs
  parts a [] p h = absurd h
  parts a (b ∷ older) p h = left a b older (taken b older b.control h) a.control p

  begun : (a : Active) (cs : List Active) (l : List Todo) → IsSetUp source w ps n a cs l → SoonIn source w ps n 1 (record a { control = l }) cs
  begun a cs (piece.Rest (src.Built src.Forgets rest) ∷ todo) h = (tt, more_placed ps a.frame a.this todo (stacked cs) (outermost_ends ps cs h.2), λ e q. (q, inl ((h.0, h.1), h.2)))
  begun a cs l h = absurd h

pub law_completing : LawCompleting
law_completing = record {
  parts = λ source w ps n a cs p h. parts source w ps n a cs p h;
  begins = λ source w ps n a cs h. (1, begun source w ps n a cs a.control h);
}
