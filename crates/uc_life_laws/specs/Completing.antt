-- Where a constructor ends, who waits for it takes over what it held: its scope opens next, it becomes a part of the object that is being built, or it is
-- one more element of an array that is.
use Rattle.std.specs.Prelude.{◌≡◌, ◌<◌, false, List, [], ◌∷◌}
use Rattle.uc_tree.specs.Source.{Source, Forgets, Frees, Stmts, Scoped, Built}
use Rattle.uc_machine.specs.declared.exec.Exec.{Exec}
use Rattle.uc_machine.specs.Pieces as piece
use Rattle.uc_machine.specs.Pieces.{Value, Todo, Active, State, Env}
use Rattle.uc_machine.specs.Quiet.{MOST_ELEMENTS}
use Rattle.uc_life_laws.specs.Placed.{Placed, placed, stacked, Ends}
use Rattle.uc_life_laws.specs.Outermost.{outermost, outer_elements}
use Rattle.uc_life_laws.specs.Destroying.{Seat, EndsElement, CleansUp}
use Rattle.uc_life_laws.specs.Held.{Soon}

-- parts of the object at hand alone, and the end of the building of a mutex object
abbrev pub AreParts : List Todo → Type 0
AreParts [] = Unit {0}
AreParts (piece.Part c ∷ todo) = AreParts todo
AreParts (piece.Clean (Frees r) ∷ []) = Unit {0}
AreParts (piece.ChildNow r ∷ []) = Unit {0}
AreParts todo = ⊥

module _ (source : Source) (w : Seat) (ps : List Placed) (n : Exec) where
  -- of an activation before these older ones: the scope of this clean-up opens next, or its object becomes a part
  abbrev pub Next : Active → List Active → List Todo → Stmts → Type 0
  Next b older todo (Scoped c rest) = CleansUp source w n b.frame b.this c × Ends ps (placed b.frame b.this todo (stacked older))
  Next b older todo (Built c rest) = CleansUp source w n b.frame b.this c × Ends ps (outermost older)
  Next b older todo ss = ⊥

  -- so it is behind what it waits for, or one more element stands then
  abbrev pub TakesOver : Active → List Active → List Todo → Type 0
  TakesOver b older (piece.DropNow ∷ (piece.Within line ∷ (piece.Rest ss ∷ todo))) = Next b older todo ss
  TakesOver b older (piece.DropNow ∷ (piece.MoreNow ∷ (piece.FillNow m e d ∷ todo))) = (b.elements < MOST_ELEMENTS) ×
      EndsElement source w n b.frame b.this b.elements d × Ends ps (outer_elements b.frame b.this todo (stacked older) (outermost older))
  TakesOver b older todo = ⊥

  abbrev pub AreTaken : List Active → Type 0
  AreTaken [] = ⊥
  AreTaken (b ∷ older) = TakesOver b older b.control

  -- an execution has just been made for the object at hand, which is a part of that from now on
  abbrev pub IsSetUp : Active → List Active → List Todo → Type 0
  IsSetUp a cs (piece.Rest (Built Forgets rest) ∷ todo) = (w.task ≡ false) × (a.this ≡ w.place) × Ends ps (outermost cs)
  IsSetUp a cs todo = ⊥

-- then what a part held is held soon behind it, and so is an execution that has been made
pub record LawCompleting : Type 0 where
  pub parts : (source : Source) (w : Seat) (ps : List Placed) (n : Exec) (a : Active) (cs : List Active) →
      AreParts a.control → AreTaken source w ps n cs → Soon source w ps n a cs
  pub begins : (source : Source) (w : Seat) (ps : List Placed) (n : Exec) (a : Active) (cs : List Active) →
      IsSetUp source w ps n a cs a.control → Soon source w ps n a cs
