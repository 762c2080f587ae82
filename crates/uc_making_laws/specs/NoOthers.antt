-- Nobody else builds or destroys an object that is at home in what is one's own, and at hand of nobody: no activation of another is of it.
use Rattle.std.specs.Prelude.{◌≡◌, ℕ, List, [], ◌∷◌}
use Rattle.uc_machine.specs.declared.exec.Exec.{Exec}
use Rattle.uc_machine.specs.Pieces.{Object, Active}
use Rattle.uc_typing.specs.Typing.{Sig, Table}
use Rattle.uc_life_laws.specs.Things.{Few, Things}
use Rattle.uc_life_laws.specs.Belonging.{Belongs}
use Rattle.uc_apart_laws.specs.Clear.{NotMaking, IsNoHome}
use Rattle.uc_making_laws.specs.OwnThis.{ThisStack}

-- no activation of these is of the object
abbrev pub NoThis : ℕ → List Active → Type 0
NoThis o [] = Unit {0}
NoThis o (a ∷ older) = (a.this ≡ Object o → ⊥) × NoThis o older

-- so it is of activations that have their objects, where the object is no object 0, is not at home in what is the execution's own, and has its home in
-- nothing that the execution has at hand; then they neither build nor destroy it, whatever their frames are taken for
pub record LawNoOthers : Type 0 where
  pub none : (t : Table) (few : Few) (o : ℕ) (n : Exec) (cs : List Active) → ThisStack t few n cs → (o ≡ 0 → ⊥) →
      (Belongs few n (few.home o) → ⊥) → IsNoHome t few o (Things t few n cs) → NoThis o cs
  pub making : (t : Table) (few : Few) (o : ℕ) (gs : List Sig) (cs : List Active) → NoThis o cs → NotMaking t few o gs cs
