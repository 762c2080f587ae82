-- What is left to show of a binding that is read: that it lies in what is at hand, but where that is told, or in scope.
use Rattle.std.specs.Prelude.{◌≡◌, ◌⊎◌, ℕ, ◌&&◌, Bool, true, false, not, nat_eq, List, [], ◌∷◌, Option, Some, None}
use Rattle.uc_machine.specs.declared.exec.Owner.TheVariants.{Frame, Fields}
use Rattle.uc_machine.specs.Executions.{exec_eq}
use Rattle.uc_machine.specs.Pieces.{Link, Slot, FieldAt, At, Value, Place, Object, State}
use Rattle.uc_typing.specs.Typing.{Ty, Obj, Raw, Sig, Table}
use Rattle.uc_typing.specs.States.{Is}
use Rattle.uc_life_laws.specs.Things.{Few, IsTracked, IsMutex, IsFew, LiesIn}
use Rattle.uc_life_laws.specs.Knowing.{Here}
use Rattle.uc_building_laws.specs.ScopedReads.{cell_of, is_bound, field_type, element_type, is_type, stack_has}
use Rattle.uc_lasting_programs.specs.Lent.{is_anothers}
use Rattle.uc_lasting_programs.specs.OfOthers.{IsHad}

module _ (t : Table) (few : Few) (s : State) where
  -- at this value, what is of this type lies in a variable in scope of the running execution
  abbrev pub in_scope : Ty → Value → Bool
  in_scope b (Place (Frame n d) p) = exec_eq n s.env.exec && stack_has t b p d (s.run ∷ s.callers)
  in_scope b v = false

  -- a plain object does, and of a mutex object the cell in which it is at home
  abbrev pub object_in_scope : Bool → ℕ → Value → Bool
  object_in_scope true c (Object o) = in_scope (cell_of c) (few.home o)
  object_in_scope true c v = false
  object_in_scope false c v = in_scope (Obj c) v

-- what a path leads to in an object of a class
abbrev pub object_path : Table → ℕ → List Link → Option Ty
object_path t c [] = Some (Obj c)
object_path t c (Slot k ∷ p) = None
object_path t c (FieldAt s i ∷ p) = field_type t s i (object_path t c p)
object_path t c (At s j ∷ p) = element_type t s j (object_path t c p)

module _ (t : Table) (few : Few) (g : Sig) (s : State) where
  -- a mutex object is at home in the object at hand, one of a mutex class that is whole
  abbrev pub at_home_in : ℕ → Option ℕ → Value → Value → Bool
  at_home_in c (Some d) (Object q) (Place (Fields o) p) = nat_eq o q && (t.mutex d && is_type t (cell_of c) (object_path t d p))
  at_home_in c d v w = false

  abbrev pub home_in_this : ℕ → Value → Bool
  home_in_this c (Object o) = not g.whole && (t.mutex c && at_home_in c g.this s.run.this (few.home o))
  home_in_this c v = false

module _ (t : Table) (few : Few) (gs : List Sig) (g : Sig) (s : State) where
  -- a value lies in what the running execution has at hand, where what is of its type is to
  pub record LiesAtHand (a : Ty) (v : Value) : Type 0 where
    pub rooted : IsTracked t a → LiesIn t few s.env.exec (Here t few gs s) a v
    pub held : IsMutex t a → LiesIn t few s.env.exec (Here t few gs s) a v

  -- of what is in scope nothing is to be shown, of a mutex object that is at home in the object at hand only where that is being built or destroyed; a plain object
  -- that is another's is had
  abbrev pub LiesElsewhere : (scoped own : Bool) → ℕ → Value → Type 0
  LiesElsewhere true own c v = Unit {0}
  LiesElsewhere false true c v = (d : ℕ) → Here t few gs s s.run.this (Raw d) → LiesAtHand (Obj c) v
  LiesElsewhere false false c v = LiesAtHand (Obj c) v ⊎ IsHad t s.env.exec (Obj c) v

  -- of what is no object the place is of no matter
  -- nor of one that is another's: what is read is had of others
  abbrev pub UnlessAnothers : Bool → Type 0 → Type 0
  UnlessAnothers true lies = Unit {0}
  UnlessAnothers false lies = lies

  abbrev pub LiesLeft : Ty → Value → Type 0
  LiesLeft (Obj c) v = UnlessAnothers (t.mutex c && is_anothers few.home s.env.exec v) (LiesElsewhere (object_in_scope t few s (t.mutex c) c v) (home_in_this t few g s c v) c v)
  LiesLeft a v = Unit {0}

  -- a binding is of its type, with such a number, and lies so
  abbrev pub IsSeen : Ty → Value → Type 0
  IsSeen a v = (is_bound a ≡ true) × (Is t a v × IsFew t few s.env.exec a v) × LiesLeft a v
