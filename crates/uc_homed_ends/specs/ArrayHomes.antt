-- To-do lists and tasks in which each element of an array of mutex objects that is a variable holds a number, or the object that is at home there, up
-- to the scope of the array.
use Rattle.std.specs.Prelude.{◌≡◌, ℕ, suc, ◌+◌, ◌≤◌, ◌<◌, ◌⊎◌, true, List, [], ◌∷◌, length, slice_index_or, Option}
use Rattle.uc_tree.specs.Source.{Binding, Variable, Element, Load, OfObject, EndOn, Bind, CleanUp, DestroysAll, Stmt, Stmts, Fill, Scoped}
use Rattle.uc_machine.specs.declared.exec.Exec.{Exec}
use Rattle.uc_machine.specs.declared.exec.Home.{Home}
use Rattle.uc_machine.specs.declared.exec.Owner.{Owner}
use Rattle.uc_machine.specs.declared.exec.Owner.TheVariants.{Frame, Fields}
use Rattle.uc_machine.specs.Executions.{Execution, exec_eq}
use Rattle.uc_machine.specs.Pieces as piece
use Rattle.uc_machine.specs.Pieces.{Value, Place, LAST_ADDRESS, address, nought, Todo, Sort, sort, Active, State, Env, Members, Step, Goes, Ticks, Asks}
use Rattle.uc_state_laws.specs.Clusters.{HandlersBegin}
use Rattle.uc_state_laws.specs.Declaring.{IsCount}
use Rattle.uc_state_laws.specs.Filling.{element_at}
use Rattle.uc_place_laws.specs.Siting.{MakesMutex}
use Rattle.uc_life_laws.specs.Things.{Few}
use Rattle.uc_life_laws.specs.LifeStates.{frame_at, MembersBy, EnvBy}
use Rattle.uc_putting_laws.specs.Putting.{IsHome}
use Rattle.uc_homed_ends.specs.BoundHomes.{LeftBy}

-- of the array of mutex objects at a variable that a clean-up ends: its first cell, and how many elements it has
abbrev pub OfArray : (ℕ → ℕ → Type 0) → CleanUp → Type 0
OfArray P (DestroysAll n (OfObject (EndOn r written (Load (Element m Binding (Variable k) i))))) = P k n
OfArray P c = Unit {0}

-- of which the scope opens next in what is left of a block; so it is behind a piece
abbrev pub OpensArray : (ℕ → ℕ → Type 0) → Stmts → Type 0
OpensArray P (Scoped c rest) = OfArray P c
OpensArray P ss = Unit {0}

abbrev pub NextArray : (ℕ → ℕ → Type 0) → List Todo → Type 0
NextArray P (piece.Rest ss ∷ todo) = OpensArray P ss
NextArray P todo = Unit {0}

abbrev pub PassArray : (ℕ → ℕ → Type 0) → List Todo → Type 0
PassArray P (piece.Within line ∷ todo) = NextArray P todo
PassArray P todo = Unit {0}

-- there is none
abbrev pub NoArray : ℕ → ℕ → Type 0
NoArray k n = ⊥

-- a statement makes the mutex objects that are the elements of an array
abbrev pub FillsBy : Stmt → Type 0
FillsBy (Fill line n b d) = MakesMutex b
FillsBy a = ⊥

-- of these arrays alone: who leaves a simple piece, or what fills an array, comes to what stands behind it
abbrev pub SkipBy : Sort → Type 0 → Type 0 → Type 0
SkipBy piece.Simple left all = left
SkipBy (piece.IsFill n b d) left all = left
SkipBy k left all = all

-- `P k n`: what holds of an array of so many at that cell
module _ (P : ℕ → ℕ → Type 0) where
  -- its scope opens behind what makes its elements alone, and no handler begins with it
  abbrev pub ArrayPiece : Todo → List Todo → Type 0
  ArrayPiece (piece.Rest ss) todo = OpensArray P ss
  ArrayPiece (piece.Guard hs) todo = HandlersBegin hs
  ArrayPiece (piece.Do a) todo = NextArray (λ k n. FillsBy a) todo
  ArrayPiece (piece.FillNow n b d) todo = PassArray (λ k m. MakesMutex b) todo
  ArrayPiece (piece.Branch a b) todo = NextArray NoArray todo
  ArrayPiece (piece.ChooseNow cs) todo = NextArray NoArray todo
  ArrayPiece p todo = Unit {0}

  abbrev mutual
    pub Arrays : List Todo → Type 0
    Arrays [] = Unit {0}
    Arrays (piece.Exit w ∷ todo) = ArraysLeft todo
    Arrays (piece.Unwind ∷ todo) = ArraysLeft todo
    Arrays (p ∷ todo) = ArrayPiece p todo × Arrays todo

    pub ArraysLeft : List Todo → Type 0
    ArraysLeft [] = Unit {0}
    ArraysLeft (p ∷ todo) = LeftBy (sort p) (ArraysLeft todo) (Arrays todo)

  abbrev mutual
    pub Each : List Todo → Type 0
    Each [] = Unit {0}
    Each (piece.Rest ss ∷ todo) = OpensArray P ss × Each todo
    Each (piece.Exit w ∷ todo) = EachLeft todo
    Each (piece.Unwind ∷ todo) = EachLeft todo
    Each (p ∷ todo) = Each todo

    pub EachLeft : List Todo → Type 0
    EachLeft [] = Unit {0}
    EachLeft (p ∷ todo) = SkipBy (sort p) (EachLeft todo) (Each todo)

  -- or elements are bound to what is no mutex object, and so it is behind the scope of the array
  abbrev pub BindsBehind : List Todo → Type 0
  BindsBehind (piece.DropNow ∷ (piece.MoreNow ∷ (piece.FillNow n (OfObject (Bind p e)) d ∷ (piece.Within line ∷ (piece.Rest ss ∷ todo))))) = Each todo
  BindsBehind todo = ⊥

  abbrev pub EachOrBinds : List Todo → Type 0
  EachOrBinds todo = Each todo ⊎ BindsBehind todo

-- an element of an array that has addresses of its own, in a frame with these values
abbrev pub HoldsAt : List Value → ℕ → ℕ → (Value → Type 0) → Type 0
HoldsAt vs k j P = P (slice_index_or vs (address (element_at k j)) nought)

module _ (few : Few) (n : Exec) where
  -- a value is a number, or the object that is at home at a place
  abbrev pub IsFree : Value → Value → Type 0
  IsFree place v = IsCount v ⊎ IsHome few v place

  -- so is that of each element of an array, in the frame of a depth with these values
  abbrev pub AreFree : List Value → ℕ → ℕ → ℕ → Type 0
  AreFree vs f k m = k + m ≤ LAST_ADDRESS → (j : ℕ) → j < m → HoldsAt vs k j (IsFree (Place (Frame n f) (element_at k j)))

  -- activations with these frames: each uses its own frame or that of an older one
  abbrev pub ArrayStack : List (List Value) → List Active → Type 0
  ArrayStack fs [] = Unit {0}
  ArrayStack fs (a ∷ older) = (a.frame ≤ length older) ×
      Arrays (AreFree (frame_at a.frame fs) a.frame) a.control × ArrayStack fs older

module _ (few : Few) where
  -- an execution of this name that does not run, with a frame for each activation
  pub record ArrayEx (n : Exec) (x : Execution (List Todo) Value) : Type 0 where
    pub frames : length x.frames ≡ suc (length x.callers)
    pub stack : ArrayStack few n x.frames (x.run ∷ x.callers)

  abbrev pub ArrayMembers : Home → Option Members → Type 0
  ArrayMembers h m = MembersBy ArrayEx h m

  abbrev pub ArrayEnv : Env → Type 0
  ArrayEnv e = EnvBy ArrayEx e

  pub record ArrayState (s : State) : Type 0 where
    pub frames : length s.env.frames ≡ suc (length s.callers)
    pub stack : ArrayStack few s.env.exec s.env.frames (s.run ∷ s.callers)
    pub env : ArrayEnv s.env

  abbrev pub ArrayStep : Step → Type 0
  ArrayStep (Goes s) = ArrayState s
  ArrayStep (Ticks s) = ArrayState s
  ArrayStep (Asks r s) = ArrayState s

-- a value w is written to a cell of the running execution n: who is an element there in the frame of a depth, that is at home there
module _ (few : Few) (n : Exec) (w : Value) (cell : ℕ) where
  abbrev pub Spares : ℕ → ℕ → ℕ → Type 0
  Spares f k m = k + m ≤ LAST_ADDRESS → (j : ℕ) → j < m → address (element_at k j) ≡ cell → IsHome few w (Place (Frame n f) (element_at k j))

  -- so it is of all activations that use that frame
  abbrev pub StackSpares : ℕ → List Active → Type 0
  StackSpares d [] = Unit {0}
  StackSpares d (a ∷ older) = (a.frame ≡ d → Each (Spares a.frame) a.control) × StackSpares d older

-- it is written to a place, for an activation with this frame and this to do before these older ones
module _ (few : Few) (Own : (ℕ → ℕ → Type 0) → List Todo → Type 0) (w : Value) where
  abbrev pub OwnerSpares : Owner → ℕ → ℕ → List Todo → List Active → Env → Type 0
  OwnerSpares (Frame m d) cell frame todo cs e = (exec_eq m e.exec ≡ true) ×
      (frame ≡ d → Own (Spares few e.exec w cell frame) todo) × StackSpares few e.exec w cell d cs
  OwnerSpares (Fields o) cell frame todo cs e = Unit {0}

  abbrev pub ValueSpares : Value → ℕ → List Todo → List Active → Env → Type 0
  ValueSpares (Place o p) frame todo cs e = OwnerSpares o (address p) frame todo cs e
  ValueSpares v frame todo cs e = Unit {0}
