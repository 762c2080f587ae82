-- What is known by its number and in scope: the variable that its clean-up ends holds an object.
use Rattle.std.specs.Prelude.{◌≡◌, ℕ, suc, ◌+◌, ◌<◌, ◌≤◌, ◌⊎◌, List, [], ◌∷◌, slice_index_or, Bool, true}
use Rattle.uc_tree.specs.Source.{Binding, Expr, Variable, Element, Load, OfObject, EndOn, Bind, MakeOn, EndCluster, EndProcessor, CleanUp, Destroys, DestroysAll, Stmt, Stmts, Evaluate, Scoped}
use Rattle.uc_machine.specs.Executions.{at_depth, list_in}
use Rattle.uc_machine.specs.Pieces.{Link, Slot, At, Value, Place, Running, Object, LAST_ADDRESS, nought, address, Todo, Eval, DropNow, BindNow, MakeNow, BindMadeNow, CallOnNow, CallUnwrittenNow, Do, Rest, Within, Exit, Unwind, Clean, Guard, Sort, sort, Simple, IsClean, IsFill, IsGuard, MoreNow, FillNow, Active}
use Rattle.uc_state_laws.specs.Clusters.{EndsNone, Begins, HandlersBegin}
use Rattle.uc_typing.specs.States.{IsNumbered}
use Rattle.uc_state_laws.specs.Filling.{Array, element_at, turn_todo}

-- a mutex object, a cluster or a processor ends, whose number such a place holds
abbrev pub EndsAt : (Expr → Type 0) → Expr → Type 0
EndsAt at (OfObject (EndOn r written (Load e))) = at e
EndsAt at (OfObject (EndCluster (Load e))) = at e
EndsAt at (OfObject (EndProcessor (Load e))) = at e
EndsAt at e = Unit {0}

-- the place of a variable in the frame of its activation; those of so many elements of an array
abbrev pub OfVariable : (List Link → Type 0) → Expr → Type 0
OfVariable P (Variable k) = P (Slot k ∷ [])
OfVariable P e = Unit {0}

abbrev pub OfElements : ℕ → (List Link → Type 0) → Expr → Type 0
OfElements n P (Element m Binding (Variable k) i) = (j : ℕ) → j < n → P (At Binding j ∷ (Slot k ∷ []))
OfElements n P e = Unit {0}

-- so it is of each place of a frame that holds the number of what a clean-up ends
abbrev pub OfEach : (List Link → Type 0) → CleanUp → Type 0
OfEach P (Destroys e) = EndsAt (OfVariable P) e
OfEach P (DestroysAll n e) = EndsAt (OfElements n P) e
OfEach P c = Unit {0}

-- what a frame holds there is an object
abbrev pub HoldsObject : List Value → List Link → Type 0
HoldsObject vs p = IsNumbered (slice_index_or vs (address p) nought)

-- it holds no place and no execution, so it is bound once it is given an object
abbrev pub IsLoose : Value → Type 0
IsLoose (Place o p) = ⊥
IsLoose (Running n) = ⊥
IsLoose v = Unit {0}

abbrev pub HoldsLoose : List Value → List Link → Type 0
HoldsLoose vs p = IsLoose (slice_index_or vs (address p) nought)

-- the place lies before a cell of the frame
abbrev pub IsBefore : ℕ → List Link → Type 0
IsBefore cell p = address p < cell

-- what is cleaned up is there, in a frame of these values
abbrev pub IsThere : List Value → CleanUp → Type 0
IsThere vs c = OfEach (HoldsObject vs) c

-- so is what each mark among what is to do stands for
abbrev pub CleanBy : (CleanUp → Type 0) → Sort → Type 0
CleanBy B (IsClean c) = B c
CleanBy B k = Unit {0}

abbrev pub AllCleans : (CleanUp → Type 0) → List Todo → Type 0
AllCleans B [] = Unit {0}
AllCleans B (p ∷ todo) = CleanBy B (sort p) × AllCleans B todo

abbrev pub AllThere : List Value → List Todo → Type 0
AllThere vs todo = AllCleans (IsThere vs) todo

-- what is there as its scope opens without anything to find then: a variable that is a cluster, a processor or a mutex object, and an array of
-- such, at cells before the last address, which stands for all cells behind it
abbrev pub ArrayGiven : ℕ → Expr → Type 0
ArrayGiven n (OfObject (EndCluster (Load (Element m Binding (Variable k) i)))) = k + n ≤ LAST_ADDRESS
ArrayGiven n (OfObject (EndProcessor (Load (Element m Binding (Variable k) i)))) = k + n ≤ LAST_ADDRESS
ArrayGiven n (OfObject (EndOn r written (Load (Element m Binding (Variable k) i)))) = k + n ≤ LAST_ADDRESS
ArrayGiven n e = ⊥

abbrev pub IsGiven : CleanUp → Type 0
IsGiven (Destroys (OfObject (EndCluster (Load (Variable k))))) = k < LAST_ADDRESS
IsGiven (Destroys (OfObject (EndProcessor (Load (Variable k))))) = k < LAST_ADDRESS
IsGiven (Destroys (OfObject (EndOn r written (Load (Variable k))))) = k < LAST_ADDRESS
IsGiven (DestroysAll n e) = ArrayGiven n e
IsGiven c = ⊥

-- what may be in scope behind a statement that binds a variable to a processor or a mutex object
abbrev pub MayOpen : CleanUp → Type 0
MayOpen (Destroys (OfObject (EndCluster (Load (Variable k))))) = ⊥
MayOpen (DestroysAll n e) = EndsNone e
MayOpen c = Unit {0}

-- the place of such a variable that is a processor or a mutex object, whose scope opens next in what is left of a block
abbrev pub OfBound : (List Link → Type 0) → CleanUp → Type 0
OfBound P (Destroys (OfObject (EndProcessor (Load (Variable k))))) = k < LAST_ADDRESS → P (Slot k ∷ [])
OfBound P (Destroys (OfObject (EndOn r written (Load (Variable k))))) = k < LAST_ADDRESS → P (Slot k ∷ [])
OfBound P c = Unit {0}

abbrev pub OpensBound : (List Link → Type 0) → Stmts → Type 0
OpensBound P (Scoped c rest) = OfBound P c
OpensBound P ss = Unit {0}

-- that is next behind what has bound it: behind the call of a constructor, or where the value of the statement is dropped
abbrev pub NextBound : (List Link → Type 0) → List Todo → Type 0
NextBound P (Rest ss ∷ todo) = OpensBound P ss
NextBound P (Within line ∷ (Rest ss ∷ todo)) = OpensBound P ss
NextBound P (DropNow ∷ (Within line ∷ (Rest ss ∷ todo))) = OpensBound P ss
NextBound P (CallOnNow r ∷ (DropNow ∷ (Within line ∷ (Rest ss ∷ todo)))) = OpensBound P ss
NextBound P (CallUnwrittenNow r ∷ (DropNow ∷ (Within line ∷ (Rest ss ∷ todo)))) = OpensBound P ss
NextBound P todo = Unit {0}

-- so it is behind a statement, behind the step that binds the variable in it, and before the call of a constructor
abbrev pub NextRest : (List Link → Type 0) → List Todo → Type 0
NextRest P (Rest ss ∷ todo) = OpensBound P ss
NextRest P todo = Unit {0}

abbrev pub NextDrop : (List Link → Type 0) → List Todo → Type 0
NextDrop P (DropNow ∷ (Within line ∷ (Rest ss ∷ todo))) = OpensBound P ss
NextDrop P todo = Unit {0}

abbrev pub NextCall : (List Link → Type 0) → List Todo → Type 0
NextCall P (CallOnNow r ∷ todo) = NextDrop P todo
NextCall P (CallUnwrittenNow r ∷ todo) = NextDrop P todo
NextCall P todo = Unit {0}

-- and behind each piece from which on such a variable is still to be bound
abbrev pub Pends : (List Link → Type 0) → List Todo → Type 0
Pends P [] = Unit {0}
Pends P (Eval e ∷ todo) = NextDrop P todo × Pends P todo
Pends P (Do a ∷ todo) = NextRest P todo × Pends P todo
Pends P (BindNow ∷ todo) = NextDrop P todo × Pends P todo
Pends P (MakeNow c r ∷ todo) = NextCall P todo × Pends P todo
Pends P (BindMadeNow c r ∷ todo) = NextCall P todo × Pends P todo
Pends P (p ∷ todo) = Pends P todo

-- of each element of an array whose scope opens behind what fills it, where that goes on once an element is bound
abbrev pub EachNext : (List Link → Type 0) → List Todo → Type 0
EachNext P (DropNow ∷ (MoreNow ∷ (FillNow n b d ∷ (Within line ∷ (Rest (Scoped c rest) ∷ todo))))) = OfEach P c
EachNext P todo = Unit {0}

-- and before the call of a constructor
abbrev pub EachCall : (List Link → Type 0) → List Todo → Type 0
EachCall P (CallOnNow r ∷ todo) = EachNext P todo
EachCall P (CallUnwrittenNow r ∷ todo) = EachNext P todo
EachCall P todo = Unit {0}

-- an element of the array at a variable ends
abbrev pub EndsArray : ℕ → Expr → Type 0
EndsArray k (OfObject (EndCluster (Load (Element m Binding (Variable c) i)))) = c ≡ k
EndsArray k (OfObject (EndProcessor (Load (Element m Binding (Variable c) i)))) = c ≡ k
EndsArray k (OfObject (EndOn r written (Load (Element m Binding (Variable c) i)))) = c ≡ k
EndsArray k e = ⊥

-- all elements of an array at a variable are loose, if its cells lie before the last address; the first of them hold objects
abbrev pub ElementsLoose : List Value → (cell count : ℕ) → Type 0
ElementsLoose vs k n = k + n ≤ LAST_ADDRESS → (j : ℕ) → j < n → HoldsLoose vs (element_at k j)

abbrev pub ElementsThere : List Value → (cell count first : ℕ) → Type 0
ElementsThere vs k n m = k + n ≤ LAST_ADDRESS → (j : ℕ) → j < n → j < m → HoldsObject vs (element_at k j)

-- what may be left of a block behind a statement that binds
abbrev pub MayBegin : Stmts → Type 0
MayBegin (Scoped c rest) = MayOpen c
MayBegin ss = Begins ss

-- an expression, and a statement, that bind a place to something
abbrev pub IsBinder : Expr → Type 0
IsBinder (OfObject (Bind p e)) = Unit {0}
IsBinder (OfObject (MakeOn c r written p args)) = Unit {0}
IsBinder e = ⊥

abbrev pub BindsBy : Stmt → Type 0
BindsBy (Evaluate line e) = IsBinder e
BindsBy a = ⊥

-- `Few n`: a cluster may have the number n
module _ (Few : ℕ → Bool) where
  abbrev pub IsFew : Value → Type 0
  IsFew (Object o) = Few o ≡ true
  IsFew v = ⊥

  -- such a variable holds the number of such a cluster
  abbrev pub IsCounted : List Value → CleanUp → Type 0
  IsCounted vs (Destroys (OfObject (EndCluster (Load (Variable k))))) = k < LAST_ADDRESS →
      IsFew (slice_index_or vs (address (Slot k ∷ [])) nought)
  IsCounted vs c = Unit {0}

  abbrev pub MarkCounted : List Value → Sort → Type 0
  MarkCounted vs (IsClean c) = IsThere vs c × IsCounted vs c
  MarkCounted vs (IsGuard hs) = HandlersBegin hs
  MarkCounted vs k = Unit {0}

  -- and the statements that are left of a block begin neither by binding a variable to a new cluster nor by the scope of what is known by its
  -- number
  abbrev pub PieceCounted : List Value → Todo → Type 0
  PieceCounted vs (Clean c) = IsThere vs c × IsCounted vs c
  PieceCounted vs (Guard hs) = HandlersBegin hs
  PieceCounted vs (Rest ss) = Begins ss
  PieceCounted vs p = Unit {0}

  -- who leaves a simple piece, or what fills an array, comes to what stands behind it; at another mark that may be done
  abbrev pub LeftBy : List Value → Sort → Type 0 → Type 0 → Type 0
  LeftBy vs Simple left all = left
  LeftBy vs (IsFill n b d) left all = left
  LeftBy vs k left all = MarkCounted vs k × all

  abbrev mutual
    -- a scope of what is known by its number stands behind what is still to bind it, and the cell for that is loose
    pub AllCounted : List Value → List Todo → Type 0
    AllCounted vs [] = Unit {0}
    AllCounted vs (Eval e ∷ todo) = AllCounted vs todo ⊎ (IsBinder e × AtDrop vs todo × NextDrop (HoldsLoose vs) todo)
    AllCounted vs (Do a ∷ todo) = AllCounted vs todo ⊎ (BindsBy a × AtRest vs todo × NextRest (HoldsLoose vs) todo)
    AllCounted vs (BindNow ∷ todo) = AllCounted vs todo ⊎ (AtDrop vs todo × NextDrop (HoldsLoose vs) todo)
    AllCounted vs (MakeNow c r ∷ todo) = AllCounted vs todo ⊎ (AtCall vs todo × NextCall (HoldsLoose vs) todo)
    AllCounted vs (BindMadeNow c r ∷ todo) = AllCounted vs todo ⊎ (AtCall vs todo × NextCall (HoldsLoose vs) todo)
    AllCounted vs (Exit w ∷ todo) = AllLeft vs todo
    AllCounted vs (Unwind ∷ todo) = AllLeft vs todo
    AllCounted vs (p ∷ todo) = PieceCounted vs p × AllCounted vs todo

    -- it may open next
    pub AtRest : List Value → List Todo → Type 0
    AtRest vs (Rest ss ∷ todo) = MayBegin ss × AllCounted vs todo
    AtRest vs todo = ⊥

    pub AtDrop : List Value → List Todo → Type 0
    AtDrop vs (DropNow ∷ (Within line ∷ todo)) = AtRest vs todo
    AtDrop vs todo = ⊥

    pub AtCall : List Value → List Todo → Type 0
    AtCall vs (CallOnNow r ∷ todo) = AtDrop vs todo
    AtCall vs (CallUnwrittenNow r ∷ todo) = AtDrop vs todo
    AtCall vs todo = ⊥

    pub AllLeft : List Value → List Todo → Type 0
    AllLeft vs [] = Unit {0}
    AllLeft vs (p ∷ todo) = LeftBy vs (sort p) (AllLeft vs todo) (AllCounted vs todo)

  -- what is behind a piece that has bound it
  abbrev pub AtBound : List Value → List Todo → Type 0
  AtBound vs (Rest ss ∷ todo) = MayBegin ss × AllCounted vs todo
  AtBound vs (Within line ∷ todo) = AtRest vs todo
  AtBound vs (DropNow ∷ (Within line ∷ todo)) = AtRest vs todo
  AtBound vs (CallOnNow r ∷ todo) = AtDrop vs todo
  AtBound vs (CallUnwrittenNow r ∷ todo) = AtDrop vs todo
  AtBound vs todo = ⊥

  -- an array is being filled, of which one element more is bound than these many, while what builds that runs
  pub record FilledBy (vs : List Value) (elements : ℕ) (control : List Todo) : Type 0 where
    pub array : Array
    pub turns : control ≡ turn_todo array
    pub ends : EndsArray array.cell array.ended
    pub begins : Begins array.rest
    pub loose : ElementsLoose vs array.cell array.count
    pub there : ElementsThere vs array.cell array.count (suc elements)
    pub behind : AllCounted vs array.todo

  -- what an activation has to do that has so many elements: all is there, also of the scope that opens next, from where its variable is bound
  -- on, and of an array that is being filled
  abbrev pub Held : List Value → ℕ → List Todo → Type 0
  Held vs elements todo = AllCounted vs todo ⊎ ((AtBound vs todo × NextBound (HoldsObject vs) todo) ⊎ FilledBy vs elements todo)

-- of any numbers
abbrev pub Any : ℕ → Bool
Any n = true

-- all that is cleaned up by what is to do lies before a cell
abbrev pub AllBefore : ℕ → List Todo → Type 0
AllBefore cell todo = AllCleans (OfEach (IsBefore cell)) todo

-- so it does in all of these activations that use the frame of a depth, and so does what was bound of a scope that opens next, and of an
-- array that is being filled
abbrev pub FrameBefore : ℕ → ℕ → List Active → Type 0
FrameBefore cell d [] = Unit {0}
FrameBefore cell d (a ∷ older) = (a.frame ≡ d →
    AllBefore cell a.control × NextBound (IsBefore cell) a.control × EachNext (IsBefore cell) a.control) ×
    FrameBefore cell d older

-- the values of the frame of a depth
abbrev pub frame_at : ℕ → List (List Value) → List Value
frame_at d fs = list_in (at_depth fs d)
