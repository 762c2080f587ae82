-- To-do lists that are in order for the operands that they find: each simple piece takes some and leaves some; at a mark it is the tree of the
-- mark that must be in order. One clause a shape of piece, as `sort` tells it, serves exits, unwinding and the search for handlers.
use Rattle.std.specs.Prelude.{◌≡◌, ℕ, zero, suc, ◌≤◌, List, [], ◌∷◌, length, Some, None, true, false}
use Rattle.uc_tree.specs.Source.{CleanUp, Item, Show, ShowText, Way, ToBreak, ToContinue, ToReturn, ToEnd, Clauses, NoClauses, Otherwise, MoreClauses}
use Rattle.uc_machine.specs.Pieces.{Todo, Sort, sort, Eval, LoadNow, ElementNow, FieldNow, NegateNow, NotNow, CharacterNow, TruthNow, OperateNow, CopyNow, CopyBelowNow, DropNow, DropBelowNow, StoreNow, KeepNow, SetNow, BindNow, Choose, Branch, Arguments, TickNow, CallNow, CallOnNow, CallUnwrittenNow, CountNow, MoreNow, TurnNow, Again, PrintNow, TextNow, GatherNow, FlushNow, ReadNow, ClearNow, Items, Values, Pieces, Targets, Variables, Do, Rest, Within, Exit, NoReturnNow, Unwind, ThrowNow, RaiseNow, SetUpNow, EnlivenNow, TakeDownNow, ForgetNow, LiveNow, EnterNow, LeaveNow, MakeNow, BindMadeNow, MadeNow, SpawnNow, ChildNow, GoneNow, GiveUpNow, ClusterNow, ProcessorNow, ClusterEndNow, ProcessorEndNow, ConditionNow, WaitNow, SignalNow, SignalBlockNow, EmptyNow, FrontNow, YieldNow, MigrateNow, Guards, AcceptNow, FailedNow, ChooseNow, RaiseAtNow, EnableNow, DisableNow, RestoreNow, PollNow, DeliverNow, ResumeNow, SuspendNow, Land, Simple, IsLoop, IsWhole, IsClean, IsFill, IsSweep, IsPart, IsGuard, IsFinish, IsFinishCoroutine}
use Rattle.uc_typing.specs.Typing.{Ty, Num, Cell, Obj, Raw, Row, Clu, Pro, Name, Sig, Table, object_ty, Cleans, IsRead, IsPlaced, IsKept, IsTarget, IsRoutine, InMutex, Executing, Yields, GiveAll, Fine, FineItems, FineTargets, FineDeclared, FineClean, FinePart, FineGuards, FineStmt, FineStmts, FineLoop, FineHandlers, FineClauses, IsMain}

abbrev pub IsNone : List Ty → Type 0
IsNone [] = Unit {0}
IsNone (a ∷ more) = ⊥

-- some more operands, the last of these the newest
abbrev pub onto : List Ty → List Ty → List Ty
onto [] more = more
onto (a ∷ rest) more = onto rest (a ∷ more)

-- numbers alone
abbrev pub AreNumbers : List Ty → Type 0
AreNumbers [] = Unit {0}
AreNumbers (Num ∷ more) = AreNumbers more
AreNumbers (a ∷ more) = ⊥

-- of items those that have a value
abbrev pub item_tys : List Item → List Ty
item_tys [] = []
item_tys (Show form e ∷ is) = Num ∷ item_tys is
item_tys (ShowText k ∷ is) = item_tys is

-- so many numbers
abbrev pub nums : ℕ → List Ty
nums zero = []
nums (suc n) = Num ∷ nums n

-- one for each guard
abbrev pub guard_tys : Clauses → List Ty
guard_tys NoClauses = []
guard_tys (Otherwise b) = []
guard_tys (MoreClauses guard b cs) = Num ∷ guard_tys cs

module _ (t : Table) where
  -- the newest operands are the arguments of a routine, and its object lies below
  abbrev pub CallsOn : ℕ → List Ty → List Ty → ℕ → Type 0
  CallsOn r tys more c =
      (tys ≡ onto (t.routine r).params (object_ty (t.routine r).whole c ∷ more)) × ((t.routine r).this ≡ Some c) × IsRoutine t r

  -- so they are of a constructor of a mutex class, and the place of its object lies below
  abbrev pub Makes : ℕ → ℕ → List Ty → List Ty → ℕ → Type 0
  Makes n r tys more c =
      (tys ≡ onto (t.routine r).params (Cell (Raw c) ∷ more)) × IsRoutine t r × (t.number c ≡ n) × (t.mutex c ≡ true)

module _ (t : Table) (g : Sig) (sc : List Name) where
  -- what a simple piece asks of the operands, with what is asked of those that it leaves
  abbrev pub Step : Todo → List Ty → (List Ty → Type 0) → Type 0
  Step (Eval e) tys next = (a : Ty) × Yields t g sc e a × next (a ∷ tys)
  Step LoadNow (Cell a ∷ more) next = IsRead t a × next (a ∷ more)
  Step (ElementNow n s) (Num ∷ (Row m a ∷ more)) next = (m ≡ n) × IsPlaced t a × next (a ∷ more) × IsKept t s a
  Step (FieldNow s i) (Obj c ∷ more) next = (s ≡ t.shape c) × IsPlaced t (t.fields c i) × next (t.fields c i ∷ more)
  Step NegateNow (Num ∷ more) next = next (Num ∷ more)
  Step NotNow (Num ∷ more) next = next (Num ∷ more)
  Step CharacterNow (Num ∷ more) next = next (Num ∷ more)
  Step TruthNow (Num ∷ more) next = next (Num ∷ more)
  Step (OperateNow op) (Num ∷ (Num ∷ more)) next = next (Num ∷ more)
  Step CopyNow (a ∷ more) next = next (a ∷ (a ∷ more))
  Step CopyBelowNow (a ∷ (b ∷ more)) next = next (b ∷ (a ∷ (b ∷ more)))
  Step DropNow (a ∷ more) next = next more
  Step DropBelowNow (a ∷ (b ∷ more)) next = next (a ∷ more)
  Step StoreNow (Num ∷ (Cell Num ∷ more)) next = next more
  Step KeepNow (Num ∷ (Cell Num ∷ more)) next = next (Num ∷ more)
  Step (SetNow k) (Num ∷ more) next = next (Num ∷ more)
  Step BindNow (a ∷ (Cell b ∷ more)) next = (a ≡ b) × next (a ∷ more)
  Step (Choose e f) (Num ∷ more) next = Yields t g sc e Num × Yields t g sc f Num × next (Num ∷ more)
  Step (Branch a b) (Num ∷ more) next = IsNone more × FineStmt t g sc a × FineStmt t g sc b × next more
  Step (Arguments es) tys next = (ps : List Ty) × GiveAll t g sc es ps × next (onto ps tys)
  Step TickNow tys next = next tys
  Step (CallNow r) tys next =
      (more : List Ty) × (tys ≡ onto (t.routine r).params more) × ((t.routine r).this ≡ None) × IsRoutine t r × next (Num ∷ more)
  Step (CallOnNow r) tys next = (more : List Ty) × (c : ℕ) × CallsOn t r tys more c × next (Num ∷ more)
  Step (CallUnwrittenNow r) tys next = (more : List Ty) × (c : ℕ) × CallsOn t r tys more c × next (Num ∷ more)
  Step (CountNow n) tys next = next tys
  Step MoreNow tys next = next tys
  Step (TurnNow o e step b) tys next = IsNone tys × FineLoop t g sc e step b × next tys
  Step (Again o e step b) (Num ∷ more) next = IsNone more × FineLoop t g sc e step b × next more
  Step (PrintNow form) (Num ∷ more) next = next more
  Step (TextNow k) tys next = next tys
  Step GatherNow tys next = next tys
  Step FlushNow tys next = next tys
  Step (ReadNow form) tys next = next (Num ∷ tys)
  Step (ClearNow k n) tys next = (length g.params ≤ k) × next tys
  Step (Items is) tys next = FineItems t g sc is × next tys
  Step (Values is) tys next = FineItems t g sc is × next (onto (item_tys is) tys)
  Step (Pieces is) tys next = (more : List Ty) × (tys ≡ onto (item_tys is) more) × next more
  Step (Targets xs) tys next = FineTargets t g sc xs × next tys
  Step (Variables ds) tys next = FineDeclared t g sc ds × next tys
  Step (Do a) tys next = IsNone tys × FineStmt t g sc a × next tys
  Step (Rest ss) tys next = IsNone tys × FineStmts t g sc ss × next tys
  Step (Within line) tys next = IsNone tys × next tys
  Step NoReturnNow tys next = next tys
  Step ThrowNow (a ∷ (b ∷ (c ∷ more))) next = next more
  Step RaiseNow (a ∷ (b ∷ (c ∷ more))) next = next more
  Step (SetUpNow r) tys next = IsMain t g r × Executing t g × next tys
  Step EnlivenNow tys next = Executing t g × next tys
  Step TakeDownNow tys next = Executing t g × next tys
  Step ForgetNow tys next = Executing t g × next tys
  Step (LiveNow r) tys next = (more : List Ty) × (c : ℕ) × CallsOn t r tys more c × next tys
  Step ResumeNow tys next = Executing t g × next tys
  Step SuspendNow tys next = next tys
  Step Land tys next = next tys
  -- mutex objects
  Step (EnterNow m r) tys next = (more : List Ty) × (c : ℕ) × CallsOn t r tys more c × (t.mutex c ≡ true) × next tys
  Step LeaveNow tys next = InMutex t g × next tys
  Step (MakeNow n r) tys next =
      (more : List Ty) × (c : ℕ) × Makes t n r tys more c × next (onto (t.routine r).params (Raw c ∷ more))
  Step (BindMadeNow n r) (Raw d ∷ tys) next =
      (more : List Ty) × (c : ℕ) × Makes t n r tys more c × (d ≡ c) × next (onto (t.routine r).params (Raw c ∷ more))
  Step MadeNow tys next = InMutex t g × next tys
  Step (SpawnNow r) tys next = IsMain t g r × InMutex t g × next tys
  Step (ChildNow r) tys next = IsMain t g r × InMutex t g × next tys
  Step GoneNow tys next = InMutex t g × next tys
  Step GiveUpNow tys next = InMutex t g × next tys
  Step ClusterNow tys next = next (Clu ∷ tys)
  Step ProcessorNow (Clu ∷ more) next = next (Pro ∷ more)
  Step ClusterEndNow (Clu ∷ more) next = next (Num ∷ more)
  Step ProcessorEndNow (Pro ∷ more) next = next (Num ∷ more)
  Step (ConditionNow k n) (Num ∷ more) next = next (Num ∷ more)
  Step WaitNow (Num ∷ (Num ∷ more)) next = InMutex t g × next (Num ∷ more)
  Step SignalNow (Num ∷ more) next = InMutex t g × next (Num ∷ more)
  Step SignalBlockNow (Num ∷ more) next = InMutex t g × next (Num ∷ more)
  Step EmptyNow (Num ∷ more) next = InMutex t g × next (Num ∷ more)
  Step FrontNow (Num ∷ more) next = InMutex t g × next (Num ∷ more)
  Step YieldNow tys next = next tys
  Step MigrateNow (Clu ∷ more) next = next more
  Step (Guards cs) tys next = FineGuards t g sc cs × next (onto (guard_tys cs) tys)
  Step (AcceptNow site n) tys next = (more : List Ty) × (tys ≡ onto (nums n) more) × InMutex t g × next (Num ∷ more)
  Step FailedNow (Num ∷ more) next = next more
  Step (ChooseNow cs) (Num ∷ more) next = IsNone more × FineClauses t g sc cs × next more
  -- events
  Step RaiseAtNow (Obj c ∷ (a ∷ (b ∷ (d ∷ more)))) next = IsTarget t c × next more
  Step (EnableNow events cell) tys next = next tys
  Step (DisableNow events cell) tys next = next tys
  Step (RestoreNow cell) tys next = next tys
  Step PollNow tys next = next tys
  Step DeliverNow (Num ∷ (Num ∷ (Num ∷ more))) next = next more
  -- other operands
  Step _ tys next = ⊥

module _ (t : Table) (g : Sig) where
  -- an exit hands over a number, or nothing
  abbrev pub Exits : Way → List Ty → Type 0
  Exits ToReturn tys = (tys ≡ Num ∷ []) × (g.whole ≡ false)
  Exits ToBreak tys = IsNone tys
  Exits ToContinue tys = IsNone tys
  Exits ToEnd tys = IsNone tys

  -- outwards of the scope of an object it is not whole any more
  abbrev pub Popped : CleanUp → List Name → (List Name → Type 0) → Type 0
  Popped c [] next = ⊥
  Popped c (x ∷ sc) next = Cleans t g x c × FineClean t g sc c × next sc

  -- at a mark that is reached, with what is asked outwards of it: whoever comes to a clean-up hands over numbers alone
  abbrev pub Reached : List Name → Sort → List Ty → Type 0 → (List Name → List Ty → Type 0) → Type 0
  Reached sc Simple tys simple rest = simple
  Reached sc (IsLoop o e step b) tys simple rest = IsNone tys × FineLoop t g sc e step b × rest sc []
  Reached sc IsWhole tys simple rest = IsNone tys × (g.whole ≡ true) × rest sc []
  Reached sc (IsClean c) tys simple rest = Popped c sc (λ sc. rest sc tys) × AreNumbers tys
  Reached sc (IsFill n b d) tys simple rest = Fine t g sc b × Fine t g sc d × rest sc tys
  Reached sc (IsSweep e) tys simple rest = Fine t g sc e × rest sc tys
  Reached sc (IsPart c) tys simple rest = FinePart t g sc c × rest sc tys × AreNumbers tys
  Reached sc (IsGuard hs) tys simple rest = IsNone tys × FineHandlers t g sc hs × rest sc []
  Reached sc IsFinish tys simple rest = rest sc []
  Reached sc IsFinishCoroutine tys simple rest = rest sc []

  -- at a mark to which an exit comes
  abbrev pub Met : List Name → Sort → (List Name → Type 0) → (List Name → List Ty → Type 0) → Type 0
  Met sc Simple left rest = left sc
  Met sc (IsLoop o e step b) left rest = FineLoop t g sc e step b × rest sc [] × left sc
  Met sc IsWhole left rest = (g.whole ≡ true) × rest sc []
  Met sc (IsClean c) left rest = Popped c sc left
  Met sc (IsFill n b d) left rest = Fine t g sc d × left sc
  Met sc (IsSweep e) left rest = Fine t g sc e × left sc
  Met sc (IsPart c) left rest = FinePart t g sc c × left sc
  Met sc (IsGuard hs) left rest = FineHandlers t g sc hs × rest sc [] × left sc
  Met sc IsFinish left rest = rest sc []
  Met sc IsFinishCoroutine left rest = rest sc []

-- over the scope that is left when all of it is done
module _ (t : Table) (g : Sig) (base : List Name) where
  abbrev mutual
    -- a to-do list is in order for these operands
    pub Ok : List Name → List Todo → List Ty → Type 0
    Ok sc [] tys = sc ≡ base
    Ok sc (Exit w ∷ todo) tys = Exits t g w tys × Left sc todo
    -- what stands before the next mark is not done any more
    Ok sc (Unwind ∷ todo) tys = Left sc todo
    Ok sc (p ∷ todo) tys = Reached t g sc (sort p) tys (Step t g sc p tys (Ok sc todo)) (λ sc. Ok sc todo)

    -- it is in order for an exit that leaves it
    pub Left : List Name → List Todo → Type 0
    Left sc [] = sc ≡ base
    Left sc (p ∷ todo) = Met t g sc (sort p) (λ sc. Left sc todo) (λ sc. Ok sc todo)
