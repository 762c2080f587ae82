-- What a piece finds where no default is taken: as many operands as it takes, a place where it takes one, an object of the kind that it
-- needs, and its routine.
use Rattle.std.specs.Prelude.{◌≡◌, ℕ, zero, suc, List, [], ◌∷◌, drop, Some, slice_get}
use Rattle.uc_tree.specs.Source.{Source, Routine, ToReturn}
use Rattle.uc_machine.specs.Quiet.{Value, Number, Place, Running, Object, Nothing, State, Todo, top, below, LoadNow, ElementNow, FieldNow, NegateNow, NotNow, CharacterNow, TruthNow, OperateNow, CopyNow, CopyBelowNow, DropNow, DropBelowNow, StoreNow, KeepNow, BindNow, SetNow, Choose, Branch, CallNow, CallOnNow, CallUnwrittenNow, Again, PrintNow, Exit, ThrowNow, RaiseNow, SetUpNow, EnlivenNow, TakeDownNow, ForgetNow, LiveNow, ResumeNow, EnterNow, LeaveNow, MakeNow, BindMadeNow, MadeNow, SpawnNow, ChildNow, GoneNow, GiveUpNow, ProcessorNow, ClusterEndNow, ProcessorEndNow, ConditionNow, WaitNow, SignalNow, SignalBlockNow, EmptyNow, FrontNow, MigrateNow, AcceptNow, FailedNow, ChooseNow, RaiseAtNow, DeliverNow}
use Rattle.uc_typing.specs.States.{IsNumbered}

-- so many operands are there
abbrev pub Holds : ℕ → List Value → Type 0
Holds zero vs = Unit {0}
Holds (suc n) [] = ⊥
Holds (suc n) (v ∷ vs) = Holds n vs

abbrev pub IsPlace : Value → Type 0
IsPlace (Number n) = ⊥
IsPlace (Place o p) = Unit {0}
IsPlace (Running e) = ⊥
IsPlace (Object o) = ⊥
IsPlace Nothing = ⊥

-- an object, at its place or by its number
abbrev pub HasFields : Value → Type 0
HasFields (Number n) = ⊥
HasFields (Place o p) = Unit {0}
HasFields (Running e) = ⊥
HasFields (Object o) = Unit {0}
HasFields Nothing = ⊥

-- the routine of a number is there, with so many parameters
abbrev pub IsThere : Source → ℕ → (ℕ → Type 0) → Type 0
IsThere source r with_params = (x : Routine) × (slice_get source.routines r ≡ Some x) × with_params x.params

-- its arguments are the newest operands, and its object lies below; a mutex call enters that
abbrev pub FindsCall : Source → ℕ → List Value → Type 0
FindsCall source r vs = IsThere source r (λ n. Holds n vs × HasFields (top (drop n vs)))

abbrev pub FindsEntry : Source → ℕ → List Value → Type 0
FindsEntry source r vs = IsThere source r (λ n. Holds n vs × IsNumbered (top (drop n vs)))

abbrev pub FindsMake : Source → ℕ → List Value → Type 0
FindsMake source r vs = IsThere source r (λ n. Holds n vs × IsPlace (top (drop n vs)))

abbrev pub Finds : Source → Todo → State → Type 0
Finds source LoadNow s = IsPlace (top s.run.operands)
Finds source (ElementNow n k) s = Holds 2 s.run.operands × IsPlace (top (below s.run.operands))
Finds source (FieldNow k i) s = HasFields (top s.run.operands)
Finds source NegateNow s = Holds 1 s.run.operands
Finds source NotNow s = Holds 1 s.run.operands
Finds source CharacterNow s = Holds 1 s.run.operands
Finds source TruthNow s = Holds 1 s.run.operands
Finds source (OperateNow op) s = Holds 2 s.run.operands
Finds source CopyNow s = Holds 1 s.run.operands
Finds source CopyBelowNow s = Holds 2 s.run.operands
Finds source DropNow s = Holds 1 s.run.operands
Finds source DropBelowNow s = Holds 2 s.run.operands
Finds source StoreNow s = Holds 2 s.run.operands × IsPlace (top (below s.run.operands))
Finds source KeepNow s = Holds 2 s.run.operands × IsPlace (top (below s.run.operands))
Finds source BindNow s = Holds 2 s.run.operands × IsPlace (top (below s.run.operands))
Finds source (SetNow k) s = Holds 1 s.run.operands
Finds source (Choose a b) s = Holds 1 s.run.operands
Finds source (Branch a b) s = Holds 1 s.run.operands
Finds source (Again o e t b) s = Holds 1 s.run.operands
Finds source (CallNow r) s = IsThere source r (λ n. Holds n s.run.operands)
Finds source (CallOnNow r) s = FindsCall source r s.run.operands
Finds source (CallUnwrittenNow r) s = FindsCall source r s.run.operands
Finds source (LiveNow r) s = FindsCall source r s.run.operands
Finds source (PrintNow form) s = Holds 1 s.run.operands
Finds source (Exit ToReturn) s = Holds 1 s.run.operands
Finds source ThrowNow s = Holds 3 s.run.operands
Finds source RaiseNow s = Holds 3 s.run.operands
Finds source (SetUpNow r) s = HasFields s.run.this × IsThere source r (λ n. Unit {0})
Finds source EnlivenNow s = HasFields s.run.this
Finds source TakeDownNow s = HasFields s.run.this
Finds source ForgetNow s = HasFields s.run.this
Finds source ResumeNow s = HasFields s.run.this
Finds source (EnterNow m r) s = FindsEntry source r s.run.operands
Finds source LeaveNow s = IsNumbered s.run.this
Finds source (MakeNow n r) s = FindsMake source r s.run.operands
Finds source (BindMadeNow n r) s = IsNumbered (top s.run.operands) × FindsMake source r (below s.run.operands)
Finds source MadeNow s = IsNumbered s.run.this
Finds source (SpawnNow r) s = IsNumbered s.run.this × IsThere source r (λ n. Unit {0})
Finds source (ChildNow r) s = IsThere source r (λ n. Unit {0})
Finds source GoneNow s = IsNumbered s.run.this
Finds source GiveUpNow s = IsNumbered s.run.this
Finds source ProcessorNow s = Holds 1 s.run.operands
Finds source ClusterEndNow s = IsNumbered (top s.run.operands)
Finds source ProcessorEndNow s = IsNumbered (top s.run.operands)
Finds source (ConditionNow k n) s = Holds 1 s.run.operands
Finds source WaitNow s = Holds 2 s.run.operands × IsNumbered s.run.this
Finds source SignalNow s = Holds 1 s.run.operands × IsNumbered s.run.this
Finds source SignalBlockNow s = Holds 1 s.run.operands × IsNumbered s.run.this
Finds source EmptyNow s = Holds 1 s.run.operands × IsNumbered s.run.this
Finds source FrontNow s = Holds 1 s.run.operands × IsNumbered s.run.this
Finds source MigrateNow s = IsNumbered (top s.run.operands)
Finds source (AcceptNow site n) s = Holds n s.run.operands × IsNumbered s.run.this
Finds source FailedNow s = Holds 1 s.run.operands
Finds source (ChooseNow cs) s = Holds 1 s.run.operands
Finds source RaiseAtNow s = Holds 4 s.run.operands × HasFields (top s.run.operands)
Finds source DeliverNow s = Holds 3 s.run.operands
-- all other pieces take nothing
Finds source _ s = Unit {0}
