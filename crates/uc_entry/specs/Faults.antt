-- Run faults: their numbers, which begin with 1, and their names.
use Rattle.std.specs.Prelude.{ℕ, zero, suc, ℤ, pos, negsuc, List, [], ◌∷◌, codes, Option, None, slice_get}
use Rattle.uc_entry.specs.declared.fault.RunFault.{RunFault}
use Rattle.uc_entry.specs.declared.fault.RunFault.TheVariants.{Overflow, DivideByZero, Index, Depth, ResumeEnded, ResumeInUse, SuspendWithoutResumer, Unhandled, BlockedInside, DestroyBusy, FrontOfEmpty, NoReturn, EscapeInUnwind, SwitchInUnwind, TooManyTasks, TooManyObjects, TooManyPending, TooManyProcessors, NotLive}

abbrev pub fault_number : RunFault → ℕ
fault_number Overflow = 1
fault_number DivideByZero = 2
fault_number Index = 3
fault_number Depth = 4
fault_number ResumeEnded = 5
fault_number ResumeInUse = 6
fault_number SuspendWithoutResumer = 7
fault_number Unhandled = 8
fault_number BlockedInside = 9
fault_number DestroyBusy = 10
fault_number FrontOfEmpty = 11
fault_number NoReturn = 12
fault_number EscapeInUnwind = 13
fault_number SwitchInUnwind = 14
fault_number TooManyTasks = 15
fault_number TooManyObjects = 16
fault_number TooManyPending = 17
fault_number TooManyProcessors = 18
fault_number NotLive = 19

abbrev pub fault_name : RunFault → List ℕ
fault_name Overflow = codes "Overflow"
fault_name DivideByZero = codes "DivideByZero"
fault_name Index = codes "Index"
fault_name Depth = codes "Depth"
fault_name ResumeEnded = codes "ResumeEnded"
fault_name ResumeInUse = codes "ResumeInUse"
fault_name SuspendWithoutResumer = codes "SuspendWithoutResumer"
fault_name Unhandled = codes "Unhandled"
fault_name BlockedInside = codes "BlockedInside"
fault_name DestroyBusy = codes "DestroyBusy"
fault_name FrontOfEmpty = codes "FrontOfEmpty"
fault_name NoReturn = codes "NoReturn"
fault_name EscapeInUnwind = codes "EscapeInUnwind"
fault_name SwitchInUnwind = codes "SwitchInUnwind"
fault_name TooManyTasks = codes "TooManyTasks"
fault_name TooManyObjects = codes "TooManyObjects"
fault_name TooManyPending = codes "TooManyPending"
fault_name TooManyProcessors = codes "TooManyProcessors"
fault_name NotLive = codes "NotLive"

-- all of them, in the order of their numbers
abbrev pub faults : List RunFault
faults =
    Overflow ∷ (DivideByZero ∷ (Index ∷ (Depth ∷ (ResumeEnded ∷ (ResumeInUse ∷ (SuspendWithoutResumer ∷ (Unhandled ∷ (BlockedInside ∷ (DestroyBusy ∷ (FrontOfEmpty ∷ (NoReturn ∷ (EscapeInUnwind ∷ (SwitchInUnwind ∷ (TooManyTasks ∷ (TooManyObjects ∷ (TooManyPending ∷ (TooManyProcessors ∷ (NotLive ∷ []))))))))))))))))))

-- the fault of a number
abbrev pub fault_of : ℤ → Option RunFault
fault_of (pos zero) = None
fault_of (pos (suc n)) = slice_get faults n
fault_of (negsuc n) = None
