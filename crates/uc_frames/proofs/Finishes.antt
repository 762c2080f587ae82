-- The line of a main that is unwound to its end.
use Rattle.std.proofs.Common.{◌≡◌, List, ◌∷◌, refl, ap, ◌∙◌}
use Rattle.uc_machine.specs.Pieces.{Todo, sort, State, own_line, line_from, line_of, Eval, LoadNow, ElementNow, FieldNow, NegateNow, NotNow, CharacterNow, TruthNow, OperateNow, CopyNow, CopyBelowNow, DropNow, DropBelowNow, StoreNow, KeepNow, SetNow, Choose, Branch, Arguments, TickNow, CallNow, CallOnNow, CallUnwrittenNow, CountNow, MoreNow, FillNow, TurnNow, Again, PrintNow, TextNow, GatherNow, FlushNow, ReadNow, ClearNow, Items, Values, Pieces, Targets, Variables, Do, Rest, Within, Exit, NoReturnNow, InLoop, InWhole, Clean, Sweep, Part, Guard, Unwind, ThrowNow, RaiseNow, SetUpNow, EnlivenNow, TakeDownNow, ForgetNow, LiveNow, ResumeNow, SuspendNow, Land, EnterNow, LeaveNow, MakeNow, BindMadeNow, MadeNow, SpawnNow, ChildNow, GoneNow, GiveUpNow, ClusterNow, ProcessorNow, ClusterEndNow, ProcessorEndNow, ConditionNow, WaitNow, SignalNow, SignalBlockNow, EmptyNow, FrontNow, YieldNow, MigrateNow, Guards, AcceptNow, FailedNow, ChooseNow, RaiseAtNow, EnableNow, DisableNow, RestoreNow, PollNow, DeliverNow, BindNow, Finish, FinishCoroutine}
use Rattle.uc_code.specs.declared.rows.MainOf.{MainOf}
use Rattle.uc_code.specs.declared.rows.MainOf.TheVariants as main_of
use Rattle.uc_code.specs.Layout.{Laid}
use Rattle.uc_frames.specs.Machine.{Machine}
use Rattle.uc_frames.specs.Stands.{finish_sort}
use Rattle.uc_frames.specs.UnwindingStands.{EndsMain}

pub finish_line : (whose : MainOf) (p : Todo) (ps : List Todo) → sort p ≡ finish_sort whose → own_line (p ∷ ps) ≡ own_line ps
finish_line whose (Eval a) ps e = refl
finish_line whose LoadNow ps e = refl
finish_line whose (ElementNow a b) ps e = refl
finish_line whose (FieldNow a b) ps e = refl
finish_line whose NegateNow ps e = refl
finish_line whose NotNow ps e = refl
finish_line whose CharacterNow ps e = refl
finish_line whose TruthNow ps e = refl
finish_line whose (OperateNow a) ps e = refl
finish_line whose CopyNow ps e = refl
finish_line whose CopyBelowNow ps e = refl
finish_line whose DropNow ps e = refl
finish_line whose DropBelowNow ps e = refl
finish_line whose StoreNow ps e = refl
finish_line whose KeepNow ps e = refl
finish_line whose (SetNow a) ps e = refl
finish_line whose (Choose a b) ps e = refl
finish_line whose (Branch a b) ps e = refl
finish_line whose (Arguments a) ps e = refl
finish_line whose TickNow ps e = refl
finish_line whose (CallNow a) ps e = refl
finish_line whose (CallOnNow a) ps e = refl
finish_line whose (CallUnwrittenNow a) ps e = refl
finish_line whose (CountNow a) ps e = refl
finish_line whose MoreNow ps e = refl
finish_line whose (FillNow a b c) ps e = refl
finish_line whose (TurnNow a b c d) ps e = refl
finish_line whose (Again a b c d) ps e = refl
finish_line whose (PrintNow a) ps e = refl
finish_line whose (TextNow a) ps e = refl
finish_line whose GatherNow ps e = refl
finish_line whose FlushNow ps e = refl
finish_line whose (ReadNow a) ps e = refl
finish_line whose (ClearNow a b) ps e = refl
finish_line whose (Items a) ps e = refl
finish_line whose (Values a) ps e = refl
finish_line whose (Pieces a) ps e = refl
finish_line whose (Targets a) ps e = refl
finish_line whose (Variables a) ps e = refl
finish_line whose (Do a) ps e = refl
finish_line whose (Rest a) ps e = refl
finish_line main_of.Task (Within a) ps e = absurd (cc)
finish_line main_of.Coroutine (Within a) ps e = absurd (cc)
finish_line whose (Exit a) ps e = refl
finish_line whose NoReturnNow ps e = refl
finish_line whose (InLoop a b c d) ps e = refl
finish_line whose InWhole ps e = refl
finish_line whose (Clean a) ps e = refl
finish_line whose (Sweep a) ps e = refl
finish_line whose (Part a) ps e = refl
finish_line whose (Guard a) ps e = refl
finish_line whose Unwind ps e = refl
finish_line whose ThrowNow ps e = refl
finish_line whose RaiseNow ps e = refl
finish_line whose (SetUpNow a) ps e = refl
finish_line whose EnlivenNow ps e = refl
finish_line whose TakeDownNow ps e = refl
finish_line whose ForgetNow ps e = refl
finish_line whose (LiveNow a) ps e = refl
finish_line whose ResumeNow ps e = refl
finish_line whose SuspendNow ps e = refl
finish_line whose Land ps e = refl
finish_line whose (EnterNow a b) ps e = refl
finish_line whose LeaveNow ps e = refl
finish_line whose (MakeNow a b) ps e = refl
finish_line whose (BindMadeNow a b) ps e = refl
finish_line whose MadeNow ps e = refl
finish_line whose (SpawnNow a) ps e = refl
finish_line whose (ChildNow a) ps e = refl
finish_line whose GoneNow ps e = refl
finish_line whose GiveUpNow ps e = refl
finish_line whose ClusterNow ps e = refl
finish_line whose ProcessorNow ps e = refl
finish_line whose ClusterEndNow ps e = refl
finish_line whose ProcessorEndNow ps e = refl
finish_line whose (ConditionNow a b) ps e = refl
finish_line whose WaitNow ps e = refl
finish_line whose SignalNow ps e = refl
finish_line whose SignalBlockNow ps e = refl
finish_line whose EmptyNow ps e = refl
finish_line whose FrontNow ps e = refl
finish_line whose YieldNow ps e = refl
finish_line whose MigrateNow ps e = refl
finish_line whose (Guards a) ps e = refl
finish_line whose (AcceptNow a b) ps e = refl
finish_line whose FailedNow ps e = refl
finish_line whose (ChooseNow a) ps e = refl
finish_line whose RaiseAtNow ps e = refl
finish_line whose (EnableNow a b) ps e = refl
finish_line whose (DisableNow a b) ps e = refl
finish_line whose (RestoreNow a) ps e = refl
finish_line whose PollNow ps e = refl
finish_line whose DeliverNow ps e = refl
finish_line whose BindNow ps e = refl
finish_line whose Finish ps e = refl
finish_line whose FinishCoroutine ps e = refl

pub main_line : (code : Laid) (whose : MainOf) (m : Machine) (s : State) (h : EndsMain code whose m s) → line_of s ≡ line_from (own_line h.run.rest) s.callers
main_line code whose m s h =
    ap (λ todo. line_from (own_line todo) s.callers) h.run.todo
    ∙ ap (λ n. line_from n s.callers) (finish_line whose h.run.finish h.run.rest h.run.main)
