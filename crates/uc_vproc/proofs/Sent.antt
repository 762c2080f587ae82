-- The locked value may go to another thread, and so may its seats: their parts may.
use denote.RattleType.{RattleType}
use mir.Syntax.{Sym, Lifetime}
use base.Fml.{Lft}
use mathlib.Core.List.{[], ◌∷◌}
use denote.Ref.{ShrRef}
use denote.Struct.Struct.{Struct}
use denote.Struct.Tuple.{TupleAt, type_at}
use denote.Struct.Owning as owning
use denote.Struct.Declared.{shape}
use denote.Param.Send.{IsSend, IsSync, plain_send, view_send, recorded_send, struct_send, recorded_sync, struct_sync, shr_sync}
use Rattle.std.below.std_heap.proofs.GlobalAllocator.TheSendSync as frees
use Rattle.std.proofs.alloc.Global.TheSendSync as global
use Rattle.std.proofs.boxed.Box.TheSendSync as box
use Rattle.std.proofs.option.Option.TheSendSync as option
use Rattle.std.proofs.vec.Vec.TheSendSync as vec
use Rattle.std.proofs.Common.{rules}
use Rattle.std.specs.contracts.alloc.Global as Global
use Rattle.std.specs.contracts.boxed.Box as Box
use Rattle.std.specs.contracts.option.Option as Option
use Rattle.std.specs.contracts.impls.GlobalAllocator.TheImpl as GlobalAllocator
use Rattle.std.specs.contracts.snapshot.Snapshot as Snapshot
use Rattle.std.specs.contracts.vec.Vec as Vec
use Rattle.uc_entry.specs.contracts.entry.Entry as Entry
use Rattle.uc_code.specs.contracts.code.Code as Code
use Rattle.uc_frames.proofs.members.Members.TheSendSync as members
use Rattle.uc_frames.proofs.task.Task.TheSendSync as task
use Rattle.uc_frames.specs.contracts.members.Members as Members
use Rattle.uc_frames.specs.contracts.task.Task as Task
use Rattle.uc_kernel.proofs.kernel.Kernel.TheSendSync as kernel
use Rattle.uc_kernel.specs.contracts.kernel.Kernel as Kernel
use Rattle.uc_lock.proofs.seat.Seat.TheSendSync as seat
use Rattle.uc_lock.proofs.shared.Shared.TheSendSync as shared
use Rattle.uc_lock.specs.contracts.seat.Seat as Seat
use Rattle.uc_lock.specs.contracts.shared.Shared as Shared
use Rattle.uc_vproc.proofs.registry.Registry.TheSendSync as registry
use Rattle.uc_vproc.specs.contracts.desk.Desk as Desk
use Rattle.uc_vproc.specs.contracts.desk.Desk.TheInside as desk_inside
use Rattle.uc_vproc.specs.contracts.desk.Locked.{the_row}
use Rattle.uc_vproc.specs.contracts.desk.Locked.TheInside as inside
use Rattle.uc_vproc.specs.contracts.desk.LockedJournaled.TheImpl as LockedJournaled
use Rattle.uc_vproc.specs.contracts.desk.Note as Note
use Rattle.uc_vproc.specs.contracts.desk.Note.TheInside as note_inside
use Rattle.uc_vproc.specs.contracts.desk.RunKey as RunKey
use Rattle.uc_vproc.specs.contracts.step.Step as Step

kernel_sent : IsSend (Kernel.the_row (Option.the_row Task.the_row) Members.the_row)
kernel_sent = kernel.the_send (Option.the_row Task.the_row) Members.the_row (option.the_send Task.the_row task.the_send) members.the_send

snapshot_sent : (R : RattleType) → IsSend (owning.row (Snapshot.the_type R))
snapshot_sent R = search rules

note_sent : IsSend Note.the_row
note_sent = view_send note_inside.the_row _ _ _ _ (recorded_send note_inside.the_field.row _ _ note_inside.the_type.to_one (struct_send (shape note_inside.the_type) (plain_send _ _ _ _ _, (snapshot_sent Step.the_row, tt))))

notes_sent : IsSend (owning.row (Vec.the_type Note.the_row Global.the_row GlobalAllocator.ghosts))
notes_sent = vec.the_send Note.the_row Global.the_row GlobalAllocator.ghosts note_sent global.the_send frees.the_frees

desk_sent : IsSend Desk.the_row
desk_sent =
    view_send desk_inside.the_row _ _ _ _ (recorded_send desk_inside.the_field.row _ _ desk_inside.the_type.to_one (struct_send (shape desk_inside.the_type) (kernel_sent, (notes_sent, (registry.the_field_send, (snapshot_sent Code.the_row, (plain_send _ _ _ _ _, tt)))))))

boxed_sent : IsSend (owning.row (Box.the_type Desk.the_row Global.the_row GlobalAllocator.ghosts))
boxed_sent = box.the_send Desk.the_row Global.the_row GlobalAllocator.ghosts desk_sent global.the_send frees.the_frees

pub locked_sent : IsSend the_row
locked_sent =
    view_send inside.the_row _ _ _ _ (recorded_send inside.the_field.row _ _ inside.the_type.to_one (struct_send (shape inside.the_type) (boxed_sent, tt)))

-- what the lock tells of an entry
abbrev item_row : RattleType
item_row = TupleAt (40 ∷ 44 ∷ 41 ∷ []) (Entry.the_row ∷ Step.the_row ∷ [])

pub seat_sent : IsSend (Seat.the_row the_row RunKey.the_row item_row LockedJournaled.ghosts)
seat_sent = seat.the_send the_row RunKey.the_row item_row LockedJournaled.ghosts locked_sent

pub lock_shared : IsSync (Shared.the_row the_row RunKey.the_row item_row LockedJournaled.ghosts)
lock_shared = shared.the_sync the_row RunKey.the_row item_row LockedJournaled.ghosts locked_sent

-- a closure that captures seven references
pub seven_shared : (n : Sym) (l m o r s u v : Lifetime) (k p q x y z w : Lft) (A B C D E F G : RattleType) → IsSync A → IsSync B → IsSync C → IsSync D → IsSync E → IsSync F → IsSync G → IsSync (TupleAt n (ShrRef l k A ∷ ShrRef m p B ∷ ShrRef o q C ∷ ShrRef r x D ∷ ShrRef s y E ∷ ShrRef u z F ∷ ShrRef v w G ∷ []))
seven_shared n l m o r s u v k p q x y z w A B C D E F G a b c d e f g =
    let Ts = ShrRef l k A ∷ ShrRef m p B ∷ ShrRef o q C ∷ ShrRef r x D ∷ ShrRef s y E ∷ ShrRef u z F ∷ ShrRef v w G ∷ [] in
    recorded_sync (Struct (shape (type_at n Ts))) _ _ (type_at n Ts).to_one (struct_sync (shape (type_at n Ts)) (shr_sync l k A a, (shr_sync m p B b, (shr_sync o q C c, (shr_sync r x D d, (shr_sync s y E e, (shr_sync u z F f, (shr_sync v w G g, tt))))))))
