-- What is bound in a frame of the running execution stands in no frame of one that has not begun.
use Rattle.std.proofs.Common.{◌≡◌, ℕ, Bool, true, List, [], ◌∷◌, Option, Some, None, refl, sym, ap, ◌∙◌, subst}
use Rattle.std.specs.Prelude.{drop, slice_get, if◌then◌else◌}
use Rattle.uc_tree.specs.Source.{Routine}
use Rattle.uc_machine.specs.declared.exec.Exec.{Exec}
use Rattle.uc_machine.specs.declared.exec.Owner.TheVariants.{Frame, Fields}
use Rattle.uc_machine.specs.Executions.{Execution, exec_eq, parked_at, change, value_changed, frame_changed, frames_changed}
use Rattle.uc_machine.specs.Switches.{one_more, born, new_exec}
use Rattle.uc_machine.specs.Pieces.{Value, Number, Place, Running, Object, Nothing, Todo, SetUpNow, BindNow, BindMadeNow, State, Env, Goes, at, in_env, address, stored, nought, written, top, below}
use Rattle.uc_machine.specs.Quiet as quiet
use Rattle.uc_machine.specs.Quiet.{home_at, fresh}
use Rattle.uc_name_laws.proofs.Homes.{exec_self}
use Rattle.uc_life_laws.specs.LifeStates.{SlotBy}
use Rattle.uc_life_laws.proofs.Parked as parked
use Rattle.uc_rooted_runs.specs.FreshStates.{SlotBegun, IsBegun, BindsBegunBy}
use Rattle.uc_rooted_runs.specs.Outlasting.{IsAlone}
use Rattle.uc_rooted_runs.specs.Binds.{IsOwnPlace, BindsOwnBy, LawBinds}

-- nothing that does not run has the running name
slot_begun : (n : Exec) (o : Option (Execution (List Todo) Value)) → SlotBy (λ m x. m ≡ n → ⊥) n o → SlotBegun o
slot_begun n None h = tt
slot_begun n (Some x) h = absurd (h refl)

own_begun : (v : Value) (e : Env) → IsOwnPlace e.exec v → IsAlone e → IsBegun v e
own_begun (Number z) e o a = tt
own_begun (Place (Fields q) p) e o a = tt
own_begun (Place (Frame m d) p) e o a =
    subst (λ n. SlotBegun (parked_at n e)) (sym o) (slot_begun e.exec (parked_at e.exec e) (parked.parked_rests (λ n x. n ≡ e.exec → ⊥) e.exec e a))
own_begun (Running x) e o a = tt
own_begun (Object q) e o a = tt
own_begun Nothing e o a = tt

-- a new execution, to which the place is bound
set_begun : (this : Value) (n : Exec) (b : Env) → IsOwnPlace b.exec this → IsAlone (written this (Running n) b) → IsBegun this b
set_begun (Number z) n b o a = tt
set_begun (Place (Fields q) p) n b o a = tt
set_begun (Place (Frame m d) p) n b o a =
    let same : exec_eq m b.exec ≡ true = subst (λ k. exec_eq m k ≡ true) o (exec_self m) in
    let g = value_changed (address p) (stored (Running n)) nought in
    let c : IsAlone (record b { frames = frame_changed d g b.frames }) = subst (λ (c : Bool). IsAlone (if c then record b { frames = frame_changed d g b.frames } else change m.home (frames_changed m.serial (frame_changed d g)) b)) same a in
    own_begun (Place (Frame m d) p) b o (parked.like (λ k x. k ≡ b.exec → ⊥) c refl refl refl)
set_begun (Running x) n b o a = tt
set_begun (Object q) n b o a = tt
set_begun Nothing n b o a = tt

pub law_binds : LawBinds
law_binds source s alone behind own = by s.run.control refl own
  where
    set : (r : ℕ) (todo : List Todo) → s.run.control ≡ SetUpNow r ∷ todo → IsOwnPlace s.env.exec s.run.this → (x : Routine) → slice_get source.routines r ≡ Some x → IsBegun s.run.this (born (home_at s.run.this s.env) (fresh x s.run.this) s.env)
    set r todo c o x e =
        let q = home_at s.run.this s.env in
        let b = born q (fresh x s.run.this) s.env in
        let u : State = at todo s.run.operands (in_env (written s.run.this (Running (new_exec q s.env)) b) s) in
        let first : quiet.set_up_step (slice_get source.routines r) todo s ≡ Goes u = ap (λ k. quiet.set_up_step k todo s) e in
        let goes : quiet.quiet source s ≡ Goes u = ap (λ l. quiet.act_todo source l s) c ∙ first in
        let same : b.exec ≡ s.env.exec = parked.change_exec q (one_more (fresh x s.run.this)) s.env in
        set_begun s.run.this (new_exec q s.env) b (subst (λ n. IsOwnPlace n s.run.this) (sym same) o) (behind u goes)

    by : (l : List Todo) → s.run.control ≡ l → BindsOwnBy source l s → BindsBegunBy source l s
    by [] c o = tt
    by (BindNow ∷ todo) c o = own_begun (top (below s.run.operands)) s.env o alone
    by (BindMadeNow k r ∷ todo) c o = λ x e. own_begun (top (drop x.params (below s.run.operands))) s.env (o x e) alone
    by (SetUpNow r ∷ todo) c o = λ x e. set r todo c o x e
    by (p ∷ todo) c o = tt
