-- Each piece of a typed state finds what it takes.
use Rattle.std.proofs.Common.{◌≡◌, ℕ, zero, suc, ◌+◌, ◌≤◌, ◌<◌, List, [], ◌∷◌, length, drop, Option, Some, None, Bool, true, false, refl, sym, ap, subst, arith}
use Rattle.std.specs.Prelude.{slice_get}
use Rattle.uc_tree.specs.Source.{Source, Routine, ToBreak, ToContinue, ToReturn, ToEnd}
use Rattle.uc_machine.specs.Quiet.{Value, Number, Place, Running, Object, Nothing, State, Todo, top, below}
use Rattle.uc_machine.specs.Pieces as pc
use Rattle.uc_typing.specs.Typing.{Ty, Num, Cell, Obj, Raw, Row, Clu, Pro, Name, Sig, Table, InMutex, Executing, IsRoutine, object_ty}
use Rattle.uc_typing.specs.Pieces.{onto, nums, CallsOn, Makes, Ok}
use Rattle.uc_typing.specs.States.{whole, IsAt, IsNumbered, IsObjectBy, IsObject, Is, Values, IsThis, Sound}
use Rattle.uc_typing.specs.Finds.{Holds, IsPlace, HasFields, IsThere, FindsCall, FindsEntry, FindsMake, Finds}
use Rattle.uc_typing.specs.Laws.{LawFinds}
use Rattle.uc_typing.proofs.Frames.{drop_onto, values_drop}
use Rattle.uc_typing.proofs.Operands.{newest, next, rest_of}
use Rattle.uc_typing.proofs.Answers.{there}

onto_length : (ps more : List Ty) → length ps + length more ≤ length (onto ps more)
onto_length [] more = omega arith
onto_length (p ∷ rest) more = let i = onto_length rest (p ∷ more) in omega arith

nums_length : (n : ℕ) → length (nums n) ≡ n
nums_length zero = refl
nums_length (suc n) = ap suc (nums_length n)

module _ (t : Table) where
  holds : (n : ℕ) (own : List Ty) (vs : List Value) → Values t own vs → n ≤ length own → Holds n vs
  holds zero own vs h l = tt
  holds (suc n) [] vs h l = let f : ⊥ = omega arith in absurd f
  holds (suc n) (a ∷ own) [] h l = absurd h
  holds (suc n) (a ∷ own) (v ∷ vs) h l = holds n own vs h.1 (omega arith)

  -- the arguments, and what lies below them
  behind : (ps more : List Ty) (vs : List Value) → Values t (onto ps more) vs → Holds (length ps) vs × Values t more (drop (length ps) vs)
  behind ps more vs h =
      let l = onto_length ps more in
      (holds (length ps) (onto ps more) vs h (omega arith), subst (λ l. Values t l (drop (length ps) vs)) (drop_onto ps more) (values_drop t (length ps) (onto ps more) vs h))

  one : (a : Ty) (own : List Ty) (vs : List Value) → Values t (a ∷ own) vs → Holds 1 vs
  one a own [] h = absurd h
  one a own (v ∷ vs) h = tt

  two : (a b : Ty) (own : List Ty) (vs : List Value) → Values t (a ∷ (b ∷ own)) vs → Holds 2 vs
  two a b own [] h = absurd h
  two a b own (v ∷ vs) h = one b own vs h.1

  three : (a b c : Ty) (own : List Ty) (vs : List Value) → Values t (a ∷ (b ∷ (c ∷ own))) vs → Holds 3 vs
  three a b c own [] h = absurd h
  three a b c own (v ∷ vs) h = two b c own vs h.1

  four : (a b c d : Ty) (own : List Ty) (vs : List Value) → Values t (a ∷ (b ∷ (c ∷ (d ∷ own)))) vs → Holds 4 vs
  four a b c d own [] h = absurd h
  four a b c d own (v ∷ vs) h = three b c d own vs h.1

  place : (a : Ty) (v : Value) → IsAt t a v → IsPlace v
  place a (Number n) h = absurd h
  place a (Place o p) h = tt
  place a (Running e) h = absurd h
  place a (Object o) h = absurd h
  place a Nothing h = absurd h

  fields_by : (b : Bool) (c : ℕ) (v : Value) → IsObjectBy t b c v → HasFields v
  fields_by true c (Number n) h = absurd h
  fields_by true c (Place o p) h = tt
  fields_by true c (Running e) h = absurd h
  fields_by true c (Object o) h = tt
  fields_by true c Nothing h = absurd h
  fields_by false c (Number n) h = absurd h
  fields_by false c (Place o p) h = tt
  fields_by false c (Running e) h = absurd h
  fields_by false c (Object o) h = tt
  fields_by false c Nothing h = absurd h

  fields : (c : ℕ) (v : Value) → IsObject t c v → HasFields v
  fields c v h = fields_by (t.mutex c) c v h

  numbered : (c : ℕ) (v : Value) → t.mutex c ≡ true → IsObject t c v → IsNumbered v
  numbered c v e h = subst (λ b. IsObjectBy t b c v) e h

  object_of : (b : Bool) (c : ℕ) (v : Value) → Is t (object_ty b c) v → IsObject t c v
  object_of true c v h = h
  object_of false c v h = h

module _ (t : Table) (source : Source) (sound : Sound t source) where
  there_by : (r : ℕ) (o : Option Routine) → slice_get source.routines r ≡ o → IsRoutine t r → (x : Routine) × (slice_get source.routines r ≡ Some x)
  there_by r None e l = absurd (there source.routines r (subst (λ k. r < k) (sym sound.count) l) e)
  there_by r (Some x) e l = (x, e)

  there_is : (r : ℕ) → IsRoutine t r → (x : Routine) × (slice_get source.routines r ≡ Some x)
  there_is r l = there_by r (slice_get source.routines r) refl l

  known : (r : ℕ) → IsRoutine t r → IsThere source r (λ n. Unit {0})
  known r l = let x = there_is r l in (x.0, x.1, tt)

  args : (r : ℕ) (more : List Ty) (vs : List Value) → IsRoutine t r → Values t (onto (t.routine r).params more) vs → IsThere source r (λ n. Holds n vs)
  args r more vs l h =
      let x = there_is r l in
      (x.0, x.1, subst (λ n. Holds n vs) (sym (sound.routines r x.0 x.1).params) (behind t (t.routine r).params more vs h).0)

  -- with what lies below its arguments
  below_args : (r : ℕ) (a : Ty) (more : List Ty) (vs : List Value) (P : Value → Type 0) → IsRoutine t r → Values t (onto (t.routine r).params (a ∷ more)) vs → ((v : Value) → Is t a v → P v) → IsThere source r (λ n. Holds n vs × P (top (drop n vs)))
  below_args r a more vs P l h f =
      let x = there_is r l in
      let b = behind t (t.routine r).params (a ∷ more) vs h in
      (x.0, x.1, subst (λ n. Holds n vs × P (top (drop n vs))) (sym (sound.routines r x.0 x.1).params) (b.0, f (top (drop (length (t.routine r).params) vs)) (newest t a more (drop (length (t.routine r).params) vs) b.1)))

  calls : (r : ℕ) (own more : List Ty) (c : ℕ) (vs : List Value) → CallsOn t r own more c → Values t own vs → FindsCall source r vs
  calls r own more c vs m h =
      below_args r (object_ty (t.routine r).whole c) more vs HasFields m.2 (subst (λ l. Values t l vs) m.0 h) (λ v i. fields t c v (object_of t (t.routine r).whole c v i))

  enters : (r : ℕ) (own more : List Ty) (c : ℕ) (vs : List Value) → CallsOn t r own more c → t.mutex c ≡ true → Values t own vs → FindsEntry source r vs
  enters r own more c vs m e h =
      below_args r (object_ty (t.routine r).whole c) more vs IsNumbered m.2 (subst (λ l. Values t l vs) m.0 h) (λ v i. numbered t c v e (object_of t (t.routine r).whole c v i))

  makes : (n r : ℕ) (own more : List Ty) (c : ℕ) (vs : List Value) → Makes t n r own more c → Values t own vs → FindsMake source r vs
  makes n r own more c vs m h =
      below_args r (Cell (Raw c)) more vs IsPlace m.1 (subst (λ l. Values t l vs) m.0 h) (λ v i. place t (Cell (Obj c)) v i)

  module _ (s : State) (g : Sig) (base sc : List Name) (this : IsThis t g.this s.run.this) where
    this_fields : Executing t g → HasFields s.run.this
    this_fields e = fields t e.0 s.run.this (subst (λ o. IsThis t o s.run.this) e.1 this)

    this_number : InMutex t g → IsNumbered s.run.this
    this_number e = numbered t e.0 s.run.this e.2 (subst (λ o. IsThis t o s.run.this) e.1 this)

    finds : (p : Todo) (todo : List Todo) (own : List Ty) → Ok t g base sc (p ∷ todo) own → Values t own s.run.operands → Finds source p s
    finds pc.LoadNow todo (Cell a ∷ own) o h = place t (Cell (whole a)) (top s.run.operands) (newest t (Cell a) own s.run.operands h)
    finds pc.LoadNow todo _ o h = absurd o
    finds (pc.ElementNow n k) todo (Num ∷ (Row m a ∷ own)) o h = (two t Num (Row m a) own s.run.operands h, place t (Row m (whole a)) (top (below s.run.operands)) (next t Num (Row m a) own s.run.operands h))
    finds (pc.ElementNow n k) todo _ o h = absurd o
    finds (pc.FieldNow k i) todo (Obj c ∷ own) o h = fields t c (top s.run.operands) (newest t (Obj c) own s.run.operands h)
    finds (pc.FieldNow k i) todo _ o h = absurd o
    finds pc.NegateNow todo (Num ∷ own) o h = one t Num own s.run.operands h
    finds pc.NegateNow todo _ o h = absurd o
    finds pc.NotNow todo (Num ∷ own) o h = one t Num own s.run.operands h
    finds pc.NotNow todo _ o h = absurd o
    finds pc.CharacterNow todo (Num ∷ own) o h = one t Num own s.run.operands h
    finds pc.CharacterNow todo _ o h = absurd o
    finds pc.TruthNow todo (Num ∷ own) o h = one t Num own s.run.operands h
    finds pc.TruthNow todo _ o h = absurd o
    finds (pc.OperateNow op) todo (Num ∷ (Num ∷ own)) o h = two t Num Num own s.run.operands h
    finds (pc.OperateNow op) todo _ o h = absurd o
    finds pc.CopyNow todo (a ∷ own) o h = one t a own s.run.operands h
    finds pc.CopyNow todo _ o h = absurd o
    finds pc.CopyBelowNow todo (a ∷ (b ∷ own)) o h = two t a b own s.run.operands h
    finds pc.CopyBelowNow todo _ o h = absurd o
    finds pc.DropNow todo (a ∷ own) o h = one t a own s.run.operands h
    finds pc.DropNow todo _ o h = absurd o
    finds pc.DropBelowNow todo (a ∷ (b ∷ own)) o h = two t a b own s.run.operands h
    finds pc.DropBelowNow todo _ o h = absurd o
    finds pc.StoreNow todo (Num ∷ (Cell Num ∷ own)) o h = (two t Num (Cell Num) own s.run.operands h, place t (Cell Num) (top (below s.run.operands)) (next t Num (Cell Num) own s.run.operands h))
    finds pc.StoreNow todo _ o h = absurd o
    finds pc.KeepNow todo (Num ∷ (Cell Num ∷ own)) o h = (two t Num (Cell Num) own s.run.operands h, place t (Cell Num) (top (below s.run.operands)) (next t Num (Cell Num) own s.run.operands h))
    finds pc.KeepNow todo _ o h = absurd o
    finds pc.BindNow todo (a ∷ (Cell b ∷ own)) o h = (two t a (Cell b) own s.run.operands h, place t (Cell (whole b)) (top (below s.run.operands)) (next t a (Cell b) own s.run.operands h))
    finds pc.BindNow todo _ o h = absurd o
    finds (pc.SetNow k) todo (Num ∷ own) o h = one t Num own s.run.operands h
    finds (pc.SetNow k) todo _ o h = absurd o
    finds (pc.Choose a b) todo (Num ∷ own) o h = one t Num own s.run.operands h
    finds (pc.Choose a b) todo _ o h = absurd o
    finds (pc.Branch a b) todo (Num ∷ own) o h = one t Num own s.run.operands h
    finds (pc.Branch a b) todo _ o h = absurd o
    finds (pc.Again d e step b) todo (Num ∷ own) o h = one t Num own s.run.operands h
    finds (pc.Again d e step b) todo _ o h = absurd o
    finds (pc.CallNow r) todo own o h = args r o.0 s.run.operands o.3 (subst (λ l. Values t l s.run.operands) o.1 h)
    finds (pc.CallOnNow r) todo own o h = calls r own o.0 o.1 s.run.operands o.2 h
    finds (pc.CallUnwrittenNow r) todo own o h = calls r own o.0 o.1 s.run.operands o.2 h
    finds (pc.LiveNow r) todo own o h = calls r own o.0 o.1 s.run.operands o.2 h
    finds (pc.PrintNow form) todo (Num ∷ own) o h = one t Num own s.run.operands h
    finds (pc.PrintNow form) todo _ o h = absurd o
    finds (pc.Exit ToReturn) todo own o h = one t Num [] s.run.operands (subst (λ l. Values t l s.run.operands) o.0.0 h)
    finds (pc.Exit ToBreak) todo own o h = tt
    finds (pc.Exit ToContinue) todo own o h = tt
    finds (pc.Exit ToEnd) todo own o h = tt
    finds pc.ThrowNow todo (a ∷ (b ∷ (c ∷ own))) o h = three t a b c own s.run.operands h
    finds pc.ThrowNow todo _ o h = absurd o
    finds pc.RaiseNow todo (a ∷ (b ∷ (c ∷ own))) o h = three t a b c own s.run.operands h
    finds pc.RaiseNow todo _ o h = absurd o
    finds (pc.SetUpNow r) todo own o h = (this_fields o.1, known r o.0.2)
    finds pc.EnlivenNow todo own o h = this_fields o.0
    finds pc.TakeDownNow todo own o h = this_fields o.0
    finds pc.ForgetNow todo own o h = this_fields o.0
    finds pc.ResumeNow todo own o h = this_fields o.0
    finds (pc.EnterNow m r) todo own o h = enters r own o.0 o.1 s.run.operands o.2 o.3 h
    finds pc.LeaveNow todo own o h = this_number o.0
    finds (pc.MakeNow n r) todo own o h = makes n r own o.0 o.1 s.run.operands o.2 h
    finds (pc.BindMadeNow n r) todo (Raw d ∷ own) o h =
        (numbered t d (top s.run.operands) (subst (λ c. t.mutex c ≡ true) (sym o.3) o.2.3) (newest t (Raw d) own s.run.operands h), makes n r own o.0 o.1 (below s.run.operands) o.2 (rest_of t (Raw d) own s.run.operands h))
    finds (pc.BindMadeNow n r) todo _ o h = absurd o
    finds pc.MadeNow todo own o h = this_number o.0
    finds (pc.SpawnNow r) todo own o h = (this_number o.1, known r o.0.2)
    finds (pc.ChildNow r) todo own o h = known r o.0.2
    finds pc.GoneNow todo own o h = this_number o.0
    finds pc.GiveUpNow todo own o h = this_number o.0
    finds pc.ProcessorNow todo (Clu ∷ own) o h = one t Clu own s.run.operands h
    finds pc.ProcessorNow todo _ o h = absurd o
    finds pc.ClusterEndNow todo (Clu ∷ own) o h = newest t Clu own s.run.operands h
    finds pc.ClusterEndNow todo _ o h = absurd o
    finds pc.ProcessorEndNow todo (Pro ∷ own) o h = newest t Pro own s.run.operands h
    finds pc.ProcessorEndNow todo _ o h = absurd o
    finds (pc.ConditionNow k n) todo (Num ∷ own) o h = one t Num own s.run.operands h
    finds (pc.ConditionNow k n) todo _ o h = absurd o
    finds pc.WaitNow todo (Num ∷ (Num ∷ own)) o h = (two t Num Num own s.run.operands h, this_number o.0)
    finds pc.WaitNow todo _ o h = absurd o
    finds pc.SignalNow todo (Num ∷ own) o h = (one t Num own s.run.operands h, this_number o.0)
    finds pc.SignalNow todo _ o h = absurd o
    finds pc.SignalBlockNow todo (Num ∷ own) o h = (one t Num own s.run.operands h, this_number o.0)
    finds pc.SignalBlockNow todo _ o h = absurd o
    finds pc.EmptyNow todo (Num ∷ own) o h = (one t Num own s.run.operands h, this_number o.0)
    finds pc.EmptyNow todo _ o h = absurd o
    finds pc.FrontNow todo (Num ∷ own) o h = (one t Num own s.run.operands h, this_number o.0)
    finds pc.FrontNow todo _ o h = absurd o
    finds pc.MigrateNow todo (Clu ∷ own) o h = newest t Clu own s.run.operands h
    finds pc.MigrateNow todo _ o h = absurd o
    finds (pc.AcceptNow site n) todo own o h =
        (subst (λ n. Holds n s.run.operands) (nums_length n) (behind t (nums n) o.0 s.run.operands (subst (λ l. Values t l s.run.operands) o.1 h)).0, this_number o.2)
    finds pc.FailedNow todo (Num ∷ own) o h = one t Num own s.run.operands h
    finds pc.FailedNow todo _ o h = absurd o
    finds (pc.ChooseNow cs) todo (Num ∷ own) o h = one t Num own s.run.operands h
    finds (pc.ChooseNow cs) todo _ o h = absurd o
    finds pc.RaiseAtNow todo (Obj c ∷ (a ∷ (b ∷ (d ∷ own)))) o h = (four t (Obj c) a b d own s.run.operands h, fields t c (top s.run.operands) (newest t (Obj c) (a ∷ (b ∷ (d ∷ own))) s.run.operands h))
    finds pc.RaiseAtNow todo _ o h = absurd o
    finds pc.DeliverNow todo (Num ∷ (Num ∷ (Num ∷ own))) o h = three t Num Num Num own s.run.operands h
    finds pc.DeliverNow todo _ o h = absurd o
    finds _ todo own o h = tt

pub law_finds : LawFinds
law_finds t source sound s x p todo e =
    finds t source sound s x.run.sig x.run.base x.run.scope x.run.this p todo x.run.own (subst (λ l. Ok t x.run.sig x.run.base x.run.scope l x.run.own) e x.run.ok) x.run.values
