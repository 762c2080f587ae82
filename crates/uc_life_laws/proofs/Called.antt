-- Who calls an object knows it, and it is not gone.
use Rattle.std.proofs.Common.{◌≡◌, ℕ, Bool, true, false, List, [], ◌∷◌, drop, length, Option, Some, None, refl, sym, subst}
use Rattle.std.specs.Prelude.{slice_get, if◌then◌else◌}
use Rattle.uc_tree.specs.Source.{Source, Routine}
use Rattle.uc_entry.specs.Keyed.{find}
use Rattle.uc_entry.specs.declared.request.Request.TheVariants as ask
use Rattle.uc_machine.specs.Pieces.{Todo, EnterNow, Value, Number, Place, Running, Object, Nothing, top, object_in}
use Rattle.uc_machine.specs.Monitors.{may_call, enter_at, enter_step}
use Rattle.uc_machine.specs.Quiet.{State, Asks, quiet, act_todo, fault}
use Rattle.uc_entry.specs.declared.fault.RunFault.TheVariants.{Depth}
use Rattle.uc_typing.specs.Typing.{Ty, Obj, Table, object_ty}
use Rattle.uc_typing.specs.Pieces.{Ok, onto}
use Rattle.uc_typing.specs.States.{Sound, IsNumbered, IsObjectBy}
use Rattle.uc_typing.proofs.Frames.{drop_onto}
use Rattle.uc_sound.specs.Tables.{table_of}
use Rattle.uc_sound.proofs.SoundLemmas.{law_sound}
use Rattle.uc_resolve.specs.Resolve.{source_of}
use Rattle.uc_life_laws.specs.Things.{Few, IsFew, Known}
use Rattle.uc_life_laws.specs.Knowing.{AtHand, KnownAll, KnowsState}
use Rattle.uc_life_laws.proofs.Knowns.{newest, values_drop}
use Rattle.uc_life_laws.specs.Lasting.{lasting}
use Rattle.uc_life_laws.specs.Called.{LawCalled}
use Rattle.uc_life_laws.proofs.Lasting.{law_lasting, not_gone}

-- what is asked where an object is entered is of that object
entered : (d : Option ℕ) (i k : ℕ) (todo : List Todo) (s : State) (o m : ℕ) (u : State) → enter_at d i k todo s ≡ Asks (ask.Call o m) u → i ≡ o
entered (Some d) i k todo s o m u e = absurd (cc)
entered None i k todo s o m u e = cc

may_enter : (b : Bool) (d : Option ℕ) (i k : ℕ) (todo : List Todo) (s : State) (o m : ℕ) (u : State) → (if b then enter_at d i k todo s else fault Depth todo s.run.operands s) ≡ Asks (ask.Call o m) u → i ≡ o
may_enter true d i k todo s o m u e = entered d i k todo s o m u e
may_enter false d i k todo s o m u e = absurd (cc)

module _ (t : Table) (few : Few) (source : Source) (sound : Sound t source) (s : State) (x : KnowsState t few [] s) where
  number_few : (a : Ty) (v : Value) → IsNumbered v → IsFew t few s.env.exec a v → few.numbers a (object_in v) ≡ true
  number_few a (Number z) i f = absurd i
  number_few a (Place o l) i f = absurd i
  number_few a (Running y) i f = absurd i
  number_few a (Object o) i f = f
  number_few a Nothing i f = absurd i

  abbrev Here : Value → Ty → Type 0
  Here w a = AtHand t few s.env.exec x.sigs (s.run ∷ s.callers) w a

  object_few : (b : Bool) (c : ℕ) (v : Value) → b ≡ false → t.mutex c ≡ true → Known t few s.env.exec Here (object_ty b c) v → few.numbers (Obj c) (object_in v) ≡ true
  object_few true c v w m h = absurd (cc)
  object_few false c v w m h = number_few (Obj c) v (subst (λ b. IsObjectBy t b c v) m h.is) h.passes

  called : (k r : ℕ) (todo : List Todo) → s.run.control ≡ EnterNow k r ∷ todo → (t.routine r).whole ≡ false → (o m : ℕ) (u : State) → quiet source s ≡ Asks (ask.Call o m) u → (c : ℕ) × (few.numbers (Obj c) o ≡ true)
  called k r todo e w o m u q = by (slice_get source.routines r) refl (subst (λ l. act_todo source l s ≡ Asks (ask.Call o m) u) e q)
    where
      ok : Ok t x.run.sig x.run.base x.run.scope (EnterNow k r ∷ todo) x.run.own
      ok = subst (λ l. Ok t x.run.sig x.run.base x.run.scope l x.run.own) e x.run.ok

      by : (y : Option Routine) → slice_get source.routines r ≡ y → enter_step k y todo s ≡ Asks (ask.Call o m) u → (c : ℕ) × (few.numbers (Obj c) o ≡ true)
      by None f q = absurd (cc)
      by (Some y) f q =
          let c = ok.1 in
          let more = ok.0 in
          let v : KnownAll t few s.env.exec Here (onto (t.routine r).params (object_ty (t.routine r).whole c ∷ more)) s.run.operands = subst (λ l. KnownAll t few s.env.exec Here l s.run.operands) ok.2.0 x.run.values in
          let d : KnownAll t few s.env.exec Here (object_ty (t.routine r).whole c ∷ more) (drop y.params s.run.operands) = subst (λ n. KnownAll t few s.env.exec Here (object_ty (t.routine r).whole c ∷ more) (drop n s.run.operands)) (sym (sound.routines r y f).params) (subst (λ l. KnownAll t few s.env.exec Here l (drop (length (t.routine r).params) s.run.operands)) (drop_onto (t.routine r).params (object_ty (t.routine r).whole c ∷ more)) (values_drop t few s.env.exec Here (length (t.routine r).params) (onto (t.routine r).params (object_ty (t.routine r).whole c ∷ more)) s.run.operands v)) in
          let h = object_few (t.routine r).whole c (top (drop y.params s.run.operands)) w ok.3 (newest t few s.env.exec Here (object_ty (t.routine r).whole c) more (drop y.params s.run.operands) d) in
          let same : object_in (top (drop y.params s.run.operands)) ≡ o = may_enter (may_call y.written s) (find (object_in (top (drop y.params s.run.operands))) s.env.depths) (object_in (top (drop y.params s.run.operands))) k todo s o m u q in
          (c, subst (λ o. few.numbers (Obj c) o ≡ true) same h)

pub law_called : LawCalled
law_called p formed accepted few input opts range j w r fits on below first meets forgets n s c l k i todo e b o m u q =
    let x : KnowsState (table_of p) (lasting few j) [] s = (law_lasting p formed accepted few input opts range j w r fits on below first meets forgets).comes n s c l in
    let h = called (table_of p) (lasting few j) (source_of p) (law_sound p formed accepted) s x k i todo e b o m u q in
    not_gone few.numbers j h.0 o h.1
