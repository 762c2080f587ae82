-- The resolved trees of a program with a task and of one with an event are sound.
use Rattle.std.proofs.Common.{◌≡◌, ℕ, zero, suc, ◌⊎◌, inl, inr, [], ◌∷◌, Some, None, true, false, refl, subst, arith}
use Rattle.std.specs.Prelude.{slice_get}
use Rattle.uc_tree.specs.Source.{Shape, Last, Routine}
use Rattle.uc_typing.specs.Typing.{Num, Cell, Obj, Raw, Var, Kept, Apart, Enters, Makes, Main, Sig, Table}
use Rattle.uc_typing.specs.States.{Routine_is}
use Rattle.uc_typing.specs.Samples.{task_source, SampleSound, one_int, event_source, EventSound}

-- class 1 is the task: its main, its destructor, the main of the program, the constructor that nobody wrote
abbrev sigs : ℕ → Sig
sigs zero = record { this = Some 1; params = []; locals = []; whole = false; inward = Main }
sigs (suc zero) = record { this = Some 1; params = []; locals = []; whole = true; inward = Enters }
sigs (suc (suc zero)) = record { this = None; params = []; locals = (0, Cell (Raw 1)) ∷ []; whole = false; inward = Apart }
sigs (suc (suc (suc n))) = record { this = Some 1; params = []; locals = []; whole = true; inward = Makes }

abbrev table : Table
table = record {
  routine = sigs;
  count = 4;
  fields = λ c i. Num;
  shape = λ c. Last;
  mutex = λ c. true;
  executes = λ c. false;
  tasks = λ c. true;
  number = λ c. c;
  refers = true;
}

some_same : {A : Type 0} {x y : A} → Some x ≡ Some y → x ≡ y
some_same e = cc

apart : {B : Type 0} → (Apart ≡ Enters) ⊎ (Apart ≡ Makes) → B
apart (inl e) = absurd (cc)
apart (inr e) = absurd (cc)

main_apart : {B : Type 0} → (Main ≡ Enters) ⊎ (Main ≡ Makes) → B
main_apart (inl e) = absurd (cc)
main_apart (inr e) = absurd (cc)

task_sound : (n : ℕ) (r : Routine) → slice_get task_source.routines n ≡ Some r → Routine_is table (table.routine n) r
task_sound zero r e =
    subst (Routine_is table (sigs 0)) (some_same e) (record { body = (((1, refl, refl, tt), (refl, tt), (((tt, tt), tt), tt)), ((tt, tt), tt)); params = refl; purpose = refl; enters = main_apart })
task_sound (suc zero) r e =
    subst (Routine_is table (sigs 1)) (some_same e) (record { body = (Kept, tt, ((((tt, (refl, tt)), tt), refl), tt), (1, refl, refl, tt)); params = refl; purpose = tt; enters = λ e. tt })
task_sound (suc (suc zero)) r e =
    subst (Routine_is table (sigs 2)) (some_same e) (record {
      body = ((omega arith, tt, tt), ((Num, (refl, (1, (inr (inr (inl (refl, refl), tt)), tt), refl, omega arith, refl, refl, refl), tt, refl)), (Var 0 (Cell (Obj 1)), (refl, refl, refl), ((tt, tt), tt), (Num, (refl, (1, (inr refl, (inr (inr (inl (refl, refl), tt)), tt)), refl, omega arith, refl), refl, tt)))));
      params = refl;
      purpose = refl;
      enters = apart;
    })
task_sound (suc (suc (suc zero))) r e =
    subst (Routine_is table (sigs 3)) (some_same e) (record { body = (Kept, tt, tt, ((1, refl, refl, tt), (refl, refl, omega arith))); params = refl; purpose = tt; enters = λ e. tt })
task_sound (suc (suc (suc (suc n)))) r e = absurd (cc)

pub sample : SampleSound
sample = (table, record { count = refl; leads = λ c e. absurd (cc); routines = task_sound })

-- class 0 is the event, class 1 has no fields: its object and the event that is built stand at one cell
abbrev event_sigs : ℕ → Sig
event_sigs zero = record { this = Some 0; params = Num ∷ []; locals = []; whole = true; inward = Apart }
event_sigs (suc zero) = record { this = Some 1; params = []; locals = []; whole = true; inward = Apart }
event_sigs (suc (suc zero)) = record { this = None; params = []; locals = (0, Raw 1) ∷ ((0, Raw 0) ∷ ((3, Obj 0) ∷ [])); whole = false; inward = Apart }
event_sigs (suc (suc (suc n))) = record { this = Some 1; params = []; locals = []; whole = true; inward = Apart }

abbrev shapes : ℕ → Shape
shapes zero = one_int
shapes (suc n) = Last

abbrev event_table : Table
event_table = record {
  routine = event_sigs;
  count = 4;
  fields = λ c i. Cell Num;
  shape = shapes;
  mutex = λ c. false;
  executes = λ c. false;
  tasks = λ c. false;
  number = λ c. c;
  refers = false;
}

event_sound : (n : ℕ) (r : Routine) → slice_get event_source.routines n ≡ Some r → Routine_is event_table (event_table.routine n) r
event_sound zero r e =
    subst (Routine_is event_table (event_sigs 0)) (some_same e) (record { body = ((Num, (refl, (0, refl, refl, tt, inl refl), inr (inl refl))), ((tt, refl), tt)); params = refl; purpose = tt; enters = apart })
event_sound (suc zero) r e =
    subst (Routine_is event_table (event_sigs 1)) (some_same e) (record { body = ((((refl, tt), tt), refl), tt); params = refl; purpose = tt; enters = apart })
event_sound (suc (suc zero)) r e =
    subst (Routine_is event_table (event_sigs 2)) (some_same e) (record {
      body = (((((omega arith, tt, tt), ((Num, (refl, (1, (inr (inr (inl (refl, refl), tt)), refl), refl, omega arith), refl, tt)), (Var 0 (Obj 1), (refl, refl, refl), ((omega arith, (Num, (refl, (0, (inr (inr (inr (inl (refl, refl)), tt)), refl), refl, omega arith), (refl, tt), tt))), tt), (Num, (refl, (1, (inr (inr (inl (refl, refl), tt)), refl), refl, omega arith), tt, tt))))), tt), (((((inl refl, (0, (inr (inr (inr (inr (inl (refl, refl))), λ i. tt)), refl), refl, refl, tt, refl)), tt), tt)), tt)), (((refl, tt), tt)));
      params = refl;
      purpose = refl;
      enters = apart;
    })
event_sound (suc (suc (suc zero))) r e =
    subst (Routine_is event_table (event_sigs 3)) (some_same e) (record { body = tt; params = refl; purpose = tt; enters = apart })
event_sound (suc (suc (suc (suc n)))) r e = absurd (cc)

pub event_sample : EventSound
event_sample = (event_table, record { count = refl; leads = λ c e. absurd (cc); routines = event_sound }, refl)
