-- Answers, tasks that begin, and all that a task reaches.
use Rattle.std.proofs.Common.{◌≡◌, ℕ, zero, suc, ◌<◌, List, [], ◌∷◌, ◌++◌, length, pos, Option, Some, None, refl, sym, subst, arith}
use Rattle.std.specs.Prelude.{slice_get}
use Rattle.uc_tree.specs.Source.{Source, Routine, routine_or_none, routine_of}
use Rattle.uc_entry.specs.declared.request.Request.{Request}
use Rattle.uc_entry.specs.declared.request.Request.TheVariants as ask
use Rattle.uc_entry.specs.declared.request.Answer.{Answer}
use Rattle.uc_entry.specs.declared.request.Answer.TheVariants as answer
use Rattle.uc_machine.specs.Quiet.{Value, Number, Object, Nothing, State, Members, Step, Goes, Ticks, Asks, Todo, truth, quiet, first_state, fresh}
use Rattle.uc_machine.specs.Pieces as pc
use Rattle.uc_machine.specs.Answering as on
use Rattle.uc_typing.specs.Typing.{Ty, Num, Raw, Clu, Pro, Table}
use Rattle.uc_typing.specs.States.{IsObjectBy, IsThis, Is, Typed, Rests, Parked, Inhand, IsOfTask, IsTask, Asked, Suits, After, Sound}
use Rattle.uc_typing.specs.Laws.{LawAnswered, LawSpawned, LawReached, ReadsIn, GoesOn, stays, steps, ticks, asks, draws}
use Rattle.uc_typing.proofs.Idle.{fresh_ok}
use Rattle.uc_typing.proofs.Keeps.{keeps}

module _ (t : Table) where
  -- one more operand of those that are to be given
  brought : (a : Ty) (given : List Ty) (v : Value) (s : State) → Typed t (a ∷ given) s → Is t a v → Typed t given (on.with_operand v s)
  brought a given v s x i = record {
    sigs = x.sigs;
    frames = x.frames;
    run = record { sig = x.run.sig; own = a ∷ x.run.own; scope = x.run.scope; base = x.run.base; frame = x.run.frame; values = (i, x.run.values); this = x.run.this; ok = x.run.ok; ends = x.run.ends };
    callers = x.callers;
    idle = x.idle;
  }

  -- with another hand that is in order
  pub handed : (given : List Ty) (hand : List (ℕ × Members)) (s : State) → Typed t given s → Inhand t hand → Typed t given (on.with_hand hand s)
  handed given hand s x h = record { sigs = x.sigs; frames = x.frames; run = x.run; callers = x.callers; idle = (x.idle.0, h) }

  -- a new object has no executions
  abbrev IsNew : Option Members → Type 0
  IsNew None = Unit {0}
  IsNew (Some m) = m.parked ≡ []

  new_is : (source : Source) (todo : List Todo) → IsNew (on.new_members source todo)
  new_is source [] = tt
  new_is source (pc.BindMadeNow c r ∷ todo) = refl
  new_is source (_ ∷ todo) = tt

  last_hand : (o : ℕ) (m : Members) (hand : List (ℕ × Members)) → m.parked ≡ [] → Inhand t hand → Inhand t (hand ++ (o, m) ∷ [])
  last_hand o m [] e h = (subst (Parked t) (sym e) tt, tt)
  last_hand o m (p ∷ ps) e h = (h.0, last_hand o m ps e h.1)

  entered_ok : (given : List Ty) (o : Option Members) (n : ℕ) (s : State) → IsNew o → Typed t given s → Typed t given (on.entered o n s)
  entered_ok given None n s e x = x
  entered_ok given (Some m) n s e x = record {
    sigs = x.sigs;
    frames = x.frames;
    run = x.run;
    callers = x.callers;
    idle = (x.idle.0, last_hand n m s.env.hand e x.idle.1);
  }

  made : (source : Source) (a : Ty) (o : ℕ) (s : State) → Typed t (a ∷ []) s → Is t a (Object o) → Typed t [] (on.answered source (answer.Object o) s)
  made source a o s x i =
      brought a [] (Object o) (on.entered (on.new_members source s.run.control) o s) (entered_ok (a ∷ []) (on.new_members source s.run.control) o s (new_is source s.run.control) x) i

  three : (u v w : Value) (s : State) → Typed t (Num ∷ (Num ∷ (Num ∷ []))) s → Typed t [] (on.with_operand w (on.with_operand v (on.with_operand u s)))
  three u v w s x =
      brought Num [] w (on.with_operand v (on.with_operand u s)) (brought Num (Num ∷ []) v (on.with_operand u s) (brought Num (Num ∷ (Num ∷ [])) u s x tt) tt) tt

  answered_ok : (source : Source) (q : Request) (a : Answer) (s : State) → Asked t source q s → Suits q a → Typed t [] (on.answered source a s)
  answered_ok source (ask.Make n) (answer.Object o) s x h = made source (Raw x.0) o s x.3 (subst (λ b. IsObjectBy t b x.0 (Object o)) (sym x.2) tt)
  answered_ok source (ask.Accept o site mask) (answer.Clause k failed) s x h =
      brought Num [] (Number (truth failed)) (on.with_operand (Number (pos k)) s) (brought Num (Num ∷ []) (Number (pos k)) s x tt) tt
  answered_ok source (ask.Empty o n) (answer.Number z) s x h = brought Num [] (Number z) s x tt
  answered_ok source (ask.Front o n) (answer.Number z) s x h = brought Num [] (Number z) s x tt
  answered_ok source (ask.Poll mask) (answer.Event n y z) s x h = three (Number (pos n)) (Number y) (Number z) s x
  answered_ok source (ask.Poll mask) answer.Nothing s x h = three Nothing Nothing Nothing s x
  answered_ok source (ask.Read form) (answer.Value z failed) s x h = brought Num [] (Number z) s x tt
  answered_ok source ask.Fail (answer.Number z) s x h = brought Num [] (Number z) s x tt
  answered_ok source ask.Cluster (answer.Object o) s x h = made source Clu o s x tt
  answered_ok source (ask.Processor c) (answer.Object o) s x h = made source Pro o s x tt
  answered_ok source (ask.Made o) answer.Go s x h = x
  answered_ok source (ask.Spawn o) answer.Go s x h = x.1
  answered_ok source (ask.Call o m) answer.Go s x h = x
  answered_ok source (ask.Leave o failed) answer.Go s x h = x
  answered_ok source (ask.Wait o n z) answer.Go s x h = x
  answered_ok source (ask.Signal o n) answer.Go s x h = x
  answered_ok source (ask.SignalBlock o n) answer.Go s x h = x
  answered_ok source (ask.Raise o n y z) answer.Go s x h = x
  answered_ok source ask.Yield answer.Go s x h = x
  answered_ok source ask.Slice answer.Go s x h = x
  answered_ok source (ask.Print n items) answer.Go s x h = x
  answered_ok source (ask.ClusterEnd c) answer.Go s x h = x
  answered_ok source (ask.ProcessorEnd c) answer.Go s x h = x
  answered_ok source (ask.Migrate c) answer.Go s x h = x
  answered_ok source (ask.Gone o) answer.Go s x h = x
  answered_ok source _ _ s x h = absurd h

pub law_answered : LawAnswered
law_answered t source q a s x h = answered_ok t source q a s x h

-- a task begins

pub there : {A : Type 0} (xs : List A) (n : ℕ) → n < length xs → slice_get xs n ≡ None → ⊥
there [] n l e = omega arith
there (x ∷ xs) zero l e = absurd (cc)
there (x ∷ xs) (suc n) l e = there xs n (omega arith) e

module _ (t : Table) (source : Source) (sound : Sound t source) where
  this_ok : (o : Option ℕ) (n : ℕ) → IsOfTask t o → IsThis t o (Object n)
  this_ok None n h = tt
  this_ok (Some c) n h = subst (λ b. IsObjectBy t b c (Object n)) (sym h) tt

  begins_by : (c : Option Routine) (r n : ℕ) → slice_get source.routines r ≡ c → IsTask t r → Typed t [] (first_state (routine_or_none c) n)
  begins_by None r n e h = absurd (there source.routines r (subst (λ k. r < k) (sym sound.count) h.2) e)
  begins_by (Some x) r n e h = by_rest (fresh_ok t (t.routine r) x (Object n) (sound.routines r x e) h.1 (this_ok (t.routine r).this n h.0))
    where
      by_rest : Rests t (fresh x (Object n)) → Typed t [] (first_state x n)
      by_rest y = record { sigs = y.sigs; frames = y.frames; run = y.run; callers = y.callers; idle = ((tt, tt), tt) }

  pub begins : (r n : ℕ) → IsTask t r → Typed t [] (first_state (routine_of source r) n)
  begins r n h = begins_by (slice_get source.routines r) r n refl h

  after : (s : State) (step : Step) → quiet source s ≡ step → Typed t [] s → ReadsIn t s → After t source step
  after s step e x r = subst (After t source) e (keeps t source sound s (r x).0 (r x).1)

  reached : (s u : State) → GoesOn t source s u → ((v : State) → GoesOn t source s v → ReadsIn t v) → Typed t [] s → Typed t [] u
  reached s _ stays r x = x
  reached s u (steps e rest) r x = reached _ u rest (λ v g. r v (steps e g)) (after s (Goes _) e x (r s stays))
  reached s u (ticks e rest) r x = reached _ u rest (λ v g. r v (ticks e g)) (after s (Ticks _) e x (r s stays))
  reached s u (asks q a e k rest) r x =
      reached _ u rest (λ v g. r v (asks q a e k g)) (answered_ok t source q a _ (after s (Asks q _) e x (r s stays)) k)
  reached s u (draws hand i rest) r x = reached _ u rest (λ v g. r v (draws hand i g)) (handed t [] hand s x i)

pub law_spawned : LawSpawned
law_spawned t source sound o n s x = begins t source sound (on.child_main source s.run.control) n x.0

pub law_reached : LawReached
law_reached t source sound r o h k u g = reached t source sound (first_state (routine_of source r) o) u g k (begins t source sound r o h)
