-- Answers, and tasks that begin: all is known there.
use Rattle.std.proofs.Common.{◌≡◌, ℕ, ◌<◌, Bool, true, false, List, [], ◌∷◌, pos, Option, Some, None, refl, sym, subst, inl}
use Rattle.std.specs.Prelude.{slice_get}
use Rattle.uc_tree.specs.Source.{Source, Routine, routine_or_none, routine_of}
use Rattle.uc_entry.specs.declared.request.Request.{Request}
use Rattle.uc_entry.specs.declared.request.Request.TheVariants as ask
use Rattle.uc_entry.specs.declared.request.Answer.{Answer}
use Rattle.uc_entry.specs.declared.request.Answer.TheVariants as answer
use Rattle.uc_machine.specs.declared.exec.Exec.{Exec}
use Rattle.uc_machine.specs.declared.exec.Home.TheVariants as home
use Rattle.uc_machine.specs.Quiet.{Value, Number, Object, Nothing, State, Members, Todo, truth, first_state, fresh}
use Rattle.uc_machine.specs.Pieces as pc
use Rattle.uc_machine.specs.Answering as on
use Rattle.uc_typing.specs.Typing.{Ty, Num, Obj, Raw, Clu, Pro, Sig, Table, object_ty}
use Rattle.uc_typing.specs.States.{IsObjectBy, IsOfTask, IsTask, Suits, Sound}
use Rattle.uc_typing.proofs.Answers.{there}
use Rattle.uc_life_laws.specs.Things.{Few, Known, Base, Held}
use Rattle.uc_life_laws.specs.LifeStates.{MembersBy, EnvBy}
use Rattle.uc_life_laws.specs.Knowing.{Anything, AtHand, KnownThis, ClaimsEx, ClaimsSlot, ClaimsState, KnowsSlot, KnowsState, AskedBy, KnowsAsked, main_of}
use Rattle.uc_life_laws.specs.Kinds.{IsKept, Claimed}
use Rattle.uc_life_laws.specs.KnownAnswers.{Passes, MainPasses, LawAnswers}
use Rattle.uc_life_laws.proofs.Parked as parked
use Rattle.uc_life_laws.proofs.Parked.{Ex}
use Rattle.uc_life_laws.proofs.Parking.{anything_kept, frames_run, fresh_knows}
use Rattle.uc_life_laws.proofs.Knowns.{held_more}

-- what an answer keeps of states, if it is kept with one more operand, and with one more object in hand
module _ (t : Table) (few : Few) (S : List Ty → State → Type 0) (P : Exec → Ex → Type 0) (brought : (a : Ty) (given : List Ty) (v : Value) (s : State) → S (a ∷ given) s → ((gs : List Sig) → Known t few s.env.exec (AtHand t few s.env.exec gs (s.run ∷ s.callers)) a v) → S given (on.with_operand v s)) (entered_knows : (given : List Ty) (m : Option Members) (o : ℕ) (s : State) → MembersBy P (home.Object o) m → S given s → S given (on.entered m o s)) where
  number_brought : (given : List Ty) (v : Value) (s : State) → S (Num ∷ given) s → S given (on.with_operand v s)
  number_brought given v s x = brought Num given v s x (λ gs. tt)

  -- a new object has no executions
  new_there : (source : Source) (o : ℕ) (todo : List Todo) → MembersBy P (home.Object o) (on.new_members source todo)
  new_there source o [] = tt
  new_there source o (pc.BindMadeNow c r ∷ todo) = tt
  new_there source o (p ∷ todo) = tt

  -- a mutex object, a cluster or a processor
  made_by : (a : Ty) (o : ℕ) (s : State) (m : Option Members) → MembersBy P (home.Object o) m → S (a ∷ []) s → ((gs : List Sig) → Known t few s.env.exec (AtHand t few s.env.exec gs (s.run ∷ s.callers)) a (Object o)) → S [] (on.with_operand (Object o) (on.entered m o s))
  made_by a o s None k x i = brought a [] (Object o) s x i
  made_by a o s (Some m) k x i = brought a [] (Object o) (on.entered (Some m) o s) (entered_knows (a ∷ []) (Some m) o s k x) i

  made : (source : Source) (a : Ty) (o : ℕ) (s : State) → S (a ∷ []) s → ((gs : List Sig) → Known t few s.env.exec (AtHand t few s.env.exec gs (s.run ∷ s.callers)) a (Object o)) → S [] (on.answered source (answer.Object o) s)
  made source a o s x i = made_by a o s (on.new_members source s.run.control) (new_there source o s.run.control) x i

  three : (u v w : Value) (s : State) → S (Num ∷ (Num ∷ (Num ∷ []))) s → S [] (on.with_operand w (on.with_operand v (on.with_operand u s)))
  three u v w s x =
      number_brought [] w (on.with_operand v (on.with_operand u s)) (number_brought (Num ∷ []) v (on.with_operand u s) (number_brought (Num ∷ (Num ∷ [])) u s x))

  pub told : (source : Source) (q : Request) (a : Answer) (s : State) → AskedBy t few S (EnvBy P) source q s → Suits q a → Passes t few q a → S [] (on.answered source a s)
  told source (ask.Make m) (answer.Object o) s x h p =
      made source (Raw x.0) o s x.3 (λ gs. record { is = subst (λ b. IsObjectBy t b x.0 (Object o)) (sym x.2) tt; passes = p x.0 x.1 })
  told source (ask.Accept o site mask) (answer.Clause k failed) s x h p =
      number_brought [] (Number (truth failed)) (on.with_operand (Number (pos k)) s) (number_brought (Num ∷ []) (Number (pos k)) s x)
  told source (ask.Empty o m) (answer.Number z) s x h p = number_brought [] (Number z) s x
  told source (ask.Front o m) (answer.Number z) s x h p = number_brought [] (Number z) s x
  told source (ask.Poll mask) (answer.Event m y z) s x h p = three (Number (pos m)) (Number y) (Number z) s x
  told source (ask.Poll mask) answer.Nothing s x h p = three Nothing Nothing Nothing s x
  told source (ask.Read form) (answer.Value z failed) s x h p = number_brought [] (Number z) s x
  told source ask.Fail (answer.Number z) s x h p = number_brought [] (Number z) s x
  told source ask.Cluster (answer.Object o) s x h p = made source Clu o s x (λ gs. record { is = tt; passes = p; rooted = λ i. absurd i; held = λ m. absurd m; seated = λ i. absurd i })
  told source (ask.Processor c) (answer.Object o) s x h p = made source Pro o s x (λ gs. record { is = tt; passes = p; rooted = λ i. absurd i; held = λ m. absurd m; seated = λ i. absurd i })
  told source (ask.Made o) answer.Go s x h p = x
  told source (ask.Spawn o) answer.Go s x h p = x.2
  told source (ask.Call o m) answer.Go s x h p = x
  told source (ask.Leave o failed) answer.Go s x h p = x
  told source (ask.Wait o m z) answer.Go s x h p = x
  told source (ask.Signal o m) answer.Go s x h p = x
  told source (ask.SignalBlock o m) answer.Go s x h p = x
  told source (ask.Raise o m y z) answer.Go s x h p = x
  told source ask.Yield answer.Go s x h p = x
  told source ask.Slice answer.Go s x h p = x
  told source (ask.Print m items) answer.Go s x h p = x
  told source (ask.ClusterEnd c) answer.Go s x h p = x
  told source (ask.ProcessorEnd c) answer.Go s x h p = x
  told source (ask.Migrate c) answer.Go s x h p = x
  told source (ask.Gone o) answer.Go s x h p = x
  told source _ _ s x h p = absurd h

-- states of which something is claimed by their kinds
module _ (t : Table) (few : Few) (Q : Exec → List Sig → Ex → Type 0) where
  -- one more operand of those that are to be given
  pub brought_claims : (a : Ty) (given : List Ty) (v : Value) (s : State) (x : ClaimsState t few Q (a ∷ given) s) → ((gs : List Sig) → Known t few s.env.exec (AtHand t few s.env.exec gs (s.run ∷ s.callers)) a v) → (y : ClaimsState t few Q given (on.with_operand v s)) × (y.sigs ≡ x.sigs)
  brought_claims a given v s x i = (
    record {
      sigs = x.sigs;
      frames = frames_run t few s.env.exec x.sigs s.env.frames s.run _ s.callers x.frames;
      run = record { sig = x.run.sig; own = a ∷ x.run.own; scope = x.run.scope; base = x.run.base; frame = x.run.frame; values = (i x.sigs, x.run.values); this = x.run.this; ok = x.run.ok; ends = x.run.ends };
      callers = x.callers;
      env = x.env;
    },
    refl,
  )

  pub entered_claims : (given : List Ty) (m : Option Members) (o : ℕ) (s : State) → MembersBy (ClaimsSlot t few Q) (home.Object o) m → (x : ClaimsState t few Q given s) → (y : ClaimsState t few Q given (on.entered m o s)) × (y.sigs ≡ x.sigs)
  entered_claims given None o s k x = (x, refl)
  entered_claims given (Some m) o s k x = (
    record {
      sigs = x.sigs;
      frames = x.frames;
      run = x.run;
      callers = x.callers;
      env = record { house = x.env.house; hand = parked.more_hand (ClaimsSlot t few Q) s.env.hand o m k x.env.hand };
    },
    refl,
  )

  -- a task begins, of whose execution that is claimed

  module _ (kept : IsKept Q) (source : Source) (sound : Sound t source) where
    main_at : (n : Exec) (K : Value → Ty → Type 0) (b : Bool) (c o : ℕ) → t.mutex c ≡ true → few.numbers (Raw c) o ≡ true → few.numbers (Obj c) o ≡ true → Held t few K (Obj c) (Object o) → Known t few n K (object_ty b c) (Object o)
    main_at n K true c o m q p h = record { is = subst (λ b. IsObjectBy t b c (Object o)) (sym m) tt; passes = q }
    main_at n K false c o m q p h = record { is = subst (λ b. IsObjectBy t b c (Object o)) (sym m) tt; passes = p; rooted = λ i. h; held = λ i. h; seated = λ i. absurd i }

    main_this : (g : Sig) (o : Option ℕ) (k : ℕ) → IsOfTask t o → MainPasses t few o k → KnownThis t few (main_of k) (AtHand t few (main_of k) [] []) g o (Object k)
    main_this g None k h p = tt
    main_this g (Some c) k h p = main_at (main_of k) (AtHand t few (main_of k) [] []) g.whole c k h p.0 p.1 (held_more t few (main_of k) (Base few (main_of k)) (AtHand t few (main_of k) [] []) (λ w a b. inl b) (Obj c) (Object k) p.2)

    -- where that is claimed of mains
    module _ (fresh_claim : (r : ℕ) (x : Routine) (n : ℕ) → slice_get source.routines r ≡ Some x → IsTask t r → Q (main_of n) (t.routine r ∷ []) (fresh x (Object n))) where
      begins_by : (c : Option Routine) (r n : ℕ) → slice_get source.routines r ≡ c → IsTask t r → MainPasses t few (t.routine r).this n → Claimed Q t few [] (first_state (routine_or_none c) n)
      begins_by None r n e h p = absurd (there source.routines r (subst (λ k. r < k) (sym sound.count) h.2) e)
      begins_by (Some x) r n e h p = by (fresh_knows t few Q kept (main_of n) (t.routine r) x (Object n) (sound.routines r x e) h.1 (main_this (t.routine r) (t.routine r).this n h.0 p) (fresh_claim r x n e h))
        where
          by : ClaimsEx t few Q (main_of n) (fresh x (Object n)) → Claimed Q t few [] (first_state x n)
          by y = (record { sigs = y.sigs; frames = y.frames; run = y.run; callers = y.callers; env = record { house = (tt, tt); hand = tt } }, kept.linked (main_of n) y.sigs (fresh x (Object n)) (first_state x n).env.links y.claim)

      pub begins : (r n : ℕ) → IsTask t r → MainPasses t few (t.routine r).this n → Claimed Q t few [] (first_state (routine_of source r) n)
      begins r n h p = begins_by (slice_get source.routines r) r n refl h p

-- where nothing is claimed
module _ (t : Table) (few : Few) where
  pub plain_told : (source : Source) (q : Request) (a : Answer) (s : State) → KnowsAsked t few source q s → Suits q a → Passes t few q a → KnowsState t few [] (on.answered source a s)
  plain_told source q a s x h p = told t few (KnowsState t few) (KnowsSlot t few) (λ a given v s x i. (brought_claims t few Anything a given v s x i).0) (λ given m o s k x. (entered_claims t few Anything given m o s k x).0) source q a s x h p

  pub plain_begins : (source : Source) → Sound t source → (r n : ℕ) → IsTask t r → MainPasses t few (t.routine r).this n → KnowsState t few [] (first_state (routine_of source r) n)
  plain_begins source sound r n h p = (begins t few Anything anything_kept source sound (λ r x n e h. tt) r n h p).0

pub law_answers : LawAnswers
law_answers = record {
  told = λ t few source q a s x h p. plain_told t few source q a s x h p;
  begins = λ t few source sound r o h p. plain_begins t few source sound r o h p;
  spawned = λ t few source sound o n s x p. plain_begins t few source sound (on.child_main source s.run.control) n x.0 p;
}
