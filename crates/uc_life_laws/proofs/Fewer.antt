-- With fewer numbers all stays known, where nobody has at hand what had the others.
use Rattle.std.proofs.Common.{◌≡◌, ℕ, zero, suc, ◌≤◌, ◌⊎◌, inl, inr, ⊎_elim, Bool, true, false, List, [], ◌∷◌, length, Option, Some, None, refl, sym, subst, ℤ, arith}
use Rattle.std.specs.Prelude.{nat_eq, slice_index_or}
use Rattle.uc_machine.specs.declared.exec.Exec.{Exec}
use Rattle.uc_machine.specs.declared.exec.Home.{Home}
use Rattle.uc_machine.specs.declared.exec.Home.TheVariants as home
use Rattle.uc_machine.specs.declared.exec.Owner.TheVariants.{Frame}
use Rattle.uc_machine.specs.declared.exec.Stage.{Stage}
use Rattle.uc_machine.specs.declared.exec.Stage.TheVariants.{Fresh, Started, Ended}
use Rattle.uc_machine.specs.Executions.{Execution, at_depth, list_in, others}
use Rattle.uc_machine.specs.Switches.{stopped}
use Rattle.uc_machine.specs.Pieces as piece
use Rattle.uc_machine.specs.Pieces.{address, nought, Value, Number, Place, Running, Object, Nothing, Todo, Sort, Active, State, Env, Members}
use Rattle.uc_tree.specs.Source.{CleanUp, Way, ToBreak, ToContinue, ToReturn, ToEnd}
use Rattle.uc_typing.specs.Typing.{Ty, Num, Cell, Obj, Raw, Row, Clu, Pro, Name, Sig, Table, object_ty}
use Rattle.uc_typing.specs.Pieces.{IsNone, onto, Exits, Ok}
use Rattle.uc_typing.specs.States.{IsAt, IsObjectBy}
use Rattle.uc_life_laws.specs.Things.{Few, AtField, IsFor, Marks, InTodo, Outer, Around, Stands, lies, inside, Held, LiesIn, IsFew, IsKnown, Known}
use Rattle.uc_life_laws.specs.LifeStates.{SlotBy, ParkedBy, HandBy, MembersBy, EnvBy, BehindMark, Outwards, frame_at, MarkHoldsBy, AllHoldBy, LifeStackBy}
use Rattle.uc_life_laws.specs.Knowing.{AtHand, KnownAll, KnownParams, KnownThis, KnownFrames, Knows, KnowsWaits, Anything, ClaimsBy, ClaimsEx, ClaimsSlot, ClaimsEnv, KnowsSlot, KnowsState}
use Rattle.uc_life_laws.specs.Kinds.{Claimed}
use Rattle.uc_life_laws.specs.Lives.{OutwardsOrMade, Lives}
use Rattle.uc_life_laws.proofs.Cells.{either}
use Rattle.uc_life_laws.proofs.Parked.{Ex}
use Rattle.uc_life_laws.proofs.Reading.{AllBehind}
use Rattle.uc_life_laws.proofs.KindsLemmas.{ex_plain, plain}
use Rattle.uc_life_laws.proofs.LivesLemmas.{below, in_older, others_le, making_here, made_behind}
use Rattle.uc_life_laws.proofs.Knowns.{Less, held_more, older_hand, around_outer, around_hand, frames_length}
use Rattle.uc_life_laws.specs.Silent.{AllSilent}
use Rattle.uc_life_laws.specs.Fewer.{with_numbers, KeepsOthers, Lasts, HandLasts, ExLasts, RunLasts, LawFewer, AllNumbers, FramesNumbers, FreshLasts}

-- two facts of each execution that does not run
module _ (P Q R : Exec → Execution (List Todo) Value → Type 0) (both : (n : Exec) (x : Execution (List Todo) Value) → P n x → Q n x → R n x) where
  both_slot : (n : Exec) (o : Option (Execution (List Todo) Value)) → SlotBy P n o → SlotBy Q n o → SlotBy R n o
  both_slot n None h k = tt
  both_slot n (Some x) h k = both n x h k

  both_parked : (h : Home) (ps : List (ℕ × Option (Execution (List Todo) Value))) → ParkedBy P h ps → ParkedBy Q h ps → ParkedBy R h ps
  both_parked h [] p q = tt
  both_parked h (x ∷ ps) p q = (both_slot (record { home = h; serial = x.0 }) x.1 p.0 q.0, both_parked h ps p.1 q.1)

  both_hand : (ps : List (ℕ × Members)) → HandBy P ps → HandBy Q ps → HandBy R ps
  both_hand [] p q = tt
  both_hand (x ∷ ps) p q = (both_parked (home.Object x.0) x.1.parked p.0 q.0, both_hand ps p.1 q.1)

  pub both_members : (h : Home) (m : Option Members) → MembersBy P h m → MembersBy Q h m → MembersBy R h m
  both_members h None p q = tt
  both_members h (Some m) p q = both_parked h m.parked p q

  pub both_env : (e : Env) → EnvBy P e → EnvBy Q e → EnvBy R e
  both_env e p q = record { house = both_parked (home.Task e.own) e.house.parked p.house q.house; hand = both_hand e.hand p.hand q.hand }

-- an activation that only comes to its end may have operands of any types

abbrev as_numbers : List Ty → List Ty
as_numbers [] = []
as_numbers (a ∷ tys) = Num ∷ as_numbers tys

onto_none : (given own : List Ty) → IsNone (onto given own) → own ≡ []
onto_none [] [] h = refl
onto_none [] (a ∷ own) h = absurd h
onto_none (g ∷ gs) own h = let e : g ∷ own ≡ [] = onto_none gs (g ∷ own) h in absurd (cc)

onto_one : (given own : List Ty) → onto given own ≡ Num ∷ [] → (own ≡ []) ⊎ (own ≡ Num ∷ [])
onto_one [] own e = inr e
onto_one (g ∷ gs) own e = by (onto_one gs (g ∷ own) e)
  where
    by : (g ∷ own ≡ []) ⊎ (g ∷ own ≡ Num ∷ []) → (own ≡ []) ⊎ (own ≡ Num ∷ [])
    by (inl f) = absurd (cc)
    by (inr f) = inl (cc)

none_same : (own : List Ty) → own ≡ [] → as_numbers own ≡ own
none_same own e = subst (λ l. as_numbers l ≡ l) (sym e) refl

one_same : (own : List Ty) → (own ≡ []) ⊎ (own ≡ Num ∷ []) → as_numbers own ≡ own
one_same own (inl e) = none_same own e
one_same own (inr e) = subst (λ l. as_numbers l ≡ l) (sym e) refl

exit_same : (t : Table) (g : Sig) (w : Way) (given own : List Ty) → Exits t g w (onto given own) → as_numbers own ≡ own
exit_same t g ToReturn given own h = one_same own (onto_one given own h.0)
exit_same t g ToBreak given own h = none_same own (onto_none given own h)
exit_same t g ToContinue given own h = none_same own (onto_none given own h)
exit_same t g ToEnd given own h = none_same own (onto_none given own h)

renumber : (t : Table) (g : Sig) (base sc : List Name) (todo : List Todo) → AllSilent todo → (given own : List Ty) → Ok t g base sc todo (onto given own) → Ok t g base sc todo (onto given (as_numbers own))
renumber t g base sc [] s given own h = h
renumber t g base sc (piece.Within line ∷ todo) s given own h =
    subst (λ l. Ok t g base sc (piece.Within line ∷ todo) (onto given l)) (sym (none_same own (onto_none given own h.0))) h
renumber t g base sc (piece.Exit w ∷ todo) s given own h =
    (subst (λ l. Exits t g w (onto given l)) (sym (exit_same t g w given own h.0)) h.0, h.1)
renumber t g base sc (piece.NoReturnNow ∷ todo) s given own h = renumber t g base sc todo s given own h
renumber t g base sc (piece.Unwind ∷ todo) s given own h = h
renumber t g base sc (piece.ChildNow r ∷ todo) s given own h = (h.0, h.1, renumber t g base sc todo s given own h.2)
renumber t g base sc (piece.Finish ∷ todo) s given own h = h
renumber t g base sc (piece.FinishCoroutine ∷ todo) s given own h = h
renumber t g base sc (p ∷ todo) s given own h = absurd s

module _ (t : Table) (few : Few) (numbers : Ty → ℕ → Bool) where
  abbrev less : Few
  less = with_numbers numbers few

  -- what is claimed by the kinds of an execution that does not run, where all that it has at hand lasts, or it has not begun
  abbrev pub Turns : (Exec → List Sig → Ex → Type 0) → (Exec → List Sig → Ex → Type 0) → Type 0
  Turns Q R = (n : Exec) (gs : List Sig) (x : Ex) → length x.frames ≡ length gs → Q n gs x → Lasts t few numbers (AtHand t few n gs (x.run ∷ x.callers)) ⊎ FreshLasts t few numbers x → R n gs x

  -- what is held at homes is, whatever the numbers
  stands_same : (K : Value → Ty → Type 0) (b : Ty) (v : Value) → Stands t few K b v → Stands t less K b v
  stands_same K b v (lies k h) = lies k h
  stands_same K b v (inside {o = o} {c} m k h) = inside m (stands_same K (Cell (Obj c)) (few.home o) k) h

  pub held_same : (K : Value → Ty → Type 0) (b : Ty) (v : Value) → Held t few K b v → Held t less K b v
  held_same K b v (inl h) = inl (stands_same K b v h)
  held_same K b v (inr h) = inr h

  lasts_less : (n : Exec) (K L : Value → Ty → Type 0) → Less t few n K L → Lasts t few numbers L → Lasts t few numbers K
  lasts_less n K L more l c o m h f = l c o m (held_more t few n K L more (Obj c) (Object o) h) f

  module _ (keeps : KeepsOthers t few numbers) (n : Exec) where
    pub lies_same : (K : Value → Ty → Type 0) (b : Ty) (v : Value) → LiesIn t few n K b v → LiesIn t less n K b v
    lies_same K b (Number z) h = tt
    lies_same K b (Place o p) h = held_same K b (Place o p) h
    lies_same K b (Running x) h = tt
    lies_same K b (Object o) h = held_same K b (Object o) h
    lies_same K b Nothing h = tt

    module _ (K : Value → Ty → Type 0) where
      number_few : (a : Ty) (v : Value) → ((o : ℕ) → few.numbers a o ≡ true → numbers a o ≡ true) → IsFew t few n a v → IsFew t less n a v
      number_few a (Number z) f h = tt
      number_few a (Place o p) f h = tt
      number_few a (Running x) f h = tt
      number_few a (Object o) f h = f o h
      number_few a Nothing f h = tt

      placed_few : (a b : Ty) (v : Value) → IsAt t b v → IsFew t less n a v
      placed_few a b (Number z) h = tt
      placed_few a b (Place o p) h = tt
      placed_few a b (Running x) h = tt
      placed_few a b (Object o) h = absurd h
      placed_few a b Nothing h = tt

      object_few : (lasts : Lasts t few numbers K) (b : Bool) (c : ℕ) (v : Value) → t.mutex c ≡ b → IsObjectBy t b c v → (t.mutex c ≡ true → LiesIn t few n K (Obj c) v) → IsFew t few n (Obj c) v → IsFew t less n (Obj c) v
      object_few lasts b c (Number z) m i h f = tt
      object_few lasts b c (Place o p) m i h f = tt
      object_few lasts b c (Running x) m i h f = tt
      object_few lasts true c (Object o) m i h f = lasts c o m (h m) f
      object_few lasts false c (Object o) m i h f = absurd i
      object_few lasts b c Nothing m i h f = tt

      is_fewer : (a : Ty) (v : Value) → (IsFew t few n a v → IsFew t less n a v) → IsKnown t few n K a v → IsKnown t less n K a v
      is_fewer a v f h = record { is = h.is; passes = f h.passes; rooted = λ i. lies_same K a v (h.rooted i); held = λ m. lies_same K a v (h.held m); seated = λ i. ⊎_elim (λ l. inl (lies_same K a v l)) (λ l. inr l) (h.seated i) }

      pub known_fewer : Lasts t few numbers K → (a : Ty) (v : Value) → Known t few n K a v → Known t less n K a v
      known_fewer lasts Num v h = tt
      known_fewer lasts (Cell a) v h = is_fewer (Cell a) v (λ f. placed_few (Cell a) _ v h.is) h
      known_fewer lasts (Obj c) v h = is_fewer (Obj c) v (object_few lasts (t.mutex c) c v refl h.is h.held) h
      known_fewer lasts (Raw c) v h = record { is = h.is; passes = number_few (Raw c) v (keeps.raws c) h.passes }
      known_fewer lasts (Row m a) v h = is_fewer (Row m a) v (λ f. placed_few (Row m a) _ v h.is) h
      known_fewer lasts Clu v h = is_fewer Clu v (number_few Clu v keeps.clusters) h
      known_fewer lasts Pro v h = is_fewer Pro v (number_few Pro v keeps.processors) h

      all_fewer : Lasts t few numbers K → (tys : List Ty) (vs : List Value) → KnownAll t few n K tys vs → KnownAll t less n K tys vs
      all_fewer lasts [] [] h = tt
      all_fewer lasts [] (v ∷ vs) h = absurd h
      all_fewer lasts (a ∷ tys) [] h = absurd h
      all_fewer lasts (a ∷ tys) (v ∷ vs) h = (known_fewer lasts a v h.0, all_fewer lasts tys vs h.1)

      -- of numbers nothing is told
      numbered : (tys : List Ty) (vs : List Value) → KnownAll t few n K tys vs → KnownAll t less n K (as_numbers tys) vs
      numbered [] [] h = tt
      numbered [] (v ∷ vs) h = absurd h
      numbered (a ∷ tys) [] h = absurd h
      numbered (a ∷ tys) (v ∷ vs) h = (tt, numbered tys vs h.1)

      params_fewer : Lasts t few numbers K → (tys : List Ty) (vs : List Value) → KnownParams t few n K tys vs → KnownParams t less n K tys vs
      params_fewer lasts [] vs h = tt
      params_fewer lasts (a ∷ tys) [] h = absurd h
      params_fewer lasts (a ∷ tys) (v ∷ vs) h = (known_fewer lasts a v h.0, params_fewer lasts tys vs h.1)

      this_fewer : Lasts t few numbers K → (g : Sig) (o : Option ℕ) (v : Value) → KnownThis t few n K g o v → KnownThis t less n K g o v
      this_fewer lasts g None v h = tt
      this_fewer lasts g (Some c) v h = known_fewer lasts (object_ty g.whole c) v h

    older : (gs : List Sig) (c : Active) (cs : List Active) → Lasts t few numbers (AtHand t few n gs (c ∷ cs)) → Lasts t few numbers (AtHand t few n (others gs) cs)
    older gs c cs l = lasts_less n (AtHand t few n (others gs) cs) (AtHand t few n gs (c ∷ cs)) (older_hand t few n gs c cs) l

    -- frames, by what those that waited had at hand
    frames_fewer : (gs : List Sig) (fs : List (List Value)) (cs : List Active) → Lasts t few numbers (AtHand t few n gs cs) → KnownFrames t few n gs fs cs → KnownFrames t less n gs fs cs
    frames_fewer [] [] [] l h = tt
    frames_fewer (g ∷ gs) (f ∷ fs) (c ∷ cs) l h =
        let k : Lasts t few numbers (AtHand t few n gs cs) = older (g ∷ gs) c cs l in
        (params_fewer (AtHand t few n gs cs) k g.params f h.0, frames_fewer gs fs cs k h.1)
    frames_fewer [] [] (c ∷ cs) l h = absurd h
    frames_fewer [] (f ∷ fs) cs l h = absurd h
    frames_fewer (g ∷ gs) [] cs l h = absurd h
    frames_fewer (g ∷ gs) (f ∷ fs) [] l h = absurd h

    pub top_frames : (gs : List Sig) (fs : List (List Value)) (c : Active) (cs : List Active) → Lasts t few numbers (AtHand t few n (others gs) cs) → KnownFrames t few n gs fs (c ∷ cs) → KnownFrames t less n gs fs (c ∷ cs)
    top_frames (g ∷ gs) (f ∷ fs) c cs l h = (params_fewer (AtHand t few n gs cs) l g.params f h.0, frames_fewer gs fs cs l h.1)
    top_frames [] [] c cs l h = absurd h
    top_frames [] (f ∷ fs) c cs l h = absurd h
    top_frames (g ∷ gs) [] c cs l h = absurd h

    pub active_fewer : (gs : List Sig) (given : List Ty) (cs : List Active) (c : Active) (k : Knows t few n gs given cs c) → Lasts t few numbers (AtHand t few n (others gs) cs) → Lasts t few numbers (AtHand t few n gs (c ∷ cs)) ⊎ AllSilent c.control → Knows t less n gs given cs c
    active_fewer gs given cs c k l (inl x) = record {
      sig = k.sig;
      own = k.own;
      scope = k.scope;
      base = k.base;
      frame = k.frame;
      values = all_fewer (AtHand t few n gs (c ∷ cs)) x k.own c.operands k.values;
      this = this_fewer (AtHand t few n (others gs) cs) l k.sig k.sig.this c.this k.this;
      ok = k.ok;
      ends = k.ends;
    }
    active_fewer gs given cs c k l (inr x) = record {
      sig = k.sig;
      own = as_numbers k.own;
      scope = k.scope;
      base = k.base;
      frame = k.frame;
      values = numbered (AtHand t few n gs (c ∷ cs)) k.own c.operands k.values;
      this = this_fewer (AtHand t few n (others gs) cs) l k.sig k.sig.this c.this k.this;
      ok = renumber t k.sig k.base k.scope c.control x given k.own k.ok;
      ends = k.ends;
    }

    pub waits_fewer : (gs : List Sig) (cs : List Active) → Lasts t few numbers (AtHand t few n gs cs) → KnowsWaits t few n gs cs → KnowsWaits t less n gs cs
    waits_fewer gs [] l h = tt
    waits_fewer gs (c ∷ cs) l h =
        (active_fewer gs (Num ∷ []) cs c h.0 (older gs c cs l) (inl l), waits_fewer (others gs) cs (older gs c cs l) h.1)

    ex_fewer : (Q R : Exec → List Sig → Ex → Type 0) → Turns Q R → (x : Ex) (k : ClaimsEx t few Q n x) → Lasts t few numbers (AtHand t few n k.sigs (x.run ∷ x.callers)) → ClaimsEx t less R n x
    ex_fewer Q R turns x k l = record {
      sigs = k.sigs;
      frames = frames_fewer k.sigs x.frames (x.run ∷ x.callers) l k.frames;
      run = active_fewer k.sigs [] x.callers x.run k.run (older k.sigs x.run x.callers l) (inl l);
      callers = waits_fewer (others k.sigs) x.callers (older k.sigs x.run x.callers l) k.callers;
      claim = turns n k.sigs x (frames_length t few n k.sigs x.frames (x.run ∷ x.callers) k.frames) k.claim (inl l);
    }

    -- an execution that has not begun

    number_fewer : (K : Value → Ty → Type 0) (a : Ty) (z : ℤ) → Known t few n K a (Number z) → Known t less n K a (Number z)
    number_fewer K Num z h = tt
    number_fewer K (Cell a) z h = is_fewer K (Cell a) (Number z) (λ f. tt) h
    number_fewer K (Obj c) z h = is_fewer K (Obj c) (Number z) (λ f. tt) h
    number_fewer K (Raw c) z h = record { is = h.is; passes = tt }
    number_fewer K (Row m a) z h = is_fewer K (Row m a) (Number z) (λ f. tt) h
    number_fewer K Clu z h = is_fewer K Clu (Number z) (λ f. tt) h
    number_fewer K Pro z h = is_fewer K Pro (Number z) (λ f. tt) h

    zeros_fewer : (K : Value → Ty → Type 0) (tys : List Ty) (vs : List Value) → AllNumbers vs → KnownParams t few n K tys vs → KnownParams t less n K tys vs
    zeros_fewer K [] vs z h = tt
    zeros_fewer K (a ∷ tys) [] z h = absurd h
    zeros_fewer K (a ∷ tys) (Number v ∷ vs) z h = (number_fewer K a v h.0, zeros_fewer K tys vs z h.1)
    zeros_fewer K (a ∷ tys) (Place o p ∷ vs) z h = absurd z
    zeros_fewer K (a ∷ tys) (Running x ∷ vs) z h = absurd z
    zeros_fewer K (a ∷ tys) (Object o ∷ vs) z h = absurd z
    zeros_fewer K (a ∷ tys) (Nothing ∷ vs) z h = absurd z

    blank_frames : (gs : List Sig) (fs : List (List Value)) (cs : List Active) → FramesNumbers fs → KnownFrames t few n gs fs cs → KnownFrames t less n gs fs cs
    blank_frames [] [] [] z h = tt
    blank_frames (g ∷ gs) (f ∷ fs) (c ∷ cs) z h = (zeros_fewer (AtHand t few n gs cs) g.params f z.0 h.0, blank_frames gs fs cs z.1 h.1)
    blank_frames [] [] (c ∷ cs) z h = absurd h
    blank_frames [] (f ∷ fs) cs z h = absurd h
    blank_frames (g ∷ gs) [] cs z h = absurd h
    blank_frames (g ∷ gs) (f ∷ fs) [] z h = absurd h

    none_fewer : (K : Value → Ty → Type 0) (tys : List Ty) (vs : List Value) → vs ≡ [] → KnownAll t few n K tys vs → KnownAll t less n K tys vs
    none_fewer K [] [] e h = tt
    none_fewer K [] (v ∷ vs) e h = absurd h
    none_fewer K (a ∷ tys) [] e h = absurd h
    none_fewer K (a ∷ tys) (v ∷ vs) e h = absurd (cc)

    own_fewer : (K : Value → Ty → Type 0) (b : Bool) (c : ℕ) (v : Value) → ((o : ℕ) → t.mutex c ≡ true → v ≡ Object o → few.numbers (Obj c) o ≡ true → numbers (Obj c) o ≡ true) → Known t few n K (object_ty b c) v → Known t less n K (object_ty b c) v
    own_fewer K true c v f h = record { is = h.is; passes = number_few K (Raw c) v (keeps.raws c) h.passes }
    own_fewer K false c v f h = is_fewer K (Obj c) v (passes (t.mutex c) v refl h.is f) h
      where
        passes : (b : Bool) (v : Value) → t.mutex c ≡ b → IsObjectBy t b c v → ((o : ℕ) → t.mutex c ≡ true → v ≡ Object o → few.numbers (Obj c) o ≡ true → numbers (Obj c) o ≡ true) → IsFew t few n (Obj c) v → IsFew t less n (Obj c) v
        passes b (Number z) m i f h = tt
        passes b (Place o p) m i f h = tt
        passes b (Running x) m i f h = tt
        passes true (Object o) m i f h = f o m refl h
        passes false (Object o) m i f h = absurd i
        passes b Nothing m i f h = tt

    fresh_this : (K : Value → Ty → Type 0) (g : Sig) (o : Option ℕ) (v : Value) → ((c o : ℕ) → t.mutex c ≡ true → v ≡ Object o → few.numbers (Obj c) o ≡ true → numbers (Obj c) o ≡ true) → KnownThis t few n K g o v → KnownThis t less n K g o v
    fresh_this K g None v f h = tt
    fresh_this K g (Some c) v f h = own_fewer K g.whole c v (λ o m e. f c o m e) h

    no_waits : (gs : List Sig) (cs : List Active) → cs ≡ [] → KnowsWaits t less n gs cs
    no_waits gs [] e = tt
    no_waits gs (c ∷ cs) e = absurd (cc)

    fresh_fewer : (Q R : Exec → List Sig → Ex → Type 0) → Turns Q R → (x : Ex) → ClaimsEx t few Q n x → FreshLasts t few numbers x → ClaimsEx t less R n x
    fresh_fewer Q R turns x k l = record {
      sigs = k.sigs;
      frames = blank_frames k.sigs x.frames (x.run ∷ x.callers) l.frames k.frames;
      run = record {
        sig = k.run.sig;
        own = k.run.own;
        scope = k.run.scope;
        base = k.run.base;
        frame = k.run.frame;
        values = none_fewer (AtHand t few n k.sigs (x.run ∷ x.callers)) k.run.own x.run.operands l.operands k.run.values;
        this = fresh_this (AtHand t few n (others k.sigs) x.callers) k.run.sig k.run.sig.this x.run.this l.this k.run.this;
        ok = k.run.ok;
        ends = k.run.ends;
      };
      callers = no_waits (others k.sigs) x.callers l.callers;
      claim = turns n k.sigs x (frames_length t few n k.sigs x.frames (x.run ∷ x.callers) k.frames) k.claim (inr l);
    }

    by_fewer : (Q R : Exec → List Sig → Ex → Type 0) → Turns Q R → (g : Stage) (x : Ex) → ClaimsBy t few Q n g x → HandLasts t few numbers g n x → ClaimsBy t less R n g x
    by_fewer Q R turns Fresh x k (inl l) = fresh_fewer Q R turns x k l
    by_fewer Q R turns Fresh x k (inr l) = ex_fewer Q R turns x k (l (ex_plain t few Q n x k))
    by_fewer Q R turns Started x k l = ex_fewer Q R turns x k (l (ex_plain t few Q n x k))
    by_fewer Q R turns Ended x k l = tt

  module _ (keeps : KeepsOthers t few numbers) where
    pub slot_claims : (Q R : Exec → List Sig → Ex → Type 0) → Turns Q R → (n : Exec) (x : Ex) → ClaimsSlot t few Q n x → ExLasts t few numbers n x → ClaimsSlot t less R n x
    slot_claims Q R turns n x k l = by_fewer keeps n Q R turns x.links.stage x k l

    pub env_claims : (Q R : Exec → List Sig → Ex → Type 0) → Turns Q R → (e : Env) → ClaimsEnv t few Q e → EnvBy (ExLasts t few numbers) e → ClaimsEnv t less R e
    env_claims Q R turns e k l = both_env (ClaimsSlot t few Q) (ExLasts t few numbers) (ClaimsSlot t less R) (λ n x h i. slot_claims Q R turns n x h i) e k l

    pub env_fewer : (e : Env) → EnvBy (KnowsSlot t few) e → EnvBy (ExLasts t few numbers) e → EnvBy (KnowsSlot t less) e
    env_fewer e k l = env_claims Anything Anything (λ n gs x same h i. tt) e k l

    pub state_fewer : (given : List Ty) (s : State) → EnvBy (ExLasts t few numbers) s.env → (x : KnowsState t few given s) → RunLasts t few numbers given s x → KnowsState t less given s
    state_fewer given s e x l = record {
      sigs = x.sigs;
      frames = top_frames keeps s.env.exec x.sigs s.env.frames s.run s.callers l.waiting x.frames;
      run = active_fewer keeps s.env.exec x.sigs given s.callers s.run x.run l.waiting l.operands;
      callers = waits_fewer keeps s.env.exec (others x.sigs) s.callers l.waiting x.callers;
      env = env_fewer s.env x.env e;
    }

  -- what is in scope

  module _ (keeps : KeepsOthers t few numbers) (K : BehindMark) (n : Exec) (L : Value → Ty → Type 0) (lasts : Lasts t few numbers L) where
    module _ (f : ℕ) (this : Value) (cs : List Active) (others : (c : CleanUp) (todo : List Todo) (v : Value) (e : Ty) → K (Outwards t few n f this cs c todo) n f this cs v e → Outwards t few n f this cs c todo v e ⊎ L v e) where
      abbrev Before : List Todo → Value → Ty → Type 0
      Before todo v e = InTodo (IsFor t (Frame n f) this) (AtField t (Frame n f) this) todo v e ⊎ Outer t few n cs v e

      mark_fewer : (vs : List Value) (k : Sort) (todo : List Todo) (A B : Type 0) → ((v : Value) (e : Ty) → Marks (IsFor t (Frame n f) this) (AtField t (Frame n f) this) k v e (InTodo (IsFor t (Frame n f) this) (AtField t (Frame n f) this) todo v e) ⊎ Outer t few n cs v e → L v e) → (Less t few n (Before todo) L → A → B) → MarkHoldsBy t few K n vs f this cs k todo A → MarkHoldsBy t less K n vs f this cs k todo B
      mark_fewer vs (piece.IsClean c) todo A B more next h =
          ((λ j a x p b w i. known_fewer keeps n (K (Outwards t few n f this cs c todo) n f this cs) (lasts_less n (K (Outwards t few n f this cs c todo) n f this cs) L (λ v e y. ⊎_elim (λ z. more v e z) (λ z. z) (others c todo v e y)) lasts) b _ (h.0 j a x p b w i)), next (λ v e y. more v e (⊎_elim (λ z. inl (inr z)) (λ z. inr z) y)) h.1)
      mark_fewer vs (piece.IsPart c) todo A B more next h = next (λ v e y. more v e (⊎_elim (λ z. inl (inr z)) (λ z. inr z) y)) h
      mark_fewer vs piece.Simple todo A B more next h = next more h
      mark_fewer vs (piece.IsLoop o e x b) todo A B more next h = next more h
      mark_fewer vs piece.IsWhole todo A B more next h = next more h
      mark_fewer vs (piece.IsFill m b d) todo A B more next h = next more h
      mark_fewer vs (piece.IsSweep e) todo A B more next h = next more h
      mark_fewer vs (piece.IsGuard hs) todo A B more next h = next more h
      mark_fewer vs piece.IsFinish todo A B more next h = next more h
      mark_fewer vs piece.IsFinishCoroutine todo A B more next h = next more h

      holds_fewer : (vs : List Value) (todo : List Todo) → Less t few n (Before todo) L → AllHoldBy t few K n vs f this cs todo → AllHoldBy t less K n vs f this cs todo
      holds_fewer vs [] more h = tt
      holds_fewer vs (p ∷ todo) more h = mark_fewer vs (piece.sort p) todo _ _ more (λ more h. holds_fewer vs todo more h) h

    stack_fewer : (fs : List (List Value)) (cs : List Active) → AllBehind t n few K L cs → Less t few n (Around t few n cs) L → LifeStackBy t few K n fs cs → LifeStackBy t less K n fs cs
    stack_fewer fs [] others more h = tt
    stack_fewer fs (c ∷ older) others more h =
        (h.0, holds_fewer c.frame c.this older others.0 (frame_at c.frame fs) c.control more h.1, stack_fewer fs older others.1 (λ v e y. more v e (inr (around_outer t few n older v e y))) h.2)

  -- where nothing but numbers stands in frames nothing is bound

  frame_numbers : (fs : List (List Value)) (f : ℕ) → FramesNumbers fs → AllNumbers (frame_at f fs)
  frame_numbers [] f z = tt
  frame_numbers (x ∷ fs) f z = either (λ o. AllNumbers (list_in o)) (nat_eq f (length fs)) (Some x) (at_depth fs f) z.0 (frame_numbers fs f z.1)

  at_number : (P : Value → Type 0) → ((i : ℤ) → P (Number i)) → (vs : List Value) (k : ℕ) → AllNumbers vs → P (slice_index_or vs k nought)
  at_number P f [] k z = f _
  at_number P f (Number i ∷ vs) zero z = f i
  at_number P f (Number i ∷ vs) (suc k) z = at_number P f vs k z
  at_number P f (Place o p ∷ vs) k z = absurd z
  at_number P f (Running x ∷ vs) k z = absurd z
  at_number P f (Object o ∷ vs) k z = absurd z
  at_number P f (Nothing ∷ vs) k z = absurd z

  module _ (keeps : KeepsOthers t few numbers) (K : BehindMark) (n : Exec) where
    module _ (f : ℕ) (this : Value) (cs : List Active) (vs : List Value) (z : AllNumbers vs) where
      mark_blank : (k : Sort) (todo : List Todo) (A B : Type 0) → (A → B) → MarkHoldsBy t few K n vs f this cs k todo A → MarkHoldsBy t less K n vs f this cs k todo B
      mark_blank (piece.IsClean c) todo A B next h =
          ((λ j a x p b w i. at_number (λ v. Known t few n (K (Outwards t few n f this cs c todo) n f this cs) b v → Known t less n (K (Outwards t few n f this cs c todo) n f this cs) b v) (λ y. number_fewer keeps n (K (Outwards t few n f this cs c todo) n f this cs) b y) vs (address p) z (h.0 j a x p b w i)), next h.1)
      mark_blank (piece.IsPart c) todo A B next h = next h
      mark_blank piece.Simple todo A B next h = next h
      mark_blank (piece.IsLoop o e x b) todo A B next h = next h
      mark_blank piece.IsWhole todo A B next h = next h
      mark_blank (piece.IsFill m b d) todo A B next h = next h
      mark_blank (piece.IsSweep e) todo A B next h = next h
      mark_blank (piece.IsGuard hs) todo A B next h = next h
      mark_blank piece.IsFinish todo A B next h = next h
      mark_blank piece.IsFinishCoroutine todo A B next h = next h

      holds_blank : (todo : List Todo) → AllHoldBy t few K n vs f this cs todo → AllHoldBy t less K n vs f this cs todo
      holds_blank [] h = tt
      holds_blank (p ∷ todo) h = mark_blank (piece.sort p) todo _ _ (holds_blank todo) h

    stack_blank : (fs : List (List Value)) (cs : List Active) → FramesNumbers fs → LifeStackBy t few K n fs cs → LifeStackBy t less K n fs cs
    stack_blank fs [] z h = tt
    stack_blank fs (c ∷ older) z h =
        (h.0, holds_blank c.frame c.this older (frame_at c.frame fs) (frame_numbers fs c.frame z) c.control h.1, stack_blank fs older z h.2)

    -- no scope is open where an activation only comes to its end
    silent : (vs : List Value) (f : ℕ) (this : Value) (cs : List Active) (todo : List Todo) → AllSilent todo → AllHoldBy t less K n vs f this cs todo
    silent vs f this cs [] s = tt
    silent vs f this cs (piece.Within line ∷ todo) s = silent vs f this cs todo s
    silent vs f this cs (piece.Exit w ∷ todo) s = silent vs f this cs todo s
    silent vs f this cs (piece.NoReturnNow ∷ todo) s = silent vs f this cs todo s
    silent vs f this cs (piece.Unwind ∷ todo) s = silent vs f this cs todo s
    silent vs f this cs (piece.ChildNow r ∷ todo) s = silent vs f this cs todo s
    silent vs f this cs (piece.Finish ∷ todo) s = silent vs f this cs todo s
    silent vs f this cs (piece.FinishCoroutine ∷ todo) s = silent vs f this cs todo s
    silent vs f this cs (p ∷ todo) s = absurd s

  -- what variables in scope hold, by the kinds of frames

  module _ (keeps : KeepsOthers t few numbers) where
    at_hand_fewer : (n : Exec) (gs : List Sig) (fs : List (List Value)) (cs : List Active) → length cs ≤ length gs → Lasts t few numbers (AtHand t few n gs cs) → LifeStackBy t few (OutwardsOrMade gs) n fs cs → LifeStackBy t less (OutwardsOrMade gs) n fs cs
    at_hand_fewer n gs fs cs l lasts h =
        stack_fewer keeps (OutwardsOrMade gs) n (AtHand t few n gs cs) lasts fs cs (made_behind t few n gs (AtHand t few n gs cs) cs (λ w a m. inr (inl (making_here t few gs cs w a (below t few (OutwardsOrMade gs) n fs cs h) l m)))) (around_hand t few n gs cs) h

    -- of those that wait, by what they have at hand
    waits_lives : (n : Exec) (gs : List Sig) (fs : List (List Value)) (cs : List Active) → length cs ≤ length (others gs) → Lasts t few numbers (AtHand t few n (others gs) cs) → LifeStackBy t few (OutwardsOrMade gs) n fs cs → LifeStackBy t less (OutwardsOrMade gs) n fs cs
    waits_lives n gs fs cs l lasts h =
        let b = below t few (OutwardsOrMade gs) n fs cs h in
        stack_fewer keeps (OutwardsOrMade gs) n (AtHand t few n (others gs) cs) lasts fs cs (made_behind t few n gs (AtHand t few n (others gs) cs) cs (λ w a m. inr (inl (making_here t few (others gs) cs w a b l (in_older t few gs cs w a b l m))))) (around_hand t few n (others gs) cs) h

    pub lives_fewer : Turns (Lives t few) (Lives t less)
    lives_fewer n gs x same h (inl l) = record {
      frames = h.frames;
      stack = let f = h.frames in at_hand_fewer n gs x.frames (x.run ∷ x.callers) (omega (arith, same, f)) l h.stack;
    }
    lives_fewer n gs x same h (inr l) = record { frames = h.frames; stack = stack_blank keeps (OutwardsOrMade gs) n x.frames (x.run ∷ x.callers) l.frames h.stack }

    pub running_lives : (n : Exec) (gs : List Sig) (x : Ex) → length x.frames ≡ length gs → Lives t few n gs x → Lasts t few numbers (AtHand t few n (others gs) x.callers) → Lasts t few numbers (AtHand t few n gs (x.run ∷ x.callers)) ⊎ AllSilent x.run.control → Lives t less n gs x
    running_lives n gs x same h w (inl l) = lives_fewer n gs x same h (inl l)
    running_lives n gs x same h w (inr s) = record {
      frames = h.frames;
      stack = let f = h.frames in (h.stack.0, silent keeps (OutwardsOrMade gs) n (frame_at x.run.frame x.frames) x.run.frame x.run.this x.callers x.run.control s, waits_lives n gs x.frames x.callers (others_le gs (length x.callers) (omega (arith, same, f))) w h.stack.2);
    }

    -- all is known then by kinds by which they hold what is known
    pub slot_lives : (n : Exec) (x : Ex) → ClaimsSlot t few (Lives t few) n x → ExLasts t few numbers n x → ClaimsSlot t less (Lives t less) n x
    slot_lives n x k l = slot_claims keeps (Lives t few) (Lives t less) lives_fewer n x k l

    pub env_lives : (e : Env) → ClaimsEnv t few (Lives t few) e → EnvBy (ExLasts t few numbers) e → ClaimsEnv t less (Lives t less) e
    env_lives e k l = env_claims keeps (Lives t few) (Lives t less) lives_fewer e k l

    pub state_lives : (given : List Ty) (s : State) → EnvBy (ExLasts t few numbers) s.env → ((k : KnowsState t few given s) → RunLasts t few numbers given s k) → Claimed (Lives t few) t few given s → Claimed (Lives t less) t less given s
    state_lives given s e l x =
        let r = l (plain t few (Lives t few) given s x.0) in (
          record {
            sigs = x.0.sigs;
            frames = top_frames keeps s.env.exec x.0.sigs s.env.frames s.run s.callers r.waiting x.0.frames;
            run = active_fewer keeps s.env.exec x.0.sigs given s.callers s.run x.0.run r.waiting r.operands;
            callers = waits_fewer keeps s.env.exec (others x.0.sigs) s.callers r.waiting x.0.callers;
            env = env_lives s.env x.0.env e;
          },
          running_lives s.env.exec x.0.sigs (stopped s) (frames_length t few s.env.exec x.0.sigs s.env.frames (s.run ∷ s.callers) x.0.frames) x.1 r.waiting r.operands,
        )

pub law_fewer : LawFewer
law_fewer = record {
  lives = λ t few numbers keeps given s l x r. state_lives t few numbers keeps given s l r x;
  knows = λ t few numbers keeps given s l x r. state_fewer t few numbers keeps given s l x r;
}
