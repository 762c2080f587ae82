-- Every quiet step of a task leads to where those that are up are held, or held soon, and so does each answer of the form that was asked for.
use Rattle.std.proofs.Common.{◌≡◌, ℕ, zero, suc, ◌<◌, ◌⊎◌, inl, inr, ⊎_elim, Bool, true, List, [], ◌∷◌, length, Option, Some, None, refl, sym, ap, ◌∙◌, subst, arith}
use Rattle.uc_machine.specs.declared.exec.Exec.{Exec}
use Rattle.uc_machine.specs.Pieces.{Active}
use Rattle.std.specs.Prelude.{nat_lt, slice_get, drop}
use Rattle.uc_tree.specs.Source as src
use Rattle.uc_tree.specs.Source.{Source, Stmts, Expr}
use Rattle.uc_entry.specs.declared.request.Answer.{Answer}
use Rattle.uc_entry.specs.declared.request.Answer.TheVariants as answer
use Rattle.uc_entry.specs.declared.request.Request.{Request}
use Rattle.uc_entry.specs.declared.request.Request.TheVariants as ask
use Rattle.uc_answer_laws.specs.Suiting.{Form, IsForm, JustGo, form_of_request}
use Rattle.uc_machine.specs.declared.exec.Home.TheVariants as home
use Rattle.uc_machine.specs.Executions.{take_operands, others, frame_changed, values_cleared}
use Rattle.uc_machine.specs.Raising as raising
use Rattle.uc_machine.specs.Monitors as monitors
use Rattle.uc_machine.specs.Quiet as quiet
use Rattle.uc_machine.specs.Pieces as piece
use Rattle.uc_machine.specs.Pieces.{Value, Todo, Sort, State, Members, Step, Goes, Ticks, Asks, at, top, number, nought}
use Rattle.uc_machine.specs.Answering.{answered, entered, new_members, with_operand}
use Rattle.uc_life_laws.specs.LifeStates.{MembersBy}
use Rattle.uc_life_laws.specs.Held.{Seating, NamedAt, NoMain, Stays, HeldBy, HeldIn, Held, Onwards, SoonIn, Soon, SoonFrom, GoesNext, SoonHere, SoonAsked, AllNamed, HeldEx, HeldState, HeldAsked, HeldAsk, HeldStep, IsOwn, LeadsSoon, HoldsNow, OfCounted, HoldsCounted, IsHeld, IsWaitedFor, ClearsBehind, LetsGo, TakesAt, TakesNow}
use Rattle.uc_life_laws.proofs.Cells.{either}
use Rattle.uc_life_laws.proofs.HeldKeeping as kept
use Rattle.uc_life_laws.proofs.HeldKeeping.{FullState}
use Rattle.uc_life_laws.proofs.FirstCells.{named_told, in_cleared, in_older}
use Rattle.uc_life_laws.proofs.Parked as parked
use Rattle.uc_life_laws.proofs.HeldSteps as steps
use Rattle.uc_life_laws.proofs.HeldSteps.{Walked}

module _ (source : Source) (seats : Seating) (up : Exec → Bool) (s : State) where
  -- what holds an execution in what is to do, with that in waiting activations
  abbrev Behind : Exec → List Todo → Type 0
  Behind x todo = HeldIn source (seats.seat x) (seats.before x) s.env.exec s.run.frame s.run.this s.run.elements s.callers (Held source (seats.seat x) (seats.before x) s.env.exec s.callers) todo

  -- but for marks that stand for so many elements
  abbrev UncountedBy : Exec → Sort → List Todo → Type 0 → Type 0
  UncountedBy x (piece.IsClean c) todo rest = HoldsNow source seats up s x (piece.IsClean c) todo ⊎ rest
  UncountedBy x (piece.IsPart c) todo rest = HoldsNow source seats up s x (piece.IsPart c) todo ⊎ rest
  UncountedBy x k todo rest = rest

  abbrev Uncounted : Exec → List Todo → Type 0
  Uncounted x [] = Held source (seats.seat x) (seats.before x) s.env.exec s.callers
  Uncounted x (p ∷ todo) = UncountedBy x (piece.sort p) todo (Uncounted x todo)

  -- but for what a step takes away
  abbrev KeptIn : Exec → List Todo → Type 0
  KeptIn x [] = Behind x []
  KeptIn x (piece.Clean c ∷ todo) = Behind x todo
  KeptIn x (piece.Part c ∷ todo) = Behind x todo
  KeptIn x (piece.FillNow m b d ∷ todo) = Behind x todo
  KeptIn x (piece.Sweep d ∷ todo) = Uncounted x todo
  KeptIn x (piece.CountNow m ∷ todo) = Uncounted x todo
  KeptIn x (piece.MoreNow ∷ todo) = Uncounted x todo
  KeptIn x (piece.Unwind ∷ (p ∷ todo)) = Behind x todo
  KeptIn x (piece.Exit way ∷ (p ∷ todo)) = Behind x todo
  KeptIn x (p ∷ todo) = Behind x (p ∷ todo)

  -- it holds still where elements are counted anew
  recount_by : (x : Exec) (e : ℕ) (k : Sort) (todo : List Todo) (R T : Type 0) → (R → T) → UncountedBy x k todo R → HeldBy source (seats.seat x) (seats.before x) s.env.exec s.run.frame s.run.this e k todo s.callers T
  recount_by x e (piece.IsClean c) todo R T f (inl h) = inl h
  recount_by x e (piece.IsClean c) todo R T f (inr r) = inr (f r)
  recount_by x e (piece.IsPart c) todo R T f (inl h) = inl h
  recount_by x e (piece.IsPart c) todo R T f (inr r) = inr (f r)
  recount_by x e piece.Simple todo R T f r = f r
  recount_by x e (piece.IsLoop o t y q) todo R T f r = f r
  recount_by x e piece.IsWhole todo R T f r = f r
  recount_by x e (piece.IsFill k y z) todo R T f r = inr (f r)
  recount_by x e (piece.IsSweep y) todo R T f r = inr (f r)
  recount_by x e (piece.IsGuard y) todo R T f r = f r
  recount_by x e piece.IsFinish todo R T f r = f r
  recount_by x e piece.IsFinishCoroutine todo R T f r = f r

  recount : (x : Exec) (e : ℕ) (todo : List Todo) → Uncounted x todo → HeldIn source (seats.seat x) (seats.before x) s.env.exec s.run.frame s.run.this e s.callers (Held source (seats.seat x) (seats.before x) s.env.exec s.callers) todo
  recount x e [] h = h
  recount x e (piece.CountNow m ∷ (piece.FillNow k b d ∷ todo)) h = recount x e todo h
  recount x e (p ∷ todo) h = recount_by x e (piece.sort p) todo (Uncounted x todo) _ (recount x e todo) h

  -- a mark holds, or what is behind it
  split : (x : Exec) (k : Sort) (todo : List Todo) (R : Type 0) → HeldBy source (seats.seat x) (seats.before x) s.env.exec s.run.frame s.run.this s.run.elements k todo s.callers R → HoldsNow source seats up s x k todo ⊎ R
  split x (piece.IsClean c) todo R h = h
  split x (piece.IsPart c) todo R h = h
  split x piece.Simple todo R h = inr h
  split x (piece.IsLoop o t y q) todo R h = inr h
  split x piece.IsWhole todo R h = inr h
  split x (piece.IsFill k y z) todo R h = h
  split x (piece.IsSweep y) todo R h = h
  split x (piece.IsGuard y) todo R h = inr h
  split x piece.IsFinish todo R h = inr h
  split x piece.IsFinishCoroutine todo R h = inr h

  split_in : (x : Exec) (p : Todo) (todo : List Todo) → Behind x (p ∷ todo) → HoldsNow source seats up s x (piece.sort p) todo ⊎ Behind x todo
  split_in x (piece.CountNow m) (piece.FillNow k b d ∷ todo) h = inr (inr h)
  split_in x p todo h = split x (piece.sort p) todo (Behind x todo) h

  -- a mark that counts holds, or another one
  count_by : (x : Exec) (k : Sort) (todo : List Todo) (R C U : Type 0) → (R → C ⊎ U) → HeldBy source (seats.seat x) (seats.before x) s.env.exec s.run.frame s.run.this s.run.elements k todo s.callers R → OfCounted source seats up s x k todo C ⊎ UncountedBy x k todo U
  count_by x (piece.IsClean c) todo R C U f (inl h) = inr (inl h)
  count_by x (piece.IsClean c) todo R C U f (inr r) = ⊎_elim (λ y. inl y) (λ y. inr (inr y)) (f r)
  count_by x (piece.IsPart c) todo R C U f (inl h) = inr (inl h)
  count_by x (piece.IsPart c) todo R C U f (inr r) = ⊎_elim (λ y. inl y) (λ y. inr (inr y)) (f r)
  count_by x piece.Simple todo R C U f r = f r
  count_by x (piece.IsLoop o t y q) todo R C U f r = f r
  count_by x piece.IsWhole todo R C U f r = f r
  count_by x (piece.IsFill k y z) todo R C U f (inl h) = inl (inl h)
  count_by x (piece.IsFill k y z) todo R C U f (inr r) = ⊎_elim (λ y. inl (inr y)) (λ y. inr y) (f r)
  count_by x (piece.IsSweep y) todo R C U f (inl h) = inl (inl h)
  count_by x (piece.IsSweep y) todo R C U f (inr r) = ⊎_elim (λ y. inl (inr y)) (λ y. inr y) (f r)
  count_by x (piece.IsGuard y) todo R C U f r = f r
  count_by x piece.IsFinish todo R C U f r = f r
  count_by x piece.IsFinishCoroutine todo R C U f r = f r

  counted : (x : Exec) (todo : List Todo) → Behind x todo → HoldsCounted source seats up s x todo ⊎ Uncounted x todo
  counted x [] h = inr h
  counted x (piece.CountNow m ∷ (piece.FillNow k b d ∷ todo)) h = counted x todo h
  counted x (p ∷ todo) h = count_by x (piece.sort p) todo (Behind x todo) (HoldsCounted source seats up s x todo) (Uncounted x todo) (counted x todo) h

  -- what a step takes away leads on, or what it keeps holds
  parted : (l : List Todo) → TakesAt source seats up l s → (x : Exec) → IsOwn source seats up s x → Behind x l → LeadsSoon source seats up s x ⊎ KeptIn x l
  parted [] o x w h = inr h
  parted (piece.Clean c ∷ todo) o x w h = ⊎_elim (λ k. inl (o x w k)) (λ r. inr r) h
  parted (piece.Part c ∷ todo) o x w h = ⊎_elim (λ k. inl (o x w k)) (λ r. inr r) h
  parted (piece.FillNow m b d ∷ todo) o x w h = ⊎_elim (λ k. inl (o x w k)) (λ r. inr r) h
  parted (piece.Sweep d ∷ todo) o x w h = ⊎_elim (λ k. inl (o.0 x w k)) (λ r. ⊎_elim (λ k. inl (o.1 x w k)) (λ u. inr u) (counted x todo r)) h
  parted (piece.CountNow m ∷ (piece.FillNow k b d ∷ todo)) o x w h = ⊎_elim (λ y. inl (o x w y)) (λ u. inr u) (counted x todo h)
  parted (piece.CountNow m ∷ todo) o x w h = ⊎_elim (λ k. inl (o x w k)) (λ u. inr u) (counted x todo h)
  parted (piece.MoreNow ∷ todo) o x w h = ⊎_elim (λ k. inl (o x w k)) (λ u. inr u) (counted x todo h)
  parted (piece.Unwind ∷ []) o x w h = inr h
  parted (piece.Unwind ∷ (p ∷ todo)) o x w h = ⊎_elim (λ k. inl (o x w k)) (λ r. inr r) (split_in x p todo h)
  parted (piece.Exit way ∷ []) o x w h = inr h
  parted (piece.Exit way ∷ (p ∷ todo)) o x w h = ⊎_elim (λ k. inl (o x w k)) (λ r. inr r) (split_in x p todo h)
  parted (p ∷ todo) o x w h = inr h

  -- behind the end of a main that is left
  no_main : (x : Exec) (k : Sort) (todo : List Todo) (R : Type 0) → (NoMain k → ⊥) → HoldsNow source seats up s x k todo ⊎ R → R
  no_main x piece.IsFinishCoroutine todo R f (inl h) = absurd h
  no_main x piece.IsFinishCoroutine todo R f (inr h) = h
  no_main x k todo R f h = absurd (f tt)

  module _ (st : HeldState source seats up s) where
    -- who is held otherwise
    abbrev H : Exec → Type 0
    H x = Behind x s.run.control × KeptIn x s.run.control

    old : (x : Exec) → up x ≡ true → seats.parent x ≡ s.env.exec → H x → Held source (seats.seat x) (seats.before x) s.env.exec (s.run ∷ s.callers)
    old x u p h = h.0

    abbrev WStep : Step → Type 0
    WStep step = steps.WStep source seats up H s st.env st.named old step

    abbrev Holding : List Todo → Type 0
    Holding todo = (x : Exec) → up x ≡ true → seats.parent x ≡ s.env.exec → H x → Behind x todo

    abbrev Keeping : List Todo → Type 0
    Keeping todo = (x : Exec) → up x ≡ true → seats.parent x ≡ s.env.exec → H x → KeptIn x todo

    -- where the object of a task goes next no other execution comes to run, and its main is not up
    goes_stays : (x : Exec) (l : List Todo) → GoesNext source (seats.seat x) (seats.before x) s.env.exec l s.run s.callers → Stays source (seats.seat x) (seats.before x) s.env.exec s.callers l
    goes_stays x [] h = absurd h
    goes_stays x (piece.GoneNow ∷ todo) h = tt
    goes_stays x (p ∷ todo) h = absurd h

    gone_by : (x : Exec) → IsOwn source seats up s x → (l : List Todo) → TakesAt source seats up l s → GoesNext source (seats.seat x) (seats.before x) s.env.exec l s.run s.callers → ⊥
    gone_by x w [] o h = h
    gone_by x w (piece.GoneNow ∷ todo) o h = o x w h.0 h.1
    gone_by x w (p ∷ todo) o h = h

    -- all are held where another execution may run, and where cells start anew or a frame goes
    abbrev StaysFor : Exec → List Todo → Type 0
    StaysFor x l = Stays source (seats.seat x) (seats.before x) s.env.exec s.callers l

    by_soon : (x : Exec) → SoonHere source (seats.seat x) (seats.before x) s.env.exec s → Held source (seats.seat x) (seats.before x) s.env.exec (s.run ∷ s.callers) ⊎ StaysFor x s.run.control
    by_soon x (inl (zero, (zero, h))) = inl h
    by_soon x (inl (zero, (suc k, h))) = inr h.0
    by_soon x (inl (suc k, h)) = inr h.0
    by_soon x (inr h) = inr (goes_stays x s.run.control h)

    held_or : (l : List Todo) → s.run.control ≡ l → (x : Exec) → up x ≡ true → seats.parent x ≡ s.env.exec → IsHeld source seats up s x ⊎ StaysFor x l
    held_or l e x u p = subst (λ l. IsHeld source seats up s x ⊎ StaysFor x l) e (by_soon x (st.soon x u p))

    full : (l : List Todo) → s.run.control ≡ l → ((x : Exec) → StaysFor x l → ⊥) → (x : Exec) → up x ≡ true → seats.parent x ≡ s.env.exec → Behind x l
    full l e f x u p = subst (Behind x) e (⊎_elim (λ h. h) (λ y. absurd (f x (subst (StaysFor x) e y))) (by_soon x (st.soon x u p)))

    at_full : (todo : List Todo) (vs : List Value) → ((x : Exec) → up x ≡ true → seats.parent x ≡ s.env.exec → Behind x todo) → FullState source seats up (at todo vs s)
    at_full todo vs h = record { stack = h; named = st.named; env = st.env }

    -- first cells name what they named where cells behind them start anew, and where another frame goes
    cleared_named : (k m : ℕ) (todo : List Todo) → s.run.control ≡ piece.ClearNow k m ∷ todo → ClearsBehind source seats up s k → AllNamed source seats up s.env.exec s.callers (frame_changed s.run.frame (values_cleared k m nought) s.env.frames)
    cleared_named k m todo e o x u p t =
        let held : IsHeld source seats up s x = ⊎_elim (λ h. h) (λ z. absurd z) (held_or (piece.ClearNow k m ∷ todo) e x u p) in
        named_told s.env.exec s.callers s.callers s.env.frames (frame_changed s.run.frame (values_cleared k m nought) s.env.frames) x (seats.seat x).place (λ d q i n. in_cleared s.env.exec s.callers s.env.frames x s.env.exec d q n s.run.frame k m (o x (u, p) t held d q i)) (st.named x u p t)

    popped : (l : List Todo) → s.run.control ≡ l → ((x : Exec) → StaysFor x l → IsWaitedFor source seats up s x) → LetsGo source seats up s → steps.Popped source seats up H s st.env st.named old s.callers
    popped l e f o = by s.callers refl
      where
        by : (cs : List Active) → s.callers ≡ cs → steps.Popped source seats up H s st.env st.named old cs
        by [] c = tt
        by (b ∷ older) c = λ x u p t. one x u p t
          where
            less : (d : ℕ) → (s.callers ≡ []) ⊎ (d < length s.callers) → d < suc (length older)
            less d (inl z) = let none : b ∷ older ≡ [] = sym c ∙ z in absurd (cc)
            less d (inr l) = let n : length s.callers ≡ suc (length older) = ap length c in omega (arith, l, n)

            one : AllNamed source seats up s.env.exec older (others s.env.frames)
            one x u p t =
                let k = ⊎_elim (λ h. inl h) (λ y. inr (f x y)) (held_or l e x u p) in
                let old_names : NamedAt s.env.exec (b ∷ older) s.env.frames x (seats.seat x).place = subst (λ cs. NamedAt s.env.exec cs s.env.frames x (seats.seat x).place) c (st.named x u p t) in
                named_told s.env.exec (b ∷ older) older s.env.frames (others s.env.frames) x (seats.seat x).place (λ d q i n. in_older s.env.exec b older s.env.frames x s.env.exec d q (less d (o x (u, p) t k d q i)) n) old_names

    go : (todo : List Todo) (vs : List Value) → Holding todo → steps.Done source seats up H s st.env st.named old (at todo vs s)
    go = steps.go source seats up H s st.env st.named old

    -- the statements that are left of a block
    rests : (ss : Stmts) (todo : List Todo) → Holding todo → WStep (quiet.rest_step ss todo s)
    rests src.Nil todo h = go _ _ h
    rests (src.Then a ss) todo h = go _ _ h
    rests (src.Scoped c ss) todo h = go _ _ (λ x u p q. inr (h x u p q))
    rests (src.Built c ss) todo h = go _ _ (λ x u p q. inr (h x u p q))

    swept : (n : ℕ) (d : Expr) (todo : List Todo) → ((x : Exec) → up x ≡ true → seats.parent x ≡ s.env.exec → H x → Uncounted x todo) → WStep (quiet.sweep_step n d todo s)
    swept zero d todo h = go _ _ (λ x u p q. recount x s.run.elements todo (h x u p q))
    swept (suc n) d todo h = inl (record { exec = refl; stack = λ x u p q. inr (recount x n todo (h x u p q)); named = st.named; env = st.env })

    -- one piece, with what is to do behind it
    acts : (p : Todo) (todo : List Todo) → s.run.control ≡ p ∷ todo → TakesAt source seats up (p ∷ todo) s → Keeping (p ∷ todo) → WStep (quiet.act source p todo s)
    acts (piece.Eval a) todo e o h = steps.eval source seats up H s st.env st.named old a todo h
    acts (piece.ElementNow m k) todo e o h = steps.element source seats up H s st.env st.named old k _ todo _ _ h
    acts piece.NegateNow todo e o h = steps.outcome source seats up H s st.env st.named old _ todo _ h
    acts (piece.OperateNow op) todo e o h = steps.outcome source seats up H s st.env st.named old _ todo _ h
    acts piece.StoreNow todo e o h = steps.go_in source seats up H s st.env st.named old _ _ _ (kept.written_keeps source seats up (top (piece.below s.run.operands)) (piece.Number (number (top s.run.operands))) s.env st.env) h
    acts piece.KeepNow todo e o h = steps.go_in source seats up H s st.env st.named old _ _ _ (kept.written_keeps source seats up (top (piece.below s.run.operands)) (piece.Number (number (top s.run.operands))) s.env st.env) h
    acts (piece.SetNow k) todo e o h = steps.go_in source seats up H s st.env st.named old _ _ _ (kept.written_keeps source seats up (piece.variable_at k s) (piece.Number (number (top s.run.operands))) s.env st.env) h
    acts piece.BindNow todo e o h = steps.go_in source seats up H s st.env st.named old _ _ _ (kept.written_keeps source seats up (top (piece.below s.run.operands)) (top s.run.operands) s.env st.env) h
    acts (piece.Arguments src.NoExprs) todo e o h = go _ _ h
    acts (piece.Arguments (src.MoreExprs a es)) todo e o h = go _ _ h
    acts (piece.CallNow r) todo e o h = steps.call source seats up H s st.env st.named old (slice_get source.routines r) todo h
    acts (piece.CallOnNow r) todo e o h = steps.call_on source seats up H s st.env st.named old (slice_get source.routines r) todo h
    acts (piece.CallUnwrittenNow r) todo e o h = steps.call_unwritten source seats up H s st.env st.named old (slice_get source.routines r) todo h
    acts (piece.CountNow m) todo e o h = inl (record { exec = refl; stack = λ x u p q. recount x m todo (h x u p q); named = st.named; env = st.env })
    acts piece.MoreNow todo e o h = inl (record { exec = refl; stack = λ x u p q. recount x _ todo (h x u p q); named = st.named; env = st.env })
    acts (piece.FillNow m b d) todo e o h = go _ _ (steps.filled source seats up H s.env.exec s.run.frame s.run.this s.run.elements s.callers (λ x. Held source (seats.seat x) (seats.before x) s.env.exec s.callers) (nat_lt s.run.elements m) m b d todo h)
    acts (piece.Again order c step b) todo e o h = go _ _ (either (Holding) (piece.is_zero (number (top s.run.operands))) todo (piece.TurnNow order c step b ∷ todo) h h)
    acts (piece.PrintNow form) todo e o h = steps.prints source seats up H s st.env st.named old s.env.gathered _ todo _ h
    acts (piece.TextNow k) todo e o h = steps.prints source seats up H s st.env st.named old s.env.gathered _ todo _ h
    acts piece.GatherNow todo e o h = steps.go_in source seats up H s st.env st.named old _ _ _ (steps.same source seats up H s st.env st.named old refl refl refl refl refl) h
    acts piece.FlushNow todo e o h = steps.flushes source seats up H s st.env st.named old s.env.gathered todo _ h
    acts (piece.ClearNow k m) todo e o h = steps.clears source seats up H s st.env st.named old k m todo (cleared_named k m todo e o) h
    acts (piece.Items []) todo e o h = go _ _ h
    acts (piece.Items (i ∷ is)) todo e o h = go _ _ (steps.item source seats up H s.env.exec s.run.frame s.run.this s.run.elements s.callers (λ x. Held source (seats.seat x) (seats.before x) s.env.exec s.callers) i (piece.Items is ∷ todo) h)
    acts (piece.Values []) todo e o h = go _ _ h
    acts (piece.Values (i ∷ is)) todo e o h = go _ _ (steps.item_value source seats up H s.env.exec s.run.frame s.run.this s.run.elements s.callers (λ x. Held source (seats.seat x) (seats.before x) s.env.exec s.callers) i (piece.Values is ∷ todo) h)
    acts (piece.Pieces []) todo e o h = go _ _ h
    acts (piece.Pieces (i ∷ is)) todo e o h = go _ _ (steps.item_piece source seats up H s.env.exec s.run.frame s.run.this s.run.elements s.callers (λ x. Held source (seats.seat x) (seats.before x) s.env.exec s.callers) i todo h)
    acts (piece.Targets []) todo e o h = go _ _ h
    acts (piece.Targets (x ∷ xs)) todo e o h = go _ _ h
    acts (piece.Variables []) todo e o h = go _ _ h
    acts (piece.Variables (d ∷ ds)) todo e o h = go _ _ (steps.starts source seats up H s.env.exec s.run.frame s.run.this s.run.elements s.callers (λ x. Held source (seats.seat x) (seats.before x) s.env.exec s.callers) d.cell d.value (piece.Variables ds ∷ todo) h)
    acts (piece.Do a) todo e o h = steps.stmt source seats up H s st.env st.named old a todo h
    acts (piece.Rest ss) todo e o h = rests ss todo h
    acts (piece.Exit w) [] e o h = steps.end_step source seats up H s st.env st.named old w (popped (piece.Exit w ∷ []) e (λ x z. absurd z) o) h
    acts (piece.Exit w) (p ∷ ps) e o h = steps.exits source seats up H s st.env st.named old w p ps h
    acts (piece.InLoop order c step b) todo e o h = go _ _ (steps.stepped source seats up H s.env.exec s.run.frame s.run.this s.run.elements s.callers (λ x. Held source (seats.seat x) (seats.before x) s.env.exec s.callers) step _ (steps.tested source seats up H s.env.exec s.run.frame s.run.this s.run.elements s.callers (λ x. Held source (seats.seat x) (seats.before x) s.env.exec s.callers) order c step b todo h))
    acts (piece.Clean c) todo e o h = go _ _ (steps.cleans source seats up H s.env.exec s.run.frame s.run.this s.run.elements s.callers (λ x. Held source (seats.seat x) (seats.before x) s.env.exec s.callers) c todo h)
    acts (piece.Sweep a) todo e o h = swept s.run.elements a todo h
    acts piece.Unwind [] e o h = steps.leaves source seats up H s st.env st.named old s.callers (popped (piece.Unwind ∷ []) e (λ x z. absurd z) o) h
    acts piece.Unwind (p ∷ ps) e o h = steps.unwinds source seats up H s st.env st.named old p ps (λ f. at_full _ _ (λ x u q. no_main x (piece.sort p) ps (Behind x ps) f (split_in x p ps (full (piece.Unwind ∷ (p ∷ ps)) e (λ y. f) x u q)))) h
    acts piece.ThrowNow todo e o h = steps.throws source seats up H s st.env st.named old (raising.event_in s.run.operands) todo h
    acts piece.RaiseNow todo e o h = steps.raises source seats up H s st.env st.named old (raising.event_in s.run.operands) todo h
    acts (piece.SetUpNow r) todo e o h = steps.set_up source seats up H s st.env st.named old (slice_get source.routines r) todo o h
    acts piece.EnlivenNow todo e o h = steps.go_in source seats up H s st.env st.named old _ _ _ (kept.enlivened_keeps source seats up (piece.own_exec s) s.env st.env) h
    acts piece.TakeDownNow todo e o h = steps.moved source seats up H s st.env st.named old _ todo _ h (kept.take_down_rests source seats up (piece.own_exec s) (at todo s.run.operands s) (at_full _ _ (full (piece.TakeDownNow ∷ todo) e (λ x z. z))))
    acts piece.ForgetNow todo e o h = steps.go_in source seats up H s st.env st.named old _ _ _ (kept.forgotten_keeps source seats up (piece.own_exec s) s.env st.env) h
    acts (piece.LiveNow r) todo e o h = steps.live source seats up H s st.env st.named old (slice_get source.routines r) todo h
    acts piece.ResumeNow todo e o h = steps.moved source seats up H s st.env st.named old _ (piece.Land ∷ todo) _ h (kept.wake_rests source seats up (quiet.resumed s) (at (piece.Land ∷ todo) s.run.operands s) (at_full _ _ (full (piece.ResumeNow ∷ todo) e (λ x z. z))))
    acts piece.SuspendNow todo e o h = steps.moved source seats up H s st.env st.named old _ (piece.Land ∷ todo) _ h (kept.suspend_rests source seats up (at (piece.Land ∷ todo) s.run.operands s) (at_full _ _ (full (piece.SuspendNow ∷ todo) e (λ x z. z))))
    acts piece.Land todo e o h = steps.land source seats up H s st.env st.named old s.run.raised todo h
    acts (piece.EnterNow m r) todo e o h = steps.enter source seats up H s st.env st.named old m (slice_get source.routines r) todo h
    acts piece.LeaveNow todo e o h = steps.leave source seats up H s st.env st.named old _ (monitors.this_object s) todo h
    acts (piece.MakeNow k r) todo e o h = steps.make source seats up H s st.env st.named old k r (slice_get source.routines r) todo h
    acts (piece.BindMadeNow k r) todo e o h = steps.bind source seats up H s st.env st.named old (slice_get source.routines r) todo h
    acts piece.MadeNow todo e o h = steps.unless source seats up H s st.env st.named old (monitors.this_object s) _ todo h (steps.go_in source seats up H s st.env st.named old _ _ _ (steps.same source seats up H s st.env st.named old refl refl refl refl refl) h)
    acts (piece.SpawnNow r) todo e o h = steps.unless source seats up H s st.env st.named old (monitors.this_object s) _ (piece.ChildNow r ∷ todo) h (steps.go_in source seats up H s st.env st.named old _ _ _ (steps.same source seats up H s st.env st.named old refl refl refl refl refl) h)
    acts piece.GoneNow todo e o h = steps.go_in source seats up H s st.env st.named old _ _ _ (steps.same source seats up H s st.env st.named old refl refl refl refl refl) h
    acts piece.GiveUpNow todo e o h = steps.go_in source seats up H s st.env st.named old _ _ _ (steps.same source seats up H s st.env st.named old refl refl refl refl refl) h
    acts (piece.ConditionNow k m) todo e o h = steps.condition source seats up H s st.env st.named old k _ todo h
    acts piece.WaitNow todo e o h = steps.unless source seats up H s st.env st.named old (monitors.this_object s) _ todo h (go _ _ h)
    acts piece.SignalBlockNow todo e o h = steps.unless source seats up H s st.env st.named old (monitors.this_object s) _ todo h (go _ _ h)
    acts (piece.Guards src.NoClauses) todo e o h = go _ _ h
    acts (piece.Guards (src.Otherwise b)) todo e o h = go _ _ h
    acts (piece.Guards (src.MoreClauses guard b cs)) todo e o h = go _ _ h
    acts (piece.AcceptNow site m) todo e o h = steps.accept_by source seats up H s st.env st.named old (monitors.mask_of (take_operands piece.Nothing m s.run.operands [])) (monitors.this_object s) site todo (drop m s.run.operands) h
    acts piece.FailedNow todo e o h = steps.failed source seats up H s st.env st.named old _ todo _ h
    acts (piece.ChooseNow cs) todo e o h = go _ _ (steps.branch source seats up H s.env.exec s.run.frame s.run.this s.run.elements s.callers (λ x. Held source (seats.seat x) (seats.before x) s.env.exec s.callers) _ cs todo h)
    acts piece.RaiseAtNow todo e o h = steps.raise_at source seats up H s st.env st.named old (top s.run.operands) (raising.event_in (piece.below s.run.operands)) todo (drop 4 s.run.operands) h
    acts (piece.EnableNow events cell) todo e o h = steps.enables source seats up H s st.env st.named old _ cell todo h
    acts (piece.DisableNow events cell) todo e o h = steps.enables source seats up H s st.env st.named old _ cell todo h
    acts (piece.RestoreNow cell) todo e o h = steps.go_in source seats up H s st.env st.named old _ _ _ (steps.same source seats up H s st.env st.named old refl refl refl refl refl) h
    acts piece.PollNow todo e o h = steps.poll source seats up H s st.env st.named old todo h
    acts piece.DeliverNow todo e o h = steps.deliver source seats up H s st.env st.named old _ todo h
    acts piece.Finish todo e o h = steps.unless source seats up H s st.env st.named old s.env.own _ todo h (steps.returned source seats up H s st.env st.named old _ s.callers (popped (piece.Finish ∷ todo) e (λ x z. absurd z) o.1) (steps.lines source seats up H s.env.exec s.run.frame s.run.this s.run.elements s.callers (λ x. Held source (seats.seat x) (seats.before x) s.env.exec s.callers) todo o.0 h))
    acts piece.FinishCoroutine todo e o h = steps.moved source seats up H s st.env st.named old _ todo _ h (kept.finish_rests source seats up (at todo s.run.operands s) (at_full _ _ (full (piece.FinishCoroutine ∷ todo) e (λ x z. z))))
    acts p todo e o h = go _ _ h

    stepped : TakesNow source seats up s → WStep (quiet.quiet source s)
    stepped o = by s.run.control refl
      where
        by : (l : List Todo) → s.run.control ≡ l → WStep (quiet.act_todo source l s)
        by [] e = steps.returned source seats up H s st.env st.named old _ s.callers (popped [] e (λ x z. z) (subst (λ l. TakesAt source seats up l s) e o)) (λ x u p q. subst (KeptIn x) e q.1)
        by (p ∷ todo) e = acts p todo e (subst (λ l. TakesAt source seats up l s) e o) (λ x u w q. subst (KeptIn x) e q.1)

    -- what was held soon is, and what is taken away
    abbrev Next : Exec → Step → Type 0
    Next x step = Onwards source (seats.seat x) (seats.before x) s.env.exec (SoonHere source (seats.seat x) (seats.before x) s.env.exec) (Soon source (seats.seat x) (seats.before x) s.env.exec) step

    in_any : (x : Exec) (k : ℕ) (step : Step) → Onwards source (seats.seat x) (seats.before x) s.env.exec (λ u. SoonIn source (seats.seat x) (seats.before x) s.env.exec k u.run u.callers) (SoonIn source (seats.seat x) (seats.before x) s.env.exec k) step → Next x step
    in_any x k (Goes u) h = (h.0, inl (zero, (k, h.1)))
    in_any x k (Ticks u) h = (h.0, (k, h.1))
    in_any x k (Asks r u) h = asked r h
      where
        asked : (r : Request) → Onwards source (seats.seat x) (seats.before x) s.env.exec (λ u. SoonIn source (seats.seat x) (seats.before x) s.env.exec k u.run u.callers) (SoonIn source (seats.seat x) (seats.before x) s.env.exec k) (Asks r u) → Next x (Asks r u)
        asked (ask.Fault m) h = tt
        asked r h = (h.0, h.1, (k, h.2))

    from_here : (x : Exec) (k : ℕ) (step : Step) → Onwards source (seats.seat x) (seats.before x) s.env.exec (SoonFrom source (seats.seat x) (seats.before x) s.env.exec k) (Soon source (seats.seat x) (seats.before x) s.env.exec) step → Next x step
    from_here x k (Goes u) h = (h.0, inl (k, h.1))
    from_here x k (Ticks u) h = h
    from_here x k (Asks r u) h = h

    told : TakesNow source seats up s → (x : Exec) → up x ≡ true → seats.parent x ≡ s.env.exec → Next x (quiet.quiet source s) ⊎ H x
    told o x u p = by (st.soon x u p)
      where
        by : SoonHere source (seats.seat x) (seats.before x) s.env.exec s → Next x (quiet.quiet source s) ⊎ H x
        by (inl (zero, (zero, h))) = ⊎_elim (λ l. inl l) (λ k. inr (h, k)) (parted s.run.control o x (u, p) h)
        by (inl (zero, (suc k, h))) = inl (in_any x k (quiet.quiet source s) (h.2 s.env refl))
        by (inl (suc k, h)) = inl (from_here x k (quiet.quiet source s) h.2)
        by (inr h) = absurd (gone_by x (u, p) s.run.control o h)

    module _ (o : TakesNow source seats up s) where
      goes_on : (u : State) → steps.Done source seats up H s st.env st.named old u → ((x : Exec) → Next x (quiet.quiet source s) → Next x (Goes u)) → HeldState source seats up u
      goes_on u (inr f) g = record { soon = λ x v p. inl (zero, (zero, f.stack x v p)); named = f.named; env = f.env }
      goes_on u (inl w) g = record {
        soon = λ x v p. subst (λ n. SoonHere source (seats.seat x) (seats.before x) n u) (sym w.exec) (⊎_elim (λ l. (g x l).1) (λ h. inl (zero, (zero, w.stack x v (p ∙ w.exec) h))) (told o x v (p ∙ w.exec)));
        named = subst (λ n. AllNamed source seats up n u.callers u.env.frames) (sym w.exec) w.named;
        env = w.env;
      }

      ticks_on : (u : State) → steps.Done source seats up H s st.env st.named old u → ((x : Exec) → Next x (quiet.quiet source s) → Next x (Ticks u)) → HeldAsked source seats up JustGo u
      ticks_on u (inr f) g = record { soon = λ x v p. inl (f.stack x v p); named = f.named; env = f.env }
      ticks_on u (inl w) g = record {
        soon = λ x v p. subst (λ n. SoonAsked source (seats.seat x) (seats.before x) n JustGo u.run u.callers) (sym w.exec) (⊎_elim (λ l. inr (refl, (g x l).1)) (λ h. inl (w.stack x v (p ∙ w.exec) h)) (told o x v (p ∙ w.exec)));
        named = subst (λ n. AllNamed source seats up n u.callers u.env.frames) (sym w.exec) w.named;
        env = w.env;
      }

      asks_on : (r : Request) (u : State) → steps.Done source seats up H s st.env st.named old u → ((x : Exec) → Next x (quiet.quiet source s) → Next x (Asks r u)) → HeldAsk source seats up r u
      asks_on (ask.Fault m) u d g = tt
      asks_on r u (inr f) g = record { soon = λ x v p. inl (f.stack x v p); named = f.named; env = f.env }
      asks_on r u (inl w) g = record {
        soon = λ x v p. subst (λ n. SoonAsked source (seats.seat x) (seats.before x) n (form_of_request r) u.run u.callers) (sym w.exec) (⊎_elim (λ l. inr ((g x l).0, (g x l).2)) (λ h. inl (w.stack x v (p ∙ w.exec) h)) (told o x v (p ∙ w.exec)));
        named = subst (λ n. AllNamed source seats up n u.callers u.env.frames) (sym w.exec) w.named;
        env = w.env;
      }

  pub walk : HeldState source seats up s → TakesNow source seats up s → HeldStep source seats up (quiet.quiet source s)
  walk st o = by (quiet.quiet source s) refl (stepped st o)
    where
      by : (step : Step) → quiet.quiet source s ≡ step → WStep st step → HeldStep source seats up step
      by (Goes u) e d = goes_on st o u d (λ x l. subst (Next st x) e l)
      by (Ticks u) e d = ticks_on st o u d (λ x l. subst (Next st x) e l)
      by (Asks r u) e d = asks_on st o r u d (λ x l. subst (Next st x) e l)

module _ (source : Source) (seats : Seating) (up : Exec → Bool) where
  new_there : (h : ℕ) (todo : List Todo) → MembersBy (HeldEx source seats up) (home.Object h) (new_members source todo)
  new_there h [] = tt
  new_there h (piece.BindMadeNow c r ∷ todo) = tt
  new_there h (p ∷ todo) = tt

  -- whoever has asked for more than a bare answer is held
  held_now : (form : Form) (given : Answer) (n : Exec) (a : Active) (cs : List Active) (x : Exec) → IsForm form given → (IsForm JustGo given → ⊥) → SoonAsked source (seats.seat x) (seats.before x) n form a cs → Held source (seats.seat x) (seats.before x) n (a ∷ cs)
  held_now form given n a cs x i f (inl h) = h
  held_now form given n a cs x i f (inr h) = absurd (f (subst (λ g. IsForm g given) h.0 i))

  module _ (form : Form) (s : State) (h : HeldAsked source seats up form s) where
    -- with other operands
    with_operands : (given : Answer) (vs : List Value) → IsForm form given → (IsForm JustGo given → ⊥) → HeldAsked source seats up JustGo (record s { run = record s.run { operands = vs } })
    with_operands given vs i f = record { soon = λ x u p. inl (held_now form given s.env.exec s.run s.callers x i f (h.soon x u p)); named = h.named; env = h.env }

    entered_there : (m : Option Members) (o : ℕ) → IsForm form (answer.Object o) → MembersBy (HeldEx source seats up) (home.Object o) m → HeldAsked source seats up JustGo (with_operand (piece.Object o) (entered m o s))
    entered_there None o i k = with_operands (answer.Object o) _ i (λ z. z)
    entered_there (Some m) o i k = record {
      soon = λ x u p. inl (held_now form (answer.Object o) s.env.exec s.run s.callers x i (λ z. z) (h.soon x u p));
      named = h.named;
      env = record { house = h.env.house; hand = parked.more_hand (HeldEx source seats up) s.env.hand o m k h.env.hand };
    }

    -- a bare answer changes nothing
    gone_on : HeldAsked source seats up JustGo s
    gone_on = record { soon = λ x u p. ⊎_elim (λ k. inl k) (λ k. inr (refl, k.1)) (h.soon x u p); named = h.named; env = h.env }

    pub answered_there : (given : Answer) → IsForm form given → HeldAsked source seats up JustGo (answered source given s)
    answered_there (answer.Object o) i = entered_there (new_members source s.run.control) o i (new_there o s.run.control)
    answered_there (answer.Number n) i = with_operands (answer.Number n) _ i (λ z. z)
    answered_there (answer.Value n failed) i = with_operands (answer.Value n failed) _ i (λ z. z)
    answered_there (answer.Clause k failed) i = with_operands (answer.Clause k failed) _ i (λ z. z)
    answered_there (answer.Event n x y) i = with_operands (answer.Event n x y) _ i (λ z. z)
    answered_there answer.Nothing i = with_operands answer.Nothing _ i (λ z. z)
    answered_there answer.Go i = gone_on

  -- who rests so goes on
  pub rested : (s : State) → HeldAsked source seats up JustGo s → HeldState source seats up s
  rested s h = record { soon = λ x u p. inl (zero, by x (h.soon x u p)); named = h.named; env = h.env }
    where
      by : (x : Exec) → SoonAsked source (seats.seat x) (seats.before x) s.env.exec JustGo s.run s.callers → Soon source (seats.seat x) (seats.before x) s.env.exec s.run s.callers
      by x (inl k) = (zero, k)
      by x (inr k) = k.1
