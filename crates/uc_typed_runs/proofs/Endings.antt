-- A clean-up that ends what is known by its number finds its variable and reads of it what is of its type.
use Rattle.std.proofs.Common.{◌≡◌, ℕ, zero, suc, inl, inr, Bool, true, false, List, [], ◌∷◌, refl, sym, ap, ◌∙◌, subst}
use Rattle.uc_tree.specs.Source.{Variable, Load, OfObject, EndOn, EndCluster, EndProcessor, Destroys, Source}
use Rattle.uc_machine.specs.Pieces.{Value, Slot, Todo, State, Step, Goes, Ticks, Asks, Eval, LoadNow, DropNow, Clean, Unwind, loaded, top, variable_at}
use Rattle.uc_machine.specs.Quiet.{act_todo, quiet}
use Rattle.uc_typing.specs.Typing.{Ty, Cell, Clu, Pro, Name, Sig, Table, object_ty}
use Rattle.uc_typing.specs.Pieces.{onto, CallsOn, Ok}
use Rattle.uc_typing.specs.States.{IsNumbered, IsObjectBy, Is, Typed, ReadsVariable, ReadsPlace}
use Rattle.uc_typing.specs.Laws.{ReadsIn}
use Rattle.uc_state_laws.specs.There.{HoldsObject, AllThere, Any, frame_at}
use Rattle.uc_state_laws.specs.ThereStates.{ThereState}
use Rattle.uc_state_laws.specs.NewClusters.{GoodState}
use Rattle.uc_state_laws.proofs.Cells.{held_there}
use Rattle.uc_state_laws.proofs.Readings.{running}
use Rattle.uc_state_laws.specs.Endings.{reading, still_reading, End, OnObject, OfCluster, OfProcessor, end_expr, behind_end}
use Rattle.uc_typed_runs.proofs.Openings.{fill_end, no_end, point_end}

abbrev pub IsHeld : ℕ → State → Type 0
IsHeld k s = IsNumbered (loaded (variable_at k s) s.env)

module _ (t : Table) where
  -- a destructor has no parameters
  abbrev pub IsBare : End → Type 0
  IsBare (OnObject r written) = [] ≡ (t.routine r).params
  IsBare OfCluster = Unit {0}
  IsBare OfProcessor = Unit {0}

  -- a state from which so many steps are left until that variable has been read
  abbrev pub Ending : ℕ → State → Type 0
  Ending zero s = Unit {0}
  Ending (suc zero) s =
      (e : End) × (k : ℕ) × (todo : List Todo) × (s.run.control ≡ LoadNow ∷ behind_end e todo) × IsHeld k s × IsBare e × (top s.run.operands ≡ variable_at k s)
  Ending (suc (suc zero)) s =
      (e : End) × (k : ℕ) × (todo : List Todo) × (s.run.control ≡ Eval (Variable k) ∷ (LoadNow ∷ behind_end e todo)) × IsHeld k s × IsBare e
  Ending (suc (suc (suc zero))) s =
      (e : End) × (k : ℕ) × (todo : List Todo) × (s.run.control ≡ Eval (Load (Variable k)) ∷ behind_end e todo) × IsHeld k s × IsBare e
  Ending (suc (suc (suc (suc zero)))) s =
      (e : End) × (k : ℕ) × (todo : List Todo) × (s.run.control ≡ Eval (end_expr e k) ∷ todo) × IsHeld k s
  Ending (suc (suc (suc (suc (suc n))))) s = ⊥

  abbrev pub EndingStep : ℕ → Step → Type 0
  EndingStep zero step = Unit {0}
  EndingStep (suc n) (Goes s) = Ending (suc n) s
  EndingStep (suc n) (Ticks s) = Ending (suc n) s
  EndingStep (suc n) (Asks r s) = Unit {0}

  pub at_goes : (n : ℕ) (s : State) → EndingStep n (Goes s) → Ending n s
  at_goes zero s h = tt
  at_goes (suc n) s h = h

  pub at_ticks : (n : ℕ) (s : State) → EndingStep n (Ticks s) → Ending n s
  at_ticks zero s h = tt
  at_ticks (suc n) s h = h

  module _ (source : Source) where
    -- at the mark of such a clean-up its variable is there
    starts : (s : State) → ThereState s → EndingStep (reading s.run.control) (quiet source s)
    starts s h = by s.run.control refl
      where
        held : (k : ℕ) → HoldsObject (frame_at s.run.frame s.env.frames) (Slot k ∷ []) → IsHeld k s
        held k i = running IsNumbered s (Slot k ∷ []) i

        there : (l : List Todo) → s.run.control ≡ l → AllThere (frame_at s.run.frame s.env.frames) l
        there l c = subst (AllThere (frame_at s.run.frame s.env.frames)) c (held_there Any (frame_at s.run.frame s.env.frames) s.run.elements s.run.control h.stack.1)

        by : (l : List Todo) → s.run.control ≡ l → EndingStep (reading l) (act_todo source l s)
        by (Clean (Destroys (OfObject (EndOn r written (Load (Variable k))))) ∷ todo) c = (OnObject r written, k, DropNow ∷ todo, refl, held k (there _ c).0)
        by (Clean (Destroys (OfObject (EndCluster (Load (Variable k))))) ∷ todo) c = (OfCluster, k, DropNow ∷ todo, refl, held k (there _ c).0)
        by (Clean (Destroys (OfObject (EndProcessor (Load (Variable k))))) ∷ todo) c = (OfProcessor, k, DropNow ∷ todo, refl, held k (there _ c).0)
        by (Unwind ∷ (Clean (Destroys (OfObject (EndOn r written (Load (Variable k))))) ∷ todo)) c = (OnObject r written, k, DropNow ∷ (Unwind ∷ todo), refl, held k (there _ c).1.0)
        by (Unwind ∷ (Clean (Destroys (OfObject (EndCluster (Load (Variable k))))) ∷ todo)) c = (OfCluster, k, DropNow ∷ (Unwind ∷ todo), refl, held k (there _ c).1.0)
        by (Unwind ∷ (Clean (Destroys (OfObject (EndProcessor (Load (Variable k))))) ∷ todo)) c = (OfProcessor, k, DropNow ∷ (Unwind ∷ todo), refl, held k (there _ c).1.0)
        by l c = tt

    found : (s : State) (e : End) (k : ℕ) (todo : List Todo) (x : Typed t [] s) → Ok t x.run.sig x.run.base x.run.scope (Eval (end_expr e k) ∷ todo) x.run.own → IsHeld k s → EndingStep 3 (act_todo source (Eval (end_expr e k) ∷ todo) s)
    found s (OnObject r false) k todo x o h = (OnObject r false, k, todo, refl, h, o.1.2)
    found s (OnObject r true) k todo x o h = (OnObject r true, k, todo, refl, h, o.1.2)
    found s OfCluster k todo x o h = (OfCluster, k, todo, refl, h, tt)
    found s OfProcessor k todo x o h = (OfProcessor, k, todo, refl, h, tt)

    onward : (n : ℕ) (s : State) → Typed t [] s → Ending (suc n) s → EndingStep n (quiet source s)
    onward zero s x h = tt
    onward (suc zero) s x h = subst (λ l. EndingStep 1 (act_todo source l s)) (sym h.3) (h.0, h.1, h.2, refl, h.4, h.5, refl)
    onward (suc (suc zero)) s x h = subst (λ l. EndingStep 2 (act_todo source l s)) (sym h.3) (h.0, h.1, h.2, refl, h.4, h.5)
    onward (suc (suc (suc zero))) s x h =
        subst (λ l. EndingStep 3 (act_todo source l s)) (sym h.3) (found s h.0 h.1 h.2 x (subst (λ l. Ok t x.run.sig x.run.base x.run.scope l x.run.own) h.3 x.run.ok) h.4)
    onward (suc (suc (suc (suc n)))) s x h = absurd h

    pub ending : (n : ℕ) (s : State) → GoodState s → Typed t [] s → Ending n s → EndingStep (still_reading n s.run.control) (quiet source s)
    ending zero s (inl there) x h = starts s there
    ending zero s (inr (inl d)) x h = subst (λ n. EndingStep n (quiet source s)) (sym (ap reading d.control ∙ point_end d.binder d.next d.todo d.point)) tt
    ending zero s (inr (inr (inr f))) x h = subst (λ n. EndingStep n (quiet source s)) (sym (ap reading f.control ∙ fill_end f.stage f.array)) tt
    ending zero s (inr (inr (inl o))) x h = subst (λ n. EndingStep n (quiet source s)) (sym (ap reading o.control ∙ no_end o.cell o.line o.next o.todo o.stage)) tt
    ending (suc n) s good x h = onward n s x h

  -- what is read is of the type that the end of it asks for
  object : (b : Bool) (c : ℕ) (v : Value) → t.mutex c ≡ true → IsNumbered v → Is t (object_ty b c) v
  object true c v m h = subst (λ (b : Bool). IsObjectBy t b c v) (sym m) h
  object false c v m h = subst (λ (b : Bool). IsObjectBy t b c v) (sym m) h

  entered : (r : ℕ) (a : Ty) (own more : List Ty) (c : ℕ) (v : Value) → [] ≡ (t.routine r).params → CallsOn t r (a ∷ own) more c → t.mutex c ≡ true → IsNumbered v → Is t a v
  entered r a own more c v e calls m h =
      let q : a ∷ own ≡ object_ty (t.routine r).whole c ∷ more = subst (λ (ps : List Ty). a ∷ own ≡ onto ps (object_ty (t.routine r).whole c ∷ more)) (sym e) calls.0 in
      let same : a ≡ object_ty (t.routine r).whole c = cc in
      subst (λ (a : Ty). Is t a v) (sym same) (object (t.routine r).whole c v m h)

  module _ (g : Sig) (base sc : List Name) where
    read : (e : End) (todo : List Todo) (a : Ty) (own : List Ty) (v : Value) → IsBare e → Ok t g base sc (behind_end e todo) (a ∷ own) → IsNumbered v → Is t a v
    read (OnObject r false) todo a own v b o h = entered r a own o.0 o.1 v b o.2 o.3 h
    read (OnObject r true) todo a own v b o h = entered r a own o.0 o.1 v b o.2 o.3 h
    read OfCluster todo Clu own v b o h = h
    read OfCluster todo a own v b o h = absurd o
    read OfProcessor todo Pro own v b o h = h
    read OfProcessor todo a own v b o h = absurd o

    place : (s : State) (e : End) (k : ℕ) (todo : List Todo) (own : List Ty) → Ok t g base sc (LoadNow ∷ behind_end e todo) own → IsBare e → top s.run.operands ≡ variable_at k s → IsHeld k s → ReadsPlace t g s (LoadNow ∷ behind_end e todo) own
    place s e k todo (Cell a ∷ own) o b q h = λ r. subst (λ v. Is t a (loaded v s.env)) (sym q) (read e todo a own (loaded (variable_at k s) s.env) b o.1 h)
    place s e k todo _ o b q h = tt

  pub reads : (n : ℕ) (s : State) → Ending (suc n) s → ReadsIn t s
  reads zero s h x = (
    x,
    (
      subst (ReadsVariable t x.run.scope s) (sym h.3) tt,
      subst (λ l. ReadsPlace t x.run.sig s l x.run.own) (sym h.3) (place x.run.sig x.run.base x.run.scope s h.0 h.1 h.2 x.run.own (subst (λ l. Ok t x.run.sig x.run.base x.run.scope l x.run.own) h.3 x.run.ok) h.5 h.6 h.4),
    ),
  )
  reads (suc zero) s h x = (x, (subst (ReadsVariable t x.run.scope s) (sym h.3) tt, subst (λ l. ReadsPlace t x.run.sig s l x.run.own) (sym h.3) tt))
  reads (suc (suc zero)) s h x = (x, (subst (ReadsVariable t x.run.scope s) (sym h.3) tt, subst (λ l. ReadsPlace t x.run.sig s l x.run.own) (sym h.3) tt))
  reads (suc (suc (suc zero))) s h x = (x, (subst (ReadsVariable t x.run.scope s) (sym h.3) (variable h.0), subst (λ l. ReadsPlace t x.run.sig s l x.run.own) (sym h.3) (own h.0)))
    where
      variable : (e : End) → ReadsVariable t x.run.scope s (Eval (end_expr e h.1) ∷ h.2)
      variable (OnObject r written) = tt
      variable OfCluster = tt
      variable OfProcessor = tt

      own : (e : End) → ReadsPlace t x.run.sig s (Eval (end_expr e h.1) ∷ h.2) x.run.own
      own (OnObject r written) = tt
      own OfCluster = tt
      own OfProcessor = tt
  reads (suc (suc (suc (suc n)))) s h x = absurd h
