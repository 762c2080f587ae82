-- What is being built or destroyed lies elsewhere or is waited for, step by step, by the kinds of frames.
use Rattle.std.proofs.Common.{◌≡◌, ℕ, ◌⊎◌, inl, inr, ⊎_elim, Bool, true, false, List, [], ◌∷◌, length, drop, Some, refl, sym, ap, ◌∙◌, subst}
use Rattle.std.specs.Prelude.{nat_eq, if◌then◌else◌, slice_get}
use Rattle.std.proofs.lemmas.Bool.{eq-eqb}
use Rattle.uc_tree.specs.Source.{Source, Routine}
use Rattle.uc_machine.specs.declared.exec.Exec.{Exec}
use Rattle.uc_machine.specs.declared.exec.Owner.TheVariants.{Frame}
use Rattle.uc_machine.specs.Executions.{at_depth, others}
use Rattle.uc_machine.specs.Switches.{stopped, new_exec}
use Rattle.uc_machine.specs.Pieces as pc
use Rattle.uc_machine.specs.Pieces.{Value, Running, Nothing, Todo, Active, State, top}
use Rattle.uc_machine.specs.Quiet.{quiet, home_at}
use Rattle.uc_typing.specs.Typing.{Ty, Raw, Sig, Table}
use Rattle.uc_typing.specs.States.{Sound}
use Rattle.uc_typing.proofs.Unwinds as un
use Rattle.uc_life_laws.specs.Things.{Few, IsAwaited, Unmade, UnmadeBehind, is_outside}
use Rattle.uc_life_laws.specs.LifeStates.{LifeState}
use Rattle.uc_life_laws.specs.Knowing.{InMaking, KnowsWaits, ClaimsEnv, ClaimsState, StepBy, Finds}
use Rattle.uc_life_laws.specs.Kinds.{Stays, IsKept, HasOne, BeginsAt, Turned, stays, begins, goes_back, GoesOn, Parks, FollowsOn, Claimed}
use Rattle.uc_life_laws.specs.Makings.{IsElsewhere, IsEnding, MadeBy, AllMade, Makings, Builds, BuildsAt, LawMakings}
use Rattle.uc_life_laws.proofs.Knowns.{frames_length}
use Rattle.uc_life_laws.proofs.Reading.{life_read}
use Rattle.uc_life_laws.proofs.Acting.{law_claims}
use Rattle.uc_life_laws.proofs.Parking.{all_stays}
use Rattle.uc_life_laws.proofs.KindsLemmas.{goes_or, step_more}

module _ (t : Table) (ends : ℕ → Bool) where
  -- of an activation with this frame and object, before these older ones
  abbrev Top : Exec → List Sig → ℕ → Value → List Active → Type 0
  Top n gs frame this older = ((g : Sig) → at_depth gs frame ≡ Some g → MadeBy t ends n g this older) × AllMade t ends n (others gs) older

  same : (n m : Exec) (gs hs : List Sig) (f d : ℕ) (v w : Value) (cs ds : List Active) → m ≡ n → hs ≡ gs → d ≡ f → w ≡ v → ds ≡ cs → Top n gs f v cs → Top m hs d w ds
  same n m gs hs f d v w cs ds e1 e2 e3 e4 e5 h =
      subst (λ n. Top n hs d w ds) (sym e1) (subst (λ gs. Top n gs d w ds) (sym e2) (subst (λ f. Top n gs f w ds) (sym e3) (subst (λ v. Top n gs f v ds) (sym e4) (subst (λ cs. Top n gs f v cs) (sym e5) h))))

  -- each of these has a frame
  abbrev Framed : List Sig → List Active → Type 0
  Framed gs [] = Unit {0}
  Framed gs (a ∷ older) = ((g : Sig) × (at_depth gs a.frame ≡ Some g)) × Framed (others gs) older

  framed : (few : Few) (n : Exec) (gs : List Sig) (cs : List Active) → KnowsWaits t few n gs cs → Framed gs cs
  framed few n gs [] h = tt
  framed few n gs (c ∷ cs) h = ((h.0.sig, h.0.frame), framed few n (others gs) cs h.1)

  lifted : (gs : List Sig) (d : ℕ) (i : Sig) → at_depth (others gs) d ≡ Some i → at_depth gs d ≡ Some i
  lifted [] d i e = absurd (cc)
  lifted (g ∷ gs) d i e = un.deeper t g gs d i e

  -- the same frame stands in a longer list
  same_sig : (gs : List Sig) (d : ℕ) (g i : Sig) → at_depth (others gs) d ≡ Some i → at_depth gs d ≡ Some g → at_depth (others gs) d ≡ Some g
  same_sig gs d g i e f = e ∙ sym (lifted gs d i e) ∙ f

  one_framed : (frame : ℕ) (this : Value) (hs : List Sig) (cs : List Active) → Framed hs cs → HasOne cs frame this → (i : Sig) × (at_depth hs frame ≡ Some i)
  one_framed frame this hs [] fs o = absurd o
  one_framed frame this hs (b ∷ bs) fs (inl o) = (fs.0.0, subst (λ d. at_depth hs d ≡ Some fs.0.0) (sym o.0) fs.0.1)
  one_framed frame this hs (b ∷ bs) fs (inr o) = let y = one_framed frame this (others hs) bs fs.1 o in (y.0, lifted hs frame y.0 y.1)

  behind : (n : Exec) (cs : List Active) (w : Value) (a : Ty) → UnmadeBehind t n cs w a → Unmade t n cs w a
  behind n [] w a h = absurd h
  behind n (c ∷ older) w a h = inr h

  -- what one of these builds lies elsewhere, or is waited for behind the newest
  one_made : (n : Exec) (gs : List Sig) (cs : List Active) → Framed gs cs → AllMade t ends n gs cs → (frame : ℕ) (this : Value) → HasOne cs frame this → (g : Sig) → at_depth gs frame ≡ Some g → g.whole ≡ true → (c : ℕ) → g.this ≡ Some c → (IsElsewhere t n this c ⊎ UnmadeBehind t n cs this (Raw c)) ⊎ IsEnding t ends g
  one_made n gs [] f m frame this h g e w c k = absurd h
  one_made n gs (a ∷ older) f m frame this (inl h) g e w c k =
      subst (λ v. (IsElsewhere t n v c ⊎ Unmade t n older v (Raw c)) ⊎ IsEnding t ends g) (sym h.1) (m.0 g (subst (λ d. at_depth gs d ≡ Some g) h.0 e) w c k)
  one_made n gs (a ∷ older) f m frame this (inr h) g e w c k =
      ⊎_elim (λ y. inl (⊎_elim (λ x. inl x) (λ x. inr (behind n older this (Raw c) x)) y)) (λ e. inr e) (one_made n (others gs) older f.1 m.1 frame this h g (same_sig gs frame g (one_framed frame this (others gs) older f.1 h).0 (one_framed frame this (others gs) older f.1 h).1 e) w c k)

  elsewhere : (n : Exec) (gs : List Sig) (cs : List Active) → AllMade t ends n gs cs → (w : Value) (c : ℕ) → InMaking gs cs w (Raw c) → (IsElsewhere t n w c ⊎ UnmadeBehind t n cs w (Raw c)) ⊎ ((g : Sig) × (g.this ≡ Some c) × IsEnding t ends g)
  elsewhere n gs [] m w c h = absurd h
  elsewhere n gs (a ∷ older) m w c (inl h) =
      let p : Raw c ≡ Raw h.2.1.0 = h.2.1.3 in
      let q : c ≡ h.2.1.0 = cc in
      let k : h.0.this ≡ Some c = subst (λ k. h.0.this ≡ Some k) (sym q) h.2.1.1 in
      ⊎_elim (λ y. inl (subst (λ v. IsElsewhere t n v c ⊎ Unmade t n older v (Raw c)) (sym h.2.1.2) y)) (λ e. inr (h.0, k, e)) (m.0 h.0 h.1 h.2.0 c k)
  elsewhere n gs (a ∷ older) m w c (inr h) = ⊎_elim (λ y. inl (⊎_elim (λ x. inl x) (λ x. inr (behind n older w (Raw c) x)) y)) (λ e. inr e) (elsewhere n (others gs) older m.1 w c h)

  -- whatever is written
  makings_stay : (n : Exec) (w v : Value) → Stays (Makings t ends) n w v
  makings_stay = all_stays (Makings t ends) (λ n gs x d k v h. h)

  module _ (few : Few) (source : Source) (s : State) (x : ClaimsState t few (Makings t ends) [] s) (claim : Makings t ends s.env.exec x.sigs (stopped s)) where
    all_framed : Framed x.sigs (s.run ∷ s.callers)
    all_framed = ((x.run.sig, x.run.frame), framed few s.env.exec (others x.sigs) s.callers x.callers)

    -- the frame of a routine that is called is the newest
    newest_sig : (g h : Sig) (frame : ℕ) → frame ≡ length s.env.frames → at_depth (g ∷ x.sigs) frame ≡ Some h → g ≡ h
    newest_sig g h frame f e =
        let l : nat_eq (length s.env.frames) (length x.sigs) ≡ true = eq-eqb (length s.env.frames) (length x.sigs) (frames_length t few s.env.exec x.sigs s.env.frames (s.run ∷ s.callers) x.frames) in
        let k : nat_eq frame (length x.sigs) ≡ true = ap (λ d. nat_eq d (length x.sigs)) f ∙ l in
        let p : Some g ≡ Some h = sym (ap (λ (b : Bool). if b then Some g else at_depth x.sigs frame) k) ∙ e in
        cc

    -- with what waits behind a call
    waited : (a : Active) (todo : List Todo) (w : Value) (c : ℕ) → a.frame ≡ s.run.frame → a.this ≡ s.run.this → a.control ≡ todo → Unmade t s.env.exec (record s.run { control = todo } ∷ s.callers) w (Raw c) → Unmade t s.env.exec (a ∷ s.callers) w (Raw c)
    waited a todo w c f v l (inr h) = inr h
    waited a todo w c f v l (inl h) =
        inl (subst (λ l. IsAwaited t (Frame s.env.exec a.frame) a.this l w (Raw c)) (sym l) (subst (λ v. IsAwaited t (Frame s.env.exec a.frame) v todo w (Raw c)) (sym v) (subst (λ d. IsAwaited t (Frame s.env.exec d) s.run.this todo w (Raw c)) (sym f) h)))

    module _ (a : Active) (f : a.frame ≡ s.run.frame) (v : a.this ≡ s.run.this) (frame : ℕ) (this : Value) (g : Sig) where
      abbrev New : Type 0
      New = (h : Sig) → at_depth (g ∷ x.sigs) frame ≡ Some h → MadeBy t ends s.env.exec h this (a ∷ s.callers)

      called : (r : ℕ) (todo : List Todo) → Builds t ends source s r todo → g ≡ t.routine r → frame ≡ length s.env.frames → a.control ≡ todo → (q : Routine) → slice_get source.routines r ≡ Some q → this ≡ top (drop q.params s.run.operands) → New
      called r todo m e d l q is w h k whole c of = by (ends r) refl
        where
          p : h ≡ t.routine r
          p = sym (newest_sig g h frame d k) ∙ e

          by : (b : Bool) → ends r ≡ b → (IsElsewhere t s.env.exec this c ⊎ Unmade t s.env.exec (a ∷ s.callers) this (Raw c)) ⊎ IsEnding t ends h
          by true y = inr (r, y, p)
          by false y =
              ⊎_elim (λ z. inl (⊎_elim (λ x. inl (subst (λ v. IsElsewhere t s.env.exec v c) (sym w) x)) (λ x. inr (subst (λ v. Unmade t s.env.exec (a ∷ s.callers) v (Raw c)) (sym w) (waited a todo _ c f v l x))) z)) (λ z. inr (subst (IsEnding t ends) (sym p) z)) (m y q is (subst (λ i. i.whole ≡ true) p whole) c (subst (λ i. i.this ≡ Some c) p of))

      begun : (l : List Todo) → BuildsAt t ends source s l → BeginsAt t source s frame this a.control l g → New
      begun [] m b h k whole c of = absurd b
      begun (pc.CallNow r ∷ todo) m b h k whole c of = inl (inl (inr (subst (λ z. is_outside s.env.exec z ≡ true) (sym b.3) refl)))
      begun (pc.CallOnNow r ∷ todo) m b h k whole c of = called r todo m b.0 b.1 b.2 b.3.0 b.3.1 b.3.2 h k whole c of
      begun (pc.CallUnwrittenNow r ∷ todo) m b h k whole c of = called r todo m b.0 b.1 b.2 b.3.0 b.3.1 b.3.2 h k whole c of
      begun (pc.RaiseNow ∷ todo) m b h k whole c of =
          let y = one_framed frame this x.sigs (s.run ∷ s.callers) all_framed b.2 in
          let up : at_depth (g ∷ x.sigs) frame ≡ Some y.0 = un.deeper t g x.sigs frame y.0 y.1 in
          let here : at_depth x.sigs frame ≡ Some h = y.1 ∙ sym up ∙ k in
          ⊎_elim (λ y. inl (⊎_elim (λ z. inl z) (λ z. inr (inr z)) y)) (λ e. inr e) (one_made s.env.exec x.sigs (s.run ∷ s.callers) all_framed claim frame this b.2 h here whole c of)
      begun (p ∷ todo) m b h k whole c of = absurd b

    turned : BuildsAt t ends source s s.run.control → (u : State) (hs : List Sig) → Turned t source s x.sigs u hs → Top u.env.exec hs u.run.frame u.run.this u.callers
    turned m u hs (stays e n f v cs) = same s.env.exec u.env.exec x.sigs hs s.run.frame u.run.frame s.run.this u.run.this s.callers u.callers n e f v cs claim
    turned m u hs (begins g a b e n cs f v) =
        same s.env.exec u.env.exec (g ∷ x.sigs) hs u.run.frame u.run.frame u.run.this u.run.this (a ∷ s.callers) u.callers n e refl refl cs (begun a f v u.run.frame u.run.this g s.run.control m b, same s.env.exec s.env.exec x.sigs x.sigs s.run.frame a.frame s.run.this a.this s.callers s.callers refl refl f v refl claim)
    turned m u hs (goes_back c q e n f v) =
        same s.env.exec u.env.exec (others x.sigs) hs c.frame u.run.frame c.this u.run.this u.callers u.callers n e f v refl (subst (λ cs. AllMade t ends s.env.exec (others x.sigs) cs) q claim.1)

    parks : (l : List Todo) → BuildsAt t ends source s l → Parks (Makings t ends) t source x.sigs s l
    parks [] m = tt
    parks (pc.TakeDownNow ∷ todo) m = claim
    parks (pc.ResumeNow ∷ todo) m = claim
    parks (pc.SuspendNow ∷ todo) m = claim
    parks (pc.BindNow ∷ todo) m = makings_stay s.env.exec (top (pc.below s.run.operands)) (top s.run.operands)
    parks (pc.BindMadeNow c r ∷ todo) m = λ q is. makings_stay s.env.exec (top (drop q.params (pc.below s.run.operands))) (top s.run.operands)
    parks (pc.SetUpNow r ∷ todo) m = λ q is. ((λ g at whole c of. main g at whole, tt), makings_stay s.env.exec s.run.this (Running (new_exec (home_at s.run.this s.env) s.env)))
      where
        main : {A : Type 0} (g : Sig) → Some (t.routine r) ≡ Some g → g.whole ≡ true → A
        main g at whole = let e : t.routine r ≡ g = cc in let f : true ≡ false = sym whole ∙ (sym (ap (λ (i : Sig). i.whole) e) ∙ m) in absurd (cc)
    parks (p ∷ todo) m = tt

  pub making_kept : IsKept (Makings t ends)
  making_kept = record { written = λ n gs x d k z h. h; linked = λ n gs x l h. h; unwound = λ n gs x why other h. h }

  steps : (few : Few) (source : Source) → Sound t source → (s : State) → LifeState t few s → (x : ClaimsState t few (Makings t ends) [] s) → Makings t ends s.env.exec x.sigs (stopped s) → Finds t few x.sigs x.run.sig x.run.scope s s.run.control x.run.own → BuildsAt t ends source s s.run.control → StepBy t few (Claimed (Makings t ends) t few) (ClaimsEnv t few (Makings t ends)) source (quiet source s)
  steps few source sound s st x claim l m = by (goes_or s.run.control s.run.raised)
    where
      by : GoesOn s.run.control s.run.raised ⊎ (GoesOn s.run.control s.run.raised → ⊥) → StepBy t few (Claimed (Makings t ends) t few) (ClaimsEnv t few (Makings t ends)) source (quiet source s)
      by (inl calm) =
          step_more t few source (FollowsOn (Makings t ends) t few source s x.sigs) (Claimed (Makings t ends) t few) (ClaimsEnv t few (Makings t ends)) (ClaimsEnv t few (Makings t ends)) (λ e k. k) (λ given u y. (y.0, turned few source s x claim m u y.0.sigs y.1)) (quiet source s) ((law_claims (Makings t ends) making_kept).goes t few source sound s x (life_read t few s x.sigs st) l (parks few source s x claim s.run.control m) calm)
      by (inr stops) = (law_claims (Makings t ends) making_kept).stops t few source sound s x (life_read t few s x.sigs st) l (parks few source s x claim s.run.control m) stops

pub law_makings : LawMakings
law_makings = record {
  steps = λ t ends few source sound s st x claim l m. steps t ends few source sound s st x claim l m;
  elsewhere = λ t ends n gs cs m w c h. elsewhere t ends n gs cs m w c h;
}
