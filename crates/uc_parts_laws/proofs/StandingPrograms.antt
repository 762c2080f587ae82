-- In runs of programs no element that stands is gone, as what is in scope and what is bound is not.
use Rattle.std.proofs.Common.{◌≡◌, ℕ, ◌<◌, ◌⊎◌, inl, inr, Bool, true, false, List, [], ◌∷◌, refl, sym, ap, ◌∙◌, subst}
use Rattle.std.specs.Prelude.{if◌then◌else◌, slice_index_or}
use Rattle.uc_tree.specs.Programs.{Program}
use Rattle.uc_tree.specs.Source as src
use Rattle.uc_tree.specs.Source.{Shape, Binding, Expr, CleanUp, Stmts, Source, DestroysAll, Element, Variable, OfObject, OwnField, Counted}
use Rattle.uc_entry.specs.declared.entry.Options.{Options}
use Rattle.uc_entry.specs.declared.request.Asked.{Asked}
use Rattle.uc_acts.specs.Journal.{Journal, is_over}
use Rattle.uc_acts.specs.Known.{is_gone}
use Rattle.uc_acts.specs.KernelRuns.{InRange}
use Rattle.uc_machine.specs.declared.exec.Owner.TheVariants.{Frame}
use Rattle.uc_machine.specs.Executions.{at_depth, frames_in, list_in, parked_at}
use Rattle.uc_machine.specs.Pieces as piece
use Rattle.uc_machine.specs.Pieces.{Link, Slot, At, Value, Place, Object, Todo, State, Env, Asks, address, loaded, nought, variable_at}
use Rattle.uc_machine.specs.Answering.{answered}
use Rattle.uc_machine.specs.Rides as rides
use Rattle.uc_machine.specs.Rides.{Rides}
use Rattle.uc_meaning.specs.Runs.{World, Runs, AsksIn, gives, no_room, acts, begun, more, drawn}
use Rattle.uc_resolve.specs.Resolve.{source_of}
use Rattle.uc_rules.specs.Breaks.{breaks_of}
use Rattle.uc_sound.specs.SoundFormed.{IsFormed}
use Rattle.uc_sound.specs.Tables.{table_of}
use Rattle.uc_typing.specs.Typing.{Ty, Cell, Obj, Row, Clu, Pro, Name, Var, Own, Kept, Sig, Table, DestroysAt, DestroysEach, Cleans, element_shape}
use Rattle.uc_typing.specs.Pieces.{Ok, Popped}
use Rattle.uc_state_laws.specs.Layout.{Sized}
use Rattle.uc_state_laws.specs.Fitting.{RunFits}
use Rattle.uc_state_laws.specs.Opens.{RideMeets, RunMeets}
use Rattle.uc_state_laws.specs.Rooms.{OwnAt, OwnIn, OwnPart}
use Rattle.uc_state_laws.specs.RoomStacks.{UpTo, TodoTo, StackState}
use Rattle.uc_state_laws.specs.RoomRuns as rooms
use Rattle.uc_state_laws.proofs.ValueSteps.{exec_same}
use Rattle.uc_state_laws.proofs.Others.{run_rests}
use Rattle.uc_state_laws.proofs.StackWorlds.{law_frame_runs}
use Rattle.uc_state_laws.proofs.Unreferring.{law_accepted}
use Rattle.uc_life_laws.specs.Things.{Few, itself, element, AtVariable, Nowhere, InTodo, Variables, IsFew}
use Rattle.uc_life_laws.specs.Homes.{home_of}
use Rattle.uc_life_laws.specs.LifeStates.{frame_at}
use Rattle.uc_life_laws.specs.Lasting.{lasting, RunMeetsAt}
use Rattle.uc_life_laws.proofs.Laying.{laid_out}
use Rattle.uc_life_laws.proofs.Lasting.{not_gone}
use Rattle.uc_life_laws.proofs.LivesLemmas.{law_lives}
use Rattle.uc_putting_laws.specs.Filling.{opens_all, is_filling}
use Rattle.uc_putting_laws.specs.PuttingLaws.{special_of, setting_of, Fair}
use Rattle.uc_putting_laws.proofs.Routines.{law_calling}
use Rattle.uc_putting_laws.proofs.PuttingRuns.{code_of}
use Rattle.uc_putting_laws.proofs.Worlds.{Stands, PutWorld, goes, ticks, start, run_put}
use Rattle.uc_parts_laws.specs.Parts.{IsFree, OpensAll, FillEnds, IsOrderly}
use Rattle.uc_parts_laws.specs.PartStates.{PartsState, IsTaken}
use Rattle.uc_parts_laws.specs.PartsRuns.{parts_of}
use Rattle.uc_parts_laws.specs.Standing.{Going, array_of, AllStill, CleansStill, StandingState, StandingStep, FindsStandingAt, FindsStanding}
use Rattle.uc_parts_laws.specs.StandingRuns.{told_by, RunGoesApart}
use Rattle.uc_parts_laws.specs.StandingPrograms.{BindsLastingAt, Lasts, LawStandingPrograms}
use Rattle.uc_parts_laws.proofs.PartTodos.{parted_free}
use Rattle.uc_parts_laws.proofs.PartsRuns.{law_parts_runs}
use Rattle.uc_parts_laws.proofs.StandingWalk.{law_standing}
use Rattle.uc_parts_laws.proofs.StandingRuns.{law_standing_runs}
use Rattle.uc_parts_laws.proofs.GoingApart.{law_goes_apart}

-- an array that is left while it is being filled

opens_so : (m : ℕ) (d : Expr) (ss : Stmts) → OpensAll m d ss → opens_all ss ≡ true
opens_so m d (src.Scoped (DestroysAll k e) rest) h = refl
opens_so m d (src.Built (DestroysAll k e) rest) h = refl
opens_so m d ss h = absurd h

filling : (m : ℕ) (d : Expr) (todo : List Todo) → FillEnds todo m d → is_filling (piece.Unwind ∷ todo) ≡ true
filling m d (piece.Within line ∷ (piece.Rest ss ∷ todo)) h = opens_so m d ss h
filling m d todo h = absurd h

-- what a frame of the running execution holds is loaded there
here_loaded : (e : Env) (d : ℕ) (x : List Link) → loaded (Place (Frame e.exec d) x) e ≡ slice_index_or (frame_at d e.frames) (address x) nought
here_loaded e d x =
    ap (λ (b : Bool). slice_index_or (list_in (at_depth (if b then e.frames else frames_in (parked_at e.exec e)) d)) (address x) nought) (exec_same e.exec)

-- the name that a clean-up takes out of scope
popped : (t : Table) (g : Sig) (c : CleanUp) (sc : List Name) (next : List Name → Type 0) → Popped t g c sc next → (x : Name) × Cleans t g x c
popped t g c [] next h = absurd h
popped t g c (x ∷ sc) next h = (x, h.0)

module _ (p : Program) (few : Few) (homes : ℕ → Value) (j : Journal) (s : State) (parts : PartsState (parts_of p homes) s) (stack : StackState (Sized p) s) (lasts : Lasts p few j s) where
  abbrev t : Table
  t = table_of p

  abbrev told : Going
  told = told_by few.home j

  abbrev Still : ℕ → Expr → Type 0
  Still m e = AllStill told s.env.exec (frame_at s.run.frame s.env.frames) s.run.frame m (array_of e)

  -- of an array in scope
  module _ (k m n : ℕ) (e : Expr) (marked : (a : Ty) → DestroysEach t a m (Variable k) e → Variables t s.env.exec (s.run ∷ s.callers) (variable_at k s) a) where
    elements : (c : ℕ) → DestroysEach t (Row n (Cell (Obj c))) m (Variable k) e → (i o : ℕ) → i < n → slice_index_or (frame_at s.run.frame s.env.frames) (address (At Binding i ∷ (Slot k ∷ []))) nought ≡ Object o → is_gone o j ≡ false
    elements c h i o l q =
        let path : List Link = At Binding i ∷ (Slot k ∷ []) in
        let known = law_lives.reads t (lasting few j) s lasts.0 (variable_at k s) (Row n (Cell (Obj c))) s.run.frame path (Obj c) tt (marked (Row n (Cell (Obj c))) h) (element itself i l) in
        let f : IsFew t (lasting few j) s.env.exec (Obj c) (Object o) = subst (λ v. IsFew t (lasting few j) s.env.exec (Obj c) v) (here_loaded s.env s.run.frame path ∙ q) known.passes in
        not_gone few.numbers j c o f

  each : (k m n : ℕ) (a : Ty) (e : Expr) → ((b : Ty) → DestroysEach t b m (Variable k) e → Variables t s.env.exec (s.run ∷ s.callers) (variable_at k s) b) → n ≡ m → DestroysAt t a (Element n (element_shape t a) (Variable k) (OfObject Counted)) e → Still m e
  each k m n (Obj c) (OfObject (src.CallOn r x args)) marked l h = tt
  each k m n (Obj c) (OfObject (src.CallUnwritten r x)) marked l h = tt
  each k m n (Cell (Obj c)) (OfObject (src.EndOn r written (src.Load x))) marked l h =
      subst (λ z. Still m (OfObject (src.EndOn r written (src.Load z)))) h.0 (λ i lt less o q g. elements k m n (OfObject (src.EndOn r written (src.Load x))) marked c (l, h) i o less q)
  each k m n (Cell Clu) (OfObject (src.EndCluster (src.Load x))) marked l h = tt
  each k m n (Cell Pro) (OfObject (src.EndProcessor (src.Load x))) marked l h = tt
  each k m n a e marked l h = absurd h

  own_each : (f : Shape) (i m n : ℕ) (a : Ty) (e : Expr) → DestroysAt t a (Element n (element_shape t a) (OfObject (OwnField f i)) (OfObject Counted)) e → Still m e
  own_each f i m n (Obj c) (OfObject (src.CallOn r x args)) h = tt
  own_each f i m n (Obj c) (OfObject (src.CallUnwritten r x)) h = tt
  own_each f i m n (Cell (Obj c)) (OfObject (src.EndOn r written (src.Load x))) h =
      subst (λ z. Still m (OfObject (src.EndOn r written (src.Load z)))) h.0 tt
  own_each f i m n (Cell Clu) (OfObject (src.EndCluster (src.Load x))) h = tt
  own_each f i m n (Cell Pro) (OfObject (src.EndProcessor (src.Load x))) h = tt
  own_each f i m n a e h = absurd h

  of_own : (f : Shape) (i m : ℕ) (a : Ty) (e : Expr) → DestroysEach t a m (OfObject (OwnField f i)) e → Still m e
  of_own f i m (Row n a) e h = own_each f i m n a e h.1
  of_own f i m a e h = absurd h

  of_variable : (k m : ℕ) (a : Ty) (e : Expr) → ((b : Ty) → DestroysEach t b m (Variable k) e → Variables t s.env.exec (s.run ∷ s.callers) (variable_at k s) b) → DestroysEach t a m (Variable k) e → Still m e
  of_variable k m (Row n a) e marked h = each k m n a e marked h.0 h.1
  of_variable k m a e marked h = absurd h

  named : (g : Sig) (m : ℕ) (e : Expr) → ((k : ℕ) (b : Ty) → DestroysEach t b m (Variable k) e → Variables t s.env.exec (s.run ∷ s.callers) (variable_at k s) b) → (x : Name) → Cleans t g x (DestroysAll m e) → Still m e
  named g m e marked (Var k a) h = of_variable k m a e (marked k) h
  named g m e marked (Own i) h = of_own _ i m _ e h.2
  named g m e marked Kept h = absurd h

  abbrev Marked : List Todo → Value → Ty → Type 0
  Marked l w a = InTodo (AtVariable t (Frame s.env.exec s.run.frame) s.run.this) (Nowhere (Frame s.env.exec s.run.frame) s.run.this) l w a

  cleans : (c : CleanUp) (todo : List Todo) → (s.run.control ≡ piece.Clean c ∷ todo) ⊎ (s.run.control ≡ piece.Unwind ∷ (piece.Clean c ∷ todo)) → IsFree todo → CleansStill told c todo s
  cleans (DestroysAll m e) todo q f = (by q, f)
    where
      at : (l : List Todo) → s.run.control ≡ l → ((w : Value) (a : Ty) → AtVariable t (Frame s.env.exec s.run.frame) s.run.this (DestroysAll m e) w a → Marked l w a) → (x : Name) × Cleans t lasts.0.0.run.sig x (DestroysAll m e) → Still m e
      at l z h x =
          named lasts.0.0.run.sig m e (λ k b d. inl (subst (λ l. Marked l (variable_at k s) b) (sym z) (h (variable_at k s) b (k, d, refl)))) x.0 x.1

      by : (s.run.control ≡ piece.Clean (DestroysAll m e) ∷ todo) ⊎ (s.run.control ≡ piece.Unwind ∷ (piece.Clean (DestroysAll m e) ∷ todo)) → Still m e
      by (inl z) =
          let k : Ok t lasts.0.0.run.sig lasts.0.0.run.base lasts.0.0.run.scope (piece.Clean (DestroysAll m e) ∷ todo) lasts.0.0.run.own = subst (λ l. Ok t lasts.0.0.run.sig lasts.0.0.run.base lasts.0.0.run.scope l lasts.0.0.run.own) z lasts.0.0.run.ok in
          at (piece.Clean (DestroysAll m e) ∷ todo) z (λ w a h. inl h) (popped t lasts.0.0.run.sig (DestroysAll m e) lasts.0.0.run.scope _ k.0)
      by (inr z) =
          let k : Ok t lasts.0.0.run.sig lasts.0.0.run.base lasts.0.0.run.scope (piece.Unwind ∷ (piece.Clean (DestroysAll m e) ∷ todo)) lasts.0.0.run.own = subst (λ l. Ok t lasts.0.0.run.sig lasts.0.0.run.base lasts.0.0.run.scope l lasts.0.0.run.own) z lasts.0.0.run.ok in
          at (piece.Unwind ∷ (piece.Clean (DestroysAll m e) ∷ todo)) z (λ w a h. inl h) (popped t lasts.0.0.run.sig (DestroysAll m e) lasts.0.0.run.scope _ k)
  cleans c todo q f = tt

  -- a part of the object at hand is no variable
  own_base : (m n r : ℕ) (written : Bool) (h : Shape) (b : Expr) → OwnAt (Sized p) 1 b → Still m (OfObject (src.EndOn r written (src.Load (Element n h b (OfObject Counted)))))
  own_base m n r written h (OfObject (OwnField f i)) k = tt
  own_base m n r written h b k = absurd k

  own_place : (m r : ℕ) (written : Bool) (x : Expr) → OwnIn (Sized p) m 1 x → Still m (OfObject (src.EndOn r written (src.Load x)))
  own_place m r written (Element n h b (OfObject Counted)) k = own_base m n r written h b k.1
  own_place m r written x k = absurd k

  own_part : (m : ℕ) (e : Expr) → OwnPart (Sized p) (DestroysAll m e) → Still m e
  own_part m (OfObject (src.CallOn r x args)) k = tt
  own_part m (OfObject (src.CallUnwritten r x)) k = tt
  own_part m (OfObject (src.EndOn r written (src.Load x))) k = own_place m r written x k
  own_part m (OfObject (src.EndCluster (src.Load x))) k = tt
  own_part m (OfObject (src.EndProcessor (src.Load x))) k = tt
  own_part m e k = absurd k

  part : (c : CleanUp) (todo : List Todo) → s.run.control ≡ piece.Unwind ∷ (piece.Part c ∷ todo) → IsFree todo → CleansStill told c todo s
  part (DestroysAll m e) todo z f =
      let k = stack.stack.0.fits in
      let x : TodoTo (Sized p) (UpTo stack.stack.0.top) k.0 (piece.Unwind ∷ (piece.Part (DestroysAll m e) ∷ todo)) = subst (TodoTo (Sized p) (UpTo stack.stack.0.top) k.0) z k.1 in
      (own_part m e x.1.0, f)
  part c todo z f = tt

  abbrev Taken : CleanUp → Type 0
  Taken = IsTaken (parts_of p homes) s.env.exec s.callers s.run.frame s.run.this

  on : (l : List Todo) → s.run.control ≡ l → IsOrderly (special_of p) Taken s.run.elements l → BindsLastingAt j l s → FindsStandingAt told l s
  on (piece.Clean c ∷ todo) e f b = cleans c todo (inl e) f.1
  on (piece.Unwind ∷ (piece.Clean c ∷ todo)) e f b = cleans c todo (inr e) f.1
  on (piece.Unwind ∷ (piece.Part c ∷ todo)) e f b = part c todo e (parted_free (special_of p) Taken todo f.1)
  on (piece.Unwind ∷ (piece.FillNow m x d ∷ todo)) e f b = filling m d todo f.0
  on (piece.MoreNow ∷ (piece.FillNow m x d ∷ todo)) e f b = f.1.1
  on (piece.MoreNow ∷ todo) e f b = absurd f.0.0
  on (piece.BindNow ∷ todo) e f b = b
  on (piece.BindMadeNow c r ∷ todo) e f b = b
  on l e f b = tt

  finds : FindsStanding told s
  finds = on s.run.control refl parts.run lasts.1

-- along rides and runs

module _ (p : Program) (formed : IsFormed p) (accepted : breaks_of p ≡ []) (few : Few) (homes : ℕ → Value) where
  abbrev source : Source
  source = source_of p

  ride_finds : (j : Journal) {s u : State} {q k : ℕ} {a : Asked} (d : Rides source s q u k a) → RideMeets (Fair (setting_of p few)) source s q u k a d → RideMeets (Lasts p few j) source s q u k a d → RideMeets (PartsState (parts_of p homes)) source s q u k a d → Stands p (setting_of p few) s → RideMeets (FindsStanding (told_by few.home j)) source s q u k a d
  ride_finds j rides.slices f l h n = tt
  ride_finds j (rides.goes_on {s} {t} e r) f l h n =
      (finds p few homes j s h.0 n.stack l.0, ride_finds j r f.1 l.1 h.1 (goes p (setting_of p few) (laid_out p formed accepted) (law_accepted p accepted) (code_of p formed accepted few) s t e n f.0))
  ride_finds j (rides.ticks {s} {t} e r) f l h n =
      (finds p few homes j s h.0 n.stack l.0, ride_finds j r f.1 l.1 h.1 (ticks p (setting_of p few) (laid_out p formed accepted) (law_accepted p accepted) (code_of p formed accepted few) s t e n f.0))
  ride_finds j (rides.asks {s} e) f l h n = finds p few homes j s h n.stack l

  ride_stands : (known : Going) {s u : State} {q k : ℕ} {a : Asked} (r : Rides source s q u k a) → RideMeets (FindsStanding known) source s q u k a r → StandingState known s → RideMeets (StandingState known) source s q u k a r
  ride_stands known rides.slices o h = tt
  ride_stands known (rides.goes_on {s} e r) o h = (h, ride_stands known r o.1 (subst (StandingStep known) e (law_standing.steps known source s h o.0)))
  ride_stands known (rides.ticks {s} e r) o h = (h, ride_stands known r o.1 (subst (StandingStep known) e (law_standing.steps known source s h o.0)))
  ride_stands known (rides.asks e) o h = h

  module _ (input : List ℕ) (opts : Options) (range : InRange opts) where
    begins : {j : Journal} {w : World} (r : Runs source input opts j w) → RunFits source input opts j w r → is_over j ≡ false → RunMeets (Fair (setting_of p few)) source input opts j w r → (q t n : ℕ) (s : State) (asked : Asked) (d : AsksIn source opts j w q t n s asked) → Stands p (setting_of p few) (answered source d.given (drawn j w t))
    begins {j} {w} r fits o fair q t n s asked d =
        let placed : PutWorld (setting_of p few) j w = (run_put p accepted few (laid_out p formed accepted) (law_calling p formed accepted).main (code_of p formed accepted few) input opts range r fits fair).0 o in
        start p accepted few (laid_out p formed accepted) (law_calling p formed accepted).main (code_of p formed accepted few) input opts range (run_rests source input opts range r fits o) o placed (law_frame_runs p accepted input opts j w r) q t d.given d.runs d.told

    run_finds : {j : Journal} {w : World} (r : Runs source input opts j w) → RunFits source input opts j w r → RunMeets (Fair (setting_of p few)) source input opts j w r → RunMeetsAt (Lasts p few) source input opts j w r → RunMeets (PartsState (parts_of p homes)) source input opts j w r → RunMeetsAt (λ i s. FindsStanding (told_by few.home i) s) source input opts j w r
    run_finds begun fits f l h = tt
    run_finds (more r o (gives q t s le)) fits f l h = (run_finds r fits.0 f.0 l.0 h.0, tt)
    run_finds (more r o (no_room q t s le)) fits f l h = (run_finds r fits.0 f.0 l.0 h.0, tt)
    run_finds (more {j} {w} r o (acts q t n s asked d)) fits f l h =
        (run_finds r fits.0 f.0 l.0 h.0, ride_finds j d.rides f.1 l.1 h.1 (begins r fits.0 o f.0 q t n s asked d))

    module _ (q t n : ℕ) (s : State) (asked : Asked) where
      first : {j : Journal} {w : World} (r : Runs source input opts j w) → is_over j ≡ false → RunMeetsAt (λ i s. FindsStanding (told_by few.home i) s) source input opts j w r → RunGoesApart few.home source input opts j w r → (d : AsksIn source opts j w q t n s asked) → StandingState (told_by few.home j) (answered source d.given (drawn j w t))
      first {j} {w} r o f g d =
          (law_standing_runs few.home source input opts j w r o f g).comes t (answered source d.given (drawn j w t)) (record { given = d.given; processor = q; runs = d.runs; told = d.told; leads = rooms.stays }) tt

    run_stands : {j : Journal} {w : World} (r : Runs source input opts j w) → RunMeetsAt (λ i s. FindsStanding (told_by few.home i) s) source input opts j w r → RunGoesApart few.home source input opts j w r → RunMeetsAt (λ i s. StandingState (told_by few.home i) s) source input opts j w r
    run_stands begun f g = tt
    run_stands (more r o (gives q t s le)) f g = (run_stands r f.0 g.0, tt)
    run_stands (more r o (no_room q t s le)) f g = (run_stands r f.0 g.0, tt)
    run_stands (more {j} {w} r o (acts q t n s asked d)) f g =
        (run_stands r f.0 g.0, ride_stands (told_by few.home j) d.rides f.1 (first q t n s asked r o f.0 g.0 d))

pub law_standing_programs : LawStandingPrograms
law_standing_programs = record {
  runs = λ p formed accepted few nobodys asks input opts range j w r fits on left fair lasts.
      let homes : ℕ → Value = home_of (source_of p) input opts j w r in
      let parts = law_parts_runs.runs p formed accepted homes input opts range j w r fits (λ o. refl) in
      run_stands p formed accepted few homes input opts range r (run_finds p formed accepted few homes input opts range r fits fair lasts parts) (law_goes_apart p formed accepted few nobodys asks input opts range j w r fits on left fair homes parts);
  rides = λ p formed accepted few nobodys asks input opts range j w r fits on left fair lasts q t n s asked d f l.
      let homes : ℕ → Value = home_of (source_of p) input opts j w r in
      let parts = law_parts_runs.runs p formed accepted homes input opts range j w r fits (λ o. refl) in
      let found = run_finds p formed accepted few homes input opts range r fits fair lasts parts in
      let apart = law_goes_apart p formed accepted few nobodys asks input opts range j w r fits on left fair homes parts in
      let ride = law_parts_runs.rides p formed accepted homes input opts range j w r fits (λ o. refl) on q t n s asked d in
      ride_stands p formed accepted few homes (told_by few.home j) d.rides (ride_finds p formed accepted few homes j d.rides f l ride (begins p formed accepted few homes input opts range r fits on fair q t n s asked d)) (first p formed accepted few homes input opts range q t n s asked r on found apart d);
}
