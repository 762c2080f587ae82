-- In programs within their limits what is bound is there behind the step that binds it: in runs.
use Rattle.std.proofs.Common.{◌≡◌, ℕ, suc, inr, Bool, false, true, Some, List, [], ◌∷◌, refl, sym, ap, ◌∙◌, subst}
use Rattle.std.specs.Prelude.{slice_get}
use Rattle.uc_tree.specs.Programs.{Program}
use Rattle.uc_tree.specs.Source as src
use Rattle.uc_tree.specs.Source.{Expr, CleanUp, Stmts, Source}
use Rattle.uc_entry.specs.declared.entry.Entry.{Entry}
use Rattle.uc_entry.specs.declared.entry.Options.{Options}
use Rattle.uc_entry.specs.declared.request.Answer.{Answer}
use Rattle.uc_entry.specs.declared.request.Asked.{Asked}
use Rattle.uc_acts.specs.Journal.{Journal, is_over}
use Rattle.uc_acts.specs.Answers.{answer_to}
use Rattle.uc_acts.specs.KernelRuns.{InRange}
use Rattle.uc_acts.specs.Queues.{running}
use Rattle.uc_machine.specs.Quiet as quiet
use Rattle.uc_machine.specs.Pieces as piece
use Rattle.uc_machine.specs.Pieces.{Value, top, below, Todo, State, Step, Goes, Ticks, Asks}
use Rattle.uc_machine.specs.Answering.{answered}
use Rattle.uc_machine.specs.Rides as rides
use Rattle.uc_machine.specs.Rides.{Rides}
use Rattle.uc_meaning.specs.Runs.{World, May, Runs, drawn, gives, no_room, acts, begun, more}
use Rattle.uc_state_laws.specs.Fitting.{RunFits}
use Rattle.uc_resolve.specs.Resolve.{source_of}
use Rattle.uc_rules.specs.Breaks.{breaks_of}
use Rattle.uc_sound.specs.SoundFormed.{IsFormed}
use Rattle.uc_state_laws.specs.Layout.{Sized}
use Rattle.uc_state_laws.specs.Rooms.{SourceIn}
use Rattle.uc_state_laws.specs.RoomStates.{RoomState, RoomStep}
use Rattle.uc_state_laws.specs.RoomStacks.{StackState, StackStep}
use Rattle.uc_state_laws.specs.RoomRuns as rooms
use Rattle.uc_state_laws.specs.RoomRuns.{Leads, Comes}
use Rattle.uc_state_laws.proofs.RoomWorlds.{law_runs as rooms_in}
use Rattle.uc_state_laws.proofs.StackWalk.{walk as walk_stack}
use Rattle.uc_state_laws.proofs.StackWorlds.{law_frame_runs}
use Rattle.uc_state_laws.proofs.Unreferring.{law_accepted}
use Rattle.uc_state_laws.proofs.ScopeWalk.{walk as walk_rooms}
use Rattle.uc_state_laws.specs.There.{IsLoose, HoldsLoose, HoldsObject, OfBound, NextDrop, NextCall}
use Rattle.uc_state_laws.specs.ThereStates.{BoundBehind, BuildsBare, FillsBare}
use Rattle.uc_state_laws.specs.Opens.{OpensAt, Opens, RunOpens, RideMeets, MayMeet, LeadsMeet}
use Rattle.uc_state_laws.proofs.ValueWorlds.{law_counts, law_ends}
use Rattle.uc_state_laws.specs.Counted.{params, params_at, CountedExpr}
use Rattle.uc_place_laws.specs.AsideLaws.{PutsAt, Puts}
use Rattle.uc_place_laws.proofs.PutsRuns.{law_runs as aside_runs}
use Rattle.uc_place_laws.specs.Placed.{IsObject, Mark, rest, rests, anys, CodeRoutine, Ok, PlacedState, PlacedStep}
use Rattle.uc_place_laws.specs.Taking.{here, call_now, Takes}
use Rattle.uc_state_laws.specs.Limits.{IsWithinLimits}
use Rattle.uc_state_laws.specs.Addressed.{AddressedAt, Addressed}
use Rattle.uc_state_laws.proofs.AddressWorlds.{law_addressed}
use Rattle.uc_place_laws.specs.OpenRuns.{LawOpens, LawThere}
use Rattle.uc_place_laws.proofs.BindingWalk.{walk, law_bound}
use Rattle.uc_place_laws.proofs.BindingWorlds.{code_of, placed_in}
use Rattle.uc_place_laws.proofs.Taking.{law_taken}

-- one step

module _ (source : Source) (p : Program) (s : State) (h : PlacedState (Sized p) source s) (st : StackState (Sized p) s) where
  takes : (t : State) → Takes source s t
  takes t = law_taken source p s t h st

  bound : (t : State) (line : ℕ) (c : CleanUp) (rest : Stmts) (todo : List Todo) → s.run.control ≡ piece.BindNow ∷ (piece.DropNow ∷ (piece.Within line ∷ (piece.Rest (src.Scoped c rest) ∷ todo))) → quiet.quiet source s ≡ Goes t → OfBound (λ q. HoldsLoose (here s) q → HoldsObject (here t) q) c
  bound t line (src.Destroys (src.OfObject (src.EndProcessor (src.Load (src.Variable k))))) rest todo e g = λ near l. (takes t).bound line _ rest todo e l g
  bound t line (src.Destroys (src.OfObject (src.EndOn r written (src.Load (src.Variable k))))) rest todo e g = λ near l. (takes t).bound line _ rest todo e l g
  bound t line c rest todo e g = tt

  bound_drop : (t : State) (todo : List Todo) → s.run.control ≡ piece.BindNow ∷ todo → quiet.quiet source s ≡ Goes t → NextDrop (λ q. HoldsLoose (here s) q → HoldsObject (here t) q) todo
  bound_drop t (piece.DropNow ∷ (piece.Within line ∷ (piece.Rest (src.Scoped c rest) ∷ todo))) e g = bound t line c rest todo e g
  bound_drop t todo e g = tt

  made : (t : State) (k r line : ℕ) (c : CleanUp) (rest : Stmts) (todo : List Todo) (q : ℕ) (written : Bool) → s.run.control ≡ piece.BindMadeNow k r ∷ (call_now written q ∷ (piece.DropNow ∷ (piece.Within line ∷ (piece.Rest (src.Scoped c rest) ∷ todo)))) → quiet.quiet source s ≡ Goes t → OfBound (λ q. HoldsLoose (here s) q → HoldsObject (here t) q) c
  made t k r line (src.Destroys (src.OfObject (src.EndProcessor (src.Load (src.Variable m))))) rest todo q written e g = λ near l. (takes t).made k r q written line _ rest todo e l g
  made t k r line (src.Destroys (src.OfObject (src.EndOn d w (src.Load (src.Variable m))))) rest todo q written e g = λ near l. (takes t).made k r q written line _ rest todo e l g
  made t k r line c rest todo q written e g = tt

  made_call : (t : State) (k r : ℕ) (todo : List Todo) → s.run.control ≡ piece.BindMadeNow k r ∷ todo → quiet.quiet source s ≡ Goes t → NextCall (λ q. HoldsLoose (here s) q → HoldsObject (here t) q) todo
  made_call t k r (piece.CallOnNow q ∷ (piece.DropNow ∷ (piece.Within line ∷ (piece.Rest (src.Scoped c rest) ∷ todo)))) e g = made t k r line c rest todo q true e g
  made_call t k r (piece.CallUnwrittenNow q ∷ (piece.DropNow ∷ (piece.Within line ∷ (piece.Rest (src.Scoped c rest) ∷ todo)))) e g = made t k r line c rest todo q false e g
  made_call t k r todo e g = tt

  behind_bind : (x : Step) (todo : List Todo) → s.run.control ≡ piece.BindNow ∷ todo → quiet.quiet source s ≡ x → BoundBehind (λ P. NextDrop P todo) (here s) x
  behind_bind (Goes t) todo e g = bound_drop t todo e g
  behind_bind (Ticks t) todo e g = tt
  behind_bind (Asks r t) todo e g = tt

  behind_made : (x : Step) (k r : ℕ) (todo : List Todo) → s.run.control ≡ piece.BindMadeNow k r ∷ todo → quiet.quiet source s ≡ x → BoundBehind (λ P. NextCall P todo) (here s) x
  behind_made (Goes t) k r todo e g = made_call t k r todo e g
  behind_made (Ticks t) k r todo e g = tt
  behind_made (Asks q t) k r todo e g = tt

  step : (l : List Todo) → s.run.control ≡ l → quiet.quiet source s ≡ quiet.act_todo source l s
  step l e = ap (λ (x : List Todo). quiet.act_todo source x s) e

  object_loose : (v : Value) → IsObject v → IsLoose v
  object_loose v q = subst IsLoose (sym q) tt

  -- the elements of an array are built without arguments
  builds_bare : (b : Expr) → CountedExpr source b → BuildsBare source b
  builds_bare (src.OfObject (src.MakeOn c r written e src.NoExprs)) k = λ q i. sym (k.2 ∙ ap params_at i)
  builds_bare b k = tt

  fills_bare : (ms : List Mark) (todo : List Todo) → Ok (Sized p) source ms todo → FillsBare source todo
  fills_bare ms (piece.CallOnNow q ∷ (piece.DropNow ∷ (piece.MoreNow ∷ (piece.FillNow n b d ∷ todo)))) k = builds_bare b k.1.1.1.0.0
  fills_bare ms (piece.CallUnwrittenNow q ∷ (piece.DropNow ∷ (piece.MoreNow ∷ (piece.FillNow n b d ∷ todo)))) k = builds_bare b k.1.1.1.0.0
  fills_bare ms todo k = tt

  made_ok : (c r : ℕ) (todo : List Todo) (e : s.run.control ≡ piece.BindMadeNow c r ∷ todo) → Ok (Sized p) source (anys (suc (params source r)) (rests (suc (params source r)) (rest h.run.marks))) todo
  made_ok c r todo e = (subst (Ok (Sized p) source h.run.marks) e h.run.ok).1

  opens_at : (l : List Todo) → s.run.control ≡ l → AddressedAt l s → PutsAt source l s → OpensAt source l s
  opens_at (piece.Rest (src.Scoped c ss) ∷ todo) e o q = o
  opens_at (piece.BindNow ∷ todo) e o q = (behind_bind (quiet.act source piece.BindNow todo s) todo e (step _ e), inr q)
  opens_at (piece.BindMadeNow k r ∷ todo) e o q =
      (behind_made (quiet.act source (piece.BindMadeNow k r) todo s) k r todo e (step _ e), object_loose (top s.run.operands) (law_bound.object source p s h k r todo e), fills_bare _ todo (made_ok k r todo e))
  opens_at (piece.SetUpNow r ∷ todo) e o q = q
  opens_at l e o q = tt

-- what holds along rides

record Stands (p : Program) (source : Source) (s : State) : Type 0 where
  rooms : RoomState (Sized p) s
  placed : PlacedState (Sized p) source s
  stack : StackState (Sized p) s

module _ (p : Program) (source : Source) (in_rooms : SourceIn (Sized p) source) (known : (n : ℕ) → CodeRoutine source (slice_get source.routines n)) where
  opens : (s : State) → Stands p source s → Addressed s → Puts source s → Opens source s
  opens s n o q = opens_at source p s n.placed n.stack s.run.control refl o q

  goes : (s t : State) → quiet.quiet source s ≡ Goes t → Stands p source s → Stands p source t
  goes s t e n = record {
    rooms = subst (RoomStep (Sized p)) e (walk_rooms (Sized p) source in_rooms s n.rooms);
    placed = subst (PlacedStep (Sized p) source) e (walk (Sized p) source known s n.placed n.rooms.run);
    stack = subst (StackStep (Sized p)) e (walk_stack (Sized p) source in_rooms s n.stack);
  }

  ticks : (s t : State) → quiet.quiet source s ≡ Ticks t → Stands p source s → Stands p source t
  ticks s t e n = record {
    rooms = subst (RoomStep (Sized p)) e (walk_rooms (Sized p) source in_rooms s n.rooms);
    placed = subst (PlacedStep (Sized p) source) e (walk (Sized p) source known s n.placed n.rooms.run);
    stack = subst (StackStep (Sized p)) e (walk_stack (Sized p) source in_rooms s n.stack);
  }

  ridden : {s u : State} {q k : ℕ} {a : Asked} (d : Rides source s q u k a) → Stands p source s → RideMeets Addressed source s q u k a d → RideMeets (Puts source) source s q u k a d → RideMeets (Opens source) source s q u k a d
  ridden rides.slices n o h = tt
  ridden (rides.goes_on {s} {t} e r) n o h = (opens s n o.0 h.0, ridden r (goes s t e n) o.1 h.1)
  ridden (rides.ticks {s} {t} e r) n o h = (opens s n o.0 h.0, ridden r (ticks s t e n) o.1 h.1)
  ridden (rides.asks {s} e) n o h = opens s n o h

  led : {s u : State} (l : Leads source s u) → Stands p source s → LeadsMeet Addressed source s u l → LeadsMeet (Puts source) source s u l → LeadsMeet (Opens source) source s u l
  led rooms.stays n o h = tt
  led (rooms.goes {s} {u} e l) n o h = (opens s n o.0 h.0, led l (goes s u e n) o.1 h.1)
  led (rooms.ticks {s} {u} e l) n o h = (opens s n o.0 h.0, led l (ticks s u e n) o.1 h.1)

-- runs

module _ (p : Program) (formed : IsFormed p) (accepted : breaks_of p ≡ []) (input : List ℕ) (opts : Options) (range : InRange opts) where
  stands : {j : Journal} {w : World} (r : Runs (source_of p) input opts j w) → RunFits (source_of p) input opts j w r → is_over j ≡ false → (t : ℕ) (s : State) → Comes (source_of p) j w t s → Stands p (source_of p) s
  stands {j} {w} r f on t s c = record {
    rooms = (rooms_in p accepted input opts j w r).comes t s c;
    placed = placed_in p formed accepted input opts range j w r f on t s c;
    stack = (law_frame_runs p accepted input opts j w r).comes t s c;
  }

  begins : {j : Journal} {w : World} (r : Runs (source_of p) input opts j w) → RunFits (source_of p) input opts j w r → is_over j ≡ false → (q t : ℕ) (a : Answer) → running q j ≡ t ∷ [] → answer_to (source_of p).sites t j ≡ Some a → Stands p (source_of p) (answered (source_of p) a (drawn j w t))
  begins {j} {w} r f on q t a runs told = stands r f on t _ (record { given = a; processor = q; runs = runs; told = told; leads = rooms.stays })

  may_open : {j : Journal} {w : World} {a : List Entry} {x : World} (r : Runs (source_of p) input opts j w) → RunFits (source_of p) input opts j w r → is_over j ≡ false → (m : May (source_of p) opts input j w a x) → MayMeet Addressed (source_of p) opts input j w a x m → MayMeet (Puts (source_of p)) (source_of p) opts input j w a x m → MayMeet (Opens (source_of p)) (source_of p) opts input j w a x m
  may_open r f on (gives q t s le) o h = tt
  may_open r f on (no_room q t s le) o h = tt
  may_open r f on (acts q t n s asked d) o h =
      ridden p (source_of p) (law_accepted p accepted) (code_of p formed accepted) d.rides (begins r f on q t d.given d.runs d.told) o h

pub law_opens : LawOpens
law_opens = record {
  runs = runs;
  leads = λ p formed accepted within input opts range j w r f on t s c. led p (source_of p) (law_accepted p accepted) (code_of p formed accepted) c.leads (begins p formed accepted input opts range r f on c.processor t c.given c.runs c.told) (law_addressed.leads p within input opts j w r t s c) (aside_runs.leads p formed accepted input opts range j w r f on t s c);
  comes = λ p formed accepted within input opts range j w r f on t s c. opens p (source_of p) (law_accepted p accepted) (code_of p formed accepted) s (stands p formed accepted input opts range r f on t s c) (law_addressed.comes p within input opts j w r t s c) (aside_runs.comes p formed accepted input opts range j w r f on t s c);
}
  where
    runs : (p : Program) → IsFormed p → breaks_of p ≡ [] → IsWithinLimits p → (input : List ℕ) (opts : Options) → InRange opts → (j : Journal) (w : World) (r : Runs (source_of p) input opts j w) → RunFits (source_of p) input opts j w r → RunOpens (source_of p) input opts j w r
    runs p formed accepted within input opts range j w begun f = tt
    runs p formed accepted within input opts range j w (more r on m) f =
        (runs p formed accepted within input opts range _ _ r f.0, may_open p formed accepted input opts range r f.0 on m (law_addressed.runs p within input opts _ _ (more r on m)).1 (aside_runs.runs p formed accepted input opts range _ _ (more r on m) f).1)

pub law_there : LawThere
law_there = record {
  comes = λ p formed accepted within input opts range j w r f on t s c. (law_counts p accepted input opts range j w r f on (law_opens.runs p formed accepted within input opts range j w r f)).comes t s c (law_opens.leads p formed accepted within input opts range j w r f on t s c);
  ends = λ p formed accepted within input opts range j w r f on t s c k todo l leaves. law_ends p accepted input opts range j w r f on (law_opens.runs p formed accepted within input opts range j w r f) t s c (law_opens.leads p formed accepted within input opts range j w r f on t s c) k todo l leaves;
}
