-- In every run of a program whatever is bound lies in what those build who were called one by another.
use Rattle.std.proofs.Common.{◌≡◌, ℕ, false, List, [], ◌∷◌, Some, subst}
use Rattle.std.specs.Prelude.{slice_get}
use Rattle.uc_tree.specs.Programs.{Program}
use Rattle.uc_entry.specs.declared.entry.Entry.{Entry}
use Rattle.uc_entry.specs.declared.entry.Options.{Options}
use Rattle.uc_entry.specs.declared.request.Answer.{Answer}
use Rattle.uc_entry.specs.declared.request.Asked.{Asked}
use Rattle.uc_acts.specs.Journal.{Journal, is_over}
use Rattle.uc_acts.specs.Answers.{answer_to}
use Rattle.uc_acts.specs.KernelRuns.{InRange}
use Rattle.uc_acts.specs.Queues.{running}
use Rattle.uc_machine.specs.Quiet as quiet
use Rattle.uc_machine.specs.Pieces.{State, Goes, Ticks}
use Rattle.uc_machine.specs.Answering.{answered}
use Rattle.uc_machine.specs.Rides as rides
use Rattle.uc_machine.specs.Rides.{Rides}
use Rattle.uc_meaning.specs.Runs.{World, May, Runs, drawn, gives, no_room, acts, begun, more}
use Rattle.uc_state_laws.specs.Fitting.{RunFits}
use Rattle.uc_resolve.specs.Resolve.{source_of}
use Rattle.uc_rules.specs.Breaks.{breaks_of}
use Rattle.uc_sound.specs.SoundFormed.{IsFormed}
use Rattle.uc_state_laws.specs.Layout.{Sized}
use Rattle.uc_state_laws.specs.Rooms.{SourceIn}
use Rattle.uc_state_laws.specs.RoomStacks.{StackState, StackStep}
use Rattle.uc_state_laws.specs.RoomRuns as rooms
use Rattle.uc_state_laws.specs.RoomRuns.{Leads, Comes}
use Rattle.uc_state_laws.proofs.StackWalk.{walk as walk_stack}
use Rattle.uc_state_laws.proofs.StackWorlds.{law_frame_runs}
use Rattle.uc_state_laws.proofs.Unreferring.{law_accepted}
use Rattle.uc_state_laws.specs.Opens.{RideMeets, MayMeet, RunMeets, LeadsMeet}
use Rattle.uc_place_laws.specs.Asides.{CodeRoutine, AsideState, AsideStep}
use Rattle.uc_place_laws.specs.AsideLaws.{makes_of}
use Rattle.uc_place_laws.specs.Seating.{Seating, LawSeating}
use Rattle.uc_place_laws.proofs.AsideWalk.{walk}
use Rattle.uc_place_laws.proofs.AsideWorlds.{code_of, aside_in}
use Rattle.uc_place_laws.proofs.Seating.{law_seats}

-- what holds along rides
record Stands (p : Program) (s : State) : Type 0 where
  aside : AsideState (Sized p) (makes_of p) (source_of p) s
  stack : StackState (Sized p) s

module _ (p : Program) (in_rooms : SourceIn (Sized p) (source_of p)) (known : (n : ℕ) → CodeRoutine (makes_of p) (source_of p) (makes_of p n) (slice_get (source_of p).routines n)) where
  seats : (s : State) → Stands p s → Seating p s
  seats s n = law_seats p (makes_of p) s n.aside

  goes : (s t : State) → quiet.quiet (source_of p) s ≡ Goes t → Stands p s → Stands p t
  goes s t e n = record {
    aside = subst (AsideStep (Sized p) (makes_of p) (source_of p)) e (walk (Sized p) (makes_of p) (source_of p) known s n.aside n.stack);
    stack = subst (StackStep (Sized p)) e (walk_stack (Sized p) (source_of p) in_rooms s n.stack);
  }

  ticks : (s t : State) → quiet.quiet (source_of p) s ≡ Ticks t → Stands p s → Stands p t
  ticks s t e n = record {
    aside = subst (AsideStep (Sized p) (makes_of p) (source_of p)) e (walk (Sized p) (makes_of p) (source_of p) known s n.aside n.stack);
    stack = subst (StackStep (Sized p)) e (walk_stack (Sized p) (source_of p) in_rooms s n.stack);
  }

  ridden : {s u : State} {q k : ℕ} {a : Asked} (d : Rides (source_of p) s q u k a) → Stands p s → RideMeets (Seating p) (source_of p) s q u k a d
  ridden rides.slices n = tt
  ridden (rides.goes_on {s} {t} e r) n = (seats s n, ridden r (goes s t e n))
  ridden (rides.ticks {s} {t} e r) n = (seats s n, ridden r (ticks s t e n))
  ridden (rides.asks {s} e) n = seats s n

  led : {s u : State} (l : Leads (source_of p) s u) → Stands p s → LeadsMeet (Seating p) (source_of p) s u l
  led rooms.stays n = tt
  led (rooms.goes {s} {u} e l) n = (seats s n, led l (goes s u e n))
  led (rooms.ticks {s} {u} e l) n = (seats s n, led l (ticks s u e n))

-- runs

module _ (p : Program) (formed : IsFormed p) (accepted : breaks_of p ≡ []) (input : List ℕ) (opts : Options) (range : InRange opts) where
  stands : {j : Journal} {w : World} (r : Runs (source_of p) input opts j w) → RunFits (source_of p) input opts j w r → is_over j ≡ false → (t : ℕ) (s : State) → Comes (source_of p) j w t s → Stands p s
  stands {j} {w} r f on t s c = record {
    aside = aside_in p formed accepted input opts range j w r f on t s c;
    stack = (law_frame_runs p accepted input opts j w r).comes t s c;
  }

  begins : {j : Journal} {w : World} (r : Runs (source_of p) input opts j w) → RunFits (source_of p) input opts j w r → is_over j ≡ false → (q t : ℕ) (a : Answer) → running q j ≡ t ∷ [] → answer_to (source_of p).sites t j ≡ Some a → Stands p (answered (source_of p) a (drawn j w t))
  begins {j} {w} r f on q t a runs told = stands r f on t _ (record { given = a; processor = q; runs = runs; told = told; leads = rooms.stays })

  may_seat : {j : Journal} {w : World} {a : List Entry} {x : World} (r : Runs (source_of p) input opts j w) → RunFits (source_of p) input opts j w r → is_over j ≡ false → (m : May (source_of p) opts input j w a x) → MayMeet (Seating p) (source_of p) opts input j w a x m
  may_seat r f on (gives q t s le) = tt
  may_seat r f on (no_room q t s le) = tt
  may_seat r f on (acts q t n s asked d) =
      ridden p (law_accepted p accepted) (code_of p formed accepted) d.rides (begins r f on q t d.given d.runs d.told)

pub law_seating : LawSeating
law_seating = record {
  runs = runs;
  leads = λ p formed accepted input opts range j w r f on t s c. led p (law_accepted p accepted) (code_of p formed accepted) c.leads (begins p formed accepted input opts range r f on c.processor t c.given c.runs c.told);
  comes = λ p formed accepted input opts range j w r f on t s c. seats p (law_accepted p accepted) (code_of p formed accepted) s (stands p formed accepted input opts range r f on t s c);
}
  where
    runs : (p : Program) → IsFormed p → breaks_of p ≡ [] → (input : List ℕ) (opts : Options) → InRange opts → (j : Journal) (w : World) (r : Runs (source_of p) input opts j w) → RunFits (source_of p) input opts j w r → RunMeets (Seating p) (source_of p) input opts j w r
    runs p formed accepted input opts range j w begun f = tt
    runs p formed accepted input opts range j w (more r on m) f =
        (runs p formed accepted input opts range _ _ r f.0, may_seat p formed accepted input opts range r f.0 on m)
