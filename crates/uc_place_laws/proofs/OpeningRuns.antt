-- In every run of a program a constructor is called at the variable whose scope opens next.
use Rattle.std.proofs.Common.{◌≡◌, ℕ, false, List, [], ◌∷◌, Some, subst}
use Rattle.uc_tree.specs.Numbering.{sites_of}
use Rattle.uc_tree.specs.Programs.{Program}
use Rattle.uc_entry.specs.declared.entry.Entry.{Entry}
use Rattle.uc_entry.specs.declared.entry.Options.{Options}
use Rattle.uc_entry.specs.declared.request.Answer.{Answer}
use Rattle.uc_entry.specs.declared.request.Asked.{Asked}
use Rattle.uc_acts.specs.Journal.{Journal, is_over}
use Rattle.uc_acts.specs.Answers.{answer_to}
use Rattle.uc_acts.specs.KernelRuns.{InRange}
use Rattle.uc_acts.specs.Queues.{running}
use Rattle.uc_machine.specs.Quiet as quiet
use Rattle.uc_machine.specs.Pieces.{State, Goes, Ticks}
use Rattle.uc_machine.specs.Answering.{answered}
use Rattle.uc_machine.specs.Rides as rides
use Rattle.uc_machine.specs.Rides.{Rides}
use Rattle.uc_meaning.specs.Runs.{World, May, Runs, drawn, gives, no_room, acts, begun, more}
use Rattle.uc_state_laws.specs.Fitting.{RunFits}
use Rattle.uc_resolve.specs.Resolve.{source_of}
use Rattle.uc_rules.specs.Breaks.{breaks_of}
use Rattle.uc_site_laws.proofs.Routines.{source_named}
use Rattle.uc_sound.specs.SoundFormed.{IsFormed}
use Rattle.uc_sound.specs.Tables.{table_of}
use Rattle.uc_sound.proofs.SoundLemmas.{law_sound}
use Rattle.uc_state_laws.specs.RoomRuns as rooms
use Rattle.uc_state_laws.specs.RoomRuns.{Leads, Comes}
use Rattle.uc_state_laws.specs.Opens.{RideMeets, MayMeet, RunMeets, LeadsMeet}
use Rattle.uc_state_laws.specs.Counted.{CountedSource}
use Rattle.uc_state_laws.proofs.Arguments.{counted_source}
use Rattle.uc_place_laws.specs.CalledStates.{CalledState, CalledStep}
use Rattle.uc_place_laws.specs.OpeningLaws.{IsCalled}
use Rattle.uc_place_laws.specs.OpeningRuns.{LawRuns}
use Rattle.uc_place_laws.proofs.OpeningLawSteps.{law_steps, law_called}
use Rattle.uc_place_laws.proofs.Openings.{law_opened}
use Rattle.uc_place_laws.proofs.OpeningWorlds.{called_in}

module _ (p : Program) (known : CountedSource (source_of p)) where
  calls : (s : State) → CalledState p (source_of p) s → IsCalled p (source_of p) s
  calls s n = law_called p (source_of p) known (law_opened p) s n

  goes : (s t : State) → quiet.quiet (source_of p) s ≡ Goes t → CalledState p (source_of p) s → CalledState p (source_of p) t
  goes s t e n = subst (CalledStep p (source_of p)) e (law_steps.steps p (source_of p) known (law_opened p) s n)

  ticks : (s t : State) → quiet.quiet (source_of p) s ≡ Ticks t → CalledState p (source_of p) s → CalledState p (source_of p) t
  ticks s t e n = subst (CalledStep p (source_of p)) e (law_steps.steps p (source_of p) known (law_opened p) s n)

  ridden : {s u : State} {q k : ℕ} {a : Asked} (d : Rides (source_of p) s q u k a) → CalledState p (source_of p) s → RideMeets (IsCalled p (source_of p)) (source_of p) s q u k a d
  ridden rides.slices n = tt
  ridden (rides.goes_on {s} {t} e r) n = (calls s n, ridden r (goes s t e n))
  ridden (rides.ticks {s} {t} e r) n = (calls s n, ridden r (ticks s t e n))
  ridden (rides.asks {s} e) n = calls s n

  led : {s u : State} (l : Leads (source_of p) s u) → CalledState p (source_of p) s → LeadsMeet (IsCalled p (source_of p)) (source_of p) s u l
  led rooms.stays n = tt
  led (rooms.goes {s} {u} e l) n = (calls s n, led l (goes s u e n))
  led (rooms.ticks {s} {u} e l) n = (calls s n, led l (ticks s u e n))

known_of : (p : Program) → IsFormed p → breaks_of p ≡ [] → CountedSource (source_of p)
known_of p formed accepted = counted_source (sites_of p) (source_of p) (table_of p) (law_sound p formed accepted) (source_named p)

-- runs

module _ (p : Program) (formed : IsFormed p) (accepted : breaks_of p ≡ []) (input : List ℕ) (opts : Options) (range : InRange opts) where
  begins : {j : Journal} {w : World} (r : Runs (source_of p) input opts j w) → RunFits (source_of p) input opts j w r → is_over j ≡ false → (q t : ℕ) (a : Answer) → running q j ≡ t ∷ [] → answer_to (source_of p).sites t j ≡ Some a → CalledState p (source_of p) (answered (source_of p) a (drawn j w t))
  begins {j} {w} r f on q t a runs told =
      called_in p formed accepted input opts range j w r f on t _ (record { given = a; processor = q; runs = runs; told = told; leads = rooms.stays })

  may_call : {j : Journal} {w : World} {a : List Entry} {x : World} (r : Runs (source_of p) input opts j w) → RunFits (source_of p) input opts j w r → is_over j ≡ false → (m : May (source_of p) opts input j w a x) → MayMeet (IsCalled p (source_of p)) (source_of p) opts input j w a x m
  may_call r f on (gives q t s le) = tt
  may_call r f on (no_room q t s le) = tt
  may_call r f on (acts q t n s asked d) = ridden p (known_of p formed accepted) d.rides (begins r f on q t d.given d.runs d.told)

pub law_runs : LawRuns
law_runs = record {
  runs = runs;
  leads = λ p formed accepted input opts range j w r f on t s c. led p (known_of p formed accepted) c.leads (begins p formed accepted input opts range r f on c.processor t c.given c.runs c.told);
  comes = λ p formed accepted input opts range j w r f on t s c. calls p (known_of p formed accepted) s (called_in p formed accepted input opts range j w r f on t s c);
}
  where
    runs : (p : Program) → IsFormed p → breaks_of p ≡ [] → (input : List ℕ) (opts : Options) → InRange opts → (j : Journal) (w : World) (r : Runs (source_of p) input opts j w) → RunFits (source_of p) input opts j w r → RunMeets (IsCalled p (source_of p)) (source_of p) input opts j w r
    runs p formed accepted input opts range j w begun f = tt
    runs p formed accepted input opts range j w (more r on m) f =
        (runs p formed accepted input opts range _ _ r f.0, may_call p formed accepted input opts range r f.0 on m)
