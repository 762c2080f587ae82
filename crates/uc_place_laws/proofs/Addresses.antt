-- In every run of a program within its limits all cells of the frames of whoever runs have addresses.
use Rattle.std.proofs.Common.{◌≡◌, ℕ, ◌≤◌, List, [], ◌∷◌, Some, subst, arith}
use Rattle.uc_entry.specs.declared.entry.Entry.{Entry}
use Rattle.uc_entry.specs.declared.entry.Options.{Options}
use Rattle.uc_entry.specs.declared.request.Answer.{Answer}
use Rattle.uc_entry.specs.declared.request.Asked.{Asked}
use Rattle.uc_acts.specs.Journal.{Journal}
use Rattle.uc_acts.specs.Answers.{answer_to}
use Rattle.uc_acts.specs.Queues.{running}
use Rattle.uc_machine.specs.Pieces.{LAST_ADDRESS, State}
use Rattle.uc_machine.specs.Answering.{answered}
use Rattle.uc_machine.specs.Rides as rides
use Rattle.uc_machine.specs.Rides.{Rides}
use Rattle.uc_meaning.specs.Runs.{World, May, Runs, drawn, gives, no_room, acts, begun, more}
use Rattle.uc_resolve.specs.Resolve.{source_of}
use Rattle.uc_state_laws.specs.FrameSizes.{SourceFits, StateFits, StepFits}
use Rattle.uc_state_laws.specs.Limits.{MOST_CELLS}
use Rattle.uc_state_laws.specs.RoomRuns as rooms
use Rattle.uc_state_laws.specs.RoomRuns.{Leads, Comes}
use Rattle.uc_state_laws.specs.Opens.{RideMeets, MayMeet, RunMeets, LeadsMeet}
use Rattle.uc_state_laws.proofs.AddressKeeping.{frame_fits}
use Rattle.uc_state_laws.proofs.AddressWorlds as sizes
use Rattle.uc_state_laws.proofs.Limits.{law_limits}
use Rattle.uc_tree.specs.Source.{Source}
use Rattle.uc_place_laws.specs.Addresses.{AreAddressed, LawAddresses}

addressed : (s : State) → StateFits MOST_CELLS s → AreAddressed s
addressed s h d =
    let k = frame_fits MOST_CELLS s.env.frames d h.0 in
    let few : MOST_CELLS ≤ LAST_ADDRESS = omega arith in
    omega (arith, k, few)

module _ (source : Source) (known : SourceFits MOST_CELLS source) where
  led : {s u : State} (l : Leads source s u) → StateFits MOST_CELLS s → LeadsMeet AreAddressed source s u l
  led rooms.stays h = tt
  led (rooms.goes {s} e l) h = (addressed s h, led l (subst (StepFits MOST_CELLS) e (sizes.law_steps.steps MOST_CELLS source known s h)))
  led (rooms.ticks {s} e l) h = (addressed s h, led l (subst (StepFits MOST_CELLS) e (sizes.law_steps.steps MOST_CELLS source known s h)))

  ridden : {s u : State} {q k : ℕ} {a : Asked} (d : Rides source s q u k a) → StateFits MOST_CELLS s → RideMeets AreAddressed source s q u k a d
  ridden rides.slices h = tt
  ridden (rides.goes_on {s} e r) h = (addressed s h, ridden r (subst (StepFits MOST_CELLS) e (sizes.law_steps.steps MOST_CELLS source known s h)))
  ridden (rides.ticks {s} e r) h = (addressed s h, ridden r (subst (StepFits MOST_CELLS) e (sizes.law_steps.steps MOST_CELLS source known s h)))
  ridden (rides.asks {s} e) h = addressed s h

  module _ (input : List ℕ) (opts : Options) where
    begins : {j : Journal} {w : World} → Runs source input opts j w → (q t : ℕ) (a : Answer) → running q j ≡ t ∷ [] → answer_to source.sites t j ≡ Some a → StateFits MOST_CELLS (answered source a (drawn j w t))
    begins {j} {w} r q t a runs told = (sizes.law_runs MOST_CELLS source known input opts j w r).comes t _ (record { given = a; processor = q; runs = runs; told = told; leads = rooms.stays })

    may_meet : {j : Journal} {w : World} {a : List Entry} {x : World} → Runs source input opts j w → (m : May source opts input j w a x) → MayMeet AreAddressed source opts input j w a x m
    may_meet r (gives q t s le) = tt
    may_meet r (no_room q t s le) = tt
    may_meet r (acts q t n s asked d) = ridden d.rides (begins r q t d.given d.runs d.told)

    run_meets : {j : Journal} {w : World} (r : Runs source input opts j w) → RunMeets AreAddressed source input opts j w r
    run_meets begun = tt
    run_meets (more r on m) = (run_meets r, may_meet r m)

pub law_addresses : LawAddresses
law_addresses = record {
  runs = λ p h input opts j w r. run_meets (source_of p) (law_limits p h) input opts r;
  leads = λ p h input opts j w r t s c. led (source_of p) (law_limits p h) c.leads (begins (source_of p) (law_limits p h) input opts r c.processor t c.given c.runs c.told);
  comes = λ p h input opts j w r t s c. addressed s ((sizes.law_runs MOST_CELLS (source_of p) (law_limits p h) input opts j w r).comes t s c);
}
