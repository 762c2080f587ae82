-- Each step finds what it is to find, in each run of a program that breaks no rule.
use Rattle.std.proofs.Common.{◌≡◌, ℕ, zero, suc, Bool, true, false, List, []}
use Rattle.uc_tree.specs.Programs.{Program}
use Rattle.uc_tree.specs.Source.{Source}
use Rattle.uc_entry.specs.declared.entry.Options.{Options}
use Rattle.uc_acts.specs.Journal.{Journal}
use Rattle.uc_machine.specs.Quiet.{State}
use Rattle.uc_resolve.specs.Resolve.{source_of}
use Rattle.uc_typing.specs.Typing.{Ty, Table}
use Rattle.uc_typing.specs.States.{Sound}
use Rattle.uc_sound.specs.Tables.{table_of}
use Rattle.uc_sound.proofs.SoundLemmas.{law_sound}
use Rattle.uc_life_laws.specs.Things.{numbered}
use Rattle.uc_life_laws.specs.KnownRuns.{made_by, is_made}
use Rattle.uc_life_laws.specs.Endings.{MeetsOutside, AllIsMet, ObjectsOutside}
use Rattle.uc_life_laws.proofs.Endings.{made_endings}
use Rattle.uc_life_laws.proofs.KnownWorlds.{law_named}
use Rattle.uc_life_laws.proofs.NamedAsks.{asked_by}
use Rattle.uc_life_laws.specs.FoundReads.{FoundOutside, ObjectsFoundOutside}
use Rattle.uc_life_laws.specs.FoundRuns.{AllIsFound, LawFound, LawFoundObjects, LawNamesMade}
use Rattle.uc_life_laws.proofs.FoundReads.{SetsUpNew, opens_at, objects_hold, found}
use Rattle.uc_life_laws.proofs.Walking.{all_found}

module _ (t : Table) (source : Source) (sound : Sound t source) where
  meets : (numbers : Ty → ℕ → Bool) (n : ℕ) (s : State) → SetsUpNew source s → FoundOutside t numbers n s → MeetsOutside t (numbered numbers) n s
  meets numbers zero s new h = λ x.
      let y = h x in
      (y.0, (found t numbers source sound s new y.0 y.1.0, opens_at t numbers s y.0.0.sigs s.run.control y.1.1))
  meets numbers (suc n) s new h = tt

  objects : (n : ℕ) (s : State) → SetsUpNew source s → ObjectsFoundOutside t source n s → ObjectsOutside t source n s
  objects zero s new h = record {
    opens = h.opens;
    finds = λ x.
        let y = h.reads x in
        (y.0, (found t (λ a o. true) source sound s new y.0 y.1.0, λ c rest todo e. objects_hold t y.0.0.sigs c todo s (y.1.1 c rest todo e)));
  }
  objects (suc n) s new h = tt

pub law_found : LawFound
law_found p formed accepted numbers input opts range j w r fits on h =
    all_found (FoundOutside (table_of p) numbers) (MeetsOutside (table_of p) (numbered numbers)) (source_of p) (meets (table_of p) (source_of p) (law_sound p formed accepted) numbers) input opts range j w r fits on h

pub law_found_objects : LawFoundObjects
law_found_objects p formed accepted input opts range j w r fits on h =
    all_found (ObjectsFoundOutside (table_of p) (source_of p)) (ObjectsOutside (table_of p) (source_of p)) (source_of p) (objects (table_of p) (source_of p) (law_sound p formed accepted)) input opts range j w r fits on h

pub law_names_made : LawNamesMade
law_names_made p formed accepted input opts range j w r fits on h q t n s asked d o =
    asked_by law_named p formed accepted input opts range j w r fits on met.runs q t n s asked d (met.rides q t n s asked d (all.rides q t n s asked d o))
  where
    all : AllIsFound (FoundOutside (table_of p) (made_by opts j)) (MeetsOutside (table_of p) (is_made opts j)) (source_of p) input opts j w r
    all = law_found p formed accepted (made_by opts j) input opts range j w r fits on h

    met : AllIsMet (table_of p) (is_made opts j) (source_of p) input opts j w r
    met = made_endings p formed accepted input opts range j w r fits on all.runs
