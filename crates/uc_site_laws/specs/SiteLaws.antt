-- What programs name when they ask.
use Rattle.std.specs.Prelude.{ℕ, List}
use Rattle.uc_tree.specs.Programs.{Program, Site}
use Rattle.uc_tree.specs.Numbering.{sites_of}
use Rattle.uc_tree.specs.Source.{Source, routine_of}
use Rattle.uc_entry.specs.declared.request.Answer.{Answer}
use Rattle.uc_entry.specs.declared.request.Asked.{Asked}
use Rattle.uc_resolve.specs.Resolve.{source_of}
use Rattle.uc_machine.specs.Quiet.{State, quiet, first_state}
use Rattle.uc_machine.specs.Answering.{answered}
use Rattle.uc_machine.specs.Rides.{Rides}
use Rattle.uc_site_laws.specs.Named.{NamedSource}
use Rattle.uc_site_laws.specs.Naming.{NamedState, NamedAsk, NamedStep}

-- of any source of which all names are known: a task begins with known names, steps and answers keep them, and what a ride asks names what is known
pub record LawSteps : Type 0 where
  pub begins : (sites : List Site) (source : Source) → NamedSource sites source → (r o : ℕ) →
      NamedState sites (first_state (routine_of source r) o)
  pub steps : (sites : List Site) (source : Source) → NamedSource sites source → (s : State) →
      NamedState sites s → NamedStep sites (quiet source s)
  pub told : (sites : List Site) (source : Source) (given : Answer) (s : State) → NamedState sites s →
      NamedState sites (answered source given s)
  pub rides : (sites : List Site) (source : Source) → NamedSource sites source →
      (s u : State) (q k : ℕ) (a : Asked) → Rides source s q u k a → NamedState sites s →
      NamedAsk sites a.request u

-- all names are known in the source of every program
abbrev pub LawSource : Type 0
LawSource = (p : Program) → NamedSource (sites_of p) (source_of p)
