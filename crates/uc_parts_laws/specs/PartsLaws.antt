-- Parts of objects under construction are taken over, as far as those are that a routine which is called is to build.
use Rattle.std.specs.Prelude.{◌≡◌, ℕ, false, []}
use Rattle.uc_tree.specs.Programs.{Program}
use Rattle.uc_tree.specs.Source.{routine_of}
use Rattle.uc_entry.specs.declared.request.Answer.{Answer}
use Rattle.uc_machine.specs.Pieces.{State}
use Rattle.uc_machine.specs.Quiet.{first_state, quiet}
use Rattle.uc_machine.specs.Answering.{answered}
use Rattle.uc_resolve.specs.Resolve.{source_of}
use Rattle.uc_rules.specs.Breaks.{breaks_of}
use Rattle.uc_sound.specs.SoundFormed.{IsFormed}
use Rattle.uc_putting_laws.specs.PuttingLaws.{special_of}
use Rattle.uc_parts_laws.specs.Parts.{PartsSource}
use Rattle.uc_parts_laws.specs.PartStates.{Setting, PartsState, PartsStep, CallsTaken}

-- of any source of which the code is so: a task begins so with a routine that is no constructor, each quiet step keeps it of all its executions as long as
-- the parts of what is called are taken over, and so does each answer
pub record LawParts : Type 0 where
  pub begins : (g : Setting) → PartsSource g.special g.source → (r o : ℕ) → g.special r ≡ false →
      PartsState g (first_state (routine_of g.source r) o)
  pub steps : (g : Setting) → PartsSource g.special g.source → (s : State) → PartsState g s → CallsTaken g s →
      PartsStep g (quiet g.source s)
  pub told : (g : Setting) (given : Answer) (s : State) → PartsState g s → PartsState g (answered g.source given s)

-- so is the source of each program that breaks no rule
abbrev pub LawPartsSources : Type 0
LawPartsSources = (p : Program) → IsFormed p → breaks_of p ≡ [] → PartsSource (special_of p) (source_of p)
