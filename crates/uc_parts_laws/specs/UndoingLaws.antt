-- What builds parts is called where these are taken over: in the source of every program that breaks no rule, and in every task of such a source.
use Rattle.std.specs.Prelude.{◌≡◌, ℕ, []}
use Rattle.uc_tree.specs.Programs.{Program}
use Rattle.uc_tree.specs.Source.{routine_of}
use Rattle.uc_entry.specs.declared.request.Answer.{Answer}
use Rattle.uc_machine.specs.Pieces.{State}
use Rattle.uc_machine.specs.Quiet.{first_state, quiet}
use Rattle.uc_machine.specs.Answering.{answered}
use Rattle.uc_resolve.specs.Resolve.{source_of}
use Rattle.uc_rules.specs.Breaks.{breaks_of}
use Rattle.uc_sound.specs.SoundFormed.{IsFormed}
use Rattle.uc_answer_laws.specs.Suiting.{Form, IsForm}
use Rattle.uc_state_laws.specs.Counted.{CountedSource}
use Rattle.uc_place_laws.specs.OlderResting.{AllWait, NamedEnv}
use Rattle.uc_putting_laws.specs.PuttingLaws.{special_of}
use Rattle.uc_parts_laws.specs.PartStates.{Setting, CallsTaken}
use Rattle.uc_parts_laws.specs.Undoing.{UndoingSource}
use Rattle.uc_parts_laws.specs.UndoingStates.{FindsFor, Runs as Running, Waits, UndoingState, UndoingStep, BindsHome}

-- the source of each program that breaks no rule is so
abbrev pub LawUndoing : Type 0
LawUndoing = (p : Program) → IsFormed p → breaks_of p ≡ [] → UndoingSource (source_of p) (special_of p)

-- of any such source in which arguments are counted: so it is of a task as it begins; each step that binds a made object at its home keeps it, and so does each
-- answer of the form that was asked for. And where a constructor is called, what it builds is taken over
pub record LawTaking : Type 0 where
  pub begins : (g : Setting) → CountedSource g.source → UndoingSource g.source g.special → (r o : ℕ) →
      UndoingState g (first_state (routine_of g.source r) o)
  pub steps : (g : Setting) → CountedSource g.source → UndoingSource g.source g.special → (s : State) → UndoingState g s →
      BindsHome g s.run.control s → UndoingStep g (quiet g.source s)
  pub told : (g : Setting) (form : Form) (given : Answer) (s : State) → IsForm form given → FindsFor g form s.env.exec s.run →
      AllWait (Running g) (Waits g) s.env.exec s.callers → NamedEnv (Running g) (Waits g) s.env → UndoingState g (answered g.source given s)
  pub takes : (g : Setting) (s : State) → UndoingState g s → CallsTaken g s
