-- Those that executions have made stay held by what these are to clean up.
use Rattle.std.specs.Prelude.{Bool, List, ◌∷◌}
use Rattle.uc_tree.specs.Source.{Source}
use Rattle.uc_entry.specs.declared.request.Answer.{Answer}
use Rattle.uc_machine.specs.declared.exec.Exec.{Exec}
use Rattle.uc_machine.specs.Pieces.{Active, State}
use Rattle.uc_machine.specs.Quiet.{quiet}
use Rattle.uc_machine.specs.Answering.{answered}
use Rattle.uc_answer_laws.specs.Suiting.{Form, JustGo, IsForm}
use Rattle.uc_life_laws.specs.Destroying.{Seat}
use Rattle.uc_life_laws.specs.Placed.{Placed, stacked, Ends}
use Rattle.uc_life_laws.specs.Held.{Seating, Soon, HeldState, HeldAsked, HeldStep, TakesNow}

-- each quiet step keeps it, as long as those that it takes the marks of are held soon, and so does each answer of the form that was asked for; and while
-- one is held soon, the marks that were there before are the outermost ones
pub record LawHeld : Type 0 where
  pub steps : (source : Source) (seats : Seating) (up : Exec → Bool) (s : State) → HeldState source seats up s →
      TakesNow source seats up s → HeldStep source seats up (quiet source s)
  pub told : (source : Source) (seats : Seating) (up : Exec → Bool) (form : Form) (given : Answer) (s : State) →
      IsForm form given → HeldAsked source seats up form s → HeldAsked source seats up JustGo (answered source given s)
  pub goes_on : (source : Source) (seats : Seating) (up : Exec → Bool) (s : State) → HeldAsked source seats up JustGo s →
      HeldState source seats up s
  pub stays : (source : Source) (w : Seat) (ps : List Placed) (n : Exec) (a : Active) (cs : List Active) →
      Soon source w ps n a cs → Ends ps (stacked (a ∷ cs))
