-- What holds of the steps, the rides and the answers of a task in any source: in which objects it is deep.
use Rattle.std.specs.Prelude.{◌≡◌, ℕ, true, ◌∷◌}
use Rattle.uc_tree.specs.Source.{Source}
use Rattle.uc_entry.specs.declared.request.Answer.{Answer}
use Rattle.uc_entry.specs.declared.request.Answer.TheVariants as answer
use Rattle.uc_entry.specs.declared.request.Asked.{Asked}
use Rattle.uc_machine.specs.Quiet.{State, quiet}
use Rattle.uc_machine.specs.Answering.{answered}
use Rattle.uc_machine.specs.Rides.{Rides}
use Rattle.uc_step_laws.specs.Holding.{plain, Binds}
use Rattle.uc_state_laws.specs.Deep.{deep_in, DeepBehind, DeepStep}

-- only what a step asks changes the objects in which its task is deep; an answer brings a new object where that is bound next
pub record LawDeepSteps : Type 0 where
  pub steps :
      (source : Source)
      (s : State)
      → DeepStep (deep_in s) (quiet source s)
  pub rides :
      (source : Source)
      (s u : State)
      (q k : ℕ)
      (a : Asked)
      → Rides source s q u k a
      → DeepBehind a.request (deep_in s) (deep_in u)
  pub settled :
      (source : Source)
      (given : Answer)
      (s : State)
      → plain s.run.control ≡ true
      → deep_in (answered source given s) ≡ deep_in s
  pub bound :
      (source : Source)
      (o : ℕ)
      (s : State)
      → Binds s.run.control
      → deep_in (answered source (answer.Object o) s) ≡ o ∷ deep_in s
