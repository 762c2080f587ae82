-- What the steps, the answers and the rides of a task keep.
use Rattle.std.specs.Prelude.{◌≡◌, ℕ, ◌<◌, ◌≤◌, List, [], ◌∷◌, ◌++◌}
use Rattle.uc_tree.specs.Source.{Source}
use Rattle.uc_entry.specs.declared.request.Answer.{Answer}
use Rattle.uc_entry.specs.declared.request.Answer.TheVariants as answer
use Rattle.uc_entry.specs.declared.request.Asked.{Asked}
use Rattle.uc_entry.specs.declared.request.Request.TheVariants as ask
use Rattle.uc_machine.specs.Quiet.{State, quiet}
use Rattle.uc_machine.specs.Answering.{answered}
use Rattle.uc_machine.specs.Rides.{Rides}
use Rattle.uc_step_laws.specs.Holding.{Holding, BindsNext, HasAsked, StepHolding}

-- a quiet step changes neither which objects are in hand nor that no piece but one binds what was made
pub record LawSteps : Type 0 where
  pub settled : (source : Source) (ks : List ℕ) (s : State) → Holding ks s → StepHolding ks (quiet source s)
  pub bound : (source : Source) (ks : List ℕ) (s : State) → BindsNext ks s → StepHolding ks (quiet source s)

-- so does an answer, but for one that tells of a new object where that is bound next: it comes into the hand as the last one
pub record LawTold : Type 0 where
  pub settled : (source : Source) (ks : List ℕ) (given : Answer) (s : State) → Holding ks s →
      Holding ks (answered source given s)
  pub bound : (source : Source) (ks : List ℕ) (o : ℕ) (s : State) → BindsNext ks s →
      BindsNext (ks ++ o ∷ []) (answered source (answer.Object o) s)

-- so what a ride asks is asked with the same objects in hand, and of a form; it makes no more ticks than it may, and fewer where it asks anything but a slice
pub record LawRides : Type 0 where
  pub settled : (source : Source) (ks : List ℕ) (s u : State) (q k : ℕ) (a : Asked) →
      Rides source s q u k a → Holding ks s → HasAsked ks a.request u
  pub bound : (source : Source) (ks : List ℕ) (s u : State) (q k : ℕ) (a : Asked) →
      Rides source s q u k a → 1 ≤ q → BindsNext ks s → HasAsked ks a.request u
  pub within : (source : Source) (s u : State) (q k : ℕ) (a : Asked) → Rides source s q u k a → k ≤ q
  pub early : (source : Source) (s u : State) (q k : ℕ) (a : Asked) → Rides source s q u k a →
      (a.request ≡ ask.Slice → ⊥) → k < q
