-- A state that knows is in order, and what its next step reads is of its type.
use Rattle.std.specs.Prelude.{List, []}
use Rattle.uc_tree.specs.Source.{Source}
use Rattle.uc_machine.specs.Quiet.{State}
use Rattle.uc_typing.specs.Typing.{Ty, Table}
use Rattle.uc_typing.specs.States.{Sound, Typed}
use Rattle.uc_typing.specs.Laws.{ReadsIn}
use Rattle.uc_life_laws.specs.Knowing.{KnowsState, VariablesKnown, Finds}
use Rattle.uc_life_laws.specs.Things.{Few}

-- as far as it finds what it is to find, where variables in scope hold what is known
pub record LawFollowing : Type 0 where
  pub typed : (t : Table) (few : Few) (given : List Ty) (s : State) →
      KnowsState t few given s → Typed t given s
  pub reads : (t : Table) (few : Few) (source : Source) → Sound t source → (s : State) →
      (x : KnowsState t few [] s) → VariablesKnown t few x.sigs s →
      Finds t few x.sigs x.run.sig x.run.scope s s.run.control x.run.own → ReadsIn t s
