-- What the entries of a journal tell the tasks.
use Rattle.std.specs.Prelude.{ℕ, List, [], ◌∷◌, Option, Some, None}
use Rattle.std.specs.List.{fold, flat_map}
use Rattle.uc_tree.specs.Programs.{Site}
use Rattle.uc_entry.specs.declared.entry.Entry.{Entry}
use Rattle.uc_entry.specs.declared.entry.EntryKind.{EntryKind}
use Rattle.uc_entry.specs.declared.entry.EntryKind.TheVariants as kind
use Rattle.uc_entry.specs.declared.request.Answer.{Answer}
use Rattle.uc_entry.specs.declared.request.Answer.TheVariants as answer
use Rattle.uc_acts.specs.Journal.{number}
use Rattle.uc_acts.specs.Answers.{tells}
use Rattle.uc_judge.specs.declared.asks.Change.{Change}
use Rattle.uc_judge.specs.declared.asks.Change.TheVariants as change
use Rattle.uc_judge.specs.Asking.{Telling}

-- an answer to a task, if there is one
abbrev pub answered : ℕ → Option Answer → List Change
answered t None = []
answered t (Some a) = change.Answered t a ∷ []

-- what an entry changes: a new task stands at its beginning before anybody is answered, and an object is gone before that
abbrev pub changes : List Site → EntryKind → Entry → List Change
changes sites kind.Begin e = change.Answered 0 answer.Go ∷ []
changes sites kind.Spawn e =
    change.Spawned e.object (number e.a) ∷ change.Answered e.task answer.Go ∷ change.Answered (number e.a) answer.Go ∷ []
changes sites kind.Gone e = change.Gone e.object ∷ change.Answered e.task answer.Go ∷ []
changes sites k e = answered e.task (tells sites e.task k e)

-- the tasks once they are told of these entries
abbrev pub told_of : {W : Type 0} → Telling W → List Site → W → List Entry → W
told_of told sites w a = fold told w (flat_map (λ e. changes sites e.kind e) a)
