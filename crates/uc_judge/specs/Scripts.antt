-- Tasks that ask what a script tells, one step after the other, whatever they are answered.
use Rattle.std.specs.Prelude.{◌≡◌, ℕ, ◌==◌, ◌&&◌, Bool, true, List, [], ◌∷◌, Option, Some, None, length, nat_le, if◌then◌else◌}
use Rattle.uc_entry.specs.declared.request.TheConstants.{PRINT_ITEMS}
use Rattle.uc_entry.specs.declared.request.Asked.{Asked}
use Rattle.uc_entry.specs.declared.request.Request.{Request}
use Rattle.uc_entry.specs.declared.request.Request.TheVariants as ask
use Rattle.uc_judge.specs.declared.asks.Change.{Change}
use Rattle.uc_judge.specs.declared.asks.Walked.{Walked}
use Rattle.uc_judge.specs.declared.script.Step.{Step}

-- whether a print has items, and a row for all that there may be
abbrev pub is_whole : Request → Bool
is_whole (ask.Print n items) = nat_le 1 n && (nat_le n PRINT_ITEMS && (length items == PRINT_ITEMS))
is_whole r = true

-- what task t asks of these steps: the first, where it is that task's, within its ticks, and whole
abbrev pub next_of : ℕ → ℕ → List Step → Option Walked
next_of t q [] = None
next_of t q (s ∷ ss) =
    if (s.task == t) && (nat_le s.ticks q && is_whole s.asked.request) then Some (record { ticks = s.ticks; asked = s.asked }) else None

abbrev pub without_first : List Step → List Step
without_first [] = []
without_first (s ∷ ss) = ss

pub record Steps (steps : List Step) (t q k : ℕ) (r : Asked) (rest : List Step) : Type 0 where
  pub next : next_of t q steps ≡ Some (record { ticks = k; asked = r })
  pub rest_is : without_first steps ≡ rest

abbrev pub unmoved : List Step → Change → List Step
unmoved steps c = steps
