-- Objects that were made of a class of tasks.
use Rattle.std.specs.Prelude.{◌≡◌, ℕ, true, Option, Some}
use Rattle.uc_typing.specs.Typing.{Table}

-- `class`: of which class each object was made
abbrev pub OfTasks : Table → (ℕ → Option ℕ) → ℕ → Type 0
OfTasks t class o = (i : ℕ) × (class o ≡ Some i) × (t.tasks i ≡ true)
