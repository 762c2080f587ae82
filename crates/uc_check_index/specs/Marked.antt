-- The mark of the member with a place.
use Rattle.std.specs.Prelude.{ℕ, List, Option, Some, None, option_and_then, slice_get}
use Rattle.uc_tree.specs.declared.kinds.MutexMark.{MutexMark}
use Rattle.uc_tree.specs.declared.kinds.MutexMark.TheVariants as mark
use Rattle.uc_tree.specs.Programs.{Member}

abbrev pub mark_of : Option Member → MutexMark
mark_of None = mark.Unmarked
mark_of (Some m) = m.mark

abbrev pub mark_at : List Member → Option ℕ → MutexMark
mark_at ms place = mark_of (option_and_then (λ i. slice_get ms i) place)
