use Rattle.std.proofs.Common.{◌≡◌, drop}
use Rattle.std.specs.Ordering.{nat_cmp}
use Rattle.std.specs.Cmp.Lexicographic.{slice_cmp}
use Rattle.std.specs.FinMap.{find}
use Rattle.uc_outside.specs.Reading.{file_of}
use Rattle.uc_outside.specs.Told.{files_of, entries_of}
use Rattle.uc_outside.proofs.steady.find_file.Given as goal

abbrev pub invariant-loop-file : goal.invariant-loop-file
invariant-loop-file l = file_of (files_of l.files) l.name ≡ find (slice_cmp nat_cmp) l.name (entries_of (drop l.file-index l.files))
