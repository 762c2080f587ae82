-- The first file of a name in a list of files.
use Rattle.std.proofs.Common.{◌≡◌, ℕ, suc, ◌+◌, ◌<◌, true, false, cond, List, ◌∷◌, length, drop, get_or, Some, sym, ap, ◌∙◌, add-one}
use Rattle.std.proofs.Math.Seq.{drop-cons}
use Rattle.std.proofs.lemmas.Map.Text.{is_eq-slice_cmp}
use Rattle.std.proofs.lemmas.Cmp.{nat_list_cmp_total}
use Rattle.std.specs.Prelude.{String, Vec, string_bytes}
use Rattle.std.specs.declared.alloc.Global.{Global}
use Rattle.std.specs.Ordering.{nat_cmp}
use Rattle.std.specs.Cmp.Lexicographic.{slice_cmp}
use Rattle.std.specs.Str.{bytes_eq}
use Rattle.std.specs.FinMap.{find, get-from_entries}
use Rattle.uc_outside.specs.Reading.{file_of}
use Rattle.uc_outside.specs.Told.{files_of, entries_of}

-- a look-up scans the list from its front
pub found_by_scan : (files : List (String Global × Vec ℕ Global)) (name : List ℕ) → file_of (files_of files) name ≡ find (slice_cmp nat_cmp) name (entries_of files)
found_by_scan files name = get-from_entries nat_list_cmp_total (entries_of files) name

scan_step : (files : List (String Global × Vec ℕ Global)) (i : ℕ) (file : String Global × Vec ℕ Global) (name : List ℕ) → i < length files → file ≡ get_or files i file
    → find (slice_cmp nat_cmp) name (entries_of (drop i files)) ≡ cond (bytes_eq name (string_bytes file.0)) (Some file.1.items) (find (slice_cmp nat_cmp) name (entries_of (drop (i + 1) files)))
scan_step files i file name below is =
    ap (λ fs. find (slice_cmp nat_cmp) name (entries_of fs)) (drop-cons files i file below)
    ∙ ap (λ f. find (slice_cmp nat_cmp) name (entries_of (f ∷ drop (suc i) files))) (sym is)
    ∙ ap (λ b. cond b (Some file.1.items) (find (slice_cmp nat_cmp) name (entries_of (drop (suc i) files)))) (is_eq-slice_cmp name (string_bytes file.0))
    ∙ ap (λ n. cond (bytes_eq name (string_bytes file.0)) (Some file.1.items) (find (slice_cmp nat_cmp) name (entries_of (drop n files)))) (sym (add-one i))

-- the scan ends at a file of that name
pub scan_hit : (files : List (String Global × Vec ℕ Global)) (i : ℕ) (file : String Global × Vec ℕ Global) (name : List ℕ) → i < length files → file ≡ get_or files i file
    → bytes_eq name (string_bytes file.0) ≡ true → find (slice_cmp nat_cmp) name (entries_of (drop i files)) ≡ Some file.1.items
scan_hit files i file name below is same =
    scan_step files i file name below is ∙ ap (λ b. cond b (Some file.1.items) (find (slice_cmp nat_cmp) name (entries_of (drop (i + 1) files)))) same

-- and goes on after a file of another name
pub scan_miss : (files : List (String Global × Vec ℕ Global)) (i : ℕ) (file : String Global × Vec ℕ Global) (name : List ℕ) → i < length files → file ≡ get_or files i file
    → bytes_eq name (string_bytes file.0) ≡ false → find (slice_cmp nat_cmp) name (entries_of (drop i files)) ≡ find (slice_cmp nat_cmp) name (entries_of (drop (i + 1) files))
scan_miss files i file name below is other =
    scan_step files i file name below is ∙ ap (λ b. cond b (Some file.1.items) (find (slice_cmp nat_cmp) name (entries_of (drop (i + 1) files)))) other
