-- The files of a store that is made from a list of them, and what is taken from a reader.
use Rattle.std.specs.Prelude.{ℕ, List, map as list_map, String, Vec, string_bytes, refl}
use Rattle.std.specs.declared.alloc.Global.{Global}
use Rattle.std.specs.FinMap as map
use Rattle.std.specs.Coded.{Coded, code_by, coded×, coded_ℕ, coded_list}
use Rattle.uc_outside.specs.Reading.{Files}

-- the name and the bytes of each file
abbrev pub entries_of : List (String Global × Vec ℕ Global) → List (List ℕ × List ℕ)
entries_of files = list_map (λ f. (string_bytes f.0, f.1.items)) files

-- the map of a list of files; of a name that comes twice the first counts
abbrev pub files_of : List (String Global × Vec ℕ Global) → Files
files_of files = map.from_entries (entries_of files)

-- a store of files in memory: how many of its reads have failed, and its files
pub record FileTable : Type 0 where
  pub count : ℕ
  pub files : Files

-- such a store is stored as its parts
abbrev pub table_code : Coded FileTable
table_code =
    code_by (ℕ × Files) (coded× coded_ℕ (map.code (coded_list coded_ℕ) (coded_list coded_ℕ)))
    (λ t. (t.count, t.files)) (λ p. record { count = p.0; files = p.1 }) (λ _. refl)
