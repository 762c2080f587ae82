-- Stores and sinks in memory that fail at listed calls.
use Rattle.std.specs.Prelude.{◌≡◌, ℕ, ◌+◌, ◌<◌, ◌⊎◌, ◌==◌, Bool, false, List, length, min, Some, None, IsTrue, refl}
use Rattle.std.specs.List.{list_any}
use Rattle.std.specs.FinMap as map
use Rattle.std.specs.Coded.{Coded, code_by, coded×, coded_ℕ, coded_list}
use Rattle.uc_outside.specs.Faults.{count_limit}
use Rattle.uc_outside.specs.Reading.{Files, StoreState, file_of}
use Rattle.uc_outside.specs.Taking.{SinkState}

-- the number of the call after so many calls; it stands still at the largest number
abbrev pub next_call : ℕ → ℕ
next_call calls = min (calls + 1) count_limit

-- whether a list has this number
abbrev pub is_listed : List ℕ → ℕ → Bool
is_listed numbers number = list_any (λ n. n == number) numbers

-- a store of files in memory that fails at listed reads
pub record ListedStore : Type 0 where
  -- how many of its reads have failed
  pub count : ℕ
  pub files : Files
  -- how many reads were made
  pub reads : ℕ
  -- the numbers of the reads that fail, counted from 1
  pub fails : List ℕ

-- such a store is stored as its parts
abbrev pub listed_store_code : Coded ListedStore
listed_store_code =
    code_by (ℕ × (Files × (ℕ × List ℕ)))
    (coded× coded_ℕ (coded× (map.code (coded_list coded_ℕ) (coded_list coded_ℕ)) (coded× coded_ℕ (coded_list coded_ℕ))))
    (λ s. (s.count, (s.files, (s.reads, s.fails)))) (λ p. record { count = p.0; files = p.1.0; reads = p.1.1.0; fails = p.1.1.1 }) (λ _. refl)

-- it tells its files, but is not steady
abbrev pub store_of : ListedStore → StoreState
store_of store = record { count = store.count; told = Some store.files; steady = false }

-- its next read fails: the number is listed, or there is no such name
abbrev pub ReadMustFail : ListedStore → List ℕ → Type 0
ReadMustFail store name = IsTrue (is_listed store.fails (next_call store.reads)) ⊎ (file_of store.files name ≡ None)

-- a sink in memory that fails at listed puts
pub record ListedSink : Type 0 where
  -- how many of its puts have failed
  pub count : ℕ
  -- the bytes that it took
  pub held : List ℕ
  -- how many more bytes its memory takes
  pub left : ℕ
  -- how many puts were made
  pub puts : ℕ
  -- the numbers of the puts that fail, counted from 1
  pub fails : List ℕ
  -- the largest number of bytes that one put takes
  pub most : ℕ
  -- whether its last put failed
  pub failing : Bool

-- it tells its bytes, but has no room: what it takes depends on the numbers of its puts too
abbrev pub sink_of : ListedSink → SinkState
sink_of sink = record { count = sink.count; told = Some sink.held; room = None; failing = sink.failing }

-- how many bytes of a piece a put takes, if it does not fail
abbrev pub front_length : ListedSink → List ℕ → ℕ
front_length sink piece = min (length piece) sink.most

-- its next put fails: the number is listed, or the memory that is left is too small
abbrev pub PutMustFail : ListedSink → List ℕ → Type 0
PutMustFail sink piece = IsTrue (is_listed sink.fails (next_call sink.puts)) ⊎ (sink.left < front_length sink piece)
