-- A ride: quiet steps of a task up to a number of ticks, or to a request.
use Rattle.std.specs.Prelude.{◌≡◌, ℕ, suc}
use Rattle.uc_entry.specs.declared.request.Asked.{Asked}
use Rattle.uc_entry.specs.declared.request.Request.{Request}
use Rattle.uc_entry.specs.declared.request.Request.TheVariants as ask
use Rattle.uc_tree.specs.Source.{Source}
use Rattle.uc_machine.specs.Quiet.{State, Goes, Ticks, Asks, quiet, line_of}

-- a request with the line of the statement that runs in this state
abbrev pub asked_in : State → Request → Asked
asked_in s r = record { request = r; line = line_of s }

-- from a state, with at most that many ticks: the state that is reached, the ticks, and what is asked there
pub data Rides (source : Source) : State → ℕ → State → ℕ → Asked → Type 0 where
  -- the ticks are all made: a slice is asked
  slices : {s : State} → Rides source s 0 s 0 (asked_in s ask.Slice)
  goes_on : {s t u : State} {q k : ℕ} {a : Asked} → quiet source s ≡ Goes t → Rides source t (suc q) u k a → Rides source s (suc q) u k a
  ticks : {s t u : State} {q k : ℕ} {a : Asked} → quiet source s ≡ Ticks t → Rides source t q u k a → Rides source s (suc q) u (suc k) a
  asks : {s t : State} {q : ℕ} {r : Request} → quiet source s ≡ Asks r t → Rides source s (suc q) t 0 (asked_in s r)
