-- A run of a program as its acts, one after the other, and the laws of runs of one program. What a later law is to give of programs
-- is their premise: that what a task asks fits, and that its numbers are of their types.
use Rattle.std.specs.Prelude.{◌≡◌, ℕ, ◌<◌, false, List, [], ◌∷◌, ◌++◌, length}
use Rattle.uc_tree.specs.Source.{Source}
use Rattle.uc_entry.specs.declared.entry.Entry.{Entry}
use Rattle.uc_entry.specs.declared.entry.Options.{Options}
use Rattle.uc_entry.specs.declared.request.Asked.{Asked}
use Rattle.uc_acts.specs.Journal.{Journal, begin, is_over}
use Rattle.uc_acts.specs.KernelRuns.{InRange, Fits, KernelRuns}
use Rattle.uc_acts.specs.Fit.{AreFit}
use Rattle.uc_acts.specs.Typed.{IsGiven, IsTypedAsk}
use Rattle.uc_machine.specs.Quiet.{State}
use Rattle.uc_machine.specs.Rides.{Rides}
use Rattle.uc_meaning.specs.Runs.{World, AsksIn, May, Runs, first_world}

-- these acts lead from one journal and its world to another
pub data Cut (source : Source) (input : List ℕ) (opts : Options) : Journal → World → List (List Entry) → Journal → World → Type 0 where
  ends : {j : Journal} {w : World} → Cut source input opts j w [] j w
  goes_on : {j : Journal} {w : World} {a : List Entry} {x : World} {rest : List (List Entry)} {k : Journal} {u : World} → is_over j ≡ false → May source opts input j w a x → Cut source input opts (j ++ a) x rest k u → Cut source input opts j w (a ∷ rest) k u

module _ (source : Source) (input : List ℕ) (opts : Options) where
  -- what a task of the program asks in a run of it fits
  abbrev pub Reentry : Type 0
  Reentry =
      (j : Journal) (w : World) (p t n : ℕ) (s : State) (asked : Asked) → Runs source input opts j w → is_over j ≡ false → AsksIn source opts j w p t n s asked → Fits opts source.sites j t asked.request

  -- its numbers are of their types
  abbrev pub AsksTyped : Type 0
  AsksTyped =
      (j : Journal) (w : World) (p t n : ℕ) (s : State) (asked : Asked) → Runs source input opts j w → is_over j ≡ false → AsksIn source opts j w p t n s asked → IsTypedAsk asked

-- two cuts of one journal are one, and while the run goes on they leave one world
pub record OneCut (parts others : List (List Entry)) (k : Journal) (u v : World) : Type 0 where
  pub acts : parts ≡ others
  pub world : is_over k ≡ false → u ≡ v

-- a state asks one thing, after so many ticks, in one state
pub record OneRide (s t : State) (m n : ℕ) (a b : Asked) : Type 0 where
  pub state : s ≡ t
  pub ticks : m ≡ n
  pub asked : a ≡ b

pub record LawCut : Type 0 where
  pub cut : (source : Source) (input : List ℕ) (opts : Options) → Reentry source input opts → (parts others : List (List Entry)) (k : Journal) (u v : World) → Cut source input opts (begin opts ∷ []) (first_world source) parts k u → Cut source input opts (begin opts ∷ []) (first_world source) others k v → OneCut parts others k u v
  pub ride : (source : Source) (s t u : State) (q m n : ℕ) (a b : Asked) → Rides source s q t m a → Rides source s q u n b → OneRide t u m n a b
  -- each act makes an entry, so there are fewer of them than the bound on entries
  pub few : (source : Source) (input : List ℕ) (opts : Options) → Reentry source input opts → (parts : List (List Entry)) (k : Journal) (u : World) → InRange opts → Cut source input opts (begin opts ∷ []) (first_world source) parts k u → length parts < opts.entries

-- a run of a program is a run of a kernel with its accept statements, and each of its entries is fit
pub record LawPrograms : Type 0 where
  pub kernel : (source : Source) (input : List ℕ) (opts : Options) → Reentry source input opts → (j : Journal) (w : World) → Runs source input opts j w → KernelRuns opts source.sites input j
  pub fit : (source : Source) (input : List ℕ) (opts : Options) → InRange opts → IsGiven source.sites input → Reentry source input opts → AsksTyped source input opts → (j : Journal) (w : World) → Runs source input opts j w → AreFit j
