-- What holds of every run of a program in which all that was asked so far fits: in which objects its tasks are deep.
use Rattle.std.specs.Prelude.{◌≡◌, ℕ, ◌<◌, ◌≤◌, false, List, [], ◌∷◌}
use Rattle.uc_tree.specs.Source.{Source}
use Rattle.uc_entry.specs.declared.entry.Options.{Options}
use Rattle.uc_entry.specs.declared.request.Asked.{Asked}
use Rattle.uc_entry.specs.declared.request.Request.{Request}
use Rattle.uc_entry.specs.declared.request.Request.TheVariants as ask
use Rattle.uc_acts.specs.Journal.{Journal, is_over}
use Rattle.uc_acts.specs.Known.{has, has_ended, task_count}
use Rattle.uc_acts.specs.Answers.{just_made}
use Rattle.uc_acts.specs.Stations.{times}
use Rattle.uc_acts.specs.KernelRuns.{InRange}
use Rattle.uc_machine.specs.Quiet.{State}
use Rattle.uc_meaning.specs.Runs.{World, Runs, AsksIn}
use Rattle.uc_step_laws.specs.Hands.{keys}
use Rattle.uc_state_laws.specs.Fitting.{RunFits}
use Rattle.uc_state_laws.specs.Deep.{deep_in, DeepBehind}
use Rattle.uc_state_laws.specs.Places.{is_at}

-- task u, which is deep in these objects, is so by the journal: where it is inside, or on the way in, and nowhere else, but for an object that
-- it has just made
pub record IsDeepAsTold (j : Journal) (u : ℕ) (ks : List ℕ) : Type 0 where
  pub at : (o : ℕ) → (just_made u j ≡ o ∷ [] → ⊥) → has ks o ≡ is_at u o j
  pub new : (o : ℕ) → just_made u j ≡ o ∷ [] → has ks o ≡ false
  pub once : (o : ℕ) → times o ks ≤ 1

abbrev pub LawDeep : Type 0
LawDeep =
    (source : Source)
    (input : List ℕ)
    (opts : Options)
    (j : Journal)
    (w : World)
    (r : Runs source input opts j w)
    → InRange opts
    → RunFits source input opts j w r
    → is_over j ≡ false
    → (u : ℕ)
    → u < task_count j
    → has_ended u j ≡ false
    → IsDeepAsTold j u (deep_in (w.tasks u))

-- a task asks this in a state behind one in which it was deep in just the objects in its hand
pub record AsksDeep (r : Request) (s : State) : Type 0 where
  pub before : List ℕ
  pub in_hand : (o : ℕ) → has before o ≡ has (keys s.env.hand) o
  pub behind : DeepBehind r before (deep_in s)

abbrev pub LawAsksDeep : Type 0
LawAsksDeep =
    (source : Source)
    (input : List ℕ)
    (opts : Options)
    (j : Journal)
    (w : World)
    (r : Runs source input opts j w)
    → InRange opts
    → RunFits source input opts j w r
    → is_over j ≡ false
    → (p t n : ℕ)
    (s : State)
    (asked : Asked)
    → AsksIn source opts j w p t n s asked
    → AsksDeep asked.request s

-- so what it calls is not in hand
abbrev pub LawCalls : Type 0
LawCalls =
    (source : Source)
    (input : List ℕ)
    (opts : Options)
    (j : Journal)
    (w : World)
    (r : Runs source input opts j w)
    → InRange opts
    → RunFits source input opts j w r
    → is_over j ≡ false
    → (p t n : ℕ)
    (s : State)
    (asked : Asked)
    → AsksIn source opts j w p t n s asked
    → (o m : ℕ)
    → asked.request ≡ ask.Call o m
    → has (keys s.env.hand) o ≡ false
