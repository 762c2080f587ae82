-- The notes of a journal with one more entry.
use Rattle.std.proofs.Common.{◌≡◌, ℕ, [], ◌∷◌, ◌++◌, refl, ap}
use Rattle.uc_entry.specs.declared.entry.Entry.{Entry}
use Rattle.uc_acts.specs.Journal.{Journal}
use Rattle.uc_acts.specs.Queues.{Noted, note, actor, clusters, noted, noted_from, last_actor, last_clusters}

pub last_actor_push : (t : ℕ) (j : Journal) (e : Entry) → last_actor t (j ++ e ∷ []) ≡ actor (last_actor t j) e.kind e
last_actor_push t [] e = refl
last_actor_push t (x ∷ j) e = last_actor_push (actor t x.kind x) j e

from_push : (t : ℕ) (on : ℕ → ℕ) (j : Journal) (e : Entry) → noted_from t on (j ++ e ∷ []) ≡ noted_from t on j ++ note (last_actor t j) (last_clusters on j) e ∷ []
from_push t on [] e = refl
from_push t on (x ∷ j) e = ap (λ l. note t on x ∷ l) (from_push (actor t x.kind x) (clusters on x.kind x) j e)

-- an entry, noted at the end of a journal
abbrev pub noted_at : Journal → Entry → Noted
noted_at j e = note (last_actor 0 j) (last_clusters (λ t. 0) j) e

pub noted_push : (j : Journal) (e : Entry) → noted (j ++ e ∷ []) ≡ noted j ++ noted_at j e ∷ []
noted_push j e = from_push 0 (λ t. 0) j e

pub last_clusters_push : (on : ℕ → ℕ) (j : Journal) (e : Entry) → last_clusters on (j ++ e ∷ []) ≡ clusters (last_clusters on j) e.kind e
last_clusters_push on [] e = refl
last_clusters_push on (x ∷ j) e = last_clusters_push (clusters on x.kind x) j e
