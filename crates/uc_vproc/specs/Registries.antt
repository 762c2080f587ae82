-- What is told of what may be asked for: objects, clusters and processors.
use Rattle.std.specs.Prelude.{◌≡◌, ℕ, ◌≤◌, Bool, true, false, List, [], ◌∷◌, slice_index_or}
use Rattle.uc_entry.specs.declared.entry.Options.{Options}
use Rattle.uc_entry.specs.declared.request.Request.{Request}
use Rattle.uc_entry.specs.declared.request.Request.TheVariants as ask
use Rattle.uc_acts.specs.Journal.{Journal}
use Rattle.uc_acts.specs.Known.{has, made}
use Rattle.uc_acts.specs.Queues.{cluster_count, processor_count}
use Rattle.uc_vproc.specs.declared.put.Sort.{Sort}
use Rattle.uc_vproc.specs.declared.put.Sort.TheVariants as sort
use Rattle.uc_vproc.specs.declared.registry.Registry.{Registry}

-- objects of which this is told are made and not gone
abbrev pub AreThere : List Bool → Journal → Type 0
AreThere there j = (o : ℕ) → slice_index_or there o false ≡ true → has (made j) o ≡ true

-- what is told, is so: objects are there, and so many clusters and processors were made
pub record Tells (opts : Options) (j : Journal) (r : Registry) : Type 0 where
  pub objects : AreThere r.there.items j
  pub clusters : r.clusters ≤ cluster_count j
  pub processors : r.processors ≤ processor_count opts j

-- as a run opens: no object that may be called, one cluster, and its processors
pub record IsOpening (processors : ℕ) (r : Registry) : Type 0 where
  pub objects : r.there.items ≡ false ∷ []
  pub clusters : r.clusters ≡ 1
  pub processors_are : r.processors ≡ processors

-- what an act may change of it
abbrev pub sort_of : Request → Sort
sort_of (ask.Make c) = sort.Makes
sort_of (ask.Spawn o) = sort.Spawns
sort_of (ask.Gone o) = sort.Takes o
sort_of ask.Cluster = sort.Clusters
sort_of (ask.Processor c) = sort.Processors
sort_of r = sort.Stays

abbrev pub is_make : Request → Bool
is_make (ask.Make c) = true
is_make r = false

-- how many of each an act makes
abbrev pub new_clusters : Sort → ℕ
new_clusters sort.Clusters = 1
new_clusters s = 0

abbrev pub new_processors : Sort → ℕ
new_processors sort.Processors = 1
new_processors s = 0
