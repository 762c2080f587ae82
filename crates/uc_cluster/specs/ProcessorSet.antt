-- Which processors are in a set.
use Rattle.std.specs.Prelude.{◌≡◌, ℕ, ◌<◌, ◌==◌, ◌&&◌, Bool, not, List, length, nat_lt, slice_index_or}
use Rattle.std.specs.Int.{bit_at}
use Rattle.std.specs.Option.{is_none}
use Rattle.uc_cluster.specs.declared.clusters.Processor.{Processor}
use Rattle.uc_cluster.specs.declared.processor_set.ProcessorSet.{ProcessorSet}
use Rattle.uc_cluster.specs.Standing.{no_processor, queue_at, is_nobody}

-- whether processor p is in the set
abbrev pub has : ProcessorSet → ℕ → Bool
has s p = bit_at s.bits p == 1

abbrev pub no_set : ProcessorSet
no_set = record { bits = 0 }

abbrev pub set_at : List ProcessorSet → ℕ → ProcessorSet
set_at sets k = slice_index_or sets k no_set

abbrev pub is_idle : Processor → Bool
is_idle x = x.is_open && is_none x.task

abbrev pub is_served : List (List ℕ) → Processor → Bool
is_served qs x = not (is_nobody (queue_at qs x.cluster))

-- the sets hold what the queues and the processors tell: the processors of each cluster, those that are open and free, and those
-- whose cluster has a ready task
pub record IsMarked (qs : List (List ℕ)) (ps : List Processor) (sets : List ProcessorSet) (idle served : ProcessorSet) : Type 0 where
  pub sets_count : length sets ≡ length qs
  pub known : (p : ℕ) → p < length ps → (slice_index_or ps p no_processor).cluster < length qs
  pub members : (k p : ℕ) → p < 64 → has (set_at sets k) p ≡ (nat_lt p (length ps) && ((slice_index_or ps p no_processor).cluster == k))
  pub idle_are : (p : ℕ) → p < 64 → has idle p ≡ is_idle (slice_index_or ps p no_processor)
  pub served_are : (p : ℕ) → p < length ps → has served p ≡ is_served qs (slice_index_or ps p no_processor)
