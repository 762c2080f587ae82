-- The numbers of a journal that a judge keeps.
use Rattle.std.specs.Prelude.{◌≡◌, ◌-◌, pos, length}
use Rattle.uc_entry.specs.declared.entry.Options.{Options}
use Rattle.uc_acts.specs.Journal.{Journal, is_over}
use Rattle.uc_acts.specs.Queues.{cluster_count, processor_count, first_ended, all_ticks}
use Rattle.uc_acts.specs.Known.{object_count, task_count}
use Rattle.uc_acts.specs.Reading.{bytes_used, has_failed}
use Rattle.uc_judge.specs.declared.counts.Counts.{Counts}

-- the counts are those of a journal under these options
pub record AreCounts (c : Counts) (opts : Options) (j : Journal) : Type 0 where
  pub entries : c.entries ≡ length j
  pub objects : c.objects ≡ object_count j
  pub tasks : c.tasks ≡ task_count j
  pub clusters : c.clusters ≡ cluster_count j
  pub processors : c.processors ≡ processor_count opts j
  pub bytes_read : c.bytes_read ≡ pos (bytes_used j)
  pub has_failed : c.has_failed ≡ has_failed j
  pub ticks_left : c.ticks_left ≡ opts.ticks - all_ticks j
  pub first_ended : c.first_ended ≡ first_ended j
  pub is_over : c.is_over ≡ is_over j
