use Rattle.std.proofs.Common.{◌-◌, ap, ◌∙◌, arith, rules}
use Rattle.uc_acts.specs.Journal.{is_over, is_ending}
use Rattle.uc_acts.specs.Queues.{cluster_count, processor_count, first_ended, is_cluster, is_processor, ends_first}
use Rattle.uc_acts.specs.Known.{object_count, task_count, is_make, is_spawn}
use Rattle.uc_judge.proofs.Numbers.{more_of, entries_more, ticks_more, signed_bytes_more, failed_more, any_more}
use Rattle.uc_judge.proofs.counts.Counts.add.Goals as goal

pub returns : goal.returns
unfolding is_over cluster_count processor_count first_ended object_count task_count
returns c opts j few lt h =
    let e = c.args.e.now in
    record {
      entries = entries_more j e _ _ c.saturating_add-self.ensures h.entries lt;
      objects = more_of (λ x. is_make x.kind) 1 j e _ _ _ _ c.saturating_add-self-2.ensures h.objects c.one_if.ensures c.is_make.ensures (omega arith) lt;
      tasks = more_of (λ x. is_spawn x.kind) 1 j e _ _ _ _ c.saturating_add-self-3.ensures h.tasks c.one_if-2.ensures c.is_spawn.ensures (omega arith) lt;
      clusters = more_of (λ x. is_cluster x.kind) 1 j e _ _ _ _ c.saturating_add-self-4.ensures h.clusters c.one_if-3.ensures c.is_cluster.ensures (omega arith) lt;
      processors = more_of (λ x. is_processor x.kind) opts.processors j e _ _ _ _ c.saturating_add-self-5.ensures h.processors c.one_if-4.ensures c.is_processor.ensures few lt;
      bytes_read = signed_bytes_more j e _ _ _ _ (search rules) c.bytes_behind-self.ensures (search rules) h.bytes_read;
      has_failed = failed_more j e _ _ c.has_failed_behind-self.ensures h.has_failed;
      ticks_left = ticks_more opts.ticks j e _ _ (c.saturating_sub-self.ensures ∙ ap (λ n. c.args.self.now.ticks_left - n) c.from.ensures) h.ticks_left;
      first_ended = any_more (λ x. ends_first x.kind x) j e _ _ _ c.either-self.ensures h.first_ended c.ends_first.ensures;
      is_over = any_more (λ x. is_ending x.kind) j e _ _ _ c.either-self-2.ensures h.is_over c.is_ending.ensures;
    }
