use Rattle.std.proofs.Common.{◌∙◌, length-set, None, Some, rules}
use Rattle.std.proofs.lemmas.List.{length-replicate}
use Rattle.std.specs.Prelude.{replicate}
use Rattle.uc_entry.specs.declared.request.Answer.TheVariants as answer
use Rattle.uc_kernel_journal.proofs.Tellings as tellings
use Rattle.uc_kernel_journal.proofs.kernel_journal.KernelJournal.new.Goals as goal

pub invariant_of-result : goal.invariant_of-result
invariant_of-result c =
    let spent = c.in_ok-spent.ensures in
    let told = c.in_ok-answers.ensures in (
      search rules,
      record {
        tells = λ _. rw (c.push_reserved.ensures.items, c.in_ok-journal.ensures.items, c.begin_entry.ensures, spent, told) (tellings.tells_begin c.args.sites.items c.args.opts.now c.args.tasks c.requires.tasks);
        begun = search rules;
        tasks_spent = rw spent (length-replicate c.args.tasks 0);
        tasks_answers = rw told (length-set (replicate c.args.tasks None) 0 (Some answer.Go) ∙ length-replicate c.args.tasks None);
        short = c.requires.sites;
        narrow = search rules;
        ends = rw (c.push_reserved.ensures.items, c.in_ok-journal.ensures.items, c.begin_entry.ensures) (tellings.ends_begin c.args.opts.now);
      },
    )
