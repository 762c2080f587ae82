use Rattle.std.proofs.Common.{◌∷◌, [], take, arith}
use Rattle.std.proofs.lemmas.List.{length-append}
use Rattle.uc_kernel_journal.proofs.Tellings as tellings
use Rattle.uc_kernel_journal.proofs.kernel_journal.KernelJournal.end_at.Goals as goal

pub invariant_of-self : goal.invariant_of-self
invariant_of-self c =
    let old = c.self.invariant.1 in
    let cap = c.self.invariant.0 in (
      omega arith,
      record {
        tells = λ h. tellings.over_push (take c.args.count c.self.inside.journal.items) c.args.e c.requires.ends (rw (c.push_reserved.ensures.items, c.truncate.ensures.items) at h);
        begun = rw (c.push_reserved.ensures.items) (omega (arith, length-append c.truncate.new.self.items (c.args.e ∷ [])));
        tasks_spent = old.tasks_spent;
        tasks_answers = old.tasks_answers;
        short = old.short;
        narrow = old.narrow;
        ends = rw (c.push_reserved.ensures.items, c.truncate.ensures.items) (tellings.ends_so (take c.args.count c.self.inside.journal.items) c.args.e c.requires.ends);
      },
    )
