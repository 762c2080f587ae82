use Rattle.uc_journal.proofs.form.version.Goals as goal

pub returns-in-New-clause-first : goal.returns-in-New-clause-first
returns-in-New-clause-first c none =
    absurd (none (record { rest = c.body_of.result.rest.now; is = rw c.in-New.is at c.body_of.ensures }))
