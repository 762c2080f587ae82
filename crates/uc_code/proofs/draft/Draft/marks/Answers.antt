use Rattle.std.proofs.Common.{reverse}
use Rattle.uc_code.proofs.Nesting.{falls}
use Rattle.uc_code.proofs.draft.Draft.marks.Goals as goal

pub returns-clause-falling : goal.returns-clause-falling
returns-clause-falling c = rw (← c.self.view_is) (falls c.self.inside.settled (reverse c.self.inside.rows.items) (reverse c.self.inside.marks.items) c.self.invariant.1.nested)
