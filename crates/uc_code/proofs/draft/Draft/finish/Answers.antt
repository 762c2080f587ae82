use Rattle.std.proofs.Common.{length, reverse, subst}
use Rattle.uc_code.specs.Drafts.{Draft}
use Rattle.uc_code.specs.OpenRows.{AreEnded}
use Rattle.std.specs.Prelude.{◌≡◌, []}
use Rattle.uc_code.proofs.Closing.{all_ended}
use Rattle.uc_code.proofs.draft.Draft.finish.Goals as goal

pub returns-clause-ended : goal.returns-clause-ended
returns-clause-ended c =
    subst (λ (d : Draft). d.marks ≡ [] → AreEnded (length d.ops) d.rows) c.self.view_is (all_ended (length c.self.inside.ops.items) c.self.inside.settled c.self.inside.rows.items (reverse c.self.inside.marks.items) c.self.invariant.1)
