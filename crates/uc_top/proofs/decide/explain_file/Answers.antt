use Rattle.std.proofs.Common.{subst}
use Rattle.uc_top.specs.Decisions.{JournalTextRefused}
use Rattle.uc_top.proofs.Findings.{journal_unread, unexplained}
use Rattle.uc_top.proofs.decide.explain_file.Goals as goal

pub returns-clause-refused : goal.returns-clause-refused
returns-clause-refused g c = journal_unread _ _ _ _ c.in-Err.why.refusal c.in-Err.ensures.named c.in-Err.ensures.refused

pub returns-in-Ok-clause-refused : goal.returns-in-Ok-clause-refused
returns-in-Ok-clause-refused g c =
    unexplained _ _ _ _ _ c.unnamed.result.refusal c.in-Err-explain_text.refusal c.unnamed.ensures c.in-Ok.ensures.read (subst (λ t. JournalTextRefused t c.in-Err-explain_text.refusal) c.deref.ensures.value c.in-Err-explain_text.ensures.refused)
