use Rattle.uc_code.proofs.Patches.{length-patched}
use Rattle.uc_code.proofs.draft.Draft.patch.Goals as goal

pub invariant_of-self : goal.invariant_of-self
invariant_of-self c = rw (c.patch_op.ensures, length-patched _ _ _) c.self.invariant
