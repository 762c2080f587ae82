use Rattle.std.proofs.Common.{◌∙◌, sym}
use Rattle.std.proofs.lemmas.Bool.{false≢true}
use Rattle.uc_inherit.proofs.Picked.{no_virtual}
use Rattle.uc_inherit.proofs.laws.law_no_virtual.Goals as goal

pub returns : goal.returns
returns c = λ ts i is. false≢true (sym (no_virtual ts i) ∙ is)
