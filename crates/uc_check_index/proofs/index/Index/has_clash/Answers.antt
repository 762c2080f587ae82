use Rattle.std.proofs.Common.{take, sym, ◌∙◌}
use Rattle.uc_check_index.proofs.Clashes.{clashes_are}
use Rattle.uc_check_index.proofs.index.Index.has_clash.Goals as goal

pub returns : goal.returns
returns c = c.clashes-clash.ensures ∙ sym (clashes_are c.args.proto c.args.name.now (take c.args.place c.args.self.now.items) c.args.later.now)
