use Rattle.std.proofs.Common.{ap, ◌∙◌, arith}
use Rattle.uc_frames.specs.Searches.{first_in}
use Rattle.uc_frames.proofs.Named.{none_first}
use Rattle.uc_frames.proofs.search.first_handler.Goals as goal

pub returns-then-number-eq0 : goal.returns-then-number-eq0
returns-then-number-eq0 c =
    none_first c.args.sought c.args.code.now.rows c.covering-number.result (omega (arith, c.if-number-eq0.true)) ∙ ap (first_in c.args.sought c.args.code.now.rows) c.covering-number.ensures.chain
