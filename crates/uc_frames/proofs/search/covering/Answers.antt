use Rattle.std.proofs.Common.{◌≤◌, length, ap, sym, subst, ◌∙◌}
use Rattle.uc_frames.specs.Searches.{named}
use Rattle.uc_frames.proofs.Named.{covering_named, covering_small}
use Rattle.uc_frames.proofs.search.covering.Goals as goal

pub returns-clause-near : goal.returns-clause-near
returns-clause-near c = subst (λ n. n ≤ length c.args.code.now.rows) (sym c.covering.ensures) (covering_small c.args.code.now.rows c.args.next)

pub returns-clause-chain : goal.returns-clause-chain
returns-clause-chain c = ap (named c.args.code.now.rows) c.covering.ensures ∙ covering_named c.args.code.now.rows c.args.next
