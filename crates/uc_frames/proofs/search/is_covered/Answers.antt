use Rattle.std.proofs.Common.{◌≡◌, ◌<◌, reverse, sym, subst, ap, ◌∙◌, arith}
use Rattle.uc_code.specs.RowTable.{covering_from}
use Rattle.uc_frames.specs.Searches.{named}
use Rattle.uc_frames.proofs.Named.{zero_named, covering_named, covered}
use Rattle.uc_frames.proofs.search.is_covered.Goals as goal

pub returns-then-covering-eq0-clause-none : goal.returns-then-covering-eq0-clause-none
returns-then-covering-eq0-clause-none c = λ e.
    let rows = c.args.code.now.rows in
    let none : covering_from 0 rows c.args.next ≡ 0 = sym c.covering.ensures ∙ omega (arith, c.if-covering-eq0.true) in
    sym (covering_named rows c.args.next) ∙ (ap (named rows) none ∙ zero_named (reverse rows))

pub returns-clause-some : goal.returns-clause-some
returns-clause-some c = λ e.
    let rows = c.args.code.now.rows in
    let more : 0 < c.covering.result = omega (arith, c.if-covering-eq0.false) in
    covered 0 rows c.args.next (subst (λ n. 0 < n) c.covering.ensures more)
