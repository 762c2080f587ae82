use Rattle.std.proofs.Common.{◌≡◌, true, false, ap, ◌∙◌, rules, arith}
use Rattle.std.specs.List.{list_any}
use Rattle.uc_tree.specs.Rows.{row_at, leads}
use Rattle.uc_layout.specs.ContainmentProgress.{flag_at, row_leads}
use Rattle.uc_layout.proofs.CellTablesLemmas.{row_is}
use Rattle.uc_layout.proofs.ContainmentProgressLemmas.{led_more}
use Rattle.uc_layout.proofs.circles.mark.Goals as goal

pub returns-then-any_leads-clause-led : goal.returns-then-any_leads-clause-led
returns-then-any_leads-clause-led c =
    let row : row_at c.args.rows.now c.args.place ≡ c.index-rows-place.result = row_is c.args.rows.now c.args.place c.index-rows-place.result c.requires.inside c.index-rows-place.is in
    let tested : list_any (leads (flag_at c.args.flags.now) c.args.to) (c.index-rows-place.result).held ≡ true = search rules in
    let empty : flag_at c.args.flags.now c.args.place ≡ false = search rules in
    (led_more c.args.rows.now c.args.to c.args.flags.now c.args.place (omega (arith, c.requires.inside, c.requires.full)) empty c.requires.led (ap (λ r. list_any (leads (flag_at c.args.flags.now) c.args.to) r.held) row ∙ tested)).0

pub returns-then-any_leads-clause-more : goal.returns-then-any_leads-clause-more
returns-then-any_leads-clause-more c = λ t.
    let row : row_at c.args.rows.now c.args.place ≡ c.index-rows-place.result = row_is c.args.rows.now c.args.place c.index-rows-place.result c.requires.inside c.index-rows-place.is in
    let tested : list_any (leads (flag_at c.args.flags.now) c.args.to) (c.index-rows-place.result).held ≡ true = search rules in
    let empty : flag_at c.args.flags.now c.args.place ≡ false = search rules in
    (led_more c.args.rows.now c.args.to c.args.flags.now c.args.place (omega (arith, c.requires.inside, c.requires.full)) empty c.requires.led (ap (λ r. list_any (leads (flag_at c.args.flags.now) c.args.to) r.held) row ∙ tested)).1

pub returns-clause-told : goal.returns-clause-told
returns-clause-told c = λ t e.
    let row : row_at c.args.rows.now c.args.place ≡ c.index-rows-place.result = row_is c.args.rows.now c.args.place c.index-rows-place.result c.requires.inside c.index-rows-place.is in
    let tested : list_any (leads (flag_at c.args.flags.now) c.args.to) (c.index-rows-place.result).held ≡ false = search rules in
    let no : row_leads c.args.rows.now c.args.flags.now c.args.to c.args.place ≡ false = ap (λ r. list_any (leads (flag_at c.args.flags.now) c.args.to) r.held) row ∙ tested in
    absurd (cc)
