use Rattle.std.proofs.Common.{◌≡◌, ◌<◌, ◌≤◌, ◌+◌, ◌-◌, ◌∙◌, ap, sym, subst, arith, length, replicate, set, length-append}
use Rattle.std.proofs.lemmas.List.{length-replicate}
use Rattle.uc_table.specs.Padded.{padded}
use Rattle.uc_table.proofs.Pads.{set_padded}
use Rattle.uc_table.proofs.table.Table.set.Goals as goal

pub returns : goal.returns
returns g c =
    let old = c.self.inside in
    let now = c.loop.self-inside in
    let i = c.loop.invariant in
    let size : length now.items.items ≡ length old.items.items + c.loop.counter = ap length i.items ∙ length-append old.items.items (replicate c.loop.counter old.blank) ∙ ap (λ m. length old.items.items + m) (length-replicate c.loop.counter old.blank) in
    let within = subst (λ l. c.args.number < length l) (sym c.self.view_is) c.requires in
    let all = length-append old.items.items (replicate (old.size - length old.items.items) old.blank) in
    let blanks = length-replicate (old.size - length old.items.items) old.blank in
    let few = c.self.invariant.1 in
    let test = c.loop-test.false in
    let most = c.loop.auto.counter-end in
    let end = c.saturating_sub-end.ensures in
    let written = c.len-written.ensures in
    let ok = old.items.ok in
    let room : length now.items.items ≤ old.size = omega arith in
    let known : c.args.number < length now.items.items = omega arith in
    let after = set now.items.items c.args.number c.args.value in
    ap (λ n. padded n now.blank after) i.size ∙ ap (λ b. padded old.size b after) i.blank ∙ set_padded old.size old.blank old.items.items now.items.items c.loop.counter c.args.number c.args.value i.items room known ∙ ap (λ l. set l c.args.number c.args.value) c.self.view_is
