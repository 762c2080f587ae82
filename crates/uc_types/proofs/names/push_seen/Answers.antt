use Rattle.std.proofs.Common.{rules, ap, sym, ◌∙◌, ◌≡◌, ◌+◌, ◌++◌, ◌∷◌, [], length, arith}
use Rattle.uc_types.specs.LocalBlocks.{stacked}
use Rattle.uc_types.proofs.Stacks.{stacked_push}
use Rattle.uc_types.proofs.names.push_seen.Goals as goal

pub returns-clause-stacked : goal.returns-clause-stacked
returns-clause-stacked c =
    let old = c.args.names.now.items in
    let name = c.args.name.now in
    let items : c.push.new.self.items ≡ old ++ record { name = name; meant = c.args.meant } ∷ [] = search rules in
    let id : c.in_ok-id.id ≡ 0 + length old = let a = c.in_ok-id.ensures in let b = c.len.ensures in omega (arith, a, b) in
    c.in_ok-declare_alone.ensures.declared
    ∙ ap (λ bs. ((name, c.in_ok-id.id) ∷ []) ∷ bs) c.requires
    ∙ ap (λ k. ((name, k) ∷ []) ∷ stacked 0 old []) id
    ∙ sym (stacked_push 0 old (record { name = name; meant = c.args.meant }) [])
    ∙ ap (λ l. stacked 0 l []) (sym items)
