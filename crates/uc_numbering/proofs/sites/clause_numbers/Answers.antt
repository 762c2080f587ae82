use Rattle.std.proofs.Common.{◌∷◌, [], ◌++◌, map, refl, ap, ◌∙◌}
use Rattle.uc_numbering.specs.Sites.{clause_listed, listed_in}
use Rattle.uc_numbering.proofs.Put.{turned, ended}
use Rattle.uc_numbering.proofs.sites.clause_numbers.Goals as goal

pub loop-member-preserved : goal.loop-member-preserved
loop-member-preserved c = turned (λ l. map (listed_in (map (λ n. n.now) c.args.names.now)) l) c.deref-member-items.result.now c.loop-member.member-index c.member-item.result (listed_in (map (λ n. n.now) c.args.names.now) c.member-item.result ∷ []) c.loop-member.numbers.items c.push.new.self.items _ c.loop-member-test.true c.member-item.is refl (c.in_ok-push.ensures.items ∙ ap (λ k. c.loop-member.numbers.items ++ k ∷ []) c.listed_number.ensures) c.loop-member.invariant

pub returns : goal.returns
returns c = ended (λ l. map (listed_in (map (λ n. n.now) c.args.names.now)) l) c.deref-member-items.result.now c.loop-member.member-index c.loop-member.numbers.items _ refl c.loop-member-test.false c.loop-member.invariant ∙ ap (λ ms. map (listed_in (map (λ n. n.now) c.args.names.now)) ms) c.deref-member-items.ensures.value ∙ ap (λ k. clause_listed (map (λ n. n.now) c.args.names.now) k) c.clause.view_is
