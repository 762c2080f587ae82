use Rattle.std.proofs.Common.{List, ◌∷◌, [], map, refl}
use Rattle.uc_tree.specs.Statements.{Declarator}
use Rattle.uc_numbering.proofs.Put.{turned, ended, pushed}
use Rattle.uc_numbering.proofs.conditions.push_declarators.Goals as goal

pub loop-declarator-preserved : goal.loop-declarator-preserved
loop-declarator-preserved c = turned (λ (l : List Declarator). l) c.args.declarators.now c.loop-declarator.declarator-index c.declarator-item.result (c.declarator-item.result ∷ []) (map (λ d. d.now) c.loop-declarator.found.items) (map (λ d. d.now) c.push.new.self.items) _ c.loop-declarator-test.true c.declarator-item.is refl (pushed (λ d. d.now) c.loop-declarator.found.items c.push.new.self.items _ c.in_ok-push.ensures.items) c.loop-declarator.invariant

pub returns : goal.returns
returns c = ended (λ (l : List Declarator). l) c.args.declarators.now c.loop-declarator.declarator-index (map (λ d. d.now) c.loop-declarator.found.items) _ refl c.loop-declarator-test.false c.loop-declarator.invariant
