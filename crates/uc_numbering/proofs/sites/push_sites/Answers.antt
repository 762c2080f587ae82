use Rattle.std.proofs.Common.{map, refl}
use Rattle.uc_numbering.specs.Flat.{flat}
use Rattle.uc_numbering.specs.Sites.{own_listed}
use Rattle.uc_numbering.proofs.Put.{turned, ended}
use Rattle.uc_numbering.proofs.sites.push_sites.Goals as goal

pub loop-s-preserved : goal.loop-s-preserved
loop-s-preserved c = turned (λ l. flat (own_listed (map (λ n. n.now) c.args.names.now) c.args.class) (map (λ s. s.now) l)) c.args.statements.now c.loop-s.s-index c.s-item.result (own_listed (map (λ n. n.now) c.args.names.now) c.args.class c.s-item.result.now) c.loop-s.found.items c.push_site.new.found.items _ c.loop-s-test.true c.s-item.is refl c.in_ok-push_site.ensures c.loop-s.invariant

pub returns : goal.returns
returns c = ended (λ l. flat (own_listed (map (λ n. n.now) c.args.names.now) c.args.class) (map (λ s. s.now) l)) c.args.statements.now c.loop-s.s-index c.loop-s.found.items _ refl c.loop-s-test.false c.loop-s.invariant
