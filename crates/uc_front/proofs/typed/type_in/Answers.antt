use Rattle.std.proofs.Common.{rules}
use Rattle.uc_rules.specs.Visits.{statement_visits}
use Rattle.uc_front.specs.Typed.{statement_breaks}
use Rattle.uc_front.proofs.TypeLemmas.{broken_by, found_is, kept_by}
use Rattle.uc_front.proofs.typed.type_in.Goals as goal

pub returns-in-Some-clause-broken : goal.returns-in-Some-clause-broken
returns-in-Some-clause-broken c =
    let env = c.args.names.now in
    let e = c.args.e.now in
    broken_by (statement_breaks env e) c.check_value-entity.new.found c.in-Some.first (found_is (statement_visits env e) _ c.check_value-entity.new.found c.new-found.ensures c.check_value-entity.ensures.breaks) (search rules)

pub returns-in_ok-ty-in-None-clause-kept : goal.returns-in_ok-ty-in-None-clause-kept
returns-in_ok-ty-in-None-clause-kept c =
    let env = c.args.names.now in
    let e = c.args.e.now in
    kept_by (statement_breaks env e) c.check_value-entity.new.found (found_is (statement_visits env e) _ c.check_value-entity.new.found c.new-found.ensures c.check_value-entity.ensures.breaks) (search rules)
