use Rattle.std.proofs.Common.{ap}
use Rattle.uc_resolve.specs.Resolve.{Standing, value_by}
use Rattle.uc_lower_expr.specs.declared.meaning.Standing.TheVariants as standing
use Rattle.uc_lower_expr.proofs.Arms.{load_variable, load_field, load_place, load_none}
use Rattle.uc_lower_expr.proofs.put.put_load.Goals as goal

pub returns-in_ok-restart-in-Variable-clause-code : goal.returns-in_ok-restart-in-Variable-clause-code
returns-in_ok-restart-in-Variable-clause-code c = λ p. load_variable c.args.out.now.marks c.args.line c.args.start c.in-Variable.cell c.args.told _ _ _ c.requires.inside c.in-Variable.is c.standing_as.ensures c.in_ok-restart-in-Variable.ensures

pub returns-in_ok-put-in-Place-clause-code : goal.returns-in_ok-put-in-Place-clause-code
returns-in_ok-put-in-Place-clause-code c = λ p. load_place c.args.out.now.marks c.args.line c.args.start c.args.told _ _ _ c.requires.inside c.in-Place.is c.standing_as-in-Place.ensures c.in_ok-put-in-Place.ensures

pub returns-in_ok-restart-in-Field-clause-code : goal.returns-in_ok-restart-in-Field-clause-code
returns-in_ok-restart-in-Field-clause-code c = λ p. load_field c.args.out.now.marks c.args.line c.args.start c.in-Field.cell c.args.told _ _ _ c.requires.inside c.in-Field.is c.standing_as-in-Field.ensures c.in_ok-restart-in-Field.ensures

pub returns-in-Number-clause-code : goal.returns-in-Number-clause-code
returns-in-Number-clause-code c = λ p. load_none c.args.out.now.marks c.args.line c.args.start standing.Number c.args.told _ _ c.requires.inside c.in-Number.is (λ o e h. ap (λ (s : Standing). value_by s e) h) c.standing_as-in-Number.ensures

pub returns-in-Value-clause-code : goal.returns-in-Value-clause-code
returns-in-Value-clause-code c = λ p. load_none c.args.out.now.marks c.args.line c.args.start standing.Value c.args.told _ _ c.requires.inside c.in-Value.is (λ o e h. ap (λ (s : Standing). value_by s e) h) c.standing_as-in-Value.ensures

pub returns-in-Input-clause-code : goal.returns-in-Input-clause-code
returns-in-Input-clause-code c = λ p. load_none c.args.out.now.marks c.args.line c.args.start standing.Input c.args.told _ _ c.requires.inside c.in-Input.is (λ o e h. ap (λ (s : Standing). value_by s e) h) c.standing_as-in-Input.ensures

pub returns-in-Fail-clause-code : goal.returns-in-Fail-clause-code
returns-in-Fail-clause-code c = λ p. load_none c.args.out.now.marks c.args.line c.args.start standing.Fail c.args.told _ _ c.requires.inside c.in-Fail.is (λ o e h. ap (λ (s : Standing). value_by s e) h) c.standing_as-in-Fail.ensures

pub returns-in-Routine-clause-code : goal.returns-in-Routine-clause-code
returns-in-Routine-clause-code c = λ p. load_none c.args.out.now.marks c.args.line c.args.start (standing.Routine c.in-Routine.field-0) c.args.told _ _ c.requires.inside c.in-Routine.is (λ o e h. ap (λ (s : Standing). value_by s e) h) c.standing_as-in-Routine.ensures

pub returns-in-Member-clause-code : goal.returns-in-Member-clause-code
returns-in-Member-clause-code c = λ p. load_none c.args.out.now.marks c.args.line c.args.start (standing.Member c.in-Member.field-0) c.args.told _ _ c.requires.inside c.in-Member.is (λ o e h. ap (λ (s : Standing). value_by s e) h) c.standing_as-in-Member.ensures

pub returns-in-LiveMember-clause-code : goal.returns-in-LiveMember-clause-code
returns-in-LiveMember-clause-code c = λ p. load_none c.args.out.now.marks c.args.line c.args.start (standing.LiveMember c.in-LiveMember.field-0) c.args.told _ _ c.requires.inside c.in-LiveMember.is (λ o e h. ap (λ (s : Standing). value_by s e) h) c.standing_as-in-LiveMember.ensures

pub returns-in-MutexMember-clause-code : goal.returns-in-MutexMember-clause-code
returns-in-MutexMember-clause-code c = λ p. load_none c.args.out.now.marks c.args.line c.args.start (standing.MutexMember c.in-MutexMember.member c.in-MutexMember.routine) c.args.told _ _ c.requires.inside c.in-MutexMember.is (λ o e h. ap (λ (s : Standing). value_by s e) h) c.standing_as-in-MutexMember.ensures

pub returns-in-Nothing-clause-code : goal.returns-in-Nothing-clause-code
returns-in-Nothing-clause-code c = λ p. load_none c.args.out.now.marks c.args.line c.args.start standing.Nothing c.args.told _ _ c.requires.inside c.in-Nothing.is (λ o e h. ap (λ (s : Standing). value_by s e) h) c.standing_as-in-Nothing.ensures

pub returns-in-Condition-clause-code : goal.returns-in-Condition-clause-code
returns-in-Condition-clause-code c = λ p. load_none c.args.out.now.marks c.args.line c.args.start (standing.Condition c.in-Condition.field-0) c.args.told _ _ c.requires.inside c.in-Condition.is (λ o e h. ap (λ (s : Standing). value_by s e) h) c.standing_as-in-Condition.ensures

pub returns-in-CallOf-clause-code : goal.returns-in-CallOf-clause-code
returns-in-CallOf-clause-code c = λ p. load_none c.args.out.now.marks c.args.line c.args.start (standing.CallOf c.in-CallOf.field-0) c.args.told _ _ c.requires.inside c.in-CallOf.is (λ o e h. ap (λ (s : Standing). value_by s e) h) c.standing_as-in-CallOf.ensures
