use Rattle.std.proofs.Common.{◌≡◌, Some, rules, subst}
use Rattle.uc_tree.specs.declared.kinds.Base.{Base}
use Rattle.uc_tree.specs.Programs.{Program}
use Rattle.uc_tree.specs.Constants.{constants_of, constant_named, value_of_name}
use Rattle.uc_resolve.specs.Resolve.{scalar, value_meant, value_or_zero}
use Rattle.uc_lower_expr.specs.Meanings.{Tells}
use Rattle.uc_lower_expr.proofs.program_names.ProgramNames.constant.Goals as goal

pub returns-in-Some : goal.returns-in-Some
returns-in-Some c =
    let p = c.args.self.now in
    let told = c.value_of_base.result in
    let is : constant_named (constants_of p.items) c.args.name.now ≡ Some c.in-Some.constant.now = search rules in
    let value : c.unwrap_or.result ≡ value_or_zero (value_of_name (constants_of p.items) c.args.name.now) = search rules in
    let base : c.constant-in-Some.inside.base ≡ c.in-Some.constant.now.base = search rules in
    record {
      constant = c.in-Some.constant.now;
      is = is;
      value = search rules;
      tells = λ e. subst (λ (b : Base). Tells p told (value_meant e (scalar b))) base (subst (λ (q : Program). Tells q told (value_meant e (scalar c.constant-in-Some.inside.base))) c.self.view_is (c.value_of_base.ensures.tells e));
    }
