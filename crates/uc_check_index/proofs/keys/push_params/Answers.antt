use Rattle.std.proofs.Common.{◌∷◌, ◌++◌, refl, ap, sym, ◌∙◌}
use Rattle.std.proofs.lemmas.List.{at_drop_all}
use Rattle.uc_check_index.specs.Keys.{base_key, flag_byte, params_key}
use Rattle.uc_check_index.proofs.Turns.{all_put, turned}
use Rattle.uc_check_index.proofs.keys.push_params.Goals as goal

pub loop-param-preserved : goal.loop-param-preserved
loop-param-preserved c =
    let p = c.param-item.result in
    let was = c.loop-param.key.items in
    let base = base_key p.base in
    let put = all_put was c.push.new.self.items c.push-in-loop-param.new.self.items 1 c.in_ok-push.ensures.items c.push_base.new.key.items c.flag_byte.result base c.in_ok-push-2.ensures.items c.in_ok-push_base.ensures in
    let flag = ap (λ y. was ++ 1 ∷ (y ∷ base)) c.flag_byte.ensures in
    turned params_key c.args.params.now c.loop-param.param-index _ p c.loop-param-test.true c.param-item.is (1 ∷ (flag_byte p.by_ref ∷ base)) was c.push_base.new.key.items _ refl (put ∙ flag) c.loop-param.invariant

pub returns : goal.returns
returns c = c.in_ok-push-3.ensures.items ∙ ap (λ l. c.loop-param.key.items ++ l) (sym (at_drop_all params_key c.args.params.now c.loop-param.param-index c.loop-param-test.false)) ∙ c.loop-param.invariant
