use Rattle.std.proofs.Common.{◌∷◌, ◌++◌, ap, ◌∙◌}
use Rattle.std.proofs.lemmas.Result.{on_ok_weaker}
use Rattle.uc_check_index.specs.Keys.{base_key, name_key, params_key, role_byte, sig_key}
use Rattle.uc_check_index.proofs.Turns.{lists_put}
use Rattle.uc_check_index.proofs.keys.push_sig.Goals as goal

pub returns : goal.returns
returns c =
    let was = c.args.key.now.items in
    let name = name_key c.sig.inside.name in
    let ret = base_key c.sig.inside.ret in
    let params = params_key c.deref.result.now in
    let role = ap (λ r. was ++ r ∷ (name ++ (ret ++ params))) c.role_byte.ensures in
    let listed = ap (λ ps. was ++ role_byte c.sig.inside.role ∷ (name ++ (ret ++ params_key ps))) c.deref.ensures.value in
    let seen = ap (λ s. was ++ sig_key s) c.sig.view_is in
    on_ok_weaker c.push_params.result (λ e. lists_put was c.push.new.self.items c.push_name.new.key.items c.role_byte.result c.in_ok-push.ensures.items c.push_base.new.key.items c.push_params.new.key.items name ret params c.in_ok-push_name.ensures c.in_ok-push_base.ensures e ∙ role ∙ listed ∙ seen) c.push_params.ensures
