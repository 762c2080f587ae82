use Rattle.std.proofs.Common.{[], ◌∷◌, ◌++◌, get_or, refl, ap, sym, ◌∙◌}
use Rattle.std.proofs.lemmas.List.{at_drop_all}
use Rattle.uc_check_index.specs.Keys.{name_key}
use Rattle.uc_check_index.proofs.Turns.{both_put, turned}
use Rattle.uc_check_index.proofs.keys.push_name_bytes.Goals as goal

pub loop-byte-preserved : goal.loop-byte-preserved
loop-byte-preserved c =
    let bytes = c.args.bytes.now in
    let i = c.loop-byte.byte-index in
    let byte = get_or bytes i 0 in
    let was = c.loop-byte.key.items in
    let put = both_put was c.push.new.self.items c.push-in-loop-byte.new.self.items 1 c.in_ok-push.ensures.items byte c.in_ok-push-2.ensures.items in
    turned name_key bytes i 0 byte c.loop-byte-test.true refl (1 ∷ (byte ∷ [])) was c.push-in-loop-byte.new.self.items _ refl put c.loop-byte.invariant

pub returns : goal.returns
returns c = c.in_ok-push-3.ensures.items ∙ ap (λ l. c.loop-byte.key.items ++ l) (sym (at_drop_all name_key c.args.bytes.now c.loop-byte.byte-index c.loop-byte-test.false)) ∙ c.loop-byte.invariant
