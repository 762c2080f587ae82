use Rattle.std.proofs.Common.{◌≡◌, ℕ, List, Option, Some, Ok, Vec, Global, option_map, ap, ◌∙◌}
use Rattle.std.proofs.lemmas.Result.{IfOk-at_ok, on_ok_weaker}
use Rattle.uc_check_index.specs.Firsts.{noted}
use Rattle.uc_check_index.proofs.firsts.note_key.Goals as goal

abbrev HasBytes : Option (List ℕ) → Option (Vec ℕ Global) → Type 0
HasBytes bytes k = option_map (λ v. v.items) k ≡ bytes

pub returns-in-Some : goal.returns-in-Some
returns-in-Some c =
    let made = c.in_ok-key.was ∙ ap (λ k. Ok k) c.in-Some.is in
    let read = ap (λ l. Some l) c.deref.ensures.value in
    on_ok_weaker c.note.result (λ e bytes h. e ∙ ap (λ o. noted c.args.firsts.now o c.args.place) (read ∙ IfOk-at_ok (HasBytes bytes) made h)) c.note.ensures

pub returns-in-None : goal.returns-in-None
returns-in-None c =
    let made = c.in_ok-key.was ∙ ap (λ k. Ok k) c.in-None.is in
    λ bytes h. ap (λ o. noted c.args.firsts.now o c.args.place) (IfOk-at_ok (HasBytes bytes) made h)
