-- The oldest event in a mask stands at the first place that is in it.
use Rattle.std.proofs.Common.{◌≡◌, ℕ, ◌<◌, ◌≤◌, ◌+◌, true, List, ◌∷◌, ◌++◌, Some, None, take, drop, get_or, length, ap, sym, ◌∙◌, cond, add-one}
use Rattle.std.specs.List.{remove}
use Rattle.std.proofs.lemmas.List.{at_drop_more, at_drop_all, append-nil}
use Rattle.std.proofs.lemmas.List.{take_all, get_or_default}
use Rattle.uc_acts.specs.Pending.{oldest_in}
use Rattle.uc_tree.specs.SiteOffers.{has_bit}
use Rattle.uc_events.specs.Pending.{Event, without_oldest}

pub chosen : (mask n : ℕ) (es : List Event) (seen e : Event) → seen ≡ get_or es n seen → e ≡ get_or es n e → n < length es → has_bit seen.0 mask ≡ true → has_bit e.0 mask ≡ true
chosen mask n es seen e a b lt inside = ap (λ (x : Event). has_bit x.0 mask) (b ∙ get_or_default es n e seen lt ∙ sym a) ∙ inside

pub oldest_here : (mask n : ℕ) (es : List Event) (e : Event) → n < length es → e ≡ get_or es n e → has_bit e.0 mask ≡ true → Some e ≡ oldest_in mask (drop n es)
oldest_here mask n es e lt same inside =
    let P = λ (x : Event). cond (has_bit x.0 mask) (Some x) (oldest_in mask (drop (n + 1) es)) in
    sym (at_drop_more (oldest_in mask) es n e lt ∙ ap P (sym same) ∙ ap (λ b. cond b (Some e) (oldest_in mask (drop (n + 1) es))) inside)

pub others_here : (mask n : ℕ) (es : List Event) (e : Event) → n < length es → e ≡ get_or es n e → has_bit e.0 mask ≡ true → remove es n ≡ take n es ++ without_oldest mask (drop n es)
others_here mask n es e lt same inside =
    let P = λ (x : Event). cond (has_bit x.0 mask) (drop (n + 1) es) (x ∷ without_oldest mask (drop (n + 1) es)) in
    let rest : without_oldest mask (drop n es) ≡ drop (n + 1) es = at_drop_more (without_oldest mask) es n e lt ∙ ap P (sym same) ∙ ap (λ b. cond b (drop (n + 1) es) (e ∷ without_oldest mask (drop (n + 1) es))) inside in
    ap (λ r. take n es ++ r) (ap (λ k. drop k es) (sym (add-one n)) ∙ sym rest)

pub nowhere : (mask n : ℕ) (es : List Event) → length es ≤ n → None ≡ oldest_in mask (drop n es)
nowhere mask n es le = sym (at_drop_all (oldest_in mask) es n le)

pub all_others : (mask n : ℕ) (es : List Event) → length es ≤ n → es ≡ take n es ++ without_oldest mask (drop n es)
all_others mask n es le = sym (ap (λ r. take n es ++ r) (at_drop_all (without_oldest mask) es n le) ∙ append-nil (take n es) ∙ take_all n es le)
