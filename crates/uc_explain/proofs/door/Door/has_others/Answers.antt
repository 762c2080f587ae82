use Rattle.std.proofs.Common.{◌≡◌, ℕ, ℤ, ◌==◌, ◌||◌, not, false, ap, sym, ◌∙◌}
use Rattle.std.specs.List.{list_any}
use Rattle.uc_explain.specs.Shown.{Shown}
use Rattle.uc_explain.proofs.OthersLemmas.{any_wait}
use Rattle.uc_explain.proofs.door.Door.has_others.Goals as goal

pub returns : goal.returns
returns c =
    let t = c.args.task in
    let s = c.args.self.now in
    let d = c.self.inside in
    let calls : list_any (λ (w : ℕ × ℕ). not (w.0 == t)) s.waiting ≡ false = sym (ap (λ (s : Shown). list_any (λ (w : ℕ × ℕ). not (w.0 == t)) s.waiting) c.self.view_is) ∙ sym (ap (list_any (λ (w : ℕ × ℕ). not (w.0 == t))) c.deref.ensures.value) ∙ sym c.has_other_call.ensures ∙ c.if-has_other_call.false in
    let stands : list_any (λ (u : ℕ). not (u == t)) s.stacked ≡ false = sym (ap (λ (s : Shown). list_any (λ (u : ℕ). not (u == t)) s.stacked) c.self.view_is) ∙ sym (ap (list_any (λ (u : ℕ). not (u == t))) c.deref-2.ensures.value) ∙ sym c.has_other.ensures ∙ c.if-has_other.false in
    let waits : c.has_other_wait.result ≡ list_any (λ (b : ℕ × ℕ × ℤ). not (b.0 == t)) s.blocked = c.has_other_wait.ensures ∙ ap (list_any (λ (w : ℕ × ℤ). not (w.0 == t))) c.deref-3.ensures.value ∙ sym (any_wait t d.conds.items d.waits.items c.self.invariant) ∙ ap (λ (s : Shown). list_any (λ (b : ℕ × ℕ × ℤ). not (b.0 == t)) s.blocked) c.self.view_is in
    waits ∙ sym (ap (λ b. b || (list_any (λ (u : ℕ). not (u == t)) s.stacked || list_any (λ (b : ℕ × ℕ × ℤ). not (b.0 == t)) s.blocked)) calls ∙ ap (λ b. b || list_any (λ (b : ℕ × ℕ × ℤ). not (b.0 == t)) s.blocked) stands)
