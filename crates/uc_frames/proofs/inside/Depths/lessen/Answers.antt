use Rattle.std.proofs.Common.{◌≡◌, ℕ, List, reverse, None, subst}
use Rattle.uc_entry.specs.Keyed.{find}
use Rattle.uc_frames.specs.Numbered.{IsNewest}
use Rattle.uc_frames.proofs.Entered.{less_deep, left_here, not_inside}
use Rattle.uc_frames.proofs.inside.Depths.lessen.Goals as goal

pub returns-then-depth-gt1 : goal.returns-then-depth-gt1
returns-then-depth-gt1 c =
    let here = subst (λ (ps : List (ℕ × ℕ)). IsNewest c.args.object ps c.in-Some.at) c.deref.ensures.value c.in-Some.ensures in
    rw (← c.self.view_is) (less_deep c.args.object c.self.inside.rows.items c.in-Some.at here c.index.result.now c.index.ensures c.if-depth-gt1.true)

pub returns-else-depth-gt1 : goal.returns-else-depth-gt1
returns-else-depth-gt1 c =
    let here = subst (λ (ps : List (ℕ × ℕ)). IsNewest c.args.object ps c.in-Some.at) c.deref.ensures.value c.in-Some.ensures in
    rw (← c.self.view_is, c.remove.ensures.items) (left_here c.args.object c.self.inside.rows.items c.in-Some.at here c.index.result.now c.index.ensures c.if-depth-gt1.false)

pub returns-in_default : goal.returns-in_default
returns-in_default c =
    let none = subst (λ (ps : List (ℕ × ℕ)). find c.args.object (reverse ps) ≡ None) c.deref.ensures.value c.in_default.ensures in
    rw (← c.self.view_is) (not_inside c.args.object _ none)
