use Rattle.std.proofs.Common.{◌≡◌, ℕ, List, reverse, None, subst, sym}
use Rattle.uc_entry.specs.Keyed.{find}
use Rattle.uc_frames.proofs.Positions.{without_none}
use Rattle.uc_frames.proofs.inside.Depths.leave.Goals as goal

pub returns-in_default : goal.returns-in_default
returns-in_default c =
    let none = subst (λ (ps : List (ℕ × ℕ)). find c.args.object (reverse ps) ≡ None) c.deref.ensures.value c.in_default.ensures in
    rw (← c.self.view_is) (sym (without_none c.args.object _ none))
