use Rattle.std.proofs.Common.{◌≡◌, ℕ, List, Bool, true, false, true≢false, refl, sym, ◌∙◌}
use Rattle.std.specs.Cmp.Lexicographic.{bytes_decides}
use Rattle.uc_tree.specs.Names.{same_name}
use Rattle.uc_tree.specs.Numbering.{unhandled_name, failure_name}
use Rattle.uc_numbering.proofs.classes.event_number.Goals as goal

-- which of two names comes first does not matter
not_same : (a b : List ℕ) (t : Bool) → same_name b a ≡ t → same_name a b ≡ false → t ≡ false
not_same a b true e h = absurd (true≢false (sym ((bytes_decides a b).1 (sym ((bytes_decides b a).0 e))) ∙ h))
not_same a b false e h = refl

pub returns : goal.returns
returns c =
    let name = c.args.name.now in
    let unhandled : same_name unhandled_name name ≡ false = not_same name unhandled_name (same_name unhandled_name name) refl (sym c.is.ensures.test ∙ c.if-is.false) in
    let failure : same_name failure_name name ≡ false = not_same name failure_name (same_name failure_name name) refl (sym c.is-2.ensures.test ∙ c.if-is-2.false) in
    rw (unhandled, failure) c.declared_event-number.ensures
