use Rattle.std.proofs.Common.{◌≡◌, Bool, false, None, if◌then◌else◌, ap, sym, ◌∙◌}
use Rattle.uc_tree.specs.Numbering.{is_event, routines_of}
use Rattle.uc_tree.specs.Objects.{class_at, member_from, number_at}
use Rattle.uc_lower_expr.specs.Known.{is_event_in}
use Rattle.uc_lower_expr.specs.Members.{member_at}
use Rattle.uc_lower_expr.proofs.program_names.ProgramNames.member.Goals as goal

pub returns-in-Some : goal.returns-in-Some
returns-in-Some c =
    let p = c.args.self.now in
    let i = c.args.class in
    let has = c.in-Some.ensures in
    let none : is_event has.class.kind ≡ false = sym (c.is_event_at.ensures ∙ ap (λ q. is_event_in (class_at q i)) c.self.view_is ∙ ap is_event_in has.there) ∙ c.if-is_event_at.false in
    c.member_in.ensures (routines_of p) (number_at p i) has.routines ∙ sym (ap (member_at p i c.args.name.now) has.there ∙ ap (λ (b : Bool). if b then None else member_from (routines_of p) 0 (number_at p i) c.args.name.now) none)
