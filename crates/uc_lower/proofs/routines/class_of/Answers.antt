use Rattle.std.proofs.Common.{◌≡◌, true, false, ap, sym, ◌∙◌}
use Rattle.uc_tree.specs.Cells.{classes_of}
use Rattle.uc_tree.specs.Programs.{Program, Sig}
use Rattle.uc_tree.specs.Objects.{event_from}
use Rattle.uc_numbering.specs.Routines.{defined_at}
use Rattle.uc_lower_expr.specs.Events.{builds_event}
use Rattle.uc_lower.proofs.Placed.{place_named, place_numbered}
use Rattle.uc_lower.proofs.routines.class_of.Goals as goal

pub returns-then-builds_event : goal.returns-then-builds_event
returns-then-builds_event c =
    let one = c.args.one.now in
    let builds : builds_event one.number one.routine.now.sig ≡ true = sym (c.builds_event.ensures ∙ ap (builds_event one.number) c.sig_of-sig.ensures) ∙ c.if-builds_event.true in
    c.event_named.ensures
    ∙ ap (λ (p : Program). event_from (classes_of p.items) 0 c.name_of.result.now) c.sizes.ensures
    ∙ ap (event_from (classes_of c.args.names.now.items) 0) (c.name_of.ensures ∙ ap (λ (g : Sig). g.name) c.sig_of-sig.ensures)
    ∙ place_named c.args.names.now (defined_at one) builds

pub returns : goal.returns
returns c =
    let one = c.args.one.now in
    let none : builds_event one.number one.routine.now.sig ≡ false = sym (c.builds_event.ensures ∙ ap (builds_event one.number) c.sig_of-sig.ensures) ∙ c.if-builds_event.false in
    c.class_of.ensures ∙ place_numbered c.args.names.now (defined_at one) none
