use Rattle.std.proofs.Common.{Some, sym, ap, ◌∙◌}
use Rattle.std.specs.Option.{option_map}
use Rattle.uc_frames.specs.declared.event.HandlerStart.{HandlerStart}
use Rattle.uc_except.specs.Handling.{handling_of}
use Rattle.uc_except.proofs.handling.handling_at.Goals as goal

pub returns-in-Some : goal.returns-in-Some
returns-in-Some c =
    let r = c.args.row in
    let a = c.in-Some.active.now in
    ap (λ n. Some (let h : HandlerStart = record { entry = r.entry; this = a.head.this; frame = a.head.frame; visited = record { level = c.args.frame; rest = r.rest; home = n }; event = c.args.event } in h)) c.home_at.ensures
    ∙ ap (option_map (handling_of r c.args.frame c.args.event)) (sym c.in-Some.ensures.1)
