use Rattle.std.proofs.Common.{◌≡◌, rules, ap, ◌∙◌, refl, to_z, of_z, w64}
use Rattle.uc_frames.specs.Machine.{below, cell_number, top}
use Rattle.uc_frames.specs.Unwinding.{byte_of}
use Rattle.uc_frames.proofs.Masks.{below_one, below_two, below_three}
use Rattle.uc_frames.proofs.work.Work.event_below.Goals as goal

pub returns : goal.returns
returns c =
    let cs = c.args.self.now.run.operands in
    let n : c.event_number.result ≡ byte_of (cell_number (top (below (below (below cs))))) = c.event_number.ensures ∙ ap (λ x. byte_of (cell_number x)) (c.below.ensures ∙ below_three cs) in
    let x : to_z w64 (of_z w64 c.number_in.result) ≡ cell_number (top (below (below cs))) = (let e : c.number_in.result ≡ cell_number (top (below (below cs))) = c.number_in.ensures ∙ ap cell_number (c.below-2.ensures ∙ below_two cs) in search rules) in
    let y : to_z w64 (of_z w64 c.number_in-2.result) ≡ cell_number (top (below cs)) = (let e : c.number_in-2.result ≡ cell_number (top (below cs)) = c.number_in-2.ensures ∙ ap cell_number (c.below-3.ensures ∙ below_one cs) in search rules) in
    rw (n, x, y) refl
