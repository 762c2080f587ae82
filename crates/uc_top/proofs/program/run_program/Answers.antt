use Rattle.std.proofs.Common.{subst}
use Rattle.uc_lower.specs.Refusals.{Refuses, IsLarge}
use Rattle.uc_top.proofs.Frames.{accepted, fit_frames}
use Rattle.uc_top.proofs.program.run_program.Goals as goal

pub do_code-ran-requires-clause-accepted : goal.do_code-ran-requires-clause-accepted
do_code-ran-requires-clause-accepted g c κs within = accepted c.args.checked.now c.requires.unbroken c.in-Ok.ensures.fits

pub returns-in-Err-CodeTooLarge-clause-refused : goal.returns-in-Err-CodeTooLarge-clause-refused
returns-in-Err-CodeTooLarge-clause-refused g c =
    let p = c.args.checked.now in
    let large : IsLarge p c.in-Err-CodeTooLarge.field-0-0 = subst (Refuses p) c.in-Err-CodeTooLarge.field-0-is c.in-Err-CodeTooLarge.ensures.refused in
    record {
      no_break = c.requires.unbroken;
      frames = fit_frames p large.frames;
      large = large.large;
    }
