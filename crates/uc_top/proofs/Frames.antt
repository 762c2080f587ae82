-- Routines of a program that breaks no rule: their frames.
use Rattle.std.proofs.Common.{◌≡◌, [], arith}
use Rattle.uc_tree.specs.Programs.{Program}
use Rattle.uc_rules.specs.Breaks.{breaks_of}
use Rattle.uc_lower.specs.Refusals.{Fits, FitsAll}
use Rattle.uc_top.specs.Accepted.{FitFrames, HasLargeFrame, IsAccepted}

module _ (p : Program) where
  pub accepted : breaks_of p ≡ [] → Fits p → IsAccepted p
  accepted none f = record {
    no_break = none;
    frames = record { each = f.frames.each };
    size = f.size;
  }

  pub fit_frames : FitsAll p → FitFrames p
  fit_frames f = record { each = f.each }

  -- where all frames fit, none is too large
  pub not_fit : HasLargeFrame p → FitFrames p → ⊥
  not_fit h frames =
      let fits = frames.each h.number h.routine h.there in
      let large = h.large in
      absurd (omega (arith, fits, large))

  -- an accepted program has no such frame
  pub no_large : HasLargeFrame p → IsAccepted p → ⊥
  no_large h a = not_fit h a.frames
