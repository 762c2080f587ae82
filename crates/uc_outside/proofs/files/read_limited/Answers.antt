use Rattle.std.proofs.Common.{refl, ap, Ok, ◌≡◌, ◌+◌, length, arith, vec_len}
use Rattle.uc_outside.proofs.Pieces.{takes-piece, consumed-piece, length-piece, ask_fits}
use Rattle.uc_outside.proofs.files.read_limited.Goals as goal

pub returns-in_err-append_piece-clause-takes : goal.returns-in_err-append_piece-clause-takes
returns-in_err-append_piece-clause-takes g c =
    let len_is : vec_len c.pieces.bytes ≡ length c.pieces.bytes.items = c.pieces.bytes.ok.0 in
    takes-piece _ _ _ _ _ _ _ _ _ c.pieces.invariant.taken c.in_err-append_piece.ensures.takes (ask_fits _ _ _ _ (omega arith) (omega arith))

pub returns-then-not-branch-clause-within : goal.returns-then-not-branch-clause-within
returns-then-not-branch-clause-within g c =
    let same = ap length (c.in_ok-append_piece.ensures.end_stays (ap Ok c.if-not-branch.true)) in
    let len_is : vec_len c.append_piece.new.bytes ≡ length c.append_piece.new.bytes.items = c.append_piece.new.bytes.ok.0 in
    omega (arith, same, len_is, c.pieces.invariant.room)

pub returns-then-not-branch-clause-takes : goal.returns-then-not-branch-clause-takes
returns-then-not-branch-clause-takes g c =
    let len_is : vec_len c.pieces.bytes ≡ length c.pieces.bytes.items = c.pieces.bytes.ok.0 in
    takes-piece _ _ _ _ _ _ _ _ _ c.pieces.invariant.taken c.in_ok-append_piece.ensures.takes (ask_fits _ _ _ _ (omega arith) (omega arith))

pub returns-then-len-most-clause-takes : goal.returns-then-len-most-clause-takes
returns-then-len-most-clause-takes g c =
    let len_is : vec_len c.pieces.bytes ≡ length c.pieces.bytes.items = c.pieces.bytes.ok.0 in
    takes-piece _ _ _ _ _ _ _ _ _ c.pieces.invariant.taken c.in_ok-append_piece.ensures.takes (ask_fits _ _ _ _ (omega arith) (omega arith))

pub pieces-preserved : goal.pieces-preserved
pieces-preserved g c =
    let len_was : vec_len c.pieces.bytes ≡ length c.pieces.bytes.items = c.pieces.bytes.ok.0 in
    let len_is : vec_len c.append_piece.new.bytes ≡ length c.append_piece.new.bytes.items = c.append_piece.new.bytes.ok.0 in
    let few = length-piece _ _ _ _ _ (c.args.limit + 1) c.in_ok-append_piece.ensures.takes (ask_fits _ _ _ _ (omega arith) (omega arith)) in
    record {
      room = omega (arith, few);
      most = refl;
      taken = consumed-piece _ _ _ _ _ _ c.pieces.invariant.taken c.in_ok-append_piece.ensures.takes;
    }
