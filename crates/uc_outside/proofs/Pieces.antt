-- What several reads take together.
use Rattle.std.proofs.Common.{ℕ, ◌+◌, ◌≤◌, Bool, true, List, ◌++◌, length, Option, ◌-◌, take, ap, refl, sym, subst, length-append, length-take, arith}
use Rattle.std.specs.Io.KnownBytes.{Consumes}
use Rattle.std.proofs.KnownBytes.{Consumes-trans}
use Rattle.uc_outside.specs.Limited.{TakesAtMost, AppendsPiece}

-- what was taken before, and one piece more
pub takes-piece : (a b c : Option (List ℕ)) (bytes old new : List ℕ) (ask most : ℕ) (went_well : Bool)
    → Consumes a b bytes → AppendsPiece b c ask old new went_well → length bytes + ask ≤ most → TakesAtMost a c most
takes-piece a b c bytes old new ask most went_well before piece few = record {
  taken = bytes ++ piece.taken;
  consumed = Consumes-trans a b c bytes piece.taken before piece.consumed;
  few = let e = length-append bytes piece.taken in let f = piece.few in omega arith;
}

-- after a read that went well the bytes are all that was taken
pub consumed-piece : (a b c : Option (List ℕ)) (old new : List ℕ) (ask : ℕ)
    → Consumes a b old → AppendsPiece b c ask old new true → Consumes a c new
consumed-piece a b c old new ask before piece =
    subst (Consumes a c) (sym (piece.appended refl)) (Consumes-trans a b c old piece.taken before piece.consumed)

-- a read that went well adds no more than it asked for
pub length-piece : (b c : Option (List ℕ)) (old new : List ℕ) (ask most : ℕ)
    → AppendsPiece b c ask old new true → length old + ask ≤ most → length new ≤ most
length-piece b c old new ask most piece few =
    let e = length-append old piece.taken in
    let f = piece.few in
    let same = ap length (piece.appended refl) in
    omega arith

-- asking for no more than what is missing stays within the number
pub ask_fits : (len ask most : ℕ) (piece : List ℕ) → len ≤ most → ask ≤ most - len → len + length (take ask piece) ≤ most
ask_fits len ask most piece within few = let s = length-take ask piece in omega arith
