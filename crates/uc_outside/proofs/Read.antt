-- What follows from the answers of reads.
use Rattle.std.proofs.Common.{◌≡◌, ℕ, List, length, Some, IsTrue, sym, ◌∙◌, arith}
use Rattle.uc_outside.specs.Reading.{StoreState, HasFile, ReadBytes, ReadFailed, ReadTooLong}

same_length : (xs ys : List ℕ) → Some xs ≡ Some ys → length xs ≡ length ys
same_length xs ys e = cc

-- a steady store that has the name does not fail
pub has_file-no_failure : {a b : StoreState} {name : List ℕ} {limit : ℕ} → IsTrue a.steady → HasFile a name limit → ReadFailed a b name → ⊥
has_file-no_failure steady h f = let none = f.absent steady h.files h.is_told in let some = h.is_file in cc

-- and what it has is not too long
pub has_file-not_long : {a b : StoreState} {name : List ℕ} {limit : ℕ} → HasFile a name limit → ReadTooLong a b name limit → ⊥
has_file-not_long h f =
    let long = f.exceeds h.files h.is_told in
    let same : length h.bytes ≡ length long.0 = same_length h.bytes long.0 (sym h.is_file ∙ long.1) in
    omega (arith, same, long.2, h.fits)

-- what is read of a store that tells its files is what it has
pub has_file-content : {a b : StoreState} {name bytes : List ℕ} {limit : ℕ} (h : HasFile a name limit) → ReadBytes a b name limit bytes → bytes ≡ h.bytes
has_file-content h r = let e = r.content h.files h.is_told in let f = h.is_file in cc
