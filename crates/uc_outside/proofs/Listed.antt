-- What follows from the numbers of calls that fail.
use Rattle.std.proofs.Common.{◌≡◌, ℕ, ◌<◌, nat_lt, min, length, take, length-take, arith, Bool, true, false, List, Some, inl, inr, ◌↔◌, IsTrue, refl, sym, ap, ◌∙◌}
use Rattle.std.proofs.lemmas.Bool.{ltb-true}
use Rattle.uc_outside.specs.declared.faults.StoreFault.{StoreFault}
use Rattle.uc_outside.specs.declared.faults.StoreFault.TheVariants.{Failed, TooLong, NoMemory}
use Rattle.uc_outside.specs.Reading.{StoreState, ReadFault}
use Rattle.uc_outside.specs.Memory.{ListedStore, ReadMustFail, is_listed, next_call}

-- a steady store's fault, where the number is not listed, is for want of the name
pub fault_unlisted : (s : ListedStore) (before after : StoreState) (name : List ℕ) (limit : ℕ) (e : StoreFault)
    → IsTrue before.steady → before.told ≡ Some s.files → is_listed s.fails (next_call s.reads) ≡ false
    → ReadFault before after name limit e → (e ≡ Failed) ↔ ReadMustFail s name
fault_unlisted s before after name limit Failed steady told unlisted f = (λ h. inr (f.absent steady s.files told), λ h. refl)
fault_unlisted s before after name limit TooLong steady told unlisted f = (λ h. absurd (cc), none)
  where
    none : ReadMustFail s name → TooLong ≡ Failed
    none (inl listed) = absurd (let e : is_listed s.fails (next_call s.reads) ≡ true = listed in cc)
    none (inr absent) = absurd (let long = f.exceeds s.files told in let is = long.1 in cc)
fault_unlisted s before after name limit NoMemory steady told unlisted f = (λ h. absurd (cc), none)
  where
    none : ReadMustFail s name → NoMemory ≡ Failed
    none (inl listed) = absurd (let e : is_listed s.fails (next_call s.reads) ≡ true = listed in cc)
    none (inr absent) = absurd (let short = f.fits s.files told in let is = short.1 in cc)

-- what a look at a list of numbers says of the next call
pub listed_as : {fails xs : List ℕ} {call n : ℕ} {b c : Bool} → xs ≡ fails → n ≡ call → b ≡ is_listed xs n → b ≡ c → is_listed fails call ≡ c
listed_as {fails} {xs} {call} {n} p q v h =
    ap (λ ys. is_listed ys call) (sym p) ∙ ap (is_listed xs) (sym q) ∙ sym v ∙ h

-- the front of a piece is longer than the memory that is left
pub too_small : {l left m most k : ℕ} (piece : List ℕ) → l ≡ left → m ≡ most → k ≡ min (length piece) m → nat_lt l (length (take k piece)) ≡ true → left < min (length piece) most
too_small {l} {k = k} piece p q r h =
    let s = length-take k piece in
    let less = ltb-true l (length (take k piece)) h in
    omega (arith, s, p, q, r, less)
