-- What appending and patching do to the ops.
use Rattle.std.proofs.Common.{◌≡◌, ◌≢◌, ℕ, zero, suc, ◌≤◌, ◌<◌, List, [], ◌∷◌, ◌++◌, length, get_or, Some, refl, ap, sym, ◌∙◌, arith, length-append}
use Rattle.std.specs.Prelude.{slice_get, slice_set}
use Rattle.uc_code.specs.declared.op.Op.{Op}
use Rattle.uc_code.specs.declared.rows.Handler.{Handler}
use Rattle.uc_code.specs.declared.rows.Instruction.{Instruction}
use Rattle.uc_code.specs.Drafts.{ops_with, patched}
use Rattle.uc_code.specs.Layout.{Laid}
use Rattle.uc_code.specs.CodeShapes.{OpAt, HandlerAt, IsBare, One, Same, Kept}

-- a handler stays where the rows do, and so does a row without one
pub handler_stays : (old new : Laid) → new.rows ≡ old.rows → (number : ℕ) (handler : Handler) → HandlerAt old number handler → HandlerAt new number handler
handler_stays old new e number handler h = record {
  row = h.row;
  there = ap (λ rs. slice_get rs number) e ∙ h.there;
  kind = h.kind;
  event = h.event;
  rest = h.rest;
  entry = h.entry;
  is_set = h.is_set;
}

pub bare_stays : (old new : Laid) → new.rows ≡ old.rows → (number : ℕ) → IsBare old number → IsBare new number
bare_stays old new e number h = record {
  row = h.row;
  there = ap (λ rs. slice_get rs number) e ∙ h.there;
  kind = h.kind;
  ended = h.ended;
  none = h.none;
}

get_front : (xs ys : List Instruction) (i : ℕ) (x : Instruction) → slice_get xs i ≡ Some x → slice_get (xs ++ ys) i ≡ Some x
get_front [] ys i x e = cc
get_front (y ∷ xs) ys zero x e = e
get_front (y ∷ xs) ys (suc i) x e = get_front xs ys i x e

get_seam : (xs ys : List Instruction) (x : Instruction) → slice_get (xs ++ x ∷ ys) (length xs) ≡ Some x
get_seam [] ys x = refl
get_seam (y ∷ xs) ys x = get_seam xs ys x

-- one more op: all others stay, and it stands at the end
pub kept_with : (code : Laid) (op : Op) (line : ℕ) → Kept code (record code { ops = ops_with code.ops op line })
kept_with code op line = record {
  longer = omega (arith, length-append code.ops (record { op = op; line = line } ∷ []));
  same = λ i x l o. record { here = get_front code.ops (record { op = op; line = line } ∷ []) i (record { op = x; line = l }) o.here };
  chains = λ next h. refl;
  handlers = handler_stays code (record code { ops = ops_with code.ops op line }) refl;
  bare = bare_stays code (record code { ops = ops_with code.ops op line }) refl;
}

pub one_with : (code : Laid) (op : Op) (line : ℕ) → One (record code { ops = ops_with code.ops op line }) op line (length code.ops) (length (ops_with code.ops op line))
one_with code op line = record {
  here = record { here = get_seam code.ops [] (record { op = op; line = line }) };
  end = omega (arith, length-append code.ops (record { op = op; line = line } ∷ []));
}

pub length-patched : (ops : List Instruction) (at : ℕ) (op : Op) → length (patched ops at op) ≡ length ops
length-patched [] at op = refl
length-patched (i ∷ is) zero op = refl
length-patched (i ∷ is) (suc at) op = ap suc (length-patched is at op)

get_patched : (ops : List Instruction) (at : ℕ) (op was : Op) (line : ℕ) → slice_get ops at ≡ Some (record { op = was; line = line }) → slice_get (patched ops at op) at ≡ Some (record { op = op; line = line })
get_patched [] at op was line e = cc
get_patched (i ∷ is) zero op was line e =
    let same : i ≡ record { op = was; line = line } = cc in
    ap (λ (j : Instruction). Some (record { op = op; line = j.line })) same
get_patched (i ∷ is) (suc at) op was line e = get_patched is at op was line e

get_unpatched : (ops : List Instruction) (at : ℕ) (op : Op) (j : ℕ) → at ≢ j → slice_get (patched ops at op) j ≡ slice_get ops j
get_unpatched [] at op j h = refl
get_unpatched (i ∷ is) zero op zero h = absurd (h refl)
get_unpatched (i ∷ is) zero op (suc j) h = refl
get_unpatched (i ∷ is) (suc at) op zero h = refl
get_unpatched (i ∷ is) (suc at) op (suc j) h = get_unpatched is at op j (λ e. h (ap suc e))

-- the patched op, on the line that it had
pub patched_at : (code : Laid) (at : ℕ) (op was : Op) (line : ℕ) → OpAt code at was line → OpAt (record code { ops = patched code.ops at op }) at op line
patched_at code at op was line o = record { here = get_patched code.ops at op was line o.here }

-- pieces before and behind a patched op stay
pub same_before : (code : Laid) (at : ℕ) (op : Op) (a z : ℕ) → z ≤ at → Same code (record code { ops = patched code.ops at op }) a z
same_before code at op a z h = record {
  same = λ i x l m n o. record { here = get_unpatched code.ops at op i (λ e. absurd (omega arith)) ∙ o.here };
  chains = λ next m n. refl;
  handlers = handler_stays code (record code { ops = patched code.ops at op }) refl;
}

pub same_after : (code : Laid) (at : ℕ) (op : Op) (a z : ℕ) → at < a → Same code (record code { ops = patched code.ops at op }) a z
same_after code at op a z h = record {
  same = λ i x l m n o. record { here = get_unpatched code.ops at op i (λ e. absurd (omega arith)) ∙ o.here };
  chains = λ next m n. refl;
  handlers = handler_stays code (record code { ops = patched code.ops at op }) refl;
}

pub patched_set : (ops : List Instruction) (at : ℕ) (op : Op) (d : Instruction) → at < length ops → slice_set ops at (record { op = op; line = (get_or ops at d).line }) ≡ patched ops at op
patched_set [] at op d h = refl
patched_set (i ∷ is) zero op d h = refl
patched_set (i ∷ is) (suc at) op d h = ap (λ l. i ∷ l) (patched_set is at op d (omega arith))

pub patched_past : (ops : List Instruction) (at : ℕ) (op : Op) → length ops ≤ at → patched ops at op ≡ ops
patched_past [] at op h = refl
patched_past (i ∷ is) zero op h = absurd (omega arith)
patched_past (i ∷ is) (suc at) op h = ap (λ l. i ∷ l) (patched_past is at op (omega arith))

pub patched_then : (ops : List Instruction) (at n : ℕ) (op : Op) (i : Instruction) → n ≡ length ops → at < n → i ≡ get_or ops at i → slice_set ops at (record { op = op; line = i.line }) ≡ patched ops at op
patched_then ops at n op i e h is =
    ap (λ (j : Instruction). slice_set ops at (record { op = op; line = j.line })) is ∙ patched_set ops at op i (omega arith)

pub patched_else : (ops : List Instruction) (at n : ℕ) (op : Op) → n ≡ length ops → n ≤ at → ops ≡ patched ops at op
patched_else ops at n op e h = sym (patched_past ops at op (omega arith))
