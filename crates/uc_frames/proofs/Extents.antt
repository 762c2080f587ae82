-- What changes of the cells of a block change of its contents.
use Rattle.std.proofs.Common.{◌≡◌, ℕ, suc, ◌+◌, ◌-◌, ◌<◌, ◌≤◌, List, [], ◌∷◌, ◌++◌, length, take, drop, reverse, Some, None, Bool, true, false, refl, sym, ap, ◌∙◌, arith, inl, inr, replicate, get_or}
use Rattle.std.specs.Prelude.{nat_eq, if◌then◌else◌, max, slice_set, slice_index_or}
use Rattle.std.proofs.lemmas.Bool.{cases_lt}
use Rattle.std.proofs.Math.Nat.{max-eq_left, max-eq_right}
use Rattle.std.proofs.lemmas.Option.{none-some, same_Some}
use Rattle.std.proofs.Math.Seq.{take-append_seam, drop-append_seam, take-append-add, drop-append-add}
use Rattle.std.proofs.lemmas.List.{append_assoc, append-nil, reverse-append, length-append, length-reverse, length-drop, length-take-le, take-take, drop-drop, drop-take, take-append-le, drop-append-le, drop_all, take_all, get_or-drop, length-set, length-replicate, take_more_set, take-set-le, drop-set-add, get_or-take, get_or_past, get_or_default, set-append_left, set-append_right, set_past, take-append-drop}
use Rattle.uc_machine.specs.Executions.{at_depth, set_depth, frame_changed, values_cleared, list_in, first_or, others}
use Rattle.uc_code.specs.declared.rows.RoutineCode.{RoutineCode}
use Rattle.uc_frames.specs.declared.cell.Cell.{Cell}
use Rattle.uc_frames.specs.declared.cell.Cell.TheVariants.{Nothing}
use Rattle.uc_frames.specs.declared.block.Extent.{Extent}
use Rattle.uc_frames.specs.Block.{Contents, operands_from, frame_of, all_operands, all_frames, contents, Adjoin, with_call, with_frame, with_return, without_call}
use Rattle.uc_frames.specs.Machine.{below, cell_written, nought, stored, top}
use Rattle.uc_frames.specs.Calls.{call_frame}
use Rattle.uc_frames.proofs.Newest.{framed, left_below, set_below, top_below}

-- an extent that ends below the end of a list of cells
module _ {X : Type 0} (cs : List X) where
  -- what is left from a place on, of the cells up to another
  between : (s n : ℕ) → s ≤ n → drop s (take n cs) ≡ take (n - s) (drop s cs)
  between s n l =
      let k : n ≡ s + (n - s) = omega arith in
      ap (λ i. drop s (take i cs)) k ∙ drop-take s (n - s) cs

  -- the operands that are left where only so many cells are
  left_operands : (s n : ℕ) → s ≤ n → n ≤ length cs → reverse (drop s (take n cs)) ≡ drop (length cs - n) (reverse (drop s cs))
  left_operands s n l h =
      let d : length (drop s cs) ≡ length cs - s = length-drop s cs in
      let k : n - s ≡ length (drop s cs) - (length cs - n) = omega (arith, d) in
      ap reverse (between s n l) ∙ ap (λ i. reverse (take i (drop s cs))) k ∙ left_below (drop s cs) (length cs - n)

module _ (x : Extent) (xs : List Extent) (cs : List Cell) (a : Adjoin (x ∷ xs) (length cs)) where
  -- cells that agree up to the operands differ in these alone
  pub agreed : (ds : List Cell) → take x.start ds ≡ take x.start cs → contents x xs ds ≡ record (contents x xs cs) { operands = operands_from x ds }
  agreed ds e =
      let l : x.floor ≤ x.start = omega (arith, a.0, a.1) in
      let f : take x.floor ds ≡ take x.floor cs = sym (take-take x.floor x.start ds l) ∙ ap (take x.floor) e ∙ take-take x.floor x.start cs l in
      rw (f, e) refl

  -- so many cells stay, and these come behind
  pub changed : (n : ℕ) (ds : List Cell) → x.start ≤ n → n ≤ length cs → contents x xs (take n cs ++ ds) ≡ record (contents x xs cs) { operands = reverse ds ++ drop (length cs - n) (operands_from x cs) }
  changed n ds l h =
      let k : length (take n cs) ≡ n = length-take-le n cs h in
      let j : x.start ≤ length (take n cs) = omega (arith, k) in
      let t : take x.start (take n cs ++ ds) ≡ take x.start cs = take-append-le x.start (take n cs) ds j ∙ take-take x.start n cs l in
      let o : operands_from x (take n cs ++ ds) ≡ reverse ds ++ drop (length cs - n) (operands_from x cs) =
      ap reverse (drop-append-le x.start (take n cs) ds j) ∙ reverse-append (drop x.start (take n cs)) ds ∙ ap (λ os. reverse ds ++ os) (left_operands cs x.start n l h) in
      agreed (take n cs ++ ds) t ∙ ap (λ os. let c : Contents = record (contents x xs cs) { operands = os } in c) o

  -- these come behind all
  pub behind_all : (ds : List Cell) → contents x xs (cs ++ ds) ≡ record (contents x xs cs) { operands = reverse ds ++ operands_from x cs }
  behind_all ds =
      let t : take (length cs) cs ≡ cs = take_all (length cs) cs (omega arith) in
      let z : length cs - length cs ≡ 0 = omega arith in
      ap (λ es. contents x xs (es ++ ds)) (sym t) ∙ changed (length cs) ds a.2 (omega arith) ∙ ap (λ n. let c : Contents = record (contents x xs cs) { operands = reverse ds ++ drop n (operands_from x cs) } in c) z

  count_left : (count n : ℕ) → n ≡ max (length cs - count) x.start → (x.start ≤ n) × (n ≤ length cs) × (drop (length cs - n) (operands_from x cs) ≡ drop count (operands_from x cs))
  count_left count n e =
      let s : x.start ≤ length cs = a.2 in
      let q : length (operands_from x cs) ≡ length cs - x.start = length-reverse (drop x.start cs) ∙ length-drop x.start cs in
      elim (cases_lt (length cs - count) x.start) [
        | inl l ↦
            let m : n ≡ x.start = e ∙ max-eq_right (omega arith) in
            let u : drop (length cs - n) (operands_from x cs) ≡ [] = drop_all (length cs - n) (operands_from x cs) (omega (arith, q, m)) in
            let v : drop count (operands_from x cs) ≡ [] = drop_all count (operands_from x cs) (omega (arith, q)) in
            (omega (arith, m), omega (arith, m), u ∙ sym v)
        | inr l ↦
            let m : n ≡ length cs - count = e ∙ max-eq_left (omega arith) in
            elim (cases_lt (length cs) count) [
              | inl k ↦
                  let u : drop (length cs - n) (operands_from x cs) ≡ [] = drop_all (length cs - n) (operands_from x cs) (omega (arith, q, m)) in
                  let v : drop count (operands_from x cs) ≡ [] = drop_all count (operands_from x cs) (omega (arith, q)) in
                  (omega (arith, m), omega (arith, m), u ∙ sym v)
              | inr k ↦
                  let w : length cs - n ≡ count = omega (arith, m) in
                  (omega (arith, m), omega (arith, m), ap (λ i. drop i (operands_from x cs)) w)
            ]
      ]

  -- the newest operands go, so many of them, and these come in their place
  pub in_place : (count n : ℕ) (ds : List Cell) → n ≡ max (length cs - count) x.start → contents x xs (take n cs ++ ds) ≡ record (contents x xs cs) { operands = reverse ds ++ drop count (operands_from x cs) }
  in_place count n ds e =
      let p = count_left count n e in
      changed n ds p.0 p.1 ∙ ap (λ os. let c : Contents = record (contents x xs cs) { operands = reverse ds ++ os } in c) p.2

  pub dropped : (count n : ℕ) → n ≡ max (length cs - count) x.start → contents x xs (take n cs) ≡ record (contents x xs cs) { operands = drop count (operands_from x cs) }
  dropped count n e = ap (contents x xs) (sym (append-nil (take n cs))) ∙ in_place count n [] e

  -- all operands go, and these come in their place
  pub all_replaced : (ds : List Cell) → contents x xs (take x.start cs ++ ds) ≡ record (contents x xs cs) { operands = reverse ds }
  all_replaced ds =
      let q : length (operands_from x cs) ≡ length cs - x.start = length-reverse (drop x.start cs) ∙ length-drop x.start cs in
      let n : drop (length cs - x.start) (operands_from x cs) ≡ [] = drop_all _ (operands_from x cs) (omega (arith, q)) in
      changed x.start ds (omega arith) a.2 ∙ ap (λ os. let c : Contents = record (contents x xs cs) { operands = os } in c) (ap (λ os. reverse ds ++ os) n ∙ append-nil (reverse ds))

  pub all_dropped : contents x xs (take x.start cs) ≡ record (contents x xs cs) { operands = [] }
  all_dropped = ap (contents x xs) (sym (append-nil (take x.start cs))) ∙ all_replaced []

-- how many frames there are
pub frame_count : (xs : List Extent) (cs : List Cell) → length (all_frames xs cs) ≡ length xs
frame_count [] cs = refl
frame_count (x ∷ xs) cs = ap suc (frame_count xs (take x.floor cs))

-- as many lists of operands
pub operand_count : (xs : List Extent) (cs : List Cell) → length (all_operands xs cs) ≡ length xs
operand_count [] cs = refl
operand_count (x ∷ xs) cs = ap suc (operand_count xs (take x.floor cs))

-- operands that are read and replaced

-- the operand below so many
pub top_at : (cs : List Cell) (s count i : ℕ) (v : Cell) → s ≤ length cs → count < length cs - s → i ≡ length cs - 1 - count → v ≡ get_or cs i v → v ≡ top (drop count (reverse (drop s cs)))
top_at cs s count i v l h e g =
    let d : length (drop s cs) ≡ length cs - s = length-drop s cs in
    let k : s + (i - s) ≡ i = omega arith in
    let r : v ≡ get_or (drop s cs) (i - s) v = g ∙ sym (get_or-drop s cs (i - s) v ∙ ap (λ n. get_or cs n v) k) in
    top_below (drop s cs) count (i - s) v (omega (arith, d)) (omega (arith, d)) r

drop_two : (os : List Cell) → drop 2 os ≡ below (below os)
drop_two [] = refl
drop_two (o ∷ []) = refl
drop_two (o ∷ (p ∷ os)) = refl

-- nothing is left below two of at most one
pub below_few : (x : Extent) (cs : List Cell) → length cs - x.start ≤ 1 → below (below (operands_from x cs)) ≡ []
below_few x cs l = sym (drop_two (operands_from x cs)) ∙ drop_all 2 (operands_from x cs) (omega (arith, l, length-reverse (drop x.start cs), length-drop x.start cs))

drop_one : (os : List Cell) → drop 1 os ≡ below os
drop_one [] = refl
drop_one (o ∷ os) = refl

-- the last one of a list is another
last_set : (cs : List Cell) (i : ℕ) (c : Cell) → i + 1 ≡ length cs → slice_set cs i c ≡ take i cs ++ c ∷ []
last_set cs i c e =
    let n : length (slice_set cs i c) ≡ length cs = length-set cs i c in
    sym (take_all (i + 1) (slice_set cs i c) (omega (arith, n))) ∙ take_more_set cs i c (omega arith)

module _ (x : Extent) (xs : List Extent) (cs : List Cell) (a : Adjoin (x ∷ xs) (length cs)) where
  pub one_replaced : (i : ℕ) (c : Cell) → i + 1 ≡ length cs → x.start < length cs → contents x xs (slice_set cs i c) ≡ record (contents x xs cs) { operands = c ∷ below (operands_from x cs) }
  one_replaced i c e l =
      let m : i ≡ max (length cs - 1) x.start = sym (max-eq_left (omega arith)) ∙ ap (λ n. max n x.start) (omega arith) in
      ap (contents x xs) (last_set cs i c e) ∙ in_place x xs cs a 1 i (c ∷ []) m ∙ ap (λ os. let k : Contents = record (contents x xs cs) { operands = c ∷ os } in k) (drop_one (operands_from x cs))

  pub two_replaced : (i : ℕ) (c : Cell) → i + 2 ≡ length cs → x.start + 1 < length cs → contents x xs (slice_set (take (i + 1) cs) i c) ≡ record (contents x xs cs) { operands = c ∷ below (below (operands_from x cs)) }
  two_replaced i c e l =
      let m : i ≡ max (length cs - 2) x.start = sym (max-eq_left (omega arith)) ∙ ap (λ n. max n x.start) (omega arith) in
      let k : length (take (i + 1) cs) ≡ i + 1 = length-take-le (i + 1) cs (omega arith) in
      let t : slice_set (take (i + 1) cs) i c ≡ take i cs ++ c ∷ [] = last_set (take (i + 1) cs) i c (sym k) ∙ ap (λ l. l ++ c ∷ []) (take-take i (i + 1) cs (omega arith)) in
      ap (contents x xs) t ∙ in_place x xs cs a 2 i (c ∷ []) m ∙ ap (λ os. let k : Contents = record (contents x xs cs) { operands = c ∷ os } in k) (drop_two (operands_from x cs))

  -- another one below so many
  pub one_set : (count i : ℕ) (c : Cell) → i + count + 1 ≡ length cs → x.start ≤ i → contents x xs (slice_set cs i c) ≡ record (contents x xs cs) { operands = slice_set (operands_from x cs) count c }
  one_set count i c e l =
      let k : x.start + (i - x.start) ≡ i = omega arith in
      let d : length (drop x.start cs) ≡ length cs - x.start = length-drop x.start cs in
      let o : drop x.start (slice_set cs i c) ≡ slice_set (drop x.start cs) (i - x.start) c = ap (λ n. drop x.start (slice_set cs n c)) (sym k) ∙ drop-set-add x.start cs (i - x.start) c in
      agreed x xs cs a (slice_set cs i c) (take-set-le x.start cs i c l)
      ∙ ap (λ os. let k : Contents = record (contents x xs cs) { operands = os } in k) (ap reverse o ∙ set_below (drop x.start cs) count (i - x.start) c (omega (arith, d)))

-- calls and their ends

module _ (x : Extent) (xs : List Extent) (cs : List Cell) (a : Adjoin (x ∷ xs) (length cs)) where
  -- up to so many cells, which hold some of the operands
  up_to : (n : ℕ) → x.start ≤ n → Adjoin (x ∷ xs) n
  up_to n l = (a.0, a.1, l, a.3)

  -- a call, whose frame is what stands from a place on
  pub entered : (y : Extent) (zs : List Cell) → x.start ≤ y.floor → y.floor ≤ y.base → y.base ≤ length cs → y.start ≡ length (cs ++ zs) → contents y (x ∷ xs) (cs ++ zs) ≡ with_call (length cs - y.floor) (drop y.base cs ++ zs) (contents x xs cs)
  entered y zs l m h e =
      let g : y.floor ≤ length cs = omega arith in
      let t : take y.floor (cs ++ zs) ≡ take y.floor cs = take-append-le y.floor cs zs g in
      let o : operands_from y (cs ++ zs) ≡ [] = ap reverse (drop_all y.start (cs ++ zs) (omega (arith, e))) in
      let f : frame_of y (cs ++ zs) ≡ drop y.base cs ++ zs = ap (drop y.base) (take_all y.start (cs ++ zs) (omega (arith, e))) ∙ drop-append-le y.base cs zs h in
      let w : operands_from x (take y.floor cs) ≡ drop (length cs - y.floor) (operands_from x cs) = left_operands cs x.start y.floor l g in
      let u : take x.floor (take y.floor cs) ≡ take x.floor cs = take-take x.floor y.floor cs (omega (arith, a.0, a.1)) in
      let v : take x.start (take y.floor cs) ≡ take x.start cs = take-take x.start y.floor cs l in
      rw (o, f, t, w, u, v) refl

  -- a call whose parameters are the newest operands where they stand
  pub called_in_place : (r : RoutineCode) (taken : ℕ) (y : Extent) → y.floor ≡ length cs - taken → y.base ≡ length cs - r.params → y.start ≡ length cs + (r.cells - r.params) → taken ≤ length cs - x.start → r.params ≤ taken → contents y (x ∷ xs) (cs ++ replicate (r.cells - r.params) nought) ≡ with_call taken (call_frame r (operands_from x cs)) (contents x xs cs)
  called_in_place r taken y f b t l h =
      let zs : List Cell = replicate (r.cells - r.params) nought in
      let s : x.start ≤ length cs = a.2 in
      let n : length cs - y.floor ≡ taken = omega (arith, f) in
      let d : length (drop x.start cs) ≡ length cs - x.start = length-drop x.start cs in
      let z : r.params - length (drop x.start cs) ≡ 0 = omega (arith, d) in
      let k : x.start + (length (drop x.start cs) - r.params) ≡ y.base = omega (arith, d, b) in
      let q : replicate (r.params - length (drop x.start cs)) Nothing ++ drop (length (drop x.start cs) - r.params) (drop x.start cs) ≡ drop y.base cs =
      ap (λ i. replicate i Nothing ++ drop (length (drop x.start cs) - r.params) (drop x.start cs)) z ∙ drop-drop (length (drop x.start cs) - r.params) x.start cs ∙ ap (λ i. drop i cs) k in
      let g : drop y.base cs ++ zs ≡ call_frame r (operands_from x cs) = framed Nothing nought (drop x.start cs) (drop y.base cs) (drop y.base cs ++ zs) r.params (r.cells - r.params) (sym q) refl in
      let e : y.start ≡ length (cs ++ zs) = omega (arith, t, length-append cs zs, length-replicate (r.cells - r.params) nought) in
      entered y zs (omega (arith, f)) (omega (arith, f, b)) (omega (arith, b)) e ∙ ap (λ i. with_call i (drop y.base cs ++ zs) (contents x xs cs)) n ∙ ap (λ fs. with_call taken fs (contents x xs cs)) g

  -- a call whose frame is a copy
  pub called_with_copies : (taken : ℕ) (fs : List Cell) (y : Extent) → y.floor ≡ max (length cs - taken) x.start → y.base ≡ length cs → y.start ≡ length cs + length fs → contents y (x ∷ xs) (cs ++ fs) ≡ with_call taken fs (contents x xs cs)
  called_with_copies taken fs y f b t =
      let p = count_left x xs cs a taken y.floor f in
      let e : y.start ≡ length (cs ++ fs) = omega (arith, t, length-append cs fs) in
      let d : drop y.base cs ≡ [] = drop_all y.base cs (omega (arith, b)) in
      entered y fs p.0 (omega (arith, b, p.1)) (omega (arith, b)) e ∙ ap (λ os. with_call (length cs - y.floor) (os ++ fs) (contents x xs cs)) d
      ∙ ap (λ os. let k : Contents = record { operands = []; waiting = os ∷ all_operands xs (take x.floor cs); frames = fs ∷ all_frames (x ∷ xs) cs } in k) p.2

  pub adjoins_more : (y : Extent) (zs : List Cell) → x.start ≤ y.floor → y.floor ≤ y.base → y.base ≤ y.start → y.start ≤ length zs → Adjoin (y ∷ (x ∷ xs)) (length zs)
  adjoins_more y zs l m h e = (m, h, e, up_to y.floor l)

module _ (x y : Extent) (ys : List Extent) (cs : List Cell) (a : Adjoin (x ∷ (y ∷ ys)) (length cs)) where
  floor_there : length (take x.floor cs) ≡ x.floor
  floor_there = length-take-le x.floor cs (omega (arith, a.0, a.1, a.2))

  pub adjoins_less : Adjoin (y ∷ ys) (length (take x.floor cs))
  adjoins_less = rw floor_there a.3

  -- the newest is left, and the next one has these operands more
  pub returned : (ds : List Cell) → contents y ys (take x.floor cs ++ ds) ≡ with_return (reverse ds) (contents x (y ∷ ys) cs).waiting (contents x (y ∷ ys) cs)
  returned ds = behind_all y ys (take x.floor cs) adjoins_less ds

  pub left_empty : contents y ys (take y.start cs) ≡ without_call (contents x (y ∷ ys) cs).waiting (contents x (y ∷ ys) cs)
  left_empty =
      let l : y.start ≤ x.floor = a.3.2 in
      ap (contents y ys) (sym (take-take y.start x.floor cs l)) ∙ all_dropped y ys (take x.floor cs) adjoins_less

-- a list of which the cells from one place up to another are these

abbrev replaced : {X : Type 0} → ℕ → ℕ → List X → List X → List X
replaced b s fs cs = take b cs ++ (fs ++ drop s cs)

module _ {X : Type 0} (b s : ℕ) (fs : List X) (o : b ≤ s) (n : length fs ≡ s - b) where
  front_length : (cs : List X) → s ≤ length cs → length (take b cs ++ fs) ≡ s
  front_length cs h =
      let k : length (take b cs) ≡ b = length-take-le b cs (omega arith) in
      omega (arith, length-append (take b cs) fs, k, n)

  as_front : (cs : List X) → replaced b s fs cs ≡ (take b cs ++ fs) ++ drop s cs
  as_front cs = sym (append_assoc (take b cs) fs (drop s cs))

  same_before : (cs : List X) (i : ℕ) → s ≤ length cs → i ≤ b → take i (replaced b s fs cs) ≡ take i cs
  same_before cs i h l =
      let k : length (take b cs) ≡ b = length-take-le b cs (omega arith) in
      take-append-le i (take b cs) (fs ++ drop s cs) (omega (arith, k)) ∙ take-take i b cs l

  same_behind : (cs : List X) (i : ℕ) → s ≤ length cs → s ≤ i → drop i (replaced b s fs cs) ≡ drop i cs
  same_behind cs i h l =
      let k : i ≡ length (take b cs ++ fs) + (i - s) = omega (arith, front_length cs h) in
      let j : s + (i - s) ≡ i = omega arith in
      ap (drop i) (as_front cs) ∙ ap (λ m. drop m ((take b cs ++ fs) ++ drop s cs)) k ∙ drop-append-add (take b cs ++ fs) (drop s cs) (i - s) ∙ drop-drop (i - s) s cs ∙ ap (λ m. drop m cs) j

  these_between : (cs : List X) → s ≤ length cs → drop b (take s (replaced b s fs cs)) ≡ fs
  these_between cs h =
      let k : length (take b cs) ≡ b = length-take-le b cs (omega arith) in
      let t : take s (replaced b s fs cs) ≡ take b cs ++ fs = ap (take s) (as_front cs) ∙ ap (λ m. take m ((take b cs ++ fs) ++ drop s cs)) (sym (front_length cs h)) ∙ take-append_seam (take b cs ++ fs) (drop s cs) in
      ap (drop b) t ∙ ap (λ m. drop m (take b cs ++ fs)) (sym k) ∙ drop-append_seam (take b cs) fs

  replaced_below : (cs : List X) (f : ℕ) → s ≤ f → f ≤ length cs → take f (replaced b s fs cs) ≡ replaced b s fs (take f cs)
  replaced_below cs f l h =
      let k : f ≡ length (take b cs ++ fs) + (f - s) = omega (arith, front_length cs (omega arith)) in
      let t : take f (replaced b s fs cs) ≡ (take b cs ++ fs) ++ take (f - s) (drop s cs) =
      ap (take f) (as_front cs) ∙ ap (λ m. take m ((take b cs ++ fs) ++ drop s cs)) k ∙ take-append-add (take b cs ++ fs) (drop s cs) (f - s) in
      let u : take b (take f cs) ≡ take b cs = take-take b f cs (omega arith) in
      let v : drop s (take f cs) ≡ take (f - s) (drop s cs) = between cs s f l in
      t ∙ rw (u, v) (append_assoc (take b cs) fs (take (f - s) (drop s cs)))

  same_above : (cs : List X) (i f : ℕ) → s ≤ i → i ≤ f → f ≤ length cs → drop i (take f (replaced b s fs cs)) ≡ drop i (take f cs)
  same_above cs i f l m h =
      let k : length (take f cs) ≡ f = length-take-le f cs h in
      ap (drop i) (replaced_below cs f (omega arith) h) ∙ same_behind (take f cs) i (omega (arith, k)) l

-- the extent of a depth lies within

within_by : (b : Bool) (x : Extent) (xs : List Extent) (n d : ℕ) (e : Extent) → Adjoin (x ∷ xs) n → (at_depth xs d ≡ Some e → (e.floor ≤ e.base) × (e.base ≤ e.start) × (e.start ≤ x.floor)) → (if b then Some x else at_depth xs d) ≡ Some e → (e.floor ≤ e.base) × (e.base ≤ e.start) × (e.start ≤ n)
within_by true x xs n d e a h q = let s : x ≡ e = same_Some x e q in rw (← s) (a.0, a.1, a.2)
within_by false x xs n d e a h q = let w = h q in (w.0, w.1, omega (arith, w.2, a.0, a.1, a.2))

pub within : (xs : List Extent) (n d : ℕ) (e : Extent) → Adjoin xs n → at_depth xs d ≡ Some e → (e.floor ≤ e.base) × (e.base ≤ e.start) × (e.start ≤ n)
within [] n d e a q = absurd (none-some e q)
within (x ∷ xs) n d e a q = within_by (nat_eq d (length xs)) x xs n d e a (λ r. within xs x.floor d e a.3 r) q

-- what stands at a depth

frame_at_by : (b : Bool) (x : Extent) (xs : List Extent) (cs : List Cell) (d : ℕ) (e : Extent) → (at_depth xs d ≡ Some e → at_depth (all_frames xs (take x.floor cs)) d ≡ Some (frame_of e cs)) → (if b then Some x else at_depth xs d) ≡ Some e → (if b then Some (frame_of x cs) else at_depth (all_frames xs (take x.floor cs)) d) ≡ Some (frame_of e cs)
frame_at_by true x xs cs d e h q = ap (λ y. Some (frame_of y cs)) (same_Some x e q)
frame_at_by false x xs cs d e h q = h q

pub frame_at : (xs : List Extent) (cs : List Cell) (d : ℕ) (e : Extent) → Adjoin xs (length cs) → at_depth xs d ≡ Some e → at_depth (all_frames xs cs) d ≡ Some (frame_of e cs)
frame_at [] cs d e a q = absurd (none-some e q)
frame_at (x ∷ xs) cs d e a q =
    let k : length (take x.floor cs) ≡ x.floor = length-take-le x.floor cs (omega (arith, a.0, a.1, a.2)) in
    let f : (at_depth xs d ≡ Some e → at_depth (all_frames xs (take x.floor cs)) d ≡ Some (frame_of e cs)) =
    λ r. frame_at xs (take x.floor cs) d e (rw k a.3) r ∙ ap (λ es. Some (drop e.base es)) (take-take e.start x.floor cs (within xs x.floor d e a.3 r).2) in
    rw (frame_count xs (take x.floor cs)) (frame_at_by (nat_eq d (length xs)) x xs cs d e f q)

no_frame_by : (b : Bool) (x : Extent) (xs : List Extent) (cs : List Cell) (d : ℕ) → (at_depth xs d ≡ None → at_depth (all_frames xs (take x.floor cs)) d ≡ None) → (if b then Some x else at_depth xs d) ≡ None → (if b then Some (frame_of x cs) else at_depth (all_frames xs (take x.floor cs)) d) ≡ None
no_frame_by true x xs cs d h q = absurd (none-some x (sym q))
no_frame_by false x xs cs d h q = h q

pub no_frame : (xs : List Extent) (cs : List Cell) (d : ℕ) → at_depth xs d ≡ None → at_depth (all_frames xs cs) d ≡ None
no_frame [] cs d q = refl
no_frame (x ∷ xs) cs d q = rw (frame_count xs (take x.floor cs)) (no_frame_by (nat_eq d (length xs)) x xs cs d (λ r. no_frame xs (take x.floor cs) d r) q)

-- other cells in a frame change that frame alone

module _ (d : ℕ) (e : Extent) (fs : List Cell) (n : length fs ≡ e.start - e.base) where
  -- in all frames and operands
  record Swaps (xs : List Extent) (cs ds : List Cell) : Type 0 where
    frames : all_frames xs ds ≡ set_depth (all_frames xs cs) d fs
    operands : all_operands xs ds ≡ all_operands xs cs

  swaps_by : (b : Bool) (x : Extent) (xs : List Extent) (cs : List Cell) → Adjoin (x ∷ xs) (length cs)
      → (at_depth xs d ≡ Some e → Swaps xs (take x.floor cs) (replaced e.base e.start fs (take x.floor cs)))
      → (if b then Some x else at_depth xs d) ≡ Some e
      → ((frame_of x (replaced e.base e.start fs cs) ∷ all_frames xs (take x.floor (replaced e.base e.start fs cs)))
      ≡ (if b then fs ∷ all_frames xs (take x.floor cs) else frame_of x cs ∷ set_depth (all_frames xs (take x.floor cs)) d fs))
      × (all_operands (x ∷ xs) (replaced e.base e.start fs cs) ≡ all_operands (x ∷ xs) cs)
  swaps_by true x xs cs a h q =
      let s : x ≡ e = same_Some x e q in
      let m : length fs ≡ x.start - x.base = n ∙ ap (λ (y : Extent). y.start - y.base) (sym s) in
      let f : frame_of x (replaced x.base x.start fs cs) ≡ fs = these_between x.base x.start fs a.1 m cs a.2 in
      let t : take x.floor (replaced x.base x.start fs cs) ≡ take x.floor cs = same_before x.base x.start fs a.1 m cs x.floor a.2 a.0 in
      let o : drop x.start (replaced x.base x.start fs cs) ≡ drop x.start cs = same_behind x.base x.start fs a.1 m cs x.start a.2 (omega arith) in
      rw (← s) (rw (f, t, o) (refl, refl))
  swaps_by false x xs cs a h q =
      let w = within xs x.floor d e a.3 q in
      let f : frame_of x (replaced e.base e.start fs cs) ≡ frame_of x cs = same_above e.base e.start fs w.1 n cs x.base x.start (omega (arith, w.2, a.0)) a.1 a.2 in
      let t : take x.floor (replaced e.base e.start fs cs) ≡ replaced e.base e.start fs (take x.floor cs) = replaced_below e.base e.start fs w.1 n cs x.floor w.2 (omega (arith, a.0, a.1, a.2)) in
      let o : drop x.start (replaced e.base e.start fs cs) ≡ drop x.start cs = same_behind e.base e.start fs w.1 n cs x.start (omega (arith, w.2, a.0, a.1, a.2)) (omega (arith, w.2, a.0, a.1)) in
      let r = h q in
      rw (f, t, o) (ap (λ l. frame_of x cs ∷ l) r.frames, ap (λ l. operands_from x cs ∷ l) r.operands)

  swaps : (xs : List Extent) (cs : List Cell) → Adjoin xs (length cs) → at_depth xs d ≡ Some e → Swaps xs cs (replaced e.base e.start fs cs)
  swaps [] cs a q = absurd (none-some e q)
  swaps (x ∷ xs) cs a q =
      let k : length (take x.floor cs) ≡ x.floor = length-take-le x.floor cs (omega (arith, a.0, a.1, a.2)) in
      let p = swaps_by (nat_eq d (length xs)) x xs cs a (λ r. swaps xs (take x.floor cs) (rw k a.3) r) q in
      record { frames = rw (frame_count xs (take x.floor cs)) p.0; operands = p.1 }

  pub swapped : (x : Extent) (xs : List Extent) (cs : List Cell) → Adjoin (x ∷ xs) (length cs) → at_depth (x ∷ xs) d ≡ Some e → contents x xs (take e.base cs ++ (fs ++ drop e.start cs)) ≡ record (contents x xs cs) { frames = set_depth (all_frames (x ∷ xs) cs) d fs }
  swapped x xs cs a q =
      let r = swaps (x ∷ xs) cs a q in
      let o : operands_from x (replaced e.base e.start fs cs) ≡ operands_from x cs = ap (first_or []) r.operands in
      let w : all_operands xs (take x.floor (replaced e.base e.start fs cs)) ≡ all_operands xs (take x.floor cs) = ap others r.operands in
      ap (λ os. let c : Contents = record { operands = os; waiting = all_operands xs (take x.floor (replaced e.base e.start fs cs)); frames = all_frames (x ∷ xs) (replaced e.base e.start fs cs) } in c) o
      ∙ (ap (λ ws. let c : Contents = record { operands = operands_from x cs; waiting = ws; frames = all_frames (x ∷ xs) (replaced e.base e.start fs cs) } in c) w
      ∙ ap (λ l. let c : Contents = record { operands = operands_from x cs; waiting = all_operands xs (take x.floor cs); frames = l } in c) r.frames)

  pub same_length : (cs : List Cell) → e.base ≤ e.start → e.start ≤ length cs → length (take e.base cs ++ (fs ++ drop e.start cs)) ≡ length cs
  same_length cs l h =
      let k : length (take e.base cs) ≡ e.base = length-take-le e.base cs (omega arith) in
      omega (arith, length-append (take e.base cs) (fs ++ drop e.start cs), length-append fs (drop e.start cs), length-drop e.start cs, k, n)

-- a frame that is changed as a whole

length_of_frame : (e : Extent) (cs : List Cell) → e.start ≤ length cs → length (frame_of e cs) ≡ e.start - e.base
length_of_frame e cs h = length-drop e.base (take e.start cs) ∙ ap (λ n. n - e.base) (length-take-le e.start cs h)

written_length : (k : ℕ) (c : Cell) (fs : List Cell) → length (cell_written k c fs) ≡ length fs
written_length k c fs = length-set fs k (stored c (slice_index_or fs k nought))

cleared_length : (k n : ℕ) (fs : List Cell) → length (values_cleared k n nought fs) ≡ length fs
cleared_length k n fs =
    let m = length (take n (drop k fs)) in
    let t : length (take k fs ++ drop k fs) ≡ length fs = ap length (take-append-drop k fs) in
    let u : length (take n (drop k fs) ++ drop n (drop k fs)) ≡ length (drop k fs) = ap length (take-append-drop n (drop k fs)) in
    omega (arith, t, u, length-append (take k fs) (drop k fs), length-append (take n (drop k fs)) (drop n (drop k fs)), length-append (take k fs) (replicate m nought ++ drop n (drop k fs)), length-append (replicate m nought) (drop n (drop k fs)), length-replicate m nought)

set_none_by : (b : Bool) (f : List Cell) (fs : List (List Cell)) (d : ℕ) (g : List Cell) → (at_depth fs d ≡ None → set_depth fs d g ≡ fs) → (if b then Some f else at_depth fs d) ≡ None → (if b then g ∷ fs else f ∷ set_depth fs d g) ≡ f ∷ fs
set_none_by true f fs d g h q = absurd (none-some f (sym q))
set_none_by false f fs d g h q = ap (λ l. f ∷ l) (h q)

set_none : (fs : List (List Cell)) (d : ℕ) (g : List Cell) → at_depth fs d ≡ None → set_depth fs d g ≡ fs
set_none [] d g q = refl
set_none (f ∷ fs) d g q = set_none_by (nat_eq d (length fs)) f fs d g (λ r. set_none fs d g r) q

module _ (x : Extent) (xs : List Extent) (cs : List Cell) (a : Adjoin (x ∷ xs) (length cs)) (d : ℕ) where
  frame_swapped : (e : Extent) (g : List Cell → List Cell) → at_depth (x ∷ xs) d ≡ Some e → ((fs : List Cell) → length (g fs) ≡ length fs) → contents x xs (with_frame e (g (frame_of e cs)) cs) ≡ record (contents x xs cs) { frames = frame_changed d g (all_frames (x ∷ xs) cs) }
  frame_swapped e g q n =
      let w = within (x ∷ xs) (length cs) d e a q in
      let k : length (g (frame_of e cs)) ≡ e.start - e.base = n (frame_of e cs) ∙ length_of_frame e cs w.2 in
      let f : frame_of e cs ≡ list_in (at_depth (all_frames (x ∷ xs) cs) d) = ap list_in (sym (frame_at (x ∷ xs) cs d e a q)) in
      swapped d e (g (frame_of e cs)) k x xs cs a q ∙ ap (λ fs. let c : Contents = record (contents x xs cs) { frames = set_depth (all_frames (x ∷ xs) cs) d (g fs) } in c) f

  pub frame_written : (e : Extent) (k : ℕ) (c : Cell) → at_depth (x ∷ xs) d ≡ Some e → contents x xs (with_frame e (cell_written k c (frame_of e cs)) cs) ≡ record (contents x xs cs) { frames = frame_changed d (cell_written k c) (all_frames (x ∷ xs) cs) }
  frame_written e k c q = frame_swapped e (cell_written k c) q (written_length k c)

  pub frame_cleared : (e : Extent) (k n : ℕ) → at_depth (x ∷ xs) d ≡ Some e → contents x xs (with_frame e (values_cleared k n nought (frame_of e cs)) cs) ≡ record (contents x xs cs) { frames = frame_changed d (values_cleared k n nought) (all_frames (x ∷ xs) cs) }
  frame_cleared e k n q = frame_swapped e (values_cleared k n nought) q (cleared_length k n)

  pub frame_unchanged : (g : List Cell → List Cell) → at_depth (x ∷ xs) d ≡ None → contents x xs cs ≡ record (contents x xs cs) { frames = frame_changed d g (all_frames (x ∷ xs) cs) }
  frame_unchanged g q =
      ap (λ l. let c : Contents = record (contents x xs cs) { frames = l } in c) (sym (set_none (all_frames (x ∷ xs) cs) d (g (list_in (at_depth (all_frames (x ∷ xs) cs) d))) (no_frame (x ∷ xs) cs d q)))

-- one cell of a frame

module _ (e : Extent) (cs : List Cell) (l : e.base ≤ e.start) (h : e.start ≤ length cs) (k : ℕ) where
  pub cell_read : (v : Cell) → k < e.start - e.base → v ≡ get_or cs (e.base + k) v → v ≡ slice_index_or (frame_of e cs) k nought
  cell_read v b q =
      q ∙ get_or_default cs (e.base + k) v nought (omega arith) ∙ sym (get_or-drop e.base (take e.start cs) k nought ∙ get_or-take e.start cs (e.base + k) nought (omega arith))

  pub cell_past : e.start - e.base ≤ k → nought ≡ slice_index_or (frame_of e cs) k nought
  cell_past b = sym (get_or_past (frame_of e cs) k nought (omega (arith, length_of_frame e cs h)))

  as_parts : cs ≡ with_frame e (frame_of e cs) cs
  as_parts =
      let t : take e.base (take e.start cs) ≡ take e.base cs = take-take e.base e.start cs l in
      let u : take e.base cs ++ frame_of e cs ≡ take e.start cs = ap (λ ys. ys ++ frame_of e cs) (sym t) ∙ take-append-drop e.base (take e.start cs) in
      sym (take-append-drop e.start cs) ∙ ap (λ ys. ys ++ drop e.start cs) (sym u) ∙ append_assoc (take e.base cs) (frame_of e cs) (drop e.start cs)

  set_within : (w : Cell) → k < e.start - e.base → slice_set cs (e.base + k) w ≡ with_frame e (slice_set (frame_of e cs) k w) cs
  set_within w b =
      let n : length (take e.base cs) ≡ e.base = length-take-le e.base cs (omega arith) in
      let j : e.base + k - e.base ≡ k = omega arith in
      let m : k < length (frame_of e cs) = omega (arith, length_of_frame e cs h) in
      ap (λ ys. slice_set ys (e.base + k) w) as_parts
      ∙ set-append_right (take e.base cs) (frame_of e cs ++ drop e.start cs) e.base (e.base + k) w n (omega arith)
      ∙ ap (λ i. take e.base cs ++ slice_set (frame_of e cs ++ drop e.start cs) i w) j
      ∙ ap (λ ys. take e.base cs ++ ys) (set-append_left (frame_of e cs) (drop e.start cs) k w m)

  pub cell_put : (c v : Cell) → k < e.start - e.base → v ≡ get_or cs (e.base + k) v → slice_set cs (e.base + k) (stored c v) ≡ with_frame e (cell_written k c (frame_of e cs)) cs
  cell_put c v b q = set_within (stored c v) b ∙ ap (λ u. with_frame e (slice_set (frame_of e cs) k (stored c u)) cs) (cell_read v b q)

  pub cell_not_put : (c : Cell) → e.start - e.base ≤ k → cs ≡ with_frame e (cell_written k c (frame_of e cs)) cs
  cell_not_put c b =
      as_parts ∙ ap (λ ys. with_frame e ys cs) (sym (set_past (frame_of e cs) k (stored c (slice_index_or (frame_of e cs) k nought)) (omega (arith, length_of_frame e cs h))))

  -- the cells of a part of a list that is cleared
  pub cleared_within : (ds zs : List Cell) (m f n : ℕ) → ds ≡ cs → zs ≡ values_cleared f n nought (take (e.start - e.base) (drop e.base ds)) → m ≡ length cs → take m ((take e.base ds ++ (zs ++ drop (e.start - e.base) (drop e.base ds))) ++ drop (length (take e.base ds ++ (zs ++ drop (e.start - e.base) (drop e.base ds)))) cs) ≡ with_frame e (values_cleared f n nought (frame_of e cs)) cs
  cleared_within ds zs m f n q z i =
      let k : e.base + (e.start - e.base) ≡ e.start = omega arith in
      let p : drop (e.start - e.base) (drop e.base cs) ≡ drop e.start cs = drop-drop (e.start - e.base) e.base cs ∙ ap (λ j. drop j cs) k in
      let b : take (e.start - e.base) (drop e.base ds) ≡ frame_of e cs = ap (λ l. take (e.start - e.base) (drop e.base l)) q ∙ sym (between cs e.base e.start l) in
      let y : zs ≡ values_cleared f n nought (frame_of e cs) = z ∙ ap (values_cleared f n nought) b in
      let w : take e.base ds ++ (zs ++ drop (e.start - e.base) (drop e.base ds)) ≡ with_frame e (values_cleared f n nought (frame_of e cs)) cs =
      ap (λ l. take e.base l ++ (zs ++ drop (e.start - e.base) (drop e.base l))) q ∙ ap (λ l. take e.base cs ++ (zs ++ l)) p ∙ ap (λ ys. with_frame e ys cs) y in
      let ws : List Cell = with_frame e (values_cleared f n nought (frame_of e cs)) cs in
      let s : length ws ≡ length cs = same_length 0 e (values_cleared f n nought (frame_of e cs)) (cleared_length f n (frame_of e cs) ∙ length_of_frame e cs h) cs l h in
      ap (λ l. take m (l ++ drop (length l) cs)) w ∙ ap (λ j. take j (ws ++ drop (length ws) cs)) (i ∙ sym s) ∙ take-append_seam ws (drop (length ws) cs)
