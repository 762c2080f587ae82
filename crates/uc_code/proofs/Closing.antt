-- A row is opened or closed: what stands before keeps its handlers, and the clean-ups that are set stay.
use Rattle.std.proofs.Common.{◌≡◌, ℕ, zero, suc, ◌<◌, ◌≤◌, List, [], ◌∷◌, ◌++◌, length, reverse, drop, true, Option, Some, refl, ap, sym, subst, ◌∙◌, arith, ◌⊎◌, inl, inr}
use Rattle.std.specs.Prelude.{slice_get}
use Rattle.std.proofs.lemmas.Bool.{le-leb}
use Rattle.std.proofs.lemmas.List.{reverse-append, reverse-reverse, length-reverse}
use Rattle.uc_code.specs.declared.rows.HandlerRow.{HandlerRow}
use Rattle.uc_code.specs.declared.rows.RowKind.TheVariants as kind
use Rattle.uc_code.specs.declared.rows.TheConstants.{ANY_EVENT, OPEN_END}
use Rattle.uc_code.specs.declared.rows.CodeMark.{CodeMark}
use Rattle.uc_code.specs.declared.rows.Opening.{Opening}
use Rattle.uc_code.specs.declared.rows.Opening.TheVariants as opening
use Rattle.uc_code.specs.Layout.{covers, takes_events, from_row, from_newest}
use Rattle.uc_code.specs.OpenRows.{row_in, handler_in, guard_in, opening_mark, opening_kind, made, Nested, Bare, Ended, InBody, InLoop, InRow, IsEnded, AreEnded, IsSettled, closed_row, closed_rows}
use Rattle.uc_code.proofs.Nesting.{nested_rise, older_named}

pub reverse_cons : {X : Type 0} → (x : X) (xs : List X) → reverse (x ∷ xs) ≡ reverse xs ++ x ∷ []
reverse_cons x xs = reverse-append (x ∷ []) xs

pub reverse_push : {X : Type 0} → (xs : List X) (x : X) → reverse (xs ++ x ∷ []) ≡ x ∷ reverse xs
reverse_push xs x = reverse-append xs (x ∷ [])

front_of : {X : Type 0} → (xs ys : List X) (i : ℕ) (x : X) → slice_get xs i ≡ Some x → slice_get (xs ++ ys) i ≡ Some x
front_of [] ys i x e = cc
front_of (y ∷ xs) ys zero x e = e
front_of (y ∷ xs) ys (suc i) x e = front_of xs ys i x e

seam_of : {X : Type 0} → (xs ys : List X) (x : X) → slice_get (xs ++ x ∷ ys) (length xs) ≡ Some x
seam_of [] ys x = refl
seam_of (y ∷ xs) ys x = seam_of xs ys x

-- the newest row in the list of all: there it stands last
last_of : (r : HandlerRow) (rs : List HandlerRow) → slice_get (reverse (r ∷ rs)) (length rs) ≡ Some r
last_of r rs =
    let e : length (reverse rs) ≡ length rs = length-reverse rs in
    ap (λ l. slice_get l (length rs)) (reverse_cons r rs) ∙ (ap (λ n. slice_get (reverse rs ++ r ∷ []) n) (sym e) ∙ seam_of (reverse rs) [] r)

older_of : (s r : HandlerRow) (rs : List HandlerRow) (k : ℕ) → slice_get (reverse rs) k ≡ Some r → slice_get (reverse (s ∷ rs)) k ≡ Some r
older_of s r rs k e = ap (λ l. slice_get l k) (reverse_cons s rs) ∙ front_of (reverse rs) (s ∷ []) k r e

-- the row of a clean-up
pub record IsCleanUp (r : HandlerRow) : Type 0 where
  pub kind : r.kind ≡ kind.CleanUp
  pub event : r.event ≡ ANY_EVENT
  pub rest : r.rest ≡ 0

module _ (here entry : ℕ) where
  -- of rows, the newest first, the one of this number is closed
  pub data Closes : List HandlerRow → List HandlerRow → ℕ → Type 0 where
    Top : (r : HandlerRow) (rs : List HandlerRow) → r.to ≡ OPEN_END → Closes (r ∷ rs) (closed_row here entry r ∷ rs) (length rs)
    Later : (s : HandlerRow) (rs qs : List HandlerRow) (k : ℕ) → Closes rs qs k → Closes (s ∷ rs) (s ∷ qs) k

  closes_low : (rs qs : List HandlerRow) (k : ℕ) → Closes rs qs k → k < length rs
  closes_low rs qs k (Top r ps _) = omega arith
  closes_low rs qs k (Later s ps os _ c) = let l = closes_low ps os k c in omega arith

  closed_seam : (xs ys : List HandlerRow) (r : HandlerRow) → closed_rows here entry (length xs) (xs ++ r ∷ ys) ≡ xs ++ closed_row here entry r ∷ ys
  closed_seam [] ys r = refl
  closed_seam (x ∷ xs) ys r = ap (λ l. x ∷ l) (closed_seam xs ys r)

  closed_front : (xs ys : List HandlerRow) (k : ℕ) → k < length xs → closed_rows here entry k (xs ++ ys) ≡ closed_rows here entry k xs ++ ys
  closed_front [] ys k h = absurd (omega arith)
  closed_front (x ∷ xs) ys zero h = refl
  closed_front (x ∷ xs) ys (suc k) h = ap (λ l. x ∷ l) (closed_front xs ys k (omega arith))

  pub closes_list : (rs qs : List HandlerRow) (k : ℕ) → Closes rs qs k → closed_rows here entry k (reverse rs) ≡ reverse qs
  closes_list rs qs k (Top r ps _) =
      let e : length (reverse ps) ≡ length ps = length-reverse ps in
      ap (λ l. closed_rows here entry (length ps) l) (reverse_cons r ps) ∙ (ap (λ n. closed_rows here entry n (reverse ps ++ r ∷ [])) (sym e) ∙ (closed_seam (reverse ps) [] r ∙ sym (reverse_cons (closed_row here entry r) ps)))
  closes_list rs qs k (Later s ps os _ c) =
      let e : length (reverse ps) ≡ length ps = length-reverse ps in
      let l = closes_low ps os k c in
      ap (λ l. closed_rows here entry k l) (reverse_cons s ps) ∙ (closed_front (reverse ps) (s ∷ []) k (omega arith) ∙ (ap (λ l. l ++ s ∷ []) (closes_list ps os k c) ∙ sym (reverse_cons s os)))

  closes_length : (rs qs : List HandlerRow) (k : ℕ) → Closes rs qs k → length qs ≡ length rs
  closes_length rs qs k (Top r ps _) = refl
  closes_length rs qs k (Later s ps os _ c) = ap suc (closes_length ps os k c)

  closes_row : (rs qs : List HandlerRow) (k n : ℕ) → Closes rs qs k → from_row qs n ≡ from_row rs n
  closes_row rs qs k n (Top r ps _) = refl
  closes_row rs qs k n (Later s ps os _ c) =
      let e : length os ≡ length ps = closes_length ps os k c in
      rw (e, closes_row ps os k s.outer c, closes_row ps os k n c) refl

  covers_closed : (r : HandlerRow) (next : ℕ) → next ≤ here → here ≤ OPEN_END → r.to ≡ OPEN_END → covers (closed_row here entry r) next ≡ covers r next
  covers_closed r next h g e = let m : next ≤ r.to = omega arith in rw (le-leb next here h, le-leb next r.to m) refl

  -- what stands before keeps its handlers
  pub closes_newest : (rs qs : List HandlerRow) (k next : ℕ) → Closes rs qs k → next ≤ here → here ≤ OPEN_END → from_newest qs next ≡ from_newest rs next
  closes_newest rs qs k next (Top r ps f) h g = let c = covers_closed r next h g f in rw c refl
  closes_newest rs qs k next (Later s ps os _ c) h g =
      let e : length os ≡ length ps = closes_length ps os k c in
      rw (e, closes_row ps os k s.outer c, closes_newest ps os k next c h g) refl

  -- the row of the innermost mark is closed, and the mark is left
  pub record Leaves (rs : List HandlerRow) (ms : List CodeMark) (k : ℕ) : Type 0 where
    pub rows : List HandlerRow
    pub row : HandlerRow
    pub closes : Closes rs rows k
    pub nested : Nested here rows (drop 1 ms)
    pub there : slice_get (reverse rs) k ≡ Some row
    pub bare : row.entry ≡ 0
    pub lasts : row.to ≡ OPEN_END
    pub clean : handler_in ms ≡ Some k → IsCleanUp row
    pub guard : guard_in ms ≡ Some k → takes_events row.kind ≡ true

  some_is : (a b : ℕ) → (let o : Option ℕ = Some a in o ≡ Some b) → a ≡ b
  some_is a b e = cc

  row_is : (o : Opening) (n k : ℕ) (ms : List CodeMark) → row_in (opening_mark o n ∷ ms) ≡ Some k → n ≡ k
  row_is (opening.Main main routine line) n k ms e = some_is n k e
  row_is (opening.Whole leave) n k ms e = some_is n k e
  row_is opening.Handler n k ms e = some_is n k e
  row_is (opening.Object what line) n k ms e = some_is n k e
  row_is opening.Part n k ms e = some_is n k e
  row_is opening.Elements n k ms e = some_is n k e
  row_is (opening.Outward below) n k ms e = some_is n k e

  clean_is : (o : Opening) (from n k : ℕ) (ms ns : List CodeMark) → handler_in (opening_mark o n ∷ ms) ≡ Some k → IsCleanUp (made o from ns)
  clean_is (opening.Main main routine line) from n k ms ns e = record { kind = refl; event = refl; rest = refl }
  clean_is (opening.Whole leave) from n k ms ns e = record { kind = refl; event = refl; rest = refl }
  clean_is opening.Handler from n k ms ns e = absurd (cc)
  clean_is (opening.Object what line) from n k ms ns e = record { kind = refl; event = refl; rest = refl }
  clean_is opening.Part from n k ms ns e = record { kind = refl; event = refl; rest = refl }
  clean_is opening.Elements from n k ms ns e = record { kind = refl; event = refl; rest = refl }
  clean_is (opening.Outward below) from n k ms ns e = absurd (cc)

  guard_is : (o : Opening) (n k : ℕ) (ms : List CodeMark) → guard_in (opening_mark o n ∷ ms) ≡ Some k → takes_events (opening_kind o) ≡ true
  guard_is (opening.Main main routine line) n k ms e = absurd (cc)
  guard_is (opening.Whole leave) n k ms e = absurd (cc)
  guard_is opening.Handler n k ms e = refl
  guard_is (opening.Object what line) n k ms e = absurd (cc)
  guard_is opening.Part n k ms e = absurd (cc)
  guard_is opening.Elements n k ms e = absurd (cc)
  guard_is (opening.Outward below) n k ms e = absurd (cc)

  pub leaves : (at : ℕ) (rs : List HandlerRow) (ms : List CodeMark) (k : ℕ) → at ≤ here → Nested at rs ms → row_in ms ≡ Some k → Leaves rs ms k
  leaves at rs ms k g Bare e = absurd (cc)
  leaves at rs ms k g (Ended r qs _ l n) e =
      let f = leaves at qs ms k g n e in
      let w = l.within in
      let o = l.outer in
      let len : length f.rows ≡ length qs = closes_length qs f.rows k f.closes in
      record {
        rows = r ∷ f.rows;
        row = f.row;
        closes = Later r qs f.rows k f.closes;
        nested = Ended r f.rows (drop 1 ms) (record { within = omega arith; range = l.range; outer = omega arith }) f.nested;
        there = older_of r f.row qs k f.there;
        bare = f.bare;
        lasts = f.lasts;
        clean = f.clean;
        guard = f.guard;
      }
  leaves at rs ms k g (InBody routine _ qs n) e = absurd (cc)
  leaves at rs ms k g (InLoop leave again _ qs n) e = absurd (cc)
  leaves at rs ms k g (InRow o from qs ns l n) e =
      let q : length qs ≡ k = row_is o (length qs) k ns e in
      let r : HandlerRow = made o from ns in
      record {
        rows = closed_row here entry r ∷ qs;
        row = r;
        closes = subst (λ m. Closes (r ∷ qs) (closed_row here entry r ∷ qs) m) q (Top r qs refl);
        nested = Ended (closed_row here entry r) qs ns (record { within = omega arith; range = omega arith; outer = older_named at o qs ns n }) (nested_rise at here g qs ns n);
        there = subst (λ m. slice_get (reverse (r ∷ qs)) m ≡ Some r) q (last_of r qs);
        bare = refl;
        lasts = refl;
        clean = λ h. clean_is o from (length qs) k ns ns h;
        guard = λ h. guard_is o (length qs) k ns h;
      }

-- where there is no mark, all rows have ended

record Last (xs : List HandlerRow) (x : HandlerRow) (n : ℕ) (y : HandlerRow) : Type 0 where
  pub number : n ≡ length xs
  pub is : x ≡ y

seen_at : (xs : List HandlerRow) (x : HandlerRow) (n : ℕ) (y : HandlerRow) → slice_get (xs ++ x ∷ []) n ≡ Some y → (slice_get xs n ≡ Some y) ⊎ Last xs x n y
seen_at [] x zero y e = inr (record { number = refl; is = cc })
seen_at [] x (suc n) y e = absurd (cc)
seen_at (z ∷ xs) x zero y e = inl e
seen_at (z ∷ xs) x (suc n) y e = elim (seen_at xs x n y e) [
  | inl f ↦ inl f
  | inr l ↦ inr (record { number = ap suc l.number; is = l.is })
]

no_row : (n : ℕ) (r : HandlerRow) → slice_get (reverse []) n ≡ Some r → ⊥
no_row zero r e = absurd (cc)
no_row (suc n) r e = absurd (cc)

mark_there : (o : Opening) (n : ℕ) (ms : List CodeMark) → opening_mark o n ∷ ms ≡ [] → ⊥
mark_there o n ms e = cc

rows_end : (here there : ℕ) (rs : List HandlerRow) (ms : List CodeMark) → here ≤ there → ms ≡ [] → Nested here rs ms → (n : ℕ) (r : HandlerRow) → slice_get (reverse rs) n ≡ Some r → IsEnded there n r
rows_end here there rs ms l f Bare n r e = absurd (no_row n r e)
rows_end here there rs ms l f (Ended q qs _ w k) n r e = elim (seen_at (reverse qs) q n r (ap (λ x. slice_get x n) (sym (reverse_cons q qs)) ∙ e)) [
  | inl g ↦ rows_end here there qs ms l f k n r g
  | inr a ↦
      let m : length (reverse qs) ≡ length qs = length-reverse qs in
      let i = w.within in
      let o = w.outer in
      let b = a.number in
      let c : IsEnded there n q = record { within = omega arith; range = w.range; outer = omega arith } in
      subst (IsEnded there n) a.is c
]
rows_end here there rs ms l f (InBody routine _ qs k) n r e = absurd (cc)
rows_end here there rs ms l f (InLoop leave again _ qs k) n r e = absurd (cc)
rows_end here there rs ms l f (InRow o from qs ns g k) n r e = absurd (mark_there o (length qs) ns f)

pub all_ended : (ops settled : ℕ) (rows : List HandlerRow) (ms : List CodeMark) → IsSettled ops settled rows ms → ms ≡ [] → AreEnded ops rows
all_ended ops settled rows ms s e = record {
  each = λ n r g. rows_end settled ops (reverse rows) ms s.past e s.nested n r (ap (λ l. slice_get l n) (reverse-reverse rows) ∙ g);
}
