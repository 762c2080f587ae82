-- Rows by their numbers, and those outwards of them.
use Rattle.std.proofs.Common.{◌≡◌, ℕ, zero, suc, ◌+◌, ◌-◌, ◌<◌, ◌≤◌, List, [], ◌∷◌, ◌++◌, length, take, drop, reverse, Bool, true, false, Option, Some, None, refl, sym, ap, subst, ◌∙◌, arith, get_or, inl, inr}
use Rattle.std.specs.Prelude.{nat_eq, nat_le, ◌&&◌, if◌then◌else◌, slice_get}
use Rattle.std.proofs.lemmas.Bool.{eq-eqb, ne_eqb, eqb-true, le-leb, leb-true, cases_lt}
use Rattle.std.proofs.lemmas.List.{reverse-append, length-append, length-reverse, length-take-le, take-append-drop, take_more, reverse-reverse}
use Rattle.std.proofs.lemmas.Option.{slice_get_read}
use Rattle.uc_code.specs.declared.rows.HandlerRow.{HandlerRow}
use Rattle.uc_code.specs.declared.rows.RowKind.TheVariants as kind
use Rattle.uc_code.specs.Layout.{covers, counted_by, from_row, from_newest, chain}
use Rattle.uc_code.specs.RowTable.{name_or, covering_from}
use Rattle.uc_frames.specs.declared.search.HandlerQuery.{HandlerQuery}
use Rattle.uc_frames.specs.Searches.{is_found, is_sought, first_in, behind_row, within, counted, own_row, named, last_of, IsCovered, IsHandler, IsSoughtAt}

not_same : (n k : ℕ) → n ≤ k → nat_eq n (suc k) ≡ false
not_same n k l = let d : n ≡ suc k → ⊥ = λ e. omega arith in ne_eqb n (suc k) d

-- newer rows are passed over
newer_named : (ys zs : List HandlerRow) (n : ℕ) → n ≤ length zs → from_row (ys ++ zs) n ≡ from_row zs n
newer_named [] zs n l = refl
newer_named (y ∷ ys) zs n l =
    let k : length (ys ++ zs) ≡ length ys + length zs = length-append ys zs in
    let e : nat_eq n (suc (length (ys ++ zs))) ≡ false = not_same n (length (ys ++ zs)) (omega arith) in
    rw e (newer_named ys zs n l)

-- what names no row
none_named : (zs : List HandlerRow) (n : ℕ) → length zs < n → from_row zs n ≡ []
none_named [] n l = refl
none_named (z ∷ zs) n l =
    let d : n ≡ suc (length zs) → ⊥ = λ e. omega arith in
    let e : nat_eq n (suc (length zs)) ≡ false = ne_eqb n (suc (length zs)) d in
    rw e (none_named zs n (omega arith))

pub zero_named : (zs : List HandlerRow) → from_row zs 0 ≡ []
zero_named [] = refl
zero_named (z ∷ zs) = let e : nat_eq 0 (suc (length zs)) ≡ false = not_same 0 (length zs) (omega arith) in rw e (zero_named zs)

same_read : {X : Type 0} (xs : List X) (i : ℕ) (d v : X) → i < length xs → v ≡ get_or xs i d → v ≡ get_or xs i v
same_read [] i d v l e = absurd (omega arith)
same_read (x ∷ xs) zero d v l e = e
same_read (x ∷ xs) (suc i) d v l e = same_read xs i d v (omega arith) e

module _ (rows : List HandlerRow) where
  short : (i : ℕ) → i ≤ length rows → length (reverse (take i rows)) ≡ i
  short i l = length-reverse (take i rows) ∙ length-take-le i rows l

  halves : (i : ℕ) → reverse rows ≡ reverse (drop i rows) ++ reverse (take i rows)
  halves i = ap reverse (sym (take-append-drop i rows)) ∙ reverse-append (take i rows) (drop i rows)

  named_old : (i n : ℕ) → n ≤ i → i ≤ length rows → named rows n ≡ from_row (reverse (take i rows)) n
  named_old i n l k =
      let s : length (reverse (take i rows)) ≡ i = short i k in
      ap (λ rs. from_row rs n) (halves i) ∙ newer_named (reverse (drop i rows)) (reverse (take i rows)) n (omega arith)

  -- a row, by its number plus 1
  module _ (at : ℕ) (d : HandlerRow) (p : 0 < at) (l : at ≤ length rows) where
    abbrev row : HandlerRow
    row = get_or rows (at - 1) d

    abbrev older : List HandlerRow
    older = reverse (take (at - 1) rows)

    older_count : length older ≡ at - 1
    older_count = short (at - 1) (omega arith)

    newest : reverse (take at rows) ≡ row ∷ older
    newest =
        let a : at ≡ (at - 1) + 1 = omega arith in
        ap (λ n. reverse (take n rows)) a ∙ (ap reverse (take_more rows (at - 1) d (omega arith)) ∙ reverse-append (take (at - 1) rows) (row ∷ []))

    pub row_there : slice_get rows (at - 1) ≡ Some row
    row_there = slice_get_read rows (length rows) (at - 1) row refl (omega arith) (same_read rows (at - 1) d row (omega arith) refl)

    named_at : named rows at ≡ counted_by row.kind row.event (at - 1) ++ from_row older row.outer
    named_at =
        let q : nat_eq at (suc (length older)) ≡ true = eq-eqb at (suc (length older)) (omega (arith, older_count)) in
        named_old at at (omega arith) l ∙ (ap (λ rs. from_row rs at) newest ∙ (rw q refl ∙ ap (λ n. counted_by row.kind row.event n ++ from_row older row.outer) older_count))

    own_is : own_row rows (at - 1) ≡ counted_by row.kind row.event (at - 1)
    own_is = ap (λ o. counted o (at - 1)) row_there

    outer_is : (n : ℕ) → from_row older row.outer ≡ named rows n → named rows at ≡ own_row rows (at - 1) ++ named rows n
    outer_is n q = named_at ∙ (ap (λ ns. counted_by row.kind row.event (at - 1) ++ ns) q ∙ ap (λ ns. ns ++ named rows n) (sym own_is))

    pub outer_near : row.outer < at → named rows at ≡ own_row rows (at - 1) ++ named rows row.outer
    outer_near k = outer_is row.outer (sym (named_old (at - 1) row.outer (omega arith) (omega arith)))

    pub outer_far : at ≤ row.outer → named rows at ≡ own_row rows (at - 1) ++ named rows 0
    outer_far k = outer_is 0 (none_named older row.outer (omega (arith, older_count)) ∙ sym (zero_named (reverse rows)))

    -- rows that a search sees
    pub is_handler : counted_by row.kind row.event (at - 1) ≡ (at - 1) ∷ [] → IsHandler rows (at - 1) row
    is_handler q = record { own = own_is ∙ q; is = row_there }

    pub no_handler : counted_by row.kind row.event (at - 1) ≡ [] → own_row rows (at - 1) ≡ []
    no_handler q = own_is ∙ q

-- searches

found_by : (b : Bool) (x n : ℕ) (o p : Option ℕ) → (o ≡ Some n → p ≡ Some n) → (if b then Some x else o) ≡ Some n → (if b then Some x else p) ≡ Some n
found_by true x n o p f e = e
found_by false x n o p f e = f e

beyond_by : (b : Bool) (x : ℕ) (o p q : Option ℕ) → (o ≡ None → p ≡ q) → (if b then Some x else o) ≡ None → (if b then Some x else p) ≡ q
beyond_by true x o p q f e = absurd (cc)
beyond_by false x o p q f e = f e

module _ (w : HandlerQuery) (rows : List HandlerRow) where
  first_found : (xs ys : List ℕ) (n : ℕ) → first_in w rows xs ≡ Some n → first_in w rows (xs ++ ys) ≡ Some n
  first_found [] ys n e = absurd (cc)
  first_found (x ∷ xs) ys n e = found_by (is_found w x (slice_get rows x)) x n (first_in w rows xs) (first_in w rows (xs ++ ys)) (first_found xs ys n) e

  first_beyond : (xs ys : List ℕ) → first_in w rows xs ≡ None → first_in w rows (xs ++ ys) ≡ first_in w rows ys
  first_beyond [] ys e = refl
  first_beyond (x ∷ xs) ys e = beyond_by (is_found w x (slice_get rows x)) x (first_in w rows xs) (first_in w rows (xs ++ ys)) (first_in w rows ys) (first_beyond xs ys) e

  pub no_row_sought : (n : ℕ) → own_row rows n ≡ [] → IsSoughtAt w rows n false
  no_row_sought n e = record { found = λ f. absurd (cc); passed = λ f. ap (first_in w rows) e }

  pub row_sought : (n : ℕ) (row : HandlerRow) (b : Bool) → IsHandler rows n row → b ≡ is_sought w n row → IsSoughtAt w rows n b
  row_sought n _ b h e =
      let f : is_found w n (slice_get rows n) ≡ b = ap (is_found w n) h.is ∙ sym e in
      let g : first_in w rows (own_row rows n) ≡ (if b then Some n else None) = ap (first_in w rows) h.own ∙ ap (λ c. if c then Some n else None) f in
      record { found = λ t. g ∙ ap (λ c. if c then Some n else None) t; passed = λ t. g ∙ ap (λ c. if c then Some n else None) t }

  pub sought_here : (at outer : ℕ) (b : Bool) → IsSoughtAt w rows (at - 1) b → b ≡ true → named rows at ≡ own_row rows (at - 1) ++ named rows outer → first_in w rows (named rows at) ≡ Some (at - 1)
  sought_here at outer b s t q = ap (first_in w rows) q ∙ first_found (own_row rows (at - 1)) (named rows outer) (at - 1) (s.found t)

  pub sought_on : (at outer : ℕ) (b : Bool) → IsSoughtAt w rows (at - 1) b → b ≡ false → named rows at ≡ own_row rows (at - 1) ++ named rows outer → first_in w rows (named rows at) ≡ first_in w rows (named rows outer)
  sought_on at outer b s t q = ap (first_in w rows) q ∙ first_beyond (own_row rows (at - 1)) (named rows outer) (s.passed t)

-- the loops

-- the newest row that covers an op, of rows of which the newest stands first
abbrev newest_of : List HandlerRow → ℕ → ℕ
newest_of [] next = 0
newest_of (r ∷ rs) next = if covers r next then suc (length rs) else newest_of rs next

newest_small_by : (b : Bool) (n m : ℕ) → m ≤ n → (if b then suc n else m) ≤ suc n
newest_small_by true n m l = omega arith
newest_small_by false n m l = omega arith

newest_small : (rs : List HandlerRow) (next : ℕ) → newest_of rs next ≤ length rs
newest_small [] next = omega arith
newest_small (r ∷ rs) next = newest_small_by (covers r next) (length rs) (newest_of rs next) (newest_small rs next)

named_newest_by : (b : Bool) (r : HandlerRow) (rs : List HandlerRow) (next : ℕ) → covers r next ≡ b → from_row rs (newest_of rs next) ≡ from_newest rs next → from_row (r ∷ rs) (if b then suc (length rs) else newest_of rs next) ≡ (if b then counted_by r.kind r.event (length rs) ++ from_row rs r.outer else from_newest rs next)
named_newest_by true r rs next q ih = let t : nat_eq (suc (length rs)) (suc (length rs)) ≡ true = eq-eqb (suc (length rs)) (suc (length rs)) refl in rw t refl
named_newest_by false r rs next q ih = let t : nat_eq (newest_of rs next) (suc (length rs)) ≡ false = not_same (newest_of rs next) (length rs) (newest_small rs next) in rw t ih

named_newest : (rs : List HandlerRow) (next : ℕ) → from_row rs (newest_of rs next) ≡ from_newest rs next
named_newest [] next = refl
named_newest (r ∷ rs) next = named_newest_by (covers r next) r rs next refl (named_newest rs next)

covering_snoc_by : (b : Bool) (n m own : ℕ) → 0 < n → name_or (if b then n else m) own ≡ (if b then n else name_or m own)
covering_snoc_by true n m own l = let d : n ≡ 0 → ⊥ = λ e. omega arith in let f : nat_eq n 0 ≡ false = ne_eqb n 0 d in rw f refl
covering_snoc_by false n m own l = refl

covering_snoc : (k : ℕ) (xs : List HandlerRow) (r : HandlerRow) (p : ℕ) → covering_from k (xs ++ r ∷ []) p ≡ (if covers r p then k + length xs + 1 else covering_from k xs p)
covering_snoc k [] r p = let e : k + 0 + 1 ≡ k + 1 = omega arith in rw e refl
covering_snoc k (x ∷ xs) r p =
    let e : (k + 1) + length xs + 1 ≡ k + suc (length xs) + 1 = omega arith in
    ap (λ n. name_or n (if covers x p then k + 1 else 0)) (covering_snoc (k + 1) xs r p)
    ∙ (covering_snoc_by (covers r p) ((k + 1) + length xs + 1) (covering_from (k + 1) xs p) (if covers x p then k + 1 else 0) (omega arith)
    ∙ ap (λ n. if covers r p then n else name_or (covering_from (k + 1) xs p) (if covers x p then k + 1 else 0)) e)

newest_is : (rs : List HandlerRow) (p : ℕ) → newest_of rs p ≡ covering_from 0 (reverse rs) p
newest_is [] p = refl
newest_is (r ∷ rs) p =
    let n : length (reverse rs) ≡ length rs = length-reverse rs in
    let e : suc (length rs) ≡ 0 + length (reverse rs) + 1 = omega arith in
    let v : reverse (r ∷ rs) ≡ reverse rs ++ r ∷ [] = reverse-append (r ∷ []) rs in
    ap (λ n. if covers r p then n else newest_of rs p) e
    ∙ (ap (λ n. if covers r p then 0 + length (reverse rs) + 1 else n) (newest_is rs p)
    ∙ (sym (covering_snoc 0 (reverse rs) r p) ∙ ap (λ xs. covering_from 0 xs p) (sym v)))

-- where one is told that covers an op, a row does

name_none : (n : ℕ) → name_or n 0 ≡ n
name_none zero = refl
name_none (suc n) = let d : suc n ≡ 0 → ⊥ = λ e. omega arith in let f : nat_eq (suc n) 0 ≡ false = ne_eqb (suc n) 0 d in rw f refl

covered_by : (b : Bool) (n k : ℕ) (r : HandlerRow) (rs : List HandlerRow) (p : ℕ) → covers r p ≡ b → (0 < n → IsCovered rs p) → 0 < name_or n (if b then k else 0) → IsCovered (r ∷ rs) p
covered_by true n k r rs p q ih l = record { number = 0; row = r; there = refl; covers = q }
covered_by false n k r rs p q ih l =
    let h : IsCovered rs p = ih (subst (λ m. 0 < m) (name_none n) l) in
    record { number = suc h.number; row = h.row; there = h.there; covers = h.covers }

pub covered : (k : ℕ) (rows : List HandlerRow) (p : ℕ) → 0 < covering_from k rows p → IsCovered rows p
covered k [] p l = absurd (omega arith)
covered k (r ∷ rs) p l = covered_by (covers r p) (covering_from (k + 1) rs p) (k + 1) r rs p refl (covered (k + 1) rs p) l

module _ (rows : List HandlerRow) (p : ℕ) where
  newest_rows : newest_of (reverse rows) p ≡ covering_from 0 rows p
  newest_rows = newest_is (reverse rows) p ∙ ap (λ xs. covering_from 0 xs p) (reverse-reverse rows)

  -- the row that covers an op, and those outwards of it, are its handlers
  pub covering_named : named rows (covering_from 0 rows p) ≡ chain rows p
  covering_named = ap (named rows) (sym newest_rows) ∙ named_newest (reverse rows) p

  pub covering_small : covering_from 0 rows p ≤ length rows
  covering_small = let n : length (reverse rows) ≡ length rows = length-reverse rows in let s = newest_small (reverse rows) p in let e = newest_rows in omega arith

both_true : (a n k : ℕ) → a ≡ n → n ≤ k → (nat_eq a n && nat_le n k) ≡ true
both_true a n k e l =
    let p : nat_eq a n ≡ true = eq-eqb a n e in
    let q : nat_le n k ≡ true = le-leb n k l in
    rw (p, q) refl

not_both_by : (b c : Bool) (a n k : ℕ) → nat_eq a n ≡ b → nat_le n k ≡ c → (a ≡ n → n ≤ k → ⊥) → (b && c) ≡ false
not_both_by false c a n k e f d = refl
not_both_by true false a n k e f d = refl
not_both_by true true a n k e f d = absurd (d (eqb-true a n e) (leb-true n k f))

pub not_both : (a n k : ℕ) → (a ≡ n → n ≤ k → ⊥) → (nat_eq a n && nat_le n k) ≡ false
not_both a n k d = not_both_by (nat_eq a n) (nat_le n k) a n k refl refl d

-- what is left of a search within so many rows
pub record Within (rows : List HandlerRow) (n number at count round : ℕ) : Type 0 where
  pub near : at ≤ length rows
  pub many : count ≡ length (named rows at)
  pub same : within rows n round (named rows at) ≡ last_of rows n (named rows number)

pub within_first : (rows : List HandlerRow) (n number count : ℕ) → number ≤ length rows → count ≡ length (named rows number) → Within rows n number number count count
within_first rows n number count l e = record { near = l; many = e; same = ap (λ k. within rows n k (named rows number)) e }

module _ (rows : List HandlerRow) (n number at count round outer : ℕ) (h : Within rows n number at count round) (l : outer < at) (q : named rows at ≡ own_row rows (at - 1) ++ named rows outer) where
  pub within_past : own_row rows (at - 1) ≡ [] → Within rows n number outer count round
  within_past e =
      let f : named rows at ≡ named rows outer = q ∙ ap (λ ns. ns ++ named rows outer) e in
      record {
        near = let k = h.near in omega arith;
        many = h.many ∙ ap length f;
        same = sym (ap (within rows n round) f) ∙ h.same;
      }

  module _ (row : HandlerRow) (r : IsHandler rows (at - 1) row) where
    one_more : named rows at ≡ (at - 1) ∷ named rows outer
    one_more = q ∙ ap (λ ns. ns ++ named rows outer) r.own

    pub counted_more : count ≡ suc (length (named rows outer))
    counted_more = h.many ∙ ap length one_more

    step_by : (b : Bool) → (nat_eq (length (named rows at)) n && nat_le n round) ≡ b → within rows n round (named rows at) ≡ (if b then named rows at else within rows n (behind_row (Some row) (length (named rows outer))) (named rows outer))
    step_by b e =
        let f : (nat_eq (length ((at - 1) ∷ named rows outer)) n && nat_le n round) ≡ b = ap (λ ns. nat_eq (length ns) n && nat_le n round) (sym one_more) ∙ e in
        ap (within rows n round) one_more
        ∙ (ap (λ c. if c then (at - 1) ∷ named rows outer else within rows n (behind_row (slice_get rows (at - 1)) (length (named rows outer))) (named rows outer)) f
        ∙ (ap (λ ns. if b then ns else within rows n (behind_row (slice_get rows (at - 1)) (length (named rows outer))) (named rows outer)) (sym one_more)
        ∙ ap (λ o. if b then named rows at else within rows n (behind_row o (length (named rows outer))) (named rows outer)) r.is))

    pub within_here : count ≡ n → n ≤ round → named rows at ≡ last_of rows n (named rows number)
    within_here e k =
        let b : (nat_eq (length (named rows at)) n && nat_le n round) ≡ true = both_true (length (named rows at)) n round (sym h.many ∙ e) k in
        sym (step_by true b) ∙ h.same

    pub within_on : (count ≡ n → n ≤ round → ⊥) → Within rows n number outer (count - 1) (behind_row (Some row) (count - 1))
    within_on d =
        let b : (nat_eq (length (named rows at)) n && nat_le n round) ≡ false = not_both (length (named rows at)) n round (λ e k. d (h.many ∙ e) k) in
        let c : count - 1 ≡ length (named rows outer) = omega (arith, counted_more) in
        record {
          near = let k = h.near in omega arith;
          many = c;
          same = ap (λ k. within rows n (behind_row (Some row) k) (named rows outer)) c ∙ (sym (step_by false b) ∙ h.same);
        }

pub within_none : (rows : List HandlerRow) (n number at count round : ℕ) → Within rows n number at count round → at ≡ 0 → named rows 0 ≡ last_of rows n (named rows number)
within_none rows n number at count round h e =
    let z : named rows 0 ≡ [] = zero_named (reverse rows) in
    let y : named rows at ≡ [] = ap (named rows) e ∙ z in
    z ∙ (sym (ap (within rows n round) y) ∙ h.same)

pub none_first : (w : HandlerQuery) (rows : List HandlerRow) (at : ℕ) → at ≡ 0 → None ≡ first_in w rows (named rows at)
none_first w rows at e = sym (ap (first_in w rows) (ap (named rows) e ∙ zero_named (reverse rows)))

pub none_count : (rows : List HandlerRow) (at count all : ℕ) → at ≡ 0 → count + length (named rows at) ≡ all → count ≡ all
none_count rows at count all e h =
    let z : length (named rows at) ≡ 0 = ap length (ap (named rows) e ∙ zero_named (reverse rows)) in omega arith

-- how many there are
pub count_on : (rows : List HandlerRow) (at outer count all : ℕ) → named rows at ≡ own_row rows (at - 1) ++ named rows outer → own_row rows (at - 1) ≡ [] → count + length (named rows at) ≡ all → count + length (named rows outer) ≡ all
count_on rows at outer count all q e h =
    let f : length (named rows at) ≡ length (named rows outer) = ap length (q ∙ ap (λ ns. ns ++ named rows outer) e) in omega arith

pub count_more : (rows : List HandlerRow) (at outer count all : ℕ) (row : HandlerRow) → named rows at ≡ own_row rows (at - 1) ++ named rows outer → IsHandler rows (at - 1) row → count + length (named rows at) ≡ all → (count + 1) + length (named rows outer) ≡ all
count_more rows at outer count all row q r h =
    let f : length (named rows at) ≡ suc (length (named rows outer)) = ap length (q ∙ ap (λ ns. ns ++ named rows outer) r.own) in omega arith

-- a row that is looked for is the first one from there on
module _ (w : HandlerQuery) (rows : List HandlerRow) (at : ℕ) (b : Bool) (s : IsSoughtAt w rows (at - 1) b) (t : b ≡ true) (p : 0 < at) (l : at ≤ length rows) where
  pub sought_found : first_in w rows (named rows at) ≡ Some (at - 1)
  sought_found =
      let d : HandlerRow = record { from = 0; to = 0; outer = 0; kind = kind.Catch; event = 0; rest = 0; entry = 0 } in
      elim (cases_lt (get_or rows (at - 1) d).outer at) [
        | inl k ↦ sought_here w rows at (get_or rows (at - 1) d).outer b s t (outer_near rows at d p l k)
        | inr k ↦ sought_here w rows at 0 b s t (outer_far rows at d p l k)
      ]
