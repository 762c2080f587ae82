-- What own cells of frames hold, where cells are written, start anew, and frames come and go; and which routine each frame is of.
use Rattle.std.proofs.Common.{◌≡◌, ℕ, ℤ, zero, suc, ◌+◌, ◌-◌, ◌≤◌, ◌<◌, inl, inr, Bool, true, false, List, [], ◌∷◌, length, replicate, Some, refl, sym, ap, ◌∙◌, subst, arith}
use Rattle.std.specs.Prelude.{slice_index_or, nat_eq, if◌then◌else◌}
use Rattle.std.proofs.lemmas.Bool.{eqb-true, eq-eqb}
use Rattle.uc_tree.specs.Source.{Routine}
use Rattle.uc_machine.specs.declared.exec.Exec.{Exec}
use Rattle.uc_machine.specs.declared.exec.Owner.{Owner}
use Rattle.uc_machine.specs.declared.exec.Owner.TheVariants.{Frame}
use Rattle.uc_machine.specs.Executions.{at_depth, set_depth, list_in, others, first_or, take_operands, frame_changed, value_changed, values_cleared}
use Rattle.uc_machine.specs.Pieces.{Link, Value, Number, Place, Running, Object, Nothing, Active, stored, nought, address, LAST_ADDRESS}
use Rattle.uc_machine.specs.Quiet.{call_frame}
use Rattle.uc_life_laws.proofs.HomedCells.{set_length}
use Rattle.uc_cell_laws.specs.Sites.{Telling}
use Rattle.uc_cell_laws.specs.CellTodos.{Mark, Any}
use Rattle.uc_cell_laws.specs.CellStates.{IsOwnCell, IsOwnCoroutine, first_cell, IsFree, IsAllowed, Cells, AllCells, IsRooted, IsOf, AllWait}

-- of a cell that is written, and of all others
pub cell_tested : (P : Value → Type 0) (f : Value → Value) (vs : List Value) (j k : ℕ) → (j ≡ k → P (slice_index_or vs j nought) → P (f (slice_index_or vs j nought))) → P (slice_index_or vs j nought) → P (slice_index_or (value_changed k f nought vs) j nought)
cell_tested P f [] j k g h = h
cell_tested P f (x ∷ vs) zero zero g h = g refl h
cell_tested P f (x ∷ vs) zero (suc k) g h = h
cell_tested P f (x ∷ vs) (suc j) zero g h = h
cell_tested P f (x ∷ vs) (suc j) (suc k) g h = cell_tested P f vs j k (λ e. g (ap suc e)) h

-- of what a cell holds that starts anew
front_anew : (P : Value → Type 0) → P nought → (vs : List Value) (j n : ℕ) → P (slice_index_or vs j nought) → P (slice_index_or (values_cleared 0 n nought vs) j nought)
front_anew P z [] j zero h = h
front_anew P z [] j (suc n) h = h
front_anew P z (x ∷ vs) j zero h = h
front_anew P z (x ∷ vs) zero (suc n) h = z
front_anew P z (x ∷ vs) (suc j) (suc n) h = front_anew P z vs j n h

cell_anew : (P : Value → Type 0) → P nought → (vs : List Value) (j k n : ℕ) → P (slice_index_or vs j nought) → P (slice_index_or (values_cleared k n nought vs) j nought)
cell_anew P z vs j zero n h = front_anew P z vs j n h
cell_anew P z [] j (suc k) zero h = h
cell_anew P z [] j (suc k) (suc n) h = h
cell_anew P z (x ∷ vs) zero (suc k) n h = h
cell_anew P z (x ∷ vs) (suc j) (suc k) n h = cell_anew P z vs j k n h

-- so many numbers, and what lies in front of them
pub zeros_hold : (P : Value → Type 0) → P nought → (k j : ℕ) → P (slice_index_or (replicate k nought) j nought)
zeros_hold P z zero j = z
zeros_hold P z (suc k) zero = z
zeros_hold P z (suc k) (suc j) = zeros_hold P z k j

behind_operands : (P : Value → Type 0) (n m : ℕ) (xs ys : List Value) → ((j : ℕ) → m ≤ j → P (slice_index_or ys j nought)) → (j : ℕ) → m + n ≤ j → P (slice_index_or (take_operands Nothing n xs ys) j nought)
behind_operands P zero m xs ys h j l = h j (omega (arith, l))
behind_operands P (suc n) m xs ys h j l =
    behind_operands P n (suc m) (others xs) (first_or Nothing xs ∷ ys) next j (omega (arith, l))
  where
    next : (j : ℕ) → suc m ≤ j → P (slice_index_or (first_or Nothing xs ∷ ys) j nought)
    next zero k = absurd (omega (arith, k))
    next (suc j) k = h j (omega (arith, k))

-- routines of frames

inside_depth : (rs : List ℕ) (d r : ℕ) → at_depth rs d ≡ Some r → d < length rs
inside_depth [] d r e = absurd (cc)
inside_depth (q ∷ rs) d r e = by (nat_eq d (length rs)) refl (λ k. inside_depth rs d r k) e
  where
    by : (b : Bool) → nat_eq d (length rs) ≡ b → (at_depth rs d ≡ Some r → d < length rs) → (if b then Some q else at_depth rs d) ≡ Some r → d < suc (length rs)
    by true x ih e = let y : d ≡ length rs = eqb-true d (length rs) x in omega (arith, y)
    by false x ih e = let y = ih e in omega (arith, y)

not_newest : (d n : ℕ) → d < n → nat_eq d n ≡ false
not_newest d n l = by (nat_eq d n) refl
  where
    by : (b : Bool) → nat_eq d n ≡ b → nat_eq d n ≡ false
    by true e = let y : d ≡ n = eqb-true d n e in absurd (omega (arith, y, l))
    by false e = e

pub deeper : (rs : List ℕ) (q d r : ℕ) → at_depth rs d ≡ Some r → at_depth (q ∷ rs) d ≡ Some r
deeper rs q d r e =
    ap (λ (b : Bool). if b then Some q else at_depth rs d) (not_newest d (length rs) (inside_depth rs d r e)) ∙ e

shallower : (rs : List ℕ) (d r : ℕ) → d < length (others rs) → at_depth rs d ≡ Some r → at_depth (others rs) d ≡ Some r
shallower [] d r l e = e
shallower (q ∷ rs) d r l e =
    sym (ap (λ (b : Bool). if b then Some q else at_depth rs d) (not_newest d (length rs) l)) ∙ e

pub newest : (rs : List ℕ) (q d : ℕ) → d ≡ length rs → at_depth (q ∷ rs) d ≡ Some q
newest rs q d e = ap (λ (b : Bool). if b then Some q else at_depth rs d) (eq-eqb d (length rs) e)

-- what may stand in own cells

module _ (tg : Telling) where
  pub number_free : (q : Value) (c : ℕ) (z : ℤ) → IsFree tg q c (Number z)
  number_free q c z = λ o e. absurd (cc)

  pub running_free : (q : Value) (c : ℕ) (x : Exec) → IsFree tg q c (Running x)
  running_free q c x = λ o e. absurd (cc)

  pub free_stored : (q : Value) (c : ℕ) (w x : Value) → IsFree tg q c w → IsFree tg q c x → IsFree tg q c (stored w x)
  free_stored q c w (Number z) a b = a
  free_stored q c w (Place o p) a b = b
  free_stored q c w (Running e) a b = b
  free_stored q c w (Object o) a b = b
  free_stored q c w Nothing a b = a

  pub number_allowed : (o : Owner) (z : ℤ) → IsAllowed tg o (Number z)
  number_allowed o z = λ m e. absurd (cc)

  pub allowed_stored : (o : Owner) (w x : Value) → IsAllowed tg o w → IsAllowed tg o x → IsAllowed tg o (stored w x)
  allowed_stored o w (Number z) a b = a
  allowed_stored o w (Place q p) a b = b
  allowed_stored o w (Running e) a b = b
  allowed_stored o w (Object q) a b = b
  allowed_stored o w Nothing a b = a

module _ (tg : Telling) (n : Exec) where
  pub rooted_newer : (rs : List ℕ) (r level wide q : ℕ) (v : Value) → level ≤ wide → IsRooted tg n rs level q v → IsRooted tg n (r ∷ rs) wide q v
  rooted_newer rs r level wide q v l (inl h) = inl h
  rooted_newer rs r level wide q v l (inr h) = let k = h.2 in inr (h.0, h.1, omega (arith, k, l), deeper rs r h.0 h.1 h.3, h.4)

  pub rooted_wider : (rs : List ℕ) (level wide q : ℕ) (v : Value) → level ≤ wide → IsRooted tg n rs level q v → IsRooted tg n rs wide q v
  rooted_wider rs level wide q v l (inl h) = inl h
  rooted_wider rs level wide q v l (inr h) = let k = h.2 in inr (h.0, h.1, omega (arith, k, l), h.3, h.4)

  rooted_older : (rs : List ℕ) (level q : ℕ) (v : Value) → level ≤ length (others rs) → IsRooted tg n rs level q v → IsRooted tg n (others rs) level q v
  rooted_older rs level q v l (inl h) = inl h
  rooted_older rs level q v l (inr h) = let k = h.2 in inr (h.0, h.1, h.2, shallower rs h.0 h.1 (omega (arith, k, l)) h.3, h.4)

  pub one_newer : (given : List Mark) (rs : List ℕ) (r level : ℕ) (a : Active) → IsOf tg n given rs level a → IsOf tg n given (r ∷ rs) level a
  one_newer given rs r level a h = record {
    routine = h.routine;
    frame = deeper rs r a.frame h.routine h.frame;
    low = h.low;
    this = λ s. rooted_newer rs r level level h.routine a.this (omega arith) (h.this s);
    marks = h.marks;
    holds = h.holds;
    ok = h.ok;
  }

  pub all_newer : (rs : List ℕ) (r : ℕ) (cs : List Active) → AllWait tg n rs cs → AllWait tg n (r ∷ rs) cs
  all_newer rs r [] h = tt
  all_newer rs r (a ∷ older) h = (one_newer (Any ∷ []) rs r (length older) a h.0, all_newer rs r older h.1)

  pub all_older : (rs : List ℕ) (cs : List Active) → length cs ≤ length (others rs) → AllWait tg n rs cs → AllWait tg n (others rs) cs
  all_older rs [] l h = tt
  all_older rs (a ∷ older) l h =
      let k = h.0.low in (
        record {
          routine = h.0.routine;
          frame = shallower rs a.frame h.0.routine (omega (arith, k, l)) h.0.frame;
          low = h.0.low;
          this = λ s. rooted_older rs (length older) h.0.routine a.this (omega (arith, l)) (h.0.this s);
          marks = h.0.marks;
          holds = h.0.holds;
          ok = h.0.ok;
        },
        all_older rs older (omega (arith, l)) h.1,
      )

  -- cells

  pub cells_written : (r d cell : ℕ) (w : Value) (vs : List Value) → ((x : List Link) (c : ℕ) → IsOwnCell tg r (Frame n d) x c → address x < LAST_ADDRESS → address x ≡ cell → IsFree tg (Place (Frame n d) x) c w) → ((v : Value) (c : ℕ) → IsOwnCoroutine tg r (Frame n d) v c → first_cell v < LAST_ADDRESS → first_cell v ≡ cell → IsAllowed tg (Frame n d) w) → Cells tg n r d vs → Cells tg n r d (value_changed cell (stored w) nought vs)
  cells_written r d cell w vs f g h = (
    λ x c o l.
        cell_tested (IsFree tg (Place (Frame n d) x) c) (stored w) vs (address x) cell (λ e b. free_stored tg (Place (Frame n d) x) c w (slice_index_or vs (address x) nought) (f x c o l e) b) (h.0 x c o l),
    λ v c o l.
        cell_tested (IsAllowed tg (Frame n d)) (stored w) vs (first_cell v) cell (λ e b. allowed_stored tg (Frame n d) w (slice_index_or vs (first_cell v) nought) (g v c o l e) b) (h.1 v c o l),
  )

  pub cells_anew : (r d k m : ℕ) (vs : List Value) → Cells tg n r d vs → Cells tg n r d (values_cleared k m nought vs)
  cells_anew r d k m vs h = (
    λ x c o l. cell_anew (IsFree tg (Place (Frame n d) x) c) (number_free tg (Place (Frame n d) x) c _) vs (address x) k m (h.0 x c o l),
    λ v c o l. cell_anew (IsAllowed tg (Frame n d)) (number_allowed tg (Frame n d) _) vs (first_cell v) k m (h.1 v c o l),
  )

  pub cells_zero : (r d k : ℕ) → Cells tg n r d (replicate k nought)
  cells_zero r d k = (
    λ x c o l. zeros_hold (IsFree tg (Place (Frame n d) x) c) (number_free tg (Place (Frame n d) x) c _) k (address x),
    λ v c o l. zeros_hold (IsAllowed tg (Frame n d)) (number_allowed tg (Frame n d) _) k (first_cell v),
  )

  pub cells_none : (r d : ℕ) → Cells tg n r d []
  cells_none r d = (λ x c o l. number_free tg (Place (Frame n d) x) c _, λ v c o l. number_allowed tg (Frame n d) _)

  -- own cells and own coroutines of a routine lie behind its parameters
  abbrev pub LieBehind : ℕ → ℕ → Routine → Type 0
  LieBehind r d q = ((x : List Link) (c : ℕ) → IsOwnCell tg r (Frame n d) x c → address x < LAST_ADDRESS → q.params ≤ address x) ×
      ((v : Value) (c : ℕ) → IsOwnCoroutine tg r (Frame n d) v c → first_cell v < LAST_ADDRESS → q.params ≤ first_cell v)

  called_free : (P : Value → Type 0) → P nought → (q : Routine) (vs : List Value) (k : ℕ) → q.params ≤ k → P (slice_index_or (call_frame q vs) k nought)
  called_free P z q vs k l =
      behind_operands P q.params 0 vs (replicate (q.cells - q.params) nought) (λ j m. zeros_hold P z (q.cells - q.params) j) k (omega (arith, l))

  pub cells_called : (r d : ℕ) (q : Routine) (vs : List Value) → LieBehind r d q → Cells tg n r d (call_frame q vs)
  cells_called r d q vs f = (
    λ x c o l. called_free (IsFree tg (Place (Frame n d) x) c) (number_free tg (Place (Frame n d) x) c _) q vs (address x) (f.0 x c o l),
    λ v c o l. called_free (IsAllowed tg (Frame n d)) (number_allowed tg (Frame n d) _) q vs (first_cell v) (f.1 v c o l),
  )

  -- frames

  pub lengths : (rs : List ℕ) (fs : List (List Value)) → AllCells tg n rs fs → length rs ≡ length fs
  lengths [] [] h = refl
  lengths [] (vs ∷ fs) h = absurd h
  lengths (r ∷ rs) [] h = absurd h
  lengths (r ∷ rs) (vs ∷ fs) h = ap suc (lengths rs fs h.1)

  pub cells_at : (d r : ℕ) (rs : List ℕ) (fs : List (List Value)) → at_depth rs d ≡ Some r → AllCells tg n rs fs → Cells tg n r d (list_in (at_depth fs d))
  cells_at d r [] fs e h = absurd (cc)
  cells_at d r (q ∷ rs) [] e h = absurd h
  cells_at d r (q ∷ rs) (vs ∷ fs) e h = by (nat_eq d (length rs)) refl (λ k. cells_at d r rs fs k h.1) e
    where
      same : length rs ≡ length fs
      same = lengths rs fs h.1

      by : (b : Bool) → nat_eq d (length rs) ≡ b → (at_depth rs d ≡ Some r → Cells tg n r d (list_in (at_depth fs d))) → (if b then Some q else at_depth rs d) ≡ Some r → Cells tg n r d (list_in (at_depth (vs ∷ fs) d))
      by true x ih k =
          let y : d ≡ length rs = eqb-true d (length rs) x in
          let z : q ≡ r = cc in
          let i : nat_eq d (length fs) ≡ true = eq-eqb d (length fs) (y ∙ same) in
          subst (λ (b : Bool). Cells tg n r d (list_in (if b then Some vs else at_depth fs d))) (sym i) (subst (λ m. Cells tg n r m vs) (sym (y ∙ same)) (subst (λ m. Cells tg n m (length fs) vs) z h.0))
      by false x ih k =
          let i : nat_eq d (length fs) ≡ false = ap (nat_eq d) (sym same) ∙ x in
          subst (λ (b : Bool). Cells tg n r d (list_in (if b then Some vs else at_depth fs d))) (sym i) (ih k)

  all_set : (d : ℕ) (y : List Value) (rs : List ℕ) (fs : List (List Value)) → ((r : ℕ) → at_depth rs d ≡ Some r → Cells tg n r d y) → AllCells tg n rs fs → AllCells tg n rs (set_depth fs d y)
  all_set d y [] [] f h = tt
  all_set d y [] (vs ∷ fs) f h = absurd h
  all_set d y (q ∷ rs) [] f h = absurd h
  all_set d y (q ∷ rs) (vs ∷ fs) f h = by (nat_eq d (length fs)) refl (λ k. all_set d y rs fs k h.1)
    where
      same : length rs ≡ length fs
      same = lengths rs fs h.1

      by : (b : Bool) → nat_eq d (length fs) ≡ b → (((r : ℕ) → at_depth rs d ≡ Some r → Cells tg n r d y) → AllCells tg n rs (set_depth fs d y)) → AllCells tg n (q ∷ rs) (if b then y ∷ fs else vs ∷ set_depth fs d y)
      by true x ih =
          let z : d ≡ length fs = eqb-true d (length fs) x in
          (subst (λ m. Cells tg n q m y) z (f q (newest rs q d (z ∙ sym same))), h.1)
      by false x ih =
          let i : nat_eq d (length rs) ≡ false = ap (nat_eq d) same ∙ x in
          (subst (λ m. Cells tg n q m vs) (sym (set_length fs d y)) h.0, ih (λ r e. f r (ap (λ (b : Bool). if b then Some q else at_depth rs d) i ∙ e)))

  pub all_changed : (d : ℕ) (f : List Value → List Value) (rs : List ℕ) (fs : List (List Value)) → ((r : ℕ) → at_depth rs d ≡ Some r → (vs : List Value) → Cells tg n r d vs → Cells tg n r d (f vs)) → AllCells tg n rs fs → AllCells tg n rs (frame_changed d f fs)
  all_changed d f rs fs k h =
      all_set d (f (list_in (at_depth fs d))) rs fs (λ r e. k r e (list_in (at_depth fs d)) (cells_at d r rs fs e h)) h

  pub all_others : (rs : List ℕ) (fs : List (List Value)) → AllCells tg n rs fs → AllCells tg n (others rs) (others fs)
  all_others [] [] h = tt
  all_others [] (vs ∷ fs) h = absurd h
  all_others (r ∷ rs) [] h = absurd h
  all_others (r ∷ rs) (vs ∷ fs) h = h.1
