-- Where a journal goes wrong behind the acts that it has taken.
use Rattle.std.proofs.Common.{◌≡◌, ℕ, zero, suc, ◌+◌, ◌≤◌, true, false, List, [], ◌∷◌, ◌++◌, refl, sym, ap, ◌∙◌, subst, arith, length, take, append_assoc, append-nil, length-append}
use Rattle.uc_entry.specs.declared.entry.Entry.{Entry}
use Rattle.uc_entry.specs.declared.entry.Options.{Options}
use Rattle.uc_acts.specs.Journal.{Journal, begin, is_over}
use Rattle.uc_acts.specs.KernelRuns.{InRange}
use Rattle.uc_judge.specs.Asking.{AsksOnce, AsksWhole}
use Rattle.uc_judge.specs.Runs.{written, Cause, May, Runs, begun, more, IsStart, IsRun, GoesWrong, off, unended}
use Rattle.uc_judge.specs.Compared.{TurnsOff}
use Rattle.uc_judge.proofs.Cuts.{no_both, first_of, written_append, written_length, written_over, cancel, View, is_there, is_onward, view, rest_of, same_step, law_cut}
use Rattle.uc_judge.proofs.Verdicts.{part_start}
use Rattle.uc_judge.proofs.Starts.{goes_on}

take_part : (m : ℕ) (p rest : List Entry) → m ≤ length p → take m (p ++ rest) ≡ take m p
take_part zero p rest le = refl
take_part (suc m) [] rest le = absurd (omega (arith, le))
take_part (suc m) (e ∷ p) rest le = ap (λ l. e ∷ l) (take_part m p rest (omega (arith, le)))

take_one : (p : List Entry) (e : Entry) (y : List Entry) → take (suc (length p)) (p ++ e ∷ y) ≡ p ++ e ∷ []
take_one [] e y = refl
take_one (x ∷ p) e y = ap (λ l. x ∷ l) (take_one p e y)

-- behind a start that does not go on as a start
pub wrong_at : {W : Type 0} (cause : Cause W) (z p rest : List Entry) → z ≡ p ++ rest → IsStart cause p → ((e : Entry) (y : List Entry) → rest ≡ e ∷ y → IsStart cause (p ++ e ∷ []) → ⊥) → (rest ≡ [] → IsRun cause p → ⊥) → GoesWrong cause z (length p)
wrong_at cause z p [] h s never end =
    let same : z ≡ p = h ∙ append-nil p in
    unended (ap length (sym same)) (subst (IsStart cause) (sym same) s) (λ r. end refl (subst (IsRun cause) same r))
wrong_at cause z p (e ∷ y) h s never end =
    let n = length-append p (e ∷ y) in
    let l = ap length h in
    off (omega (arith, n, l)) (λ m le. subst (IsStart cause) (sym (ap (take m) h ∙ take_part m p (e ∷ y) le)) (part_start cause p m s)) (λ t. never e y refl (subst (IsStart cause) (at_one (length p + 1) (omega arith)) t))
  where
    at_one : (n : ℕ) → n ≡ suc (length p) → take n z ≡ p ++ e ∷ []
    at_one n f = ap (λ k. take k z) f ∙ ap (take (suc (length p))) h ∙ take_one p e y

began : (opts : Options) → is_over (begin opts ∷ []) ≡ false
unfolding is_over
began opts = refl

module _ {W : Type 0} (cause : Cause W) (once : AsksOnce cause.asks) (whole : AsksWhole cause.asks) {opts : Options} {j : Journal} {w : W} (range : InRange opts) (runs : Runs cause opts j w) where
  pub start_here : IsStart cause (written cause.lines j)
  start_here = record { opts = opts; in_range = range; tasks = w; all = j; runs = runs; rest = []; is = sym (append-nil (written cause.lines j)) }

  same_over : IsRun cause (written cause.lines j) → is_over j ≡ true
  same_over r = sym (written_over cause.lines j) ∙ ap is_over (sym r.is) ∙ written_over cause.lines r.all ∙ r.over

  -- a run that goes on, where its journal ends
  pub wrong_end : is_over j ≡ false → (z : List Entry) → z ≡ written cause.lines j → GoesWrong cause z (length z)
  wrong_end going z h =
      subst (λ n. GoesWrong cause z n) (ap length (sym h)) (wrong_at cause z (written cause.lines j) [] (h ∙ sym (append-nil (written cause.lines j))) start_here (λ e y f s. cc) (λ f r. no_both (is_over j) (same_over r) going))

  -- a complete run
  pub right : is_over j ≡ true → (z : List Entry) → z ≡ written cause.lines j → IsRun cause z
  right over z h = record { opts = opts; in_range = range; tasks = w; all = j; runs = runs; over = over; is = sym h }

  -- no act goes on as the journal does
  pub wrong_none : is_over j ≡ false → (z : List Entry) (e : Entry) (y : List Entry) → z ≡ written cause.lines j ++ e ∷ y → ((a : List Entry) (v : W) → May cause opts j w a v → (r s : List Entry) → written cause.lines a ++ r ≡ e ∷ s → ⊥) → GoesWrong cause z (length (written cause.lines j))
  wrong_none going z e y h never =
      wrong_at cause z (written cause.lines j) (e ∷ y) h start_here (λ f x g s. by f x g s) (λ f r. cc)
    where
      by : (f : Entry) (x : List Entry) → e ∷ y ≡ f ∷ x → IsStart cause (written cause.lines j ++ f ∷ []) → ⊥
      by f x g s =
          let same : f ≡ e = ap first_of (sym g) in
          let on = goes_on once whole runs going f [] s in
          never on.entries on.tasks on.may on.rest ([] ++ s.rest) (sym on.is ∙ ap (λ d. d ∷ ([] ++ s.rest)) same)

  -- the act with which alone the journal may go on, up to where that has another entry
  pub wrong_act : is_over j ≡ false → (z : List Entry) (e : Entry) (y : List Entry) → z ≡ written cause.lines j ++ e ∷ y → (a : List Entry) (v : W) → May cause opts j w a v → ((b : List Entry) (x : W) → May cause opts j w b x → (r s : List Entry) → written cause.lines b ++ r ≡ e ∷ s → b ≡ a) → (n : ℕ) → TurnsOff cause.lines a (e ∷ y) n → GoesWrong cause z (length (written cause.lines j) + n)
  wrong_act going z e y h a v may only n t =
      let p = written cause.lines j ++ t.before in
      let size = length-append (written cause.lines j) t.before in
      let place = t.place in
      let same : length p ≡ length (written cause.lines j) + n = omega (arith, size, place) in
      subst (λ m. GoesWrong cause z m) same (wrong_at cause z p t.rest (h ∙ ap (λ l. written cause.lines j ++ l) t.is ∙ sym (append_assoc (written cause.lines j) t.before t.rest)) start never end)
    where
      start : IsStart cause (written cause.lines j ++ t.before)
      start = record {
        opts = opts;
        in_range = range;
        tasks = v;
        all = j ++ a;
        runs = more runs going may;
        rest = t.here ∷ t.later;
        is = written_append cause.lines j a ∙ ap (λ l. written cause.lines j ++ l) t.made ∙ sym (append_assoc (written cause.lines j) t.before (t.here ∷ t.later));
      }

      -- what goes on from here as e does has the entries of the act
      goes : (x : Entry) (xs : List Entry) → x ≡ e → (s : IsStart cause (written cause.lines j ++ x ∷ xs)) → (r : List Entry) × ((x ∷ xs) ++ s.rest ≡ t.before ++ (t.here ∷ (t.later ++ r)))
      goes x xs f s =
          let on = goes_on once whole runs going x xs s in
          let is : on.entries ≡ a = only on.entries on.tasks on.may on.rest (xs ++ s.rest) (sym on.is ∙ ap (λ d. d ∷ (xs ++ s.rest)) f) in
          (on.rest, on.is ∙ ap (λ l. written cause.lines l ++ on.rest) is ∙ ap (λ l. l ++ on.rest) t.made ∙ append_assoc t.before (t.here ∷ t.later) on.rest)

      never : (f : Entry) (x : List Entry) → t.rest ≡ f ∷ x → IsStart cause ((written cause.lines j ++ t.before) ++ f ∷ []) → ⊥
      never f x g s = by t.before refl (subst (IsStart cause) (append_assoc (written cause.lines j) t.before (f ∷ [])) s)
        where
          by : (b : List Entry) → t.before ≡ b → IsStart cause (written cause.lines j ++ (t.before ++ f ∷ [])) → ⊥
          by [] k s =
              let same : f ≡ e = ap first_of (sym g ∙ sym (ap (λ l. l ++ t.rest) k) ∙ sym t.is) in
              let r = goes f [] same (subst (λ l. IsStart cause (written cause.lines j ++ (l ++ f ∷ []))) k s) in
              let here : f ≡ t.here = ap first_of (r.1 ∙ ap (λ l. l ++ (t.here ∷ (t.later ++ r.0))) k) in
              t.off x (g ∙ ap (λ d. d ∷ x) here)
          by (b ∷ bs) k s =
              let same : b ≡ e = ap first_of (sym (ap (λ l. l ++ t.rest) k) ∙ sym t.is) in
              let start' : IsStart cause (written cause.lines j ++ b ∷ (bs ++ f ∷ [])) = subst (λ l. IsStart cause (written cause.lines j ++ (l ++ f ∷ []))) k s in
              let r = goes b (bs ++ f ∷ []) same start' in
              let tails : (bs ++ f ∷ []) ++ start'.rest ≡ bs ++ (t.here ∷ (t.later ++ r.0)) = cancel (b ∷ []) _ _ (r.1 ∙ ap (λ l. l ++ (t.here ∷ (t.later ++ r.0))) k) in
              let here : f ≡ t.here = ap first_of (cancel bs (f ∷ start'.rest) (t.here ∷ (t.later ++ r.0)) (sym (append_assoc bs (f ∷ []) start'.rest) ∙ tails)) in
              t.off x (g ∙ ap (λ d. d ∷ x) here)

      end : t.rest ≡ [] → IsRun cause (written cause.lines j ++ t.before) → ⊥
      end g r = by t.before refl r
        where
          by : (b : List Entry) → t.before ≡ b → IsRun cause (written cause.lines j ++ t.before) → ⊥
          by [] k r = let none : e ∷ y ≡ [] = t.is ∙ ap (λ l. l ++ t.rest) k ∙ g in cc
          by (b ∷ bs) k r =
              let same : b ≡ e = ap first_of (sym (ap (λ l. l ++ t.rest) k) ∙ sym t.is) in
              let is : written cause.lines r.all ≡ (written cause.lines j ++ b ∷ bs) ++ [] = r.is ∙ ap (λ l. written cause.lines j ++ l) k ∙ sym (append-nil (written cause.lines j ++ b ∷ bs)) in
              let start' : IsStart cause (written cause.lines j ++ b ∷ bs) = record { opts = r.opts; in_range = r.in_range; tasks = r.tasks; all = r.all; runs = r.runs; rest = []; is = is } in
              let q = goes b bs same start' in
              let tails : (b ∷ bs) ++ [] ≡ t.before ++ (t.here ∷ (t.later ++ q.0)) = q.1 in
              let l = ap length tails in
              let m = length-append (b ∷ bs) [] in
              let n = length-append t.before (t.here ∷ (t.later ++ q.0)) in
              let o = ap length k in
              absurd (omega (arith, l, m, n, o))

  -- nothing stands behind an ending
  pub wrong_over : is_over j ≡ true → (z : List Entry) (e : Entry) (y : List Entry) → z ≡ written cause.lines j ++ e ∷ y → GoesWrong cause z (length (written cause.lines j))
  wrong_over over z e y h = wrong_at cause z (written cause.lines j) (e ∷ y) h start_here (λ f x g s. last runs over f [] s) (λ f r. cc)
    where
      last : {i : Journal} {v : W} → Runs cause opts i v → is_over i ≡ true → (f : Entry) (x : List Entry) → IsStart cause (written cause.lines i ++ f ∷ x) → ⊥
      last begun o f x s = no_both (is_over (begin opts ∷ [])) o (began opts)
      last (more {j = i} {w = u} {a} {x = v} r going m) o f x s =
          let c = law_cut cause once whole opts s.opts i u s.all s.tasks (written cause.lines a ++ ((f ∷ x) ++ s.rest)) r going s.runs (s.is ∙ ap (λ l. (l ++ f ∷ x) ++ s.rest) (written_append cause.lines i a) ∙ append_assoc (written cause.lines i ++ written cause.lines a) (f ∷ x) s.rest ∙ append_assoc (written cause.lines i) (written cause.lines a) ((f ∷ x) ++ s.rest)) in
          by (view c.1)
        where
          sizes : length s.all ≡ length i + length a + suc (length x + length s.rest)
          sizes =
              let q = ap length s.is in
              let all = written_length cause.lines s.all in
              let n = length-append (written cause.lines (i ++ a) ++ f ∷ x) s.rest in
              let m' = length-append (written cause.lines (i ++ a)) (f ∷ x) in
              let k = written_length cause.lines (i ++ a) in
              let l = length-append i a in
              omega (arith, q, all, n, m', k, l)

          by : View cause opts i u s.all s.tasks → ⊥
          by (is_there e' g) = let l = ap length e' in let z' = sizes in absurd (omega (arith, l, z'))
          by (is_onward b y' going' m' c') =
              let q = rest_of c' in
              let same = same_step once whole m' m (written cause.lines q.0) ((f ∷ x) ++ s.rest) (cancel (written cause.lines i) _ _ (sym (append_assoc (written cause.lines i) (written cause.lines b) (written cause.lines q.0)) ∙ ap (λ l. l ++ written cause.lines q.0) (sym (written_append cause.lines i b)) ∙ sym (written_append cause.lines (i ++ b) q.0) ∙ ap (written cause.lines) (sym q.1) ∙ s.is ∙ ap (λ l. (l ++ f ∷ x) ++ s.rest) (written_append cause.lines i a) ∙ append_assoc (written cause.lines i ++ written cause.lines a) (f ∷ x) s.rest ∙ append_assoc (written cause.lines i) (written cause.lines a) ((f ∷ x) ++ s.rest))) in
              last_of (view c') same.entries
            where
              last_of : View cause opts (i ++ b) y' s.all s.tasks → b ≡ a → ⊥
              last_of (is_there e' g) k =
                  let l = ap length e' in
                  let z' = sizes in
                  let n = length-append i b in
                  let d = ap length k in
                  absurd (omega (arith, l, z', n, d))
              last_of (is_onward d' y'' going'' m'' c'') k = no_both (is_over (i ++ a)) o (ap (λ l. is_over (i ++ l)) (sym k) ∙ going'')
