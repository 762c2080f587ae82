-- The search for the handler of a resumption finds by rows what the source finds on its to-do lists.
use Rattle.std.proofs.Common.{◌≡◌, ℕ, suc, ◌+◌, ◌≤◌, List, [], ◌∷◌, ◌++◌, length, Option, Some, None, Bool, true, false, refl, sym, ap, subst, ◌∙◌, arith, inl, inr}
use Rattle.std.specs.Prelude.{nat_eq, nat_le, nat_lt, ◌&&◌, if◌then◌else◌, slice_get}
use Rattle.std.proofs.lemmas.Bool.{eq-eqb, ne_eqb, eqb-true, le-leb, le-ltb, cases_lt}
use Rattle.uc_tree.specs.Source.{Handlers, NoHandlers, MoreHandlers}
use Rattle.uc_machine.specs.declared.exec.Visited.{Visited}
use Rattle.uc_machine.specs.Executions.{at_depth}
use Rattle.uc_machine.specs.Quiet as quiet
use Rattle.uc_machine.specs.Quiet.{Todo, Sort, Simple, IsLoop, IsWhole, IsClean, IsFill, IsSweep, IsPart, IsGuard, IsFinish, IsFinishCoroutine, sort, own_line}
use Rattle.uc_machine.specs.Raising.{Event, Handler, Hit, Found as Sought, handler_for, handler_count, count_by, count_round, within as within_list, hit_or, hit_by, hit_in, home_of, found_or, seek}
use Rattle.uc_code.specs.declared.rows.HandlerRow.{HandlerRow}
use Rattle.uc_code.specs.declared.rows.CodeMark.{CodeMark}
use Rattle.uc_code.specs.Layout.{Laid, under, handlers, chain}
use Rattle.uc_code.specs.CodeShapes.{HandlerAt, clean_up}
use Rattle.uc_code.specs.Lowered.{handler_rows}
use Rattle.uc_frames.specs.declared.search.HandlerQuery.TheVariants as sought
use Rattle.uc_frames.specs.Machine.{Activation}
use Rattle.uc_frames.specs.StandsByParts.{Lined}
use Rattle.uc_frames.specs.Searches.{is_found, first_in, behind_row, within, last_of, chain_within}
use Rattle.uc_frames.specs.Stands.{PieceAt, IsLast, OfRoutine, OfHandler, AtGuard, FollowsBy, FollowsAt}
use Rattle.uc_frames.specs.UnwindingStands.{SearchStands}
use Rattle.uc_frames.proofs.Guards.{numbers, guards_rows, numbers_count, rows_count, Choice, chosen_in, past_first, follows_resumed}
use Rattle.uc_except.specs.declared.found.Found.{Found}
use Rattle.uc_except.specs.declared.found.Found.TheVariants.{Handler as At, None as Nowhere}
use Rattle.uc_except.specs.RowSearch.{found_at, resumed}
use Rattle.uc_except.specs.FoundAgrees.{ResumesAt, Hits, FoundAs}
use Rattle.uc_except.proofs.Levels.{depth_within}

under_none : (ns : List ℕ) → under 0 ns ≡ []
under_none [] = refl
under_none (n ∷ ns) = let e : nat_lt n 0 ≡ false = le-ltb n 0 (omega arith) in rw e (under_none ns)

pub last_rows : (code : Laid) (ms : List CodeMark) → IsLast code ms → handlers ms ≡ []
last_rows code ms (OfRoutine k) = refl
last_rows code ms (OfHandler row outer) = under_none (handlers outer)

-- where no handler stands nothing is found
pub none_for : (kind : Bool) (e : Event) (hs : Handlers) → handler_count hs ≡ 0 → handler_for kind e hs ≡ None
none_for kind e NoHandlers q = refl
none_for kind e (MoreHandlers r n c l b rest) q = absurd (omega arith)

none_hit_by : (x : Sort) (e : Event) (ps : List Todo) → count_by x + count_round ps ≡ 0 → (count_round ps ≡ 0 → hit_in e ps ≡ None) → hit_by x (count_round ps) e (hit_in e ps) ≡ None
none_hit_by Simple e ps q f = f (omega arith)
none_hit_by (IsLoop o t s b) e ps q f = f (omega arith)
none_hit_by IsWhole e ps q f = absurd (omega arith)
none_hit_by (IsClean c) e ps q f = absurd (omega arith)
none_hit_by (IsFill n b d) e ps q f = absurd (omega arith)
none_hit_by (IsSweep s) e ps q f = absurd (omega arith)
none_hit_by (IsPart c) e ps q f = absurd (omega arith)
none_hit_by (IsGuard hs) e ps q f =
    let h : handler_for true e hs ≡ None = none_for true e hs (omega arith) in
    rw h (f (omega arith))
none_hit_by IsFinish e ps q f = absurd (omega arith)
none_hit_by IsFinishCoroutine e ps q f = absurd (omega arith)

none_hit : (e : Event) (ps : List Todo) → count_round ps ≡ 0 → hit_in e ps ≡ None
none_hit e [] q = refl
none_hit e (p ∷ ps) q = none_hit_by (sort p) e ps q (none_hit e ps)

count_less : (p : Todo) (ps : List Todo) → count_round (p ∷ ps) ≡ 0 → count_round ps ≡ 0
count_less p ps q = omega arith

none_within_by : (b : Bool) (e : Event) (n : ℕ) (p : Todo) (ps : List Todo) → count_round (p ∷ ps) ≡ 0 → hit_in e (within_list n ps) ≡ None → hit_in e (if b then p ∷ ps else within_list n ps) ≡ None
none_within_by true e n p ps q f = none_hit e (p ∷ ps) q
none_within_by false e n p ps q f = f

none_within : (e : Event) (n : ℕ) (ps : List Todo) → count_round ps ≡ 0 → hit_in e (within_list n ps) ≡ None
none_within e n [] q = refl
none_within e n (p ∷ ps) q = none_within_by (nat_eq (count_round (p ∷ ps)) n) e n p ps q (none_within e n ps (count_less p ps q))

-- what stands there is within as many
all_within : (n : ℕ) (ps : List Todo) → nat_eq (count_round ps) n ≡ true → within_list n ps ≡ ps
all_within n [] e = refl
all_within n (p ∷ ps) e = rw e refl

found_by : (b : Bool) (x n : ℕ) (o p : Option ℕ) → (o ≡ Some n → p ≡ Some n) → (if b then Some x else o) ≡ Some n → (if b then Some x else p) ≡ Some n
found_by true x n o p f e = e
found_by false x n o p f e = f e

behind_by : (b : Bool) (x : ℕ) (o p q : Option ℕ) → (o ≡ None → p ≡ q) → (if b then Some x else o) ≡ None → (if b then Some x else p) ≡ q
behind_by true x o p q f e = absurd (cc)
behind_by false x o p q f e = f e

module _ (code : Laid) where
  counts_by : (x : Sort) (P : ℕ → ℕ → Type 0) (ps : List Todo) → ((ms : List CodeMark) (k : ℕ) → FollowsAt code ps ms k → count_round ps ≡ length (handlers ms)) → (ms : List CodeMark) (k : ℕ) → FollowsBy code (own_line ps) (count_round ps) x P (FollowsAt code ps) ms k → count_by x + count_round ps ≡ length (handlers ms)
  counts_by Simple P ps ih ms k f = let h = ih ms f.to f.on in omega arith
  counts_by (IsLoop o t e b) P ps ih ms k f = let h = ih f.outer f.end f.on in let l : length (handlers ms) ≡ length (handlers f.outer) = ap (λ ns. length (handlers ns)) f.pops in omega arith
  counts_by IsWhole P ps ih ms k f = let h = ih f.outer f.end f.on in let l : length (handlers ms) ≡ suc (length (handlers f.outer)) = ap (λ ns. length (handlers ns)) f.pops in omega arith
  counts_by (IsClean c) P ps ih ms k f = let h = ih f.outer f.to f.on in let l : length (handlers ms) ≡ suc (length (handlers f.outer)) = ap (λ ns. length (handlers ns)) f.pops in omega arith
  counts_by (IsFill n b d) P ps ih ms k f = let h = ih f.outer f.end f.on in let l : length (handlers ms) ≡ suc (length (handlers f.outer)) = ap (λ ns. length (handlers ns)) f.pops in omega arith
  counts_by (IsSweep e) P ps ih ms k f = let h = ih f.outer f.end f.on in let l : length (handlers ms) ≡ suc (length (handlers f.outer)) = ap (λ ns. length (handlers ns)) f.pops in omega arith
  counts_by (IsPart c) P ps ih ms k f = let h = ih f.outer f.end f.on in let l : length (handlers ms) ≡ suc (length (handlers f.outer)) = ap (λ ns. length (handlers ns)) f.pops in omega arith
  counts_by (IsGuard hs) P ps ih ms k f =
      let h = ih f.outer f.end f.on in
      let l : length (handlers ms) ≡ length (numbers f.first (handler_rows hs) ++ handlers f.outer) = ap (λ ns. length (handlers ns)) f.pops ∙ ap length (guards_rows f.first (handler_rows hs) f.outer) in
      let c = numbers_count f.first (handler_rows hs) (handlers f.outer) in
      let d : handler_rows hs ≡ handler_count hs = rows_count hs in
      omega arith
  counts_by IsFinish P ps ih ms k f = let z = f.behind in let l : length (handlers ms) ≡ 1 = ap (λ ns. length (handlers ns)) f.pops in omega arith
  counts_by IsFinishCoroutine P ps ih ms k f = let z = f.behind in let l : length (handlers ms) ≡ 1 = ap (λ ns. length (handlers ns)) f.pops in omega arith

  pub counts : (ps : List Todo) (ms : List CodeMark) (k : ℕ) → FollowsAt code ps ms k → count_round ps ≡ length (handlers ms)
  counts [] ms k f = sym (ap length (last_rows code ms f.last))
  counts (p ∷ ps) ms k f = counts_by (sort p) (PieceAt code (own_line ps) ms p) ps (counts ps) ms k f

  module _ (e : Event) where
    abbrev look : List ℕ → Option ℕ
    look ns = first_in (sought.Resume e.number) code.rows ns

    clean_passed : (row entry : ℕ) → HandlerAt code row (clean_up entry) → is_found (sought.Resume e.number) row (slice_get code.rows row) ≡ false
    clean_passed row entry h = let t = h.there in let k = h.kind in rw (t, k) refl

    -- a row of a clean-up
    past_clean : (row entry : ℕ) (ns : List ℕ) → HandlerAt code row (clean_up entry) → look (row ∷ ns) ≡ look ns
    past_clean row entry ns h = ap (λ b. if b then Some row else look ns) (clean_passed row entry h)

    found_first : (rows : List HandlerRow) (xs ys : List ℕ) (n : ℕ) → first_in (sought.Resume e.number) rows xs ≡ Some n → first_in (sought.Resume e.number) rows (xs ++ ys) ≡ Some n
    found_first rows [] ys n q = absurd (cc)
    found_first rows (x ∷ xs) ys n q = found_by (is_found (sought.Resume e.number) x (slice_get rows x)) x n _ _ (found_first rows xs ys n) q

    found_behind : (rows : List HandlerRow) (xs ys : List ℕ) → first_in (sought.Resume e.number) rows xs ≡ None → first_in (sought.Resume e.number) rows (xs ++ ys) ≡ first_in (sought.Resume e.number) rows ys
    found_behind rows [] ys q = refl
    found_behind rows (x ∷ xs) ys q = behind_by (is_found (sought.Resume e.number) x (slice_get rows x)) x _ _ _ (found_behind rows xs ys) q

    -- a guarded block
    guard_by : (o : Option ℕ) (p : Option Handler) (hs : Handlers) (outer : List CodeMark) (first exit n : ℕ) (q : Option Hit) → Choice code outer exit true o p → n ≡ length (handlers outer) → look (numbers first (handler_rows hs)) ≡ o → Hits code (look (handlers outer)) q → Hits code (look (numbers first (handler_rows hs) ++ handlers outer)) (hit_or p n q)
    guard_by None None hs outer first exit n q c m k h = subst (λ o. Hits code o q) (sym (found_behind code.rows (numbers first (handler_rows hs)) (handlers outer) k)) h
    guard_by None (Some h) hs outer first exit n q c m k f = absurd c
    guard_by (Some r) None hs outer first exit n q c m k f = absurd c
    guard_by (Some r) (Some h) hs outer first exit n q c m k f =
        subst (λ o. Hits code o (Some (record { handler = h; rest = n }))) (sym (found_first code.rows (numbers first (handler_rows hs)) (handlers outer) r k))
        (subst (λ j. ResumesAt code r j h) (sym m) (record { event = c.event; entry = c.entry; handler = c.handler; marks = _; follows = follows_resumed code outer exit r h c }))

    at_guard : (hs : Handlers) (ps : List Todo) (ms : List CodeMark) (k : ℕ) → AtGuard code hs (FollowsAt code ps) ms k → ((ns : List CodeMark) (j : ℕ) → FollowsAt code ps ns j → Hits code (look (handlers ns)) (hit_in e ps)) → Hits code (look (handlers ms)) (hit_or (handler_for true e hs) (count_round ps) (hit_in e ps))
    at_guard hs ps ms k f ih =
        let l : handlers ms ≡ numbers f.first (handler_rows hs) ++ handlers f.outer = ap handlers f.pops ∙ guards_rows f.first (handler_rows hs) f.outer in
        subst (λ ns. Hits code (look ns) (hit_or (handler_for true e hs) (count_round ps) (hit_in e ps))) (sym l)
        (guard_by (look (numbers f.first (handler_rows hs))) (handler_for true e hs) hs f.outer f.first f.end (count_round ps) (hit_in e ps)
        (chosen_in code f.outer f.end true e f.first hs f.from f.to f.handlers) (counts ps f.outer f.end f.on) refl (ih f.outer f.end f.on))

    one_row : (ms : List CodeMark) (ns : List ℕ) (row entry : ℕ) (q : Option Hit) → handlers ms ≡ row ∷ ns → HandlerAt code row (clean_up entry) → Hits code (look ns) q → Hits code (look (handlers ms)) q
    one_row ms ns row entry q l h f = subst (λ o. Hits code o q) (sym (ap look l ∙ past_clean row entry ns h)) f

    finds_by : (x : Sort) (P : ℕ → ℕ → Type 0) (ps : List Todo) → ((ms : List CodeMark) (k : ℕ) → FollowsAt code ps ms k → Hits code (look (handlers ms)) (hit_in e ps)) → (ms : List CodeMark) (k : ℕ) → FollowsBy code (own_line ps) (count_round ps) x P (FollowsAt code ps) ms k → Hits code (look (handlers ms)) (hit_by x (count_round ps) e (hit_in e ps))
    finds_by Simple P ps ih ms k f = ih ms f.to f.on
    finds_by (IsLoop o t s b) P ps ih ms k f = subst (λ ns. Hits code (look ns) (hit_in e ps)) (sym (ap handlers f.pops)) (ih f.outer f.end f.on)
    finds_by IsWhole P ps ih ms k f = one_row ms (handlers f.outer) f.row f.entry (hit_in e ps) (ap handlers f.pops) f.handler (ih f.outer f.end f.on)
    finds_by (IsClean c) P ps ih ms k f = one_row ms (handlers f.outer) f.row f.entry (hit_in e ps) (ap handlers f.pops) f.handler (ih f.outer f.to f.on)
    finds_by (IsFill n b d) P ps ih ms k f = one_row ms (handlers f.outer) f.row f.entry (hit_in e ps) (ap handlers f.pops) f.handler (ih f.outer f.end f.on)
    finds_by (IsSweep s) P ps ih ms k f = one_row ms (handlers f.outer) f.row f.entry (hit_in e ps) (ap handlers f.pops) f.handler (ih f.outer f.end f.on)
    finds_by (IsPart c) P ps ih ms k f = one_row ms (handlers f.outer) f.row f.entry (hit_in e ps) (ap handlers f.pops) f.handler (ih f.outer f.end f.on)
    finds_by (IsGuard hs) P ps ih ms k f = at_guard hs ps ms k f ih
    finds_by IsFinish P ps ih ms k f =
        one_row ms [] f.row f.entry (hit_in e ps) (ap handlers f.pops) f.handler (subst (λ q. Hits code None q) (sym (none_hit e ps f.behind)) tt)
    finds_by IsFinishCoroutine P ps ih ms k f =
        one_row ms [] f.row f.entry (hit_in e ps) (ap handlers f.pops) f.handler (subst (λ q. Hits code None q) (sym (none_hit e ps f.behind)) tt)

    pub finds : (ps : List Todo) (ms : List CodeMark) (k : ℕ) → FollowsAt code ps ms k → Hits code (look (handlers ms)) (hit_in e ps)
    finds [] ms k f = subst (λ ns. Hits code (look ns) None) (sym (last_rows code ms f.last)) tt
    finds (p ∷ ps) ms k f = finds_by (sort p) (PieceAt code (own_line ps) ms p) ps (finds ps) ms k f

    -- within so many
    whole_within : (n round : ℕ) (ns : List ℕ) → nat_eq (length ns) n ≡ true → length ns ≤ round → within code.rows n round ns ≡ ns
    whole_within n round [] q l = refl
    whole_within n round (k ∷ ns) q l =
        let m : length (k ∷ ns) ≡ n = eqb-true (length (k ∷ ns)) n q in
        let t : nat_le n round ≡ true = le-leb n round (omega arith) in
        let b : (nat_eq (length (k ∷ ns)) n && nat_le n round) ≡ true = rw (q, t) refl in
        ap (λ c. if c then k ∷ ns else within code.rows n (behind_row (slice_get code.rows k) (length ns)) ns) b

    clean_behind : (row entry m : ℕ) → HandlerAt code row (clean_up entry) → behind_row (slice_get code.rows row) m ≡ m
    clean_behind row entry m h = let t = h.there in let k = h.kind in rw (t, k) refl

    past_row : (n round row entry : ℕ) (ns : List ℕ) → HandlerAt code row (clean_up entry) → nat_eq (length (row ∷ ns)) n ≡ false → within code.rows n round (row ∷ ns) ≡ within code.rows n (length ns) ns
    past_row n round row entry ns h q =
        let b : (nat_eq (length (row ∷ ns)) n && nat_le n round) ≡ false = rw q refl in
        ap (λ c. if c then row ∷ ns else within code.rows n (behind_row (slice_get code.rows row) (length ns)) ns) b
        ∙ ap (λ m. within code.rows n m ns) (clean_behind row entry (length ns) h)

    abbrev Within : ℕ → List Todo → Type 0
    Within n ps = (ms : List CodeMark) (k round : ℕ) → FollowsAt code ps ms k → length (handlers ms) ≤ round → Hits code (look (within code.rows n round (handlers ms))) (hit_in e (within_list n ps))

    row_within : (n round row entry : ℕ) (ms outer : List CodeMark) (q : Option Hit) → handlers ms ≡ row ∷ handlers outer → HandlerAt code row (clean_up entry) → nat_eq (length (handlers ms)) n ≡ false → Hits code (look (within code.rows n (length (handlers outer)) (handlers outer))) q → Hits code (look (within code.rows n round (handlers ms))) q
    row_within n round row entry ms outer q l h d f =
        let z : nat_eq (length (row ∷ handlers outer)) n ≡ false = ap (λ ns. nat_eq (length ns) n) (sym l) ∙ d in
        subst (λ ns. Hits code (look ns) q) (sym (ap (within code.rows n round) l ∙ past_row n round row entry (handlers outer) h z)) f

    guard_within : (n round : ℕ) (hs : Handlers) (ps : List Todo) (ms : List CodeMark) (k : ℕ) → AtGuard code hs (FollowsAt code ps) ms k → length (handlers ms) ≤ round → nat_eq (length (handlers ms)) n ≡ false → Within n ps → Hits code (look (within code.rows n round (handlers ms))) (hit_in e (within_list n ps))
    guard_within n round hs ps ms k f l d ih =
        let a : handlers ms ≡ numbers f.first (handler_rows hs) ++ handlers f.outer = ap handlers f.pops ∙ guards_rows f.first (handler_rows hs) f.outer in
        let c = numbers_count f.first (handler_rows hs) (handlers f.outer) in
        let b : length (handlers ms) ≡ handler_rows hs + length (handlers f.outer) = ap length a ∙ c in
        elim (cases_lt 0 (handler_rows hs)) [
          | inl p ↦
              let z : nat_eq (handler_rows hs + length (handlers f.outer)) n ≡ false = ap (λ j. nat_eq j n) (sym b) ∙ d in
              subst (λ ns. Hits code (look ns) (hit_in e (within_list n ps))) (sym (ap (within code.rows n round) a ∙ past_first code f.outer f.end n f.first hs f.from f.to round f.handlers p z))
              (ih f.outer f.end (length (handlers f.outer)) f.on (omega arith))
          | inr p ↦
              let y : handler_rows hs ≡ 0 = omega arith in
              let x : handlers ms ≡ handlers f.outer = a ∙ ap (λ j. numbers f.first j ++ handlers f.outer) y in
              subst (λ ns. Hits code (look (within code.rows n round ns)) (hit_in e (within_list n ps))) (sym x) (ih f.outer f.end round f.on (omega arith))
        ]

    within_by : (x : Sort) (P : ℕ → ℕ → Type 0) (n : ℕ) (ps : List Todo) → Within n ps → (ms : List CodeMark) (k round : ℕ) → FollowsBy code (own_line ps) (count_round ps) x P (FollowsAt code ps) ms k → length (handlers ms) ≤ round → nat_eq (length (handlers ms)) n ≡ false → Hits code (look (within code.rows n round (handlers ms))) (hit_in e (within_list n ps))
    within_by Simple P n ps ih ms k round f l d = ih ms f.to round f.on l
    within_by (IsLoop o t s b) P n ps ih ms k round f l d =
        let x : handlers ms ≡ handlers f.outer = ap handlers f.pops in
        subst (λ ns. Hits code (look (within code.rows n round ns)) (hit_in e (within_list n ps))) (sym x) (ih f.outer f.end round f.on (subst (λ ns. length ns ≤ round) x l))
    within_by IsWhole P n ps ih ms k round f l d = row_within n round f.row f.entry ms f.outer _ (ap handlers f.pops) f.handler d (ih f.outer f.end (length (handlers f.outer)) f.on (omega arith))
    within_by (IsClean c) P n ps ih ms k round f l d = row_within n round f.row f.entry ms f.outer _ (ap handlers f.pops) f.handler d (ih f.outer f.to (length (handlers f.outer)) f.on (omega arith))
    within_by (IsFill m b s) P n ps ih ms k round f l d = row_within n round f.row f.entry ms f.outer _ (ap handlers f.pops) f.handler d (ih f.outer f.end (length (handlers f.outer)) f.on (omega arith))
    within_by (IsSweep s) P n ps ih ms k round f l d = row_within n round f.row f.entry ms f.outer _ (ap handlers f.pops) f.handler d (ih f.outer f.end (length (handlers f.outer)) f.on (omega arith))
    within_by (IsPart c) P n ps ih ms k round f l d = row_within n round f.row f.entry ms f.outer _ (ap handlers f.pops) f.handler d (ih f.outer f.end (length (handlers f.outer)) f.on (omega arith))
    within_by (IsGuard hs) P n ps ih ms k round f l d = guard_within n round hs ps ms k f l d ih
    within_by IsFinish P n ps ih ms k round f l d =
        row_within n round f.row f.entry ms [] _ (ap handlers f.pops) f.handler d (subst (λ q. Hits code None q) (sym (none_within e n ps f.behind)) tt)
    within_by IsFinishCoroutine P n ps ih ms k round f l d =
        row_within n round f.row f.entry ms [] _ (ap handlers f.pops) f.handler d (subst (λ q. Hits code None q) (sym (none_within e n ps f.behind)) tt)

    within_test : (b : Bool) (n round : ℕ) (p : Todo) (ps : List Todo) (ms : List CodeMark) → nat_eq (length (handlers ms)) n ≡ b → length (handlers ms) ≤ round → Hits code (look (handlers ms)) (hit_in e (p ∷ ps)) → (nat_eq (length (handlers ms)) n ≡ false → Hits code (look (within code.rows n round (handlers ms))) (hit_in e (within_list n ps))) → Hits code (look (within code.rows n round (handlers ms))) (hit_in e (if b then p ∷ ps else within_list n ps))
    within_test true n round p ps ms d l w f = subst (λ ns. Hits code (look ns) (hit_in e (p ∷ ps))) (sym (whole_within n round (handlers ms) d l)) w
    within_test false n round p ps ms d l w f = f d

    pub finds_within : (n : ℕ) (ps : List Todo) → Within n ps
    finds_within n [] ms k round f l = subst (λ ns. Hits code (look (within code.rows n round ns)) None) (sym (last_rows code ms f.last)) tt
    finds_within n (p ∷ ps) ms k round f l =
        let c : count_round (p ∷ ps) ≡ length (handlers ms) = counts (p ∷ ps) ms k f in
        let t : nat_eq (count_round (p ∷ ps)) n ≡ nat_eq (length (handlers ms)) n = ap (λ j. nat_eq j n) c in
        subst (λ b. Hits code (look (within code.rows n round (handlers ms))) (hit_in e (if b then p ∷ ps else within_list n ps))) (sym t)
        (within_test (nat_eq (length (handlers ms)) n) n round p ps ms refl l (finds (p ∷ ps) ms k f) (λ d. within_by (sort p) (PieceAt code (own_line ps) ms p) n ps (finds_within n ps) ms k round f l d))

  -- over the activations

  pub lengths : (ms : List Activation) (cs : List quiet.Active) → Lined (SearchStands code) ms cs → length ms ≡ length cs
  lengths [] [] h = refl
  lengths [] (c ∷ cs) h = absurd h
  lengths (m ∷ ms) [] h = absurd h
  lengths (m ∷ ms) (c ∷ cs) h = ap suc (lengths ms cs h.1)

  further_there : (a x : Activation) (acts : List Activation) (d : ℕ) → at_depth acts d ≡ Some x → at_depth (a ∷ acts) d ≡ Some x
  further_there a x acts d q =
      let l = depth_within acts d x q in
      let n : d ≡ length acts → ⊥ = λ z. omega arith in
      let t : nat_eq d (length acts) ≡ false = ne_eqb d (length acts) n in
      rw t q

  further_by : (a : Activation) (acts : List Activation) (x : Found) (q : Option Sought) → FoundAs code acts x q → FoundAs code (a ∷ acts) x q
  further_by a acts Nowhere None h = tt
  further_by a acts Nowhere (Some f) h = absurd h
  further_by a acts (At frame row) None h = absurd h
  further_by a acts (At frame row) (Some f) h = record { level = h.level; resumes = h.resumes; active = h.active; there = further_there a h.active acts frame h.there; this = h.this; variables = h.variables; home = h.home }

  looks : (o : Option ℕ) (q : Option Hit) (m : Activation) (c : quiet.Active) (ms : List Activation) (cs : List quiet.Active) (x : Found) (y : Option Sought) → Hits code o q → SearchStands code m c → length ms ≡ length cs → FoundAs code ms x y → FoundAs code (m ∷ ms) (found_at o (length ms) x) (found_or q c cs y)
  looks None None m c ms cs x y h k n f = further_by m ms x y f
  looks None (Some z) m c ms cs x y h k n f = absurd h
  looks (Some r) None m c ms cs x y h k n f = absurd h
  looks (Some r) (Some z) m c ms cs x y h k n f = record {
    level = sym n;
    resumes = h;
    active = m;
    there = let t : nat_eq (length ms) (length ms) ≡ true = eq-eqb (length ms) (length ms) refl in rw t refl;
    this = k.this;
    variables = k.frame;
    home = ap (λ o. home_of o (length cs)) (sym k.handles) ∙ ap (λ l. home_of m.handles l) (sym n);
  }

  either : (b : Bool) (acts : List Activation) (x w : Found) (y z : Option Sought) → FoundAs code acts x y → FoundAs code acts w z → FoundAs code acts (if b then x else w) (if b then y else z)
  either true acts x w y z f g = f
  either false acts x w y z f g = g

  pub seeks : (o : Option Visited) (e : Event) (ms : List Activation) (cs : List quiet.Active) → Lined (SearchStands code) ms cs → FoundAs code ms (resumed code.rows o e.number ms) (seek o e cs)
  seeks None e [] [] h = tt
  seeks (Some v) e [] [] h = tt
  seeks None e [] (c ∷ cs) h = absurd h
  seeks (Some v) e [] (c ∷ cs) h = absurd h
  seeks None e (m ∷ ms) [] h = absurd h
  seeks (Some v) e (m ∷ ms) [] h = absurd h
  seeks None e (m ∷ ms) (c ∷ cs) (h, r) =
      let g = h.rows in
      let i : m.handles ≡ c.handles = h.handles in
      let u : FoundAs code ms (resumed code.rows m.handles e.number ms) (seek c.handles e cs) = subst (λ o. FoundAs code ms (resumed code.rows o e.number ms) (seek c.handles e cs)) (sym i) (seeks c.handles e ms cs r) in
      let f : Hits code (first_in (sought.Resume e.number) code.rows (chain code.rows m.control)) (hit_in e c.control) = subst (λ ns. Hits code (first_in (sought.Resume e.number) code.rows ns) (hit_in e c.control)) (sym g.under) (finds e c.control g.marks g.at g.follows) in
      looks _ _ m c ms cs _ _ f h (lengths ms cs r) u
  seeks (Some v) e (m ∷ ms) (c ∷ cs) (h, r) =
      let g = h.rows in
      let i : m.handles ≡ c.handles = h.handles in
      let n : length ms ≡ length cs = lengths ms cs r in
      let u : FoundAs code ms (resumed code.rows m.handles e.number ms) (seek c.handles e cs) = subst (λ o. FoundAs code ms (resumed code.rows o e.number ms) (seek c.handles e cs)) (sym i) (seeks c.handles e ms cs r) in
      let f : Hits code (first_in (sought.Resume e.number) code.rows (chain_within v.rest code.rows m.control)) (hit_in e (within_list v.rest c.control)) =
      subst (λ ns. Hits code (first_in (sought.Resume e.number) code.rows (last_of code.rows v.rest ns)) (hit_in e (within_list v.rest c.control))) (sym g.under)
      (finds_within e v.rest c.control g.marks g.at (length (handlers g.marks)) g.follows (omega arith)) in
      let d : nat_eq (length ms) v.level ≡ nat_eq (length cs) v.level = ap (λ x. nat_eq x v.level) n in
      subst (λ b. FoundAs code (m ∷ ms) (if b then found_at (first_in (sought.Resume e.number) code.rows (chain_within v.rest code.rows m.control)) (length ms) (resumed code.rows m.handles e.number ms) else resumed code.rows (Some v) e.number ms) (if nat_eq (length cs) v.level then found_or (hit_in e (within_list v.rest c.control)) c cs (seek c.handles e cs) else seek (Some v) e cs)) (sym d)
      (either (nat_eq (length cs) v.level) (m ∷ ms) _ _ _ _ (looks _ _ m c ms cs _ _ f h n u) (further_by m ms _ _ (seeks (Some v) e ms cs r)))
