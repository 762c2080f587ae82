-- The search for the handler that catches an event finds by rows what the source finds on its to-do lists.
use Rattle.std.proofs.Common.{◌≡◌, ℕ, ◌+◌, List, [], ◌∷◌, ◌++◌, length, Option, Some, None, Bool, true, false, refl, sym, ap, subst, ◌∙◌, arith}
use Rattle.std.specs.Prelude.{if◌then◌else◌, slice_get}
use Rattle.uc_tree.specs.Source.{Handlers}
use Rattle.uc_machine.specs.Quiet as quiet
use Rattle.uc_machine.specs.Quiet.{Todo, Sort, Simple, IsLoop, IsWhole, IsClean, IsFill, IsSweep, IsPart, IsGuard, IsFinish, IsFinishCoroutine, sort, own_line}
use Rattle.uc_machine.specs.Raising.{Event, Handler, handler_for, count_by, count_round}
use Rattle.uc_code.specs.declared.rows.CodeMark.{CodeMark}
use Rattle.uc_code.specs.Layout.{Laid, handlers, chain}
use Rattle.uc_code.specs.CodeShapes.{HandlerAt, clean_up}
use Rattle.uc_code.specs.Lowered.{handler_rows}
use Rattle.uc_frames.specs.declared.search.HandlerQuery.TheVariants as sought
use Rattle.uc_frames.specs.Machine.{Activation}
use Rattle.uc_frames.specs.StandsByParts.{Lined}
use Rattle.uc_frames.specs.Searches.{is_found, first_in}
use Rattle.uc_frames.specs.Stands.{PieceAt, AtGuard, FollowsBy, FollowsAt}
use Rattle.uc_frames.specs.UnwindingStands.{SearchStands}
use Rattle.uc_frames.proofs.Guards.{numbers, guards_rows, Choice, chosen_in, follows_caught}
use Rattle.uc_except.specs.declared.found.Found.{Found}
use Rattle.uc_except.specs.RowSearch.{found_at, caught}
use Rattle.uc_except.specs.FoundAgrees.{catch_or, catch_by, catch_in, Catcher, catcher_or, catcher, Caught, CaughtAs}
use Rattle.uc_except.proofs.Seeks.{last_rows, none_for, lengths}

none_caught_by : (x : Sort) (e : Event) (ps : List Todo) → count_by x + count_round ps ≡ 0 → (count_round ps ≡ 0 → catch_in e ps ≡ None) → catch_by x e (catch_in e ps) ≡ None
none_caught_by Simple e ps q f = f (omega arith)
none_caught_by (IsLoop o t s b) e ps q f = f (omega arith)
none_caught_by IsWhole e ps q f = absurd (omega arith)
none_caught_by (IsClean c) e ps q f = absurd (omega arith)
none_caught_by (IsFill n b d) e ps q f = absurd (omega arith)
none_caught_by (IsSweep s) e ps q f = absurd (omega arith)
none_caught_by (IsPart c) e ps q f = absurd (omega arith)
none_caught_by (IsGuard hs) e ps q f =
    let h : handler_for false e hs ≡ None = none_for false e hs (omega arith) in
    rw h (f (omega arith))
none_caught_by IsFinish e ps q f = absurd (omega arith)
none_caught_by IsFinishCoroutine e ps q f = absurd (omega arith)

none_caught : (e : Event) (ps : List Todo) → count_round ps ≡ 0 → catch_in e ps ≡ None
none_caught e [] q = refl
none_caught e (p ∷ ps) q = none_caught_by (sort p) e ps q (none_caught e ps)

found_by : (b : Bool) (x n : ℕ) (o p : Option ℕ) → (o ≡ Some n → p ≡ Some n) → (if b then Some x else o) ≡ Some n → (if b then Some x else p) ≡ Some n
found_by true x n o p f e = e
found_by false x n o p f e = f e

behind_by : (b : Bool) (x : ℕ) (o p q : Option ℕ) → (o ≡ None → p ≡ q) → (if b then Some x else o) ≡ None → (if b then Some x else p) ≡ q
behind_by true x o p q f e = absurd (cc)
behind_by false x o p q f e = f e

module _ (code : Laid) (e : Event) where
  abbrev look : List ℕ → Option ℕ
  look ns = first_in (sought.Catch e.number) code.rows ns

  past_clean : (row entry : ℕ) (ns : List ℕ) → HandlerAt code row (clean_up entry) → look (row ∷ ns) ≡ look ns
  past_clean row entry ns h =
      let f : is_found (sought.Catch e.number) row (slice_get code.rows row) ≡ false = let t = h.there in let k = h.kind in rw (t, k) refl in
      ap (λ b. if b then Some row else look ns) f

  found_first : (xs ys : List ℕ) (n : ℕ) → look xs ≡ Some n → look (xs ++ ys) ≡ Some n
  found_first [] ys n q = absurd (cc)
  found_first (x ∷ xs) ys n q = found_by (is_found (sought.Catch e.number) x (slice_get code.rows x)) x n (look xs) (look (xs ++ ys)) (found_first xs ys n) q

  found_behind : (xs ys : List ℕ) → look xs ≡ None → look (xs ++ ys) ≡ look ys
  found_behind [] ys q = refl
  found_behind (x ∷ xs) ys q = behind_by (is_found (sought.Catch e.number) x (slice_get code.rows x)) x (look xs) (look (xs ++ ys)) (look ys) (found_behind xs ys) q

  guard_by : (o : Option ℕ) (p : Option Handler) (hs : Handlers) (ps : List Todo) (outer : List CodeMark) (first exit : ℕ) (q : Option Handler) → Choice code outer exit false o p → FollowsAt code ps outer exit → look (numbers first (handler_rows hs)) ≡ o → Caught code (look (handlers outer)) q → Caught code (look (numbers first (handler_rows hs) ++ handlers outer)) (catch_or p q)
  guard_by None None hs ps outer first exit q c f k h = subst (λ o. Caught code o q) (sym (found_behind (numbers first (handler_rows hs)) (handlers outer) k)) h
  guard_by None (Some h) hs ps outer first exit q c f k g = absurd c
  guard_by (Some r) None hs ps outer first exit q c f k g = absurd c
  guard_by (Some r) (Some h) hs ps outer first exit q c f k g =
      subst (λ o. Caught code o (Some h)) (sym (found_first (numbers first (handler_rows hs)) (handlers outer) r k))
      (record { event = c.event; rest = length (handlers outer); entry = c.entry; handler = c.handler; todo = ps; marks = outer; follows = follows_caught code outer exit r h c ps f })

  abbrev Finds : List Todo → Type 0
  Finds ps = (ms : List CodeMark) (k : ℕ) → FollowsAt code ps ms k → Caught code (look (handlers ms)) (catch_in e ps)

  at_guard : (hs : Handlers) (ps : List Todo) (ms : List CodeMark) (k : ℕ) → AtGuard code hs (FollowsAt code ps) ms k → Finds ps → Caught code (look (handlers ms)) (catch_or (handler_for false e hs) (catch_in e ps))
  at_guard hs ps ms k f ih =
      let l : handlers ms ≡ numbers f.first (handler_rows hs) ++ handlers f.outer = ap handlers f.pops ∙ guards_rows f.first (handler_rows hs) f.outer in
      subst (λ ns. Caught code (look ns) (catch_or (handler_for false e hs) (catch_in e ps))) (sym l)
      (guard_by (look (numbers f.first (handler_rows hs))) (handler_for false e hs) hs ps f.outer f.first f.end (catch_in e ps)
      (chosen_in code f.outer f.end false e f.first hs f.from f.to f.handlers) f.on refl (ih f.outer f.end f.on))

  one_row : (ms : List CodeMark) (ns : List ℕ) (row entry : ℕ) (q : Option Handler) → handlers ms ≡ row ∷ ns → HandlerAt code row (clean_up entry) → Caught code (look ns) q → Caught code (look (handlers ms)) q
  one_row ms ns row entry q l h f = subst (λ o. Caught code o q) (sym (ap look l ∙ past_clean row entry ns h)) f

  finds_by : (x : Sort) (P : ℕ → ℕ → Type 0) (ps : List Todo) → Finds ps → (ms : List CodeMark) (k : ℕ) → FollowsBy code (own_line ps) (count_round ps) x P (FollowsAt code ps) ms k → Caught code (look (handlers ms)) (catch_by x e (catch_in e ps))
  finds_by Simple P ps ih ms k f = ih ms f.to f.on
  finds_by (IsLoop o t s b) P ps ih ms k f = subst (λ ns. Caught code (look ns) (catch_in e ps)) (sym (ap handlers f.pops)) (ih f.outer f.end f.on)
  finds_by IsWhole P ps ih ms k f = one_row ms (handlers f.outer) f.row f.entry (catch_in e ps) (ap handlers f.pops) f.handler (ih f.outer f.end f.on)
  finds_by (IsClean c) P ps ih ms k f = one_row ms (handlers f.outer) f.row f.entry (catch_in e ps) (ap handlers f.pops) f.handler (ih f.outer f.to f.on)
  finds_by (IsFill n b d) P ps ih ms k f = one_row ms (handlers f.outer) f.row f.entry (catch_in e ps) (ap handlers f.pops) f.handler (ih f.outer f.end f.on)
  finds_by (IsSweep s) P ps ih ms k f = one_row ms (handlers f.outer) f.row f.entry (catch_in e ps) (ap handlers f.pops) f.handler (ih f.outer f.end f.on)
  finds_by (IsPart c) P ps ih ms k f = one_row ms (handlers f.outer) f.row f.entry (catch_in e ps) (ap handlers f.pops) f.handler (ih f.outer f.end f.on)
  finds_by (IsGuard hs) P ps ih ms k f = at_guard hs ps ms k f ih
  finds_by IsFinish P ps ih ms k f =
      one_row ms [] f.row f.entry (catch_in e ps) (ap handlers f.pops) f.handler (subst (λ q. Caught code None q) (sym (none_caught e ps f.behind)) tt)
  finds_by IsFinishCoroutine P ps ih ms k f =
      one_row ms [] f.row f.entry (catch_in e ps) (ap handlers f.pops) f.handler (subst (λ q. Caught code None q) (sym (none_caught e ps f.behind)) tt)

  finds : (ps : List Todo) → Finds ps
  finds [] ms k f = subst (λ ns. Caught code (look ns) None) (sym (last_rows code ms f.last)) tt
  finds (p ∷ ps) ms k f = finds_by (sort p) (PieceAt code (own_line ps) ms p) ps (finds ps) ms k f

  -- over the activations

  looks : (o : Option ℕ) (q : Option Handler) (n m : ℕ) (x : Found) (y : Option Catcher) → Caught code o q → n ≡ m → CaughtAs code x y → CaughtAs code (found_at o n x) (catcher_or q m y)
  looks None None n m x y h k f = f
  looks None (Some z) n m x y h k f = absurd h
  looks (Some r) None n m x y h k f = absurd h
  looks (Some r) (Some z) n m x y h k f = (sym k, h)

  pub catches_as : (ms : List Activation) (cs : List quiet.Active) → Lined (SearchStands code) ms cs → CaughtAs code (caught code.rows e.number ms) (catcher e cs)
  catches_as [] [] h = tt
  catches_as [] (c ∷ cs) h = absurd h
  catches_as (m ∷ ms) [] h = absurd h
  catches_as (m ∷ ms) (c ∷ cs) h =
      let g = h.0.rows in
      let f : Caught code (first_in (sought.Catch e.number) code.rows (chain code.rows m.control)) (catch_in e c.control) = subst (λ ns. Caught code (look ns) (catch_in e c.control)) (sym g.under) (finds c.control g.marks g.at g.follows) in
      looks (first_in (sought.Catch e.number) code.rows (chain code.rows m.control)) (catch_in e c.control) (length ms) (length cs) (caught code.rows e.number ms) (catcher e cs) f (lengths code ms cs h.1) (catches_as ms cs h.1)
