-- The entries of a row may be appended.
use Rattle.std.proofs.Common.{◌≡◌, ℕ, ℤ, suc, cond, take, get_or, append-nil, ◌==◌, ◌+◌, ◌<◌, ◌≤◌, Bool, true, false, not, List, [], ◌∷◌, ◌++◌, Option, Some, None, refl, sym, ap, ◌∙◌, subst, append_assoc, arith, length}
use Rattle.std.specs.Prelude.{pos, if◌then◌else◌}
use Rattle.std.proofs.lemmas.Bool.{eqb-true}
use Rattle.std.proofs.Math.Seq.{take-suc}
use Rattle.std.proofs.lemmas.List.{length-append, length-take-le}
use Rattle.std.proofs.lemmas.List.Folds.{list_any-append}
use Rattle.uc_tree.specs.declared.limits.TheConstants.{TASKS}
use Rattle.uc_entry.specs.declared.entry.Entry.{Entry}
use Rattle.uc_entry.specs.declared.entry.Options.{Options}
use Rattle.uc_kernel_journal.specs.JournalSums.{Told, told_more}
use Rattle.uc_kernel_journal.specs.EntryAnswers.{IsSayable}
use Rattle.uc_entry.specs.declared.entry.EntryKind.TheVariants as kind
use Rattle.uc_entry.specs.declared.request.Request.{Request}
use Rattle.uc_entry.specs.declared.request.Piece.{Piece}
use Rattle.uc_entry.specs.declared.request.Request.TheVariants as ask
use Rattle.uc_acts.specs.Journal.{Journal, inside, is_over, is_ending, asking, Cost, no_cost, cost}
use Rattle.uc_acts.specs.Queues.{waiting, stacked, next, successor, last_actor, actor}
use Rattle.uc_condition.specs.Waiting.{first_number}
use Rattle.uc_acts.specs.Queues.{is_nobody}
use Rattle.uc_acts.specs.Known.{object_count}
use Rattle.uc_acts.specs.Stations.{Waits, Stacked, Running}
use Rattle.uc_acts.proofs.Noted.{last_actor_push}
use Rattle.uc_acts.proofs.Seats.{waiting_after, stacked_after, inside_after}
use Rattle.uc_acts.proofs.SoundLemmas.{self_test, all_kept, all_kept_nil}
use Rattle.std.specs.List.{filter}
use Rattle.uc_acts.specs.Acts.{row, fault, prints, settled, admission, front, poll_entry}
use Rattle.uc_acts.specs.KernelRuns.{Fits, IsAt}
use Rattle.uc_acts.specs.Sound.{Sound, Spot, At, Ended, spot, here, mover}
use Rattle.uc_acts.specs.Legal.{Legal}
use Rattle.uc_acts.proofs.Moves.{legal_still, object_0, more_objects, inside_now, waiting_now, stacked_now, spot_stays, one_inside}
use Rattle.uc_acts.proofs.Rows.{Lawful, row_lawful, at_run}
use Rattle.uc_kernel_core.specs.Mirrors.{Seen, seen, is_still, Appended, CanPut, MayAct, IsAside, ACT_ENTRIES, rows}

pub goes_on : (j : Journal) (e : Entry) → is_over j ≡ false → is_ending e.kind ≡ false → is_over (j ++ e ∷ []) ≡ false
unfolding is_over
goes_on j e h g = list_any-append (λ e. is_ending e.kind) j (e ∷ []) ∙ rw (h, g)

-- the first entry of a row
pub can_first : (s : Seen) (p t k line : ℕ) (r : Request) (e : Entry) (a : List Entry) → Sound s.journal → MayAct s p t → Fits s.opts s.sites s.journal t r → row s.opts s.sites s.input s.journal p t (cost k line) line r ≡ e ∷ a → e.task < TASKS → CanPut s e
can_first s p t k line r e a snd may fits is known =
    let l : Lawful s.journal (e ∷ a) = subst (Lawful s.journal) is (row_lawful s.opts s.sites s.input s.journal p t (cost k line) line snd may.runs r fits) in
    let room = may.room in
    record { going = may.going; legal = l.0; room = omega arith; task = known }

-- ---- prints
pub can_print : (s : Seen) (p t : ℕ) (k : Cost) (form : ℕ) (value : ℤ) → is_over s.journal ≡ false → length s.journal < s.opts.entries + ACT_ENTRIES → t < TASKS → CanPut s (asking kind.Print p t k 0 (pos form) value)
can_print s p t k form value going room known =
    let e = asking kind.Print p t k 0 (pos form) value in
    record { going = going; legal = legal_still e s.journal (λ u. refl) tt tt (object_0 s.journal e) tt; room = room; task = known }

-- the first carries what its task did, and then none does
abbrev pub cost_at : Cost → ℕ → Cost
cost_at k at = if at == 0 then k else no_cost

-- the entries of some items, of which the first is number n
abbrev pub prints_from : ℕ → ℕ → Cost → ℕ → List Piece → List Entry
prints_from p t k n [] = []
prints_from p t k n (i ∷ is) = asking kind.Print p t (cost_at k n) 0 (pos i.form) i.value ∷ prints_from p t k (n + 1) is

after_first : (p t : ℕ) (k : Cost) (n : ℕ) (is : List Piece) → (n == 0) ≡ false → prints_from p t k n is ≡ prints p t no_cost is
after_first p t k n [] h = refl
after_first p t k n (i ∷ is) h =
    ap (λ b. asking kind.Print p t (cond b k no_cost) 0 (pos i.form) i.value ∷ prints_from p t k (n + 1) is) h ∙ ap (λ l. asking kind.Print p t no_cost 0 (pos i.form) i.value ∷ l) (after_first p t k (n + 1) is (more n (n + 1 == 0) refl))
  where
    more : (n : ℕ) (b : Bool) → (n + 1 == 0) ≡ b → b ≡ false
    more n true e = let f = eqb-true (n + 1) 0 e in absurd (omega arith)
    more n false e = refl

pub all_prints : (p t : ℕ) (k : Cost) (is : List Piece) → prints_from p t k 0 is ≡ prints p t k is
all_prints p t k [] = refl
all_prints p t k (i ∷ is) = ap (λ l. asking kind.Print p t k 0 (pos i.form) i.value ∷ l) (after_first p t k 1 is refl)

pub prints_more : (p t : ℕ) (k : Cost) (n : ℕ) (is : List Piece) (i : Piece) → prints_from p t k n (is ++ i ∷ []) ≡ prints_from p t k n is ++ asking kind.Print p t (cost_at k (n + length is)) 0 (pos i.form) i.value ∷ []
prints_more p t k n [] i = ap (λ m. asking kind.Print p t (cost_at k m) 0 (pos i.form) i.value ∷ []) (omega arith)
prints_more p t k n (x ∷ is) i =
    ap (λ l. asking kind.Print p t (cost_at k n) 0 (pos x.form) x.value ∷ l) (prints_more p t k (n + 1) is i ∙ ap (λ m. prints_from p t k (n + 1) is ++ asking kind.Print p t (cost_at k m) 0 (pos i.form) i.value ∷ []) (omega arith))

pub settled_prints : (f : Entry) (j : Journal) (p t : ℕ) (k : Cost) (is : List Piece) → settled f j (prints p t k is) ≡ prints p t k is
settled_prints f j p t k [] = refl
settled_prints f j p t k (i ∷ is) =
    ap (λ l. asking kind.Print p t k 0 (pos i.form) i.value ∷ l) (settled_prints f (j ++ asking kind.Print p t k 0 (pos i.form) i.value ∷ []) p t no_cost is)

pub prints_length : (p t : ℕ) (k : Cost) (n : ℕ) (is : List Piece) → length (prints_from p t k n is) ≡ length is
prints_length p t k n [] = refl
prints_length p t k n (i ∷ is) = ap suc (prints_length p t k (n + 1) is)

pub prints_going : (j : Journal) (p t : ℕ) (k : Cost) (n : ℕ) (is : List Piece) → is_over j ≡ false → is_over (j ++ prints_from p t k n is) ≡ false
prints_going j p t k n [] h = ap is_over (append-nil j) ∙ h
prints_going j p t k n (i ∷ is) h =
    let e = asking kind.Print p t (cost_at k n) 0 (pos i.form) i.value in
    ap is_over (sym (append_assoc j (e ∷ []) (prints_from p t k (n + 1) is))) ∙ prints_going (j ++ e ∷ []) p t k (n + 1) is (goes_on j e h refl)

-- some entries more
pub appended_both : (s s1 s2 : Seen) (a b : List Entry) → Appended s s1 a → Appended s1 s2 b → Appended s s2 (a ++ b)
appended_both s s1 s2 a b x y = record {
  journal = y.journal ∙ ap (λ l. l ++ b) x.journal ∙ append_assoc s.journal a b;
  sites = y.sites ∙ x.sites;
  opts = y.opts ∙ x.opts;
  input = y.input ∙ x.input;
}

pub appended_none : (s : Seen) → Appended s s []
appended_none s = record { journal = sym (append-nil s.journal); sites = refl; opts = refl; input = refl }

pub print_step : (s s1 s2 : Seen) (p t : ℕ) (k : Cost) (at : ℕ) (x : Cost) (items : List Piece) (d : Piece) → at < length items → x ≡ cost_at k at → Appended s s1 (prints_from p t k 0 (take at items)) → Appended s1 s2 (asking kind.Print p t x 0 (pos (get_or items at d).form) (get_or items at d).value ∷ []) → Appended s s2 (prints_from p t k 0 (take (at + 1) items))
print_step s s1 s2 p t k at x items d lt is a b =
    let i = get_or items at d in
    let size : 0 + length (take at items) ≡ at = let l = length-take-le at items (omega arith) in omega arith in
    let more : prints_from p t k 0 (take at items ++ i ∷ []) ≡ prints_from p t k 0 (take at items) ++ asking kind.Print p t x 0 (pos i.form) i.value ∷ [] = prints_more p t k 0 (take at items) i ∙ ap (λ n. prints_from p t k 0 (take at items) ++ asking kind.Print p t (cost_at k n) 0 (pos i.form) i.value ∷ []) size ∙ ap (λ y. prints_from p t k 0 (take at items) ++ asking kind.Print p t y 0 (pos i.form) i.value ∷ []) (sym is) in
    let next : at + 1 ≡ suc at = omega arith in
    let longer : take (at + 1) items ≡ take at items ++ i ∷ [] = ap (λ n. take n items) next ∙ take-suc items at d lt in
    subst (Appended s s2) (sym (ap (prints_from p t k 0) longer ∙ more)) (appended_both s s1 s2 (prints_from p t k 0 (take at items)) (asking kind.Print p t x 0 (pos i.form) i.value ∷ []) a b)

-- one behind the first carries nothing
pub later_cost : (k : Cost) (at : ℕ) → 1 ≤ at → no_cost ≡ cost_at k at
later_cost k at le = by (at == 0) refl
  where
    by : (b : Bool) → (at == 0) ≡ b → no_cost ≡ cond b k no_cost
    by true e = let f = eqb-true at 0 e in absurd (omega arith)
    by false e = refl

-- all of them
pub print_rows : (s s1 : Seen) (p t k line n at : ℕ) (items : List Piece) → at ≡ n → Appended s s1 (prints_from p t (cost k line) 0 (take at items)) → Appended s s1 (rows s p t k line (ask.Print n items))
print_rows s s1 p t k line n at items is a =
    subst (Appended s s1) (ap (λ m. prints_from p t (cost k line) 0 (take m items)) is ∙ all_prints p t (cost k line) (take n items) ∙ sym (settled_prints (fault p t no_cost 10 line) s.journal p t (cost k line) (take n items))) a

-- ---- entries behind which whoever is next comes in
-- once an entry stands that leaves the stack and the entry queue as they were
module _ (s s1 : Seen) (e : Entry) (ap1 : Appended s s1 (e ∷ [])) (w : waiting e.object (s.journal ++ e ∷ []) ≡ waiting e.object s.journal) (q : stacked e.object (s.journal ++ e ∷ []) ≡ stacked e.object s.journal) where
  same_next : next e.object (s.journal ++ e ∷ []) ≡ next e.object s.journal
  same_next = ap (λ x. successor x (waiting e.object (s.journal ++ e ∷ []))) q ∙ ap (successor (stacked e.object s.journal)) w

  pub then_next : (f : Entry) (p : ℕ) (s2 : Seen) → Appended s1 s2 (settled f s1.journal (admission s1.sites p e.object s1.journal (next e.object s1.journal))) → Appended s s2 (e ∷ settled f (s.journal ++ e ∷ []) (admission s.sites p e.object (s.journal ++ e ∷ []) (next e.object s.journal)))
  then_next f p s2 ap2 =
      let now = s.journal ++ e ∷ [] in
      let same : admission s1.sites p e.object s1.journal (next e.object s1.journal) ≡ admission s.sites p e.object now (next e.object s.journal) = ap (λ x. admission x p e.object s1.journal (next e.object s1.journal)) ap1.sites ∙ ap (λ x. admission s.sites p e.object x (next e.object x)) ap1.journal ∙ ap (admission s.sites p e.object now) same_next in
      let both : settled f s1.journal (admission s1.sites p e.object s1.journal (next e.object s1.journal)) ≡ settled f now (admission s.sites p e.object now (next e.object s.journal)) = ap (λ x. settled f x (admission s1.sites p e.object s1.journal (next e.object s1.journal))) ap1.journal ∙ ap (settled f now) same in
      appended_both s s1 s2 (e ∷ []) (settled f now (admission s.sites p e.object now (next e.object s.journal))) ap1 (subst (Appended s1 s2) both ap2)

-- the entries by which a task goes out leave those lists
pub keeps_waits : (j : Journal) (e : Entry) → ((xs : List (ℕ × ℕ)) → waiting_after e.kind e xs ≡ filter (λ x. true) xs ++ []) → waiting e.object (j ++ e ∷ []) ≡ waiting e.object j
keeps_waits j e h = waiting_now j e ∙ h (waiting e.object j) ∙ all_kept_nil (waiting e.object j)

pub keeps_stack : (j : Journal) (e : Entry) → ((xs : List ℕ) → stacked_after e.kind e xs ≡ filter (λ x. true) xs) → stacked e.object (j ++ e ∷ []) ≡ stacked e.object j
keeps_stack j e h = stacked_now j e ∙ h (stacked e.object j) ∙ all_kept (stacked e.object j)

-- the acting task is aside
pub aside : (j : Journal) (e : Entry) (t o : ℕ) (P : Spot) → actor (last_actor 0 j) e.kind e ≡ t → spot t (j ++ e ∷ []) ≡ P → here (Waits o) P ≡ 0 → here (Stacked o) P ≡ 0 → IsAside t o (j ++ e ∷ [])
aside j e t o P a at w q = record {
  acts = last_actor_push 0 j e ∙ a;
  waits = ap (here (Waits o)) at ∙ w;
  stacked = ap (here (Stacked o)) at ∙ q;
}

-- what the entry by which a task goes out leaves of the next one's
pub record LeavesNext (e : Entry) : Type 0 where
  pub waits : (xs : List (ℕ × ℕ)) → waiting_after e.kind e xs ≡ filter (λ x. true) xs ++ []
  pub stack : (xs : List ℕ) → stacked_after e.kind e xs ≡ filter (λ x. true) xs

pub left_rows : (s s1 s2 : Seen) (e f : Entry) (p : ℕ) → LeavesNext e → Appended s s1 (e ∷ []) → Appended s1 s2 (settled f s1.journal (admission s1.sites p e.object s1.journal (next e.object s1.journal))) → Appended s s2 (e ∷ settled f (s.journal ++ e ∷ []) (admission s.sites p e.object (s.journal ++ e ∷ []) (next e.object s.journal)))
left_rows s s1 s2 e f p l a b =
    then_next s s1 e a (keeps_waits s.journal e l.waits) (keeps_stack s.journal e l.stack) f p s2 b

-- a task that leaves an object and goes on to run
module _ (s : Seen) (p t k line o : ℕ) (snd : Sound s.journal) (may : MayAct s p t) (at : IsAt t o s.journal) (e : Entry) (named : e.object ≡ o) (acts : e.task ≡ t) (is_actor : actor (last_actor 0 s.journal) e.kind e ≡ e.task) (goes : is_ending e.kind ≡ false) (out : (xs : List ℕ) → inside_after e.kind e xs ≡ filter (λ x. not (x == e.task)) xs ++ []) where
  pub leave_within : inside e.object s.journal ≡ e.task ∷ []
  leave_within = ap (λ v. inside v s.journal) named ∙ one_inside s.journal o t snd at.inside ∙ ap (λ u. u ∷ []) (sym acts)

  pub leave_known : e.object < object_count s.journal
  leave_known = rw named at.known.made

  module _ (s1 : Seen) (a : Appended s s1 (e ∷ [])) where
    pub leave_going : is_over s1.journal ≡ false
    leave_going = ap is_over a.journal ∙ goes_on s.journal e may.going goes

    pub leave_there : o < object_count s1.journal
    leave_there = rw a.journal (more_objects s.journal e o at.known.made)

    pub leave_empty : inside o s1.journal ≡ []
    leave_empty =
        let self = self_test e.task in
        ap (inside o) a.journal ∙ ap (λ v. inside v (s.journal ++ e ∷ [])) (sym named) ∙ inside_now s.journal e ∙ out (inside e.object s.journal) ∙ ap (λ l. filter (λ x. not (x == e.task)) l ++ []) leave_within ∙ simp self

    pub leave_room : length s1.journal < s1.opts.entries + ACT_ENTRIES
    leave_room =
        let room = may.room in
        rw (a.journal, a.opts) (omega (arith, length-append s.journal (e ∷ [])))

    pub leave_aside : ((u : ℕ) → mover e.kind e u ≡ false) → IsAside t o s1.journal
    leave_aside moves =
        let run = at_run s.opts s.sites s.input s.journal p t (cost k line) line snd may.runs in
        rw a.journal (aside s.journal e t o (At (Running p)) (is_actor ∙ acts) (spot_stays s.journal e t (moves t) ∙ run) refl refl)

    pub end_aside : spot t (s.journal ++ e ∷ []) ≡ Ended → IsAside t o s1.journal
    end_aside ended = rw a.journal (aside s.journal e t o Ended (is_actor ∙ acts) ended refl refl)

-- one entry more in a journal
pub told_rows : (t t' : Told) (opts : Options) (input : List ℕ) (e : Entry) (a : List Entry) → t' ≡ told_more t e → a ≡ e ∷ [] → Appended (seen t opts input) (seen t' opts input) a
told_rows t t' opts input e a is r = record {
  journal = ap (λ (v : Told). v.journal) is ∙ ap (λ (l : List Entry). t.journal ++ l) (sym r);
  sites = ap (λ (v : Told). v.sites) is;
  opts = refl;
  input = refl;
}

-- the front waiter's number tells whether somebody waits
pub first_nobody : (ws : List (ℕ × ℤ)) → None ≡ first_number ws → true ≡ is_nobody ws
first_nobody [] h = refl
first_nobody (w ∷ ws) h = cc

pub first_somebody : (ws : List (ℕ × ℤ)) (n : ℤ) → Some n ≡ first_number ws → false ≡ is_nobody ws
first_somebody [] n h = cc
first_somebody (w ∷ ws) n h = refl

pub front_none : (ws : List (ℕ × ℤ)) → None ≡ first_number ws → ws ≡ []
front_none [] h = refl
front_none (w ∷ ws) h = cc

pub front_row : (p t : ℕ) (k : Cost) (line o c : ℕ) (n : ℤ) (ws : List (ℕ × ℤ)) → Some n ≡ first_number ws → front p t k line o c ws ≡ asking kind.Front p t k o (pos c) n ∷ []
front_row p t k line o c n [] h = cc
front_row p t k line o c n (w ∷ ws) h = ap (λ m. asking kind.Front p t k o (pos c) m ∷ []) (same w.1 n (sym h))
  where
    same : (a b : ℤ) → Some a ≡ Some b → a ≡ b
    same a b e = cc

-- ---- polls
pub poll_can : (s : Seen) (p t : ℕ) (k : Cost) (mask : ℕ) (x : Option (ℕ × ℤ × ℤ)) → Legal (poll_entry p t k mask x) s.journal
poll_can s p t k mask None =
    let e = poll_entry p t k mask None in
    legal_still e s.journal (λ u. refl) tt tt (object_0 s.journal e) tt
poll_can s p t k mask (Some r) =
    let e = poll_entry p t k mask (Some r) in
    legal_still e s.journal (λ u. refl) tt tt (object_0 s.journal e) tt

pub poll_still : (p t : ℕ) (k : Cost) (mask : ℕ) (x : Option (ℕ × ℤ × ℤ)) → is_still (poll_entry p t k mask x).kind ≡ true
poll_still p t k mask None = refl
poll_still p t k mask (Some r) = refl

pub poll_settled : (f : Entry) (j : Journal) (p t : ℕ) (k : Cost) (mask : ℕ) (x : Option (ℕ × ℤ × ℤ)) → settled f j (poll_entry p t k mask x ∷ []) ≡ poll_entry p t k mask x ∷ []
poll_settled f j p t k mask None = refl
poll_settled f j p t k mask (Some r) = refl

pub poll_sayable : (tasks p t : ℕ) (k : Cost) (mask : ℕ) (x : Option (ℕ × ℤ × ℤ)) → ((r : ℕ × ℤ × ℤ) → x ≡ Some r → r.0 < 256) → IsSayable tasks (poll_entry p t k mask x).kind (poll_entry p t k mask x)
poll_sayable tasks p t k mask None h = omega arith
poll_sayable tasks p t k mask (Some r) h = let lt = h r refl in omega arith

pub poll_task : (p t : ℕ) (k : Cost) (mask : ℕ) (x : Option (ℕ × ℤ × ℤ)) → (poll_entry p t k mask x).task ≡ t
poll_task p t k mask None = refl
poll_task p t k mask (Some r) = refl
