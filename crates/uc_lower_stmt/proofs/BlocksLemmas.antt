-- The end of the scopes of a block: what was laid out step by step becomes the code of its statements.
use Rattle.std.proofs.Common.{◌≡◌, ℕ, suc, ◌+◌, ◌≤◌, ◌<◌, List, [], ◌∷◌, ◌++◌, Bool, true, false, Option, Some, None, length, refl, sym, subst, ap, ◌∙◌, arith}
use Rattle.std.specs.Prelude.{nat_le}
use Rattle.std.proofs.lemmas.Bool.{lt-leb, le-leb}
use Rattle.uc_tree.specs.Source.{CleanUp, Stmts, Then, Scoped, Built}
use Rattle.uc_code.specs.declared.rows.CodeMark.{CodeMark}
use Rattle.uc_code.specs.declared.rows.CodeMark.TheVariants as mark
use Rattle.uc_code.specs.declared.rows.Cleaning.{Cleaning}
use Rattle.uc_code.specs.declared.rows.Cleaning.TheVariants as cleaning
use Rattle.uc_code.specs.Drafts.{Draft}
use Rattle.uc_code.specs.Layout.{Laid, laid_in, routine_in}
use Rattle.uc_code.specs.CodeShapes.{Kept, ScopeOf}
use Rattle.uc_code.specs.ObjectCalls.{Cleans, One, All, TakesDown, IsForgotten, Left, Ended, Freed, Restored}
use Rattle.uc_code.specs.OpenRows.{AllBehind, CleansBehind}
use Rattle.uc_code.specs.Lowered.{CleanAt, PadAt, StmtAt, StmtsAt}
use Rattle.uc_code.proofs.Stable.{kept_refl, kept_then, kept_piece}
use Rattle.uc_lower_stmt.specs.declared.block.ObjectScope.{ObjectScope}
use Rattle.uc_lower_stmt.specs.Blocks.{BlockStands, EndsScopes, EndingScopes, Unended, innermost_by, innermost_in, scope_at, scope_by}
use Rattle.uc_lower_stmt.specs.Marked.{close_room, closing}
use Rattle.uc_lower_stmt.specs.Objects.{ClosesScope, InScope, leaves}
use Rattle.uc_lower_stmt.specs.OpenScopes.{Step, Does, Opens, Builds, NoCall, NoParts, block_of, Pending, Begins, Done, Opened, Parted, ended_rows, way_rows}
use Rattle.uc_lower_stmt.proofs.Ending.{scope_ended}
use Rattle.uc_lower_stmt.proofs.Kept.{stmt_stable, stmts_stable}
use Rattle.uc_lower_stmt.proofs.RowFitting.{fit_refl, fit_then}
use Rattle.uc_lower_stmt.specs.SourceRows.{clean_rows, pad_rows}
use Rattle.uc_code.specs.RowCounts.{array_rows, cleaning_rows, loop_rows, return_rows}

-- what cleans up has as many rows in the tree as in marks

pub cleans_rows : (c : CleanUp) (what : Cleaning) → Cleans c what → cleaning_rows what ≡ clean_rows c
cleans_rows c what (One e w k n) = ap array_rows n
cleans_rows c what (All n size e w k m) = ap array_rows m
cleans_rows c what TakesDown = refl
cleans_rows c what IsForgotten = refl
cleans_rows c what Left = refl
cleans_rows c what Ended = refl
cleans_rows c what (Freed main) = refl
cleans_rows c what (Restored cell) = refl

-- its scope has them twice, where it is no mutex call: at its end, and where it is unwound
pub ends_rows : (c : CleanUp) (what : Cleaning) (out : ℕ) → Cleans c what → NoCall c → clean_rows c + pad_rows out c ≡ cleaning_rows what + cleaning_rows what
ends_rows c what out (One e w k n) x = let r : array_rows w.array ≡ 0 = ap array_rows n in omega (arith, r)
ends_rows c what out (All n size e w k m) x = let r : array_rows w.array ≡ 1 = ap array_rows m in omega (arith, r)
ends_rows c what out TakesDown x = refl
ends_rows c what out IsForgotten x = refl
ends_rows c what out Left x = absurd x
ends_rows c what out Ended x = refl
ends_rows c what out (Freed main) x = refl
ends_rows c what out (Restored cell) x = refl

-- steps that are laid out

module _ (code : Laid) (line : ℕ) (ms : List CodeMark) (a : ℕ) where
  pub pending_rises : (ks : List Step) (ns : List CodeMark) (z : ℕ) → Pending code line ms a ks ns z → a ≤ z
  pending_rises ks ns z Begins = omega arith
  pending_rises ks ns z (Done qs os y w s p at) = let l = pending_rises qs os y p in let m = (stmt_stable os s).rises code y w at in omega arith
  pending_rises ks ns z (Opened qs os y row c what p g) = pending_rises qs os y p
  pending_rises ks ns z (Parted qs os y row c what p g) = pending_rises qs os y p

  pub pending_marks : (ks : List Step) (ns : List CodeMark) (z : ℕ) → Pending code line ms a ks ns z → length ms ≤ length ns
  pending_marks ks ns z Begins = omega arith
  pending_marks ks ns z (Done qs os y w s p at) = pending_marks qs os y p
  pending_marks ks ns z (Opened qs os y row c what p g) = let l = pending_marks qs os y p in omega arith
  pending_marks ks ns z (Parted qs os y row c what p g) = let l = pending_marks qs os y p in omega arith

  pub pending_routine : (ks : List Step) (ns : List CodeMark) (z : ℕ) → Pending code line ms a ks ns z → routine_in ns ≡ routine_in ms
  pending_routine ks ns z Begins = refl
  pending_routine ks ns z (Done qs os y w s p at) = pending_routine qs os y p
  pending_routine ks ns z (Opened qs os y row c what p g) = pending_routine qs os y p
  pending_routine ks ns z (Parted qs os y row c what p g) = pending_routine qs os y p

  -- what leaves these steps has as many rows as their marks say
  pub pending_ways : (ks : List Step) (ns : List CodeMark) (z : ℕ) → Pending code line ms a ks ns z → (loop_rows ns ≡ way_rows ks (loop_rows ms)) × (return_rows ns ≡ way_rows ks (return_rows ms))
  pending_ways ks ns z Begins = (refl, refl)
  pending_ways ks ns z (Done qs os y w s p at) = pending_ways qs os y p
  pending_ways ks ns z (Opened qs os y row c what p g) =
      let r = pending_ways qs os y p in
      let e = cleans_rows c what g in
      let f : suc (cleaning_rows what + loop_rows os) ≡ suc (clean_rows c + way_rows qs (loop_rows ms)) = omega (arith, r.0, e) in
      let h : suc (cleaning_rows what + return_rows os) ≡ suc (clean_rows c + way_rows qs (return_rows ms)) = omega (arith, r.1, e) in
      (f, h)
  pending_ways ks ns z (Parted qs os y row c what p g) = pending_ways qs os y p

  pub pending_kept : (new : Laid) (ks : List Step) (ns : List CodeMark) (z : ℕ) → z ≤ length code.ops → Kept code new → Pending code line ms a ks ns z → Pending new line ms a ks ns z
  pending_kept new ks ns z l k Begins = Begins
  pending_kept new ks ns z l k (Done qs os y w s p at) =
      let m = (stmt_stable os s).rises code y w at in
      Done qs os y w s (pending_kept new qs os y (omega arith) k p) (kept_piece (λ c. StmtAt c os s) (stmt_stable os s) code new y w l k at)
  pending_kept new ks ns z l k (Opened qs os y row c what p g) = Opened qs os y row c what (pending_kept new qs os y l k p) g
  pending_kept new ks ns z l k (Parted qs os y row c what p g) = Parted qs os y row c what (pending_kept new qs os y l k p) g

  pub pending_join : (ks : List Step) (ns : List CodeMark) (y : ℕ) → Pending code line ms a ks ns y → (js : List Step) (os : List CodeMark) (z : ℕ) → Pending code line ns y js os z → Pending code line ms a (js ++ ks) os z
  pending_join ks ns y p js os z Begins = p
  pending_join ks ns y p js os z (Done qs ps x w s q at) = Done (qs ++ ks) ps x w s (pending_join ks ns y p qs ps x q) at
  pending_join ks ns y p js os z (Opened qs ps x row c what q g) = Opened (qs ++ ks) ps x row c what (pending_join ks ns y p qs ps x q) g
  pending_join ks ns y p js os z (Parted qs ps x row c what q g) = Parted (qs ++ ks) ps x row c what (pending_join ks ns y p qs ps x q) g

  -- where statements at the end of a block have taken up those before them: the whole block stands, or the scope of an object is the
  -- innermost that is left
  pub data Taken (ns : List CodeMark) (z : ℕ) (whole : Stmts) (due : ℕ) : Type 0 where
    Whole : ns ≡ ms → due ≡ 0 → StmtsAt code ns line whole a z → Taken ns z whole due
    Within : (ks : List Step) (os : List CodeMark) (y row : ℕ) (c : CleanUp) (what : Cleaning) (ss : Stmts) → NoCall c → NoParts ks → ns ≡ mark.Clean what line row ∷ os → due ≡ clean_rows c + pad_rows (way_rows ks (return_rows ms)) c + ended_rows (return_rows ms) ks → Pending code line ms a ks os y → Cleans c what → StmtsAt code ns line ss y z
        → block_of ks (Scoped c ss) ≡ whole → Taken ns z whole due

  pub taken_up : (ks : List Step) (ns : List CodeMark) (y z : ℕ) (ss : Stmts) → NoParts ks → Pending code line ms a ks ns y → StmtsAt code ns line ss y z → Taken ns z (block_of ks ss) (ended_rows (return_rows ms) ks)
  taken_up ks ns y z ss n Begins h = Whole refl refl h
  taken_up ks ns y z ss n (Done qs os x w s p at) h = taken_up qs os x z (Then s ss) n p (record { middle = y; first = at; second = h })
  taken_up ks ns y z ss n (Opened qs os x row c what p g) h = Within qs os y row c what ss n.0 n.1 refl refl p g h refl
  taken_up ks ns y z ss n (Parted qs os x row c what p g) h = absurd n

pub block_join : (js ks : List Step) (ss : Stmts) → block_of (js ++ ks) ss ≡ block_of ks (block_of js ss)
block_join [] ks ss = refl
block_join (Does s ∷ js) ks ss = block_join js ks (Then s ss)
block_join (Opens c ∷ js) ks ss = block_join js ks (Scoped c ss)
block_join (Builds c ∷ js) ks ss = block_join js ks (Built c ss)

pub none_join : (js ks : List Step) → NoParts js → NoParts ks → NoParts (js ++ ks)
none_join [] ks m n = n
none_join (Does s ∷ js) ks m n = none_join js ks m n
none_join (Opens c ∷ js) ks m n = (m.0, none_join js ks m.1 n)
none_join (Builds c ∷ js) ks m n = absurd m

-- the innermost scope

none_some : (o : ObjectScope) → (let n : Option ObjectScope = None in n ≡ Some o) → ⊥
none_some o e = cc

-- that is no mutex call

same_scope : (w : Cleaning) (l : ℕ) (o : ObjectScope) → Some (record { what = w; line = l }) ≡ Some o → (w ≡ o.what) × (l ≡ o.line)
same_scope w l o e =
    let f : (record { what = w; line = l }) ≡ o = cc in
    (ap (λ (x : ObjectScope). x.what) f, ap (λ (x : ObjectScope). x.line) f)

found_scope : (w : Cleaning) (l : ℕ) (o : ObjectScope) → leaves w ≡ false → Some (record { what = w; line = l }) ≡ Some o → (w ≡ o.what) × ((l ≡ o.line) × (leaves o.what ≡ false))
found_scope w l o n e = let f = same_scope w l o e in (f.0, (f.1, subst (λ (x : Cleaning). leaves x ≡ false) f.0 n))

clean_by : (what : Cleaning) (line : ℕ) (o : ObjectScope) → scope_by what line ≡ Some o → (what ≡ o.what) × ((line ≡ o.line) × (leaves o.what ≡ false))
clean_by (cleaning.Call what) line o e = found_scope (cleaning.Call what) line o refl e
clean_by cleaning.TakeDown line o e = found_scope cleaning.TakeDown line o refl e
clean_by cleaning.Forget line o e = found_scope cleaning.Forget line o refl e
clean_by cleaning.Leave line o e = absurd (none_some o e)
clean_by cleaning.End line o e = found_scope cleaning.End line o refl e
clean_by (cleaning.Free main) line o e = found_scope (cleaning.Free main) line o refl e
clean_by (cleaning.Restore cell) line o e = found_scope (cleaning.Restore cell) line o refl e

-- the clean-up of what is no mutex call has a scope here
clean_some : (c : CleanUp) (what : Cleaning) (line : ℕ) → Cleans c what → NoCall c → scope_by what line ≡ Some (record { what = what; line = line })
clean_some c what line (One e w k n) x = refl
clean_some c what line (All n size e w k m) x = refl
clean_some c what line TakesDown x = refl
clean_some c what line IsForgotten x = refl
clean_some c what line Left x = absurd x
clean_some c what line Ended x = refl
clean_some c what line (Freed main) x = refl
clean_some c what line (Restored cell) x = refl

clean_scope : (m : CodeMark) (ms : List CodeMark) (o : ObjectScope) → scope_at m ≡ Some o → AllBehind (m ∷ ms) → InScope o.what o.line (m ∷ ms) × (leaves o.what ≡ false)
clean_scope (mark.Clean what line row) ms o e b =
    let f = clean_by what line o e in
    (record { row = row; outer = ms; is = ap (λ (x : Cleaning). mark.Clean x line row ∷ ms) f.0 ∙ ap (λ (x : ℕ). mark.Clean o.what x row ∷ ms) f.1.0; behind = subst (λ (x : Cleaning). CleansBehind ms x) f.0 b.0 }, f.1.1)
clean_scope (mark.Body routine) ms o e b = absurd (none_some o e)
clean_scope (mark.Finish main routine line row) ms o e b = absurd (none_some o e)
clean_scope (mark.Loop leave again) ms o e b = absurd (none_some o e)
clean_scope (mark.Whole leave row) ms o e b = absurd (none_some o e)
clean_scope (mark.Guard row) ms o e b = absurd (none_some o e)
clean_scope (mark.Part row) ms o e b = absurd (none_some o e)
clean_scope (mark.Elements row) ms o e b = absurd (none_some o e)
clean_scope (mark.Outward below row) ms o e b = absurd (none_some o e)

innermost_scope : (b : Bool) (ms : List CodeMark) (o : ObjectScope) → innermost_by b ms ≡ Some o → AllBehind ms → InScope o.what o.line ms × (leaves o.what ≡ false)
innermost_scope true ms o e b = absurd (none_some o e)
innermost_scope false [] o e b = absurd (none_some o e)
innermost_scope false (m ∷ ms) o e b = clean_scope m ms o e b

pub in_scope : (ms : List CodeMark) (count : ℕ) (o : ObjectScope) → innermost_in ms count ≡ Some o → AllBehind ms → InScope o.what o.line ms
in_scope ms count o e b = (innermost_scope (nat_le (length ms) count) ms o e b).0

pub no_call : (ms : List CodeMark) (count : ℕ) (o : ObjectScope) → innermost_in ms count ≡ Some o → AllBehind ms → leaves o.what ≡ false
no_call ms count o e b = (innermost_scope (nat_le (length ms) count) ms o e b).1

few_marks : (ms : List CodeMark) (count : ℕ) (o : ObjectScope) → length ms ≤ count → innermost_in ms count ≡ Some o → ⊥
few_marks ms count o l e = none_some o (sym (ap (λ (b : Bool). innermost_by b ms) (le-leb (length ms) count l)) ∙ e)

many_marks : (ms : List CodeMark) (count row line : ℕ) (c : CleanUp) (what : Cleaning) (os : List CodeMark) → Cleans c what → NoCall c → ms ≡ mark.Clean what line row ∷ os → count ≤ length os → innermost_in ms count ≡ None → ⊥
many_marks ms count row line c what os g x e l n =
    let t : innermost_in (mark.Clean what line row ∷ os) count ≡ None = ap (λ (xs : List CodeMark). innermost_in xs count) (sym e) ∙ n in
    let f : nat_le (length (mark.Clean what line row ∷ os)) count ≡ false = lt-leb (length (mark.Clean what line row ∷ os)) count (omega arith) in
    none_some (record { what = what; line = line }) (sym t ∙ (ap (λ (b : Bool). innermost_by b (mark.Clean what line row ∷ os)) f ∙ clean_some c what line g x))

-- the end of the scope of that mark is reckoned
pub scope_room : (what : Cleaning) (line : ℕ) (ms : List CodeMark) → InScope what line ms → close_room what ≤ closing ms
scope_room what line ms h = let e : closing ms ≡ close_room what + closing h.outer = ap closing h.is in omega (arith, e)

-- how scopes end, one after another

pub ending_none : (count : ℕ) (d : Draft) → EndingScopes count d d
ending_none count d = record {
  rest = refl;
  kept = kept_refl (laid_in d);
  ends = 0;
  rows = fit_refl d;
  room = omega arith;
  block = λ line a y ks ms ss l n p h. record { steps = ks; none = n; rows = refl; behind = ss; middle = y; before = p; code = h; same = refl };
}

same_mark : (what : Cleaning) (line row : ℕ) (os : List CodeMark) (w : Cleaning) (k r : ℕ) (ps : List CodeMark) → mark.Clean what line row ∷ os ≡ mark.Clean w k r ∷ ps → (what ≡ w) × (line ≡ k)
same_mark what line row os w k r ps e = (cc, cc)

module _ (count : ℕ) (scope : ObjectScope) (now next : Draft) (at : innermost_in now.marks count ≡ Some scope) (all : AllBehind now.marks) (h : ClosesScope (close_room scope.what) scope.what scope.line now next) where
  scope_next : (line : ℕ) (ms : List CodeMark) (whole : Stmts) (a total : ℕ) → length ms ≡ count → Unended line ms whole a total now → Unended line ms whole a total next
  scope_next line ms whole a total l u = by_taken (taken_up (laid_in now) line ms a u.steps now.marks u.middle (length now.ops) u.behind u.none u.before u.code)
    where
      by_taken : Taken (laid_in now) line ms a now.marks (length now.ops) (block_of u.steps u.behind) (ended_rows (return_rows ms) u.steps) → Unended line ms whole a total next
      by_taken (Whole e due s) = absurd (few_marks now.marks count scope (let f : length now.marks ≡ length ms = ap length e in omega arith) at)
      by_taken (Within ks os y row c what ss x n e due p g s q) =
          let i : InScope scope.what scope.line now.marks = in_scope now.marks count scope at all in
          let m = same_mark what line row os scope.what scope.line i.row i.outer (sym e ∙ i.is) in
          let f : now.marks ≡ mark.Clean scope.what scope.line row ∷ os = e ∙ (ap (λ (x : Cleaning). mark.Clean x line row ∷ os) m.0 ∙ ap (λ (x : ℕ). mark.Clean scope.what x row ∷ os) m.1) in
          let ends = h.scope row os f in
          let marks : next.marks ≡ os = h.marks row os f in
          let body : StmtsAt (laid_in next) (mark.Clean what line row ∷ os) line ss y (length now.ops) =
          subst (λ (xs : List CodeMark). StmtsAt (laid_in next) xs line ss y (length now.ops)) e (kept_piece (λ k. StmtsAt k now.marks line ss) (stmts_stable now.marks line ss) (laid_in now) (laid_in next) y (length now.ops) (omega arith) h.kept s) in
          let rises = (stmts_stable now.marks line ss).rises (laid_in now) y (length now.ops) s in
          let there = pending_kept (laid_in now) line ms a (laid_in next) ks os y (omega arith) h.kept p in
          let ended =
          subst (λ (x : Cleaning). ScopeOf (laid_in next) line os (λ r. mark.Clean x line r) (CleanAt (laid_in next) line x os) (PadAt (laid_in next) line x os) (λ xs. StmtsAt (laid_in next) xs line ss) y (length next.ops)) (sym m.0) (
          subst (λ (k : ℕ). ScopeOf (laid_in next) k os (λ r. mark.Clean scope.what k r) (CleanAt (laid_in next) k scope.what os) (PadAt (laid_in next) k scope.what os) (λ xs. StmtsAt (laid_in next) xs line ss) y (length next.ops)) (sym m.1) (
          scope_ended (laid_in next) scope.line os scope.what row (λ xs. StmtsAt (laid_in next) xs line ss) y (length now.ops) (length next.ops) (
          subst (λ (k : ℕ). StmtsAt (laid_in next) (mark.Clean scope.what k row ∷ os) line ss y (length now.ops)) m.1 (
          subst (λ (x : Cleaning). StmtsAt (laid_in next) (mark.Clean x line row ∷ os) line ss y (length now.ops)) m.0 body)) ends)) in
          record {
            steps = ks;
            none = n;
            rows =
                let k = ends_rows c what (way_rows ks (return_rows ms)) g x in
                let w : cleaning_rows what ≡ cleaning_rows scope.what = ap cleaning_rows m.0 in
                let grown = h.rows.more in
                let there = u.rows in
                omega (arith, k, w, grown, there, due);
            behind = Scoped c ss;
            middle = y;
            before = subst (λ (xs : List CodeMark). Pending (laid_in next) line ms a ks xs y) (sym marks) there;
            code = subst (λ (xs : List CodeMark). StmtsAt (laid_in next) xs line (Scoped c ss) y (length next.ops)) (sym marks) (record { what = what; cleans = g; scope = ended });
            same = q ∙ u.same;
          }

  pub ending_next : (old : Draft) → EndingScopes count old now → EndingScopes count old next
  ending_next old u =
      let i : InScope scope.what scope.line now.marks = in_scope now.marks count scope at all in
      let m : next.marks ≡ i.outer = h.marks i.row i.outer i.is in
      let o : closing now.marks ≡ close_room scope.what + closing i.outer = ap closing i.is in
      let q : closing next.marks ≡ closing i.outer = ap closing m in
      record {
        rest = h.rest ∙ ap (λ (d : Draft). let e : Draft = record d { ops = next.ops; rows = next.rows; settled = next.settled; marks = next.marks } in e) u.rest;
        kept = kept_then (laid_in old) (laid_in now) (laid_in next) u.kept h.kept;
        ends = u.ends + (cleaning_rows scope.what + cleaning_rows scope.what);
        rows = fit_then h.kept.longer u.rows h.rows;
        room = (let r = h.room in let s = u.room in omega (arith, o, q));
        block = λ line a y ks ms ss l n p k. scope_next line ms (block_of ks ss) a (length old.rows + ended_rows (return_rows ms) ks) l (u.block line a y ks ms ss l n p k);
      }

  pub fewer_marks : length next.marks < length now.marks
  fewer_marks =
      let i : InScope scope.what scope.line now.marks = in_scope now.marks count scope at all in
      let m : length next.marks ≡ length i.outer = ap length (h.marks i.row i.outer i.is) in
      let o : length now.marks ≡ suc (length i.outer) = ap length i.is in
      omega arith

pub scopes_ended : (count : ℕ) (old now : Draft) → innermost_in now.marks count ≡ None → EndingScopes count old now → EndsScopes count old now
scopes_ended count old now none u = record {
  rest = u.rest;
  kept = u.kept;
  ends = u.ends;
  rows = u.rows;
  room = u.room;
  block = λ line a y ks ms ss l n p h. stands line ms (block_of ks ss) a (length old.rows + ended_rows (return_rows ms) ks) l (u.block line a y ks ms ss l n p h);
}
  where
    stands : (line : ℕ) (ms : List CodeMark) (whole : Stmts) (a total : ℕ) → length ms ≡ count → Unended line ms whole a total now → BlockStands line ms whole a total now
    stands line ms whole a total l w = by_taken (taken_up (laid_in now) line ms a w.steps now.marks w.middle (length now.ops) w.behind w.none w.before w.code)
      where
        by_taken : Taken (laid_in now) line ms a now.marks (length now.ops) (block_of w.steps w.behind) (ended_rows (return_rows ms) w.steps) → BlockStands line ms whole a total now
        by_taken (Whole e due s) = record { marks = e; rows = (let r = w.rows in omega (arith, r, due)); code = subst (λ (ss : Stmts). StmtsAt (laid_in now) ms line ss a (length now.ops)) w.same (subst (λ (xs : List CodeMark). StmtsAt (laid_in now) xs line (block_of w.steps w.behind) a (length now.ops)) e s) }
        by_taken (Within ks os y row c what ss x n e due p g s q) =
            let k = pending_marks (laid_in now) line ms a ks os y p in
            absurd (many_marks now.marks count row line c what os g x e (omega arith) none)
