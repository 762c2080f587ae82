-- How an exit passes the marks, one after another, from the innermost one on.
use Rattle.std.proofs.Common.{◌≡◌, ℕ, ◌+◌, ◌-◌, ◌≤◌, ◌<◌, List, [], ◌∷◌, length, get_or, reverse, take, Some, None, refl, ap, sym, subst, ◌∙◌, arith}
use Rattle.std.proofs.lemmas.List.{reverse-reverse, length-reverse, take_all}
use Rattle.uc_tree.specs.Source as source
use Rattle.uc_code.specs.declared.op.Op.{Op}
use Rattle.uc_code.specs.declared.op.Op.TheVariants as op
use Rattle.uc_code.specs.declared.rows.Cleaning.{Cleaning}
use Rattle.uc_code.specs.declared.rows.Cleaning.TheVariants as cleaning
use Rattle.uc_code.specs.declared.rows.CodeMark.{CodeMark}
use Rattle.uc_code.specs.declared.rows.CodeMark.TheVariants as mark
use Rattle.uc_code.specs.declared.rows.Way.{Way}
use Rattle.uc_code.specs.declared.rows.Way.TheVariants as way
use Rattle.uc_code.specs.Drafts.{Draft}
use Rattle.uc_code.specs.Layout.{Laid, routine_in}
use Rattle.uc_code.specs.Exits.{way_of}
use Rattle.uc_code.specs.CodeShapes.{One, main_end}
use Rattle.uc_code.specs.Lowered.{Any, ExitAt}
use Rattle.uc_code.specs.OpenRows.{CleansBehind, exit_room}
use Rattle.uc_code.specs.RowCounts.{exit_rows}
use Rattle.uc_code.specs.Emits.{Puts, PastBehind, PutsPast, Leaves, past_room, outermost, end_op, ends_at}
use Rattle.uc_code.proofs.Closed.{reverse_take}
use Rattle.uc_code.proofs.Exiting.{Passing, passes_clean, passes_guard, passes_part, passes_elements, passes_loop, leaves_mark, leaves_clean, leaves_end}

-- the marks that are left

reversed : (r all : List CodeMark) → reverse r ≡ all → reverse all ≡ r
reversed r all e = ap reverse (sym e) ∙ reverse-reverse r

pub outermost_all : (r all : List CodeMark) → reverse r ≡ all → outermost (length r) all ≡ all
outermost_all r all e = ap (λ (q : List CodeMark). reverse (take (length r) q)) (reversed r all e) ∙ (ap reverse (take_all (length r) r (omega arith)) ∙ e)

pub outermost_next : (r now all : List CodeMark) (i : ℕ) (d : CodeMark) → reverse r ≡ now → now ≡ all → 0 < i → i ≤ length all → outermost i all ≡ get_or r (i - 1) d ∷ outermost (i - 1) all
outermost_next r now all i d e f p l =
    let g : reverse all ≡ r = reversed r all (e ∙ f) in
    let n : length all ≡ length r = ap length (sym (e ∙ f)) ∙ length-reverse r in
    ap (λ (q : List CodeMark). reverse (take i q)) g ∙ (reverse_take r i d p (omega arith) ∙ ap (λ (q : List CodeMark). get_or r (i - 1) d ∷ reverse (take (i - 1) q)) (sym g))

-- where the way ends

some_same : (s t : Op × ℕ) → Some s ≡ Some t → s ≡ t
some_same s t e = cc

module _ (code : Laid) where
  one_end : (t s : Op × ℕ) (a z : ℕ) → t ≡ s → One code s.0 s.1 a z → One code t.0 t.1 a z
  one_end t s a z e h = subst (λ (q : Op × ℕ). One code q.0 q.1 a z) (sym e) h

  any_end : (o : Op) (s : Op × ℕ) (line a z : ℕ) → (o, line) ≡ s → One code s.0 s.1 a z → Any code o a z
  any_end o s line a z e h = record { line = line; one = one_end (o, line) s a z e h }

  ends_exit : (w : Way) (m : CodeMark) (rest : List CodeMark) (line : ℕ) (s : Op × ℕ) (a z : ℕ) → ends_at w m line ≡ Some s → One code s.0 s.1 a z → ExitAt code (way_of w) (m ∷ rest) a z
  ends_exit way.Break (mark.Body routine) rest line s a z e h = one_end (op.Return, 0) s a z (some_same (op.Return, 0) s e) h
  ends_exit way.Break (mark.Finish main routine last row) rest line s a z e h = one_end (main_end main, last) s a z (some_same (main_end main, last) s e) h
  ends_exit way.Break (mark.Loop leave again) rest line s a z e h = any_end (op.Jump leave) s line a z (some_same (op.Jump leave, line) s e) h
  ends_exit way.Break (mark.Whole leave row) rest line s a z e h = any_end (op.Jump leave) s line a z (some_same (op.Jump leave, line) s e) h
  ends_exit way.Break (mark.Guard row) rest line s a z e h = absurd (cc)
  ends_exit way.Break (mark.Clean what last row) rest line s a z e h = absurd (cc)
  ends_exit way.Break (mark.Part row) rest line s a z e h = absurd (cc)
  ends_exit way.Break (mark.Elements row) rest line s a z e h = absurd (cc)
  ends_exit way.Break (mark.Outward below row) rest line s a z e h = one_end (op.Return, 0) s a z (some_same (op.Return, 0) s e) h
  ends_exit way.Continue (mark.Body routine) rest line s a z e h = one_end (op.Return, 0) s a z (some_same (op.Return, 0) s e) h
  ends_exit way.Continue (mark.Finish main routine last row) rest line s a z e h = one_end (main_end main, last) s a z (some_same (main_end main, last) s e) h
  ends_exit way.Continue (mark.Loop leave again) rest line s a z e h = any_end (op.Jump again) s line a z (some_same (op.Jump again, line) s e) h
  ends_exit way.Continue (mark.Whole leave row) rest line s a z e h = any_end (op.Jump leave) s line a z (some_same (op.Jump leave, line) s e) h
  ends_exit way.Continue (mark.Guard row) rest line s a z e h = absurd (cc)
  ends_exit way.Continue (mark.Clean what last row) rest line s a z e h = absurd (cc)
  ends_exit way.Continue (mark.Part row) rest line s a z e h = absurd (cc)
  ends_exit way.Continue (mark.Elements row) rest line s a z e h = absurd (cc)
  ends_exit way.Continue (mark.Outward below row) rest line s a z e h = one_end (op.Return, 0) s a z (some_same (op.Return, 0) s e) h
  ends_exit way.Value (mark.Body routine) rest line s a z e h = one_end (op.ReturnValue, 0) s a z (some_same (op.ReturnValue, 0) s e) h
  ends_exit way.Value (mark.Finish main routine last row) rest line s a z e h = one_end (main_end main, last) s a z (some_same (main_end main, last) s e) h
  ends_exit way.Value (mark.Loop leave again) rest line s a z e h = absurd (cc)
  ends_exit way.Value (mark.Whole leave row) rest line s a z e h = any_end (op.Jump leave) s line a z (some_same (op.Jump leave, line) s e) h
  ends_exit way.Value (mark.Guard row) rest line s a z e h = absurd (cc)
  ends_exit way.Value (mark.Clean what last row) rest line s a z e h = absurd (cc)
  ends_exit way.Value (mark.Part row) rest line s a z e h = absurd (cc)
  ends_exit way.Value (mark.Elements row) rest line s a z e h = absurd (cc)
  ends_exit way.Value (mark.Outward below row) rest line s a z e h = one_end (op.ReturnValue, 0) s a z (some_same (op.ReturnValue, 0) s e) h
  ends_exit way.End (mark.Body routine) rest line s a z e h = one_end (op.ReturnNone, 0) s a z (some_same (op.ReturnNone, 0) s e) h
  ends_exit way.End (mark.Finish main routine last row) rest line s a z e h = one_end (main_end main, last) s a z (some_same (main_end main, last) s e) h
  ends_exit way.End (mark.Loop leave again) rest line s a z e h = absurd (cc)
  ends_exit way.End (mark.Whole leave row) rest line s a z e h = any_end (op.Jump leave) s line a z (some_same (op.Jump leave, line) s e) h
  ends_exit way.End (mark.Guard row) rest line s a z e h = absurd (cc)
  ends_exit way.End (mark.Clean what last row) rest line s a z e h = absurd (cc)
  ends_exit way.End (mark.Part row) rest line s a z e h = absurd (cc)
  ends_exit way.End (mark.Elements row) rest line s a z e h = absurd (cc)
  ends_exit way.End (mark.Outward below row) rest line s a z e h = one_end (op.ReturnNone, 0) s a z (some_same (op.ReturnNone, 0) s e) h

  bare_exit : (w : Way) (a z : ℕ) → One code (end_op w) 0 a z → ExitAt code (way_of w) [] a z
  bare_exit way.Break a z h = h
  bare_exit way.Continue a z h = h
  bare_exit way.Value a z h = h
  bare_exit way.End a z h = h

-- no row is left for a way that has ended

ends_rows : (w : Way) (m : CodeMark) (rest : List CodeMark) (line : ℕ) (s : Op × ℕ) → ends_at w m line ≡ Some s → exit_rows (way_of w) (m ∷ rest) ≡ 0
ends_rows way.Break (mark.Body routine) rest line s e = refl
ends_rows way.Break (mark.Finish main routine last row) rest line s e = refl
ends_rows way.Break (mark.Loop leave again) rest line s e = refl
ends_rows way.Break (mark.Whole leave row) rest line s e = refl
ends_rows way.Break (mark.Guard row) rest line s e = absurd (cc)
ends_rows way.Break (mark.Clean what last row) rest line s e = absurd (cc)
ends_rows way.Break (mark.Part row) rest line s e = absurd (cc)
ends_rows way.Break (mark.Elements row) rest line s e = absurd (cc)
ends_rows way.Break (mark.Outward below row) rest line s e = refl
ends_rows way.Continue (mark.Body routine) rest line s e = refl
ends_rows way.Continue (mark.Finish main routine last row) rest line s e = refl
ends_rows way.Continue (mark.Loop leave again) rest line s e = refl
ends_rows way.Continue (mark.Whole leave row) rest line s e = refl
ends_rows way.Continue (mark.Guard row) rest line s e = absurd (cc)
ends_rows way.Continue (mark.Clean what last row) rest line s e = absurd (cc)
ends_rows way.Continue (mark.Part row) rest line s e = absurd (cc)
ends_rows way.Continue (mark.Elements row) rest line s e = absurd (cc)
ends_rows way.Continue (mark.Outward below row) rest line s e = refl
ends_rows way.Value (mark.Body routine) rest line s e = refl
ends_rows way.Value (mark.Finish main routine last row) rest line s e = refl
ends_rows way.Value (mark.Loop leave again) rest line s e = absurd (cc)
ends_rows way.Value (mark.Whole leave row) rest line s e = refl
ends_rows way.Value (mark.Guard row) rest line s e = absurd (cc)
ends_rows way.Value (mark.Clean what last row) rest line s e = absurd (cc)
ends_rows way.Value (mark.Part row) rest line s e = absurd (cc)
ends_rows way.Value (mark.Elements row) rest line s e = absurd (cc)
ends_rows way.Value (mark.Outward below row) rest line s e = refl
ends_rows way.End (mark.Body routine) rest line s e = refl
ends_rows way.End (mark.Finish main routine last row) rest line s e = refl
ends_rows way.End (mark.Loop leave again) rest line s e = absurd (cc)
ends_rows way.End (mark.Whole leave row) rest line s e = refl
ends_rows way.End (mark.Guard row) rest line s e = absurd (cc)
ends_rows way.End (mark.Clean what last row) rest line s e = absurd (cc)
ends_rows way.End (mark.Part row) rest line s e = absurd (cc)
ends_rows way.End (mark.Elements row) rest line s e = absurd (cc)
ends_rows way.End (mark.Outward below row) rest line s e = refl

bare_rows : (w : Way) → exit_rows (way_of w) [] ≡ 0
bare_rows way.Break = refl
bare_rows way.Continue = refl
bare_rows way.Value = refl
bare_rows way.End = refl

loop_exit_rows : (w : Way) (leave again line : ℕ) (rest : List CodeMark) → ends_at w (mark.Loop leave again) line ≡ None → exit_rows (way_of w) (mark.Loop leave again ∷ rest) ≡ exit_rows (way_of w) rest
loop_exit_rows way.Break leave again line rest e = absurd (cc)
loop_exit_rows way.Continue leave again line rest e = absurd (cc)
loop_exit_rows way.Value leave again line rest e = refl
loop_exit_rows way.End leave again line rest e = refl

guard_exit_rows : (w : source.Way) (row : ℕ) (rest : List CodeMark) → exit_rows w (mark.Guard row ∷ rest) ≡ exit_rows w rest
guard_exit_rows source.ToBreak row rest = refl
guard_exit_rows source.ToContinue row rest = refl
guard_exit_rows source.ToReturn row rest = refl
guard_exit_rows source.ToEnd row rest = refl

part_exit_rows : (w : source.Way) (row : ℕ) (rest : List CodeMark) → exit_rows w (mark.Part row ∷ rest) ≡ exit_rows w rest
part_exit_rows source.ToBreak row rest = refl
part_exit_rows source.ToContinue row rest = refl
part_exit_rows source.ToReturn row rest = refl
part_exit_rows source.ToEnd row rest = refl

elements_exit_rows : (w : source.Way) (row : ℕ) (rest : List CodeMark) → exit_rows w (mark.Elements row ∷ rest) ≡ exit_rows w rest
elements_exit_rows source.ToBreak row rest = refl
elements_exit_rows source.ToContinue row rest = refl
elements_exit_rows source.ToReturn row rest = refl
elements_exit_rows source.ToEnd row rest = refl

exit_least : (ms : List CodeMark) → 1 ≤ exit_room ms
exit_least [] = omega arith
exit_least (mark.Body routine ∷ ms) = omega arith
exit_least (mark.Finish main routine last row ∷ ms) = omega arith
exit_least (mark.Loop leave again ∷ ms) = exit_least ms
exit_least (mark.Whole leave row ∷ ms) = omega arith
exit_least (mark.Guard row ∷ ms) = exit_least ms
exit_least (mark.Clean what last row ∷ ms) = let l = exit_least ms in omega arith
exit_least (mark.Part row ∷ ms) = exit_least ms
exit_least (mark.Elements row ∷ ms) = exit_least ms
exit_least (mark.Outward below row ∷ ms) = omega arith

-- so the room is not used up
pub leaves_room : (w : source.Way) (old now : Draft) (rest : List CodeMark) (most : ℕ) → length old.ops + exit_room old.marks ≤ most → Leaves w old now rest → length now.ops < most
leaves_room w old now rest most l p = let r = p.room in let e = exit_least rest in omega arith

pub exit_ends : (w : Way) (old now new : Draft) (m : CodeMark) (rest : List CodeMark) (line l : ℕ) (o : Op) → ends_at w m line ≡ Some (o, l) → Leaves (way_of w) old now (m ∷ rest) → Puts 0 1 (λ code. One code o l) now new → Puts (exit_rows (way_of w) old.marks) (exit_room old.marks) (λ code. ExitAt code (way_of w) old.marks) old new
exit_ends w old now new m rest line l o e p q = leaves_end (way_of w) old now new (m ∷ rest) o l (exit_least (m ∷ rest)) (ends_rows w m rest line (o, l) e) (λ code a z h. ends_exit code w m rest line (o, l) a z e h) p q

pub exit_bare : (w : Way) (old now new : Draft) → Leaves (way_of w) old now [] → Puts 0 1 (λ code. One code (end_op w) 0) now new → Puts (exit_rows (way_of w) old.marks) (exit_room old.marks) (λ code. ExitAt code (way_of w) old.marks) old new
exit_bare w old now new p q = leaves_end (way_of w) old now new [] (end_op w) 0 (omega arith) (bare_rows w) (λ code a z h. bare_exit code w a z h) p q

-- where it goes on

pub past_fits : (w : Way) (m : CodeMark) (rest : List CodeMark) (line : ℕ) → ends_at w m line ≡ None → past_room m + exit_room rest ≤ exit_room (m ∷ rest)
past_fits w (mark.Body routine) rest line e = absurd (cc)
past_fits w (mark.Finish main routine last row) rest line e = absurd (cc)
past_fits w (mark.Loop leave again) rest line e = omega arith
past_fits w (mark.Whole leave row) rest line e = absurd (cc)
past_fits w (mark.Guard row) rest line e = omega arith
past_fits w (mark.Clean what last row) rest line e = omega arith
past_fits w (mark.Part row) rest line e = omega arith
past_fits w (mark.Elements row) rest line e = omega arith
past_fits w (mark.Outward below row) rest line e = absurd (cc)

pub past_room_left : (w : Way) (old now : Draft) (m : CodeMark) (rest : List CodeMark) (line most : ℕ) → length old.ops + exit_room old.marks ≤ most → ends_at w m line ≡ None → Leaves (way_of w) old now (m ∷ rest) → length now.ops + past_room m ≤ most
past_room_left w old now m rest line most l e p = let r = p.room in let f = past_fits w m rest line e in omega arith

cleans_further : (what : Cleaning) (rest all : List CodeMark) → routine_in rest ≡ routine_in all → CleansBehind rest what → CleansBehind all what
cleans_further (cleaning.Call what) rest all r b = record { behind = λ f. let c = b.behind f in omega arith }
cleans_further cleaning.TakeDown rest all r b = tt
cleans_further cleaning.Forget rest all r b = tt
cleans_further cleaning.Leave rest all r b = tt
cleans_further cleaning.End rest all r b = tt
cleans_further (cleaning.Free main) rest all r b = tt
cleans_further (cleaning.Restore cell) rest all r b = tt

pub past_behind : (m : CodeMark) (all rest now : List CodeMark) → now ≡ all → Passing all (m ∷ rest) → PastBehind m now
past_behind (mark.Body routine) all rest now e p = tt
past_behind (mark.Finish main routine last row) all rest now e p = tt
past_behind (mark.Loop leave again) all rest now e p = tt
past_behind (mark.Whole leave row) all rest now e p = tt
past_behind (mark.Guard row) all rest now e p = tt
past_behind (mark.Clean what last row) all rest now e p = subst (λ (ms : List CodeMark). CleansBehind ms what) (sym e) (cleans_further what rest all p.routine p.behind.0)
past_behind (mark.Part row) all rest now e p = tt
past_behind (mark.Elements row) all rest now e p = tt
past_behind (mark.Outward below row) all rest now e p = tt

pub passes_past : (w : Way) (all : List CodeMark) (m : CodeMark) (rest : List CodeMark) (line : ℕ) → ends_at w m line ≡ None → Passing all (m ∷ rest) → Passing all rest
passes_past w all (mark.Body routine) rest line e p = absurd (cc)
passes_past w all (mark.Finish main routine last row) rest line e p = absurd (cc)
passes_past w all (mark.Loop leave again) rest line e p = passes_loop all leave again rest p
passes_past w all (mark.Whole leave row) rest line e p = absurd (cc)
passes_past w all (mark.Guard row) rest line e p = passes_guard all row rest p
passes_past w all (mark.Clean what last row) rest line e p = passes_clean all what last row rest p
passes_past w all (mark.Part row) rest line e p = passes_part all row rest p
passes_past w all (mark.Elements row) rest line e p = passes_elements all row rest p
passes_past w all (mark.Outward below row) rest line e p = absurd (cc)

guard_exit : (w : source.Way) (code : Laid) (row : ℕ) (rest : List CodeMark) (a z : ℕ) → ExitAt code w rest a z → ExitAt code w (mark.Guard row ∷ rest) a z
guard_exit source.ToBreak code row rest a z h = h
guard_exit source.ToContinue code row rest a z h = h
guard_exit source.ToReturn code row rest a z h = h
guard_exit source.ToEnd code row rest a z h = h

part_exit : (w : source.Way) (code : Laid) (row : ℕ) (rest : List CodeMark) (a z : ℕ) → ExitAt code w rest a z → ExitAt code w (mark.Part row ∷ rest) a z
part_exit source.ToBreak code row rest a z h = h
part_exit source.ToContinue code row rest a z h = h
part_exit source.ToReturn code row rest a z h = h
part_exit source.ToEnd code row rest a z h = h

elements_exit : (w : source.Way) (code : Laid) (row : ℕ) (rest : List CodeMark) (a z : ℕ) → ExitAt code w rest a z → ExitAt code w (mark.Elements row ∷ rest) a z
elements_exit source.ToBreak code row rest a z h = h
elements_exit source.ToContinue code row rest a z h = h
elements_exit source.ToReturn code row rest a z h = h
elements_exit source.ToEnd code row rest a z h = h

loop_exit : (w : Way) (leave again line : ℕ) → ends_at w (mark.Loop leave again) line ≡ None → (code : Laid) (rest : List CodeMark) (a z : ℕ) → ExitAt code (way_of w) rest a z → ExitAt code (way_of w) (mark.Loop leave again ∷ rest) a z
loop_exit way.Break leave again line e code rest a z h = absurd (cc)
loop_exit way.Continue leave again line e code rest a z h = absurd (cc)
loop_exit way.Value leave again line e code rest a z h = h
loop_exit way.End leave again line e code rest a z h = h

same_left : (w : source.Way) (old now next : Draft) (rest : List CodeMark) → next ≡ now → Leaves w old now rest → Leaves w old next rest
same_left w old now next rest e p = subst (λ (d : Draft). Leaves w old d rest) (sym e) p

pub leaves_past : (w : Way) (old now next : Draft) (m : CodeMark) (rest : List CodeMark) (line : ℕ) → ends_at w m line ≡ None → Passing old.marks (m ∷ rest) → Leaves (way_of w) old now (m ∷ rest) → PutsPast m now next → Leaves (way_of w) old next rest
leaves_past w old now next (mark.Body routine) rest line e s p q = absurd (cc)
leaves_past w old now next (mark.Finish main routine last row) rest line e s p q = absurd (cc)
leaves_past w old now next (mark.Loop leave again) rest line e s p q = same_left (way_of w) old now next rest q (leaves_mark (way_of w) old now (mark.Loop leave again) rest refl (loop_exit_rows w leave again line rest e) (λ code a z h. loop_exit w leave again line e code rest a z h) p)
leaves_past w old now next (mark.Whole leave row) rest line e s p q = absurd (cc)
leaves_past w old now next (mark.Guard row) rest line e s p q = same_left (way_of w) old now next rest q (leaves_mark (way_of w) old now (mark.Guard row) rest refl (guard_exit_rows (way_of w) row rest) (λ code a z h. guard_exit (way_of w) code row rest a z h) p)
leaves_past w old now next (mark.Clean what last row) rest line e s p q = leaves_clean (way_of w) old now next what last row rest s p q
leaves_past w old now next (mark.Part row) rest line e s p q = same_left (way_of w) old now next rest q (leaves_mark (way_of w) old now (mark.Part row) rest refl (part_exit_rows (way_of w) row rest) (λ code a z h. part_exit (way_of w) code row rest a z h) p)
leaves_past w old now next (mark.Elements row) rest line e s p q = same_left (way_of w) old now next rest q (leaves_mark (way_of w) old now (mark.Elements row) rest refl (elements_exit_rows (way_of w) row rest) (λ code a z h. elements_exit (way_of w) code row rest a z h) p)
leaves_past w old now next (mark.Outward below row) rest line e s p q = absurd (cc)
