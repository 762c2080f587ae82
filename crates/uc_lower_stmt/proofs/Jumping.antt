-- Jumps that stand before branches get their places.
use Rattle.std.proofs.Common.{◌≡◌, ℕ, zero, suc, ◌+◌, ◌≤◌, ◌<◌, List, [], ◌∷◌, Option, Some, None, length, refl, ap, sym, subst, ◌∙◌, arith}
use Rattle.std.specs.Prelude.{slice_get}
use Rattle.std.proofs.lemmas.Option.{slice_get_within}
use Rattle.uc_resolve.specs.Resolve.{Scope}
use Rattle.uc_code.specs.declared.op.Op.{Op}
use Rattle.uc_code.specs.declared.op.Op.TheVariants as op
use Rattle.uc_code.specs.declared.rows.Instruction.{Instruction}
use Rattle.uc_code.specs.Drafts.{Draft, patched}
use Rattle.uc_code.specs.Layout.{Laid, laid_in}
use Rattle.uc_code.specs.CodeShapes.{JumpsAt, Kept, OpAt, Same, Stable}
use Rattle.uc_code.proofs.Patches.{bare_stays, handler_stays, length-patched, patched_at, same_after, same_before}
use Rattle.uc_code.proofs.Stable.{nothing_stable, one_stable, same_then}
use Rattle.uc_lower_expr.proofs.Settled.{both}
use Rattle.uc_lower_stmt.specs.Accepting.{choice_set, jumps_set}
use Rattle.uc_lower_stmt.specs.LowersStatement.{Lowers}
use Rattle.uc_lower_stmt.proofs.RowFitting.{fit_like}

pub jumps_stable : (line : ℕ) (tos : List ℕ) → Stable (λ code. JumpsAt code line tos)
jumps_stable line [] = nothing_stable
jumps_stable line (to ∷ tos) = both (one_stable (op.Jump to) line) (jumps_stable line tos)

-- the same op at a place of two codes, one of which goes on behind the other

patched_front : (xs ys : List Instruction) (at : ℕ) (o : Op) → ((i : ℕ) (x : Instruction) → slice_get xs i ≡ Some x → slice_get ys i ≡ Some x) → (i : ℕ) (x : Instruction) → slice_get (patched xs at o) i ≡ Some x → slice_get (patched ys at o) i ≡ Some x
patched_front [] ys at o f i w e = absurd (cc)
patched_front (x ∷ xs) [] at o f i w e = let g : None ≡ Some x = f zero x refl in absurd (cc)
patched_front (x ∷ xs) (y ∷ ys) zero o f zero w e =
    let g : Some y ≡ Some x = f zero x refl in
    let same : y ≡ x = cc in
    ap (λ (j : Instruction). let k : Option Instruction = Some (record { op = o; line = j.line }) in k) same ∙ e
patched_front (x ∷ xs) (y ∷ ys) zero o f (suc i) w e = f (suc i) w e
patched_front (x ∷ xs) (y ∷ ys) (suc at) o f zero w e = f zero w e
patched_front (x ∷ xs) (y ∷ ys) (suc at) o f (suc i) w e = patched_front xs ys at o (λ j v h. f (suc j) v h) i w e

abbrev pub one_set : ℕ → Op → Laid → Laid
one_set at o code = record { ops = patched code.ops at o; rows = code.rows }

kept_one : (old new : Laid) (at : ℕ) (o : Op) → Kept old new → Kept (one_set at o old) (one_set at o new)
kept_one old new at o k = record {
  longer = let a = length-patched old.ops at o in let b = length-patched new.ops at o in let l = k.longer in omega arith;
  same = λ i x line h. record { here = patched_front old.ops new.ops at o (λ j v w. (k.same j v.op v.line (record { here = w })).here) i (record { op = x; line = line }) h.here };
  chains = λ next l. let a = length-patched old.ops at o in k.chains next (omega arith);
  handlers = λ n e h. handler_stays new (one_set at o new) refl n e (k.handlers n e (handler_stays (one_set at o old) old refl n e h));
  bare = λ n h. bare_stays new (one_set at o new) refl n (k.bare n (bare_stays (one_set at o old) old refl n h));
}

-- what was laid out before a place stays where the op at the place is another one
pub kept_until : (old now : Laid) (at : ℕ) (o : Op) → Kept old now → length old.ops ≤ at → Kept old (one_set at o now)
kept_until old now at o k l = record {
  longer = let e = length-patched now.ops at o in let x = k.longer in omega arith;
  same = λ i was line w. let x = slice_get_within old.ops i (record { op = was; line = line }) w.here in (same_before now at o 0 at (omega arith)).same i was line (omega arith) (omega arith) (k.same i was line w);
  chains = λ next b. k.chains next b;
  handlers = λ number entry w. handler_stays now (one_set at o now) refl number entry (k.handlers number entry w);
  bare = λ number w. bare_stays now (one_set at o now) refl number (k.bare number w);
}

-- jumps one after another

abbrev pub all_set : ℕ → List ℕ → Laid → Laid
all_set at tos code = record { ops = jumps_set code.ops at tos; rows = code.rows }

length_jumps : (ops : List Instruction) (at : ℕ) (tos : List ℕ) → length (jumps_set ops at tos) ≡ length ops
length_jumps ops at [] = refl
length_jumps ops at (to ∷ tos) = length_jumps (patched ops at (op.Jump to)) (at + 1) tos ∙ length-patched ops at (op.Jump to)

kept_jumps : (tos : List ℕ) (old new : Laid) (at : ℕ) → Kept old new → Kept (all_set at tos old) (all_set at tos new)
kept_jumps [] old new at k = k
kept_jumps (to ∷ tos) old new at k = kept_jumps tos (one_set at (op.Jump to) old) (one_set at (op.Jump to) new) (at + 1) (kept_one old new at (op.Jump to) k)

until_jumps : (tos : List ℕ) (old now : Laid) (at : ℕ) → Kept old now → length old.ops ≤ at → Kept old (all_set at tos now)
until_jumps [] old now at k l = k
until_jumps (to ∷ tos) old now at k l = until_jumps tos old (one_set at (op.Jump to) now) (at + 1) (kept_until old now at (op.Jump to) k l) (omega arith)

same_all : (code : Laid) (a z : ℕ) → Same code code a z
same_all code a z = record { same = λ i o line l m h. h; chains = λ next l m. refl; handlers = λ n e h. h }

jumps_after : (tos : List ℕ) (code : Laid) (at a z : ℕ) → at + length tos ≤ a → Same code (all_set at tos code) a z
jumps_after [] code at a z l = same_all code a z
jumps_after (to ∷ tos) code at a z l =
    let next : Laid = one_set at (op.Jump to) code in
    same_then code next (all_set (at + 1) tos next) a z (same_after code at (op.Jump to) a z (omega arith)) (jumps_after tos next (at + 1) a z (omega arith))

jumps_before : (tos : List ℕ) (code : Laid) (at a z : ℕ) → z ≤ at → Same code (all_set at tos code) a z
jumps_before [] code at a z l = same_all code a z
jumps_before (to ∷ tos) code at a z l =
    let next : Laid = one_set at (op.Jump to) code in
    same_then code next (all_set (at + 1) tos next) a z (same_before code at (op.Jump to) a z l) (jumps_before tos next (at + 1) a z (omega arith))

set_jumps : (line : ℕ) (tos : List ℕ) (code : Laid) (at z : ℕ) → ((i : ℕ) → i < length tos → OpAt code (at + i) (op.Jump 0) line) → z ≡ at + length tos → JumpsAt (all_set at tos code) line tos at z
set_jumps line [] code at z f e = record { end = omega (arith, e) }
set_jumps line (to ∷ tos) code at z f e =
    let next : Laid = one_set at (op.Jump to) code in
    let last : Laid = all_set (at + 1) tos next in
    let start : at + 0 ≡ at = omega arith in
    let here : OpAt next at (op.Jump to) line = patched_at code at (op.Jump to) (op.Jump 0) line (subst (λ (x : ℕ). OpAt code x (op.Jump 0) line) start (f 0 (omega arith))) in
    record {
      middle = at + 1;
      first = record { here = (jumps_before tos next (at + 1) at (at + 1) (omega arith)).same at (op.Jump to) line (omega arith) (omega arith) here; end = refl };
      second = set_jumps line tos next (at + 1) z
          (λ i l. let on : at + suc i ≡ at + 1 + i = omega arith in
          (same_after code at (op.Jump to) (at + 1) (at + 2 + i) (omega arith)).same (at + 1 + i) (op.Jump 0) line (omega arith) (omega arith) (subst (λ (x : ℕ). OpAt code x (op.Jump 0) line) on (f (suc i) (omega arith))))
          (omega (arith, e));
    }

-- those of a choice

module _ (else_at first otherwise : ℕ) (places : List ℕ) where
  abbrev pub chosen : Laid → Laid
  chosen code = one_set else_at (op.Jump otherwise) (all_set first places code)

  pub length_chosen : (ops : List Instruction) → length (patched (jumps_set ops first places) else_at (op.Jump otherwise)) ≡ length ops
  length_chosen ops = length-patched (jumps_set ops first places) else_at (op.Jump otherwise) ∙ length_jumps ops first places

  kept_chosen : (old new : Laid) → Kept old new → Kept (chosen old) (chosen new)
  kept_chosen old new k = kept_one (all_set first places old) (all_set first places new) else_at (op.Jump otherwise) (kept_jumps places old new first k)

  pub until_chosen : (old now : Laid) → Kept old now → length old.ops ≤ else_at → length old.ops ≤ first → Kept old (chosen now)
  until_chosen old now k l m = kept_until old (all_set first places now) else_at (op.Jump otherwise) (until_jumps places old now first k m) l

  pub after_chosen : (code : Laid) (a z : ℕ) → else_at < a → first + length places ≤ a → Same code (chosen code) a z
  after_chosen code a z l m =
      same_then code (all_set first places code) (chosen code) a z (jumps_after places code first a z m) (same_after (all_set first places code) else_at (op.Jump otherwise) a z l)

  pub before_chosen : (code : Laid) (a z : ℕ) → z ≤ else_at → z ≤ first → Same code (chosen code) a z
  before_chosen code a z l m =
      same_then code (all_set first places code) (chosen code) a z (jumps_before places code first a z m) (same_before (all_set first places code) else_at (op.Jump otherwise) a z l)

  -- what is lowered behind the jumps
  pub lowers_chosen : {r n k c o : ℕ} {S : Laid → ℕ → ℕ → Type 0} {s : Scope} {old new : Draft} → Stable S → else_at < length old.ops → first + length places ≤ length old.ops → Lowers r n k c o S s old new
      → Lowers r n k c o S s (choice_set else_at first otherwise places old) (choice_set else_at first otherwise places new)
  lowers_chosen {r} {n} {k} {c} {o} {S} {s} {old} {new} st l m h =
      let a = length_chosen old.ops in
      let b = length_chosen new.ops in
      let moved : S (chosen (laid_in new)) (length old.ops) (length new.ops) = st.moves (laid_in new) (chosen (laid_in new)) (length old.ops) (length new.ops) (after_chosen (laid_in new) (length old.ops) (length new.ops) l m) h.code in
      record {
        rest = ap (λ (d : Draft). choice_set else_at first otherwise places (record d { ops = new.ops })) h.rest;
        scope = h.scope;
        opened = h.opened;
        kept = kept_chosen (laid_in old) (laid_in new) h.kept;
        rows = fit_like (choice_set else_at first otherwise places old) (choice_set else_at first otherwise places new) refl a refl refl b refl h.rows;
        room = let r = h.room in omega arith;
        texts = h.texts;
        cells = h.cells;
        code = subst (λ (x : ℕ). S (chosen (laid_in new)) x (length (choice_set else_at first otherwise places new).ops)) (sym a) (subst (λ (y : ℕ). S (chosen (laid_in new)) (length old.ops) y) (sym b) moved);
      }

-- the jumps of a choice stand one after another
pub jumps_chosen : (line otherwise at first : ℕ) (places : List ℕ) (code : Laid) (z : ℕ) → first ≡ at + 1 → ((i : ℕ) → i < length places + 1 → OpAt code (at + i) (op.Jump 0) line) → z ≡ at + (length places + 1) → JumpsAt (chosen at first otherwise places code) line (otherwise ∷ places) at z
jumps_chosen line otherwise at first places code z fe f e = subst (λ (k : ℕ). JumpsAt (chosen at k otherwise places code) line (otherwise ∷ places) at z) (sym fe) (
    let mid : Laid = all_set (at + 1) places code in
    let last : Laid = one_set at (op.Jump otherwise) mid in
    let start : at + 0 ≡ at = omega arith in
    let hole : OpAt mid at (op.Jump 0) line = (jumps_before places code (at + 1) at (at + 1) (omega arith)).same at (op.Jump 0) line (omega arith) (omega arith) (subst (λ (x : ℕ). OpAt code x (op.Jump 0) line) start (f 0 (omega arith))) in
    let tail : JumpsAt mid line places (at + 1) z =
    set_jumps line places code (at + 1) z (λ i l. let on : at + suc i ≡ at + 1 + i = omega arith in subst (λ (x : ℕ). OpAt code x (op.Jump 0) line) on (f (suc i) (omega arith))) (omega (arith, e)) in
    record {
      middle = at + 1;
      first = record { here = patched_at mid at (op.Jump otherwise) (op.Jump 0) line hole; end = refl };
      second = (jumps_stable line places).moves mid last (at + 1) z (same_after mid at (op.Jump otherwise) (at + 1) z (omega arith)) tail;
    })
