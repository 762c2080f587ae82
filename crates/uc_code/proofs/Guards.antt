-- The code of blocks that are left as a whole, of mains and of guarded blocks is paced.
use Rattle.std.proofs.Common.{◌≡◌, ℕ, zero, suc, ◌+◌, ◌*◌, ◌^◌, ◌<◌, ◌≤◌, List, [], ◌∷◌, Bool, true, false, Option, Some, length, refl, ap, sym, subst, ◌∙◌, arith}
use Rattle.std.specs.Prelude.{slice_get}
use Rattle.uc_code.specs.declared.op.Op.TheVariants as op
use Rattle.uc_code.specs.declared.rows.MainOf.{MainOf}
use Rattle.uc_code.specs.declared.rows.MainOf.TheVariants as main_of
use Rattle.uc_code.specs.declared.rows.Handler.{Handler}
use Rattle.uc_code.specs.declared.rows.HandlerRow.{HandlerRow}
use Rattle.uc_code.specs.declared.rows.CodeMark.{CodeMark}
use Rattle.uc_code.specs.declared.rows.CodeMark.TheVariants as mark
use Rattle.uc_code.specs.declared.rows.RoutineCode.{RoutineCode}
use Rattle.uc_code.specs.declared.rows.RowKind.TheVariants.{CatchResume}
use Rattle.uc_code.specs.Layout.{Laid, handlers, guards}
use Rattle.uc_code.specs.Pace.{behind, height, power, In, AllIn, Text, Beneath}
use Rattle.uc_code.specs.CodeShapes.{OpAt, Nothing, One, Both, WholeAt, main_end, main_left, MainAt, Guarded, HandledAt, ApartAt, HandlerAt, clean_up}
use Rattle.uc_code.specs.Lowered.{kind_of, handler_of, NamedAt}
use Rattle.uc_code.proofs.Heights.{under_none, Outside, Plain, PacedAt, Each, Ahead, Around, around_less, clean_ahead, Below, beneath_of, paced_by, none, only, join, own_plain, jump_plain, jump_outside, jump_paced, Starts, burden_is, PadTo, pad_less, exit_paced, RowIn, row_in, Env, AllStay, stay_none, stay_one, stay_join}
use Rattle.uc_code.proofs.Powers.{power_rises}
use Rattle.uc_code.proofs.Pacing as pacing

module _ (code : Laid) (table : List RoutineCode) (any : Bool) where
  abbrev Paces : List CodeMark → (ℕ → ℕ → Type 0) → Type 0
  Paces ms B = pacing.Paces code table any ms B

  abbrev Loud : ℕ → ℕ → Type 0
  Loud floor to = pacing.Loud code table any floor to

  end_in : (from to a z : ℕ) → a ≤ z → from ≤ a → z < to → In code table from to z
  end_in from to a z k l m = pacing.end_in code table any from to a z k l m

  -- a block that is left as a whole

  pub whole_paces : (ms : List CodeMark) (line : ℕ) (B : List CodeMark → ℕ → ℕ → Type 0) → ((ns : List CodeMark) → Paces ns (B ns)) → Paces ms (WholeAt code line ms B)
  whole_paces ms line B b =
      let tested = pacing.handled_paces code table any ms line in
      record {
        rises = λ a z h.
            let l = (b (mark.Whole (a + 1) h.row ∷ ms)).rises (a + 2) h.body_end h.body in
            let e = h.tests.end in
            omega arith;
        plain = λ a z h p.
            let t = tested.plain (h.body_end + 1) z h.tests p in
            let body = (b (mark.Whole (a + 1) h.row ∷ ms)).plain (a + 2) h.body_end h.body (jump_plain code table h.body_end z line h.skip t.outside) in
            let e : a + 2 ≡ (a + 1) + 1 = omega arith in
            jump_plain code table a (a + 2) line h.begin (jump_outside code table (a + 1) z line h.leave (subst (Outside code table) e body.outside));
        each = λ q a z h r p.
            let m : List CodeMark = mark.Whole (a + 1) h.row ∷ ms in
            let l = (b m).rises (a + 2) h.body_end h.body in
            let i = h.tests.end in
            let t = tested.plain (h.body_end + 1) z h.tests p in
            let skip = jump_plain code table h.body_end z line h.skip t.outside in
            let body = (b m).plain (a + 2) h.body_end h.body skip in
            let e : a + 2 ≡ (a + 1) + 1 = omega arith in
            let inner : Outside code table ((a + 1) + 1) = subst (Outside code table) e body.outside in
            let pad : Outside code table (a + 1) = jump_outside code table (a + 1) z line h.leave inner in
            let around : Around code table m h.body_end = (
              record { to = z; line = line; is = h.leave; forward = omega arith; past = omega arith; outside = pad },
              clean_ahead code table h.row (h.body_end + 1) h.body_end (handlers ms) h.handler t (omega arith),
              around_less code table ms h.body_end z (omega arith) r,
            ) in
            join code table a (a + 1) z (only code table a (a + 1) refl (jump_paced code table a (a + 2) line h.begin (omega arith) pad body)) (
            join code table (a + 1) (a + 2) z (only code table (a + 1) (a + 2) (omega arith) (jump_paced code table (a + 1) z line h.leave (omega arith) inner p)) (
            join code table (a + 2) h.body_end z ((b m).each q (a + 2) h.body_end h.body around skip) (
            join code table h.body_end (h.body_end + 1) z (only code table h.body_end (h.body_end + 1) refl (jump_paced code table h.body_end z line h.skip (omega arith) t.outside p))
            (tested.each q (h.body_end + 1) z h.tests r p))));
        stays = λ from to floor a z h n l k x.
            let m : List CodeMark = mark.Whole (a + 1) h.row ∷ ms in
            let i = (b m).rises (a + 2) h.body_end h.body in
            let e = h.tests.end in
            let g = row_in code table from to h.row (clean_up (h.body_end + 1)) h.handler (end_in from to a (h.body_end + 1) (omega arith) l (omega arith)) in
            let pad = end_in from to a (a + 1) (omega arith) l (omega arith) in
            stay_join code table from to floor a (a + 1) z (stay_one code table from to floor a (a + 1) (op.Jump (a + 2)) line h.begin refl (end_in from to a (a + 2) (omega arith) l (omega arith))) (
            stay_join code table from to floor (a + 1) (a + 2) z (stay_one code table from to floor (a + 1) (a + 2) (op.Jump z) line h.leave (omega arith) (end_in from to a z (omega arith) l k)) (
            stay_join code table from to floor (a + 2) h.body_end z ((b m).stays from to floor (a + 2) h.body_end h.body (pad, g, n) (omega arith) (omega arith) x) (
            stay_join code table from to floor h.body_end (h.body_end + 1) z (stay_one code table from to floor h.body_end (h.body_end + 1) (op.Jump z) line h.skip refl (end_in from to a z (omega arith) l k))
            (tested.stays from to floor (h.body_end + 1) z h.tests n (omega arith) k x))));
      }

  -- the statements of a main

  left_plain : (main : MainOf) (line a : ℕ) → OpAt code a (main_left main) line → Outside code table (a + 1) → Plain code table a
  left_plain main_of.Task line a h o = own_plain code table a op.Unhandled line h (λ n k x. refl) (λ k t. refl) o
  left_plain main_of.Coroutine line a h o = own_plain code table a op.Escape line h (λ n k x. refl) (λ k t. refl) o

  end_plain : (main : MainOf) (line a : ℕ) → OpAt code a (main_end main) line → Outside code table (a + 1) → Plain code table a
  end_plain main_of.Task line a h o = own_plain code table a op.EndTask line h (λ n k x. refl) (λ k t. refl) o
  end_plain main_of.Coroutine line a h o = own_plain code table a op.EndMain line h (λ n k x. refl) (λ k t. refl) o

  left_paced : (main : MainOf) (line a : ℕ) → OpAt code a (main_left main) line → PacedAt code table a
  left_paced main_of.Task line a h = paced_by code table a op.Unhandled line h tt
  left_paced main_of.Coroutine line a h = paced_by code table a op.Escape line h tt

  end_paced : (main : MainOf) (line a : ℕ) → OpAt code a (main_end main) line → PacedAt code table a
  end_paced main_of.Task line a h = paced_by code table a op.EndTask line h tt
  end_paced main_of.Coroutine line a h = paced_by code table a op.EndMain line h tt

  left_stays : (main : MainOf) (from to floor line a z : ℕ) → OpAt code a (main_left main) line → z ≡ a + 1 → AllStay code table from to floor a z
  left_stays main_of.Task from to floor line a z h e = stay_one code table from to floor a z op.Unhandled line h e tt
  left_stays main_of.Coroutine from to floor line a z h e = stay_one code table from to floor a z op.Escape line h e tt

  end_stays : (main : MainOf) (from to floor line a z : ℕ) → OpAt code a (main_end main) line → z ≡ a + 1 → AllStay code table from to floor a z
  end_stays main_of.Task from to floor line a z h e = stay_one code table from to floor a z op.EndTask line h e tt
  end_stays main_of.Coroutine from to floor line a z h e = stay_one code table from to floor a z op.EndMain line h e tt

  module _ (main : MainOf) (number line : ℕ) (B : List CodeMark → ℕ → ℕ → Type 0) (b : (ns : List CodeMark) → Paces ns (B ns)) where
    abbrev marks : ℕ → List CodeMark
    marks row = mark.Finish main number line row ∷ []

    pub main_rises : (a z : ℕ) → MainAt code main number line B a z → a < z
    main_rises a z h = let k = (b (marks h.row)).rises a h.body_end h.body in let e = h.end in omega arith

    pub main_ends : (a z : ℕ) (h : MainAt code main number line B a z) → Outside code table z → Plain code table (h.body_end + 1)
    main_ends a z h o = let e : z ≡ (h.body_end + 1) + 1 = (let i = h.end in omega arith) in left_plain main line (h.body_end + 1) h.unwound (subst (Outside code table) e o)

    returns_plain : (a z : ℕ) (h : MainAt code main number line B a z) → Outside code table z → Plain code table h.body_end
    returns_plain a z h o = let u = main_ends a z h o in end_plain main line h.body_end h.returns u.outside

    pub main_plain : (a z : ℕ) → MainAt code main number line B a z → Outside code table z → Plain code table a
    main_plain a z h o = (b (marks h.row)).plain a h.body_end h.body (returns_plain a z h o)

    pub main_each : Starts code table → (a z : ℕ) (h : MainAt code main number line B a z) → ((y : ℕ) → y ≤ z → Around code table (mark.Body number ∷ []) y) → Outside code table z → Each code table a z
    main_each q a z h f o =
        let u = main_ends a z h o in
        let e = h.end in
        let around : Around code table (marks h.row) h.body_end = (clean_ahead code table h.row (h.body_end + 1) h.body_end [] h.handler u (omega arith), (f h.body_end (omega arith)).0, refl) in
        join code table a h.body_end z ((b (marks h.row)).each q a h.body_end h.body around (returns_plain a z h o)) (
        join code table h.body_end (h.body_end + 1) z (only code table h.body_end (h.body_end + 1) refl (end_paced main line h.body_end h.returns))
        (only code table (h.body_end + 1) z (omega arith) (left_paced main line (h.body_end + 1) h.unwound)))

    pub main_stays : (to floor a z : ℕ) → MainAt code main number line B a z → z ≤ to → Loud floor to → AllStay code table a to floor a z
    main_stays to floor a z h l x =
        let e = h.end in
        let k = (b (marks h.row)).rises a h.body_end h.body in
        let g = row_in code table a to h.row (clean_up (h.body_end + 1)) h.handler (record { first = omega arith; last = omega arith }) in
        stay_join code table a to floor a h.body_end z ((b (marks h.row)).stays a to floor a h.body_end h.body (g, tt) (omega arith) (omega arith) x) (
        stay_join code table a to floor h.body_end (h.body_end + 1) z (end_stays main a to floor line h.body_end (h.body_end + 1) h.returns refl)
        (left_stays main a to floor line (h.body_end + 1) z h.unwound (omega arith)))

  -- the code of one handler, which may go on at this pad
  pub record Handles (ms : List CodeMark) (resumes : Bool) (K : ℕ → ℕ → ℕ → Type 0) : Type 0 where
    pub rises : (pad a z : ℕ) → K pad a z → a ≤ z
    pub plain : (pad a z : ℕ) → K pad a z → Plain code table z → Plain code table a
    pub each : Starts code table → (pad a z : ℕ) → K pad a z → PadTo code table pad z → Around code table ms z → Plain code table z → Each code table a z
    pub stays : (from to floor pad a z : ℕ) → K pad a z → Env code table from to ms → In code table from to pad → from ≤ a → z < to → Loud floor to → AllStay code table from to floor a z
    -- one of resumptions is a text
    pub text : resumes ≡ true → (floor pad a z : ℕ) → K pad a z → Loud floor z → AllStay code table a z floor a z
    pub longer : (pad a z : ℕ) → K pad a z → a < z

  -- handlers that catch

  pub catch_handles : (ms : List CodeMark) (line : ℕ) (B : ℕ → ℕ → Type 0) → Paces ms B → Handles ms false (λ pad. Both B (One code (op.Jump pad) line))
  catch_handles ms line B b = record {
    rises = λ pad a z h. let k = b.rises a h.middle h.first in let e = h.second.end in omega arith;
    plain = λ pad a z h p. b.plain a h.middle h.first (jump_plain code table h.middle pad line h.second.here (subst (Outside code table) h.second.end p.outside));
    each = λ q pad a z h x r p.
        let e = h.second.end in
        let o : Outside code table (h.middle + 1) = subst (Outside code table) h.second.end p.outside in
        join code table a h.middle z (b.each q a h.middle h.first (around_less code table ms h.middle z (omega arith) r) (jump_plain code table h.middle pad line h.second.here o))
        (only code table h.middle z h.second.end (exit_paced code table h.middle pad line h.second.here (subst (PadTo code table pad) h.second.end x) o));
    stays = λ from to floor pad a z h n i l m x.
        let e = h.second.end in
        stay_join code table from to floor a h.middle z (b.stays from to floor a h.middle h.first n l (omega arith) x) (stay_one code table from to floor h.middle z (op.Jump pad) line h.second.here h.second.end i);
    text = λ e. absurd (cc);
    longer = λ pad a z h. let k = b.rises a h.middle h.first in let e = h.second.end in omega arith;
  }

  -- behind code that only goes on
  pub kept_handles : (ms : List CodeMark) (C : ℕ → ℕ → Type 0) (K : ℕ → ℕ → ℕ → Type 0) → Paces ms C → Handles ms false K → Handles ms false (λ pad. Both C (K pad))
  kept_handles ms C K c k = record {
    rises = λ pad a z h. let i = c.rises a h.middle h.first in let j = k.rises pad h.middle z h.second in omega arith;
    plain = λ pad a z h p. c.plain a h.middle h.first (k.plain pad h.middle z h.second p);
    each = λ q pad a z h x r p.
        let j = k.rises pad h.middle z h.second in
        join code table a h.middle z (c.each q a h.middle h.first (around_less code table ms h.middle z (omega arith) r) (k.plain pad h.middle z h.second p)) (k.each q pad h.middle z h.second x r p);
    stays = λ from to floor pad a z h n i l m x.
        let e = c.rises a h.middle h.first in
        let j = k.rises pad h.middle z h.second in
        stay_join code table from to floor a h.middle z (c.stays from to floor a h.middle h.first n l (omega arith) x) (k.stays from to floor pad h.middle z h.second n i (omega arith) m x);
    text = λ e. absurd (cc);
    longer = λ pad a z h. let i = c.rises a h.middle h.first in let j = k.longer pad h.middle z h.second in omega arith;
  }

  -- handlers of resumptions

  module _ (ms : List CodeMark) (line : ℕ) (C : ℕ → ℕ → Type 0) (B : List CodeMark → ℕ → ℕ → Type 0) (c : (ns : List CodeMark) → Paces ns C) (b : (ns : List CodeMark) → Paces ns (B ns)) where
    abbrev Apart : ℕ → ℕ → Type 0
    Apart = Both C (ApartAt code ms B)

    abbrev inner : ℕ → List CodeMark
    inner row = mark.Outward 0 row ∷ ms

    apart_longer : (a z : ℕ) → Apart a z → a < z
    apart_longer a z h =
        let k = (c (inner h.second.row)).rises a h.middle h.first in
        let l = (b (inner h.second.row)).rises h.middle h.second.body_end h.second.body in
        let e = h.second.end in
        omega arith

    apart_returns : (a z : ℕ) (h : Apart a z) → Plain code table z → Plain code table h.second.body_end
    apart_returns a z h p = own_plain code table h.second.body_end op.Return 0 h.second.returns (λ n k x. refl) (λ k t. refl) (subst (Outside code table) h.second.end p.outside)

    apart_body : (a z : ℕ) (h : Apart a z) → Plain code table z → Plain code table h.middle
    apart_body a z h p = (b (inner h.second.row)).plain h.middle h.second.body_end h.second.body (apart_returns a z h p)

    apart_stays : (from to floor a z : ℕ) → Apart a z → from ≤ a → z ≤ to → Loud floor to → AllStay code table from to floor a z
    apart_stays from to floor a z h l m x =
        let ns : List CodeMark = inner h.second.row in
        let k = (c ns).rises a h.middle h.first in
        let i = (b ns).rises h.middle h.second.body_end h.second.body in
        let e = h.second.end in
        let env : Env code table from to ns = subst (AllIn code table from to) (sym (under_none (handlers ms))) tt in
        stay_join code table from to floor a h.middle z ((c ns).stays from to floor a h.middle h.first env l (omega arith) x) (
        stay_join code table from to floor h.middle h.second.body_end z ((b ns).stays from to floor h.middle h.second.body_end h.second.body env (omega arith) (omega arith) x)
        (stay_one code table from to floor h.second.body_end z op.Return 0 h.second.returns h.second.end tt))

    pub apart_handles : Handles ms true (λ pad. Apart)
    apart_handles = record {
      rises = λ pad a z h. let l = apart_longer a z h in omega arith;
      plain = λ pad a z h p. (c (inner h.second.row)).plain a h.middle h.first (apart_body a z h p);
      each = λ q pad a z h x r p.
          let ns : List CodeMark = inner h.second.row in
          let k = (b ns).rises h.middle h.second.body_end h.second.body in
          let e = h.second.end in
          join code table a h.middle z ((c ns).each q a h.middle h.first (refl, around_less code table ms h.middle z (omega arith) r) (apart_body a z h p)) (
          join code table h.middle h.second.body_end z ((b ns).each q h.middle h.second.body_end h.second.body (refl, around_less code table ms h.second.body_end z (omega arith) r) (apart_returns a z h p))
          (only code table h.second.body_end z h.second.end (paced_by code table h.second.body_end op.Return 0 h.second.returns tt)));
      stays = λ from to floor pad a z h n i l m x. apart_stays from to floor a z h l (omega arith) x;
      text = λ e floor pad a z h x. apart_stays a z floor a z h (omega arith) (omega arith) x;
      longer = λ pad a z h. apart_longer a z h;
    }

  -- the rows of a guarded block, whose handlers begin behind this place

  pub record RowAhead (row y rest : ℕ) (ns : List ℕ) : Type 0 where
    pub ahead : Ahead code table row y ns
    pub same : ahead.handler.rest ≡ rest

  abbrev pub RowsAhead : ℕ → ℕ → List CodeMark → ℕ → Type 0
  RowsAhead first zero ms y = Unit {0}
  RowsAhead first (suc n) ms y = RowAhead (first + n) y (length (handlers ms)) (handlers (guards first n ms)) × RowsAhead first n ms y

  around_guards : (first n : ℕ) (ms : List CodeMark) (y : ℕ) → RowsAhead first n ms y → Around code table ms y → Around code table (guards first n ms) y
  around_guards first zero ms y h r = r
  around_guards first (suc n) ms y h r = (h.0.ahead, around_guards first n ms y h.1 r)

  abbrev pub RowsIn : ℕ → ℕ → ℕ → ℕ → Type 0
  RowsIn from to first zero = Unit {0}
  RowsIn from to first (suc n) = RowIn code table from to (first + n) × RowsIn from to first n

  env_guards : (from to first n : ℕ) (ms : List CodeMark) → RowsIn from to first n → Env code table from to ms → Env code table from to (guards first n ms)
  env_guards from to first zero ms h r = r
  env_guards from to first (suc n) ms h r = (h.0, env_guards from to first n ms h.1 r)

  row_rest : (n : ℕ) (h : Handler) (r : HandlerRow) → HandlerAt code n h → slice_get code.rows n ≡ Some r → r.rest ≡ h.rest
  row_rest n h r a e = let f : Some r ≡ Some a.row = sym e ∙ a.there in let g : r ≡ a.row = cc in ap (λ (q : HandlerRow). q.rest) g ∙ a.rest

  -- those of one block have as many rows outwards of it
  beneath_guards : (entry first n y : ℕ) (ms : List CodeMark) → RowsAhead first n ms y → Beneath code table entry (length (handlers ms)) (handlers ms) → Beneath code table entry (length (handlers ms)) (handlers (guards first n ms))
  beneath_guards entry first zero y ms h b = b
  beneath_guards entry first (suc n) y ms h b =
      ((λ r q e l. let f : r.rest ≡ length (handlers ms) = row_rest (first + n) h.0.ahead.handler r h.0.ahead.there q ∙ h.0.same in absurd (omega arith)), beneath_guards entry first n y ms h.1 b)

  -- there are no fewer rows with them
  guards_long : (first n : ℕ) (ms : List CodeMark) → length (handlers ms) ≤ length (handlers (guards first n ms))
  guards_long first zero ms = omega arith
  guards_long first (suc n) ms = let l = guards_long first n ms in omega arith

  -- the handlers of a guarded block, in order
  pub record AllHandle (ms : List CodeMark) (count : ℕ) (H : ℕ → ℕ → ℕ → ℕ → Type 0) : Type 0 where
    pub rises : (first pad a z : ℕ) → H first pad a z → a ≤ z
    pub plain : (first pad a z : ℕ) → H first pad a z → Plain code table z → Plain code table a
    pub each : Starts code table → (first pad a z : ℕ) → H first pad a z → PadTo code table pad z → Around code table ms z → Plain code table z → Each code table a z
    pub stays : (from to floor first pad a z : ℕ) → H first pad a z → Env code table from to ms → In code table from to pad → from ≤ a → z < to → Loud floor to → AllStay code table from to floor a z
    pub ahead : (first pad a z : ℕ) → H first pad a z → Around code table ms z → Plain code table z → (y : ℕ) → y ≤ a → RowsAhead first count ms y
    pub inside : (from to first pad a z : ℕ) → H first pad a z → from ≤ a → z < to → RowsIn from to first count

  pub no_handles : (ms : List CodeMark) → AllHandle ms 0 (λ first pad. Nothing)
  no_handles ms = record {
    rises = λ first pad a z h. let e = h.end in omega arith;
    plain = λ first pad a z h p. subst (Plain code table) h.end p;
    each = λ q first pad a z h x r p. let e = h.end in none code table a z (omega arith);
    stays = λ from to floor first pad a z h n i l m x. let e = h.end in stay_none code table from to floor a z (omega arith);
    ahead = λ first pad a z h r p y k. tt;
    inside = λ from to first pad a z h l m. tt;
  }

  -- a number below which a text that ends here raises nothing
  abbrev floor_of : ℕ → ℕ
  floor_of to = 2 ^ 32 * power (behind (length code.ops) to)

  loud_own : (b : Bool) (to : ℕ) → pacing.Allowed code table any b (floor_of to) to
  loud_own true to = omega arith
  loud_own false to = tt

  no_resumption : {X : Type 0} → kind_of false ≡ CatchResume → X
  no_resumption e = absurd (cc)

  module _ (ms : List CodeMark) (count : ℕ) (event : Option ℕ) where
    -- what a handler of resumptions may not find begins below its text
    nested : (resumes : Bool) (K : ℕ → ℕ → ℕ → Type 0) → Handles ms resumes K → (first pad a z y : ℕ) → K pad a z → Around code table ms z → RowsAhead first count ms y → kind_of resumes ≡ CatchResume → Beneath code table a (length (handlers ms)) (handlers (guards first count ms))
    nested false K k first pad a z y h r g e = no_resumption e
    nested true K k first pad a z y h r g e =
        let i = k.longer pad a z h in
        let text : Text code table = record { from = a; to = z; floor = floor_of z; each = λ at x n q. k.text refl (floor_of z) pad a z h (loud_own any z) at n.first n.last x q } in
        let b : Below code table a z = record { text = text; inside = record { first = omega arith; last = i }; high = omega arith } in
        beneath_guards a first count y ms g (beneath_of code table ms a (length (handlers ms)) z b r)

    -- one handler more, before others
    pub more_handles : (resumes : Bool) (K : ℕ → ℕ → ℕ → Type 0) (H : ℕ → ℕ → ℕ → ℕ → Type 0) → Handles ms resumes K → AllHandle ms count H → AllHandle ms (suc count) (λ first pad. Both (NamedAt code event (HandledAt code (first + count) (handler_of resumes event (length (handlers ms))) (K pad))) (H first pad))
    more_handles resumes K H k all = record {
      rises = λ first pad a z h. let i = k.rises pad a h.middle h.first.handler.body in let j = all.rises first pad h.middle z h.second in omega arith;
      plain = λ first pad a z h p. k.plain pad a h.middle h.first.handler.body (all.plain first pad h.middle z h.second p);
      each = λ q first pad a z h x r p.
          let i = k.rises pad a h.middle h.first.handler.body in
          let j = all.rises first pad h.middle z h.second in
          join code table a h.middle z (k.each q pad a h.middle h.first.handler.body (pad_less code table pad h.middle z (omega arith) x) (around_less code table ms h.middle z (omega arith) r) (all.plain first pad h.middle z h.second p)) (all.each q first pad h.middle z h.second x r p);
      stays = λ from to floor first pad a z h n i l m x.
          let j = k.rises pad a h.middle h.first.handler.body in
          let o = all.rises first pad h.middle z h.second in
          stay_join code table from to floor a h.middle z (k.stays from to floor pad a h.middle h.first.handler.body n i l (omega arith) x) (all.stays from to floor first pad h.middle z h.second n i (omega arith) m x);
      ahead = λ first pad a z h r p y m.
          let j = k.rises pad a h.middle h.first.handler.body in
          let o = all.rises first pad h.middle z h.second in
          let g = all.ahead first pad h.middle z h.second r p y (omega arith) in
          let next = all.plain first pad h.middle z h.second p in
          let here = k.plain pad a h.middle h.first.handler.body next in
          let one : RowAhead (first + count) y (length (handlers ms)) (handlers (guards first count ms)) = record {
            ahead = record {
              handler = handler_of resumes event (length (handlers ms)) a;
              there = h.first.handler.handler_at;
              from = a;
              past = m;
              small = λ e few. let b = here.low in let c = power_rises (height code.ops a) (behind (length code.ops) a) b in rw (burden_is code table a e here.outside) (omega arith);
              nest = λ e. (guards_long first count ms, nested resumes K k first pad a h.middle y h.first.handler.body (around_less code table ms h.middle z (omega arith) r) g e);
            };
            same = refl;
          } in
          (one, g);
      inside = λ from to first pad a z h l m.
          let j = k.longer pad a h.middle h.first.handler.body in
          let o = all.rises first pad h.middle z h.second in
          (row_in code table from to (first + count) (handler_of resumes event (length (handlers ms)) a) h.first.handler.handler_at (record { first = l; last = omega arith }), all.inside from to first pad h.middle z h.second (omega arith) m);
    }

  -- a guarded block

  pub guarded_paces : (ms : List CodeMark) (line count : ℕ) (B : List CodeMark → ℕ → ℕ → Type 0) (H : ℕ → ℕ → ℕ → ℕ → Type 0) → ((ns : List CodeMark) → Paces ns (B ns)) → AllHandle ms count H → Paces ms (Guarded code line ms count B H)
  guarded_paces ms line count B H b all =
      let inner = λ (a : ℕ) (z : ℕ) (h : Guarded code line ms count B H a z) (p : Plain code table z).
      (b (guards h.first count ms)).plain (a + 2) h.body_end h.body (jump_plain code table h.body_end (a + 1) line h.leave (all.plain h.first (a + 1) (h.body_end + 1) z h.handlers p).outside) in
      record {
        rises = λ a z h.
            let k = (b (guards h.first count ms)).rises (a + 2) h.body_end h.body in
            let l = all.rises h.first (a + 1) (h.body_end + 1) z h.handlers in
            omega arith;
        plain = λ a z h p.
            let body = inner a z h p in
            let e : a + 2 ≡ (a + 1) + 1 = omega arith in
            jump_plain code table a (a + 2) line h.begin (jump_outside code table (a + 1) z line h.pad (subst (Outside code table) e body.outside));
        each = λ q a z h r p.
            let k = (b (guards h.first count ms)).rises (a + 2) h.body_end h.body in
            let l = all.rises h.first (a + 1) (h.body_end + 1) z h.handlers in
            let body = inner a z h p in
            let e : a + 2 ≡ (a + 1) + 1 = omega arith in
            let next : Outside code table ((a + 1) + 1) = subst (Outside code table) e body.outside in
            let out : Outside code table (a + 1) = jump_outside code table (a + 1) z line h.pad next in
            let pad : PadTo code table (a + 1) z = record { to = z; line = line; is = h.pad; forward = omega arith; past = omega arith; outside = out } in
            let behind_it = all.plain h.first (a + 1) (h.body_end + 1) z h.handlers p in
            let left = jump_plain code table h.body_end (a + 1) line h.leave behind_it.outside in
            let rows = all.ahead h.first (a + 1) (h.body_end + 1) z h.handlers r p h.body_end (omega arith) in
            join code table a (a + 1) z (only code table a (a + 1) refl (jump_paced code table a (a + 2) line h.begin (omega arith) out body)) (
            join code table (a + 1) (a + 2) z (only code table (a + 1) (a + 2) (omega arith) (jump_paced code table (a + 1) z line h.pad (omega arith) next p)) (
            join code table (a + 2) h.body_end z ((b (guards h.first count ms)).each q (a + 2) h.body_end h.body (around_guards h.first count ms h.body_end rows (around_less code table ms h.body_end z (omega arith) r)) left) (
            join code table h.body_end (h.body_end + 1) z (only code table h.body_end (h.body_end + 1) refl (exit_paced code table h.body_end (a + 1) line h.leave (pad_less code table (a + 1) (h.body_end + 1) z (omega arith) pad) behind_it.outside))
            (all.each q h.first (a + 1) (h.body_end + 1) z h.handlers pad r p))));
        stays = λ from to floor a z h n l m x.
            let k = (b (guards h.first count ms)).rises (a + 2) h.body_end h.body in
            let i = all.rises h.first (a + 1) (h.body_end + 1) z h.handlers in
            let rows = all.inside from to h.first (a + 1) (h.body_end + 1) z h.handlers (omega arith) m in
            let pad = end_in from to a (a + 1) (omega arith) l (omega arith) in
            stay_join code table from to floor a (a + 1) z (stay_one code table from to floor a (a + 1) (op.Jump (a + 2)) line h.begin refl (end_in from to a (a + 2) (omega arith) l (omega arith))) (
            stay_join code table from to floor (a + 1) (a + 2) z (stay_one code table from to floor (a + 1) (a + 2) (op.Jump z) line h.pad (omega arith) (end_in from to a z (omega arith) l m)) (
            stay_join code table from to floor (a + 2) h.body_end z ((b (guards h.first count ms)).stays from to floor (a + 2) h.body_end h.body (env_guards from to h.first count ms rows n) (omega arith) (omega arith) x) (
            stay_join code table from to floor h.body_end (h.body_end + 1) z (stay_one code table from to floor h.body_end (h.body_end + 1) (op.Jump (a + 1)) line h.leave refl pad)
            (all.stays from to floor h.first (a + 1) (h.body_end + 1) z h.handlers n pad (omega arith) m x))));
      }
