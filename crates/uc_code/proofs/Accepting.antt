-- The code of accept statements is paced.
use Rattle.std.proofs.Common.{◌≡◌, ℕ, zero, suc, ◌+◌, ◌<◌, ◌≤◌, List, [], ◌∷◌, Bool, true, length, refl, ap, sym, subst, ◌∙◌, arith}
use Rattle.uc_code.specs.declared.op.Op.TheVariants as op
use Rattle.uc_code.specs.declared.rows.CodeMark.{CodeMark}
use Rattle.uc_code.specs.declared.rows.RoutineCode.{RoutineCode}
use Rattle.uc_code.specs.Layout.{Laid}
use Rattle.uc_code.specs.Pace.{In, Onward, height}
use Rattle.uc_code.specs.CodeShapes.{OpAt, One, Risk, Both, FailedAt, AcceptsAt, JumpsAt, ChoosesAt, NoBranch, ElseAt, ClauseAt}
use Rattle.uc_code.proofs.Heights.{Outside, Plain, Each, Around, around_less, paced_by, none, only, join, within, own_plain, down, jump_plain, jump_outside, jump_paced, Starts, height_is, Env, AllStay, stay_none, stay_one, stay_join}
use Rattle.uc_code.proofs.Pacing as pacing

module _ (code : Laid) (table : List RoutineCode) (any : Bool) where
  abbrev Paces : List CodeMark → (ℕ → ℕ → Type 0) → Type 0
  Paces ms B = pacing.Paces code table any ms B

  abbrev Loud : ℕ → ℕ → Type 0
  Loud floor to = pacing.Loud code table any floor to

  next_in : (from to a z : ℕ) → z ≡ a + 1 → from ≤ a → z < to → In code table from to (a + 1)
  next_in from to a z e l m = pacing.next_in code table any from to a z e l m

  end_in : (from to a z : ℕ) → a ≤ z → from ≤ a → z < to → In code table from to z
  end_in from to a z k l m = pacing.end_in code table any from to a z k l m

  -- a call that has failed is raised

  raised_paces : any ≡ true → (ms : List CodeMark) (line : ℕ) → Paces ms (Both (Risk code ms op.Raise line) (One code op.Discard line))
  raised_paces t ms line =
      pacing.both code table any ms (pacing.raise_paces code table any t ms line) (pacing.onward_paces code table any ms op.Discard line (λ n k h. refl) (λ k t. refl) (λ at l. l) (λ from to floor at i. i))

  failed_paces : any ≡ true → (ms : List CodeMark) (line : ℕ) → Paces ms (FailedAt code ms line)
  failed_paces t ms line =
      let b = raised_paces t ms line in
      record {
        rises = λ a z h. let k = b.rises (a + 1) z h.raises in omega arith;
        plain = λ a z h p. let q = b.plain (a + 1) z h.raises p in own_plain code table a (op.Failed z) line h.test (λ n k x. refl) (λ k x. refl) q.outside;
        each = λ q a z h r p.
            let k = b.rises (a + 1) z h.raises in
            let next = b.plain (a + 1) z h.raises p in
            let here = own_plain code table a (op.Failed z) line h.test (λ n k x. refl) (λ k x. refl) next.outside in
            let e = height_is code table a (op.Failed z) line h.test in
            let w = within code table a (op.Failed z) line h.test in
            let l = p.low in
            let m = next.low in
            join code table a (a + 1) z
            (only code table a (a + 1) refl (paced_by code table a (op.Failed z) line h.test (down code table a z here.outside p.outside (omega arith), down code table a (a + 1) here.outside next.outside (omega arith))))
            (b.each q (a + 1) z h.raises r p);
        stays = λ from to floor a z h n l m x.
            let k = b.rises (a + 1) z h.raises in
            stay_join code table from to floor a (a + 1) z
            (stay_one code table from to floor a (a + 1) (op.Failed z) line h.test refl (end_in from to a z (omega arith) l m, next_in from to a (a + 1) refl l (omega arith)))
            (b.stays from to floor (a + 1) z h.raises n (omega arith) m x);
      }

  -- what asks, and what goes on behind the answer

  pub accepts_paces : any ≡ true → (ms : List CodeMark) (site guards line : ℕ) → Paces ms (AcceptsAt code ms site guards line)
  accepts_paces t ms site guards line =
      let b = failed_paces t ms line in
      let c = pacing.poll_paces code table any t ms line in
      record {
        rises = λ a z h. let k = b.rises (a + 1) h.middle h.failed in let l = c.rises h.middle z h.polls in omega arith;
        plain = λ a z h p.
            let q = b.plain (a + 1) h.middle h.failed (c.plain h.middle z h.polls p) in
            own_plain code table a (op.Accept site guards z) line h.asks (λ n k x. refl) (λ k x. refl) q.outside;
        each = λ q a z h r p.
            let k = b.rises (a + 1) h.middle h.failed in
            let l = c.rises h.middle z h.polls in
            let polls = c.plain h.middle z h.polls p in
            let next = b.plain (a + 1) h.middle h.failed polls in
            let here = own_plain code table a (op.Accept site guards z) line h.asks (λ n k x. refl) (λ k x. refl) next.outside in
            let e = height_is code table a (op.Accept site guards z) line h.asks in
            let w = within code table a (op.Accept site guards z) line h.asks in
            let m = p.low in
            join code table a (a + 1) z (only code table a (a + 1) refl (paced_by code table a (op.Accept site guards z) line h.asks (down code table a z here.outside p.outside (omega arith)))) (
            join code table (a + 1) h.middle z (b.each q (a + 1) h.middle h.failed (around_less code table ms h.middle z (omega arith) r) polls)
            (c.each q h.middle z h.polls r p));
        stays = λ from to floor a z h n l m x.
            let k = b.rises (a + 1) h.middle h.failed in
            let i = c.rises h.middle z h.polls in
            stay_join code table from to floor a (a + 1) z
            (stay_one code table from to floor a (a + 1) (op.Accept site guards z) line h.asks refl (end_in from to a z (omega arith) l m, next_in from to a (a + 1) refl l (omega arith))) (
            stay_join code table from to floor (a + 1) h.middle z (b.stays from to floor (a + 1) h.middle h.failed n (omega arith) (omega arith) x)
            (c.stays from to floor h.middle z h.polls n (omega arith) m x));
      }

  -- jumps forward to places that go on

  pub record Between (a z to : ℕ) : Type 0 where
    pub first : a ≤ to
    pub last : to ≤ z

  abbrev pub AllBetween : ℕ → ℕ → List ℕ → Type 0
  AllBetween a z [] = Unit {0}
  AllBetween a z (to ∷ tos) = Between a z to × AllBetween a z tos

  abbrev pub AllPlain : List ℕ → Type 0
  AllPlain [] = Unit {0}
  AllPlain (to ∷ tos) = Plain code table to × AllPlain tos

  jumps_long : (line : ℕ) (tos : List ℕ) (a z : ℕ) → JumpsAt code line tos a z → z ≡ a + length tos
  jumps_long line [] a z h = let e = h.end in omega arith
  jumps_long line (to ∷ tos) a z h = let e = h.first.end in let k = jumps_long line tos h.middle z h.second in omega arith

  jumps_outside : (line : ℕ) (tos : List ℕ) (a z : ℕ) → JumpsAt code line tos a z → Outside code table z → Outside code table a
  jumps_outside line [] a z h o = subst (Outside code table) h.end o
  jumps_outside line (to ∷ tos) a z h o =
      jump_outside code table a to line h.first.here (subst (Outside code table) h.first.end (jumps_outside line tos h.middle z h.second o))

  jumps_each : (line : ℕ) (tos : List ℕ) (a y z : ℕ) → JumpsAt code line tos a y → AllBetween y z tos → AllPlain tos → Outside code table y → Each code table a y
  jumps_each line [] a y z h t p o = let e = h.end in none code table a y (omega arith)
  jumps_each line (to ∷ tos) a y z h t p o =
      let e = h.first.end in
      let k = jumps_long line tos h.middle y h.second in
      let next : Outside code table (a + 1) = subst (Outside code table) h.first.end (jumps_outside line tos h.middle y h.second o) in
      let l = t.0.first in
      join code table a h.middle y (only code table a h.middle h.first.end (jump_paced code table a to line h.first.here (omega arith) next p.0))
      (jumps_each line tos h.middle y z h.second t.1 p.1 o)

  jumps_stay : (from to floor line : ℕ) (tos : List ℕ) (a y z : ℕ) → JumpsAt code line tos a y → AllBetween y z tos → from ≤ a → z < to → AllStay code table from to floor a y
  jumps_stay from to floor line [] a y z h t l m = let e = h.end in stay_none code table from to floor a y (omega arith)
  jumps_stay from to floor line (n ∷ tos) a y z h t l m =
      let e = h.first.end in
      let k = jumps_long line tos h.middle y h.second in
      let i = t.0.first in
      let j = t.0.last in
      stay_join code table from to floor a h.middle y (stay_one code table from to floor a h.middle (op.Jump n) line h.first.here h.first.end (record { first = omega arith; last = omega arith }))
      (jumps_stay from to floor line tos h.middle y z h.second t.1 (omega arith) m)

  -- each of them is plain
  jump_at : (line : ℕ) (tos : List ℕ) (a y : ℕ) → JumpsAt code line tos a y → Outside code table y → (k : ℕ) → k < length tos → Plain code table (a + k)
  jump_at line [] a y h o k l = absurd (omega arith)
  jump_at line (to ∷ tos) a y h o zero l =
      let next : Outside code table (a + 1) = subst (Outside code table) h.first.end (jumps_outside line tos h.middle y h.second o) in
      let e : a ≡ a + zero = omega arith in
      subst (Plain code table) e (jump_plain code table a to line h.first.here next)
  jump_at line (to ∷ tos) a y h o (suc k) l =
      let i = h.first.end in
      let e : h.middle + k ≡ a + suc k = omega arith in
      subst (Plain code table) e (jump_at line tos h.middle y h.second o k (omega arith))

  -- branches

  pub record Branches (ms : List CodeMark) (B : ℕ → List ℕ → ℕ → ℕ → ℕ → Type 0) : Type 0 where
    pub rises : (o : ℕ) (ps : List ℕ) (a z : ℕ) → B o ps z a z → a ≤ z
    pub bounds : (o : ℕ) (ps : List ℕ) (a z : ℕ) → B o ps z a z → Between a z o × AllBetween a z ps
    pub plains : (o : ℕ) (ps : List ℕ) (a z : ℕ) → B o ps z a z → Plain code table z → Plain code table o × AllPlain ps
    pub plain : (o : ℕ) (ps : List ℕ) (a z : ℕ) → B o ps z a z → Plain code table z → Plain code table a
    pub each : Starts code table → (o : ℕ) (ps : List ℕ) (a z : ℕ) → B o ps z a z → Around code table ms z → Plain code table z → Each code table a z
    pub stays : (from to floor o : ℕ) (ps : List ℕ) (a z : ℕ) → B o ps z a z → Env code table from to ms → from ≤ a → z < to → Loud floor to → AllStay code table from to floor a z

  none_between : (a z : ℕ) (ps : List ℕ) → ps ≡ [] → AllBetween a z ps
  none_between a z ps e = subst (AllBetween a z) (sym e) tt

  none_plain : (ps : List ℕ) → ps ≡ [] → AllPlain ps
  none_plain ps e = subst AllPlain (sym e) tt

  between_more : (a m z : ℕ) (ps : List ℕ) → a ≤ m → AllBetween m z ps → AllBetween a z ps
  between_more a m z [] l t = tt
  between_more a m z (p ∷ ps) l t = let f = t.0.first in (record { first = omega arith; last = t.0.last }, between_more a m z ps l t.1)

  pub none_branches : (ms : List CodeMark) → Branches ms NoBranch
  none_branches ms = record {
    rises = λ o ps a z h. let e = h.nothing in omega arith;
    bounds = λ o ps a z h. let e = h.nothing in let g = h.goes in (record { first = omega arith; last = omega arith }, none_between a z ps h.none);
    plains = λ o ps a z h p. (subst (Plain code table) (sym h.goes) p, none_plain ps h.none);
    plain = λ o ps a z h p. subst (Plain code table) h.nothing p;
    each = λ q o ps a z h r p. let e = h.nothing in none code table a z (omega arith);
    stays = λ from to floor o ps a z h n l m x. let e = h.nothing in stay_none code table from to floor a z (omega arith);
  }

  pub else_branches : {B : ℕ → ℕ → Type 0} → (ms : List CodeMark) → Paces ms B → Branches ms (λ o ps end. ElseAt o ps B)
  else_branches {B} ms b = record {
    rises = λ o ps a z h. b.rises a z h.body;
    bounds = λ o ps a z h. let e = h.here in let k = b.rises a z h.body in (record { first = omega arith; last = omega arith }, none_between a z ps h.none);
    plains = λ o ps a z h p. (subst (Plain code table) (sym h.here) (b.plain a z h.body p), none_plain ps h.none);
    plain = λ o ps a z h p. b.plain a z h.body p;
    each = λ q o ps a z h r p. b.each q a z h.body r p;
    stays = λ from to floor o ps a z h n l m x. b.stays from to floor a z h.body n l m x;
  }

  pub clause_branches : {B : ℕ → ℕ → Type 0} {R : ℕ → List ℕ → ℕ → ℕ → ℕ → Type 0} → (ms : List CodeMark) (line : ℕ) → Paces ms B → Branches ms R → Branches ms (λ o ps end. ClauseAt code line ps end B (λ rest. R o rest end))
  clause_branches {B} {R} ms line b c = record {
    rises = λ o ps a z h. let k = b.rises a h.middle h.body in let l = c.rises o h.rest (h.middle + 1) z h.others in omega arith;
    bounds = λ o ps a z h.
        let k = b.rises a h.middle h.body in
        let l = c.rises o h.rest (h.middle + 1) z h.others in
        let t = c.bounds o h.rest (h.middle + 1) z h.others in
        let f = t.0.first in
        let all : AllBetween a z (a ∷ h.rest) = (record { first = omega arith; last = omega arith }, between_more a (h.middle + 1) z h.rest (omega arith) t.1) in
        (record { first = omega arith; last = t.0.last }, subst (AllBetween a z) (sym h.here) all);
    plains = λ o ps a z h p.
        let next = c.plain o h.rest (h.middle + 1) z h.others p in
        let here = b.plain a h.middle h.body (jump_plain code table h.middle z line h.leave next.outside) in
        let t = c.plains o h.rest (h.middle + 1) z h.others p in
        let all : AllPlain (a ∷ h.rest) = (here, t.1) in
        (t.0, subst AllPlain (sym h.here) all);
    plain = λ o ps a z h p.
        let next = c.plain o h.rest (h.middle + 1) z h.others p in
        b.plain a h.middle h.body (jump_plain code table h.middle z line h.leave next.outside);
    each = λ q o ps a z h r p.
        let k = b.rises a h.middle h.body in
        let l = c.rises o h.rest (h.middle + 1) z h.others in
        let next = c.plain o h.rest (h.middle + 1) z h.others p in
        join code table a h.middle z (b.each q a h.middle h.body (around_less code table ms h.middle z (omega arith) r) (jump_plain code table h.middle z line h.leave next.outside)) (
        join code table h.middle (h.middle + 1) z (only code table h.middle (h.middle + 1) refl (jump_paced code table h.middle z line h.leave (omega arith) next.outside p))
        (c.each q o h.rest (h.middle + 1) z h.others r p));
    stays = λ from to floor o ps a z h n l m x.
        let k = b.rises a h.middle h.body in
        let i = c.rises o h.rest (h.middle + 1) z h.others in
        stay_join code table from to floor a h.middle z (b.stays from to floor a h.middle h.body n l (omega arith) x) (
        stay_join code table from to floor h.middle (h.middle + 1) z (stay_one code table from to floor h.middle (h.middle + 1) (op.Jump z) line h.leave refl (end_in from to a z (omega arith) l m))
        (c.stays from to floor o h.rest (h.middle + 1) z h.others n (omega arith) m x));
  }

  -- the choice of a branch

  pub chooses_paces : {B : ℕ → List ℕ → ℕ → ℕ → ℕ → Type 0} → (ms : List CodeMark) (line clauses : ℕ) → Branches ms B → Paces ms (ChoosesAt code line clauses B)
  chooses_paces {B} ms line clauses b = record {
    rises = λ a z h. let k = jumps_long line (h.otherwise ∷ h.places) (a + 1) h.middle h.jumps in let l = b.rises h.otherwise h.places h.middle z h.branches in omega arith;
    plain = λ a z h p.
        let body = b.plain h.otherwise h.places h.middle z h.branches p in
        own_plain code table a (op.Choose clauses z) line h.choose (λ n k x. refl) (λ k x. refl) (jumps_outside line (h.otherwise ∷ h.places) (a + 1) h.middle h.jumps body.outside);
    each = λ q a z h r p.
        let tos : List ℕ = h.otherwise ∷ h.places in
        let k = jumps_long line tos (a + 1) h.middle h.jumps in
        let c = h.count in
        let l = b.rises h.otherwise h.places h.middle z h.branches in
        let body = b.plain h.otherwise h.places h.middle z h.branches p in
        let here = own_plain code table a (op.Choose clauses z) line h.choose (λ n k x. refl) (λ k x. refl) (jumps_outside line tos (a + 1) h.middle h.jumps body.outside) in
        let e = height_is code table a (op.Choose clauses z) line h.choose in
        let w = within code table a (op.Choose clauses z) line h.choose in
        let m = p.low in
        let t = b.bounds h.otherwise h.places h.middle z h.branches in
        let s = b.plains h.otherwise h.places h.middle z h.branches p in
        join code table a (a + 1) z (only code table a (a + 1) refl (paced_by code table a (op.Choose clauses z) line h.choose (
          down code table a z here.outside p.outside (omega arith),
          (λ i j. let v = jump_at line tos (a + 1) h.middle h.jumps body.outside i (omega arith) in let d = v.low in down code table a (a + 1 + i) here.outside v.outside (omega arith)),
        ))) (
        join code table (a + 1) h.middle z (jumps_each line tos (a + 1) h.middle z h.jumps t s body.outside)
        (b.each q h.otherwise h.places h.middle z h.branches r p));
    stays = λ from to floor a z h n l m x.
        let tos : List ℕ = h.otherwise ∷ h.places in
        let k = jumps_long line tos (a + 1) h.middle h.jumps in
        let c = h.count in
        let i = b.rises h.otherwise h.places h.middle z h.branches in
        stay_join code table from to floor a (a + 1) z (stay_one code table from to floor a (a + 1) (op.Choose clauses z) line h.choose refl (
          end_in from to a z (omega arith) l m,
          (λ j g. record { first = omega arith; last = omega arith }),
        )) (
        stay_join code table from to floor (a + 1) h.middle z (jumps_stay from to floor line tos (a + 1) h.middle z h.jumps (b.bounds h.otherwise h.places h.middle z h.branches) (omega arith) m)
        (b.stays from to floor h.otherwise h.places h.middle z h.branches n (omega arith) m x));
  }
