-- The first entry of a journal.
use Rattle.std.proofs.Common.{◌≡◌, ℕ, zero, suc, ◌+◌, ◌<◌, ◌≤◌, Bool, false, List, [], ◌∷◌, ◌++◌, refl, sym, ap, ◌∙◌, subst, arith, length, take, drop, Option, Some, None}
use Rattle.std.specs.Prelude.{slice_get, IfSome, IfNone}
use Rattle.std.specs.List.{fold}
use Rattle.uc_tree.specs.Programs.{Site}
use Rattle.uc_entry.specs.declared.entry.Entry.{Entry}
use Rattle.uc_entry.specs.declared.entry.Options.{Options}
use Rattle.uc_acts.specs.Journal.{Journal, begin, is_over}
use Rattle.uc_acts.specs.KernelRuns.{InRange}
use Rattle.uc_judge.specs.Asking.{Telling}
use Rattle.uc_judge.specs.declared.ledger.Ledger.{Ledger}
use Rattle.uc_judge.specs.Changes.{changes, told_of}
use Rattle.uc_judge.specs.Compared.{GoesAs}
use Rattle.uc_judge.specs.Ledgers.{IsLedger}
use Rattle.uc_judge.specs.Runs.{lined, written, Cause, Runs, begun, IsStart, IsRun, GoesWrong, off, unended}
use Rattle.uc_judge.specs.Walks.{IsReady, Stands}
use Rattle.uc_judge.proofs.Cuts.{first_of, path_of, rest_of}

abbrev least : Options
least = record { processors = 1; slice = 1; ticks = 1; entries = 64 }

least_in_range : InRange least
least_in_range = record {
  processors_min = omega arith;
  processors_max = omega arith;
  slice_min = omega arith;
  slice_max = omega arith;
  ticks_min = omega arith;
  ticks_max = omega arith;
  entries_min = omega arith;
  entries_max = omega arith;
}

-- no entries are a start
start_none : {W : Type 0} (cause : Cause W) → IsStart cause []
start_none cause = record {
  opts = least;
  in_range = least_in_range;
  tasks = told_of cause.told cause.sites cause.first (begin least ∷ []);
  all = begin least ∷ [];
  runs = begun;
  rest = written cause.lines (begin least ∷ []);
  is = refl;
}

-- what is written of a run begins with its options
begins_so : {W : Type 0} (cause : Cause W) (opts : Options) (j : Journal) (w : W) → Runs cause opts j w → (x : List Entry) × (written cause.lines j ≡ lined cause.lines (begin opts) ∷ x)
begins_so cause opts j w r =
    let rest = rest_of (path_of r) in (written cause.lines rest.0, ap (written cause.lines) rest.1)

-- a journal that begins with no options
pub wrong_first : {W : Type 0} (cause : Cause W) (z : Journal) → ((opts : Options) (y : List Entry) → InRange opts → z ≡ lined cause.lines (begin opts) ∷ y → ⊥) → GoesWrong cause z 0
wrong_first cause [] none_begins = unended refl (start_none cause) no_run
  where
    no_run : IsRun cause [] → ⊥
    no_run r =
        let b = begins_so cause r.opts r.all r.tasks r.runs in none_begins r.opts b.0 r.in_range (sym r.is ∙ b.1)
wrong_first cause (e ∷ y) none_begins = off (omega arith) none never
  where
    none : (m : ℕ) → m ≤ 0 → IsStart cause (take m (e ∷ y))
    none zero le = start_none cause
    none (suc m) le = absurd (omega (arith, le))

    never : IsStart cause (take (0 + 1) (e ∷ y)) → ⊥
    never s =
        let b = begins_so cause s.opts s.all s.tasks s.runs in
        none_begins s.opts y s.in_range (ap (λ x. x ∷ y) (ap first_of (sym s.is ∙ b.1)))

-- what the first entry tells

first_is : (z : Journal) (e : Entry) → Some e ≡ slice_get z 0 → z ≡ e ∷ drop 1 z
first_is [] e h = cc
first_is (x ∷ z) e h = let same : e ≡ x = cc in ap (λ d. d ∷ z) (sym same)

pub begins_with : (lines : Bool) (r : Option Options) (z : Journal) (e : Entry) → Some e ≡ slice_get z 0 → IfSome r (λ o. e ≡ lined lines (begin o)) → IfSome r (λ o. z ≡ lined lines (begin o) ∷ drop 1 z)
begins_with lines None z e h g = tt
begins_with lines (Some o) z e h g = first_is z e h ∙ ap (λ d. d ∷ drop 1 z) g

pub begins_not : (lines : Bool) (r : Option Options) (z : Journal) (e : Entry) → Some e ≡ slice_get z 0 → IfNone r ((o : Options) → InRange o → e ≡ lined lines (begin o) → ⊥) → IfNone r ((o : Options) (y : List Entry) → InRange o → z ≡ lined lines (begin o) ∷ y → ⊥)
begins_not lines None z e h g = λ o y range is. g o range (ap first_of (sym (first_is z e h) ∙ is))
begins_not lines (Some o) z e h g = tt

pub begins_none : (lines : Bool) (z : Journal) → None ≡ slice_get z 0 → (o : Options) (y : List Entry) → InRange o → z ≡ lined lines (begin o) ∷ y → ⊥
begins_none lines [] h o y range is = cc
begins_none lines (x ∷ z) h o y range is = cc

-- one that begins
pub stands_first : {W : Type 0} (cause : Cause W) (s : Ledger) (w : W) (z : Journal) (opts : Options) (y : List Entry) → z ≡ lined cause.lines (begin opts) ∷ y → s.opts ≡ opts → s.entries.items ≡ begin opts ∷ [] → w ≡ told_of cause.told cause.sites cause.first (begin opts ∷ []) → Stands cause s w z
stands_first cause s w z opts y h same made told = record {
  runs = subst (λ o. Runs cause o s.entries.items w) (sym same) (subst (λ l. Runs cause opts l w) (sym made) (subst (λ v. Runs cause opts (begin opts ∷ []) v) (sym told) begun));
  goes = record { rest = y; is = h ∙ ap (λ l. written cause.lines l ++ y) (sym made) };
}

pub ready_first : (s : Ledger) (sites : List Site) (opts : Options) → InRange opts → s.opts ≡ opts → s.entries.items ≡ begin opts ∷ [] → IsLedger s sites → IsReady s sites
unfolding is_over
ready_first s sites opts range same made ledger =
    let least = range.entries_min in
    let n = ap length made in
    let m = ap (λ o. o.entries) same in
    record { in_range = subst InRange (sym same) range; ledger = ledger; going = ap is_over made; room = omega (arith, least, n, m) }

pub made_first : {old new : List Entry} {opts : Options} {e : Entry} → old ≡ [] → new ≡ old ++ e ∷ [] → e ≡ begin opts → new ≡ begin opts ∷ []
made_first {e = e} h g is = g ∙ ap (λ l. l ++ e ∷ []) h ∙ ap (λ x. x ∷ []) is

pub told_first : {W : Type 0} (told : Telling W) (sites : List Site) {w x : W} {opts : Options} {e : Entry} → x ≡ fold told w (changes sites e.kind e) → e ≡ begin opts → x ≡ told_of told sites w (begin opts ∷ [])
told_first told sites {w} h is = h ∙ ap (λ d. fold told w (changes sites d.kind d)) is
