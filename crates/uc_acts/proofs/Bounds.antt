-- A journal stays within its bound, and a run that goes on can go on.
use Rattle.std.proofs.Common.{◌≡◌, ℕ, ◌+◌, ◌||◌, Bool, true, false, cond, List, [], ◌∷◌, ◌++◌, refl, ◌∙◌, arith, length, length-append}
use Rattle.std.specs.Prelude.{pos, nat_le}
use Rattle.std.proofs.lemmas.Bool.{leb-true}
use Rattle.std.proofs.lemmas.List.Folds.{list_any-append}
use Rattle.uc_tree.specs.Programs.{Site}
use Rattle.uc_entry.specs.declared.entry.Entry.{Entry}
use Rattle.uc_entry.specs.declared.entry.EntryKind.TheVariants as kind
use Rattle.uc_entry.specs.declared.entry.Options.{Options}
use Rattle.uc_acts.specs.Journal.{Journal, entry, is_over, is_ending}
use Rattle.uc_acts.specs.Acts.{entries_of, ending, fitted, dispatch, lone_limit}
use Rattle.uc_acts.specs.KernelRuns.{KernelMay, gives, no_room, acts, begun, more}
use Rattle.uc_acts.specs.Laws.{LawRoom, Room}

or_true : (b : Bool) → (b || true) ≡ true
or_true true = refl
or_true false = refl

no_both : (b : Bool) → b ≡ true → b ≡ false → ⊥
no_both b t f = cc

pub over_push : (j a : List Entry) → is_over (j ++ a) ≡ (is_over j || is_over a)
unfolding is_over
over_push j a = list_any-append (λ e. is_ending e.kind) j a

pub over_limit : (j : Journal) (p t : ℕ) → is_over (j ++ entry kind.Limit p t 0 0 (pos 0) (pos 0) ∷ []) ≡ true
unfolding is_over
over_limit j p t = list_any-append (λ e. is_ending e.kind) j (entry kind.Limit p t 0 0 (pos 0) (pos 0) ∷ []) ∙ or_true (is_over j)

module _ (opts : Options) (j : Journal) (room : Room opts j) (going : is_over j ≡ false) where
  one_more : (e : Entry) → is_over (j ++ e ∷ []) ≡ true → Room opts (j ++ e ∷ [])
  one_more e h =
      let lt = room.going going in
      let l = length-append j (e ∷ []) in
      record { most = omega (arith, lt, l); going = λ f. absurd (no_both (is_over (j ++ e ∷ [])) h f) }

  fitted_room : (p t : ℕ) (a : List Entry) → Room opts (j ++ fitted opts j p t a)
  fitted_room p t a = by (nat_le (length j + length a + 1) opts.entries) refl
    where
      by : (b : Bool) → nat_le (length j + length a + 1) opts.entries ≡ b → Room opts (j ++ cond b a (entry kind.Limit p t 0 0 (pos 0) (pos 0) ∷ []))
      by true h =
          let le = leb-true (length j + length a + 1) opts.entries h in
          let l = length-append j a in
          record { most = omega (arith, le, l); going = λ f. omega (arith, le, l) }
      by false h = one_more (entry kind.Limit p t 0 0 (pos 0) (pos 0)) (over_limit j p t)

  may_room : (sites : List Site) (input : List ℕ) (a : List Entry) → KernelMay opts sites input j a → Room opts (j ++ a)
  may_room sites input _ (gives p t v le) =
      let l = length-append j (dispatch p t ∷ []) in
      record { most = omega (arith, le, l); going = λ f. omega (arith, le, l) }
  may_room sites input _ (no_room p t v le) = one_more lone_limit (over_limit j 0 0)
  may_room sites input _ (acts p t k asked m) =
      let a = entries_of opts sites input j p t k asked in
      fitted_room p t (a ++ ending opts j p t a)

pub law_room : LawRoom
law_room opts sites input _ range begun =
    let le = range.entries_min in record { most = omega arith; going = λ f. omega arith }
law_room opts sites input _ range (more {j} {a} r o m) =
    may_room opts j (law_room opts sites input j range r) o sites input a m
