-- Who asks for an object is told the next number.
use Rattle.std.proofs.Common.{◌≡◌, ℕ, ◌==◌, Bool, true, false, List, [], ◌∷◌, ◌++◌, Some, refl, sym, ap, ◌∙◌, subst}
use Rattle.std.specs.Prelude.{pos, nat_lt}
use Rattle.uc_tree.specs.Programs.{Site}
use Rattle.uc_tree.specs.declared.limits.TheConstants.{OBJECTS}
use Rattle.uc_entry.specs.declared.entry.Entry.{Entry}
use Rattle.uc_entry.specs.declared.entry.EntryKind.TheVariants as kind
use Rattle.uc_entry.specs.declared.entry.Options.{Options}
use Rattle.uc_entry.specs.declared.request.Answer.TheVariants as answer
use Rattle.uc_entry.specs.declared.request.Asked.{Asked}
use Rattle.uc_entry.specs.declared.request.Request.{Request}
use Rattle.uc_entry.specs.declared.request.Request.TheVariants as ask
use Rattle.uc_acts.specs.Journal.{Journal, asking, cost, no_cost, is_fault, is_over, where_true}
use Rattle.uc_acts.specs.Known.{object_count}
use Rattle.uc_acts.specs.Answers.{answer_to}
use Rattle.uc_acts.specs.Acts.{act, row, fault, or_fault, is_faulty}
use Rattle.uc_acts.proofs.Answered.{later, answer_push}
use Rattle.uc_acts.proofs.Living.{going_row}
use Rattle.uc_acts.proofs.Rest.{settled_calm}
use Rattle.uc_acts.proofs.SoundLemmas.{self_test}

without_fault : (b : Bool) (e f : Entry) → is_fault f.kind ≡ true → is_faulty (or_fault b e f) ≡ false → or_fault b e f ≡ e ∷ []
without_fault true e f q n = refl
without_fault false e f q n = absurd (cc)

told_self : (sites : List Site) (j : Journal) (e : Entry) (t n : ℕ) → answer_to sites t (j ++ e ∷ []) ≡ later (where_true (t == t) (answer.Object n)) (t == t) (answer_to sites t j) → answer_to sites t (j ++ e ∷ []) ≡ Some (answer.Object n)
told_self sites j e t n h = h ∙ by (t == t) (self_test t)
  where
    by : (b : Bool) → b ≡ true → later (where_true b (answer.Object n)) b (answer_to sites t j) ≡ Some (answer.Object n)
    by true e = refl
    by false e = absurd (cc)

object_same : (n o : ℕ) → Some (answer.Object n) ≡ Some (answer.Object o) → n ≡ o
object_same n o e = cc

module _ (opts : Options) (sites : List Site) (input : List ℕ) (j : Journal) (p t k : ℕ) (asked : Asked) (on : is_over (j ++ act opts sites input j p t k asked) ≡ false) where
  abbrev a : List Entry
  a = act opts sites input j p t k asked

  abbrev rows : Request → List Entry
  rows r = row opts sites input j p t (cost k asked.line) asked.line r

  calm : (r : Request) → asked.request ≡ r → is_faulty (rows r) ≡ false
  calm r q =
      let g = going_row opts sites input j p t k asked on in
      ap (λ x. is_faulty (rows x)) (sym q) ∙ (ap is_faulty (sym (settled_calm (fault p t no_cost 10 asked.line) j (rows asked.request) refl g.1)) ∙ g.1)

  is_row : (r : Request) (e : Entry) → asked.request ≡ r → rows r ≡ e ∷ [] → a ≡ e ∷ []
  is_row r e q h = (going_row opts sites input j p t k asked on).0 ∙ (ap rows q ∙ h)

  pub told_next : (m o : ℕ) → asked.request ≡ ask.Make m → answer_to sites t (j ++ a) ≡ Some (answer.Object o) → object_count j ≡ o
  told_next m o q h =
      let e : Entry = asking kind.Make p t (cost k asked.line) (object_count j) (pos m) (pos 0) in
      let s : a ≡ e ∷ [] = is_row (ask.Make m) e q (without_fault (nat_lt (object_count j) OBJECTS) _ _ refl (calm (ask.Make m) q)) in
      let told : answer_to sites t (j ++ e ∷ []) ≡ Some (answer.Object (object_count j)) = told_self sites j e t (object_count j) (answer_push sites t j e) in
      object_same (object_count j) o (sym told ∙ subst (λ (x : List Entry). answer_to sites t (j ++ x) ≡ Some (answer.Object o)) s h)
