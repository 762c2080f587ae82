-- What is made has the next number, who asked for it is told that, and then there is one more.
use Rattle.std.proofs.Common.{◌≡◌, ℕ, ◌+◌, ◌≤◌, ◌<◌, ◌==◌, Bool, true, false, cond, List, [], ◌∷◌, ◌++◌, Some, refl, sym, ap, ◌∙◌, subst, arith, append-nil, append_assoc}
use Rattle.std.specs.Prelude.{pos, nat_lt, not}
use Rattle.std.specs.List.{count_by, filter, list_any}
use Rattle.std.specs.Option.{option_to_list}
use Rattle.std.proofs.lemmas.List.Sums.{fold_push}
use Rattle.uc_tree.specs.Programs.{Site}
use Rattle.uc_tree.specs.declared.limits.TheConstants.{OBJECTS, TASKS, CLUSTERS, PROCESSORS}
use Rattle.uc_entry.specs.declared.entry.Entry.{Entry}
use Rattle.uc_entry.specs.declared.entry.EntryKind.{EntryKind}
use Rattle.uc_entry.specs.declared.entry.EntryKind.TheVariants as kind
use Rattle.uc_entry.specs.declared.entry.Options.{Options}
use Rattle.uc_entry.specs.declared.request.Answer.TheVariants as answer
use Rattle.uc_entry.specs.declared.request.Asked.{Asked}
use Rattle.uc_entry.specs.declared.request.Request.{Request}
use Rattle.uc_entry.specs.declared.request.Request.TheVariants as ask
use Rattle.uc_acts.specs.Journal.{Journal, Cost, asking, cost, no_cost, is_fault, is_over, own_object, first_or_0, where_true}
use Rattle.uc_acts.specs.Known.{object_count, is_make, task_count}
use Rattle.uc_acts.specs.Queues.{cluster_count, is_cluster, processor_count, is_processor}
use Rattle.uc_acts.specs.Answers.{answer_to}
use Rattle.uc_acts.specs.Acts.{act, row, fault, or_fault, is_faulty}
use Rattle.uc_acts.proofs.Answered.{later, answer_push}
use Rattle.uc_acts.proofs.Living.{going_row}
use Rattle.uc_acts.proofs.Rest.{settled_calm}
use Rattle.uc_acts.proofs.SoundLemmas.{self_test}

-- counts

module _ (test : EntryKind → Bool) where
  more_by : (j : Journal) (e : Entry) → count_by (λ x. test x.kind) (j ++ e ∷ []) ≡ count_by (λ x. test x.kind) j + cond (test e.kind) 1 0
  more_by j e = fold_push (λ (n : ℕ) (x : Entry). n + cond (test x.kind) 1 0) 0 j e

-- a count that each entry may raise only grows
grows_by : (count : Journal → ℕ) → ((j : Journal) (e : Entry) → count j ≤ count (j ++ e ∷ [])) → (j : Journal) (a : List Entry) → count j ≤ count (j ++ a)
grows_by count f j [] = subst (λ i. count j ≤ count i) (sym (append-nil j)) (omega arith)
grows_by count f j (e ∷ a) =
    let h : count (j ++ e ∷ []) ≤ count ((j ++ e ∷ []) ++ a) = grows_by count f (j ++ e ∷ []) a in
    let n = f j e in
    let l : count j ≤ count ((j ++ e ∷ []) ++ a) = omega (arith, h, n) in
    subst (λ i. count j ≤ count i) (append_assoc j (e ∷ []) a) l

objects_push : (j : Journal) (e : Entry) → object_count (j ++ e ∷ []) ≡ object_count j + cond (is_make e.kind) 1 0
unfolding object_count
objects_push j e = let h = more_by is_make j e in omega (arith, h)

clusters_push : (j : Journal) (e : Entry) → cluster_count (j ++ e ∷ []) ≡ cluster_count j + cond (is_cluster e.kind) 1 0
unfolding cluster_count
clusters_push j e = let h = more_by is_cluster j e in omega (arith, h)

processors_push : (opts : Options) (j : Journal) (e : Entry) → processor_count opts (j ++ e ∷ []) ≡ processor_count opts j + cond (is_processor e.kind) 1 0
unfolding processor_count
processors_push opts j e = let h = more_by is_processor j e in omega (arith, h)

pub objects_grow : (j : Journal) (a : List Entry) → object_count j ≤ object_count (j ++ a)
objects_grow j a = grows_by object_count (λ j e. let h = objects_push j e in omega (arith, h)) j a

pub clusters_grow : (j : Journal) (a : List Entry) → cluster_count j ≤ cluster_count (j ++ a)
clusters_grow j a = grows_by cluster_count (λ j e. let h = clusters_push j e in omega (arith, h)) j a

pub processors_grow : (opts : Options) (j : Journal) (a : List Entry) → processor_count opts j ≤ processor_count opts (j ++ a)
processors_grow opts j a = grows_by (processor_count opts) (λ j e. let h = processors_push opts j e in omega (arith, h)) j a

pub some_object : (j : Journal) → 0 < object_count j
unfolding object_count
some_object j = omega arith

-- what an act brings that is no fault

without_fault : (b : Bool) (e f : Entry) → is_fault f.kind ≡ true → is_faulty (or_fault b e f) ≡ false → or_fault b e f ≡ e ∷ []
without_fault true e f q n = refl
without_fault false e f q n = absurd (cc)

told_self : (sites : List Site) (j : Journal) (e : Entry) (t n : ℕ) → answer_to sites t (j ++ e ∷ []) ≡ later (where_true (t == t) (answer.Object n)) (t == t) (answer_to sites t j) → answer_to sites t (j ++ e ∷ []) ≡ Some (answer.Object n)
told_self sites j e t n h = h ∙ by (t == t) (self_test t)
  where
    by : (b : Bool) → b ≡ true → later (where_true b (answer.Object n)) b (answer_to sites t j) ≡ Some (answer.Object n)
    by true e = refl
    by false e = absurd (cc)

object_same : (n o : ℕ) → Some (answer.Object n) ≡ Some (answer.Object o) → n ≡ o
object_same n o e = cc

module _ (opts : Options) (sites : List Site) (input : List ℕ) (j : Journal) (p t k : ℕ) (asked : Asked) (on : is_over (j ++ act opts sites input j p t k asked) ≡ false) where
  abbrev a : List Entry
  a = act opts sites input j p t k asked

  abbrev rows : Request → List Entry
  rows r = row opts sites input j p t (cost k asked.line) asked.line r

  calm : (r : Request) → asked.request ≡ r → is_faulty (rows r) ≡ false
  calm r q =
      let g = going_row opts sites input j p t k asked on in
      ap (λ x. is_faulty (rows x)) (sym q) ∙ (ap is_faulty (sym (settled_calm (fault p t no_cost 10 asked.line) j (rows asked.request) refl g.1)) ∙ g.1)

  is_row : (r : Request) (e : Entry) → asked.request ≡ r → rows r ≡ e ∷ [] → a ≡ e ∷ []
  is_row r e q h = (going_row opts sites input j p t k asked on).0 ∙ (ap rows q ∙ h)

  -- an object
  pub told_object : (m o : ℕ) → asked.request ≡ ask.Make m → answer_to sites t (j ++ a) ≡ Some (answer.Object o) → o < object_count (j ++ a)
  told_object m o q h =
      let e : Entry = asking kind.Make p t (cost k asked.line) (object_count j) (pos m) (pos 0) in
      let s : a ≡ e ∷ [] = is_row (ask.Make m) e q (without_fault (nat_lt (object_count j) OBJECTS) _ _ refl (calm (ask.Make m) q)) in
      let told : answer_to sites t (j ++ e ∷ []) ≡ Some (answer.Object (object_count j)) = told_self sites j e t (object_count j) (answer_push sites t j e) in
      let same : object_count j ≡ o = object_same (object_count j) o (sym told ∙ subst (λ (x : List Entry). answer_to sites t (j ++ x) ≡ Some (answer.Object o)) s h) in
      let n : object_count (j ++ e ∷ []) ≡ object_count j + 1 = objects_push j e in
      subst (λ (x : List Entry). o < object_count (j ++ x)) (sym s) (omega (arith, n, same))

  pub told_cluster : (o : ℕ) → asked.request ≡ ask.Cluster → answer_to sites t (j ++ a) ≡ Some (answer.Object o) → o < cluster_count (j ++ a)
  told_cluster o q h =
      let e : Entry = asking kind.Cluster p t (cost k asked.line) 0 (pos (cluster_count j)) (pos 0) in
      let s : a ≡ e ∷ [] = is_row ask.Cluster e q (without_fault (nat_lt (cluster_count j) CLUSTERS) _ _ refl (calm ask.Cluster q)) in
      let told : answer_to sites t (j ++ e ∷ []) ≡ Some (answer.Object (cluster_count j)) = told_self sites j e t (cluster_count j) (answer_push sites t j e) in
      let same : cluster_count j ≡ o = object_same (cluster_count j) o (sym told ∙ subst (λ (x : List Entry). answer_to sites t (j ++ x) ≡ Some (answer.Object o)) s h) in
      let n : cluster_count (j ++ e ∷ []) ≡ cluster_count j + 1 = clusters_push j e in
      subst (λ (x : List Entry). o < cluster_count (j ++ x)) (sym s) (omega (arith, n, same))

  pub told_processor : (c o : ℕ) → asked.request ≡ ask.Processor c → answer_to sites t (j ++ a) ≡ Some (answer.Object o) → o < processor_count opts (j ++ a)
  told_processor c o q h =
      let e : Entry = asking kind.Processor p t (cost k asked.line) 0 (pos (processor_count opts j)) (pos c) in
      let s : a ≡ e ∷ [] = is_row (ask.Processor c) e q (without_fault (nat_lt (processor_count opts j) PROCESSORS) _ _ refl (calm (ask.Processor c) q)) in
      let told : answer_to sites t (j ++ e ∷ []) ≡ Some (answer.Object (processor_count opts j)) = told_self sites j e t (processor_count opts j) (answer_push sites t j e) in
      let same : processor_count opts j ≡ o = object_same (processor_count opts j) o (sym told ∙ subst (λ (x : List Entry). answer_to sites t (j ++ x) ≡ Some (answer.Object o)) s h) in
      let n : processor_count opts (j ++ e ∷ []) ≡ processor_count opts j + 1 = processors_push opts j e in
      subst (λ (x : List Entry). o < processor_count opts (j ++ x)) (sym s) (omega (arith, n, same))

  -- the object of a task that is spawned
  own_by : (u n o : ℕ) (c : Cost) → u ≡ n → own_object u (asking kind.Spawn p t c o (pos n) (pos 0) ∷ []) ≡ o
  unfolding own_object
  own_by u n o c e = by (u == n) (subst (λ k. (u == k) ≡ true) e (self_test u))
    where
      by : (b : Bool) → b ≡ true → first_or_0 (filter (λ a. not (list_any (λ (x : Entry). false) [])) (option_to_list (where_true b o)) ++ []) ≡ o
      by true f = refl
      by false f = absurd (cc)

  pub spawned_object : (u o : ℕ) → asked.request ≡ ask.Spawn o → u ≡ task_count j → own_object u a ≡ o
  spawned_object u o q h =
      let e : Entry = asking kind.Spawn p t (cost k asked.line) o (pos (task_count j)) (pos 0) in
      let s : a ≡ e ∷ [] = is_row (ask.Spawn o) e q (without_fault (nat_lt (task_count j) TASKS) _ _ refl (calm (ask.Spawn o) q)) in
      subst (λ (x : List Entry). own_object u x ≡ o) (sym s) (own_by u (task_count j) o (cost k asked.line) h)
