-- What a task is told that asks for a cluster: a number below the count of clusters, which only grows.
use Rattle.std.proofs.Common.{◌≡◌, ℕ, zero, suc, ◌+◌, ◌≤◌, ◌<◌, ◌==◌, ◌||◌, Bool, true, false, cond, List, [], ◌∷◌, ◌++◌, Option, Some, None, refl, sym, ap, ◌∙◌, subst, arith, append-nil, append_assoc}
use Rattle.std.specs.Prelude.{pos, nat_lt}
use Rattle.std.specs.List.{count_by}
use Rattle.std.proofs.lemmas.List.Sums.{fold_push}
use Rattle.std.proofs.lemmas.Bool.{eq-eqb}
use Rattle.uc_tree.specs.Programs.{Site}
use Rattle.uc_tree.specs.declared.limits.TheConstants.{CLUSTERS}
use Rattle.uc_entry.specs.declared.entry.Entry.{Entry}
use Rattle.uc_entry.specs.declared.entry.EntryKind.{EntryKind}
use Rattle.uc_entry.specs.declared.entry.EntryKind.TheVariants as kind
use Rattle.uc_entry.specs.declared.entry.Options.{Options}
use Rattle.uc_entry.specs.declared.request.Answer.{Answer}
use Rattle.uc_entry.specs.declared.request.Answer.TheVariants as answer
use Rattle.uc_entry.specs.declared.request.Asked.{Asked}
use Rattle.uc_entry.specs.declared.request.Request.TheVariants as ask
use Rattle.uc_acts.specs.Journal.{Journal, Cost, asking, cost, no_cost, is_fault, is_over, number, holds, where_true}
use Rattle.uc_acts.specs.Queues.{cluster_count, is_cluster}
use Rattle.uc_acts.specs.Answers.{tells, asks, answer_to, let_in_answer}
use Rattle.uc_acts.specs.Acts.{act, row, fault, or_fault, is_faulty}
use Rattle.uc_acts.proofs.Acting.{AllBy, is_own, object_of, destroys, by_act}
use Rattle.uc_acts.proofs.Answered.{later, answer_push}
use Rattle.uc_acts.proofs.Living.{going_row}
use Rattle.uc_acts.proofs.Rest.{settled_calm}
use Rattle.uc_acts.proofs.SoundLemmas.{self_test}
use Rattle.uc_answer_laws.proofs.Rows.{asks_task}

-- the count of clusters

count_push : (j : Journal) (e : Entry) → count_by (λ x. is_cluster x.kind) (j ++ e ∷ []) ≡ count_by (λ x. is_cluster x.kind) j + cond (is_cluster e.kind) 1 0
count_push j e = fold_push (λ (n : ℕ) (x : Entry). n + cond (is_cluster x.kind) 1 0) 0 j e

one_more : (j : Journal) (e : Entry) → cluster_count (j ++ e ∷ []) ≡ cluster_count j + cond (is_cluster e.kind) 1 0
unfolding cluster_count
one_more j e = let h = count_push j e in omega (arith, h)

pub grows : (j : Journal) (a : List Entry) → cluster_count j ≤ cluster_count (j ++ a)
grows j [] = subst (λ i. cluster_count j ≤ cluster_count i) (sym (append-nil j)) (omega arith)
grows j (e ∷ a) =
    let h : cluster_count (j ++ e ∷ []) ≤ cluster_count ((j ++ e ∷ []) ++ a) = grows (j ++ e ∷ []) a in
    let n = one_more j e in
    let l : cluster_count j ≤ cluster_count ((j ++ e ∷ []) ++ a) = omega (arith, h, n) in
    subst (λ i. cluster_count j ≤ cluster_count i) (append_assoc j (e ∷ []) a) l

pub some_cluster : (j : Journal) → 1 ≤ cluster_count j
unfolding cluster_count
some_cluster j = omega arith

-- who asks for a cluster

without_fault : (b : Bool) (e f : Entry) → is_fault f.kind ≡ true → is_faulty (or_fault b e f) ≡ false → or_fault b e f ≡ e ∷ []
without_fault true e f q n = refl
without_fault false e f q n = absurd (cc)

cluster_row : (opts : Options) (sites : List Site) (input : List ℕ) (j : Journal) (p t : ℕ) (k : Cost) (line : ℕ) → is_faulty (row opts sites input j p t k line ask.Cluster) ≡ false → row opts sites input j p t k line ask.Cluster ≡ asking kind.Cluster p t k 0 (pos (cluster_count j)) (pos 0) ∷ []
cluster_row opts sites input j p t k line n = without_fault (nat_lt (cluster_count j) CLUSTERS) _ _ refl n

told_new : (sites : List Site) (j : Journal) (p t : ℕ) (k : Cost) → answer_to sites t (j ++ asking kind.Cluster p t k 0 (pos (cluster_count j)) (pos 0) ∷ []) ≡ Some (answer.Object (cluster_count j))
told_new sites j p t k =
    let self = self_test t in
    answer_push sites t j (asking kind.Cluster p t k 0 (pos (cluster_count j)) (pos 0)) ∙ by (t == t) self
  where
    by : (b : Bool) → b ≡ true → later (where_true b (answer.Object (cluster_count j))) b (answer_to sites t j) ≡ Some (answer.Object (cluster_count j))
    by true e = refl
    by false e = absurd (cc)

-- it is told the next number, and then there is one more
pub record ToldNew (sites : List Site) (j a : Journal) (t : ℕ) : Type 0 where
  pub answer : answer_to sites t (j ++ a) ≡ Some (answer.Object (cluster_count j))
  pub count : cluster_count j < cluster_count (j ++ a)

pub told_own : (opts : Options) (sites : List Site) (input : List ℕ) (j : Journal) (p t k : ℕ) (asked : Asked) → asked.request ≡ ask.Cluster → is_over (j ++ act opts sites input j p t k asked) ≡ false → ToldNew sites j (act opts sites input j p t k asked) t
told_own opts sites input j p t k asked q o =
    let g = going_row opts sites input j p t k asked o in
    let rows : List Entry = row opts sites input j p t (cost k asked.line) asked.line asked.request in
    let calm : is_faulty rows ≡ false = ap is_faulty (sym (settled_calm (fault p t no_cost 10 asked.line) j rows refl g.1)) ∙ g.1 in
    let e : Entry = asking kind.Cluster p t (cost k asked.line) 0 (pos (cluster_count j)) (pos 0) in
    let same : rows ≡ e ∷ [] = ap (row opts sites input j p t (cost k asked.line) asked.line) q ∙ cluster_row opts sites input j p t (cost k asked.line) asked.line (ap (λ r. is_faulty (row opts sites input j p t (cost k asked.line) asked.line r)) (sym q) ∙ calm) in
    let n : cluster_count (j ++ e ∷ []) ≡ cluster_count j + 1 = one_more j e in
    subst (λ a. ToldNew sites j a t) (sym (g.0 ∙ same)) (record { answer = told_new sites j p t (cost k asked.line); count = omega (arith, n) })

-- of others

no_both : {A : Type 0} (b : Bool) → b ≡ true → b ≡ false → A
no_both b t f = absurd (cc)

let_in : (n o : ℕ) (b : Bool) → let_in_answer n b ≡ answer.Object o → ⊥
let_in zero o b h = cc
let_in (suc n) o b h = cc

where_object : (b : Bool) (x : Answer) (o : ℕ) → (x ≡ answer.Object o → ⊥) → where_true b x ≡ Some (answer.Object o) → ⊥
where_object true x o f h = let q : x ≡ answer.Object o = cc in f q
where_object false x o f h = cc

-- who does not ask is told of no object
tells_none : (sites : List Site) (k : EntryKind) (e : Entry) (t o : ℕ) → asks t k e ≡ false → tells sites t k e ≡ Some (answer.Object o) → ⊥
tells_none sites kind.Begin e t o h f = where_object (t == 0) answer.Go o (λ q. cc) f
tells_none sites kind.Spawn e t o h f = where_object ((t == e.task) || (t == number e.a)) answer.Go o (λ q. cc) f
tells_none sites kind.Admit e t o h f = where_object (t == e.task) (let_in_answer (number e.b) (holds 1 e.c)) o (let_in (number e.b) o (holds 1 e.c)) f
tells_none sites k e t o h f = cc

own_kind : (k : EntryKind) (e : Entry) (u : ℕ) → asks u k e ≡ true → is_own k ≡ true
own_kind kind.Begin e u h = absurd (cc)
own_kind kind.Dispatch e u h = absurd (cc)
own_kind kind.Admit e u h = absurd (cc)
own_kind kind.Push e u h = absurd (cc)
own_kind kind.Done e u h = absurd (cc)
own_kind kind.Deadlock e u h = absurd (cc)
own_kind kind.NoProcessor e u h = absurd (cc)
own_kind kind.Limit e u h = absurd (cc)
own_kind k e u h = refl

pub one_kept : (sites : List Site) (j : Journal) (e : Entry) (u o : ℕ) → asks u e.kind e ≡ false → answer_to sites u (j ++ e ∷ []) ≡ Some (answer.Object o) → answer_to sites u j ≡ Some (answer.Object o)
one_kept sites j e u o a h = by (tells sites u e.kind e) refl (asks u e.kind e) a (sym (answer_push sites u j e) ∙ h)
  where
    by : (x : Option Answer) → tells sites u e.kind e ≡ x → (b : Bool) → b ≡ false → later x b (answer_to sites u j) ≡ Some (answer.Object o) → answer_to sites u j ≡ Some (answer.Object o)
    by (Some x) f b g l = absurd (tells_none sites e.kind e u o a (f ∙ l))
    by None f true g l = absurd (cc)
    by None f false g l = l

others_kept : (sites : List Site) (p t ob : ℕ) (A : Type 0) (g : Bool) (j : Journal) (u o : ℕ) (a : List Entry) → (u == t) ≡ false → AllBy p t ob A g a → answer_to sites u (j ++ a) ≡ Some (answer.Object o) → answer_to sites u j ≡ Some (answer.Object o)
others_kept sites p t ob A g j u o [] h b f = ap (answer_to sites u) (sym (append-nil j)) ∙ f
others_kept sites p t ob A g j u o (e ∷ a) h b f =
    one_kept sites j e u o (by (asks u e.kind e) refl) (others_kept sites p t ob A g (j ++ e ∷ []) u o a h b.1 (ap (answer_to sites u) (append_assoc j (e ∷ []) a) ∙ f))
  where
    by : (c : Bool) → asks u e.kind e ≡ c → asks u e.kind e ≡ false
    by false q = q
    by true q =
        let same = asks_task e.kind e u q ∙ b.0.task (own_kind e.kind e u q) in
        no_both (u == t) (eq-eqb u t same) h

-- what a task has been told stays what it was while others act
pub told_others : (opts : Options) (sites : List Site) (input : List ℕ) (j : Journal) (p t k : ℕ) (asked : Asked) (u o : ℕ) → (u == t) ≡ false → answer_to sites u (j ++ act opts sites input j p t k asked) ≡ Some (answer.Object o) → answer_to sites u j ≡ Some (answer.Object o)
told_others opts sites input j p t k asked u o h f =
    others_kept sites p t (object_of t j asked.request) (Unit {0}) (destroys asked.request) j u o (act opts sites input j p t k asked) h (by_act opts sites input j p t k (Unit {0}) asked (λ f. tt)) f
