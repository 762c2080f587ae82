-- The entries of requests for clusters, processors, objects and tasks.
use Rattle.std.proofs.Common.{◌≡◌, ℕ, zero, suc, pos, ◌==◌, ◌+◌, ◌<◌, ◌≤◌, Bool, true, false, not, cond, List, [], ◌∷◌, Option, Some, None, refl, sym, ap, ◌∙◌, arith, length, get_or}
use Rattle.std.specs.Prelude.{nat_lt}
use Rattle.std.specs.Option.{option_to_list, IsSome}
use Rattle.std.proofs.lemmas.Bool.{eqb-true, leb-true, le-leb}
use Rattle.uc_tree.specs.declared.limits.TheConstants.{TASKS, OBJECTS, CLUSTERS, PROCESSORS}
use Rattle.uc_entry.specs.declared.entry.Entry.{Entry}
use Rattle.uc_entry.specs.declared.entry.EntryKind.TheVariants as kind
use Rattle.uc_entry.specs.declared.entry.Options.{Options}
use Rattle.uc_entry.specs.declared.request.Request.{Request}
use Rattle.uc_entry.specs.declared.request.Request.TheVariants as ask
use Rattle.uc_acts.specs.Journal.{Journal, asking, cost, no_cost}
use Rattle.uc_acts.specs.Queues.{cluster_count, processor_count, processors, cluster_in}
use Rattle.uc_acts.specs.Known.{object_count, task_count}
use Rattle.uc_acts.specs.Doors.{destroys_busy}
use Rattle.uc_acts.specs.Acts.{row, fault, or_fault, settled}
use Rattle.uc_acts.proofs.SoundLemmas.{self_test}
use Rattle.uc_cluster.specs.declared.clusters.Processor.{Processor}
use Rattle.uc_cluster.specs.Standing.{Standing, no_processor, processor_at, new_number, is_in_use}
use Rattle.uc_cluster.specs.Laws.{numbered}
use Rattle.uc_cluster.proofs.Asked.{in_use}
use Rattle.uc_kernel_core.specs.Mirrors.{Seen, ClustersAre, rows}
use Rattle.uc_kernel_core.proofs.Nexts.{settled_kept}

-- ---- tests
less_so : (m n : ℕ) → m < n → nat_lt m n ≡ true
less_so m n lt = le-leb (suc m) n lt

less_not : (m n : ℕ) → n ≤ m → nat_lt m n ≡ false
less_not m n le = by (nat_lt m n) refl
  where
    by : (b : Bool) → nat_lt m n ≡ b → b ≡ false
    by true h = let lt = leb-true (suc m) n h in absurd (omega arith)
    by false h = refl

number_some : (limit n m : ℕ) → Some n ≡ new_number limit m → (nat_lt m limit ≡ true) × (n ≡ m)
number_some limit n m h = by (nat_lt m limit) refl h
  where
    same : (a b : ℕ) → Some a ≡ Some b → a ≡ b
    same a b e = cc

    by : (b : Bool) → nat_lt m limit ≡ b → Some n ≡ cond b (Some m) None → (nat_lt m limit ≡ true) × (n ≡ m)
    by true g e = (g, same n m e)
    by false g e = cc

number_none : (limit m : ℕ) → None ≡ new_number limit m → nat_lt m limit ≡ false
number_none limit m h = by (nat_lt m limit) refl h
  where
    by : (b : Bool) → nat_lt m limit ≡ b → None ≡ cond b (Some m) None → nat_lt m limit ≡ false
    by true g e = cc
    by false g e = g

-- the standing once one more was asked for
pub number_kept : {A : Type 0} (limit m : ℕ) (x y : A) → None ≡ new_number limit m → cond (nat_lt m limit) x y ≡ y
number_kept limit m x y h = ap (λ b. cond b x y) (number_none limit m h)

pub number_more : {A : Type 0} (limit n m : ℕ) (x y : A) → Some n ≡ new_number limit m → cond (nat_lt m limit) x y ≡ x
number_more limit n m x y h = ap (λ b. cond b x y) (number_some limit n m h).0

pub number_is : (limit n m : ℕ) → Some n ≡ new_number limit m → n ≡ m
number_is limit n m h = (number_some limit n m h).1

-- a row of one entry is not cut
pub one_row : (s : Seen) (p t k line : ℕ) (r : Request) (e : Entry) → row s.opts s.sites s.input s.journal p t (cost k line) line r ≡ e ∷ [] → destroys_busy s.journal e.kind e ≡ false → rows s p t k line r ≡ e ∷ []
one_row s p t k line r e is h =
    ap (settled (fault p t no_cost 10 line) s.journal) is ∙ settled_kept (fault p t no_cost 10 line) s.journal e h

module _ (s : Seen) (p t k line : ℕ) where
  abbrev pub row_of : Request → List Entry
  row_of r = row s.opts s.sites s.input s.journal p t (cost k line) line r

  -- ---- clusters
  pub cluster_row : (n m : ℕ) → Some n ≡ new_number CLUSTERS m → m ≡ cluster_count s.journal → row_of ask.Cluster ≡ asking kind.Cluster p t (cost k line) 0 (pos n) (pos 0) ∷ []
  cluster_row n m h is =
      let x = number_some CLUSTERS n m h in
      ap (λ b. or_fault b (asking kind.Cluster p t (cost k line) 0 (pos (cluster_count s.journal)) (pos 0)) (fault p t (cost k line) 18 line)) (ap (λ c. nat_lt c CLUSTERS) (sym is) ∙ x.0) ∙ ap (λ c. asking kind.Cluster p t (cost k line) 0 (pos c) (pos 0) ∷ []) (sym is ∙ sym x.1)

  pub cluster_full : (m : ℕ) → None ≡ new_number CLUSTERS m → m ≡ cluster_count s.journal → row_of ask.Cluster ≡ fault p t (cost k line) 18 line ∷ []
  cluster_full m h is =
      ap (λ b. or_fault b (asking kind.Cluster p t (cost k line) 0 (pos (cluster_count s.journal)) (pos 0)) (fault p t (cost k line) 18 line)) (ap (λ c. nat_lt c CLUSTERS) (sym is) ∙ number_none CLUSTERS m h)

  pub cluster_end_row : (c : ℕ) (v : Standing) (b : Bool) → ClustersAre s.opts s.journal v → b ≡ not (is_in_use c v) → row_of (ask.ClusterEnd c) ≡ or_fault b (asking kind.ClusterEnd p t (cost k line) 0 (pos c) (pos 0)) (fault p t (cost k line) 10 line)
  cluster_end_row c v b h is =
      ap (λ x. or_fault x (asking kind.ClusterEnd p t (cost k line) 0 (pos c) (pos 0)) (fault p t (cost k line) 10 line)) (sym (is ∙ ap not (in_use s.opts v s.journal c h.desks h.stands)))

  -- ---- processors
  pub processor_row : (c n m : ℕ) → Some n ≡ new_number PROCESSORS m → m ≡ processor_count s.opts s.journal → row_of (ask.Processor c) ≡ asking kind.Processor p t (cost k line) 0 (pos n) (pos c) ∷ []
  processor_row c n m h is =
      let x = number_some PROCESSORS n m h in
      ap (λ b. or_fault b (asking kind.Processor p t (cost k line) 0 (pos (processor_count s.opts s.journal)) (pos c)) (fault p t (cost k line) 18 line)) (ap (λ q. nat_lt q PROCESSORS) (sym is) ∙ x.0) ∙ ap (λ q. asking kind.Processor p t (cost k line) 0 (pos q) (pos c) ∷ []) (sym is ∙ sym x.1)

  pub processor_full : (c m : ℕ) → None ≡ new_number PROCESSORS m → m ≡ processor_count s.opts s.journal → row_of (ask.Processor c) ≡ fault p t (cost k line) 18 line ∷ []
  processor_full c m h is =
      ap (λ b. or_fault b (asking kind.Processor p t (cost k line) 0 (pos (processor_count s.opts s.journal)) (pos c)) (fault p t (cost k line) 18 line)) (ap (λ q. nat_lt q PROCESSORS) (sym is) ∙ number_none PROCESSORS m h)

  -- ---- objects and tasks
  pub make_row : (class n : ℕ) → n ≡ object_count s.journal → n < OBJECTS → row_of (ask.Make class) ≡ asking kind.Make p t (cost k line) n (pos class) (pos 0) ∷ []
  make_row class n is lt =
      ap (λ b. or_fault b (asking kind.Make p t (cost k line) (object_count s.journal) (pos class) (pos 0)) (fault p t (cost k line) 16 line)) (ap (λ c. nat_lt c OBJECTS) (sym is) ∙ less_so n OBJECTS lt) ∙ ap (λ c. asking kind.Make p t (cost k line) c (pos class) (pos 0) ∷ []) (sym is)

  pub make_full : (class n : ℕ) → n ≡ object_count s.journal → OBJECTS ≤ n → row_of (ask.Make class) ≡ fault p t (cost k line) 16 line ∷ []
  make_full class n is le =
      ap (λ b. or_fault b (asking kind.Make p t (cost k line) (object_count s.journal) (pos class) (pos 0)) (fault p t (cost k line) 16 line)) (ap (λ c. nat_lt c OBJECTS) (sym is) ∙ less_not n OBJECTS le)

  pub spawn_row : (o n : ℕ) → n ≡ task_count s.journal → n < TASKS → row_of (ask.Spawn o) ≡ asking kind.Spawn p t (cost k line) o (pos n) (pos 0) ∷ []
  spawn_row o n is lt =
      ap (λ b. or_fault b (asking kind.Spawn p t (cost k line) o (pos (task_count s.journal)) (pos 0)) (fault p t (cost k line) 15 line)) (ap (λ c. nat_lt c TASKS) (sym is) ∙ less_so n TASKS lt) ∙ ap (λ c. asking kind.Spawn p t (cost k line) o (pos c) (pos 0) ∷ []) (sym is)

  pub spawn_full : (o n : ℕ) → n ≡ task_count s.journal → TASKS ≤ n → row_of (ask.Spawn o) ≡ fault p t (cost k line) 15 line ∷ []
  spawn_full o n is le =
      ap (λ b. or_fault b (asking kind.Spawn p t (cost k line) o (pos (task_count s.journal)) (pos 0)) (fault p t (cost k line) 15 line)) (ap (λ c. nat_lt c TASKS) (sym is) ∙ less_not n TASKS le)

-- the cluster of a processor of a list whose first is number n
cluster_numbered : (n q : ℕ) (ps : List Processor) → q < length ps → cluster_in (n + q) (numbered n ps) ≡ (get_or ps q no_processor).cluster
cluster_numbered n q [] lt = absurd (omega arith)
cluster_numbered n zero (x ∷ ps) lt =
    let same : n + 0 ≡ n = omega arith in
    ap (λ m. cond (n == m) x.cluster (cluster_in m (numbered (n + 1) ps))) same ∙ ap (λ b. cond b x.cluster (cluster_in n (numbered (n + 1) ps))) (self_test n)
cluster_numbered n (suc q) (x ∷ ps) lt =
    let next : n + suc q ≡ n + 1 + q = omega arith in
    ap (λ b. cond b x.cluster (cluster_in (n + suc q) (numbered (n + 1) ps))) (later (n == n + suc q) refl) ∙ ap (λ m. cluster_in m (numbered (n + 1) ps)) next ∙ cluster_numbered (n + 1) q ps (omega (arith, lt))
  where
    later : (b : Bool) → (n == n + suc q) ≡ b → b ≡ false
    later true h = let s = eqb-true n (n + suc q) h in absurd (omega arith)
    later false h = refl

pub cluster_told : (opts : Options) (j : Journal) (v : Standing) → ClustersAre opts j v → (q : ℕ) → q < processor_count opts j → (processor_at v q).cluster ≡ cluster_in q (processors opts j)
cluster_told opts j v h q lt =
    let z : 0 + q ≡ q = omega arith in
    sym (ap (cluster_in q) h.desks.all ∙ ap (λ m. cluster_in m (numbered 0 v.processors)) (sym z) ∙ cluster_numbered 0 q v.processors (rw h.desks.counted lt))

-- somebody is inside, in the words of a door
pub some_inside : (i : Option ℕ) (t : ℕ) → option_to_list i ≡ t ∷ [] → IsSome i
some_inside None t h = cc
some_inside (Some u) t h = refl
