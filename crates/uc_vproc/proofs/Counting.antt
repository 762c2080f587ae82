-- What may be asked for, behind a dispatch and behind an act.
use Rattle.std.proofs.Common.{◌≡◌, ℕ, pos, ◌+◌, ◌≤◌, Bool, true, false, cond, List, [], ◌∷◌, ◌++◌, sym, ap, ◌∙◌, subst, arith}
use Rattle.std.specs.Prelude.{nat_lt}
use Rattle.std.specs.List.{count_by}
use Rattle.std.proofs.lemmas.List.Sums.{sum_by-append}
use Rattle.uc_tree.specs.Programs.{Site}
use Rattle.uc_tree.specs.declared.limits.TheConstants.{CLUSTERS, PROCESSORS}
use Rattle.uc_entry.specs.declared.entry.Entry.{Entry}
use Rattle.uc_entry.specs.declared.entry.EntryKind.TheVariants as kind
use Rattle.uc_entry.specs.declared.entry.Options.{Options}
use Rattle.uc_entry.specs.declared.fault.RunFault.TheVariants as run_fault
use Rattle.uc_entry.specs.declared.request.Asked.{Asked}
use Rattle.uc_entry.specs.declared.request.Request.{Request}
use Rattle.uc_entry.specs.declared.request.Request.TheVariants as ask
use Rattle.uc_entry.specs.Faults.{fault_number}
use Rattle.uc_acts.specs.Journal.{Journal, asking, cost, held, is_over}
use Rattle.uc_acts.specs.Known.{has}
use Rattle.uc_acts.specs.Queues.{cluster_count, is_cluster, is_processor, processor_count}
use Rattle.uc_acts.specs.Serves.{Serves}
use Rattle.uc_acts.specs.Acts.{act, dispatch, fault, or_fault, row}
use Rattle.uc_acts.specs.KernelRuns.{KernelRuns, MayAsk}
use Rattle.uc_acts.proofs.Given.{law_dispatch}
use Rattle.uc_acts.proofs.Living.{going_row}
use Rattle.uc_kernel.specs.AtRest.{IsMake}
use Rattle.uc_kernel.proofs.Making.{over_fault}
use Rattle.uc_vproc.specs.declared.registry.Registry.{Registry}
use Rattle.uc_vproc.specs.declared.step.Step.{Step}
use Rattle.uc_vproc.specs.Registries.{Tells, new_clusters, new_processors, sort_of}
use Rattle.uc_vproc.specs.Desks.{IsTold, RegistryAfter}
use Rattle.uc_vproc.proofs.MakersLemmas.{not_both}
use Rattle.uc_vproc.proofs.Asked.{there_by}

-- how many there are behind more entries
clusters_more : (j a : Journal) → cluster_count (j ++ a) ≡ cluster_count j + count_by (λ e. is_cluster e.kind) a
unfolding cluster_count
clusters_more j a = let n = sum_by-append (λ (e : Entry). cond (is_cluster e.kind) 1 0) j a in omega (arith, n)

processors_more : (opts : Options) (j a : Journal) → processor_count opts (j ++ a) ≡ processor_count opts j + count_by (λ e. is_processor e.kind) a
unfolding processor_count
processors_more opts j a = let n = sum_by-append (λ (e : Entry). cond (is_processor e.kind) 1 0) j a in omega (arith, n)

clusters_stay : (j a : Journal) → cluster_count j + 0 ≤ cluster_count (j ++ a)
clusters_stay j a = let n = clusters_more j a in omega (arith, n)

processors_stay : (opts : Options) (j a : Journal) → processor_count opts j + 0 ≤ processor_count opts (j ++ a)
processors_stay opts j a = let n = processors_more opts j a in omega (arith, n)

-- behind a dispatch
pub told_given : (opts : Options) (sites : List Site) (input : List ℕ) (j : Journal) (p t : ℕ) → KernelRuns opts sites input j → Serves opts j p t → (r : Registry) → Tells opts j r → Tells opts (j ++ dispatch p t ∷ []) r
told_given opts sites input j p t runs serves r x = record {
  objects = λ o h. ap (λ os. has os o) ((law_dispatch opts sites input j p t runs serves).made) ∙ x.objects o h;
  clusters = let n = clusters_stay j (dispatch p t ∷ []) in let c = x.clusters in omega (arith, n, c);
  processors = let n = processors_stay opts j (dispatch p t ∷ []) in let c = x.processors in omega (arith, n, c);
}

or_fault_more : (P : Journal → ℕ) (b : Bool) (j : Journal) (p t k n line : ℕ) (e : Entry) → P j + 1 ≤ P (j ++ e ∷ []) → is_over (j ++ or_fault b e (fault p t (cost k line) n line)) ≡ false → P j + 1 ≤ P (j ++ or_fault b e (fault p t (cost k line) n line))
or_fault_more P true j p t k n line e le h = le
or_fault_more P false j p t k n line e le h =
    not_both (is_over (j ++ fault p t (cost k line) n line ∷ [])) (over_fault j p t (cost k line) n line) h

module _ (opts : Options) (sites : List Site) (input : List ℕ) (j : Journal) (p t k line : ℕ) where
  abbrev of : Request → List Entry
  of r = row opts sites input j p t (cost k line) line r

  clusters_row : (r : Request) → is_over (j ++ of r) ≡ false → cluster_count j + new_clusters (sort_of r) ≤ cluster_count (j ++ of r)
  clusters_row ask.Cluster h =
      let e : Entry = asking kind.Cluster p t (cost k line) 0 (pos (cluster_count j)) (pos 0) in
      or_fault_more cluster_count (nat_lt (cluster_count j) CLUSTERS) j p t k (fault_number run_fault.TooManyProcessors) line e (let n = clusters_more j (e ∷ []) in omega (arith, n)) h
  clusters_row r h = clusters_stay j (of r)

  processors_row : (r : Request) → is_over (j ++ of r) ≡ false → processor_count opts j + new_processors (sort_of r) ≤ processor_count opts (j ++ of r)
  processors_row (ask.Processor x) h =
      let e : Entry = asking kind.Processor p t (cost k line) 0 (pos (processor_count opts j)) (pos x) in
      or_fault_more (processor_count opts) (nat_lt (processor_count opts j) PROCESSORS) j p t k (fault_number run_fault.TooManyProcessors) line e (let n = processors_more opts j (e ∷ []) in omega (arith, n)) h
  processors_row r h = processors_stay opts j (of r)

module _ (opts : Options) (sites : List Site) (input : List ℕ) (j : Journal) (p t n : ℕ) (asked : Asked) where
  abbrev a : List Entry
  a = act opts sites input j p t n asked

  going : is_over (j ++ a) ≡ false → a ≡ row opts sites input j p t (cost n asked.line) asked.line asked.request
  going h = (going_row opts sites input j p t n asked h).0

  -- behind an act
  pub told_by : KernelRuns opts sites input j → is_over j ≡ false → MayAsk opts sites j p t n asked.request → KernelRuns opts sites input (j ++ act opts sites input j p t n asked) → is_over (j ++ act opts sites input j p t n asked) ≡ false → (r : Registry) → Tells opts j r → (r' : Registry) (step : Step) → RegistryAfter r r' asked.request step → (IsMake asked.request → (o : ℕ) → IsTold o step → has (held t (j ++ act opts sites input j p t n asked)) o ≡ true) → Tells opts (j ++ act opts sites input j p t n asked) r'
  told_by runs going_on may runs' going' r x r' step w new =
      let same = going going' in
      let on = ap (λ l. is_over (j ++ l)) (sym same) ∙ going' in
      record {
        objects = λ o h. there_by opts sites input j p t n asked runs going_on may runs' going' r.there.items x.objects step new o (w.objects o h);
        clusters =
            let more = subst (λ l. cluster_count j + new_clusters (sort_of asked.request) ≤ cluster_count (j ++ l)) (sym same) (clusters_row opts sites input j p t n asked.line asked.request on) in
            let c = x.clusters in
            let d = w.clusters in omega (arith, more, c, d);
        processors =
            let more = subst (λ l. processor_count opts j + new_processors (sort_of asked.request) ≤ processor_count opts (j ++ l)) (sym same) (processors_row opts sites input j p t n asked.line asked.request on) in
            let c = x.processors in
            let d = w.processors in omega (arith, more, c, d);
      }
