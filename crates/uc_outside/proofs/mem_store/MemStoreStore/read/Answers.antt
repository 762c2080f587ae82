use Rattle.std.proofs.Common.{Some, ap, inl, refl, true, false, ◌∙◌, ◌≡◌}
use Rattle.std.proofs.lemmas.Result.{IfErr-weaker}
use Rattle.uc_outside.specs.Memory.{ListedStore, is_listed, next_call}
use Rattle.uc_outside.proofs.Listed.{fault_unlisted, listed_as}
use Rattle.uc_outside.proofs.mem_store.MemStoreStore.read.Goals as goal

pub returns-then-contains-clause-failed : goal.returns-then-contains-clause-failed
returns-then-contains-clause-failed c =
    let reads = ap (λ (s : ListedStore). next_call s.reads) c.self.view_is in
    let fails = ap (λ (s : ListedStore). s.fails) c.self.view_is in
    let listed : is_listed c.args.self.now.fails (next_call c.args.self.now.reads) ≡ true =
    listed_as (c.deref.ensures.value ∙ fails) (c.saturating_add-self-inside.ensures ∙ reads) c.contains.ensures.value c.if-contains.true in
    (λ h. inl listed, λ h. c.refuse.ensures.fault)

pub returns-clause-failed : goal.returns-clause-failed
returns-clause-failed c =
    let reads = ap (λ (s : ListedStore). next_call s.reads) c.self.view_is in
    let fails = ap (λ (s : ListedStore). s.fails) c.self.view_is in
    let unlisted : is_listed c.args.self.now.fails (next_call c.args.self.now.reads) ≡ false =
    listed_as (c.deref.ensures.value ∙ fails) (c.saturating_add-self-inside.ensures ∙ reads) c.contains.ensures.value c.if-contains.false in
    let told = ap (λ (s : ListedStore). Some s.files) c.self.view_is in
    IfErr-weaker _ _ _ (λ e f. fault_unlisted c.args.self.now _ _ _ _ e refl told unlisted f) c.read.ensures.err
