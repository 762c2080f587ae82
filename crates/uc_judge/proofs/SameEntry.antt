-- Entries that are the same in each field.
use Rattle.std.proofs.Common.{◌≡◌, ℕ, ℤ, ◌==◌, ◌&&◌, Bool, true, false, refl, ap, ◌∙◌, rules}
use Rattle.std.specs.Ordering.{int_eq}
use Rattle.std.proofs.lemmas.Bool.{eqb-true}
use Rattle.std.proofs.lemmas.Bool.Decides.{Decides-int_eq}
use denote.Enum.Bare.{sameb, same_true}
use Rattle.uc_entry.specs.declared.entry.Entry.{Entry}
use Rattle.uc_entry.specs.declared.entry.EntryKind.{EntryKind}
use Rattle.uc_entry.specs.contracts.entry.EntryKind.{the_type}

both : (a b : Bool) → (a && b) ≡ true → (a ≡ true) × (b ≡ true)
both true b h = (refl, h)
both false b h = cc

same_int : (m n : ℤ) → int_eq m n ≡ true → m ≡ n
same_int m n h = (Decides-int_eq m n).0 h

abbrev pub entry_of : EntryKind → ℕ → ℕ → ℕ → ℕ → ℤ → ℤ → ℤ → ℤ → ℕ → Entry
entry_of k p t q o a b c d l =
    record { kind = k; proc = p; task = t; ticks = q; object = o; a = a; b = b; c = c; d = d; line = l }

pub same_entry : (x y : Entry) → (sameb the_type x.kind y.kind && ((x.proc == y.proc) && ((x.task == y.task) && ((x.ticks == y.ticks) && ((x.object == y.object) && (int_eq x.a y.a && (int_eq x.b y.b && (int_eq x.c y.c && (int_eq x.d y.d && ((x.line == y.line))))))))))) ≡ true → x ≡ y
same_entry x y h =
    let h0 = both (sameb the_type x.kind y.kind) ((x.proc == y.proc) && ((x.task == y.task) && ((x.ticks == y.ticks) && ((x.object == y.object) && (int_eq x.a y.a && (int_eq x.b y.b && (int_eq x.c y.c && (int_eq x.d y.d && ((x.line == y.line)))))))))) h in
    let h1 = both (x.proc == y.proc) ((x.task == y.task) && ((x.ticks == y.ticks) && ((x.object == y.object) && (int_eq x.a y.a && (int_eq x.b y.b && (int_eq x.c y.c && (int_eq x.d y.d && ((x.line == y.line))))))))) h0.1 in
    let h2 = both (x.task == y.task) ((x.ticks == y.ticks) && ((x.object == y.object) && (int_eq x.a y.a && (int_eq x.b y.b && (int_eq x.c y.c && (int_eq x.d y.d && ((x.line == y.line)))))))) h1.1 in
    let h3 = both (x.ticks == y.ticks) ((x.object == y.object) && (int_eq x.a y.a && (int_eq x.b y.b && (int_eq x.c y.c && (int_eq x.d y.d && ((x.line == y.line))))))) h2.1 in
    let h4 = both (x.object == y.object) (int_eq x.a y.a && (int_eq x.b y.b && (int_eq x.c y.c && (int_eq x.d y.d && ((x.line == y.line)))))) h3.1 in
    let h5 = both (int_eq x.a y.a) (int_eq x.b y.b && (int_eq x.c y.c && (int_eq x.d y.d && ((x.line == y.line))))) h4.1 in
    let h6 = both (int_eq x.b y.b) (int_eq x.c y.c && (int_eq x.d y.d && ((x.line == y.line)))) h5.1 in
    let h7 = both (int_eq x.c y.c) (int_eq x.d y.d && ((x.line == y.line))) h6.1 in
    let h8 = both (int_eq x.d y.d) ((x.line == y.line)) h7.1 in
    let kind_ : x.kind ≡ y.kind = same_true the_type (search rules) _ _ h0.0 in
    let proc_ : x.proc ≡ y.proc = eqb-true x.proc y.proc h1.0 in
    let task_ : x.task ≡ y.task = eqb-true x.task y.task h2.0 in
    let ticks_ : x.ticks ≡ y.ticks = eqb-true x.ticks y.ticks h3.0 in
    let object_ : x.object ≡ y.object = eqb-true x.object y.object h4.0 in
    let a_ : x.a ≡ y.a = same_int x.a y.a h5.0 in
    let b_ : x.b ≡ y.b = same_int x.b y.b h6.0 in
    let c_ : x.c ≡ y.c = same_int x.c y.c h7.0 in
    let d_ : x.d ≡ y.d = same_int x.d y.d h8.0 in
    let line_ : x.line ≡ y.line = eqb-true x.line y.line h8.1 in
    ap (λ v. entry_of v x.proc x.task x.ticks x.object x.a x.b x.c x.d x.line) kind_
    ∙ ap (λ v. entry_of y.kind v x.task x.ticks x.object x.a x.b x.c x.d x.line) proc_
    ∙ ap (λ v. entry_of y.kind y.proc v x.ticks x.object x.a x.b x.c x.d x.line) task_
    ∙ ap (λ v. entry_of y.kind y.proc y.task v x.object x.a x.b x.c x.d x.line) ticks_
    ∙ ap (λ v. entry_of y.kind y.proc y.task y.ticks v x.a x.b x.c x.d x.line) object_
    ∙ ap (λ v. entry_of y.kind y.proc y.task y.ticks y.object v x.b x.c x.d x.line) a_
    ∙ ap (λ v. entry_of y.kind y.proc y.task y.ticks y.object y.a v x.c x.d x.line) b_
    ∙ ap (λ v. entry_of y.kind y.proc y.task y.ticks y.object y.a y.b v x.d x.line) c_
    ∙ ap (λ v. entry_of y.kind y.proc y.task y.ticks y.object y.a y.b y.c v x.line) d_
    ∙ ap (λ v. entry_of y.kind y.proc y.task y.ticks y.object y.a y.b y.c y.d v) line_
