-- Entries: what types say of their fields, and that a line has one entry.
use Rattle.std.proofs.Common.{◌≡◌, true, ℕ, ℤ, pos, negsuc, ◌+◌, List, [], ◌∷◌, ◌++◌, length, take, drop, refl, sym, ◌∙◌, ap, arith, append_assoc, append-nil, get_or, zero, suc, ◌<◌, rules, to_z, of_z, w32, w64, Fits}
use lib.Dec.{T}
use lib.Signed.{non_neg, le_z, lt_z}
use mir.Val.{SFits}
use lib.IntN.{nat_abs}
use Rattle.std.specs.List.{prefix_len}
use Rattle.std.specs.Fmt.{signed_decimal}
use Rattle.std.proofs.lemmas.Fmt.{decimal_digit}
use Rattle.std.specs.Prelude.{◌<ℤ◌, ◌≤ℤ◌}
use Rattle.std.proofs.lemmas.Int.{ints}
use Rattle.std.proofs.lemmas.List.{take_at, drop_at, take-append-drop, take_more}
use Rattle.uc_entry.specs.declared.entry.Entry.{Entry}
use Rattle.uc_entry.specs.declared.entry.EntryKind.{EntryKind}
use Rattle.uc_entry.specs.declared.entry.EntryKind.TheVariants as kind
use Rattle.uc_acts.specs.declared.field.FieldType.{FieldType}
use Rattle.uc_acts.specs.declared.field.FieldType.TheVariants.{Absent, Byte, Short, Word, Natural, Integer}
use Rattle.uc_acts.specs.Journal.{number}
use Rattle.uc_acts.specs.Texts.{word_of, spaced}
use Rattle.uc_acts.specs.Fit.{IsOf, AreOf, IsFit, types_of, numbers_of}
use Rattle.uc_journal.specs.declared.form.Form.{Form}
use Rattle.uc_journal.specs.declared.form.Form.TheVariants.{Old, New}
use Rattle.uc_journal.specs.Fields.{AreFields, AreNumbers, AreIntegers, all_spaced, IsLine, IsTold, line_in, numbers_in, count_in, left_out}
use Rattle.uc_journal.proofs.Words.{same_kind, word_first, no_space}
use Rattle.uc_journal.proofs.Numbers.{same_fields}

-- each type is one of integers
integer : (t : FieldType) (n : ℤ) → IsOf t n → IsOf Integer n
integer Absent n h = (omega (arith, ints, h.0), omega (arith, ints, h.1))
integer Byte n h = (omega (arith, ints, h.0), omega (arith, ints, h.1))
integer Short n h = (omega (arith, ints, h.0), omega (arith, ints, h.1))
integer Word n h = (omega (arith, ints, h.0), omega (arith, ints, h.1))
integer Natural n h = (omega (arith, ints, h.0), omega (arith, ints, h.1))
integer Integer n h = h

pub integers : (ts : List FieldType) (ns : List ℤ) → AreOf ts ns → AreIntegers ns
integers [] [] h = tt
integers [] (n ∷ ns) h = absurd h
integers (t ∷ ts) [] h = absurd h
integers (t ∷ ts) (n ∷ ns) h = (integer t n h.0, integers ts ns h.1)

byte_of_absent : (n : ℤ) → IsOf Absent n → IsOf Byte n
byte_of_absent n h = (h.0, omega (arith, ints, h.1))

word_of_absent : (n : ℤ) → IsOf Absent n → IsOf Word n
word_of_absent n h = (h.0, omega (arith, ints, h.1))

-- the fields of any kind that are words
pub record HasFront (p t k o n : ℤ) : Type 0 where
  pub proc : IsOf Byte p
  pub task : IsOf Word t
  pub ticks : IsOf Word k
  pub object : IsOf Word o
  pub line : IsOf Word n

pub front : (kd : EntryKind) (p t k o a b c d n : ℤ) → AreOf (types_of kd) (p ∷ t ∷ k ∷ o ∷ a ∷ b ∷ c ∷ d ∷ n ∷ []) → HasFront p t k o n
front kind.Begin p t k o a b c d n h = record { proc = byte_of_absent p h.0; task = word_of_absent t h.1.0; ticks = h.1.1.0; object = word_of_absent o h.1.1.1.0; line = h.1.1.1.1.1.1.1.1.0 }
front kind.Dispatch p t k o a b c d n h = record { proc = h.0; task = h.1.0; ticks = h.1.1.0; object = word_of_absent o h.1.1.1.0; line = h.1.1.1.1.1.1.1.1.0 }
front kind.Slice p t k o a b c d n h = record { proc = h.0; task = h.1.0; ticks = h.1.1.0; object = word_of_absent o h.1.1.1.0; line = h.1.1.1.1.1.1.1.1.0 }
front kind.Yield p t k o a b c d n h = record { proc = h.0; task = h.1.0; ticks = h.1.1.0; object = word_of_absent o h.1.1.1.0; line = h.1.1.1.1.1.1.1.1.0 }
front kind.Make p t k o a b c d n h = record { proc = h.0; task = h.1.0; ticks = h.1.1.0; object = h.1.1.1.0; line = h.1.1.1.1.1.1.1.1.0 }
front kind.Made p t k o a b c d n h = record { proc = h.0; task = h.1.0; ticks = h.1.1.0; object = h.1.1.1.0; line = h.1.1.1.1.1.1.1.1.0 }
front kind.Spawn p t k o a b c d n h = record { proc = h.0; task = h.1.0; ticks = h.1.1.0; object = h.1.1.1.0; line = h.1.1.1.1.1.1.1.1.0 }
front kind.Call p t k o a b c d n h = record { proc = h.0; task = h.1.0; ticks = h.1.1.0; object = h.1.1.1.0; line = h.1.1.1.1.1.1.1.1.0 }
front kind.Leave p t k o a b c d n h = record { proc = h.0; task = h.1.0; ticks = h.1.1.0; object = h.1.1.1.0; line = h.1.1.1.1.1.1.1.1.0 }
front kind.Admit p t k o a b c d n h = record { proc = h.0; task = h.1.0; ticks = h.1.1.0; object = h.1.1.1.0; line = h.1.1.1.1.1.1.1.1.0 }
front kind.Push p t k o a b c d n h = record { proc = h.0; task = h.1.0; ticks = h.1.1.0; object = h.1.1.1.0; line = h.1.1.1.1.1.1.1.1.0 }
front kind.Accept p t k o a b c d n h = record { proc = h.0; task = h.1.0; ticks = h.1.1.0; object = h.1.1.1.0; line = h.1.1.1.1.1.1.1.1.0 }
front kind.Wait p t k o a b c d n h = record { proc = h.0; task = h.1.0; ticks = h.1.1.0; object = h.1.1.1.0; line = h.1.1.1.1.1.1.1.1.0 }
front kind.Signal p t k o a b c d n h = record { proc = h.0; task = h.1.0; ticks = h.1.1.0; object = h.1.1.1.0; line = h.1.1.1.1.1.1.1.1.0 }
front kind.SignalBlock p t k o a b c d n h = record { proc = h.0; task = h.1.0; ticks = h.1.1.0; object = h.1.1.1.0; line = h.1.1.1.1.1.1.1.1.0 }
front kind.Empty p t k o a b c d n h = record { proc = h.0; task = h.1.0; ticks = h.1.1.0; object = h.1.1.1.0; line = h.1.1.1.1.1.1.1.1.0 }
front kind.Front p t k o a b c d n h = record { proc = h.0; task = h.1.0; ticks = h.1.1.0; object = h.1.1.1.0; line = h.1.1.1.1.1.1.1.1.0 }
front kind.Raise p t k o a b c d n h = record { proc = h.0; task = h.1.0; ticks = h.1.1.0; object = h.1.1.1.0; line = h.1.1.1.1.1.1.1.1.0 }
front kind.Poll p t k o a b c d n h = record { proc = h.0; task = h.1.0; ticks = h.1.1.0; object = word_of_absent o h.1.1.1.0; line = h.1.1.1.1.1.1.1.1.0 }
front kind.Print p t k o a b c d n h = record { proc = h.0; task = h.1.0; ticks = h.1.1.0; object = word_of_absent o h.1.1.1.0; line = h.1.1.1.1.1.1.1.1.0 }
front kind.Read p t k o a b c d n h = record { proc = h.0; task = h.1.0; ticks = h.1.1.0; object = word_of_absent o h.1.1.1.0; line = h.1.1.1.1.1.1.1.1.0 }
front kind.Fail p t k o a b c d n h = record { proc = h.0; task = h.1.0; ticks = h.1.1.0; object = word_of_absent o h.1.1.1.0; line = h.1.1.1.1.1.1.1.1.0 }
front kind.Cluster p t k o a b c d n h = record { proc = h.0; task = h.1.0; ticks = h.1.1.0; object = word_of_absent o h.1.1.1.0; line = h.1.1.1.1.1.1.1.1.0 }
front kind.ClusterEnd p t k o a b c d n h = record { proc = h.0; task = h.1.0; ticks = h.1.1.0; object = word_of_absent o h.1.1.1.0; line = h.1.1.1.1.1.1.1.1.0 }
front kind.Processor p t k o a b c d n h = record { proc = h.0; task = h.1.0; ticks = h.1.1.0; object = word_of_absent o h.1.1.1.0; line = h.1.1.1.1.1.1.1.1.0 }
front kind.ProcessorEnd p t k o a b c d n h = record { proc = h.0; task = h.1.0; ticks = h.1.1.0; object = word_of_absent o h.1.1.1.0; line = h.1.1.1.1.1.1.1.1.0 }
front kind.Migrate p t k o a b c d n h = record { proc = h.0; task = h.1.0; ticks = h.1.1.0; object = word_of_absent o h.1.1.1.0; line = h.1.1.1.1.1.1.1.1.0 }
front kind.End p t k o a b c d n h = record { proc = h.0; task = h.1.0; ticks = h.1.1.0; object = h.1.1.1.0; line = h.1.1.1.1.1.1.1.1.0 }
front kind.Gone p t k o a b c d n h = record { proc = h.0; task = h.1.0; ticks = h.1.1.0; object = h.1.1.1.0; line = h.1.1.1.1.1.1.1.1.0 }
front kind.Fault p t k o a b c d n h = record { proc = h.0; task = h.1.0; ticks = h.1.1.0; object = word_of_absent o h.1.1.1.0; line = h.1.1.1.1.1.1.1.1.0 }
front kind.Done p t k o a b c d n h = record { proc = h.0; task = h.1.0; ticks = h.1.1.0; object = word_of_absent o h.1.1.1.0; line = h.1.1.1.1.1.1.1.1.0 }
front kind.Deadlock p t k o a b c d n h = record { proc = h.0; task = h.1.0; ticks = h.1.1.0; object = word_of_absent o h.1.1.1.0; line = h.1.1.1.1.1.1.1.1.0 }
front kind.NoProcessor p t k o a b c d n h = record { proc = h.0; task = h.1.0; ticks = h.1.1.0; object = word_of_absent o h.1.1.1.0; line = h.1.1.1.1.1.1.1.1.0 }
front kind.Limit p t k o a b c d n h = record { proc = h.0; task = h.1.0; ticks = h.1.1.0; object = word_of_absent o h.1.1.1.0; line = h.1.1.1.1.1.1.1.1.0 }

abbrev at : List ℤ → ℕ → ℤ
at ns i = get_or ns i (pos 0)

pub front_at : (k : EntryKind) (ns : List ℤ) → length ns ≡ 9 → AreOf (types_of k) ns → HasFront (at ns 0) (at ns 1) (at ns 2) (at ns 3) (at ns 8)
front_at k [] l h = absurd (omega (arith, l))
front_at k (p ∷ []) l h = absurd (omega (arith, l))
front_at k (p ∷ (t ∷ [])) l h = absurd (omega (arith, l))
front_at k (p ∷ (t ∷ (i ∷ []))) l h = absurd (omega (arith, l))
front_at k (p ∷ (t ∷ (i ∷ (o ∷ [])))) l h = absurd (omega (arith, l))
front_at k (p ∷ (t ∷ (i ∷ (o ∷ (a ∷ []))))) l h = absurd (omega (arith, l))
front_at k (p ∷ (t ∷ (i ∷ (o ∷ (a ∷ (b ∷ [])))))) l h = absurd (omega (arith, l))
front_at k (p ∷ (t ∷ (i ∷ (o ∷ (a ∷ (b ∷ (c ∷ []))))))) l h = absurd (omega (arith, l))
front_at k (p ∷ (t ∷ (i ∷ (o ∷ (a ∷ (b ∷ (c ∷ (d ∷ [])))))))) l h = absurd (omega (arith, l))
front_at k (p ∷ (t ∷ (i ∷ (o ∷ (a ∷ (b ∷ (c ∷ (d ∷ (n ∷ []))))))))) l h = front k p t i o a b c d n h
front_at k (p ∷ (t ∷ (i ∷ (o ∷ (a ∷ (b ∷ (c ∷ (d ∷ (n ∷ (m ∷ more)))))))))) l h = absurd (omega (arith, l))

pub nine : (ns : List ℤ) → length ns ≡ 9 → at ns 0 ∷ at ns 1 ∷ at ns 2 ∷ at ns 3 ∷ at ns 4 ∷ at ns 5 ∷ at ns 6 ∷ at ns 7 ∷ at ns 8 ∷ [] ≡ ns
nine [] l = absurd (omega (arith, l))
nine (p ∷ []) l = absurd (omega (arith, l))
nine (p ∷ (t ∷ [])) l = absurd (omega (arith, l))
nine (p ∷ (t ∷ (i ∷ []))) l = absurd (omega (arith, l))
nine (p ∷ (t ∷ (i ∷ (o ∷ [])))) l = absurd (omega (arith, l))
nine (p ∷ (t ∷ (i ∷ (o ∷ (a ∷ []))))) l = absurd (omega (arith, l))
nine (p ∷ (t ∷ (i ∷ (o ∷ (a ∷ (b ∷ [])))))) l = absurd (omega (arith, l))
nine (p ∷ (t ∷ (i ∷ (o ∷ (a ∷ (b ∷ (c ∷ []))))))) l = absurd (omega (arith, l))
nine (p ∷ (t ∷ (i ∷ (o ∷ (a ∷ (b ∷ (c ∷ (d ∷ [])))))))) l = absurd (omega (arith, l))
nine (p ∷ (t ∷ (i ∷ (o ∷ (a ∷ (b ∷ (c ∷ (d ∷ (n ∷ []))))))))) l = refl
nine (p ∷ (t ∷ (i ∷ (o ∷ (a ∷ (b ∷ (c ∷ (d ∷ (n ∷ (m ∷ more)))))))))) l = absurd (omega (arith, l))

-- numbers that are handed on or cast

passes : (v : ℤ) → IsOf Integer v → to_z w64 (of_z w64 v) ≡ v
passes v h = omega (arith, ints, h.0, h.1)

pub word_fits : (v : ℤ) → IsOf Word v → T (non_neg (to_z w64 (of_z w64 v))) × Fits w32 (nat_abs (to_z w64 (of_z w64 v)))
word_fits (pos n) h = let e : to_z w64 n ≡ pos n = omega (arith, ints, h.1) in rw e (tt, search (rules, ints, h.1))
word_fits (negsuc n) h = absurd (omega (arith, ints, h.0))

same_abs : (v : ℤ) → IsOf Word v → pos (nat_abs (to_z w64 (of_z w64 v))) ≡ v
same_abs (pos n) h = let e : to_z w64 n ≡ pos n = omega (arith, ints, h.1) in rw e refl
same_abs (negsuc n) h = absurd (omega (arith, ints, h.0))

word_of_byte : (v : ℤ) → IsOf Byte v → IsOf Word v
word_of_byte v h = (h.0, omega (arith, ints, h.1))

at_integer : (ns : List ℤ) (i : ℕ) → AreIntegers ns → i < length ns → IsOf Integer (at ns i)
at_integer [] i h l = absurd (omega (arith, l))
at_integer (n ∷ ns) zero h l = h.0
at_integer (n ∷ ns) (suc i) h l = at_integer ns i h.1 (omega (arith, l))

pub made_again : (k : EntryKind) (ns : List ℤ) → length ns ≡ 9 → AreOf (types_of k) ns →
    pos (nat_abs (to_z w64 (of_z w64 (at ns 0)))) ∷ pos (nat_abs (to_z w64 (of_z w64 (at ns 1)))) ∷ pos (nat_abs (to_z w64 (of_z w64 (at ns 2)))) ∷ pos (nat_abs (to_z w64 (of_z w64 (at ns 3))))
    ∷ to_z w64 (of_z w64 (at ns 4)) ∷ to_z w64 (of_z w64 (at ns 5)) ∷ to_z w64 (of_z w64 (at ns 6)) ∷ to_z w64 (of_z w64 (at ns 7)) ∷ pos (nat_abs (to_z w64 (of_z w64 (at ns 8)))) ∷ [] ≡ ns
made_again k ns l h =
    let f = front_at k ns l h in
    let i = integers (types_of k) ns h in
    let e0 = same_abs (at ns 0) (word_of_byte (at ns 0) f.proc) in
    let e1 = same_abs (at ns 1) f.task in
    let e2 = same_abs (at ns 2) f.ticks in
    let e3 = same_abs (at ns 3) f.object in
    let e4 = passes (at ns 4) (at_integer ns 4 i (omega (arith, l))) in
    let e5 = passes (at ns 5) (at_integer ns 5 i (omega (arith, l))) in
    let e6 = passes (at ns 6) (at_integer ns 6 i (omega (arith, l))) in
    let e7 = passes (at ns 7) (at_integer ns 7 i (omega (arith, l))) in
    let e8 = same_abs (at ns 8) f.line in
    let all = nine ns l in
    cc

-- an entry is its kind and its fields

abbrev rebuilt : EntryKind → List ℤ → Entry
rebuilt k (p ∷ (t ∷ (i ∷ (o ∷ (a ∷ (b ∷ (c ∷ (d ∷ (n ∷ more))))))))) = record { kind = k; proc = number p; task = number t; ticks = number i; object = number o; a = a; b = b; c = c; d = d; line = number n }
rebuilt k _ = record { kind = k; proc = 0; task = 0; ticks = 0; object = 0; a = pos 0; b = pos 0; c = pos 0; d = pos 0; line = 0 }

-- all numbers of an entry are those of a form and what it leaves out

all_of : (form : Form) (e : Entry) → IsTold form e → numbers_of e ≡ numbers_in form e ++ left_out form
all_of Old e t = ap (λ n. numbers_in Old e ++ pos n ∷ []) t
all_of New e t = sym (append-nil (numbers_of e))

same_entry : (form : Form) (e f : Entry) → IsTold form e → IsTold form f → e.kind ≡ f.kind → numbers_in form e ≡ numbers_in form f → e ≡ f
same_entry form e f t u k n =
    let same : numbers_of e ≡ numbers_of f = all_of form e t ∙ ap (λ ns. ns ++ left_out form) n ∙ sym (all_of form f u) in
    ap (λ x. rebuilt x (numbers_of e)) k ∙ ap (rebuilt f.kind) same

count_of : (form : Form) (e : Entry) → length (numbers_in form e) ≡ count_in form
count_of Old e = refl
count_of New e = refl

-- so what a form shows of an entry is told by all its numbers
told_by : (form : Form) (e : Entry) (shown : List ℤ) → length shown ≡ count_in form → numbers_of e ≡ shown ++ left_out form → (numbers_in form e ≡ shown) × IsTold form e
told_by Old e shown l n = (
  ap (take 8) n ∙ take_at shown (pos 0 ∷ []) 8 l,
  let last : pos e.line ∷ [] ≡ pos 0 ∷ [] = ap (drop 8) n ∙ drop_at shown (pos 0 ∷ []) 8 l in cc,
)
told_by New e shown l n = (n ∙ append-nil shown, tt)

front_integers : (ns : List ℤ) (n : ℤ) → AreIntegers (ns ++ n ∷ []) → AreIntegers ns
front_integers [] n h = tt
front_integers (m ∷ ns) n h = (h.0, front_integers ns n h.1)

pub integers_in : (form : Form) (e : Entry) → IsFit e → AreIntegers (numbers_in form e)
integers_in Old e f = front_integers (numbers_in Old e) (pos e.line) (integers (types_of e.kind) (numbers_of e) f.fields)
integers_in New e f = integers (types_of e.kind) (numbers_of e) f.fields

-- the parts of a line

regrouped : (w p t i o a b c d n : List ℕ) → w ++ p ++ t ++ i ++ o ++ a ++ b ++ c ++ d ++ n ≡ w ++ ((p ++ (t ++ (i ++ (o ++ (a ++ (b ++ (c ++ (d ++ [])))))))) ++ n)
regrouped w p t i o a b c d n = simp (append_assoc, append-nil)

regrouped_new : (w p t i o a b c d m n : List ℕ) → w ++ p ++ t ++ i ++ o ++ a ++ b ++ c ++ d ++ (m ++ n) ≡ w ++ ((p ++ (t ++ (i ++ (o ++ (a ++ (b ++ (c ++ (d ++ (m ++ []))))))))) ++ n)
regrouped_new w p t i o a b c d m n = simp (append_assoc, append-nil)

behind_all : (w s rest : List ℕ) → (w ++ (s ++ 10 ∷ [])) ++ rest ≡ w ++ (s ++ 10 ∷ rest)
behind_all w s rest = simp append_assoc

pub line_is : (form : Form) (e : Entry) → line_in form e ≡ word_of e.kind ++ (all_spaced (numbers_in form e) ++ 10 ∷ [])
line_is Old e =
    regrouped (word_of e.kind) (spaced (pos e.proc)) (spaced (pos e.task)) (spaced (pos e.ticks)) (spaced (pos e.object)) (spaced e.a) (spaced e.b) (spaced e.c) (spaced e.d) (10 ∷ [])
line_is New e =
    regrouped_new (word_of e.kind) (spaced (pos e.proc)) (spaced (pos e.task)) (spaced (pos e.ticks)) (spaced (pos e.object)) (spaced e.a) (spaced e.b) (spaced e.c) (spaced e.d) (spaced (pos e.line)) (10 ∷ [])

pub record HasLine (form : Form) (bytes : List ℕ) (e : Entry) (rest : List ℕ) : Type 0 where
  pub count : prefix_len no_space bytes ≡ length (word_of e.kind)
  pub word : take (prefix_len no_space bytes) bytes ≡ word_of e.kind
  pub fields : AreFields (drop (prefix_len no_space bytes) bytes) (numbers_in form e) (10 ∷ rest)

parts : (form : Form) (e : Entry) (rest : List ℕ) → line_in form e ++ rest ≡ word_of e.kind ++ (all_spaced (numbers_in form e) ++ 10 ∷ rest)
parts form e rest = ap (λ t. t ++ rest) (line_is form e) ∙ behind_all (word_of e.kind) (all_spaced (numbers_in form e)) rest

word_of_line : (form : Form) (e : Entry) (rest : List ℕ) → prefix_len no_space (word_of e.kind ++ (all_spaced (numbers_in form e) ++ rest)) ≡ length (word_of e.kind)
word_of_line Old e rest = word_first e.kind _
word_of_line New e rest = word_first e.kind _

pub has_line : (form : Form) (bytes : List ℕ) (e : Entry) (rest : List ℕ) → IsLine form bytes e rest → HasLine form bytes e rest
has_line form bytes e rest l =
    let is : bytes ≡ word_of e.kind ++ (all_spaced (numbers_in form e) ++ 10 ∷ rest) = l.is ∙ parts form e rest in
    let count : prefix_len no_space bytes ≡ length (word_of e.kind) = ap (prefix_len no_space) is ∙ word_of_line form e (10 ∷ rest) in
    record {
      count = count;
      word = rw count (ap (take (length (word_of e.kind))) is ∙ take_at (word_of e.kind) _ _ refl);
      fields = record {
        is = rw count (ap (drop (length (word_of e.kind))) is ∙ drop_at (word_of e.kind) _ _ refl);
        types = integers_in form e l.fit;
        ends = refl;
      };
    }

-- the numbers that were read of a line are those of its entry
pub record ReadOf (e : Entry) (values : List ℤ) (behind rest : List ℕ) : Type 0 where
  pub numbers : numbers_of e ≡ values
  pub newline : rest ≡ 10 ∷ behind

pub read_of : (form : Form) (bytes : List ℕ) (e : Entry) (behind rest : List ℕ) (values : List ℤ) → IsLine form bytes e behind → AreNumbers form (drop (prefix_len no_space bytes) bytes) values rest → ReadOf e values behind rest
read_of form bytes e behind rest values l a =
    let h = has_line form bytes e behind l in
    let same = same_fields _ (numbers_in form e) a.shown (10 ∷ behind) rest (count_of form e ∙ sym a.count) h.fields a.fields in
    record { numbers = all_of form e l.told ∙ ap (λ ns. ns ++ left_out form) same.0 ∙ sym a.all; newline = sym same.1 }

pub no_numbers : (form : Form) (bytes : List ℕ) (e : Entry) (behind : List ℕ) → ((ns : List ℤ) (rest : List ℕ) → length ns ≡ count_in form → AreFields (drop (prefix_len no_space bytes) bytes) ns rest → ⊥) → IsLine form bytes e behind → ⊥
no_numbers form bytes e behind none l = none (numbers_in form e) _ (count_of form e) (has_line form bytes e behind l).fields

pub line_from : (form : Form) (bytes : List ℕ) (e : Entry) (rest behind : List ℕ) (k : EntryKind) (values : List ℤ) (n : ℕ) → take n bytes ≡ word_of k → AreNumbers form (drop n bytes) values rest → e.kind ≡ k → numbers_of e ≡ values → IsFit e → rest ≡ 10 ∷ behind → IsLine form bytes e behind
line_from form bytes e rest behind k values n word a is_kind is_fields fit newline =
    let told = told_by form e a.shown a.count (is_fields ∙ a.all) in
    record {
      is =
          sym (take-append-drop n bytes) ∙ ap (λ w. w ++ drop n bytes) (word ∙ ap word_of (sym is_kind))
          ∙ ap (λ t. word_of e.kind ++ t) (a.fields.is ∙ ap (λ ms. all_spaced ms ++ rest) (sym told.0) ∙ ap (λ t. all_spaced (numbers_in form e) ++ t) newline)
          ∙ sym (parts form e behind);
      fit = fit;
      told = told.1;
    }

-- a text begins with one line
pub same_line : (form : Form) (bytes : List ℕ) (e f : Entry) (s t : List ℕ) → IsLine form bytes e s → IsLine form bytes f t → (e ≡ f) × (s ≡ t)
same_line form bytes e f s t a b =
    let x = has_line form bytes e s a in
    let y = has_line form bytes f t b in
    let k : e.kind ≡ f.kind = same_kind e.kind f.kind (sym x.word ∙ y.word) in
    let both = same_fields _ (numbers_in form e) (numbers_in form f) (10 ∷ s) (10 ∷ t) (count_of form e ∙ sym (count_of form f)) x.fields y.fields in
    (same_entry form e f a.told b.told k both.0, let tails = both.1 in cc)

-- one number more is written

all_append : (ns ms : List ℤ) → all_spaced (ns ++ ms) ≡ all_spaced ns ++ all_spaced ms
all_append [] ms = refl
all_append (n ∷ ns) ms = ap (λ t. spaced n ++ t) (all_append ns ms) ∙ sym (append_assoc (spaced n) (all_spaced ns) (all_spaced ms))

more_spaced : (ns : List ℤ) (i : ℕ) → i < length ns → all_spaced (take (i + 1) ns) ≡ all_spaced (take i ns) ++ spaced (at ns i)
more_spaced ns i h = ap all_spaced (take_more ns i (pos 0) h) ∙ all_append (take i ns) (at ns i ∷ []) ∙ ap (λ t. all_spaced (take i ns) ++ t) (append-nil (spaced (at ns i)))

spaced_out : (front s ds : List ℕ) → ((front ++ s) ++ 32 ∷ []) ++ ds ≡ front ++ (s ++ 32 ∷ ds)
spaced_out front s ds = simp append_assoc

pub put_more : (whole mid start front ds : List ℕ) (ns : List ℤ) (i : ℕ) → i < length ns → start ≡ front ++ all_spaced (take i ns) → mid ≡ start ++ 32 ∷ [] → whole ≡ mid ++ ds → ds ≡ signed_decimal (at ns i) → whole ≡ front ++ all_spaced (take (i + 1) ns)
put_more whole mid start front ds ns i h a b c d =
    c ∙ ap (λ t. t ++ ds) (b ∙ ap (λ t. t ++ 32 ∷ []) a) ∙ spaced_out front (all_spaced (take i ns)) ds
    ∙ ap (λ t. front ++ (all_spaced (take i ns) ++ 32 ∷ t)) d ∙ ap (λ t. front ++ t) (sym (more_spaced ns i h))

pub line_written : (e : Entry) (whole front first : List ℕ) (ns : List ℤ) → first ≡ word_of e.kind → front ≡ first ++ all_spaced ns → whole ≡ front ++ 10 ∷ [] → ns ≡ numbers_of e → whole ≡ line_in New e
line_written e whole front first ns a b c n =
    c ∙ ap (λ t. t ++ 10 ∷ []) (b ∙ ap (λ t. t ++ all_spaced ns) a ∙ ap (λ ms. word_of e.kind ++ all_spaced ms) n)
    ∙ append_assoc (word_of e.kind) (all_spaced (numbers_of e)) (10 ∷ []) ∙ sym (line_is New e)

-- a number below ten is one digit
pub one_digit : (z : ℤ) → pos 0 ≤ℤ z → z <ℤ pos 10 → (48 + nat_abs (to_z w64 (of_z w64 z))) ∷ [] ≡ signed_decimal z
one_digit (pos n) low high = let e : to_z w64 n ≡ pos n = omega (arith, ints, high) in rw e (sym (decimal_digit n (omega (arith, ints, high))))
one_digit (negsuc n) low high = absurd (omega (arith, ints, low))

pub at_least : (z : ℤ) → SFits w64 z → le_z (pos 0) (to_z w64 (of_z w64 z)) ≡ true → pos 0 ≤ℤ z
at_least z f h = grind (arith, ints)

pub below : (z : ℤ) → SFits w64 z → lt_z (to_z w64 (of_z w64 z)) (pos 10) ≡ true → z <ℤ pos 10
below z f h = grind (arith, ints)
