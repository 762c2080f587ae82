-- The words of entries: each is that of one kind, and none has a space or a newline.
use Rattle.std.proofs.Common.{◌≡◌, ℕ, ◌==◌, true, false, Bool, List, [], ◌∷◌, ◌++◌, length, cond, refl, sym, ◌∙◌, ap, arith}
use Rattle.std.specs.Prelude.{Option, Some, None, find, nat_eq, not, ◌&&◌, IfSome}
use Rattle.std.specs.Cmp.Lexicographic.{same_text}
use Rattle.std.specs.List.{prefix_len, list_all}
use lib.Pointwise.{pointwise}
use Rattle.uc_entry.specs.declared.entry.EntryKind.{EntryKind}
use Rattle.uc_entry.specs.declared.entry.EntryKind.TheVariants as kind
use Rattle.uc_acts.specs.Texts.{word_of}
use Rattle.uc_journal.specs.declared.word.TheConstants.{KINDS}

abbrev pub has : List ℕ → EntryKind → Bool
has word k = pointwise nat_eq word (word_of k)

pub found : (k : EntryKind) → find (has (word_of k)) KINDS ≡ Some k
found kind.Begin = refl
found kind.Dispatch = refl
found kind.Slice = refl
found kind.Yield = refl
found kind.Make = refl
found kind.Made = refl
found kind.Spawn = refl
found kind.Call = refl
found kind.Leave = refl
found kind.Admit = refl
found kind.Push = refl
found kind.Accept = refl
found kind.Wait = refl
found kind.Signal = refl
found kind.SignalBlock = refl
found kind.Empty = refl
found kind.Front = refl
found kind.Raise = refl
found kind.Poll = refl
found kind.Print = refl
found kind.Read = refl
found kind.Fail = refl
found kind.Cluster = refl
found kind.ClusterEnd = refl
found kind.Processor = refl
found kind.ProcessorEnd = refl
found kind.Migrate = refl
found kind.End = refl
found kind.Gone = refl
found kind.Fault = refl
found kind.Done = refl
found kind.Deadlock = refl
found kind.NoProcessor = refl
found kind.Limit = refl

abbrev is_plain : ℕ → Bool
is_plain b = not (b == 32) && not (b == 10)

plain : (k : EntryKind) → list_all is_plain (word_of k) ≡ true
plain kind.Begin = refl
plain kind.Dispatch = refl
plain kind.Slice = refl
plain kind.Yield = refl
plain kind.Make = refl
plain kind.Made = refl
plain kind.Spawn = refl
plain kind.Call = refl
plain kind.Leave = refl
plain kind.Admit = refl
plain kind.Push = refl
plain kind.Accept = refl
plain kind.Wait = refl
plain kind.Signal = refl
plain kind.SignalBlock = refl
plain kind.Empty = refl
plain kind.Front = refl
plain kind.Raise = refl
plain kind.Poll = refl
plain kind.Print = refl
plain kind.Read = refl
plain kind.Fail = refl
plain kind.Cluster = refl
plain kind.ClusterEnd = refl
plain kind.Processor = refl
plain kind.ProcessorEnd = refl
plain kind.Migrate = refl
plain kind.End = refl
plain kind.Gone = refl
plain kind.Fault = refl
plain kind.Done = refl
plain kind.Deadlock = refl
plain kind.NoProcessor = refl
plain kind.Limit = refl

-- a word is that of one kind
pub same_kind : (k m : EntryKind) → word_of k ≡ word_of m → k ≡ m
same_kind k m e = let f : Some k ≡ Some m = sym (found k) ∙ ap (λ w. find (has w) KINDS) e ∙ found m in cc

pub not_found : (word : List ℕ) → find (has word) KINDS ≡ None → (k : EntryKind) → word ≡ word_of k → ⊥
not_found word none k e = absurd (let f : None ≡ Some k = sym none ∙ ap (λ w. find (has w) KINDS) e ∙ found k in cc)

-- what stands before the first space
abbrev pub no_space : ℕ → Bool
no_space b = not (b == 32)

and_left : (a b : Bool) → (a && b) ≡ true → a ≡ true
and_left true b h = refl
and_left false b h = absurd (cc)

and_right : (a b : Bool) → (a && b) ≡ true → b ≡ true
and_right true b h = h
and_right false b h = absurd (cc)

before_space : (word rest : List ℕ) → list_all is_plain word ≡ true → prefix_len no_space (word ++ 32 ∷ rest) ≡ length word
before_space [] rest h = refl
before_space (b ∷ bs) rest h =
    let here : no_space b ≡ true = and_left (no_space b) (not (b == 10)) (and_left (is_plain b) (list_all is_plain bs) h) in
    let more : prefix_len no_space (bs ++ 32 ∷ rest) ≡ length bs = before_space bs rest (and_right (is_plain b) (list_all is_plain bs) h) in
    rw here (omega arith)

pub word_first : (k : EntryKind) (rest : List ℕ) → prefix_len no_space (word_of k ++ 32 ∷ rest) ≡ length (word_of k)
word_first k rest = before_space (word_of k) rest (plain k)

-- no byte of a word is a newline
abbrev pub no_newline : ℕ → Bool
no_newline b = not (b == 10)

weaker : (word : List ℕ) → list_all is_plain word ≡ true → list_all no_newline word ≡ true
weaker [] h = refl
weaker (b ∷ bs) h =
    let here : no_newline b ≡ true = and_right (no_space b) (no_newline b) (and_left (is_plain b) (list_all is_plain bs) h) in
    rw here (weaker bs (and_right (is_plain b) (list_all is_plain bs) h))

pub no_newline_in : (k : EntryKind) → list_all no_newline (word_of k) ≡ true
no_newline_in k = weaker (word_of k) (plain k)

found_if : (word : List ℕ) (ks : List EntryKind) (x k : EntryKind) (b : Bool) → has word x ≡ b → (find (has word) ks ≡ Some k → word ≡ word_of k) → cond b (Some x) (find (has word) ks) ≡ Some k → word ≡ word_of k
found_if word ks x k true is more e = let same : x ≡ k = cc in same_text word (word_of x) (sym is) ∙ ap word_of same
found_if word ks x k false is more e = more e

found_in : (word : List ℕ) (ks : List EntryKind) (k : EntryKind) → find (has word) ks ≡ Some k → word ≡ word_of k
found_in word [] k e = absurd (cc)
found_in word (x ∷ ks) k e = found_if word ks x k (has word x) refl (found_in word ks k) e

pub found_is : (word : List ℕ) (o : Option EntryKind) → o ≡ find (has word) KINDS → IfSome o (λ k. word ≡ word_of k)
found_is word None e = tt
found_is word (Some k) e = found_in word KINDS k (sym e)
