-- Texts: how many tokens they have, and that programs whose texts are accepted are well typed.
use Rattle.std.proofs.Common.{ℕ, zero, suc, ◌-◌, ◌≤◌, List, [], ◌∷◌, length, refl, subst, arith}
use Rattle.uc_tree.specs.declared.limits.TheConstants.{NESTING}
use Rattle.uc_tree.specs.declared.scan.ScanPlace.{ScanPlace}
use Rattle.uc_tree.specs.declared.scan.Lexeme.{Lexeme}
use Rattle.uc_tree.specs.declared.scan.Lexeme.TheVariants.{Skip, Take, Stop}
use Rattle.uc_tree.specs.declared.token.Token.{Token}
use Rattle.uc_tree.specs.ProgramMain.{main_number}
use Rattle.uc_tree.specs.Programs.{Program}
use Rattle.uc_tree.specs.Tokens.{Lexed, Read, Refused, with_token, lexed_by, found_at, next_place, first_place, tokens_from}
use Rattle.uc_grammar.specs.Text.{IsProgram}
use Rattle.uc_resolve.specs.Resolve.{source_of}
use Rattle.uc_typing.proofs.Answers.{begins}
use Rattle.uc_sound.specs.SoundFormed.{IsFormed}
use Rattle.uc_sound.specs.Sounds.{of_program}
use Rattle.uc_sound.specs.Tables.{table_of}
use Rattle.uc_sound.proofs.SoundLemmas.{law_sound, law_runs}
use Rattle.uc_sound.proofs.MainLemmas.{law_mains}
use Rattle.uc_sound.specs.Formed.{LawFormed, LawTokens}
use Rattle.uc_sound.specs.WellTyped.{IsTextOf, LawWellTyped}
use Rattle.uc_sound.proofs.Programs.{programs_formed}
use Rattle.uc_sound.proofs.TaskStates.{typed}
use Rattle.uc_sound.proofs.Trees.{tree_formed}

-- no more tokens than so many bytes
abbrev FewTokens : ℕ → Lexed → Type 0
FewTokens k (Read ts) = length ts ≤ k
FewTokens k (Refused why at) = Unit {0}

longer : (k : ℕ) (l : Lexed) → FewTokens k l → FewTokens (suc k) l
longer k (Read ts) h = omega (arith, h)
longer k (Refused why at) h = tt

one_more : (k : ℕ) (t : Token) (l : Lexed) → FewTokens k l → FewTokens (suc k) (with_token t l)
one_more k t (Read ts) h = omega (arith, h)
one_more k t (Refused why at) h = tt

by_found : (k : ℕ) (p : ScanPlace) (f : Lexeme) (after : ℕ → Lexed) → ((n : ℕ) → FewTokens k (after n)) → FewTokens (suc k) (lexed_by p f after)
by_found k p (Skip n) after h = longer k (after n) (h n)
by_found k p (Take kind n) after h = one_more k (record { kind = kind; at = p.at; pos = p.pos }) (after n) (h n)
by_found k p (Stop why n) after h = tt

few_tokens : (text : List ℕ) (p : ScanPlace) (n : ℕ) → FewTokens (length text) (tokens_from p n text)
unfolding tokens_from
few_tokens [] p n = omega arith
few_tokens (b ∷ rest) p (suc n) = longer (length rest) (tokens_from (next_place p b) n rest) (few_tokens rest (next_place p b) n)
few_tokens (b ∷ rest) p zero =
    by_found (length rest) p (found_at p.fresh (b ∷ rest)) (λ n. tokens_from (next_place p b) (n - 1) rest) (λ n. few_tokens rest (next_place p b) (n - 1))

pub law_tokens : LawTokens
law_tokens text ts e = subst (FewTokens (length text)) e (few_tokens text first_place 0)

pub law_formed : LawFormed
unfolding IsProgram
law_formed n ts p few r =
    let h = (programs_formed n (length ts)).holds ts 0 (length ts) p (omega arith) r in
    tree_formed (length ts) p h.0 h.1 few

pub text_formed : (text : List ℕ) (p : Program) → IsTextOf text p → IsFormed p
text_formed text p t = law_formed NESTING t.list p (omega (arith, law_tokens text t.list t.lexed, t.short)) t.spelled

pub law_well_typed : LawWellTyped
law_well_typed text p t =
    let formed = text_formed text p t in
    let sound = law_sound p formed t.no_break in
    record {
      sound = sound;
      mains = λ r b. law_mains p formed t.no_break r b;
      begins = λ r o b. begins (table_of p) (source_of p) sound r o (law_mains p formed t.no_break r b);
      states = λ u i r. typed p sound (law_mains p formed t.no_break (main_number p) (of_program refl)) u i r;
      reached = λ r o b reads u goes. law_runs p formed t.no_break r o (law_mains p formed t.no_break r b) reads u goes;
    }
