-- A text is refused for one reason.
use Rattle.std.proofs.Common.{◌≡◌, ℕ, List, [], length, refl, sym, ◌∙◌, ap, subst, arith}
use Rattle.std.specs.Prelude.{Contains}
use Rattle.uc_tree.specs.declared.limits.TheConstants.{NESTING}
use Rattle.uc_tree.specs.declared.pos.Pos.{Pos}
use Rattle.uc_tree.specs.declared.scan.LexicalFault.{LexicalFault}
use Rattle.uc_tree.specs.declared.token.Token.{Token}
use Rattle.uc_tree.specs.Programs.{Program}
use Rattle.uc_tree.specs.Tokens.{tokens, Read, Refused, pos_at}
use Rattle.uc_grammar.specs.declared.fault.ParseFault.{ParseFault}
use Rattle.uc_grammar.specs.declared.fault.ParseFault.TheVariants as fault
use Rattle.uc_grammar.specs.Text.{IsProgram, ProgramFails}
use Rattle.uc_parse_class.specs.Found.{NoProgram}
use Rattle.uc_rules.specs.declared.rule.Rule.{Rule}
use Rattle.uc_rules.specs.declared.rule.Break.{Break}
use Rattle.uc_rules.specs.Breaks.{breaks_of}
use Rattle.uc_top.specs.declared.refusals.Refusal.{Refusal}
use Rattle.uc_top.specs.declared.refusals.Refusal.TheVariants.{Lexical, Syntax, TooDeep, Broken}
use Rattle.uc_top.specs.Accepted.{BreaksFirst, HasDeepFault, HasFault, HasLargeCode, HasLargeFrame, HasSyntaxFault, IsTextOf, Spells, place_of}
use Rattle.uc_top.specs.Decisions.{TextRefused}
use Rattle.uc_top.specs.Outcomes.{OfText, lexical, syntax, deep, broken, large_frame, large_code}
use Rattle.uc_top.proofs.FaultLemmas.{one_fault}
use Rattle.uc_top.proofs.FirstLemmas.{one_first}
use Rattle.uc_top.proofs.Frames.{not_fit}

one_lexical : (text : List ℕ) (v w : LexicalFault) (here there : Pos) → HasFault text v here → HasFault text w there → Lexical v here ≡ Lexical w there
one_lexical text v w here there a b =
    let e : Refused v a.at ≡ Refused w b.at = sym a.lexed ∙ b.lexed in
    let why : v ≡ w = cc in
    let at : a.at ≡ b.at = cc in
    let place : here ≡ there = a.place ∙ ap (λ k. pos_at text k) at ∙ sym b.place in
    ap (λ r. Lexical r here) why ∙ ap (λ p. Lexical w p) place

-- two faults of one list of tokens
same_list : (text : List ℕ) (xs ys : List Token) → tokens text ≡ Read xs → tokens text ≡ Read ys → ys ≡ xs
same_list text xs ys a b = let e : Read xs ≡ Read ys = sym a ∙ b in cc

same_fault : (xs ys : List Token) (f g : ParseFault) → ys ≡ xs → ProgramFails NESTING xs 0 f → ProgramFails NESTING ys 0 g → (f ≡ fault.NoMemory → ⊥) → (g ≡ fault.NoMemory → ⊥) → f ≡ g
same_fault xs ys f g e r s x y = one_fault NESTING xs 0 f g r (subst (λ l. ProgramFails NESTING l 0 g) e s) x y

syntax_is : (k l : ℕ) → fault.Syntax k ≡ fault.Syntax l → k ≡ l
syntax_is k l e = cc

deep_is : (k l : ℕ) → fault.TooDeep k ≡ fault.TooDeep l → k ≡ l
deep_is k l e = cc

syntax_real : (k : ℕ) → fault.Syntax k ≡ fault.NoMemory → ⊥
syntax_real k e = absurd (cc)

deep_real : (k : ℕ) → fault.TooDeep k ≡ fault.NoMemory → ⊥
deep_real k e = absurd (cc)

one_place : (text : List ℕ) (xs ys : List Token) (k l : ℕ) (here there : Pos) → ys ≡ xs → k ≡ l → here ≡ place_of text xs k → there ≡ place_of text ys l → here ≡ there
one_place text xs ys k l here there e d h i = h ∙ ap (λ n. place_of text xs n) d ∙ sym (i ∙ ap (λ ts. place_of text ts l) e)

one_syntax : (text : List ℕ) (here there : Pos) → HasSyntaxFault text here → HasSyntaxFault text there → Syntax here ≡ Syntax there
one_syntax text here there a b =
    let e : b.list ≡ a.list = same_list text a.list b.list a.lexed b.lexed in
    let f = same_fault a.list b.list (fault.Syntax a.token) (fault.Syntax b.token) e a.fault.fails b.fault.fails (syntax_real a.token) (syntax_real b.token) in
    ap Syntax (one_place text a.list b.list a.token b.token here there e (syntax_is a.token b.token f) a.place b.place)

one_deep : (text : List ℕ) (here there : Pos) → HasDeepFault text here → HasDeepFault text there → TooDeep here ≡ TooDeep there
one_deep text here there a b =
    let e : b.list ≡ a.list = same_list text a.list b.list a.lexed b.lexed in
    let f = same_fault a.list b.list (fault.TooDeep a.token) (fault.TooDeep b.token) e a.fault.fails b.fault.fails (deep_real a.token) (deep_real b.token) in
    ap TooDeep (one_place text a.list b.list a.token b.token here there e (deep_is a.token b.token f) a.place b.place)

syntax_not_deep : (text : List ℕ) (here there : Pos) → HasSyntaxFault text here → HasDeepFault text there → ⊥
syntax_not_deep text here there a b =
    let e : b.list ≡ a.list = same_list text a.list b.list a.lexed b.lexed in
    let f : fault.Syntax a.token ≡ fault.TooDeep b.token = same_fault a.list b.list (fault.Syntax a.token) (fault.TooDeep b.token) e a.fault.fails b.fault.fails (syntax_real a.token) (deep_real b.token) in
    absurd (cc)

-- tokens that are no program are those of none
unspelled : (text : List ℕ) (list : List Token) (p : Program) → tokens text ≡ Read list → NoProgram NESTING list → Spells text p → ⊥
unspelled text list p lexed none s =
    let e : list ≡ s.list = same_list text s.list list s.lexed lexed in
    none (length s.list) p (subst (λ l. IsProgram NESTING l 0 (length s.list) p) (sym e) s.spelled)

-- one text is that of one program
same_program : {text : List ℕ} {Is Such : Program → Type 0} (a : IsTextOf text Is) → (b : IsTextOf text Such) → Such a.program
same_program {Such = Such} a b = subst Such (a.only b.program b.spells) b.is

none_there : (bs : List Break) (b : Break) → bs ≡ [] → Contains bs b → ⊥
none_there bs b e h =
    let few = h.1 in
    let short : length bs ≡ 0 = ap length e in
    absurd (omega (arith, few, short))

broken_not : {text : List ℕ} {Such : Program → Type 0} (rule : Rule) (here : Pos) → IsTextOf text (BreaksFirst rule here) → IsTextOf text Such → ((p : Program) → Such p → breaks_of p ≡ []) → ⊥
broken_not rule here a b clean =
    none_there (breaks_of a.program) (record { rule = rule; pos = here }) (clean a.program (same_program a b)) a.is.is_break

one_broken : (text : List ℕ) (rule other : Rule) (here there : Pos) → IsTextOf text (BreaksFirst rule here) → IsTextOf text (BreaksFirst other there) → Broken rule here ≡ Broken other there
one_broken text rule other here there a b =
    let e = one_first (breaks_of a.program) (record { rule = rule; pos = here }) (record { rule = other; pos = there }) a.is (same_program a b) in
    ap (λ r. Broken r here) e.0 ∙ ap (λ p. Broken other p) e.1

frame_not_code : {text : List ℕ} → IsTextOf text HasLargeFrame → IsTextOf text HasLargeCode → ⊥
frame_not_code a b = not_fit a.program a.is (same_program a b).frames

pub one_cause : (text : List ℕ) {q r : Refusal} → OfText q → OfText r → TextRefused text q → TextRefused text r → q ≡ r
one_cause text (lexical v here) (lexical w there) a b = one_lexical text v w here there a b
one_cause text (lexical v here) (syntax there) a b = absurd (let e = sym a.lexed ∙ b.lexed in cc)
one_cause text (lexical v here) (deep there) a b = absurd (let e = sym a.lexed ∙ b.lexed in cc)
one_cause text (lexical v here) (broken other there) a b = absurd (let e = sym a.lexed ∙ b.spells.lexed in cc)
one_cause text (lexical v here) large_frame a b = absurd (let e = sym a.lexed ∙ b.spells.lexed in cc)
one_cause text (lexical v here) large_code a b = absurd (let e = sym a.lexed ∙ b.spells.lexed in cc)
one_cause text (syntax here) (lexical w there) a b = absurd (let e = sym b.lexed ∙ a.lexed in cc)
one_cause text (syntax here) (syntax there) a b = one_syntax text here there a b
one_cause text (syntax here) (deep there) a b = absurd (syntax_not_deep text here there a b)
one_cause text (syntax here) (broken other there) a b = absurd (unspelled text a.list b.program a.lexed a.fault.none b.spells)
one_cause text (syntax here) large_frame a b = absurd (unspelled text a.list b.program a.lexed a.fault.none b.spells)
one_cause text (syntax here) large_code a b = absurd (unspelled text a.list b.program a.lexed a.fault.none b.spells)
one_cause text (deep here) (lexical w there) a b = absurd (let e = sym b.lexed ∙ a.lexed in cc)
one_cause text (deep here) (syntax there) a b = absurd (syntax_not_deep text there here b a)
one_cause text (deep here) (deep there) a b = one_deep text here there a b
one_cause text (deep here) (broken other there) a b = absurd (unspelled text a.list b.program a.lexed a.fault.none b.spells)
one_cause text (deep here) large_frame a b = absurd (unspelled text a.list b.program a.lexed a.fault.none b.spells)
one_cause text (deep here) large_code a b = absurd (unspelled text a.list b.program a.lexed a.fault.none b.spells)
one_cause text (broken rule here) (lexical w there) a b = absurd (let e = sym b.lexed ∙ a.spells.lexed in cc)
one_cause text (broken rule here) (syntax there) a b = absurd (unspelled text b.list a.program b.lexed b.fault.none a.spells)
one_cause text (broken rule here) (deep there) a b = absurd (unspelled text b.list a.program b.lexed b.fault.none a.spells)
one_cause text (broken rule here) (broken other there) a b = one_broken text rule other here there a b
one_cause text (broken rule here) large_frame a b = absurd (broken_not rule here a b (λ p h. h.no_break))
one_cause text (broken rule here) large_code a b = absurd (broken_not rule here a b (λ p h. h.no_break))
one_cause text large_frame (lexical w there) a b = absurd (let e = sym b.lexed ∙ a.spells.lexed in cc)
one_cause text large_frame (syntax there) a b = absurd (unspelled text b.list a.program b.lexed b.fault.none a.spells)
one_cause text large_frame (deep there) a b = absurd (unspelled text b.list a.program b.lexed b.fault.none a.spells)
one_cause text large_frame (broken other there) a b = absurd (broken_not other there b a (λ p h. h.no_break))
one_cause text large_frame large_frame a b = refl
one_cause text large_frame large_code a b = absurd (frame_not_code a b)
one_cause text large_code (lexical w there) a b = absurd (let e = sym b.lexed ∙ a.spells.lexed in cc)
one_cause text large_code (syntax there) a b = absurd (unspelled text b.list a.program b.lexed b.fault.none a.spells)
one_cause text large_code (deep there) a b = absurd (unspelled text b.list a.program b.lexed b.fault.none a.spells)
one_cause text large_code (broken other there) a b = absurd (broken_not other there b a (λ p h. h.no_break))
one_cause text large_code large_frame a b = absurd (frame_not_code b a)
one_cause text large_code large_code a b = refl
