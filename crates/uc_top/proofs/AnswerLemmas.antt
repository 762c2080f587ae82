-- A text that is refused gets just its refusal.
use Rattle.std.proofs.Common.{◌≡◌, ℕ, List, [], inl, inr, refl, subst}
use Rattle.uc_tree.specs.Programs.{Program}
use Rattle.uc_acts.specs.Journal.{Journal}
use Rattle.uc_outside.specs.Taking.{Took}
use Rattle.uc_top.specs.declared.refusals.Refusal.{Refusal}
use Rattle.uc_top.specs.declared.refusals.Refusal.TheVariants.{Word, CannotRead, TooLong, Lexical, Syntax, TooDeep, Broken, FrameTooLarge, CodeTooLarge, BadLine, NoMemory}
use Rattle.uc_top.specs.Accepted.{IsAcceptedText}
use Rattle.uc_top.specs.Decisions.{TextRefused}
use Rattle.uc_top.specs.Outcomes.{Scene, Refused, Leaves, ended, refused, out_failed, line_failed, err_failed, OfText, lexical, syntax, deep, broken, large_frame, large_code, HasTexts}
use Rattle.uc_top.specs.Refusals.{status_of, refusal_text}
use Rattle.uc_top.specs.TextAnswers.{ToldAs, GetsJust, TextAnswers}
use Rattle.uc_top.proofs.Causes.{given, no_texts, ran_program, rooms, steady_of, two_left, unlexed, no_syntax, not_deep, unbroken, frame_no, code_no}
use Rattle.uc_top.proofs.CauseLemmas.{one_cause}

-- a text that is refused is that of no accepted program
no_accepted : (text : List ℕ) (p : Program) {r : Refusal} → OfText r → TextRefused text r → IsAcceptedText text p → ⊥
no_accepted text p (lexical why here) f is = unlexed f is
no_accepted text p (syntax here) f is = no_syntax f is
no_accepted text p (deep here) f is = not_deep f is
no_accepted text p (broken rule here) f is = unbroken f is
no_accepted text p large_frame f is = frame_no f is
no_accepted text p large_code f is = code_no f is

-- what was told of a text is what is wrong with it
told_just : (s : Scene) (h : HasTexts s) (text name : List ℕ) (q r : Refusal) → text ≡ h.program.bytes → OfText q → OfText r → TextRefused text q → TextRefused h.program.bytes r → status_of q ≡ 1 → Refused s q name → Took s.out s.out_after [] → Took s.err s.err_after (refusal_text q name) → GetsJust s (status_of q) [] r
told_just s h text name q r same of_q of_r is wrong one cause out err =
    let e : q ≡ r = one_cause h.program.bytes of_q of_r (subst (λ t. TextRefused t q) same is) wrong in
    inl (subst (λ x. ToldAs s x (status_of q) []) e (record { is_status = one; told = record { name = name; cause = cause; empty = refl; out = out; err = err } }))

refused_just : (s : Scene) (h : HasTexts s) (r : Refusal) → OfText r → TextRefused h.program.bytes r → (q : Refusal) (name : List ℕ) → Refused s q name → Took s.out s.out_after [] → Took s.err s.err_after (refusal_text q name) → GetsJust s (status_of q) [] r
refused_just s h r of wrong (Word n) name cause out err = absurd (cause.first.no_line h.command h.line)
refused_just s h r of wrong CannotRead name cause out err = inr (inl refl)
refused_just s h r of wrong TooLong name cause out err = inr (inl refl)
refused_just s h r of wrong (Lexical why here) name cause out err = told_just s h cause.text name (Lexical why here) r (given s h cause.gave) (lexical why here) of cause.is wrong refl cause out err
refused_just s h r of wrong (Syntax here) name cause out err = told_just s h cause.text name (Syntax here) r (given s h cause.gave) (syntax here) of cause.is wrong refl cause out err
refused_just s h r of wrong (TooDeep here) name cause out err = told_just s h cause.text name (TooDeep here) r (given s h cause.gave) (deep here) of cause.is wrong refl cause out err
refused_just s h r of wrong (Broken rule here) name cause out err = told_just s h cause.text name (Broken rule here) r (given s h cause.gave) (broken rule here) of cause.is wrong refl cause out err
refused_just s h r of wrong FrameTooLarge name cause out err = told_just s h cause.text name FrameTooLarge r (given s h cause.gave) large_frame of cause.is wrong refl cause out err
refused_just s h r of wrong CodeTooLarge name cause out err = told_just s h cause.text name CodeTooLarge r (given s h cause.gave) large_code of cause.is wrong refl cause out err
refused_just s h r of wrong (BadLine n) name cause out err = absurd (no_texts s h cause.asks)
refused_just s h r of wrong NoMemory name cause out err = inr (inr (inr refl))

just : (s : Scene) {status : ℕ} {journal : Journal} → Leaves s status journal → (h : HasTexts s) (r : Refusal) → OfText r → TextRefused h.program.bytes r → GetsJust s status journal r
just s (ended journal output e ran out err) h r of wrong = absurd (let p = ran_program s h ran in no_accepted h.program.bytes p.0 of wrong p.1)
just s (refused q name cause out err) h r of wrong = refused_just s h r of wrong q name cause out err
just s (out_failed journal output e ran out err) h r of wrong = inr (inr (inl refl))
just s (line_failed journal output e ran out err) h r of wrong = inr (inr (inl refl))
just s (err_failed q name cause out err) h r of wrong = inr (inr (inl refl))

pub text_answers : (s : Scene) {status : ℕ} {journal : Journal} → Leaves s status journal → TextAnswers s status journal
text_answers s leaves = record {
  lexical = λ h why here f. just s leaves h (Lexical why here) (lexical why here) f;
  syntax = λ h here f. just s leaves h (Syntax here) (syntax here) f;
  too_deep = λ h here f. just s leaves h (TooDeep here) (deep here) f;
  broken = λ h rule here f. just s leaves h (Broken rule here) (broken rule here) f;
  large_frame = λ h f. just s leaves h FrameTooLarge large_frame f;
  large_code = λ h f. just s leaves h CodeTooLarge large_code f;
  settled = λ h st room r of f. two_left (just s leaves h r of f) (steady_of s leaves h st) (rooms s leaves room);
}
