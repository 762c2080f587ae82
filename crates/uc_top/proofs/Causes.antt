-- What each status of the top call says, from what it leaves.
use Rattle.std.proofs.Common.{◌≡◌, ◌≢◌, ℕ, List, [], ◌⊎◌, inl, inr, length, refl, sym, ◌∙◌, ap, subst, arith}
use Rattle.std.specs.Prelude.{IsTrue, Option, Contains}
use Rattle.uc_tree.specs.declared.limits.TheConstants.{PROGRAM_BYTES, JOURNAL_BYTES, NESTING}
use Rattle.uc_tree.specs.declared.pos.Pos.{Pos}
use Rattle.uc_tree.specs.declared.scan.LexicalFault.{LexicalFault}
use Rattle.uc_tree.specs.declared.token.Token.{Token}
use Rattle.uc_tree.specs.Tokens.{tokens, Read}
use Rattle.uc_grammar.specs.Text.{IsProgram}
use Rattle.uc_rules.specs.declared.rule.Rule.{Rule}
use Rattle.uc_rules.specs.declared.rule.Break.{Break}
use Rattle.uc_rules.specs.Breaks.{breaks_of}
use Rattle.uc_tree.specs.Programs.{Program}
use Rattle.uc_acts.specs.Journal.{Journal}
use Rattle.uc_top.specs.Accepted.{IsAccepted}
use Rattle.uc_top.proofs.Frames.{no_large}
use Rattle.uc_outside.specs.Reading.{StoreState, KeepsFiles, ReadBytes, ReadFailed, ReadTooLong, HasFile}
use Rattle.uc_outside.specs.Faults.{CountRose}
use Rattle.uc_outside.specs.Taking.{SinkState, Took, Stopped}
use Rattle.uc_outside.proofs.Taken.{fits-no_failure, took-stopped, failed-stopped}
use Rattle.uc_outside.proofs.Read.{has_file-no_failure, has_file-not_long, has_file-content}
use Rattle.uc_journal.specs.Lines as journals
use Rattle.uc_words.specs.Words.{Command, RunFile, CheckFile, LowerFile, MakeProgram, ExplainJournal, IsLine}
use Rattle.uc_top.specs.declared.endings.Ending.{Ending}
use Rattle.uc_top.specs.declared.endings.Ending.TheVariants as ending
use Rattle.uc_top.specs.declared.refusals.Refusal.{Refusal}
use Rattle.uc_top.specs.declared.refusals.Refusal.TheVariants.{Word, CannotRead, TooLong, Lexical, Syntax, TooDeep, Broken, FrameTooLarge, CodeTooLarge, BadLine, NoMemory}
use Rattle.uc_top.specs.Endings.{ending_status, ending_text}
use Rattle.uc_top.specs.Accepted.{HasLargeFrame, HasLargeCode, HasSyntaxFault, HasDeepFault, BreaksFirst, IsTextOf, IsAcceptedText, HasFault}
use Rattle.uc_top.specs.Commands.{GaveTexts, Asks, IsOnFile, ReadsTexts, CommandDid, JournalExplained, file_of, input_of}
use Rattle.uc_top.specs.Refusals.{status_of, ProgramUnread, InputUnread, ProgramTooLong, InputTooLong}
use Rattle.uc_top.specs.Outcomes.{Scene, Ran, Refused, Leaves, ended, refused, out_failed, line_failed, err_failed, Tried, Told, OfEnding, lexical, syntax, deep, broken, large_frame, large_code, TooHigh, Causes, Stops, HasTexts, HasProgram, Answers, HaveRooms, Completes, Finishes, HasJournal, IsJournal}
use Rattle.uc_top.proofs.Line.{same_line}

not_high : (s : Scene) {xs ys : List ℕ} → Took s.out s.out_after xs → Took s.err s.err_after ys → TooHigh s → ⊥
not_high s out err (inl h) = absurd (omega (arith, h, out.same_count))
not_high s out err (inr h) = absurd (omega (arith, h, err.same_count))

not_ending : {A : Type 0} (k : ℕ) → k ≢ 0 → k ≢ 5 → k ≢ 6 → k ≢ 7 → OfEnding k → A
not_ending k a b c d (inl e) = absurd (a e)
not_ending k a b c d (inr (inl e)) = absurd (b e)
not_ending k a b c d (inr (inr (inl e))) = absurd (c e)
not_ending k a b c d (inr (inr (inr e))) = absurd (d e)

ended_causes : (s : Scene) (journal : Journal) (output : List ℕ) (e : Ending) → Ran s journal output e → Took s.out s.out_after output → Took s.err s.err_after (ending_text e) → Causes s (ending_status e) journal
ended_causes s journal output ending.Done ran out err = record {
  ended = λ h. record { output = output; ending = ending.Done; ran = ran; out = out; err = err; is_status = refl };
  refused = λ e. absurd (omega (arith, e));
  bad_word = λ e. absurd (omega (arith, e));
  unread = λ e. absurd (omega (arith, e));
  unwritten = λ e. absurd (omega (arith, e));
  counted = λ h. absurd (not_high s out err h);
  no_memory = λ e. absurd (omega (arith, e));
  bad_line = λ e. absurd (omega (arith, e));
  no_other = inl (inl refl);
}
ended_causes s journal output (ending.Fault number line task) ran out err = record {
  ended = λ h. record { output = output; ending = (ending.Fault number line task); ran = ran; out = out; err = err; is_status = refl };
  refused = λ e. absurd (omega (arith, e));
  bad_word = λ e. absurd (omega (arith, e));
  unread = λ e. absurd (omega (arith, e));
  unwritten = λ e. absurd (omega (arith, e));
  counted = λ h. absurd (not_high s out err h);
  no_memory = λ e. absurd (omega (arith, e));
  bad_line = λ e. absurd (omega (arith, e));
  no_other = inl (inr (inl refl));
}
ended_causes s journal output ending.Deadlock ran out err = record {
  ended = λ h. record { output = output; ending = ending.Deadlock; ran = ran; out = out; err = err; is_status = refl };
  refused = λ e. absurd (omega (arith, e));
  bad_word = λ e. absurd (omega (arith, e));
  unread = λ e. absurd (omega (arith, e));
  unwritten = λ e. absurd (omega (arith, e));
  counted = λ h. absurd (not_high s out err h);
  no_memory = λ e. absurd (omega (arith, e));
  bad_line = λ e. absurd (omega (arith, e));
  no_other = inl (inr (inr (inl refl)));
}
ended_causes s journal output ending.NoProcessor ran out err = record {
  ended = λ h. record { output = output; ending = ending.NoProcessor; ran = ran; out = out; err = err; is_status = refl };
  refused = λ e. absurd (omega (arith, e));
  bad_word = λ e. absurd (omega (arith, e));
  unread = λ e. absurd (omega (arith, e));
  unwritten = λ e. absurd (omega (arith, e));
  counted = λ h. absurd (not_high s out err h);
  no_memory = λ e. absurd (omega (arith, e));
  bad_line = λ e. absurd (omega (arith, e));
  no_other = inl (inr (inr (inl refl)));
}
ended_causes s journal output ending.Limit ran out err = record {
  ended = λ h. record { output = output; ending = ending.Limit; ran = ran; out = out; err = err; is_status = refl };
  refused = λ e. absurd (omega (arith, e));
  bad_word = λ e. absurd (omega (arith, e));
  unread = λ e. absurd (omega (arith, e));
  unwritten = λ e. absurd (omega (arith, e));
  counted = λ h. absurd (not_high s out err h);
  no_memory = λ e. absurd (omega (arith, e));
  bad_line = λ e. absurd (omega (arith, e));
  no_other = inl (inr (inr (inr refl)));
}

failed_causes : (s : Scene) (journal : Journal) → CountRose s.out.count s.out_after.count ⊎ CountRose s.err.count s.err_after.count → Causes s 4 journal
failed_causes s journal rose = record {
  ended = λ h. not_ending 4 (λ e. absurd (omega (arith, e))) (λ e. absurd (omega (arith, e))) (λ e. absurd (omega (arith, e))) (λ e. absurd (omega (arith, e))) h;
  refused = λ e. absurd (omega (arith, e));
  bad_word = λ e. absurd (omega (arith, e));
  unread = λ e. absurd (omega (arith, e));
  unwritten = λ e. rose;
  counted = λ h. refl;
  no_memory = λ e. absurd (omega (arith, e));
  bad_line = λ e. absurd (omega (arith, e));
  no_other = inr (inr (inr (inr (inl refl))));
}

told_causes : (s : Scene) (r : Refusal) → Told s r [] → Causes s (status_of r) []
told_causes s (Word n) t = record {
  ended = λ h. not_ending 2 (λ e. absurd (omega (arith, e))) (λ e. absurd (omega (arith, e))) (λ e. absurd (omega (arith, e))) (λ e. absurd (omega (arith, e))) h;
  refused = λ e. absurd (omega (arith, e));
  bad_word = λ e. (n, t);
  unread = λ e. absurd (omega (arith, e));
  unwritten = λ e. absurd (omega (arith, e));
  counted = λ h. absurd (not_high s t.out t.err h);
  no_memory = λ e. absurd (omega (arith, e));
  bad_line = λ e. absurd (omega (arith, e));
  no_other = inr (inr (inl refl));
}
told_causes s CannotRead t = record {
  ended = λ h. not_ending 3 (λ e. absurd (omega (arith, e))) (λ e. absurd (omega (arith, e))) (λ e. absurd (omega (arith, e))) (λ e. absurd (omega (arith, e))) h;
  refused = λ e. absurd (omega (arith, e));
  bad_word = λ e. absurd (omega (arith, e));
  unread = λ e. inl t;
  unwritten = λ e. absurd (omega (arith, e));
  counted = λ h. absurd (not_high s t.out t.err h);
  no_memory = λ e. absurd (omega (arith, e));
  bad_line = λ e. absurd (omega (arith, e));
  no_other = inr (inr (inr (inl refl)));
}
told_causes s TooLong t = record {
  ended = λ h. not_ending 3 (λ e. absurd (omega (arith, e))) (λ e. absurd (omega (arith, e))) (λ e. absurd (omega (arith, e))) (λ e. absurd (omega (arith, e))) h;
  refused = λ e. absurd (omega (arith, e));
  bad_word = λ e. absurd (omega (arith, e));
  unread = λ e. inr t;
  unwritten = λ e. absurd (omega (arith, e));
  counted = λ h. absurd (not_high s t.out t.err h);
  no_memory = λ e. absurd (omega (arith, e));
  bad_line = λ e. absurd (omega (arith, e));
  no_other = inr (inr (inr (inl refl)));
}
told_causes s (Lexical why here) t = record {
  ended = λ h. not_ending 1 (λ e. absurd (omega (arith, e))) (λ e. absurd (omega (arith, e))) (λ e. absurd (omega (arith, e))) (λ e. absurd (omega (arith, e))) h;
  refused = λ e. record { cause = Lexical why here; told = t; is = lexical why here };
  bad_word = λ e. absurd (omega (arith, e));
  unread = λ e. absurd (omega (arith, e));
  unwritten = λ e. absurd (omega (arith, e));
  counted = λ h. absurd (not_high s t.out t.err h);
  no_memory = λ e. absurd (omega (arith, e));
  bad_line = λ e. absurd (omega (arith, e));
  no_other = inr (inl refl);
}
told_causes s (Syntax here) t = record {
  ended = λ h. not_ending 1 (λ e. absurd (omega (arith, e))) (λ e. absurd (omega (arith, e))) (λ e. absurd (omega (arith, e))) (λ e. absurd (omega (arith, e))) h;
  refused = λ e. record { cause = Syntax here; told = t; is = syntax here };
  bad_word = λ e. absurd (omega (arith, e));
  unread = λ e. absurd (omega (arith, e));
  unwritten = λ e. absurd (omega (arith, e));
  counted = λ h. absurd (not_high s t.out t.err h);
  no_memory = λ e. absurd (omega (arith, e));
  bad_line = λ e. absurd (omega (arith, e));
  no_other = inr (inl refl);
}
told_causes s (TooDeep here) t = record {
  ended = λ h. not_ending 1 (λ e. absurd (omega (arith, e))) (λ e. absurd (omega (arith, e))) (λ e. absurd (omega (arith, e))) (λ e. absurd (omega (arith, e))) h;
  refused = λ e. record { cause = TooDeep here; told = t; is = deep here };
  bad_word = λ e. absurd (omega (arith, e));
  unread = λ e. absurd (omega (arith, e));
  unwritten = λ e. absurd (omega (arith, e));
  counted = λ h. absurd (not_high s t.out t.err h);
  no_memory = λ e. absurd (omega (arith, e));
  bad_line = λ e. absurd (omega (arith, e));
  no_other = inr (inl refl);
}
told_causes s (Broken rule here) t = record {
  ended = λ h. not_ending 1 (λ e. absurd (omega (arith, e))) (λ e. absurd (omega (arith, e))) (λ e. absurd (omega (arith, e))) (λ e. absurd (omega (arith, e))) h;
  refused = λ e. record { cause = Broken rule here; told = t; is = broken rule here };
  bad_word = λ e. absurd (omega (arith, e));
  unread = λ e. absurd (omega (arith, e));
  unwritten = λ e. absurd (omega (arith, e));
  counted = λ h. absurd (not_high s t.out t.err h);
  no_memory = λ e. absurd (omega (arith, e));
  bad_line = λ e. absurd (omega (arith, e));
  no_other = inr (inl refl);
}
told_causes s FrameTooLarge t = record {
  ended = λ h. not_ending 1 (λ e. absurd (omega (arith, e))) (λ e. absurd (omega (arith, e))) (λ e. absurd (omega (arith, e))) (λ e. absurd (omega (arith, e))) h;
  refused = λ e. record { cause = FrameTooLarge; told = t; is = large_frame };
  bad_word = λ e. absurd (omega (arith, e));
  unread = λ e. absurd (omega (arith, e));
  unwritten = λ e. absurd (omega (arith, e));
  counted = λ h. absurd (not_high s t.out t.err h);
  no_memory = λ e. absurd (omega (arith, e));
  bad_line = λ e. absurd (omega (arith, e));
  no_other = inr (inl refl);
}
told_causes s CodeTooLarge t = record {
  ended = λ h. not_ending 1 (λ e. absurd (omega (arith, e))) (λ e. absurd (omega (arith, e))) (λ e. absurd (omega (arith, e))) (λ e. absurd (omega (arith, e))) h;
  refused = λ e. record { cause = CodeTooLarge; told = t; is = large_code };
  bad_word = λ e. absurd (omega (arith, e));
  unread = λ e. absurd (omega (arith, e));
  unwritten = λ e. absurd (omega (arith, e));
  counted = λ h. absurd (not_high s t.out t.err h);
  no_memory = λ e. absurd (omega (arith, e));
  bad_line = λ e. absurd (omega (arith, e));
  no_other = inr (inl refl);
}
told_causes s NoMemory t = record {
  ended = λ h. not_ending 8 (λ e. absurd (omega (arith, e))) (λ e. absurd (omega (arith, e))) (λ e. absurd (omega (arith, e))) (λ e. absurd (omega (arith, e))) h;
  refused = λ e. absurd (omega (arith, e));
  bad_word = λ e. absurd (omega (arith, e));
  unread = λ e. absurd (omega (arith, e));
  unwritten = λ e. absurd (omega (arith, e));
  counted = λ h. absurd (not_high s t.out t.err h);
  no_memory = λ e. t;
  bad_line = λ e. absurd (omega (arith, e));
  no_other = inr (inr (inr (inr (inr (inl refl)))));
}
told_causes s (BadLine n) t = record {
  ended = λ h. not_ending 10 (λ e. absurd (omega (arith, e))) (λ e. absurd (omega (arith, e))) (λ e. absurd (omega (arith, e))) (λ e. absurd (omega (arith, e))) h;
  refused = λ e. absurd (omega (arith, e));
  bad_word = λ e. absurd (omega (arith, e));
  unread = λ e. absurd (omega (arith, e));
  unwritten = λ e. absurd (omega (arith, e));
  counted = λ h. absurd (not_high s t.out t.err h);
  no_memory = λ e. absurd (omega (arith, e));
  bad_line = λ e. (n, t);
  no_other = inr (inr (inr (inr (inr (inr refl)))));
}

pub causes : (s : Scene) {status : ℕ} {journal : Journal} → Leaves s status journal → Causes s status journal
causes s (ended journal output e ran out err) = ended_causes s journal output e ran out err
causes s (refused r name cause out err) = told_causes s r (record { name = name; cause = cause; empty = refl; out = out; err = err })
causes s (out_failed journal output e ran out err) = failed_causes s journal (inl out.at.rose)
causes s (line_failed journal output e ran out err) = failed_causes s journal (inr err.at.rose)
causes s (err_failed r name cause out err) = failed_causes s [] (inr err.at.rose)

tried_stopped : {a b : SinkState} {text : List ℕ} → Tried a b text → Stopped a b
tried_stopped (inl t) = took-stopped t
tried_stopped (inr f) = failed-stopped f.at

pub stops : (s : Scene) {status : ℕ} {journal : Journal} → Leaves s status journal → Stops s
stops s (ended journal output e ran out err) = record { out = took-stopped out; err = took-stopped err }
stops s (refused r name cause out err) = record { out = took-stopped out; err = took-stopped err }
stops s (out_failed journal output e ran out err) = record { out = failed-stopped out.at; err = tried_stopped err }
stops s (line_failed journal output e ran out err) = record { out = took-stopped out; err = failed-stopped err.at }
stops s (err_failed r name cause out err) = record { out = took-stopped out; err = failed-stopped err.at }

-- the status of an ending, and of a refusal

of_ending : (e : Ending) → OfEnding (ending_status e)
of_ending ending.Done = inl refl
of_ending (ending.Fault number line task) = inr (inl refl)
of_ending ending.Deadlock = inr (inr (inl refl))
of_ending ending.NoProcessor = inr (inr (inl refl))
of_ending ending.Limit = inr (inr (inr refl))

ending_apart : (e : Ending) (k : ℕ) → k ≢ 0 → k ≢ 5 → k ≢ 6 → k ≢ 7 → ending_status e ≢ k
ending_apart ending.Done k a b c d e = a (sym e)
ending_apart (ending.Fault number line task) k a b c d e = b (sym e)
ending_apart ending.Deadlock k a b c d e = c (sym e)
ending_apart ending.NoProcessor k a b c d e = c (sym e)
ending_apart ending.Limit k a b c d e = d (sym e)

ending_not_4 : (e : Ending) → ending_status e ≢ 4
ending_not_4 e = ending_apart e 4 (λ h. absurd (omega (arith, h))) (λ h. absurd (omega (arith, h))) (λ h. absurd (omega (arith, h))) (λ h. absurd (omega (arith, h)))

ending_not_2 : (e : Ending) → ending_status e ≢ 2
ending_not_2 e = ending_apart e 2 (λ h. absurd (omega (arith, h))) (λ h. absurd (omega (arith, h))) (λ h. absurd (omega (arith, h))) (λ h. absurd (omega (arith, h)))

ending_not_3 : (e : Ending) → ending_status e ≢ 3
ending_not_3 e = ending_apart e 3 (λ h. absurd (omega (arith, h))) (λ h. absurd (omega (arith, h))) (λ h. absurd (omega (arith, h))) (λ h. absurd (omega (arith, h)))

refusal_not_4 : (r : Refusal) → status_of r ≢ 4
refusal_not_4 (Word n) e = absurd (omega (arith, e))
refusal_not_4 CannotRead e = absurd (omega (arith, e))
refusal_not_4 TooLong e = absurd (omega (arith, e))
refusal_not_4 (Lexical why here) e = absurd (omega (arith, e))
refusal_not_4 (Syntax here) e = absurd (omega (arith, e))
refusal_not_4 (TooDeep here) e = absurd (omega (arith, e))
refusal_not_4 (Broken rule here) e = absurd (omega (arith, e))
refusal_not_4 FrameTooLarge e = absurd (omega (arith, e))
refusal_not_4 CodeTooLarge e = absurd (omega (arith, e))
refusal_not_4 (BadLine n) e = absurd (omega (arith, e))
refusal_not_4 NoMemory e = absurd (omega (arith, e))

pub rooms : (s : Scene) {status : ℕ} {journal : Journal} → Leaves s status journal → HaveRooms s → status ≢ 4
rooms s (ended journal output e ran out err) h eq = ending_not_4 e eq
rooms s (refused r name cause out err) h eq = refusal_not_4 r eq
rooms s (out_failed journal output e ran out err) h eq = fits-no_failure (h.out journal output e ran) out.at
rooms s (line_failed journal output e ran out err) h eq = fits-no_failure (h.line journal output e ran) err.at
rooms s (err_failed r name cause out err) h eq = fits-no_failure (h.err r name cause) err.at

-- words

no_words : (s : Scene) (r : Refusal) (name : List ℕ) → Refused s r name → ((command : Command) → IsLine s.words command → ⊥) → (status_of r ≡ 2) ⊎ (status_of r ≡ 4)
no_words s (Word n) name cause h = inl refl
no_words s CannotRead name (inl cause) h = absurd (h cause.command cause.asks.line)
no_words s CannotRead name (inr cause) h = absurd (h (ExplainJournal cause.file cause.object) cause.asks.line)
no_words s TooLong name (inl cause) h = absurd (h cause.command cause.asks.line)
no_words s TooLong name (inr cause) h = absurd (h (ExplainJournal cause.file cause.object) cause.asks.line)
no_words s (BadLine n) name cause h = absurd (h (ExplainJournal cause.file cause.object) cause.asks.line)
no_words s (Lexical why here) name cause h = absurd (h cause.command cause.gave.asks.line)
no_words s (Syntax here) name cause h = absurd (h cause.command cause.gave.asks.line)
no_words s (TooDeep here) name cause h = absurd (h cause.command cause.gave.asks.line)
no_words s (Broken rule here) name cause h = absurd (h cause.command cause.gave.asks.line)
no_words s FrameTooLarge name cause h = absurd (h cause.command cause.gave.asks.line)
no_words s CodeTooLarge name cause h = absurd (h cause.command cause.gave.asks.line)
no_words s NoMemory name cause h = absurd (h cause.command cause.asks.line)

no_line_of : (s : Scene) {status : ℕ} {journal : Journal} → Leaves s status journal → ((command : Command) → IsLine s.words command → ⊥) → (status ≡ 2) ⊎ (status ≡ 4)
no_line_of s (ended journal output e ran out err) h = absurd (h ran.command ran.asks.line)
no_line_of s (refused r name cause out err) h = no_words s r name cause h
no_line_of s (out_failed journal output e ran out err) h = inr refl
no_line_of s (line_failed journal output e ran out err) h = inr refl
no_line_of s (err_failed r name cause out err) h = inr refl

words_not_2 : (s : Scene) (r : Refusal) (name : List ℕ) → Refused s r name → (command : Command) → IsLine s.words command → status_of r ≢ 2
words_not_2 s (Word n) name cause command l e = cause.first.no_line command l
words_not_2 s CannotRead name cause command l e = absurd (omega (arith, e))
words_not_2 s TooLong name cause command l e = absurd (omega (arith, e))
words_not_2 s (Lexical why here) name cause command l e = absurd (omega (arith, e))
words_not_2 s (Syntax here) name cause command l e = absurd (omega (arith, e))
words_not_2 s (TooDeep here) name cause command l e = absurd (omega (arith, e))
words_not_2 s (Broken rule here) name cause command l e = absurd (omega (arith, e))
words_not_2 s FrameTooLarge name cause command l e = absurd (omega (arith, e))
words_not_2 s CodeTooLarge name cause command l e = absurd (omega (arith, e))
words_not_2 s (BadLine n) name cause command l e = absurd (omega (arith, e))
words_not_2 s NoMemory name cause command l e = absurd (omega (arith, e))

line_of : (s : Scene) {status : ℕ} {journal : Journal} → Leaves s status journal → (command : Command) → IsLine s.words command → status ≢ 2
line_of s (ended journal output e ran out err) command l eq = ending_not_2 e eq
line_of s (refused r name cause out err) command l eq = words_not_2 s r name cause command l eq
line_of s (out_failed journal output e ran out err) command l eq = absurd (omega (arith, eq))
line_of s (line_failed journal output e ran out err) command l eq = absurd (omega (arith, eq))
line_of s (err_failed r name cause out err) command l eq = absurd (omega (arith, eq))

-- a store that has the named texts

-- an input that a store has stays in it
kept : {a b : StoreState} {name : List ℕ} {limit : ℕ} → KeepsFiles a b → HasFile a name limit → HasFile b name limit
kept k h = record { files = h.files; is_told = k.same_told ∙ h.is_told; bytes = h.bytes; is_file = h.is_file; fits = h.fits }

kept_steady : {a b : StoreState} → KeepsFiles a b → IsTrue a.steady → IsTrue b.steady
kept_steady k st = subst IsTrue (sym k.same_steady) st

-- words that ask to explain a journal name no program
pub no_texts : (s : Scene) (h : HasTexts s) {file : List ℕ} {object : ℕ} → Asks s.words (ExplainJournal file object) → ⊥
no_texts s h asks = subst IsOnFile (sym (same_line h.command asks h.line)) h.on_file

not_read_by : (s : Scene) (h : HasTexts s) → IsTrue s.store.steady → (name file : List ℕ) (named : Option (List ℕ)) → file ≡ file_of h.command → named ≡ input_of h.command → ProgramUnread s.store s.store_after file name ⊎ InputUnread s.store s.store_after file named name → ⊥
not_read_by s h st name file named e f (inl u) = has_file-no_failure st h.program (subst (ReadFailed s.store s.store_after) (u.is_named ∙ e) u.failed)
not_read_by s h st name file named e f (inr u) = has_file-no_failure (kept_steady u.keeps st) (kept u.keeps (h.input name (sym f ∙ u.is_named))) u.failed

pub not_read : (s : Scene) (h : HasTexts s) → IsTrue s.store.steady → (name : List ℕ) → Refused s CannotRead name → ⊥
not_read s h st name (inr cause) = no_texts s h cause.asks
not_read s h st name (inl cause) =
    let l = same_line h.command cause.asks h.line in not_read_by s h st name (file_of cause.command) (input_of cause.command) (ap file_of l) (ap input_of l) cause.unread

not_long_by : (s : Scene) (h : HasTexts s) (name file : List ℕ) (named : Option (List ℕ)) → file ≡ file_of h.command → named ≡ input_of h.command → ProgramTooLong s.store s.store_after file name ⊎ InputTooLong s.store s.store_after file named name → ⊥
not_long_by s h name file named e f (inl u) = has_file-not_long h.program (subst (λ n. ReadTooLong s.store s.store_after n PROGRAM_BYTES) (u.is_named ∙ e) u.long)
not_long_by s h name file named e f (inr u) = has_file-not_long (kept u.keeps (h.input name (sym f ∙ u.is_named))) u.long

pub not_long : (s : Scene) (h : HasTexts s) (name : List ℕ) → Refused s TooLong name → ⊥
not_long s h name (inr cause) = no_texts s h cause.asks
not_long s h name (inl cause) = let l = same_line h.command cause.asks h.line in not_long_by s h name (file_of cause.command) (input_of cause.command) (ap file_of l) (ap input_of l) cause.long

steady_why : (s : Scene) → HasTexts s → IsTrue s.store.steady → (r : Refusal) (name : List ℕ) → Refused s r name → status_of r ≢ 3
steady_why s h st CannotRead name cause e = not_read s h st name cause
steady_why s h st TooLong name cause e = not_long s h name cause
steady_why s h st (Word n) name cause e = absurd (omega (arith, e))
steady_why s h st (Lexical why here) name cause e = absurd (omega (arith, e))
steady_why s h st (Syntax here) name cause e = absurd (omega (arith, e))
steady_why s h st (TooDeep here) name cause e = absurd (omega (arith, e))
steady_why s h st (Broken rule here) name cause e = absurd (omega (arith, e))
steady_why s h st FrameTooLarge name cause e = absurd (omega (arith, e))
steady_why s h st CodeTooLarge name cause e = absurd (omega (arith, e))
steady_why s h st (BadLine n) name cause e = absurd (omega (arith, e))
steady_why s h st NoMemory name cause e = absurd (omega (arith, e))

pub steady_of : (s : Scene) {status : ℕ} {journal : Journal} → Leaves s status journal → HasTexts s → IsTrue s.store.steady → status ≢ 3
steady_of s (ended journal output e ran out err) h st eq = ending_not_3 e eq
steady_of s (refused r name cause out err) h st eq = steady_why s h st r name cause eq
steady_of s (out_failed journal output e ran out err) h st eq = absurd (omega (arith, eq))
steady_of s (line_failed journal output e ran out err) h st eq = absurd (omega (arith, eq))
steady_of s (err_failed r name cause out err) h st eq = absurd (omega (arith, eq))

-- the text that a store gave is that of the file that it has
pub given_by : (s : Scene) (h : HasTexts s) {c : Command} {text input : List ℕ} → Asks s.words c → ReadsTexts s.store s.store_after (file_of c) (input_of c) text input → text ≡ h.program.bytes
given_by s h {text = text} asks reads =
    has_file-content h.program (subst (λ f. ReadBytes s.store reads.between f PROGRAM_BYTES text) (ap file_of (same_line h.command asks h.line)) reads.read)

pub given : (s : Scene) (h : HasTexts s) {c : Command} {text input : List ℕ} → GaveTexts s.words s.store s.store_after c text input → text ≡ h.program.bytes
given s h g = given_by s h g.asks g.reads

-- a text without tokens is no program
pub unlexed : {text : List ℕ} {why : LexicalFault} {here : Pos} {p : Program} → HasFault text why here → IsAcceptedText text p → ⊥
unlexed f is = absurd (let e = sym f.lexed ∙ is.spells.lexed in cc)

-- nor is one whose tokens are no program
spelled : {text : List ℕ} {list : List Token} {p : Program} → tokens text ≡ Read list → IsAcceptedText text p → (to : ℕ) × IsProgram NESTING list 0 to p
spelled {text} {list} {p} lexed is = let e : is.spells.list ≡ list = let f = sym is.spells.lexed ∙ lexed in cc in (length is.spells.list, subst (λ l. IsProgram NESTING l 0 (length is.spells.list) p) e is.spells.spelled)

pub no_syntax : {text : List ℕ} {here : Pos} {p : Program} → HasSyntaxFault text here → IsAcceptedText text p → ⊥
no_syntax {p = p} f is = let q = spelled f.lexed is in f.fault.none q.0 p q.1

pub not_deep : {text : List ℕ} {here : Pos} {p : Program} → HasDeepFault text here → IsAcceptedText text p → ⊥
not_deep {p = p} f is = let q = spelled f.lexed is in f.fault.none q.0 p q.1

-- nor one of a program that breaks a rule
none_there : (bs : List Break) (b : Break) → bs ≡ [] → Contains bs b → ⊥
none_there bs b e h =
    let few = h.1 in
    let short : length bs ≡ 0 = ap length e in
    absurd (omega (arith, few, short))

pub unbroken : {text : List ℕ} {rule : Rule} {here : Pos} {p : Program} → IsTextOf text (BreaksFirst rule here) → IsAcceptedText text p → ⊥
unbroken {text} {rule} {here} {p} t is =
    let a : IsAccepted t.program = subst IsAccepted (t.only p is.spells) is.accepted in
    none_there (breaks_of t.program) (record { rule = rule; pos = here }) a.no_break t.is.is_break

pub frame_no : {text : List ℕ} {p : Program} → IsTextOf text HasLargeFrame → IsAcceptedText text p → ⊥
frame_no {text} {p} t is =
    let a : IsAccepted t.program = subst IsAccepted (t.only p is.spells) is.accepted in
    no_large t.program t.is a

pub code_no : {text : List ℕ} {p : Program} → IsTextOf text HasLargeCode → IsAcceptedText text p → ⊥
code_no {text} {p} t is =
    let a : IsAccepted t.program = subst IsAccepted (t.only p is.spells) is.accepted in absurd (omega (arith, t.is.large, a.size))

-- what is left of the answers where the texts are had
abbrev Left : ℕ → Type 0
Left status = (status ≡ 3) ⊎ (status ≡ 4) ⊎ (status ≡ 8)

no_program_why : (s : Scene) (h : HasTexts s) (r : Refusal) (name : List ℕ) → Refused s r name → (status_of r ≡ 1) ⊎ Left (status_of r)
no_program_why s h (Word n) name cause = absurd (cause.first.no_line h.command h.line)
no_program_why s h CannotRead name cause = inr (inl refl)
no_program_why s h TooLong name cause = inr (inl refl)
no_program_why s h (Lexical why here) name cause = inl refl
no_program_why s h (Syntax here) name cause = inl refl
no_program_why s h (TooDeep here) name cause = inl refl
no_program_why s h (Broken rule here) name cause = inl refl
no_program_why s h FrameTooLarge name cause = inl refl
no_program_why s h CodeTooLarge name cause = inl refl
no_program_why s h (BadLine n) name cause = absurd (no_texts s h cause.asks)
no_program_why s h NoMemory name cause = inr (inr (inr refl))

-- a command on a file was done with the text of an accepted program
record Used (before after : StoreState) (c : Command) : Type 0 where
  text : List ℕ
  input : List ℕ
  reads : ReadsTexts before after (file_of c) (input_of c) text input
  program : Program
  is_text : IsAcceptedText text program

used : (a b : StoreState) (journal : Journal) (output : List ℕ) (e : Ending) (c : Command) → IsOnFile c → CommandDid c a b journal output e → Used a b c
used a b journal output e (RunFile file opts too named) on d = record { text = d.text; input = d.input; reads = d.reads; program = d.ran.program; is_text = record { spells = d.ran.spells; accepted = d.ran.is.accepted } }
used a b journal output e (CheckFile file) on d = record { text = d.text; input = d.input; reads = d.reads; program = d.checked.program; is_text = record { spells = d.checked.spells; accepted = d.checked.is } }
used a b journal output e (LowerFile file) on d = record { text = d.text; input = d.input; reads = d.reads; program = d.lowered.program; is_text = record { spells = d.lowered.spells; accepted = d.lowered.is.accepted } }
used a b journal output e (MakeProgram n) on d = absurd on
used a b journal output e (ExplainJournal file object) on d = absurd on

pub ran_program : (s : Scene) (h : HasTexts s) {journal : Journal} {output : List ℕ} {e : Ending} → Ran s journal output e → (p : Program) × HasProgram s h p
ran_program s h {journal} {output} {e} ran =
    let u = used s.store s.store_after journal output e ran.command (subst IsOnFile (sym (same_line h.command ran.asks h.line)) h.on_file) ran.did in
    (u.program, subst (λ t. IsAcceptedText t u.program) (given_by s h ran.asks u.reads) u.is_text)

-- the status of a command that was done
finishes : (a b : StoreState) (journal : Journal) (output : List ℕ) (e : Ending) (c : Command) → CommandDid c a b journal output e → Finishes c (ending_status e)
finishes a b journal output e (RunFile file opts too named) d = of_ending e
finishes a b journal output e (CheckFile file) d = ap ending_status d.runs.done
finishes a b journal output e (LowerFile file) d = ap ending_status d.runs.done
finishes a b journal output e (MakeProgram n) d = ap ending_status d.runs.done
finishes a b journal output e (ExplainJournal file object) d = ap ending_status d.done.runs.done

ran_finishes : (s : Scene) (c : Command) → IsLine s.words c → {journal : Journal} {output : List ℕ} {e : Ending} → Ran s journal output e → Finishes c (ending_status e)
ran_finishes s c line {journal} {output} {e} ran = subst (λ x. Finishes x (ending_status e)) (same_line c ran.asks line) (finishes s.store s.store_after journal output e ran.command ran.did)

no_program_of : (s : Scene) {status : ℕ} {journal : Journal} → Leaves s status journal → (h : HasTexts s) → ((p : Program) → HasProgram s h p → ⊥) → (status ≡ 1) ⊎ (status ≡ 3) ⊎ (status ≡ 4) ⊎ (status ≡ 8)
no_program_of s (ended journal output e ran out err) h n = absurd (let p = ran_program s h ran in n p.0 p.1)
no_program_of s (refused r name cause out err) h n = no_program_why s h r name cause
no_program_of s (out_failed journal output e ran out err) h n = inr (inr (inl refl))
no_program_of s (line_failed journal output e ran out err) h n = inr (inr (inl refl))
no_program_of s (err_failed r name cause out err) h n = inr (inr (inl refl))

program_why : (s : Scene) (h : HasTexts s) (p : Program) → HasProgram s h p → (r : Refusal) (name : List ℕ) → Refused s r name → Finishes h.command (status_of r) ⊎ (status_of r ≡ 3) ⊎ (status_of r ≡ 4) ⊎ (status_of r ≡ 8)
program_why s h p is (Word n) name cause = absurd (cause.first.no_line h.command h.line)
program_why s h p is CannotRead name cause = inr (inl refl)
program_why s h p is TooLong name cause = inr (inl refl)
program_why s h p is (Lexical why here) name cause = absurd (unlexed cause.is (subst (λ t. IsAcceptedText t p) (sym (given s h cause.gave)) is))
program_why s h p is (Syntax here) name cause = absurd (no_syntax cause.is (subst (λ t. IsAcceptedText t p) (sym (given s h cause.gave)) is))
program_why s h p is (TooDeep here) name cause = absurd (not_deep cause.is (subst (λ t. IsAcceptedText t p) (sym (given s h cause.gave)) is))
program_why s h p is (Broken rule here) name cause = absurd (unbroken cause.is (subst (λ t. IsAcceptedText t p) (sym (given s h cause.gave)) is))
program_why s h p is FrameTooLarge name cause = absurd (frame_no cause.is (subst (λ t. IsAcceptedText t p) (sym (given s h cause.gave)) is))
program_why s h p is CodeTooLarge name cause = absurd (code_no cause.is (subst (λ t. IsAcceptedText t p) (sym (given s h cause.gave)) is))
program_why s h p is (BadLine n) name cause = absurd (no_texts s h cause.asks)
program_why s h p is NoMemory name cause = inr (inr (inr refl))

program_of : (s : Scene) {status : ℕ} {journal : Journal} → Leaves s status journal → (h : HasTexts s) (p : Program) → HasProgram s h p → Finishes h.command status ⊎ (status ≡ 3) ⊎ (status ≡ 4) ⊎ (status ≡ 8)
program_of s (ended journal output e ran out err) h p is = inl (ran_finishes s h.command h.line ran)
program_of s (refused r name cause out err) h p is = program_why s h p is r name cause
program_of s (out_failed journal output e ran out err) h p is = inr (inr (inl refl))
program_of s (line_failed journal output e ran out err) h p is = inr (inr (inl refl))
program_of s (err_failed r name cause out err) h p is = inr (inr (inl refl))

-- a generated program

pub not_on_file : (s : Scene) (n : ℕ) {c : Command} → Asks s.words c → IsOnFile c → IsLine s.words (MakeProgram n) → ⊥
not_on_file s n asks on line = subst IsOnFile (same_line (MakeProgram n) asks line) on

pub not_made_by : (s : Scene) (n : ℕ) {file : List ℕ} {object : ℕ} → Asks s.words (ExplainJournal file object) → IsLine s.words (MakeProgram n) → ⊥
not_made_by s n asks line = absurd (let e = same_line (MakeProgram n) asks line in cc)

made_why : (s : Scene) (n : ℕ) → IsLine s.words (MakeProgram n) → (r : Refusal) (name : List ℕ) → Refused s r name → (status_of r ≡ 0) ⊎ (status_of r ≡ 4) ⊎ (status_of r ≡ 8)
made_why s n line (Word k) name cause = absurd (cause.first.no_line (MakeProgram n) line)
made_why s n line CannotRead name (inl cause) = absurd (not_on_file s n cause.asks cause.on_file line)
made_why s n line CannotRead name (inr cause) = absurd (not_made_by s n cause.asks line)
made_why s n line TooLong name (inl cause) = absurd (not_on_file s n cause.asks cause.on_file line)
made_why s n line TooLong name (inr cause) = absurd (not_made_by s n cause.asks line)
made_why s n line (BadLine k) name cause = absurd (not_made_by s n cause.asks line)
made_why s n line (Lexical why here) name cause = absurd (not_on_file s n cause.gave.asks cause.gave.on_file line)
made_why s n line (Syntax here) name cause = absurd (not_on_file s n cause.gave.asks cause.gave.on_file line)
made_why s n line (TooDeep here) name cause = absurd (not_on_file s n cause.gave.asks cause.gave.on_file line)
made_why s n line (Broken rule here) name cause = absurd (not_on_file s n cause.gave.asks cause.gave.on_file line)
made_why s n line FrameTooLarge name cause = absurd (not_on_file s n cause.gave.asks cause.gave.on_file line)
made_why s n line CodeTooLarge name cause = absurd (not_on_file s n cause.gave.asks cause.gave.on_file line)
made_why s n line NoMemory name cause = inr (inr refl)

made_of : (s : Scene) {status : ℕ} {journal : Journal} → Leaves s status journal → (n : ℕ) → IsLine s.words (MakeProgram n) → (status ≡ 0) ⊎ (status ≡ 4) ⊎ (status ≡ 8)
made_of s (ended journal output e ran out err) n line = inl (ran_finishes s (MakeProgram n) line ran)
made_of s (refused r name cause out err) n line = made_why s n line r name cause
made_of s (out_failed journal output e ran out err) n line = inr (inl refl)
made_of s (line_failed journal output e ran out err) n line = inr (inl refl)
made_of s (err_failed r name cause out err) n line = inr (inl refl)

-- a journal that is explained

pub not_for_journal : (s : Scene) (h : HasJournal s) {c : Command} → Asks s.words c → IsOnFile c → ⊥
not_for_journal s h asks on = subst IsOnFile (same_line (ExplainJournal h.file h.object) asks h.line) on

pub same_journal : (s : Scene) (h : HasJournal s) {file : List ℕ} {object : ℕ} → Asks s.words (ExplainJournal file object) → file ≡ h.file
same_journal s h asks = ap file_of (same_line (ExplainJournal h.file h.object) asks h.line)

pub same_bytes : (s : Scene) (h : HasJournal s) {file text : List ℕ} → file ≡ h.file → ReadBytes s.store s.store_after file JOURNAL_BYTES text → text ≡ h.text.bytes
same_bytes s h {text = text} e read = has_file-content h.text (subst (λ f. ReadBytes s.store s.store_after f JOURNAL_BYTES text) e read)

-- what a refusal to explain may be: of a text that is no journal's alone it names a line
abbrev Unexplained : (s : Scene) → HasJournal s → ℕ → Type 0
Unexplained s h status = ((status ≡ 10) × ((j : Journal) → IsJournal s h j → ⊥)) ⊎ (status ≡ 3) ⊎ (status ≡ 4) ⊎ (status ≡ 8)

unexplained_why : (s : Scene) (h : HasJournal s) (r : Refusal) (name : List ℕ) → Refused s r name → Unexplained s h (status_of r)
unexplained_why s h (Word n) name cause = absurd (cause.first.no_line (ExplainJournal h.file h.object) h.line)
unexplained_why s h CannotRead name cause = inr (inl refl)
unexplained_why s h TooLong name cause = inr (inl refl)
unexplained_why s h (Lexical why here) name cause = absurd (not_for_journal s h cause.gave.asks cause.gave.on_file)
unexplained_why s h (Syntax here) name cause = absurd (not_for_journal s h cause.gave.asks cause.gave.on_file)
unexplained_why s h (TooDeep here) name cause = absurd (not_for_journal s h cause.gave.asks cause.gave.on_file)
unexplained_why s h (Broken rule here) name cause = absurd (not_for_journal s h cause.gave.asks cause.gave.on_file)
unexplained_why s h FrameTooLarge name cause = absurd (not_for_journal s h cause.gave.asks cause.gave.on_file)
unexplained_why s h CodeTooLarge name cause = absurd (not_for_journal s h cause.gave.asks cause.gave.on_file)
unexplained_why s h (BadLine n) name cause =
    let same = same_bytes s h (same_journal s h cause.asks) cause.is.read in
    inl (refl, λ j t. cause.is.is.none j (subst (λ b. journals.IsTextOf b j) (sym same) t))
unexplained_why s h NoMemory name cause = inr (inr (inr refl))

-- the journal was explained, so its text is one
record Explained (s : Scene) (h : HasJournal s) (status : ℕ) : Type 0 where
  is_status : status ≡ 0
  journal : Journal
  is : IsJournal s h journal

explained_by : (s : Scene) (h : HasJournal s) {journal : Journal} {output : List ℕ} {e : Ending} → Ran s journal output e → Explained s h (ending_status e)
explained_by s h {journal} {output} {e} ran =
    let d : JournalExplained s.store s.store_after h.file h.object journal output e = subst (λ c. CommandDid c s.store s.store_after journal output e) (same_line (ExplainJournal h.file h.object) ran.asks h.line) ran.did in
    record {
      is_status = ap ending_status d.done.runs.done;
      journal = d.done.entries;
      is = subst (λ b. journals.IsTextOf b d.done.entries) (same_bytes s h refl d.read) d.done.reads;
    }

explained_of : (s : Scene) {status : ℕ} {journal : Journal} → Leaves s status journal → (h : HasJournal s) → Explained s h status ⊎ Unexplained s h status
explained_of s (ended journal output e ran out err) h = inl (explained_by s h ran)
explained_of s (refused r name cause out err) h = inr (unexplained_why s h r name cause)
explained_of s (out_failed journal output e ran out err) h = inr (inr (inr (inl refl)))
explained_of s (line_failed journal output e ran out err) h = inr (inr (inr (inl refl)))
explained_of s (err_failed r name cause out err) h = inr (inr (inr (inl refl)))

journal_told : (s : Scene) (h : HasJournal s) {status : ℕ} (j : Journal) → IsJournal s h j → Explained s h status ⊎ Unexplained s h status → (status ≡ 0) ⊎ (status ≡ 3) ⊎ (status ≡ 4) ⊎ (status ≡ 8)
journal_told s h j is (inl e) = inl e.is_status
journal_told s h j is (inr (inl e)) = absurd (e.1 j is)
journal_told s h j is (inr (inr e)) = inr e

line_named : (s : Scene) (h : HasJournal s) {status : ℕ} → ((j : Journal) → IsJournal s h j → ⊥) → Explained s h status ⊎ Unexplained s h status → (status ≡ 10) ⊎ (status ≡ 3) ⊎ (status ≡ 4) ⊎ (status ≡ 8)
line_named s h n (inl e) = absurd (n e.journal e.is)
line_named s h n (inr (inl e)) = inl e.0
line_named s h n (inr (inr e)) = inr e

-- a steady store gives it
given_why : (s : Scene) (h : HasJournal s) → IsTrue s.store.steady → (r : Refusal) (name : List ℕ) → Refused s r name → status_of r ≢ 3
given_why s h st CannotRead name (inl cause) e = not_for_journal s h cause.asks cause.on_file
given_why s h st CannotRead name (inr cause) e = has_file-no_failure st h.text (subst (ReadFailed s.store s.store_after) (same_journal s h cause.asks) cause.is.failed)
given_why s h st TooLong name (inl cause) e = not_for_journal s h cause.asks cause.on_file
given_why s h st TooLong name (inr cause) e = has_file-not_long h.text (subst (λ f. ReadTooLong s.store s.store_after f JOURNAL_BYTES) (same_journal s h cause.asks) cause.is.long)
given_why s h st (Word n) name cause e = absurd (omega (arith, e))
given_why s h st (Lexical why here) name cause e = absurd (omega (arith, e))
given_why s h st (Syntax here) name cause e = absurd (omega (arith, e))
given_why s h st (TooDeep here) name cause e = absurd (omega (arith, e))
given_why s h st (Broken rule here) name cause e = absurd (omega (arith, e))
given_why s h st FrameTooLarge name cause e = absurd (omega (arith, e))
given_why s h st CodeTooLarge name cause e = absurd (omega (arith, e))
given_why s h st (BadLine n) name cause e = absurd (omega (arith, e))
given_why s h st NoMemory name cause e = absurd (omega (arith, e))

given_of : (s : Scene) {status : ℕ} {journal : Journal} → Leaves s status journal → (h : HasJournal s) → IsTrue s.store.steady → status ≢ 3
given_of s (ended journal output e ran out err) h st eq = ending_not_3 e eq
given_of s (refused r name cause out err) h st eq = given_why s h st r name cause eq
given_of s (out_failed journal output e ran out err) h st eq = absurd (omega (arith, eq))
given_of s (line_failed journal output e ran out err) h st eq = absurd (omega (arith, eq))
given_of s (err_failed r name cause out err) h st eq = absurd (omega (arith, eq))

one_left : {status : ℕ} → (status ≡ 0) ⊎ (status ≡ 4) ⊎ (status ≡ 8) → status ≢ 4 → (status ≡ 0) ⊎ (status ≡ 8)
one_left (inl e) n = inl e
one_left (inr (inl e)) n = absurd (n e)
one_left (inr (inr e)) n = inr e

pub answers : (s : Scene) {status : ℕ} {journal : Journal} → Leaves s status journal → Answers s status
answers s leaves = record {
  no_line = no_line_of s leaves;
  line = line_of s leaves;
  steady = λ h st. steady_of s leaves h st;
  no_program = λ h n. no_program_of s leaves h n;
  program = λ h p is. program_of s leaves h p is;
  made = made_of s leaves;
  explained = λ h j is. journal_told s h j is (explained_of s leaves h);
  given = λ h st. given_of s leaves h st;
  no_journal = λ h n. line_named s h n (explained_of s leaves h);
}

pub two_left : {status : ℕ} {A : Type 0} → A ⊎ (status ≡ 3) ⊎ (status ≡ 4) ⊎ (status ≡ 8) → status ≢ 3 → status ≢ 4 → A ⊎ (status ≡ 8)
two_left (inl e) n m = inl e
two_left (inr (inl e)) n m = absurd (n e)
two_left (inr (inr (inl e))) n m = absurd (m e)
two_left (inr (inr (inr e))) n m = inr e

pub completes : (s : Scene) {status : ℕ} {journal : Journal} → Leaves s status journal → Completes s status
completes s leaves = record {
  runs = λ h st r p is. two_left (program_of s leaves h p is) (steady_of s leaves h st) (rooms s leaves r);
  refuses = λ h st r n. two_left (no_program_of s leaves h n) (steady_of s leaves h st) (rooms s leaves r);
  makes = λ n line r. one_left (made_of s leaves n line) (rooms s leaves r);
  explains = λ h st r j is. two_left (journal_told s h j is (explained_of s leaves h)) (given_of s leaves h st) (rooms s leaves r);
  names_line = λ h st r n. two_left (line_named s h n (explained_of s leaves h)) (given_of s leaves h st) (rooms s leaves r);
}
