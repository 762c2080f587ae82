use Rattle.std.proofs.Common.{◌≡◌, ◌==◌, [], ◌∷◌, ◌++◌, not, false, true, refl, ap, sym, ◌∙◌, append-nil, rules, to_z, of_z, w64}
use Rattle.std.specs.List.{filter, list_any}
use Rattle.std.proofs.lemmas.Fn.{filter_same}
use Rattle.uc_acts.specs.Journal.{number}
use Rattle.uc_acts.specs.Queues.{open_processors}
use Rattle.uc_judge.proofs.Housing.{closed_in, all_made, open_made, closed_made, all_ended, open_ended, closed_ended, all_other, open_other, closed_other}
use Rattle.uc_judge.proofs.processors.Processors.add.Goals as goal

pub returns-in_ok-push-in-Processor-2 : goal.returns-in_ok-push-in-Processor-2
returns-in_ok-push-in-Processor-2 c opts j h =
    let e = c.args.e.now in
    let s = c.args.self.now in
    let a : to_z w64 (of_z w64 e.a) ≡ e.a = search rules in
    let b : to_z w64 (of_z w64 e.b) ≡ e.b = search rules in
    let p : c.number.result ≡ number e.a = c.number.ensures ∙ ap number a in
    let k : c.number-in-Processor.result ≡ number e.b = c.number-in-Processor.ensures ∙ ap number b in
    let shut : closed_in j (number e.a) ≡ false = sym (h.closed (number e.a)) ∙ sym (ap (list_any (λ x. x == number e.a)) c.deref.ensures.value) ∙ sym (c.is_among.ensures ∙ ap (λ n. list_any (λ x. x == n) c.deref.result.now) p) ∙ c.if-not-is_among.true in
    record {
      all = all_made opts j e c.push.new.self.items s.all.items c.number.result c.number-in-Processor.result c.in-Processor.is p k c.in_ok-push-in-Processor.ensures.items h.all;
      opened = c.in_ok-push-in-Processor-2.ensures.items ∙ ap (λ l. l ++ (c.number.result, c.number-in-Processor.result) ∷ []) h.opened ∙ ap (λ n. open_processors opts j ++ (n, c.number-in-Processor.result) ∷ []) p ∙ ap (λ n. open_processors opts j ++ (number e.a, n) ∷ []) k ∙ sym (open_made opts j e false c.in-Processor.is shut);
      closed = λ x. h.closed x ∙ closed_made j e x (closed_in j x) c.in-Processor.is refl;
    }

pub returns-else-not-is_among : goal.returns-else-not-is_among
returns-else-not-is_among c opts j h =
    let e = c.args.e.now in
    let s = c.args.self.now in
    let a : to_z w64 (of_z w64 e.a) ≡ e.a = search rules in
    let b : to_z w64 (of_z w64 e.b) ≡ e.b = search rules in
    let p : c.number.result ≡ number e.a = c.number.ensures ∙ ap number a in
    let k : c.number-in-Processor.result ≡ number e.b = c.number-in-Processor.ensures ∙ ap number b in
    let shut : closed_in j (number e.a) ≡ true = sym (h.closed (number e.a)) ∙ sym (ap (list_any (λ x. x == number e.a)) c.deref.ensures.value) ∙ sym (c.is_among.ensures ∙ ap (λ n. list_any (λ x. x == n) c.deref.result.now) p) ∙ c.if-not-is_among.false in
    record {
      all = all_made opts j e c.push.new.self.items s.all.items c.number.result c.number-in-Processor.result c.in-Processor.is p k c.in_ok-push-in-Processor.ensures.items h.all;
      opened = h.opened ∙ sym (append-nil (open_processors opts j)) ∙ sym (open_made opts j e true c.in-Processor.is shut);
      closed = λ x. h.closed x ∙ closed_made j e x (closed_in j x) c.in-Processor.is refl;
    }

pub returns-in_ok-push-in-ProcessorEnd : goal.returns-in_ok-push-in-ProcessorEnd
returns-in_ok-push-in-ProcessorEnd c opts j h =
    let e = c.args.e.now in
    let s = c.args.self.now in
    let a : to_z w64 (of_z w64 e.a) ≡ e.a = search rules in
    let p = c.number-in-ProcessorEnd.result in
    let at : p ≡ number e.a = c.number-in-ProcessorEnd.ensures ∙ ap number a in
    let kept : c.retain.new.self.items ≡ filter (λ r. not (r.0 == p)) s.opened.items = filter_same _ (λ r. not (r.0 == p)) _ (λ x b f' k. search rules) _ _ c.retain.ensures.filtered in
    record {
      all = all_ended opts j e s.all.items c.in-ProcessorEnd.is h.all;
      opened = kept ∙ ap (filter (λ r. not (r.0 == p))) h.opened ∙ sym (open_ended opts j e p c.in-ProcessorEnd.is c.requires.fields at);
      closed = λ x. closed_ended j e p x c.push-in-ProcessorEnd.new.self.items s.closed.items c.in-ProcessorEnd.is c.requires.fields at c.in_ok-push-in-ProcessorEnd.ensures.items (h.closed x);
    }

pub returns-in_default : goal.returns-in_default
returns-in_default c opts j h =
    let e = c.args.e.now in
    record {
      all = h.all ∙ all_other opts j e c.in_default.not-Processor;
      opened = h.opened ∙ open_other opts j e c.in_default.not-Processor c.in_default.not-ProcessorEnd;
      closed = λ x. h.closed x ∙ closed_other j e x c.in_default.not-ProcessorEnd;
    }
