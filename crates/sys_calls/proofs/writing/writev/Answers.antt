-- The records, and then the spans that they name.
use Rattle.sys_calls.proofs.Common.{◌≡◌, ℕ, ◌*◌, true, false, not, ltb, [], sym, ap, subst, ◌∙◌, arith, Err, le-ltb, CallDone, EFAULT, IsAnswered, are_readable, argument, is_elsewhere, spans_at, write_joined, cond-false, cond-true, not_from_false, not_from_true, writev}
use Rattle.sys_calls.proofs.GuestMemory.{argument_is, readable_at}
use Rattle.sys_calls.proofs.CallAnswers.{answered_said}
use Rattle.sys_calls.proofs.Spans.{readable_end}
use Rattle.sys_calls.proofs.writing.writev.Goals as goal

pub returns-then-not-readable-clause-answered : goal.returns-then-not-readable-clause-answered
returns-then-not-readable-clause-answered c = λ h t told read.
    let at : c.argument.result ≡ argument h t 1 = c.argument.ensures ∙ argument_is h t c.args.saved.now read.file 1 in
    let n : c.argument-2.result ≡ argument h t 2 = c.argument-2.ensures ∙ argument_is h t c.args.saved.now read.file 2 in
    let here : is_elsewhere h t ≡ false = sym (c.is_elsewhere.ensures h t read.file) ∙ c.if-is_elsewhere.false in
    let few : ltb 1024 (argument h t 2) ≡ false = le-ltb 1024 (argument h t 2) (omega arith) in
    let cannot : are_readable h (argument h t 1) (16 * argument h t 2) ≡ false =
    sym (readable_at h c.args.pages.now t c.args.saved.now read c.argument.result (argument h t 1) (16 * c.argument-2.result) (16 * argument h t 2) at (ap (λ (x : ℕ). 16 * x) n)) ∙ sym c.readable.ensures ∙ c.if-not-readable.true in
    answered_said h t c.args.kernel.now c.args.pages.now (Err EFAULT) (writev h t) told
    (cond-false (is_elsewhere h t) _ _ here ∙ cond-false (ltb 1024 (argument h t 2)) _ _ few ∙ cond-true (not (are_readable h (argument h t 1) (16 * argument h t 2))) _ _ (not_from_false _ cannot))

pub write_records-requires : goal.write_records-requires
write_records-requires c = record { end = readable_end c.args.pages.now c.argument.result (16 * c.argument-2.result) c.argument.type_inv (sym c.readable.ensures ∙ c.if-not-readable.false) }

pub returns-clause-answered : goal.returns-clause-answered
returns-clause-answered c = λ h t told read.
    let at : c.argument.result ≡ argument h t 1 = c.argument.ensures ∙ argument_is h t c.args.saved.now read.file 1 in
    let n : c.argument-2.result ≡ argument h t 2 = c.argument-2.ensures ∙ argument_is h t c.args.saved.now read.file 2 in
    let here : is_elsewhere h t ≡ false = sym (c.is_elsewhere.ensures h t read.file) ∙ c.if-is_elsewhere.false in
    let few : ltb 1024 (argument h t 2) ≡ false = le-ltb 1024 (argument h t 2) (omega arith) in
    let can : are_readable h (argument h t 1) (16 * argument h t 2) ≡ true =
    sym (readable_at h c.args.pages.now t c.args.saved.now read c.argument.result (argument h t 1) (16 * c.argument-2.result) (16 * argument h t 2) at (ap (λ (x : ℕ). 16 * x) n)) ∙ sym c.readable.ensures ∙ c.if-not-readable.false in
    let is : writev h t ≡ write_joined h t (spans_at h c.argument.result c.argument-2.result) =
    cond-false (is_elsewhere h t) _ _ here ∙ cond-false (ltb 1024 (argument h t 2)) _ _ few ∙ cond-false (not (are_readable h (argument h t 1) (16 * argument h t 2))) _ _ (not_from_true _ can)
    ∙ ap (λ (a : ℕ). write_joined h t (spans_at h a (argument h t 2))) (sym at) ∙ ap (λ (x : ℕ). write_joined h t (spans_at h c.argument.result x)) (sym n) in
    subst (λ (d : CallDone). IsAnswered h t c.args.kernel.now c.args.pages.now c.write_records.new.kernel c.args.pages.now [] c.write_records.result d) (sym is) (c.write_records.ensures.answered h t told read.bytes)
