-- The output text, from what stands before the lines of a log, and what stands behind them.
use Rattle.std.proofs.Common.{◌≡◌, ℕ, List, ◌++◌, length, ap, ap₂, ◌∙◌, append_assoc}
use Rattle.std.specs.Prelude.{codes}
use Rattle.mach_types.specs.declared.events.Entry.{Entry}
use Rattle.mach_types.specs.declared.limits.End.{End}
use Rattle.place_text.specs.Ends.{end_line, number_line}
use Rattle.step_log.specs.Grammar.{log_text}
use Rattle.run_texts.specs.PairText.{pair_text}
use Rattle.run_texts.specs.Text.{console_text, output_text}

joined : (head lines tail console number end : List ℕ) → head ≡ console ++ number → tail ≡ end
    → head ++ lines ++ tail ≡ console ++ (number ++ lines) ++ end
joined head lines tail console number end before behind =
    ap₂ (λ h t. h ++ lines ++ t) before behind ∙ ap (λ t. t ++ end) (append_assoc console number lines)

-- of a run; its length is that of the log that was read
pub run_text : (head tail console : List ℕ) (log seen : List Entry) (end : End) → seen ≡ log
    → head ≡ console_text console ++ number_line (codes "log") (length seen) → tail ≡ end_line end
    → head ++ log_text log ++ tail ≡ output_text console log end
unfolding output_text
run_text head tail console log seen end same before behind =
    joined head (log_text log) tail (console_text console) (number_line (codes "log") (length log)) (end_line end)
    (before ∙ ap (λ (es : List Entry). console_text console ++ number_line (codes "log") (length es)) same) behind

-- of a pair
pub text_of_pair : (head tail first second end : List ℕ) (log : List Entry)
    → head ≡ console_text first ++ console_text second ++ number_line (codes "log") (length log) → tail ≡ end
    → head ++ log_text log ++ tail ≡ pair_text first second log end
unfolding pair_text
text_of_pair head tail first second end log before behind =
    joined head (log_text log) tail (console_text first ++ console_text second) (number_line (codes "log") (length log)) end
    before behind
