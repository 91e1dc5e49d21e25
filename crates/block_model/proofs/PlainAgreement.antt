-- The plain machine's state after a run is what is read by looking back. No kind of event occurs here.
use Rattle.block_model.proofs.Common.{◌≡◌, ℕ, List, [], ◌∷◌, ◌++◌, length, refl, sym, ap, ◌∙◌, subst, Choice, Entry, History, IsAllowedLog, IsRunHistory, Plain, Setting, decide, end_of, event, fold, fold-append, here_in_history, here_in_plain, history, plain_after, plain_decide, plain_end, plain_next, plain_solo_choice, plain_start}
use Rattle.block_model.specs.PlainSays.{SaysOf}
use Rattle.block_model.proofs.PlainEvents.{plain_of}
use Rattle.block_model.proofs.PlaceInvariant.{IsGood}
use Rattle.block_model.proofs.Runs.{IsSettled, settled, applied_entry, run_before, length-history}

agree_from : (s : Setting) (log : List Entry) (before : History) → IsRunHistory s (fold (λ b e. event s b e ∷ b) before log) → fold (plain_next s) (plain_of s before) log ≡ plain_of s (fold (λ b e. event s b e ∷ b) before log)
agree_from s [] before run = refl
agree_from s (e ∷ log) before run =
    ap (λ m. fold (plain_next s) m log) (applied_entry s before e (IsSettled.counted (settled s before (run_before s (e ∷ log) before run))))
    ∙ agree_from s log (event s before e ∷ before) run

-- the plain machine after a log is what is read out of its history
pub agreement : (s : Setting) (log : List Entry) → IsAllowedLog s log → plain_after s log ≡ plain_of s (history s log)
unfolding history plain_after
agreement s log run = agree_from s log [] run

-- so what a rule may read is one and the same
pub agreement_here : (s : Setting) (log : List Entry) (h : ℕ) → IsAllowedLog s log → here_in_plain s (plain_after s log) h ≡ here_in_history s (history s log) h
agreement_here s log h run = ap (λ m. here_in_plain s m h) (agreement s log run)

-- and so is the answer
pub agreement_decide : (s : Setting) (log : List Entry) (h : ℕ) (c : Choice) → IsAllowedLog s log → decide s (history s log) h c ≡ plain_decide s (plain_after s log) h c
unfolding decide
agreement_decide s log h c run = ap (λ m. plain_decide s m h c) (sym (agreement s log run))

-- and the end
pub agreement_end : (s : Setting) (log : List Entry) → IsAllowedLog s log → end_of s (history s log) ≡ plain_end s (plain_after s log)
unfolding end_of
agreement_end s log run = ap (plain_end s) (sym (agreement s log run))

-- what the plain machine says of a run
pub says_of : (s : Setting) (log : List Entry) → IsAllowedLog s log → SaysOf s log (plain_after s log)
says_of s log run = record {
  same_console = ap (λ (m : Plain). m.kernel.console) (agreement s log run);
  same_end = sym (agreement_end s log run);
  same_answers = λ h c. sym (agreement_decide s log h c run);
  same_rule = ap (plain_solo_choice s) (agreement s log run);
}

pub plain-append : (s : Setting) (log : List Entry) (entry : Entry) → plain_after s (log ++ entry ∷ []) ≡ plain_next s (plain_after s log) entry
unfolding plain_after
plain-append s log entry = fold-append (plain_next s) (plain_start s) log (entry ∷ [])

pub plain-nil : (s : Setting) → plain_after s [] ≡ plain_start s
unfolding plain_after
plain-nil s = refl

-- as many events were made as the log has entries
pub plain-made : (s : Setting) (log : List Entry) → IsAllowedLog s log → (plain_after s log).made ≡ length log
plain-made s log run = ap (λ (m : Plain). m.made) (agreement s log run) ∙ length-history s log

-- each place of a run is good
pub good_after : (s : Setting) (log : List Entry) → IsAllowedLog s log → IsGood s (plain_after s log)
good_after s log run = subst (IsGood s) (sym (agreement s log run)) (IsSettled.good (settled s (history s log) run))
