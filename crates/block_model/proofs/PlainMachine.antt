-- The plain machine's run over a script, and by the fixed rule of `solo`, makes the log of the block run.
use Rattle.block_model.proofs.Common.{◌≡◌, ℕ, ◌+◌, List, [], ◌∷◌, ◌++◌, length, refl, sym, ap, ◌∙◌, subst, Bool, true, false, cond, Option, Some, None, Result, Ok, Err, ◌≢◌, ◌-◌, ◌≤◌, zero, suc, arith, append-nil, append_assoc, add-zero, add-suc, Ask, Choice, Entry, History, IsAllowedLog, IsSolo, Plain, Refused, Setting, Tid, checked, choice_of, decide, end_of, event, extended, fold, history, is_as_said, plain_after, plain_decide, plain_next, plain_solo, plain_solo_choice, play_line, played, script_of, solo_choice}
use Rattle.block_model.specs.Plain.{PlainRun, plain_begin, plain_line, plain_run, confirmed, gone_on, log_made, solo_chosen, solo_gone_on}
use Rattle.block_model.specs.PlainSays.{SaysOf, MakesLog}
use Rattle.block_model.proofs.PlainAgreement.{agreement_decide, plain-append, plain-made, plain-nil, says_of}
use Rattle.block_model.proofs.Runs.{IsAllowedLog-append, IsAllowedLog-nil, history-append}
use Rattle.block_model.proofs.Replay.{replays, IsAllowedLog-next, history-more}
use Rattle.mach_types.specs.declared.limits.End.TheVariants as over
use Rattle.block_model.specs.Solo.{IsSoloHistory}
use Rattle.block_model.proofs.RunEnds.{within_limit, is_over}

-- a log that was played and a run of the machine belong together
pub record IsRunOf (s : Setting) (log : List Entry) (run : PlainRun) : Type 0 where
  pub same_log : run.log ≡ log
  pub allowed : IsAllowedLog s log
  pub same_machine : run.machine ≡ plain_after s log

abbrev PlayAlike : Setting → Result (List Entry) ℕ → Result PlainRun ℕ → Type 0
PlayAlike s (Ok log) (Ok run) = IsRunOf s log run
PlayAlike s (Ok log) (Err n) = ⊥
PlayAlike s (Err n) (Ok run) = ⊥
PlayAlike s (Err n) (Err k) = k ≡ n

-- the machine's answer is what is decided after the log
pub same_answer : (s : Setting) (log : List Entry) (run : PlainRun) (h : ℕ) (c : Choice) → IsRunOf s log run → plain_decide s run.machine h c ≡ decide s (history s log) h c
same_answer s log run h c x = ap (λ (m : Plain). plain_decide s m h c) x.same_machine ∙ sym (agreement_decide s log h c x.allowed)

-- one more entry
pub one_more : (s : Setting) (log : List Entry) (run : PlainRun) (e : Entry) → IsRunOf s log run → IsAllowedLog s (log ++ e ∷ [])
    → IsRunOf s (log ++ e ∷ []) (record { log = run.log ++ e ∷ []; machine = plain_next s run.machine e })
one_more s log run e x allowed = record {
  same_log = ap (λ (l : List Entry). l ++ e ∷ []) x.same_log;
  allowed = allowed;
  same_machine = ap (λ (m : Plain). plain_next s m e) x.same_machine ∙ sym (plain-append s log e);
}

-- the number of the next line
same_number : (s : Setting) (log : List Entry) (run : PlainRun) → IsRunOf s log run → run.machine.made + 1 ≡ length log + 1
same_number s log run x = ap (λ (m : Plain). m.made + 1) x.same_machine ∙ ap (λ n. n + 1) (plain-made s log x.allowed)

by_check : (s : Setting) (log : List Entry) (run : PlainRun) (e : Entry) (b : Bool) → IsRunOf s log run → IsAllowedLog s (log ++ e ∷ [])
    → PlayAlike s (extended log (cond b (Some e) None)) (gone_on s run (cond b (Some e) None))
by_check s log run e true x allowed = one_more s log run e x allowed
by_check s log run e false x allowed = same_number s log run x

by_answer : (s : Setting) (log : List Entry) (run : PlainRun) (h : ℕ) (c : Choice) (check : Option (Tid × ℕ)) (d : Result Entry Refused) → IsRunOf s log run → decide s (history s log) h c ≡ d
    → PlayAlike s (extended log (checked check d)) (gone_on s run (confirmed check d))
by_answer s log run h c check (Ok e) x is = by_check s log run e (is_as_said check e) x (IsAllowedLog-append s log h c e x.allowed is)
by_answer s log run h c check (Err why) x is = same_number s log run x

-- one more line
line_alike : (s : Setting) (line : Ask) (a : Result (List Entry) ℕ) (b : Result PlainRun ℕ) → PlayAlike s a b → PlayAlike s (play_line s a line) (plain_line s b line)
line_alike s line (Ok log) (Ok run) x =
    let d = decide s (history s log) line.hart.0 line.choice in
    subst (λ (r : Result Entry Refused). PlayAlike s (extended log (checked line.check d)) (gone_on s run (confirmed line.check r))) (sym (same_answer s log run line.hart.0 line.choice x))
    (by_answer s log run line.hart.0 line.choice line.check d x refl)
line_alike s line (Err n) (Err k) x = x
line_alike s line a b x = absurd x

lines_alike : (s : Setting) (lines : List Ask) (a : Result (List Entry) ℕ) (b : Result PlainRun ℕ) → PlayAlike s a b → PlayAlike s (fold (play_line s) a lines) (fold (plain_line s) b lines)
lines_alike s [] a b x = x
lines_alike s (line ∷ lines) a b x = lines_alike s lines (play_line s a line) (plain_line s b line) (line_alike s line a b x)

-- the machine at its start
pub begin_is : (s : Setting) → IsRunOf s [] (plain_begin s)
begin_is s = record { same_log = refl; allowed = IsAllowedLog-nil s; same_machine = sym (plain-nil s) }

-- a script
plays_alike : (s : Setting) (lines : List Ask) → PlayAlike s (played s lines) (plain_run s lines)
unfolding played plain_run
plays_alike s lines = lines_alike s lines (Ok []) (Ok (plain_begin s)) (begin_is s)

same_made : (s : Setting) (a : Result (List Entry) ℕ) (b : Result PlainRun ℕ) → PlayAlike s a b → log_made b ≡ a
same_made s (Ok log) (Ok run) x = ap Ok x.same_log
same_made s (Err n) (Err k) x = ap Err x
same_made s a b x = absurd x

-- the machine makes the log of the script, or refuses its line
pub plain_plays : (s : Setting) (lines : List Ask) → log_made (plain_run s lines) ≡ played s lines
plain_plays s lines = same_made s (played s lines) (plain_run s lines) (plays_alike s lines)

-- what the machine says then
pub says : (s : Setting) (log : List Entry) (run : PlainRun) → IsRunOf s log run → SaysOf s log run.machine
says s log run x = subst (SaysOf s log) (sym x.same_machine) (says_of s log x.allowed)

made_from : (s : Setting) (lines : List Ask) (log : List Entry) (a : Result (List Entry) ℕ) (b : Result PlainRun ℕ) → a ≡ Ok log → plain_run s lines ≡ b → PlayAlike s a b → MakesLog s lines log
made_from s lines log (Ok other) (Ok run) is ran x =
    let same : other ≡ log = cc in
    let y : IsRunOf s log run = subst (λ l. IsRunOf s l run) same x in
    record { machine = run.machine; made = ran ∙ ap (λ l. Ok (record { log = l; machine = run.machine })) y.same_log; says = says s log run y }
made_from s lines log (Ok other) (Err n) is ran x = absurd x
made_from s lines log (Err n) b is ran x = cc

pub plain_makes : (s : Setting) (lines : List Ask) (log : List Entry) → played s lines ≡ Ok log → MakesLog s lines log
plain_makes s lines log is = made_from s lines log (played s lines) (plain_run s lines) is refl (plays_alike s lines)

-- a block run
pub plain_makes_run : (s : Setting) (log : List Entry) → IsAllowedLog s log → MakesLog s (script_of log) log
plain_makes_run s log run = plain_makes s (script_of log) log (replays s log run)

-- of a run by the rule each entry is the rule's choice after those before it
solo_before : (s : Setting) (rest : List Entry) (before : History) → IsSoloHistory s (fold (λ b e. event s b e ∷ b) before rest) → IsSoloHistory s before
solo_before s [] before solo = solo
solo_before s (e ∷ rest) before solo = (solo_before s rest (event s before e ∷ before) solo).0

pub IsSolo-next : (s : Setting) (log rest : List Entry) (e : Entry) → IsSolo s (log ++ e ∷ rest) → (e.hart.0 ≡ 0) × (solo_choice s (history s log) ≡ Some (choice_of e))
IsSolo-next s log rest e solo =
    let more : IsSoloHistory s (fold (λ b e. event s b e ∷ b) (history s log) (e ∷ rest)) = subst (IsSoloHistory s) (history-more s log (e ∷ rest)) solo in
    let p = solo_before s rest (event s (history s log) e ∷ history s log) more in
    (p.1, p.2)

-- an empty log is a run by the rule
pub IsSolo-nil : (s : Setting) → IsSolo s []
unfolding history
IsSolo-nil s = tt

-- a run by the rule that goes on by the rule is one
pub IsSolo-append : (s : Setting) (log : List Entry) (e : Entry) → IsSolo s log → e.hart.0 ≡ 0 → solo_choice s (history s log) ≡ Some (choice_of e) → IsSolo s (log ++ e ∷ [])
IsSolo-append s log e solo first chosen = rw history-append (solo, first, chosen)

-- the rule's choice is the machine's
pub same_choice : (s : Setting) (log : List Entry) (run : PlainRun) → IsRunOf s log run → plain_solo_choice s run.machine ≡ solo_choice s (history s log)
same_choice s log run x = ap (λ (m : Plain). plain_solo_choice s m) x.same_machine ∙ (says_of s log x.allowed).same_rule

-- one more step by the rule
one_step : (s : Setting) (log : List Entry) (run : PlainRun) (e : Entry) → IsRunOf s log run → decide s (history s log) e.hart.0 (choice_of e) ≡ Ok e → e.hart.0 ≡ 0 → solo_choice s (history s log) ≡ Some (choice_of e) →
    IsRunOf s (log ++ e ∷ []) (solo_chosen s run (plain_solo_choice s run.machine))
one_step s log run e x d first chosen =
    let here : decide s (history s log) 0 (choice_of e) ≡ Ok e = ap (λ h. decide s (history s log) h (choice_of e)) (sym first) ∙ d in
    let answer : plain_decide s run.machine 0 (choice_of e) ≡ Ok e = same_answer s log run 0 (choice_of e) x ∙ here in
    let rule : plain_solo_choice s run.machine ≡ Some (choice_of e) = same_choice s log run x ∙ chosen in
    subst (λ (o : Option Choice). IsRunOf s (log ++ e ∷ []) (solo_chosen s run o)) (sym rule)
    (subst (λ (r : Result Entry Refused). IsRunOf s (log ++ e ∷ []) (solo_gone_on s run r)) (sym answer)
    (one_more s log run e x (IsAllowedLog-append s log 0 (choice_of e) e x.allowed here)))

plain_solo-more : (s : Setting) (n : ℕ) → plain_solo s (suc n) ≡ solo_chosen s (plain_solo s n) (plain_solo_choice s (plain_solo s n).machine)
unfolding plain_solo
plain_solo-more s n = refl

-- the rest of a run by the rule
solo_from : (s : Setting) (rest log : List Entry) (n : ℕ) → IsAllowedLog s (log ++ rest) → IsSolo s (log ++ rest) → IsRunOf s log (plain_solo s n) → IsRunOf s (log ++ rest) (plain_solo s (n + length rest))
solo_from s [] log n run solo x = rw (append-nil, add-zero) x
solo_from s (e ∷ rest) log n run solo x =
    let p = IsSolo-next s log rest e solo in
    let joined : (log ++ e ∷ []) ++ rest ≡ log ++ e ∷ rest = append_assoc log (e ∷ []) rest in
    let one : IsRunOf s (log ++ e ∷ []) (plain_solo s (suc n)) = rw (plain_solo-more s n) (one_step s log (plain_solo s n) e x (IsAllowedLog-next s log rest e run) p.0 p.1) in
    let more = solo_from s rest (log ++ e ∷ []) (suc n) (subst (IsAllowedLog s) (sym joined) run) (subst (IsSolo s) (sym joined) solo) one in
    let count : suc n + length rest ≡ n + length (e ∷ rest) = omega arith in
    subst (λ k. IsRunOf s (log ++ e ∷ rest) (plain_solo s k)) count (subst (λ l. IsRunOf s l (plain_solo s (suc n + length rest))) joined more)

-- a run that is over stays as it is
stays_by : (s : Setting) (log : List Entry) (run : PlainRun) (o : Option Choice) → IsRunOf s log run → end_of s (history s log) ≢ over.Unended → solo_chosen s run o ≡ run
stays_by s log run None x over = refl
stays_by s log run (Some choice) x over =
    let d = is_over s (history s log) 0 choice over in
    ap (solo_gone_on s run) (same_answer s log run 0 choice x ∙ d.1)

solo_stays : (s : Setting) (log : List Entry) (n more : ℕ) → IsRunOf s log (plain_solo s n) → end_of s (history s log) ≢ over.Unended → IsRunOf s log (plain_solo s (n + more))
solo_stays s log n zero x over = rw add-zero x
solo_stays s log n (suc more) x over =
    let y = solo_stays s log n more x over in
    let same = plain_solo-more s (n + more) ∙ stays_by s log (plain_solo s (n + more)) (plain_solo_choice s (plain_solo s (n + more)).machine) y over in
    rw add-suc (subst (IsRunOf s log) (sym same) y)

plain_solo-start : (s : Setting) → IsRunOf s [] (plain_solo s 0)
unfolding plain_solo
plain_solo-start s = begin_is s

-- a finished run by the rule
plain_solo_is : (s : Setting) (log : List Entry) → IsAllowedLog s log → IsSolo s log → end_of s (history s log) ≢ over.Unended → IsRunOf s log (plain_solo s s.limits.steps)
plain_solo_is s log run solo over =
    let x : IsRunOf s log (plain_solo s (0 + length log)) = solo_from s log [] 0 run solo (plain_solo-start s) in
    let room : length log ≤ s.limits.steps = within_limit s log run in
    let count : 0 + length log + (s.limits.steps - length log) ≡ s.limits.steps = omega arith in
    subst (λ n. IsRunOf s log (plain_solo s n)) count (solo_stays s log (0 + length log) (s.limits.steps - length log) x over)

pub plain_solo_log : (s : Setting) (log : List Entry) → IsAllowedLog s log → IsSolo s log → end_of s (history s log) ≢ over.Unended → (plain_solo s s.limits.steps).log ≡ log
plain_solo_log s log run solo over = (plain_solo_is s log run solo over).same_log

pub plain_solo_says : (s : Setting) (log : List Entry) → IsAllowedLog s log → IsSolo s log → end_of s (history s log) ≢ over.Unended → SaysOf s log (plain_solo s s.limits.steps).machine
plain_solo_says s log run solo over = says s log (plain_solo s s.limits.steps) (plain_solo_is s log run solo over)
