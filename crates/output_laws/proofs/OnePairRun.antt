-- A script makes one log of a pair.
use Rattle.std.proofs.Common.{◌≡◌, ◌∙◌, ℕ, ◌+◌, ◌<◌, Bool, true, false, List, [], ◌∷◌, ◌++◌, Some, None, Ok, length, inl, inr, refl, sym, ap, ap₂, subst}
use Rattle.std.proofs.lemmas.Bool.{cases_order}
use Rattle.std.specs.Prelude.{if◌then◌else◌}
use Rattle.mach_types.specs.Events.{choice_of}
use Rattle.mach_types.specs.declared.events.Entry.{Entry}
use Rattle.block_model.specs.Replay.{Ask, AllAnswer, Answers, is_as_said}
use Rattle.shared_procs.specs.Pairs.{Pair, PairSetting}
use Rattle.shared_procs.specs.PairRuns.{IsPairRunHistory, PairHistory, event_two, pair_after, pair_decide, pair_history}
use Rattle.whole_runs.proofs.PairLogs.{decided, on}
use Rattle.whole_runs.specs.PlayedPairs.{IsFirstBadOfPair, IsPlayedPair, checked_two, made_two, pair_at}
use Rattle.output_laws.proofs.ReadLines.{line_among, line_within, same_asks}

-- the entry at a place is the one that the line asks for which it answers
asked : (s : PairSetting) (m : Pair) (line : Ask) (e : Entry) → pair_decide s m e.hart.0 (choice_of e) ≡ Ok e
    → Answers line e → pair_decide s m line.hart.0 line.choice ≡ Ok e
asked s m line e is answers = ap₂ (pair_decide s m) (sym answers.of_hart) (sym answers.of_choice) ∙ is

-- so a line has one answer
one_answer : (s : PairSetting) (m : Pair) (line : Ask) (e f : Entry) → pair_decide s m line.hart.0 line.choice ≡ Ok e
    → pair_decide s m line.hart.0 line.choice ≡ Ok f → e ≡ f
one_answer s m line e f first second = let same : Ok e ≡ Ok f = sym first ∙ second in cc same

answer_of : (s : PairSetting) (h : PairHistory) (line : Ask) (e : Entry) (log : List Entry)
    → IsPairRunHistory s (on s h (e ∷ log)) → Answers line e → pair_decide s (pair_after s h) line.hart.0 line.choice ≡ Ok e
answer_of s h line e log run answers = asked s (pair_after s h) line e (decided s h e log run) answers

same_first : (s : PairSetting) (h : PairHistory) (line : Ask) (e f : Entry) (a b : List Entry)
    → IsPairRunHistory s (on s h (e ∷ a)) → IsPairRunHistory s (on s h (f ∷ b)) → Answers line e → Answers line f → e ≡ f
same_first s h line e f a b first second one other =
    one_answer s (pair_after s h) line e f (answer_of s h line e a first one) (answer_of s h line f b second other)

-- a log beside another begins with its entry
moved : (s : PairSetting) (h : PairHistory) (e f : Entry) (log : List Entry) → e ≡ f
    → IsPairRunHistory s (on s h (f ∷ log)) → IsPairRunHistory s (on s h (e ∷ log))
moved s h e f log same run = subst (λ (x : Entry). IsPairRunHistory s (on s h (x ∷ log))) (sym same) run

one_log : (s : PairSetting) (h : PairHistory) (lines : List Ask) (a b : List Entry) → AllAnswer lines a → AllAnswer lines b
    → IsPairRunHistory s (on s h a) → IsPairRunHistory s (on s h b) → a ≡ b
one_log s h [] [] [] one other first second = refl
one_log s h [] [] (f ∷ b) one other first second = absurd other
one_log s h [] (e ∷ a) b one other first second = absurd one
one_log s h (line ∷ lines) [] b one other first second = absurd one
one_log s h (line ∷ lines) (e ∷ a) [] one other first second = absurd other
one_log s h (line ∷ lines) (e ∷ a) (f ∷ b) one other first second =
    let same = same_first s h line e f a b first second one.0 other.0 in
    let rest = one_log s (event_two s h e ∷ h) lines a b one.1 other.1 first (moved s h e f b same second) in
    ap₂ (λ x xs. x ∷ xs) same rest

-- a line that a log answers makes an entry
made : (e : Entry) (b : Bool) → b ≡ true → (if b then Some e else None) ≡ Some e
made e true is = refl
made e false is = absurd (cc is)

line_made : (s : PairSetting) (m : Pair) (line : Ask) (e : Entry) → pair_decide s m line.hart.0 line.choice ≡ Ok e
    → Answers line e → made_two s m (Some line) ≡ Some e
line_made s m line e is answers =
    ap (checked_two line.check) is ∙ made e (is_as_said line.check e) answers.as_said

-- so none that a whole run answers is the first bad one
never_bad : (s : PairSetting) (h : PairHistory) (earlier : List Ask) (line : Ask) (later : List Ask) (a b : List Entry)
    → AllAnswer (earlier ++ line ∷ later) a → AllAnswer earlier b → IsPairRunHistory s (on s h a)
    → IsPairRunHistory s (on s h b) → ¬ (made_two s (pair_after s (on s h b)) (Some line) ≡ None)
never_bad s h [] line later [] b one other first second none = absurd one
never_bad s h [] line later (e ∷ a) [] one other first second none =
    let some = line_made s (pair_after s h) line e (answer_of s h line e a first one.0) one.0 in
    absurd (cc (sym some ∙ none))
never_bad s h [] line later (e ∷ a) (f ∷ b) one other first second none = absurd other
never_bad s h (next ∷ earlier) line later [] b one other first second none = absurd one
never_bad s h (next ∷ earlier) line later (e ∷ a) [] one other first second none = absurd other
never_bad s h (next ∷ earlier) line later (e ∷ a) (f ∷ b) one other first second none =
    let same = same_first s h next e f a b first second one.0 other.0 in
    never_bad s (event_two s h e ∷ h) earlier line later a b one.1 other.1 first (moved s h e f b same second)
    (subst (λ (x : Entry). made_two s (pair_after s (on s h (x ∷ b))) (Some line) ≡ None) (sym same) none)

-- a script whose lines are all allowed has no bad line
pub allowed_not_bad_pair : (s : PairSetting) (text : List ℕ) (log : List Entry) (n : ℕ) → IsPlayedPair s text log
    → ¬ (IsFirstBadOfPair s text n)
unfolding pair_history
allowed_not_bad_pair s text log n run bad =
    let found = line_among run.lines bad.earlier bad.line bad.later (sym run.readable ∙ bad.parts) in
    never_bad s [] bad.earlier found.ask found.later log bad.log
    (subst (λ (lines : List Ask). AllAnswer lines log) found.parts run.answers) bad.answers run.pair_run bad.pair_run
    (ap (made_two s (pair_at s bad.log)) (sym found.says) ∙ bad.refused)

-- and one line is the first bad one: where fewer lines stand before one, it is among those before the other
longer_not_bad : (s : PairSetting) (text : List ℕ) (n m : ℕ) → (bad : IsFirstBadOfPair s text n) → (other : IsFirstBadOfPair s text m)
    → ¬ (length bad.earlier < length other.earlier)
unfolding pair_history
longer_not_bad s text n m bad other fewer =
    let found = line_within other.earlier bad.earlier bad.line bad.later (other.line ∷ other.later) fewer
    (sym other.parts ∙ bad.parts) in
    never_bad s [] bad.earlier found.ask found.later other.log bad.log
    (subst (λ (lines : List Ask). AllAnswer lines other.log) found.parts other.answers) bad.answers other.pair_run bad.pair_run
    (ap (made_two s (pair_at s bad.log)) (sym found.says) ∙ bad.refused)

pub one_bad_line : (s : PairSetting) (text : List ℕ) (n m : ℕ) → IsFirstBadOfPair s text n → IsFirstBadOfPair s text m → n ≡ m
one_bad_line s text n m bad other =
    elim (cases_order (length bad.earlier) (length other.earlier)) as (λ _. n ≡ m) [
      | inl same ↦ bad.number ∙ ap (λ k. k + 1) same ∙ sym other.number
      | inr differ ↦ elim differ as (λ _. n ≡ m) [
        | inl fewer ↦ absurd (longer_not_bad s text n m bad other fewer)
        | inr more ↦ absurd (longer_not_bad s text m n other bad more)
      ]
    ]

-- and one log
pub one_played_pair : (s : PairSetting) (text : List ℕ) (a b : List Entry) → IsPlayedPair s text a → IsPlayedPair s text b
    → a ≡ b
unfolding pair_history
one_played_pair s text a b one other =
    let lines = same_asks one.lines other.lines (sym one.readable ∙ other.readable) in
    one_log s [] other.lines a b (subst (λ (xs : List Ask). AllAnswer xs a) lines one.answers) other.answers one.pair_run
    other.pair_run
