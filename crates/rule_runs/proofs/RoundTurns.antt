-- Rounds: what a turn adds, and that a round in which no hart makes an event comes where the run has ended.
use Rattle.std.proofs.Common.{◌≡◌, ◌≢◌, ◌∙◌, ℕ, ◌+◌, ◌-◌, ◌<◌, ◌≤◌, zero, suc, List, [], ◌++◌, length, Option, Some, None}
use Rattle.std.proofs.Common.{Bool, true, false, is_some, refl, sym, ap, subst, arith, add-one, append-nil, length-append, leb}
use Rattle.std.specs.Prelude.{if◌then◌else◌, nat_lt}
use Rattle.std.specs.Option.{option_to_list}
use Rattle.std.proofs.lemmas.Bool.{leb-false, leb-true, ltb-false, ltb-true}
use Rattle.mach_types.specs.declared.events.Advance.{Advance}
use Rattle.mach_types.specs.declared.events.Advance.TheVariants.{Ended}
use Rattle.mach_types.specs.declared.events.Entry.{Entry}
use Rattle.mach_types.specs.declared.limits.End.TheVariants.{Unended}
use Rattle.mach_types.specs.Limits.{InRange}
use Rattle.block_model.specs.Choosing.{IsChosen, advance_at, has_ended, made_or_none, next_entry}
use Rattle.block_model.specs.Deciding.{end_of, history}
use Rattle.block_model.specs.Run.{IsBlockRun}
use Rattle.block_model.specs.Setting.{Seen, Setting}
use Rattle.block_model.proofs.Laws.{chosen_start, next_is_none, some_hart_goes_on, start_run, within_limit}
use Rattle.machine_core.specs.Advancing.{made_in}
use Rattle.whole_runs.specs.Rounds.{IsWholeRounds, after_round, after_rounds, after_turn, after_turns, log_by_rounds}
use Rattle.rule_runs.proofs.Chosen.{over_when_ended}

-- an attempt of a hart to go on is its turn
pub turn_made : (s : Setting) (seed h : ℕ) (log : List Entry)
    → log ++ made_in (advance_at s seed h (history s log)) ≡ after_turn s seed h log
unfolding advance_at
turn_made s seed h log = ap (λ (es : List Entry). log ++ es) (by_end (has_ended s (history s log)) refl)
  where
    next : Option Entry
    next = next_entry s seed h (history s log)

    by_next : (o : Option Entry) → made_in (made_or_none o) ≡ option_to_list o
    by_next None = refl
    by_next (Some e) = refl

    by_end : (b : Bool) → has_ended s (history s log) ≡ b
        → made_in (if b then Ended else made_or_none next) ≡ option_to_list next
    by_end true over = ap (λ (o : Option Entry). option_to_list o) (sym (next_is_none s seed log h over))
    by_end false goes = by_next next

-- the turns of one hart more
pub turn_on : (first v w : Seen) (h : ℕ) (answer : Advance)
    → v ≡ record first { log = after_turns first.setting first.seed first.log h }
    → answer ≡ advance_at v.setting v.seed h (history v.setting v.log)
    → w ≡ record v { log = v.log ++ made_in answer }
    → w ≡ record first { log = after_turns first.setting first.seed first.log (h + 1) }
turn_on first v w h answer is said log =
    log
    ∙ ap (λ (es : List Entry). record v { log = es })
    (ap (λ (a : Advance). v.log ++ made_in a) said ∙ turn_made v.setting v.seed h v.log)
    ∙ ap (λ (u : Seen). record u { log = after_turn u.setting u.seed h u.log }) is
    ∙ ap (λ (n : ℕ). record first { log = after_turns first.setting first.seed first.log n }) (sym (add-one h))

module _ (s : Setting) (seed : ℕ) where
  -- a log isn't shorter after turns
  turns_longer : (log : List Entry) (n : ℕ) → length log ≤ length (after_turns s seed log n)
  turns_longer log zero = omega arith
  turns_longer log (suc n) =
      let before = after_turns s seed log n in
      let more = option_to_list (next_entry s seed n (history s before)) in
      let rest = turns_longer log n in
      let parts = length-append before more in
      omega arith

  nothing_made : (o : Option Entry) → length (option_to_list o) ≤ 0 → o ≡ None
  nothing_made None few = refl
  nothing_made (Some e) few = absurd (omega arith)

  -- where it isn't longer, it is as it was, and none of the harts had a choice
  turns_none : (log : List Entry) (n : ℕ) → length (after_turns s seed log n) ≤ length log
      → (after_turns s seed log n ≡ log) × ((h : ℕ) → h < n → next_entry s seed h (history s log) ≡ None)
  turns_none log zero few = (refl, λ h lt. absurd (omega arith))
  turns_none log (suc n) few =
      let before = after_turns s seed log n in
      let made = next_entry s seed n (history s before) in
      let parts = length-append before (option_to_list made) in
      let longer = turns_longer log n in
      let rest = turns_none log n (omega arith) in
      let none : made ≡ None = nothing_made made (omega arith) in
      let here : next_entry s seed n (history s log) ≡ None =
      ap (λ (es : List Entry). next_entry s seed n (history s es)) (sym rest.0) ∙ none in (
        ap (λ (o : Option Entry). before ++ option_to_list o) none ∙ append-nil before ∙ rest.0,
        λ h lt. last_or_before h n lt here rest.1,
      )
    where
      last_or_before : (h n : ℕ) → h < suc n → next_entry s seed n (history s log) ≡ None
          → ((k : ℕ) → k < n → next_entry s seed k (history s log) ≡ None) → next_entry s seed h (history s log) ≡ None
      last_or_before h n lt here before = by_test (leb n h) refl
        where
          by_test : (b : Bool) → leb n h ≡ b → next_entry s seed h (history s log) ≡ None
          by_test true at =
              let low = leb-true n h at in
              let same : n ≡ h = omega (arith, low, lt) in
              subst (λ (k : ℕ). next_entry s seed k (history s log) ≡ None) same here
          by_test false at = let high = leb-false n h at in before h (omega (arith, high))

  -- where none of them has a choice the run has ended
  none_when_ended : (log : List Entry) → IsBlockRun s log → 0 < s.limits.harts
      → ((h : ℕ) → h < s.limits.harts → next_entry s seed h (history s log) ≡ None)
      → has_ended s (history s log) ≡ true
  none_when_ended log run harts none = by_end (has_ended s (history s log)) refl
    where
      by_end : (b : Bool) → has_ended s (history s log) ≡ b → b ≡ true
      by_end true over = refl
      by_end false goes =
          let some = some_hart_goes_on s seed log run.allowed harts goes in
          absurd (cc (sym some.2 ∙ ap (is_some {T = Entry}) (none some.0 some.1)))

  -- and there turns change nothing, nor do rounds
  turns_still : (log : List Entry) (n : ℕ) → has_ended s (history s log) ≡ true → after_turns s seed log n ≡ log
  turns_still log zero over = refl
  turns_still log (suc n) over =
      let rest = turns_still log n over in
      ap (after_turn s seed n) rest
      ∙ ap (λ (o : Option Entry). log ++ option_to_list o) (next_is_none s seed log n over) ∙ append-nil log

  rounds_still : (n m : ℕ) → n ≤ m → has_ended s (history s (after_rounds s seed n)) ≡ true
      → after_rounds s seed m ≡ after_rounds s seed n
  rounds_still n zero le over =
      let same : zero ≡ n = omega (arith, le) in ap (after_rounds s seed) same
  rounds_still n (suc m) le over = by_test (λ low. rounds_still n m low over) (leb n m) refl
    where
      by_test : (n ≤ m → after_rounds s seed m ≡ after_rounds s seed n) → (b : Bool) → leb n m ≡ b
          → after_rounds s seed (suc m) ≡ after_rounds s seed n
      by_test earlier true at =
          ap (after_round s seed) (earlier (leb-true n m at)) ∙ turns_still (after_rounds s seed n) s.limits.harts over
      by_test earlier false at =
          let high = leb-false n m at in
          let same : suc m ≡ n = omega (arith, high, le) in ap (after_rounds s seed) same

-- a machine on its way by rounds: so many were made, each of which made an entry
pub record IsOnWay (s : Setting) (seed : ℕ) (m : Seen) : Type 0 where
  pub setting : m.setting ≡ s
  pub seed_kept : m.seed ≡ seed
  pub run : IsBlockRun m.setting m.log
  pub chosen : IsChosen m.setting m.seed m.log
  pub rounds : ℕ
  pub made : m.log ≡ after_rounds m.setting m.seed rounds
  pub enough : rounds ≤ length m.log

pub booted_on_way : (s : Setting) (seed : ℕ) (m : Seen) → m ≡ record { setting = s; seed = seed; log = [] }
    → IsOnWay s seed m
booted_on_way s seed m is = subst (IsOnWay s seed) (sym is)
    (record {
      setting = refl;
      seed_kept = refl;
      run = start_run s;
      chosen = chosen_start s seed;
      rounds = 0;
      made = refl;
      enough = omega arith;
    })

-- a run that isn't left open
abbrev IsOver : Setting → List Entry → Type 0
IsOver s log = end_of s (history s log) ≢ Unended

-- a machine that made a round
abbrev IsRound : Seen → Seen → Type 0
IsRound v w = w ≡ record v { log = after_round v.setting v.seed v.log }

pub round_on_way : (s : Setting) (seed : ℕ) (v w : Seen) → IsOnWay s seed v → IsRound v w
    → IsBlockRun w.setting w.log → IsChosen w.setting w.seed w.log
    → nat_lt (length v.log) (length w.log) ≡ true → IsOnWay s seed w
round_on_way s seed v w way round run chosen made =
    let longer = ltb-true (length v.log) (length w.log) made in
    let enough = way.enough in
    record {
      setting = ap (λ (u : Seen). u.setting) round ∙ way.setting;
      seed_kept = ap (λ (u : Seen). u.seed) round ∙ way.seed_kept;
      run = run;
      chosen = chosen;
      rounds = suc way.rounds;
      made = subst (λ (u : Seen). u.log ≡ after_rounds u.setting u.seed (suc way.rounds)) (sym round)
          (ap (after_round v.setting v.seed) way.made);
      enough = omega (arith, longer, enough);
    }

-- it comes nearer to the end of its log
pub round_nearer : (s : Setting) (seed : ℕ) (v w : Seen) → IsOnWay s seed v → IsRound v w
    → IsBlockRun w.setting w.log → nat_lt (length v.log) (length w.log) ≡ true
    → w.setting.limits.steps - length w.log < v.setting.limits.steps - length v.log
round_nearer s seed v w way round run made =
    let longer = ltb-true (length v.log) (length w.log) made in
    let within = within_limit w.setting w.log run in
    let same : w.setting.limits.steps ≡ v.setting.limits.steps = ap (λ (u : Seen). u.setting.limits.steps) round in
    omega (arith, longer, within, same)

-- after a round that made nothing the run has ended
pub round_whole : (s : Setting) (seed : ℕ) (v w : Seen) → InRange s.limits → IsOnWay s seed v → IsRound v w
    → IsBlockRun w.setting w.log → nat_lt (length v.log) (length w.log) ≡ false → IsWholeRounds s seed w
unfolding log_by_rounds
round_whole s seed v w range way round run made =
    let short = ltb-false (length v.log) (length w.log) made in
    let log : w.log ≡ after_round v.setting v.seed v.log = ap (λ (u : Seen). u.log) round in
    let few : length (after_round v.setting v.seed v.log) ≤ length v.log =
    subst (λ (es : List Entry). length es ≤ length v.log) log (omega (arith, short)) in
    let none = turns_none v.setting v.seed v.log v.setting.limits.harts few in
    let same : w.log ≡ v.log = log ∙ none.0 in
    let harts : 0 < v.setting.limits.harts =
    subst (λ (t : Setting). 0 < t.limits.harts) (sym way.setting) (let some = range.some_hart in omega (arith, some)) in
    let over = none_when_ended v.setting v.seed v.log way.run harts none.1 in
    let over_here : has_ended v.setting (history v.setting (after_rounds v.setting v.seed way.rounds)) ≡ true =
    subst (λ (es : List Entry). has_ended v.setting (history v.setting es) ≡ true) way.made over in
    let most = within_limit v.setting v.log way.run in
    let enough = way.enough in
    let all : v.log ≡ after_rounds v.setting v.seed v.setting.limits.steps =
    way.made ∙ sym (rounds_still v.setting v.seed way.rounds v.setting.limits.steps (omega (arith, enough, most)) over_here) in
    let setting : w.setting ≡ s = ap (λ (u : Seen). u.setting) round ∙ way.setting in
    let over_after : has_ended w.setting (history w.setting w.log) ≡ true =
    subst (λ (u : Seen). has_ended u.setting (history u.setting u.log) ≡ true) (sym round)
    (subst (λ (es : List Entry). has_ended v.setting (history v.setting es) ≡ true) (sym none.0) over) in
    record {
      setting = setting;
      run = record {
        block_run = subst (λ (t : Setting). IsBlockRun t w.log) setting run;
        rounds = same ∙ all ∙ (λ i. after_rounds (way.setting i) (way.seed_kept i) (way.setting i).limits.steps);
        over = subst (λ (t : Setting). IsOver t w.log) setting (over_when_ended w.setting w.log run over_after);
      };
    }
