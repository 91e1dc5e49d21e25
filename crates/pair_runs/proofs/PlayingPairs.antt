-- What a line of a script makes of a pair and its reader.
use Rattle.std.proofs.Common.{◌≡◌, ℕ, ◌+◌, List, [], ◌∷◌, ◌++◌, length, map, refl, sym, ap, ap₂, ◌∙◌, subst}
use Rattle.std.proofs.Common.{Bool, true, false, Option, Some, None, Result, Ok, Err, append-nil, append_assoc, if◌then◌else◌}
use Rattle.std.proofs.lemmas.List.{map-append}
use Rattle.std.specs.Option.{option_map}
use Rattle.step_log.specs.Reading.{Unread, unread, next_answer, after_next}
use Rattle.step_log.specs.Script.{lines_of}
use Rattle.step_log.specs.declared.fields.Line.{Line}
use Rattle.step_log.specs.declared.reading.BadLine.{BadLine}
use Rattle.mach_types.specs.declared.events.Entry.{Entry}
use Rattle.mach_types.specs.declared.events.Tid.{Tid}
use Rattle.block_model.specs.Replay.{Ask, AllAnswer, Answers, is_as_said}
use Rattle.block_model.proofs.Laws.{length-answers}
use Rattle.shared_procs.specs.Pairs.{Pair, PairSetting}
use Rattle.shared_procs.specs.PairRuns.{IsPairRun, PairSeen, pair_decide, pair_history, pair_seen}
use Rattle.shared_procs.specs.declared.outcomes.PairRefused.{PairRefused}
use Rattle.call_reasons.specs.declared.reasons.LineFault.{LineFault}
use Rattle.call_reasons.specs.declared.reasons.LineFault.TheVariants.{Differs, Malformed}
use Rattle.whole_runs.specs.PlayedPairs.{IsWholePair, checked_two, made_two, pair_at}
use Rattle.whole_runs.specs.Asks.{ask_in, ask_of}
use Rattle.whole_runs.specs.BadLines.{IsBadLineOfPair, decided_for_pair, line_fault_of_pair}
use Rattle.pair_runs.specs.Playing.{IsPlayingPair}
use Rattle.script_runs.proofs.NextLines.{at_bad, at_end, at_line, differs_unmade}

-- before the first line
nothing_run : (s : PairSetting) → IsPairRun s []
unfolding pair_history
nothing_run s = tt

pub begin : (text : List ℕ) (v : PairSeen) (s : PairSetting) (r : Unread) → v ≡ record { setting = s; log = [] }
    → r ≡ unread text → (v.setting ≡ s) × IsPlayingPair text v r
begin text v s r is at = (
  ap (λ (u : PairSeen). u.setting) is,
  record {
    earlier = [];
    asks = [];
    parts = sym (ap (λ (u : Unread). u.left) at);
    readable = refl;
    pair_run = subst (λ (u : PairSeen). IsPairRun u.setting u.log) (sym is) (nothing_run s);
    answers = subst (λ (u : PairSeen). AllAnswer [] u.log) (sym is) tt;
  },
)

-- a line more is answered
answers_more : (lines : List Ask) (log : List Entry) (line : Ask) (e : Entry) → AllAnswer lines log → Answers line e
    → AllAnswer (lines ++ line ∷ []) (log ++ e ∷ [])
answers_more [] [] line e all one = (one, tt)
answers_more [] (f ∷ log) line e all one = absurd all
answers_more (next ∷ lines) [] line e all one = absurd all
answers_more (next ∷ lines) (f ∷ log) line e all one = (all.0, answers_more lines log line e all.1 one)

next_played : (text : List ℕ) (v w : PairSeen) (line : List ℕ) (more : List (List ℕ)) (ask : Ask) (e : Entry) (r q : Unread)
    → IsPlayingPair text v r → r.left ≡ line ∷ more → ask_in line ≡ Some ask → w.log ≡ v.log ++ e ∷ [] → Answers ask e
    → IsPairRun w.setting w.log → q.left ≡ more → IsPlayingPair text w q
next_played text v w line more ask e r q p left said made answers run rest = record {
  earlier = p.earlier ++ line ∷ [];
  asks = p.asks ++ ask ∷ [];
  parts = p.parts ∙ ap (λ ls. p.earlier ++ ls) left ∙ sym (append_assoc p.earlier (line ∷ []) more)
      ∙ ap (λ ls. (p.earlier ++ line ∷ []) ++ ls) (sym rest);
  readable = map-append ask_in p.earlier (line ∷ []) ∙ ap₂ (λ xs ys. xs ++ ys) p.readable (ap (λ x. x ∷ []) said)
      ∙ sym (map-append Some p.asks (ask ∷ []));
  pair_run = run;
  answers = subst (AllAnswer (p.asks ++ ask ∷ [])) (sym made) (answers_more p.asks v.log ask e p.answers answers);
}

-- where no line is left, the whole script was played
pub ended_here : (text : List ℕ) (v : PairSeen) (r : Unread) → IsPlayingPair text v r → next_answer r ≡ Ok None
    → IsWholePair v.setting text v
ended_here text v r p is =
    let none = at_end r.left r.read is in
    let all : lines_of text ≡ p.earlier = p.parts ∙ ap (λ ls. p.earlier ++ ls) none ∙ append-nil p.earlier in
    record {
      setting = refl;
      run = record {
        lines = p.asks;
        readable = ap (map ask_in) all ∙ p.readable;
        pair_run = p.pair_run;
        answers = p.answers;
      };
    }

-- a line is played
pub goes_on : (text : List ℕ) (v w : PairSeen) (line : Line) (e : Entry) (r q : Unread) → IsPlayingPair text v r
    → next_answer r ≡ Ok (Some line) → q ≡ after_next r → w.log ≡ v.log ++ e ∷ [] → Answers (ask_of line) e
    → IsPairRun w.setting w.log → IsPlayingPair text w q
goes_on text v w line e r q p is after made answers run =
    let x = at_line r.left r.read line is in
    next_played text v w x.text x.more (ask_of line) e r q p x.left (ap (option_map ask_of) x.says) made answers run
    (ap (λ (u : Unread). u.left) after ∙ x.after)

-- a line that something is wrong with makes no entry
faulty_unmade : (check : Option (Tid × ℕ)) (r : Result Entry PairRefused) (fault : LineFault)
    → decided_for_pair check r ≡ Some fault → checked_two check r ≡ None
faulty_unmade check (Err refused) fault is = refl
faulty_unmade check (Ok e) fault is = differs_unmade (is_as_said check e) e fault is

line_unmade : (s : PairSetting) (m : Pair) (line : Option Ask) (fault : LineFault)
    → line_fault_of_pair s m line ≡ Some fault → made_two s m line ≡ None
line_unmade s m None fault is = refl
line_unmade s m (Some ask) fault is = faulty_unmade ask.check (pair_decide s m ask.hart.0 ask.choice) fault is

-- the next line is the first bad one
first_bad : (text : List ℕ) (v : PairSeen) (line : List ℕ) (more : List (List ℕ)) (r : Unread) (fault : LineFault)
    → IsPlayingPair text v r → r.left ≡ line ∷ more
    → line_fault_of_pair v.setting (pair_at v.setting v.log) (ask_in line) ≡ Some fault
    → IsBadLineOfPair v.setting text (length v.log + 1) fault
first_bad text v line more r fault p left faulty = record {
  first = record {
    earlier = p.asks;
    line = ask_in line;
    later = map ask_in more;
    log = v.log;
    parts = ap (map ask_in) (p.parts ∙ ap (λ ls. p.earlier ++ ls) left) ∙ map-append ask_in p.earlier (line ∷ more)
        ∙ ap (λ xs. xs ++ ask_in line ∷ map ask_in more) p.readable;
    number = ap (λ n. n + 1) (length-answers p.asks v.log p.answers);
    pair_run = p.pair_run;
    answers = p.answers;
    refused = line_unmade v.setting (pair_at v.setting v.log) (ask_in line) fault faulty;
  };
  why = faulty;
}

-- its number is told by the log that was read
pub refused_here : (text : List ℕ) (v : PairSeen) (log : List Entry) (line : Line) (r : Unread) (fault : LineFault) → log ≡ v.log
    → IsPlayingPair text v r → next_answer r ≡ Ok (Some line)
    → line_fault_of_pair v.setting (pair_seen v) (Some (ask_of line)) ≡ Some fault
    → IsBadLineOfPair v.setting text (length log + 1) fault
refused_here text v log line r fault same p is faulty =
    let x = at_line r.left r.read line is in
    subst (λ (es : List Entry). IsBadLineOfPair v.setting text (length es + 1) fault) (sym same)
    (first_bad text v x.text x.more r fault p x.left
    (ap (λ o. line_fault_of_pair v.setting (pair_at v.setting v.log) (option_map ask_of o)) x.says ∙ faulty))

pub malformed_here : (text : List ℕ) (v : PairSeen) (log : List Entry) (bad : BadLine) (r : Unread) → log ≡ v.log
    → IsPlayingPair text v r → next_answer r ≡ Err bad → IsBadLineOfPair v.setting text (length log + 1) Malformed
malformed_here text v log bad r same p is =
    let x = at_bad r.left r.read bad is in
    subst (λ (es : List Entry). IsBadLineOfPair v.setting text (length es + 1) Malformed) (sym same)
    (first_bad text v x.text x.more r Malformed p x.left
    (ap (λ o. line_fault_of_pair v.setting (pair_at v.setting v.log) (option_map ask_of o)) x.says))

-- what is decided of an entry that isn't as the line says
pub differs_here : (s : PairSetting) (m : Pair) (ask : Ask) (e : Entry) → Ok e ≡ pair_decide s m ask.hart.0 ask.choice
    → is_as_said ask.check e ≡ false → line_fault_of_pair s m (Some ask) ≡ Some (Differs e)
differs_here s m ask e is said =
    ap (decided_for_pair ask.check) (sym is) ∙ by_said (is_as_said ask.check e) said
  where
    by_said : (b : Bool) → b ≡ false → (if b then None else Some (Differs e)) ≡ Some (Differs e)
    by_said true unsaid = absurd (cc unsaid)
    by_said false unsaid = refl
