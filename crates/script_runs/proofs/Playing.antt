-- What a line of a script makes of a machine and its reader.
use Rattle.std.proofs.Common.{◌≡◌, ℕ, ◌+◌, List, [], ◌∷◌, ◌++◌, length, map, refl, sym, ap, ◌∙◌, subst}
use Rattle.std.proofs.Common.{Option, Some, None, Result, Ok, Err, append-nil, append_assoc, ap₂}
use Rattle.std.proofs.lemmas.List.{map-append}
use Rattle.std.specs.Option.{option_map}
use Rattle.step_log.specs.Reading.{Unread, unread, next_answer, after_next}
use Rattle.step_log.specs.Script.{lines_of}
use Rattle.step_log.specs.declared.fields.Line.{Line}
use Rattle.step_log.specs.declared.reading.BadLine.{BadLine}
use Rattle.mach_types.specs.declared.events.Entry.{Entry}
use Rattle.mach_types.specs.declared.events.Tid.{Tid}
use Rattle.block_model.specs.Deciding.{decide, history}
use Rattle.block_model.specs.Replay.{Ask, checked, extended, is_as_said, made_by, made_by_read, play_line, played}
use Rattle.block_model.specs.Setting.{Setting, Seen}
use Rattle.block_model.proofs.Laws.{length-answers, played-append, played-nil, played_is_run}
use Rattle.block_model.specs.declared.refusals.Refused.{Refused}
use Rattle.call_reasons.specs.declared.reasons.LineFault.{LineFault}
use Rattle.call_reasons.specs.declared.reasons.LineFault.TheVariants.{Malformed}
use Rattle.script_runs.specs.Playing.{IsPlaying}
use Rattle.script_runs.proofs.NextLines.{at_bad, at_end, at_line, differs_unmade}
use Rattle.whole_runs.specs.Asks.{ask_in, ask_of}
use Rattle.whole_runs.specs.BadLines.{IsBadLine, decided_fault, line_fault}
use Rattle.whole_runs.specs.Runs.{IsFirstBadLine, IsPlayedRun, IsWholePlay}

-- before the first line
pub playing-start : (text : List ℕ) (m : Seen) (s : Setting) (seed : ℕ) (r : Unread)
    → m ≡ record { setting = s; seed = seed; log = [] } → r ≡ unread text → (m.setting ≡ s) × IsPlaying text m r
playing-start text m s seed r is at =
    let left : r.left ≡ lines_of text = ap (λ (u : Unread). u.left) at in
    let log : m.log ≡ [] = ap (λ (u : Seen). u.log) is in (
      ap (λ (u : Seen). u.setting) is,
      record {
        earlier = [];
        asks = [];
        parts = sym left;
        readable = refl;
        allowed = played-nil m.setting ∙ ap Ok (sym log);
      },
    )

-- where no line is left, the whole script was played
pub whole-end : (text : List ℕ) (m : Seen) (r : Unread) → IsPlaying text m r → r.left ≡ []
    → IsPlayedRun m.setting text m.log
whole-end text m r p none =
    let run = played_is_run m.setting p.asks m.log p.allowed in
    let all : lines_of text ≡ p.earlier = p.parts ∙ ap (λ ls. p.earlier ++ ls) none ∙ append-nil p.earlier in
    record { lines = p.asks; readable = ap (map ask_in) all ∙ p.readable; block_run = run.0; answers = run.1 }

-- one more line was played
pub playing-next : (text : List ℕ) (m n : Seen) (line : List ℕ) (more : List (List ℕ)) (ask : Ask)
    (r : Unread) → IsPlaying text m r → r.left ≡ line ∷ more → ask_in line ≡ Some ask
    → n.setting ≡ m.setting → Ok n.log ≡ extended m.log (made_by m.setting m.log ask) → (q : Unread)
    → q.left ≡ more → IsPlaying text n q
playing-next text m n line more ask r p left said same made q rest =
    let step : played m.setting (p.asks ++ ask ∷ []) ≡ Ok n.log =
    played-append m.setting p.asks ask ∙ ap (λ r. play_line m.setting r ask) p.allowed ∙ sym made in
    record {
      earlier = p.earlier ++ line ∷ [];
      asks = p.asks ++ ask ∷ [];
      parts = p.parts ∙ ap (λ ls. p.earlier ++ ls) left ∙ sym (append_assoc p.earlier (line ∷ []) more)
          ∙ ap (λ ls. (p.earlier ++ line ∷ []) ++ ls) (sym rest);
      readable = map-append ask_in p.earlier (line ∷ [])
          ∙ ap₂ (λ xs ys. xs ++ ys) p.readable (ap (λ x. x ∷ []) said)
          ∙ sym (map-append Some p.asks (ask ∷ []));
      allowed = subst (λ (s : Setting). played s (p.asks ++ ask ∷ []) ≡ Ok n.log) (sym same) step;
    }

-- a line that something is wrong with makes no entry
faulty_unmade : (check : Option (Tid × ℕ)) (r : Result Entry Refused) (fault : LineFault)
    → decided_fault check r ≡ Some fault → checked check r ≡ None
faulty_unmade check (Err refused) fault is = refl
faulty_unmade check (Ok e) fault is = differs_unmade (is_as_said check e) e fault is

line_unmade : (s : Setting) (log : List Entry) (line : Option Ask) (fault : LineFault)
    → line_fault s log line ≡ Some fault → made_by_read s log line ≡ None
line_unmade s log None fault is = refl
line_unmade s log (Some ask) fault is =
    faulty_unmade ask.check (decide s (history s log) ask.hart.0 ask.choice) fault is

-- the next line makes no entry
abbrev first_unmade : (text : List ℕ) (m : Seen) (line : List ℕ) (more : List (List ℕ)) (r : Unread)
    → IsPlaying text m r → r.left ≡ line ∷ more → made_by_read m.setting m.log (ask_in line) ≡ None
    → IsFirstBadLine m.setting text (length m.log + 1)
first_unmade text m line more r p left unmade = record {
  earlier = p.asks;
  line = ask_in line;
  later = map ask_in more;
  log = m.log;
  parts = ap (map ask_in) (p.parts ∙ ap (λ ls. p.earlier ++ ls) left)
      ∙ map-append ask_in p.earlier (line ∷ more) ∙ ap (λ xs. xs ++ ask_in line ∷ map ask_in more) p.readable;
  number = ap (λ n. n + 1) (length-answers p.asks m.log (played_is_run m.setting p.asks m.log p.allowed).1);
  allowed = p.allowed;
  refused = unmade;
}

-- it is the first bad one: something is wrong with it
first_bad : (text : List ℕ) (m : Seen) (line : List ℕ) (more : List (List ℕ)) (r : Unread) (fault : LineFault)
    → IsPlaying text m r → r.left ≡ line ∷ more → line_fault m.setting m.log (ask_in line) ≡ Some fault
    → IsBadLine m.setting text (length m.log + 1) fault
first_bad text m line more r fault p left faulty = record {
  first = first_unmade text m line more r p left (line_unmade m.setting m.log (ask_in line) fault faulty);
  why = faulty;
}

-- the reader says that no line is left
pub ended_here : (text : List ℕ) (m : Seen) (r : Unread) → IsPlaying text m r → next_answer r ≡ Ok None
    → IsWholePlay m.setting text m
ended_here text m r p is = record { setting = refl; run = whole-end text m r p (at_end r.left r.read is) }

-- it gives a line, which is played
pub goes_on : (text : List ℕ) (m n : Seen) (line : Line) (r q : Unread) → IsPlaying text m r
    → next_answer r ≡ Ok (Some line) → q ≡ after_next r
    → n.setting ≡ m.setting → Ok n.log ≡ extended m.log (made_by m.setting m.log (ask_of line))
    → IsPlaying text n q
goes_on text m n line r q p is after same made =
    let x = at_line r.left r.read line is in
    playing-next text m n x.text x.more (ask_of line) r p x.left (ap (option_map ask_of) x.says) same made q
    (ap (λ (u : Unread). u.left) after ∙ x.after)

-- it gives a line that something is wrong with
pub refused_here : (text : List ℕ) (m : Seen) (line : Line) (r : Unread) (fault : LineFault) → IsPlaying text m r
    → next_answer r ≡ Ok (Some line) → line_fault m.setting m.log (Some (ask_of line)) ≡ Some fault
    → IsBadLine m.setting text (length m.log + 1) fault
refused_here text m line r fault p is faulty =
    let x = at_line r.left r.read line is in
    first_bad text m x.text x.more r fault p x.left
    (ap (λ o. line_fault m.setting m.log (option_map ask_of o)) x.says ∙ faulty)

-- it says that the next line is malformed
pub malformed_here : (text : List ℕ) (m : Seen) (bad : BadLine) (r : Unread) → IsPlaying text m r
    → next_answer r ≡ Err bad → IsBadLine m.setting text (length m.log + 1) Malformed
malformed_here text m bad r p is =
    let x = at_bad r.left r.read bad is in
    first_bad text m x.text x.more r Malformed p x.left
    (ap (λ o. line_fault m.setting m.log (option_map ask_of o)) x.says)

-- the number, by the log that was read
pub first_bad_at : (text : List ℕ) (m : Seen) (log : List Entry) (fault : LineFault) → log ≡ m.log
    → IsBadLine m.setting text (length m.log + 1) fault → IsBadLine m.setting text (length log + 1) fault
first_bad_at text m log fault same bad =
    subst (λ es. IsBadLine m.setting text (length es + 1) fault) (sym same) bad
