-- A log is told, entry by entry, as it is made.
use Rattle.std.proofs.Common.{◌≡◌, ℕ, ◌+◌, ◌<◌, List, [], ◌∷◌, ◌++◌, length, refl, sym, ap, ◌∙◌, subst, arith, Bool, true, false, cond, Ok, append_assoc, append-nil, length-append, Option, Some, None}
use Rattle.std.specs.Prelude.{codes}
use Rattle.std.specs.List.{flat_map, fold}
use Rattle.std.specs.Option.{option_to_list}
use Rattle.mach_types.specs.Events.{choice_of}
use Rattle.mach_types.specs.Limits.{InRange}
use Rattle.mach_types.specs.declared.events.Choice.{Choice}
use Rattle.mach_types.specs.declared.events.Entry.{Entry}
use Rattle.mach_types.specs.declared.events.Kind.{Kind}
use Rattle.mach_types.specs.declared.events.Kind.TheVariants as kind
use Rattle.step_log.specs.declared.fields.Line.{Line}
use Rattle.block_model.specs.Replay.{checked, is_as_said}
use Rattle.block_model.specs.Deciding.{decide, event, history}
use Rattle.block_model.specs.Events.{done_of}
use Rattle.block_model.specs.History.{History}
use Rattle.block_model.specs.Plain.{here_of}
use Rattle.block_model.specs.Run.{IsBlockRun}
use Rattle.block_model.specs.Setting.{Seen, Setting}
use Rattle.block_model.proofs.Laws.{decided_is, length-history, next_event, start_run}
use Rattle.block_view.specs.Following.{IsFollowing}
use Rattle.block_view.specs.Ledgers.{kept_in}
use Rattle.block_view.specs.Passing.{IsAhead, IsAheadOf, IsMadeBy}
use Rattle.block_view.specs.declared.passing.Ahead.{Ahead}
use Rattle.block_view.specs.Turns.{turns}
use Rattle.block_view.specs.declared.turns.Turn.{Turn}
use Rattle.command_words.specs.declared.commands.LineSpan.{LineSpan}
use Rattle.fact_types.specs.declared.facts.Fact.{Fact}
use Rattle.event_facts.specs.Lines.{next_line}
use Rattle.event_facts.specs.Telling.{IsDecided, past_of}
use Rattle.event_facts.specs.Trace.{trace_of}
use Rattle.event_facts.specs.Tied.{AreLinesOf}
use Rattle.event_facts.specs.declared.lines.Lines.{Lines}
use Rattle.fact_text.specs.Lines.{facts_text}
use Rattle.place_text.specs.Ends.{number_line}
use Rattle.step_log.specs.Text.{entry_text}
use Rattle.whole_runs.specs.Asks.{ask_of}
use Rattle.whole_runs.specs.BadLines.{decided_fault, line_fault}
use Rattle.trace_text.specs.Traces.{event_text, events_text, is_within, turn_line}
use Rattle.call_reasons.specs.declared.reasons.LineFault.{LineFault}
use Rattle.call_reasons.specs.declared.reasons.LineFault.TheVariants.{Differs}
use Rattle.traced_runs.specs.Tracing.{IsFollowed, IsFree, IsMadeLine, IsMadeNext, IsTraced, turn_text}
use Rattle.traced_runs.specs.declared.tracing.Followed.{Followed}
use Rattle.traced_runs.specs.declared.tracing.Made.{Made}

-- ONE ENTRY

-- the number of its line
pub line_is : (m m' : Seen) (e : Entry) (n : ℕ) → m' ≡ record m { log = m.log ++ e ∷ [] } → n ≡ length m'.log → n ≡ next_line (past_of m)
line_is m m' e n made is =
    let grown = ap (λ (z : Seen). length z.log) made in
    omega (arith, is, grown, length-append m.log (e ∷ []), length-history m.setting m.log)

-- what it makes of the restartable sequences
turn_told : (turn : Option Turn) (made : List Turn) → option_to_list turn ≡ made → turn_text turn ≡ flat_map turn_line made
turn_told None made is = ap (flat_map turn_line) is
turn_told (Some turn) made is = sym (append-nil (turn_line turn)) ∙ ap (flat_map turn_line) is

-- what is told of it, where its line is
pub event_told : (span : LineSpan) (s : Setting) (before : History) (e : Entry) (n : ℕ) (facts : List Fact) (turn : Option Turn) → n ≡ next_line before
    → facts ≡ trace_of s before e → option_to_list turn ≡ turns s (event s before e) before
    → cond (is_within span n) (entry_text e ++ number_line (codes "  line") n ++ facts_text facts ++ turn_text turn) []
    ≡ cond (is_within span (next_line before)) (event_text s before e) []
unfolding event_text
event_told span s before e n facts turn line told made =
    let turned : turn_text turn ≡ flat_map turn_line (turns s (event s before e) before) = turn_told turn (turns s (event s before e) before) made in
    λ i. cond (is_within span (line i)) (entry_text e ++ number_line (codes "  line") (line i) ++ facts_text (told i) ++ turned i) []

-- its hart is one of the machine's, and one digit
pub its_place : (m : Seen) (e : Entry) → IsBlockRun m.setting m.log → IsDecided m e → e.hart.0 < m.setting.limits.harts
its_place m e run decided = (next_event m e (done_of (choice_of e) (here_of m e.hart.0)) run decided refl).lt

pub its_hart : (m : Seen) (e : Entry) → IsBlockRun m.setting m.log → IsDecided m e → InRange m.setting.limits → e.hart.0 < 8
its_hart m e run decided limits =
    let lt = its_place m e run decided in
    let most = limits.eight_harts in
    omega arith

-- an answer to a choice is what is decided
pub is_decided : (m : Seen) (h : ℕ) (c : Choice) (e : Entry) → decide m.setting (past_of m) h c ≡ Ok e → IsDecided m e
is_decided m h c e d =
    let of = decided_is m.setting (past_of m) h c e d in
    ap (λ k. decide m.setting (past_of m) k (choice_of e)) of.0 ∙ ap (decide m.setting (past_of m) h) of.1 ∙ d

-- the machine has made it
pub is_made : (m m' : Seen) (e : Entry) → IsDecided m e → m' ≡ record m { log = m.log ++ e ∷ [] } → IsBlockRun m'.setting m'.log → IsMadeBy m m' e
is_made m m' e decided longer run = record { decided = decided; longer = longer; block_run = run }

-- A LOG

-- before its first entry
pub told_at_start : (span : LineSpan) (m : Seen) (x : Followed) (text : List ℕ) → m.log ≡ [] → text ≡ [] → IsFollowed m x → IsTraced span m x text
told_at_start span m x text none empty followed = record {
  run = subst (λ (log : List Entry). IsBlockRun m.setting log) (sym none) (start_run m.setting);
  followed = followed;
  text = empty ∙ sym (ap (events_text span m.setting []) none);
}

-- what is told of an entry after a history, where its line is told
abbrev told_of : LineSpan → Setting → Entry → History → List ℕ
told_of span s e before = cond (is_within span (next_line before)) (event_text s before e) []

-- it stands behind what is told of the entries before it
one_more_from : (span : LineSpan) (s : Setting) (e : Entry) (before : History) (log : List Entry)
    → events_text span s before (log ++ e ∷ []) ≡ events_text span s before log ++ told_of span s e (fold (λ past x. event s past x ∷ past) before log)
one_more_from span s e before [] = append-nil (told_of span s e before)
one_more_from span s e before (x ∷ rest) =
    ap (λ (l : List ℕ). told_of span s x before ++ l) (one_more_from span s e (event s before x ∷ before) rest)
    ∙ sym (append_assoc (told_of span s x before) (events_text span s (event s before x ∷ before) rest) _)

one_more : (span : LineSpan) (s : Setting) (log : List Entry) (e : Entry)
    → events_text span s [] (log ++ e ∷ []) ≡ events_text span s [] log ++ told_of span s e (history s log)
unfolding history
one_more span s log e = one_more_from span s e [] log

-- with one entry more
pub told_longer : (span : LineSpan) (m m' : Seen) (e : Entry) (x x' : Followed) (text text' : List ℕ) → IsTraced span m x text
    → m' ≡ record m { log = m.log ++ e ∷ [] } → IsBlockRun m'.setting m'.log → IsFollowed m' x'
    → text' ≡ text ++ cond (is_within span (next_line (past_of m))) (event_text m.setting (past_of m) e) [] → IsTraced span m' x' text'
told_longer span m m' e x x' text text' was made run followed pushed = record {
  run = run;
  followed = followed;
  text = pushed ∙ ap (λ (l : List ℕ). l ++ told_of span m.setting e (past_of m)) was.text ∙ sym (one_more span m.setting m.log e)
      ∙ sym (ap (λ (z : Seen). events_text span z.setting [] z.log) made);
}

-- A LINE'S EVENT

-- what is seen ahead of the instruction that a line asks for
pub ahead_of_it : (m : Seen) (h : ℕ) (e : Entry) (ahead : Ahead) → e.hart.0 ≡ h → e.kind ≡ kind.Exec → IsAheadOf m h kind.Exec ahead → IsAhead m e ahead
ahead_of_it m h e ahead hart is seen =
    subst (λ n. IsAheadOf m n e.kind ahead) (sym hart) (subst (λ (k : Kind). IsAheadOf m h k ahead) (sym is) seen)

module _ (m m' : Seen) (line : Line) (facts facts' : List Fact) (made : Made) (free : IsFree m m' line facts facts' made) where
  answered : decide m.setting (past_of m) line.hart.0 line.choice ≡ Ok made.entry
  answered = ap (decide m.setting (past_of m) line.hart.0) free.choice ∙ free.made.answer

  -- it is as the line says, or isn't
  pub free_line : (lines : Lines) → facts ≡ [] → AreLinesOf m.setting.limits.harts (past_of m) lines → is_as_said line.check made.entry ≡ true
      → IsMadeLine m m' line [] facts' lines made
  free_line lines empty kept said = record {
    by_line = ap (checked line.check) answered ∙ ap (λ (b : Bool). let none : Option Entry = None in cond b (Some made.entry) none) said;
    made = is_made m m' made.entry free.made.decided free.made.machine free.made.run;
    lines = free.made.lines lines kept;
    ahead = free.ahead;
    told = free.made.told ∙ ap (λ (l : List Fact). l ++ trace_of m.setting (past_of m) made.entry) empty;
  }

  pub free_differs : is_as_said line.check made.entry ≡ false → line_fault m.setting m.log (Some (ask_of line)) ≡ Some (Differs made.entry)
  free_differs said =
      ap (decided_fault line.check) answered ∙ ap (λ (b : Bool). let none : Option LineFault = None in cond b none (Some (Differs made.entry))) said

-- it was made, and is to be followed
pub next_of_line : (m m' : Seen) (line : Line) (facts facts' : List Fact) (made : Made) (x : Followed) → IsBlockRun m.setting m.log → IsFollowing m (kept_in x.ledger)
    → IsMadeLine m m' line [] facts x.lines made → facts' ≡ facts → IsMadeNext m m' x made facts'
next_of_line m m' line facts facts' made x run follows by same = record {
  made = by.made;
  run = run;
  lines = by.lines;
  sequences = follows;
  ahead = by.ahead;
  told = same ∙ by.told;
}
