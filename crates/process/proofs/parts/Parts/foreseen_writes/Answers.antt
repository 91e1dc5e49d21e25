-- What the kernel will write.
use Rattle.process.proofs.Common.{◌≡◌, None, List, IsPlace, Stand, ◌++◌, false, rules, sym, ap, ◌∙◌, Some, option_and_then, list_any, lowest_cid, words_on, writes_of, Choice, thread_in, words_to, Write, area_here, done_of, harts_that, here_at, holds, refusal_of, runs, foreseen_writes, area_on}
use Rattle.process.proofs.ConcurrencyIds.{held_here}
use Rattle.process.proofs.Interruptions.{clearing}
use Rattle.process.proofs.KernelWrites.{IsForeseen, comes_there, foreseen_there, is_followed, killed_foreseen, nothing_foreseen, run_foreseen, take_foreseen}
use Rattle.process.proofs.Places.{writable_at}
use Rattle.process.proofs.RunEvent.{some_free}
use Rattle.process.proofs.parts.Parts.foreseen_writes.Goals as goal
use Rattle.process.proofs.parts.Parts.foreseen_writes.Goals.{After-area_of-area}

-- who is interrupted
there : (c : After-area_of-area) (v : Stand) → IsPlace v c.args.self.now c.args.hart.0 → refusal_of c.args.choice (here_at v c.args.hart.0) ≡ None
    → IsForeseen c.args.choice (here_at v c.args.hart.0) c.area_of-area.result c.in-Some.outcome
there c v place free =
    foreseen_there v c.args.self.now c.args.hart c.args.choice place free c.in-Some.outcome (sym c.in-Some.is ∙ c.foreseen.ensures v place free)
    c.entry-entry.result (c.entry-entry.ensures v place) c.area_of-area.result c.area_of-area.ensures

pub returns-in_default : goal.returns-in_default
returns-in_default c v place free =
    c.new.ensures ∙ nothing_foreseen c.args.choice (here_at v c.args.hart.0) free (sym c.in_default.is ∙ c.foreseen.ensures v place free)

pub pointer_writes-cleared-requires : goal.pointer_writes-cleared-requires
pointer_writes-cleared-requires c =
    let is = there (goal.at.pointer_writes-cleared-requires c).After-area_of-area c.requires.stand c.requires.place c.requires.free in
    (clearing c.args.self.now.pages c.area_of-area.result ((here_at c.requires.stand c.args.hart.0).file is.thread).pc c.in-Some.outcome
    (comes_there c.requires.stand c.args.self.now c.args.hart c.args.choice c.requires.place c.area_of-area.result c.in-Some.outcome is)).fits

pub returns-then-is_killed : goal.returns-then-is_killed
returns-then-is_killed c v place free =
    let is = there (goal.at.returns-then-is_killed c).After-area_of-area v place free in
    c.pointer_writes-cleared.ensures.written
    ∙ killed_foreseen c.args.choice (here_at v c.args.hart.0) c.area_of-area.result c.in-Some.outcome free is
    (sym c.in-Some.is ∙ c.foreseen.ensures v place free) (sym c.is_killed.ensures ∙ c.if-is_killed.true)

pub with_words-requires-clause-id : goal.with_words-requires-clause-id
with_words-requires-clause-id c =
    let here = here_at c.requires.stand c.args.hart.0 in
    some_free c.requires.stand c.args.self.now c.args.hart c.in-Run.field-0 c.requires.place (ap (λ (k : Choice). refusal_of k here) (sym c.in-Run.is) ∙ c.requires.free)

pub returns-in-Run : goal.returns-in-Run
returns-in-Run c v place free =
    let m = c.args.self.now in
    let h = c.args.hart in
    let here = here_at v h.0 in
    let o = c.in-Some.outcome in
    let area = c.area_of-area.result in
    c.with_words.ensures here (sym (writable_at v m h.0 place))
    ∙ ap (λ (ws : List Write). ws ++ words_to here area (words_on h.0 (lowest_cid (harts_that (λ id. list_any (holds id) m.harts.items) 8)))) c.pointer_writes-cleared.ensures.written
    ∙ ap (λ n. writes_of area o ++ words_to here area (words_on h.0 n)) (ap lowest_cid (held_here v m h.0 place))
    ∙ run_foreseen c.args.choice here c.in-Run.field-0 area o c.in-Run.is (there (goal.at.returns-in-Run c).After-area_of-area v place free) (sym c.is_killed.ensures ∙ c.if-is_killed.false)

pub with_frame-requires-clause-allowed : goal.with_frame-requires-clause-allowed
with_frame-requires-clause-allowed c = record {
  stand = c.requires.stand;
  place = c.requires.place;
  free = ap (λ (k : Choice). refusal_of k (here_at c.requires.stand c.args.hart.0)) (sym c.in-Signal.is) ∙ c.requires.free;
}

pub returns-in-Signal : goal.returns-in-Signal
returns-in-Signal c v place free =
    let here = here_at v c.args.hart.0 in
    let is = there (goal.at.returns-in-Signal c).After-area_of-area v place free in
    let runs_it : runs here ≡ Some is.thread = ap (λ (k : Choice). thread_in k here) (sym c.in-Signal.is) ∙ is.at in
    let has : c.area_of-area.result ≡ area_on here = is.has ∙ sym (ap (option_and_then (area_here here)) runs_it) in
    c.with_frame.ensures v place (ap (λ (k : Choice). refusal_of k here) (sym c.in-Signal.is) ∙ free)
    (ap (λ (k : Choice). (done_of k here).interrupted) (sym c.in-Signal.is) ∙ sym (sym c.in-Some.is ∙ c.foreseen.ensures v place free))
    (sym c.is_killed.ensures ∙ c.if-is_killed.false) (c.pointer_writes-cleared.ensures.written ∙ ap (λ a. writes_of a c.in-Some.outcome) has)
    ∙ sym (ap (λ (k : Choice). foreseen_writes k here) c.in-Signal.is)

pub returns-in-Exec : goal.returns-in-Exec
returns-in-Exec c v place free =
    let alone : is_followed c.args.choice ≡ false = search rules in
    c.pointer_writes-cleared.ensures.written
    ∙ take_foreseen c.args.choice (here_at v c.args.hart.0) c.area_of-area.result c.in-Some.outcome free
    (there (goal.at.returns-in-Exec c).After-area_of-area v place free) (sym c.in-Some.is ∙ c.foreseen.ensures v place free) alone
