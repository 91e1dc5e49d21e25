-- What is seen of an event are its facts.
use Rattle.std.proofs.Common.{◌≡◌, ℕ, [], ◌∷◌, ◌++◌, length, refl, sym, ap, ◌∙◌, Bool, true, false, cond, not, ◌&&◌, Option, Some, None, is_none, is_some}
use Rattle.std.specs.Option.{option_and_then, option_map, option_map_or}
use Rattle.std.specs.Prelude.{IfSome, unwrap_or}
use Rattle.mach_types.specs.Events.{choice_of, is_instruction}
use Rattle.mach_types.specs.Kernel.Areas.{is_inside_named}
use Rattle.mach_types.specs.Kernel.Threads.{running_on}
use Rattle.mach_types.specs.declared.events.Entry.{Entry}
use Rattle.mach_types.specs.declared.sequences.Area.{Area}
use Rattle.mach_types.specs.declared.sequences.Named.TheVariants as names
use Rattle.rseq_area.specs.Lookups.{looked_at}
use Rattle.rseq_area.specs.declared.lookups.Lookups.{Lookups}
use Rattle.process.specs.Sequences.{looked_at_on, named_on}
use Rattle.block_model.specs.Acts.{is_taken_in}
use Rattle.block_model.specs.Deciding.{done, event, history}
use Rattle.block_model.specs.Events.{done_of}
use Rattle.block_model.specs.Footprints.{bytes_of_all}
use Rattle.block_model.specs.Here.{Here, runs, view}
use Rattle.block_model.specs.History.{Event, file}
use Rattle.block_model.specs.PlainEvents.{footprint, is_plain, no_bytes, reserved_of}
use Rattle.block_model.specs.Record.{Kernel}
use Rattle.block_model.specs.Sequences.{area_here, named_here}
use Rattle.block_model.specs.Setting.{Seen}
use Rattle.block_model.specs.Sights.{thread}
use Rattle.block_view.specs.Ledgers.{begins, is_more}
use Rattle.block_view.specs.Passing.{IsMadeAgain, passed_of, pc_at}
use Rattle.block_view.specs.declared.passing.Passed.{Passed}
use Rattle.block_view.proofs.Laws.{begins_as, more_as, seen_inside}
use Rattle.log_gather.specs.declared.accesses.Access.{Access}
use Rattle.log_gather.specs.declared.accesses.TheConstants.{NO_ACCESS}
use Rattle.log_gather.specs.declared.passing.Before.{Before}
use Rattle.log_gather.specs.declared.steps.Step.{Step}
use Rattle.log_gather.specs.Accesses.{IsAccess, bytes_in}
use Rattle.log_gather.specs.Facts.{facts_in, inside_on, looked_on, moves_out_on, touched_by, with_files, within_by}
use Rattle.log_gather.specs.Lookups.{bytes_looked_at, looked_over}
use Rattle.log_gather.specs.Passing.{IsReadBefore, here_on, reserved_on}
use Rattle.log_gather.specs.Steps.{facts_seen, footprint_seen, reserved_in}
use Rattle.log_gather.proofs.LeftSequences.{quiet}

-- WHAT IS READ BEFORE AN EVENT

looked_by : (here : Here) (o : Option Area) → option_map_or bytes_looked_at (option_map (looked_at (view here)) o) [] ≡ option_map_or (looked_over (view here)) o []
looked_by here None = refl
looked_by here (Some area) = refl

-- the check looks at the bytes that are read
looks_at : (here : Here) → option_map_or bytes_looked_at (looked_at_on here) [] ≡ looked_on here (runs here)
looks_at here = go (runs here)
  where
    go : (o : Option ℕ) → option_map_or bytes_looked_at (option_map (looked_at (view here)) (option_and_then (area_here here) o)) [] ≡ looked_on here o
    go None = refl
    go (Some t) = looked_by here (area_here here t)

-- what an event touches, where it has this access or isn't plain
pub record IsTouched (m : Seen) (e : Entry) (plain : Bool) (a : Access) (looks : Option Lookups) : Type 0 where
  pub touched : footprint_seen a looks ≡ cond plain (touched_by (choice_of e) (here_on m e.hart.0)) no_bytes
  pub reserves : a.reserves ≡ cond plain (reserved_of (choice_of e) (here_on m e.hart.0)) None
  pub entered : bytes_in a.entered ≡ cond plain (bytes_of_all (done_of (choice_of e) (here_on m e.hart.0)).entered) []

pub touches : (m : Seen) (e : Entry) (o : Option Access) → IfSome o (IsAccess (choice_of e) (here_on m e.hart.0))
    → IsTouched m e (is_some o) (unwrap_or o NO_ACCESS) (cond (is_some o) (looked_at_on (here_on m e.hart.0)) None)
touches m e None is = record { touched = refl; reserves = refl; entered = refl }
touches m e (Some a) is =
    let here = here_on m e.hart.0 in
    let reads : bytes_in a.reads ++ option_map_or bytes_looked_at (looked_at_on here) [] ≡ (footprint (choice_of e) here).reads ++ looked_on here (runs here) =
    ap (λ l. l ++ option_map_or bytes_looked_at (looked_at_on here) []) is.reads ∙ ap (λ l. (footprint (choice_of e) here).reads ++ l) (looks_at here) in
    record {
      touched = λ i. record { reads = reads i; writes = is.writes i };
      reserves = is.reserves;
      entered = is.entered;
    }

idle_on : (o : Option ℕ) → not (is_some (option_map thread o)) ≡ is_none o
idle_on None = refl
idle_on (Some t) = refl

pub read_before : (m : Seen) (e : Entry) (o : Option Access) (x : Before) → IfSome o (IsAccess (choice_of e) (here_on m e.hart.0))
    → is_some o ≡ is_plain (choice_of e) (here_on m e.hart.0) → x.plain ≡ is_some o → x.access ≡ unwrap_or o NO_ACCESS
    → x.looked_at ≡ cond x.plain (looked_at_on (here_on m e.hart.0)) None → x.named ≡ named_on (here_on m e.hart.0)
    → x.idle ≡ not (is_some (option_map thread (runs (here_on m e.hart.0)))) → ((k : ℕ) → reserved_in x.reserved k ≡ reserved_on m k) → length x.reserved ≡ 8 → IsReadBefore m e x
read_before m e o x is plain_is plain access looks named idle reserved eight =
    let here = here_on m e.hart.0 in
    let t = touches m e o is in
    record {
      plain = plain ∙ plain_is;
      touched =
          ap (λ a. footprint_seen a x.looked_at) access
          ∙ ap (footprint_seen (unwrap_or o NO_ACCESS)) (looks ∙ ap (λ b. cond b (looked_at_on here) None) plain)
          ∙ t.touched
          ∙ ap (λ b. cond b (touched_by (choice_of e) here) no_bytes) (sym plain);
      reserves = ap (λ (a : Access). a.reserves) access ∙ t.reserves ∙ ap (λ b. cond b (reserved_of (choice_of e) here) None) (sym plain);
      entered = ap (λ (a : Access). bytes_in a.entered) access ∙ t.entered
          ∙ ap (λ b. cond b (bytes_of_all (done_of (choice_of e) here).entered) []) (sym plain);
      named = named;
      idle = idle ∙ idle_on (runs here);
      reserved = reserved;
      eight = eight;
    }

-- WHAT IS SEEN OF AN EVENT

-- whether it is of a sequence
pub within_as : (m m' : Seen) (e : Entry) (p : Passed) (was : Bool) → IsMadeAgain m m' e p → cond was (is_more p) (begins p) ≡ (facts_in (here_on m e.hart.0) was e).within
unfolding done
within_as m m' e p was again =
    let before = history m.setting m.log in
    let newest = event m.setting before e in
    ap (λ (x : Passed). cond was (is_more x) (begins x)) again.seen
    ∙ ap (λ b. cond was b (begins (passed_of m.setting newest before))) (more_as m.setting newest before)
    ∙ ap (λ b. cond was (inside_on (here_on m e.hart.0) (runs (here_on m e.hart.0)) && is_taken_in e.kind (done_of (choice_of e) (here_on m e.hart.0)).interrupted) b)
    (begins_as m.setting newest before)
    ∙ go was
  where
    go : (b : Bool) → cond b (inside_on (here_on m e.hart.0) (runs (here_on m e.hart.0)) && is_taken_in e.kind (done_of (choice_of e) (here_on m e.hart.0)).interrupted)
        (inside_on (here_on m e.hart.0) (runs (here_on m e.hart.0)) && is_instruction e.kind)
        ≡ within_by (inside_on (here_on m e.hart.0) (runs (here_on m e.hart.0))) b e (done_of (choice_of e) (here_on m e.hart.0)).interrupted
    go true = refl
    go false = refl

-- whether its thread is inside before it
pub inside_as : (m m' : Seen) (e : Entry) (p : Passed) → IsMadeAgain m m' e p → is_some p.inside ≡ inside_on (here_on m e.hart.0) (runs (here_on m e.hart.0))
unfolding passed_of
inside_as m m' e p again = ap (λ (x : Passed). is_some x.inside) again.seen ∙ seen_inside m.setting e.hart.0 (history m.setting m.log)

pc_as : (m m' : Seen) (e : Entry) (p : Passed) → IsMadeAgain m m' e p → p.pc ≡ pc_at m.setting e.hart.0 (event m.setting (history m.setting m.log) e ∷ history m.setting m.log)
unfolding passed_of
pc_as m m' e p again = ap (λ (x : Passed). x.pc) again.seen

entry_as : (m m' : Seen) (e : Entry) (p : Passed) → IsMadeAgain m m' e p → p.entry ≡ e
unfolding passed_of
entry_as m m' e p again = ap (λ (x : Passed). x.entry) again.seen

-- whether it is plain and moves the pc out
module _ (m m' : Seen) (e : Entry) (x : Before) (p : Passed) (read : IsReadBefore m e x) (again : IsMadeAgain m m' e p) where
  abbrev here : Here
  here = here_on m e.hart.0

  abbrev newest : Event
  newest = event m.setting (history m.setting m.log) e

  abbrev moved_to : Option ℕ → ℕ
  moved_to o = option_map_or (λ t. (file m.setting t (newest ∷ history m.setting m.log)).pc) o 0

  by_runs : (o : Option ℕ) → (not (is_none o) && not (is_inside_named (option_map_or (named_here here) o names.Nothing) (moved_to o)))
      ≡ moves_out_on here (with_files (done_of (choice_of e) here).files here) o
  unfolding done
  by_runs None = refl
  by_runs (Some t) = refl

  moved_pc : is_plain (choice_of e) here ≡ true → p.pc ≡ moved_to (runs here)
  moved_pc plain =
      pc_as m m' e p again
      ∙ ap (λ (k : Kernel). moved_to (running_on e.hart.0 k.threads)) (quiet m.setting (history m.setting m.log) e plain).same

  by_plain : (b : Bool) → x.plain ≡ b → (b && (not x.idle && not (is_inside_named x.named p.pc))) ≡ (b && moves_out_on here (with_files (done_of (choice_of e) here).files here) (runs here))
  by_plain false is = refl
  by_plain true is =
      ap (λ b. not b && not (is_inside_named x.named p.pc)) read.idle
      ∙ ap (λ n. not (is_none (runs here)) && not (is_inside_named n p.pc)) read.named
      ∙ ap (λ n. not (is_none (runs here)) && not (is_inside_named (named_on here) n)) (moved_pc (sym read.plain ∙ is))
      ∙ by_runs (runs here)

  moves_as : (x.plain && (not x.idle && not (is_inside_named x.named p.pc))) ≡ (is_plain (choice_of e) here && moves_out_on here (with_files (done_of (choice_of e) here).files here) (runs here))
  moves_as = by_plain x.plain refl ∙ ap (λ b. b && moves_out_on here (with_files (done_of (choice_of e) here).files here) (runs here)) read.plain

  pub facts_as : (was inside within begun : Bool) (y : Step) → inside ≡ is_some p.inside → within ≡ cond was (is_more p) (begins p)
      → y ≡ record {
        entry = p.entry;
        plain = x.plain;
        inside = inside;
        within = within;
        begins = within && not was;
        moves_out = x.plain && (not x.idle && not (is_inside_named x.named p.pc));
        access = x.access;
        looked_at = x.looked_at;
        reserved = x.reserved;
        awaits = begun;
      }
      → facts_seen y ≡ facts_in here was e
  facts_as was inside within begun y inside_is within_is is =
      let entry_is = entry_as m m' e p again in
      let seen_within = within_is ∙ within_as m m' e p was again in
      let seen = inside_is ∙ inside_as m m' e p again in
      let touched_is = read.touched ∙ ap (λ b. cond b (touched_by (choice_of e) here) no_bytes) read.plain in
      let reserves_is = read.reserves ∙ ap (λ b. cond b (reserved_of (choice_of e) here) None) read.plain in
      let entered_is = read.entered ∙ ap (λ b. cond b (bytes_of_all (done_of (choice_of e) here).entered) []) read.plain in
      ap facts_seen is
      ∙ (λ i. record {
        entry = entry_is i;
        plain = read.plain i;
        inside = seen i;
        within = seen_within i;
        begins = seen_within i && not was;
        moves_out = moves_as i;
        touched = touched_is i;
        reserves = reserves_is i;
        entered = entered_is i;
      })
