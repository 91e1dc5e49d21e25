-- A history that is a run is the history of a block run: so what is known of block runs is known of it.
use Rattle.std.proofs.Common.{◌≡◌, List, [], ◌∷◌, ◌++◌, append_assoc, append-nil, fold, length, length-append, None, refl, sym, ap, ◌∙◌, subst, arith}
use Rattle.mach_types.specs.Events.{choice_of}
use Rattle.mach_types.specs.declared.events.Entry.{Entry}
use Rattle.block_model.specs.Deciding.{decide, entry_in, event, history}
use Rattle.block_model.specs.Events.{done_of, refusal_of}
use Rattle.block_model.specs.Here.{Here}
use Rattle.block_model.specs.History.{Event, History, here_in_history}
use Rattle.block_model.specs.Plain.{here_of}
use Rattle.block_model.specs.Run.{IsBlockRun, IsRunHistory}
use Rattle.block_model.specs.Setting.{Seen, Setting}
use Rattle.block_model.specs.Whole.{IsWholeHistory, IsWholePlace}
use Rattle.block_model.proofs.Laws.{IsGoodHere, block_run, history-append, history-nil, next_event, same_here}

-- the entries of a history, the oldest first
abbrev pub entries : History → List Entry
entries [] = []
entries (e ∷ before) = entries before ++ e.entry ∷ []

-- a run is the history of its entries
pub history_of_entries : (s : Setting) (before : History) → IsRunHistory s before → history s (entries before) ≡ before
history_of_entries s [] run = history-nil s
history_of_entries s (e ∷ before) run =
    history-append s (entries before) e.entry
    ∙ ap (λ (events : History). event s events e.entry ∷ events) (history_of_entries s before run.0)
    ∙ ap (λ (x : Event). x ∷ before) (sym run.2)

-- which are a block run
pub is_block_run : (s : Setting) (before : History) → IsRunHistory s before → IsBlockRun s (entries before)
is_block_run s before run = block_run s (entries before) (subst (IsRunHistory s) (sym (history_of_entries s before run)) run)

-- each place of it is whole
place_of : (s : Setting) (before : History) → IsWholeHistory s before → IsWholePlace s before
place_of s [] whole = whole
place_of s (e ∷ before) whole = whole.1.place

pub whole_place : (s : Setting) (before : History) → IsRunHistory s before → IsWholePlace s before
whole_place s before run =
    place_of s before (subst (IsWholeHistory s) (history_of_entries s before run) (is_block_run s before run).whole)

-- its newest event is one that is allowed: it is the entry of its choice, no condition failed, and the place before it is good
pub record IsAllowedAt (here : Here) (entry : Entry) : Type 0 where
  pub is : entry ≡ entry_in (choice_of entry) here
  pub free : refusal_of (choice_of entry) here ≡ None
  pub good : IsGoodHere here

-- so it is for each event of a run
pub allowed_at : (s : Setting) (e : Event) (before : History) → IsRunHistory s (e ∷ before)
    → IsAllowedAt (here_in_history s before e.entry.hart.0) e.entry
allowed_at s e before run =
    let v : Seen = record { setting = s; seed = 0; log = entries before } in
    let same = history_of_entries s before run.0 in
    let block = is_block_run s before run.0 in
    let decided = ap (λ events. decide s events e.entry.hart.0 (choice_of e.entry)) same ∙ run.1 in
    let next = next_event v e.entry (done_of (choice_of e.entry) (here_of v e.entry.hart.0)) block decided refl in
    let here = same_here v e.entry.hart.0 block ∙ ap (λ events. here_in_history s events e.entry.hart.0) same in
    subst (λ (place : Here). IsAllowedAt place e.entry) here (record { is = next.is; free = next.free; good = next.good })

-- the entries of the history of a log are the log
entries_with : (s : Setting) (log : List Entry) (before : History)
    → entries (fold (λ events entry. event s events entry ∷ events) before log) ≡ entries before ++ log
entries_with s [] before = sym (append-nil (entries before))
entries_with s (entry ∷ log) before = entries_with s log (event s before entry ∷ before) ∙ append_assoc (entries before) (entry ∷ []) log

-- so it is from an empty log on
pub entries_of_history : (s : Setting) (log : List Entry) → entries (history s log) ≡ log
unfolding history
entries_of_history s log = entries_with s log []

-- as many entries as events
pub length_entries : (before : History) → length (entries before) ≡ length before
length_entries [] = refl
length_entries (e ∷ before) = length-append (entries before) (e.entry ∷ []) ∙ let rest = length_entries before in omega arith
