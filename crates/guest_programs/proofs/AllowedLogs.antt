-- Tests that find that a log is a block run, by computation: each entry is the one that is decided at its place. Each
-- event is computed once, where a script that is played computes a place anew for each of its lines.
use Rattle.std.proofs.Common.{◌≡◌, List, [], ◌∷◌, refl, ap, Bool, true, false, ◌&&◌, eqb, Result, Ok, Err, fold}
use Rattle.std.proofs.lemmas.Bool.{and_parts, eqb-true, false≢true}
use Rattle.mach_types.specs.Events.{choice_of, is_kind}
use Rattle.mach_types.proofs.Laws.{kind_is}
use Rattle.mach_types.specs.declared.events.Entry.{Entry}
use Rattle.block_model.specs.Deciding.{decide, event, history}
use Rattle.block_model.specs.declared.refusals.Refused.{Refused}
use Rattle.block_model.specs.History.{History}
use Rattle.block_model.specs.Run.{IsBlockRun, IsRunHistory}
use Rattle.block_model.specs.Setting.{Setting}
use Rattle.block_model.proofs.Laws.{block_run}

-- two entries that are the same
abbrev is_entry : Entry → Entry → Bool
is_entry x y = eqb x.hart.0 y.hart.0 && (is_kind x.kind y.kind && (eqb x.tid.0 y.tid.0 && eqb x.pc y.pc))

entry_is : (x y : Entry) → is_entry x y ≡ true → x ≡ y
entry_is x y is =
    let one = and_parts (eqb x.hart.0 y.hart.0) _ is in
    let two = and_parts (is_kind x.kind y.kind) _ one.1 in
    let three = and_parts (eqb x.tid.0 y.tid.0) (eqb x.pc y.pc) two.1 in
    let hart = eqb-true x.hart.0 y.hart.0 one.0 in
    let same = kind_is x.kind y.kind two.0 in
    let thread = eqb-true x.tid.0 y.tid.0 three.0 in
    let place = eqb-true x.pc y.pc three.1 in
    λ i. record { hart = record { 0 = hart i }; kind = same i; tid = record { 0 = thread i }; pc = place i }

-- what is decided is this entry
abbrev is_decided : Entry → Result Entry Refused → Bool
is_decided e (Ok x) = is_entry x e
is_decided e (Err why) = false

decided_is : (e : Entry) (r : Result Entry Refused) → is_decided e r ≡ true → r ≡ Ok e
decided_is e (Ok x) is = ap Ok (entry_is x e is)
decided_is e (Err why) is = absurd (false≢true is)

abbrev pub all_decided : Setting → History → Bool
all_decided s [] = true
all_decided s (e ∷ before) =
    all_decided s before && is_decided e.entry (decide s before e.entry.hart.0 (choice_of e.entry))

-- each event of a history is that of its entry
abbrev AreEvents : Setting → History → Type 0
AreEvents s [] = Unit {0}
AreEvents s (e ∷ before) = AreEvents s before × (e ≡ event s before e.entry)

events_are : (s : Setting) (log : List Entry) (past : History) → AreEvents s past
    → AreEvents s (fold (λ before entry. event s before entry ∷ before) past log)
events_are s [] past are = are
events_are s (x ∷ rest) past are = events_are s rest (event s past x ∷ past) (are, refl)

allowed_so : (s : Setting) (past : History) → AreEvents s past → all_decided s past ≡ true → IsRunHistory s past
allowed_so s [] are is = tt
allowed_so s (e ∷ before) are is =
    let parts = and_parts (all_decided s before) _ is in (
      allowed_so s before are.0 parts.0,
      decided_is e.entry (decide s before e.entry.hart.0 (choice_of e.entry)) parts.1,
      are.1,
    )

pub run_found : (s : Setting) (log : List Entry) → all_decided s (history s log) ≡ true → IsBlockRun s log
unfolding history
run_found s log is = block_run s log (allowed_so s (history s log) (events_are s log [] tt) is)
