-- What a log that is a pair run says of its entries.
use Rattle.std.proofs.Common.{◌≡◌, ℕ, ◌<◌, ◌≤◌, All, List, [], ◌∷◌, Ok, arith}
use Rattle.std.proofs.lemmas.Bool.{leb-false}
use Rattle.std.proofs.lemmas.List.Elements.{All-from_recursion}
use Rattle.std.specs.Prelude.{fold}
use Rattle.std.specs.List.{AllByRecursion}
use Rattle.mach_types.specs.Events.{choice_of}
use Rattle.mach_types.specs.declared.events.Choice.{Choice}
use Rattle.mach_types.specs.declared.events.Entry.{Entry}
use Rattle.shared_procs.specs.Pairs.{Pair, PairSetting}
use Rattle.shared_procs.specs.PairRuns.{IsPairRun, IsPairRunHistory, PairHistory, event_two, pair_after, pair_decide}
use Rattle.shared_procs.specs.PairRuns.{pair_history}
use Rattle.shared_procs.proofs.Laws.{decided_two}

-- a history with the entries of a log behind it
abbrev pub on : PairSetting → PairHistory → List Entry → PairHistory
on s h log = fold (λ before e. event_two s before e ∷ before) h log

-- where a log is a pair run, what it began with is
begun : (s : PairSetting) (h : PairHistory) (log : List Entry) → IsPairRunHistory s (on s h log) → IsPairRunHistory s h
begun s h [] run = run
begun s h (e ∷ log) run = (begun s (event_two s h e ∷ h) log run).0

-- and its next entry is the one that is decided there
pub decided : (s : PairSetting) (h : PairHistory) (e : Entry) (log : List Entry) → IsPairRunHistory s (on s h (e ∷ log))
    → pair_decide s (pair_after s h) e.hart.0 (choice_of e) ≡ Ok e
decided s h e log run = (begun s (event_two s h e ∷ h) log run).1

-- its hart is one of the machine's
hart_within : (s : PairSetting) (m : Pair) (h : ℕ) (c : Choice) (e : Entry) → pair_decide s m h c ≡ Ok e → h < s.limits.harts
hart_within s m h c e is = leb-false s.limits.harts h (decided_two s m h c e is).hart

digits_on : (s : PairSetting) (h : PairHistory) (log : List Entry) → s.limits.harts ≤ 8 → IsPairRunHistory s (on s h log)
    → AllByRecursion (λ (e : Entry). e.hart.0 < 8) log
digits_on s h [] eight run = tt
digits_on s h (e ∷ log) eight run =
    let within = hart_within s (pair_after s h) e.hart.0 (choice_of e) e (decided s h e log run) in
    (omega (arith, within, eight), digits_on s (event_two s h e ∷ h) log eight run)

-- so each hart in it is a digit
pub pair_digits : (s : PairSetting) (log : List Entry) → s.limits.harts ≤ 8 → IsPairRun s log
    → All (λ (e : Entry). e.hart.0 < 8) log
unfolding pair_history
pair_digits s log eight run = All-from_recursion (λ (e : Entry). e.hart.0 < 8) log (digits_on s [] log eight run)
