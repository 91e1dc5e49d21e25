-- Gathered logs by the events alone: the span of each sequence is found by the facts of the events, and no act is looked at (own).
use Rattle.std.specs.Prelude.{ℕ, zero, suc, ◌+◌, ◌==◌, ◌&&◌, ◌||◌, Bool, true, false, not, List, [], ◌∷◌, ◌++◌, fold, map, if◌then◌else◌}
use Rattle.mach_types.specs.Events.{is_instruction}
use Rattle.mach_types.specs.declared.events.Entry.{Entry}
use Rattle.block_model.specs.Here.{runs}
use Rattle.block_model.specs.Plain.{here_in_plain}
use Rattle.block_model.specs.Setting.{Setting}
use Rattle.log_gather.specs.Facts.{Facts, Place, first_place, inside_on, is_of, place_after}
use Rattle.log_gather.specs.LogEvents.{LogEvent, Name, entry_of, facts_of, is_own, is_undisturbed, log_events, others_of, own_of}

-- whether the thread on hart h is inside at a place
abbrev pub is_inside_at_place : Setting → Place → ℕ → Bool
is_inside_at_place s p h = let here = here_in_plain s p.machine h in inside_on here (runs here)

-- ACTS

-- an event begins an act of its hart, but where it is of a sequence that began before
abbrev pub begins_act : Facts → Bool
begins_act t = not t.within || t.begins

abbrev pub begins_own : ℕ → Facts → Bool
begins_own h t = is_of h t.entry && begins_act t

-- what comes before act n of hart h, counted from 0, and what comes from its first event on; of a list with these facts
abbrev pub before_act : {A : Type 0} → (A → Facts) → ℕ → ℕ → List A → List A
before_act f h n [] = []
before_act f h zero (x ∷ xs) = if begins_own h (f x) then [] else x ∷ before_act f h zero xs
before_act f h (suc n) (x ∷ xs) = x ∷ (if begins_own h (f x) then before_act f h n xs else before_act f h (suc n) xs)

abbrev pub from_act : {A : Type 0} → (A → Facts) → ℕ → ℕ → List A → List A
from_act f h n [] = []
from_act f h zero (x ∷ xs) = if begins_own h (f x) then x ∷ xs else from_act f h zero xs
from_act f h (suc n) (x ∷ xs) = if begins_own h (f x) then from_act f h n xs else from_act f h (suc n) xs

-- whether an act of hart h goes on in what follows: the hart's next event begins none
abbrev pub goes_on : {A : Type 0} → (A → Facts) → ℕ → List A → Bool
goes_on f h [] = false
goes_on f h (x ∷ xs) = if is_of h (f x).entry then not (begins_act (f x)) else goes_on f h xs

-- up to its last event, and what follows that
abbrev pub rest_of_act : {A : Type 0} → (A → Facts) → ℕ → List A → List A
rest_of_act f h [] = []
rest_of_act f h (x ∷ xs) = if goes_on f h (x ∷ xs) then x ∷ rest_of_act f h xs else []

abbrev pub after_act : {A : Type 0} → (A → Facts) → ℕ → List A → List A
after_act f h [] = []
after_act f h (x ∷ xs) = if goes_on f h (x ∷ xs) then after_act f h xs else x ∷ xs

-- the span of an act, from its first event to its last, and what follows it
abbrev pub span_from : {A : Type 0} → (A → Facts) → ℕ → List A → List A
span_from f h [] = []
span_from f h (x ∷ xs) = x ∷ rest_of_act f h xs

abbrev pub after_from : {A : Type 0} → (A → Facts) → ℕ → List A → List A
after_from f h [] = []
after_from f h (x ∷ xs) = after_act f h xs

-- PRIVATE SEQUENCES

-- the act of a span is a sequence
abbrev pub is_sequence : List LogEvent → Bool
is_sequence [] = false
is_sequence (x ∷ xs) = x.facts.begins

-- its last instruction moved the pc out of what was named before it
abbrev pub has_moved_out : ℕ → List LogEvent → Bool
has_moved_out h span =
    fold (λ was x. if is_own h x && is_instruction (entry_of x).kind then x.facts.moves_out else was) false span

-- whether the thread is inside before the hart's next event, or at the end of the log
abbrev pub is_inside_next : ℕ → Bool → List LogEvent → Bool
is_inside_next h at_end [] = at_end
is_inside_next h at_end (x ∷ xs) = if is_own h x then x.facts.inside else is_inside_next h at_end xs

-- and it ended by leaving its range. So ended a sequence of plain events whose last instruction moved the pc out, where the thread isn't
-- inside before the hart's next event
abbrev pub is_private : ℕ → Bool → List LogEvent → List LogEvent → Bool
is_private h at_end span later =
    is_sequence span && (has_moved_out h span && (not (is_inside_next h at_end later) && is_undisturbed h span))

-- THE GATHERED LOG

abbrev pub gathered_if : Bool → ℕ → List LogEvent → List LogEvent
gathered_if private h span = if private then others_of h span ++ own_of h span else span

abbrev pub gathered_in : Bool → Name → List LogEvent → List LogEvent
gathered_in at_end x all =
    let from = from_act facts_of x.hart x.number all in
    let span = span_from facts_of x.hart from in
    let later = after_from facts_of x.hart from in
    before_act facts_of x.hart x.number all ++ (gathered_if (is_private x.hart at_end span later) x.hart span ++ later)

-- a log in which one sequence is gathered, if it is private there
unfoldable pub gather_span : Setting → List Entry → Name → List Entry
gather_span s log x = map entry_of (gathered_in (is_inside_at_place s (place_after s log) x.hart) x (log_events s (first_place s) log))

-- the sequences of a log in the order of their first entries, where so many acts of each hart came before
abbrev pub names_from : (ℕ → ℕ) → List LogEvent → List Name
names_from acts [] = []
names_from acts (x ∷ xs) =
    let h = (entry_of x).hart.0 in
    let rest = names_from (λ k. if (h == k) && begins_act x.facts then acts k + 1 else acts k) xs in
    if x.facts.begins then record { hart = h; number = acts h } ∷ rest else rest

abbrev pub names_of : Setting → List Entry → List Name
names_of s log = names_from (λ k. 0) (log_events s (first_place s) log)

-- the gathered log
unfoldable pub gathered_by_spans : Setting → List Entry → List Entry
gathered_by_spans s log = fold (gather_span s) log (names_of s log)

-- CONTIGUOUS

-- an act of hart h goes on in what follows with events of the hart alone, up to its last
abbrev pub is_unbroken : {A : Type 0} → (A → Facts) → ℕ → List A → Bool
is_unbroken f h [] = true
is_unbroken f h (x ∷ xs) = if goes_on f h (x ∷ xs) then is_of h (f x).entry && is_unbroken f h xs else true

abbrev pub is_unbroken_from : {A : Type 0} → (A → Facts) → ℕ → List A → Bool
is_unbroken_from f h [] = true
is_unbroken_from f h (x ∷ xs) = is_unbroken f h xs

-- from the first event of act n of hart h to its last there is none of another hart
abbrev pub is_together : {A : Type 0} → (A → Facts) → ℕ → ℕ → List A → Bool
is_together f h n xs = is_unbroken_from f h (from_act f h n xs)

-- whether a sequence is private in a log
abbrev pub is_private_of : Bool → Name → List LogEvent → Bool
is_private_of at_end x all =
    let from = from_act facts_of x.hart x.number all in
    is_private x.hart at_end (span_from facts_of x.hart from) (after_from facts_of x.hart from)

unfoldable pub is_private_in : Setting → List Entry → Name → Bool
is_private_in s log x = is_private_of (is_inside_at_place s (place_after s log) x.hart) x (log_events s (first_place s) log)

-- whether its entries stand together in a log
unfoldable pub is_together_in : Setting → List Entry → Name → Bool
is_together_in s log x = is_together facts_of x.hart x.number (log_events s (first_place s) log)
