-- The events of a log as code gathers them, sequence by sequence: what it makes of them when it is a sequence's turn (own).
use Rattle.std.specs.Prelude.{ℕ, ◌==◌, ◌≡◌, ◌≤◌, ◌&&◌, ◌||◌, Bool, false, not, List, [], ◌∷◌, ◌++◌, filter, fold, length, map, nat_lt, true, ◌<◌, if◌then◌else◌, Option, None, Some, slice_index_or, slice_set, unwrap_or, drop, take}
use Rattle.std.specs.List.{HoldsAt, list_all}
use Rattle.log_gather.specs.declared.spans.Reach.{Reach}
use Rattle.log_gather.specs.declared.steps.Step.{Step}
use Rattle.log_gather.specs.Facts.{is_of}
use Rattle.log_gather.specs.Located.{Located, event_in, gather_located, lost_to_bytes}
use Rattle.log_gather.specs.LogEvents.{LogEvent}
use Rattle.log_gather.specs.Spans.{after_from, has_moved_out, is_inside_next, is_private, span_from}
use Rattle.log_gather.specs.Accesses.{bytes_in}
use Rattle.log_gather.specs.Steps.{facts_seen, located_of, names_awaited}

-- as an event of a log
abbrev pub event_of : Step → LogEvent
event_of x = event_in (located_of x)

-- whether its hart is one of eight, and something is known of each of them
abbrev pub is_of_eight : Step → Bool
is_of_eight x = nat_lt x.entry.hart.0 8 && (length x.reserved == 8)

-- whether it awaits its turn only where it begins a sequence
abbrev pub awaits_rightly : Step → Bool
awaits_rightly x = not x.awaits || x.begins

-- RESERVATIONS

-- what each hart has reserved after it, where it is plain
abbrev pub reserved_after : Step → List (Option ℕ) → List (Option ℕ)
reserved_after x reserved =
    let h = x.entry.hart.0 in
    slice_set (map (lost_to_bytes (bytes_in x.access.entered)) reserved) h (unwrap_or x.access.reserves (slice_index_or reserved h None))

-- plain events, where this is reserved before the first
abbrev pub renewed : List (Option ℕ) → List Step → List Step
renewed reserved [] = []
renewed reserved (x ∷ xs) = record x { reserved = reserved } ∷ renewed (reserved_after x reserved) xs

-- MOVING

abbrev pub own_steps : ℕ → List Step → List Step
own_steps h span = filter (λ x. is_of h x.entry) span

abbrev pub other_steps : ℕ → List Step → List Step
other_steps h span = filter (λ x. not (is_of h x.entry)) span

-- a span with the events of others before those of hart h
abbrev pub moved_steps : ℕ → List Step → List Step
moved_steps h [] = []
moved_steps h (x ∷ xs) = renewed x.reserved (other_steps h (x ∷ xs) ++ own_steps h (x ∷ xs))

abbrev pub moved_steps_if : Bool → ℕ → List Step → List Step
moved_steps_if private h span = if private then moved_steps h span else span

-- TURNS

-- whether the thread on a hart is inside at the end of a log, where this is listed
abbrev pub inside_in : List Bool → ℕ → Bool
inside_in inside h = slice_index_or inside h false

-- an event whose turn has come
abbrev pub taken : Step → Step
taken x = record x { awaits = false }

abbrev pub taken_first : List Step → List Step
taken_first [] = []
taken_first (x ∷ xs) = taken x ∷ xs

-- what comes from the first event of a sequence on, after its turn
abbrev pub after_turn : (ℕ → Bool) → List Step → List Step
after_turn at_end [] = []
after_turn at_end (x ∷ xs) =
    let h = x.entry.hart.0 in
    let span = span_from facts_seen h (taken x ∷ xs) in
    let later = after_from facts_seen h (taken x ∷ xs) in
    moved_steps_if (is_private h (at_end h) (map event_of span) (map event_of later)) h span ++ later

-- REACHES

-- how far an act of hart h goes on, from its first event: how many events there are to its last, and what decides how it ended
pub record IsReach (h : ℕ) (at_end : Bool) (from : List Step) (r : Reach) : Type 0 where
  pub within : r.length ≤ length from
  pub span : take r.length from ≡ span_from facts_seen h from
  pub later : drop r.length from ≡ after_from facts_seen h from
  pub moved_out : r.moved_out ≡ has_moved_out h (map event_of (span_from facts_seen h from))
  pub inside_next : r.inside_next ≡ is_inside_next h at_end (map event_of (after_from facts_seen h from))

-- PRIVATE SEQUENCES

-- whether the act that begins here is a private sequence
abbrev pub is_private_from : ℕ → Bool → List Step → Bool
is_private_from h at_end from = is_private h at_end (map event_of (span_from facts_seen h from)) (map event_of (after_from facts_seen h from))

-- it is one of so many events
pub record IsPrivateSpan (h : ℕ) (at_end : Bool) (from : List Step) (n : ℕ) : Type 0 where
  pub private : is_private_from h at_end from ≡ true
  pub within : n ≤ length from
  pub span : take n from ≡ span_from facts_seen h from
  pub later : drop n from ≡ after_from facts_seen h from

-- how many events it has, if it is one
abbrev pub IsPrivateLength : ℕ → Bool → List Step → Option ℕ → Type 0
IsPrivateLength h at_end from None = is_private_from h at_end from ≡ false
IsPrivateLength h at_end from (Some n) = IsPrivateSpan h at_end from n

-- FINDING THE NEXT

-- no event of a stretch awaits its turn
abbrev pub none_await : List Step → Bool
none_await xs = list_all (λ x. not x.awaits) xs

-- the first that awaits its turn is number k, counted from 0
pub record IsNextTurn (xs : List Step) (k : ℕ) : Type 0 where
  pub within : k < length xs
  pub before : none_await (take k xs) ≡ true
  pub here : HoldsAt (λ x. x.awaits ≡ true) xs k

abbrev pub IsNext : List Step → Option ℕ → Type 0
IsNext xs None = none_await xs ≡ true
IsNext xs (Some k) = IsNextTurn xs k

-- AFTER ALL TURNS

-- the events once each sequence that awaits its turn had it
abbrev pub after_turns : (ℕ → Bool) → List Step → List Located
after_turns at_end xs = fold (gather_located at_end) (map located_of xs) (names_awaited (λ k. 0) xs)
