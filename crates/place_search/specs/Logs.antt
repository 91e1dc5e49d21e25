-- The logs of the places that were visited, each as the entries that led to it (own).
use Rattle.std.specs.Prelude.{ℕ, ◌≡◌, ◌≤◌, ◌<◌, List, [], ◌∷◌, ◌++◌, length, map, reverse, slice_index_or, All}
use Rattle.mach_types.specs.declared.events.Entry.{Entry}
use Rattle.place_search.specs.declared.row.Row.{Row}

-- the log of the place after an event and the settling steps that follow it
abbrev pub log_next : List (List Entry) → Row → List Entry
log_next logs row = slice_index_or logs row.parent [] ++ reverse row.entries.items

-- these logs, and those of the places that follow
abbrev pub grown : List (List Entry) → List Row → List (List Entry)
grown logs [] = logs
grown logs (row ∷ rows) = grown (logs ++ log_next logs row ∷ []) rows

-- the log of each place by number, that of the first one empty
abbrev pub logs_of : List Row → List (List Entry)
logs_of rows = grown ([] ∷ []) rows

abbrev pub log_at : List Row → ℕ → List Entry
log_at rows place = slice_index_or (logs_of rows) place []

-- which harts owe their thread a signal at each place, as the places say; none at the first one
abbrev pub owed_of : List Row → List ℕ
owed_of rows = 0 ∷ map (λ (row : Row). row.owed) rows

abbrev pub owed_at : List Row → ℕ → ℕ
owed_at rows place = slice_index_or (owed_of rows) place 0

-- each place was come to by one entry
abbrev pub AreSingle : List Row → Type 0
AreSingle rows = All (λ (row : Row). length row.entries.items ≡ 1) rows

-- each place was come to from one with a lower number
abbrev pub AreAfterParents : List Row → Type 0
AreAfterParents rows = (i : ℕ) (d : Row) → i < length rows → (slice_index_or rows i d).parent ≤ i
