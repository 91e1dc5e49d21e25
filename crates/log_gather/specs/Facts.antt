-- The facts of the events of a log: all that decides which sequences there are, how they end, and which of them can be gathered. An
-- event that is moved takes its facts with it (own).
use Rattle.std.specs.Prelude.{ℕ, ◌==◌, ◌&&◌, Bool, false, not, List, [], ◌∷◌, ◌++◌, filter, fold, if◌then◌else◌, Option, None}
use Rattle.std.specs.Option.{option_map_or}
use Rattle.mach_types.specs.Events.{choice_of, is_instruction}
use Rattle.mach_types.specs.declared.events.Choice.{Choice}
use Rattle.mach_types.specs.declared.events.Entry.{Entry}
use Rattle.mach_types.specs.declared.sequences.Outcome.{Outcome}
use Rattle.mach_types.specs.declared.threads.Saved.{Saved}
use Rattle.mach_types.specs.Kernel.Areas.{is_inside_named}
use Rattle.block_model.specs.Acts.{is_taken_in}
use Rattle.block_model.specs.Events.{done_of}
use Rattle.rv_inst.specs.Accesses.{Bytes}
use Rattle.block_model.specs.Footprints.{Footprint, bytes_of_all}
use Rattle.block_model.specs.Here.{Here, runs, view}
use Rattle.block_model.specs.History.{file_among}
use Rattle.block_model.specs.Plain.{Plain, here_in_plain, plain_next, plain_start}
use Rattle.block_model.specs.PlainEvents.{footprint, is_plain, no_bytes, reserved_of}
use Rattle.block_model.specs.Sequences.{area_here, is_inside_here, named_here}
use Rattle.block_model.specs.Setting.{Setting}
use Rattle.log_gather.specs.Lookups.{looked_over}

-- A HART

-- the bytes at which the check of the area of a thread looks, in the view of a hart; of the thread that runs there, if one does
abbrev pub looked_here : Here → ℕ → List Bytes
looked_here here t = option_map_or (looked_over (view here)) (area_here here t) []

abbrev pub looked_on : Here → Option ℕ → List Bytes
looked_on here o = option_map_or (looked_here here) o []

-- whether the thread that runs on the hart is inside what its area names
abbrev pub inside_on : Here → Option ℕ → Bool
inside_on here o = option_map_or (is_inside_here here) o false

-- whether its pc, where files are as after an event, is outside what its area named before it
abbrev pub moves_out_on : Here → Here → Option ℕ → Bool
moves_out_on here after o = option_map_or (λ t. not (is_inside_named (named_here here t) (after.file t).pc)) o false

-- EVENTS

-- an event: whether it is plain; whether the thread on its hart is inside before it; whether it is of a sequence, and begins one. And
-- where it is plain: whether it moves the pc out of what its area names; what it reads and writes, without its hart's reservation; what
-- its hart has reserved after it, nothing where that is what it had; and which bytes are written in memory in it
pub record Facts : Type 0 where
  pub entry : Entry
  pub plain : Bool
  pub inside : Bool
  pub within : Bool
  pub begins : Bool
  pub moves_out : Bool
  pub touched : Footprint
  pub reserves : Option (Option ℕ)
  pub entered : List Bytes

-- whether an event is of a sequence: its hart's event before was of it, and it takes this one in; or it begins with this one
abbrev pub within_by : Bool → Bool → Entry → Option Outcome → Bool
within_by inside was e interrupted = inside && (if was then is_taken_in e.kind interrupted else is_instruction e.kind)

-- a place: the plain machine, and on which harts the newest event is of a sequence
pub record Place : Type 0 where
  pub machine : Plain
  pub within : ℕ → Bool

abbrev pub here_at : Setting → Place → Entry → Here
here_at s p e = here_in_plain s p.machine e.hart.0

-- what a plain event touches: its access does, and the check of its area looks
abbrev pub touched_by : Choice → Here → Footprint
touched_by c here = record (footprint c here) { reads = (footprint c here).reads ++ looked_on here (runs here) }

-- the files of threads after an event that did this
abbrev pub with_files : List (ℕ × Saved) → Here → Here
with_files files here = record here { file = λ t. file_among files t (here.file t) }

-- the facts of an event, by what a rule may read before it and by whether its hart's event before was of a sequence
abbrev pub facts_in : Here → Bool → Entry → Facts
facts_in here was e =
    let c = choice_of e in
    let plain = is_plain c here in
    let inside = inside_on here (runs here) in
    let within = within_by inside was e (done_of c here).interrupted in
    record {
      entry = e;
      plain = plain;
      inside = inside;
      within = within;
      begins = within && not was;
      moves_out = plain && moves_out_on here (with_files (done_of c here).files here) (runs here);
      touched = if plain then touched_by c here else no_bytes;
      reserves = if plain then reserved_of c here else None;
      entered = if plain then bytes_of_all (done_of c here).entered else [];
    }

abbrev pub facts_at : Setting → Place → Entry → Facts
facts_at s p e = facts_in (here_at s p e) (p.within e.hart.0) e

abbrev pub next_place : Setting → Place → Entry → Place
next_place s p e = record {
  machine = plain_next s p.machine e;
  within = λ k. if e.hart.0 == k then (facts_at s p e).within else p.within k;
}

abbrev pub first_place : Setting → Place
first_place s = record { machine = plain_start s; within = λ h. false }

abbrev pub place_from : Setting → Place → List Entry → Place
place_from s p log = fold (next_place s) p log

-- the place after a log
unfoldable pub place_after : Setting → List Entry → Place
place_after s log = place_from s (first_place s) log

-- the facts of the entries of a stretch of a log, from a place on
abbrev pub facts_along : Setting → Place → List Entry → List Facts
facts_along s p [] = []
facts_along s p (e ∷ rest) = facts_at s p e ∷ facts_along s (next_place s p e) rest

-- OF A HART

-- whether an entry is of hart h; the entries of hart h, and those of others
abbrev pub is_of : ℕ → Entry → Bool
is_of h e = e.hart.0 == h

abbrev pub own_entries : ℕ → List Entry → List Entry
own_entries h span = filter (is_of h) span

abbrev pub other_entries : ℕ → List Entry → List Entry
other_entries h span = filter (λ e. not (is_of h e)) span
