-- The events of a log as code moves them: each by a mark, which has numbers in place of what is large of the event (own).
use Rattle.std.specs.Prelude.{ℕ, ◌<◌, ◌≡◌, ◌&&◌, Bool, true, false, not, List, [], ◌∷◌, ◌++◌, filter, length, map, nat_lt, take, replicate, slice_index_or, Option, None, is_none}
use Rattle.std.specs.List.{list_all}
use Rattle.log_gather.specs.declared.accesses.TheConstants.{NO_ACCESS}
use Rattle.mach_types.specs.declared.events.Entry.{Entry}
use Rattle.log_gather.specs.declared.accesses.Access.{Access}
use Rattle.log_gather.specs.declared.marks.Details.{Details}
use Rattle.log_gather.specs.declared.marks.Mark.{Mark}
use Rattle.log_gather.specs.declared.steps.Step.{Step}
use Rattle.log_gather.specs.Facts.{is_of}
use Rattle.log_gather.specs.Turns.{reserved_after}

-- EVENTS

-- what each hart has reserved, by its number
abbrev pub reserved_by : Details → ℕ → List (Option ℕ)
reserved_by d n = slice_index_or d.reserved.items n (replicate 8 None)

-- its entry
abbrev pub entry_marked : Mark → Entry
entry_marked x = record { hart = x.hart; kind = x.kind; tid = x.tid; pc = x.pc }

-- the event of a mark
abbrev pub step_of : Details → Mark → Step
step_of d x = record {
  entry = entry_marked x;
  plain = x.plain;
  inside = x.inside;
  within = x.within;
  begins = x.begins;
  moves_out = x.moves_out;
  access = slice_index_or d.accesses.items x.access NO_ACCESS;
  looked_at = slice_index_or d.looked_at.items x.looked_at None;
  reserved = reserved_by d x.reserved;
  awaits = x.awaits;
}

abbrev pub steps_of : Details → List Mark → List Step
steps_of d xs = map (step_of d) xs

-- NUMBERS

-- whether each of its numbers is one of the details
abbrev pub is_known : Details → Mark → Bool
is_known d x =
    nat_lt x.access (length d.accesses.items)
    && (nat_lt x.looked_at (length d.looked_at.items) && nat_lt x.reserved (length d.reserved.items))

abbrev pub are_known : Details → List Mark → Bool
are_known d xs = list_all (is_known d) xs

-- a list with more at its end
pub record IsLonger {A : Type 0} (old new : List A) : Type 0 where
  pub more : List A
  pub is : new ≡ old ++ more

-- in a list, maybe with more at its end, a value has this number
pub record IsNumbered {A : Type 0} (old : List A) (x : A) (n : ℕ) (new : List A) : Type 0 where
  pub longer : IsLonger old new
  pub known : n < length new
  pub here : (d : A) → slice_index_or new n d ≡ x

-- details with more of them: what had a number has it still
pub record IsGrown (old new : Details) : Type 0 where
  pub accesses : IsLonger old.accesses.items new.accesses.items
  pub looked_at : IsLonger old.looked_at.items new.looked_at.items
  pub reserved : IsLonger old.reserved.items new.reserved.items

-- the mark of an event
pub record IsMarked (old : Details) (x : Step) (m : Mark) (new : Details) : Type 0 where
  pub grown : IsGrown old new
  pub known : is_known new m ≡ true
  pub event : step_of new m ≡ x

-- an event more
pub record IsAdded (old : Details) (ms : List Mark) (x : Step) (new : Details) (ns : List Mark) : Type 0 where
  pub known : are_known new ns ≡ true
  pub events : steps_of new ns ≡ steps_of old ms ++ x ∷ []

-- MOVING

abbrev pub own_marks : ℕ → List Mark → List Mark
own_marks h span = filter (λ x. is_of h (entry_marked x)) span

abbrev pub other_marks : ℕ → List Mark → List Mark
other_marks h span = filter (λ x. not (is_of h (entry_marked x))) span

-- the marks of hart h were taken out of a span, and those of others are at its front
pub record AreTaken (h : ℕ) (old new these : List Mark) : Type 0 where
  pub own : these ≡ own_marks h old
  pub others : take (length (other_marks h old)) new ≡ other_marks h old

-- whether an access leaves all reservations as they are
abbrev pub leaves_reserved : Access → Bool
leaves_reserved a = is_none a.entered && is_none a.reserves

-- a plain event before which what has a number is reserved, and the number of what is reserved after it
pub record IsRenewed (old : Details) (x : Mark) (n : ℕ) (after : ℕ) (new : Details) (y : Mark) : Type 0 where
  pub grown : IsGrown old new
  pub known : after < length new.reserved.items
  pub mark : y ≡ record x { reserved = n }
  pub reserved : reserved_by new after ≡ reserved_after (step_of old x) (reserved_by old n)

-- marks of these events
pub record AreOf (old : Details) (steps : List Step) (new : Details) (ms : List Mark) : Type 0 where
  pub grown : IsGrown old new
  pub known : are_known new ms ≡ true
  pub events : steps_of new ms ≡ steps

-- a mark whose turn has come
abbrev pub first_taken : List Mark → List Mark
first_taken [] = []
first_taken (x ∷ xs) = record x { awaits = false } ∷ xs
