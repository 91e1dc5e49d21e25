-- Parts that are tied to one place are tied to each that is the same, with its counts; and places to which
-- the same parts are tied are the same.
use Rattle.std.proofs.Common.{◌≡◌, ℕ, ◌≤◌, ◌<◌, Some, sym, ap, ◌∙◌, arith}
use Rattle.std.proofs.lemmas.Option.{same_Some}
use Rattle.mach_types.specs.Limits.{InRange}
use Rattle.hart_state.specs.declared.hart.HartState.{HartState}
use Rattle.block_model.specs.Plain.{Plain}
use Rattle.block_model.specs.Setting.{Setting, with_steps}
use Rattle.block_model.specs.Standing.{IsStanding}
use Rattle.process.specs.Harts.{credit_of, hart_at}
use Rattle.process.specs.Refinement.{IsPlace, IsTied}
use Rattle.process.specs.declared.parts.Parts.{Parts}
use Rattle.same_places.specs.Places.{IsSamePlace, alone, rested, rests}
use Rattle.same_places.proofs.Kept.{has_kept, rests_kept}

-- a place with these counts
abbrev pub recounted : Plain → Plain → Plain
recounted p q = record q { events = p.events; ran = p.ran; made = p.made }

-- a hart with these counts and this credit
abbrev with_counts : ℕ → ℕ → ℕ → HartState → HartState
with_counts ran events credit x = record x { ran = ran; credit = credit; events = events }

pub tied_same : (s : Setting) (n : ℕ) (p q : Plain) (m : Parts) → IsSamePlace s p q → IsTied s (rested p) m → IsTied (with_steps n s) (rested q) m
tied_same s n p q m same tied = record {
  all_harts = tied.all_harts;
  harts = λ h lt. tied.harts h lt ∙ ap (λ x. Some (with_counts 0 0 (credit_of m.harts.items h) x)) (sym (same.harts h lt));
  pages = record {
    permissions = λ n. tied.pages.permissions n ∙ sym (same.pages.permissions n);
    held = λ a. tied.pages.held a ∙ sym (same.pages.bytes a);
    free = tied.pages.free ∙ sym same.pages.free;
    break_at = tied.pages.break_at ∙ sym same.pages.break_at;
    break_start = tied.pages.break_start;
  };
  readable = tied.readable;
  tables = record {
    threads = tied.tables.threads ∙ sym same.tables.threads;
    signals = tied.tables.signals ∙ sym same.tables.signals;
    scheduling = tied.tables.scheduling ∙ sym same.tables.scheduling;
    areas = tied.tables.areas ∙ sym same.tables.areas;
    barriers = tied.tables.barriers ∙ sym same.tables.barriers;
    console = tied.tables.console ∙ sym same.tables.console;
    random = tied.tables.random ∙ sym same.tables.random;
  };
  table = tied.table;
  saved = λ u x at. tied.saved u x at ∙ sym (same.files u (ap (rests u) (sym tied.tables.threads) ∙ rests_kept u x m.kernel.threads tied.table at));
  ended = tied.ended ∙ sym same.over;
}

-- the other way round, under any step limit
pub same_tied : (s : Setting) (n : ℕ) (p q : Plain) (m : Parts) → IsTied s p m → IsTied (with_steps n s) q m → IsSamePlace s p q
same_tied s n p q m first second = record {
  harts = λ h lt.
      let at : Some (hart_at s q h (credit_of m.harts.items h)) ≡ Some (hart_at s p h (credit_of m.harts.items h)) = sym (second.harts h lt) ∙ first.harts h lt in
      ap (with_counts 0 0 0) (same_Some _ _ at);
  files = λ t kept.
      let there = has_kept t m.kernel.threads first.table (ap (rests t) first.tables.threads ∙ kept) in
      sym (second.saved t there.file there.at) ∙ first.saved t there.file there.at;
  pages = record {
    permissions = λ n. sym (second.pages.permissions n) ∙ first.pages.permissions n;
    bytes = λ a. sym (second.pages.held a) ∙ first.pages.held a;
    free = sym second.pages.free ∙ first.pages.free;
    break_at = sym second.pages.break_at ∙ first.pages.break_at;
  };
  tables = record {
    threads = sym second.tables.threads ∙ first.tables.threads;
    signals = sym second.tables.signals ∙ first.tables.signals;
    scheduling = sym second.tables.scheduling ∙ first.tables.scheduling;
    areas = sym second.tables.areas ∙ first.tables.areas;
    barriers = sym second.tables.barriers ∙ first.tables.barriers;
    console = sym second.tables.console ∙ first.tables.console;
    random = sym second.tables.random ∙ first.tables.random;
  };
  over = sym second.ended ∙ first.ended;
}

-- counts don't matter
pub same_but_counts : (s : Setting) (p q j k : Plain) → IsSamePlace s (recounted j p) (recounted k q) → IsSamePlace s p q
same_but_counts s p q j k same = record {
  harts = same.harts;
  files = same.files;
  pages = record { permissions = same.pages.permissions; bytes = same.pages.bytes; free = same.pages.free; break_at = same.pages.break_at };
  tables = same.tables;
  over = same.over;
}

pub same_recounted : (s : Setting) (p q k : Plain) → IsSamePlace s p q → IsSamePlace s p (recounted k q)
same_recounted s p q k same = record {
  harts = same.harts;
  files = same.files;
  pages = record { permissions = same.pages.permissions; bytes = same.pages.bytes; free = same.pages.free; break_at = same.pages.break_at };
  tables = same.tables;
  over = same.over;
}

-- the same place as one that is the same
pub same_same : (s : Setting) (p q r : Plain) → IsSamePlace s p q → IsSamePlace s q r → IsSamePlace s p r
same_same s p q r a b = record {
  harts = λ h lt. b.harts h lt ∙ a.harts h lt;
  files = λ t kept. b.files t (ap (rests t) a.tables.threads ∙ kept) ∙ a.files t kept;
  pages = record {
    permissions = λ n. b.pages.permissions n ∙ a.pages.permissions n;
    bytes = λ x. b.pages.bytes x ∙ a.pages.bytes x;
    free = b.pages.free ∙ a.pages.free;
    break_at = b.pages.break_at ∙ a.pages.break_at;
  };
  tables = record {
    threads = b.tables.threads ∙ a.tables.threads;
    signals = b.tables.signals ∙ a.tables.signals;
    scheduling = b.tables.scheduling ∙ a.tables.scheduling;
    areas = b.tables.areas ∙ a.tables.areas;
    barriers = b.tables.barriers ∙ a.tables.barriers;
    console = b.tables.console ∙ a.tables.console;
    random = b.tables.random ∙ a.tables.random;
  };
  over = b.over ∙ a.over;
}

-- limits with other steps
ranged : (s : Setting) (n : ℕ) → InRange s.limits → 1 ≤ n → n ≤ 1000000 → InRange (with_steps n s).limits
ranged s n limits low high = record {
  some_hart = limits.some_hart;
  eight_harts = limits.eight_harts;
  least_frames = limits.least_frames;
  most_frames = limits.most_frames;
  some_step = low;
  most_steps = high;
}

-- where parts stand at a place without counts, they stand at each that is the same, without counts
pub place_same : (s : Setting) (n : ℕ) (p q : Plain) (m : Parts) (h : ℕ) → IsSamePlace s p q → IsStanding (alone (with_steps n s) q) → q.made < n → n ≤ 1000000
    → IsPlace (alone s (rested p)) m h → IsPlace (alone (with_steps n s) (rested q)) m h
place_same s n p q m h same stands room high place = record {
  stands = record {
    good = stands.good;
    sound = stands.sound;
    held = stands.held;
    events = λ k. omega arith;
    ran = λ k. omega arith;
    given = stands.given;
  };
  tied = tied_same s n p q m same place.tied;
  limits = ranged s n place.limits (omega arith) high;
  goes = same.over ∙ place.goes;
  room = room;
  lt = place.lt;
}
