-- The four words of an area: where they can be written they can be read, and they lie below 2^64.
use Rattle.sys_calls.proofs.Common.{◌≡◌, ℕ, suc, ◌+◌, ◌<◌, ◌^◌, Bool, true, refl, sym, ap, ◌∙◌, inl, inr, arith, cases_lt, false≢true, and_parts, each_byte-past, each_byte-split, after_writes, each_byte, Words, are_words_writable, words_written, Area, IsEntered, Map, byte_in, can_write_in, byte_in-ends, byte_in-readable, IsAlike, are_visible}
use Rattle.page_map.proofs.Laws.{alike_holds, writable_is_visible}

-- each of the words passes a test
pub record PassEach (test : ℕ → Bool) (at : ℕ) : Type 0 where
  pub start : each_byte test at 4 ≡ true
  pub id : each_byte test (at + 4) 4 ≡ true
  pub node : each_byte test (at + 20) 4 ≡ true
  pub cid : each_byte test (at + 24) 4 ≡ true

pub pass_each : (test : ℕ → Bool) (area : Area) → are_words_writable test area ≡ true → PassEach test area.at
pass_each test area all =
    let halves = and_parts (each_byte test area.at 8) (each_byte test (area.at + 20) 8) all in
    let low = and_parts (each_byte test area.at 4) (each_byte test (area.at + 4) 4) (sym (each_byte-split test area.at 4 4) ∙ halves.0) in
    let high = and_parts (each_byte test (area.at + 20) 4) (each_byte test (area.at + 20 + 4) 4) (sym (each_byte-split test (area.at + 20) 4 4) ∙ halves.1) in
    let place : area.at + 24 ≡ area.at + 20 + 4 = omega arith in
    record { start = low.0; id = low.1; node = high.0; cid = ap (λ a. each_byte test a 4) place ∙ high.1 }

-- bytes that can be written lie below 2^64
pub writable_below : (m : Map) (at n : ℕ) → each_byte (can_write_in m) at (suc n) ≡ true → at < 2 ^ 64
writable_below m at n all = elim (cases_lt at (2 ^ 64)) [
  | inl lt ↦ lt
  | inr past ↦ absurd (false≢true (sym (each_byte-past (byte_in m) (can_write_in m) (byte_in-readable m) (byte_in-ends m) at n past) ∙ all))
]

pub words_visible : (m : Map) (area : Area) (words : Words) → are_words_writable (can_write_in m) area ≡ true → are_visible m (words_written area words) ≡ true
words_visible m area words all =
    let each = pass_each (can_write_in m) area all in
    rw (
      writable_is_visible m area.at 4 each.start,
      writable_is_visible m (area.at + 4) 4 each.id,
      writable_is_visible m (area.at + 20) 4 each.node,
      writable_is_visible m (area.at + 24) 4 each.cid,
    ) refl

-- they enter memory
pub words_enter : (m m' : Map) (area : Area) (words : Words) → are_words_writable (can_write_in m) area ≡ true → IsAlike m m'
    → ((a : ℕ) → byte_in m' a ≡ after_writes (words_written area words) (byte_in m) a) → IsEntered m m' (words_written area words)
words_enter m m' area words all alike bytes = record {
  bytes = bytes;
  held = alike_holds m m' (words_written area words) alike (words_visible m area words all) bytes;
  code = alike.code;
  permissions = alike.permissions;
  free = alike.free;
  break_at = alike.break_at;
  break_start = alike.break_start;
}
