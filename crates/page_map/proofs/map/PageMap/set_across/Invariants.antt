use Rattle.std.proofs.Common.{◌≡◌, ℕ, ◌/◌, ◌^◌}
use Rattle.mach_types.specs.Bytes.{stored}
use Rattle.page_map.specs.Map.{break_in, break_start_in, byte_in, code_in, free_in, held_in, permission_in}
use Rattle.page_map.proofs.map.PageMap.set_across.Given as goal

-- the low bytes so far are stored, and the rest is the number of those above
abbrev pub invariant-loop-k : goal.invariant-loop-k
invariant-loop-k l = record {
  rest : l.rest ≡ l.value / 256 ^ l.k;
  bytes : (a : ℕ) → byte_in l.self a ≡ stored (record { at = l.at; size = l.k; value = l.value }) (byte_in l.initial.self) a;
  held : (a : ℕ) → held_in l.self a ≡ stored (record { at = l.at; size = l.k; value = l.value }) (held_in l.initial.self) a;
  permissions : (n : ℕ) → permission_in l.self n ≡ permission_in l.initial.self n;
  code : (a : ℕ) → code_in l.self a ≡ code_in l.initial.self a;
  free : free_in l.self ≡ free_in l.initial.self;
  break_at : break_in l.self ≡ break_in l.initial.self;
  break_start : break_start_in l.self ≡ break_start_in l.initial.self;
}
