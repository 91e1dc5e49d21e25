-- Calls that aren't refused: what is known then of their pages, or of the break.
use Rattle.std.proofs.Common.{◌≡◌, ℕ, zero, suc, ◌+◌, ◌-◌, ◌/◌, ◌%◌, ◌<◌, ◌≤◌, ◌&&◌, Bool, true, false, not, cond, is_some, eqb, leb, ltb, Option, Some, None, refl, arith}
use Rattle.std.proofs.lemmas.Bool.{and_parts, eqb-true, leb-true, ltb-false, ne_eqb}
use Rattle.mach_types.specs.declared.address_space.TheConstants.{MAPPING_START, USER_END}
use Rattle.mach_types.specs.declared.errors.Errno.{Errno}
use Rattle.mach_types.specs.declared.errors.TheConstants.{EACCES, EINVAL, ENOMEM}
use Rattle.mach_types.specs.declared.kernel_words.TheConstants.{MOST_PROT, PROT_EXEC}
use Rattle.mach_types.specs.Kernel.Pages.{can_execute, is_mapped, is_without_code, pages_of}
use Rattle.mach_types.specs.Kernel.PageCalls.{has_prot, may_move_break, mprotect_refusal, munmap_refusal}
use Rattle.mach_types.proofs.Laws.{each_page-at}

-- a call that isn't refused by a test
not_refused : (b : Bool) (e : Errno) (o : Option Errno) → cond b (Some e) o ≡ None → (b ≡ false) × (o ≡ None)
not_refused true e o is = cc
not_refused false e o is = (refl, is)

not_false : (b : Bool) → not b ≡ false → b ≡ true
not_false true is = refl
not_false false is = cc

not_true : (b : Bool) → not b ≡ true → b ≡ false
not_true true is = cc
not_true false is = refl

bare_pages : (permission : ℕ → Option ℕ) (first count : ℕ) → is_without_code permission first count ≡ true
    → (n : ℕ) → first ≤ n → n < first + count → can_execute (permission n) ≡ false
bare_pages permission first count is n low high =
    not_true (can_execute (permission n)) (each_page-at (λ m. not (can_execute (permission m))) first count is n low high)

-- pages that may be removed
pub record AreRemovable (permission : ℕ → Option ℕ) (first count : ℕ) : Type 0 where
  pub ends : first + count ≤ 67108864
  pub bare : (n : ℕ) → first ≤ n → n < first + count → can_execute (permission n) ≡ false

pub removable : (permission : ℕ → Option ℕ) (at len : ℕ) → munmap_refusal permission at len ≡ None
    → AreRemovable permission (at / 4096) (pages_of len)
removable permission at len free =
    let one = not_refused (not (eqb (at % 4096) 0)) EINVAL _ free in
    let two = not_refused (eqb len 0) EINVAL _ one.1 in
    let three = not_refused (ltb USER_END (at + len)) EINVAL _ two.1 in
    let four = not_refused (not (is_without_code permission (at / 4096) (pages_of len))) EACCES _ three.1 in
    let aligned = eqb-true (at % 4096) 0 (not_false (eqb (at % 4096) 0) one.0) in
    let ends = ltb-false USER_END (at + len) three.0 in
    record {
      ends = omega (arith, aligned, ends);
      bare = bare_pages permission (at / 4096) (pages_of len) (not_false (is_without_code permission (at / 4096) (pages_of len)) four.0);
    }

-- what is known of a page of those that may be protected: its prot is one that mprotect takes, and it is mapped, without code
pub record IsProtectable (permission : ℕ → Option ℕ) (prot first count n : ℕ) : Type 0 where
  pub taken : prot ≤ 7
  pub ends : first + count ≤ 67108864
  pub mapped : is_some (permission n) ≡ true
  pub bare : can_execute (permission n) ≡ false

some_length : (b : Bool) (o : Option Errno) → cond b None o ≡ None → b ≡ false → o ≡ None
some_length true o is some = cc
some_length false o is some = is

-- pages of so many bytes have a byte
some_bytes : (first len n : ℕ) → first ≤ n → n < first + pages_of len → eqb len 0 ≡ false
some_bytes first zero n low high = absurd (omega arith)
some_bytes first (suc len) n low high = ne_eqb (suc len) 0 (λ none. omega arith)

pub protectable : (permission : ℕ → Option ℕ) (at len prot n : ℕ) → mprotect_refusal permission at len prot ≡ None
    → at / 4096 ≤ n → n < at / 4096 + pages_of len → IsProtectable permission prot (at / 4096) (pages_of len) n
protectable permission at len prot n free low high =
    let one = not_refused (not (eqb (at % 4096) 0)) EINVAL _ free in
    let two = not_refused (ltb MOST_PROT prot) EINVAL _ (some_length (eqb len 0) _ one.1 (some_bytes (at / 4096) len n low high)) in
    let three = not_refused (has_prot PROT_EXEC prot) EACCES _ two.1 in
    let four = not_refused (ltb USER_END (at + len)) ENOMEM _ three.1 in
    let five = not_refused (not (is_mapped permission (at / 4096) (pages_of len))) ENOMEM _ four.1 in
    let six = not_refused (not (is_without_code permission (at / 4096) (pages_of len))) EACCES _ five.1 in
    let aligned = eqb-true (at % 4096) 0 (not_false (eqb (at % 4096) 0) one.0) in
    let ends = ltb-false USER_END (at + len) four.0 in
    record {
      taken = ltb-false MOST_PROT prot two.0;
      ends = omega (arith, aligned, ends);
      mapped = each_page-at (λ m. is_some (permission m)) (at / 4096) (pages_of len) (not_false (is_mapped permission (at / 4096) (pages_of len)) five.0) n low high;
      bare = bare_pages permission (at / 4096) (pages_of len) (not_false (is_without_code permission (at / 4096) (pages_of len)) six.0) n low high;
    }

-- where the break may be
pub record MayBreak (lowest free break_at at : ℕ) : Type 0 where
  pub from : lowest ≤ at
  pub to : at ≤ MAPPING_START
  pub room : pages_of at - pages_of break_at ≤ free

pub may_break : (lowest free break_at at : ℕ) → may_move_break lowest free break_at at ≡ true → MayBreak lowest free break_at at
may_break lowest free break_at at may =
    let both = and_parts (leb lowest at && leb at MAPPING_START) (leb (pages_of at - pages_of break_at) free) may in
    let ends = and_parts (leb lowest at) (leb at MAPPING_START) both.0 in
    record {
      from = leb-true lowest at ends.0;
      to = leb-true at MAPPING_START ends.1;
      room = leb-true (pages_of at - pages_of break_at) free both.1;
    }
