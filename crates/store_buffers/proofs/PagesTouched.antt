-- Stores that have a byte in a page.
use Rattle.std.proofs.Common.{◌≡◌, ℕ, ◌+◌, ◌-◌, ◌*◌, ◌/◌, ◌<◌, ◌≤◌, Bool, ◌||◌, true, List, ◌++◌, ◌↔◌, max, sym, ap, ◌∙◌, arith}
use Rattle.std.specs.Bool.{IsTrue}
use Rattle.std.specs.List.{AllByRecursion, Any, list_any}
use Rattle.std.proofs.lemmas.Bool.Decides.{nat_tests}
use Rattle.std.proofs.lemmas.List.Folds.{list_any-append, Any-from_list_any, list_any-from_Any}
use Rattle.mach_types.specs.Bytes.{IsAccessSize, covers}
use Rattle.mach_types.specs.declared.user_memory.Store.{Store}
use Rattle.store_buffers.proofs.WordsSeen.{sized}
use Rattle.store_buffers.specs.Pages.{HasByteAmong, HasByteIn, is_among}

some_size : (n : ℕ) → IsAccessSize n → 0 < n
some_size n size = grind arith

covers-from : (s : Store) (a : ℕ) → s.at ≤ a → a < s.at + s.size → covers s a ≡ true
covers-from s a from to = grind (arith, nat_tests)

covers-tells : (s : Store) (a : ℕ) → covers s a ≡ true → (s.at ≤ a) × (a < s.at + s.size)
covers-tells s a c = (grind (arith, nat_tests), grind (arith, nat_tests))

among-tells : (first count : ℕ) (s : Store) → is_among first count s ≡ true → (first ≤ (s.at + (s.size - 1)) / 4096) × (s.at / 4096 - first < count)
among-tells first count s t = (grind (arith, nat_tests), grind (arith, nat_tests))

among-from : (first count : ℕ) (s : Store) → first ≤ (s.at + (s.size - 1)) / 4096 → s.at / 4096 - first < count → is_among first count s ≡ true
among-from first count s low high = grind (arith, nat_tests)

has_byte : (first count : ℕ) (s : Store) → IsAccessSize s.size → is_among first count s ≡ true → HasByteAmong first count s
has_byte first count s size t =
    let bounds = among-tells first count s t in
    let some = some_size s.size size in
    let a = max s.at (4096 * first) in
    (a, covers-from s a (omega arith) (omega arith), omega arith, omega arith)

of_byte : (first count : ℕ) (s : Store) → HasByteAmong first count s → is_among first count s ≡ true
of_byte first count s h =
    let bounds = covers-tells s h.0 h.1 in
    let low = h.2 in
    let high = h.3 in
    among-from first count s (omega arith) (omega arith)

any_byte : (first count : ℕ) (ss : List Store) → AllByRecursion (λ s. IsAccessSize s.size) ss → list_any (is_among first count) ss ≡ true → Any (HasByteAmong first count) ss
any_byte first count ss each t =
    let found = Any-from_list_any (is_among first count) ss t in
    let size = rw found.3 at (sized ss found.0 found.1 each found.2) in
    (found.0, found.1, found.2, found.3, has_byte first count found.1 size found.4)

byte_any : (first count : ℕ) (ss : List Store) → Any (HasByteAmong first count) ss → list_any (is_among first count) ss ≡ true
byte_any first count ss h = list_any-from_Any (is_among first count) ss (h.0, h.1, h.2, h.3, of_byte first count h.1 h.4)

-- in two parts of the stores
pub touched : (first count : ℕ) (xs ys : List Store) (a b r : Bool) → a ≡ list_any (is_among first count) xs → b ≡ list_any (is_among first count) ys → r ≡ (a || b)
    → AllByRecursion (λ s. IsAccessSize s.size) (xs ++ ys) → IsTrue r ↔ Any (HasByteAmong first count) (xs ++ ys)
touched first count xs ys a b r ea eb er each =
    let whole = er ∙ ap (λ t. t || b) ea ∙ ap (λ t. list_any (is_among first count) xs || t) eb ∙ sym (list_any-append (is_among first count) xs ys) in
    (λ t. any_byte first count (xs ++ ys) each (sym whole ∙ t), λ h. whole ∙ byte_any first count (xs ++ ys) h)

-- one page alone
pub in_one : (page : ℕ) (ss : List Store) (r : Bool) → IsTrue r ↔ Any (HasByteAmong page 1) ss → IsTrue r ↔ Any (HasByteIn page) ss
in_one page ss r told = (
  λ t. let h = told.0 t in let low = h.4.2 in let high = h.4.3 in (h.0, h.1, h.2, h.3, (h.4.0, h.4.1, omega arith)),
  λ h. let there = h.4.2 in told.1 (h.0, h.1, h.2, h.3, (h.4.0, h.4.1, omega arith, omega arith)),
)
