use Rattle.std.proofs.Common.{◌≡◌, ℕ, ◌<◌, ◌≤◌, is_some, true}
use Rattle.page_map.specs.Map.{bytes_if, page_in}
use Rattle.page_map.proofs.map.PageMap.are_readable.Given as goal

-- the pages so far can be read
abbrev pub invariant-loop-number : goal.invariant-loop-number
invariant-loop-number l = (n : ℕ) → l.first ≤ n → n < l.number → is_some (bytes_if 4 (page_in l.self n)) ≡ true
