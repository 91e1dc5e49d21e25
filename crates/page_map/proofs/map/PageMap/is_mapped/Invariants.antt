use Rattle.std.proofs.Common.{◌≡◌, ℕ, ◌<◌, ◌≤◌, ◌+◌, is_some, true}
use Rattle.page_map.specs.Map.{permission_in}
use Rattle.page_map.proofs.map.PageMap.is_mapped.Given as goal

-- the pages so far are mapped
abbrev pub invariant-loop-k : goal.invariant-loop-k
invariant-loop-k l = (n : ℕ) → l.first ≤ n → n < l.first + l.k → is_some (permission_in l.self n) ≡ true
