use Rattle.std.proofs.Common.{◌≡◌, ℕ, ◌+◌, ◌<◌, ◌^◌, take}
use Rattle.mach_types.specs.Bytes.{byte_of, overlay}
use Rattle.store_buffers.proofs.forwarding.after_stores.Given as goal

-- the word is so large, and each of its bytes is that after the stores so far
abbrev pub invariant-loop-store : goal.invariant-loop-store
invariant-loop-store l =
    (l.word < 256 ^ l.size)
    × ((k : ℕ) → k < l.size → byte_of l.word k ≡ overlay (take l.store-index l.stores) (l.at + k) (byte_of l.fn.word k))
