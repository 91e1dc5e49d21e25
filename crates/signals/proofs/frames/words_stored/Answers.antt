use Rattle.std.proofs.Common.{◌≡◌, ℕ, ◌+◌, List, [], ◌∷◌, ◌++◌, length, sym, subst, ap, arith, length-append}
use Rattle.mach_types.specs.declared.user_memory.Write.{Write}
use Rattle.signals.proofs.Words.{PushedSoFar, all_pushed, none_pushed, one_pushed}
use Rattle.signals.proofs.frames.words_stored.Goals as goal

-- one write more
counted : (before after : List Write) (w : Write) (i : ℕ) → after ≡ before ++ w ∷ [] → length before ≡ i → length after ≡ i + 1
counted before after w i is count =
    let both = length-append before (w ∷ []) in
    let longer = ap (length {A = Write}) is in
    omega (arith, both, longer, count)

pub loop-index-init : goal.loop-index-init
loop-index-init c = record {
  so_far = subst (λ (ws : List Write). PushedSoFar c.args.at c.args.words.now ws 0) (sym c.new-writes.ensures) (none_pushed c.args.at c.args.words.now);
  count = ap (length {A = Write}) c.new-writes.ensures;
}

pub loop-index-preserved : goal.loop-index-preserved
loop-index-preserved c = record {
  so_far = subst (λ (ws : List Write). PushedSoFar c.args.at c.args.words.now ws (c.loop-index.index + 1)) (sym c.push.ensures.items)
      (one_pushed c.args.at c.args.words.now c.loop-index.writes.items c.loop-index.index (omega arith) c.loop-index.invariant.so_far);
  count = counted c.loop-index.writes.items c.push.new.self.items _ c.loop-index.index c.push.ensures.items c.loop-index.invariant.count;
}

pub returns : goal.returns
returns c = all_pushed c.args.at c.args.words.now c.loop-index.writes.items c.loop-index.index (omega arith) c.loop-index.invariant.so_far
