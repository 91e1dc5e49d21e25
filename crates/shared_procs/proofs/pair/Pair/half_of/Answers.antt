use Rattle.shared_procs.proofs.Common.{◌≡◌, Bool, true, false, cond, sym, ◌∙◌, subst, half, Inside, IsPair, IsTied, pair_seen, seen, setting, setting_of}
use Rattle.shared_procs.proofs.pair.Pair.half_of.Goals as goal

-- the half of a process is tied to its plain machine
half_tied : (m : Inside) {p second : Bool} → p ≡ second → IsPair m
    → IsTied (setting (setting_of m) p) (half p (pair_seen (seen m))) (cond second m.second.parts m.first.parts)
half_tied m {p} {second} same is =
    subst (λ (b : Bool). IsTied (setting (setting_of m) b) (half b (pair_seen (seen m))) (cond second m.second.parts m.first.parts))
    (sym same) (its second)
  where
    its : (b : Bool) → IsTied (setting (setting_of m) b) (half b (pair_seen (seen m))) (cond b m.second.parts m.first.parts)
    its true = is.tied.second
    its false = is.tied.first

pub returns-then-is_second : goal.returns-then-is_second
returns-then-is_second c =
    rw (← c.self.view_is) (half_tied c.self.inside (sym c.is_second.ensures ∙ c.if-is_second.true) c.self.invariant)

pub returns-else-is_second : goal.returns-else-is_second
returns-else-is_second c =
    rw (← c.self.view_is) (half_tied c.self.inside (sym c.is_second.ensures ∙ c.if-is_second.false) c.self.invariant)
