use Rattle.process.proofs.next.next_of.Goals as goal

pub fault_of_next-fault-requires : goal.fault_of_next-fault-requires
fault_of_next-fault-requires g c = rw c.as_ref.ensures.value c.effect_at-effect.ensures.sizes
