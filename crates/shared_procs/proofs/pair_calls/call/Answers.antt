use Rattle.std.proofs.Common.{inl, sym, ◌∙◌}
use Rattle.shared_procs.proofs.pair_calls.call.Goals as goal

pub own_call-requires-clause-own : goal.own_call-requires-clause-own
own_call-requires-clause-own c v t place at = inl (sym (c.is_inside.ensures v.setting v.plain t place.tied place.lt at) ∙ c.if-is_inside.true)

pub outside_call-requires-clause-outside : goal.outside_call-requires-clause-outside
outside_call-requires-clause-outside c v t place at = sym (c.is_inside.ensures v.setting v.plain t place.tied place.lt at) ∙ c.if-is_inside.false
