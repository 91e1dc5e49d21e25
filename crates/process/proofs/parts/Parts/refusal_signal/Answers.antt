-- Why no signal is delivered to the thread on a hart.
use Rattle.process.proofs.Common.{◌≡◌, ◌≢◌, length, rules, refl, sym, ◌∙◌, true, false, is_some, here_at, next_on}
use Rattle.process.proofs.Places.{hart_is}
use Rattle.process.proofs.SignalEvent.{no_store, refusal_as, some_store}
use Rattle.process.proofs.SignalsOfHarts.{has_signals}
use Rattle.process.proofs.parts.Parts.refusal_signal.Goals as goal

pub deliverable-requires-clause-held : goal.deliverable-requires-clause-held
deliverable-requires-clause-held c =
    let v = c.requires.stand in let place = c.requires.place in
    has_signals v c.args.self.now c.args.hart.0 place.stands place.tied place.lt

pub returns-then-is_idle : goal.returns-then-is_idle
returns-then-is_idle c v place =
    let is = refusal_as (here_at v c.args.hart.0) c.index-state.result.now _ _ _ c.is_idle.result (next_on (here_at v c.args.hart.0)) (hart_is v c.args.self.now c.args.hart.0 c.index-state.result.now place c.index-state.ensures) c.is_idle.ensures refl in
    sym (is ∙ rw c.if-is_idle.true refl)

pub returns-then-is_some : goal.returns-then-is_some
returns-then-is_some c v place =
    let is = refusal_as (here_at v c.args.hart.0) c.index-state.result.now _ _ _ c.is_idle.result (next_on (here_at v c.args.hart.0)) (hart_is v c.args.self.now c.args.hart.0 c.index-state.result.now place c.index-state.ensures) c.is_idle.ensures refl in
    let in_barrier : is_some c.index-state.result.now.waits ≡ true = search rules in
    sym (is ∙ rw (c.if-is_idle.false, in_barrier) refl)

pub returns-then-is_none : goal.returns-then-is_none
returns-then-is_none c v place =
    let is = refusal_as (here_at v c.args.hart.0) c.index-state.result.now _ _ _ c.is_idle.result c.deliverable.result (hart_is v c.args.self.now c.args.hart.0 c.index-state.result.now place c.index-state.ensures) c.is_idle.ensures (c.deliverable.ensures v.setting v.plain place.tied place.lt) in
    let free : is_some c.index-state.result.now.waits ≡ false = search rules in
    let none : is_some c.deliverable.result ≡ false = search rules in
    sym (is ∙ rw (c.if-is_idle.false, free, none) refl)

pub returns-then-len-ne0 : goal.returns-then-len-ne0
returns-then-len-ne0 c v place =
    let is = refusal_as (here_at v c.args.hart.0) c.index-state.result.now _ _ _ c.is_idle.result c.deliverable.result (hart_is v c.args.self.now c.args.hart.0 c.index-state.result.now place c.index-state.ensures) c.is_idle.ensures (c.deliverable.ensures v.setting v.plain place.tied place.lt) in
    let free : is_some c.index-state.result.now.waits ≡ false = search rules in
    let some : is_some c.deliverable.result ≡ true = search rules in
    let waits : length c.index-state.result.now.buffer ≢ 0 = search rules in
    sym (is ∙ rw (c.if-is_idle.false, free, some) (some_store c.index-state.result.now.buffer waits))

pub returns-else-len-ne0 : goal.returns-else-len-ne0
returns-else-len-ne0 c v place =
    let is = refusal_as (here_at v c.args.hart.0) c.index-state.result.now _ _ _ c.is_idle.result c.deliverable.result (hart_is v c.args.self.now c.args.hart.0 c.index-state.result.now place c.index-state.ensures) c.is_idle.ensures (c.deliverable.ensures v.setting v.plain place.tied place.lt) in
    let free : is_some c.index-state.result.now.waits ≡ false = search rules in
    let some : is_some c.deliverable.result ≡ true = search rules in
    let empty : length c.index-state.result.now.buffer ≡ 0 = search rules in
    sym (is ∙ rw (c.if-is_idle.false, free, some) (no_store c.index-state.result.now.buffer empty))
