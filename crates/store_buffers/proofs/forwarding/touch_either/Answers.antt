use Rattle.std.proofs.Common.{◌||◌, ap, sym, ◌∙◌}
use Rattle.store_buffers.proofs.PagesTouched.{touched}
use Rattle.store_buffers.proofs.WordsSeen.{sized_back}
use Rattle.store_buffers.proofs.forwarding.touch_either.Goals as goal

pub touch-in_back-requires : goal.touch-in_back-requires
touch-in_back-requires c = sized_back c.args.front.now c.args.back.now c.requires

pub returns-then-in_front : goal.returns-then-in_front
returns-then-in_front c =
    touched c.args.first c.args.count c.args.front.now c.args.back.now c.touch-in_front.result c.touch-in_back.result c.touch-in_front.result c.touch-in_front.ensures
    c.touch-in_back.ensures (c.if-in_front.true ∙ sym (ap (λ t. t || c.touch-in_back.result) c.if-in_front.true)) c.requires

pub returns-else-in_front : goal.returns-else-in_front
returns-else-in_front c =
    touched c.args.first c.args.count c.args.front.now c.args.back.now c.touch-in_front.result c.touch-in_back.result c.touch-in_back.result c.touch-in_front.ensures
    c.touch-in_back.ensures (sym (ap (λ t. t || c.touch-in_back.result) c.if-in_front.false)) c.requires
