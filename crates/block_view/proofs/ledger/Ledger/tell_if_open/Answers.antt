use Rattle.std.proofs.Common.{◌++◌, [], ◌∷◌, append-nil, cond, sym, ap, ◌∙◌}
use Rattle.block_view.proofs.ledger.Ledger.tell_if_open.Goals as goal

pub returns-then-not-is_open : goal.returns-then-not-is_open
returns-then-not-is_open c =
    sym (append-nil c.args.acts.now.items) ∙ ap (λ b. c.args.acts.now.items ++ cond b (c.args.act ∷ []) []) (sym (sym c.is_open.ensures ∙ c.if-not-is_open.true))

pub returns : goal.returns
returns c =
    c.in_ok-push.ensures.items ∙ ap (λ b. c.args.acts.now.items ++ cond b (c.args.act ∷ []) []) (sym (sym c.is_open.ensures ∙ c.if-not-is_open.false))
