-- A hart that loses its reservation, write after write.
use Rattle.process.proofs.Common.{◌≡◌, ℕ, ◌+◌, ◌<◌, List, [], ◌∷◌, ◌++◌, take, length, refl, sym, ap, ◌∙◌, Option, get_or, HartState, Write, lost_after, lost_by_all, take_more, lost_to, lost_by_write}

-- reservations that are lost to some writes and to others behind them
pub lost_app : (ws vs : List Write) (r : Option ℕ) → lost_after vs (lost_after ws r) ≡ lost_after (ws ++ vs) r
lost_app [] vs r = refl
lost_app (w ∷ ws) vs r = lost_app ws vs (lost_to w r)

-- one write more
pub one_more_write : (ws : List Write) (k : ℕ) (d : Write) (start was now : HartState) → k < length ws →
    was ≡ lost_by_all (take k ws) start → now ≡ lost_by_write (get_or ws k d) was → now ≡ lost_by_all (take (k + 1) ws) start
one_more_write ws k d start was now lt so_far then =
    then ∙ ap (lost_by_write (get_or ws k d)) so_far
    ∙ ap (λ r. let x : HartState = record start { reserved = r } in x) (lost_app (take k ws) (get_or ws k d ∷ []) start.reserved)
    ∙ ap (λ vs. lost_by_all vs start) (sym (take_more ws k d lt))
