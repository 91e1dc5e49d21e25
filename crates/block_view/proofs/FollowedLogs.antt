-- A ledger that follows a log: at the start, after one entry more, and where the log ends.
use Rattle.std.proofs.Common.{◌≡◌, ℕ, ◌+◌, ◌<◌, List, [], ◌++◌, length, map, option_to_list, sym, ap, ◌∙◌, subst, arith, false, Option, None}
use Rattle.std.proofs.lemmas.List.{length-map}
use Rattle.std.specs.Option.{option_map}
use Rattle.mach_types.specs.declared.events.Entry.{Entry}
use Rattle.block_model.specs.Deciding.{event, history}
use Rattle.block_model.specs.Setting.{Seen}
use Rattle.block_view.specs.Following.{IsFollowing, IsLetGo, behind, moved}
use Rattle.block_view.specs.Following.IsLetGo.{Same, Gone}
use Rattle.block_view.specs.Ledgers.{HasPlaces, Kept, begins, noted, nothing_kept, turn_noted}
use Rattle.block_view.specs.Passing.{IsMadeAgain}
use Rattle.block_view.specs.Tied.{IsOfLog}
use Rattle.block_view.specs.Turns.{turns}
use Rattle.block_view.specs.declared.passing.Passed.{Passed}
use Rattle.block_view.specs.declared.turns.Turn.{Turn}
use Rattle.block_view.proofs.Closing.{has_places}
use Rattle.block_view.proofs.Entering.{hart_of_more, tied_to_more, tied_to_none, told_of_more}
use Rattle.block_view.proofs.GoneActs.{behind_none, let_go_behind, noted_behind, places_left, turn_behind}
use Rattle.block_view.proofs.IdleLedgers.{lets_go, no_turn}

-- one that is tied to a log follows it
pub follows_whole : (m : Seen) (k : Kept) → IsOfLog m k → IsFollowing m k
follows_whole m k tied = record { gone = []; tied = subst (IsOfLog m) (sym (behind_none k)) tied }

pub follows_none : (m : Seen) (harts : ℕ) (k : Kept) → m.setting.limits.harts ≡ harts → m.log ≡ [] → k ≡ nothing_kept harts → IsFollowing m k
follows_none m harts k same none kept = follows_whole m k (tied_to_none m harts k same none kept)

-- with one entry more
pub follows_more : (m m' : Seen) (k : Kept) (entry : Entry) (passed : Passed) → IsFollowing m k → IsMadeAgain m m' entry passed → IsFollowing m' (noted passed k)
follows_more m m' k entry passed follows again = record {
  gone = follows.gone;
  tied = subst (IsOfLog m') (noted_behind follows.gone passed k) (tied_to_more m m' (behind follows.gone k) entry passed follows.tied again);
}

pub told_followed : (m m' : Seen) (k : Kept) (entry : Entry) (passed : Passed) → IsFollowing m k → IsMadeAgain m m' entry passed
    → option_to_list (turn_noted passed k) ≡ turns m.setting (event m.setting (history m.setting m.log) entry) (history m.setting m.log)
told_followed m m' k entry passed follows again =
    ap (λ x. option_to_list x) (sym (turn_behind follows.gone passed k)) ∙ told_of_more m m' (behind follows.gone k) entry passed follows.tied again

-- it is of a hart that is kept, and the places are those of acts
pub hart_followed : (m m' : Seen) (k : Kept) (entry : Entry) (passed : Passed) → IsFollowing m k → IsMadeAgain m m' entry passed
    → passed.entry.hart.0 < length k.going
hart_followed m m' k entry passed follows again =
    let lt = hart_of_more m m' (behind follows.gone k) entry passed follows.tied again in
    omega (arith, lt, length-map k.going (option_map (moved (length follows.gone))))

pub places_followed : (m : Seen) (k : Kept) → IsFollowing m k → HasPlaces k
places_followed m k follows =
    places_left follows.gone k (has_places m.setting (history m.setting m.log) (behind follows.gone k) follows.tied)

-- once acts are let go
pub follows_so : (m : Seen) (k k' : Kept) → IsLetGo k k' → IsFollowing m k → IsFollowing m k'
follows_so m k k' (Same is) follows = subst (IsFollowing m) (sym is) follows
follows_so m k k' (Gone rests is) follows =
    subst (IsFollowing m) (sym is)
    (record { gone = follows.gone ++ k.acts; tied = subst (IsOfLog m) (sym (let_go_behind follows.gone k rests)) follows.tied })

-- an entry that makes nothing of a ledger with no acts
module _ (m m' : Seen) (k : Kept) (entry : Entry) (passed : Passed) (none : k.acts ≡ []) (other : begins passed ≡ false) where
  pub follows_idle : IsFollowing m k → IsMadeAgain m m' entry passed → IsFollowing m' k
  follows_idle follows again =
      follows_so m' (noted passed k) k (lets_go k (places_followed m k follows) none passed other) (follows_more m m' k entry passed follows again)

  pub told_idle : IsFollowing m k → IsMadeAgain m m' entry passed
      → option_to_list None ≡ turns m.setting (event m.setting (history m.setting m.log) entry) (history m.setting m.log)
  told_idle follows again =
      ap (λ (turn : Option Turn). option_to_list turn) (no_turn k (places_followed m k follows) none passed other)
      ∙ told_followed m m' k entry passed follows again
