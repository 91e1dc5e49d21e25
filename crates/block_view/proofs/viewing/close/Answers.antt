use Rattle.std.proofs.Common.{◌≡◌, List, is_some, length, map, sym, ap, ◌∙◌, subst, arith}
use Rattle.std.proofs.lemmas.List.{length-map}
use Rattle.std.specs.Option.{option_map}
use Rattle.block_model.specs.Deciding.{history}
use Rattle.block_view.specs.Following.{behind, moved}
use Rattle.block_view.specs.Ledgers.{HasPlaces, Kept, closed, kept_in}
use Rattle.block_view.specs.Standing.{standings}
use Rattle.block_view.specs.Tied.{closed_if}
use Rattle.block_view.specs.declared.forms.Act.{Act}
use Rattle.block_view.proofs.Closing.{all_closed, length-closed, none_closed, one_closed, places_of}
use Rattle.block_view.proofs.GoneActs.{closed_behind, places_left}
use Rattle.block_view.proofs.SeenInside.{seen_inside}
use Rattle.block_view.proofs.viewing.close.Goals as goal

pub loop-hart-init : goal.loop-hart-init
loop-hart-init c gone tied =
    let s = c.args.machine.now.setting in
    none_closed s (history s c.args.machine.now.log) (behind gone (kept_in c.args.ledger.now)) tied

pub close-requires-clause-hart : goal.close-requires-clause-hart
close-requires-clause-hart c =
    let gone = c.requires.follows.gone in
    let tied = c.requires.follows.tied in
    let same = ap (λ (k : Kept). length k.going) (c.loop-hart.invariant gone tied) in
    let harts = tied.harts in
    omega (arith, c.requires.harts, harts, same, length-map (kept_in c.loop-hart.ledger).going (option_map (moved (length gone))))

pub close-requires-clause-places : goal.close-requires-clause-places
close-requires-clause-places c =
    let s = c.args.machine.now.setting in
    let all = history s c.args.machine.now.log in
    let gone = c.requires.follows.gone in
    let tied = c.requires.follows.tied in
    let k = behind gone (kept_in c.args.ledger.now) in
    places_left gone (kept_in c.loop-hart.ledger)
    (subst HasPlaces (sym (c.loop-hart.invariant gone tied))
    (places_of s all k tied (map (closed_if s all c.loop-hart.hart) (standings s all)) (length-closed s all k tied c.loop-hart.hart)))

pub loop-hart-preserved : goal.loop-hart-preserved
loop-hart-preserved c gone tied =
    let s = c.args.machine.now.setting in
    let all = history s c.args.machine.now.log in
    let k = behind gone (kept_in c.args.ledger.now) in
    let n = c.loop-hart.hart in
    let inside = c.is_some.ensures ∙ ap is_some c.inside.ensures ∙ seen_inside s n all in
    ap (behind gone) c.close.ensures
    ∙ sym (closed_behind gone n c.is_some.result (kept_in c.loop-hart.ledger))
    ∙ ap (closed n c.is_some.result) (c.loop-hart.invariant gone tied)
    ∙ one_closed s all k tied n c.is_some.result inside

pub returns : goal.returns
returns c gone tied =
    let s = c.args.machine.now.setting in
    let all = history s c.args.machine.now.log in
    let k = behind gone (kept_in c.args.ledger.now) in
    let past : c.loop-hart.hart ≡ s.limits.harts = omega (arith, c.requires.harts, c.loop-hart.auto.hart-end) in
    c.loop-hart.invariant gone tied
    ∙ ap (λ n. record k { acts = map (closed_if s all n) (standings s all) }) past
    ∙ ap (λ (xs : List Act). record k { acts = xs }) (all_closed s all k tied)
