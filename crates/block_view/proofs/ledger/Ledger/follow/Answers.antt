use Rattle.std.proofs.Common.{Option, option_to_list, sym, ap, ◌∙◌, subst}
use Rattle.block_view.specs.Following.{IsFollowing}
use Rattle.block_view.specs.Ledgers.{kept_in}
use Rattle.block_view.specs.declared.turns.Turn.{Turn}
use Rattle.block_view.proofs.FollowedLogs.{follows_idle, follows_more, follows_so, hart_followed, places_followed, told_followed, told_idle}
use Rattle.block_view.proofs.ledger.Ledger.follow.Goals as goal

pub note-requires-clause-hart : goal.note-requires-clause-hart
note-requires-clause-hart c =
    hart_followed c.requires.earlier c.requires.now (kept_in c.args.self.now) c.requires.entry c.args.passed.now c.requires.follows c.requires.made

pub note-requires-clause-places : goal.note-requires-clause-places
note-requires-clause-places c = places_followed c.requires.earlier (kept_in c.args.self.now) c.requires.follows

pub returns-clause-follows : goal.returns-clause-follows
returns-clause-follows c m m' entry follows again =
    follows_so m' (kept_in c.note.new.self) (kept_in c.let_go.new.self) c.let_go.ensures
    (subst (IsFollowing m') (sym c.in_ok-turn.ensures.noted) (follows_more m m' (kept_in c.args.self.now) entry c.args.passed.now follows again))

pub returns-clause-turn : goal.returns-clause-turn
returns-clause-turn c m m' entry follows again =
    ap (λ (x : Option Turn). option_to_list x) c.in_ok-turn.ensures.turn ∙ told_followed m m' (kept_in c.args.self.now) entry c.args.passed.now follows again

pub returns-then-passes_by-clause-follows : goal.returns-then-passes_by-clause-follows
returns-then-passes_by-clause-follows c m m' entry follows again =
    let so = c.passes_by.ensures in
    let passes = c.if-passes_by.true in
    follows_idle m m' (kept_in c.args.self.now) entry c.args.passed.now (so.empty passes) (so.other passes) follows again

pub returns-then-passes_by-clause-turn : goal.returns-then-passes_by-clause-turn
returns-then-passes_by-clause-turn c m m' entry follows again =
    let so = c.passes_by.ensures in
    let passes = c.if-passes_by.true in
    told_idle m m' (kept_in c.args.self.now) entry c.args.passed.now (so.empty passes) (so.other passes) follows again
