use Rattle.std.proofs.Common.{◌≡◌, true, false, sym, ◌∙◌, inl, inr}
use Rattle.graph_walks.proofs.Walks.{ends_led, fewer_left, walks_marked}
use Rattle.graph_walks.proofs.marks.mark_walks.Goals as goal

pub rounds-init : goal.rounds-init
rounds-init c = record {
  size = c.mark_ends.ensures.size;
  ends = c.mark_ends.ensures.marked;
  led = ends_led c.args.edges.now c.args.ends.now c.mark_ends.new.marks
      (λ k is. elim (c.mark_ends.ensures.others k is) [
        | inl was ↦ let bad : true ≡ false = sym was ∙ c.requires.none k in absurd cc
        | inr among ↦ among
      ]);
  closed = λ no. absurd cc;
}

pub rounds-smaller : goal.rounds-smaller
rounds-smaller c =
    fewer_left c.rounds.marks c.mark_round-going.new.marks c.rounds.going c.mark_round-going.result c.rounds-test.true c.mark_round-going.ensures.size
    c.mark_round-going.ensures.more c.mark_round-going.ensures.same

pub returns-clause-marks : goal.returns-clause-marks
returns-clause-marks c = λ k. (
  λ is. c.rounds.invariant.led k is,
  λ leads. walks_marked c.args.edges.now c.args.ends.now c.rounds.marks c.rounds.invariant.ends (c.rounds.invariant.closed c.rounds-test.false) k leads,
)
