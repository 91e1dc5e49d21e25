use Rattle.std.proofs.Common.{◌≡◌, ℕ, ◌+◌, ◌*◌, Bool, length, ap, sym, ◌∙◌, arith}
use Rattle.mach_types.specs.Bytes.{each_byte}
use Rattle.signals.proofs.Words.{all_left, from_the_first, later_words, nothing_left, one_less, this_word}
use Rattle.signals.proofs.frames.write_words.Goals as goal

pub loop-index-init : goal.loop-index-init
loop-index-init g c = record {
  bytes = all_left (g.M.UserMem.byte c.args.mem.now) c.args.at c.args.words.now;
  permissions = λ a i. g.M.UserMem.can_write c.args.mem.now a;
  alike = g.met.M.UserMem.alike_itself c.args.mem.now;
  writable = sym (from_the_first (g.M.UserMem.can_write c.args.mem.now) c.args.at (length c.args.words.now)) ∙ c.requires.writable;
}

pub loop-index-preserved : goal.loop-index-preserved
loop-index-preserved g c =
    let first = g.M.UserMem.can_write c.args.mem.now in
    let now = g.M.UserMem.can_write c.loop-index.mem in
    let words = c.args.words.now in
    let i = c.loop-index.index in
    let same : now ≡ first = λ k a. c.loop-index.invariant.permissions a k in
    let made = c.set-written.ensures.answer ∙ ap (λ (test : ℕ → Bool). each_byte test (c.args.at + 8 * i) 8) same
    ∙ this_word first c.args.at i (length words) c.loop-index-test.true c.loop-index.invariant.writable in
    record {
      bytes = one_less (g.M.UserMem.byte c.args.mem.now) (g.M.UserMem.byte c.loop-index.mem) _ c.args.at i words c.set-written.result
          c.loop-index-test.true made c.set-written.ensures.bytes c.loop-index.invariant.bytes;
      permissions = λ a. c.set-written.ensures.permissions a ∙ c.loop-index.invariant.permissions a;
      alike = g.met.M.UserMem.alike_next c.args.mem.now c.loop-index.mem _ c.loop-index.invariant.alike c.set-written.ensures.alike;
      writable = later_words first c.args.at i (length words) c.loop-index-test.true c.loop-index.invariant.writable;
    }

pub returns-clause-bytes : goal.returns-clause-bytes
returns-clause-bytes g c =
    nothing_left (g.M.UserMem.byte c.args.mem.now) (g.M.UserMem.byte c.loop-index.mem) c.args.at c.loop-index.index c.args.words.now (omega arith)
    c.loop-index.invariant.bytes

pub returns-clause-alike : goal.returns-clause-alike
returns-clause-alike g c = c.loop-index.invariant.alike
