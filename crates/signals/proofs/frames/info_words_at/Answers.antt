use Rattle.std.proofs.Common.{◌^◌, sym, arith}
use Rattle.signals.proofs.Ends.{words_read_past_end}
use Rattle.signals.proofs.frames.info_words_at.Goals as goal

pub returns-then-at-last_start : goal.returns-then-at-last_start
returns-then-at-last_start g c =
    let mem = c.args.mem.now in
    sym (words_read_past_end (g.M.UserMem.byte mem) (2 ^ 64) 136 c.args.at (g.met.M.UserMem.ends mem) (omega arith) (omega arith))

pub returns-then-not-read_words : goal.returns-then-not-read_words
returns-then-not-read_words g c = sym c.if-not-read_words.ensures.missing

pub returns : goal.returns
returns g c = sym c.if-not-read_words.ensures.read
