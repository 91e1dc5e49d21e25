-- So far the first bytes were appended.
use Rattle.sys_calls.proofs.Common.{◌≡◌, ◌++◌, byte_in, bytes_from}
use Rattle.sys_calls.proofs.console.Console.append.Given as goal

abbrev pub invariant-loop-k : goal.invariant-loop-k
invariant-loop-k l = l.self ≡ l.fn.self ++ bytes_from (byte_in l.pages) l.at l.k
