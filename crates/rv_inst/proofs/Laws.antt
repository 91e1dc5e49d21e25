-- What the crates above may use of the proofs of this one.
use Rattle.rv_inst.proofs.Meanings.{good}
use Rattle.rv_inst.proofs.Outcomes.{waits_plain, enters_asked, writes_allowed}
use Rattle.rv_inst.proofs.Rows.{rows_unambiguous}
use Rattle.rv_inst.specs.Asked.{LocalRowsSetRegisters, GoesOnInWords, OnlyPlainStoresWait, EntersAsAsked, WritesAreAllowed}
use Rattle.rv_inst.specs.Sizes.{MeansAccesses}
use Rattle.rv_inst.specs.Table.{IsUnambiguous, rows}

-- no word is that of two rows
pub rows-distinct : IsUnambiguous rows
rows-distinct = rows_unambiguous

-- each size in what an instruction means is 1, 2, 4 or 8
pub meaning-sized : MeansAccesses
meaning-sized i r pc = (good i r pc).sized

-- the rows that touch registers alone set a register and do nothing else, where they don't fault, and no
-- others do so
pub local-rows : LocalRowsSetRegisters
local-rows i r pc byte can_write = (good i r pc).local byte can_write

-- a hart that stands at an address below 2^64 goes on at one
pub pc-fits : GoesOnInWords
pc-fits i r pc view regs reserved small = (good i r pc).fits view regs reserved small

-- one store waits after a plain store, and none after any other instruction
pub plain-waits : OnlyPlainStoresWait
plain-waits = waits_plain

-- what enters memory with an instruction is the write that it makes at once
pub entered-at : EntersAsAsked
entered-at = enters_asked

-- where an instruction doesn't fault, what it lets wait and what it writes at once can be written
pub writes-allowed : WritesAreAllowed
writes-allowed = writes_allowed
