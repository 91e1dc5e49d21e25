use Rattle.std.proofs.Common.{◌∙◌, ◌/◌, ap, arith, is_some}
use Rattle.mach_types.specs.Kernel.Pages.{can_read, permission_of}
use Rattle.elf_load.specs.Start.{program_of, start_runs}
use Rattle.mach_types.specs.declared.address_space.TheConstants.{NAME_AT, START_SP}
use Rattle.page_map.specs.Map.{byte_in, held_in, may_write}
use Rattle.page_map.proofs.Starts.{booted, laid-byte, laid-held, stack-writable}
use Rattle.page_map.proofs.map.PageMap.write_start.Goals as goal

pub returns-clause-started : goal.returns-clause-started
returns-clause-started c =
    let image = c.args.image.now in
    let pages = image.pages.items in
    let first = c.write_words.ensures in
    let second = c.write_words-2.ensures in
    let words = c.stack_words-words in
    record {
      permissions = λ n. second.permissions n ∙ first.permissions n ∙ (c.requires n).permission;
      bytes = λ a. booted (byte_in c.args.self.now a) (byte_in c.write_words.new.self a) (byte_in c.write_words-2.new.self a)
          (can_read (permission_of (start_runs pages) (a / 4096))) (program_of image) words.result a words.ensures
          (laid-byte 4 c.args.self.now pages a (c.requires (a / 4096))) (first.bytes a) (second.bytes a);
      held = λ a. booted (held_in c.args.self.now a) (held_in c.write_words.new.self a) (held_in c.write_words-2.new.self a)
          (is_some (permission_of (start_runs pages) (a / 4096))) (program_of image) words.result a words.ensures
          (laid-held c.args.self.now pages a (c.requires (a / 4096))) (first.held a) (second.held a);
      code = λ a. second.code a ∙ first.code a ∙ laid-byte 1 c.args.self.now pages a (c.requires (a / 4096));
    }

pub write_words-requires-clause-writable : goal.write_words-requires-clause-writable
write_words-requires-clause-writable c = stack-writable c.args.self.now c.args.image.now.pages.items START_SP c.requires (omega arith) (omega arith)

pub write_words-requires-2-clause-writable : goal.write_words-requires-2-clause-writable
write_words-requires-2-clause-writable c =
    ap may_write (c.write_words.ensures.permissions (NAME_AT / 4096))
    ∙ stack-writable c.args.self.now c.args.image.now.pages.items NAME_AT c.requires (omega arith) (omega arith)
