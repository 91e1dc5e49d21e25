use Rattle.std.proofs.Common.{◌≡◌, is_some, sym}
use Rattle.mach_types.proofs.Laws.{each_page-at}
use Rattle.page_map.specs.Map.{permission_in}
use Rattle.page_map.proofs.Runs.{code-free, is-mapped, zeroed-code, zeroed-held, zeroed-permissions}
use Rattle.page_map.proofs.map.PageMap.drop_bytes.Goals as goal

pub zero_run-requires-clause-mapped : goal.zero_run-requires-clause-mapped
zero_run-requires-clause-mapped c n from to =
    is-mapped c.args.self.now n (each_page-at (λ k. is_some (permission_in c.args.self.now k)) c.args.first c.args.count c.requires.mapped n from to)

pub returns-clause-permissions : goal.returns-clause-permissions
returns-clause-permissions c = zeroed-permissions c.args.self.now c.zero_run.new.self c.args.first c.args.count c.zero_run.ensures.pages

pub returns-clause-held : goal.returns-clause-held
returns-clause-held c = zeroed-held c.args.self.now c.zero_run.new.self c.args.first c.args.count c.zero_run.ensures.pages

pub returns-clause-code : goal.returns-clause-code
returns-clause-code c =
    zeroed-code c.args.self.now c.zero_run.new.self c.args.first c.args.count c.zero_run.ensures.pages
    (code-free (permission_in c.args.self.now) c.args.first c.args.count (sym c.requires.code))
