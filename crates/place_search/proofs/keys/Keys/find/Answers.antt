use Rattle.std.proofs.Common.{ℕ, bytes_eq, sym, ap, ◌∙◌, Vec, Global}
use Rattle.std.specs.Map.{lookup}
use Rattle.place_search.proofs.Lists.{lookup_map}
use Rattle.place_search.proofs.keys.Keys.find.Goals as goal

pub returns : goal.returns
returns c =
    c.copied.ensures ∙ c.get.ensures.value ∙ sym (lookup_map (λ (k : Vec ℕ Global). k.items) (bytes_eq c.args.key.now) c.self.inside.known.entries)
    ∙ ap (lookup (bytes_eq c.args.key.now)) c.self.view_is
