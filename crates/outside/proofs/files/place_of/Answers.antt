use Rattle.std.proofs.Common.{◌≡◌}
use Rattle.outside.specs.Files.{is_named, place_of}
use Rattle.outside.proofs.Places.{unwrap_or-position, position_or_len-le-length, name_at-place_of, bytes_at-place_of}
use Rattle.outside.proofs.files.place_of.Goals as goal

pub returns : goal.returns
returns c =
    let files = c.args.files.now in
    let name = c.args.name.now in
    let place : c.unwrap_or.result ≡ place_of files name = rw (c.unwrap_or.ensures, c.find_place.ensures) (unwrap_or-position (is_named name) files) in
    record {
      place = place;
      within = rw place (position_or_len-le-length (is_named name) files);
      named = rw place (name_at-place_of files name);
      bytes = rw place (bytes_at-place_of files name);
    }
