use Rattle.std.proofs.Common.{◌≡◌, refl, true, codes}
use Rattle.std.proofs.lemmas.Str.{is_utf8-from_IsUtf8}
use Rattle.std.specs.Fmt.{digits}
use Rattle.std.specs.Str.{is_utf8}
use lib.Utf8.{encode}
use Rattle.gp_beside.proofs.laws.places_examples.Goals as goal

text_with_dots : is_utf8 (codes "a..b/c.c") ≡ true
unfolding encode
text_with_dots = is_utf8-from_IsUtf8 (codes "a..b/c.c") (codes "a..b/c.c", (refl, refl))

pub returns : goal.returns
unfolding digits
returns c = record {
  two = refl;
  absent = refl;
  nothing = refl;
  no_head = refl;
  late_file = refl;
  file_zero = refl;
  file_three = refl;
  no_decimal = refl;
  each = refl;
  number_too_many = refl;
  number_too_few = refl;
  number_lacks_at_end = refl;
  mark_too_many = refl;
  mark_too_few = refl;
  no_place = refl;
  no_number = refl;
  tab = refl;
  long = refl;
  placed = refl;
  unknown_source = refl;
  second_line = refl;
  no_line = refl;
  behind_last = refl;
  from_root = refl;
  above = refl;
  spelled = refl;
  dots = text_with_dots;
  seen = refl;
  no_word = refl;
  toolong = refl;
  notascii = refl;
  longline = refl;
  nolastnewline = refl;
  badline = refl;
  unknownfile = refl;
  unknownplace = refl;
  eventcount = refl;
  toomany = refl;
  no_files = refl;
  left_out = refl;
}
