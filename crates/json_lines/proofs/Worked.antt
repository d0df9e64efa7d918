-- Rows worked by hand, which compute.
use Rattle.std.proofs.Common.{◌≡◌, [], ◌∷◌, Some, None, refl}
use Rattle.std.specs.Prelude.{codes}
use Rattle.std.specs.Str.{is_utf8, chars}
use lib.Utf8.{encode}
use Rattle.hex.specs.Hex.{encode_with}
use Rattle.json_lines.specs.Json.{value_of}
use Rattle.json_lines.specs.Reading.{read_value}

no_bytes : value_of [] ≡ codes "\"\""
unfolding is_utf8 chars encode
no_bytes = refl

letters : value_of (codes "car 1") ≡ codes "\"car 1\""
unfolding is_utf8 chars encode
letters = refl

quotation_mark : value_of (codes "a\"b") ≡ codes "\"a\\\"b\""
unfolding is_utf8 chars encode
quotation_mark = refl

backslash : value_of (codes "a\\") ≡ codes "\"a\\\\\""
unfolding is_utf8 chars encode
backslash = refl

controls : value_of (0 ∷ 10 ∷ 31 ∷ []) ≡ codes "\"\\u0000\\u000a\\u001f\""
unfolding is_utf8 chars encode encode_with
controls = refl

-- a space and 0x7f stand for themselves
no_controls : value_of (32 ∷ 127 ∷ []) ≡ 34 ∷ 32 ∷ 127 ∷ 34 ∷ []
unfolding is_utf8 chars encode
no_controls = refl

-- two bytes of one character
beyond_ascii : value_of (0xc3 ∷ 0xa9 ∷ []) ≡ 34 ∷ 0xc3 ∷ 0xa9 ∷ 34 ∷ []
unfolding is_utf8 chars encode
beyond_ascii = refl

-- the first of them alone
no_text : value_of (0xc3 ∷ 34 ∷ []) ≡ codes "{\"hex\":\"c322\"}"
unfolding is_utf8 chars encode encode_with
no_text = refl

-- what the object of digits spells is a string of its own
like_an_object : value_of (codes "{\"hex\":\"\"}") ≡ codes "\"{\\\"hex\\\":\\\"\\\"}\""
unfolding is_utf8 chars encode
like_an_object = refl

read_a_string : read_value (codes "\"a\\u0041\\\\\\\"\",\"b\"") ≡ Some (codes "aA\\\"", codes ",\"b\"")
read_a_string = refl

read_an_object : read_value (codes "{\"hex\":\"0aFf\"},") ≡ Some (10 ∷ 255 ∷ [], codes ",")
read_an_object = refl

-- a line feed isn't read inside a string, nor an end that isn't there, nor a character beyond ASCII by its digits
bare_line_feed : read_value (34 ∷ 10 ∷ 34 ∷ []) ≡ None
bare_line_feed = refl

no_end : read_value (codes "\"a\\\"") ≡ None
no_end = refl

digits_beyond : read_value (codes "\"\\u00e9\"") ≡ None
digits_beyond = refl

other_second_digit : read_value (codes "\"\\u0141\"") ≡ None
other_second_digit = refl

no_brace : read_value (codes "{\"hex\":\"00\",") ≡ None
no_brace = refl

odd_digits : read_value (codes "{\"hex\":\"0\"}") ≡ None
odd_digits = refl
