-- Document 01: "id 0 to 65535; freq 15000 to 500000 Hz; repeat 1 to 999999, and above 20 is taken as 20 (002); offset odd,
-- 1 to 383." 004, 005, 006, 007: "id, freq, repeat, offset missing, not a number or out of range".
use Rattle.std.specs.Prelude.{ℕ, ◌%◌, ◌≤◌, ◌≡◌, List, Option, Some, None, Result, Ok, Err, cond, ltb, eqb}
use Rattle.text.specs.Field.{after_comma, field_within}
use Rattle.code.specs.Limits.{most_id, least_freq, most_freq, most_repeat, most_offset}
use Rattle.words.specs.declared.Fields.{Fields}

unfoldable pub capped : ℕ → ℕ
capped repeat = cond (ltb 20 repeat) 20 repeat

abbrev pub fields_of : ℕ → ℕ → ℕ → ℕ → Fields
fields_of id freq repeat offset = record { id = id; freq = freq; repeat = repeat; offset = offset }

-- a field that must be good: its fault's number, or what follows from its value and its end
abbrev pub need : Option (ℕ × ℕ) → ℕ → (ℕ → ℕ → Result (Fields × ℕ) ℕ) → Result (Fields × ℕ) ℕ
need None number go = Err number
need (Some (value, end)) number go = go value end

-- what begins at a place behind the address; the code begins behind the offset's comma
unfoldable pub fields_at : List ℕ → ℕ → Result (Fields × ℕ) ℕ
fields_at s at =
    need (field_within 0 most_id s at) 4 λ id a.
    need (field_within least_freq most_freq s (after_comma s a)) 5 λ freq b.
    need (field_within 1 most_repeat s (after_comma s b)) 6 λ repeat c.
    need (field_within 1 most_offset s (after_comma s c)) 7 λ offset d.
    cond (eqb (offset % 2) 0) (Err 7) (Ok (fields_of id freq (capped repeat) offset, after_comma s d))

-- the limits of the fields, the repeat as it is taken
pub record FieldsWithin (f : Fields) : Type 0 where
  pub id_most : f.id ≤ 65535
  pub freq_least : 15000 ≤ f.freq
  pub freq_most : f.freq ≤ 500000
  pub repeat_least : 1 ≤ f.repeat
  pub repeat_most : f.repeat ≤ 20
  pub offset_least : 1 ≤ f.offset
  pub offset_most : f.offset ≤ 383
  pub offset_odd : f.offset % 2 ≡ 1

-- fields that are read are within them
abbrev pub ReadWithin : Result (Fields × ℕ) ℕ → Type 0
ReadWithin (Err number) = Unit
ReadWithin (Ok (f, at)) = FieldsWithin f
