-- What is left of a sendir behind each of its first three fields.
use Prim.Native.Nat.{ℕ, ◌%◌}
use mathlib.Core.List.{List}
use mathlib.Core.Bool.{cond}
use lib.Dec.{eqb}
use Rattle.std.proofs.Common.{Result, Ok, Err}
use Rattle.text.specs.Field.{after_comma, field_within}
use Rattle.words.specs.declared.Fields.{Fields}
use Rattle.command.specs.Fields.{capped, fields_of, need}

-- the offset, behind an id, a frequency and a repeat
abbrev pub offset_at : List ℕ → ℕ → ℕ → ℕ → ℕ → Result (Fields × ℕ) ℕ
offset_at s id freq repeat at =
    need (field_within 1 383 s at) 7 λ offset d.
    cond (eqb (offset % 2) 0) (Err 7) (Ok (fields_of id freq (capped repeat) offset, after_comma s d))

abbrev pub repeat_at : List ℕ → ℕ → ℕ → ℕ → Result (Fields × ℕ) ℕ
repeat_at s id freq at = need (field_within 1 999999 s at) 6 λ repeat c. offset_at s id freq repeat (after_comma s c)

abbrev pub freq_at : List ℕ → ℕ → ℕ → Result (Fields × ℕ) ℕ
freq_at s id at = need (field_within 15000 500000 s at) 5 λ freq b. repeat_at s id freq (after_comma s b)
