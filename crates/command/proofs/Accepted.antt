-- What is accepted is within document 01's limits.
use Prim.Native.Nat.{ℕ, ◌%◌, ◌≤◌}
use mathlib.Core.List.{List}
use native.Mathlib.Omega.{arith}
use borrow.Author.Tests.{eqb-false}
use lib.Dec.{eqb}
use Rattle.std.proofs.Common.{Option, Result, Err}
use Rattle.laws.proofs.Choice.{cond_case}
use Rattle.text.specs.Field.{after_comma, field_within}
use Rattle.text.proofs.Limits.{field_case}
use Rattle.words.specs.declared.Fields.{Fields}
use Rattle.command.specs.Fields.{need, fields_at, ReadWithin}
use Rattle.command.proofs.Capping.{capped_high, capped_low}

-- a field that must be good is within its limits in what follows
need_within : (least most number : ℕ) (s : List ℕ) (at : ℕ) (go : ℕ → ℕ → Result (Fields × ℕ) ℕ)
    → ((v end : ℕ) → least ≤ v → v ≤ most → ReadWithin (go v end)) → ReadWithin (need (field_within least most s at) number go)
need_within least most number s at go good = field_case (λ (f : Option (ℕ × ℕ)). ReadWithin (need f number go)) least most s at tt good

-- the fields of every sendir keep to the limits
pub fields_within : (s : List ℕ) (at : ℕ) → ReadWithin (fields_at s at)
unfolding fields_at
fields_within s at =
    need_within 0 65535 4 s at _ λ id a _ id_most.
    need_within 15000 500000 5 s (after_comma s a) _ λ freq b freq_least freq_most.
    need_within 1 999999 6 s (after_comma s b) _ λ repeat c repeat_least _.
    need_within 1 383 7 s (after_comma s c) _ λ offset d offset_least offset_most.
    cond_case ReadWithin (eqb (offset % 2) 0) (Err 7) _ (λ _. tt) λ e.
    record {
      id_most = id_most;
      freq_least = freq_least;
      freq_most = freq_most;
      repeat_least = capped_low repeat repeat_least;
      repeat_most = capped_high repeat;
      offset_least = offset_least;
      offset_most = offset_most;
      offset_odd = omega (arith, eqb-false (offset % 2) 0 e);
    }
